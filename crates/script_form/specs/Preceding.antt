-- What the reader keeps beside the lines so far.
use Rattle.std.specs.Prelude.{◌≡◌, ℕ, ◌+◌, ◌<◌, ◌||◌, Bool, true, false, List, ◌∷◌, ◌++◌, length, slice_index_or, slice_set, count_by, fold}
use Rattle.std.specs.BTreeSet.{contains, insert_key}
use Rattle.std.specs.List.{list_any}
use Rattle.std.specs.Ordering.{nat_cmp}
use Rattle.portal_base.specs.Names.{is_app_name, is_same}
use Rattle.portal_model.specs.Opening.{each, names_kept}
use Rattle.record_keeper.specs.Naming.{also_named}
use Rattle.script_form.specs.Opening.{document_in, applications_of}
use Rattle.script_form.specs.Order.{is_open, opens, closes, is_doc, keeps, stores, clashes}
use Rattle.script_form.specs.Paths.{clash}
use Rattle.script_form.specs.declared.preceding.Number.{Number}
use Rattle.script_form.specs.declared.preceding.Number.TheVariants.{Unopened, Open, Closed}
use Rattle.script_form.specs.declared.preceding.Preceding.{Preceding}
use Rattle.script_lines.specs.declared.script.ScriptLine.{ScriptLine}
use Rattle.script_lines.specs.declared.script.ScriptLine.TheVariants as line

-- whether a line opens a number of which this became
abbrev pub is_opened : Number → Bool
is_opened Unopened = false
is_opened Open = true
is_opened Closed = true

-- whether a line closes it
abbrev pub is_closed : Number → Bool
is_closed Unopened = false
is_closed Open = false
is_closed Closed = true

-- a table and an identifier in one text, with a space between them
abbrev pub key_text : List ℕ → List ℕ → List ℕ
key_text table id = table ++ (32 ∷ id)

-- it says of the lines what it is kept for: whether one opens a connection, which numbers they open
-- and which they close, how many documents they keep and of which numbers, of which tables and
-- identifiers they keep entries, which paths can't be a further file's, and which applications
-- their documents give rights to
pub record Tracks (p : Preceding) : Type 0 where
  pub starts : p.begun ≡ list_any is_open p.lines
  pub seats : length p.numbers.items ≡ 65536
  pub opened : (n : ℕ) → n < 65536
      → is_opened (slice_index_or p.numbers.items n Unopened) ≡ list_any (opens n) p.lines
  pub closed : (n : ℕ) → n < 65536
      → is_closed (slice_index_or p.numbers.items n Unopened) ≡ list_any (closes n) p.lines
  pub count : p.documents ≡ count_by is_doc p.lines
  pub kept : (n : ℕ) → contains nat_cmp p.ids n ≡ list_any (keeps n) p.lines
  pub stored : (table id : List ℕ) → is_app_name table ≡ true → is_app_name id ≡ true
      → list_any (is_same (key_text table id)) p.keys ≡ list_any (stores table id) p.lines
  pub clear : (path : List ℕ) → list_any (clash path) p.paths ≡ list_any (clashes path) p.lines
  pub named : p.named ≡ applications_of p.lines

-- a set with one more in it
abbrev pub HasMore : List ℕ → List (List ℕ) → List (List ℕ) → Type 0
HasMore one old new = (test : List ℕ → Bool) → list_any test new ≡ (test one || list_any test old)

-- what is kept beside the lines is that with this line, which isn't put behind them yet
abbrev pub Notes : Preceding → ScriptLine → Preceding → Type 0
Notes p (line.File path content) q = (q ≡ record p { paths = q.paths })
    × HasMore path p.paths q.paths
Notes p (line.Doc id reusable strict path grants) q =
    (q ≡ record p { documents = p.documents + 1; ids = q.ids; named = q.named })
    × (q.ids.keys ≡ insert_key nat_cmp p.ids.keys id.number)
    × (q.named ≡ fold also_named p.named
    (each names_kept (document_in (line.Doc id reusable strict path grants))))
Notes p (line.Entry entry) q = (q ≡ record p { keys = q.keys })
    × HasMore (key_text entry.table entry.id) p.keys q.keys
Notes p (line.Open seat kind who) q = (q ≡ record p { begun = true; numbers = q.numbers })
    × (q.numbers.items ≡ slice_set p.numbers.items seat Open)
Notes p (line.Close seat) q = (q ≡ record p { numbers = q.numbers })
    × (q.numbers.items ≡ slice_set p.numbers.items seat Closed)
Notes p other q = q ≡ p
