-- Which lines may stand behind which, and what is read of a text.
use Rattle.std.specs.Prelude.{◌≡◌, ◌≢◌, ℕ, ◌+◌, ◌≤◌, ◌==◌, Bool, true, false, not, ◌&&◌, List, [], ◌∷◌, ◌++◌, length, nat_lt, count_by}
use Rattle.std.specs.List.{list_any}
use Rattle.portal_model.specs.RecordChanges.{is_of_key}
use Rattle.portal_model.specs.Valid.{applications_limit}
use Rattle.script_lines.specs.Lines.{line_text, text_of, KeepsRules}
use Rattle.script_form.specs.Opening.{applications_of}
use Rattle.script_form.specs.Paths.{clash}
use Rattle.script_lines.specs.declared.script.ScriptLine.TheVariants.{File, Doc, Entry, Fail, Word, Now, Open, Data, Close}
use Rattle.script_lines.specs.declared.script.ScriptLine.{ScriptLine}

abbrev pub is_open : ScriptLine → Bool
is_open (Open seat kind who) = true
is_open line = false

abbrev pub opens : ℕ → ScriptLine → Bool
opens n (Open seat kind who) = seat == n
opens n line = false

abbrev pub closes : ℕ → ScriptLine → Bool
closes n (Close seat) = seat == n
closes n line = false

abbrev pub is_doc : ScriptLine → Bool
is_doc (Doc id reusable strict path grants) = true
is_doc line = false

-- the line keeps the document of that number
abbrev pub keeps : ℕ → ScriptLine → Bool
keeps n (Doc id reusable strict path grants) = id.number == n
keeps n line = false

-- the line keeps the entry of that table and that identifier
abbrev pub stores : List ℕ → List ℕ → ScriptLine → Bool
stores table id (Entry entry) = is_of_key table id entry
stores table id line = false

-- the line is of a file that can't be beside a file of that path
abbrev pub clashes : List ℕ → ScriptLine → Bool
clashes path (File other content) = clash path other
clashes path line = false

-- how many documents a script may keep
abbrev pub document_limit : ℕ
document_limit = 65536

-- The line goes with those before it: files, documents, entries and calls that fail come before
-- each open; no path clashes with that of another file; no number is that of another document, no
-- table and identifier are those of another entry, and no connection's number is opened twice; data
-- and a close come on what is open, which is what was opened and not closed. Words and times may
-- stand anywhere.
abbrev pub goes_with : List ScriptLine → ScriptLine → Bool
goes_with earlier (File path content) = not (list_any is_open earlier)
    && not (list_any (clashes path) earlier)
goes_with earlier (Doc id reusable strict path grants) = not (list_any is_open earlier)
    && (not (list_any (keeps id.number) earlier) && nat_lt (count_by is_doc earlier) document_limit)
goes_with earlier (Entry entry) = not (list_any is_open earlier)
    && not (list_any (stores entry.table entry.id) earlier)
goes_with earlier (Fail device call) = not (list_any is_open earlier)
goes_with earlier (Word word) = true
goes_with earlier (Now moment) = true
goes_with earlier (Open seat kind who) = not (list_any (opens seat) earlier)
goes_with earlier (Data seat bytes) = list_any (opens seat) earlier
    && not (list_any (closes seat) earlier)
goes_with earlier (Close seat) = list_any (opens seat) earlier
    && not (list_any (closes seat) earlier)

-- the line may stand behind these lines
pub record MayStand (earlier : List ScriptLine) (line : ScriptLine) : Type 0 where
  pub itself : KeepsRules line
  pub order : goes_with earlier line ≡ true
  pub applications : length (applications_of (earlier ++ line ∷ [])) ≤ applications_limit

-- each of the lines may stand behind those before it, and `earlier` before them all
abbrev pub StandBehind : List ScriptLine → List ScriptLine → Type 0
StandBehind earlier [] = Unit {0}
StandBehind earlier (line ∷ lines) = MayStand earlier line
    × StandBehind (earlier ++ line ∷ []) lines

-- each line may stand behind those before it
abbrev pub IsScript : List ScriptLine → Type 0
IsScript lines = StandBehind [] lines

-- no front of the text is a line that may stand behind these
abbrev pub NoneStands : List ScriptLine → List ℕ → Type 0
NoneStands lines text = (line : ScriptLine) (more : List ℕ) → text ≡ line_text line ++ (10 ∷ more)
    → MayStand lines line → ⊥

-- the text is that of these lines, each of which may stand where it does
pub record IsRead (text : List ℕ) (lines : List ScriptLine) : Type 0 where
  pub good : IsScript lines
  pub whole : text ≡ text_of lines

-- The line of this number, counted from 1, is the first that is no line of a script: those ahead of
-- it are a script, something stands behind them, and it doesn't begin with a line that may stand
-- there.
pub record IsFault (text : List ℕ) (number : ℕ) : Type 0 where
  pub lines : List ScriptLine
  pub rest : List ℕ
  pub good : IsScript lines
  pub parts : text ≡ text_of lines ++ rest
  pub some : rest ≢ []
  pub none : NoneStands lines rest
  pub number_is : number ≡ length lines + 1

-- the longest text that is read, in bytes
abbrev pub script_limit : ℕ
script_limit = 67108864
