-- What is kept beside the lines says of them what it is kept for, also behind one more line.
use Rattle.std.proofs.Common.{◌≡◌, ◌≢◌, ℕ, ◌+◌, ◌<◌, ◌≤◌, Bool, true, false, not, ◌&&◌, ◌||◌, List, [], ◌∷◌, ◌++◌, length, cond, refl, sym, ap, ◌∙◌, arith, subst}
use Rattle.std.specs.Prelude.{◌==◌, slice_index_or, slice_set, count_by, fold}
use Rattle.std.specs.BTreeMap.{is_at}
use Rattle.std.specs.BTreeSet.{contains, insert_key}
use Rattle.std.specs.List.{list_any}
use Rattle.std.specs.Ordering.{nat_cmp}
use Rattle.std.specs.Cmp.{unsigned_ties}
use Rattle.std.proofs.lemmas.Bool.{and_parts}
use Rattle.std.proofs.lemmas.Bool.Decides.{nat_tests}
use Rattle.std.proofs.lemmas.List.{get_or-set_same, get_or-set_other, length-set}
use Rattle.std.proofs.lemmas.List.Folds.{list_any-append}
use Rattle.std.proofs.lemmas.List.Sums.{sum_by-append}
use Rattle.std.specs.Cmp.Lexicographic.{bytes_decides}
use Rattle.portal_base.specs.Names.{is_same, is_app_name}
use Rattle.portal_model.specs.Opening.{each, first_named, names_kept}
use Rattle.portal_model.specs.declared.opening.OpeningDocument.{OpeningDocument}
use Rattle.portal_model.specs.declared.records.EntryRecord.{EntryRecord}
use Rattle.record_keeper.specs.Naming.{also_named}
use Rattle.record_keeper.proofs.NamingFacts.{named_behind}
use Rattle.script_lines.specs.Lines.{KeepsRules, last_seat}
use Rattle.script_form.specs.Opening.{document_in, applications_of}
use Rattle.script_form.specs.Order.{is_open, opens, closes, is_doc, keeps, stores, clashes, goes_with}
use Rattle.script_form.specs.Paths.{clash}
use Rattle.script_form.specs.Preceding.{Tracks, Notes, is_opened, is_closed, key_text}
use Rattle.script_form.specs.declared.preceding.Number.{Number}
use Rattle.script_form.specs.declared.preceding.Number.TheVariants as number
use Rattle.script_form.specs.declared.preceding.Preceding.{Preceding}
use Rattle.script_lines.specs.declared.script.ScriptLine.{ScriptLine}
use Rattle.script_lines.specs.declared.script.ScriptLine.TheVariants.{File, Doc, Entry, Open, Close}
use Rattle.script_lines.proofs.LineFacts.{name_word}
use Rattle.script_form.proofs.ScriptFacts.{append_nil, names_of, names_push}
use Rattle.script_form.proofs.SetFacts.{any_inserted}
use Rattle.script_lines.proofs.TextFacts.{cut_same, no_true}

or_none : (b : Bool) → (b || (false || false)) ≡ b
or_none true = refl
or_none false = refl

turned : (a b : Bool) → (a || b) ≡ (b || (a || false))
turned true true = refl
turned true false = refl
turned false true = refl
turned false false = refl

-- a line of which the test says none, and one of which it says what was found
still : (test : ScriptLine → Bool) (lines : List ScriptLine) (line : ScriptLine) (b : Bool) → test line ≡ false → b ≡ list_any test lines → b ≡ list_any test (lines ++ (line ∷ []))
still test lines line b none same = same ∙ sym (list_any-append test lines (line ∷ []) ∙ ap (λ (x : Bool). list_any test lines || (x || false)) none ∙ or_none (list_any test lines))

more : (test : ScriptLine → Bool) (lines : List ScriptLine) (line : ScriptLine) (b found : Bool) → test line ≡ found → b ≡ (found || list_any test lines) → b ≡ list_any test (lines ++ (line ∷ []))
more test lines line b found is same = same ∙ turned found (list_any test lines) ∙ ap (λ (x : Bool). list_any test lines || (x || false)) (sym is) ∙ sym (list_any-append test lines (line ∷ []))

counted : (lines : List ScriptLine) (line : ScriptLine) (n d : ℕ) → n ≡ count_by is_doc lines → count_by is_doc (line ∷ []) ≡ d → n + d ≡ count_by is_doc (lines ++ (line ∷ []))
counted lines line n d same one =
    let e = sum_by-append (λ (l : ScriptLine). cond (is_doc l) 1 0) lines (line ∷ []) in
    omega arith

-- the applications that the documents of one line more give rights to
named_more : (lines : List ScriptLine) (line : ScriptLine) (named new : List (List ℕ)) → named ≡ applications_of lines
    → new ≡ fold also_named named (each names_kept (document_in line)) → new ≡ applications_of (lines ++ (line ∷ []))
named_more lines line named new before is =
    is ∙ ap (λ (ns : List (List ℕ)). fold also_named ns (each names_kept (document_in line))) before
    ∙ named_behind (names_of lines) (each names_kept (document_in line)) ∙ ap first_named (sym (names_push lines line))

none_named : (lines : List ScriptLine) (line : ScriptLine) → document_in line ≡ [] → applications_of lines ≡ applications_of (lines ++ (line ∷ []))
none_named lines line none =
    ap first_named (sym (names_push lines line ∙ ap (λ (ds : List OpeningDocument). names_of lines ++ each names_kept ds) none ∙ append_nil (names_of lines)))

-- a line that says nothing of those behind it
module _ (p q : Preceding) (line : ScriptLine) (t : Tracks p) (lines_are : q.lines ≡ p.lines ++ (line ∷ [])) where
  starts_still : is_open line ≡ false → q.begun ≡ p.begun → q.begun ≡ list_any is_open q.lines
  starts_still none same = rw lines_are (still is_open p.lines line q.begun none (same ∙ t.starts))

  seats_still : q.numbers.items ≡ p.numbers.items → length q.numbers.items ≡ 65536
  seats_still same = ap length same ∙ t.seats

  opened_still : ((n : ℕ) → opens n line ≡ false) → q.numbers.items ≡ p.numbers.items → (n : ℕ) → n < 65536 → is_opened (slice_index_or q.numbers.items n number.Unopened) ≡ list_any (opens n) q.lines
  opened_still none same n inside = rw lines_are (still (opens n) p.lines line _ (none n) (ap (λ (ns : List Number). is_opened (slice_index_or ns n number.Unopened)) same ∙ t.opened n inside))

  closed_still : ((n : ℕ) → closes n line ≡ false) → q.numbers.items ≡ p.numbers.items → (n : ℕ) → n < 65536 → is_closed (slice_index_or q.numbers.items n number.Unopened) ≡ list_any (closes n) q.lines
  closed_still none same n inside = rw lines_are (still (closes n) p.lines line _ (none n) (ap (λ (ns : List Number). is_closed (slice_index_or ns n number.Unopened)) same ∙ t.closed n inside))

  count_still : count_by is_doc (line ∷ []) ≡ 0 → q.documents ≡ p.documents → q.documents ≡ count_by is_doc q.lines
  count_still none same = let e = counted p.lines line p.documents 0 t.count none in rw lines_are (same ∙ sum e)
    where
      sum : p.documents + 0 ≡ count_by is_doc (p.lines ++ (line ∷ [])) → p.documents ≡ count_by is_doc (p.lines ++ (line ∷ []))
      sum e = omega arith

  kept_still : ((n : ℕ) → keeps n line ≡ false) → q.ids.keys ≡ p.ids.keys → (n : ℕ) → contains nat_cmp q.ids n ≡ list_any (keeps n) q.lines
  kept_still none same n = rw lines_are (still (keeps n) p.lines line _ (none n) (ap (list_any (is_at (nat_cmp n))) same ∙ t.kept n))

  stored_still : ((table id : List ℕ) → stores table id line ≡ false) → q.keys ≡ p.keys → (table id : List ℕ) → is_app_name table ≡ true → is_app_name id ≡ true
      → list_any (is_same (key_text table id)) q.keys ≡ list_any (stores table id) q.lines
  stored_still none same table id ht hi = rw lines_are (still (stores table id) p.lines line _ (none table id) (ap (list_any (is_same (key_text table id))) same ∙ t.stored table id ht hi))

  clear_still : ((path : List ℕ) → clashes path line ≡ false) → q.paths ≡ p.paths → (path : List ℕ) → list_any (clash path) q.paths ≡ list_any (clashes path) q.lines
  clear_still none same path = rw lines_are (still (clashes path) p.lines line _ (none path) (ap (list_any (clash path)) same ∙ t.clear path))

  named_still : document_in line ≡ [] → q.named ≡ p.named → q.named ≡ applications_of q.lines
  named_still none same = rw lines_are (same ∙ t.named ∙ none_named p.lines line none)

-- a table and an identifier in one text
key_same : (t i u j : List ℕ) → is_app_name t ≡ true → is_app_name u ≡ true → (is_same u t && is_same j i) ≡ is_same (key_text t i) (key_text u j)
key_same t i u j ht hu = by (is_same (key_text t i) (key_text u j)) refl
  where
    both : (a b : Bool) → a ≡ true → b ≡ true → (a && b) ≡ true
    both a b ha hb = rw (ha, hb) refl

    by : (b : Bool) → is_same (key_text t i) (key_text u j) ≡ b → (is_same u t && is_same j i) ≡ b
    by true e =
        let halves = cut_same 32 t i u j (name_word t ht) (name_word u hu) ((bytes_decides (key_text t i) (key_text u j)).0 e) in
        both (is_same u t) (is_same j i) ((bytes_decides u t).1 (sym halves.0)) ((bytes_decides j i).1 (sym halves.1))
    by false e = no_true (is_same u t && is_same j i) (λ h.
        let parts = and_parts (is_same u t) (is_same j i) h in
        let tables : u ≡ t = (bytes_decides u t).0 parts.0 in
        let ids : j ≡ i = (bytes_decides j i).0 parts.1 in
        let holds = (bytes_decides (key_text t i) (key_text u j)).1 (λ k. key_text (sym tables k) (sym ids k)) in
        cc (e, holds))

not_false : (b : Bool) → not b ≡ true → b ≡ false
not_false true h = cc h
not_false false h = refl

eqb_turned : (a b : ℕ) → (a == b) ≡ (b == a)
eqb_turned a b = grind (arith, nat_tests)

unclosed : (f : Number) → is_opened f ≡ false → is_closed f ≡ false
unclosed number.Unopened h = refl
unclosed number.Open h = cc h
unclosed number.Closed h = cc h

-- one number of the table changed
set_there : (items : List Number) (seat k : ℕ) (x : Number) → seat ≤ last_seat → length items ≡ 65536 → k ≡ seat → slice_index_or (slice_set items seat x) k number.Unopened ≡ x
set_there items seat k x low long same = rw same (get_or-set_same items seat x number.Unopened (omega arith))

set_other : (items : List Number) (seat k : ℕ) (x : Number) → (k ≢ seat) → slice_index_or (slice_set items seat x) k number.Unopened ≡ slice_index_or items k number.Unopened
set_other items seat k x other = get_or-set_other items seat k x number.Unopened other

abbrev placed : Preceding → List ScriptLine → Preceding
placed s lines = record s { lines = lines }

module _ (p s : Preceding) (t : Tracks p) where
  file_tracks : (path content : List ℕ) → Notes p (File path content) s → Tracks (placed s (p.lines ++ (File path content ∷ [])))
  file_tracks path content n =
      let line = File path content in
      let q = placed s (p.lines ++ (line ∷ [])) in
      record {
        starts = starts_still p q line t refl refl (ap (λ (x : Preceding). x.begun) n.0);
        seats = seats_still p q line t refl (ap (λ (x : Preceding). x.numbers.items) n.0);
        opened = opened_still p q line t refl (λ k. refl) (ap (λ (x : Preceding). x.numbers.items) n.0);
        closed = closed_still p q line t refl (λ k. refl) (ap (λ (x : Preceding). x.numbers.items) n.0);
        count = count_still p q line t refl refl (ap (λ (x : Preceding). x.documents) n.0);
        kept = kept_still p q line t refl (λ k. refl) (ap (λ (x : Preceding). x.ids.keys) n.0);
        stored = stored_still p q line t refl (λ a b. refl) (ap (λ (x : Preceding). x.keys) n.0);
        clear = λ other. more (clashes other) p.lines line _ (clash other path) refl (n.1 (clash other) ∙ ap (λ (b : Bool). clash other path || b) (t.clear other));
        named = named_still p q line t refl refl (ap (λ (x : Preceding). x.named) n.0);
      }

  doc_tracks : (line : ScriptLine) (number : ℕ) → is_open line ≡ false → ((k : ℕ) → opens k line ≡ false) → ((k : ℕ) → closes k line ≡ false) → count_by is_doc (line ∷ []) ≡ 1
      → ((k : ℕ) → keeps k line ≡ (number == k)) → ((a b : List ℕ) → stores a b line ≡ false) → ((other : List ℕ) → clashes other line ≡ false)
      → list_any (keeps number) p.lines ≡ false → s ≡ record p { documents = p.documents + 1; ids = s.ids; named = s.named } → s.ids.keys ≡ insert_key nat_cmp p.ids.keys number
      → s.named ≡ fold also_named p.named (each names_kept (document_in line))
      → Tracks (placed s (p.lines ++ (line ∷ [])))
  doc_tracks line number no_open no_opens no_closes one is no_stores no_clash new same ids named =
      let q = placed s (p.lines ++ (line ∷ [])) in
      record {
        starts = starts_still p q line t refl no_open (ap (λ (x : Preceding). x.begun) same);
        seats = seats_still p q line t refl (ap (λ (x : Preceding). x.numbers.items) same);
        opened = opened_still p q line t refl no_opens (ap (λ (x : Preceding). x.numbers.items) same);
        closed = closed_still p q line t refl no_closes (ap (λ (x : Preceding). x.numbers.items) same);
        count = ap (λ (x : Preceding). x.documents) same ∙ counted p.lines line p.documents 1 t.count one;
        kept = λ k. more (keeps k) p.lines line _ (is_at (nat_cmp k) number) (is k ∙ eqb_turned number k ∙ unsigned_ties k number)
            (ap (list_any (is_at (nat_cmp k))) ids ∙ any_inserted nat_cmp number (is_at (nat_cmp k)) p.ids.keys (t.kept number ∙ new)
            ∙ ap (λ (b : Bool). is_at (nat_cmp k) number || b) (t.kept k));
        stored = stored_still p q line t refl no_stores (ap (λ (x : Preceding). x.keys) same);
        clear = clear_still p q line t refl no_clash (ap (λ (x : Preceding). x.paths) same);
        named = named_more p.lines line p.named _ t.named named;
      }

  entry_tracks : (entry : EntryRecord) → is_app_name entry.table ≡ true → Notes p (Entry entry) s → Tracks (placed s (p.lines ++ (Entry entry ∷ [])))
  entry_tracks entry named n =
      let line = Entry entry in
      let q = placed s (p.lines ++ (line ∷ [])) in
      record {
        starts = starts_still p q line t refl refl (ap (λ (x : Preceding). x.begun) n.0);
        seats = seats_still p q line t refl (ap (λ (x : Preceding). x.numbers.items) n.0);
        opened = opened_still p q line t refl (λ k. refl) (ap (λ (x : Preceding). x.numbers.items) n.0);
        closed = closed_still p q line t refl (λ k. refl) (ap (λ (x : Preceding). x.numbers.items) n.0);
        count = count_still p q line t refl refl (ap (λ (x : Preceding). x.documents) n.0);
        kept = kept_still p q line t refl (λ k. refl) (ap (λ (x : Preceding). x.ids.keys) n.0);
        stored = λ a b ha hb. more (stores a b) p.lines line _ (is_same (key_text a b) (key_text entry.table entry.id)) (key_same a b entry.table entry.id ha named)
            (n.1 (is_same (key_text a b)) ∙ ap (λ (x : Bool). is_same (key_text a b) (key_text entry.table entry.id) || x) (t.stored a b ha hb));
        clear = clear_still p q line t refl (λ other. refl) (ap (λ (x : Preceding). x.paths) n.0);
        named = named_still p q line t refl refl (ap (λ (x : Preceding). x.named) n.0);
      }

  plain_tracks : (line : ScriptLine) → is_open line ≡ false → ((k : ℕ) → opens k line ≡ false) → ((k : ℕ) → closes k line ≡ false) → count_by is_doc (line ∷ []) ≡ 0
      → ((k : ℕ) → keeps k line ≡ false) → ((a b : List ℕ) → stores a b line ≡ false) → ((other : List ℕ) → clashes other line ≡ false) → document_in line ≡ [] → s ≡ p
      → Tracks (placed s (p.lines ++ (line ∷ [])))
  plain_tracks line no_open no_opens no_closes none no_keeps no_stores no_clash no_document same =
      let q = placed s (p.lines ++ (line ∷ [])) in
      record {
        starts = starts_still p q line t refl no_open (ap (λ (x : Preceding). x.begun) same);
        seats = seats_still p q line t refl (ap (λ (x : Preceding). x.numbers.items) same);
        opened = opened_still p q line t refl no_opens (ap (λ (x : Preceding). x.numbers.items) same);
        closed = closed_still p q line t refl no_closes (ap (λ (x : Preceding). x.numbers.items) same);
        count = count_still p q line t refl none (ap (λ (x : Preceding). x.documents) same);
        kept = kept_still p q line t refl no_keeps (ap (λ (x : Preceding). x.ids.keys) same);
        stored = stored_still p q line t refl no_stores (ap (λ (x : Preceding). x.keys) same);
        clear = clear_still p q line t refl no_clash (ap (λ (x : Preceding). x.paths) same);
        named = named_still p q line t refl no_document (ap (λ (x : Preceding). x.named) same);
      }

  -- what became of each number, where one is opened or closed
  number_more : (test : ScriptLine → Bool) (read : Number → Bool) (line : ScriptLine) (seat k : ℕ) (x : Number) (items : List Number) → seat ≤ last_seat
      → items ≡ slice_set p.numbers.items seat x → test line ≡ (seat == k) → read x ≡ true → read (slice_index_or p.numbers.items k number.Unopened) ≡ list_any test p.lines
      → read (slice_index_or items k number.Unopened) ≡ list_any test (p.lines ++ (line ∷ []))
  number_more test read line seat k x items low set is holds before = by (seat == k) refl
    where
      by : (b : Bool) → (seat == k) ≡ b → read (slice_index_or items k number.Unopened) ≡ list_any test (p.lines ++ (line ∷ []))
      by true e =
          let same : k ≡ seat = grind (arith, nat_tests) in
          more test p.lines line _ true (is ∙ e) (ap (λ (ns : List Number). read (slice_index_or ns k number.Unopened)) set ∙ ap read (set_there p.numbers.items seat k x low t.seats same) ∙ holds)
      by false e =
          let other : k ≢ seat = (λ same. absurd (grind (arith, nat_tests))) in
          more test p.lines line _ false (is ∙ e) (ap (λ (ns : List Number). read (slice_index_or ns k number.Unopened)) set ∙ ap read (set_other p.numbers.items seat k x other) ∙ before)

  number_still : (test : ScriptLine → Bool) (read : Number → Bool) (line : ScriptLine) (seat k : ℕ) (x : Number) (items : List Number) → seat ≤ last_seat
      → items ≡ slice_set p.numbers.items seat x → test line ≡ false → (k ≡ seat → read x ≡ list_any test p.lines) → read (slice_index_or p.numbers.items k number.Unopened) ≡ list_any test p.lines
      → read (slice_index_or items k number.Unopened) ≡ list_any test (p.lines ++ (line ∷ []))
  number_still test read line seat k x items low set none there before = by (seat == k) refl
    where
      by : (b : Bool) → (seat == k) ≡ b → read (slice_index_or items k number.Unopened) ≡ list_any test (p.lines ++ (line ∷ []))
      by true e =
          let same : k ≡ seat = grind (arith, nat_tests) in
          still test p.lines line _ none (ap (λ (ns : List Number). read (slice_index_or ns k number.Unopened)) set ∙ ap read (set_there p.numbers.items seat k x low t.seats same) ∙ there same)
      by false e =
          let other : k ≢ seat = (λ same. absurd (grind (arith, nat_tests))) in
          still test p.lines line _ none (ap (λ (ns : List Number). read (slice_index_or ns k number.Unopened)) set ∙ ap read (set_other p.numbers.items seat k x other) ∙ before)

  open_tracks : (line : ScriptLine) (seat : ℕ) → seat ≤ last_seat → is_open line ≡ true → ((k : ℕ) → opens k line ≡ (seat == k)) → ((k : ℕ) → closes k line ≡ false)
      → count_by is_doc (line ∷ []) ≡ 0 → ((k : ℕ) → keeps k line ≡ false) → ((a b : List ℕ) → stores a b line ≡ false) → ((other : List ℕ) → clashes other line ≡ false)
      → document_in line ≡ [] → list_any (opens seat) p.lines ≡ false → s ≡ record p { begun = true; numbers = s.numbers } → s.numbers.items ≡ slice_set p.numbers.items seat number.Open
      → Tracks (placed s (p.lines ++ (line ∷ [])))
  open_tracks line seat low is_one is no_closes none no_keeps no_stores no_clash no_document new same set =
      let q = placed s (p.lines ++ (line ∷ [])) in
      let unopened : is_opened (slice_index_or p.numbers.items seat number.Unopened) ≡ false = t.opened seat (omega arith) ∙ new in
      let uncl : list_any (closes seat) p.lines ≡ false = sym (t.closed seat (omega arith)) ∙ unclosed _ unopened in
      record {
        starts = ap (λ (x : Preceding). x.begun) same ∙ more is_open p.lines line true true is_one refl;
        seats = ap length set ∙ length-set p.numbers.items seat number.Open ∙ t.seats;
        opened = λ k inside. number_more (opens k) is_opened line seat k number.Open s.numbers.items low set (is k) refl (t.opened k inside);
        closed = λ k inside. number_still (closes k) is_closed line seat k number.Open s.numbers.items low set (no_closes k)
            (λ there. sym (ap (λ (n : ℕ). list_any (closes n) p.lines) there ∙ uncl)) (t.closed k inside);
        count = count_still p q line t refl none (ap (λ (x : Preceding). x.documents) same);
        kept = kept_still p q line t refl no_keeps (ap (λ (x : Preceding). x.ids.keys) same);
        stored = stored_still p q line t refl no_stores (ap (λ (x : Preceding). x.keys) same);
        clear = clear_still p q line t refl no_clash (ap (λ (x : Preceding). x.paths) same);
        named = named_still p q line t refl no_document (ap (λ (x : Preceding). x.named) same);
      }

  close_tracks : (seat : ℕ) → seat ≤ last_seat → list_any (opens seat) p.lines ≡ true → Notes p (Close seat) s → Tracks (placed s (p.lines ++ (Close seat ∷ [])))
  close_tracks seat low live n =
      let line = Close seat in
      let q = placed s (p.lines ++ (line ∷ [])) in
      record {
        starts = starts_still p q line t refl refl (ap (λ (x : Preceding). x.begun) n.0);
        seats = ap length n.1 ∙ length-set p.numbers.items seat number.Closed ∙ t.seats;
        opened = λ k inside. number_still (opens k) is_opened line seat k number.Closed s.numbers.items low n.1 refl
            (λ there. sym (ap (λ (m : ℕ). list_any (opens m) p.lines) there ∙ live)) (t.opened k inside);
        closed = λ k inside. number_more (closes k) is_closed line seat k number.Closed s.numbers.items low n.1 refl refl (t.closed k inside);
        count = count_still p q line t refl refl (ap (λ (x : Preceding). x.documents) n.0);
        kept = kept_still p q line t refl (λ k. refl) (ap (λ (x : Preceding). x.ids.keys) n.0);
        stored = stored_still p q line t refl (λ a b. refl) (ap (λ (x : Preceding). x.keys) n.0);
        clear = clear_still p q line t refl (λ other. refl) (ap (λ (x : Preceding). x.paths) n.0);
        named = named_still p q line t refl refl (ap (λ (x : Preceding). x.named) n.0);
      }

  noted : (line : ScriptLine) → KeepsRules line → goes_with p.lines line ≡ true → Notes p line s → Tracks (placed s (p.lines ++ (line ∷ [])))
  noted (File path content) k g n = file_tracks path content n
  noted (Doc id reusable strict path grants) k g n =
      let parts = and_parts (not (list_any is_open p.lines)) _ g in
      doc_tracks (Doc id reusable strict path grants) id.number refl (λ m. refl) (λ m. refl) refl (λ m. refl) (λ a b. refl) (λ o. refl)
      (not_false _ (and_parts (not (list_any (keeps id.number) p.lines)) _ parts.1).0) n.0 n.1 n.2
  noted (Entry entry) k g n = entry_tracks entry k.0.table n
  noted (Open seat kind who) k g n =
      open_tracks (Open seat kind who) seat k.1 refl (λ m. refl) (λ m. refl) refl (λ m. refl) (λ a b. refl) (λ o. refl) refl (not_false _ g) n.0 n.1
  noted (Close seat) k g n = close_tracks seat k.1 (and_parts (list_any (opens seat) p.lines) _ g).0 n
  noted line k g n = plain_tracks line refl (λ m. refl) (λ m. refl) refl (λ m. refl) (λ a b. refl) (λ o. refl) refl n

pub noted_more : (p s q : Preceding) (line : ScriptLine) → Tracks p → KeepsRules line → goes_with p.lines line ≡ true → Notes p line s → q ≡ record s { lines = p.lines ++ (line ∷ []) } → Tracks q
noted_more p s q line t k g n same = subst Tracks (sym same) (noted p s t line k g n)

pub lines_stay : (p s : Preceding) (line : ScriptLine) → Notes p line s → s.lines ≡ p.lines
lines_stay p s (File path content) n = ap (λ (x : Preceding). x.lines) n.0
lines_stay p s (Doc id reusable strict path grants) n = ap (λ (x : Preceding). x.lines) n.0
lines_stay p s (Entry entry) n = ap (λ (x : Preceding). x.lines) n.0
lines_stay p s (Open seat kind who) n = ap (λ (x : Preceding). x.lines) n.0
lines_stay p s (Close seat) n = ap (λ (x : Preceding). x.lines) n.0
lines_stay p s line n = ap (λ (x : Preceding). x.lines) n
