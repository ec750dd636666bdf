-- Facts on the texts of lines.
use Rattle.std.proofs.Common.{◌≡◌, ◌≢◌, ℕ, ◌+◌, ◌*◌, ◌||◌, ◌^◌, ◌<◌, ◌≤◌, Bool, true, false, List, [], ◌∷◌, ◌++◌, length, take, drop, refl, sym, ap, ◌∙◌, arith, get_or, Some, None}
use Rattle.std.specs.Prelude.{not, ◌==◌, codes, if◌then◌else◌, nat_eq}
use Rattle.std.specs.Char.{is_ascii_digit}
use Rattle.std.specs.Cmp.Lexicographic.{pointwise}
use Rattle.std.specs.Fmt.{decimal}
use Rattle.std.specs.List.{list_all}
use Rattle.std.proofs.lemmas.Bool.{and_parts}
use Rattle.portal_base.specs.DocIds.{doc_id_of}
use Rattle.portal_base.specs.Names.{is_app_name, is_host_path, is_doc_id, is_lower_hex, doc_text, hex_number}
use Rattle.portal_base.specs.declared.names.doc_id.DocId.{DocId}
use Rattle.portal_base.specs.declared.who.Kind.{Kind}
use Rattle.portal_base.specs.declared.who.Kind.TheVariants.{Bus, Mount}
use Rattle.portal_base.specs.declared.who.Who.{Who}
use Rattle.portal_base.specs.declared.who.Who.TheVariants.{Host, App}
use Rattle.portal_base.proofs.DocIdDigits.{digits_again, doc_text-digits}
use Rattle.portal_model.specs.declared.records.GrantRecord.{GrantRecord}
use Rattle.std.specs.List.{list_any}
use Rattle.portal_base.specs.Names.{is_same}
use Rattle.portal_model.specs.declared.records.EntryRecord.{EntryRecord}
use Rattle.script_lines.specs.Lines.{line_text, KeepsRules, hex_text, flags_text, grants_text, rows_text, device_text, is_script_path, is_plain, last_seat, kind_text, who_text, IsCaller}
use Rattle.script_lines.specs.declared.script.Device.{Device}
use Rattle.script_lines.specs.declared.script.Device.TheVariants.{Tree, Keeper}
use Rattle.script_lines.proofs.GrantFacts.{name_free}
use Rattle.script_lines.proofs.TextFacts.{eqb_yes}
use Rattle.std.specs.Prelude.{Result, Ok, Err, IfOk, MatchOption}
use Rattle.std.proofs.Common.{Option, subst}
use Rattle.record_keeper.specs.SoundRecords.{IsSoundEntry}
use Rattle.script_lines.specs.Lines.{HasNames}
use Rattle.script_lines.specs.Reading.{IsFree, CutsAt, IsSeat, ReadsLine}
use Rattle.script_lines.specs.declared.script.ScriptLine.{ScriptLine}
use Rattle.script_lines.specs.declared.script.ScriptLine.TheVariants.{File, Doc, Entry, Fail, Word, Now, Open, Data, Close}
use Rattle.script_lines.proofs.TextFacts.{free_from, not_free, cut_same}
use Rattle.script_lines.proofs.WordFacts.{all_digits, hex_free}

-- ---- words without spaces

pub path_free : (path : List ℕ) → is_script_path path ≡ true → IsFree 32 path
path_free path h =
    let parts = and_parts (is_host_path path) (list_all is_plain path) h in
    free_from is_plain 32 refl path parts.1

pub script_path : (path : List ℕ) → is_script_path path ≡ true → is_host_path path ≡ true
script_path path h = (and_parts (is_host_path path) (list_all is_plain path) h).0

pub seat_free : (n : ℕ) → n ≤ last_seat → IsFree 32 (decimal n)
seat_free n h = free_from is_ascii_digit 32 refl (decimal n) (all_digits n (omega arith))

pub flags_free : (reusable strict : Bool) → IsFree 32 (flags_text reusable strict)
flags_free true true = free_from (λ b. not (b == 32)) 32 refl (codes "rs") refl
flags_free true false = free_from (λ b. not (b == 32)) 32 refl (codes "r") refl
flags_free false true = free_from (λ b. not (b == 32)) 32 refl (codes "s") refl
flags_free false false = free_from (λ b. not (b == 32)) 32 refl (codes "-") refl

pub kind_free : (kind : Kind) → IsFree 32 (kind_text kind)
kind_free Bus = free_from (λ b. not (b == 32)) 32 refl (codes "bus") refl
kind_free Mount = free_from (λ b. not (b == 32)) 32 refl (codes "mount") refl

pub id_again : (n : ℕ) → n < 2 ^ 32 → doc_id_of (doc_text n) ≡ Some (record { number = n })
id_again n h = rw (← doc_text-digits n) (digits_again n h)

pub is_id : (t : List ℕ) (id : DocId) → doc_id_of t ≡ Some id → is_doc_id t ≡ true
unfolding doc_id_of
is_id t id h = by (is_doc_id t) (record { number = hex_number t }) h
  where
    by : (b : Bool) (found : DocId) → (if b then Some found else None) ≡ Some id → b ≡ true
    by true found e = refl
    by false found e = cc e

pub id_free : (n : ℕ) → n < 2 ^ 32 → IsFree 32 (doc_text n)
unfolding is_doc_id
id_free n h =
    let parts = and_parts (length (doc_text n) == 8) (list_all is_lower_hex (doc_text n)) (is_id (doc_text n) (record { number = n }) (id_again n h)) in
    free_from is_lower_hex 32 refl (doc_text n) parts.1

-- texts with another byte at a place differ
pub differ_at : (i b : ℕ) (x y : List ℕ) → x ≡ y → (get_or x i 0 == b) ≡ true → (get_or y i 0 == b) ≡ false → true ≡ false
differ_at i b x y e one other = sym one ∙ ap (λ (t : List ℕ). get_or t i 0 == b) e ∙ other

-- no two forms begin with the same two bytes
abbrev pub front_of : List ℕ → ℕ
front_of t = get_or t 0 0 * 256 + get_or t 1 0

pub apart : (x y : List ℕ) → (front_of x == front_of y) ≡ false → x ≡ y → ⊥
apart x y other e =
    let same : (front_of x == front_of y) ≡ true = ap (λ (t : List ℕ). front_of t == front_of y) e ∙ eqb_yes (front_of y) in
    absurd (cc (same, other))

-- ---- file

pub record FileText (rest : List ℕ) : Type 0 where
  pub path : List ℕ
  pub content : List ℕ
  pub same : rest ≡ path ++ (32 ∷ hex_text content)
  pub rules : KeepsRules (File path content)

pub file_text : (rest : List ℕ) (line : ScriptLine) → KeepsRules line → codes "file" ++ (32 ∷ rest) ≡ line_text line → FileText rest
unfolding line_text
file_text rest (File path content) rules e = record { path = path; content = content; same = cc e; rules = rules }
file_text rest line rules e = absurd (apart (codes "file" ++ (32 ∷ rest)) (line_text line) refl e)

pub file_cut : (rest a b : List ℕ) (t : FileText rest) → CutsAt 32 rest a b → (a ≡ t.path) × (b ≡ hex_text t.content)
file_cut rest a b t cut = cut_same 32 a b t.path (hex_text t.content) cut.first (path_free t.path t.rules.0) (sym cut.whole ∙ t.same)

pub no_file : (rest : List ℕ) → IsFree 32 rest → FileText rest → ⊥
no_file rest free t = not_free 32 t.path (hex_text t.content) (rw t.same at free)

pub file_made : (rest a b path content : List ℕ) → CutsAt 32 rest a b → path ≡ a → b ≡ hex_text content → codes "file" ++ (32 ∷ rest) ≡ line_text (File path content)
unfolding line_text
file_made rest a b path content cut p c = rw (cut.whole, ← p, c) refl

-- ---- doc

pub record DocText (rest : List ℕ) : Type 0 where
  pub id : DocId
  pub reusable : Bool
  pub strict : Bool
  pub path : List ℕ
  pub grants : List GrantRecord
  pub same : rest ≡ doc_text id.number ++ (32 ∷ (flags_text reusable strict ++ (32 ∷ (path ++ (32 ∷ grants_text grants)))))
  pub rules : KeepsRules (Doc id reusable strict path grants)

pub doc_line : (rest : List ℕ) (line : ScriptLine) → KeepsRules line → codes "doc" ++ (32 ∷ rest) ≡ line_text line → DocText rest
unfolding line_text
doc_line rest (Doc id reusable strict path grants) rules e = record { id = id; reusable = reusable; strict = strict; path = path; grants = grants; same = cc e; rules = rules }
doc_line rest line rules e = absurd (apart (codes "doc" ++ (32 ∷ rest)) (line_text line) refl e)

pub doc_cut : (rest a b : List ℕ) (t : DocText rest) → CutsAt 32 rest a b
    → (a ≡ doc_text t.id.number) × (b ≡ flags_text t.reusable t.strict ++ (32 ∷ (t.path ++ (32 ∷ grants_text t.grants))))
doc_cut rest a b t cut =
    cut_same 32 a b (doc_text t.id.number) (flags_text t.reusable t.strict ++ (32 ∷ (t.path ++ (32 ∷ grants_text t.grants)))) cut.first (id_free t.id.number t.rules.0) (sym cut.whole ∙ t.same)

pub doc_cut_flags : (rest a b c d : List ℕ) (t : DocText rest) → CutsAt 32 rest a b → CutsAt 32 b c d
    → (c ≡ flags_text t.reusable t.strict) × (d ≡ t.path ++ (32 ∷ grants_text t.grants))
doc_cut_flags rest a b c d t cut more =
    cut_same 32 c d (flags_text t.reusable t.strict) (t.path ++ (32 ∷ grants_text t.grants)) more.first (flags_free t.reusable t.strict) (sym more.whole ∙ (doc_cut rest a b t cut).1)

pub doc_cut_path : (rest a b c d e f : List ℕ) (t : DocText rest) → CutsAt 32 rest a b → CutsAt 32 b c d → CutsAt 32 d e f
    → (e ≡ t.path) × (f ≡ grants_text t.grants)
doc_cut_path rest a b c d e f t cut more last =
    cut_same 32 e f t.path (grants_text t.grants) last.first (path_free t.path t.rules.1) (sym last.whole ∙ (doc_cut_flags rest a b c d t cut more).1)

pub no_id : (rest : List ℕ) → IsFree 32 rest → DocText rest → ⊥
no_id rest free t = not_free 32 (doc_text t.id.number) (flags_text t.reusable t.strict ++ (32 ∷ (t.path ++ (32 ∷ grants_text t.grants)))) (rw t.same at free)

pub no_flags : (rest a b : List ℕ) (t : DocText rest) → CutsAt 32 rest a b → IsFree 32 b → ⊥
no_flags rest a b t cut free = not_free 32 (flags_text t.reusable t.strict) (t.path ++ (32 ∷ grants_text t.grants)) (rw (doc_cut rest a b t cut).1 at free)

pub no_path : (rest a b c d : List ℕ) (t : DocText rest) → CutsAt 32 rest a b → CutsAt 32 b c d → IsFree 32 d → ⊥
no_path rest a b c d t cut more free = not_free 32 t.path (grants_text t.grants) (rw (doc_cut_flags rest a b c d t cut more).1 at free)

pub doc_made : (rest a b c d e f : List ℕ) (id : DocId) (reusable strict : Bool) (path : List ℕ) (grants : List GrantRecord)
    → CutsAt 32 rest a b → CutsAt 32 b c d → CutsAt 32 d e f
    → a ≡ doc_text id.number → c ≡ flags_text reusable strict → path ≡ e → f ≡ grants_text grants
    → codes "doc" ++ (32 ∷ rest) ≡ line_text (Doc id reusable strict path grants)
unfolding line_text
doc_made rest a b c d e f id reusable strict path grants cut more last i r p g = rw (cut.whole, more.whole, last.whole, i, r, ← p, g) refl

-- ---- open

pub record OpenText (rest : List ℕ) : Type 0 where
  pub seat : ℕ
  pub kind : Kind
  pub who : Who
  pub same : rest ≡ decimal seat ++ (32 ∷ (kind_text kind ++ (32 ∷ who_text who)))
  pub rules : KeepsRules (Open seat kind who)

pub open_line : (rest : List ℕ) (line : ScriptLine) → KeepsRules line → codes "open" ++ (32 ∷ rest) ≡ line_text line → OpenText rest
unfolding line_text
open_line rest (Open seat kind who) rules e = record { seat = seat; kind = kind; who = who; same = cc e; rules = rules }
open_line rest line rules e = absurd (apart (codes "open" ++ (32 ∷ rest)) (line_text line) refl e)

pub open_cut : (rest a b : List ℕ) (t : OpenText rest) → CutsAt 32 rest a b → (a ≡ decimal t.seat) × (b ≡ kind_text t.kind ++ (32 ∷ who_text t.who))
open_cut rest a b t cut = cut_same 32 a b (decimal t.seat) (kind_text t.kind ++ (32 ∷ who_text t.who)) cut.first (seat_free t.seat t.rules.1) (sym cut.whole ∙ t.same)

pub open_cut_kind : (rest a b c d : List ℕ) (t : OpenText rest) → CutsAt 32 rest a b → CutsAt 32 b c d → (c ≡ kind_text t.kind) × (d ≡ who_text t.who)
open_cut_kind rest a b c d t cut more =
    cut_same 32 c d (kind_text t.kind) (who_text t.who) more.first (kind_free t.kind) (sym more.whole ∙ (open_cut rest a b t cut).1)

pub no_seat : (rest : List ℕ) → IsFree 32 rest → OpenText rest → ⊥
no_seat rest free t = not_free 32 (decimal t.seat) (kind_text t.kind ++ (32 ∷ who_text t.who)) (rw t.same at free)

pub no_kind : (rest a b : List ℕ) (t : OpenText rest) → CutsAt 32 rest a b → IsFree 32 b → ⊥
no_kind rest a b t cut free = not_free 32 (kind_text t.kind) (who_text t.who) (rw (open_cut rest a b t cut).1 at free)

pub open_made : (rest a b c d : List ℕ) (seat : ℕ) (kind : Kind) (who : Who) → CutsAt 32 rest a b → CutsAt 32 b c d
    → a ≡ decimal seat → c ≡ kind_text kind → d ≡ who_text who → codes "open" ++ (32 ∷ rest) ≡ line_text (Open seat kind who)
unfolding line_text
open_made rest a b c d seat kind who cut more s k w = rw (cut.whole, more.whole, s, k, w) refl

-- ---- data

pub record DataText (rest : List ℕ) : Type 0 where
  pub seat : ℕ
  pub bytes : List ℕ
  pub same : rest ≡ decimal seat ++ (32 ∷ hex_text bytes)
  pub rules : KeepsRules (Data seat bytes)

pub data_line : (rest : List ℕ) (line : ScriptLine) → KeepsRules line → codes "data" ++ (32 ∷ rest) ≡ line_text line → DataText rest
unfolding line_text
data_line rest (Data seat bytes) rules e = record { seat = seat; bytes = bytes; same = cc e; rules = rules }
data_line rest line rules e = absurd (apart (codes "data" ++ (32 ∷ rest)) (line_text line) refl e)

pub data_cut : (rest a b : List ℕ) (t : DataText rest) → CutsAt 32 rest a b → (a ≡ decimal t.seat) × (b ≡ hex_text t.bytes)
data_cut rest a b t cut = cut_same 32 a b (decimal t.seat) (hex_text t.bytes) cut.first (seat_free t.seat t.rules.1) (sym cut.whole ∙ t.same)

pub no_data : (rest : List ℕ) → IsFree 32 rest → DataText rest → ⊥
no_data rest free t = not_free 32 (decimal t.seat) (hex_text t.bytes) (rw t.same at free)

pub data_made : (rest a b : List ℕ) (seat : ℕ) (bytes : List ℕ) → CutsAt 32 rest a b → a ≡ decimal seat → b ≡ hex_text bytes
    → codes "data" ++ (32 ∷ rest) ≡ line_text (Data seat bytes)
unfolding line_text
data_made rest a b seat bytes cut s h = rw (cut.whole, s, h) refl

-- ---- close

pub close_line : (rest : List ℕ) (line : ScriptLine) → KeepsRules line → codes "close" ++ (32 ∷ rest) ≡ line_text line → (seat : ℕ) × IsSeat rest seat
unfolding line_text
close_line rest (Close seat) rules e = (seat, record { low = rules.0; high = rules.1; same = cc e })
close_line rest line rules e = absurd (apart (codes "close" ++ (32 ∷ rest)) (line_text line) refl e)

pub close_made : (rest : List ℕ) (seat : ℕ) → rest ≡ decimal seat → codes "close" ++ (32 ∷ rest) ≡ line_text (Close seat)
unfolding line_text
close_made rest seat same = rw same refl

-- ---- entry

pub name_word : (name : List ℕ) → is_app_name name ≡ true → IsFree 32 name
name_word name h = name_free 32 refl name h

pub record EntryText (rest : List ℕ) : Type 0 where
  pub entry : EntryRecord
  pub same : rest ≡ entry.table ++ (32 ∷ (entry.id ++ (32 ∷ (hex_text entry.datum ++ (32 ∷ rows_text entry.rows)))))
  pub rules : KeepsRules (Entry entry)

pub entry_line : (rest : List ℕ) (line : ScriptLine) → KeepsRules line → codes "entry" ++ (32 ∷ rest) ≡ line_text line → EntryText rest
unfolding line_text
entry_line rest (Entry entry) rules e = record { entry = entry; same = cc e; rules = rules }
entry_line rest line rules e = absurd (apart (codes "entry" ++ (32 ∷ rest)) (line_text line) refl e)

pub entry_cut : (rest a b : List ℕ) (t : EntryText rest) → CutsAt 32 rest a b
    → (a ≡ t.entry.table) × (b ≡ t.entry.id ++ (32 ∷ (hex_text t.entry.datum ++ (32 ∷ rows_text t.entry.rows))))
entry_cut rest a b t cut =
    cut_same 32 a b t.entry.table (t.entry.id ++ (32 ∷ (hex_text t.entry.datum ++ (32 ∷ rows_text t.entry.rows)))) cut.first (name_word t.entry.table t.rules.0.table) (sym cut.whole ∙ t.same)

pub entry_cut_id : (rest a b c d : List ℕ) (t : EntryText rest) → CutsAt 32 rest a b → CutsAt 32 b c d
    → (c ≡ t.entry.id) × (d ≡ hex_text t.entry.datum ++ (32 ∷ rows_text t.entry.rows))
entry_cut_id rest a b c d t cut more =
    cut_same 32 c d t.entry.id (hex_text t.entry.datum ++ (32 ∷ rows_text t.entry.rows)) more.first (name_word t.entry.id t.rules.0.id) (sym more.whole ∙ (entry_cut rest a b t cut).1)

pub entry_cut_datum : (rest a b c d e f : List ℕ) (t : EntryText rest) → CutsAt 32 rest a b → CutsAt 32 b c d → CutsAt 32 d e f
    → (e ≡ hex_text t.entry.datum) × (f ≡ rows_text t.entry.rows)
entry_cut_datum rest a b c d e f t cut more last =
    cut_same 32 e f (hex_text t.entry.datum) (rows_text t.entry.rows) last.first (hex_free 32 refl refl t.entry.datum t.rules.0.bytes) (sym last.whole ∙ (entry_cut_id rest a b c d t cut more).1)

pub no_table : (rest : List ℕ) → IsFree 32 rest → EntryText rest → ⊥
no_table rest free t = not_free 32 t.entry.table (t.entry.id ++ (32 ∷ (hex_text t.entry.datum ++ (32 ∷ rows_text t.entry.rows)))) (rw t.same at free)

pub no_entry_id : (rest a b : List ℕ) (t : EntryText rest) → CutsAt 32 rest a b → IsFree 32 b → ⊥
no_entry_id rest a b t cut free = not_free 32 t.entry.id (hex_text t.entry.datum ++ (32 ∷ rows_text t.entry.rows)) (rw (entry_cut rest a b t cut).1 at free)

pub no_datum : (rest a b c d : List ℕ) (t : EntryText rest) → CutsAt 32 rest a b → CutsAt 32 b c d → IsFree 32 d → ⊥
no_datum rest a b c d t cut more free = not_free 32 (hex_text t.entry.datum) (rows_text t.entry.rows) (rw (entry_cut_id rest a b c d t cut more).1 at free)

pub entry_made : (rest a b c d e f : List ℕ) (entry : EntryRecord) → CutsAt 32 rest a b → CutsAt 32 b c d → CutsAt 32 d e f
    → entry.table ≡ a → entry.id ≡ c → e ≡ hex_text entry.datum → f ≡ rows_text entry.rows
    → codes "entry" ++ (32 ∷ rest) ≡ line_text (Entry entry)
unfolding line_text
entry_made rest a b c d e f entry cut more last t i h r = rw (cut.whole, more.whole, last.whole, ← t, ← i, h, r) refl

-- what is read of the words of an entry, where it may be kept
pub entry_read : (E : Type 0) (result : Result (Option ScriptLine) E) (rest : List ℕ) (e : EntryRecord)
    → IfOk result (λ read. MatchOption read (IsSoundEntry e → ⊥) (λ line. (line ≡ Entry e) × IsSoundEntry e))
    → HasNames e → ((t : EntryText rest) → t.entry ≡ e) → codes "entry" ++ (32 ∷ rest) ≡ line_text (Entry e)
    → IfOk result (λ read. ReadsLine (codes "entry" ++ (32 ∷ rest)) read)
entry_read E (Err error) rest e sound names only made = tt
entry_read E (Ok None) rest e sound names only made = λ line rules same.
    let t = entry_line rest line rules same in
    sound (subst IsSoundEntry (only t) t.rules.1)
entry_read E (Ok (Some line)) rest e sound names only made = rw sound.0 ((names, sound.1), made)

-- ---- fail

pub device_word : (device : Device) → IsFree 32 (device_text device)
device_word Tree = free_from (λ b. not (b == 32)) 32 refl (codes "tree") refl
device_word Keeper = free_from (λ b. not (b == 32)) 32 refl (codes "keeper") refl

pub record FailText (rest : List ℕ) : Type 0 where
  pub device : Device
  pub call : ℕ
  pub same : rest ≡ device_text device ++ (32 ∷ decimal call)
  pub rules : KeepsRules (Fail device call)

pub fail_line : (rest : List ℕ) (line : ScriptLine) → KeepsRules line → codes "fail" ++ (32 ∷ rest) ≡ line_text line → FailText rest
unfolding line_text
fail_line rest (Fail device call) rules e = record { device = device; call = call; same = cc e; rules = rules }
fail_line rest line rules e = absurd (apart (codes "fail" ++ (32 ∷ rest)) (line_text line) refl e)

pub fail_cut : (rest a b : List ℕ) (t : FailText rest) → CutsAt 32 rest a b → (a ≡ device_text t.device) × (b ≡ decimal t.call)
fail_cut rest a b t cut = cut_same 32 a b (device_text t.device) (decimal t.call) cut.first (device_word t.device) (sym cut.whole ∙ t.same)

pub no_device : (rest : List ℕ) → IsFree 32 rest → FailText rest → ⊥
no_device rest free t = not_free 32 (device_text t.device) (decimal t.call) (rw t.same at free)

pub fail_made : (rest a b : List ℕ) (device : Device) (call : ℕ) → CutsAt 32 rest a b → a ≡ device_text device → b ≡ decimal call
    → codes "fail" ++ (32 ∷ rest) ≡ line_text (Fail device call)
unfolding line_text
fail_made rest a b device call cut d k = rw (cut.whole, d, k) refl

-- ---- word

pub word_line : (rest : List ℕ) (line : ScriptLine) → KeepsRules line → codes "word" ++ (32 ∷ rest) ≡ line_text line → (word : ℕ) × (word < 2 ^ 32) × (rest ≡ doc_text word)
unfolding line_text
word_line rest (Word word) rules e = (word, rules, cc e)
word_line rest line rules e = absurd (apart (codes "word" ++ (32 ∷ rest)) (line_text line) refl e)

pub word_made : (rest : List ℕ) (word : ℕ) → rest ≡ doc_text word → codes "word" ++ (32 ∷ rest) ≡ line_text (Word word)
unfolding line_text
word_made rest word same = rw same refl

-- ---- now

pub now_line : (rest : List ℕ) (line : ScriptLine) → KeepsRules line → codes "now" ++ (32 ∷ rest) ≡ line_text line → (moment : ℕ) × (moment < 2 ^ 64) × (rest ≡ decimal moment)
unfolding line_text
now_line rest (Now moment) rules e = (moment, rules, cc e)
now_line rest line rules e = absurd (apart (codes "now" ++ (32 ∷ rest)) (line_text line) refl e)

pub now_made : (rest : List ℕ) (moment : ℕ) → rest ≡ decimal moment → codes "now" ++ (32 ∷ rest) ≡ line_text (Now moment)
unfolding line_text
now_made rest moment same = rw same refl

-- ---- any line

-- the first words of lines
abbrev pub commands : List (List ℕ)
commands = codes "file" ∷ codes "doc" ∷ codes "entry" ∷ codes "fail" ∷ codes "word" ∷ codes "now" ∷ codes "open" ∷ codes "data" ∷ codes "close" ∷ []

-- a line's first word, which is one of these
pub record AnyText (text : List ℕ) : Type 0 where
  pub command : List ℕ
  pub rest : List ℕ
  pub same : text ≡ command ++ (32 ∷ rest)
  pub free : IsFree 32 command
  pub known : list_any (is_same command) commands ≡ true

word_free : (word : List ℕ) → list_all (λ b. not (b == 32)) word ≡ true → IsFree 32 word
word_free word h = free_from (λ b. not (b == 32)) 32 refl word h

pub any_line : (text : List ℕ) (line : ScriptLine) → text ≡ line_text line → AnyText text
unfolding line_text
any_line text (File path content) e = record { command = codes "file"; rest = _; same = e; free = word_free (codes "file") refl; known = refl }
any_line text (Doc id reusable strict path grants) e = record { command = codes "doc"; rest = _; same = e; free = word_free (codes "doc") refl; known = refl }
any_line text (Entry entry) e = record { command = codes "entry"; rest = _; same = e; free = word_free (codes "entry") refl; known = refl }
any_line text (Fail device call) e = record { command = codes "fail"; rest = _; same = e; free = word_free (codes "fail") refl; known = refl }
any_line text (Word word) e = record { command = codes "word"; rest = _; same = e; free = word_free (codes "word") refl; known = refl }
any_line text (Now moment) e = record { command = codes "now"; rest = _; same = e; free = word_free (codes "now") refl; known = refl }
any_line text (Open seat kind who) e = record { command = codes "open"; rest = _; same = e; free = word_free (codes "open") refl; known = refl }
any_line text (Data seat bytes) e = record { command = codes "data"; rest = _; same = e; free = word_free (codes "data") refl; known = refl }
any_line text (Close seat) e = record { command = codes "close"; rest = _; same = e; free = word_free (codes "close") refl; known = refl }

pub none_of_nine : (a b c d e f g h i : Bool) → a ≡ false → b ≡ false → c ≡ false → d ≡ false → e ≡ false → f ≡ false → g ≡ false → h ≡ false → i ≡ false
    → (a || (b || (c || (d || (e || (f || (g || (h || (i || false))))))))) ≡ false
none_of_nine a b c d e f g h i na nb nc nd ne nf ng nh ni = rw (na, nb, nc, nd, ne, nf, ng, nh, ni) refl

pub no_line : (text : List ℕ) → IsFree 32 text → (line : ScriptLine) → text ≡ line_text line → ⊥
no_line text free line e = let t = any_line text line e in not_free 32 t.command t.rest (rw t.same at free)

-- a text whose first word is none of these is no line's
pub other_line : (text command rest : List ℕ) → CutsAt 32 text command rest → list_any (is_same command) commands ≡ false → (line : ScriptLine) → text ≡ line_text line → ⊥
other_line text command rest cut none line e =
    let t = any_line text line e in
    let halves = cut_same 32 command rest t.command t.rest cut.first t.free (sym cut.whole ∙ t.same) in
    let known = t.known in
    absurd (cc (none, known, halves.0))

-- ---- whom a connection is bound to

-- a word behind "app:" that isn't a name, and isn't "host", is no caller's
pub no_caller : (word prefix name : List ℕ) → prefix ≡ codes "app:" → pointwise nat_eq (take (length prefix) word) prefix ≡ true
    → name ≡ drop (length prefix) word → (word ≢ codes "host") → is_app_name name ≡ false → (who : Who) → IsCaller who → word ≢ who_text who
no_caller word prefix name is test rest other bad Host caller same = other same
no_caller word prefix name is test rest other bad (App found) caller same =
    let this : name ≡ found = rest ∙ rw (is, same) refl in
    cc (bad, caller, this)
