-- A text is at most one line's, and no line's text has a line feed.
use Rattle.std.proofs.Common.{◌≡◌, ◌≢◌, ℕ, ◌^◌, ◌<◌, ◌≤◌, Bool, true, false, List, [], ◌∷◌, ◌++◌, length, drop, refl, sym, ap, ◌∙◌, arith, map, Some}
use Rattle.std.specs.Prelude.{not, ◌==◌, codes}
use Rattle.std.specs.Char.{is_ascii_digit}
use Rattle.std.specs.Fmt.{decimal}
use Rattle.std.specs.List.{All, list_all, join_with_byte}
use Rattle.std.proofs.lemmas.Bool.{and_parts}
use Rattle.std.proofs.lemmas.Fmt.{decimal_injective}
use Rattle.std.proofs.lemmas.List.{length-append}
use Rattle.std.proofs.lemmas.List.Elements.{All-nil, All-cons, All-head, All-tail, All-append}
use Rattle.hex.proofs.HexLemmas.{decode_of-encode_lower, decode_of-same, length-encode_with}
use Rattle.hex.specs.Hex.{lower_digits}
use Rattle.portal_base.specs.DocIds.{doc_id_of}
use Rattle.portal_base.specs.Names.{is_app_name, is_host_path, is_doc_id, is_lower_hex, doc_text}
use Rattle.portal_base.specs.declared.names.doc_id.DocId.{DocId}
use Rattle.portal_base.specs.declared.who.Kind.{Kind}
use Rattle.portal_base.specs.declared.who.Kind.TheVariants.{Bus, Mount}
use Rattle.portal_base.specs.declared.who.Who.{Who}
use Rattle.portal_base.specs.declared.who.Who.TheVariants.{Host, App}
use Rattle.portal_model.specs.declared.records.GrantRecord.{GrantRecord}
use Rattle.portal_model.specs.declared.records.Row.{Row}
use Rattle.record_keeper.specs.SoundRecords.{IsGrant}
use Rattle.script_lines.specs.Lines.{line_text, KeepsRules, IsNamedRow, AreBytes, hex_text, flags_text, grants_text, grant_text, row_text, rows_text, device_text, letters, is_script_path, is_plain, last_seat, kind_text, who_text, IsCaller}
use Rattle.script_lines.specs.declared.script.Device.{Device}
use Rattle.script_lines.specs.declared.script.Device.TheVariants.{Tree, Keeper}
use Rattle.script_lines.specs.Reading.{IsFree}
use Rattle.script_lines.specs.declared.script.ScriptLine.{ScriptLine}
use Rattle.script_lines.specs.declared.script.ScriptLine.TheVariants.{File, Doc, Entry, Fail, Word, Now, Open, Data, Close}
use Rattle.script_lines.proofs.GrantFacts.{grant_same, grants_split, grant_free, letters_line, letters_some, name_free}
use Rattle.script_lines.proofs.LineFacts.{path_free, seat_free, id_free, id_again, flags_free, kind_free, name_word, device_word, differ_at, apart, is_id}
use Rattle.script_lines.proofs.TextFacts.{free_from, cut_same}
use Rattle.script_lines.proofs.WordFacts.{all_digits, bytes_at, hex_free}
use Rattle.script_lines.proofs.JoinFacts.{joined_free}
use Rattle.script_lines.proofs.RowFacts.{row_free, rows_same}

-- ---- words are written in one way

pub hex_same : (a b : List ℕ) → AreBytes a → AreBytes b → hex_text a ≡ hex_text b → a ≡ b
hex_same [] [] ha hb e = refl
hex_same [] (y ∷ ys) ha hb e = let n = ap length e ∙ length-encode_with lower_digits (y ∷ ys) in absurd (omega arith)
hex_same (x ∷ xs) [] ha hb e = let n = ap length (sym e) ∙ length-encode_with lower_digits (x ∷ xs) in absurd (omega arith)
hex_same (x ∷ xs) (y ∷ ys) ha hb e =
    decode_of-same _ (x ∷ xs) (y ∷ ys) (decode_of-encode_lower (x ∷ xs) (bytes_at (x ∷ xs) ha)) (rw e (decode_of-encode_lower (y ∷ ys) (bytes_at (y ∷ ys) hb)))

pub id_same : (a b : DocId) → a.number < 2 ^ 32 → b.number < 2 ^ 32 → doc_text a.number ≡ doc_text b.number → a ≡ b
id_same a b ha hb e =
    let found : Some a ≡ Some b = sym (id_again a.number ha) ∙ ap doc_id_of e ∙ id_again b.number hb in
    cc found

-- what may be used again begins with an r, and nothing else does
flags_begin : (c d : Bool) → flags_text true c ≡ flags_text false d → ⊥
flags_begin true true e = cc (differ_at 0 114 _ _ e refl refl)
flags_begin true false e = cc (differ_at 0 114 _ _ e refl refl)
flags_begin false true e = cc (differ_at 0 114 _ _ e refl refl)
flags_begin false false e = cc (differ_at 0 114 _ _ e refl refl)

pub flags_same : (a c b d : Bool) → flags_text a c ≡ flags_text b d → (a ≡ b) × (c ≡ d)
flags_same true true true true e = (refl, refl)
flags_same true false true false e = (refl, refl)
flags_same false true false true e = (refl, refl)
flags_same false false false false e = (refl, refl)
flags_same true true true false e = absurd (cc e)
flags_same true false true true e = absurd (cc e)
flags_same false true false false e = absurd (cc (differ_at 0 115 _ _ e refl refl))
flags_same false false false true e = absurd (cc (differ_at 0 45 _ _ e refl refl))
flags_same true c false d e = absurd (flags_begin c d e)
flags_same false c true d e = absurd (flags_begin d c (sym e))

texts_same : (gs hs : List GrantRecord) → All IsGrant gs → All IsGrant hs → map grant_text gs ≡ map grant_text hs → gs ≡ hs
texts_same [] [] ag ah e = refl
texts_same [] (h ∷ hs) ag ah e = absurd (cc e)
texts_same (g ∷ gs) [] ag ah e = absurd (cc e)
texts_same (g ∷ gs) (h ∷ hs) ag ah e =
    let heads : grant_text g ≡ grant_text h = cc e in
    let tails : map grant_text gs ≡ map grant_text hs = cc e in
    let first = grant_same g h (All-head IsGrant g gs ag) (All-head IsGrant h hs ah) heads in
    let rest = texts_same gs hs (All-tail IsGrant g gs ag) (All-tail IsGrant h hs ah) tails in
    cc (first, rest)

name_some : (t : List ℕ) → is_app_name t ≡ true → 1 ≤ length t
unfolding is_app_name
name_some [] h = absurd (cc h)
name_some (b ∷ bs) h = omega arith

-- the text of a grant is longer than a dash
pub grant_long : (g : GrantRecord) → IsGrant g → 3 ≤ length (grant_text g)
grant_long g is =
    let name = name_some g.app is.name in
    let some = letters_some g.rights is.some_right is.no_other in
    omega (arith, length-append g.app (61 ∷ letters g.rights))

joined_long : (t : List ℕ) (ts : List (List ℕ)) → length t ≤ length (join_with_byte 44 (t ∷ ts))
joined_long t [] = omega arith
joined_long t (u ∷ us) = omega (arith, length-append t (44 ∷ join_with_byte 44 (u ∷ us)))

grants_dash : (g : GrantRecord) (gs : List GrantRecord) → IsGrant g → grants_text (g ∷ gs) ≡ codes "-" → ⊥
grants_dash g gs is e =
    let long = grant_long g is in
    let more = joined_long (grant_text g) (map grant_text gs) in
    let n = ap length e in
    absurd (omega arith)

pub grants_same : (gs hs : List GrantRecord) → All IsGrant gs → All IsGrant hs → grants_text gs ≡ grants_text hs → gs ≡ hs
grants_same [] [] ag ah e = refl
grants_same [] (h ∷ hs) ag ah e = absurd (grants_dash h hs (All-head IsGrant h hs ah) (sym e))
grants_same (g ∷ gs) [] ag ah e = absurd (grants_dash g gs (All-head IsGrant g gs ag) e)
grants_same (g ∷ gs) (h ∷ hs) ag ah e =
    let other : grants_text (g ∷ gs) ≢ codes "-" = grants_dash g gs (All-head IsGrant g gs ag) in
    texts_same (g ∷ gs) (h ∷ hs) ag ah (sym (grants_split (grants_text (g ∷ gs)) (g ∷ gs) ag other refl) ∙ grants_split (grants_text (g ∷ gs)) (h ∷ hs) ah other e)

kind_same : (a b : Kind) → kind_text a ≡ kind_text b → a ≡ b
kind_same Bus Bus e = refl
kind_same Mount Mount e = refl
kind_same Bus Mount e = absurd (cc (differ_at 0 98 _ _ e refl refl))
kind_same Mount Bus e = absurd (cc (differ_at 0 109 _ _ e refl refl))

who_same : (a b : Who) → who_text a ≡ who_text b → a ≡ b
who_same Host Host e = refl
who_same Host (App name) e = absurd (cc (differ_at 0 104 _ _ e refl refl))
who_same (App name) Host e = absurd (cc (differ_at 0 97 _ _ e refl refl))
who_same (App name) (App other) e = ap App (ap (drop 4) e)

-- ---- lines are written in one way

seat_fits : (n : ℕ) → n ≤ last_seat → n < 2 ^ 64
seat_fits n h = omega arith

seat_same : (s t : ℕ) (a b : List ℕ) → s ≤ last_seat → t ≤ last_seat → decimal s ++ (32 ∷ a) ≡ decimal t ++ (32 ∷ b) → (s ≡ t) × (a ≡ b)
seat_same s t a b hs ht e =
    let halves = cut_same 32 (decimal s) a (decimal t) b (seat_free s hs) (seat_free t ht) e in
    (decimal_injective s t (seat_fits s hs) (seat_fits t ht) halves.0, halves.1)

device_same : (a b : Device) → device_text a ≡ device_text b → a ≡ b
device_same Tree Tree e = refl
device_same Keeper Keeper e = refl
device_same Tree Keeper e = absurd (cc (differ_at 0 116 _ _ e refl refl))
device_same Keeper Tree e = absurd (cc (differ_at 0 107 _ _ e refl refl))

pub line_same : (l m : ScriptLine) → KeepsRules l → KeepsRules m → line_text l ≡ line_text m → l ≡ m
unfolding line_text
line_same (File p c) (File q d) kl km e =
    let halves = cut_same 32 p (hex_text c) q (hex_text d) (path_free p kl.0) (path_free q km.0) (ap (drop 5) e) in
    let bytes = hex_same c d kl.2 km.2 halves.1 in
    cc (halves.0, bytes)
line_same (Doc i r s p g) (Doc j f t q h) kl km e =
    let one = cut_same 32 (doc_text i.number) (flags_text r s ++ (32 ∷ (p ++ (32 ∷ grants_text g)))) (doc_text j.number) (flags_text f t ++ (32 ∷ (q ++ (32 ∷ grants_text h))))
    (id_free i.number kl.0) (id_free j.number km.0) (ap (drop 4) e) in
    let two = cut_same 32 (flags_text r s) (p ++ (32 ∷ grants_text g)) (flags_text f t) (q ++ (32 ∷ grants_text h)) (flags_free r s) (flags_free f t) one.1 in
    let three = cut_same 32 p (grants_text g) q (grants_text h) (path_free p kl.1) (path_free q km.1) two.1 in
    let ids = id_same i j kl.0 km.0 one.0 in
    let flags = flags_same r s f t two.0 in
    let grants = grants_same g h kl.2.grants km.2.grants three.1 in
    cc (ids, flags.0, flags.1, three.0, grants)
line_same (Open s k w) (Open t l v) kl km e =
    let one = seat_same s t (kind_text k ++ (32 ∷ who_text w)) (kind_text l ++ (32 ∷ who_text v)) kl.1 km.1 (ap (drop 5) e) in
    let two = cut_same 32 (kind_text k) (who_text w) (kind_text l) (who_text v) (kind_free k) (kind_free l) one.1 in
    let kinds = kind_same k l two.0 in
    let callers = who_same w v two.1 in
    cc (one.0, kinds, callers)
line_same (Data s b) (Data t d) kl km e =
    let halves = seat_same s t (hex_text b) (hex_text d) kl.1 km.1 (ap (drop 5) e) in
    let bytes = hex_same b d kl.2 km.2 halves.1 in
    cc (halves.0, bytes)
line_same (Close s) (Close t) kl km e = ap Close (decimal_injective s t (seat_fits s kl.1) (seat_fits t km.1) (ap (drop 6) e))
line_same (Entry a) (Entry b) kl km e =
    let one = cut_same 32 a.table (a.id ++ (32 ∷ (hex_text a.datum ++ (32 ∷ rows_text a.rows)))) b.table (b.id ++ (32 ∷ (hex_text b.datum ++ (32 ∷ rows_text b.rows))))
    (name_word a.table kl.0.table) (name_word b.table km.0.table) (ap (drop 6) e) in
    let two = cut_same 32 a.id (hex_text a.datum ++ (32 ∷ rows_text a.rows)) b.id (hex_text b.datum ++ (32 ∷ rows_text b.rows))
    (name_word a.id kl.0.id) (name_word b.id km.0.id) one.1 in
    let three = cut_same 32 (hex_text a.datum) (rows_text a.rows) (hex_text b.datum) (rows_text b.rows)
    (hex_free 32 refl refl a.datum kl.0.bytes) (hex_free 32 refl refl b.datum km.0.bytes) two.1 in
    let bytes = hex_same a.datum b.datum kl.0.bytes km.0.bytes three.0 in
    let rows = rows_same a.rows b.rows kl.0.rows km.0.rows three.1 in
    λ i. Entry (record { table = one.0 i; id = two.0 i; datum = bytes i; rows = rows i })
line_same (Fail d k) (Fail f n) kl km e =
    let halves = cut_same 32 (device_text d) (decimal k) (device_text f) (decimal n) (device_word d) (device_word f) (ap (drop 5) e) in
    let devices = device_same d f halves.0 in
    let calls = decimal_injective k n kl.1 km.1 halves.1 in
    cc (devices, calls)
line_same (Word v) (Word w) kl km e = ap Word (ap (λ (id : DocId). id.number) (id_same (record { number = v }) (record { number = w }) kl km (ap (drop 5) e)))
line_same (Now v) (Now w) kl km e = ap Now (decimal_injective v w kl km (ap (drop 4) e))
line_same l m kl km e = absurd (apart (line_text l) (line_text m) refl e)

-- ---- no line has a line feed

joined : (a b : List ℕ) → IsFree 10 a → IsFree 10 b → IsFree 10 (a ++ (32 ∷ b))
joined a b fa fb = All-append (λ x. (x == 10) ≡ false) a (32 ∷ b) fa (All-cons (λ x. (x == 10) ≡ false) 32 b refl fb)

both : (a b : List ℕ) → IsFree 10 a → IsFree 10 b → IsFree 10 (a ++ b)
both a b fa fb = All-append (λ x. (x == 10) ≡ false) a b fa fb

word : (t : List ℕ) → list_all (λ b. not (b == 10)) t ≡ true → IsFree 10 t
word t h = free_from (λ b. not (b == 10)) 10 refl t h

hex_line : (bytes : List ℕ) → AreBytes bytes → IsFree 10 (hex_text bytes)
hex_line bytes h = hex_free 10 refl refl bytes h

path_line : (path : List ℕ) → is_script_path path ≡ true → IsFree 10 path
path_line path h = free_from is_plain 10 refl path (and_parts (is_host_path path) (list_all is_plain path) h).1

seat_line : (n : ℕ) → n ≤ last_seat → IsFree 10 (decimal n)
seat_line n h = free_from is_ascii_digit 10 refl (decimal n) (all_digits n (omega arith))

id_line : (n : ℕ) → n < 2 ^ 32 → IsFree 10 (doc_text n)
unfolding is_doc_id
id_line n h =
    let parts = and_parts (length (doc_text n) == 8) (list_all is_lower_hex (doc_text n)) (is_id (doc_text n) (record { number = n }) (id_again n h)) in
    free_from is_lower_hex 10 refl (doc_text n) parts.1

flags_line : (reusable strict : Bool) → IsFree 10 (flags_text reusable strict)
flags_line true true = word (codes "rs") refl
flags_line true false = word (codes "r") refl
flags_line false true = word (codes "s") refl
flags_line false false = word (codes "-") refl

commas : (t : List ℕ) (ts : List (List ℕ)) → All (IsFree 10) (t ∷ ts) → IsFree 10 (join_with_byte 44 (t ∷ ts))
commas t [] all = All-head (IsFree 10) t [] all
commas t (u ∷ us) all =
    both t (44 ∷ join_with_byte 44 (u ∷ us)) (All-head (IsFree 10) t (u ∷ us) all)
    (All-cons (λ x. (x == 10) ≡ false) 44 (join_with_byte 44 (u ∷ us)) refl (commas u us (All-tail (IsFree 10) t (u ∷ us) all)))

grant_lines : (gs : List GrantRecord) → All IsGrant gs → All (IsFree 10) (map grant_text gs)
grant_lines [] all = All-nil (IsFree 10)
grant_lines (g ∷ gs) all =
    let is = All-head IsGrant g gs all in
    All-cons (IsFree 10) (grant_text g) (map grant_text gs) (grant_free 10 refl refl g is.name (letters_line g.rights is.no_other))
    (grant_lines gs (All-tail IsGrant g gs all))

grants_line : (gs : List GrantRecord) → All IsGrant gs → IsFree 10 (grants_text gs)
grants_line [] all = word (codes "-") refl
grants_line (g ∷ gs) all = commas (grant_text g) (map grant_text gs) (grant_lines (g ∷ gs) all)

kind_line : (kind : Kind) → IsFree 10 (kind_text kind)
kind_line Bus = word (codes "bus") refl
kind_line Mount = word (codes "mount") refl

who_line : (who : Who) → IsCaller who → IsFree 10 (who_text who)
who_line Host k = word (codes "host") refl
who_line (App name) k = both (codes "app:") name (word (codes "app:") refl) (name_free 10 refl name k)

row_lines : (rows : List Row) → All IsNamedRow rows → All (IsFree 10) (map row_text rows)
row_lines [] all = All-nil (IsFree 10)
row_lines (row ∷ rows) all =
    All-cons (IsFree 10) (row_text row) (map row_text rows) (row_free 10 refl refl refl row (All-head IsNamedRow row rows all))
    (row_lines rows (All-tail IsNamedRow row rows all))

rows_line : (rows : List Row) → All IsNamedRow rows → IsFree 10 (rows_text rows)
rows_line [] all = word (codes "-") refl
rows_line (row ∷ rows) all = joined_free 10 44 refl (row_text row) (map row_text rows) (row_lines (row ∷ rows) all)

device_line : (device : Device) → IsFree 10 (device_text device)
device_line Tree = word (codes "tree") refl
device_line Keeper = word (codes "keeper") refl

number_line : (n : ℕ) → n < 2 ^ 64 → IsFree 10 (decimal n)
number_line n h = free_from is_ascii_digit 10 refl (decimal n) (all_digits n h)

pub line_free : (line : ScriptLine) → KeepsRules line → IsFree 10 (line_text line)
unfolding line_text
line_free (File path content) k = joined (codes "file") _ (word (codes "file") refl) (joined path _ (path_line path k.0) (hex_line content k.2))
line_free (Doc id reusable strict path grants) k =
    joined (codes "doc") _ (word (codes "doc") refl) (joined (doc_text id.number) _ (id_line id.number k.0)
    (joined (flags_text reusable strict) _ (flags_line reusable strict) (joined path _ (path_line path k.1) (grants_line grants k.2.grants))))
line_free (Entry entry) k =
    joined (codes "entry") _ (word (codes "entry") refl) (joined entry.table _ (name_free 10 refl entry.table k.0.table)
    (joined entry.id _ (name_free 10 refl entry.id k.0.id) (joined (hex_text entry.datum) _ (hex_line entry.datum k.0.bytes) (rows_line entry.rows k.0.rows))))
line_free (Fail device call) k = joined (codes "fail") _ (word (codes "fail") refl) (joined (device_text device) _ (device_line device) (number_line call k.1))
line_free (Word n) k = joined (codes "word") _ (word (codes "word") refl) (id_line n k)
line_free (Now moment) k = joined (codes "now") _ (word (codes "now") refl) (number_line moment k)
line_free (Open seat kind who) k =
    joined (codes "open") _ (word (codes "open") refl) (joined (decimal seat) _ (seat_line seat k.1)
    (joined (kind_text kind) (who_text who) (kind_line kind) (who_line who k.2)))
line_free (Data seat bytes) k = joined (codes "data") _ (word (codes "data") refl) (joined (decimal seat) _ (seat_line seat k.1) (hex_line bytes k.2))
line_free (Close seat) k = joined (codes "close") _ (word (codes "close") refl) (seat_line seat k.1)
