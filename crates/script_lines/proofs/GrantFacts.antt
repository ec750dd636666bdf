-- Facts on the texts of grants.
use Rattle.std.proofs.Common.{◌≡◌, ◌≢◌, ℕ, ◌+◌, ◌<◌, ◌≤◌, ◌&&◌, inl, inr, Bool, true, false, List, [], ◌∷◌, ◌++◌, length, take, drop, refl, sym, ap, ◌∙◌, arith, zero, suc, get_or, map, append_assoc, drop-cons, Bor}
use Rattle.std.specs.Prelude.{nat_le, IsTrue, not, ◌==◌, codes, if◌then◌else◌}
use Rattle.std.specs.Ordering.{nat_cmp}
use Rattle.std.specs.Cmp.Lexicographic.{slice_cmp}
use Rattle.std.specs.List.{All, list_all, slice_split, join_with_byte}
use Rattle.std.specs.declared.cmp.Ordering.TheVariants.{Less}
use Rattle.std.proofs.lemmas.Bool.{cases_lt, and_parts, eqb-true, leb-true}
use Rattle.std.proofs.lemmas.List.{map-append, take-append-drop, take_all, take_more}
use Rattle.std.proofs.lemmas.List.Elements.{All-head, All-tail, All-cons, All-nil, All-append}
use Rattle.std.proofs.lemmas.List.Splits.{length-slice_split, join_with_byte-slice_split}
use Rattle.portal_base.specs.Names.{is_app_name, has_app_form, is_name_byte, is_nothing_or_dots}
use Rattle.portal_model.specs.declared.records.GrantRecord.{GrantRecord}
use Rattle.record_keeper.specs.SoundRecords.{IsGrant, IsRising}
use Rattle.script_lines.specs.Lines.{letters, grant_text, grants_text}
use Rattle.script_lines.specs.Reading.{IsFree, CutsAt, AreGrants}
use Rattle.script_lines.proofs.TextFacts.{free_from, cut_same, not_free, split_joined}

-- ---- letters

-- a test of each number below n
abbrev all_below : (ℕ → Bool) → ℕ → Bool
all_below test zero = true
all_below test (suc n) = test n && all_below test n

checked : (test : ℕ → Bool) (n k : ℕ) → all_below test n ≡ true → k < n → test k ≡ true
checked test zero k h inside = absurd (omega arith)
checked test (suc n) k h inside =
    let parts = and_parts (test n) (all_below test n) h in
    elim (cases_lt k n) [
      | inl below ↦ checked test n k parts.1 below
      | inr top ↦ let e : k ≡ n = omega arith in rw e parts.0
    ]

abbrev is_without : ℕ → ℕ → Bool
is_without s n = list_all (λ b. not (b == s)) (letters n)

pub letters_equals : (n : ℕ) → n ≤ 15 → IsFree 61 (letters n)
letters_equals n h = free_from (λ b. not (b == 61)) 61 refl (letters n) (checked (is_without 61) 16 n refl (omega arith))

pub letters_comma : (n : ℕ) → n ≤ 15 → IsFree 44 (letters n)
letters_comma n h = free_from (λ b. not (b == 44)) 44 refl (letters n) (checked (is_without 44) 16 n refl (omega arith))

pub letters_space : (n : ℕ) → n ≤ 15 → IsFree 32 (letters n)
letters_space n h = free_from (λ b. not (b == 32)) 32 refl (letters n) (checked (is_without 32) 16 n refl (omega arith))

pub letters_line : (n : ℕ) → n ≤ 15 → IsFree 10 (letters n)
letters_line n h = free_from (λ b. not (b == 10)) 10 refl (letters n) (checked (is_without 10) 16 n refl (omega arith))

pub letters_some : (n : ℕ) → 1 ≤ n → n ≤ 15 → 1 ≤ length (letters n)
letters_some zero low h = absurd (omega arith)
letters_some (suc n) low h =
    leb-true 1 (length (letters (suc n))) (checked (λ k. nat_le 1 (length (letters (suc k)))) 15 n refl (omega arith))

-- the number of a letter's right
abbrev right_of : ℕ → ℕ
right_of b = if b == 114 then 1 else if b == 119 then 2 else if b == 103 then 4 else 8

abbrev rights_in : List ℕ → ℕ
rights_in [] = 0
rights_in (b ∷ bs) = right_of b + rights_in bs

rights_back : (n : ℕ) → n ≤ 15 → rights_in (letters n) ≡ n
rights_back n h = eqb-true (rights_in (letters n)) n (checked (λ k. rights_in (letters k) == k) 16 n refl (omega arith))

pub letters_same : (m n : ℕ) → m ≤ 15 → n ≤ 15 → letters m ≡ letters n → m ≡ n
letters_same m n hm hn e = sym (rights_back m hm) ∙ ap rights_in e ∙ rights_back n hn

-- ---- one grant

pub name_free : (s : ℕ) → is_name_byte s ≡ false → (t : List ℕ) → is_app_name t ≡ true → IsFree s t
unfolding is_app_name
name_free s other t h =
    let form = and_parts (has_app_form t) _ h in
    let bytes = and_parts (list_all is_name_byte t) (not (is_nothing_or_dots t)) form.0 in
    free_from is_name_byte s other t bytes.0

pub grant_halves : (word name rest : List ℕ) (g : GrantRecord) → CutsAt 61 word name rest → IsGrant g → word ≡ grant_text g
    → (name ≡ g.app) × (rest ≡ letters g.rights)
grant_halves word name rest g cut is same =
    cut_same 61 name rest g.app (letters g.rights) cut.first (name_free 61 refl g.app is.name) (sym cut.whole ∙ same)

pub no_grant : (word : List ℕ) → IsFree 61 word → (g : GrantRecord) → word ≡ grant_text g → ⊥
no_grant word free g same = not_free 61 g.app (letters g.rights) (rw same at free)

pub grant_same : (g h : GrantRecord) → IsGrant g → IsGrant h → grant_text g ≡ grant_text h → g ≡ h
grant_same g h ig ih e =
    let halves = cut_same 61 g.app (letters g.rights) h.app (letters h.rights) (name_free 61 refl g.app ig.name) (name_free 61 refl h.app ih.name) e in
    let rights = letters_same g.rights h.rights ig.no_other ih.no_other halves.1 in
    λ i. record { app = halves.0 i; rights = rights i }

-- ---- all grants

append_free : (s : ℕ) (a b : List ℕ) → IsFree s a → IsFree s b → IsFree s (a ++ b)
append_free s a b fa fb = All-append (λ x. (x == s) ≡ false) a b fa fb

pub grant_free : (s : ℕ) → is_name_byte s ≡ false → (61 == s) ≡ false → (g : GrantRecord) → is_app_name g.app ≡ true → IsFree s (letters g.rights) → IsFree s (grant_text g)
grant_free s other equals g name free =
    append_free s g.app (61 ∷ letters g.rights) (name_free s other g.app name) (All-cons (λ x. (x == s) ≡ false) 61 (letters g.rights) equals free)

pub grants_free : (gs : List GrantRecord) → All IsGrant gs → All (IsFree 44) (map grant_text gs)
grants_free [] all = All-nil (IsFree 44)
grants_free (g ∷ gs) all =
    let is = All-head IsGrant g gs all in
    All-cons (IsFree 44) (grant_text g) (map grant_text gs) (grant_free 44 refl refl g is.name (letters_comma g.rights is.no_other))
    (grants_free gs (All-tail IsGrant g gs all))

-- the parts of the text of grants
pub grants_split : (word : List ℕ) (gs : List GrantRecord) → All IsGrant gs → (word ≢ codes "-") → word ≡ grants_text gs
    → slice_split (λ b. b == 44) word ≡ map grant_text gs
grants_split word [] all other same = absurd (other same)
grants_split word (g ∷ gs) all other same = rw same (split_joined 44 (grant_text g) (map grant_text gs) (grants_free (g ∷ gs) all))

-- where some grants and then a piece are the front of the texts of grants, they are the front of these
pub record Goes (gs : List GrantRecord) (p : List ℕ) (hs : List GrantRecord) : Type 0 where
  pub next : GrantRecord
  pub more : List GrantRecord
  pub same : hs ≡ gs ++ (next ∷ more)
  pub text : p ≡ grant_text next
  pub is : IsGrant next

grants_front : (gs : List GrantRecord) (p : List ℕ) (ps : List (List ℕ)) (hs : List GrantRecord) → All IsGrant gs → All IsGrant hs
    → map grant_text gs ++ (p ∷ ps) ≡ map grant_text hs → Goes gs p hs
grants_front [] p ps [] ag ah e = absurd (cc e)
grants_front [] p ps (h ∷ hs) ag ah e = record { next = h; more = hs; same = refl; text = cc e; is = All-head IsGrant h hs ah }
grants_front (g ∷ gs) p ps [] ag ah e = absurd (cc e)
grants_front (g ∷ gs) p ps (h ∷ hs) ag ah e =
    let heads : grant_text g ≡ grant_text h = cc e in
    let tails : map grant_text gs ++ (p ∷ ps) ≡ map grant_text hs = cc e in
    let first : g ≡ h = grant_same g h (All-head IsGrant g gs ag) (All-head IsGrant h hs ah) heads in
    let rest = grants_front gs p ps hs (All-tail IsGrant g gs ag) (All-tail IsGrant h hs ah) tails in
    record { next = rest.next; more = rest.more; same = cc (first, rest.same); text = rest.text; is = rest.is }

pub pieces_go : (word : List ℕ) (items : List (Bor (List ℕ))) (d : Bor (List ℕ)) (gs : List GrantRecord) (i : ℕ) (hs : List GrantRecord)
    → (word ≢ codes "-") → map (λ p. p.now) items ≡ slice_split (λ b. b == 44) word → map grant_text gs ≡ map (λ p. p.now) (take i items)
    → i < length items → All IsGrant gs → AreGrants word hs → Goes gs (get_or items i d).now hs
pieces_go word items d gs i hs other split same inside all are =
    let read : Bor (List ℕ) → List ℕ = λ p. p.now in
    let whole : map read items ≡ map grant_text hs = split ∙ grants_split word hs are.each other are.same in
    let parted : take i items ++ (get_or items i d ∷ drop (suc i) items) ≡ items = rw (← drop-cons items i d inside) (take-append-drop i items) in
    grants_front gs (get_or items i d).now (map read (drop (suc i) items)) hs all are.each
    (ap (λ (front : List (List ℕ)). front ++ ((get_or items i d).now ∷ map read (drop (suc i) items))) same
    ∙ sym (map-append read (take i items) (get_or items i d ∷ drop (suc i) items)) ∙ ap (map read) parted ∙ whole)

-- one grant more, of the next piece
pub pieces_more : (items : List (Bor (List ℕ))) (d : Bor (List ℕ)) (gs : List GrantRecord) (i : ℕ) (g : GrantRecord)
    → map grant_text gs ≡ map (λ p. p.now) (take i items) → i < length items → (get_or items i d).now ≡ grant_text g
    → map grant_text (gs ++ (g ∷ [])) ≡ map (λ p. p.now) (take (i + 1) items)
pieces_more items d gs i g same inside text =
    let read : Bor (List ℕ) → List ℕ = λ p. p.now in
    map-append grant_text gs (g ∷ []) ∙ ap (λ (front : List (List ℕ)). front ++ (grant_text g ∷ [])) same
    ∙ ap (λ (t : List ℕ). map read (take i items) ++ (t ∷ [])) (sym text)
    ∙ sym (map-append read (take i items) (get_or items i d ∷ [])) ∙ ap (map read) (sym (take_more items i d inside))

pub names_push : (gs : List GrantRecord) (g : GrantRecord) → map (λ grant. grant.app) (gs ++ (g ∷ [])) ≡ map (λ grant. grant.app) gs ++ (g.app ∷ [])
names_push gs g = map-append (λ (grant : GrantRecord). grant.app) gs (g ∷ [])

some_part : (word : List ℕ) → slice_split (λ b. b == 44) word ≡ [] → ⊥
some_part word e = let n = length-slice_split (λ b. b == 44) word in let z = ap length e in absurd (omega arith)

-- all pieces are read
pub pieces_done : (word : List ℕ) (items : List (Bor (List ℕ))) (gs : List GrantRecord) (i : ℕ)
    → map (λ p. p.now) items ≡ slice_split (λ b. b == 44) word → map grant_text gs ≡ map (λ p. p.now) (take i items)
    → length items ≤ i → word ≡ grants_text gs
pieces_done word items gs i split same past =
    let read : Bor (List ℕ) → List ℕ = λ p. p.now in
    let whole : map grant_text gs ≡ slice_split (λ b. b == 44) word = same ∙ ap (map read) (take_all i items past) ∙ split in
    by gs whole
  where
    by : (hs : List GrantRecord) → map grant_text hs ≡ slice_split (λ b. b == 44) word → word ≡ grants_text hs
    by [] e = absurd (some_part word (sym e))
    by (h ∷ hs) e = sym (join_with_byte-slice_split 44 word) ∙ ap (join_with_byte 44) (sym e)

-- ---- rising names

pub rising_front : (names more : List (List ℕ)) → IsRising (names ++ more) → IsRising names
rising_front [] more h = tt
rising_front (a ∷ []) more h = tt
rising_front (a ∷ b ∷ names) more h = (h.0, rising_front (b ∷ names) more h.1)

pub rising_push : (front : List (List ℕ)) (last name : List ℕ) → IsRising (front ++ (last ∷ [])) → slice_cmp nat_cmp last name ≡ Less
    → IsRising ((front ++ (last ∷ [])) ++ (name ∷ []))
rising_push [] last name h less = (less, tt)
rising_push (a ∷ []) last name h less = (h.0, (less, tt))
rising_push (a ∷ b ∷ front) last name h less = (h.0, rising_push (b ∷ front) last name h.1 less)

pub rising_last : (front : List (List ℕ)) (last name : List ℕ) → IsRising ((front ++ (last ∷ [])) ++ (name ∷ []))
    → slice_cmp nat_cmp last name ≡ Less
rising_last [] last name h = h.0
rising_last (a ∷ []) last name h = h.1.0
rising_last (a ∷ b ∷ front) last name h = rising_last (b ∷ front) last name h.1

-- the names of grants that go on rise as far as the next
pub rising_next : (gs : List GrantRecord) (g : GrantRecord) (more : List GrantRecord) → IsRising (map (λ grant. grant.app) (gs ++ (g ∷ more)))
    → IsRising (map (λ grant. grant.app) gs ++ (g.app ∷ []))
rising_next gs g more h =
    let names : List GrantRecord → List (List ℕ) = map (λ grant. grant.app) in
    rising_front (names gs ++ (g.app ∷ [])) (names more) (rw append_assoc (rw (← map-append (λ (grant : GrantRecord). grant.app) gs (g ∷ more)) h))

-- a next name that doesn't rise, as the names so far and the next are held
pub not_rising : (gs held : List GrantRecord) (g : GrantRecord) (name : List ℕ) → held ≡ gs → name ≡ g.app
    → (IsRising (map (λ grant. grant.app) held ++ (name ∷ [])) → IsTrue false) → IsRising (map (λ grant. grant.app) gs ++ (g.app ∷ [])) → ⊥
not_rising gs held g name same named never rising =
    let r = rw (← named) at (rw (← same) at rising) in
    let f = never r in
    cc f

pub rises_more : (gs held : List GrantRecord) (g : GrantRecord) (name : List ℕ) → held ≡ gs → name ≡ g.app
    → (IsTrue true → IsRising (map (λ grant. grant.app) held ++ (name ∷ []))) → IsRising (map (λ grant. grant.app) (gs ++ (g ∷ [])))
rises_more gs held g name same named more = rw (names_push gs g, ← named, ← same) (more refl)
