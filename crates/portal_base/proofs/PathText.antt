-- UTF-8, read byte by byte.
use Rattle.std.proofs.Common.{◌≡◌, ◌⊎◌, inl, inr, ℕ, ◌+◌, ◌-◌, ◌*◌, ◌/◌, ◌<◌, ◌≤◌, List, [], ◌∷◌, ◌++◌, Bool, true, false, cond, ◌&&◌, ◌==◌, ltb, leb, Option, Some, None, refl, sym, ap, ◌∙◌, subst, arith, append_assoc}
use Rattle.std.proofs.lemmas.Bool.Decides.{nat_tests, same_from_decides}
use Rattle.std.proofs.lemmas.Str.{IsUtf8-nil, IsUtf8-append, IsUtf8-encode, IsUtf8-from_is_utf8, is_utf8-from_IsUtf8}
use Rattle.std.specs.Char.{IsScalar}
use Rattle.std.specs.Str.{IsUtf8, is_utf8}
use lib.Utf8.{scalar, scalars, next, encode, encodes, scalar_cases, low_scalar}
use Rattle.std.proofs.str.Laws.{one, two, three, four, order}
use Rattle.portal_base.specs.declared.names.path_reader.Next.{Next}
use Rattle.portal_base.specs.declared.names.path_reader.Next.TheVariants.{Lead, Last, TwoMore, ThreeMore, AfterE0, AfterEd, AfterF0, AfterF4}
use Rattle.portal_base.specs.PathReading.{after_lead, within, next_after, is_lead}
use Rattle.portal_base.proofs.PathParts.{if_any}

-- whether the rest of a text goes on well from here
abbrev pub text_takes : Next → List ℕ → Bool
text_takes n [] = is_lead n
text_takes n (b ∷ bs) = if_any (λ m. text_takes m bs) (next_after n b)

-- ---- one byte

in_range : (least most b : ℕ) (n : Next) → least ≤ b → b ≤ most → within least most b n ≡ Some n
in_range least most b n l h = grind (arith, nat_tests)

lead_ascii : (b : ℕ) → b < 128 → after_lead b ≡ Some Lead
lead_ascii b h = grind (arith, nat_tests)

lead_last : (b : ℕ) → 194 ≤ b → b < 224 → after_lead b ≡ Some Last
lead_last b l h = grind (arith, nat_tests)

lead_two : (b : ℕ) → 225 ≤ b → b < 240 → (b ≡ 237 → ⊥) → after_lead b ≡ Some TwoMore
lead_two b l h n = grind (arith, nat_tests)

lead_three : (b : ℕ) → 241 ≤ b → b < 244 → after_lead b ≡ Some ThreeMore
lead_three b l h = grind (arith, nat_tests)

-- one byte taken, and the rest
takes : (n m : Next) (b : ℕ) (bs : List ℕ) → next_after n b ≡ Some m → text_takes n (b ∷ bs) ≡ text_takes m bs
takes n m b bs e = ap (if_any (λ m. text_takes m bs)) e

lead_e0 : (b : ℕ) → b ≡ 224 → after_lead b ≡ Some AfterE0
lead_e0 b e = subst (λ (x : ℕ). after_lead x ≡ Some AfterE0) (sym e) refl

lead_ed : (b : ℕ) → b ≡ 237 → after_lead b ≡ Some AfterEd
lead_ed b e = subst (λ (x : ℕ). after_lead x ≡ Some AfterEd) (sym e) refl

lead_f0 : (b : ℕ) → b ≡ 240 → after_lead b ≡ Some AfterF0
lead_f0 b e = subst (λ (x : ℕ). after_lead x ≡ Some AfterF0) (sym e) refl

lead_f4 : (b : ℕ) → b ≡ 244 → after_lead b ≡ Some AfterF4
lead_f4 b e = subst (λ (x : ℕ). after_lead x ≡ Some AfterF4) (sym e) refl

-- ---- the bytes of a character are taken

last_taken : (c : ℕ) (bs : List ℕ) → text_takes Last (next c ∷ bs) ≡ text_takes Lead bs
last_taken c bs = takes Last Lead (next c) bs (in_range 128 191 (next c) Lead (omega arith) (omega arith))

two_taken : (c : ℕ) (bs : List ℕ) → text_takes TwoMore (next c ∷ bs) ≡ text_takes Last bs
two_taken c bs = takes TwoMore Last (next c) bs (in_range 128 191 (next c) Last (omega arith) (omega arith))

three_taken : (c : ℕ) (bs : List ℕ) → text_takes ThreeMore (next c ∷ bs) ≡ text_takes TwoMore bs
three_taken c bs = takes ThreeMore TwoMore (next c) bs (in_range 128 191 (next c) TwoMore (omega arith) (omega arith))

-- the first two bytes of three
begun_three : (c : ℕ) (bs : List ℕ) → IsScalar c → 2048 ≤ c → c < 65536 → text_takes Lead ((224 + c / 4096) ∷ (next (c / 64) ∷ bs)) ≡ text_takes Last bs
begun_three c bs s l h = by (order c 4096) (order c 53248) (order c 57344)
  where
    by : (c < 4096) ⊎ (4096 ≤ c) → (c < 53248) ⊎ (53248 ≤ c) → (c < 57344) ⊎ (57344 ≤ c) → text_takes Lead ((224 + c / 4096) ∷ (next (c / 64) ∷ bs)) ≡ text_takes Last bs
    by (inl k) _ _ = takes Lead AfterE0 (224 + c / 4096) (next (c / 64) ∷ bs) (lead_e0 (224 + c / 4096) (omega arith)) ∙ takes AfterE0 Last (next (c / 64)) bs (in_range 160 191 (next (c / 64)) Last (omega arith) (omega arith))
    by (inr k) (inl m) _ = takes Lead TwoMore (224 + c / 4096) (next (c / 64) ∷ bs) (lead_two (224 + c / 4096) (omega arith) (omega arith) (λ e. omega arith)) ∙ two_taken (c / 64) bs
    by (inr k) (inr m) (inl n) = takes Lead AfterEd (224 + c / 4096) (next (c / 64) ∷ bs) (lead_ed (224 + c / 4096) (omega arith)) ∙ takes AfterEd Last (next (c / 64)) bs (in_range 128 159 (next (c / 64)) Last (omega arith) (below (scalar_cases c s)))
      where
        below : (c < 55296) ⊎ ((57344 ≤ c) × (c < 1114112)) → next (c / 64) ≤ 159
        below (inl f) = omega arith
        below (inr f) = absurd (let g = f.0 in omega arith)
    by (inr k) (inr m) (inr n) = takes Lead TwoMore (224 + c / 4096) (next (c / 64) ∷ bs) (lead_two (224 + c / 4096) (omega arith) (omega arith) (λ e. omega arith)) ∙ two_taken (c / 64) bs

scalar_below : (c : ℕ) → IsScalar c → c < 1114112
scalar_below c s = by (scalar_cases c s)
  where
    by : (c < 55296) ⊎ ((57344 ≤ c) × (c < 1114112)) → c < 1114112
    by (inl f) = omega arith
    by (inr f) = f.1

-- the first two bytes of four
begun_four : (c : ℕ) (bs : List ℕ) → IsScalar c → 65536 ≤ c → text_takes Lead ((240 + c / 262144) ∷ (next (c / 4096) ∷ bs)) ≡ text_takes TwoMore bs
begun_four c bs s l = by (scalar_below c s) (order c 262144) (order c 1048576)
  where
    by : c < 1114112 → (c < 262144) ⊎ (262144 ≤ c) → (c < 1048576) ⊎ (1048576 ≤ c) → text_takes Lead ((240 + c / 262144) ∷ (next (c / 4096) ∷ bs)) ≡ text_takes TwoMore bs
    by top (inl k) _ = takes Lead AfterF0 (240 + c / 262144) (next (c / 4096) ∷ bs) (lead_f0 (240 + c / 262144) (omega arith)) ∙ takes AfterF0 TwoMore (next (c / 4096)) bs (in_range 144 191 (next (c / 4096)) TwoMore (omega arith) (omega arith))
    by top (inr k) (inl m) = takes Lead ThreeMore (240 + c / 262144) (next (c / 4096) ∷ bs) (lead_three (240 + c / 262144) (omega arith) (omega arith)) ∙ three_taken (c / 4096) bs
    by top (inr k) (inr m) = takes Lead AfterF4 (240 + c / 262144) (next (c / 4096) ∷ bs) (lead_f4 (240 + c / 262144) (omega arith)) ∙ takes AfterF4 TwoMore (next (c / 4096)) bs (in_range 128 143 (next (c / 4096)) TwoMore (omega arith) (omega arith))

char_taken : (c : ℕ) (bs : List ℕ) → IsScalar c → text_takes Lead (encode c ++ bs) ≡ text_takes Lead bs
char_taken c bs s = by (order c 128) (order c 2048) (order c 65536)
  where
    at : (p : List ℕ) → encode c ≡ p → text_takes Lead (encode c ++ bs) ≡ text_takes Lead (p ++ bs)
    at p e = ap (λ (q : List ℕ). text_takes Lead (q ++ bs)) e

    by : (c < 128) ⊎ (128 ≤ c) → (c < 2048) ⊎ (2048 ≤ c) → (c < 65536) ⊎ (65536 ≤ c) → text_takes Lead (encode c ++ bs) ≡ text_takes Lead bs
    by (inl h) _ _ = at (c ∷ []) (one c h) ∙ takes Lead Lead c bs (lead_ascii c h)
    by (inr l) (inl h) _ = at ((192 + c / 64) ∷ (next c ∷ [])) (two c l h) ∙ takes Lead Last (192 + c / 64) (next c ∷ bs) (lead_last (192 + c / 64) (omega arith) (omega arith)) ∙ last_taken c bs
    by (inr _) (inr l) (inl h) = at ((224 + c / 4096) ∷ (next (c / 64) ∷ (next c ∷ []))) (three c l h) ∙ begun_three c (next c ∷ bs) s l h ∙ last_taken c bs
    by (inr _) (inr _) (inr l) = at ((240 + c / 262144) ∷ (next (c / 4096) ∷ (next (c / 64) ∷ (next c ∷ [])))) (four c l) ∙ begun_four c (next (c / 64) ∷ (next c ∷ bs)) s l ∙ two_taken (c / 64) (next c ∷ bs) ∙ last_taken c bs

both_true : (x y : Bool) → (x && y) ≡ true → (x ≡ true) × (y ≡ true)
both_true true y e = (refl, e)
both_true false y e = absurd (cc)

chars_taken : (cs : List ℕ) → scalars cs ≡ true → text_takes Lead (encodes cs) ≡ true
chars_taken [] s = refl
chars_taken (c ∷ cs) s = let h = both_true (scalar c) (scalars cs) s in char_taken c (encodes cs) h.0 ∙ chars_taken cs h.1

text_taken : (t : List ℕ) → IsUtf8 t → text_takes Lead t ≡ true
text_taken t u = ap (text_takes Lead) (sym u.1.1) ∙ chars_taken u.0 u.1.0

-- ---- what is taken is a text

scalar_low : (c : ℕ) → c < 55296 → IsScalar c
scalar_low c h = low_scalar c h

scalar_high : (c : ℕ) → 57344 ≤ c → c < 1114112 → IsScalar c
scalar_high c l h = grind (arith, nat_tests)

spelled : (c : ℕ) (p : List ℕ) → IsScalar c → encode c ≡ p → IsUtf8 p
spelled c p s e = subst IsUtf8 e (IsUtf8-encode c s)

-- with the tails that are still to come, these bytes are a character
abbrev OneTail : List ℕ → Type 0
OneTail p = (b : ℕ) → 128 ≤ b → b ≤ 191 → IsUtf8 (p ++ b ∷ [])

abbrev TwoTails : List ℕ → Type 0
TwoTails p = (b : ℕ) → 128 ≤ b → b ≤ 191 → OneTail (p ++ b ∷ [])

abbrev Pends : Next → List ℕ → Type 0
Pends Lead p = p ≡ []
Pends Last p = OneTail p
Pends TwoMore p = TwoTails p
Pends ThreeMore p = (b : ℕ) → 128 ≤ b → b ≤ 191 → TwoTails (p ++ b ∷ [])
Pends AfterE0 p = (b : ℕ) → 160 ≤ b → b ≤ 191 → OneTail (p ++ b ∷ [])
Pends AfterEd p = (b : ℕ) → 128 ≤ b → b ≤ 159 → OneTail (p ++ b ∷ [])
Pends AfterF0 p = (b : ℕ) → 144 ≤ b → b ≤ 191 → TwoTails (p ++ b ∷ [])
Pends AfterF4 p = (b : ℕ) → 128 ≤ b → b ≤ 143 → TwoTails (p ++ b ∷ [])

spelled_two : (a b : ℕ) → 194 ≤ a → a < 224 → 128 ≤ b → b ≤ 191 → IsUtf8 (a ∷ b ∷ [])
spelled_two a b l h m n =
    let c : ℕ = (a - 192) * 64 + (b - 128) in
    let x : 192 + c / 64 ≡ a = omega arith in
    let y : next c ≡ b = omega arith in
    spelled c (a ∷ b ∷ []) (scalar_low c (omega arith)) (two c (omega arith) (omega arith) ∙ (λ i. x i ∷ y i ∷ []))

spelled_three : (a b d : ℕ) → 224 ≤ a → a < 240 → 128 ≤ b → b ≤ 191 → 128 ≤ d → d ≤ 191 → 2048 ≤ (a - 224) * 4096 + (b - 128) * 64 + (d - 128) → IsScalar ((a - 224) * 4096 + (b - 128) * 64 + (d - 128)) → IsUtf8 (a ∷ b ∷ d ∷ [])
spelled_three a b d l h m n o p least s =
    let c : ℕ = (a - 224) * 4096 + (b - 128) * 64 + (d - 128) in
    let x : 224 + c / 4096 ≡ a = omega arith in
    let y : next (c / 64) ≡ b = omega arith in
    let z : next c ≡ d = omega arith in
    spelled c (a ∷ b ∷ d ∷ []) s (three c least (omega arith) ∙ (λ i. x i ∷ y i ∷ z i ∷ []))

spelled_four : (a b d e : ℕ) → 240 ≤ a → a ≤ 244 → 128 ≤ b → b ≤ 191 → 128 ≤ d → d ≤ 191 → 128 ≤ e → e ≤ 191 → 65536 ≤ (a - 240) * 262144 + (b - 128) * 4096 + (d - 128) * 64 + (e - 128) → (a - 240) * 262144 + (b - 128) * 4096 + (d - 128) * 64 + (e - 128) < 1114112 → IsUtf8 (a ∷ b ∷ d ∷ e ∷ [])
spelled_four a b d e l h m n o p q r least most =
    let c : ℕ = (a - 240) * 262144 + (b - 128) * 4096 + (d - 128) * 64 + (e - 128) in
    let w : 240 + c / 262144 ≡ a = omega arith in
    let x : next (c / 4096) ≡ b = omega arith in
    let y : next (c / 64) ≡ d = omega arith in
    let z : next c ≡ e = omega arith in
    spelled c (a ∷ b ∷ d ∷ e ∷ []) (scalar_high c (omega arith) most) (four c least ∙ (λ i. w i ∷ x i ∷ y i ∷ z i ∷ []))

begun_last : (a : ℕ) → 194 ≤ a → a < 224 → Pends Last (a ∷ [])
begun_last a l h = λ b m n. spelled_two a b l h m n

begun_e0 : (a : ℕ) → a ≡ 224 → Pends AfterE0 (a ∷ [])
begun_e0 a k = λ b m n d o p. spelled_three a b d (omega arith) (omega arith) (omega arith) n o p (omega arith) (scalar_low ((a - 224) * 4096 + (b - 128) * 64 + (d - 128)) (omega arith))

begun_ed : (a : ℕ) → a ≡ 237 → Pends AfterEd (a ∷ [])
begun_ed a k = λ b m n d o p. spelled_three a b d (omega arith) (omega arith) m (omega arith) o p (omega arith) (scalar_low ((a - 224) * 4096 + (b - 128) * 64 + (d - 128)) (omega arith))

begun_two : (a : ℕ) → 225 ≤ a → a < 240 → (a ≡ 237 → ⊥) → Pends TwoMore (a ∷ [])
begun_two a l h k = λ b m n d o p. spelled_three a b d (omega arith) h m n o p (omega arith) (by (order a 237) b m n d o p)
  where
    by : (a < 237) ⊎ (237 ≤ a) → (b : ℕ) → 128 ≤ b → b ≤ 191 → (d : ℕ) → 128 ≤ d → d ≤ 191 → IsScalar ((a - 224) * 4096 + (b - 128) * 64 + (d - 128))
    by (inl f) b m n d o p = scalar_low ((a - 224) * 4096 + (b - 128) * 64 + (d - 128)) (omega arith)
    by (inr f) b m n d o p = let g : 238 ≤ a = omega arith in scalar_high ((a - 224) * 4096 + (b - 128) * 64 + (d - 128)) (omega arith) (omega arith)

begun_f0 : (a : ℕ) → a ≡ 240 → Pends AfterF0 (a ∷ [])
begun_f0 a k = λ b m n d o p e q r. spelled_four a b d e (omega arith) (omega arith) (omega arith) n o p q r (omega arith) (omega arith)

begun_three_more : (a : ℕ) → 241 ≤ a → a < 244 → Pends ThreeMore (a ∷ [])
begun_three_more a l h = λ b m n d o p e q r. spelled_four a b d e (omega arith) (omega arith) m n o p q r (omega arith) (omega arith)

begun_f4 : (a : ℕ) → a ≡ 244 → Pends AfterF4 (a ∷ [])
begun_f4 a k = λ b m n d o p e q r. spelled_four a b d e (omega arith) (omega arith) m (omega arith) o p q r (omega arith) (omega arith)

-- a first byte that is taken, and what is taken behind it
abbrev Takes : Option Next → List ℕ → Type 0
Takes o bs = if_any (λ m. text_takes m bs) o ≡ true

data Led (a : ℕ) (bs : List ℕ) : Type 0 where
  ascii : a < 128 → text_takes Lead bs ≡ true → Led a bs
  longer : (m : Next) → Pends m (a ∷ []) → text_takes m bs ≡ true → Led a bs

led : (a : ℕ) (bs : List ℕ) → Takes (after_lead a) bs → Led a bs
led a bs t = by (ltb a 128) (ltb a 194) (ltb a 224) (a == 224) (a == 237) (ltb a 240) (a == 240) (ltb a 244) (a == 244) refl refl refl refl refl refl refl refl refl t
  where
    by : (s u v w x y z k m : Bool) → ltb a 128 ≡ s → ltb a 194 ≡ u → ltb a 224 ≡ v → (a == 224) ≡ w → (a == 237) ≡ x → ltb a 240 ≡ y → (a == 240) ≡ z → ltb a 244 ≡ k → (a == 244) ≡ m
        → Takes (cond s (Some Lead) (cond u None (cond v (Some Last) (cond w (Some AfterE0) (cond x (Some AfterEd) (cond y (Some TwoMore) (cond z (Some AfterF0) (cond k (Some ThreeMore) (cond m (Some AfterF4) None))))))))) bs → Led a bs
    by true u v w x y z k m s' u' v' w' x' y' z' k' m' t = ascii (grind (arith, nat_tests)) t
    by false true v w x y z k m s' u' v' w' x' y' z' k' m' t = absurd (cc)
    by false false true w x y z k m s' u' v' w' x' y' z' k' m' t = longer Last (begun_last a (grind (arith, nat_tests)) (grind (arith, nat_tests))) t
    by false false false true x y z k m s' u' v' w' x' y' z' k' m' t = longer AfterE0 (begun_e0 a (grind (arith, nat_tests))) t
    by false false false false true y z k m s' u' v' w' x' y' z' k' m' t = longer AfterEd (begun_ed a (grind (arith, nat_tests))) t
    by false false false false false true z k m s' u' v' w' x' y' z' k' m' t = longer TwoMore (begun_two a (grind (arith, nat_tests)) (grind (arith, nat_tests)) (grind (arith, nat_tests))) t
    by false false false false false false true k m s' u' v' w' x' y' z' k' m' t = longer AfterF0 (begun_f0 a (grind (arith, nat_tests))) t
    by false false false false false false false true m s' u' v' w' x' y' z' k' m' t = longer ThreeMore (begun_three_more a (grind (arith, nat_tests)) (grind (arith, nat_tests))) t
    by false false false false false false false false true s' u' v' w' x' y' z' k' m' t = longer AfterF4 (begun_f4 a (grind (arith, nat_tests))) t
    by false false false false false false false false false s' u' v' w' x' y' z' k' m' t = absurd (cc)

went : (least most b : ℕ) (m : Next) (bs : List ℕ) → Takes (within least most b m) bs → (least ≤ b) × (b ≤ most) × (text_takes m bs ≡ true)
went least most b m bs t = by (leb least b) (leb b most) refl refl t
  where
    by : (x y : Bool) → leb least b ≡ x → leb b most ≡ y → Takes (cond (x && y) (Some m) None) bs → (least ≤ b) × (b ≤ most) × (text_takes m bs ≡ true)
    by true true e f t = (grind (arith, nat_tests), grind (arith, nat_tests), t)
    by true false e f t = absurd (cc)
    by false y e f t = absurd (cc)

-- what is begun and what is taken are a text together
pending : (n : Next) (p t : List ℕ) → Pends n p → text_takes n t ≡ true → IsUtf8 (p ++ t)
pending Lead p [] h e = subst (λ (q : List ℕ). IsUtf8 (q ++ [])) (sym h) IsUtf8-nil
pending Last p [] h e = absurd (cc)
pending TwoMore p [] h e = absurd (cc)
pending ThreeMore p [] h e = absurd (cc)
pending AfterE0 p [] h e = absurd (cc)
pending AfterEd p [] h e = absurd (cc)
pending AfterF0 p [] h e = absurd (cc)
pending AfterF4 p [] h e = absurd (cc)
pending Lead p (b ∷ bs) h e = subst (λ (q : List ℕ). IsUtf8 (q ++ b ∷ bs)) (sym h) (by (led b bs e) (λ m. pending m (b ∷ []) bs) (pending Lead [] bs refl))
  where
    by : Led b bs → ((m : Next) → Pends m (b ∷ []) → text_takes m bs ≡ true → IsUtf8 ((b ∷ []) ++ bs)) → (text_takes Lead bs ≡ true → IsUtf8 bs) → IsUtf8 (b ∷ bs)
    by (ascii l t) more rest = IsUtf8-append (b ∷ []) bs (spelled b (b ∷ []) (scalar_low b (omega arith)) (one b l)) (rest t)
    by (longer m k t) more rest = more m k t
pending Last p (b ∷ bs) h e =
    let w = went 128 191 b Lead bs e in
    subst IsUtf8 (append_assoc p (b ∷ []) bs) (IsUtf8-append (p ++ b ∷ []) bs (h b w.0 w.1) (pending Lead [] bs refl w.2))
pending TwoMore p (b ∷ bs) h e = let w = went 128 191 b Last bs e in subst IsUtf8 (append_assoc p (b ∷ []) bs) (pending Last (p ++ b ∷ []) bs (h b w.0 w.1) w.2)
pending ThreeMore p (b ∷ bs) h e = let w = went 128 191 b TwoMore bs e in subst IsUtf8 (append_assoc p (b ∷ []) bs) (pending TwoMore (p ++ b ∷ []) bs (h b w.0 w.1) w.2)
pending AfterE0 p (b ∷ bs) h e = let w = went 160 191 b Last bs e in subst IsUtf8 (append_assoc p (b ∷ []) bs) (pending Last (p ++ b ∷ []) bs (h b w.0 w.1) w.2)
pending AfterEd p (b ∷ bs) h e = let w = went 128 159 b Last bs e in subst IsUtf8 (append_assoc p (b ∷ []) bs) (pending Last (p ++ b ∷ []) bs (h b w.0 w.1) w.2)
pending AfterF0 p (b ∷ bs) h e = let w = went 144 191 b TwoMore bs e in subst IsUtf8 (append_assoc p (b ∷ []) bs) (pending TwoMore (p ++ b ∷ []) bs (h b w.0 w.1) w.2)
pending AfterF4 p (b ∷ bs) h e = let w = went 128 143 b TwoMore bs e in subst IsUtf8 (append_assoc p (b ∷ []) bs) (pending TwoMore (p ++ b ∷ []) bs (h b w.0 w.1) w.2)

-- a text is read as UTF-8 exactly where it is UTF-8
pub text_read : (t : List ℕ) → text_takes Lead t ≡ is_utf8 t
text_read t = same_from_decides (text_takes Lead t) (is_utf8 t) (pending Lead [] t refl, text_taken t) (IsUtf8-from_is_utf8 t, is_utf8-from_IsUtf8 t)
