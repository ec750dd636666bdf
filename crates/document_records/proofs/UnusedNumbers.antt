-- The walk over made numbers, from a word on.
use Rattle.std.proofs.Common.{◌≡◌, ℕ, ◌+◌, ◌%◌, ◌^◌, ◌<◌, ◌≤◌, ◌==◌, leb, ltb, List, [], ◌∷◌, length, Bool, true, false, ◌||◌, cond, refl, sym, ap, subst, ◌∙◌, arith}
use Rattle.std.proofs.lemmas.Bool.Decides.{nat_tests}
use Rattle.portal_base.specs.declared.names.doc_id.DocId.{DocId}
use Rattle.portal_model.specs.Valid.{is_made}
use Rattle.portal_model.specs.Documents.{above}
use Rattle.portal_model.proofs.TripleOrder.{nat_is}

-- how many made numbers lie at least so far above the word
abbrev pub left : ℕ → ℕ → List DocId → ℕ
left word n [] = 0
left word n (id ∷ ids) = cond (leb n (above word id.number)) 1 0 + left word n ids

pub left-all : (word n : ℕ) (ids : List DocId) → left word n ids ≤ length ids
left-all word n [] = omega arith
left-all word n (id ∷ ids) = grind (arith, left-all word n ids)

left-next : (word n : ℕ) (ids : List DocId) → left word (n + 1) ids ≤ left word n ids
left-next word n [] = omega arith
left-next word n (id ∷ ids) = grind (arith, nat_tests, left-next word n ids)

here-less : (a x l m : ℕ) → x ≡ a → m ≤ l → cond (leb (a + 1) x) 1 0 + m + 1 ≤ cond (leb a x) 1 0 + l
here-less a x l m e h = grind (arith, nat_tests)

there-less : (a x l m : ℕ) → m + 1 ≤ l → cond (leb (a + 1) x) 1 0 + m + 1 ≤ cond (leb a x) 1 0 + l
there-less a x l m h = grind (arith, nat_tests)

-- a made number at that distance is no longer left
pub left-less : (word number : ℕ) (ids : List DocId) → is_made ids number ≡ true → left word (above word number + 1) ids + 1 ≤ left word (above word number) ids
left-less word number [] h = cc
left-less word number (id ∷ ids) h = step (id.number == number) refl (left-less word number ids)
  where
    step : (b : Bool) → (id.number == number) ≡ b → (is_made ids number ≡ true → left word (above word number + 1) ids + 1 ≤ left word (above word number) ids) →
        left word (above word number + 1) (id ∷ ids) + 1 ≤ left word (above word number) (id ∷ ids)
    step true e more = here-less (above word number) (above word id.number) (left word (above word number) ids) (left word (above word number + 1) ids) (ap (above word) (nat_is id.number number e)) (left-next word (above word number) ids)
    step false e more =
        let m : is_made ids number ≡ true = sym (ap (λ (b : Bool). b || is_made ids number) e) ∙ h in
        there-less (above word number) (above word id.number) (left word (above word number) ids) (left word (above word number + 1) ids) (more m)

pub above-next : (word number : ℕ) → word < 2 ^ 32 → number < 2 ^ 32 → above word number + 1 < 2 ^ 32 → above word ((number + 1) % 2 ^ 32) ≡ above word number + 1
above-next word number w n h = omega arith

pub above-apart : (word a b : ℕ) → word < 2 ^ 32 → a < 2 ^ 32 → b < 2 ^ 32 → above word a ≡ above word b → a ≡ b
above-apart word a b w h k e = omega arith

pub above-word : (word : ℕ) → word < 2 ^ 32 → above word word ≡ 0
above-word word w = omega arith

-- ---- a step of the walk

-- every nearer number is made, and not all made numbers are passed
pub record Walked (made : List DocId) (word number : ℕ) : Type 0 where
  pub small : number < 2 ^ 32
  pub nearer : (other : ℕ) → other < 2 ^ 32 → above word other < above word number → is_made made other ≡ true
  pub rest : above word number + left word (above word number) made ≤ length made

pub walked-none : (made : List DocId) (word : ℕ) → word < 2 ^ 32 → Walked made word word
walked-none made word w = record {
  small = w;
  nearer = λ other o h. absurd (let e : above word word ≡ 0 = above-word word w in omega arith);
  rest = let e : above word word ≡ 0 = above-word word w in let l : left word (above word word) made ≤ length made = left-all word (above word word) made in omega arith;
}

nearer-cases : (made : List DocId) (word number : ℕ) → word < 2 ^ 32 → Walked made word number → is_made made number ≡ true →
    (other : ℕ) → other < 2 ^ 32 → above word other < above word number + 1 → is_made made other ≡ true
nearer-cases made word number w k m other o h = step (ltb (above word other) (above word number)) refl
  where
    step : (b : Bool) → ltb (above word other) (above word number) ≡ b → is_made made other ≡ true
    step true e = k.nearer other o (less-of (above word other) (above word number) e)
      where
        less-of : (a b : ℕ) → ltb a b ≡ true → a < b
        less-of a b h = grind (arith, nat_tests)
    step false e =
        let same : other ≡ number = above-apart word other number w o k.small (same-of (above word other) (above word number) e h) in
        ap (λ (n : ℕ). is_made made n) same ∙ m
      where
        same-of : (a b : ℕ) → ltb a b ≡ false → a < b + 1 → a ≡ b
        same-of a b h l = grind (arith, nat_tests)

pub room-above : (made : List DocId) (word number most : ℕ) → length made ≤ most → most < 2 ^ 32 → Walked made word number → is_made made number ≡ true → above word number + 1 < 2 ^ 32
room-above made word number most l m k h = let d : left word (above word number + 1) made + 1 ≤ left word (above word number) made = left-less word number made h in let r : above word number + left word (above word number) made ≤ length made = k.rest in far (above word number) (left word (above word number + 1) made) (left word (above word number) made) (length made) most d r l m
  where
    far : (a x y n most : ℕ) → x + 1 ≤ y → a + y ≤ n → n ≤ most → most < 2 ^ 32 → a + 1 < 2 ^ 32
    far a x y n most d r l m = omega arith

pub walked-more : (made : List DocId) (word number most : ℕ) → word < 2 ^ 32 → length made ≤ most → most < 2 ^ 32 → Walked made word number → is_made made number ≡ true →
    Walked made word ((number + 1) % 2 ^ 32)
walked-more made word number most w l m k h =
    let n : above word ((number + 1) % 2 ^ 32) ≡ above word number + 1 = above-next word number w k.small (room-above made word number most l m k h) in
    record {
      small = omega arith;
      nearer = subst (λ (a : ℕ). (other : ℕ) → other < 2 ^ 32 → above word other < a → is_made made other ≡ true) (sym n) (nearer-cases made word number w k h);
      rest = subst (λ (a : ℕ). a + left word a made ≤ length made) (sym n) (step (above word number) (left word (above word number + 1) made) (left word (above word number) made) (length made) (left-less word number made h) k.rest);
    }
  where
    step : (a x y n : ℕ) → x + 1 ≤ y → a + y ≤ n → a + 1 + x ≤ n
    step a x y n d r = omega arith

pub fewer-left : (made : List DocId) (word number most : ℕ) → word < 2 ^ 32 → length made ≤ most → most < 2 ^ 32 → Walked made word number → is_made made number ≡ true →
    left word (above word ((number + 1) % 2 ^ 32)) made < left word (above word number) made
fewer-left made word number most w l m k h =
    subst (λ (a : ℕ). left word a made < left word (above word number) made) (sym (above-next word number w k.small (room-above made word number most l m k h)))
    (step (left word (above word number + 1) made) (left word (above word number) made) (left-less word number made h))
  where
    step : (x y : ℕ) → x + 1 ≤ y → x < y
    step x y d = omega arith
