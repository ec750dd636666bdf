-- Names that rise, by their places.
use Rattle.std.proofs.Common.{◌≡◌, ℕ, ◌+◌, ◌-◌, ◌<◌, ◌≤◌, List, [], ◌∷◌, length, map, refl, arith, zero, suc, get_or, Less, nat_cmp, inl, inr}
use Rattle.std.proofs.lemmas.Bool.{cases_lt}
use Rattle.std.proofs.lemmas.List.{length-map}
use Rattle.std.specs.Cmp.Lexicographic.{slice_cmp}
use Rattle.record_keeper.specs.SoundRecords.{IsRising}

-- each stands behind the one before it
abbrev pub RiseByPlaces : List (List ℕ) → Type 0
RiseByPlaces names = (k : ℕ) → suc k < length names → slice_cmp nat_cmp (get_or names k []) (get_or names (suc k) []) ≡ Less

pub rising_at : (names : List (List ℕ)) → IsRising names → RiseByPlaces names
rising_at [] h k inside = absurd (omega arith)
rising_at (a ∷ []) h k inside = absurd (omega arith)
rising_at (a ∷ b ∷ names) h zero inside = h.0
rising_at (a ∷ b ∷ names) h (suc k) inside = rising_at (b ∷ names) h.1 k (omega arith)

pub rising_from : (names : List (List ℕ)) → RiseByPlaces names → IsRising names
rising_from [] h = tt
rising_from (a ∷ []) h = tt
rising_from (a ∷ b ∷ names) h = (h zero (omega arith), rising_from (b ∷ names) (λ k inside. h (suc k) (omega arith)))

-- ---- the keys of items

module _ {X : Type 0} (key : X → List ℕ) where
  abbrev pub keys : List X → List (List ℕ)
  keys items = map key items

  key_at : (items : List X) (k : ℕ) (d : X) → k < length items → get_or (keys items) k [] ≡ key (get_or items k d)
  key_at [] k d inside = absurd (omega arith)
  key_at (item ∷ items) zero d inside = refl
  key_at (item ∷ items) (suc k) d inside = key_at items k d (omega arith)

  pub rises_there : (items : List X) (i : ℕ) (d e : X) → 1 ≤ i → i < length items → IsRising (keys items)
      → slice_cmp nat_cmp (key (get_or items (i - 1) d)) (key (get_or items i e)) ≡ Less
  rises_there items zero d e low inside rising = absurd (omega arith)
  rises_there items (suc k) d e low inside rising =
      let before : suc k - 1 ≡ k = omega arith in
      let there = rising_at (keys items) rising k (rw length-map inside) in
      rw (before, ← key_at items k d (omega arith), ← key_at items (suc k) e inside) there

  pub rises_more : (items : List X) (i : ℕ) (d e : X) → 1 ≤ i → i < length items → slice_cmp nat_cmp (key (get_or items (i - 1) d)) (key (get_or items i e)) ≡ Less
      → ((k : ℕ) → suc k < i → suc k < length items → slice_cmp nat_cmp (get_or (keys items) k []) (get_or (keys items) (suc k) []) ≡ Less)
      → (k : ℕ) → suc k < i + 1 → suc k < length items → slice_cmp nat_cmp (get_or (keys items) k []) (get_or (keys items) (suc k) []) ≡ Less
  rises_more items zero d e low inside less so_far k early within = absurd (omega arith)
  rises_more items (suc j) d e low inside less so_far k early within = elim (cases_lt (suc k) (suc j)) [
    | inl before ↦ so_far k before within
    | inr now ↦
        let this : k ≡ j = omega arith in
        let before : suc j - 1 ≡ j = omega arith in
        rw (this, key_at items j d (omega arith), key_at items (suc j) e inside) (rw before at less)
  ]

  pub rises_all : (items : List X) (i : ℕ) → length items ≤ i → 1 ≤ i
      → ((k : ℕ) → suc k < i → suc k < length items → slice_cmp nat_cmp (get_or (keys items) k []) (get_or (keys items) (suc k) []) ≡ Less) → IsRising (keys items)
  rises_all items i past low so_far = rising_from (keys items) (λ k inside. let n = length-map items key in so_far k (omega arith) (omega arith))
