-- Items that are good behind those before them.
use Rattle.std.proofs.Common.{◌≡◌, ℕ, ◌+◌, ◌<◌, ◌≤◌, List, [], ◌∷◌, ◌++◌, length, take, drop, get_or, suc, refl, sym, ap, ◌∙◌, arith, append_assoc, length-take}
use Rattle.std.proofs.Math.Seq.{drop-cons}
use Rattle.std.proofs.lemmas.List.{take_more, take-append-drop}
use Rattle.record_keeper.specs.BadRecords.{EachBehind, AllGood, IsFirstBad}
use Rattle.record_keeper.proofs.StoppedReader.{append_nil}

module _ {X : Type 0} (Good : List X → X → Type 0) where
  pub each_push : (earlier items : List X) (item : X) → EachBehind Good earlier items → Good (earlier ++ items) item → EachBehind Good earlier (items ++ (item ∷ []))
  each_push earlier [] item all one = (rw append_nil at one, tt)
  each_push earlier (x ∷ xs) item all one = (all.0, each_push (earlier ++ (x ∷ [])) xs item all.1 (rw append_assoc one))

  pub good_more : (items : List X) (i : ℕ) (d : X) → i < length items → AllGood Good (take i items) → Good (take i items) (get_or items i d)
      → AllGood Good (take (i + 1) items)
  good_more items i d inside all one = rw (take_more items i d inside) (each_push [] (take i items) (get_or items i d) all one)

  take_length : (items : List X) (i : ℕ) → i ≤ length items → i ≡ length (take i items)
  take_length items i inside = omega (arith, length-take i items)

  cut_at : (items : List X) (i : ℕ) (d : X) → i < length items → items ≡ take i items ++ (get_or items i d ∷ drop (suc i) items)
  cut_at items i d inside = sym (take-append-drop i items) ∙ ap (λ (t : List X). take i items ++ t) (drop-cons items i d inside)

  pub first_bad : (items : List X) (i : ℕ) (d : X) → i < length items → AllGood Good (take i items) → (Good (take i items) (get_or items i d) → ⊥)
      → IsFirstBad Good items i
  first_bad items i d inside all bad = (
    take i items,
    get_or items i d,
    drop (suc i) items,
    cut_at items i d inside,
    all,
    bad,
    take_length items i (omega arith),
  )

  -- ---- there is one first

  one_front : (before others earlier : List X) (bad other : X) (behind more : List X) → before ++ (bad ∷ behind) ≡ others ++ (other ∷ more)
      → EachBehind Good earlier before → EachBehind Good earlier others → (Good (earlier ++ before) bad → ⊥) → (Good (earlier ++ others) other → ⊥)
      → length before ≡ length others
  one_front [] [] earlier bad other behind more e good fine is_bad is_other = refl
  one_front [] (y ∷ ys) earlier bad other behind more e good fine is_bad is_other =
      let same : bad ≡ y = cc e in absurd (is_bad (rw (append_nil, same) fine.0))
  one_front (x ∷ xs) [] earlier bad other behind more e good fine is_bad is_other =
      let same : x ≡ other = cc e in absurd (is_other (rw (append_nil, ← same) good.0))
  one_front (x ∷ xs) (y ∷ ys) earlier bad other behind more e good fine is_bad is_other =
      let head : x ≡ y = cc e in
      let tail : xs ++ (bad ∷ behind) ≡ ys ++ (other ∷ more) = cc e in
      ap suc (one_front xs ys (earlier ++ (x ∷ [])) bad other behind more tail good.1 (rw head fine.1) (rw append_assoc is_bad) (rw (append_assoc, head) is_other))

  pub one_first : (items : List X) (place other : ℕ) → IsFirstBad Good items place → IsFirstBad Good items other → place ≡ other
  one_first items place other (a, x, b, parts, good, bad, is) (c, y, d, others, fine, worse, at) =
      is ∙ one_front a c [] x y b d (sym parts ∙ others) good fine bad worse ∙ sym at

  some_bad : (before earlier : List X) (bad : X) (behind : List X) → EachBehind Good earlier (before ++ (bad ∷ behind)) → (Good (earlier ++ before) bad → ⊥) → ⊥
  some_bad [] earlier bad behind all is_bad = is_bad (rw append_nil all.0)
  some_bad (x ∷ xs) earlier bad behind all is_bad = some_bad xs (earlier ++ (x ∷ [])) bad behind all.1 (rw append_assoc is_bad)

  pub none_bad : (items : List X) (place : ℕ) → AllGood Good items → IsFirstBad Good items place → ⊥
  none_bad items place all (a, x, b, parts, good, bad, is) = some_bad a [] x b (rw parts at all) bad
