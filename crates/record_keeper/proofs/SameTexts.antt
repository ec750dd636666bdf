-- Texts with the same bytes.
use Rattle.std.proofs.Common.{◌≡◌, ℕ, true, List, [], ◌∷◌, refl, eqb}
use Rattle.std.specs.Prelude.{nat_eq}
use Rattle.std.specs.Cmp.Lexicographic.{pointwise}
use Rattle.std.proofs.lemmas.Bool.{and_parts, eqb-true}

pub same_from_test : (a b : List ℕ) → pointwise nat_eq a b ≡ true → a ≡ b
same_from_test [] [] h = refl
same_from_test [] (y ∷ ys) h = cc h
same_from_test (x ∷ xs) [] h = cc h
same_from_test (x ∷ xs) (y ∷ ys) h =
    let parts = and_parts (eqb x y) (pointwise nat_eq xs ys) h in
    let head : x ≡ y = eqb-true x y parts.0 in
    let rest = same_from_test xs ys parts.1 in
    cc (head, rest)
