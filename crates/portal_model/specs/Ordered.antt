-- Lists in strictly rising order.
use Rattle.std.specs.Prelude.{ℕ, ◌==◌, nat_lt, List, [], ◌∷◌, Bool, true, false, cond, ◌&&◌}
use Rattle.std.specs.List.{list_all}

module _ {X : Type 0} (before : X → X → Bool) where
  -- ahead of the first that it is before; in place of one that stands at the same place in the
  -- order
  abbrev pub put : X → List X → List X
  put x [] = x ∷ []
  put x (y ∷ ys) = cond (before x y) (x ∷ y ∷ ys) (cond (before y x) (y ∷ put x ys) (x ∷ ys))

  -- in order, none twice
  abbrev pub put_all : List X → List X
  put_all [] = []
  put_all (x ∷ xs) = put x (put_all xs)

  abbrev pub is_rising : List X → Bool
  is_rising [] = true
  is_rising (x ∷ xs) = list_all (before x) xs && is_rising xs

-- the order of texts, byte by byte
abbrev pub bytes_less : List ℕ → List ℕ → Bool
bytes_less [] [] = false
bytes_less [] (y ∷ ys) = true
bytes_less (x ∷ xs) [] = false
bytes_less (x ∷ xs) (y ∷ ys) = cond (x == y) (bytes_less xs ys) (nat_lt x y)
