-- The numbered applications: application k is the k-th name, from 1.
use Rattle.std.specs.Prelude.{◌≡◌, ◌⊎◌, ◌<◌, ◌+◌, ℕ, zero, suc, length, true, List, [], ◌∷◌, ◌++◌, Option, None, cond, option_map, slice_get}
use Rattle.std.specs.List.{position}
use Rattle.portal_base.specs.Names.{is_same}
use Rattle.portal_model.specs.Valid.{is_numbered, applications_limit}

-- the number of an application that has one
abbrev pub number_of : List (List ℕ) → List ℕ → Option ℕ
number_of applications app =
    option_map (λ at. at + 1) (position (λ name. is_same name app) applications)

-- an application that has no number gets the next one
abbrev pub numbered : List (List ℕ) → List ℕ → List (List ℕ)
numbered applications app =
    cond (is_numbered applications app) applications (applications ++ app ∷ [])

-- the application has a number, or there is one left for it
abbrev pub HasNumberLeft : List (List ℕ) → List ℕ → Type 0
HasNumberLeft applications app =
    (is_numbered applications app ≡ true) ⊎ (length applications < applications_limit)

-- the application of a number
abbrev pub name_of_number : List (List ℕ) → ℕ → Option (List ℕ)
name_of_number applications zero = None
name_of_number applications (suc k) = slice_get applications k
