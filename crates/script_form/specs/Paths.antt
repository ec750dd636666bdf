-- Paths of files, none of which lies below another.
use Rattle.std.specs.Prelude.{◌≡◌, ℕ, Bool, ◌||◌, false, List, [], ◌∷◌}
use Rattle.std.specs.List.{AllByRecursion}
use Rattle.portal_base.specs.Names.{is_same}
use Rattle.portal_model.specs.Content.{is_above}

-- two paths can't both be files: they are the same, or one lies below the other
abbrev pub clash : List ℕ → List ℕ → Bool
clash path other = is_same path other || (is_above other path || is_above path other)

-- none lies above one that comes behind it
abbrev pub AreApart : List (List ℕ) → Type 0
AreApart [] = Unit {0}
AreApart (path ∷ paths) = AllByRecursion (λ other. is_above path other ≡ false) paths
    × AreApart paths
