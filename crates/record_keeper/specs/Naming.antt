-- How names are collected, each where it first comes.
use Rattle.std.specs.Prelude.{ℕ, List, [], ◌∷◌, ◌++◌, if◌then◌else◌}
use Rattle.std.specs.List.{list_any}
use Rattle.portal_base.specs.Names.{is_same}

-- the name behind those that are there, where it isn't one of them
abbrev pub also_named : List (List ℕ) → List ℕ → List (List ℕ)
also_named named name = if list_any (λ known. is_same known name) named then named else named
    ++ name ∷ []
