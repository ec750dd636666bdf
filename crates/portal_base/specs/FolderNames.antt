-- The names in a folder: those by which the paths of the files below it go on.
use Rattle.std.specs.Prelude.{ℕ, ◌+◌, List, [], ◌∷◌, length, drop, map, fold, Bool, ◌||◌, cond, is_some}
use Rattle.std.specs.List.{before_first, position}
use Rattle.std.specs.List.Sorted.{IsStrictlySortedBy}
use Rattle.std.specs.Ordering.{match_ordering}
use Rattle.portal_base.specs.Names.{is_same, is_slash, root}
use Rattle.portal_base.specs.Content.{is_above, paths_of}
use Rattle.portal_base.specs.declared.files.File.{File}
use Rattle.portal_base.specs.NameOrder.{name_order}
use Rattle.portal_base.specs.declared.files.ChildName.{ChildName}

-- names in byte order, each once
abbrev pub AreInOrder : List ChildName → Type 0
AreInOrder names = IsStrictlySortedBy name_order (map (λ c. c.name) names)

-- a name at its place in byte order; one that stands there already is what the new one says
abbrev pub put_name : ChildName → List ChildName → List ChildName
put_name new [] = new ∷ []
put_name new (c ∷ cs) = match_ordering (name_order new.name c.name) (new ∷ c ∷ cs)
    (record { name = c.name; folder = new.folder } ∷ cs) (c ∷ put_name new cs)

-- whether the path of a file lies below a folder: each does below the root
abbrev pub is_below : List ℕ → List ℕ → Bool
is_below folder path = is_same folder root || is_above folder path

-- how many bytes a path below a folder has in common with it, and a slash
abbrev pub length_above : List ℕ → ℕ
length_above folder = cond (is_same folder root) 1 (length folder + 1)

-- the first part of what stands behind a folder's path: a folder where a slash ends it
abbrev pub first_part : List ℕ → ChildName
first_part rest =
    record { name = before_first is_slash rest; folder = is_some (position is_slash rest) }

-- the name in a folder by which a path below it goes on
abbrev pub name_below : List ℕ → List ℕ → ChildName
name_below folder path = first_part (drop (length_above folder) path)

-- a path puts the name by which it goes on below a folder, where it lies below it
abbrev pub put_path : List ℕ → List ChildName → List ℕ → List ChildName
put_path folder names path =
    cond (is_below folder path) (put_name (name_below folder path) names) names

-- the names in a folder
abbrev pub names_in : List File → List ℕ → List ChildName
names_in files folder = fold (put_path folder) [] (paths_of files)
