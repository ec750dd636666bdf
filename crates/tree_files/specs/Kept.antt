-- The files of a tree as they are kept: the present ones by path, and those beside them.
use Rattle.std.specs.Prelude.{◌≡◌, ℕ, ◌==◌, List, [], ◌∷◌, ◌++◌, map, Bool, true, not, ◌||◌, Option, Some, None, cond}
use Rattle.std.specs.List.{list_all, list_any, IsDistinct}
use Rattle.portal_base.specs.Content.{is_above}
use Rattle.file_generations.specs.Generations.{Held, held_with, same_file}
use Rattle.portal_base.specs.Names.{is_same}
use Rattle.portal_base.specs.declared.files.File.{File}
use Rattle.portal_base.specs.FileChanges.{cut_to, overlaid}
use Rattle.tree_files.specs.declared.kept.HiddenFile.{HiddenFile}
use Rattle.tree_files.specs.declared.kept.KeptFile.{KeptFile}

-- the file of this path of which this is kept
abbrev pub file_kept : List ℕ → KeptFile → File
file_kept path k =
    record { path = path; generation = k.generation; bytes = k.bytes; moment = k.moment }

abbrev pub file_of : List ℕ × KeptFile → File
file_of e = file_kept e.0 e.1

abbrev pub files_of : List (List ℕ × KeptFile) → List File
files_of entries = map file_of entries

abbrev pub hidden_file : HiddenFile → File
hidden_file f = file_kept f.path f.kept

abbrev pub hidden_of : List HiddenFile → List File
hidden_of files = map hidden_file files

-- a file more, which isn't present
abbrev pub put_hidden : File → Held → Held
put_hidden f held = held_with held.present (held.hidden ++ f ∷ [])

abbrev pub stands_in : List ℕ → File → Bool
stands_in folder f = is_same f.path folder || is_above folder f.path

-- a write of no bytes changes nothing, the moment neither
abbrev pub kept_written : ℕ → List ℕ → ℕ → KeptFile → KeptFile
kept_written offset [] moment k = k
kept_written offset (b ∷ bs) moment k =
    record k { bytes = overlaid k.bytes offset (b ∷ bs); moment = moment }

abbrev pub kept_resized : ℕ → ℕ → KeptFile → KeptFile
kept_resized size moment k = record k { bytes = cut_to size k.bytes; moment = moment }

-- what is kept, where it is of this generation
abbrev pub of_generation : ℕ → Option KeptFile → Option KeptFile
of_generation generation None = None
of_generation generation (Some k) = cond (k.generation == generation) (Some k) None

-- what is kept, changed where it is of this generation
abbrev pub kept_as : ℕ → (KeptFile → KeptFile) → KeptFile → KeptFile
kept_as generation change k = cond (k.generation == generation) (change k) k

-- no two files have one path and generation; present ones differ in path
pub record NamesDiffer (held : Held) : Type 0 where
  pub differ : IsDistinct same_file held.hidden
  pub apart : list_all (λ f. not (list_any (same_file f) held.present)) held.hidden ≡ true
