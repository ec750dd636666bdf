-- The files of a map by path, and of a list of paths and files.
use Rattle.std.specs.Prelude.{ℕ, ◌==◌, List, [], ◌∷◌, map, Bool, Option, Some, None, cond}
use Rattle.portal_base.specs.Content.{is_named}
use Rattle.portal_base.specs.declared.files.File.{File}
use Rattle.portal_base.specs.declared.files.FileName.{FileName}
use Rattle.host_tree.specs.Trees.{DoesTo, overlaid, cut_to}
use Rattle.host_tree.specs.declared.files.Stored.{Stored}
use Rattle.host_tree.specs.declared.tree.TreeDone.{TreeDone}

-- the file of a path
abbrev pub file_of : List ℕ × Stored → File
file_of e = record {
  path = e.0;
  generation = e.1.generation;
  bytes = e.1.bytes;
  moment = e.1.moment;
}

abbrev pub files_of : List (List ℕ × Stored) → List File
files_of entries = map file_of entries

-- whether it is the file of that name
abbrev pub is_stored : FileName → List ℕ × Stored → Bool
is_stored name e = is_named name (file_of e)

-- what is stored of a file
abbrev pub stored_of : File → Stored
stored_of f = record { generation = f.generation; bytes = f.bytes; moment = f.moment }

-- what is stored, where it is of this generation
abbrev pub of_generation : ℕ → Option Stored → Option Stored
of_generation generation None = None
of_generation generation (Some s) = cond (s.generation == generation) (Some s) None

abbrev pub stored_written : ℕ → List ℕ → ℕ → Stored → Stored
stored_written offset [] moment s = s
stored_written offset (b ∷ bs) moment s =
    record s { bytes = overlaid s.bytes offset (b ∷ bs); moment = moment }

abbrev pub stored_resized : ℕ → ℕ → Stored → Stored
stored_resized size moment s = record s { bytes = cut_to size s.bytes; moment = moment }

-- the change of what is stored, which is done where it is of this generation
abbrev pub DoesStored : ℕ → (Stored → Stored) → Stored → TreeDone → Stored → Type 0
DoesStored generation change old answer new =
    DoesTo Stored (λ s. s.generation == generation) change (Some old) answer (Some new)

-- an empty one
abbrev pub blank : Stored
blank = record { generation = 0; bytes = []; moment = 0 }
