-- Paths of which none is repeated, where equal ones stand together; files that show the same; and
-- those of an opening state, one after another.
use Rattle.std.specs.Prelude.{◌≡◌, ℕ, List, [], ◌∷◌, Bool, false, cond, Option, Some, None}
use Rattle.std.specs.Cmp.Lexicographic.{slice_cmp}
use Rattle.std.specs.List.{flat_map}
use Rattle.std.specs.Ordering.{is_lt, nat_cmp}
use Rattle.portal_base.specs.Names.{is_same}
use Rattle.portal_base.specs.declared.files.File.{File}
use Rattle.portal_model.specs.Content.{content_at}
use Rattle.file_generations.specs.Generations.{Held, put_present}
use Rattle.portal_model.specs.Documents.{same_flag}
use Rattle.portal_model.specs.Opening.{file_of}
use Rattle.portal_model.specs.declared.opening.FileItem.{FileItem}
use Rattle.tree_files.specs.Kept.{put_hidden}
use Rattle.app_trace.specs.declared.view.HeldDocument.{HeldDocument}

abbrev pub first_of : List (List ℕ) → Option (List ℕ)
first_of [] = None
first_of (path ∷ paths) = Some path

-- the path that comes next is the same
abbrev pub comes_again : List ℕ → Option (List ℕ) → Bool
comes_again path None = false
comes_again path (Some next) = is_same next path

-- of equal ones the last stays
abbrev pub once_each : List (List ℕ) → List (List ℕ)
once_each [] = []
once_each (path ∷ paths) =
    cond (comes_again path (first_of paths)) (once_each paths) (path ∷ once_each paths)

-- the order of paths by their bytes, as texts are compared
abbrev pub path_less : List ℕ → List ℕ → Bool
path_less a b = is_lt (slice_cmp nat_cmp a b)

abbrev pub path_held : HeldDocument → List ℕ
path_held d = d.document.path

-- the path of a document that is a folder, or of one that is none
abbrev pub path_if : Bool → HeldDocument → List (List ℕ)
path_if folder d = cond (same_flag d.document.folder folder) (path_held d ∷ []) []

abbrev pub paths_held : Bool → List HeldDocument → List (List ℕ)
paths_held folder ds = flat_map (path_if folder) ds

abbrev pub file_less : File → File → Bool
file_less a b = path_less a.path b.path

-- at each path the same is there
abbrev pub ShowAlike : List File → List File → Type 0
ShowAlike fs gs = (path : List ℕ) → content_at fs path ≡ content_at gs path

-- a file more of an opening state, present or not
abbrev pub with_item : FileItem → Held → Held
with_item item held =
    cond item.present (put_present (file_of item) held) (put_hidden (file_of item) held)
