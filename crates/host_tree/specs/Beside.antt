-- What is true of the files beside the present ones of a tree.
use Rattle.std.specs.Prelude.{◌≡◌, List, [], ◌∷◌, Bool, true, false, not, ◌&&◌, is_some}
use Rattle.portal_base.specs.Content.{file_at, has_room}
use Rattle.file_generations.specs.Generations.{Held, name_of_file}
use Rattle.portal_base.specs.declared.files.File.{File}
use Rattle.portal_base.specs.declared.files.FileName.{FileName}
use Rattle.host_tree.specs.Trees.{has_file}

-- no two of them have one name
abbrev pub are_apart : List File → Bool
are_apart [] = true
are_apart (f ∷ fs) = not (has_file (name_of_file f) fs) && are_apart fs

-- None has the name of a present file. Each lies in a folder; and where it was the first of its
-- path, another is present there.
pub record AreBeside (present hidden : List File) : Type 0 where
  pub apart : are_apart hidden ≡ true
  pub beside : (n : FileName) → has_file n hidden ≡ true → has_file n present ≡ false
  pub room : (n : FileName) → has_file n hidden ≡ true → has_room present n.path ≡ true
  pub followed : (n : FileName) → has_file n hidden ≡ true → n.generation ≡ 0
      → is_some (file_at present n.path) ≡ true

abbrev pub AreHeld : Held → Type 0
AreHeld held = AreBeside held.present held.hidden
