-- The files of a tree by their generations. Of each path one at most is present: that one stands at
-- the path. Those beside it are shown nowhere, and are reached by their names alone: a file that is
-- to stand there later, and one that stood there before.
use Rattle.std.specs.Prelude.{ℕ, List, [], ◌∷◌, ◌++◌, map, Bool, not, ◌==◌, ◌&&◌, cond, Option, Some, None, is_some}
use Rattle.std.specs.List.{filter}
use Rattle.portal_base.specs.Names.{is_same}
use Rattle.portal_base.specs.Content.{file_at, file_named, has_room, is_folder, is_named}
use Rattle.portal_base.specs.FileChanges.{change_named, put_file}
use Rattle.portal_base.specs.declared.files.File.{File}
use Rattle.portal_base.specs.declared.files.FileName.{FileName}

-- the present files, and those beside them
pub record Held : Type 0 where
  pub present : List File
  pub hidden : List File

abbrev pub held_with : List File → List File → Held
held_with present hidden = record { present = present; hidden = hidden }

-- all of them
abbrev pub all_held : Held → List File
all_held held = held.hidden ++ held.present

-- whether a file of that name is there, present or not
abbrev pub is_held : Held → FileName → Bool
is_held held name = is_some (file_named (all_held held) name)

abbrev pub name_of_file : File → FileName
name_of_file f = record { path = f.path; generation = f.generation }

-- of one path, and the same of its files
abbrev pub same_file : File → File → Bool
same_file a b = is_same a.path b.path && a.generation == b.generation

-- ---- changes

-- the file of a name changed, present or not, and every other as it was
abbrev pub change_held : FileName → (File → File) → Held → Held
change_held name change held =
    held_with (change_named name change held.present) (change_named name change held.hidden)

-- a new file that is present
abbrev pub put_present : File → Held → Held
put_present f held = held_with (put_file f held.present) held.hidden

abbrev pub fresh_file : FileName → ℕ → File
fresh_file name moment = record {
  path = name.path;
  generation = name.generation;
  bytes = [];
  moment = moment;
}

-- a file of that name may be made beside the present ones where the parent is a folder and no file
-- has the name
abbrev pub may_freshen : Held → FileName → Bool
may_freshen held name = has_room held.present name.path && not (is_held held name)

-- an empty file more, which isn't present
abbrev pub freshened : FileName → ℕ → Held → Held
freshened name moment held = held_with held.present (held.hidden ++ fresh_file name moment ∷ [])

-- a file becomes the present one of its path where it is there and the path is no folder
abbrev pub may_turn : Held → FileName → Bool
may_turn held name = is_held held name && not (is_folder held.present name.path)

-- a file in place of that of a path
abbrev pub in_place : List ℕ → File → List File → List File
in_place path f files = map (λ g. cond (is_same g.path path) f g) files

-- the files but that of a name
abbrev pub without_named : FileName → List File → List File
without_named name files = filter (λ f. not (is_named name f)) files

-- The file, where it is beside the present ones, takes the place of the present one of its path,
-- where there is one, and that its own.
abbrev pub turned_to : FileName → Option File → Option File → Held → Held
turned_to name None former held = held
turned_to name (Some f) None held =
    held_with (put_file f held.present) (without_named name held.hidden)
turned_to name (Some f) (Some former) held =
    held_with (in_place name.path f held.present) (change_named name (λ g. former) held.hidden)

-- the file of that name is the present one of its path; one that is so already stays
abbrev pub turned : FileName → Held → Held
turned name held =
    turned_to name (file_named held.hidden name) (file_at held.present name.path) held
