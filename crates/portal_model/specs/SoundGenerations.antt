-- What is true of the files beside the present ones, and of the generations that were taken.
use Rattle.std.specs.Prelude.{◌≡◌, ◌==◌, ◌||◌, nat_le, List, [], map, Bool, true, false, not, is_some}
use Rattle.std.specs.List.{list_all, list_any, IsDistinct}
use Rattle.portal_base.specs.Content.{file_at, has_room}
use Rattle.file_generations.specs.Generations.{name_of_file, same_file}
use Rattle.portal_base.specs.Names.{is_host_path, is_same}
use Rattle.portal_base.specs.declared.files.File.{File}
use Rattle.portal_base.specs.declared.files.FileName.{FileName}
use Rattle.portal_model.specs.declared.handle.Handle.{Handle}
use Rattle.portal_model.specs.declared.handle.OpenHandle.{OpenHandle}
use Rattle.portal_model.specs.declared.opening.TakenGeneration.{TakenGeneration}
use Rattle.portal_model.specs.declared.state.Connection.{Connection}
use Rattle.portal_model.specs.declared.temporary.OwnTemp.{OwnTemp}
use Rattle.portal_model.specs.SeatNames.{last_taken}

-- ---- generations

-- where the tree tells its files, no generation is above the last one that was taken for the path
abbrev pub is_taken : Bool → List TakenGeneration → FileName → Bool
is_taken told taken name = not told || nat_le name.generation (last_taken taken name.path)

abbrev pub is_taken_file : Bool → List TakenGeneration → File → Bool
is_taken_file told taken f = is_taken told taken (name_of_file f)

abbrev pub is_taken_by : Bool → List TakenGeneration → Handle → Bool
is_taken_by told taken (Handle.File name node document strict read write) =
    is_taken told taken name
is_taken_by told taken (Handle.Folder node names) = true

abbrev pub has_taken_handle : Bool → List TakenGeneration → OpenHandle → Bool
has_taken_handle told taken h = is_taken_by told taken h.handle

abbrev pub is_taken_temp : Bool → List TakenGeneration → OwnTemp → Bool
is_taken_temp told taken t = is_taken told taken t.temp.file

abbrev pub has_taken_temps : Bool → List TakenGeneration → Connection → Bool
has_taken_temps told taken c = list_all (is_taken_temp told taken) c.temps

-- ---- files

-- a path that had its first file has one that is present
abbrev pub is_followed : List File → File → Bool
is_followed files f = not (f.generation == 0) || is_some (file_at files f.path)

-- by whether the tree tells its files, the present ones, those beside them, and the generations
-- that were taken
pub record SoundGenerations (told : Bool) (files hidden : List File) (taken : List TakenGeneration)
    : Type 0 where
  -- those that aren't present differ in path or generation, and none has the name of a present one
  pub differ : IsDistinct same_file hidden
  pub apart : list_all (λ f. not (list_any (same_file f) files)) hidden ≡ true
  -- they have paths on the host, each in a folder that is there
  pub named : list_all (λ f. is_host_path f.path) hidden ≡ true
  pub placed : list_all (λ f. has_room files f.path) hidden ≡ true
  pub followed : list_all (is_followed files) hidden ≡ true
  pub none_untold : told ≡ false → hidden ≡ []
  -- each path has one last generation at most
  pub taken_differ : IsDistinct is_same (map (λ t. t.path) taken)
  -- and no file is of a later one
  pub files_taken : list_all (is_taken_file told taken) files ≡ true
  pub hidden_taken : list_all (is_taken_file told taken) hidden ≡ true
