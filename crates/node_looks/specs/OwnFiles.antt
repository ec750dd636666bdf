-- The temporary that a connection has under a name in a document's folder, as it is told.
use Rattle.std.specs.Prelude.{◌≡◌, ℕ, List, Option, Some, None, option_map}
use Rattle.portal_base.specs.declared.files.FileName.{FileName}
use Rattle.portal_model.specs.declared.naming.Naming.{Naming}
use Rattle.portal_model.specs.declared.state.Connection.{Connection}
use Rattle.portal_model.specs.declared.temporary.OwnTemp.{OwnTemp}
use Rattle.portal_model.specs.declared.temporary.Temp.{Temp}
use Rattle.portal_model.specs.SeatNames.{found_temp}
use Rattle.node_looks.specs.Served.{HasAt}
use Rattle.node_looks.specs.declared.entry.OwnFile.{OwnFile}
use Rattle.node_looks.specs.declared.sight.SeenPlace.{SeenPlace}

-- its number and its file
abbrev pub file_told : OwnFile → ℕ × FileName
file_told own = (own.k, own.file.now)

abbrev pub file_held : OwnTemp → ℕ × FileName
file_held t = (t.k, t.temp.file)

abbrev pub IsFoundOwn : Option OwnFile → Option OwnTemp → Type 0
IsFoundOwn own temp = option_map file_told own ≡ option_map file_held temp

-- the first of the name in the folder that is seen; at other places none is asked for
abbrev pub IsFoundIn : SeenPlace → Option OwnFile → List ℕ → List OwnTemp → Type 0
IsFoundIn (SeenPlace.Folder view seen) own name temps =
    IsFoundOwn own (found_temp temps view seen.document.now.id name)
IsFoundIn (SeenPlace.File view seen) own name temps = Unit {0}
IsFoundIn (SeenPlace.Below view below) own name temps = Unit {0}
IsFoundIn (SeenPlace.Temporary view temp) own name temps = Unit {0}
IsFoundIn (SeenPlace.Root view subject) own name temps = Unit {0}
IsFoundIn SeenPlace.Views own name temps = Unit {0}

abbrev pub IsFoundAt : Option SeenPlace → Option OwnFile → List ℕ → List OwnTemp → Type 0
IsFoundAt None own name temps = Unit {0}
IsFoundAt (Some place) own name temps = IsFoundIn place own name temps

-- a connection has these by the number in a node, and this under the name
pub record HasFound (node : ℕ) (naming : Option Naming) (temp : Option Temp)
    (place : Option SeenPlace) (own : Option OwnFile) (name : List ℕ) (c : Connection)
    : Type 0 where
  pub at : HasAt node naming temp c
  pub found : IsFoundAt place own name c.temps
