-- What a rename does with the files, which the public functions of src/save_laws.rt state.
use Rattle.std.specs.Prelude.{◌≡◌, ℕ, List, Bool, true, Option, Some}
use Rattle.portal_base.specs.Content.{OfFile, content_at, file_named}
use Rattle.file_generations.specs.Generations.{all_held}
use Rattle.portal_base.specs.Names.{is_same, name_of}
use Rattle.portal_base.specs.declared.files.File.{File}
use Rattle.portal_base.specs.declared.files.FileName.{FileName}
use Rattle.portal_model.specs.declared.entry.Given.{Given}
use Rattle.portal_model.specs.declared.reply.Answer.{Answer}
use Rattle.portal_model.specs.declared.reply.NodeAnswer.{NodeAnswer}
use Rattle.portal_model.specs.declared.request.NodeOp.{NodeOp}
use Rattle.portal_model.specs.declared.request.NodeRequest.{NodeRequest}
use Rattle.portal_model.specs.declared.state.Connection.{Connection}
use Rattle.portal_model.specs.declared.state.Document.{Document}
use Rattle.portal_model.specs.declared.temporary.OwnTemp.{OwnTemp}
use Rattle.portal_model.specs.Node.{node_answer}
use Rattle.portal_model.specs.NodeOutside.{LawfulNode}
use Rattle.portal_model.specs.Place.{FolderOf, SightOfFolder, sight_on}
use Rattle.portal_model.specs.SeatNames.{found_temp}
use Rattle.portal_model.specs.State.{State, connection_of, held_in, is_mount}
use Rattle.portal_model.specs.Valid.{Valid}

-- the request renames
pub record RenameAsked (r : NodeRequest) : Type 0 where
  pub new_parent : ℕ
  pub flags : ℕ
  pub old_name : List ℕ
  pub new_name : List ℕ
  pub asked : r.op ≡ NodeOp.Rename new_parent flags old_name new_name

-- it renames onto the document's own name
pub record RenamesOnto (r : NodeRequest) (d : Document) (old_name : List ℕ) : Type 0 where
  pub new_parent : ℕ
  pub flags : ℕ
  pub new_name : List ℕ
  pub asked : r.op ≡ NodeOp.Rename new_parent flags old_name new_name
  pub own_name : is_same new_name (name_of d.path) ≡ true

-- the document's path has what the file of the temporary held
pub record IsSaved (s after : State) (d : Document) (found : Option OwnTemp) : Type 0 where
  pub temp : OwnTemp
  pub there : found ≡ Some temp
  pub file : File
  pub held : file_named (all_held (held_in s)) temp.temp.file ≡ Some file
  pub content : content_at after.files d.path ≡ OfFile file.generation file.bytes file.moment

-- After a rename onto the document's name that is done, the document's path has what the temporary
-- held.
abbrev pub RenameSaves : Type 0
RenameSaves = (s : State) (c : Connection) (r : NodeRequest) (given : Given)
    (view : ℕ) (d : Document) (may_write : Bool) (old_name : List ℕ) →
    Valid s → s.told ≡ true → connection_of s.connections c.seat ≡ Some c →
    is_mount c.kind ≡ true →
    sight_on s c r.node ≡ Some (SightOfFolder (FolderOf view d may_write)) →
    RenamesOnto r d old_name → LawfulNode s c r given →
    (node_answer s c r given).1 ≡ Answer.Node NodeAnswer.Empty →
    IsSaved s (node_answer s c r given).0 d (found_temp c.temps view d.id old_name)

-- Whatever is renamed, each handle names the file that it named, and this is unchanged.
pub record RenamesKeep : Type 0 where
  pub handles :
      (s : State) (c : Connection) (r : NodeRequest) (given : Given) →
      RenameAsked r → LawfulNode s c r given → (node_answer s c r given).0.handles ≡ s.handles
  pub files :
      (s : State) (c : Connection) (r : NodeRequest) (given : Given) (name : FileName) →
      Valid s → RenameAsked r → LawfulNode s c r given →
      file_named (all_held (held_in (node_answer s c r given).0)) name
      ≡ file_named (all_held (held_in s)) name
