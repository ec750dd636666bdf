-- What is true of all that the walk of a request on a node may do, by what the tree may have shown.
use Rattle.std.proofs.Common.{◌≡◌, ℕ, List, [], ◌∷◌, Bool, true, false, Option, Some, None, refl}
use Rattle.file_generations.specs.Generations.{Held}
use Rattle.portal_base.specs.declared.files.ChildName.{ChildName}
use Rattle.portal_base.specs.declared.files.FileName.{FileName}
use Rattle.portal_base.specs.declared.files.Look.{Look}
use Rattle.portal_model.specs.declared.handle.Handle.{Handle}
use Rattle.portal_model.specs.NodeVerdict.{NodeDoing, NodeVerdict, Errs, Yields, OnFile, OnHandle, Spot, at_file, at_name, by_file_handle, by_look, by_place, errs_if, if_file, spot}
use Rattle.portal_model.specs.Place.{Folder, Exported, Sight, SightOfFile, SightOfTemp, SightBelow, SightOfFolder}
use Rattle.portal_model.specs.Reach.{OpenFile, open_file_of}
use Rattle.portal_model.specs.Walk.{Walk, Answers, Looks, Ends, Lists, Gives, IsFound, IsShown, listed_by, walked_with}

-- the folders that may be seen where this is seen
abbrev pub SeenAs : Option Sight → Folder → Type 0
SeenAs None f = ⊥
SeenAs (Some (SightOfFile d may_write)) f = ⊥
SeenAs (Some (SightOfTemp d name may_write)) f = ⊥
SeenAs (Some (SightBelow view d path may_write)) f = Exported view d path may_write ≡ f
SeenAs (Some (SightOfFolder folder)) f = folder ≡ f

module _ (tree : Option Held) (P : NodeDoing → Type 0) where
  abbrev pub IfYields : NodeVerdict → Type 0
  IfYields (Errs errno) = Unit {0}
  IfYields (Yields d) = P d

  abbrev pub OnNode : Walk NodeVerdict → Type 0
  OnNode (Answers v) = IfYields v
  OnNode (Looks target next) = (look : Look) → IsShown tree target look → OnNode (next look)
  OnNode (Ends call done missing) = ((now : ℕ) → IsFound tree call true → IfYields (done now)) × IfYields missing
  OnNode (Lists path done missing) = ((names : List ChildName) → IfYields (done names)) × IfYields missing

  abbrev pub IfMet : Option NodeVerdict → Type 0
  IfMet None = Unit {0}
  IfMet (Some v) = IfYields v

  on-listed : (listed : Option (List ChildName)) (done : List ChildName → NodeVerdict) (missing : NodeVerdict) → ((names : List ChildName) → IfYields (done names)) → IfYields missing → IfYields (listed_by done missing listed)
  on-listed None done missing h k = k
  on-listed (Some names) done missing h k = h names

  pub on-given : (w : Walk NodeVerdict) (now : ℕ) (listed : Option (List ChildName)) (looks : List Look) (failed : Bool) → Gives tree w looks failed → OnNode w → IfMet (walked_with w now listed looks failed)
  on-given (Answers v) now listed looks failed g h = h
  on-given (Looks target next) now listed [] failed g h = tt
  on-given (Looks target next) now listed (look ∷ looks) failed g h = on-given (next look) now listed looks failed g.1 (h look g.0)
  on-given (Ends call done missing) now listed [] true g h = tt
  on-given (Ends call done missing) now listed [] false g h = h.0 now g
  on-given (Ends call done missing) now listed (look ∷ looks) failed g h = h.1
  on-given (Lists path done missing) now listed looks true g h = tt
  on-given (Lists path done missing) now listed looks false g h = on-listed listed done missing h.0 h.1

  pub errs_if-on : (b : Bool) (errno : ℕ) (w : Walk NodeVerdict) → (b ≡ false → OnNode w) → OnNode (errs_if b errno w)
  errs_if-on true errno w h = tt
  errs_if-on false errno w h = h refl

  pub if_file-on : (next : OnFile) → ((generation size moment : ℕ) → OnNode (next generation size moment)) → (look : Look) → OnNode (if_file next look)
  if_file-on next h (Look.File generation size moment) = h generation size moment
  if_file-on next h Look.Folder = tt
  if_file-on next h Look.Missing = tt

  pub at_file-on : (path : List ℕ) (next : OnFile) → ((generation size moment : ℕ) → OnNode (next generation size moment)) → OnNode (at_file path next)
  at_file-on path next h = λ look shown. if_file-on next h look

  pub at_name-on : (name : FileName) (next : OnFile) → ((generation size moment : ℕ) → OnNode (next generation size moment)) → OnNode (at_name name next)
  at_name-on name next h = λ look shown. if_file-on next h look

  pub by_look-on : (view : ℕ) (at : Spot) (file : Spot → OnFile) (folder : Folder → Walk NodeVerdict) → ((generation size moment : ℕ) → OnNode (file at generation size moment)) →
      OnNode (folder (Exported view at.document at.path at.may_write)) → (look : Look) → OnNode (by_look view at file folder look)
  by_look-on view at file folder h k (Look.File generation size moment) = h generation size moment
  by_look-on view at file folder h k Look.Folder = k
  by_look-on view at file folder h k Look.Missing = tt

  pub by_place-on : (sight : Option Sight) (file : Spot → OnFile) (folder : Folder → Walk NodeVerdict) →
      ((at : Spot) (generation size moment : ℕ) → OnNode (file at generation size moment)) →
      ((f : Folder) → SeenAs sight f → OnNode (folder f)) → OnNode (by_place sight file folder)
  by_place-on None file folder h k = tt
  by_place-on (Some (SightOfFile d may_write)) file folder h k = at_file-on d.path (file (spot d d.path may_write)) (h (spot d d.path may_write))
  by_place-on (Some (SightOfTemp d name may_write)) file folder h k = at_name-on name (file (spot d name.path may_write)) (h (spot d name.path may_write))
  by_place-on (Some (SightBelow view d path may_write)) file folder h k =
      λ look shown. by_look-on view (spot d path may_write) file folder (h (spot d path may_write)) (k (Exported view d path may_write) refl) look
  by_place-on (Some (SightOfFolder f)) file folder h k = k f refl

  pub by_file_handle-on : (handle : Option Handle) (next : OnHandle) → ((file : OpenFile) → OnNode (next file)) → OnNode (by_file_handle handle next)
  by_file_handle-on None next h = tt
  by_file_handle-on (Some (Handle.File name node document strict read write)) next h = h (open_file_of name node document strict read write)
  by_file_handle-on (Some (Handle.Folder node names)) next h = tt
