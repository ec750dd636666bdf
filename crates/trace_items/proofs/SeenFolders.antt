-- The document's folder that is seen at a node has the view that the node's number names.
use Rattle.std.proofs.Common.{◌≡◌, ◌==◌, ℕ, List, Bool, true, false, Option, Some, None, cond, refl}
use Rattle.portal_base.specs.declared.files.FileName.{FileName}
use Rattle.portal_base.specs.declared.who.Who.{Who}
use Rattle.portal_model.specs.declared.naming.Naming.{Naming}
use Rattle.portal_model.specs.declared.place.Place.{Place}
use Rattle.portal_model.specs.declared.rights.Right.TheVariants.{Read, Write}
use Rattle.portal_model.specs.declared.state.Document.{Document}
use Rattle.portal_model.specs.declared.state.Triple.{Triple}
use Rattle.portal_model.specs.declared.temporary.Temp.{Temp}
use Rattle.portal_model.specs.Place.{FolderOf, Sight, SightBelow, SightOfFolder, SightOfTemp, Views, seen_by, sight_at, sight_at_path, sight_below, sight_of_document, sight_of_folder, sight_of_naming, sight_of_own_temp, sight_of_root, sight_of_temp, subject_of}
use Rattle.portal_model.specs.State.{State, document_of, is_host, who_has}
use Rattle.trace_items.specs.FilesChanged.{document_of_folder, view_in, view_of_folder}

-- a place where no document's folder is seen
abbrev NoFolder : Option Sight → Type 0
NoFolder o = document_of_folder o ≡ None

by-subject : (o : Option Who) (sight : Who → Option Sight) → ((who : Who) → NoFolder (sight who)) → NoFolder (seen_by o sight)
by-subject None sight h = refl
by-subject (Some who) sight h = h who

if-there : (b : Bool) (sight : Sight) → NoFolder (Some sight) → NoFolder (cond b (Some sight) None)
if-there true sight h = h
if-there false sight h = refl

module _ (rights : List Triple) (who : Who) (view : ℕ) where
  at-path : (d : Document) (folder may_write : Bool) → NoFolder (Some (sight_at_path view d folder may_write))
  at-path d true may_write = refl
  at-path d false may_write = refl

  of-document : (o : Option Document) → NoFolder (sight_of_document view rights who o)
  of-document None = refl
  of-document (Some d) =
      if-there (who_has rights who d.id.number Read) (sight_at_path view d d.folder (who_has rights who d.id.number Write)) (at-path d d.folder (who_has rights who d.id.number Write))

  of-below : (path : List ℕ) (o : Option Document) → NoFolder (sight_below view rights who path o)
  of-below path None = refl
  of-below path (Some d) = if-there (who_has rights who d.id.number Read) (SightBelow view d path (who_has rights who d.id.number Write)) refl

  of-temp : (file : FileName) (o : Option Document) → NoFolder (sight_of_temp rights who file o)
  of-temp file None = refl
  of-temp file (Some d) = if-there (who_has rights who d.id.number Read) (SightOfTemp d file (who_has rights who d.id.number Write)) refl

either : (b : Bool) (o : Option Sight) → NoFolder o → NoFolder (cond b o None)
either true o h = h
either false o h = refl

module _ (s : State) (who : Who) (naming : Option Naming) (temp : Option Temp) where
  named : (view : ℕ) (o : Option Naming) (x : Who) → NoFolder (sight_of_naming s view x o)
  named view None x = refl
  named view (Some n) x = either (n.view == view) (sight_below view s.rights x n.path (document_of s.documents n.document.number)) (of-below s.rights x view n.path (document_of s.documents n.document.number))

  own : (view : ℕ) (o : Option Temp) (x : Who) → NoFolder (sight_of_own_temp s view x o)
  own view None x = refl
  own view (Some t) x = either (t.view == view) (sight_of_temp s.rights x t.file (document_of s.documents t.document.number)) (of-temp s.rights x view t.file (document_of s.documents t.document.number))

  none-is : (o : Option Sight) (v : ℕ) (d : Document) → NoFolder o → Some d ≡ document_of_folder o → v ≡ view_of_folder o
  none-is o v d n e = absurd (cc)

  -- the folder of a document has the view of its place
  seen-folder : (view : ℕ) (d : Document) (o : Option Who) (there : Option Document) →
      Some d ≡ document_of_folder (seen_by o (λ x. sight_of_folder view s.rights x there)) → view ≡ view_of_folder (seen_by o (λ x. sight_of_folder view s.rights x there))
  seen-folder view d None there e = absurd (cc)
  seen-folder view d (Some x) None e = absurd (cc)
  seen-folder view d (Some x) (Some f) e = step (who_has s.rights x f.id.number Read) e
    where
      step : (b : Bool) → Some d ≡ document_of_folder (cond b (Some (SightOfFolder (FolderOf view f (who_has s.rights x f.id.number Write)))) None) → view ≡ view_of_folder (cond b (Some (SightOfFolder (FolderOf view f (who_has s.rights x f.id.number Write)))) None)
      step true h = refl
      step false h = absurd (cc)

  pub view-seen : (p : Option Place) (d : Document) → Some d ≡ document_of_folder (sight_at s who naming temp p) → view_in p ≡ view_of_folder (sight_at s who naming temp p)
  view-seen None d e = absurd (cc)
  view-seen (Some (Place.Root view)) d e =
      none-is (seen_by (subject_of s.applications who view) (sight_of_root s who view)) 0 d (by-subject (subject_of s.applications who view) (sight_of_root s who view) (λ x. refl)) e
  view-seen (Some Place.ByApp) d e = none-is (cond (is_host who) (Some (SightOfFolder (Views s.applications))) None) 0 d (if-there (is_host who) (SightOfFolder (Views s.applications)) refl) e
  view-seen (Some (Place.Folder view id)) d e = seen-folder view d (subject_of s.applications who view) (document_of s.documents id.number) e
  view-seen (Some (Place.File view id)) d e =
      none-is (seen_by (subject_of s.applications who view) (λ x. sight_of_document view s.rights x (document_of s.documents id.number))) 0 d
      (by-subject (subject_of s.applications who view) (λ x. sight_of_document view s.rights x (document_of s.documents id.number)) (λ x. of-document s.rights x view (document_of s.documents id.number))) e
  view-seen (Some (Place.Named view k)) d e =
      none-is (seen_by (subject_of s.applications who view) (λ x. sight_of_naming s view x naming)) 0 d
      (by-subject (subject_of s.applications who view) (λ x. sight_of_naming s view x naming) (named view naming)) e
  view-seen (Some (Place.Temporary view k)) d e =
      none-is (seen_by (subject_of s.applications who view) (λ x. sight_of_own_temp s view x temp)) 0 d
      (by-subject (subject_of s.applications who view) (λ x. sight_of_own_temp s view x temp) (own view temp)) e
