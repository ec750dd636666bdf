-- The parts of what an application holds of an opening state.
use Rattle.std.proofs.Common.{◌≡◌, ℕ, List, [], ◌∷◌, ◌++◌, map, Bool, true, false, not, cond, refl, sym, ap, ◌∙◌}
use Rattle.std.specs.List.{filter}
use Rattle.std.proofs.lemmas.List.{append-nil}
use Rattle.portal_base.specs.declared.files.File.{File}
use Rattle.portal_model.specs.declared.opening.OpeningDocument.{OpeningDocument}
use Rattle.portal_model.specs.declared.opening.OpeningState.{OpeningState}
use Rattle.portal_model.specs.declared.state.Document.{Document}
use Rattle.portal_model.specs.Documents.{same_flag}
use Rattle.portal_model.specs.Opening.{document_kept, held_items, opened, rights_kept}
use Rattle.portal_model.specs.State.{held_of}
use Rattle.app_world.specs.View as world
use Rattle.app_world.specs.View.{below_at, contents_at, folder_paths, held_documents, is_folder_document, is_plain_document, named_paths, paths_where, view}
use Rattle.app_trace.specs.declared.view.HeldDocument.{HeldDocument}
use Rattle.app_trace.specs.declared.view.NamedFile.{NamedFile}
use Rattle.app_trace.specs.declared.view.OwnConnection.{OwnConnection}
use Rattle.app_trace.specs.declared.view.PathBelow.{PathBelow}
use Rattle.app_trace.specs.declared.view.PathContent.{PathContent}
use Rattle.app_trace.specs.Contents.{paths_held}
use Rattle.app_trace.specs.Told.{below_told, connection_told, held_told, named_told, path_told, view_told}

pub numbers_kept : (ds : List OpeningDocument) → map (λ (d : Document). d.id.number) (map document_kept ds) ≡ map (λ (d : OpeningDocument). d.kept.number) ds
numbers_kept [] = refl
numbers_kept (d ∷ ds) = ap (λ (ns : List ℕ). d.kept.number ∷ ns) (numbers_kept ds)

abbrev folders_of : List HeldDocument → List world.HeldDocument
folders_of ds = filter (λ (h : world.HeldDocument). is_folder_document h.document) (map held_told ds)

abbrev plain_of : List HeldDocument → List world.HeldDocument
plain_of ds = filter (λ (h : world.HeldDocument). is_plain_document h.document) (map held_told ds)

-- the paths of documents that are folders
paths_folder : (ds : List HeldDocument) → paths_held true ds ≡ folder_paths (map held_told ds)
paths_folder [] = refl
paths_folder (d ∷ ds) = by_kind d.document.folder (paths_folder ds)
  where
    by_kind : (b : Bool) → paths_held true ds ≡ folder_paths (map held_told ds) →
        cond (same_flag b true) (d.document.path ∷ []) [] ++ paths_held true ds ≡ map (λ (h : world.HeldDocument). h.document.path) (cond b (held_told d ∷ folders_of ds) (folders_of ds))
    by_kind true e = ap (λ (ps : List (List ℕ)). d.document.path ∷ ps) e
    by_kind false e = e

-- and those that the others name, where no file is open
paths_named : (ds : List HeldDocument) → paths_held false ds ≡ named_paths (map held_told ds) []
paths_named ds = each ds ∙ sym (append-nil (paths_where is_plain_document (map held_told ds)))
  where
    each : (xs : List HeldDocument) → paths_held false xs ≡ paths_where is_plain_document (map held_told xs)
    each [] = refl
    each (d ∷ xs) = by_kind d.document.folder (each xs)
      where
        by_kind : (b : Bool) → paths_held false xs ≡ paths_where is_plain_document (map held_told xs) →
            cond (same_flag b false) (d.document.path ∷ []) [] ++ paths_held false xs ≡ map (λ (h : world.HeldDocument). h.document.path) (cond (not b) (held_told d ∷ plain_of xs) (plain_of xs))
        by_kind true e = e
        by_kind false e = ap (λ (ps : List (List ℕ)). d.document.path ∷ ps) e

pub viewed : (o : OpeningState) (app : List ℕ) (ds : List HeldDocument) (cs : List OwnConnection) (ps : List PathContent) (bs : List PathBelow) (fs : List NamedFile) →
    map held_told ds ≡ held_documents (held_of (rights_kept o.documents) app) (map document_kept o.documents) → cs ≡ [] →
    map path_told ps ≡ contents_at (held_items o.files).present (paths_held false ds) → map below_told bs ≡ below_at (held_items o.files).present (paths_held true ds) → fs ≡ [] →
    view_told (record { handles = o.limits.handles; queued = o.limits.queued; file_bytes = o.limits.file_bytes; documents = ds; connections = cs; contents = ps; below = bs; files = fs }) ≡ view (opened o) app
viewed o app ds cs ps bs fs d c p b n =
    let files : List File = (held_items o.files).present in
    let contents = p ∙ (ap (contents_at files) (paths_named ds) ∙ ap (λ (hs : List world.HeldDocument). contents_at files (named_paths hs [])) d) in
    let below = b ∙ (ap (below_at files) (paths_folder ds) ∙ ap (λ (hs : List world.HeldDocument). below_at files (folder_paths hs)) d) in
    λ i. record {
      handles = o.limits.handles;
      queued = o.limits.queued;
      file_bytes = o.limits.file_bytes;
      documents = d i;
      connections = map connection_told (c i);
      contents = contents i;
      below = below i;
      files = map named_told (n i);
    }
