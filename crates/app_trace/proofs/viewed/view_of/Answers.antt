use Rattle.std.proofs.Common.{ℕ, List, true, false, ap, map, nat_eq, subst, ◌∙◌}
use Rattle.std.specs.List.{IsDistinct}
use Rattle.app_world.specs.View.{ahead, below_ahead, below_at, contents_at, held_documents}
use Rattle.portal_base.specs.declared.files.File.{File}
use Rattle.portal_model.specs.declared.opening.OpeningDocument.{OpeningDocument}
use Rattle.portal_model.specs.declared.state.Triple.{Triple}
use Rattle.portal_model.specs.Opening.{document_kept, held_items, opened, rights_kept}
use Rattle.portal_model.specs.Ordered.{put_all}
use Rattle.portal_model.specs.State.{held_of}
use Rattle.app_trace.specs.declared.view.HeldDocument.{HeldDocument}
use Rattle.app_trace.specs.Contents.{paths_held}
use Rattle.document_records.proofs.ValidNames.{rights_named}
use Rattle.app_trace.proofs.FilesInOrder.{below-alike}
use Rattle.app_trace.proofs.FilesPlaced.{contents-alike}
use Rattle.app_trace.proofs.ViewedParts.{numbers_kept, viewed}
use Rattle.app_trace.proofs.viewed.view_of.Goals as goal

pub rights-requires : goal.rights-requires
rights-requires c = rw c.as_slice-items.ensures (rights_named (opened c.args.opening.now) c.requires)

pub held_documents-requires-clause-differ : goal.held_documents-requires-clause-differ
held_documents-requires-clause-differ c =
    rw c.as_slice-items.ensures (subst (λ (ns : List ℕ). IsDistinct nat_eq ns) (numbers_kept c.args.opening.now.documents) c.requires.numbers_differ)

pub returns : goal.returns
returns c =
    let o = c.args.opening.now in
    let app = c.args.app.now in
    let documents =
    c.in_ok-documents.ensures
    ∙ (ap (λ (rights : List Triple). held_documents (held_of rights app) (map document_kept c.as_slice-items.result.now)) c.in_ok-rights.ensures
    ∙ ap (λ (items : List OpeningDocument). held_documents (held_of (rights_kept items) app) (map document_kept items)) c.as_slice-items.ensures) in
    let present : List File = (held_items o.files).present in
    let shown = contents-alike c.in_ok-files.files.present present c.in_ok-files.ensures.shown in
    let contents =
    c.in_ok-contents.ensures
    ∙ (ap (put_all ahead) (shown (paths_held false c.as_slice.result.now))
    ∙ ap (λ (held : List HeldDocument). contents_at present (paths_held false held)) c.as_slice.ensures) in
    let below =
    c.in_ok-below.ensures
    ∙ (ap (put_all below_ahead) (below-alike c.in_ok-files.files.present present c.in_ok-files.ensures.shown (paths_held true c.as_slice-2.result.now))
    ∙ ap (λ (held : List HeldDocument). below_at present (paths_held true held)) c.as_slice-2.ensures) in
    viewed o app c.in_ok-documents.documents c.new.result c.in_ok-contents.contents c.in_ok-below.below c.new-2.result documents c.new.ensures contents below c.new-2.ensures
