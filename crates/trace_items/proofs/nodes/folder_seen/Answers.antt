use Rattle.std.proofs.Common.{Option, Some, option_copied, sym, ap, ◌∙◌}
use Rattle.portal_model.specs.declared.place.Place.{Place}
use Rattle.portal_model.specs.Place.{sight_at}
use Rattle.trace_items.specs.FilesChanged.{document_of_folder}
use Rattle.trace_items.proofs.nodes.folder_seen.Goals as goal

pub returns-in_err-seen_document-in-Folder : goal.returns-in_err-seen_document-in-Folder
returns-in_err-seen_document-in-Folder c = λ s naming temp lends.
    ap option_copied c.from_residual-in_err-seen_document-in-Folder.ensures
    ∙ (sym (ap document_of_folder (c.in_err-seen_document-in-Folder.ensures.folder s naming temp lends))
    ∙ ap (λ (o : Option Place). document_of_folder (sight_at s c.args.at.now.who.now naming temp o)) (ap Some (sym c.in-Folder.is) ∙ c.in_ok-view.ensures.place))

pub returns-in_ok-seen_document-in-Folder : goal.returns-in_ok-seen_document-in-Folder
returns-in_ok-seen_document-in-Folder c = λ s naming temp lends.
    sym (ap document_of_folder (c.in_ok-seen_document-in-Folder.ensures.folder s naming temp lends))
    ∙ ap (λ (o : Option Place). document_of_folder (sight_at s c.args.at.now.who.now naming temp o)) (ap Some (sym c.in-Folder.is) ∙ c.in_ok-view.ensures.place)
