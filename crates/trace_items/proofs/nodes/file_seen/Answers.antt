use Rattle.std.proofs.Common.{Option, Some, option_copied, sym, ap, ◌∙◌}
use Rattle.portal_model.specs.declared.place.Place.{Place}
use Rattle.portal_model.specs.Place.{sight_at}
use Rattle.trace_items.specs.FilesChanged.{path_of_file}
use Rattle.trace_items.proofs.NodeParts.{path-of-document}
use Rattle.trace_items.proofs.nodes.file_seen.Goals as goal

pub returns-in_err-seen_document-in-File : goal.returns-in_err-seen_document-in-File
returns-in_err-seen_document-in-File c = λ s lends.
    let naming = option_copied c.args.at.now.naming in
    let temp = option_copied c.args.at.now.temp in
    ap option_copied c.from_residual-in_err-seen_document-in-File.ensures
    ∙ (sym (ap path_of_file (c.in_err-seen_document-in-File.ensures.file s naming temp lends))
    ∙ ap (λ (o : Option Place). path_of_file (sight_at s c.args.at.now.who.now naming temp o)) (ap Some (sym c.in-File.is) ∙ c.in_ok-view.ensures.place))

pub returns-in_ok-seen_document-in-File : goal.returns-in_ok-seen_document-in-File
returns-in_ok-seen_document-in-File c = λ s lends.
    let naming = option_copied c.args.at.now.naming in
    let temp = option_copied c.args.at.now.temp in
    let d = c.in_ok-seen_document-in-File.field-0 in
    path-of-document c.in-File.view d.document.now d.document.now.folder d.may_write
    ∙ (sym (ap path_of_file (c.in_ok-seen_document-in-File.ensures.file s naming temp lends))
    ∙ ap (λ (o : Option Place). path_of_file (sight_at s c.args.at.now.who.now naming temp o)) (ap Some (sym c.in-File.is) ∙ c.in_ok-view.ensures.place))

pub returns-in_err-seen_naming-in-Named : goal.returns-in_err-seen_naming-in-Named
returns-in_err-seen_naming-in-Named c = λ s lends.
    let naming = option_copied c.args.at.now.naming in
    let temp = option_copied c.args.at.now.temp in
    ap option_copied c.from_residual-in_err-seen_naming-in-Named.ensures
    ∙ (sym (ap path_of_file (c.in_err-seen_naming-in-Named.ensures.below c.in-Named.k s temp lends))
    ∙ ap (λ (o : Option Place). path_of_file (sight_at s c.args.at.now.who.now naming temp o)) (ap Some (sym c.in-Named.is) ∙ c.in_ok-view.ensures.place))

pub returns-in_ok-seen_naming-in-Named : goal.returns-in_ok-seen_naming-in-Named
returns-in_ok-seen_naming-in-Named c = λ s lends.
    let naming = option_copied c.args.at.now.naming in
    let temp = option_copied c.args.at.now.temp in
    sym (ap path_of_file (c.in_ok-seen_naming-in-Named.ensures.below c.in-Named.k s temp lends))
    ∙ ap (λ (o : Option Place). path_of_file (sight_at s c.args.at.now.who.now naming temp o)) (ap Some (sym c.in-Named.is) ∙ c.in_ok-view.ensures.place)

pub returns-in_err-seen_temp-in-Temporary : goal.returns-in_err-seen_temp-in-Temporary
returns-in_err-seen_temp-in-Temporary c = λ s lends.
    let naming = option_copied c.args.at.now.naming in
    let temp = option_copied c.args.at.now.temp in
    ap option_copied c.from_residual-in_err-seen_temp-in-Temporary.ensures
    ∙ (sym (ap path_of_file (c.in_err-seen_temp-in-Temporary.ensures.temp c.in-Temporary.k s naming lends))
    ∙ ap (λ (o : Option Place). path_of_file (sight_at s c.args.at.now.who.now naming temp o)) (ap Some (sym c.in-Temporary.is) ∙ c.in_ok-view.ensures.place))

pub returns-in_ok-seen_temp-in-Temporary : goal.returns-in_ok-seen_temp-in-Temporary
returns-in_ok-seen_temp-in-Temporary c = λ s lends.
    let naming = option_copied c.args.at.now.naming in
    let temp = option_copied c.args.at.now.temp in
    sym (ap path_of_file (c.in_ok-seen_temp-in-Temporary.ensures.temp c.in-Temporary.k s naming lends))
    ∙ ap (λ (o : Option Place). path_of_file (sight_at s c.args.at.now.who.now naming temp o)) (ap Some (sym c.in-Temporary.is) ∙ c.in_ok-view.ensures.place)
