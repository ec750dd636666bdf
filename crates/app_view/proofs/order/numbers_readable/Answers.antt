use Rattle.std.proofs.Common.{◌∙◌, List, ap, arith, map}
use Rattle.std.specs.List.{filter}
use Rattle.std.proofs.lemmas.List.{take_all}
use Rattle.portal_base.specs.declared.names.doc_id.DocId.{DocId}
use Rattle.portal_base.specs.declared.who.Who.{Who}
use Rattle.app_view.specs.Entries.{is_readable}
use Rattle.app_view.proofs.SortedNumbers.{readable-seen}
use Rattle.app_view.proofs.order.numbers_readable.Goals as goal

pub returns : goal.returns
returns c =
    let rights = c.args.book.now.grants.now in
    let live = c.args.book.now.documents.now.live in
    let items = c.as_slice-id-items.result.now in
    c.loop-id.invariant
    ∙ (ap (λ (xs : List DocId). map (λ (x : DocId). x.number)
    (filter (is_readable rights (Who.App c.args.app.now) live) xs))
    (take_all c.loop-id.id-index items (omega arith)
    ∙ (c.as_slice-id-items.ensures ∙ c.in_ok-ids.ensures))
    ∙ readable-seen rights c.args.app.now live)
