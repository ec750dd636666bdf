use Rattle.std.proofs.Common.{◌≡◌, List, [], ap, sym, ◌∙◌}
use Rattle.portal_base.specs.declared.who.Who.TheVariants as Who
use Rattle.portal_model.specs.declared.reply.Answer.TheVariants as Answer
use Rattle.portal_model.specs.declared.reply.ListedDocument.{ListedDocument}
use Rattle.grant_revoke.proofs.ArgumentLemmas.{broken-name}
use Rattle.document_calls.specs.Answers.{listing}
use Rattle.document_calls.proofs.ListedDocuments.{empty-is, lists-all, lists-none, lists-read, not-empty}
use Rattle.document_calls.proofs.listing.listing_for_host.Goals as goal

pub returns-then-is_empty : goal.returns-then-is_empty
returns-then-is_empty c =
    let live = c.args.documents.now.live in
    let rights = c.args.grants.now in
    let empty : c.args.app.now ≡ [] =
    empty-is c.is_empty.result c.args.app.now c.if-is_empty.true c.is_empty.ensures in
    ap (λ (ds : List ListedDocument). Answer.Listed ds) c.in_ok-all.ensures
    ∙ (lists-all live rights ∙ ap (listing live rights Who.Host) (sym empty))

pub returns-in_ok-held-in-Ok : goal.returns-in_ok-held-in-Ok
returns-in_ok-held-in-Ok c =
    ap (λ (ds : List ListedDocument). Answer.Listed ds) c.in_ok-held-in-Ok.ensures
    ∙ lists-read c.args.documents.now.live c.args.grants.now c.args.app.now c.in-Ok.app
    c.in-Ok.ensures.ok.0 c.in-Ok.ensures.ok.1

pub returns-in-Err-BadName : goal.returns-in-Err-BadName
returns-in-Err-BadName c =
    lists-none c.args.documents.now.live c.args.grants.now c.args.app.now
    (not-empty c.is_empty.result c.args.app.now c.if-is_empty.false c.is_empty.ensures)
    (broken-name c.args.app.now c.in-Err-BadName.field-0-0
    (rw c.in-Err-BadName.field-0-is at c.in-Err-BadName.ensures.bad))
