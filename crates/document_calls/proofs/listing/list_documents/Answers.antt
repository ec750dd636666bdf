use Rattle.std.proofs.Common.{sym, subst}
use Rattle.portal_model.specs.declared.request.Request.TheVariants as Request
use Rattle.document_calls.specs.Serves.{Serves}
use Rattle.document_calls.specs.declared.served.ServedCall.{ServedCall}
use Rattle.document_calls.proofs.ReadAnswers.{listing-serves}
use Rattle.document_calls.proofs.listing.list_documents.Goals as goal

pub returns : goal.returns
returns c = λ s b d r w.
    subst (λ (x : ServedCall). Serves s b (Request.ListDocuments c.args.app.now) x.given s x.answer) (sym c.answered.ensures)
    (listing-serves c.args.documents.now.live c.args.grants.now c.args.who.now c.args.app.now c.in_ok-listing.field-0 c.in_ok-listing.ensures s b d r w)
