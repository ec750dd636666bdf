use Rattle.std.proofs.Common.{sym, subst}
use Rattle.portal_model.specs.declared.request.Request.TheVariants as Request
use Rattle.document_calls.specs.Serves.{Serves}
use Rattle.document_calls.specs.declared.served.ServedCall.{ServedCall}
use Rattle.document_calls.proofs.ReadAnswers.{lookup-serves}
use Rattle.document_calls.proofs.lookup.lookup_document.Goals as goal

pub returns : goal.returns
returns c = λ s b d w.
    subst (λ (x : ServedCall). Serves s b (Request.LookupDocument c.args.path.now) x.given s x.answer) (sym c.answered.ensures)
    (lookup-serves c.args.documents.now.live c.args.who.now c.args.path.now c.in_ok-looked_up.field-0 c.in_ok-looked_up.ensures s b d w)
