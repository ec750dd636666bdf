use Rattle.std.proofs.Common.{sym, subst}
use Rattle.portal_model.specs.declared.request.Request.TheVariants as Request
use Rattle.document_calls.specs.Books.{queue_set}
use Rattle.document_calls.specs.Serves.{Serves}
use Rattle.document_calls.specs.declared.served.ServedCall.{ServedCall}
use Rattle.document_calls.proofs.QueueSteps.{present-serves}
use Rattle.document_calls.proofs.presented.present.Goals as goal

pub returns-in-Ok-clause-ok : goal.returns-in-Ok-clause-ok
returns-in-Ok-clause-ok c = λ s b v h w.
    subst (λ (x : ServedCall). Serves s b (Request.Present c.args.path.now) x.given (queue_set s b c.put.new.queue) x.answer) (sym c.answered.ensures)
    (present-serves c.args.queue.now c.put.new.queue c.args.limit c.args.who.now c.args.path.now c.in-Ok.answer c.in-Ok.ensures.ok s b v h w)
