use Rattle.std.proofs.Common.{sym, ◌∙◌}
use Rattle.trace_items.proofs.Asked.{foreign-order, invalid-order, planned-is}
use Rattle.trace_items.proofs.adds.planned.Goals as goal

pub returns-in-Ok-clause-some : goal.returns-in-Ok-clause-some
returns-in-Ok-clause-some c =
    planned-is c.args.documents.now.live c.args.rights.now c.args.queue.now c.args.add.now (sym c.are_presented.ensures ∙ c.if-not-are_presented.false) _ (sym c.split_at.ensures.front)
    c.in-Ok.plan c.in-Ok.ensures.call c.in-Ok.ensures.ok

pub returns-in-Err-InvalidArgument : goal.returns-in-Err-InvalidArgument
returns-in-Err-InvalidArgument c = record {
  some = tt;
  none = λ e.
      invalid-order c.args.documents.now.live c.args.rights.now c.args.queue.now c.args.add.now (sym c.are_presented.ensures ∙ c.if-not-are_presented.false) _ (sym c.split_at.ensures.front)
      (rw c.in-Err-InvalidArgument.field-0-is at c.in-Err-InvalidArgument.ensures.err);
}

pub returns-in-Err-NotAllowed : goal.returns-in-Err-NotAllowed
returns-in-Err-NotAllowed c = record {
  some = tt;
  none = λ e.
      foreign-order c.args.documents.now.live c.args.rights.now c.args.queue.now c.args.add.now (sym c.are_presented.ensures ∙ c.if-not-are_presented.false) _ (sym c.split_at.ensures.front)
      (rw c.in-Err-NotAllowed.field-0-is at c.in-Err-NotAllowed.ensures.err);
}
