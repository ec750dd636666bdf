use Rattle.std.proofs.Common.{◌∙◌, Some, ap, sym}
use Rattle.portal_model.specs.declared.reply.Answer.{Answer}
use Rattle.file_ops.specs.Tries.{answer_by}
use Rattle.file_ops.specs.declared.tried.Came.{Came}
use Rattle.file_ops.specs.declared.tried.CallMade.{CallMade}
use Rattle.file_ops.specs.declared.tried.Ended.{Ended}
use Rattle.file_ops.proofs.tried.Ended.of_call.Goals as goal

-- the call with this answer
abbrev ended : CallMade → Answer → Ended
ended call answer = record { answer = answer; call = Some call }

pub returns-in-Done : goal.returns-in-Done
returns-in-Done c = sym (ap (λ (x : Came). ended c.args.call (answer_by x c.args.answer)) c.in-Done.is)

pub returns-in-NotFile : goal.returns-in-NotFile
returns-in-NotFile c = ap (ended c.args.call) c.refusal.ensures ∙ sym (ap (λ (x : Came). ended c.args.call (answer_by x c.args.answer)) c.in-NotFile.is)

pub returns-in-Failed : goal.returns-in-Failed
returns-in-Failed c = ap (ended c.args.call) c.refusal-in-Failed.ensures ∙ sym (ap (λ (x : Came). ended c.args.call (answer_by x c.args.answer)) c.in-Failed.is)
