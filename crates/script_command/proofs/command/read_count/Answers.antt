use Rattle.std.proofs.Common.{inl, inr}
use Rattle.script_command.proofs.Counts.{no_count, no_count_of}
use Rattle.script_command.proofs.command.read_count.Goals as goal

pub returns-in_default : goal.returns-in_default
returns-in_default c = no_count c.args.word.now c.in_default.ensures

pub returns-then-number-eq0 : goal.returns-then-number-eq0
returns-then-number-eq0 c = no_count_of c.args.word.now c.in-Some.number c.in-Some.ensures.0 c.in-Some.ensures.1 (inl c.if-number-eq0.true)

pub returns-then-number-gt-MOST_REQUESTS : goal.returns-then-number-gt-MOST_REQUESTS
returns-then-number-gt-MOST_REQUESTS c = no_count_of c.args.word.now c.in-Some.number c.in-Some.ensures.0 c.in-Some.ensures.1 (inr c.if-number-gt-MOST_REQUESTS.true)
