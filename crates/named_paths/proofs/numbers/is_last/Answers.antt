use Rattle.std.proofs.Common.{length, Some, ◌-◌, ◌∙◌, ap, sym}
use Rattle.named_paths.proofs.KeptNumbers.{among-at, nat-is}
use Rattle.named_paths.proofs.numbers.is_last.Goals as goal

pub returns-in-Some : goal.returns-in-Some
returns-in-Some c h =
    among-at c.args.known.now (length c.args.known.now - 1) c.args.number
    (ap Some (sym (nat-is c.in-Some.last.now c.args.number h)) ∙ c.in-Some.ensures.value)
