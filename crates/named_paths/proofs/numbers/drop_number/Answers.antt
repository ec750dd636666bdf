use Rattle.std.proofs.Common.{rules, ap, sym}
use Rattle.named_paths.specs.OpenNumbers.{numbers_in}
use Rattle.named_paths.proofs.KeptNumbers.{dropped}
use Rattle.named_paths.proofs.numbers.drop_number.Goals as goal

pub returns-in-Some : goal.returns-in-Some
returns-in-Some c =
    dropped c.args.seat c.args.number c.args.numbers.now
    (c.get_mut.follows.lender c.take_out.new.known) c.in-Some.known.now c.take_out.new.known
    (ap numbers_in (sym c.in-Some.ensures.value)) c.take_out.ensures
    ((c.get_mut.follows.holds c.take_out.new.known).3 (search rules))
