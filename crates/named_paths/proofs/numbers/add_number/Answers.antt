use Rattle.std.proofs.Common.{rules, ap, sym}
use Rattle.named_paths.specs.OpenNumbers.{numbers_in}
use Rattle.named_paths.proofs.KeptNumbers.{begun, joined, ok-then}
use Rattle.named_paths.proofs.numbers.add_number.Goals as goal

pub returns-in-Some : goal.returns-in-Some
returns-in-Some c =
    ok-then c.push_new.result _ _
    (λ e. joined c.args.seat c.args.number c.args.numbers.now
    (c.get_mut.follows.lender c.push_new.new.known) c.in-Some.known.now c.push_new.new.known
    (ap numbers_in (sym c.in-Some.ensures.value)) e
    ((c.get_mut.follows.holds c.push_new.new.known).3 (search rules)))
    c.push_new.ensures

pub returns : goal.returns
returns c =
    begun c.args.seat c.args.number c.args.numbers.now c.insert.new.self
    c.get_mut.follows.lender-at-none c.push.new.self c.get_mut.follows.holds-at-none
    c.in_default.ensures.value (search rules) c.in_ok-insert.ensures.updates
