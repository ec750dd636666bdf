use Rattle.named_paths.proofs.KeptNumbers.{among-them, pushed}
use Rattle.named_paths.proofs.numbers.push_new.Goals as goal

pub returns-then-is_last : goal.returns-then-is_last
returns-then-is_last c = among-them c.args.number c.args.known.now.items
    (rw c.as_slice.ensures.value at (c.is_last.ensures c.if-is_last.true))

pub returns : goal.returns
returns c =
    pushed c.args.number c.args.known.now.items c.push.new.self.items c.in_ok-push.ensures.items
