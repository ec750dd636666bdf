use Rattle.std.proofs.Common.{◌≡◌, ◌+◌, ℕ, arith, ap}
use Rattle.store_data.proofs.WalkedLeaves.{stands-at}
use Rattle.store_data.proofs.WalkedParts.{long-body, short-body}
use Rattle.store_data.proofs.values.elements_end.Goals as goal

pub returns-then-body-gt-LONGEST_ARRAY : goal.returns-then-body-gt-LONGEST_ARRAY
returns-then-body-gt-LONGEST_ARRAY c passed at count first body = let counted = body.counted in long-body count (omega arith)

pub returns : goal.returns
returns c passed at count first body =
    let counted = body.counted in
    let bytes = c.args.body.bytes in
    let same : bytes ≡ count = omega arith in
    (short-body count (omega arith), stands-at (passed + bytes) (passed + count) (at + bytes) (at + count) c.passing.result (ap (λ (n : ℕ). passed + n) same) (ap (λ (n : ℕ). at + n) same) (c.passing.ensures passed at first))
