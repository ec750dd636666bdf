use Rattle.std.proofs.Common.{◌≡◌, ◌+◌, ◌-◌, ◌%◌, ℕ, ap}
use Rattle.dbus_values.specs.Spells.{gap}
use Rattle.store_data.proofs.EightAlignments.{same-gap}
use Rattle.store_data.proofs.WalkedLeaves.{stands-at}
use Rattle.store_data.proofs.walk.padded.Goals as goal

pub returns : goal.returns
returns c passed at h =
    let to = c.args.to in
    let phase = c.args.walk.phase in
    let count = (to - phase % to) % to in
    let same : count ≡ gap to at = same-gap to at phase c.requires.some c.requires.divides h.phase in
    stands-at (passed + count) (passed + gap to at) (at + count) (at + gap to at) c.passing.result (ap (λ (n : ℕ). passed + n) same) (ap (λ (n : ℕ). at + n) same) (c.passing.ensures passed at h)
