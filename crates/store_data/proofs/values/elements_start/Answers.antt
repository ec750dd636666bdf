use Rattle.std.proofs.Common.{◌≡◌, ◌+◌, ◌%◌, ◌∙◌, ℕ, ap, arith}
use Rattle.dbus_values.specs.Spells.{gap}
use Rattle.dbus_types.specs.Types.{alignment}
use Rattle.store_data.specs.Walks.{ahead_of_elements}
use Rattle.store_data.proofs.WalkedLeaves.{stands-at}
use Rattle.store_data.proofs.WalkedParts.{alignment-divides}
use Rattle.store_data.proofs.values.elements_start.Goals as goal

pub padded-requires-clause-divides : goal.padded-requires-clause-divides
padded-requires-clause-divides c = ap (λ (n : ℕ). 8 % n) c.alignment_of.ensures.known ∙ alignment-divides c.args.element.now

pub returns : goal.returns
returns c passed at h =
    let number = gap 4 at + 4 in
    let to = c.alignment_of.result in
    let same : gap to (at + number) ≡ gap (alignment c.args.element.now) (at + number) = ap (λ (n : ℕ). gap n (at + number)) c.alignment_of.ensures.known in
    let ahead = ahead_of_elements c.args.element.now at in
    let p : (passed + number) + gap to (at + number) ≡ passed + ahead = omega (arith, same) in
    let a : (at + number) + gap to (at + number) ≡ at + ahead = omega (arith, same) in
    stands-at ((passed + number) + gap to (at + number)) (passed + ahead) ((at + number) + gap to (at + number)) (at + ahead) c.padded.result p a (c.padded.ensures (passed + number) (at + number) (c.number_end.ensures passed at h))
