use Rattle.std.proofs.Common.{◌≡◌, ◌≤◌, ℕ, List, ◌∙◌, [], ◌∷◌, ◌++◌, length, subst, sym}
use Rattle.dbus_types.specs.declared.types.Endian.TheVariants.{Little}
use Rattle.dbus_values.specs.Spelling.{spelling}
use Rattle.bus_answers.proofs.Extras.{bytes_long}
use Rattle.bus_answers.proofs.begun.extra_bytes.Goals as goal

pub returns-clause-spelled : goal.returns-clause-spelled
returns-clause-spelled c =
    let zeros : c.in_ok-bytes.bytes ≡ 0 ∷ 0 ∷ 0 ∷ 0 ∷ [] = c.in_ok-bytes.ensures in
    c.in_ok-write_value.ensures.written ∙ (λ i. zeros i ++ spelling Little (length (zeros i)) (c.in_ok-value.ensures i))

pub returns-clause-wide : goal.returns-clause-wide
returns-clause-wide c =
    let zeros : c.in_ok-bytes.bytes ≡ 0 ∷ 0 ∷ 0 ∷ 0 ∷ [] = c.in_ok-bytes.ensures in
    let all = c.in_ok-write_value.ensures.written ∙ (λ i. zeros i ++ spelling Little (length (zeros i)) (c.in_ok-value.ensures i)) in
    subst (λ (w : List ℕ). 8 ≤ length w) (sym all) (bytes_long c.args.mountpoint.now)
