use Rattle.std.proofs.Common.{ℕ, ◌≡◌, ◌-◌, get_or, true, false, not, arith}
use Rattle.std.proofs.lemmas.List.Sums.{suffix_len_is}
use Rattle.std.proofs.lemmas.Bool.Decides.{nat_tests}
use Rattle.portal_base.specs.Names.{is_slash}
use Rattle.portal_base.proofs.names.host_path.behind_last_slash.Goals as goal

no_slash : (b : ℕ) → (b ≡ 47 → ⊥) → not (is_slash b) ≡ true
no_slash b h = grind (arith, nat_tests)

a_slash : (b : ℕ) → b ≡ 47 → not (is_slash b) ≡ false
a_slash b h = grind (arith, nat_tests)

pub returns-else-text-at-ne47-clause-place : goal.returns-else-text-at-ne47-clause-place
returns-else-text-at-ne47-clause-place c =
    let l = c.loop-at in
    let t = c.args.text.now in
    let e = suffix_len_is (λ b. not (is_slash b)) t l.at 0 l.invariant.within (λ k m n. no_slash (get_or t k 0) (l.invariant.none k m n)) (λ m. a_slash (get_or t (l.at - 1) 0) c.if-text-at-ne47.false) in
    let w = l.invariant.within in
    omega (arith, e)

pub returns-after-loop-at-clause-place : goal.returns-after-loop-at-clause-place
returns-after-loop-at-clause-place c =
    let l = c.loop-at in
    let t = c.args.text.now in
    let z = c.loop-at-test.false in
    let e = suffix_len_is (λ b. not (is_slash b)) t l.at 0 l.invariant.within (λ k m n. no_slash (get_or t k 0) (l.invariant.none k m n)) (λ m. absurd (omega arith)) in
    let w = l.invariant.within in
    omega (arith, e)
