use Rattle.std.proofs.Common.{◌+◌, ◌≤◌, ◌∙◌, length, sym, arith}
use Rattle.add_calls.proofs.KindLemmas.{at-end, goes-on, stops}
use Rattle.add_calls.proofs.kinds.are_folders_and_files.Goals as goal

pub returns-then-not-is_place : goal.returns-then-not-is_place
returns-then-not-is_place c =
    let two : c.loop-at.at + 2 ≤ length c.args.looks.now = omega (arith, c.loop-at-test.true) in
    sym (stops c.args.looks.now c.loop-at.at _ _ c.is_place.result two c.is_place.ensures c.if-not-is_place.true) ∙ c.loop-at.invariant.1

pub returns : goal.returns
returns c = sym (at-end c.args.looks.now c.loop-at.at c.loop-at.invariant.0 (omega (arith, c.loop-at-test.false))) ∙ c.loop-at.invariant.1

pub loop-at-preserved : goal.loop-at-preserved
loop-at-preserved c =
    let two : c.loop-at.at + 2 ≤ length c.args.looks.now = omega (arith, c.loop-at-test.true) in
    (two, goes-on c.args.looks.now c.loop-at.at _ _ c.is_place.result two c.is_place.ensures c.if-not-is_place.false ∙ c.loop-at.invariant.1)
