use Rattle.std.proofs.Common.{◌≤◌, ◌∙◌, sym, length, arith}
use Rattle.node_looks.proofs.NumberedNames.{is-found, is-nowhere, one-more}
use Rattle.node_looks.proofs.names.number_named.Goals as goal

pub returns-then-is_named-clause-number : goal.returns-then-is_named-clause-number
returns-then-is_named-clause-number c = is-found c.args.applications.now c.args.name.now c.loop-index.index c.loop-index.invariant (sym c.is_named.ensures ∙ c.if-is_named.true)

pub loop-index-preserved : goal.loop-index-preserved
loop-index-preserved c = one-more c.args.applications.now c.args.name.now c.loop-index.index c.loop-index.invariant (sym c.is_named.ensures ∙ c.if-is_named.false)

pub returns-clause-number : goal.returns-clause-number
returns-clause-number c =
    let all : length c.args.applications.now ≤ c.loop-index.index = omega (arith, c.len-index-end.ensures.count, c.loop-index-test.false) in
    is-nowhere c.args.applications.now c.args.name.now c.loop-index.index c.loop-index.invariant all
