use Rattle.std.proofs.Common.{◌≤◌, ℕ, List, length, sym, ◌∙◌, subst}
use Rattle.std.proofs.lemmas.List.{take_all}
use Rattle.rights_rule.proofs.NameLemmas.{next-rights, next-known, first-unknown}
use Rattle.rights_rule.proofs.names.read_names.Goals as goal

pub returns-in_default-clause-err : goal.returns-in_default-clause-err
returns-in_default-clause-err c = (
  c.loop-index.index,
  first-unknown c.as_slice-name-items.result.now c.args.names.now c.loop-index.index c.name-item.result c.as_bytes.result.now c.as_slice-name-items.ensures c.loop-index-test.true c.name-item.is c.as_bytes.ensures (sym c.named.ensures ∙ c.in_default.is) c.loop-index.invariant.1,
  c.told_place.ensures,
)

pub loop-index-preserved : goal.loop-index-preserved
loop-index-preserved c = (
  next-rights c.as_slice-name-items.result.now c.args.names.now c.loop-index.index c.name-item.result c.as_bytes.result.now c.loop-index.rights c.in-Some.right c.union-rights.result c.as_slice-name-items.ensures c.loop-index-test.true c.name-item.is c.as_bytes.ensures (sym c.named.ensures ∙ c.in-Some.is) c.loop-index.invariant.0 c.union-rights.ensures,
  next-known c.as_slice-name-items.result.now c.args.names.now c.loop-index.index c.name-item.result c.as_bytes.result.now c.in-Some.right c.as_slice-name-items.ensures c.loop-index-test.true c.name-item.is c.as_bytes.ensures (sym c.named.ensures ∙ c.in-Some.is) c.loop-index.invariant.1,
)

pub returns-clause-known : goal.returns-clause-known
returns-clause-known c =
    let past : length c.args.names.now ≤ c.loop-index.index = subst (λ (l : List (List ℕ)). length l ≤ c.loop-index.index) c.as_slice-name-items.ensures c.loop-index-test.false in
    rw (take_all c.loop-index.index c.args.names.now past) at c.loop-index.invariant.1

pub returns-clause-ok : goal.returns-clause-ok
returns-clause-ok c =
    let past : length c.args.names.now ≤ c.loop-index.index = subst (λ (l : List (List ℕ)). length l ≤ c.loop-index.index) c.as_slice-name-items.ensures c.loop-index-test.false in
    rw (take_all c.loop-index.index c.args.names.now past) at c.loop-index.invariant.0
