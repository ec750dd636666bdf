use Rattle.std.proofs.Common.{◌≡◌, ◌+◌, ◌∙◌, ◌++◌, ◌∷◌, [], List, ℕ, ap, arith, drop, take, false, true, length, length-append, subst, sym}
use Rattle.portal_base.specs.declared.files.Look.{Look}
use Rattle.add_calls.specs.Shown.{Asked, Shows}
use Rattle.add_calls.proofs.ShownLemmas.{answer-shows, asked-failing, asked-more, asked-told, next-path, shows-failing, shows-more, split-at}
use Rattle.add_calls.proofs.looks.look_all.Goals as goal

pub returns-in-Failed-clause-shows : goal.returns-in-Failed-clause-shows
returns-in-Failed-clause-shows g c =
    let told = (g.T.HostTree.is c.args.tree.now).told in
    let whole : take c.loop-path.path-index c.args.paths.now ++ c.path-item.result ∷ drop (c.loop-path.path-index + 1) c.args.paths.now ≡ c.args.paths.now =
    split-at c.args.paths.now c.loop-path.path-index c.path-item.result c.path-item.result c.loop-path-test.true c.path-item.is in
    let shown = shows-failing told (take c.loop-path.path-index c.args.paths.now) c.path-item.result (drop (c.loop-path.path-index + 1) c.args.paths.now) c.loop-path.looks.items c.loop-path.invariant.0 in
    subst (λ (looks : List Look). Shows told c.args.paths.now looks true) (sym c.from_vec.ensures) (subst (λ (paths : List (List ℕ)). Shows told paths c.loop-path.looks.items true) whole shown)

pub returns-in-Failed-clause-asked : goal.returns-in-Failed-clause-asked
returns-in-Failed-clause-asked g c =
    subst (λ (looks : List Look). Asked (g.T.HostTree.is c.args.tree.now) (length looks) true (g.T.HostTree.is c.look.new.self)) (sym c.from_vec.ensures)
    (asked-failing (length c.loop-path.looks.items) (g.T.HostTree.is c.args.tree.now) (g.T.HostTree.is c.loop-path.tree) (g.T.HostTree.is c.look.new.self) c.loop-path.invariant.1 c.in-Failed.ensures.asks)

pub loop-path-preserved : goal.loop-path-preserved
loop-path-preserved g c =
    let old = g.T.HostTree.is c.args.tree.now in
    let mid = g.T.HostTree.is c.loop-path.tree in
    let paths = take c.loop-path.path-index c.args.paths.now in
    let same : mid.told ≡ old.told = asked-told (length c.loop-path.looks.items) old mid false c.loop-path.invariant.1 in
    let shown = answer-shows mid.told old.told c.path-item.result c.in-Is.look same c.in-Is.ensures.looks in
    let more = shows-more old.told paths c.path-item.result c.loop-path.looks.items c.in-Is.look c.loop-path.invariant.0 shown in
    let next = next-path c.args.paths.now c.loop-path.path-index c.path-item.result c.path-item.result c.loop-path-test.true c.path-item.is in
    let asked = asked-more (length c.loop-path.looks.items) old mid (g.T.HostTree.is c.look.new.self) c.loop-path.invariant.1 c.in-Is.ensures.asks in
    let items : c.push_reserved.new.self.items ≡ c.loop-path.looks.items ++ c.in-Is.look ∷ [] = c.push_reserved.ensures.items in
    let long : length c.push_reserved.new.self.items ≡ length c.loop-path.looks.items + 1 = ap (λ (l : List Look). length l) items ∙ length-append c.loop-path.looks.items (c.in-Is.look ∷ []) in (
      subst (λ (l : List Look). Shows old.told (take (c.loop-path.path-index + 1) c.args.paths.now) l false) (sym items) (subst (λ (ps : List (List ℕ)). Shows old.told ps (c.loop-path.looks.items ++ c.in-Is.look ∷ []) false) (sym next) more),
      subst (λ (n : ℕ). Asked old n false (g.T.HostTree.is c.look.new.self)) (sym long) asked,
      omega (arith, c.push_reserved.ensures.len, c.loop-path.invariant.2),
      omega (arith, c.push_reserved.ensures.capacity, c.loop-path.invariant.3),
    )
