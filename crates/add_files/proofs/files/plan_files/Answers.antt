use Rattle.std.proofs.Common.{◌≡◌, ◌<◌, ◌≤◌, ◌∙◌, ap, subst, sym, length, true, List, ℕ, refl, arith}
use Rattle.std.specs.List.{list_all}
use Rattle.add_files.specs.Arguments.{is_joined_well}
use Rattle.add_files.specs.Items.{are_below, items_of, paths_of, presented_of}
use Rattle.add_files.proofs.ItemLemmas.{all-of, fails-all, file-at, more-items, more-joined, one-longer}
use Rattle.add_files.proofs.files.plan_files.Goals as goal

pub plan_file-requires : goal.plan_file-requires
plan_file-requires c =
    let all : length c.as_slice-handle-items.result.now ≡ length c.args.add.now.handles = ap (λ (l : List ℕ). length l) c.as_slice-handle-items.ensures in
    let few : length c.args.add.now.handles ≤ 16 = c.requires.few in
    let inside : c.loop-handle.handle-index < length c.as_slice-handle-items.result.now = c.loop-handle-test.true in
    let so_far : length c.loop-handle.items ≡ c.loop-handle.handle-index = c.loop-handle.invariant.2 in
    omega arith

pub loop-handle-preserved : goal.loop-handle-preserved
loop-handle-preserved c =
    let inside : c.loop-handle.handle-index < length c.as_slice-handle-items.result.now = c.loop-handle-test.true in
    let at = file-at c.args.paths.now c.as_slice-handle-items.result.now c.as_slice-handle-items.result.now c.loop-handle.handle-index c.index-paths-handle.result refl
    (subst (λ (l : List ℕ). are_below (length c.args.paths.now) l ≡ true) (sym c.as_slice-handle-items.ensures) c.requires.below) inside c.index-paths-handle.is in (
      more-items c.args.documents.now.live c.args.who.now c.args.add.now c.args.app.now c.args.paths.now c.as_slice-handle-items.result.now c.loop-handle.handle-index c.index-paths-handle.result inside at c.loop-handle.items c.plan_file.new.items c.loop-handle.invariant.0 c.in_default.ensures.ok,
      more-joined c.args.documents.now.live c.args.who.now c.args.add.now c.args.app.now c.args.paths.now c.as_slice-handle-items.result.now c.loop-handle.handle-index c.index-paths-handle.result inside at c.loop-handle.invariant.1 c.in_default.ensures.joined,
      one-longer c.loop-handle.items c.plan_file.new.items _ c.loop-handle.handle-index c.in_default.ensures.ok c.loop-handle.invariant.2,
    )

pub returns-in-Err-clause-err : goal.returns-in-Err-clause-err
returns-in-Err-clause-err c =
    let inside : c.loop-handle.handle-index < length c.as_slice-handle-items.result.now = c.loop-handle-test.true in
    fails-all c.args.add.now c.args.paths.now c.args.add.now.handles c.loop-handle.handle-index c.index-paths-handle.result
    (subst (λ (l : List ℕ). c.loop-handle.handle-index < length l) c.as_slice-handle-items.ensures inside)
    (file-at c.args.paths.now c.as_slice-handle-items.result.now c.args.add.now.handles c.loop-handle.handle-index c.index-paths-handle.result c.as_slice-handle-items.ensures c.requires.below inside c.index-paths-handle.is)
    c.in-Err.error c.in-Err.ensures.err

pub returns-clause-ok : goal.returns-clause-ok
returns-clause-ok c =
    c.loop-handle.invariant.0
    ∙ ap (λ (l : List ℕ). items_of c.args.documents.now.live c.args.who.now c.args.add.now c.args.app.now (paths_of c.args.add.now c.args.paths.now l))
    (all-of c.args.add.now.handles c.as_slice-handle-items.result.now c.loop-handle.handle-index c.as_slice-handle-items.ensures c.loop-handle-test.false)

pub returns-clause-joined : goal.returns-clause-joined
returns-clause-joined c =
    subst (λ (l : List ℕ). list_all (is_joined_well c.args.add.now) (presented_of c.args.paths.now l) ≡ true)
    (all-of c.args.add.now.handles c.as_slice-handle-items.result.now c.loop-handle.handle-index c.as_slice-handle-items.ensures c.loop-handle-test.false)
    c.loop-handle.invariant.1

pub returns-clause-count : goal.returns-clause-count
returns-clause-count c =
    let all : length c.as_slice-handle-items.result.now ≡ length c.args.add.now.handles = ap (λ (l : List ℕ). length l) c.as_slice-handle-items.ensures in
    let few : length c.args.add.now.handles ≤ 16 = c.requires.few in
    let inside : c.loop-handle.handle-index ≤ length c.as_slice-handle-items.result.now = c.loop-handle.auto.handle-index-end in
    let so_far : length c.loop-handle.items ≡ c.loop-handle.handle-index = c.loop-handle.invariant.2 in
    omega arith
