use Rattle.std.proofs.Common.{◌<◌, ◌∙◌, List, ℕ, ap, length, sym, subst}
use Rattle.add_files.specs.declared.plan.PlanItem.{PlanItem}
use Rattle.add_calls.proofs.PathLemmas.{file-of, path-of}
use Rattle.add_calls.proofs.looks.paths_shown.Goals as goal

pub push_looked_at-requires : goal.push_looked_at-requires
push_looked_at-requires c =
    let file = file-of c.args.presented.now c.as_slice-handles.result.now c.args.add.now.handles c.loop-at.at c.index-presented-handles.result c.as_slice-handles.ensures c.requires.below c.loop-at-test.true c.index-presented-handles.is in
    let inside : c.loop-at.at < length c.args.add.now.handles = subst (λ (l : List ℕ). c.loop-at.at < length l) c.as_slice-handles.ensures c.loop-at-test.true in
    ap (λ (i : PlanItem). i.path) (sym c.index-items-at.is)
    ∙ path-of c.args.add.now c.args.presented.now c.args.items.now c.args.add.now.handles c.loop-at.at c.index-items-at.result c.index-presented-handles.result c.requires.planned inside c.index-items-at.is file
