use Rattle.std.proofs.Common.{List, subst, sym}
use Rattle.std.specs.List.Sorted.{IsStrictlySortedBy}
use Rattle.portal_base.specs.Content.{paths_of}
use Rattle.portal_base.specs.PathOrder.{path_order}
use Rattle.portal_base.specs.declared.files.File.{File}
use Rattle.tree_files.proofs.FilesBelow.{none-left, one-more-in, sorted-in}
use Rattle.tree_files.proofs.files.files_in.Goals as goal

pub loop-path-preserved : goal.loop-path-preserved
loop-path-preserved c =
    one-more-in c.args.folder.now (c.in-Some.path.now, c.in-Some.kept.now) c.loop-path.path-iterator c.next.new.self c.loop-path.files c.push_in.new.files _ c.in-Some.ensures.steps c.in_ok-push_in.ensures c.loop-path.invariant

-- nothing is left, and a map's paths stand in its order
pub returns-clause-files : goal.returns-clause-files
returns-clause-files c = none-left c.args.folder.now c.loop-path.path-iterator c.loop-path.files _ c.in-None.ensures.steps.0 c.loop-path.invariant

pub returns-clause-order : goal.returns-clause-order
returns-clause-order c =
    subst (λ (files : List File). IsStrictlySortedBy path_order (paths_of files)) (sym (returns-clause-files c)) (sorted-in c.args.folder.now c.args.map.now.entries c.iter-path-items.ensures.ordered)
