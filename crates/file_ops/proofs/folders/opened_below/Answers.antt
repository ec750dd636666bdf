use Rattle.std.proofs.Common.{◌∙◌, List, ap, not, refl, subst}
use Rattle.portal_base.specs.declared.files.ChildName.{ChildName}
use Rattle.file_ops.specs.OpenedFolders.{ListedBelow}
use Rattle.file_ops.proofs.OpenedDirs.{failed-below, full-below, names-below, nothing-below}
use Rattle.file_ops.proofs.folders.opened_below.Goals as goal

pub returns-then-not-branch-clause-ok : goal.returns-then-not-branch-clause-ok
returns-then-not-branch-clause-ok g c = λ temps. record {
  behind = _;
  looked = c.behind_look.ensures;
  opened = full-below c.args.call.now.request.now c.args.view c.args.below.seen.document.now c.args.below.path.now c.args.below.seen.may_write temps c.args.call.now.seat c.args.handles.now c.take_room.new.handles _ _ c.take_room.ensures.kept
      c.refusal.result c.refusal.ensures (c.in_ok-take_room.ensures.full ∙ ap not c.if-not-branch.true) refl;
}

pub returns-in_ok-answer-in-Names-clause-ok : goal.returns-in_ok-answer-in-Names-clause-ok
returns-in_ok-answer-in-Names-clause-ok g c = λ temps. record {
  behind = _;
  looked = c.behind_look-in-Names.ensures;
  opened = names-below c.args.call.now.request.now c.args.view c.args.below.seen.document.now c.args.below.path.now c.args.below.seen.may_write temps c.args.call.now.seat c.args.handles.now c.take_room.new.handles _ _ c.take_room.ensures.kept
      c.in-Names.names c.in_ok-answer-in-Names.answer c.listed_below.new.handles (c.in_ok-take_room.ensures.full ∙ ap not c.if-not-branch.false) c.in-Names.ensures.lists c.in-Names.ensures.asks
      (subst (λ (cs : List ChildName). ListedBelow c.args.call.now.request.now c.args.view c.args.below.seen.document.now c.args.below.path.now cs c.args.call.now.seat c.take_room.new.handles c.in_ok-answer-in-Names.answer c.listed_below.new.handles) c.as_slice.ensures
      c.in_ok-answer-in-Names.ensures.ok);
}

pub returns-in-NotFolder-clause-ok : goal.returns-in-NotFolder-clause-ok
returns-in-NotFolder-clause-ok g c = λ temps. record {
  behind = _;
  looked = c.behind_look-in-NotFolder.ensures;
  opened = nothing-below c.args.call.now.request.now c.args.view c.args.below.seen.document.now c.args.below.path.now c.args.below.seen.may_write temps c.args.call.now.seat c.args.handles.now c.take_room.new.handles (g.T.HostTree.is c.args.tree.now) _ c.take_room.ensures.kept
      c.refusal-in-NotFolder.result c.refusal-in-NotFolder.ensures (c.in_ok-take_room.ensures.full ∙ ap not c.if-not-branch.false) c.in-NotFolder.ensures.lists c.in-NotFolder.ensures.asks;
}

pub returns-in-Failed-clause-ok : goal.returns-in-Failed-clause-ok
returns-in-Failed-clause-ok g c = λ temps. record {
  behind = _;
  looked = c.behind_look-in-Failed.ensures;
  opened = failed-below c.args.call.now.request.now c.args.view c.args.below.seen.document.now c.args.below.path.now c.args.below.seen.may_write temps c.args.call.now.seat c.args.handles.now c.take_room.new.handles (g.T.HostTree.is c.args.tree.now) _ c.take_room.ensures.kept
      c.refusal-in-Failed.result c.refusal-in-Failed.ensures (c.in_ok-take_room.ensures.full ∙ ap not c.if-not-branch.false) c.in-Failed.ensures.asks;
}
