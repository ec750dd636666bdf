use Rattle.std.proofs.Common.{None, Some, refl}
use Rattle.app_view.proofs.ReachedRights.{view-reaches}
use Rattle.app_view.proofs.rights_now.reach_at.Goals as goal

pub returns-in-Some : goal.returns-in-Some
returns-in-Some c = λ s l. view-reaches c.args.book.now s l c.args.who.now c.args.node _ c.args.document.number (Some c.in-Some.subject) c.subject_of.result _ c.view_of.ensures c.subject_of.ensures.subject c.in-Some.is (c.reach_of.ensures s l)

pub returns-in-None : goal.returns-in-None
returns-in-None c = λ s l. view-reaches c.args.book.now s l c.args.who.now c.args.node _ c.args.document.number None c.subject_of.result _ c.view_of.ensures c.subject_of.ensures.subject c.in-None.is refl
