-- What is answered by an open file of a strict document.
use Rattle.std.proofs.Common.{◌≡◌, ℕ, List, Bool, true, false, Option, sym, ap, subst, ◌∙◌}
use Rattle.portal_model.specs.declared.reply.Answer.{Answer}
use Rattle.portal_model.specs.declared.reply.NodeAnswer.{NodeAnswer}
use Rattle.portal_model.specs.declared.reply.Reply.{Reply}
use Rattle.portal_model.specs.declared.request.NodeOp.{NodeOp}
use Rattle.portal_model.specs.declared.request.NodeRequest.{NodeRequest}
use Rattle.portal_model.specs.declared.request.Request.{Request}
use Rattle.portal_model.specs.Alike.{Alike, NodeAlike, ReadsAlike, TellsAlike}
use Rattle.portal_model.specs.History.{made_by}
use Rattle.portal_model.specs.State.{connection_of, handle_of}
use Rattle.portal_model.specs.Step.{reply_at}
use Rattle.app_world.specs.Touched.{is_done}
use Rattle.file_laws.specs.StrictHandles.{StrictHandlesFollowRevocations, strict_document}
use Rattle.host_tree.specs.Trees.{TreeIs}
use Rattle.record_keeper.specs.Keepers.{KeeperIs}
use Rattle.portal_steps.specs.Answered.{Answers}
use Rattle.portal_steps.specs.Story.{PortalIs, state_first, state_now}
use Rattle.portal_core.specs.OpenFiles.{StrictFollows}

-- ---- what is given is done where the step's answer is

tells-done : (size : ℕ) (told : NodeAnswer) (given : Answer) → TellsAlike size told given → is_done given ≡ true
tells-done size (NodeAnswer.Content stepped) given h = ap is_done h.1
tells-done size (NodeAnswer.Entry attr) given h = ap is_done h
tells-done size (NodeAnswer.Attr attr) given h = ap is_done h
tells-done size (NodeAnswer.Opened fh) given h = ap is_done h
tells-done size (NodeAnswer.Created attr fh) given h = ap is_done h
tells-done size (NodeAnswer.Written written) given h = ap is_done h
tells-done size (NodeAnswer.Names names offset most) given h = ap is_done h
tells-done size NodeAnswer.Empty given h = ap is_done h
tells-done size NodeAnswer.Quiet given h = ap is_done h
tells-done size (NodeAnswer.Error errno) given h = ap is_done h
tells-done size (NodeAnswer.Init major minor ahead flags background congestion most grain) given h = ap is_done h
tells-done size NodeAnswer.Statfs given h = ap is_done h

reads-done : (size : ℕ) (stepped given : Answer) → ReadsAlike size stepped given → is_done given ≡ is_done stepped
reads-done size (Answer.Node told) given h = tells-done size told given h
reads-done size Answer.Done given h = ap is_done h
reads-done size (Answer.Refused code) given h = ap is_done h
reads-done size (Answer.Place place) given h = ap is_done h
reads-done size (Answer.Ids ids) given h = ap is_done h
reads-done size (Answer.Info path rights) given h = ap is_done h
reads-done size (Answer.Listed documents) given h = ap is_done h
reads-done size (Answer.Entry rows datum) given h = ap is_done h
reads-done size (Answer.Names names) given h = ap is_done h

node-done : (op : NodeOp) (stepped given : Answer) → NodeAlike op stepped given → is_done given ≡ is_done stepped
node-done (NodeOp.Read fh offset size) stepped given h = reads-done size stepped given h
node-done op stepped given h = ap is_done h

same-done : (told : Bool) (r : NodeRequest) (stepped given : Reply) → Alike told (Request.Node r) stepped given → is_done given.answer ≡ is_done stepped.answer
same-done true r stepped given e = ap (λ (x : Reply). is_done x.answer) e
same-done false r stepped given e = node-done r.op stepped.answer given.answer e.1

-- ---- the answer to a request

pub strict-follows : {T K C W : Type 0} → (tree_is : T → TreeIs) (keeper_is : K → KeeperIs) (clock_reads : C → ℕ → C → Type 0) (words_told : W → Option (List ℕ)) (old new : PortalIs T K C W) (seat : ℕ) (request : Request) (reply : Reply) →
    StrictHandlesFollowRevocations → Answers tree_is keeper_is clock_reads words_told old new seat request reply → StrictFollows old.story seat request reply
strict-follows tree_is keeper_is clock_reads words_told old new seat request reply law a = λ app r fh document own asked by strict done.
    let s = state_now old.story in
    law app r fh document s a.entry (record {
      own = ap (λ (n : ℕ). made_by app (connection_of s.connections n) a.entry.request) a.seat_is ∙ (ap (made_by app (connection_of s.connections seat)) a.request_is ∙ own);
      asked = a.request_is ∙ asked;
      by = by;
      strict = ap (λ (n : ℕ). strict_document (handle_of s.handles n fh)) a.seat_is ∙ strict;
      done = sym (same-done (state_first old.story).told r (reply_at s a.entry) reply (subst (λ (q : Request). Alike (state_first old.story).told q (reply_at s a.entry) reply) asked a.reply_is)) ∙ done;
    })
