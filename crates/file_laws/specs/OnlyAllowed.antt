-- What is done was allowed: the other direction of the law that what is allowed is done. The
-- requests are those of the documentation of org.freedesktop.portal.Documents and of
-- include/uapi/linux/fuse.h.
use Rattle.std.specs.Prelude.{◌≡◌, true, false}
use Rattle.portal_model.specs.declared.entry.Entry.{Entry}
use Rattle.portal_model.specs.declared.entry.Fault.{Fault}
use Rattle.portal_model.specs.declared.entry.Given.{Given}
use Rattle.portal_model.specs.declared.request.NodeRequest.{NodeRequest}
use Rattle.portal_model.specs.declared.state.Connection.{Connection}
use Rattle.portal_model.specs.Allowed.{allowed, is_refusal, may_ask_node}
use Rattle.portal_model.specs.Lawful.{Lawful}
use Rattle.portal_model.specs.Node.{node_answer}
use Rattle.portal_model.specs.NodeOutside.{LawfulNode}
use Rattle.portal_model.specs.State.{State}
use Rattle.portal_model.specs.Step.{reply_at}

-- Over a tree that tells its files, where no device fails, an entry is done only if its seat may
-- ask that; and so is a request on a node of any connection.
pub record OnlyAllowedIsDone : Type 0 where
  pub entry :
      (s : State) (e : Entry) → s.told ≡ true → Lawful s e → e.given.fault ≡ Fault.None →
      is_refusal (reply_at s e).answer ≡ false → allowed s e.seat e.request ≡ true
  pub on_node :
      (s : State) (c : Connection) (r : NodeRequest) (given : Given) → s.told ≡ true →
      LawfulNode s c r given → given.fault ≡ Fault.None →
      is_refusal (node_answer s c r given).1 ≡ false → may_ask_node s c r ≡ true
