-- How often the kernel holds each node, by a history. It was told once more of the node of an
-- entry, by FUSE_LOOKUP or FUSE_CREATE; by FUSE_FORGET and FUSE_BATCH_FORGET it gives look-ups
-- back; and with its connection all of them go (include/uapi/linux/fuse.h).
use Rattle.std.specs.Prelude.{◌≡◌, ◌+◌, ◌-◌, ◌==◌, ◌&&◌, ℕ, List, [], ◌∷◌, cond, min}
use Rattle.inode_table.specs.Counts.{count_of, most}
use Rattle.inode_table.specs.declared.inodes.SeatNode.{SeatNode}
use Rattle.portal_model.specs.declared.entry.Entry.{Entry}
use Rattle.portal_model.specs.declared.reply.Answer.{Answer}
use Rattle.portal_model.specs.declared.reply.NodeAnswer.{NodeAnswer}
use Rattle.portal_model.specs.declared.request.ForgetItem.{ForgetItem}
use Rattle.portal_model.specs.declared.request.NodeOp.{NodeOp}
use Rattle.portal_model.specs.declared.request.Request.{Request}
use Rattle.portal_model.specs.State.{State}
use Rattle.portal_model.specs.Step.{after, reply_at}

-- by seat and node
abbrev pub LookUps : Type 0
LookUps = ℕ → ℕ → ℕ

abbrev pub none_held : LookUps
none_held seat node = 0

-- one node on one seat is held so often, and every other as before
abbrev pub held_as : ℕ → ℕ → ℕ → LookUps → LookUps
held_as seat node count held s n = cond (seat == s && node == n) count (held s n)

-- once more, up to the greatest count
abbrev pub looked_up : ℕ → ℕ → LookUps → LookUps
looked_up seat node held = held_as seat node (min (held seat node + 1) most) held

-- so much less often, or not at all where that is more
abbrev pub forgotten : ℕ → ℕ → ℕ → LookUps → LookUps
forgotten seat node count held = held_as seat node (held seat node - count) held

abbrev pub all_forgotten : ℕ → List ForgetItem → LookUps → LookUps
all_forgotten seat [] held = held
all_forgotten seat (item ∷ items) held =
    all_forgotten seat items (forgotten seat item.node item.count held)

-- none on this seat
abbrev pub emptied : ℕ → LookUps → LookUps
emptied seat held s n = cond (seat == s) 0 (held s n)

-- an entry tells of its node
abbrev pub by_told : ℕ → NodeAnswer → LookUps → LookUps
by_told seat (NodeAnswer.Entry attr) held = looked_up seat attr.node held
by_told seat (NodeAnswer.Created attr fh) held = looked_up seat attr.node held
by_told seat told held = held

abbrev pub by_op : ℕ → ℕ → NodeOp → NodeAnswer → LookUps → LookUps
by_op seat node (NodeOp.Forget count) told held = forgotten seat node count held
by_op seat node (NodeOp.BatchForget nodes) told held = all_forgotten seat nodes held
by_op seat node op told held = by_told seat told held

-- what is refused tells of none
abbrev pub by_node : ℕ → ℕ → NodeOp → Answer → LookUps → LookUps
by_node seat node op (Answer.Node told) held = by_op seat node op told held
by_node seat node op answer held = held

abbrev pub by_leave : ℕ → Answer → LookUps → LookUps
by_leave seat Answer.Done held = emptied seat held
by_leave seat answer held = held

abbrev pub by_request : ℕ → Request → Answer → LookUps → LookUps
by_request seat (Request.Node r) answer held = by_node seat r.node r.op answer held
by_request seat Request.Leave answer held = by_leave seat answer held
by_request seat request answer held = held

-- after all entries, by the answers of their steps
abbrev pub held_after : State → List Entry → LookUps → LookUps
held_after s [] held = held
held_after s (e ∷ es) held =
    held_after (after s e) es (by_request e.seat e.request (reply_at s e).answer held)

-- these are the counts of a history from this state
abbrev pub AreHeld : State → List Entry → List (SeatNode × ℕ) → Type 0
AreHeld s history counts = (seat node : ℕ) →
    count_of counts seat node ≡ held_after s history none_held seat node
