-- How a served request bears on the counts of look-ups. The kernel was told once more of the node
-- of an entry, by FUSE_LOOKUP or FUSE_CREATE; by FUSE_FORGET and FUSE_BATCH_FORGET it gives
-- look-ups back (include/uapi/linux/fuse.h).
use Rattle.std.specs.Prelude.{◌≡◌, ◌+◌, ◌-◌, ℕ, List, [], ◌∷◌, min}
use Rattle.inode_table.specs.Counts.{IsCountedAs, count_of, most}
use Rattle.inode_table.specs.declared.inodes.SeatNode.{SeatNode}
use Rattle.portal_model.specs.declared.reply.Answer.{Answer}
use Rattle.portal_model.specs.declared.reply.NodeAnswer.{NodeAnswer}
use Rattle.portal_model.specs.declared.request.ForgetItem.{ForgetItem}
use Rattle.portal_model.specs.declared.request.NodeOp.{NodeOp}
use Rattle.portal_model.specs.declared.request.NodeRequest.{NodeRequest}

-- a node on a seat has one look-up more, up to the greatest count
abbrev pub IsCounted : ℕ → ℕ → List (SeatNode × ℕ) → List (SeatNode × ℕ) → Type 0
IsCounted seat node old new = IsCountedAs old new seat node (min (count_of old seat node + 1) most)

-- so many look-ups of it are given back, or all where there are fewer
abbrev pub IsForgotten : ℕ → ℕ → ℕ → List (SeatNode × ℕ) → List (SeatNode × ℕ) → Type 0
IsForgotten seat node count old new = IsCountedAs old new seat node (count_of old seat node - count)

-- those of each node of a list, one after another
abbrev pub AreForgotten : ℕ → List ForgetItem → List (SeatNode × ℕ) → List (SeatNode × ℕ) → Type 0
AreForgotten seat [] old new = new ≡ old
AreForgotten seat (item ∷ items) old new = (between : List (SeatNode × ℕ))
    × IsForgotten seat item.node item.count old between × AreForgotten seat items between new

-- an entry counts its node, and no other answer bears on any
abbrev pub CountsEntry : ℕ → NodeAnswer → List (SeatNode × ℕ) → List (SeatNode × ℕ) → Type 0
CountsEntry seat (NodeAnswer.Entry attr) old new = IsCounted seat attr.node old new
CountsEntry seat (NodeAnswer.Created attr fh) old new = IsCounted seat attr.node old new
CountsEntry seat told old new = new ≡ old

abbrev pub CountsOp : ℕ → ℕ → NodeOp → NodeAnswer → List (SeatNode × ℕ) → List (SeatNode × ℕ)
    → Type 0
CountsOp seat node (NodeOp.Forget count) told old new = IsForgotten seat node count old new
CountsOp seat node (NodeOp.BatchForget nodes) told old new = AreForgotten seat nodes old new
CountsOp seat node op told old new = CountsEntry seat told old new

-- what is refused bears on none
abbrev pub Counts : ℕ → NodeRequest → Answer → List (SeatNode × ℕ) → List (SeatNode × ℕ) → Type 0
Counts seat r (Answer.Node told) old new = CountsOp seat r.node r.op told old new
Counts seat r answer old new = new ≡ old
