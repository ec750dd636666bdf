-- Which replies may be given where a step replies so. Over a tree that tells its files it is the
-- step's reply. Over one that doesn't, no definition knows the bytes of a file: then the reply has
-- the step's signals, and the step's answer, but that a READ may be given any content of at most
-- the bytes that it asks for (struct fuse_read_in, include/uapi/linux/fuse.h).
use Rattle.std.specs.Prelude.{◌≡◌, ◌≤◌, ℕ, List, length, Bool, true, false}
use Rattle.portal_model.specs.declared.reply.Answer.{Answer}
use Rattle.portal_model.specs.declared.reply.NodeAnswer.{NodeAnswer}
use Rattle.portal_model.specs.declared.reply.Reply.{Reply}
use Rattle.portal_model.specs.declared.request.NodeOp.{NodeOp}
use Rattle.portal_model.specs.declared.request.Request.{Request}

-- the answers to a READ of at most so many bytes, by what the step tells: in place of a content any
-- of at most that size, and all else as it is
abbrev pub TellsAlike : ℕ → NodeAnswer → Answer → Type 0
TellsAlike size (NodeAnswer.Content stepped) given =
    (found : List ℕ) × (given ≡ Answer.Node (NodeAnswer.Content found)) × (length found ≤ size)
TellsAlike size (NodeAnswer.Entry attr) given = given ≡ Answer.Node (NodeAnswer.Entry attr)
TellsAlike size (NodeAnswer.Attr attr) given = given ≡ Answer.Node (NodeAnswer.Attr attr)
TellsAlike size (NodeAnswer.Opened fh) given = given ≡ Answer.Node (NodeAnswer.Opened fh)
TellsAlike size (NodeAnswer.Created attr fh) given =
    given ≡ Answer.Node (NodeAnswer.Created attr fh)
TellsAlike size (NodeAnswer.Written written) given =
    given ≡ Answer.Node (NodeAnswer.Written written)
TellsAlike size (NodeAnswer.Names names offset most) given =
    given ≡ Answer.Node (NodeAnswer.Names names offset most)
TellsAlike size NodeAnswer.Empty given = given ≡ Answer.Node NodeAnswer.Empty
TellsAlike size NodeAnswer.Quiet given = given ≡ Answer.Node NodeAnswer.Quiet
TellsAlike size (NodeAnswer.Error errno) given = given ≡ Answer.Node (NodeAnswer.Error errno)
TellsAlike size (NodeAnswer.Init major minor ahead flags background congestion most grain) given =
    given ≡ Answer.Node (NodeAnswer.Init major minor ahead flags background congestion most grain)
TellsAlike size NodeAnswer.Statfs given = given ≡ Answer.Node NodeAnswer.Statfs

-- the same, by the step's answer
abbrev pub ReadsAlike : ℕ → Answer → Answer → Type 0
ReadsAlike size (Answer.Node told) given = TellsAlike size told given
ReadsAlike size Answer.Done given = given ≡ Answer.Done
ReadsAlike size (Answer.Refused code) given = given ≡ Answer.Refused code
ReadsAlike size (Answer.Place place) given = given ≡ Answer.Place place
ReadsAlike size (Answer.Ids ids) given = given ≡ Answer.Ids ids
ReadsAlike size (Answer.Info path rights) given = given ≡ Answer.Info path rights
ReadsAlike size (Answer.Listed documents) given = given ≡ Answer.Listed documents
ReadsAlike size (Answer.Entry rows datum) given = given ≡ Answer.Entry rows datum
ReadsAlike size (Answer.Names names) given = given ≡ Answer.Names names

-- the answers to a request on a node
abbrev pub NodeAlike : NodeOp → Answer → Answer → Type 0
NodeAlike (NodeOp.Read fh offset size) stepped given = ReadsAlike size stepped given
NodeAlike (NodeOp.Lookup name) stepped given = given ≡ stepped
NodeAlike (NodeOp.Forget count) stepped given = given ≡ stepped
NodeAlike (NodeOp.BatchForget nodes) stepped given = given ≡ stepped
NodeAlike (NodeOp.GetAttr flags fh) stepped given = given ≡ stepped
NodeAlike (NodeOp.SetAttr valid fh size) stepped given = given ≡ stepped
NodeAlike (NodeOp.Open flags) stepped given = given ≡ stepped
NodeAlike (NodeOp.Create name flags) stepped given = given ≡ stepped
NodeAlike (NodeOp.Write fh offset content) stepped given = given ≡ stepped
NodeAlike (NodeOp.Flush fh) stepped given = given ≡ stepped
NodeAlike (NodeOp.Fsync fh) stepped given = given ≡ stepped
NodeAlike (NodeOp.Release fh) stepped given = given ≡ stepped
NodeAlike NodeOp.OpenDir stepped given = given ≡ stepped
NodeAlike (NodeOp.ReadDir fh offset size) stepped given = given ≡ stepped
NodeAlike (NodeOp.ReleaseDir fh) stepped given = given ≡ stepped
NodeAlike (NodeOp.Access mask) stepped given = given ≡ stepped
NodeAlike (NodeOp.Rename new_parent flags old_name new_name) stepped given = given ≡ stepped
NodeAlike (NodeOp.Unlink name) stepped given = given ≡ stepped

-- the answers to a request
abbrev pub AnswersAlike : Request → Answer → Answer → Type 0
AnswersAlike (Request.Node r) stepped given = NodeAlike r.op stepped given
AnswersAlike (Request.Enter who kind) stepped given = given ≡ stepped
AnswersAlike Request.Leave stepped given = given ≡ stepped
AnswersAlike Request.Collect stepped given = given ≡ stepped
AnswersAlike (Request.Present path) stepped given = given ≡ stepped
AnswersAlike (Request.Add a) stepped given = given ≡ stepped
AnswersAlike (Request.Grant call) stepped given = given ≡ stepped
AnswersAlike (Request.Revoke call) stepped given = given ≡ stepped
AnswersAlike (Request.DeleteDocument doc) stepped given = given ≡ stepped
AnswersAlike (Request.LookupDocument path) stepped given = given ≡ stepped
AnswersAlike (Request.Info doc) stepped given = given ≡ stepped
AnswersAlike (Request.Store call) stepped given = given ≡ stepped
AnswersAlike (Request.ListDocuments app) stepped given = given ≡ stepped

-- by whether the tree tells its files, and the request: what the step replies, and what is given
abbrev pub Alike : Bool → Request → Reply → Reply → Type 0
Alike true request stepped given = given ≡ stepped
Alike false request stepped given = (given.signals ≡ stepped.signals)
    × AnswersAlike request stepped.answer given.answer
