-- The counts of nodes are those of the history.
use Rattle.std.proofs.Common.{◌≡◌, ℕ, List, [], ◌∷◌, ◌++◌, Bool, true, false, Option, refl, sym, ap, subst, ◌∙◌}
use Rattle.std.proofs.Math.Path.{fun_ext}
use Rattle.inode_table.specs.Counts.{count_of}
use Rattle.inode_table.specs.declared.inodes.SeatNode.{SeatNode}
use Rattle.node_serving.specs.Counted.{AreForgotten, Counts, CountsEntry, CountsOp}
use Rattle.file_generations.specs.Generations.{Held}
use Rattle.portal_model.specs.declared.entry.Entry.{Entry}
use Rattle.portal_model.specs.declared.opening.OpeningState.{OpeningState}
use Rattle.portal_model.specs.declared.reply.Answer.{Answer}
use Rattle.portal_model.specs.declared.reply.NodeAnswer.{NodeAnswer}
use Rattle.portal_model.specs.declared.reply.Reply.{Reply}
use Rattle.portal_model.specs.declared.request.ForgetItem.{ForgetItem}
use Rattle.portal_model.specs.declared.request.NodeOp.{NodeOp}
use Rattle.portal_model.specs.declared.request.NodeRequest.{NodeRequest}
use Rattle.portal_model.specs.declared.request.Request.{Request}
use Rattle.portal_model.specs.Alike.{Alike, NodeAlike, ReadsAlike, TellsAlike}
use Rattle.portal_model.specs.History.{run}
use Rattle.portal_model.specs.Opening.{opened_over}
use Rattle.portal_model.specs.State.{State}
use Rattle.portal_model.specs.Step.{after, reply_at, reply_with}
use Rattle.portal_steps.specs.Documents.{is_document_call}
use Rattle.portal_core.specs.LookUps.{AreHeld, LookUps, all_forgotten, by_leave, by_node, by_op, by_request, by_told, forgotten, held_after, none_held}

-- ---- one entry more

held_more : (h : List Entry) (e : Entry) (s : State) (held : LookUps) → held_after s (h ++ e ∷ []) held ≡ by_request e.seat e.request (reply_at (run s h) e).answer (held_after s h held)
held_more [] e s held = refl
held_more (x ∷ h) e s held = held_more h e (after s x) (by_request x.seat x.request (reply_at s x).answer held)

-- counts that change as the answer of the step says
pub held_on : (s : State) (h : List Entry) (e : Entry) (old new : List (SeatNode × ℕ)) → ((seat node : ℕ) → count_of new seat node ≡ by_request e.seat e.request (reply_at (run s h) e).answer (count_of old) seat node) → AreHeld s h old → AreHeld s (h ++ e ∷ []) new
held_on s h e old new step held seat node =
    let same : count_of old ≡ held_after s h none_held = fun_ext (λ q. fun_ext (λ n. held q n)) in
    step seat node
    ∙ (ap (λ (f : LookUps). by_request e.seat e.request (reply_at (run s h) e).answer f seat node) same
    ∙ sym (ap (λ (f : LookUps). f seat node) (held_more h e s none_held)))

-- and that stay, where the request bears on none
pub held_same : (s : State) (h : List Entry) (e : Entry) (counts : List (SeatNode × ℕ)) → ((answer : Answer) (held : LookUps) → by_request e.seat e.request answer held ≡ held) → AreHeld s h counts → AreHeld s (h ++ e ∷ []) counts
held_same s h e counts none held =
    held_on s h e counts counts (λ seat node. sym (ap (λ (f : LookUps). f seat node) (none (reply_at (run s h) e).answer (count_of counts)))) held

-- a Leave, to which this was replied
pub held_left : (s : State) (h : List Entry) (e : Entry) (answer : Answer) (old new : List (SeatNode × ℕ)) → e.request ≡ Request.Leave → reply_with [] answer ≡ reply_at (run s h) e → ((seat node : ℕ) → count_of new seat node ≡ by_leave e.seat answer (count_of old) seat node) → AreHeld s h old → AreHeld s (h ++ e ∷ []) new
held_left s h e answer old new is replied step held = held_on s h e old new (λ seat node.
    step seat node
    ∙ (ap (λ (r : Reply). by_leave e.seat r.answer (count_of old) seat node) replied
    ∙ ap (λ (request : Request). by_request e.seat request (reply_at (run s h) e).answer (count_of old) seat node) (sym is))) held

pub held_over : (began began' : Option Held) (o : OpeningState) (h : List Entry) (counts : List (SeatNode × ℕ)) → began' ≡ began → AreHeld (opened_over began o) h counts → AreHeld (opened_over began' o) h counts
held_over began began' o h counts e k = subst (λ (b : Option Held). AreHeld (opened_over b o) h counts) (sym e) k

pub uncounted : (request : Request) (seat : ℕ) (answer : Answer) (held : LookUps) → is_document_call request ≡ true → by_request seat request answer held ≡ held
uncounted (Request.Node r) seat answer held e = absurd (cc)
uncounted Request.Leave seat answer held e = absurd (cc)
uncounted request seat answer held e = refl

-- ---- what the code counts

same_counts : (old new : List (SeatNode × ℕ)) → new ≡ old → (s n : ℕ) → count_of new s n ≡ count_of old s n
same_counts old new e s n = ap (λ (counts : List (SeatNode × ℕ)). count_of counts s n) e

all_as : (items : List ForgetItem) (seat : ℕ) (old new : List (SeatNode × ℕ)) → AreForgotten seat items old new → (s n : ℕ) → count_of new s n ≡ all_forgotten seat items (count_of old) s n
all_as [] seat old new c s n = same_counts old new c s n
all_as (item ∷ items) seat old new (between, one, rest) s n =
    let first : count_of between ≡ forgotten seat item.node item.count (count_of old) = fun_ext (λ q. fun_ext (λ m. one q m)) in
    all_as items seat between new rest s n ∙ ap (λ (f : LookUps). all_forgotten seat items f s n) first

told_as : (told : NodeAnswer) (seat : ℕ) (old new : List (SeatNode × ℕ)) → CountsEntry seat told old new → (s n : ℕ) → count_of new s n ≡ by_told seat told (count_of old) s n
told_as (NodeAnswer.Entry attr) seat old new c s n = c s n
told_as (NodeAnswer.Created attr fh) seat old new c s n = c s n
told_as told seat old new c s n = same_counts old new c s n

op_as : (op : NodeOp) (seat node : ℕ) (told : NodeAnswer) (old new : List (SeatNode × ℕ)) → CountsOp seat node op told old new → (s n : ℕ) → count_of new s n ≡ by_op seat node op told (count_of old) s n
op_as (NodeOp.Forget count) seat node told old new c s n = c s n
op_as (NodeOp.BatchForget nodes) seat node told old new c s n = all_as nodes seat old new c s n
op_as op seat node told old new c s n = told_as told seat old new c s n

counts_as : (answer : Answer) (seat : ℕ) (r : NodeRequest) (old new : List (SeatNode × ℕ)) → Counts seat r answer old new → (s n : ℕ) → count_of new s n ≡ by_node seat r.node r.op answer (count_of old) s n
counts_as (Answer.Node told) seat r old new c s n = op_as r.op seat r.node told old new c s n
counts_as answer seat r old new c s n = same_counts old new c s n

-- ---- an answer that is alike to the step's

module _ (seat node : ℕ) (held : LookUps) where
  tells_alike : (told : NodeAnswer) (fh offset size : ℕ) (given : Answer) → TellsAlike size told given → by_node seat node (NodeOp.Read fh offset size) (Answer.Node told) held ≡ by_node seat node (NodeOp.Read fh offset size) given held
  tells_alike (NodeAnswer.Content stepped) fh offset size given e = ap (λ (a : Answer). by_node seat node (NodeOp.Read fh offset size) a held) (sym e.1)
  tells_alike told fh offset size given e = ap (λ (a : Answer). by_node seat node (NodeOp.Read fh offset size) a held) (sym e)

  reads_alike : (stepped : Answer) (fh offset size : ℕ) (given : Answer) → ReadsAlike size stepped given → by_node seat node (NodeOp.Read fh offset size) stepped held ≡ by_node seat node (NodeOp.Read fh offset size) given held
  reads_alike (Answer.Node told) fh offset size given e = tells_alike told fh offset size given e
  reads_alike stepped fh offset size given e = ap (λ (a : Answer). by_node seat node (NodeOp.Read fh offset size) a held) (sym e)

  node_alike : (op : NodeOp) (stepped given : Answer) → NodeAlike op stepped given → by_node seat node op stepped held ≡ by_node seat node op given held
  node_alike (NodeOp.Read fh offset size) stepped given e = reads_alike stepped fh offset size given e
  node_alike op stepped given e = ap (λ (a : Answer). by_node seat node op a held) (sym e)

alike_counts : (told : Bool) (seat : ℕ) (r : NodeRequest) (stepped : Reply) (answer : Answer) (held : LookUps) → Alike told (Request.Node r) stepped (reply_with [] answer) → by_node seat r.node r.op stepped.answer held ≡ by_node seat r.node r.op answer held
alike_counts true seat r stepped answer held e = ap (λ (x : Reply). by_node seat r.node r.op x.answer held) (sym e)
alike_counts false seat r stepped answer held e = node_alike seat r.node held r.op stepped.answer answer e.1

-- a request on a node, to which this was answered
pub held_node : (s : State) (h : List Entry) (e : Entry) (r : NodeRequest) (answer : Answer) (told : Bool) (old new : List (SeatNode × ℕ)) → e.request ≡ Request.Node r → Counts e.seat r answer old new → Alike told (Request.Node r) (reply_at (run s h) e) (reply_with [] answer) → AreHeld s h old → AreHeld s (h ++ e ∷ []) new
held_node s h e r answer told old new is counted alike held = held_on s h e old new (λ q n.
    counts_as answer e.seat r old new counted q n
    ∙ (ap (λ (f : LookUps). f q n) (sym (alike_counts told e.seat r (reply_at (run s h) e) answer (count_of old) alike))
    ∙ ap (λ (request : Request). by_request e.seat request (reply_at (run s h) e).answer (count_of old) q n) (sym is))) held
