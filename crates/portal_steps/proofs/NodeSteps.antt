-- What a request on a node asks of the devices, and how it is replied to.
use Rattle.std.proofs.Common.{◌≡◌, ◌≢◌, ℕ, List, [], ◌∷◌, map, Bool, true, false, Option, Some, None, refl, sym, ap, subst, ◌∙◌}
use Rattle.node_looks.specs.TreeCalls.{Call, after_calls, unfailed}
use Rattle.file_ops.specs.SeatNames.{OwnTables}
use Rattle.file_ops.specs.Wanting.{may_be_below, may_call_in_vain, may_change_file, vain_by}
use Rattle.node_looks.specs.declared.served.NodeDone.{NodeDone}
use Rattle.host_tree.specs.Trees.{TreeIs, after_call}
use Rattle.node_serving.specs.Seats.{ServesSeat}
use Rattle.open_handles.specs.Opened.{HandleTable}
use Rattle.file_generations.specs.Generations.{Held}
use Rattle.portal_model.specs.declared.entry.Entry.{Entry}
use Rattle.portal_model.specs.declared.entry.Fault.{Fault}
use Rattle.portal_model.specs.declared.entry.Given.{Given}
use Rattle.portal_model.specs.declared.reply.Reply.{Reply}
use Rattle.portal_model.specs.declared.request.NodeOp.{NodeOp}
use Rattle.portal_model.specs.declared.request.NodeRequest.{NodeRequest}
use Rattle.portal_model.specs.declared.request.Request.{Request}
use Rattle.portal_model.specs.declared.state.Connection.{Connection}
use Rattle.portal_model.specs.Alike.{Alike, AnswersAlike}
use Rattle.portal_model.specs.History.{run}
use Rattle.portal_model.specs.Lawful.{LawfulOnNode}
use Rattle.portal_model.specs.State.{State}
use Rattle.portal_model.specs.Step.{after, reply_at, reply_with}
use Rattle.portal_model.proofs.StaysTold.{step_told}
use Rattle.portal_steps.specs.Documents.{is_document_call}
use Rattle.portal_steps.specs.Served.{node_entry}
use Rattle.portal_steps.specs.TreeCalls.{Calling, WasCalledUpTo}

abbrev pub is_on_node : Request → Bool
is_on_node (Request.Node r) = true
is_on_node request = false

-- the keeper isn't asked
pub never-kept : (s : State) (r : NodeRequest) (given : Given) (o : Option Connection) → LawfulOnNode s r given o → given.fault ≢ Fault.Keeper
never-kept s r given None k = λ e. let no : Fault.Keeper ≡ Fault.None = sym e ∙ ap (λ (g : Given). g.fault) k in cc
never-kept s r given (Some c) k = k.keeper

-- the tree keeps what it began with
after-began : (calls : List Call) (old : TreeIs) → (after_calls old calls).began ≡ old.began
after-began [] old = refl
after-began (call ∷ more) old = after-began more (after_call old call.0 call.1 old.told)

pub calls-keep : (old : TreeIs) (calls : List Call) (files : Option Held) (new : TreeIs) → Calling old calls files new → new.began ≡ old.began
calls-keep old calls files new k = ap (λ (t : TreeIs). t.began) k.goes ∙ after-began calls old

pub was-called-keeps : (most : ℕ) (old new : TreeIs) → WasCalledUpTo most old new → (new.began ≡ old.began) × (new.told ≡ old.told)
was-called-keeps most old new k = (calls-keep old (map unfailed k.0) old.told new k.1, ap (λ (t : TreeIs). t.told) k.1.goes)

-- the same reply is alike, to a request that reads no file
pub alike-same : (told : Bool) (request : Request) (stepped given : Reply) → is_on_node request ≡ false → given ≡ stepped → Alike told request stepped given
alike-same true request stepped given n e = e
alike-same false request stepped given n e = (ap (λ (r : Reply). r.signals) e, answers request n (ap (λ (r : Reply). r.answer) e))
  where
    answers : (request : Request) → is_on_node request ≡ false → given.answer ≡ stepped.answer → AnswersAlike request stepped.answer given.answer
    answers (Request.Node r) n a = absurd (cc)
    answers request n a = a

pub call-off-nodes : (request : Request) → is_document_call request ≡ true → is_on_node request ≡ false
call-off-nodes (Request.Node r) h = absurd (cc)
call-off-nodes request h = refl

-- a request that doesn't call the tree in vain changes no file
still-op : (below : Bool) (op : NodeOp) → vain_by below op ≡ false → may_change_file op ≡ false
still-op below (NodeOp.SetAttr valid fh size) h = absurd (cc)
still-op below (NodeOp.Open flags) h = absurd (cc)
still-op below (NodeOp.Create name flags) h = absurd (cc)
still-op below (NodeOp.Write fh offset content) h = absurd (cc)
still-op below op h = refl

pub still-file : (r : NodeRequest) → may_call_in_vain r ≡ false → may_change_file r.op ≡ false
still-file r h = still-op (may_be_below r.node) r.op h

-- a tree that tells goes on telling
pub told-on : (h : List Entry) (s : State) → (run s h).told ≡ s.told
told-on [] s = refl
told-on (e ∷ es) s = told-on es (after s e) ∙ step_told s e.seat e.request e.given

pub replied-node : (told : Bool) (s : State) (seat : ℕ) (r : NodeRequest) (old : TreeIs) (done : NodeDone) (cs : List Connection) (table : HandleTable) (own : OwnTables) (new : TreeIs) → s.told ≡ told → ServesSeat s seat r old done cs table own new → Alike told (Request.Node r) (reply_at s (node_entry seat r done)) (reply_with [] done.answer)
replied-node told s seat r old done cs table own new e k = subst (λ (b : Bool). Alike b (Request.Node r) (reply_at s (node_entry seat r done)) (reply_with [] done.answer)) e k.reply
