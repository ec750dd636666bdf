-- An entry in which a device failed does what a Collect of its seat does.
use Rattle.std.specs.Prelude.{◌≢◌}
use Rattle.std.proofs.Common.{◌≡◌, ℕ, ◌≤◌, ◌==◌, List, [], ◌∷◌, length, Bool, true, false, cond, Option, Some, None, refl, ap, subst, ◌∙◌, arith}
use Rattle.file_generations.specs.Generations.{Held}
use Rattle.portal_base.specs.declared.files.ChildName.{ChildName}
use Rattle.portal_base.specs.declared.files.Look.{Look}
use Rattle.portal_model.specs.declared.entry.Fault.{Fault}
use Rattle.portal_model.specs.declared.entry.Given.{Given}
use Rattle.portal_model.specs.declared.reply.Answer.{Answer}
use Rattle.portal_model.specs.declared.reply.Code.{Code}
use Rattle.portal_model.specs.declared.reply.Reply.{Reply}
use Rattle.portal_model.specs.declared.request.NodeRequest.{NodeRequest}
use Rattle.portal_model.specs.declared.request.Request.{Request}
use Rattle.portal_model.specs.declared.state.Connection.{Connection}
use Rattle.portal_model.specs.Bus.{bus_answer, bus_walk, is_tree, kept, moment_given, refused_state, settled}
use Rattle.portal_model.specs.Errno.{eio}
use Rattle.portal_model.specs.History.{add_bytes, cost_of, cost_of_bytes, node_bytes, rights_call_bytes, store_bytes, who_bytes}
use Rattle.portal_model.specs.Lawful.{Lawful, LawfulGiven, LawfulOnBus, LawfulOnNode, nothing_given}
use Rattle.portal_model.specs.Node.{node_answer, settled_on_node, walk_on_node}
use Rattle.portal_model.specs.NodeOutside.{LawfulNode}
use Rattle.portal_model.specs.Outside.{ChangesRecords, LawfulBus, files_told, meets_limit, verdict_of}
use Rattle.portal_model.specs.State.{State, connection_of, is_mount}
use Rattle.portal_model.specs.Step.{all_told, bus_of, bus_step, collect_step, mount_of, node_step, request_step, with_signals}
use Rattle.portal_model.specs.Valid.{Valid}
use Rattle.portal_model.specs.Verdict.{Verdict, Refuses, Does}
use Rattle.portal_model.specs.Walk.{Walk, Answers, Looks, Ends, Lists, Gives, walked_with}
use Rattle.portal_model.proofs.ListLookups.{found_passes, nat_is}
use Rattle.portal_model.proofs.WhoWaits.{all_told-nothing, mount-quiet}
use Rattle.given_laws.specs.Faulted.{FaultsChangeNothing, asks_no_device, collecting, failure_of}

-- ---- what failed

-- nothing was given where no device was asked
none_failed : {X : Type 0} (given : Given) → given ≡ nothing_given → given.fault ≢ Fault.None → X
none_failed given e f = absurd (f (ap (λ (g : Given). g.fault) e))

-- where a call of the tree failed the walk comes to nothing
failed_none : {X : Type 0} (tree : Option Held) (w : Walk X) (now : ℕ) (listed : Option (List ChildName)) (looks : List Look) → Gives tree w looks true → walked_with w now listed looks true ≡ None
failed_none tree (Answers x) now listed looks g = cc
failed_none tree (Looks target next) now listed [] g = refl
failed_none tree (Looks target next) now listed (look ∷ looks) g = failed_none tree (next look) now listed looks g.1
failed_none tree (Ends call done missing) now listed [] g = refl
failed_none tree (Ends call done missing) now listed (look ∷ looks) g = cc
failed_none tree (Lists path done missing) now listed looks g = refl

-- ---- costs

costs_more : (count : ℕ) → cost_of_bytes 0 ≤ cost_of_bytes count
costs_more count = omega arith

-- ---- on a node: the tree failed, since the keeper isn't asked

module _ (s : State) (c : Connection) (r : NodeRequest) (given : Given) (l : LawfulNode s c r given) where
  by_fault : (fault : Fault) → given.fault ≡ fault → fault ≢ Fault.None → node_answer s c r given ≡ (s, Answer.Refused (Code.Errno eio))
  by_fault Fault.None e f = absurd (f refl)
  by_fault Fault.Keeper e f = absurd (l.keeper e)
  by_fault Fault.Tree e f =
      let gives : Gives (files_told s) (walk_on_node s c r) given.looks true = subst (λ (x : Fault). Gives (files_told s) (walk_on_node s c r) given.looks (is_tree x)) e l.looks in
      (λ i. settled_on_node s c (walked_with (walk_on_node s c r) (moment_given given.now) given.listed given.looks (is_tree (e i))))
      ∙ ap (settled_on_node s c) (failed_none (files_told s) (walk_on_node s c r) (moment_given given.now) given.listed given.looks gives)

  node_failed : given.fault ≢ Fault.None → node_answer s c r given ≡ (s, Answer.Refused (Code.Errno eio))
  node_failed f = by_fault given.fault refl f

-- ---- on a bus: the tree failed, or the keeper behind all checks

module _ (s : State) (c : Connection) (request : Request) (given : Given) (l : LawfulBus s c request given) where
  abbrev refused : State
  refused = refused_state s c request

  -- the keeper is asked where the request would be done
  keeper_failed : (o : Option Verdict) → given.fault ≡ Fault.Keeper → given.full ≡ meets_limit o → ChangesRecords s o → settled s refused given o ≡ (s, Answer.Refused Code.Failed)
  keeper_failed None e full k = refl
  keeper_failed (Some (Refuses code)) e full k = absurd k
  keeper_failed (Some (Does d)) e full k = λ i. cond ((full ∙ k.0) i) (refused, Answer.Refused Code.LimitsExceeded) (kept s (e i) d)

  bus_by_fault : (fault : Fault) → given.fault ≡ fault → fault ≢ Fault.None → bus_answer s c request given ≡ (s, Answer.Refused Code.Failed)
  bus_by_fault Fault.None e f = absurd (f refl)
  bus_by_fault Fault.Keeper e f = keeper_failed (verdict_of s c request given) e l.full (l.keeper e)
  bus_by_fault Fault.Tree e f =
      let walk = bus_walk s c request given.numbers in
      let gives : Gives (files_told s) walk given.looks true = subst (λ (x : Fault). Gives (files_told s) walk given.looks (is_tree x)) e l.looks in
      (λ i. settled s refused given (walked_with walk (moment_given given.now) None given.looks (is_tree (e i))))
      ∙ ap (settled s refused given) (failed_none (files_told s) walk (moment_given given.now) None given.looks gives)

  bus_failed : given.fault ≢ Fault.None → bus_answer s c request given ≡ (s, Answer.Refused Code.Failed)
  bus_failed f = bus_by_fault given.fault refl f

-- ---- the step, by the connection that asks

module _ (s : State) (given : Given) (f : given.fault ≢ Fault.None) where
  bus_fails : (request : Request) (o : Option Connection) → LawfulOnBus s request given o → bus_step s request given o ≡ ((collect_step s o).0, record (collect_step s o).1 { answer = Answer.Refused Code.Failed })
  bus_fails request None l = none_failed given l f
  bus_fails request (Some c) l = ap (with_signals c.unsent) (bus_failed (all_told c.seat s) c request given l f)

  node_fails : (v : Valid s) (seat : ℕ) (r : NodeRequest) (o : Option Connection) → connection_of s.connections seat ≡ o → LawfulOnNode s r given (mount_of o)
      → node_step s r given (mount_of o) ≡ ((collect_step s (bus_of o)).0, record (collect_step s (bus_of o)).1 { answer = Answer.Refused (Code.Errno eio) })
  node_fails v seat r None e l = none_failed given l f
  node_fails v seat r (Some c) e l = by_test (is_mount c.kind) refl l
    where
      by_test : (b : Bool) → is_mount c.kind ≡ b → LawfulOnNode s r given (cond b (Some c) None)
          → node_step s r given (cond b (Some c) None) ≡ ((collect_step s (cond b None (Some c))).0, record (collect_step s (cond b None (Some c))).1 { answer = Answer.Refused (Code.Errno eio) })
      by_test false k l = none_failed given l f
      by_test true k l =
          let none : c.unsent ≡ [] = mount-quiet s seat c v e k in
          let own : c.seat ≡ seat = nat_is c.seat seat (found_passes (λ (x : Connection). x.seat == seat) s.connections c e) in
          let told : all_told c.seat s ≡ s = ap (λ (n : ℕ). all_told n s) own ∙ all_told-nothing s seat c v e none in
          ap (with_signals c.unsent) (node_failed (all_told c.seat s) c r given l f)
          ∙ (λ i. with_signals (none i) (told i, Answer.Refused (Code.Errno eio)))

  node_answers : (r : NodeRequest) (o : Option Connection) → LawfulOnNode s r given o → (node_step s r given o).1.answer ≡ Answer.Refused (Code.Errno eio)
  node_answers r None l = none_failed given l f
  node_answers r (Some c) l = ap (λ (x : State × Answer). x.1) (node_failed (all_told c.seat s) c r given l f)

  -- ---- any request

  bus_answers : (request : Request) (o : Option Connection) → LawfulOnBus s request given o → (bus_step s request given o).1.answer ≡ Answer.Refused Code.Failed
  bus_answers request o l = ap (λ (x : State × Reply). x.1.answer) (bus_fails request o l)

  module _ (seat : ℕ) where
    abbrev there : Option Connection
    there = bus_of (connection_of s.connections seat)

    abbrev collected : Code → State × Reply
    collected code = ((collect_step s there).0, record (collect_step s there).1 { answer = Answer.Refused code })

    step_fails : Valid s → (request : Request) → LawfulGiven s seat request given → request_step s seat request given ≡ collected (failure_of request)
    step_fails v (Request.Enter who kind) l = none_failed given l.1 f
    step_fails v Request.Leave l = none_failed given l f
    step_fails v Request.Collect l = none_failed given l f
    step_fails v (Request.Node r) l = node_fails v seat r (connection_of s.connections seat) refl l
    step_fails v (Request.Present path) l = bus_fails (Request.Present path) there l
    step_fails v (Request.Add a) l = bus_fails (Request.Add a) there l
    step_fails v (Request.Grant call) l = bus_fails (Request.Grant call) there l
    step_fails v (Request.Revoke call) l = bus_fails (Request.Revoke call) there l
    step_fails v (Request.DeleteDocument doc) l = bus_fails (Request.DeleteDocument doc) there l
    step_fails v (Request.LookupDocument path) l = bus_fails (Request.LookupDocument path) there l
    step_fails v (Request.Info doc) l = bus_fails (Request.Info doc) there l
    step_fails v (Request.ListDocuments app) l = bus_fails (Request.ListDocuments app) there l
    step_fails v (Request.Store call) l = bus_fails (Request.Store call) there l

    answer_fails : (request : Request) → LawfulGiven s seat request given → (request_step s seat request given).1.answer ≡ Answer.Refused (failure_of request)
    answer_fails (Request.Enter who kind) l = none_failed given l.1 f
    answer_fails Request.Leave l = none_failed given l f
    answer_fails Request.Collect l = none_failed given l f
    answer_fails (Request.Node r) l = node_answers r (mount_of (connection_of s.connections seat)) l
    answer_fails (Request.Present path) l = bus_answers (Request.Present path) there l
    answer_fails (Request.Add a) l = bus_answers (Request.Add a) there l
    answer_fails (Request.Grant call) l = bus_answers (Request.Grant call) there l
    answer_fails (Request.Revoke call) l = bus_answers (Request.Revoke call) there l
    answer_fails (Request.DeleteDocument doc) l = bus_answers (Request.DeleteDocument doc) there l
    answer_fails (Request.LookupDocument path) l = bus_answers (Request.LookupDocument path) there l
    answer_fails (Request.Info doc) l = bus_answers (Request.Info doc) there l
    answer_fails (Request.ListDocuments app) l = bus_answers (Request.ListDocuments app) there l
    answer_fails (Request.Store call) l = bus_answers (Request.Store call) there l

    cost_fails : (request : Request) → LawfulGiven s seat request given → cost_of Request.Collect ≤ cost_of request
    cost_fails Request.Leave l = none_failed given l f
    cost_fails (Request.Enter who kind) l = costs_more (who_bytes who)
    cost_fails Request.Collect l = costs_more 0
    cost_fails (Request.Node r) l = costs_more (node_bytes r.op)
    cost_fails (Request.Present path) l = costs_more (length path)
    cost_fails (Request.Add a) l = costs_more (add_bytes a)
    cost_fails (Request.Grant call) l = costs_more (rights_call_bytes call)
    cost_fails (Request.Revoke call) l = costs_more (rights_call_bytes call)
    cost_fails (Request.DeleteDocument doc) l = costs_more (length doc)
    cost_fails (Request.LookupDocument path) l = costs_more (length path)
    cost_fails (Request.Info doc) l = costs_more (length doc)
    cost_fails (Request.ListDocuments app) l = costs_more (length app)
    cost_fails (Request.Store call) l = costs_more (store_bytes call)

-- ---- requests that ask no device

nothing_failed : (given : Given) → given ≡ nothing_given → given.fault ≡ Fault.None
nothing_failed given e = ap (λ (g : Given). g.fault) e

none_asked : (s : State) (seat : ℕ) (request : Request) (given : Given) → LawfulGiven s seat request given → asks_no_device request ≡ true → given.fault ≡ Fault.None
none_asked s seat (Request.Enter who kind) given l e = nothing_failed given l.1
none_asked s seat Request.Leave given l e = nothing_failed given l
none_asked s seat Request.Collect given l e = nothing_failed given l
none_asked s seat request given l e = absurd (cc)

-- ---- the laws

pub collecting-lawful : (s : State) (seat : ℕ) → Lawful s (collecting seat)
collecting-lawful s seat = record { given = refl }

pub faults-change-nothing : FaultsChangeNothing
faults-change-nothing = record {
  state = λ s e v l f. ap (λ (x : State × Reply). x.0) (step_fails s e.given f e.seat v e.request l.given);
  signals = λ s e v l f. ap (λ (x : State × Reply). x.1.signals) (step_fails s e.given f e.seat v e.request l.given);
  answer = λ s e l f. answer_fails s e.given f e.seat e.request l.given;
  lawful = collecting-lawful;
  costs = λ s e l f. cost_fails s e.given f e.seat e.request l.given;
  unfaulted = λ s e l n. none_asked s e.seat e.request e.given l.given n;
}
