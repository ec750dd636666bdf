-- What an entry may ask is done.
use Rattle.std.proofs.Common.{◌≡◌, ℕ, List, map, Bool, true, false, not, ◌&&◌, ◌||◌, Option, Some, None, is_some, refl, ap, ◌∙◌}
use Rattle.std.specs.List.{list_all}
use Rattle.portal_base.specs.declared.who.Who.{Who}
use Rattle.portal_model.specs.declared.entry.Fault.{Fault}
use Rattle.portal_model.specs.declared.entry.Given.{Given}
use Rattle.portal_model.specs.declared.request.AddRequest.{AddRequest}
use Rattle.portal_model.specs.declared.request.NodeOp.{NodeOp}
use Rattle.portal_model.specs.declared.request.NodeRequest.{NodeRequest}
use Rattle.portal_model.specs.declared.request.Request.{Request}
use Rattle.portal_model.specs.declared.request.RightsCall.{RightsCall}
use Rattle.portal_model.specs.declared.state.Connection.{Connection}
use Rattle.portal_model.specs.declared.state.Document.{Document}
use Rattle.portal_model.specs.Add.{are_of_kind, may_list}
use Rattle.portal_model.specs.AddArguments.{are_add_arguments, are_presented, document_paths, names_nobody, paths_shown}
use Rattle.portal_model.specs.Allowed.{allowed, allowed_on_bus, allowed_on_mount, has_place, is_allowed, is_refusal, limits_kept, may_add, may_delete_in, may_grant_in, may_revoke_in, node_within, place_on}
use Rattle.portal_model.specs.Arguments.{document_named}
use Rattle.portal_model.specs.Content.{look_at}
use Rattle.portal_model.specs.DocumentLaws.{AllowedIsDone, ToldFor}
use Rattle.portal_model.specs.Enter.{enter_answer}
use Rattle.portal_model.specs.Grant.{are_rights_arguments}
use Rattle.portal_model.specs.Lawful.{LawfulGiven, LawfulOnBus, LawfulOnNode}
use Rattle.portal_model.specs.Leave.{leave_answer}
use Rattle.portal_model.specs.NodeLaws.{ToldForNode}
use Rattle.portal_model.specs.State.{State, connection_of}
use Rattle.portal_model.specs.Step.{all_told, bus_of, bus_step, collect_step, mount_of, node_step, request_step}
use Rattle.portal_model.proofs.AllowedLaws.{bus-done}
use Rattle.portal_model.proofs.NodeAllowed.{node-done}

-- ---- a request on documents

-- What a connection waits for bears on no condition: the request is answered in the state in which it was told.

may_list-told : (seat : ℕ) (s : State) (who : Who) (a : AddRequest) (path : List ℕ) → may_list (all_told seat s) who a path ≡ may_list s who a path
may_list-told seat s Who.Host a path = refl
may_list-told seat s (Who.App app) a path = refl

may_list_all-told : (seat : ℕ) (s : State) (who : Who) (a : AddRequest) (paths : List (List ℕ)) → list_all (may_list (all_told seat s) who a) paths ≡ list_all (may_list s who a) paths
may_list_all-told seat s who a paths = λ i. list_all (λ (path : List ℕ). may_list-told seat s who a path i) paths

may_grant-told : (seat : ℕ) (s : State) (who : Who) (call : RightsCall) (o : Option Document) → may_grant_in (all_told seat s) who call o ≡ may_grant_in s who call o
may_grant-told seat s who call None = refl
may_grant-told seat s who call (Some d) = refl

may_revoke-told : (seat : ℕ) (s : State) (who : Who) (call : RightsCall) (o : Option Document) → may_revoke_in (all_told seat s) who call o ≡ may_revoke_in s who call o
may_revoke-told seat s who call None = refl
may_revoke-told seat s who call (Some d) = refl

may_delete-told : (seat : ℕ) (s : State) (who : Who) (o : Option Document) → may_delete_in (all_told seat s) who o ≡ may_delete_in s who o
may_delete-told seat s who None = refl
may_delete-told seat s who (Some d) = refl

may_add-told : (seat : ℕ) (s : State) (c : Connection) (a : AddRequest) → may_add (all_told seat s) c a ≡ may_add s c a
may_add-told seat s c a =
    ap (λ (b : Bool). are_presented c.queue a && (are_add_arguments c.queue a && ((names_nobody a || b) && are_of_kind a (paths_shown c.queue a) (map (look_at s.files) (paths_shown c.queue a)))))
    (may_list_all-told seat s c.who a (document_paths c.queue a))

pub allowed-told : (seat : ℕ) (s : State) (c : Connection) (request : Request) → is_allowed (all_told seat s) c request ≡ is_allowed s c request
allowed-told seat s c (Request.Add a) = may_add-told seat s c a
allowed-told seat s c (Request.Grant call) = ap (λ (b : Bool). are_rights_arguments call && b) (may_grant-told seat s c.who call (document_named s.documents call.doc))
allowed-told seat s c (Request.Revoke call) = ap (λ (b : Bool). are_rights_arguments call && b) (may_revoke-told seat s c.who call (document_named s.documents call.doc))
allowed-told seat s c (Request.DeleteDocument doc) = may_delete-told seat s c.who (document_named s.documents doc)
allowed-told seat s c request = refl

place-told : (seat : ℕ) (s : State) (c : Connection) (request : Request) → has_place (all_told seat s) c request ≡ has_place s c request
place-told seat s c request = refl

node-told-for : (seat : ℕ) (s : State) (op : NodeOp) → ToldForNode s op → ToldForNode (all_told seat s) op
node-told-for seat s (NodeOp.Create name flags) t = t
node-told-for seat s op t = t

told-for : (seat : ℕ) (s : State) (request : Request) → ToldFor s request → ToldFor (all_told seat s) request
told-for seat s (Request.Add a) t = t
told-for seat s (Request.Node r) t = node-told-for seat s r.op t
told-for seat s request t = tt

on-bus : (s : State) (request : Request) (given : Given) (o : Option Connection) → ToldFor s request → allowed_on_bus s request o ≡ true → place_on s request o ≡ true → LawfulOnBus s request given o → given.fault ≡ Fault.None → given.full ≡ false →
    is_refusal (bus_step s request given o).1.answer ≡ false
on-bus s request given None t h k l e f = cc
on-bus s request given (Some c) t h k l e f =
    bus-done (all_told c.seat s) c request given (told-for c.seat s request t) (allowed-told c.seat s c request ∙ h) (place-told c.seat s c request ∙ k) l e f

-- ---- a request on a node

on-mount : (s : State) (r : NodeRequest) (given : Given) (o : Option Connection) → ToldForNode s r.op → allowed_on_mount s r o ≡ true → node_within s r o ≡ true → LawfulOnNode s r given o → given.fault ≡ Fault.None → is_refusal (node_step s r given o).1.answer ≡ false
on-mount s r given None t h k l e = cc
on-mount s r given (Some c) t h k l e = node-done (all_told c.seat s) c r given (node-told-for c.seat s r.op t) h k l e

-- ---- connections that open and close

entered-done : (o : Option Connection) → not (is_some o) ≡ true → is_refusal (enter_answer o) ≡ false
entered-done None h = refl
entered-done (Some c) h = cc

left-done : (o : Option Connection) → is_some o ≡ true → is_refusal (leave_answer o) ≡ false
left-done None h = cc
left-done (Some c) h = refl

collected-done : (s : State) (o : Option Connection) → is_some o ≡ true → is_refusal (collect_step s o).1.answer ≡ false
collected-done s None h = cc
collected-done s (Some c) h = refl

-- ---- an entry

step-done : (s : State) (seat : ℕ) (request : Request) (given : Given) → ToldFor s request → allowed s seat request ≡ true → limits_kept s request (connection_of s.connections seat) ≡ true → LawfulGiven s seat request given → given.fault ≡ Fault.None → given.full ≡ false →
    is_refusal (request_step s seat request given).1.answer ≡ false
step-done s seat (Request.Enter who kind) given t h k l e f = entered-done (connection_of s.connections seat) h
step-done s seat Request.Leave given t h k l e f = left-done (connection_of s.connections seat) h
step-done s seat Request.Collect given t h k l e f = collected-done s (bus_of (connection_of s.connections seat)) h
step-done s seat (Request.Node r) given t h k l e f = on-mount s r given (mount_of (connection_of s.connections seat)) t h k l e
step-done s seat (Request.Present path) given t h k l e f = on-bus s (Request.Present path) given (bus_of (connection_of s.connections seat)) t h k l e f
step-done s seat (Request.Add a) given t h k l e f = on-bus s (Request.Add a) given (bus_of (connection_of s.connections seat)) t h k l e f
step-done s seat (Request.Grant call) given t h k l e f = on-bus s (Request.Grant call) given (bus_of (connection_of s.connections seat)) t h k l e f
step-done s seat (Request.Revoke call) given t h k l e f = on-bus s (Request.Revoke call) given (bus_of (connection_of s.connections seat)) t h k l e f
step-done s seat (Request.DeleteDocument doc) given t h k l e f = on-bus s (Request.DeleteDocument doc) given (bus_of (connection_of s.connections seat)) t h k l e f
step-done s seat (Request.LookupDocument path) given t h k l e f = on-bus s (Request.LookupDocument path) given (bus_of (connection_of s.connections seat)) t h k l e f
step-done s seat (Request.Info doc) given t h k l e f = on-bus s (Request.Info doc) given (bus_of (connection_of s.connections seat)) t h k l e f
step-done s seat (Request.ListDocuments app) given t h k l e f = on-bus s (Request.ListDocuments app) given (bus_of (connection_of s.connections seat)) t h k l e f
step-done s seat (Request.Store call) given t h k l e f = on-bus s (Request.Store call) given (bus_of (connection_of s.connections seat)) t h k l e f

pub allowed-done : AllowedIsDone
allowed-done = record {
  entry = λ s e t h k l f n. step-done s e.seat e.request e.given t h k l.given f n;
  on_bus = bus-done;
}
