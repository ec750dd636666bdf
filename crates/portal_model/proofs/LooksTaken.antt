-- Over a tree that tells its files, the looks of a lawful entry without a fault are those that it takes.
use Rattle.std.proofs.Common.{◌≡◌, ℕ, List, [], ◌∷◌, map, Bool, true, false, not, cond, Option, Some, None, refl, sym, ap, subst, ◌∙◌}
use Rattle.file_generations.specs.Generations.{Held}
use Rattle.portal_base.specs.declared.files.ChildName.{ChildName}
use Rattle.portal_base.specs.declared.files.Look.{Look}
use Rattle.portal_base.specs.declared.names.doc_id.DocId.{DocId}
use Rattle.portal_model.specs.declared.entry.Fault.{Fault}
use Rattle.portal_model.specs.declared.entry.Given.{Given}
use Rattle.portal_model.specs.declared.reply.Code.{Code}
use Rattle.portal_model.specs.declared.request.AddRequest.{AddRequest}
use Rattle.portal_model.specs.declared.request.NodeRequest.{NodeRequest}
use Rattle.portal_model.specs.declared.request.Request.{Request}
use Rattle.portal_model.specs.declared.state.Connection.{Connection}
use Rattle.portal_model.specs.Add.{add, add_allowed, add_looking, add_presented, added, added_files, are_of_kind, may_list_all}
use Rattle.portal_model.specs.AddArguments.{are_add_arguments, are_presented, document_paths, paths_shown}
use Rattle.portal_model.specs.Bus.{bus_walk, is_tree}
use Rattle.portal_model.specs.Content.{look_at}
use Rattle.portal_model.specs.DocumentLaws.{LooksAreTaken}
use Rattle.portal_model.specs.Lawful.{LawfulGiven, LawfulOnBus, LawfulOnNode}
use Rattle.portal_model.specs.Node.{walk_on_node}
use Rattle.portal_model.specs.Outside.{files_told}
use Rattle.portal_model.specs.State.{State, connection_of, held_in}
use Rattle.portal_model.specs.Step.{all_told, bus_looks, bus_of, looks_taken, mount_of, node_looks}
use Rattle.portal_model.specs.Verdict.{Verdict, unless, walk_unless}
use Rattle.portal_model.specs.Walk.{Walk, Answers, Looks, Ends, Lists, Gives, GivesNames, listed_shown, looks_at_all, looks_shown}

-- ---- the looks of a walk

by_last : (looks : List Look) (found : Bool) → looks ≡ [] → true ≡ found → looks ≡ cond found [] (Look.Missing ∷ [])
by_last looks true e f = e
by_last looks false e f = cc

pub shown_given : {X : Type 0} (held : Held) (w : Walk X) (looks : List Look) → Gives (Some held) w looks false → looks ≡ looks_shown held w
shown_given held (Answers x) looks g = g.0
shown_given held (Looks target next) [] g = cc
shown_given held (Looks target next) (look ∷ looks) g =
    ap (λ (ls : List Look). look ∷ ls) (shown_given held (next look) looks g.1) ∙ ap (λ (l : Look). l ∷ looks_shown held (next l)) g.0
shown_given held (Ends call done missing) [] g = ap (λ (found : Bool). cond found [] (Look.Missing ∷ [])) g
shown_given held (Ends call done missing) (look ∷ looks) g =
    ap (λ (l : Look). l ∷ looks) g.0 ∙ (ap (λ (ls : List Look). Look.Missing ∷ ls) g.1 ∙ ap (λ (found : Bool). cond found [] (Look.Missing ∷ [])) g.3)
shown_given held (Lists path done missing) looks g = g

-- ---- and the names that it lists

pub listed_given : {X : Type 0} (held : Held) (w : Walk X) (looks : List Look) (listed : Option (List ChildName)) → Gives (Some held) w looks false → GivesNames (Some held) w looks listed false → listed ≡ listed_shown held w
listed_given held (Answers x) looks listed g n = n
listed_given held (Looks target next) [] listed g n = cc
listed_given held (Looks target next) (look ∷ looks) listed g n =
    listed_given held (next look) looks listed g.1 n ∙ ap (λ (l : Look). listed_shown held (next l)) g.0
listed_given held (Ends call done missing) looks listed g n = n
listed_given held (Lists path done missing) looks listed g n = n

-- ---- an Add's don't depend on the numbers of new documents

shown_all : (held : Held) (paths : List (List ℕ)) (v : List Look → Verdict) → looks_shown held (looks_at_all paths (λ looks. Answers (v looks))) ≡ map (look_at held.present) paths
shown_all held [] v = refl
shown_all held (path ∷ paths) v = ap (λ (ls : List Look). look_at held.present path ∷ ls) (shown_all held paths (λ looks. v (look_at held.present path ∷ looks)))

shown_unless : (held : Held) (wrong : Bool) (code : Code) (w u : Walk Verdict) → looks_shown held w ≡ looks_shown held u → looks_shown held (walk_unless wrong code w) ≡ looks_shown held (walk_unless wrong code u)
shown_unless held true code w u e = refl
shown_unless held false code w u e = e

add_shown_alike : (held : Held) (s : State) (c : Connection) (a : AddRequest) (ns ms : List DocId) → looks_shown held (add s c a ns) ≡ looks_shown held (add s c a ms)
add_shown_alike held s c a ns ms =
    let v : List DocId → List Look → Verdict = λ numbers looks. unless (not (are_of_kind a (paths_shown c.queue a) looks)) Code.InvalidArgument (added s (added_files s c a numbers)) in
    shown_unless held (not (are_presented c.queue a)) Code.InvalidArgs (add_presented s c a ns) (add_presented s c a ms)
    (shown_unless held (not (are_add_arguments c.queue a)) Code.InvalidArgument (add_allowed s c a ns) (add_allowed s c a ms)
    (shown_unless held (not (may_list_all s c.who a (document_paths c.queue a))) Code.NotAllowed (add_looking s c a ns) (add_looking s c a ms)
    (shown_all held (paths_shown c.queue a) (v ns) ∙ sym (shown_all held (paths_shown c.queue a) (v ms)))))

walk_shown_alike : (held : Held) (s : State) (c : Connection) (request : Request) (ns ms : List DocId) → looks_shown held (bus_walk s c request ns) ≡ looks_shown held (bus_walk s c request ms)
walk_shown_alike held s c (Request.Add a) ns ms = add_shown_alike held s c a ns ms
walk_shown_alike held s c request ns ms = refl

-- ---- each kind

-- the looks of a walk over a tree that tells, where none fails
pub walk_taken : {X : Type 0} (s : State) (w : Walk X) (given : Given) → s.told ≡ true → given.fault ≡ Fault.None → Gives (files_told s) w given.looks (is_tree given.fault) → given.looks ≡ looks_shown (held_in s) w
walk_taken s w given t f g =
    let told : files_told s ≡ Some (held_in s) = ap (λ (b : Bool). cond b (Some (held_in s)) None) t in
    shown_given (held_in s) w given.looks
    (subst (λ (held : Option Held). Gives held w given.looks false) told (subst (λ (fault : Fault). Gives (files_told s) w given.looks (is_tree fault)) f g))

-- and the names that it lists
pub walk_listed : {X : Type 0} (s : State) (w : Walk X) (given : Given) → s.told ≡ true → given.fault ≡ Fault.None → Gives (files_told s) w given.looks (is_tree given.fault) → GivesNames (files_told s) w given.looks given.listed (is_tree given.fault) → given.listed ≡ listed_shown (held_in s) w
walk_listed s w given t f g n =
    let told : files_told s ≡ Some (held_in s) = ap (λ (b : Bool). cond b (Some (held_in s)) None) t in
    listed_given (held_in s) w given.looks given.listed
    (subst (λ (held : Option Held). Gives held w given.looks false) told (subst (λ (fault : Fault). Gives (files_told s) w given.looks (is_tree fault)) f g))
    (subst (λ (held : Option Held). GivesNames held w given.looks given.listed false) told
    (subst (λ (fault : Fault). GivesNames (files_told s) w given.looks given.listed (is_tree fault)) f n))

bus_taken : (s : State) (request : Request) (given : Given) (o : Option Connection) → s.told ≡ true → given.fault ≡ Fault.None → LawfulOnBus s request given o → given.looks ≡ bus_looks s request o
bus_taken s request given None t f l = ap (λ (g : Given). g.looks) l
bus_taken s request given (Some c) t f l =
    let w = bus_walk (all_told c.seat s) c request given.numbers in
    walk_taken (all_told c.seat s) w given t f l.looks ∙ walk_shown_alike (held_in s) (all_told c.seat s) c request given.numbers []

pub node-taken : (s : State) (r : NodeRequest) (given : Given) (o : Option Connection) → s.told ≡ true → given.fault ≡ Fault.None → LawfulOnNode s r given o → given.looks ≡ node_looks s r o
node-taken s r given None t f l = ap (λ (g : Given). g.looks) l
node-taken s r given (Some c) t f l = walk_taken (all_told c.seat s) (walk_on_node (all_told c.seat s) c r) given t f l.looks

given_taken : (s : State) (seat : ℕ) (request : Request) (given : Given) → s.told ≡ true → given.fault ≡ Fault.None → LawfulGiven s seat request given → given.looks ≡ looks_taken s seat request
given_taken s seat (Request.Enter who kind) given t f l = ap (λ (g : Given). g.looks) l.1
given_taken s seat Request.Leave given t f l = ap (λ (g : Given). g.looks) l
given_taken s seat Request.Collect given t f l = ap (λ (g : Given). g.looks) l
given_taken s seat (Request.Node r) given t f l = node-taken s r given (mount_of (connection_of s.connections seat)) t f l
given_taken s seat (Request.Present path) given t f l = bus_taken s (Request.Present path) given (bus_of (connection_of s.connections seat)) t f l
given_taken s seat (Request.Add a) given t f l = bus_taken s (Request.Add a) given (bus_of (connection_of s.connections seat)) t f l
given_taken s seat (Request.Grant call) given t f l = bus_taken s (Request.Grant call) given (bus_of (connection_of s.connections seat)) t f l
given_taken s seat (Request.Revoke call) given t f l = bus_taken s (Request.Revoke call) given (bus_of (connection_of s.connections seat)) t f l
given_taken s seat (Request.DeleteDocument doc) given t f l = bus_taken s (Request.DeleteDocument doc) given (bus_of (connection_of s.connections seat)) t f l
given_taken s seat (Request.LookupDocument path) given t f l = bus_taken s (Request.LookupDocument path) given (bus_of (connection_of s.connections seat)) t f l
given_taken s seat (Request.Info doc) given t f l = bus_taken s (Request.Info doc) given (bus_of (connection_of s.connections seat)) t f l
given_taken s seat (Request.ListDocuments app) given t f l = bus_taken s (Request.ListDocuments app) given (bus_of (connection_of s.connections seat)) t f l
given_taken s seat (Request.Store call) given t f l = bus_taken s (Request.Store call) given (bus_of (connection_of s.connections seat)) t f l

pub looks-are-taken : LooksAreTaken
looks-are-taken s e t l f = given_taken s e.seat e.request e.given t f l.given
