-- The calls of the tree that a request on documents makes: one for each look, and none but looks; and no moment is read for it.
use Rattle.std.proofs.Common.{◌≡◌, ℕ, zero, suc, List, [], ◌∷◌, length, map, replicate, Bool, true, false, not, Option, Some, None, is_some, refl, sym, ap, ◌∙◌}
use Rattle.host_tree.specs.declared.tree.TreeCall.{TreeCall}
use Rattle.node_looks.specs.TreeCalls.{Call, call_at, calls_by, unfailed}
use Rattle.file_generations.specs.Generations.{Held}
use Rattle.portal_base.specs.declared.files.Look.{Look}
use Rattle.portal_base.specs.declared.names.doc_id.DocId.{DocId}
use Rattle.portal_model.specs.declared.entry.Given.{Given}
use Rattle.portal_model.specs.declared.reply.Code.{Code}
use Rattle.portal_model.specs.declared.request.AddRequest.{AddRequest}
use Rattle.portal_model.specs.declared.request.Request.{Request}
use Rattle.portal_model.specs.declared.state.Connection.{Connection}
use Rattle.portal_model.specs.declared.store.StoreCall.{StoreCall}
use Rattle.portal_model.specs.Add.{add, add_allowed, add_looking, add_presented, add_shown, may_list_all}
use Rattle.portal_model.specs.AddArguments.{are_add_arguments, are_presented, document_paths, paths_shown}
use Rattle.portal_model.specs.Bus.{bus_walk, is_tree}
use Rattle.portal_model.specs.Lawful.{LawfulOnBus}
use Rattle.portal_model.specs.Outside.{files_told}
use Rattle.portal_model.specs.State.{State}
use Rattle.portal_model.specs.Step.{all_told}
use Rattle.portal_model.specs.Verdict.{Verdict, walk_unless}
use Rattle.portal_model.specs.Walk.{Walk, Answers, Looks, Ends, Lists, Gives, looks_at_all, reads_clock}
use Rattle.portal_steps.specs.Documents.{is_document_call}
use Rattle.portal_steps.specs.TreeCalls.{bus_calls, document_calls, only_looks, request_calls}
use Rattle.portal_steps.proofs.CallVerdicts.{is_on_bus, walk-is}

-- so many looks that didn't fail, and one behind them that did, or none
abbrev pub listed : ℕ → Bool → List Call
listed zero false = []
listed zero true = (TreeCall.Look, true) ∷ []
listed (suc n) failed = unfailed TreeCall.Look ∷ listed n failed

pub listed-none : (n : ℕ) → listed n false ≡ map unfailed (replicate n TreeCall.Look)
listed-none zero = refl
listed-none (suc n) = ap (λ (l : List Call). unfailed TreeCall.Look ∷ l) (listed-none n)

-- ---- a walk that only looks

abbrev OnlyLooks : {X : Type 0} → Walk X → Type 0
OnlyLooks (Answers x) = Unit {0}
OnlyLooks (Looks target next) = (call_at target ≡ TreeCall.Look) × ((look : Look) → OnlyLooks (next look))
OnlyLooks (Ends call done missing) = ⊥
OnlyLooks (Lists path done missing) = ⊥

answered-calls : (looks : List Look) (failed : Bool) → looks ≡ [] → failed ≡ false → [] ≡ listed (length looks) failed
answered-calls [] false e f = refl
answered-calls [] true e f = absurd (cc)
answered-calls (look ∷ looks) failed e f = absurd (cc)

walk-calls : {X : Type 0} (last : X → TreeCall) (told : Option Held) (looks : List Look) (failed : Bool) (w : Walk X) → OnlyLooks w → Gives told w looks failed → calls_by last w looks failed ≡ listed (length looks) failed
walk-calls last told looks failed (Answers x) o g = answered-calls looks failed g.0 g.1
walk-calls last told [] failed (Looks target next) o g = ap (λ (k : TreeCall). (k, failed) ∷ []) o.0 ∙ (ap (λ (b : Bool). (TreeCall.Look, b) ∷ []) g ∙ ap (listed 0) (sym g))
walk-calls last told (look ∷ looks) failed (Looks target next) o g =
    ap (λ (k : TreeCall). unfailed k ∷ calls_by last (next look) looks failed) o.0
    ∙ ap (λ (l : List Call). unfailed TreeCall.Look ∷ l) (walk-calls last told looks failed (next look) (o.1 look) g.1)
walk-calls last told looks failed (Ends call done missing) o g = absurd o
walk-calls last told looks failed (Lists path done missing) o g = absurd o

walk-clock : {X : Type 0} (looks : List Look) (w : Walk X) → OnlyLooks w → reads_clock w looks ≡ false
walk-clock looks (Answers x) o = refl
walk-clock [] (Looks target next) o = refl
walk-clock (look ∷ looks) (Looks target next) o = walk-clock looks (next look) (o.1 look)
walk-clock looks (Ends call done missing) o = absurd o
walk-clock looks (Lists path done missing) o = absurd o

-- ---- the requests on documents

only-unless : (wrong : Bool) (code : Code) (w : Walk Verdict) → OnlyLooks w → OnlyLooks (walk_unless wrong code w)
only-unless true code w o = tt
only-unless false code w o = o

only-all : (paths : List (List ℕ)) (next : List Look → Walk Verdict) → ((looks : List Look) → OnlyLooks (next looks)) → OnlyLooks (looks_at_all paths next)
only-all [] next o = o []
only-all (path ∷ paths) next o = (refl, λ look. only-all paths (λ looks. next (look ∷ looks)) (λ looks. o (look ∷ looks)))

only-add : (s : State) (c : Connection) (a : AddRequest) (numbers : List DocId) → OnlyLooks (add s c a numbers)
only-add s c a numbers =
    only-unless (not (are_presented c.queue a)) Code.InvalidArgs (add_presented s c a numbers)
    (only-unless (not (are_add_arguments c.queue a)) Code.InvalidArgument (add_allowed s c a numbers)
    (only-unless (not (may_list_all s c.who a (document_paths c.queue a))) Code.NotAllowed (add_looking s c a numbers)
    (only-all (paths_shown c.queue a) (add_shown s c a numbers) (λ looks. tt))))

only-bus : (s : State) (c : Connection) (request : Request) (numbers : List DocId) → OnlyLooks (bus_walk s c request numbers)
only-bus s c (Request.Add a) numbers = only-add s c a numbers
only-bus s c request numbers = tt

-- an Add makes a call for each look, and one that fails behind them
pub add-calls : (s : State) (a : AddRequest) (given : Given) (o : Option Connection) → LawfulOnBus s (Request.Add a) given o → bus_calls s (Request.Add a) given o ≡ listed (length given.looks) (is_tree given.fault)
add-calls s a given None l = sym (ap (λ (g : Given). listed (length g.looks) (is_tree g.fault)) l)
add-calls s a given (Some c) l =
    walk-calls only_looks (files_told (all_told c.seat s)) given.looks (is_tree given.fault) (bus_walk (all_told c.seat s) c (Request.Add a) given.numbers) (only-bus (all_told c.seat s) c (Request.Add a) given.numbers) l.looks

-- the others make none
pub call-calls : (s : State) (request : Request) (given : Given) (o : Option Connection) → is_document_call request ≡ true → bus_calls s request given o ≡ []
call-calls s request given None h = refl
call-calls s request given (Some c) h = ap (λ (w : Walk Verdict). calls_by only_looks w given.looks (is_tree given.fault)) (walk-is (all_told c.seat s) c request given.numbers h)

-- a call of the permission store makes none either
pub store-calls : (s : State) (call : StoreCall) (given : Given) (o : Option Connection) → bus_calls s (Request.Store call) given o ≡ []
store-calls s call given None = refl
store-calls s call given (Some c) = refl

pub no-moment : (now : Option ℕ) → is_some now ≡ false → now ≡ None
no-moment None e = refl
no-moment (Some now) e = cc

-- the clock isn't read
pub bus-moment : (s : State) (request : Request) (given : Given) (o : Option Connection) → LawfulOnBus s request given o → given.now ≡ None
bus-moment s request given None l = ap (λ (g : Given). g.now) l
bus-moment s request given (Some c) l = no-moment given.now (l.clock ∙ walk-clock given.looks (bus_walk (all_told c.seat s) c request given.numbers) (only-bus (all_told c.seat s) c request given.numbers))

pub on-bus : (s : State) (seat : ℕ) (request : Request) (given : Given) → is_on_bus request ≡ true → request_calls s seat request given ≡ document_calls s seat request given
on-bus s seat (Request.Enter who kind) given h = absurd (cc)
on-bus s seat Request.Leave given h = absurd (cc)
on-bus s seat Request.Collect given h = absurd (cc)
on-bus s seat (Request.Node r) given h = absurd (cc)
on-bus s seat request given h = refl
