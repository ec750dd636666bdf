-- What the requests on documents but Add come to: the tree isn't asked, and no refusal of theirs tells that a device failed.
use Rattle.std.proofs.Common.{◌≡◌, ℕ, List, [], ◌∷◌, ◌++◌, length, nat_lt, Bool, true, false, not, ◌||◌, Option, Some, None, refl}
use Rattle.portal_base.specs.Names.{is_app_name, is_same}
use Rattle.portal_base.specs.declared.names.doc_id.DocId.{DocId}
use Rattle.portal_base.specs.declared.who.Who.{Who}
use Rattle.portal_model.specs.declared.entry.Fault.{Fault}
use Rattle.portal_model.specs.declared.entry.Given.{Given}
use Rattle.portal_model.specs.declared.reply.Answer.{Answer}
use Rattle.portal_model.specs.declared.reply.Code.{Code}
use Rattle.portal_model.specs.declared.request.Request.{Request}
use Rattle.portal_model.specs.declared.request.RightsCall.{RightsCall}
use Rattle.portal_model.specs.declared.state.Connection.{Connection}
use Rattle.portal_model.specs.declared.state.Document.{Document}
use Rattle.portal_model.specs.Allowed.{is_refusal}
use Rattle.portal_model.specs.Arguments.{ahead_of_end, document_named, is_ended_path, reached}
use Rattle.portal_model.specs.Bus.{bus_walk, is_tree, refused_state}
use Rattle.portal_model.specs.DeleteDocument.{delete_document, delete_reached, deleted}
use Rattle.portal_model.specs.Documents.{first_of}
use Rattle.portal_model.specs.Grant.{are_rights_arguments, grant, grant_reached, granted, may_grant}
use Rattle.portal_model.specs.Info.{info, info_of}
use Rattle.portal_model.specs.Kept.{records_of}
use Rattle.portal_model.specs.Lawful.{LawfulGiven, LawfulOnBus}
use Rattle.portal_model.specs.ListDocuments.{documents_listed, list_documents}
use Rattle.portal_model.specs.LookupDocument.{lookup_document, text_of}
use Rattle.portal_model.specs.Outside.{ChangesRecords}
use Rattle.portal_model.specs.Present.{may_present, present, present_path, queue_path, with_queue}
use Rattle.portal_model.specs.Revoke.{may_revoke, names_itself, revoke, revoke_reached, revoked}
use Rattle.portal_model.specs.Rights.{held_by}
use Rattle.portal_model.specs.State.{State, connection_of}
use Rattle.portal_model.specs.Step.{bus_of, bus_step, request_step}
use Rattle.portal_model.specs.Verdict.{Verdict, Refuses, Does, does, unless}
use Rattle.portal_model.specs.Walk.{Answers}
use Rattle.rights_rule.specs.Rights.{rights_named}
use Rattle.portal_steps.specs.Devices.{may_change_records}
use Rattle.portal_steps.specs.Documents.{is_document_call}

abbrev pub verdict_on : State → Connection → Request → Verdict
verdict_on s c (Request.Present path) = present s c path
verdict_on s c (Request.Grant call) = grant s c.who call
verdict_on s c (Request.Revoke call) = revoke s c.who call
verdict_on s c (Request.DeleteDocument doc) = delete_document s c.who doc
verdict_on s c (Request.LookupDocument path) = lookup_document s c.who path
verdict_on s c (Request.Info doc) = info s c.who doc
verdict_on s c (Request.ListDocuments app) = list_documents s c.who app
verdict_on s c request = Refuses Code.NotHere

pub walk-is : (s : State) (c : Connection) (request : Request) (numbers : List DocId) → is_document_call request ≡ true → bus_walk s c request numbers ≡ Answers (verdict_on s c request)
walk-is s c (Request.Present path) numbers h = refl
walk-is s c (Request.Grant call) numbers h = refl
walk-is s c (Request.Revoke call) numbers h = refl
walk-is s c (Request.DeleteDocument doc) numbers h = refl
walk-is s c (Request.LookupDocument path) numbers h = refl
walk-is s c (Request.Info doc) numbers h = refl
walk-is s c (Request.ListDocuments app) numbers h = refl
walk-is s c request numbers h = absurd (cc)

pub refused-stays : (s : State) (c : Connection) (request : Request) → is_document_call request ≡ true → refused_state s c request ≡ s
refused-stays s c (Request.Add a) h = absurd (cc)
refused-stays s c request h = refl

-- a request on documents, of which an Add is one too
abbrev pub is_on_bus : Request → Bool
is_on_bus (Request.Add a) = true
is_on_bus (Request.Present path) = true
is_on_bus (Request.Grant call) = true
is_on_bus (Request.Revoke call) = true
is_on_bus (Request.DeleteDocument doc) = true
is_on_bus (Request.LookupDocument path) = true
is_on_bus (Request.Info doc) = true
is_on_bus (Request.ListDocuments app) = true
is_on_bus (Request.Store call) = true
is_on_bus (Request.Enter who kind) = false
is_on_bus Request.Leave = false
is_on_bus Request.Collect = false
is_on_bus (Request.Node r) = false

pub call-on-bus : (request : Request) → is_document_call request ≡ true → is_on_bus request ≡ true
call-on-bus (Request.Present path) h = refl
call-on-bus (Request.Grant call) h = refl
call-on-bus (Request.Revoke call) h = refl
call-on-bus (Request.DeleteDocument doc) h = refl
call-on-bus (Request.LookupDocument path) h = refl
call-on-bus (Request.Info doc) h = refl
call-on-bus (Request.ListDocuments app) h = refl
call-on-bus request h = absurd (cc)

pub step-on-bus : (s : State) (seat : ℕ) (request : Request) (given : Given) → is_on_bus request ≡ true → request_step s seat request given ≡ bus_step s request given (bus_of (connection_of s.connections seat))
step-on-bus s seat (Request.Enter who kind) given h = absurd (cc)
step-on-bus s seat Request.Leave given h = absurd (cc)
step-on-bus s seat Request.Collect given h = absurd (cc)
step-on-bus s seat (Request.Node r) given h = absurd (cc)
step-on-bus s seat request given h = refl

pub lawful-on-bus : (s : State) (seat : ℕ) (request : Request) (given : Given) → is_on_bus request ≡ true → LawfulOnBus s request given (bus_of (connection_of s.connections seat)) → LawfulGiven s seat request given
lawful-on-bus s seat (Request.Enter who kind) given h k = absurd (cc)
lawful-on-bus s seat Request.Leave given h k = absurd (cc)
lawful-on-bus s seat Request.Collect given h k = absurd (cc)
lawful-on-bus s seat (Request.Node r) given h k = absurd (cc)
lawful-on-bus s seat request given h k = k

-- ---- no refusal tells that a device failed

abbrev pub is_fault_code : Code → Bool
is_fault_code Code.Failed = true
is_fault_code (Code.Errno n) = true
is_fault_code code = false

abbrev pub TellsNone : Verdict → Type 0
TellsNone (Refuses code) = is_fault_code code ≡ false
TellsNone (Does d) = (is_refusal d.answer ≡ false) × (d.makes ≡ 0)

-- what is told by what any of them comes to, where this fault was given
abbrev pub TellsOf : Fault → Option Verdict → Type 0
TellsOf fault None = is_tree fault ≡ true
TellsOf fault (Some (Refuses code)) = is_fault_code code ≡ false
TellsOf fault (Some (Does d)) = is_refusal d.answer ≡ false

unless-none : (wrong : Bool) (code : Code) (v : Verdict) → is_fault_code code ≡ false → TellsNone v → TellsNone (unless wrong code v)
unless-none true code v h k = h
unless-none false code v h k = k

granted-none : (s : State) (who : Who) (call : RightsCall) (o : Option Document) → TellsNone (grant_reached s who call o)
granted-none s who call None = refl
granted-none s who call (Some d) = unless-none (not (may_grant (held_by s.rights who d.id.number) (rights_named call.names))) Code.NotAllowed (granted s call d) refl (refl, refl)

revoked-none : (s : State) (who : Who) (call : RightsCall) (o : Option Document) → TellsNone (revoke_reached s who call o)
revoked-none s who call None = refl
revoked-none s who call (Some d) = unless-none (not (may_revoke (held_by s.rights who d.id.number) (names_itself who call.app))) Code.NotAllowed (does (revoked s call d) Answer.Done) refl (refl, refl)

deleted-none : (s : State) (who : Who) (o : Option Document) → TellsNone (delete_reached s who o)
deleted-none s who None = refl
deleted-none s who (Some d) = unless-none (not (held_by s.rights who d.id.number).delete) Code.NotAllowed (does (deleted s d.id.number) Answer.Done) refl (refl, refl)

informed-none : (s : State) (o : Option Document) → TellsNone (info_of s o)
informed-none s None = refl
informed-none s (Some d) = (refl, refl)

looked-none : (s : State) (who : Who) (path : List ℕ) → TellsNone (lookup_document s who path)
looked-none s (Who.App app) path = refl
looked-none s Who.Host path = unless-none (not (is_ended_path path)) Code.InvalidArgument (does s (Answer.Ids (text_of (first_of s.documents (ahead_of_end path)) ∷ []))) refl (refl, refl)

asked-none : (s : State) (who : Who) (doc : List ℕ) → TellsNone (info s who doc)
asked-none s (Who.App app) doc = refl
asked-none s Who.Host doc = informed-none s (document_named s.documents doc)

listed-none : (s : State) (who : Who) (app : List ℕ) → TellsNone (list_documents s who app)
listed-none s (Who.App caller) app = refl
listed-none s Who.Host app = unless-none (not (is_same app [] || is_app_name app)) Code.InvalidArgument (does s (Answer.Listed (documents_listed s app))) refl (refl, refl)

pub tells-none : (s : State) (c : Connection) (request : Request) → TellsNone (verdict_on s c request)
tells-none s c (Request.Present path) = unless-none (not (is_ended_path path)) Code.InvalidArgument (present_path s c (ahead_of_end path)) refl (unless-none (not (may_present c.who (ahead_of_end path))) Code.NotAllowed (queue_path s c (ahead_of_end path)) refl (unless-none (not (nat_lt (length c.queue) s.limits.queued)) Code.LimitsExceeded (does (with_queue c.seat (λ queue. queue ++ ahead_of_end path ∷ []) s) (Answer.Place (length c.queue))) refl (refl, refl)))
tells-none s c (Request.Grant call) = unless-none (not (are_rights_arguments call)) Code.InvalidArgument (grant_reached s c.who call (reached s c.who call.doc)) refl (granted-none s c.who call (reached s c.who call.doc))
tells-none s c (Request.Revoke call) = unless-none (not (are_rights_arguments call)) Code.InvalidArgument (revoke_reached s c.who call (reached s c.who call.doc)) refl (revoked-none s c.who call (reached s c.who call.doc))
tells-none s c (Request.DeleteDocument doc) = deleted-none s c.who (reached s c.who doc)
tells-none s c (Request.LookupDocument path) = looked-none s c.who path
tells-none s c (Request.Info doc) = asked-none s c.who doc
tells-none s c (Request.ListDocuments app) = listed-none s c.who app
tells-none s c request = refl

-- ---- which leave the records

abbrev Stays : State → Verdict → Type 0
Stays s (Refuses code) = Unit {0}
Stays s (Does d) = records_of d.state ≡ records_of s

unless-stays : (s : State) (wrong : Bool) (code : Code) (v : Verdict) → Stays s v → Stays s (unless wrong code v)
unless-stays s true code v k = tt
unless-stays s false code v k = k

informed-stays : (s : State) (o : Option Document) → Stays s (info_of s o)
informed-stays s None = tt
informed-stays s (Some d) = refl

looked-stays : (s : State) (who : Who) (path : List ℕ) → Stays s (lookup_document s who path)
looked-stays s (Who.App app) path = tt
looked-stays s Who.Host path = unless-stays s (not (is_ended_path path)) Code.InvalidArgument (does s (Answer.Ids (text_of (first_of s.documents (ahead_of_end path)) ∷ []))) refl

asked-stays : (s : State) (who : Who) (doc : List ℕ) → Stays s (info s who doc)
asked-stays s (Who.App app) doc = tt
asked-stays s Who.Host doc = informed-stays s (document_named s.documents doc)

listed-stays : (s : State) (who : Who) (app : List ℕ) → Stays s (list_documents s who app)
listed-stays s (Who.App caller) app = tt
listed-stays s Who.Host app = unless-stays s (not (is_same app [] || is_app_name app)) Code.InvalidArgument (does s (Answer.Listed (documents_listed s app))) refl

call-stays : (s : State) (c : Connection) (request : Request) → may_change_records request ≡ false → Stays s (verdict_on s c request)
call-stays s c (Request.Present path) h = unless-stays s (not (is_ended_path path)) Code.InvalidArgument (present_path s c (ahead_of_end path)) (unless-stays s (not (may_present c.who (ahead_of_end path))) Code.NotAllowed (queue_path s c (ahead_of_end path)) (unless-stays s (not (nat_lt (length c.queue) s.limits.queued)) Code.LimitsExceeded (does (with_queue c.seat (λ queue. queue ++ ahead_of_end path ∷ []) s) (Answer.Place (length c.queue))) refl))
call-stays s c (Request.Grant call) h = absurd (cc)
call-stays s c (Request.Revoke call) h = absurd (cc)
call-stays s c (Request.DeleteDocument doc) h = absurd (cc)
call-stays s c (Request.LookupDocument path) h = looked-stays s c.who path
call-stays s c (Request.Info doc) h = asked-stays s c.who doc
call-stays s c (Request.ListDocuments app) h = listed-stays s c.who app
call-stays s c request h = tt

no-change : (s : State) (v : Verdict) → Stays s v → ChangesRecords s (Some v) → ⊥
no-change s (Refuses code) k h = h
no-change s (Does d) k h = h.1 k

pub call-changes-none : (s : State) (c : Connection) (request : Request) → may_change_records request ≡ false → ChangesRecords s (Some (verdict_on s c request)) → ⊥
call-changes-none s c request h = no-change s (verdict_on s c request) (call-stays s c request h)
