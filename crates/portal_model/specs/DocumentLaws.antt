-- Laws of the requests of a bus, and of entries, which the public functions of
-- src/document_laws.rt state.
use Rattle.std.specs.Prelude.{◌≡◌, ◌≢◌, true, false}
use Rattle.portal_model.specs.declared.entry.Entry.{Entry}
use Rattle.portal_model.specs.declared.entry.Fault.{Fault}
use Rattle.portal_model.specs.declared.entry.Given.{Given}
use Rattle.portal_model.specs.declared.reply.Answer.{Answer}
use Rattle.portal_model.specs.declared.reply.Code.{Code}
use Rattle.portal_model.specs.declared.request.Request.{Request}
use Rattle.portal_model.specs.declared.state.Connection.{Connection}
use Rattle.portal_model.specs.Allowed.{allowed, has_place, is_allowed, is_refusal, place_left}
use Rattle.portal_model.specs.Bus.{bus_answer, refused_state}
use Rattle.portal_model.specs.Lawful.{Lawful}
use Rattle.portal_model.specs.NodeLaws.{ToldForNode}
use Rattle.portal_model.specs.Outside.{LawfulBus}
use Rattle.portal_model.specs.State.{State}
use Rattle.portal_model.specs.Step.{after, looks_taken, reply_at}

abbrev pub after_bus : State → Connection → Request → Given → State
after_bus s c request given = (bus_answer s c request given).0

abbrev pub answer_of_bus : State → Connection → Request → Given → Answer
answer_of_bus s c request given = (bus_answer s c request given).1

-- A refusal leaves documents, rights, applications, files and entries as they were: all but
-- the connections, of which a queue may have changed. Where a device failed, the presented files
-- stay, and so does the state; any other refusal of an Add that names presented files takes them,
-- and of a request of another kind, or of an Add that names others, nothing.
pub record RefusalsKeep : Type 0 where
  pub lists :
      (s : State) (c : Connection) (request : Request) (given : Given) (code : Code) →
      answer_of_bus s c request given ≡ Answer.Refused code →
      after_bus s c request given
      ≡ record s { connections = (after_bus s c request given).connections }
  pub failed :
      (s : State) (c : Connection) (request : Request) (given : Given) →
      answer_of_bus s c request given ≡ Answer.Refused Code.Failed →
      after_bus s c request given ≡ s
  pub taken :
      (s : State) (c : Connection) (request : Request) (given : Given) (code : Code) →
      answer_of_bus s c request given ≡ Answer.Refused code → code ≢ Code.Failed →
      after_bus s c request given ≡ refused_state s c request

-- The same of any entry: a refused one may have taken presented files from a queue, and told what
-- a connection waited for, and that is all.
abbrev pub RefusedEntriesKeep : Type 0
RefusedEntriesKeep = (s : State) (e : Entry) (code : Code) →
    (reply_at s e).answer ≡ Answer.Refused code →
    after s e ≡ record s { connections = (after s e).connections }

-- Over a tree that tells its files, the looks of a lawful entry in which no device failed are those
-- that it takes there: no entry has a choice of looks.
abbrev pub LooksAreTaken : Type 0
LooksAreTaken = (s : State) (e : Entry) → s.told ≡ true → Lawful s e →
    e.given.fault ≡ Fault.None → e.given.looks ≡ looks_taken s e.seat e.request

-- The conditions of an Add speak of what the tree has, so they need a tree that tells. Of requests
-- on nodes this is so of a CREATE.
abbrev pub ToldFor : State → Request → Type 0
ToldFor s (Request.Add a) = s.told ≡ true
ToldFor s (Request.Node r) = ToldForNode s r.op
ToldFor s (Request.Present path) = Unit {0}
ToldFor s (Request.Grant call) = Unit {0}
ToldFor s (Request.Revoke call) = Unit {0}
ToldFor s (Request.DeleteDocument doc) = Unit {0}
ToldFor s (Request.LookupDocument path) = Unit {0}
ToldFor s (Request.Info doc) = Unit {0}
ToldFor s (Request.ListDocuments app) = Unit {0}
ToldFor s (Request.Store call) = Unit {0}
ToldFor s (Request.Enter who kind) = Unit {0}
ToldFor s Request.Leave = Unit {0}
ToldFor s Request.Collect = Unit {0}

-- What is allowed is done, where no device fails, no limit of documents, applications, open handles
-- or a file's length is met, the queue has a place, and the entry of a call of the permission store
-- can be told: an Add and a CREATE over a tree that tells, all else over any tree. It is so of each
-- lawful entry, and of a request of a bus of any connection.
pub record AllowedIsDone : Type 0 where
  pub entry :
      (s : State) (e : Entry) → ToldFor s e.request →
      allowed s e.seat e.request ≡ true → place_left s e.seat e.request ≡ true →
      Lawful s e → e.given.fault ≡ Fault.None → e.given.full ≡ false →
      is_refusal (reply_at s e).answer ≡ false
  pub on_bus :
      (s : State) (c : Connection) (request : Request) (given : Given) → ToldFor s request →
      is_allowed s c request ≡ true → has_place s c request ≡ true →
      LawfulBus s c request given → given.fault ≡ Fault.None → given.full ≡ false →
      is_refusal (answer_of_bus s c request given) ≡ false
