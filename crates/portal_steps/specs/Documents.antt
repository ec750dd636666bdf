-- What the code makes of a request on documents, over the portal's lists and the keeper.
use Rattle.std.specs.Prelude.{◌≡◌, ℕ, List, [], ◌∷◌, map, Bool, true, false, Option, Some, None}
use Rattle.document_records.specs.Documents.{DocumentList}
use Rattle.portal_model.specs.declared.entry.Given.{Given}
use Rattle.portal_model.specs.declared.reply.Answer.{Answer}
use Rattle.portal_model.specs.declared.reply.Code.TheVariants as Code
use Rattle.portal_model.specs.declared.request.AddRequest.{AddRequest}
use Rattle.portal_model.specs.declared.request.Request.{Request}
use Rattle.portal_model.specs.declared.state.Connection.{Connection}
use Rattle.portal_model.specs.declared.state.Triple.{Triple}
use Rattle.portal_model.specs.Lawful.{nothing_given}
use Rattle.portal_model.specs.State.{State, connection_of}
use Rattle.portal_model.specs.Step.{bus_of}
use Rattle.record_keeper.specs.Keepers.{KeeperIs}
use Rattle.add_calls.specs.Placing.{HasDrawnUpTo}
use Rattle.add_serving.specs.Adds.{documents_made}
use Rattle.document_calls.specs.Books.{IsBook}
use Rattle.document_calls.specs.KeeperCalls.{ServesKept}
use Rattle.store_serving.specs.Waiting.{silent}

-- a request on documents, but for an Add, which alone asks the tree
abbrev pub is_document_call : Request → Bool
is_document_call (Request.Present path) = true
is_document_call (Request.Grant call) = true
is_document_call (Request.Revoke call) = true
is_document_call (Request.DeleteDocument doc) = true
is_document_call (Request.LookupDocument path) = true
is_document_call (Request.Info doc) = true
is_document_call (Request.ListDocuments app) = true
is_document_call (Request.Enter who kind) = false
is_document_call Request.Leave = false
is_document_call Request.Collect = false
is_document_call (Request.Add a) = false
is_document_call (Request.Node r) = false
is_document_call (Request.Store call) = false

-- the state has these documents and their limits, these rights, applications and connections, but
-- for what the connections wait for, what they have named and their temporaries, and anything else
pub record HasLists (s : State) (documents : DocumentList) (rights : List Triple)
    (applications : List (List ℕ)) (connections : List Connection) : Type 0 where
  pub book : IsBook s documents rights applications
  pub connected : map silent s.connections ≡ connections

-- the connections with the queues that these have at their places
abbrev pub with_queues : List Connection → List Connection → List Connection
with_queues [] queued = []
with_queues (c ∷ cs) [] = c ∷ cs
with_queues (c ∷ cs) (q ∷ qs) = record c { queue = q.queue } ∷ with_queues cs qs

-- the state with these in their place
abbrev pub with_lists : State → DocumentList → List Triple → List (List ℕ) → List Connection → State
with_lists s documents rights applications connections =
    record s {
      documents = documents.live;
      made = documents.made;
      rights = rights;
      applications = applications;
      connections = with_queues s.connections connections;
    }

-- what a request on a bus comes to, or of a seat that has none
abbrev pub ServedOn : State → Request → Given → State → Answer → KeeperIs → KeeperIs
    → Option Connection → Type 0
ServedOn s request given after answer old new None =
    (given ≡ nothing_given) × (answer ≡ Answer.Refused Code.NotHere) × (after ≡ s) × (new ≡ old)
ServedOn s request given after answer old new (Some c) =
    ServesKept s c request given after answer old new

-- the words that a refused Add drew on a bus: no more than documents are made by it; and none of a
-- seat that has no bus
abbrev pub DrewOn : State → AddRequest → Option (List ℕ) → Option (List ℕ) → Option Connection
    → Type 0
DrewOn s a old new None = new ≡ old
DrewOn s a old new (Some c) = HasDrawnUpTo (documents_made s c a) old new

-- The words that a refused request of a seat drew, where it is an Add: no more than documents are
-- made by it on the bus of that seat. No other request draws any.
abbrev pub DrewBy : State → ℕ → Request → Option (List ℕ) → Option (List ℕ) → Type 0
DrewBy s seat (Request.Add a) old new =
    DrewOn s a old new (bus_of (connection_of s.connections seat))
DrewBy s seat (Request.Enter who kind) old new = Unit {0}
DrewBy s seat Request.Leave old new = Unit {0}
DrewBy s seat Request.Collect old new = Unit {0}
DrewBy s seat (Request.Node r) old new = Unit {0}
DrewBy s seat (Request.Present path) old new = Unit {0}
DrewBy s seat (Request.Grant call) old new = Unit {0}
DrewBy s seat (Request.Revoke call) old new = Unit {0}
DrewBy s seat (Request.DeleteDocument doc) old new = Unit {0}
DrewBy s seat (Request.LookupDocument path) old new = Unit {0}
DrewBy s seat (Request.Info doc) old new = Unit {0}
DrewBy s seat (Request.ListDocuments app) old new = Unit {0}
DrewBy s seat (Request.Store call) old new = Unit {0}
