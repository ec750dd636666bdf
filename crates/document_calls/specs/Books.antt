-- A state and the portal's own lists of documents, rights and applications.
use Rattle.std.specs.Prelude.{◌≡◌, ℕ, List, Some, option_map}
use Rattle.portal_model.specs.declared.state.Connection.{Connection}
use Rattle.portal_model.specs.declared.state.Triple.{Triple}
use Rattle.portal_model.specs.Present.{with_queue}
use Rattle.portal_model.specs.State.{State, connection_of}
use Rattle.document_records.specs.Documents.{DocumentList}

-- the state has these documents and their limits, these rights and these applications, and
-- anything else
pub record IsBook (s : State) (documents : DocumentList) (rights : List Triple)
    (applications : List (List ℕ)) : Type 0 where
  pub live : s.documents ≡ documents.live
  pub made : s.made ≡ documents.made
  pub most_live : s.limits.documents ≡ documents.most_live
  pub most_made : s.limits.made ≡ documents.most_made
  pub held : s.rights ≡ rights
  pub numbered : s.applications ≡ applications

-- the state with these in their place
abbrev pub with_book : State → DocumentList → List Triple → List (List ℕ) → State
with_book s documents rights applications =
    record s {
      documents = documents.live;
      made = documents.made;
      rights = rights;
      applications = applications;
    }

-- The seat of the connection has this queue in the state, and so has the connection: this may
-- still wait for changes that the seat is told in the state.
pub record IsQueue (s : State) (c : Connection) (queue : List (List ℕ)) (most : ℕ)
    : Type 0 where
  pub own : c.queue ≡ queue
  pub here : option_map (λ e. e.queue) (connection_of s.connections c.seat) ≡ Some queue
  pub limit : s.limits.queued ≡ most

-- the state with this queue in its place
abbrev pub queue_set : State → Connection → List (List ℕ) → State
queue_set s c queue = with_queue c.seat (λ _. queue) s
