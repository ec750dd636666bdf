-- What the records of documents and rights say to a caller.
use Rattle.std.specs.Prelude.{◌≡◌, ℕ, List, Option, option_map}
use Rattle.portal_base.specs.declared.who.Who.{Who}
use Rattle.portal_model.specs.declared.state.Document.{Document}
use Rattle.portal_model.specs.declared.state.Triple.{Triple}
use Rattle.portal_model.specs.Arguments.{document_named, if_reached}
use Rattle.portal_model.specs.Rights.{held_by}
use Rattle.portal_model.specs.State.{State}
use Rattle.grant_revoke.specs.declared.lookup.Reached.{Reached}

-- the state has these live documents and these rights, and anything else
pub record HasRecords (s : State) (documents : List Document) (rights : List Triple) : Type 0 where
  pub live : s.documents ≡ documents
  pub held : s.rights ≡ rights

-- a document, and the rights that the caller has in it
abbrev pub reached_as : List Triple → Who → Document → Reached
reached_as rights who d = record { id = d.id; held = held_by rights who d.id.number }

-- the document of an identifier, where the caller has a right in it
abbrev pub reached_in : List Document → List Triple → Who → List ℕ → Option Reached
reached_in documents rights who doc =
    option_map (reached_as rights who) (if_reached rights who (document_named documents doc))
