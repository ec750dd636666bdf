-- Nodes of names below exported folders: those that are answered, and those that are used. A node
-- of kind 4 has the number of a naming of the connection that asks, from 1. FUSE_LOOKUP, FUSE_CREATE
-- and what they answer (fuse_entry_out) are of include/uapi/linux/fuse.h; the numbers are this
-- project's own.
use Rattle.std.specs.Prelude.{◌≡◌, ℕ, List, Bool, Option, Some, None}
use Rattle.portal_base.specs.Names.{named_child}
use Rattle.portal_model.specs.declared.entry.Given.{Given}
use Rattle.portal_model.specs.declared.naming.Naming.{Naming}
use Rattle.portal_model.specs.declared.place.Place.{Place}
use Rattle.portal_model.specs.declared.reply.Answer.{Answer}
use Rattle.portal_model.specs.declared.reply.NodeAnswer.{NodeAnswer}
use Rattle.portal_model.specs.declared.request.NodeOp.{NodeOp}
use Rattle.portal_model.specs.declared.request.NodeRequest.{NodeRequest}
use Rattle.portal_model.specs.declared.request.Request.{Request}
use Rattle.portal_model.specs.declared.state.Connection.{Connection}
use Rattle.portal_model.specs.declared.state.Document.{Document}
use Rattle.portal_model.specs.Lawful.{Lawful}
use Rattle.portal_model.specs.Lookup.{naming_in}
use Rattle.portal_model.specs.Place.{Sight, SightBelow, place_named, sight_on}
use Rattle.portal_model.specs.SeatNames.{naming_of, number_of_naming}
use Rattle.portal_model.specs.State.{State, connection_of, document_of}
use Rattle.portal_model.specs.Step.{after, reply_at}
use Rattle.portal_model.specs.Valid.{Valid}
use Rattle.folder_laws.specs.Namings.{asks, named_by}

-- ---- what is answered

-- the name that a LOOKUP or a CREATE asks for in the folder at its node
abbrev pub name_asked : NodeOp → Option (List ℕ)
name_asked (NodeOp.Lookup name) = Some name
name_asked (NodeOp.Create name flags) = Some name
name_asked op = None

-- the node that it is answered, where it is done
abbrev pub node_answered : Answer → Option ℕ
node_answered (Answer.Node (NodeAnswer.Entry attr)) = Some attr.node
node_answered (Answer.Node (NodeAnswer.Created attr fh)) = Some attr.node
node_answered answer = None

-- The node is of kind 4, in this view, and its number is that of the child of this name among what
-- the connection has named: one that it had before, or the next.
pub record IsOwnNaming (before after : List Naming) (view : ℕ) (d : Document) (path : List ℕ)
    (name : List ℕ) (node : ℕ) : Type 0 where
  pub k : ℕ
  pub child : List ℕ
  pub joined : named_child path name ≡ Some child
  pub place : place_named node ≡ Some (Place.Named view k)
  pub number : k ≡ number_of_naming before (naming_in view d child)
  pub named : naming_of after k ≡ Some (naming_in view d child)

-- ---- what is used

-- what is seen is at the path that the connection itself has named under this number, in this view
pub record IsSeenByNaming (s : State) (namings : List Naming) (view k : ℕ) (sight : Sight)
    : Type 0 where
  pub naming : Naming
  pub document : Document
  pub may_write : Bool
  pub own : naming_of namings k ≡ Some naming
  pub in_view : naming.view ≡ view
  pub live : document_of s.documents naming.document.number ≡ Some document
  pub seen : sight ≡ SightBelow view document naming.path may_write

-- ---- the law

-- At an exported folder (a node of kind 2) and below it (one of kind 4) what a look may show is
-- `SightBelow`.
pub record NodesAreOwnNamings : Type 0 where
  pub answered :
      (s : State) (seat : ℕ) (r : NodeRequest) (given : Given) (c : Connection) (view : ℕ)
      (d : Document) (path : List ℕ) (may_write : Bool) (name : List ℕ) (node : ℕ) →
      Valid s → Lawful s (asks seat (Request.Node r) given) →
      connection_of s.connections seat ≡ Some c →
      sight_on s c r.node ≡ Some (SightBelow view d path may_write) →
      name_asked r.op ≡ Some name →
      node_answered (reply_at s (asks seat (Request.Node r) given)).answer ≡ Some node →
      IsOwnNaming (named_by s seat) (named_by (after s (asks seat (Request.Node r) given)) seat)
      view d path name node
  pub used :
      (s : State) (c : Connection) (node view k : ℕ) (sight : Sight) →
      place_named node ≡ Some (Place.Named view k) → sight_on s c node ≡ Some sight →
      IsSeenByNaming s c.namings view k sight
