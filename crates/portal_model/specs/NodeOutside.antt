-- What the outside may have given to a request on a node.
use Rattle.std.specs.Prelude.{◌≡◌, [], false, is_some}
use Rattle.portal_model.specs.declared.entry.Fault.{Fault}
use Rattle.portal_model.specs.declared.entry.Given.{Given}
use Rattle.portal_model.specs.declared.request.NodeRequest.{NodeRequest}
use Rattle.portal_model.specs.declared.state.Connection.{Connection}
use Rattle.portal_model.specs.Bus.{is_tree}
use Rattle.portal_model.specs.Node.{walk_on_node}
use Rattle.portal_model.specs.Outside.{files_told}
use Rattle.portal_model.specs.State.{State}
use Rattle.portal_model.specs.Walk.{Gives, GivesNames, generation_reached, reads_clock}

-- No word is drawn, no document is made, no limit of documents is met, and the keeper isn't asked,
-- since no record changes.
pub record LawfulNode (s : State) (c : Connection) (r : NodeRequest) (given : Given) : Type 0 where
  -- the tree shows what the request looks at, up to a call that fails
  pub looks : Gives (files_told s) (walk_on_node s c r) given.looks (is_tree given.fault)
  -- the clock is read where a file is changed or made
  pub clock : is_some given.now ≡ reads_clock (walk_on_node s c r) given.looks
  -- the names of a folder are given where it is listed
  pub listed :
      GivesNames (files_told s) (walk_on_node s c r) given.looks given.listed (is_tree given.fault)
  -- and the generation of the file where one is made beside the present ones
  pub generation : given.generation ≡ generation_reached (walk_on_node s c r) given.looks
  pub words : given.words ≡ []
  pub numbers : given.numbers ≡ []
  pub full : given.full ≡ false
  pub keeper : given.fault ≡ Fault.Keeper → ⊥
