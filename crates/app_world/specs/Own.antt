-- A request of the application, and what the outside gave it.
use Rattle.std.specs.Prelude.{ℕ, List, Bool, Option}
use Rattle.portal_base.specs.declared.names.doc_id.DocId.{DocId}
use Rattle.portal_model.specs.declared.entry.Fault.{Fault}
use Rattle.portal_model.specs.declared.request.Request.{Request}
use Rattle.app_world.specs.View.{Holding}

pub record Own : Type 0 where
  pub seat : ℕ
  pub request : Request
  pub now : Option ℕ
  pub numbers : List DocId
  -- Of an Add: what there is at each path that the tree was asked for; and where the call uses
  -- documents again, of each file that isn't left out the one that was there for it, if any.
  pub shown : List Holding
  pub reused : List (Option DocId)
  -- how many looks succeeded
  pub looks : ℕ
  pub full : Bool
  pub fault : Fault
  -- the generation of a file that was made to be renamed later
  pub generation : Option ℕ
