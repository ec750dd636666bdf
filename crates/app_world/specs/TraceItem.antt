-- An item of the trace of one application.
use Rattle.std.specs.Prelude.{ℕ, List}
use Rattle.portal_base.specs.declared.names.doc_id.DocId.{DocId}
use Rattle.rights_rule.specs.Rights.{RightSet}
use Rattle.portal_model.specs.declared.state.Document.{Document}
use Rattle.portal_model.specs.Content.{Content}
use Rattle.app_world.specs.Effect as effect
use Rattle.app_world.specs.Effect.{Effect}
use Rattle.app_world.specs.Own.{Own as OwnRequest}
use Rattle.app_world.specs.View.{Holding}

pub data TraceItem : Type 0 where
  -- a request of the application, and what the outside gave it
  Own : OwnRequest → TraceItem
  -- what others change of its view, as `Effect` says
  Gained : Document → RightSet → Holding → TraceItem
  Lost : DocId → RightSet → TraceItem
  Gone : DocId → TraceItem
  Bytes : List ℕ → ℕ → Content → TraceItem
  Turned : List ℕ → ℕ → Content → TraceItem

-- the item that tells an effect
abbrev pub item_of : Effect → TraceItem
item_of (effect.Gained d rights holding) = Gained d rights holding
item_of (effect.Lost id rights) = Lost id rights
item_of (effect.Gone id) = Gone id
item_of (effect.Bytes path generation content) = Bytes path generation content
item_of (effect.Turned path generation content) = Turned path generation content
