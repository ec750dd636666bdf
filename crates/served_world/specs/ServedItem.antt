-- An item of the trace of one application over any tree of files. Beside its own requests it tells
-- what others change of its documents and of its rights, and nothing of files.
use Rattle.std.specs.Prelude.{List, [], ◌∷◌}
use Rattle.portal_base.specs.declared.names.doc_id.DocId.{DocId}
use Rattle.rights_rule.specs.Rights.{RightSet}
use Rattle.portal_model.specs.declared.state.Document.{Document}
use Rattle.app_world.specs.Effect as effect
use Rattle.app_world.specs.Effect.{Effect}
use Rattle.app_world.specs.View.{AppView}
use Rattle.served_world.specs.ServedOwn.{ServedOwn}

pub data ServedItem : Type 0 where
  -- a request of the application, and what the outside gave to it
  Own : ServedOwn → ServedItem
  -- rights in a document, which joins the view where it was not there
  Gained : Document → RightSet → ServedItem
  -- rights in a document are taken away
  Lost : DocId → RightSet → ServedItem
  -- a document is deleted
  Gone : DocId → ServedItem

-- what tells an effect: that a file has another content, or becomes the present one, is told by
-- nothing
abbrev pub items_of_effect : Effect → List ServedItem
items_of_effect (effect.Gained d rights holding) = Gained d rights ∷ []
items_of_effect (effect.Lost id rights) = Lost id rights ∷ []
items_of_effect (effect.Gone id) = Gone id ∷ []
items_of_effect (effect.Bytes path generation content) = []
items_of_effect (effect.Turned path generation content) = []

-- a view without what the tree has
abbrev pub bare : AppView → AppView
bare v = record v { contents = []; below = []; files = [] }
