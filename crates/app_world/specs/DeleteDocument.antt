-- Delete, in the view of the application that asks; and what it changes of another's.
use Rattle.std.specs.Prelude.{ℕ, List, [], ◌∷◌, not, Option, Some, None, cond}
use Rattle.rights_rule.specs.Rights.{holds_any}
use Rattle.portal_model.specs.declared.reply.Answer.{Answer}
use Rattle.portal_model.specs.declared.reply.Code.TheVariants as Code
use Rattle.portal_model.specs.declared.state.Document.{Document}
use Rattle.portal_model.specs.Arguments.{document_named}
use Rattle.portal_model.specs.State.{State, held_of}
use Rattle.app_world.specs.Effect.{Effect, Gone, apply}
use Rattle.app_world.specs.OwnVerdict.{OwnVerdict, OwnDoes, OwnRefuses, own_reached, own_unless}
use Rattle.app_world.specs.View.{AppView, HeldDocument}

abbrev pub own_delete_reached : AppView → Option HeldDocument → OwnVerdict
own_delete_reached v None = OwnRefuses Code.NotFound
own_delete_reached v (Some d) =
    own_unless (not d.rights.delete) Code.NotAllowed
    (OwnDoes (apply v (Gone d.document.id)) Answer.Done)

abbrev pub own_delete_document : AppView → List ℕ → OwnVerdict
own_delete_document v doc = own_delete_reached v (own_reached v doc)

-- ---- what is touched

abbrev pub deleted_from : List ℕ → State → Option Document → List Effect
deleted_from app s None = []
deleted_from app s (Some d) =
    cond (holds_any (held_of s.rights app d.id.number)) (Gone d.id ∷ []) []

-- where it is done: the document, if the application has a right in it
abbrev pub delete_touch : List ℕ → State → List ℕ → List Effect
delete_touch app s doc = deleted_from app s (document_named s.documents doc)
