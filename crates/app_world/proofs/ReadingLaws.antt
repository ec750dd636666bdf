-- Lookup, Info and List, which the host alone may call: they change nothing.
use Rattle.std.proofs.Common.{ℕ, List, [], ◌∷◌, not, ◌||◌, Option, Some, None, refl}
use Rattle.portal_base.specs.Names.{is_app_name, is_same}
use Rattle.portal_base.specs.declared.who.Who.{Who}
use Rattle.portal_model.specs.declared.reply.Answer.{Answer}
use Rattle.portal_model.specs.declared.reply.Code.TheVariants as Code
use Rattle.portal_model.specs.declared.state.Document.{Document}
use Rattle.portal_model.specs.Arguments.{ahead_of_end, document_named, is_ended_path}
use Rattle.portal_model.specs.Documents.{first_of}
use Rattle.portal_model.specs.Info.{info, info_of}
use Rattle.portal_model.specs.ListDocuments.{documents_listed, list_documents}
use Rattle.portal_model.specs.LookupDocument.{lookup_document, text_of}
use Rattle.portal_model.specs.State.{State}
use Rattle.portal_model.specs.Verdict.{does}
use Rattle.app_world.proofs.ReachedLaws.{IsTouched, touched-unless}

module _ (app : List ℕ) (s : State) where
  pub lookup-other : (who : Who) (bytes : List ℕ) → IsTouched app s [] (lookup_document s who bytes)
  lookup-other (Who.App caller) bytes = tt
  lookup-other Who.Host bytes = touched-unless app s [] (not (is_ended_path bytes)) Code.InvalidArgument (does s (Answer.Ids (text_of (first_of s.documents (ahead_of_end bytes)) ∷ []))) (refl, refl)

  info_of-other : (o : Option Document) → IsTouched app s [] (info_of s o)
  info_of-other None = tt
  info_of-other (Some d) = (refl, refl)

  pub info-other : (who : Who) (doc : List ℕ) → IsTouched app s [] (info s who doc)
  info-other (Who.App caller) doc = tt
  info-other Who.Host doc = info_of-other (document_named s.documents doc)

  pub list-other : (who : Who) (name : List ℕ) → IsTouched app s [] (list_documents s who name)
  list-other (Who.App caller) name = tt
  list-other Who.Host name = touched-unless app s [] (not (is_same name [] || is_app_name name)) Code.InvalidArgument (does s (Answer.Listed (documents_listed s name))) (refl, refl)
