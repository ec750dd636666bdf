-- Delete: a document goes, and all rights in it. Its number stays made, and open handles stay.
use Rattle.std.specs.Prelude.{ℕ, ◌==◌, List, not, Option, Some, None}
use Rattle.std.specs.List.{filter}
use Rattle.portal_base.specs.declared.who.Who.{Who}
use Rattle.portal_model.specs.declared.reply.Answer.{Answer}
use Rattle.portal_model.specs.declared.reply.Code.TheVariants as Code
use Rattle.portal_model.specs.declared.state.Document.{Document}
use Rattle.portal_model.specs.Arguments.{reached}
use Rattle.portal_model.specs.Rights.{forget_document, held_by}
use Rattle.portal_model.specs.State.{State}
use Rattle.portal_model.specs.Verdict.{Verdict, Refuses, does, unless}

abbrev pub deleted : State → ℕ → State
deleted s number = record s {
  documents = filter (λ d. not (d.id.number == number)) s.documents;
  rights = forget_document number s.rights;
}

abbrev pub delete_reached : State → Who → Option Document → Verdict
delete_reached s who None = Refuses Code.NotFound
delete_reached s who (Some d) =
    unless (not (held_by s.rights who d.id.number).delete) Code.NotAllowed
    (does (deleted s d.id.number) Answer.Done)

abbrev pub delete_document : State → Who → List ℕ → Verdict
delete_document s who doc = delete_reached s who (reached s who doc)
