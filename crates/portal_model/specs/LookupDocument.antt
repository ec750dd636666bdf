-- Lookup: the document of a path. The host alone may ask.
use Rattle.std.specs.Prelude.{ℕ, List, [], ◌∷◌, not, Option, Some, None}
use Rattle.portal_base.specs.Names.{doc_text}
use Rattle.portal_base.specs.declared.names.doc_id.DocId.{DocId}
use Rattle.portal_base.specs.declared.who.Who.{Who}
use Rattle.portal_model.specs.declared.reply.Answer.{Answer}
use Rattle.portal_model.specs.declared.reply.Code.TheVariants as Code
use Rattle.portal_model.specs.Arguments.{ahead_of_end, is_ended_path}
use Rattle.portal_model.specs.Documents.{first_of}
use Rattle.portal_model.specs.State.{State}
use Rattle.portal_model.specs.Verdict.{Verdict, Refuses, does, unless}

-- the identifier of a document, or the empty text
abbrev pub text_of : Option DocId → List ℕ
text_of None = []
text_of (Some id) = doc_text id.number

abbrev pub lookup_document : State → Who → List ℕ → Verdict
lookup_document s (Who.App app) bytes = Refuses Code.NotAllowed
lookup_document s Who.Host bytes =
    unless (not (is_ended_path bytes)) Code.InvalidArgument
    (does s (Answer.Ids (text_of (first_of s.documents (ahead_of_end bytes)) ∷ [])))
