-- What the calls that change nothing are answered, over the lists that they are answered from.
use Rattle.std.specs.Prelude.{ℕ, nat_lt, List, [], ◌∷◌, map, Bool, ◌||◌, cond, Option, Some, None}
use Rattle.std.specs.List.{filter}
use Rattle.portal_base.specs.Names.{is_app_name, is_same}
use Rattle.portal_base.specs.declared.names.doc_id.DocId.{DocId}
use Rattle.portal_base.specs.declared.who.Who.{Who}
use Rattle.portal_model.specs.declared.reply.Answer.{Answer}
use Rattle.portal_model.specs.declared.reply.Code.TheVariants as Code
use Rattle.portal_model.specs.declared.reply.ListedDocument.{ListedDocument}
use Rattle.portal_model.specs.declared.state.Document.{Document}
use Rattle.portal_model.specs.declared.state.Triple.{Triple}
use Rattle.portal_model.specs.Arguments.{document_named}
use Rattle.portal_model.specs.Documents.{first_of}
use Rattle.portal_model.specs.Info.{holders, row_of}
use Rattle.portal_model.specs.ListDocuments.{is_listed_for, listed, lower}
use Rattle.portal_model.specs.LookupDocument.{text_of}
use Rattle.portal_model.specs.Ordered.{put_all}
use Rattle.portal_model.specs.State.{document_of, held_of}
use Rattle.rights_rule.specs.Rights.{holds_any}
use Rattle.document_calls.specs.Arguments.{path_if_ended}

-- ---- Lookup

abbrev pub found_path : List Document → Option (List ℕ) → Answer
found_path documents None = Answer.Refused Code.InvalidArgument
found_path documents (Some path) = Answer.Ids (text_of (first_of documents path) ∷ [])

abbrev pub looked_up : List Document → Who → List ℕ → Answer
looked_up documents (Who.App app) bytes = Answer.Refused Code.NotAllowed
looked_up documents Who.Host bytes = found_path documents (path_if_ended bytes)

-- ---- Info

abbrev pub told_of : List Triple → Option Document → Answer
told_of rights None = Answer.Refused Code.NotFound
told_of rights (Some d) =
    Answer.Info d.path (map (row_of rights d.id.number) (holders rights d.id.number))

abbrev pub informed : List Document → List Triple → Who → List ℕ → Answer
informed documents rights (Who.App app) doc = Answer.Refused Code.NotAllowed
informed documents rights Who.Host doc = told_of rights (document_named documents doc)

-- ---- List

abbrev pub may_be_listed : List ℕ → Bool
may_be_listed app = is_same app [] || is_app_name app

-- these documents, by identifier
abbrev pub all_listed : List Document → List ListedDocument
all_listed documents = map listed (put_all lower documents)

abbrev pub listed_for : List Document → List Triple → List ℕ → List ListedDocument
listed_for documents rights app = all_listed (filter (is_listed_for rights app) documents)

abbrev pub listing : List Document → List Triple → Who → List ℕ → Answer
listing documents rights (Who.App caller) app = Answer.Refused Code.NotAllowed
listing documents rights Who.Host app =
    cond (may_be_listed app) (Answer.Listed (listed_for documents rights app))
    (Answer.Refused Code.InvalidArgument)

-- those in which an application has a right, by identifier
abbrev pub held_listed : List Document → List Triple → List ℕ → List ListedDocument
held_listed documents rights app =
    all_listed (filter (λ d. holds_any (held_of rights app d.id.number)) documents)

-- the document of a number, where it is live
abbrev pub listed_if : Option Document → List ListedDocument
listed_if None = []
listed_if (Some d) = listed d ∷ []

abbrev pub listed_found : List Document → DocId → List ListedDocument
listed_found documents id = listed_if (document_of documents id.number)

-- ---- their order

abbrev pub number_listed : ListedDocument → ℕ
number_listed d = d.id.number

abbrev pub lower_listed : ListedDocument → ListedDocument → Bool
lower_listed d e = nat_lt (number_listed d) (number_listed e)
