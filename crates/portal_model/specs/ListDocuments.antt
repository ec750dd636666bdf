-- List: the documents in which an application has a right, or all, by identifier. The host alone
-- may ask.
use Rattle.std.specs.Prelude.{ℕ, nat_lt, List, [], map, Bool, not, ◌||◌}
use Rattle.std.specs.List.{filter}
use Rattle.portal_base.specs.Names.{is_same, is_app_name}
use Rattle.portal_base.specs.declared.who.Who.{Who}
use Rattle.rights_rule.specs.Rights.{holds_any}
use Rattle.portal_model.specs.declared.reply.Answer.{Answer}
use Rattle.portal_model.specs.declared.reply.Code.TheVariants as Code
use Rattle.portal_model.specs.declared.reply.ListedDocument.{ListedDocument}
use Rattle.portal_model.specs.declared.state.Document.{Document}
use Rattle.portal_model.specs.declared.state.Triple.{Triple}
use Rattle.portal_model.specs.Ordered.{put_all}
use Rattle.portal_model.specs.State.{State, held_of}
use Rattle.portal_model.specs.Verdict.{Verdict, Refuses, does, unless}

-- the order of identifiers is that of the numbers that they write
abbrev pub lower : Document → Document → Bool
lower d e = nat_lt d.id.number e.id.number

-- nothing names all documents
abbrev pub is_listed_for : List Triple → List ℕ → Document → Bool
is_listed_for rights app d = is_same app [] || holds_any (held_of rights app d.id.number)

abbrev pub listed : Document → ListedDocument
listed d = record { id = d.id; path = d.path }

abbrev pub documents_listed : State → List ℕ → List ListedDocument
documents_listed s app =
    map listed (put_all lower (filter (is_listed_for s.rights app) s.documents))

abbrev pub list_documents : State → Who → List ℕ → Verdict
list_documents s (Who.App caller) app = Refuses Code.NotAllowed
list_documents s Who.Host app =
    unless (not (is_same app [] || is_app_name app)) Code.InvalidArgument
    (does s (Answer.Listed (documents_listed s app)))
