-- The answers of the calls that change nothing are those of the sequential portal.
use Rattle.std.proofs.Common.{◌≡◌, ℕ, List, [], ◌∷◌, Bool, true, false, not, cond, Option, Some, None, refl, sym, ap, ◌∙◌}
use Rattle.portal_base.specs.declared.who.Who.{Who}
use Rattle.portal_model.specs.declared.entry.Fault.{Fault}
use Rattle.portal_model.specs.declared.reply.Answer.{Answer}
use Rattle.portal_model.specs.declared.reply.Code.TheVariants as Code
use Rattle.portal_model.specs.declared.request.Request.{Request}
use Rattle.portal_model.specs.declared.state.Connection.{Connection}
use Rattle.portal_model.specs.declared.state.Document.{Document}
use Rattle.portal_model.specs.declared.state.Triple.{Triple}
use Rattle.portal_model.specs.Arguments.{ahead_of_end, document_named, is_ended_path}
use Rattle.portal_model.specs.Documents.{first_of}
use Rattle.portal_model.specs.Info.{info, info_of}
use Rattle.portal_model.specs.ListDocuments.{documents_listed, list_documents}
use Rattle.portal_model.specs.LookupDocument.{lookup_document, text_of}
use Rattle.portal_model.specs.State.{State}
use Rattle.portal_model.specs.Verdict.{Verdict, does, unless}
use Rattle.portal_model.specs.Walk.{Answers}
use Rattle.document_calls.specs.Answers.{found_path, informed, listed_for, listing, looked_up, may_be_listed, told_of}
use Rattle.document_calls.specs.Serves.{Serves, given_with}
use Rattle.document_calls.proofs.ServedSteps.{read_verdict, read-serves}

-- ---- Lookup

found-is : (s : State) (path : List ℕ) (b : Bool) → unless (not b) Code.InvalidArgument (does s (Answer.Ids (text_of (first_of s.documents path) ∷ []))) ≡ read_verdict s (found_path s.documents (cond b (Some path) None))
found-is s path true = refl
found-is s path false = refl

lookup-is : (s : State) (who : Who) (bytes : List ℕ) → lookup_document s who bytes ≡ read_verdict s (looked_up s.documents who bytes)
lookup-is s (Who.App app) bytes = refl
lookup-is s Who.Host bytes = found-is s (ahead_of_end bytes) (is_ended_path bytes)

pub lookup-serves : (documents : List Document) (who : Who) (bytes : List ℕ) (answer : Answer) → answer ≡ looked_up documents who bytes → (s : State) (c : Connection) → s.documents ≡ documents → c.who ≡ who →
    Serves s c (Request.LookupDocument bytes) (given_with false Fault.None) s answer
lookup-serves documents who bytes answer a s c d w =
    let same : looked_up s.documents c.who bytes ≡ answer = (λ i. looked_up (d i) (w i) bytes) ∙ sym a in
    read-serves s c (Request.LookupDocument bytes) answer (ap (λ (v : Verdict). Answers v) (lookup-is s c.who bytes ∙ ap (read_verdict s) same)) refl

-- ---- Info

told-is : (s : State) (o : Option Document) → info_of s o ≡ read_verdict s (told_of s.rights o)
told-is s None = refl
told-is s (Some d) = refl

info-is : (s : State) (who : Who) (doc : List ℕ) → info s who doc ≡ read_verdict s (informed s.documents s.rights who doc)
info-is s (Who.App app) doc = refl
info-is s Who.Host doc = told-is s (document_named s.documents doc)

pub info-serves : (documents : List Document) (rights : List Triple) (who : Who) (doc : List ℕ) (answer : Answer) → answer ≡ informed documents rights who doc →
    (s : State) (c : Connection) → s.documents ≡ documents → s.rights ≡ rights → c.who ≡ who → Serves s c (Request.Info doc) (given_with false Fault.None) s answer
info-serves documents rights who doc answer a s c d r w =
    let same : informed s.documents s.rights c.who doc ≡ answer = (λ i. informed (d i) (r i) (w i) doc) ∙ sym a in
    read-serves s c (Request.Info doc) answer (ap (λ (v : Verdict). Answers v) (info-is s c.who doc ∙ ap (read_verdict s) same)) refl

-- ---- List

list-is : (s : State) (app : List ℕ) (b : Bool) → unless (not b) Code.InvalidArgument (does s (Answer.Listed (documents_listed s app)))
    ≡ read_verdict s (cond b (Answer.Listed (listed_for s.documents s.rights app)) (Answer.Refused Code.InvalidArgument))
list-is s app true = refl
list-is s app false = refl

listing-is : (s : State) (who : Who) (app : List ℕ) → list_documents s who app ≡ read_verdict s (listing s.documents s.rights who app)
listing-is s (Who.App caller) app = refl
listing-is s Who.Host app = list-is s app (may_be_listed app)

pub listing-serves : (documents : List Document) (rights : List Triple) (who : Who) (app : List ℕ) (answer : Answer) → answer ≡ listing documents rights who app →
    (s : State) (c : Connection) → s.documents ≡ documents → s.rights ≡ rights → c.who ≡ who → Serves s c (Request.ListDocuments app) (given_with false Fault.None) s answer
listing-serves documents rights who app answer a s c d r w =
    let same : listing s.documents s.rights c.who app ≡ answer = (λ i. listing (d i) (r i) (w i) app) ∙ sym a in
    read-serves s c (Request.ListDocuments app) answer (ap (λ (v : Verdict). Answers v) (listing-is s c.who app ∙ ap (read_verdict s) same)) refl
