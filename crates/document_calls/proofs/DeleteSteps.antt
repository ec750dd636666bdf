-- A Delete over the portal's lists is that of the sequential portal.
use Rattle.std.proofs.Common.{◌≡◌, ℕ, ◌==◌, List, map, Bool, true, false, not, cond, Some, None, Result, IfOk, refl, sym, ap, subst, ◌∙◌}
use Rattle.std.specs.List.{filter, list_any}
use Rattle.portal_base.specs.declared.memory.WantOfMemory.{WantOfMemory}
use Rattle.portal_base.specs.declared.names.doc_id.DocId.{DocId}
use Rattle.portal_base.specs.declared.who.Who.{Who}
use Rattle.portal_model.specs.declared.records.RecordChange.TheVariants.{RemoveDocument}
use Rattle.portal_model.specs.declared.records.Records.{Records}
use Rattle.portal_model.specs.declared.reply.Answer.{Answer}
use Rattle.portal_model.specs.declared.reply.Code.TheVariants as Code
use Rattle.portal_model.specs.declared.request.Request.{Request}
use Rattle.portal_model.specs.declared.state.Connection.{Connection}
use Rattle.portal_model.specs.declared.state.Document.{Document}
use Rattle.portal_model.specs.declared.state.Triple.{Triple}
use Rattle.portal_model.specs.DeleteDocument.{delete_document, deleted}
use Rattle.portal_model.specs.Kept.{records_of}
use Rattle.portal_model.specs.RecordChanges.{is_numbered, is_other_number, records_version}
use Rattle.portal_model.specs.Rights.{forget_document}
use Rattle.portal_model.specs.State.{State}
use Rattle.portal_model.specs.Store.{record_of}
use Rattle.portal_model.specs.Valid.{Valid}
use Rattle.portal_model.specs.Verdict.{Verdict, does}
use Rattle.portal_model.specs.Walk.{Answers}
use Rattle.document_records.specs.Documents.{DocumentList, is_kept, without_document}
use Rattle.document_records.proofs.KeptDocuments.{apart-forgotten, document-removed, filter-stays, kept-there, kept_records, none-numbered, not-kept}
use Rattle.grant_revoke.specs.declared.plan.RightsError.{RightsError}
use Rattle.grant_revoke.specs.declared.plan.RightsError.TheVariants.{NotFound, NotAllowed, InvalidArgument, Memory}
use Rattle.grant_revoke.specs.Changes.{IsDeleteRefused, delete_done_by}
use Rattle.grant_revoke.specs.Records.{HasRecords}
use Rattle.record_keeper.specs.Keepers.{KeeperIs}
use Rattle.document_calls.specs.Books.{IsBook, with_book}
use Rattle.document_calls.specs.Changes.{done_with, refusal, removal}
use Rattle.document_calls.specs.KeeperCalls.{AppliedIf, ServesKept, fault_if}
use Rattle.document_calls.specs.Serves.{given_with}
use Rattle.document_calls.specs.declared.served.ServedCall.{ServedCall}
use Rattle.document_calls.proofs.ServedSteps.{Matches, change-follows, refused-follows}

-- ---- the lists of the state

pub same-book : (s : State) (documents : DocumentList) (rights : List Triple) → IsBook s documents rights s.applications → with_book s documents rights s.applications ≡ s
same-book s documents rights b = λ i. record s { documents = sym b.live i; made = sym b.made i; rights = sym b.held i }

pub has-records : (s : State) (documents : DocumentList) (rights : List Triple) (applications : List (List ℕ)) → IsBook s documents rights applications → HasRecords s documents.live rights
has-records s documents rights applications b = record { live = b.live; held = b.held }

-- ---- it is refused

abbrev pub Deletes : List ℕ → Who → DocumentList → List Triple → DocumentList → List Triple → KeeperIs → KeeperIs → ServedCall → Type 0
Deletes doc who documents rights documents_after rights_after old new served =
    (s : State) (c : Connection) → IsBook s documents rights s.applications → Valid s → c.who ≡ who →
    ServesKept s c (Request.DeleteDocument doc) served.given (with_book s documents_after rights_after s.applications) served.answer old new

module _ (doc : List ℕ) (who : Who) (documents : DocumentList) (rights : List Triple) (k : KeeperIs) where
  by-error : (error : RightsError) → ((s : State) → HasRecords s documents.live rights → IsDeleteRefused (delete_document s who doc) error) → IfOk (refusal error) (Deletes doc who documents rights documents rights k k)
  by-error NotFound h = λ s c b v w.
      subst (λ (t : State). ServesKept s c (Request.DeleteDocument doc) (given_with false (fault_if false)) t (Answer.Refused Code.NotFound) k k) (sym (same-book s documents rights b))
      (refused-follows s c (Request.DeleteDocument doc) Code.NotFound k k
      (ap (λ (x : Verdict). Answers x) (ap (λ (x : Who). delete_document s x doc) w ∙ h s (has-records s documents rights s.applications b))) refl refl)
  by-error NotAllowed h = λ s c b v w.
      subst (λ (t : State). ServesKept s c (Request.DeleteDocument doc) (given_with false (fault_if false)) t (Answer.Refused Code.NotAllowed) k k) (sym (same-book s documents rights b))
      (refused-follows s c (Request.DeleteDocument doc) Code.NotAllowed k k
      (ap (λ (x : Verdict). Answers x) (ap (λ (x : Who). delete_document s x doc) w ∙ h s (has-records s documents rights s.applications b))) refl refl)
  by-error InvalidArgument h = λ s c b v w. absurd (h s (has-records s documents rights s.applications b))
  by-error Memory h = tt

  pub delete-refused : (error : RightsError) (r : Result ServedCall WantOfMemory) → r ≡ refusal error → ((s : State) → HasRecords s documents.live rights → IsDeleteRefused (delete_document s who doc) error) →
      IfOk r (Deletes doc who documents rights documents rights k k)
  delete-refused error r e h = subst (λ (x : Result ServedCall WantOfMemory). IfOk x (Deletes doc who documents rights documents rights k k)) (sym e) (by-error error h)

-- ---- it is done

module _ (s : State) (number : ℕ) (v : Valid s) where
  abbrev after : State
  after = deleted s number

  removed : filter (is_other_number number) (kept_records s.rights s.documents) ≡ kept_records (forget_document number s.rights) (filter (λ (d : Document). not (d.id.number == number)) s.documents)
  removed = document-removed number s.rights (forget_document number s.rights) (apart-forgotten number s.rights) s.documents

  differs : is_kept s.documents number ≡ true → records_of after ≡ records_of s → ⊥
  differs k e =
      let there : list_any (is_numbered number) (kept_records s.rights s.documents) ≡ true = kept-there number s.rights s.documents k in
      let gone : list_any (is_numbered number) (kept_records s.rights s.documents) ≡ false =
      ap (λ (r : Records). list_any (is_numbered number) r.documents) (sym e)
      ∙ (ap (list_any (is_numbered number)) (sym removed) ∙ none-numbered number (kept_records s.rights s.documents)) in
      let no : true ≡ false = sym there ∙ gone in
      cc

  stays : is_kept s.documents number ≡ false → records_of after ≡ records_of s
  stays k =
      let same : kept_records (forget_document number s.rights) (filter (λ (d : Document). not (d.id.number == number)) s.documents) ≡ kept_records s.rights s.documents =
      sym removed ∙ filter-stays (is_other_number number) (kept_records s.rights s.documents) (not-kept number s.rights s.documents v.numbers_differ k) in
      λ i. record { version = records_version; documents = same i; entries = map record_of s.entries }

  by-kept : (b : Bool) → is_kept s.documents number ≡ b → Matches s (does after Answer.Done) after (cond b (Some (RemoveDocument number)) None)
  by-kept true k = ((refl, differs k), λ i. record { version = records_version; documents = removed i; entries = map record_of s.entries })
  by-kept false k = λ changes. changes.1 (stays k)

after-book : (s : State) (documents new_documents : DocumentList) (rights new_rights : List Triple) (number : ℕ) (failed : Bool) → IsBook s documents rights s.applications →
    new_documents ≡ cond failed documents (without_document documents number) → new_rights ≡ cond failed rights (forget_document number rights) →
    cond failed s (deleted s number) ≡ with_book s new_documents new_rights s.applications
after-book s documents new_documents rights new_rights number true b d r =
    sym (same-book s documents rights b) ∙ (λ i. with_book s (sym d i) (sym r i) s.applications)
after-book s documents new_documents rights new_rights number false b d r =
    (λ i. record s { documents = filter (λ (e : Document). not (e.id.number == number)) (b.live i); made = b.made i; rights = forget_document number (b.held i) })
    ∙ (λ i. with_book s (sym d i) (sym r i) s.applications)

pub delete-follows : (doc : List ℕ) (who : Who) (documents new_documents : DocumentList) (rights new_rights : List Triple) (old new : KeeperIs) (id : DocId) (failed : Bool) (served : ServedCall) →
    ((s : State) → HasRecords s documents.live rights → delete_document s who doc ≡ delete_done_by id s) →
    AppliedIf (removal documents.live id) old failed new → new_documents ≡ cond failed documents (without_document documents id.number) → new_rights ≡ cond failed rights (forget_document id.number rights) →
    served ≡ done_with failed → Deletes doc who documents rights new_documents new_rights old new served
delete-follows doc who documents new_documents rights new_rights old new id failed served h a d r e = λ s c b v w.
    let request = Request.DeleteDocument doc in
    let after = deleted s id.number in
    let matches : Matches s (does after Answer.Done) after (removal documents.live id) =
    subst (λ (ds : List Document). Matches s (does after Answer.Done) after (removal ds id)) b.live (by-kept s id.number v (is_kept s.documents id.number) refl) in
    let served_so : ServesKept s c request (done_with failed).given (cond failed s after) (done_with failed).answer old new =
    change-follows s c request after false refl
    (ap (λ (x : Verdict). Answers x) (ap (λ (x : Who). delete_document s x doc) w ∙ h s (has-records s documents rights s.applications b)))
    (removal documents.live id) old new failed matches a in
    subst (λ (t : State). ServesKept s c request served.given t served.answer old new) (after-book s documents new_documents rights new_rights id.number failed b d r)
    (subst (λ (x : ServedCall). ServesKept s c request x.given (cond failed s after) x.answer old new) (sym e) served_so)
