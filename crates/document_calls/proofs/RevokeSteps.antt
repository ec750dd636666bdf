-- A RevokePermissions over the portal's lists is that of the sequential portal.
use Rattle.std.proofs.Common.{◌≡◌, ℕ, List, map, Bool, true, false, ◌&&◌, cond, Option, Result, IfOk, refl, sym, ap, subst, ◌∙◌}
use Rattle.portal_base.specs.declared.memory.WantOfMemory.{WantOfMemory}
use Rattle.portal_base.specs.declared.who.Who.{Who}
use Rattle.portal_model.specs.declared.records.DocRecord.{DocRecord}
use Rattle.portal_model.specs.declared.records.RecordChange.{RecordChange}
use Rattle.portal_model.specs.declared.records.RecordChange.TheVariants.{SetGrants}
use Rattle.portal_model.specs.declared.records.Records.{Records}
use Rattle.portal_model.specs.declared.reply.Answer.{Answer}
use Rattle.portal_model.specs.declared.reply.Code.{Code}
use Rattle.portal_model.specs.declared.request.Request.{Request}
use Rattle.portal_model.specs.declared.request.RightsCall.{RightsCall}
use Rattle.portal_model.specs.declared.state.Connection.{Connection}
use Rattle.portal_model.specs.declared.state.Triple.{Triple}
use Rattle.portal_model.specs.Kept.{records_of}
use Rattle.portal_model.specs.RecordChanges.{changed, records_version}
use Rattle.portal_model.specs.Revoke.{revoke}
use Rattle.portal_model.specs.Rights.{take_rights}
use Rattle.portal_model.specs.State.{State, held_of}
use Rattle.portal_model.specs.Store.{record_of}
use Rattle.portal_model.specs.Valid.{Valid}
use Rattle.portal_model.specs.Verdict.{Verdict, Refuses, does}
use Rattle.portal_model.specs.Walk.{Answers}
use Rattle.document_records.specs.Documents.{DocumentList, is_kept}
use Rattle.document_records.proofs.HeldInDocument.{records_in}
use Rattle.document_records.proofs.KeptDocuments.{IsApart, apart-taken, change-stays, grants-set, kept_records, not-kept}
use Rattle.grant_revoke.specs.declared.plan.RightsError.{RightsError}
use Rattle.grant_revoke.specs.declared.plan.RightsError.TheVariants.{NotFound, NotAllowed, InvalidArgument, Memory}
use Rattle.grant_revoke.specs.declared.plan.RightsKind.TheVariants.{Revoke}
use Rattle.grant_revoke.specs.declared.plan.RightsPlan.{RightsPlan}
use Rattle.grant_revoke.specs.Changes.{IsRefused, done_by, verdict_on}
use Rattle.grant_revoke.specs.Records.{HasRecords}
use Rattle.record_keeper.specs.Keepers.{KeeperIs}
use Rattle.document_calls.specs.Books.{IsBook, with_book}
use Rattle.document_calls.specs.Changes.{done_with, loses, refusal, regrant, shares}
use Rattle.document_calls.specs.KeeperCalls.{AppliedIf, ServesKept, fault_if}
use Rattle.document_calls.specs.Serves.{given_with}
use Rattle.document_calls.specs.declared.served.ServedCall.{ServedCall}
use Rattle.document_calls.proofs.DeleteSteps.{has-records, same-book}
use Rattle.document_calls.proofs.KeptRights.{taken-differs, taken-stays}
use Rattle.document_calls.proofs.ServedSteps.{Matches, change-follows, refused-follows}

-- ---- the records of a state whose rights in one document change

module _ (s : State) (number : ℕ) (rights : List Triple) (apart : IsApart number s.rights rights) (v : Valid s) where
  abbrev pub records_then : Records
  records_then = record { version = records_version; documents = kept_records rights s.documents; entries = map record_of s.entries }

  pub grants-change : changed (SetGrants number (records_in rights number)) (records_of s) ≡ records_then
  grants-change = λ i. record { version = records_version; documents = grants-set number s.rights rights apart s.documents v.numbers_differ i; entries = map record_of s.entries }

  pub unkept-stays : is_kept s.documents number ≡ false → records_then ≡ records_of s
  unkept-stays k = λ i. record {
    version = records_version;
    documents = (sym (grants-set number s.rights rights apart s.documents v.numbers_differ) ∙ change-stays number (λ (r : DocRecord). record r { grants = records_in rights number }) (kept_records s.rights s.documents) (not-kept number s.rights s.documents v.numbers_differ k)) i;
    entries = map record_of s.entries;
  }

-- ---- it is refused

abbrev pub Revokes : RightsCall → Who → DocumentList → List Triple → List Triple → KeeperIs → KeeperIs → ServedCall → Type 0
Revokes call who documents rights rights_after old new served =
    (s : State) (c : Connection) → IsBook s documents rights s.applications → Valid s → c.who ≡ who →
    ServesKept s c (Request.Revoke call) served.given (with_book s documents rights_after s.applications) served.answer old new

module _ (call : RightsCall) (who : Who) (documents : DocumentList) (rights : List Triple) (k : KeeperIs) where
  refuses-so : (code : Code) → ((s : State) → HasRecords s documents.live rights → revoke s who call ≡ Refuses code) →
      (s : State) (c : Connection) → IsBook s documents rights s.applications → Valid s → c.who ≡ who →
      ServesKept s c (Request.Revoke call) (given_with false (fault_if false)) (with_book s documents rights s.applications) (Answer.Refused code) k k
  refuses-so code h s c b v w =
      subst (λ (t : State). ServesKept s c (Request.Revoke call) (given_with false (fault_if false)) t (Answer.Refused code) k k) (sym (same-book s documents rights b))
      (refused-follows s c (Request.Revoke call) code k k
      (ap (λ (x : Verdict). Answers x) (ap (λ (x : Who). revoke s x call) w ∙ h s (has-records s documents rights s.applications b))) refl refl)

  by-error : (error : RightsError) → ((s : State) → HasRecords s documents.live rights → IsRefused (revoke s who call) error) → IfOk (refusal error) (Revokes call who documents rights rights k k)
  by-error NotFound h = refuses-so Code.NotFound h
  by-error NotAllowed h = refuses-so Code.NotAllowed h
  by-error InvalidArgument h = refuses-so Code.InvalidArgument h
  by-error Memory h = tt

  pub revoke-refused : (error : RightsError) (r : Result ServedCall WantOfMemory) → r ≡ refusal error → ((s : State) → HasRecords s documents.live rights → IsRefused (verdict_on Revoke s who call) error) →
      IfOk r (Revokes call who documents rights rights k k)
  revoke-refused error r e h = subst (λ (x : Result ServedCall WantOfMemory). IfOk x (Revokes call who documents rights rights k k)) (sym e) (by-error error h)

-- ---- it is done

module _ (s : State) (plan : RightsPlan) (v : Valid s) where
  abbrev left : List Triple
  left = take_rights plan.app plan.id.number plan.rights s.rights

  abbrev after : State
  after = record s { rights = left }

  apart : IsApart plan.id.number s.rights left
  apart = apart-taken plan.app plan.id.number plan.rights s.rights

  differs : (k p : Bool) → is_kept s.documents plan.id.number ≡ k → shares (held_of s.rights plan.app plan.id.number) plan.rights ≡ p → (k && p) ≡ true → records_of after ≡ records_of s → ⊥
  differs true true k p h e = taken-differs plan.app plan.id.number plan.rights s.rights s.documents k p (ap (λ (r : Records). r.documents) e)
  differs true false k p h e = cc
  differs false p kk pp h e = cc

  stays : (k p : Bool) → is_kept s.documents plan.id.number ≡ k → shares (held_of s.rights plan.app plan.id.number) plan.rights ≡ p → (k && p) ≡ false → records_of after ≡ records_of s
  stays true true k p h = cc
  stays true false k p h = ap (λ (ts : List Triple). records_of (record s { rights = ts })) (taken-stays plan.app plan.id.number plan.rights s.rights p)
  stays false p kk pp h = unkept-stays s plan.id.number left apart v kk

  by-loss : (b : Bool) → loses s.documents s.rights plan ≡ b → Matches s (does after Answer.Done) after (regrant b left plan.id)
  by-loss true e = ((refl, differs (is_kept s.documents plan.id.number) (shares (held_of s.rights plan.app plan.id.number) plan.rights) refl refl e), grants-change s plan.id.number left apart v)
  by-loss false e = λ changes. changes.1 (stays (is_kept s.documents plan.id.number) (shares (held_of s.rights plan.app plan.id.number) plan.rights) refl refl e)

after-book : (s : State) (documents : DocumentList) (rights new_rights : List Triple) (plan : RightsPlan) (failed : Bool) → IsBook s documents rights s.applications →
    new_rights ≡ cond failed rights (take_rights plan.app plan.id.number plan.rights rights) →
    cond failed s (record s { rights = take_rights plan.app plan.id.number plan.rights s.rights }) ≡ with_book s documents new_rights s.applications
after-book s documents rights new_rights plan true b r =
    sym (same-book s documents rights b) ∙ (λ i. with_book s documents (sym r i) s.applications)
after-book s documents rights new_rights plan false b r =
    (λ i. record s { documents = b.live i; made = b.made i; rights = take_rights plan.app plan.id.number plan.rights (b.held i) })
    ∙ (λ i. with_book s documents (sym r i) s.applications)

pub revoke-follows : (call : RightsCall) (who : Who) (documents : DocumentList) (rights new_rights : List Triple) (old new : KeeperIs) (plan : RightsPlan) (failed : Bool) (served : ServedCall) →
    ((s : State) → HasRecords s documents.live rights → verdict_on Revoke s who call ≡ done_by Revoke plan s) →
    AppliedIf (regrant (loses documents.live rights plan) (take_rights plan.app plan.id.number plan.rights rights) plan.id) old failed new →
    new_rights ≡ cond failed rights (take_rights plan.app plan.id.number plan.rights rights) →
    served ≡ done_with failed → Revokes call who documents rights new_rights old new served
revoke-follows call who documents rights new_rights old new plan failed served h a r e = λ s c b v w.
    let request = Request.Revoke call in
    let after : State = record s { rights = take_rights plan.app plan.id.number plan.rights s.rights } in
    let change : Option RecordChange = regrant (loses s.documents s.rights plan) (take_rights plan.app plan.id.number plan.rights s.rights) plan.id in
    let applied : AppliedIf change old failed new =
    subst (λ (x : Option RecordChange). AppliedIf x old failed new)
    (λ i. regrant (loses (sym b.live i) (sym b.held i) plan) (take_rights plan.app plan.id.number plan.rights (sym b.held i)) plan.id) a in
    let served_so : ServesKept s c request (done_with failed).given (cond failed s after) (done_with failed).answer old new =
    change-follows s c request after false refl
    (ap (λ (x : Verdict). Answers x) (ap (λ (x : Who). revoke s x call) w ∙ h s (has-records s documents rights s.applications b)))
    change old new failed (by-loss s plan v (loses s.documents s.rights plan) refl) applied in
    subst (λ (t : State). ServesKept s c request served.given t served.answer old new) (after-book s documents rights new_rights plan failed b r)
    (subst (λ (x : ServedCall). ServesKept s c request x.given (cond failed s after) x.answer old new) (sym e) served_so)
