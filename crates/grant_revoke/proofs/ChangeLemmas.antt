-- A plan, or a refusal, over the records is that of the sequential portal.
use Rattle.std.proofs.Common.{◌≡◌, ℕ, ◌==◌, List, [], ◌∷◌, Bool, true, false, not, ◌&&◌, cond, Option, Some, None, Result, Ok, Err, IfOk, IfErr, refl, sym, ap, subst, ◌∙◌}
use Rattle.std.specs.Option.{option_map}
use Rattle.portal_base.specs.DocIds.{doc_id_of}
use Rattle.portal_base.specs.Names.{is_app_name, is_doc_id, hex_number}
use Rattle.portal_base.specs.declared.names.doc_id.DocId.{DocId}
use Rattle.portal_base.specs.declared.who.Who.{Who}
use Rattle.rights_rule.specs.Rights.{RightSet, are_right_names, rights_named, holds_any}
use Rattle.portal_model.specs.declared.reply.Answer.{Answer}
use Rattle.portal_model.specs.declared.reply.Code.TheVariants as Code
use Rattle.portal_model.specs.declared.request.RightsCall.{RightsCall}
use Rattle.portal_model.specs.declared.state.Document.{Document}
use Rattle.portal_model.specs.declared.state.Triple.{Triple}
use Rattle.portal_model.specs.Arguments.{document_named, if_reached, reached}
use Rattle.portal_model.specs.Grant.{are_rights_arguments, grant_reached, granted}
use Rattle.portal_model.specs.Revoke.{names_itself, revoke_reached, revoked}
use Rattle.portal_model.specs.Rights.{held_by}
use Rattle.portal_model.specs.State.{State, document_of}
use Rattle.portal_model.specs.Verdict.{Verdict, Refuses, does, unless}
use Rattle.portal_model.proofs.TripleOrder.{nat_is}
use Rattle.grant_revoke.specs.declared.plan.RightsError.{RightsError}
use Rattle.grant_revoke.specs.declared.plan.RightsError.TheVariants.{NotAllowed}
use Rattle.grant_revoke.specs.declared.plan.RightsKind.{RightsKind}
use Rattle.grant_revoke.specs.declared.plan.RightsKind.TheVariants.{Grant, Revoke}
use Rattle.grant_revoke.specs.declared.plan.RightsPlan.{RightsPlan}
use Rattle.grant_revoke.specs.Changes.{verdict_on, done_by, IsOfCall, IsRefused, may_change, planned, planned_delete}
use Rattle.grant_revoke.specs.Records.{HasRecords, reached_as, reached_in}

-- ---- the document that is told is that of the identifier

number-found : (documents : List Document) (n : ℕ) (d : Document) → document_of documents n ≡ Some d → d.id.number ≡ n
number-found [] n d e = cc
number-found (x ∷ xs) n d e = by-test (x.id.number == n) refl (number-found xs n d) e
  where
    by-test : (b : Bool) → (x.id.number == n) ≡ b → (document_of xs n ≡ Some d → d.id.number ≡ n) → cond b (Some x) (document_of xs n) ≡ Some d → d.id.number ≡ n
    by-test true k more e = let same : x ≡ d = cc in ap (λ (y : Document). y.id.number) (sym same) ∙ nat_is x.id.number n k
    by-test false k more e = more e

id-named : (documents : List Document) (doc : List ℕ) (d : Document) → document_named documents doc ≡ Some d → doc_id_of doc ≡ Some d.id
unfolding doc_id_of
id-named documents doc d e = by-test (is_doc_id doc) e
  where
    by-test : (b : Bool) → cond b (document_of documents (hex_number doc)) None ≡ Some d → cond b (Some (record { number = hex_number doc })) None ≡ Some d.id
    by-test true e = λ i. Some (record { number = sym (number-found documents (hex_number doc) d e) i })
    by-test false e = cc

document-reached : (rights : List Triple) (who : Who) (o : Option Document) (d : Document) → if_reached rights who o ≡ Some d → o ≡ Some d
document-reached rights who None d e = cc
document-reached rights who (Some x) d e = by-test (holds_any (held_by rights who x.id.number)) e
  where
    by-test : (b : Bool) → cond b (Some x) None ≡ Some d → Some x ≡ Some d
    by-test true e = e
    by-test false e = cc

id-reached : (documents : List Document) (rights : List Triple) (who : Who) (doc : List ℕ) (d : Document) → if_reached rights who (document_named documents doc) ≡ Some d → doc_id_of doc ≡ Some d.id
id-reached documents rights who doc d e = id-named documents doc d (document-reached rights who (document_named documents doc) d e)

-- ---- Delete

pub delete-id : (documents : List Document) (rights : List Triple) (who : Who) (doc : List ℕ) (r : Result DocId RightsError) →
    r ≡ planned_delete (reached_in documents rights who doc) → IfOk r (λ id. doc_id_of doc ≡ Some id)
delete-id documents rights who doc r e =
    subst (λ (x : Result DocId RightsError). IfOk x (λ id. doc_id_of doc ≡ Some id)) (sym e)
    (by-document (if_reached rights who (document_named documents doc)) refl)
  where
    by-right : (d : Document) (b : Bool) → doc_id_of doc ≡ Some d.id → IfOk {E = RightsError} (cond b (Ok d.id) (Err NotAllowed)) (λ id. doc_id_of doc ≡ Some id)
    by-right d true k = k
    by-right d false k = tt

    by-document : (o : Option Document) → if_reached rights who (document_named documents doc) ≡ o →
        IfOk (planned_delete (option_map (reached_as rights who) o)) (λ id. doc_id_of doc ≡ Some id)
    by-document None k = tt
    by-document (Some d) k = by-right d (held_by rights who d.id.number).delete (id-reached documents rights who doc d k)

-- ---- grant and revoke

abbrev pub plan_in : RightsCall → Document → RightsPlan
plan_in call d = record { id = d.id; app = call.app; rights = rights_named call.names }

-- by the document that is reached
abbrev pub verdict_reached : RightsKind → State → Who → RightsCall → Option Document → Verdict
verdict_reached Grant s who call o = grant_reached s who call o
verdict_reached Revoke s who call o = revoke_reached s who call o

abbrev pub may_in : RightsKind → State → Who → RightsCall → Document → Bool
may_in kind s who call d = may_change kind (held_by s.rights who d.id.number) (rights_named call.names) (names_itself who call.app)

with-arguments : (kind : RightsKind) (s : State) (who : Who) (call : RightsCall) → are_rights_arguments call ≡ true → verdict_on kind s who call ≡ verdict_reached kind s who call (reached s who call.doc)
with-arguments Grant s who call e = ap (λ (b : Bool). unless (not b) Code.InvalidArgument (grant_reached s who call (reached s who call.doc))) e
with-arguments Revoke s who call e = ap (λ (b : Bool). unless (not b) Code.InvalidArgument (revoke_reached s who call (reached s who call.doc))) e

pub without-arguments : (kind : RightsKind) (s : State) (who : Who) (call : RightsCall) → are_rights_arguments call ≡ false → verdict_on kind s who call ≡ Refuses Code.InvalidArgument
without-arguments Grant s who call e = ap (λ (b : Bool). unless (not b) Code.InvalidArgument (grant_reached s who call (reached s who call.doc))) e
without-arguments Revoke s who call e = ap (λ (b : Bool). unless (not b) Code.InvalidArgument (revoke_reached s who call (reached s who call.doc))) e

allowed-in : (kind : RightsKind) (s : State) (who : Who) (call : RightsCall) (d : Document) → may_in kind s who call d ≡ true → verdict_reached kind s who call (Some d) ≡ done_by kind (plan_in call d) s
allowed-in Grant s who call d e = ap (λ (b : Bool). unless (not b) Code.NotAllowed (granted s call d)) e
allowed-in Revoke s who call d e = ap (λ (b : Bool). unless (not b) Code.NotAllowed (does (revoked s call d) Answer.Done)) e

refused-in : (kind : RightsKind) (s : State) (who : Who) (call : RightsCall) (d : Document) → may_in kind s who call d ≡ false → verdict_reached kind s who call (Some d) ≡ Refuses Code.NotAllowed
refused-in Grant s who call d e = ap (λ (b : Bool). unless (not b) Code.NotAllowed (granted s call d)) e
refused-in Revoke s who call d e = ap (λ (b : Bool). unless (not b) Code.NotAllowed (does (revoked s call d) Answer.Done)) e

none-in : (kind : RightsKind) (s : State) (who : Who) (call : RightsCall) → verdict_reached kind s who call None ≡ Refuses Code.NotFound
none-in Grant s who call = refl
none-in Revoke s who call = refl

-- the plan, as far as the call tells it
abbrev pub plan_of : RightsKind → List Document → List Triple → Who → RightsCall → Result RightsPlan RightsError
plan_of kind documents rights who call = planned kind call.app (rights_named call.names) (names_itself who call.app) (reached_in documents rights who call.doc)

pub plan-is-of-call : (kind : RightsKind) (documents : List Document) (rights : List Triple) (who : Who) (call : RightsCall) → IfOk (plan_of kind documents rights who call) (IsOfCall call)
plan-is-of-call kind documents rights who call = by-document (if_reached rights who (document_named documents call.doc)) refl
  where
    by-right : (d : Document) (b : Bool) → doc_id_of call.doc ≡ Some d.id → IfOk {E = RightsError} (cond b (Ok (plan_in call d)) (Err NotAllowed)) (IsOfCall call)
    by-right d true k = record { document = k; app = refl; rights = refl }
    by-right d false k = tt

    by-document : (o : Option Document) → if_reached rights who (document_named documents call.doc) ≡ o →
        IfOk (planned kind call.app (rights_named call.names) (names_itself who call.app) (option_map (reached_as rights who) o)) (IsOfCall call)
    by-document None k = tt
    by-document (Some d) k = by-right d (may_change kind (held_by rights who d.id.number) (rights_named call.names) (names_itself who call.app)) (id-reached documents rights who call.doc d k)

module _ (kind : RightsKind) (s : State) (who : Who) (call : RightsCall) (sound : are_rights_arguments call ≡ true) where
  verdict-of : (o : Option Document) → reached s who call.doc ≡ o → verdict_on kind s who call ≡ verdict_reached kind s who call o
  verdict-of o k = with-arguments kind s who call sound ∙ ap (verdict_reached kind s who call) k

  pub plan-is-done : IfOk (plan_of kind s.documents s.rights who call) (λ plan. verdict_on kind s who call ≡ done_by kind plan s)
  plan-is-done = by-document (reached s who call.doc) refl
    where
      by-right : (d : Document) (b : Bool) → reached s who call.doc ≡ Some d → may_in kind s who call d ≡ b →
          IfOk {E = RightsError} (cond b (Ok (plan_in call d)) (Err NotAllowed)) (λ plan. verdict_on kind s who call ≡ done_by kind plan s)
      by-right d true k e = verdict-of (Some d) k ∙ allowed-in kind s who call d e
      by-right d false k e = tt

      by-document : (o : Option Document) → reached s who call.doc ≡ o →
          IfOk (planned kind call.app (rights_named call.names) (names_itself who call.app) (option_map (reached_as s.rights who) o)) (λ plan. verdict_on kind s who call ≡ done_by kind plan s)
      by-document None k = tt
      by-document (Some d) k = by-right d (may_in kind s who call d) k refl

  pub refusal-is-given : IfErr (plan_of kind s.documents s.rights who call) (IsRefused (verdict_on kind s who call))
  refusal-is-given = by-document (reached s who call.doc) refl
    where
      by-right : (d : Document) (b : Bool) → reached s who call.doc ≡ Some d → may_in kind s who call d ≡ b →
          IfErr {T = RightsPlan} (cond b (Ok (plan_in call d)) (Err NotAllowed)) (IsRefused (verdict_on kind s who call))
      by-right d true k e = tt
      by-right d false k e = verdict-of (Some d) k ∙ refused-in kind s who call d e

      by-document : (o : Option Document) → reached s who call.doc ≡ o →
          IfErr (planned kind call.app (rights_named call.names) (names_itself who call.app) (option_map (reached_as s.rights who) o)) (IsRefused (verdict_on kind s who call))
      by-document None k = verdict-of None k ∙ none-in kind s who call
      by-document (Some d) k = by-right d (may_in kind s who call d) k refl

-- ---- over every state with the records

-- what the code was given is that of the call
pub plan-seen : (kind : RightsKind) (documents : List Document) (rights : List Triple) (who : Who) (call : RightsCall) (app : List ℕ) (listed : RightSet) (doc : List ℕ) →
    app ≡ call.app → listed ≡ rights_named call.names → doc ≡ call.doc →
    planned kind app listed (names_itself who app) (reached_in documents rights who doc) ≡ plan_of kind documents rights who call
plan-seen kind documents rights who call app listed doc a l d =
    λ i. planned kind (a i) (l i) (names_itself who (a i)) (reached_in documents rights who (d i))

pub sound-seen : (call : RightsCall) (app : List ℕ) → app ≡ call.app → is_app_name app ≡ true → are_right_names call.names ≡ true → are_rights_arguments call ≡ true
sound-seen call app a h k = ap (λ (t : List ℕ). is_app_name t && are_right_names call.names) (sym a) ∙ (ap (λ (b : Bool). b && are_right_names call.names) h ∙ k)

ok-everywhere : {S A E : Type 0} (H : S → Type 0) (Q : S → A → Type 0) (r : Result A E) → ((s : S) → H s → IfOk r (Q s)) → IfOk r (λ a. (s : S) → H s → Q s a)
ok-everywhere H Q (Ok a) f = f
ok-everywhere H Q (Err e) f = tt

err-everywhere : {S A E : Type 0} (H : S → Type 0) (Q : S → E → Type 0) (r : Result A E) → ((s : S) → H s → IfErr r (Q s)) → IfErr r (λ e. (s : S) → H s → Q s e)
err-everywhere H Q (Ok a) f = tt
err-everywhere H Q (Err e) f = f

module _ (kind : RightsKind) (documents : List Document) (rights : List Triple) (who : Who) (call : RightsCall) (r : Result RightsPlan RightsError) (same : r ≡ plan_of kind documents rights who call) where
  pub call-everywhere : IfOk r (IsOfCall call)
  call-everywhere = subst (λ (x : Result RightsPlan RightsError). IfOk x (IsOfCall call)) (sym same) (plan-is-of-call kind documents rights who call)

  in-state : (s : State) → HasRecords s documents rights → plan_of kind s.documents s.rights who call ≡ r
  in-state s h = (λ i. plan_of kind (h.live i) (h.held i) who call) ∙ sym same

  pub done-everywhere : are_rights_arguments call ≡ true → IfOk r (λ plan. (s : State) → HasRecords s documents rights → verdict_on kind s who call ≡ done_by kind plan s)
  done-everywhere sound =
      ok-everywhere (λ s. HasRecords s documents rights) (λ s plan. verdict_on kind s who call ≡ done_by kind plan s) r
      (λ s h. subst (λ (x : Result RightsPlan RightsError). IfOk x (λ plan. verdict_on kind s who call ≡ done_by kind plan s)) (in-state s h) (plan-is-done kind s who call sound))

  pub refused-everywhere : are_rights_arguments call ≡ true → IfErr r (λ error. (s : State) → HasRecords s documents rights → IsRefused (verdict_on kind s who call) error)
  refused-everywhere sound =
      err-everywhere (λ s. HasRecords s documents rights) (λ s error. IsRefused (verdict_on kind s who call) error) r
      (λ s h. subst (λ (x : Result RightsPlan RightsError). IfErr x (IsRefused (verdict_on kind s who call))) (in-state s h) (refusal-is-given kind s who call sound))
