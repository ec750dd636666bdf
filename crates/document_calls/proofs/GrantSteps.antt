-- A GrantPermissions over the portal's lists is that of the sequential portal.
use Rattle.std.proofs.Common.{◌≡◌, ℕ, ◌+◌, ◌≤◌, nat_lt, length, length-append, List, [], ◌∷◌, ◌++◌, Bool, true, false, not, ◌&&◌, ◌||◌, cond, Option, Some, None, is_some, Result, IfOk, refl, sym, ap, subst, ◌∙◌, arith}
use Rattle.std.specs.List.{position_or_len}
use Rattle.std.specs.Option.{option_map}
use Rattle.std.proofs.lemmas.Bool.Decides.{nat_tests}
use Rattle.portal_base.specs.Names.{is_same}
use Rattle.portal_base.specs.declared.memory.WantOfMemory.{WantOfMemory}
use Rattle.portal_base.specs.declared.who.Who.{Who}
use Rattle.rights_rule.specs.Rights.{RightSet, holds_any, is_no_right, minus}
use Rattle.portal_model.specs.declared.records.RecordChange.{RecordChange}
use Rattle.portal_model.specs.declared.records.Records.{Records}
use Rattle.portal_model.specs.declared.reply.Answer.{Answer}
use Rattle.portal_model.specs.declared.reply.Code.{Code}
use Rattle.portal_model.specs.declared.request.Request.{Request}
use Rattle.portal_model.specs.declared.request.RightsCall.{RightsCall}
use Rattle.portal_model.specs.declared.state.Connection.{Connection}
use Rattle.portal_model.specs.declared.state.Triple.{Triple}
use Rattle.portal_model.specs.Applications.{number_of, numbered}
use Rattle.portal_model.specs.Grant.{exceeds_limits, given_rights, grant, numbered_with}
use Rattle.portal_model.specs.Kept.{records_of}
use Rattle.portal_model.specs.Rights.{add_rights}
use Rattle.portal_model.specs.State.{State, held_of}
use Rattle.portal_model.specs.Valid.{Valid, applications_limit, is_numbered}
use Rattle.portal_model.specs.Verdict.{Verdict, Refuses, Does}
use Rattle.portal_model.specs.Walk.{Answers}
use Rattle.portal_model.proofs.TripleOrder.{is_same-sym}
use Rattle.document_records.specs.Documents.{DocumentList, is_kept}
use Rattle.document_records.proofs.KeptDocuments.{IsApart, apart-added}
use Rattle.grant_revoke.specs.declared.plan.RightsError.{RightsError}
use Rattle.grant_revoke.specs.declared.plan.RightsError.TheVariants.{NotFound, NotAllowed, InvalidArgument, Memory}
use Rattle.grant_revoke.specs.declared.plan.RightsKind.TheVariants.{Grant}
use Rattle.grant_revoke.specs.declared.plan.RightsPlan.{RightsPlan}
use Rattle.grant_revoke.specs.Changes.{IsRefused, done_by, verdict_on}
use Rattle.grant_revoke.specs.Records.{HasRecords}
use Rattle.record_keeper.specs.Keepers.{KeeperIs}
use Rattle.document_calls.specs.Books.{IsBook, with_book}
use Rattle.document_calls.specs.Changes.{done_with, full_call, gains, has_no_number, refusal, regrant}
use Rattle.document_calls.specs.KeeperCalls.{AppliedIf, ServesKept, fault_if}
use Rattle.document_calls.specs.Serves.{given_with}
use Rattle.document_calls.specs.declared.served.ServedCall.{ServedCall}
use Rattle.document_calls.proofs.AddedRights.{added-differs, added-stays}
use Rattle.document_calls.proofs.DeleteSteps.{has-records}
use Rattle.document_calls.proofs.RevokeSteps.{grants-change, unkept-stays}
use Rattle.document_calls.proofs.ServedSteps.{Matches, change-follows, full-follows, refused-follows}

-- ---- numbers

inside-is : (apps : List (List ℕ)) (app : List ℕ) → is_numbered apps app ≡ nat_lt (position_or_len (λ name. is_same name app) apps) (length apps)
inside-is [] app = refl
inside-is (x ∷ xs) app = grind (arith, nat_tests, inside-is xs app, is_same-sym app x)

found-where : (b : Bool) (n : ℕ) → is_some (option_map (λ at. at + 1) (cond b (Some n) None)) ≡ b
found-where true n = refl
found-where false n = refl

number-is : (apps : List (List ℕ)) (app : List ℕ) → is_some (number_of apps app) ≡ is_numbered apps app
number-is apps app = found-where (nat_lt (position_or_len (λ name. is_same name app) apps) (length apps)) (position_or_len (λ name. is_same name app) apps) ∙ sym (inside-is apps app)

none-held : (set : RightSet) → is_no_right set ≡ true → holds_any set ≡ false
none-held set h = step (holds_any set) refl h
  where
    step : (b : Bool) → holds_any set ≡ b → not b ≡ true → b ≡ false
    step true e h = cc
    step false e h = refl

pub unnumbered : (app : List ℕ) (set : RightSet) (apps : List (List ℕ)) → is_no_right set ≡ true → apps ≡ numbered_with app set apps
unnumbered app set apps h = sym (ap (λ (b : Bool). cond b (numbered apps app) apps) (none-held set h))

pub numbered-already : (app : List ℕ) (set : RightSet) (apps : List (List ℕ)) → is_some (number_of apps app) ≡ true → apps ≡ numbered_with app set apps
numbered-already app set apps h =
    let there : numbered apps app ≡ apps = ap (λ (b : Bool). cond b apps (apps ++ app ∷ [])) (sym (number-is apps app) ∙ h) in
    step (holds_any set) there
  where
    step : (b : Bool) → numbered apps app ≡ apps → apps ≡ cond b (numbered apps app) apps
    step true e = sym e
    step false e = refl

-- ---- limits

at-limit : (n k : ℕ) → nat_lt n applications_limit ≡ false → k ≡ n + 1 → nat_lt applications_limit k ≡ true
at-limit n k h e = grind (arith, nat_tests)

below-limit : (n k : ℕ) → nat_lt n applications_limit ≡ true → k ≡ n + 1 → nat_lt applications_limit k ≡ false
below-limit n k h e = grind (arith, nat_tests)

within : (a b : ℕ) → a ≤ b → nat_lt b a ≡ false
within a b h = grind (arith, nat_tests)

-- more than the limit are numbered exactly where no number is left
count-is : (app : List ℕ) (set : RightSet) (apps : List (List ℕ)) → length apps ≤ applications_limit →
    nat_lt applications_limit (length (numbered_with app set apps)) ≡ (not (is_no_right set) && (not (is_some (number_of apps app)) && not (nat_lt (length apps) applications_limit)))
count-is app set apps l = step (holds_any set) (is_some (number_of apps app)) (nat_lt (length apps) applications_limit) refl (sym (number-is apps app)) refl
  where
    long : length (apps ++ app ∷ []) ≡ length apps + 1
    long = length-append apps (app ∷ [])

    step : (h n r : Bool) → holds_any set ≡ h → is_numbered apps app ≡ n → nat_lt (length apps) applications_limit ≡ r →
        nat_lt applications_limit (length (cond h (numbered apps app) apps)) ≡ (not (not h) && (not n && not r))
    step false n r a b c = within (length apps) applications_limit l
    step true true r a b c = ap (λ (x : Bool). nat_lt applications_limit (length (cond x apps (apps ++ app ∷ [])))) b ∙ within (length apps) applications_limit l
    step true false true a b c = ap (λ (x : Bool). nat_lt applications_limit (length (cond x apps (apps ++ app ∷ [])))) b ∙ below-limit (length apps) (length (apps ++ app ∷ [])) c long
    step true false false a b c = ap (λ (x : Bool). nat_lt applications_limit (length (cond x apps (apps ++ app ∷ [])))) b ∙ at-limit (length apps) (length (apps ++ app ∷ [])) c long

module _ (s : State) (plan : RightsPlan) (v : Valid s) where
  abbrev pub after : State
  after = given_rights plan.app plan.id plan.rights s

  exceeds-is : exceeds_limits after ≡ has_no_number s.applications plan
  exceeds-is =
      (λ i. within (length s.documents) s.limits.documents v.documents_within i || (within (length s.made) s.limits.made v.made_within i || count-is plan.app plan.rights s.applications v.applications_within i))

  -- ---- records

  abbrev added : List Triple
  added = add_rights plan.app plan.id plan.rights s.rights

  apart : IsApart plan.id.number s.rights added
  apart = apart-added plan.app plan.id plan.rights s.rights v.rights_in_order

  abbrev new_ones : RightSet
  new_ones = minus plan.rights (held_of s.rights plan.app plan.id.number)

  differs : (k p : Bool) → is_kept s.documents plan.id.number ≡ k → is_no_right new_ones ≡ p → (k && not p) ≡ true → records_of after ≡ records_of s → ⊥
  differs true true k p h e = cc
  differs true false k p h e = added-differs plan.app plan.id plan.rights s.rights s.documents k p (ap (λ (r : Records). r.documents) e)
  differs false p kk pp h e = cc

  stays : (k p : Bool) → is_kept s.documents plan.id.number ≡ k → is_no_right new_ones ≡ p → (k && not p) ≡ false → records_of after ≡ records_of s
  stays true true k p h = ap (λ (ts : List Triple). records_of (record s { rights = ts })) (added-stays plan.app plan.id plan.rights s.rights v.rights_in_order p)
  stays true false k p h = cc
  stays false p kk pp h = unkept-stays s plan.id.number added apart v kk

  abbrev pub doing : Verdict
  doing = Does (record { state = after; answer = Answer.Done; makes = 0; exceeds = exceeds_limits after })

  by-gain : (b : Bool) → exceeds_limits after ≡ false → gains s.documents s.rights plan ≡ b → Matches s doing after (regrant b added plan.id)
  by-gain true x e = ((x, differs (is_kept s.documents plan.id.number) (is_no_right new_ones) refl refl e), grants-change s plan.id.number added apart v)
  by-gain false x e = λ changes. changes.1 (stays (is_kept s.documents plan.id.number) (is_no_right new_ones) refl refl e)

-- ---- the lists of the state

same-all : (s : State) (documents : DocumentList) (rights : List Triple) (applications : List (List ℕ)) → IsBook s documents rights applications → with_book s documents rights applications ≡ s
same-all s documents rights applications b = λ i. record s { documents = sym b.live i; made = sym b.made i; rights = sym b.held i; applications = sym b.numbered i }

abbrev pub Gives : RightsCall → Who → DocumentList → List Triple → List (List ℕ) → List Triple → List (List ℕ) → KeeperIs → KeeperIs → ServedCall → Type 0
Gives call who documents rights applications rights_after applications_after old new served =
    (s : State) (c : Connection) → IsBook s documents rights applications → Valid s → c.who ≡ who →
    ServesKept s c (Request.Grant call) served.given (with_book s documents rights_after applications_after) served.answer old new

module _ (call : RightsCall) (who : Who) (documents : DocumentList) (rights : List Triple) (applications : List (List ℕ)) (k : KeeperIs) where
  refuses-so : (code : Code) → ((s : State) → HasRecords s documents.live rights → grant s who call ≡ Refuses code) →
      (s : State) (c : Connection) → IsBook s documents rights applications → Valid s → c.who ≡ who →
      ServesKept s c (Request.Grant call) (given_with false (fault_if false)) (with_book s documents rights applications) (Answer.Refused code) k k
  refuses-so code h s c b v w =
      subst (λ (t : State). ServesKept s c (Request.Grant call) (given_with false (fault_if false)) t (Answer.Refused code) k k) (sym (same-all s documents rights applications b))
      (refused-follows s c (Request.Grant call) code k k
      (ap (λ (x : Verdict). Answers x) (ap (λ (x : Who). grant s x call) w ∙ h s (has-records s documents rights applications b))) refl refl)

  by-error : (error : RightsError) → ((s : State) → HasRecords s documents.live rights → IsRefused (grant s who call) error) → IfOk (refusal error) (Gives call who documents rights applications rights applications k k)
  by-error NotFound h = refuses-so Code.NotFound h
  by-error NotAllowed h = refuses-so Code.NotAllowed h
  by-error InvalidArgument h = refuses-so Code.InvalidArgument h
  by-error Memory h = tt

  pub grant-refused : (error : RightsError) (r : Result ServedCall WantOfMemory) → r ≡ refusal error → ((s : State) → HasRecords s documents.live rights → IsRefused (verdict_on Grant s who call) error) →
      IfOk r (Gives call who documents rights applications rights applications k k)
  grant-refused error r e h = subst (λ (x : Result ServedCall WantOfMemory). IfOk x (Gives call who documents rights applications rights applications k k)) (sym e) (by-error error h)

  -- no number is left
  pub grant-full : (plan : RightsPlan) (served : ServedCall) → ((s : State) → HasRecords s documents.live rights → verdict_on Grant s who call ≡ done_by Grant plan s) →
      has_no_number applications plan ≡ true → served ≡ full_call → Gives call who documents rights applications rights applications k k served
  grant-full plan served h f e s c b v w =
      let met : exceeds_limits (after s plan v) ≡ true = exceeds-is s plan v ∙ (ap (λ (apps : List (List ℕ)). has_no_number apps plan) b.numbered ∙ f) in
      subst (λ (t : State). ServesKept s c (Request.Grant call) served.given t served.answer k k) (sym (same-all s documents rights applications b))
      (subst (λ (x : ServedCall). ServesKept s c (Request.Grant call) x.given s x.answer k k) (sym e)
      (full-follows s c (Request.Grant call) (after s plan v) (exceeds_limits (after s plan v)) met k
      (ap (λ (x : Verdict). Answers x) (ap (λ (x : Who). grant s x call) w ∙ h s (has-records s documents rights applications b))) refl))

after-book : (s : State) (documents : DocumentList) (rights new_rights : List Triple) (applications new_applications : List (List ℕ)) (plan : RightsPlan) (failed : Bool) → IsBook s documents rights applications →
    new_rights ≡ cond failed rights (add_rights plan.app plan.id plan.rights rights) → new_applications ≡ cond failed applications (numbered_with plan.app plan.rights applications) →
    cond failed s (given_rights plan.app plan.id plan.rights s) ≡ with_book s documents new_rights new_applications
after-book s documents rights new_rights applications new_applications plan true b r n =
    sym (same-all s documents rights applications b) ∙ (λ i. with_book s documents (sym r i) (sym n i))
after-book s documents rights new_rights applications new_applications plan false b r n =
    (λ i. record s { documents = b.live i; made = b.made i; rights = add_rights plan.app plan.id plan.rights (b.held i); applications = numbered_with plan.app plan.rights (b.numbered i) })
    ∙ (λ i. with_book s documents (sym r i) (sym n i))

pub grant-follows : (call : RightsCall) (who : Who) (documents : DocumentList) (rights new_rights : List Triple) (applications new_applications : List (List ℕ)) (old new : KeeperIs) (plan : RightsPlan) (failed : Bool) (served : ServedCall) →
    ((s : State) → HasRecords s documents.live rights → verdict_on Grant s who call ≡ done_by Grant plan s) → has_no_number applications plan ≡ false →
    AppliedIf (regrant (gains documents.live rights plan) (add_rights plan.app plan.id plan.rights rights) plan.id) old failed new →
    new_rights ≡ cond failed rights (add_rights plan.app plan.id plan.rights rights) → new_applications ≡ cond failed applications (numbered_with plan.app plan.rights applications) →
    served ≡ done_with failed → Gives call who documents rights applications new_rights new_applications old new served
grant-follows call who documents rights new_rights applications new_applications old new plan failed served h f a r n e = λ s c b v w.
    let request = Request.Grant call in
    let then : State = given_rights plan.app plan.id plan.rights s in
    let room : exceeds_limits then ≡ false = exceeds-is s plan v ∙ (ap (λ (apps : List (List ℕ)). has_no_number apps plan) b.numbered ∙ f) in
    let change : Option RecordChange = regrant (gains s.documents s.rights plan) (add_rights plan.app plan.id plan.rights s.rights) plan.id in
    let applied : AppliedIf change old failed new =
    subst (λ (x : Option RecordChange). AppliedIf x old failed new)
    (λ i. regrant (gains (sym b.live i) (sym b.held i) plan) (add_rights plan.app plan.id plan.rights (sym b.held i)) plan.id) a in
    let served_so : ServesKept s c request (done_with failed).given (cond failed s then) (done_with failed).answer old new =
    change-follows s c request then (exceeds_limits then) room
    (ap (λ (x : Verdict). Answers x) (ap (λ (x : Who). grant s x call) w ∙ h s (has-records s documents rights applications b)))
    change old new failed (by-gain s plan v (gains s.documents s.rights plan) room refl) applied in
    subst (λ (t : State). ServesKept s c request served.given t served.answer old new) (after-book s documents rights new_rights applications new_applications plan failed b r n)
    (subst (λ (x : ServedCall). ServesKept s c request x.given (cond failed s then) x.answer old new) (sym e) served_so)
