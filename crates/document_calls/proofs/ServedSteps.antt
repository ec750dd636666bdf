-- When a request is served: by its verdict, and by what was asked of the keeper.
use Rattle.std.proofs.Common.{◌≡◌, [], ◌∷◌, Bool, true, false, cond, Option, Some, None, option_map, IfSome, refl, sym, ap, subst, ◌∙◌}
use Rattle.portal_model.specs.declared.entry.Fault.{Fault}
use Rattle.portal_model.specs.declared.records.RecordChange.{RecordChange}
use Rattle.portal_model.specs.declared.records.Records.{Records}
use Rattle.portal_model.specs.declared.reply.Answer.{Answer}
use Rattle.portal_model.specs.declared.reply.Code.{Code}
use Rattle.portal_model.specs.declared.request.Request.{Request}
use Rattle.portal_model.specs.declared.state.Connection.{Connection}
use Rattle.portal_model.specs.Bus.{bus_walk, is_tree, refused_state, settled}
use Rattle.portal_model.specs.Kept.{records_of}
use Rattle.portal_model.specs.Outside.{ChangesRecords, files_told, meets_limit, verdict_of, words_drawn}
use Rattle.portal_model.specs.RecordChanges.{changed, changed_by}
use Rattle.portal_model.specs.State.{State}
use Rattle.portal_model.specs.Verdict.{Verdict, Refuses, Does, does}
use Rattle.portal_model.specs.Walk.{Walk, Answers, Gives, reads_clock, walked}
use Rattle.record_keeper.specs.Keepers.{KeeperIs, after_call}
use Rattle.document_calls.specs.KeeperCalls.{AppliedIf, KeeperWent, KeepsRecords, ServesKept, fault_if}
use Rattle.document_calls.specs.Serves.{Serves, given_with}

module _ (s : State) (c : Connection) (request : Request) (v : Verdict) (e : bus_walk s c request [] ≡ Answers v) where
  verdict-is : (full : Bool) (fault : Fault) → verdict_of s c request (given_with full fault) ≡ Some v
  verdict-is full fault = ap (λ (w : Walk Verdict). walked w 0 [] (is_tree fault)) e

  pub walk-serves : (full : Bool) (fault : Fault) (after : State) (answer : Answer) → words_drawn (Some v) ≡ 0 → meets_limit (Some v) ≡ full → is_tree fault ≡ false → (fault ≡ Fault.Keeper → ChangesRecords s (Some v)) →
      settled s (refused_state s c request) (given_with full fault) (Some v) ≡ (after, answer) → Serves s c request (given_with full fault) after answer
  walk-serves full fault after answer w m t k a = record {
    lawful = record {
      looks = subst (λ (x : Walk Verdict). Gives (files_told s) x [] (is_tree fault)) (sym e) (refl, t);
      clock = sym (ap (λ (x : Walk Verdict). reads_clock x []) e);
      listed = refl;
      generation = refl;
      words = sym (ap words_drawn (verdict-is full fault) ∙ w);
      numbers = tt;
      full = sym (ap meets_limit (verdict-is full fault) ∙ m);
      keeper = λ f. subst (ChangesRecords s) (sym (verdict-is full fault)) (k f);
    };
    step = ap (λ (o : Option Verdict). settled s (refused_state s c request) (given_with full fault) o) (verdict-is full fault) ∙ a;
  }

-- ---- nothing is changed

abbrev pub read_verdict : State → Answer → Verdict
read_verdict s (Answer.Refused code) = Refuses code
read_verdict s answer = does s answer

no-keeper : {P : Type 0} → Fault.None ≡ Fault.Keeper → P
no-keeper h = cc

pub refused-serves : (s : State) (c : Connection) (request : Request) (code : Code) → bus_walk s c request [] ≡ Answers (Refuses code) → refused_state s c request ≡ s → Serves s c request (given_with false Fault.None) s (Answer.Refused code)
refused-serves s c request code e r = walk-serves s c request (Refuses code) e false Fault.None s (Answer.Refused code) refl refl refl (λ h. no-keeper h) (λ i. (r i, Answer.Refused code))

pub done-serves : (s : State) (c : Connection) (request : Request) (after : State) (answer : Answer) → bus_walk s c request [] ≡ Answers (does after answer) → Serves s c request (given_with false Fault.None) after answer
done-serves s c request after answer e = walk-serves s c request (does after answer) e false Fault.None after answer refl refl refl (λ h. no-keeper h) refl

pub read-serves : (s : State) (c : Connection) (request : Request) (answer : Answer) → bus_walk s c request [] ≡ Answers (read_verdict s answer) → refused_state s c request ≡ s → Serves s c request (given_with false Fault.None) s answer
read-serves s c request (Answer.Refused code) e r = refused-serves s c request code e r
read-serves s c request answer e r = done-serves s c request s answer e

-- ---- something is changed, and the keeper may be asked

-- there is a change exactly where the records change, and it makes those of the state after
abbrev pub Matches : State → Verdict → State → Option RecordChange → Type 0
Matches s v after None = ChangesRecords s (Some v) → ⊥
Matches s v after (Some change) = ChangesRecords s (Some v) × (changed change (records_of s) ≡ records_of after)

pub same-told : (told : Option Records) (r : Records) → IfSome told (λ records. records ≡ r) → told ≡ option_map (λ _. r) told
same-told None r h = refl
same-told (Some x) r h = ap (λ (y : Records). Some y) h

changed-told : (change : RecordChange) (told : Option Records) (r after : Records) → IfSome told (λ records. records ≡ r) → changed change r ≡ after → option_map (changed_by (change ∷ [])) told ≡ option_map (λ _. after) told
changed-told change None r after h e = refl
changed-told change (Some x) r after h e = ap (λ (y : Records). Some y) (ap (changed change) h ∙ e)

module _ (s : State) (c : Connection) (request : Request) (v : Verdict) (after : State) (e : bus_walk s c request [] ≡ Answers v) where
  pub change-went : (change : Option RecordChange) (old new : KeeperIs) (failed : Bool) → Matches s v after change → AppliedIf change old failed new → KeepsRecords s old →
      KeeperWent s c request (given_with false (fault_if failed)) (cond failed s after) old new
  change-went None old new failed m a k = record {
    called = λ changes. absurd (m (subst (ChangesRecords s) (verdict-is s c request v e false (fault_if failed)) changes));
    uncalled = λ _. a.1;
  }
  change-went (Some change) old new true m a k = record {
    called = λ _. record { goes = a.goes ∙ ap (after_call old true) (same-told old.told (records_of s) k); fails = a.fails };
    uncalled = λ none. absurd (none (subst (ChangesRecords s) (sym (verdict-is s c request v e false Fault.Keeper)) m.0));
  }
  change-went (Some change) old new false m a k = record {
    called = λ _. record { goes = a.goes ∙ ap (after_call old false) (changed-told change old.told (records_of s) (records_of after) k m.1); fails = a.fails };
    uncalled = λ none. absurd (none (subst (ChangesRecords s) (sym (verdict-is s c request v e false Fault.None)) m.0));
  }

abbrev pub done_or_failed : Bool → Answer
done_or_failed failed = cond failed (Answer.Refused Code.Failed) Answer.Done

module _ (s : State) (c : Connection) (request : Request) (after : State) (exceeds : Bool) (within : exceeds ≡ false) where
  abbrev pub doing : Verdict
  doing = Does (record { state = after; answer = Answer.Done; makes = 0; exceeds = exceeds })

  no-word : (b : Bool) → words_drawn (Some (Does (record { state = after; answer = Answer.Done; makes = 0; exceeds = b }))) ≡ 0
  no-word true = refl
  no-word false = refl

  asked : (change : Option RecordChange) (old new : KeeperIs) → Matches s doing after change → AppliedIf change old true new → ChangesRecords s (Some doing)
  asked None old new m a = let no : true ≡ false = a.0 in cc
  asked (Some change) old new m a = m.0

  pub change-follows : bus_walk s c request [] ≡ Answers doing → (change : Option RecordChange) (old new : KeeperIs) (failed : Bool) → Matches s doing after change → AppliedIf change old failed new →
      ServesKept s c request (given_with false (fault_if failed)) (cond failed s after) (done_or_failed failed) old new
  change-follows e change old new true m a = record {
    serves = walk-serves s c request doing e false Fault.Keeper s (Answer.Refused Code.Failed) (no-word exceeds) within refl (λ _. asked change old new m a) refl;
    keeper = change-went s c request doing after e change old new true m a;
  }
  change-follows e change old new false m a = record {
    serves = walk-serves s c request doing e false Fault.None after Answer.Done (no-word exceeds) within refl (λ h. no-keeper h) refl;
    keeper = change-went s c request doing after e change old new false m a;
  }

-- a refusal asks the keeper for nothing
pub refused-follows : (s : State) (c : Connection) (request : Request) (code : Code) (old new : KeeperIs) → bus_walk s c request [] ≡ Answers (Refuses code) → refused_state s c request ≡ s → new ≡ old →
    ServesKept s c request (given_with false Fault.None) s (Answer.Refused code) old new
refused-follows s c request code old new e r n = record {
  serves = refused-serves s c request code e r;
  keeper = λ k. record {
    called = λ changes. absurd (subst (ChangesRecords s) (verdict-is s c request (Refuses code) e false Fault.None) changes);
    uncalled = λ _. n;
  };
}

-- a limit is met: nothing is changed, and the keeper isn't asked
pub full-follows : (s : State) (c : Connection) (request : Request) (after : State) (exceeds : Bool) → exceeds ≡ true → (k : KeeperIs) → bus_walk s c request [] ≡ Answers (Does (record { state = after; answer = Answer.Done; makes = 0; exceeds = exceeds })) →
    refused_state s c request ≡ s → ServesKept s c request (given_with true Fault.None) s (Answer.Refused Code.LimitsExceeded) k k
full-follows s c request after exceeds met k e r =
    let v : Verdict = Does (record { state = after; answer = Answer.Done; makes = 0; exceeds = exceeds }) in
    record {
      serves = walk-serves s c request v e true Fault.None s (Answer.Refused Code.LimitsExceeded) (no-word s c request after false refl exceeds) met refl (λ h. no-keeper h) (λ i. (r i, Answer.Refused Code.LimitsExceeded));
      keeper = λ kept. record {
        called = λ changes.
            let none : ChangesRecords s (Some v) = subst (ChangesRecords s) (verdict-is s c request v e true Fault.None) changes in
            let no : true ≡ false = sym met ∙ none.0 in
            cc;
        uncalled = λ _. refl;
      };
    }
