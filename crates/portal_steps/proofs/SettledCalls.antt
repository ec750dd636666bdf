-- A request on documents that was served on a bus: the records stand for the state after, and a fault is told by a count.
use Rattle.std.proofs.Common.{◌≡◌, map, Bool, true, false, cond, Option, Some, None, option_map, refl, sym, ap, subst, ◌∙◌, arith}
use Rattle.portal_base.specs.Outside.{HasRisen}
use Rattle.portal_model.specs.declared.entry.Fault.{Fault}
use Rattle.portal_model.specs.declared.entry.Given.{Given}
use Rattle.portal_model.specs.declared.records.Records.{Records}
use Rattle.portal_model.specs.declared.reply.Answer.{Answer}
use Rattle.portal_model.specs.declared.reply.Code.{Code}
use Rattle.portal_model.specs.declared.request.Request.{Request}
use Rattle.portal_model.specs.declared.state.Connection.{Connection}
use Rattle.portal_model.specs.Allowed.{is_refusal}
use Rattle.portal_model.specs.Bus.{is_tree, kept, settled}
use Rattle.portal_model.specs.Errno.{eio}
use Rattle.portal_model.specs.Kept.{records_of}
use Rattle.portal_model.specs.Outside.{ChangesRecords, meets_limit, verdict_of}
use Rattle.portal_model.specs.RecordChanges.{records_version}
use Rattle.portal_model.specs.State.{State}
use Rattle.portal_model.specs.Store.{record_of}
use Rattle.portal_model.specs.Verdict.{Doing, Verdict, Refuses, Does}
use Rattle.record_keeper.specs.Keepers.{KeeperIs, after_call}
use Rattle.document_calls.specs.KeeperCalls.{KeeperCalled, KeeperWent, is_keeper}
use Rattle.portal_steps.specs.Answered.{KeepsState}
use Rattle.portal_steps.proofs.CallVerdicts.{TellsOf, is_fault_code}
use Rattle.portal_steps.proofs.SameRecords.{same_records, same_records-eq, same_records-not}

-- Failed is told where the fault is the tree's, or where the keeper's count rose.
pub record Settles (after : State) (fault : Fault) (answer : Answer) (old new : KeeperIs) : Type 0 where
  pub kept : KeepsState new.told after
  pub no_errno : answer ≡ Answer.Refused (Code.Errno eio) → ⊥
  pub failed : is_tree fault ≡ false → answer ≡ Answer.Refused Code.Failed → HasRisen old.faults new.faults

abbrev pub Comes_to : State × Answer → State → Answer → Type 0
Comes_to made after answer = made ≡ (after, answer)

told-for : (told : Option Records) (s : State) → KeepsState (option_map (λ _. records_of s) told) s
told-for None s = tt
told-for (Some r) s = refl

called-keeps : (s : State) (fault : Fault) (old new : KeeperIs) → KeeperCalled s fault old new → KeepsState new.told s
called-keeps s fault old new k = subst (λ (t : Option Records). KeepsState t s) (sym (ap (λ (x : KeeperIs). x.told) k.goes)) (told-for old.told s)

uncalled-keeps : (s after : State) (old new : KeeperIs) → new ≡ old → records_of after ≡ records_of s → KeepsState old.told s → KeepsState new.told after
uncalled-keeps s after old new e r k = subst (λ (x : KeeperIs). KeepsState x.told after) (sym e) (by_told old.told k)
  where
    by_told : (told : Option Records) → KeepsState told s → KeepsState told after
    by_told None h = tt
    by_told (Some x) h = h ∙ sym r

module _ (s : State) (c : Connection) (request : Request) (given : Given) (after : State) (answer : Answer) (old new : KeeperIs) (same : after.entries ≡ s.entries) (keeps : KeepsState old.told s) (went : KeeperWent s c request given after old new) where
  -- the records are those of before
  stays-so : (v : Option Verdict) → verdict_of s c request given ≡ v → (ChangesRecords s v → ⊥) → records_of after ≡ records_of s → KeepsState new.told after
  stays-so v is none e =
      uncalled-keeps s after old new (went.uncalled (λ changes. none (subst (ChangesRecords s) is changes))) e keeps

  no-fault-code : (code : Code) → is_fault_code code ≡ false → Code.Failed ≡ code → ⊥
  no-fault-code code h e = let no : true ≡ false = ap is_fault_code e ∙ h in cc

  no-errno-code : (code : Code) → is_fault_code code ≡ false → Code.Errno eio ≡ code → ⊥
  no-errno-code code h e = let no : true ≡ false = ap is_fault_code e ∙ h in cc

  code-is : (a b : Code) → Answer.Refused a ≡ Answer.Refused b → a ≡ b
  code-is a b e = cc

  not-refused : (code : Code) (given_answer : Answer) → is_refusal given_answer ≡ false → Answer.Refused code ≡ given_answer → ⊥
  not-refused code given_answer h e = let no : true ≡ false = ap is_refusal e ∙ h in cc

  -- a call of the tree failed
  unseen-settles : verdict_of s c request given ≡ None → is_tree given.fault ≡ true → Comes_to (s, Answer.Refused Code.Failed) after answer → Settles after given.fault answer old new
  unseen-settles is failed e = record {
    kept = stays-so None is (λ changes. changes) (ap records_of (sym (ap (λ (x : State × Answer). x.0) e)));
    no_errno = λ h. let no : Answer.Refused (Code.Errno eio) ≡ Answer.Refused Code.Failed = sym h ∙ sym (ap (λ (x : State × Answer). x.1) e) in cc;
    failed = λ u h. let no : true ≡ false = sym failed ∙ u in absurd (cc);
  }

  -- it is done
  done-keeps : (d : Doing) → verdict_of s c request given ≡ Some (Does d) → d.exceeds ≡ false → d.state ≡ after → (b : Bool) → same_records (records_of d.state).documents (records_of s).documents ≡ b → KeepsState new.told after
  done-keeps d is within e true h =
      let documents = same_records-eq (records_of d.state).documents (records_of s).documents h in
      let entries : d.state.entries ≡ s.entries = ap (λ (t : State). t.entries) e ∙ same in
      let records : records_of d.state ≡ records_of s = λ i. record { version = records_version; documents = documents i; entries = map record_of (entries i) } in
      uncalled-keeps s after old new (went.uncalled (λ changes. (subst (ChangesRecords s) is changes).1 records)) (ap records_of (sym e) ∙ records) keeps
  done-keeps d is within e false h =
      let changes : ChangesRecords s (Some (Does d)) = (within, λ r. same_records-not (records_of d.state).documents (records_of s).documents h (ap (λ (x : Records). x.documents) r)) in
      called-keeps after given.fault old new (went.called (subst (ChangesRecords s) (sym is) changes))

  done-settles : (d : Doing) → verdict_of s c request given ≡ Some (Does d) → d.exceeds ≡ false → is_refusal d.answer ≡ false → Comes_to (d.state, d.answer) after answer → Settles after given.fault answer old new
  done-settles d is within told e = record {
    kept = done-keeps d is within (ap (λ (x : State × Answer). x.0) e) (same_records (records_of d.state).documents (records_of s).documents) refl;
    no_errno = λ h. not-refused (Code.Errno eio) d.answer told (sym h ∙ sym (ap (λ (x : State × Answer). x.1) e));
    failed = λ u h. absurd (not-refused Code.Failed d.answer told (sym h ∙ sym (ap (λ (x : State × Answer). x.1) e)));
  }

  -- the keeper failed
  failed-settles : given.fault ≡ Fault.Keeper → ChangesRecords s (verdict_of s c request given) → Comes_to (s, Answer.Refused Code.Failed) after answer → Settles after given.fault answer old new
  failed-settles f changes e =
      let called = went.called changes in
      let faults : new.faults ≡ (after_call old (is_keeper Fault.Keeper) (option_map (λ _. records_of after) old.told)).faults =
      ap (λ (x : KeeperIs). x.faults) called.goes ∙ ap (λ (g : Fault). (after_call old (is_keeper g) (option_map (λ _. records_of after) old.told)).faults) f in
      record {
        kept = called-keeps after given.fault old new called;
        no_errno = λ h. let no : Answer.Refused (Code.Errno eio) ≡ Answer.Refused Code.Failed = sym h ∙ sym (ap (λ (x : State × Answer). x.1) e) in cc;
        failed = λ u h. rw faults (omega arith);
      }

  by-fault : (d : Doing) (fault : Fault) → given.fault ≡ fault → (given.fault ≡ Fault.Keeper → ChangesRecords s (verdict_of s c request given)) → verdict_of s c request given ≡ Some (Does d) →
      d.exceeds ≡ false → is_refusal d.answer ≡ false → Comes_to (kept s fault d) after answer → Settles after given.fault answer old new
  by-fault d Fault.None f k is within told e = done-settles d is within told e
  by-fault d Fault.Tree f k is within told e = done-settles d is within told e
  by-fault d Fault.Keeper f k is within told e = failed-settles f (k f) e

  module _ (refused : State) (records : records_of refused ≡ records_of s) where
    refused-settles : (code : Code) → verdict_of s c request given ≡ Some (Refuses code) → is_fault_code code ≡ false → Comes_to (refused, Answer.Refused code) after answer → Settles after given.fault answer old new
    refused-settles code is none e = record {
      kept = stays-so (Some (Refuses code)) is (λ changes. changes) (ap records_of (sym (ap (λ (x : State × Answer). x.0) e)) ∙ records);
      no_errno = λ h. no-errno-code code none (code-is (Code.Errno eio) code (sym h ∙ sym (ap (λ (x : State × Answer). x.1) e)));
      failed = λ u h. absurd (no-fault-code code none (code-is Code.Failed code (sym h ∙ sym (ap (λ (x : State × Answer). x.1) e))));
    }

    full-settles : (d : Doing) → verdict_of s c request given ≡ Some (Does d) → d.exceeds ≡ true → Comes_to (refused, Answer.Refused Code.LimitsExceeded) after answer → Settles after given.fault answer old new
    full-settles d is met e = record {
      kept = stays-so (Some (Does d)) is (λ changes. let no : true ≡ false = sym met ∙ changes.0 in cc) (ap records_of (sym (ap (λ (x : State × Answer). x.0) e)) ∙ records);
      no_errno = λ h. let no : Answer.Refused (Code.Errno eio) ≡ Answer.Refused Code.LimitsExceeded = sym h ∙ sym (ap (λ (x : State × Answer). x.1) e) in cc;
      failed = λ u h. let no : Answer.Refused Code.Failed ≡ Answer.Refused Code.LimitsExceeded = sym h ∙ sym (ap (λ (x : State × Answer). x.1) e) in absurd (cc);
    }

    by-limit : (d : Doing) (full : Bool) → full ≡ d.exceeds → (given.fault ≡ Fault.Keeper → ChangesRecords s (verdict_of s c request given)) → verdict_of s c request given ≡ Some (Does d) →
        is_refusal d.answer ≡ false → Comes_to (cond full (refused, Answer.Refused Code.LimitsExceeded) (kept s given.fault d)) after answer → Settles after given.fault answer old new
    by-limit d true f k is told e = full-settles d is (sym f) e
    by-limit d false f k is told e = by-fault d given.fault refl k is (sym f) told e

    pub settles : (v : Option Verdict) → verdict_of s c request given ≡ v → TellsOf given.fault v → (given.fault ≡ Fault.Keeper → ChangesRecords s (verdict_of s c request given)) → given.full ≡ meets_limit v →
        Comes_to (settled s refused given v) after answer → Settles after given.fault answer old new
    settles None is tells k f e = unseen-settles is tells e
    settles (Some (Refuses code)) is tells k f e = refused-settles code is tells e
    settles (Some (Does d)) is tells k f e = by-limit d given.full f k is tells e
