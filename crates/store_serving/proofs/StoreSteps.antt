-- A call of the store over tables, boxes and a keeper is that of the sequential portal.
use Rattle.std.specs.Prelude.{IfOk, MatchBool, OnErr}
use Rattle.std.proofs.Common.{◌≡◌, ℕ, List, [], map, Bool, true, false, cond, Option, Some, None, option_map, Result, Ok, Err, refl, sym, ap, subst, ◌∙◌}
use Rattle.change_signals.specs.Unsent.{AtEach, Boxes, IsSame, told}
use Rattle.document_calls.specs.Changes.{done_with}
use Rattle.document_calls.specs.KeeperCalls.{AppliedIf}
use Rattle.document_calls.specs.declared.served.ServedCall.{ServedCall}
use Rattle.document_calls.proofs.ServedSteps.{change-follows, change-went, done-serves, refused-follows}
use Rattle.permission_table.specs.Tables.{Gives, content_of, former_of, put_back, with_content}
use Rattle.portal_base.specs.declared.memory.WantOfMemory.{WantOfMemory}
use Rattle.portal_base.specs.declared.who.Who.{Who}
use Rattle.portal_model.specs.declared.records.RecordChange.{RecordChange}
use Rattle.portal_model.specs.declared.records.RecordChange.TheVariants.{RemoveEntry}
use Rattle.portal_model.specs.declared.reply.Answer.{Answer}
use Rattle.portal_model.specs.declared.reply.Change.{Change}
use Rattle.portal_model.specs.declared.reply.Code.{Code}
use Rattle.portal_model.specs.declared.request.Request.{Request}
use Rattle.portal_model.specs.declared.state.Connection.{Connection}
use Rattle.portal_model.specs.declared.store.StoreAnswer.{StoreAnswer}
use Rattle.portal_model.specs.declared.store.StoreCall.{StoreCall}
use Rattle.portal_model.specs.declared.store.StoredEntry.{StoredEntry}
use Rattle.portal_model.specs.declared.store.StoreError.{StoreError}
use Rattle.portal_model.specs.declared.store.StoreError.TheVariants.{NotFound, TooLong, Memory}
use Rattle.portal_model.specs.declared.store.TableEntry.{TableEntry}
use Rattle.portal_model.specs.Allowed.{is_refusal}
use Rattle.portal_model.specs.Bus.{bus_walk}
use Rattle.portal_model.specs.Errno.{eio}
use Rattle.portal_model.specs.Kept.{records_of}
use Rattle.portal_model.specs.State.{State}
use Rattle.portal_model.specs.Store.{Entries, Outcome, change_of, entry_of, record_of, store_call, with_entry, without_entry}
use Rattle.portal_model.specs.StoreRequest.{identifier_of, store_verdict, table_of, tell_hosts, tell_kept}
use Rattle.portal_model.specs.Valid.{entry_told}
use Rattle.portal_model.specs.Verdict.{Verdict, Refuses, does}
use Rattle.portal_model.specs.Walk.{Answers}
use Rattle.record_keeper.specs.Keepers.{KeeperIs}
use Rattle.store_serving.specs.Records.{SetsRecord, former_record}
use Rattle.store_serving.specs.Refusals.{refusal_of}
use Rattle.store_serving.specs.Serving.{GivesStore, HasStore, IsMadeOf, ServesStore, StoreServed, ToldIfThere, answered_call, changes_an_entry, entry_with, may_change_entries, read_call, refused_call}
use Rattle.store_serving.proofs.EntrySteps.{Puts, Tells, call-puts, call-reads, former-entry, put-back}
use Rattle.store_serving.proofs.Passed.{is_fault_code, passed-is, refused-is, refused-plain}
use Rattle.store_serving.proofs.RecordSteps.{Changes, change-kept, change-risen, changes-match, gone-changes, set-changes}
use Rattle.store_serving.proofs.Waits.{same-waits, told-silent, told-waits}

-- ---- results

pub if_ok : {X E : Type 0} (P Q : X → Type 0) (r : Result X E) → ((x : X) → P x → Q x) → IfOk r P → IfOk r Q
if_ok P Q (Ok x) f h = f x h
if_ok P Q (Err e) f h = tt

pub if_err : {X E : Type 0} (P Q : Type 0) (r : Result X E) → (P → Q) → OnErr r P → OnErr r Q
if_err P Q (Ok x) f h = tt
if_err P Q (Err e) f h = f h

-- ---- what the outside gave

no-refusal : (answer : Answer) (code : Code) → is_refusal answer ≡ false → answer ≡ Answer.Refused code → ⊥
no-refusal answer code n e = let no : true ≡ false = sym (ap is_refusal e) ∙ n in cc

code-of : (a b : Code) → Answer.Refused a ≡ Answer.Refused b → a ≡ b
code-of a b e = cc

no-fault : (a b : Code) → is_fault_code a ≡ false → is_fault_code b ≡ true → Answer.Refused a ≡ Answer.Refused b → ⊥
no-fault a b n f e = let no : true ≡ false = sym f ∙ (ap is_fault_code (sym (code-of a b e)) ∙ n) in cc

-- nothing was given, and the answer tells of no fault
gives-none : (call : StoreCall) (k : KeeperIs) (answer : Answer) → (answer ≡ Answer.Refused Code.Failed → ⊥) → (answer ≡ Answer.Refused (Code.Errno eio) → ⊥) → GivesStore call k k (answered_call answer)
gives-none call k answer f e = record {
  failed = false;
  given_is = refl;
  unasked = λ _. refl;
  risen = λ h. absurd (f h);
  no_errno = e;
}

gives-code : (call : StoreCall) (k : KeeperIs) (code : Code) → is_fault_code code ≡ false → GivesStore call k k (answered_call (Answer.Refused code))
gives-code call k code n = gives-none call k (Answer.Refused code) (no-fault code Code.Failed n refl) (no-fault code (Code.Errno eio) n refl)

gives-answer : (call : StoreCall) (k : KeeperIs) (answer : Answer) → is_refusal answer ≡ false → GivesStore call k k (answered_call answer)
gives-answer call k answer n = gives-none call k answer (no-refusal answer Code.Failed n) (no-refusal answer (Code.Errno eio) n)

gives-change : (call : StoreCall) (old new : KeeperIs) (failed : Bool) (made : Option RecordChange) → may_change_entries call ≡ true → AppliedIf made old failed new → GivesStore call old new (done_with failed)
gives-change call old new true made m a = record {
  failed = true;
  given_is = refl;
  unasked = λ h. sym m ∙ h;
  risen = λ _. change-risen old new made a;
  no_errno = λ h. let no : Code.Failed ≡ Code.Errno eio = code-of Code.Failed (Code.Errno eio) h in cc;
}
gives-change call old new false made m a = record {
  failed = false;
  given_is = refl;
  unasked = λ _. refl;
  risen = λ h. absurd (no-refusal Answer.Done Code.Failed refl h);
  no_errno = no-refusal Answer.Done (Code.Errno eio) refl;
}

-- ---- nothing changes

module _ (s : State) (c : Connection) (call : StoreCall) (entries : Entries) (boxes : Boxes) (k : KeeperIs) (has : HasStore s entries boxes) where
  stays-so : s ≡ record s { entries = entries; connections = s.connections }
  stays-so = λ i. record s { entries = has.stored i }

  -- a refusal
  pub refusal-served : (code : Code) → is_fault_code code ≡ false → bus_walk s c (Request.Store call) [] ≡ Answers (Refuses code) → ServesStore s c call k entries boxes k (answered_call (Answer.Refused code))
  refusal-served code n e = record {
    after = s;
    serves = refused-follows s c (Request.Store call) code k k e refl refl;
    kept = λ h. h;
    has = has;
    stays = stays-so;
    connected = refl;
    outside = gives-code call k code n;
  }

  -- an answer that tells what was read
  pub read-served : (answer : Answer) → is_refusal answer ≡ false → bus_walk s c (Request.Store call) [] ≡ Answers (does (record s { entries = entries }) answer) → ServesStore s c call k entries boxes k (answered_call answer)
  read-served answer n e =
      let after : State = record s { entries = entries } in
      let same : records_of after ≡ records_of s = λ i. record (records_of s) { entries = map record_of (sym has.stored i) } in
      record {
        after = after;
        serves = record {
          serves = done-serves s c (Request.Store call) after answer e;
          keeper = change-went s c (Request.Store call) (does after answer) after e None k k false (λ changes. changes.1 same) (refl, refl);
        };
        kept = change-kept s after k k false None same (refl, refl);
        has = record { stored = refl; waiting = has.waiting };
        stays = refl;
        connected = refl;
        outside = gives-answer call k answer n;
      }

  pub passed-refused : (error : StoreError) (code : Code) → is_fault_code code ≡ false → refusal_of c.who call ≡ None → store_call call entries ≡ Err error → store_verdict s call (Err error) ≡ Refuses code → ServesStore s c call k entries boxes k (answered_call (Answer.Refused code))
  passed-refused error code n p e v =
      refusal-served code n (ap (λ (x : Verdict). Answers x) (passed-is s c.who call p ∙ (ap (λ (es : Entries). store_verdict s call (store_call call es)) has.stored ∙ (ap (store_verdict s call) e ∙ v))))

-- refused ahead of the tables
pub refusal-follows : (who : Who) (call : StoreCall) (code : Code) (entries : Entries) (boxes : Boxes) (k : KeeperIs) → refusal_of who call ≡ Some code →
    (s : State) (c : Connection) → c.who ≡ who → HasStore s entries boxes → ServesStore s c call k entries boxes k (answered_call (Answer.Refused code))
refusal-follows who call code entries boxes k r s c w h =
    refusal-served s c call entries boxes k h code (refused-plain who call code r) (ap (λ (x : Verdict). Answers x) (refused-is s c.who call code (ap (λ (x : Who). refusal_of x call) w ∙ r)))

-- the same of a call that isn't refused so, by its caller
pub passed-follows : (who : Who) (call : StoreCall) (entries entries' : Entries) (boxes boxes' : Boxes) (old new : KeeperIs) (r : Result ServedCall WantOfMemory) → refusal_of who call ≡ None →
    IfOk r (StoreServed call entries boxes old entries' boxes' new) → IfOk r (λ served. (s : State) (c : Connection) → c.who ≡ who → HasStore s entries boxes → ServesStore s c call old entries' boxes' new served)
passed-follows who call entries entries' boxes boxes' old new r p =
    if_ok (StoreServed call entries boxes old entries' boxes' new) (λ served. (s : State) (c : Connection) → c.who ≡ who → HasStore s entries boxes → ServesStore s c call old entries' boxes' new served) r
    (λ served k. λ s c w h. k s c (ap (λ (x : Who). refusal_of x call) w ∙ p) h)

-- ---- what the tables refuse, and what they tell

module _ (call : StoreCall) (entries : Entries) (boxes : Boxes) (k : KeeperIs) where
  abbrev Serves : ServedCall → Type 0
  Serves served = StoreServed call entries boxes k entries boxes k served

  pub error-follows : (error : StoreError) → Gives (store_call call entries) entries entries (Err error) → IfOk (refused_call error) Serves
  error-follows NotFound g = λ s c p h. passed-refused s c call entries boxes k h NotFound Code.NotFound refl p g.0 refl
  error-follows TooLong g = λ s c p h. passed-refused s c call entries boxes k h TooLong Code.LimitsExceeded refl p g.0 refl
  error-follows Memory g = tt

  verdict-told : (s : State) (c : Connection) (answer : StoreAnswer) → refusal_of c.who call ≡ None → HasStore s entries boxes → store_call call entries ≡ Ok (entries, answer) → bus_walk s c (Request.Store call) [] ≡ Answers (store_verdict s call (Ok (entries, answer)))
  verdict-told s c answer p h e =
      ap (λ (x : Verdict). Answers x) (passed-is s c.who call p ∙ (ap (λ (es : Entries). store_verdict s call (store_call call es)) h.stored ∙ ap (store_verdict s call) e))

  told-follows : (answer : StoreAnswer) → Tells entries entries answer → store_call call entries ≡ Ok (entries, answer) → IfOk (read_call (Ok answer)) Serves
  told-follows (StoreAnswer.Done change) t e = absurd t
  told-follows StoreAnswer.Kept t e = absurd t
  told-follows (StoreAnswer.Entry rows datum) t e = λ s c p h. read-served s c call entries boxes k h (Answer.Entry rows datum) refl (verdict-told s c (StoreAnswer.Entry rows datum) p h e)
  told-follows (StoreAnswer.Names names) t e = λ s c p h. read-served s c call entries boxes k h (Answer.Names names) refl (verdict-told s c (StoreAnswer.Names names) p h e)

  answer-follows : (answer : Result StoreAnswer StoreError) → may_change_entries call ≡ false → Gives (store_call call entries) entries entries answer → IfOk (read_call answer) Serves
  answer-follows (Ok answer) r g = told-follows answer (call-reads call entries entries answer r g) g
  answer-follows (Err error) r g = error-follows error g

  pub read-follows : (answer : Result StoreAnswer StoreError) (result : Result ServedCall WantOfMemory) → may_change_entries call ≡ false → Gives (store_call call entries) entries entries answer → result ≡ read_call answer → IfOk result Serves
  read-follows answer result r g e = subst (λ (x : Result ServedCall WantOfMemory). IfOk x Serves) (sym e) (answer-follows answer r g)

-- ---- a change that is told, and kept or taken back

abbrev pub ToldUnless : Bool → Change → Boxes → Boxes → Type 0
ToldUnless failed change old new = MatchBool failed (IsSame old new) (AtEach (told change) old new)

module _ (s : State) (c : Connection) (call : StoreCall) (before : Entries) (boxes boxes' : Boxes) (old new : KeeperIs) (has : HasStore s before boxes) (entries : Entries) (change : Change) where
  abbrev after : State
  after = tell_hosts change (record s { entries = entries })

  module _ (made : Option RecordChange) (mays : may_change_entries call ≡ true) (walk : bus_walk s c (Request.Store call) [] ≡ Answers (does after Answer.Done)) (changes : Changes s after made) where
    pub change-served : (failed : Bool) (entries' : Entries) → AppliedIf made old failed new → entries' ≡ cond failed before entries → ToldUnless failed change boxes boxes' →
        ServesStore s c call old entries' boxes' new (done_with failed)
    change-served true entries' a e t = record {
      after = s;
      serves = change-follows s c (Request.Store call) after false refl walk made old new true (changes-match s after made changes) a;
      kept = change-kept s after old new true made changes a;
      has = record { stored = has.stored ∙ sym e; waiting = same-waits s.connections boxes boxes' t has.waiting };
      stays = λ i. record s { entries = (has.stored ∙ sym e) i };
      connected = refl;
      outside = gives-change call old new true made mays a;
    }
    change-served false entries' a e t = record {
      after = after;
      serves = change-follows s c (Request.Store call) after false refl walk made old new false (changes-match s after made changes) a;
      kept = change-kept s after old new false made changes a;
      has = record { stored = sym e; waiting = told-waits change s.connections boxes boxes' t has.waiting };
      stays = λ i. record after { entries = sym e i };
      connected = told-silent change s.connections;
      outside = gives-change call old new false made mays a;
    }

-- ---- a call that sets an entry, or takes a row out of one

mays-change : (call : StoreCall) → changes_an_entry call ≡ true → may_change_entries call ≡ true
mays-change (StoreCall.Set table create id rows datum) k = refl
mays-change (StoreCall.SetValue table create id datum) k = refl
mays-change (StoreCall.SetPermission table create id app names) k = refl
mays-change (StoreCall.DeletePermission table id app) k = refl
mays-change (StoreCall.Delete table id) k = refl
mays-change (StoreCall.Lookup table id) k = cc
mays-change (StoreCall.GetPermission table id app) k = cc
mays-change (StoreCall.List table) k = cc

module _ (call : StoreCall) (before entries : Entries) (table id : List ℕ) (former : Option TableEntry) where
  -- want of memory, or a fault: the entry is as before
  pub done-back : (change : Change) (entries' : Entries) → IsMadeOf call before entries table id former (Ok (StoreAnswer.Done change)) → entries' ≡ put_back table id former entries → entries' ≡ before
  done-back change entries' m e =
      let puts : Puts call before entries (StoreAnswer.Done change) = call-puts call before entries (StoreAnswer.Done change) m.kind m.gives in
      e ∙ put-back (entry_told change) before entries table id former (puts.2 ∙ m.table_is) (puts.3 ∙ m.id_is) m.former_is puts.0

  pub kept-back : IsMadeOf call before entries table id former (Ok StoreAnswer.Kept) → entries ≡ before
  kept-back m = call-puts call before entries StoreAnswer.Kept m.kind m.gives

  -- no such call tells what it read
  pub entry-never : (answer : StoreAnswer) → ((change : Change) → answer ≡ StoreAnswer.Done change → ⊥) → (answer ≡ StoreAnswer.Kept → ⊥) → IsMadeOf call before entries table id former (Ok answer) → ⊥
  entry-never (StoreAnswer.Done change) d k m = d change refl
  entry-never StoreAnswer.Kept d k m = k refl
  entry-never (StoreAnswer.Entry rows datum) d k m = call-puts call before entries (StoreAnswer.Entry rows datum) m.kind m.gives
  entry-never (StoreAnswer.Names names) d k m = call-puts call before entries (StoreAnswer.Names names) m.kind m.gives

  pub error-back : (error : StoreError) → IsMadeOf call before entries table id former (Err error) → entries ≡ before
  error-back NotFound m = m.gives.1
  error-back TooLong m = m.gives.1
  error-back Memory m = m.gives

  pub refused-settled : (error : StoreError) (boxes : Boxes) (k : KeeperIs) → IsMadeOf call before entries table id former (Err error) → IfOk (refused_call error) (StoreServed call before boxes k entries boxes k)
  refused-settled error boxes k m =
      let same : entries ≡ before = error-back error m in
      subst (λ (es : Entries). IfOk (refused_call error) (StoreServed call before boxes k es boxes k)) (sym same)
      (error-follows call before boxes k error (subst (λ (es : Entries). Gives (store_call call before) before es (Err error)) same m.gives))

  -- it is done
  pub done-follows : (change : Change) (entries' : Entries) (boxes boxes' : Boxes) (old new : KeeperIs) (failed : Bool) (made : Option RecordChange) → IsMadeOf call before entries table id former (Ok (StoreAnswer.Done change)) →
      SetsRecord (former_record change.table change.id former) (record_of (entry_told change)) made → AppliedIf made old failed new → entries' ≡ cond failed (put_back table id former entries) entries → ToldUnless failed change boxes boxes' →
      StoreServed call before boxes old entries' boxes' new (done_with failed)
  done-follows change entries' boxes boxes' old new failed made m r a e t = λ s c p h.
      let puts : Puts call before entries (StoreAnswer.Done change) = call-puts call before entries (StoreAnswer.Done change) m.kind m.gives in
      let told_entry : StoredEntry = entry_told change in
      let table_is : told_entry.table ≡ table = puts.2 ∙ m.table_is in
      let id_is : told_entry.id ≡ id = puts.3 ∙ m.id_is in
      let was : former ≡ former_of before told_entry.table told_entry.id = m.former_is ∙ (λ i. former_of before (sym table_is i) (sym id_is i)) in
      let back : put_back table id former entries ≡ before = done-back change (put_back table id former entries) m refl in
      change-served s c call before boxes boxes' old new h entries change made (mays-change call m.kind)
      (ap (λ (x : Verdict). Answers x) (passed-is s c.who call p ∙ (ap (λ (es : Entries). store_verdict s call (store_call call es)) h.stored ∙ ap (store_verdict s call) m.gives)))
      (set-changes s before entries told_entry h.stored puts.0 change former made was r)
      failed entries' a (e ∙ ap (λ (es : Entries). cond failed es entries) back) t

  -- it leaves the entry as it stands, and this is told
  pub kept-follows : (boxes boxes' : Boxes) (k : KeeperIs) → IsMadeOf call before entries table id former (Ok StoreAnswer.Kept) → ToldIfThere (entry_with table id former) boxes boxes' →
      StoreServed call before boxes k entries boxes' k (answered_call Answer.Done)
  kept-follows boxes boxes' k m t = λ s c p h. step s c p h (entry_with table id former) refl t
    where
      same : entries ≡ before
      same = kept-back m

      stands : entry_with table id former ≡ entry_of entries (table_of call) (identifier_of call)
      stands =
          ap (entry_with table id) m.former_is
          ∙ (former-entry table id before ∙ (λ i. entry_of (sym same i) (sym m.table_is i) (sym m.id_is i)))

      walk-kept : (s : State) (c : Connection) → refusal_of c.who call ≡ None → HasStore s before boxes → (o : Option StoredEntry) → entry_with table id former ≡ o →
          bus_walk s c (Request.Store call) [] ≡ Answers (does (tell_kept o (record s { entries = entries })) Answer.Done)
      walk-kept s c p h o is =
          ap (λ (x : Verdict). Answers x) (passed-is s c.who call p ∙ (ap (λ (es : Entries). store_verdict s call (store_call call es)) h.stored ∙ (ap (store_verdict s call) m.gives
          ∙ ap (λ (x : Option StoredEntry). does (tell_kept x (record s { entries = entries })) Answer.Done) (sym stands ∙ is))))

      step : (s : State) (c : Connection) → refusal_of c.who call ≡ None → HasStore s before boxes → (o : Option StoredEntry) → entry_with table id former ≡ o → ToldIfThere o boxes boxes' →
          ServesStore s c call k entries boxes' k (answered_call Answer.Done)
      step s c p h None is t =
          let now : HasStore s entries boxes' = record { stored = h.stored ∙ sym same; waiting = same-waits s.connections boxes boxes' t h.waiting } in
          read-served s c call entries boxes' k now Answer.Done refl (walk-kept s c p h None is)
      step s c p h (Some e) is t =
          change-served s c call before boxes boxes' k k h entries (change_of false e) None (mays-change call m.kind) (walk-kept s c p h (Some e) is)
          (λ i. record (records_of s) { entries = map record_of ((same ∙ sym h.stored) i) })
          false entries (refl, refl) refl t

-- ---- a Delete

module _ (before : Entries) (table id : List ℕ) (boxes : Boxes) where
  abbrev deletion : StoreCall
  deletion = StoreCall.Delete table id

  none-there : (o : Option StoredEntry) → None ≡ option_map content_of o → o ≡ None
  none-there None e = refl
  none-there (Some e) f = cc

  pub missing-follows : (k : KeeperIs) → None ≡ former_of before table id → StoreServed deletion before boxes k before boxes k (answered_call (Answer.Refused Code.NotFound))
  missing-follows k f = λ s c p h.
      let none : entry_of before table id ≡ None = none-there (entry_of before table id) f in
      passed-refused s c deletion before boxes k h NotFound Code.NotFound refl p
      (ap (λ (o : Option StoredEntry). with_entry o (λ e. Ok (without_entry table id before, StoreAnswer.Done (change_of true e)))) none) refl

  pub delete-follows : (former : TableEntry) (change : Change) (entries' : Entries) (boxes' : Boxes) (old new : KeeperIs) (failed : Bool) → Some former ≡ former_of before table id → change ≡ change_of true (with_content table id former) →
      AppliedIf (Some (RemoveEntry table id)) old failed new → entries' ≡ cond failed before (without_entry table id before) → ToldUnless failed change boxes boxes' →
      StoreServed deletion before boxes old entries' boxes' new (done_with failed)
  delete-follows former change entries' boxes' old new failed f d a e t = λ s c p h.
      let entry : StoredEntry = with_content table id former in
      let there : entry_of before table id ≡ Some entry = sym (former-entry table id before) ∙ ap (entry_with table id) (sym f) in
      let gives : store_call deletion before ≡ Ok (without_entry table id before, StoreAnswer.Done change) =
      ap (λ (o : Option StoredEntry). with_entry o (λ x. Ok (without_entry table id before, StoreAnswer.Done (change_of true x)))) there
      ∙ ap (λ (x : Change). let made : Outcome = Ok (without_entry table id before, StoreAnswer.Done x) in made) (sym d) in
      change-served s c deletion before boxes boxes' old new h (without_entry table id before) change (Some (RemoveEntry table id)) refl
      (ap (λ (x : Verdict). Answers x) (passed-is s c.who deletion p ∙ (ap (λ (es : Entries). store_verdict s deletion (store_call deletion es)) h.stored ∙ ap (store_verdict s deletion) gives)))
      (gone-changes s before table id entry h.stored there change)
      failed entries' a e t
