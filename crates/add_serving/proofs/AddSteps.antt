-- An addition over the portal's lists is that of the sequential portal.
use Rattle.std.proofs.Common.{◌≡◌, ℕ, ◌+◌, ◌-◌, ◌≤◌, nat_le, length, length-append, List, [], ◌∷◌, ◌++◌, drop, map, take, Bool, true, false, not, ◌&&◌, cond, Option, Some, None, is_some, option_map, Result, IfOk, IfSome, refl, sym, ap, subst, ◌∙◌, arith}
use Rattle.std.specs.List.{flat_map, list_all}
use Rattle.std.proofs.lemmas.Bool.Decides.{nat_tests}
use Rattle.portal_base.specs.Names.{child_of}
use Rattle.file_generations.specs.Generations.{Held}
use Rattle.portal_base.specs.declared.files.Look.{Look}
use Rattle.portal_base.specs.declared.memory.WantOfMemory.{WantOfMemory}
use Rattle.portal_base.specs.declared.names.doc_id.DocId.{DocId}
use Rattle.portal_base.specs.declared.who.Who.{Who}
use Rattle.portal_model.specs.declared.entry.Fault.{Fault}
use Rattle.portal_model.specs.declared.entry.Given.{Given}
use Rattle.portal_model.specs.declared.records.RecordChange.{RecordChange}
use Rattle.portal_model.specs.declared.records.Records.{Records}
use Rattle.portal_model.specs.declared.reply.Answer.{Answer}
use Rattle.portal_model.specs.declared.reply.Code.{Code}
use Rattle.portal_model.specs.declared.request.AddRequest.{AddRequest}
use Rattle.portal_model.specs.declared.request.Request.{Request}
use Rattle.portal_model.specs.declared.state.Connection.{Connection}
use Rattle.portal_model.specs.Add.{Added, add, add_presented, add_shown, added, added_files, are_exported, are_folders_and_files, are_of_kind, is_file, taken_from_queue}
use Rattle.portal_model.specs.AddArguments.{are_presented, document_path, exports, paths_looked_at, paths_shown}
use Rattle.portal_model.specs.Arguments.{ahead_of_end}
use Rattle.portal_model.specs.Bus.{is_tree, moment_given, settled}
use Rattle.portal_model.specs.Grant.{exceeds_limits}
use Rattle.portal_model.specs.Kept.{records_of}
use Rattle.portal_model.specs.Outside.{AreDrawn, ChangesRecords, files_told, meets_limit, verdict_of, words_drawn}
use Rattle.portal_model.specs.Present.{with_queue}
use Rattle.portal_model.specs.RecordChanges.{changed_by}
use Rattle.portal_model.specs.State.{State}
use Rattle.portal_model.specs.Valid.{Valid}
use Rattle.portal_model.specs.Verdict.{Verdict, Refuses, Does, refuses, unless, walk_unless}
use Rattle.portal_model.specs.Walk.{Walk, Answers, Gives, looks_at_all, reads_clock, walked}
use Rattle.portal_model.proofs.DrawnNumbers.{drawn-length}
use Rattle.add_files.specs.Items.{are_below, paths_of, presented_of}
use Rattle.add_files.specs.Plans.{IsAsked, IsOfCall, IsPlan, IsRefused, as_added, followed, id_told}
use Rattle.add_files.specs.declared.plan.AddError.{AddError}
use Rattle.add_files.specs.declared.plan.AddError.TheVariants.{InvalidArgument, NotAllowed, Memory}
use Rattle.add_files.specs.declared.plan.AddPlan.{AddPlan}
use Rattle.add_calls.specs.Limits.{exceeds_planned}
use Rattle.add_calls.specs.Placing.{Book, HasDrawnUpTo, followed_at, with_lists}
use Rattle.add_calls.specs.Shown.{Shows}
use Rattle.add_calls.proofs.Counts.{as-planned}
use Rattle.add_calls.proofs.ShownLemmas.{gives-shown, walked-shown}
use Rattle.document_calls.specs.Books.{IsBook, IsQueue, queue_set, with_book}
use Rattle.document_calls.specs.KeeperCalls.{KeeperWent, KeepsRecords, ServesKept, fault_if}
use Rattle.document_calls.specs.Serves.{Serves, given_with}
use Rattle.document_calls.specs.declared.served.ServedCall.{ServedCall}
use Rattle.document_calls.proofs.QueueSteps.{same-queue, same-queues}
use Rattle.document_calls.proofs.ServedSteps.{same-told, walk-serves}
use Rattle.record_keeper.specs.Keepers.{KeeperIs, after_call}
use Rattle.add_serving.specs.Adds.{Adds, DrewNoMore, IsPlanOf, IsReached, PlacedKept, documents_made, left_by}
use Rattle.add_serving.specs.Changes.{AppliedWhere, changes_of, plan_changes}
use Rattle.add_serving.specs.Outcomes.{full_call, placed_call, queue_left, refusal, refused_call, undrawn, unseen_call}
use Rattle.add_serving.specs.declared.outcomes.AddedFiles.{AddedFiles}
use Rattle.add_serving.proofs.RecordSteps.{changes-make-them, records-differ, records-stay}

-- ---- a walk that looks at paths

no-clock : {X : Type 0} (paths : List (List ℕ)) (next : List Look → Walk X) (answer : List Look → X) (looks : List Look) → ((ls : List Look) → next ls ≡ Answers (answer ls)) → reads_clock (looks_at_all paths next) looks ≡ false
no-clock [] next answer looks e = ap (λ (w : Walk _). reads_clock w looks) (e [])
no-clock (p ∷ ps) next answer [] e = refl
no-clock (p ∷ ps) next answer (l ∷ ls) e = no-clock ps (λ looks. next (l ∷ looks)) (λ looks. answer (l ∷ looks)) ls (λ looks. e (l ∷ looks))

no-keeper : {P : Type 0} → Fault.None ≡ Fault.Keeper → P
no-keeper h = cc

no-tree : {P : Type 0} → Fault.Tree ≡ Fault.Keeper → P
no-tree h = cc

told-changed : (changes : List RecordChange) (told : Option Records) (r after : Records) → IfSome told (λ records. records ≡ r) → changed_by changes r ≡ after → option_map (changed_by changes) told ≡ option_map (λ _. after) told
told-changed changes None r after h e = refl
told-changed changes (Some x) r after h e = ap (λ (y : Records). Some y) (ap (changed_by changes) h ∙ e)

module _ (s : State) (c : Connection) (a : AddRequest) (plan : AddPlan) (is : IsPlan s c a plan) (g : Given) (now : g.now ≡ None) (unlisted : g.listed ≡ None) (unmade : g.generation ≡ None) (shown : Shows (files_told s) (paths_shown c.queue a) g.looks (is_tree g.fault)) where
  abbrev looked : List Look → Verdict
  looked looks = unless (not (are_of_kind a (paths_shown c.queue a) looks)) Code.InvalidArgument (added s (added_files s c a g.numbers))

  verdict-is : verdict_of s c (Request.Add a) g ≡ cond (is_tree g.fault) None (Some (looked g.looks))
  verdict-is =
      ap (λ (w : Walk Verdict). walked w (moment_given g.now) g.looks (is_tree g.fault)) (is.passes g.numbers)
      ∙ walked-shown (files_told s) (paths_shown c.queue a) (add_shown s c a g.numbers) looked (moment_given g.now) g.looks (is_tree g.fault) (λ ls. refl) shown

  module _ (v : Option Verdict) (e : cond (is_tree g.fault) None (Some (looked g.looks)) ≡ v) where
    verdict-so : verdict_of s c (Request.Add a) g ≡ v
    verdict-so = verdict-is ∙ e

    looked-serves : (after : State) (answer : Answer) → length g.words ≡ words_drawn v → AreDrawn s.made g.words g.numbers → g.full ≡ meets_limit v → (g.fault ≡ Fault.Keeper → ChangesRecords s v) →
        settled s (taken_from_queue c a s) g v ≡ (after, answer) → Serves s c (Request.Add a) g after answer
    looked-serves after answer w n f k t = record {
      lawful = record {
        looks = subst (λ (x : Walk Verdict). Gives (files_told s) x g.looks (is_tree g.fault)) (sym (is.passes g.numbers))
            (gives-shown (files_told s) (paths_shown c.queue a) (add_shown s c a g.numbers) looked g.looks (is_tree g.fault) (λ ls. refl) shown);
        clock = ap is_some now ∙ sym (ap (λ (x : Walk Verdict). reads_clock x g.looks) (is.passes g.numbers) ∙ no-clock (paths_shown c.queue a) (add_shown s c a g.numbers) looked g.looks (λ ls. refl));
        listed = unlisted;
        generation = unmade;
        words = w ∙ sym (ap words_drawn verdict-so);
        numbers = n;
        full = f ∙ sym (ap meets_limit verdict-so);
        keeper = λ h. subst (ChangesRecords s) (sym verdict-so) (k h);
      };
      step = ap (λ (o : Option Verdict). settled s (taken_from_queue c a s) g o) verdict-so ∙ t;
    }

    looked-uncalled : (after : State) (k : KeeperIs) → (ChangesRecords s v → ⊥) → KeeperWent s c (Request.Add a) g after k k
    looked-uncalled after k none = record {
      called = λ changes. absurd (none (subst (ChangesRecords s) verdict-so changes));
      uncalled = λ _. refl;
    }

-- ---- nothing is asked

refused-add : (s : State) (c : Connection) (a : AddRequest) (code : Code) (k : KeeperIs) → add s c a [] ≡ refuses code →
    ServesKept s c (Request.Add a) (given_with false Fault.None) (taken_from_queue c a s) (Answer.Refused code) k k
refused-add s c a code k e = record {
  serves = walk-serves s c (Request.Add a) (Refuses code) e false Fault.None (taken_from_queue c a s) (Answer.Refused code) refl refl refl (λ h. no-keeper h) refl;
  keeper = λ kept. record {
    called = λ changes. absurd (subst (ChangesRecords s) (ap (λ (w : Walk Verdict). walked w 0 [] false) e) changes);
    uncalled = λ _. refl;
  };
}

-- ---- a call that is reached

module _ (s : State) (c : Connection) (a : AddRequest) (who : Who) (paths : List (List ℕ)) (before : Book) (told : Option Held) (r : IsReached s c a who paths before told) where
  abbrev left : State
  left = with_queue c.seat (drop a.fds) s

  taken-is : taken_from_queue c a s ≡ left
  taken-is = ap (λ (b : Bool). cond b left s) r.presented

  same-lists : with_lists s before ≡ s
  same-lists = λ i. record s { documents = sym r.book.live i; made = sym r.book.made i; rights = sym r.book.held i; applications = sym r.book.numbered i }

  left-lists : taken_from_queue c a s ≡ left_by Fault.None c a (with_lists s before)
  left-lists = taken-is ∙ ap (with_queue c.seat (drop a.fds)) (sym same-lists)

  pub plan-refused : (code : Code) (k : KeeperIs) → add s c a [] ≡ refuses code →
      ServesKept s c (Request.Add a) (given_with false Fault.None) (left_by Fault.None c a (with_lists s before)) (Answer.Refused code) k k
  plan-refused code k e = subst (λ (t : State). ServesKept s c (Request.Add a) (given_with false Fault.None) t (Answer.Refused code) k k) left-lists (refused-add s c a code k e)

  module _ (plan : AddPlan) (is : IsPlan s c a plan) (looks : List Look) where
    abbrev shown_paths : List (List ℕ)
    shown_paths = flat_map (paths_looked_at a) (presented_of paths a.handles)

    shown-are : (failed : Bool) → Shows told shown_paths looks failed → Shows (files_told s) (paths_shown c.queue a) looks failed
    shown-are failed h =
        subst (λ (files : Option Held). Shows files (paths_shown c.queue a) looks failed) (sym r.files)
        (subst (λ (ps : List (List ℕ)). Shows told ps looks failed) (ap (λ (l : List (List ℕ)). flat_map (paths_looked_at a) (presented_of l a.handles)) (sym r.asked.taken)) h)

    -- the tree failed
    pub unseen-adds : (k : KeeperIs) → Shows told shown_paths looks true → ServesKept s c (Request.Add a) (unseen_call looks).given (left_by Fault.Tree c a (with_lists s before)) (unseen_call looks).answer k k
    unseen-adds k h =
        let g : Given = undrawn looks false Fault.Tree in
        let shown = shown-are true h in
        subst (λ (t : State). ServesKept s c (Request.Add a) g t (Answer.Refused Code.Failed) k k) (sym same-lists)
        (record {
          serves = looked-serves s c a plan is g refl refl refl shown None refl s (Answer.Refused Code.Failed) refl tt refl (λ f. no-tree f) refl;
          keeper = λ kept. looked-uncalled s c a plan is g refl refl refl shown None refl s k (λ none. none);
        })

    -- a file is of the wrong kind
    pub kinds-add : (k : KeeperIs) → Shows told shown_paths looks false → are_of_kind a (paths_shown c.queue a) looks ≡ false →
        ServesKept s c (Request.Add a) (refused_call Code.InvalidArgument looks).given (left_by Fault.None c a (with_lists s before)) (refused_call Code.InvalidArgument looks).answer k k
    kinds-add k h kinds =
        let g : Given = undrawn looks false Fault.None in
        let shown = shown-are false h in
        let v : Option Verdict = Some (Refuses Code.InvalidArgument) in
        let e : Some (unless (not (are_of_kind a (paths_shown c.queue a) looks)) Code.InvalidArgument (added s (added_files s c a []))) ≡ v = ap (λ (b : Bool). Some (unless (not b) Code.InvalidArgument (added s (added_files s c a [])))) kinds in
        subst (λ (t : State). ServesKept s c (Request.Add a) g t (Answer.Refused Code.InvalidArgument) k k) left-lists
        (record {
          serves = looked-serves s c a plan is g refl refl refl shown v e (taken_from_queue c a s) (Answer.Refused Code.InvalidArgument) refl tt refl (λ f. no-keeper f) refl;
          keeper = λ kept. looked-uncalled s c a plan is g refl refl refl shown v e (taken_from_queue c a s) k (λ none. none);
        })

    module _ (call : IsOfCall who a plan) where
      follow-is : (numbers : List DocId) → added_files s c a numbers ≡ as_added (followed who a plan left numbers)
      follow-is numbers = is.does numbers ∙ (λ i. as_added (followed (r.asked.caller i) a plan (taken-is i) numbers))

      exceeds-is : (numbers : List DocId) → exceeds_limits (added_files s c a numbers).state ≡ exceeds_planned before.documents before.applications who plan
      exceeds-is numbers =
          let p = as-planned who a plan before.documents left numbers call r.book.live r.book.made r.book.most_live r.book.most_made in
          ap (λ (d : Added). exceeds_limits d.state) (follow-is numbers)
          ∙ (p.exceeds ∙ ap (λ (apps : List (List ℕ)). exceeds_planned before.documents apps who plan) r.book.numbered)

      -- a limit is met
      pub full-adds : (k : KeeperIs) → Shows told shown_paths looks false → are_of_kind a (paths_shown c.queue a) looks ≡ true → exceeds_planned before.documents before.applications who plan ≡ true →
          ServesKept s c (Request.Add a) (full_call looks).given (left_by Fault.None c a (with_lists s before)) (full_call looks).answer k k
      full-adds k h kinds met =
          let g : Given = undrawn looks true Fault.None in
          let shown = shown-are false h in
          let done : Added = added_files s c a [] in
          let v : Option Verdict = Some (Does (record { state = done.state; answer = Answer.Ids done.ids; makes = length done.state.made - length s.made; exceeds = true })) in
          let e : Some (unless (not (are_of_kind a (paths_shown c.queue a) looks)) Code.InvalidArgument (added s done)) ≡ v =
          ap (λ (b : Bool). Some (unless (not b) Code.InvalidArgument (added s done))) kinds
          ∙ ap (λ (b : Bool). Some (Does (record { state = done.state; answer = Answer.Ids done.ids; makes = length done.state.made - length s.made; exceeds = b }))) (exceeds-is [] ∙ met) in
          subst (λ (t : State). ServesKept s c (Request.Add a) g t (Answer.Refused Code.LimitsExceeded) k k) left-lists
          (record {
            serves = looked-serves s c a plan is g refl refl refl shown v e (taken_from_queue c a s) (Answer.Refused Code.LimitsExceeded) refl tt refl (λ f. no-keeper f) refl;
            keeper = λ kept. looked-uncalled s c a plan is g refl refl refl shown v e (taken_from_queue c a s) k (λ none. let no : true ≡ false = none.0 in cc);
          })

      -- the files are placed
      module _ (words_told words_after : Option (List ℕ)) (after : Book) (old new : KeeperIs) (files : AddedFiles) (placed : PlacedKept who a plan before after words_told words_after old new files)
          (h : Shows told shown_paths looks false) (kinds : are_of_kind a (paths_shown c.queue a) looks ≡ true) (within : exceeds_planned before.documents before.applications who plan ≡ false) where
        abbrev then : Book
        then = placed.between

        abbrev numbers : List DocId
        numbers = files.drawn.numbers

        left-same : with_lists left before ≡ left
        left-same = λ i. record left { documents = sym r.book.live i; made = sym r.book.made i; rights = sym r.book.held i; applications = sym r.book.numbered i }

        done-is : added_files s c a numbers ≡ record { state = with_lists left then; numbers = []; ids = map id_told files.drawn.documents }
        done-is = follow-is numbers ∙ (ap (λ (t : State). as_added (followed who a plan t numbers)) (sym left-same) ∙ ap as_added (placed.follows.follows left))

        made-is : then.documents.made ≡ s.made ++ numbers
        made-is = placed.follows.made ∙ ap (λ (m : List DocId). m ++ numbers) (sym r.book.made)

        drawn-are : AreDrawn s.made files.drawn.words numbers
        drawn-are = subst (λ (m : List DocId). AreDrawn m files.drawn.words numbers) (sym r.book.made) placed.follows.drawn_for

        more-made : (n m k w : ℕ) → n ≡ m + k → w ≡ k → n - m ≡ w
        more-made n m k w e f = omega arith

        makes-is : length (added_files s c a numbers).state.made - length s.made ≡ length files.drawn.words
        makes-is =
            ap (λ (d : Added). length d.state.made - length s.made) done-is
            ∙ more-made (length then.documents.made) (length s.made) (length numbers) (length files.drawn.words) (ap (λ (m : List DocId). length m) made-is ∙ length-append s.made numbers)
            (drawn-length s.made files.drawn.words numbers drawn-are)

        abbrev doing : Option Verdict
        doing = Some (Does (record { state = with_lists left then; answer = Answer.Ids files.ids; makes = length files.drawn.words; exceeds = false }))

        doing-is : Some (unless (not (are_of_kind a (paths_shown c.queue a) looks)) Code.InvalidArgument (added s (added_files s c a numbers))) ≡ doing
        doing-is =
            ap (λ (b : Bool). Some (unless (not b) Code.InvalidArgument (added s (added_files s c a numbers)))) kinds
            ∙ (λ i. Some (Does (record {
              state = (done-is i).state;
              answer = Answer.Ids ((ap (λ (d : Added). d.ids) done-is ∙ sym placed.ids) i);
              makes = makes-is i;
              exceeds = (exceeds-is numbers ∙ within) i;
            })))

        follows-here : followed who a plan s numbers ≡ followed_at s then [] files.drawn.documents
        follows-here = ap (λ (t : State). followed who a plan t numbers) (sym same-lists) ∙ placed.follows.follows s

        applied : AppliedWhere (plan_changes s.documents s.rights who a plan) (changes_of (length s.documents) then.documents.live then.rights files.drawn.documents) old files.failed new
        applied =
            subst (λ (b : Bool). AppliedWhere b (changes_of (length s.documents) then.documents.live then.rights files.drawn.documents) old files.failed new) (λ i. plan_changes (sym r.book.live i) (sym r.book.held i) who a plan)
            (subst (λ (ds : List _). AppliedWhere (plan_changes before.documents.live before.rights who a plan) (changes_of (length ds) then.documents.live then.rights files.drawn.documents) old files.failed new) (sym r.book.live) placed.called)

        differ : plan_changes s.documents s.rights who a plan ≡ true → records_of (with_lists left then) ≡ records_of s → ⊥
        differ = records-differ s r.valid who a plan call files.drawn.words numbers drawn-are then made-is files.drawn.documents follows-here

        stay : plan_changes s.documents s.rights who a plan ≡ false → records_of (with_lists left then) ≡ records_of s
        stay = records-stay s r.valid who a plan call files.drawn.words numbers drawn-are then made-is files.drawn.documents follows-here

        make : changed_by (changes_of (length s.documents) then.documents.live then.rights files.drawn.documents) (records_of s) ≡ records_of (with_lists left then)
        make = changes-make-them s r.valid who a plan call files.drawn.words numbers drawn-are then made-is files.drawn.documents follows-here

        abbrev given : Bool → Given
        given failed = record { now = None; words = files.drawn.words; numbers = numbers; looks = looks; listed = None; generation = None; full = false; fault = fault_if failed }

        abbrev answered : Bool → Answer
        answered failed = cond failed (Answer.Refused Code.Failed) (Answer.Ids files.ids)

        changing : (b : Bool) → plan_changes s.documents s.rights who a plan ≡ b → AppliedWhere b (changes_of (length s.documents) then.documents.live then.rights files.drawn.documents) old true new → ChangesRecords s doing
        changing true p w = (refl, differ p)
        changing false p w = let no : true ≡ false = w.0 in cc

        serves-so : (failed : Bool) → (failed ≡ true → ChangesRecords s doing) → Serves s c (Request.Add a) (given failed) (cond failed s (with_lists left then)) (answered failed)
        serves-so true k = looked-serves s c a plan is (given true) refl refl refl (shown-are false h) doing doing-is s (Answer.Refused Code.Failed) refl drawn-are refl (λ f. k refl) refl
        serves-so false k = looked-serves s c a plan is (given false) refl refl refl (shown-are false h) doing doing-is (with_lists left then) (Answer.Ids files.ids) refl drawn-are refl (λ f. no-keeper f) refl

        went : (b failed : Bool) → plan_changes s.documents s.rights who a plan ≡ b → AppliedWhere b (changes_of (length s.documents) then.documents.live then.rights files.drawn.documents) old failed new → KeepsRecords s old →
            KeeperWent s c (Request.Add a) (given failed) (cond failed s (with_lists left then)) old new
        went false true p w kept = let no : true ≡ false = w.0 in cc
        went false false p w kept = record {
          called = λ changes. absurd ((subst (ChangesRecords s) (verdict-so s c a plan is (given false) refl refl refl (shown-are false h) doing doing-is) changes).1 (stay p));
          uncalled = λ _. w.1;
        }
        went true true p w kept = record {
          called = λ _. record { goes = w.goes ∙ ap (after_call old true) (same-told old.told (records_of s) kept); fails = w.fails };
          uncalled = λ none. absurd (none (subst (ChangesRecords s) (sym (verdict-so s c a plan is (given true) refl refl refl (shown-are false h) doing doing-is)) (refl, differ p)));
        }
        went true false p w kept = record {
          called = λ _. record { goes = w.goes ∙ ap (after_call old false) (told-changed (changes_of (length s.documents) then.documents.live then.rights files.drawn.documents) old.told (records_of s) (records_of (with_lists left then)) kept make); fails = w.fails };
          uncalled = λ none. absurd (none (subst (ChangesRecords s) (sym (verdict-so s c a plan is (given false) refl refl refl (shown-are false h) doing doing-is)) (refl, differ p)));
        }

        after-is : (failed : Bool) → after ≡ cond failed before then → cond failed s (with_lists left then) ≡ left_by (fault_if failed) c a (with_lists s after)
        after-is true e = sym same-lists ∙ ap (with_lists s) (sym e)
        after-is false e = ap (λ (b : Book). with_queue c.seat (drop a.fds) (with_lists s b)) (sym e)

        by-failed : (failed : Bool) → files.failed ≡ failed → ServesKept s c (Request.Add a) (given failed) (left_by (fault_if failed) c a (with_lists s after)) (answered failed) old new
        by-failed failed e =
            let w : AppliedWhere (plan_changes s.documents s.rights who a plan) (changes_of (length s.documents) then.documents.live then.rights files.drawn.documents) old failed new =
            subst (λ (b : Bool). AppliedWhere (plan_changes s.documents s.rights who a plan) (changes_of (length s.documents) then.documents.live then.rights files.drawn.documents) old b new) e applied in
            subst (λ (t : State). ServesKept s c (Request.Add a) (given failed) t (answered failed) old new) (after-is failed (placed.stays ∙ ap (λ (b : Bool). cond b before then) e))
            (record {
              serves = serves-so failed (λ f. changing (plan_changes s.documents s.rights who a plan) refl
                  (subst (λ (b : Bool). AppliedWhere (plan_changes s.documents s.rights who a plan) (changes_of (length s.documents) then.documents.live then.rights files.drawn.documents) old b new) f w));
              keeper = λ kept. went (plan_changes s.documents s.rights who a plan) failed refl w kept;
            })

        pub placed-adds : ServesKept s c (Request.Add a) (placed_call files looks).given (left_by (placed_call files looks).given.fault c a (with_lists s after)) (placed_call files looks).answer old new
        placed-adds = by-failed files.failed refl

-- ---- the plan

refuses-so : (a : AddRequest) (who : Who) (paths : List (List ℕ)) (before : Book) (told : Option Held) (k : KeeperIs) (code : Code) →
    ((s : State) (c : Connection) → IsAsked s c a before.documents.live before.rights who paths → add s c a [] ≡ refuses code) → Adds a who paths before before told k k (refused_call code [])
refuses-so a who paths before told k code h s c r = plan-refused s c a who paths before told r code k (h s c r.asked)

by-error : (a : AddRequest) (who : Who) (paths : List (List ℕ)) (before : Book) (told : Option Held) (k : KeeperIs) (error : AddError) →
    ((s : State) (c : Connection) → IsAsked s c a before.documents.live before.rights who paths → (numbers : List DocId) → IsRefused (add s c a numbers) error) →
    IfOk (refusal error) (Adds a who paths before before told k k)
by-error a who paths before told k InvalidArgument h = refuses-so a who paths before told k Code.InvalidArgument (λ s c asked. h s c asked [])
by-error a who paths before told k NotAllowed h = refuses-so a who paths before told k Code.NotAllowed (λ s c asked. h s c asked [])
by-error a who paths before told k Memory h = tt

pub plan-error : (a : AddRequest) (who : Who) (paths : List (List ℕ)) (before : Book) (told : Option Held) (k : KeeperIs) (error : AddError) (result : Result ServedCall WantOfMemory) → result ≡ refusal error →
    ((s : State) (c : Connection) → IsAsked s c a before.documents.live before.rights who paths → (numbers : List DocId) → IsRefused (add s c a numbers) error) →
    IfOk result (Adds a who paths before before told k k)
plan-error a who paths before told k error result e h = subst (λ (x : Result ServedCall WantOfMemory). IfOk x (Adds a who paths before before told k k)) (sym e) (by-error a who paths before told k error h)

-- ---- over the queue

all-there : (fds n : ℕ) (b : Bool) → (nat_le fds n && b) ≡ true → fds ≤ n
all-there fds n b h = grind (arith, nat_tests)

module _ (s : State) (c : Connection) (v : Valid s) (queue : List (List ℕ)) (most : ℕ) (q : IsQueue s c queue most) where
  left-queue : (fault : Fault) (a : AddRequest) (documents : Book) → left_by fault c a (with_lists s documents) ≡ queue_set (with_lists s documents) c (queue_left fault a.fds queue)
  left-queue Fault.None a book = λ i. record (with_lists s book) { connections = same-queues c.seat queue (drop a.fds) (λ _. drop a.fds queue) refl s.connections v.seats_differ q.here i }
  left-queue Fault.Tree a book = ap (λ (u : State). record (with_lists s book) { connections = u.connections }) (sym (same-queue s c v queue most q))
  left-queue Fault.Keeper a book = ap (λ (u : State). record (with_lists s book) { connections = u.connections }) (sym (same-queue s c v queue most q))

-- a call that names presented files is reached
reached-so : (s : State) (c : Connection) (a : AddRequest) (who : Who) (queue paths : List (List ℕ)) (before : Book) (told : Option Held) → are_presented queue a ≡ true → paths ≡ take a.fds queue → IsBook s before.documents before.rights before.applications → IsQueue s c queue s.limits.queued →
    files_told s ≡ told → Valid s → c.who ≡ who → IsReached s c a who paths before told
reached-so s c a who queue paths before told p t b q f v w =
    let presented : are_presented c.queue a ≡ true = ap (λ (qs : List (List ℕ)). are_presented qs a) q.own ∙ p in
    record {
      asked = record {
        live = b.live;
        held = b.held;
        caller = w;
        there = all-there a.fds (length c.queue) (are_below a.fds a.handles) presented;
        taken = ap (take a.fds) q.own ∙ sym t;
      };
      book = b;
      files = f;
      valid = v;
      presented = presented;
    }

pub add-follows : (a : AddRequest) (who : Who) (queue paths queue_after : List (List ℕ)) (before after : Book) (told : Option Held) (old new : KeeperIs) (served : ServedCall) →
    are_presented queue a ≡ true → paths ≡ take a.fds queue → queue_after ≡ queue_left served.given.fault a.fds queue → Adds a who paths before after told old new served →
    (s : State) (c : Connection) → IsBook s before.documents before.rights before.applications → IsQueue s c queue s.limits.queued → files_told s ≡ told → Valid s → c.who ≡ who →
    ServesKept s c (Request.Add a) served.given (queue_set (with_book s after.documents after.rights after.applications) c queue_after) served.answer old new
add-follows a who queue paths queue_after before after told old new served p t l adds s c b q f v w =
    subst (λ (t : State). ServesKept s c (Request.Add a) served.given t served.answer old new)
    (left-queue s c v queue s.limits.queued q served.given.fault a after ∙ ap (queue_set (with_lists s after) c) (sym l))
    (adds s c (reached-so s c a who queue paths before told p t b q f v w))

-- and where it is refused, no more words were drawn than documents are made by it
pub add-draws : (a : AddRequest) (who : Who) (queue paths : List (List ℕ)) (before : Book) (told : Option Held) (old new : Option (List ℕ)) → are_presented queue a ≡ true → paths ≡ take a.fds queue → DrewNoMore a who paths before told old new →
    (s : State) (c : Connection) → IsBook s before.documents before.rights before.applications → IsQueue s c queue s.limits.queued → files_told s ≡ told → Valid s → c.who ≡ who → HasDrawnUpTo (documents_made s c a) old new
add-draws a who queue paths before told old new p t drew s c b q f v w = drew s c (reached-so s c a who queue paths before told p t b q f v w)

pub not-presented : (a : AddRequest) (who : Who) (queue : List (List ℕ)) (before : Book) (told : Option Held) (k : KeeperIs) (served : ServedCall) → are_presented queue a ≡ false → served ≡ refused_call Code.InvalidArgs [] →
    (s : State) (c : Connection) → IsBook s before.documents before.rights before.applications → IsQueue s c queue s.limits.queued → files_told s ≡ told → Valid s → c.who ≡ who →
    ServesKept s c (Request.Add a) served.given (queue_set (with_book s before.documents before.rights before.applications) c queue) served.answer k k
not-presented a who queue before told k served p e s c b q f v w =
    let none : are_presented c.queue a ≡ false = ap (λ (qs : List (List ℕ)). are_presented qs a) q.own ∙ p in
    let walk : add s c a [] ≡ refuses Code.InvalidArgs = ap (λ (x : Bool). walk_unless (not x) Code.InvalidArgs (add_presented s c a [])) none in
    let stays : taken_from_queue c a s ≡ s = ap (λ (x : Bool). cond x (with_queue c.seat (drop a.fds) s) s) none in
    let same : with_lists s before ≡ s = λ i. record s { documents = sym b.live i; made = sym b.made i; rights = sym b.held i; applications = sym b.numbered i } in
    subst (λ (x : ServedCall). ServesKept s c (Request.Add a) x.given (queue_set (with_book s before.documents before.rights before.applications) c queue) x.answer k k) (sym e)
    (subst (λ (t : State). ServesKept s c (Request.Add a) (given_with false Fault.None) t (Answer.Refused Code.InvalidArgs) k k)
    (stays ∙ (sym (same-queue s c v queue s.limits.queued q) ∙ ap (λ (u : State). queue_set u c queue) (sym same)))
    (refused-add s c a Code.InvalidArgs k walk))

-- ---- kinds of files

each-alone : (paths : List (List ℕ)) → flat_map (λ path. path ∷ []) paths ≡ map (λ path. path) paths
each-alone [] = refl
each-alone (path ∷ paths) = ap (λ (ps : List (List ℕ)). path ∷ ps) (each-alone paths)

-- kinds go by what the tree is asked for, which are the paths of the documents where no file is named
kinds-of : (a : AddRequest) (paths : List (List ℕ)) (looks : List Look) → are_of_kind a (flat_map (paths_looked_at a) paths) looks ≡ are_of_kind a (map (document_path a) paths) looks
kinds-of a paths looks = by_named a.named
  where
    by_named : (b : Bool) → cond b (are_folders_and_files looks) (cond (exports a) (are_exported (flat_map (λ path. cond b (path ∷ document_path a path ∷ []) (path ∷ [])) paths) looks) (list_all is_file looks))
        ≡ cond b (are_folders_and_files looks) (cond (exports a) (are_exported (map (λ path. cond b (child_of path (ahead_of_end a.name)) path) paths) looks) (list_all is_file looks))
    by_named true = refl
    by_named false = ap (λ (ps : List (List ℕ)). cond (exports a) (are_exported ps looks) (list_all is_file looks)) (each-alone paths)

kinds-asked : (a : AddRequest) (queue paths items : List (List ℕ)) (looks : List Look) → take a.fds queue ≡ paths → items ≡ paths_of a paths a.handles → are_of_kind a (paths_shown queue a) looks ≡ are_of_kind a items looks
kinds-asked a queue paths items looks taken planned =
    ap (λ (ps : List (List ℕ)). are_of_kind a (flat_map (paths_looked_at a) (presented_of ps a.handles)) looks) taken
    ∙ (kinds-of a (presented_of paths a.handles) looks ∙ ap (λ (ps : List (List ℕ)). are_of_kind a ps looks) (sym planned))

-- ---- what the code was given

abbrev pub paths_asked : AddRequest → List (List ℕ) → List (List ℕ)
paths_asked a paths = flat_map (paths_looked_at a) (presented_of paths a.handles)

module _ (a : AddRequest) (who : Who) (paths : List (List ℕ)) (before : Book) (told : Option Held) (plan : AddPlan) (is : IsPlanOf who a paths before.documents.live before.rights plan) (looks : List Look) (failed : Bool) (shows : Shows told (paths_asked a paths) looks failed) where
  pub unseen-follows : (k : KeeperIs) (served : ServedCall) → failed ≡ true → served ≡ unseen_call looks → Adds a who paths before before told k k served
  unseen-follows k served f e s c r =
      subst (λ (x : ServedCall). ServesKept s c (Request.Add a) x.given (left_by x.given.fault c a (with_lists s before)) x.answer k k) (sym e)
      (unseen-adds s c a who paths before told r plan (is s c r.asked) looks k (subst (λ (b : Bool). Shows told (paths_asked a paths) looks b) f shows))

  pub kinds-follow : (k : KeeperIs) (served : ServedCall) (slice : List Look) (items : List (List ℕ)) → failed ≡ false → slice ≡ looks → items ≡ paths_of a paths a.handles → are_of_kind a items slice ≡ false → served ≡ refused_call Code.InvalidArgument looks → Adds a who paths before before told k k served
  kinds-follow k served slice items f l planned kinds e s c r =
      subst (λ (x : ServedCall). ServesKept s c (Request.Add a) x.given (left_by x.given.fault c a (with_lists s before)) x.answer k k) (sym e)
      (kinds-add s c a who paths before told r plan (is s c r.asked) looks k (subst (λ (b : Bool). Shows told (paths_asked a paths) looks b) f shows) (kinds-asked a c.queue paths items looks r.asked.taken planned ∙ (ap (are_of_kind a items) (sym l) ∙ kinds)))

  pub full-follow : (k : KeeperIs) (served : ServedCall) (slice : List Look) (items : List (List ℕ)) → failed ≡ false → slice ≡ looks → items ≡ paths_of a paths a.handles → are_of_kind a items slice ≡ true → IsOfCall who a plan → exceeds_planned before.documents before.applications who plan ≡ true → served ≡ full_call looks →
      Adds a who paths before before told k k served
  full-follow k served slice items f l planned kinds call met e s c r =
      subst (λ (x : ServedCall). ServesKept s c (Request.Add a) x.given (left_by x.given.fault c a (with_lists s before)) x.answer k k) (sym e)
      (full-adds s c a who paths before told r plan (is s c r.asked) looks call k (subst (λ (b : Bool). Shows told (paths_asked a paths) looks b) f shows) (kinds-asked a c.queue paths items looks r.asked.taken planned ∙ (ap (are_of_kind a items) (sym l) ∙ kinds)) met)

  pub placed-follow : (words_told words_after : Option (List ℕ)) (after : Book) (old new : KeeperIs) (files : AddedFiles) (served : ServedCall) (slice : List Look) (items : List (List ℕ)) → failed ≡ false → slice ≡ looks → items ≡ paths_of a paths a.handles → are_of_kind a items slice ≡ true → IsOfCall who a plan →
      exceeds_planned before.documents before.applications who plan ≡ false → PlacedKept who a plan before after words_told words_after old new files → served ≡ placed_call files looks → Adds a who paths before after told old new served
  placed-follow words_told words_after after old new files served slice items f l planned kinds call within placed e s c r =
      subst (λ (x : ServedCall). ServesKept s c (Request.Add a) x.given (left_by x.given.fault c a (with_lists s after)) x.answer old new) (sym e)
      (placed-adds s c a who paths before told r plan (is s c r.asked) looks call words_told words_after after old new files placed (subst (λ (b : Bool). Shows told (paths_asked a paths) looks b) f shows) (kinds-asked a c.queue paths items looks r.asked.taken planned ∙ (ap (are_of_kind a items) (sym l) ∙ kinds)) within)
