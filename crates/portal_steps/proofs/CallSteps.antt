-- A request on documents at a portal, an Add among them: it is one step of the state that the portal's lists are.
use Rattle.std.proofs.Common.{◌≡◌, ◌≢◌, ◌+◌, ◌≤◌, ℕ, List, [], ◌∷◌, ◌++◌, length, Bool, true, false, cond, Option, Some, None, option_map, inl, inr, ◌⊎◌, refl, sym, ap, subst, ◌∙◌, arith}
use Rattle.change_signals.specs.Unsent.{AtSeat as BoxAtSeat, Boxes, holding}
use Rattle.document_records.specs.Documents.{DocumentList}
use Rattle.portal_base.specs.Outside.{HasRisen}
use Rattle.node_looks.specs.OpenHandles.{AreOpen}
use Rattle.file_generations.specs.Generations.{Held}
use Rattle.file_ops.specs.SeatNames.{AreOwn, OwnTables}
use Rattle.open_handles.specs.Opened.{HandleTable}
use Rattle.portal_base.specs.declared.limits.Limits.{Limits}
use Rattle.portal_model.specs.declared.entry.Entry.{Entry}
use Rattle.portal_model.specs.declared.entry.Fault.{Fault}
use Rattle.portal_model.specs.declared.entry.Given.{Given}
use Rattle.portal_model.specs.declared.opening.OpeningState.{OpeningState}
use Rattle.portal_model.specs.declared.records.Records.{Records}
use Rattle.portal_model.specs.declared.reply.Answer.{Answer}
use Rattle.portal_model.specs.declared.reply.Change.{Change}
use Rattle.portal_model.specs.declared.reply.Code.{Code}
use Rattle.portal_model.specs.declared.reply.Reply.{Reply}
use Rattle.portal_model.specs.declared.request.AddRequest.{AddRequest}
use Rattle.portal_model.specs.declared.request.Request.{Request}
use Rattle.portal_model.specs.declared.state.Connection.{Connection}
use Rattle.portal_model.specs.declared.state.Triple.{Triple}
use Rattle.portal_model.specs.Add.{add}
use Rattle.portal_model.specs.Bus.{bus_answer, is_tree, moment_given, refused_state}
use Rattle.portal_model.specs.Errno.{eio}
use Rattle.portal_model.specs.History.{run, cost, cost_of}
use Rattle.portal_model.specs.Lawful.{Lawful, LawfulOnBus}
use Rattle.portal_model.specs.Opening.{opened_over}
use Rattle.portal_model.specs.Kept.{records_of}
use Rattle.portal_model.specs.Outside.{ChangesRecords, LawfulBus, files_told, verdict_of, words_drawn}
use Rattle.portal_model.specs.State.{State, connection_of}
use Rattle.portal_model.specs.Step.{after, all_told, bus_of, bus_step, reply_at, reply_with, with_signals}
use Rattle.portal_model.specs.Store.{Entries}
use Rattle.portal_model.specs.Valid.{Valid}
use Rattle.portal_model.specs.Verdict.{Verdict, Refuses, Does}
use Rattle.portal_model.specs.Walk.{Walk, Gives, reads_clock, walked}
use Rattle.portal_model.proofs.BusLaws.{bus_step-holds}
use Rattle.portal_model.proofs.Histories.{run-append}
use Rattle.record_keeper.specs.Keepers.{KeeperIs}
use Rattle.host_tree.specs.Trees.{TreeIs}
use Rattle.add_calls.specs.Shown.{Asked}
use Rattle.document_calls.specs.Changes.{SameLimits}
use Rattle.document_calls.specs.KeeperCalls.{KeeperStays, KeeperWent, ServesKept}
use Rattle.portal_steps.specs.Answered.{KeepsState}
use Rattle.portal_steps.specs.Devices.{Keeping, KeeperWentOn, may_change_records}
use Rattle.portal_steps.specs.Documents.{DrewBy, DrewOn, HasLists, ServedOn, is_document_call, with_lists, with_queues}
use Rattle.portal_steps.specs.Held.{Holds, Stands, told_files}
use Rattle.portal_steps.proofs.AddVerdicts.{TellsNoFaultIf, add-tells, gives-none, queue-records}
use Rattle.portal_steps.proofs.AskedCalls.{asked-risen}
use Rattle.portal_steps.proofs.BusCalls.{no-moment}
use Rattle.portal_steps.proofs.CallVerdicts.{TellsNone, TellsOf, call-changes-none, call-on-bus, is_on_bus, lawful-on-bus, refused-stays, step-on-bus, tells-none, verdict_on, walk-is}
use Rattle.portal_steps.proofs.SettledCalls.{Settles, settles}
use Rattle.portal_steps.proofs.Boxes.{queued-waits, silent-queues, told-no-bus, unsent_of}
use Rattle.portal_steps.proofs.NamedSteps.{own-heard, own-requeued, own-same, own-told}
use Rattle.portal_steps.proofs.OpenSteps.{open-heard, open-requeued, open-told}
use Rattle.portal_steps.proofs.Steps.{bus-now, bus_found, holds_told, seat_found, stands_more, stored_more, stored_told, told_now, valid-now, valid-told}
use Rattle.store_serving.specs.Serving.{HasStore}
use Rattle.store_serving.specs.Waiting.{silent}

abbrev pub entry_with : ℕ → Request → Given → Entry
entry_with seat request given = record { seat = seat; request = request; given = given }

no-words : (words : List ℕ) → length words ≡ 0 → words ≡ []
no-words [] h = refl
no-words (w ∷ ws) h = absurd (omega arith)

-- What a request of a bus comes to in a state, where these changes were not told yet.
pub record Comes (s : State) (seat : ℕ) (request : Request) (given : Given) (next : State) (signals : List Change) (answer : Answer) (old new : KeeperIs) : Type 0 where
  pub lawful : Lawful s (entry_with seat request given)
  pub after_is : after s (entry_with seat request given) ≡ next
  pub reply_is : reply_with signals answer ≡ reply_at s (entry_with seat request given)
  pub keeping : Keeping s (entry_with seat request given) next old new
  pub settles : Settles next given.fault answer old new

-- what was given to one for which neither the tree is asked nor a word drawn
pub record IsUntreed (request : Request) (given : Given) : Type 0 where
  pub looks : given.looks ≡ []
  pub untreed : is_tree given.fault ≡ false
  pub words : given.words ≡ []
  pub moment : given.now ≡ None
  pub unkept : may_change_records request ≡ false → given.fault ≢ Fault.Keeper

module _ (s : State) (v : Valid s) (seat : ℕ) (request : Request) (given : Given) (signals : List Change) (signals_are : signals ≡ unsent_of (bus_of (connection_of s.connections seat))) (next : State) (answer : Answer) (old new : KeeperIs) (on : is_on_bus request ≡ true) (keeps : KeepsState old.told s) where
  -- the connection of the seat is told what it waited for
  abbrev shown : State
  shown = all_told seat s

  -- of a seat without an open bus
  pub comes-nowhere : bus_of (connection_of s.connections seat) ≡ None → ServedOn shown request given next answer old new None → Comes s seat request given next signals answer old new
  comes-nowhere e k = record {
    lawful = record { given = lawful-on-bus s seat request given on (subst (LawfulOnBus s request given) (sym e) k.0) };
    after_is = ap (λ (x : State × Reply). x.0) (step-on-bus s seat request given on ∙ ap (bus_step s request given) e) ∙ (sym (told-no-bus s seat v e) ∙ sym k.2);
    reply_is = (λ i. reply_with ((signals_are ∙ ap unsent_of e) i) (k.1 i)) ∙ sym (ap (λ (x : State × Reply). x.1) (step-on-bus s seat request given on ∙ ap (bus_step s request given) e));
    keeping = subst (KeeperWentOn s (entry_with seat request given) next old new) (sym e) k.3;
    settles = record {
      kept = subst (λ (x : KeeperIs). KeepsState x.told next) (sym k.3) (subst (KeepsState old.told) (sym k.2) keeps);
      no_errno = λ h. let no : Answer.Refused (Code.Errno eio) ≡ Answer.Refused Code.NotHere = sym h ∙ k.1 in cc;
      failed = λ u h. let no : Answer.Refused Code.Failed ≡ Answer.Refused Code.NotHere = sym h ∙ k.1 in absurd (cc);
    };
  }

  module _ (c : Connection) (here : bus_of (connection_of s.connections seat) ≡ Some c) (k : ServesKept shown c request given next answer old new) (settled : Settles next given.fault answer old new) where
    told-is : all_told c.seat s ≡ shown
    told-is = ap (λ (n : ℕ). all_told n s) (seat_found s.connections seat c (bus_found (connection_of s.connections seat) c here))

    unsent-is : c.unsent ≡ signals
    unsent-is = sym (signals_are ∙ ap unsent_of here)

    abbrev made_so : State × Reply
    made_so = (next, reply_with signals answer)

    step-is : bus_step s request given (Some c) ≡ made_so
    step-is = (λ i. with_signals (unsent-is i) (bus_answer (told-is i) c request given)) ∙ ap (λ (x : State × Answer). with_signals signals x) k.serves.step

    whole-step : bus_step s request given (bus_of (connection_of s.connections seat)) ≡ made_so
    whole-step = ap (bus_step s request given) here ∙ step-is

    pub comes-here : Comes s seat request given next signals answer old new
    comes-here = record {
      lawful = record {
        given = lawful-on-bus s seat request given on
            (subst (LawfulOnBus s request given) (sym here) (subst (λ (t : State). LawfulBus t c request given) (sym told-is) k.serves.lawful));
      };
      after_is = ap (λ (x : State × Reply). x.0) (step-on-bus s seat request given on ∙ whole-step);
      reply_is = sym (ap (λ (x : State × Reply). x.1) (step-on-bus s seat request given on ∙ whole-step));
      keeping = subst (KeeperWentOn s (entry_with seat request given) next old new) (sym here)
          (subst (λ (t : State). KeeperWent t c request given next old new) (sym told-is) (k.keeper keeps));
      settles = settled;
    }

  comes-on : (o : Option Connection) → bus_of (connection_of s.connections seat) ≡ o → next.entries ≡ s.entries → ((c : Connection) → LawfulBus shown c request given → TellsOf given.fault (verdict_of shown c request given)) →
      ((c : Connection) → records_of (refused_state shown c request) ≡ records_of shown) → ServedOn shown request given next answer old new o → Comes s seat request given next signals answer old new
  comes-on None e same tells records k = comes-nowhere e k
  comes-on (Some c) e same tells records k =
      comes-here c e k
      (settles shown c request given next answer old new same keeps (k.keeper keeps) (refused_state shown c request) (records c) (verdict_of shown c request given) refl (tells c k.serves.lawful) k.serves.lawful.keeper k.serves.lawful.full k.serves.step)

-- ---- all but Add

-- no document is made
none-drawn : (v : Verdict) → TellsNone v → words_drawn (Some v) ≡ 0
none-drawn (Refuses code) h = refl
none-drawn (Does d) h = by_limit d.exceeds h.1
  where
    by_limit : (b : Bool) → d.makes ≡ 0 → cond b 0 d.makes ≡ 0
    by_limit true e = refl
    by_limit false e = e

tells-so : (fault : Fault) (v : Verdict) → TellsNone v → TellsOf fault (Some v)
tells-so fault (Refuses code) h = h
tells-so fault (Does d) h = h.0

module _ (s : State) (c : Connection) (request : Request) (given : Given) (call : is_document_call request ≡ true) where
  verdict-is : verdict_of s c request given ≡ Some (verdict_on s c request)
  verdict-is = ap (λ (w : Walk Verdict). walked w (moment_given given.now) given.looks (is_tree given.fault)) (walk-is s c request given.numbers call)

  tells-of-call : TellsOf given.fault (verdict_of s c request given)
  tells-of-call = subst (TellsOf given.fault) (sym verdict-is) (tells-so given.fault (verdict_on s c request) (tells-none s c request))

  untreed-here : LawfulBus s c request given → IsUntreed request given
  untreed-here lawful =
      let given_none : (given.looks ≡ []) × (is_tree given.fault ≡ false) = subst (λ (w : Walk Verdict). Gives (files_told s) w given.looks (is_tree given.fault)) (walk-is s c request given.numbers call) lawful.looks in
      record {
        looks = given_none.0;
        untreed = given_none.1;
        words = no-words given.words ((lawful.words ∙ ap words_drawn verdict-is) ∙ none-drawn (verdict_on s c request) (tells-none s c request));
        moment = no-moment given.now (lawful.clock ∙ ap (λ (w : Walk Verdict). reads_clock w given.looks) (walk-is s c request given.numbers call));
        unkept = λ h f. call-changes-none s c request h (subst (ChangesRecords s) verdict-is (lawful.keeper f));
      }

untreed-on : (s : State) (request : Request) (given : Given) (next : State) (answer : Answer) (old new : KeeperIs) (o : Option Connection) → is_document_call request ≡ true → ServedOn s request given next answer old new o → IsUntreed request given
untreed-on s request given next answer old new None call k = record {
  looks = ap (λ (g : Given). g.looks) k.0;
  untreed = ap (λ (g : Given). is_tree g.fault) k.0;
  words = ap (λ (g : Given). g.words) k.0;
  moment = ap (λ (g : Given). g.now) k.0;
  unkept = λ h f. let no : Fault.Keeper ≡ Fault.None = sym f ∙ ap (λ (g : Given). g.fault) k.0 in cc;
}
untreed-on s request given next answer old new (Some c) call k = untreed-here s c request given call k.serves.lawful

-- ---- Add

tells-added : (fault : Fault) (v : Option Verdict) → (v ≡ None → is_tree fault ≡ true) → TellsNoFaultIf v → TellsOf fault v
tells-added fault None none h = none refl
tells-added fault (Some (Refuses code)) none h = h
tells-added fault (Some (Does d)) none h = h

tells-of-add : (s : State) (c : Connection) (a : AddRequest) (given : Given) → LawfulBus s c (Request.Add a) given → TellsOf given.fault (verdict_of s c (Request.Add a) given)
tells-of-add s c a given lawful =
    tells-added given.fault (verdict_of s c (Request.Add a) given)
    (gives-none (files_told s) (moment_given given.now) (is_tree given.fault) given.looks (add s c a given.numbers) lawful.looks)
    (add-tells s c a given.numbers (moment_given given.now) given.looks (is_tree given.fault))

-- ---- words that none drew

undrew-on : (s : State) (a : AddRequest) (words : Option (List ℕ)) (o : Option Connection) → DrewOn s a words words o
undrew-on s a words None = refl
undrew-on s a words (Some c) = ([], refl, omega arith)

pub undrew : (s : State) (seat : ℕ) (request : Request) (words : Option (List ℕ)) → DrewBy s seat request words words
undrew s seat (Request.Add a) words = undrew-on s a words (bus_of (connection_of s.connections seat))
undrew s seat (Request.Enter who kind) words = tt
undrew s seat Request.Leave words = tt
undrew s seat Request.Collect words = tt
undrew s seat (Request.Node r) words = tt
undrew s seat (Request.Present path) words = tt
undrew s seat (Request.Grant call) words = tt
undrew s seat (Request.Revoke call) words = tt
undrew s seat (Request.DeleteDocument doc) words = tt
undrew s seat (Request.LookupDocument path) words = tt
undrew s seat (Request.Info doc) words = tt
undrew s seat (Request.ListDocuments app) words = tt
undrew s seat (Request.Store call) words = tt

-- ---- the portal's lists

-- the calls of a bus leave the open handles, the names, the files and the limits
module _ (limits : Limits) (table : HandleTable) (own : OwnTables) (told : Option Held) where
  abbrev pub Leaves : State → Type 0
  Leaves s = (s.limits ≡ limits) × AreOpen s table × AreOwn s own × (told_files s ≡ told)

  pub bus-leaves : (s : State) (request : Request) (given : Given) (c : Option Connection) → Leaves s → Leaves (bus_step s request given c).0
  bus-leaves = bus_step-holds Leaves
      (λ s seat l. (l.0, open-told table s seat l.1, own-told own s seat l.2, l.3))
      (λ s seat change l. (l.0, open-requeued table s seat change l.1, own-requeued own s seat change l.2, l.3))
      (λ s ds made rights apps l. (l.0, record { limit = l.1.limit; each = l.1.each }, own-same own s (record s { documents = ds; made = made; rights = rights; applications = apps }) refl refl l.2, l.3))
      (λ s entries l. (l.0, record { limit = l.1.limit; each = l.1.each }, own-same own s (record s { entries = entries }) refl refl l.2, l.3))
      (λ s change l. (l.0, open-heard table s change l.1, own-heard own s change l.2, l.3))

module _ (began : Option Held) (o : OpeningState) (h : List Entry) (limit : ℕ) (ds : DocumentList) (rs : List Triple) (apps : List (List ℕ)) (cs : List Connection) (table : HandleTable) (own : OwnTables) (told : Option Held)
    (p : Stands began o h limit ds rs apps cs table own told) where
  abbrev at : State
  at = run (opened_over began o) h

  queued-at : at.limits.queued ≡ o.limits.queued
  queued-at = ap (λ (l : Limits). l.queued) p.holds.limits_are

  -- the words that a refused Add of a seat drew, on the bus of that seat
  pub drew_by : (seat : ℕ) (a : AddRequest) (tells : Option Held) → tells ≡ told → (words words' : Option (List ℕ)) →
      ((s : State) (b : Option Connection) → Valid s → HasLists s ds rs apps cs → files_told s ≡ tells → option_map silent b ≡ bus_of (connection_of cs seat) → DrewOn s a words words' b) →
      DrewBy at seat (Request.Add a) words words'
  drew_by seat a tells t words words' k =
      k at (bus_of (connection_of at.connections seat)) (valid-now began o h limit ds rs apps cs table own told p) p.holds.lists (p.holds.files ∙ sym t) (bus-now began o h limit ds rs apps cs table own told p seat)

  module _ (ds' : DocumentList) (rs' : List Triple) (apps' : List (List ℕ)) (cs' : List Connection) (seat : ℕ) (request : Request) (given : Given) (signals : List Change) (answer : Answer) (old new : KeeperIs) where
    -- the state in which the request is answered, and the one after it
    abbrev asked : State
    asked = told_now began o h limit ds rs apps cs table own told p seat

    abbrev next : State
    next = with_lists asked ds' rs' apps' cs'

    abbrev pub CallServed : Type 0
    CallServed = (s : State) (b : Option Connection) → Valid s → HasLists s ds rs apps cs → s.limits.queued ≡ o.limits.queued → option_map silent b ≡ bus_of (connection_of cs seat) → ServedOn s request given (with_lists s ds' rs' apps' cs') answer old new b

    -- what was taken of the boxes is what the connection of the seat waited for
    abbrev pub SignalsTaken : Type 0
    SignalsTaken = signals ≡ unsent_of (bus_of (connection_of at.connections seat))

    served-now : CallServed → ServedOn asked request given next answer old new (bus_of (connection_of at.connections seat))
    served-now k =
        k asked (bus_of (connection_of at.connections seat)) (valid-told began o h limit ds rs apps cs table own told p seat) (holds_told began o h limit ds rs apps cs table own told p seat).lists queued-at (bus-now began o h limit ds rs apps cs table own told p seat)

    pub comes : is_document_call request ≡ true → SignalsTaken → KeepsState old.told at → CallServed → Comes at seat request given next signals answer old new
    comes call taken keeps k =
        comes-on at (valid-now began o h limit ds rs apps cs table own told p) seat request given signals taken next answer old new (call-on-bus request call) keeps (bus_of (connection_of at.connections seat)) refl refl
        (λ c lawful. tells-of-call asked c request given call) (λ c. ap records_of (refused-stays asked c request call)) (served-now k)

    pub untreed : is_document_call request ≡ true → CallServed → IsUntreed request given
    untreed call k = untreed-on asked request given next answer old new (bus_of (connection_of at.connections seat)) call (served-now k)

    -- of an Add
    pub comes_added : (a : AddRequest) → request ≡ Request.Add a → (tells : Option Held) → tells ≡ told → SignalsTaken → KeepsState old.told at →
        ((s : State) (b : Option Connection) → Valid s → HasLists s ds rs apps cs → files_told s ≡ tells → option_map silent b ≡ bus_of (connection_of cs seat) → ServedOn s (Request.Add a) given (with_lists s ds' rs' apps' cs') answer old new b) →
        Comes at seat request given next signals answer old new
    comes_added a e tells t taken keeps k =
        subst (λ (r : Request). Comes at seat r given next signals answer old new) (sym e)
        (comes-on at (valid-now began o h limit ds rs apps cs table own told p) seat (Request.Add a) given signals taken next answer old new refl keeps (bus_of (connection_of at.connections seat)) refl refl
        (λ c lawful. tells-of-add asked c a given lawful) (λ c. queue-records asked c a)
        (k asked (bus_of (connection_of at.connections seat)) (valid-told began o h limit ds rs apps cs table own told p seat) (holds_told began o h limit ds rs apps cs table own told p seat).lists (p.holds.files ∙ sym t) (bus-now began o h limit ds rs apps cs table own told p seat)))

    -- entries and boxes after it
    pub stored_served : (entries : Entries) (boxes boxes' : Boxes) → Comes at seat request given next signals answer old new → BoxAtSeat (holding []) boxes boxes' seat → HasStore at entries boxes → HasStore (run (opened_over began o) (h ++ entry_with seat request given ∷ [])) entries boxes'
    stored_served entries boxes boxes' k taken st =
        let before : HasStore asked entries boxes' = stored_told began o h limit ds rs apps cs table own told p seat entries boxes boxes' taken st in
        stored_more began o h limit ds rs apps cs table own told p (entry_with seat request given) entries boxes'
        (subst (λ (s : State). HasStore s entries boxes') (sym k.after_is) (record { stored = before.stored; waiting = queued-waits asked.connections cs' boxes' before.waiting }))

    -- the state after it holds the new lists, and the open handles, the names and the files as before
    holds-served : is_on_bus request ≡ true → with_queues cs cs' ≡ cs' → Comes at seat request given next signals answer old new → SameLimits ds ds' → Holds (after at (entry_with seat request given)) o.limits ds' rs' apps' cs' table own told
    holds-served on queues k same =
        let step : after at (entry_with seat request given) ≡ (bus_step at request given (bus_of (connection_of at.connections seat))).0 = ap (λ (x : State × Reply). x.0) (step-on-bus at seat request given on) in
        let leaves : Leaves o.limits table own told next = subst (Leaves o.limits table own told) (sym step ∙ k.after_is)
        (bus-leaves o.limits table own told at request given (bus_of (connection_of at.connections seat)) (p.holds.limits_are, p.holds.handles, p.holds.own, p.holds.files)) in
        subst (λ (s : State). Holds s o.limits ds' rs' apps' cs' table own told) (sym k.after_is) (record {
          limits_are = leaves.0;
          lists = record {
            book = record {
              live = refl;
              made = refl;
              most_live = p.holds.lists.book.most_live ∙ sym same.0;
              most_made = p.holds.lists.book.most_made ∙ sym same.1;
              held = refl;
              numbered = refl;
            };
            connected = silent-queues asked.connections cs' ∙ (ap (λ (xs : List Connection). with_queues xs cs') (holds_told began o h limit ds rs apps cs table own told p seat).lists.connected ∙ queues);
          };
          handles = leaves.1;
          own = leaves.2;
          files = leaves.3;
        })

    pub stands_served : is_on_bus request ≡ true → with_queues cs cs' ≡ cs' → Comes at seat request given next signals answer old new → SameLimits ds ds' → cost h + cost_of request ≤ o.limits.history →
        Stands began o (h ++ entry_with seat request given ∷ []) limit ds' rs' apps' cs' table own told
    stands_served on queues k same room = stands_more began o h limit ds rs apps cs table own told p (entry_with seat request given) ds' rs' apps' cs' table own told k.lawful (holds-served on queues k same) room

    -- the state after the longer history is that of the step
    next-is : Comes at seat request given next signals answer old new → run (opened_over began o) (h ++ entry_with seat request given ∷ []) ≡ next
    next-is k = run-append h (entry_with seat request given ∷ []) (opened_over began o) ∙ k.after_is

    pub keeps_run : Comes at seat request given next signals answer old new → KeepsState new.told (run (opened_over began o) (h ++ entry_with seat request given ∷ []))
    keeps_run k = subst (λ (s : State). KeepsState new.told s) (sym (next-is k)) k.settles.kept

    pub keeping_run : Comes at seat request given next signals answer old new → Keeping at (entry_with seat request given) (run (opened_over began o) (h ++ entry_with seat request given ∷ [])) old new
    keeping_run k = subst (λ (t : State). Keeping at (entry_with seat request given) t old new) (sym (next-is k)) k.keeping

-- ---- a tree that began so goes by another name

pub stands_over : (began began' : Option Held) (o : OpeningState) (h : List Entry) (limit : ℕ) (ds : DocumentList) (rs : List Triple) (apps : List (List ℕ)) (cs : List Connection) (table : HandleTable) (own : OwnTables) (files files' : Option Held) (told : Option Records) → began' ≡ began → files' ≡ files → Stands began o h limit ds rs apps cs table own files → KeepsState told (run (opened_over began o) h) →
    Stands began' o h limit ds rs apps cs table own files' × KeepsState told (run (opened_over began' o) h)
stands_over began began' o h limit ds rs apps cs table own files files' told e f s k = (
  subst (λ (b : Option Held). Stands b o h limit ds rs apps cs table own files') (sym e) (subst (λ (x : Option Held). Stands began o h limit ds rs apps cs table own x) (sym f) s),
  subst (λ (b : Option Held). KeepsState told (run (opened_over b o) h)) (sym e) k,
)

pub stored_over : (began began' : Option Held) (o : OpeningState) (h : List Entry) (entries : Entries) (boxes : Boxes) → began' ≡ began → HasStore (run (opened_over began o) h) entries boxes → HasStore (run (opened_over began' o) h) entries boxes
stored_over began began' o h entries boxes e k = subst (λ (b : Option Held). HasStore (run (opened_over b o) h) entries boxes) (sym e) k

pub keeping_over : (began began' : Option Held) (o : OpeningState) (h : List Entry) (s : State) (e : Entry) (old new : KeeperIs) → began' ≡ began → Keeping s e (run (opened_over began o) h) old new → Keeping s e (run (opened_over began' o) h) old new
keeping_over began began' o h s e old new b k = subst (λ (x : Option Held). Keeping s e (run (opened_over x o) h) old new) (sym b) k

-- Failed tells of the device that failed
pub failed_device : (tree tree_after : TreeIs) (n : ℕ) (fault : Fault) (then : State) (answer : Answer) (old new : KeeperIs) → Asked tree n (is_tree fault) tree_after → Settles then fault answer old new → answer ≡ Answer.Refused Code.Failed →
    HasRisen tree.faults tree_after.faults ⊎ HasRisen old.faults new.faults
failed_device tree tree_after n Fault.None then answer old new calls s h = inr (s.failed refl h)
failed_device tree tree_after n Fault.Tree then answer old new calls s h = inl (asked-risen n true tree tree_after calls refl)
failed_device tree tree_after n Fault.Keeper then answer old new calls s h = inr (s.failed refl h)

-- want of memory leaves the keeper's records
pub stays_told : (old new : KeeperIs) → KeeperStays old new → new.told ≡ old.told
stays_told old new (inl e) = ap (λ (k : KeeperIs). k.told) e
stays_told old new (inr e) = ap (λ (k : KeeperIs). k.told) e.0
