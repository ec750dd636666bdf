-- A call of the permission store at a portal: it is one step of the state that the portal's lists, tables and boxes are.
use Rattle.std.specs.Prelude.{IfOk}
use Rattle.std.proofs.Common.{◌≡◌, Result, ◌+◌, ◌≤◌, ℕ, List, [], ◌∷◌, ◌++◌, Bool, true, false, Option, Some, None, option_map, refl, sym, ap, subst, ◌∙◌}
use Rattle.change_signals.specs.Unsent.{AtSeat as BoxAtSeat, Boxes, holding}
use Rattle.document_calls.specs.KeeperCalls.{fault_if}
use Rattle.document_calls.specs.declared.served.ServedCall.{ServedCall}
use Rattle.document_records.specs.Documents.{DocumentList}
use Rattle.file_generations.specs.Generations.{Held}
use Rattle.file_ops.specs.SeatNames.{OwnTables}
use Rattle.open_handles.specs.Opened.{HandleTable}
use Rattle.portal_base.specs.declared.files.File.{File}
use Rattle.portal_base.specs.declared.memory.WantOfMemory.{WantOfMemory}
use Rattle.portal_model.specs.declared.entry.Entry.{Entry}
use Rattle.portal_model.specs.declared.entry.Fault.{Fault}
use Rattle.portal_model.specs.declared.entry.Given.{Given}
use Rattle.portal_model.specs.declared.opening.OpeningState.{OpeningState}
use Rattle.portal_model.specs.declared.reply.Answer.{Answer}
use Rattle.portal_model.specs.declared.reply.Change.{Change}
use Rattle.portal_model.specs.declared.reply.Code.{Code}
use Rattle.portal_model.specs.declared.reply.Reply.{Reply}
use Rattle.portal_model.specs.declared.request.Request.{Request}
use Rattle.portal_model.specs.declared.state.Connection.{Connection}
use Rattle.portal_model.specs.declared.state.Triple.{Triple}
use Rattle.portal_model.specs.declared.store.StoreCall.{StoreCall}
use Rattle.portal_model.specs.Bus.{is_tree}
use Rattle.portal_model.specs.History.{run, cost, cost_of}
use Rattle.portal_model.specs.Lawful.{nothing_given}
use Rattle.portal_model.specs.Opening.{opened_over}
use Rattle.portal_model.specs.State.{State, connection_of}
use Rattle.portal_model.specs.Step.{after, bus_of, bus_step}
use Rattle.portal_model.specs.Store.{Entries}
use Rattle.portal_model.proofs.Histories.{run-append}
use Rattle.record_keeper.specs.Keepers.{KeeperIs}
use Rattle.portal_steps.specs.Answered.{KeepsState}
use Rattle.portal_steps.specs.Devices.{Keeping}
use Rattle.portal_steps.specs.Held.{Holds, Stands}
use Rattle.portal_steps.specs.Stored.{StoredOn}
use Rattle.portal_steps.proofs.Boxes.{unsent_of}
use Rattle.portal_steps.proofs.CallSteps.{Comes, IsUntreed, Leaves, bus-leaves, comes-here, comes-nowhere, entry_with}
use Rattle.portal_steps.proofs.CallVerdicts.{step-on-bus}
use Rattle.portal_start.proofs.LoadedRecords.{if_ok}
use Rattle.portal_steps.proofs.ServedLists.{none-there, on-some}
use Rattle.portal_steps.proofs.SettledCalls.{Settles}
use Rattle.portal_steps.proofs.Steps.{bus-now, holds_told, stands_more, stored_more, stored_told, told_now, valid-now}
use Rattle.store_serving.specs.Serving.{GivesStore, HasStore, ServesStore}
use Rattle.store_serving.specs.Waiting.{silent}
use Rattle.store_serving.proofs.Waits.{same-waits}

-- ---- what was given

no-tree : (failed : Bool) → is_tree (fault_if failed) ≡ false
no-tree true = refl
no-tree false = refl

given-untreed : (call : StoreCall) (old new : KeeperIs) (served : ServedCall) → GivesStore call old new served → IsUntreed (Request.Store call) served.given
given-untreed call old new served k = record {
  looks = ap (λ (g : Given). g.looks) k.given_is;
  untreed = ap (λ (g : Given). is_tree g.fault) k.given_is ∙ no-tree k.failed;
  words = ap (λ (g : Given). g.words) k.given_is;
  moment = ap (λ (g : Given). g.now) k.given_is;
  unkept = λ h f. let no : Fault.Keeper ≡ Fault.None = sym f ∙ (ap (λ (g : Given). g.fault) k.given_is ∙ ap fault_if (k.unasked h)) in cc;
}

nothing-untreed : (call : StoreCall) (given : Given) → given ≡ nothing_given → IsUntreed (Request.Store call) given
nothing-untreed call given e = record {
  looks = ap (λ (g : Given). g.looks) e;
  untreed = ap (λ (g : Given). is_tree g.fault) e;
  words = ap (λ (g : Given). g.words) e;
  moment = ap (λ (g : Given). g.now) e;
  unkept = λ h f. let no : Fault.Keeper ≡ Fault.None = sym f ∙ ap (λ (g : Given). g.fault) e in cc;
}

-- ---- on a bus, and of a seat that has none

pub stored-nowhere : (call : StoreCall) (entries : Entries) (boxes : Boxes) (k : KeeperIs) (served : ServedCall) (here : Option Connection) → here ≡ None → served ≡ record { given = nothing_given; answer = Answer.Refused Code.NotHere } →
    (s : State) (b : Option Connection) → HasStore s entries boxes → option_map silent b ≡ here → StoredOn s call entries boxes k entries boxes k served b
stored-nowhere call entries boxes k served here n e = λ s b st h.
    subst (StoredOn s call entries boxes k entries boxes k served) (sym (none-there b (h ∙ n)))
    (record { given_is = ap (λ (x : ServedCall). x.given) e; answer_is = ap (λ (x : ServedCall). x.answer) e; entries_stay = refl; boxes_stay = λ q. refl; keeper_stays = refl })

pub stored-somewhere : (call : StoreCall) (entries entries' : Entries) (boxes boxes' : Boxes) (old new : KeeperIs) (r : Result ServedCall WantOfMemory) (here : Option Connection) (bus : Connection) → here ≡ Some bus →
    IfOk r (λ served. (s : State) (c : Connection) → c.who ≡ bus.who → HasStore s entries boxes → ServesStore s c call old entries' boxes' new served) →
    IfOk r (λ served. (s : State) (b : Option Connection) → HasStore s entries boxes → option_map silent b ≡ here → StoredOn s call entries boxes old entries' boxes' new served b)
stored-somewhere call entries entries' boxes boxes' old new r here bus e =
    if_ok (λ served. (s : State) (c : Connection) → c.who ≡ bus.who → HasStore s entries boxes → ServesStore s c call old entries' boxes' new served)
    (λ served. (s : State) (b : Option Connection) → HasStore s entries boxes → option_map silent b ≡ here → StoredOn s call entries boxes old entries' boxes' new served b)
    r
    (λ served k. λ s b st h. on-some (StoredOn s call entries boxes old entries' boxes' new served) b bus (h ∙ e) (λ d same. k s d (ap (λ (x : Connection). x.who) same) st))

-- ---- the step

module _ (began : Option Held) (o : OpeningState) (h : List Entry) (limit : ℕ) (ds : DocumentList) (rs : List Triple) (apps : List (List ℕ)) (cs : List Connection) (table : HandleTable) (own : OwnTables) (told : Option Held)
    (p : Stands began o h limit ds rs apps cs table own told) where
  abbrev at : State
  at = run (opened_over began o) h

  module _ (seat : ℕ) (call : StoreCall) (entries entries' : Entries) (boxes taken boxes' : Boxes) (signals : List Change) (old new : KeeperIs) (served : ServedCall) where
    abbrev request : Request
    request = Request.Store call

    -- the state in which the call is answered
    abbrev asked : State
    asked = told_now began o h limit ds rs apps cs table own told p seat

    -- what the code says of the call
    abbrev pub StoreCallServed : Type 0
    StoreCallServed = (s : State) (b : Option Connection) → HasStore s entries taken → option_map silent b ≡ bus_of (connection_of cs seat) → StoredOn s call entries taken old entries' boxes' new served b

    -- What it comes to.
    pub record Stores : Type 0 where
      pub next : State
      pub comes : Comes at seat request served.given next signals served.answer old new
      pub holds : Holds next o.limits ds rs apps cs table own told
      pub stored : HasStore next entries' boxes'
      pub untreed : IsUntreed request served.given

    stores-on : (b : Option Connection) → bus_of (connection_of at.connections seat) ≡ b → signals ≡ unsent_of (bus_of (connection_of at.connections seat)) → KeepsState old.told at → HasStore asked entries taken →
        StoredOn asked call entries taken old entries' boxes' new served b → Stores
    stores-on None e sent keeps st k = record {
      next = asked;
      comes = comes-nowhere at (valid-now began o h limit ds rs apps cs table own told p) seat request served.given signals sent asked served.answer old new refl keeps e (k.given_is, k.answer_is, refl, k.keeper_stays);
      holds = holds_told began o h limit ds rs apps cs table own told p seat;
      stored = record { stored = st.stored ∙ sym k.entries_stay; waiting = same-waits asked.connections taken boxes' k.boxes_stay st.waiting };
      untreed = nothing-untreed call served.given k.given_is;
    }
    stores-on (Some c) e sent keeps st k =
        let before : Holds asked o.limits ds rs apps cs table own told = holds_told began o h limit ds rs apps cs table own told p seat in
        let settled : Settles k.after served.given.fault served.answer old new = record { kept = k.kept keeps; no_errno = k.outside.no_errno; failed = λ u f. k.outside.risen f } in
        let came : Comes at seat request served.given k.after signals served.answer old new =
        comes-here at (valid-now began o h limit ds rs apps cs table own told p) seat request served.given signals sent k.after served.answer old new refl keeps c e k.serves settled in
        let step : after at (entry_with seat request served.given) ≡ (bus_step at request served.given (bus_of (connection_of at.connections seat))).0 = ap (λ (x : State × Reply). x.0) (step-on-bus at seat request served.given refl) in
        let leaves : Leaves o.limits table own told k.after =
        subst (Leaves o.limits table own told) (sym step ∙ came.after_is) (bus-leaves o.limits table own told at request served.given (bus_of (connection_of at.connections seat)) (p.holds.limits_are, p.holds.handles, p.holds.own, p.holds.files)) in
        record {
          next = k.after;
          comes = came;
          holds = record {
            limits_are = leaves.0;
            lists = record {
              book = record {
                live = ap (λ (s : State). s.documents) k.stays ∙ before.lists.book.live;
                made = ap (λ (s : State). s.made) k.stays ∙ before.lists.book.made;
                most_live = ap (λ (s : State). s.limits.documents) k.stays ∙ before.lists.book.most_live;
                most_made = ap (λ (s : State). s.limits.made) k.stays ∙ before.lists.book.most_made;
                held = ap (λ (s : State). s.rights) k.stays ∙ before.lists.book.held;
                numbered = ap (λ (s : State). s.applications) k.stays ∙ before.lists.book.numbered;
              };
              connected = k.connected ∙ before.lists.connected;
            };
            handles = leaves.1;
            own = leaves.2;
            files = leaves.3;
          };
          stored = k.has;
          untreed = given-untreed call old new served k.outside;
        }

    pub stores : signals ≡ unsent_of (bus_of (connection_of at.connections seat)) → BoxAtSeat (holding []) boxes taken seat → KeepsState old.told at → HasStore at entries boxes → StoreCallServed → Stores
    stores sent t keeps st k =
        let now : HasStore asked entries taken = stored_told began o h limit ds rs apps cs table own told p seat entries boxes taken t st in
        stores-on (bus_of (connection_of at.connections seat)) refl sent keeps now (k asked (bus_of (connection_of at.connections seat)) now (bus-now began o h limit ds rs apps cs table own told p seat))

    pub stands_stored : Stores → cost h + cost_of request ≤ o.limits.history → Stands began o (h ++ entry_with seat request served.given ∷ []) limit ds rs apps cs table own told
    stands_stored k room =
        stands_more began o h limit ds rs apps cs table own told p (entry_with seat request served.given) ds rs apps cs table own told k.comes.lawful (subst (λ (s : State). Holds s o.limits ds rs apps cs table own told) (sym k.comes.after_is) k.holds) room

    pub stored_stored : Stores → HasStore (run (opened_over began o) (h ++ entry_with seat request served.given ∷ [])) entries' boxes'
    stored_stored k = stored_more began o h limit ds rs apps cs table own told p (entry_with seat request served.given) entries' boxes' (subst (λ (s : State). HasStore s entries' boxes') (sym k.comes.after_is) k.stored)

    next-is : (k : Stores) → run (opened_over began o) (h ++ entry_with seat request served.given ∷ []) ≡ k.next
    next-is k = run-append h (entry_with seat request served.given ∷ []) (opened_over began o) ∙ k.comes.after_is

    pub keeps_stored : Stores → KeepsState new.told (run (opened_over began o) (h ++ entry_with seat request served.given ∷ []))
    keeps_stored k = subst (λ (s : State). KeepsState new.told s) (sym (next-is k)) k.comes.settles.kept

    pub keeping_stored : Stores → Keeping at (entry_with seat request served.given) (run (opened_over began o) (h ++ entry_with seat request served.given ∷ [])) old new
    keeping_stored k = subst (λ (t : State). Keeping at (entry_with seat request served.given) t old new) (sym (next-is k)) k.comes.keeping
