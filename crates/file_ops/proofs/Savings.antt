-- How a request that may change temporaries follows its walk, and what the seat has of them behind it.
use Rattle.std.proofs.Common.{◌≡◌, ℕ, Option, Some, None, Result, Ok, Err, refl, sym, ap, subst, ◌∙◌}
use Rattle.std.specs.Result.{IfOk}
use Rattle.host_tree.specs.Trees.{TreeIs}
use Rattle.open_handles.specs.Opened.{HandleTable}
use Rattle.portal_model.specs.declared.state.Connection.{Connection}
use Rattle.portal_model.specs.Bus.{is_tree, moment_given}
use Rattle.portal_model.specs.Node.{temps_seen, walk_on_node}
use Rattle.portal_model.specs.NodeVerdict.{NodeVerdict, HandlesStay, errs}
use Rattle.portal_model.specs.SeatNames.{SeatTemps, next_generation}
use Rattle.portal_model.specs.State.{State}
use Rattle.portal_model.specs.Walk.{Walk, walked_with}
use Rattle.save_files.specs.Tables.{TempTable}
use Rattle.node_looks.specs.Done.{IsCalled}
use Rattle.node_looks.specs.OpenHandles.{Handled}
use Rattle.node_looks.specs.declared.served.FileBook.{FileBook}
use Rattle.node_looks.specs.declared.served.NodeCall.{NodeCall}
use Rattle.node_looks.specs.declared.served.NodeDone.{NodeDone}
use Rattle.node_looks.proofs.DoneLemmas.{IsExact, done-in}
use Rattle.file_ops.specs.Creates.{Opening, Saving, SavingWith}
use Rattle.file_ops.specs.SeatNames.{AreOwn, DoneNaming, OwnTables, own_tables}
use Rattle.file_ops.specs.SeatTemps.{AreTemps, HeldTemps, SeatSavedBy, TempsKept, held_of, seat_temps, temps_on}
use Rattle.file_ops.specs.Tries.{done_of_ended, done_of_tried, refuses}
use Rattle.file_ops.specs.declared.tried.Ended.{Ended}
use Rattle.file_ops.specs.declared.tried.Tried.{Tried}
use Rattle.file_ops.proofs.EachEnd.{Each, each-walked, spares_names, spares_temps}
use Rattle.file_ops.proofs.SettledOwn.{names-same, own-settled, temps-behind, temps-kept}
use Rattle.file_ops.proofs.Openings.{opens-after}
use Rattle.file_ops.proofs.Tries.{goes-done, refuses-goes}

-- ---- by what comes of it

pub saving-by : (w : Walk NodeVerdict) (seat : ℕ) (table : HandleTable) (before : TempTable) (old : TreeIs) (done : NodeDone) (after : HandleTable) (temps : TempTable) (new : TreeIs) (o : Opening w seat table old done after new) →
    SeatSavedBy seat (walked_with w (moment_given done.now) done.listed done.looks (is_tree done.fault)) before temps → Saving w seat table before old done after temps new
saving-by w seat table before old done after temps new o h = record {
  opening = o;
  saved = subst (λ (v : Option NodeVerdict). SeatSavedBy seat v before temps) o.goes.comes h;
}

-- one walk for another that is the same
pub saving-along : (v w : Walk NodeVerdict) (seat : ℕ) (table : HandleTable) (before : TempTable) (old : TreeIs) (done : NodeDone) (after : HandleTable) (temps : TempTable) (new : TreeIs) → v ≡ w →
    Saving w seat table before old done after temps new → Saving v seat table before old done after temps new
saving-along v w seat table before old done after temps new e h = subst (λ (x : Walk NodeVerdict). Saving x seat table before old done after temps new) (sym e) h

-- no temporary changes
pub saving-none : (w : Walk NodeVerdict) (seat : ℕ) (table : HandleTable) (before : TempTable) (old : TreeIs) (done : NodeDone) (after : HandleTable) (temps : TempTable) (new : TreeIs) → Each spares_temps w → TempsKept before temps →
    Opening w seat table old done after new → Saving w seat table before old done after temps new
saving-none w seat table before old done after temps new q k o =
    saving-by w seat table before old done after temps new o (temps-kept seat (walked_with w (moment_given done.now) done.listed done.looks (is_tree done.fault)) before temps (each-walked spares_temps w (moment_given done.now) done.listed done.looks (is_tree done.fault) q) k)

pub kept-same : (temps : TempTable) → TempsKept temps temps
kept-same temps = (λ seat. refl, refl)

-- ---- refusals

pub refused-saving : (errno seat : ℕ) (table after : HandleTable) (before temps : TempTable) (t : TreeIs) → Handled seat HandlesStay table after → TempsKept before temps → Saving (errs errno) seat table before t (done_of_ended (refuses errno)) after temps t
refused-saving errno seat table after before temps t k m =
    saving-none (errs errno) seat table before t (done_of_ended (refuses errno)) after temps t refl m (record { change = HandlesStay; goes = refuses-goes errno t; handled = k })

-- what was done where a request was refused with no look
pub refused-done : (errno : ℕ) (done : NodeDone) (tried : Tried) (ended : Ended) → done ≡ done_of_tried tried → tried ≡ record { look = None; ended = ended } → ended ≡ refuses errno → done ≡ done_of_ended (refuses errno)
refused-done errno done tried ended d t e = d ∙ (ap done_of_tried t ∙ ap done_of_ended e)

pub refused-with : (w : SeatTemps → Walk NodeVerdict) (errno seat : ℕ) (table after : HandleTable) (before temps : TempTable) (t : TreeIs) (done : NodeDone) → ((has : HeldTemps) → temps_on before.seats seat ≡ Some has → w (seat_temps before has) ≡ errs errno) →
    done ≡ done_of_ended (refuses errno) → Handled seat HandlesStay table after → TempsKept before temps → SavingWith w seat table before t done after temps t
refused-with w errno seat table after before temps t done e d k m = λ has h.
    saving-along (w (seat_temps before has)) (errs errno) seat table before t done after temps t (e has h)
    (subst (λ (x : NodeDone). Saving (errs errno) seat table before t x after temps t) (sym d) (refused-saving errno seat table after before temps t k m))

-- ---- behind room that was taken

pub saving-before : (w : Walk NodeVerdict) (seat : ℕ) (table mid : HandleTable) (before between : TempTable) (old : TreeIs) (done : NodeDone) (after : HandleTable) (temps : TempTable) (new : TreeIs) → Handled seat HandlesStay table mid → TempsKept before between →
    Saving w seat mid between old done after temps new → Saving w seat table before old done after temps new
saving-before w seat table mid before between old done after temps new k m h =
    saving-by w seat table before old done after temps new (opens-after w seat table mid old done after new k h.opening)
    (temps-behind seat (walked_with w (moment_given done.now) done.listed done.looks (is_tree done.fault)) before between temps m
    (subst (λ (v : Option NodeVerdict). SeatSavedBy seat v between temps) (sym h.opening.goes.comes) h.saved))

-- what a seat has is still there
pub held-still : (seat : ℕ) (before between : TempTable) (has : HeldTemps) → TempsKept before between → temps_on before.seats seat ≡ Some has → temps_on between.seats seat ≡ Some has
held-still seat before between has k e = k.0 seat ∙ e

-- and a request sees the same of it
pub seen-still : (before between : TempTable) (has : HeldTemps) → TempsKept before between → seat_temps between has ≡ seat_temps before has
seen-still before between has k = λ i. record { temps = has.temps; added = has.added; next = next_generation (k.1 i) }

-- ---- whatever the seat has

-- of every value, where it is so of the one that came
pub all-ok : {A X E : Type 0} (P : A → X → Type 0) (r : Result X E) → ((a : A) → IfOk r (P a)) → IfOk r (λ x. (a : A) → P a x)
all-ok P (Ok x) h = λ a. h a
all-ok P (Err e) h = tt

-- ---- the request

-- what a request sees of the temporaries of its seat
pub seen-temps : (s : State) (c : Connection) (temps : TempTable) → AreTemps s temps → temps_seen s c ≡ seat_temps temps (held_of c)
seen-temps s c temps a = λ i. record { temps = c.temps; added = c.added; next = next_generation (sym a.taken i) }

pub saving-done : (s : State) (c : Connection) (book : FileBook) (call : NodeCall) (w : Walk NodeVerdict) (table : HandleTable) (had : OwnTables) (old : TreeIs) (done : NodeDone) (after : HandleTable) (temps : TempTable) (new : TreeIs) →
    IsCalled s c book call table old.told → AreOwn s had → walk_on_node s c call.request.now ≡ w → IsExact call.request.now.op → Each spares_names w → Saving w call.seat table had.temps old done after temps new →
    DoneNaming s c call old done after (own_tables had.names temps) new
saving-done s c book call w table had old done after temps new a m e x q h =
    let v : Option NodeVerdict = walked_with w (moment_given done.now) done.listed done.looks (is_tree done.fault) in
    record {
      done = done-in s c book call w table old done after new a e (goes-done w call.request.now.op call.seat table old done h.opening.change after new x h.opening.goes h.opening.handled);
      own = own-settled s c call.seat call.request.now w done v had (own_tables had.names temps) a.here e refl
          (names-same call.seat v had.names (each-walked spares_names w (moment_given done.now) done.listed done.looks (is_tree done.fault) q))
          (subst (λ (o : Option NodeVerdict). SeatSavedBy call.seat o had.temps temps) (sym h.opening.goes.comes) h.saved) m;
    }

-- the same table
pub same-kept : (old new : TempTable) → new ≡ old → TempsKept old new
same-kept old new e = subst (TempsKept old) (sym e) (kept-same old)
