-- What a portal over told files lends is what its state shows.
use Rattle.std.proofs.Common.{◌≡◌, ◌==◌, ◌||◌, ℕ, List, [], ◌∷◌, map, Bool, true, false, cond, Option, Some, None, is_some, option_map, refl, sym, ap, ◌∙◌}
use Rattle.std.specs.List.{find}
use Rattle.std.specs.Map.{lookup}
use Rattle.trace_items.specs.Awaited.{HasOpen, Shows}
use Rattle.trace_items.specs.declared.lent.Lent.{Lent}
use Rattle.app_view.specs.Books.{Lends}
use Rattle.file_ops.specs.SeatNames.{AreNamed}
use Rattle.file_ops.specs.SeatTemps.{AreTemps, HeldTemps, held_by, held_of}
use Rattle.node_looks.specs.OpenHandles.{AreOpen, AreOpened, open_on}
use Rattle.named_paths.specs.OpenNumbers.{Cover, is_open, is_open_in}
use Rattle.named_paths.proofs.OpenPaths.{found, sound-at}
use Rattle.open_handles.specs.Opened.{HandleTable, Opened, handle_of as handle_in, opened_on}
use Rattle.portal_model.specs.declared.state.Connection.{Connection}
use Rattle.portal_model.specs.declared.handle.OpenHandle.{OpenHandle}
use Rattle.portal_model.specs.State.{State, connection_of, handle_of, held_in, is_handle}
use Rattle.portal_model.specs.Valid.{Valid, opened_here}
use Rattle.save_files.specs.Own.{Own, own_on, owned}
use Rattle.store_serving.specs.Waiting.{silent}

same-connection : (c d : Connection) → Some d ≡ Some c → d ≡ c
same-connection c d e = cc

in-table : (s : State) (seat : ℕ) (c : Connection) (x : Option Connection) (o : Option Opened) → x ≡ Some c → AreOpened (open_on s.handles seat) x o → HasOpen s seat c o
in-table s seat c None o e h = absurd (cc)
in-table s seat c (Some d) None e h = absurd h
in-table s seat c (Some d) (Some o) e h = (h.last ∙ ap (λ (x : Connection). x.opens) (same-connection c d e), h.handles)

-- the temporaries of a seat, where the table has those of its connection
temps-of : (o : Option Own) (c : Option Connection) → option_map held_by o ≡ option_map held_of c →
    option_map (λ (x : Own). owned x.temps) o ≡ option_map (λ (x : Connection). x.temps) c
temps-of None None e = refl
temps-of None (Some c) e = absurd (cc)
temps-of (Some o) None e = absurd (cc)
temps-of (Some o) (Some c) e = ap (option_map (λ (h : HeldTemps). h.temps)) e

pub shows : (lent : Lent) (s : State) → Lends lent.book s → lent.connections.now ≡ map silent s.connections → AreOpen s lent.handles.now → AreNamed s lent.namings.now → AreTemps s lent.temps.now → Cover lent.numbers.now s.handles → s.told ≡ true → held_in s ≡ lent.files.now → Shows lent s
shows lent s book connections handles names temps covered told files = record {
  documents = book.documents;
  rights = book.rights;
  applications = book.applications;
  connections = sym connections;
  handles = λ seat c here. in-table s seat c (connection_of s.connections seat) (opened_on lent.handles.now.seats seat) here (handles.each seat);
  namings = names;
  temps = λ seat. temps-of (own_on lent.temps.now.seats seat) (connection_of s.connections seat) (temps.each seat);
  covered = covered;
  told = told;
  files = files;
}

-- ---- an open handle is in the table

some-found : (seat n : ℕ) (hs : List OpenHandle) → is_open hs seat n ≡ true →
    is_some (handle_of hs seat n) ≡ true
some-found seat n [] h = h
some-found seat n (x ∷ xs) h = by (is_handle seat n x) h (some-found seat n xs)
  where
    by : (b : Bool) → (b || is_open xs seat n) ≡ true →
        (is_open xs seat n ≡ true → is_some (handle_of xs seat n) ≡ true) →
        is_some (option_map (λ (y : OpenHandle). y.handle)
        (cond b (Some x) (find (is_handle seat n) xs))) ≡ true
    by true k more = refl
    by false k more = more k

pub open-in-table : (s : State) → Valid s → (table : HandleTable) → AreOpen s table →
    (seat n : ℕ) → is_open s.handles seat n ≡ true → is_open_in table.seats seat n ≡ true
open-in-table s v table opened seat n h =
    by (connection_of s.connections seat) refl (opened_on table.seats seat) (opened.each seat)
  where
    by : (x : Option Connection) → connection_of s.connections seat ≡ x → (o : Option Opened) →
        AreOpened (open_on s.handles seat) x o → is_some (handle_in o n) ≡ true
    by None e None k =
        let no : opened_here n None ≡ true =
        ap (opened_here n) (sym e) ∙ sound-at s v seat n s.handles v.handles_sound h in
        absurd (cc)
    by None e (Some o) k = absurd k
    by (Some c) e None k = absurd k
    by (Some c) e (Some o) k =
        ap is_some (ap (lookup (λ m. n == m)) k.handles ∙ found seat n s.handles)
        ∙ some-found seat n s.handles h
