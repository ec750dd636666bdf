-- Requests that may change temporaries are done in every state in which they may be asked.
use Rattle.std.proofs.Common.{◌≡◌, ◌≤◌, ℕ, List, Option, Some, Result, Ok, Err, IfSome, sym, ap, subst, arith, ◌∙◌, true}
use Rattle.std.specs.Option.{option_map}
use Rattle.std.specs.Result.{OnErr}
use Rattle.host_tree.specs.Trees.{TreeIs}
use Rattle.open_handles.specs.Opened.{HandleTable}
use Rattle.portal_model.specs.declared.naming.Naming.{Naming}
use Rattle.portal_model.specs.declared.request.NodeOp.TheVariants as NodeOp
use Rattle.portal_model.specs.declared.request.NodeRequest.{NodeRequest}
use Rattle.portal_model.specs.declared.state.Connection.{Connection}
use Rattle.portal_model.specs.Create.{create}
use Rattle.portal_model.specs.Node.{room_of, temps_seen}
use Rattle.portal_model.specs.NodeVerdict.{HandlesStay, Room}
use Rattle.portal_model.specs.Place.{Sight, sight_on}
use Rattle.portal_model.specs.Rename.{RenameCall, rename, rename_call}
use Rattle.portal_model.specs.SeatNames.{SeatTemps}
use Rattle.portal_model.specs.State.{State}
use Rattle.portal_model.specs.Unlink.{unlink}
use Rattle.app_view.specs.Books.{Lends}
use Rattle.app_view.specs.declared.sight.SeenDocument.{SeenDocument}
use Rattle.save_files.specs.Tables.{TempTable}
use Rattle.node_looks.specs.Done.{IsCalled, Wants, room_in}
use Rattle.node_looks.specs.OpenHandles.{Handled}
use Rattle.node_looks.specs.Sights.{naming_by, node_seen, sight_of, temp_by}
use Rattle.node_looks.specs.TreeCalls.{WasCalledUpTo}
use Rattle.node_looks.specs.declared.served.ByNumber.{ByNumber}
use Rattle.node_looks.specs.declared.served.FileBook.{FileBook}
use Rattle.node_looks.specs.declared.served.NodeCall.{NodeCall}
use Rattle.node_looks.specs.declared.served.NodeDone.{NodeDone}
use Rattle.node_looks.specs.declared.sight.SeenPlace.{SeenPlace}
use Rattle.node_looks.specs.declared.sight.SeenPlace.TheVariants as seen_place
use Rattle.node_looks.proofs.DoneLemmas.{IsExact, done-in, handles-stay, room-is, walk-is}
use Rattle.node_looks.proofs.OpenTable.{stay-open}
use Rattle.file_ops.specs.Creates.{Saving, SavingWith, folder_seen, folder_sight, is_nowhere}
use Rattle.file_ops.specs.SeatNames.{AreOwn, DoesNaming, IsNamedOn, OwnTables, namings_on, own_tables, seat_sight}
use Rattle.file_ops.specs.SeatTemps.{HeldTemps, IsTempOn, held_of, seat_temps, temps_on}
use Rattle.file_ops.specs.Tries.{Goes}
use Rattle.file_ops.specs.declared.created.DocumentFolder.{DocumentFolder}
use Rattle.file_ops.proofs.DoesNames.{makes-quietly, sees-so, some-names, some-temps, where-plain}
use Rattle.file_ops.proofs.Savings.{saving-done, seen-temps}
use Rattle.file_ops.proofs.SettledOwn.{seat-names, seat-temps}
use Rattle.file_ops.proofs.SparedWalks.{create-names, rename-names, unlink-names}
use Rattle.file_ops.proofs.Tries.{goes-done}

-- ---- CREATE

module _ (book : FileBook) (call : NodeCall) (own : ByNumber) (place : Option SeenPlace) (table : HandleTable) (had : OwnTables) (old : TreeIs) (done : NodeDone) (after : HandleTable) (temps : TempTable) (new : TreeIs)
    (is : IsNamedOn had.names call (naming_by own)) (of : IsTempOn had.temps call (temp_by own))
    (seen : (s : State) → Lends book.view s → node_seen s call.who.now own call.request.now.node ≡ option_map (sight_of book.view call.who.now) place)
    (name : List ℕ) (flags : ℕ) (op : call.request.now.op ≡ NodeOp.Create name flags) where
  abbrev r : NodeRequest
  r = call.request.now

  -- in the folder of a document
  pub folder-does : (view : ℕ) (there : SeenDocument) (folder : DocumentFolder) → place ≡ Some (seen_place.Folder view there) → folder ≡ folder_seen view there →
      ((namings : List Naming) → SavingWith (create r name flags (Some (folder_sight folder)) (room_in table call.seat) namings) call.seat table had.temps old done after temps new) → DoesNaming book call table had old done after (own_tables had.names temps) new
  folder-does view there folder p copied h = λ s c a m.
      let sight : sight_on s c r.node ≡ Some (folder_sight folder) =
      sees-so book call table had old done after new own place is of seen s c a m
      ∙ (ap (option_map (sight_of book.view call.who.now)) p
      ∙ ap (λ (f : DocumentFolder). Some (folder_sight f)) (sym copied)) in
      saving-done s c book call (create r name flags (Some (folder_sight folder)) (room_in table call.seat) c.namings (seat_temps had.temps (held_of c))) table had old done after temps new a m
      (walk-is s c r (NodeOp.Create name flags) op
      ∙ (ap (λ (o : Option Sight). create r name flags o (room_of s c) c.namings (temps_seen s c)) sight
      ∙ (ap (λ (room : Room). create r name flags (Some (folder_sight folder)) room c.namings (temps_seen s c)) (sym (room-is s c book call table old.told a))
      ∙ ap (λ (t : SeatTemps). create r name flags (Some (folder_sight folder)) (room_in table call.seat) c.namings t) (seen-temps s c had.temps m.temps))))
      (subst IsExact (sym op) tt)
      (create-names r name flags (room_in table call.seat) c.namings (seat_temps had.temps (held_of c)) folder.view folder.document folder.may_write)
      (h c.namings (held_of c) (seat-temps s c call.seat had.temps m.temps a.here))

  -- where no file can be made
  pub nowhere-does : IfSome place (λ there. is_nowhere there ≡ true) → ((x : Room × List Naming × SeatTemps) → Goes (create r name flags (option_map (sight_of book.view call.who.now) place) x.0 x.1 x.2) old done HandlesStay new) → DoesNaming book call table had old done table had new
  nowhere-does none g =
      where-plain book call table had old done table new (λ s c. sight_on s c r.node ≡ option_map (sight_of book.view call.who.now) place)
      (sees-so book call table had old done table new own place is of seen)
      (λ s c a m. makes-quietly book.view call.who.now place (sight_on s c r.node) r.op name flags op (sees-so book call table had old done table new own place is of seen s c a m) none)
      (λ s c a sight.
      let w = create r name flags (option_map (sight_of book.view call.who.now) place) (room_of s c) c.namings (temps_seen s c) in
      done-in s c book call w table old done table new a
      (walk-is s c r (NodeOp.Create name flags) op ∙ ap (λ (o : Option Sight). create r name flags o (room_of s c) c.namings (temps_seen s c)) sight)
      (goes-done w r.op call.seat table old done HandlesStay table new (subst IsExact (sym op) tt) (g (room_of s c, c.namings, temps_seen s c)) (handles-stay call.seat table)))

-- ---- RENAME and UNLINK

module _ (book : FileBook) (call : NodeCall) (table : HandleTable) (had : OwnTables) (old : TreeIs) (done : NodeDone) (temps : TempTable) (new : TreeIs) (names : List Naming) (has : HeldTemps) (named : namings_on had.names call.seat ≡ Some names) (held : temps_on had.temps.seats call.seat ≡ Some has) where
  -- what the connection that asks has
  names-are : (s : State) (c : Connection) → IsCalled s c book call table old.told → AreOwn s had → c.namings ≡ names
  names-are s c a m = some-names c.namings names (sym (seat-names s c call.seat had.names m.named a.here) ∙ named)

  held-are : (s : State) (c : Connection) → IsCalled s c book call table old.told → AreOwn s had → held_of c ≡ has
  held-are s c a m = some-temps (held_of c) has (sym (seat-temps s c call.seat had.temps m.temps a.here) ∙ held)

  pub rename-does : (new_parent flags : ℕ) (old_name new_name : List ℕ) → call.request.now.op ≡ NodeOp.Rename new_parent flags old_name new_name →
      ((s : State) → Lends book.view s → Saving (rename (rename_call flags old_name new_name) has.temps (seat_sight s call.who.now names has.temps call.request.now.node) (seat_sight s call.who.now names has.temps new_parent)) call.seat table had.temps old done table temps new) →
      DoesNaming book call table had old done table (own_tables had.names temps) new
  rename-does new_parent flags old_name new_name op h = λ s c a m.
      let who_is : c.who ≡ call.who.now = a.caller in
      let names_are : c.namings ≡ names = names-are s c a m in
      let held_is : held_of c ≡ has = held-are s c a m in
      let asked : RenameCall = rename_call flags old_name new_name in
      let node : ℕ = call.request.now.node in
      saving-done s c book call (rename asked has.temps (seat_sight s call.who.now names has.temps node) (seat_sight s call.who.now names has.temps new_parent)) table had old done table temps new a m
      (walk-is s c call.request.now (NodeOp.Rename new_parent flags old_name new_name) op
      ∙ (λ i. rename asked (held_is i).temps (seat_sight s (who_is i) (names_are i) (held_is i).temps node) (seat_sight s (who_is i) (names_are i) (held_is i).temps new_parent)))
      (subst IsExact (sym op) tt)
      (rename-names asked has.temps (seat_sight s call.who.now names has.temps node) (seat_sight s call.who.now names has.temps new_parent))
      (h s a.lists)

  pub unlink-does : (name : List ℕ) → call.request.now.op ≡ NodeOp.Unlink name →
      ((s : State) → Lends book.view s → Saving (unlink name has.temps (seat_sight s call.who.now names has.temps call.request.now.node)) call.seat table had.temps old done table temps new) → DoesNaming book call table had old done table (own_tables had.names temps) new
  unlink-does name op h = λ s c a m.
      let who_is : c.who ≡ call.who.now = a.caller in
      let names_are : c.namings ≡ names = names-are s c a m in
      let held_is : held_of c ≡ has = held-are s c a m in
      let node : ℕ = call.request.now.node in
      saving-done s c book call (unlink name has.temps (seat_sight s call.who.now names has.temps node)) table had old done table temps new a m
      (walk-is s c call.request.now (NodeOp.Unlink name) op ∙ (λ i. unlink name (held_is i).temps (seat_sight s (who_is i) (names_are i) (held_is i).temps node)))
      (subst IsExact (sym op) tt)
      (unlink-names name has.temps (seat_sight s call.who.now names has.temps node))
      (h s a.lists)

-- ---- want of memory

-- the handles stay, and the tree was called twice at most
pub wants-handled : {X E : Type 0} (r : Result X E) (most seat : ℕ) (table after : HandleTable) (old new : TreeIs) → 2 ≤ most → OnErr r (WasCalledUpTo 2 old new) → OnErr r (Handled seat HandlesStay table after) → OnErr r (Wants most table old after new)
wants-handled (Ok x) most seat table after old new m w h = tt
wants-handled (Err e) most seat table after old new m w h = record {
  handles = λ s a. stay-open s seat table after a h;
  calls = (w.0, w.1, omega (arith, w.2));
}
