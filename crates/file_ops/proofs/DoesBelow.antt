-- A LOOKUP and a CREATE below a folder that is a document are done in every state in which they may be asked.
use Rattle.std.proofs.Common.{◌≡◌, ℕ, List, Option, Some, sym, ap, subst, ◌∙◌}
use Rattle.std.specs.Option.{option_map}
use Rattle.host_tree.specs.Trees.{TreeIs}
use Rattle.open_handles.specs.Opened.{HandleTable}
use Rattle.folder_documents.specs.Named.{Named}
use Rattle.portal_model.specs.declared.request.NodeOp.TheVariants as NodeOp
use Rattle.portal_model.specs.declared.request.NodeRequest.{NodeRequest}
use Rattle.portal_model.specs.declared.state.Connection.{Connection}
use Rattle.portal_model.specs.declared.temporary.OwnTemp.{OwnTemp}
use Rattle.portal_model.specs.Create.{create}
use Rattle.portal_model.specs.Lookup.{lookup}
use Rattle.portal_model.specs.Node.{room_of, temps_seen}
use Rattle.portal_model.specs.NodeVerdict.{Room}
use Rattle.portal_model.specs.Place.{Sight, sight_on}
use Rattle.portal_model.specs.SeatNames.{SeatTemps}
use Rattle.portal_model.specs.State.{State}
use Rattle.app_view.specs.Books.{Lends}
use Rattle.app_view.specs.declared.sight.SeenBelow.{SeenBelow}
use Rattle.node_looks.specs.Done.{IsCalled, room_in}
use Rattle.node_looks.specs.Sights.{naming_by, node_seen, sight_of, temp_by}
use Rattle.node_looks.specs.declared.served.ByNumber.{ByNumber}
use Rattle.node_looks.specs.declared.served.FileBook.{FileBook}
use Rattle.node_looks.specs.declared.served.NodeCall.{NodeCall}
use Rattle.node_looks.specs.declared.served.NodeDone.{NodeDone}
use Rattle.node_looks.specs.declared.sight.SeenPlace.{SeenPlace}
use Rattle.node_looks.specs.declared.sight.SeenPlace.TheVariants as seen_place
use Rattle.node_looks.proofs.DoneLemmas.{IsExact, room-is, walk-is}
use Rattle.file_ops.specs.Children.{parent_seen, parent_sight}
use Rattle.file_ops.specs.Creates.{NumberingWith}
use Rattle.file_ops.specs.SeatNames.{AreOwn, DoesNaming, IsNamedOn, OwnTables, own_tables}
use Rattle.file_ops.specs.SeatTemps.{IsTempOn}
use Rattle.file_ops.specs.declared.children.Parent.{Parent}
use Rattle.file_ops.proofs.DoesNames.{sees-so}
use Rattle.file_ops.proofs.Numberings.{numbering-done}
use Rattle.file_ops.proofs.SettledOwn.{seat-names}
use Rattle.file_ops.proofs.SparedWalks.{create-leaves, lookup-leaves}

module _ (book : FileBook) (call : NodeCall) (own : ByNumber) (place : Option SeenPlace) (view : ℕ) (below : SeenBelow) (parent : Parent) (table : HandleTable) (had : OwnTables) (old : TreeIs) (done : NodeDone) (after : HandleTable) (named : List (ℕ × Named)) (new : TreeIs)
    (is : IsNamedOn had.names call (naming_by own)) (of : IsTempOn had.temps call (temp_by own))
    (seen : (s : State) → Lends book.view s → node_seen s call.who.now own call.request.now.node ≡ option_map (sight_of book.view call.who.now) place) (there : place ≡ Some (seen_place.Below view below)) (copied : parent ≡ parent_seen view below) where
  abbrev r : NodeRequest
  r = call.request.now

  -- what the connection that asks sees at the node
  seen-on : (s : State) (c : Connection) → IsCalled s c book call table old.told → AreOwn s had → sight_on s c r.node ≡ Some (parent_sight parent)
  seen-on s c a m =
      sees-so book call table had old done after new own place is of seen s c a m
      ∙ (ap (option_map (sight_of book.view call.who.now)) there
      ∙ ap (λ (p : Parent). Some (parent_sight p)) (sym copied))

  pub lookup-does : (name : List ℕ) → r.op ≡ NodeOp.Lookup name → ((temps : List OwnTemp) → NumberingWith (λ has. lookup r has temps name (Some (parent_sight parent))) call.seat table had.names old done after named new) →
      DoesNaming book call table had old done after (own_tables named had.temps) new
  lookup-does name op n = λ s c a m.
      numbering-done s c book call (lookup r c.namings c.temps name (Some (parent_sight parent))) table had old done after named new a m
      (walk-is s c r (NodeOp.Lookup name) op ∙ ap (lookup r c.namings c.temps name) (seen-on s c a m))
      (subst IsExact (sym op) tt) (lookup-leaves r c.namings c.temps name (Some (parent_sight parent))) (n c.temps c.namings (seat-names s c call.seat had.names m.named a.here))

  pub create-does : (name : List ℕ) (flags : ℕ) → r.op ≡ NodeOp.Create name flags → ((temps : SeatTemps) → NumberingWith (λ has. create r name flags (Some (parent_sight parent)) (room_in table call.seat) has temps) call.seat table had.names old done after named new) →
      DoesNaming book call table had old done after (own_tables named had.temps) new
  create-does name flags op n = λ s c a m.
      numbering-done s c book call (create r name flags (Some (parent_sight parent)) (room_in table call.seat) c.namings (temps_seen s c)) table had old done after named new a m
      (walk-is s c r (NodeOp.Create name flags) op
      ∙ (ap (λ (o : Option Sight). create r name flags o (room_of s c) c.namings (temps_seen s c)) (seen-on s c a m)
      ∙ ap (λ (room : Room). create r name flags (Some (parent_sight parent)) room c.namings (temps_seen s c)) (sym (room-is s c book call table old.told a))))
      (subst IsExact (sym op) tt) (create-leaves r name flags (room_in table call.seat) c.namings (temps_seen s c) parent.view parent.document parent.path parent.may_write)
      (n (temps_seen s c) c.namings (seat-names s c call.seat had.names m.named a.here))
