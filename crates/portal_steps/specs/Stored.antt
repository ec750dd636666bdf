-- What the code makes of a call of the permission store, over the portal's tables, the boxes of
-- what its connections wait for, and the keeper.
use Rattle.std.specs.Prelude.{◌≡◌, ℕ, Bool, true, false, Option, Some, None}
use Rattle.change_signals.specs.Unsent.{AtSeat, Boxes, IsSame, entered}
use Rattle.document_calls.specs.declared.served.ServedCall.{ServedCall}
use Rattle.portal_model.specs.declared.reply.Answer.{Answer}
use Rattle.portal_model.specs.declared.reply.Code.TheVariants as Code
use Rattle.portal_model.specs.declared.state.Connection.{Connection}
use Rattle.portal_model.specs.declared.store.StoreCall.{StoreCall}
use Rattle.portal_model.specs.Lawful.{nothing_given}
use Rattle.portal_model.specs.State.{State}
use Rattle.portal_model.specs.Store.{Entries}
use Rattle.record_keeper.specs.Keepers.{KeeperIs}
use Rattle.store_serving.specs.Serving.{ServesStore}

-- the connection of a seat begins to hear of changes, where it is one that does
abbrev pub Hears : Bool → ℕ → Boxes → Boxes → Type 0
Hears true seat old new = AtSeat entered old new seat
Hears false seat old new = IsSame old new

-- a seat that has no open bus is answered so, and nothing changes
pub record ServesNowhere (entries : Entries) (boxes : Boxes) (old : KeeperIs)
    (entries_after : Entries) (boxes_after : Boxes) (new : KeeperIs)
    (served : ServedCall) : Type 0 where
  pub given_is : served.given ≡ nothing_given
  pub answer_is : served.answer ≡ Answer.Refused Code.NotHere
  pub entries_stay : entries_after ≡ entries
  pub boxes_stay : IsSame boxes boxes_after
  pub keeper_stays : new ≡ old

-- what a call comes to on a bus, or of a seat that has none
abbrev pub StoredOn : State → StoreCall → Entries → Boxes → KeeperIs → Entries → Boxes → KeeperIs
    → ServedCall → Option Connection → Type 0
StoredOn s call entries boxes old entries_after boxes_after new served None =
    ServesNowhere entries boxes old entries_after boxes_after new served
StoredOn s call entries boxes old entries_after boxes_after new served (Some c) =
    ServesStore s c call old entries_after boxes_after new served
