-- The keeper and the words beside the tree: what an entry asked of them.
use Rattle.std.specs.Prelude.{◌≡◌, ◌⊎◌, ℕ, List, [], ◌∷◌, Bool, true, false, ◌||◌, Option, Some, None}
use Rattle.portal_base.specs.Outside.{Draws, HasRisen}
use Rattle.file_ops.specs.Wanting.{fits_in_room, may_call_in_vain, may_change_file}
use Rattle.host_tree.specs.Trees.{TreeIs}
use Rattle.portal_model.specs.declared.entry.Entry.{Entry}
use Rattle.portal_model.specs.declared.reply.Answer.{Answer}
use Rattle.portal_model.specs.declared.reply.Code.TheVariants as Code
use Rattle.portal_model.specs.declared.reply.Reply.{Reply}
use Rattle.portal_model.specs.declared.request.Request.{Request}
use Rattle.portal_model.specs.declared.state.Connection.{Connection}
use Rattle.portal_model.specs.State.{State, connection_of}
use Rattle.portal_model.specs.Step.{all_told, bus_of}
use Rattle.record_keeper.specs.Keepers.{KeeperIs}
use Rattle.document_calls.specs.KeeperCalls.{KeeperWent}
use Rattle.store_serving.specs.Serving.{may_change_entries}

-- ---- the keeper

-- the requests that may change the records that outlive a run: no other asks the keeper
abbrev pub may_change_records : Request → Bool
may_change_records (Request.Add a) = true
may_change_records (Request.Grant call) = true
may_change_records (Request.Revoke call) = true
may_change_records (Request.DeleteDocument doc) = true
may_change_records (Request.Enter who kind) = false
may_change_records Request.Leave = false
may_change_records Request.Collect = false
may_change_records (Request.Node r) = false
may_change_records (Request.Present path) = false
may_change_records (Request.LookupDocument path) = false
may_change_records (Request.Info doc) = false
may_change_records (Request.ListDocuments app) = false
may_change_records (Request.Store call) = may_change_entries call

-- One call came exactly where the faultless step changes the records, and else none; on a seat
-- without an open bus no step does.
abbrev pub KeeperWentOn : State → Entry → State → KeeperIs → KeeperIs → Option Connection → Type 0
KeeperWentOn s e after old new None = new ≡ old
KeeperWentOn s e after old new (Some c) =
    KeeperWent (all_told c.seat s) c e.request e.given after old new

abbrev pub Keeping : State → Entry → State → KeeperIs → KeeperIs → Type 0
Keeping s e after old new =
    KeeperWentOn s e after old new (bus_of (connection_of s.connections e.seat))

-- ---- the words

-- the requests that may draw a word: each new document gets a number by one
abbrev pub may_draw : Request → Bool
may_draw (Request.Add a) = true
may_draw (Request.Enter who kind) = false
may_draw Request.Leave = false
may_draw Request.Collect = false
may_draw (Request.Node r) = false
may_draw (Request.Present path) = false
may_draw (Request.Grant call) = false
may_draw (Request.Revoke call) = false
may_draw (Request.DeleteDocument doc) = false
may_draw (Request.LookupDocument path) = false
may_draw (Request.Info doc) = false
may_draw (Request.ListDocuments app) = false
may_draw (Request.Store call) = false

-- these words, in their order, are the first that were to come
abbrev pub Drawn : Option (List ℕ) → List ℕ → Option (List ℕ) → Type 0
Drawn old [] new = new ≡ old
Drawn old (word ∷ words) new =
    (between : Option (List ℕ)) × Draws old word between × Drawn between words new

-- ---- the tree and the clock

-- the requests that may have asked the tree when memory is wanted: no refusal of another asked it
abbrev pub may_ask_tree_in_vain : Request → Bool
may_ask_tree_in_vain (Request.Add a) = true
may_ask_tree_in_vain (Request.Node r) = may_call_in_vain r
may_ask_tree_in_vain (Request.Enter who kind) = false
may_ask_tree_in_vain Request.Leave = false
may_ask_tree_in_vain Request.Collect = false
may_ask_tree_in_vain (Request.Present path) = false
may_ask_tree_in_vain (Request.Grant call) = false
may_ask_tree_in_vain (Request.Revoke call) = false
may_ask_tree_in_vain (Request.DeleteDocument doc) = false
may_ask_tree_in_vain (Request.LookupDocument path) = false
may_ask_tree_in_vain (Request.Info doc) = false
may_ask_tree_in_vain (Request.ListDocuments app) = false
may_ask_tree_in_vain (Request.Store call) = false

-- the requests that may read the clock: a file may be changed or made by them
abbrev pub may_read_clock : Request → Bool
may_read_clock (Request.Node r) = may_change_file r.op
may_read_clock (Request.Add a) = false
may_read_clock (Request.Enter who kind) = false
may_read_clock Request.Leave = false
may_read_clock Request.Collect = false
may_read_clock (Request.Present path) = false
may_read_clock (Request.Grant call) = false
may_read_clock (Request.Revoke call) = false
may_read_clock (Request.DeleteDocument doc) = false
may_read_clock (Request.LookupDocument path) = false
may_read_clock (Request.Info doc) = false
may_read_clock (Request.ListDocuments app) = false
may_read_clock (Request.Store call) = false

-- the requests that may ask a device in vain: a refusal of any other leaves all as it was
abbrev pub may_ask_in_vain : Request → Bool
may_ask_in_vain request = may_change_records request || may_ask_tree_in_vain request

-- ---- memory

-- the requests for which all memory can be taken ahead
abbrev pub is_reserved : Request → Bool
is_reserved (Request.Node r) = fits_in_room r
is_reserved (Request.Enter who kind) = false
is_reserved Request.Leave = false
is_reserved Request.Collect = false
is_reserved (Request.Add a) = false
is_reserved (Request.Present path) = false
is_reserved (Request.Grant call) = false
is_reserved (Request.Revoke call) = false
is_reserved (Request.DeleteDocument doc) = false
is_reserved (Request.LookupDocument path) = false
is_reserved (Request.Info doc) = false
is_reserved (Request.ListDocuments app) = false
is_reserved (Request.Store call) = false

-- How much of it a refusal may let go: that for one request, where room was lent to it, which is
-- done for the requests on nodes alone.
abbrev pub room_lent : Request → ℕ
room_lent (Request.Node r) = 1
room_lent (Request.Enter who kind) = 0
room_lent Request.Leave = 0
room_lent Request.Collect = 0
room_lent (Request.Add a) = 0
room_lent (Request.Present path) = 0
room_lent (Request.Grant call) = 0
room_lent (Request.Revoke call) = 0
room_lent (Request.DeleteDocument doc) = 0
room_lent (Request.LookupDocument path) = 0
room_lent (Request.Info doc) = 0
room_lent (Request.ListDocuments app) = 0
room_lent (Request.Store call) = 0

-- ---- faults

-- a reply of Failed tells that a call of the tree or of the keeper failed: its count rose
abbrev pub TellsFailure : TreeIs → TreeIs → KeeperIs → KeeperIs → Reply → Type 0
TellsFailure tree tree_after keeper keeper_after reply =
    reply.answer ≡ Answer.Refused Code.Failed →
    HasRisen tree.faults tree_after.faults ⊎ HasRisen keeper.faults keeper_after.faults
