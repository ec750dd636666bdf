-- What an answer does to a portal.
use Rattle.std.specs.Prelude.{◌≡◌, ◌≢◌, ◌⊎◌, ℕ, List, [], ◌∷◌, ◌++◌, false, Option, IfSome}
use Rattle.portal_base.specs.Outside.{HasRisen}
use Rattle.host_tree.specs.Trees.{TreeIs}
use Rattle.portal_model.specs.declared.entry.Entry.{Entry}
use Rattle.portal_model.specs.declared.entry.Fault.TheVariants as Fault
use Rattle.portal_model.specs.declared.records.Records.{Records}
use Rattle.portal_model.specs.declared.reply.Answer.{Answer}
use Rattle.portal_model.specs.declared.reply.Code.TheVariants as Code
use Rattle.portal_model.specs.declared.reply.Reply.{Reply}
use Rattle.portal_model.specs.declared.request.AddRequest.{AddRequest}
use Rattle.portal_model.specs.declared.request.NodeRequest.{NodeRequest}
use Rattle.portal_model.specs.declared.request.Request.{Request}
use Rattle.portal_model.specs.Alike.{Alike}
use Rattle.portal_model.specs.Errno.{eio}
use Rattle.portal_model.specs.Kept.{records_of}
use Rattle.portal_model.specs.Lawful.{Lawful}
use Rattle.portal_model.specs.State.{State, connection_of}
use Rattle.portal_model.specs.Step.{bus_of, reply_at}
use Rattle.record_keeper.specs.Keepers.{KeeperIs}
use Rattle.add_serving.specs.Adds.{most_looks, most_words}
use Rattle.add_calls.specs.Placing.{HasDrawn, HasDrawnUpTo}
use Rattle.file_ops.specs.Wanting.{calls_in_vain}
use Rattle.node_looks.specs.Done.{MayRead, Reads}
use Rattle.document_calls.specs.KeeperCalls.{KeeperStays}
use Rattle.portal_steps.specs.Devices.{Drawn, Keeping, may_ask_tree_in_vain, may_change_records}
use Rattle.portal_steps.specs.Devices.{may_draw, may_read_clock}
use Rattle.portal_steps.specs.Documents.{DrewOn}
use Rattle.portal_steps.specs.Story.{PortalIs, state_first, state_now}
use Rattle.portal_steps.specs.TreeCalls.{Calling, WasCalled, WasCalledUpTo, entry_calls}

-- The history grew by an entry, and this is what the devices went through in it: just the calls of
-- the tree that its step reaches were made; the keeper was asked once where the faultless step
-- changes the records, and else not at all; the words that were drawn are the first that were to
-- come; the clock was read once where the entry has a moment, and else not at all. Where the
-- request may not change the records the keeper is the same, and so are the words where it may draw
-- none.
pub record Went {T K C W : Type 0} (tree_is : T → TreeIs) (keeper_is : K
    → KeeperIs) (clock_reads : C → ℕ → C → Type 0) (words_told : W → Option (List ℕ))
    (old : PortalIs T K C W) (e : Entry) (new : PortalIs T K C W) : Type 0 where
  pub grown : new.story ≡ record old.story { history = old.story.history ++ e ∷ [] }
  pub tree : Calling (tree_is old.tree) (entry_calls (state_now old.story) e)
      (tree_is new.tree).told (tree_is new.tree)
  pub keeper : Keeping (state_now old.story) e (state_now new.story) (keeper_is old.keeper)
      (keeper_is new.keeper)
  pub clock : Reads clock_reads old.clock e.given.now new.clock
  pub words : Drawn (words_told old.words) e.given.words (words_told new.words)
  pub unkept : may_change_records e.request ≡ false →
      (e.given.fault ≢ Fault.Keeper) × (new.keeper ≡ old.keeper)
  pub undrawn : may_draw e.request ≡ false → new.words ≡ old.words

-- no word was drawn by a refused Add, or no more than documents are made by it on the bus of a seat
abbrev pub DrewForMade : State → AddRequest → Option (List ℕ) → Option (List ℕ) → Type 0
DrewForMade s a old new = (new ≡ old)
    ⊎ ((seat : ℕ) × DrewOn s a old new (bus_of (connection_of s.connections seat)))

-- What a refusal does, which comes where memory is wanted: the keeper may have been asked once and
-- have wanted memory too. Where the request may ask the tree in vain, that may have been asked, of
-- which no call failed, and else it is the same; a request on a node asks it so often at most as
-- its kind and its node say; an Add looks once at most at each of its files, of which it may have
-- 16, or twice where the file is named. Where the request may draw words, some may have been drawn,
-- one for each file at most, and no more than documents would have been made, and else they are the
-- same; and where it may read the clock, that may have been read once, and else it is the same; and
-- where it may not change the records the keeper is the same. All else is as before.
pub record Spends {T K C W : Type 0} (tree_is : T → TreeIs) (keeper_is : K
    → KeeperIs) (clock_reads : C → ℕ → C → Type 0) (words_told : W → Option (List ℕ))
    (old : PortalIs T K C W) (request : Request) (new : PortalIs T K C W) : Type 0 where
  pub tree : WasCalled (tree_is old.tree) (tree_is new.tree)
  pub few : (r : NodeRequest) → request ≡ Request.Node r →
      WasCalledUpTo (calls_in_vain r) (tree_is old.tree) (tree_is new.tree)
  pub looks : (a : AddRequest) → request ≡ Request.Add a →
      WasCalledUpTo (most_looks a) (tree_is old.tree) (tree_is new.tree)
  pub keeper : KeeperStays (keeper_is old.keeper) (keeper_is new.keeper)
  pub clock : MayRead clock_reads old.clock new.clock
  pub words : HasDrawn (words_told old.words) (words_told new.words)
  pub drawn : (a : AddRequest) → request ≡ Request.Add a →
      HasDrawnUpTo (most_words a) (words_told old.words) (words_told new.words)
  pub made : (a : AddRequest) → request ≡ Request.Add a →
      DrewForMade (state_now old.story) a (words_told old.words) (words_told new.words)
  pub story : new.story ≡ old.story
  pub unkept : may_change_records request ≡ false → new.keeper ≡ old.keeper
  pub unasked : may_ask_tree_in_vain request ≡ false → new.tree ≡ old.tree
  pub undrawn : may_draw request ≡ false → new.words ≡ old.words
  pub unread : may_read_clock request ≡ false → new.clock ≡ old.clock

-- The history grew by one lawful entry, of this seat and request. The reply is alike to that of its
-- step: over a tree that tells its files it is that one.
pub record Answers {T K C W : Type 0} (tree_is : T → TreeIs) (keeper_is : K
    → KeeperIs) (clock_reads : C → ℕ → C → Type 0) (words_told : W → Option (List ℕ))
    (old new : PortalIs T K C W) (seat : ℕ) (request : Request) (reply : Reply) : Type 0 where
  pub entry : Entry
  pub grown : new.story.history ≡ old.story.history ++ entry ∷ []
  pub seat_is : entry.seat ≡ seat
  pub request_is : entry.request ≡ request
  pub lawful : Lawful (state_now old.story) entry
  pub reply_is : Alike (state_first old.story).told request
      (reply_at (state_now old.story) entry) reply
  pub went : Went tree_is keeper_is clock_reads words_told old entry new

-- a reply of EIO tells that a call of the tree failed: its count rose
abbrev pub TellsFault : TreeIs → TreeIs → Reply → Type 0
TellsFault old new reply = reply.answer ≡ Answer.Refused (Code.Errno eio)
    → HasRisen old.faults new.faults

-- a keeper that tells has the records that stand for the state
abbrev pub KeepsState : Option Records → State → Type 0
KeepsState told s = IfSome told (λ records. records ≡ records_of s)
