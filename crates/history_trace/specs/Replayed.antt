-- What a replay of a history keeps.
use Rattle.std.specs.Prelude.{◌≡◌, ◌≤◌, ℕ, List, [], ◌∷◌, ◌++◌, map, true, Some, IfSome}
use Rattle.host_tree.specs.Devices.{QuietState, no_files}
use Rattle.file_generations.specs.Generations.{Held}
use Rattle.portal_model.specs.declared.entry.Entry.{Entry}
use Rattle.portal_model.specs.declared.entry.Fault.TheVariants as Fault
use Rattle.portal_model.specs.declared.opening.OpeningState.{OpeningState}
use Rattle.portal_model.specs.declared.reply.Reply.{Reply}
use Rattle.portal_model.specs.declared.request.Request.{Request}
use Rattle.portal_model.specs.History.{cost, run}
use Rattle.portal_model.specs.Lawful.{Lawful}
use Rattle.portal_model.specs.Opening.{held_items, is_told, opened}
use Rattle.portal_model.specs.State.{held_in}
use Rattle.portal_model.specs.Step.{after, reply_at}
use Rattle.app_trace.specs.Told.{item_told}
use Rattle.app_trace.specs.declared.trace.TraceItem.{TraceItem}
use Rattle.app_world.specs.World.{items}
use Rattle.given_laws.specs.OneGiven.{AreFirst}
use Rattle.named_paths.specs.OpenNumbers.{Cover, OpenNumbers}
use Rattle.portal_steps.specs.Story.{PortalIs, Story, cost_with, limit_of, state_now}

-- ---- how it begins

-- a tree that has these files, of which no call came
abbrev pub tree_with : Held → QuietState
tree_with tree = record { began = tree; files = tree; made = 0 }

-- a tree that has these files and began with none, of which no call came
abbrev pub tree_begun : Held → QuietState
tree_begun files = record { began = no_files; files = files; made = 0 }

-- the opening state without its list of files
abbrev pub without_files : OpeningState → OpeningState
without_files o = record o { files = [] }

-- the portal has the files of the opening state and no history, and its state is the one that this
-- stands for
pub record Begins (o : OpeningState) (p : Story) : Type 0 where
  pub began : p.began ≡ Some (held_items o.files)
  pub limit : limit_of p ≡ o.limits.history
  pub state : state_now p ≡ opened o
  pub history : p.history ≡ []

-- ---- how it goes on

-- the portal went on by an entry that comes to the same state as this one, and costs no more
pub record GoesOn (old : Story) (e : Entry) (new : Story) : Type 0 where
  pub began : new.began ≡ old.began
  pub limit : limit_of new ≡ limit_of old
  pub state : state_now new ≡ after (state_now old) e
  pub cost : cost new.history ≤ cost_with old e.request

-- the tree of the portal tells its files, and there is room in its history for the request
pub record HasRoom (p : Story) (e : Entry) : Type 0 where
  pub told : is_told p.began ≡ true
  pub room : cost_with p e.request ≤ limit_of p

-- the portal is in the state that the history comes to, and its own costs no more
pub record IsAt (o : OpeningState) (h : List Entry) (p : Story) : Type 0 where
  pub told : is_told p.began ≡ true
  pub limit : limit_of p ≡ o.limits.history
  pub state : state_now p ≡ run (opened o) h
  pub cost : cost p.history ≤ cost h

-- the front of a history was replayed: the portal is in its state, the number of each open handle
-- of that state is kept, these are its files, and its items are told
pub record IsReplayed (app : List ℕ) (o : OpeningState) (h : List Entry) (p : Story)
    (numbers : OpenNumbers) (files : Held) (told : List TraceItem) : Type 0 where
  pub at : IsAt o h p
  pub covered : Cover numbers (run (opened o) h).handles
  pub files_are : files ≡ held_in (run (opened o) h)
  pub items_are : map item_told told ≡ items app (opened o) h

-- ---- one request, asked again

-- The history grew by one lawful entry of this seat and request, in which no device failed: where
-- it read the clock it has its moment, its words are the first of those that were to come, and the
-- reply is that of its step.
pub record Replies {K : Type 0} (old : PortalIs QuietState K ℕ (List ℕ)) (seat : ℕ)
    (request : Request) (new : PortalIs QuietState K ℕ (List ℕ)) (reply : Reply) : Type 0 where
  pub entry : Entry
  pub grown : new.story ≡ record old.story { history = old.story.history ++ entry ∷ [] }
  pub seat_is : entry.seat ≡ seat
  pub request_is : entry.request ≡ request
  pub lawful : Lawful (state_now old.story) entry
  pub unfaulted : entry.given.fault ≡ Fault.None
  pub moment : IfSome entry.given.now (λ now. now ≡ old.clock)
  pub words : AreFirst old.words entry.given.words
  pub reply_is : reply ≡ reply_at (state_now old.story) entry
