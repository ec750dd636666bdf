-- What comes of an entry to an application, over the lists that a portal lends ahead of it.
use Rattle.std.specs.Prelude.{◌≡◌, ℕ, List, [], ◌∷◌, map, Bool, true, false, cond, Option, Some, option_map}
use Rattle.file_generations.specs.Generations.{Held}
use Rattle.portal_model.specs.declared.entry.Entry.{Entry}
use Rattle.portal_model.specs.declared.naming.Naming.{Naming}
use Rattle.portal_model.specs.declared.request.Request.{Request}
use Rattle.portal_model.specs.declared.state.Connection.{Connection}
use Rattle.portal_model.specs.declared.temporary.OwnTemp.{OwnTemp}
use Rattle.portal_model.specs.Node.{files_after}
use Rattle.portal_model.specs.NodeVerdict.{FileChange, FilesStay, Writes, Resizes, Creates, Adds, Stands}
use Rattle.portal_model.specs.State.{State, connection_of, held_in}
use Rattle.portal_model.specs.Step.{after, reply_at}
use Rattle.folder_documents.specs.Named.{Named, named_on}
use Rattle.save_files.specs.Own.{Own as OwnTemps, own_on, owned}
use Rattle.open_handles.specs.Opened.{opened_on}
use Rattle.named_paths.specs.OpenNumbers.{Cover}
pub use Rattle.named_paths.specs.Seated.{HasOpen, numbered, silent}
use Rattle.app_world.specs.Touched.{is_done}
use Rattle.app_world.specs.TraceItem as item
use Rattle.app_world.specs.TraceItem.{item_of}
use Rattle.app_world.specs.View.{view}
use Rattle.app_world.specs.World.{items_of, request_touch}
use Rattle.trace_items.specs.declared.coming.Awaited.{Awaited}
use Rattle.trace_items.specs.declared.coming.News.{News}
use Rattle.trace_items.specs.declared.coming.News.TheVariants.{Own, Touches, Changed}
use Rattle.trace_items.specs.declared.changes.FileUpdate.{FileUpdate}
use Rattle.trace_items.specs.declared.changes.FileUpdate.TheVariants.{Stay, Write, Resize, Create, Freshen, Turn}
use Rattle.trace_items.specs.declared.lent.Lent.{Lent}
use Rattle.trace_items.specs.FilesChanged.{IsThere, news_of, told_of_change}
use Rattle.app_trace.specs.Told.{item_told}

-- ---- the lists

-- what the table has of a seat, and what a state has
abbrev pub namings_on : List (ℕ × Named) → ℕ → Option (List Naming)
namings_on names seat = option_map (λ n. n.namings) (named_on names seat)

abbrev pub namings_in : State → ℕ → Option (List Naming)
namings_in s seat = option_map (λ c. c.namings) (connection_of s.connections seat)

-- and of temporaries
abbrev pub temps_on : List (ℕ × OwnTemps) → ℕ → Option (List OwnTemp)
temps_on temps seat = option_map (λ o. owned o.temps) (own_on temps seat)

abbrev pub temps_in : State → ℕ → Option (List OwnTemp)
temps_in s seat = option_map (λ c. c.temps) (connection_of s.connections seat)

-- the lists are those of the state, whose tree tells its files
pub record Shows (lent : Lent) (s : State) : Type 0 where
  pub documents : s.documents ≡ lent.book.documents.now.live
  pub rights : s.rights ≡ lent.book.grants.now
  pub applications : s.applications ≡ lent.book.applications.now
  pub connections : map silent s.connections ≡ lent.connections.now
  pub handles :
      (seat : ℕ) (c : Connection) → connection_of s.connections seat ≡ Some c →
      HasOpen s seat c (opened_on lent.handles.now.seats seat)
  -- a seat stands in the table of names exactly where it has a connection, with what that has named
  pub namings :
      (seat : ℕ) → namings_on lent.namings.now seat ≡ namings_in s seat
  pub temps :
      (seat : ℕ) → temps_on lent.temps.now.seats seat ≡ temps_in s seat
  -- the number of each open handle is kept
  pub covered : Cover lent.numbers.now s.handles
  pub told : s.told ≡ true
  pub files : held_in s ≡ lent.files.now

-- ---- what is awaited

abbrev pub change_of : FileUpdate → FileChange
change_of Stay = FilesStay
change_of (Write name offset content now) = Writes name offset content.now now
change_of (Resize name size now) = Resizes name size now
change_of (Create path now) = Creates path now
change_of (Freshen name now) = Adds name now
change_of (Turn name) = Stands name

-- the files behind an entry, by whether it was done
abbrev pub files_awaited : Awaited → Bool → Held → Held
files_awaited a done files = cond done (files_after true (change_of a.change) files) files

abbrev pub told_items : FileChange → News → Bool → Held → List item.TraceItem
told_items change (Own x) done after = item_told x ∷ []
told_items change (Touches xs) done after = cond done (map item_told xs) []
told_items change Changed done after = cond done (map item_of (news_of change after)) []

-- the items of an entry, by whether it was done, where these were the files
abbrev pub items_awaited : Awaited → Bool → Held → List item.TraceItem
items_awaited a done files =
    told_items (change_of a.change) a.told done (files_awaited a done files)

-- a request on a node
abbrev pub is_node : Request → Bool
is_node (Request.Node r) = true
is_node (Request.Enter who kind) = false
is_node Request.Leave = false
is_node Request.Collect = false
is_node (Request.Present path) = false
is_node (Request.Add a) = false
is_node (Request.Grant call) = false
is_node (Request.Revoke call) = false
is_node (Request.DeleteDocument doc) = false
is_node (Request.LookupDocument path) = false
is_node (Request.Info doc) = false
is_node (Request.ListDocuments app) = false
is_node (Request.Store call) = false

-- the files behind the entry are those of this change, where it is done, and the file is there that
-- changes; and so is what a view is told of a request on a node
pub record Comes (s : State) (e : Entry) (change : FileChange) : Type 0 where
  pub files : held_in (after s e)
      ≡ cond (is_done (reply_at s e).answer) (files_after true change (held_in s)) (held_in s)
  pub there : is_done (reply_at s e).answer ≡ true → IsThere change (held_in s)
  pub node : (app : List ℕ) → is_node e.request ≡ true → is_done (reply_at s e).answer ≡ true →
      request_touch app s e.seat e.request e.given
      ≡ told_of_change (view s app) change (held_in (after s e))

-- the items of the entry are told, with this change of the files
abbrev pub IsTold : List ℕ → State → Entry → FileChange → News → Type 0
IsTold app s e change told =
    items_of app s e
    ≡ told_items change told (is_done (reply_at s e).answer) (held_in (after s e))

-- the items of the entry, and the files behind it, are those that are awaited
pub record Awaits (app : List ℕ) (s : State) (e : Entry) (a : Awaited) : Type 0 where
  pub items :
      items_of app s e ≡ items_awaited a (is_done (reply_at s e).answer) (held_in s)
  pub files :
      held_in (after s e) ≡ files_awaited a (is_done (reply_at s e).answer) (held_in s)
