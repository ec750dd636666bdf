-- What is true of every state that a portal reaches.
use Rattle.std.specs.Prelude.{◌≡◌, ℕ, ◌==◌, ◌^◌, ◌<◌, ◌≤◌, nat_eq, nat_le, nat_lt, List, [], length, map, Bool, true, false, not, ◌&&◌, ◌||◌, Option, Some, None, is_some}
use Rattle.std.specs.List.{list_any, list_all, AllByRecursion, IsDistinct}
use Rattle.portal_base.specs.Names.{is_same, is_app_name, is_host_path, is_byte_of_path, root}
use Rattle.portal_base.specs.declared.files.File.{File}
use Rattle.portal_base.specs.declared.names.doc_id.DocId.{DocId}
use Rattle.portal_base.specs.declared.who.Kind.{Kind}
use Rattle.portal_base.specs.declared.who.Who.{Who}
use Rattle.portal_model.specs.declared.handle.Handle.{Handle}
use Rattle.portal_model.specs.declared.handle.OpenHandle.{OpenHandle}
use Rattle.portal_model.specs.declared.records.Row.{Row}
use Rattle.portal_model.specs.declared.reply.Change.{Change}
use Rattle.portal_model.specs.declared.state.Connection.{Connection}
use Rattle.portal_model.specs.declared.state.Document.{Document}
use Rattle.portal_model.specs.declared.state.Triple.{Triple}
use Rattle.portal_model.specs.declared.store.StoredEntry.{StoredEntry}
use Rattle.portal_model.specs.Content.{is_folder}
use Rattle.portal_model.specs.Data.{is_data}
use Rattle.portal_model.specs.NodeNumbers.{view_of_node}
use Rattle.portal_model.specs.Rights.{are_in_order}
use Rattle.portal_model.specs.SoundGenerations.{SoundGenerations, has_taken_handle, has_taken_temps}
use Rattle.portal_model.specs.SoundNames.{SoundNamings, SoundTemps}
use Rattle.portal_model.specs.State.{State, connection_of, document_of, handles_of, is_mount}
use Rattle.portal_model.specs.Store.{can_be_told}
pub use Rattle.portal_model.specs.State.{is_made, is_none}

abbrev pub is_numbered : List (List ℕ) → List ℕ → Bool
is_numbered applications app = list_any (is_same app) applications

-- an identifier writes a number of 32 bits
abbrev pub has_identifier : Document → Bool
has_identifier d = nat_lt d.id.number (2 ^ 32)

-- An exported folder has a name, so it isn't the root; and where the tree tells its files, a folder
-- is there.
abbrev pub is_sound_folder : Bool → List File → Document → Bool
is_sound_folder told files d =
    not d.folder || (not (is_same d.path root) && (not told || is_folder files d.path))

-- the document is live, and the application is numbered
abbrev pub is_placed : State → Triple → Bool
is_placed s t = is_some (document_of s.documents t.id.number) && is_numbered s.applications t.app

abbrev pub is_host_bus : Who → Kind → Bool
is_host_bus Who.Host Kind.Bus = true
is_host_bus Who.Host Kind.Mount = false
is_host_bus (Who.App app) kind = false

abbrev pub is_text : List ℕ → Bool
is_text t = list_all is_byte_of_path t

abbrev pub has_texts : Row → Bool
has_texts row = is_text row.app && list_all is_text row.names

-- ---- entries of the permission store

abbrev pub same_entry : StoredEntry → StoredEntry → Bool
same_entry a b = is_same a.table b.table && is_same a.id b.id

abbrev pub has_entry_texts : StoredEntry → Bool
has_entry_texts e = is_text e.table && (is_text e.id && list_all has_texts e.rows)

-- The texts of the entry have no zero byte, its data as a variant keeps the rules of types and
-- values and holds no handle, and the signal that tells of it is no longer than a message may be.
abbrev pub is_valid_entry : StoredEntry → Bool
is_valid_entry e = has_entry_texts e && (is_data e.datum && can_be_told e)

-- the entry that a change tells of, as it is now or was before it went
abbrev pub entry_told : Change → StoredEntry
entry_told c = record { table = c.table; id = c.id; datum = c.datum; rows = c.rows }

-- ---- connections

abbrev pub is_sound_change : Change → Bool
is_sound_change c = is_valid_entry (entry_told c)

-- the host, or an application by a name that applications have
abbrev pub is_caller : Who → Bool
is_caller Who.Host = true
is_caller (Who.App app) = is_app_name app

-- A connection is bound to a caller. Only the host's buses wait for changes; these tell of entries
-- that are valid, or were.
abbrev pub is_sound_connection : ℕ → Connection → Bool
is_sound_connection queued c =
    is_caller c.who
    && ((is_none c.unsent || is_host_bus c.who c.kind)
    && (list_all is_sound_change c.unsent
    && (list_all is_host_path c.queue && nat_le (length c.queue) queued)))

-- the greatest number of applications that may be numbered
abbrev pub applications_limit : ℕ
applications_limit = 16777216

-- ---- open handles

-- the number of a handle is one that the seat's mount was given
abbrev pub opened_here : ℕ → Option Connection → Bool
opened_here fh None = false
opened_here fh (Some c) = is_mount c.kind && (nat_lt 0 fh && nat_le fh c.opens)

-- an open file is named by a path on the host
abbrev pub has_host_path : Handle → Bool
has_host_path (Handle.File name node document strict read write) = is_host_path name.path
has_host_path (Handle.Folder node names) = true

abbrev pub has_made_document : List DocId → Handle → Bool
has_made_document made (Handle.File name node document strict read write) =
    is_made made document.number
has_made_document made (Handle.Folder node names) = true

-- an open file is of a document that was made
abbrev pub is_of_made : List DocId → OpenHandle → Bool
is_of_made made h = has_made_document made h.handle

-- and where an application opened it, its node is in the application's own view
abbrev pub is_own_node : Who → ℕ → Bool
is_own_node Who.Host node = true
is_own_node (Who.App app) node = view_of_node node == 0

abbrev pub has_own_node : Who → Handle → Bool
has_own_node who (Handle.File name node document strict read write) = is_own_node who node
has_own_node who (Handle.Folder node names) = true

abbrev pub viewed_here : Handle → Option Connection → Bool
viewed_here handle None = false
viewed_here handle (Some c) = has_own_node c.who handle

abbrev pub is_sound_handle : List Connection → OpenHandle → Bool
is_sound_handle connections h =
    opened_here h.fh (connection_of connections h.seat)
    && (has_host_path h.handle && viewed_here h.handle (connection_of connections h.seat))

abbrev pub same_handle : OpenHandle → OpenHandle → Bool
same_handle a b = a.seat == b.seat && a.fh == b.fh

-- the connection has at most so many handles open
abbrev pub opens_within : ℕ → List OpenHandle → Connection → Bool
opens_within limit handles c = nat_le (length (handles_of handles c.seat)) limit

pub record Valid (s : State) : Type 0 where
  -- live numbers differ, are made, and are those that identifiers write
  pub numbers_differ : IsDistinct nat_eq (map (λ d. d.id.number) s.documents)
  pub numbers_made : list_all (λ d. is_made s.made d.id.number) s.documents ≡ true
  pub identifiers : list_all has_identifier s.documents ≡ true
  pub paths : list_all (λ d. is_host_path d.path) s.documents ≡ true
  pub folders_sound : list_all (is_sound_folder s.told s.files) s.documents ≡ true
  pub applications_differ : IsDistinct is_same s.applications
  pub names : list_all is_app_name s.applications ≡ true
  -- rights stand in their one order, none twice
  pub rights_in_order : are_in_order s.rights ≡ true
  pub rights_placed : list_all (is_placed s) s.rights ≡ true
  pub seats_differ : IsDistinct nat_eq (map (λ c. c.seat) s.connections)
  pub connections_sound : list_all (is_sound_connection s.limits.queued) s.connections ≡ true
  -- what each has named below exported folders
  pub namings_sound :
      AllByRecursion (λ c. SoundNamings s.made s.documents c.namings) s.connections
  -- and its temporaries
  pub temps_sound :
      AllByRecursion (λ c. SoundTemps s.made s.documents c.who c.added c.temps) s.connections
  pub temps_taken : list_all (has_taken_temps s.told s.taken) s.connections ≡ true
  -- open handles of a seat differ in number
  pub handles_differ : IsDistinct same_handle s.handles
  pub handles_sound : list_all (is_sound_handle s.connections) s.handles ≡ true
  pub handles_made : list_all (is_of_made s.made) s.handles ≡ true
  pub handles_taken : list_all (has_taken_handle s.told s.taken) s.handles ≡ true
  pub handles_within :
      list_all (opens_within s.limits.handles s.handles) s.connections ≡ true
  pub entries_differ : IsDistinct same_entry s.entries
  pub entries_sound : list_all is_valid_entry s.entries ≡ true
  -- present files differ in path, which is one on the host; none lies below a present file, and
  -- none is the root
  pub files_differ : IsDistinct is_same (map (λ f. f.path) s.files)
  pub files_apart : list_all (λ f. not (is_folder s.files f.path)) s.files ≡ true
  pub files_named : list_all (λ f. is_host_path f.path) s.files ≡ true
  pub files_told : s.told ≡ false → s.files ≡ []
  -- those beside them, and the generations that were taken
  pub generations_sound : SoundGenerations s.told s.files s.hidden s.taken
  pub documents_within : length s.documents ≤ s.limits.documents
  pub made_within : length s.made ≤ s.limits.made
  pub applications_within : length s.applications ≤ applications_limit
  pub made_limit : s.limits.made < 2 ^ 32
  pub queued_limit : s.limits.queued < 2 ^ 32
