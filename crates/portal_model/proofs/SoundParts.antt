-- What is true of a valid state beside the limits of documents and applications, in two parts: its documents and rights,
-- and all else. A change of one part leaves the other.
use Rattle.std.proofs.Common.{◌≡◌, ℕ, ◌^◌, ◌<◌, ◌≤◌, nat_eq, nat_lt, length, List, [], map, Bool, true, false, not, ◌&&◌, ◌||◌, is_some, refl, arith}
use Rattle.std.specs.List.{list_all, AllByRecursion, IsDistinct}
use Rattle.std.proofs.lemmas.Bool.Decides.{nat_tests}
use Rattle.file_generations.specs.Generations.{Held}
use Rattle.portal_base.specs.Names.{is_same, is_app_name, is_host_path}
use Rattle.portal_base.specs.declared.files.File.{File}
use Rattle.portal_base.specs.declared.names.doc_id.DocId.{DocId}
use Rattle.portal_model.specs.declared.handle.OpenHandle.{OpenHandle}
use Rattle.portal_model.specs.declared.opening.TakenGeneration.{TakenGeneration}
use Rattle.portal_model.specs.declared.state.Connection.{Connection}
use Rattle.portal_model.specs.declared.state.Document.{Document}
use Rattle.portal_model.specs.declared.state.Triple.{Triple}
use Rattle.portal_model.specs.declared.store.StoredEntry.{StoredEntry}
use Rattle.portal_model.specs.Content.{is_folder}
use Rattle.portal_model.specs.Grant.{exceeds_limits}
use Rattle.portal_model.specs.Rights.{are_in_order}
use Rattle.portal_model.specs.SoundGenerations.{SoundGenerations, has_taken_handle, has_taken_temps}
use Rattle.portal_model.specs.SoundNames.{SoundNamings, SoundTemps}
use Rattle.portal_model.specs.State.{State, document_of, held_in}
use Rattle.portal_model.specs.Valid.{Valid, applications_limit, has_identifier, is_made, is_numbered, is_of_made, is_sound_connection, is_sound_folder, is_sound_handle, opens_within, is_valid_entry, same_entry, same_handle}

abbrev pub numbers : List Document → List ℕ
numbers ds = map (λ (d : Document). d.id.number) ds

abbrev pub is_live : List Document → ℕ → Bool
is_live ds number = is_some (document_of ds number)

-- the document of a triple is live, and its application is numbered
abbrev pub is_placed_in : List Document → List (List ℕ) → Triple → Bool
is_placed_in ds apps t = is_live ds t.id.number && is_numbered apps t.app

-- what each connection has named below exported folders is sound
abbrev pub AreSoundNames : List DocId → List Document → List Connection → Type 0
AreSoundNames made ds cs = AllByRecursion (λ (c : Connection). SoundNamings made ds c.namings) cs

-- and so are its temporaries
abbrev pub AreSoundTemps : List DocId → List Document → List Connection → Type 0
AreSoundTemps made ds cs = AllByRecursion (λ (c : Connection). SoundTemps made ds c.who c.added c.temps) cs

-- both, and no temporary is a file of a later generation than was taken
pub record SoundSeats (made : List DocId) (ds : List Document) (told : Bool) (taken : List TakenGeneration) (cs : List Connection) : Type 0 where
  pub namings : AreSoundNames made ds cs
  pub temps : AreSoundTemps made ds cs
  pub within : list_all (has_taken_temps told taken) cs ≡ true

-- what is true of documents, made numbers, rights and applications
pub record Documented (ds : List Document) (made : List DocId) (rights : List Triple) (apps : List (List ℕ)) : Type 0 where
  pub numbers_differ : IsDistinct nat_eq (numbers ds)
  pub numbers_made : list_all (λ (d : Document). is_made made d.id.number) ds ≡ true
  pub identifiers : list_all has_identifier ds ≡ true
  pub paths : list_all (λ (d : Document). is_host_path d.path) ds ≡ true
  pub applications_differ : IsDistinct is_same apps
  pub names : list_all is_app_name apps ≡ true
  pub rights_in_order : are_in_order rights ≡ true
  pub rights_placed : list_all (is_placed_in ds apps) rights ≡ true

-- what is true of all else
pub record Connected (s : State) : Type 0 where
  pub seats_differ : IsDistinct nat_eq (map (λ (c : Connection). c.seat) s.connections)
  pub connections_sound : list_all (is_sound_connection s.limits.queued) s.connections ≡ true
  pub handles_differ : IsDistinct same_handle s.handles
  pub handles_sound : list_all (is_sound_handle s.connections) s.handles ≡ true
  pub handles_within : list_all (opens_within s.limits.handles s.handles) s.connections ≡ true
  pub entries_differ : IsDistinct same_entry s.entries
  pub entries_sound : list_all is_valid_entry s.entries ≡ true
  pub files_differ : IsDistinct is_same (map (λ (f : File). f.path) s.files)
  pub files_apart : list_all (λ (f : File). not (is_folder s.files f.path)) s.files ≡ true
  pub files_named : list_all (λ (f : File). is_host_path f.path) s.files ≡ true
  pub files_told : s.told ≡ false → s.files ≡ []
  pub handles_taken : list_all (has_taken_handle s.told s.taken) s.handles ≡ true
  pub generations_sound : SoundGenerations s.told s.files s.hidden s.taken
  pub made_limit : s.limits.made < 2 ^ 32
  pub queued_limit : s.limits.queued < 2 ^ 32

pub record Sound (s : State) : Type 0 where
  pub documented : Documented s.documents s.made s.rights s.applications
  pub connected : Connected s
  pub handles_made : list_all (is_of_made s.made) s.handles ≡ true
  pub folders_sound : list_all (is_sound_folder s.told s.files) s.documents ≡ true
  pub seats_sound : SoundSeats s.made s.documents s.told s.taken s.connections

pub valid-seats : (s : State) → Valid s → SoundSeats s.made s.documents s.told s.taken s.connections
valid-seats s v = record { namings = v.namings_sound; temps = v.temps_sound; within = v.temps_taken }

pub valid-sound : (s : State) → Valid s → Sound s
valid-sound s v = record {
  documented = record {
    numbers_differ = v.numbers_differ;
    numbers_made = v.numbers_made;
    identifiers = v.identifiers;
    paths = v.paths;
    applications_differ = v.applications_differ;
    names = v.names;
    rights_in_order = v.rights_in_order;
    rights_placed = v.rights_placed;
  };
  connected = record {
    seats_differ = v.seats_differ;
    connections_sound = v.connections_sound;
    handles_differ = v.handles_differ;
    handles_sound = v.handles_sound;
    handles_within = v.handles_within;
    entries_differ = v.entries_differ;
    entries_sound = v.entries_sound;
    files_differ = v.files_differ;
    files_apart = v.files_apart;
    files_named = v.files_named;
    files_told = v.files_told;
    handles_taken = v.handles_taken;
    generations_sound = v.generations_sound;
    made_limit = v.made_limit;
    queued_limit = v.queued_limit;
  };
  handles_made = v.handles_made;
  folders_sound = v.folders_sound;
  seats_sound = valid-seats s v;
}

-- ---- the limits

within : (limit count : ℕ) → nat_lt limit count ≡ false → count ≤ limit
within limit count h = grind (arith, nat_tests)

neither_first : (a b : Bool) → (a || b) ≡ false → a ≡ false
neither_first true b h = h
neither_first false b h = refl

neither_second : (a b : Bool) → (a || b) ≡ false → b ≡ false
neither_second true b h = cc
neither_second false b h = h

pub sound-valid : (s : State) → exceeds_limits s ≡ false → Sound s → Valid s
sound-valid s e k =
    let documents : Bool = nat_lt s.limits.documents (length s.documents) in
    let made : Bool = nat_lt s.limits.made (length s.made) in
    let applications : Bool = nat_lt applications_limit (length s.applications) in
    let later : (made || applications) ≡ false = neither_second documents (made || applications) e in
    record {
      numbers_differ = k.documented.numbers_differ;
      numbers_made = k.documented.numbers_made;
      identifiers = k.documented.identifiers;
      paths = k.documented.paths;
      folders_sound = k.folders_sound;
      applications_differ = k.documented.applications_differ;
      names = k.documented.names;
      rights_in_order = k.documented.rights_in_order;
      rights_placed = k.documented.rights_placed;
      seats_differ = k.connected.seats_differ;
      connections_sound = k.connected.connections_sound;
      namings_sound = k.seats_sound.namings;
      temps_sound = k.seats_sound.temps;
      temps_taken = k.seats_sound.within;
      handles_differ = k.connected.handles_differ;
      handles_sound = k.connected.handles_sound;
      handles_made = k.handles_made;
      handles_within = k.connected.handles_within;
      entries_differ = k.connected.entries_differ;
      entries_sound = k.connected.entries_sound;
      files_differ = k.connected.files_differ;
      files_apart = k.connected.files_apart;
      files_named = k.connected.files_named;
      files_told = k.connected.files_told;
      handles_taken = k.connected.handles_taken;
      generations_sound = k.connected.generations_sound;
      documents_within = within s.limits.documents (length s.documents) (neither_first documents (made || applications) e);
      made_within = within s.limits.made (length s.made) (neither_first made applications later);
      applications_within = within applications_limit (length s.applications) (neither_second made applications later);
      made_limit = k.connected.made_limit;
      queued_limit = k.connected.queued_limit;
    }

-- ---- a change of one part

-- other documents and rights
pub sound-lists : (s : State) (ds : List Document) (made : List DocId) (rights : List Triple) (apps : List (List ℕ)) → Sound s → Documented ds made rights apps → list_all (is_of_made made) s.handles ≡ true →
    list_all (is_sound_folder s.told s.files) ds ≡ true → SoundSeats made ds s.told s.taken s.connections → Sound (record s { documents = ds; made = made; rights = rights; applications = apps })
sound-lists s ds made rights apps k d m folders seats = record {
  documented = d;
  connected = record {
    seats_differ = k.connected.seats_differ;
    connections_sound = k.connected.connections_sound;
    handles_differ = k.connected.handles_differ;
    handles_sound = k.connected.handles_sound;
    handles_within = k.connected.handles_within;
    entries_differ = k.connected.entries_differ;
    entries_sound = k.connected.entries_sound;
    files_differ = k.connected.files_differ;
    files_apart = k.connected.files_apart;
    files_named = k.connected.files_named;
    files_told = k.connected.files_told;
    handles_taken = k.connected.handles_taken;
    generations_sound = k.connected.generations_sound;
    made_limit = k.connected.made_limit;
    queued_limit = k.connected.queued_limit;
  };
  handles_made = m;
  folders_sound = folders;
  seats_sound = seats;
}

-- no more documents than there were, and other rights
pub fewer-lists : (s : State) (ds : List Document) (rights : List Triple) → Valid s → Documented ds s.made rights s.applications → length ds ≤ s.limits.documents →
    list_all (is_sound_folder s.told s.files) ds ≡ true → SoundSeats s.made ds s.told s.taken s.connections → Valid (record s { documents = ds; rights = rights })
fewer-lists s ds rights v d fewer folders seats = record {
  numbers_differ = d.numbers_differ;
  numbers_made = d.numbers_made;
  identifiers = d.identifiers;
  paths = d.paths;
  folders_sound = folders;
  applications_differ = d.applications_differ;
  names = d.names;
  rights_in_order = d.rights_in_order;
  rights_placed = d.rights_placed;
  seats_differ = v.seats_differ;
  connections_sound = v.connections_sound;
  namings_sound = seats.namings;
  temps_sound = seats.temps;
  temps_taken = seats.within;
  handles_differ = v.handles_differ;
  handles_sound = v.handles_sound;
  handles_made = v.handles_made;
  handles_within = v.handles_within;
  entries_differ = v.entries_differ;
  entries_sound = v.entries_sound;
  files_differ = v.files_differ;
  files_apart = v.files_apart;
  files_named = v.files_named;
  files_told = v.files_told;
  handles_taken = v.handles_taken;
  generations_sound = v.generations_sound;
  documents_within = fewer;
  made_within = v.made_within;
  applications_within = v.applications_within;
  made_limit = v.made_limit;
  queued_limit = v.queued_limit;
}

-- what a change of connections alone has to keep
abbrev pub SoundConnections : ℕ → List Connection → Type 0
SoundConnections queued cs = IsDistinct nat_eq (map (λ (c : Connection). c.seat) cs) × (list_all (is_sound_connection queued) cs ≡ true)

-- what is true of open handles, beside these connections
pub record SoundHandles (limit : ℕ) (cs : List Connection) (hs : List OpenHandle) : Type 0 where
  pub differ : IsDistinct same_handle hs
  pub sound : list_all (is_sound_handle cs) hs ≡ true
  pub within : list_all (opens_within limit hs) cs ≡ true

-- what is true of the files of a tree that tells them or doesn't
pub record SoundFiles (told : Bool) (files : List File) : Type 0 where
  pub differ : IsDistinct is_same (map (λ (f : File). f.path) files)
  pub apart : list_all (λ (f : File). not (is_folder files f.path)) files ≡ true
  pub named : list_all (λ (f : File). is_host_path f.path) files ≡ true
  pub none : told ≡ false → files ≡ []

pub valid-handles : (s : State) → Valid s → SoundHandles s.limits.handles s.connections s.handles
valid-handles s v = record { differ = v.handles_differ; sound = v.handles_sound; within = v.handles_within }

pub valid-files : (s : State) → Valid s → SoundFiles s.told s.files
valid-files s v = record { differ = v.files_differ; apart = v.files_apart; named = v.files_named; none = v.files_told }

-- what a change of the files, of handles and of connections has to keep
pub record SoundOpen (s : State) (cs : List Connection) (hs : List OpenHandle) (held : Held) (taken : List TakenGeneration) : Type 0 where
  pub made : list_all (is_of_made s.made) hs ≡ true
  pub handles_taken : list_all (has_taken_handle s.told taken) hs ≡ true
  pub files : SoundFiles s.told held.present
  pub generations : SoundGenerations s.told held.present held.hidden taken
  pub seats : SoundSeats s.made s.documents s.told taken cs
  pub folders : list_all (is_sound_folder s.told held.present) s.documents ≡ true

-- other connections, handles and files
pub Valid-open : (s : State) (cs : List Connection) (hs : List OpenHandle) (held : Held) (taken : List TakenGeneration) → Valid s → SoundConnections s.limits.queued cs → SoundHandles s.limits.handles cs hs → SoundOpen s cs hs held taken →
    Valid (record s { connections = cs; handles = hs; files = held.present; hidden = held.hidden; taken = taken })
Valid-open s cs hs held taken v k h o = record {
  numbers_differ = v.numbers_differ;
  numbers_made = v.numbers_made;
  identifiers = v.identifiers;
  paths = v.paths;
  folders_sound = o.folders;
  applications_differ = v.applications_differ;
  names = v.names;
  rights_in_order = v.rights_in_order;
  rights_placed = v.rights_placed;
  seats_differ = k.0;
  connections_sound = k.1;
  namings_sound = o.seats.namings;
  temps_sound = o.seats.temps;
  temps_taken = o.seats.within;
  handles_differ = h.differ;
  handles_sound = h.sound;
  handles_made = o.made;
  handles_within = h.within;
  entries_differ = v.entries_differ;
  entries_sound = v.entries_sound;
  files_differ = o.files.differ;
  files_apart = o.files.apart;
  files_named = o.files.named;
  files_told = o.files.none;
  handles_taken = o.handles_taken;
  generations_sound = o.generations;
  documents_within = v.documents_within;
  made_within = v.made_within;
  applications_within = v.applications_within;
  made_limit = v.made_limit;
  queued_limit = v.queued_limit;
}

pub Valid-connections : (s : State) (cs : List Connection) → Valid s → SoundConnections s.limits.queued cs → SoundHandles s.limits.handles cs s.handles → SoundSeats s.made s.documents s.told s.taken cs → Valid (record s { connections = cs })
Valid-connections s cs v k h seats = Valid-open s cs s.handles (held_in s) s.taken v k h (record {
  made = v.handles_made;
  handles_taken = v.handles_taken;
  files = valid-files s v;
  generations = v.generations_sound;
  seats = seats;
  folders = v.folders_sound;
})

-- other entries of the permission store
pub Valid-entries : (s : State) (entries : List StoredEntry) → Valid s → IsDistinct same_entry entries → list_all is_valid_entry entries ≡ true → Valid (record s { entries = entries })
Valid-entries s entries v d e = record {
  numbers_differ = v.numbers_differ;
  numbers_made = v.numbers_made;
  identifiers = v.identifiers;
  paths = v.paths;
  folders_sound = v.folders_sound;
  applications_differ = v.applications_differ;
  names = v.names;
  rights_in_order = v.rights_in_order;
  rights_placed = v.rights_placed;
  seats_differ = v.seats_differ;
  connections_sound = v.connections_sound;
  namings_sound = v.namings_sound;
  temps_sound = v.temps_sound;
  temps_taken = v.temps_taken;
  handles_differ = v.handles_differ;
  handles_sound = v.handles_sound;
  handles_made = v.handles_made;
  handles_within = v.handles_within;
  entries_differ = d;
  entries_sound = e;
  files_differ = v.files_differ;
  files_apart = v.files_apart;
  files_named = v.files_named;
  files_told = v.files_told;
  handles_taken = v.handles_taken;
  generations_sound = v.generations_sound;
  documents_within = v.documents_within;
  made_within = v.made_within;
  applications_within = v.applications_within;
  made_limit = v.made_limit;
  queued_limit = v.queued_limit;
}
