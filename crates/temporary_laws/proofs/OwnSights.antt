-- What a connection sees and has open is no temporary of another; and what a temporary gets is new.
use Rattle.std.proofs.Common.{◌≡◌, ℕ, ◌+◌, ◌==◌, nat_le, List, [], ◌∷◌, Bool, true, false, not, ◌||◌, cond, Option, Some, None, option_map, refl, sym, ap, subst, ◌∙◌, arith}
use Rattle.std.proofs.lemmas.Bool.Decides.{nat_tests}
use Rattle.std.specs.List.{find, list_all}
use Rattle.file_generations.specs.Generations.{Held, all_held}
use Rattle.portal_base.specs.Content.{content_of, file_at, file_named, has_room, is_folder, is_named, look_at, look_of}
use Rattle.portal_base.specs.declared.files.File.{File}
use Rattle.portal_base.specs.declared.files.FileName.{FileName}
use Rattle.portal_base.specs.declared.files.Look.{Look}
use Rattle.portal_base.specs.declared.who.Who.{Who}
use Rattle.portal_model.specs.declared.entry.Given.{Given}
use Rattle.portal_model.specs.declared.handle.Handle.{Handle}
use Rattle.portal_model.specs.declared.handle.OpenHandle.{OpenHandle}
use Rattle.portal_model.specs.declared.naming.Naming.{Naming}
use Rattle.portal_model.specs.declared.place.Place.{Place}
use Rattle.portal_model.specs.declared.request.NodeRequest.{NodeRequest}
use Rattle.portal_model.specs.declared.rights.Right.TheVariants.{Read, Write}
use Rattle.portal_model.specs.declared.state.Connection.{Connection}
use Rattle.portal_model.specs.declared.state.Document.{Document}
use Rattle.portal_model.specs.declared.temporary.OwnTemp.{OwnTemp}
use Rattle.portal_model.specs.declared.temporary.Temp.{Temp}
use Rattle.portal_model.specs.Bus.{is_tree, moment_given}
use Rattle.portal_model.specs.Node.{facts_of, node_given, walk_on_node}
use Rattle.portal_model.specs.Place.{FolderOf, Views, Sight, SightBelow, SightOfFolder, SightOfTemp, naming_on, place_named, seen_by, sight_at, sight_at_path, sight_below, sight_of_document, sight_of_folder, sight_of_naming, sight_of_own_temp, sight_of_place, sight_of_root, sight_of_temp, sight_on, subject_of, temp_on}
use Rattle.portal_model.specs.SeatNames.{found_temp, is_called, last_taken, temp_of}
use Rattle.portal_model.specs.SoundGenerations.{has_taken_handle, has_taken_temps, is_taken, is_taken_by, is_taken_file, is_taken_temp}
use Rattle.portal_model.specs.State.{State, connection_of, document_of, handle_of, held_in, is_handle, is_host, who_has}
use Rattle.portal_model.specs.Valid.{Valid}
use Rattle.portal_model.specs.Walk.{Gives, Named, look_of_file, shown_at}
use Rattle.portal_model.proofs.ListLookups.{found_in_all, found_passes, nat_is}
use Rattle.app_world.specs.View.{is_held_name, names_of_handle, same_name}
use Rattle.app_world.proofs.HeldFiles.{file_named-is, found-name, of_number}
use Rattle.app_world.proofs.NamedFiles.{name-eq, name-itself}
use Rattle.app_world.proofs.NamedPaths.{HandleOn, SightOn}
use Rattle.app_world.proofs.WalksAlong.{AnyCall, AnyDocument, AnyPath, AnyTarget, CanBe, Grounds, KnownTemp, given-can, walk-along}
use Rattle.temporary_laws.proofs.Apart.{Alone, Apart, EachName, EachTemp, both, each-name, each-temp, file_of, first-both, found-each, found-name-in, has_temp, held-name, is-none, names_in, none-of, not-true, opens, or-first, or-not, or-second, others_closed, others_without, seat-itself, second-both}
use Rattle.temporary_laws.proofs.Changes.{Fresh}

module _ (s : State) (v : Valid s) (told : s.told ≡ true) (a : Apart s.files s.handles s.connections) where
  abbrev pub tree : Held
  tree = held_in s

  -- ---- files that are no temporaries

  -- of what is false of all temporaries
  none-has : (n : FileName) (cs : List Connection) → EachTemp (λ seat m. same_name m n ≡ false) cs → (k : ℕ) → others_without k n cs ≡ true
  none-has n [] h k = refl
  none-has n (c ∷ cs) h k =
      both (c.seat == k || not (has_temp n c)) (others_without k n cs)
      (or-second (c.seat == k) (not (has_temp n c)) (not-true (has_temp n c) (is-none n (names_in c.temps) h.0))) (none-has n cs h.1 k)

  -- a present file
  present-known : (n : FileName) (f : File) → file_named s.files n ≡ Some f → (k : ℕ) → others_without k n s.connections ≡ true
  present-known n f e k = none-has n s.connections (each-temp (Alone s.files s.handles s.connections) (λ seat m. same_name m n ≡ false) (λ seat m x. step m x (same_name m n) refl) s.connections a.alone) k
    where
      step : (m : FileName) {seat : ℕ} → Alone s.files s.handles s.connections seat m → (b : Bool) → same_name m n ≡ b → b ≡ false
      step m x true g = let no : Some f ≡ None = sym e ∙ (ap (file_named s.files) (sym (name-eq m n g)) ∙ x.hidden) in cc
      step m x false g = refl

  -- and the first file of a path
  first-known : (path : List ℕ) (k : ℕ) → others_without k (record { path = path; generation = 0 }) s.connections ≡ true
  first-known path k = none-has (record { path = path; generation = 0 }) s.connections (each-temp (Alone s.files s.handles s.connections) (λ seat m. same_name m (record { path = path; generation = 0 }) ≡ false) (λ seat m x. step m x (same_name m (record { path = path; generation = 0 })) refl) s.connections a.alone) k
    where
      step : (m : FileName) {seat : ℕ} → Alone s.files s.handles s.connections seat m → (b : Bool) → same_name m (record { path = path; generation = 0 }) ≡ b → b ≡ false
      step m x true g =
          let first : m ≡ record { path = path; generation = 0 } = name-eq m (record { path = path; generation = 0 }) g in
          let no : true ≡ false = sym (ap (λ (y : FileName). y.generation == 0) first) ∙ x.later in
          cc
      step m x false g = refl

  -- ---- a name that is new

  not-later : (n : ℕ) → nat_le (n + 1) n ≡ false
  not-later n = grind (arith, nat_tests)

  not-first : (n : ℕ) → (n + 1 == 0) ≡ false
  not-first n = grind (arith, nat_tests)

  abbrev next : List ℕ → FileName
  next path = record { path = path; generation = last_taken s.taken path + 1 }

  untaken : (path : List ℕ) → is_taken s.told s.taken (next path) ≡ false
  untaken path = ap (λ (b : Bool). not b || nat_le (last_taken s.taken path + 1) (last_taken s.taken path)) told ∙ not-later (last_taken s.taken path)

  other-name : (m n : FileName) → is_taken s.told s.taken m ≡ true → is_taken s.told s.taken n ≡ false → same_name m n ≡ false
  other-name m n e f = step (same_name m n) refl
    where
      step : (b : Bool) → same_name m n ≡ b → b ≡ false
      step true g = let no : true ≡ false = sym e ∙ (ap (is_taken s.told s.taken) (name-eq m n g) ∙ f) in cc
      step false g = refl

  handle-closed : (h : Handle) (n : FileName) → is_taken_by s.told s.taken h ≡ true → is_taken s.told s.taken n ≡ false → is_held_name (names_of_handle h) n ≡ false
  handle-closed (Handle.File name node document strict read write) n e f = λ i. other-name name n e f i || false
  handle-closed (Handle.Folder node entries) n e f = refl

  all-closed : (hs : List OpenHandle) (n : FileName) → is_taken s.told s.taken n ≡ false → list_all (has_taken_handle s.told s.taken) hs ≡ true → list_all (λ h. not (opens n h)) hs ≡ true
  all-closed [] n f e = refl
  all-closed (h ∷ hs) n f e =
      both (not (opens n h)) (list_all (λ x. not (opens n x)) hs) (not-true (opens n h) (handle-closed h.handle n (first-both (has_taken_handle s.told s.taken h) (list_all (has_taken_handle s.told s.taken) hs) e) f))
      (all-closed hs n f (second-both (has_taken_handle s.told s.taken h) (list_all (has_taken_handle s.told s.taken) hs) e))

  temps-other : (ts : List OwnTemp) (n : FileName) → is_taken s.told s.taken n ≡ false → list_all (is_taken_temp s.told s.taken) ts ≡ true → is_held_name (names_in ts) n ≡ false
  temps-other [] n f e = refl
  temps-other (t ∷ ts) n f e =
      λ i. other-name (file_of t) n (first-both (is_taken_temp s.told s.taken t) (list_all (is_taken_temp s.told s.taken) ts) e) f i
      || temps-other ts n f (second-both (is_taken_temp s.told s.taken t) (list_all (is_taken_temp s.told s.taken) ts) e) i

  all-without : (cs : List Connection) (n : FileName) → is_taken s.told s.taken n ≡ false → list_all (has_taken_temps s.told s.taken) cs ≡ true → list_all (λ d. not (has_temp n d)) cs ≡ true
  all-without [] n f e = refl
  all-without (c ∷ cs) n f e =
      both (not (has_temp n c)) (list_all (λ x. not (has_temp n x)) cs) (not-true (has_temp n c) (temps-other c.temps n f (first-both (has_taken_temps s.told s.taken c) (list_all (has_taken_temps s.told s.taken) cs) e)))
      (all-without cs n f (second-both (has_taken_temps s.told s.taken c) (list_all (has_taken_temps s.told s.taken) cs) e))

  none-present : (n : FileName) → is_taken s.told s.taken n ≡ false → file_named s.files n ≡ None
  none-present n f = step (file_named s.files n) refl
    where
      step : (o : Option File) → file_named s.files n ≡ o → o ≡ None
      step None e = refl
      step (Some x) e =
          let of_file : is_taken_file s.told s.taken x ≡ true = found_in_all (is_named n) (is_taken_file s.told s.taken) s.files x e v.generations_sound.files_taken in
          let no : true ≡ false = sym of_file ∙ (ap (is_taken s.told s.taken) (found-name s.files n x e) ∙ f) in
          cc

  pub next-fresh : (path : List ℕ) → Fresh s.files s.handles s.connections (next path)
  next-fresh path = record {
    later = not-first (last_taken s.taken path);
    hidden = none-present (next path) (untaken path);
    closed = all-closed s.handles (next path) (untaken path) v.handles_taken;
    none = all-without s.connections (next path) (untaken path) v.temps_taken;
  }

  -- ---- what the connection of a seat has

  module _ (c : Connection) (here : connection_of s.connections c.seat ≡ Some c) where
    abbrev pub Known : FileName → Type 0
    Known n = others_without c.seat n s.connections ≡ true

    abbrev pub New : FileName → Type 0
    New n = Fresh s.files s.handles s.connections n

    pub own-alone : EachName (Alone s.files s.handles s.connections c.seat) (names_in c.temps)
    own-alone = found-each (Alone s.files s.handles s.connections) s.connections c.seat c here a.alone

    own-known : EachName Known (names_in c.temps)
    own-known = each-name (Alone s.files s.handles s.connections c.seat) Known (λ n x. x.only) (names_in c.temps) own-alone

    numbered-known : (id : ℕ) (t : Temp) → temp_of c.temps id ≡ Some t → Known t.file
    numbered-known id t e = step (find (λ (x : OwnTemp). x.k == id) c.temps) refl e
      where
        step : (o : Option OwnTemp) → find (λ (x : OwnTemp). x.k == id) c.temps ≡ o → option_map (λ (x : OwnTemp). x.temp) o ≡ Some t → Known t.file
        step None f g = cc
        step (Some x) f g = let same : x.temp ≡ t = cc in ap (λ (y : Temp). others_without c.seat y.file s.connections) (sym same) ∙ found-name-in Known (λ (y : OwnTemp). y.k == id) c.temps x own-known f

    called-known : (d : Document) (view : ℕ) (name : List ℕ) → KnownTemp tree Known New AnyTarget AnyCall AnyPath AnyPath AnyPath AnyDocument (found_temp c.temps view d.id name)
    called-known d view name = step (found_temp c.temps view d.id name) refl
      where
        step : (o : Option OwnTemp) → found_temp c.temps view d.id name ≡ o → KnownTemp tree Known New AnyTarget AnyCall AnyPath AnyPath AnyPath AnyDocument o
        step None e = tt
        step (Some t) e = found-name-in Known (is_called view d.id name) c.temps t own-known e

    -- ---- what it sees

    abbrev Sees : Option Sight → Type 0
    Sees o = SightOn AnyPath AnyPath Known AnyDocument o

    if-sees : (b : Bool) (sight : Sight) → Sees (Some sight) → Sees (cond b (Some sight) None)
    if-sees true sight h = h
    if-sees false sight h = tt

    path-sees : (view : ℕ) (d : Document) (b w : Bool) → Sees (Some (sight_at_path view d b w))
    path-sees view d true w = tt
    path-sees view d false w = tt

    document-sees : (view : ℕ) (who : Who) (o : Option Document) → Sees (sight_of_document view s.rights who o)
    document-sees view who None = tt
    document-sees view who (Some d) = if-sees (who_has s.rights who d.id.number Read) (sight_at_path view d d.folder (who_has s.rights who d.id.number Write)) (path-sees view d d.folder (who_has s.rights who d.id.number Write))

    folder-sees : (view : ℕ) (who : Who) (o : Option Document) → Sees (sight_of_folder view s.rights who o)
    folder-sees view who None = tt
    folder-sees view who (Some d) = if-sees (who_has s.rights who d.id.number Read) (SightOfFolder (FolderOf view d (who_has s.rights who d.id.number Write))) (tt, tt)

    below-sees : (view : ℕ) (who : Who) (path : List ℕ) (o : Option Document) → Sees (sight_below view s.rights who path o)
    below-sees view who path None = tt
    below-sees view who path (Some d) = if-sees (who_has s.rights who d.id.number Read) (SightBelow view d path (who_has s.rights who d.id.number Write)) tt

    naming-sees : (view : ℕ) (who : Who) (o : Option Naming) → Sees (sight_of_naming s view who o)
    naming-sees view who None = tt
    naming-sees view who (Some n) = elim (n.view == view) as (λ b. Sees (cond b (sight_below view s.rights who n.path (document_of s.documents n.document.number)) None)) [
      | true ↦ below-sees view who n.path (document_of s.documents n.document.number)
      | false ↦ tt
    ]

    temp-sees : (who : Who) (t : Temp) → Known t.file → (o : Option Document) → Sees (sight_of_temp s.rights who t.file o)
    temp-sees who t k None = tt
    temp-sees who t k (Some d) = if-sees (who_has s.rights who d.id.number Read) (SightOfTemp d t.file (who_has s.rights who d.id.number Write)) k

    own-temp-sees : (view : ℕ) (who : Who) (o : Option Temp) → ((t : Temp) → o ≡ Some t → Known t.file) → Sees (sight_of_own_temp s view who o)
    own-temp-sees view who None k = tt
    own-temp-sees view who (Some t) k = elim (t.view == view) as (λ b. Sees (cond b (sight_of_temp s.rights who t.file (document_of s.documents t.document.number)) None)) [
      | true ↦ temp-sees who t (k t refl) (document_of s.documents t.document.number)
      | false ↦ tt
    ]

    by-sees : (o : Option Who) (sight : Who → Option Sight) → ((who : Who) → Sees (sight who)) → Sees (seen_by o sight)
    by-sees None sight h = tt
    by-sees (Some who) sight h = h who

    place-sees : (naming : Option Naming) (temp : Option Temp) → ((t : Temp) → temp ≡ Some t → Known t.file) → (p : Place) → Sees (sight_of_place s c.who naming temp p)
    place-sees naming temp k (Place.Root view) = by-sees (subject_of s.applications c.who view) (sight_of_root s c.who view) (λ who. tt)
    place-sees naming temp k Place.ByApp = if-sees (is_host c.who) (SightOfFolder (Views s.applications)) tt
    place-sees naming temp k (Place.Folder view id) = by-sees (subject_of s.applications c.who view) _ (λ who. folder-sees view who (document_of s.documents id.number))
    place-sees naming temp k (Place.File view id) = by-sees (subject_of s.applications c.who view) _ (λ who. document-sees view who (document_of s.documents id.number))
    place-sees naming temp k (Place.Named view n) = by-sees (subject_of s.applications c.who view) _ (λ who. naming-sees view who naming)
    place-sees naming temp k (Place.Temporary view n) = by-sees (subject_of s.applications c.who view) _ (λ who. own-temp-sees view who temp k)

    at-sees : (naming : Option Naming) (temp : Option Temp) → ((t : Temp) → temp ≡ Some t → Known t.file) → (o : Option Place) → Sees (sight_at s c.who naming temp o)
    at-sees naming temp k None = tt
    at-sees naming temp k (Some p) = place-sees naming temp k p

    node-sees : (node : ℕ) → Sees (sight_on s c node)
    node-sees node = at-sees (naming_on c node) (temp_on c node) (numbered-known _) (place_named node)

    -- ---- what it has open

    found-closed : (hs : List OpenHandle) (fh seat : ℕ) (n : FileName) (h : OpenHandle) → find (is_handle c.seat fh) hs ≡ Some h → opens n h ≡ true → others_closed seat n hs ≡ true → (c.seat == seat) ≡ true
    found-closed hs fh seat n h e o x =
        let own : h.seat ≡ c.seat = nat_is h.seat c.seat (first-both (h.seat == c.seat) (h.fh == fh) (found_passes (is_handle c.seat fh) hs h e)) in
        let passes : (h.seat == seat || not (opens n h)) ≡ true = found_in_all (is_handle c.seat fh) (λ k. k.seat == seat || not (opens n k)) hs h e x in
        ap (λ (m : ℕ). m == seat) (sym own) ∙ or-not (h.seat == seat) (opens n h) passes o

    -- what it opens is a temporary of no other connection
    opened-without : (fh : ℕ) (n : FileName) (h : OpenHandle) → find (is_handle c.seat fh) s.handles ≡ Some h → opens n h ≡ true → (cs : List Connection) → EachTemp (λ seat m. others_closed seat m s.handles ≡ true) cs → others_without c.seat n cs ≡ true
    opened-without fh n h e o [] x = refl
    opened-without fh n h e o (d ∷ cs) x = both (d.seat == c.seat || not (has_temp n d)) (others_without c.seat n cs) (step (has_temp n d) refl) (opened-without fh n h e o cs x.1)
      where
        turned : (a b : ℕ) → (a == b) ≡ true → (b == a) ≡ true
        turned a b g = ap (λ (m : ℕ). m == a) (sym (nat_is a b g)) ∙ seat-itself a

        step : (b : Bool) → has_temp n d ≡ b → (d.seat == c.seat || not b) ≡ true
        step true g = or-first (d.seat == c.seat) false (turned c.seat d.seat (found-closed s.handles fh d.seat n h e o (held-name (λ m. others_closed d.seat m s.handles ≡ true) (names_in d.temps) n x.0 g)))
        step false g = or-second (d.seat == c.seat) true refl

    handle-known : (fh : ℕ) → HandleOn Known (handle_of s.handles c.seat fh)
    handle-known fh = step (find (is_handle c.seat fh) s.handles) refl
      where
        closed : EachTemp (λ seat m. others_closed seat m s.handles ≡ true) s.connections
        closed = each-temp (Alone s.files s.handles s.connections) (λ seat m. others_closed seat m s.handles ≡ true) (λ seat m x. x.closed) s.connections a.alone

        file-known : (seat number : ℕ) (h : Handle) → find (is_handle c.seat fh) s.handles ≡ Some (record { seat = seat; fh = number; handle = h }) → HandleOn Known (Some h)
        file-known seat number (Handle.File name node document strict read write) e =
            opened-without fh name (record { seat = seat; fh = number; handle = Handle.File name node document strict read write }) e (or-first (same_name name name) false (name-itself name)) s.connections closed
        file-known seat number (Handle.Folder node entries) e = tt

        step : (o : Option OpenHandle) → find (is_handle c.seat fh) s.handles ≡ o → HandleOn Known (option_map (λ (x : OpenHandle). x.handle) o)
        step None e = tt
        step (Some h) e = file-known h.seat h.fh h.handle e

    -- ---- what is done can be done

    standing-known : (path : List ℕ) (generation size moment : ℕ) → look_at s.files path ≡ Look.File generation size moment → Known (record { path = path; generation = generation })
    standing-known path generation size moment e = step (file_at s.files path) refl (is_folder s.files path) e
      where
        name : FileName
        name = record { path = path; generation = generation }

        found : (f : File) → file_at s.files path ≡ Some f → f.generation ≡ generation → file_named s.files name ≡ Some f
        found f k g =
            file_named-is name s.files v.files_differ
            ∙ (ap (of_number generation) k ∙ ap (λ (b : Bool). cond b (Some f) None) (ap (λ (m : ℕ). f.generation == m) (sym g) ∙ seat-itself f.generation))

        step : (o : Option File) → file_at s.files path ≡ o → (b : Bool) → look_of (content_of o b (has_room s.files path)) ≡ Look.File generation size moment → Known name
        step None k true g = cc
        step None k false g = cc
        step (Some f) k b g = let number : f.generation ≡ generation = cc in present-known name f (found f k number) c.seat

    named-still : (name : FileName) → Known name → (generation size moment : ℕ) → shown_at tree (Named name) ≡ Look.File generation size moment → Known (record { path = name.path; generation = generation })
    named-still name k generation size moment e = subst Known (step (file_named (all_held tree) name) refl e) k
      where
        step : (o : Option File) → file_named (all_held tree) name ≡ o → look_of_file o ≡ Look.File generation size moment → name ≡ record { path = name.path; generation = generation }
        step None f g = cc
        step (Some x) f g =
            let number : x.generation ≡ generation = cc in
            let its : name.generation ≡ x.generation = ap (λ (m : FileName). m.generation) (sym (found-name (all_held tree) name x f)) in
            λ i. record { path = name.path; generation = (its ∙ number) i }

    grounds : Grounds tree Known New AnyTarget AnyCall AnyPath AnyPath AnyPath AnyDocument
    grounds = record {
      itself = λ path h. tt;
      child = λ path name p h e. tt;
      lists = λ path h. tt;
      at_path = λ path h. tt;
      at_named = λ name h. tt;
      uses = λ name h. tt;
      alters = λ name h. tt;
      makes = λ path h e. tt;
      turns = λ name h. tt;
      standing = λ path h generation size moment e. standing-known path generation size moment e;
      absent = λ path h e. first-known path c.seat;
      named_still = named-still;
    }

    next-known : (path : List ℕ) → Known (next path)
    next-known path = none-has (next path) s.connections (none-of (next path) s.connections (next-fresh path).none) c.seat

    pub node-can : (r : NodeRequest) (given : Given) → Gives (Some tree) (walk_on_node s c r) given.looks (is_tree given.fault) → CanBe tree Known New (node_given (walk_on_node s c r) given)
    node-can r given g =
        given-can tree Known New AnyTarget AnyCall AnyPath (walk_on_node s c r) (moment_given given.now) given.listed given.looks (is_tree given.fault) g
        (walk-along tree Known New AnyTarget AnyCall AnyPath AnyPath AnyPath AnyDocument grounds (facts_of s c r.node) r r.op (node-sees r.node) node-sees handle-known
        (λ path h. (tt, (next-known path, next-fresh path))) (λ d h view name. called-known d view name))
