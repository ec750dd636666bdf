-- The files that a view names in a valid state: no new one has their names, a first one has a path that the view names, and
-- a temporary of a document of the view that of the document.
use Rattle.std.proofs.Common.{◌≡◌, ℕ, ◌+◌, ◌==◌, nat_le, nat_lt, List, [], ◌∷◌, ◌++◌, map, Bool, true, false, not, ◌&&◌, ◌||◌, cond, Option, Some, None, is_some, refl, sym, ap, subst, ◌∙◌, arith}
use Rattle.std.proofs.lemmas.Bool.Decides.{nat_tests}
use Rattle.std.proofs.lemmas.List.Folds.{list_all-append}
use Rattle.std.specs.List.{filter, find, flat_map, list_all, list_any, AllByRecursion}
use Rattle.portal_base.specs.Content.{file_named, is_named}
use Rattle.file_generations.specs.Generations.{Held, all_held, is_held, name_of_file}
use Rattle.portal_base.specs.Names.{is_host_path, is_same}
use Rattle.portal_base.specs.declared.files.File.{File}
use Rattle.portal_base.specs.declared.files.FileName.{FileName}
use Rattle.rights_rule.specs.Rights.{RightSet, holds_any}
use Rattle.portal_model.specs.declared.handle.Handle.{Handle}
use Rattle.portal_model.specs.declared.handle.OpenHandle.{OpenHandle}
use Rattle.portal_model.specs.declared.state.Connection.{Connection}
use Rattle.portal_model.specs.declared.state.Document.{Document}
use Rattle.portal_model.specs.declared.temporary.OwnTemp.{OwnTemp}
use Rattle.portal_model.specs.SeatNames.{last_taken}
use Rattle.portal_model.specs.SoundGenerations.{has_taken_handle, has_taken_temps, is_taken, is_taken_by, is_taken_file, is_taken_temp}
use Rattle.portal_model.specs.SoundNames.{SoundTemps, is_later_file, is_placed_temp, is_sound_temp, is_viewed_temp}
use Rattle.portal_model.specs.State.{State, connection_of, document_of, handles_of, held_in, held_of, is_app, is_made}
use Rattle.portal_model.specs.Valid.{Valid}
use Rattle.portal_model.proofs.DocumentChanges.{first_of_both, second_of_both}
use Rattle.portal_model.proofs.ListLookups.{found_in_all, is_same-eq, is_same-refl}
use Rattle.app_world.specs.Node.{first_of}
use Rattle.app_world.specs.View.{AppView, HeldDocument, OwnConnection, OwnHandle, found_document, held_documents, holds_name, is_among, is_held_name, is_plain_document, knows, names_held, names_of_connection, names_of_handle, own_connection, own_connections, own_handle, own_handles, paths_of_connection, paths_of_handle, paths_where, same_name, seen, view}
use Rattle.app_world.proofs.DocumentLaws.{documents-found}
use Rattle.app_world.proofs.HeldFiles.{SoundTree, found-name}
use Rattle.app_world.proofs.NamedFiles.{held-joined, name-eq}
use Rattle.app_world.proofs.NamedPaths.{found_held, held-told, named-told}
use Rattle.app_world.proofs.NodeLaws.{AreFree, FirstsTold, TempsTold, next_of}
use Rattle.app_world.proofs.ViewLaws.{among-joined}

both : (a b : Bool) → a ≡ true → b ≡ true → (a && b) ≡ true
both true b e f = f
both false b e f = e

-- ---- what is true of all names that a view has

module _ (r : FileName → Bool) where
  joined-all : (ns ms : List FileName) → list_all r ns ≡ true → list_all r ms ≡ true → list_all r (ns ++ ms) ≡ true
  joined-all ns ms h k = list_all-append r ns ms ∙ both (list_all r ns) (list_all r ms) h k

  abbrev of_handle : OpenHandle → Bool
  of_handle h = list_all r (names_of_handle h.handle)

  abbrev of_temps : Connection → Bool
  of_temps c = list_all (λ (t : OwnTemp). r t.temp.file) c.temps

  handles-all : (hs : List OpenHandle) (seat : ℕ) → list_all of_handle hs ≡ true → list_all r (flat_map (λ (h : OwnHandle). names_of_handle h.handle) (own_handles hs seat)) ≡ true
  handles-all [] seat h = refl
  handles-all (x ∷ hs) seat h = by_seat (x.seat == seat) (first_of_both (of_handle x) (list_all of_handle hs) h) (handles-all hs seat (second_of_both (of_handle x) (list_all of_handle hs) h))
    where
      by_seat : (b : Bool) → of_handle x ≡ true → list_all r (flat_map (λ (y : OwnHandle). names_of_handle y.handle) (own_handles hs seat)) ≡ true →
          list_all r (flat_map (λ (y : OwnHandle). names_of_handle y.handle) (map own_handle (cond b (x ∷ handles_of hs seat) (handles_of hs seat)))) ≡ true
      by_seat true k l = joined-all (names_of_handle x.handle) (flat_map (λ (y : OwnHandle). names_of_handle y.handle) (own_handles hs seat)) k l
      by_seat false k l = l

  temps-all : (ts : List OwnTemp) → list_all (λ (t : OwnTemp). r t.temp.file) ts ≡ true → list_all r (map (λ (t : OwnTemp). t.temp.file) ts) ≡ true
  temps-all [] h = refl
  temps-all (t ∷ ts) h =
      both (r t.temp.file) (list_all r (map (λ (x : OwnTemp). x.temp.file) ts)) (first_of_both (r t.temp.file) (list_all (λ (x : OwnTemp). r x.temp.file) ts) h)
      (temps-all ts (second_of_both (r t.temp.file) (list_all (λ (x : OwnTemp). r x.temp.file) ts) h))

  connections-all : (app : List ℕ) (hs : List OpenHandle) → list_all of_handle hs ≡ true → (cs : List Connection) → list_all of_temps cs ≡ true → list_all r (names_held (own_connections app hs cs)) ≡ true
  connections-all app hs h [] k = refl
  connections-all app hs h (c ∷ cs) k = by_app (is_app app c.who) (connections-all app hs h cs (second_of_both (of_temps c) (list_all of_temps cs) k))
    where
      by_app : (b : Bool) → list_all r (names_held (own_connections app hs cs)) ≡ true →
          list_all r (names_held (map (own_connection app hs) (cond b (c ∷ filter (λ (x : Connection). is_app app x.who) cs) (filter (λ (x : Connection). is_app app x.who) cs)))) ≡ true
      by_app true l =
          joined-all (names_of_connection (own_connection app hs c)) (names_held (own_connections app hs cs))
          (joined-all (flat_map (λ (y : OwnHandle). names_of_handle y.handle) (own_handles hs c.seat)) (map (λ (t : OwnTemp). t.temp.file) c.temps) (handles-all hs c.seat h)
          (temps-all c.temps (first_of_both (of_temps c) (list_all of_temps cs) k))) l
      by_app false l = l

  none-held : (ns : List FileName) (name : FileName) → list_all r ns ≡ true → r name ≡ false → is_held_name ns name ≡ false
  none-held [] name h e = refl
  none-held (n ∷ ns) name h e = step (same_name n name) refl (none-held ns name (second_of_both (r n) (list_all r ns) h) e)
    where
      step : (b : Bool) → same_name n name ≡ b → is_held_name ns name ≡ false → (b || is_held_name ns name) ≡ false
      step true g more = let no : true ≡ false = sym (first_of_both (r n) (list_all r ns) h) ∙ (ap r (name-eq n name g) ∙ e) in cc
      step false g more = more

-- ---- no new file has such a name

not-later : (n : ℕ) → nat_le (n + 1) n ≡ false
not-later n = grind (arith, nat_tests)

module _ (app : List ℕ) (s : State) (v : Valid s) where
  abbrev taken : FileName → Bool
  taken name = is_taken s.told s.taken name

  pub tree-sound : SoundTree (held_in s)
  tree-sound = record {
    paths = v.files_differ;
    apart = v.files_apart;
    others = v.generations_sound.apart;
    followed = v.generations_sound.followed;
    placed = v.generations_sound.placed;
  }

  by-handle : (h : Handle) → is_taken_by s.told s.taken h ≡ true → list_all taken (names_of_handle h) ≡ true
  by-handle (Handle.File name node document strict read write) e = both (taken name) true e refl
  by-handle (Handle.Folder node entries) e = refl

  handles-taken : (hs : List OpenHandle) → list_all (has_taken_handle s.told s.taken) hs ≡ true → list_all (of_handle taken) hs ≡ true
  handles-taken [] h = refl
  handles-taken (x ∷ hs) h =
      both (of_handle taken x) (list_all (of_handle taken) hs) (by-handle x.handle (first_of_both (has_taken_handle s.told s.taken x) (list_all (has_taken_handle s.told s.taken) hs) h))
      (handles-taken hs (second_of_both (has_taken_handle s.told s.taken x) (list_all (has_taken_handle s.told s.taken) hs) h))

  all-taken : list_all taken (names_held (own_connections app s.handles s.connections)) ≡ true
  all-taken = connections-all taken app s.handles (handles-taken s.handles v.handles_taken) s.connections v.temps_taken

  next-free : s.told ≡ true → (path : List ℕ) → taken (next_of s path) ≡ false
  next-free told path = ap (λ (b : Bool). not b || nat_le (last_taken s.taken path + 1) (last_taken s.taken path)) told ∙ not-later (last_taken s.taken path)

  pub all-free : s.told ≡ true → AreFree app s
  all-free told path = (unheld (file_named (all_held (held_in s)) (next_of s path)) refl, none-held taken (names_held (own_connections app s.handles s.connections)) (next_of s path) all-taken (next-free told path))
    where
      files-taken : list_all (is_taken_file s.told s.taken) (all_held (held_in s)) ≡ true
      files-taken =
          list_all-append (is_taken_file s.told s.taken) s.hidden s.files
          ∙ both (list_all (is_taken_file s.told s.taken) s.hidden) (list_all (is_taken_file s.told s.taken) s.files) v.generations_sound.hidden_taken v.generations_sound.files_taken

      unheld : (o : Option File) → file_named (all_held (held_in s)) (next_of s path) ≡ o → is_held (held_in s) (next_of s path) ≡ false
      unheld None e = ap is_some e
      unheld (Some f) e =
          let of_file : taken (name_of_file f) ≡ true = found_in_all (is_named (next_of s path)) (is_taken_file s.told s.taken) (all_held (held_in s)) f e files-taken in
          let no : true ≡ false = sym of_file ∙ (ap taken (found-name (all_held (held_in s)) (next_of s path) f e) ∙ next-free told path) in
          cc

  -- ---- temporaries

  sound-temps : (cs : List Connection) (p : Connection → Bool) (c : Connection) → AllByRecursion (λ (x : Connection). SoundTemps s.made s.documents x.who x.added x.temps) cs → find p cs ≡ Some c → SoundTemps s.made s.documents c.who c.added c.temps
  sound-temps [] p c h e = cc
  sound-temps (x ∷ cs) p c h e = step (p x) e (sound-temps cs p c h.1)
    where
      step : (b : Bool) → cond b (Some x) (find p cs) ≡ Some c → (find p cs ≡ Some c → SoundTemps s.made s.documents c.who c.added c.temps) → SoundTemps s.made s.documents c.who c.added c.temps
      step true k more = let same : x ≡ c = cc in subst (λ (y : Connection). SoundTemps s.made s.documents y.who y.added y.temps) same h.0
      step false k more = more k

  -- a temporary is no first file
  later-files : (made : Bool) (a b c d : Bool) → (a && (b && (c && (d && made)))) ≡ true → (c ≡ true) × (made ≡ true)
  later-files made true true true true h = (refl, h)
  later-files made true true true false h = cc
  later-files made true true false d h = cc
  later-files made true false c d h = cc
  later-files made false b c d h = cc

  temp-parts : (c : Connection) (t : OwnTemp) → is_sound_temp s.made s.documents c.who c.added t ≡ true → (is_placed_temp (document_of s.documents t.temp.document.number) t.temp ≡ true) × (is_later_file t.temp.file ≡ true)
  temp-parts c t h =
      later-files (is_later_file t.temp.file) (nat_lt 0 t.k && nat_le t.k c.added) (is_made s.made t.temp.document.number) (is_placed_temp (document_of s.documents t.temp.document.number) t.temp) (is_viewed_temp c.who t.temp) h

  -- a temporary of a connection is a file of the path of its document, while that is live
  pub placed-temps : (seat : ℕ) (c : Connection) → connection_of s.connections seat ≡ Some c → (p : OwnTemp → Bool) (t : OwnTemp) → find p c.temps ≡ Some t → is_placed_temp (document_of s.documents t.temp.document.number) t.temp ≡ true
  placed-temps seat c e p t f =
      (temp-parts c t (found_in_all p (is_sound_temp s.made s.documents c.who c.added) c.temps t f (sound-temps s.connections (λ (x : Connection). x.seat == seat) c v.temps_sound e).sound)).0

  abbrev later : FileName → Bool
  later name = not (name.generation == 0)

  is-later : (name : FileName) → is_later_file name ≡ true → later name ≡ true
  is-later name h = step (name.generation == 0) refl (second_of_both (is_host_path name.path) (nat_lt 0 name.generation) h)
    where
      step : (b : Bool) → (name.generation == 0) ≡ b → nat_lt 0 name.generation ≡ true → not b ≡ true
      step true e k = grind (arith, nat_tests)
      step false e k = refl

  temps-later : (c : Connection) (ts : List OwnTemp) → list_all (is_sound_temp s.made s.documents c.who c.added) ts ≡ true → list_all (λ (t : OwnTemp). later t.temp.file) ts ≡ true
  temps-later c [] h = refl
  temps-later c (t ∷ ts) h =
      both (later t.temp.file) (list_all (λ (x : OwnTemp). later x.temp.file) ts)
      (is-later t.temp.file (temp-parts c t (first_of_both (is_sound_temp s.made s.documents c.who c.added t) (list_all (is_sound_temp s.made s.documents c.who c.added) ts) h)).1)
      (temps-later c ts (second_of_both (is_sound_temp s.made s.documents c.who c.added t) (list_all (is_sound_temp s.made s.documents c.who c.added) ts) h))

  connections-later : (cs : List Connection) → AllByRecursion (λ (x : Connection). SoundTemps s.made s.documents x.who x.added x.temps) cs → list_all (of_temps later) cs ≡ true
  connections-later [] h = refl
  connections-later (c ∷ cs) h = both (of_temps later c) (list_all (of_temps later) cs) (temps-later c c.temps h.0.sound) (connections-later cs h.1)

  -- ---- a first file that is named has a path that is named

  or-first : (a b : Bool) → a ≡ true → (a || b) ≡ true
  or-first true b h = refl
  or-first false b h = cc

  or-second : (a : Bool) {b : Bool} → b ≡ true → (a || b) ≡ true
  or-second true h = refl
  or-second false h = h

  either-of : (a b : Bool) {x : Bool} → (a ≡ true → x ≡ true) → (b ≡ true → x ≡ true) → (a || b) ≡ true → x ≡ true
  either-of true b f g h = f refl
  either-of false b f g h = g h

  handle-path : (h : Handle) (name : FileName) → is_held_name (names_of_handle h) name ≡ true → is_among (paths_of_handle h) name.path ≡ true
  handle-path (Handle.File file node document strict read write) name e =
      either-of (same_name file name) false (λ k. or-first (is_same file.path name.path) false (ap (λ (n : FileName). is_same n.path name.path) (name-eq file name k) ∙ is_same-refl name.path)) (λ k. cc) e
  handle-path (Handle.Folder node entries) name e = let no : false ≡ true = e in cc

  handles-paths : (hs : List OwnHandle) (name : FileName) → is_held_name (flat_map (λ (h : OwnHandle). names_of_handle h.handle) hs) name ≡ true → is_among (flat_map (λ (h : OwnHandle). paths_of_handle h.handle) hs) name.path ≡ true
  handles-paths [] name e = let no : false ≡ true = e in cc
  handles-paths (x ∷ hs) name e =
      among-joined (paths_of_handle x.handle) (flat_map (λ (h : OwnHandle). paths_of_handle h.handle) hs) name.path
      ∙ either-of (is_held_name (names_of_handle x.handle) name) (is_held_name (flat_map (λ (h : OwnHandle). names_of_handle h.handle) hs) name)
      (λ k. or-first (is_among (paths_of_handle x.handle) name.path) (is_among (flat_map (λ (h : OwnHandle). paths_of_handle h.handle) hs) name.path) (handle-path x.handle name k))
      (λ k. or-second (is_among (paths_of_handle x.handle) name.path) (handles-paths hs name k))
      (sym (held-joined (names_of_handle x.handle) (flat_map (λ (h : OwnHandle). names_of_handle h.handle) hs) name) ∙ e)

  first-named : (path : List ℕ) (cs : List Connection) → list_all (of_temps later) cs ≡ true → is_held_name (names_held (own_connections app s.handles cs)) (first_of path) ≡ true → is_among (flat_map paths_of_connection (own_connections app s.handles cs)) path ≡ true
  first-named path [] h e = let no : false ≡ true = e in cc
  first-named path (c ∷ cs) h e = by_app (is_app app c.who) (first-named path cs (second_of_both (of_temps later c) (list_all (of_temps later) cs) h)) e
    where
      handles : List FileName
      handles = flat_map (λ (y : OwnHandle). names_of_handle y.handle) (own_handles s.handles c.seat)

      temps : List FileName
      temps = map (λ (t : OwnTemp). t.temp.file) c.temps

      no-temp : is_held_name temps (first_of path) ≡ false
      no-temp = none-held later temps (first_of path) (temps-all later c.temps (first_of_both (of_temps later c) (list_all (of_temps later) cs) h)) refl

      by_app : (b : Bool) → (is_held_name (names_held (own_connections app s.handles cs)) (first_of path) ≡ true → is_among (flat_map paths_of_connection (own_connections app s.handles cs)) path ≡ true) →
          is_held_name (names_held (map (own_connection app s.handles) (cond b (c ∷ filter (λ (x : Connection). is_app app x.who) cs) (filter (λ (x : Connection). is_app app x.who) cs)))) (first_of path) ≡ true →
          is_among (flat_map paths_of_connection (map (own_connection app s.handles) (cond b (c ∷ filter (λ (x : Connection). is_app app x.who) cs) (filter (λ (x : Connection). is_app app x.who) cs)))) path ≡ true
      by_app true more k =
          among-joined (paths_of_connection (own_connection app s.handles c)) (flat_map paths_of_connection (own_connections app s.handles cs)) path
          ∙ either-of (is_held_name (handles ++ temps) (first_of path)) (is_held_name (names_held (own_connections app s.handles cs)) (first_of path))
          (λ u.
          or-first (is_among (paths_of_connection (own_connection app s.handles c)) path) (is_among (flat_map paths_of_connection (own_connections app s.handles cs)) path)
          (either-of (is_held_name handles (first_of path)) (is_held_name temps (first_of path)) (handles-paths (own_handles s.handles c.seat) (first_of path)) (λ w. let no : true ≡ false = sym w ∙ no-temp in cc)
          (sym (held-joined handles temps (first_of path)) ∙ u)))
          (λ u. or-second (is_among (paths_of_connection (own_connection app s.handles c)) path) (more u))
          (sym (held-joined (handles ++ temps) (names_held (own_connections app s.handles cs)) (first_of path)) ∙ k)
      by_app false more k = more k

  pub firsts-told : FirstsTold (view s app)
  firsts-told path h =
      named-told (view s app) path
      (among-joined (paths_where is_plain_document (view s app).documents) (flat_map paths_of_connection (view s app).connections) path
      ∙ or-second (is_among (paths_where is_plain_document (view s app).documents) path) (first-named path s.connections (connections-later s.connections v.temps_sound) h))

  -- ---- a temporary of a document of the view has its path

  pub temps-told : (seat : ℕ) (c : Connection) → connection_of s.connections seat ≡ Some c → TempsTold (view s app) c.temps
  temps-told seat c e p t f h = by-document (document_of s.documents t.temp.document.number) refl
    where
      held : ℕ → RightSet
      held n = held_of s.rights app n

      number : ℕ
      number = t.temp.document.number

      sound : is_sound_temp s.made s.documents c.who c.added t ≡ true
      sound = found_in_all p (is_sound_temp s.made s.documents c.who c.added) c.temps t f (sound-temps s.connections (λ (x : Connection). x.seat == seat) c v.temps_sound e).sound

      by-document : (o : Option Document) → document_of s.documents number ≡ o → knows (view s app) t.temp.file.path ≡ true
      by-document None g = let no : false ≡ true = ap is_some (sym (documents-found held number s.documents ∙ ap (seen (held number)) g)) ∙ h in cc
      by-document (Some d) g = by-right (holds_any (held number)) refl
        where
          its-path : t.temp.file.path ≡ d.path
          its-path = is_same-eq t.temp.file.path d.path (second_of_both (not d.folder) (is_same t.temp.file.path d.path) (ap (λ (o : Option Document). is_placed_temp o t.temp) (sym g) ∙ (temp-parts c t sound).0))

          there : found_document (view s app).documents number ≡ seen (held number) (Some d)
          there = documents-found held number s.documents ∙ ap (seen (held number)) g

          by-right : (b : Bool) → holds_any (held number) ≡ b → knows (view s app) t.temp.file.path ≡ true
          by-right true k =
              let x : HeldDocument = record { document = d; rights = held number } in
              let found : found_document (view s app).documents number ≡ Some x = there ∙ ap (λ (b : Bool). cond b (Some x) None) k in
              ap (λ (q : List ℕ). knows (view s app) q) its-path ∙ held-told (view s app) d (found_held (view s app) (λ (name : FileName). Unit {0}) number x found)
          by-right false k = let no : false ≡ true = ap is_some (sym (there ∙ ap (λ (b : Bool). cond b (Some (record { document = d; rights = held number })) None) k)) ∙ h in cc
