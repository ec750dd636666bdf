-- A change of the open handles of a seat: what it is to the view of the application whose seat it is, and to another's.
use Rattle.std.proofs.Common.{◌≡◌, ℕ, ◌+◌, ◌==◌, List, [], ◌∷◌, ◌++◌, map, Bool, true, false, not, ◌&&◌, ◌||◌, cond, Some, None, refl, sym, ap, ◌∙◌, arith}
use Rattle.std.specs.List.{filter, find, flat_map}
use Rattle.std.specs.Option.{option_map}
use Rattle.std.proofs.lemmas.Bool.Decides.{nat_tests}
use Rattle.std.proofs.lemmas.Grind.{flat_map-append}
use Rattle.std.proofs.lemmas.List.{append-nil, map-append}
use Rattle.std.proofs.lemmas.List.Elements.{filter-append}
use Rattle.file_generations.specs.Generations.{Held, all_held}
use Rattle.portal_base.specs.Names.{is_same}
use Rattle.portal_base.specs.declared.files.File.{File}
use Rattle.portal_base.specs.declared.files.FileName.{FileName}
use Rattle.portal_base.specs.declared.limits.Limits.{Limits}
use Rattle.rights_rule.specs.Rights.{RightSet}
use Rattle.portal_model.specs.declared.handle.Handle.{Handle}
use Rattle.portal_model.specs.declared.handle.OpenHandle.{OpenHandle}
use Rattle.portal_model.specs.declared.naming.Naming.{Naming}
use Rattle.portal_model.specs.declared.state.Connection.{Connection}
use Rattle.portal_model.specs.declared.temporary.OwnTemp.{OwnTemp}
use Rattle.portal_model.specs.declared.temporary.Temp.{Temp}
use Rattle.portal_model.specs.SeatNames.{Begins, Drops, Renames, TempChange, added_after, is_replaced, own_temp, renamed, temps_after, with_naming}
use Rattle.portal_model.specs.declared.state.Document.{Document}
use Rattle.portal_model.specs.Node.{connections_after, counted, handles_after, new_handle, connections_named, named_on, temps_changed}
use Rattle.portal_model.specs.NodeVerdict.{HandleChange, HandlesStay, Opens, Closes, NameChange, Names, NamesStay, NodeDoing, Temps}
use Rattle.portal_model.specs.State.{handle_of, handles_of, is_app, is_handle}
use Rattle.portal_model.specs.Content.{Content, content_at}
use Rattle.portal_model.specs.Ordered.{put, put_all}
use Rattle.app_world.specs.Node.{next_own_handle, own_closed, own_connections_after, own_handle_of, own_opened, own_connections_named, own_connections_then, own_named, own_temps_changed, with_handles}
use Rattle.app_world.specs.Node.{content_named}
use Rattle.app_world.specs.Effect.{with_content, with_named}
use Rattle.app_world.specs.Shown.{own_content, own_file}
use Rattle.app_world.specs.View.{AppView, HeldDocument, NamedFile, OwnConnection, OwnHandle, PathContent, ahead, files_at, folder_paths, found_connection, found_content, held_documents, is_among, is_held_name, is_plain_document, named_ahead, named_as, named_file, named_paths, names_held, names_of_connection, names_of_handle, own_connection, own_connections, own_handle, own_handles, path_content, paths_of_connection, paths_of_handle, paths_where, prune, pruned, same_name, view_over}
use Rattle.app_world.proofs.ContentLaws.{below-fewer, contents-found, contents-fewer, contents-joined}
use Rattle.app_world.proofs.NamedFiles.{held-joined, named-fewer, named-joined}
use Rattle.app_world.proofs.ViewLaws.{among-joined, own_first, still_held}

-- ---- one handle

-- the open handle of a number is the same in the state and in the view
pub handle-found : (hs : List OpenHandle) (seat fh : ℕ) → own_handle_of (own_handles hs seat) fh ≡ handle_of hs seat fh
handle-found [] seat fh = refl
handle-found (h ∷ hs) seat fh = by_seat (h.seat == seat) (h.fh == fh) (handle-found hs seat fh)
  where
    by_seat : (b c : Bool) → own_handle_of (own_handles hs seat) fh ≡ handle_of hs seat fh → option_map (λ (x : OwnHandle). x.handle) (find (λ x. x.fh == fh) (map own_handle (cond b (h ∷ handles_of hs seat) (handles_of hs seat)))) ≡ option_map (λ (x : OpenHandle). x.handle) (cond (b && h.fh == fh) (Some h) (find (is_handle seat fh) hs))
    by_seat true c e = elim (h.fh == fh) as (λ k. option_map (λ (x : OwnHandle). x.handle) (cond k (Some (own_handle h)) (find (λ x. x.fh == fh) (own_handles hs seat))) ≡ option_map (λ (x : OpenHandle). x.handle) (cond k (Some h) (find (is_handle seat fh) hs))) [ true ↦ refl | false ↦ e ]
    by_seat false c e = e

-- ---- in the state as in the view

module _ (app : List ℕ) (hs more : List OpenHandle) (f : Connection → Connection) (g : OwnConnection → OwnConnection) (who : (c : Connection) → (f c).who ≡ c.who)
    (each : (c : Connection) → own_connection app more (f c) ≡ g (own_connection app hs c)) where
  first_mapped : (c : Connection) (cs : List Connection) (b : Bool) → is_app app c.who ≡ b → own_connections app more (map f cs) ≡ map g (own_connections app hs cs) →
      own_connections app more (f c ∷ map f cs) ≡ map g (own_connections app hs (c ∷ cs))
  first_mapped c cs b e rest =
      own_first app more (f c) (map f cs) b (ap (is_app app) (who c) ∙ e) ∙ (by_app b ∙ ap (map g) (sym (own_first app hs c cs b e)))
    where
      by_app : (d : Bool) → cond d (own_connection app more (f c) ∷ own_connections app more (map f cs)) (own_connections app more (map f cs)) ≡ map g (cond d (own_connection app hs c ∷ own_connections app hs cs) (own_connections app hs cs))
      by_app true = λ i. each c i ∷ rest i
      by_app false = rest

  own-mapped : (cs : List Connection) → own_connections app more (map f cs) ≡ map g (own_connections app hs cs)
  own-mapped [] = refl
  own-mapped (c ∷ cs) = first_mapped c cs (is_app app c.who) refl (own-mapped cs)

-- handles of a seat where one handle of a seat is closed
closed-here : (seat fh n : ℕ) (hs : List OpenHandle) → (n == seat) ≡ true → own_handles (filter (λ h. not (is_handle seat fh h)) hs) n ≡ filter (λ h. not (h.fh == fh)) (own_handles hs n)
closed-here seat fh n [] e = refl
closed-here seat fh n (h ∷ hs) e = grind (arith, nat_tests, closed-here seat fh n hs)

closed-elsewhere : (seat fh n : ℕ) (hs : List OpenHandle) → (n == seat) ≡ false → own_handles (filter (λ h. not (is_handle seat fh h)) hs) n ≡ own_handles hs n
closed-elsewhere seat fh n [] e = refl
closed-elsewhere seat fh n (h ∷ hs) e = grind (arith, nat_tests, closed-elsewhere seat fh n hs)

turned : (a b : ℕ) (c : Bool) → (a == b) ≡ c → (b == a) ≡ c
turned a b c e = grind (arith, nat_tests)

module _ (app : List ℕ) (c : Connection) (hs : List OpenHandle) where
  abbrev mine : OwnConnection
  mine = own_connection app hs c

  opened_handles : (handle : Handle) (n : ℕ) (b : Bool) → (c.seat == n) ≡ b → own_handles (hs ++ new_handle c handle ∷ []) n ≡ own_handles hs n ++ cond b (next_own_handle mine handle ∷ []) []
  opened_handles handle n b e =
      ap (map own_handle) (filter-append (λ (h : OpenHandle). h.seat == n) hs (new_handle c handle ∷ []))
      ∙ (map-append own_handle (handles_of hs n) (cond (c.seat == n) (new_handle c handle ∷ []) [])
      ∙ (ap (λ (k : Bool). own_handles hs n ++ map own_handle (cond k (new_handle c handle ∷ []) [])) e ∙ by_seat b))
    where
      by_seat : (k : Bool) → own_handles hs n ++ map own_handle (cond k (new_handle c handle ∷ []) []) ≡ own_handles hs n ++ cond k (next_own_handle mine handle ∷ []) []
      by_seat true = refl
      by_seat false = refl

  opened_one : (handle : Handle) (x : Connection) (b : Bool) → (x.seat == c.seat) ≡ b →
      own_connection app (hs ++ new_handle c handle ∷ []) (counted c.seat x) ≡ own_opened c.seat (next_own_handle mine handle) (own_connection app hs x)
  opened_one handle x true e =
      ap (λ (k : Bool). own_connection app (hs ++ new_handle c handle ∷ []) (cond k (record x { opens = x.opens + 1 }) x)) e
      ∙ ((λ i. record (own_connection app hs x) { opens = x.opens + 1; handles = opened_handles handle x.seat true (turned x.seat c.seat true e) i })
      ∙ ap (λ (k : Bool). cond k (record (own_connection app hs x) { opens = x.opens + 1; handles = own_handles hs x.seat ++ next_own_handle mine handle ∷ [] }) (own_connection app hs x)) (sym e))
  opened_one handle x false e =
      ap (λ (k : Bool). own_connection app (hs ++ new_handle c handle ∷ []) (cond k (record x { opens = x.opens + 1 }) x)) e
      ∙ ((λ i. record (own_connection app hs x) { handles = (opened_handles handle x.seat false (turned x.seat c.seat false e) ∙ append-nil (own_handles hs x.seat)) i })
      ∙ ap (λ (k : Bool). cond k (record (own_connection app hs x) { opens = x.opens + 1; handles = own_handles hs x.seat ++ next_own_handle mine handle ∷ [] }) (own_connection app hs x)) (sym e))

  closed_one : (fh : ℕ) (x : Connection) (b : Bool) → (x.seat == c.seat) ≡ b → own_connection app (filter (λ h. not (is_handle c.seat fh h)) hs) x ≡ own_closed c.seat fh (own_connection app hs x)
  closed_one fh x true e =
      (λ i. record (own_connection app hs x) { handles = closed-here c.seat fh x.seat hs e i })
      ∙ ap (λ (k : Bool). cond k (record (own_connection app hs x) { handles = filter (λ h. not (h.fh == fh)) (own_handles hs x.seat) }) (own_connection app hs x)) (sym e)
  closed_one fh x false e =
      (λ i. record (own_connection app hs x) { handles = closed-elsewhere c.seat fh x.seat hs e i })
      ∙ ap (λ (k : Bool). cond k (record (own_connection app hs x) { handles = filter (λ h. not (h.fh == fh)) (own_handles hs x.seat) }) (own_connection app hs x)) (sym e)

  counted_who : (x : Connection) → (counted c.seat x).who ≡ x.who
  counted_who x = elim (x.seat == c.seat) as (λ b. (cond b (record x { opens = x.opens + 1 }) x).who ≡ x.who) [ true ↦ refl | false ↦ refl ]

  mapped-same : (xs : List Connection) → map (λ (x : Connection). x) xs ≡ xs
  mapped-same [] = refl
  mapped-same (x ∷ xs) = ap (λ (ys : List Connection). x ∷ ys) (mapped-same xs)

  pub connections-changed : (change : HandleChange) (cs : List Connection) → own_connections app (handles_after c change hs) (connections_after c change cs) ≡ own_connections_after mine change (own_connections app hs cs)
  connections-changed HandlesStay cs = refl
  connections-changed (Opens handle) cs =
      own-mapped app hs (hs ++ new_handle c handle ∷ []) (counted c.seat) (own_opened c.seat (next_own_handle mine handle)) counted_who (λ x. opened_one handle x (x.seat == c.seat) refl) cs
  connections-changed (Closes fh) cs =
      ap (own_connections app (filter (λ h. not (is_handle c.seat fh h)) hs)) (sym (mapped-same cs))
      ∙ own-mapped app hs (filter (λ h. not (is_handle c.seat fh h)) hs) (λ x. x) (own_closed c.seat fh) (λ x. refl) (λ x. closed_one fh x (x.seat == c.seat) refl) cs

  -- and as the application names paths below folders that are documents
  named_who : (naming : Naming) (x : Connection) → (named_on c.seat naming x).who ≡ x.who
  named_who naming x = elim (x.seat == c.seat) as (λ b. (cond b (record x { namings = with_naming x.namings naming }) x).who ≡ x.who) [ true ↦ refl | false ↦ refl ]

  named_one : (later : List OpenHandle) (naming : Naming) (x : Connection) → own_connection app later (named_on c.seat naming x) ≡ own_named c.seat naming (own_connection app later x)
  named_one later naming x = elim (x.seat == c.seat) as (λ b. own_connection app later (cond b (record x { namings = with_naming x.namings naming }) x)
      ≡ cond b (record (own_connection app later x) { namings = with_naming (own_connection app later x).namings naming }) (own_connection app later x)) [ true ↦ refl | false ↦ refl ]

  temps_who : (change : TempChange) (x : Connection) → (temps_changed c.seat change x).who ≡ x.who
  temps_who change x = elim (x.seat == c.seat) as (λ b. (cond b (record x { temps = temps_after change x.added x.temps; added = added_after change x.added }) x).who ≡ x.who) [ true ↦ refl | false ↦ refl ]

  temps_one : (later : List OpenHandle) (change : TempChange) (x : Connection) → own_connection app later (temps_changed c.seat change x) ≡ own_temps_changed c.seat change (own_connection app later x)
  temps_one later change x = elim (x.seat == c.seat) as (λ b. own_connection app later (cond b (record x { temps = temps_after change x.added x.temps; added = added_after change x.added }) x)
      ≡ cond b (record (own_connection app later x) { temps = temps_after change (own_connection app later x).added (own_connection app later x).temps; added = added_after change (own_connection app later x).added }) (own_connection app later x)) [ true ↦ refl | false ↦ refl ]

  connections-named : (later : List OpenHandle) (change : NameChange) (cs : List Connection) → own_connections app later (connections_named c change cs) ≡ own_connections_named mine change (own_connections app later cs)
  connections-named later NamesStay cs = refl
  connections-named later (Names naming) cs = own-mapped app later later (named_on c.seat naming) (own_named c.seat naming) (named_who naming) (named_one later naming) cs
  connections-named later (Temps change) cs = own-mapped app later later (temps_changed c.seat change) (own_temps_changed c.seat change) (temps_who change) (temps_one later change) cs

  pub connections-then : (d : NodeDoing) (cs : List Connection) → own_connections app (handles_after c d.handle hs) (connections_named c d.names (connections_after c d.handle cs)) ≡ own_connections_then mine d (own_connections app hs cs)
  connections-then d cs =
      connections-named (handles_after c d.handle hs) d.names (connections_after c d.handle cs)
      ∙ ap (own_connections_named mine d.names) (connections-changed d.handle cs)

-- ---- of another: no connection of the view has the seat

opened-elsewhere : (seat : ℕ) (h : OwnHandle) (cs : List OwnConnection) → found_connection cs seat ≡ None → map (own_opened seat h) cs ≡ cs
opened-elsewhere seat h [] e = refl
opened-elsewhere seat h (c ∷ cs) e = by_seat (c.seat == seat) e (opened-elsewhere seat h cs)
  where
    by_seat : (b : Bool) → cond b (Some c) (found_connection cs seat) ≡ None → (found_connection cs seat ≡ None → map (own_opened seat h) cs ≡ cs) →
        cond b (record c { opens = c.opens + 1; handles = c.handles ++ h ∷ [] }) c ∷ map (own_opened seat h) cs ≡ c ∷ cs
    by_seat true f more = cc
    by_seat false f more = ap (λ (xs : List OwnConnection). c ∷ xs) (more f)

closes-elsewhere : (seat fh : ℕ) (cs : List OwnConnection) → found_connection cs seat ≡ None → map (own_closed seat fh) cs ≡ cs
closes-elsewhere seat fh [] e = refl
closes-elsewhere seat fh (c ∷ cs) e = by_seat (c.seat == seat) e (closes-elsewhere seat fh cs)
  where
    by_seat : (b : Bool) → cond b (Some c) (found_connection cs seat) ≡ None → (found_connection cs seat ≡ None → map (own_closed seat fh) cs ≡ cs) →
        cond b (record c { handles = filter (λ h. not (h.fh == fh)) c.handles }) c ∷ map (own_closed seat fh) cs ≡ c ∷ cs
    by_seat true f more = cc
    by_seat false f more = ap (λ (xs : List OwnConnection). c ∷ xs) (more f)

pub changed-elsewhere : (c : OwnConnection) (change : HandleChange) (cs : List OwnConnection) → found_connection cs c.seat ≡ None → own_connections_after c change cs ≡ cs
changed-elsewhere c HandlesStay cs e = refl
changed-elsewhere c (Opens handle) cs e = opened-elsewhere c.seat (next_own_handle c handle) cs e
changed-elsewhere c (Closes fh) cs e = closes-elsewhere c.seat fh cs e

-- ---- of the application itself: what is named then was named before

abbrev Among : List (List ℕ) → List ℕ → Type 0
Among paths path = is_among paths path ≡ true

either-way : (a b : Bool) {x : Bool} → (a ≡ true → x ≡ true) → (b ≡ true → x ≡ true) → (a || b) ≡ true → x ≡ true
either-way true b f g h = f refl
either-way false b f g h = g h

left-way : (a b : Bool) → a ≡ true → (a || b) ≡ true
left-way true b h = refl
left-way false b h = cc

right-way : (a : Bool) {b : Bool} → b ≡ true → (a || b) ≡ true
right-way true h = refl
right-way false h = h

-- through both parts of a list of paths
among-parts : (ps qs : List (List ℕ)) (path : List ℕ) {x : Bool} → (Among ps path → x ≡ true) → (Among qs path → x ≡ true) → Among (ps ++ qs) path → x ≡ true
among-parts ps qs path f g h = either-way (is_among ps path) (is_among qs path) f g (sym (among-joined ps qs path) ∙ h)

among-left : (ps qs : List (List ℕ)) (path : List ℕ) → Among ps path → Among (ps ++ qs) path
among-left ps qs path h = among-joined ps qs path ∙ left-way (is_among ps path) (is_among qs path) h

among-right : (ps qs : List (List ℕ)) (path : List ℕ) → Among qs path → Among (ps ++ qs) path
among-right ps qs path h = among-joined ps qs path ∙ right-way (is_among ps path) h

abbrev handle_paths : List OwnHandle → List (List ℕ)
handle_paths hs = flat_map (λ (h : OwnHandle). paths_of_handle h.handle) hs

joined_paths : (hs : List OwnHandle) (h : OwnHandle) (path : List ℕ) {x : Bool} → (Among (handle_paths hs) path → x ≡ true) → (Among (paths_of_handle h.handle) path → x ≡ true) → Among (handle_paths (hs ++ h ∷ [])) path → x ≡ true
joined_paths [] h path f g k = among-parts (paths_of_handle h.handle) [] path g (λ e. cc) k
joined_paths (y ∷ hs) h path f g k =
    among-parts (paths_of_handle y.handle) (handle_paths (hs ++ h ∷ [])) path (λ e. f (among-left (paths_of_handle y.handle) (handle_paths hs) path e))
    (joined_paths hs h path (λ e. f (among-right (paths_of_handle y.handle) (handle_paths hs) path e)) g) k

fewer_handles : (p : OwnHandle → Bool) (hs : List OwnHandle) (path : List ℕ) → Among (handle_paths (filter p hs)) path → Among (handle_paths hs) path
fewer_handles p [] path h = h
fewer_handles p (y ∷ hs) path h = by_test (p y) (fewer_handles p hs path) h
  where
    by_test : (b : Bool) → (Among (handle_paths (filter p hs)) path → Among (handle_paths hs) path) → Among (handle_paths (cond b (y ∷ filter p hs) (filter p hs))) path → Among (paths_of_handle y.handle ++ handle_paths hs) path
    by_test true f k = among-parts (paths_of_handle y.handle) (handle_paths (filter p hs)) path (among-left (paths_of_handle y.handle) (handle_paths hs) path) (λ e. among-right (paths_of_handle y.handle) (handle_paths hs) path (f e)) k
    by_test false f k = among-right (paths_of_handle y.handle) (handle_paths hs) path (f k)

-- the paths of connections that change by themselves
module _ (f : OwnConnection → OwnConnection) (path : List ℕ) (x : Bool) (one : (c : OwnConnection) → (Among (paths_of_connection c) path → x ≡ true) → Among (paths_of_connection (f c)) path → x ≡ true) where
  all_paths : (cs : List OwnConnection) → (Among (flat_map paths_of_connection cs) path → x ≡ true) → Among (flat_map paths_of_connection (map f cs)) path → x ≡ true
  all_paths [] g h = g h
  all_paths (c ∷ cs) g h =
      among-parts (paths_of_connection (f c)) (flat_map paths_of_connection (map f cs)) path
      (one c (λ e. g (among-left (paths_of_connection c) (flat_map paths_of_connection cs) path e)))
      (all_paths cs (λ e. g (among-right (paths_of_connection c) (flat_map paths_of_connection cs) path e))) h

opened_paths : (seat : ℕ) (h : OwnHandle) (c : OwnConnection) (path : List ℕ) (x : Bool) → (Among (paths_of_handle h.handle) path → x ≡ true) → (Among (paths_of_connection c) path → x ≡ true) → Among (paths_of_connection (own_opened seat h c)) path → x ≡ true
opened_paths seat h c path x k g = elim (c.seat == seat) as (λ b. Among (paths_of_connection (cond b (record c { opens = c.opens + 1; handles = c.handles ++ h ∷ [] }) c)) path → x ≡ true) [
  | true ↦ λ e. joined_paths c.handles h path g k e
  | false ↦ g
]

closed_paths : (seat fh : ℕ) (c : OwnConnection) (path : List ℕ) (x : Bool) → (Among (paths_of_connection c) path → x ≡ true) → Among (paths_of_connection (own_closed seat fh c)) path → x ≡ true
closed_paths seat fh c path x g = elim (c.seat == seat) as (λ b. Among (paths_of_connection (cond b (record c { handles = filter (λ h. not (h.fh == fh)) c.handles }) c)) path → x ≡ true) [
  | true ↦ λ e. g (fewer_handles (λ h. not (h.fh == fh)) c.handles path e)
  | false ↦ g
]

-- the path of an opened file
abbrev pub opens_path : HandleChange → List ℕ → Bool
opens_path HandlesStay path = false
opens_path (Opens (Handle.File name node document strict read write)) path = is_same name.path path
opens_path (Opens (Handle.Folder node entries)) path = false
opens_path (Closes fh) path = false

opened_on : (handle : Handle) (path : List ℕ) → Among (paths_of_handle handle) path → opens_path (Opens handle) path ≡ true
opened_on (Handle.File name node document strict read write) path h = either-way (is_same name.path path) false (λ e. e) (λ e. cc) h
opened_on (Handle.Folder node entries) path h = let no : false ≡ true = h in cc

named_paths-of : (seat : ℕ) (naming : Naming) (c : OwnConnection) → paths_of_connection (own_named seat naming c) ≡ paths_of_connection c
named_paths-of seat naming c = elim (c.seat == seat) as (λ b. paths_of_connection (cond b (record c { namings = with_naming c.namings naming }) c) ≡ paths_of_connection c) [ true ↦ refl | false ↦ refl ]

temps_paths-of : (seat : ℕ) (change : TempChange) (c : OwnConnection) → paths_of_connection (own_temps_changed seat change c) ≡ paths_of_connection c
temps_paths-of seat change c = elim (c.seat == seat) as (λ b. paths_of_connection (cond b (record c { temps = temps_after change c.added c.temps; added = added_after change c.added }) c) ≡ paths_of_connection c) [ true ↦ refl | false ↦ refl ]

naming_paths : (c : OwnConnection) (change : NameChange) (cs : List OwnConnection) → flat_map paths_of_connection (own_connections_named c change cs) ≡ flat_map paths_of_connection cs
naming_paths c NamesStay cs = refl
naming_paths c (Names naming) cs = all cs
  where
    all : (xs : List OwnConnection) → flat_map paths_of_connection (map (own_named c.seat naming) xs) ≡ flat_map paths_of_connection xs
    all [] = refl
    all (x ∷ xs) = λ i. named_paths-of c.seat naming x i ++ all xs i
naming_paths c (Temps change) cs = all cs
  where
    all : (xs : List OwnConnection) → flat_map paths_of_connection (map (own_temps_changed c.seat change) xs) ≡ flat_map paths_of_connection xs
    all [] = refl
    all (x ∷ xs) = λ i. temps_paths-of c.seat change x i ++ all xs i

module _ (ds : List HeldDocument) (c : OwnConnection) (cs : List OwnConnection) where
  abbrev docs : List (List ℕ)
  docs = paths_where is_plain_document ds

  abbrev was_named : List ℕ → Bool
  was_named path = is_among (named_paths ds cs) path

  -- what is named then was named before, or is the path of the file that was opened
  after-named : (change : HandleChange) (path : List ℕ) → Among (named_paths ds (own_connections_after c change cs)) path → (opens_path change path || was_named path) ≡ true
  after-named HandlesStay path h = h
  after-named (Opens handle) path h =
      let x : Bool = opens_path (Opens handle) path || was_named path in
      among-parts docs (flat_map paths_of_connection (map (own_opened c.seat (next_own_handle c handle)) cs)) path
      (λ e. right-way (opens_path (Opens handle) path) (among-left docs (flat_map paths_of_connection cs) path e))
      (all_paths (own_opened c.seat (next_own_handle c handle)) path x
      (λ y. opened_paths c.seat (next_own_handle c handle) y path x (λ e. left-way (opens_path (Opens handle) path) (was_named path) (opened_on handle path e))) cs
      (λ e. right-way (opens_path (Opens handle) path) (among-right docs (flat_map paths_of_connection cs) path e))) h
  after-named (Closes fh) path h =
      among-parts docs (flat_map paths_of_connection (map (own_closed c.seat fh) cs)) path
      (among-left docs (flat_map paths_of_connection cs) path)
      (all_paths (own_closed c.seat fh) path (was_named path) (λ y. closed_paths c.seat fh y path (was_named path)) cs
      (among-right docs (flat_map paths_of_connection cs) path)) h

  pub then-named : (d : NodeDoing) (path : List ℕ) → Among (named_paths ds (own_connections_then c d cs)) path → (opens_path d.handle path || was_named path) ≡ true
  then-named d path h = after-named d.handle path (ap (λ (ps : List (List ℕ)). is_among (docs ++ ps) path) (sym (naming_paths c d.names (own_connections_after c d.handle cs))) ∙ h)

-- ---- the files that are named then: by handles and temporaries as before, or by what was opened, or begun

abbrev AmongNames : List FileName → FileName → Type 0
AmongNames names name = is_held_name names name ≡ true

names-parts : (ns ms : List FileName) (name : FileName) {x : Bool} → (AmongNames ns name → x ≡ true) → (AmongNames ms name → x ≡ true) → AmongNames (ns ++ ms) name → x ≡ true
names-parts ns ms name f g h = either-way (is_held_name ns name) (is_held_name ms name) f g (sym (held-joined ns ms name) ∙ h)

names-left : (ns ms : List FileName) (name : FileName) → AmongNames ns name → AmongNames (ns ++ ms) name
names-left ns ms name h = held-joined ns ms name ∙ left-way (is_held_name ns name) (is_held_name ms name) h

names-right : (ns ms : List FileName) (name : FileName) → AmongNames ms name → AmongNames (ns ++ ms) name
names-right ns ms name h = held-joined ns ms name ∙ right-way (is_held_name ns name) h

-- the names of the parts of a list, through what the parts may be
module _ {X : Type 0} (of : X → List FileName) (name : FileName) where
  abbrev all_names : List X → List FileName
  all_names xs = flat_map of xs

  one_more : (xs : List X) (y : X) {b : Bool} → (AmongNames (all_names xs) name → b ≡ true) → (AmongNames (of y) name → b ≡ true) → AmongNames (all_names (xs ++ y ∷ [])) name → b ≡ true
  one_more [] y f g k = names-parts (of y) [] name g (λ e. cc) k
  one_more (x ∷ xs) y f g k =
      names-parts (of x) (all_names (xs ++ y ∷ [])) name (λ e. f (names-left (of x) (all_names xs) name e))
      (one_more xs y (λ e. f (names-right (of x) (all_names xs) name e)) g) k

  fewer : (p : X → Bool) (xs : List X) → AmongNames (all_names (filter p xs)) name → AmongNames (all_names xs) name
  fewer p [] h = h
  fewer p (x ∷ xs) h = by_test (p x) (fewer p xs) h
    where
      by_test : (b : Bool) → (AmongNames (all_names (filter p xs)) name → AmongNames (all_names xs) name) → AmongNames (all_names (cond b (x ∷ filter p xs) (filter p xs))) name → AmongNames (of x ++ all_names xs) name
      by_test true f k = names-parts (of x) (all_names (filter p xs)) name (names-left (of x) (all_names xs) name) (λ e. names-right (of x) (all_names xs) name (f e)) k
      by_test false f k = names-right (of x) (all_names xs) name (f k)

  each_changed : (f : X → X) (b : Bool) → ((x : X) → (AmongNames (of x) name → b ≡ true) → AmongNames (of (f x)) name → b ≡ true) → (xs : List X) → (AmongNames (all_names xs) name → b ≡ true) → AmongNames (all_names (map f xs)) name → b ≡ true
  each_changed f b one [] g h = g h
  each_changed f b one (x ∷ xs) g h =
      names-parts (of (f x)) (all_names (map f xs)) name (one x (λ e. g (names-left (of x) (all_names xs) name e)))
      (each_changed f b one xs (λ e. g (names-right (of x) (all_names xs) name e))) h

abbrev names_of_handles : List OwnHandle → List FileName
names_of_handles hs = flat_map (λ (h : OwnHandle). names_of_handle h.handle) hs

abbrev names_of_temps : List OwnTemp → List FileName
names_of_temps ts = map (λ (t : OwnTemp). t.temp.file) ts

-- the file of an opened handle
abbrev pub opens_name : HandleChange → FileName → Bool
opens_name HandlesStay name = false
opens_name (Opens (Handle.File file node document strict read write)) name = same_name file name
opens_name (Opens (Handle.Folder node entries)) name = false
opens_name (Closes fh) name = false

-- and that of a temporary that begins
abbrev pub begun : NameChange → List FileName
begun NamesStay = []
begun (Names naming) = []
begun (Temps (Begins temp)) = temp.file ∷ []
begun (Temps (Drops k)) = []
begun (Temps (Renames k temp to)) = []

abbrev pub begins_name : NameChange → FileName → Bool
begins_name change name = is_held_name (begun change) name

opened_name : (handle : Handle) (name : FileName) → AmongNames (names_of_handle handle) name → opens_name (Opens handle) name ≡ true
opened_name (Handle.File file node document strict read write) name h = either-way (same_name file name) false (λ e. e) (λ e. cc) h
opened_name (Handle.Folder node entries) name h = let no : false ≡ true = h in cc

temps_one-more : (ts : List OwnTemp) (t : OwnTemp) (name : FileName) {x : Bool} → (AmongNames (names_of_temps ts) name → x ≡ true) → (same_name t.temp.file name ≡ true → x ≡ true) → AmongNames (names_of_temps (ts ++ t ∷ [])) name → x ≡ true
temps_one-more [] t name f g h = either-way (same_name t.temp.file name) false g (λ e. cc) h
temps_one-more (y ∷ ts) t name f g h =
    either-way (same_name y.temp.file name) (is_held_name (names_of_temps (ts ++ t ∷ [])) name) (λ e. f (left-way (same_name y.temp.file name) (is_held_name (names_of_temps ts) name) e))
    (temps_one-more ts t name (λ e. f (right-way (same_name y.temp.file name) e)) g) h

temps_fewer : (p : OwnTemp → Bool) (ts : List OwnTemp) (name : FileName) → AmongNames (names_of_temps (filter p ts)) name → AmongNames (names_of_temps ts) name
temps_fewer p [] name h = h
temps_fewer p (y ∷ ts) name h = by_test (p y) (temps_fewer p ts name) h
  where
    by_test : (b : Bool) → (AmongNames (names_of_temps (filter p ts)) name → AmongNames (names_of_temps ts) name) → AmongNames (names_of_temps (cond b (y ∷ filter p ts) (filter p ts))) name → (same_name y.temp.file name || is_held_name (names_of_temps ts) name) ≡ true
    by_test true f k = either-way (same_name y.temp.file name) (is_held_name (names_of_temps (filter p ts)) name) (left-way (same_name y.temp.file name) (is_held_name (names_of_temps ts) name)) (λ e. right-way (same_name y.temp.file name) (f e)) k
    by_test false f k = right-way (same_name y.temp.file name) (f k)

renamed_file : (k : ℕ) (to : List ℕ) (t : OwnTemp) → (renamed k to t).temp.file ≡ t.temp.file
renamed_file k to t = elim (t.k == k) as (λ b. (cond b (record t { temp = record t.temp { name = to } }) t).temp.file ≡ t.temp.file) [ true ↦ refl | false ↦ refl ]

renamed_files : (k : ℕ) (to : List ℕ) (ts : List OwnTemp) → names_of_temps (map (renamed k to) ts) ≡ names_of_temps ts
renamed_files k to [] = refl
renamed_files k to (t ∷ ts) = λ i. renamed_file k to t i ∷ renamed_files k to ts i

temps_then : (change : TempChange) (added : ℕ) (ts : List OwnTemp) (name : FileName) → AmongNames (names_of_temps (temps_after change added ts)) name → (begins_name (Temps change) name || is_held_name (names_of_temps ts) name) ≡ true
temps_then (Begins temp) added ts name h =
    temps_one-more ts (own_temp (added + 1) temp) name (λ e. right-way (same_name temp.file name || false) e)
    (λ e. left-way (same_name temp.file name || false) (is_held_name (names_of_temps ts) name) (left-way (same_name temp.file name) false e)) h
temps_then (Drops k) added ts name h = temps_fewer (λ t. not (t.k == k)) ts name h
temps_then (Renames k temp to) added ts name h =
    temps_fewer (λ t. not (is_replaced k temp to t)) ts name
    (ap (λ (ns : List FileName). is_held_name ns name) (sym (renamed_files k to (filter (λ t. not (is_replaced k temp to t)) ts))) ∙ h)

-- the files of one connection are those of its handles, and of its temporaries
module _ (seat : ℕ) (name : FileName) (x : Bool) where
  opened_names : (h : OwnHandle) (c : OwnConnection) → (AmongNames (names_of_handle h.handle) name → x ≡ true) → (AmongNames (names_of_connection c) name → x ≡ true) → AmongNames (names_of_connection (own_opened seat h c)) name → x ≡ true
  opened_names h c k g = elim (c.seat == seat) as (λ b. AmongNames (names_of_connection (cond b (record c { opens = c.opens + 1; handles = c.handles ++ h ∷ [] }) c)) name → x ≡ true) [
    | true ↦ λ e.
        names-parts (names_of_handles (c.handles ++ h ∷ [])) (names_of_temps c.temps) name
        (one_more (λ (y : OwnHandle). names_of_handle y.handle) name c.handles h (λ d. g (names-left (names_of_handles c.handles) (names_of_temps c.temps) name d)) k)
        (λ d. g (names-right (names_of_handles c.handles) (names_of_temps c.temps) name d)) e
    | false ↦ g
  ]

  closed_names : (fh : ℕ) (c : OwnConnection) → (AmongNames (names_of_connection c) name → x ≡ true) → AmongNames (names_of_connection (own_closed seat fh c)) name → x ≡ true
  closed_names fh c g = elim (c.seat == seat) as (λ b. AmongNames (names_of_connection (cond b (record c { handles = filter (λ h. not (h.fh == fh)) c.handles }) c)) name → x ≡ true) [
    | true ↦ λ e.
        names-parts (names_of_handles (filter (λ h. not (h.fh == fh)) c.handles)) (names_of_temps c.temps) name
        (λ d. g (names-left (names_of_handles c.handles) (names_of_temps c.temps) name (fewer (λ (y : OwnHandle). names_of_handle y.handle) name (λ h. not (h.fh == fh)) c.handles d)))
        (λ d. g (names-right (names_of_handles c.handles) (names_of_temps c.temps) name d)) e
    | false ↦ g
  ]

  named_names : (naming : Naming) (c : OwnConnection) → (AmongNames (names_of_connection c) name → x ≡ true) → AmongNames (names_of_connection (own_named seat naming c)) name → x ≡ true
  named_names naming c g = elim (c.seat == seat) as (λ b. AmongNames (names_of_connection (cond b (record c { namings = with_naming c.namings naming }) c)) name → x ≡ true) [ true ↦ g | false ↦ g ]

  begun_names : (change : TempChange) (c : OwnConnection) → (begins_name (Temps change) name ≡ true → x ≡ true) → (AmongNames (names_of_connection c) name → x ≡ true) → AmongNames (names_of_connection (own_temps_changed seat change c)) name → x ≡ true
  begun_names change c k g = elim (c.seat == seat) as (λ b. AmongNames (names_of_connection (cond b (record c { temps = temps_after change c.added c.temps; added = added_after change c.added }) c)) name → x ≡ true) [
    | true ↦ λ e.
        names-parts (names_of_handles c.handles) (names_of_temps (temps_after change c.added c.temps)) name
        (λ d. g (names-left (names_of_handles c.handles) (names_of_temps c.temps) name d))
        (λ d.
        either-way (begins_name (Temps change) name) (is_held_name (names_of_temps c.temps) name) k
        (λ u. g (names-right (names_of_handles c.handles) (names_of_temps c.temps) name u)) (temps_then change c.added c.temps name d)) e
    | false ↦ g
  ]

module _ (c : OwnConnection) (name : FileName) where
  files_after-handles : (change : HandleChange) (cs : List OwnConnection) → AmongNames (names_held (own_connections_after c change cs)) name → (opens_name change name || is_held_name (names_held cs) name) ≡ true
  files_after-handles HandlesStay cs h = h
  files_after-handles (Opens handle) cs h =
      each_changed names_of_connection name (own_opened c.seat (next_own_handle c handle)) (opens_name (Opens handle) name || is_held_name (names_held cs) name)
      (λ y g. opened_names c.seat name (opens_name (Opens handle) name || is_held_name (names_held cs) name) (next_own_handle c handle) y (λ e. left-way (opens_name (Opens handle) name) (is_held_name (names_held cs) name) (opened_name handle name e)) g) cs
      (λ e. right-way (opens_name (Opens handle) name) e) h
  files_after-handles (Closes fh) cs h =
      each_changed names_of_connection name (own_closed c.seat fh) (is_held_name (names_held cs) name) (λ y g. closed_names c.seat name (is_held_name (names_held cs) name) fh y g) cs (λ e. e) h

  files_after-names : (change : NameChange) (cs : List OwnConnection) → AmongNames (names_held (own_connections_named c change cs)) name → (begins_name change name || is_held_name (names_held cs) name) ≡ true
  files_after-names NamesStay cs h = h
  files_after-names (Names naming) cs h =
      each_changed names_of_connection name (own_named c.seat naming) (is_held_name (names_held cs) name) (λ y g. named_names c.seat name (is_held_name (names_held cs) name) naming y g) cs (λ e. e) h
  files_after-names (Temps change) cs h =
      each_changed names_of_connection name (own_temps_changed c.seat change) (begins_name (Temps change) name || is_held_name (names_held cs) name)
      (λ y g. begun_names c.seat name (begins_name (Temps change) name || is_held_name (names_held cs) name) change y (λ e. left-way (begins_name (Temps change) name) (is_held_name (names_held cs) name) e) g) cs
      (λ e. right-way (begins_name (Temps change) name) e) h

  pub then-files : (d : NodeDoing) (cs : List OwnConnection) → AmongNames (names_held (own_connections_then c d cs)) name → (begins_name d.names name || (opens_name d.handle name || is_held_name (names_held cs) name)) ≡ true
  then-files d cs h =
      either-way (begins_name d.names name) (is_held_name (names_held (own_connections_after c d.handle cs)) name) (left-way (begins_name d.names name) (opens_name d.handle name || is_held_name (names_held cs) name))
      (λ e. right-way (begins_name d.names name) (files_after-handles d.handle cs e)) (files_after-names d.names (own_connections_after c d.handle cs) h)

-- of another: no connection of the view has the seat
naming-elsewhere : (seat : ℕ) (naming : Naming) (cs : List OwnConnection) → found_connection cs seat ≡ None → map (own_named seat naming) cs ≡ cs
naming-elsewhere seat naming [] e = refl
naming-elsewhere seat naming (c ∷ cs) e = by_seat (c.seat == seat) e (naming-elsewhere seat naming cs)
  where
    by_seat : (b : Bool) → cond b (Some c) (found_connection cs seat) ≡ None → (found_connection cs seat ≡ None → map (own_named seat naming) cs ≡ cs) →
        cond b (record c { namings = with_naming c.namings naming }) c ∷ map (own_named seat naming) cs ≡ c ∷ cs
    by_seat true f more = cc
    by_seat false f more = ap (λ (xs : List OwnConnection). c ∷ xs) (more f)

temps-elsewhere : (seat : ℕ) (change : TempChange) (cs : List OwnConnection) → found_connection cs seat ≡ None → map (own_temps_changed seat change) cs ≡ cs
temps-elsewhere seat change [] e = refl
temps-elsewhere seat change (c ∷ cs) e = by_seat (c.seat == seat) e (temps-elsewhere seat change cs)
  where
    by_seat : (b : Bool) → cond b (Some c) (found_connection cs seat) ≡ None → (found_connection cs seat ≡ None → map (own_temps_changed seat change) cs ≡ cs) →
        cond b (record c { temps = temps_after change c.added c.temps; added = added_after change c.added }) c ∷ map (own_temps_changed seat change) cs ≡ c ∷ cs
    by_seat true f more = cc
    by_seat false f more = ap (λ (xs : List OwnConnection). c ∷ xs) (more f)

names-elsewhere : (c : OwnConnection) (change : NameChange) (cs : List OwnConnection) → found_connection cs c.seat ≡ None → own_connections_named c change cs ≡ cs
names-elsewhere c NamesStay cs e = refl
names-elsewhere c (Names naming) cs e = naming-elsewhere c.seat naming cs e
names-elsewhere c (Temps change) cs e = temps-elsewhere c.seat change cs e

pub then-elsewhere : (c : OwnConnection) (d : NodeDoing) (cs : List OwnConnection) → found_connection cs c.seat ≡ None → own_connections_then c d cs ≡ cs
then-elsewhere c d cs e = ap (own_connections_named c d.names) (changed-elsewhere c d.handle cs e) ∙ names-elsewhere c d.names cs e

-- ---- the view with what was opened

joins-content : (files : List File) (path : List ℕ) (b : Bool) → with_content path (content_at files path) (cond b (Some (path_content files path)) None) ≡ path_content files path
joins-content files path true = refl
joins-content files path false = refl

-- where the view tells what is at the path of an opened file, and what the file is
abbrev pub ShowsOpened : AppView → Held → HandleChange → Type 0
ShowsOpened v tree HandlesStay = Unit {0}
ShowsOpened v tree (Opens (Handle.File name node document strict read write)) = (own_content v name.path ≡ content_at tree.present name.path) × (own_file v name ≡ content_named (all_held tree) name)
ShowsOpened v tree (Opens (Handle.Folder node entries)) = Unit {0}
ShowsOpened v tree (Closes fh) = Unit {0}

-- what is named so isn't there
abbrev pub AreMissing : Held → List FileName → Type 0
AreMissing tree new = flat_map (named_file (all_held tree)) new ≡ []

module _ (limits : Limits) (tree : Held) (held : ℕ → RightSet) (documents : List Document) (cs more : List OwnConnection) (new : List FileName) (missing : AreMissing tree new) where
  abbrev held_ones : List HeldDocument
  held_ones = held_documents held documents

  abbrev old : AppView
  old = view_over limits tree held_ones cs

  abbrev names_before : List FileName
  names_before = names_held cs

  -- names of files that aren't there change nothing
  named-more : files_at (all_held tree) names_before ≡ files_at (all_held tree) (new ++ names_before)
  named-more =
      ap (λ (fs : List NamedFile). put_all named_ahead (fs ++ flat_map (named_file (all_held tree)) names_before)) (sym missing)
      ∙ ap (put_all named_ahead) (sym (flat_map-append (named_file (all_held tree)) new names_before))

  abbrev AreNamed : (FileName → Bool) → Type 0
  AreNamed opened = (n : FileName) → AmongNames (names_held more) n → (is_held_name new n || (opened n || is_held_name names_before n)) ≡ true

  swapped : (a b c : Bool) → (a || (b || c)) ≡ true → (b || (a || c)) ≡ true
  swapped true true c h = refl
  swapped true false c h = refl
  swapped false true c h = refl
  swapped false false c h = h

  files-fewer : AreNamed (λ n. false) → filter (λ (f : NamedFile). is_held_name (names_held more) (named_as f)) (files_at (all_held tree) names_before) ≡ files_at (all_held tree) (names_held more)
  files-fewer e =
      ap (filter (λ (f : NamedFile). is_held_name (names_held more) (named_as f))) named-more
      ∙ named-fewer (all_held tree) (new ++ names_before) (names_held more) (λ n h. held-joined new names_before n ∙ e n h)

  files-joined : (name : FileName) (c : Content) → c ≡ content_named (all_held tree) name → AreNamed (same_name name) →
      filter (λ (f : NamedFile). is_held_name (names_held more) (named_as f)) (with_named name c (files_at (all_held tree) names_before)) ≡ files_at (all_held tree) (names_held more)
  files-joined name c k e =
      ap (λ (fs : List NamedFile). filter (λ (f : NamedFile). is_held_name (names_held more) (named_as f)) (with_named name c fs)) named-more
      ∙ named-joined (all_held tree) name c (new ++ names_before) (names_held more) k
      (λ n h. ap (λ (b : Bool). same_name name n || b) (held-joined new names_before n) ∙ swapped (is_held_name new n) (same_name name n) (is_held_name names_before n) (e n h))

  -- pruning leaves what is named
  pub prune-named : ((path : List ℕ) → Among (named_paths held_ones more) path → Among (named_paths held_ones cs) path) → AreNamed (λ n. false) → prune (record old { connections = more }) ≡ view_over limits tree held_ones more
  prune-named e f =
      ap (λ (xs : List HeldDocument). pruned xs (record old { connections = more })) (still_held held documents)
      ∙ (λ i. record (view_over limits tree held_ones more) {
        contents = contents-fewer tree.present (named_paths held_ones cs) (named_paths held_ones more) e i;
        below = below-fewer tree.present (folder_paths held_ones) (folder_paths held_ones) (λ path h. h) i;
        files = files-fewer f i;
      })

  prune-file : (name : FileName) → (own_content old name.path ≡ content_at tree.present name.path) × (own_file old name ≡ content_named (all_held tree) name) →
      ((p : List ℕ) → Among (named_paths held_ones more) p → (is_same name.path p || is_among (named_paths held_ones cs) p) ≡ true) → AreNamed (same_name name) →
      prune (record old { contents = put ahead (with_content name.path (own_content old name.path) (found_content old.contents name.path)) old.contents; files = with_named name (own_file old name) old.files; connections = more })
      ≡ view_over limits tree held_ones more
  prune-file name shows e f =
      let path : List ℕ = name.path in
      let joining : PathContent = with_content path (own_content old path) (found_content old.contents path) in
      let is : joining ≡ path_content tree.present path =
      (λ i. with_content path (shows.0 i) (contents-found tree.present path (named_paths held_ones cs) i)) ∙ joins-content tree.present path (is_among (named_paths held_ones cs) path) in
      ap (λ (xs : List HeldDocument). pruned xs (record old { contents = put ahead joining old.contents; files = with_named name (own_file old name) old.files; connections = more })) (still_held held documents)
      ∙ (λ i. record (view_over limits tree held_ones more) {
        contents = contents-joined tree.present path joining (named_paths held_ones cs) (named_paths held_ones more) is e i;
        below = below-fewer tree.present (folder_paths held_ones) (folder_paths held_ones) (λ p h. h) i;
        files = files-joined name (own_file old name) shows.1 f i;
      })

  pub prune-opened : (change : HandleChange) → ShowsOpened old tree change → ((p : List ℕ) → Among (named_paths held_ones more) p → (opens_path change p || is_among (named_paths held_ones cs) p) ≡ true) →
      ((n : FileName) → AmongNames (names_held more) n → (is_held_name new n || (opens_name change n || is_held_name names_before n)) ≡ true) →
      prune (record (with_handles change old) { connections = more }) ≡ view_over limits tree held_ones more
  prune-opened HandlesStay s e f = prune-named e f
  prune-opened (Opens (Handle.File name node document strict read write)) s e f = prune-file name s e f
  prune-opened (Opens (Handle.Folder node entries)) s e f = prune-named e f
  prune-opened (Closes fh) s e f = prune-named e f
