-- A request on a node: what it is to the application that makes it, and to another.
use Rattle.std.proofs.Common.{◌≡◌, ℕ, ◌+◌, ◌==◌, nat_lt, List, [], ◌∷◌, ◌++◌, length, map, Bool, true, false, not, ◌&&◌, ◌||◌, cond, Option, Some, None, is_some, refl, sym, ap, subst, ◌∙◌, arith}
use Rattle.std.proofs.lemmas.Bool.Decides.{nat_tests}
use Rattle.std.proofs.lemmas.List.{length-map}
use Rattle.std.specs.List.{find, flat_map, list_all}
use Rattle.std.specs.Option.{option_map}
use Rattle.portal_base.specs.Content.{file_named}
use Rattle.portal_base.specs.FileChanges.{bytes_from}
use Rattle.file_generations.specs.Generations.{Held, all_held, is_held}
use Rattle.portal_base.specs.Names.{is_same, name_of, root}
use Rattle.portal_base.specs.declared.files.File.{File}
use Rattle.portal_base.specs.declared.files.FileName.{FileName}
use Rattle.portal_base.specs.declared.files.Look.{Look}
use Rattle.portal_base.specs.declared.who.Who.{Who}
use Rattle.portal_model.specs.declared.entry.Given.{Given}
use Rattle.portal_model.specs.declared.handle.Handle.{Handle}
use Rattle.portal_model.specs.declared.naming.Naming.{Naming}
use Rattle.portal_model.specs.declared.reply.Answer.{Answer}
use Rattle.portal_model.specs.declared.reply.NodeAnswer.TheVariants as NodeAnswer
use Rattle.portal_model.specs.declared.request.NodeOp.{NodeOp}
use Rattle.portal_model.specs.declared.request.NodeRequest.{NodeRequest}
use Rattle.portal_model.specs.declared.state.Connection.{Connection}
use Rattle.portal_model.specs.declared.state.Document.{Document}
use Rattle.portal_model.specs.declared.temporary.OwnTemp.{OwnTemp}
use Rattle.portal_model.specs.declared.temporary.Temp.{Temp}
use Rattle.portal_model.specs.Bus.{is_tree, moment_given}
use Rattle.portal_model.specs.Create.{add_temp, create, create_in, create_other, create_own, create_temp, next_temp_node, temp_made}
use Rattle.portal_model.specs.Errno.{eacces, ebadf, eexist, einval, emfile, enametoolong, enoent, enotdir}
use Rattle.portal_model.specs.Node.{NodeFacts, bytes_named, connections_after, connections_named, facts_of, files_after, handles_after, node_answer, node_done, node_given, node_walk, settled_on_node, temps_seen, walk_on_node}
use Rattle.portal_model.specs.NodeOutside.{LawfulNode}
use Rattle.portal_model.specs.NodeVerdict.{FileChange, FilesStay, Writes, Resizes, Creates, Adds, Stands, HandleChange, HandlesStay, Opens, Closes, NameChange, NamesStay, Names, Temps, NodeDoing, NodeVerdict, Errs, Yields, Room, by_look, by_place, errs_if, is_too_long, no_file, spot, tells, is_dots}
use Rattle.portal_model.specs.Open.{has_no_mode}
use Rattle.portal_model.specs.Place.{Exported, Folder, FolderOf, RootOf, Views, Sight, SightBelow, SightOfFile, SightOfFolder, SightOfTemp, naming_on, place_of, reach_at, sight_on, temp_on}
use Rattle.portal_model.specs.Reach.{OpenFile, Reaching, may_read_now, open_file_of}
use Rattle.portal_model.specs.Read.{read, read_limit}
use Rattle.portal_model.specs.SeatNames.{Begins, Drops, Renames, SeatTemps, found_temp, is_called, lacks_temp, last_taken, next_generation, temp_of}
use Rattle.portal_model.specs.State.{State, handle_of, handles_of, held_in, held_of}
use Rattle.portal_model.specs.Walk.{Walk, AtPath, Ends, Looks, LastCall, Target, Uses, Gives, GivesNames, generation_reached, walked_with}
use Rattle.portal_model.proofs.ListLookups.{found_passes, is_same-eq, nat_is}
use Rattle.portal_model.proofs.NodeValid.{Asking, IsSoundSight}
use Rattle.app_world.specs.Effect.{apply_all}
use Rattle.app_world.specs.Node.{content_named, file_effects, first_of, generation_told, has_file, own_connections_then, own_effects, own_facts, own_handle_of, own_node_answer, own_node_done, own_node_given, own_place, own_reach, own_settled_on_node, own_walk, verdict_touch}
use Rattle.app_world.specs.Own.{Own}
use Rattle.app_world.specs.Shown.{own_bytes, own_listed, own_looks, succeeding}
use Rattle.app_world.specs.Touched.{is_done}
use Rattle.app_world.specs.View.{AppView, HeldDocument, OwnConnection, covers, file_if, folder_paths, found_connection, found_document, held_documents, holds_name, is_among, is_held_name, named_file, named_paths, names, names_held, own_connection, own_connections, own_handle, knows, same_name, view, view_over}
use Rattle.app_world.proofs.FileChangeLaws.{other-effects, own-effects}
use Rattle.app_world.proofs.HandleChangeLaws.{AreMissing, ShowsOpened, begins_name, begun, connections-then, handle-found, opens_name, opens_path, prune-opened, then-elsewhere, then-files, then-named}
use Rattle.app_world.proofs.HeldFiles.{SoundTree}
use Rattle.app_world.proofs.NamedFiles.{name-eq}
use Rattle.app_world.proofs.NamedPaths.{HandleOn, HeldIn, SightHeld, SightOn, child-told, covered-told, handle_more, handle_named, named-told, place_on, sight-told, temp_named}
use Rattle.app_world.proofs.PlaceLaws.{own_place-is, own_reach-is}
use Rattle.app_world.proofs.ShownLaws.{Agrees, Finds, FoldersThere, Known, ListedSo, New, absent-known, bytes-on, changes-found, content-on, freshens-found, held-known, held-there, known-there, listed-given-so, listed-so, makes-found, missing-known, name-agrees, named-known, own-files, path-agrees, standing-known, stands-there, succeeding-given, turns-found, uses-found}
use Rattle.app_world.proofs.WalksAlong.{Along, AnyCall, AnyName, AnyPath, AnyTarget, BeginsNew, CanBe, CanDo, Grounds, KnownTemp, OpensOn, all-along, given-can, walk-along}

-- ---- of what a request depends on, the bytes of its own open file alone

abbrev SameBytes : (FileName → List ℕ) → (FileName → List ℕ) → Option Handle → Type 0
SameBytes bytes more None = Unit {0}
SameBytes bytes more (Some (Handle.File name node document strict read write)) = bytes name ≡ more name
SameBytes bytes more (Some (Handle.Folder node entries)) = Unit {0}

read-alike : (reach : Reaching) (bytes more : FileName → List ℕ) (offset size : ℕ) (handle : Option Handle) → SameBytes bytes more handle → read reach bytes offset size handle ≡ read reach more offset size handle
read-alike reach bytes more offset size None h = refl
read-alike reach bytes more offset size (Some (Handle.File name node document strict read write)) h =
    let file : OpenFile = open_file_of name node document strict read write in
    ap (λ (found : List ℕ). errs_if (nat_lt read_limit size) einval (errs_if (not read) ebadf (errs_if (not (may_read_now reach file)) eacces (Ends (Uses name) (λ now. tells (NodeAnswer.Content (bytes_from found offset size))) (Errs enoent))))) h
read-alike reach bytes more offset size (Some (Handle.Folder node entries)) h = refl

walk-alike : (f : NodeFacts) (bytes : FileName → List ℕ) (r : NodeRequest) (op : NodeOp) → ((fh : ℕ) → SameBytes bytes f.bytes (f.handle fh)) → node_walk (record f { bytes = bytes }) r op ≡ node_walk f r op
walk-alike f bytes r (NodeOp.Read fh offset size) h = read-alike f.reach bytes f.bytes offset size (f.handle fh) (h fh)
walk-alike f bytes r op h = refl

-- no path of which a view tells is empty
abbrev NothingEmpty : AppView → Type 0
NothingEmpty v = (path : List ℕ) → knows v path ≡ true → is_same path [] ≡ false

-- no folder of the view is the root
abbrev NoRoots : AppView → Type 0
NoRoots v = list_all (λ (x : List ℕ). not (is_same x root)) (folder_paths v.documents) ≡ true

-- ---- of the generations of new files, that of the one that is made alone

errs-alike : (wrong : Bool) (errno : ℕ) (w u : Walk NodeVerdict) (g : Option ℕ) (looks : List Look) → (g ≡ generation_reached u looks → w ≡ u) → g ≡ generation_reached (errs_if wrong errno u) looks → errs_if wrong errno w ≡ errs_if wrong errno u
errs-alike true errno w u g looks h e = refl
errs-alike false errno w u g looks h e = h e

-- the generation that is told with the request, in place of those that the state tells
abbrev pub told_temps : SeatTemps → Option ℕ → SeatTemps
told_temps temps g = record temps { next = generation_told g }

module _ (r : NodeRequest) (name : List ℕ) (flags : ℕ) (room : Room) (namings : List Naming) (temps : SeatTemps) (g : Option ℕ) (looks : List Look) where
  temp-alike : (view : ℕ) (d : Document) (w : Bool) → g ≡ generation_reached (create_temp r name flags room temps view d w) looks → create_temp r name flags room (told_temps temps g) view d w ≡ create_temp r name flags room temps view d w
  temp-alike view d w =
      let adds : ℕ → Walk NodeVerdict = λ generation. add_temp r flags room (next_temp_node temps view) d (temp_made view d name (record { path = d.path; generation = generation })) in
      let old : ℕ = generation_told g d.path in
      let new : ℕ = temps.next d.path in
      let full : Bool = room.full || lacks_temp temps in
      let there : Bool = is_some (found_temp temps.temps view d.id name) in
      errs-alike (is_dots name) eacces _ _ g looks
      (errs-alike (not w) eacces _ _ g looks
      (errs-alike there eexist (errs_if full emfile (adds old)) (errs_if full emfile (adds new)) g looks
      (errs-alike full emfile (adds old) (adds new) g looks (λ e. ap (λ (o : Option ℕ). adds (generation_told o d.path)) e))))

  in-folder : (f : Folder) → g ≡ generation_reached (create_in r name flags room namings temps f) looks → create_in r name flags room namings (told_temps temps g) f ≡ create_in r name flags room namings temps f
  in-folder (RootOf view numbers has_views) e = refl
  in-folder (Views applications) e = refl
  in-folder (FolderOf view d w) e = step (is_same name (name_of d.path)) e
    where
      step : (b : Bool) → g ≡ generation_reached (cond b (create_own r flags room view d w) (create_other r name flags room temps view d w)) looks →
          cond b (create_own r flags room view d w) (create_other r name flags room (told_temps temps g) view d w) ≡ cond b (create_own r flags room view d w) (create_other r name flags room temps view d w)
      step true k = refl
      step false k = errs-alike d.folder eacces (create_temp r name flags room (told_temps temps g) view d w) (create_temp r name flags room temps view d w) g looks (temp-alike view d w) k
  in-folder (Exported view d path w) e = refl

  by-sight : (sight : Option Sight) → g ≡ generation_reached (by_place sight (no_file enotdir) (create_in r name flags room namings temps)) looks →
      by_place sight (no_file enotdir) (create_in r name flags room namings (told_temps temps g)) ≡ by_place sight (no_file enotdir) (create_in r name flags room namings temps)
  by-sight None e = refl
  by-sight (Some (SightOfFile d w)) e = refl
  by-sight (Some (SightOfTemp d file w)) e = refl
  by-sight (Some (SightBelow view d path w)) e = λ i. Looks (AtPath path) (λ look. below look i)
    where
      below : (look : Look) → by_look view (spot d path w) (no_file enotdir) (create_in r name flags room namings (told_temps temps g)) look ≡ by_look view (spot d path w) (no_file enotdir) (create_in r name flags room namings temps) look
      below (Look.File generation size moment) = refl
      below Look.Folder = refl
      below Look.Missing = refl
  by-sight (Some (SightOfFolder f)) e = in-folder f e

  create-alike : (sight : Option Sight) → g ≡ generation_reached (create r name flags sight room namings temps) looks → create r name flags sight room namings (told_temps temps g) ≡ create r name flags sight room namings temps
  create-alike sight = errs-alike (has_no_mode flags) einval _ _ g looks (errs-alike (is_too_long name) enametoolong _ _ g looks (by-sight sight))

pub temps-alike : (f : NodeFacts) (g : Option ℕ) (looks : List Look) (r : NodeRequest) (op : NodeOp) → g ≡ generation_reached (node_walk f r op) looks → node_walk (record f { temps = told_temps f.temps g }) r op ≡ node_walk f r op
temps-alike f g looks r (NodeOp.Create name flags) e = create-alike r name flags f.room f.namings f.temps g looks f.sight e
temps-alike f g looks r op e = refl

-- ---- the names of new files

-- what the next temporary of a path gets
abbrev pub next_of : State → List ℕ → FileName
next_of t path = record { path = path; generation = next_generation t.taken path }

not-zero : (n : ℕ) → (n + 1 == 0) ≡ false
not-zero n = grind (arith, nat_tests)

-- no file has it, and no connection of the view names it
abbrev pub AreFree : List ℕ → State → Type 0
AreFree app t = (path : List ℕ) → (is_held (held_in t) (next_of t path) ≡ false) × (holds_name (view t app) (next_of t path) ≡ false)

-- a first file that a connection of the view names has a path that the view names
abbrev pub FirstsTold : AppView → Type 0
FirstsTold v = (path : List ℕ) → holds_name v (first_of path) ≡ true → knows v path ≡ true

-- a temporary of a document of the view has the document's path
abbrev pub TempsTold : AppView → List OwnTemp → Type 0
TempsTold v temps = (p : OwnTemp → Bool) (x : OwnTemp) → find p temps ≡ Some x → is_some (found_document v.documents x.temp.document.number) ≡ true → knows v x.temp.file.path ≡ true

missing-file : (tree : Held) (name : FileName) → is_held tree name ≡ false → flat_map (named_file (all_held tree)) (name ∷ []) ≡ []
missing-file tree name h = step (file_named (all_held tree) name) refl
  where
    step : (o : Option File) → file_named (all_held tree) name ≡ o → file_if name (file_named (all_held tree) name) ++ [] ≡ []
    step None e = ap (λ (o : Option File). file_if name o ++ []) e
    step (Some f) e = let no : true ≡ false = sym (ap is_some e) ∙ h in cc

-- ---- of the application itself

module _ (app : List ℕ) (t : State) (c : Connection) (r : NodeRequest) (named : c.who ≡ Who.App app) (a : Asking) (sound : (node : ℕ) → IsSoundSight a node (sight_on t c node)) (tree_sound : SoundTree (held_in t)) (some : NothingEmpty (view t app)) (folders : FoldersThere app t) (roots : NoRoots (view t app))
    (free : AreFree app t) (firsts : FirstsTold (view t app)) (placed : TempsTold (view t app) c.temps)
    (found : found_connection (own_connections app t.handles t.connections) c.seat ≡ Some (own_connection app t.handles c)) where
  abbrev v : AppView
  v = view t app

  abbrev tree : Held
  tree = held_in t

  abbrev mine : OwnConnection
  mine = own_connection app t.handles c

  abbrev On : List ℕ → Type 0
  On path = knows v path ≡ true

  abbrev Beneath : List ℕ → Type 0
  Beneath path = covers v path ≡ true

  abbrev Its : FileName → Type 0
  Its name = Known app t tree_sound folders name

  abbrev Fresh : FileName → Type 0
  Fresh name = New app t tree_sound folders name

  sight-is : (node : ℕ) → own_place v mine node ≡ sight_on t c node
  sight-is node = own_place-is app t (naming_on c node) (temp_on c node) node ∙ ap (λ (who : Who). place_of t who (naming_on c node) (temp_on c node) node) (sym named)

  reach-is : (node number : ℕ) → own_reach v node number ≡ reach_at t c.who node number
  reach-is node number = own_reach-is app t node number ∙ ap (λ (who : Who). reach_at t who node number) (sym named)

  -- but for the bytes, and the generation of a new file
  abbrev nearly : Option ℕ → NodeFacts
  nearly g = record (facts_of t c r.node) { temps = told_temps (temps_seen t c) g }

  facts-are : (g : Option ℕ) → own_facts v mine g r.node ≡ record (nearly g) { bytes = own_bytes v }
  facts-are g = λ i. record {
    sight = sight-is r.node i;
    sight_of = λ node. sight-is node i;
    handle = λ fh. handle-found t.handles c.seat fh i;
    reach = λ node number. reach-is node number i;
    bytes = own_bytes v;
    room = record { opens = c.opens; full = not (nat_lt (length-map (handles_of t.handles c.seat) own_handle i) t.limits.handles) };
    namings = c.namings;
    temps = told_temps (temps_seen t c) g;
    file_limit = t.limits.file_bytes;
  }

  handle-on : (fh : ℕ) → HandleOn Its (handle_of t.handles c.seat fh)
  handle-on fh =
      subst (HandleOn Its) (handle-found t.handles c.seat fh)
      (handle_more (λ (name : FileName). (names v name.path ≡ true) × (holds_name v name ≡ true)) Its (λ name h. held-known app t tree_sound folders name (named-told v name.path h.0) h.1) (own_handle_of mine.handles fh)
      (handle_named v c.seat mine found fh))

  temp-known : (p : OwnTemp → Bool) (x : OwnTemp) → find p c.temps ≡ Some x → is_some (found_document v.documents x.temp.document.number) ≡ true → Its x.temp.file
  temp-known p x e h = held-known app t tree_sound folders x.temp.file (placed p x e h) (temp_named v c.seat mine found p x e)

  temps-its : (k : ℕ) (x : Temp) → temp_of c.temps k ≡ Some x → (d : HeldDocument) → found_document v.documents x.document.number ≡ Some d → Its x.file
  temps-its k x e d f = step (find (λ (y : OwnTemp). y.k == k) c.temps) refl e
    where
      step : (o : Option OwnTemp) → find (λ (y : OwnTemp). y.k == k) c.temps ≡ o → option_map (λ (y : OwnTemp). y.temp) o ≡ Some x → Its x.file
      step None g h = cc
      step (Some y) g h =
          let same : y.temp ≡ x = cc in
          subst (λ (z : Temp). Its z.file) same (temp-known (λ (z : OwnTemp). z.k == k) y g (ap (λ (z : Temp). is_some (found_document v.documents z.document.number)) same ∙ ap is_some f))

  sights-on : (node : ℕ) → SightOn On Beneath Its (HeldIn v) (sight_on t c node)
  sights-on node = sight-told v Its (HeldIn v) (λ d h. h) a node (sight_on t c node) (subst (SightHeld (HeldIn v) Its) (sight-is node) (place_on v Its mine temps-its node)) (sound node)

  same-bytes : (o : Option Handle) → HandleOn Its o → SameBytes (own_bytes v) (bytes_named (all_held tree)) o
  same-bytes None h = tt
  same-bytes (Some (Handle.File name node document strict read write)) h = bytes-on app t tree_sound folders name h
  same-bytes (Some (Handle.Folder node entries)) h = tt

  walk-is : (g : Option ℕ) (looks : List Look) → g ≡ generation_reached (walk_on_node t c r) looks → own_walk v mine g r ≡ walk_on_node t c r
  walk-is g looks e =
      ap (λ (f : NodeFacts). node_walk f r r.op) (facts-are g)
      ∙ (walk-alike (nearly g) (own_bytes v) r r.op (λ fh. same-bytes (handle_of t.handles c.seat fh) (handle-on fh))
      ∙ temps-alike (facts_of t c r.node) g looks r r.op e)

  abbrev Shows : Target → Type 0
  Shows target = Agrees app t tree_sound folders target

  abbrev Has : LastCall → Type 0
  Has call = Finds app t tree_sound folders call

  abbrev Tells : List ℕ → Type 0
  Tells path = ListedSo app t tree_sound folders path

  grounds : Grounds tree Its Fresh Shows Has Tells On Beneath (HeldIn v)
  grounds = record {
    itself = covered-told v;
    child = child-told v roots;
    lists = listed-so app t tree_sound folders;
    at_path = path-agrees app t tree_sound folders;
    at_named = name-agrees app t tree_sound folders;
    uses = uses-found app t tree_sound folders;
    alters = changes-found app t tree_sound folders;
    makes = makes-found app t tree_sound folders;
    turns = turns-found app t tree_sound folders;
    standing = standing-known app t tree_sound folders;
    absent = absent-known app t tree_sound folders;
    named_still = named-known app t tree_sound folders;
  }

  is-new : (path : List ℕ) → Fresh (next_of t path)
  is-new path = ((free path).0, not-zero (last_taken t.taken path))

  known-temp : (d : Document) → HeldIn v d → (view : ℕ) (name : List ℕ) → KnownTemp tree Its Fresh Shows Has Tells On Beneath (HeldIn v) (found_temp c.temps view d.id name)
  known-temp d h view name = step (found_temp c.temps view d.id name) refl
    where
      number : (b k m : Bool) → ((b && k) && m) ≡ true → k ≡ true
      number true true m e = refl
      number true false m e = cc
      number false k m e = cc

      step : (o : Option OwnTemp) → found_temp c.temps view d.id name ≡ o → KnownTemp tree Its Fresh Shows Has Tells On Beneath (HeldIn v) o
      step None e = tt
      step (Some x) e =
          let called : is_called view d.id name x ≡ true = found_passes (is_called view d.id name) c.temps x e in
          let same : x.temp.document.number ≡ d.id.number = nat_is x.temp.document.number d.id.number (number (x.temp.view == view) (x.temp.document.number == d.id.number) (is_same x.temp.name name) called) in
          temp-known (is_called view d.id name) x e (ap (λ (n : ℕ). is_some (found_document v.documents n)) same ∙ h.2)

  along : Along tree Its Fresh Shows Has Tells (walk_on_node t c r)
  along =
      walk-along tree Its Fresh Shows Has Tells On Beneath (HeldIn v) grounds (facts_of t c r.node) r r.op (sights-on r.node) sights-on handle-on
      (λ path h. (freshens-found app t tree_sound folders (next_of t path) h (free path).0, (missing-known app t tree_sound folders (next_of t path) h (free path).0, is-new path)))
      known-temp

  -- ---- the view after

  abbrev docs : List HeldDocument
  docs = held_documents (held_of t.rights app) t.documents

  abbrev cs : List OwnConnection
  cs = own_connections app t.handles t.connections

  opened-shown : (change : HandleChange) → OpensOn tree Its Fresh change → ShowsOpened v tree change
  opened-shown HandlesStay h = tt
  opened-shown (Opens (Handle.File name node document strict read write)) h = (content-on app t tree_sound folders name.path h.0, h.1)
  opened-shown (Opens (Handle.Folder node entries)) h = tt
  opened-shown (Closes fh) h = tt

  opened-told : (change : HandleChange) → OpensOn tree Its Fresh change → (path : List ℕ) → opens_path change path ≡ true → On path
  opened-told HandlesStay h path e = let no : false ≡ true = e in cc
  opened-told (Opens (Handle.File name node document strict read write)) h path e = subst On (is_same-eq name.path path e) h.0
  opened-told (Opens (Handle.Folder node entries)) h path e = let no : false ≡ true = e in cc
  opened-told (Closes fh) h path e = let no : false ≡ true = e in cc

  opened-known : (change : HandleChange) → OpensOn tree Its Fresh change → (name : FileName) → opens_name change name ≡ true → Its name
  opened-known HandlesStay h name e = let no : false ≡ true = e in cc
  opened-known (Opens (Handle.File file node document strict read write)) h name e = subst Its (name-eq file name e) h
  opened-known (Opens (Handle.Folder node entries)) h name e = let no : false ≡ true = e in cc
  opened-known (Closes fh) h name e = let no : false ≡ true = e in cc

  one-name : (file name : FileName) → (same_name file name || false) ≡ true → file ≡ name
  one-name file name e = name-eq file name (first (same_name file name) e)
    where
      first : (b : Bool) → (b || false) ≡ true → b ≡ true
      first true k = refl
      first false k = k

  begun-new : (change : NameChange) → BeginsNew tree Its Fresh change → (name : FileName) → begins_name change name ≡ true → Fresh name
  begun-new NamesStay h name e = let no : false ≡ true = e in cc
  begun-new (Names naming) h name e = let no : false ≡ true = e in cc
  begun-new (Temps (Begins temp)) h name e = subst Fresh (one-name temp.file name e) h
  begun-new (Temps (Drops k)) h name e = let no : false ≡ true = e in cc
  begun-new (Temps (Renames k temp to)) h name e = let no : false ≡ true = e in cc

  begun-missing : (change : NameChange) → BeginsNew tree Its Fresh change → AreMissing tree (begun change)
  begun-missing NamesStay h = refl
  begun-missing (Names naming) h = refl
  begun-missing (Temps (Begins temp)) h = missing-file tree temp.file h.0
  begun-missing (Temps (Drops k)) h = refl
  begun-missing (Temps (Renames k temp to)) h = refl

  module _ (d : NodeDoing) (can : CanDo tree Its Fresh d) where
    abbrev more : List OwnConnection
    more = own_connections_then mine d cs

    wide : (path : List ℕ) → is_among (named_paths docs more) path ≡ true → On path
    wide path h = either-told (opens_path d.handle path) refl (then-named docs mine cs d path h)
      where
        either-told : (b : Bool) → opens_path d.handle path ≡ b → (b || is_among (named_paths docs cs) path) ≡ true → On path
        either-told true e k = opened-told d.handle can.handle path e
        either-told false e k = named-told v path k

    -- what is named then has begun, was opened, or was named before
    by-kind : (X : Type 0) (name : FileName) → (Fresh name → X) → (Its name → X) → (holds_name v name ≡ true → X) → is_held_name (names_held more) name ≡ true → X
    by-kind X name f g h k = begins (begins_name d.names name) refl (then-files mine name d cs k)
      where
        opens : (b : Bool) → opens_name d.handle name ≡ b → (b || is_held_name (names_held cs) name) ≡ true → X
        opens true e u = g (opened-known d.handle can.handle name e)
        opens false e u = h u

        begins : (b : Bool) → begins_name d.names name ≡ b → (b || (opens_name d.handle name || is_held_name (names_held cs) name)) ≡ true → X
        begins true e u = f (begun-new d.names can.names name e)
        begins false e u = opens (opens_name d.handle name) refl u

    by-name : (name : FileName) → is_held tree name ≡ true → is_held_name (names_held more) name ≡ true → has_file v name ≡ true
    by-name name there =
        by-kind (has_file v name ≡ true) name (λ n. let no : true ≡ false = sym there ∙ n.0 in cc) (λ k. known-there app t tree_sound folders name k there)
        (λ k. held-there app t tree_sound folders name k there)

    firsts-then : (path : List ℕ) → is_held_name (names_held more) (first_of path) ≡ true → knows v path ≡ true
    firsts-then path = by-kind (knows v path ≡ true) (first_of path) (λ n. let no : true ≡ false = n.1 in cc) (λ k. k.0) (firsts path)

    done-own : t.told ≡ true → own_node_done v mine d ≡ view (node_done t c d) app
    done-own told =
        ap (λ (x : AppView). apply_all x (own_effects v d.file))
        (prune-opened t.limits tree (held_of t.rights app) t.documents cs more (begun d.names) (begun-missing d.names can.names) d.handle (opened-shown d.handle can.handle) (then-named docs mine cs d) (λ n k. then-files mine n d cs k))
        ∙ (own-effects t.limits tree tree_sound (held_of t.rights app) t.documents more v wide (covered-told v) by-name (stands-there app t tree_sound folders) firsts-then Its Fresh (λ name n. n) (own-files app t tree_sound folders) (λ name k. k.1) some d.file can.file
        ∙ (λ i. view_over t.limits (files_after (sym told i) d.file tree) docs (sym (connections-then app c t.handles d t.connections) i)))

  settled-own : t.told ≡ true → (o : Option NodeVerdict) → CanBe tree Its Fresh o → own_settled_on_node v mine o ≡ (view (settled_on_node t c o).0 app, (settled_on_node t c o).1)
  settled-own told None h = refl
  settled-own told (Some (Errs errno)) h = refl
  settled-own told (Some (Yields d)) h = λ i. (done-own d h told i, Answer.Node d.answer)

  -- it comes to the same in the view as in the state
  pub node-own : (given : Given) (own : Own) → own.now ≡ given.now → own.looks ≡ length given.looks → own.fault ≡ given.fault → own.generation ≡ given.generation → t.told ≡ true → LawfulNode t c r given →
      own_node_answer v mine r own ≡ (view (node_answer t c r given).0 app, (node_answer t c r given).1)
  node-own given own now count fault generation told l =
      let walk : Walk NodeVerdict = walk_on_node t c r in
      let gives : Gives (Some tree) walk given.looks (is_tree given.fault) = subst (λ (b : Bool). Gives (cond b (Some tree) None) walk given.looks (is_tree given.fault)) told l.looks in
      let names : GivesNames (Some tree) walk given.looks given.listed (is_tree given.fault) = subst (λ (b : Bool). GivesNames (cond b (Some tree) None) walk given.looks given.listed (is_tree given.fault)) told l.listed in
      let same : own_node_given v (own_walk v mine own.generation r) own ≡ node_given walk given =
      ap (λ (w : Walk NodeVerdict). own_node_given v w own) (walk-is own.generation given.looks (generation ∙ l.generation))
      ∙ ((λ i. walked_with walk (moment_given (now i)) (own_listed v walk) (succeeding (fault i) (count i) (own_looks v walk)) (is_tree (fault i)))
      ∙ (ap (λ (looks : List Look). walked_with walk (moment_given given.now) (own_listed v walk) looks (is_tree given.fault)) (succeeding-given app t tree_sound folders walk given.fault given.looks along l.keeper gives)
      ∙ listed-given-so app t tree_sound folders walk (moment_given given.now) given.listed given.looks (is_tree given.fault) along gives names)) in
      ap (own_settled_on_node v mine) same
      ∙ settled-own told (node_given walk given) (given-can tree Its Fresh Shows Has Tells walk (moment_given given.now) given.listed given.looks (is_tree given.fault) gives along)

-- ---- of another

module _ (app : List ℕ) (t : State) (c : Connection) (r : NodeRequest) (tree_sound : SoundTree (held_in t)) (some : NothingEmpty (view t app)) (folders : t.told ≡ true → FoldersThere app t) (free : t.told ≡ true → AreFree app t) (firsts : FirstsTold (view t app))
    (found : found_connection (own_connections app t.handles t.connections) c.seat ≡ None) where
  abbrev seen : AppView
  seen = view t app

  abbrev files : Held
  files = held_in t

  -- a name that is new to the view too
  abbrev Free : FileName → Type 0
  Free name = ((is_held files name ≡ false) × ((name.generation == 0) ≡ false)) × (holds_name seen name ≡ false)

  is-free : t.told ≡ true → (path : List ℕ) → Free (next_of t path)
  is-free told path = (((free told path).0, not-zero (last_taken t.taken path)), (free told path).1)

  same-connections : (d : NodeDoing) → own_connections app t.handles t.connections ≡ own_connections app (handles_after c d.handle t.handles) (connections_named c d.names (connections_after c d.handle t.connections))
  same-connections d = sym (connections-then app c t.handles d t.connections ∙ then-elsewhere (own_connection app t.handles c) d (own_connections app t.handles t.connections) found)

  untold-stays : (change : FileChange) → files_after false change files ≡ files
  untold-stays FilesStay = refl
  untold-stays (Writes name offset content now) = refl
  untold-stays (Resizes name size now) = refl
  untold-stays (Creates path now) = refl
  untold-stays (Adds name now) = refl
  untold-stays (Stands name) = refl

  done-by : (b : Bool) → t.told ≡ b → (d : NodeDoing) → (b ≡ true → CanDo files AnyName Free d) →
      apply_all seen (cond b (file_effects seen (content_named (all_held files)) d.file) []) ≡ view (node_done t c d) app
  done-by true e d can =
      let there : FoldersThere app t = folders e in
      other-effects t.limits files tree_sound (held_of t.rights app) t.documents (own_connections app t.handles t.connections) seen (named-told seen) (covered-told seen) (λ name h k. held-there app t tree_sound there name k h) (stands-there app t tree_sound there) firsts
      AnyName Free (λ name n. n.0) (content_named (all_held files)) (λ name h k. refl) (λ name k. refl) (λ name n. n.1) some d.file (can refl).file
      ∙ (λ i. view_over t.limits (files_after (sym e i) d.file files) (held_documents (held_of t.rights app) t.documents) (same-connections d i))
  done-by false e d can =
      (λ i. view_over t.limits (sym (untold-stays d.file) i) (held_documents (held_of t.rights app) t.documents) (same-connections d i))
      ∙ (λ i. view_over t.limits (files_after (sym e i) d.file files) (held_documents (held_of t.rights app) t.documents) (own_connections app (handles_after c d.handle t.handles) (connections_named c d.names (connections_after c d.handle t.connections))))

  settled-other : (o : Option NodeVerdict) → (t.told ≡ true → CanBe files AnyName Free o) → apply_all seen (cond (is_done (settled_on_node t c o).1) (verdict_touch app t o) []) ≡ view (settled_on_node t c o).0 app
  settled-other None h = refl
  settled-other (Some (Errs errno)) h = refl
  settled-other (Some (Yields d)) h = done-by t.told refl d h

  -- what is touched gives the view after
  pub node-other : (given : Given) → LawfulNode t c r given →
      apply_all seen (cond (is_done (node_answer t c r given).1) (verdict_touch app t (node_given (walk_on_node t c r) given)) []) ≡ view (node_answer t c r given).0 app
  node-other given l =
      settled-other (node_given (walk_on_node t c r) given) (λ told.
      given-can files AnyName Free AnyTarget AnyCall AnyPath (walk_on_node t c r) (moment_given given.now) given.listed given.looks (is_tree given.fault)
      (subst (λ (b : Bool). Gives (cond b (Some files) None) (walk_on_node t c r) given.looks (is_tree given.fault)) told l.looks)
      (all-along files Free (facts_of t c r.node) r r.op (is-free told)))
