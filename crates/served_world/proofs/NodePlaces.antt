-- Where the tree is asked for a request of an application on a node: the file of a document in which it has `read`, what lies
-- at and below one that is a folder, or a file that it has open.
use Rattle.std.proofs.Common.{◌≡◌, ◌⊎◌, inl, inr, ℕ, zero, suc, ◌==◌, List, [], ◌∷◌, Bool, true, false, not, ◌&&◌, ◌||◌, cond, Option, Some, None, is_some, refl, sym, ap, subst, ◌∙◌}
use Rattle.std.specs.List.{find, AllByRecursion}
use Rattle.std.specs.Option.{option_map}
use Rattle.portal_base.specs.Content.{is_above}
use Rattle.portal_base.specs.Names.{is_same, named_child, root}
use Rattle.portal_base.specs.declared.files.FileName.{FileName}
use Rattle.portal_base.specs.declared.files.Look.{Look}
use Rattle.portal_base.specs.declared.who.Who.{Who}
use Rattle.portal_model.specs.declared.naming.Naming.{Naming}
use Rattle.portal_model.specs.declared.place.Place.{Place}
use Rattle.portal_model.specs.declared.request.NodeOp.{NodeOp}
use Rattle.portal_model.specs.declared.request.NodeRequest.{NodeRequest}
use Rattle.portal_model.specs.declared.request.Request.{Request}
use Rattle.portal_model.specs.declared.rights.Right.TheVariants.{Read, Write}
use Rattle.portal_model.specs.declared.state.Connection.{Connection}
use Rattle.portal_model.specs.declared.state.Document.{Document}
use Rattle.portal_model.specs.declared.temporary.OwnTemp.{OwnTemp}
use Rattle.portal_model.specs.declared.temporary.Temp.{Temp}
use Rattle.portal_model.specs.Node.{facts_of, node_walk, temps_seen, walk_on_node}
use Rattle.portal_model.specs.Place.{id_of_node, SightOfTemp, sight_of_own_temp, sight_of_temp, temp_on, Exported, FolderOf, RootOf, Sight, SightOfFile, SightOfFolder, Views, place_named, place_of, reach_at, reach_of_subject, seen_by, sight_at, sight_of_document, sight_of_folder, sight_of_place, sight_of_root, subject_of, view_of_node, SightBelow, naming_on, sight_at_path, sight_below, sight_of_naming, sight_on}
use Rattle.portal_model.specs.Reach.{OpenFile, reach_of, reaches}
use Rattle.portal_model.specs.Rename.{rename_call}
use Rattle.portal_model.specs.SeatNames.{found_temp, is_called, temp_of}
use Rattle.portal_model.specs.SoundNames.{is_placed_temp}
use Rattle.portal_model.specs.State.{State, app_has, document_of, handle_of, has, who_has}
use Rattle.portal_model.specs.Step.{all_told}
use Rattle.portal_model.specs.Walk.{Target, AtPath, Named}
use Rattle.portal_model.proofs.DocumentChanges.{first_of_both, second_of_both}
use Rattle.portal_model.proofs.ListLookups.{found_passes, is_same-eq, is_same-refl, nat_is}
use Rattle.portal_model.proofs.NodeValid.{Asking, IsSoundSight, child_above, child_is}
use Rattle.app_world.specs.View.{is_at_or_below}
use Rattle.app_world.proofs.NamedPaths.{SightHeld, SightOn}
use Rattle.served_world.specs.OwnPlaces.{IsOpen, IsReadable, MayAsk, MayAskFor, places_along}
use Rattle.served_world.proofs.PlacesAlong.{Along, May, TempAt, access-along, along-places, create-along, flush-along, fsync-along, get_attr-along, lookup-along, open-along, open_dir-along, read-along, read_dir-along, release-along, release_dir-along, rename-along, set_attr-along, unlink-along, write-along}

-- ---- what the application sees at a node is of a document that it may read

module _ (app : List ℕ) (t : State) where
  -- a live document that it may read
  abbrev Reads : Document → Type 0
  Reads d = (document_of t.documents d.id.number ≡ Some d) × (has t (Who.App app) d.id.number Read ≡ true)

  -- a file of a path of which it may ask for files
  abbrev Its : FileName → Type 0
  Its name = IsReadable app t name.path

  abbrev Seen : Option Sight → Type 0
  Seen = SightHeld Reads Its

  itself-readable : (d : Document) → Reads d → IsReadable app t d.path
  itself-readable d h = record { document = d; live = h.0; path_is = by_kind d.folder; read = h.1 }
    where
      whole : (a b : Bool) → a ≡ true → (a || b) ≡ true
      whole true b e = refl
      whole false b e = cc

      by_kind : (b : Bool) → cond b (is_at_or_below d.path d.path) (is_same d.path d.path) ≡ true
      by_kind true = whole (is_same d.path d.path) _ (is_same-refl d.path)
      by_kind false = is_same-refl d.path

  -- a temporary of such a document is a file of its path
  temp-readable : (x : Temp) (d : Document) → document_of t.documents x.document.number ≡ Some d → is_placed_temp (document_of t.documents x.document.number) x ≡ true → Reads d → Its x.file
  temp-readable x d e h k =
      let same : x.file.path ≡ d.path = is_same-eq x.file.path d.path (second_of_both (not d.folder) (is_same x.file.path d.path) (ap (λ (o : Option Document). is_placed_temp o x) (sym e) ∙ h)) in
      subst (λ (q : List ℕ). IsReadable app t q) (sym same) (itself-readable d k)

  readable : (d : Document) (number : ℕ) → document_of t.documents number ≡ Some d → app_has t.rights app d.id.number Read ≡ true → Reads d
  readable d number e h =
      let n : d.id.number ≡ number = nat_is d.id.number number (found_passes (λ (x : Document). x.id.number == number) t.documents d e) in
      let live : document_of t.documents d.id.number ≡ Some d = ap (document_of t.documents) n ∙ e in
      (live, λ i. is_some (live i) && h i)

  by_right : (d : Document) (sight : Sight) (b : Bool) → app_has t.rights app d.id.number Read ≡ b → (app_has t.rights app d.id.number Read ≡ true → Seen (Some sight)) → Seen (cond b (Some sight) None)
  by_right d sight true e h = h e
  by_right d sight false e h = tt

  at-path-seen : (view : ℕ) (d : Document) (b w : Bool) → Reads d → Seen (Some (sight_at_path view d b w))
  at-path-seen view d true w h = h
  at-path-seen view d false w h = h

  file-seen : (view number : ℕ) (o : Option Document) → document_of t.documents number ≡ o → Seen (sight_of_document view t.rights (Who.App app) o)
  file-seen view number None e = tt
  file-seen view number (Some d) e =
      by_right d (sight_at_path view d d.folder (who_has t.rights (Who.App app) d.id.number Write)) (app_has t.rights app d.id.number Read) refl
      (λ h. at-path-seen view d d.folder (who_has t.rights (Who.App app) d.id.number Write) (readable d number e h))

  below-seen : (view : ℕ) (path : List ℕ) (number : ℕ) (o : Option Document) → document_of t.documents number ≡ o → Seen (sight_below view t.rights (Who.App app) path o)
  below-seen view path number None e = tt
  below-seen view path number (Some d) e =
      by_right d (SightBelow view d path (who_has t.rights (Who.App app) d.id.number Write)) (app_has t.rights app d.id.number Read) refl (readable d number e)

  naming-seen : (view : ℕ) (naming : Option Naming) → Seen (sight_of_naming t view (Who.App app) naming)
  naming-seen view None = tt
  naming-seen view (Some n) = elim (n.view == view) as (λ b. Seen (cond b (sight_below view t.rights (Who.App app) n.path (document_of t.documents n.document.number)) None)) [
    | true ↦ below-seen view n.path n.document.number (document_of t.documents n.document.number) refl
    | false ↦ tt
  ]

  folder-seen : (view number : ℕ) (o : Option Document) → document_of t.documents number ≡ o → Seen (sight_of_folder view t.rights (Who.App app) o)
  folder-seen view number None e = tt
  folder-seen view number (Some d) e =
      by_right d (SightOfFolder (FolderOf view d (who_has t.rights (Who.App app) d.id.number Write))) (app_has t.rights app d.id.number Read) refl (readable d number e)

  -- the application has its own view alone
  in-view : (k : ℕ) (sight : Who → Option Sight) → Seen (sight (Who.App app)) → Seen (seen_by (subject_of t.applications (Who.App app) k) sight)
  in-view zero sight h = h
  in-view (suc k) sight h = tt

  -- what a connection has by the number in a node is placed so
  abbrev IsPlaced : Option Temp → Type 0
  IsPlaced temp = (x : Temp) → temp ≡ Some x → is_placed_temp (document_of t.documents x.document.number) x ≡ true

  of-temp-seen : (x : Temp) → is_placed_temp (document_of t.documents x.document.number) x ≡ true → (o : Option Document) → document_of t.documents x.document.number ≡ o → Seen (sight_of_temp t.rights (Who.App app) x.file o)
  of-temp-seen x h None e = tt
  of-temp-seen x h (Some d) e =
      by_right d (SightOfTemp d x.file (who_has t.rights (Who.App app) d.id.number Write)) (app_has t.rights app d.id.number Read) refl
      (λ k. temp-readable x d e h (readable d x.document.number e k))

  temp-seen : (view : ℕ) (temp : Option Temp) → IsPlaced temp → Seen (sight_of_own_temp t view (Who.App app) temp)
  temp-seen view None h = tt
  temp-seen view (Some x) h = elim (x.view == view) as (λ b. Seen (cond b (sight_of_temp t.rights (Who.App app) x.file (document_of t.documents x.document.number)) None)) [
    | true ↦ of-temp-seen x (h x refl) (document_of t.documents x.document.number) refl
    | false ↦ tt
  ]

  there-seen : (naming : Option Naming) (temp : Option Temp) → IsPlaced temp → (p : Place) → Seen (sight_of_place t (Who.App app) naming temp p)
  there-seen naming temp h (Place.Root k) = in-view k (sight_of_root t (Who.App app) k) tt
  there-seen naming temp h Place.ByApp = tt
  there-seen naming temp h (Place.Folder k id) =
      in-view k (λ who. sight_of_folder k t.rights who (document_of t.documents id.number)) (folder-seen k id.number (document_of t.documents id.number) refl)
  there-seen naming temp h (Place.File k id) =
      in-view k (λ who. sight_of_document k t.rights who (document_of t.documents id.number)) (file-seen k id.number (document_of t.documents id.number) refl)
  there-seen naming temp h (Place.Named k n) = in-view k (λ who. sight_of_naming t k who naming) (naming-seen k naming)
  there-seen naming temp h (Place.Temporary k n) = in-view k (λ who. sight_of_own_temp t k who temp) (temp-seen k temp h)

  at-seen : (naming : Option Naming) (temp : Option Temp) → IsPlaced temp → (p : Option Place) → Seen (sight_at t (Who.App app) naming temp p)
  at-seen naming temp h None = tt
  at-seen naming temp h (Some p) = there-seen naming temp h p

  node-seen : (naming : Option Naming) (temp : Option Temp) → IsPlaced temp → (node : ℕ) → Seen (place_of t (Who.App app) naming temp node)
  node-seen naming temp h node = at-seen naming temp h (place_named node)

  -- ---- where the tree is asked for it

  first : (a b : Bool) → a ≡ true → (a || b) ≡ true
  first true b e = refl
  first false b e = cc

  later : (a : Bool) {b : Bool} → b ≡ true → (a || b) ≡ true
  later true e = refl
  later false e = e

  -- at or below a folder that is such a document, and isn't the root
  record IsInFolder (path : List ℕ) : Type 0 where
    document : Document
    reads : Reads document
    folder : document.folder ≡ true
    named : is_same document.path root ≡ false
    below : is_at_or_below document.path path ≡ true

  below-readable : (d : Document) (path : List ℕ) → Reads d → d.folder ≡ true → is_at_or_below d.path path ≡ true → IsReadable app t path
  below-readable d path h f k = record { document = d; live = h.0; path_is = ap (λ (b : Bool). cond b (is_at_or_below d.path path) (is_same d.path path)) f ∙ k; read = h.1 }

  in-folder : (path : List ℕ) → IsInFolder path → IsReadable app t path
  in-folder path x = below-readable x.document path x.reads x.folder x.below

  -- and so is a name in it
  in-child : (path name p : List ℕ) → IsInFolder path → named_child path name ≡ Some p → IsReadable app t p
  in-child path name p x e =
      below-readable x.document p x.reads x.folder
      (later (is_same p x.document.path) (ap (is_above x.document.path) (sym (child_is path name p e).1) ∙ child_above x.document.path path name x.named x.below))

  seen-on : (a : Asking) (node : ℕ) (o : Option Sight) → Seen o → IsSoundSight a node o → SightOn (IsReadable app t) IsInFolder Its Reads o
  seen-on a node None h k = tt
  seen-on a node (Some (SightOfFile d may_write)) h k = itself-readable d h
  seen-on a node (Some (SightOfTemp d name may_write)) h k = h
  seen-on a node (Some (SightBelow view d path may_write)) h k = record { document = d; reads = h; folder = k.0.folder; named = k.0.named; below = k.0.below }
  seen-on a node (Some (SightOfFolder (RootOf view numbers has_views))) h k = tt
  seen-on a node (Some (SightOfFolder (Views applications))) h k = tt
  seen-on a node (Some (SightOfFolder (FolderOf view d may_write))) h k = (itself-readable d h, h)
  seen-on a node (Some (SightOfFolder (Exported view d path may_write))) h k = record { document = d; reads = h; folder = k.folder; named = k.named; below = k.below }

  -- ---- what an open file of a strict document needs

  subject-reads : (number k : ℕ) → (reach_of_subject t number (subject_of t.applications (Who.App app) k)).read ≡ true → has t (Who.App app) number Read ≡ true
  subject-reads number zero e = e
  subject-reads number (suc k) e = let no : false ≡ true = e in cc

  strict-reads : (strict reads : Bool) → (not strict || reads) ≡ true → strict ≡ true → reads ≡ true
  strict-reads true reads h e = h
  strict-reads false reads h e = cc

  reads-now : (file : OpenFile) → reaches (reach_at t (Who.App app)) file ≡ true → file.strict ≡ true → has t (Who.App app) file.document.number Read ≡ true
  reads-now file h e = subject-reads file.document.number (view_of_node file.node) (strict-reads file.strict (reach_of (reach_at t (Who.App app)) file).read h e)

-- ---- the walk of each request

-- whether it may ask for the file of a document
abbrev ByDocument : List ℕ → State → NodeOp → List ℕ → Type 0
ByDocument app t (NodeOp.Read fh offset size) path = ⊥
ByDocument app t (NodeOp.Write fh offset content) path = ⊥
ByDocument app t (NodeOp.Fsync fh) path = ⊥
ByDocument app t op path = IsReadable app t path

-- while its document is live, each temporary of a connection is a file of the document's path
abbrev pub ArePlaced : State → Connection → Type 0
ArePlaced t c = (p : OwnTemp → Bool) (x : OwnTemp) → find p c.temps ≡ Some x → is_placed_temp (document_of t.documents x.temp.document.number) x.temp ≡ true

module _ (app : List ℕ) (t : State) (c : Connection) (named : c.who ≡ Who.App app) (a : Asking) (sound : (node : ℕ) → IsSoundSight a node (sight_on t c node)) (placed : ArePlaced t c) where
  here : (node : ℕ) → IsPlaced app t (temp_on c node)
  here node x e = step (find (λ (y : OwnTemp). y.k == id_of_node node) c.temps) refl e
    where
      step : (o : Option OwnTemp) → find (λ (y : OwnTemp). y.k == id_of_node node) c.temps ≡ o → option_map (λ (y : OwnTemp). y.temp) o ≡ Some x → is_placed_temp (document_of t.documents x.document.number) x ≡ true
      step None g h = cc
      step (Some y) g h =
          let same : y.temp ≡ x = cc in
          subst (λ (z : Temp). is_placed_temp (document_of t.documents z.document.number) z ≡ true) same (placed (λ (z : OwnTemp). z.k == id_of_node node) y g)

  sight-of : (node : ℕ) → SightOn (IsReadable app t) (IsInFolder app t) (Its app t) (Reads app t) (sight_on t c node)
  sight-of node =
      seen-on app t a node (sight_on t c node)
      (subst (λ (who : Who). SightHeld (Reads app t) (Its app t) (place_of t who (naming_on c node) (temp_on c node) node)) (sym named) (node-seen app t (naming_on c node) (temp_on c node) (here node) node)) (sound node)

  temp-of : (d : Document) → Reads app t d → (view : ℕ) (name : List ℕ) (o : Option OwnTemp) → found_temp c.temps view d.id name ≡ o → TempAt (IsReadable app t) o
  temp-of d h view name None e = tt
  temp-of d h view name (Some x) e =
      let called : is_called view d.id name x ≡ true = found_passes (is_called view d.id name) c.temps x e in
      let same : x.temp.document.number ≡ d.id.number =
      nat_is x.temp.document.number d.id.number
      (second_of_both (x.temp.view == view) (x.temp.document.number == d.id.number) (first_of_both (x.temp.view == view && x.temp.document.number == d.id.number) (is_same x.temp.name name) called)) in
      temp-readable app t x.temp d (ap (document_of t.documents) same ∙ h.0) (placed (is_called view d.id name) x e) h

  temps-of : (d : Document) → Reads app t d → (view : ℕ) (name : List ℕ) → TempAt (IsReadable app t) (found_temp c.temps view d.id name)
  temps-of d h view name = temp-of d h view name (found_temp c.temps view d.id name) refl

  reads-of : (file : OpenFile) → reaches (reach_at t c.who) file ≡ true → file.strict ≡ true → has t (Who.App app) file.document.number Read ≡ true
  reads-of file h e = reads-now app t file (subst (λ (who : Who). reaches (reach_at t who) file ≡ true) named h) e

  abbrev Walks : NodeRequest → NodeOp → Type 0
  Walks r op = Along (ByDocument app t op) (IsOpen app t c.seat op) (node_walk (facts_of t c r.node) r op)

  abbrev Readable : List ℕ → Type 0
  Readable = IsReadable app t

  abbrev OpenFor : NodeOp → FileName → Type 0
  OpenFor op = IsOpen app t c.seat op

  walk-places : (r : NodeRequest) (op : NodeOp) → Walks r op
  walk-places r (NodeOp.Lookup name) = lookup-along Readable (OpenFor (NodeOp.Lookup name)) (IsInFolder app t) (Reads app t) (in-folder app t) (in-child app t) r c.namings c.temps temps-of name (sight_on t c r.node) (sight-of r.node)
  walk-places r (NodeOp.Forget count) = tt
  walk-places r (NodeOp.BatchForget nodes) = tt
  walk-places r (NodeOp.GetAttr flags fh) =
      get_attr-along Readable (OpenFor (NodeOp.GetAttr flags fh)) (IsInFolder app t) (Reads app t) (in-folder app t) (in-child app t) (reach_at t c.who) r flags (sight_on t c r.node) (handle_of t.handles c.seat fh) (sight-of r.node)
      (λ file is ok. record { fh = fh; file = file; handle = is; name_is = refl; opened_for = refl; strict = λ e f. reads-of file ok e })
  walk-places r (NodeOp.SetAttr valid fh size) =
      set_attr-along Readable (OpenFor (NodeOp.SetAttr valid fh size)) (IsInFolder app t) (Reads app t) (in-folder app t) (in-child app t) (reach_at t c.who) r (record { valid = valid; size = size; limit = t.limits.file_bytes }) (sight_on t c r.node) (handle_of t.handles c.seat fh) (sight-of r.node)
      (λ file is ok. record { fh = fh; file = file; handle = is; name_is = refl; opened_for = refl; strict = λ e f. reads-of file ok e })
  walk-places r (NodeOp.Open flags) = open-along Readable (OpenFor (NodeOp.Open flags)) (IsInFolder app t) (Reads app t) (in-folder app t) (in-child app t) r flags (sight_on t c r.node) _ (sight-of r.node)
  walk-places r (NodeOp.Create name flags) = create-along Readable (OpenFor (NodeOp.Create name flags)) (IsInFolder app t) (Reads app t) (in-folder app t) (in-child app t) r name flags (sight_on t c r.node) _ c.namings (temps_seen t c) (sight-of r.node)
  walk-places r (NodeOp.Read fh offset size) =
      read-along (λ path. ⊥) (OpenFor (NodeOp.Read fh offset size)) (reach_at t c.who) _ offset size (handle_of t.handles c.seat fh)
      (λ file is ok. record {
        fh = fh;
        file = file;
        handle = is;
        name_is = refl;
        opened_for = first_of_both file.read (reaches (reach_at t c.who) file) ok;
        strict = λ e f. reads-of file (second_of_both file.read (reaches (reach_at t c.who) file) ok) e;
      })
  walk-places r (NodeOp.Write fh offset content) =
      write-along (λ path. ⊥) (OpenFor (NodeOp.Write fh offset content)) (reach_at t c.who) t.limits.file_bytes offset content (handle_of t.handles c.seat fh)
      (λ file is ok.
      let writes : Bool = not file.strict || (reach_of (reach_at t c.who) file).write in
      record {
        fh = fh;
        file = file;
        handle = is;
        name_is = refl;
        opened_for = first_of_both file.write (reaches (reach_at t c.who) file && writes) ok;
        strict = λ e f. reads-of file (first_of_both (reaches (reach_at t c.who) file) writes (second_of_both file.write (reaches (reach_at t c.who) file && writes) ok)) e;
      })
  walk-places r (NodeOp.Flush fh) = flush-along Readable (OpenFor (NodeOp.Flush fh)) (handle_of t.handles c.seat fh)
  walk-places r (NodeOp.Fsync fh) =
      fsync-along (λ path. ⊥) (OpenFor (NodeOp.Fsync fh)) (handle_of t.handles c.seat fh)
      (λ file is ok. record { fh = fh; file = file; handle = is; name_is = refl; opened_for = refl; strict = λ e f. let no : false ≡ true = f in cc })
  walk-places r (NodeOp.Release fh) = release-along Readable (OpenFor (NodeOp.Release fh)) fh (handle_of t.handles c.seat fh)
  walk-places r NodeOp.OpenDir = open_dir-along Readable (OpenFor NodeOp.OpenDir) (IsInFolder app t) (Reads app t) (in-folder app t) (in-child app t) r (sight_on t c r.node) _ c.temps (sight-of r.node)
  walk-places r (NodeOp.ReadDir fh offset size) = read_dir-along Readable (OpenFor (NodeOp.ReadDir fh offset size)) offset size (handle_of t.handles c.seat fh)
  walk-places r (NodeOp.ReleaseDir fh) = release_dir-along Readable (OpenFor (NodeOp.ReleaseDir fh)) fh (handle_of t.handles c.seat fh)
  walk-places r (NodeOp.Access mask) = access-along Readable (OpenFor (NodeOp.Access mask)) (IsInFolder app t) (Reads app t) (in-folder app t) (in-child app t) mask (sight_on t c r.node) (sight-of r.node)
  walk-places r (NodeOp.Rename new_parent flags old_name new_name) =
      rename-along Readable (OpenFor (NodeOp.Rename new_parent flags old_name new_name)) (IsInFolder app t) (Reads app t) (in-folder app t) (in-child app t) (rename_call flags old_name new_name) c.temps temps-of (sight_on t c r.node) (sight_on t c new_parent)
      (sight-of r.node) (sight-of new_parent)
  walk-places r (NodeOp.Unlink name) = unlink-along Readable (OpenFor (NodeOp.Unlink name)) (IsInFolder app t) (Reads app t) (in-folder app t) (in-child app t) name c.temps (sight_on t c r.node) (sight-of r.node)

-- ---- in the state in which it is asked

pub all-weaker : {X : Type 0} (P Q : X → Type 0) → ((x : X) → P x → Q x) → (xs : List X) → AllByRecursion P xs → AllByRecursion Q xs
all-weaker P Q f [] h = tt
all-weaker P Q f (x ∷ xs) h = (f x h.0, all-weaker P Q f xs h.1)

module _ (app : List ℕ) (s : State) (c : Connection) (r : NodeRequest) where
  abbrev told : State
  told = all_told c.seat s

  readable-asked : (path : List ℕ) → IsReadable app told path → IsReadable app s path
  readable-asked path x = record { document = x.document; live = x.live; path_is = x.path_is; read = x.read }

  open-asked : (op : NodeOp) (name : FileName) → IsOpen app told c.seat op name → IsOpen app s c.seat op name
  open-asked op name x = record { fh = x.fh; file = x.file; handle = x.handle; name_is = x.name_is; opened_for = x.opened_for; strict = x.strict }

  path-asked : (op : NodeOp) (path : List ℕ) → ByDocument app told op path → IsReadable app s path
  path-asked (NodeOp.Read fh offset size) path h = absurd h
  path-asked (NodeOp.Write fh offset content) path h = absurd h
  path-asked (NodeOp.Fsync fh) path h = absurd h
  path-asked op path h = readable-asked path h

  name-asked : (op : NodeOp) (name : FileName) → ByDocument app told op name.path ⊎ IsOpen app told c.seat op name → MayAskFor app s c.seat op name
  name-asked (NodeOp.Read fh offset size) name (inl h) = absurd h
  name-asked (NodeOp.Read fh offset size) name (inr h) = open-asked (NodeOp.Read fh offset size) name h
  name-asked (NodeOp.Write fh offset content) name (inl h) = absurd h
  name-asked (NodeOp.Write fh offset content) name (inr h) = open-asked (NodeOp.Write fh offset content) name h
  name-asked (NodeOp.Fsync fh) name (inl h) = absurd h
  name-asked (NodeOp.Fsync fh) name (inr h) = open-asked (NodeOp.Fsync fh) name h
  name-asked op name (inl h) = inl (readable-asked name.path h)
  name-asked op name (inr h) = inr (open-asked op name h)

  may-ask : (place : Target) → May (ByDocument app told r.op) (IsOpen app told c.seat r.op) place → MayAsk app s c.seat (Request.Node r) place
  may-ask (AtPath path) h = path-asked r.op path h
  may-ask (Named name) h = name-asked r.op name h

  pub node-places : c.who ≡ Who.App app → (a : Asking) → ((node : ℕ) → IsSoundSight a node (sight_on told c node)) → ArePlaced told c → (looks : List Look) → AllByRecursion (MayAsk app s c.seat (Request.Node r)) (places_along (walk_on_node told c r) looks)
  node-places named a sound placed looks =
      all-weaker (May (ByDocument app told r.op) (IsOpen app told c.seat r.op)) (MayAsk app s c.seat (Request.Node r)) may-ask (places_along (walk_on_node told c r) looks)
      (along-places (ByDocument app told r.op) (IsOpen app told c.seat r.op) (walk_on_node told c r) (walk-places app told c named a sound placed r r.op) looks)
