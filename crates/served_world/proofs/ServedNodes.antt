-- A request of the application itself on a node, over any tree: its own machine gives the view after, and a reply to
-- which the portal's is alike. What the tree has is of no account but for the bytes that a READ shows.
use Rattle.std.proofs.Common.{◌≡◌, ◌≤◌, ℕ, nat_lt, List, [], ◌∷◌, ◌++◌, drop, length, Bool, true, false, not, cond, Option, Some, None, refl, sym, ap, subst, ◌∙◌, arith}
use Rattle.std.specs.List.{filter, flat_map}
use Rattle.std.proofs.lemmas.List.{length-map, length-take}
use Rattle.portal_base.specs.FileChanges.{bytes_from, cut_to, overlaid}
use Rattle.portal_base.specs.declared.files.FileName.{FileName}
use Rattle.portal_base.specs.declared.files.ChildName.{ChildName}
use Rattle.portal_base.specs.declared.files.Look.{Look}
use Rattle.portal_base.specs.declared.who.Who.{Who}
use Rattle.portal_model.specs.declared.entry.Given.{Given}
use Rattle.portal_model.specs.declared.handle.Handle.{Handle}
use Rattle.portal_model.specs.declared.reply.Answer.{Answer}
use Rattle.portal_model.specs.declared.reply.Code.TheVariants as Code
use Rattle.portal_model.specs.declared.reply.NodeAnswer.TheVariants as NodeAnswer
use Rattle.portal_model.specs.declared.reply.Reply.{Reply}
use Rattle.portal_model.specs.declared.request.NodeOp.{NodeOp}
use Rattle.portal_model.specs.declared.request.NodeRequest.{NodeRequest}
use Rattle.portal_model.specs.declared.request.Request.{Request}
use Rattle.portal_model.specs.declared.state.Connection.{Connection}
use Rattle.portal_model.specs.Alike.{Alike, NodeAlike, ReadsAlike}
use Rattle.portal_model.specs.Bus.{is_tree, moment_given}
use Rattle.portal_model.specs.Content.{Content, OfFile}
use Rattle.portal_model.specs.Errno.{eacces, ebadf, einval, enoent}
use Rattle.portal_model.specs.History.{made_by}
use Rattle.portal_model.specs.Lawful.{LawfulOnNode}
use Rattle.portal_model.specs.Node.{temps_seen, NodeFacts, bytes_named, facts_of, node_answer, node_done, node_walk, settled_on_node, walk_on_node}
use Rattle.portal_model.specs.NodeVerdict.{FileChange, FilesStay, Writes, Resizes, Creates, Adds, Stands, HandleChange, HandlesStay, Opens, Closes, NodeDoing, NodeVerdict, Errs, Yields, errs, errs_if, tells, NamesStay}
use Rattle.portal_model.specs.Place.{place_of, reach_at, naming_on, sight_on, temp_on}
use Rattle.portal_model.specs.Reach.{Reaching, may_read_now, open_file_of}
use Rattle.portal_model.specs.Read.{read, read_limit}
use Rattle.portal_model.specs.State.{State, connection_of, handles_of, held_of, is_app}
use Rattle.portal_model.specs.Step.{all_told, is_mount, mount_of, node_step, with_signals}
use Rattle.portal_model.specs.Valid.{Valid}
use Rattle.portal_model.specs.Walk.{Walk, Ends, Uses, generation_reached, walked_with}
use Rattle.app_world.specs.Effect.{Bytes, Turned}
use Rattle.app_world.specs.Laws.{asks}
use Rattle.app_world.specs.Node.{bytes_at, file_effects, first_of, has_bytes, has_file, own_effects, own_facts, own_place, own_node_done, own_settled_on_node, own_walk, own_connections_then, with_handles}
use Rattle.app_world.specs.Shown.{bytes_in, own_bytes, own_file}
use Rattle.app_world.specs.View.{AppView, HeldDocument, OwnConnection, found_connection, held_documents, is_held, knows, own_connection, own_connections, own_handle, prune, view}
use Rattle.app_world.specs.World.{own_mount_of}
use Rattle.app_world.proofs.HandleChangeLaws.{connections-then, handle-found}
use Rattle.app_world.proofs.NodeLaws.{temps-alike, told_temps}
use Rattle.app_world.proofs.PlaceLaws.{own_place-is, own_reach-is}
use Rattle.app_world.proofs.ViewLaws.{is_app-named, own-some, own_unsent, still_held, view-told}
use Rattle.served_world.specs.ServedItem.{bare, items_of_effect}
use Rattle.served_world.specs.ServedOwn.{ServedOwn, served_own}
use Rattle.served_world.specs.ServedWorld.{served_node_answer, served_node_step}
use Rattle.served_world.proofs.BareBuses.{bare_answer}
use Rattle.served_world.proofs.BareViews.{all-bare, held-twice}

-- ---- a change of a file is told by nothing

at-told : (v : AppView) (name : FileName) (bytes : List ℕ) (now : ℕ) → flat_map items_of_effect (bytes_at v name bytes now) ≡ []
at-told v name bytes now = elim (has_file v name) as (λ b. flat_map items_of_effect (cond b (has_bytes name bytes now ∷ []) []) ≡ []) [ true ↦ refl | false ↦ refl ]

pub bytes-told : (v : AppView) (file : FileName → Content) (change : FileChange) → flat_map items_of_effect (file_effects v file change) ≡ []
bytes-told v file FilesStay = refl
bytes-told v file (Writes name offset [] now) = refl
bytes-told v file (Writes name offset (b ∷ bs) now) = at-told v name (overlaid (bytes_in (file name)) offset (b ∷ bs)) now
bytes-told v file (Resizes name size now) = at-told v name (cut_to size (bytes_in (file name))) now
bytes-told v file (Creates path now) = elim (knows v path) as (λ b. flat_map items_of_effect (cond b (has_bytes (first_of path) [] now ∷ []) []) ≡ []) [ true ↦ refl | false ↦ refl ]
bytes-told v file (Adds name now) = refl
bytes-told v file (Stands name) = elim (knows v name.path) as (λ b. flat_map items_of_effect (cond b (Turned name.path name.generation (file name) ∷ []) []) ≡ []) [ true ↦ refl | false ↦ refl ]

pub own-told : (v : AppView) (change : FileChange) → flat_map items_of_effect (own_effects v change) ≡ []
own-told v (Adds name now) = refl
own-told v FilesStay = refl
own-told v (Writes name offset content now) = bytes-told v (own_file v) (Writes name offset content now)
own-told v (Resizes name size now) = bytes-told v (own_file v) (Resizes name size now)
own-told v (Creates path now) = bytes-told v (own_file v) (Creates path now)
own-told v (Stands name) = bytes-told v (own_file v) (Stands name)

shown-within : (bytes : List ℕ) (offset size : ℕ) → length (bytes_from bytes offset size) ≤ size
shown-within bytes offset size = let h = length-take size (drop offset bytes) in omega arith

-- ---- a READ, by what it finds

abbrev reading : Bool → Bool → Bool → FileName → List ℕ → Walk NodeVerdict
reading long closed barred name found =
    errs_if long einval (errs_if closed ebadf (errs_if barred eacces (Ends (Uses name) (λ now. tells (NodeAnswer.Content found)) (Errs enoent))))

module _ (app : List ℕ) (t : State) (c : Connection) where
  abbrev v : AppView
  v = view t app

  abbrev mine : OwnConnection
  mine = own_connection app t.handles c

  abbrev docs : List HeldDocument
  docs = held_documents (held_of t.rights app) t.documents

  -- ---- the view after

  -- the path of a file that is opened is bare of what is there
  handles-bare : (change : HandleChange) → bare (with_handles change (bare v)) ≡ bare v
  handles-bare HandlesStay = refl
  handles-bare (Opens (Handle.File name node document strict read write)) = refl
  handles-bare (Opens (Handle.Folder node names)) = refl
  handles-bare (Closes fh) = refl

  same-documents : (change : HandleChange) → (with_handles change (bare v)).documents ≡ v.documents
  same-documents change = ap (λ (x : AppView). x.documents) (handles-bare change)

  done-bare : (d : NodeDoing) → bare (own_node_done (bare v) mine d) ≡ bare (view (node_done t c d) app)
  done-bare d =
      all-bare (own_effects (bare v) d.file) (prune (record (with_handles d.handle (bare v)) { connections = own_connections_then mine d v.connections })) (held-twice (with_handles d.handle (bare v)).documents) (own-told (bare v) d.file)
      ∙ (λ i. record (handles-bare d.handle i) {
        documents = (ap (filter is_held) (same-documents d.handle) ∙ still_held (held_of t.rights app) t.documents) i;
        connections = sym (connections-then app c t.handles d t.connections) i;
      })

  pub settled-bare : (o : Option NodeVerdict) → bare_answer (own_settled_on_node (bare v) mine o) ≡ (bare (view (settled_on_node t c o).0 app), (settled_on_node t c o).1)
  settled-bare None = refl
  settled-bare (Some (Errs errno)) = refl
  settled-bare (Some (Yields d)) = λ i. (done-bare d i, Answer.Node d.answer)

  -- ---- the answer

  abbrev SeenBy : (Answer → Answer → Type 0) → AppView × Answer → State × Answer → Type 0
  SeenBy alike own done = (bare own.0 ≡ bare (view done.0 app)) × alike own.1 done.1

  read-found : (size : ℕ) (long closed barred : Bool) (name : FileName) (mine_found found : List ℕ) → length found ≤ size → (now : ℕ) (listed : Option (List ChildName)) (looks : List Look) (failed : Bool) →
      SeenBy (ReadsAlike size) (own_settled_on_node (bare v) mine (walked_with (reading long closed barred name mine_found) now listed looks failed)) (settled_on_node t c (walked_with (reading long closed barred name found) now listed looks failed))
  read-found size true closed barred name mine_found found h now listed looks failed = (refl, refl)
  read-found size false true barred name mine_found found h now listed looks failed = (refl, refl)
  read-found size false false true name mine_found found h now listed looks failed = (refl, refl)
  read-found size false false false name mine_found found h now listed [] true = (refl, refl)
  read-found size false false false name mine_found found h now listed [] false =
      (done-bare (record { answer = NodeAnswer.Content found; file = FilesStay; handle = HandlesStay; names = NamesStay }), (found, refl, h))
  read-found size false false false name mine_found found h now listed (look ∷ looks) failed = (refl, refl)

  read-refused : (size errno : ℕ) (long : Bool) (now : ℕ) (listed : Option (List ChildName)) (looks : List Look) (failed : Bool) →
      SeenBy (ReadsAlike size) (own_settled_on_node (bare v) mine (walked_with (errs_if long einval (errs errno)) now listed looks failed)) (settled_on_node t c (walked_with (errs_if long einval (errs errno)) now listed looks failed))
  read-refused size errno true now listed looks failed = (refl, refl)
  read-refused size errno false now listed looks failed = (refl, refl)

  read-seen : (reach : Reaching) (bytes more : FileName → List ℕ) (offset size : ℕ) (handle : Option Handle) (now : ℕ) (listed : Option (List ChildName)) (looks : List Look) (failed : Bool) →
      SeenBy (ReadsAlike size) (own_settled_on_node (bare v) mine (walked_with (read reach bytes offset size handle) now listed looks failed)) (settled_on_node t c (walked_with (read reach more offset size handle) now listed looks failed))
  read-seen reach bytes more offset size None now listed looks failed = read-refused size ebadf (nat_lt read_limit size) now listed looks failed
  read-seen reach bytes more offset size (Some (Handle.File name node document strict reads writes)) now listed looks failed =
      read-found size (nat_lt read_limit size) (not reads) (not (may_read_now reach (open_file_of name node document strict reads writes))) name (bytes_from (bytes name) offset size) (bytes_from (more name) offset size) (shown-within (more name) offset size) now listed looks failed
  read-seen reach bytes more offset size (Some (Handle.Folder node names)) now listed looks failed = read-refused size ebadf (nat_lt read_limit size) now listed looks failed

  same-seen : (o : Option NodeVerdict) → SeenBy (λ stepped given. given ≡ stepped) (own_settled_on_node (bare v) mine o) (settled_on_node t c o)
  same-seen o = (ap (λ (x : AppView × Answer). x.0) (settled-bare o), sym (ap (λ (x : AppView × Answer). x.1) (settled-bare o)))

  walk-seen : (f : NodeFacts) (bytes : FileName → List ℕ) (r : NodeRequest) (op : NodeOp) (now : ℕ) (listed : Option (List ChildName)) (looks : List Look) (failed : Bool) →
      SeenBy (NodeAlike op) (own_settled_on_node (bare v) mine (walked_with (node_walk (record f { bytes = bytes }) r op) now listed looks failed)) (settled_on_node t c (walked_with (node_walk f r op) now listed looks failed))
  walk-seen f bytes r (NodeOp.Read fh offset size) now listed looks failed = read-seen f.reach bytes f.bytes offset size (f.handle fh) now listed looks failed
  walk-seen f bytes r op now listed looks failed = same-seen (walked_with (node_walk f r op) now listed looks failed)

  -- ---- what it depends on

  module _ (r : NodeRequest) (named : c.who ≡ Who.App app) where
    place-bare : (node : ℕ) → own_place (bare v) mine node ≡ sight_on t c node
    place-bare node = own_place-is app t (naming_on c node) (temp_on c node) node ∙ ap (λ (who : Who). place_of t who (naming_on c node) (temp_on c node) node) (sym named)

    -- but for the bytes, and the generation of a new file
    abbrev nearly : Option ℕ → NodeFacts
    nearly g = record (facts_of t c r.node) { temps = told_temps (temps_seen t c) g }

    pub facts-bare : (g : Option ℕ) → own_facts (bare v) mine g r.node ≡ record (nearly g) { bytes = own_bytes (bare v) }
    facts-bare g = λ i. record {
      sight = place-bare r.node i;
      sight_of = λ node. place-bare node i;
      handle = λ fh. handle-found t.handles c.seat fh i;
      reach = λ node number. (own_reach-is app t node number ∙ ap (λ (who : Who). reach_at t who node number) (sym named)) i;
      bytes = own_bytes (bare v);
      room = record { opens = c.opens; full = not (nat_lt (length-map (handles_of t.handles c.seat) own_handle i) t.limits.handles) };
      namings = c.namings;
      temps = told_temps (temps_seen t c) g;
      file_limit = t.limits.file_bytes;
    }

    module _ (g : Option ℕ) (looks : List Look) (reached : g ≡ generation_reached (walk_on_node t c r) looks) where
      -- it comes to the same but for the bytes that a READ shows
      pub node-seen : (now : ℕ) (listed : Option (List ChildName)) (failed : Bool) →
          SeenBy (NodeAlike r.op) (own_settled_on_node (bare v) mine (walked_with (own_walk (bare v) mine g r) now listed looks failed)) (settled_on_node t c (walked_with (walk_on_node t c r) now listed looks failed))
      node-seen now listed failed =
          subst (λ (w : Walk NodeVerdict). SeenBy (NodeAlike r.op) (own_settled_on_node (bare v) mine (walked_with (own_walk (bare v) mine g r) now listed looks failed)) (settled_on_node t c (walked_with w now listed looks failed)))
          (temps-alike (facts_of t c r.node) g looks r r.op reached)
          (subst (λ (f : NodeFacts). SeenBy (NodeAlike r.op) (own_settled_on_node (bare v) mine (walked_with (node_walk f r r.op) now listed looks failed)) (settled_on_node t c (walked_with (node_walk (nearly g) r r.op) now listed looks failed)))
          (sym (facts-bare g)) (walk-seen (nearly g) (own_bytes (bare v)) r r.op now listed looks failed))

      -- and to the very same where no file is told
      pub walk-untold : t.files ≡ [] → t.hidden ≡ [] → own_walk (bare v) mine g r ≡ walk_on_node t c r
      walk-untold e h =
          ap (λ (f : NodeFacts). node_walk f r r.op) (facts-bare g ∙ (λ i. record (nearly g) { bytes = bytes_named (sym h i ++ sym e i) }))
          ∙ temps-alike (facts_of t c r.node) g looks r r.op reached

-- ---- the step

nothing-here : (op : NodeOp) → NodeAlike op (Answer.Refused Code.NotHere) (Answer.Refused Code.NotHere)
nothing-here (NodeOp.Read fh offset size) = refl
nothing-here op = refl

-- a step that the application makes, as it sees it
abbrev pub IsSeen : List ℕ → Request → AppView × Reply → State × Reply → Type 0
IsSeen app request own done = (bare own.0 ≡ bare (view done.0 app)) × Alike false request own.1 done.1

module _ (app : List ℕ) (s : State) (seat : ℕ) (r : NodeRequest) (given : Given) (valid : Valid s) where
  abbrev own : ServedOwn
  own = served_own s (asks seat (Request.Node r) given)

  module _ (c : Connection) (e : connection_of s.connections seat ≡ Some c) (h : is_app app c.who ≡ true) where
    abbrev told : State
    told = all_told c.seat s

    abbrev o : OwnConnection
    o = own_connection app s.handles c

    mount_seen : (m : Bool) → LawfulOnNode s r given (cond m (Some c) None) → IsSeen app (Request.Node r) (served_node_step (bare (view s app)) r own (cond m (Some o) None)) (node_step s r given (cond m (Some c) None))
    mount_seen false l = (refl, (refl, nothing-here r.op))
    mount_seen true l =
        let p = subst (λ (x : AppView). (bare (served_node_answer (bare x) o r own).0 ≡ bare (view (node_answer told c r given).0 app)) × NodeAlike r.op (served_node_answer (bare x) o r own).1 (node_answer told c r given).1) (view-told app s c.seat)
        (node-seen app told c r (is_app-named app c.who h) given.generation given.looks l.generation (moment_given given.now) given.listed (is_tree given.fault)) in
        (p.0, (own_unsent app s seat c valid e h, p.1))

    mount_untold : s.files ≡ [] → s.hidden ≡ [] → (m : Bool) → LawfulOnNode s r given (cond m (Some c) None) → (served_node_step (bare (view s app)) r own (cond m (Some o) None)).1 ≡ (node_step s r given (cond m (Some c) None)).1
    mount_untold f g false l = refl
    mount_untold f g true l =
        let w : Walk NodeVerdict = walk_on_node told c r in
        (λ i. (with_signals [] (served_node_answer (bare (sym (view-told app s c.seat) i)) o r own)).1)
        ∙ (ap (λ (x : Walk NodeVerdict). (with_signals [] (own_settled_on_node (bare (view told app)) o (walked_with x (moment_given given.now) given.listed given.looks (is_tree given.fault)))).1) (walk-untold app told c r (is_app-named app c.who h) given.generation given.looks l.generation f g)
        ∙ (ap (λ (x : AppView × Answer). (with_signals [] x).1) (settled-bare app told c (walked_with w (moment_given given.now) given.listed given.looks (is_tree given.fault)))
        ∙ (λ i. (with_signals (sym (own_unsent app s seat c valid e h) i) (node_answer told c r given)).1)))

  pub node-own-seen : (found : Option Connection) → connection_of s.connections seat ≡ found → made_by app found (Request.Node r) ≡ true → LawfulOnNode s r given (mount_of found) →
      IsSeen app (Request.Node r) (served_node_step (bare (view s app)) r own (own_mount_of (found_connection (own_connections app s.handles s.connections) seat))) (node_step s r given (mount_of found))
  node-own-seen None e h l = let x : false ≡ true = h in cc
  node-own-seen (Some c) e h l =
      subst (λ (x : Option OwnConnection). IsSeen app (Request.Node r) (served_node_step (bare (view s app)) r own (own_mount_of x)) (node_step s r given (mount_of (Some c)))) (sym (own-some app s.handles seat s.connections c e h))
      (mount_seen c e h (is_mount c.kind) l)

  pub node-own-untold : (found : Option Connection) → connection_of s.connections seat ≡ found → made_by app found (Request.Node r) ≡ true → s.files ≡ [] → s.hidden ≡ [] → LawfulOnNode s r given (mount_of found) →
      (served_node_step (bare (view s app)) r own (own_mount_of (found_connection (own_connections app s.handles s.connections) seat))).1 ≡ (node_step s r given (mount_of found)).1
  node-own-untold None e h f g l = let x : false ≡ true = h in cc
  node-own-untold (Some c) e h f g l =
      ap (λ (x : Option OwnConnection). (served_node_step (bare (view s app)) r own (own_mount_of x)).1) (own-some app s.handles seat s.connections c e h)
      ∙ mount_untold c e h f g (is_mount c.kind) l
