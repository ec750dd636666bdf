-- A request on a node tells the file that it changes, once, if the view has that file or tells what is at its path.
use Rattle.std.proofs.Common.{◌≡◌, ℕ, List, [], ◌∷◌, Bool, true, false, ◌&&◌, ◌||◌, cond, Option, Some, None, is_some, refl, subst, ◌∙◌}
use Rattle.file_generations.specs.Generations.{Held, all_held, put_present}
use Rattle.portal_base.specs.FileChanges.{cut_to, new_file, overlaid}
use Rattle.portal_base.specs.declared.files.File.{File}
use Rattle.portal_base.specs.declared.files.FileName.{FileName}
use Rattle.portal_model.specs.declared.entry.Given.{Given}
use Rattle.portal_model.specs.declared.request.NodeRequest.{NodeRequest}
use Rattle.portal_model.specs.declared.request.Request.{Request}
use Rattle.portal_model.specs.declared.state.Connection.{Connection}
use Rattle.portal_model.specs.Bus.{is_tree, moment_given}
use Rattle.portal_model.specs.Content.{OfFile, content_at}
use Rattle.portal_model.specs.Lawful.{Lawful, LawfulOnNode}
use Rattle.portal_model.specs.Node.{facts_of, files_after, node_given, settled_on_node, walk_on_node}
use Rattle.portal_model.specs.NodeOutside.{LawfulNode}
use Rattle.portal_model.specs.NodeVerdict.{FileChange, FilesStay, Writes, Resizes, Creates, Adds, Stands, NodeVerdict, Errs, Yields}
use Rattle.portal_model.specs.State.{State, connection_of, held_in, held_of}
use Rattle.portal_model.specs.Step.{after, all_told, mount_of, node_step}
use Rattle.portal_model.specs.Valid.{Valid}
use Rattle.portal_model.specs.Walk.{Gives}
use Rattle.portal_model.proofs.NodeWalks.{IfMet, on-given}
use Rattle.app_world.specs.Effect.{Turned}
use Rattle.app_world.specs.Laws.{asks}
use Rattle.app_world.specs.Node.{bytes_at, content_named, file_effects, first_of, has_bytes, has_file, made_at, node_touch, turned_at, verdict_touch}
use Rattle.app_world.specs.Touched.{is_done}
use Rattle.app_world.specs.Shown.{covering, is_file, of_generation, own_content, shown, shown_below, shown_file}
use Rattle.app_world.specs.View.{AppView, NamedFile, PathBelow, PathContent, covers, folder_paths, found_content, found_named, held_documents, is_at_or_below, knows, named_paths, names, own_connections, path_content, view}
use Rattle.app_world.specs.World.{touch}
use Rattle.app_world.proofs.ContentLaws.{contents-found}
use Rattle.app_world.proofs.HeldFiles.{SoundTree}
use Rattle.app_world.proofs.ShownLaws.{IsFoundSo, IsOneOf, covered-by-one}
use Rattle.app_world.proofs.ViewedNames.{tree-sound}
use Rattle.app_world.proofs.WalksAlong.{AnyCall, AnyName, AnyPath, AnyTarget, CanBe, CanChange, all-along, given-can}
use Rattle.file_laws.specs.Touches.{AreBytesOf, Changed, OfName, AtPath, Present, change_of, change_on, change_told, changed_if, if_seen, tells_of_path}
use Rattle.file_laws.proofs.ChangedContents.{IsThere, made-now, resized-now, turned-now, written-now}
use Rattle.file_laws.proofs.ChangedPaths.{ChangesTo, changed_by, walk-change}

-- ---- what is done can be done

given-told : (t : State) (c : Connection) (r : NodeRequest) (given : Given) → LawfulNode t c r given → t.told ≡ true → Gives (Some (held_in t)) (walk_on_node t c r) given.looks (is_tree given.fault)
given-told t c r given l told = subst (λ (b : Bool). Gives (cond b (Some (held_in t)) None) (walk_on_node t c r) given.looks (is_tree given.fault)) told l.looks

can-be : (t : State) (c : Connection) (r : NodeRequest) (given : Given) → LawfulNode t c r given → t.told ≡ true → CanBe (held_in t) AnyName AnyName (node_given (walk_on_node t c r) given)
can-be t c r given l told =
    given-can (held_in t) AnyName AnyName AnyTarget AnyCall AnyPath (walk_on_node t c r) (moment_given given.now) given.listed given.looks (is_tree given.fault) (given-told t c r given l told)
    (all-along (held_in t) AnyName (facts_of t c r.node) r r.op (λ path. tt))

-- and changes what the law says
changes-it : (t : State) (c : Connection) (r : NodeRequest) (given : Given) → LawfulNode t c r given → t.told ≡ true → IfMet (Some (held_in t)) (ChangesTo (change_of t.files (facts_of t c r.node) r.op)) (node_given (walk_on_node t c r) given)
changes-it t c r given l told =
    on-given (Some (held_in t)) (ChangesTo (change_of t.files (facts_of t c r.node) r.op)) (walk_on_node t c r) (moment_given given.now) given.listed given.looks (is_tree given.fault) (given-told t c r given l told)
    (walk-change (held_in t) (facts_of t c r.node) r r.op)

-- ---- what is told

-- a view that has a file has it by its name, or tells of its path
module _ (v : AppView) (name : FileName) where
  in-folder : (b : Option PathBelow) → is_file (of_generation name.generation (shown_below name.path b)) ≡ true → is_some b ≡ true
  in-folder None e = e
  in-folder (Some b) e = refl

  at-path : (c : Option PathContent) → is_file (of_generation name.generation (shown v.below name.path c)) ≡ true → (is_some c || is_some (covering v.below name.path)) ≡ true
  at-path None e = in-folder (covering v.below name.path) e
  at-path (Some c) e = refl

  by-name : (o : Option NamedFile) → is_file (shown_file name.generation (own_content v name.path) o) ≡ true → (is_some o || tells_of_path v name.path) ≡ true
  by-name None e = at-path (found_content v.contents name.path) e
  by-name (Some f) e = refl

  has-there : has_file v name ≡ true → (is_some (found_named v.files name) || tells_of_path v name.path) ≡ true
  has-there e = by-name (found_named v.files name) e

module _ (app : List ℕ) (s : State) where
  abbrev v : AppView
  v = view s app

  abbrev paths : List (List ℕ)
  paths = named_paths (held_documents (held_of s.rights app) s.documents) (own_connections app s.handles s.connections)

  is-found : (path : List ℕ) (o : Option PathBelow) → IsFoundSo (IsOneOf s.files (folder_paths v.documents)) (λ b. is_at_or_below b.path path) o → is_some o ≡ true
  is-found path None h = absurd h
  is-found path (Some b) h = refl

  -- it is found by its name, or covered by a folder
  by_names : (path : List ℕ) (a b : Bool) → covers v path ≡ b → (a || b) ≡ true → (is_some (cond a (Some (path_content s.files path)) None) || is_some (covering v.below path)) ≡ true
  by_names path true b f e = refl
  by_names path false b f e = is-found path (covering v.below path) (covered-by-one s.files (folder_paths v.documents) path (f ∙ e))

  knows-there : (path : List ℕ) → knows v path ≡ true → tells_of_path v path ≡ true
  knows-there path e = (λ i. is_some (contents-found s.files path paths i) || is_some (covering v.below path)) ∙ by_names path (names v path) (covers v path) refl e

  -- a file of a name
  name-told : (then : Held) (name : FileName) (bytes : List ℕ) (now : ℕ) → content_named (all_held then) name ≡ OfFile name.generation bytes now → AreBytesOf v then (if_seen v (Some (OfName name))) (bytes_at v name bytes now)
  name-told then name bytes now h = by-view (has_file v name) refl
    where
      by-view : (b : Bool) → has_file v name ≡ b → AreBytesOf v then (changed_if b (Some (OfName name))) (cond b (has_bytes name bytes now ∷ []) [])
      by-view true e = record { bytes = bytes; moment = now; told = refl; holds = h; there = has-there v name e }
      by-view false e = refl

  -- the first one of a path
  made-told : (then : Held) (path : List ℕ) (now : ℕ) → content_at then.present path ≡ OfFile 0 [] now → AreBytesOf v then (if_seen v (Some (AtPath path))) (made_at v path now)
  made-told then path now h = by-view (knows v path) refl
    where
      by-view : (b : Bool) → knows v path ≡ b → AreBytesOf v then (changed_if b (Some (AtPath path))) (cond b (has_bytes (first_of path) [] now ∷ []) [])
      by-view true e = record { moment = now; told = refl; holds = h; there = knows-there path e }
      by-view false e = refl

  -- one that stands at its path from now on
  turned-told : (held then : Held) (name : FileName) (i : IsThere held name) → content_at then.present name.path ≡ OfFile name.generation i.bytes i.moment → AreBytesOf v then (if_seen v (Some (Present name))) (turned_at v name (content_named (all_held held) name))
  turned-told held then name i h = by-view (knows v name.path) refl
    where
      by-view : (b : Bool) → knows v name.path ≡ b → AreBytesOf v then (changed_if b (Some (Present name))) (cond b (Turned name.path name.generation (content_named (all_held held) name) ∷ []) [])
      by-view true e = record { bytes = i.bytes; moment = i.moment; told = (λ k. Turned name.path name.generation (i.was k) ∷ []); holds = h; there = knows-there name.path e }
      by-view false e = refl

  change-told : SoundTree (held_in s) → (change : FileChange) → CanChange (held_in s) AnyName AnyName change →
      AreBytesOf v (files_after true change (held_in s)) (if_seen v (changed_by change)) (file_effects v (content_named (all_held (held_in s))) change)
  change-told sound FilesStay h = refl
  change-told sound (Writes name offset [] now) h = refl
  change-told sound (Writes name offset (b ∷ bs) now) h =
      name-told (files_after true (Writes name offset (b ∷ bs) now) (held_in s)) name _ now (written-now (held_in s) name h offset b bs now)
  change-told sound (Resizes name size now) h =
      name-told (files_after true (Resizes name size now) (held_in s)) name _ now (resized-now (held_in s) name h size now)
  change-told sound (Creates path now) h = made-told (put_present (new_file path now) (held_in s)) path now (made-now s.files path now h.0)
  change-told sound (Adds name now) h = refl
  change-told sound (Stands name) h =
      let there = turned-now (held_in s) sound name h.1 in
      turned-told (held_in s) (files_after true (Stands name) (held_in s)) name there there.stands

  verdict-told : (c : Connection) (change : Option Changed) (o : Option NodeVerdict) → SoundTree (held_in s) → (s.told ≡ true → IfMet (Some (held_in s)) (ChangesTo change) o) → (s.told ≡ true → CanBe (held_in s) AnyName AnyName o) →
      AreBytesOf v (held_in (settled_on_node (all_told c.seat s) c o).0) (changed_if (is_done (settled_on_node (all_told c.seat s) c o).1 && s.told) (if_seen v change))
      (cond (is_done (settled_on_node (all_told c.seat s) c o).1) (verdict_touch app s o) [])
  verdict-told c change None sound m h = refl
  verdict-told c change (Some (Errs errno)) sound m h = refl
  verdict-told c change (Some (Yields d)) sound m h = by-tree s.told refl
    where
      by-tree : (b : Bool) → s.told ≡ b → AreBytesOf v (files_after b d.file (held_in s)) (changed_if b (if_seen v change)) (cond b (file_effects v (content_named (all_held (held_in s))) d.file) [])
      by-tree true told =
          subst (λ (x : Option Changed). AreBytesOf v (files_after true d.file (held_in s)) (if_seen v x) (file_effects v (content_named (all_held (held_in s))) d.file)) (m told)
          (change-told sound d.file (h told).file)
      by-tree false told = refl

  mount-told : (seat : ℕ) (r : NodeRequest) (given : Given) (o : Option Connection) → mount_of (connection_of s.connections seat) ≡ o → Valid s → LawfulOnNode s r given o →
      AreBytesOf v (held_in (node_step s r given o).0) (changed_if (is_done (node_step s r given o).1.answer && s.told) (if_seen v (change_on s r o))) (cond (is_done (node_step s r given o).1.answer) (node_touch app s r given o) [])
  mount-told seat r given None e valid l = refl
  mount-told seat r given (Some c) e valid l =
      let t = all_told c.seat s in
      verdict-told c (change_of t.files (facts_of t c r.node) r.op) (node_given (walk_on_node t c r) given) (tree-sound app s valid) (changes-it t c r given l) (can-be t c r given l)

pub nodes-told : (app : List ℕ) (s : State) (seat : ℕ) (r : NodeRequest) (given : Given) → Valid s → Lawful s (asks seat (Request.Node r) given) →
    AreBytesOf (view s app) (held_in (after s (asks seat (Request.Node r) given))) (change_told app s seat r given) (touch app s (asks seat (Request.Node r) given))
nodes-told app s seat r given valid l = mount-told app s seat r given (mount_of (connection_of s.connections seat)) refl valid l.given
