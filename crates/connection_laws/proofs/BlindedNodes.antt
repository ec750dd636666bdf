-- A request on a node, to an application that is blind but to what it may read: it is answered the same.
use Rattle.std.proofs.Common.{◌≡◌, ℕ, ◌+◌, ◌-◌, ◌==◌, nat_lt, List, [], ◌∷◌, length, map, Bool, true, false, not, ◌&&◌, ◌||◌, cond, min, Option, Some, None, refl, ap, ◌∙◌, arith}
use Rattle.std.specs.List.{find, list_any}
use Rattle.std.proofs.lemmas.Bool.Decides.{nat_tests}
use Rattle.std.proofs.lemmas.List.{length-append, length-drop, length-replicate, length-take}
use Rattle.portal_base.specs.FileChanges.{cut_to, overlaid}
use Rattle.portal_base.specs.declared.files.FileName.{FileName}
use Rattle.portal_base.specs.declared.files.Look.{Look}
use Rattle.portal_base.specs.declared.names.doc_id.DocId.{DocId}
use Rattle.portal_model.specs.declared.handle.Handle.{Handle}
use Rattle.portal_model.specs.declared.naming.Naming.{Naming}
use Rattle.portal_model.specs.declared.place.Place.{Place}
use Rattle.portal_model.specs.declared.reply.Answer.{Answer}
use Rattle.portal_model.specs.declared.request.NodeOp.{NodeOp}
use Rattle.portal_model.specs.declared.request.NodeRequest.{NodeRequest}
use Rattle.portal_model.specs.declared.temporary.Temp.{Temp}
use Rattle.portal_model.specs.Bus.{is_tree, moment_given}
use Rattle.portal_model.specs.Content.{Content, look_of}
use Rattle.portal_model.specs.Errno.{eacces, ebadf, einval}
use Rattle.portal_model.specs.Node.{NodeFacts, node_walk}
use Rattle.portal_model.specs.Ordered.{put}
use Rattle.portal_model.specs.NodeVerdict.{FileChange, FilesStay, Writes, Resizes, Creates, Adds, Stands, HandleChange, HandlesStay, Opens, Closes, NodeDoing, NodeVerdict, Errs, Yields, errs_if}
use Rattle.portal_model.specs.Place.{id_of_node, place_named}
use Rattle.portal_model.specs.SeatNames.{naming_of, temp_of}
use Rattle.portal_model.specs.Reach.{Reaching, may_read_now, open_file_of}
use Rattle.portal_model.specs.Read.{read, read_limit, read_name}
use Rattle.portal_model.specs.Walk.{Walk, Answers, Looks, Ends, Lists, Target, AtPath, Named, LastCall, Uses, Changes, Makes, Freshens, Turns, walked_with}
use Rattle.portal_model.proofs.ListLookups.{is_same-refl}
use Rattle.app_world.specs.Effect.{Bytes, Turned, with_content, with_named}
use Rattle.app_world.specs.Node.{has_bytes, has_file, own_connections_then, own_effects, own_facts, own_handle_of, own_node_answer, own_node_done, own_node_given, own_place, own_reach, own_settled_on_node, own_sight_at, own_walk, with_handles}
use Rattle.app_world.specs.Own.{Own}
use Rattle.app_world.specs.Shown.{has_parent, is_file, is_folder_there, is_place, own_bytes, own_content, own_file, own_found, own_listed, own_looks, own_shown_at, succeeding}
use Rattle.app_world.specs.View.{AppView, OwnConnection, OwnHandle, ahead, found_connection, found_content, knows, prune}
use Rattle.connection_laws.specs.Blinded.{blind_at, blind_but, reads, reads_connection, reads_handle}
use Rattle.connection_laws.proofs.BlindedViews.{AllFit, apply_all-same, blind-same, blind-twice, blind_effect, connections-same, content-blind, file-blind, gained-blind, listed-blind, look-blind, own_bytes-long, own_bytes-seen, own_file-blind, own_file-fits, parent-blind, place-blind, seen_pair, there-blind, view-twice, with_named-blind}

-- ---- what is read is in sight

any-found : {X : Type 0} (p q : X → Bool) (xs : List X) (x : X) → find p xs ≡ Some x → q x ≡ true → list_any q xs ≡ true
any-found p q [] x e h = cc
any-found p q (y ∷ ys) x e h = grind (arith, any-found p q ys x)

any-option : (fh : ℕ) (q : Handle → Bool) (hs : List OwnHandle) (handle : Handle) → own_handle_of hs fh ≡ Some handle → q handle ≡ true → list_any (λ h. q h.handle) hs ≡ true
any-option fh q [] handle e h = cc
any-option fh q (y ∷ ys) handle e h = grind (arith, any-option fh q ys handle)

all-three : (x y z : Bool) → x ≡ true → y ≡ true → z ≡ true → (x && (y && z)) ≡ true
all-three true y z e f g = ap (λ (b : Bool). b && z) f ∙ g
all-three false y z e f g = e

pub itself : (generation : ℕ) → (generation == generation) ≡ true
itself generation = grind (arith, nat_tests)

-- what may be read by a handle has equal bytes
abbrev ReadAlike : Reaching → (FileName → List ℕ) → (FileName → List ℕ) → Option Handle → Type 0
ReadAlike reach bytes more None = Unit {0}
ReadAlike reach bytes more (Some (Handle.File name node document strict read write)) = may_read_now reach (open_file_of name node document strict read write) ≡ true → bytes name ≡ more name
ReadAlike reach bytes more (Some (Handle.Folder node entries)) = Unit {0}

read-alike : (reach : Reaching) (bytes more : FileName → List ℕ) (offset size : ℕ) (handle : Option Handle) → ReadAlike reach bytes more handle → read reach bytes offset size handle ≡ read reach more offset size handle
read-alike reach bytes more offset size None h = refl
read-alike reach bytes more offset size (Some (Handle.File name node document strict read write)) h =
    by_right (may_read_now reach (open_file_of name node document strict read write)) refl
  where
    by_right : (x : Bool) → may_read_now reach (open_file_of name node document strict read write) ≡ x →
        errs_if (nat_lt read_limit size) einval (errs_if (not read) ebadf (errs_if (not x) eacces (read_name bytes offset size name)))
        ≡ errs_if (nat_lt read_limit size) einval (errs_if (not read) ebadf (errs_if (not x) eacces (read_name more offset size name)))
    by_right true e = ap (λ (found : List ℕ). errs_if (nat_lt read_limit size) einval (errs_if (not read) ebadf (read_name (λ _. found) offset size name))) (h e)
    by_right false e = refl
read-alike reach bytes more offset size (Some (Handle.Folder node entries)) h = refl

walk-alike : (f : NodeFacts) (bytes : FileName → List ℕ) (r : NodeRequest) (op : NodeOp) → ((fh : ℕ) → ReadAlike f.reach bytes f.bytes (f.handle fh)) → node_walk (record f { bytes = bytes }) r op ≡ node_walk f r op
walk-alike f bytes r (NodeOp.Read fh offset size) h = read-alike f.reach bytes f.bytes offset size (f.handle fh) (h fh)
walk-alike f bytes r op h = refl

-- ---- how long a file is after a change

cut-long : (size : ℕ) (xs ys : List ℕ) → length xs ≡ length ys → length (cut_to size xs) ≡ length (cut_to size ys)
cut-long size xs ys e =
    let first : length (cut_to size xs) ≡ min size (length xs) + (size - length xs) = grind (arith, length-append, length-take, length-replicate) in
    let second : length (cut_to size ys) ≡ min size (length ys) + (size - length ys) = grind (arith, length-append, length-take, length-replicate) in
    cc

overlaid-long : (offset : ℕ) (content xs ys : List ℕ) → length xs ≡ length ys → length (overlaid xs offset content) ≡ length (overlaid ys offset content)
overlaid-long offset content xs ys e =
    let cut : length (cut_to offset xs) ≡ length (cut_to offset ys) = cut-long offset xs ys e in
    let first : length (overlaid xs offset content) ≡ length (cut_to offset xs) + (length content + (length xs - (offset + length content))) = grind (arith, length-append, length-drop) in
    let second : length (overlaid ys offset content) ≡ length (cut_to offset ys) + (length content + (length ys - (offset + length content))) = grind (arith, length-append, length-drop) in
    cc

module _ (sees : FileName → Bool) (v : AppView) where
  abbrev b : AppView
  b = blind_but sees v

  -- ---- looks

  shown-at : (target : Target) → own_shown_at b target ≡ own_shown_at v target
  shown-at (AtPath path) = ap look_of (content-blind sees v path) ∙ look-blind sees path (own_content v path)
  shown-at (Named name) = ap look_of (own_file-blind sees v name) ∙ look-blind sees name.path (own_file v name)

  found-at : (call : LastCall) → own_found b call ≡ own_found v call
  found-at (Uses name) = ap is_file (own_file-blind sees v name) ∙ file-blind sees name.path (own_file v name)
  found-at (Changes name) = ap is_file (own_file-blind sees v name) ∙ file-blind sees name.path (own_file v name)
  found-at (Makes path) = ap is_place (content-blind sees v path) ∙ place-blind sees path (own_content v path)
  found-at (Freshens name) = ap has_parent (content-blind sees v name.path) ∙ parent-blind sees name.path (own_content v name.path)
  found-at (Turns name) = λ i.
      (ap is_file (own_file-blind sees v name) ∙ file-blind sees name.path (own_file v name)) i
      && not ((ap is_folder_there (content-blind sees v name.path) ∙ there-blind sees name.path (own_content v name.path)) i)

  looks-blind : (w : Walk NodeVerdict) → own_looks b w ≡ own_looks v w
  looks-blind (Answers x) = refl
  looks-blind (Looks target next) = (λ i. shown-at target i ∷ own_looks b (next (shown-at target i))) ∙ ap (λ (ls : List Look). own_shown_at v target ∷ ls) (looks-blind (next (own_shown_at v target)))
  looks-blind (Ends call done missing) = ap (λ (x : Bool). cond x [] (Look.Missing ∷ [])) (found-at call)
  looks-blind (Lists path done missing) = refl

  listed-at : (w : Walk NodeVerdict) → own_listed b w ≡ own_listed v w
  listed-at (Answers x) = refl
  listed-at (Looks target next) = ap (λ (look : Look). own_listed b (next look)) (shown-at target) ∙ listed-at (next (own_shown_at v target))
  listed-at (Ends call done missing) = refl
  listed-at (Lists path done missing) = listed-blind sees v.below path

  -- ---- the walk

  sight-at : (naming : Option Naming) (temp : Option Temp) (p : Option Place) → own_sight_at b naming temp p ≡ own_sight_at v naming temp p
  sight-at naming temp None = refl
  sight-at naming temp (Some (Place.Root view)) = refl
  sight-at naming temp (Some Place.ByApp) = refl
  sight-at naming temp (Some (Place.Folder view id)) = refl
  sight-at naming temp (Some (Place.File view id)) = refl
  sight-at naming temp (Some (Place.Named view k)) = refl
  sight-at naming temp (Some (Place.Temporary view k)) = refl

  place-at : (c : OwnConnection) (node : ℕ) → own_place b c node ≡ own_place v c node
  place-at c node = sight-at (naming_of c.namings (id_of_node node)) (temp_of c.temps (id_of_node node)) (place_named node)

  facts-are : (c : OwnConnection) (generation : Option ℕ) (node : ℕ) → own_facts b c generation node ≡ record (own_facts v c generation node) { bytes = own_bytes b }
  facts-are c generation node = λ i. record (own_facts b c generation node) { sight = place-at c node i; sight_of = λ n. place-at c n i }

  module _ (c : OwnConnection) (seat : ℕ) (found : found_connection v.connections seat ≡ Some c) (wide : (name : FileName) → reads v name ≡ true → sees name ≡ true) where
    or-right : (x y : Bool) → y ≡ true → (x || y) ≡ true
    or-right true y e = refl
    or-right false y e = e

    -- a handle that may read now makes the file one that the application reads
    handle-reads : (fh : ℕ) (name : FileName) (node : ℕ) (document : DocId) (strict read write : Bool) → own_handle_of c.handles fh ≡ Some (Handle.File name node document strict read write) →
        may_read_now (own_reach v) (open_file_of name node document strict read write) ≡ true → reads v name ≡ true
    handle-reads fh name node document strict read write e m =
        or-right _ _ (any-found (λ (x : OwnConnection). x.seat == seat) (reads_connection (own_reach v) name) v.connections c found
        (any-option fh (reads_handle (own_reach v) name) c.handles (Handle.File name node document strict read write) e (all-three _ _ _ (is_same-refl name.path) (itself name.generation) m)))

    handle-alike : (fh : ℕ) (o : Option Handle) → own_handle_of c.handles fh ≡ o → ReadAlike (own_reach v) (own_bytes b) (own_bytes v) o
    handle-alike fh None e = tt
    handle-alike fh (Some (Handle.File name node document strict read write)) e = λ m. own_bytes-seen sees v name (wide name (handle-reads fh name node document strict read write e m))
    handle-alike fh (Some (Handle.Folder node entries)) e = tt

    walk-blind : (generation : Option ℕ) (r : NodeRequest) → own_walk b c generation r ≡ own_walk v c generation r
    walk-blind generation r =
        ap (λ (f : NodeFacts). node_walk f r r.op) (facts-are c generation r.node)
        ∙ walk-alike (own_facts v c generation r.node) (own_bytes b) r r.op (λ fh. handle-alike fh (own_handle_of c.handles fh) refl)

  -- ---- the view after

  effect-same : (name : FileName) (xs ys : List ℕ) (now : ℕ) (x : Bool) → (sees name ≡ true → xs ≡ ys) → length xs ≡ length ys →
      map (blind_effect sees) (cond x (has_bytes name xs now ∷ []) []) ≡ map (blind_effect sees) (cond x (has_bytes name ys now ∷ []) [])
  effect-same name xs ys now true e l = ap (λ (c : Content). Bytes name.path name.generation c ∷ []) (blind-same sees name.path name.generation xs ys now e l)
  effect-same name xs ys now false e l = refl

  has-same : (name : FileName) → has_file b name ≡ has_file v name
  has-same name = ap is_file (own_file-blind sees v name) ∙ file-blind sees name.path (own_file v name)

  bytes-same : (name : FileName) (xs ys : List ℕ) (now : ℕ) → (sees name ≡ true → xs ≡ ys) → length xs ≡ length ys →
      map (blind_effect sees) (cond (has_file b name) (has_bytes name xs now ∷ []) []) ≡ map (blind_effect sees) (cond (has_file v name) (has_bytes name ys now ∷ []) [])
  bytes-same name xs ys now e l =
      ap (λ (x : Bool). map (blind_effect sees) (cond x (has_bytes name xs now ∷ []) [])) (has-same name) ∙ effect-same name xs ys now (has_file v name) e l

  turned-same : (name : FileName) (x : Bool) → map (blind_effect sees) (cond x (Turned name.path name.generation (own_file b name) ∷ []) []) ≡ map (blind_effect sees) (cond x (Turned name.path name.generation (own_file v name) ∷ []) [])
  turned-same name true =
      ap (λ (c : Content). Turned name.path name.generation c ∷ [])
      (ap (blind_at sees name.path) (own_file-blind sees v name) ∙ blind-twice sees name.path (own_file v name))
  turned-same name false = refl

  effects-blind : (change : FileChange) → map (blind_effect sees) (own_effects b change) ≡ map (blind_effect sees) (own_effects v change)
  effects-blind FilesStay = refl
  effects-blind (Writes name offset [] now) = refl
  effects-blind (Writes name offset (x ∷ xs) now) =
      bytes-same name (overlaid (own_bytes b name) offset (x ∷ xs)) (overlaid (own_bytes v name) offset (x ∷ xs)) now
      (λ e. ap (λ (bytes : List ℕ). overlaid bytes offset (x ∷ xs)) (own_bytes-seen sees v name e)) (overlaid-long offset (x ∷ xs) _ _ (own_bytes-long sees v name))
  effects-blind (Resizes name size now) =
      bytes-same name (cut_to size (own_bytes b name)) (cut_to size (own_bytes v name)) now
      (λ e. ap (cut_to size) (own_bytes-seen sees v name e)) (cut-long size _ _ (own_bytes-long sees v name))
  effects-blind (Creates path now) = refl
  effects-blind (Adds name now) = refl
  effects-blind (Stands name) = turned-same name (knows v name.path)

  -- with the path of a file that is opened
  handles-blind : (change : HandleChange) → with_handles change b ≡ blind_but sees (with_handles change v)
  handles-blind HandlesStay = refl
  handles-blind (Opens (Handle.File name node document strict read write)) = λ i. record b {
    contents =
        (ap (λ (content : Content). put ahead (with_content name.path content (found_content b.contents name.path)) b.contents) (content-blind sees v name.path)
        ∙ gained-blind sees name.path (own_content v name.path) v.contents) i;
    files =
        (ap (λ (content : Content). with_named name content b.files) (own_file-blind sees v name)
        ∙ with_named-blind sees name (own_file v name) v.files (own_file-fits sees v name)) i;
  }
  handles-blind (Opens (Handle.Folder node entries)) = refl
  handles-blind (Closes fh) = refl

  bytes-fit : (name : FileName) (bytes : List ℕ) (now : ℕ) (x : Bool) → AllFit sees (cond x (has_bytes name bytes now ∷ []) [])
  bytes-fit name bytes now true = (refl, tt)
  bytes-fit name bytes now false = tt

  effects-fit : (x : AppView) (change : FileChange) → AllFit sees (own_effects x change)
  effects-fit x FilesStay = tt
  effects-fit x (Writes name offset [] now) = tt
  effects-fit x (Writes name offset (y ∷ ys) now) = bytes-fit name (overlaid (own_bytes x name) offset (y ∷ ys)) now (has_file x name)
  effects-fit x (Resizes name size now) = bytes-fit name (cut_to size (own_bytes x name)) now (has_file x name)
  effects-fit x (Creates path now) = bytes-fit (record { path = path; generation = 0 }) [] now (knows x path)
  effects-fit x (Adds name now) = (refl, tt)
  effects-fit x (Stands name) = elim (knows x name.path) as (λ k. AllFit sees (cond k (Turned name.path name.generation (own_file x name) ∷ []) [])) [ true ↦ (tt, tt) | false ↦ tt ]

  done-blind : (c : OwnConnection) (d : NodeDoing) → blind_but sees (own_node_done b c d) ≡ blind_but sees (own_node_done v c d)
  done-blind c d =
      let cs : List OwnConnection = own_connections_then c d v.connections in
      apply_all-same sees _ _ _ _ (effects-fit b d.file) (effects-fit v d.file)
      (ap (λ (x : AppView). blind_but sees (prune (record x { connections = cs }))) (handles-blind d.handle) ∙ connections-same sees (with_handles d.handle v) cs)
      (effects-blind d.file)

  settled-blind : (c : OwnConnection) (o : Option NodeVerdict) → seen_pair sees (own_settled_on_node b c o) ≡ seen_pair sees (own_settled_on_node v c o)
  settled-blind c None = ap (λ (x : AppView). own_settled_on_node x c None) (view-twice sees v)
  settled-blind c (Some (Errs errno)) = ap (λ (x : AppView). own_settled_on_node x c (Some (Errs errno))) (view-twice sees v)
  settled-blind c (Some (Yields d)) = λ i. (done-blind c d i, Answer.Node d.answer)

  given-blind : (w : Walk NodeVerdict) (own : Own) → own_node_given b w own ≡ own_node_given v w own
  given-blind w own = λ i. walked_with w (moment_given own.now) (listed-at w i) (succeeding own.fault own.looks (looks-blind w i)) (is_tree own.fault)

  pub node-blind : (c : OwnConnection) (seat : ℕ) → found_connection v.connections seat ≡ Some c → ((name : FileName) → reads v name ≡ true → sees name ≡ true) →
      (r : NodeRequest) (own : Own) → seen_pair sees (own_node_answer b c r own) ≡ seen_pair sees (own_node_answer v c r own)
  node-blind c seat found wide r own =
      ap (λ (o : Option NodeVerdict). seen_pair sees (own_settled_on_node b c o)) (ap (λ (w : Walk NodeVerdict). own_node_given b w own) (walk-blind c seat found wide own.generation r) ∙ given-blind (own_walk v c own.generation r) own)
      ∙ settled-blind c (own_node_given v (own_walk v c own.generation r) own)
