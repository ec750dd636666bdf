-- A change of a file of the tree: what it is to a view that tells of it, and to one that doesn't.
use Rattle.std.proofs.Common.{◌≡◌, ℕ, ◌==◌, List, [], ◌∷◌, ◌++◌, map, Bool, true, false, not, ◌&&◌, ◌||◌, cond, Option, Some, None, is_some, refl, sym, ap, subst, ◌∙◌, ⊎_elim, arith}
use Rattle.std.specs.List.{filter, find, list_all, list_any}
use Rattle.std.specs.Option.{option_map}
use Rattle.std.specs.Ordering.{is_lt}
use Rattle.portal_base.specs.Content.{file_named, is_above, is_named, paths_of}
use Rattle.portal_base.specs.FileChanges.{change_named, cut_to, new_file, overlaid, put_file, resized, written}
use Rattle.file_generations.specs.Generations.{Held, all_held, change_held, fresh_file, freshened, held_with, in_place, is_held, may_turn, name_of_file, put_present, turned, turned_to}
use Rattle.portal_base.specs.Names.{is_same, parent_of, root}
use Rattle.portal_base.specs.PathOrder.{path_order}
use Rattle.portal_base.specs.declared.files.File.{File}
use Rattle.portal_base.specs.declared.files.FileName.{FileName}
use Rattle.portal_base.specs.declared.files.Look.{Look}
use Rattle.portal_base.specs.declared.limits.Limits.{Limits}
use Rattle.portal_base.proofs.PathsAbove.{above_longer, any-paths, any-put, any-up, parent-below}
use Rattle.rights_rule.specs.Rights.{RightSet}
use Rattle.portal_model.specs.declared.state.Document.{Document}
use Rattle.portal_model.specs.Content.{Content, OfFile, content_at, content_of, file_at, has_room, is_folder, look_at}
use Rattle.portal_model.specs.Node.{files_after}
use Rattle.portal_model.specs.NodeVerdict.{FileChange, FilesStay, Writes, Resizes, Creates, Adds, Stands}
use Rattle.portal_model.proofs.FilesValid.{missing-is}
use Rattle.portal_model.proofs.ListLookups.{find-map, found_in_all, found_passes, is_same-eq, is_same-refl, nat_is}
use Rattle.portal_model.proofs.RisingLists.{rising-map}
use Rattle.app_world.specs.Effect.{Bytes, Turned, apply, apply_all, changed_content, file_of, with_bytes, with_bytes_below, with_content_of, with_file, with_file_at, with_named, with_turned, with_turned_below}
use Rattle.app_world.specs.Node.{content_named, file_effects, first_of, has_bytes, has_file, own_effects}
use Rattle.app_world.specs.Shown.{bytes_in, own_file}
use Rattle.app_world.specs.View.{AppView, HeldDocument, OwnConnection, PathBelow, PathContent, below_at, contents_at, files_at, files_below, folder_of, folder_paths, found_content, held_documents, is_among, is_at_or_below, is_held_name, named_paths, names_held, path_below, path_content, path_of, pruned, knows, same_name, view_over}
use Rattle.app_world.proofs.BelowLaws.{IsThen, IsTurned, changed-in, changed-out, file_first, file_then, same-sym, turned-in, turned-out}
use Rattle.app_world.proofs.ContentLaws.{below-are, below-found, below-rising, below-same, contents-are, contents-found, contents-rising, contents-same}
use Rattle.app_world.proofs.Found.{find-changed}
use Rattle.app_world.proofs.HeldFiles.{SoundTree, added-then, changed-then, file_named-is, find-append, first-followed, first_some, found-name, of_number, put-then, standing-named, turned-named}
use Rattle.app_world.proofs.NamedFiles.{IsNamedThen, file-alike, name-eq, named-changed, named-fewer, named-same, named_in, named_of}
use Rattle.app_world.proofs.WalksAlong.{CanChange}
use Rattle.app_world.proofs.Orders.{paths}
use Rattle.app_world.proofs.ViewLaws.{still_held}

-- ---- a file of another content, as a view sees it

-- what is at a path that is named becomes this where it is the file's own path
abbrev IsSeen : (List ℕ → Type 0) → List File → List File → List ℕ → ℕ → Content → Type 0
IsSeen On files more path generation new =
    (p : List ℕ) → On p → cond (is_same p path) (changed_content generation new (content_at files p)) (content_at files p) ≡ content_at more p

-- or this file takes the place of whatever was there
abbrev IsPlaced : (List ℕ → Type 0) → List File → List File → List ℕ → Content → Type 0
IsPlaced On files more path new = (p : List ℕ) → On p → cond (is_same p path) new (content_at files p) ≡ content_at more p

with-bytes : (files : List File) (path p : List ℕ) (generation : ℕ) (new : Content) (b : Bool) → is_same p path ≡ b →
    with_bytes path generation new (path_content files p) ≡ record { path = p; content = cond b (changed_content generation new (content_at files p)) (content_at files p) }
with-bytes files path p generation new true e = rw e refl
with-bytes files path p generation new false e = rw e refl

with_bytes-path : (path : List ℕ) (generation : ℕ) (new : Content) (c : PathContent) → path_of (with_bytes path generation new c) ≡ path_of c
with_bytes-path path generation new c = elim (is_same c.path path) as (λ b. path_of (cond b (record c { content = changed_content generation new c.content }) c) ≡ path_of c) [ true ↦ refl | false ↦ refl ]

with-turned : (files : List File) (path p : List ℕ) (new : Content) (b : Bool) → is_same p path ≡ b →
    with_turned path new (path_content files p) ≡ record { path = p; content = cond b new (content_at files p) }
with-turned files path p new true e = rw e refl
with-turned files path p new false e = rw e refl

with_turned-path : (path : List ℕ) (new : Content) (c : PathContent) → path_of (with_turned path new c) ≡ path_of c
with_turned-path path new c = elim (is_same c.path path) as (λ b. path_of (cond b (record c { content = new }) c) ≡ path_of c) [ true ↦ refl | false ↦ refl ]

-- contents that change one by one, and keep their paths
contents-become : (files more : List File) (ps : List (List ℕ)) (change : PathContent → PathContent) → ((c : PathContent) → path_of (change c) ≡ path_of c) → ((p : List ℕ) → is_among ps p ≡ true → change (path_content files p) ≡ path_content more p) →
    filter (λ c. is_among ps (path_of c)) (map change (contents_at files ps)) ≡ contents_at more ps
contents-become files more ps change same each =
    contents-are more ps (map change (contents_at files ps)) (rising-map _ _ path_of paths change same (contents_at files ps) (contents-rising files ps)) (λ p h.
    find-changed _ _ path_of paths change same p (contents_at files ps)
    ∙ (ap (option_map change) (contents-found files p ps ∙ ap (λ (b : Bool). cond b (Some (path_content files p)) None) h)
    ∙ ap Some (each p h)))

-- and so what is at or below folders
below-become : (files more : List File) (fs : List (List ℕ)) (change : PathBelow → PathBelow) → ((b : PathBelow) → folder_of (change b) ≡ folder_of b) → ((folder : List ℕ) → change (path_below files folder) ≡ path_below more folder) →
    filter (λ b. is_among fs (folder_of b)) (map change (below_at files fs)) ≡ below_at more fs
below-become files more fs change same each =
    below-are more fs (map change (below_at files fs)) (rising-map _ _ folder_of paths change same (below_at files fs) (below-rising files fs)) (λ p h.
    find-changed _ _ folder_of paths change same p (below_at files fs)
    ∙ (ap (option_map change) (below-found files p fs ∙ ap (λ (b : Bool). cond b (Some (path_below files p)) None) h)
    ∙ ap Some (each p)))

module _ (limits : Limits) (tree more : Held) (held : ℕ → RightSet) (documents : List Document) (cs : List OwnConnection) where
  abbrev ds : List HeldDocument
  ds = held_documents held documents

  abbrev ps : List (List ℕ)
  ps = named_paths ds cs

  abbrev fs : List (List ℕ)
  fs = folder_paths ds

  abbrev ns : List FileName
  ns = names_held cs

  abbrev Named : List ℕ → Type 0
  Named p = is_among ps p ≡ true

  -- what the view has by names stays
  abbrev NamesStay : Type 0
  NamesStay = (n : FileName) → is_held_name ns n ≡ true → named_in (all_held tree) n ≡ named_in (all_held more) n

  names-stay : NamesStay → files_at (all_held tree) ns ≡ files_at (all_held more) ns
  names-stay e = named-same (all_held tree) (all_held more) ns (λ n h. file-alike n (file_named (all_held tree) n) (file_named (all_held more) n) (e n h))

  -- a view that has nothing of what changes
  view-same : ((p : List ℕ) → Named p → content_at tree.present p ≡ content_at more.present p) → ((folder : List ℕ) → is_among fs folder ≡ true → files_below tree.present folder ≡ files_below more.present folder) → NamesStay →
      view_over limits tree ds cs ≡ view_over limits more ds cs
  view-same e f n = λ i. record (view_over limits tree ds cs) {
    contents = contents-same tree.present more.present ps e i;
    below = below-same tree.present more.present fs f i;
    files = names-stay n i;
  }

  none-covers : (path : List ℕ) (xs : List (List ℕ)) (folder : List ℕ) → list_any (λ x. is_at_or_below x path) xs ≡ false → is_among xs folder ≡ true → is_at_or_below folder path ≡ false
  none-covers path [] folder f h = cc
  none-covers path (x ∷ xs) folder f h = step (is_same x folder) refl h (none-covers path xs folder (rest (is_at_or_below x path) f)) (first (is_at_or_below x path) _ f)
    where
      first : (a b : Bool) → (a || b) ≡ false → a ≡ false
      first true b e = cc
      first false b e = refl

      rest : (a : Bool) {b : Bool} → (a || b) ≡ false → b ≡ false
      rest true e = cc
      rest false e = e

      step : (b : Bool) → is_same x folder ≡ b → (b || is_among xs folder) ≡ true → (is_among xs folder ≡ true → is_at_or_below folder path ≡ false) → is_at_or_below x path ≡ false → is_at_or_below folder path ≡ false
      step true e g k l = ap (λ (y : List ℕ). is_at_or_below y path) (sym (is_same-eq x folder e)) ∙ l
      step false e g k l = k g

  elsewhere : (path : List ℕ) → is_among ps path ≡ false → (p : List ℕ) → Named p → (b : Bool) → is_same p path ≡ b → b ≡ false
  elsewhere path f p h true e = let no : true ≡ false = sym h ∙ (ap (is_among ps) (is_same-eq p path e) ∙ f) in cc
  elsewhere path f p h false e = refl

  module _ (path : List ℕ) (generation : ℕ) (bytes : List ℕ) (moment : ℕ) where
    abbrev content_then : Content
    content_then = OfFile generation bytes moment

    abbrev name_then : FileName
    name_then = record { path = path; generation = generation }

    module _ (seen : IsSeen Named tree.present more.present path generation content_then) (then_is : IsThen tree.present more.present path generation content_then) where
      changed-at : (p : List ℕ) → Named p → with_bytes path generation content_then (path_content tree.present p) ≡ path_content more.present p
      changed-at p h = with-bytes tree.present path p generation content_then (is_same p path) refl ∙ ap (λ (c : Content). record { path = p; content = c }) (seen p h)

      changing_below-path : (b : PathBelow) → folder_of (with_bytes_below path generation content_then b) ≡ folder_of b
      changing_below-path b = elim (is_at_or_below b.path path) as (λ c. folder_of (cond c (record b { files = with_file path generation content_then b.files }) b) ≡ folder_of b) [ true ↦ refl | false ↦ refl ]

      changed-below : (folder : List ℕ) → with_bytes_below path generation content_then (path_below tree.present folder) ≡ path_below more.present folder
      changed-below folder = step (is_at_or_below folder path) refl
        where
          step : (b : Bool) → is_at_or_below folder path ≡ b → cond b (record (path_below tree.present folder) { files = with_file path generation content_then (files_below tree.present folder) }) (path_below tree.present folder) ≡ path_below more.present folder
          step true e = ap (λ (xs : List File). record { path = folder; files = xs }) (sym (changed-in path generation content_then tree.present more.present then_is folder e))
          step false e = ap (λ (xs : List File). record { path = folder; files = xs }) (sym (changed-out path generation content_then tree.present more.present then_is folder e))

      -- a view that is told of it
      view-bytes : IsNamedThen (all_held tree) (all_held more) name_then generation bytes moment → apply (view_over limits tree ds cs) (Bytes path generation content_then) ≡ view_over limits more ds cs
      view-bytes n =
          ap (λ (xs : List HeldDocument). pruned xs (record (view_over limits tree ds cs) {
            contents = map (with_bytes path generation content_then) (contents_at tree.present ps);
            below = map (with_bytes_below path generation content_then) (below_at tree.present fs);
            files = with_named name_then content_then (files_at (all_held tree) ns);
          })) (still_held held documents)
          ∙ (λ i. record (view_over limits tree ds cs) {
            contents = contents-become tree.present more.present ps (with_bytes path generation content_then) (with_bytes-path path generation content_then) changed-at i;
            below = below-become tree.present more.present fs (with_bytes_below path generation content_then) changing_below-path changed-below i;
            files = named-changed (all_held tree) (all_held more) name_then generation bytes moment ns n i;
          })

      -- one that isn't, since it tells nothing of the path
      view-unnamed : is_among ps path ≡ false → list_any (λ x. is_at_or_below x path) fs ≡ false → NamesStay → view_over limits tree ds cs ≡ view_over limits more ds cs
      view-unnamed f g = view-same
          (λ p h. ap (λ (b : Bool). cond b (changed_content generation content_then (content_at tree.present p)) (content_at tree.present p)) (sym (elsewhere path f p h (is_same p path) refl)) ∙ seen p h)
          (λ folder h. sym (changed-out path generation content_then tree.present more.present then_is folder (none-covers path fs folder g h)))

      -- or since another file stands there
      view-beside : changed_content generation content_then (content_at tree.present path) ≡ content_at tree.present path → file_then path generation content_then (file_at tree.present path) ≡ file_at tree.present path → NamesStay →
          view_over limits tree ds cs ≡ view_over limits more ds cs
      view-beside e f = view-same (λ p h. same p (is_same p path) refl ∙ seen p h) (λ folder h. sym (still folder (is_at_or_below folder path) refl))
        where
          same : (p : List ℕ) (b : Bool) → is_same p path ≡ b → content_at tree.present p ≡ cond b (changed_content generation content_then (content_at tree.present p)) (content_at tree.present p)
          same p true k = ap (content_at tree.present) (is_same-eq p path k) ∙ (sym e ∙ ap (λ (q : List ℕ). changed_content generation content_then (content_at tree.present q)) (sym (is_same-eq p path k)))
          same p false k = refl

          stays : IsThen tree.present tree.present path generation content_then
          stays p = as_it_was (is_same p path) refl
            where
              as_it_was : (b : Bool) → is_same p path ≡ b → file_at tree.present p ≡ cond b (file_then path generation content_then (file_at tree.present path)) (file_at tree.present p)
              as_it_was true k = ap (file_at tree.present) (is_same-eq p path k) ∙ sym f
              as_it_was false k = refl

          still : (folder : List ℕ) (b : Bool) → is_at_or_below folder path ≡ b → files_below more.present folder ≡ files_below tree.present folder
          still folder true k = changed-in path generation content_then tree.present more.present then_is folder k ∙ sym (changed-in path generation content_then tree.present tree.present stays folder k)
          still folder false k = changed-out path generation content_then tree.present more.present then_is folder k

    -- a file that stands at its path from now on
    module _ (placed : IsPlaced Named tree.present more.present path content_then) (turned_is : IsTurned tree.present more.present path (file_of path generation bytes moment)) (stay : NamesStay) where
      turned-at : (p : List ℕ) → Named p → with_turned path content_then (path_content tree.present p) ≡ path_content more.present p
      turned-at p h = with-turned tree.present path p content_then (is_same p path) refl ∙ ap (λ (c : Content). record { path = p; content = c }) (placed p h)

      turning_below-path : (b : PathBelow) → folder_of (with_turned_below path content_then b) ≡ folder_of b
      turning_below-path b = elim (is_at_or_below b.path path) as (λ c. folder_of (cond c (record b { files = with_file_at path content_then b.files }) b) ≡ folder_of b) [ true ↦ refl | false ↦ refl ]

      turned-below : (folder : List ℕ) → with_turned_below path content_then (path_below tree.present folder) ≡ path_below more.present folder
      turned-below folder = step (is_at_or_below folder path) refl
        where
          step : (b : Bool) → is_at_or_below folder path ≡ b → cond b (record (path_below tree.present folder) { files = with_file_at path content_then (files_below tree.present folder) }) (path_below tree.present folder) ≡ path_below more.present folder
          step true e = ap (λ (xs : List File). record { path = folder; files = xs }) (sym (turned-in path generation bytes moment tree.present more.present turned_is folder e))
          step false e = ap (λ (xs : List File). record { path = folder; files = xs }) (sym (turned-out path generation bytes moment tree.present more.present turned_is folder e))

      view-turned : apply (view_over limits tree ds cs) (Turned path generation content_then) ≡ view_over limits more ds cs
      view-turned =
          ap (λ (xs : List HeldDocument). pruned xs (record (view_over limits tree ds cs) {
            contents = map (with_turned path content_then) (contents_at tree.present ps);
            below = map (with_turned_below path content_then) (below_at tree.present fs);
          })) (still_held held documents)
          ∙ (λ i. record (view_over limits tree ds cs) {
            contents = contents-become tree.present more.present ps (with_turned path content_then) (with_turned-path path content_then) turned-at i;
            below = below-become tree.present more.present fs (with_turned_below path content_then) turning_below-path turned-below i;
            files = (named-fewer (all_held tree) ns ns (λ n h. h) ∙ names-stay stay) i;
          })

      view-unturned : is_among ps path ≡ false → list_any (λ x. is_at_or_below x path) fs ≡ false → view_over limits tree ds cs ≡ view_over limits more ds cs
      view-unturned f g = view-same
          (λ p h. ap (λ (b : Bool). cond b content_then (content_at tree.present p)) (sym (elsewhere path f p h (is_same p path) refl)) ∙ placed p h)
          (λ folder h. sym (turned-out path generation bytes moment tree.present more.present turned_is folder (none-covers path fs folder g h)))
          stay

      pub view-if-turned : (b : Bool) → (b ≡ false → (is_among ps path ≡ false) × (list_any (λ x. is_at_or_below x path) fs ≡ false)) → apply_all (view_over limits tree ds cs) (cond b (Turned path generation content_then ∷ []) []) ≡ view_over limits more ds cs
      view-if-turned true e = view-turned
      view-if-turned false e = view-unturned (e refl).0 (e refl).1

-- ---- a file of a name that changes

-- whether it stands at its path
abbrev pub is_standing : ℕ → Option File → Bool
is_standing generation None = false
is_standing generation (Some f) = f.generation == generation

abbrev pub stands : Held → FileName → Bool
stands tree name = is_standing name.generation (file_at tree.present name.path)

module _ (tree : Held) (t : SoundTree tree) (name : FileName) (there : is_held tree name ≡ true) where
  -- the first file of a path isn't missed there
  not-first : file_at tree.present name.path ≡ None → (b : Bool) → (name.generation == 0) ≡ b → b ≡ false
  not-first e true h = let no : false ≡ true = ap is_some (sym e) ∙ first-followed tree t name h there in cc
  not-first e false h = refl

  -- where another stands, nothing at the path changes
  beside-content : (new : Content) → stands tree name ≡ false → changed_content name.generation new (content_at tree.present name.path) ≡ content_at tree.present name.path
  beside-content new h = step (file_at tree.present name.path) refl (is_folder tree.present name.path) (has_room tree.present name.path) h
    where
      step : (o : Option File) → file_at tree.present name.path ≡ o → (folder room : Bool) → is_standing name.generation o ≡ false → changed_content name.generation new (content_of o folder room) ≡ content_of o folder room
      step None e true room k = refl
      step None e false room k = ap (λ (b : Bool). cond b new (content_of None false room)) (not-first e (name.generation == 0) refl)
      step (Some f) e folder room k = ap (λ (b : Bool). cond b new (OfFile f.generation f.bytes f.moment)) k

  beside-file : (new : Content) → stands tree name ≡ false → file_then name.path name.generation new (file_at tree.present name.path) ≡ file_at tree.present name.path
  beside-file new h = step (file_at tree.present name.path) refl h
    where
      step : (o : Option File) → file_at tree.present name.path ≡ o → is_standing name.generation o ≡ false → file_then name.path name.generation new o ≡ o
      step None e k = ap (λ (b : Bool). cond b (file_first name.path new) None) (not-first e (name.generation == 0) refl)
      step (Some f) e k = ap (λ (b : Bool). Some (cond b (with_content_of new f) f)) k

  module _ (change : File → File) (path : (f : File) → (change f).path ≡ f.path) (number : (f : File) → (change f).generation ≡ f.generation) where
    abbrev changing_one : File → File
    changing_one f = cond (is_named name f) (change f) f

    one_path : (f : File) → (changing_one f).path ≡ f.path
    one_path f = elim (is_named name f) as (λ b. (cond b (change f) f).path ≡ f.path) [ true ↦ path f | false ↦ refl ]

    found-same : (p : List ℕ) (fs : List File) → find (λ (f : File). is_same (changing_one f).path p) fs ≡ file_at fs p
    found-same p [] = refl
    found-same p (f ∷ fs) = λ i. cond (is_same (one_path f i) p) (Some f) (found-same p fs i)

    file-changed : (p : List ℕ) → file_at (change_named name change tree.present) p ≡ option_map changing_one (file_at tree.present p)
    file-changed p = find-map (λ (f : File). is_same f.path p) changing_one tree.present ∙ ap (option_map changing_one) (found-same p tree.present)

    folder-same : (p : List ℕ) (fs : List File) → list_any (λ (f : File). is_above p f.path) (map changing_one fs) ≡ list_any (λ (f : File). is_above p f.path) fs
    folder-same p [] = refl
    folder-same p (f ∷ fs) = λ i. is_above p (one_path f i) || folder-same p fs i

    folders-same : (p : List ℕ) → is_folder (change_named name change tree.present) p ≡ is_folder tree.present p
    folders-same p = ap (λ (b : Bool). is_same p root || b) (folder-same p tree.present)

    module _ (new : Content) (is : (f : File) → file_named (all_held tree) name ≡ Some f → new ≡ OfFile (change f).generation (change f).bytes (change f).moment) where
      seen-file : (f : File) (c : Bool) → (f.generation == name.generation) ≡ c → file_at tree.present name.path ≡ Some f → is_same f.path name.path ≡ true →
          changed_content name.generation new (OfFile f.generation f.bytes f.moment) ≡ content_of (Some (cond (is_same f.path name.path && f.generation == name.generation) (change f) f)) false false
      seen-file f true e g h = rw (e, h) (is f (standing-named tree t name f g e))
      seen-file f false e g h = rw (e, h) refl

      seen-at : (p : List ℕ) (folder room : Bool) (o : Option File) → file_at tree.present p ≡ o → (b : Bool) → is_same p name.path ≡ b →
          cond b (changed_content name.generation new (content_of o folder room)) (content_of o folder room) ≡ content_of (option_map changing_one o) folder room
      seen-at p true room None e true h = refl
      seen-at p false room None e true h =
          ap (λ (b : Bool). cond b new (content_of None false room)) (not-first (ap (file_at tree.present) (sym (is_same-eq p name.path h)) ∙ e) (name.generation == 0) refl)
      seen-at p folder room None e false h = refl
      seen-at p folder room (Some f) e true h =
          let named : f.path ≡ p = is_same-eq f.path p (found_passes (λ (x : File). is_same x.path p) tree.present f e) in
          seen-file f (f.generation == name.generation) refl (ap (file_at tree.present) (sym (is_same-eq p name.path h)) ∙ e) (ap (λ (q : List ℕ). is_same q name.path) named ∙ h)
      seen-at p folder room (Some f) e false h =
          let named : f.path ≡ p = is_same-eq f.path p (found_passes (λ (x : File). is_same x.path p) tree.present f e) in
          let other : is_same f.path name.path ≡ false = ap (λ (q : List ℕ). is_same q name.path) named ∙ h in
          ap (λ (b : Bool). content_of (Some (cond (b && f.generation == name.generation) (change f) f)) folder room) (sym other)

      pub named-seen : (On : List ℕ → Type 0) → IsSeen On tree.present (change_named name change tree.present) name.path name.generation new
      named-seen On p on =
          seen-at p (is_folder tree.present p) (has_room tree.present p) (file_at tree.present p) refl (is_same p name.path) refl
          ∙ (λ i. content_of (sym (file-changed p) i) (sym (folders-same p) i) (sym (folders-same (parent_of p)) i))

      -- and what is then at each path
      then-file : (f : File) (c : Bool) → (f.generation == name.generation) ≡ c → file_at tree.present name.path ≡ Some f → change f ≡ record f { bytes = (change f).bytes; moment = (change f).moment } →
          Some (cond c (change f) f) ≡ Some (cond c (with_content_of new f) f)
      then-file f true e g k =
          let generation : f.generation ≡ (change f).generation = sym (ap (λ (x : File). x.generation) k) in
          ap Some
          (k
          ∙ (ap (λ (n : ℕ). record f { generation = n; bytes = (change f).bytes; moment = (change f).moment }) generation
          ∙ sym (ap (λ (n : Content). with_content_of n f) (is f (standing-named tree t name f g e)))))
      then-file f false e g k = refl

      then-at : ((f : File) → change f ≡ record f { bytes = (change f).bytes; moment = (change f).moment }) → (p : List ℕ) (o : Option File) → file_at tree.present p ≡ o → (b : Bool) → is_same p name.path ≡ b → (at : Option File) → file_at tree.present name.path ≡ at →
          option_map changing_one o ≡ cond b (file_then name.path name.generation new at) o
      then-at k p o e true h at f = by_at at (sym e ∙ (ap (file_at tree.present) (is_same-eq p name.path h) ∙ f)) f
        where
          by_at : (x : Option File) → o ≡ x → file_at tree.present name.path ≡ x → option_map changing_one o ≡ file_then name.path name.generation new x
          by_at None g l =
              ap (option_map changing_one) g
              ∙ ap (λ (b : Bool). cond b (file_first name.path new) None) (sym (not-first l (name.generation == 0) refl))
          by_at (Some y) g l =
              let here : is_same y.path name.path ≡ true = found_passes (λ (x : File). is_same x.path name.path) tree.present y l in
              ap (option_map changing_one) g
              ∙ (ap (λ (c : Bool). Some (cond (c && y.generation == name.generation) (change y) y)) here
              ∙ then-file y (y.generation == name.generation) refl l (k y))
      then-at k p None e false h at f = refl
      then-at k p (Some y) e false h at f =
          let named : is_same y.path p ≡ true = found_passes (λ (x : File). is_same x.path p) tree.present y e in
          let other : is_same y.path name.path ≡ false = ap (λ (q : List ℕ). is_same q name.path) (is_same-eq y.path p named) ∙ h in
          ap (λ (b : Bool). Some (cond (b && y.generation == name.generation) (change y) y)) other

      pub named-then : ((f : File) → change f ≡ record f { bytes = (change f).bytes; moment = (change f).moment }) → IsThen tree.present (change_named name change tree.present) name.path name.generation new
      named-then k p = file-changed p ∙ then-at k p (file_at tree.present p) refl (is_same p name.path) refl (file_at tree.present name.path) refl

-- ---- a file that is made

found-put : (new : File) (fs : List File) (p : List ℕ) → file_at fs new.path ≡ None → file_at (put_file new fs) p ≡ cond (is_same new.path p) (Some new) (file_at fs p)
found-put new [] p e = refl
found-put new (f ∷ fs) p e = by_path (is_same f.path new.path) refl e (found-put new fs p)
  where
    apart : is_same f.path new.path ≡ false → (a b : Bool) → is_same f.path p ≡ a → is_same new.path p ≡ b → cond a (Some f) (cond b (Some new) (file_at fs p)) ≡ cond b (Some new) (cond a (Some f) (file_at fs p))
    apart k true true g h =
        let same : f.path ≡ new.path = is_same-eq f.path p g ∙ sym (is_same-eq new.path p h) in
        let no : true ≡ false = sym (is_same-refl new.path) ∙ (ap (λ (q : List ℕ). is_same q new.path) (sym same) ∙ k) in
        cc
    apart k true false g h = refl
    apart k false true g h = refl
    apart k false false g h = refl

    by_path : (b : Bool) → is_same f.path new.path ≡ b → cond b (Some f) (file_at fs new.path) ≡ None → (file_at fs new.path ≡ None → file_at (put_file new fs) p ≡ cond (is_same new.path p) (Some new) (file_at fs p)) →
        file_at (cond (is_lt (path_order new.path f.path)) (new ∷ f ∷ fs) (f ∷ put_file new fs)) p ≡ cond (is_same new.path p) (Some new) (file_at (f ∷ fs) p)
    by_path true k g rest = cc
    by_path false k g rest = elim (is_lt (path_order new.path f.path)) as (λ b. file_at (cond b (new ∷ f ∷ fs) (f ∷ put_file new fs)) p ≡ cond (is_same new.path p) (Some new) (file_at (f ∷ fs) p)) [
      | true ↦ refl
      | false ↦ ap (λ (o : Option File). cond (is_same f.path p) (Some f) o) (rest g) ∙ apart k (is_same f.path p) (is_same new.path p) refl refl
    ]

-- a path above the new one is a folder already
above-folder : (files : List File) (a : ℕ) (bs path : List ℕ) → has_room files path ≡ true → is_above (a ∷ bs) path ≡ true → is_folder files (a ∷ bs) ≡ true
above-folder files a bs path room h = ⊎_elim
    (λ e. ap (is_folder files) (sym e) ∙ room)
    (λ k. by_root (is_same (parent_of path) root) refl k room)
    (parent-below a bs path h)
  where
    by_root : (b : Bool) → is_same (parent_of path) root ≡ b → is_above (a ∷ bs) (parent_of path) ≡ true → (b || list_any (λ (f : File). is_above (parent_of path) f.path) files) ≡ true → is_folder files (a ∷ bs) ≡ true
    by_root true e k r =
        let no : true ≡ false = sym k ∙ (ap (is_above (a ∷ bs)) (is_same-eq (parent_of path) root e) ∙ above_longer (a ∷ bs) root (omega arith)) in
        cc
    by_root false e k r = or-right (is_same (a ∷ bs) root) (any-paths (is_above (a ∷ bs)) files ∙ any-up (a ∷ bs) (parent_of path) (paths_of files) k (sym (any-paths (is_above (parent_of path)) files) ∙ r))
      where
        or-right : (b : Bool) {c : Bool} → c ≡ true → (b || c) ≡ true
        or-right true g = refl
        or-right false g = g

-- of a file that is put where the parent is a folder
module _ (files : List File) (new : File) (room : has_room files new.path ≡ true) where
  folder-put : (q : List ℕ) → is_same q [] ≡ false → is_folder (put_file new files) q ≡ is_folder files q
  folder-put [] n = cc
  folder-put (a ∷ bs) n =
      ap (λ (b : Bool). is_same (a ∷ bs) root || b) (any-paths (is_above (a ∷ bs)) (put_file new files) ∙ (any-put (is_above (a ∷ bs)) new files ∙ ap (λ (b : Bool). is_above (a ∷ bs) new.path || b) (sym (any-paths (is_above (a ∷ bs)) files))))
      ∙ by_above (is_above (a ∷ bs) new.path) refl
    where
      by_above : (b : Bool) → is_above (a ∷ bs) new.path ≡ b → (is_same (a ∷ bs) root || (b || list_any (λ (f : File). is_above (a ∷ bs) f.path) files)) ≡ is_folder files (a ∷ bs)
      by_above true h = or-last (is_same (a ∷ bs) root) ∙ sym (above-folder files a bs new.path room h)
        where
          or-last : (b : Bool) → (b || true) ≡ true
          or-last true = refl
          or-last false = refl
      by_above false h = refl

parent-some : (p : List ℕ) → is_same (parent_of p) [] ≡ false
unfolding parent_of
parent-some p = root-some _
  where
    root-some : (x : List ℕ) → is_same (cond (is_same x []) root x) [] ≡ false
    root-some [] = refl
    root-some (b ∷ bs) = refl

module _ (files : List File) (path : List ℕ) (now : ℕ) (missing : look_at files path ≡ Look.Missing) (room : has_room files path ≡ true) where
  abbrev made : List File
  made = put_file (new_file path now) files

  apart-turned : (p q : List ℕ) (b : Bool) → is_same p q ≡ false → is_same q p ≡ b → b ≡ false
  apart-turned p q true e h = let no : true ≡ false = sym (is_same-refl p) ∙ (ap (is_same p) (sym (is_same-eq q p h)) ∙ e) in cc
  apart-turned p q false e h = refl

  made-seen : (On : List ℕ → Type 0) → ((p : List ℕ) → On p → is_same p [] ≡ false) → IsSeen On files made path 0 (OfFile 0 [] now)
  made-seen On some p on = by_path (is_same p path) refl
    where
      none : (file_at files path ≡ None) × (is_folder files path ≡ false)
      none = missing-is files path missing

      by_path : (b : Bool) → is_same p path ≡ b → cond b (changed_content 0 (OfFile 0 [] now) (content_at files p)) (content_at files p) ≡ content_at made p
      by_path true e =
          let same : p ≡ path = is_same-eq p path e in
          ap (λ (q : List ℕ). changed_content 0 (OfFile 0 [] now) (content_at files q)) same
          ∙ ((λ i. changed_content 0 (OfFile 0 [] now) (content_of (none.0 i) (none.1 i) (has_room files path)))
          ∙ ((λ i. content_of (sym (found-put (new_file path now) files path none.0 ∙ ap (λ (b : Bool). cond b (Some (new_file path now)) (file_at files path)) (is_same-refl path)) i) (is_folder made path) (has_room made path))
          ∙ ap (content_at made) (sym same)))
      by_path false e =
          let found : file_at made p ≡ file_at files p = found-put (new_file path now) files p none.0 ∙ ap (λ (b : Bool). cond b (Some (new_file path now)) (file_at files p)) (apart-turned p path (is_same path p) e refl) in
          λ i. content_of (sym found i) (sym (folder-put files (new_file path now) room p (some p on)) i) (sym (folder-put files (new_file path now) room (parent_of p) (parent-some p)) i)

  made-then : IsThen files made path 0 (OfFile 0 [] now)
  made-then p =
      let none : (file_at files path ≡ None) × (is_folder files path ≡ false) = missing-is files path missing in
      found-put (new_file path now) files p none.0
      ∙ (ap (λ (b : Bool). cond b (Some (new_file path now)) (file_at files p)) (same-sym path p)
      ∙ ap (λ (o : Option File). cond (is_same p path) (file_then path 0 (OfFile 0 [] now) o) (file_at files p)) (sym none.0))

-- ---- a file that becomes the present one of its path

-- that file is at the path, and each other file and each folder as before
record TurnsTo (files more : List File) (path : List ℕ) (f : File) : Type 0 where
  pub found : IsTurned files more path f
  pub folders : (q : List ℕ) → is_same q [] ≡ false → is_folder more q ≡ is_folder files q

turns-placed : (files more : List File) (path : List ℕ) (f : File) → TurnsTo files more path f → (On : List ℕ → Type 0) → ((p : List ℕ) → On p → is_same p [] ≡ false) → IsPlaced On files more path (OfFile f.generation f.bytes f.moment)
turns-placed files more path f t On some p on = by_path (is_same p path) refl
  where
    at : (b : Bool) → is_same p path ≡ b → file_at more p ≡ cond b (Some f) (file_at files p)
    at b e = t.found p ∙ ap (λ (c : Bool). cond c (Some f) (file_at files p)) e

    by_path : (b : Bool) → is_same p path ≡ b → cond b (OfFile f.generation f.bytes f.moment) (content_at files p) ≡ content_at more p
    by_path true e = λ i. content_of (sym (at true e) i) (is_folder more p) (has_room more p)
    by_path false e = λ i. content_of (sym (at false e) i) (sym (t.folders p (some p on)) i) (sym (t.folders (parent_of p) (parent-some p)) i)

-- in the place of another
module _ (path : List ℕ) (f : File) (same_path : f.path ≡ path) where
  abbrev placing : File → File
  placing g = cond (is_same g.path path) f g

  placing-path : (g : File) → (placing g).path ≡ g.path
  placing-path g = step (is_same g.path path) refl
    where
      step : (b : Bool) → is_same g.path path ≡ b → (cond b f g).path ≡ g.path
      step true e = same_path ∙ sym (is_same-eq g.path path e)
      step false e = refl

  found-placing : (p : List ℕ) (fs : List File) → find (λ (g : File). is_same (placing g).path p) fs ≡ file_at fs p
  found-placing p [] = refl
  found-placing p (g ∷ fs) = λ i. cond (is_same (placing-path g i) p) (Some g) (found-placing p fs i)

  above-placing : (q : List ℕ) (fs : List File) → list_any (λ (g : File). is_above q g.path) (map placing fs) ≡ list_any (λ (g : File). is_above q g.path) fs
  above-placing q [] = refl
  above-placing q (g ∷ fs) = λ i. is_above q (placing-path g i) || above-placing q fs i

  in_place-turns : (files : List File) (former : File) → file_at files path ≡ Some former → TurnsTo files (in_place path f files) path f
  in_place-turns files former e = record {
    found = λ p. find-map (λ (g : File). is_same g.path p) placing files ∙ (ap (option_map placing) (found-placing p files) ∙ at p (file_at files p) refl (is_same p path) refl);
    folders = λ q n. ap (λ (b : Bool). is_same q root || b) (above-placing q files);
  }
    where
      at : (p : List ℕ) (o : Option File) → file_at files p ≡ o → (b : Bool) → is_same p path ≡ b → option_map placing o ≡ cond b (Some f) o
      at p None k true h = let no : None ≡ Some former = sym k ∙ (ap (file_at files) (is_same-eq p path h) ∙ e) in cc
      at p None k false h = refl
      at p (Some g) k b h =
          let named : g.path ≡ p = is_same-eq g.path p (found_passes (λ (x : File). is_same x.path p) files g k) in
          ap (λ (c : Bool). Some (cond c f g)) (ap (λ (q : List ℕ). is_same q path) named ∙ h) ∙ either b
        where
          either : (c : Bool) → Some (cond c f g) ≡ cond c (Some f) (Some g)
          either true = refl
          either false = refl

module _ (tree : Held) (t : SoundTree tree) (name : FileName) (f : File) (here : file_named (all_held tree) name ≡ Some f) where
  here-name : name_of_file f ≡ name
  here-name = found-name (all_held tree) name f here

  here-path : f.path ≡ name.path
  here-path = ap (λ (n : FileName). n.path) here-name

  turns-by : (o former : Option File) → file_named tree.hidden name ≡ o → file_at tree.present name.path ≡ former → TurnsTo tree.present (turned_to name o former tree).present name.path f
  turns-by None former e k = record {
    found = λ p. at p (is_same p name.path) refl;
    folders = λ q n. refl;
  }
    where
      there : of_number name.generation former ≡ Some f
      there =
          ap (of_number name.generation) (sym k)
          ∙ (sym (file_named-is name tree.present t.paths)
          ∙ (sym (find-append (is_named name) tree.hidden tree.present ∙ ap (λ (o : Option File). first_some o (file_named tree.present name)) e) ∙ here))

      is_it : (o : Option File) → of_number name.generation o ≡ Some f → o ≡ Some f
      is_it None h = cc
      is_it (Some g) h = step (g.generation == name.generation) h
        where
          step : (b : Bool) → cond b (Some g) None ≡ Some f → Some g ≡ Some f
          step true x = x
          step false x = cc

      at : (p : List ℕ) (b : Bool) → is_same p name.path ≡ b → file_at tree.present p ≡ cond b (Some f) (file_at tree.present p)
      at p true h = ap (file_at tree.present) (is_same-eq p name.path h) ∙ (k ∙ is_it former there)
      at p false h = refl
  turns-by (Some g) None e k =
      let same : Some g ≡ Some f = sym (find-append (is_named name) tree.hidden tree.present ∙ ap (λ (o : Option File). first_some o (file_named tree.present name)) e) ∙ here in
      let is : g ≡ f = cc in
      let room : has_room tree.present f.path ≡ true = ap (λ (x : File). has_room tree.present x.path) (sym is) ∙ found_in_all (is_named name) (λ (x : File). has_room tree.present x.path) tree.hidden g e t.placed in
      subst (λ (x : File). TurnsTo tree.present (put_file x tree.present) name.path f) (sym is) (record {
        found = λ p.
            found-put f tree.present p (ap (file_at tree.present) here-path ∙ k)
            ∙ ap (λ (b : Bool). cond b (Some f) (file_at tree.present p)) (ap (λ (q : List ℕ). is_same q p) here-path ∙ same-sym name.path p);
        folders = folder-put tree.present f room;
      })
  turns-by (Some g) (Some former) e k =
      let same : Some g ≡ Some f = sym (find-append (is_named name) tree.hidden tree.present ∙ ap (λ (o : Option File). first_some o (file_named tree.present name)) e) ∙ here in
      let is : g ≡ f = cc in
      subst (λ (x : File). TurnsTo tree.present (in_place name.path x tree.present) name.path f) (sym is) (in_place-turns name.path f here-path tree.present former k)

  turns-to : TurnsTo tree.present (turned name tree).present name.path f
  turns-to = turns-by (file_named tree.hidden name) (file_at tree.present name.path) refl refl

  -- what it was it is there
  pub turned-there : content_at (turned name tree).present name.path ≡ OfFile f.generation f.bytes f.moment
  turned-there =
      ap (λ (o : Option File). content_of o (is_folder (turned name tree).present name.path) (has_room (turned name tree).present name.path))
      (turns-to.found name.path ∙ ap (λ (b : Bool). cond b (Some f) (file_at tree.present name.path)) (is_same-refl name.path))

-- ---- each change

some-is : {X : Type 0} (o : Option X) → is_some o ≡ true → (x : X) × (o ≡ Some x)
some-is None h = cc
some-is (Some x) h = (x, refl)

-- what a file is, by its name
content-is : (files : List File) (name : FileName) (f : File) → file_named files name ≡ Some f → content_named files name ≡ OfFile f.generation f.bytes f.moment
content-is files name f e = ap (λ (o : Option File). content_of o false false) e

module _ (limits : Limits) (tree : Held) (t : SoundTree tree) (held : ℕ → RightSet) (documents : List Document) (cs : List OwnConnection)
    (v : AppView) (wide : (path : List ℕ) → is_among (named_paths (held_documents held documents) cs) path ≡ true → knows v path ≡ true)
    (covered : (path : List ℕ) → list_any (λ x. is_at_or_below x path) (folder_paths (held_documents held documents)) ≡ true → knows v path ≡ true)
    (by_name : (name : FileName) → is_held tree name ≡ true → is_held_name (names_held cs) name ≡ true → has_file v name ≡ true)
    (by_path : (name : FileName) → stands tree name ≡ true → knows v name.path ≡ true → has_file v name ≡ true)
    (firsts : (path : List ℕ) → is_held_name (names_held cs) (first_of path) ≡ true → knows v path ≡ true) where
  -- no path of which the view tells is empty
  abbrev pub NoneEmpty : Type 0
  NoneEmpty = (path : List ℕ) → knows v path ≡ true → is_same path [] ≡ false

  abbrev mine : Held → AppView
  mine fs = view_over limits fs (held_documents held documents) cs

  never : {b : Bool} → b ≡ false → (c : Bool) → (c ≡ true → b ≡ true) → c ≡ false
  never e true f = let no : true ≡ false = sym (f refl) ∙ e in cc
  never e false f = refl

  untold : (path : List ℕ) → knows v path ≡ false → (is_among (named_paths (held_documents held documents) cs) path ≡ false) × (list_any (λ x. is_at_or_below x path) (folder_paths (held_documents held documents)) ≡ false)
  untold path e = (
    never e (is_among (named_paths (held_documents held documents) cs) path) (wide path),
    never e (list_any (λ x. is_at_or_below x path) (folder_paths (held_documents held documents))) (covered path),
  )

  -- a file that no connection names
  stays-unheld : (more : Held) (name : FileName) (generation : ℕ) (bytes : List ℕ) (moment : ℕ) → IsNamedThen (all_held tree) (all_held more) name generation bytes moment → is_held_name (names_held cs) name ≡ false →
      (n : FileName) → is_held_name (names_held cs) n ≡ true → named_in (all_held tree) n ≡ named_in (all_held more) n
  stays-unheld more name generation bytes moment e f n h = sym (e n ∙ step (same_name name n) refl)
    where
      step : (b : Bool) → same_name name n ≡ b → cond b (Some (record { name = name; bytes = bytes; moment = moment })) (named_in (all_held tree) n) ≡ named_in (all_held tree) n
      step true k = let no : true ≡ false = sym h ∙ (ap (is_held_name (names_held cs)) (sym (name-eq name n k)) ∙ f) in cc
      step false k = refl

  module _ (file : FileName → Content) (name : FileName) (alike : has_file v name ≡ true → file name ≡ content_named (all_held tree) name) (new : List ℕ → List ℕ) (now : ℕ) (change : File → File)
      (c : (f : File) → change f ≡ record f { bytes = new f.bytes; moment = now }) (there : is_held tree name ≡ true) where
    abbrev then_tree : Held
    then_tree = change_held name change tree

    found-there : (f : File) × (file_named (all_held tree) name ≡ Some f)
    found-there = some-is (file_named (all_held tree) name) there

    abbrev old : List ℕ
    old = found-there.0.bytes

    keeps-path : (f : File) → (change f).path ≡ f.path
    keeps-path f = ap (λ (x : File). x.path) (c f)

    keeps-generation : (f : File) → (change f).generation ≡ f.generation
    keeps-generation f = ap (λ (x : File). x.generation) (c f)

    number : found-there.0.generation ≡ name.generation
    number = ap (λ (n : FileName). n.generation) (found-name (all_held tree) name found-there.0 found-there.1)

    some-same : (a b : File) → Some a ≡ Some b → a ≡ b
    some-same a b e = cc

    is : (f : File) → file_named (all_held tree) name ≡ Some f → OfFile name.generation (new old) now ≡ OfFile (change f).generation (change f).bytes (change f).moment
    is f e =
        let same : found-there.0 ≡ f = some-same found-there.0 f (sym found-there.1 ∙ e) in
        (λ i. OfFile (sym number i) (new old) now)
        ∙ (ap (λ (x : File). OfFile x.generation (new x.bytes) now) same ∙ (λ i. OfFile (sym (c f) i).generation (sym (c f) i).bytes (sym (c f) i).moment))

    seen : IsSeen (λ p. is_among (named_paths (held_documents held documents) cs) p ≡ true) tree.present then_tree.present name.path name.generation (OfFile name.generation (new old) now)
    seen = named-seen tree t name there change keeps-path keeps-generation (OfFile name.generation (new old) now) is _

    then_is : IsThen tree.present then_tree.present name.path name.generation (OfFile name.generation (new old) now)
    then_is = named-then tree t name there change keeps-path keeps-generation (OfFile name.generation (new old) now) is (λ f. c f ∙ (λ i. record f { bytes = (sym (c f) i).bytes; moment = (sym (c f) i).moment }))

    named : IsNamedThen (all_held tree) (all_held then_tree) name name.generation (new old) now
    named =
        subst (λ (x : File). IsNamedThen (all_held tree) (all_held then_tree) name name.generation x.bytes x.moment) (c found-there.0)
        (changed-then name change keeps-path keeps-generation tree found-there.0 found-there.1)

    changed-untold : has_file v name ≡ false → mine tree ≡ mine then_tree
    changed-untold e = by_place (stands tree name) refl
      where
        unheld : is_held_name (names_held cs) name ≡ false
        unheld = never e (is_held_name (names_held cs) name) (by_name name there)

        stay : (n : FileName) → is_held_name (names_held cs) n ≡ true → named_in (all_held tree) n ≡ named_in (all_held then_tree) n
        stay = stays-unheld then_tree name name.generation (new old) now named unheld

        by_place : (s : Bool) → stands tree name ≡ s → mine tree ≡ mine then_tree
        by_place true h =
            let unknown : knows v name.path ≡ false = never e (knows v name.path) (by_path name h) in
            view-unnamed limits tree then_tree held documents cs name.path name.generation (new old) now seen then_is (untold name.path unknown).0 (untold name.path unknown).1 stay
        by_place false h =
            view-beside limits tree then_tree held documents cs name.path name.generation (new old) now seen then_is
            (beside-content tree t name there (OfFile name.generation (new old) now) h) (beside-file tree t name there (OfFile name.generation (new old) now) h) stay

    bytes-changed : apply_all (mine tree) (cond (has_file v name) (has_bytes name (new (bytes_in (file name))) now ∷ []) []) ≡ mine then_tree
    bytes-changed = by_told (has_file v name) refl
      where
        by_told : (b : Bool) → has_file v name ≡ b → apply_all (mine tree) (cond b (has_bytes name (new (bytes_in (file name))) now ∷ []) []) ≡ mine then_tree
        by_told true e =
            ap (λ (x : Content). apply (mine tree) (has_bytes name (new (bytes_in x)) now)) (alike e ∙ content-is (all_held tree) name found-there.0 found-there.1)
            ∙ view-bytes limits tree then_tree held documents cs name.path name.generation (new old) now seen then_is named
        by_told false e = changed-untold e

  same_files : (name : FileName) (fs : List File) (now offset : ℕ) → map (λ (f : File). cond (is_named name f) (written offset [] now f) f) fs ≡ fs
  same_files name [] now offset = refl
  same_files name (f ∷ fs) now offset = elim (is_named name f) as (λ b. cond b f f ∷ map (λ (x : File). cond (is_named name x) (written offset [] now x) x) fs ≡ f ∷ fs) [
    | true ↦ ap (λ (xs : List File). f ∷ xs) (same_files name fs now offset)
    | false ↦ ap (λ (xs : List File). f ∷ xs) (same_files name fs now offset)
  ]

  -- the first file of a path is none of those that are there
  no-first : (path : List ℕ) → look_at tree.present path ≡ Look.Missing → file_named (all_held tree) (first_of path) ≡ None
  no-first path missing = step (file_named (all_held tree) (first_of path)) refl
    where
      step : (o : Option File) → file_named (all_held tree) (first_of path) ≡ o → o ≡ None
      step None e = refl
      step (Some f) e =
          let there : is_some (file_at tree.present path) ≡ true = first-followed tree t (first_of path) refl (ap is_some e) in
          let no : false ≡ true = sym (ap is_some (missing-is tree.present path missing).0) ∙ there in
          cc

  module _ (path : List ℕ) (now : ℕ) (some : NoneEmpty) (missing : look_at tree.present path ≡ Look.Missing) (room : has_room tree.present path ≡ true) where
    abbrev made_tree : Held
    made_tree = put_present (new_file path now) tree

    seen-made : IsSeen (λ p. is_among (named_paths (held_documents held documents) cs) p ≡ true) tree.present made_tree.present path 0 (OfFile 0 [] now)
    seen-made = made-seen tree.present path now missing room (λ p. is_among (named_paths (held_documents held documents) cs) p ≡ true) (λ p h. some p (wide p h))

    named-made : IsNamedThen (all_held tree) (all_held made_tree) (first_of path) 0 [] now
    named-made = put-then tree.hidden tree.present (new_file path now) (no-first path missing)

    made-changed : apply_all (mine tree) (cond (knows v path) (has_bytes (first_of path) [] now ∷ []) []) ≡ mine made_tree
    made-changed = by_told (knows v path) refl
      where
        by_told : (b : Bool) → knows v path ≡ b → apply_all (mine tree) (cond b (has_bytes (first_of path) [] now ∷ []) []) ≡ mine made_tree
        by_told true e = view-bytes limits tree made_tree held documents cs path 0 [] now seen-made (made-then tree.present path now missing room) named-made
        by_told false e =
            view-unnamed limits tree made_tree held documents cs path 0 [] now seen-made (made-then tree.present path now missing room) (untold path e).0 (untold path e).1
            (stays-unheld made_tree (first_of path) 0 [] now named-made (never e (is_held_name (names_held cs) (first_of path)) (firsts path)))

  module _ (file : FileName → Content) (name : FileName) (alike : knows v name.path ≡ true → file name ≡ content_named (all_held tree) name) (some : NoneEmpty) (there : is_held tree name ≡ true) where
    turning : (f : File) × (file_named (all_held tree) name ≡ Some f)
    turning = some-is (file_named (all_held tree) name) there

    turning-name : name_of_file turning.0 ≡ name
    turning-name = found-name (all_held tree) name turning.0 turning.1

    turns : TurnsTo tree.present (turned name tree).present name.path turning.0
    turns = turns-to tree t name turning.0 turning.1

    placed : IsPlaced (λ p. is_among (named_paths (held_documents held documents) cs) p ≡ true) tree.present (turned name tree).present name.path (OfFile name.generation turning.0.bytes turning.0.moment)
    placed p on =
        ap (λ (n : FileName). cond (is_same p name.path) (OfFile n.generation turning.0.bytes turning.0.moment) (content_at tree.present p)) (sym turning-name)
        ∙ turns-placed tree.present (turned name tree).present name.path turning.0 turns (λ q. is_among (named_paths (held_documents held documents) cs) q ≡ true) (λ q h. some q (wide q h)) p on

    turned_is : IsTurned tree.present (turned name tree).present name.path (file_of name.path name.generation turning.0.bytes turning.0.moment)
    turned_is p =
        turns.found p
        ∙ ap (λ (n : FileName). cond (is_same p name.path) (Some (file_of n.path n.generation turning.0.bytes turning.0.moment)) (file_at tree.present p)) turning-name

    turned-stay : (n : FileName) → is_held_name (names_held cs) n ≡ true → named_in (all_held tree) n ≡ named_in (all_held (turned name tree)) n
    turned-stay n h = ap (option_map (named_of n)) (sym (turned-named tree t name n))

    turned-content : (b : Bool) → knows v name.path ≡ b → cond b (Turned name.path name.generation (file name) ∷ []) [] ≡ cond b (Turned name.path name.generation (OfFile name.generation turning.0.bytes turning.0.moment) ∷ []) []
    turned-content true e =
        ap (λ (x : Content). Turned name.path name.generation x ∷ [])
        (alike e ∙ (content-is (all_held tree) name turning.0 turning.1 ∙ ap (λ (n : FileName). OfFile n.generation turning.0.bytes turning.0.moment) turning-name))
    turned-content false e = refl

    turned-changed : apply_all (mine tree) (cond (knows v name.path) (Turned name.path name.generation (file name) ∷ []) []) ≡ mine (turned name tree)
    turned-changed =
        ap (apply_all (mine tree)) (turned-content (knows v name.path) refl)
        ∙ view-if-turned limits tree (turned name tree) held documents cs name.path name.generation turning.0.bytes turning.0.moment placed turned_is turned-stay (knows v name.path) (untold name.path)

  -- ---- a file beside the present ones

  module _ (name : FileName) (now : ℕ) (none : is_held tree name ≡ false) where
    not-named : file_named (all_held tree) name ≡ None
    not-named = step (file_named (all_held tree) name) refl
      where
        step : (o : Option File) → file_named (all_held tree) name ≡ o → o ≡ None
        step None e = refl
        step (Some f) e = let no : true ≡ false = sym (ap is_some e) ∙ none in cc

    freshened-named : IsNamedThen (all_held tree) (all_held (freshened name now tree)) name name.generation [] now
    freshened-named = added-then tree.hidden tree.present (fresh_file name now) not-named

    -- a view that doesn't name it
    added-unseen : is_held_name (names_held cs) name ≡ false → mine tree ≡ mine (freshened name now tree)
    added-unseen f = view-same limits tree (freshened name now tree) held documents cs (λ p h. refl) (λ folder h. refl) (stays-unheld (freshened name now tree) name name.generation [] now freshened-named f)

    not-standing : stands tree name ≡ false
    not-standing = step (file_at tree.present name.path) refl
      where
        step : (o : Option File) → file_at tree.present name.path ≡ o → is_standing name.generation o ≡ false
        step None e = refl
        step (Some f) e = by_generation (f.generation == name.generation) refl
          where
            by_generation : (b : Bool) → (f.generation == name.generation) ≡ b → b ≡ false
            by_generation true h = let no : Some f ≡ None = sym (standing-named tree t name f e h) ∙ not-named in cc
            by_generation false h = refl

    -- that of who makes it
    added-own : (name.generation == 0) ≡ false → apply (mine tree) (has_bytes name [] now) ≡ mine (freshened name now tree)
    added-own first = view-bytes limits tree (freshened name now tree) held documents cs name.path name.generation [] now seen then_is freshened-named
      where
        content : (p : List ℕ) (b : Bool) → is_same p name.path ≡ b → (o : Option File) → file_at tree.present p ≡ o → (folder room : Bool) →
            cond b (changed_content name.generation (OfFile name.generation [] now) (content_of o folder room)) (content_of o folder room) ≡ content_of o folder room
        content p true h None e true room = refl
        content p true h None e false room = ap (λ (c : Bool). cond c (OfFile name.generation [] now) (content_of None false room)) first
        content p true h (Some f) e folder room =
            let other : is_standing name.generation (Some f) ≡ false = ap (is_standing name.generation) (sym (ap (file_at tree.present) (sym (is_same-eq p name.path h)) ∙ e)) ∙ not-standing in
            ap (λ (c : Bool). cond c (OfFile name.generation [] now) (OfFile f.generation f.bytes f.moment)) other
        content p false h o e folder room = refl

        seen : IsSeen (λ p. is_among (named_paths (held_documents held documents) cs) p ≡ true) tree.present tree.present name.path name.generation (OfFile name.generation [] now)
        seen p on = content p (is_same p name.path) refl (file_at tree.present p) refl (is_folder tree.present p) (has_room tree.present p)

        file : (o : Option File) → file_at tree.present name.path ≡ o → file_then name.path name.generation (OfFile name.generation [] now) o ≡ o
        file None e = ap (λ (c : Bool). cond c (file_first name.path (OfFile name.generation [] now)) None) first
        file (Some f) e =
            let other : is_standing name.generation (Some f) ≡ false = ap (is_standing name.generation) (sym e) ∙ not-standing in
            ap (λ (c : Bool). Some (cond c (with_content_of (OfFile name.generation [] now) f) f)) other

        then_is : IsThen tree.present tree.present name.path name.generation (OfFile name.generation [] now)
        then_is p = by_same (is_same p name.path) refl
          where
            by_same : (b : Bool) → is_same p name.path ≡ b → file_at tree.present p ≡ cond b (file_then name.path name.generation (OfFile name.generation [] now) (file_at tree.present name.path)) (file_at tree.present p)
            by_same true h = ap (file_at tree.present) (is_same-eq p name.path h) ∙ sym (file (file_at tree.present name.path) refl)
            by_same false h = refl

  -- ---- of another, and of the application itself

  -- what its own file of a name is, where the view has that
  abbrev pub AreOwn : (FileName → Content) → Type 0
  AreOwn file = (name : FileName) → is_held tree name ≡ true → has_file v name ≡ true → file name ≡ content_named (all_held tree) name

  module _ (Known New : FileName → Type 0) (new : (name : FileName) → New name → (is_held tree name ≡ false) × ((name.generation == 0) ≡ false)) where
    pub other-effects : (file : FileName → Content) → AreOwn file → ((name : FileName) → Known name → file name ≡ content_named (all_held tree) name) → ((name : FileName) → New name → is_held_name (names_held cs) name ≡ false) → NoneEmpty →
        (change : FileChange) → CanChange tree Known New change → apply_all (mine tree) (file_effects v file change) ≡ mine (files_after true change tree)
    other-effects file own known unheld some FilesStay h = refl
    other-effects file own known unheld some (Writes name offset [] now) h = λ i. mine (held_with (sym (same_files name tree.present now offset) i) (sym (same_files name tree.hidden now offset) i))
    other-effects file own known unheld some (Writes name offset (b ∷ bs) now) h = bytes-changed file name (own name h) (λ old. overlaid old offset (b ∷ bs)) now (written offset (b ∷ bs) now) (λ f. refl) h
    other-effects file own known unheld some (Resizes name size now) h = bytes-changed file name (own name h) (λ old. cut_to size old) now (resized size now) (λ f. refl) h
    other-effects file own known unheld some (Creates path now) h = made-changed path now some h.0 h.1
    other-effects file own known unheld some (Adds name now) h = added-unseen name now (new name h).0 (unheld name h)
    other-effects file own known unheld some (Stands name) h = turned-changed file name (λ e. known name h.0) some h.1

    pub own-effects : AreOwn (own_file v) → ((name : FileName) → Known name → own_file v name ≡ content_named (all_held tree) name) → NoneEmpty →
        (change : FileChange) → CanChange tree Known New change → apply_all (mine tree) (own_effects v change) ≡ mine (files_after true change tree)
    own-effects own known some FilesStay h = refl
    own-effects own known some (Writes name offset [] now) h = λ i. mine (held_with (sym (same_files name tree.present now offset) i) (sym (same_files name tree.hidden now offset) i))
    own-effects own known some (Writes name offset (b ∷ bs) now) h = bytes-changed (own_file v) name (own name h) (λ old. overlaid old offset (b ∷ bs)) now (written offset (b ∷ bs) now) (λ f. refl) h
    own-effects own known some (Resizes name size now) h = bytes-changed (own_file v) name (own name h) (λ old. cut_to size old) now (resized size now) (λ f. refl) h
    own-effects own known some (Creates path now) h = made-changed path now some h.0 h.1
    own-effects own known some (Adds name now) h = added-own name now (new name h).0 (new name h).1
    own-effects own known some (Stands name) h = turned-changed (own_file v) name (λ e. known name h.0) some h.1
