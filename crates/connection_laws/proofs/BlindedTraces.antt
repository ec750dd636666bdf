-- The replies of the own machine over a blinded trace.
use Rattle.std.proofs.Common.{◌≡◌, ℕ, ◌==◌, List, [], ◌∷◌, ◌++◌, append_assoc, length, map, replicate, Bool, true, false, ◌&&◌, ◌||◌, cond, Option, Some, None, is_some, refl, sym, ap, subst, ◌∙◌}
use Rattle.std.specs.List.{AllByRecursion, flat_map, list_all}
use Rattle.std.specs.Option.{option_map}
use Rattle.std.proofs.lemmas.List.{length-replicate}
use Rattle.portal_base.specs.Content.{file_at, is_named}
use Rattle.portal_base.specs.FileChanges.{change_named}
use Rattle.portal_base.specs.Names.{is_same}
use Rattle.file_generations.specs.Generations.{Held, all_held}
use Rattle.portal_base.specs.declared.files.File.{File}
use Rattle.portal_base.specs.declared.files.FileName.{FileName}
use Rattle.portal_model.specs.declared.entry.Entry.{Entry}
use Rattle.portal_model.specs.declared.reply.Reply.{Reply}
use Rattle.portal_model.specs.Content.{Content, OfFile, OfFolder, NotThere}
use Rattle.portal_model.specs.History.{EachLawful, makes, replies}
use Rattle.portal_model.specs.Lawful.{Lawful}
use Rattle.portal_model.specs.Ordered.{is_rising}
use Rattle.portal_model.proofs.DocumentChanges.{first_of_both, second_of_both}
use Rattle.portal_model.specs.State.{State, held_in, held_of}
use Rattle.portal_model.specs.Step.{after, reply_at}
use Rattle.portal_model.specs.Valid.{Valid}
use Rattle.portal_model.proofs.ListLookups.{found_passes, is_same-eq, is_same-refl}
use Rattle.portal_model.proofs.RisingLists.{rising-put}
use Rattle.portal_model.proofs.StaysTold.{step_told}
use Rattle.portal_model.proofs.ValidLaws.{after-Valid}
use Rattle.app_world.specs.Effect as effect
use Rattle.app_world.specs.Effect.{Effect, Bytes, apply, apply_all, changed_content, file_of as file_made, with_bytes, with_bytes_below, with_content_of, with_file, with_file_at, with_named}
use Rattle.app_world.specs.Own.{Own}
use Rattle.app_world.specs.TraceItem as item
use Rattle.app_world.specs.TraceItem.{TraceItem, item_of}
use Rattle.app_world.specs.View.{AppView, Holding, NamedFile, PathBelow, PathContent, folder_paths, found_named, is_at_or_below, named_ahead, named_as, named_paths, name_less, names_held, own_connections, prune, same_name, view}
use Rattle.app_world.specs.World.{app_step, own_of, own_replies, touch}
use Rattle.app_world.proofs.Found.{find-changed, find-put, told-apart}
use Rattle.app_world.proofs.HandleChangeLaws.{prune-named}
use Rattle.app_world.proofs.HeldFiles.{SoundTree, name-turned}
use Rattle.app_world.proofs.NamedFiles.{file_names, name-eq, named-changed, named-rising}
use Rattle.app_world.proofs.ViewedNames.{tree-sound}
use Rattle.app_world.proofs.WorldLaws.{steps}
use Rattle.connection_laws.specs.Blinded.{blind_at, blind_below, blind_but, blind_content, blind_file, blind_named, blinded, file_of, hidden, hidden_file, hidden_holding, hidden_named, nothing, own_blinded, reads}
use Rattle.connection_laws.specs.BlindedTrace.{blinded_effects, blinded_items, hidden_effect, sight_at, sight_of, sight_of_named, sights}
use Rattle.connection_laws.specs.Unread.{BlindedStepsAreSeen, IsOwnEntry, RepliesAreOfTheBlindedTrace}
use Rattle.connection_laws.proofs.BlindedViews.{AllFit, Fit, apply-blind, apply_all-same, blind_effect, file-found, named-kept, path-kept, view-twice}
use Rattle.connection_laws.proofs.BlindedNodes.{itself}
use Rattle.connection_laws.proofs.KnownFiles.{HasAll, HasIt, all-named, all-stay, all-there, below-placed, blocks-stay, contents-at, has-append, has-each, is_placed, known-at, known-named, known_file, known_in, known_named, named-so}
use Rattle.connection_laws.proofs.BlindedSteps.{all-blind, file-hidden-twice, hidden-is, hidden-twice, holding-alike, holding-twice, named-hidden-twice, pair-blinded, same-reply}

-- ---- one file comes into sight

-- this file, too
abbrev seeing : (FileName → Bool) → List ℕ → ℕ → FileName → Bool
seeing sees path generation name = sees name || (is_same name.path path && name.generation == generation)

or-false : (x : Bool) → (x || false) ≡ x
or-false true = refl
or-false false = refl

or-true : (x : Bool) → (x || true) ≡ true
or-true true = refl
or-true false = refl

placed-kept : (sees : FileName → Bool) (bs : List PathBelow) → list_all is_placed (map (blind_below sees) bs) ≡ list_all is_placed bs
placed-kept sees [] = refl
placed-kept sees (b ∷ bs) = λ i. all_kept b.files i && placed-kept sees bs i
  where
    all_kept : (fs : List File) → list_all (λ (f : File). is_at_or_below b.path f.path) (map (blind_file sees) fs) ≡ list_all (λ (f : File). is_at_or_below b.path f.path) fs
    all_kept [] = refl
    all_kept (f ∷ fs) = λ i. is_at_or_below b.path (path-kept sees f i) && all_kept fs i

-- and the files that are known by their names are in order
rising-kept : (sees : FileName → Bool) (fs : List NamedFile) → is_rising named_ahead (map (blind_named sees) fs) ≡ is_rising named_ahead fs
rising-kept sees [] = refl
rising-kept sees (f ∷ fs) = λ i. all_kept fs i && rising-kept sees fs i
  where
    all_kept : (gs : List NamedFile) → list_all (named_ahead (blind_named sees f)) (map (blind_named sees) gs) ≡ list_all (named_ahead f) gs
    all_kept [] = refl
    all_kept (g ∷ gs) = λ i. name_less (named-kept sees f i) (named-kept sees g i) && all_kept gs i

module _ (sees : FileName → Bool) (path : List ℕ) (generation : ℕ) (bytes : List ℕ) (moment : ℕ) where
  abbrev fresh : Content
  fresh = OfFile generation bytes moment

  abbrev f : Effect
  f = Bytes path generation fresh

  abbrev wide : FileName → Bool
  wide = seeing sees path generation

  becomes : (g : ℕ) (old : List ℕ) (since : ℕ) (b : Bool) → (g == generation) ≡ true → changed_content generation fresh (cond b (OfFile g old since) (OfFile g (replicate (length old) 0) since)) ≡ fresh
  becomes g old since true e = rw e refl
  becomes g old since false e = rw e refl

  -- what becomes of the file of this name doesn't depend on what it was
  old-same : (here : List ℕ) (x : Bool) → is_same here path ≡ x → (c : Content) → cond x (changed_content generation fresh (blind_at wide here c)) (blind_at wide here c) ≡ cond x (changed_content generation fresh (blind_at sees here c)) (blind_at sees here c)
  old-same here x e OfFolder = refl
  old-same here x e (NotThere room) = refl
  old-same here x e (OfFile g old since) = by_name x (g == generation) e refl
    where
      by_name : (x y : Bool) → is_same here path ≡ x → (g == generation) ≡ y →
          cond x (changed_content generation fresh (blind_at wide here (OfFile g old since))) (blind_at wide here (OfFile g old since)) ≡ cond x (changed_content generation fresh (blind_at sees here (OfFile g old since))) (blind_at sees here (OfFile g old since))
      by_name false y e k =
          ap (λ (b : Bool). cond (sees (file_of here g) || (b && g == generation)) (OfFile g old since) (OfFile g (replicate (length old) 0) since)) e
          ∙ ap (λ (b : Bool). cond b (OfFile g old since) (OfFile g (replicate (length old) 0) since)) (or-false (sees (file_of here g)))
      by_name true false e k =
          ap (λ (b : Bool). changed_content generation fresh (cond (sees (file_of here g) || (is_same here path && b)) (OfFile g old since) (OfFile g (replicate (length old) 0) since))) k
          ∙ (ap (λ (b : Bool). changed_content generation fresh (cond (sees (file_of here g) || (b && false)) (OfFile g old since) (OfFile g (replicate (length old) 0) since))) e
          ∙ ap (λ (b : Bool). changed_content generation fresh (cond b (OfFile g old since) (OfFile g (replicate (length old) 0) since))) (or-false (sees (file_of here g))))
      by_name true true e k = becomes g old since (wide (file_of here g)) k ∙ sym (becomes g old since (sees (file_of here g)) k)

  one-same : (c : PathContent) → with_bytes path generation fresh (blind_content wide c) ≡ with_bytes path generation fresh (blind_content sees c)
  one-same c = joined (is_same c.path path) ∙ ((λ i. record c { content = old-same c.path (is_same c.path path) refl c.content i }) ∙ sym (apart (is_same c.path path)))
    where
      joined : (x : Bool) → cond x (record c { content = changed_content generation fresh (blind_at wide c.path c.content) }) (blind_content wide c) ≡ record c { content = cond x (changed_content generation fresh (blind_at wide c.path c.content)) (blind_at wide c.path c.content) }
      joined true = refl
      joined false = refl

      apart : (x : Bool) → cond x (record c { content = changed_content generation fresh (blind_at sees c.path c.content) }) (blind_content sees c) ≡ record c { content = cond x (changed_content generation fresh (blind_at sees c.path c.content)) (blind_at sees c.path c.content) }
      apart true = refl
      apart false = refl

  all-same : (cs : List PathContent) → map (with_bytes path generation fresh) (map (blind_content wide) cs) ≡ map (with_bytes path generation fresh) (map (blind_content sees) cs)
  all-same [] = refl
  all-same (c ∷ cs) = λ i. one-same c i ∷ all-same cs i

  -- ---- below folders

  abbrev told_name : FileName
  told_name = record { path = path; generation = generation }

  is-kept : (t : FileName → Bool) (x : File) → is_named told_name (blind_file t x) ≡ is_named told_name x
  is-kept t x = elim (t (file_of x.path x.generation)) as (λ b. is_named told_name (cond b x (hidden_file x)) ≡ is_named told_name x) [ true ↦ refl | false ↦ refl ]

  -- any other file is in sight as before
  same-elsewhere : (x : File) → is_named told_name x ≡ false → blind_file wide x ≡ blind_file sees x
  same-elsewhere x e =
      ap (λ (b : Bool). cond (sees (file_of x.path x.generation) || b) x (hidden_file x)) e
      ∙ ap (λ (b : Bool). cond b x (hidden_file x)) (or-false (sees (file_of x.path x.generation)))

  abbrev renewed : (FileName → Bool) → File → File
  renewed t x = cond (is_named told_name (blind_file t x)) (with_content_of fresh (blind_file t x)) (blind_file t x)

  one-file : (x : File) → renewed wide x ≡ renewed sees x
  one-file x =
      ap (λ (b : Bool). cond b (with_content_of fresh (blind_file wide x)) (blind_file wide x)) (is-kept wide x)
      ∙ (by_name (is_named told_name x) refl
      ∙ sym (ap (λ (b : Bool). cond b (with_content_of fresh (blind_file sees x)) (blind_file sees x)) (is-kept sees x)))
    where
      by_name : (b : Bool) → is_named told_name x ≡ b → cond b (with_content_of fresh (blind_file wide x)) (blind_file wide x) ≡ cond b (with_content_of fresh (blind_file sees x)) (blind_file sees x)
      by_name true e = λ i. record { path = (path-kept wide x ∙ sym (path-kept sees x)) i; generation = generation; bytes = bytes; moment = moment }
      by_name false e = same-elsewhere x e

  renewed-same : (fs : List File) → change_named told_name (with_content_of fresh) (map (blind_file wide) fs) ≡ change_named told_name (with_content_of fresh) (map (blind_file sees) fs)
  renewed-same [] = refl
  renewed-same (x ∷ xs) = λ i. one-file x i ∷ renewed-same xs i

  none-here : (fs : List File) → file_at fs path ≡ None → map (blind_file wide) fs ≡ map (blind_file sees) fs
  none-here [] e = refl
  none-here (x ∷ xs) e = by_path (is_same x.path path) refl e (none-here xs)
    where
      by_path : (b : Bool) → is_same x.path path ≡ b → cond b (Some x) (file_at xs path) ≡ None → (file_at xs path ≡ None → map (blind_file wide) xs ≡ map (blind_file sees) xs) →
          blind_file wide x ∷ map (blind_file wide) xs ≡ blind_file sees x ∷ map (blind_file sees) xs
      by_path true k g more = cc
      by_path false k g more = λ i. same-elsewhere x (ap (λ (b : Bool). b && x.generation == generation) k) i ∷ more g i

  some-kept : (t : FileName → Bool) (fs : List File) → is_some (file_at (map (blind_file t) fs) path) ≡ is_some (file_at fs path)
  some-kept t fs = ap is_some (file-found t path fs) ∙ by_file (file_at fs path)
    where
      by_file : (o : Option File) → is_some (option_map (blind_file t) o) ≡ is_some o
      by_file None = refl
      by_file (Some f) = refl

  abbrev then_files : Bool → List File → List File
  then_files b fs = cond b (change_named told_name (with_content_of fresh) fs) (cond (generation == 0) (with_file_at path fresh fs) fs)

  files-same : (fs : List File) → with_file path generation fresh (map (blind_file wide) fs) ≡ with_file path generation fresh (map (blind_file sees) fs)
  files-same fs =
      ap (λ (b : Bool). then_files b (map (blind_file wide) fs)) (some-kept wide fs)
      ∙ (by_there (file_at fs path) refl
      ∙ sym (ap (λ (b : Bool). then_files b (map (blind_file sees) fs)) (some-kept sees fs)))
    where
      by_there : (o : Option File) → file_at fs path ≡ o → then_files (is_some o) (map (blind_file wide) fs) ≡ then_files (is_some o) (map (blind_file sees) fs)
      by_there (Some f) e = renewed-same fs
      by_there None e = λ i. cond (generation == 0) (with_file_at path fresh (none-here fs e i)) (none-here fs e i)

  others-same : (folder : List ℕ) (fs : List File) → list_all (λ (f : File). is_at_or_below folder f.path) fs ≡ true → is_at_or_below folder path ≡ false → map (blind_file wide) fs ≡ map (blind_file sees) fs
  others-same folder [] h e = refl
  others-same folder (x ∷ xs) h e =
      λ i. same-elsewhere x (by_path (is_same x.path path) refl) i ∷ others-same folder xs (second_of_both (is_at_or_below folder x.path) (list_all (λ (f : File). is_at_or_below folder f.path) xs) h) e i
    where
      by_path : (b : Bool) → is_same x.path path ≡ b → (b && x.generation == generation) ≡ false
      by_path true k =
          let here : is_at_or_below folder x.path ≡ true = first_of_both (is_at_or_below folder x.path) (list_all (λ (f : File). is_at_or_below folder f.path) xs) h in
          let no : true ≡ false = sym here ∙ (ap (is_at_or_below folder) (is_same-eq x.path path k) ∙ e) in
          cc
      by_path false k = refl

  block-same : (b : PathBelow) → is_placed b ≡ true → with_bytes_below path generation fresh (blind_below wide b) ≡ with_bytes_below path generation fresh (blind_below sees b)
  block-same b h = by_place (is_at_or_below b.path path) refl
    where
      by_place : (x : Bool) → is_at_or_below b.path path ≡ x →
          cond x (record b { files = with_file path generation fresh (map (blind_file wide) b.files) }) (blind_below wide b) ≡ cond x (record b { files = with_file path generation fresh (map (blind_file sees) b.files) }) (blind_below sees b)
      by_place true e = λ i. record b { files = files-same b.files i }
      by_place false e = λ i. record b { files = others-same b.path b.files h e i }

  blocks-same : (bs : List PathBelow) → list_all is_placed bs ≡ true → map (with_bytes_below path generation fresh) (map (blind_below wide) bs) ≡ map (with_bytes_below path generation fresh) (map (blind_below sees) bs)
  blocks-same [] h = refl
  blocks-same (b ∷ bs) h = λ i. block-same b (first_of_both (is_placed b) (list_all is_placed bs) h) i ∷ blocks-same bs (second_of_both (is_placed b) (list_all is_placed bs) h) i

  -- ---- by their names

  abbrev known_now : NamedFile
  known_now = record { name = told_name; bytes = bytes; moment = moment }

  still-named : (n : FileName) (o : Option NamedFile) → ((f : NamedFile) → o ≡ Some f → named_as f ≡ n) → same_name told_name n ≡ false → option_map (blind_named wide) o ≡ option_map (blind_named sees) o
  still-named n None h e = refl
  still-named n (Some f) h e =
      let other : same_name f.name told_name ≡ false = ap (λ (m : FileName). same_name m told_name) (h f refl) ∙ (name-turned n told_name ∙ e) in
      ap Some
      (ap (λ (b : Bool). cond (sees f.name || b) f (hidden_named f)) other
      ∙ ap (λ (b : Bool). cond b f (hidden_named f)) (or-false (sees f.name)))

  named-same : (fs : List NamedFile) → is_rising named_ahead fs ≡ true → with_named told_name fresh (map (blind_named wide) fs) ≡ with_named told_name fresh (map (blind_named sees) fs)
  named-same fs h =
      told-apart _ _ named_as file_names (with_named told_name fresh (map (blind_named wide) fs)) (with_named told_name fresh (map (blind_named sees) fs))
      (rising-put _ _ named_as file_names known_now (map (blind_named wide) fs) (rising-kept wide fs ∙ h)) (rising-put _ _ named_as file_names known_now (map (blind_named sees) fs) (rising-kept sees fs ∙ h)) (λ n.
      find-put _ _ named_as file_names n known_now (map (blind_named wide) fs)
      ∙ (by_name n (same_name told_name n) refl ∙ sym (find-put _ _ named_as file_names n known_now (map (blind_named sees) fs))))
    where
      by_name : (n : FileName) (b : Bool) → same_name told_name n ≡ b → cond b (Some known_now) (found_named (map (blind_named wide) fs) n) ≡ cond b (Some known_now) (found_named (map (blind_named sees) fs) n)
      by_name n true e = refl
      by_name n false e =
          find-changed _ _ named_as file_names (blind_named wide) (named-kept wide) n fs
          ∙ (still-named n (found_named fs n) (λ f k. name-eq (named_as f) n (found_passes (λ (x : NamedFile). same_name (named_as x) n) fs f k)) e
          ∙ sym (find-changed _ _ named_as file_names (blind_named sees) (named-kept sees) n fs))

  in_sight : wide (file_of path generation) ≡ true
  in_sight = ap (λ (b : Bool). sees (file_of path generation) || (b && generation == generation)) (is_same-refl path) ∙ (ap (λ (b : Bool). sees (file_of path generation) || b) (itself generation) ∙ or-true _)

  effect-is : blind_effect wide f ≡ f
  effect-is = ap (λ (b : Bool). Bytes path generation (cond b fresh (OfFile generation (replicate (length bytes) 0) moment))) in_sight

  come-is : (x : AppView) → list_all is_placed x.below ≡ true → is_rising named_ahead x.files ≡ true → blind_but wide (apply x f) ≡ apply (blind_but sees x) f
  come-is x h k =
      sym (apply-blind wide x f refl)
      ∙ (ap (apply (blind_but wide x)) effect-is
      ∙ (λ i. prune (record x { contents = all-same x.contents i; below = blocks-same x.below h i; files = named-same x.files k i })))

  -- of a view in which it has these bytes, an equal one
  comes : (v w : AppView) → list_all is_placed v.below ≡ true → is_rising named_ahead v.files ≡ true → apply v f ≡ v → blind_but sees w ≡ blind_but sees v → blind_but wide (apply w f) ≡ blind_but wide v
  comes v w p r stable h =
      let same : list_all is_placed w.below ≡ true = sym (placed-kept sees w.below) ∙ (ap (λ (x : AppView). list_all is_placed x.below) h ∙ (placed-kept sees v.below ∙ p)) in
      let rising : is_rising named_ahead w.files ≡ true = sym (rising-kept sees w.files) ∙ (ap (λ (x : AppView). is_rising named_ahead x.files) h ∙ (rising-kept sees v.files ∙ r)) in
      come-is w same rising ∙ (ap (λ (x : AppView). apply x f) h ∙ (sym (come-is v p r) ∙ ap (blind_but wide) stable))

apply_all-append : (fs ks : List Effect) (w : AppView) → apply_all w (fs ++ ks) ≡ apply_all (apply_all w fs) ks
apply_all-append [] ks w = refl
apply_all-append (f ∷ fs) ks w = apply_all-append fs ks (apply w f)

module _ (app : List ℕ) (s : State) (valid : Valid s) where
  abbrev v : AppView
  v = view s app

  abbrev tree : Held
  tree = held_in s

  sound : SoundTree tree
  sound = tree-sound app s valid

  -- all of which it tells
  abbrev all_known : List PathContent
  all_known = v.contents ++ (known_in v.below ++ map known_named v.files)

  known-are : HasAll tree all_known
  known-are =
      has-append tree v.contents (known_in v.below ++ map known_named v.files) (has-each tree sound v.contents (contents-at s.files (named_paths v.documents v.connections)))
      (has-append tree (known_in v.below) (map known_named v.files) (has-each tree sound (known_in v.below) (known-at s.files v.below (all-there s.files (folder_paths v.documents))))
      (known-named tree v.files (all-named tree (names_held v.connections))))

  stable : (path : List ℕ) (generation : ℕ) (bytes : List ℕ) (moment : ℕ) → HasIt tree path (OfFile generation bytes moment) → apply v (Bytes path generation (OfFile generation bytes moment)) ≡ v
  stable path generation bytes moment e =
      (λ i. prune (record v {
        contents = all-stay tree sound path generation bytes moment e v.contents (contents-at s.files (named_paths v.documents v.connections)) i;
        below = blocks-stay tree sound path generation bytes moment e v.below (all-there s.files (folder_paths v.documents)) i;
        files = with_named (file_of path generation) (OfFile generation bytes moment) v.files;
      }))
      ∙ (ap (λ (files : List NamedFile). record (prune v) { files = files })
      (named-changed (all_held tree) (all_held tree) (file_of path generation) generation bytes moment (names_held v.connections) (named-so tree sound path generation bytes moment e))
      ∙ (λ i. record (prune-still i) { files = v.files }))
    where
      prune-still : prune v ≡ v
      prune-still = prune-named s.limits tree (held_of s.rights app) s.documents (own_connections app s.handles s.connections) (own_connections app s.handles s.connections) [] refl (λ path h. h) (λ n h. h)

  -- ---- all that is in sight

  -- the view after what is told of one content
  abbrev told_at : List ℕ → Content → AppView → AppView
  told_at path (OfFile generation bytes moment) w = cond (reads v (file_of path generation)) (apply w (Bytes path generation (OfFile generation bytes moment))) w
  told_at path OfFolder w = w
  told_at path (NotThere room) w = w

  abbrev told_all : List PathContent → AppView → AppView
  told_all [] w = w
  told_all (c ∷ cs) w = told_all cs (told_at c.path c.content w)

  -- and what is in sight then
  abbrev seen_at : List ℕ → Content → (FileName → Bool) → FileName → Bool
  seen_at path (OfFile generation bytes moment) sees = cond (reads v (file_of path generation)) (seeing sees path generation) sees
  seen_at path OfFolder sees = sees
  seen_at path (NotThere room) sees = sees

  abbrev seen_all : List PathContent → (FileName → Bool) → FileName → Bool
  seen_all [] sees = sees
  seen_all (c ∷ cs) sees = seen_all cs (seen_at c.path c.content sees)

  one_told : (path : List ℕ) (c : Content) (sees : FileName → Bool) (w : AppView) → HasIt tree path c → blind_but sees w ≡ blind_but sees v → blind_but (seen_at path c sees) (told_at path c w) ≡ blind_but (seen_at path c sees) v
  one_told path OfFolder sees w e h = h
  one_told path (NotThere room) sees w e h = h
  one_told path (OfFile generation bytes moment) sees w e h = by_sight (reads v (file_of path generation))
    where
      by_sight : (x : Bool) → blind_but (cond x (seeing sees path generation) sees) (cond x (apply w (Bytes path generation (OfFile generation bytes moment))) w) ≡ blind_but (cond x (seeing sees path generation) sees) v
      by_sight true = comes sees path generation bytes moment v w (below-placed s.files (folder_paths v.documents)) (named-rising (all_held tree) (names_held v.connections)) (stable path generation bytes moment e) h
      by_sight false = h

  each_told : (cs : List PathContent) (sees : FileName → Bool) (w : AppView) → HasAll tree cs → blind_but sees w ≡ blind_but sees v → blind_but (seen_all cs sees) (told_all cs w) ≡ blind_but (seen_all cs sees) v
  each_told [] sees w a h = h
  each_told (c ∷ cs) sees w a h = each_told cs (seen_at c.path c.content sees) (told_at c.path c.content w) a.1 (one_told c.path c.content sees w a.0 h)

  -- ---- nothing that may be read is left out

  abbrev Covers : (FileName → Bool) → List ℕ → Content → Type 0
  Covers sees path (OfFile generation bytes moment) = reads v (file_of path generation) ≡ true → sees (file_of path generation) ≡ true
  Covers sees path OfFolder = Unit {0}
  Covers sees path (NotThere room) = Unit {0}

  abbrev CoversAll : (FileName → Bool) → List PathContent → Type 0
  CoversAll sees [] = Unit {0}
  CoversAll sees (c ∷ cs) = Covers sees c.path c.content × CoversAll sees cs

  seen-more : (path : List ℕ) (c : Content) (sees : FileName → Bool) (name : FileName) → sees name ≡ true → seen_at path c sees name ≡ true
  seen-more path OfFolder sees name h = h
  seen-more path (NotThere room) sees name h = h
  seen-more path (OfFile generation bytes moment) sees name h = by_sight (reads v (file_of path generation))
    where
      by_sight : (x : Bool) → cond x (seeing sees path generation) sees name ≡ true
      by_sight true = ap (λ (b : Bool). b || (is_same name.path path && name.generation == generation)) h
      by_sight false = h

  all-more : (cs : List PathContent) (sees : FileName → Bool) (name : FileName) → sees name ≡ true → seen_all cs sees name ≡ true
  all-more [] sees name h = h
  all-more (c ∷ cs) sees name h = all-more cs (seen_at c.path c.content sees) name (seen-more c.path c.content sees name h)

  one_covered : (path : List ℕ) (c : Content) (cs : List PathContent) (sees : FileName → Bool) → Covers (seen_all cs (seen_at path c sees)) path c
  one_covered path OfFolder cs sees = tt
  one_covered path (NotThere room) cs sees = tt
  one_covered path (OfFile generation bytes moment) cs sees = λ h.
      all-more cs (seen_at path (OfFile generation bytes moment) sees) (file_of path generation)
      (ap (λ (b : Bool). cond b (seeing sees path generation) sees (file_of path generation)) h ∙ in_sight sees path generation bytes moment)

  all_covered : (cs : List PathContent) (sees : FileName → Bool) → CoversAll (seen_all cs sees) cs
  all_covered [] sees = tt
  all_covered (c ∷ cs) sees = (one_covered c.path c.content cs sees, all_covered cs (seen_at c.path c.content sees))

  -- so what is equal there is equal when blinded
  module _ (sees : FileName → Bool) where
    blind_covered : (path : List ℕ) (c : Content) → Covers sees path c → Covers sees path (blind_at sees path c)
    blind_covered path OfFolder h = tt
    blind_covered path (NotThere room) h = tt
    blind_covered path (OfFile generation bytes moment) h = by_sight (sees (file_of path generation))
      where
        by_sight : (x : Bool) → Covers sees path (cond x (OfFile generation bytes moment) (OfFile generation (replicate (length bytes) 0) moment))
        by_sight true = h
        by_sight false = h

    blind_all_covered : (cs : List PathContent) → CoversAll sees cs → CoversAll sees (map (blind_content sees) cs)
    blind_all_covered [] h = tt
    blind_all_covered (c ∷ cs) h = (blind_covered c.path c.content h.0, blind_all_covered cs h.1)

    less : (path : List ℕ) (c : Content) → Covers sees path (blind_at sees path c) → blind_at (reads v) path (blind_at sees path c) ≡ blind_at (reads v) path c
    less path OfFolder h = refl
    less path (NotThere room) h = refl
    less path (OfFile generation bytes moment) h = by_sight (reads v (file_of path generation)) (sees (file_of path generation)) refl refl h
      where
        by_sight : (x y : Bool) → reads v (file_of path generation) ≡ x → sees (file_of path generation) ≡ y →
            Covers sees path (cond y (OfFile generation bytes moment) (OfFile generation (replicate (length bytes) 0) moment)) →
            blind_at (reads v) path (cond y (OfFile generation bytes moment) (OfFile generation (replicate (length bytes) 0) moment)) ≡ blind_at (reads v) path (OfFile generation bytes moment)
        by_sight x true e k h = refl
        by_sight true false e k h = let no : true ≡ false = sym (h e) ∙ k in cc
        by_sight false false e k h =
            let zeros : List ℕ = replicate (length bytes) 0 in
            ap (λ (b : Bool). cond b (OfFile generation zeros moment) (OfFile generation (replicate (length zeros) 0) moment)) e
            ∙ (ap (λ (n : ℕ). OfFile generation (replicate n 0) moment) (length-replicate (length bytes) 0)
            ∙ ap (λ (b : Bool). cond b (OfFile generation bytes moment) (OfFile generation (replicate (length bytes) 0) moment)) (sym e))

    less_all : (cs : List PathContent) → CoversAll sees (map (blind_content sees) cs) → map (blind_content (reads v)) (map (blind_content sees) cs) ≡ map (blind_content (reads v)) cs
    less_all [] h = refl
    less_all (c ∷ cs) h = λ i. record c { content = less c.path c.content h.0 i } ∷ less_all cs h.1 i

    -- the same of files below folders
    covers-front : (cs ds : List PathContent) → CoversAll sees (cs ++ ds) → CoversAll sees cs
    covers-front [] ds h = tt
    covers-front (c ∷ cs) ds h = (h.0, covers-front cs ds h.1)

    covers-back : (cs ds : List PathContent) → CoversAll sees (cs ++ ds) → CoversAll sees ds
    covers-back [] ds h = h
    covers-back (c ∷ cs) ds h = covers-back cs ds h.1

    abbrev FilesCovered : List File → Type 0
    FilesCovered fs = AllByRecursion (λ (f : File). reads v (file_of f.path f.generation) ≡ true → sees (file_of f.path f.generation) ≡ true) fs

    abbrev BlocksCovered : List PathBelow → Type 0
    BlocksCovered bs = AllByRecursion (λ (b : PathBelow). FilesCovered b.files) bs

    files_covered : (fs : List File) (ds : List PathContent) → CoversAll sees (map known_file fs ++ ds) → FilesCovered fs
    files_covered [] ds h = tt
    files_covered (f ∷ fs) ds h = (h.0, files_covered fs ds h.1)

    files_left : (fs : List File) (ds : List PathContent) → CoversAll sees (map known_file fs ++ ds) → CoversAll sees ds
    files_left fs ds h = covers-back (map known_file fs) ds h

    blocks_covered : (bs : List PathBelow) → CoversAll sees (known_in bs) → BlocksCovered bs
    blocks_covered [] h = tt
    blocks_covered (b ∷ bs) h = (files_covered b.files (known_in bs) h, blocks_covered bs (files_left b.files (known_in bs) h))

    one_blind : (f : File) → (reads v (file_of f.path f.generation) ≡ true → sees (file_of f.path f.generation) ≡ true) →
        reads v (file_of (blind_file sees f).path (blind_file sees f).generation) ≡ true → sees (file_of (blind_file sees f).path (blind_file sees f).generation) ≡ true
    one_blind f h = elim (sees (file_of f.path f.generation)) as (λ x. reads v (file_of (cond x f (hidden_file f)).path (cond x f (hidden_file f)).generation) ≡ true → sees (file_of (cond x f (hidden_file f)).path (cond x f (hidden_file f)).generation) ≡ true) [ true ↦ h | false ↦ h ]

    files_blind : (fs : List File) → FilesCovered fs → FilesCovered (map (blind_file sees) fs)
    files_blind [] h = tt
    files_blind (f ∷ fs) h = (one_blind f h.0, files_blind fs h.1)

    blocks_blind : (bs : List PathBelow) → BlocksCovered bs → BlocksCovered (map (blind_below sees) bs)
    blocks_blind [] h = tt
    blocks_blind (b ∷ bs) h = (files_blind b.files h.0, blocks_blind bs h.1)

    less_file : (f : File) → (reads v (file_of f.path f.generation) ≡ true → sees (file_of f.path f.generation) ≡ true) → blind_file (reads v) (blind_file sees f) ≡ blind_file (reads v) f
    less_file f h = by_sight (reads v (file_of f.path f.generation)) (sees (file_of f.path f.generation)) refl refl
      where
        by_sight : (x y : Bool) → reads v (file_of f.path f.generation) ≡ x → sees (file_of f.path f.generation) ≡ y → blind_file (reads v) (cond y f (hidden_file f)) ≡ blind_file (reads v) f
        by_sight x true e k = refl
        by_sight true false e k = let no : true ≡ false = sym (h e) ∙ k in cc
        by_sight false false e k =
            ap (λ (b : Bool). cond b (hidden_file f) (hidden_file (hidden_file f))) e
            ∙ (file-hidden-twice f ∙ sym (ap (λ (b : Bool). cond b f (hidden_file f)) e))

    -- of a file that is blinded as of the file itself
    own_cover : (f : File) → (reads v (file_of (blind_file sees f).path (blind_file sees f).generation) ≡ true → sees (file_of (blind_file sees f).path (blind_file sees f).generation) ≡ true) →
        reads v (file_of f.path f.generation) ≡ true → sees (file_of f.path f.generation) ≡ true
    own_cover f = elim (sees (file_of f.path f.generation)) as (λ x. (reads v (file_of (cond x f (hidden_file f)).path (cond x f (hidden_file f)).generation) ≡ true → sees (file_of (cond x f (hidden_file f)).path (cond x f (hidden_file f)).generation) ≡ true) →
        reads v (file_of f.path f.generation) ≡ true → sees (file_of f.path f.generation) ≡ true) [ true ↦ (λ h. h) | false ↦ (λ h. h) ]

    less_files : (fs : List File) → FilesCovered (map (blind_file sees) fs) → map (blind_file (reads v)) (map (blind_file sees) fs) ≡ map (blind_file (reads v)) fs
    less_files [] h = refl
    less_files (f ∷ fs) h = λ i. less_file f (own_cover f h.0) i ∷ less_files fs h.1 i

    less_blocks : (bs : List PathBelow) → BlocksCovered (map (blind_below sees) bs) → map (blind_below (reads v)) (map (blind_below sees) bs) ≡ map (blind_below (reads v)) bs
    less_blocks [] h = refl
    less_blocks (b ∷ bs) h = λ i. record b { files = less_files b.files h.0 i } ∷ less_blocks bs h.1 i

    -- and of files that are known by their names
    abbrev NamedCovered : List NamedFile → Type 0
    NamedCovered fs = AllByRecursion (λ (f : NamedFile). reads v f.name ≡ true → sees f.name ≡ true) fs

    named_covered : (fs : List NamedFile) → CoversAll sees (map known_named fs) → NamedCovered fs
    named_covered [] h = tt
    named_covered (f ∷ fs) h = (h.0, named_covered fs h.1)

    named_blind : (fs : List NamedFile) → NamedCovered fs → NamedCovered (map (blind_named sees) fs)
    named_blind [] h = tt
    named_blind (f ∷ fs) h = (subst (λ (n : FileName). reads v n ≡ true → sees n ≡ true) (sym (named-kept sees f)) h.0, named_blind fs h.1)

    less_known : (f : NamedFile) → (reads v f.name ≡ true → sees f.name ≡ true) → blind_named (reads v) (blind_named sees f) ≡ blind_named (reads v) f
    less_known f h = by_sight (reads v f.name) (sees f.name) refl refl
      where
        by_sight : (x y : Bool) → reads v f.name ≡ x → sees f.name ≡ y → blind_named (reads v) (cond y f (hidden_named f)) ≡ blind_named (reads v) f
        by_sight x true e k = refl
        by_sight true false e k = let no : true ≡ false = sym (h e) ∙ k in cc
        by_sight false false e k =
            ap (λ (b : Bool). cond b (hidden_named f) (hidden_named (hidden_named f))) e
            ∙ (named-hidden-twice f ∙ sym (ap (λ (b : Bool). cond b f (hidden_named f)) e))

    less_named : (fs : List NamedFile) → NamedCovered (map (blind_named sees) fs) → map (blind_named (reads v)) (map (blind_named sees) fs) ≡ map (blind_named (reads v)) fs
    less_named [] h = refl
    less_named (f ∷ fs) h = λ i. less_known f (subst (λ (n : FileName). reads v n ≡ true → sees n ≡ true) (named-kept sees f) h.0) i ∷ less_named fs h.1 i

    narrowed : (w : AppView) → blind_but sees w ≡ blind_but sees v → CoversAll sees all_known → blind_but (reads v) w ≡ blind_but (reads v) v
    narrowed w h a =
        let there : CoversAll sees (map (blind_content sees) v.contents) = blind_all_covered v.contents (covers-front v.contents (known_in v.below ++ map known_named v.files) a) in
        let here : CoversAll sees (map (blind_content sees) w.contents) = subst (λ (x : AppView). CoversAll sees x.contents) (sym h) there in
        let there_below : BlocksCovered (map (blind_below sees) v.below) = blocks_blind v.below (blocks_covered v.below (covers-front (known_in v.below) (map known_named v.files) (covers-back v.contents (known_in v.below ++ map known_named v.files) a))) in
        let here_below : BlocksCovered (map (blind_below sees) w.below) = subst (λ (x : AppView). BlocksCovered x.below) (sym h) there_below in
        let there_named : NamedCovered (map (blind_named sees) v.files) =
        named_blind v.files (named_covered v.files (covers-back (known_in v.below) (map known_named v.files) (covers-back v.contents (known_in v.below ++ map known_named v.files) a))) in
        let here_named : NamedCovered (map (blind_named sees) w.files) = subst (λ (x : AppView). NamedCovered x.files) (sym h) there_named in
        (λ i. record w { contents = sym (less_all w.contents here) i; below = sym (less_blocks w.below here_below) i; files = sym (less_named w.files here_named) i })
        ∙ (ap (blind_but (reads v)) h ∙ (λ i. record v { contents = less_all v.contents there i; below = less_blocks v.below there_below i; files = less_named v.files there_named i }))

  -- the view after all that is told
  told-blinded : (w : AppView) → blind_but nothing w ≡ blind_but nothing v → blinded (told_all all_known w) ≡ blinded v
  told-blinded w h =
      let same : blind_but (reads v) (told_all all_known w) ≡ blind_but (reads v) v =
      narrowed (seen_all all_known nothing) (told_all all_known w) (each_told all_known nothing w known-are h) (all_covered all_known nothing) in
      ap (λ (sees : FileName → Bool). blind_but sees (told_all all_known w)) (ap reads same) ∙ same

  one-sight : (path : List ℕ) (c : Content) (w : AppView) → apply_all w (sight_at (reads v) path c) ≡ told_at path c w
  one-sight path OfFolder w = refl
  one-sight path (NotThere room) w = refl
  one-sight path (OfFile generation bytes moment) w = by_sight (reads v (file_of path generation))
    where
      by_sight : (x : Bool) → apply_all w (cond x (Bytes path generation (OfFile generation bytes moment) ∷ []) []) ≡ cond x (apply w (Bytes path generation (OfFile generation bytes moment))) w
      by_sight true = refl
      by_sight false = refl

  all-sights : (cs : List PathContent) (w : AppView) → apply_all w (flat_map (λ (c : PathContent). sight_at (reads v) c.path c.content) cs) ≡ told_all cs w
  all-sights [] w = refl
  all-sights (c ∷ cs) w =
      apply_all-append (sight_at (reads v) c.path c.content) (flat_map (λ (c : PathContent). sight_at (reads v) c.path c.content) cs) w
      ∙ (ap (λ (x : AppView). apply_all x (flat_map (λ (c : PathContent). sight_at (reads v) c.path c.content) cs)) (one-sight c.path c.content w)
      ∙ all-sights cs (told_at c.path c.content w))

  abbrev sight_in : PathContent → List Effect
  sight_in c = sight_at (reads v) c.path c.content

  file-sights : (fs : List File) → flat_map (sight_of (reads v)) fs ≡ flat_map sight_in (map known_file fs)
  file-sights [] = refl
  file-sights (f ∷ fs) = ap (λ (more : List Effect). sight_of (reads v) f ++ more) (file-sights fs)

  join-sights : (cs ds : List PathContent) → flat_map sight_in (cs ++ ds) ≡ flat_map sight_in cs ++ flat_map sight_in ds
  join-sights [] ds = refl
  join-sights (c ∷ cs) ds = ap (λ (more : List Effect). sight_in c ++ more) (join-sights cs ds) ∙ sym (append_assoc (sight_in c) (flat_map sight_in cs) (flat_map sight_in ds))

  below-sights : (bs : List PathBelow) → flat_map (λ (b : PathBelow). flat_map (sight_of (reads v)) b.files) bs ≡ flat_map sight_in (known_in bs)
  below-sights [] = refl
  below-sights (b ∷ bs) = (λ i. file-sights b.files i ++ below-sights bs i) ∙ sym (join-sights (map known_file b.files) (known_in bs))

  named-sights : (fs : List NamedFile) → flat_map (sight_of_named (reads v)) fs ≡ flat_map sight_in (map known_named fs)
  named-sights [] = refl
  named-sights (f ∷ fs) = ap (λ (more : List Effect). sight_of_named (reads v) f ++ more) (named-sights fs)

  sights-known : sights v ≡ flat_map sight_in all_known
  sights-known =
      (λ i. flat_map sight_in v.contents ++ (below-sights v.below i ++ named-sights v.files i))
      ∙ (ap (λ (more : List Effect). flat_map sight_in v.contents ++ more) (sym (join-sights (known_in v.below) (map known_named v.files)))
      ∙ sym (join-sights v.contents (known_in v.below ++ map known_named v.files)))

  -- from any view with all but bytes
  pub sights-blinded : (w : AppView) → blind_but nothing w ≡ blind_but nothing v → blinded (apply_all w (sights v)) ≡ blinded v
  sights-blinded w h = ap blinded (ap (apply_all w) sights-known ∙ all-sights all_known w) ∙ told-blinded w h

-- ---- effects, and all but bytes of them

content-alike : (path : List ℕ) (c : Content) → blind_at nothing path (hidden c) ≡ blind_at nothing path c
content-alike path c = hidden-is path (hidden c) ∙ (hidden-twice c ∙ sym (hidden-is path c))

effect-alike : (f : Effect) → blind_effect nothing (hidden_effect f) ≡ blind_effect nothing f
effect-alike (effect.Gained d rights holding) = ap (λ (h : Holding). effect.Gained d rights h) (holding-alike d.path holding)
effect-alike (effect.Lost id rights) = refl
effect-alike (effect.Gone id) = refl
effect-alike (effect.Bytes path generation content) = ap (λ (c : Content). effect.Bytes path generation c) (content-alike path content)
effect-alike (effect.Turned path generation content) = ap (λ (c : Content). effect.Turned path generation c) (content-alike path content)

effects-alike : (fs : List Effect) → map (blind_effect nothing) (map hidden_effect fs) ≡ map (blind_effect nothing) fs
effects-alike [] = refl
effects-alike (f ∷ fs) = λ i. effect-alike f i ∷ effects-alike fs i

-- to who sees nothing all is alike
effect-fits : (f : Effect) → Fit nothing f
effect-fits (effect.Gained d rights holding) = tt
effect-fits (effect.Lost id rights) = tt
effect-fits (effect.Gone id) = tt
effect-fits (effect.Bytes path generation (OfFile g bytes moment)) = refl
effect-fits (effect.Bytes path generation OfFolder) = tt
effect-fits (effect.Bytes path generation (NotThere room)) = tt
effect-fits (effect.Turned path generation content) = tt

effects-fit : (fs : List Effect) → AllFit nothing fs
effects-fit [] = tt
effects-fit (f ∷ fs) = (effect-fits f, effects-fit fs)

-- ---- an entry

blind-less : (v w : AppView) → blinded w ≡ blinded v → blind_but nothing w ≡ blind_but nothing v
blind-less v w h = sym (all-blind (reads w) w) ∙ (ap (blind_but nothing) h ∙ all-blind (reads v) v)

all-hidden : (cs : List Holding) → map hidden_holding (map hidden_holding cs) ≡ map hidden_holding cs
all-hidden [] = refl
all-hidden (c ∷ cs) = λ i. holding-twice c i ∷ all-hidden cs i

own-twice : (own : Own) → own_blinded (own_blinded own) ≡ own_blinded own
own-twice own = λ i. record own { shown = all-hidden own.shown i }

module _ (app : List ℕ) (s : State) (e : Entry) (w : AppView) (h : blinded w ≡ blinded (view s app)) where
  abbrev next : AppView
  next = view (after s e) app

  abbrev own : Own
  own = own_of s e

  module _ (k : IsOwnEntry app s e) where
    seen : app_step (view s app) own ≡ (next, reply_at s e)
    seen = steps.own app s e k.told k.valid k.lawful k.made

    reply-seen : (app_step w (own_blinded own)).1 ≡ reply_at s e
    reply-seen = same-reply w (view s app) (own_blinded own) own h (own-twice own) ∙ ap (λ (p : AppView × Reply). p.1) seen

    pair : (x : AppView) (o : Own) → blind_but nothing (app_step (blinded x) (own_blinded o)).0 ≡ blind_but nothing (app_step x o).0
    pair x o = ap (λ (p : AppView × Reply). p.0) (pair-blinded x o o.request)

    after-hidden : blind_but nothing (app_step w (own_blinded own)).0 ≡ blind_but nothing next
    after-hidden =
        sym (pair w (own_blinded own))
        ∙ ((λ i. blind_but nothing (app_step (h i) (own-twice own i)).0)
        ∙ (pair (view s app) own ∙ ap (λ (p : AppView × Reply). blind_but nothing p.0) seen))

    own-seen : blinded (apply_all (app_step w (own_blinded own)).0 (sights next)) ≡ blinded next
    own-seen = sights-blinded app (after s e) (after-Valid s e k.valid k.lawful) (app_step w (own_blinded own)).0 after-hidden

  other-seen : Valid s → Lawful s e → makes app s e ≡ false → (fs : List Effect) → touch app s e ≡ fs → blinded (apply_all w (blinded_effects next fs)) ≡ blinded next
  other-seen v l m [] k = h ∙ ap blinded (ap (apply_all (view s app)) (sym k) ∙ steps.other app s e v l m)
  other-seen v l m (f ∷ fs) k =
      let all : List Effect = f ∷ fs in
      let same : blind_but nothing (apply_all w (map hidden_effect all)) ≡ blind_but nothing next =
      apply_all-same nothing w (view s app) (map hidden_effect all) all (effects-fit (map hidden_effect all)) (effects-fit all) (blind-less (view s app) w h) (effects-alike all)
      ∙ ap (blind_but nothing) (ap (apply_all (view s app)) (sym k) ∙ steps.other app s e v l m) in
      ap blinded (apply_all-append (map hidden_effect all) (sights next) w) ∙ sights-blinded app (after s e) (after-Valid s e v l) (apply_all w (map hidden_effect all)) same

pub blind_steps : BlindedStepsAreSeen
blind_steps = record {
  reply = λ app s e w k h. reply-seen app s e w h k;
  own = λ app s e w k h. own-seen app s e w h k;
  other = λ app s e w v l m h. other-seen app s e w h v l m (touch app s e) refl;
}

-- ---- a history, by the laws of one entry alone

own_replies-told : (fs : List Effect) (w : AppView) (more : List TraceItem) → own_replies w (map item_of fs ++ more) ≡ own_replies (apply_all w fs) more
own_replies-told [] w more = refl
own_replies-told (effect.Gained d rights content ∷ fs) w more = own_replies-told fs (apply w (effect.Gained d rights content)) more
own_replies-told (effect.Lost id rights ∷ fs) w more = own_replies-told fs (apply w (effect.Lost id rights)) more
own_replies-told (effect.Gone id ∷ fs) w more = own_replies-told fs (apply w (effect.Gone id)) more
own_replies-told (effect.Bytes path generation content ∷ fs) w more = own_replies-told fs (apply w (effect.Bytes path generation content)) more
own_replies-told (effect.Turned path generation content ∷ fs) w more = own_replies-told fs (apply w (effect.Turned path generation content)) more

module _ (app : List ℕ) (s : State) (e : Entry) (w : AppView) (h : blinded w ≡ blinded (view s app)) (more : List TraceItem) (rest : List Reply)
    (on : (x : AppView) → blinded x ≡ blinded (view (after s e) app) → own_replies x more ≡ rest) where
  one_entry : s.told ≡ true → Valid s → Lawful s e → (b : Bool) → makes app s e ≡ b →
      own_replies w (cond b (item.Own (own_blinded (own_of s e)) ∷ map item_of (sights (view (after s e) app))) (map item_of (blinded_effects (view (after s e) app) (touch app s e))) ++ more) ≡ cond b (reply_at s e ∷ []) [] ++ rest
  one_entry t v l true m =
      let k : IsOwnEntry app s e = record { told = t; valid = v; lawful = l; made = m } in
      let x : AppView = (app_step w (own_blinded (own_of s e))).0 in
      let behind : own_replies x (map item_of (sights (view (after s e) app)) ++ more) ≡ rest =
      own_replies-told (sights (view (after s e) app)) x more ∙ on (apply_all x (sights (view (after s e) app))) (blind_steps.own app s e w k h) in
      λ i. blind_steps.reply app s e w k h i ∷ behind i
  one_entry t v l false m =
      own_replies-told (blinded_effects (view (after s e) app) (touch app s e)) w more
      ∙ on (apply_all w (blinded_effects (view (after s e) app) (touch app s e))) (blind_steps.other app s e w v l m h)

replies_of_blinded : (hs : List Entry) (app : List ℕ) (s : State) (w : AppView) → s.told ≡ true → Valid s → EachLawful s hs → blinded w ≡ blinded (view s app) → replies app s hs ≡ own_replies w (blinded_items app s hs)
replies_of_blinded [] app s w t v l h = refl
replies_of_blinded (e ∷ es) app s w t v l h =
    sym (one_entry app s e w h (blinded_items app (after s e) es) (replies app (after s e) es) (λ x k.
    sym (replies_of_blinded es app (after s e) x (step_told s e.seat e.request e.given ∙ t) (after-Valid s e v l.0) l.1 k)) t v l.0 (makes app s e) refl)

pub blind_trace : RepliesAreOfTheBlindedTrace
blind_trace = λ app s h t l. replies_of_blinded h app s (blinded (view s app)) t l.opening l.lawful (view-twice (reads (view s app)) (view s app))
