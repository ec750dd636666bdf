-- The files at or below a folder: what is found among them, and what a change of a file is to them.
use Rattle.std.proofs.Common.{◌≡◌, ℕ, ◌==◌, List, [], ◌∷◌, map, Bool, true, false, ◌&&◌, ◌||◌, cond, Option, Some, None, is_some, refl, sym, ap, subst, ◌∙◌, ⊎_elim}
use Rattle.std.specs.List.{filter, find, list_any}
use Rattle.std.specs.Option.{option_map}
use Rattle.portal_base.specs.Content.{content_at, content_of, file_at, has_room, is_above, is_folder, is_named}
use Rattle.portal_base.specs.Names.{is_same, parent_of, root}
use Rattle.portal_base.specs.declared.files.File.{File}
use Rattle.portal_base.specs.declared.files.FileName.{FileName}
use Rattle.portal_base.proofs.PathsAbove.{above-more, first-same, parent-below, rest-below, slash-first, slash-is}
use Rattle.portal_model.specs.Content.{Content, NotThere, OfFile, OfFolder}
use Rattle.portal_model.specs.Ordered.{bytes_less, is_rising, put, put_all}
use Rattle.portal_model.proofs.ListLookups.{find-filter, find-map, found_passes, is_same-eq, is_same-refl}
use Rattle.portal_model.proofs.RisingLists.{rising-map, rising-put, rising-put_all}
use Rattle.app_world.specs.Effect.{file_of, with_content_of, with_file, with_file_at}
use Rattle.app_world.specs.View.{file_ahead, files_below, is_at_or_below}
use Rattle.app_world.proofs.Found.{find-put, find-put_all, told-apart}
use Rattle.app_world.proofs.Orders.{paths}

abbrev pub file_path : File → List ℕ
file_path f = f.path

pub same-sym : (a b : List ℕ) → is_same a b ≡ is_same b a
same-sym a b = step (is_same a b) (is_same b a) refl refl
  where
    step : (c d : Bool) → is_same a b ≡ c → is_same b a ≡ d → c ≡ d
    step true true e f = refl
    step true false e f = let no : true ≡ false = sym (is_same-refl a) ∙ (ap (λ (x : List ℕ). is_same x a) (is_same-eq a b e) ∙ f) in no
    step false true e f = let no : true ≡ false = sym (is_same-refl b) ∙ (ap (λ (x : List ℕ). is_same x b) (is_same-eq b a f) ∙ e) in sym no
    step false false e f = refl

-- ---- what is found at or below a folder

pub below-file : (files : List File) (folder p : List ℕ) → file_at (files_below files folder) p ≡ cond (is_at_or_below folder p) (file_at files p) None
below-file files folder p =
    find-put_all _ _ file_path paths p (filter (λ (f : File). is_at_or_below folder f.path) files)
    ∙ find-filter (λ (f : File). is_same f.path p) (λ (f : File). is_at_or_below folder f.path) (is_at_or_below folder p) (λ f h. ap (is_at_or_below folder) (is_same-eq f.path p h)) files

pub below-in-order : (files : List File) (folder : List ℕ) → is_rising file_ahead (files_below files folder) ≡ true
below-in-order files folder = rising-put_all _ _ file_path paths (filter (λ (f : File). is_at_or_below folder f.path) files)

-- ---- what lies above a path

pub above-through : (q r s : List ℕ) → is_above q r ≡ true → is_above r s ≡ true → is_above q s ≡ true
above-through [] [] s h k = cc
above-through [] (b ∷ bs) [] h k = cc
above-through [] (b ∷ bs) (d ∷ ds) h k = slash-is d ds (sym (first-same b d bs ds k) ∙ slash-first b bs h)
above-through (a ∷ ps) [] s h k = cc
above-through (a ∷ ps) (b ∷ bs) [] h k = cc
above-through (a ∷ ps) (b ∷ bs) (d ∷ ds) h k =
    above-more a d ps ds (first-same a b ps bs h ∙ first-same b d bs ds k) (above-through ps bs ds (rest-below a b ps bs h) (rest-below b d bs ds k))

-- what lies below a path at or below a folder lies below that folder
pub at-or-below-through : (folder path p : List ℕ) → is_at_or_below folder path ≡ true → is_above path p ≡ true → is_at_or_below folder p ≡ true
at-or-below-through folder path p h k = step (is_same path folder) refl h
  where
    later : (a : Bool) {b : Bool} → b ≡ true → (a || b) ≡ true
    later true e = refl
    later false e = e

    step : (b : Bool) → is_same path folder ≡ b → (b || is_above folder path) ≡ true → is_at_or_below folder p ≡ true
    step true e g = later (is_same p folder) (subst (λ (x : List ℕ). is_above x p ≡ true) (is_same-eq path folder e) k)
    step false e g = later (is_same p folder) (above-through folder path p g k)

module _ {X : Type 0} (key : X → List ℕ) (q : List ℕ → Bool) where
  abbrev in_order : X → X → Bool
  in_order x y = bytes_less (key x) (key y)

  abbrev of_key : X → Bool
  of_key x = q (key x)

  one-put : (x y : X) (ys zs : List X) (a b : Bool) → in_order x y ≡ a → in_order y x ≡ b → list_any of_key zs ≡ (of_key x || list_any of_key ys) →
      list_any of_key (cond a (x ∷ y ∷ ys) (cond b (y ∷ zs) (x ∷ ys))) ≡ (of_key x || (of_key y || list_any of_key ys))
  one-put x y ys zs true b e f h = refl
  one-put x y ys zs false true e f h = ap (λ (c : Bool). of_key y || c) h ∙ turn (of_key y) (of_key x) (list_any of_key ys)
    where
      turn : (c d r : Bool) → (c || (d || r)) ≡ (d || (c || r))
      turn true true r = refl
      turn true false r = refl
      turn false true r = refl
      turn false false r = refl
  one-put x y ys zs false false e f h =
      let same : key x ≡ key y = paths.total (key x) (key y) e f in
      twice (of_key x) (of_key y) (list_any of_key ys) (ap q same)
    where
      twice : (c d r : Bool) → c ≡ d → (c || r) ≡ (c || (d || r))
      twice true d r g = refl
      twice false true r g = cc
      twice false false r g = refl

  any-put-key : (x : X) (xs : List X) → list_any of_key (put in_order x xs) ≡ (of_key x || list_any of_key xs)
  any-put-key x [] = refl
  any-put-key x (y ∷ ys) = one-put x y ys (put in_order x ys) (in_order x y) (in_order y x) refl refl (any-put-key x ys)

  pub any-put_all-key : (xs : List X) → list_any of_key (put_all in_order xs) ≡ list_any of_key xs
  any-put_all-key [] = refl
  any-put_all-key (x ∷ xs) = any-put-key x (put_all in_order xs) ∙ ap (λ (b : Bool). of_key x || b) (any-put_all-key xs)

pub any-kept : (q r : List ℕ → Bool) → ((p : List ℕ) → q p ≡ true → r p ≡ true) → (xs : List File) → list_any (λ (f : File). q f.path) (filter (λ (f : File). r f.path) xs) ≡ list_any (λ (f : File). q f.path) xs
any-kept q r h [] = refl
any-kept q r h (x ∷ xs) = step (r x.path) refl (any-kept q r h xs)
  where
    never : (d b : Bool) → (d ≡ true → b ≡ true) → b ≡ false → d ≡ false
    never true b k e = let no : false ≡ true = sym e ∙ k refl in cc
    never false b k e = refl

    step : (b : Bool) → r x.path ≡ b → list_any (λ (f : File). q f.path) (filter (λ (f : File). r f.path) xs) ≡ list_any (λ (f : File). q f.path) xs →
        list_any (λ (f : File). q f.path) (cond b (x ∷ filter (λ (f : File). r f.path) xs) (filter (λ (f : File). r f.path) xs)) ≡ (q x.path || list_any (λ (f : File). q f.path) xs)
    step true g e = ap (λ (d : Bool). q x.path || d) e
    step false g e = e ∙ sym (ap (λ (d : Bool). d || list_any (λ (f : File). q f.path) xs) (never (q x.path) (r x.path) (h x.path) g))

-- a folder at or below it is one by the files below it
pub below-folder : (files : List File) (folder path : List ℕ) → is_at_or_below folder path ≡ true → is_folder (files_below files folder) path ≡ is_folder files path
below-folder files folder path h =
    ap (λ (b : Bool). is_same path root || b)
    (any-put_all-key file_path (is_above path) (filter (λ (f : File). is_at_or_below folder f.path) files)
    ∙ any-kept (is_above path) (is_at_or_below folder) (λ p k. at-or-below-through folder path p h k) files)

-- what is at a path at or below it is told by these files
pub below-content : (files : List File) (folder path : List ℕ) → is_same folder [] ≡ false → is_folder files folder ≡ true → file_at files folder ≡ None → is_at_or_below folder path ≡ true →
    content_at (files_below files folder) path ≡ content_at files path
below-content files [] path n f o h = cc
below-content files (a ∷ bs) path n f o h = step (is_same path (a ∷ bs)) refl h
  where
    file-same : is_at_or_below (a ∷ bs) path ≡ true → file_at (files_below files (a ∷ bs)) path ≡ file_at files path
    file-same g = below-file files (a ∷ bs) path ∙ ap (λ (b : Bool). cond b (file_at files path) None) g

    in-folder : (x y : Bool) → content_of None true x ≡ content_of None true y
    in-folder x y = refl

    parent-in : is_above (a ∷ bs) path ≡ true → is_at_or_below (a ∷ bs) (parent_of path) ≡ true
    parent-in g = ⊎_elim
        (λ e. ap (λ (q : List ℕ). is_same q (a ∷ bs) || is_above (a ∷ bs) q) e ∙ ap (λ (b : Bool). b || is_above (a ∷ bs) (a ∷ bs)) (is_same-refl (a ∷ bs)))
        (λ k. later (is_same (parent_of path) (a ∷ bs)) k)
        (parent-below a bs path g)
      where
        later : (b : Bool) {c : Bool} → c ≡ true → (b || c) ≡ true
        later true e = refl
        later false e = e

    step : (b : Bool) → is_same path (a ∷ bs) ≡ b → (b || is_above (a ∷ bs) path) ≡ true → content_at (files_below files (a ∷ bs)) path ≡ content_at files path
    step true e g =
        let same : path ≡ (a ∷ bs) = is_same-eq path (a ∷ bs) e in
        let file : file_at files path ≡ None = ap (file_at files) same ∙ o in
        let there : is_folder files path ≡ true = ap (is_folder files) same ∙ f in
        (λ i. content_of ((file-same h ∙ file) i) ((below-folder files (a ∷ bs) path h ∙ there) i) (has_room (files_below files (a ∷ bs)) path))
        ∙ (in-folder (has_room (files_below files (a ∷ bs)) path) (has_room files path)
        ∙ (λ i. content_of (sym file i) (sym there i) (has_room files path)))
    step false e g =
        λ i. content_of (file-same h i) (below-folder files (a ∷ bs) path h i) (below-folder files (a ∷ bs) (parent_of path) (parent-in g) i)

-- ---- a change of a file

abbrev pub file_first : List ℕ → Content → Option File
file_first path (OfFile generation bytes moment) = Some (file_of path generation bytes moment)
file_first path OfFolder = None
file_first path (NotThere room) = None

-- what is then at the path of a file that changes, or comes
abbrev pub file_then : List ℕ → ℕ → Content → Option File → Option File
file_then path generation new None = cond (generation == 0) (file_first path new) None
file_then path generation new (Some f) = Some (cond (f.generation == generation) (with_content_of new f) f)

-- the files are then these
abbrev pub IsThen : List File → List File → List ℕ → ℕ → Content → Type 0
IsThen files more path generation new =
    (p : List ℕ) → file_at more p ≡ cond (is_same p path) (file_then path generation new (file_at files path)) (file_at files p)

content_of-path : (new : Content) (f : File) → (with_content_of new f).path ≡ f.path
content_of-path (OfFile generation bytes moment) f = refl
content_of-path OfFolder f = refl
content_of-path (NotThere room) f = refl

module _ (path : List ℕ) (generation : ℕ) (new : Content) where
  abbrev name : FileName
  name = record { path = path; generation = generation }

  abbrev changing : File → File
  changing f = cond (is_named name f) (with_content_of new f) f

  changing-path : (f : File) → (changing f).path ≡ f.path
  changing-path f = elim (is_named name f) as (λ b. (cond b (with_content_of new f) f).path ≡ f.path) [ true ↦ content_of-path new f | false ↦ refl ]

  found-same : (p : List ℕ) (fs : List File) → find (λ (f : File). is_same (changing f).path p) fs ≡ file_at fs p
  found-same p [] = refl
  found-same p (f ∷ fs) = λ i. cond (is_same (changing-path f i) p) (Some f) (found-same p fs i)

  found-changing : (p : List ℕ) (fs : List File) → file_at (map changing fs) p ≡ option_map changing (file_at fs p)
  found-changing p fs = find-map (λ (f : File). is_same f.path p) changing fs ∙ ap (option_map changing) (found-same p fs)

  -- of the file that is found at a path
  one-changing : (fs : List File) (p : List ℕ) (o : Option File) → file_at fs p ≡ o → (b : Bool) → is_same p path ≡ b → (at : Option File) → file_at fs path ≡ at → is_some at ≡ true →
      option_map changing o ≡ cond b (file_then path generation new at) o
  one-changing fs p o e true h at f s = by_at at (sym e ∙ (ap (file_at fs) (is_same-eq p path h) ∙ f)) s
    where
      by_at : (x : Option File) → o ≡ x → is_some x ≡ true → option_map changing o ≡ file_then path generation new x
      by_at None g k = cc
      by_at (Some y) g k =
          let named : is_same y.path p ≡ true = found_passes (λ (x : File). is_same x.path p) fs y (e ∙ g) in
          let here : is_same y.path path ≡ true = ap (is_same y.path) (sym (is_same-eq p path h)) ∙ named in
          ap (option_map changing) g ∙ ap (λ (c : Bool). Some (cond (c && y.generation == generation) (with_content_of new y) y)) here
  one-changing fs p None e false h at f s = refl
  one-changing fs p (Some y) e false h at f s =
      let named : is_same y.path p ≡ true = found_passes (λ (x : File). is_same x.path p) fs y e in
      let other : is_same y.path path ≡ false = ap (λ (q : List ℕ). is_same q path) (is_same-eq y.path p named) ∙ h in
      ap (λ (c : Bool). Some (cond (c && y.generation == generation) (with_content_of new y) y)) other

  first-found : (c : Content) (fs : List File) (p : List ℕ) → file_at fs path ≡ None → file_at (with_file_at path c fs) p ≡ cond (is_same p path) (file_first path c) (file_at fs p)
  first-found (OfFile g bytes moment) fs p e = find-put _ _ file_path paths p (file_of path g bytes moment) fs ∙ ap (λ (b : Bool). cond b (Some (file_of path g bytes moment)) (file_at fs p)) (same-sym path p)
  first-found OfFolder fs p e = nothing-there fs p e (is_same p path) refl
    where
      nothing-there : (xs : List File) (q : List ℕ) → file_at xs path ≡ None → (b : Bool) → is_same q path ≡ b → file_at xs q ≡ cond b None (file_at xs q)
      nothing-there xs q k true h = ap (file_at xs) (is_same-eq q path h) ∙ k
      nothing-there xs q k false h = refl
  first-found (NotThere room) fs p e = nothing-there fs p e (is_same p path) refl
    where
      nothing-there : (xs : List File) (q : List ℕ) → file_at xs path ≡ None → (b : Bool) → is_same q path ≡ b → file_at xs q ≡ cond b None (file_at xs q)
      nothing-there xs q k true h = ap (file_at xs) (is_same-eq q path h) ∙ k
      nothing-there xs q k false h = refl

  still-none : (fs : List File) (p : List ℕ) → file_at fs path ≡ None → (b : Bool) → is_same p path ≡ b → file_at fs p ≡ cond b None (file_at fs p)
  still-none fs p k true h = ap (file_at fs) (is_same-eq p path h) ∙ k
  still-none fs p k false h = refl

  with-found : (fs : List File) (p : List ℕ) (at : Option File) → file_at fs path ≡ at →
      file_at (cond (is_some at) (map changing fs) (cond (generation == 0) (with_file_at path new fs) fs)) p ≡ cond (is_same p path) (file_then path generation new at) (file_at fs p)
  with-found fs p (Some f) e = found-changing p fs ∙ one-changing fs p (file_at fs p) refl (is_same p path) refl (Some f) e refl
  with-found fs p None e = elim (generation == 0) as (λ b. file_at (cond b (with_file_at path new fs) fs) p ≡ cond (is_same p path) (cond b (file_first path new) None) (file_at fs p)) [
    | true ↦ first-found new fs p e
    | false ↦ still-none fs p e (is_same p path) refl
  ]

  pub found-with_file : (fs : List File) (p : List ℕ) → file_at (with_file path generation new fs) p ≡ cond (is_same p path) (file_then path generation new (file_at fs path)) (file_at fs p)
  found-with_file fs p = with-found fs p (file_at fs path) refl

  first-rising : (c : Content) (fs : List File) → is_rising file_ahead fs ≡ true → is_rising file_ahead (with_file_at path c fs) ≡ true
  first-rising (OfFile g bytes moment) fs h = rising-put _ _ file_path paths (file_of path g bytes moment) fs h
  first-rising OfFolder fs h = h
  first-rising (NotThere room) fs h = h

  pub rising-with_file : (fs : List File) → is_rising file_ahead fs ≡ true → is_rising file_ahead (with_file path generation new fs) ≡ true
  rising-with_file fs h = elim (is_some (file_at fs path)) as (λ b. is_rising file_ahead (cond b (map changing fs) (cond (generation == 0) (with_file_at path new fs) fs)) ≡ true) [
    | true ↦ rising-map _ _ file_path paths changing changing-path fs h
    | false ↦ elim (generation == 0) as (λ b. is_rising file_ahead (cond b (with_file_at path new fs) fs) ≡ true) [ true ↦ first-rising new fs h | false ↦ h ]
  ]

  module _ (files more : List File) (then_is : IsThen files more path generation new) (folder : List ℕ) where
    there : (p : List ℕ) (b : Bool) → is_same p path ≡ b → is_at_or_below folder path ≡ true →
        cond (is_at_or_below folder p) (cond b (file_then path generation new (file_at files path)) (file_at files p)) None
        ≡ cond b (file_then path generation new (cond (is_at_or_below folder path) (file_at files path) None)) (cond (is_at_or_below folder p) (file_at files p) None)
    there p true e h =
        let here : is_at_or_below folder p ≡ true = ap (is_at_or_below folder) (is_same-eq p path e) ∙ h in
        λ i. cond (here i) (file_then path generation new (cond (sym h i) (file_at files path) None)) None
    there p false e h = refl

    elsewhere : (p : List ℕ) (a b : Bool) → is_at_or_below folder p ≡ a → is_same p path ≡ b → is_at_or_below folder path ≡ false →
        cond a (cond b (file_then path generation new (file_at files path)) (file_at files p)) None ≡ cond a (file_at files p) None
    elsewhere p true true e f h = let no : true ≡ false = sym e ∙ (ap (is_at_or_below folder) (is_same-eq p path f) ∙ h) in cc
    elsewhere p true false e f h = refl
    elsewhere p false b e f h = refl

    pub changed-in : is_at_or_below folder path ≡ true → files_below more folder ≡ with_file path generation new (files_below files folder)
    changed-in h =
        told-apart _ _ file_path paths (files_below more folder) (with_file path generation new (files_below files folder)) (below-in-order more folder) (rising-with_file (files_below files folder) (below-in-order files folder)) (λ p.
        below-file more folder p
        ∙ (ap (λ (o : Option File). cond (is_at_or_below folder p) o None) (then_is p)
        ∙ (there p (is_same p path) refl h
        ∙ ((λ i. cond (is_same p path) (file_then path generation new (sym (below-file files folder path) i)) (sym (below-file files folder p) i))
        ∙ sym (found-with_file (files_below files folder) p)))))

    pub changed-out : is_at_or_below folder path ≡ false → files_below more folder ≡ files_below files folder
    changed-out h =
        told-apart _ _ file_path paths (files_below more folder) (files_below files folder) (below-in-order more folder) (below-in-order files folder) (λ p.
        below-file more folder p
        ∙ (ap (λ (o : Option File). cond (is_at_or_below folder p) o None) (then_is p)
        ∙ (elsewhere p (is_at_or_below folder p) (is_same p path) refl refl h
        ∙ sym (below-file files folder p))))

-- ---- a file that comes to its path, in place of any other

-- at the path is then this file
abbrev pub IsTurned : List File → List File → List ℕ → File → Type 0
IsTurned files more path f = (p : List ℕ) → file_at more p ≡ cond (is_same p path) (Some f) (file_at files p)

module _ (path : List ℕ) (generation : ℕ) (bytes : List ℕ) (moment : ℕ) where
  abbrev turned_one : File
  turned_one = file_of path generation bytes moment

  abbrev turned_among : List File → List File
  turned_among fs = with_file_at path (OfFile generation bytes moment) fs

  found-turned : (fs : List File) (p : List ℕ) → file_at (turned_among fs) p ≡ cond (is_same p path) (Some turned_one) (file_at fs p)
  found-turned fs p = find-put _ _ file_path paths p turned_one fs ∙ ap (λ (b : Bool). cond b (Some turned_one) (file_at fs p)) (same-sym path p)

  module _ (files more : List File) (turned_is : IsTurned files more path turned_one) (folder : List ℕ) where
    at-turned : (p : List ℕ) (b : Bool) → is_same p path ≡ b → is_at_or_below folder path ≡ true →
        cond (is_at_or_below folder p) (cond b (Some turned_one) (file_at files p)) None ≡ cond b (Some turned_one) (cond (is_at_or_below folder p) (file_at files p) None)
    at-turned p true e h = ap (λ (b : Bool). cond b (Some turned_one) None) (ap (is_at_or_below folder) (is_same-eq p path e) ∙ h)
    at-turned p false e h = refl

    not-turned : (p : List ℕ) (a b : Bool) → is_at_or_below folder p ≡ a → is_same p path ≡ b → is_at_or_below folder path ≡ false →
        cond a (cond b (Some turned_one) (file_at files p)) None ≡ cond a (file_at files p) None
    not-turned p true true e f h = let no : true ≡ false = sym e ∙ (ap (is_at_or_below folder) (is_same-eq p path f) ∙ h) in cc
    not-turned p true false e f h = refl
    not-turned p false b e f h = refl

    pub turned-in : is_at_or_below folder path ≡ true → files_below more folder ≡ turned_among (files_below files folder)
    turned-in h =
        told-apart _ _ file_path paths (files_below more folder) (turned_among (files_below files folder)) (below-in-order more folder) (rising-put _ _ file_path paths turned_one (files_below files folder) (below-in-order files folder)) (λ p.
        below-file more folder p
        ∙ (ap (λ (o : Option File). cond (is_at_or_below folder p) o None) (turned_is p)
        ∙ (at-turned p (is_same p path) refl h
        ∙ (ap (λ (o : Option File). cond (is_same p path) (Some turned_one) o) (sym (below-file files folder p))
        ∙ sym (found-turned (files_below files folder) p)))))

    pub turned-out : is_at_or_below folder path ≡ false → files_below more folder ≡ files_below files folder
    turned-out h =
        told-apart _ _ file_path paths (files_below more folder) (files_below files folder) (below-in-order more folder) (below-in-order files folder) (λ p.
        below-file more folder p
        ∙ (ap (λ (o : Option File). cond (is_at_or_below folder p) o None) (turned_is p)
        ∙ (not-turned p (is_at_or_below folder p) (is_same p path) refl refl h
        ∙ sym (below-file files folder p))))
