-- A blinded view: what is found in it, and that pruning it, and the effects of others, come to the same.
use Rattle.std.proofs.Common.{◌≡◌, ℕ, ◌==◌, List, [], ◌∷◌, fold, length, map, replicate, Bool, true, false, ◌||◌, cond, Option, Some, None, is_some, refl, sym, ap, ◌∙◌}
use Rattle.std.specs.List.{filter, find, list_any}
use Rattle.std.specs.Option.{option_map}
use Rattle.std.proofs.lemmas.List.{length-replicate}
use Rattle.portal_base.specs.Content.{content_at, content_of, file_at, has_room, is_above, is_folder, is_named, paths_of}
use Rattle.portal_base.specs.FileChanges.{change_named}
use Rattle.portal_base.specs.FolderNames.{put_path}
use Rattle.portal_base.specs.Names.{is_same, parent_of, root}
use Rattle.portal_base.specs.declared.files.File.{File}
use Rattle.portal_base.specs.declared.files.FileName.{FileName}
use Rattle.portal_base.specs.declared.files.Look.{Look}
use Rattle.portal_model.specs.Content.{Content, OfFile, OfFolder, NotThere, look_of}
use Rattle.portal_model.specs.Ordered.{bytes_less, put}
use Rattle.portal_model.proofs.DocumentChanges.{first_of_both}
use Rattle.portal_model.proofs.ListLookups.{find-map, found_passes, is_same-eq, nat_is}
use Rattle.app_world.specs.Effect.{Effect, Gained, Lost, Gone, Bytes, Turned, apply, apply_all, changed, changed_content, file_of as file_made, with_below, with_bytes, with_bytes_below, with_content, with_content_of, with_file, with_file_at, with_named, with_turned, with_turned_below}
use Rattle.app_world.specs.Shown.{bytes_in, covering, has_parent, is_file, is_folder_there, is_place, names_below, of_generation, own_bytes, own_content, own_file, shown, shown_below, shown_file}
use Rattle.app_world.specs.View.{Alone, AppView, Below, Holding, NamedFile, OwnConnection, PathBelow, PathContent, ahead, below_ahead, file_ahead, folder_of, folder_paths, found_below, found_content, found_named, is_among, is_at_or_below, is_held, is_held_name, name_less, named_ahead, named_as, named_paths, names_held, path_of, prune, same_name}
use Rattle.app_world.proofs.NamedFiles.{name-eq}
use Rattle.connection_laws.specs.Blinded.{blind_at, blind_below, blind_but, blind_content, blind_file, blind_named, file_of, hidden_file, hidden_named}

-- ---- lists in which each item is blinded

module _ {K X : Type 0} (less : K → K → Bool) (key : X → K) (blind : X → X) (keeps : (x : X) → key (blind x) ≡ key x) where
  abbrev before_by : X → X → Bool
  before_by x y = less (key x) (key y)

  filter-mapped : (q : K → Bool) (xs : List X) → filter (λ x. q (key x)) (map blind xs) ≡ map blind (filter (λ x. q (key x)) xs)
  filter-mapped q [] = refl
  filter-mapped q (x ∷ xs) =
      ap (λ (k : K). cond (q k) (blind x ∷ filter (λ y. q (key y)) (map blind xs)) (filter (λ y. q (key y)) (map blind xs))) (keeps x)
      ∙ by_test (q (key x)) (filter-mapped q xs)
    where
      by_test : (b : Bool) → filter (λ y. q (key y)) (map blind xs) ≡ map blind (filter (λ y. q (key y)) xs) →
          cond b (blind x ∷ filter (λ y. q (key y)) (map blind xs)) (filter (λ y. q (key y)) (map blind xs)) ≡ map blind (cond b (x ∷ filter (λ y. q (key y)) xs) (filter (λ y. q (key y)) xs))
      by_test true e = ap (λ (ys : List X). blind x ∷ ys) e
      by_test false e = e

  put-mapped : (x : X) (xs : List X) → put before_by (blind x) (map blind xs) ≡ map blind (put before_by x xs)
  put-mapped x [] = refl
  put-mapped x (y ∷ ys) =
      (λ i. cond (less (keeps x i) (keeps y i)) (blind x ∷ blind y ∷ map blind ys) (cond (less (keeps y i) (keeps x i)) (blind y ∷ put before_by (blind x) (map blind ys)) (blind x ∷ map blind ys)))
      ∙ by_order (before_by x y) (before_by y x) (put-mapped x ys)
    where
      by_order : (a b : Bool) → put before_by (blind x) (map blind ys) ≡ map blind (put before_by x ys) →
          cond a (blind x ∷ blind y ∷ map blind ys) (cond b (blind y ∷ put before_by (blind x) (map blind ys)) (blind x ∷ map blind ys)) ≡ map blind (cond a (x ∷ y ∷ ys) (cond b (y ∷ put before_by x ys) (x ∷ ys)))
      by_order true b e = refl
      by_order false true e = ap (λ (zs : List X). blind y ∷ zs) e
      by_order false false e = refl

module _ (sees : FileName → Bool) where
  -- ---- one content

  -- by whether the file is in sight
  pub seen-is : (path : List ℕ) (g : ℕ) (bytes : List ℕ) (moment : ℕ) → sees (file_of path g) ≡ true → blind_at sees path (OfFile g bytes moment) ≡ OfFile g bytes moment
  seen-is path g bytes moment e = rw e refl

  pub unseen-is : (path : List ℕ) (g : ℕ) (bytes : List ℕ) (moment : ℕ) → sees (file_of path g) ≡ false → blind_at sees path (OfFile g bytes moment) ≡ OfFile g (replicate (length bytes) 0) moment
  unseen-is path g bytes moment e = rw e refl

  one-look : (g : ℕ) (bytes : List ℕ) (moment : ℕ) (x : Bool) → look_of (cond x (OfFile g bytes moment) (OfFile g (replicate (length bytes) 0) moment)) ≡ look_of (OfFile g bytes moment)
  one-look g bytes moment true = refl
  one-look g bytes moment false = ap (λ (n : ℕ). Look.File g n moment) (length-replicate (length bytes) 0)

  pub look-blind : (path : List ℕ) (c : Content) → look_of (blind_at sees path c) ≡ look_of c
  look-blind path (OfFile g bytes moment) = one-look g bytes moment (sees (file_of path g))
  look-blind path OfFolder = refl
  look-blind path (NotThere room) = refl

  pub file-blind : (path : List ℕ) (c : Content) → is_file (blind_at sees path c) ≡ is_file c
  file-blind path (OfFile g bytes moment) = elim (sees (file_of path g)) as (λ x. is_file (cond x (OfFile g bytes moment) (OfFile g (replicate (length bytes) 0) moment)) ≡ true) [ true ↦ refl | false ↦ refl ]
  file-blind path OfFolder = refl
  file-blind path (NotThere room) = refl

  pub place-blind : (path : List ℕ) (c : Content) → is_place (blind_at sees path c) ≡ is_place c
  place-blind path (OfFile g bytes moment) = elim (sees (file_of path g)) as (λ x. is_place (cond x (OfFile g bytes moment) (OfFile g (replicate (length bytes) 0) moment)) ≡ false) [ true ↦ refl | false ↦ refl ]
  place-blind path OfFolder = refl
  place-blind path (NotThere room) = refl

  pub parent-blind : (path : List ℕ) (c : Content) → has_parent (blind_at sees path c) ≡ has_parent c
  parent-blind path (OfFile g bytes moment) = elim (sees (file_of path g)) as (λ x. has_parent (cond x (OfFile g bytes moment) (OfFile g (replicate (length bytes) 0) moment)) ≡ true) [ true ↦ refl | false ↦ refl ]
  parent-blind path OfFolder = refl
  parent-blind path (NotThere room) = refl

  pub there-blind : (path : List ℕ) (c : Content) → is_folder_there (blind_at sees path c) ≡ is_folder_there c
  there-blind path (OfFile g bytes moment) = elim (sees (file_of path g)) as (λ x. is_folder_there (cond x (OfFile g bytes moment) (OfFile g (replicate (length bytes) 0) moment)) ≡ false) [ true ↦ refl | false ↦ refl ]
  there-blind path OfFolder = refl
  there-blind path (NotThere room) = refl

  pub length-blind : (path : List ℕ) (c : Content) → length (bytes_in (blind_at sees path c)) ≡ length (bytes_in c)
  length-blind path (OfFile g bytes moment) = elim (sees (file_of path g)) as (λ x. length (bytes_in (cond x (OfFile g bytes moment) (OfFile g (replicate (length bytes) 0) moment))) ≡ length bytes) [ true ↦ refl | false ↦ length-replicate (length bytes) 0 ]
  length-blind path OfFolder = refl
  length-blind path (NotThere room) = refl

  -- blinded twice is blinded once
  twice : (path : List ℕ) (g : ℕ) (bytes : List ℕ) (moment : ℕ) (x : Bool) → sees (file_of path g) ≡ x →
      blind_at sees path (cond x (OfFile g bytes moment) (OfFile g (replicate (length bytes) 0) moment)) ≡ cond x (OfFile g bytes moment) (OfFile g (replicate (length bytes) 0) moment)
  twice path g bytes moment true e = seen-is path g bytes moment e
  twice path g bytes moment false e = unseen-is path g (replicate (length bytes) 0) moment e ∙ ap (λ (n : ℕ). OfFile g (replicate n 0) moment) (length-replicate (length bytes) 0)

  pub blind-twice : (path : List ℕ) (c : Content) → blind_at sees path (blind_at sees path c) ≡ blind_at sees path c
  blind-twice path (OfFile g bytes moment) = twice path g bytes moment (sees (file_of path g)) refl
  blind-twice path OfFolder = refl
  blind-twice path (NotThere room) = refl

  -- files that have equal bytes where they are in sight, and as many everywhere
  pub blind-same : (path : List ℕ) (g : ℕ) (xs ys : List ℕ) (moment : ℕ) → (sees (file_of path g) ≡ true → xs ≡ ys) → length xs ≡ length ys → blind_at sees path (OfFile g xs moment) ≡ blind_at sees path (OfFile g ys moment)
  blind-same path g xs ys moment e l = by_sight (sees (file_of path g)) refl
    where
      by_sight : (x : Bool) → sees (file_of path g) ≡ x → blind_at sees path (OfFile g xs moment) ≡ blind_at sees path (OfFile g ys moment)
      by_sight true k = ap (λ (bytes : List ℕ). blind_at sees path (OfFile g bytes moment)) (e k)
      by_sight false k = unseen-is path g xs moment k ∙ (ap (λ (n : ℕ). OfFile g (replicate n 0) moment) l ∙ sym (unseen-is path g ys moment k))

  -- ---- the file of a name

  other_file : (g generation : ℕ) (bytes : List ℕ) (moment : ℕ) (path : List ℕ) (x y : Bool) → sees (file_of path g) ≡ x → (g == generation) ≡ y →
      of_generation generation (cond x (OfFile g bytes moment) (OfFile g (replicate (length bytes) 0) moment)) ≡ blind_at sees path (cond y (OfFile g bytes moment) (NotThere false))
  other_file g generation bytes moment path true true e f = rw (f, e) refl
  other_file g generation bytes moment path true false e f = rw f refl
  other_file g generation bytes moment path false true e f = rw (f, e) refl
  other_file g generation bytes moment path false false e f = rw f refl

  pub generation-blind : (path : List ℕ) (generation : ℕ) (c : Content) → of_generation generation (blind_at sees path c) ≡ blind_at sees path (of_generation generation c)
  generation-blind path generation (OfFile g bytes moment) = other_file g generation bytes moment path (sees (file_of path g)) (g == generation) refl refl
  generation-blind path generation OfFolder = refl
  generation-blind path generation (NotThere room) = refl

  bytes-of_seen : (name : FileName) → sees name ≡ true → (g : ℕ) (bytes : List ℕ) (moment : ℕ) (y : Bool) → (g == name.generation) ≡ y →
      bytes_in (blind_at sees name.path (cond y (OfFile g bytes moment) (NotThere false))) ≡ bytes_in (cond y (OfFile g bytes moment) (NotThere false))
  bytes-of_seen name e g bytes moment true f =
      ap bytes_in (seen-is name.path g bytes moment (ap (λ (n : ℕ). sees (file_of name.path n)) (nat_is g name.generation f) ∙ e))
  bytes-of_seen name e g bytes moment false f = refl

  bytes-seen : (name : FileName) → sees name ≡ true → (c : Content) → bytes_in (blind_at sees name.path (of_generation name.generation c)) ≡ bytes_in (of_generation name.generation c)
  bytes-seen name e (OfFile g bytes moment) = bytes-of_seen name e g bytes moment (g == name.generation) refl
  bytes-seen name e OfFolder = refl
  bytes-seen name e (NotThere room) = refl

  bytes-shown : (name : FileName) → sees name ≡ true → (c : Content) (o : Option NamedFile) → bytes_in (blind_at sees name.path (shown_file name.generation c o)) ≡ bytes_in (shown_file name.generation c o)
  bytes-shown name e c None = bytes-seen name e c
  bytes-shown name e c (Some f) = ap bytes_in (seen-is name.path name.generation f.bytes f.moment e)

  -- ---- a content of the file of a name

  -- what is known of it is in sight as what is there
  abbrev pub Fits : List ℕ → ℕ → Content → Type 0
  Fits path generation (OfFile g bytes moment) = sees (file_of path g) ≡ sees (file_of path generation)
  Fits path generation OfFolder = Unit {0}
  Fits path generation (NotThere room) = Unit {0}

  fits-of : (name : FileName) (c : Content) → Fits name.path name.generation (of_generation name.generation c)
  fits-of name (OfFile g bytes moment) = by_number (g == name.generation) refl
    where
      by_number : (y : Bool) → (g == name.generation) ≡ y → Fits name.path name.generation (cond y (OfFile g bytes moment) (NotThere false))
      by_number true e = ap (λ (n : ℕ). sees (file_of name.path n)) (nat_is g name.generation e)
      by_number false e = tt
  fits-of name OfFolder = tt
  fits-of name (NotThere room) = tt

  fits-shown : (name : FileName) (c : Content) (o : Option NamedFile) → Fits name.path name.generation (shown_file name.generation c o)
  fits-shown name c None = fits-of name c
  fits-shown name c (Some f) = refl

  -- ---- among the files that are known by their names

  pub named-kept : (f : NamedFile) → (blind_named sees f).name ≡ f.name
  named-kept f = elim (sees f.name) as (λ x. (cond x f (hidden_named f)).name ≡ f.name) [ true ↦ refl | false ↦ refl ]

  found-as : (n : FileName) (fs : List NamedFile) → find (λ (f : NamedFile). same_name (named_as (blind_named sees f)) n) fs ≡ found_named fs n
  found-as n [] = refl
  found-as n (f ∷ fs) = λ i. cond (same_name (named-kept f i) n) (Some f) (found-as n fs i)

  named-blind : (n : FileName) (fs : List NamedFile) → found_named (map (blind_named sees) fs) n ≡ option_map (blind_named sees) (found_named fs n)
  named-blind n fs = find-map (λ (f : NamedFile). same_name (named_as f) n) (blind_named sees) fs ∙ ap (option_map (blind_named sees)) (found-as n fs)

  file-shown : (name : FileName) (c : Content) (o : Option NamedFile) → ((f : NamedFile) → o ≡ Some f → f.name ≡ name) →
      shown_file name.generation (blind_at sees name.path c) (option_map (blind_named sees) o) ≡ blind_at sees name.path (shown_file name.generation c o)
  file-shown name c None h = generation-blind name.path name.generation c
  file-shown name c (Some f) h = by_sight (sees f.name) refl
    where
      by_sight : (x : Bool) → sees f.name ≡ x → shown_file name.generation (blind_at sees name.path c) (Some (cond x f (hidden_named f))) ≡ blind_at sees name.path (OfFile name.generation f.bytes f.moment)
      by_sight true e = sym (seen-is name.path name.generation f.bytes f.moment (ap sees (sym (h f refl)) ∙ e))
      by_sight false e = sym (unseen-is name.path name.generation f.bytes f.moment (ap sees (sym (h f refl)) ∙ e))

  -- ---- what is found

  pub found-blind : (cs : List PathContent) (path : List ℕ) → found_content (map (blind_content sees) cs) path ≡ option_map (blind_content sees) (found_content cs path)
  found-blind cs path = find-map (λ (c : PathContent). is_same (path_of c) path) (blind_content sees) cs

  -- ---- among the files below a folder

  pub path-kept : (f : File) → (blind_file sees f).path ≡ f.path
  path-kept f = elim (sees (file_of f.path f.generation)) as (λ x. (cond x f (hidden_file f)).path ≡ f.path) [ true ↦ refl | false ↦ refl ]

  pub paths-kept : (fs : List File) → paths_of (map (blind_file sees) fs) ≡ paths_of fs
  paths-kept [] = refl
  paths-kept (f ∷ fs) = λ i. path-kept f i ∷ paths-kept fs i

  found-same : (p : List ℕ) (fs : List File) → find (λ (f : File). is_same (blind_file sees f).path p) fs ≡ file_at fs p
  found-same p [] = refl
  found-same p (f ∷ fs) = λ i. cond (is_same (path-kept f i) p) (Some f) (found-same p fs i)

  pub file-found : (p : List ℕ) (fs : List File) → file_at (map (blind_file sees) fs) p ≡ option_map (blind_file sees) (file_at fs p)
  file-found p fs = find-map (λ (f : File). is_same f.path p) (blind_file sees) fs ∙ ap (option_map (blind_file sees)) (found-same p fs)

  any-kept : (q : List ℕ → Bool) (fs : List File) → list_any (λ (f : File). q f.path) (map (blind_file sees) fs) ≡ list_any (λ (f : File). q f.path) fs
  any-kept q [] = refl
  any-kept q (f ∷ fs) = λ i. q (path-kept f i) || any-kept q fs i

  pub folder-kept : (p : List ℕ) (fs : List File) → is_folder (map (blind_file sees) fs) p ≡ is_folder fs p
  folder-kept p fs = ap (λ (b : Bool). is_same p root || b) (any-kept (is_above p) fs)

  of-blind : (path : List ℕ) (o : Option File) (folder room : Bool) → ((f : File) → o ≡ Some f → f.path ≡ path) → content_of (option_map (blind_file sees) o) folder room ≡ blind_at sees path (content_of o folder room)
  of-blind path None true room h = refl
  of-blind path None false room h = refl
  of-blind path (Some f) folder room h = by_sight (sees (file_of f.path f.generation)) refl
    where
      by_sight : (x : Bool) → sees (file_of f.path f.generation) ≡ x → content_of (Some (cond x f (hidden_file f))) folder room ≡ blind_at sees path (OfFile f.generation f.bytes f.moment)
      by_sight true e = sym (seen-is path f.generation f.bytes f.moment (ap (λ (p : List ℕ). sees (file_of p f.generation)) (sym (h f refl)) ∙ e))
      by_sight false e = sym (unseen-is path f.generation f.bytes f.moment (ap (λ (p : List ℕ). sees (file_of p f.generation)) (sym (h f refl)) ∙ e))

  content-in : (fs : List File) (path : List ℕ) → content_at (map (blind_file sees) fs) path ≡ blind_at sees path (content_at fs path)
  content-in fs path =
      (λ i. content_of (file-found path fs i) (folder-kept path fs i) (folder-kept (parent_of path) fs i))
      ∙ of-blind path (file_at fs path) (is_folder fs path) (has_room fs path) (λ f e. is_same-eq f.path path (found_passes (λ (x : File). is_same x.path path) fs f e))

  covering-blind : (below : List PathBelow) (path : List ℕ) → covering (map (blind_below sees) below) path ≡ option_map (blind_below sees) (covering below path)
  covering-blind below path = find-map (λ (b : PathBelow). is_at_or_below b.path path) (blind_below sees) below

  below-shown : (path : List ℕ) (o : Option PathBelow) → shown_below path (option_map (blind_below sees) o) ≡ blind_at sees path (shown_below path o)
  below-shown path None = refl
  below-shown path (Some b) = content-in b.files path

  shown-blind : (below : List PathBelow) (path : List ℕ) (o : Option PathContent) → ((c : PathContent) → o ≡ Some c → c.path ≡ path) →
      shown (map (blind_below sees) below) path (option_map (blind_content sees) o) ≡ blind_at sees path (shown below path o)
  shown-blind below path None h = ap (shown_below path) (covering-blind below path) ∙ below-shown path (covering below path)
  shown-blind below path (Some c) h = ap (λ (p : List ℕ). blind_at sees p c.content) (h c refl)

  -- and the names in a folder are the same
  names-in : (path : List ℕ) (o : Option PathBelow) → names_below path (option_map (blind_below sees) o) ≡ names_below path o
  names-in path None = refl
  names-in path (Some b) = λ i. cond (folder-kept path b.files i) (Some (fold (put_path path) [] (paths-kept b.files i))) None

  pub listed-blind : (below : List PathBelow) (path : List ℕ) → names_below path (covering (map (blind_below sees) below) path) ≡ names_below path (covering below path)
  listed-blind below path = ap (names_below path) (covering-blind below path) ∙ names-in path (covering below path)

  module _ (v : AppView) where
    pub content-blind : (path : List ℕ) → own_content (blind_but sees v) path ≡ blind_at sees path (own_content v path)
    content-blind path =
        ap (shown (map (blind_below sees) v.below) path) (found-blind v.contents path)
        ∙ shown-blind v.below path (found_content v.contents path) (λ c e. is_same-eq c.path path (found_passes (λ (x : PathContent). is_same (path_of x) path) v.contents c e))

    pub own_file-blind : (name : FileName) → own_file (blind_but sees v) name ≡ blind_at sees name.path (own_file v name)
    own_file-blind name =
        (λ i. shown_file name.generation (content-blind name.path i) (named-blind name v.files i))
        ∙ file-shown name (own_content v name.path) (found_named v.files name) (λ f e. name-eq f.name name (found_passes (λ (x : NamedFile). same_name (named_as x) name) v.files f e))

    pub own_file-fits : (name : FileName) → Fits name.path name.generation (own_file v name)
    own_file-fits name = fits-shown name (own_content v name.path) (found_named v.files name)

    -- the bytes of a file in sight, and the number of bytes of each
    pub own_bytes-seen : (name : FileName) → sees name ≡ true → own_bytes (blind_but sees v) name ≡ own_bytes v name
    own_bytes-seen name e = ap bytes_in (own_file-blind name) ∙ bytes-shown name e (own_content v name.path) (found_named v.files name)

    pub own_bytes-long : (name : FileName) → length (own_bytes (blind_but sees v) name) ≡ length (own_bytes v name)
    own_bytes-long name = ap (λ (c : Content). length (bytes_in c)) (own_file-blind name) ∙ length-blind name.path (own_file v name)

  -- ---- lists of contents

  first-kept : (q : List ℕ → Bool) (c : PathContent) (xs ys : List PathContent) (x : Bool) → xs ≡ map (blind_content sees) ys → cond x (blind_content sees c ∷ xs) xs ≡ map (blind_content sees) (cond x (c ∷ ys) ys)
  first-kept q c xs ys true e = ap (λ (zs : List PathContent). blind_content sees c ∷ zs) e
  first-kept q c xs ys false e = e

  filter-blind : (q : List ℕ → Bool) (cs : List PathContent) → filter (λ c. q (path_of c)) (map (blind_content sees) cs) ≡ map (blind_content sees) (filter (λ c. q (path_of c)) cs)
  filter-blind q [] = refl
  filter-blind q (c ∷ cs) = first-kept q c (filter (λ c. q (path_of c)) (map (blind_content sees) cs)) (filter (λ c. q (path_of c)) cs) (q c.path) (filter-blind q cs)

  pub prune-blind : (v : AppView) → prune (blind_but sees v) ≡ blind_but sees (prune v)
  prune-blind v = λ i. record (blind_but sees v) {
    documents = filter is_held v.documents;
    contents = filter-blind (is_among (named_paths (filter is_held v.documents) v.connections)) v.contents i;
    below = filter-mapped bytes_less folder_of (blind_below sees) (λ b. refl) (is_among (folder_paths (filter is_held v.documents))) v.below i;
    files = filter-mapped name_less named_as (blind_named sees) named-kept (is_held_name (names_held v.connections)) v.files i;
  }

  put-first : (x c : PathContent) (xs cs : List PathContent) (b d : Bool) → xs ≡ map (blind_content sees) cs → (ys : List PathContent) →
      cond b (blind_content sees x ∷ blind_content sees c ∷ map (blind_content sees) ys) (cond d (blind_content sees c ∷ xs) (blind_content sees x ∷ map (blind_content sees) ys))
      ≡ map (blind_content sees) (cond b (x ∷ c ∷ ys) (cond d (c ∷ cs) (x ∷ ys)))
  put-first x c xs cs true d e ys = refl
  put-first x c xs cs false true e ys = ap (λ (zs : List PathContent). blind_content sees c ∷ zs) e
  put-first x c xs cs false false e ys = refl

  put-blind : (x : PathContent) (cs : List PathContent) → put ahead (blind_content sees x) (map (blind_content sees) cs) ≡ map (blind_content sees) (put ahead x cs)
  put-blind x [] = refl
  put-blind x (c ∷ cs) = put-first x c (put ahead (blind_content sees x) (map (blind_content sees) cs)) (put ahead x cs) (ahead x c) (ahead c x) (put-blind x cs) cs

  -- ---- the whole view

  all-twice : (cs : List PathContent) → map (blind_content sees) (map (blind_content sees) cs) ≡ map (blind_content sees) cs
  all-twice [] = refl
  all-twice (c ∷ cs) = λ i. record c { content = blind-twice c.path c.content i } ∷ all-twice cs i

  file-twice : (f : File) → blind_file sees (blind_file sees f) ≡ blind_file sees f
  file-twice f = by_sight (sees (file_of f.path f.generation)) refl
    where
      by_sight : (x : Bool) → sees (file_of f.path f.generation) ≡ x → blind_file sees (cond x f (hidden_file f)) ≡ cond x f (hidden_file f)
      by_sight true e = ap (λ (b : Bool). cond b f (hidden_file f)) e
      by_sight false e =
          ap (λ (b : Bool). cond b (hidden_file f) (hidden_file (hidden_file f))) e
          ∙ ap (λ (n : ℕ). record f { bytes = replicate n 0 }) (length-replicate (length f.bytes) 0)

  files-twice : (fs : List File) → map (blind_file sees) (map (blind_file sees) fs) ≡ map (blind_file sees) fs
  files-twice [] = refl
  files-twice (f ∷ fs) = λ i. file-twice f i ∷ files-twice fs i

  below-twice : (bs : List PathBelow) → map (blind_below sees) (map (blind_below sees) bs) ≡ map (blind_below sees) bs
  below-twice [] = refl
  below-twice (b ∷ bs) = λ i. record b { files = files-twice b.files i } ∷ below-twice bs i

  named-twice : (f : NamedFile) → blind_named sees (blind_named sees f) ≡ blind_named sees f
  named-twice f = by_sight (sees f.name) refl
    where
      by_sight : (x : Bool) → sees f.name ≡ x → blind_named sees (cond x f (hidden_named f)) ≡ cond x f (hidden_named f)
      by_sight true e = ap (λ (b : Bool). cond b f (hidden_named f)) e
      by_sight false e =
          ap (λ (b : Bool). cond b (hidden_named f) (hidden_named (hidden_named f))) e
          ∙ ap (λ (n : ℕ). record f { bytes = replicate n 0 }) (length-replicate (length f.bytes) 0)

  names-twice : (fs : List NamedFile) → map (blind_named sees) (map (blind_named sees) fs) ≡ map (blind_named sees) fs
  names-twice [] = refl
  names-twice (f ∷ fs) = λ i. named-twice f i ∷ names-twice fs i

  pub view-twice : (v : AppView) → blind_but sees (blind_but sees v) ≡ blind_but sees v
  view-twice v = λ i. record v { contents = all-twice v.contents i; below = below-twice v.below i; files = names-twice v.files i }

  -- ---- effects

  abbrev pub blind_holding : List ℕ → Holding → Holding
  blind_holding path (Alone content) = Alone (blind_at sees path content)
  blind_holding path (Below files) = Below (map (blind_file sees) files)

  abbrev pub blind_effect : Effect → Effect
  blind_effect (Gained d more holding) = Gained d more (blind_holding d.path holding)
  blind_effect (Lost id less) = Lost id less
  blind_effect (Gone id) = Gone id
  blind_effect (Bytes path generation content) = Bytes path generation (blind_at sees path content)
  blind_effect (Turned path generation content) = Turned path generation (blind_at sees path content)

  -- what is told of a file by its name is of that
  abbrev pub Fit : Effect → Type 0
  Fit (Gained d more holding) = Unit {0}
  Fit (Lost id less) = Unit {0}
  Fit (Gone id) = Unit {0}
  Fit (Bytes path generation content) = Fits path generation content
  Fit (Turned path generation content) = Unit {0}

  abbrev pub AllFit : List Effect → Type 0
  AllFit [] = Unit {0}
  AllFit (f ∷ fs) = Fit f × AllFit fs

  with_content-blind : (path : List ℕ) (content : Content) (o : Option PathContent) → with_content path (blind_at sees path content) (option_map (blind_content sees) o) ≡ blind_content sees (with_content path content o)
  with_content-blind path content None = refl
  with_content-blind path content (Some c) = refl

  pub gained-blind : (path : List ℕ) (content : Content) (cs : List PathContent) →
      put ahead (with_content path (blind_at sees path content) (found_content (map (blind_content sees) cs) path)) (map (blind_content sees) cs) ≡ map (blind_content sees) (put ahead (with_content path content (found_content cs path)) cs)
  gained-blind path content cs =
      ap (λ (o : Option PathContent). put ahead (with_content path (blind_at sees path content) o) (map (blind_content sees) cs)) (found-blind cs path)
      ∙ (ap (λ (c : PathContent). put ahead c (map (blind_content sees) cs)) (with_content-blind path content (found_content cs path))
      ∙ put-blind (with_content path content (found_content cs path)) cs)

  file_changed : (path : List ℕ) (generation : ℕ) (new : Content) (g : ℕ) (bytes : List ℕ) (moment : ℕ) (x y : Bool) → sees (file_of path g) ≡ x → (g == generation) ≡ y →
      changed_content generation (blind_at sees path new) (cond x (OfFile g bytes moment) (OfFile g (replicate (length bytes) 0) moment)) ≡ blind_at sees path (cond y new (OfFile g bytes moment))
  file_changed path generation new g bytes moment true true e f = rw f refl
  file_changed path generation new g bytes moment true false e f = rw (f, e) refl
  file_changed path generation new g bytes moment false true e f = rw f refl
  file_changed path generation new g bytes moment false false e f = rw (f, e) refl

  changed_content-blind : (path : List ℕ) (generation : ℕ) (new old : Content) → changed_content generation (blind_at sees path new) (blind_at sees path old) ≡ blind_at sees path (changed_content generation new old)
  changed_content-blind path generation new (OfFile g bytes moment) = file_changed path generation new g bytes moment (sees (file_of path g)) (g == generation) refl refl
  changed_content-blind path generation new OfFolder = refl
  changed_content-blind path generation new (NotThere room) = elim (generation == 0) as (λ y. cond y (blind_at sees path new) (NotThere room) ≡ blind_at sees path (cond y new (NotThere room))) [ true ↦ refl | false ↦ refl ]

  one_changed : (path : List ℕ) (generation : ℕ) (new : Content) (c : PathContent) (x : Bool) → is_same c.path path ≡ x →
      cond x (record c { content = changed_content generation (blind_at sees path new) (blind_at sees c.path c.content) }) (blind_content sees c)
      ≡ blind_content sees (cond x (record c { content = changed_content generation new c.content }) c)
  one_changed path generation new c true e =
      let same : c.path ≡ path = is_same-eq c.path path e in
      λ i. record c {
        content = (ap (λ (p : List ℕ). changed_content generation (blind_at sees p new) (blind_at sees c.path c.content)) (sym same) ∙ changed_content-blind c.path generation new c.content) i;
      }
  one_changed path generation new c false e = refl

  bytes-blind : (path : List ℕ) (generation : ℕ) (new : Content) (cs : List PathContent) →
      map (with_bytes path generation (blind_at sees path new)) (map (blind_content sees) cs) ≡ map (blind_content sees) (map (with_bytes path generation new) cs)
  bytes-blind path generation new [] = refl
  bytes-blind path generation new (c ∷ cs) = λ i. one_changed path generation new c (is_same c.path path) refl i ∷ bytes-blind path generation new cs i

  -- a file that stands there from now on
  one_turned : (path : List ℕ) (new : Content) (c : PathContent) (x : Bool) → is_same c.path path ≡ x →
      cond x (record c { content = blind_at sees path new }) (blind_content sees c) ≡ blind_content sees (cond x (record c { content = new }) c)
  one_turned path new c true e = ap (λ (p : List ℕ). record c { content = blind_at sees p new }) (sym (is_same-eq c.path path e))
  one_turned path new c false e = refl

  turned-blind : (path : List ℕ) (new : Content) (cs : List PathContent) →
      map (with_turned path (blind_at sees path new)) (map (blind_content sees) cs) ≡ map (blind_content sees) (map (with_turned path new) cs)
  turned-blind path new [] = refl
  turned-blind path new (c ∷ cs) = λ i. one_turned path new c (is_same c.path path) refl i ∷ turned-blind path new cs i

  -- a file that is known by its name
  abbrev named_now : FileName → List ℕ → ℕ → NamedFile
  named_now name bytes moment = record { name = name; bytes = bytes; moment = moment }

  pub with_named-blind : (name : FileName) (c : Content) (fs : List NamedFile) → Fits name.path name.generation c →
      with_named name (blind_at sees name.path c) (map (blind_named sees) fs) ≡ map (blind_named sees) (with_named name c fs)
  with_named-blind name OfFolder fs h = refl
  with_named-blind name (NotThere room) fs h = refl
  with_named-blind name (OfFile g bytes moment) fs h =
      by_sight (sees (file_of name.path g))
      ∙ (ap (λ (b : Bool). put named_ahead (cond b (named_now name bytes moment) (hidden_named (named_now name bytes moment))) (map (blind_named sees) fs)) h
      ∙ put-mapped name_less named_as (blind_named sees) named-kept (named_now name bytes moment) fs)
    where
      by_sight : (x : Bool) → with_named name (cond x (OfFile g bytes moment) (OfFile g (replicate (length bytes) 0) moment)) (map (blind_named sees) fs) ≡ put named_ahead (cond x (named_now name bytes moment) (hidden_named (named_now name bytes moment))) (map (blind_named sees) fs)
      by_sight true = refl
      by_sight false = refl

  -- a folder that joins, and a file that changes below one
  with_below-blind : (path : List ℕ) (files : List File) (o : Option PathBelow) → with_below path (map (blind_file sees) files) (option_map (blind_below sees) o) ≡ blind_below sees (with_below path files o)
  with_below-blind path files None = refl
  with_below-blind path files (Some b) = refl

  joined-blind : (path : List ℕ) (files : List File) (bs : List PathBelow) →
      put below_ahead (with_below path (map (blind_file sees) files) (found_below (map (blind_below sees) bs) path)) (map (blind_below sees) bs) ≡ map (blind_below sees) (put below_ahead (with_below path files (found_below bs path)) bs)
  joined-blind path files bs =
      ap (λ (o : Option PathBelow). put below_ahead (with_below path (map (blind_file sees) files) o) (map (blind_below sees) bs)) (find-map (λ (b : PathBelow). is_same (folder_of b) path) (blind_below sees) bs)
      ∙ (ap (λ (b : PathBelow). put below_ahead b (map (blind_below sees) bs)) (with_below-blind path files (found_below bs path))
      ∙ put-mapped bytes_less folder_of (blind_below sees) (λ b. refl) (with_below path files (found_below bs path)) bs)

  module _ (path : List ℕ) (generation : ℕ) (new : Content) where
    abbrev name : FileName
    name = record { path = path; generation = generation }

    -- the file that is changed
    file_renewed : (x f : File) → f.path ≡ x.path → x.path ≡ path → (c : Content) → f ≡ blind_file sees x → with_content_of (blind_at sees path c) f ≡ blind_file sees (with_content_of c x)
    file_renewed x f k e OfFolder h = h
    file_renewed x f k e (NotThere room) h = h
    file_renewed x f k e (OfFile g bytes moment) h = by_sight (sees (file_of path g)) refl
      where
        by_sight : (s : Bool) → sees (file_of path g) ≡ s → with_content_of (cond s (OfFile g bytes moment) (OfFile g (replicate (length bytes) 0) moment)) f ≡ blind_file sees (record x { generation = g; bytes = bytes; moment = moment })
        by_sight true u =
            (λ i. record { path = k i; generation = g; bytes = bytes; moment = moment })
            ∙ sym (ap (λ (b : Bool). cond b (record x { generation = g; bytes = bytes; moment = moment }) (hidden_file (record x { generation = g; bytes = bytes; moment = moment }))) (ap (λ (p : List ℕ). sees (file_of p g)) e ∙ u))
        by_sight false u =
            (λ i. record { path = k i; generation = g; bytes = replicate (length bytes) 0; moment = moment })
            ∙ sym (ap (λ (b : Bool). cond b (record x { generation = g; bytes = bytes; moment = moment }) (hidden_file (record x { generation = g; bytes = bytes; moment = moment }))) (ap (λ (p : List ℕ). sees (file_of p g)) e ∙ u))

    one_renewed : (x : File) → cond (is_named name (blind_file sees x)) (with_content_of (blind_at sees path new) (blind_file sees x)) (blind_file sees x) ≡ blind_file sees (cond (is_named name x) (with_content_of new x) x)
    one_renewed x = ap (λ (b : Bool). cond b (with_content_of (blind_at sees path new) (blind_file sees x)) (blind_file sees x)) named-kept ∙ by_name (is_named name x) refl
      where
        named-kept : is_named name (blind_file sees x) ≡ is_named name x
        named-kept = elim (sees (file_of x.path x.generation)) as (λ b. is_named name (cond b x (hidden_file x)) ≡ is_named name x) [ true ↦ refl | false ↦ refl ]

        by_name : (n : Bool) → is_named name x ≡ n → cond n (with_content_of (blind_at sees path new) (blind_file sees x)) (blind_file sees x) ≡ blind_file sees (cond n (with_content_of new x) x)
        by_name true e = file_renewed x (blind_file sees x) (path-kept x) (is_same-eq x.path path (first_of_both (is_same x.path path) (x.generation == generation) e)) new refl
        by_name false e = refl

    all_renewed : (fs : List File) → change_named name (with_content_of (blind_at sees path new)) (map (blind_file sees) fs) ≡ map (blind_file sees) (change_named name (with_content_of new) fs)
    all_renewed [] = refl
    all_renewed (x ∷ xs) = λ i. one_renewed x i ∷ all_renewed xs i

    -- a file that comes to its path
    first-blind : (c : Content) (fs : List File) → with_file_at path (blind_at sees path c) (map (blind_file sees) fs) ≡ map (blind_file sees) (with_file_at path c fs)
    first-blind OfFolder fs = refl
    first-blind (NotThere room) fs = refl
    first-blind (OfFile g bytes moment) fs =
        by_sight (sees (file_of path g))
        ∙ put-mapped bytes_less (λ (f : File). f.path) (blind_file sees) path-kept (file_made path g bytes moment) fs
      where
        by_sight : (s : Bool) → with_file_at path (cond s (OfFile g bytes moment) (OfFile g (replicate (length bytes) 0) moment)) (map (blind_file sees) fs)
            ≡ put file_ahead (cond s (file_made path g bytes moment) (hidden_file (file_made path g bytes moment))) (map (blind_file sees) fs)
        by_sight true = refl
        by_sight false = refl

    some-mapped : (o : Option File) → is_some (option_map (blind_file sees) o) ≡ is_some o
    some-mapped None = refl
    some-mapped (Some f) = refl

    with_file-blind : (fs : List File) → with_file path generation (blind_at sees path new) (map (blind_file sees) fs) ≡ map (blind_file sees) (with_file path generation new fs)
    with_file-blind fs =
        ap (λ (b : Bool). cond b (change_named name (with_content_of (blind_at sees path new)) (map (blind_file sees) fs)) (cond (generation == 0) (with_file_at path (blind_at sees path new) (map (blind_file sees) fs)) (map (blind_file sees) fs)))
        (ap is_some (file-found path fs) ∙ some-mapped (file_at fs path))
        ∙ by_file (is_some (file_at fs path)) (generation == 0)
      where
        by_file : (a b : Bool) →
            cond a (change_named name (with_content_of (blind_at sees path new)) (map (blind_file sees) fs)) (cond b (with_file_at path (blind_at sees path new) (map (blind_file sees) fs)) (map (blind_file sees) fs))
            ≡ map (blind_file sees) (cond a (change_named name (with_content_of new) fs) (cond b (with_file_at path new fs) fs))
        by_file true b = all_renewed fs
        by_file false true = first-blind new fs
        by_file false false = refl

    one_below : (b : PathBelow) → with_bytes_below path generation (blind_at sees path new) (blind_below sees b) ≡ blind_below sees (with_bytes_below path generation new b)
    one_below b = by_place (is_at_or_below b.path path)
      where
        by_place : (x : Bool) → cond x (record b { files = with_file path generation (blind_at sees path new) (map (blind_file sees) b.files) }) (blind_below sees b) ≡ blind_below sees (cond x (record b { files = with_file path generation new b.files }) b)
        by_place true = λ i. record b { files = with_file-blind b.files i }
        by_place false = refl

    below-blind : (bs : List PathBelow) → map (with_bytes_below path generation (blind_at sees path new)) (map (blind_below sees) bs) ≡ map (blind_below sees) (map (with_bytes_below path generation new) bs)
    below-blind [] = refl
    below-blind (b ∷ bs) = λ i. one_below b i ∷ below-blind bs i

    turned_below : (b : PathBelow) → with_turned_below path (blind_at sees path new) (blind_below sees b) ≡ blind_below sees (with_turned_below path new b)
    turned_below b = by_place (is_at_or_below b.path path)
      where
        by_place : (x : Bool) → cond x (record b { files = with_file_at path (blind_at sees path new) (map (blind_file sees) b.files) }) (blind_below sees b) ≡ blind_below sees (cond x (record b { files = with_file_at path new b.files }) b)
        by_place true = λ i. record b { files = first-blind new b.files i }
        by_place false = refl

    turned-below : (bs : List PathBelow) → map (with_turned_below path (blind_at sees path new)) (map (blind_below sees) bs) ≡ map (blind_below sees) (map (with_turned_below path new) bs)
    turned-below [] = refl
    turned-below (b ∷ bs) = λ i. turned_below b i ∷ turned-below bs i

  changed-blind : (v : AppView) (f : Effect) → Fit f → changed (blind_but sees v) (blind_effect f) ≡ blind_but sees (changed v f)
  changed-blind v (Gained d more (Alone content)) h = λ i. record (blind_but sees (changed v (Gained d more (Alone content)))) { contents = gained-blind d.path content v.contents i }
  changed-blind v (Gained d more (Below files)) h = λ i. record (blind_but sees (changed v (Gained d more (Below files)))) { below = joined-blind d.path files v.below i }
  changed-blind v (Lost id less) h = refl
  changed-blind v (Gone id) h = refl
  changed-blind v (Bytes path generation content) h = λ i. record v {
    contents = bytes-blind path generation content v.contents i;
    below = below-blind path generation content v.below i;
    files = with_named-blind (file_of path generation) content v.files h i;
  }
  changed-blind v (Turned path generation content) h = λ i. record v {
    contents = turned-blind path content v.contents i;
    below = turned-below path generation content v.below i;
    files = map (blind_named sees) v.files;
  }

  pub apply-blind : (v : AppView) (f : Effect) → Fit f → apply (blind_but sees v) (blind_effect f) ≡ blind_but sees (apply v f)
  apply-blind v f h = ap prune (changed-blind v f h) ∙ prune-blind (changed v f)

  pub apply_all-blind : (fs : List Effect) (v : AppView) → AllFit fs → blind_but sees (apply_all v fs) ≡ apply_all (blind_but sees v) (map blind_effect fs)
  apply_all-blind [] v h = refl
  apply_all-blind (f ∷ fs) v h = apply_all-blind fs (apply v f) h.1 ∙ ap (λ (x : AppView). apply_all x (map blind_effect fs)) (sym (apply-blind v f h.0))

  -- views that are equal when blinded stay so by effects that are
  pub apply-same : (v w : AppView) (f k : Effect) → Fit f → Fit k → blind_but sees v ≡ blind_but sees w → blind_effect f ≡ blind_effect k → blind_but sees (apply v f) ≡ blind_but sees (apply w k)
  apply-same v w f k p q h e = sym (apply-blind v f p) ∙ ((λ i. apply (h i) (e i)) ∙ apply-blind w k q)

  pub apply_all-same : (v w : AppView) (fs ks : List Effect) → AllFit fs → AllFit ks → blind_but sees v ≡ blind_but sees w → map blind_effect fs ≡ map blind_effect ks → blind_but sees (apply_all v fs) ≡ blind_but sees (apply_all w ks)
  apply_all-same v w fs ks p q h e = apply_all-blind fs v p ∙ ((λ i. apply_all (h i) (e i)) ∙ sym (apply_all-blind ks w q))

  -- ---- with other connections

  pub connections-same : (v : AppView) (cs : List OwnConnection) → blind_but sees (prune (record (blind_but sees v) { connections = cs })) ≡ blind_but sees (prune (record v { connections = cs }))
  connections-same v cs =
      sym (prune-blind (record (blind_but sees v) { connections = cs }))
      ∙ (ap (λ (x : AppView). prune (record x { connections = cs })) (view-twice v) ∙ prune-blind (record v { connections = cs }))

  -- ---- a view, and what comes with it

  abbrev pub seen_pair : {X : Type 0} → AppView × X → AppView × X
  seen_pair p = (blind_but sees p.0, p.1)
