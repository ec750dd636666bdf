-- What a view shows of the tree, at the paths that it names, is what the tree has. So a walk that looks there alone
-- takes the same looks.
use Rattle.std.proofs.Common.{◌≡◌, ℕ, ◌==◌, List, [], ◌∷◌, map, length, take, Bool, true, false, not, ◌&&◌, ◌||◌, cond, Option, Some, None, is_some, refl, sym, ap, subst, ◌∙◌, arith}
use Rattle.std.specs.List.{find, list_all, list_any, AllByRecursion}
use Rattle.std.specs.Option.{option_map}
use Rattle.std.proofs.lemmas.Bool.Decides.{nat_tests}
use Rattle.portal_base.specs.Content.{file_named, is_named}
use Rattle.portal_base.specs.FolderNames.{names_in}
use Rattle.file_generations.specs.Generations.{Held, all_held, is_held}
use Rattle.portal_base.specs.Names.{is_same, root}
use Rattle.portal_base.specs.declared.files.ChildName.{ChildName}
use Rattle.portal_base.specs.declared.files.File.{File}
use Rattle.portal_base.specs.declared.files.FileName.{FileName}
use Rattle.portal_base.specs.declared.files.Look.{Look}
use Rattle.portal_model.specs.declared.entry.Fault.{Fault}
use Rattle.portal_model.specs.Bus.{is_tree}
use Rattle.portal_model.specs.Content.{Content, NotThere, OfFile, content_at, content_of, file_at, has_room, is_folder, look_at, look_of}
use Rattle.portal_model.specs.Node.{bytes_named, bytes_of}
use Rattle.portal_model.specs.NodeVerdict.{NodeVerdict}
use Rattle.portal_model.specs.State.{State, held_in}
use Rattle.portal_model.specs.Walk.{Walk, Answers, Looks, Ends, Lists, Target, AtPath, Named, LastCall, Uses, Changes, Makes, Freshens, Turns, Gives, GivesNames, is_found, listed_shown, look_of_file, looks_shown, names_listed, shown_at, walked_with}
use Rattle.portal_model.specs.Ordered.{put, put_all}
use Rattle.portal_model.proofs.ListLookups.{found_in_all, found_passes, is_same-eq, is_same-refl}
use Rattle.portal_model.proofs.LooksTaken.{listed_given, shown_given}
use Rattle.app_world.specs.Node.{content_named, first_of, has_file}
use Rattle.app_world.specs.Shown.{bytes_in, covering, has_parent, is_file, is_folder_there, is_place, names_below, of_generation, own_bytes, own_content, own_file, own_found, own_listed, own_looks, own_shown_at, shown, shown_below, shown_file, succeeding}
use Rattle.app_world.specs.View.{NamedFile, PathBelow, below_ahead, below_at, covers, files_at, files_below, folder_of, folder_paths, found_named, holds_name, is_among, is_at_or_below, is_held_name, named_paths, names_held, path_below, path_content, knows, view}
use Rattle.app_world.proofs.BelowLaws.{any-put_all-key, below-content, below-folder}
use Rattle.app_world.proofs.BelowNames.{below-names}
use Rattle.app_world.proofs.ContentLaws.{contents-found}
use Rattle.app_world.proofs.FileChangeLaws.{is_standing, stands}
use Rattle.app_world.proofs.HeldFiles.{SoundTree, file_named-is, find-append, first-followed, first_some, found-name, of_number, present-named, standing-named}
use Rattle.app_world.proofs.NamedFiles.{named-found, named_in, named_of}
use Rattle.app_world.proofs.ParentPaths.{has_parent-is}
use Rattle.app_world.proofs.WalksAlong.{Along}

-- ---- the file of a name

pub of_generation-is : (generation : ℕ) (o : Option File) (folder room : Bool) → of_generation generation (content_of o folder room) ≡ content_of (of_number generation o) false false
of_generation-is generation None true room = refl
of_generation-is generation None false room = refl
of_generation-is generation (Some f) folder room = elim (f.generation == generation) as (λ b. of_generation generation (content_of (Some f) folder room) ≡ of_generation generation (content_of (Some f) folder room) → cond b (content_of (Some f) folder room) (content_of None false false) ≡ content_of (cond b (Some f) None) false false) [
  | true ↦ λ e. refl
  | false ↦ λ e. refl
] refl

look-of_file : (o : Option File) → look_of (content_of o false false) ≡ look_of_file o
look-of_file None = refl
look-of_file (Some f) = refl

bytes-of_file : (o : Option File) → bytes_in (content_of o false false) ≡ bytes_of o
bytes-of_file None = refl
bytes-of_file (Some f) = refl

is_file-some : (o : Option File) → is_file (content_of o false false) ≡ is_some o
is_file-some None = refl
is_file-some (Some f) = refl

-- where nothing stands at a path, it tells whether there is room for a file
place-is : (o : Option File) (folder room : Bool) → look_of (content_of o folder room) ≡ Look.Missing → is_place (content_of o folder room) ≡ room
place-is (Some f) folder room e = cc
place-is None true room e = cc
place-is None false room e = refl

-- ---- at or below a folder

module _ (P : PathBelow → Type 0) where
  all-put : (x : PathBelow) (xs : List PathBelow) → P x → AllByRecursion P xs → AllByRecursion P (put below_ahead x xs)
  all-put x [] h k = (h, tt)
  all-put x (y ∷ ys) h k = elim (below_ahead x y) as (λ b. AllByRecursion P (cond b (x ∷ y ∷ ys) (cond (below_ahead y x) (y ∷ put below_ahead x ys) (x ∷ ys)))) [
    | true ↦ (h, k)
    | false ↦ elim (below_ahead y x) as (λ b. AllByRecursion P (cond b (y ∷ put below_ahead x ys) (x ∷ ys))) [
      | true ↦ (k.0, all-put x ys h k.1)
      | false ↦ (h, k.1)
    ]
  ]

  all-put_all : (xs : List PathBelow) → AllByRecursion P xs → AllByRecursion P (put_all below_ahead xs)
  all-put_all [] h = tt
  all-put_all (x ∷ xs) h = all-put x (put_all below_ahead xs) h.0 (all-put_all xs h.1)

  -- what is found
  abbrev pub IsFoundSo : (PathBelow → Bool) → Option PathBelow → Type 0
  IsFoundSo p None = ⊥
  IsFoundSo p (Some b) = P b × (p b ≡ true)

  found-so : (p : PathBelow → Bool) (xs : List PathBelow) → AllByRecursion P xs → list_any p xs ≡ true → IsFoundSo p (find p xs)
  found-so p [] h k = cc
  found-so p (x ∷ xs) h k = step (p x) refl k (found-so p xs h.1)
    where
      step : (b : Bool) → p x ≡ b → (b || list_any p xs) ≡ true → (list_any p xs ≡ true → IsFoundSo p (find p xs)) → IsFoundSo p (cond b (Some x) (find p xs))
      step true e g more = (h.0, e)
      step false e g more = more g

-- each stands for the files below one of these paths
abbrev pub IsOneOf : List File → List (List ℕ) → PathBelow → Type 0
IsOneOf files fs b = (b.files ≡ files_below files b.path) × (is_among fs b.path ≡ true)

all-mapped : (files : List File) (whole fs : List (List ℕ)) → ((path : List ℕ) → is_among fs path ≡ true → is_among whole path ≡ true) → AllByRecursion (IsOneOf files whole) (map (path_below files) fs)
all-mapped files whole [] h = tt
all-mapped files whole (f ∷ fs) h = ((refl, h f (first (is_same f f) (is_among fs f) (is_same-refl f))), all-mapped files whole fs (λ path k. h path (later (is_same f path) k)))
  where
    first : (a b : Bool) → a ≡ true → (a || b) ≡ true
    first true b e = refl
    first false b e = cc

    later : (a : Bool) {b : Bool} → b ≡ true → (a || b) ≡ true
    later true e = refl
    later false e = e

any-mapped : (files : List File) (q : List ℕ → Bool) (fs : List (List ℕ)) → list_any (λ (b : PathBelow). q (folder_of b)) (map (path_below files) fs) ≡ list_any q fs
any-mapped files q [] = refl
any-mapped files q (f ∷ fs) = ap (λ (c : Bool). q f || c) (any-mapped files q fs)

-- the one at or below whose folder a path lies
pub covered-by-one : (files : List File) (fs : List (List ℕ)) (path : List ℕ) → list_any (λ x. is_at_or_below x path) fs ≡ true → IsFoundSo (IsOneOf files fs) (λ b. is_at_or_below b.path path) (covering (below_at files fs) path)
covered-by-one files fs path h =
    found-so (IsOneOf files fs) (λ b. is_at_or_below b.path path) (below_at files fs)
    (all-put_all (IsOneOf files fs) (map (path_below files) fs) (all-mapped files fs fs (λ p k. k)))
    (any-put_all-key folder_of (λ x. is_at_or_below x path) (map (path_below files) fs) ∙ (any-mapped files (λ x. is_at_or_below x path) fs ∙ h))

-- the folders of a view are there
pub record FolderThere (files : List File) (folder : List ℕ) : Type 0 where
  pub some : is_same folder [] ≡ false
  pub there : is_folder files folder ≡ true
  pub no_file : file_at files folder ≡ None
  pub no_root : is_same folder root ≡ false

abbrev pub FoldersThere : List ℕ → State → Type 0
FoldersThere app s = (folder : List ℕ) → is_among (folder_paths (view s app).documents) folder ≡ true → FolderThere s.files folder

-- ---- at a path of which the view tells

nat-itself : (n : ℕ) → (n == n) ≡ true
nat-itself n = grind (arith, nat_tests)

and-true : (b : Bool) → (b && true) ≡ b
and-true true = refl
and-true false = refl

none-found : {X : Type 0} (p : X → Bool) (xs : List X) → list_any p xs ≡ false → find p xs ≡ None
none-found p [] h = refl
none-found p (x ∷ xs) h = step (p x) h (none-found p xs)
  where
    step : (b : Bool) → (b || list_any p xs) ≡ false → (list_any p xs ≡ false → find p xs ≡ None) → cond b (Some x) (find p xs) ≡ None
    step true k more = cc
    step false k more = more k

-- no folder covers it
uncovered : (files : List File) (fs : List (List ℕ)) (path : List ℕ) → list_any (λ x. is_at_or_below x path) fs ≡ false → covering (below_at files fs) path ≡ None
uncovered files fs path h =
    none-found (λ b. is_at_or_below b.path path) (below_at files fs)
    (any-put_all-key folder_of (λ x. is_at_or_below x path) (map (path_below files) fs) ∙ (any-mapped files (λ x. is_at_or_below x path) fs ∙ h))

module _ (app : List ℕ) (s : State) (t : SoundTree (held_in s)) (folders : FoldersThere app s) where
  abbrev tree : Held
  tree = held_in s

  abbrev pub On : List ℕ → Type 0
  On path = knows (view s app) path ≡ true

  abbrev named_there : List (List ℕ)
  named_there = named_paths (view s app).documents (view s app).connections

  abbrev folders_here : List (List ℕ)
  folders_here = folder_paths (view s app).documents

  abbrev held_here : List FileName
  held_here = names_held (view s app).connections

  by-folder : (path : List ℕ) (o : Option PathBelow) → IsFoundSo (IsOneOf s.files folders_here) (λ b. is_at_or_below b.path path) o → shown_below path o ≡ content_at s.files path
  by-folder path None h = absurd h
  by-folder path (Some b) h =
      let there : FolderThere s.files b.path = folders b.path h.0.1 in
      ap (λ (fs : List File). content_at fs path) h.0.0 ∙ below-content s.files b.path path there.some there.there there.no_file h.1

  pub content-on : (path : List ℕ) → On path → own_content (view s app) path ≡ content_at s.files path
  content-on path h = ap (shown (view s app).below path) (contents-found s.files path named_there) ∙ step (is_among named_there path) refl h
    where
      step : (b : Bool) → is_among named_there path ≡ b → (b || covers (view s app) path) ≡ true → shown (view s app).below path (cond b (Some (path_content s.files path)) None) ≡ content_at s.files path
      step true e g = refl
      step false e g = by-folder path (covering (view s app).below path) (covered-by-one s.files folders_here path g)

  -- nothing is told of another path
  content-off : (path : List ℕ) → knows (view s app) path ≡ false → own_content (view s app) path ≡ NotThere false
  content-off path h = ap (shown (view s app).below path) (contents-found s.files path named_there) ∙ step (is_among named_there path) h
    where
      step : (b : Bool) → (b || covers (view s app) path) ≡ false → shown (view s app).below path (cond b (Some (path_content s.files path)) None) ≡ NotThere false
      step true g = cc
      step false g = ap (shown_below path) (uncovered s.files folders_here path g)

  -- ---- the file of a name

  -- as it stands at its path
  by-path : (name : FileName) → On name.path → of_generation name.generation (own_content (view s app) name.path) ≡ content_named s.files name
  by-path name h =
      ap (of_generation name.generation) (content-on name.path h)
      ∙ (of_generation-is name.generation (file_at s.files name.path) (is_folder s.files name.path) (has_room s.files name.path)
      ∙ ap (λ (o : Option File). content_of o false false) (sym (file_named-is name s.files t.paths)))

  -- the view shows it as the tree has it
  abbrev pub SameFile : FileName → Type 0
  SameFile name = own_file (view s app) name ≡ content_named (all_held tree) name

  abbrev pub Known : FileName → Type 0
  Known name = On name.path × SameFile name

  -- a name that no file has, and none had as the first of its path
  abbrev pub New : FileName → Type 0
  New name = (is_held tree name ≡ false) × ((name.generation == 0) ≡ false)

  shown-some : (name : FileName) (f : File) → file_named (all_held tree) name ≡ Some f → OfFile name.generation f.bytes f.moment ≡ content_named (all_held tree) name
  shown-some name f e =
      ap (λ (n : FileName). OfFile n.generation f.bytes f.moment) (sym (found-name (all_held tree) name f e))
      ∙ ap (λ (o : Option File). content_of o false false) (sym e)

  -- where it isn't there, no present file has the name
  present-too : (name : FileName) → file_named (all_held tree) name ≡ None → file_named s.files name ≡ file_named (all_held tree) name
  present-too name e = behind (file_named tree.hidden name) (file_named s.files name) (sym (find-append (is_named name) tree.hidden s.files) ∙ e) ∙ sym e
    where
      behind : (o q : Option File) → first_some o q ≡ None → q ≡ None
      behind None q k = k
      behind (Some f) q k = cc

  -- what the view has by the name, if any
  held-by : (name : FileName) (b : Bool) → is_held_name held_here name ≡ b → own_file (view s app) name ≡ shown_file name.generation (own_content (view s app) name.path) (cond b (named_in (all_held tree) name) None)
  held-by name b e =
      ap (shown_file name.generation (own_content (view s app) name.path)) (named-found (all_held tree) name held_here ∙ ap (λ (c : Bool). cond c (named_in (all_held tree) name) None) e)

  -- a file that a connection of the view names
  held-some : (name : FileName) (f : File) → file_named (all_held tree) name ≡ Some f → is_held_name held_here name ≡ true → SameFile name
  held-some name f e h =
      held-by name true h
      ∙ (ap (λ (o : Option File). shown_file name.generation (own_content (view s app) name.path) (option_map (named_of name) o)) e ∙ shown-some name f e)

  -- one that stands at its path, or isn't there
  path-known : (name : FileName) → On name.path → file_named s.files name ≡ file_named (all_held tree) name → SameFile name
  path-known name h same = step (is_held_name held_here name) refl
    where
      standing : of_generation name.generation (own_content (view s app) name.path) ≡ content_named (all_held tree) name
      standing = by-path name h ∙ ap (λ (o : Option File). content_of o false false) same

      by-name : (o : Option File) → file_named (all_held tree) name ≡ o → is_held_name held_here name ≡ true → SameFile name
      by-name (Some f) e g = held-some name f e g
      by-name None e g =
          held-by name true g
          ∙ (ap (λ (o : Option File). shown_file name.generation (own_content (view s app) name.path) (option_map (named_of name) o)) e ∙ standing)

      step : (b : Bool) → is_held_name held_here name ≡ b → SameFile name
      step true e = by-name (file_named (all_held tree) name) refl e
      step false e = held-by name false e ∙ standing

  pub held-known : (name : FileName) → On name.path → holds_name (view s app) name ≡ true → Known name
  held-known name h g = (h, step (file_named (all_held tree) name) refl)
    where
      step : (o : Option File) → file_named (all_held tree) name ≡ o → SameFile name
      step (Some f) e = held-some name f e g
      step None e = path-known name h (present-too name e)

  pub missing-known : (name : FileName) → On name.path → is_held tree name ≡ false → Known name
  missing-known name h g = (h, step (file_named (all_held tree) name) refl)
    where
      step : (o : Option File) → file_named (all_held tree) name ≡ o → SameFile name
      step (Some f) e = let no : true ≡ false = sym (ap is_some e) ∙ g in cc
      step None e = path-known name h (present-too name e)

  pub standing-known : (path : List ℕ) → On path → (generation size moment : ℕ) → look_at s.files path ≡ Look.File generation size moment → Known (record { path = path; generation = generation })
  standing-known path h generation size moment e = (h, step (file_at s.files path) refl (is_folder s.files path) e)
    where
      name : FileName
      name = record { path = path; generation = generation }

      there : (f : File) → file_at s.files path ≡ Some f → f.generation ≡ generation → SameFile name
      there f k g =
          let number : (f.generation == generation) ≡ true = ap (λ (n : ℕ). f.generation == n) (sym g) ∙ nat-itself f.generation in
          let all : file_named (all_held tree) name ≡ Some f = standing-named tree t name f k number in
          let present : file_named s.files name ≡ Some f = file_named-is name s.files t.paths ∙ (ap (of_number generation) k ∙ ap (λ (b : Bool). cond b (Some f) None) number) in
          path-known name h (present ∙ sym all)

      step : (o : Option File) → file_at s.files path ≡ o → (b : Bool) → look_of (content_of o b (has_room s.files path)) ≡ Look.File generation size moment → SameFile name
      step (Some f) k b g = there f k cc
      step None k true g = cc
      step None k false g = cc

  pub absent-known : (path : List ℕ) → On path → look_at s.files path ≡ Look.Missing → Known (record { path = path; generation = 0 })
  absent-known path h e = missing-known (first_of path) h (step (is_held tree (first_of path)) refl)
    where
      nothing : (o : Option File) (b : Bool) → look_of (content_of o b (has_room s.files path)) ≡ Look.Missing → is_some o ≡ true → ⊥
      nothing (Some f) b g k = absurd (cc)
      nothing None b g k = absurd (cc)

      step : (b : Bool) → is_held tree (first_of path) ≡ b → b ≡ false
      step true g = absurd (nothing (file_at s.files path) (is_folder s.files path) e (first-followed tree t (first_of path) refl g))
      step false g = refl

  -- what is shown for a name has its generation
  pub named-known : (name : FileName) → Known name → (generation size moment : ℕ) → shown_at tree (Named name) ≡ Look.File generation size moment → Known (record { path = name.path; generation = generation })
  named-known name h generation size moment e = subst Known (step (file_named (all_held tree) name) refl e) h
    where
      step : (o : Option File) → file_named (all_held tree) name ≡ o → look_of_file o ≡ Look.File generation size moment → name ≡ record { path = name.path; generation = generation }
      step (Some f) k g =
          let number : f.generation ≡ generation = cc in
          let its : name.generation ≡ f.generation = ap (λ (n : FileName). n.generation) (sym (found-name (all_held tree) name f k)) in
          λ i. record { path = name.path; generation = (its ∙ number) i }
      step None k g = cc

  -- the view has the file of a name: so it has that of the tree
  pub own-files : (name : FileName) → is_held tree name ≡ true → has_file (view s app) name ≡ true → SameFile name
  own-files name h k = by-name (file_named (all_held tree) name) refl
    where
      told : (f : File) → file_named (all_held tree) name ≡ Some f → is_held_name held_here name ≡ false → (b : Bool) → knows (view s app) name.path ≡ b → SameFile name
      told f e g true on = held-by name false g ∙ (by-path name on ∙ (by-present (file_named s.files name) refl ∙ ap (λ (o : Option File). content_of o false false) (sym e)))
        where
          seen : is_file (content_named s.files name) ≡ true
          seen = ap is_file (sym (held-by name false g ∙ by-path name on)) ∙ k

          by-present : (o : Option File) → file_named s.files name ≡ o → content_of (file_named s.files name) false false ≡ content_of (Some f) false false
          by-present (Some x) u = let all : Some x ≡ Some f = sym (present-named tree t name x u) ∙ e in ap (λ (o : Option File). content_of o false false) (u ∙ all)
          by-present None u = let no : false ≡ true = ap (λ (o : Option File). is_file (content_of o false false)) (sym u) ∙ seen in cc
      told f e g false off =
          let no : false ≡ true = ap (λ (c : Content). is_file (of_generation name.generation c)) (sym (content-off name.path off)) ∙ (ap is_file (sym (held-by name false g)) ∙ k) in cc

      some : (f : File) → file_named (all_held tree) name ≡ Some f → (b : Bool) → is_held_name held_here name ≡ b → SameFile name
      some f e true g = held-some name f e g
      some f e false g = told f e g (knows (view s app) name.path) refl

      by-name : (o : Option File) → file_named (all_held tree) name ≡ o → SameFile name
      by-name (Some f) e = some f e (is_held_name held_here name) refl
      by-name None e = let no : false ≡ true = sym (ap is_some e) ∙ h in cc

  -- and so it is with each file that one of its connections names, and with each that stands where it tells what is there
  file-there : (name : FileName) → SameFile name → is_held tree name ≡ true → has_file (view s app) name ≡ true
  file-there name e h = ap is_file e ∙ (is_file-some (file_named (all_held tree) name) ∙ h)

  pub held-there : (name : FileName) → holds_name (view s app) name ≡ true → is_held tree name ≡ true → has_file (view s app) name ≡ true
  held-there name g h = step (file_named (all_held tree) name) refl
    where
      step : (o : Option File) → file_named (all_held tree) name ≡ o → has_file (view s app) name ≡ true
      step (Some f) e = file-there name (held-some name f e g) h
      step None e = let no : false ≡ true = sym (ap is_some e) ∙ h in cc

  pub known-there : (name : FileName) → Known name → is_held tree name ≡ true → has_file (view s app) name ≡ true
  known-there name k h = file-there name k.1 h

  pub present-there : (name : FileName) (f : File) → file_at s.files name.path ≡ Some f → (f.generation == name.generation) ≡ true → On name.path → has_file (view s app) name ≡ true
  present-there name f e g h =
      let all : file_named (all_held tree) name ≡ Some f = standing-named tree t name f e g in
      let present : file_named s.files name ≡ Some f = file_named-is name s.files t.paths ∙ (ap (of_number name.generation) e ∙ ap (λ (b : Bool). cond b (Some f) None) g) in
      file-there name (path-known name h (present ∙ sym all)) (ap is_some all)

  pub stands-there : (name : FileName) → stands tree name ≡ true → On name.path → has_file (view s app) name ≡ true
  stands-there name h on = step (file_at s.files name.path) refl h
    where
      step : (o : Option File) → file_at s.files name.path ≡ o → is_standing name.generation o ≡ true → has_file (view s app) name ≡ true
      step None e k = cc
      step (Some f) e k = present-there name f e k on

  pub bytes-on : (name : FileName) → Known name → own_bytes (view s app) name ≡ bytes_named (all_held tree) name
  bytes-on name h = ap bytes_in h.1 ∙ bytes-of_file (file_named (all_held tree) name)

  -- ---- looks, and what last calls need

  abbrev pub Agrees : Target → Type 0
  Agrees target = own_shown_at (view s app) target ≡ shown_at tree target

  abbrev pub Finds : LastCall → Type 0
  Finds call = own_found (view s app) call ≡ is_found tree call

  pub path-agrees : (path : List ℕ) → On path → Agrees (AtPath path)
  path-agrees path h = ap look_of (content-on path h)

  pub name-agrees : (name : FileName) → Known name → Agrees (Named name)
  name-agrees name h = ap look_of h.1 ∙ look-of_file (file_named (all_held tree) name)

  found-by-name : (name : FileName) → Known name → is_file (own_file (view s app) name) ≡ is_held tree name
  found-by-name name h = ap is_file h.1 ∙ is_file-some (file_named (all_held tree) name)

  pub uses-found : (name : FileName) → Known name → Finds (Uses name)
  uses-found name h = found-by-name name h

  pub changes-found : (name : FileName) → Known name → Finds (Changes name)
  changes-found name h = found-by-name name h

  pub makes-found : (path : List ℕ) → On path → look_at s.files path ≡ Look.Missing → Finds (Makes path)
  makes-found path h e = ap is_place (content-on path h) ∙ place-is (file_at s.files path) (is_folder s.files path) (has_room s.files path) e

  -- a name that no file has
  pub freshens-found : (name : FileName) → On name.path → is_held tree name ≡ false → Finds (Freshens name)
  freshens-found name h e =
      ap has_parent (content-on name.path h)
      ∙ (has_parent-is s.files name.path ∙ (sym (and-true (has_room s.files name.path)) ∙ ap (λ (b : Bool). has_room s.files name.path && not b) (sym e)))

  -- no file is a folder
  folder-there : (path : List ℕ) → is_folder_there (content_at s.files path) ≡ is_folder s.files path
  folder-there path = step (file_at s.files path) refl (is_folder s.files path) refl
    where
      not_so : (b : Bool) → not b ≡ true → b ≡ false
      not_so true k = cc
      not_so false k = refl

      step : (o : Option File) → file_at s.files path ≡ o → (b : Bool) → is_folder s.files path ≡ b → is_folder_there (content_of o b (has_room s.files path)) ≡ b
      step (Some f) e b g =
          let apart : not (is_folder s.files f.path) ≡ true = found_in_all (λ (x : File). is_same x.path path) (λ (x : File). not (is_folder s.files x.path)) s.files f e t.apart in
          let same : f.path ≡ path = is_same-eq f.path path (found_passes (λ (x : File). is_same x.path path) s.files f e) in
          sym (not_so (is_folder s.files f.path) apart) ∙ (ap (is_folder s.files) same ∙ g)
      step None e true g = refl
      step None e false g = refl

  pub turns-found : (name : FileName) → Known name → Finds (Turns name)
  turns-found name h = λ i. found-by-name name h i && not ((ap is_folder_there (content-on name.path h.0) ∙ folder-there name.path) i)

  -- ---- walks

  -- the names in a folder that the view tells of
  abbrev pub ListedSo : List ℕ → Type 0
  ListedSo path = names_below path (covering (view s app).below path) ≡ names_listed s.files path

  listing-by : (path : List ℕ) → list_all (λ (f : File). not (is_folder s.files f.path)) s.files ≡ true → (o : Option PathBelow) → IsFoundSo (IsOneOf s.files folders_here) (λ b. is_at_or_below b.path path) o → names_below path o ≡ names_listed s.files path
  listing-by path apart None h = absurd h
  listing-by path apart (Some b) h =
      let there : FolderThere s.files b.path = folders b.path h.0.1 in
      ap (λ (fs : List File). names_listed fs path) h.0.0
      ∙ ((λ i. cond (below-folder s.files b.path path h.1 i) (Some (names_in (files_below s.files b.path) path)) None)
      ∙ ap (λ (ns : List ChildName). cond (is_folder s.files path) (Some ns) None) (below-names s.files b.path path apart there.some there.no_root h.1))

  pub listed-so : (path : List ℕ) → covers (view s app) path ≡ true → ListedSo path
  listed-so path h = listing-by path t.apart (covering (view s app).below path) (covered-by-one s.files folders_here path h)

  pub listed-agree : (w : Walk NodeVerdict) → Along tree Known New Agrees Finds ListedSo w → own_listed (view s app) w ≡ listed_shown tree w
  listed-agree (Answers v) h = refl
  listed-agree (Looks target next) h = ap (λ (l : Look). own_listed (view s app) (next l)) h.0 ∙ listed-agree (next (shown_at tree target)) h.1
  listed-agree (Ends call done missing) h = refl
  listed-agree (Lists path done missing) h = h.0

  -- a call that failed lists nothing
  failed-unlisted : (w : Walk NodeVerdict) (now : ℕ) (listed other : Option (List ChildName)) (looks : List Look) → walked_with w now listed looks true ≡ walked_with w now other looks true
  failed-unlisted (Answers v) now listed other looks = refl
  failed-unlisted (Looks target next) now listed other [] = refl
  failed-unlisted (Looks target next) now listed other (look ∷ looks) = failed-unlisted (next look) now listed other looks
  failed-unlisted (Ends call done missing) now listed other [] = refl
  failed-unlisted (Ends call done missing) now listed other (look ∷ looks) = refl
  failed-unlisted (Lists path done missing) now listed other looks = refl

  pub listed-given-so : (w : Walk NodeVerdict) (now : ℕ) (listed : Option (List ChildName)) (looks : List Look) (failed : Bool) → Along tree Known New Agrees Finds ListedSo w → Gives (Some tree) w looks failed → GivesNames (Some tree) w looks listed failed →
      walked_with w now (own_listed (view s app) w) looks failed ≡ walked_with w now listed looks failed
  listed-given-so w now listed looks true h g n = failed-unlisted w now (own_listed (view s app) w) listed looks
  listed-given-so w now listed looks false h g n =
      ap (λ (l : Option (List ChildName)). walked_with w now l looks false) (listed-agree w h ∙ sym (listed_given tree w looks listed g n))

  looks-agree : (w : Walk NodeVerdict) → Along tree Known New Agrees Finds ListedSo w → own_looks (view s app) w ≡ looks_shown tree w
  looks-agree (Answers v) h = refl
  looks-agree (Looks target next) h =
      (λ i. h.0 i ∷ own_looks (view s app) (next (h.0 i))) ∙ ap (λ (ls : List Look). shown_at tree target ∷ ls) (looks-agree (next (shown_at tree target)) h.1)
  looks-agree (Ends call done missing) h = ap (λ (b : Bool). cond b [] (Look.Missing ∷ [])) h.0
  looks-agree (Lists path done missing) h = refl

  front : (w : Walk NodeVerdict) (looks : List Look) → Gives (Some tree) w looks true → take (length looks) (looks_shown tree w) ≡ looks
  front (Answers v) looks g = let no : true ≡ false = g.1 in cc
  front (Looks target next) [] g = refl
  front (Looks target next) (look ∷ looks) g =
      (λ i. sym g.0 i ∷ take (length looks) (looks_shown tree (next (sym g.0 i)))) ∙ ap (λ (ls : List Look). look ∷ ls) (front (next look) looks g.1)
  front (Ends call done missing) [] g = refl
  front (Ends call done missing) (look ∷ looks) g = let no : true ≡ false = g.2 in cc
  front (Lists path done missing) looks g = ap (λ (ls : List Look). take (length ls) []) g ∙ sym g

  -- the looks that succeed are those that were given
  pub succeeding-given : (w : Walk NodeVerdict) (fault : Fault) (looks : List Look) → Along tree Known New Agrees Finds ListedSo w → (fault ≡ Fault.Keeper → ⊥) → Gives (Some tree) w looks (is_tree fault) →
      succeeding fault (length looks) (own_looks (view s app) w) ≡ looks
  succeeding-given w Fault.None looks h k g = looks-agree w h ∙ sym (shown_given tree w looks g)
  succeeding-given w Fault.Tree looks h k g = ap (take (length looks)) (looks-agree w h) ∙ front w looks g
  succeeding-given w Fault.Keeper looks h k g = absurd (k refl)
