-- What a view tells of files is what the tree has, and a file that is told as it is leaves the view as it was.
use Rattle.std.proofs.Common.{◌≡◌, ℕ, List, [], ◌∷◌, ◌++◌, map, Bool, true, false, cond, Option, Some, None, is_some, refl, sym, ap, subst, ◌∙◌}
use Rattle.std.specs.List.{AllByRecursion, filter, flat_map, list_all}
use Rattle.portal_base.specs.Content.{content_of, file_at, file_named, has_room, is_folder, is_named}
use Rattle.portal_base.specs.FileChanges.{change_named}
use Rattle.portal_base.specs.Names.{is_same}
use Rattle.file_generations.specs.Generations.{Held, all_held, is_held, name_of_file}
use Rattle.portal_base.specs.declared.files.File.{File}
use Rattle.portal_base.specs.declared.files.FileName.{FileName}
use Rattle.portal_model.specs.Content.{Content, OfFile, OfFolder, NotThere, content_at}
use Rattle.portal_model.specs.Ordered.{bytes_less, is_rising, put, put_all}
use Rattle.portal_model.proofs.DocumentChanges.{both, first_of_both, second_of_both}
use Rattle.portal_model.proofs.ListLookups.{found_passes, is_same-eq, is_same-refl}
use Rattle.app_world.specs.Effect.{changed_content, file_of as file_made, with_bytes, with_bytes_below, with_file}
use Rattle.app_world.specs.View.{NamedFile, PathBelow, PathContent, ahead, below_ahead, below_at, file_ahead, file_if, files_at, files_below, is_at_or_below, path_below, contents_at, named_ahead, named_file, path_content}
use Rattle.app_world.proofs.BelowLaws.{below-file, below-in-order, changed-in, file_then}
use Rattle.app_world.proofs.FileChangeLaws.{named-seen, named-then}
use Rattle.app_world.proofs.HeldFiles.{SoundTree, changed-then, found-name, standing-named}
use Rattle.app_world.proofs.NamedFiles.{IsNamedThen, named_in}
use Rattle.app_world.proofs.Orders.{paths}
use Rattle.connection_laws.specs.Blinded.{file_of}
use Rattle.connection_laws.proofs.BlindedNodes.{itself}

-- each file of a folder lies at or below it
abbrev pub is_placed : PathBelow → Bool
is_placed b = list_all (λ (f : File). is_at_or_below b.path f.path) b.files

-- ---- what is told of a view that is that of a state

abbrev pub AreAt : List File → List PathContent → Type 0
AreAt files [] = Unit {0}
AreAt files (c ∷ cs) = (c.content ≡ content_at files c.path) × AreAt files cs

put-at : (files : List File) (x : PathContent) (cs : List PathContent) → x.content ≡ content_at files x.path → AreAt files cs → AreAt files (put ahead x cs)
put-at files x [] e h = (e, tt)
put-at files x (c ∷ cs) e h = by_order (ahead x c) (ahead c x) (put-at files x cs e h.1)
  where
    by_order : (a b : Bool) → AreAt files (put ahead x cs) → AreAt files (cond a (x ∷ c ∷ cs) (cond b (c ∷ put ahead x cs) (x ∷ cs)))
    by_order true b k = (e, h)
    by_order false true k = (h.0, k)
    by_order false false k = (e, h.1)

pub contents-at : (files : List File) (ps : List (List ℕ)) → AreAt files (contents_at files ps)
contents-at files [] = tt
contents-at files (p ∷ ps) = put-at files (path_content files p) (contents_at files ps) refl (contents-at files ps)

-- ---- and below its folders

-- what is there of a file
abbrev pub known_file : File → PathContent
known_file f = record { path = f.path; content = OfFile f.generation f.bytes f.moment }

abbrev pub known_named : NamedFile → PathContent
known_named f = record { path = f.name.path; content = OfFile f.name.generation f.bytes f.moment }

abbrev pub known_in : List PathBelow → List PathContent
known_in bs = flat_map (λ (b : PathBelow). map known_file b.files) bs

at-append : (files : List File) (cs ds : List PathContent) → AreAt files cs → AreAt files ds → AreAt files (cs ++ ds)
at-append files [] ds h k = k
at-append files (c ∷ cs) ds h k = (h.0, at-append files cs ds h.1 k)

module _ {X : Type 0} (before : X → X → Bool) (p : X → Bool) where
  all-put : (x : X) (xs : List X) → p x ≡ true → list_all p xs ≡ true → list_all p (put before x xs) ≡ true
  all-put x [] h k = both (p x) true h refl
  all-put x (y ∷ ys) h k = by_order (before x y) (before y x) (all-put x ys h (second_of_both (p y) (list_all p ys) k))
    where
      by_order : (a b : Bool) → list_all p (put before x ys) ≡ true → list_all p (cond a (x ∷ y ∷ ys) (cond b (y ∷ put before x ys) (x ∷ ys))) ≡ true
      by_order true b e = both (p x) (list_all p (y ∷ ys)) h k
      by_order false true e = both (p y) (list_all p (put before x ys)) (first_of_both (p y) (list_all p ys) k) e
      by_order false false e = both (p x) (list_all p ys) h (second_of_both (p y) (list_all p ys) k)

  all-put_all : (xs : List X) → list_all p xs ≡ true → list_all p (put_all before xs) ≡ true
  all-put_all [] h = refl
  all-put_all (x ∷ xs) h = all-put x (put_all before xs) (first_of_both (p x) (list_all p xs) h) (all-put_all xs (second_of_both (p x) (list_all p xs) h))

all-filtered : (p : File → Bool) (fs : List File) → list_all p (filter p fs) ≡ true
all-filtered p [] = refl
all-filtered p (x ∷ xs) = by_test (p x) refl (all-filtered p xs)
  where
    by_test : (b : Bool) → p x ≡ b → list_all p (filter p xs) ≡ true → list_all p (cond b (x ∷ filter p xs) (filter p xs)) ≡ true
    by_test true e h = both (p x) (list_all p (filter p xs)) e h
    by_test false e h = h

folder-placed : (files : List File) (folder : List ℕ) → is_placed (path_below files folder) ≡ true
folder-placed files folder = all-put_all file_ahead (λ (f : File). is_at_or_below folder f.path) (filter (λ (f : File). is_at_or_below folder f.path) files) (all-filtered (λ (f : File). is_at_or_below folder f.path) files)

pub below-placed : (files : List File) (ps : List (List ℕ)) → list_all is_placed (below_at files ps) ≡ true
below-placed files ps = all-put_all below_ahead is_placed (map (path_below files) ps) (each ps)
  where
    each : (qs : List (List ℕ)) → list_all is_placed (map (path_below files) qs) ≡ true
    each [] = refl
    each (q ∷ qs) = both (is_placed (path_below files q)) (list_all is_placed (map (path_below files) qs)) (folder-placed files q) (each qs)

-- each is the file of its path
abbrev pub IsThere : List File → PathBelow → Type 0
IsThere files b = b.files ≡ files_below files b.path

module _ {X : Type 0} (before : X → X → Bool) (P : X → Type 0) where
  each-put : (x : X) (xs : List X) → P x → AllByRecursion P xs → AllByRecursion P (put before x xs)
  each-put x [] h k = (h, tt)
  each-put x (y ∷ ys) h k = by_order (before x y) (before y x) (each-put x ys h k.1)
    where
      by_order : (a b : Bool) → AllByRecursion P (put before x ys) → AllByRecursion P (cond a (x ∷ y ∷ ys) (cond b (y ∷ put before x ys) (x ∷ ys)))
      by_order true b e = (h, k)
      by_order false true e = (k.0, e)
      by_order false false e = (h, k.1)

  each-put_all : (xs : List X) → AllByRecursion P xs → AllByRecursion P (put_all before xs)
  each-put_all [] h = tt
  each-put_all (x ∷ xs) h = each-put x (put_all before xs) h.0 (each-put_all xs h.1)

pub all-there : (files : List File) (ps : List (List ℕ)) → AllByRecursion (IsThere files) (below_at files ps)
all-there files ps = each-put_all below_ahead (IsThere files) (map (path_below files) ps) (each ps)
  where
    each : (qs : List (List ℕ)) → AllByRecursion (IsThere files) (map (path_below files) qs)
    each [] = tt
    each (q ∷ qs) = (refl, each qs)

-- in a list in order each file is found by its path
none-before : (f g : File) → file_ahead f g ≡ true → is_same f.path g.path ≡ false
none-before f g k = by_path (is_same f.path g.path) refl
  where
    by_path : (b : Bool) → is_same f.path g.path ≡ b → b ≡ false
    by_path true e =
        let no : true ≡ false = sym k ∙ (ap (bytes_less f.path) (sym (is_same-eq f.path g.path e)) ∙ paths.irreflexive f.path) in
        no
    by_path false e = refl

found-each : (fs : List File) → is_rising file_ahead fs ≡ true → AllByRecursion (λ (f : File). file_at fs f.path ≡ Some f) fs
found-each [] h = tt
found-each (f ∷ fs) h = (
  ap (λ (b : Bool). cond b (Some f) (file_at fs f.path)) (is_same-refl f.path),
  behind fs (first_of_both (list_all (file_ahead f) fs) (is_rising file_ahead fs) h) (found-each fs (second_of_both (list_all (file_ahead f) fs) (is_rising file_ahead fs) h)),
)
  where
    behind : (gs : List File) → list_all (file_ahead f) gs ≡ true → AllByRecursion (λ (g : File). file_at fs g.path ≡ Some g) gs → AllByRecursion (λ (g : File). file_at (f ∷ fs) g.path ≡ Some g) gs
    behind [] a h = tt
    behind (g ∷ gs) a h = (
      ap (λ (b : Bool). cond b (Some f) (file_at fs g.path)) (none-before f g (first_of_both (file_ahead f g) (list_all (file_ahead f) gs) a)) ∙ h.0,
      behind gs (second_of_both (file_ahead f g) (list_all (file_ahead f) gs) a) h.1,
    )

module _ (files : List File) (folder : List ℕ) where
  -- so it is what the tree has there
  one-there : (f : File) → file_at (files_below files folder) f.path ≡ Some f → (known_file f).content ≡ content_at files f.path
  one-there f e = by_place (is_at_or_below folder f.path) (sym (below-file files folder f.path) ∙ e)
    where
      by_place : (b : Bool) → cond b (file_at files f.path) None ≡ Some f → (known_file f).content ≡ content_at files f.path
      by_place true k = λ i. content_of (sym k i) (is_folder files f.path) (has_room files f.path)
      by_place false k = cc

  files-there : (fs : List File) → AllByRecursion (λ (f : File). file_at (files_below files folder) f.path ≡ Some f) fs → AreAt files (map known_file fs)
  files-there [] h = tt
  files-there (f ∷ fs) h = (one-there f h.0, files-there fs h.1)

pub known-at : (files : List File) (bs : List PathBelow) → AllByRecursion (IsThere files) bs → AreAt files (known_in bs)
known-at files [] h = tt
known-at files (b ∷ bs) h =
    at-append files (map known_file b.files) (known_in bs)
    (subst (λ (fs : List File). AreAt files (map known_file fs)) (sym h.0) (files-there files b.path (files_below files b.path) (found-each (files_below files b.path) (below-in-order files b.path))))
    (known-at files bs h.1)

-- ---- and by their names

-- the tree has the file of this path that the content is of, present or not
abbrev pub HasIt : Held → List ℕ → Content → Type 0
HasIt tree path (OfFile generation bytes moment) = file_named (all_held tree) (file_of path generation) ≡ Some (file_made path generation bytes moment)
HasIt tree path OfFolder = Unit {0}
HasIt tree path (NotThere room) = Unit {0}

abbrev pub HasAll : Held → List PathContent → Type 0
HasAll tree [] = Unit {0}
HasAll tree (c ∷ cs) = HasIt tree c.path c.content × HasAll tree cs

pub has-append : (tree : Held) (cs ds : List PathContent) → HasAll tree cs → HasAll tree ds → HasAll tree (cs ++ ds)
has-append tree [] ds h k = k
has-append tree (c ∷ cs) ds h k = (h.0, has-append tree cs ds h.1 k)

file-itself : (path : List ℕ) (f : File) → f.path ≡ path → f ≡ file_made path f.generation f.bytes f.moment
file-itself path f e = λ i. record f { path = e i }

module _ (tree : Held) (sound : SoundTree tree) where
  has-at : (path : List ℕ) (o : Option File) (folder room : Bool) → file_at tree.present path ≡ o → HasIt tree path (content_of o folder room)
  has-at path None true room e = tt
  has-at path None false room e = tt
  has-at path (Some f) folder room e =
      standing-named tree sound (file_of path f.generation) f e (itself f.generation)
      ∙ ap Some (file-itself path f (is_same-eq f.path path (found_passes (λ (x : File). is_same x.path path) tree.present f e)))

  pub has-each : (cs : List PathContent) → AreAt tree.present cs → HasAll tree cs
  has-each [] h = tt
  has-each (c ∷ cs) h = (
    subst (HasIt tree c.path) (sym h.0) (has-at c.path (file_at tree.present c.path) (is_folder tree.present c.path) (has_room tree.present c.path) refl),
    has-each cs h.1,
  )

-- what is known by names
abbrev pub HasNamed : Held → NamedFile → Type 0
HasNamed tree f = HasIt tree f.name.path (OfFile f.name.generation f.bytes f.moment)

module _ (tree : Held) where
  named-append : (xs ys : List NamedFile) → AllByRecursion (HasNamed tree) xs → AllByRecursion (HasNamed tree) ys → AllByRecursion (HasNamed tree) (xs ++ ys)
  named-append [] ys h k = k
  named-append (x ∷ xs) ys h k = (h.0, named-append xs ys h.1 k)

  one-named : (n : FileName) (o : Option File) → file_named (all_held tree) n ≡ o → AllByRecursion (HasNamed tree) (file_if n o)
  one-named n None e = tt
  one-named n (Some f) e =
      let named : name_of_file f ≡ n = found-name (all_held tree) n f e in
      (e ∙ ap Some (λ i. record f { path = (named i).path; generation = (named i).generation }), tt)

  each-named : (ns : List FileName) → AllByRecursion (HasNamed tree) (flat_map (named_file (all_held tree)) ns)
  each-named [] = tt
  each-named (n ∷ ns) = named-append (named_file (all_held tree) n) (flat_map (named_file (all_held tree)) ns) (one-named n (file_named (all_held tree) n) refl) (each-named ns)

  pub all-named : (ns : List FileName) → AllByRecursion (HasNamed tree) (files_at (all_held tree) ns)
  all-named ns = each-put_all named_ahead (HasNamed tree) (flat_map (named_file (all_held tree)) ns) (each-named ns)

  pub known-named : (fs : List NamedFile) → AllByRecursion (HasNamed tree) fs → HasAll tree (map known_named fs)
  known-named [] h = tt
  known-named (f ∷ fs) h = (h.0, known-named fs h.1)

-- ---- a file that is told as it is stays

unchanged : (name : FileName) (fs : List File) → change_named name (λ f. f) fs ≡ fs
unchanged name [] = refl
unchanged name (f ∷ fs) = λ i. either (is_named name f) i ∷ unchanged name fs i
  where
    either : (b : Bool) → cond b f f ≡ f
    either true = refl
    either false = refl

module _ (tree : Held) (sound : SoundTree tree) (path : List ℕ) (generation : ℕ) (bytes : List ℕ) (moment : ℕ) (here : HasIt tree path (OfFile generation bytes moment)) where
  abbrev it : FileName
  it = file_of path generation

  abbrev as_it_is : Content
  as_it_is = OfFile generation bytes moment

  there : is_held tree it ≡ true
  there = ap is_some here

  just-it : (f : File) → file_named (all_held tree) it ≡ Some f → as_it_is ≡ OfFile f.generation f.bytes f.moment
  just-it f e =
      let same : Some (file_made path generation bytes moment) ≡ Some f = sym here ∙ e in
      let is : file_made path generation bytes moment ≡ f = cc in
      λ i. OfFile (is i).generation (is i).bytes (is i).moment

  seen-so : (p : List ℕ) → cond (is_same p path) (changed_content generation as_it_is (content_at tree.present p)) (content_at tree.present p) ≡ content_at tree.present p
  seen-so p =
      named-seen tree sound it there (λ f. f) (λ f. refl) (λ f. refl) as_it_is just-it (λ q. Unit {0}) p tt
      ∙ ap (λ (fs : List File). content_at fs p) (unchanged it tree.present)

  then-so : (p : List ℕ) → file_at tree.present p ≡ cond (is_same p path) (file_then path generation as_it_is (file_at tree.present path)) (file_at tree.present p)
  then-so p =
      ap (λ (fs : List File). file_at fs p) (sym (unchanged it tree.present))
      ∙ named-then tree sound it there (λ f. f) (λ f. refl) (λ f. refl) as_it_is just-it (λ f. refl) p

  pub named-so : IsNamedThen (all_held tree) (all_held tree) it generation bytes moment
  named-so n =
      ap (λ (h : Held). named_in (all_held h) n) (λ i. record { present = sym (unchanged it tree.present) i; hidden = sym (unchanged it tree.hidden) i })
      ∙ changed-then it (λ f. f) (λ f. refl) (λ f. refl) tree (file_made path generation bytes moment) here n

  one-stays : (c : PathContent) → c.content ≡ content_at tree.present c.path → with_bytes path generation as_it_is c ≡ c
  one-stays c h = apart (is_same c.path path) ∙ (λ i. record c { content = same i })
    where
      apart : (x : Bool) → cond x (record c { content = changed_content generation as_it_is c.content }) c ≡ record c { content = cond x (changed_content generation as_it_is c.content) c.content }
      apart true = refl
      apart false = refl

      same : cond (is_same c.path path) (changed_content generation as_it_is c.content) c.content ≡ c.content
      same = ap (λ (d : Content). cond (is_same c.path path) (changed_content generation as_it_is d) d) h ∙ (seen-so c.path ∙ sym h)

  pub all-stay : (cs : List PathContent) → AreAt tree.present cs → map (with_bytes path generation as_it_is) cs ≡ cs
  all-stay [] h = refl
  all-stay (c ∷ cs) h = λ i. one-stays c h.0 i ∷ all-stay cs h.1 i

  pub blocks-stay : (bs : List PathBelow) → AllByRecursion (IsThere tree.present) bs → map (with_bytes_below path generation as_it_is) bs ≡ bs
  blocks-stay [] h = refl
  blocks-stay (b ∷ bs) h = λ i. by_place (is_at_or_below b.path path) refl i ∷ blocks-stay bs h.1 i
    where
      by_place : (x : Bool) → is_at_or_below b.path path ≡ x → cond x (record b { files = with_file path generation as_it_is b.files }) b ≡ b
      by_place true k = λ i. record b { files = (ap (with_file path generation as_it_is) h.0 ∙ (sym (changed-in path generation as_it_is tree.present tree.present then-so b.path k) ∙ sym h.0)) i }
      by_place false k = refl
