-- The files beside the present ones stay sound, whatever becomes of the files.
use Rattle.std.proofs.Common.{◌≡◌, ℕ, ◌+◌, ◌==◌, nat_le, List, [], ◌∷◌, ◌++◌, map, Bool, true, false, not, ◌&&◌, ◌||◌, cond, Option, Some, None, is_some, refl, sym, ap, subst, ◌∙◌, arith}
use Rattle.std.specs.List.{find, list_all, list_any, IsDistinct, AllByRecursion}
use Rattle.std.specs.Ordering.{is_lt}
use Rattle.std.proofs.lemmas.Bool.Decides.{nat_tests}
use Rattle.std.proofs.lemmas.List.Folds.{list_all-append}
use Rattle.portal_base.specs.Content.{file_at, file_named, has_room, is_above, is_folder, is_named, paths_of}
use Rattle.portal_base.specs.FileChanges.{change_named, put_file}
use Rattle.file_generations.specs.Generations.{Held, change_held, fresh_file, held_with, in_place, is_held, may_freshen, may_turn, name_of_file, same_file, turned, turned_to, without_named}
use Rattle.portal_base.specs.Names.{is_host_path, is_same, parent_of, root}
use Rattle.portal_base.specs.declared.files.File.{File}
use Rattle.portal_base.specs.declared.files.FileName.{FileName}
use Rattle.portal_base.specs.PathOrder.{path_order}
use Rattle.portal_base.proofs.PathsAbove.{any-paths, any-put}
use Rattle.portal_model.specs.declared.opening.TakenGeneration.{TakenGeneration}
use Rattle.portal_model.specs.SeatNames.{last_taken, next_generation}
use Rattle.portal_model.specs.SoundGenerations.{SoundGenerations, is_followed, is_taken, is_taken_file}
use Rattle.portal_model.proofs.DistinctItems.{IsDistinct-filter, IsDistinct-more, list_all-filter, list_all-weaken}
use Rattle.portal_model.proofs.DocumentChanges.{both, first_of_both, second_of_both}
use Rattle.portal_model.proofs.FilesValid.{SoundPaths, put-paths}
use Rattle.portal_model.proofs.ListLookups.{found_in_all, found_passes, is_same-eq, is_same-refl, nat_is}
use Rattle.portal_model.proofs.SeatsValid.{all-mapped, distinct-mapped}

-- ---- a file that is put among others

all_step : (r : File → Bool) (f g : File) (gs hs : List File) (b : Bool) → list_all r hs ≡ (r f && list_all r gs) → list_all r (cond b (f ∷ g ∷ gs) (g ∷ hs)) ≡ (r f && (r g && list_all r gs))
all_step r f g gs hs true e = refl
all_step r f g gs hs false e = grind arith

all-put-file : (r : File → Bool) (f : File) (fs : List File) → list_all r (put_file f fs) ≡ (r f && list_all r fs)
all-put-file r f [] = refl
all-put-file r f (g ∷ gs) = all_step r f g gs (put_file f gs) (is_lt (path_order f.path g.path)) (all-put-file r f gs)

any_step : (r : File → Bool) (f g : File) (gs hs : List File) (b : Bool) → list_any r hs ≡ (r f || list_any r gs) → list_any r (cond b (f ∷ g ∷ gs) (g ∷ hs)) ≡ (r f || (r g || list_any r gs))
any_step r f g gs hs true e = refl
any_step r f g gs hs false e = grind arith

any-put-file : (r : File → Bool) (f : File) (fs : List File) → list_any r (put_file f fs) ≡ (r f || list_any r fs)
any-put-file r f [] = refl
any-put-file r f (g ∷ gs) = any_step r f g gs (put_file f gs) (is_lt (path_order f.path g.path)) (any-put-file r f gs)

-- ---- tests of files

-- no present file has its name
abbrev pub is_alone : List File → File → Bool
is_alone files f = not (list_any (same_file f) files)

not_true : (b : Bool) → not b ≡ true → b ≡ false
not_true true h = cc
not_true false h = refl

pub same-turned : (a b : File) (c : Bool) → same_file a b ≡ c → same_file b a ≡ false → c ≡ false
same-turned a b true e h =
    let path : a.path ≡ b.path = is_same-eq a.path b.path (first_of_both (is_same a.path b.path) (a.generation == b.generation) e) in
    let generation : a.generation ≡ b.generation = nat_is a.generation b.generation (second_of_both (is_same a.path b.path) (a.generation == b.generation) e) in
    let turned : same_file a b ≡ same_file b a = λ i. is_same (path i) (sym path i) && (generation i == sym generation i) in
    let no : true ≡ false = sym e ∙ (turned ∙ h) in
    no
same-turned a b false e h = refl

first_none : (a b : Bool) → (a || b) ≡ false → a ≡ false
first_none true b e = e
first_none false b e = refl

rest_none : (a b : Bool) → (a || b) ≡ false → b ≡ false
rest_none true b e = cc
rest_none false b e = e

none_of : {X : Type 0} (p : X → Bool) (xs : List X) → list_any p xs ≡ false → AllByRecursion (λ x. p x ≡ false) xs
none_of p [] h = tt
none_of p (x ∷ xs) h = (first_none (p x) (list_any p xs) h, none_of p xs (rest_none (p x) (list_any p xs) h))

of_none : {X : Type 0} (p : X → Bool) (xs : List X) → AllByRecursion (λ x. p x ≡ false) xs → list_any p xs ≡ false
of_none p [] h = refl
of_none p (x ∷ xs) h = λ i. h.0 i || of_none p xs h.1 i

pub found-any : {X : Type 0} (p : X → Bool) (xs : List X) → is_some (find p xs) ≡ list_any p xs
found-any p [] = refl
found-any p (x ∷ xs) = elim (p x) as (λ b. is_some (cond b (Some x) (find p xs)) ≡ (b || list_any p xs)) [
  | true ↦ refl
  | false ↦ found-any p xs
]

or_more : (a b c : Bool) → (a || (b || c)) ≡ ((a || b) || c)
or_more true b c = refl
or_more false b c = refl

pub any-joined : {X : Type 0} (p : X → Bool) (xs ys : List X) → list_any p (xs ++ ys) ≡ (list_any p xs || list_any p ys)
any-joined p [] ys = refl
any-joined p (x ∷ xs) ys = ap (λ (b : Bool). p x || b) (any-joined p xs ys) ∙ or_more (p x) (list_any p xs) (list_any p ys)

-- ---- by the paths of the present files

pub folder-by-paths : (files : List File) (path : List ℕ) → is_folder files path ≡ (is_same path root || list_any (is_above path) (paths_of files))
folder-by-paths files path = ap (λ (b : Bool). is_same path root || b) (any-paths (is_above path) files)

pub at-by-paths : (path : List ℕ) (files : List File) → is_some (file_at files path) ≡ list_any (λ q. is_same q path) (paths_of files)
at-by-paths path [] = refl
at-by-paths path (f ∷ fs) = elim (is_same f.path path) as (λ b. is_some (cond b (Some f) (file_at fs path)) ≡ (b || list_any (λ q. is_same q path) (paths_of fs))) [
  | true ↦ refl
  | false ↦ at-by-paths path fs
]

-- files at all the paths at which there were some
abbrev pub Covers : List File → List File → Type 0
Covers files more = (q : List ℕ → Bool) → list_any q (paths_of files) ≡ true → list_any q (paths_of more) ≡ true

pub covers-same : (files more : List File) → paths_of more ≡ paths_of files → Covers files more
covers-same files more e q h = ap (list_any q) e ∙ h

or_second : (a b : Bool) → b ≡ true → (a || b) ≡ true
or_second true b h = refl
or_second false b h = h

pub covers-put : (new : File) (files : List File) → Covers files (put_file new files)
covers-put new files q h = any-put q new files ∙ or_second (q new.path) (list_any q (paths_of files)) h

or_grown : (a b c : Bool) → (b ≡ true → c ≡ true) → (a || b) ≡ true → (a || c) ≡ true
or_grown true b c f h = refl
or_grown false b c f h = f h

module _ (files more : List File) (covers : Covers files more) where
  pub folder-grown : (path : List ℕ) → is_folder files path ≡ true → is_folder more path ≡ true
  folder-grown path h =
      folder-by-paths more path
      ∙ or_grown (is_same path root) (list_any (is_above path) (paths_of files)) (list_any (is_above path) (paths_of more)) (covers (is_above path)) (sym (folder-by-paths files path) ∙ h)

  at_grown : (path : List ℕ) → is_some (file_at files path) ≡ true → is_some (file_at more path) ≡ true
  at_grown path h = at-by-paths path more ∙ covers (λ q. is_same q path) (sym (at-by-paths path files) ∙ h)

  placed_grown : (hidden : List File) → list_all (λ (f : File). has_room files f.path) hidden ≡ true → list_all (λ (f : File). has_room more f.path) hidden ≡ true
  placed_grown = list_all-weaken (λ (f : File). has_room files f.path) (λ (f : File). has_room more f.path) (λ (f : File). folder-grown (parent_of f.path))

  followed_grown : (hidden : List File) → list_all (is_followed files) hidden ≡ true → list_all (is_followed more) hidden ≡ true
  followed_grown = list_all-weaken (is_followed files) (is_followed more)
      (λ (f : File). or_grown (not (f.generation == 0)) (is_some (file_at files f.path)) (is_some (file_at more f.path)) (at_grown f.path))

-- ---- files that change and keep their names

module _ (g : File → File) (path : (f : File) → (g f).path ≡ f.path) (generation : (f : File) → (g f).generation ≡ f.generation) where
  same_kept : (a b : File) → same_file (g a) (g b) ≡ same_file a b
  same_kept a b = λ i. is_same (path a i) (path b i) && (generation a i == generation b i)

  any_kept : (a : File) (files : List File) → list_any (same_file (g a)) (map g files) ≡ list_any (same_file a) files
  any_kept a [] = refl
  any_kept a (f ∷ fs) = λ i. same_kept a f i || any_kept a fs i

  alone_kept : (files hidden : List File) → list_all (is_alone (map g files)) (map g hidden) ≡ list_all (is_alone files) hidden
  alone_kept files [] = refl
  alone_kept files (f ∷ fs) = λ i. not (any_kept f files i) && alone_kept files fs i

  paths_kept : (files : List File) → paths_of (map g files) ≡ paths_of files
  paths_kept [] = refl
  paths_kept (f ∷ fs) = λ i. path f i ∷ paths_kept fs i

  pub kept-generations : (told : Bool) (files hidden : List File) (taken : List TakenGeneration) → SoundGenerations told files hidden taken → SoundGenerations told (map g files) (map g hidden) taken
  kept-generations told files hidden taken h =
      let more : List File = map g files in
      let covers : Covers files more = covers-same files more (paths_kept files) in
      let known : (f : File) → is_taken_file told taken (g f) ≡ is_taken_file told taken f = λ (f : File) i. not told || nat_le (generation f i) (last_taken taken (path f i)) in
      record {
        differ = distinct-mapped same_file g same_kept hidden h.differ;
        apart = alone_kept files hidden ∙ h.apart;
        named = all-mapped (λ (f : File). is_host_path f.path) g (λ (f : File) i. is_host_path (path f i)) hidden ∙ h.named;
        placed = all-mapped (λ (f : File). has_room more f.path) g (λ (f : File) i. has_room more (path f i)) hidden ∙ placed_grown files more covers hidden h.placed;
        followed = all-mapped (is_followed more) g (λ (f : File) i. not (generation f i == 0) || is_some (file_at more (path f i))) hidden ∙ followed_grown files more covers hidden h.followed;
        none_untold = λ n. ap (map g) (h.none_untold n);
        taken_differ = h.taken_differ;
        files_taken = all-mapped (is_taken_file told taken) g known files ∙ h.files_taken;
        hidden_taken = all-mapped (is_taken_file told taken) g known hidden ∙ h.hidden_taken;
      }

changed_path : (name : FileName) (change : File → File) → ((f : File) → (change f).path ≡ f.path) → (f : File) → (cond (is_named name f) (change f) f).path ≡ f.path
changed_path name change h f = elim (is_named name f) as (λ b. (cond b (change f) f).path ≡ f.path) [ true ↦ h f | false ↦ refl ]

changed_generation : (name : FileName) (change : File → File) → ((f : File) → (change f).generation ≡ f.generation) → (f : File) → (cond (is_named name f) (change f) f).generation ≡ f.generation
changed_generation name change h f = elim (is_named name f) as (λ b. (cond b (change f) f).generation ≡ f.generation) [ true ↦ h f | false ↦ refl ]

pub changed-generations : (name : FileName) (change : File → File) → ((f : File) → (change f).path ≡ f.path) → ((f : File) → (change f).generation ≡ f.generation) → (told : Bool) (files hidden : List File) (taken : List TakenGeneration) → SoundGenerations told files hidden taken →
    SoundGenerations told (change_held name change (held_with files hidden)).present (change_held name change (held_with files hidden)).hidden taken
changed-generations name change p g told files hidden taken h =
    kept-generations (λ (f : File). cond (is_named name f) (change f) f) (changed_path name change p) (changed_generation name change g) told files hidden taken h

-- ---- a file that is made at a path where nothing is

none_below : (n : ℕ) → nat_le 0 n ≡ true
none_below n = grind (arith, nat_tests)

first_taken : (told : Bool) (taken : List TakenGeneration) (f : File) → f.generation ≡ 0 → is_taken_file told taken f ≡ true
first_taken false taken f e = refl
first_taken true taken f e = ap (λ (n : ℕ). nat_le n (last_taken taken f.path)) e ∙ none_below (last_taken taken f.path)

module _ (new : File) (files : List File) (first : new.generation ≡ 0) (none : file_at files new.path ≡ None) where
  another : (f : File) → is_followed files f ≡ true → same_file f new ≡ false
  another f h = step (same_file f new) refl
    where
      step : (b : Bool) → same_file f new ≡ b → b ≡ false
      step true e =
          let path : f.path ≡ new.path = is_same-eq f.path new.path (first_of_both (is_same f.path new.path) (f.generation == new.generation) e) in
          let generation : f.generation ≡ 0 = nat_is f.generation new.generation (second_of_both (is_same f.path new.path) (f.generation == new.generation) e) ∙ first in
          let gone : file_at files f.path ≡ None = ap (file_at files) path ∙ none in
          let no : true ≡ false = sym h ∙ (λ i. not (generation i == 0) || is_some (gone i)) in
          no
      step false e = refl

  alone_made : (hidden : List File) → list_all (is_followed files) hidden ≡ true → list_all (is_alone files) hidden ≡ true → list_all (is_alone (put_file new files)) hidden ≡ true
  alone_made [] h k = refl
  alone_made (f ∷ fs) h k =
      let there : list_any (same_file f) files ≡ false = not_true (list_any (same_file f) files) (first_of_both (is_alone files f) (list_all (is_alone files) fs) k) in
      let other : same_file f new ≡ false = another f (first_of_both (is_followed files f) (list_all (is_followed files) fs) h) in
      both (is_alone (put_file new files) f) (list_all (is_alone (put_file new files)) fs)
      (ap not (any-put-file (same_file f) new files ∙ (λ i. other i || there i)))
      (alone_made fs (second_of_both (is_followed files f) (list_all (is_followed files) fs) h) (second_of_both (is_alone files f) (list_all (is_alone files) fs) k))

  pub made-generations : (told : Bool) (hidden : List File) (taken : List TakenGeneration) → SoundGenerations told files hidden taken → SoundGenerations told (put_file new files) hidden taken
  made-generations told hidden taken h = record {
    differ = h.differ;
    apart = alone_made hidden h.followed h.apart;
    named = h.named;
    placed = placed_grown files (put_file new files) (covers-put new files) hidden h.placed;
    followed = followed_grown files (put_file new files) (covers-put new files) hidden h.followed;
    none_untold = h.none_untold;
    taken_differ = h.taken_differ;
    files_taken = all-put-file (is_taken_file told taken) new files ∙ both (is_taken_file told taken new) (list_all (is_taken_file told taken) files) (first_taken told taken new first) h.files_taken;
    hidden_taken = h.hidden_taken;
  }

-- where each present file is the first of its path, and there is no other
pub opening-generations : (told : Bool) (files : List File) (taken : List TakenGeneration) → list_all (λ (f : File). f.generation == 0) files ≡ true → IsDistinct is_same (map (λ (t : TakenGeneration). t.path) taken) → SoundGenerations told files [] taken
unfolding IsDistinct
opening-generations told files taken h d = record {
  differ = tt;
  apart = refl;
  named = refl;
  placed = refl;
  followed = refl;
  none_untold = λ n. refl;
  taken_differ = d;
  files_taken = list_all-weaken (λ (f : File). f.generation == 0) (is_taken_file told taken) (λ (f : File) k. first_taken told taken f (nat_is f.generation 0 k)) files h;
  hidden_taken = refl;
}

-- and no generation was taken
pub first-generations : (told : Bool) (files : List File) → list_all (λ (f : File). f.generation == 0) files ≡ true → SoundGenerations told files [] []
unfolding IsDistinct
first-generations told files h = opening-generations told files [] h tt

-- ---- a file that is made beside the present ones

not_first : (n g : ℕ) → g ≡ n + 1 → (g == 0) ≡ false
not_first n g e = grind (arith, nat_tests)

module _ (files hidden : List File) (name : FileName) (now : ℕ) (free : is_held (held_with files hidden) name ≡ false) where
  new : File
  new = fresh_file name now

  neither : list_any (is_named name) (hidden ++ files) ≡ false
  neither = sym (found-any (is_named name) (hidden ++ files)) ∙ free

  parted : (list_any (is_named name) hidden || list_any (is_named name) files) ≡ false
  parted = sym (any-joined (is_named name) hidden files) ∙ neither

  pub none-hidden : AllByRecursion (λ (f : File). same_file f (fresh_file name now) ≡ false) hidden
  none-hidden = none_of (is_named name) hidden (first_none (list_any (is_named name) hidden) (list_any (is_named name) files) parted)

  turned_all : (fs : List File) → AllByRecursion (λ (f : File). is_named name f ≡ false) fs → AllByRecursion (λ (f : File). same_file (fresh_file name now) f ≡ false) fs
  turned_all [] h = tt
  turned_all (f ∷ fs) h = (same-turned (fresh_file name now) f (same_file (fresh_file name now) f) refl h.0, turned_all fs h.1)

  pub new-alone : is_alone files (fresh_file name now) ≡ true
  new-alone = ap not (of_none (same_file (fresh_file name now)) files (turned_all files (none_of (is_named name) files (rest_none (list_any (is_named name) hidden) (list_any (is_named name) files) parted))))

-- what is true of all is true of all and one more
all_more : {X : Type 0} (p : X → Bool) (xs : List X) (x : X) → list_all p xs ≡ true → p x ≡ true → list_all p (xs ++ x ∷ []) ≡ true
all_more p xs x h k = list_all-append p xs (x ∷ []) ∙ both (list_all p xs) (p x && true) h (both (p x) true k refl)

-- by what is known then of the generations that were taken
pub added-generations : (told : Bool) (files hidden : List File) (taken after : List TakenGeneration) (name : FileName) (now : ℕ) → told ≡ true → may_freshen (held_with files hidden) name ≡ true → is_host_path name.path ≡ true → name.generation ≡ next_generation taken name.path →
    IsDistinct is_same (map (λ (t : TakenGeneration). t.path) after) → ((n : FileName) → is_taken told taken n ≡ true → is_taken told after n ≡ true) → is_taken told after name ≡ true → SoundGenerations told files hidden taken → SoundGenerations told files (hidden ++ fresh_file name now ∷ []) after
added-generations told files hidden taken after name now t may host next differ still own h =
    let room : has_room files name.path ≡ true = first_of_both (has_room files name.path) (not (is_held (held_with files hidden) name)) may in
    let free : is_held (held_with files hidden) name ≡ false = not_true (is_held (held_with files hidden) name) (second_of_both (has_room files name.path) (not (is_held (held_with files hidden) name)) may) in
    let new : File = fresh_file name now in
    let later : (name.generation == 0) ≡ false = not_first (last_taken taken name.path) name.generation next in
    let raised : (fs : List File) → list_all (is_taken_file told taken) fs ≡ true → list_all (is_taken_file told after) fs ≡ true = list_all-weaken (is_taken_file told taken) (is_taken_file told after) (λ (f : File). still (name_of_file f)) in
    record {
      differ = IsDistinct-more same_file new hidden (none-hidden files hidden name now free) h.differ;
      apart = all_more (is_alone files) hidden new h.apart (new-alone files hidden name now free);
      named = all_more (λ (f : File). is_host_path f.path) hidden new h.named host;
      placed = all_more (λ (f : File). has_room files f.path) hidden new h.placed room;
      followed = all_more (is_followed files) hidden new h.followed (ap (λ (b : Bool). not b || is_some (file_at files name.path)) later);
      none_untold = λ n. let no : true ≡ false = sym t ∙ n in cc;
      taken_differ = differ;
      files_taken = raised files h.files_taken;
      hidden_taken = all_more (is_taken_file told after) hidden new (raised hidden h.hidden_taken) own;
    }

-- where the files aren't told
pub untold-generations : (files hidden : List File) (taken after : List TakenGeneration) → IsDistinct is_same (map (λ (t : TakenGeneration). t.path) after) → SoundGenerations false files hidden taken → SoundGenerations false files hidden after
untold-generations files hidden taken after differ h = record {
  differ = h.differ;
  apart = h.apart;
  named = h.named;
  placed = h.placed;
  followed = h.followed;
  none_untold = h.none_untold;
  taken_differ = differ;
  files_taken = list_all-weaken (is_taken_file false taken) (is_taken_file false after) (λ (f : File) k. refl) files h.files_taken;
  hidden_taken = list_all-weaken (is_taken_file false taken) (is_taken_file false after) (λ (f : File) k. refl) hidden h.hidden_taken;
}

-- ---- a file becomes the present one of its path

pub named-is : (name : FileName) (f : File) → is_named name f ≡ true → (f.path ≡ name.path) × (f.generation ≡ name.generation)
named-is name f h = (
  is_same-eq f.path name.path (first_of_both (is_same f.path name.path) (f.generation == name.generation) h),
  nat_is f.generation name.generation (second_of_both (is_same f.path name.path) (f.generation == name.generation) h),
)

path_turned : (a b : List ℕ) (c : Bool) → is_same a b ≡ c → is_same b a ≡ false → c ≡ false
path_turned a b true e h = let no : true ≡ false = sym (is_same-refl b) ∙ (ap (is_same b) (sym (is_same-eq a b e)) ∙ h) in no
path_turned a b false e h = refl

found_in_none : {X : Type 0} (p q : X → Bool) (xs : List X) (x : X) → find p xs ≡ Some x → list_any q xs ≡ false → q x ≡ false
found_in_none p q [] x e h = cc
found_in_none p q (y ∷ ys) x e h = step (p y) e (λ k. found_in_none p q ys x k (rest_none (q y) (list_any q ys) h))
  where
    step : (b : Bool) → cond b (Some y) (find p ys) ≡ Some x → (find p ys ≡ Some x → q x ≡ false) → q x ≡ false
    step true k rest = let same : y ≡ x = cc in ap q (sym same) ∙ first_none (q y) (list_any q ys) h
    step false k rest = rest k

all_onto : {X : Type 0} (p : X → Bool) (g : X → X) → ((x : X) → p x ≡ true → p (g x) ≡ true) → (xs : List X) → list_all p xs ≡ true → list_all p (map g xs) ≡ true
all_onto p g f [] h = refl
all_onto p g f (x ∷ xs) h = both (p (g x)) (list_all p (map g xs)) (f x (first_of_both (p x) (list_all p xs) h)) (all_onto p g f xs (second_of_both (p x) (list_all p xs) h))

-- what a file that becomes the present one leaves
pub record Stood (told : Bool) (files : List File) (taken : List TakenGeneration) (held : Held) : Type 0 where
  pub paths : SoundPaths (paths_of held.present)
  pub generations : SoundGenerations told held.present held.hidden taken
  pub covers : Covers files held.present

module _ (told : Bool) (files hidden : List File) (taken : List TakenGeneration) (name : FileName) (sound : SoundPaths (paths_of files)) (h : SoundGenerations told files hidden taken) where
  unmoved : Stood told files taken (held_with files hidden)
  unmoved = record { paths = sound; generations = h; covers = λ q k. k }

  module _ (f : File) (found : file_named hidden name ≡ Some f) where
    own : (f.path ≡ name.path) × (f.generation ≡ name.generation)
    own = named-is name f (found_passes (is_named name) hidden f found)

    -- of the same name as f
    as_named : (x : File) → same_file x f ≡ is_named name x
    as_named x = λ i. is_same x.path (own.0 i) && (x.generation == own.1 i)

    alone : list_any (same_file f) files ≡ false
    alone = not_true (list_any (same_file f) files) (found_in_all (is_named name) (is_alone files) hidden f found h.apart)

    room : has_room files f.path ≡ true
    room = found_in_all (is_named name) (λ (x : File). has_room files x.path) hidden f found h.placed

    host : is_host_path f.path ≡ true
    host = found_in_all (is_named name) (λ (x : File). is_host_path x.path) hidden f found h.named

    known : is_taken_file told taken f ≡ true
    known = found_in_all (is_named name) (is_taken_file told taken) hidden f found h.hidden_taken

    -- ---- where none was present

    alone_left : (xs : List File) → list_all (is_alone files) xs ≡ true → list_all (is_alone (put_file f files)) (without_named name xs) ≡ true
    alone_left [] k = refl
    alone_left (x ∷ xs) k =
        let rest : list_all (is_alone (put_file f files)) (without_named name xs) ≡ true = alone_left xs (second_of_both (is_alone files x) (list_all (is_alone files) xs) k) in
        let none : list_any (same_file x) files ≡ false = not_true (list_any (same_file x) files) (first_of_both (is_alone files x) (list_all (is_alone files) xs) k) in
        (elim (is_named name x) as (λ b. is_named name x ≡ b → list_all (is_alone (put_file f files)) (cond (not b) (x ∷ without_named name xs) (without_named name xs)) ≡ true) [
          | true ↦ λ e. rest
          | false ↦ λ e.
              let other : same_file x f ≡ false = as_named x ∙ e in
              both (is_alone (put_file f files) x) (list_all (is_alone (put_file f files)) (without_named name xs))
              (ap not (any-put-file (same_file x) f files ∙ (λ i. other i || none i))) rest
        ]) refl

    left : (p : File → Bool) → list_all p hidden ≡ true → list_all p (without_named name hidden) ≡ true
    left p k = list_all-filter p (λ (x : File). not (is_named name x)) hidden k

    stood_first : file_at files f.path ≡ None → is_folder files f.path ≡ false → Stood told files taken (held_with (put_file f files) (without_named name hidden))
    stood_first none folder =
        let covers : Covers files (put_file f files) = covers-put f files in
        record {
          paths = put-paths f files none folder room host sound;
          generations = record {
            differ = IsDistinct-filter same_file (λ (x : File). not (is_named name x)) hidden h.differ;
            apart = alone_left hidden h.apart;
            named = left (λ (x : File). is_host_path x.path) h.named;
            placed = left (λ (x : File). has_room (put_file f files) x.path) (placed_grown files (put_file f files) covers hidden h.placed);
            followed = left (is_followed (put_file f files)) (followed_grown files (put_file f files) covers hidden h.followed);
            none_untold = λ n. ap (without_named name) (h.none_untold n);
            taken_differ = h.taken_differ;
            files_taken = all-put-file (is_taken_file told taken) f files ∙ both (is_taken_file told taken f) (list_all (is_taken_file told taken) files) known h.files_taken;
            hidden_taken = left (is_taken_file told taken) h.hidden_taken;
          };
          covers = covers;
        }

    -- ---- where another was

    module _ (former : File) (there : file_at files name.path ≡ Some former) where
      abbrev swapped : File → File
      swapped x = cond (is_named name x) former x

      abbrev placed_in : File → File
      placed_in g = cond (is_same g.path name.path) f g

      was : former.path ≡ name.path
      was = is_same-eq former.path name.path (found_passes (λ (g : File). is_same g.path name.path) files former there)

      its_path : former.path ≡ f.path
      its_path = was ∙ sym own.0

      not_former : (x : File) → list_any (same_file x) files ≡ false → same_file x former ≡ false
      not_former x k = found_in_none (λ (g : File). is_same g.path name.path) (same_file x) files former there k

      same_paths : (g : File) → (placed_in g).path ≡ g.path
      same_paths g = (elim (is_same g.path name.path) as (λ b. is_same g.path name.path ≡ b → (cond b f g).path ≡ g.path) [
        | true ↦ λ e. own.0 ∙ sym (is_same-eq g.path name.path e)
        | false ↦ λ e. refl
      ]) refl

      paths_same : (fs : List File) → paths_of (in_place name.path f fs) ≡ paths_of fs
      paths_same [] = refl
      paths_same (g ∷ gs) = λ i. same_paths g i ∷ paths_same gs i

      -- two of them
      twice : (name.generation == name.generation) ≡ true
      twice = grind (arith, nat_tests)

      both_named : (x y : File) → is_named name x ≡ true → is_named name y ≡ true → same_file x y ≡ true
      both_named x y a b =
          let xs = named-is name x a in
          let ys = named-is name y b in
          (λ i. is_same (xs.0 i) (ys.0 i) && (xs.1 i == ys.1 i))
          ∙ both (is_same name.path name.path) (name.generation == name.generation) (is_same-refl name.path) twice

      still_apart : (x y : File) → same_file x y ≡ false → list_any (same_file x) files ≡ false → list_any (same_file y) files ≡ false → same_file (swapped x) (swapped y) ≡ false
      still_apart x y k ax ay = step (is_named name x) (is_named name y) refl refl
        where
          step : (a b : Bool) → is_named name x ≡ a → is_named name y ≡ b → same_file (cond a former x) (cond b former y) ≡ false
          step true true e d = let no : true ≡ false = sym (both_named x y e d) ∙ k in cc
          step true false e d = same-turned former y (same_file former y) refl (not_former y ay)
          step false true e d = not_former x ax
          step false false e d = k

      one_alone : (x : File) (xs : List File) → list_all (is_alone files) (x ∷ xs) ≡ true → list_any (same_file x) files ≡ false
      one_alone x xs k = not_true (list_any (same_file x) files) (first_of_both (is_alone files x) (list_all (is_alone files) xs) k)

      rest_alone : (x : File) (xs : List File) → list_all (is_alone files) (x ∷ xs) ≡ true → list_all (is_alone files) xs ≡ true
      rest_alone x xs k = second_of_both (is_alone files x) (list_all (is_alone files) xs) k

      others_apart : (x : File) → list_any (same_file x) files ≡ false → (ys : List File) → AllByRecursion (λ y. same_file x y ≡ false) ys → list_all (is_alone files) ys ≡ true → AllByRecursion (λ y. same_file (swapped x) y ≡ false) (map swapped ys)
      others_apart x ax [] d k = tt
      others_apart x ax (y ∷ ys) d k = (still_apart x y d.0 ax (one_alone y ys k), others_apart x ax ys d.1 (rest_alone y ys k))

      differ_swapped : (xs : List File) → IsDistinct same_file xs → list_all (is_alone files) xs ≡ true → IsDistinct same_file (map swapped xs)
      unfolding IsDistinct
      differ_swapped [] d k = tt
      differ_swapped (x ∷ xs) d k = (others_apart x (one_alone x xs k) xs d.0 (rest_alone x xs k), differ_swapped xs d.1 (rest_alone x xs k))

      elsewhere : (g : File) → is_same g.path name.path ≡ false → same_file former g ≡ false
      elsewhere g e =
          let other : is_same former.path g.path ≡ false = path_turned former.path g.path (is_same former.path g.path) refl (ap (is_same g.path) was ∙ e) in
          ap (λ (b : Bool). b && (former.generation == g.generation)) other

      none_placed : (x g : File) → same_file x g ≡ false → same_file (swapped x) (placed_in g) ≡ false
      none_placed x g k = step (is_named name x) (is_same g.path name.path) refl refl
        where
          step : (a b : Bool) → is_named name x ≡ a → is_same g.path name.path ≡ b → same_file (cond a former x) (cond b f g) ≡ false
          step true true e d = same-turned former f (same_file former f) refl (not_former f alone)
          step true false e d = elsewhere g d
          step false true e d = as_named x ∙ e
          step false false e d = k

      none_there : (x : File) (fs : List File) → list_any (same_file x) fs ≡ false → list_any (same_file (swapped x)) (in_place name.path f fs) ≡ false
      none_there x [] k = refl
      none_there x (g ∷ gs) k = λ i. none_placed x g (first_none (same_file x g) (list_any (same_file x) gs) k) i || none_there x gs (rest_none (same_file x g) (list_any (same_file x) gs) k) i

      alone_swapped : (xs : List File) → list_all (is_alone files) xs ≡ true → list_all (is_alone (in_place name.path f files)) (map swapped xs) ≡ true
      alone_swapped [] k = refl
      alone_swapped (x ∷ xs) k =
          both (is_alone (in_place name.path f files) (swapped x)) (list_all (is_alone (in_place name.path f files)) (map swapped xs))
          (ap not (none_there x files (one_alone x xs k))) (alone_swapped xs (rest_alone x xs k))

      swapped_all : (p : File → Bool) → p former ≡ true → list_all p hidden ≡ true → list_all p (map swapped hidden) ≡ true
      swapped_all p k = all_onto p swapped (λ x e. elim (is_named name x) as (λ b. p (cond b former x) ≡ true) [ true ↦ k | false ↦ e ]) hidden

      placed_all : (p : File → Bool) → p f ≡ true → list_all p files ≡ true → list_all p (in_place name.path f files) ≡ true
      placed_all p k = all_onto p placed_in (λ x e. elim (is_same x.path name.path) as (λ b. p (cond b f x) ≡ true) [ true ↦ k | false ↦ e ]) files

      present_there : is_some (file_at files former.path) ≡ true
      present_there = ap (λ (q : List ℕ). is_some (file_at files q)) was ∙ ap is_some there

      pub stood_again : Stood told files taken (held_with (in_place name.path f files) (change_named name (λ g. former) hidden))
      stood_again =
          let more : List File = in_place name.path f files in
          let covers : Covers files more = covers-same files more (paths_same files) in
          record {
            paths = subst SoundPaths (sym (paths_same files)) sound;
            generations = record {
              differ = differ_swapped hidden h.differ h.apart;
              apart = alone_swapped hidden h.apart;
              named = swapped_all (λ (x : File). is_host_path x.path) (ap is_host_path its_path ∙ host) h.named;
              placed = swapped_all (λ (x : File). has_room more x.path) (folder-grown files more covers (parent_of former.path) (ap (has_room files) its_path ∙ room)) (placed_grown files more covers hidden h.placed);
              followed = swapped_all (is_followed more)
                  (or_second (not (former.generation == 0)) (is_some (file_at more former.path)) (at_grown files more covers former.path present_there))
                  (followed_grown files more covers hidden h.followed);
              none_untold = λ n. ap (map swapped) (h.none_untold n);
              taken_differ = h.taken_differ;
              files_taken = placed_all (is_taken_file told taken) known h.files_taken;
              hidden_taken = swapped_all (is_taken_file told taken) (found_in_all (λ (g : File). is_same g.path name.path) (is_taken_file told taken) files former there h.files_taken) h.hidden_taken;
            };
            covers = covers;
          }

  stands : (o p : Option File) → file_named hidden name ≡ o → file_at files name.path ≡ p → is_folder files name.path ≡ false → Stood told files taken (turned_to name o p (held_with files hidden))
  stands None p e d folder = unmoved
  stands (Some f) None e d folder =
      let path : f.path ≡ name.path = (own f e).0 in
      stood_first f e (ap (file_at files) path ∙ d) (ap (is_folder files) path ∙ folder)
  stands (Some f) (Some former) e d folder = stood_again f e former d

  pub turned-generations : may_turn (held_with files hidden) name ≡ true → Stood told files taken (turned name (held_with files hidden))
  turned-generations may =
      stands (file_named hidden name) (file_at files name.path) refl refl
      (not_true (is_folder files name.path) (second_of_both (is_held (held_with files hidden) name) (not (is_folder files name.path)) may))
