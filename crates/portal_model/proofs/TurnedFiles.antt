-- As a file becomes the present one of its path, each name names the file that it named, and that file stands at the path.
use Rattle.std.proofs.Common.{◌≡◌, ℕ, ◌==◌, List, [], ◌∷◌, ◌++◌, map, Bool, true, false, not, ◌&&◌, ◌||◌, cond, Option, Some, None, is_some, refl, sym, ap, subst, ◌∙◌}
use Rattle.std.specs.List.{find, list_all, list_any, IsDistinct, AllByRecursion}
use Rattle.std.specs.Ordering.{is_lt}
use Rattle.portal_base.specs.Content.{file_at, file_named, is_named, paths_of}
use Rattle.portal_base.specs.FileChanges.{put_file}
use Rattle.file_generations.specs.Generations.{all_held, held_with, in_place, same_file, turned, turned_to, without_named}
use Rattle.portal_base.specs.Names.{is_same}
use Rattle.portal_base.specs.PathOrder.{path_order}
use Rattle.portal_base.specs.declared.files.File.{File}
use Rattle.portal_base.specs.declared.files.FileName.{FileName}
use Rattle.portal_model.proofs.DocumentChanges.{first_of_both, second_of_both}
use Rattle.portal_model.proofs.GenerationsValid.{is_alone, named-is, same-turned}
use Rattle.portal_model.proofs.ListLookups.{find-filter, found_in_all, found_passes, is_same-eq, is_same-refl}

-- ---- lists that are joined, and files that are put among others

abbrev pub first_of : {X : Type 0} → Option X → Option X → Option X
first_of (Some x) o = Some x
first_of None o = o

pub found-joined : {X : Type 0} (p : X → Bool) (xs ys : List X) → find p (xs ++ ys) ≡ first_of (find p xs) (find p ys)
found-joined p [] ys = refl
found-joined p (x ∷ xs) ys = elim (p x) as (λ b. cond b (Some x) (find p (xs ++ ys)) ≡ first_of (cond b (Some x) (find p xs)) (find p ys)) [
  | true ↦ refl
  | false ↦ found-joined p xs ys
]

put_other : (p : File → Bool) (new : File) (fs : List File) → p new ≡ false → find p (put_file new fs) ≡ find p fs
put_other p new [] h = ap (λ (b : Bool). cond b (Some new) None) h
put_other p new (g ∷ gs) h = elim (is_lt (path_order new.path g.path)) as (λ b. find p (cond b (new ∷ g ∷ gs) (g ∷ put_file new gs)) ≡ find p (g ∷ gs)) [
  | true ↦ ap (λ (b : Bool). cond b (Some new) (find p (g ∷ gs))) h
  | false ↦ ap (λ (o : Option File). cond (p g) (Some g) o) (put_other p new gs h)
]

put_found : (p : File → Bool) (new : File) (fs : List File) → p new ≡ true → find p fs ≡ None → find p (put_file new fs) ≡ Some new
put_found p new [] h n = ap (λ (b : Bool). cond b (Some new) None) h
put_found p new (g ∷ gs) h n = elim (is_lt (path_order new.path g.path)) as (λ b. find p (cond b (new ∷ g ∷ gs) (g ∷ put_file new gs)) ≡ Some new) [
  | true ↦ ap (λ (b : Bool). cond b (Some new) (find p (g ∷ gs))) h
  | false ↦ behind (p g) n (put_found p new gs h)
]
  where
    behind : (b : Bool) → cond b (Some g) (find p gs) ≡ None → (find p gs ≡ None → find p (put_file new gs) ≡ Some new) → cond b (Some g) (find p (put_file new gs)) ≡ Some new
    behind true k rest = cc
    behind false k rest = rest k

-- ---- names

-- one file has one name
one_name : (m n : FileName) (x y : File) → is_named m x ≡ true → is_named n x ≡ true → is_named n y ≡ true → is_named m y ≡ true
one_name m n x y a b c =
    let first = named-is n x b in
    let second = named-is n y c in
    (λ i. is_same ((second.0 ∙ sym first.0) i) m.path && ((second.1 ∙ sym first.1) i == m.generation)) ∙ a

other_name : (m n : FileName) (x y : File) → is_named m y ≡ false → is_named n y ≡ true → is_named n x ≡ true → is_named m x ≡ false
other_name m n x y h c b = step (is_named m x) refl
  where
    step : (k : Bool) → is_named m x ≡ k → k ≡ false
    step true e = let no : true ≡ false = sym (one_name m n x y e b c) ∙ h in no
    step false e = refl

same_name : (m n : FileName) (x : File) → is_named m x ≡ true → is_named n x ≡ true → m ≡ n
same_name m n x a b =
    let first = named-is m x a in
    let second = named-is n x b in
    λ i. record { path = (sym first.0 ∙ second.0) i; generation = (sym first.1 ∙ second.1) i }

-- no file has the name of one that is alone
none_named : (n : FileName) (f : File) → is_named n f ≡ true → (fs : List File) → list_any (same_file f) fs ≡ false → find (is_named n) fs ≡ None
none_named n f own [] h = refl
none_named n f own (g ∷ gs) h =
    let here : same_file f g ≡ false = neither_first (same_file f g) (list_any (same_file f) gs) h in
    let is = named-is n f own in
    let other : is_named n g ≡ false = (λ i. is_same g.path (sym is.0 i) && (g.generation == sym is.1 i)) ∙ same-turned g f (same_file g f) refl here in
    ap (λ (b : Bool). cond b (Some g) (find (is_named n) gs)) other ∙ none_named n f own gs (neither_second (same_file f g) (list_any (same_file f) gs) h)
  where
    neither_first : (a b : Bool) → (a || b) ≡ false → a ≡ false
    neither_first true b k = k
    neither_first false b k = refl

    neither_second : (a b : Bool) → (a || b) ≡ false → b ≡ false
    neither_second true b k = cc
    neither_second false b k = k

not_alone : (b : Bool) → not b ≡ true → b ≡ false
not_alone true h = cc
not_alone false h = refl

-- ---- a file becomes the present one of its path

module _ (n : FileName) (hidden files : List File) (differ : IsDistinct is_same (paths_of files)) (apart : list_all (is_alone files) hidden ≡ true) where
  module _ (f : File) (found : file_named hidden n ≡ Some f) where
    own : is_named n f ≡ true
    own = found_passes (is_named n) hidden f found

    its_path : f.path ≡ n.path
    its_path = (named-is n f own).0

    alone : list_any (same_file f) files ≡ false
    alone = not_alone (list_any (same_file f) files) (found_in_all (is_named n) (is_alone files) hidden f found apart)

    -- ---- where none was present

    moved_own : find (is_named n) (without_named n hidden ++ put_file f files) ≡ find (is_named n) (hidden ++ files)
    moved_own =
        let gone : find (is_named n) (without_named n hidden) ≡ None = find-filter (is_named n) (λ (x : File). not (is_named n x)) false (λ x k. ap not k) hidden in
        let here : find (is_named n) (put_file f files) ≡ Some f = put_found (is_named n) f files own (none_named n f own files alone) in
        found-joined (is_named n) (without_named n hidden) (put_file f files)
        ∙ ((λ i. first_of (gone i) (here i))
        ∙ sym (found-joined (is_named n) hidden files ∙ ap (λ (o : Option File). first_of o (find (is_named n) files)) found))

    moved_other : (m : FileName) → is_named m f ≡ false → find (is_named m) (without_named n hidden ++ put_file f files) ≡ find (is_named m) (hidden ++ files)
    moved_other m other =
        let kept : find (is_named m) (without_named n hidden) ≡ find (is_named m) hidden = find-filter (is_named m) (λ (x : File). not (is_named n x)) true (λ x k. ap not (not_it x k)) hidden in
        found-joined (is_named m) (without_named n hidden) (put_file f files)
        ∙ ((λ i. first_of (kept i) (put_other (is_named m) f files other i))
        ∙ sym (found-joined (is_named m) hidden files))
      where
        not_it : (x : File) → is_named m x ≡ true → is_named n x ≡ false
        not_it x k = step (is_named n x) refl
          where
            step : (b : Bool) → is_named n x ≡ b → b ≡ false
            step true e = let no : true ≡ false = sym (one_name m n x f k e own) ∙ other in no
            step false e = refl

    -- ---- where another was

    module _ (former : File) (there : file_at files n.path ≡ Some former) where
      abbrev swapped : File → File
      swapped x = cond (is_named n x) former x

      abbrev placed_in : File → File
      placed_in g = cond (is_same g.path n.path) f g

      was : former.path ≡ n.path
      was = is_same-eq former.path n.path (found_passes (λ (g : File). is_same g.path n.path) files former there)

      not_former : (x : File) (fs : List File) → file_at fs n.path ≡ Some former → list_any (same_file x) fs ≡ false → same_file x former ≡ false
      not_former x [] e k = cc
      not_former x (g ∷ gs) e k = step (is_same g.path n.path) e (λ r s. not_former x gs r s)
        where
          step : (b : Bool) → cond b (Some g) (file_at gs n.path) ≡ Some former → (file_at gs n.path ≡ Some former → list_any (same_file x) gs ≡ false → same_file x former ≡ false) → same_file x former ≡ false
          step true r rest = let same : g ≡ former = cc in ap (same_file x) (sym same) ∙ by_first (same_file x g) (list_any (same_file x) gs) k
            where
              by_first : (a b : Bool) → (a || b) ≡ false → a ≡ false
              by_first true b s = s
              by_first false b s = refl
          step false r rest = rest r (by_second (same_file x g) (list_any (same_file x) gs) k)
            where
              by_second : (a b : Bool) → (a || b) ≡ false → b ≡ false
              by_second true b s = cc
              by_second false b s = s

      former_other : is_named n former ≡ false
      former_other =
          let is = named-is n f own in
          (λ i. is_same former.path (sym is.0 i) && (former.generation == sym is.1 i)) ∙ same-turned former f (same_file former f) refl (not_former f files there alone)

      -- of that name none is beside then, and the file is the present one
      none_swapped : (xs : List File) → find (is_named n) (map swapped xs) ≡ None
      none_swapped [] = refl
      none_swapped (x ∷ xs) = ap (λ (b : Bool). cond b (Some (swapped x)) (find (is_named n) (map swapped xs))) (one (is_named n x) refl) ∙ none_swapped xs
        where
          one : (b : Bool) → is_named n x ≡ b → is_named n (cond b former x) ≡ false
          one true e = former_other
          one false e = e

      stands_in : (p : File → Bool) → p f ≡ true → ((g : File) → is_same g.path n.path ≡ false → p g ≡ false) → (fs : List File) → is_some (file_at fs n.path) ≡ true → find p (in_place n.path f fs) ≡ Some f
      stands_in p h off [] e = cc
      stands_in p h off (g ∷ gs) e = step (is_same g.path n.path) refl e (stands_in p h off gs)
        where
          step : (b : Bool) → is_same g.path n.path ≡ b → is_some (cond b (Some g) (file_at gs n.path)) ≡ true → (is_some (file_at gs n.path) ≡ true → find p (in_place n.path f gs) ≡ Some f) →
              cond (p (cond b f g)) (Some (cond b f g)) (find p (in_place n.path f gs)) ≡ Some f
          step true d k rest = ap (λ (b : Bool). cond b (Some f) (find p (in_place n.path f gs))) h
          step false d k rest = ap (λ (b : Bool). cond b (Some g) (find p (in_place n.path f gs))) (off g d) ∙ rest k

      off_path : (g : File) → is_same g.path n.path ≡ false → is_named n g ≡ false
      off_path g e = ap (λ (b : Bool). b && (g.generation == n.generation)) e

      swapped_own : find (is_named n) (map swapped hidden ++ in_place n.path f files) ≡ find (is_named n) (hidden ++ files)
      swapped_own =
          let here : find (is_named n) (in_place n.path f files) ≡ Some f = stands_in (is_named n) own off_path files (ap is_some there) in
          found-joined (is_named n) (map swapped hidden) (in_place n.path f files)
          ∙ ((λ i. first_of (none_swapped hidden i) (here i))
          ∙ sym (found-joined (is_named n) hidden files ∙ ap (λ (o : Option File). first_of o (find (is_named n) files)) found))

      -- the former one is beside then
      module _ (m : FileName) (other : is_named m f ≡ false) (its : is_named m former ≡ true) where
        none_hidden : (xs : List File) → list_all (is_alone files) xs ≡ true → find (is_named m) xs ≡ None
        none_hidden [] k = refl
        none_hidden (x ∷ xs) k =
            let is = named-is m former its in
            let none : list_any (same_file x) files ≡ false = not_alone (list_any (same_file x) files) (first_of_both (is_alone files x) (list_all (is_alone files) xs) k) in
            let off : is_named m x ≡ false = (λ i. is_same x.path (sym is.0 i) && (x.generation == sym is.1 i)) ∙ not_former x files there none in
            ap (λ (b : Bool). cond b (Some x) (find (is_named m) xs)) off ∙ none_hidden xs (second_of_both (is_alone files x) (list_all (is_alone files) xs) k)

        beside : (xs : List File) → file_named xs n ≡ Some f → list_all (is_alone files) xs ≡ true → find (is_named m) (map swapped xs) ≡ Some former
        beside [] e k = cc
        beside (x ∷ xs) e k = step (is_named n x) e (beside xs)
          where
            none : list_any (same_file x) files ≡ false
            none = not_alone (list_any (same_file x) files) (first_of_both (is_alone files x) (list_all (is_alone files) xs) k)

            off : is_named m x ≡ false
            off = (λ i. is_same x.path (sym (named-is m former its).0 i) && (x.generation == sym (named-is m former its).1 i)) ∙ not_former x files there none

            step : (b : Bool) → cond b (Some x) (file_named xs n) ≡ Some f → (file_named xs n ≡ Some f → list_all (is_alone files) xs ≡ true → find (is_named m) (map swapped xs) ≡ Some former) →
                cond (is_named m (cond b former x)) (Some (cond b former x)) (find (is_named m) (map swapped xs)) ≡ Some former
            step true r rest = ap (λ (b : Bool). cond b (Some former) (find (is_named m) (map swapped xs))) its
            step false r rest = ap (λ (b : Bool). cond b (Some x) (find (is_named m) (map swapped xs))) off ∙ rest r (second_of_both (is_alone files x) (list_all (is_alone files) xs) k)

        at_its_path : (g : File) → is_same g.path n.path ≡ false → is_named m g ≡ false
        at_its_path g e =
            let same : m.path ≡ n.path = sym (named-is m former its).0 ∙ was in
            ap (λ (b : Bool). b && (g.generation == m.generation)) (ap (is_same g.path) same ∙ e)

        was_there : (fs : List File) → file_at fs n.path ≡ Some former → find (is_named m) fs ≡ Some former
        was_there [] e = cc
        was_there (g ∷ gs) e = step (is_same g.path n.path) refl e (was_there gs)
          where
            step : (b : Bool) → is_same g.path n.path ≡ b → cond b (Some g) (file_at gs n.path) ≡ Some former → (file_at gs n.path ≡ Some former → find (is_named m) gs ≡ Some former) → cond (is_named m g) (Some g) (find (is_named m) gs) ≡ Some former
            step true d r rest =
                let same : g ≡ former = cc in
                ap (λ (b : Bool). cond b (Some g) (find (is_named m) gs)) (ap (is_named m) same ∙ its) ∙ ap (λ (x : File). Some x) same
            step false d r rest = ap (λ (b : Bool). cond b (Some g) (find (is_named m) gs)) (at_its_path g d) ∙ rest r

        swapped_former : find (is_named m) (map swapped hidden ++ in_place n.path f files) ≡ find (is_named m) (hidden ++ files)
        swapped_former =
            found-joined (is_named m) (map swapped hidden) (in_place n.path f files)
            ∙ (ap (λ (o : Option File). first_of o (find (is_named m) (in_place n.path f files))) (beside hidden found apart)
            ∙ sym (found-joined (is_named m) hidden files ∙ (λ i. first_of (none_hidden hidden apart i) (was_there files there i))))

      -- any other name
      module _ (m : FileName) (other : is_named m f ≡ false) (none : is_named m former ≡ false) where
        kept_beside : (xs : List File) → find (is_named m) (map swapped xs) ≡ find (is_named m) xs
        kept_beside [] = refl
        kept_beside (x ∷ xs) = step (is_named n x) refl (kept_beside xs)
          where
            step : (b : Bool) → is_named n x ≡ b → find (is_named m) (map swapped xs) ≡ find (is_named m) xs → cond (is_named m (cond b former x)) (Some (cond b former x)) (find (is_named m) (map swapped xs)) ≡ cond (is_named m x) (Some x) (find (is_named m) xs)
            step true e rest =
                let off : is_named m x ≡ false = other_name m n x f other own e in
                ap (λ (b : Bool). cond b (Some former) (find (is_named m) (map swapped xs))) none
                ∙ (rest ∙ sym (ap (λ (b : Bool). cond b (Some x) (find (is_named m) xs)) off))
            step false e rest = ap (λ (o : Option File). cond (is_named m x) (Some x) o) rest

        -- behind the former one none has its path
        rest_kept : (first : List ℕ) → first ≡ n.path → (gs : List File) → AllByRecursion (λ q. is_same first q ≡ false) (paths_of gs) → find (is_named m) (in_place n.path f gs) ≡ find (is_named m) gs
        rest_kept first e [] k = refl
        rest_kept first e (g ∷ gs) k =
            let off : is_same g.path n.path ≡ false = path_turned g.path n.path (is_same g.path n.path) refl (ap (λ (q : List ℕ). is_same q g.path) (sym e) ∙ k.0) in
            (λ i. cond (is_named m (cond (off i) f g)) (Some (cond (off i) f g)) (find (is_named m) (in_place n.path f gs)))
            ∙ ap (λ (o : Option File). cond (is_named m g) (Some g) o) (rest_kept first e gs k.1)
          where
            path_turned : (a b : List ℕ) (c : Bool) → is_same a b ≡ c → is_same b a ≡ false → c ≡ false
            path_turned a b true d h = let no : true ≡ false = sym (is_same-refl b) ∙ (ap (is_same b) (sym (is_same-eq a b d)) ∙ h) in no
            path_turned a b false d h = refl

        kept_present : (fs : List File) → IsDistinct is_same (paths_of fs) → file_at fs n.path ≡ Some former → find (is_named m) (in_place n.path f fs) ≡ find (is_named m) fs
        unfolding IsDistinct
        kept_present [] d e = cc
        kept_present (g ∷ gs) d e = step (is_same g.path n.path) refl e (kept_present gs d.1)
          where
            step : (b : Bool) → is_same g.path n.path ≡ b → cond b (Some g) (file_at gs n.path) ≡ Some former → (file_at gs n.path ≡ Some former → find (is_named m) (in_place n.path f gs) ≡ find (is_named m) gs) →
                cond (is_named m (cond b f g)) (Some (cond b f g)) (find (is_named m) (in_place n.path f gs)) ≡ cond (is_named m g) (Some g) (find (is_named m) gs)
            step true p r rest =
                let same : g ≡ former = cc in
                let off : is_named m g ≡ false = ap (is_named m) same ∙ none in
                ap (λ (b : Bool). cond b (Some f) (find (is_named m) (in_place n.path f gs))) other
                ∙ (rest_kept g.path (is_same-eq g.path n.path p) gs d.0 ∙ sym (ap (λ (b : Bool). cond b (Some g) (find (is_named m) gs)) off))
            step false p r rest = ap (λ (o : Option File). cond (is_named m g) (Some g) o) (rest r)

        swapped_others : find (is_named m) (map swapped hidden ++ in_place n.path f files) ≡ find (is_named m) (hidden ++ files)
        swapped_others =
            found-joined (is_named m) (map swapped hidden) (in_place n.path f files)
            ∙ ((λ i. first_of (kept_beside hidden i) (kept_present files differ there i))
            ∙ sym (found-joined (is_named m) hidden files))

      swapped_any : (m : FileName) (a b : Bool) → is_named m f ≡ a → is_named m former ≡ b → find (is_named m) (map swapped hidden ++ in_place n.path f files) ≡ find (is_named m) (hidden ++ files)
      swapped_any m true b e d = subst (λ (k : FileName). find (is_named k) (map swapped hidden ++ in_place n.path f files) ≡ find (is_named k) (hidden ++ files)) (sym (same_name m n f e own)) swapped_own
      swapped_any m false true e d = swapped_former m e d
      swapped_any m false false e d = swapped_others m e d

    moved_any : (m : FileName) (a : Bool) → is_named m f ≡ a → find (is_named m) (without_named n hidden ++ put_file f files) ≡ find (is_named m) (hidden ++ files)
    moved_any m true e = subst (λ (k : FileName). find (is_named k) (without_named n hidden ++ put_file f files) ≡ find (is_named k) (hidden ++ files)) (sym (same_name m n f e own)) moved_own
    moved_any m false e = moved_other m e

  named_so : (o p : Option File) → file_named hidden n ≡ o → file_at files n.path ≡ p → (m : FileName) → file_named (all_held (turned_to n o p (held_with files hidden))) m ≡ file_named (hidden ++ files) m
  named_so None p e d m = refl
  named_so (Some f) None e d m = moved_any f e m (is_named m f) refl
  named_so (Some f) (Some former) e d m = swapped_any f e former d m (is_named m f) (is_named m former) refl refl

  -- each name names the file that it named
  pub turned-named : (m : FileName) → file_named (all_held (turned n (held_with files hidden))) m ≡ file_named (all_held (held_with files hidden)) m
  turned-named m = named_so (file_named hidden n) (file_at files n.path) refl refl m

  -- ---- what stands at the path then

  abbrev stands_at : File → Bool
  stands_at g = is_same g.path n.path

  -- a present file of the name is the one of the path
  at_path : (x : File) (fs : List File) → IsDistinct is_same (paths_of fs) → find (is_named n) fs ≡ Some x → file_at fs n.path ≡ Some x
  unfolding IsDistinct
  at_path x [] d e = cc
  at_path x (g ∷ gs) d e = step (is_named n g) (is_same g.path n.path) refl refl e (at_path x gs d.1)
    where
      none_behind : (hs : List File) → g.path ≡ n.path → AllByRecursion (λ q. is_same g.path q ≡ false) (paths_of hs) → find (is_named n) hs ≡ None
      none_behind [] p k = refl
      none_behind (y ∷ ys) p k = ap (λ (b : Bool). cond b (Some y) (find (is_named n) ys)) (not_it (is_named n y) refl) ∙ none_behind ys p k.1
        where
          not_it : (b : Bool) → is_named n y ≡ b → b ≡ false
          not_it true h =
              let same : g.path ≡ y.path = p ∙ sym (named-is n y h).0 in
              let no : true ≡ false = sym (is_same-refl g.path) ∙ (ap (is_same g.path) same ∙ k.0) in
              no
          not_it false h = refl

      step : (a b : Bool) → is_named n g ≡ a → is_same g.path n.path ≡ b → cond a (Some g) (find (is_named n) gs) ≡ Some x → (find (is_named n) gs ≡ Some x → file_at gs n.path ≡ Some x) → cond b (Some g) (file_at gs n.path) ≡ Some x
      step true true h p k rest = k
      step true false h p k rest = let no : true ≡ false = sym (first_of_both (is_same g.path n.path) (g.generation == n.generation) h) ∙ p in cc
      step false true h p k rest = let gone : None ≡ Some x = sym (none_behind gs (is_same-eq g.path n.path p) d.0) ∙ k in cc
      step false false h p k rest = rest k

  stood_so : (x : File) (o p : Option File) → file_named hidden n ≡ o → file_at files n.path ≡ p → first_of o (file_named files n) ≡ Some x → file_at (turned_to n o p (held_with files hidden)).present n.path ≡ Some x
  stood_so x None p e d k = at_path x files differ k
  stood_so x (Some f) None e d k =
      let same : f ≡ x = cc in
      put_found stands_at f files (ap (λ (q : List ℕ). is_same q n.path) (its_path f e) ∙ is_same-refl n.path) d ∙ ap (λ (y : File). Some y) same
  stood_so x (Some f) (Some former) e d k =
      let same : f ≡ x = cc in
      stands_in f e former d stands_at (ap (λ (q : List ℕ). is_same q n.path) (its_path f e) ∙ is_same-refl n.path) (λ g off. off) files (ap is_some d) ∙ ap (λ (y : File). Some y) same

  pub turned-stands : (x : File) → file_named (all_held (held_with files hidden)) n ≡ Some x → file_at (turned n (held_with files hidden)).present n.path ≡ Some x
  turned-stands x e = stood_so x (file_named hidden n) (file_at files n.path) refl refl (sym (found-joined (is_named n) hidden files) ∙ e)
