-- The files of a tree, present or not: which one a name finds, and what each change of a file leaves of that.
use Rattle.std.proofs.Common.{◌≡◌, ℕ, ◌==◌, List, [], ◌∷◌, ◌++◌, map, Bool, true, false, not, ◌&&◌, ◌||◌, cond, Option, Some, None, is_some, refl, sym, ap, ◌∙◌}
use Rattle.std.specs.List.{find, list_all, list_any, AllByRecursion, IsDistinct}
use Rattle.std.specs.Option.{option_map}
use Rattle.std.specs.Ordering.{is_lt}
use Rattle.std.proofs.lemmas.List.{map-append}
use Rattle.portal_base.specs.Content.{file_at, file_named, has_room, is_folder, is_named}
use Rattle.portal_base.specs.FileChanges.{change_named, put_file}
use Rattle.file_generations.specs.Generations.{Held, all_held, change_held, in_place, is_held, name_of_file, same_file, turned, turned_to, without_named}
use Rattle.portal_base.specs.Names.{is_same}
use Rattle.portal_base.specs.PathOrder.{path_order}
use Rattle.portal_base.specs.declared.files.File.{File}
use Rattle.portal_base.specs.declared.files.FileName.{FileName}
use Rattle.portal_model.specs.SoundGenerations.{is_followed}
use Rattle.portal_model.proofs.ListLookups.{find-filter, find-map, found_in_all, found_passes, is_same-eq, is_same-refl}
use Rattle.app_world.specs.View.{same_name}
use Rattle.app_world.proofs.NamedFiles.{IsNamedThen, name-eq, name-itself, named_in, named_of}
use Rattle.app_world.proofs.Orders.{numbers}

-- what is true of the files of a tree that tells them
pub record SoundTree (tree : Held) : Type 0 where
  pub paths : IsDistinct is_same (map (λ (f : File). f.path) tree.present)
  pub apart : list_all (λ (f : File). not (is_folder tree.present f.path)) tree.present ≡ true
  pub others : list_all (λ (f : File). not (list_any (same_file f) tree.present)) tree.hidden ≡ true
  pub followed : list_all (is_followed tree.present) tree.hidden ≡ true
  pub placed : list_all (λ (f : File). has_room tree.present f.path) tree.hidden ≡ true

-- ---- what is found in lists

abbrev pub first_some : {X : Type 0} → Option X → Option X → Option X
first_some None o = o
first_some (Some x) o = Some x

pub find-append : {X : Type 0} (p : X → Bool) (xs ys : List X) → find p (xs ++ ys) ≡ first_some (find p xs) (find p ys)
find-append p [] ys = refl
find-append p (x ∷ xs) ys = step (p x) (find-append p xs ys)
  where
    step : (b : Bool) → find p (xs ++ ys) ≡ first_some (find p xs) (find p ys) → cond b (Some x) (find p (xs ++ ys)) ≡ first_some (cond b (Some x) (find p xs)) (find p ys)
    step true e = refl
    step false e = e

none-parts : (o q : Option File) → first_some o q ≡ None → (o ≡ None) × (q ≡ None)
none-parts None q e = (refl, e)
none-parts (Some f) q e = cc

pub any-of : (p q : File → Bool) (fs : List File) (f : File) → find q fs ≡ Some f → p f ≡ true → list_any p fs ≡ true
any-of p q [] f e h = cc
any-of p q (g ∷ fs) f e h = step (q g) e (λ k. any-of p q fs f k h)
  where
    first : (b : Bool) → b ≡ true → (b || list_any p fs) ≡ true
    first true k = refl
    first false k = cc

    later : (b : Bool) → list_any p fs ≡ true → (b || list_any p fs) ≡ true
    later true k = refl
    later false k = k

    step : (b : Bool) → cond b (Some g) (find q fs) ≡ Some f → (find q fs ≡ Some f → list_any p fs ≡ true) → (p g || list_any p fs) ≡ true
    step true k more = let same : g ≡ f = cc in first (p g) (ap p same ∙ h)
    step false k more = later (p g) (more k)

-- ---- names

pub name-turned : (a b : FileName) → same_name a b ≡ same_name b a
name-turned a b = step (same_name a b) (same_name b a) refl refl
  where
    step : (c d : Bool) → same_name a b ≡ c → same_name b a ≡ d → c ≡ d
    step true true e f = refl
    step true false e f = sym (name-itself a) ∙ (ap (λ (x : FileName). same_name x a) (name-eq a b e) ∙ f)
    step false true e f = sym (sym (name-itself b) ∙ (ap (λ (x : FileName). same_name x b) (name-eq b a f) ∙ e))
    step false false e f = refl

-- a file that a name finds has that name
pub found-name : (files : List File) (name : FileName) (f : File) → file_named files name ≡ Some f → name_of_file f ≡ name
found-name files name f e = name-eq (name_of_file f) name (found_passes (is_named name) files f e)

both-named : (f g : File) (name : FileName) → name_of_file f ≡ name → name_of_file g ≡ name → same_file f g ≡ true
both-named f g name e h = (λ i. same_name (e i) (h i)) ∙ name-itself name

-- ---- the file of a name, among those of which each path has one

-- where it has this generation
abbrev pub of_number : ℕ → Option File → Option File
of_number generation None = None
of_number generation (Some f) = cond (f.generation == generation) (Some f) None

other_path : (p q : List ℕ) (name : FileName) → is_same p q ≡ false → is_same p name.path ≡ true → (b : Bool) → is_same q name.path ≡ b → b ≡ false
other_path p q name e h true g =
    let same : is_same p q ≡ is_same p name.path = ap (is_same p) (is_same-eq q name.path g) in
    cc
other_path p q name e h false g = refl

none_behind : (p : List ℕ) (name : FileName) (fs : List File) → is_same p name.path ≡ true → AllByRecursion (λ (q : List ℕ). is_same p q ≡ false) (map (λ (f : File). f.path) fs) → file_named fs name ≡ None
none_behind p name [] h a = refl
none_behind p name (f ∷ fs) h a =
    ap (λ (b : Bool). cond (b && f.generation == name.generation) (Some f) (file_named fs name)) (other_path p f.path name a.0 h (is_same f.path name.path) refl) ∙ none_behind p name fs h a.1

-- no other file has the path
pub file_named-is : (name : FileName) (files : List File) → IsDistinct is_same (map (λ (f : File). f.path) files) → file_named files name ≡ of_number name.generation (file_at files name.path)
unfolding IsDistinct
file_named-is name [] d = refl
file_named-is name (f ∷ fs) d = by_path (is_same f.path name.path) refl (file_named-is name fs d.1)
  where
    by_path : (b : Bool) → is_same f.path name.path ≡ b → file_named fs name ≡ of_number name.generation (file_at fs name.path) →
        cond (b && f.generation == name.generation) (Some f) (file_named fs name) ≡ of_number name.generation (cond b (Some f) (file_at fs name.path))
    by_path true e rest = ap (λ (o : Option File). cond (f.generation == name.generation) (Some f) o) (none_behind f.path name fs e d.0)
    by_path false e rest = rest

-- ---- the file of a name, present or not

module _ (tree : Held) (t : SoundTree tree) where
  -- a present file has its name alone
  pub hidden-none : (name : FileName) (f : File) → file_named tree.present name ≡ Some f → file_named tree.hidden name ≡ None
  hidden-none name f e = step (file_named tree.hidden name) refl
    where
      not-both : (b : Bool) → b ≡ true → not b ≡ true → ⊥
      not-both true h k = cc
      not-both false h k = cc

      step : (o : Option File) → file_named tree.hidden name ≡ o → o ≡ None
      step None k = refl
      step (Some h) k =
          let apart : not (list_any (same_file h) tree.present) ≡ true = found_in_all (is_named name) (λ (g : File). not (list_any (same_file g) tree.present)) tree.hidden h k t.others in
          let same : same_file h f ≡ true = both-named h f name (found-name tree.hidden name h k) (found-name tree.present name f e) in
          absurd (not-both (list_any (same_file h) tree.present) (any-of (same_file h) (is_named name) tree.present f e same) apart)

  pub present-none : (name : FileName) (f : File) → file_named tree.hidden name ≡ Some f → file_named tree.present name ≡ None
  present-none name f e = step (file_named tree.present name) refl
    where
      step : (o : Option File) → file_named tree.present name ≡ o → o ≡ None
      step None k = refl
      step (Some g) k = let no : Some f ≡ None = sym e ∙ hidden-none name g k in cc

  pub present-named : (name : FileName) (f : File) → file_named tree.present name ≡ Some f → file_named (all_held tree) name ≡ Some f
  present-named name f e =
      find-append (is_named name) tree.hidden tree.present
      ∙ (λ i. first_some (hidden-none name f e i) (e i))

  -- the one that stands at its path
  pub standing-named : (name : FileName) (f : File) → file_at tree.present name.path ≡ Some f → (f.generation == name.generation) ≡ true → file_named (all_held tree) name ≡ Some f
  standing-named name f e h =
      present-named name f
      (file_named-is name tree.present t.paths ∙ (ap (of_number name.generation) e ∙ ap (λ (b : Bool). cond b (Some f) None) h))

  number-some : (generation : ℕ) (o : Option File) (f : File) → Some f ≡ of_number generation o → is_some o ≡ true
  number-some generation None f e = cc
  number-some generation (Some g) f e = refl

  followed-some : (z s : Bool) → z ≡ true → (not z || s) ≡ true → s ≡ true
  followed-some true s e h = h
  followed-some false s e h = cc

  -- a path that had its first file has one that stands there
  pub first-followed : (name : FileName) → (name.generation == 0) ≡ true → is_held tree name ≡ true → is_some (file_at tree.present name.path) ≡ true
  first-followed name z h = step (file_named tree.hidden name) refl (file_named tree.present name) refl (sym (ap is_some (find-append (is_named name) tree.hidden tree.present)) ∙ h)
    where
      step : (o : Option File) → file_named tree.hidden name ≡ o → (p : Option File) → file_named tree.present name ≡ p → is_some (first_some o p) ≡ true → is_some (file_at tree.present name.path) ≡ true
      step (Some f) e p k g =
          let named : name_of_file f ≡ name = found-name tree.hidden name f e in
          let follows : is_followed tree.present f ≡ true = found_in_all (is_named name) (is_followed tree.present) tree.hidden f e t.followed in
          let zero : (f.generation == 0) ≡ true = ap (λ (n : FileName). n.generation == 0) named ∙ z in
          ap (λ (n : FileName). is_some (file_at tree.present n.path)) (sym named) ∙ followed-some (f.generation == 0) (is_some (file_at tree.present f.path)) zero follows
      step None e (Some f) k g = number-some name.generation (file_at tree.present name.path) f (sym k ∙ file_named-is name tree.present t.paths)
      step None e None k g = let no : false ≡ true = g in cc

-- ---- a file of a name that changes

module _ (name : FileName) (change : File → File) (path : (f : File) → (change f).path ≡ f.path) (number : (f : File) → (change f).generation ≡ f.generation) where
  abbrev changing_file : File → File
  changing_file f = cond (is_named name f) (change f) f

  changing-name : (f : File) → name_of_file (changing_file f) ≡ name_of_file f
  changing-name f = elim (is_named name f) as (λ b. name_of_file (cond b (change f) f) ≡ name_of_file f) [
    | true ↦ λ i. record { path = path f i; generation = number f i }
    | false ↦ refl
  ]

  found-changing : (n : FileName) (fs : List File) → find (λ (f : File). is_named n (changing_file f)) fs ≡ file_named fs n
  found-changing n [] = refl
  found-changing n (f ∷ fs) = λ i. cond (same_name (changing-name f i) n) (Some f) (found-changing n fs i)

  named-changing : (n : FileName) (fs : List File) → file_named (map changing_file fs) n ≡ option_map changing_file (file_named fs n)
  named-changing n fs = find-map (is_named n) changing_file fs ∙ ap (option_map changing_file) (found-changing n fs)

  module _ (tree : Held) (f : File) (here : file_named (all_held tree) name ≡ Some f) where
    pub changed-then : IsNamedThen (all_held tree) (all_held (change_held name change tree)) name name.generation (change f).bytes (change f).moment
    changed-then n =
        ap (λ (fs : List File). named_in fs n) (sym (map-append changing_file tree.hidden tree.present))
        ∙ (ap (option_map (named_of n)) (named-changing n (all_held tree)) ∙ at n (file_named (all_held tree) n) refl (same_name name n) refl)
      where
        at : (m : FileName) (o : Option File) → file_named (all_held tree) m ≡ o → (b : Bool) → same_name name m ≡ b →
            option_map (named_of m) (option_map changing_file o) ≡ cond b (Some (record { name = name; bytes = (change f).bytes; moment = (change f).moment })) (option_map (named_of m) o)
        at m o k true h =
            let same : name ≡ m = name-eq name m h in
            let found : o ≡ Some f = sym k ∙ (ap (file_named (all_held tree)) (sym same) ∙ here) in
            ap (λ (x : Option File). option_map (named_of m) (option_map changing_file x)) found
            ∙ (ap (λ (l : FileName). Some (named_of l (changing_file f))) (sym same)
            ∙ ap (λ (c : Bool). Some (named_of name (cond c (change f) f))) (found_passes (is_named name) (all_held tree) f here))
        at m None k false h = refl
        at m (Some g) k false h =
            let named : name_of_file g ≡ m = found-name (all_held tree) m g k in
            let other : is_named name g ≡ false = ap (λ (l : FileName). same_name l name) named ∙ (name-turned m name ∙ h) in
            ap (λ (c : Bool). Some (named_of m (cond c (change g) g))) other

-- ---- a file more, by a name that no file had

pub find-put_file : (p : File → Bool) (new : File) (fs : List File) → (p new ≡ true → find p fs ≡ None) → find p (put_file new fs) ≡ cond (p new) (Some new) (find p fs)
find-put_file p new [] h = refl
find-put_file p new (f ∷ fs) h = step (is_lt (path_order new.path f.path)) (find-put_file p new fs (λ k. rest (p f) (h k)))
  where
    rest : (b : Bool) → cond b (Some f) (find p fs) ≡ None → find p fs ≡ None
    rest true e = cc
    rest false e = e

    swap : (a b : Bool) → p f ≡ a → p new ≡ b → cond a (Some f) (cond b (Some new) (find p fs)) ≡ cond b (Some new) (cond a (Some f) (find p fs))
    swap true true e k =
        let no : cond true (Some f) (find p fs) ≡ None = ap (λ (c : Bool). cond c (Some f) (find p fs)) (sym e) ∙ h k in
        cc
    swap true false e k = refl
    swap false true e k = refl
    swap false false e k = refl

    step : (b : Bool) → find p (put_file new fs) ≡ cond (p new) (Some new) (find p fs) → find p (cond b (new ∷ f ∷ fs) (f ∷ put_file new fs)) ≡ cond (p new) (Some new) (find p (f ∷ fs))
    step true m = refl
    step false m = ap (λ (o : Option File). cond (p f) (Some f) o) m ∙ swap (p f) (p new) refl refl

module _ (hs ps : List File) (new : File) (none : file_named (hs ++ ps) (name_of_file new) ≡ None) where
  none-of : (n : FileName) → is_named n new ≡ true → (file_named hs n ≡ None) × (file_named ps n ≡ None)
  none-of n h =
      let same : name_of_file new ≡ n = name-eq (name_of_file new) n h in
      none-parts (file_named hs n) (file_named ps n) (sym (find-append (is_named n) hs ps) ∙ (ap (file_named (hs ++ ps)) (sym same) ∙ none))

  abbrev IsMore : List File → Type 0
  IsMore more = IsNamedThen (hs ++ ps) more (name_of_file new) new.generation new.bytes new.moment

  more-by : (more : List File) → ((n : FileName) → file_named more n ≡ cond (is_named n new) (Some new) (file_named (hs ++ ps) n)) → IsMore more
  more-by more e n = ap (option_map (named_of n)) (e n) ∙ step (is_named n new) refl
    where
      step : (b : Bool) → is_named n new ≡ b →
          option_map (named_of n) (cond b (Some new) (file_named (hs ++ ps) n)) ≡ cond b (Some (record { name = name_of_file new; bytes = new.bytes; moment = new.moment })) (named_in (hs ++ ps) n)
      step true h = ap (λ (m : FileName). Some (named_of m new)) (sym (name-eq (name_of_file new) n h))
      step false h = refl

  pub put-then : IsMore (hs ++ put_file new ps)
  put-then = more-by (hs ++ put_file new ps) (λ n.
      find-append (is_named n) hs (put_file new ps)
      ∙ (ap (first_some (file_named hs n)) (find-put_file (is_named n) new ps (λ h. (none-of n h).1))
      ∙ (either n (is_named n new) refl (file_named ps n) ∙ ap (λ (o : Option File). cond (is_named n new) (Some new) o) (sym (find-append (is_named n) hs ps)))))
    where
      either : (n : FileName) (b : Bool) → is_named n new ≡ b → (q : Option File) → first_some (file_named hs n) (cond b (Some new) q) ≡ cond b (Some new) (first_some (file_named hs n) q)
      either n true h q = ap (λ (o : Option File). first_some o (Some new)) (none-of n h).0
      either n false h q = refl

  pub added-then : IsMore ((hs ++ new ∷ []) ++ ps)
  added-then = more-by ((hs ++ new ∷ []) ++ ps) (λ n.
      find-append (is_named n) (hs ++ new ∷ []) ps
      ∙ (ap (λ (o : Option File). first_some o (file_named ps n)) (find-append (is_named n) hs (new ∷ []))
      ∙ (either n (is_named n new) refl (file_named hs n) refl ∙ ap (λ (o : Option File). cond (is_named n new) (Some new) o) (sym (find-append (is_named n) hs ps)))))
    where
      either : (n : FileName) (b : Bool) → is_named n new ≡ b → (o : Option File) → file_named hs n ≡ o →
          first_some (first_some o (cond b (Some new) None)) (file_named ps n) ≡ cond b (Some new) (first_some o (file_named ps n))
      either n true h None e = refl
      either n true h (Some f) e = let no : Some f ≡ None = sym e ∙ (none-of n h).0 in cc
      either n false h None e = refl
      either n false h (Some f) e = refl

-- ---- a file that becomes the present one of its path

module _ (p q : File → Bool) (former : File) where
  abbrev replaced : List File → List File
  replaced fs = map (λ (f : File). cond (q f) former f) fs

  -- where the one that comes passes, and none of the others does
  replaced-some : (fs : List File) → p former ≡ true → find p fs ≡ None → list_any q fs ≡ true → find p (replaced fs) ≡ Some former
  replaced-some [] h n e = cc
  replaced-some (f ∷ fs) h n e = step (q f) e (replaced-some fs h (behind (p f) n))
    where
      behind : (c : Bool) → cond c (Some f) (find p fs) ≡ None → find p fs ≡ None
      behind true x = cc
      behind false x = x

      not_first : (c : Bool) → cond c (Some f) (find p fs) ≡ None → c ≡ false
      not_first true x = cc
      not_first false x = refl

      step : (a : Bool) → (a || list_any q fs) ≡ true → (list_any q fs ≡ true → find p (replaced fs) ≡ Some former) →
          cond (p (cond a former f)) (Some (cond a former f)) (find p (replaced fs)) ≡ Some former
      step true k rest = ap (λ (c : Bool). cond c (Some former) (find p (replaced fs))) h
      step false k rest = ap (λ (c : Bool). cond c (Some f) (find p (replaced fs))) (not_first (p f) n) ∙ rest k

  -- where it does not pass
  replaced-other : (fs : List File) → p former ≡ false → find p (replaced fs) ≡ find (λ (f : File). not (q f) && p f) fs
  replaced-other [] h = refl
  replaced-other (f ∷ fs) h = step (q f) (replaced-other fs h)
    where
      step : (a : Bool) → find p (replaced fs) ≡ find (λ (g : File). not (q g) && p g) fs →
          cond (p (cond a former f)) (Some (cond a former f)) (find p (replaced fs)) ≡ cond (not a && p f) (Some f) (find (λ (g : File). not (q g) && p g) fs)
      step true m = ap (λ (c : Bool). cond c (Some former) (find p (replaced fs))) h ∙ m
      step false m = ap (λ (o : Option File). cond (p f) (Some f) o) m

find-same : (p q : File → Bool) (fs : List File) → ((f : File) → p f ≡ q f) → find p fs ≡ find q fs
find-same p q [] e = refl
find-same p q (f ∷ fs) e = λ i. cond (e f i) (Some f) (find-same p q fs e i)

find-never : (p : File → Bool) (fs : List File) → ((f : File) → p f ≡ false) → find p fs ≡ None
find-never p [] e = refl
find-never p (f ∷ fs) e = ap (λ (b : Bool). cond b (Some f) (find p fs)) (e f) ∙ find-never p fs e

any-found : (p : File → Bool) (fs : List File) (f : File) → find p fs ≡ Some f → list_any p fs ≡ true
any-found p [] f e = cc
any-found p (g ∷ fs) f e = step (p g) e (any-found p fs f)
  where
    step : (b : Bool) → cond b (Some g) (find p fs) ≡ Some f → (find p fs ≡ Some f → list_any p fs ≡ true) → (b || list_any p fs) ≡ true
    step true h more = refl
    step false h more = more h

module _ (tree : Held) (t : SoundTree tree) (name : FileName) where
  -- what is found there was found before
  module _ (f : File) (hidden_is : file_named tree.hidden name ≡ Some f) where
    f-name : name_of_file f ≡ name
    f-name = found-name tree.hidden name f hidden_is

    named-f : (n : FileName) → is_named n f ≡ same_name name n
    named-f n = ap (λ (m : FileName). same_name m n) f-name

    all-is : (n : FileName) → file_named (all_held tree) n ≡ first_some (file_named tree.hidden n) (file_named tree.present n)
    all-is n = find-append (is_named n) tree.hidden tree.present

    -- a path that has no present file
    left-hidden : (n : FileName) → file_named (without_named name tree.hidden) n ≡ cond (not (same_name n name)) (file_named tree.hidden n) None
    left-hidden n = find-filter (is_named n) (λ (g : File). not (is_named name g)) (not (same_name n name)) (λ g h. ap (λ (m : FileName). not (same_name m name)) (name-eq (name_of_file g) n h)) tree.hidden

    put-present : file_at tree.present name.path ≡ None → (n : FileName) → file_named (put_file f tree.present) n ≡ cond (same_name name n) (Some f) (file_named tree.present n)
    put-present k n =
        find-put_file (is_named n) f tree.present (λ h.
        ap (file_named tree.present) (sym (name-eq (name_of_file f) n h) ∙ f-name)
        ∙ (file_named-is name tree.present t.paths ∙ ap (of_number name.generation) k))
        ∙ ap (λ (b : Bool). cond b (Some f) (file_named tree.present n)) (named-f n)

    at-missing : file_at tree.present name.path ≡ None → (n : FileName) → file_named (without_named name tree.hidden ++ put_file f tree.present) n ≡ file_named (all_held tree) n
    at-missing k n =
        find-append (is_named n) (without_named name tree.hidden) (put_file f tree.present)
        ∙ ((λ i. first_some (left-hidden n i) (put-present k n i))
        ∙ (step (same_name n name) (same_name name n) refl refl ∙ sym (all-is n)))
      where
        step : (a b : Bool) → same_name n name ≡ a → same_name name n ≡ b →
            first_some (cond (not a) (file_named tree.hidden n) None) (cond b (Some f) (file_named tree.present n)) ≡ first_some (file_named tree.hidden n) (file_named tree.present n)
        step true true e h = ap (λ (o : Option File). first_some o (file_named tree.present n)) (sym (ap (file_named tree.hidden) (name-eq n name e) ∙ hidden_is))
        step true false e h = let no : true ≡ false = sym e ∙ (name-turned n name ∙ h) in cc
        step false true e h = let no : true ≡ false = sym h ∙ (name-turned name n ∙ e) in cc
        step false false e h = refl

    -- a path that has one
    module _ (former : File) (present_is : file_at tree.present name.path ≡ Some former) where
      former-path : former.path ≡ name.path
      former-path = is_same-eq former.path name.path (found_passes (λ (g : File). is_same g.path name.path) tree.present former present_is)

      abbrev hidden_then : FileName → Option File
      hidden_then n = file_named (change_named name (λ (g : File). former) tree.hidden) n

      abbrev present_then : FileName → Option File
      present_then n = file_named (in_place name.path f tree.present) n

      -- of other names
      hidden-other : (n : FileName) → same_name n name ≡ false → is_named n former ≡ false → hidden_then n ≡ file_named tree.hidden n
      hidden-other n e h =
          replaced-other (is_named n) (is_named name) former tree.hidden h
          ∙ find-same (λ (g : File). not (is_named name g) && is_named n g) (is_named n) tree.hidden (λ g. one g (is_named n g) refl)
        where
          and-false : (b : Bool) → (b && false) ≡ false
          and-false true = refl
          and-false false = refl

          one : (g : File) (b : Bool) → is_named n g ≡ b → (not (is_named name g) && b) ≡ b
          one g true k = ap (λ (m : FileName). not (same_name m name) && true) (name-eq (name_of_file g) n k) ∙ ap (λ (c : Bool). not c && true) e
          one g false k = and-false (not (is_named name g))

      present-other : (n : FileName) → same_name name n ≡ false → present_then n ≡ cond (is_same n.path name.path) None (file_named tree.present n)
      present-other n e =
          replaced-other (is_named n) (λ (g : File). is_same g.path name.path) f tree.present (named-f n ∙ e)
          ∙ step (is_same n.path name.path) refl
        where
          and-false : (b : Bool) → (b && false) ≡ false
          and-false true = refl
          and-false false = refl

          one : (c : Bool) → is_same n.path name.path ≡ c → (g : File) (b : Bool) → is_named n g ≡ b → (not (is_same g.path name.path) && b) ≡ (not c && b)
          one c h g true k = ap (λ (m : FileName). not (is_same m.path name.path) && true) (name-eq (name_of_file g) n k) ∙ ap (λ (d : Bool). not d && true) h
          one c h g false k = and-false (not (is_same g.path name.path)) ∙ sym (and-false (not c))

          step : (c : Bool) → is_same n.path name.path ≡ c → find (λ (g : File). not (is_same g.path name.path) && is_named n g) tree.present ≡ cond c None (file_named tree.present n)
          step true h = find-never (λ (g : File). not (is_same g.path name.path) && is_named n g) tree.present (λ g. one true h g (is_named n g) refl)
          step false h = find-same (λ (g : File). not (is_same g.path name.path) && is_named n g) (is_named n) tree.present (λ g. one false h g (is_named n g) refl)

      -- of the name itself
      former-apart : is_named name former ≡ false
      former-apart = step (is_named name former) refl
        where
          step : (b : Bool) → is_named name former ≡ b → b ≡ false
          step true k =
              let generation : (former.generation == name.generation) ≡ true = ap (λ (b : Bool). b && former.generation == name.generation) (sym (ap (λ (q : List ℕ). is_same q name.path) former-path ∙ is_same-refl name.path)) ∙ k in
              let there : file_named tree.present name ≡ Some former = file_named-is name tree.present t.paths ∙ (ap (of_number name.generation) present_is ∙ ap (λ (b : Bool). cond b (Some former) None) generation) in
              let no : Some former ≡ None = sym there ∙ present-none tree t name f hidden_is in
              cc
          step false k = refl

      hidden-itself : hidden_then name ≡ None
      hidden-itself =
          replaced-other (is_named name) (is_named name) former tree.hidden former-apart
          ∙ find-never (λ (g : File). not (is_named name g) && is_named name g) tree.hidden (λ g. never (is_named name g))
        where
          never : (b : Bool) → (not b && b) ≡ false
          never true = refl
          never false = refl

      present-itself : present_then name ≡ Some f
      present-itself =
          replaced-some (is_named name) (λ (g : File). is_same g.path name.path) f tree.present (named-f name ∙ name-itself name) (present-none tree t name f hidden_is)
          (any-found (λ (g : File). is_same g.path name.path) tree.present former present_is)

      -- of the name of the one that stood there
      hidden-former : (n : FileName) → is_named n former ≡ true → (file_named tree.present n ≡ Some former) × (hidden_then n ≡ Some former)
      hidden-former n h =
          let named : name_of_file former ≡ n = name-eq (name_of_file former) n h in
          let there : file_named tree.present n ≡ Some former =
          ap (file_named tree.present) (sym named)
          ∙ (file_named-is (name_of_file former) tree.present t.paths
          ∙ (ap (of_number former.generation) (ap (file_at tree.present) former-path ∙ present_is)
          ∙ ap (λ (b : Bool). cond b (Some former) None) (generation-itself former.generation))) in
          (there, replaced-some (is_named n) (is_named name) former tree.hidden h (hidden-none tree t n former there) (any-found (is_named name) tree.hidden f hidden_is))
        where
          generation-itself : (g : ℕ) → (g == g) ≡ true
          generation-itself g = numbers.itself g

      at-present : (n : FileName) → file_named (change_named name (λ (g : File). former) tree.hidden ++ in_place name.path f tree.present) n ≡ file_named (all_held tree) n
      at-present n =
          find-append (is_named n) (change_named name (λ (g : File). former) tree.hidden) (in_place name.path f tree.present)
          ∙ (step (same_name n name) refl (is_named n former) refl ∙ sym (all-is n))
        where
          none-there : is_named n former ≡ false → (b : Bool) → is_same n.path name.path ≡ b → cond b None (file_named tree.present n) ≡ file_named tree.present n
          none-there h true k =
              let path : former.path ≡ n.path = former-path ∙ sym (is_same-eq n.path name.path k) in
              let other : (former.generation == n.generation) ≡ false = ap (λ (b : Bool). b && former.generation == n.generation) (sym (ap (λ (q : List ℕ). is_same q n.path) path ∙ is_same-refl n.path)) ∙ h in
              sym (file_named-is n tree.present t.paths
              ∙ (ap (of_number n.generation) (ap (file_at tree.present) (is_same-eq n.path name.path k) ∙ present_is)
              ∙ ap (λ (b : Bool). cond b (Some former) None) other))
          none-there h false k = refl

          step : (a : Bool) → same_name n name ≡ a → (b : Bool) → is_named n former ≡ b → first_some (hidden_then n) (present_then n) ≡ first_some (file_named tree.hidden n) (file_named tree.present n)
          step true e b h =
              let same : n ≡ name = name-eq n name e in
              ap (λ (m : FileName). first_some (hidden_then m) (present_then m)) same
              ∙ ((λ i. first_some (hidden-itself i) (present-itself i))
              ∙ ap (λ (o : Option File). first_some o (file_named tree.present n)) (sym (ap (file_named tree.hidden) same ∙ hidden_is)))
          step false e true h =
              let is : (file_named tree.present n ≡ Some former) × (hidden_then n ≡ Some former) = hidden-former n h in
              ap (λ (o : Option File). first_some o (present_then n)) is.1
              ∙ (λ i. first_some (sym (hidden-none tree t n former is.0) i) (sym is.0 i))
          step false e false h =
              λ i. first_some (hidden-other n e h i) ((present-other n (name-turned name n ∙ e) ∙ none-there h (is_same n.path name.path) refl) i)

  turned-by : (o former : Option File) → file_named tree.hidden name ≡ o → file_at tree.present name.path ≡ former → (n : FileName) → file_named (all_held (turned_to name o former tree)) n ≡ file_named (all_held tree) n
  turned-by None former e k n = refl
  turned-by (Some f) None e k n = at-missing f e k n
  turned-by (Some f) (Some former) e k n = at-present f e former k n

  -- each name finds the file that it found
  pub turned-named : (n : FileName) → file_named (all_held (turned name tree)) n ≡ file_named (all_held tree) n
  turned-named n = turned-by (file_named tree.hidden name) (file_at tree.present name.path) refl refl n
