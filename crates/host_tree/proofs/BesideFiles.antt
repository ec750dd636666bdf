-- The files beside the present ones: each call leaves them apart from these, and from each other.
use Rattle.std.proofs.Common.{◌≡◌, ℕ, ◌==◌, List, [], ◌∷◌, ◌++◌, Bool, true, false, not, ◌&&◌, ◌||◌, cond, Option, Some, None, is_some, refl, sym, ap, subst, ◌∙◌, ◌⊎◌, ⊎_elim, inl, inr, arith}
use Rattle.std.proofs.lemmas.Bool.Decides.{nat_tests}
use mathlib.Core.Bool.{true≢false}
use Rattle.std.specs.List.{list_any}
use Rattle.std.specs.Ordering.{is_lt}
use Rattle.portal_base.specs.Names.{is_same, parent_of, root}
use Rattle.portal_base.specs.PathOrder.{path_order}
use Rattle.portal_base.specs.Content.{file_at, file_named, has_room, is_above, is_folder, is_named, paths_of}
use Rattle.portal_base.specs.FileChanges.{change_named, put_file, resized, written}
use Rattle.file_generations.specs.Generations.{Held, held_with, in_place, name_of_file, turned, turned_to, without_named}
use Rattle.portal_base.specs.declared.files.File.{File}
use Rattle.portal_base.specs.declared.files.FileName.{FileName}
use Rattle.portal_base.proofs.PathsAbove.{any-paths, any-put, both}
use Rattle.host_tree.specs.Trees.{DoesHeld, change_first, has_file, without_first}
use Rattle.host_tree.specs.Beside.{AreBeside, AreHeld, are_apart}
use Rattle.host_tree.specs.declared.tree.TreeDone.{TreeDone}
use Rattle.host_tree.specs.declared.tree.TreeDone.TheVariants as done
use Rattle.host_tree.proofs.Entries.{same-is, same-itself}

-- ---- tests

pub not-true : (b : Bool) → not b ≡ true → b ≡ false
not-true true e = absurd (cc)
not-true false e = refl

false-not : (b : Bool) → b ≡ false → not b ≡ true
false-not true e = absurd (cc)
false-not false e = refl

never : (b : Bool) → (b ≡ true → ⊥) → b ≡ false
never true h = absurd (h refl)
never false h = refl

pub either : (a b : Bool) → (a || b) ≡ true → (a ≡ true) ⊎ (b ≡ true)
either true b e = inl refl
either false b e = inr e

pub neither : (a b : Bool) → (a || b) ≡ false → (a ≡ false) × (b ≡ false)
neither true b e = absurd (cc)
neither false b e = (refl, e)

or-behind : (a b : Bool) → b ≡ true → (a || b) ≡ true
or-behind true b e = refl
or-behind false b e = e

or-between : (a b c : Bool) → (a || c) ≡ true → (a || (b || c)) ≡ true
or-between true b c e = refl
or-between false b c e = or-behind b c e

or-swap : (a b c : Bool) → (a || (b || c)) ≡ (b || (a || c))
or-swap true true c = refl
or-swap true false c = refl
or-swap false true c = refl
or-swap false false c = refl

same-number : (a b : ℕ) → (a == b) ≡ true → a ≡ b
same-number a b e = grind (arith, nat_tests)

number-itself : (a : ℕ) → (a == a) ≡ true
number-itself a = grind (arith, nat_tests)

-- ---- names

abbrev named_by : FileName → FileName → Bool
named_by m n = is_same n.path m.path && n.generation == m.generation

pub named-is : (m : FileName) (f : File) → is_named m f ≡ true → name_of_file f ≡ m
named-is m f e =
    let b = both (is_same f.path m.path) (f.generation == m.generation) e in
    let path : f.path ≡ m.path = same-is f.path m.path b.0 in
    let generation : f.generation ≡ m.generation = same-number f.generation m.generation b.1 in
    λ i. record { path = path i; generation = generation i }

named-itself : (f : File) → is_named (name_of_file f) f ≡ true
named-itself f = λ i. same-itself f.path i && number-itself f.generation i

has-more : (b : Bool) (f : File) (o : Option File) → is_some (cond b (Some f) o) ≡ (b || is_some o)
has-more true f o = refl
has-more false f o = refl

-- whether a file has the name, by the first and by the others
pub has-next : (m : FileName) (f : File) (fs : List File) → has_file m (f ∷ fs) ≡ (is_named m f || has_file m fs)
has-next m f fs = has-more (is_named m f) f (file_named fs m)

has-behind : (m : FileName) (f : File) (fs : List File) → has_file m fs ≡ true → has_file m (f ∷ fs) ≡ true
has-behind m f fs e = has-next m f fs ∙ or-behind (is_named m f) (has_file m fs) e

has-first : (m : FileName) (f : File) (fs : List File) → name_of_file f ≡ m → has_file m (f ∷ fs) ≡ true
has-first m f fs e =
    has-next m f fs
    ∙ ap (λ (b : Bool). b || has_file m fs) (subst (λ (n : FileName). is_named n f ≡ true) e (named-itself f))

pub has-appended : (m : FileName) (xs ys : List File) → has_file m (xs ++ ys) ≡ (has_file m xs || has_file m ys)
has-appended m [] ys = refl
has-appended m (x ∷ xs) ys =
    has-next m x (xs ++ ys)
    ∙ (ap (λ (b : Bool). is_named m x || b) (has-appended m xs ys)
    ∙ (turn (is_named m x) (has_file m xs) (has_file m ys) ∙ ap (λ (b : Bool). b || has_file m ys) (sym (has-next m x xs))))
  where
    turn : (a b c : Bool) → (a || (b || c)) ≡ ((a || b) || c)
    turn true b c = refl
    turn false b c = refl

-- ---- files of which none has the name

pub unchanged-none : (n : FileName) (change : File → File) (fs : List File) → has_file n fs ≡ false → change_named n change fs ≡ fs
unchanged-none n change [] e = refl
unchanged-none n change (f ∷ fs) e =
    let none = neither (is_named n f) (has_file n fs) (sym (has-next n f fs) ∙ e) in
    let rest : change_named n change fs ≡ fs = unchanged-none n change fs none.1 in
    λ i. cond (none.0 i) (change f) f ∷ rest i

without-none : (n : FileName) (fs : List File) → has_file n fs ≡ false → without_named n fs ≡ fs
without-none n [] e = refl
without-none n (f ∷ fs) e =
    let none = neither (is_named n f) (has_file n fs) (sym (has-next n f fs) ∙ e) in
    ap (λ (b : Bool). cond (not b) (f ∷ without_named n fs) (without_named n fs)) none.0
    ∙ ap (λ (gs : List File). f ∷ gs) (without-none n fs none.1)

-- ---- where names differ, the first of a name is the only one

head-alone : (f : File) (fs : List File) → are_apart (f ∷ fs) ≡ true → (has_file (name_of_file f) fs ≡ false) × (are_apart fs ≡ true)
head-alone f fs a =
    let b = both (not (has_file (name_of_file f) fs)) (are_apart fs) a in
    (not-true (has_file (name_of_file f) fs) b.0, b.1)

none-behind-named : (n : FileName) (f : File) (fs : List File) → are_apart (f ∷ fs) ≡ true → is_named n f ≡ true → has_file n fs ≡ false
none-behind-named n f fs a k = ap (λ (m : FileName). has_file m fs) (sym (named-is n f k)) ∙ (head-alone f fs a).0

pub first-is-all : (n : FileName) (change : File → File) (fs : List File) → are_apart fs ≡ true → change_first n change fs ≡ change_named n change fs
first-is-all n change [] a = refl
first-is-all n change (f ∷ fs) a = step (is_named n f) refl (first-is-all n change fs (head-alone f fs a).1)
  where
    step : (b : Bool) → is_named n f ≡ b → change_first n change fs ≡ change_named n change fs
        → cond b (change f ∷ fs) (f ∷ change_first n change fs) ≡ cond b (change f) f ∷ change_named n change fs
    step true k more = ap (λ (gs : List File). change f ∷ gs) (sym (unchanged-none n change fs (none-behind-named n f fs a k)))
    step false k more = ap (λ (gs : List File). f ∷ gs) more

pub first-is-without : (n : FileName) (fs : List File) → are_apart fs ≡ true → without_first n fs ≡ without_named n fs
first-is-without n [] a = refl
first-is-without n (f ∷ fs) a = step (is_named n f) refl (first-is-without n fs (head-alone f fs a).1)
  where
    step : (b : Bool) → is_named n f ≡ b → without_first n fs ≡ without_named n fs
        → cond b fs (f ∷ without_first n fs) ≡ cond (not b) (f ∷ without_named n fs) (without_named n fs)
    step true k more = sym (without-none n fs (none-behind-named n f fs a k))
    step false k more = ap (λ (gs : List File). f ∷ gs) more

-- ---- what paths tell

pub folder-by : (fs : List File) (p : List ℕ) → is_folder fs p ≡ (is_same p root || list_any (is_above p) (paths_of fs))
folder-by fs p = ap (λ (b : Bool). is_same p root || b) (any-paths (is_above p) fs)

room-same : (fs gs : List File) (p : List ℕ) → paths_of fs ≡ paths_of gs → has_room fs p ≡ has_room gs p
room-same fs gs p e =
    folder-by fs (parent_of p)
    ∙ (ap (λ (ps : List (List ℕ)). is_same (parent_of p) root || list_any (is_above (parent_of p)) ps) e ∙ sym (folder-by gs (parent_of p)))

room-put : (f : File) (fs : List File) (p : List ℕ) → has_room fs p ≡ true → has_room (put_file f fs) p ≡ true
room-put f fs p e =
    let above = is_above (parent_of p) in
    folder-by (put_file f fs) (parent_of p)
    ∙ (ap (λ (b : Bool). is_same (parent_of p) root || b) (any-put above f fs)
    ∙ or-between (is_same (parent_of p) root) (above f.path) (list_any above (paths_of fs)) (sym (folder-by fs (parent_of p)) ∙ e))

path-there : (fs : List File) (p : List ℕ) → is_some (file_at fs p) ≡ list_any (λ q. is_same q p) (paths_of fs)
path-there [] p = refl
path-there (f ∷ fs) p = has-more (is_same f.path p) f (file_at fs p) ∙ ap (λ (b : Bool). is_same f.path p || b) (path-there fs p)

path-put : (f : File) (fs : List File) (p : List ℕ) → is_some (file_at fs p) ≡ true → is_some (file_at (put_file f fs) p) ≡ true
path-put f fs p e =
    path-there (put_file f fs) p
    ∙ (any-put (λ q. is_same q p) f fs ∙ or-behind (is_same f.path p) (list_any (λ q. is_same q p) (paths_of fs)) (sym (path-there fs p) ∙ e))

path-same : (fs gs : List File) (p : List ℕ) → paths_of fs ≡ paths_of gs → is_some (file_at fs p) ≡ is_some (file_at gs p)
path-same fs gs p e = path-there fs p ∙ (ap (λ (ps : List (List ℕ)). list_any (λ q. is_same q p) ps) e ∙ sym (path-there gs p))

-- ---- none yet

pub none-beside : (present : List File) → AreBeside present []
none-beside present = record {
  apart = refl;
  beside = λ n e. absurd (cc);
  room = λ n e. absurd (cc);
  followed = λ n e z. absurd (cc);
}

-- ---- a change that keeps names

abbrev pub Keeps : (File → File) → Type 0
Keeps change = (f : File) → name_of_file (change f) ≡ name_of_file f

kept-name : (change : File → File) → Keeps change → (b : Bool) (f : File) → name_of_file (cond b (change f) f) ≡ name_of_file f
kept-name change k true f = k f
kept-name change k false f = refl

has-changed : (n : FileName) (change : File → File) → Keeps change → (m : FileName) (fs : List File) → has_file m (change_named n change fs) ≡ has_file m fs
has-changed n change k m [] = refl
has-changed n change k m (f ∷ fs) =
    let one : is_named m (cond (is_named n f) (change f) f) ≡ is_named m f = ap (named_by m) (kept-name change k (is_named n f) f) in
    let rest : has_file m (change_named n change fs) ≡ has_file m fs = has-changed n change k m fs in
    has-next m (cond (is_named n f) (change f) f) (change_named n change fs) ∙ ((λ i. one i || rest i) ∙ sym (has-next m f fs))

paths-changed : (n : FileName) (change : File → File) → Keeps change → (fs : List File) → paths_of (change_named n change fs) ≡ paths_of fs
paths-changed n change k [] = refl
paths-changed n change k (f ∷ fs) =
    let one : name_of_file (cond (is_named n f) (change f) f) ≡ name_of_file f = kept-name change k (is_named n f) f in
    let rest : paths_of (change_named n change fs) ≡ paths_of fs = paths-changed n change k fs in
    λ i. (one i).path ∷ rest i

apart-changed : (n : FileName) (change : File → File) → Keeps change → (fs : List File) → are_apart (change_named n change fs) ≡ are_apart fs
apart-changed n change k [] = refl
apart-changed n change k (f ∷ fs) =
    let one : name_of_file (cond (is_named n f) (change f) f) ≡ name_of_file f = kept-name change k (is_named n f) f in
    let rest : are_apart (change_named n change fs) ≡ are_apart fs = apart-changed n change k fs in
    (λ i. not (has_file (one i) (change_named n change fs)) && rest i)
    ∙ ap (λ (b : Bool). not b && are_apart fs) (has-changed n change k (name_of_file f) fs)

pub beside-changed : (n : FileName) (change : File → File) → Keeps change → (present hidden : List File) → AreBeside present hidden → AreBeside (change_named n change present) (change_named n change hidden)
beside-changed n change k present hidden a = record {
  apart = apart-changed n change k hidden ∙ a.apart;
  beside = λ m e. has-changed n change k m present ∙ a.beside m (was m e);
  room = λ m e. room-same (change_named n change present) present m.path paths ∙ a.room m (was m e);
  followed = λ m e z. path-same (change_named n change present) present m.path paths ∙ a.followed m (was m e) z;
}
  where
    was : (m : FileName) → has_file m (change_named n change hidden) ≡ true → has_file m hidden ≡ true
    was m e = sym (has-changed n change k m hidden) ∙ e

    paths : paths_of (change_named n change present) ≡ paths_of present
    paths = paths-changed n change k present

-- ---- a file more beside the present ones

apart-added : (f : File) (hs : List File) → are_apart hs ≡ true → has_file (name_of_file f) hs ≡ false → are_apart (hs ++ f ∷ []) ≡ true
apart-added f [] a e = refl
apart-added f (h ∷ hs) a e =
    let own = head-alone h hs a in
    let none = neither (is_named (name_of_file f) h) (has_file (name_of_file f) hs) (sym (has-next (name_of_file f) h hs) ∙ e) in
    let other : is_named (name_of_file h) f ≡ false =
    never (is_named (name_of_file h) f)
    (λ k. true≢false (sym (subst (λ (m : FileName). is_named m h ≡ true) (sym (named-is (name_of_file h) f k)) (named-itself h)) ∙ none.0)) in
    let alone : has_file (name_of_file h) (hs ++ f ∷ []) ≡ false =
    has-appended (name_of_file h) hs (f ∷ []) ∙ ((λ i. own.0 i || has_file (name_of_file h) (f ∷ [])) ∙ (has-next (name_of_file h) f [] ∙ ap (λ (b : Bool). b || false) other)) in
    (λ i. false-not (has_file (name_of_file h) (hs ++ f ∷ [])) alone i && are_apart (hs ++ f ∷ [])) ∙ apart-added f hs own.1 none.1

pub beside-added : (f : File) (present hidden : List File) → AreBeside present hidden → has_file (name_of_file f) hidden ≡ false → has_file (name_of_file f) present ≡ false
    → has_room present f.path ≡ true → (f.generation ≡ 0 → ⊥) → AreBeside present (hidden ++ f ∷ [])
beside-added f present hidden a none free room new = record {
  apart = apart-added f hidden a.apart none;
  beside = λ m e. ⊎_elim (a.beside m) (λ k. subst (λ (n : FileName). has_file n present ≡ false) k free) (was m e);
  room = λ m e. ⊎_elim (a.room m) (λ k. subst (λ (n : FileName). has_room present n.path ≡ true) k room) (was m e);
  followed = λ m e z. ⊎_elim (λ k. a.followed m k z) (λ k. absurd (new (ap (λ (n : FileName). n.generation) k ∙ z))) (was m e);
}
  where
    last : (m : FileName) → has_file m (f ∷ []) ≡ true → name_of_file f ≡ m
    last m e = ⊎_elim (named-is m f) (λ k. absurd (true≢false (sym k))) (either (is_named m f) false (sym (has-next m f []) ∙ e))

    was : (m : FileName) → has_file m (hidden ++ f ∷ []) ≡ true → (has_file m hidden ≡ true) ⊎ (name_of_file f ≡ m)
    was m e = ⊎_elim (λ k. inl k) (λ k. inr (last m k)) (either (has_file m hidden) (has_file m (f ∷ [])) (sym (has-appended m hidden (f ∷ [])) ∙ e))

-- ---- a file more that is present

pub has-put : (m : FileName) (f : File) (fs : List File) → has_file m (put_file f fs) ≡ (is_named m f || has_file m fs)
has-put m f [] = has-next m f []
has-put m f (g ∷ gs) = step (is_lt (path_order f.path g.path)) (has-put m f gs)
  where
    step : (b : Bool) → has_file m (put_file f gs) ≡ (is_named m f || has_file m gs) → has_file m (cond b (f ∷ g ∷ gs) (g ∷ put_file f gs)) ≡ (is_named m f || has_file m (g ∷ gs))
    step true more = has-next m f (g ∷ gs)
    step false more =
        has-next m g (put_file f gs)
        ∙ (ap (λ (b : Bool). is_named m g || b) more
        ∙ (or-swap (is_named m g) (is_named m f) (has_file m gs) ∙ ap (λ (b : Bool). is_named m f || b) (sym (has-next m g gs))))

pub beside-put : (f : File) (present hidden : List File) → AreBeside present hidden → has_file (name_of_file f) hidden ≡ false → AreBeside (put_file f present) hidden
beside-put f present hidden a none = record {
  apart = a.apart;
  beside = λ m e.
      let other : is_named m f ≡ false = never (is_named m f) (λ k. true≢false (sym e ∙ (ap (λ (n : FileName). has_file n hidden) (sym (named-is m f k)) ∙ none))) in
      has-put m f present ∙ (λ i. other i || a.beside m e i);
  room = λ m e. room-put f present m.path (a.room m e);
  followed = λ m e z. path-put f present m.path (a.followed m e z);
}

-- the first file of a path lies nowhere beside, where the path has none
pub first-is-new : (f : File) (present hidden : List File) → AreBeside present hidden → f.generation ≡ 0 → file_at present f.path ≡ None → has_file (name_of_file f) hidden ≡ false
first-is-new f present hidden a z none =
    never (has_file (name_of_file f) hidden) (λ k. true≢false (sym (a.followed (name_of_file f) k z) ∙ ap is_some none))

-- ---- a file that becomes present where its path has none

none-without : (n m : FileName) (fs : List File) → has_file m fs ≡ false → has_file m (without_named n fs) ≡ false
none-without n m [] e = refl
none-without n m (f ∷ fs) e = step (is_named n f) (none-without n m fs none.1)
  where
    none : (is_named m f ≡ false) × (has_file m fs ≡ false)
    none = neither (is_named m f) (has_file m fs) (sym (has-next m f fs) ∙ e)

    step : (b : Bool) → has_file m (without_named n fs) ≡ false → has_file m (cond (not b) (f ∷ without_named n fs) (without_named n fs)) ≡ false
    step true more = more
    step false more = has-next m f (without_named n fs) ∙ (λ i. none.0 i || more i)

-- what is left was there, and has another name
left-without : (n m : FileName) (fs : List File) → has_file m (without_named n fs) ≡ true → (has_file m fs ≡ true) × (m ≡ n → ⊥)
left-without n m [] e = absurd (cc)
left-without n m (f ∷ fs) e = step (is_named n f) refl e (left-without n m fs)
  where
    step : (b : Bool) → is_named n f ≡ b → has_file m (cond (not b) (f ∷ without_named n fs) (without_named n fs)) ≡ true
        → (has_file m (without_named n fs) ≡ true → (has_file m fs ≡ true) × (m ≡ n → ⊥)) → (has_file m (f ∷ fs) ≡ true) × (m ≡ n → ⊥)
    step true k h more = let w = more h in (has-behind m f fs w.0, w.1)
    step false k h more = ⊎_elim
        (λ s.
        let here : name_of_file f ≡ m = named-is m f s in
        (has-first m f fs here, λ same. true≢false (sym (subst (λ (x : FileName). is_named x f ≡ true) same s) ∙ k)))
        (λ s. let w = more s in (has-behind m f fs w.0, w.1))
        (either (is_named m f) (has_file m (without_named n fs)) (sym (has-next m f (without_named n fs)) ∙ h))

apart-without : (n : FileName) (fs : List File) → are_apart fs ≡ true → are_apart (without_named n fs) ≡ true
apart-without n [] a = refl
apart-without n (f ∷ fs) a = step (is_named n f) (apart-without n fs own.1)
  where
    own : (has_file (name_of_file f) fs ≡ false) × (are_apart fs ≡ true)
    own = head-alone f fs a

    step : (b : Bool) → are_apart (without_named n fs) ≡ true → are_apart (cond (not b) (f ∷ without_named n fs) (without_named n fs)) ≡ true
    step true more = more
    step false more =
        (λ i. false-not (has_file (name_of_file f) (without_named n fs)) (none-without n (name_of_file f) fs own.0) i && are_apart (without_named n fs)) ∙ more

pub beside-turned : (f : File) (present hidden : List File) → AreBeside present hidden → AreBeside (put_file f present) (without_named (name_of_file f) hidden)
beside-turned f present hidden a =
    let n = name_of_file f in
    record {
      apart = apart-without n hidden a.apart;
      beside = λ m e.
          let w = left-without n m hidden e in
          let other : is_named m f ≡ false = never (is_named m f) (λ k. w.1 (sym (named-is m f k))) in
          has-put m f present ∙ (λ i. other i || a.beside m w.0 i);
      room = λ m e. room-put f present m.path (a.room m (left-without n m hidden e).0);
      followed = λ m e z. path-put f present m.path (a.followed m (left-without n m hidden e).0 z);
    }

-- ---- a file that becomes present in the place of another

paths-in-place : (f : File) (fs : List File) → paths_of (in_place f.path f fs) ≡ paths_of fs
paths-in-place f [] = refl
paths-in-place f (g ∷ gs) = λ i. one (is_same g.path f.path) refl i ∷ paths-in-place f gs i
  where
    one : (b : Bool) → is_same g.path f.path ≡ b → (cond b f g).path ≡ g.path
    one true k = sym (same-is g.path f.path k)
    one false k = refl

-- what is present then is the file, or was so and has another path
there-in-place : (f : File) (m : FileName) (fs : List File) → has_file m (in_place f.path f fs) ≡ true → (name_of_file f ≡ m) ⊎ ((has_file m fs ≡ true) × (is_same m.path f.path ≡ false))
there-in-place f m [] e = absurd (cc)
there-in-place f m (g ∷ gs) e = step (is_same g.path f.path) refl (λ h. there-in-place f m gs h) e
  where
    later : (has_file m (in_place f.path f gs) ≡ true → (name_of_file f ≡ m) ⊎ ((has_file m gs ≡ true) × (is_same m.path f.path ≡ false))) → has_file m (in_place f.path f gs) ≡ true → (name_of_file f ≡ m) ⊎ ((has_file m (g ∷ gs) ≡ true) × (is_same m.path f.path ≡ false))
    later more h = ⊎_elim (λ k. inl k) (λ k. inr (has-behind m g gs k.0, k.1)) (more h)

    step : (b : Bool) → is_same g.path f.path ≡ b → (has_file m (in_place f.path f gs) ≡ true → (name_of_file f ≡ m) ⊎ ((has_file m gs ≡ true) × (is_same m.path f.path ≡ false))) → has_file m (cond b f g ∷ in_place f.path f gs) ≡ true → (name_of_file f ≡ m) ⊎ ((has_file m (g ∷ gs) ≡ true) × (is_same m.path f.path ≡ false))
    step true k more h = ⊎_elim (λ s. inl (named-is m f s)) (later more) (either (is_named m f) (has_file m (in_place f.path f gs)) (sym (has-next m f (in_place f.path f gs)) ∙ h))
    step false k more h = ⊎_elim
        (λ s.
        let here : name_of_file g ≡ m = named-is m g s in
        inr (has-first m g gs here, subst (λ (n : FileName). is_same n.path f.path ≡ false) here k))
        (later more)
        (either (is_named m g) (has_file m (in_place f.path f gs)) (sym (has-next m g (in_place f.path f gs)) ∙ h))

-- what is beside then is the former file, or was so and has another name
left-exchanged : (n : FileName) (former : File) (m : FileName) (fs : List File) → has_file m (change_named n (λ g. former) fs) ≡ true → (name_of_file former ≡ m) ⊎ ((has_file m fs ≡ true) × (m ≡ n → ⊥))
left-exchanged n former m [] e = absurd (cc)
left-exchanged n former m (g ∷ gs) e = step (is_named n g) refl (λ h. left-exchanged n former m gs h) e
  where
    rest : List File
    rest = change_named n (λ (h : File). former) gs

    later : (has_file m rest ≡ true → (name_of_file former ≡ m) ⊎ ((has_file m gs ≡ true) × (m ≡ n → ⊥))) → has_file m rest ≡ true → (name_of_file former ≡ m) ⊎ ((has_file m (g ∷ gs) ≡ true) × (m ≡ n → ⊥))
    later more h = ⊎_elim (λ k. inl k) (λ k. inr (has-behind m g gs k.0, k.1)) (more h)

    step : (b : Bool) → is_named n g ≡ b → (has_file m rest ≡ true → (name_of_file former ≡ m) ⊎ ((has_file m gs ≡ true) × (m ≡ n → ⊥))) → has_file m (cond b former g ∷ rest) ≡ true → (name_of_file former ≡ m) ⊎ ((has_file m (g ∷ gs) ≡ true) × (m ≡ n → ⊥))
    step true k more h = ⊎_elim (λ s. inl (named-is m former s)) (later more) (either (is_named m former) (has_file m rest) (sym (has-next m former rest) ∙ h))
    step false k more h = ⊎_elim
        (λ s.
        let here : name_of_file g ≡ m = named-is m g s in
        inr (has-first m g gs here, λ same. true≢false (sym (subst (λ (x : FileName). is_named x g ≡ true) same s) ∙ k)))
        (later more)
        (either (is_named m g) (has_file m rest) (sym (has-next m g rest) ∙ h))

apart-exchanged : (n : FileName) (former : File) (fs : List File) → are_apart fs ≡ true → has_file (name_of_file former) fs ≡ false → are_apart (change_named n (λ g. former) fs) ≡ true
apart-exchanged n former [] a none = refl
apart-exchanged n former (g ∷ gs) a none = step (is_named n g) refl (apart-exchanged n former gs own.1 apart.1)
  where
    rest : List File
    rest = change_named n (λ (h : File). former) gs

    own : (has_file (name_of_file g) gs ≡ false) × (are_apart gs ≡ true)
    own = head-alone g gs a

    apart : (is_named (name_of_file former) g ≡ false) × (has_file (name_of_file former) gs ≡ false)
    apart = neither (is_named (name_of_file former) g) (has_file (name_of_file former) gs) (sym (has-next (name_of_file former) g gs) ∙ none)

    step : (b : Bool) → is_named n g ≡ b → are_apart rest ≡ true → (not (has_file (name_of_file (cond b former g)) rest) && are_apart rest) ≡ true
    step true k more =
        let alone : has_file (name_of_file former) rest ≡ false =
        ap (has_file (name_of_file former)) (unchanged-none n (λ h. former) gs (none-behind-named n g gs a k)) ∙ apart.1 in
        (λ i. false-not (has_file (name_of_file former) rest) alone i && are_apart rest) ∙ more
    step false k more =
        let alone : has_file (name_of_file g) rest ≡ false =
        never (has_file (name_of_file g) rest)
        (λ s. ⊎_elim
        (λ same. true≢false (sym (subst (λ (x : FileName). is_named x g ≡ true) (sym same) (named-itself g)) ∙ apart.0))
        (λ w. true≢false (sym w.0 ∙ own.0))
        (left-exchanged n former (name_of_file g) gs s)) in
        (λ i. false-not (has_file (name_of_file g) rest) alone i && are_apart rest) ∙ more

-- the file of a path has its name among the files
has-at : (p : List ℕ) (fs : List File) (f : File) → file_at fs p ≡ Some f → (has_file (name_of_file f) fs ≡ true) × (f.path ≡ p)
has-at p [] f e = absurd (cc)
has-at p (g ∷ gs) f e = step (is_same g.path p) refl e (λ h. has-at p gs f h)
  where
    step : (b : Bool) → is_same g.path p ≡ b → cond b (Some g) (file_at gs p) ≡ Some f → (file_at gs p ≡ Some f → (has_file (name_of_file f) gs ≡ true) × (f.path ≡ p)) → (has_file (name_of_file f) (g ∷ gs) ≡ true) × (f.path ≡ p)
    step true k h more =
        let same : g ≡ f = cc in
        (has-first (name_of_file f) g gs (ap name_of_file same), ap (λ (x : File). x.path) (sym same) ∙ same-is g.path p k)
    step false k h more = let w = more h in (has-behind (name_of_file f) g gs w.0, w.1)

pub beside-exchanged : (f former : File) (present hidden : List File) → AreBeside present hidden → has_file (name_of_file f) hidden ≡ true → file_at present f.path ≡ Some former
    → AreBeside (in_place f.path f present) (change_named (name_of_file f) (λ g. former) hidden)
beside-exchanged f former present hidden a here at = record {
  apart = apart-exchanged n former hidden a.apart none;
  beside = λ m e. never (has_file m (in_place f.path f present)) (λ s. clash m (left-exchanged n former m hidden e) (there-in-place f m present s));
  room = λ m e.
      room-same (in_place f.path f present) present m.path (paths-in-place f present)
      ∙ ⊎_elim (λ k. subst (λ (p : List ℕ). has_room present p ≡ true) (sym own.1 ∙ ap (λ (x : FileName). x.path) k) (a.room n here)) (λ k. a.room m k.0) (left-exchanged n former m hidden e);
  followed = λ m e z.
      path-same (in_place f.path f present) present m.path (paths-in-place f present)
      ∙ ⊎_elim (λ k. subst (λ (p : List ℕ). is_some (file_at present p) ≡ true) (sym own.1 ∙ ap (λ (x : FileName). x.path) k) (ap is_some at)) (λ k. a.followed m k.0 z) (left-exchanged n former m hidden e);
}
  where
    n : FileName
    n = name_of_file f

    own : (has_file (name_of_file former) present ≡ true) × (former.path ≡ f.path)
    own = has-at f.path present former at

    none : has_file (name_of_file former) hidden ≡ false
    none = never (has_file (name_of_file former) hidden) (λ k. true≢false (sym own.0 ∙ a.beside (name_of_file former) k))

    clash : (m : FileName) → (name_of_file former ≡ m) ⊎ ((has_file m hidden ≡ true) × (m ≡ n → ⊥)) → (n ≡ m) ⊎ ((has_file m present ≡ true) × (is_same m.path f.path ≡ false)) → ⊥
    clash m (inl k) (inl s) =
        true≢false (sym here ∙ (ap (λ (x : FileName). has_file x hidden) (s ∙ sym k) ∙ none))
    clash m (inl k) (inr s) =
        true≢false (sym (same-itself f.path) ∙ (ap (λ (p : List ℕ). is_same p f.path) (sym own.1 ∙ ap (λ (x : FileName). x.path) k) ∙ s.1))
    clash m (inr k) (inl s) = k.1 (sym s)
    clash m (inr k) (inr s) = true≢false (sym s.0 ∙ a.beside m k.0)

-- ---- after a turn

-- the file of a name has it, and so has one among the files
pub found-name : (n : FileName) (fs : List File) (f : File) → file_named fs n ≡ Some f → (name_of_file f ≡ n) × (has_file n fs ≡ true)
found-name n [] f e = absurd (cc)
found-name n (g ∷ gs) f e = step (is_named n g) refl e (λ h. found-name n gs f h)
  where
    step : (b : Bool) → is_named n g ≡ b → cond b (Some g) (file_named gs n) ≡ Some f → (file_named gs n ≡ Some f → (name_of_file f ≡ n) × (has_file n gs ≡ true)) → (name_of_file f ≡ n) × (has_file n (g ∷ gs) ≡ true)
    step true k h more =
        let same : g ≡ f = cc in
        let here : name_of_file g ≡ n = named-is n g k in
        (ap name_of_file (sym same) ∙ here, has-first n g gs here)
    step false k h more = let w = more h in (w.0, has-behind n g gs w.1)

turned-beside : (f : File) (there : Option File) (present hidden : List File) → AreBeside present hidden → has_file (name_of_file f) hidden ≡ true → file_at present f.path ≡ there
    → AreHeld (turned_to (name_of_file f) (Some f) there (held_with present hidden))
turned-beside f None present hidden a here at = beside-turned f present hidden a
turned-beside f (Some former) present hidden a here at = beside-exchanged f former present hidden a here at

found-beside : (n : FileName) (found : Option File) (present hidden : List File) → AreBeside present hidden → file_named hidden n ≡ found
    → AreHeld (turned_to n found (file_at present n.path) (held_with present hidden))
found-beside n None present hidden a e = a
found-beside n (Some f) present hidden a e =
    let w = found-name n hidden f e in
    subst (λ (m : FileName). AreHeld (turned_to m (Some f) (file_at present m.path) (held_with present hidden))) w.0
    (turned-beside f (file_at present f.path) present hidden a (ap (λ (m : FileName). has_file m hidden) w.0 ∙ w.1) refl)

pub turned-is-beside : (n : FileName) (held : Held) → AreHeld held → AreHeld (turned n held)
turned-is-beside n held a = found-beside n (file_named held.hidden n) held.present held.hidden a refl

-- ---- after a call

held-is : (x y : Held) → Some x ≡ Some y → x ≡ y
held-is x y e = cc

pub done-is-beside : (allows : Held → Bool) (change : Held → Held) (old new : Held) (answer : TreeDone) → AreHeld old → (allows old ≡ true → AreHeld (change old)) → DoesHeld allows change old answer new → AreHeld new
done-is-beside allows change old new done.Done a keeps d = subst AreHeld (sym (held-is new (change old) d.0)) (keeps d.1)
done-is-beside allows change old new done.NotFile a keeps d = subst AreHeld (sym (held-is new old d.0)) a
done-is-beside allows change old new done.Failed a keeps d = subst AreHeld (sym (held-is new old d)) a
done-is-beside allows change old new done.Memory a keeps d = subst AreHeld (sym (held-is new old d)) a

pub written-keeps : (offset : ℕ) (content : List ℕ) (moment : ℕ) → Keeps (written offset content moment)
written-keeps offset [] moment f = refl
written-keeps offset (b ∷ bs) moment f = refl

pub resized-keeps : (size moment : ℕ) → Keeps (resized size moment)
resized-keeps size moment f = refl
