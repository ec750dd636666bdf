-- Changes of files that are present, or lie beside those.
use Rattle.std.proofs.Common.{◌≡◌, ℕ, ◌==◌, List, [], ◌∷◌, ◌++◌, Bool, true, false, not, ◌&&◌, ◌||◌, cond, Option, Some, None, option_map, is_some, Result, Ok, Err, OnOk, OnErr, refl, sym, ap, subst, ◌∙◌, ⊎_elim, arith}
use Rattle.std.proofs.lemmas.Bool.Decides.{nat_tests}
use mathlib.Core.Bool.{true≢false}
use Rattle.std.specs.List.{list_all, list_any}
use Rattle.portal_base.specs.Names.{is_same, root}
use Rattle.portal_base.specs.Content.{IsTree, file_at, file_named, has_room, is_above, is_folder, is_named, paths_of}
use Rattle.portal_base.specs.FileChanges.{new_file, put_file}
use Rattle.file_generations.specs.Generations.{Held, change_held, held_with, is_held, may_turn, put_present, turned, turned_to}
use Rattle.portal_base.specs.declared.files.File.{File}
use Rattle.portal_base.specs.declared.files.FileName.{FileName}
use Rattle.portal_base.proofs.PathsAbove.{both}
use Rattle.host_tree.specs.Beside.{AreBeside}
use Rattle.host_tree.specs.Stored.{stored_of}
use Rattle.host_tree.specs.Trees.{DoesFiles, DoesHeld, change_first, change_named, has_file, may_be_present, may_create, may_fresh}
use Rattle.host_tree.specs.declared.files.Stored.{Stored}
use Rattle.host_tree.specs.declared.tree.TreeDone.{TreeDone}
use Rattle.host_tree.specs.declared.tree.TreeDone.TheVariants as done
use Rattle.host_tree.proofs.BesideFiles.{either, first-is-all, folder-by, has-appended, has-next, named-is, neither, not-true, unchanged-none}

pub some-same : {X : Type 0} (x y : X) → Some x ≡ Some y → x ≡ y
some-same x y e = cc

pub nothing-at : {X : Type 0} (o : Option X) → not (is_some o) ≡ true → o ≡ None
nothing-at None e = refl
nothing-at (Some x) e = absurd (cc)

nothing-is : {X : Type 0} (o : Option X) → is_some o ≡ false → o ≡ None
nothing-is None e = refl
nothing-is (Some x) e = absurd (cc)

and-false : (a : Bool) → (a && false) ≡ false
and-false true = refl
and-false false = refl

-- ---- the file of a name

abbrev pub first_of : Option Stored → Option Stored → Option Stored
first_of None second = second
first_of (Some s) second = Some s

pub named-append : (name : FileName) (xs ys : List File) → option_map stored_of (file_named (xs ++ ys) name) ≡ first_of (option_map stored_of (file_named xs name)) (option_map stored_of (file_named ys name))
named-append name [] ys = refl
named-append name (x ∷ xs) ys = step (is_named name x) (named-append name xs ys)
  where
    step : (b : Bool) → option_map stored_of (file_named (xs ++ ys) name) ≡ first_of (option_map stored_of (file_named xs name)) (option_map stored_of (file_named ys name))
        → option_map stored_of (cond b (Some x) (file_named (xs ++ ys) name)) ≡ first_of (option_map stored_of (cond b (Some x) (file_named xs name))) (option_map stored_of (file_named ys name))
    step true more = refl
    step false more = more

held-by : (name : FileName) (present hidden : List File) → is_held (held_with present hidden) name ≡ (has_file name hidden || has_file name present)
held-by name present hidden = has-appended name hidden present

held-hidden : (name : FileName) (present hidden : List File) → has_file name hidden ≡ true → is_held (held_with present hidden) name ≡ true
held-hidden name present hidden e = held-by name present hidden ∙ ap (λ (b : Bool). b || has_file name present) e

held-present : (name : FileName) (present hidden : List File) (b : Bool) → has_file name hidden ≡ false → has_file name present ≡ b → is_held (held_with present hidden) name ≡ b
held-present name present hidden b none e = held-by name present hidden ∙ (ap (λ (c : Bool). c || has_file name present) none ∙ e)

-- ---- changes

pub present-does : (name : FileName) (change : File → File) (old new hidden : List File) (answer : TreeDone) → has_file name hidden ≡ false → DoesFiles (has_file name) (change_named name change) (Some old) answer (Some new)
    → DoesHeld (λ held. is_held held name) (change_held name change) (held_with old hidden) answer (held_with new hidden)
present-does name change old new hidden done.Done none d = (
  λ i. Some (held_with (some-same new (change_named name change old) d.0 i) (sym (unchanged-none name change hidden none) i)),
  held-present name old hidden true none d.1,
)
present-does name change old new hidden done.NotFile none d = (
  ap (λ (fs : List File). Some (held_with fs hidden)) (some-same new old d.0),
  held-present name old hidden false none d.1,
)
present-does name change old new hidden done.Failed none d = ap (λ (fs : List File). Some (held_with fs hidden)) (some-same new old d)
present-does name change old new hidden done.Memory none d = ap (λ (fs : List File). Some (held_with fs hidden)) (some-same new old d)

pub hidden-does : (name : FileName) (change : File → File) (present old new : List File) (answer : TreeDone) → AreBeside present old → has_file name old ≡ true → DoesFiles (has_file name) (change_first name change) (Some old) answer (Some new)
    → DoesHeld (λ held. is_held held name) (change_held name change) (held_with present old) answer (held_with present new)
hidden-does name change present old new done.Done a has d =
    let all : new ≡ change_named name change old = some-same new (change_first name change old) d.0 ∙ first-is-all name change old a.apart in
    let stays : present ≡ change_named name change present = sym (unchanged-none name change present (a.beside name has)) in
    (λ i. Some (held_with (stays i) (all i)), held-hidden name present old has)
hidden-does name change present old new done.NotFile a has d = absurd (true≢false (sym has ∙ d.1))
hidden-does name change present old new done.Failed a has d = ap (λ (fs : List File). Some (held_with present fs)) (some-same new old d)
hidden-does name change present old new done.Memory a has d = ap (λ (fs : List File). Some (held_with present fs)) (some-same new old d)

-- ---- a file that is made at a path

pub created-does : (path : List ℕ) (now : ℕ) (old new hidden : List File) (answer : TreeDone) → DoesFiles (λ files. may_create files path) (put_file (new_file path now)) (Some old) answer (Some new)
    → DoesHeld (λ held. may_create held.present path) (put_present (new_file path now)) (held_with old hidden) answer (held_with new hidden)
created-does path now old new hidden done.Done d = (ap (λ (fs : List File). Some (held_with fs hidden)) (some-same new (put_file (new_file path now) old) d.0), d.1)
created-does path now old new hidden done.NotFile d = (ap (λ (fs : List File). Some (held_with fs hidden)) (some-same new old d.0), d.1)
created-does path now old new hidden done.Failed d = ap (λ (fs : List File). Some (held_with fs hidden)) (some-same new old d)
created-does path now old new hidden done.Memory d = ap (λ (fs : List File). Some (held_with fs hidden)) (some-same new old d)

-- ---- a fresh file

pub may-be-fresh : (name : FileName) (present hidden : List File) → may_fresh name (held_with present hidden) ≡ true
    → (name.generation ≡ 0 → ⊥) × ((has_room present name.path ≡ true) × ((has_file name hidden ≡ false) × (has_file name present ≡ false)))
may-be-fresh name present hidden may =
    let held = held_with present hidden in
    let new = both (not (name.generation == 0)) (has_room present name.path && not (is_held held name)) may in
    let room = both (has_room present name.path) (not (is_held held name)) new.1 in
    let none = neither (has_file name hidden) (has_file name present) (sym (held-by name present hidden) ∙ not-true (is_held held name) room.1) in
    (λ z. zero name.generation (not-true (name.generation == 0) new.0) z, (room.0, none))
  where
    zero : (g : ℕ) → (g == 0) ≡ false → g ≡ 0 → ⊥
    zero g e z = grind (arith, nat_tests)

-- ---- a file that becomes present

-- where a path has no file and may have one, one may be made
pub may-create : (fs : List File) (path : List ℕ) → is_some (file_at fs path) ≡ false → may_be_present fs path ≡ true → may_create fs path ≡ true
may-create fs path n m = ap (λ (b : Bool). not b && (not (is_folder fs path) && has_room fs path)) n ∙ m

-- the path of a present file is no folder
all-has : (n : FileName) (q : List ℕ → Bool) (fs : List File) → list_all q (paths_of fs) ≡ true → has_file n fs ≡ true → q n.path ≡ true
all-has n q [] a e = absurd (cc)
all-has n q (f ∷ fs) a e =
    let b = both (q f.path) (list_all q (paths_of fs)) a in
    ⊎_elim
    (λ k. subst (λ (m : FileName). q m.path ≡ true) (named-is n f k) b.0)
    (λ k. all-has n q fs b.1 k)
    (either (is_named n f) (has_file n fs) (sym (has-next n f fs) ∙ e))

no-folder : (n : FileName) (fs : List File) → IsTree fs → has_file n fs ≡ true → is_folder fs n.path ≡ false
no-folder n fs t e =
    let top : is_same n.path root ≡ false = not-true (is_same n.path root) (all-has n (λ p. not (is_same p root)) fs t.placed.no_root e) in
    let below : list_any (is_above n.path) (paths_of fs) ≡ false = not-true (list_any (is_above n.path) (paths_of fs)) (all-has n (λ p. not (list_any (is_above p) (paths_of fs))) fs t.placed.apart e) in
    folder-by fs n.path ∙ (λ i. top i || below i)

pub folder-stays : (name : FileName) (present hidden : List File) → is_folder present name.path ≡ true
    → DoesHeld (λ held. may_turn held name) (turned name) (held_with present hidden) done.NotFile (held_with present hidden)
folder-stays name present hidden e = (
  refl,
  ap (λ (b : Bool). is_held (held_with present hidden) name && not b) e ∙ and-false (is_held (held_with present hidden) name),
)

-- what is present stays, and what is nowhere isn't found
pub present-stands : (name : FileName) (present hidden : List File) (answer : TreeDone) → IsTree present → has_file name hidden ≡ false → answer ≡ cond (has_file name present) done.Done done.NotFile
    → DoesHeld (λ held. may_turn held name) (turned name) (held_with present hidden) answer (held_with present hidden)
present-stands name present hidden answer tree none is = subst (λ x. DoesHeld (λ held. may_turn held name) (turned name) here x here) (sym is) (step (has_file name present) refl)
  where
    here : Held
    here = held_with present hidden

    stays : turned name here ≡ here
    stays = ap (λ (o : Option File). turned_to name o (file_at present name.path) here) (nothing-is (file_named hidden name) none)

    step : (b : Bool) → has_file name present ≡ b → DoesHeld (λ held. may_turn held name) (turned name) here (cond b done.Done done.NotFile) here
    step true e = (
      ap (λ (h : Held). Some h) (sym stays),
      λ i. held-present name present hidden true none e i && not (no-folder name present tree e i),
    )
    step false e = (refl, ap (λ (b : Bool). b && not (is_folder present name.path)) (held-present name present hidden false none e))

pub outcome-turns : {E : Type 0} (r : Result (Unit {0}) E) (name : FileName) (present hidden : List File) (new : Held) (answer : TreeDone)
    → OnOk r (answer ≡ done.Done) → OnErr r (answer ≡ done.Memory)
    → OnOk r (new ≡ turned_to name (file_named hidden name) (file_at present name.path) (held_with present hidden)) → OnErr r (new ≡ held_with present hidden)
    → has_file name hidden ≡ true → is_folder present name.path ≡ false
    → DoesHeld (λ held. may_turn held name) (turned name) (held_with present hidden) answer new
outcome-turns (Ok u) name present hidden new answer a b c d has apart = subst (λ x. DoesHeld (λ held. may_turn held name) (turned name) (held_with present hidden) x new) (sym a)
    (ap (λ (h : Held). Some h) c, λ i. held-hidden name present hidden has i && not (apart i))
outcome-turns (Err e) name present hidden new answer a b c d has apart = subst (λ x. DoesHeld (λ held. may_turn held name) (turned name) (held_with present hidden) x new) (sym b)
    (ap (λ (h : Held). Some h) d)
