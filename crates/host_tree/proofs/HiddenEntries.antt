-- The files that aren't present, in a list of paths and what is stored.
use Rattle.std.proofs.Common.{◌≡◌, ℕ, ◌+◌, ◌<◌, ◌≤◌, ◌==◌, suc, zero, List, [], ◌∷◌, length, Bool, true, false, not, cond, ltb, get_or, Option, Some, None, option_map, is_some, refl, sym, ap, ◌∙◌, arith}
use Rattle.std.proofs.lemmas.Bool.Decides.{nat_tests}
use mathlib.Core.Bool.{true≢false}
use Rattle.std.specs.List.{find, position, position_or_len, remove, slice_get, slice_set}
use Rattle.std.proofs.lemmas.List.{set-get_or}
use Rattle.std.proofs.lemmas.List.Folds.{find_at}
use Rattle.std.proofs.lemmas.Option.{slice_get_read}
use Rattle.portal_base.specs.Names.{is_same}
use Rattle.portal_base.specs.Content.{file_named, is_named}
use Rattle.portal_base.specs.declared.files.File.{File}
use Rattle.portal_base.specs.declared.files.FileName.{FileName}
use Rattle.portal_base.proofs.PathsAbove.{both}
use Rattle.host_tree.specs.Stored.{DoesStored, file_of, files_of, is_stored, stored_of}
use Rattle.host_tree.specs.Trees.{DoesFiles, has_file, change_first, without_first}
use Rattle.host_tree.specs.declared.tree.TreeDone.{TreeDone}
use Rattle.host_tree.specs.declared.tree.TreeDone.TheVariants as done
use Rattle.host_tree.specs.declared.files.Stored.{Stored}
use Rattle.host_tree.proofs.Entries.{same-is}

abbrev pub Entry : Type 0
Entry = List ℕ × Stored

-- ---- names

pub named-generation : (name : FileName) (f : File) → is_named name f ≡ true → (f.generation == name.generation) ≡ true
named-generation name f e = (both (is_same f.path name.path) (f.generation == name.generation) e).1

-- ---- the file of a name

pub listed-found : (name : FileName) (es : List Entry) → option_map (λ (e : Entry). e.1) (find (is_stored name) es) ≡ option_map stored_of (file_named (files_of es) name)
listed-found name [] = refl
listed-found name (e ∷ es) = step (is_stored name e) (listed-found name es)
  where
    step : (b : Bool) → option_map (λ (d : Entry). d.1) (find (is_stored name) es) ≡ option_map stored_of (file_named (files_of es) name)
        → option_map (λ (d : Entry). d.1) (cond b (Some e) (find (is_stored name) es)) ≡ option_map stored_of (cond b (Some (file_of e)) (file_named (files_of es) name))
    step true more = refl
    step false more = more

some-mapped : {X : Type 0} (g : X → Stored) (o : Option X) (p : Option File) → option_map g o ≡ option_map stored_of p → is_some p ≡ is_some o
some-mapped g None None e = refl
some-mapped g (Some x) (Some y) e = refl
some-mapped g None (Some y) e = absurd (cc)
some-mapped g (Some x) None e = absurd (cc)

pub has-listed : (name : FileName) (es : List Entry) → has_file name (files_of es) ≡ is_some (find (is_stored name) es)
has-listed name es = some-mapped (λ (e : Entry). e.1) (find (is_stored name) es) (file_named (files_of es) name) (listed-found name es)

-- ---- where it stands

some-place : (n l i : ℕ) (b : Bool) → ltb n l ≡ b → Some i ≡ cond b (Some n) None → i ≡ n
some-place n l i true h e = cc
some-place n l i false h e = absurd (cc)

no-place : (n l : ℕ) (b : Bool) → ltb n l ≡ b → None ≡ cond b (Some n) None → l ≤ n
no-place n l true h e = absurd (cc)
no-place n l false h e = grind (arith, nat_tests)

at-most : (name : FileName) (es : List Entry) → position_or_len (is_stored name) es ≤ length es
at-most name [] = omega arith
at-most name (e ∷ es) = step (is_stored name e) (at-most name es)
  where
    step : (b : Bool) → position_or_len (is_stored name) es ≤ length es → cond (not b) (1 + position_or_len (is_stored name) es) 0 ≤ suc (length es)
    step true m = omega arith
    step false m = omega arith

pub place-found : (name : FileName) (es : List Entry) (i : ℕ) → Some i ≡ position (is_stored name) es → i ≡ position_or_len (is_stored name) es
place-found name es i e =
    let n = position_or_len (is_stored name) es in
    some-place n (length es) i (ltb n (length es)) refl e

pub place-missing : (name : FileName) (es : List Entry) → None ≡ position (is_stored name) es → length es ≡ position_or_len (is_stored name) es
place-missing name es e =
    let n = position_or_len (is_stored name) es in
    let past : length es ≤ n = no-place n (length es) (ltb n (length es)) refl e in
    let most : n ≤ length es = at-most name es in
    omega arith

-- a file of the name has a place
pub has-place : (name : FileName) (es : List Entry) → has_file name (files_of es) ≡ true → position_or_len (is_stored name) es < length es
has-place name [] h = absurd (cc)
has-place name (e ∷ es) h = step (is_stored name e) h (λ k. has-place name es k)
  where
    step : (b : Bool) → is_some (cond b (Some (file_of e)) (file_named (files_of es) name)) ≡ true
        → (has_file name (files_of es) ≡ true → position_or_len (is_stored name) es < length es)
        → cond (not b) (1 + position_or_len (is_stored name) es) 0 < suc (length es)
    step true k more = omega arith
    step false k more = let l : position_or_len (is_stored name) es < length es = more k in omega arith

pub past-all : (name : FileName) (es : List Entry) → length es ≤ position_or_len (is_stored name) es → has_file name (files_of es) ≡ false
past-all name [] l = refl
past-all name (e ∷ es) l = step (is_stored name e) l (λ k. past-all name es k)
  where
    step : (b : Bool) → suc (length es) ≤ cond (not b) (1 + position_or_len (is_stored name) es) 0
        → (length es ≤ position_or_len (is_stored name) es → has_file name (files_of es) ≡ false)
        → is_some (cond b (Some (file_of e)) (file_named (files_of es) name)) ≡ false
    step true k more = absurd (omega arith)
    step false k more = more (omega arith)

pub got-there : (es : List Entry) (i : ℕ) (v : Entry) → i < length es → v ≡ get_or es i v → slice_get es i ≡ Some v
got-there es i v l h = slice_get_read es (length es) i v refl l h

pub here-found : (name : FileName) (es : List Entry) (i : ℕ) (v : Entry) → i ≡ position_or_len (is_stored name) es → i < length es → v ≡ get_or es i v → find (is_stored name) es ≡ Some v
here-found name es i v e l h = find_at (is_stored name) es ∙ (ap (slice_get es) (sym e) ∙ got-there es i v l h)

pub stored-found : (name : FileName) (es : List Entry) (i : ℕ) (v : Entry) → i ≡ position_or_len (is_stored name) es → i < length es → v ≡ get_or es i v → Some v.1 ≡ option_map stored_of (file_named (files_of es) name)
stored-found name es i v e l h = ap (option_map (λ (x : Entry). x.1)) (sym (here-found name es i v e l h)) ∙ listed-found name es

-- what stands there, put there
pub put-back : (es : List Entry) (i : ℕ) (v : Entry) → v ≡ get_or es i v → slice_set es i v ≡ es
put-back es i v h = ap (slice_set es i) h ∙ set-get_or es i v

pub path-named : (name : FileName) (e : Entry) → is_stored name e ≡ true → e.0 ≡ name.path
path-named name e h = same-is e.0 name.path (both (is_same e.0 name.path) (e.1.generation == name.generation) h).0

-- ---- one place

module _ (name : FileName) where
  found-here : (es : List Entry) (i : ℕ) (e : Entry) → position_or_len (is_stored name) es ≡ i → slice_get es i ≡ Some e → is_stored name e ≡ true
  found-here [] i e p g = absurd (cc)
  found-here (d ∷ ds) i e p g = step (is_stored name d) refl p (λ j q k. found-here ds j e q k)
    where
      step : (b : Bool) → is_stored name d ≡ b → cond (not b) (1 + position_or_len (is_stored name) ds) 0 ≡ i
          → ((j : ℕ) → position_or_len (is_stored name) ds ≡ j → slice_get ds j ≡ Some e → is_stored name e ≡ true) → is_stored name e ≡ true
      step true h q more = first i (sym q) g
        where
          first : (j : ℕ) → j ≡ 0 → slice_get (d ∷ ds) j ≡ Some e → is_stored name e ≡ true
          first zero z k = let same : d ≡ e = cc in ap (is_stored name) (sym same) ∙ h
          first (suc j) z k = absurd (omega arith)
      step false h q more = later i (sym q) g
        where
          later : (j : ℕ) → j ≡ 1 + position_or_len (is_stored name) ds → slice_get (d ∷ ds) j ≡ Some e → is_stored name e ≡ true
          later zero z k = absurd (omega arith)
          later (suc j) z k = more j (omega arith) k

  pub is-found : (es : List Entry) (i : ℕ) (e : Entry) → position_or_len (is_stored name) es ≡ i → slice_get es i ≡ Some e → is_stored name e ≡ true
  is-found es i e p g = found-here es i e p g

  -- a file in the place of that of the name
  pub set-listed : (change : File → File) (es : List Entry) (i : ℕ) (e : Entry) (w : Entry) → position_or_len (is_stored name) es ≡ i → slice_get es i ≡ Some e → file_of w ≡ change (file_of e) → files_of (slice_set es i w) ≡ change_first name change (files_of es)
  set-listed change [] i e w p g k = absurd (cc)
  set-listed change (f ∷ fs) i e w p g k = step (is_stored name f) p (λ j q m. set-listed change fs j e w q m k)
    where
      step : (b : Bool) → cond (not b) (1 + position_or_len (is_stored name) fs) 0 ≡ i
          → ((j : ℕ) → position_or_len (is_stored name) fs ≡ j → slice_get fs j ≡ Some e → files_of (slice_set fs j w) ≡ change_first name change (files_of fs))
          → files_of (slice_set (f ∷ fs) i w) ≡ cond b (change (file_of f) ∷ files_of fs) (file_of f ∷ change_first name change (files_of fs))
      step true q more = first i (sym q) g
        where
          first : (j : ℕ) → j ≡ 0 → slice_get (f ∷ fs) j ≡ Some e → files_of (slice_set (f ∷ fs) j w) ≡ change (file_of f) ∷ files_of fs
          first zero z m =
              let same : e ≡ f = cc in
              ap (λ (x : File). x ∷ files_of fs) (k ∙ ap (λ (x : Entry). change (file_of x)) same)
          first (suc j) z m = absurd (omega arith)
      step false q more = later i (sym q) g
        where
          later : (j : ℕ) → j ≡ 1 + position_or_len (is_stored name) fs → slice_get (f ∷ fs) j ≡ Some e → files_of (slice_set (f ∷ fs) j w) ≡ file_of f ∷ change_first name change (files_of fs)
          later zero z m = absurd (omega arith)
          later (suc j) z m = ap (λ (hs : List File). file_of f ∷ hs) (more j (omega arith) m)

  -- the file of the name taken out
  pub taken-out : (es : List Entry) (i : ℕ) (e : Entry) → position_or_len (is_stored name) es ≡ i → slice_get es i ≡ Some e → files_of (remove es i) ≡ without_first name (files_of es)
  taken-out [] i e p g = absurd (cc)
  taken-out (f ∷ fs) i e p g = step (is_stored name f) p (λ j q m. taken-out fs j e q m)
    where
      step : (b : Bool) → cond (not b) (1 + position_or_len (is_stored name) fs) 0 ≡ i
          → ((j : ℕ) → position_or_len (is_stored name) fs ≡ j → slice_get fs j ≡ Some e → files_of (remove fs j) ≡ without_first name (files_of fs))
          → files_of (remove (f ∷ fs) i) ≡ cond b (files_of fs) (file_of f ∷ without_first name (files_of fs))
      step true q more = first i (sym q)
        where
          first : (j : ℕ) → j ≡ 0 → files_of (remove (f ∷ fs) j) ≡ files_of fs
          first zero z = refl
          first (suc j) z = absurd (omega arith)
      step false q more = later i (sym q) g
        where
          later : (j : ℕ) → j ≡ 1 + position_or_len (is_stored name) fs → slice_get (f ∷ fs) j ≡ Some e → files_of (remove (f ∷ fs) j) ≡ file_of f ∷ without_first name (files_of fs)
          later zero z m = absurd (omega arith)
          later (suc j) z m = ap (λ (hs : List File). file_of f ∷ hs) (more j (omega arith) m)

still-listed : (es : List Entry) (i : ℕ) (e : Entry) (w : Stored) (fs : List Entry) → fs ≡ slice_set es i (e.0, w) → slice_set es i e ≡ es → Some w ≡ Some e.1 → Some (files_of fs) ≡ Some (files_of es)
still-listed es i e w fs s b k =
    let same : w ≡ e.1 = cc in
    ap (λ (xs : List Entry). Some (files_of xs)) (s ∙ (ap (λ (x : Stored). slice_set es i (e.0, x)) same ∙ b))

-- what a change of what is stored comes to in the list
pub listed-does : (name : FileName) (stored : Stored → Stored) (change : File → File) (es : List Entry) (i : ℕ) (e : Entry) (w : Stored) (answer : TreeDone) → ((k : List ℕ) (s : Stored) → file_of (k, stored s) ≡ change (file_of (k, s)))
    → position_or_len (is_stored name) es ≡ i → slice_get es i ≡ Some e → find (is_stored name) es ≡ Some e → (fs : List Entry) → fs ≡ slice_set es i (e.0, w) → slice_set es i e ≡ es → DoesStored name.generation stored e.1 answer w
    → DoesFiles (has_file name) (change_first name change) (Some (files_of es)) answer (Some (files_of fs))
listed-does name stored change es i e w done.Done keeps p g f fs s b k = (
  ap (λ (xs : List Entry). Some (files_of xs)) s
      ∙ ap (λ (xs : List File). Some xs) (set-listed name change es i e (e.0, w) p g (ap (λ (x : Stored). file_of (e.0, x)) (some-stored w (stored e.1) k.0) ∙ keeps e.0 e.1)),
  has-listed name es ∙ ap is_some f,
)
  where
    some-stored : (x y : Stored) → Some x ≡ Some y → x ≡ y
    some-stored x y q = cc
listed-does name stored change es i e w done.NotFile keeps p g f fs s b k = absurd (true≢false (sym (named-generation name (file_of e) (is-found name es i e p g)) ∙ k.1))
listed-does name stored change es i e w done.Failed keeps p g f fs s b k = still-listed es i e w fs s b k
listed-does name stored change es i e w done.Memory keeps p g f fs s b k = still-listed es i e w fs s b k
