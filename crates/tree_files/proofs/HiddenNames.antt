-- The files that aren't present, in a list: where the file of a name stands, and what becomes of it.
use Rattle.std.proofs.Common.{◌≡◌, ℕ, ◌+◌, ◌<◌, ◌≤◌, ◌==◌, suc, zero, List, [], ◌∷◌, ◌++◌, length, Bool, true, false, not, ◌&&◌, ◌||◌, cond, ltb, get_or, Option, Some, None, refl, sym, ap, ◌∙◌, arith}
use Rattle.std.proofs.lemmas.Bool.Decides.{nat_tests}
use mathlib.Core.Bool.{true≢false}
use Rattle.std.specs.List.{find, list_all, list_any, position, position_or_len, remove, slice_get, slice_set, IsDistinct, AllByRecursion}
use Rattle.std.proofs.lemmas.List.Folds.{find_at}
use Rattle.std.proofs.lemmas.List.{set-get_or}
use Rattle.std.proofs.lemmas.Option.{slice_get_read}
use Rattle.portal_base.specs.Content.{file_at, file_named, is_named}
use Rattle.portal_base.specs.FileChanges.{change_named, put_file}
use Rattle.portal_base.specs.Names.{is_same}
use Rattle.portal_base.specs.declared.files.File.{File}
use Rattle.portal_base.specs.declared.files.FileName.{FileName}
use Rattle.portal_base.proofs.PathsAbove.{both}
use Rattle.file_generations.specs.Generations.{held_with, in_place, same_file, turned, turned_to, without_named}
use Rattle.host_tree.proofs.Entries.{same-is, same-itself}
use Rattle.host_tree.proofs.HeldTurned.{replaced-put}
use Rattle.tree_files.specs.Kept.{file_kept, hidden_file, hidden_of}
use Rattle.tree_files.specs.declared.kept.HiddenFile.{HiddenFile}
use Rattle.tree_files.specs.declared.kept.KeptFile.{KeptFile}
use Rattle.tree_files.proofs.Entries.{nothing-changed}

abbrev pub has_name : FileName → HiddenFile → Bool
has_name name h = is_named name (hidden_file h)

-- ---- the file of a name

abbrev first_hidden : Option HiddenFile → Option File → Option File
first_hidden (Some h) o = Some (hidden_file h)
first_hidden None o = o

found-joined : (name : FileName) (hs : List HiddenFile) (rest : List File) →
    file_named (hidden_of hs ++ rest) name
    ≡ first_hidden (find (has_name name) hs) (file_named rest name)
found-joined name [] rest = refl
found-joined name (h ∷ hs) rest = step (has_name name h) (found-joined name hs rest)
  where
    step : (b : Bool) → file_named (hidden_of hs ++ rest) name
        ≡ first_hidden (find (has_name name) hs) (file_named rest name) →
        cond b (Some (hidden_file h)) (file_named (hidden_of hs ++ rest) name)
        ≡ first_hidden (cond b (Some h) (find (has_name name) hs)) (file_named rest name)
    step true more = refl
    step false more = more

found-alone : (name : FileName) (hs : List HiddenFile) →
    file_named (hidden_of hs) name ≡ first_hidden (find (has_name name) hs) None
found-alone name [] = refl
found-alone name (h ∷ hs) = step (has_name name h) (found-alone name hs)
  where
    step : (b : Bool) →
        file_named (hidden_of hs) name ≡ first_hidden (find (has_name name) hs) None →
        cond b (Some (hidden_file h)) (file_named (hidden_of hs) name)
        ≡ first_hidden (cond b (Some h) (find (has_name name) hs)) None
    step true more = refl
    step false more = more

-- ---- where it stands

some-place : (n l i : ℕ) (b : Bool) → ltb n l ≡ b → Some i ≡ cond b (Some n) None →
    (i ≡ n) × (n < l)
some-place n l i true h e = (cc, grind (arith, nat_tests))
some-place n l i false h e = absurd (cc)

no-place : (n l : ℕ) (b : Bool) → ltb n l ≡ b → None ≡ cond b (Some n) None → l ≤ n
no-place n l true h e = absurd (cc)
no-place n l false h e = grind (arith, nat_tests)

none-passes : (name : FileName) (hs : List HiddenFile) →
    length hs ≤ position_or_len (has_name name) hs → find (has_name name) hs ≡ None
none-passes name [] l = refl
none-passes name (h ∷ hs) l = step (has_name name h) l (none-passes name hs)
  where
    step : (b : Bool) →
        suc (length hs) ≤ cond (not b) (1 + position_or_len (has_name name) hs) 0 →
        (length hs ≤ position_or_len (has_name name) hs → find (has_name name) hs ≡ None) →
        cond b (Some h) (find (has_name name) hs) ≡ None
    step true k more = absurd (omega arith)
    step false k more = more (omega arith)

pub is-missing : (name : FileName) (hs : List HiddenFile) → None ≡ position (has_name name) hs →
    find (has_name name) hs ≡ None
is-missing name hs e =
    let n = position_or_len (has_name name) hs in
    none-passes name hs (no-place n (length hs) (ltb n (length hs)) refl e)

pub place-is : (name : FileName) (hs : List HiddenFile) (i : ℕ) →
    Some i ≡ position (has_name name) hs →
    (i ≡ position_or_len (has_name name) hs) × (position_or_len (has_name name) hs < length hs)
place-is name hs i e =
    let n = position_or_len (has_name name) hs in
    some-place n (length hs) i (ltb n (length hs)) refl e

pub is-within : (name : FileName) (hs : List HiddenFile) (i : ℕ) →
    Some i ≡ position (has_name name) hs → i < length hs
is-within name hs i e = let p = place-is name hs i e in omega arith

pub got-there : (name : FileName) (hs : List HiddenFile) (i : ℕ) (v : HiddenFile) →
    Some i ≡ position (has_name name) hs → v ≡ get_or hs i v → slice_get hs i ≡ Some v
got-there name hs i v e h = slice_get_read hs (length hs) i v refl (is-within name hs i e) h

pub is-there : (name : FileName) (hs : List HiddenFile) (i : ℕ) (v : HiddenFile) →
    Some i ≡ position (has_name name) hs → v ≡ get_or hs i v → find (has_name name) hs ≡ Some v
is-there name hs i v e h =
    find_at (has_name name) hs
    ∙ (ap (slice_get hs) (sym (place-is name hs i e).0) ∙ got-there name hs i v e h)

passes : (name : FileName) (hs : List HiddenFile) (v : HiddenFile) →
    find (has_name name) hs ≡ Some v → has_name name v ≡ true
passes name [] v e = absurd (cc)
passes name (h ∷ hs) v e = step (has_name name h) refl e (passes name hs v)
  where
    step : (b : Bool) → has_name name h ≡ b → cond b (Some h) (find (has_name name) hs) ≡ Some v →
        (find (has_name name) hs ≡ Some v → has_name name v ≡ true) → has_name name v ≡ true
    step true k m more = let same : h ≡ v = cc in ap (has_name name) (sym same) ∙ k
    step false k m more = more m

pub is-named : (name : FileName) (hs : List HiddenFile) (i : ℕ) (v : HiddenFile) →
    Some i ≡ position (has_name name) hs → v ≡ get_or hs i v → has_name name v ≡ true
is-named name hs i v e h = passes name hs v (is-there name hs i v e h)

-- ---- what is found

named-is : (name : FileName) (f : File) → is_named name f ≡ true →
    (f.path ≡ name.path) × ((f.generation == name.generation) ≡ true)
named-is name f e =
    let parts = both (is_same f.path name.path) (f.generation == name.generation) e in
    (same-is f.path name.path parts.0, parts.1)

pub named-hidden : (name : FileName) (hs : List HiddenFile) (rest : List File) (i : ℕ)
    (v : HiddenFile) → Some i ≡ position (has_name name) hs → v ≡ get_or hs i v →
    file_named (hidden_of hs ++ rest) name ≡ Some (file_kept name.path v.kept)
named-hidden name hs rest i v e h =
    let path : v.path ≡ name.path = (named-is name (hidden_file v) (is-named name hs i v e h)).0 in
    found-joined name hs rest
    ∙ (ap (λ (o : Option HiddenFile). first_hidden o (file_named rest name)) (is-there name hs i v e h)
    ∙ ap (λ (p : List ℕ). Some (file_kept p v.kept)) path)

pub named-present : (name : FileName) (hs : List HiddenFile) (rest : List File) →
    None ≡ position (has_name name) hs →
    file_named (hidden_of hs ++ rest) name ≡ file_named rest name
named-present name hs rest e =
    found-joined name hs rest
    ∙ ap (λ (o : Option HiddenFile). first_hidden o (file_named rest name)) (is-missing name hs e)

pub none-hidden : (name : FileName) (hs : List HiddenFile) → None ≡ position (has_name name) hs →
    file_named (hidden_of hs) name ≡ None
none-hidden name hs e =
    found-alone name hs
    ∙ ap (λ (o : Option HiddenFile). first_hidden o None) (is-missing name hs e)

-- what stands there, put there
pub put-back : (hs : List HiddenFile) (i : ℕ) (v : HiddenFile) → v ≡ get_or hs i v →
    slice_set hs i v ≡ hs
put-back hs i v h = ap (slice_set hs i) h ∙ set-get_or hs i v

-- ---- what is changed

pub none-changed : (name : FileName) (change : File → File) (hs : List HiddenFile) →
    None ≡ position (has_name name) hs → change_named name change (hidden_of hs) ≡ hidden_of hs
none-changed name change hs e =
    nothing-changed name change (hidden_of hs) (none-hidden name hs e)

number-is : (a b : ℕ) → (a == b) ≡ true → a ≡ b
number-is a b e = grind (arith, nat_tests)

-- two files of one name are the same of their paths
both-named : (name : FileName) (x y : File) → is_named name x ≡ true → is_named name y ≡ true →
    same_file x y ≡ true
both-named name x y a b =
    let first = named-is name x a in
    let second = named-is name y b in
    (λ i. is_same (first.0 i) (second.0 i) && ((number-is x.generation name.generation first.1 i)
    == (number-is y.generation name.generation second.1 i)))
    ∙ ((λ i. same-itself name.path i && (name.generation == name.generation)) ∙ itself name.generation)
  where
    itself : (n : ℕ) → (n == n) ≡ true
    itself n = grind (arith, nat_tests)

-- the others than a file of the name stay as they are
others-stay : (name : FileName) (change : File → File) (x : File) → is_named name x ≡ true →
    (fs : List File) → AllByRecursion (λ y. same_file x y ≡ false) fs →
    change_named name change fs ≡ fs
others-stay name change x own [] a = refl
others-stay name change x own (f ∷ fs) a =
    step (is_named name f) refl (others-stay name change x own fs a.1)
  where
    step : (b : Bool) → is_named name f ≡ b → change_named name change fs ≡ fs →
        cond b (change f) f ∷ change_named name change fs ≡ f ∷ fs
    step true k more = absurd (true≢false (sym (both-named name x f own k) ∙ a.0))
    step false k more = ap (λ (gs : List File). f ∷ gs) more

-- what is kept of the file of the name in the place of what was
module _ (name : FileName) (change : File → File) where
  set-hidden : (hs : List HiddenFile) (i : ℕ) (v w : HiddenFile) →
      position_or_len (has_name name) hs ≡ i → slice_get hs i ≡ Some v →
      hidden_file w ≡ change (hidden_file v) → IsDistinct same_file (hidden_of hs) →
      hidden_of (slice_set hs i w) ≡ change_named name change (hidden_of hs)
  unfolding IsDistinct
  set-hidden [] i v w p g k d = absurd (cc)
  set-hidden (h ∷ hs) i v w p g k d =
      step (has_name name h) refl p (λ j q m. set-hidden hs j v w q m k d.1)
    where
      step : (b : Bool) → has_name name h ≡ b →
          cond (not b) (1 + position_or_len (has_name name) hs) 0 ≡ i →
          ((j : ℕ) → position_or_len (has_name name) hs ≡ j → slice_get hs j ≡ Some v →
          hidden_of (slice_set hs j w) ≡ change_named name change (hidden_of hs)) →
          hidden_of (slice_set (h ∷ hs) i w)
          ≡ cond b (change (hidden_file h)) (hidden_file h) ∷ change_named name change (hidden_of hs)
      step true own q more = first i (sym q) g
        where
          first : (j : ℕ) → j ≡ 0 → slice_get (h ∷ hs) j ≡ Some v →
              hidden_of (slice_set (h ∷ hs) j w)
              ≡ change (hidden_file h) ∷ change_named name change (hidden_of hs)
          first zero z m =
              let same : v ≡ h = cc in
              let here : hidden_file w ≡ change (hidden_file h) =
              k ∙ ap (λ (x : HiddenFile). change (hidden_file x)) same in
              let rest : hidden_of hs ≡ change_named name change (hidden_of hs) =
              sym (others-stay name change (hidden_file h) own (hidden_of hs) d.0) in
              λ n. here n ∷ rest n
          first (suc j) z m = absurd (omega arith)
      step false own q more = later i (sym q) g
        where
          later : (j : ℕ) → j ≡ 1 + position_or_len (has_name name) hs →
              slice_get (h ∷ hs) j ≡ Some v →
              hidden_of (slice_set (h ∷ hs) j w)
              ≡ hidden_file h ∷ change_named name change (hidden_of hs)
          later zero z m = absurd (omega arith)
          later (suc j) z m = ap (λ (fs : List File). hidden_file h ∷ fs) (more j (omega arith) m)

  pub hidden-changed : (hs : List HiddenFile) (i : ℕ) (v w : HiddenFile) →
      Some i ≡ position (has_name name) hs → v ≡ get_or hs i v →
      hidden_file w ≡ change (hidden_file v) → IsDistinct same_file (hidden_of hs) →
      hidden_of (slice_set hs i w) ≡ change_named name change (hidden_of hs)
  hidden-changed hs i v w e h k d =
      set-hidden hs i v w (sym (place-is name hs i e).0) (got-there name hs i v e h) k d

  -- ---- the present files beside it

  first-none : (a b : Bool) → (a || b) ≡ false → a ≡ false
  first-none true b h = h
  first-none false b h = refl

  rest-none : (a b : Bool) → (a || b) ≡ false → b ≡ false
  rest-none true b h = absurd (cc)
  rest-none false b h = h

  none-of : (x : File) (fs : List File) → list_any (same_file x) fs ≡ false →
      AllByRecursion (λ y. same_file x y ≡ false) fs
  none-of x [] h = tt
  none-of x (f ∷ fs) h = (
    first-none (same_file x f) (list_any (same_file x) fs) h,
    none-of x fs (rest-none (same_file x f) (list_any (same_file x) fs) h),
  )

  not-any : (b : Bool) → not b ≡ true → b ≡ false
  not-any true h = absurd (cc)
  not-any false h = refl

  its-own : (hs : List HiddenFile) (i : ℕ) (v : HiddenFile) (fs : List File) →
      slice_get hs i ≡ Some v →
      list_all (λ f. not (list_any (same_file f) fs)) (hidden_of hs) ≡ true →
      list_any (same_file (hidden_file v)) fs ≡ false
  its-own [] i v fs g a = absurd (cc)
  its-own (h ∷ hs) zero v fs g a =
      let same : h ≡ v = cc in
      let alone = both (not (list_any (same_file (hidden_file h)) fs))
      (list_all (λ (f : File). not (list_any (same_file f) fs)) (hidden_of hs)) a in
      ap (λ (x : HiddenFile). list_any (same_file (hidden_file x)) fs) (sym same)
      ∙ not-any (list_any (same_file (hidden_file h)) fs) alone.0
  its-own (h ∷ hs) (suc i) v fs g a =
      its-own hs i v fs g
      (both (not (list_any (same_file (hidden_file h)) fs))
      (list_all (λ (f : File). not (list_any (same_file f) fs)) (hidden_of hs)) a).1

  pub present-stays : (hs : List HiddenFile) (i : ℕ) (v : HiddenFile) (fs : List File) →
      Some i ≡ position (has_name name) hs → v ≡ get_or hs i v →
      list_all (λ f. not (list_any (same_file f) fs)) (hidden_of hs) ≡ true →
      change_named name change fs ≡ fs
  present-stays hs i v fs e h a =
      others-stay name change (hidden_file v) (is-named name hs i v e h) fs
      (none-of (hidden_file v) fs (its-own hs i v fs (got-there name hs i v e h) a))

-- ---- it is taken out

-- the others than a file of the name stay
others-kept : (name : FileName) (x : File) → is_named name x ≡ true → (fs : List File) →
    AllByRecursion (λ y. same_file x y ≡ false) fs → without_named name fs ≡ fs
others-kept name x own [] a = refl
others-kept name x own (f ∷ fs) a =
    step (is_named name f) refl (others-kept name x own fs a.1)
  where
    step : (b : Bool) → is_named name f ≡ b → without_named name fs ≡ fs →
        cond (not b) (f ∷ without_named name fs) (without_named name fs) ≡ f ∷ fs
    step true k more = absurd (true≢false (sym (both-named name x f own k) ∙ a.0))
    step false k more = ap (λ (gs : List File). f ∷ gs) more

take-hidden : (name : FileName) (hs : List HiddenFile) (i : ℕ) (v : HiddenFile) →
    position_or_len (has_name name) hs ≡ i → slice_get hs i ≡ Some v →
    IsDistinct same_file (hidden_of hs) →
    hidden_of (remove hs i) ≡ without_named name (hidden_of hs)
unfolding IsDistinct
take-hidden name [] i v p g d = absurd (cc)
take-hidden name (h ∷ hs) i v p g d =
    step (has_name name h) refl p (λ j q m. take-hidden name hs j v q m d.1)
  where
    step : (b : Bool) → has_name name h ≡ b →
        cond (not b) (1 + position_or_len (has_name name) hs) 0 ≡ i →
        ((j : ℕ) → position_or_len (has_name name) hs ≡ j → slice_get hs j ≡ Some v →
        hidden_of (remove hs j) ≡ without_named name (hidden_of hs)) →
        hidden_of (remove (h ∷ hs) i)
        ≡ cond (not b) (hidden_file h ∷ without_named name (hidden_of hs))
        (without_named name (hidden_of hs))
    step true own q more = first i (sym q)
      where
        first : (j : ℕ) → j ≡ 0 →
            hidden_of (remove (h ∷ hs) j) ≡ without_named name (hidden_of hs)
        first zero z = sym (others-kept name (hidden_file h) own (hidden_of hs) d.0)
        first (suc j) z = absurd (omega arith)
    step false own q more = later i (sym q) g
      where
        later : (j : ℕ) → j ≡ 1 + position_or_len (has_name name) hs →
            slice_get (h ∷ hs) j ≡ Some v →
            hidden_of (remove (h ∷ hs) j) ≡ hidden_file h ∷ without_named name (hidden_of hs)
        later zero z m = absurd (omega arith)
        later (suc j) z m = ap (λ (fs : List File). hidden_file h ∷ fs) (more j (omega arith) m)

-- ---- it becomes the present file of its path

named-alone : (name : FileName) (hs : List HiddenFile) (i : ℕ) (v : HiddenFile) →
    Some i ≡ position (has_name name) hs → v ≡ get_or hs i v →
    file_named (hidden_of hs) name ≡ Some (file_kept name.path v.kept)
named-alone name hs i v e h =
    let path : v.path ≡ name.path = (named-is name (hidden_file v) (is-named name hs i v e h)).0 in
    found-alone name hs
    ∙ (ap (λ (o : Option HiddenFile). first_hidden o None) (is-there name hs i v e h)
    ∙ ap (λ (p : List ℕ). Some (file_kept p v.kept)) path)

-- in the place of the former one, which takes its own
pub turned-swapped : (name : FileName) (fs after : List File) (hs : List HiddenFile) (i : ℕ)
    (v : HiddenFile) (former : KeptFile) → Some i ≡ position (has_name name) hs →
    v ≡ get_or hs i v → file_at fs name.path ≡ Some (file_kept name.path former) →
    after ≡ in_place name.path (file_kept name.path v.kept) fs →
    IsDistinct same_file (hidden_of hs) →
    held_with after (hidden_of (slice_set hs i (record v { kept = former })))
    ≡ turned name (held_with fs (hidden_of hs))
turned-swapped name fs after hs i v former e h there placed d =
    let path : v.path ≡ name.path = (named-is name (hidden_file v) (is-named name hs i v e h)).0 in
    let found : file_named (hidden_of hs) name ≡ Some (file_kept name.path v.kept) =
    named-alone name hs i v e h in
    let beside : hidden_of (slice_set hs i (record v { kept = former }))
    ≡ change_named name (λ g. file_kept name.path former) (hidden_of hs) =
    hidden-changed name (λ (g : File). file_kept name.path former) hs i v (record v { kept = former }) e h
    (ap (λ (p : List ℕ). file_kept p former) path) d in
    (λ j. held_with (placed j) (beside j))
    ∙ (λ j. turned_to name (sym found j) (sym there j) (held_with fs (hidden_of hs)))

-- where the path has none, by an empty one that holds its place
pub turned-placed : (name : FileName) (fs first last : List File) (hs : List HiddenFile) (i : ℕ)
    (v : HiddenFile) (blank : KeptFile) → Some i ≡ position (has_name name) hs →
    v ≡ get_or hs i v → file_at fs name.path ≡ None →
    first ≡ put_file (file_kept name.path blank) fs →
    last ≡ in_place name.path (file_kept name.path v.kept) first →
    IsDistinct same_file (hidden_of hs) →
    held_with last (hidden_of (remove hs i)) ≡ turned name (held_with fs (hidden_of hs))
turned-placed name fs first last hs i v blank e h none put placed d =
    let f = file_kept name.path v.kept in
    let found : file_named (hidden_of hs) name ≡ Some f = named-alone name hs i v e h in
    let whole : last ≡ put_file f fs =
    placed ∙ (ap (in_place name.path f) put
    ∙ replaced-put name.path f (file_kept name.path blank) fs refl refl none) in
    let left : hidden_of (remove hs i) ≡ without_named name (hidden_of hs) =
    take-hidden name hs i v (sym (place-is name hs i e).0) (got-there name hs i v e h) d in
    (λ j. held_with (whole j) (left j))
    ∙ (λ j. turned_to name (sym found j) (sym none j) (held_with fs (hidden_of hs)))

-- nothing of the name is beside the present ones
pub turned-nothing : (name : FileName) (fs : List File) (hs : List HiddenFile) →
    None ≡ position (has_name name) hs →
    held_with fs (hidden_of hs) ≡ turned name (held_with fs (hidden_of hs))
turned-nothing name fs hs e =
    ap (λ (o : Option File). turned_to name o (file_at fs name.path) (held_with fs (hidden_of hs)))
    (sym (none-hidden name hs e))
