-- The entries of a map by path, and the files that they are.
use Rattle.std.proofs.Common.{◌≡◌, ℕ, ◌==◌, List, [], ◌∷◌, Bool, true, false, ◌&&◌, cond, Option, Some, None, is_some, option_map, Result, Ok, Err, OnOk, OnErr, refl, sym, ap, subst, ◌∙◌}
use Rattle.std.proofs.lemmas.Map.Steps.{set_value_same}
use Rattle.std.specs.BTreeMap.{is_at, insert_entry}
use Rattle.std.specs.List.{AllByRecursion}
use Rattle.std.specs.List.Sorted.{IsStrictlySortedBy}
use Rattle.std.specs.Map.{lookup, set_value, keys_of}
use Rattle.std.specs.Ordering.{is_eq, is_lt, match_ordering}
use Rattle.std.specs.declared.cmp.Ordering.{Ordering}
use Rattle.std.specs.declared.cmp.Ordering.TheVariants.{Less, Equal, Greater}
use Rattle.portal_base.specs.Names.{is_same}
use Rattle.portal_base.specs.PathOrder.{path_order}
use Rattle.portal_base.specs.Content.{file_at, file_named, is_named}
use Rattle.portal_base.specs.FileChanges.{change_named, put_file, written}
use Rattle.portal_base.specs.declared.files.File.{File}
use Rattle.portal_base.specs.declared.files.FileName.{FileName}
use Rattle.file_generations.specs.Generations.{in_place}
use Rattle.host_tree.proofs.Entries.{same-is, same-key}
use Rattle.tree_files.specs.Kept.{file_kept, file_of, files_of, kept_as, kept_written, of_generation}
use Rattle.tree_files.specs.declared.kept.KeptFile.{KeptFile}

abbrev Entries : Type 0
Entries = List (List ℕ × KeptFile)

-- ---- the file of a path

found-one : (p : List ℕ) (e : List ℕ × KeptFile) (b c : Bool) (o : Option File)
    (l : Option KeptFile) → is_same e.0 p ≡ b → b ≡ c → o ≡ option_map (file_kept p) l →
    cond b (Some (file_of e)) o ≡ option_map (file_kept p) (cond c (Some e.1) l)
found-one p e true true o l h k i =
    ap (λ (q : List ℕ). Some (file_kept q e.1)) (same-is e.0 p h)
found-one p e false false o l h k i = i
found-one p e true false o l h k i = absurd (cc)
found-one p e false true o l h k i = absurd (cc)

pub found-at : (p : List ℕ) (es : Entries) →
    file_at (files_of es) p ≡ option_map (file_kept p) (lookup (is_at (path_order p)) es)
found-at p [] = refl
found-at p (e ∷ es) =
    found-one p e (is_same e.0 p) (is_at (path_order p) e.0) (file_at (files_of es) p)
    (lookup (is_at (path_order p)) es) refl (same-key p e.0) (found-at p es)

some-kept : (p : List ℕ) (o : Option KeptFile) → is_some (option_map (file_kept p) o) ≡ is_some o
some-kept p None = refl
some-kept p (Some k) = refl

pub has-at : (p : List ℕ) (es : Entries) →
    is_some (file_at (files_of es) p) ≡ is_some (lookup (is_at (path_order p)) es)
has-at p es = ap is_some (found-at p es) ∙ some-kept p (lookup (is_at (path_order p)) es)

none-is : (o : Option File) → is_some o ≡ false → o ≡ None
none-is None e = refl
none-is (Some f) e = absurd (cc)

pub has-none : (p : List ℕ) (es : Entries) → is_some (lookup (is_at (path_order p)) es) ≡ false →
    file_at (files_of es) p ≡ None
has-none p es e = none-is (file_at (files_of es) p) (has-at p es ∙ e)

-- ---- the file of a name, where each path has one

apart-key : (p k : List ℕ) → path_order p k ≡ Less → is_same k p ≡ false
apart-key p k e = same-key p k ∙ ap is_eq e

unnamed : (b d : Bool) (f : File) (o : Option File) → b ≡ false → o ≡ None →
    cond (b && d) (Some f) o ≡ None
unnamed false d f o h k = k
unnamed true d f o h k = absurd (cc)

-- paths behind that of a name are others
named-behind : (name : FileName) (es : Entries) →
    AllByRecursion (λ k. path_order name.path k ≡ Less) (keys_of es) →
    file_named (files_of es) name ≡ None
named-behind name [] h = refl
named-behind name (e ∷ es) h =
    unnamed (is_same e.0 name.path) (e.1.generation == name.generation) (file_of e)
    (file_named (files_of es) name) (apart-key name.path e.0 h.0) (named-behind name es h.1)

pub found-named : (name : FileName) (es : Entries) → IsStrictlySortedBy path_order (keys_of es) →
    file_named (files_of es) name
    ≡ option_map (file_kept name.path)
    (of_generation name.generation (lookup (is_at (path_order name.path)) es))
unfolding IsStrictlySortedBy
found-named name [] s = refl
found-named name (e ∷ es) s =
    step (is_same e.0 name.path) (is_at (path_order name.path) e.0) refl (same-key name.path e.0)
    (found-named name es s.1)
  where
    first : (d : Bool) → is_same e.0 name.path ≡ true →
        cond (true && d) (Some (file_of e)) (file_named (files_of es) name)
        ≡ option_map (file_kept name.path) (cond d (Some e.1) None)
    first true h = ap (λ (q : List ℕ). Some (file_kept q e.1)) (same-is e.0 name.path h)
    first false h =
        named-behind name es (subst (λ (p : List ℕ).
        AllByRecursion (λ q. path_order p q ≡ Less) (keys_of es)) (same-is e.0 name.path h) s.0)

    step : (b c : Bool) → is_same e.0 name.path ≡ b → b ≡ c →
        file_named (files_of es) name
        ≡ option_map (file_kept name.path)
        (of_generation name.generation (lookup (is_at (path_order name.path)) es)) →
        cond (b && e.1.generation == name.generation) (Some (file_of e))
        (file_named (files_of es) name)
        ≡ option_map (file_kept name.path) (of_generation name.generation
        (cond c (Some e.1) (lookup (is_at (path_order name.path)) es)))
    step true true h k more = first (e.1.generation == name.generation) h
    step false false h k more = more
    step true false h k more = absurd (cc)
    step false true h k more = absurd (cc)

-- ---- no file of a name

pub nothing-changed : (name : FileName) (change : File → File) (fs : List File) →
    file_named fs name ≡ None → change_named name change fs ≡ fs
nothing-changed name change [] e = refl
nothing-changed name change (f ∷ fs) e =
    step (is_named name f) e (nothing-changed name change fs)
  where
    step : (b : Bool) → cond b (Some f) (file_named fs name) ≡ None →
        (file_named fs name ≡ None → change_named name change fs ≡ fs) →
        cond b (change f) f ∷ change_named name change fs ≡ f ∷ fs
    step true e more = absurd (cc)
    step false e more = ap (λ (gs : List File). f ∷ gs) (more e)

pub not-there : (name : FileName) (change : File → File) (es : Entries) →
    IsStrictlySortedBy path_order (keys_of es) → None ≡ lookup (is_at (path_order name.path)) es →
    change_named name change (files_of es) ≡ files_of es
not-there name change es s e = nothing-changed name change (files_of es)
    (found-named name es s
    ∙ ap (λ (o : Option KeptFile). option_map (file_kept name.path) (of_generation name.generation o))
    (sym e))

-- ---- one value changed

unnamed-same : (b d : Bool) (f g : File) → b ≡ false → cond (b && d) g f ≡ f
unnamed-same false d f g e = refl
unnamed-same true d f g e = absurd (cc)

unchanged : (name : FileName) (change : File → File) (es : Entries) →
    AllByRecursion (λ k. path_order name.path k ≡ Less) (keys_of es) →
    change_named name change (files_of es) ≡ files_of es
unchanged name change [] h = refl
unchanged name change (e ∷ es) h =
    let one : cond (is_named name (file_of e)) (change (file_of e)) (file_of e) ≡ file_of e =
    unnamed-same (is_same e.0 name.path) (e.1.generation == name.generation) (file_of e)
    (change (file_of e)) (apart-key name.path e.0 h.0) in
    let rest : change_named name change (files_of es) ≡ files_of es =
    unchanged name change es h.1 in
    λ i. one i ∷ rest i

changed-one : (b d : Bool) (f g : File) → b ≡ true → d ≡ true → cond (b && d) g f ≡ g
changed-one true true f g e h = refl
changed-one false d f g e h = absurd (cc)
changed-one true false f g e h = absurd (cc)

some-is : {X : Type 0} (a b : X) → Some a ≡ Some b → a ≡ b
some-is a b e = cc

module _ (name : FileName) (change : File → File) (v w : KeptFile)
    (z : (v.generation == name.generation) ≡ true)
    (keeps : (k : List ℕ) → file_kept k w ≡ change (file_kept k v)) where
  set-one : (e : List ℕ × KeptFile) (es : Entries) (b : Bool) →
      is_at (path_order name.path) e.0 ≡ b →
      cond b (Some e.1) (lookup (is_at (path_order name.path)) es) ≡ Some v →
      IsStrictlySortedBy path_order (keys_of (e ∷ es)) →
      (lookup (is_at (path_order name.path)) es ≡ Some v →
      files_of (set_value (is_at (path_order name.path)) es w)
      ≡ change_named name change (files_of es)) →
      files_of (cond b ((e.0, w) ∷ es) (e ∷ set_value (is_at (path_order name.path)) es w))
      ≡ change_named name change (files_of (e ∷ es))
  unfolding IsStrictlySortedBy
  set-one e es true h l s more =
      let same : is_same e.0 name.path ≡ true = same-key name.path e.0 ∙ h in
      let value : e.1 ≡ v = some-is e.1 v l in
      let its : (e.1.generation == name.generation) ≡ true =
      ap (λ (x : KeptFile). x.generation == name.generation) value ∙ z in
      let one : file_of (e.0, w) ≡ cond (is_named name (file_of e)) (change (file_of e)) (file_of e) =
      keeps e.0 ∙ (ap (λ (x : KeptFile). change (file_of (e.0, x))) (sym value)
      ∙ sym (changed-one (is_same e.0 name.path) (e.1.generation == name.generation) (file_of e)
      (change (file_of e)) same its)) in
      let rest : files_of es ≡ change_named name change (files_of es) =
      sym (unchanged name change es (subst (λ (p : List ℕ).
      AllByRecursion (λ k. path_order p k ≡ Less) (keys_of es)) (same-is e.0 name.path same) s.0)) in
      λ i. one i ∷ rest i
  set-one e es false h l s more =
      let one : file_of e ≡ cond (is_named name (file_of e)) (change (file_of e)) (file_of e) =
      sym (unnamed-same (is_same e.0 name.path) (e.1.generation == name.generation) (file_of e)
      (change (file_of e)) (same-key name.path e.0 ∙ h)) in
      let rest = more l in
      λ i. one i ∷ rest i

  set-named : (es : Entries) → lookup (is_at (path_order name.path)) es ≡ Some v →
      IsStrictlySortedBy path_order (keys_of es) →
      files_of (set_value (is_at (path_order name.path)) es w)
      ≡ change_named name change (files_of es)
  unfolding IsStrictlySortedBy
  set-named [] l s = absurd (cc)
  set-named (e ∷ es) l s =
      set-one e es (is_at (path_order name.path) e.0) refl l s (λ k. set-named es k s.1)

pub change-none : (es fs : Entries) (p : List ℕ) (v w : KeptFile) → w ≡ v →
    Some v ≡ lookup (is_at (path_order p)) es → fs ≡ set_value (is_at (path_order p)) es w →
    files_of fs ≡ files_of es
change-none es fs p v w e l s =
    ap files_of (s ∙ (ap (set_value (is_at (path_order p)) es) e
    ∙ set_value_same (is_at (path_order p)) es v (sym l)))

-- what is kept there is changed, where it is of the name's generation
pub change-done : (name : FileName) (stored : KeptFile → KeptFile) (change : File → File)
    (v w : KeptFile) (es fs : Entries) →
    ((k : List ℕ) (x : KeptFile) → file_kept k (stored x) ≡ change (file_kept k x)) →
    w ≡ kept_as name.generation stored v → Some v ≡ lookup (is_at (path_order name.path)) es →
    IsStrictlySortedBy path_order (keys_of es) →
    fs ≡ set_value (is_at (path_order name.path)) es w →
    files_of fs ≡ change_named name change (files_of es)
change-done name stored change v w es fs keeps is l s e =
    step (v.generation == name.generation) refl is
  where
    step : (b : Bool) → (v.generation == name.generation) ≡ b → w ≡ cond b (stored v) v →
        files_of fs ≡ change_named name change (files_of es)
    step true z k =
        ap files_of e
        ∙ set-named name change v w z (λ q. ap (file_kept q) k ∙ keeps q v) es (sym l) s
    step false z k =
        change-none es fs name.path v w k l e
        ∙ sym (nothing-changed name change (files_of es)
        (found-named name es s
        ∙ (ap (λ (o : Option KeptFile).
        option_map (file_kept name.path) (of_generation name.generation o)) (sym l)
        ∙ ap (λ (b : Bool). option_map (file_kept name.path) (cond b (Some v) None)) z)))

pub keeps-written : (offset : ℕ) (content : List ℕ) (moment : ℕ) (k : List ℕ) (s : KeptFile) →
    file_kept k (kept_written offset content moment s)
    ≡ written offset content moment (file_kept k s)
keeps-written offset [] moment k s = refl
keeps-written offset (b ∷ bs) moment k s = refl

-- a value in the place of another
pub set-placed : (p : List ℕ) (v w : KeptFile) (es : Entries) →
    lookup (is_at (path_order p)) es ≡ Some v → IsStrictlySortedBy path_order (keys_of es) →
    files_of (set_value (is_at (path_order p)) es w) ≡ in_place p (file_kept p w) (files_of es)
unfolding IsStrictlySortedBy
set-placed p v w [] l s = refl
set-placed p v w (e ∷ es) l s =
    step (is_at (path_order p) e.0) refl l (λ k. set-placed p v w es k s.1)
  where
    others : (gs : Entries) → AllByRecursion (λ k. path_order p k ≡ Less) (keys_of gs) →
        files_of gs ≡ in_place p (file_kept p w) (files_of gs)
    others [] h = refl
    others (g ∷ gs) h = λ i. cond (sym (apart-key p g.0 h.0) i) (file_kept p w) (file_of g) ∷ others gs h.1 i

    step : (b : Bool) → is_at (path_order p) e.0 ≡ b →
        cond b (Some e.1) (lookup (is_at (path_order p)) es) ≡ Some v →
        (lookup (is_at (path_order p)) es ≡ Some v →
        files_of (set_value (is_at (path_order p)) es w) ≡ in_place p (file_kept p w) (files_of es)) →
        files_of (cond b ((e.0, w) ∷ es) (e ∷ set_value (is_at (path_order p)) es w))
        ≡ cond (is_same e.0 p) (file_kept p w) (file_of e) ∷ in_place p (file_kept p w) (files_of es)
    step true h k more =
        let same : is_same e.0 p ≡ true = same-key p e.0 ∙ h in
        let rest : files_of es ≡ in_place p (file_kept p w) (files_of es) =
        others es (subst (λ (q : List ℕ). AllByRecursion (λ k. path_order q k ≡ Less) (keys_of es)) (same-is e.0 p same) s.0) in
        let one : file_of (e.0, w) ≡ cond (is_same e.0 p) (file_kept p w) (file_of e) =
        ap (λ (q : List ℕ). file_kept q w) (same-is e.0 p same)
        ∙ ap (λ (b : Bool). cond b (file_kept p w) (file_of e)) (sym same) in
        λ i. one i ∷ rest i
    step false h k more =
        let one : file_of e ≡ cond (is_same e.0 p) (file_kept p w) (file_of e) =
        ap (λ (b : Bool). cond b (file_kept p w) (file_of e)) (sym (same-key p e.0 ∙ h)) in
        let rest = more k in
        λ i. one i ∷ rest i

-- ---- one more

put-entry : (k : List ℕ) (v : KeptFile) (es : Entries) → lookup (is_at (path_order k)) es ≡ None →
    files_of (insert_entry path_order es k v) ≡ put_file (file_kept k v) (files_of es)
put-entry k v [] l = refl
put-entry k v (e ∷ es) l = step (path_order k e.0) l (put-entry k v es)
  where
    step : (o : Ordering) →
        cond (is_eq o) (Some e.1) (lookup (is_at (path_order k)) es) ≡ None →
        (lookup (is_at (path_order k)) es ≡ None →
        files_of (insert_entry path_order es k v) ≡ put_file (file_kept k v) (files_of es)) →
        files_of (match_ordering o ((k, v) ∷ e ∷ es) ((e.0, v) ∷ es)
        (e ∷ insert_entry path_order es k v))
        ≡ cond (is_lt o) (file_kept k v ∷ files_of (e ∷ es))
        (file_of e ∷ put_file (file_kept k v) (files_of es))
    step Less m more = refl
    step Equal m more = absurd (cc)
    step Greater m more = ap (λ (fs : List File). file_of e ∷ fs) (more m)

none-there : (p : List ℕ) (o : Option KeptFile) → option_map (file_kept p) o ≡ None → o ≡ None
none-there p None e = refl
none-there p (Some k) e = absurd (cc)

pub none-in-map : (p : List ℕ) (es : Entries) → file_at (files_of es) p ≡ None →
    lookup (is_at (path_order p)) es ≡ None
none-in-map p es e = none-there p (lookup (is_at (path_order p)) es) (sym (found-at p es) ∙ e)

pub inserted-is : (es fs : Entries) (p : List ℕ) (v : KeptFile) →
    file_at (files_of es) p ≡ None → fs ≡ insert_entry path_order es p v →
    files_of fs ≡ put_file (file_kept p v) (files_of es)
inserted-is es fs p v n e = ap files_of e ∙ put-entry p v es (none-in-map p es n)

-- ---- an outcome

pub ok-then : {A E : Type 0} (r : Result A E) (P Q : Type 0) → (P → Q) → OnOk r P → OnOk r Q
ok-then (Ok u) P Q f p = f p
ok-then (Err e) P Q f p = tt

pub err-then : {A E : Type 0} (r : Result A E) (P Q : Type 0) → (P → Q) → OnErr r P → OnErr r Q
err-then (Ok u) P Q f p = tt
err-then (Err e) P Q f p = f p
