-- The entries of a map by path, and the files that they are.
use Rattle.std.proofs.Common.{◌≡◌, ℕ, ◌==◌, List, [], ◌∷◌, ◌++◌, Bool, true, false, not, ◌&&◌, cond, Option, Some, None, map, option_map, is_some, length, Result, Ok, Err, OnOk, OnErr, refl, sym, ap, subst, ◌∙◌}
use Rattle.std.proofs.lemmas.Map.Steps.{set_value_same}
use Rattle.std.specs.BTreeMap.{is_at, insert_entry}
use Rattle.std.specs.Cmp.Lexicographic.{nat_list_eq_equiv, bytes_decides}
use Rattle.std.specs.List.{list_all, AllByRecursion}
use Rattle.std.specs.List.Sorted.{IsStrictlySortedBy}
use Rattle.std.specs.Map.{lookup, set_value, remove_entry, keys_of}
use Rattle.std.specs.Ordering.{is_eq, is_lt, ordering_reverse, match_ordering}
use Rattle.std.specs.declared.cmp.Ordering.{Ordering}
use Rattle.std.specs.declared.cmp.Ordering.TheVariants.{Less, Equal, Greater}
use Rattle.portal_base.specs.Names.{is_same, is_host_path}
use Rattle.portal_base.specs.PathOrder.{path_order}
use Rattle.portal_base.specs.PathOrders.{path_order_total, path_order_ties}
use Rattle.portal_base.specs.Content.{file_at, file_named, is_named, paths_of, is_folder, has_room, content_of, look_of, look_at, ArePlaced, IsTree}
use Rattle.portal_base.specs.declared.files.File.{File}
use Rattle.portal_base.specs.declared.files.FileName.{FileName}
use Rattle.portal_base.specs.declared.files.Look.{Look}
use Rattle.host_tree.specs.Stored.{DoesStored, file_of, files_of, of_generation, stored_of, stored_resized, stored_written}
use Rattle.file_generations.specs.Generations.{in_place}
use Rattle.host_tree.specs.Trees.{DoesFiles, has_file, written, resized, change_named, put_file, without}
use Rattle.host_tree.specs.declared.tree.TreeDone.{TreeDone}
use Rattle.host_tree.specs.declared.tree.TreeDone.TheVariants as done
use Rattle.host_tree.specs.declared.files.Stored.{Stored}

-- ---- paths that are the same

pub same-key : (p k : List ℕ) → is_same k p ≡ is_at (path_order p) k
same-key p k = nat_list_eq_equiv.symm k p ∙ path_order_ties p k

pub same-is : (a b : List ℕ) → is_same a b ≡ true → a ≡ b
same-is a b e = (bytes_decides a b).0 e

pub same-itself : (a : List ℕ) → is_same a a ≡ true
same-itself a = (bytes_decides a a).1 refl

-- ---- the file of a path or of a name

found-one : (b c d : Bool) (e : List ℕ × Stored) (o : Option File) (l : Option Stored) → d ≡ true → b ≡ c → option_map stored_of o ≡ l → option_map stored_of (cond (b && d) (Some (file_of e)) o) ≡ cond c (Some e.1) l
found-one true true true e o l h k i = refl
found-one false false true e o l h k i = i
found-one true false true e o l h k i = absurd (cc)
found-one false true true e o l h k i = absurd (cc)
found-one b c false e o l h k i = absurd (cc)

and-true : (b : Bool) → b ≡ (b && true)
and-true true = refl
and-true false = refl

pub found-at : (p : List ℕ) (es : List (List ℕ × Stored)) → option_map stored_of (file_at (files_of es) p) ≡ lookup (is_at (path_order p)) es
found-at p [] = refl
found-at p (e ∷ es) =
    ap (λ (b : Bool). option_map stored_of (cond b (Some (file_of e)) (file_at (files_of es) p))) (and-true (is_same e.0 p))
    ∙ found-one (is_same e.0 p) (is_at (path_order p) e.0) true e (file_at (files_of es) p) (lookup (is_at (path_order p)) es) refl (same-key p e.0) (found-at p es)

-- ---- whether there is one

pub some-known : (o : Option File) (s : Stored) → Some s ≡ option_map stored_of o → true ≡ is_some o
some-known None s e = absurd (cc)
some-known (Some f) s e = refl

pub none-known : (o : Option File) → None ≡ option_map stored_of o → false ≡ is_some o
none-known None e = refl
none-known (Some f) e = absurd (cc)

-- ---- the file of a name, where each path has one

apart-key : (p k : List ℕ) → path_order p k ≡ Less → is_same k p ≡ false
apart-key p k e = same-key p k ∙ ap is_eq e

unnamed : (b d : Bool) (f : File) (o : Option File) → b ≡ false → o ≡ None → cond (b && d) (Some f) o ≡ None
unnamed false d f o h k = k
unnamed true d f o h k = absurd (cc)

-- paths behind that of a name are others
named-behind : (name : FileName) (es : List (List ℕ × Stored)) → AllByRecursion (λ k. path_order name.path k ≡ Less) (keys_of es) → file_named (files_of es) name ≡ None
named-behind name [] h = refl
named-behind name (e ∷ es) h = unnamed (is_same e.0 name.path) (e.1.generation == name.generation) (file_of e) (file_named (files_of es) name) (apart-key name.path e.0 h.0) (named-behind name es h.1)

pub found-named : (name : FileName) (es : List (List ℕ × Stored)) → IsStrictlySortedBy path_order (keys_of es) → option_map stored_of (file_named (files_of es) name) ≡ of_generation name.generation (lookup (is_at (path_order name.path)) es)
unfolding IsStrictlySortedBy
found-named name [] s = refl
found-named name (e ∷ es) s = step (is_same e.0 name.path) (is_at (path_order name.path) e.0) refl (same-key name.path e.0) (found-named name es s.1)
  where
    first : (d : Bool) → is_same e.0 name.path ≡ true → option_map stored_of (cond (true && d) (Some (file_of e)) (file_named (files_of es) name)) ≡ cond d (Some e.1) None
    first true h = refl
    first false h = ap (option_map stored_of) (named-behind name es (subst (λ (p : List ℕ). AllByRecursion (λ q. path_order p q ≡ Less) (keys_of es)) (same-is e.0 name.path h) s.0))

    step : (b c : Bool) → is_same e.0 name.path ≡ b → b ≡ c → option_map stored_of (file_named (files_of es) name) ≡ of_generation name.generation (lookup (is_at (path_order name.path)) es)
        → option_map stored_of (cond (b && e.1.generation == name.generation) (Some (file_of e)) (file_named (files_of es) name)) ≡ of_generation name.generation (cond c (Some e.1) (lookup (is_at (path_order name.path)) es))
    step true true h k more = first (e.1.generation == name.generation) h
    step false false h k more = more
    step true false h k more = absurd (cc)
    step false true h k more = absurd (cc)

-- ---- one value changed

unnamed-same : (b d : Bool) (f g : File) → b ≡ false → cond (b && d) g f ≡ f
unnamed-same false d f g e = refl
unnamed-same true d f g e = absurd (cc)

pub unchanged : (name : FileName) (change : File → File) (es : List (List ℕ × Stored)) → AllByRecursion (λ k. path_order name.path k ≡ Less) (keys_of es) → change_named name change (files_of es) ≡ files_of es
unchanged name change [] h = refl
unchanged name change (e ∷ es) h =
    let one : cond (is_named name (file_of e)) (change (file_of e)) (file_of e) ≡ file_of e = unnamed-same (is_same e.0 name.path) (e.1.generation == name.generation) (file_of e) (change (file_of e)) (apart-key name.path e.0 h.0) in
    let rest : change_named name change (files_of es) ≡ files_of es = unchanged name change es h.1 in
    λ i. one i ∷ rest i

changed-one : (b d : Bool) (f g : File) → b ≡ true → d ≡ true → cond (b && d) g f ≡ g
changed-one true true f g e h = refl
changed-one false d f g e h = absurd (cc)
changed-one true false f g e h = absurd (cc)

some-is : {X : Type 0} (a b : X) → Some a ≡ Some b → a ≡ b
some-is a b e = cc

module _ (name : FileName) (change : File → File) (v w : Stored) (z : (v.generation == name.generation) ≡ true) (keeps : (k : List ℕ) → file_of (k, w) ≡ change (file_of (k, v))) where
  set-one : (e : List ℕ × Stored) (es : List (List ℕ × Stored)) (b : Bool) → is_at (path_order name.path) e.0 ≡ b
      → cond b (Some e.1) (lookup (is_at (path_order name.path)) es) ≡ Some v
      → IsStrictlySortedBy path_order (keys_of (e ∷ es))
      → (lookup (is_at (path_order name.path)) es ≡ Some v → files_of (set_value (is_at (path_order name.path)) es w) ≡ change_named name change (files_of es))
      → files_of (cond b ((e.0, w) ∷ es) (e ∷ set_value (is_at (path_order name.path)) es w)) ≡ change_named name change (files_of (e ∷ es))
  unfolding IsStrictlySortedBy
  set-one e es true h l s more =
      let same : is_same e.0 name.path ≡ true = same-key name.path e.0 ∙ h in
      let value : e.1 ≡ v = some-is e.1 v l in
      let one : file_of (e.0, w) ≡ cond (is_named name (file_of e)) (change (file_of e)) (file_of e) =
      keeps e.0 ∙ (ap (λ (x : Stored). change (file_of (e.0, x))) (sym value) ∙ sym (changed-one (is_same e.0 name.path) (e.1.generation == name.generation) (file_of e) (change (file_of e)) same (ap (λ (x : Stored). x.generation == name.generation) value ∙ z))) in
      let rest : files_of es ≡ change_named name change (files_of es) =
      sym (unchanged name change es (subst (λ (p : List ℕ). AllByRecursion (λ k. path_order p k ≡ Less) (keys_of es)) (same-is e.0 name.path same) s.0)) in
      λ i. one i ∷ rest i
  set-one e es false h l s more =
      let one : file_of e ≡ cond (is_named name (file_of e)) (change (file_of e)) (file_of e) =
      sym (unnamed-same (is_same e.0 name.path) (e.1.generation == name.generation) (file_of e) (change (file_of e)) (same-key name.path e.0 ∙ h)) in
      let rest = more l in
      λ i. one i ∷ rest i

  pub set-named : (es : List (List ℕ × Stored)) → lookup (is_at (path_order name.path)) es ≡ Some v → IsStrictlySortedBy path_order (keys_of es)
      → files_of (set_value (is_at (path_order name.path)) es w) ≡ change_named name change (files_of es)
  unfolding IsStrictlySortedBy
  set-named [] l s = refl
  set-named (e ∷ es) l s = set-one e es (is_at (path_order name.path) e.0) refl l s (λ k. set-named es k s.1)

-- ---- one more

pub put-entry : (k : List ℕ) (v : Stored) (es : List (List ℕ × Stored)) → lookup (is_at (path_order k)) es ≡ None → files_of (insert_entry path_order es k v) ≡ put_file (file_of (k, v)) (files_of es)
put-entry k v [] l = refl
put-entry k v (e ∷ es) l = step (path_order k e.0) l (put-entry k v es)
  where
    step : (o : Ordering) → cond (is_eq o) (Some e.1) (lookup (is_at (path_order k)) es) ≡ None
        → (lookup (is_at (path_order k)) es ≡ None → files_of (insert_entry path_order es k v) ≡ put_file (file_of (k, v)) (files_of es))
        → files_of (match_ordering o ((k, v) ∷ e ∷ es) ((e.0, v) ∷ es) (e ∷ insert_entry path_order es k v)) ≡ cond (is_lt o) (file_of (k, v) ∷ files_of (e ∷ es)) (file_of e ∷ put_file (file_of (k, v)) (files_of es))
    step Less m more = refl
    step Equal m more = absurd (cc)
    step Greater m more = ap (λ (fs : List File). file_of e ∷ fs) (more m)

-- ---- one less

unnamed-at : (p : List ℕ) (es : List (List ℕ × Stored)) → AllByRecursion (λ k. path_order p k ≡ Less) (keys_of es) → without p (files_of es) ≡ files_of es
unnamed-at p [] h = refl
unnamed-at p (e ∷ es) h =
    ap (λ (b : Bool). cond (not b) (file_of e ∷ without p (files_of es)) (without p (files_of es))) (apart-key p e.0 h.0)
    ∙ ap (λ (fs : List File). file_of e ∷ fs) (unnamed-at p es h.1)

pub removed-entry : (p : List ℕ) (es : List (List ℕ × Stored)) → IsStrictlySortedBy path_order (keys_of es) → files_of (remove_entry (is_at (path_order p)) es) ≡ without p (files_of es)
unfolding IsStrictlySortedBy
removed-entry p [] s = refl
removed-entry p (e ∷ es) s = step (is_at (path_order p) e.0) refl (removed-entry p es s.1)
  where
    step : (b : Bool) → is_at (path_order p) e.0 ≡ b → files_of (remove_entry (is_at (path_order p)) es) ≡ without p (files_of es)
        → files_of (cond b es (e ∷ remove_entry (is_at (path_order p)) es)) ≡ without p (files_of (e ∷ es))
    step true h more =
        let same : is_same e.0 p ≡ true = same-key p e.0 ∙ h in
        sym (unnamed-at p es (subst (λ (q : List ℕ). AllByRecursion (λ k. path_order q k ≡ Less) (keys_of es)) (same-is e.0 p same) s.0))
        ∙ ap (λ (b : Bool). cond (not b) (file_of e ∷ without p (files_of es)) (without p (files_of es))) (sym same)
    step false h more =
        ap (λ (fs : List File). file_of e ∷ fs) more
        ∙ ap (λ (b : Bool). cond (not b) (file_of e ∷ without p (files_of es)) (without p (files_of es))) (sym (same-key p e.0 ∙ h))

-- ---- a map copied from its first entry on

all-middle : (P : List ℕ → Type 0) (k : List ℕ) (v : Stored) (es fs : List (List ℕ × Stored)) → AllByRecursion P (keys_of (es ++ (k, v) ∷ fs)) → P k
all-middle P k v [] fs h = h.0
all-middle P k v (e ∷ es) fs h = all-middle P k v es fs h.1

-- an entry behind all others
put-last : (k : List ℕ) (v : Stored) (es fs : List (List ℕ × Stored)) → IsStrictlySortedBy path_order (keys_of (es ++ (k, v) ∷ fs)) → insert_entry path_order es k v ++ fs ≡ es ++ (k, v) ∷ fs
unfolding IsStrictlySortedBy
put-last k v [] fs s = refl
put-last k v (e ∷ es) fs s =
    let behind : path_order k e.0 ≡ Greater =
    path_order_total.antisymm k e.0 ∙ ap ordering_reverse (all-middle (λ q. path_order e.0 q ≡ Less) k v es fs s.0) in
    ap (λ (o : Ordering). match_ordering o ((k, v) ∷ e ∷ es) ((e.0, v) ∷ es) (e ∷ insert_entry path_order es k v) ++ fs) behind
    ∙ ap (λ (xs : List (List ℕ × Stored)). e ∷ xs) (put-last k v es fs s.1)

pub copied-on : (map copy next rest more : List (List ℕ × Stored)) (k : List ℕ) (v : Stored) → IsStrictlySortedBy path_order (keys_of map) → copy ++ rest ≡ map → rest ≡ (k, v) ∷ more → next ≡ insert_entry path_order copy k v → next ++ more ≡ map
copied-on map copy next rest more k v s all e put =
    let whole : copy ++ (k, v) ∷ more ≡ map = ap (λ (xs : List (List ℕ × Stored)). copy ++ xs) (sym e) ∙ all in
    ap (λ (xs : List (List ℕ × Stored)). xs ++ more) put
    ∙ (put-last k v copy more (subst (λ (xs : List (List ℕ × Stored)). IsStrictlySortedBy path_order (keys_of xs)) (sym whole) s) ∙ whole)

-- ---- the paths

pub paths-are : (es : List (List ℕ × Stored)) → paths_of (files_of es) ≡ keys_of es
paths-are [] = refl
paths-are (e ∷ es) = ap (λ (ks : List (List ℕ)). e.0 ∷ ks) (paths-are es)

pub tree-of-keys : (es fs : List (List ℕ × Stored)) → keys_of fs ≡ keys_of es → IsTree (files_of es) → IsTree (files_of fs)
tree-of-keys es fs e t =
    let same : paths_of (files_of es) ≡ paths_of (files_of fs) = paths-are es ∙ (sym e ∙ sym (paths-are fs)) in
    record {
      placed = subst ArePlaced same t.placed;
      names = subst (λ (ps : List (List ℕ)). list_all is_host_path ps ≡ true) same t.names;
    }

-- ---- a file put at its place

less-flips : (o : Ordering) → ordering_reverse o ≡ Less → is_eq o ≡ false
less-flips Less e = refl
less-flips Equal e = absurd (cc)
less-flips Greater e = refl

behind-key : (p k : List ℕ) → path_order k p ≡ Less → is_same k p ≡ false
behind-key p k e = same-key p k ∙ less-flips (path_order p k) (sym (path_order_total.antisymm k p) ∙ e)

none-behind : (p : List ℕ) (fs : List File) → AllByRecursion (λ k. path_order p k ≡ Less) (paths_of fs) → file_at fs p ≡ None
none-behind p [] h = refl
none-behind p (f ∷ fs) h = ap (λ (b : Bool). cond b (Some f) (file_at fs p)) (apart-key p f.path h.0) ∙ none-behind p fs h.1

has-put : (P : List ℕ → Type 0) (f : File) (fs : List File) → AllByRecursion P (paths_of (put_file f fs)) → P f.path
has-put P f [] h = h.0
has-put P f (g ∷ gs) h = step (is_lt (path_order f.path g.path)) h (λ k. has-put P f gs k)
  where
    step : (b : Bool) → AllByRecursion P (paths_of (cond b (f ∷ g ∷ gs) (g ∷ put_file f gs))) → (AllByRecursion P (paths_of (put_file f gs)) → P f.path) → P f.path
    step true h more = h.0
    step false h more = more h.1

pub put-is-new : (f : File) (fs : List File) → IsStrictlySortedBy path_order (paths_of (put_file f fs)) → file_at fs f.path ≡ None
unfolding IsStrictlySortedBy
put-is-new f [] s = refl
put-is-new f (g ∷ gs) s = step (is_lt (path_order f.path g.path)) s (put-is-new f gs)
  where
    step : (b : Bool) → IsStrictlySortedBy path_order (paths_of (cond b (f ∷ g ∷ gs) (g ∷ put_file f gs)))
        → (IsStrictlySortedBy path_order (paths_of (put_file f gs)) → file_at gs f.path ≡ None) → file_at (g ∷ gs) f.path ≡ None
    step true s more = none-behind f.path (g ∷ gs) s.0
    step false s more =
        ap (λ (b : Bool). cond b (Some g) (file_at gs f.path)) (behind-key f.path g.path (has-put (λ k. path_order g.path k ≡ Less) f gs s.0)) ∙ more s.1

no-file : (p : List ℕ) (fs : List File) → file_at fs p ≡ None → without p fs ≡ fs
no-file p [] e = refl
no-file p (f ∷ fs) e = step (is_same f.path p) e (no-file p fs)
  where
    step : (b : Bool) → cond b (Some f) (file_at fs p) ≡ None → (file_at fs p ≡ None → without p fs ≡ fs) → cond (not b) (f ∷ without p fs) (without p fs) ≡ f ∷ fs
    step true e more = absurd (cc)
    step false e more = ap (λ (gs : List File). f ∷ gs) (more e)

pub put-and-without : (f : File) (fs : List File) → file_at fs f.path ≡ None → without f.path (put_file f fs) ≡ fs
put-and-without f [] e = ap (λ (b : Bool). cond (not b) (f ∷ []) []) (same-itself f.path)
put-and-without f (g ∷ gs) e = step (is_lt (path_order f.path g.path)) (is_same g.path f.path) refl e (put-and-without f gs)
  where
    step : (b c : Bool) → is_same g.path f.path ≡ c → cond c (Some g) (file_at gs f.path) ≡ None → (file_at gs f.path ≡ None → without f.path (put_file f gs) ≡ gs)
        → without f.path (cond b (f ∷ g ∷ gs) (g ∷ put_file f gs)) ≡ g ∷ gs
    step b true d e more = absurd (cc)
    step true false d e more =
        ap (λ (b : Bool). cond (not b) (f ∷ without f.path (g ∷ gs)) (without f.path (g ∷ gs))) (same-itself f.path)
        ∙ no-file f.path (g ∷ gs) (ap (λ (b : Bool). cond b (Some g) (file_at gs f.path)) d ∙ e)
    step false false d e more =
        ap (λ (b : Bool). cond (not b) (g ∷ without f.path (put_file f gs)) (without f.path (put_file f gs))) d
        ∙ ap (λ (fs : List File). g ∷ fs) (more e)

-- ---- what a look-up in the map says of the files

file-one : (p : List ℕ) (e : List ℕ × Stored) (b c : Bool) (o : Option File) (l : Option Stored) → is_same e.0 p ≡ b → b ≡ c → o ≡ option_map (λ (s : Stored). file_of (p, s)) l
    → cond b (Some (file_of e)) o ≡ option_map (λ (s : Stored). file_of (p, s)) (cond c (Some e.1) l)
file-one p e true true o l h k i = ap (λ (q : List ℕ). Some (file_of (q, e.1))) (same-is e.0 p h)
file-one p e false false o l h k i = i
file-one p e true false o l h k i = absurd (cc)
file-one p e false true o l h k i = absurd (cc)

pub found-file : (p : List ℕ) (es : List (List ℕ × Stored)) → file_at (files_of es) p ≡ option_map (λ (s : Stored). file_of (p, s)) (lookup (is_at (path_order p)) es)
found-file p [] = refl
found-file p (e ∷ es) = file-one p e (is_same e.0 p) (is_at (path_order p) e.0) (file_at (files_of es) p) (lookup (is_at (path_order p)) es) refl (same-key p e.0) (found-file p es)

some-file : (p : List ℕ) (l : Option Stored) → is_some (option_map (λ (s : Stored). file_of (p, s)) l) ≡ is_some l
some-file p None = refl
some-file p (Some s) = refl

pub has-file-at : (p : List ℕ) (es : List (List ℕ × Stored)) → is_some (file_at (files_of es) p) ≡ is_some (lookup (is_at (path_order p)) es)
has-file-at p es = ap is_some (found-file p es) ∙ some-file p (lookup (is_at (path_order p)) es)

pub looked : (es : List (List ℕ × Stored)) (p : List ℕ) (s : Stored) → Some s ≡ lookup (is_at (path_order p)) es → Look.File s.generation (length s.bytes) s.moment ≡ look_at (files_of es) p
looked es p s e = ap (λ (o : Option File). look_of (content_of o (is_folder (files_of es) p) (has_room (files_of es) p))) (ap (option_map (λ (x : Stored). file_of (p, x))) e ∙ sym (found-file p es))

pub looked-none : (es : List (List ℕ × Stored)) (p : List ℕ) → None ≡ lookup (is_at (path_order p)) es → file_at (files_of es) p ≡ None
looked-none es p e = found-file p es ∙ ap (option_map (λ (x : Stored). file_of (p, x))) (sym e)

none-there : (o : Option File) → option_map stored_of o ≡ None → o ≡ None
none-there None e = refl
none-there (Some f) e = absurd (cc)

some-there : (o : Option File) (s : Stored) → option_map stored_of o ≡ Some s → is_some o ≡ true
some-there None s e = absurd (cc)
some-there (Some f) s e = refl

pub has-none : (name : FileName) (es : List (List ℕ × Stored)) → IsStrictlySortedBy path_order (keys_of es) → of_generation name.generation (lookup (is_at (path_order name.path)) es) ≡ None → has_file name (files_of es) ≡ false
has-none name es s e = ap is_some (none-there (file_named (files_of es) name) (found-named name es s ∙ e))

pub has-one : (name : FileName) (es : List (List ℕ × Stored)) (v : Stored) → IsStrictlySortedBy path_order (keys_of es) → (v.generation == name.generation) ≡ true → Some v ≡ lookup (is_at (path_order name.path)) es → has_file name (files_of es) ≡ true
has-one name es v s z e =
    some-there (file_named (files_of es) name) v
    (found-named name es s ∙ (ap (of_generation name.generation) (sym e) ∙ ap (λ (b : Bool). cond b (Some v) None) z))

-- ---- the answer of a change

pub outcome-does : {E : Type 0} (r : Result (Unit {0}) E) (generation : ℕ) (change : Stored → Stored) (v w : Stored) (answer : TreeDone)
    → OnOk r (answer ≡ done.Done) → OnErr r (answer ≡ done.Memory) → OnOk r (w ≡ change v) → OnErr r (w ≡ v) → (v.generation == generation) ≡ true → DoesStored generation change v answer w
outcome-does (Ok u) generation change v w answer a b c d z = subst (λ x. DoesStored generation change v x w) (sym a) (ap (λ (x : Stored). Some x) c, z)
outcome-does (Err e) generation change v w answer a b c d z = subst (λ x. DoesStored generation change v x w) (sym b) (ap (λ (x : Stored). Some x) d)

same-files : (es fs : List (List ℕ × Stored)) (p : List ℕ) (v w : Stored) → Some w ≡ Some v → Some v ≡ lookup (is_at (path_order p)) es → fs ≡ set_value (is_at (path_order p)) es w → Some (files_of fs) ≡ Some (files_of es)
same-files es fs p v w e l s =
    ap (λ (xs : List (List ℕ × Stored)). Some (files_of xs)) (s ∙ (ap (set_value (is_at (path_order p)) es) (some-is w v e) ∙ set_value_same (is_at (path_order p)) es v (sym l)))

-- what a change of what is stored comes to in the map
pub stored-does : (name : FileName) (stored : Stored → Stored) (change : File → File) (es fs : List (List ℕ × Stored)) (v w : Stored) (answer : TreeDone) → ((k : List ℕ) (s : Stored) → file_of (k, stored s) ≡ change (file_of (k, s)))
    → Some v ≡ lookup (is_at (path_order name.path)) es → IsStrictlySortedBy path_order (keys_of es) → fs ≡ set_value (is_at (path_order name.path)) es w → DoesStored name.generation stored v answer w
    → DoesFiles (has_file name) (change_named name change) (Some (files_of es)) answer (Some (files_of fs))
stored-does name stored change es fs v w done.Done keeps l s e d = (
  ap (λ (xs : List (List ℕ × Stored)). Some (files_of xs)) e
      ∙ ap (λ (gs : List File). Some gs) (set-named name change v w d.1 (λ k. ap (λ (x : Stored). file_of (k, x)) (some-is w (stored v) d.0) ∙ keeps k v) es (sym l) s),
  has-one name es v s d.1 l,
)
stored-does name stored change es fs v w done.NotFile keeps l s e d = (
  same-files es fs name.path v w d.0 l e,
  has-none name es s (ap (of_generation name.generation) (sym l) ∙ ap (λ (b : Bool). cond b (Some v) None) d.1),
)
stored-does name stored change es fs v w done.Failed keeps l s e d = same-files es fs name.path v w d l e
stored-does name stored change es fs v w done.Memory keeps l s e d = same-files es fs name.path v w d l e

-- a value in the place of another
pub set-replaced : (p : List ℕ) (v w : Stored) (es : List (List ℕ × Stored)) → lookup (is_at (path_order p)) es ≡ Some v → IsStrictlySortedBy path_order (keys_of es) → files_of (set_value (is_at (path_order p)) es w) ≡ in_place p (file_of (p, w)) (files_of es)
unfolding IsStrictlySortedBy
set-replaced p v w [] l s = refl
set-replaced p v w (e ∷ es) l s = step (is_at (path_order p) e.0) refl l (λ k. set-replaced p v w es k s.1)
  where
    others : (gs : List (List ℕ × Stored)) → AllByRecursion (λ k. path_order p k ≡ Less) (keys_of gs) → files_of gs ≡ in_place p (file_of (p, w)) (files_of gs)
    others [] h = refl
    others (g ∷ gs) h = λ i. cond (sym (apart-key p g.0 h.0) i) (file_of (p, w)) (file_of g) ∷ others gs h.1 i

    step : (b : Bool) → is_at (path_order p) e.0 ≡ b → cond b (Some e.1) (lookup (is_at (path_order p)) es) ≡ Some v
        → (lookup (is_at (path_order p)) es ≡ Some v → files_of (set_value (is_at (path_order p)) es w) ≡ in_place p (file_of (p, w)) (files_of es))
        → files_of (cond b ((e.0, w) ∷ es) (e ∷ set_value (is_at (path_order p)) es w)) ≡ cond (is_same e.0 p) (file_of (p, w)) (file_of e) ∷ in_place p (file_of (p, w)) (files_of es)
    step true h k more =
        let same : is_same e.0 p ≡ true = same-key p e.0 ∙ h in
        let rest : files_of es ≡ in_place p (file_of (p, w)) (files_of es) = others es (subst (λ (q : List ℕ). AllByRecursion (λ k. path_order q k ≡ Less) (keys_of es)) (same-is e.0 p same) s.0) in
        let one : file_of (e.0, w) ≡ cond (is_same e.0 p) (file_of (p, w)) (file_of e) =
        ap (λ (q : List ℕ). file_of (q, w)) (same-is e.0 p same) ∙ ap (λ (b : Bool). cond b (file_of (p, w)) (file_of e)) (sym same) in
        λ i. one i ∷ rest i
    step false h k more =
        let one : file_of e ≡ cond (is_same e.0 p) (file_of (p, w)) (file_of e) = ap (λ (b : Bool). cond b (file_of (p, w)) (file_of e)) (sym (same-key p e.0 ∙ h)) in
        let rest = more k in
        λ i. one i ∷ rest i

pub keeps-written : (offset : ℕ) (content : List ℕ) (moment : ℕ) (k : List ℕ) (s : Stored) → file_of (k, stored_written offset content moment s) ≡ written offset content moment (file_of (k, s))
keeps-written offset [] moment k s = refl
keeps-written offset (b ∷ bs) moment k s = refl

pub keeps-resized : (size moment : ℕ) (k : List ℕ) (s : Stored) → file_of (k, stored_resized size moment s) ≡ resized size moment (file_of (k, s))
keeps-resized size moment k s = refl

pub none-in-map : (p : List ℕ) (es : List (List ℕ × Stored)) → file_at (files_of es) p ≡ None → lookup (is_at (path_order p)) es ≡ None
none-in-map p es e = sym (found-at p es) ∙ ap (option_map stored_of) e

pub ok-is : {A E : Type 0} (r : Result A E) (u : A) (P : Type 0) → r ≡ Ok u → OnOk r P → P
ok-is (Ok v) u P e p = p
ok-is (Err x) u P e p = absurd (cc)
