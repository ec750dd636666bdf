-- Files that stand in the order of a tree, put into one after another, and those beside them.
use Rattle.std.proofs.Common.{◌≡◌, ◌+◌, ◌<◌, ℕ, Less, List, [], ◌∷◌, ◌++◌, length, take, drop, get_or, map, Bool, true, false, not, ◌&&◌, ◌||◌, cond, Some, refl, sym, ap, subst, ◌∙◌, arith}
use Rattle.std.specs.List.{filter, list_all, list_any, AllByRecursion}
use Rattle.std.specs.List.Sorted.{IsStrictlySortedBy}
use Rattle.std.specs.Ordering.{is_lt, ordering_reverse}
use Rattle.std.proofs.lemmas.List.{append-nil, map-append, take-append-drop}
use Rattle.std.proofs.lemmas.List.Elements.{filter-append}
use Rattle.std.proofs.lemmas.List.Folds.{list_any-append}
use Rattle.file_generations.specs.Generations.{Held, held_with, put_present}
use Rattle.host_tree.specs.Beside.{AreBeside, AreHeld}
use Rattle.host_tree.specs.Devices.{QuietState, put_hidden, quiet_tree_of, quiet_with_hidden, quiet_with_present}
use Rattle.host_tree.specs.Trees.{TreeIs, put_file, settled}
use Rattle.host_tree.proofs.BesideFiles.{none-beside}
use Rattle.document_records.proofs.Loops.{all_map, one_more}
use Rattle.portal_base.specs.Calls.{Calls}
use Rattle.portal_base.specs.Content.{ArePlaced, is_above, paths_of}
use Rattle.portal_base.specs.Names.{is_host_path, is_same, root}
use Rattle.portal_base.specs.PathOrder.{path_order}
use Rattle.portal_base.specs.PathOrders.{path_order_total}
use Rattle.portal_base.specs.declared.files.File.{File}
use Rattle.portal_model.specs.declared.opening.FileItem.{FileItem}
use Rattle.portal_model.specs.Opening.{file_of, held_items}
use Rattle.history_trace.specs.Replayed.{tree_begun, tree_with}
use Rattle.history_trace.proofs.BesideItems.{beside-front}

-- ---- paths of which a front is taken

all-front : (P : List ℕ → Type 0) (ps qs : List (List ℕ)) → AllByRecursion P (ps ++ qs) → AllByRecursion P ps
all-front P [] qs h = tt
all-front P (p ∷ ps) qs h = (h.0, all-front P ps qs h.1)

sorted-front : (ps qs : List (List ℕ)) → IsStrictlySortedBy path_order (ps ++ qs) → IsStrictlySortedBy path_order ps
unfolding IsStrictlySortedBy
sorted-front [] qs h = tt
sorted-front (p ∷ ps) qs h = (all-front (λ k. path_order p k ≡ Less) ps qs h.0, sorted-front ps qs h.1)

true-front : (p : List ℕ → Bool) (ps qs : List (List ℕ)) → list_all p (ps ++ qs) ≡ true → list_all p ps ≡ true
true-front p [] qs h = refl
true-front p (x ∷ ps) qs h = grind (arith, true-front p ps qs)

neither : (x y : Bool) → not (x || y) ≡ true → not x ≡ true
neither false y h = refl
neither true y h = cc

apart-front : (ps qs xs : List (List ℕ)) → list_all (λ p. not (list_any (is_above p) (ps ++ qs))) xs ≡ true → list_all (λ p. not (list_any (is_above p) ps)) xs ≡ true
apart-front ps qs [] h = refl
apart-front ps qs (x ∷ xs) h =
    let one : (not (list_any (is_above x) ps || list_any (is_above x) qs) && list_all (λ p. not (list_any (is_above p) (ps ++ qs))) xs) ≡ true =
    ap (λ (b : Bool). not b && list_all (λ p. not (list_any (is_above p) (ps ++ qs))) xs) (sym (list_any-append (is_above x) ps qs)) ∙ h in
    grind (arith, one, apart-front ps qs xs, neither)

placed-front : (ps qs : List (List ℕ)) → ArePlaced (ps ++ qs) → ArePlaced ps
placed-front ps qs p = record {
  in_order = sorted-front ps qs p.in_order;
  no_root = true-front (λ q. not (is_same q root)) ps qs p.no_root;
  apart = apart-front ps qs ps (true-front (λ q. not (list_any (is_above q) (ps ++ qs))) ps qs p.apart);
}

-- ---- the last path

of-last : (P : List ℕ → Type 0) (ps : List (List ℕ)) (q : List ℕ) → AllByRecursion P (ps ++ q ∷ []) → P q
of-last P [] q h = h.0
of-last P (p ∷ ps) q h = of-last P ps q h.1

ahead-of-last : (ps : List (List ℕ)) (q : List ℕ) → IsStrictlySortedBy path_order (ps ++ q ∷ []) → AllByRecursion (λ p. path_order p q ≡ Less) ps
unfolding IsStrictlySortedBy
ahead-of-last [] q h = tt
ahead-of-last (p ∷ ps) q h = (of-last (λ k. path_order p k ≡ Less) ps q h.0, ahead-of-last ps q h.1)

put-last : (f : File) (fs : List File) → AllByRecursion (λ p. path_order p f.path ≡ Less) (paths_of fs) → put_file f fs ≡ fs ++ f ∷ []
put-last f [] h = refl
put-last f (g ∷ gs) h =
    let later : is_lt (path_order f.path g.path) ≡ false = ap is_lt (path_order_total.antisymm f.path g.path ∙ ap ordering_reverse h.0) in
    ap (λ (b : Bool). cond b (f ∷ g ∷ gs) (g ∷ put_file f gs)) later ∙ ap (λ (xs : List File). g ∷ xs) (put-last f gs h.1)

-- ---- the files of an opening state

abbrev files : List FileItem → List File
files items = map file_of items

abbrev shown : List FileItem → List File
shown items = files (filter (λ f. f.present) items)

abbrev others : List FileItem → List File
others items = files (filter (λ f. not f.present) items)

shown-append : (xs ys : List FileItem) → shown (xs ++ ys) ≡ shown xs ++ shown ys
shown-append xs ys =
    ap (λ (zs : List FileItem). files zs) (filter-append (λ (f : FileItem). f.present) xs ys)
    ∙ map-append file_of (filter (λ (f : FileItem). f.present) xs) (filter (λ (f : FileItem). f.present) ys)

others-append : (xs ys : List FileItem) → others (xs ++ ys) ≡ others xs ++ others ys
others-append xs ys =
    ap (λ (zs : List FileItem). files zs) (filter-append (λ (f : FileItem). not f.present) xs ys)
    ∙ map-append file_of (filter (λ (f : FileItem). not f.present) xs) (filter (λ (f : FileItem). not f.present) ys)

placed-take : (items : List FileItem) (n : ℕ) → ArePlaced (paths_of (shown items)) → ArePlaced (paths_of (shown (take n items)))
placed-take items n p =
    let parts : shown items ≡ shown (take n items) ++ shown (drop n items) =
    ap (λ (xs : List FileItem). shown xs) (sym (take-append-drop n items)) ∙ shown-append (take n items) (drop n items) in
    placed-front (paths_of (shown (take n items))) (paths_of (shown (drop n items)))
    (subst ArePlaced (ap paths_of parts ∙ map-append (λ (f : File). f.path) (shown (take n items)) (shown (drop n items))) p)

beside-take : (items : List FileItem) (n : ℕ) → AreHeld (held_items items) → AreBeside (shown items) (others (take n items))
beside-take items n a =
    beside-front (shown items) (others (take n items)) (others (drop n items))
    (subst (AreBeside (shown items)) (ap (λ (xs : List FileItem). others xs) (sym (take-append-drop n items)) ∙ others-append (take n items) (drop n items)) a)

module _ (items : List FileItem) (i : ℕ) (item : FileItem) (inside : i < length items) (is : item ≡ get_or items i item) where
  shown-more : (b : Bool) → item.present ≡ b → shown (take (i + 1) items) ≡ shown (take i items) ++ files (cond b (item ∷ []) [])
  shown-more b h =
      ap (λ (xs : List FileItem). shown xs) (one_more items i item inside is)
      ∙ (shown-append (take i items) (item ∷ [])
      ∙ ap (λ (c : Bool). shown (take i items) ++ files (cond c (item ∷ []) [])) h)

  others-more : (b : Bool) → item.present ≡ b → others (take (i + 1) items) ≡ others (take i items) ++ files (cond (not b) (item ∷ []) [])
  others-more b h =
      ap (λ (xs : List FileItem). others xs) (one_more items i item inside is)
      ∙ (others-append (take i items) (item ∷ [])
      ∙ ap (λ (c : Bool). others (take i items) ++ files (cond (not c) (item ∷ []) [])) h)

  -- ---- a present one

  module _ (placed : ArePlaced (paths_of (shown items))) where
    sorted : item.present ≡ true → IsStrictlySortedBy path_order (paths_of (shown (take i items)) ++ item.path ∷ [])
    sorted h =
        subst (IsStrictlySortedBy path_order) (ap paths_of (shown-more true h) ∙ map-append (λ (f : File). f.path) (shown (take i items)) (file_of item ∷ []))
        (placed-take items (i + 1) placed).in_order

    -- it has its place behind those before it
    put-next : item.present ≡ true → put_file (file_of item) (shown (take i items)) ≡ shown (take (i + 1) items)
    put-next h =
        put-last (file_of item) (shown (take i items)) (ahead-of-last (paths_of (shown (take i items))) item.path (sorted h))
        ∙ sym (shown-more true h)

    pub placed-next : (tree : QuietState) → tree ≡ tree_begun (held_with (shown (take i items)) []) → item.present ≡ true →
        ArePlaced (paths_of (put_file (file_of item) tree.files.present))
    placed-next tree e h =
        subst (λ (t : QuietState). ArePlaced (paths_of (put_file (file_of item) t.files.present))) (sym e)
        (subst (λ (fs : List File). ArePlaced (paths_of fs)) (sym (put-next h)) (placed-take items (i + 1) placed))

    pub held-next : (tree : QuietState) → tree ≡ tree_begun (held_with (shown (take i items)) []) → AreHeld (put_present (file_of item) tree.files)
    held-next tree e =
        subst (λ (t : QuietState). AreHeld (put_present (file_of item) t.files)) (sym e) (none-beside (put_file (file_of item) (shown (take i items))))

    step-present : (b : Bool) → item.present ≡ b →
        cond b (quiet_with_present (file_of item) (tree_begun (held_with (shown (take i items)) []))) (tree_begun (held_with (shown (take i items)) []))
        ≡ tree_begun (held_with (shown (take (i + 1) items)) [])
    step-present true h = ap (λ (fs : List File). tree_begun (held_with fs [])) (put-next h)
    step-present false h = ap (λ (fs : List File). tree_begun (held_with fs [])) (sym (shown-more false h ∙ append-nil (shown (take i items))))

    pub present-next : (tree : QuietState) → tree ≡ tree_begun (held_with (shown (take i items)) []) →
        cond item.present (quiet_with_present (file_of item) tree) tree ≡ tree_begun (held_with (shown (take (i + 1) items)) [])
    present-next tree e = ap (λ (t : QuietState). cond item.present (quiet_with_present (file_of item) t) t) e ∙ step-present item.present refl

  -- ---- one beside them

  pub beside-next : AreHeld (held_items items) → (tree : QuietState) → tree ≡ tree_begun (held_with (shown items) (others (take i items))) → item.present ≡ false →
      AreHeld (put_hidden (file_of item) tree.files)
  beside-next a tree e h =
      subst (λ (t : QuietState). AreHeld (put_hidden (file_of item) t.files)) (sym e)
      (subst (AreBeside (shown items)) (others-more false h) (beside-take items (i + 1) a))

  step-hidden : (b : Bool) → item.present ≡ b →
      cond b (tree_begun (held_with (shown items) (others (take i items)))) (quiet_with_hidden (file_of item) (tree_begun (held_with (shown items) (others (take i items)))))
      ≡ tree_begun (held_with (shown items) (others (take (i + 1) items)))
  step-hidden true h = ap (λ (fs : List File). tree_begun (held_with (shown items) fs)) (sym (others-more true h ∙ append-nil (others (take i items))))
  step-hidden false h = ap (λ (fs : List File). tree_begun (held_with (shown items) fs)) (sym (others-more false h))

  pub hidden-next : (tree : QuietState) → tree ≡ tree_begun (held_with (shown items) (others (take i items))) →
      cond item.present tree (quiet_with_hidden (file_of item) tree) ≡ tree_begun (held_with (shown items) (others (take (i + 1) items)))
  hidden-next tree e = ap (λ (t : QuietState). cond item.present t (quiet_with_hidden (file_of item) t)) e ∙ step-hidden item.present refl

-- the path of a file among these, each of which is a path on the host
pub named-here : (xs : List FileItem) (i : ℕ) (x : FileItem) → i < length xs → x ≡ get_or xs i x → list_all is_host_path (paths_of (files xs)) ≡ true → is_host_path x.path ≡ true
named-here xs i x h e k = all_map file_of (λ (f : File). is_host_path f.path) xs i x h e (mapped (files xs) ∙ k)
  where
    mapped : (fs : List File) → list_all (λ (f : File). is_host_path f.path) fs ≡ list_all is_host_path (paths_of fs)
    mapped [] = refl
    mapped (f ∷ fs) = ap (λ (b : Bool). is_host_path f.path && b) (mapped fs)

-- ---- a tree that is settled

held-is : (x y : Held) → Some x ≡ Some y → x ≡ y
held-is x y e = cc

calls-are : (x y : Calls) → Some x ≡ Some y → x ≡ y
calls-are x y e = cc

pub settled-with : (tree : QuietState) (held : Held) → quiet_tree_of tree ≡ settled (quiet_tree_of (tree_begun held)) → tree ≡ tree_with held
settled-with tree held e =
    let began : tree.began ≡ held = held-is tree.began held (ap (λ (t : TreeIs). t.began) e) in
    let files-are : tree.files ≡ held = held-is tree.files held (ap (λ (t : TreeIs). t.told) e) in
    let made : tree.made ≡ 0 = ap (λ (c : Calls). c.made) (calls-are (record { made = tree.made; failing = [] }) (record { made = 0; failing = [] }) (ap (λ (t : TreeIs). t.calls) e)) in
    λ i. record { began = began i; files = files-are i; made = made i }
