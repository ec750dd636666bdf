use Rattle.std.proofs.Common.{◌≡◌, ℕ, List, [], ◌∷◌, Bool, true, false, not, ◌&&◌, ◌||◌, sym, ap, subst, ◌∙◌, refl, arith}
use Rattle.std.specs.List.Sorted.{IsStrictlySortedBy}
use Rattle.portal_base.specs.Names.{is_same, root}
use Rattle.portal_base.specs.PathOrder.{path_order}
use Rattle.portal_base.specs.Content.{ArePlaced, paths_of, is_above}
use Rattle.portal_base.specs.declared.files.File.{File}
use Rattle.host_tree.specs.Trees.{put_file}
use Rattle.portal_base.proofs.PathsAbove.{above_longer}
use Rattle.device_vectors.proofs.trees.tree_of.Goals as goal

alone : (f : File) → IsStrictlySortedBy path_order (f.path ∷ [])
unfolding IsStrictlySortedBy
alone f = (tt, tt)

-- one file that isn't the root stands in a tree
one-file : (files : List File) (f : File) → files ≡ [] → is_same f.path root ≡ false → ArePlaced (paths_of (put_file f files))
one-file files f e r = subst (λ fs. ArePlaced (paths_of (put_file f fs))) (sym e) (record {
  in_order = alone f;
  no_root = ap (λ (b : Bool). not b && true) r;
  apart = ap (λ (b : Bool). not (b || false) && true) (above_longer f.path f.path (omega arith));
})

not-true : (b c : Bool) → c ≡ not b → c ≡ true → b ≡ false
not-true true c e h = absurd (cc)
not-true false c e h = refl

not-root : (x y p q : List ℕ) (b : Bool) → b ≡ not (is_same x y) → b ≡ true → y ≡ root → x ≡ p → q ≡ p → is_same q root ≡ false
not-root x y p q b e h r s t = (λ i. is_same ((t ∙ sym s) i) (sym r i)) ∙ not-true (is_same x y) b e h

pub add_file-requires-clause-began : goal.add_file-requires-clause-began
add_file-requires-clause-began c = one-file c.new-tree.result.began.present _ (ap (λ t. t.began.present) c.new-tree.ensures)
    (not-root c.as_bytes-then-not-is_empty.result.now c.as_slice.result.now c.in_ok-path.path c.path.inside.text c.ne.result
    c.ne.ensures c.if-ne.true c.as_slice.ensures c.as_bytes-then-not-is_empty.ensures.bytes c.path.view_is)

pub add_file-requires-clause-files : goal.add_file-requires-clause-files
add_file-requires-clause-files c = one-file c.new-tree.result.files.present _ (ap (λ t. t.files.present) c.new-tree.ensures)
    (not-root c.as_bytes-then-not-is_empty.result.now c.as_slice.result.now c.in_ok-path.path c.path.inside.text c.ne.result
    c.ne.ensures c.if-ne.true c.as_slice.ensures c.as_bytes-then-not-is_empty.ensures.bytes c.path.view_is)
