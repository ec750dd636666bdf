-- The files of a script stand in a tree.
use Rattle.std.proofs.Common.{◌≡◌, ℕ, ◌+◌, ◌<◌, Bool, true, false, ◌&&◌, ◌||◌, not, List, [], ◌∷◌, ◌++◌, length, take, drop, map, refl, sym, ap, ◌∙◌, subst, arith, cond, Less, append_assoc}
use Rattle.std.specs.Ordering.{is_lt, is_eq, ordering_reverse}
use Rattle.std.specs.declared.cmp.Ordering.{Ordering}
use Rattle.std.specs.declared.cmp.Ordering.TheVariants as order
use Rattle.std.specs.List.{list_any, list_all, AllByRecursion}
use Rattle.std.specs.List.Sorted.{IsStrictlySortedBy}
use Rattle.portal_base.specs.Content.{ArePlaced, is_above, paths_of}
use Rattle.portal_base.specs.Names.{is_same, root}
use Rattle.portal_base.specs.PathOrder.{path_order}
use Rattle.portal_base.specs.PathOrders.{path_order_total, path_order_ties}
use Rattle.portal_base.specs.declared.files.File.{File}
use Rattle.portal_model.specs.Opening.{file_of}
use Rattle.portal_model.specs.declared.opening.FileItem.{FileItem}
use Rattle.host_tree.specs.Trees.{put_file}
use Rattle.portal_base.proofs.PathsAbove.{above_longer, all-put, any-put}
use Rattle.script_form.specs.Devices.{time_after, tree_files, with_files}
use Rattle.script_form.specs.Order.{IsScript, StandBehind}
use Rattle.script_form.specs.Opening.{file_in, files_from, files_of, time_behind}
use Rattle.script_form.specs.Paths.{clash}
use Rattle.script_lines.specs.declared.script.ScriptLine.{ScriptLine}
use Rattle.std.proofs.Common.{add-one, get_or}
use Rattle.std.proofs.Math.Seq.{take-suc}
use Rattle.std.proofs.lemmas.List.{take-append-drop}
use Rattle.std.specs.Cmp.Lexicographic.{nat_list_eq_equiv}
use Rattle.script_form.proofs.ScriptFacts.{append_nil}
use Rattle.script_form.proofs.SoundFacts.{AllClear, Clear, all_clear, no_root}

-- ---- one file more

behind : (a b : List ℕ) → is_lt (path_order a b) ≡ false → is_same b a ≡ false → path_order b a ≡ Less
behind a b h n =
    let tie : is_eq (path_order b a) ≡ false = sym (path_order_ties b a) ∙ n in
    at (path_order a b) (path_order b a) (path_order_total.antisymm a b) h tie
  where
    at : (x y : Ordering) → x ≡ ordering_reverse y → is_lt x ≡ false → is_eq y ≡ false → y ≡ Less
    at x order.Less r h n = refl
    at x order.Equal r h n = absurd (cc)
    at order.Less order.Greater r h n = absurd (cc)
    at order.Equal order.Greater r h n = absurd (cc)
    at order.Greater order.Greater r h n = absurd (cc)

less_is : (o : Ordering) → is_lt o ≡ true → o ≡ Less
less_is order.Less h = refl
less_is order.Equal h = absurd (cc)
less_is order.Greater h = absurd (cc)

all_behind : (a b : List ℕ) (ps : List (List ℕ)) → path_order a b ≡ Less → AllByRecursion (λ k. path_order b k ≡ Less) ps → AllByRecursion (λ k. path_order a k ≡ Less) ps
all_behind a b [] l h = tt
all_behind a b (p ∷ ps) l h = (path_order_total.trans a b p l h.0, all_behind a b ps l h.1)

put_all : (P : List ℕ → Type 0) (f : File) (fs : List File) → P f.path → AllByRecursion P (paths_of fs) → AllByRecursion P (paths_of (put_file f fs))
put_all P f [] x h = (x, tt)
put_all P f (g ∷ gs) x h = step (is_lt (path_order f.path g.path)) (put_all P f gs x h.1)
  where
    step : (b : Bool) → AllByRecursion P (paths_of (put_file f gs)) → AllByRecursion P (paths_of (cond b (f ∷ g ∷ gs) (g ∷ put_file f gs)))
    step true more = (x, h)
    step false more = (h.0, more)

sorted_put : (f : File) (fs : List File) → IsStrictlySortedBy path_order (paths_of fs) → AllByRecursion (λ p. is_same f.path p ≡ false) (paths_of fs) → AllByRecursion (λ p. is_same p f.path ≡ false) (paths_of fs)
    → IsStrictlySortedBy path_order (paths_of (put_file f fs))
unfolding IsStrictlySortedBy
sorted_put f [] s n m = (tt, tt)
sorted_put f (g ∷ gs) s n m = step (is_lt (path_order f.path g.path)) refl (sorted_put f gs s.1 n.1 m.1)
  where
    step : (b : Bool) → is_lt (path_order f.path g.path) ≡ b → IsStrictlySortedBy path_order (paths_of (put_file f gs)) → IsStrictlySortedBy path_order (paths_of (cond b (f ∷ g ∷ gs) (g ∷ put_file f gs)))
    step true e more = let first = less_is (path_order f.path g.path) e in ((first, all_behind f.path g.path (paths_of gs) first s.0), s)
    step false e more = (put_all (λ k. path_order g.path k ≡ Less) f gs (behind f.path g.path e m.0) s.0, more)

or_none : (a b c : Bool) → (a || (b || c)) ≡ false → (a ≡ false) × (b ≡ false) × (c ≡ false)
or_none false false false h = (refl, refl, refl)
or_none true b c h = absurd (cc)
or_none false true c h = absurd (cc)
or_none false false true h = absurd (cc)

-- a path that goes with these
record Apart (p : List ℕ) (ps : List (List ℕ)) : Type 0 where
  pub same : AllByRecursion (λ q. is_same p q ≡ false) ps
  pub other : AllByRecursion (λ q. is_same q p ≡ false) ps
  pub above : list_any (is_above p) ps ≡ false
  pub below : list_all (λ q. not (is_above q p)) ps ≡ true

still_apart : (f : File) (fs : List File) (qs : List (List ℕ)) → list_all (λ q. not (list_any (is_above q) (paths_of fs))) qs ≡ true → list_all (λ q. not (is_above q f.path)) qs ≡ true
    → list_all (λ q. not (list_any (is_above q) (paths_of (put_file f fs)))) qs ≡ true
still_apart f fs [] a b = refl
still_apart f fs (q ∷ qs) a b =
    let one = parts (not (list_any (is_above q) (paths_of fs))) _ a in
    let two = parts (not (is_above q f.path)) _ b in
    let rest = still_apart f fs qs one.1 two.1 in
    let none : not (list_any (is_above q) (paths_of (put_file f fs))) ≡ true = ap not (any-put (is_above q) f fs) ∙ neither (is_above q f.path) (list_any (is_above q) (paths_of fs)) two.0 one.0 in
    λ i. none i && rest i
  where
    parts : (x y : Bool) → (x && y) ≡ true → (x ≡ true) × (y ≡ true)
    parts true true e = (refl, refl)
    parts true false e = absurd (cc)
    parts false y e = absurd (cc)

    neither : (x y : Bool) → not x ≡ true → not y ≡ true → not (x || y) ≡ true
    neither false false e h = refl
    neither true y e h = absurd (cc)
    neither false true e h = absurd (cc)

placed_put : (f : File) (fs : List File) → ArePlaced (paths_of fs) → is_same f.path root ≡ false → Apart f.path (paths_of fs) → ArePlaced (paths_of (put_file f fs))
placed_put f fs p r a =
    let none : not (list_any (is_above f.path) (paths_of (put_file f fs))) ≡ true =
    ap not (any-put (is_above f.path) f fs) ∙ (λ i. not (above_longer f.path f.path (omega arith) i || a.above i)) in
    let others = still_apart f fs (paths_of fs) p.apart a.below in
    record {
      in_order = sorted_put f fs p.in_order a.same a.other;
      no_root = all-put (λ q. not (is_same q root)) f fs ∙ (λ i. not (r i) && p.no_root i);
      apart = all-put (λ q. not (list_any (is_above q) (paths_of (put_file f fs)))) f fs ∙ (λ i. none i && others i);
    }

apart_put : (q : List ℕ) (f : File) (fs : List File) → Apart q (paths_of fs) → clash q f.path ≡ false → Apart q (paths_of (put_file f fs))
apart_put q f fs a c =
    let n = or_none (is_same q f.path) (is_above f.path q) (is_above q f.path) c in
    record {
      same = put_all (λ x. is_same q x ≡ false) f fs n.0 a.same;
      other = put_all (λ x. is_same x q ≡ false) f fs (nat_list_eq_equiv.symm f.path q ∙ n.0) a.other;
      above = any-put (is_above q) f fs ∙ (λ i. n.2 i || a.above i);
      below = all-put (λ x. not (is_above x q)) f fs ∙ (λ i. not (n.1 i) && a.below i);
    }

-- ---- all files

later_apart : (f : File) (fs : List File) (qs : List (List ℕ)) → Clear f.path qs → AllByRecursion (λ q. Apart q (paths_of fs)) qs → AllByRecursion (λ q. Apart q (paths_of (put_file f fs))) qs
later_apart f fs [] c a = tt
later_apart f fs (q ∷ qs) c a = (apart_put q f fs a.0 c.0, later_apart f fs qs c.1 a.1)

abbrev item_paths : List FileItem → List (List ℕ)
item_paths items = map (λ (f : FileItem). f.path) items

many : (items : List FileItem) (fs : List File) → ArePlaced (paths_of fs) → AllClear (item_paths items) → AllByRecursion (λ p. is_same p root ≡ false) (item_paths items) → AllByRecursion (λ q. Apart q (paths_of fs)) (item_paths items)
    → ArePlaced (paths_of (with_files fs items))
many [] fs p c r a = p
many (item ∷ items) fs p c r a =
    many items (put_file (file_of item) fs) (placed_put (file_of item) fs p r.0 a.0) c.1 r.1 (later_apart (file_of item) fs (item_paths items) c.0 a.1)

nothing_placed : ArePlaced []
unfolding IsStrictlySortedBy
nothing_placed = record { in_order = tt; no_root = refl; apart = refl }

alone : (qs : List (List ℕ)) → AllByRecursion (λ q. Apart q []) qs
alone [] = tt
alone (q ∷ qs) = (record { same = tt; other = tt; above = refl; below = refl }, alone qs)

pub script_placed : (lines : List ScriptLine) → IsScript lines → ArePlaced (paths_of (tree_files lines))
script_placed lines good = many (files_of lines) [] nothing_placed (all_clear lines [] 0 good) (no_root lines [] 0 good) (alone (item_paths (files_of lines)))

-- ---- a front of the lines

with_more : (items more : List FileItem) (fs : List File) → with_files fs (items ++ more) ≡ with_files (with_files fs items) more
with_more [] more fs = refl
with_more (item ∷ items) more fs = with_more items more (put_file (file_of item) fs)

files_more : (lines more : List ScriptLine) (time : ℕ) → files_from time (lines ++ more) ≡ files_from time lines ++ files_from (time_after time lines) more
files_more [] more time = refl
files_more (line ∷ lines) more time =
    ap (λ (z : List FileItem). file_in time line ++ z) (files_more lines more (time_behind time line)) ∙ sym (append_assoc (file_in time line) (files_from (time_behind time line) lines) (files_from (time_after time (line ∷ lines)) more))

-- the files of one line more
pub line_more : (lines : List ScriptLine) (line : ScriptLine) → tree_files (lines ++ line ∷ []) ≡ with_files (tree_files lines) (file_in (time_after 0 lines) line)
line_more lines line =
    ap (with_files []) (files_more lines (line ∷ []) 0 ∙ ap (λ (z : List FileItem). files_of lines ++ z) (append_nil (file_in (time_after 0 lines) line)))
    ∙ with_more (files_of lines) (file_in (time_after 0 lines) line) []

front_stands : (lines more earlier : List ScriptLine) → StandBehind earlier (lines ++ more) → StandBehind earlier lines
front_stands [] more earlier h = tt
front_stands (line ∷ lines) more earlier h = (h.0, front_stands lines more (earlier ++ line ∷ []) h.1)

pub front_placed : (lines more : List ScriptLine) → IsScript (lines ++ more) → ArePlaced (paths_of (tree_files lines))
front_placed lines more good = script_placed lines (front_stands lines more [] good)

-- ---- the next line

front_is : (lines : List ScriptLine) (index : ℕ) (line : ScriptLine) → index < length lines → line ≡ get_or lines index line → take (index + 1) lines ≡ take index lines ++ line ∷ []
front_is lines index line h is = rw (add-one, take-suc lines index line) (ap (λ (x : ScriptLine). take index lines ++ x ∷ []) (sym is))

time_more : (lines : List ScriptLine) (line : ScriptLine) (time : ℕ) → time_after time (lines ++ line ∷ []) ≡ time_behind (time_after time lines) line
time_more [] line time = refl
time_more (x ∷ lines) line time = time_more lines line (time_behind time x)

module _ (lines : List ScriptLine) (index : ℕ) (line : ScriptLine) (time : ℕ) (files : List File) (inside : index < length lines) (is : line ≡ get_or lines index line) (f : files ≡ tree_files (take index lines)) (t : time ≡ time_after 0 (take index lines)) where
  pub next_files : with_files files (file_in time line) ≡ tree_files (take (index + 1) lines)
  next_files =
      ap (λ (z : List File). with_files z (file_in time line)) f
      ∙ (ap (λ (n : ℕ). with_files (tree_files (take index lines)) (file_in n line)) t
      ∙ (sym (line_more (take index lines) line) ∙ ap tree_files (sym (front_is lines index line inside is))))

  pub next_time : time_behind time line ≡ time_after 0 (take (index + 1) lines)
  next_time =
      ap (λ (n : ℕ). time_behind n line) t
      ∙ (sym (time_more (take index lines) line 0) ∙ ap (time_after 0) (sym (front_is lines index line inside is)))

  pub next_placed : IsScript lines → ArePlaced (paths_of (with_files files (file_in time line)))
  next_placed good =
      subst (λ (z : List File). ArePlaced (paths_of z)) (sym next_files)
      (front_placed (take (index + 1) lines) (drop (index + 1) lines) (subst IsScript (sym (take-append-drop (index + 1) lines)) good))
