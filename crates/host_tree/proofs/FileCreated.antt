-- A file that is made where nothing stands and the parent is a folder leaves a tree.
use Rattle.std.proofs.Common.{◌≡◌, ℕ, List, Bool, true, false, not, ◌&&◌, ◌||◌, Option, Some, None, is_some, refl, sym, ap, subst, ◌∙◌, arith}
use Rattle.std.specs.BTreeMap.{is_at, insert_entry}
use Rattle.std.specs.List.{list_any}
use Rattle.std.specs.List.Sorted.{IsStrictlySortedBy}
use Rattle.std.specs.Map.{lookup, keys_of}
use Rattle.portal_base.specs.Names.{is_same, is_host_path, root, parent_of}
use Rattle.portal_base.specs.PathOrder.{path_order}
use Rattle.portal_base.specs.Content.{is_above, is_folder, has_room, file_at, paths_of, ArePlaced, IsTree}
use Rattle.portal_base.specs.declared.files.File.{File}
use Rattle.portal_base.proofs.PathsAbove.{above_longer, all-apart, any-paths, both, or-parts}
use Rattle.host_tree.specs.Stored.{file_of, files_of}
use Rattle.host_tree.specs.Trees.{put_file, may_create}
use Rattle.host_tree.specs.declared.files.Stored.{Stored}
use Rattle.host_tree.proofs.Entries.{paths-are, put-entry, has-file-at}
use Rattle.portal_base.proofs.PathsAbove.{all-put, any-put}

pub put-is-tree : (f : File) (fs : List File) → IsTree fs → may_create fs f.path ≡ true → is_host_path f.path ≡ true → IsStrictlySortedBy path_order (paths_of (put_file f fs)) → IsTree (put_file f fs)
put-is-tree f fs t may name order =
    let first = both (not (is_some (file_at fs f.path))) (not (is_folder fs f.path) && has_room fs f.path) may in
    let second = both (not (is_folder fs f.path)) (has_room fs f.path) first.1 in
    let folder = or-parts (is_same f.path root) (list_any (λ (g : File). is_above f.path g.path) fs) second.0 in
    let below : list_any (is_above f.path) (paths_of fs) ≡ false = sym (any-paths (is_above f.path) fs) ∙ folder.1 in
    let room : (is_same (parent_of f.path) root || list_any (is_above (parent_of f.path)) (paths_of fs)) ≡ true =
    ap (λ (b : Bool). is_same (parent_of f.path) root || b) (sym (any-paths (is_above (parent_of f.path)) fs)) ∙ second.1 in
    let more = λ (q : List ℕ). any-put (is_above q) f fs in
    let new : list_any (is_above f.path) (paths_of (put_file f fs)) ≡ false = more f.path ∙ (λ i. above_longer f.path f.path (omega arith) i || below i) in
    let others = all-apart (paths_of fs) (paths_of fs) f.path (paths_of (put_file f fs)) more t.placed.no_root t.placed.apart t.names room in
    record {
      placed = record {
        in_order = order;
        no_root = all-put (λ q. not (is_same q root)) f fs ∙ (λ i. not (folder.0 i) && t.placed.no_root i);
        apart = all-put (λ q. not (list_any (is_above q) (paths_of (put_file f fs)))) f fs ∙ (λ i. not (new i) && others i);
      };
      names = all-put is_host_path f fs ∙ (λ i. name i && t.names i);
    }

-- ---- in the map

pub inserted-is : (es fs : List (List ℕ × Stored)) (p : List ℕ) (s : Stored) → lookup (is_at (path_order p)) es ≡ None → fs ≡ insert_entry path_order es p s → files_of fs ≡ put_file (file_of (p, s)) (files_of es)
inserted-is es fs p s l e = ap files_of e ∙ put-entry p s es l

pub inserted-is-tree : (es fs : List (List ℕ × Stored)) (p : List ℕ) (s : Stored) → IsTree (files_of es) → may_create (files_of es) p ≡ true → is_host_path p ≡ true
    → lookup (is_at (path_order p)) es ≡ None → fs ≡ insert_entry path_order es p s → IsStrictlySortedBy path_order (keys_of fs) → IsTree (files_of fs)
inserted-is-tree es fs p s t may name l e order =
    let put : files_of fs ≡ put_file (file_of (p, s)) (files_of es) = inserted-is es fs p s l e in
    subst IsTree (sym put) (put-is-tree (file_of (p, s)) (files_of es) t may name
    (subst (IsStrictlySortedBy path_order) (sym (paths-are fs) ∙ ap paths_of put) order))

nothing-at : {X : Type 0} (o : Option X) → not (is_some o) ≡ true → o ≡ None
nothing-at None e = refl
nothing-at (Some x) e = absurd (cc)

-- where a file may be made the map has none
pub none-stored : (es : List (List ℕ × Stored)) (p : List ℕ) → may_create (files_of es) p ≡ true → lookup (is_at (path_order p)) es ≡ None
none-stored es p may =
    let first = both (not (is_some (file_at (files_of es) p))) (not (is_folder (files_of es) p) && has_room (files_of es) p) may in
    nothing-at (lookup (is_at (path_order p)) es) (ap not (sym (has-file-at p es)) ∙ first.0)

-- a file that is added where the paths then are those of a tree
pub added-is-tree : (es fs : List (List ℕ × Stored)) (p : List ℕ) (s : Stored) → IsTree (files_of es) → ArePlaced (paths_of (put_file (file_of (p, s)) (files_of es))) → is_host_path p ≡ true
    → files_of fs ≡ put_file (file_of (p, s)) (files_of es) → IsTree (files_of fs)
added-is-tree es fs p s t placed name put =
    subst IsTree (sym put) (record { placed = placed; names = all-put is_host_path (file_of (p, s)) (files_of es) ∙ (λ i. name i && t.names i) })
