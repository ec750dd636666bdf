-- Files at and below a folder, sorted by the bytes of their paths; and those of trees that show the same.
use Rattle.std.proofs.Common.{◌≡◌, ◌<◌, ◌≤◌, ℕ, suc, length, get_or, List, [], ◌∷◌, map, Bool, true, false, cond, Option, Some, None, refl, sym, ap, ◌∙◌, arith}
use Rattle.std.specs.List.{list_all, IsDistinct, AllByRecursion}
use Rattle.std.specs.List.Sorted.{IsPermutation, IsSortedBy, IsStrictlySortedBy}
use Rattle.std.specs.Ordering.{is_eq}
use Rattle.std.specs.declared.cmp.Ordering.TheVariants.{Less}
use Rattle.std.proofs.lemmas.Cmp.{nat_list_cmp_total}
use Rattle.std.proofs.lemmas.List.Sorted.{IsPermutation-map, ranks_by, sorted_far}
use Rattle.std.proofs.lemmas.Map.Keys.{IsDistinct-IsPermutation}
use Rattle.portal_base.specs.Content.{content_at, content_of, file_at, has_room, is_folder, paths_of}
use Rattle.portal_base.specs.Names.{is_same}
use Rattle.portal_base.specs.PathOrder.{path_order}
use Rattle.portal_base.specs.PathOrders.{path_order_ties}
use Rattle.portal_base.specs.declared.files.File.{File}
use Rattle.portal_model.specs.Content.{Content, NotThere, OfFile, OfFolder}
use Rattle.portal_model.specs.Ordered.{bytes_less, is_rising, put_all}
use Rattle.portal_model.proofs.DocumentChanges.{both}
use Rattle.portal_model.proofs.ListLookups.{found_passes, is_same-eq}
use Rattle.portal_model.proofs.RisingLists.{rising-put_all}
use Rattle.portal_model.proofs.TripleOrder.{bytes-total}
use Rattle.app_world.specs.View.{file_ahead, files_below, is_at_or_below, path_below}
use Rattle.app_world.proofs.BelowLaws.{below-file, below-in-order, file_path, same-sym}
use Rattle.app_world.proofs.Found.{find-put_all, told-apart}
use Rattle.app_world.proofs.Orders.{paths}
use Rattle.app_trace.specs.Contents.{file_less, ShowAlike}
use Rattle.app_trace.proofs.ContentsInOrder.{compared}
use Rattle.app_trace.proofs.HeldInOrder.{keyed-shuffled}

-- ---- paths in the order of a tree differ

all_past : (p : List ℕ) (ps : List (List ℕ)) → AllByRecursion (λ q. path_order p q ≡ Less) ps → AllByRecursion (λ q. is_same p q ≡ false) ps
all_past p [] h = tt
all_past p (q ∷ qs) h = (path_order_ties p q ∙ ap is_eq h.0, all_past p qs h.1)

sorted_differ : (ps : List (List ℕ)) → IsStrictlySortedBy path_order ps → IsDistinct is_same ps
unfolding IsDistinct IsStrictlySortedBy
sorted_differ [] h = tt
sorted_differ (p ∷ ps) h = (all_past p ps h.0, sorted_differ ps h.1)

paths_apart : (a b k : List ℕ) → is_same a b ≡ false → is_same b k ≡ true → is_same a k ≡ false
paths_apart a b k h e = ap (is_same a) (sym (is_same-eq b k e)) ∙ h

-- ---- sorted files rise

abbrev IsFar : List File → Type 0
IsFar fs = (i j : ℕ) (f : File) → i ≤ j → j < length fs → file_less (get_or fs j f) (get_or fs i f) ≡ false

far : (fs : List File) → IsSortedBy file_less fs → IsFar fs
far fs up = sorted_far file_less (ranks_by nat_list_cmp_total file_path) fs up

comes_first : (a b : List ℕ) → bytes_less b a ≡ false → is_same a b ≡ false → bytes_less a b ≡ true
comes_first a b h e = by_order (bytes_less a b) refl
  where
    by_order : (x : Bool) → bytes_less a b ≡ x → x ≡ true
    by_order true f = refl
    by_order false f =
        let same : a ≡ b = bytes-total a b f h in
        let no : true ≡ false = sym (paths.itself a) ∙ (ap (is_same a) same ∙ e) in
        sym no

all_ahead : (f : File) (fs : List File) → ((k : ℕ) → k < length fs → file_less (get_or fs k f) f ≡ false) → AllByRecursion (λ q. is_same f.path q ≡ false) (map file_path fs) → list_all (file_ahead f) fs ≡ true
all_ahead f [] h a = refl
all_ahead f (g ∷ gs) h a =
    both (file_ahead f g) (list_all (file_ahead f) gs)
    (comes_first f.path g.path (sym (compared g.path f.path) ∙ h 0 (omega arith)) a.0)
    (all_ahead f gs (λ k l. h (suc k) (omega arith)) a.1)

rises : (fs : List File) → IsFar fs → IsDistinct is_same (map file_path fs) → is_rising file_ahead fs ≡ true
unfolding IsDistinct
rises [] up h = refl
rises (f ∷ fs) up h =
    both (list_all (file_ahead f) fs) (is_rising file_ahead fs)
    (all_ahead f fs (λ k l. up 0 (suc k) f (omega arith) (omega arith)) h.0)
    (rises fs (λ i j g l m. up (suc i) (suc j) g (omega arith) (omega arith)) h.1)

-- those that were found, sorted, are those of a view
pub sorted-files : (among sorted : List File) → IsStrictlySortedBy path_order (paths_of among) → IsPermutation among sorted → IsSortedBy file_less sorted → sorted ≡ put_all file_ahead among
sorted-files among sorted order s up =
    let differ : IsDistinct is_same (map file_path among) = sorted_differ (paths_of among) order in
    let apart : IsDistinct is_same (map file_path sorted) = IsDistinct-IsPermutation is_same same-sym (map file_path among) (map file_path sorted) (IsPermutation-map file_path among sorted s) differ in
    told-apart _ _ file_path paths sorted (put_all file_ahead among) (rises sorted (far sorted up) apart) (rising-put_all _ _ file_path paths among) (λ path.
    keyed-shuffled is_same paths_apart file_path path among sorted s differ ∙ sym (find-put_all _ _ file_path paths path among))

-- ---- trees that show the same

abbrev file_in : List ℕ → Content → Option File
file_in path (OfFile generation bytes moment) = Some (record { path = path; generation = generation; bytes = bytes; moment = moment })
file_in path OfFolder = None
file_in path (NotThere room) = None

file-shown : (files : List File) (path : List ℕ) → file_in path (content_at files path) ≡ file_at files path
file-shown files path = by_file (file_at files path) refl
  where
    by_folder : (b room : Bool) → file_in path (content_of None b room) ≡ None
    by_folder true room = refl
    by_folder false room = refl

    by_file : (o : Option File) → file_at files path ≡ o → file_in path (content_of o (is_folder files path) (has_room files path)) ≡ o
    by_file None e = by_folder (is_folder files path) (has_room files path)
    by_file (Some f) e =
        let same : f.path ≡ path = is_same-eq f.path path (found_passes (λ (g : File). is_same g.path path) files f e) in
        λ i. Some (record { path = sym same i; generation = f.generation; bytes = f.bytes; moment = f.moment })

files-alike : (fs gs : List File) → ShowAlike fs gs → (folder : List ℕ) → files_below fs folder ≡ files_below gs folder
files-alike fs gs h folder =
    told-apart _ _ file_path paths (files_below fs folder) (files_below gs folder) (below-in-order fs folder) (below-in-order gs folder) (λ path.
    below-file fs folder path
    ∙ (ap (λ (o : Option File). cond (is_at_or_below folder path) o None) (sym (file-shown fs path) ∙ (ap (file_in path) (h path) ∙ file-shown gs path))
    ∙ sym (below-file gs folder path)))

-- views over files that show the same have the same at and below folders
pub below-alike : (fs gs : List File) → ShowAlike fs gs → (ps : List (List ℕ)) → map (path_below fs) ps ≡ map (path_below gs) ps
below-alike fs gs h [] = refl
below-alike fs gs h (p ∷ ps) = λ i. record { path = p; files = files-alike fs gs h p i } ∷ below-alike fs gs h ps i
