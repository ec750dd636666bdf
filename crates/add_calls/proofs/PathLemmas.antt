-- The paths that are looked at for each file of a call.
use Rattle.std.proofs.Common.{◌≡◌, ℕ, ◌+◌, ◌<◌, List, [], ◌∷◌, ◌++◌, get_or, length, map, take, true, refl, sym, ap, subst, ◌∙◌, arith, zero, suc}
use Rattle.std.specs.List.{flat_map}
use Rattle.std.proofs.lemmas.Bool.Decides.{nat_tests}
use Rattle.std.proofs.lemmas.Grind.{flat_map-append}
use Rattle.std.proofs.lemmas.List.{take_more, map-append}
use Rattle.portal_model.specs.declared.request.AddRequest.{AddRequest}
use Rattle.portal_model.specs.AddArguments.{document_path, paths_looked_at}
use Rattle.add_files.specs.Items.{are_below, paths_of, presented_of}
use Rattle.add_files.specs.declared.plan.PlanItem.{PlanItem}

below-at : (n : ℕ) (hs : List ℕ) (i : ℕ) → are_below n hs ≡ true → i < length hs → get_or hs i 0 < n
below-at n [] i h k = let no : ⊥ = omega arith in absurd no
below-at n (x ∷ xs) zero h k = grind (arith, nat_tests)
below-at n (x ∷ xs) (suc i) h k = below-at n xs i (grind arith) (omega arith)

other-default : (xs : List (List ℕ)) (k : ℕ) (d e : List ℕ) → k < length xs → get_or xs k d ≡ get_or xs k e
other-default [] k d e h = let no : ⊥ = omega arith in absurd no
other-default (x ∷ xs) zero d e h = refl
other-default (x ∷ xs) (suc k) d e h = other-default xs k d e (omega arith)

-- the file of a handle
pub file-of : (paths : List (List ℕ)) (seen handles : List ℕ) (i : ℕ) (p : List ℕ) → seen ≡ handles → are_below (length paths) handles ≡ true → i < length seen →
    p ≡ get_or paths (get_or seen i 0) p → p ≡ get_or paths (get_or handles i 0) []
file-of paths seen handles i p e h k g =
    let inside : i < length handles = subst (λ (l : List ℕ). i < length l) e k in
    subst (λ (l : List ℕ). p ≡ get_or paths (get_or l i 0) p) e g ∙ other-default paths (get_or handles i 0) p [] (below-at (length paths) handles i h inside)

-- the path of its document
pub path-of : (a : AddRequest) (paths : List (List ℕ)) (items : List PlanItem) (handles : List ℕ) (i : ℕ) (item : PlanItem) (p : List ℕ) →
    map (λ x. x.path) items ≡ paths_of a paths handles → i < length handles → item ≡ get_or items i item → p ≡ get_or paths (get_or handles i 0) [] → item.path ≡ document_path a p
path-of a paths items [] i item p e h k g = let no : ⊥ = omega arith in absurd no
path-of a paths [] (n ∷ ns) i item p e h k g = cc
path-of a paths (x ∷ xs) (n ∷ ns) zero item p e h k g =
    let first : x.path ≡ document_path a (get_or paths n []) = heads x.path (document_path a (get_or paths n [])) (map (λ (y : PlanItem). y.path) xs) (paths_of a paths ns) e in
    ap (λ (y : PlanItem). y.path) k ∙ (first ∙ ap (document_path a) (sym g))
  where
    heads : (y z : List ℕ) (ys zs : List (List ℕ)) → y ∷ ys ≡ z ∷ zs → y ≡ z
    heads y z ys zs e = cc
path-of a paths (x ∷ xs) (n ∷ ns) (suc i) item p e h k g =
    path-of a paths xs ns i item p (tails x.path (document_path a (get_or paths n [])) (map (λ (y : PlanItem). y.path) xs) (paths_of a paths ns) e) (omega arith) k g
  where
    tails : (y z : List ℕ) (ys zs : List (List ℕ)) → y ∷ ys ≡ z ∷ zs → ys ≡ zs
    tails y z ys zs e = cc

-- those of one file more
pub more-shown : (a : AddRequest) (paths : List (List ℕ)) (seen handles : List ℕ) (i : ℕ) (p : List ℕ) (so_far new : List (List ℕ)) → seen ≡ handles → i < length seen → p ≡ get_or paths (get_or handles i 0) [] →
    so_far ≡ flat_map (paths_looked_at a) (presented_of paths (take i seen)) → new ≡ so_far ++ paths_looked_at a p → new ≡ flat_map (paths_looked_at a) (presented_of paths (take (i + 1) seen))
more-shown a paths seen handles i p so_far new s h e k n =
    let same : p ≡ get_or paths (get_or seen i 0) [] = subst (λ (l : List ℕ). p ≡ get_or paths (get_or l i 0) []) (sym s) e in
    let one : presented_of paths (take (i + 1) seen) ≡ presented_of paths (take i seen) ++ p ∷ [] =
    ap (presented_of paths) (take_more seen i 0 h) ∙ (map-append (λ (handle : ℕ). get_or paths handle []) (take i seen) (get_or seen i 0 ∷ [])
    ∙ ap (λ (q : List ℕ). presented_of paths (take i seen) ++ q ∷ []) (sym same)) in
    n ∙ (ap (λ (l : List (List ℕ)). l ++ paths_looked_at a p) k
    ∙ sym (ap (flat_map (paths_looked_at a)) one ∙ (flat_map-append (paths_looked_at a) (presented_of paths (take i seen)) (p ∷ []) ∙ ap (λ (l : List (List ℕ)). flat_map (paths_looked_at a) (presented_of paths (take i seen)) ++ l) (single p))))
  where
    right-nil : (l : List (List ℕ)) → l ++ [] ≡ l
    right-nil [] = refl
    right-nil (x ∷ xs) = ap (λ (l : List (List ℕ)). x ∷ l) (right-nil xs)

    single : (q : List ℕ) → flat_map (paths_looked_at a) (q ∷ []) ≡ paths_looked_at a q
    single q = right-nil (paths_looked_at a q)
