-- The loop over the handles of a call: the items so far are those of the files so far.
use Rattle.std.proofs.Common.{◌≡◌, ℕ, ◌+◌, ◌<◌, ◌≤◌, List, [], ◌∷◌, ◌++◌, get_or, length, length-append, map, take, Bool, true, false, ◌&&◌, Option, refl, sym, ap, subst, ◌∙◌, arith, zero, suc}
use Rattle.std.specs.List.{list_all}
use Rattle.std.proofs.lemmas.Bool.Decides.{nat_tests}
use Rattle.std.proofs.lemmas.List.{take_more, take_all, map-append}
use Rattle.std.proofs.lemmas.List.Folds.{list_all-append}
use Rattle.std.proofs.lemmas.List.Sums.{fold-append}
use Rattle.portal_base.specs.declared.who.Who.{Who}
use Rattle.portal_model.specs.declared.request.AddRequest.{AddRequest}
use Rattle.portal_model.specs.declared.state.Document.{Document}
use Rattle.portal_model.specs.AddArguments.{document_path}
use Rattle.add_files.specs.Arguments.{FailsCheck, is_joined_well}
use Rattle.add_files.specs.Items.{are_below, item_behind, items_of, paths_of, presented_of, put_behind}
use Rattle.add_files.specs.declared.plan.AddError.{AddError}
use Rattle.add_files.specs.declared.plan.AddError.TheVariants.{InvalidArgument, NotAllowed, Memory}
use Rattle.add_files.specs.declared.plan.PlanItem.{PlanItem}

below-at : (n : ℕ) (hs : List ℕ) (i : ℕ) → are_below n hs ≡ true → i < length hs → get_or hs i 0 < n
below-at n [] i h k = omega arith
below-at n (x ∷ xs) zero h k = grind (arith, nat_tests)
below-at n (x ∷ xs) (suc i) h k = below-at n xs i (grind arith) (omega arith)

other-default : {X : Type 0} (xs : List X) (k : ℕ) (d e : X) → k < length xs → get_or xs k d ≡ get_or xs k e
other-default [] k d e h = let no : ⊥ = omega arith in absurd no
other-default (x ∷ xs) zero d e h = refl
other-default (x ∷ xs) (suc k) d e h = other-default xs k d e (omega arith)

-- the file that the loop comes to
pub file-at : (paths : List (List ℕ)) (items handles : List ℕ) (i : ℕ) (p : List ℕ) → items ≡ handles → are_below (length paths) handles ≡ true → i < length items →
    p ≡ get_or paths (get_or items i 0) p → p ≡ get_or paths (get_or handles i 0) []
file-at paths items handles i p e h k g =
    let inside : i < length handles = subst (λ (l : List ℕ). i < length l) e k in
    let at : p ≡ get_or paths (get_or handles i 0) p = subst (λ (l : List ℕ). p ≡ get_or paths (get_or l i 0) p) e g in
    at ∙ other-default paths (get_or handles i 0) p [] (below-at (length paths) handles i h inside)

pub more-presented : (paths : List (List ℕ)) (hs : List ℕ) (i : ℕ) (p : List ℕ) → i < length hs → p ≡ get_or paths (get_or hs i 0) [] →
    presented_of paths (take (i + 1) hs) ≡ presented_of paths (take i hs) ++ p ∷ []
more-presented paths hs i p h e =
    ap (presented_of paths) (take_more hs i 0 h)
    ∙ (map-append (λ (handle : ℕ). get_or paths handle []) (take i hs) (get_or hs i 0 ∷ [])
    ∙ ap (λ (q : List ℕ). presented_of paths (take i hs) ++ q ∷ []) (sym e))

more-paths : (a : AddRequest) (paths : List (List ℕ)) (hs : List ℕ) (i : ℕ) (p : List ℕ) → i < length hs → p ≡ get_or paths (get_or hs i 0) [] →
    paths_of a paths (take (i + 1) hs) ≡ paths_of a paths (take i hs) ++ document_path a p ∷ []
more-paths a paths hs i p h e =
    ap (map (document_path a)) (more-presented paths hs i p h e) ∙ map-append (document_path a) (presented_of paths (take i hs)) (p ∷ [])

module _ (documents : List Document) (who : Who) (a : AddRequest) (app : Option (List ℕ)) (paths : List (List ℕ)) (hs : List ℕ) (i : ℕ) (p : List ℕ) (h : i < length hs) (e : p ≡ get_or paths (get_or hs i 0) []) where
  pub more-items : (items new : List PlanItem) → items ≡ items_of documents who a app (paths_of a paths (take i hs)) →
      new ≡ items ++ item_behind documents who a app items (document_path a p) ∷ [] → new ≡ items_of documents who a app (paths_of a paths (take (i + 1) hs))
  more-items items new k n =
      n ∙ (ap (λ (ahead : List PlanItem). put_behind documents who a app ahead (document_path a p)) k
      ∙ sym (ap (items_of documents who a app) (more-paths a paths hs i p h e)
      ∙ fold-append (put_behind documents who a app) [] (paths_of a paths (take i hs)) (document_path a p ∷ [])))

  pub more-joined : list_all (is_joined_well a) (presented_of paths (take i hs)) ≡ true → is_joined_well a p ≡ true → list_all (is_joined_well a) (presented_of paths (take (i + 1) hs)) ≡ true
  more-joined k j =
      ap (list_all (is_joined_well a)) (more-presented paths hs i p h e)
      ∙ (list_all-append (is_joined_well a) (presented_of paths (take i hs)) (p ∷ [])
      ∙ (ap (λ (b : Bool). b && (is_joined_well a p && true)) k ∙ ap (λ (b : Bool). b && true) j))

pub one-longer : (items new : List PlanItem) (x : PlanItem) (i : ℕ) → new ≡ items ++ x ∷ [] → length items ≡ i → length new ≡ i + 1
one-longer items new x i e h = ap (λ (l : List PlanItem). length l) e ∙ (length-append items (x ∷ []) ∙ ap (λ (n : ℕ). n + 1) h)

and-false : (b : Bool) → (b && false) ≡ false
and-false true = refl
and-false false = refl

one-not-joined : (a : AddRequest) (paths : List (List ℕ)) (hs : List ℕ) (i : ℕ) → i < length hs → is_joined_well a (get_or paths (get_or hs i 0) []) ≡ false → list_all (is_joined_well a) (presented_of paths hs) ≡ false
one-not-joined a paths [] i h k = let no : ⊥ = omega arith in absurd no
one-not-joined a paths (x ∷ xs) zero h k = ap (λ (b : Bool). b && list_all (is_joined_well a) (presented_of paths xs)) k
one-not-joined a paths (x ∷ xs) (suc i) h k =
    ap (λ (b : Bool). is_joined_well a (get_or paths x []) && b) (one-not-joined a paths xs i (omega arith) k) ∙ and-false (is_joined_well a (get_or paths x []))

-- a check that isn't met for one file isn't met for all
pub fails-all : (a : AddRequest) (paths : List (List ℕ)) (hs : List ℕ) (i : ℕ) (p : List ℕ) → i < length hs → p ≡ get_or paths (get_or hs i 0) [] → (error : AddError) →
    FailsCheck (is_joined_well a p) error → FailsCheck (list_all (is_joined_well a) (presented_of paths hs)) error
fails-all a paths hs i p h e InvalidArgument k = one-not-joined a paths hs i h (subst (λ (q : List ℕ). is_joined_well a q ≡ false) e k)
fails-all a paths hs i p h e NotAllowed k = k
fails-all a paths hs i p h e Memory k = tt

pub all-of : (hs items : List ℕ) (i : ℕ) → items ≡ hs → length items ≤ i → take i items ≡ hs
all-of hs items i e h = take_all i items h ∙ e
