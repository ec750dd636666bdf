-- How often an addition looks, and how many words it draws, at most.
use Rattle.std.specs.Prelude.{OnErr}
use Rattle.std.proofs.Common.{◌≡◌, ◌+◌, ◌-◌, ◌≤◌, ◌++◌, ◌&&◌, ℕ, suc, List, [], ◌∷◌, drop, get_or, length, length-append, map, nat_le, Bool, true, false, cond, Option, Result, Ok, Err, refl, sym, ap, subst, ◌∙◌, arith}
use Rattle.std.specs.List.{flat_map}
use Rattle.std.proofs.lemmas.List.Sums.{count_by-le-length}
use Rattle.file_generations.specs.Generations.{Held}
use Rattle.portal_base.specs.declared.files.Look.{Look}
use Rattle.portal_base.specs.declared.who.Who.{Who}
use Rattle.host_tree.specs.Trees.{TreeIs}
use Rattle.portal_model.specs.declared.request.AddRequest.{AddRequest}
use Rattle.portal_model.specs.declared.state.Connection.{Connection}
use Rattle.portal_model.specs.Add.{Added, added_files, taken_from_queue}
use Rattle.portal_model.specs.AddArguments.{are_flags, document_path, files_limit, paths_looked_at}
use Rattle.portal_model.specs.Present.{with_queue}
use Rattle.portal_model.specs.State.{State}
use Rattle.add_files.specs.Arguments.{are_few}
use Rattle.add_files.specs.Items.{paths_of, presented_of}
use Rattle.add_files.specs.Plans.{IsOfCall, IsPlan, followed, is_new, none_followed}
use Rattle.add_files.specs.declared.plan.AddPlan.{AddPlan}
use Rattle.add_files.specs.declared.plan.PlanItem.{PlanItem}
use Rattle.add_calls.specs.Placing.{Book, HasDrawnUpTo, words_for}
use Rattle.add_calls.specs.Shown.{Asked, Shows}
use Rattle.add_calls.proofs.Counts.{items-counted, owns-hold}
use Rattle.add_calls.proofs.PlacingLemmas.{drew-none}
use Rattle.add_serving.specs.Adds.{DrewNoMore, IsPlanOf, IsReached, WasAsked, documents_made, most_looks, most_words}

first-of : (x y : Bool) → (x && y) ≡ true → x ≡ true
first-of true y e = refl
first-of false y e = e

few-files : (a : AddRequest) → are_few a ≡ true → nat_le (length a.handles) files_limit ≡ true
few-files a e = first-of (nat_le (length a.handles) files_limit) (are_flags a) e

mapped : {X Y : Type 0} (f : X → Y) (xs : List X) → length (map f xs) ≡ length xs
mapped f [] = refl
mapped f (x ∷ xs) = ap suc (mapped f xs)

-- ---- looks

-- a thing is shown at a path once at most
shown-few : (told : Option Held) (paths : List (List ℕ)) (looks : List Look) (failed : Bool) → Shows told paths looks failed → length looks ≤ length paths
shown-few told [] looks failed h = let none : length looks ≡ 0 = ap (λ (l : List Look). length l) h.0 in omega arith
shown-few told (p ∷ ps) [] failed h = let none : 0 ≤ length (p ∷ ps) = omega arith in none
shown-few told (p ∷ ps) (l ∷ ls) failed h = let rest : length ls ≤ length ps = shown-few told ps ls failed h.1 in omega arith

one-more : (n : ℕ) → 1 + n ≡ suc n
one-more n = omega arith

two-more : (n : ℕ) → 2 + (n + n) ≡ suc n + suc n
two-more n = omega arith

looked-all : (a : AddRequest) (b : Bool) → a.named ≡ b → (files : List (List ℕ)) → length (flat_map (paths_looked_at a) files) ≡ cond b (length files + length files) (length files)
looked-all a true e [] = refl
looked-all a false e [] = refl
looked-all a true e (f ∷ fs) =
    let one : length (paths_looked_at a f) ≡ 2 = ap (λ (x : Bool). length (cond x (f ∷ document_path a f ∷ []) (f ∷ []))) e in
    let rest : length (flat_map (paths_looked_at a) fs) ≡ length fs + length fs = looked-all a true e fs in
    length-append (paths_looked_at a f) (flat_map (paths_looked_at a) fs) ∙ ((λ i. one i + rest i) ∙ two-more (length fs))
looked-all a false e (f ∷ fs) =
    let one : length (paths_looked_at a f) ≡ 1 = ap (λ (x : Bool). length (cond x (f ∷ document_path a f ∷ []) (f ∷ []))) e in
    let rest : length (flat_map (paths_looked_at a) fs) ≡ length fs = looked-all a false e fs in
    length-append (paths_looked_at a f) (flat_map (paths_looked_at a) fs) ∙ ((λ i. one i + rest i) ∙ one-more (length fs))

pub looks-few : (a : AddRequest) (paths : List (List ℕ)) (told : Option Held) (looks : List Look) (failed : Bool) → are_few a ≡ true → Shows told (flat_map (paths_looked_at a) (presented_of paths a.handles)) looks failed → length looks ≤ most_looks a
looks-few a paths told looks failed few h =
    let asked = shown-few told (flat_map (paths_looked_at a) (presented_of paths a.handles)) looks failed h in
    let files : length (presented_of paths a.handles) ≡ length a.handles = mapped (λ (handle : ℕ). get_or paths handle []) a.handles in
    let all : length (flat_map (paths_looked_at a) (presented_of paths a.handles)) ≡ cond a.named (length a.handles + length a.handles) (length a.handles) =
    looked-all a a.named refl (presented_of paths a.handles) ∙ ap (λ (n : ℕ). cond a.named (n + n) n) files in
    let most : most_looks a ≡ cond a.named (length a.handles + length a.handles) (length a.handles) =
    ap (λ (b : Bool). cond b (cond a.named (length a.handles + length a.handles) (length a.handles)) 0) (few-files a few) in
    subst (λ (n : ℕ). length looks ≤ n) (all ∙ sym most) asked

pub was-asked : (most : ℕ) (old new : TreeIs) (looks : ℕ) (failed : Bool) → failed ≡ false → looks ≤ most → Asked old looks failed new → WasAsked most old new
was-asked most old new looks failed f h k = (looks, subst (λ (b : Bool). Asked old looks b new) f k, h)

pub was-asked-none : (most : ℕ) (old new : TreeIs) → new ≡ old → WasAsked most old new
was-asked-none most old new e =
    let none : 0 ≤ most = omega arith in
    (0, e, none)

-- ---- words

pub words-few : (a : AddRequest) (plan : AddPlan) (paths : List (List ℕ)) (told told_after : Option (List ℕ)) → are_few a ≡ true → map (λ item. item.path) plan.items ≡ paths_of a paths a.handles → HasDrawnUpTo (words_for plan.items) told told_after → HasDrawnUpTo (most_words a) told told_after
words-few a plan paths told told_after few planned d =
    let items : length plan.items ≡ length a.handles =
    sym (mapped (λ (item : PlanItem). item.path) plan.items)
    ∙ (ap (λ (l : List (List ℕ)). length l) planned ∙ (mapped (document_path a) (presented_of paths a.handles) ∙ mapped (λ (handle : ℕ). get_or paths handle []) a.handles)) in
    let most : most_words a ≡ length a.handles = ap (λ (b : Bool). cond b (length a.handles) 0) (few-files a few) in
    let new : words_for plan.items ≤ length plan.items = count_by-le-length (λ (item : PlanItem). is_new item.place) plan.items in
    let up : length d.0 ≤ most_words a = subst (λ (n : ℕ). length d.0 ≤ n) (items ∙ sym most) (no-more (length d.0) (words_for plan.items) (length plan.items) d.2 new) in
    (d.0, d.1, up)
  where
    no-more : (x y z : ℕ) → x ≤ y → y ≤ z → x ≤ z
    no-more x y z h k = omega arith

-- a plan makes as many documents as it has files whose documents are new
made-so : (s : State) (c : Connection) (a : AddRequest) (who : Who) (paths : List (List ℕ)) (before : Book) (told : Option Held) (plan : AddPlan) → IsReached s c a who paths before told → IsPlan s c a plan → IsOfCall who a plan → documents_made s c a ≡ words_for plan.items
made-so s c a who paths before told plan r is call =
    let left : State = taken_from_queue c a s in
    let called : IsOfCall c.who a plan = subst (λ (w : Who). IsOfCall w a plan) (sym r.asked.caller) call in
    let counted = items-counted c.who a plan.app plan.listed plan.items (none_followed left []) (owns-hold c.who a plan.items called.own) in
    let live : length (followed c.who a plan left []).state.documents ≡ length left.documents + words_for plan.items = counted.live in
    let queue : length left.documents ≡ length s.documents = ap (λ (b : Bool). length (cond b (with_queue c.seat (drop a.fds) s) s).documents) r.presented in
    let does : length (added_files s c a []).state.documents ≡ length (followed c.who a plan left []).state.documents = ap (λ (x : Added). length x.state.documents) (is.does []) in
    so-many (length (added_files s c a []).state.documents) (length s.documents) (words_for plan.items) (does ∙ (live ∙ ap (λ (n : ℕ). n + words_for plan.items) queue))
  where
    so-many : (after before new : ℕ) → after ≡ before + new → after - before ≡ new
    so-many after before new e = omega arith

pub drew-for-made : (a : AddRequest) (who : Who) (paths : List (List ℕ)) (before : Book) (told : Option Held) (plan : AddPlan) (old new : Option (List ℕ)) → IsPlanOf who a paths before.documents.live before.rights plan → IsOfCall who a plan → HasDrawnUpTo (words_for plan.items) old new →
    DrewNoMore a who paths before told old new
drew-for-made a who paths before told plan old new is call d s c r =
    subst (λ (n : ℕ). HasDrawnUpTo n old new) (sym (made-so s c a who paths before told plan r (is s c r.asked) call)) d

pub drew-for-none : (a : AddRequest) (who : Who) (paths : List (List ℕ)) (before : Book) (told : Option Held) (words : Option (List ℕ)) → DrewNoMore a who paths before told words words
drew-for-none a who paths before told words s c r = drew-none (documents_made s c a) words words refl

-- ---- what a refusal says, whatever is answered

pub on-err : {A E P : Type 0} (r : Result A E) → P → OnErr r P
on-err (Ok x) p = tt
on-err (Err e) p = p
