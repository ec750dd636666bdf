-- Looks at paths, one after another.
use Rattle.std.proofs.Common.{◌≡◌, ℕ, ◌+◌, ◌<◌, List, [], ◌∷◌, ◌++◌, drop, take, get_or, length, Bool, true, false, cond, Option, Some, None, refl, sym, ap, subst, ◌∙◌, arith, zero, suc}
use Rattle.std.proofs.lemmas.List.{take_more}
use Rattle.file_generations.specs.Generations.{Held}
use Rattle.portal_base.specs.declared.files.Look.{Look}
use Rattle.host_tree.specs.Trees.{Asks, TreeIs, after_call, Looks}
use Rattle.host_tree.specs.declared.tree.TreeCall.TheVariants as TreeCall
use Rattle.host_tree.specs.declared.tree.LookAnswer.TheVariants as look
use Rattle.portal_model.specs.Walk.{AtPath, IsShown, Gives, Walk, Answers, looks_at_all, walked}
use Rattle.add_calls.specs.Shown.{Asked, Shows}

-- what a tree answers is what it shows
pub answer-shows : (told began : Option Held) (path : List ℕ) (shown : Look) → told ≡ began → Looks told path (look.Is shown) → IsShown began (AtPath path) shown
answer-shows None None path shown e h = tt
answer-shows (Some files) (Some others) path shown e h = let same : files ≡ others = cc in subst (λ (held : Held). IsShown (Some held) (AtPath path) shown) same h
answer-shows None (Some others) path shown e h = cc
answer-shows (Some files) None path shown e h = tt

-- one look more
pub shows-more : (told : Option Held) (paths : List (List ℕ)) (path : List ℕ) (looks : List Look) (shown : Look) →
    Shows told paths looks false → IsShown told (AtPath path) shown → Shows told (paths ++ path ∷ []) (looks ++ shown ∷ []) false
shows-more told [] path [] shown h k = (k, (refl, refl))
shows-more told [] path (l ∷ ls) shown h k = let e : l ∷ ls ≡ [] = h.0 in cc
shows-more told (p ∷ ps) path [] shown h k = cc
shows-more told (p ∷ ps) path (l ∷ ls) shown h k = (h.0, shows-more told ps path ls shown h.1 k)

-- the next one fails
pub shows-failing : (told : Option Held) (paths : List (List ℕ)) (path : List ℕ) (rest : List (List ℕ)) (looks : List Look) →
    Shows told paths looks false → Shows told (paths ++ path ∷ rest) looks true
shows-failing told [] path rest [] h = refl
shows-failing told [] path rest (l ∷ ls) h = let e : l ∷ ls ≡ [] = h.0 in cc
shows-failing told (p ∷ ps) path rest [] h = cc
shows-failing told (p ∷ ps) path rest (l ∷ ls) h = (h.0, shows-failing told ps path rest ls h.1)

-- one call more, which is done or fails
pub asked-more : (n : ℕ) (old mid new : TreeIs) → Asked old n false mid → Asks TreeCall.Look mid false new → Asked old (n + 1) false new
asked-more zero old mid new h k = let m : Asks TreeCall.Look old false new = subst (λ (t : TreeIs). Asks TreeCall.Look t false new) h k in (m.fails, m.goes)
asked-more (suc n) old mid new h k =
    let one : suc n + 1 ≡ suc (n + 1) = omega arith in
    subst (λ (m : ℕ). Asked old m false new) (sym one) (h.0, asked-more n (after_call old TreeCall.Look false old.told) mid new h.1 k)

pub asked-failing : (n : ℕ) (old mid new : TreeIs) → Asked old n false mid → Asks TreeCall.Look mid true new → Asked old n true new
asked-failing zero old mid new h k = subst (λ (t : TreeIs). Asks TreeCall.Look t true new) h k
asked-failing (suc n) old mid new h k = (h.0, asked-failing n (after_call old TreeCall.Look false old.told) mid new h.1 k)

pub asked-told : (n : ℕ) (old new : TreeIs) (failed : Bool) → Asked old n failed new → new.told ≡ old.told
asked-told zero old new false h = ap (λ (t : TreeIs). t.told) h
asked-told zero old new true h = ap (λ (t : TreeIs). t.told) h.goes
asked-told (suc n) old new failed h = asked-told n (after_call old TreeCall.Look false old.told) new failed h.1

pub next-path : (paths : List (List ℕ)) (i : ℕ) (p d : List ℕ) → i < length paths → p ≡ get_or paths i d → take (i + 1) paths ≡ take i paths ++ p ∷ []
next-path paths i p d h e = take_more paths i d h ∙ ap (λ (x : List ℕ). take i paths ++ x ∷ []) (sym e)

pub split-at : (paths : List (List ℕ)) (i : ℕ) (p d : List ℕ) → i < length paths → p ≡ get_or paths i d → take i paths ++ p ∷ drop (i + 1) paths ≡ paths
split-at [] i p d h e = let no : ⊥ = omega arith in absurd no
split-at (x ∷ xs) zero p d h e = ap (λ (y : List ℕ). y ∷ xs) e
split-at (x ∷ xs) (suc i) p d h e =
    let one : suc i + 1 ≡ suc (i + 1) = omega arith in
    rw one (ap (λ (l : List (List ℕ)). x ∷ l) (split-at xs i p d (omega arith) e))

-- ---- a walk that looks at paths and then answers

pub gives-shown : {X : Type 0} (told : Option Held) (paths : List (List ℕ)) (next : List Look → Walk X) (answer : List Look → X) (looks : List Look) (failed : Bool) →
    ((ls : List Look) → next ls ≡ Answers (answer ls)) → Shows told paths looks failed → Gives told (looks_at_all paths next) looks failed
gives-shown told [] next answer looks failed e h = subst (λ (w : Walk _). Gives told w looks failed) (sym (e [])) h
gives-shown told (p ∷ ps) next answer [] failed e h = h
gives-shown told (p ∷ ps) next answer (l ∷ ls) failed e h = (h.0, gives-shown told ps (λ looks. next (l ∷ looks)) (λ looks. answer (l ∷ looks)) ls failed (λ looks. e (l ∷ looks)) h.1)

pub walked-shown : {X : Type 0} (told : Option Held) (paths : List (List ℕ)) (next : List Look → Walk X) (answer : List Look → X) (now : ℕ) (looks : List Look) (failed : Bool) →
    ((ls : List Look) → next ls ≡ Answers (answer ls)) → Shows told paths looks failed → walked (looks_at_all paths next) now looks failed ≡ cond failed None (Some (answer looks))
walked-shown told [] next answer now [] failed e h = ap (λ (w : Walk _). walked w now [] failed) (e []) ∙ ap (λ (b : Bool). cond b None (Some (answer []))) (sym h.1)
walked-shown told [] next answer now (l ∷ ls) failed e h = let f : l ∷ ls ≡ [] = h.0 in cc
walked-shown told (p ∷ ps) next answer now [] failed e h = ap (λ (b : Bool). cond b None (Some (answer []))) (sym h)
walked-shown told (p ∷ ps) next answer now (l ∷ ls) failed e h = walked-shown told ps (λ looks. next (l ∷ looks)) (λ looks. answer (l ∷ looks)) now ls failed (λ looks. e (l ∷ looks)) h.1
