-- Posts that listen, one more and so many more.
use Rattle.std.proofs.Common.{◌≡◌, ℕ, zero, suc, ◌+◌, List, [], ◌∷◌, ◌++◌, refl, sym, ap, ◌∙◌, subst, arith}
use Rattle.std.specs.Prelude.{map, replicate}
use Rattle.std.proofs.lemmas.List.{append_assoc, map-append}
use Rattle.worker_gate.specs.declared.worker.Post.{Post}
use Rattle.serve_start.specs.Posts.{Bound, ListenAt, bound_of}

pub one_more : {L : Type 0} (at : L → List ℕ → Type 0) (posts : List (Post L)) (paths : List (List ℕ)) (post : Post L) (path : List ℕ) → ListenAt at posts paths → at post.listener path → ListenAt at (posts ++ post ∷ []) (paths ++ path ∷ [])
one_more at [] [] post path all here = (here, tt)
one_more at (p ∷ ps) (q ∷ qs) post path all here = (all.0, one_more at ps qs post path all.1 here)
one_more at [] (q ∷ qs) post path all here = absurd all
one_more at (p ∷ ps) [] post path all here = absurd all

replicate-more : {X : Type 0} (n : ℕ) (x : X) → replicate n x ++ x ∷ [] ≡ replicate (suc n) x
replicate-more zero x = refl
replicate-more (suc n) x = ap (λ l. x ∷ l) (replicate-more n x)

pub so_many_more : {L : Type 0} (at : L → List ℕ → Type 0) (posts : List (Post L)) (paths : List (List ℕ)) (n : ℕ) (post : Post L) (path : List ℕ) → ListenAt at posts (paths ++ replicate n path) → at post.listener path → ListenAt at (posts ++ post ∷ []) (paths ++ replicate (n + 1) path)
so_many_more {L = L} at posts paths n post path all here =
    let next : suc n ≡ n + 1 = omega arith in
    let more : (paths ++ replicate n path) ++ path ∷ [] ≡ paths ++ replicate (n + 1) path =
    append_assoc paths (replicate n path) (path ∷ []) ∙ ap (λ (l : List (List ℕ)). paths ++ l) (replicate-more n path ∙ ap (λ (k : ℕ). replicate k path) next) in
    subst (λ (l : List (List ℕ)). ListenAt at (posts ++ post ∷ []) l) more (one_more at posts (paths ++ replicate n path) post path all here)

-- and they are bound as so many more
pub bound_more : {L : Type 0} (old : List Bound) (posts : List (Post L)) (n : ℕ) (post : Post L) (bound : Bound) → map bound_of posts ≡ old ++ replicate n bound → bound_of post ≡ bound → map bound_of (posts ++ post ∷ []) ≡ old ++ replicate (n + 1) bound
bound_more old posts n post bound before is =
    let next : suc n ≡ n + 1 = omega arith in
    map-append bound_of posts (post ∷ [])
    ∙ (ap (λ (l : List Bound). l ++ bound_of post ∷ []) before
    ∙ (ap (λ (b : Bound). (old ++ replicate n bound) ++ b ∷ []) is
    ∙ (append_assoc old (replicate n bound) (bound ∷ [])
    ∙ ap (λ (l : List Bound). old ++ l) (replicate-more n bound ∙ ap (λ (k : ℕ). replicate k bound) next))))
