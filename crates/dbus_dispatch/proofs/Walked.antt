-- What a loop over a list has walked so far.
use Rattle.std.proofs.Common.{◌≡◌, ℕ, ◌+◌, ◌<◌, List, [], ◌∷◌, ◌++◌, length, map, get_or, take, Result, Ok, Err, IfOk, sym, ap, ◌∙◌}
use Rattle.std.proofs.lemmas.List.{map-append, take_more}

-- one more item is one more value
pub more_mapped : {X Y : Type 0} (f : X → Y) (xs : List X) (i : ℕ) (x : X) (ys zs : List Y) (y : Y) → i < length xs → x ≡ get_or xs i x → ys ≡ map f (take i xs) → y ≡ f x → zs ≡ ys ++ y ∷ [] → zs ≡ map f (take (i + 1) xs)
more_mapped {X} {Y} f xs i x ys zs y lt is before one now =
    now ∙ (ap (λ (l : List Y). l ++ y ∷ []) before ∙ (ap (λ (z : Y). map f (take i xs) ++ z ∷ []) (one ∙ ap f is)
    ∙ (sym (map-append f (take i xs) (get_or xs i x ∷ [])) ∙ ap (map f) (sym (take_more xs i x lt)))))

-- what holds, holds where something is answered
pub any_ok : {X E : Type 0} (P : Type 0) (r : Result X E) → P → IfOk r (λ x. P)
any_ok P (Ok x) h = h
any_ok P (Err e) h = tt
