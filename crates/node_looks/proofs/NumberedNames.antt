-- Looking for the application of a name, one number after another.
use Rattle.std.proofs.Common.{◌≡◌, ◌≤◌, ◌<◌, ◌+◌, ℕ, zero, suc, nat_lt, length, take, List, [], ◌∷◌, Bool, true, false, cond, Option, Some, None, refl, sym, ap, ◌∙◌, arith}
use Rattle.std.specs.List.{list_any, position_or_len, slice_get}
use Rattle.std.specs.Option.{option_map}
use Rattle.std.proofs.lemmas.Bool.Decides.{nat_tests}
use Rattle.portal_base.specs.Names.{is_same}
use Rattle.portal_model.specs.Applications.{name_of_number, number_of}
use Rattle.node_looks.specs.Names.{is_app}

abbrev test : List ℕ → List ℕ → Bool
test name app = is_same app name

abbrev ahead : List ℕ → List (List ℕ) → ℕ
ahead name apps = position_or_len (test name) apps

-- the first of the name stands at this place
stands : (name : List ℕ) (apps : List (List ℕ)) (k : ℕ) → list_any (test name) (take k apps) ≡ false → is_app (slice_get apps k) name ≡ true → (ahead name apps ≡ k) × (k < length apps)
stands name [] k n e = cc
stands name (x ∷ xs) zero n e = (grind (arith, e), omega arith)
stands name (x ∷ xs) (suc k) n e =
    let first : test name x ≡ false = grind (arith, n) in
    let rest : list_any (test name) (take k xs) ≡ false = grind (arith, n) in
    let more : (ahead name xs ≡ k) × (k < length xs) = stands name xs k rest e in
    (grind (arith, first, more.0), omega (arith, more.1))

nowhere : (name : List ℕ) (apps : List (List ℕ)) → list_any (test name) apps ≡ false → ahead name apps ≡ length apps
nowhere name [] n = refl
nowhere name (x ∷ xs) n = grind (arith, n, nowhere name xs)

found-number : (a n k : ℕ) → a ≡ k → k < n → option_map (λ at. at + 1) (cond (nat_lt a n) (Some a) None) ≡ Some (k + 1)
found-number a n k e l =
    let t : nat_lt a n ≡ true = grind (arith, nat_tests, e, l) in
    ap (λ (b : Bool). option_map (λ at. at + 1) (cond b (Some a) None)) t ∙ ap (λ (m : ℕ). Some (m + 1)) e

no-number : (a n : ℕ) → a ≡ n → option_map (λ at. at + 1) (cond (nat_lt a n) (Some a) None) ≡ None
no-number a n e =
    let t : nat_lt a n ≡ false = grind (arith, nat_tests, e) in
    ap (λ (b : Bool). option_map (λ at. at + 1) (cond b (Some a) None)) t

at-number : (apps : List (List ℕ)) (name : List ℕ) (k : ℕ) → name_of_number apps (k + 1) ≡ slice_get apps k
at-number apps name k = let e : k + 1 ≡ suc k = omega arith in ap (name_of_number apps) e

pub is-found : (apps : List (List ℕ)) (name : List ℕ) (k : ℕ) → list_any (λ app. is_same app name) (take k apps) ≡ false → is_app (name_of_number apps (k + 1)) name ≡ true → Some (k + 1) ≡ number_of apps name
is-found apps name k n e =
    let here : is_app (slice_get apps k) name ≡ true = ap (λ (o : Option (List ℕ)). is_app o name) (sym (at-number apps name k)) ∙ e in
    let at : (ahead name apps ≡ k) × (k < length apps) = stands name apps k n here in
    sym (found-number (ahead name apps) (length apps) k at.0 at.1)

take-all : (apps : List (List ℕ)) (k : ℕ) → length apps ≤ k → take k apps ≡ apps
take-all [] zero l = refl
take-all [] (suc k) l = refl
take-all (x ∷ xs) zero l = absurd (omega (arith, l))
take-all (x ∷ xs) (suc k) l = ap (λ (ys : List (List ℕ)). x ∷ ys) (take-all xs k (omega (arith, l)))

pub is-nowhere : (apps : List (List ℕ)) (name : List ℕ) (k : ℕ) → list_any (λ app. is_same app name) (take k apps) ≡ false → length apps ≤ k → None ≡ number_of apps name
is-nowhere apps name k n l =
    let none : list_any (test name) apps ≡ false = ap (list_any (test name)) (sym (take-all apps k l)) ∙ n in
    sym (no-number (ahead name apps) (length apps) (nowhere name apps none))

step : (name : List ℕ) (apps : List (List ℕ)) (k : ℕ) → list_any (test name) (take k apps) ≡ false → is_app (slice_get apps k) name ≡ false → list_any (test name) (take (suc k) apps) ≡ false
step name [] k n e = refl
step name (x ∷ xs) zero n e = grind (arith, e)
step name (x ∷ xs) (suc k) n e =
    let first : test name x ≡ false = grind (arith, n) in
    let rest : list_any (test name) (take k xs) ≡ false = grind (arith, n) in
    let more : list_any (test name) (take (suc k) xs) ≡ false = step name xs k rest e in
    grind (arith, first, more)

pub one-more : (apps : List (List ℕ)) (name : List ℕ) (k : ℕ) → list_any (λ app. is_same app name) (take k apps) ≡ false → is_app (name_of_number apps (k + 1)) name ≡ false →
    list_any (λ app. is_same app name) (take (k + 1) apps) ≡ false
one-more apps name k n e =
    let here : is_app (slice_get apps k) name ≡ false = ap (λ (o : Option (List ℕ)). is_app o name) (sym (at-number apps name k)) ∙ e in
    let m : k + 1 ≡ suc k = omega arith in
    ap (λ (j : ℕ). list_any (test name) (take j apps)) m ∙ step name apps k n here
