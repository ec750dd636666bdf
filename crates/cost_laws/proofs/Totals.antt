-- What several ask together.
use Rattle.std.proofs.Common.{◌≡◌, ℕ, zero, suc, ◌+◌, ◌≤◌, List, [], ◌∷◌, ◌++◌, length, Some, refl, subst, arith}
use Rattle.std.specs.Prelude.{slice_get}
use Rattle.portal_model.specs.declared.entry.Entry.{Entry}
use Rattle.portal_model.specs.History.{cost, of_seat}
use Rattle.cost_laws.specs.Seats.{seats_cost}
use Rattle.cost_laws.specs.Totals.{AllAsk}

-- the first of what asks, asks no more than all
pub first_ask : {X : Type 0} (asks : X → ℕ → Type 0) (xs ys : List X) (total : ℕ)
    → AllAsk asks (xs ++ ys) total → (front : ℕ) × AllAsk asks xs front × (front ≤ total)
first_ask asks [] ys total h = (0, refl, omega arith)
first_ask asks (x ∷ xs) ys total (first, others, one, more, is) =
    let rest = first_ask asks xs ys others more in
    let least = rest.2 in
    (first + rest.0, (first, rest.0, one, rest.1, refl), omega (arith, is, least))

-- Where what each seat made costs no more than what is asked at its place, all of them cost no more
-- than all that is asked.
pub seats_within : {X : Type 0} (asks : X → ℕ → Type 0) (xs : List X) (before total : ℕ)
    (h : List Entry) → AllAsk asks xs total
    → ((k : ℕ) (x : X) (one : ℕ) → slice_get xs k ≡ Some x → asks x one
    → cost (of_seat (suc (before + k)) h) ≤ one)
    → seats_cost before (length xs) h ≤ total
seats_within asks [] before total h all each = omega arith
seats_within asks (x ∷ xs) before total h (first, others, one, more, is) each =
    let here : cost (of_seat (suc before) h) ≤ first =
    subst (λ (n : ℕ). cost (of_seat (suc n) h) ≤ first) (omega arith)
    (each 0 x first refl one) in
    let rest = seats_within asks xs (suc before) others h more
    (λ k y n at asked. subst (λ (m : ℕ). cost (of_seat (suc m) h) ≤ n) (omega arith)
    (each (suc k) y n at asked)) in
    omega (arith, here, rest, is)

-- The same, where that of the seat at this place would cost so much more.
pub seats_within_so : {X : Type 0} (asks : X → ℕ → Type 0) (xs : List X) (place before total : ℕ)
    (x : X) (h : List Entry) (beside : ℕ) → slice_get xs place ≡ Some x → AllAsk asks xs total
    → ((k : ℕ) (x : X) (one : ℕ) → slice_get xs k ≡ Some x → asks x one
    → cost (of_seat (suc (before + k)) h) ≤ one)
    → ((one : ℕ) → asks x one → cost (of_seat (suc (before + place)) h) + beside ≤ one)
    → seats_cost before (length xs) h + beside ≤ total
seats_within_so asks [] place before total x h beside at all each so = absurd (cc)
seats_within_so asks (y ∷ xs) zero before total x h beside at
    (first, others, one, more, is) each so =
    let same : y ≡ x = cc in
    let here : cost (of_seat (suc before) h) + beside ≤ first =
    subst (λ (n : ℕ). cost (of_seat (suc n) h) + beside ≤ first) (omega arith)
    (so first (subst (λ (z : _). asks z first) same one)) in
    let rest = seats_within asks xs (suc before) others h more
    (λ k z n at_k asked. subst (λ (m : ℕ). cost (of_seat (suc m) h) ≤ n) (omega arith)
    (each (suc k) z n at_k asked)) in
    omega (arith, here, rest, is)
seats_within_so asks (y ∷ xs) (suc place) before total x h beside at
    (first, others, one, more, is) each so =
    let here : cost (of_seat (suc before) h) ≤ first =
    subst (λ (n : ℕ). cost (of_seat (suc n) h) ≤ first) (omega arith)
    (each 0 y first refl one) in
    let rest = seats_within_so asks xs place (suc before) others x h beside at more
    (λ k z n at_k asked. subst (λ (m : ℕ). cost (of_seat (suc m) h) ≤ n) (omega arith)
    (each (suc k) z n at_k asked))
    (λ n asked. subst (λ (m : ℕ). cost (of_seat (suc m) h) + beside ≤ n) (omega arith)
    (so n asked)) in
    omega (arith, here, rest, is)
