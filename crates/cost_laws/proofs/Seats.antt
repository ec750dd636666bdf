-- What entries cost is what those of each seat cost together.
use Rattle.std.proofs.Common.{◌≡◌, ◌⊎◌, inl, inr, ℕ, zero, suc, ◌+◌, ◌<◌, ◌≤◌, ◌==◌, List, [], ◌∷◌, Bool, true, false, cond, refl, sym, ap, ◌∙◌, arith}
use Rattle.std.proofs.lemmas.Bool.Decides.{nat_tests}
use Rattle.std.proofs.lemmas.List.Sums.{sum_by-cons}
use Rattle.portal_model.specs.declared.entry.Entry.{Entry}
use Rattle.portal_model.specs.History.{cost, cost_of, of_seat}
use Rattle.cost_laws.specs.Seats.{AreOfSeats, SeatsCostAll, seats_cost}

cost-cons : (e : Entry) (h : List Entry) → cost (e ∷ h) ≡ cost_of e.request + cost h
cost-cons e h = sum_by-cons (λ (x : Entry). cost_of x.request) e h

-- an entry of the seat is the first of its entries
own_first : (n : ℕ) (e : Entry) (h : List Entry) → e.seat ≡ n → of_seat n (e ∷ h) ≡ e ∷ of_seat n h
own_first n e h is =
    let own : (e.seat == n) ≡ true = grind (arith, nat_tests) in
    ap (λ (b : Bool). cond b (e ∷ of_seat n h) (of_seat n h)) own

-- one of another seat is none of them
other_first : (n : ℕ) (e : Entry) (h : List Entry) → (e.seat ≡ n → ⊥)
    → of_seat n (e ∷ h) ≡ of_seat n h
other_first n e h not =
    let other : (e.seat == n) ≡ false = grind (arith, nat_tests) in
    ap (λ (b : Bool). cond b (e ∷ of_seat n h) (of_seat n h)) other

-- where the seat of an entry stands, of so many seats behind this
abbrev Within : ℕ → ℕ → Entry → Type 0
Within before more e = (before < e.seat) × (e.seat ≤ before + more)

-- an entry of none of the seats doesn't count
outside : (more before : ℕ) (e : Entry) (h : List Entry) → e.seat ≤ before
    → seats_cost before more (e ∷ h) ≡ seats_cost before more h
outside zero before e h l = refl
outside (suc more) before e h l =
    let here : cost (of_seat (suc before) (e ∷ h)) ≡ cost (of_seat (suc before) h) =
    ap cost (other_first (suc before) e h (λ is. omega (arith, is, l))) in
    let rest : seats_cost (suc before) more (e ∷ h) ≡ seats_cost (suc before) more h =
    outside more (suc before) e h (omega (arith, l)) in
    omega (arith, here, rest)

-- an entry of one of the seats counts once
inside : (more before : ℕ) (e : Entry) (h : List Entry) → Within before more e
    → seats_cost before more (e ∷ h) ≡ cost_of e.request + seats_cost before more h
inside zero before e h l = absurd (omega (arith, l.0, l.1))
inside (suc more) before e h l =
    by_seat (e.seat == suc before)
    (λ (k : Within (suc before) more e). inside more (suc before) e h k) refl
  where
    by_seat : (b : Bool)
        → (Within (suc before) more e
        → seats_cost (suc before) more (e ∷ h) ≡ cost_of e.request + seats_cost (suc before) more h)
        → (e.seat == suc before) ≡ b
        → seats_cost before (suc more) (e ∷ h) ≡ cost_of e.request + seats_cost before (suc more) h
    by_seat true deeper own =
        let is : e.seat ≡ suc before = grind (arith, nat_tests) in
        let here : cost (of_seat (suc before) (e ∷ h)) ≡ cost (e ∷ of_seat (suc before) h) =
        ap cost (own_first (suc before) e h is) in
        let counts = cost-cons e (of_seat (suc before) h) in
        let rest : seats_cost (suc before) more (e ∷ h) ≡ seats_cost (suc before) more h =
        outside more (suc before) e h (omega (arith, is)) in
        omega (arith, here, counts, rest)
    by_seat false deeper other =
        let not : e.seat ≡ suc before → ⊥ = λ is. grind (arith, nat_tests) in
        let here : cost (of_seat (suc before) (e ∷ h)) ≡ cost (of_seat (suc before) h) =
        ap cost (other_first (suc before) e h not) in
        let beyond : suc before < e.seat = omega (arith, l.0, not) in
        let rest = deeper (beyond, omega (arith, l.1)) in
        omega (arith, here, rest)

no_cost : (more before : ℕ) → seats_cost before more [] ≡ 0
no_cost zero before = refl
no_cost (suc more) before = let rest = no_cost more (suc before) in omega (arith, rest)

pub seats-cost-all : SeatsCostAll
seats-cost-all count [] of = sym (no_cost count 0)
seats-cost-all count (e ∷ h) of =
    cost-cons e h ∙
    (ap (λ (n : ℕ). cost_of e.request + n) (seats-cost-all count h fewer)
    ∙ sym (inside count 0 e h within))
  where
    never : {X : Type 0} (x : X) (xs : List X) → x ∷ xs ≡ [] → ⊥
    never x xs is = cc

    -- without the first there are none of other seats either
    fewer : AreOfSeats count h
    fewer n past = rest (e.seat == n) (of n past)
      where
        rest : (b : Bool) → cond b (e ∷ of_seat n h) (of_seat n h) ≡ [] → of_seat n h ≡ []
        rest true is = absurd (never e (of_seat n h) is)
        rest false is = is

    not_past : (e.seat ≡ 0) ⊎ (count < e.seat) → ⊥
    not_past past = never e (of_seat e.seat h) (sym (own_first e.seat e h refl) ∙ of e.seat past)

    within : (0 < e.seat) × (e.seat ≤ 0 + count)
    within = (
      at_least e.seat (λ is. not_past (inl is)),
      at_most e.seat (λ past. not_past (inr past)),
    )
      where
        at_least : (n : ℕ) → (n ≡ 0 → ⊥) → 0 < n
        at_least zero not = absurd (not refl)
        at_least (suc n) not = omega arith

        at_most : (n : ℕ) → (count < n → ⊥) → n ≤ 0 + count
        at_most n not = omega (arith, not)
