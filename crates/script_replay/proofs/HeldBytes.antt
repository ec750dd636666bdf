-- How many bytes the sessions hold.
use Rattle.std.proofs.Common.{◌≡◌, ℕ, zero, suc, ◌+◌, ◌<◌, ◌≤◌, ◌==◌, Option, None, Bool, true, false, refl, sym, ap, ◌∙◌, inl, inr, arith}
use Rattle.std.proofs.lemmas.Bool.{cases_Bool}
use Rattle.std.proofs.lemmas.Bool.Decides.{nat_tests}
use Rattle.std.specs.Prelude.{◌≢◌, ◌⊎◌, if◌then◌else◌}
use Rattle.session.specs.Standings.{Standing}
use Rattle.script_replay.specs.Scenes.{Scene, held_below, held_by, held_in, placed}

abbrev Sessions : Type 0
Sessions = ℕ → Option Standing

here : (f : Sessions) (seat : ℕ) (x : Option Standing) (n : ℕ) → n ≡ seat → placed f seat x n ≡ x
here f seat x n e = let t : (n == seat) ≡ true = grind (arith, nat_tests) in ap (λ (b : Bool). if b then x else f n) t

other_number : (n m : ℕ) → n ≢ m → (n == m) ≡ false
other_number n m h = elim (cases_Bool (n == m)) [ inl t ↦ absurd (h (grind (arith, nat_tests))) | inr f ↦ f ]

there : (f : Sessions) (seat : ℕ) (x : Option Standing) (n : ℕ) → n ≢ seat → placed f seat x n ≡ f n
there f seat x n other = ap (λ (b : Bool). if b then x else f n) (other_number n seat other)

-- what stands at a number counts for none below it
above : (k : ℕ) (f : Sessions) (seat : ℕ) (x : Option Standing) → k ≤ seat → held_below k (placed f seat x) ≡ held_below k f
unfolding held_below
above zero f seat x h = refl
above (suc k) f seat x h =
    let first = ap held_by (there f seat x k (λ e. absurd (omega arith))) in
    let others = above k f seat x (omega (arith, h)) in
    omega arith

same_or_less : (n k : ℕ) → n < suc k → (n ≡ k) ⊎ (n < k)
same_or_less n k h = elim (cases_Bool (n == k)) [ inl t ↦ inl (grind (arith, nat_tests)) | inr f ↦ inr (grind (arith, nat_tests)) ]

-- one session in place of another
pub held_placed : (k : ℕ) (f : Sessions) (seat : ℕ) (x : Option Standing) → seat < k → held_below k (placed f seat x) + held_by (f seat) ≡ held_below k f + held_by x
unfolding held_below
held_placed zero f seat x h = absurd (omega arith)
held_placed (suc k) f seat x h = elim (same_or_less seat k h) [
  | inl e ↦
      let first = ap held_by (here f seat x k (sym e)) in
      let others = above k f seat x (omega arith) in
      let was : held_by (f seat) ≡ held_by (f k) = ap (λ (n : ℕ). held_by (f n)) e in
      omega arith
  | inr l ↦
      let first = ap held_by (there f seat x k (λ e. absurd (omega arith))) in
      let others = held_placed k f seat x l in
      omega arith
]

none_held : (k : ℕ) (f : Sessions) → ((n : ℕ) → f n ≡ None) → held_below k f ≡ 0
unfolding held_below
none_held zero f h = refl
none_held (suc k) f h =
    let first = ap held_by (h k) in
    let others = none_held k f h in
    omega arith

-- ---- of a scene

-- one session in place of another
pub held_on : (a b : Scene) (seat : ℕ) (x : Option Standing) → seat ≤ 65535 → b.sessions ≡ placed a.sessions seat x → held_in b + held_by (a.sessions seat) ≡ held_in a + held_by x
unfolding held_in
held_on a b seat x h is = ap (λ (f : Sessions). held_below 65536 f + held_by (a.sessions seat)) is ∙ held_placed 65536 a.sessions seat x (omega (arith, h))

pub held_same : (a b : Scene) → b.sessions ≡ a.sessions → held_in b ≡ held_in a
unfolding held_in
held_same a b is = ap (held_below 65536) is

-- each session holds no more than all of them
pub one_held : (a : Scene) (seat : ℕ) → seat ≤ 65535 → held_by (a.sessions seat) ≤ held_in a
unfolding held_in
one_held a seat h = let e = held_placed 65536 a.sessions seat None (omega (arith, h)) in omega arith

-- without a session nothing is held
pub nothing_held : (a : Scene) → ((n : ℕ) → a.sessions n ≡ None) → held_in a ≡ 0
unfolding held_in
nothing_held a h = none_held 65536 a.sessions h
