-- A table of sessions, by number.
use Prim.Native.Nat.{zero}
use Rattle.std.proofs.Common.{◌≡◌, ℕ, suc, ◌<◌, ◌≤◌, ◌==◌, List, [], ◌∷◌, ◌++◌, length, get_or, slice_set, Option, None, Bool, true, false, refl, sym, ap, ◌∙◌, arith}
use Rattle.std.specs.Prelude.{◌≢◌, if◌then◌else◌}
use Rattle.std.proofs.Math.Path.{fun_ext}
use Rattle.std.proofs.lemmas.Bool.Decides.{nat_tests}
use Rattle.std.proofs.lemmas.List.{get_or-set_same, get_or-set_other}
use Rattle.session.specs.Standings.{Standing}
use Rattle.script_replay.specs.Scenes.{placed, sessions_of}

-- a table that ends with nothing more has the same sessions
grown_at : (t : List (Option Standing)) (n : ℕ) → get_or (t ++ None ∷ []) n None ≡ get_or t n None
grown_at [] zero = refl
grown_at [] (suc n) = refl
grown_at (x ∷ t) zero = refl
grown_at (x ∷ t) (suc n) = grown_at t n

pub grown : (t : List (Option Standing)) → sessions_of (t ++ None ∷ []) ≡ sessions_of t
grown t = fun_ext (λ n. grown_at t n)

same_number : (n m : ℕ) → (n == m) ≡ true → n ≡ m
same_number n m h = grind (arith, nat_tests)

other_number : (n m : ℕ) → (n == m) ≡ false → n ≢ m
other_number n m h = λ e. grind (arith, nat_tests)

set_at : (b : Bool) (t : List (Option Standing)) (k n : ℕ) (x : Option Standing) → (n == k) ≡ b → k < length t → get_or (slice_set t k x) n None ≡ (if b then x else get_or t n None)
set_at true t k n x h inside = ap (λ (m : ℕ). get_or (slice_set t k x) m None) (same_number n k h) ∙ get_or-set_same t k x None inside
set_at false t k n x h inside = get_or-set_other t k n x None (other_number n k h)

pub set_is : (t : List (Option Standing)) (k : ℕ) (x : Option Standing) → k < length t → sessions_of (slice_set t k x) ≡ placed (sessions_of t) k x
set_is t k x inside = fun_ext (λ n. set_at (n == k) t k n x refl inside)

beyond : (t : List (Option Standing)) (n : ℕ) → length t ≤ n → get_or t n None ≡ None
beyond [] n h = refl
beyond (x ∷ t) zero h = absurd (omega arith)
beyond (x ∷ t) (suc n) h = beyond t n (omega arith)

none_at : (b : Bool) (t : List (Option Standing)) (k n : ℕ) → (n == k) ≡ b → length t ≤ k → get_or t n None ≡ (if b then None else get_or t n None)
none_at true t k n h out = ap (λ (m : ℕ). get_or t m None) (same_number n k h) ∙ beyond t k out
none_at false t k n h out = refl

-- behind its end nothing is
pub none_is : (t : List (Option Standing)) (k : ℕ) → length t ≤ k → sessions_of t ≡ placed (sessions_of t) k None
none_is t k out = fun_ext (λ n. none_at (n == k) t k n refl out)

pub none_beyond : (t : List (Option Standing)) (k : ℕ) → length t ≤ k → None ≡ sessions_of t k
none_beyond t k out = sym (beyond t k out)
