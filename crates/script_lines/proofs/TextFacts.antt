-- Facts on texts that are cut at separators.
use Rattle.std.proofs.Common.{◌≡◌, ℕ, Bool, true, false, List, [], ◌∷◌, ◌++◌, refl, ap, ◌∙◌, arith, get_or}
use Rattle.std.specs.Prelude.{◌==◌}
use Rattle.std.specs.List.{All, list_all, slice_split, join_with_byte}
use Rattle.std.proofs.lemmas.Bool.{eqb-true}
use Rattle.std.proofs.lemmas.Bool.Decides.{nat_tests}
use Rattle.std.proofs.lemmas.List.Elements.{All-head, All-tail}
use Rattle.std.proofs.lemmas.List.Splits.{slice_split_none, slice_split_at}
use Rattle.std.proofs.lemmas.List.Sums.{AllPass-from_list_all}
use Rattle.script_lines.specs.Reading.{IsFree}

pub no_true : (b : Bool) → (b ≡ true → ⊥) → b ≡ false
no_true true h = absurd (h refl)
no_true false h = refl

pub eqb_yes : (n : ℕ) → (n == n) ≡ true
eqb_yes n = grind (arith, nat_tests)

-- a text of bytes that pass a test has no byte that fails it
pub free_from : (p : ℕ → Bool) (s : ℕ) → p s ≡ false → (xs : List ℕ) → list_all p xs ≡ true → IsFree s xs
free_from p s other xs h = λ k d inside. no_true (get_or xs k d == s) (λ e.
    let same = eqb-true (get_or xs k d) s e in
    let passes = AllPass-from_list_all p xs h k d inside in
    cc (other, same, passes))

pub not_free : (s : ℕ) (a b : List ℕ) → IsFree s (a ++ (s ∷ b)) → ⊥
not_free s [] b h = let head = All-head (λ x. (x == s) ≡ false) s b h in cc (head, eqb_yes s)
not_free s (x ∷ xs) b h = not_free s xs b (All-tail (λ y. (y == s) ≡ false) x (xs ++ (s ∷ b)) h)

-- a text has one first separator
pub cut_same : (s : ℕ) (a b c d : List ℕ) → IsFree s a → IsFree s c → a ++ (s ∷ b) ≡ c ++ (s ∷ d) → (a ≡ c) × (b ≡ d)
cut_same s [] b [] d fa fc e = (refl, cc e)
cut_same s [] b (y ∷ ys) d fa fc e =
    let head = All-head (λ x. (x == s) ≡ false) y ys fc in
    let same : s ≡ y = cc e in
    absurd (cc (same, head, eqb_yes s))
cut_same s (x ∷ xs) b [] d fa fc e =
    let head = All-head (λ x. (x == s) ≡ false) x xs fa in
    let same : x ≡ s = cc e in
    absurd (cc (same, head, eqb_yes s))
cut_same s (x ∷ xs) b (y ∷ ys) d fa fc e =
    let heads : x ≡ y = cc e in
    let tails : xs ++ (s ∷ b) ≡ ys ++ (s ∷ d) = cc e in
    let r = cut_same s xs b ys d (All-tail (λ z. (z == s) ≡ false) x xs fa) (All-tail (λ z. (z == s) ≡ false) y ys fc) tails in
    (cc (heads, r.0), r.1)

-- pieces without separators are the parts of what they are joined to
pub split_joined : (s : ℕ) (t : List ℕ) (ts : List (List ℕ)) → All (IsFree s) (t ∷ ts)
    → slice_split (λ b. b == s) (join_with_byte s (t ∷ ts)) ≡ t ∷ ts
split_joined s t [] free = slice_split_none (λ b. b == s) t (All-head (IsFree s) t [] free)
split_joined s t (u ∷ us) free =
    slice_split_at (λ b. b == s) t s (join_with_byte s (u ∷ us)) (All-head (IsFree s) t (u ∷ us) free) (eqb_yes s)
    ∙ ap (λ (parts : List (List ℕ)). t ∷ parts) (split_joined s u us (All-tail (IsFree s) t (u ∷ us) free))
