-- What several ask together.
use Rattle.std.specs.Prelude.{◌≡◌, ℕ, ◌+◌, List, [], ◌∷◌}

-- each of these asks something, and this is what they ask together
abbrev pub AllAsk : {X : Type 0} → (X → ℕ → Type 0) → List X → ℕ → Type 0
AllAsk asks [] total = total ≡ 0
AllAsk asks (x ∷ xs) total = (first : ℕ) × (others : ℕ) × asks x first × AllAsk asks xs others
    × (total ≡ first + others)
