-- What the outside gives: sources, sinks, clocks and words, that may tell what they hold.
use Rattle.std.specs.Prelude.{◌≡◌, ◌⊎◌, ℕ, ◌+◌, ◌-◌, ◌^◌, ◌≤◌, min, max, List, [], ◌∷◌, ◌++◌, length, take, Option, Some, None, IfSome}
use Rattle.portal_base.specs.declared.outside.WriteAnswer.{WriteAnswer}
use Rattle.portal_base.specs.declared.outside.WriteAnswer.TheVariants.{Done, Failed}
use Rattle.portal_base.specs.declared.outside.ReadAnswer.{ReadAnswer}
use Rattle.portal_base.specs.declared.outside.ReadAnswer.TheVariants as read

-- ---- counts of faults

-- the greatest u64
abbrev pub last_count : ℕ
last_count = 2 ^ 64 - 1

-- a count after m more, which stops at its last value
abbrev pub rises_by : ℕ → ℕ → ℕ
rises_by n m = max n (min (n + m) last_count)

-- the count is larger, or stood at its last value
abbrev pub HasRisen : ℕ → ℕ → Type 0
HasRisen old new = rises_by old 1 ≤ new

-- ---- what is told

-- these pieces behind those that are told
abbrev pub onto : Option (List (List ℕ)) → List (List ℕ) → Option (List (List ℕ))
onto None pieces = None
onto (Some told) pieces = Some (told ++ pieces)

-- these bytes ahead of those that are told
abbrev pub behind : List ℕ → Option (List ℕ) → Option (List ℕ)
behind bytes None = None
behind bytes (Some told) = Some (bytes ++ told)

-- What was written of these pieces: some whole, and then a front of the next or nothing.
abbrev pub Short : List (List ℕ) → List (List ℕ) → Type 0
Short [] pieces = Unit {0}
Short (w ∷ ws) [] = ⊥
Short (w ∷ ws) (p ∷ ps) = ((w ≡ p) × Short ws ps) ⊎ ((k : ℕ) × (w ≡ take k p) × (ws ≡ []))

-- ---- one call

-- What a write does: done, the bytes are one more piece; failed, at most a front of them is.
abbrev pub Writes : Option (List (List ℕ)) → List ℕ → WriteAnswer → Option (List (List ℕ)) → Type 0
Writes old bytes Done new = new ≡ onto old (bytes ∷ [])
Writes old bytes Failed new = (written : List (List ℕ)) × Short written (bytes ∷ [])
    × (new ≡ onto old written)

-- only a fault is counted
abbrev pub WriteCounts : ℕ → WriteAnswer → ℕ → Type 0
WriteCounts old Done new = new ≡ old
WriteCounts old Failed new = (old ≤ new) × HasRisen old new

-- What a read does to what is left: the bytes got stand at the buffer's front and were the next;
-- the end is told exactly where nothing is left; a fault takes nothing.
abbrev pub Reads : Option (List ℕ) → List ℕ → ReadAnswer → Option (List ℕ) → Type 0
Reads old buffer (read.Got n) new = (1 ≤ n) × (n ≤ length buffer)
    × (old ≡ behind (take n buffer) new)
Reads old buffer read.End new = (new ≡ old) × IfSome old (λ left. left ≡ [])
Reads old buffer read.Failed new = new ≡ old

-- only a fault is counted
abbrev pub ReadCounts : ℕ → ReadAnswer → ℕ → Type 0
ReadCounts old (read.Got n) new = new ≡ old
ReadCounts old read.End new = new ≡ old
ReadCounts old read.Failed new = (old ≤ new) × HasRisen old new

-- One reading of a clock that was set: it shows its seconds, and keeps them.
pub record Shows (old : ℕ) (seconds : ℕ) (new : ℕ) : Type 0 where
  pub value : seconds ≡ old
  pub stays : new ≡ old

-- Of words that tell, the first comes and leaves the others; behind the last comes 0.
abbrev pub Draws : Option (List ℕ) → ℕ → Option (List ℕ) → Type 0
Draws None word new = new ≡ None
Draws (Some []) word new = (word ≡ 0) × (new ≡ Some [])
Draws (Some (next ∷ others)) word new = (word ≡ next) × (new ≡ Some others)
