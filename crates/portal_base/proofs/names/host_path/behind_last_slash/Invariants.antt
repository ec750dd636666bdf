use Rattle.std.proofs.Common.{ℕ, ◌≡◌, ◌<◌, ◌≤◌, length, get_or}
use Rattle.portal_base.proofs.names.host_path.behind_last_slash.Given as goal

abbrev pub decreases-loop-at : goal.decreases-loop-at
decreases-loop-at l = l.at

-- no slash stands at this place or behind it
abbrev pub invariant-loop-at : goal.invariant-loop-at
invariant-loop-at l = record {
  within : l.at ≤ length l.text;
  none : (k : ℕ) → l.at ≤ k → k < length l.text → get_or l.text k 0 ≡ 47 → ⊥;
}
