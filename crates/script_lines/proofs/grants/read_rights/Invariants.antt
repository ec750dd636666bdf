use Rattle.std.proofs.Common.{◌≡◌, ℕ, ◌≤◌, ◌<◌}
use Rattle.script_lines.specs.Lines.{letters}
use Rattle.script_lines.proofs.grants.read_rights.Given as goal

-- no smaller rights have these letters
abbrev pub invariant-loop-rights : goal.invariant-loop-rights
invariant-loop-rights l = (rights : ℕ) → 1 ≤ rights → rights < l.rights → l.word ≡ letters rights → ⊥
