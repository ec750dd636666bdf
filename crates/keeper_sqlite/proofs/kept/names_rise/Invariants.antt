use Rattle.std.proofs.Common.{◌≡◌, ℕ, ◌-◌, ◌<◌, ◌≤◌, length, map, get_or, [], suc, Less, nat_cmp}
use Rattle.std.specs.Cmp.Lexicographic.{slice_cmp}
use Rattle.keeper_sqlite.proofs.kept.names_rise.Given as goal

-- the names so far rise
abbrev pub invariant-loop-at : goal.invariant-loop-at
invariant-loop-at g l = record {
  some : 1 ≤ l.at;
  rising : (k : ℕ) → suc k < l.at → suc k < length l.items
      → slice_cmp nat_cmp (get_or (map g.T.OfApplication.name_of l.items) k []) (get_or (map g.T.OfApplication.name_of l.items) (suc k) []) ≡ Less;
}

abbrev pub decreases-loop-at : goal.decreases-loop-at
decreases-loop-at g l = length l.items - l.at
