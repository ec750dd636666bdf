use Rattle.std.proofs.Common.{◌≡◌, find}
use Rattle.save_files.specs.Own.{is_called}
use Rattle.save_files.proofs.own.first_called.Given as goal

-- the first among those that are left is the first among all
abbrev pub invariant-loop-k : goal.invariant-loop-k
invariant-loop-k l = find (is_called l.view l.document.number l.name) l.k-iterator ≡ find (is_called l.view l.document.number l.name) l.temps.entries
