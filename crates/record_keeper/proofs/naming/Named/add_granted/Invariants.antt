use Rattle.std.proofs.Common.{◌≡◌, take, map}
use Rattle.std.specs.Prelude.{fold}
use Rattle.record_keeper.specs.Naming.{also_named}
use Rattle.record_keeper.proofs.naming.Named.add_granted.Given as goal

-- the names so far stand behind the others
abbrev pub invariant-loop-grant : goal.invariant-loop-grant
invariant-loop-grant l = l.self ≡ fold also_named l.initial.self (map (λ g. g.app) (take l.grant-index l.grants))
