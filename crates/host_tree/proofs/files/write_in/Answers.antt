use Rattle.std.proofs.Common.{ap, sym, Some, List, ℕ}
use Rattle.std.specs.BTreeMap.{BTreeMap}
use Rattle.host_tree.specs.Stored.{files_of, of_generation, stored_written}
use Rattle.host_tree.specs.Trees.{written}
use Rattle.host_tree.specs.declared.files.Stored.{Stored}
use Rattle.host_tree.proofs.Entries.{has-none, stored-does, keeps-written}
use Rattle.host_tree.proofs.files.write_in.Goals as goal

pub returns-in-None-clause-does : goal.returns-in-None-clause-does
returns-in-None-clause-does c = (
  ap (λ (m : BTreeMap (List ℕ) Stored). Some (files_of m.entries)) c.get_mut.follows.holds-at-none,
  has-none c.args.name.now c.args.map.now.entries c.get_mut.ensures.ordered (ap (of_generation c.args.name.now.generation) (sym c.in-None.ensures.value)),
)

pub returns-in-Some-clause-does : goal.returns-in-Some-clause-does
returns-in-Some-clause-does c =
    let old = c.args.map.now.entries in
    let new = (c.get_mut.follows.lender c.write_as.new.self).entries in
    stored-does c.args.name.now (stored_written c.args.offset c.args.content.now c.args.now) (written c.args.offset c.args.content.now c.args.now) old new c.in-Some.stored.now c.write_as.new.self c.write_as.result
    (keeps-written c.args.offset c.args.content.now c.args.now) c.in-Some.ensures.value c.get_mut.ensures.ordered (c.get_mut.follows.holds c.write_as.new.self).0 c.write_as.ensures.does
