use Rattle.std.proofs.Common.{ap, sym, Some, List, ℕ}
use Rattle.std.specs.BTreeMap.{BTreeMap}
use Rattle.host_tree.specs.Stored.{files_of, of_generation, stored_resized}
use Rattle.host_tree.specs.Trees.{resized}
use Rattle.host_tree.specs.declared.files.Stored.{Stored}
use Rattle.host_tree.proofs.Entries.{has-none, stored-does, keeps-resized}
use Rattle.host_tree.proofs.files.set_len_in.Goals as goal

pub returns-in-None-clause-does : goal.returns-in-None-clause-does
returns-in-None-clause-does c = (
  ap (λ (m : BTreeMap (List ℕ) Stored). Some (files_of m.entries)) c.get_mut.follows.holds-at-none,
  has-none c.args.name.now c.args.map.now.entries c.get_mut.ensures.ordered (ap (of_generation c.args.name.now.generation) (sym c.in-None.ensures.value)),
)

pub returns-in-Some-clause-does : goal.returns-in-Some-clause-does
returns-in-Some-clause-does c =
    let old = c.args.map.now.entries in
    let new = (c.get_mut.follows.lender c.set_len_as.new.self).entries in
    stored-does c.args.name.now (stored_resized c.args.size c.args.now) (resized c.args.size c.args.now) old new c.in-Some.stored.now c.set_len_as.new.self c.set_len_as.result
    (keeps-resized c.args.size c.args.now) c.in-Some.ensures.value c.get_mut.ensures.ordered (c.get_mut.follows.holds c.set_len_as.new.self).0 c.set_len_as.ensures.does
