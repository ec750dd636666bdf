use Rattle.std.proofs.Common.{◌≡◌, ℕ, List, ap, arith, length, sym}
use Rattle.change_signals.specs.Unsent.{Boxes, unsent_on}
use Rattle.file_ops.specs.SeatNames.{own_tables}
use Rattle.portal_core.proofs.Beginning.{stands_first}
use Rattle.portal_core.specs.Reserve.{room_in}
use Rattle.inode_table.specs.Counts.{count_of}
use Rattle.inode_table.specs.declared.inodes.SeatNode.{SeatNode}
use Rattle.portal_core.proofs.portal.Portal.over.Goals as goal

pub invariant_of-result : goal.invariant_of-result
invariant_of-result g c =
    let tree = g.T.HostTree.is c.args.tree in
    let lists = c.args.lists in
    let are = c.requires.lists in
    rw (c.new-2.ensures, c.new-history.ensures.entries) (
      stands_first tree.began lists.opening lists.documents lists.rights lists.applications are.documents are.rights are.applications c.new-history.result.limit c.new-handles.result (own_tables c.new-3.result lists.temps) tree.told c.requires.valid
          c.new-history.ensures.limit c.new-handles.ensures.limit c.new-handles.ensures.seats c.new-3.ensures are.none_made are.taken c.requires.told,
      omega arith,
      c.requires.kept,
      record { stored = sym are.tables; waiting = λ q. ap (λ (boxes : Boxes). unsent_on boxes q) c.new.ensures },
      c.requires.started,
      λ seat node. ap (λ (counts : List (SeatNode × ℕ)). count_of counts seat node) c.new-4.ensures,
    )

pub returns : goal.returns
returns g c =
    let tree = g.T.HostTree.is c.args.tree in
    let none : room_in (length c.new-2.result) c.new-history.result.spare c.new-4.result.room c.new-5.result ≡ 0 = omega (arith, c.new-5.ensures) in
    λ i. record {
      tree = c.args.tree;
      keeper = c.args.keeper;
      clock = c.args.clock;
      words = c.args.words;
      story = record { began = tree.began; opening = c.args.lists.opening; history = c.new-history.ensures.entries i };
      spare = none i;
      refusals = 0;
    }
