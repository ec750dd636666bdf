use Rattle.file_ops.proofs.Moves.{turned-done, turned-failed, turned-missing}
use Rattle.file_ops.proofs.renamed.saved.Goals as goal

pub returns-in-Done-clause-ok : goal.returns-in-Done-clause-ok
returns-in-Done-clause-ok g c = λ table temp e.
    turned-done c.args.k temp c.args.seat table c.args.temps.now _ _ c.in_ok-came.came c.ended_turned.result c.drop_temp.new.temps c.in-Done.is c.ended_turned.ensures (c.in_ok-came.ensures.ok temp e) c.drop_temp.ensures.temps c.drop_temp.ensures.taken

pub returns-in-NotFile-clause-ok : goal.returns-in-NotFile-clause-ok
returns-in-NotFile-clause-ok g c = λ table temp e.
    turned-missing c.args.k temp c.args.seat table c.args.temps.now _ _ c.in_ok-came.came c.ended_turned-in-NotFile.result c.in-NotFile.is c.ended_turned-in-NotFile.ensures (c.in_ok-came.ensures.ok temp e)

pub returns-in-Failed-clause-ok : goal.returns-in-Failed-clause-ok
returns-in-Failed-clause-ok g c = λ table temp e.
    turned-failed c.args.k temp c.args.seat table c.args.temps.now _ _ c.in_ok-came.came c.ended_turned-in-Failed.result c.in-Failed.is c.ended_turned-in-Failed.ensures (c.in_ok-came.ensures.ok temp e)
