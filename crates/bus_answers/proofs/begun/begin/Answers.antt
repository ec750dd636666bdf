use Rattle.std.proofs.Common.{sym}
use Rattle.bus_answers.proofs.Messages.{data_method, no_method}
use Rattle.bus_answers.proofs.begun.begin.Goals as goal

pub returns-in-Err : goal.returns-in-Err
returns-in-Err c = no_method c.args.call.now _ c.in-Err.ensures

pub returns-in-Data : goal.returns-in-Data
returns-in-Data c = data_method c.args.call.now c.in-Ok.method c.in-Ok.ensures (sym c.in-Data.ensures)
