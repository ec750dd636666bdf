use Rattle.std.proofs.Common.{ap, option_copied, ◌∙◌}
use Rattle.save_files.specs.Own.{own_on}
use Rattle.trace_items.proofs.TempsCalled.{called, uncalled}
use Rattle.trace_items.proofs.nodes.temp_called.Goals as goal

pub returns-in_err-k : goal.returns-in_err-k
returns-in_err-k c = λ own e.
    ap option_copied c.from_residual.ensures
    ∙ uncalled c.args.view c.args.document c.args.name.now own (own_on c.args.temps.now.seats c.args.seat) e c.in_err-k.ensures

pub returns : goal.returns
returns c = λ own e.
    c.get.ensures.temp
    ∙ called c.args.view c.args.document c.args.name.now own (own_on c.args.temps.now.seats c.args.seat) c.in_ok-k.k e c.get.ensures.known c.in_ok-k.ensures
