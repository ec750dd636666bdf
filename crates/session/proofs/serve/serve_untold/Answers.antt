use Rattle.std.proofs.Common.{◌≡◌, false, true, sym, ◌∙◌}
use Rattle.session.proofs.Telling.{tells, tells_none}
use Rattle.session.proofs.serve.serve_untold.Goals as goal

pub returns-then-is_empty-clause-tells : goal.returns-then-is_empty-clause-tells
returns-then-is_empty-clause-tells g c =
    tells_none c.args.serial (g.D.Desk.seated c.args.desk.now) (g.D.Desk.seated c.ask_untold-changes.new.desk) c.ask_untold-changes.result c.ask_untold-changes.ensures.asked (g.K.Sink.told c.args.sink.now) (g.K.Sink.faults c.args.sink.now) (c.is_empty.ensures.0 c.if-is_empty.true)

pub returns-clause-tells : goal.returns-clause-tells
returns-clause-tells g c =
    let f = c.send_messages in
    tells c.args.serial (g.D.Desk.seated c.args.desk.now) (g.D.Desk.seated c.ask_untold-changes.new.desk) c.ask_untold-changes.result c.ask_untold-changes.ensures.asked f.result (g.K.Sink.told c.args.sink.now) (g.K.Sink.told f.new.sink) (g.K.Sink.faults c.args.sink.now) (g.K.Sink.faults f.new.sink)
    (λ e. let no : false ≡ true = sym c.if-is_empty.false ∙ c.is_empty.ensures.1 e in absurd (cc)) (rw c.as_slice.ensures at f.ensures.sends) (rw c.as_slice.ensures at f.ensures.last)
