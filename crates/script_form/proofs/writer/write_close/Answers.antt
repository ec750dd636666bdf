use Rattle.std.proofs.Common.{◌≡◌, List, ℕ, OnOk, subst}
use Rattle.script_form.proofs.WrittenFacts.{close_line}
use Rattle.script_form.proofs.writer.write_close.Goals as goal

pub returns : goal.returns
returns c =
    subst (λ (t : List ℕ). OnOk c.write_number.result (c.write_number.new.out ≡ t))
    (rw (c.in_ok-put.ensures, c.from.ensures) (close_line c.args.out.now c.args.seat)) c.write_number.ensures
