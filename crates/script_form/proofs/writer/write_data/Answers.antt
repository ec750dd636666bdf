use Rattle.std.proofs.Common.{◌≡◌, List, ℕ, OnOk, subst}
use Rattle.script_form.proofs.WrittenFacts.{data_line}
use Rattle.script_form.proofs.writer.write_data.Goals as goal

pub returns : goal.returns
returns c =
    subst (λ (t : List ℕ). OnOk c.write_hex.result (c.write_hex.new.out ≡ t))
    (rw (c.in_ok-put_number.ensures, c.in_ok-put.ensures, c.from.ensures) (data_line c.args.out.now c.args.seat c.args.bytes.now)) c.write_hex.ensures
