use Rattle.std.proofs.Common.{◌≡◌, List, ℕ, OnOk, subst}
use Rattle.script_form.proofs.WrittenFacts.{fail_line}
use Rattle.script_form.proofs.writer.write_fail.Goals as goal

pub returns : goal.returns
returns c =
    subst (λ (t : List ℕ). OnOk c.write_number.result (c.write_number.new.out ≡ t))
    (rw (c.in_ok-put-2.ensures, c.in_ok-put.ensures, c.device_name.ensures) (fail_line c.args.out.now c.args.device c.args.call)) c.write_number.ensures
