use Rattle.std.proofs.Common.{◌≡◌, List, ℕ, OnOk, subst}
use Rattle.script_form.proofs.WrittenFacts.{now_line}
use Rattle.script_form.proofs.writer.write_now.Goals as goal

pub returns : goal.returns
returns c =
    subst (λ (t : List ℕ). OnOk c.write_number.result (c.write_number.new.out ≡ t))
    (rw (c.in_ok-put.ensures) (now_line c.args.out.now c.args.moment)) c.write_number.ensures
