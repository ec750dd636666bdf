use Rattle.std.proofs.Common.{◌≡◌, List, ℕ, OnOk, subst}
use Rattle.script_form.proofs.WrittenFacts.{open_line}
use Rattle.script_form.proofs.writer.write_open.Goals as goal

pub returns : goal.returns
returns c =
    subst (λ (t : List ℕ). OnOk c.write_who.result (c.write_who.new.out ≡ t))
    (rw (c.in_ok-put-2.ensures, c.in_ok-put_number.ensures, c.in_ok-put.ensures, c.from.ensures, c.kind_name.ensures) (open_line c.args.out.now c.args.seat c.args.kind c.args.who.now)) c.write_who.ensures
