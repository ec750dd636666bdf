use Rattle.std.proofs.Common.{◌≡◌, List, ℕ, OnOk, subst}
use Rattle.script_form.proofs.WrittenFacts.{entry_line}
use Rattle.script_form.proofs.writer.write_entry.Goals as goal

pub returns : goal.returns
returns c =
    subst (λ (t : List ℕ). OnOk c.write_rows.result (c.write_rows.new.out ≡ t))
    (rw (c.in_ok-push.ensures.ok, c.in_ok-write_hex.ensures, c.in_ok-put-3.ensures, c.in_ok-put-2.ensures, c.in_ok-put.ensures, c.as_bytes.ensures, c.as_bytes-2.ensures, c.as_slice.ensures, c.as_slice-2.ensures) (entry_line c.args.out.now c.args.entry.now)) c.write_rows.ensures
