use Rattle.std.proofs.Common.{◌≡◌, List, ℕ, OnOk, subst}
use Rattle.script_form.proofs.WrittenFacts.{file_line}
use Rattle.script_form.proofs.writer.write_file.Goals as goal

pub returns : goal.returns
returns c =
    subst (λ (t : List ℕ). OnOk c.write_hex.result (c.write_hex.new.out ≡ t))
    (rw (c.in_ok-put-2.ensures, c.in_ok-put.ensures, c.as_bytes.ensures.bytes) (file_line c.args.out.now c.args.path.now c.args.content.now)) c.write_hex.ensures
