use Rattle.std.proofs.Common.{◌≡◌, List, ℕ, OnOk, subst}
use Rattle.script_form.proofs.WrittenFacts.{doc_line}
use Rattle.script_form.proofs.writer.write_doc.Goals as goal

pub returns : goal.returns
returns c =
    subst (λ (t : List ℕ). OnOk c.write_grants.result (c.write_grants.new.out ≡ t))
    (rw (c.in_ok-put-4.ensures, c.in_ok-put-3.ensures, c.in_ok-put-2.ensures, c.in_ok-put.ensures, c.text.ensures.digits, c.flags.ensures, c.as_bytes.ensures.bytes) (doc_line c.args.out.now c.args.id c.args.reusable c.args.strict c.args.path.now c.args.grants.now)) c.write_grants.ensures
