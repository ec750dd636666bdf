use Rattle.std.proofs.Common.{◌≡◌, List, ℕ, OnOk, subst}
use Rattle.script_form.proofs.WrittenFacts.{word_line}
use Rattle.script_form.proofs.writer.write_word.Goals as goal

pub returns : goal.returns
returns c =
    subst (λ (t : List ℕ). OnOk c.extend_from_slice.result (c.extend_from_slice.new.self ≡ t))
    (rw (c.in_ok-put.ensures, c.text.ensures.digits) (word_line c.args.out.now c.args.word)) c.extend_from_slice.ensures.ok
