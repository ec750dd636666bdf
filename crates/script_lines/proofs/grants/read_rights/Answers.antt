use Rattle.std.proofs.Common.{arith, sym, ◌∙◌, ap, ◌≡◌, inl, inr}
use Rattle.std.proofs.lemmas.Bool.{cases_lt}
use Rattle.script_lines.specs.Lines.{letters}
use Rattle.script_lines.proofs.WordFacts.{differ}
use Rattle.script_lines.proofs.grants.read_rights.Goals as goal

pub loop-rights-preserved : goal.loop-rights-preserved
loop-rights-preserved c = λ rights low below same. elim (cases_lt rights c.loop-rights.rights) [
  | inl earlier ↦ c.loop-rights.invariant rights low earlier same
  | inr now ↦
      let this : rights ≡ c.loop-rights.rights = omega arith in
      differ c.args.word.now c.letters_of.result.now (sym c.if-eq.ensures) (same ∙ ap letters this ∙ sym c.letters_of.ensures)
]
