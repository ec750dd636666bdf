use Rattle.std.proofs.Common.{◌≢◌, ◌∙◌, sym, ap, [], ◌∷◌, inl, inr}
use Rattle.hex.proofs.HexLemmas.{decode_of-same}
use Rattle.hex.specs.Hex.{encode_lower}
use Rattle.script_lines.proofs.WordFacts.{hex_reads, hex_of_some, hex_some, differ, not_differ, not_other, not_empty, is_empty, are_bytes}
use Rattle.script_lines.proofs.words.read_bytes.Goals as goal

pub returns-then-is_empty : goal.returns-then-is_empty
returns-then-is_empty c = λ bytes all same.
    hex_some bytes (sym same ∙ is_empty c.args.word.now (sym c.if-is_empty.ensures))

pub returns-in_default : goal.returns-in_default
returns-in_default c = λ bytes all same.
    let other : c.args.word.now ≢ 45 ∷ [] = (λ e. differ c.args.word.now c.as_slice.result.now (sym c.if-eq.ensures) (e ∙ sym c.as_slice.ensures)) in
    let r = hex_reads c.args.word.now bytes all other same in
    elim c.in-Err.ensures.err [
      | inl memory ↦ c.in_default.not-OutOfMemory memory
      | inr error ↦ cc (r.0, error)
    ]

pub returns-then-ne : goal.returns-then-ne
returns-then-ne c = λ bytes all same.
    let other : c.args.word.now ≢ 45 ∷ [] = (λ e. differ c.args.word.now c.as_slice.result.now (sym c.if-eq.ensures) (e ∙ sym c.as_slice.ensures)) in
    let r = hex_reads c.args.word.now bytes all other same in
    let e = decode_of-same c.args.word.now _ _ r.0 c.in-Ok.ensures.ok in
    not_differ c.as_bytes.result.now c.args.word.now c.if-ne.ensures
    (c.as_bytes.ensures.value ∙ c.in_ok-written.ensures ∙ ap encode_lower (c.as_slice-2.ensures.value ∙ sym e) ∙ r.2)

pub returns : goal.returns
returns c = (
  rw c.from_vec.ensures (are_bytes c.args.word.now _ c.in-Ok.ensures.ok),
  let written = not_other c.as_bytes.result.now c.args.word.now c.if-ne.ensures in
      rw c.from_vec.ensures (hex_of_some c.args.word.now _ (not_empty c.args.word.now (sym c.if-is_empty.ensures))
      (ap encode_lower (sym c.as_slice-2.ensures.value) ∙ sym c.in_ok-written.ensures ∙ sym c.as_bytes.ensures.value ∙ written)),
)
