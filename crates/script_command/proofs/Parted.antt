-- A text, cut at its line feeds up to a line.
use Rattle.std.proofs.Common.{◌≡◌, ◌≢◌, ℕ, ◌+◌, ◌-◌, List, [], ◌∷◌, ◌++◌, length, take, sym, ap, ◌∙◌, append_assoc, length-append, arith, All}
use Rattle.std.proofs.Math.Seq.{take-append_seam}
use Rattle.std.proofs.lemmas.Grind.{flat_map-append}
use Rattle.std.proofs.lemmas.List.{append-nil}
use Rattle.std.proofs.lemmas.List.Elements.{All-push}
use Rattle.script_lines.specs.Reading.{CutsAt}
use Rattle.script_command.specs.Parting.{IsOther, IsParted, parting, with_feeds}
use Rattle.script_replay.specs.Texts.{line_feed}

-- lines that don't part stand ahead of the rest
pub record StandAhead (text rest : List ℕ) : Type 0 where
  pub lines : List (List ℕ)
  pub others : All IsOther lines
  pub whole : text ≡ with_feeds lines ++ rest

feeds_more : (lines : List (List ℕ)) (line : List ℕ) → with_feeds (lines ++ line ∷ []) ≡ with_feeds lines ++ (line ++ line_feed ∷ [])
feeds_more lines line =
    flat_map-append (λ (l : List ℕ). l ++ line_feed ∷ []) lines (line ∷ [])
    ∙ ap (λ (z : List ℕ). with_feeds lines ++ z) (append-nil (line ++ line_feed ∷ []))

module _ (text rest line behind : List ℕ) (h : StandAhead text rest) (c : CutsAt line_feed rest line behind) where
  -- a line that doesn't part stands ahead too
  pub one_more : line ≢ parting → StandAhead text behind
  one_more n = record {
    lines = h.lines ++ line ∷ [];
    others = All-push IsOther h.lines line h.others (record { one = c.first; other = n });
    whole = h.whole ∙ (ap (λ (z : List ℕ). with_feeds h.lines ++ z) (c.whole ∙ sym (append_assoc line (line_feed ∷ []) behind))
        ∙ (sym (append_assoc (with_feeds h.lines) (line ++ line_feed ∷ []) behind) ∙ ap (λ (z : List ℕ). z ++ behind) (sym (feeds_more h.lines line))));
  }

  front : take (length text - length rest) text ≡ with_feeds h.lines
  front =
      let sizes = ap length h.whole ∙ length-append (with_feeds h.lines) rest in
      let size : length text - length rest ≡ length (with_feeds h.lines) = omega arith in
      ap (λ (n : ℕ). take n text) size ∙ (ap (take (length (with_feeds h.lines))) h.whole ∙ take-append_seam (with_feeds h.lines) rest)

  -- one that does parts the text
  pub parts : line ≡ parting → IsParted text (take (length text - length rest) text) behind
  parts e = record {
    lines = h.lines;
    others = h.others;
    ahead = front;
    whole = h.whole ∙ (ap (λ (z : List ℕ). with_feeds h.lines ++ z) (c.whole ∙ ap (λ (z : List ℕ). z ++ (line_feed ∷ behind)) e)
        ∙ ap (λ (z : List ℕ). z ++ (parting ++ (line_feed ∷ behind))) (sym front));
  }
