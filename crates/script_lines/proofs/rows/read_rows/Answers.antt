use Rattle.std.proofs.Common.{◌≢◌, ◌∷◌, [], sym, ◌∙◌, ap, map}
use Rattle.std.proofs.lemmas.List.Elements.{All-push}
use Rattle.script_lines.specs.Lines.{row_text, IsNamedRow}
use Rattle.script_lines.proofs.JoinFacts.{pieces_go, pieces_more, pieces_done}
use Rattle.script_lines.proofs.RowFacts.{row_comma, row_same, rows_of_word, rows_as_word}
use Rattle.script_lines.proofs.WordFacts.{differ}
use Rattle.script_lines.proofs.rows.read_rows.Goals as goal

pub returns-in_default : goal.returns-in_default
returns-in_default c = λ rows are.
    let other : c.args.word.now ≢ 45 ∷ [] = (λ e. differ c.args.word.now c.as_slice.result.now (sym c.if-eq.ensures) (e ∙ sym c.as_slice.ensures)) in
    let split = ap (map (λ p. p.now)) c.as_slice-piece-items.ensures.value ∙ c.in_ok-pieces.ensures in
    let is = rows_of_word c.args.word.now rows other are.same in
    let goes = pieces_go 44 row_text IsNamedRow row_comma row_same c.args.word.now _ _ c.loop-piece.rows c.loop-piece.piece-index rows split c.loop-piece.invariant.same
    c.loop-piece-test.true c.loop-piece.invariant.each are.each is.0 is.1 in
    (rw c.in_default.is at c.in_ok-row.ensures) goes.next goes.is goes.text_is

pub loop-piece-preserved : goal.loop-piece-preserved
loop-piece-preserved c =
    let read = rw c.in-Some.is at c.in_ok-row.ensures in
    record {
      same = rw c.in_ok-push.ensures.ok (pieces_more 44 row_text IsNamedRow row_comma row_same _ _ c.loop-piece.rows c.loop-piece.piece-index c.in-Some.row c.loop-piece.invariant.same c.loop-piece-test.true read.1);
      each = rw c.in_ok-push.ensures.ok (All-push IsNamedRow c.loop-piece.rows c.in-Some.row c.loop-piece.invariant.each read.0);
    }

pub returns : goal.returns
returns c =
    let split = ap (map (λ p. p.now)) c.as_slice-piece-items.ensures.value ∙ c.in_ok-pieces.ensures in
    let done = pieces_done 44 row_text IsNamedRow row_comma row_same c.args.word.now _ c.loop-piece.rows c.loop-piece.piece-index split c.loop-piece.invariant.same c.loop-piece-test.false in
    record {
      each = c.loop-piece.invariant.each;
      same = rows_as_word c.args.word.now c.loop-piece.rows done.0 done.1;
    }
