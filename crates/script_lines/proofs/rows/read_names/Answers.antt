use Rattle.std.proofs.Common.{sym, ◌∙◌, ap, map}
use Rattle.std.specs.List.{join_with_byte}
use Rattle.std.proofs.lemmas.List.Elements.{All-push}
use Rattle.script_lines.proofs.JoinFacts.{pieces_go, pieces_more, pieces_done}
use Rattle.script_lines.proofs.RowFacts.{IsName, itself, themselves, name_plus, name_one, no_piece}
use Rattle.script_lines.proofs.rows.read_names.Goals as goal

pub returns-in_default : goal.returns-in_default
returns-in_default c = λ names are.
    let split = ap (map (λ p. p.now)) c.as_slice-piece-items.ensures.value ∙ c.in_ok-pieces.ensures in
    let goes = pieces_go 43 itself IsName name_plus name_one c.args.word.now _ _ c.loop-piece.names c.loop-piece.piece-index names split c.loop-piece.invariant.same
    c.loop-piece-test.true c.loop-piece.invariant.each are.each are.some (are.same ∙ ap (join_with_byte 43) (sym (themselves names))) in
    let none = rw c.in_default.is at c.in_ok-name.ensures in
    no_piece _ goes.next none goes.text_is goes.is

pub loop-piece-preserved : goal.loop-piece-preserved
loop-piece-preserved c =
    let read = rw c.in-Some.is at c.in_ok-name.ensures in
    record {
      same = rw c.in_ok-push.ensures.ok (pieces_more 43 itself IsName name_plus name_one _ _ c.loop-piece.names c.loop-piece.piece-index c.in-Some.name c.loop-piece.invariant.same c.loop-piece-test.true (sym read.0));
      each = rw c.in_ok-push.ensures.ok (All-push IsName c.loop-piece.names c.in-Some.name c.loop-piece.invariant.each (rw read.0 read.1));
    }

pub returns : goal.returns
returns c =
    let split = ap (map (λ p. p.now)) c.as_slice-piece-items.ensures.value ∙ c.in_ok-pieces.ensures in
    let done = pieces_done 43 itself IsName name_plus name_one c.args.word.now _ c.loop-piece.names c.loop-piece.piece-index split c.loop-piece.invariant.same c.loop-piece-test.false in
    record {
      some = done.0;
      each = c.loop-piece.invariant.each;
      same = done.1 ∙ ap (join_with_byte 43) (themselves c.loop-piece.names);
    }
