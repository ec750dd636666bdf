use Rattle.std.proofs.Common.{◌≡◌, ◌≢◌, ◌∷◌, [], sym, ◌∙◌, ap, map}
use Rattle.std.proofs.lemmas.List.Elements.{All-push}
use Rattle.record_keeper.specs.SoundRecords.{IsGrant}
use Rattle.script_lines.proofs.GrantFacts.{pieces_go, pieces_more, pieces_done, rising_next, grant_same, not_rising, rises_more}
use Rattle.script_lines.proofs.WordFacts.{differ}
use Rattle.script_lines.proofs.grants.read_grants.Goals as goal

pub returns-in_default : goal.returns-in_default
returns-in_default c = λ grants are.
    let other : c.args.word.now ≢ 45 ∷ [] = (λ e. differ c.args.word.now c.as_slice.result.now (sym c.if-eq.ensures) (e ∙ sym c.as_slice.ensures)) in
    let split = ap (map (λ p. p.now)) c.as_slice-piece-items.ensures.value ∙ c.in_ok-pieces.ensures in
    let goes = pieces_go c.args.word.now _ _ c.loop-piece.grants c.loop-piece.piece-index grants other split c.loop-piece.invariant.same c.loop-piece-test.true c.loop-piece.invariant.each are in
    (rw c.in_default.is at c.in_ok-grant.ensures) goes.next goes.is goes.text

pub returns-then-not-rises : goal.returns-then-not-rises
returns-then-not-rises c = λ grants are.
    let other : c.args.word.now ≢ 45 ∷ [] = (λ e. differ c.args.word.now c.as_slice.result.now (sym c.if-eq.ensures) (e ∙ sym c.as_slice.ensures)) in
    let split = ap (map (λ p. p.now)) c.as_slice-piece-items.ensures.value ∙ c.in_ok-pieces.ensures in
    let goes = pieces_go c.args.word.now _ _ c.loop-piece.grants c.loop-piece.piece-index grants other split c.loop-piece.invariant.same c.loop-piece-test.true c.loop-piece.invariant.each are in
    let read = rw c.in-Some.is at c.in_ok-grant.ensures in
    let same : c.in-Some.grant ≡ goes.next = grant_same c.in-Some.grant goes.next read.0 goes.is (sym read.1 ∙ goes.text) in
    let rising = rising_next c.loop-piece.grants goes.next goes.more (rw goes.same at are.rising) in
    not_rising c.loop-piece.grants _ c.in-Some.grant _ c.as_slice-in-loop-piece.ensures c.as_slice-in-loop-piece-2.ensures
    (c.if-not-rises.ensures (rw c.as_slice-in-loop-piece.ensures c.loop-piece.invariant.rising)).1 (rw same rising)

pub loop-piece-preserved : goal.loop-piece-preserved
loop-piece-preserved c =
    let read = rw c.in-Some.is at c.in_ok-grant.ensures in
    record {
      same = rw c.in_ok-push.ensures.ok (pieces_more _ _ c.loop-piece.grants c.loop-piece.piece-index c.in-Some.grant c.loop-piece.invariant.same c.loop-piece-test.true read.1);
      each = rw c.in_ok-push.ensures.ok (All-push IsGrant c.loop-piece.grants c.in-Some.grant c.loop-piece.invariant.each read.0);
      rising = rw c.in_ok-push.ensures.ok (rises_more c.loop-piece.grants _ c.in-Some.grant _ c.as_slice-in-loop-piece.ensures c.as_slice-in-loop-piece-2.ensures
          (c.if-not-rises.ensures (rw c.as_slice-in-loop-piece.ensures c.loop-piece.invariant.rising)).0);
    }

pub returns : goal.returns
returns c =
    let split = ap (map (λ p. p.now)) c.as_slice-piece-items.ensures.value ∙ c.in_ok-pieces.ensures in
    record {
      each = c.loop-piece.invariant.each;
      rising = c.loop-piece.invariant.rising;
      same = pieces_done c.args.word.now _ c.loop-piece.grants c.loop-piece.piece-index split c.loop-piece.invariant.same c.loop-piece-test.false;
    }
