use Rattle.std.proofs.Common.{◌≡◌, ◌++◌, ℕ, List, Option, refl, ap, ◌∙◌, subst, take, arith}
use Rattle.std.proofs.lemmas.List.{take_all}
use Rattle.portal_base.specs.Outside.{onto}
use Rattle.session.proofs.Grew.{onto_none, onto_onto}
use Rattle.session.proofs.Messages.{piece_more, short_at}
use Rattle.session.proofs.serve.send_each.Goals as goal

pub loop-piece-init : goal.loop-piece-init
loop-piece-init g c = record { told = onto_none (g.K.Sink.told c.args.sink.now); faults = refl }

pub loop-piece-preserved : goal.loop-piece-preserved
loop-piece-preserved g c = record {
  told = piece_more (g.K.Sink.told c.args.sink.now) (g.K.Sink.told c.loop-piece.sink) _ c.args.pieces.now c.loop-piece.piece-index c.piece-item.result (omega arith) c.piece-item.is c.loop-piece.invariant.told (rw c.as_slice.ensures at c.in-Done.ensures.writes);
  faults = c.in-Done.ensures.counts ∙ c.loop-piece.invariant.faults;
}

pub returns-clause-sends : goal.returns-clause-sends
returns-clause-sends g c =
    let ps = c.args.pieces.now in
    let i = c.loop-piece.piece-index in
    let o = g.K.Sink.told c.args.sink.now in
    let all : take i ps ≡ ps = take_all i ps (omega arith) in
    (subst (λ (z : List (List ℕ)). g.K.Sink.told c.loop-piece.sink ≡ onto o z) all c.loop-piece.invariant.told, c.loop-piece.invariant.faults)

pub returns-in-Failed-clause-sends : goal.returns-in-Failed-clause-sends
returns-in-Failed-clause-sends g c =
    let ps = c.args.pieces.now in
    let i = c.loop-piece.piece-index in
    let o = g.K.Sink.told c.args.sink.now in
    let piece = c.piece-item.result in
    let part = rw c.as_slice.ensures at c.in-Failed.ensures.writes in
    let risen = rw c.loop-piece.invariant.faults at c.in-Failed.ensures.counts in (
      take i ps ++ part.0,
      short_at ps i piece part.0 (omega arith) c.piece-item.is part.1,
      part.2 ∙ (ap (λ (z : Option (List (List ℕ))). onto z part.0) c.loop-piece.invariant.told ∙ onto_onto o (take i ps) part.0),
      risen.0,
      risen.1,
    )
