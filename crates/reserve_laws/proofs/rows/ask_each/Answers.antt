use Rattle.std.proofs.Common.{◌≡◌, ◌+◌, ◌<◌, ◌≤◌, ◌++◌, ◌∷◌, ℕ, List, [], length, map, true, false, sym, ap, subst, ◌∙◌, append-nil, arith}
use Rattle.std.specs.Vec.Iter.{into_iter_items, into_iter_len}
use Rattle.portal_model.specs.declared.opening.OpeningState.{OpeningState}
use Rattle.portal_model.specs.History.{cost}
use Rattle.portal_steps.specs.Story.{cost_with, limit_of}
use Rattle.reserve_laws.specs.Rows.{are_reserved, asked_by, cost_of_all}
use Rattle.reserve_laws.specs.declared.rows.SeatRequest.{SeatRequest}
use Rattle.reserve_laws.proofs.Steps.{costs-rest, fits-next, full-alone, grown-next, none-left, reserved-next, reserved-rest, room-next, room-rest, row-next}
use Rattle.reserve_laws.proofs.rows.ask_each.Goals as goal

pub loop-asked-preserved : goal.loop-asked-preserved
loop-asked-preserved g c =
    let at = c.loop-asked in
    let inv = at.invariant in
    let next = c.in-Some.asked in
    let items = into_iter_items at.asked-iterator in
    let rest = into_iter_items c.next.new.self in
    let steps : into_iter_items at.asked-iterator ≡ c.in-Some.asked ∷ into_iter_items c.next.new.self = c.in-Some.ensures.steps.0 in
    let a = c.in-Ok.ensures.ok in
    record {
      opening = c.ask.ensures.opening ∙ inv.opening;
      row = (
        inv.row.0 ++ a.entry ∷ [],
        grown-next _ _ _ inv.row.0 a.entry inv.row.1 a.grown,
        row-next items rest next steps _ inv.row.0 a.entry a.seat_is a.request_is inv.row.2,
      );
      count =
          let was = inv.count in
          let gone = c.in-Some.ensures.steps.1 in
          let short = ap length steps in
          omega arith;
      reserved = λ h. reserved-rest items rest next steps (inv.reserved h);
      spare = λ h. room-rest items rest next steps _ at.portal.spare c.ask.new.self.spare _ (inv.spare h) (c.ask.ensures.spare (reserved-next items rest next steps (inv.reserved h)));
      costs = costs-rest items rest next steps at.portal.story.history c.ask.new.self.story.history a.entry _ a.grown a.request_is inv.costs;
    }

pub returns-in-Err-clause-memory : goal.returns-in-Err-clause-memory
returns-in-Err-clause-memory g c = λ r s.
    let at = c.loop-asked in
    let inv = at.invariant in
    let next = c.in-Some.asked in
    let items = into_iter_items at.asked-iterator in
    let rest = into_iter_items c.next.new.self in
    let steps : into_iter_items at.asked-iterator ≡ c.in-Some.asked ∷ into_iter_items c.next.new.self = c.in-Some.ensures.steps.0 in
    let all : into_iter_items c.into_iter-asked-iterator.result ≡ c.args.requests = c.into_iter-asked-iterator.ensures.into_iter_gives.0 ∙ c.into_vec-asked-items.ensures in
    let h : are_reserved (into_iter_items c.into_iter-asked-iterator.result) ≡ true = ap are_reserved all ∙ r in
    let enough : length (into_iter_items c.into_iter-asked-iterator.result) ≤ c.args.portal.now.spare = subst (λ (l : List SeatRequest). length l ≤ c.args.portal.now.spare) (sym all) s in
    let room : 0 < at.portal.spare = room-next items rest next steps _ _ _ (inv.spare h) enough in
    full-alone at.portal.story next c.in-Err.refused c.in-Err.ensures.cause (λ fits.
    let no : false ≡ true = c.in-Err.ensures.reserved (reserved-next items rest next steps (inv.reserved h)) room fits in
    absurd (cc))

pub returns-in-Err-clause-all : goal.returns-in-Err-clause-all
returns-in-Err-clause-all g c = λ r s f.
    let at = c.loop-asked in
    let inv = at.invariant in
    let next = c.in-Some.asked in
    let items = into_iter_items at.asked-iterator in
    let rest = into_iter_items c.next.new.self in
    let steps : into_iter_items at.asked-iterator ≡ c.in-Some.asked ∷ into_iter_items c.next.new.self = c.in-Some.ensures.steps.0 in
    let all : into_iter_items c.into_iter-asked-iterator.result ≡ c.args.requests = c.into_iter-asked-iterator.ensures.into_iter_gives.0 ∙ c.into_vec-asked-items.ensures in
    let h : are_reserved (into_iter_items c.into_iter-asked-iterator.result) ≡ true = ap are_reserved all ∙ r in
    let enough : length (into_iter_items c.into_iter-asked-iterator.result) ≤ c.args.portal.now.spare = subst (λ (l : List SeatRequest). length l ≤ c.args.portal.now.spare) (sym all) s in
    let room : 0 < at.portal.spare = room-next items rest next steps _ _ _ (inv.spare h) enough in
    let within : cost c.args.portal.now.story.history + cost_of_all (into_iter_items c.into_iter-asked-iterator.result) ≤ limit_of c.args.portal.now.story =
    subst (λ (l : List SeatRequest). cost c.args.portal.now.story.history + cost_of_all l ≤ limit_of c.args.portal.now.story) (sym all) f in
    let limit : limit_of c.args.portal.now.story ≡ limit_of at.portal.story = sym (ap (λ (o : OpeningState). o.limits.history) inv.opening) in
    c.in-Err.ensures.reserved (reserved-next items rest next steps (inv.reserved h)) room (fits-next items rest next steps at.portal.story _ _ inv.costs within limit)

pub returns-clause-answered : goal.returns-clause-answered
returns-clause-answered g c =
    let at = c.loop-asked in
    let inv = at.invariant in
    let all : into_iter_items c.into_iter-asked-iterator.result ≡ c.args.requests = c.into_iter-asked-iterator.ensures.into_iter_gives.0 ∙ c.into_vec-asked-items.ensures in
    let empty : into_iter_items at.asked-iterator ≡ [] = none-left (into_iter_items at.asked-iterator) (sym inv.count ∙ c.in-None.ensures.steps.0) in
    record {
      entries = inv.row.0;
      grown = inv.row.1;
      theirs = sym (append-nil (map asked_by inv.row.0)) ∙ (ap (λ (l : List SeatRequest). map asked_by inv.row.0 ++ l) (sym empty) ∙ (inv.row.2 ∙ all));
    }

pub returns-clause-left : goal.returns-clause-left
returns-clause-left g c = λ r.
    let at = c.loop-asked in
    let inv = at.invariant in
    let all : into_iter_items c.into_iter-asked-iterator.result ≡ c.args.requests = c.into_iter-asked-iterator.ensures.into_iter_gives.0 ∙ c.into_vec-asked-items.ensures in
    let long : length (into_iter_items c.into_iter-asked-iterator.result) ≡ length c.args.requests = ap (λ (l : List SeatRequest). length l) all in
    let h : are_reserved (into_iter_items c.into_iter-asked-iterator.result) ≡ true = ap are_reserved all ∙ r in
    let left = inv.spare h in
    omega (arith, left, long)
