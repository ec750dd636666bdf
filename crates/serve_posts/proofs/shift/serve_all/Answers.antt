use Rattle.std.proofs.Common.{◌≡◌, ◌≤◌, ℕ, zero, suc, length, replicate, List, false, true, refl, rules, sym, ap, subst, ◌∙◌}
use Rattle.std.proofs.lemmas.List.{length-replicate}
use Rattle.std.specs.List.{list_any}
use Rattle.portal_base.specs.declared.limits.Settings.{Settings}
use Rattle.portal_model.specs.declared.entry.Entry.{Entry}
use Rattle.portal_model.specs.State.{State}
use Rattle.worker_gate.specs.declared.worker.Post.{Post}
use Rattle.worker_gate.specs.declared.worker.WorkEnd.{WorkEnd}
use Rattle.worker_gate.specs.Working.{Hall, Sides, sides}
use Rattle.serve_posts.specs.Posts.{all_unserved, halls, is_left, unserved}
use Rattle.serve_posts.specs.Rounds.{OneTurn, Stand, stand}
use Rattle.serve_posts.proofs.Rounds.{AllClosed, one_round_more, one_turn_more, renewed_closed, served_all, turn_closed, turns_lengths}
use Rattle.serve_posts.proofs.shift.serve_all.Goals as goal

-- no seat has an open connection behind a turn
closed_after : {L S K : Type 0} (s : Sides S K) (hall_of : L → Hall S K) (settings : Settings) (a b : Stand L) → OneTurn s hall_of settings a b → length a.ends ≡ length a.posts → AllClosed a.opening a.entries → AllClosed b.opening b.entries
closed_after s hall_of settings a b t as_many closed =
    subst (λ (o : State). AllClosed o b.entries) (sym t.0) (turn_closed s hall_of settings a.opening a.entries b.entries a.posts a.ends b.ends b.posts t.1 as_many closed)

pub turns-init : goal.turns-init
turns-init g c =
    let s = sides g.L.In.Source.left g.L.In.Source.faults g.L.Out.Sink.told g.L.Out.Sink.faults in
    let hall_of = halls g.L.Listener.links g.L.Listener.ends g.L.Listener.faults in
    let first = stand (g.S.Storied.opening c.args.story) (g.S.Storied.entries c.args.story) c.args.posts (all_unserved c.args.posts) in
    let next = stand (g.S.Storied.opening c.in_ok-shift.shift.story) (g.S.Storied.entries c.in_ok-shift.shift.story) c.in_ok-shift.shift.posts c.in_ok-shift.shift.ends in
    let many : c.in_ok-ends.ends ≡ all_unserved c.args.posts = c.in_ok-ends.ensures ∙ ap (λ (n : ℕ). replicate n unserved) c.len.ensures in
    let kept = c.kept_ahead-story in
    let begun : OneTurn s hall_of c.args.settings.now (stand (g.S.Storied.opening kept.result) (g.S.Storied.entries kept.result) c.args.posts (all_unserved c.args.posts)) next =
    subst (λ (ends : List WorkEnd). OneTurn s hall_of c.args.settings.now (stand (g.S.Storied.opening kept.result) (g.S.Storied.entries kept.result) c.args.posts ends) next) many c.in_ok-shift.ensures.turn in
    let turn : OneTurn s hall_of c.args.settings.now first next =
    subst (λ (o : State). OneTurn s hall_of c.args.settings.now (stand o (g.S.Storied.entries c.args.story) c.args.posts (all_unserved c.args.posts)) next) kept.ensures.opening
    (subst (λ (h : List Entry). OneTurn s hall_of c.args.settings.now (stand (g.S.Storied.opening kept.result) h c.args.posts (all_unserved c.args.posts)) next) kept.ensures.entries begun) in
    (tt, tt, (zero, refl, turn), closed_after s hall_of c.args.settings.now first next turn (length-replicate (length c.args.posts) unserved) c.requires.closed)

pub returns-then-not-any_left : goal.returns-then-not-any_left
returns-then-not-any_left g c =
    let s = sides g.L.In.Source.left g.L.In.Source.faults g.L.Out.Sink.told g.L.Out.Sink.faults in
    let hall_of = halls g.L.Listener.links g.L.Listener.ends g.L.Listener.faults in
    let none : list_any is_left c.turns.shift.ends ≡ false = search rules in
    served_all s hall_of c.args.settings.now c.turns.invariant.2.0 c.turns.rounds (g.S.Storied.opening c.args.story) (g.S.Storied.entries c.args.story) c.args.posts
    (stand (g.S.Storied.opening c.turns.shift.story) (g.S.Storied.entries c.turns.shift.story) c.turns.shift.posts c.turns.shift.ends) c.turns.invariant.2.1 c.turns.invariant.2.2 none

pub serve_turn-requires-clause-closed : goal.serve_turn-requires-clause-closed
serve_turn-requires-clause-closed g c κs within =
    let kept = c.kept_ahead-story in
    subst (λ (o : State). AllClosed o (g.S.Storied.entries kept.result)) (sym kept.ensures.opening)
    (subst (λ (h : List Entry). AllClosed (g.S.Storied.opening c.args.story) h) (sym kept.ensures.entries) c.requires.closed)

pub serve_turn-requires-in-turns-clause-count : goal.serve_turn-requires-in-turns-clause-count
serve_turn-requires-in-turns-clause-count g c κs within =
    let s = sides g.L.In.Source.left g.L.In.Source.faults g.L.Out.Sink.told g.L.Out.Sink.faults in
    let hall_of = halls g.L.Listener.links g.L.Listener.ends g.L.Listener.faults in
    let first = stand (g.S.Storied.opening c.args.story) (g.S.Storied.entries c.args.story) c.args.posts (all_unserved c.args.posts) in
    let now = stand (g.S.Storied.opening c.turns.shift.story) (g.S.Storied.entries c.turns.shift.story) c.turns.shift.posts c.turns.shift.ends in
    let long = turns_lengths s hall_of c.args.settings.now c.turns.invariant.2.0 first now c.turns.invariant.2.2 in
    subst (λ (n : ℕ). (1 ≤ n) × (n ≤ 65535)) (sym long.0) c.requires.count

pub serve_turn-requires-in-turns-clause-ends : goal.serve_turn-requires-in-turns-clause-ends
serve_turn-requires-in-turns-clause-ends g c κs within =
    let s = sides g.L.In.Source.left g.L.In.Source.faults g.L.Out.Sink.told g.L.Out.Sink.faults in
    let hall_of = halls g.L.Listener.links g.L.Listener.ends g.L.Listener.faults in
    let first = stand (g.S.Storied.opening c.args.story) (g.S.Storied.entries c.args.story) c.args.posts (all_unserved c.args.posts) in
    let now = stand (g.S.Storied.opening c.turns.shift.story) (g.S.Storied.entries c.turns.shift.story) c.turns.shift.posts c.turns.shift.ends in
    let long = turns_lengths s hall_of c.args.settings.now c.turns.invariant.2.0 first now c.turns.invariant.2.2 in
    long.1 ∙ sym long.0

pub serve_turn-requires-in-turns-clause-closed : goal.serve_turn-requires-in-turns-clause-closed
serve_turn-requires-in-turns-clause-closed g c κs within =
    renewed_closed (g.S.Storied.opening c.turns.shift.story) (g.S.Storied.opening c.renewed-story.result) (g.S.Storied.entries c.turns.shift.story) (g.S.Storied.entries c.renewed-story.result) c.renewed-story.ensures c.turns.invariant.3

pub turns-preserved : goal.turns-preserved
turns-preserved g c =
    let s = sides g.L.In.Source.left g.L.In.Source.faults g.L.Out.Sink.told g.L.Out.Sink.faults in
    let hall_of = halls g.L.Listener.links g.L.Listener.ends g.L.Listener.faults in
    let first = stand (g.S.Storied.opening c.args.story) (g.S.Storied.entries c.args.story) c.args.posts (all_unserved c.args.posts) in
    let now = stand (g.S.Storied.opening c.turns.shift.story) (g.S.Storied.entries c.turns.shift.story) c.turns.shift.posts c.turns.shift.ends in
    let long = turns_lengths s hall_of c.args.settings.now c.turns.invariant.2.0 first now c.turns.invariant.2.2 in
    let again = stand (g.S.Storied.opening c.renewed-story.result) (g.S.Storied.entries c.renewed-story.result) c.turns.shift.posts c.turns.shift.ends in
    let next = stand (g.S.Storied.opening c.in-Ok.after.story) (g.S.Storied.entries c.in-Ok.after.story) c.in-Ok.after.posts c.in-Ok.after.ends in
    let left : list_any is_left c.turns.shift.ends ≡ true = search rules in
    let closed = renewed_closed (g.S.Storied.opening c.turns.shift.story) (g.S.Storied.opening c.renewed-story.result) (g.S.Storied.entries c.turns.shift.story) (g.S.Storied.entries c.renewed-story.result) c.renewed-story.ensures c.turns.invariant.3 in (
      tt,
      tt,
      (
        suc c.turns.invariant.2.0,
        one_round_more c.turns.rounds c.turns.invariant.2.0 c.saturating_add-rounds.result c.turns.invariant.2.1 c.saturating_add-rounds.ensures,
        one_turn_more s hall_of c.args.settings.now c.turns.invariant.2.0 first now next (g.S.Storied.opening c.renewed-story.result) (g.S.Storied.entries c.renewed-story.result) c.turns.invariant.2.2 left c.renewed-story.ensures c.in-Ok.ensures.turn,
      ),
      closed_after s hall_of c.args.settings.now again next c.in-Ok.ensures.turn (long.1 ∙ sym long.0) closed,
    )
