use Rattle.std.proofs.Common.{◌≡◌, ◌<◌, ◌⊎◌, ◌++◌, ℕ, List, length, map, Some, ap, sym, subst, ◌∙◌}
use Rattle.std.specs.Prelude.{slice_get, take, drop}
use Rattle.std.proofs.lemmas.List.{length-map}
use Rattle.portal_desk.specs.Opening.{IsOpeningState}
use Rattle.portal_model.specs.History.{Legal, of_seat}
use Rattle.portal_model.specs.Seated.{BeginsWith}
use Rattle.portal_model.specs.State.{State}
use Rattle.turn_desk.specs.Deals.{Stands}
use Rattle.turn_desk.specs.Sights.{Sight}
use Rattle.worker_gate.specs.declared.worker.Post.{Post}
use Rattle.worker_gate.specs.declared.worker.WorkEnd.{WorkEnd}
use Rattle.worker_gate.specs.Working.{sides}
use Rattle.serve_posts.specs.declared.worker.Worker.{Worker}
use Rattle.serve_posts.specs.Posts.{halls, sat_down}
use Rattle.serve_posts.proofs.Places.{as_long, written_back}
use Rattle.serve_posts.proofs.Shifts.{Worked, all_back, all_served, starts_closed}
use Rattle.serve_posts.proofs.shift.serve_turn.Goals as goal
use Rattle.serve_posts.proofs.shift.serve_turn.Goals.{After-stand_up-passes}

pub seat_workers-requires-clause-table : goal.seat_workers-requires-clause-table
seat_workers-requires-clause-table g c = λ k p at. (c.in-Ok.ensures.passes.1 k p at).table_is

pub work_all-requires-clause-closed : goal.work_all-requires-clause-closed
work_all-requires-clause-closed g c κs within = λ k w at.
    starts_closed {X = Worker g.row.R.Denot g.row.L.Denot g.row.S.Denot} c.in-Ok.started.turn.table (g.S.Storied.opening c.args.story) (g.S.Storied.entries c.args.story) c.len-count.result c.in-Ok.started.passes.items (λ v. v.desk) c.in_ok-workers.workers.items c.in_ok-workers.ensures.seats c.in-Ok.ensures.passes.1 c.requires.closed k w (ap (λ (l : List (Worker g.row.R.Denot g.row.L.Denot g.row.S.Denot)). slice_get l k) (sym c.as_mut_slice.ensures.value) ∙ at)

-- the workers as they got up
returned : (g : _) (c : After-stand_up-passes g) → take c.in_ok-workers.workers.len (c.work_all.new.workers ++ drop (length c.work_all.new.workers) c.in_ok-workers.workers.items) ≡ c.work_all.new.workers
returned g c =
    let whole : length c.work_all.new.workers ≡ length c.in_ok-workers.workers.items = c.work_all.ensures.as_many ∙ ap (λ (l : List (Worker g.row.R.Denot g.row.L.Denot g.row.S.Denot)). length l) c.as_mut_slice.ensures.value in
    let long : length c.in_ok-workers.workers.items ≡ c.in_ok-workers.workers.len = ap (λ (l : List (Worker g.row.R.Denot g.row.L.Denot g.row.S.Denot)). length l) (sym c.as_mut_slice.ensures.value) ∙ c.as_mut_slice.ensures.len in
    subst (λ (n : ℕ). take n (c.work_all.new.workers ++ drop (length c.work_all.new.workers) c.in_ok-workers.workers.items) ≡ c.work_all.new.workers) long (written_back c.work_all.new.workers c.in_ok-workers.workers.items whole)

-- what the workers did
worked : (g : _) (c : After-stand_up-passes g) → Worked {L = g.row.L.Denot} {S = g.row.L-In.Denot} {K = g.row.L-Out.Denot} {X = Worker g.row.R.Denot g.row.L.Denot g.row.S.Denot} (sides g.L.In.Source.left g.L.In.Source.faults g.L.Out.Sink.told g.L.Out.Sink.faults) (halls g.L.Listener.links g.L.Listener.ends g.L.Listener.faults) c.args.settings.now (λ v. v.post) (λ v. v.desk) (λ v. v.end) c.in-Ok.started.turn.table (g.S.Storied.opening c.args.story) (g.S.Storied.entries c.args.story) c.len-count.result c.args.posts c.args.ends c.in-Ok.started.passes.items c.as_mut_slice.result.now c.work_all.new.workers c.stand_up-passes.result.passes.items
worked g c =
    let same = c.as_mut_slice.ensures.value in
    record {
      posts_are = ap (λ (l : List (Worker g.row.R.Denot g.row.L.Denot g.row.S.Denot)). map (λ v. v.post) l) same ∙ c.in_ok-workers.ensures.posts;
      ends_are = ap (λ (l : List (Worker g.row.R.Denot g.row.L.Denot g.row.S.Denot)). map (λ v. v.end) l) same ∙ c.in_ok-workers.ensures.ends;
      seats_are = ap (λ (l : List (Worker g.row.R.Denot g.row.L.Denot g.row.S.Denot)). map (λ v. v.desk) l) same ∙ c.in_ok-workers.ensures.seats;
      dealt = c.in-Ok.ensures.passes.1;
      count = c.work_all.ensures.as_many;
      number =
          ap (λ (l : List (Worker g.row.R.Denot g.row.L.Denot g.row.S.Denot)). length l) same
          ∙ (sym (length-map c.in_ok-workers.workers.items (λ (v : Worker g.row.R.Denot g.row.L.Denot g.row.S.Denot). v.post))
          ∙ (ap (λ (l : List (Post g.row.L.Denot)). length l) c.in_ok-workers.ensures.posts ∙ sym c.len-count.ensures));
      each = c.work_all.ensures.each;
      tables = c.stand_up-passes.ensures.tables ∙ ap (λ (l : List (Worker g.row.R.Denot g.row.L.Denot g.row.S.Denot)). map (λ v. v.desk.table) l) (returned g c);
      knows = c.stand_up-passes.ensures.knows ∙ ap (λ (l : List (Worker g.row.R.Denot g.row.L.Denot g.row.S.Denot)). map (λ v. v.desk.knows) l) (returned g c);
    }

pub close-story-requires : goal.close-story-requires
close-story-requires g c =
    rw c.in-Ok.ensures.value.1 (all_back (sides g.L.In.Source.left g.L.In.Source.faults g.L.Out.Sink.told g.L.Out.Sink.faults) (halls g.L.Listener.links g.L.Listener.ends g.L.Listener.faults) c.args.settings.now (λ (v : Worker g.row.R.Denot g.row.L.Denot g.row.S.Denot). v.post) (λ v. v.desk) (λ v. v.end) c.in-Ok.started.turn.table (g.S.Storied.opening c.args.story) (g.S.Storied.entries c.args.story) c.len-count.result c.args.posts c.args.ends c.in-Ok.started.passes.items c.as_mut_slice.result.now c.work_all.new.workers c.stand_up-passes.result.passes.items (worked g c))

pub returns : goal.returns
returns g c =
    let before = (goal.at.returns g c).After-stand_up-passes in
    let start : c.in-Ok.started.turn.start ≡ c.args.story = c.in-Ok.ensures.value.0 in
    let backs : c.from_vec.result ≡ map (λ v. v.post) c.work_all.new.workers =
    c.from_vec.ensures ∙ (c.stand_up-passes.ensures.posts ∙ ap (λ (l : List (Worker g.row.R.Denot g.row.L.Denot g.row.S.Denot)). map (λ v. v.post) l) (returned g before)) in
    let ended : c.from_vec-2.result ≡ map (λ v. v.end) c.work_all.new.workers =
    c.from_vec-2.ensures ∙ (c.stand_up-passes.ensures.ends ∙ ap (λ (l : List (Worker g.row.R.Denot g.row.L.Denot g.row.S.Denot)). map (λ v. v.end) l) (returned g before)) in
    let did = worked g before in
    let stands : (k : ℕ) (p : Sight) → slice_get c.stand_up-passes.result.passes.items k ≡ Some p → Stands (g.S.Storied.opening c.args.story) (g.S.Storied.entries c.close-story.result) p.knows =
    λ k p at. subst (λ x. Stands (g.S.Storied.opening x) (g.S.Storied.entries c.close-story.result) p.knows) start (c.close-story.ensures.seats k p at) in
    record {
      turn = (
        c.close-story.ensures.opening ∙ ap g.S.Storied.opening start,
        record {
          started = subst IsOpeningState (c.close-story.ensures.opening ∙ ap g.S.Storied.opening start) c.known.ensures.started;
          legal = subst (λ (o : State). Legal o (g.S.Storied.entries c.close-story.result)) (c.close-story.ensures.opening ∙ ap g.S.Storied.opening start) c.known.ensures.legal;
          begins = subst (λ x. BeginsWith (g.S.Storied.entries c.close-story.result) (g.S.Storied.entries x)) start c.close-story.ensures.begins;
          all_ended = as_long (λ (v : Worker g.row.R.Denot g.row.L.Denot g.row.S.Denot). v.end) c.from_vec-2.result c.work_all.new.workers c.as_mut_slice.result.now c.args.posts c.len-count.result ended did.count did.number c.len-count.ensures;
          all_back = as_long (λ (v : Worker g.row.R.Denot g.row.L.Denot g.row.S.Denot). v.post) c.from_vec.result c.work_all.new.workers c.as_mut_slice.result.now c.args.posts c.len-count.result backs did.count did.number c.len-count.ensures;
          each = all_served (sides g.L.In.Source.left g.L.In.Source.faults g.L.Out.Sink.told g.L.Out.Sink.faults) (halls g.L.Listener.links g.L.Listener.ends g.L.Listener.faults) c.args.settings.now (λ (v : Worker g.row.R.Denot g.row.L.Denot g.row.S.Denot). v.post) (λ v. v.desk) (λ v. v.end) c.in-Ok.started.turn.table (g.S.Storied.opening c.args.story) (g.S.Storied.entries c.args.story) (g.S.Storied.entries c.close-story.result) c.len-count.result c.args.posts c.args.ends c.in-Ok.started.passes.items c.as_mut_slice.result.now c.work_all.new.workers c.stand_up-passes.result.passes.items c.from_vec-2.result c.from_vec.result did backs ended stands;
          others = λ n out. subst (λ x. of_seat n (g.S.Storied.entries c.close-story.result) ≡ of_seat n (g.S.Storied.entries x)) start (c.close-story.ensures.others n (subst (λ (m : ℕ). (n ≡ 0) ⊎ (m < n)) (sym (c.in-Ok.ensures.value.1 ∙ c.len-count.ensures)) out));
        },
      );
    }
