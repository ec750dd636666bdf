use Rattle.std.proofs.Common.{rules, ◌≡◌, ◌∙◌, ◌∷◌, List, suc, map, ap, sym}
use Rattle.std.specs.Prelude.{slice_get}
use Rattle.std.specs.Vec.Iter.{into_iter_items}
use Rattle.turn_desk.specs.Sights.{Sight}
use Rattle.serve_posts.specs.Posts.{sat_down}
use Rattle.serve_posts.proofs.Places.{all_gone, all_gone_by, one_more}
use Rattle.serve_posts.proofs.Shifts.{sits}
use Rattle.serve_posts.proofs.worker.seat_workers.Goals as goal

pub sit-requires : goal.sit-requires
sit-requires g c = c.loop-post.invariant.table 0 c.in-Some-next.pass (ap (λ (l : List Sight). slice_get l 0) c.in-Some-next.ensures.items)

pub loop-post-preserved : goal.loop-post-preserved
loop-post-preserved g c =
    let desk : c.waiting-desk.result ≡ sat_down c.in-Some-next.pass =
    c.waiting-desk.ensures ∙ sits c.in-Some-next.pass c.sit.result c.sit.ensures.0 c.sit.ensures.1 c.sit.ensures.2 in
    let passes : map sat_down (into_iter_items c.loop-post.passes) ≡ c.waiting-desk.result ∷ map sat_down (into_iter_items c.next-in-loop-post.new.self) =
    ap (λ (l : List Sight). map sat_down l) c.in-Some-next.ensures.items ∙ ap (λ (d : Sight). d ∷ map sat_down (into_iter_items c.next-in-loop-post.new.self)) (sym desk) in
    record {
      posts = let inv = c.loop-post.invariant.posts in let steps = c.in-Some.ensures.steps.0 in search (rules, one_more);
      ends = let inv = c.loop-post.invariant.ends in let items = c.in-Some-next-2.ensures.items in search (rules, one_more);
      seats = let inv = c.loop-post.invariant.seats in search (rules, one_more);
      table = λ k p at. c.loop-post.invariant.table (suc k) p (ap (λ (l : List Sight). slice_get l (suc k)) c.in-Some-next.ensures.items ∙ at);
      as_many = search rules;
      ends_as_many = search rules;
      room = search rules;
    }

pub loop-post-init : goal.loop-post-init
loop-post-init g c = record {
  posts = search rules;
  ends = search rules;
  seats = search rules;
  table = λ k p at. c.requires.table k p (ap (λ (l : List Sight). slice_get l k) (sym c.into_iter-passes.ensures.rest) ∙ at);
  as_many = search rules;
  ends_as_many = search rules;
  room = search rules;
}

pub returns-clause-posts : goal.returns-clause-posts
returns-clause-posts g c =
    all_gone (map (λ w. w.post) c.loop-post.workers.items) (into_iter_items c.loop-post.post-iterator) _ c.loop-post.post-iterator.rest.ok.0 c.in-None.ensures.steps.0 c.loop-post.invariant.posts
    ∙ (c.into_iter-post-iterator.ensures.into_iter_gives.0 ∙ c.into_vec-post-items.ensures)

pub returns-clause-ends : goal.returns-clause-ends
returns-clause-ends g c =
    all_gone (map (λ w. w.end) c.loop-post.workers.items) (into_iter_items c.loop-post.ends) _ c.loop-post.ends.rest.ok.0 (c.loop-post.invariant.ends_as_many ∙ c.in-None.ensures.steps.0) c.loop-post.invariant.ends
    ∙ (c.into_iter-ends.ensures.rest ∙ c.into_vec.ensures)

pub returns-clause-seats : goal.returns-clause-seats
returns-clause-seats g c =
    all_gone_by sat_down (map (λ w. w.desk) c.loop-post.workers.items) (into_iter_items c.loop-post.passes) _ c.loop-post.passes.rest.ok.0 (c.loop-post.invariant.as_many ∙ c.in-None.ensures.steps.0) c.loop-post.invariant.seats
    ∙ ap (map sat_down) c.into_iter-passes.ensures.rest
