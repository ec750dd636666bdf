use Rattle.std.proofs.Common.{◌≡◌, ℕ, ◌+◌, ◌≤◌, ◌++◌, map, Some, vec_len, vec_capacity}
use Rattle.std.specs.Prelude.{slice_get}
use Rattle.std.specs.Vec.Iter.{into_iter_items, into_iter_len}
use Rattle.turn_desk.specs.Sights.{Sight}
use Rattle.serve_posts.specs.Posts.{sat_down}
use Rattle.serve_posts.proofs.worker.seat_workers.Given as goal

-- the workers so far have the first posts, ends and passes
abbrev pub invariant-loop-post : goal.invariant-loop-post
invariant-loop-post g l = record {
  posts : map (λ w. w.post) l.workers.items ++ into_iter_items l.post-iterator ≡ into_iter_items l.initial.post-iterator;
  ends : map (λ w. w.end) l.workers.items ++ into_iter_items l.ends ≡ into_iter_items l.initial.ends;
  seats : map (λ w. w.desk) l.workers.items ++ map sat_down (into_iter_items l.passes) ≡ map sat_down (into_iter_items l.initial.passes);
  table : (k : ℕ) (p : Sight) → slice_get (into_iter_items l.passes) k ≡ Some p → p.table ≡ l.fn.turn.table;
  as_many : into_iter_len l.passes ≡ into_iter_len l.post-iterator;
  ends_as_many : into_iter_len l.ends ≡ into_iter_len l.post-iterator;
  room : vec_len l.workers + into_iter_len l.post-iterator ≤ vec_capacity l.workers;
}
