use Rattle.std.proofs.Common.{◌≡◌, ◌+◌, ◌≤◌, ◌++◌, map, vec_len, vec_capacity}
use Rattle.std.specs.Vec.Iter.{into_iter_items, into_iter_len}
use Rattle.serve_posts.proofs.worker.stand_up.Given as goal

-- what was brought back, and then what the workers that are left will bring
abbrev pub invariant-loop-worker : goal.invariant-loop-worker
invariant-loop-worker g l = record {
  posts : l.crew.posts.items ++ map (λ w. w.post) (into_iter_items l.worker-iterator) ≡ map (λ w. w.post) (into_iter_items l.initial.worker-iterator);
  ends : l.crew.ends.items ++ map (λ w. w.end) (into_iter_items l.worker-iterator) ≡ map (λ w. w.end) (into_iter_items l.initial.worker-iterator);
  tables : map (λ p. p.table) l.crew.passes.items ++ map (λ w. w.desk.table) (into_iter_items l.worker-iterator) ≡ map (λ w. w.desk.table) (into_iter_items l.initial.worker-iterator);
  knows : map (λ p. p.knows) l.crew.passes.items ++ map (λ w. w.desk.knows) (into_iter_items l.worker-iterator) ≡ map (λ w. w.desk.knows) (into_iter_items l.initial.worker-iterator);
  post_room : vec_len l.crew.posts + into_iter_len l.worker-iterator ≤ vec_capacity l.crew.posts;
  end_room : vec_len l.crew.ends + into_iter_len l.worker-iterator ≤ vec_capacity l.crew.ends;
  pass_room : vec_len l.crew.passes + into_iter_len l.worker-iterator ≤ vec_capacity l.crew.passes;
}
