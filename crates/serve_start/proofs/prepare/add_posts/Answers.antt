use Rattle.std.proofs.Common.{rules, ◌≡◌, [], ◌∷◌, ◌+◌, ◌++◌, ◌∙◌, List, length, length-append, map, refl, sym, ap, subst, replicate, arith}
use Rattle.worker_gate.specs.declared.worker.Post.{Post}
use Rattle.serve_start.specs.Posts.{Bound, ListenAt, bound_at, bound_of}
use Rattle.serve_start.proofs.Listening.{bound_more, so_many_more}
use Rattle.serve_start.proofs.prepare.add_posts.Goals as goal

pub loop-preserved : goal.loop-preserved
loop-preserved g c =
    let socket = c.args.socket.now in
    let post : Post g.row.L.Denot = record { listener = c.in_ok-listen.field-0; who = c.in_ok-replica.field-0; kind = socket.kind; polled = c.args.polled } in
    let pushed : c.push.new.self ≡ c.loop.posts ++ post ∷ [] = search rules in
    let who : c.in_ok-replica.field-0 ≡ socket.who = search rules in
    let bound : bound_of post ≡ bound_at c.args.polled socket = ap (λ w. record { who = w; kind = socket.kind; polled = c.args.polled }) who in
    let counted = ap (λ (l : List (Post g.row.L.Denot)). length l) pushed ∙ length-append c.loop.posts (post ∷ []) in
    record {
      faults = search rules;
      count = omega (arith, counted, c.loop.invariant.count);
      bound = ap (λ (l : List (Post g.row.L.Denot)). map bound_of l) pushed ∙ bound_more (map bound_of c.args.posts.now) c.loop.posts c.loop.counter post (bound_at c.args.polled socket) c.loop.invariant.bound bound;
      listen = λ paths all. subst (λ (l : List (Post g.row.L.Denot)). ListenAt g.O.Openers.at l (paths ++ replicate (c.loop.counter + 1) socket.path)) (sym pushed) (so_many_more g.O.Openers.at c.loop.posts paths c.loop.counter post socket.path (c.loop.invariant.listen paths all) c.in_ok-listen.ensures.at);
    }
