use Rattle.std.proofs.Common.{rules, ◌≡◌, ◌∙◌, slice_index_or}
use Rattle.serve_posts.specs.declared.worker.Worker.{Worker}
use Rattle.serve_posts.specs.Posts.{AttendsLeft, halls}
use Rattle.serve_posts.proofs.Places.{between, index_at, is_within}
use Rattle.worker_gate.specs.Working.{sides}
use Rattle.serve_posts.proofs.worker.work_all.Goals as goal

pub returns-clause-each : goal.returns-clause-each
returns-clause-each g c = λ k a b at_a at_b.
    let old : slice_index_or c.args.workers.now k a ≡ a = index_at c.args.workers.now k a a at_a in
    let new : slice_index_or c.for_each_mut.new.s k a ≡ b = index_at c.for_each_mut.new.s k a b at_b in
    let did = (c.for_each_mut.ensures k a (is_within c.args.workers.now k a at_a)).1 in
    between a b did.argument.now did.after_call.now (λ (x y : Worker g.row.R.Denot g.row.L.Denot g.row.S.Denot). AttendsLeft {L = g.row.L.Denot} {S = g.row.L-In.Denot} {K = g.row.L-Out.Denot} (sides g.L.In.Source.left g.L.In.Source.faults g.L.Out.Sink.told g.L.Out.Sink.faults) (halls g.L.Listener.links g.L.Listener.ends g.L.Listener.faults) c.args.settings.now x.post x.end x.desk y.end y.post y.desk)
    (did.argument_is ∙ old)
    (did.left ∙ new)
    did.call
