use Rattle.poll_vectors.proofs.polled.until_over.Given as goal

-- the future isn't over
abbrev pub invariant-polls : goal.invariant-polls
invariant-polls g l = g.F.Future.can_poll l.future
