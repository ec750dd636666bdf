use Rattle.worker_gate.proofs.polled.poll_once.Goals as goal

pub returns-clause-polls : goal.returns-clause-polls
returns-clause-polls g c = (_, c.poll-polled.ensures.polls)
