use Rattle.std.proofs.Common.{rules, subst}
use Rattle.serve_words.specs.Words.{AreNamed}
use Rattle.serve_words.proofs.words.service_of.Goals as goal

pub returns-in_err-root-clause-faulty : goal.returns-in_err-root-clause-faulty
returns-in_err-root-clause-faulty c = λ told service asks. c.in_err-root.ensures.faulty (search rules) service.root asks.root

pub returns-in_err-store-clause-faulty : goal.returns-in_err-store-clause-faulty
returns-in_err-store-clause-faulty c = λ told service asks. c.in_err-store.ensures.faulty (search rules) service.store asks.store

pub returns-in_err-sockets-clause-faulty : goal.returns-in_err-sockets-clause-faulty
returns-in_err-sockets-clause-faulty c = λ told service asks. c.in_err-sockets.ensures.faulty (search rules) service.sockets asks.sockets

pub returns-in_err-workers-clause-faulty : goal.returns-in_err-workers-clause-faulty
returns-in_err-workers-clause-faulty c = λ told service asks. c.in_err-workers.ensures.faulty (search rules) service.workers asks.workers

pub returns-in_err-history-clause-faulty : goal.returns-in_err-history-clause-faulty
returns-in_err-history-clause-faulty c = λ told service asks. c.in_err-history.ensures.faulty (search rules) service.history asks.history

pub returns-in_err-apps-clause-faulty : goal.returns-in_err-apps-clause-faulty
returns-in_err-apps-clause-faulty c = λ told service asks. c.in_err-apps.ensures.faulty (search rules) (subst AreNamed asks.apps asks.named)
