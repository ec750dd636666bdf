use Rattle.session.proofs.ReadCall.{message_means}
use Rattle.session.proofs.item.read_call.Goals as goal

pub returns-clause-means : goal.returns-clause-means
returns-clause-means c = message_means c.args.client.now c.args.item.now c.in-Ok.message c.call_act.result c.in-Ok.ensures.reading c.call_act.ensures.asks
