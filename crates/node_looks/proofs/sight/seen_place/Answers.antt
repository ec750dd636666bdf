use Rattle.std.proofs.Common.{◌∙◌, sym}
use Rattle.node_looks.proofs.LowKinds.{low-plain}
use Rattle.node_looks.proofs.sight.seen_place.Goals as goal

pub returns-in-Some-clause-plain : goal.returns-in-Some-clause-plain
returns-in-Some-clause-plain c = low-plain c.args.node c.in-Some.place c.seen_at.result (sym c.in-Some.is ∙ c.place_of.ensures.place) c.seen_at.ensures.plain
