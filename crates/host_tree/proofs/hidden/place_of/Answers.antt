use Rattle.host_tree.proofs.HiddenEntries.{place-found, place-missing}
use Rattle.host_tree.proofs.hidden.place_of.Goals as goal

pub returns-in-Some : goal.returns-in-Some
returns-in-Some c = place-found c.args.name.now c.args.files.now c.in-Some.place c.in-Some.ensures

pub returns-in-None : goal.returns-in-None
returns-in-None c = place-missing c.args.name.now c.args.files.now c.in-None.ensures
