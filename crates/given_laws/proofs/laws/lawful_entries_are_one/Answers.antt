use Rattle.given_laws.proofs.OneEntry.{entry-one}
use Rattle.given_laws.proofs.laws.lawful_entries_are_one.Goals as goal

pub returns : goal.returns
returns c = entry-one
