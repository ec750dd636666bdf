use Rattle.session.proofs.WholeInputsEnd.{whole_inputs_end}
use Rattle.session.proofs.laws.whole_inputs_are_served_to_their_end.Goals as goal

pub returns : goal.returns
returns c = whole_inputs_end
