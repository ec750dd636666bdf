use Rattle.portal_model.proofs.Histories.{of_seat-append}
use Rattle.portal_model.proofs.laws.entries_of_a_seat_join.Goals as goal

pub returns : goal.returns
returns c = of_seat-append
