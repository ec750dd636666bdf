use contract.BorrowLft.{⊑_static}
use denote.Param.Send.{sendable}
use Rattle.std.proofs.Crossing.{crosses}
use Rattle.serve_command.proofs.Sends.{keeper_send}
use Rattle.serve_command.proofs.answer.answer.Goals as goal

pub obey-requires-send-K : goal.obey-requires-send-K
obey-requires-send-K g c κs within = search (keeper_send, crosses, sendable) depth 60 fits 20000

-- the runtime holds no borrow
pub obey-requires-lives-O-Openers-2 : goal.obey-requires-lives-O-Openers-2
obey-requires-lives-O-Openers-2 g c κs within = λ a m. ⊑_static _ a (c.type_bounds.static-R a m)
