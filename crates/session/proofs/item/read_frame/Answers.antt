use Rattle.session.proofs.NextCut.{frame_headed}
use Rattle.session.proofs.item.read_frame.Goals as goal

pub unique_of-unique-requires : goal.unique_of-unique-requires
unique_of-unique-requires c = frame_headed c.args.item.now c.requires
