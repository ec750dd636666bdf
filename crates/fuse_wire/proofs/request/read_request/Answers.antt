use Rattle.fuse_wire.proofs.request.read_request.Goals as goal

pub returns : goal.returns
returns c = rw (c.opcode_of.ensures, c.header_of-header.ensures, c.behind-body.ensures) at c.asked_by.ensures
