use Rattle.wire_vectors.proofs.calls.put_answered.Goals as goal

pub write_message-requires : goal.write_message-requires
write_message-requires c =
    (rw c.in-Local.is at c.requires.answers) c.args.serial c.requires.serial (search)
