use Rattle.named_paths.proofs.numbers.follow_open.Goals as goal

pub returns-in-Some : goal.returns-in-Some
returns-in-Some c = λ s n there was.
    c.drop_closed.ensures s n there (c.in_ok-add_last.ensures s n there was)
