use Rattle.std.proofs.Common.{◌∙◌}
use Rattle.save_files.specs.Taken.{with_taken}
use Rattle.save_files.proofs.Outcomes.{added-after, done-not-err, done-not-failed, on-done, path-fits}
use Rattle.save_files.proofs.temps.add_on.Goals as goal

pub take-requires-clause-room : goal.take-requires-clause-room
take-requires-clause-room c = c.in_ok-reserve_on.ensures.ok.1

pub take-requires-clause-path : goal.take-requires-clause-path
take-requires-clause-path c = rw (← c.as_bytes.ensures.bytes) at (path-fits c.args.temp.file.path c.as_bytes.ensures.rule)

pub put_on-requires : goal.put_on-requires
put_on-requires c = c.in_ok-reserve_on.ensures.ok.0

pub returns-clause-ok : goal.returns-clause-ok
returns-clause-ok c = added-after c.put_on.result c.args.temp _ _ _ c.args.seat c.reserve_on.ensures.kept c.put_on.ensures.ok

pub returns-clause-taken : goal.returns-clause-taken
returns-clause-taken c =
    on-done c.put_on.result _
    (c.take.ensures ∙ (λ i. with_taken (c.as_bytes.ensures.bytes i) c.args.temp.file.generation (c.reserve_on.ensures.taken i)))

pub returns-clause-refused : goal.returns-clause-refused
returns-clause-refused c = done-not-err c.put_on.result _ c.put_on.ensures.done

pub returns-clause-err : goal.returns-clause-err
returns-clause-err c = done-not-failed c.put_on.result _ c.put_on.ensures.done

pub returns-clause-reserved : goal.returns-clause-reserved
returns-clause-reserved c = λ can room. c.put_on.ensures.done
