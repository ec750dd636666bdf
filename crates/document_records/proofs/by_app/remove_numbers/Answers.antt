use Rattle.document_records.proofs.NumbersByApp.{taken-more}
use Rattle.document_records.proofs.by_app.remove_numbers.Goals as goal

pub loop-grant-preserved : goal.loop-grant-preserved
loop-grant-preserved c =
    taken-more c.args.id.number c.args.grants.now c.loop-grant.grant-index c.grant-item.result
    c.args.by_app.now c.loop-grant.by_app c.remove_number.new.by_app c.loop-grant-test.true
    c.grant-item.is c.loop-grant.invariant c.remove_number.ensures
