use Rattle.permission_table.proofs.HeldRecords.{gone-record, put-record}
use Rattle.permission_table.proofs.laws.records_follow_the_tables.Goals as goal

pub returns-clause-put : goal.returns-clause-put
returns-clause-put c = put-record

pub returns-clause-gone : goal.returns-clause-gone
returns-clause-gone c = gone-record
