use Rattle.portal_model.proofs.DataLaws.{entry-has, entry-valid, record-again}
use Rattle.portal_model.proofs.store_laws.entries_have_records.Goals as goal

pub returns : goal.returns
returns c = record { has = entry-has; valid = entry-valid; kept = record-again }
