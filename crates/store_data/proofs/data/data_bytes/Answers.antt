use Rattle.std.proofs.Common.{◌∙◌}
use Rattle.store_data.proofs.SpelledData.{counts}
use Rattle.store_data.proofs.data.data_bytes.Goals as goal

pub returns : goal.returns
returns c = c.unwrap_or.ensures ∙ counts c.args.datum.now c.spelled_bytes.result c.spelled_bytes.ensures
