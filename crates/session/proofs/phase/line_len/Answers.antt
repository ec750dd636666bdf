use Rattle.session.proofs.FirstLine.{line_past, no_line_past, sought_from}
use Rattle.session.proofs.phase.line_len.Goals as goal

pub returns-in-Some : goal.returns-in-Some
returns-in-Some c =
    let h = sought_from c.args.bytes.now c.args.seen c.saturating_sub-from.result c.saturating_sub-from.ensures c.requires.none in
    line_past c.args.bytes.now c.behind.result.now c.saturating_sub-from.result c.in-Some.at h c.behind.ensures c.in-Some.ensures

pub returns-in-None : goal.returns-in-None
returns-in-None c =
    let h = sought_from c.args.bytes.now c.args.seen c.saturating_sub-from.result c.saturating_sub-from.ensures c.requires.none in
    no_line_past c.args.bytes.now c.behind.result.now c.saturating_sub-from.result h c.behind.ensures c.in-None.ensures
