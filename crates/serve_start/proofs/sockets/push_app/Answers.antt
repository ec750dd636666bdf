use Rattle.std.proofs.Common.{sym, subst}
use Rattle.std.specs.Str.{IsUtf8}
use Rattle.serve_start.proofs.NameTexts.{name_utf8}
use Rattle.serve_start.proofs.sockets.push_app.Goals as goal

pub unreachable-requires : goal.unreachable-requires
unreachable-requires c = (c.in_default.ensures).cases.0 (subst IsUtf8 (sym (c.as_bytes.ensures.bytes)) (name_utf8 c.args.app.now (c.as_bytes.ensures.rule)))
