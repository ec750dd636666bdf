-- What `cell` ensures of the table, at the command that `read` found in the line.
use Rattle.std.proofs.Common.{◌∙◌}
use Rattle.std.proofs.lemmas.Bool.{false≢true}
use Rattle.dbus_auth.proofs.CommandLemmas.{command_of-begin}
use Rattle.dbus_auth.proofs.TableLemmas.{ends_line, begins, comes_early}
use Rattle.dbus_auth.proofs.handshake.Auth.step.Goals as goal

pub returns-clause-ends_line : goal.returns-clause-ends_line
returns-clause-ends_line c =
    ends_line c.self.inside.guid c.args.line.now c.self.inside.state c.read.ensures c.in_ok-answer.ensures.ok

pub returns-clause-begin : goal.returns-clause-begin
returns-clause-begin c =
    rw (← c.self.view_is) (begins c.self.inside.guid c.args.line.now c.self.inside.state c.read.ensures c.in_ok-answer.ensures.ok)

pub returns-clause-early : goal.returns-clause-early
returns-clause-early c =
    rw (← c.self.view_is) (comes_early c.self.inside.guid c.args.line.now c.self.inside.state c.read.ensures c.in_ok-answer.ensures.ok)

pub returns-in_err-answer-clause-begin_needs_no_memory : goal.returns-in_err-answer-clause-begin_needs_no_memory
returns-in_err-answer-clause-begin_needs_no_memory c =
    λ h. absurd (false≢true (c.in_err-answer.ensures.begin_needs_no_memory (c.read.ensures ∙ command_of-begin c.args.line.now h)))
