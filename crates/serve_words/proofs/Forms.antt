-- The command that `clap` is told of, one argument after another.
use Rattle.std.proofs.Common.{◌≡◌, ◌∙◌, false, ap}
use Rattle.clap.specs.Built.{AddsArg}
use Rattle.clap.specs.Simple.{App, app_of, with_rule}
use Rattle.clap.specs.Walk.{Rule, rule_of}
use Rattle.clap.specs.declared.builder.arg.Arg.{Arg}
use Rattle.clap.specs.declared.builder.command.Command.{Command}

pub adds : (old new : Command) (a : Arg) (app : App) (r : Rule) → AddsArg old a new → a.global ≡ false → rule_of a ≡ r → app_of old ≡ app → app_of new ≡ with_rule app r
adds old new a app r add own rule is = add.shape own ∙ (ap (λ (x : Rule). with_rule (app_of old) x) rule ∙ ap (λ (x : App). with_rule x r) is)
