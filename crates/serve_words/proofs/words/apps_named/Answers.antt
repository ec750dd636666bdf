use Rattle.std.proofs.Common.{rules, ◌≡◌, ◌+◌, [], sym, subst}
use Rattle.serve_words.specs.Words.{AreNamed}
use Rattle.serve_words.proofs.Apps.{first_are, none_are, one_more_name}
use Rattle.serve_words.proofs.words.apps_named.Goals as goal

pub loop-name-init : goal.loop-name-init
loop-name-init c = let empty : c.new-apps.result ≡ [] = search rules in (empty, subst AreNamed (sym empty) none_are)

pub returns-in_err-add_app-clause-faulty : goal.returns-in_err-add_app-clause-faulty
returns-in_err-add_app-clause-faulty c = λ told named.
    c.in_err-add_app.ensures.faulty (search rules) (first_are c.args.names.now (c.loop-name.name-index + 1) _ (one_more_name c.args.names.now c.loop-name.name-index _ c.loop-name.apps c.loop-name-test.true c.loop-name.invariant.0) named)
