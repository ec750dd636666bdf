use Rattle.std.proofs.Common.{refl}
use Rattle.add_calls.specs.Placing.{book_of}
use Rattle.add_serving.specs.Adds.{most_looks, most_words}
use Rattle.add_serving.proofs.AddSteps.{plan-error}
use Rattle.add_calls.proofs.PlacingLemmas.{drew-none}
use Rattle.add_serving.proofs.Bounded.{drew-for-none, on-err, was-asked-none}
use Rattle.add_serving.proofs.calls.add_presented.Goals as goal

pub returns-in-Err-clause-ok : goal.returns-in-Err-clause-ok
returns-in-Err-clause-ok g c =
    plan-error c.args.add.now c.args.who.now c.args.paths.now (book_of c.args.documents.now c.args.grants.now c.args.applications.now) (g.T.HostTree.is c.args.tree.now).told (g.K.Keeper.is c.args.keeper.now)
    c.in-Err.error c.refused_plan.result c.refused_plan.ensures c.in-Err.ensures.err

pub returns-in-Err-clause-tree : goal.returns-in-Err-clause-tree
returns-in-Err-clause-tree g c = on-err c.refused_plan.result (was-asked-none (most_looks c.args.add.now) (g.T.HostTree.is c.args.tree.now) (g.T.HostTree.is c.args.tree.now) refl)

pub returns-in-Err-clause-words : goal.returns-in-Err-clause-words
returns-in-Err-clause-words g c = on-err c.refused_plan.result (drew-none (most_words c.args.add.now) (g.W.Words.told c.args.words.now) (g.W.Words.told c.args.words.now) refl)

pub returns-in-Err-clause-made : goal.returns-in-Err-clause-made
returns-in-Err-clause-made g c =
    on-err c.refused_plan.result
    (drew-for-none c.args.add.now c.args.who.now c.args.paths.now (book_of c.args.documents.now c.args.grants.now c.args.applications.now) (g.T.HostTree.is c.args.tree.now).told (g.W.Words.told c.args.words.now))
