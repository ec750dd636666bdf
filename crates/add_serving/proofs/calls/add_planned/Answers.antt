use Rattle.std.proofs.Common.{length, map, refl, sym, ap, ◌∙◌}
use Rattle.add_calls.proofs.PlacingLemmas.{drew-none}
use Rattle.add_calls.specs.Placing.{book_of}
use Rattle.add_files.specs.declared.plan.PlanItem.{PlanItem}
use Rattle.add_serving.proofs.AddSteps.{full-follow, kinds-follow, placed-follow, unseen-follows}
use Rattle.add_serving.proofs.Bounded.{drew-for-made, drew-for-none, looks-few, was-asked, was-asked-none, words-few}
use Rattle.add_serving.specs.Adds.{most_looks, most_words}
use Rattle.add_serving.proofs.calls.add_planned.Goals as goal

pub returns-then-shown-clause-ok : goal.returns-then-shown-clause-ok
returns-then-shown-clause-ok g c =
    unseen-follows c.args.add.now c.args.who.now c.args.paths.now (book_of c.args.documents.now c.args.grants.now c.args.applications.now) (g.T.HostTree.is c.args.tree.now).told c.args.plan.now c.requires.plan
    c.in-Ok.shown.looks c.in-Ok.shown.failed c.in-Ok.ensures.shows (g.K.Keeper.is c.args.keeper.now) c.unseen.result c.if-shown.true c.unseen.ensures

pub returns-then-not-are_of_kind-clause-ok : goal.returns-then-not-are_of_kind-clause-ok
returns-then-not-are_of_kind-clause-ok g c =
    kinds-follow c.args.add.now c.args.who.now c.args.paths.now (book_of c.args.documents.now c.args.grants.now c.args.applications.now) (g.T.HostTree.is c.args.tree.now).told c.args.plan.now c.requires.plan
    c.in-Ok.shown.looks c.in-Ok.shown.failed c.in-Ok.ensures.shows (g.K.Keeper.is c.args.keeper.now) c.refused.result c.as_slice-2.result.now (map (λ (item : PlanItem). item.path) c.as_slice.result.now) c.if-shown.false c.as_slice-2.ensures (ap (map (λ (item : PlanItem). item.path)) c.as_slice.ensures ∙ c.requires.planned) (sym c.if-not-are_of_kind.ensures) c.refused.ensures

pub returns-then-exceeds-clause-ok : goal.returns-then-exceeds-clause-ok
returns-then-exceeds-clause-ok g c =
    full-follow c.args.add.now c.args.who.now c.args.paths.now (book_of c.args.documents.now c.args.grants.now c.args.applications.now) (g.T.HostTree.is c.args.tree.now).told c.args.plan.now c.requires.plan
    c.in-Ok.shown.looks c.in-Ok.shown.failed c.in-Ok.ensures.shows (g.K.Keeper.is c.args.keeper.now) c.full.result c.as_slice-2.result.now (map (λ (item : PlanItem). item.path) c.as_slice.result.now) c.if-shown.false c.as_slice-2.ensures (ap (map (λ (item : PlanItem). item.path)) c.as_slice.ensures ∙ c.requires.planned) (sym c.if-not-are_of_kind.ensures) c.requires.call (sym c.if-exceeds.ensures) c.full.ensures

pub returns-in-Ok-place_kept-clause-ok : goal.returns-in-Ok-place_kept-clause-ok
returns-in-Ok-place_kept-clause-ok g c =
    placed-follow c.args.add.now c.args.who.now c.args.paths.now (book_of c.args.documents.now c.args.grants.now c.args.applications.now) (g.T.HostTree.is c.args.tree.now).told c.args.plan.now c.requires.plan
    c.in-Ok.shown.looks c.in-Ok.shown.failed c.in-Ok.ensures.shows (g.W.Words.told c.args.words.now) (g.W.Words.told c.place_kept.new.words) (book_of c.place_kept.new.documents c.place_kept.new.grants c.place_kept.new.applications)
    (g.K.Keeper.is c.args.keeper.now) (g.K.Keeper.is c.place_kept.new.keeper) c.in-Ok-place_kept.added c.placed.result c.as_slice-2.result.now (map (λ (item : PlanItem). item.path) c.as_slice.result.now) c.if-shown.false c.as_slice-2.ensures (ap (map (λ (item : PlanItem). item.path)) c.as_slice.ensures ∙ c.requires.planned) (sym c.if-not-are_of_kind.ensures) c.requires.call
    (sym c.if-exceeds.ensures) c.in-Ok-place_kept.ensures.ok c.placed.ensures

-- ---- want of memory

pub returns-in-Err-clause-tree : goal.returns-in-Err-clause-tree
returns-in-Err-clause-tree g c = was-asked-none (most_looks c.args.add.now) (g.T.HostTree.is c.args.tree.now) (g.T.HostTree.is c.look.new.tree) c.in-Err.ensures.err

pub returns-in-Err-clause-words : goal.returns-in-Err-clause-words
returns-in-Err-clause-words g c = drew-none (most_words c.args.add.now) (g.W.Words.told c.args.words.now) (g.W.Words.told c.args.words.now) refl

pub returns-in-Err-place_kept-clause-tree : goal.returns-in-Err-place_kept-clause-tree
returns-in-Err-place_kept-clause-tree g c =
    was-asked (most_looks c.args.add.now) (g.T.HostTree.is c.args.tree.now) (g.T.HostTree.is c.look.new.tree) (length c.in-Ok.shown.looks) c.in-Ok.shown.failed c.if-shown.false
    (looks-few c.args.add.now c.args.paths.now (g.T.HostTree.is c.args.tree.now).told c.in-Ok.shown.looks c.in-Ok.shown.failed c.requires.few c.in-Ok.ensures.shows) c.in-Ok.ensures.asked

pub returns-in-Err-place_kept-clause-words : goal.returns-in-Err-place_kept-clause-words
returns-in-Err-place_kept-clause-words g c =
    words-few c.args.add.now c.args.plan.now c.args.paths.now (g.W.Words.told c.args.words.now) (g.W.Words.told c.place_kept.new.words) c.requires.few c.requires.planned c.in-Err-place_kept.ensures.words

pub returns-in-Err-clause-made : goal.returns-in-Err-clause-made
returns-in-Err-clause-made g c =
    drew-for-none c.args.add.now c.args.who.now c.args.paths.now (book_of c.args.documents.now c.args.grants.now c.args.applications.now) (g.T.HostTree.is c.args.tree.now).told (g.W.Words.told c.args.words.now)

pub returns-in-Err-place_kept-clause-made : goal.returns-in-Err-place_kept-clause-made
returns-in-Err-place_kept-clause-made g c =
    drew-for-made c.args.add.now c.args.who.now c.args.paths.now (book_of c.args.documents.now c.args.grants.now c.args.applications.now) (g.T.HostTree.is c.args.tree.now).told c.args.plan.now (g.W.Words.told c.args.words.now) (g.W.Words.told c.place_kept.new.words)
    c.requires.plan c.requires.call c.in-Err-place_kept.ensures.words
