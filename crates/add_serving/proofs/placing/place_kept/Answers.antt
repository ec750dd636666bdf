use Rattle.std.proofs.Common.{◌≡◌, Bool, cond}
use Rattle.add_calls.specs.Placing.{Book, book_of}
use Rattle.add_calls.proofs.PlacingLemmas.{drew-followed}
use Rattle.add_serving.proofs.PlaceSteps.{all-back, all-there, longer-seen, placed-kept}
use Rattle.add_serving.proofs.placing.place_kept.Goals.{then-done, else-done}
use Rattle.add_serving.proofs.placing.place_kept.Goals as goal

pub keep_placed-requires : goal.keep_placed-requires
keep_placed-requires g c =
    longer-seen c.args.who.now c.args.add.now c.args.plan.now c.args.plan.now.items c.in-Ok.placed.uses (book_of c.args.documents.now c.args.grants.now c.args.applications.now)
    (book_of c.place_all.new.documents c.place_all.new.grants c.place_all.new.applications) c.live-kept.result.now c.live.result.now c.in-Ok.ensures.used c.live-kept.ensures.value c.live.ensures.value

pub returns-after-done-clause-ok : goal.returns-after-done-clause-ok
returns-after-done-clause-ok g c =
    let before : Book = book_of c.args.documents.now c.args.grants.now c.args.applications.now in
    let between : Book = book_of c.place_all.new.documents c.place_all.new.grants c.place_all.new.applications in
    let after : Book = book_of c.if-done.documents c.if-done.grants c.if-done.applications in
    let failed : Bool = c.in-Ok-keep_placed.done.failed in
    let stays : after ≡ cond failed before between = elim c.if-done.branch [
      | then-done w ↦
          all-back before between (book_of w.take_all_back.new.documents w.take_all_back.new.grants w.take_all_back.new.applications) after failed (λ i. book_of (w.documents-is i) (w.grants-is i) (w.applications-is i))
          (w.take_all_back.ensures c.args.add.now before c.in-Ok.ensures.used) w.if-done.true
      | else-done w ↦ all-there before between after failed (λ i. book_of (w.documents-is i) (w.grants-is i) (w.applications-is i)) w.if-done.false
    ] in
    placed-kept c.args.who.now c.args.add.now c.args.plan.now before between after (g.W.Words.told c.args.words.now) (g.W.Words.told c.place_all.new.words) (g.K.Keeper.is c.args.keeper.now) (g.K.Keeper.is c.keep_placed.new.keeper)
    c.in-Ok.placed.drawn c.in-Ok.placed.uses c.in-Ok-keep_placed.done.ids c.in-Ok-keep_placed.done.failed c.plan_changes-asks.result c.live-kept.result.now c.live.result.now c.as_slice-used.result.now c.added.result
    c.in-Ok.ensures.ok c.in-Ok.ensures.used c.plan_changes-asks.ensures c.live-kept.ensures.value c.live.ensures.value c.as_slice-used.ensures c.in-Ok-keep_placed.ensures.ids c.in-Ok-keep_placed.ensures.called c.added.ensures stays

pub returns-in-Err-keep_placed-clause-words : goal.returns-in-Err-keep_placed-clause-words
returns-in-Err-keep_placed-clause-words g c =
    drew-followed c.args.who.now c.args.add.now c.args.plan.now (book_of c.args.documents.now c.args.grants.now c.args.applications.now) (book_of c.place_all.new.documents c.place_all.new.grants c.place_all.new.applications)
    (g.W.Words.told c.args.words.now) (g.W.Words.told c.place_all.new.words) c.in-Ok.placed.drawn c.in-Ok.placed.uses c.in-Ok.ensures.ok c.in-Ok.ensures.used
