use Rattle.std.proofs.Common.{◌<◌, List, ◌++◌, length, map, take, ap, refl, subst, sym, ◌∙◌, arith}
use Rattle.app_trace.specs.Told.{item_told}
use Rattle.app_world.specs.TraceItem.{TraceItem}
use Rattle.app_world.specs.World.{items_of}
use Rattle.file_generations.specs.Generations.{held_with}
use Rattle.named_paths.specs.OpenNumbers.{Cover}
use Rattle.portal_model.specs.History.{run}
use Rattle.portal_model.specs.Opening.{opened}
use Rattle.portal_model.specs.State.{State, held_in}
use Rattle.portal_model.specs.Step.{after}
use Rattle.history_trace.proofs.Fronts.{at-first, at-next, items-next, lawful-there, room-there, run-next, some-there}
use Rattle.history_trace.proofs.traced.replay_all.Goals as goal

pub loop-place-init : goal.loop-place-init
loop-place-init c = record {
  at = at-first c.args.opening.now c.args.portal.now.story c.requires.begins;
  covered = λ seat n h. cc;
  files_are = λ i. held_with (c.in_ok-files.ensures.placed (c.requires.started.files refl).placed i) (c.in_ok-files.ensures.hidden i);
  items_are = ap (map item_told) c.new-told.ensures;
}

pub unreachable-requires : goal.unreachable-requires
unreachable-requires c =
    let more : c.loop-place.place < length c.args.history.now.entries = omega (arith, c.len-place-end.ensures, c.loop-place-test.true) in
    some-there c.args.history.now.entries c.loop-place.place more c.in-None.ensures

pub replay-requires-clause-lawful : goal.replay-requires-clause-lawful
replay-requires-clause-lawful c =
    lawful-there c.args.history.now.entries c.loop-place.place c.in-Some.entry.now c.in-Some.ensures c.args.opening.now c.loop-place.portal.story c.loop-place.invariant.at c.requires.legal.lawful

pub replay-requires-clause-room : goal.replay-requires-clause-room
replay-requires-clause-room c =
    room-there c.args.history.now.entries c.loop-place.place c.in-Some.entry.now c.in-Some.ensures c.args.opening.now c.loop-place.portal.story c.loop-place.invariant.at c.requires.within

pub replay-requires-clause-files : goal.replay-requires-clause-files
replay-requires-clause-files c = ap held_in c.loop-place.invariant.at.state ∙ sym c.loop-place.invariant.files_are

pub replay-requires-clause-covered : goal.replay-requires-clause-covered
replay-requires-clause-covered c =
    subst (λ (s : State). Cover c.loop-place.numbers s.handles) (sym c.loop-place.invariant.at.state)
    c.loop-place.invariant.covered

pub loop-place-preserved : goal.loop-place-preserved
loop-place-preserved c =
    let h = c.args.history.now.entries in
    let i = c.loop-place.place in
    let e = c.in-Some.entry.now in
    let there = c.in-Some.ensures in
    let o = c.args.opening.now in
    let at = c.loop-place.invariant.at in
    record {
      at = at-next h i e there o c.loop-place.portal.story at c.replay.new.portal.story c.in_ok-replay-in-Some.ensures.goes;
      covered =
          subst (λ (s : State). Cover c.replay.new.numbers s.handles)
          (ap (λ (s : State). after s e) at.state ∙ sym (run-next h i e there (opened o)))
          c.in_ok-replay-in-Some.ensures.covered;
      files_are =
          c.in_ok-replay-in-Some.ensures.files
          ∙ (ap (λ (s : State). held_in (after s e)) at.state ∙ ap held_in (sym (run-next h i e there (opened o))));
      items_are =
          c.in_ok-replay-in-Some.ensures.items
          ∙ (ap (λ (s : State). map item_told c.loop-place.told ++ items_of c.args.app.now s e) at.state
          ∙ (ap (λ (xs : List TraceItem). xs ++ items_of c.args.app.now (run (opened o) (take i h)) e) c.loop-place.invariant.items_are
          ∙ sym (items-next h i e there c.args.app.now (opened o))));
    }
