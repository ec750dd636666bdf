use Rattle.std.proofs.Common.{List, ap, arith, slice_get, ◌++◌, ◌∙◌}
use Rattle.std.proofs.lemmas.List.{take_all}
use Rattle.portal_model.specs.declared.reply.DirName.{DirName}
use Rattle.save_files.specs.Own.{own_on}
use Rattle.file_ops.specs.Temporaries.{entries_of}
use Rattle.file_ops.proofs.EntryOrder.{entries-next, entries_in}
use Rattle.file_ops.proofs.OwnSeats.{few-temps}
use Rattle.file_ops.proofs.temps_listed.entries_of.Goals as goal

pub loop-place-preserved : goal.loop-place-preserved
loop-place-preserved c = λ has e.
    c.in_ok-push_at.ensures has e
    ∙ (ap (λ (es : List DirName). es ++ entries_of c.args.view c.args.document (slice_get has.temps c.loop-place.place)) (c.loop-place.invariant has e)
    ∙ entries-next c.args.view c.args.document has.temps c.loop-place.place)

pub returns : goal.returns
returns c = λ has e.
    let few = few-temps (own_on c.args.temps.now.seats c.args.seat) has e c.get.ensures.known in
    c.loop-place.invariant has e ∙ ap (entries_in c.args.view c.args.document) (take_all c.loop-place.place has.temps (omega (arith, few)))
