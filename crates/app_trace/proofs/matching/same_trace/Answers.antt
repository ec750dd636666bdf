use Rattle.std.proofs.Common.{◌≡◌, ap}
use Rattle.app_trace.specs.declared.matching.TraceMatch.TheVariants.{Opening, At}
use Rattle.app_trace.specs.Told.{item_told, trace_told, view_told}
use Rattle.app_trace.proofs.FirstDifferences.{differ-told}
use Rattle.app_trace.proofs.Matched.{matched-once}
use Rattle.app_trace.proofs.Told.{item-apart, view-apart}
use Rattle.app_trace.proofs.matching.same_trace.Goals as goal

pub returns-then-not-is_same-clause-matches : goal.returns-then-not-is_same-clause-matches
returns-then-not-is_same-clause-matches c = λ e. let same = view-apart c.args.first.now.opening c.args.second.now.opening e in
    let t = c.is_same.ensures.1 same in
    let f = c.if-not-is_same.true in
    cc

pub returns-then-not-is_same-clause-only : goal.returns-then-not-is_same-clause-only
returns-then-not-is_same-clause-only c = λ other m. matched-once (trace_told c.args.first.now) (trace_told c.args.second.now) other Opening m (returns-then-not-is_same-clause-matches c)

pub returns-in-Some-clause-matches : goal.returns-in-Some-clause-matches
returns-in-Some-clause-matches c =
    let opening : c.args.first.now.opening ≡ c.args.second.now.opening = c.is_same.ensures.0 c.if-not-is_same.false in
    (ap view_told opening, differ-told item_told item-apart c.args.first.now.items c.args.second.now.items c.in-Some.place (rw (← c.as_slice.ensures, ← c.as_slice-2.ensures) c.in-Some.ensures.differ))

pub returns-in-Some-clause-only : goal.returns-in-Some-clause-only
returns-in-Some-clause-only c = λ other m. matched-once (trace_told c.args.first.now) (trace_told c.args.second.now) other (At c.in-Some.place) m (returns-in-Some-clause-matches c)
