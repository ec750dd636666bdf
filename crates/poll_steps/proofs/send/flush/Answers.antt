use Rattle.std.proofs.Common.{◌≡◌, ℕ, List, [], Option, length, drop, refl, sym, ap, ◌∙◌, subst, arith}
use Rattle.std.proofs.lemmas.Grind.{common_steps}
use Rattle.std.proofs.lemmas.List.{length-drop}
use Rattle.poll_ends.specs.Outside.{Counts, Faulted, Waited}
use Rattle.poll_steps.specs.Steps.{Sent}
use Rattle.poll_steps.proofs.Sending.{sent_more, sent_none}
use Rattle.poll_steps.proofs.send.flush.Goals as goal

pub bytes-init : goal.bytes-init
bytes-init g c = record { sent = sent_none c.args.unsent.now.items (g.K.PollSink.told c.args.sink.now); counts = refl; kept = λ fact h. h }

pub advance-requires : goal.advance-requires
advance-requires g c = let w = rw c.as_slice.ensures at c.in-Took.ensures.writes in w.1

pub bytes-smaller : goal.bytes-smaller
bytes-smaller g c =
    let w = rw c.as_slice.ensures at c.in-Took.ensures.writes in
    omega (arith, ap length c.advance.ensures.items, length-drop c.in-Took.len c.bytes.unsent.items, w.0, w.1)

pub bytes-preserved : goal.bytes-preserved
bytes-preserved g c =
    let told = g.K.PollSink.told in
    let w = rw c.as_slice.ensures at c.in-Took.ensures.writes in
    record {
      sent = subst (λ (z : List ℕ). Sent c.args.unsent.now.items (told c.args.sink.now) z (told c.poll_write.new.self)) (sym c.advance.ensures.items)
          (sent_more c.args.unsent.now.items (told c.args.sink.now) c.bytes.unsent.items (told c.bytes.sink) c.in-Took.len (told c.poll_write.new.self) c.bytes.invariant.sent w.2);
      counts = c.in-Took.ensures.counts ∙ c.bytes.invariant.counts;
      kept = λ fact h. c.in-Took.ensures.kept fact (c.bytes.invariant.kept fact h);
    }

pub returns-in-Failed-clause-flushes : goal.returns-in-Failed-clause-flushes
returns-in-Failed-clause-flushes g c =
    let told = g.K.PollSink.told in
    let counts = g.K.PollSink.counts in
    let w = rw c.as_slice.ensures at c.in-Failed.ensures.writes in (
      (drop w.0 c.bytes.unsent.items, sent_more c.args.unsent.now.items (told c.args.sink.now) c.bytes.unsent.items (told c.bytes.sink) w.0 (told c.poll_write.new.self) c.bytes.invariant.sent w.1),
      subst (λ (z : Counts). Faulted z (counts c.poll_write.new.self)) c.bytes.invariant.counts c.in-Failed.ensures.counts,
    )

pub returns-in-NotYet-clause-flushes : goal.returns-in-NotYet-clause-flushes
returns-in-NotYet-clause-flushes g c =
    let told = g.K.PollSink.told in
    let counts = g.K.PollSink.counts in (
      subst (λ (z : Option (List ℕ)). Sent c.args.unsent.now.items (told c.args.sink.now) c.bytes.unsent.items z) (sym c.in-NotYet.ensures.writes) c.bytes.invariant.sent,
      subst (λ (z : Counts). Waited z (counts c.poll_write.new.self)) c.bytes.invariant.counts c.in-NotYet.ensures.counts,
    )

pub returns-clause-flushes : goal.returns-clause-flushes
returns-clause-flushes g c = let none : c.bytes.unsent.items ≡ [] = grind (arith, common_steps) in (none, c.bytes.invariant.sent, c.bytes.invariant.counts)
