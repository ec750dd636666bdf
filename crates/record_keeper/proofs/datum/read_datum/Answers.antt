use Rattle.std.proofs.Common.{◌≡◌, ◌∙◌, sym, ap, [], arith, true}
use Rattle.portal_model.specs.Changed.{holds_handle}
use Rattle.record_keeper.proofs.StoppedReader.{stopped, append_nil}
use Rattle.record_keeper.proofs.datum.read_datum.Goals as goal
use Rattle.record_keeper.proofs.datum.read_datum.Goals.{then-read-bytes-via-then-read-bytes, then-read-bytes-via-else-read-bytes+then-holds_handle}

pub returns-in_default : goal.returns-in_default
returns-in_default c = λ datum is.
    stopped c.in-Err.error _ c.in_default.not-Memory (c.in-Err.ensures.only datum c.args.bytes.now [] is.spelled (sym (append_nil c.args.bytes.now)))

pub returns-then-read-bytes : goal.returns-then-read-bytes
returns-then-read-bytes c = λ datum is.
    let read = c.in-Ok.ensures.only datum c.args.bytes.now [] is.spelled (sym (append_nil c.args.bytes.now)) in
    elim c.then-read-bytes.branch [
      | then-read-bytes-via-then-read-bytes w ↦ let other = w.if-read-bytes.true in let same = read.1 in absurd (omega arith)
      | then-read-bytes-via-else-read-bytes+then-holds_handle w ↦
          let holds : holds_handle datum ≡ true = ap holds_handle (sym read.0) ∙ sym w.holds_handle.ensures ∙ w.if-holds_handle.true in
          let none = is.no_handle in
          absurd (cc (holds, none))
    ]
