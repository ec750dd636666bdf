use Rattle.std.proofs.Common.{◌≡◌, ◌<◌, ◌^◌, arith}
use Rattle.clap.specs.Matches.{found_of}
use Rattle.clap.specs.Walk.{rows_of}
use Rattle.serve_words.specs.Form.{value_in}
use Rattle.serve_words.proofs.Numbers.{same_number}
use Rattle.serve_words.proofs.words.number_of.Goals as goal
use Rattle.serve_words.proofs.words.number_of.Goals.{then-number-least-via-then-number-least, then-number-least-via-else-number-least+then-most-number}

pub returns-then-number-least : goal.returns-then-number-least
returns-then-number-least c = λ number given.
    let few : number < 2 ^ 64 = omega (arith, given.few, c.ranges.most.fits) in
    let read = c.in_ok-number.ensures in
    let same : c.in_ok-number.number ≡ number = same_number (value_in (rows_of (found_of c.args.matches.now)) c.args.name.now) c.in_ok-word.word.now c.in_ok-number.number number c.in_ok-word.ensures read.0 read.1 few given.digits in
    elim c.then-number-least.branch [
      | then-number-least-via-then-number-least w ↦ let below = w.if-number-least.true in omega (arith, same, given.some, below)
      | then-number-least-via-else-number-least+then-most-number w ↦ let above = w.if-most-number.true in omega (arith, same, given.few, above)
    ]
