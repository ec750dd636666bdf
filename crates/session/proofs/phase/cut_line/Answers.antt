use Rattle.std.proofs.Common.{◌≡◌, ℕ, ◌<◌, ◌≤◌, length, take, true, false, Some, None, refl, ap, ◌∙◌, arith}
use Rattle.std.proofs.lemmas.Bool.Decides.{nat_tests}
use Rattle.std.proofs.lemmas.List.{length-take, take-take}
use Rattle.std.specs.Prelude.{min, nat_lt}
use Rattle.session.specs.Cuts.{line_len}
use Rattle.session.proofs.FirstLine.{line_cut_found, too_few}
use Rattle.session.proofs.phase.cut_line.Goals as goal

under : (n : ℕ) → n < 1024 → true ≡ nat_lt n 1024
under n h = grind (arith, nat_tests)

over : (n : ℕ) → 1024 ≤ n → false ≡ nat_lt n 1024
over n h = grind (arith, nat_tests)

pub line_len-requires : goal.line_len-requires
line_len-requires c =
    let b = c.args.bytes.now in
    let few = too_few b c.args.seen c.requires.within c.requires.too_few in
    let within : c.args.seen ≤ c.min.result = omega (arith, few.0) in
    record {
      within = omega (arith, ap length c.front.ensures, length-take c.min.result b, within);
      none = ap line_len (ap (take c.args.seen) c.front.ensures ∙ take-take c.args.seen c.min.result b within) ∙ few.1;
    }

pub returns-in-Some : goal.returns-in-Some
returns-in-Some c =
    let e : c.min.result ≡ min 1024 (length c.args.bytes.now) = omega arith in
    line_cut_found c.args.bytes.now c.min.result (Some c.in-Some.len) (nat_lt (length c.args.bytes.now) 1024) e (c.in-Some.ensures ∙ ap line_len c.front.ensures) refl

pub returns-in-None : goal.returns-in-None
returns-in-None c =
    let e : c.min.result ≡ min 1024 (length c.args.bytes.now) = omega arith in
    line_cut_found c.args.bytes.now c.min.result None true e (c.in-None.ensures ∙ ap line_len c.front.ensures) (under (length c.args.bytes.now) c.if-bytes-lt-LONGEST_LINE.true)

pub returns-in-None-2 : goal.returns-in-None-2
returns-in-None-2 c =
    let e : c.min.result ≡ min 1024 (length c.args.bytes.now) = omega arith in
    line_cut_found c.args.bytes.now c.min.result None false e (c.in-None-2.ensures ∙ ap line_len c.front.ensures) (over (length c.args.bytes.now) c.if-bytes-lt-LONGEST_LINE.false)
