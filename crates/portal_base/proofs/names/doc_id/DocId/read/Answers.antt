use Rattle.std.proofs.Common.{◌≡◌, ℕ, ◌+◌, ◌*◌, List, length, get_or, Bool, true, false, cond, Some, None, refl, ap, ◌∙◌, arith}
use Rattle.std.specs.Char.{digit_value}
use Rattle.portal_base.specs.Names.{is_lower_hex}
use Rattle.portal_base.proofs.DocIdDigits.{below_eight, below_more, number_more, lower_more, other_length, other_digit, all_read, no_number}
use Rattle.portal_base.proofs.names.doc_id.DocId.read.Goals as goal

pub returns-then-text-ne8 : goal.returns-then-text-ne8
returns-then-text-ne8 c = other_length c.args.text.now c.if-text-ne8.true

-- what a digit that is read tells
none_tells : (x : Bool) (v : ℕ) → None ≡ cond x (Some v) None → x ≡ false
none_tells true v e = absurd (cc)
none_tells false v e = refl

some_tells : (x : Bool) (v d : ℕ) → Some d ≡ cond x (Some v) None → (x ≡ true) × (d ≡ v)
some_tells true v d e = (refl, cc)
some_tells false v d e = absurd (cc)

pub loop-byte-init : goal.loop-byte-init
loop-byte-init c = record { number = no_number; lower = refl; small = omega arith }

pub returns-in_err-digit : goal.returns-in_err-digit
returns-in_err-digit c =
    let e = none_tells (is_lower_hex (get_or c.args.text.now c.loop-byte.byte-index 0)) (digit_value (get_or c.args.text.now c.loop-byte.byte-index 0)) c.in_err-digit.ensures.digit in
    c.from_residual.ensures ∙ other_digit c.args.text.now c.loop-byte.byte-index c.loop-byte-test.true e

pub overflow_mul-number : goal.overflow_mul-number
overflow_mul-number c =
    let l = c.loop-byte in
    let e : length c.args.text.now ≡ 8 = omega arith in
    let h = below_eight l.byte-index l.number (omega arith) l.invariant.small in
    omega arith

pub overflow_add-number : goal.overflow_add-number
overflow_add-number c =
    let l = c.loop-byte in
    let e : length c.args.text.now ≡ 8 = omega arith in
    let h = below_eight l.byte-index l.number (omega arith) l.invariant.small in
    let d = c.in_ok-digit.ensures.small in
    let f = c.from.ensures in
    omega arith

pub loop-byte-preserved : goal.loop-byte-preserved
loop-byte-preserved c =
    let l = c.loop-byte in
    let t : List ℕ = c.args.text.now in
    let d = some_tells (is_lower_hex (get_or t l.byte-index 0)) (digit_value (get_or t l.byte-index 0)) c.in_ok-digit.digit c.in_ok-digit.ensures.digit in
    let small = c.in_ok-digit.ensures.small in
    let f : c.from.result ≡ c.in_ok-digit.digit = c.from.ensures in
    record {
      number = ap (λ (x : ℕ). l.number * 16 + x) (f ∙ d.1) ∙ number_more t l.byte-index l.number c.loop-byte-test.true l.invariant.number;
      lower = lower_more t l.byte-index c.loop-byte-test.true l.invariant.lower d.0;
      small = below_more l.byte-index l.number c.from.result l.invariant.small (omega arith);
    }

pub returns : goal.returns
returns c =
    let l = c.loop-byte in
    all_read c.args.text.now l.byte-index l.number (omega arith) c.loop-byte-test.false l.invariant.lower l.invariant.number
