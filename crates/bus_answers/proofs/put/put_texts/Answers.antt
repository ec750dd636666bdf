use Rattle.std.proofs.Common.{◌≡◌, ℕ, ◌+◌, ◌≤◌, List, ◌∷◌, ◌++◌, drop, length, subst, sym, ap, ◌∙◌, append-nil, arith, false, true}
use Rattle.std.proofs.lemmas.List.{drop_all}
use Rattle.bus_answers.specs.Begun.{texts_at}
use Rattle.bus_answers.specs.Rooms.{HasRoom}
use Rattle.bus_answers.proofs.Texts.{left_is, short_at, texts_more}
use Rattle.bus_answers.proofs.put.put_texts.Goals as goal

pub loop-text-preserved : goal.loop-text-preserved
loop-text-preserved c =
    let texts = c.args.texts.now in
    let i = c.loop-text.text-index in
    let t = c.text-item.result in
    let left : drop i texts ≡ t ∷ drop (i + 1) texts = left_is texts i t (omega arith) c.text-item.is in
    let short : length t ≤ 8 = subst (λ (w : List ℕ). length w ≤ 8) (sym c.text-item.is) (short_at texts i t c.requires (omega arith)) in
    record {
      items = texts_more texts i t c.as_bytes.result.now c.loop-text.out.items c.put_text.new.out.items (c.args.out.now.items ++ texts_at (length c.args.out.now.items) texts) (omega arith) c.text-item.is c.as_bytes.ensures c.in_ok-put_text.ensures.items c.loop-text.invariant.items;
      takes = omega (arith, short, ap length left, ap length c.as_bytes.ensures, c.in_ok-put_text.ensures.takes, c.loop-text.invariant.takes);
    }

pub returns-in_err-put_text-clause-takes : goal.returns-in_err-put_text-clause-takes
returns-in_err-put_text-clause-takes c =
    let texts = c.args.texts.now in
    let i = c.loop-text.text-index in
    let t = c.text-item.result in
    let left : drop i texts ≡ t ∷ drop (i + 1) texts = left_is texts i t (omega arith) c.text-item.is in
    let short : length t ≤ 8 = subst (λ (w : List ℕ). length w ≤ 8) (sym c.text-item.is) (short_at texts i t c.requires (omega arith)) in
    omega (arith, short, ap length left, ap length c.as_bytes.ensures, c.in_err-put_text.ensures.takes, c.loop-text.invariant.takes)

-- where all have room the first of those to come has
pub returns-in_err-put_text-clause-room : goal.returns-in_err-put_text-clause-room
returns-in_err-put_text-clause-room c h =
    let texts = c.args.texts.now in
    let i = c.loop-text.text-index in
    let t = c.text-item.result in
    let left : drop i texts ≡ t ∷ drop (i + 1) texts = left_is texts i t (omega arith) c.text-item.is in
    let short : length t ≤ 8 = subst (λ (w : List ℕ). length w ≤ 8) (sym c.text-item.is) (short_at texts i t c.requires (omega arith)) in
    let first : HasRoom c.loop-text.out (length c.as_bytes.result.now + 12) = omega (arith, h, short, ap length left, ap length c.as_bytes.ensures, c.loop-text.invariant.takes) in
    let no : false ≡ true = c.in_err-put_text.ensures.room first in
    absurd (cc)

-- behind the last nothing is to come
pub returns-clause-items : goal.returns-clause-items
returns-clause-items c =
    let none = drop_all c.loop-text.text-index c.args.texts.now (omega arith) in
    sym (append-nil c.loop-text.out.items)
    ∙ (ap (λ (l : List (List ℕ)). c.loop-text.out.items ++ texts_at (length c.loop-text.out.items) l) (sym none) ∙ c.loop-text.invariant.items)
