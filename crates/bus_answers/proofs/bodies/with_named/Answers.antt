use Rattle.std.proofs.Common.{◌≡◌, ℕ, List, ◌+◌, ◌++◌, ◌∙◌, ap, length, length-append, append_assoc, arith}
use Rattle.dbus_message.proofs.WriteMessage.{body_sealed}
use Rattle.bus_answers.specs.Begun.{extra_at, named_at, texts_at}
use Rattle.bus_answers.proofs.bodies.with_named.Goals as goal

-- texts behind a front, and the mount point behind them
behind : (front texts e f x : List ℕ) → f ≡ front ++ texts → e ≡ f ++ extra_at (length f) x → e ≡ front ++ (texts ++ extra_at (length front + length texts) x)
behind front texts e f x p q =
    let size : length f ≡ length front + length texts = ap length p ∙ length-append front texts in
    q ∙ ((λ i. p i ++ extra_at (size i) x) ∙ append_assoc front texts (extra_at (length front + length texts) x))

pub sealed-requires-clause-front : goal.sealed-requires-clause-front
sealed-requires-clause-front c = omega (arith, c.len_of-start.ensures, c.requires.long)

pub sealed-requires-clause-within : goal.sealed-requires-clause-within
sealed-requires-clause-within c =
    let front = c.args.front.items in
    let all = behind front (texts_at (length front) c.args.ids.now) c.put_extra.new.out.items c.put_texts.new.out.items c.args.extra.now c.in_ok-put_texts.ensures.items c.in_ok-put_extra.ensures.items in
    omega (arith, c.len_of-start.ensures, ap length (c.from_vec.ensures ∙ all), length-append front (named_at (length front) c.args.extra.now c.args.ids.now))

pub returns-clause-bytes : goal.returns-clause-bytes
returns-clause-bytes c =
    let front = c.args.front.items in
    let all = behind front (texts_at (length front) c.args.ids.now) c.put_extra.new.out.items c.put_texts.new.out.items c.args.extra.now c.in_ok-put_texts.ensures.items c.in_ok-put_extra.ensures.items in
    body_sealed front (named_at (length front) c.args.extra.now c.args.ids.now) c.from_vec.result c.sealed.result c.len_of-start.result c.len_of-start.ensures c.requires.long (c.from_vec.ensures ∙ all) c.sealed.ensures
