use Rattle.std.proofs.Common.{◌≡◌, ℕ, List, ◌+◌, ◌-◌, ◌++◌, ◌∙◌, ap, drop, take, length, length-append, append_assoc, sym, arith}
use Rattle.std.specs.Int.{w32}
use Rattle.std.proofs.lemmas.List.{drop_at, take_at}
use Rattle.dbus_types.specs.declared.types.Endian.TheVariants.{Little}
use Rattle.dbus_values.specs.Spells.{number}
use Rattle.dbus_marshal.proofs.TakenFronts.{four, number_len}
use Rattle.dbus_message.proofs.WriteMessage.{body_sealed}
use Rattle.bus_answers.specs.Begun.{extra_at, full_at, texts_at}
use Rattle.bus_answers.proofs.bodies.with_array.Goals as goal

abbrev numbered : ℕ → List ℕ
numbered n = number Little w32 n

-- Behind a front stands a number, texts behind it and the mount point behind these; and then the
-- number is written over by that of the texts' bytes.
module _ (front a b d e x : List ℕ) (ids : List (List ℕ)) (start len : ℕ) (p : a ≡ front ++ numbered 0) (q : b ≡ a ++ texts_at (length a) ids) (r : d ≡ b ++ extra_at (length b) x)
    (at : start ≡ length front) (count : len ≡ length b - length a) (put : e ≡ take start d ++ (numbered len ++ drop (start + 4) d)) where
  abbrev texts : List ℕ
  texts = texts_at (length front + 4) ids

  abbrev rest : List ℕ
  rest = texts ++ extra_at (length front + 4 + length texts) x

  size_a : length a ≡ length front + 4
  size_a = ap length p ∙ (length-append front (numbered 0) ∙ ap (λ (n : ℕ). length front + n) (number_len Little four 0))

  texts_there : b ≡ a ++ texts
  texts_there = q ∙ ap (λ (n : ℕ). a ++ texts_at n ids) size_a

  size_b : length b ≡ length front + 4 + length texts
  size_b = ap length texts_there ∙ (length-append a texts ∙ ap (λ (n : ℕ). n + length texts) size_a)

  all_there : d ≡ a ++ rest
  all_there = r ∙ ((λ i. texts_there i ++ extra_at (size_b i) x) ∙ append_assoc a texts (extra_at (length front + 4 + length texts) x))

  front_there : take start d ≡ front
  front_there =
      ap (take start) (all_there ∙ (ap (λ (w : List ℕ). w ++ rest) p ∙ append_assoc front (numbered 0) rest))
      ∙ take_at front (numbered 0 ++ rest) start (sym at)

  rest_there : drop (start + 4) d ≡ rest
  rest_there =
      let here : length a ≡ start + 4 = omega (arith, size_a, at) in
      ap (drop (start + 4)) all_there ∙ drop_at a rest (start + 4) here

  counted : len ≡ length texts
  counted = omega (arith, count, size_b, size_a)

  pub array_there : e ≡ front ++ full_at (length front) x ids
  array_there = put ∙ (λ i. front_there i ++ (numbered (counted i) ++ rest_there i))

pub overwrite_length-requires : goal.overwrite_length-requires
overwrite_length-requires c =
    let front = c.args.front.items in
    omega (
      arith,
      c.len_of-start.ensures,
      ap length c.from_vec-bytes.ensures,
      ap length c.in_ok-put_extra.ensures.items,
      length-append c.put_texts.new.out.items (extra_at (length c.put_texts.new.out.items) c.args.extra.now),
      ap length c.in_ok-put_texts.ensures.items,
      length-append c.put_number.new.out.items (texts_at (length c.put_number.new.out.items) c.args.ids.now),
      ap length c.in_ok-put_number.ensures.items,
      length-append front (numbered 0),
      number_len Little four 0,
    )

pub sealed-requires-clause-front : goal.sealed-requires-clause-front
sealed-requires-clause-front c = omega (arith, c.len_of-start.ensures, c.requires.long)

pub sealed-requires-clause-within : goal.sealed-requires-clause-within
sealed-requires-clause-within c =
    let front = c.args.front.items in
    let all = array_there front c.put_number.new.out.items c.put_texts.new.out.items c.from_vec-bytes.result c.overwrite_length.new.out c.args.extra.now c.args.ids.now c.len_of-start.result (c.len_of.result - c.len_of-begins.result)
    c.in_ok-put_number.ensures.items c.in_ok-put_texts.ensures.items (c.from_vec-bytes.ensures ∙ c.in_ok-put_extra.ensures.items) c.len_of-start.ensures (λ i. c.len_of.ensures i - c.len_of-begins.ensures i) c.overwrite_length.ensures in
    omega (arith, c.len_of-start.ensures, ap length all, length-append front (full_at (length front) c.args.extra.now c.args.ids.now))

pub returns-clause-bytes : goal.returns-clause-bytes
returns-clause-bytes c =
    let front = c.args.front.items in
    let all = array_there front c.put_number.new.out.items c.put_texts.new.out.items c.from_vec-bytes.result c.overwrite_length.new.out c.args.extra.now c.args.ids.now c.len_of-start.result (c.len_of.result - c.len_of-begins.result)
    c.in_ok-put_number.ensures.items c.in_ok-put_texts.ensures.items (c.from_vec-bytes.ensures ∙ c.in_ok-put_extra.ensures.items) c.len_of-start.ensures (λ i. c.len_of.ensures i - c.len_of-begins.ensures i) c.overwrite_length.ensures in
    body_sealed front (full_at (length front) c.args.extra.now c.args.ids.now) c.overwrite_length.new.out c.sealed.result c.len_of-start.result c.len_of-start.ensures c.requires.long all c.sealed.ensures
