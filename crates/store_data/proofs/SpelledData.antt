-- Data that a walk has passed is spelled, and data that breaks a rule is not.
use Rattle.std.proofs.Common.{◌≡◌, ℕ, ◌+◌, ◌-◌, ◌<◌, ◌≤◌, ◌^◌, min, nat_le, length, Bool, true, false, ◌&&◌, cond, Option, None, Some, refl, sym, ap, subst, ◌∙◌, arith}
use Rattle.std.specs.Prelude.{MatchOption, is_some, unwrap_or}
use Rattle.std.proofs.lemmas.Bool.Decides.{nat_tests}
use Rattle.dbus_types.specs.declared.types.Endian.TheVariants.{Little}
use Rattle.dbus_types.specs.declared.types.Value.{Value, the_lemmas}
use Rattle.dbus_types.specs.declared.types.Value.TheVariants as V
use Rattle.dbus_values.specs.Spells.{Spells}
use Rattle.dbus_values.specs.Spelling.{spelled_length, spelling}
use Rattle.dbus_types.specs.Types.{IsVariantType}
use Rattle.dbus_values.specs.Values.{KeepsRules, nesting, type_of}
use Rattle.dbus_marshal.proofs.SpelledKeepsRules.{spelled_keeps}
use Rattle.portal_model.specs.Data.{data_bytes, is_spelled, is_variant_type, judged}
use Rattle.portal_model.proofs.DataLaws.{at_most, kept-spells, no_more, variant_is}
use Rattle.portal_model.proofs.DocumentChanges.{both, first_of_both, second_of_both}
use Rattle.store_data.specs.declared.walk.Walk.{Walk}
use Rattle.store_data.specs.Walks.{Passes}
use Rattle.store_data.proofs.WalkedParts.{first_fails, second_fails, signature_bytes, variant-test}

nesting_variant : (x : Value) → nesting (V.Variant x) ≡ nesting x + 1
nesting_variant x = search the_lemmas

too_deep : (n : ℕ) → 64 ≤ n → nat_le (n + 1) 64 ≡ false
too_deep n h = grind (arith, nat_tests)

-- what is counted of a depth, up to the greatest number
pub deep-breaks : (x : Value) (n : ℕ) → n ≡ min (nesting x) 4_294_967_295 → 64 ≤ n → is_spelled x ≡ false
deep-breaks x n e h =
    let far : 64 ≤ nesting x = omega (arith, e) in
    second_fails ((judged (V.Variant x)).1 0) (nat_le (nesting (V.Variant x)) 64) (ap (λ (m : ℕ). nat_le m 64) (nesting_variant x) ∙ too_deep (nesting x) far)

judged-breaks : (x : Value) → (judged (V.Variant x)).1 0 ≡ false → is_spelled x ≡ false
judged-breaks x h = first_fails ((judged (V.Variant x)).1 0) (nat_le (nesting (V.Variant x)) 64) h

-- what is spelled keeps the rules of values
pub spelled-rules : (x : Value) → is_spelled x ≡ true → KeepsRules x
spelled-rules x h =
    let next : ℕ = 0 + signature_bytes x in
    let whole = (judged (V.Variant x)).1 0 in
    let deep = nat_le (nesting (V.Variant x)) 64 in
    let tested : (is_variant_type (type_of x) && (judged x).1 next) ≡ true = sym (variant-test 0 x) ∙ first_of_both whole deep h in
    let kind : IsVariantType (type_of x) = variant_is (type_of x) (first_of_both (is_variant_type (type_of x)) ((judged x).1 next) tested) in
    let most : nesting (V.Variant x) ≤ 64 = at_most (nesting (V.Variant x)) 64 (second_of_both whole deep h) in
    let less : nesting x ≤ 64 = omega (arith, most, nesting_variant x) in
    let spells : Spells Little next (type_of x) x (spelling Little next x) = kept-spells 64 next x less (second_of_both (is_variant_type (type_of x)) ((judged x).1 next) tested) in
    (spelled_keeps Little next (type_of x) x (spelling Little next x) spells kind.0).1

pub rules-break : (x : Value) → (KeepsRules x → ⊥) → is_spelled x ≡ false
rules-break x h = by_test (is_spelled x) refl
  where
    by_test : (b : Bool) → is_spelled x ≡ b → b ≡ false
    by_test true e = absurd (h (spelled-rules x e))
    by_test false e = refl

-- ---- what comes of the walk

abbrev pub Counted : Value → Option ℕ → Type 0
Counted x r = MatchOption r (is_spelled x ≡ false) (λ bytes. (is_spelled x ≡ true) × (bytes ≡ min (length (spelling Little 0 (V.Variant x))) (2 ^ 64 - 1)))

pub none-counted : (x : Value) (r : Option ℕ) → r ≡ None → is_spelled x ≡ false → Counted x r
none-counted x r e h = subst (Counted x) (sym e) h

pub walk-stops : (x : Value) (r : Option ℕ) → r ≡ None → (judged (V.Variant x)).1 0 ≡ false → Counted x r
walk-stops x r e h = none-counted x r e (judged-breaks x h)

pub walk-counts : (x : Value) (n : ℕ) (w : Walk) → n ≡ min (nesting x) 4_294_967_295 → n < 64 → Passes ((judged (V.Variant x)).1 0) (0 + spelled_length 0 (V.Variant x)) (0 + spelled_length 0 (V.Variant x)) (Some w) → Counted x (Some w.bytes)
walk-counts x n w e l h =
    let shallow : nesting (V.Variant x) ≤ 64 = omega (arith, e, nesting_variant x) in
    let counted = h.1.counted in
    (both ((judged (V.Variant x)).1 0) (nat_le (nesting (V.Variant x)) 64) h.0 (no_more (nesting (V.Variant x)) 64 shallow), omega (arith, counted))

-- ---- the two answers

pub counts : (x : Value) (r : Option ℕ) → Counted x r → unwrap_or r 0 ≡ min (data_bytes x) (2 ^ 64 - 1)
counts x None h = ap (λ (b : Bool). min (cond b (length (spelling Little 0 (V.Variant x))) 0) (2 ^ 64 - 1)) (sym h)
counts x (Some bytes) h = h.1 ∙ ap (λ (b : Bool). min (cond b (length (spelling Little 0 (V.Variant x))) 0) (2 ^ 64 - 1)) (sym h.0)

pub tests : (x : Value) (r : Option ℕ) → Counted x r → is_some r ≡ is_spelled x
tests x None h = sym h
tests x (Some bytes) h = sym h.0
