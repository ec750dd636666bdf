-- Where the pieces of a spelling end.
use Rattle.std.proofs.Common.{◌≡◌, ℕ, ◌+◌, ◌<◌, ◌≤◌, List, [], ◌∷◌, ◌++◌, length, Option, None, refl, sym, ap, subst, ◌∙◌, arith}
use Rattle.std.specs.Int.{w8, w16, w32, w64, to_le_bytes}
use Rattle.std.proofs.lemmas.List.{length-append}
use Rattle.dbus_types.specs.declared.types.Endian.TheVariants.{Little}
use Rattle.dbus_types.specs.declared.types.WireType.{WireType}
use Rattle.dbus_types.specs.declared.types.Value.{Value}
use Rattle.dbus_types.specs.declared.types.Value.TheVariants as V
use Rattle.dbus_types.specs.Types.{type_text}
use Rattle.dbus_values.specs.Values.{type_of}
use Rattle.dbus_values.specs.Spells.{number}
use Rattle.dbus_values.specs.Spelling.{Spelled, text_body, signature_body, variant_body, spelled, spelling, spelled_length}
use Rattle.dbus_values.proofs.OneSpelling.{roll_variant}
use Rattle.dbus_values.proofs.SpelledType.{spelled_kind}
use Rattle.portal_model.specs.Changed.{message_limit}
pub use Rattle.portal_model.proofs.SpelledEnds.{array-end, behind, entry-end, number_32, on, rows-end, struct-end, texts-end}
use Rattle.store_data.specs.Ends.{Ends, inside_at}

pub ends-at : (a b : ℕ) (r : Option ℕ) → a ≡ b → Ends a r → Ends b r
ends-at a b r e h = subst (λ (n : ℕ). Ends n r) e h

-- nothing comes of a whole with a part that is too long
pub past : (r : Option ℕ) (part whole : ℕ) → r ≡ None → message_limit < part → part ≤ whole → Ends whole r
past r part whole e h l = let far : message_limit < whole = omega arith in subst (λ (o : Option ℕ). Ends whole o) (sym e) far

-- ---- pieces

pub number_16 : (n : ℕ) → length (number Little w16 n) ≡ 2
number_16 n = refl

pub number_64 : (n : ℕ) → length (number Little w64 n) ≡ 8
number_64 n = refl

pub body_text : (text : List ℕ) → length (text_body Little text) ≡ 4 + length text + 1
body_text text =
    omega (arith, length-append (number Little w32 (length text)) (text ++ 0 ∷ []), length-append text (0 ∷ []), number_32 (length text))

pub body_signature : (text : List ℕ) → length (signature_body text) ≡ 1 + length text + 1
body_signature text = omega (arith, length-append (to_le_bytes w8 (length text)) (text ++ 0 ∷ []), length-append text (0 ∷ []))

-- ---- values

abbrev length_of : ℕ → Spelled → ℕ
length_of at s = length (s.1 at)

-- a value with no other inside
pub leaf : (at : ℕ) (v w : Value) (s : Spelled) (r : Option ℕ) → v ≡ w → spelled Little w ≡ s → Ends (at + length (s.1 at)) r → Ends (at + spelled_length at v) r
leaf at v w s r e roll h = ends-at (at + length (s.1 at)) (at + spelled_length at v) r (sym (ap (λ (x : Spelled). at + length_of at x) (ap (spelled Little) e ∙ roll))) h

pub variant-end : (at : ℕ) (x : Value) → inside_at (type_of x) at + spelled_length (inside_at (type_of x) at) x ≡ at + spelled_length at (V.Variant x)
variant-end at x =
    let text : List ℕ = type_text (spelled Little x).0 in
    let from : ℕ = at + (1 + length text + 1) in
    let same : from ≡ inside_at (type_of x) at = ap (λ (t : WireType). inside_at t at) (spelled_kind Little x) in
    let whole : at + spelled_length at (V.Variant x) ≡ at + length (variant_body text (spelled Little x).1 at) = ap (λ (s : Spelled). at + length_of at s) (roll_variant Little x) in
    let long : at + length (variant_body text (spelled Little x).1 at) ≡ from + spelled_length from x = omega (
      arith,
      length-append (to_le_bytes w8 (length text)) (text ++ 0 ∷ spelling Little from x),
      length-append text (0 ∷ spelling Little from x),
    ) in
    sym (whole ∙ (long ∙ ap (λ (n : ℕ). n + spelled_length n x) same))
