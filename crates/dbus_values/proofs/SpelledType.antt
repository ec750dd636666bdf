-- A value is spelled as one of its type.
use Rattle.std.proofs.Common.{◌≡◌, List, [], ◌∷◌, map, refl, sym, ap, subst, ◌∙◌}
use Rattle.dbus_types.specs.declared.types.Endian.{Endian}
use Rattle.dbus_types.specs.declared.types.WireType.{WireType}
use Rattle.dbus_types.specs.declared.types.WireType.TheVariants as W
use Rattle.dbus_types.specs.declared.types.Value.{Value}
use Rattle.dbus_types.specs.declared.types.Value.TheOpen.{Value-F}
use Rattle.dbus_types.specs.declared.types.Value.TheFolds.{ind-Value, map-Value, fold-roll-Value}
use Rattle.dbus_values.specs.Values.{type_step, type_of}
use Rattle.dbus_values.specs.Spelling.{Spelled, spell_step, spelled}

module _ (e : Endian) where
  abbrev Agrees : Value → Type 0
  Agrees v = (spelled e v).0 ≡ type_of v

  abbrev Such : Type 0
  Such = (v : Value) × Agrees v

  all_agree : (xs : List Such) → map (λ (s : Spelled). s.0) (map (spelled e) (map (λ x. x.0) xs)) ≡ map type_of (map (λ x. x.0) xs)
  all_agree [] = refl
  all_agree (x ∷ xs) = rw (x.1, all_agree xs) refl

  -- a value whose parts agree agrees
  layer : (y : Value-F Such) → (spell_step e (map-Value Value Spelled (spelled e) (map-Value Such Value (λ x. x.0) y))).0 ≡ type_step (map-Value Value WireType type_of (map-Value Such Value (λ x. x.0) y))
  layer (Value-F.Struct xs) = ap W.Struct (all_agree xs)
  layer (Value-F.DictEntry k x) = rw (k.1, x.1) refl
  layer y = refl

  pub spelled_kind : (v : Value) → (spelled e v).0 ≡ type_of v
  spelled_kind = ind-Value Agrees (λ x y is.
      ap (λ (s : Spelled). s.0) (fold-roll-Value Spelled (spell_step e) x)
      ∙ (subst (λ (z : Value-F Value). (spell_step e (map-Value Value Spelled (spelled e) z)).0 ≡ type_step (map-Value Value WireType type_of z)) is (layer y)
      ∙ sym (fold-roll-Value WireType type_step x)))
