-- What the reading of a body comes to.
use Rattle.std.proofs.Common.{◌≡◌, ℕ, List, [], Some, None, Ok, Err, refl, subst, inl, inr}
use Rattle.dbus_types.specs.declared.types.Endian.{Endian}
use Rattle.dbus_types.specs.declared.types.WireType.{WireType}
use Rattle.dbus_types.specs.declared.types.Value.{Value}
use Rattle.dbus_message.specs.declared.content.Content.{Content}
use Rattle.dbus_message.specs.declared.error.MessageError.{MessageError}
use Rattle.dbus_message.specs.declared.error.MessageError.TheVariants.{Bad, Memory}
use Rattle.dbus_message.specs.Content.{IsBody}
use Rattle.dbus_message.specs.Answers.{IsReadTypes, IsReadBody, IsReadContent}

pub same_content : (c d : Content) → c.types ≡ d.types → c.values ≡ d.values → c ≡ d
same_content c d p q = λ i. record { types = p i; values = q i }

module _ (e : Endian) (text : List ℕ) (bytes : List ℕ) where
  pub types_bad : (r : MessageError) → IsReadTypes text (Err r) → IsReadContent e (Some text) bytes (Err r)
  types_bad (Bad rule) h = (λ y c. h.0 y.types c.0, inl (h.1, λ s. h.0 s.0 s.2))
  types_bad Memory h = tt

  pub body_bad : (types : List WireType) (r : MessageError) → IsReadTypes text (Ok types) → IsReadBody e bytes types (Err r) → IsReadContent e (Some text) bytes (Err r)
  body_bad types (Bad rule) t h = (λ y c. h.0 y.values (subst (λ (ts : List WireType). IsBody e ts y.values bytes) (t.1 y.types c.0) c.1), inl (h.1, λ s. h.0 s.1 (subst (λ (ts : List WireType). IsBody e ts s.1 bytes) (t.1 s.0 s.2) s.3)))
  body_bad types Memory t h = tt

  pub body_good : (types : List WireType) (values : List Value) → IsReadTypes text (Ok types) → IsReadBody e bytes types (Ok values) → IsReadContent e (Some text) bytes (Ok (record { types = types; values = values }))
  body_good types values t h = (
    (t.0, h.0),
    λ y c.
        let same = t.1 y.types c.0 in
        same_content y (record { types = types; values = values }) same (h.1 y.values (subst (λ (ts : List WireType). IsBody e ts y.values bytes) same c.1)),
  )

pub nothing_good : (e : Endian) (bytes : List ℕ) → bytes ≡ [] → IsReadContent e None bytes (Ok (record { types = []; values = [] }))
nothing_good e bytes is = ((refl, refl, is), λ y c. same_content y (record { types = []; values = [] }) c.0 c.1)

pub nothing_bad : (e : Endian) (bytes : List ℕ) → (bytes ≡ [] → ⊥) → IsReadContent e None bytes (Err (Bad 11))
nothing_bad e bytes full = (λ y c. full c.2, inr (tt, inl (refl, full)))
