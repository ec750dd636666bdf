-- Lists that begin with others.
use Rattle.std.proofs.Common.{◌≡◌, ℕ, ◌≤◌, List, [], ◌∷◌, ◌++◌, length, map, take, drop, Result, Ok, Err, append_assoc, refl, sym, ap, ◌∙◌, arith}
use Rattle.std.proofs.lemmas.List.{take_at, length-take, take_all, take-append-drop, take-append-le}
use Rattle.std.specs.Prelude.{OnOk}
use Rattle.dbus_types.specs.declared.types.WireType.{WireType}
use Rattle.dbus_types.specs.declared.types.WireType.TheVariants as W
use Rattle.dbus_types.specs.declared.types.Value.{Value, the_lemmas}
use Rattle.dbus_types.specs.declared.types.Value.TheVariants as V
use Rattle.dbus_types.specs.Types.{type_text, types_text}
use Rattle.dbus_values.specs.Values.{type_of}
use Rattle.dbus_values.specs.Extends.{Extends}
use Rattle.dbus_types.proofs.TypeLayers.{text_struct, text_entry}

pub extends_refl : (a b : List ℕ) → b ≡ a → Extends a b
extends_refl a b e = rw e (take_all (length a) a (omega arith))

pub extends_append : (a b c : List ℕ) → b ≡ a ++ c → Extends a b
extends_append a b c e = rw e (take_at a c (length a) refl)

pub extends_trans : (a b c : List ℕ) → Extends a b → Extends b c → Extends a c
extends_trans a b c p q =
    let whole : c ≡ b ++ drop (length b) c = sym (take-append-drop (length b) c) ∙ ap (λ (w : List ℕ). w ++ drop (length b) c) q in
    let le : length a ≤ length b = omega (arith, ap length p, length-take (length a) b) in
    ap (take (length a)) whole ∙ (take-append-le (length a) b (drop (length b) c) le ∙ p)

-- ---- the text of a type behind a list, in the pieces that are put

pub on_ok : {A E : Type 0} (r : Result A E) (P Q : Type 0) → (P → Q) → OnOk r P → OnOk r Q
on_ok (Ok x) P Q f h = f h
on_ok (Err e) P Q f h = tt

pub struct_put : (ts us : List WireType) (old a b new : List ℕ) → us ≡ ts → a ≡ old ++ 40 ∷ [] → b ≡ a ++ types_text us → new ≡ b ++ 41 ∷ [] → new ≡ old ++ type_text (W.Struct ts)
struct_put ts us old a b new s p q r =
    r ∙ ap (λ (w : List ℕ). w ++ 41 ∷ []) (q ∙ ap (λ (w : List ℕ). w ++ types_text us) p)
    ∙ append_assoc (old ++ 40 ∷ []) (types_text us) (41 ∷ [])
    ∙ append_assoc old (40 ∷ []) (types_text us ++ 41 ∷ [])
    ∙ ap (λ (vs : List WireType). old ++ 40 ∷ (types_text vs ++ 41 ∷ [])) s
    ∙ ap (λ (w : List ℕ). old ++ w) (sym (text_struct ts))

pub entry_put : (k v x y : WireType) (old a b c new : List ℕ) → x ≡ k → y ≡ v → a ≡ old ++ 123 ∷ [] → b ≡ a ++ type_text x → c ≡ b ++ type_text y → new ≡ c ++ 125 ∷ [] → new ≡ old ++ type_text (W.DictEntry k v)
entry_put k v x y old a b c new e f p q r s =
    s ∙ ap (λ (w : List ℕ). w ++ 125 ∷ []) (r ∙ ap (λ (w : List ℕ). w ++ type_text y) (q ∙ ap (λ (w : List ℕ). w ++ type_text x) p))
    ∙ append_assoc ((old ++ 123 ∷ []) ++ type_text x) (type_text y) (125 ∷ [])
    ∙ append_assoc (old ++ 123 ∷ []) (type_text x) (type_text y ++ 125 ∷ [])
    ∙ append_assoc old (123 ∷ []) (type_text x ++ (type_text y ++ 125 ∷ []))
    ∙ ap (λ (u : WireType). old ++ 123 ∷ (type_text u ++ (type_text y ++ 125 ∷ []))) e
    ∙ ap (λ (u : WireType). old ++ 123 ∷ (type_text k ++ (type_text u ++ 125 ∷ []))) f
    ∙ ap (λ (w : List ℕ). old ++ w) (sym (text_entry k v))

pub type_struct : (vs : List Value) → type_of (V.Struct vs) ≡ W.Struct (map type_of vs)
type_struct vs = search the_lemmas

pub type_entry : (k v : Value) → type_of (V.DictEntry k v) ≡ W.DictEntry (type_of k) (type_of v)
type_entry k v = search the_lemmas
