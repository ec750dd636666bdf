-- One level of reading.
use Rattle.std.proofs.Common.{◌≡◌, ℕ, zero, suc, ◌-◌, List, Err, refl, sym, ap, ◌∙◌, arith}
use Rattle.dbus_types.specs.declared.types.Endian.{Endian}
use Rattle.dbus_types.specs.declared.types.WireType.{WireType, out-WireType, roll-WireType, the_lemmas}
use Rattle.dbus_types.specs.declared.types.WireType.TheOpen.{WireType-F}
use Rattle.dbus_types.specs.declared.types.WireType.TheVariants as W
use Rattle.dbus_basic.specs.declared.error.ReadError.TheVariants.{TooDeep}
use Rattle.dbus_marshal.specs.Reads.{fixed, flat, layer, reads}

roll_out : (t : WireType) → roll-WireType (out-WireType t) ≡ t
roll_out t = search the_lemmas

rolls_byte : W.Byte ≡ roll-WireType WireType-F.Byte
rolls_byte = search the_lemmas

rolls_bool : W.Bool ≡ roll-WireType WireType-F.Bool
rolls_bool = search the_lemmas

rolls_str : W.Str ≡ roll-WireType WireType-F.Str
rolls_str = search the_lemmas

rolls_path : W.ObjectPath ≡ roll-WireType WireType-F.ObjectPath
rolls_path = search the_lemmas

rolls_signature : W.Signature ≡ roll-WireType WireType-F.Signature
rolls_signature = search the_lemmas

other_layer : (e : Endian) (f : WireType-F WireType) (at : ℕ) (bytes : List ℕ)
    → (roll-WireType f ≡ W.Byte → ⊥) → (roll-WireType f ≡ W.Bool → ⊥) → (roll-WireType f ≡ W.Str → ⊥) → (roll-WireType f ≡ W.ObjectPath → ⊥) → (roll-WireType f ≡ W.Signature → ⊥)
    → flat e f at bytes ≡ fixed e f at bytes
unfolding flat
other_layer e WireType-F.Byte at bytes a b c d g = absurd (a (sym rolls_byte))
other_layer e WireType-F.Bool at bytes a b c d g = absurd (b (sym rolls_bool))
other_layer e WireType-F.Str at bytes a b c d g = absurd (c (sym rolls_str))
other_layer e WireType-F.ObjectPath at bytes a b c d g = absurd (d (sym rolls_path))
other_layer e WireType-F.Signature at bytes a b c d g = absurd (g (sym rolls_signature))
other_layer e f at bytes a b c d g = refl

pub flat_fixed : (e : Endian) (t : WireType) (at : ℕ) (bytes : List ℕ) → (t ≡ W.Byte → ⊥) → (t ≡ W.Bool → ⊥) → (t ≡ W.Str → ⊥) → (t ≡ W.ObjectPath → ⊥) → (t ≡ W.Signature → ⊥)
    → flat e (out-WireType t) at bytes ≡ fixed e (out-WireType t) at bytes
flat_fixed e t at bytes a b c d g = other_layer e (out-WireType t) at bytes (λ h. a (sym (roll_out t) ∙ h)) (λ h. b (sym (roll_out t) ∙ h)) (λ h. c (sym (roll_out t) ∙ h)) (λ h. d (sym (roll_out t) ∙ h)) (λ h. g (sym (roll_out t) ∙ h))

pub reads_none : (n : ℕ) (e : Endian) (t : WireType) (at : ℕ) (bytes : List ℕ) → n ≡ 0 → reads n e t at bytes ≡ Err (TooDeep at)
unfolding reads
reads_none n e t at bytes is = rw is refl

pub reads_more : (n : ℕ) (e : Endian) (t : WireType) (at : ℕ) (bytes : List ℕ) → (n ≡ 0 → ⊥) → reads n e t at bytes ≡ layer (reads (n - 1) e) e (out-WireType t) at bytes
unfolding reads
reads_more zero e t at bytes h = absurd (h refl)
reads_more (suc n) e t at bytes h = let k : suc n - 1 ≡ n = omega arith in rw k refl

pub out_byte : out-WireType W.Byte ≡ WireType-F.Byte
out_byte = search the_lemmas

out_array : (t : WireType) → out-WireType (W.Array t) ≡ WireType-F.Array t
out_array t = search the_lemmas

pub out_struct : (ts : List WireType) → out-WireType (W.Struct ts) ≡ WireType-F.Struct ts
out_struct ts = search the_lemmas

out_entry : (t u : WireType) → out-WireType (W.DictEntry t u) ≡ WireType-F.DictEntry t u
out_entry t u = search the_lemmas

pub reads_array : (n : ℕ) (e : Endian) (k t : WireType) (at : ℕ) (bytes : List ℕ) → (n ≡ 0 → ⊥) → k ≡ W.Array t → reads n e k at bytes ≡ layer (reads (n - 1) e) e (WireType-F.Array t) at bytes
reads_array n e k t at bytes h is = reads_more n e k at bytes h ∙ ap (λ (x : WireType-F WireType). layer (reads (n - 1) e) e x at bytes) (ap out-WireType is ∙ out_array t)

pub reads_struct : (n : ℕ) (e : Endian) (k : WireType) (ts : List WireType) (at : ℕ) (bytes : List ℕ) → (n ≡ 0 → ⊥) → k ≡ W.Struct ts → reads n e k at bytes ≡ layer (reads (n - 1) e) e (WireType-F.Struct ts) at bytes
reads_struct n e k ts at bytes h is = reads_more n e k at bytes h ∙ ap (λ (x : WireType-F WireType). layer (reads (n - 1) e) e x at bytes) (ap out-WireType is ∙ out_struct ts)

pub reads_entry : (n : ℕ) (e : Endian) (k t u : WireType) (at : ℕ) (bytes : List ℕ) → (n ≡ 0 → ⊥) → k ≡ W.DictEntry t u → reads n e k at bytes ≡ layer (reads (n - 1) e) e (WireType-F.DictEntry t u) at bytes
reads_entry n e k t u at bytes h is = reads_more n e k at bytes h ∙ ap (λ (x : WireType-F WireType). layer (reads (n - 1) e) e x at bytes) (ap out-WireType is ∙ out_entry t u)
