-- The types that are one code, and the four shapes of a type.
use Rattle.std.proofs.Common.{◌≡◌, ℕ, Bool, true, false, cond, List, [], ◌∷◌, Result, Ok, Err, refl, sym, subst, ◌⊎◌, inl, inr}
use Rattle.std.specs.Prelude.{◌==◌}
use Rattle.std.proofs.lemmas.Bool.{eqb-true}
use Rattle.dbus_types.specs.declared.types.WireType.{WireType, out-WireType, roll-WireType, the_lemmas}
use Rattle.dbus_types.specs.declared.types.WireType.TheOpen.{WireType-F}
use Rattle.dbus_types.specs.declared.types.WireType.TheVariants as W
use Rattle.dbus_types.specs.declared.roles.Role.{Role}
use Rattle.dbus_types.specs.declared.roles.Role.TheVariants.{Basic, Single}
use Rattle.dbus_types.specs.declared.errors.SignatureError.{SignatureError}
use Rattle.dbus_types.specs.declared.errors.SignatureError.TheVariants.{BadSignature}
use Rattle.dbus_types.specs.Types.{role, arrays_deep, brackets_deep, type_text}
use Rattle.dbus_types.specs.Reading.{coded}
use Rattle.dbus_types.proofs.TypeLayers.{roll_out, rolls_array, rolls_struct, rolls_entry}

abbrev pub code_role : ℕ → Role
code_role c = cond (c == 118) Single Basic

-- the type is this one code
pub record Code (t : WireType) (c : ℕ) : Type 0 where
  pub text : type_text t ≡ c ∷ []
  pub stands : role t ≡ code_role c
  pub arrays : arrays_deep t ≡ 0
  pub brackets : brackets_deep t ≡ 0
  pub read : (at : ℕ) → coded at c ≡ Ok t
  pub no_array : (c == 97) ≡ false
  pub no_struct : (c == 40) ≡ false
  pub no_close : (c == 41) ≡ false
  pub no_entry : (c == 123) ≡ false

pub code_Byte : Code W.Byte 121
code_Byte = record { text = search the_lemmas; stands = search the_lemmas; arrays = search the_lemmas; brackets = search the_lemmas; read = λ at. refl; no_array = refl; no_struct = refl; no_close = refl; no_entry = refl }

code_Bool : Code W.Bool 98
code_Bool = record { text = search the_lemmas; stands = search the_lemmas; arrays = search the_lemmas; brackets = search the_lemmas; read = λ at. refl; no_array = refl; no_struct = refl; no_close = refl; no_entry = refl }

code_I16 : Code W.I16 110
code_I16 = record { text = search the_lemmas; stands = search the_lemmas; arrays = search the_lemmas; brackets = search the_lemmas; read = λ at. refl; no_array = refl; no_struct = refl; no_close = refl; no_entry = refl }

code_U16 : Code W.U16 113
code_U16 = record { text = search the_lemmas; stands = search the_lemmas; arrays = search the_lemmas; brackets = search the_lemmas; read = λ at. refl; no_array = refl; no_struct = refl; no_close = refl; no_entry = refl }

code_I32 : Code W.I32 105
code_I32 = record { text = search the_lemmas; stands = search the_lemmas; arrays = search the_lemmas; brackets = search the_lemmas; read = λ at. refl; no_array = refl; no_struct = refl; no_close = refl; no_entry = refl }

code_U32 : Code W.U32 117
code_U32 = record { text = search the_lemmas; stands = search the_lemmas; arrays = search the_lemmas; brackets = search the_lemmas; read = λ at. refl; no_array = refl; no_struct = refl; no_close = refl; no_entry = refl }

code_I64 : Code W.I64 120
code_I64 = record { text = search the_lemmas; stands = search the_lemmas; arrays = search the_lemmas; brackets = search the_lemmas; read = λ at. refl; no_array = refl; no_struct = refl; no_close = refl; no_entry = refl }

code_U64 : Code W.U64 116
code_U64 = record { text = search the_lemmas; stands = search the_lemmas; arrays = search the_lemmas; brackets = search the_lemmas; read = λ at. refl; no_array = refl; no_struct = refl; no_close = refl; no_entry = refl }

code_Double : Code W.Double 100
code_Double = record { text = search the_lemmas; stands = search the_lemmas; arrays = search the_lemmas; brackets = search the_lemmas; read = λ at. refl; no_array = refl; no_struct = refl; no_close = refl; no_entry = refl }

code_Str : Code W.Str 115
code_Str = record { text = search the_lemmas; stands = search the_lemmas; arrays = search the_lemmas; brackets = search the_lemmas; read = λ at. refl; no_array = refl; no_struct = refl; no_close = refl; no_entry = refl }

code_ObjectPath : Code W.ObjectPath 111
code_ObjectPath = record { text = search the_lemmas; stands = search the_lemmas; arrays = search the_lemmas; brackets = search the_lemmas; read = λ at. refl; no_array = refl; no_struct = refl; no_close = refl; no_entry = refl }

code_Signature : Code W.Signature 103
code_Signature = record { text = search the_lemmas; stands = search the_lemmas; arrays = search the_lemmas; brackets = search the_lemmas; read = λ at. refl; no_array = refl; no_struct = refl; no_close = refl; no_entry = refl }

code_Handle : Code W.Handle 104
code_Handle = record { text = search the_lemmas; stands = search the_lemmas; arrays = search the_lemmas; brackets = search the_lemmas; read = λ at. refl; no_array = refl; no_struct = refl; no_close = refl; no_entry = refl }

code_Variant : Code W.Variant 118
code_Variant = record { text = search the_lemmas; stands = search the_lemmas; arrays = search the_lemmas; brackets = search the_lemmas; read = λ at. refl; no_array = refl; no_struct = refl; no_close = refl; no_entry = refl }

-- a code that is read is that of the type
abbrev pub CodedOut : ℕ → ℕ → Result WireType SignatureError → Type 0
CodedOut at c (Ok t) = Code t c
CodedOut at c (Err e) = e ≡ BadSignature at

pub coded_is : (at c : ℕ) → CodedOut at c (coded at c)
coded_is at c =
    e 121 W.Byte _ code_Byte (e 98 W.Bool _ code_Bool (e 110 W.I16 _ code_I16 (e 113 W.U16 _ code_U16 (e 105 W.I32 _ code_I32 (e 117 W.U32 _ code_U32 (e 120 W.I64 _ code_I64 (e 116 W.U64 _ code_U64 (e 100 W.Double _ code_Double (e 115 W.Str _ code_Str (e 111 W.ObjectPath _ code_ObjectPath (e 103 W.Signature _ code_Signature (e 104 W.Handle _ code_Handle (e 118 W.Variant _ code_Variant (refl))))))))))))))
  where
    e : (d : ℕ) (u : WireType) (other : Result WireType SignatureError) → Code u d → CodedOut at c other → CodedOut at c (cond (c == d) (Ok u) other)
    e d u other j k = either (c == d) refl
      where
        either : (b : Bool) → (c == d) ≡ b → CodedOut at c (cond b (Ok u) other)
        either true y = subst (Code u) (sym (eqb-true c d y)) j
        either false n = k

-- a code, an array, a struct, or a dict entry
abbrev pub Shape : WireType → Type 0
Shape t = ((c : ℕ) × Code t c) ⊎ (((u : WireType) × (t ≡ W.Array u)) ⊎ (((us : List WireType) × (t ≡ W.Struct us)) ⊎ ((k v : WireType) × (t ≡ W.DictEntry k v))))

rolled : (f : WireType-F WireType) → Shape (roll-WireType f)
rolled WireType-F.Byte = let e : W.Byte ≡ roll-WireType WireType-F.Byte = search the_lemmas in subst Shape e (inl (121, code_Byte))
rolled WireType-F.Bool = let e : W.Bool ≡ roll-WireType WireType-F.Bool = search the_lemmas in subst Shape e (inl (98, code_Bool))
rolled WireType-F.I16 = let e : W.I16 ≡ roll-WireType WireType-F.I16 = search the_lemmas in subst Shape e (inl (110, code_I16))
rolled WireType-F.U16 = let e : W.U16 ≡ roll-WireType WireType-F.U16 = search the_lemmas in subst Shape e (inl (113, code_U16))
rolled WireType-F.I32 = let e : W.I32 ≡ roll-WireType WireType-F.I32 = search the_lemmas in subst Shape e (inl (105, code_I32))
rolled WireType-F.U32 = let e : W.U32 ≡ roll-WireType WireType-F.U32 = search the_lemmas in subst Shape e (inl (117, code_U32))
rolled WireType-F.I64 = let e : W.I64 ≡ roll-WireType WireType-F.I64 = search the_lemmas in subst Shape e (inl (120, code_I64))
rolled WireType-F.U64 = let e : W.U64 ≡ roll-WireType WireType-F.U64 = search the_lemmas in subst Shape e (inl (116, code_U64))
rolled WireType-F.Double = let e : W.Double ≡ roll-WireType WireType-F.Double = search the_lemmas in subst Shape e (inl (100, code_Double))
rolled WireType-F.Str = let e : W.Str ≡ roll-WireType WireType-F.Str = search the_lemmas in subst Shape e (inl (115, code_Str))
rolled WireType-F.ObjectPath = let e : W.ObjectPath ≡ roll-WireType WireType-F.ObjectPath = search the_lemmas in subst Shape e (inl (111, code_ObjectPath))
rolled WireType-F.Signature = let e : W.Signature ≡ roll-WireType WireType-F.Signature = search the_lemmas in subst Shape e (inl (103, code_Signature))
rolled WireType-F.Handle = let e : W.Handle ≡ roll-WireType WireType-F.Handle = search the_lemmas in subst Shape e (inl (104, code_Handle))
rolled WireType-F.Variant = let e : W.Variant ≡ roll-WireType WireType-F.Variant = search the_lemmas in subst Shape e (inl (118, code_Variant))
rolled (WireType-F.Array u) = inr (inl (u, sym (rolls_array u)))
rolled (WireType-F.Struct us) = inr (inr (inl (us, sym (rolls_struct us))))
rolled (WireType-F.DictEntry k v) = inr (inr (inr (k, v, sym (rolls_entry k v))))

pub shape : (t : WireType) → Shape t
shape t = subst Shape (roll_out t) (rolled (out-WireType t))
