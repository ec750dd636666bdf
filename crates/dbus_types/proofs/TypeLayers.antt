-- The definitions at each outer layer of a type.
use Rattle.std.proofs.Common.{◌≡◌, ◌+◌, max, List, [], ◌∷◌, ◌++◌, map, refl}
use Rattle.dbus_types.specs.declared.types.WireType.{WireType, out-WireType, roll-WireType, the_lemmas}
use Rattle.dbus_types.specs.declared.types.WireType.TheOpen.{WireType-F}
use Rattle.dbus_types.specs.declared.types.WireType.TheVariants as W
use Rattle.dbus_types.specs.declared.roles.Role.TheVariants.{Basic}
use Rattle.dbus_types.specs.Types.{array_role, struct_role, entry_role, role, greatest, arrays_deep, brackets_deep, joined, type_text, types_text}

pub roll_out : (t : WireType) → roll-WireType (out-WireType t) ≡ t
roll_out t = search the_lemmas

pub rolls_array : (t : WireType) → W.Array t ≡ roll-WireType (WireType-F.Array t)
rolls_array t = search the_lemmas

pub rolls_struct : (ts : List WireType) → W.Struct ts ≡ roll-WireType (WireType-F.Struct ts)
rolls_struct ts = search the_lemmas

pub rolls_entry : (t u : WireType) → W.DictEntry t u ≡ roll-WireType (WireType-F.DictEntry t u)
rolls_entry t u = search the_lemmas

pub text_array : (t : WireType) → type_text (W.Array t) ≡ 97 ∷ type_text t
text_array t = search the_lemmas

pub joined_texts : (ts : List WireType) → joined (map type_text ts) ≡ types_text ts
joined_texts [] = refl
joined_texts (t ∷ ts) = rw (joined_texts ts) refl

text_struct' : (ts : List WireType) → type_text (W.Struct ts) ≡ 40 ∷ (joined (map type_text ts) ++ 41 ∷ [])
text_struct' ts = search the_lemmas

pub text_struct : (ts : List WireType) → type_text (W.Struct ts) ≡ 40 ∷ (types_text ts ++ 41 ∷ [])
text_struct ts = rw (text_struct' ts, joined_texts ts) refl

pub text_entry : (k v : WireType) → type_text (W.DictEntry k v) ≡ 123 ∷ (type_text k ++ (type_text v ++ 125 ∷ []))
text_entry k v = search the_lemmas

pub role_array : (t : WireType) → role (W.Array t) ≡ array_role (role t)
role_array t = search the_lemmas

pub role_struct : (ts : List WireType) → role (W.Struct ts) ≡ struct_role (map role ts)
role_struct ts = search the_lemmas

pub role_entry : (k v : WireType) → role (W.DictEntry k v) ≡ entry_role (role k) (role v)
role_entry k v = search the_lemmas

pub arrays_array : (t : WireType) → arrays_deep (W.Array t) ≡ arrays_deep t + 1
arrays_array t = search the_lemmas

pub arrays_struct : (ts : List WireType) → arrays_deep (W.Struct ts) ≡ greatest (map arrays_deep ts)
arrays_struct ts = search the_lemmas

pub arrays_entry : (k v : WireType) → arrays_deep (W.DictEntry k v) ≡ max (arrays_deep k) (arrays_deep v)
arrays_entry k v = search the_lemmas

pub brackets_array : (t : WireType) → brackets_deep (W.Array t) ≡ brackets_deep t
brackets_array t = search the_lemmas

pub brackets_struct : (ts : List WireType) → brackets_deep (W.Struct ts) ≡ greatest (map brackets_deep ts) + 1
brackets_struct ts = search the_lemmas

pub brackets_entry : (k v : WireType) → brackets_deep (W.DictEntry k v) ≡ max (brackets_deep k) (brackets_deep v) + 1
brackets_entry k v = search the_lemmas

pub text_byte : type_text W.Byte ≡ 121 ∷ []
text_byte = search the_lemmas

pub role_byte : role W.Byte ≡ Basic
role_byte = search the_lemmas
