-- What the fields of a written message say.
use Rattle.std.proofs.Common.{◌≡◌, ℕ, true, List, [], ◌∷◌, Some, None}
use Rattle.std.specs.Prelude.{IsTrue, map}
use Rattle.dbus_types.specs.declared.types.Value.{Value, out-Value, the_lemmas}
use Rattle.dbus_types.specs.declared.types.Value.TheOpen.{Value-F}
use Rattle.dbus_types.specs.declared.types.Value.TheVariants as V
use Rattle.dbus_types.specs.Types.{types_text}
use Rattle.dbus_types.specs.Names.{is_path, is_interface_name, is_member_name}
use Rattle.dbus_values.specs.Values.{type_of}
use Rattle.dbus_types.specs.declared.message.OutMessage.{OutMessage}
use Rattle.dbus_types.specs.declared.message.OutMessage.TheVariants.{Return, Error, Signal}
use Rattle.dbus_message.specs.Fields.{field_code, field_value, are_good, has_needed, text_of}
use Rattle.dbus_message.specs.Messages.{SaysFields}
use Rattle.dbus_message.specs.Written.{kind_out, body_out, return_fields, fields_out, stands_for}

-- names and paths are of their kinds
abbrev pub HasNames : OutMessage → Type 0
HasNames (Return to body) = Unit {0}
HasNames (Error to name) = IsTrue (is_interface_name name)
HasNames (Signal path interface member body) = IsTrue (is_path path) × IsTrue (is_interface_name interface) × IsTrue (is_member_name member)

pub out_struct : (vs : List Value) → out-Value (V.Struct vs) ≡ Value-F.Struct vs
out_struct vs = search the_lemmas

pub out_byte : (n : ℕ) → out-Value (V.Byte n) ≡ Value-F.Byte n
out_byte n = search the_lemmas

pub out_variant : (v : Value) → out-Value (V.Variant v) ≡ Value-F.Variant v
out_variant v = search the_lemmas

pub out_u32 : (n : ℕ) → out-Value (V.U32 n) ≡ Value-F.U32 n
out_u32 n = search the_lemmas

pub out_str : (text : List ℕ) → out-Value (V.Str text) ≡ Value-F.Str text
out_str text = search the_lemmas

pub out_path : (text : List ℕ) → out-Value (V.ObjectPath text) ≡ Value-F.ObjectPath text
out_path text = search the_lemmas

pub out_signature : (text : List ℕ) → out-Value (V.Signature text) ≡ Value-F.Signature text
out_signature text = search the_lemmas

pub code_in_field : (n : ℕ) (v : Value) → field_code (V.Struct (V.Byte n ∷ V.Variant v ∷ [])) ≡ n
code_in_field n v = simp (out_struct, out_byte)

pub value_in_field : (n : ℕ) (v : Value) → field_value (V.Struct (V.Byte n ∷ V.Variant v ∷ [])) ≡ Some v
value_in_field n v = simp (out_struct, out_variant)

pub return_good : (to : ℕ) (body : List Value) → are_good (return_fields to body) ≡ true
return_good to [] = simp (out_struct, out_byte, out_variant, out_u32)
return_good to (v ∷ vs) = simp (out_struct, out_byte, out_variant, out_u32, out_signature)

pub fields_good : (out : OutMessage) → HasNames out → are_good (fields_out out) ≡ true
fields_good (Return to body) h = return_good to body
fields_good (Error to name) h = simp (out_struct, out_byte, out_variant, out_u32, out_str, out_signature, h)
fields_good (Signal path interface member body) h = let i = h.1 in let m = h.2 in simp (out_struct, out_byte, out_variant, out_str, out_path, out_signature, i, m)

return_needed : (to : ℕ) (body : List Value) → has_needed 2 (return_fields to body) ≡ true
return_needed to [] = simp (out_struct, out_byte, out_variant)
return_needed to (v ∷ vs) = simp (out_struct, out_byte, out_variant)

pub fields_needed : (out : OutMessage) → has_needed (kind_out out) (fields_out out) ≡ true
fields_needed (Return to body) = return_needed to body
fields_needed (Error to name) = simp (out_struct, out_byte, out_variant)
fields_needed (Signal path interface member body) = simp (out_struct, out_byte, out_variant)

return_say : (to : ℕ) (body : List Value) (serial : ℕ) → SaysFields (return_fields to body) (stands_for (Return to body) serial)
return_say to [] serial = (simp (out_struct, out_byte, out_variant), simp (out_struct, out_byte, out_variant), simp (out_struct, out_byte, out_variant), simp (out_struct, out_byte, out_variant), simp (out_struct, out_byte, out_variant, out_u32), simp (out_struct, out_byte, out_variant))
return_say to (v ∷ vs) serial = (simp (out_struct, out_byte, out_variant), simp (out_struct, out_byte, out_variant), simp (out_struct, out_byte, out_variant), simp (out_struct, out_byte, out_variant), simp (out_struct, out_byte, out_variant, out_u32), simp (out_struct, out_byte, out_variant))

pub fields_say : (out : OutMessage) (serial : ℕ) → SaysFields (fields_out out) (stands_for out serial)
fields_say (Return to body) serial = return_say to body serial
fields_say (Error to name) serial = (simp (out_struct, out_byte, out_variant), simp (out_struct, out_byte, out_variant), simp (out_struct, out_byte, out_variant), simp (out_struct, out_byte, out_variant, out_str), simp (out_struct, out_byte, out_variant, out_u32), simp (out_struct, out_byte, out_variant))
fields_say (Signal path interface member body) serial = (simp (out_struct, out_byte, out_variant, out_path), simp (out_struct, out_byte, out_variant, out_str), simp (out_struct, out_byte, out_variant, out_str), simp (out_struct, out_byte, out_variant), simp (out_struct, out_byte, out_variant), simp (out_struct, out_byte, out_variant))

pub return_signature : (to : ℕ) (v : Value) (vs : List Value) → text_of 8 (return_fields to (v ∷ vs)) ≡ Some (types_text (map type_of (v ∷ vs)))
return_signature to v vs = simp (out_struct, out_byte, out_variant, out_signature)

pub no_signature : (to : ℕ) → text_of 8 (return_fields to []) ≡ None
no_signature to = simp (out_struct, out_byte, out_variant)

pub error_signature : (to : ℕ) (name : List ℕ) → text_of 8 (fields_out (Error to name)) ≡ Some (types_text (map type_of (body_out (Error to name))))
error_signature to name = simp (out_struct, out_byte, out_variant, out_signature)

pub signal_signature : (path interface member : List ℕ) (body : List Value) → text_of 8 (fields_out (Signal path interface member body)) ≡ Some (types_text (map type_of body))
signal_signature path interface member body = simp (out_struct, out_byte, out_variant, out_signature)
