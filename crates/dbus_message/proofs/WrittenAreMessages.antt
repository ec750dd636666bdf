-- What was written is a message.
use Rattle.std.proofs.Common.{◌≡◌, ℕ, ◌+◌, ◌^◌, ◌<◌, ◌≤◌, List, [], ◌∷◌, ◌++◌, length, map, take, drop, replicate, Option, Some, Result, Ok, Err, IfOk, refl, sym, ap, subst, ◌∙◌, inl, arith}
use Rattle.std.specs.Prelude.{◌==◌}
use Rattle.std.specs.Int.{w32}
use Rattle.std.specs.List.{list_all}
use Rattle.std.proofs.lemmas.List.{length-append}
use Rattle.dbus_types.specs.declared.types.Endian.TheVariants.{Little}
use Rattle.dbus_types.specs.declared.types.WireType.{WireType, out-WireType, the_lemmas as type_lemmas}
use Rattle.dbus_types.specs.declared.types.WireType.TheOpen.{WireType-F}
use Rattle.dbus_types.specs.declared.types.WireType.TheVariants as W
use Rattle.dbus_types.specs.declared.types.Value.{Value}
use Rattle.dbus_types.specs.declared.types.Value.TheVariants as V
use Rattle.dbus_types.specs.Types.{alignment, types_text, IsSignature}
use Rattle.dbus_values.specs.Values.{type_of}
use Rattle.dbus_values.specs.Spells.{Spells, Row, SpellsWithin, number, gap}
use Rattle.dbus_marshal.proofs.TakenFronts.{four, number_len}
use Rattle.dbus_types.specs.declared.message.OutMessage.{OutMessage}
use Rattle.dbus_types.specs.declared.message.OutMessage.TheVariants.{Return, Error, Signal}
use Rattle.dbus_message.specs.Header.{number_at, fields_end, body_start, stated_len, field_bytes, padding_bytes, body_bytes}
use Rattle.dbus_message.specs.Fields.{field_type, text_of}
use Rattle.dbus_message.specs.Content.{IsBody, IsContent}
use Rattle.dbus_message.specs.Messages.{IsMessage}
use Rattle.dbus_message.specs.Written.{laid, kind_out, body_out, fields_out, IsWritten, message_bytes, CanWrite, stands_for}
use Rattle.dbus_message.proofs.Tables.{HasNames, fields_good, fields_needed, fields_say, return_signature, error_signature, signal_signature, no_signature}
use Rattle.dbus_message.proofs.WrittenHasSpelling.{names_good, body_good, good_signature, is_spelled}
use Rattle.dbus_message.proofs.WriteMessage.{says_body, says_serial, says_fields, fields_stand, padding_stands, body_stands, whole_len, all_zeros}

pub field_alignment : alignment field_type ≡ 8
field_alignment = search type_lemmas

array_type : (t : WireType) → out-WireType (W.Array t) ≡ WireType-F.Array t
array_type t = search type_lemmas

-- the array of the fields: the number of its bytes, and then these
array_bytes : (v : Value) (F : List ℕ) → Spells Little 12 (W.Array field_type) v F → (els : List ℕ) × (F ≡ number Little w32 (length els) ++ els) × (length els < 2 ^ 32)
unfolding SpellsWithin
array_bytes v F h =
    let row : Row (SpellsWithin 63 Little) Little (WireType-F.Array field_type) 12 v F = subst (λ (f : WireType-F WireType). Row (SpellsWithin 63 Little) Little f 12 v F) (array_type field_type) h in
    let els : List ℕ = row.2.1 in
    let body : row.0 ≡ number Little w32 (length els) ++ els = row.2.4 ∙ ap (λ (n : ℕ). number Little w32 (length els) ++ (replicate (gap n 16) 0 ++ els)) field_alignment in
    (els, row.1 ∙ body, omega (arith, row.2.3))

kind_is : (out : OutMessage) → kind_out out ≡ 0 → ⊥
kind_is (Return to body) e = absurd (omega (arith, e))
kind_is (Error to name) e = absurd (omega (arith, e))
kind_is (Signal path interface member body) e = absurd (omega (arith, e))

content_with : (signature : Option (List ℕ)) (body : List Value) (B : List ℕ) → signature ≡ Some (types_text (map type_of body)) → IsSignature (map type_of body) (types_text (map type_of body)) → IsBody Little (map type_of body) body B → IsContent Little signature (map type_of body) body B
content_with signature body B is good h = subst (λ (s : Option (List ℕ)). IsContent Little s (map type_of body) body B) (sym is) (good, h)

return_content : (to : ℕ) (body : List Value) (B : List ℕ) → IsSignature (map type_of body) (types_text (map type_of body)) → IsBody Little (map type_of body) body B → IsContent Little (text_of 8 (fields_out (Return to body))) (map type_of body) body B
return_content to [] B good h = subst (λ (s : Option (List ℕ)). IsContent Little s [] [] B) (sym (no_signature to)) (refl, refl, h)
return_content to (v ∷ vs) B good h = content_with _ (v ∷ vs) B (return_signature to v vs) good h

content_out : (out : OutMessage) (B : List ℕ) → IsSignature (map type_of (body_out out)) (types_text (map type_of (body_out out))) → IsBody Little (map type_of (body_out out)) (body_out out) B
    → IsContent Little (text_of 8 (fields_out out)) (map type_of (body_out out)) (body_out out) B
content_out (Return to body) B good h = return_content to body B good h
content_out (Error to name) B good h = content_with _ (body_out (Error to name)) B (error_signature to name) good h
content_out (Signal path interface member body) B good h = content_with _ body B (signal_signature path interface member body) good h

pub message_written : (out : OutMessage) (serial : ℕ) (bytes : List ℕ) → (serial ≡ 0 → ⊥) → serial < 2 ^ 32 → HasNames out → IsSignature (map type_of (body_out out)) (types_text (map type_of (body_out out)))
    → IsWritten out serial bytes → length bytes ≤ 16_777_216 → IsMessage bytes (stands_for out serial)
message_written out serial bytes some fits names good w short =
    let k : ℕ = kind_out out in
    let F : List ℕ = w.0 in
    let B : List ℕ = w.1 in
    let a = array_bytes (V.Array field_type (fields_out out)) F w.2 in
    let whole : List ℕ = laid k serial F B in
    let len : length whole ≡ 12 + length F + gap 8 (12 + length F) + length B = whole_len k serial F B in
    let least : length F ≡ 4 + length a.0 = omega (arith, ap length a.1, length-append (number Little w32 (length a.0)) a.0, number_len Little four (length a.0)) in
    let bound : length whole ≤ 16_777_216 = omega (arith, ap length w.4, short) in
    let end : fields_end whole ≡ 12 + length F = omega (arith, says_fields k serial F B a.0 a.1 a.2, least) in
    let body : number_at Little whole 4 ≡ length B = says_body k serial F B (omega (arith, len, bound)) in
    let start : body_start whole ≡ 12 + length F + gap 8 (12 + length F) = ap (λ (n : ℕ). n + gap 8 n) end in
    let stated : length whole ≡ stated_len whole = omega (arith, len, start, body) in
    let said : number_at Little whole 8 ≡ serial = says_serial k serial F B fits in
    let f : field_bytes whole ≡ F = ap (λ (n : ℕ). drop 12 (take n whole)) end ∙ fields_stand k serial F B in
    let p : padding_bytes whole ≡ replicate (gap 8 (12 + length F)) 0 = ap (λ (n : ℕ). drop n (take (n + gap 8 n) whole)) end ∙ padding_stands k serial F B in
    let b : body_bytes whole ≡ B = ap (λ (n : ℕ). drop (n + gap 8 n) whole) end ∙ body_stands k serial F B in
    let is_short : stated_len whole ≤ 16_777_216 = omega (arith, stated, bound) in
    let message : IsMessage whole (stands_for out serial) = (
      fields_out out,
      (omega (arith, len, least), (inl refl, kind_is out, refl, λ e. some (sym said ∙ e), is_short), stated),
      subst (λ (x : List ℕ). Spells Little 12 (W.Array field_type) (V.Array field_type (fields_out out)) x) (sym f) w.2,
      fields_good out names,
      fields_needed out,
      ap (λ (x : List ℕ). list_all (λ b. b == 0) x) p ∙ all_zeros (gap 8 (12 + length F)),
      (refl, refl, refl, sym said),
      fields_say out serial,
      subst (λ (x : List ℕ). IsContent Little (text_of 8 (fields_out out)) (map type_of (body_out out)) (body_out out) x) (sym b) (content_out out B good w.3),
    ) in
    subst (λ (x : List ℕ). IsMessage x (stands_for out serial)) (sym w.4) message

-- The message has a spelling, which is no longer than a message may be.
pub record Spellable (out : OutMessage) (serial : ℕ) : Type 0 where
  pub some : serial ≡ 0 → ⊥
  pub names : HasNames out
  pub signature : IsSignature (map type_of (body_out out)) (types_text (map type_of (body_out out)))
  pub text : List ℕ
  pub written : IsWritten out serial text
  pub short : length text ≤ 16_777_216

pub can_spell : (out : OutMessage) (serial : ℕ) → CanWrite out serial → Spellable out serial
can_spell out serial can = record {
  some = can.0;
  names = names_good out can.1;
  signature = good_signature (body_out out) (body_good out can.1);
  text = message_bytes out serial;
  written = is_spelled out serial can;
  short = can.2;
}

-- The answer is this one spelling, if there was memory.
abbrev pub Gives : {E : Type 0} → OutMessage → ℕ → Result (List ℕ) E → Type 0
Gives out serial r = (text : List ℕ) → IsWritten out serial text → IfOk r (λ bytes. bytes ≡ text)

pub is_written : {E : Type 0} (r : Result (List ℕ) E) (out : OutMessage) (serial : ℕ) → CanWrite out serial → Gives out serial r → IfOk r (λ bytes. IsWritten out serial bytes)
is_written (Ok bytes) out serial can gives = let s = can_spell out serial can in subst (λ (x : List ℕ). IsWritten out serial x) (sym (gives s.text s.written)) s.written
is_written (Err x) out serial can gives = tt

pub is_message : {E : Type 0} (r : Result (List ℕ) E) (out : OutMessage) (serial : ℕ) → serial < 2 ^ 32 → CanWrite out serial → Gives out serial r → IfOk r (λ bytes. IsMessage bytes (stands_for out serial))
is_message (Ok bytes) out serial fits can gives =
    let s = can_spell out serial can in
    subst (λ (x : List ℕ). IsMessage x (stands_for out serial)) (sym (gives s.text s.written)) (message_written out serial s.text s.some fits s.names s.signature s.written s.short)
is_message (Err x) out serial fits can gives = tt
