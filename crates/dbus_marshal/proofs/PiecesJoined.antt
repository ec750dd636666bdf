-- What was written piece by piece is the spelling of the whole.
use Rattle.std.proofs.Common.{◌≡◌, ℕ, ◌+◌, List, [], ◌∷◌, ◌++◌, length, replicate, sym, ap, ◌∙◌, append_assoc, append-nil, arith}
use Rattle.std.proofs.lemmas.List.{length-append, length-replicate}
use Rattle.std.specs.Int.{w8, to_le_bytes}
use Rattle.dbus_types.specs.declared.types.Endian.{Endian}
use Rattle.dbus_types.specs.declared.types.Value.{Value}
use Rattle.dbus_types.specs.declared.types.Value.TheVariants as V
use Rattle.dbus_types.specs.Types.{type_text}
use Rattle.dbus_values.specs.Spells.{gap}
use Rattle.dbus_values.specs.Spelling.{Spelled, spelled, spelling, spellings, signature_body}
use Rattle.dbus_values.proofs.OneSpelling.{roll_struct, roll_entry, roll_variant}

pub variant_whole : (e : Endian) (out one two : List ℕ) (v x : Value) → v ≡ V.Variant x → one ≡ out ++ signature_body (type_text (spelled e x).0) → two ≡ one ++ spelling e (length one) x → two ≡ out ++ spelling e (length out) v
variant_whole e out one two v x is a b =
    let n : List ℕ = type_text (spelled e x).0 in
    let place : length one ≡ length out + (1 + length n + 1) = omega (arith, ap length a, length-append out (signature_body n), length-append (to_le_bytes w8 (length n)) (n ++ 0 ∷ []), length-append n (0 ∷ [])) in
    let inside : List ℕ = spelling e (length out + (1 + length n + 1)) x in
    let found : two ≡ (out ++ signature_body n) ++ inside = b ∙ (ap (λ (k : ℕ). one ++ spelling e k x) place ∙ ap (λ (w : List ℕ). w ++ inside) a) in
    found ∙ (append_assoc out (signature_body n) inside ∙ (ap (λ (w : List ℕ). out ++ (to_le_bytes w8 (length n) ++ w)) (append_assoc n (0 ∷ []) inside)
    ∙ sym (ap (λ (z : Value). out ++ spelling e (length out) z) is ∙ ap (λ (s : Spelled). out ++ s.1 (length out)) (roll_variant e x))))

pub struct_whole : (e : Endian) (out one two : List ℕ) (v : Value) (vs : List Value) → v ≡ V.Struct vs → one ≡ out ++ replicate (gap 8 (length out)) 0 → two ≡ one ++ spellings e (length one) vs → two ≡ out ++ spelling e (length out) v
struct_whole e out one two v vs is a b =
    let zs : List ℕ = replicate (gap 8 (length out)) 0 in
    let place : length one ≡ length out + gap 8 (length out) = omega (arith, ap length a, length-append out zs, length-replicate {A = ℕ} (gap 8 (length out)) 0) in
    let inside : List ℕ = spellings e (length out + gap 8 (length out)) vs in
    let found : two ≡ (out ++ zs) ++ inside = b ∙ (ap (λ (k : ℕ). one ++ spellings e k vs) place ∙ ap (λ (w : List ℕ). w ++ inside) a) in
    found ∙ (append_assoc out zs inside ∙ sym (ap (λ (z : Value). out ++ spelling e (length out) z) is ∙ ap (λ (s : Spelled). out ++ s.1 (length out)) (roll_struct e vs)))

pub entry_whole : (e : Endian) (out one two three : List ℕ) (v k x : Value) → v ≡ V.DictEntry k x → one ≡ out ++ replicate (gap 8 (length out)) 0 → two ≡ one ++ spelling e (length one) k → three ≡ two ++ spelling e (length two) x
    → three ≡ out ++ spelling e (length out) v
entry_whole e out one two three v k x is a b c =
    let zs : List ℕ = replicate (gap 8 (length out)) 0 in
    let start : ℕ = length out + gap 8 (length out) in
    let place : length one ≡ start = omega (arith, ap length a, length-append out zs, length-replicate {A = ℕ} (gap 8 (length out)) 0) in
    let key : List ℕ = spelling e start k in
    let first : two ≡ (out ++ zs) ++ key = b ∙ (ap (λ (i : ℕ). one ++ spelling e i k) place ∙ ap (λ (w : List ℕ). w ++ key) a) in
    let middle : length two ≡ start + length key = omega (arith, ap length first, length-append (out ++ zs) key, length-append out zs, length-replicate {A = ℕ} (gap 8 (length out)) 0) in
    let value : List ℕ = spelling e (start + length key) x in
    let found : three ≡ ((out ++ zs) ++ key) ++ value = c ∙ (ap (λ (i : ℕ). two ++ spelling e i x) middle ∙ ap (λ (w : List ℕ). w ++ value) first) in
    found ∙ (append_assoc (out ++ zs) key value ∙ (append_assoc out zs (key ++ value)
    ∙ (ap (λ (w : List ℕ). out ++ (zs ++ (key ++ w))) (sym (append-nil value))
    ∙ sym (ap (λ (z : Value). out ++ spelling e (length out) z) is ∙ ap (λ (s : Spelled). out ++ s.1 (length out)) (roll_entry e k x)))))
