-- Messages that are written.
use Rattle.std.proofs.Common.{◌≡◌, ℕ, zero, suc, ◌+◌, ◌-◌, ◌%◌, ◌^◌, ◌<◌, ◌≤◌, true, List, [], ◌∷◌, ◌++◌, length, map, take, drop, replicate, refl, sym, ap, ◌∙◌, append_assoc, arith}
use Rattle.std.specs.Prelude.{◌==◌}
use Rattle.std.specs.List.{list_all}
use Rattle.std.specs.Int.{w32, from_le_bytes}
use Rattle.std.proofs.lemmas.List.{append-nil, take_at, drop_at, drop-drop, drop-take, drop-append-le, length-append, length-replicate, take-append-le}
use Rattle.std.proofs.lemmas.Nat.{from_le_bytes-to_le_bytes_4}
use Rattle.dbus_types.specs.declared.types.Endian.TheVariants.{Little}
use Rattle.dbus_types.specs.declared.types.Value.{Value}
use Rattle.dbus_values.specs.Values.{type_of}
use Rattle.dbus_values.specs.Spells.{Members, number, gap}
use Rattle.dbus_values.specs.Spelling.{spelling, spellings}
use Rattle.dbus_values.proofs.OneSpelling.{spells_same}
use Rattle.dbus_marshal.proofs.TakenFronts.{four, number_len}
use Rattle.dbus_message.specs.Header.{number_at}
use Rattle.dbus_message.specs.Written.{laid}
use Rattle.dbus_message.proofs.Bodies.{Spelled}

-- values spelled one after another are spelled so
pub body_is : (vs : List Value) (at : ℕ) (text : List ℕ) → Members (Spelled Little) (map type_of vs) vs at text → text ≡ spellings Little at vs
body_is [] at text h = h
body_is (v ∷ vs) at text h =
    let first : h.0 ≡ spelling Little at v = (spells_same 64 Little (type_of v) at v h.0 h.3).0 in
    let rest : h.1 ≡ spellings Little (at + length h.0) vs = body_is vs (at + length h.0) h.1 h.4 in
    h.2 ∙ (ap (λ (w : List ℕ). h.0 ++ w) rest ∙ ap (λ (w : List ℕ). w ++ spellings Little (at + length w) vs) first)

pub all_zeros : (n : ℕ) → list_all (λ b. b == 0) (replicate n 0) ≡ true
all_zeros zero = refl
all_zeros (suc n) = all_zeros n

abbrev bits_of : ℕ → List ℕ
bits_of n = number Little w32 n

number_back : (n : ℕ) (rest : List ℕ) → n < 2 ^ 32 → from_le_bytes w32 (take 4 (bits_of n ++ rest)) ≡ n
number_back n rest lt = ap (from_le_bytes w32) (take_at (bits_of n) rest 4 (number_len Little four n)) ∙ from_le_bytes-to_le_bytes_4 n lt

skip_number : (n : ℕ) (rest : List ℕ) → drop 4 (bits_of n ++ rest) ≡ rest
skip_number n rest = drop_at (bits_of n) rest 4 (number_len Little four n)

-- what stands behind the length of the body, behind the serial, and behind the fields
abbrev third : List ℕ → List ℕ → List ℕ
third F B = replicate (gap 8 (12 + length F)) 0 ++ B

abbrev second : List ℕ → List ℕ → List ℕ
second F B = F ++ third F B

abbrev first : ℕ → List ℕ → List ℕ → List ℕ
first serial F B = bits_of serial ++ second F B

pub drop_4 : (k serial : ℕ) (F B : List ℕ) → drop 4 (laid k serial F B) ≡ bits_of (length B) ++ first serial F B
drop_4 k serial F B = refl

pub drop_8 : (k serial : ℕ) (F B : List ℕ) → drop 8 (laid k serial F B) ≡ first serial F B
drop_8 k serial F B = sym (drop-drop 4 4 (laid k serial F B)) ∙ skip_number (length B) (first serial F B)

pub drop_12 : (k serial : ℕ) (F B : List ℕ) → drop 12 (laid k serial F B) ≡ second F B
drop_12 k serial F B = sym (drop-drop 4 8 (laid k serial F B)) ∙ (ap (λ (w : List ℕ). drop 4 w) (drop_8 k serial F B) ∙ skip_number serial (second F B))

pub says_body : (k serial : ℕ) (F B : List ℕ) → length B < 2 ^ 32 → number_at Little (laid k serial F B) 4 ≡ length B
says_body k serial F B lt = number_back (length B) (first serial F B) lt

pub says_serial : (k serial : ℕ) (F B : List ℕ) → serial < 2 ^ 32 → number_at Little (laid k serial F B) 8 ≡ serial
says_serial k serial F B lt = ap (λ (w : List ℕ). from_le_bytes w32 (take 4 w)) (drop_8 k serial F B) ∙ number_back serial (second F B) lt

pub says_fields : (k serial : ℕ) (F B els : List ℕ) → F ≡ bits_of (length els) ++ els → length els < 2 ^ 32 → number_at Little (laid k serial F B) 12 ≡ length els
says_fields k serial F B els is lt =
    ap (λ (w : List ℕ). from_le_bytes w32 (take 4 w)) (drop_12 k serial F B ∙ (ap (λ (w : List ℕ). w ++ third F B) is ∙ append_assoc (bits_of (length els)) els (third F B))) ∙ number_back (length els) (els ++ third F B) lt

pub behind_fields : (k serial : ℕ) (F B : List ℕ) → drop (12 + length F) (laid k serial F B) ≡ third F B
behind_fields k serial F B = sym (drop-drop (length F) 12 (laid k serial F B)) ∙ (ap (λ (w : List ℕ). drop (length F) w) (drop_12 k serial F B) ∙ drop_at F (third F B) (length F) refl)

pub fields_stand : (k serial : ℕ) (F B : List ℕ) → drop 12 (take (12 + length F) (laid k serial F B)) ≡ F
fields_stand k serial F B = drop-take 12 (length F) (laid k serial F B) ∙ (ap (λ (w : List ℕ). take (length F) w) (drop_12 k serial F B) ∙ take_at F (third F B) (length F) refl)

pub padding_stands : (k serial : ℕ) (F B : List ℕ) → drop (12 + length F) (take (12 + length F + gap 8 (12 + length F)) (laid k serial F B)) ≡ replicate (gap 8 (12 + length F)) 0
padding_stands k serial F B =
    drop-take (12 + length F) (gap 8 (12 + length F)) (laid k serial F B) ∙ (ap (λ (w : List ℕ). take (gap 8 (12 + length F)) w) (behind_fields k serial F B)
    ∙ take_at (replicate (gap 8 (12 + length F)) 0) B (gap 8 (12 + length F)) (length-replicate {A = ℕ} (gap 8 (12 + length F)) 0))

pub body_stands : (k serial : ℕ) (F B : List ℕ) → drop (12 + length F + gap 8 (12 + length F)) (laid k serial F B) ≡ B
body_stands k serial F B =
    sym (drop-drop (gap 8 (12 + length F)) (12 + length F) (laid k serial F B)) ∙ (ap (λ (w : List ℕ). drop (gap 8 (12 + length F)) w) (behind_fields k serial F B)
    ∙ drop_at (replicate (gap 8 (12 + length F)) 0) B (gap 8 (12 + length F)) (length-replicate {A = ℕ} (gap 8 (12 + length F)) 0))

pub whole_len : (k serial : ℕ) (F B : List ℕ) → length (laid k serial F B) ≡ 12 + length F + gap 8 (12 + length F) + length B
whole_len k serial F B = omega (
  arith,
  length-append (bits_of (length B)) (first serial F B),
  number_len Little four (length B),
  length-append (bits_of serial) (second F B),
  number_len Little four serial,
  length-append F (third F B),
  length-append (replicate (gap 8 (12 + length F)) 0) B,
  length-replicate {A = ℕ} (gap 8 (12 + length F)) 0,
)

pub body_aligned : (d e : List ℕ) → e ≡ d ++ replicate (gap 8 (length d)) 0 → length e % 8 ≡ 0 % 8
body_aligned d e t = omega (arith, ap length t, length-append d (replicate (gap 8 (length d)) 0), length-replicate {A = ℕ} (gap 8 (length d)) 0)

-- the parts of a message, put one behind another, and then the length of the body
module _ (k serial : ℕ) (T B : List ℕ) where
  regroup : (S P : List ℕ) → ((S ++ T) ++ P) ++ B ≡ S ++ (T ++ (P ++ B))
  regroup S P = simp append_assoc

  pub parts_laid : (d e f g : List ℕ) (n : ℕ) → d ≡ (108 ∷ k ∷ 1 ∷ 1 ∷ 0 ∷ 0 ∷ 0 ∷ 0 ∷ bits_of serial) ++ T → e ≡ d ++ replicate (gap 8 (length d)) 0 → f ≡ e ++ B
      → n ≡ length f - length e → g ≡ take 4 f ++ (bits_of n ++ drop 8 f) → g ≡ laid k serial T B
  parts_laid d e f g n head t u size put =
      let len : length d ≡ 12 + length T = omega (arith, ap length head, length-append (bits_of serial) T, number_len Little four serial) in
      let P : List ℕ = replicate (gap 8 (12 + length T)) 0 in
      let pads : e ≡ d ++ P = t ∙ ap (λ (m : ℕ). d ++ replicate (gap 8 m) 0) len in
      let rest : List ℕ = bits_of serial ++ (T ++ (P ++ B)) in
      let whole : f ≡ 108 ∷ k ∷ 1 ∷ 1 ∷ 0 ∷ 0 ∷ 0 ∷ 0 ∷ rest = u ∙ (ap (λ (w : List ℕ). w ++ B) (pads ∙ ap (λ (w : List ℕ). w ++ P) head)
      ∙ ap (λ (w : List ℕ). 108 ∷ k ∷ 1 ∷ 1 ∷ 0 ∷ 0 ∷ 0 ∷ 0 ∷ w) (regroup (bits_of serial) P)) in
      let count : n ≡ length B = omega (arith, size, ap length u, length-append e B) in
      put ∙ (ap (λ (w : List ℕ). take 4 w ++ (bits_of n ++ drop 8 w)) whole ∙ ap (λ (m : ℕ). 108 ∷ k ∷ 1 ∷ 1 ∷ (bits_of m ++ rest)) count)

-- ---- the part ahead of a body

pub front_laid : (k serial : ℕ) (T d e : List ℕ) → d ≡ (108 ∷ k ∷ 1 ∷ 1 ∷ 0 ∷ 0 ∷ 0 ∷ 0 ∷ bits_of serial) ++ T → e ≡ d ++ replicate (gap 8 (length d)) 0 → e ≡ laid k serial T []
front_laid k serial T d e head t =
    let len : length d ≡ 12 + length T = omega (arith, ap length head, length-append (bits_of serial) T, number_len Little four serial) in
    let P : List ℕ = replicate (gap 8 (12 + length T)) 0 in
    let parts : e ≡ 108 ∷ k ∷ 1 ∷ 1 ∷ 0 ∷ 0 ∷ 0 ∷ 0 ∷ ((bits_of serial ++ T) ++ P) = t ∙ (ap (λ (m : ℕ). d ++ replicate (gap 8 m) 0) len ∙ ap (λ (w : List ℕ). w ++ P) head) in
    parts ∙ ap (λ (w : List ℕ). 108 ∷ k ∷ 1 ∷ 1 ∷ 0 ∷ 0 ∷ 0 ∷ 0 ∷ w) (append_assoc (bits_of serial) T P ∙ ap (λ (w : List ℕ). bits_of serial ++ (T ++ w)) (sym (append-nil P)))

-- a body behind it, and its length put in
pub body_laid : (k serial : ℕ) (T B front : List ℕ) → front ≡ laid k serial T [] → take 4 front ++ (bits_of (length B) ++ (drop 8 front ++ B)) ≡ laid k serial T B
body_laid k serial T B front is =
    ap (λ (w : List ℕ). take 4 w ++ (bits_of (length B) ++ (drop 8 w ++ B))) is
    ∙ (ap (λ (w : List ℕ). 108 ∷ k ∷ 1 ∷ 1 ∷ (bits_of (length B) ++ (w ++ B))) (drop_8 k serial T [])
    ∙ ap (λ (w : List ℕ). 108 ∷ k ∷ 1 ∷ 1 ∷ (bits_of (length B) ++ w)) (regroup_body (bits_of serial) (replicate (gap 8 (12 + length T)) 0)))
  where
    regroup_body : (S P : List ℕ) → (S ++ (T ++ (P ++ []))) ++ B ≡ S ++ (T ++ (P ++ B))
    regroup_body S P =
        append_assoc S (T ++ (P ++ [])) B
        ∙ ap (λ (w : List ℕ). S ++ w) (append_assoc T (P ++ []) B ∙ ap (λ (w : List ℕ). T ++ w) (append_assoc P [] B))

-- and so of bytes that begin with it
pub body_sealed : (front B f g : List ℕ) (start : ℕ) → start ≡ length front → 8 ≤ length front → f ≡ front ++ B → g ≡ take 4 f ++ (bits_of (length f - start) ++ drop 8 f) → g ≡ take 4 front ++ (bits_of (length B) ++ (drop 8 front ++ B))
body_sealed front B f g start at long is put =
    let count : length f - start ≡ length B = omega (arith, at, ap length is, length-append front B) in
    put
    ∙ ((λ i. take 4 (is i) ++ (bits_of (count i) ++ drop 8 (is i)))
    ∙ (λ i. take-append-le 4 front B (omega (arith, long)) i ++ (bits_of (length B) ++ drop-append-le 8 front B (omega (arith, long)) i)))
