-- The bytes of UTF-8 are below 256.
use Rattle.std.proofs.Common.{◌≡◌, ℕ, ◌+◌, ◌/◌, ◌%◌, ◌<◌, Bool, true, false, cond, ltb, List, [], ◌∷◌, refl, subst, arith, inl, inr}
use Rattle.std.specs.Prelude.{All}
use Rattle.std.specs.Str.{is_utf8}
use Rattle.std.proofs.Math.Utf8.{encode, encodes, scalar, scalars, scalar_cases}
use Rattle.std.proofs.lemmas.Bool.{and_parts, ltb-true}
use Rattle.std.proofs.lemmas.List.Elements.{All-nil, All-cons, All-append}
use Rattle.std.proofs.lemmas.Str.{IsUtf8-from_is_utf8}

abbrev IsByte : ℕ → Type 0
IsByte b = b < 256

one : (a : ℕ) → a < 256 → All IsByte (a ∷ [])
one a h = All-cons IsByte a [] h (All-nil IsByte)

two : (a b : ℕ) → a < 256 → b < 256 → All IsByte (a ∷ b ∷ [])
two a b h g = All-cons IsByte a (b ∷ []) h (one b g)

three : (a b c : ℕ) → a < 256 → b < 256 → c < 256 → All IsByte (a ∷ b ∷ c ∷ [])
three a b c h g f = All-cons IsByte a (b ∷ c ∷ []) h (two b c g f)

below_end : (c : ℕ) → scalar c ≡ true → c < 1_114_112
below_end c h = elim (scalar_cases c h) [ inl low ↦ omega (arith, low) | inr high ↦ high.1 ]

encoded : (c : ℕ) → c < 1_114_112 → All IsByte (encode c)
unfolding encode
encoded c small = short (ltb c 128) refl
  where
    long : (b : Bool) → ltb c 65536 ≡ b → All IsByte (cond b ((224 + c / 4096) ∷ (128 + c / 64 % 64) ∷ (128 + c % 64) ∷ []) ((240 + c / 262144) ∷ (128 + c / 4096 % 64) ∷ (128 + c / 64 % 64) ∷ (128 + c % 64) ∷ []))
    long true e = let lt : c < 65536 = ltb-true c 65536 e in three (224 + c / 4096) (128 + c / 64 % 64) (128 + c % 64) (omega arith) (omega arith) (omega arith)
    long false e = All-cons IsByte (240 + c / 262144) ((128 + c / 4096 % 64) ∷ (128 + c / 64 % 64) ∷ (128 + c % 64) ∷ []) (omega arith) (three (128 + c / 4096 % 64) (128 + c / 64 % 64) (128 + c % 64) (omega arith) (omega arith) (omega arith))

    middle : (b : Bool) → ltb c 2048 ≡ b → All IsByte (cond b ((192 + c / 64) ∷ (128 + c % 64) ∷ []) (cond (ltb c 65536) ((224 + c / 4096) ∷ (128 + c / 64 % 64) ∷ (128 + c % 64) ∷ []) ((240 + c / 262144) ∷ (128 + c / 4096 % 64) ∷ (128 + c / 64 % 64) ∷ (128 + c % 64) ∷ [])))
    middle true e = let lt : c < 2048 = ltb-true c 2048 e in two (192 + c / 64) (128 + c % 64) (omega arith) (omega arith)
    middle false e = long (ltb c 65536) refl

    short : (b : Bool) → ltb c 128 ≡ b → All IsByte (cond b (c ∷ []) (cond (ltb c 2048) ((192 + c / 64) ∷ (128 + c % 64) ∷ []) (cond (ltb c 65536) ((224 + c / 4096) ∷ (128 + c / 64 % 64) ∷ (128 + c % 64) ∷ []) ((240 + c / 262144) ∷ (128 + c / 4096 % 64) ∷ (128 + c / 64 % 64) ∷ (128 + c % 64) ∷ []))))
    short true e = let lt : c < 128 = ltb-true c 128 e in one c (omega arith)
    short false e = middle (ltb c 2048) refl

all_encoded : (cs : List ℕ) → scalars cs ≡ true → All IsByte (encodes cs)
all_encoded [] h = All-nil IsByte
all_encoded (c ∷ cs) h = let p = and_parts (scalar c) (scalars cs) h in All-append IsByte (encode c) (encodes cs) (encoded c (below_end c p.0)) (all_encoded cs p.1)

pub utf8_bytes : (text : List ℕ) → is_utf8 text ≡ true → All (λ b. b < 256) text
utf8_bytes text h = let u = IsUtf8-from_is_utf8 text h in subst (All IsByte) u.1.1 (all_encoded u.0 u.1.0)
