-- Texts that are good, and the tests for them.
use Rattle.std.proofs.Common.{◌≡◌, ℕ, Bool, true, false, cond, List, refl, get_or, inl, inr}
use Rattle.std.specs.Prelude.{◌==◌, All, IsUtf8}
use Rattle.std.specs.List.{list_any}
use Rattle.std.specs.Str.{is_utf8}
use Rattle.std.proofs.lemmas.Bool.{cases_Bool, eqb-true}
use Rattle.std.proofs.lemmas.List.Folds.{list_any_at, list_any_none}
use Rattle.std.proofs.lemmas.Str.{IsUtf8-from_is_utf8, is_utf8-from_IsUtf8}
use Rattle.dbus_types.specs.Names.{is_path}
use Rattle.dbus_values.specs.Values.{IsText}
use Rattle.dbus_values.specs.Spells.{IsPath}
use Rattle.dbus_marshal.specs.Reads.{is_text, is_path_text}

pub not_same : (a b : ℕ) → (a ≡ b → ⊥) → (a == b) ≡ false
not_same a b h = elim (cases_Bool (a == b)) [ inl e ↦ absurd (h (eqb-true a b e)) | inr e ↦ e ]

different : {A : Type 0} (b : Bool) → b ≡ true → b ≡ false → A
different b t f = absurd cc

no_zero : (text : List ℕ) → list_any (λ b. b == 0) text ≡ false → All (λ b. b ≡ 0 → ⊥) text
no_zero text h k d lt e = different (list_any (λ b. b == 0) text) (list_any_at (λ b. b == 0) text k d lt (rw e refl)) h

zero_none : (text : List ℕ) → All (λ b. b ≡ 0 → ⊥) text → list_any (λ b. b == 0) text ≡ false
zero_none text h = list_any_none (λ b. b == 0) text (λ k d lt. not_same (get_or text k d) 0 (h k d lt))

but_not : (a b : Bool) → cond a (cond b false true) false ≡ true → (a ≡ true) × (b ≡ false)
but_not true true h = absurd cc
but_not true false h = (refl, refl)
but_not false b h = absurd cc

both : (a b : Bool) → cond a b false ≡ true → (a ≡ true) × (b ≡ true)
both true b h = (refl, h)
both false b h = absurd cc

pub text_is : (text : List ℕ) → is_text text ≡ true → IsText text
text_is text h = let p = but_not (is_utf8 text) (list_any (λ b. b == 0) text) h in (IsUtf8-from_is_utf8 text p.0, no_zero text p.1)

pub is_text_of : (text : List ℕ) → IsText text → is_text text ≡ true
is_text_of text h = rw (is_utf8-from_IsUtf8 text h.0, zero_none text h.1) refl

pub path_is : (text : List ℕ) → is_path_text text ≡ true → IsPath text
path_is text h = let p = both (is_text text) (is_path text) h in (text_is text p.0, p.1)

pub is_path_of : (text : List ℕ) → IsPath text → is_path_text text ≡ true
is_path_of text h = rw (is_text_of text h.0, h.1) refl

pub not_utf8 : (text : List ℕ) → (IsUtf8 text → ⊥) → is_utf8 text ≡ false
not_utf8 text h = elim (cases_Bool (is_utf8 text)) [ inl e ↦ absurd (h (IsUtf8-from_is_utf8 text e)) | inr e ↦ e ]

pub utf8 : (text : List ℕ) → IsUtf8 text → is_utf8 text ≡ true
utf8 text h = is_utf8-from_IsUtf8 text h
