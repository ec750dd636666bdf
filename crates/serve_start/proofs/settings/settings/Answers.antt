use Prim.Native.Nat.{zero}
use Rattle.std.proofs.Common.{◌≡◌, ℕ, suc, ◌<◌, ◌≤◌, ◌+◌, List, [], ◌∷◌, length, drop, Bool, true, refl, sym, ap, ◌∙◌, subst, inl, inr, arith}
use Rattle.std.specs.Prelude.{codes, nat_lt, slice_index}
use Rattle.std.specs.List.{list_all}
use Rattle.std.proofs.lemmas.Bool.{and_parts, and_from}
use Rattle.std.proofs.lemmas.Bool.Decides.{nat_tests}
use Rattle.std.proofs.lemmas.List.{take-append-drop}
use Rattle.std.proofs.lemmas.Str.{IsUtf8-from_ascii, is_utf8-from_IsUtf8}
use Rattle.portal_base.specs.declared.names.NameError.{NameError}
use Rattle.portal_base.specs.NameErrors.{RefusesPath}
use Rattle.portal_base.specs.Names.{IsFirstBreak, has_path_form, path_limit}
use Rattle.serve_start.proofs.settings.settings.Goals as goal

-- a text of that form and length breaks nowhere
no_break : (has_form : List ℕ → Bool) (limit : ℕ) (t : List ℕ) (n : ℕ) → has_form t ≡ true → length t ≤ limit → IsFirstBreak has_form limit t n → ⊥
no_break has_form limit t n form short b =
    elim b.here as (λ _. ⊥) [
      | inl ends ↦ let no = sym form ∙ ends.1 in absurd (cc)
      | inr stands ↦ elim stands.1 as (λ _. ⊥) [ inl far ↦ omega arith | inr stuck ↦ stuck (drop (n + 1) t, ap has_form (take-append-drop (n + 1) t) ∙ form) ]
    ]

small : (b : ℕ) → nat_lt b 128 ≡ true → b < 128
small b h = grind (arith, nat_tests)

ascii_at : (bs : List ℕ) (i : ℕ) → list_all (λ b. nat_lt b 128) bs ≡ true → slice_index bs i < 128
ascii_at [] i h = omega arith
ascii_at (b ∷ bs) zero h = small b ((and_parts (nat_lt b 128) (list_all (λ b. nat_lt b 128) bs) h).0)
ascii_at (b ∷ bs) (suc i) h = ascii_at bs i ((and_parts (nat_lt b 128) (list_all (λ b. nat_lt b 128) bs) h).1)

path_form : has_path_form (codes "/run/doc") ≡ true
path_form =
    let text = is_utf8-from_IsUtf8 (codes "/run/doc") (IsUtf8-from_ascii (codes "/run/doc") (λ i. ascii_at (codes "/run/doc") i refl)) in
    and_from _ _ (and_from _ _ text refl) refl

pub unreachable-requires : goal.unreachable-requires
unreachable-requires c = no_break has_path_form path_limit (codes "/run/doc") c.in-Err-BadName.field-0-0 path_form (omega arith) (subst (λ (e : NameError). RefusesPath (codes "/run/doc") e) c.in-Err-BadName.field-0-is (c.in-Err-BadName.ensures.bad))
