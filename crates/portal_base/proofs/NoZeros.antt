-- Texts without zero bytes.
use Rattle.std.proofs.Common.{◌≡◌, ℕ, ◌&&◌, Bool, true, false, not, List, [], ◌∷◌, refl, ◌↔◌}
use Rattle.std.specs.Prelude.{◌==◌, All, IsTrue}
use Rattle.std.specs.List.{list_all}
use Rattle.std.proofs.lemmas.Bool.{and_parts, eq-eqb, ne_eqb, eqb-false}
use Rattle.std.proofs.lemmas.List.Elements.{All-nil, All-cons, All-head, All-tail}
use Rattle.portal_base.specs.Names.{is_byte_of_path}

abbrev IsByte : ℕ → Type 0
IsByte b = b ≡ 0 → ⊥

no_zero : (b : ℕ) → is_byte_of_path b ≡ true → IsByte b
no_zero b h is = let zero = eq-eqb b 0 is in cc (h, zero)

pub all_from_test : (t : List ℕ) → list_all is_byte_of_path t ≡ true → All (λ b. b ≡ 0 → ⊥) t
all_from_test [] h = All-nil IsByte
all_from_test (b ∷ bs) h =
    let parts = and_parts (is_byte_of_path b) (list_all is_byte_of_path bs) h in
    All-cons IsByte b bs (no_zero b parts.0) (all_from_test bs parts.1)

pub test_from_all : (t : List ℕ) → All (λ b. b ≡ 0 → ⊥) t → list_all is_byte_of_path t ≡ true
test_from_all [] h = refl
test_from_all (b ∷ bs) h =
    let other : (b == 0) ≡ false = ne_eqb b 0 (All-head IsByte b bs h) in
    rw other (test_from_all bs (All-tail IsByte b bs h))
