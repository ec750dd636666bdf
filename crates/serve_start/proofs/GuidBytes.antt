-- The bytes of four words, each read one by one, are those of the words.
use Rattle.std.proofs.Common.{◌≡◌, ℕ, List, [], ◌∷◌, refl}
use Rattle.std.specs.Prelude.{slice_index_or}
use Rattle.std.specs.List.{flat_map}
use Rattle.std.specs.Int.{to_be_bytes, w32}

-- these four bytes, and then others
abbrev pub four : List ℕ → List ℕ → List ℕ
four bytes others = slice_index_or bytes 0 0 ∷ slice_index_or bytes 1 0 ∷ slice_index_or bytes 2 0 ∷ slice_index_or bytes 3 0 ∷ others

pub bytes_of_words : (a b c d : ℕ) (p q r s : List ℕ) → p ≡ to_be_bytes w32 a → q ≡ to_be_bytes w32 b → r ≡ to_be_bytes w32 c → s ≡ to_be_bytes w32 d
    → four p (four q (four r (four s []))) ≡ flat_map (λ word. to_be_bytes w32 word) (a ∷ b ∷ c ∷ d ∷ [])
bytes_of_words a b c d p q r s e f g h = rw e (rw f (rw g (rw h refl)))
