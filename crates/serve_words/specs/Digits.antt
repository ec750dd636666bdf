-- Words that are numbers: decimal digits without a sign or a leading zero.
use Rattle.std.specs.Prelude.{◌==◌, ◌&&◌, ℕ, Bool, false, List, [], ◌∷◌, length, not}
use Rattle.std.specs.Char.{is_ascii_digit}
use Rattle.std.specs.List.{list_all}

-- more than one byte, and a zero first
abbrev pub leads_with_zero_in : List ℕ → Bool
leads_with_zero_in [] = false
leads_with_zero_in (b ∷ []) = false
leads_with_zero_in (b ∷ c ∷ bs) = b == 48

-- some digits, and no zero ahead of others
abbrev pub are_digits_in : List ℕ → Bool
are_digits_in word = not (length word == 0) && (not (leads_with_zero_in word)
    && list_all is_ascii_digit word)
