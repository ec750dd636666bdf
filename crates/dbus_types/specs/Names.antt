-- The names that messages carry (D-Bus Specification, "Valid Object Paths", "Valid Names").
use Rattle.std.specs.Prelude.{ℕ, List, [], ◌∷◌, length, Bool, false, ◌&&◌, ◌||◌, ◌==◌, nat_le}
use Rattle.std.specs.List.{list_all, slice_split}
use Rattle.std.specs.Char.{is_ascii_alphabetic, is_ascii_alphanumeric}

-- letters, digits and `_`
abbrev pub is_word_byte : ℕ → Bool
is_word_byte b = is_ascii_alphanumeric b || (b == 95)

-- a letter or `_`
abbrev pub is_first_byte : ℕ → Bool
is_first_byte b = is_ascii_alphabetic b || (b == 95)

-- one or more letters, digits and `_`
abbrev pub is_part : List ℕ → Bool
is_part [] = false
is_part (b ∷ bs) = is_word_byte b && list_all is_word_byte bs

-- `/`, or parts with a `/` before each
abbrev pub is_path : List ℕ → Bool
is_path [] = false
is_path (b ∷ []) = b == 47
is_path (b ∷ bs) = (b == 47) && list_all is_part (slice_split (λ c. c == 47) bs)

-- letters, digits and `_`, at least one, with no digit first
abbrev pub is_element : List ℕ → Bool
is_element [] = false
is_element (b ∷ bs) = is_first_byte b && list_all is_word_byte bs

-- two elements or more, with a `.` between them, in at most 255 bytes; the names of errors have the
-- same form
abbrev pub is_interface_name : List ℕ → Bool
is_interface_name text = nat_le (length text) 255
    && (nat_le 2 (length (slice_split (λ c. c == 46) text))
    && list_all is_element (slice_split (λ c. c == 46) text))

-- one element, in at most 255 bytes
abbrev pub is_member_name : List ℕ → Bool
is_member_name text = nat_le (length text) 255 && is_element text
