-- The names that messages carry are texts: their bytes are ASCII, and none is zero.
use Rattle.std.proofs.Common.{◌≡◌, ℕ, ◌<◌, true, List, [], ◌∷◌, length, subst, arith, lit<}
use Rattle.std.specs.Prelude.{All, IsTrue, ◌==◌, nat_le}
use Rattle.std.specs.List.{list_all, slice_split, join_with_byte}
use Rattle.std.proofs.lemmas.Bool.{and_parts, false≢true}
use Rattle.std.proofs.lemmas.Bool.Decides.{nat_tests}
use Rattle.std.proofs.lemmas.List.Elements.{All-nil, All-cons, All-append, All-weaker, All-drop}
use Rattle.std.proofs.lemmas.List.Splits.{join_with_byte-slice_split}
use Rattle.std.proofs.lemmas.Str.{IsUtf8-from_ascii}
use Rattle.std.proofs.lemmas.Str.Ascii.{IsAscii-from_all}
use Rattle.dbus_types.specs.Names.{is_word_byte, is_first_byte, is_element, is_interface_name, is_member_name}
use Rattle.dbus_values.specs.Values.{IsText}
use Rattle.dbus_message.specs.Written.{last_part}

abbrev Plain : ℕ → Type 0
Plain b = (0 < b) × (b < 128)

plain_text : (text : List ℕ) → All Plain text → IsText text
plain_text text h = (
  IsUtf8-from_ascii text (IsAscii-from_all text (All-weaker Plain (λ b. b < 128) (λ b p. p.1) text h)),
  All-weaker Plain (λ b. b ≡ 0 → ⊥) (λ b p e. omega (arith, p.0, e)) text h,
)

plain_word : (b : ℕ) → is_word_byte b ≡ true → Plain b
plain_word b h = (grind (arith, nat_tests), grind (arith, nat_tests))

plain_first : (b : ℕ) → is_first_byte b ≡ true → Plain b
plain_first b h = (grind (arith, nat_tests), grind (arith, nat_tests))

plain_words : (bs : List ℕ) → list_all is_word_byte bs ≡ true → All Plain bs
plain_words [] h = All-nil Plain
plain_words (b ∷ bs) h = let p = and_parts (is_word_byte b) (list_all is_word_byte bs) h in All-cons Plain b bs (plain_word b p.0) (plain_words bs p.1)

plain_element : (bs : List ℕ) → is_element bs ≡ true → All Plain bs
plain_element [] h = absurd (false≢true h)
plain_element (b ∷ bs) h = let p = and_parts (is_first_byte b) (list_all is_word_byte bs) h in All-cons Plain b bs (plain_first b p.0) (plain_words bs p.1)

plain_elements : (parts : List (List ℕ)) → list_all is_element parts ≡ true → All Plain (join_with_byte 46 parts)
plain_elements [] h = All-nil Plain
plain_elements (p ∷ []) h = plain_element p (and_parts (is_element p) true h).0
plain_elements (p ∷ q ∷ ps) h =
    let k = and_parts (is_element p) (list_all is_element (q ∷ ps)) h in
    All-append Plain p (46 ∷ join_with_byte 46 (q ∷ ps)) (plain_element p k.0) (All-cons Plain 46 (join_with_byte 46 (q ∷ ps)) (lit< tt, lit< tt) (plain_elements (q ∷ ps) k.1))

plain_interface : (text : List ℕ) → is_interface_name text ≡ true → All Plain text
plain_interface text h =
    let parts : List (List ℕ) = slice_split (λ c. c == 46) text in
    let short = and_parts (nat_le (length text) 255) _ h in
    let two = and_parts (nat_le 2 (length parts)) (list_all is_element parts) short.1 in
    subst (All Plain) (join_with_byte-slice_split 46 text) (plain_elements parts two.1)

pub interface_text : (text : List ℕ) → IsTrue (is_interface_name text) → IsText text
interface_text text h = plain_text text (plain_interface text h)

pub member_text : (text : List ℕ) → IsTrue (is_member_name text) → IsText text
member_text text h = plain_text text (plain_element text (and_parts (nat_le (length text) 255) (is_element text) h).1)

pub last_text : (name : List ℕ) → IsTrue (is_interface_name name) → IsText (last_part name)
last_text name h = plain_text (last_part name) (All-drop Plain _ name (plain_interface name h))
