-- An application's name is a text.
use Rattle.std.proofs.Common.{◌≡◌, ℕ, ◌<◌, true, List, [], ◌∷◌, arith}
use Rattle.std.specs.Prelude.{not}
use Rattle.std.specs.List.{list_all}
use Rattle.std.specs.Str.{IsUtf8, IsAscii}
use Rattle.std.proofs.lemmas.Bool.{and_parts}
use Rattle.std.proofs.lemmas.Bool.Decides.{nat_tests}
use Rattle.std.proofs.lemmas.Str.{IsUtf8-from_ascii}
use Rattle.std.proofs.lemmas.Str.Ascii.{IsAscii-nil, IsAscii-cons}
use Rattle.portal_base.specs.Names.{has_app_form, is_app_name, is_name_byte, is_nothing_or_dots}

name_byte : (b : ℕ) → is_name_byte b ≡ true → b < 128
name_byte b h = grind (arith, nat_tests)

name_ascii : (t : List ℕ) → list_all is_name_byte t ≡ true → IsAscii t
name_ascii [] h = IsAscii-nil
name_ascii (b ∷ bs) h =
    let parts = and_parts (is_name_byte b) (list_all is_name_byte bs) h in
    IsAscii-cons b bs (name_byte b parts.0) (name_ascii bs parts.1)

pub name_utf8 : (t : List ℕ) → is_app_name t ≡ true → IsUtf8 t
unfolding is_app_name
name_utf8 t h =
    let form = and_parts (has_app_form t) _ h in
    let bytes = and_parts (list_all is_name_byte t) (not (is_nothing_or_dots t)) form.0 in
    IsUtf8-from_ascii t (name_ascii t bytes.0)
