-- Names of applications and of rights are texts, and paths are bytes.
use Rattle.std.proofs.Common.{◌≡◌, ℕ, ◌<◌, Bool, true, false, List, [], ◌∷◌, ◌++◌, length, refl, arith}
use Rattle.std.specs.Prelude.{All, nat_lt, nat_le, ◌&&◌, ◌||◌}
use Rattle.std.specs.List.{list_all, slice_split}
use Rattle.std.specs.Str.{is_utf8}
use Rattle.std.proofs.lemmas.Bool.{and_parts}
use Rattle.std.proofs.lemmas.Bool.Decides.{nat_tests}
use Rattle.std.proofs.lemmas.List.Elements.{All-nil, All-cons, All-append, All-weaker}
use Rattle.std.proofs.lemmas.Str.{IsUtf8-from_ascii}
use Rattle.std.proofs.lemmas.Str.Ascii.{IsAscii-from_all}
use Rattle.portal_base.specs.Names.{is_app_name, is_name_byte, is_same, is_slash, is_rooted, root, is_byte_of_path, has_path_form, path_limit, is_host_path}
use Rattle.rights_rule.specs.Rights.{RightSet, name_if, names_of, read_name, write_name, grant_permissions_name, delete_name}
use Rattle.dbus_values.specs.Values.{IsText}
use Rattle.dbus_dispatch.proofs.Utf8.{utf8_bytes}

abbrev Plain : ℕ → Type 0
Plain b = (0 < b) × (b < 128)

plain_text : (text : List ℕ) → All Plain text → IsText text
plain_text text h = (
  IsUtf8-from_ascii text (IsAscii-from_all text (All-weaker Plain (λ b. b < 128) (λ b p. p.1) text h)),
  All-weaker Plain (λ b. b ≡ 0 → ⊥) (λ b p e. omega (arith, p.0, e)) text h,
)

pub empty_text : IsText []
empty_text = plain_text [] (All-nil Plain)

-- ---- applications

plain_byte : (b : ℕ) → is_name_byte b ≡ true → Plain b
plain_byte b h = (grind (arith, nat_tests), grind (arith, nat_tests))

plain_bytes : (bs : List ℕ) → list_all is_name_byte bs ≡ true → All Plain bs
plain_bytes [] h = All-nil Plain
plain_bytes (b ∷ bs) h = let p = and_parts (is_name_byte b) (list_all is_name_byte bs) h in All-cons Plain b bs (plain_byte b p.0) (plain_bytes bs p.1)

pub name_text : (app : List ℕ) → is_app_name app ≡ true → IsText app
unfolding is_app_name
name_text app h =
    let bytes : list_all is_name_byte app ≡ true = grind arith in
    plain_text app (plain_bytes app bytes)

-- ---- rights

abbrev is_plain : ℕ → Bool
is_plain b = nat_lt 0 b && nat_lt b 128

plain_if : (b : ℕ) → is_plain b ≡ true → Plain b
plain_if b h = (grind (arith, nat_tests), grind (arith, nat_tests))

plain_all : (bs : List ℕ) → list_all is_plain bs ≡ true → All Plain bs
plain_all [] h = All-nil Plain
plain_all (b ∷ bs) h = let p = and_parts (is_plain b) (list_all is_plain bs) h in All-cons Plain b bs (plain_if b p.0) (plain_all bs p.1)

if_text : (b : Bool) (name : List ℕ) → list_all is_plain name ≡ true → All IsText (name_if b name)
if_text true name h = All-cons IsText name [] (plain_text name (plain_all name h)) (All-nil IsText)
if_text false name h = All-nil IsText

pub right_texts : (set : RightSet) → All IsText (names_of set)
right_texts set =
    let d : List (List ℕ) = name_if set.delete delete_name in
    let g : List (List ℕ) = name_if set.grant_permissions grant_permissions_name in
    let w : List (List ℕ) = name_if set.write write_name in
    All-append IsText (name_if set.read read_name) (w ++ (g ++ d)) (if_text set.read read_name refl)
    (All-append IsText w (g ++ d) (if_text set.write write_name refl)
    (All-append IsText g d (if_text set.grant_permissions grant_permissions_name refl) (if_text set.delete delete_name refl)))

-- ---- paths

pub path_bytes : (path : List ℕ) → is_host_path path ≡ true → All (λ b. b < 256) path
unfolding is_host_path
path_bytes path h =
    let rule = and_parts (has_path_form path) (nat_le (length path) path_limit) h in
    let form = and_parts (is_utf8 path && list_all is_byte_of_path path) (is_same path root || is_rooted (slice_split is_slash path)) rule.0 in
    let utf8 = and_parts (is_utf8 path) (list_all is_byte_of_path path) form.0 in
    utf8_bytes path utf8.0
