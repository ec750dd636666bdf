-- The paths and the names of the load are paths and names.
use Rattle.std.proofs.Common.{◌≡◌, ℕ, zero, suc, ◌<◌, Bool, true, false, ◌&&◌, ◌||◌, List, [], ◌∷◌, length, refl, arith}
use Rattle.std.specs.Prelude.{◌==◌, if◌then◌else◌, codes, nat_lt, nat_le, slice_index}
use Rattle.std.specs.List.{list_all, slice_split}
use Rattle.std.proofs.lemmas.Bool.{and_parts, and_from}
use Rattle.std.proofs.lemmas.Bool.Decides.{nat_tests}
use Rattle.std.proofs.lemmas.Str.{IsUtf8-from_ascii, is_utf8-from_IsUtf8}
use Rattle.portal_base.specs.Names.{is_host_path, is_app_name, is_same, is_rooted, is_slash, is_byte_of_path, root, path_limit}
use Rattle.portal_load.specs.Calls.{app_name}
use Rattle.portal_load.specs.Lines.{file_path}
use Rattle.portal_load.proofs.Ranges.{below}

small : (b : ℕ) → nat_lt b 128 ≡ true → b < 128
small b h = grind (arith, nat_tests)

ascii_at : (bs : List ℕ) (i : ℕ) → list_all (λ b. nat_lt b 128) bs ≡ true → slice_index bs i < 128
ascii_at [] i h = omega arith
ascii_at (b ∷ bs) zero h = small b ((and_parts (nat_lt b 128) (list_all (λ b. nat_lt b 128) bs) h).0)
ascii_at (b ∷ bs) (suc i) h = ascii_at bs i ((and_parts (nat_lt b 128) (list_all (λ b. nat_lt b 128) bs) h).1)

-- a text in ASCII that is a path but for being a text
abbrev is_plain_path : List ℕ → Bool
is_plain_path t = (list_all (λ b. nat_lt b 128) t && list_all is_byte_of_path t)
    && ((is_same t root || is_rooted (slice_split is_slash t)) && nat_le (length t) path_limit)

plain_path : (t : List ℕ) → is_plain_path t ≡ true → is_host_path t ≡ true
unfolding is_host_path
plain_path t h =
    let ends = and_parts (list_all (λ b. nat_lt b 128) t && list_all is_byte_of_path t) ((is_same t root || is_rooted (slice_split is_slash t)) && nat_le (length t) path_limit) h in
    let bytes = and_parts (list_all (λ b. nat_lt b 128) t) (list_all is_byte_of_path t) ends.0 in
    let rest = and_parts (is_same t root || is_rooted (slice_split is_slash t)) (nat_le (length t) path_limit) ends.1 in
    let text = is_utf8-from_IsUtf8 t (IsUtf8-from_ascii t (λ i. ascii_at t i bytes.0)) in
    and_from _ (nat_le (length t) path_limit) (and_from _ (is_same t root || is_rooted (slice_split is_slash t)) (and_from _ (list_all is_byte_of_path t) text bytes.1) rest.0) rest.1

pub file_path-is_host_path : (number : ℕ) → number < 16 → is_host_path (file_path number) ≡ true
file_path-is_host_path number h = plain_path (file_path number) (below (λ n. is_plain_path (file_path n)) 16 refl number h)

one_of_four : (a b c : Bool) → is_app_name (if a then codes "app.a" else if b then codes "app.b" else if c then codes "app.c" else codes "app.d") ≡ true
unfolding is_app_name
one_of_four true b c = refl
one_of_four false true c = refl
one_of_four false false true = refl
one_of_four false false false = refl

pub app_name-is_app_name : (app : ℕ) → is_app_name (app_name app) ≡ true
app_name-is_app_name app = one_of_four (app == 0) (app == 1) (app == 2)
