-- What `clap` finds, as its rows tell it.
use Rattle.std.proofs.Common.{◌≡◌, ℕ, List, [], ◌∷◌, Bool, true, false, Option, Some, None, refl, map, ap, sym, ◌∙◌}
use Rattle.std.specs.Prelude.{find, slice_get, option_map, option_and_then, unwrap_or}
use Rattle.std.specs.Option.{option_map_or}
use Rattle.std.specs.Str.{bytes_eq}
use Rattle.std.specs.Borrow.{Bor}
use Rattle.clap.specs.Matches.{first_value, matched_of, raw_values}
use Rattle.clap.specs.Walk.{Row, row_of, rows_of}
use Rattle.clap.specs.declared.parser.matches.Found.{Found}
use Rattle.clap.specs.declared.parser.matches.MatchedArg.{MatchedArg}
use Rattle.serve_words.specs.Form.{value_in, values_in}

abbrev Found-entries : Type 0
Found-entries = List (Bor (List ℕ) × MatchedArg)

-- the entry of a name is told by the row of that name
abbrev by_row : Found-entries → List ℕ → List (List ℕ)
by_row entries name = option_map_or (λ (row : Row). row.values) (find (λ (row : Row). bytes_eq row.id name) (map row_of entries)) []

abbrev by_entry : Found-entries → List ℕ → List (List ℕ)
by_entry entries name = option_map_or raw_values (option_map (λ (e : Bor (List ℕ) × MatchedArg). e.1) (find (λ (e : Bor (List ℕ) × MatchedArg). bytes_eq e.0.now name) entries)) []

first_or_rest : (e : Bor (List ℕ) × MatchedArg) (es : Found-entries) (name : List ℕ) (t : Bool) → bytes_eq e.0.now name ≡ t → by_row es name ≡ by_entry es name → by_row (e ∷ es) name ≡ by_entry (e ∷ es) name
first_or_rest e es name true is rest = rw is refl
first_or_rest e es name false is rest = rw is rest

rows_find : (entries : Found-entries) (name : List ℕ) → by_row entries name ≡ by_entry entries name
rows_find [] name = refl
rows_find (e ∷ es) name = first_or_rest e es name (bytes_eq e.0.now name) refl (rows_find es name)

pub values_found : (f : Found) (name : List ℕ) → values_in (rows_of f) name ≡ option_map_or raw_values (matched_of f name) []
values_found f name = rows_find f.entries.items name

first_of : (xs : List (Bor (List ℕ))) → option_map (λ (s : Bor (List ℕ)). s.now) (slice_get xs 0) ≡ slice_get (map (λ (s : Bor (List ℕ)). s.now) xs) 0
first_of [] = refl
first_of (x ∷ xs) = refl

first_of_entry : (m : Option MatchedArg) → option_and_then (λ (a : MatchedArg). option_map (λ (s : Bor (List ℕ)). s.now) (slice_get a.vals.items 0)) m ≡ slice_get (option_map_or raw_values m []) 0
first_of_entry None = refl
first_of_entry (Some a) = first_of a.vals.items

pub value_found : (f : Found) (name : List ℕ) → first_value f name ≡ value_in (rows_of f) name
value_found f name = first_of_entry (matched_of f name) ∙ ap (λ (l : List (List ℕ)). slice_get l 0) (sym (values_found f name))

-- all values of a name, or none where it has no entry
strs_or : (o : Option (Bor (List (Bor (List ℕ))))) (d r : Bor (List (Bor (List ℕ)))) (m : Option MatchedArg) → r ≡ unwrap_or o d → d.now ≡ [] → option_map (λ (s : Bor (List (Bor (List ℕ)))). map (λ (v : Bor (List ℕ)). v.now) s.now) o ≡ option_map raw_values m → map (λ (v : Bor (List ℕ)). v.now) r.now ≡ option_map_or raw_values m []
strs_or None d r None is empty same = ap (λ (x : Bor (List (Bor (List ℕ)))). map (λ (v : Bor (List ℕ)). v.now) x.now) is ∙ ap (λ (l : List (Bor (List ℕ))). map (λ (v : Bor (List ℕ)). v.now) l) empty
strs_or (Some s) d r (Some a) is empty same = let one : map (λ (v : Bor (List ℕ)). v.now) s.now ≡ raw_values a = cc same in ap (λ (x : Bor (List (Bor (List ℕ)))). map (λ (v : Bor (List ℕ)). v.now) x.now) is ∙ one
strs_or None d r (Some a) is empty same = absurd (cc same)
strs_or (Some s) d r None is empty same = absurd (cc same)

pub strs_found : (f : Found) (name : List ℕ) (o : Option (Bor (List (Bor (List ℕ))))) (d r : Bor (List (Bor (List ℕ)))) → r ≡ unwrap_or o d → d.now ≡ [] → option_map (λ (s : Bor (List (Bor (List ℕ)))). map (λ (v : Bor (List ℕ)). v.now) s.now) o ≡ option_map raw_values (matched_of f name) → map (λ (v : Bor (List ℕ)). v.now) r.now ≡ values_in (rows_of f) name
strs_found f name o d r is empty same = strs_or o d r (matched_of f name) is empty same ∙ sym (values_found f name)
