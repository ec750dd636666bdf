-- The words of `docportal serve` as `clap` is told of them, and what it finds of each name.
use Rattle.std.specs.Prelude.{ℕ, Bool, List, [], ◌∷◌, Option, Some, true, false, codes, find, slice_get}
use Rattle.std.specs.Option.{option_map_or}
use Rattle.std.specs.Str.{bytes_eq}
use Rattle.clap.specs.Lexer.{usize_max}
use Rattle.clap.specs.Simple.{App, matches_of, new_rule, new_shape}
use Rattle.clap.specs.Takes.{takes}
use Rattle.clap.specs.Walk.{Row, Rule}
use Rattle.clap.specs.declared.builder.action.ArgAction.TheVariants.{Set, SetTrue, Append}

-- an option that has to be there, with one value
abbrev pub path_rule : List ℕ → Rule
path_rule name = record (new_rule name) {
  long = Some name;
  action = Some Set;
  value_names = 1;
  required = true;
}

-- an option with one value, which is this where there is none
abbrev pub number_rule : List ℕ → List ℕ → Rule
number_rule name usual = record (new_rule name) {
  long = Some name;
  action = Some Set;
  value_names = 1;
  defaults = usual ∷ [];
}

-- an option without a value
abbrev pub flag_rule : List ℕ → Rule
flag_rule name = record (new_rule name) {
  long = Some name;
  action = Some SetTrue;
}

-- any number of words that belong to no option
abbrev pub words_rule : List ℕ → Rule
words_rule name = record (new_rule name) {
  action = Some Append;
  range = Some (record { start_inclusive = 0; end_inclusive = usize_max });
  value_names = 1;
}

-- the command
unfoldable pub serve_form : App
serve_form = record {
  top = record (new_shape (codes "docportal serve")) {
    rules = path_rule (codes "root") ∷ path_rule (codes "store") ∷ path_rule (codes "sockets")
        ∷ number_rule (codes "workers") (codes "2")
        ∷ number_rule (codes "history") (codes "536870912") ∷ flag_rule (codes "polled")
        ∷ words_rule (codes "app") ∷ [];
    no_binary_name = true;
    has_version = true;
  };
  subs = [];
}

-- `clap` takes these words
unfoldable pub are_taken : List (List ℕ) → Bool
are_taken words = takes serve_form words

-- what it finds in them
unfoldable pub found_in : List (List ℕ) → List Row
found_in words = matches_of serve_form words

-- all values of a name among what was found, and the first of them
abbrev pub values_in : List Row → List ℕ → List (List ℕ)
values_in found name =
    option_map_or (λ row. row.values) (find (λ row. bytes_eq row.id name) found) []

abbrev pub value_in : List Row → List ℕ → Option (List ℕ)
value_in found name = slice_get (values_in found name) 0

-- whether a flag is given among what was found: its value is then this word
abbrev pub flag_in : List Row → List ℕ → Bool
flag_in found name = option_map_or (λ value. bytes_eq value (codes "true")) (value_in found name) false
