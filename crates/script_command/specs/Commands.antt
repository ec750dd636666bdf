-- The words of the program.
use Rattle.std.specs.Prelude.{◌≡◌, ℕ, ◌≤◌, true, List, [], ◌∷◌, Option, MatchOption, codes}
use Rattle.std.specs.Fmt.{decimal}
use Rattle.portal_base.specs.Names.{is_app_name}
use Rattle.script_command.specs.declared.command.Command.{Command}
use Rattle.script_command.specs.declared.command.Command.TheVariants.{Replay, Worlds, Generate}

-- the one word of a replay
abbrev pub replay_words : List (List ℕ)
replay_words = codes "replay" ∷ []

-- the word is this number from 1 to 100,000, in decimal digits without leading zeros
pub record IsCount (word : List ℕ) (n : ℕ) : Type 0 where
  pub digits : word ≡ decimal n
  pub some : 1 ≤ n
  pub most : n ≤ 100000

-- it is none
abbrev pub IsNoCount : List ℕ → Type 0
IsNoCount word = (n : ℕ) → IsCount word n → ⊥

-- the words ask for this command: "replay", "worlds" and an application's name, or "generate" and a
-- count
abbrev pub IsCommand : List (List ℕ) → Command → Type 0
IsCommand words Replay = words ≡ replay_words
IsCommand words (Worlds app) = (words ≡ codes "worlds" ∷ app ∷ []) × (is_app_name app ≡ true)
IsCommand words (Generate count) = (word : List ℕ) × (words ≡ codes "generate" ∷ word ∷ [])
    × IsCount word count

-- they ask for none
abbrev pub IsNoCommand : List (List ℕ) → Type 0
IsNoCommand words = (command : Command) → IsCommand words command → ⊥

-- they ask for a comparison, whose application's name has to be stored
abbrev pub NamesApp : List (List ℕ) → Type 0
NamesApp words = (app : List ℕ) × IsCommand words (Worlds app)

-- what was read of the words
abbrev pub ReadsCommand : List (List ℕ) → Option Command → Type 0
ReadsCommand words read = MatchOption read (IsNoCommand words) (IsCommand words)
