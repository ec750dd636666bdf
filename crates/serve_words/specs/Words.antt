-- What words ask for, and when they are faulty.
use Rattle.std.specs.Prelude.{◌≡◌, ◌⊎◌, ℕ, ◌≤◌, List, [], length, Result, Ok, Err, Some, true, false, codes}
use Rattle.std.specs.Fmt.{decimal}
use Rattle.std.specs.List.{IsDistinct, list_all}
use Rattle.clap.specs.Walk.{Row}
use Rattle.portal_base.specs.Names.{is_app_name, is_same}
use Rattle.serve_words.specs.declared.words.ServeWords.{ServeWords}
use Rattle.serve_words.specs.declared.words.ServeAsk.{ServeAsk}
use Rattle.serve_words.specs.declared.words.ServeAsk.TheVariants.{Serve, Tell}
use Rattle.serve_words.specs.declared.words.WordsError.{WordsError}
use Rattle.serve_words.specs.declared.words.WordsError.TheVariants.{Faulty, Memory}
use Rattle.serve_words.specs.Form.{are_taken, flag_in, found_in, value_in, values_in}

-- the most posts of a listener
abbrev pub most_workers : ℕ
most_workers = 8

-- the most bytes that a history may cost
abbrev pub most_history : ℕ
most_history = 4294967296

-- the most applications
abbrev pub most_apps : ℕ
most_apps = 64

-- applications of one service: few enough, and each once
pub record AreApps (apps : List (List ℕ)) : Type 0 where
  pub few : length apps ≤ most_apps
  pub differ : IsDistinct is_same apps

-- a service within the limits
pub record IsInForm (words : ServeWords) : Type 0 where
  pub some : 1 ≤ words.workers
  pub workers : words.workers ≤ most_workers
  pub history : words.history ≤ most_history
  pub apps : AreApps words.apps

-- what is asked for is a service within the limits, or a text
abbrev pub AsksInForm : ServeAsk → Type 0
AsksInForm (Serve words) = IsInForm words
AsksInForm (Tell text) = Unit {0}

-- a name was given a path, which isn't empty
abbrev pub GivesPath : List Row → List ℕ → List ℕ → Type 0
GivesPath found name path = (value_in found name ≡ Some path) × (path ≡ [] → ⊥)

-- a name was given a number in these bounds, in decimal digits without leading zeros
pub record GivesNumber (found : List Row) (name : List ℕ) (least most number : ℕ) : Type 0 where
  pub digits : value_in found name ≡ Some (decimal number)
  pub some : least ≤ number
  pub few : number ≤ most

-- names of applications, which are few enough and differ
pub record AreNamed (names : List (List ℕ)) : Type 0 where
  pub named : list_all is_app_name names ≡ true
  pub apps : AreApps names

-- This service is asked for, by what was found in words.
pub record AsksFor (found : List Row) (service : ServeWords) : Type 0 where
  pub root : GivesPath found (codes "root") service.root
  pub store : GivesPath found (codes "store") service.store
  pub sockets : GivesPath found (codes "sockets") service.sockets
  pub workers : GivesNumber found (codes "workers") 1 most_workers service.workers
  pub history : GivesNumber found (codes "history") 0 most_history service.history
  pub polled : service.polled ≡ flag_in found (codes "polled")
  pub apps : service.apps ≡ values_in found (codes "app")
  pub named : AreNamed service.apps

abbrev pub AsksOneOf : List Row → ServeAsk → Type 0
AsksOneOf found (Serve service) = AsksFor found service
AsksOneOf found (Tell text) = ⊥

-- Words ask for a service, as `clap` finds it in them; or for a text, which they do only where
-- `clap` doesn't take them, as `--help`.
abbrev pub Asks : List (List ℕ) → ServeAsk → Type 0
Asks words (Serve service) = AsksFor (found_in words) service
Asks words (Tell text) = are_taken words ≡ false

-- Words are faulty: `clap` doesn't take them, or they ask for no service.
abbrev pub IsFaulty : List (List ℕ) → Type 0
IsFaulty words = (are_taken words ≡ false)
    ⊎ ((service : ServeWords) → AsksFor (found_in words) service → ⊥)

-- an answer that tells that words are faulty
abbrev pub IsFault : WordsError → Type 0
IsFault (Faulty why) = Unit {0}
IsFault Memory = ⊥

-- what is asked for is a text
abbrev pub IsText : ServeAsk → Type 0
IsText (Serve words) = ⊥
IsText (Tell text) = Unit {0}

abbrev pub TellsFault : {X : Type 0} → Result X WordsError → Type 0
TellsFault (Ok x) = ⊥
TellsFault (Err error) = IsFault error
