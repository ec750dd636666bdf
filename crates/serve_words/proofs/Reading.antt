-- What `clap` finds is what is found of the words.
use Rattle.std.proofs.Common.{◌≡◌, ℕ, List, Bool, true, false, Result, Ok, Err, IfOk, inl, inr, refl, sym, subst}
use Rattle.clap.specs.Matches.{found_of}
use Rattle.clap.specs.Simple.{App, HasMatchesOf, is_simple}
use Rattle.clap.specs.Takes.{takes}
use Rattle.clap.specs.Walk.{Row, rows_of}
use Rattle.clap.specs.declared.parser.matches.ArgMatches.{ArgMatches}
use Rattle.serve_words.specs.declared.words.ServeAsk.{ServeAsk}
use Rattle.serve_words.specs.declared.words.ServeAsk.TheVariants.{Serve, Tell}
use Rattle.serve_words.specs.declared.words.ServeWords.{ServeWords}
use Rattle.serve_words.specs.declared.words.WordsError.{WordsError}
use Rattle.serve_words.specs.Form.{are_taken, found_in, serve_form}
use Rattle.serve_words.specs.Words.{Asks, AsksFor, AsksOneOf, IsFaulty, IsText, TellsFault}

simple : is_simple serve_form ≡ true
unfolding serve_form
simple = refl

pub is_found : (app : App) (words : List (List ℕ)) (m : ArgMatches) → app ≡ serve_form → HasMatchesOf app words m → rows_of (found_of m) ≡ found_in words
unfolding found_in
is_found app words m e has = (subst (λ (a : App). HasMatchesOf a words m) e has simple).0

isnt : (b : Bool) → (b ≡ true → ⊥) → b ≡ false
isnt true never = absurd (never refl)
isnt false never = refl

-- ---- words that `clap` takes

pub asks_found : (words : List (List ℕ)) (rows : List Row) (r : Result ServeAsk WordsError) → rows ≡ found_in words → IfOk r (AsksOneOf rows) → IfOk r (Asks words)
asks_found words rows (Ok (Serve s)) is asks = subst (λ (f : List Row). AsksFor f s) is asks
asks_found words rows (Ok (Tell t)) is asks = absurd asks
asks_found words rows (Err e) is asks = tt

pub faulty_found : (words : List (List ℕ)) (rows : List Row) (r : Result ServeAsk WordsError) → rows ≡ found_in words → (TellsFault r → (service : ServeWords) → AsksFor rows service → ⊥) → TellsFault r → IsFaulty words
faulty_found words rows r is none told = inr (λ service asks. none told service (subst (λ (f : List Row). AsksFor f service) (sym is) asks))

-- ---- words that it doesn't take, but for want of memory

takes_none : (app : App) (words : List (List ℕ)) (Wants : Type 0) → app ≡ serve_form → (takes app words ≡ true → Wants) → (Wants → ⊥) → are_taken words ≡ false
unfolding are_taken
takes_none app words Wants e passes wants = isnt (takes serve_form words) (λ yes. wants (subst (λ (a : App). takes a words ≡ true → Wants) e passes yes))

pub asks_text : (app : App) (words : List (List ℕ)) (Wants : Type 0) (r : Result ServeAsk WordsError) → app ≡ serve_form → (takes app words ≡ true → Wants) → IfOk r (λ ask. IsText ask × (Wants → ⊥)) → IfOk r (Asks words)
asks_text app words Wants (Ok (Serve s)) e passes asks = absurd asks.0
asks_text app words Wants (Ok (Tell t)) e passes asks = takes_none app words Wants e passes asks.1
asks_text app words Wants (Err x) e passes asks = tt

pub faulty_words : (app : App) (words : List (List ℕ)) (Wants : Type 0) (r : Result ServeAsk WordsError) → app ≡ serve_form → (takes app words ≡ true → Wants) → (TellsFault r → Wants → ⊥) → TellsFault r → IsFaulty words
faulty_words app words Wants r e passes wants told = inl (takes_none app words Wants e passes (wants told))
