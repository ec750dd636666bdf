-- Words that are numbers from 1 to 100,000.
use Rattle.std.proofs.Common.{◌≡◌, ◌≢◌, ℕ, ◌^◌, ◌<◌, ◌⊎◌, inl, inr, List, [], ◌∷◌, true, sym, subst, ◌∙◌, arith}
use Rattle.std.specs.Prelude.{codes}
use Rattle.std.specs.Fmt.{decimal}
use Rattle.std.proofs.lemmas.Fmt.{decimal_injective}
use Rattle.portal_base.specs.Names.{is_app_name}
use Rattle.script_command.specs.declared.command.Command.TheVariants.{Replay, Worlds, Generate}
use Rattle.script_command.specs.Commands.{IsCount, IsNoCommand, IsNoCount}

pub no_count : (word : List ℕ) → ((n : ℕ) → n < 2 ^ 64 → word ≢ decimal n) → IsNoCount word
no_count word none n is = let high = is.most in none n (omega arith) is.digits

pub no_count_of : (word : List ℕ) (n : ℕ) → n < 2 ^ 64 → word ≡ decimal n → (n ≡ 0) ⊎ (100000 < n) → IsNoCount word
no_count_of word n fits same out m is =
    let low = is.some in
    let high = is.most in
    let this : n ≡ m = decimal_injective n m fits (omega arith) (sym same ∙ is.digits) in
    elim out [ inl none ↦ absurd (omega arith) | inr much ↦ absurd (omega arith) ]

-- two words that ask for nothing
pub no_command : (first second : List ℕ) → (first ≡ codes "worlds" → is_app_name second ≡ true → ⊥) → (first ≡ codes "generate" → IsNoCount second) → IsNoCommand (first ∷ second ∷ [])
no_command first second world load Replay h = cc
no_command first second world load (Worlds app) (e, name) =
    let word : first ≡ codes "worlds" = cc in
    let same : app ≡ second = cc in
    world word (subst (λ (z : List ℕ). is_app_name z ≡ true) same name)
no_command first second world load (Generate n) (word, e, count) =
    let asked : first ≡ codes "generate" = cc in
    let same : word ≡ second = cc in
    load asked n (subst (λ (z : List ℕ). IsCount z n) same count)
