-- Bytes ahead of those that are told.
use Rattle.std.proofs.Common.{◌≡◌, ◌<◌, ℕ, List, [], ◌++◌, length, Option, Some, None, refl, sym, ap, ◌∙◌, subst, append_assoc, arith}
use Rattle.script_command.specs.Inputs.{script_limit}
use Rattle.portal_base.specs.Outside.{behind}

pub behind_none : (o : Option (List ℕ)) → o ≡ behind [] o
behind_none None = refl
behind_none (Some told) = refl

pub behind_more : (a b : List ℕ) (o : Option (List ℕ)) → behind a (behind b o) ≡ behind (a ++ b) o
behind_more a b None = refl
behind_more a b (Some told) = ap Some (sym (append_assoc a b told))

-- a text that was read, and then a piece
pub read_on : (first between last : Option (List ℕ)) (text piece : List ℕ) → first ≡ behind text between → between ≡ behind piece last → first ≡ behind (text ++ piece) last
read_on first between last text piece front back = front ∙ (ap (behind text) back ∙ behind_more text piece last)

-- a text that was read, and then a piece with which it is too long
pub too_long : (first between last : Option (List ℕ)) (text piece lent grown : List ℕ) (n : ℕ) → first ≡ behind text between → between ≡ behind piece last
    → lent ≡ piece → grown ≡ text ++ lent → n ≡ length grown → script_limit < n → (x : List ℕ) × (first ≡ behind x last) × (script_limit < length x)
too_long first between last text piece lent grown n front back same long len h =
    (grown, subst (λ (x : List ℕ). first ≡ behind x last) (sym (long ∙ ap (λ (p : List ℕ). text ++ p) same)) (read_on first between last text piece front back), omega arith)
