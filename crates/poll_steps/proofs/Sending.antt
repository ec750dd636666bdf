-- What is sent, and then more.
use Rattle.std.proofs.Common.{◌≡◌, ℕ, ◌+◌, ◌<◌, List, [], ◌∷◌, ◌++◌, length, get_or, take, drop, Option, refl, sym, ap, ◌∙◌, arith}
use Rattle.std.proofs.lemmas.List.{append-nil, append_assoc, length-append, take-append-drop, take_more}
use Rattle.session.specs.Items.{joined}
use Rattle.session.proofs.DidItems.{joined-append}
use Rattle.poll_ends.specs.Outside.{appended}
use Rattle.poll_laws.proofs.Joining.{appended_none, appended_on}
use Rattle.poll_steps.specs.Steps.{Sent}

pub sent_none : (old : List ℕ) (told : Option (List ℕ)) → Sent old told old told
sent_none old told = record { written = []; bytes = refl; went_out = appended_none told }

-- a front of what was left is sent too
pub sent_more : (old : List ℕ) (told : Option (List ℕ)) (rest : List ℕ) (then : Option (List ℕ)) (n : ℕ) (now : Option (List ℕ)) → Sent old told rest then → now ≡ appended then (take n rest) → Sent old told (drop n rest) now
sent_more old told rest then n now h e = record {
  written = h.written ++ take n rest;
  bytes = h.bytes ∙ (ap (λ (z : List ℕ). h.written ++ z) (sym (take-append-drop n rest)) ∙ sym (append_assoc h.written (take n rest) (drop n rest)));
  went_out = e ∙ (ap (λ (z : Option (List ℕ)). appended z (take n rest)) h.went_out ∙ appended_on told h.written (take n rest));
}

-- ---- pieces

pub joined_more : (ps : List (List ℕ)) (i : ℕ) (p : List ℕ) → i < length ps → p ≡ get_or ps i p → joined (take i ps) ++ p ≡ joined (take (i + 1) ps)
joined_more ps i p lt is =
    ap (λ (z : List ℕ). joined (take i ps) ++ z) (sym (append-nil p))
    ∙ (sym (joined-append (take i ps) (p ∷ []))
    ∙ ap joined (ap (λ (z : List ℕ). take i ps ++ z ∷ []) is ∙ sym (take_more ps i p lt)))

-- one more piece behind the others
pub put_more : (before front now : List ℕ) (ps : List (List ℕ)) (i : ℕ) (p : List ℕ) → i < length ps → p ≡ get_or ps i p → front ≡ before ++ joined (take i ps) → now ≡ front ++ p → now ≡ before ++ joined (take (i + 1) ps)
put_more before front now ps i p lt is e n =
    n ∙ (ap (λ (z : List ℕ). z ++ p) e ∙ (append_assoc before (joined (take i ps)) p ∙ ap (λ (z : List ℕ). before ++ z) (joined_more ps i p lt is)))
