-- Pieces, as the bytes that they are together.
use Rattle.std.proofs.Common.{◌≡◌, ◌≤◌, inl, inr, ℕ, List, [], ◌∷◌, ◌++◌, length, take, Option, Some, None, refl, sym, ap, ◌∙◌, arith}
use Rattle.std.proofs.lemmas.List.{append-nil, take_all}
use Rattle.portal_base.specs.Outside.{HasRisen, Short, onto}
use Rattle.session.specs.Items.{joined}
use Rattle.session.proofs.DidItems.{joined-append}
use Rattle.poll_ends.specs.Outside.{Faulted, appended, faults_alone, flat}

pub flat_onto : (o : Option (List (List ℕ))) (ps : List (List ℕ)) → flat (onto o ps) ≡ appended (flat o) (joined ps)
flat_onto None ps = refl
flat_onto (Some told) ps = ap Some (joined-append told ps)

-- a front of one piece is a front of its bytes
pub front_of_one : (ws : List (List ℕ)) (p : List ℕ) → Short ws (p ∷ []) → (k : ℕ) × (joined ws ≡ take k p)
front_of_one [] p h = (0, refl)
front_of_one (w ∷ []) p (inl (is, rest)) = (length p, append-nil w ∙ (is ∙ sym (take_all (length p) p (omega arith))))
front_of_one (w ∷ x ∷ ws) p (inl (is, rest)) = absurd rest
front_of_one (w ∷ ws) p (inr (k, is, none)) = (k, ap (λ (z : List (List ℕ)). w ++ joined z) none ∙ (append-nil w ∙ is))

-- all bytes of one piece
pub all_written : (o n : Option (List (List ℕ))) (p : List ℕ) → n ≡ onto o (p ∷ []) → flat n ≡ appended (flat o) (take (length p) p)
all_written o n p e =
    ap flat e ∙ (flat_onto o (p ∷ []) ∙ ap (appended (flat o)) (append-nil p ∙ sym (take_all (length p) p (omega arith))))

-- or a front of them
pub front_written : (o n : Option (List (List ℕ))) (p : List ℕ) → (written : List (List ℕ)) × Short written (p ∷ []) × (n ≡ onto o written) → (k : ℕ) × (flat n ≡ appended (flat o) (take k p))
front_written o n p (ws, short, e) =
    let front = front_of_one ws p short in
    (front.0, ap flat e ∙ (flat_onto o ws ∙ ap (appended (flat o)) front.1))

-- ---- counts of what never waits

pub same_faults : (m n : ℕ) → n ≡ m → faults_alone n ≡ faults_alone m
same_faults m n e = ap faults_alone e

pub one_fault : (m n : ℕ) → (m ≤ n) × HasRisen m n → Faulted (faults_alone m) (faults_alone n)
one_fault m n h = record { falls = record { faults = h.0; waits = omega arith }; risen = h.1; waits = refl }
