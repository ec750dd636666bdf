use Rattle.std.proofs.Common.{◌≡◌, ℕ, ◌+◌, ◌-◌, ◌≤◌, List, [], ◌∷◌, length, drop, sym, ap, ◌∙◌, arith, length-drop}
use Rattle.std.proofs.lemmas.Bool.Decides.{nat_tests}
use Rattle.std.proofs.lemmas.List.{drop_all}
use Rattle.std.specs.Ordering.{nat_cmp}
use Rattle.portal_base.specs.PathOrder.{path_order}
use Rattle.portal_base.proofs.names.host_path.path_order.Goals as goal
use Rattle.portal_base.proofs.names.host_path.path_order.Goals.{then-loop-at-test+else-at-second, else-loop-at-test}

-- nothing comes ahead of anything else
nothing-first : (n : ℕ) (xs : List ℕ) (m : ℕ) → m ≡ length xs + n → nat_cmp n m ≡ path_order [] xs
nothing-first n [] m e = grind (arith, nat_tests)
nothing-first n (x ∷ xs) m e = grind (arith, nat_tests)

nothing-second : (n : ℕ) (xs : List ℕ) (m : ℕ) → m ≡ length xs + n → nat_cmp m n ≡ path_order xs []
nothing-second n [] m e = grind (arith, nat_tests)
nothing-second n (x ∷ xs) m e = grind (arith, nat_tests)

first-ends : (a b : List ℕ) (at : ℕ) → at ≤ length a → at ≤ length b → length a ≤ at → nat_cmp (length a) (length b) ≡ path_order (drop at a) (drop at b)
first-ends a b at l m e =
    let d : length (drop at b) ≡ length b - at = length-drop at b in
    nothing-first (length a) (drop at b) (length b) (omega arith) ∙ ap (λ (xs : List ℕ). path_order xs (drop at b)) (sym (drop_all at a e))

second-ends : (a b : List ℕ) (at : ℕ) → at ≤ length a → at ≤ length b → length b ≤ at → nat_cmp (length a) (length b) ≡ path_order (drop at a) (drop at b)
second-ends a b at l m e =
    let d : length (drop at a) ≡ length a - at = length-drop at a in
    nothing-second (length b) (drop at a) (length a) (omega arith) ∙ ap (λ (xs : List ℕ). path_order (drop at a) xs) (sym (drop_all at b e))

pub returns : goal.returns
returns c =
    let first = c.args.first.now in
    let second = c.args.second.now in
    let i = c.loop-at.invariant in
    elim c.loop-at-test.branch [
      | then-loop-at-test+else-at-second w ↦ c.cmp-2.ensures ∙ (second-ends first second c.loop-at.at i.1 i.2 w.if-at-second.false ∙ i.0)
      | else-loop-at-test w ↦ c.cmp-2.ensures ∙ (first-ends first second c.loop-at.at i.1 i.2 w.loop-at-test.false ∙ i.0)
    ]
