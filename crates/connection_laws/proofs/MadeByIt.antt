-- An application makes each entry of its connection.
use Rattle.std.proofs.Common.{◌≡◌, ℕ, ◌==◌, List, [], ◌∷◌, Bool, true, false, cond, Option, refl, sym, ap, ◌∙◌, subst, arith}
use Rattle.std.proofs.lemmas.Bool.Decides.{nat_tests}
use Rattle.portal_model.specs.declared.entry.Entry.{Entry}
use Rattle.portal_model.specs.History.{of_seat}
use Rattle.portal_model.specs.Seated.{Binding, bound, bound_after, bound_by}
use Rattle.portal_model.specs.State.{State, connection_of}
use Rattle.portal_model.specs.Step.{after}
use Rattle.portal_model.proofs.SeatLaws.{run-bound}
use Rattle.session.proofs.ServedTraces.{IsMakers, made_by_bound}
use Rattle.connection_laws.proofs.Places.{AllMade}

-- whoever has the seat may have made each of these
abbrev pub EachOurs : List ℕ → Option Binding → List Entry → Type 0
EachOurs app b [] = Unit {0}
EachOurs app b (e ∷ es) = IsMakers app b e.request × EachOurs app (bound_after b e.request) es

module _ (app : List ℕ) (seat : ℕ) where
  -- what is open behind an entry of any seat
  bound_behind : (s : State) (e : Entry) (b : Option Binding) → bound s seat ≡ b → bound (after s e) seat ≡ bound_by b (of_seat seat (e ∷ []))
  bound_behind s e b h = run-bound seat (e ∷ []) s ∙ ap (λ (o : Option Binding). bound_by o (of_seat seat (e ∷ []))) h

  pub all-made : (h : List Entry) (s : State) (b : Option Binding) → bound s seat ≡ b → EachOurs app b (of_seat seat h) → AllMade app seat s h
  all-made [] s b h k = tt
  all-made (e ∷ es) s b h k = by_test (e.seat == seat) (all-made es (after s e)) refl k (bound_behind s e b h)
    where
      apart : (n m : ℕ) → (n == m) ≡ false → n ≡ m → ⊥
      apart n m e k = grind (arith, nat_tests)

      same : (n m : ℕ) → (n == m) ≡ true → n ≡ m
      same n m e = grind (arith, nat_tests)

      by_test : (t : Bool) → ((o : Option Binding) → bound (after s e) seat ≡ o → EachOurs app o (of_seat seat es) → AllMade app seat (after s e) es) → (e.seat == seat) ≡ t → EachOurs app b (cond t (e ∷ of_seat seat es) (of_seat seat es)) → bound (after s e) seat ≡ bound_by b (cond t (e ∷ []) []) → AllMade app seat s (e ∷ es)
      by_test true rest own k then =
          let here : bound s e.seat ≡ b = ap (bound s) (same e.seat seat own) ∙ h in
          (λ _. made_by_bound app (connection_of s.connections e.seat) e.request (subst (λ (o : Option Binding). IsMakers app o e.request) (sym here) k.0), rest (bound_after b e.request) then k.1)
      by_test false rest other k then = (λ own. absurd (apart e.seat seat other own), rest b then k)
