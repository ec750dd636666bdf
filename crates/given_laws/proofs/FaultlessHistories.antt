-- A history with a Collect in the place of each entry in which a device failed.
use Rattle.std.specs.Prelude.{◌≢◌}
use Rattle.std.proofs.Common.{◌≡◌, ◌+◌, ◌≤◌, List, [], ◌∷◌, map, refl, sym, ap, subst, ◌∙◌, arith}
use Rattle.std.proofs.lemmas.List.Sums.{sum_by-cons}
use Rattle.portal_model.specs.declared.entry.Entry.{Entry}
use Rattle.portal_model.specs.declared.entry.Fault.{Fault}
use Rattle.portal_model.specs.History.{EachLawful, cost, cost_of, run}
use Rattle.portal_model.specs.Lawful.{Lawful}
use Rattle.portal_model.specs.State.{State}
use Rattle.portal_model.specs.Step.{after}
use Rattle.portal_model.specs.Valid.{Valid}
use Rattle.portal_model.proofs.ValidLaws.{after-Valid}
use Rattle.given_laws.specs.Faulted.{HistoriesGoWithoutFaults, collecting, collecting_if, without_fault}
use Rattle.given_laws.proofs.FaultLaws.{collecting-lawful, faults-change-nothing}

-- ---- one entry

module _ (s : State) (e : Entry) (v : Valid s) (l : Lawful s e) where
  by_fault : (P : Entry → Type 0) → P e → (e.given.fault ≢ Fault.None → P (collecting e.seat)) → (fault : Fault) → e.given.fault ≡ fault → P (collecting_if fault e)
  by_fault P itself failed Fault.None k = itself
  by_fault P itself failed Fault.Tree k = failed (λ none. let x : Fault.Tree ≡ Fault.None = sym k ∙ none in cc)
  by_fault P itself failed Fault.Keeper k = failed (λ none. let x : Fault.Keeper ≡ Fault.None = sym k ∙ none in cc)

  goes_lawful : Lawful s (without_fault e)
  goes_lawful = by_fault (λ x. Lawful s x) l (λ f. collecting-lawful s e.seat) e.given.fault refl

  goes_after : after s (without_fault e) ≡ after s e
  goes_after = by_fault (λ x. after s x ≡ after s e) refl (λ f. sym (faults-change-nothing.state s e v l f)) e.given.fault refl

  goes_cost : cost_of (without_fault e).request ≤ cost_of e.request
  goes_cost = by_fault (λ x. cost_of x.request ≤ cost_of e.request) (omega arith) (λ f. faults-change-nothing.costs s e l f) e.given.fault refl

-- ---- all of them

each_lawful : (h : List Entry) (s : State) → Valid s → EachLawful s h → EachLawful s (map without_fault h)
each_lawful [] s v l = tt
each_lawful (e ∷ h) s v l =
    (goes_lawful s e v l.0, subst (λ (t : State). EachLawful t (map without_fault h)) (sym (goes_after s e v l.0)) (each_lawful h (after s e) (after-Valid s e v l.0) l.1))

same_run : (h : List Entry) (s : State) → Valid s → EachLawful s h → run s (map without_fault h) ≡ run s h
same_run [] s v l = refl
same_run (e ∷ h) s v l = ap (λ (t : State). run t (map without_fault h)) (goes_after s e v l.0) ∙ same_run h (after s e) (after-Valid s e v l.0) l.1

cost_more : (e : Entry) (h : List Entry) → cost (e ∷ h) ≡ cost_of e.request + cost h
cost_more e h = sum_by-cons (λ (x : Entry). cost_of x.request) e h

no_more_cost : (h : List Entry) (s : State) → Valid s → EachLawful s h → cost (map without_fault h) ≤ cost h
no_more_cost [] s v l = omega arith
no_more_cost (e ∷ h) s v l =
    let one : cost_of (without_fault e).request ≤ cost_of e.request = goes_cost s e v l.0 in
    let more : cost (map without_fault h) ≤ cost h = no_more_cost h (after s e) (after-Valid s e v l.0) l.1 in
    omega (arith, cost_more (without_fault e) (map without_fault h), cost_more e h)

pub histories-go : HistoriesGoWithoutFaults
histories-go = record {
  legal = λ s h l. record { opening = l.opening; lawful = each_lawful h s l.opening l.lawful };
  run = λ s h l. same_run h s l.opening l.lawful;
  cost = λ s h l. no_more_cost h s l.opening l.lawful;
}
