-- Histories that are joined.
use Rattle.std.proofs.Common.{◌≡◌, ℕ, ◌+◌, List, [], ◌∷◌, ◌++◌, refl}
use Rattle.std.proofs.lemmas.List.Elements.{filter-append}
use Rattle.std.proofs.lemmas.List.Sums.{sum_by-append}
use Rattle.portal_model.specs.declared.entry.Entry.{Entry}
use Rattle.portal_model.specs.History.{run, EachLawful, Legal, cost, cost_of, of_seat}
use Rattle.portal_model.specs.State.{State}
use Rattle.portal_model.specs.Step.{after}
use Rattle.portal_model.proofs.ValidLaws.{run-Valid}

-- a run of two lists joined is a run after a run
pub run-append : (h more : List Entry) (s : State) → run s (h ++ more) ≡ run (run s h) more
run-append [] more s = refl
run-append (e ∷ es) more s = run-append es more (after s e)

pub EachLawful-append : (h more : List Entry) (s : State) → EachLawful s h → EachLawful (run s h) more → EachLawful s (h ++ more)
EachLawful-append [] more s l m = m
EachLawful-append (e ∷ es) more s l m = (l.0, EachLawful-append es more (after s e) l.1 m)

pub EachLawful-front : (h more : List Entry) (s : State) → EachLawful s (h ++ more) → EachLawful s h
EachLawful-front [] more s l = tt
EachLawful-front (e ∷ es) more s l = (l.0, EachLawful-front es more (after s e) l.1)

pub EachLawful-rest : (h more : List Entry) (s : State) → EachLawful s (h ++ more) → EachLawful (run s h) more
EachLawful-rest [] more s l = l
EachLawful-rest (e ∷ es) more s l = EachLawful-rest es more (after s e) l.1

-- legal histories joined, and taken apart

pub Legal-append : (h more : List Entry) (s : State) → Legal s h → Legal (run s h) more → Legal s (h ++ more)
Legal-append h more s l m = record { opening = l.opening; lawful = EachLawful-append h more s l.lawful m.lawful }

pub Legal-front : (h more : List Entry) (s : State) → Legal s (h ++ more) → Legal s h
Legal-front h more s l = record { opening = l.opening; lawful = EachLawful-front h more s l.lawful }

pub Legal-rest : (h more : List Entry) (s : State) → Legal s (h ++ more) → Legal (run s h) more
Legal-rest h more s l = record { opening = run-Valid h s (Legal-front h more s l); lawful = EachLawful-rest h more s l.lawful }

pub cost-append : (h more : List Entry) → cost (h ++ more) ≡ cost h + cost more
cost-append h more = sum_by-append (λ (e : Entry). cost_of e.request) h more

pub of_seat-append : (seat : ℕ) (h more : List Entry) → of_seat seat (h ++ more) ≡ of_seat seat h ++ of_seat seat more
of_seat-append seat h more = filter-append _ h more
