-- Fronts of one history, and the exchanges of a seat in them.
use Rattle.std.proofs.Common.{◌≡◌, ℕ, List, [], ◌∷◌, ◌++◌, map, refl, sym, ap, ◌∙◌}
use Rattle.std.proofs.lemmas.List.{append_assoc, append-nil, append_cancel_left}
use Rattle.portal_model.specs.declared.entry.Entry.{Entry}
use Rattle.portal_model.specs.History.{run, of_seat}
use Rattle.portal_model.specs.Seated.{BeginsWith, Exchange, exchanges}
use Rattle.portal_model.specs.State.{State}
use Rattle.portal_model.proofs.SeatLaws.{begins-lengths, begins-whole, exchanges-append, exchanges-entries}

pub begins-longer : (h i : List Entry) (e : Entry) → BeginsWith h i → BeginsWith (h ++ e ∷ []) i
begins-longer h i e p = (p.0 ++ e ∷ [], ap (λ (x : List Entry). x ++ e ∷ []) p.1 ∙ append_assoc i p.0 (e ∷ []))

-- two histories that begin with each other are one
pub begins-both : (h i : List Entry) → BeginsWith h i → BeginsWith i h → i ≡ h
begins-both h i p q = sym (begins-whole h i p (begins-lengths i h q))

no_more : (xs ys : List Exchange) → xs ≡ xs ++ ys → ys ≡ []
no_more xs ys h = append_cancel_left xs ys [] (sym h ∙ sym (append-nil xs))

front_empty : (xs ys : List Exchange) → xs ++ ys ≡ [] → xs ≡ []
front_empty [] ys h = refl
front_empty (x ∷ xs) ys h = absurd (cc)

-- what lies between a front that has all exchanges of a seat and the whole has them too
pub exchanges-between : (n : ℕ) (o : State) (log x y : List Entry) → BeginsWith log x → BeginsWith x y → exchanges n o y ≡ exchanges n o log → exchanges n o x ≡ exchanges n o log
exchanges-between n o log x y p q same =
    let whole : log ≡ y ++ (q.0 ++ p.0) = p.1 ∙ (ap (λ (z : List Entry). z ++ p.0) q.1 ∙ append_assoc y q.0 p.0) in
    let parts : exchanges n o log ≡ exchanges n o y ++ exchanges n (run o y) (q.0 ++ p.0) = ap (exchanges n o) whole ∙ exchanges-append n y (q.0 ++ p.0) o in
    let none : exchanges n (run o y) (q.0 ++ p.0) ≡ [] = no_more (exchanges n o y) (exchanges n (run o y) (q.0 ++ p.0)) (same ∙ parts) in
    let none' : exchanges n (run o y) q.0 ≡ [] =
    front_empty (exchanges n (run o y) q.0) (exchanges n (run (run o y) q.0) p.0) (sym (exchanges-append n q.0 p.0 (run o y)) ∙ none) in
    ap (exchanges n o) q.1 ∙ (exchanges-append n y q.0 o ∙ (ap (λ (z : List Exchange). exchanges n o y ++ z) none' ∙ (append-nil (exchanges n o y) ∙ same)))

-- where the exchanges of a seat are the same in two histories, so are its entries
pub entries-same : (n : ℕ) (o : State) (h i : List Entry) → exchanges n o h ≡ exchanges n o i → of_seat n h ≡ of_seat n i
entries-same n o h i e = sym (exchanges-entries n h o) ∙ (ap (map (λ (x : Exchange). x.entry)) e ∙ exchanges-entries n i o)
