-- A front of a history, and the entry behind it.
use Rattle.std.proofs.Common.{◌≡◌, ◌+◌, ◌<◌, ◌≤◌, ℕ, zero, suc, List, [], ◌∷◌, ◌++◌, length, take, drop, get_or, slice_get, Some, None, refl, sym, ap, subst, ◌∙◌, arith}
use Rattle.std.proofs.lemmas.List.{append-nil, append_assoc, take-append-drop}
use Rattle.std.proofs.lemmas.Option.{get_or_from_slice_get, slice_get_within}
use Rattle.app_world.specs.TraceItem.{TraceItem}
use Rattle.app_world.specs.World.{items, items_of}
use Rattle.document_records.proofs.Loops.{one_more}
use Rattle.portal_steps.specs.Story.{Story, cost_with, limit_of, state_now}
use Rattle.portal_model.specs.declared.entry.Entry.{Entry}
use Rattle.portal_model.specs.declared.opening.OpeningState.{OpeningState}
use Rattle.portal_model.specs.History.{EachLawful, cost, cost_of, run}
use Rattle.portal_model.specs.Lawful.{Lawful}
use Rattle.portal_model.specs.Opening.{is_told, opened}
use Rattle.portal_model.specs.State.{State}
use Rattle.portal_model.specs.Step.{after}
use Rattle.portal_model.proofs.Histories.{EachLawful-rest, cost-append, run-append}
use Rattle.history_trace.specs.Replayed.{Begins, GoesOn, HasRoom, IsAt}

items-append : (app : List ℕ) (h more : List Entry) (s : State) → items app s (h ++ more) ≡ items app s h ++ items app (run s h) more
items-append app [] more s = refl
items-append app (e ∷ es) more s =
    ap (λ (xs : List TraceItem). items_of app s e ++ xs) (items-append app es more (after s e)) ∙ sym (append_assoc (items_of app s e) (items app (after s e) es) (items app (run (after s e) es) more))

-- there is an entry at each place
pub some-there : (h : List Entry) (i : ℕ) → i < length h → None ≡ slice_get h i → ⊥
some-there [] i l e = omega arith
some-there (x ∷ h) zero l e = cc
some-there (x ∷ h) (suc i) l e = some-there h i (omega arith) e

module _ (h : List Entry) (i : ℕ) (e : Entry) (there : Some e ≡ slice_get h i) where
  inside : i < length h
  inside = slice_get_within h i e (sym there)

  is : e ≡ get_or h i e
  is = sym (get_or_from_slice_get h i e e (sym there))

  whole : h ≡ take i h ++ e ∷ drop (i + 1) h
  whole =
      sym (take-append-drop (i + 1) h)
      ∙ (ap (λ (xs : List Entry). xs ++ drop (i + 1) h) (one_more h i e inside is) ∙ append_assoc (take i h) (e ∷ []) (drop (i + 1) h))

  pub run-next : (s : State) → run s (take (i + 1) h) ≡ after (run s (take i h)) e
  run-next s = ap (run s) (one_more h i e inside is) ∙ run-append (take i h) (e ∷ []) s

  pub items-next : (app : List ℕ) (s : State) → items app s (take (i + 1) h) ≡ items app s (take i h) ++ items_of app (run s (take i h)) e
  items-next app s =
      ap (items app s) (one_more h i e inside is)
      ∙ (items-append app (take i h) (e ∷ []) s ∙ ap (λ (xs : List TraceItem). items app s (take i h) ++ xs) (append-nil (items_of app (run s (take i h)) e)))

  pub lawful-next : (s : State) → EachLawful s h → Lawful (run s (take i h)) e
  lawful-next s l = (EachLawful-rest (take i h) (e ∷ drop (i + 1) h) s (subst (EachLawful s) whole l)).0

  cost-next : cost (take (i + 1) h) ≡ cost (take i h) + cost_of e.request
  cost-next =
      let joined : cost (take (i + 1) h) ≡ cost (take i h) + cost (e ∷ []) = ap cost (one_more h i e inside is) ∙ cost-append (take i h) (e ∷ []) in
      omega (arith, joined)

  cost-within : cost (take i h) + cost_of e.request ≤ cost h
  cost-within =
      let joined : cost h ≡ cost (take i h) + cost (e ∷ drop (i + 1) h) = ap cost whole ∙ cost-append (take i h) (e ∷ drop (i + 1) h) in
      let first : cost (e ∷ drop (i + 1) h) ≡ cost (e ∷ []) + cost (drop (i + 1) h) = cost-append (e ∷ []) (drop (i + 1) h) in
      omega (arith, joined, first)

  module _ (o : OpeningState) (p : Story) (at : IsAt o (take i h) p) where
    pub lawful-there : EachLawful (opened o) h → Lawful (state_now p) e
    lawful-there l = subst (λ (s : State). Lawful s e) (sym at.state) (lawful-next (opened o) l)

    pub room-there : cost h ≤ o.limits.history → HasRoom p e
    room-there k =
        let costs : cost p.history ≤ cost (take i h) = at.cost in
        let limit : limit_of p ≡ o.limits.history = at.limit in
        let within : cost (take i h) + cost_of e.request ≤ cost h = cost-within in
        record { told = at.told; room = omega (arith, costs, limit, within, k) }

    pub at-next : (new : Story) → GoesOn p e new → IsAt o (take (i + 1) h) new
    at-next new g =
        let costs : cost p.history ≤ cost (take i h) = at.cost in
        let more : cost new.history ≤ cost_with p e.request = g.cost in
        let next : cost (take (i + 1) h) ≡ cost (take i h) + cost_of e.request = cost-next in
        record {
          told = ap is_told g.began ∙ at.told;
          limit = g.limit ∙ at.limit;
          state = g.state ∙ (ap (λ (s : State). after s e) at.state ∙ sym (run-next (opened o)));
          cost = omega (arith, costs, more, next);
        }

-- nothing of a history was replayed
pub at-first : (o : OpeningState) (p : Story) → Begins o p → IsAt o [] p
at-first o p b =
    let none : cost p.history ≡ cost [] = ap cost b.history in
    record { told = ap is_told b.began; limit = b.limit; state = b.state; cost = omega (arith, none) }
