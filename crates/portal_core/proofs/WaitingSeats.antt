-- Who waits for signals, by the boxes that hold them.
use Rattle.std.specs.Prelude.{◌≢◌, ◌↔◌, IsTrue}
use Rattle.std.proofs.Common.{◌≡◌, ℕ, List, [], ◌∷◌, Bool, true, false, not, cond, Option, Some, None, unwrap_or, refl, sym, ap, subst, ◌∙◌}
use Rattle.change_signals.specs.Unsent.{Boxes, IsWaiting, unsent_on}
use Rattle.portal_model.specs.declared.reply.Change.{Change}
use Rattle.portal_model.specs.declared.state.Connection.{Connection}
use Rattle.portal_model.specs.State.{State, connection_of, is_none}
use Rattle.portal_model.specs.Valid.{Valid, is_host_bus}
use Rattle.portal_model.proofs.WhoWaits.{found-quiet}
use Rattle.store_serving.specs.Waiting.{AreWaiting, box_on}
use Rattle.portal_core.specs.Waiting.{has_unsent, is_waiting}

-- a test of whether some are there
some_there : (b : Bool) (cs : List Change) → (IsTrue b ↔ (cs ≢ [])) → b ≡ not (is_none cs)
some_there true [] h = absurd (h.0 refl refl)
some_there true (c ∷ cs) h = refl
some_there false [] h = refl
some_there false (c ∷ cs) h =
    let no : false ≡ true = h.1 (λ e. cc) in
    absurd (cc)

module _ (s : State) (seat : ℕ) (boxes : Boxes) (valid : Valid s) (waits : AreWaiting s.connections boxes) where
  in_box : (c : Connection) (t : Bool) → connection_of s.connections seat ≡ Some c → is_host_bus c.who c.kind ≡ t → unwrap_or (cond t (Some c.unsent) None) [] ≡ c.unsent
  in_box c true found is = refl
  in_box c false found is = sym (found-quiet s seat c valid found is)

  by_box : (b : Bool) (o : Option Connection) → connection_of s.connections seat ≡ o → (IsTrue b ↔ (unwrap_or (unsent_on boxes seat) [] ≢ [])) → b ≡ has_unsent o
  by_box b None found h = some_there b [] (subst (λ (cs : List Change). IsTrue b ↔ (cs ≢ [])) (ap (λ (o : Option (List Change)). unwrap_or o []) (waits seat ∙ ap box_on found)) h)
  by_box b (Some c) found h =
      some_there b c.unsent (subst (λ (cs : List Change). IsTrue b ↔ (cs ≢ [])) (ap (λ (o : Option (List Change)). unwrap_or o []) (waits seat ∙ ap box_on found) ∙ in_box c (is_host_bus c.who c.kind) found refl) h)

  pub waits_as : (b : Bool) → (IsTrue b ↔ IsWaiting boxes seat) → b ≡ is_waiting s seat
  waits_as b h = by_box b (connection_of s.connections seat) refl h
