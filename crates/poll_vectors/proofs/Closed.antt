-- Where a history has no entry, no connection is open.
use Rattle.std.proofs.Common.{◌≡◌, ℕ, List, [], false, refl, sym, subst}
use Rattle.std.specs.Prelude.{is_some}
use Rattle.atomic_table.specs.Seated.{TableId}
use Rattle.portal_desk.specs.Opening.{IsOpeningState}
use Rattle.portal_model.specs.declared.entry.Entry.{Entry}
use Rattle.portal_model.specs.declared.state.Connection.{Connection}
use Rattle.portal_model.specs.History.{run}
use Rattle.portal_model.specs.Seated.{is_open, state_seen}
use Rattle.portal_model.specs.State.{State, connection_of}
use Rattle.turn_desk.specs.Deals.{IsDealt}
use Rattle.turn_desk.specs.Knowing.{View}
use Rattle.turn_desk.specs.Sights.{Sight, seated_of}

-- at no seat; the history is that of an opening state
pub none_open : (o p : State) (log : List Entry) (seat : ℕ) → IsOpeningState o → p ≡ o → log ≡ [] → is_open (run p log) seat ≡ false
none_open o p log seat started same none =
    subst (λ (l : List Entry). is_open (run p l) seat ≡ false) (sym none)
    (subst (λ (s : State). is_open s seat ≡ false) (sym same)
    (subst (λ (cs : List Connection). is_some (connection_of cs seat) ≡ false) (sym started.connections) refl))

-- so at none of a turn whose passes were dealt over it
pub none_dealt : (z : TableId) (o : State) (log : List Entry) (made seat : ℕ) (p : Sight) → IsDealt z o log made seat p → IsOpeningState o → log ≡ [] → is_open (state_seen (seated_of p)) p.knows.number ≡ false
none_dealt z o log made seat p dealt started none =
    subst (λ (v : View). is_open (run v.opening v.seen) v.number ≡ false) (sym dealt.view_is) (none_open o o log seat started refl none)
