-- The connection of the seat, while a session is polled.
use Rattle.std.proofs.Common.{◌≡◌, List, [], true, Option, Some, None, is_some, refl, sym, ap, ◌∙◌, subst}
use Rattle.std.specs.Option.{option_map}
use Rattle.portal_desk.specs.Knowing.{Known}
use Rattle.portal_desk.specs.Trying.{IsPutOff}
use Rattle.portal_model.specs.declared.request.Request.{Request}
use Rattle.portal_model.specs.declared.state.Connection.{Connection}
use Rattle.portal_model.specs.Seated.{Binding, Seated, binding_of, bound, is_open, state_seen}
use Rattle.portal_model.specs.State.{connection_of}
use Rattle.session.specs.declared.act.Client.{Client}
use Rattle.session.specs.Answers.{Outcome, kept}
use Rattle.session.specs.Asked.{requests_of}
use Rattle.session.specs.Ledger.{Grew}
use Rattle.session.specs.Sessions.{IsOpen}
use Rattle.session.proofs.AnswersAsked.{asked_go}
use Rattle.session.proofs.ConnectionStaysOpen.{IsPlain, Lets, entries_of, entries_stay, grew_bound, items_plain, makes_of, open_of}
use Rattle.poll_laws.specs.Courses.{Around, Inside, Place, Sight, Standing, place_of}
use Rattle.poll_laws.specs.Polls.{Deeds, Runs}
use Rattle.poll_steps.proofs.Asking.{put_off_grew}

-- ---- whether there is one

bound_some : (o : Option Connection) → is_some (option_map binding_of o) ≡ is_some o
bound_some None = refl
bound_some (Some c) = refl

open_by : (d : Seated) → is_some (bound (state_seen d) d.seat) ≡ is_open (state_seen d) d.seat
open_by d = bound_some (connection_of (state_seen d).connections d.seat)

-- where the binding is the same
pub same_open : (v w : Seated) → bound (state_seen w) w.seat ≡ bound (state_seen v) v.seat → is_open (state_seen w) w.seat ≡ is_open (state_seen v) v.seat
same_open v w e = sym (open_by w) ∙ (ap (λ (o : Option Binding). is_some o) e ∙ open_by v)

-- and it is where the connection is left
pub left_open : (v w : Seated) → Known v → Known w → Lets v w → is_open (state_seen w) w.seat ≡ is_open (state_seen v) v.seat
left_open v w a b (os, grew, plain) = same_open v w (grew_bound v w os a b grew ∙ entries_stay (entries_of (kept os)) _ plain)

-- of this client
pub client_open : (c : Client) (d : Seated) → IsOpen c d → is_open (state_seen d) d.seat ≡ true
client_open c d is = open_of c d is

-- ---- a busy desk

pub put_off_same : (a b : Seated) (request again : Request) → Known a → Known b → IsPutOff a request again b → is_open (state_seen b) b.seat ≡ is_open (state_seen a) a.seat
put_off_same a b request again ka kb off = left_open a b ka kb ([], put_off_grew a b request again off, tt)

-- ---- items

module _ (s : Standing) (v : Sight) (d : Deeds) (t : Standing) (w : Sight) (h : Runs s v d t w) (from : place_of s.turn ≡ Inside) (to : place_of t.turn ≡ Inside) where
  came_is : d.came ≡ d.outcomes
  came_is =
      subst (λ (q : Place). Around s.client Inside d.came d.outcomes q) to
      (subst (λ (p : Place). Around s.client p d.came d.outcomes (place_of t.turn)) from h.around)

  lets : Lets v.seated w.seated
  lets = (
    d.outcomes,
    subst (λ (z : List Outcome). Grew v.seated z w.seated) came_is h.grew,
    makes_of IsPlain (requests_of d.acts) d.outcomes (items_plain d.items s.client s.stage.phase d.acts h.each) (asked_go d.acts s.client s.stage.serial h.last d.outcomes d.pieces h.answers),
  )

  pub stays_connected : Known v.seated → Known w.seated → is_open (state_seen w.seated) w.seated.seat ≡ is_open (state_seen v.seated) v.seated.seat
  stays_connected a b = left_open v.seated w.seated a b lets
