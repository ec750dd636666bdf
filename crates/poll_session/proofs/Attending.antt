-- The connection of the seat, while items are served.
use Rattle.std.proofs.Common.{◌≡◌, Bool, true, refl, sym, ap, ◌∙◌}
use Rattle.portal_desk.specs.Knowing.{Known}
use Rattle.poll_laws.specs.declared.course.Turn.{Turn}
use Rattle.poll_laws.specs.declared.course.Turn.TheVariants as turn
use Rattle.poll_laws.specs.Courses.{Fits, Inside, Sight, Standing, is_inside, place_of}
use Rattle.poll_laws.specs.Polls.{Deeds}
use Rattle.poll_steps.proofs.Connected.{stays_connected}
use Rattle.poll_session.specs.Serving.{Attends, Pauses}

paused_inside : (x : Turn) (s : Standing) (v : Sight) (d : Deeds) (t : Standing) (w : Sight) (yields : Bool) → Pauses x s v d t w yields → (place_of x ≡ Inside) × (is_inside x ≡ true)
paused_inside turn.Enter s v d t w yields h = absurd h
paused_inside turn.Serve s v d t w yields h = (refl, refl)
paused_inside (turn.Leave e) s v d t w yields h = (refl, refl)
paused_inside (turn.Over e) s v d t w yields h = absurd h

-- the items leave the connection open
pub attend_fits : (s : Standing) (v : Sight) (t : Standing) (w : Sight) (yields : Bool) → s.turn ≡ turn.Serve → Attends s v t w yields → Known v.seated → Known w.seated → Fits s.turn v.seated → Fits t.turn w.seated
attend_fits s v t w yields serves (d, runs, pauses, order) a b is =
    let at = paused_inside t.turn s v d t w yields pauses in
    stays_connected s v d t w runs (ap place_of serves) at.0 a b ∙ (is ∙ (ap is_inside serves ∙ sym at.1))
