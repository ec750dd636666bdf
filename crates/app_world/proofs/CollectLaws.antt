-- Collect: what it is to the application that makes it, and to another.
use Rattle.std.proofs.Common.{◌≡◌, ℕ, List, Bool, true, false, cond, Option, Some, None, refl, sym, ap, ◌∙◌}
use Rattle.portal_model.specs.declared.reply.Answer.{Answer}
use Rattle.portal_model.specs.declared.request.Request.TheVariants as Request
use Rattle.portal_model.specs.declared.state.Connection.{Connection}
use Rattle.portal_model.specs.History.{made_by}
use Rattle.portal_model.specs.State.{State, connection_of, is_app}
use Rattle.portal_model.specs.Step.{bus_of, collect_step, is_mount, reply_with}
use Rattle.portal_model.specs.Valid.{Valid}
use Rattle.app_world.specs.View.{OwnConnection, found_connection, own_connection, own_connections, view}
use Rattle.app_world.specs.World.{own_bus_of, own_collect_step}
use Rattle.app_world.proofs.ViewLaws.{own-some, own_unsent, view-told}

module _ (app : List ℕ) (s : State) (seat : ℕ) (v : Valid s) where
  bus_own : (c : Connection) (m : Bool) → connection_of s.connections seat ≡ Some c → is_app app c.who ≡ true →
      own_collect_step (view s app) (cond m None (Some (own_connection app s.handles c))) ≡ (view (collect_step s (cond m None (Some c))).0 app, (collect_step s (cond m None (Some c))).1)
  bus_own c true e h = refl
  bus_own c false e h = λ i. (sym (view-told app s c.seat) i, reply_with (sym (own_unsent app s seat c v e h) i) Answer.Done)

  -- the application's own Collect gives the view after it, and the reply
  pub collect_own : (o : Option Connection) → connection_of s.connections seat ≡ o → made_by app o Request.Collect ≡ true →
      own_collect_step (view s app) (own_bus_of (found_connection (own_connections app s.handles s.connections) seat)) ≡ (view (collect_step s (bus_of o)).0 app, (collect_step s (bus_of o)).1)
  collect_own None e h = cc
  collect_own (Some c) e h =
      ap (λ (o : Option OwnConnection). own_collect_step (view s app) (own_bus_of o)) (own-some app s.handles seat s.connections c e h) ∙ bus_own c (is_mount c.kind) e h

-- another's leaves the view
pub collect_other : (app : List ℕ) (s : State) (o : Option Connection) → view s app ≡ view (collect_step s o).0 app
collect_other app s None = refl
collect_other app s (Some c) = sym (view-told app s c.seat)
