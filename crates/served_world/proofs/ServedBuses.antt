-- A request of the application itself that isn't one on a node, over any tree: its own machine gives the view after,
-- and the reply.
use Rattle.std.proofs.Common.{◌≡◌, ℕ, List, [], Bool, true, false, cond, Option, Some, None, refl, sym, ap, ◌∙◌, map}
use Rattle.portal_base.specs.declared.files.Look.{Look}
use Rattle.portal_base.specs.declared.who.Who.{Who}
use Rattle.portal_model.specs.declared.entry.Given.{Given}
use Rattle.portal_model.specs.declared.reply.Answer.{Answer}
use Rattle.portal_model.specs.declared.reply.Reply.{Reply}
use Rattle.portal_model.specs.declared.request.AddRequest.{AddRequest}
use Rattle.portal_model.specs.declared.request.Request.{Request}
use Rattle.portal_model.specs.declared.state.Connection.{Connection}
use Rattle.portal_model.specs.Bus.{bus_answer, is_tree, moment_given}
use Rattle.portal_model.specs.History.{made_by}
use Rattle.portal_model.specs.Lawful.{LawfulOnBus}
use Rattle.portal_model.specs.State.{State, connection_of, is_app}
use Rattle.portal_model.specs.Step.{all_told, bus_of, bus_step, is_mount, with_signals}
use Rattle.portal_model.specs.Valid.{Valid}
use Rattle.portal_model.specs.Walk.{walked}
use Rattle.portal_model.proofs.ValidLaws.{all_told-Valid}
use Rattle.app_world.specs.Add.{own_add, own_taken_from_queue}
use Rattle.app_world.specs.Bus.{own_bus_answer, own_bus_step, own_settled}
use Rattle.app_world.specs.Laws.{asks}
use Rattle.app_world.specs.Own.{Own}
use Rattle.app_world.specs.View.{Alone, AppView, Holding, OwnConnection, found_connection, own_connection, own_connections, view}
use Rattle.app_world.specs.World.{own_bus, own_bus_of, own_collect_step, own_request_step, reused_on}
use Rattle.app_world.proofs.BusLaws.{seen_answer}
use Rattle.app_world.proofs.ViewLaws.{is_app-named, own-some, own_unsent, view-told}
use Rattle.served_world.specs.ServedItem.{bare}
use Rattle.served_world.specs.ServedOwn.{served_own, shown_by_look, told_own}
use Rattle.served_world.specs.ServedWorld.{bare_done}
use Rattle.served_world.proofs.BareBuses.{IsPlain, add-bare, answer-bare, bare_answer}
use Rattle.served_world.proofs.ServedAdds.{add-given, looks-shown, told_shown}

-- ---- without what the tree has, and with other contents

module _ (v : AppView) (own : Own) (more : List Holding) where
  collect-bare : (o : Option OwnConnection) → bare_done (own_collect_step (bare v) o) ≡ bare_done (own_collect_step v o)
  collect-bare None = refl
  collect-bare (Some c) = refl

  bus-bare : (request : Request) → IsPlain request → (o : Option OwnConnection) → bare_done (own_bus_step (bare v) (record own { shown = more }) request o) ≡ bare_done (own_bus_step v own request o)
  bus-bare request h None = refl
  bus-bare request h (Some c) = ap (λ (done : AppView × Answer). with_signals [] done) (answer-bare v c own more request h)

  pub step-bare : (request : Request) → IsPlain request → bare_done (own_request_step (bare v) (record own { shown = more }) request) ≡ bare_done (own_request_step v own request)
  step-bare (Request.Enter who kind) h = refl
  step-bare Request.Leave h = refl
  step-bare Request.Collect h = collect-bare (own_bus v own)
  step-bare (Request.Node r) h = absurd h
  step-bare (Request.Add a) h = absurd h
  step-bare (Request.Present path) h = bus-bare (Request.Present path) h (own_bus v own)
  step-bare (Request.Grant call) h = bus-bare (Request.Grant call) h (own_bus v own)
  step-bare (Request.Revoke call) h = bus-bare (Request.Revoke call) h (own_bus v own)
  step-bare (Request.DeleteDocument doc) h = bus-bare (Request.DeleteDocument doc) h (own_bus v own)
  step-bare (Request.LookupDocument path) h = bus-bare (Request.LookupDocument path) h (own_bus v own)
  step-bare (Request.Info doc) h = bus-bare (Request.Info doc) h (own_bus v own)
  step-bare (Request.ListDocuments name) h = bus-bare (Request.ListDocuments name) h (own_bus v own)
  step-bare (Request.Store call) h = bus-bare (Request.Store call) h (own_bus v own)

-- ---- an Add

-- a step, as the view sees it without what the tree has
abbrev pub bare_seen : List ℕ → State × Reply → AppView × Reply
bare_seen app done = (bare (view done.0 app), done.1)

module _ (app : List ℕ) (s : State) (seat : ℕ) (a : AddRequest) (given : Given) (v : Valid s) where
  abbrev mine : Own
  mine = told_own (served_own s (asks seat (Request.Add a) given))

  module _ (c : Connection) (e : connection_of s.connections seat ≡ Some c) where
    abbrev t : State
    t = all_told c.seat s

    abbrev o : OwnConnection
    o = own_connection app s.handles c

    abbrev told : Own
    told = told_shown seat t c a given

    mine-is : is_mount c.kind ≡ false → mine ≡ record told { shown = map (λ look. Alone (shown_by_look look)) given.looks }
    mine-is k =
        let is : bus_of (connection_of s.connections seat) ≡ Some c = ap bus_of e ∙ ap (λ (b : Bool). cond b None (Some c)) k in
        λ i. record mine { reused = reused_on s a (is i) }

    answered : is_mount c.kind ≡ false → c.who ≡ Who.App app → LawfulOnBus s (Request.Add a) given (Some c) →
        bare_answer (own_bus_answer (bare (view s app)) o mine (Request.Add a)) ≡ bare_answer (seen_answer app (bus_answer t c (Request.Add a) given))
    answered k named l =
        (λ i. bare_answer (own_bus_answer (bare (sym (view-told app s c.seat) i)) o (mine-is k i) (Request.Add a)))
        ∙ (ap (λ (looks : List Look). bare_answer (own_settled (bare (view t app)) (own_taken_from_queue o a (bare (view t app))) (record told { shown = map (λ look. Alone (shown_by_look look)) given.looks }) (walked (own_add (bare (view t app)) o a (record told { shown = map (λ look. Alone (shown_by_look look)) given.looks })) (moment_given given.now) looks (is_tree given.fault)))) (looks-shown given.looks)
        ∙ (add-bare (view t app) o told (map (λ look. Alone (shown_by_look look)) given.looks) a (moment_given given.now) given.looks (is_tree given.fault)
        ∙ ap bare_answer (add-given app t seat c a given (all_told-Valid s c.seat v) l named)))

    add_kind : (m : Bool) → is_mount c.kind ≡ m → is_app app c.who ≡ true → LawfulOnBus s (Request.Add a) given (cond m None (Some c)) →
        bare_done (own_bus_step (bare (view s app)) mine (Request.Add a) (cond m None (Some o))) ≡ bare_seen app (bus_step s (Request.Add a) given (cond m None (Some c)))
    add_kind true k h l = refl
    add_kind false k h l =
        ap (λ (done : AppView × Answer). with_signals [] done) (answered k (is_app-named app c.who h) l)
        ∙ (λ i. bare_seen app (with_signals (sym (own_unsent app s seat c v e h) i) (bus_answer t c (Request.Add a) given)))

  pub add-own-bare : (found : Option Connection) → connection_of s.connections seat ≡ found → made_by app found (Request.Add a) ≡ true → LawfulOnBus s (Request.Add a) given (bus_of found) →
      bare_done (own_bus_step (bare (view s app)) mine (Request.Add a) (own_bus_of (found_connection (own_connections app s.handles s.connections) seat))) ≡ bare_seen app (bus_step s (Request.Add a) given (bus_of found))
  add-own-bare None e h l = let x : false ≡ true = h in cc
  add-own-bare (Some c) e h l =
      ap (λ (x : Option OwnConnection). bare_done (own_bus_step (bare (view s app)) mine (Request.Add a) (own_bus_of x))) (own-some app s.handles seat s.connections c e h)
      ∙ add_kind c e (is_mount c.kind) refl h l
