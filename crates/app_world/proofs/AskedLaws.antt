-- A request on the connection that asks it: what it is to the application that asks, and to another.
use Rattle.std.proofs.Common.{◌≡◌, ◌==◌, ℕ, List, [], Bool, true, false, cond, Option, Some, None, refl, sym, ap, subst, ◌∙◌, length}
use Rattle.file_generations.specs.Generations.{all_held}
use Rattle.portal_base.specs.declared.who.Who.{Who}
use Rattle.portal_model.specs.declared.entry.Given.{Given}
use Rattle.portal_model.specs.declared.reply.Answer.{Answer}
use Rattle.portal_model.specs.declared.reply.Code.TheVariants as Code
use Rattle.portal_model.specs.declared.request.AddRequest.{AddRequest}
use Rattle.portal_model.specs.declared.request.NodeRequest.{NodeRequest}
use Rattle.portal_model.specs.declared.request.Request.{Request}
use Rattle.portal_model.specs.declared.state.Connection.{Connection}
use Rattle.portal_model.specs.Bus.{bus_answer, settled}
use Rattle.portal_model.specs.DeleteDocument.{delete_document}
use Rattle.portal_model.specs.Grant.{grant}
use Rattle.portal_model.specs.History.{is_by, made_by, maker}
use Rattle.portal_model.specs.Info.{info}
use Rattle.portal_model.specs.Lawful.{LawfulOnBus, LawfulOnNode}
use Rattle.portal_model.specs.ListDocuments.{list_documents}
use Rattle.portal_model.specs.LookupDocument.{lookup_document}
use Rattle.portal_model.specs.Node.{node_answer, node_given, walk_on_node}
use Rattle.portal_model.specs.NodeVerdict.{NodeVerdict, Errs, Yields}
use Rattle.portal_model.specs.Present.{present}
use Rattle.portal_model.specs.Revoke.{revoke}
use Rattle.portal_model.specs.State.{State, connection_of, held_in, is_app}
use Rattle.portal_model.specs.Step.{is_mount, bus_of, bus_step, mount_of, all_told, with_signals, node_step}
use Rattle.portal_model.specs.StoreRequest.{store_request}
use Rattle.portal_model.specs.Valid.{Valid}
use Rattle.portal_model.specs.Verdict.{Verdict, does}
use Rattle.portal_model.proofs.ListLookups.{found_passes, nat_is}
use Rattle.portal_model.proofs.ValidLaws.{all_told-Valid, told-sight}
use Rattle.app_world.specs.Bus.{bus_touch, own_bus_answer, own_bus_step, own_bus_verdict, own_refused_view, own_settled}
use Rattle.app_world.specs.DeleteDocument.{delete_touch, own_delete_document}
use Rattle.app_world.specs.Effect.{Effect, apply_all}
use Rattle.app_world.specs.Grant.{grant_touch, own_grant}
use Rattle.app_world.specs.Laws.{asks}
use Rattle.app_world.specs.Node.{content_named, file_effects, node_touch, own_node_answer, verdict_touch}
use Rattle.app_world.specs.Own.{Own}
use Rattle.app_world.specs.OwnVerdict.{OwnVerdict, OwnRefuses}
use Rattle.app_world.specs.Present.{own_present}
use Rattle.app_world.specs.Revoke.{own_revoke, revoke_touch}
use Rattle.app_world.specs.Touched.{is_done}
use Rattle.app_world.specs.View.{AppView, OwnConnection, found_connection, own_connection, own_connections, view}
use Rattle.app_world.specs.World.{own_bus_of, own_mount_of, own_node_step, own_of, reused_on, shown_by}
use Rattle.app_world.proofs.AddGiven.{add_answer-other, add_answer-own, told_of_add}
use Rattle.app_world.proofs.BusLaws.{seen_answer, settled-other, settled-own}
use Rattle.app_world.proofs.DeleteDocumentLaws.{delete-other, delete-own}
use Rattle.app_world.proofs.GrantLaws.{grant-other, grant-own}
use Rattle.app_world.proofs.NodeLaws.{TempsTold, node-other, node-own}
use Rattle.app_world.proofs.NamesHostPaths.{folders-there, no-roots, none-empty}
use Rattle.app_world.proofs.PresentLaws.{own-other, present-other, present-own}
use Rattle.app_world.proofs.ReachedLaws.{IsTouched, seen_verdict}
use Rattle.app_world.proofs.ReadingLaws.{info-other, list-other, lookup-other}
use Rattle.app_world.proofs.RevokeLaws.{revoke-other, revoke-own}
use Rattle.app_world.proofs.StoreLaws.{store-other}
use Rattle.app_world.proofs.ViewLaws.{is_app-named, own-some, own_told, own_unsent, view-told}
use Rattle.app_world.proofs.ViewedNames.{all-free, firsts-told, temps-told, tree-sound}

-- a step, as the view sees it
abbrev pub seen_step : {X : Type 0} → List ℕ → State × X → AppView × X
seen_step app done = (view done.0 app, done.1)

-- ---- a request on a node

module _ (app : List ℕ) (s : State) (seat : ℕ) (r : NodeRequest) (given : Given) (v : Valid s) where
  abbrev own : Own
  own = own_of s (asks seat (Request.Node r) given)

  -- the temporaries of the connection, which stand there where others were told
  temps-here : (c : Connection) → connection_of s.connections seat ≡ Some c → TempsTold (view (all_told c.seat s) app) c.temps
  temps-here c e = subst (λ (x : AppView). TempsTold x c.temps) (sym (view-told app s c.seat)) (temps-told app s v seat c e)

  node_mount_own : (c : Connection) (m : Bool) → connection_of s.connections seat ≡ Some c → is_app app c.who ≡ true → s.told ≡ true → LawfulOnNode s r given (cond m (Some c) None) →
      own_node_step (view s app) r own (cond m (Some (own_connection app s.handles c)) None) ≡ seen_step app (node_step s r given (cond m (Some c) None))
  node_mount_own c false e h told l = refl
  node_mount_own c true e h told l =
      let t : State = all_told c.seat s in
      let same : c.seat ≡ seat = nat_is c.seat seat (found_passes (λ (x : Connection). x.seat == seat) s.connections c e) in
      let found : found_connection (own_connections app t.handles t.connections) c.seat ≡ Some (own_connection app t.handles c) =
      ap (λ (cs : List OwnConnection). found_connection cs c.seat) (own_told app s.handles c.seat s.connections) ∙ own-some app s.handles c.seat s.connections c (ap (connection_of s.connections) same ∙ e) h in
      ap (λ (x : AppView). with_signals [] (own_node_answer x (own_connection app t.handles c) r own)) (sym (view-told app s c.seat))
      ∙ (ap (λ (done : AppView × Answer). with_signals [] done)
      (node-own app t c r (is_app-named app c.who h) _ (told-sight s seat c e v) (tree-sound app t (all_told-Valid s c.seat v)) (none-empty app t (all_told-Valid s c.seat v)) (folders-there app t (all_told-Valid s c.seat v) told) (no-roots app t (all_told-Valid s c.seat v))
      (all-free app t (all_told-Valid s c.seat v) told) (firsts-told app t (all_told-Valid s c.seat v)) (temps-here c e) found given own refl refl refl refl told l)
      ∙ (λ i. seen_step app (with_signals (sym (own_unsent app s seat c v e h) i) (node_answer t c r given))))

  pub node_own : (o : Option Connection) → connection_of s.connections seat ≡ o → made_by app o (Request.Node r) ≡ true → s.told ≡ true → LawfulOnNode s r given (mount_of o) →
      own_node_step (view s app) r own (own_mount_of (found_connection (own_connections app s.handles s.connections) seat)) ≡ seen_step app (node_step s r given (mount_of o))
  node_own None e h told l = cc
  node_own (Some c) e h told l =
      ap (λ (o : Option OwnConnection). own_node_step (view s app) r own (own_mount_of o)) (own-some app s.handles seat s.connections c e h)
      ∙ node_mount_own c (is_mount c.kind) e h told l

  touch-told : (n : ℕ) (o : Option NodeVerdict) → verdict_touch app s o ≡ verdict_touch app (all_told n s) o
  touch-told n None = refl
  touch-told n (Some (Errs errno)) = refl
  touch-told n (Some (Yields d)) = ap (λ (x : AppView). cond s.told (file_effects x (content_named (all_held (held_in s))) d.file) []) (sym (view-told app s n))

  node_mount_other : (c : Connection) (m : Bool) → connection_of s.connections seat ≡ Some c → found_connection (own_connections app s.handles s.connections) c.seat ≡ None → LawfulOnNode s r given (cond m (Some c) None) →
      apply_all (view s app) (cond (is_done (node_step s r given (cond m (Some c) None)).1.answer) (node_touch app s r given (cond m (Some c) None)) []) ≡ view (node_step s r given (cond m (Some c) None)).0 app
  node_mount_other c false here e l = refl
  node_mount_other c true here e l =
      let t : State = all_told c.seat s in
      let there : found_connection (own_connections app t.handles t.connections) c.seat ≡ None = ap (λ (cs : List OwnConnection). found_connection cs c.seat) (own_told app s.handles c.seat s.connections) ∙ e in
      (λ i. apply_all (sym (view-told app s c.seat) i) (cond (is_done (node_answer t c r given).1) (touch-told c.seat (node_given (walk_on_node t c r) given) i) []))
      ∙ node-other app t c r (tree-sound app t (all_told-Valid s c.seat v)) (none-empty app t (all_told-Valid s c.seat v)) (folders-there app t (all_told-Valid s c.seat v)) (all-free app t (all_told-Valid s c.seat v)) (firsts-told app t (all_told-Valid s c.seat v))
      there given l

  pub node_other : (o : Option Connection) → connection_of s.connections seat ≡ o → is_by app (maker o (Request.Node r)) ≡ false → LawfulOnNode s r given (mount_of o) →
      apply_all (view s app) (cond (is_done (node_step s r given (mount_of o)).1.answer) (node_touch app s r given (mount_of o)) []) ≡ view (node_step s r given (mount_of o)).0 app
  node_other None e h l = refl
  node_other (Some c) e h l =
      let same : c.seat ≡ seat = nat_is c.seat seat (found_passes (λ (x : Connection). x.seat == seat) s.connections c e) in
      node_mount_other c (is_mount c.kind) e (ap (λ (n : ℕ). found_connection (own_connections app s.handles s.connections) n) same ∙ own-other app s.handles seat s.connections c v.seats_differ e h) l

-- ---- a request on a bus, by its kind

-- what the outside gave to an Add is lawful, and the tree tells the application that adds; the other requests need
-- neither
abbrev pub GivenToAdd : State → Request → Given → Option Connection → Type 0
GivenToAdd s (Request.Add a) given o = LawfulOnBus s (Request.Add a) given o
GivenToAdd s request given o = Unit {0}

abbrev pub ToldToAdd : State → Request → Type 0
ToldToAdd s (Request.Add a) = s.told ≡ true
ToldToAdd s request = Unit {0}

module _ (app : List ℕ) (s : State) (c : Connection) (given : Given) (own : Own) (full : own.full ≡ given.full) (fault : own.fault ≡ given.fault) (named : c.who ≡ Who.App app) where
  abbrev v : AppView
  v = view s app

  -- what it comes to is the same in the state and in the view
  same_verdict : (request : Request) (mine : OwnVerdict) (verdict : Verdict) → own_bus_verdict v (own_connection app s.handles c) own request ≡ Some mine → own_refused_view v (own_connection app s.handles c) request ≡ v → mine ≡ seen_verdict app verdict →
      own_bus_answer v (own_connection app s.handles c) own request ≡ seen_answer app (settled s s given (Some verdict))
  same_verdict request mine verdict e l f =
      (λ i. own_settled v (l i) own ((e ∙ ap Some f) i)) ∙ settled-own app s s given own full fault (Some verdict)

  -- of an Add this is shown apart
  abbrev AddIsOwn : Request → Type 0
  AddIsOwn (Request.Add a) = own_bus_answer v (own_connection app s.handles c) own (Request.Add a) ≡ seen_answer app (bus_answer s c (Request.Add a) given)
  AddIsOwn request = Unit {0}

  bus_answer_own : (request : Request) → AddIsOwn request → own_bus_answer v (own_connection app s.handles c) own request ≡ seen_answer app (bus_answer s c request given)
  bus_answer_own (Request.Present path) d = same_verdict (Request.Present path) (own_present v (own_connection app s.handles c) path) (present s c path) refl refl (present-own app s c path named)
  bus_answer_own (Request.Add a) d = d
  bus_answer_own (Request.Grant call) d =
      same_verdict (Request.Grant call) (own_grant v call) (grant s c.who call) refl refl (grant-own app s call ∙ ap (λ (who : Who). seen_verdict app (grant s who call)) (sym named))
  bus_answer_own (Request.Revoke call) d =
      same_verdict (Request.Revoke call) (own_revoke app v call) (revoke s c.who call) refl refl (revoke-own app s call ∙ ap (λ (who : Who). seen_verdict app (revoke s who call)) (sym named))
  bus_answer_own (Request.DeleteDocument doc) d =
      same_verdict (Request.DeleteDocument doc) (own_delete_document v doc) (delete_document s c.who doc) refl refl (delete-own app s doc ∙ ap (λ (who : Who). seen_verdict app (delete_document s who doc)) (sym named))
  bus_answer_own (Request.LookupDocument path) d =
      same_verdict (Request.LookupDocument path) (OwnRefuses Code.NotAllowed) (lookup_document s c.who path) refl refl (ap (λ (who : Who). seen_verdict app (lookup_document s who path)) (sym named))
  bus_answer_own (Request.Info doc) d =
      same_verdict (Request.Info doc) (OwnRefuses Code.NotAllowed) (info s c.who doc) refl refl (ap (λ (who : Who). seen_verdict app (info s who doc)) (sym named))
  bus_answer_own (Request.ListDocuments name) d =
      same_verdict (Request.ListDocuments name) (OwnRefuses Code.NotAllowed) (list_documents s c.who name) refl refl (ap (λ (who : Who). seen_verdict app (list_documents s who name)) (sym named))
  bus_answer_own (Request.Store call) d =
      same_verdict (Request.Store call) (OwnRefuses Code.AccessDenied) (store_request s c.who call) refl refl (ap (λ (who : Who). seen_verdict app (store_request s who call)) (sym named))
  bus_answer_own request d = settled-own app s s given own full fault (Some (does s Answer.Done))

module _ (app : List ℕ) (s : State) (c : Connection) (given : Given) (valid : Valid s) (apart : is_app app c.who ≡ false) (e : found_connection (own_connections app s.handles s.connections) c.seat ≡ None) where
  abbrev t : State
  t = all_told c.seat s

  touches : (fs : List Effect) (verdict : Verdict) → IsTouched app t fs verdict → apply_all (view s app) (cond (is_done (settled t t given (Some verdict)).1) fs []) ≡ view (settled t t given (Some verdict)).0 app
  touches fs verdict h = settled-other app t t (view s app) given fs (view-told app s c.seat) (view-told app s c.seat) (Some verdict) (λ f. h)

  abbrev there : found_connection (own_connections app t.handles t.connections) c.seat ≡ None
  there = ap (λ (cs : List OwnConnection). found_connection cs c.seat) (own_told app s.handles c.seat s.connections) ∙ e

  bus_answer_other : (request : Request) → GivenToAdd s request given (Some c) → apply_all (view s app) (cond (is_done (bus_answer t c request given).1) (bus_touch app s request given (Some c)) []) ≡ view (bus_answer t c request given).0 app
  bus_answer_other (Request.Present path) d =
      touches [] (present t c path) (present-other app t c path there)
  bus_answer_other (Request.Add a) d = add_answer-other app s c.seat c a given (all_told-Valid s c.seat valid) d apart there (view-told app s c.seat)
  bus_answer_other (Request.Grant call) d = touches (grant_touch app s call) (grant t c.who call) (grant-other app t c.who call)
  bus_answer_other (Request.Revoke call) d = touches (revoke_touch app s call) (revoke t c.who call) (revoke-other app t c.who call)
  bus_answer_other (Request.DeleteDocument doc) d = touches (delete_touch app s doc) (delete_document t c.who doc) (delete-other app t c.who doc)
  bus_answer_other (Request.LookupDocument path) d = touches [] (lookup_document t c.who path) (lookup-other app t c.who path)
  bus_answer_other (Request.Info doc) d = touches [] (info t c.who doc) (info-other app t c.who doc)
  bus_answer_other (Request.ListDocuments name) d = touches [] (list_documents t c.who name) (list-other app t c.who name)
  bus_answer_other (Request.Store call) d = touches [] (store_request t c.who call) (store-other app t c.who call)
  bus_answer_other request d = touches [] (does t Answer.Done) (refl, refl)

module _ (app : List ℕ) (s : State) (seat : ℕ) (c : Connection) (given : Given) (v : Valid s) (e : connection_of s.connections seat ≡ Some c) (k : is_mount c.kind ≡ false) (named : c.who ≡ Who.App app) where
  abbrev told : State
  told = all_told c.seat s

  -- what the trace tells of an Add
  told-is : (a : AddRequest) → own_of s (asks seat (Request.Add a) given) ≡ told_of_add seat told c a given
  told-is a =
      let is : bus_of (connection_of s.connections seat) ≡ Some c = ap bus_of e ∙ ap (λ (b : Bool). cond b None (Some c)) k in
      λ i. record {
        seat = seat;
        request = Request.Add a;
        now = given.now;
        numbers = given.numbers;
        shown = shown_by s a given (is i);
        reused = reused_on s a (is i);
        looks = length given.looks;
        full = given.full;
        fault = given.fault;
        generation = given.generation;
      }

  add_own : (request : Request) → ToldToAdd s request → GivenToAdd s request given (Some c) → AddIsOwn app told c given (own_of s (asks seat request given)) refl refl named request
  add_own (Request.Add a) t l =
      ap (λ (mine : Own). own_bus_answer (view told app) (own_connection app s.handles c) mine (Request.Add a)) (told-is a) ∙ add_answer-own app told seat c a given (all_told-Valid s c.seat v) t l named
  add_own request t l = tt

module _ (app : List ℕ) (s : State) (seat : ℕ) (request : Request) (given : Given) (v : Valid s) where
  abbrev mine : Own
  mine = own_of s (asks seat request given)

  bus_kind_own : (c : Connection) (m : Bool) → is_mount c.kind ≡ m → connection_of s.connections seat ≡ Some c → is_app app c.who ≡ true → ToldToAdd s request → GivenToAdd s request given (cond m None (Some c)) →
      own_bus_step (view s app) mine request (cond m None (Some (own_connection app s.handles c))) ≡ seen_step app (bus_step s request given (cond m None (Some c)))
  bus_kind_own c true k e h t l = refl
  bus_kind_own c false k e h t l =
      let named : c.who ≡ Who.App app = is_app-named app c.who h in
      ap (λ (x : AppView). with_signals [] (own_bus_answer x (own_connection app s.handles c) mine request)) (sym (view-told app s c.seat))
      ∙ (ap (λ (done : AppView × Answer). with_signals [] done) (bus_answer_own app (all_told c.seat s) c given mine refl refl named request (add_own app s seat c given v e k named request t l))
      ∙ (λ i. seen_step app (with_signals (sym (own_unsent app s seat c v e h) i) (bus_answer (all_told c.seat s) c request given))))

  -- of a request that has no maker where the seat has no open connection
  pub bus_own : (o : Option Connection) → connection_of s.connections seat ≡ o → maker None request ≡ None → is_by app (maker o request) ≡ true → ToldToAdd s request → GivenToAdd s request given (bus_of o) →
      own_bus_step (view s app) mine request (own_bus_of (found_connection (own_connections app s.handles s.connections) seat)) ≡ seen_step app (bus_step s request given (bus_of o))
  bus_own None e n h t l = let x : false ≡ true = ap (is_by app) (sym n) ∙ h in cc
  bus_own (Some c) e n h t l =
      ap (λ (o : Option OwnConnection). own_bus_step (view s app) mine request (own_bus_of o)) (own-some app s.handles seat s.connections c e h) ∙ bus_kind_own c (is_mount c.kind) refl e h t l

  bus_kind_other : (c : Connection) (m : Bool) → found_connection (own_connections app s.handles s.connections) c.seat ≡ None → is_app app c.who ≡ false → GivenToAdd s request given (cond m None (Some c)) →
      apply_all (view s app) (cond (is_done (bus_step s request given (cond m None (Some c))).1.answer) (bus_touch app s request given (cond m None (Some c))) []) ≡ view (bus_step s request given (cond m None (Some c))).0 app
  bus_kind_other c true e h l = refl
  bus_kind_other c false e h l = bus_answer_other app s c given v h e request l

  pub bus_other : (o : Option Connection) → connection_of s.connections seat ≡ o → is_by app (maker o request) ≡ false → GivenToAdd s request given (bus_of o) →
      apply_all (view s app) (cond (is_done (bus_step s request given (bus_of o)).1.answer) (bus_touch app s request given (bus_of o)) []) ≡ view (bus_step s request given (bus_of o)).0 app
  bus_other None e h l = refl
  bus_other (Some c) e h l =
      let same : c.seat ≡ seat = nat_is c.seat seat (found_passes (λ (x : Connection). x.seat == seat) s.connections c e) in
      bus_kind_other c (is_mount c.kind) (ap (λ (n : ℕ). found_connection (own_connections app s.handles s.connections) n) same ∙ own-other app s.handles seat s.connections c v.seats_differ e h) h l
