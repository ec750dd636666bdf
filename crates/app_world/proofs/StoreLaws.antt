-- Calls of the permission store, which the host alone may make: they change no view.
use Rattle.std.proofs.Common.{◌≡◌, ℕ, List, [], ◌∷◌, ◌++◌, map, true, false, not, cond, Option, Some, None, Ok, Err, refl, sym, ap, ◌∙◌}
use Rattle.portal_base.specs.Names.{is_same}
use Rattle.portal_base.specs.declared.who.Who.{Who}
use Rattle.portal_model.specs.declared.handle.OpenHandle.{OpenHandle}
use Rattle.portal_model.specs.declared.reply.Change.{Change}
use Rattle.portal_model.specs.declared.reply.Code.TheVariants as Code
use Rattle.portal_model.specs.declared.state.Connection.{Connection}
use Rattle.portal_model.specs.declared.store.StoreAnswer.{StoreAnswer}
use Rattle.portal_model.specs.declared.store.StoreCall.{StoreCall}
use Rattle.portal_model.specs.declared.store.StoredEntry.{StoredEntry}
use Rattle.portal_model.specs.State.{State, is_app}
use Rattle.portal_model.specs.Store.{Outcome, change_of, entry_of, store_call}
use Rattle.portal_model.specs.StoreRequest.{are_store_arguments, identifier_of, own_table, store_allowed, store_answered, store_request, store_verdict, table_of, tell_hosts, tell_kept, told_change}
use Rattle.portal_model.specs.Valid.{is_host_bus}
use Rattle.app_world.specs.View.{OwnConnection, own_connection, own_connections, view}
use Rattle.app_world.proofs.ReachedLaws.{IsTouched, touched-unless}
use Rattle.app_world.proofs.ViewLaws.{own_first, view-connections}

-- ---- a change that hosts wait for

-- what a view has of a connection is not what it waits for
one_changed : (app : List ℕ) (hs : List OpenHandle) (change : Change) (c : Connection) (more more' : List OwnConnection) → more ≡ more' →
    cond (is_app app (told_change change c).who) (own_connection app hs (told_change change c) ∷ more) more ≡ cond (is_app app c.who) (own_connection app hs c ∷ more') more'
one_changed app hs change c more more' e =
    elim (is_host_bus c.who c.kind) as (λ b. cond (is_app app (cond b (record c { unsent = c.unsent ++ change ∷ [] }) c).who) (own_connection app hs (cond b (record c { unsent = c.unsent ++ change ∷ [] }) c) ∷ more) more ≡ cond (is_app app c.who) (own_connection app hs c ∷ more') more') [
      | true ↦ ap (λ (m : List OwnConnection). cond (is_app app c.who) (own_connection app hs c ∷ m) m) e
      | false ↦ ap (λ (m : List OwnConnection). cond (is_app app c.who) (own_connection app hs c ∷ m) m) e
    ]

own_changed : (app : List ℕ) (hs : List OpenHandle) (change : Change) (cs : List Connection) → own_connections app hs (map (told_change change) cs) ≡ own_connections app hs cs
own_changed app hs change [] = refl
own_changed app hs change (c ∷ cs) =
    own_first app hs (told_change change c) (map (told_change change) cs) (is_app app (told_change change c).who) refl
    ∙ (one_changed app hs change c (own_connections app hs (map (told_change change) cs)) (own_connections app hs cs) (own_changed app hs change cs) ∙ sym (own_first app hs c cs (is_app app c.who) refl))

-- it changes no view
pub view-changed : (app : List ℕ) (s : State) (change : Change) → view s app ≡ view (tell_hosts change s) app
view-changed app s change = view-connections app s (map (told_change change) s.connections) (sym (own_changed app s.handles change s.connections))

-- ---- a call

module _ (app : List ℕ) (s : State) where
  kept-other : (t : State) (o : Option StoredEntry) → view s app ≡ view t app → view s app ≡ view (tell_kept o t) app
  kept-other t None e = e
  kept-other t (Some x) e = e ∙ view-changed app t (change_of false x)

  answered-other : (t : State) (call : StoreCall) (answer : StoreAnswer) → view s app ≡ view t app → IsTouched app s [] (store_answered t call answer)
  answered-other t call (StoreAnswer.Done change) e = (refl, e ∙ view-changed app t change)
  answered-other t call StoreAnswer.Kept e = (refl, kept-other t (entry_of t.entries (table_of call) (identifier_of call)) e)
  answered-other t call (StoreAnswer.Entry rows datum) e = (refl, e)
  answered-other t call (StoreAnswer.Names names) e = (refl, e)

  outcome-other : (call : StoreCall) (outcome : Outcome) → IsTouched app s [] (store_verdict s call outcome)
  outcome-other call (Err error) = tt
  outcome-other call (Ok (entries, answer)) = answered-other (record s { entries = entries }) call answer refl

  pub store-other : (who : Who) (call : StoreCall) → IsTouched app s [] (store_request s who call)
  store-other (Who.App caller) call = tt
  store-other Who.Host call =
      touched-unless app s [] (not (are_store_arguments call)) Code.InvalidArgument (store_allowed s call)
      (touched-unless app s [] (is_same (table_of call) own_table) Code.NotAllowed (store_verdict s call (store_call call s.entries)) (outcome-other call (store_call call s.entries)))
