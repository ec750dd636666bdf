-- What comes of an entry, over the lists that are lent ahead of it.
use Rattle.std.proofs.Common.{◌≡◌, ◌==◌, ◌||◌, ℕ, List, [], ◌∷◌, map, Bool, true, false, cond, Option, Some, None, option_map, refl, sym, ap, ◌∙◌}
use Rattle.file_generations.specs.Generations.{Held}
use Rattle.portal_base.specs.declared.files.FileName.{FileName}
use Rattle.portal_base.specs.declared.names.doc_id.DocId.{DocId}
use Rattle.portal_model.specs.declared.entry.Entry.{Entry}
use Rattle.portal_model.specs.declared.request.AddRequest.{AddRequest}
use Rattle.portal_model.specs.declared.request.Request.{Request}
use Rattle.portal_model.specs.declared.request.RightsCall.{RightsCall}
use Rattle.portal_model.specs.declared.state.Connection.{Connection}
use Rattle.portal_model.specs.AddArguments.{document_paths}
use Rattle.portal_model.specs.History.{made_by}
use Rattle.portal_model.specs.NodeVerdict.{FileChange}
use Rattle.portal_model.specs.State.{State, connection_of, held_in, held_of, is_app, is_mount}
use Rattle.portal_model.specs.Step.{after, bus_of, mount_of, reply_at}
use Rattle.portal_model.specs.Valid.{Valid}
use Rattle.app_world.specs.Add.{add_touch, names_app}
use Rattle.app_world.specs.DeleteDocument.{delete_touch}
use Rattle.app_world.specs.Effect.{Effect}
use Rattle.app_world.specs.Grant.{grant_touch}
use Rattle.app_world.specs.Revoke.{revoke_touch}
use Rattle.app_world.specs.Touched.{is_done}
use Rattle.app_world.specs.TraceItem as item
use Rattle.app_world.specs.TraceItem.{item_of}
use Rattle.app_world.specs.View.{AppView, held_documents, holds_name, knows, own_connections, view}
use Rattle.app_world.specs.World.{items_of, own_of, request_touch, touch}
use Rattle.trace_items.specs.declared.changes.FileUpdate.{FileUpdate}
use Rattle.trace_items.specs.declared.coming.News.{News}
use Rattle.trace_items.specs.declared.coming.News.TheVariants.{Own, Touches, Changed}
use Rattle.trace_items.specs.declared.lent.Lent.{Lent}
use Rattle.app_trace.specs.declared.trace.TraceItem.{TraceItem}
use Rattle.trace_items.specs.Awaited.{Awaits, Comes, IsTold, Shows, change_of, is_node, silent, told_items}
use Rattle.trace_items.specs.FilesChanged.{IsThere, is_news_to, news_of, told_of_change}
use Rattle.named_paths.specs.Named.{any_has_open, any_names, are_of}
use Rattle.trace_items.specs.OwnAdds.{shared_files}
use Rattle.app_trace.specs.Told.{item_told}
use Rattle.trace_items.specs.Touches.{shown_in}
use Rattle.named_paths.proofs.NamesHeld.{TempsOn, held-named}
use Rattle.named_paths.proofs.OpenPaths.{known-of, open-named}
use Rattle.save_files.specs.Own.{own_on}
use Rattle.trace_items.proofs.SharedFiles.{touch-shared}

-- ---- connections that wait for nothing

pub bus-silent : (o : Option Connection) → bus_of (option_map silent o) ≡ option_map silent (bus_of o)
bus-silent None = refl
bus-silent (Some c) = by_kind (is_mount c.kind)
  where
    by_kind : (b : Bool) → cond b None (Some (silent c)) ≡ option_map silent (cond b None (Some c))
    by_kind true = refl
    by_kind false = refl

pub mount-silent : (o : Option Connection) → mount_of (option_map silent o) ≡ option_map silent (mount_of o)
mount-silent None = refl
mount-silent (Some c) = by_kind (is_mount c.kind)
  where
    by_kind : (b : Bool) → cond b (Some (silent c)) None ≡ option_map silent (cond b (Some c) None)
    by_kind true = refl
    by_kind false = refl

found-silent : (cs : List Connection) (seat : ℕ) → connection_of (map silent cs) seat ≡ option_map silent (connection_of cs seat)
found-silent [] seat = refl
found-silent (c ∷ cs) seat = by_seat (c.seat == seat) (found-silent cs seat)
  where
    by_seat : (b : Bool) → connection_of (map silent cs) seat ≡ option_map silent (connection_of cs seat) → cond b (Some (silent c)) (connection_of (map silent cs) seat) ≡ option_map silent (cond b (Some c) (connection_of cs seat))
    by_seat true e = refl
    by_seat false e = e

-- the connection that is lent is that of the state, but for what it waits for
pub connection-lent : (lent : Lent) (s : State) (seat : ℕ) (o : Option Connection) → Shows lent s → o ≡ connection_of lent.connections.now seat → o ≡ option_map silent (connection_of s.connections seat)
connection-lent lent s seat o shows e = e ∙ (ap (λ (cs : List Connection). connection_of cs seat) (sym shows.connections) ∙ found-silent s.connections seat)

pub made-silent : (app : List ℕ) (o : Option Connection) (request : Request) → made_by app (option_map silent o) request ≡ made_by app o request
made-silent app None request = refl
made-silent app (Some c) request = refl

-- the connection of which this is left
pub record Heard (o : Option Connection) (d : Connection) : Type 0 where
  pub connection : Connection
  pub here : o ≡ Some connection
  pub is_silent : d ≡ silent connection

pub heard : (o : Option Connection) (d : Connection) → option_map silent o ≡ Some d → Heard o d
heard None d e = cc
heard (Some c) d e = record { connection = c; here = refl; is_silent = cc }

pub nobody-heard : (o : Option Connection) → option_map silent o ≡ None → o ≡ None
nobody-heard None e = refl
nobody-heard (Some c) e = cc

pub bus-heard : (s : State) (seat : ℕ) (o : Option Connection) (d : Connection) → o ≡ option_map silent (connection_of s.connections seat) → bus_of o ≡ Some d → Heard (bus_of (connection_of s.connections seat)) d
bus-heard s seat o d e m = heard (bus_of (connection_of s.connections seat)) d (sym (bus-silent (connection_of s.connections seat)) ∙ (ap bus_of (sym e) ∙ m))

pub not-made : (app : List ℕ) (s : State) (e : Entry) (o : Option Connection) {b : Bool} → o ≡ option_map silent (connection_of s.connections e.seat) → b ≡ made_by app o e.request → b ≡ false → made_by app (connection_of s.connections e.seat) e.request ≡ false
not-made app s e o lend m f = sym (made-silent app (connection_of s.connections e.seat) e.request) ∙ (ap (λ (x : Option Connection). made_by app x e.request) (sym lend) ∙ (sym m ∙ f))

-- ---- the paths of which a view tells

pub knows-lent : (lent : Lent) (s : State) (app path : List ℕ) → Shows lent s → Valid s →
    (are_of (held_documents (held_of lent.book.grants.now app) lent.book.documents.now.live) path || any_has_open lent.numbers.now lent.handles.now.seats app path lent.connections.now)
    ≡ knows (view s app) path
knows-lent lent s app path shows v =
    (λ i. are_of (held_documents (held_of (sym shows.rights i) app) (sym shows.documents i)) path || any_has_open lent.numbers.now lent.handles.now.seats app path (sym shows.connections i))
    ∙ (ap (λ (b : Bool). are_of (held_documents (held_of s.rights app) s.documents) path || b) (open-named s v lent.numbers.now shows.covered lent.handles.now.seats shows.handles app path)
    ∙ sym (known-of path (held_documents (held_of s.rights app) s.documents) (own_connections app s.handles s.connections)))

-- and the files that its connections name
temps-lent : (lent : Lent) (s : State) → Shows lent s → (seat : ℕ) (c : Connection) → connection_of s.connections seat ≡ Some c → TempsOn c (own_on lent.temps.now.seats seat)
temps-lent lent s shows seat c e = shows.temps seat ∙ ap (option_map (λ (x : Connection). x.temps)) e

pub names-lent : (lent : Lent) (s : State) (app : List ℕ) (name : FileName) → Shows lent s → Valid s →
    any_names lent.numbers.now lent.handles.now.seats lent.temps.now.seats app name lent.connections.now ≡ holds_name (view s app) name
names-lent lent s app name shows v =
    (λ i. any_names lent.numbers.now lent.handles.now.seats lent.temps.now.seats app name (sym shows.connections i))
    ∙ held-named s v lent.numbers.now shows.covered lent.handles.now.seats shows.handles lent.temps.now.seats (temps-lent lent s shows) app name

-- ---- what is told

-- where the application makes the entry
pub told-own : (app : List ℕ) (s : State) (e : Entry) (change : FileChange) (x : TraceItem) → made_by app (connection_of s.connections e.seat) e.request ≡ true → item_told x ≡ item.Own (own_of s e) → IsTold app s e change (Own x)
told-own app s e change x m i =
    ap (λ (b : Bool). cond b (item.Own (own_of s e) ∷ []) (map item_of (touch app s e))) m ∙ ap (λ (y : item.TraceItem). y ∷ []) (sym i)

touched : (done : Bool) (effects : List Effect) (xs : List item.TraceItem) → (done ≡ true → map item_of effects ≡ xs) → map item_of (cond done effects []) ≡ cond done xs []
touched true effects xs h = h refl
touched false effects xs h = refl

others : (app : List ℕ) (s : State) (e : Entry) → made_by app (connection_of s.connections e.seat) e.request ≡ false → items_of app s e ≡ map item_of (touch app s e)
others app s e m = ap (λ (b : Bool). cond b (item.Own (own_of s e) ∷ []) (map item_of (touch app s e))) m

-- where another makes it
pub told-touches : (app : List ℕ) (s : State) (e : Entry) (change : FileChange) (xs : List TraceItem) → made_by app (connection_of s.connections e.seat) e.request ≡ false →
    (is_done (reply_at s e).answer ≡ true → map item_told xs ≡ map item_of (request_touch app s e.seat e.request e.given)) → IsTold app s e change (Touches xs)
told-touches app s e change xs m h =
    others app s e m ∙ touched (is_done (reply_at s e).answer) (request_touch app s e.seat e.request e.given) (map item_told xs) (λ d. sym (h d))

pub told-on-node : (app : List ℕ) (s : State) (e : Entry) (change : FileChange) (told : News) → made_by app (connection_of s.connections e.seat) e.request ≡ false → is_node e.request ≡ true → Comes s e change →
    ((done : Bool) (behind : Held) → (done ≡ true → IsThere change (held_in s)) → told_items change told done behind ≡ cond done (map item_of (told_of_change (view s app) change behind)) []) → IsTold app s e change told
told-on-node app s e change told m n comes h =
    others app s e m
    ∙ (touched (is_done (reply_at s e).answer) (request_touch app s e.seat e.request e.given) (map item_of (told_of_change (view s app) change (held_in (after s e)))) (λ d. ap (map item_of) (comes.node app n d))
    ∙ sym (h (is_done (reply_at s e).answer) (held_in (after s e)) comes.there))

-- a change of which the view is told, or isn't
pub told-changed : (v : AppView) (change : FileChange) (done : Bool) (behind : Held) → (done ≡ true → is_news_to v change ≡ true) → told_items change Changed done behind ≡ cond done (map item_of (told_of_change v change behind)) []
told-changed v change true behind h = ap (λ (b : Bool). map item_of (cond b (news_of change behind) [])) (sym (h refl))
told-changed v change false behind h = refl

pub told-unnamed : (v : AppView) (change : FileChange) (done : Bool) (behind : Held) → (done ≡ true → is_news_to v change ≡ false) → told_items change (Touches []) done behind ≡ cond done (map item_of (told_of_change v change behind)) []
told-unnamed v change true behind h = ap (λ (b : Bool). map item_of (cond b (news_of change behind) [])) (sym (h refl))
told-unnamed v change false behind h = refl

-- ---- calls of another, over the lists that are lent

module _ (lent : Lent) (s : State) (shows : Shows lent s) (app : List ℕ) where
  pub grant-lent : (call : RightsCall) → map item_of (grant_touch app (shown_in lent.book.documents.now.live lent.book.grants.now lent.files.now.present) call) ≡ map item_of (grant_touch app s call)
  grant-lent call = λ i. map item_of (grant_touch app (shown_in (sym shows.documents i) (sym shows.rights i) (sym (ap (λ (h : Held). h.present) shows.files) i)) call)

  pub revoke-lent : (call : RightsCall) → map item_of (revoke_touch app (shown_in lent.book.documents.now.live lent.book.grants.now []) call) ≡ map item_of (revoke_touch app s call)
  revoke-lent call = λ i. map item_of (revoke_touch app (shown_in (sym shows.documents i) (sym shows.rights i) []) call)

  pub delete-lent : (doc : List ℕ) → map item_of (delete_touch app (shown_in lent.book.documents.now.live lent.book.grants.now []) doc) ≡ map item_of (delete_touch app s doc)
  delete-lent doc = λ i. map item_of (delete_touch app (shown_in (sym shows.documents i) (sym shows.rights i) []) doc)

  pub add-lent : (c : Connection) (a : AddRequest) (numbers : List DocId) (paths : List (List ℕ)) → paths ≡ document_paths c.queue a → is_app app c.who ≡ false → names_app app a ≡ true →
      map item_of (shared_files app (shown_in lent.book.documents.now.live lent.book.grants.now lent.files.now.present) a numbers paths).effects ≡ map item_of (add_touch app s c a numbers)
  add-lent c a numbers paths p other named =
      (λ i. map item_of (shared_files app (shown_in (sym shows.documents i) (sym shows.rights i) (sym (ap (λ (h : Held). h.present) shows.files) i)) a numbers (p i)).effects)
      ∙ ap (map item_of) (sym (touch-shared app s c a numbers other named))

-- ---- an entry

pub awaits : (app : List ℕ) (s : State) (e : Entry) (told : News) (u : FileUpdate) → Comes s e (change_of u) → IsTold app s e (change_of u) told → Awaits app s e (record { told = told; change = u })
awaits app s e told u comes items = record {
  items = items ∙ ap (λ (files : Held). told_items (change_of u) told (is_done (reply_at s e).answer) files) comes.files;
  files = comes.files;
}
