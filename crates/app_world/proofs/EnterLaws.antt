-- Enter: what it is to the application that makes it, and to another.
use Rattle.std.proofs.Common.{◌≡◌, ℕ, List, [], ◌∷◌, ◌++◌, map, Bool, true, false, cond, Option, Some, None, refl, sym, ap, ◌∙◌}
use Rattle.std.specs.List.{filter, flat_map}
use Rattle.std.proofs.lemmas.List.{append-nil, map-append}
use Rattle.std.proofs.lemmas.List.Concat.{flat_map-append}
use Rattle.std.proofs.lemmas.List.Elements.{filter-append}
use Rattle.file_generations.specs.Generations.{all_held}
use Rattle.portal_base.specs.declared.files.FileName.{FileName}
use Rattle.portal_base.specs.declared.who.Kind.{Kind}
use Rattle.portal_base.specs.declared.who.Who.{Who}
use Rattle.portal_model.specs.declared.handle.OpenHandle.{OpenHandle}
use Rattle.portal_model.specs.declared.request.Request.TheVariants as Request
use Rattle.portal_model.specs.declared.state.Connection.{Connection}
use Rattle.portal_model.specs.Enter.{enter, entered, enter_answer, new_connection}
use Rattle.portal_model.specs.History.{made_by}
use Rattle.portal_model.specs.State.{State, connection_of, handles_of, held_in, held_of, is_app}
use Rattle.portal_model.specs.Valid.{Valid}
use Rattle.portal_model.proofs.OpenHandles.{none_open}
use Rattle.app_world.specs.Enter.{new_own_connection, own_enter, own_entered, own_enter_answer}
use Rattle.app_world.specs.View.{HeldDocument, OwnConnection, contents_at, files_at, found_connection, held_documents, is_plain_document, names_held, names_of_connection, own_connection, own_connections, own_handle, paths_of_connection, paths_where, view, view_over}
use Rattle.app_world.proofs.ViewLaws.{is_app-named, own-none, own-some, view-connections}

-- the connections of an application, and one more
more_own : (app : List ℕ) (hs : List OpenHandle) (cs : List Connection) (c : Connection) → own_connections app hs (cs ++ c ∷ []) ≡ own_connections app hs cs ++ own_connections app hs (c ∷ [])
more_own app hs cs c =
    ap (map (own_connection app hs)) (filter-append (λ (x : Connection). is_app app x.who) cs (c ∷ []))
    ∙ map-append (own_connection app hs) (filter (λ (x : Connection). is_app app x.who) cs) (filter (λ (x : Connection). is_app app x.who) (c ∷ []))

new_own : (app : List ℕ) (hs : List OpenHandle) (seat : ℕ) (who : Who) (kind : Kind) → is_app app who ≡ true → handles_of hs seat ≡ [] → new_own_connection seat who kind ≡ own_connections app hs (new_connection seat who kind ∷ [])
new_own app hs seat who kind h o =
    ap (λ (w : Who). new_own_connection seat w kind) (is_app-named app who h) ∙ (λ i. record { seat = seat; app = app; kind = kind; queue = []; opens = 0; handles = map own_handle (sym o i); namings = []; temps = []; added = 0 } ∷ [])
    ∙ sym (rw h refl)

own_entered-is : (app : List ℕ) (hs : List OpenHandle) (seat : ℕ) (who : Who) (kind : Kind) (cs : List Connection) (o : Option Connection) → connection_of cs seat ≡ o → made_by app o (Request.Enter who kind) ≡ true → (o ≡ None → handles_of hs seat ≡ []) →
    own_entered seat who kind (own_connections app hs cs) (found_connection (own_connections app hs cs) seat) ≡ own_connections app hs (entered seat who kind cs o)
own_entered-is app hs seat who kind cs None e h n =
    ap (own_entered seat who kind (own_connections app hs cs)) (own-none app hs seat cs e)
    ∙ (ap (λ (more : List OwnConnection). own_connections app hs cs ++ more) (new_own app hs seat who kind h (n refl)) ∙ sym (more_own app hs cs (new_connection seat who kind)))
own_entered-is app hs seat who kind cs (Some c) e h n = ap (own_entered seat who kind (own_connections app hs cs)) (own-some app hs seat cs c e h)

own_answer-is : (app : List ℕ) (hs : List OpenHandle) (seat : ℕ) (who : Who) (kind : Kind) (cs : List Connection) (o : Option Connection) → connection_of cs seat ≡ o → made_by app o (Request.Enter who kind) ≡ true →
    own_enter_answer (found_connection (own_connections app hs cs) seat) ≡ enter_answer o
own_answer-is app hs seat who kind cs None e h = ap own_enter_answer (own-none app hs seat cs e)
own_answer-is app hs seat who kind cs (Some c) e h = ap own_enter_answer (own-some app hs seat cs c e h)

other_entered : (app : List ℕ) (hs : List OpenHandle) (seat : ℕ) (who : Who) (kind : Kind) (cs : List Connection) (o : Option Connection) → made_by app o (Request.Enter who kind) ≡ false →
    own_connections app hs (entered seat who kind cs o) ≡ own_connections app hs cs
other_entered app hs seat who kind cs None h =
    more_own app hs cs (new_connection seat who kind)
    ∙ (ap (λ (b : Bool). own_connections app hs cs ++ map (own_connection app hs) (cond b (new_connection seat who kind ∷ []) [])) h ∙ append-nil (own_connections app hs cs))
other_entered app hs seat who kind cs (Some c) h = refl

-- a connection that was opened now names no path
new_paths : (seat : ℕ) (who : Who) (kind : Kind) → flat_map paths_of_connection (new_own_connection seat who kind) ≡ []
new_paths seat Who.Host kind = refl
new_paths seat (Who.App app) kind = refl

entered_paths : (seat : ℕ) (who : Who) (kind : Kind) (cs : List OwnConnection) (o : Option OwnConnection) → flat_map paths_of_connection cs ≡ flat_map paths_of_connection (own_entered seat who kind cs o)
entered_paths seat who kind cs None =
    sym (flat_map-append paths_of_connection cs (new_own_connection seat who kind)
    ∙ (ap (λ (ps : List (List ℕ)). flat_map paths_of_connection cs ++ ps) (new_paths seat who kind) ∙ append-nil (flat_map paths_of_connection cs)))
entered_paths seat who kind cs (Some c) = refl

-- and no file
new_names : (seat : ℕ) (who : Who) (kind : Kind) → names_held (new_own_connection seat who kind) ≡ []
new_names seat Who.Host kind = refl
new_names seat (Who.App app) kind = refl

entered_names : (seat : ℕ) (who : Who) (kind : Kind) (cs : List OwnConnection) (o : Option OwnConnection) → names_held cs ≡ names_held (own_entered seat who kind cs o)
entered_names seat who kind cs None =
    sym (flat_map-append names_of_connection cs (new_own_connection seat who kind)
    ∙ (ap (λ (ns : List FileName). names_held cs ++ ns) (new_names seat who kind) ∙ append-nil (names_held cs)))
entered_names seat who kind cs (Some c) = refl

-- the application's own Enter gives the view after it, and the answer
pub enter_own : (app : List ℕ) (s : State) (seat : ℕ) (who : Who) (kind : Kind) → Valid s → made_by app (connection_of s.connections seat) (Request.Enter who kind) ≡ true →
    own_enter (view s app) seat who kind ≡ (view (enter s seat who kind).0 app, (enter s seat who kind).1)
enter_own app s seat who kind v h =
    let ds : List HeldDocument = held_documents (held_of s.rights app) s.documents in
    let cs : List OwnConnection = own_connections app s.handles s.connections in
    let more : List OwnConnection = own_entered seat who kind cs (found_connection cs seat) in
    let seen : record (view s app) { connections = more } ≡ view (enter s seat who kind).0 app =
    (λ i. record (view_over s.limits (held_in s) ds more) {
      contents = contents_at s.files (paths_where is_plain_document ds ++ entered_paths seat who kind cs (found_connection cs seat) i);
      files = files_at (all_held (held_in s)) (entered_names seat who kind cs (found_connection cs seat) i);
    })
    ∙ ap (view_over s.limits (held_in s) ds) (own_entered-is app s.handles seat who kind s.connections (connection_of s.connections seat) refl h (λ e. none_open seat s.connections s.handles e v.handles_sound)) in
    λ i. (seen i, own_answer-is app s.handles seat who kind s.connections (connection_of s.connections seat) refl h i)

-- another's leaves the view
pub enter_other : (app : List ℕ) (s : State) (seat : ℕ) (who : Who) (kind : Kind) → made_by app (connection_of s.connections seat) (Request.Enter who kind) ≡ false →
    view s app ≡ view (enter s seat who kind).0 app
enter_other app s seat who kind h =
    view-connections app s (entered seat who kind s.connections (connection_of s.connections seat)) (sym (other_entered app s.handles seat who kind s.connections (connection_of s.connections seat) h))
