-- What a view takes from the state; and the connections of an application.
use Rattle.std.proofs.Common.{◌≡◌, ℕ, ◌==◌, List, [], ◌∷◌, ◌++◌, map, Bool, true, false, ◌||◌, cond, Some, None, refl, sym, ap, ◌∙◌, arith}
use Rattle.std.specs.List.{filter}
use Rattle.std.specs.Option.{option_map}
use Rattle.file_generations.specs.Generations.{Held, all_held}
use Rattle.portal_base.specs.Names.{is_same}
use Rattle.portal_base.specs.declared.files.FileName.{FileName}
use Rattle.portal_base.specs.declared.limits.Limits.{Limits}
use Rattle.portal_base.specs.declared.who.Kind.{Kind}
use Rattle.portal_base.specs.declared.who.Who.{Who}
use Rattle.rights_rule.specs.Rights.{RightSet, holds_any}
use Rattle.portal_model.specs.declared.handle.OpenHandle.{OpenHandle}
use Rattle.portal_model.specs.declared.rights.Right.{Right}
use Rattle.portal_model.specs.declared.rights.Right.TheVariants.{Read, Write, GrantPermissions, Delete}
use Rattle.portal_model.specs.declared.state.Connection.{Connection}
use Rattle.portal_model.specs.declared.state.Document.{Document}
use Rattle.portal_model.specs.declared.state.Triple.{Triple}
use Rattle.portal_model.specs.State.{State, app_has, connection_of, document_of, gives, handles_of, held_in, held_of, is_app}
use Rattle.portal_model.specs.Step.{all_told, told_of}
use Rattle.portal_model.specs.Valid.{Valid, is_none, is_host_bus, is_sound_connection}
use Rattle.portal_model.proofs.ListLookups.{is_same-eq, nat_is, find-filter-none, find-filter-some, find-map, found_in_all}
use Rattle.portal_model.proofs.WhoWaits.{none-nil}
use Rattle.app_world.specs.Laws.{with_document, with_right}
use Rattle.app_world.specs.View.{HeldDocument, OwnConnection, TakesAlike, found_connection, folder_paths, held_documents, is_among, is_held, is_held_name, is_plain_document, named_paths, names_held, number_of, own_connection, own_connections, own_handle, paths_where, prune, pruned, seen, view, view_over}
use Rattle.app_world.proofs.ContentLaws.{below-fewer, below-same, contents-fewer, contents-same}
use Rattle.app_world.proofs.DocumentLaws.{documents-are, documents-found, documents-rising, kept-seen, seen-nothing}
use Rattle.app_world.proofs.Found.{find-kept, kept}
use Rattle.app_world.proofs.NamedFiles.{named-fewer, named-same}
use Rattle.app_world.proofs.Orders.{numbers}
use Rattle.portal_model.proofs.RisingLists.{rising-filter}

-- ---- the frame: states of which a view takes the same have the same view

-- the same is seen of each number
pub documents-same : (held held' : ℕ → RightSet) (documents documents' : List Document) → ((n : ℕ) → seen (held n) (document_of documents n) ≡ seen (held' n) (document_of documents' n)) →
    held_documents held documents ≡ held_documents held' documents'
documents-same held held' documents documents' e =
    documents-are held' documents' (held_documents held documents) (documents-rising held documents) (λ n. documents-found held n documents ∙ e n)

pub view-alike : (app : List ℕ) (s t : State) → TakesAlike app s t → view s app ≡ view t app
view-alike app s t a =
    let ds : List HeldDocument = held_documents (held_of s.rights app) s.documents in
    let cs : List OwnConnection = own_connections app s.handles s.connections in
    let documents : ds ≡ held_documents (held_of t.rights app) t.documents = documents-same (held_of s.rights app) (held_of t.rights app) s.documents t.documents a.documents in
    (λ i. record {
      handles = a.handles i;
      queued = a.queued i;
      file_bytes = a.file_bytes i;
      documents = ds;
      connections = cs;
      contents = contents-same s.files t.files (named_paths ds cs) a.contents i;
      below = below-same s.files t.files (folder_paths ds) a.below i;
      files = named-same (all_held (held_in s)) (all_held (held_in t)) (names_held cs) a.files i;
    })
    ∙ (λ i. view_over t.limits (held_in t) (documents i) (a.connections i))

-- the same is seen of each number, and nothing else changes
pub view-documents : (app : List ℕ) (s : State) (documents : List Document) (rights : List Triple) → ((n : ℕ) → seen (held_of s.rights app n) (document_of s.documents n) ≡ seen (held_of rights app n) (document_of documents n)) →
    view s app ≡ view (record s { documents = documents; rights = rights }) app
view-documents app s documents rights e =
    ap (λ (ds : List HeldDocument). view_over s.limits (held_in s) ds (own_connections app s.handles s.connections)) (documents-same (held_of s.rights app) (held_of rights app) s.documents documents e)

-- connections of others
pub view-connections : (app : List ℕ) (s : State) (cs : List Connection) → own_connections app s.handles s.connections ≡ own_connections app s.handles cs → view s app ≡ view (record s { connections = cs }) app
view-connections app s cs e = ap (view_over s.limits (held_in s) (held_documents (held_of s.rights app) s.documents)) e

-- and open handles
pub view-open : (app : List ℕ) (s : State) (cs : List Connection) (hs : List OpenHandle) → own_connections app s.handles s.connections ≡ own_connections app hs cs → view s app ≡ view (record s { connections = cs; handles = hs }) app
view-open app s cs hs e = ap (view_over s.limits (held_in s) (held_documents (held_of s.rights app) s.documents)) e

-- a right that another application is given
has-granted : (app : List ℕ) (rights : List Triple) (t : Triple) (number : ℕ) (right : Right) → is_same t.app app ≡ false → app_has (rights ++ t ∷ []) app number right ≡ app_has rights app number right
has-granted app [] t number right h = rw h refl
has-granted app (x ∷ xs) t number right h = ap (λ (b : Bool). gives app number right x || b) (has-granted app xs t number right h)

held-granted : (app : List ℕ) (rights : List Triple) (t : Triple) (number : ℕ) → is_same t.app app ≡ false → held_of (rights ++ t ∷ []) app number ≡ held_of rights app number
held-granted app rights t number h = λ i. record {
  read = has-granted app rights t number Read h i;
  write = has-granted app rights t number Write h i;
  grant_permissions = has-granted app rights t number GrantPermissions h i;
  delete = has-granted app rights t number Delete h i;
}

pub view-granted : (app : List ℕ) (s : State) (t : Triple) → is_same t.app app ≡ false → view (with_right s t) app ≡ view s app
view-granted app s t h =
    sym (view-documents app s s.documents (s.rights ++ t ∷ []) (λ n. ap (λ (k : RightSet). seen k (document_of s.documents n)) (sym (held-granted app s.rights t n h))))

-- a document in which the application has no right
found-last : (n : ℕ) (k : RightSet) (d : Document) (ds : List Document) → ((d.id.number == n) ≡ true → holds_any k ≡ false) → seen k (document_of (ds ++ d ∷ []) n) ≡ seen k (document_of ds n)
found-last n k d [] h = by_number (d.id.number == n) h
  where
    by_number : (b : Bool) → (b ≡ true → holds_any k ≡ false) → seen k (cond b (Some d) None) ≡ None
    by_number true f = seen-nothing k (Some d) (f refl)
    by_number false f = refl
found-last n k d (x ∷ xs) h = by_first (x.id.number == n) (found-last n k d xs h)
  where
    by_first : (b : Bool) → seen k (document_of (xs ++ d ∷ []) n) ≡ seen k (document_of xs n) → seen k (cond b (Some x) (document_of (xs ++ d ∷ []) n)) ≡ seen k (cond b (Some x) (document_of xs n))
    by_first true m = refl
    by_first false m = m

pub view-added : (app : List ℕ) (s : State) (d : Document) → holds_any (held_of s.rights app d.id.number) ≡ false → view (with_document s d) app ≡ view s app
view-added app s d h =
    sym (view-documents app s (s.documents ++ d ∷ []) s.rights (λ n. sym (found-last n (held_of s.rights app n) d s.documents (λ e. ap (λ (m : ℕ). holds_any (held_of s.rights app m)) (sym (nat_is d.id.number n e)) ∙ h))))

-- ---- what a view keeps where it is pruned

pub still_held : (held : ℕ → RightSet) (documents : List Document) → filter is_held (held_documents held documents) ≡ held_documents held documents
still_held held documents =
    documents-are held documents (filter is_held (held_documents held documents)) (rising-filter _ _ number_of numbers is_held (held_documents held documents) (documents-rising held documents)) (λ n.
    find-kept _ _ number_of numbers is_held n (held_documents held documents) (documents-rising held documents)
    ∙ (ap (kept is_held) (documents-found held n documents) ∙ kept-seen (held n) (document_of documents n)))

pub among-joined : (ps qs : List (List ℕ)) (path : List ℕ) → is_among (ps ++ qs) path ≡ (is_among ps path || is_among qs path)
among-joined [] qs path = refl
among-joined (p ∷ ps) qs path = grind (arith, among-joined ps qs path)

pub names-fewer : (ds : List (List ℕ)) (ps qs : List (List ℕ)) (path : List ℕ) → (is_among qs path ≡ true → is_among ps path ≡ true) → is_among (ds ++ qs) path ≡ true → is_among (ds ++ ps) path ≡ true
names-fewer ds ps qs path e h =
    let x : (is_among ds path || is_among qs path) ≡ true = sym (among-joined ds qs path) ∙ h in
    among-joined ds ps path ∙ by_first (is_among ds path) x
  where
    by_first : (b : Bool) → (b || is_among qs path) ≡ true → (b || is_among ps path) ≡ true
    by_first true x = refl
    by_first false x = e x

pub names-fewer-documents : (ps qs rest : List (List ℕ)) (path : List ℕ) → (is_among qs path ≡ true → is_among ps path ≡ true) → is_among (qs ++ rest) path ≡ true → is_among (ps ++ rest) path ≡ true
names-fewer-documents ps qs rest path e h = among-joined ps rest path ∙ by_first (is_among qs path) refl (sym (among-joined qs rest path) ∙ h)
  where
    or-left : (a b : Bool) → a ≡ true → (a || b) ≡ true
    or-left true b g = refl
    or-left false b g = cc

    or-right : (a b : Bool) → b ≡ true → (a || b) ≡ true
    or-right true b g = refl
    or-right false b g = g

    by_first : (b : Bool) → is_among qs path ≡ b → (b || is_among rest path) ≡ true → (is_among ps path || is_among rest path) ≡ true
    by_first true k x = or-left (is_among ps path) (is_among rest path) (e k)
    by_first false k x = or-right (is_among ps path) (is_among rest path) x

-- connections that name no other paths and no other files
pub prune-connections : (limits : Limits) (tree : Held) (held : ℕ → RightSet) (documents : List Document) (cs more : List OwnConnection) →
    ((path : List ℕ) → is_among (named_paths [] more) path ≡ true → is_among (named_paths [] cs) path ≡ true) →
    ((name : FileName) → is_held_name (names_held more) name ≡ true → is_held_name (names_held cs) name ≡ true) →
    prune (record (view_over limits tree (held_documents held documents) cs) { connections = more }) ≡ view_over limits tree (held_documents held documents) more
prune-connections limits tree held documents cs more e f =
    let ds : List HeldDocument = held_documents held documents in
    ap (λ (xs : List HeldDocument). pruned xs (record (view_over limits tree ds cs) { connections = more })) (still_held held documents)
    ∙ (λ i. record (view_over limits tree ds more) {
      contents = contents-fewer tree.present (named_paths ds cs) (named_paths ds more) (λ path. names-fewer (paths_where is_plain_document ds) (named_paths [] cs) (named_paths [] more) path (e path)) i;
      below = below-fewer tree.present (folder_paths ds) (folder_paths ds) (λ path h. h) i;
      files = named-fewer (all_held tree) (names_held cs) (names_held more) f i;
    })

-- ---- the connections of an application

-- a caller that is the application has its name
pub is_app-named : (app : List ℕ) (who : Who) → is_app app who ≡ true → who ≡ Who.App app
is_app-named app Who.Host h = cc
is_app-named app (Who.App name) h = ap Who.App (is_same-eq name app h)

is_app-no_host : (app : List ℕ) (who : Who) (kind : Kind) → is_app app who ≡ true → is_host_bus who kind ≡ false
is_app-no_host app Who.Host kind h = cc
is_app-no_host app (Who.App name) kind h = refl

-- nothing waits to be told to an application
own_silent : (app : List ℕ) (queued : ℕ) (c : Connection) → is_app app c.who ≡ true → is_sound_connection queued c ≡ true → is_none c.unsent ≡ true
own_silent app queued c h k = grind (arith, is_app-no_host app c.who c.kind h)

pub own_unsent : (app : List ℕ) (s : State) (seat : ℕ) (c : Connection) → Valid s → connection_of s.connections seat ≡ Some c → is_app app c.who ≡ true → c.unsent ≡ []
own_unsent app s seat c v e h =
    none-nil c.unsent (own_silent app s.limits.queued c h (found_in_all (λ (x : Connection). x.seat == seat) (is_sound_connection s.limits.queued) s.connections c e v.connections_sound))

-- what a view has of a connection is not what waits to be told
one_told : (app : List ℕ) (hs : List OpenHandle) (seat : ℕ) (c : Connection) (more more' : List OwnConnection) → more ≡ more' →
    cond (is_app app (told_of seat c).who) (own_connection app hs (told_of seat c) ∷ more) more ≡ cond (is_app app c.who) (own_connection app hs c ∷ more') more'
one_told app hs seat c more more' e = elim (c.seat == seat) as (λ b. cond (is_app app (cond b (record c { unsent = [] }) c).who) (own_connection app hs (cond b (record c { unsent = [] }) c) ∷ more) more ≡ cond (is_app app c.who) (own_connection app hs c ∷ more') more') [
  | true ↦ ap (λ (m : List OwnConnection). cond (is_app app c.who) (own_connection app hs c ∷ m) m) e
  | false ↦ ap (λ (m : List OwnConnection). cond (is_app app c.who) (own_connection app hs c ∷ m) m) e
]

pub own_first : (app : List ℕ) (hs : List OpenHandle) (c : Connection) (cs : List Connection) (b : Bool) → is_app app c.who ≡ b → own_connections app hs (c ∷ cs) ≡ cond b (own_connection app hs c ∷ own_connections app hs cs) (own_connections app hs cs)
own_first app hs c cs true e = rw e refl
own_first app hs c cs false e = rw e refl

pub own_told : (app : List ℕ) (hs : List OpenHandle) (seat : ℕ) (cs : List Connection) → own_connections app hs (map (told_of seat) cs) ≡ own_connections app hs cs
own_told app hs seat [] = refl
own_told app hs seat (c ∷ cs) =
    own_first app hs (told_of seat c) (map (told_of seat) cs) (is_app app (told_of seat c).who) refl
    ∙ (one_told app hs seat c (own_connections app hs (map (told_of seat) cs)) (own_connections app hs cs) (own_told app hs seat cs) ∙ sym (own_first app hs c cs (is_app app c.who) refl))

-- telling changes no view
pub view-told : (app : List ℕ) (s : State) (seat : ℕ) → view (all_told seat s) app ≡ view s app
view-told app s seat = sym (view-connections app s (map (told_of seat) s.connections) (sym (own_told app s.handles seat s.connections)))

-- the open connection of a seat, where it is the application's
pub own-none : (app : List ℕ) (hs : List OpenHandle) (seat : ℕ) (cs : List Connection) → connection_of cs seat ≡ None → found_connection (own_connections app hs cs) seat ≡ None
own-none app hs seat cs e =
    find-map (λ (c : OwnConnection). c.seat == seat) (own_connection app hs) (filter (λ (c : Connection). is_app app c.who) cs)
    ∙ ap (option_map (own_connection app hs)) (find-filter-none (λ (c : Connection). c.seat == seat) (λ (c : Connection). is_app app c.who) cs e)

pub own-some : (app : List ℕ) (hs : List OpenHandle) (seat : ℕ) (cs : List Connection) (c : Connection) → connection_of cs seat ≡ Some c → is_app app c.who ≡ true → found_connection (own_connections app hs cs) seat ≡ Some (own_connection app hs c)
own-some app hs seat cs c e h =
    find-map (λ (x : OwnConnection). x.seat == seat) (own_connection app hs) (filter (λ (x : Connection). is_app app x.who) cs)
    ∙ ap (option_map (own_connection app hs)) (find-filter-some (λ (x : Connection). x.seat == seat) (λ (x : Connection). is_app app x.who) cs c e h)

-- ---- the open handles of a connection

pub own-open : (app : List ℕ) (hs more : List OpenHandle) (c : Connection) → handles_of more c.seat ≡ handles_of hs c.seat → own_connection app more c ≡ own_connection app hs c
own-open app hs more c e = λ i. record (own_connection app hs c) { handles = map own_handle (e i) }

-- no connection of the view has the seat of which handles change
module _ (app : List ℕ) (seat : ℕ) (hs more : List OpenHandle) (e : (n : ℕ) → (n == seat) ≡ false → handles_of more n ≡ handles_of hs n) where
  first_apart : (c : Connection) (cs : List Connection) (b : Bool) → is_app app c.who ≡ b → found_connection (own_connections app hs (c ∷ cs)) seat ≡ None →
      (found_connection (own_connections app hs cs) seat ≡ None → own_connections app more cs ≡ own_connections app hs cs) → own_connections app more (c ∷ cs) ≡ own_connections app hs (c ∷ cs)
  first_apart c cs true a f rest =
      let found : cond (c.seat == seat) (Some (own_connection app hs c)) (found_connection (own_connections app hs cs) seat) ≡ None = ap (λ (xs : List OwnConnection). found_connection xs seat) (sym (own_first app hs c cs true a)) ∙ f in
      own_first app more c cs true a ∙ (by_seat (c.seat == seat) refl found ∙ sym (own_first app hs c cs true a))
    where
      by_seat : (b : Bool) → (c.seat == seat) ≡ b → cond b (Some (own_connection app hs c)) (found_connection (own_connections app hs cs) seat) ≡ None →
          own_connection app more c ∷ own_connections app more cs ≡ own_connection app hs c ∷ own_connections app hs cs
      by_seat true k g = cc
      by_seat false k g = λ i. own-open app hs more c (e c.seat k) i ∷ rest g i
  first_apart c cs false a f rest =
      let found : found_connection (own_connections app hs cs) seat ≡ None = ap (λ (xs : List OwnConnection). found_connection xs seat) (sym (own_first app hs c cs false a)) ∙ f in
      own_first app more c cs false a ∙ (rest found ∙ sym (own_first app hs c cs false a))

  pub open-elsewhere : (cs : List Connection) → found_connection (own_connections app hs cs) seat ≡ None → own_connections app more cs ≡ own_connections app hs cs
  open-elsewhere [] f = refl
  open-elsewhere (c ∷ cs) f = first_apart c cs (is_app app c.who) refl f (open-elsewhere cs)
