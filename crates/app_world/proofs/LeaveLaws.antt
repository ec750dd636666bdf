-- Leave: what it is to the application that makes it, and to another.
use Rattle.std.proofs.Common.{◌≡◌, ◌==◌, ℕ, nat_eq, List, [], ◌∷◌, map, not, Bool, true, false, ◌||◌, cond, Option, Some, None, refl, sym, ap, ◌∙◌, arith}
use Rattle.std.specs.List.{filter, flat_map, IsDistinct, AllByRecursion}
use Rattle.std.proofs.lemmas.Bool.Decides.{nat_tests}
use Rattle.portal_base.specs.declared.files.FileName.{FileName}
use Rattle.portal_model.specs.declared.handle.OpenHandle.{OpenHandle}
use Rattle.portal_model.specs.declared.request.Request.TheVariants as Request
use Rattle.portal_model.specs.declared.state.Connection.{Connection}
use Rattle.portal_model.specs.History.{made_by}
use Rattle.portal_model.specs.Leave.{handles_left, handles_of_others, leave, leave_answer, left, of_others}
use Rattle.portal_model.specs.State.{State, connection_of, handles_of, held_in, held_of, is_app}
use Rattle.portal_model.specs.Valid.{Valid}
use Rattle.portal_model.proofs.ListLookups.{filters-swap}
use Rattle.app_world.specs.Leave.{own_leave, own_leave_answer, own_left}
use Rattle.app_world.specs.View.{OwnConnection, found_connection, held_documents, is_among, is_held_name, named_paths, names_held, names_of_connection, own_connection, own_connections, paths_of_connection, prune, view, view_over}
use Rattle.app_world.proofs.NamedFiles.{held-joined}
use Rattle.app_world.proofs.PresentLaws.{own-other}
use Rattle.app_world.proofs.ViewLaws.{among-joined, open-elsewhere, own-open, own-some, own_first, prune-connections, view-open}

-- ---- of the application itself

abbrev is_elsewhere : ℕ → OwnConnection → Bool
is_elsewhere seat c = not (c.seat == seat)

filter-map : {X Y : Type 0} (p : Y → Bool) (f : X → Y) (xs : List X) → filter p (map f xs) ≡ map f (filter (λ x. p (f x)) xs)
filter-map p f [] = refl
filter-map p f (x ∷ xs) = grind (arith, filter-map p f xs)

-- what the seats of others have open stays
pub open-of_others : (seat : ℕ) (hs : List OpenHandle) (n : ℕ) → (n == seat) ≡ false → handles_of (handles_of_others seat hs) n ≡ handles_of hs n
open-of_others seat [] n e = refl
open-of_others seat (h ∷ hs) n e = grind (arith, nat_tests, open-of_others seat hs n)

-- what is left of a view's connections is what the view has of those that are left
own_rest : (app : List ℕ) (hs : List OpenHandle) (seat : ℕ) (cs : List Connection) → filter (is_elsewhere seat) (own_connections app hs cs) ≡ own_connections app hs (of_others seat cs)
own_rest app hs seat cs =
    filter-map (is_elsewhere seat) (own_connection app hs) (filter (λ (c : Connection). is_app app c.who) cs)
    ∙ ap (map (own_connection app hs)) (filters-swap (λ (c : Connection). not (c.seat == seat)) (λ (c : Connection). is_app app c.who) cs)

one_left : (app : List ℕ) (hs : List OpenHandle) (seat : ℕ) (c : Connection) (cs : List Connection) (b : Bool) → (c.seat == seat) ≡ b →
    own_connections app (handles_of_others seat hs) cs ≡ own_connections app hs cs →
    own_connections app (handles_of_others seat hs) (cond (not b) (c ∷ cs) cs) ≡ own_connections app hs (cond (not b) (c ∷ cs) cs)
one_left app hs seat c cs true e rest = rest
one_left app hs seat c cs false e rest =
    own_first app (handles_of_others seat hs) c cs (is_app app c.who) refl
    ∙ ((λ i. cond (is_app app c.who) (own-open app hs (handles_of_others seat hs) c (open-of_others seat hs c.seat e) i ∷ rest i) (rest i))
    ∙ sym (own_first app hs c cs (is_app app c.who) refl))

rest_open : (app : List ℕ) (hs : List OpenHandle) (seat : ℕ) (cs : List Connection) → own_connections app (handles_of_others seat hs) (of_others seat cs) ≡ own_connections app hs (of_others seat cs)
rest_open app hs seat [] = refl
rest_open app hs seat (c ∷ cs) = one_left app hs seat c (of_others seat cs) (c.seat == seat) refl (rest_open app hs seat cs)

own_left-is : (app : List ℕ) (hs : List OpenHandle) (seat : ℕ) (cs : List Connection) (o : Option Connection) → connection_of cs seat ≡ o → made_by app o Request.Leave ≡ true →
    own_left seat (own_connections app hs cs) (found_connection (own_connections app hs cs) seat) ≡ own_connections app (handles_left seat hs o) (left seat cs o)
own_left-is app hs seat cs None e h = cc
own_left-is app hs seat cs (Some c) e h = ap (own_left seat (own_connections app hs cs)) (own-some app hs seat cs c e h) ∙ (own_rest app hs seat cs ∙ sym (rest_open app hs seat cs))

own_answer-is : (app : List ℕ) (hs : List OpenHandle) (seat : ℕ) (cs : List Connection) (o : Option Connection) → connection_of cs seat ≡ o → made_by app o Request.Leave ≡ true →
    own_leave_answer (found_connection (own_connections app hs cs) seat) ≡ leave_answer o
own_answer-is app hs seat cs None e h = cc
own_answer-is app hs seat cs (Some c) e h = ap own_leave_answer (own-some app hs seat cs c e h)

or-true : (a : Bool) {b : Bool} → b ≡ true → (a || b) ≡ true
or-true true e = refl
or-true false e = e

either : (a : Bool) {b c : Bool} → (b ≡ true → c ≡ true) → (a || b) ≡ true → (a || c) ≡ true
either true f e = refl
either false f e = f e

one_fewer : (c : OwnConnection) (rest cs : List OwnConnection) (path : List ℕ) (b : Bool) → (is_among (flat_map paths_of_connection rest) path ≡ true → is_among (flat_map paths_of_connection cs) path ≡ true) →
    is_among (flat_map paths_of_connection (cond b (c ∷ rest) rest)) path ≡ true → is_among (flat_map paths_of_connection (c ∷ cs)) path ≡ true
one_fewer c rest cs path true f h =
    among-joined (paths_of_connection c) (flat_map paths_of_connection cs) path
    ∙ either (is_among (paths_of_connection c) path) f (sym (among-joined (paths_of_connection c) (flat_map paths_of_connection rest) path) ∙ h)
one_fewer c rest cs path false f h = among-joined (paths_of_connection c) (flat_map paths_of_connection cs) path ∙ or-true (is_among (paths_of_connection c) path) (f h)

-- the connections that are left name nothing new
fewer_paths : (p : OwnConnection → Bool) (cs : List OwnConnection) (path : List ℕ) → is_among (flat_map paths_of_connection (filter p cs)) path ≡ true → is_among (flat_map paths_of_connection cs) path ≡ true
fewer_paths p [] path h = h
fewer_paths p (c ∷ cs) path h = one_fewer c (filter p cs) cs path (p c) (fewer_paths p cs path) h

left_names : (seat : ℕ) (cs : List OwnConnection) (o : Option OwnConnection) (path : List ℕ) → is_among (named_paths [] (own_left seat cs o)) path ≡ true → is_among (named_paths [] cs) path ≡ true
left_names seat cs None path h = h
left_names seat cs (Some c) path h = fewer_paths (is_elsewhere seat) cs path h

one_fewer_file : (c : OwnConnection) (rest cs : List OwnConnection) (name : FileName) (b : Bool) → (is_held_name (names_held rest) name ≡ true → is_held_name (names_held cs) name ≡ true) →
    is_held_name (names_held (cond b (c ∷ rest) rest)) name ≡ true → is_held_name (names_held (c ∷ cs)) name ≡ true
one_fewer_file c rest cs name true f h =
    held-joined (names_of_connection c) (names_held cs) name
    ∙ either (is_held_name (names_of_connection c) name) f (sym (held-joined (names_of_connection c) (names_held rest) name) ∙ h)
one_fewer_file c rest cs name false f h = held-joined (names_of_connection c) (names_held cs) name ∙ or-true (is_held_name (names_of_connection c) name) (f h)

fewer_files : (p : OwnConnection → Bool) (cs : List OwnConnection) (name : FileName) → is_held_name (names_held (filter p cs)) name ≡ true → is_held_name (names_held cs) name ≡ true
fewer_files p [] name h = h
fewer_files p (c ∷ cs) name h = one_fewer_file c (filter p cs) cs name (p c) (fewer_files p cs name) h

left_files : (seat : ℕ) (cs : List OwnConnection) (o : Option OwnConnection) (name : FileName) → is_held_name (names_held (own_left seat cs o)) name ≡ true → is_held_name (names_held cs) name ≡ true
left_files seat cs None name h = h
left_files seat cs (Some c) name h = fewer_files (is_elsewhere seat) cs name h

-- ---- of another

abbrev apps : List ℕ → List Connection → List Connection
apps app cs = filter (λ c. is_app app c.who) cs

-- no other connection is of the seat of this one
rest_stays : (seat : ℕ) (c : Connection) (cs : List Connection) → (c.seat == seat) ≡ true → AllByRecursion (λ (n : ℕ). nat_eq c.seat n ≡ false) (map (λ (x : Connection). x.seat) cs) → of_others seat cs ≡ cs
rest_stays seat c [] e d = refl
rest_stays seat c (x ∷ xs) e d =
    let one : (c.seat == x.seat) ≡ false = d.0 in
    let other : (x.seat == seat) ≡ false = grind (arith, nat_tests) in
    rw other (ap (λ (more : List Connection). x ∷ more) (rest_stays seat c xs e d.1))

-- where the rest of the connections loses nothing of the application's, all of them lose nothing
one_gone : (app : List ℕ) (seat : ℕ) (x : Connection) (xs : List Connection) (c : Connection) (b : Bool) → (x.seat == seat) ≡ b → cond b (Some x) (connection_of xs seat) ≡ Some c → is_app app c.who ≡ false →
    AllByRecursion (λ (n : ℕ). nat_eq x.seat n ≡ false) (map (λ (y : Connection). y.seat) xs) → (connection_of xs seat ≡ Some c → apps app (of_others seat xs) ≡ apps app xs) →
    apps app (cond (not b) (x ∷ of_others seat xs) (of_others seat xs)) ≡ apps app (x ∷ xs)
one_gone app seat x xs c true k e h d rest =
    let named : is_app app x.who ≡ false = grind arith in
    rw named (ap (λ (more : List Connection). apps app more) (rest_stays seat x xs k d))
one_gone app seat x xs c false k e h d rest = ap (λ (more : List Connection). cond (is_app app x.who) (x ∷ more) more) (rest e)

other_gone : (app : List ℕ) (seat : ℕ) (cs : List Connection) (c : Connection) → connection_of cs seat ≡ Some c → is_app app c.who ≡ false → IsDistinct nat_eq (map (λ (x : Connection). x.seat) cs) →
    apps app (of_others seat cs) ≡ apps app cs
unfolding IsDistinct
other_gone app seat [] c e h d = cc
other_gone app seat (x ∷ xs) c e h d = one_gone app seat x xs c (x.seat == seat) refl e h d.0 (λ k. other_gone app seat xs c k h d.1)

other_left : (app : List ℕ) (hs : List OpenHandle) (seat : ℕ) (cs : List Connection) (o : Option Connection) → connection_of cs seat ≡ o → made_by app o Request.Leave ≡ false → IsDistinct nat_eq (map (λ (x : Connection). x.seat) cs) →
    own_connections app (handles_left seat hs o) (left seat cs o) ≡ own_connections app hs cs
other_left app hs seat cs None e h d = refl
other_left app hs seat cs (Some c) e h d =
    ap (map (own_connection app (handles_of_others seat hs))) (other_gone app seat cs c e h d)
    ∙ open-elsewhere app seat hs (handles_of_others seat hs) (open-of_others seat hs) cs (own-other app hs seat cs c d e h)

-- ---- the laws

-- the application's own Leave gives the view after it, and the answer
pub leave_own : (app : List ℕ) (s : State) (seat : ℕ) → made_by app (connection_of s.connections seat) Request.Leave ≡ true → own_leave (view s app) seat ≡ (view (leave s seat).0 app, (leave s seat).1)
leave_own app s seat h =
    let o : Option OwnConnection = found_connection (own_connections app s.handles s.connections) seat in
    let more : List OwnConnection = own_left seat (own_connections app s.handles s.connections) o in
    let seen : prune (record (view s app) { connections = more }) ≡ view (leave s seat).0 app =
    prune-connections s.limits (held_in s) (held_of s.rights app) s.documents (own_connections app s.handles s.connections) more (left_names seat (own_connections app s.handles s.connections) o) (left_files seat (own_connections app s.handles s.connections) o)
    ∙ ap (view_over s.limits (held_in s) (held_documents (held_of s.rights app) s.documents)) (own_left-is app s.handles seat s.connections (connection_of s.connections seat) refl h) in
    λ i. (seen i, own_answer-is app s.handles seat s.connections (connection_of s.connections seat) refl h i)

-- another's leaves the view
pub leave_other : (app : List ℕ) (s : State) (seat : ℕ) → Valid s → made_by app (connection_of s.connections seat) Request.Leave ≡ false → view s app ≡ view (leave s seat).0 app
leave_other app s seat v h =
    view-open app s (left seat s.connections (connection_of s.connections seat)) (handles_left seat s.handles (connection_of s.connections seat))
    (sym (other_left app s.handles seat s.connections (connection_of s.connections seat) refl h v.seats_differ))
