-- Present: what it is to the application that asks, and to another. And queues of connections, as a view has them.
use Rattle.std.proofs.Common.{◌≡◌, ℕ, ◌==◌, nat_eq, List, [], ◌∷◌, ◌++◌, length, map, nat_lt, Bool, true, false, not, cond, Some, None, refl, sym, ap, ◌∙◌, arith}
use Rattle.std.specs.List.{flat_map, IsDistinct, AllByRecursion}
use Rattle.std.proofs.lemmas.Bool.Decides.{nat_tests}
use Rattle.file_generations.specs.Generations.{all_held}
use Rattle.portal_base.specs.declared.who.Who.{Who}
use Rattle.portal_model.specs.declared.handle.OpenHandle.{OpenHandle}
use Rattle.portal_model.specs.declared.reply.Answer.{Answer}
use Rattle.portal_model.specs.declared.reply.Code.TheVariants as Code
use Rattle.portal_model.specs.declared.state.Connection.{Connection}
use Rattle.portal_model.specs.Arguments.{ahead_of_end, is_ended_path}
use Rattle.portal_model.specs.Present.{may_present, present, present_path, queue_path, requeued, with_queue}
use Rattle.portal_model.specs.State.{State, connection_of, held_in, held_of, is_app}
use Rattle.portal_model.specs.Verdict.{does}
use Rattle.app_world.specs.OwnVerdict.{OwnDoes, own_unless}
use Rattle.app_world.specs.Present.{own_present, own_present_path, own_queue_path, own_requeued, own_with_queue}
use Rattle.app_world.specs.View.{AppView, HeldDocument, OwnConnection, contents_at, files_at, found_connection, held_documents, is_plain_document, names_held, names_of_connection, own_connection, own_connections, paths_of_connection, paths_where, view, view_over}
use Rattle.app_world.proofs.ReachedLaws.{IsTouched, seen-unless, seen_verdict, touched-unless}
use Rattle.app_world.proofs.ViewLaws.{own_first, view-connections}

-- ---- a queue that changes

module _ (app : List ℕ) (hs : List OpenHandle) (seat : ℕ) (change : List (List ℕ) → List (List ℕ)) where
  one_requeued : (c : Connection) (more more' : List OwnConnection) → more ≡ map (own_requeued seat change) more' →
      cond (is_app app (requeued seat change c).who) (own_connection app hs (requeued seat change c) ∷ more) more ≡ map (own_requeued seat change) (cond (is_app app c.who) (own_connection app hs c ∷ more') more')
  one_requeued c more more' e = by_seat (c.seat == seat) refl (is_app app c.who) refl
    where
      by_seat : (b : Bool) → (c.seat == seat) ≡ b → (m : Bool) → is_app app c.who ≡ m →
          cond (is_app app (cond b (record c { queue = change c.queue }) c).who) (own_connection app hs (cond b (record c { queue = change c.queue }) c) ∷ more) more ≡ map (own_requeued seat change) (cond m (own_connection app hs c ∷ more') more')
      by_seat true f true g = ap (λ (x : Bool). cond x (own_connection app hs (record c { queue = change c.queue }) ∷ more) more) g
          ∙ (λ i. cond (sym f i) (record (own_connection app hs c) { queue = change c.queue }) (own_connection app hs c) ∷ e i)
      by_seat true f false g = ap (λ (x : Bool). cond x (own_connection app hs (record c { queue = change c.queue }) ∷ more) more) g ∙ e
      by_seat false f true g = ap (λ (x : Bool). cond x (own_connection app hs c ∷ more) more) g
          ∙ (λ i. cond (sym f i) (record (own_connection app hs c) { queue = change c.queue }) (own_connection app hs c) ∷ e i)
      by_seat false f false g = ap (λ (x : Bool). cond x (own_connection app hs c ∷ more) more) g ∙ e

  -- in the state, and in the view
  pub own-requeued : (cs : List Connection) → own_connections app hs (map (requeued seat change) cs) ≡ map (own_requeued seat change) (own_connections app hs cs)
  own-requeued [] = refl
  own-requeued (c ∷ cs) =
      own_first app hs (requeued seat change c) (map (requeued seat change) cs) (is_app app (requeued seat change c).who) refl
      ∙ (one_requeued c (own_connections app hs (map (requeued seat change) cs)) (own_connections app hs cs) (own-requeued cs)
      ∙ ap (map (own_requeued seat change)) (sym (own_first app hs c cs (is_app app c.who) refl)))

  -- no connection of the view has the seat
  pub elsewhere : (cs : List OwnConnection) → found_connection cs seat ≡ None → map (own_requeued seat change) cs ≡ cs
  elsewhere [] e = refl
  elsewhere (c ∷ cs) e = by_seat (c.seat == seat) e (elsewhere cs)
    where
      by_seat : (b : Bool) → cond b (Some c) (found_connection cs seat) ≡ None → (found_connection cs seat ≡ None → map (own_requeued seat change) cs ≡ cs) →
          cond b (record c { queue = change c.queue }) c ∷ map (own_requeued seat change) cs ≡ c ∷ cs
      by_seat true f more = cc
      by_seat false f more = ap (λ (xs : List OwnConnection). c ∷ xs) (more f)

  -- a queue names no path of the view
  one_path : (c : OwnConnection) → paths_of_connection (own_requeued seat change c) ≡ paths_of_connection c
  one_path c = elim (c.seat == seat) as (λ b. paths_of_connection (cond b (record c { queue = change c.queue }) c) ≡ paths_of_connection c) [ true ↦ refl | false ↦ refl ]

  same_paths : (cs : List OwnConnection) → flat_map paths_of_connection cs ≡ flat_map paths_of_connection (map (own_requeued seat change) cs)
  same_paths [] = refl
  same_paths (c ∷ cs) = λ i. sym (one_path c) i ++ same_paths cs i

  -- and no file
  one_files : (c : OwnConnection) → names_of_connection (own_requeued seat change c) ≡ names_of_connection c
  one_files c = elim (c.seat == seat) as (λ b. names_of_connection (cond b (record c { queue = change c.queue }) c) ≡ names_of_connection c) [ true ↦ refl | false ↦ refl ]

  same_files : (cs : List OwnConnection) → names_held cs ≡ names_held (map (own_requeued seat change) cs)
  same_files [] = refl
  same_files (c ∷ cs) = λ i. sym (one_files c) i ++ same_files cs i

module _ (app : List ℕ) (seat : ℕ) (change : List (List ℕ) → List (List ℕ)) where
  pub view-requeued : (s : State) → own_with_queue seat change (view s app) ≡ view (with_queue seat change s) app
  view-requeued s =
      let ds : List HeldDocument = held_documents (held_of s.rights app) s.documents in
      let more : List OwnConnection = map (own_requeued seat change) (own_connections app s.handles s.connections) in
      (λ i. record (view_over s.limits (held_in s) ds more) {
        contents = contents_at s.files (paths_where is_plain_document ds ++ same_paths app s.handles seat change (own_connections app s.handles s.connections) i);
        files = files_at (all_held (held_in s)) (same_files app s.handles seat change (own_connections app s.handles s.connections) i);
      })
      ∙ ap (view_over s.limits (held_in s) ds) (sym (own-requeued app s.handles seat change s.connections))

  pub view-elsewhere : (s : State) → found_connection (own_connections app s.handles s.connections) seat ≡ None → view s app ≡ view (with_queue seat change s) app
  view-elsewhere s e = view-connections app s (map (requeued seat change) s.connections) (sym (own-requeued app s.handles seat change s.connections ∙ elsewhere app s.handles seat change (own_connections app s.handles s.connections) e))

-- ---- whose connection it is

none_behind : (app : List ℕ) (hs : List OpenHandle) (seat : ℕ) (m : ℕ) (cs : List Connection) → (m == seat) ≡ true → AllByRecursion (λ (n : ℕ). nat_eq m n ≡ false) (map (λ (x : Connection). x.seat) cs) → found_connection (own_connections app hs cs) seat ≡ None
none_behind app hs seat m [] e d = refl
none_behind app hs seat m (c ∷ cs) e d =
    let one : (m == c.seat) ≡ false = d.0 in
    let other : (c.seat == seat) ≡ false = grind (arith, nat_tests) in
    ap (λ (xs : List OwnConnection). found_connection xs seat) (own_first app hs c cs (is_app app c.who) refl) ∙ by_app other (is_app app c.who) (none_behind app hs seat m cs e d.1)
  where
    by_app : (c.seat == seat) ≡ false → (b : Bool) → found_connection (own_connections app hs cs) seat ≡ None → found_connection (cond b (own_connection app hs c ∷ own_connections app hs cs) (own_connections app hs cs)) seat ≡ None
    by_app o true f = ap (λ (x : Bool). cond x (Some (own_connection app hs c)) (found_connection (own_connections app hs cs) seat)) o ∙ f
    by_app o false f = f

one_other : (app : List ℕ) (hs : List OpenHandle) (seat : ℕ) (x : Connection) (xs : List Connection) (c : Connection) (b : Bool) → (x.seat == seat) ≡ b → cond b (Some x) (connection_of xs seat) ≡ Some c → is_app app c.who ≡ false →
    AllByRecursion (λ (n : ℕ). nat_eq x.seat n ≡ false) (map (λ (y : Connection). y.seat) xs) → (connection_of xs seat ≡ Some c → found_connection (own_connections app hs xs) seat ≡ None) →
    found_connection (own_connections app hs (x ∷ xs)) seat ≡ None
one_other app hs seat x xs c true k e h d rest =
    let same : x ≡ c = cc in
    let named : is_app app x.who ≡ false = ap (λ (y : Connection). is_app app y.who) same ∙ h in
    ap (λ (ys : List OwnConnection). found_connection ys seat) (own_first app hs x xs false named) ∙ none_behind app hs seat x.seat xs k d
one_other app hs seat x xs c false k e h d rest = ap (λ (ys : List OwnConnection). found_connection ys seat) (own_first app hs x xs (is_app app x.who) refl) ∙ by_app (is_app app x.who)
  where
    by_app : (b : Bool) → found_connection (cond b (own_connection app hs x ∷ own_connections app hs xs) (own_connections app hs xs)) seat ≡ None
    by_app true = ap (λ (y : Bool). cond y (Some (own_connection app hs x)) (found_connection (own_connections app hs xs) seat)) k ∙ rest e
    by_app false = rest e

-- the open connection of a seat is another's: the view has none of that seat
pub own-other : (app : List ℕ) (hs : List OpenHandle) (seat : ℕ) (cs : List Connection) (c : Connection) → IsDistinct nat_eq (map (λ (x : Connection). x.seat) cs) → connection_of cs seat ≡ Some c → is_app app c.who ≡ false →
    found_connection (own_connections app hs cs) seat ≡ None
unfolding IsDistinct
own-other app hs seat [] c d e h = refl
own-other app hs seat (x ∷ xs) c d e h = one_other app hs seat x xs c (x.seat == seat) refl e h d.0 (λ k. own-other app hs seat xs c d.1 k h)

-- ---- the laws

module _ (app : List ℕ) (s : State) (c : Connection) where
  -- another's Present leaves the view
  pub present-other : (bytes : List ℕ) → found_connection (own_connections app s.handles s.connections) c.seat ≡ None → IsTouched app s [] (present s c bytes)
  present-other bytes e =
      let path : List ℕ = ahead_of_end bytes in
      let add : List (List ℕ) → List (List ℕ) = λ queue. queue ++ path ∷ [] in
      touched-unless app s [] (not (is_ended_path bytes)) Code.InvalidArgument (present_path s c path)
      (touched-unless app s [] (not (may_present c.who path)) Code.NotAllowed (queue_path s c path)
      (touched-unless app s [] (not (nat_lt (length c.queue) s.limits.queued)) Code.LimitsExceeded (does (with_queue c.seat add s) (Answer.Place (length c.queue))) (refl, view-elsewhere app c.seat add s e)))

  -- the application's own Present comes to the same in its view
  pub present-own : (bytes : List ℕ) → c.who ≡ Who.App app → own_present (view s app) (own_connection app s.handles c) bytes ≡ seen_verdict app (present s c bytes)
  present-own bytes e =
      let path : List ℕ = ahead_of_end bytes in
      let add : List (List ℕ) → List (List ℕ) = λ queue. queue ++ path ∷ [] in
      seen-unless app (not (is_ended_path bytes)) Code.InvalidArgument (own_present_path (view s app) (own_connection app s.handles c) path) (present_path s c path)
      (ap (λ (who : Who). own_unless (not (may_present who path)) Code.NotAllowed (own_queue_path (view s app) (own_connection app s.handles c) path)) (sym e)
      ∙ seen-unless app (not (may_present c.who path)) Code.NotAllowed (own_queue_path (view s app) (own_connection app s.handles c) path) (queue_path s c path)
      (seen-unless app (not (nat_lt (length c.queue) s.limits.queued)) Code.LimitsExceeded _ (does (with_queue c.seat add s) (Answer.Place (length c.queue)))
      (ap (λ (v : AppView). OwnDoes v (Answer.Place (length c.queue))) (view-requeued app c.seat add s))))
