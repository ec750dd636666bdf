-- Of a temporary nobody is told but the application that made it.
use Rattle.std.proofs.Common.{◌≡◌, ℕ, ◌==◌, List, [], ◌∷◌, map, Bool, true, false, not, ◌&&◌, ◌||◌, cond, Option, Some, None, refl, sym, ap, subst, ◌∙◌}
use Rattle.std.specs.List.{filter, find, flat_map, list_any, AllByRecursion}
use Rattle.std.proofs.lemmas.List.Elements.{All-from_recursion}
use Rattle.file_generations.specs.Generations.{all_held}
use Rattle.portal_base.specs.Content.{content_of, file_at, file_named, has_room, is_folder}
use Rattle.portal_base.specs.declared.files.File.{File}
use Rattle.portal_base.specs.declared.files.FileName.{FileName}
use Rattle.portal_model.specs.declared.entry.Given.{Given}
use Rattle.portal_model.specs.declared.handle.OpenHandle.{OpenHandle}
use Rattle.portal_model.specs.declared.request.NodeRequest.{NodeRequest}
use Rattle.portal_model.specs.declared.request.Request.{Request}
use Rattle.portal_model.specs.declared.state.Connection.{Connection}
use Rattle.portal_model.specs.declared.temporary.OwnTemp.{OwnTemp}
use Rattle.portal_model.specs.Content.{Content, NotThere}
use Rattle.portal_model.specs.History.{run}
use Rattle.portal_model.specs.Lawful.{Lawful}
use Rattle.portal_model.specs.Opening.{opened_over}
use Rattle.portal_model.specs.State.{State, connection_of, handles_of, held_in, is_app}
use Rattle.portal_model.specs.Step.{after, mount_of, reply_at}
use Rattle.portal_model.specs.Valid.{Valid}
use Rattle.portal_model.proofs.ListLookups.{nat_is}
use Rattle.app_world.specs.Laws.{asks}
use Rattle.app_world.specs.Node.{has_file}
use Rattle.app_world.specs.Shown.{covering, is_file, of_generation, own_content, shown, shown_below, shown_file}
use Rattle.app_world.specs.Touched.{is_done}
use Rattle.app_world.specs.View.{AppView, NamedFile, OwnHandle, PathBelow, below_at, covers, folder_of, folder_paths, holds_name, is_at_or_below, is_held_name, knows, named_paths, names, names_held, names_of_connection, names_of_handle, own_connection, own_connections, own_handle, own_handles, path_below, path_content, view}
use Rattle.app_world.specs.World.{touch}
use Rattle.app_world.proofs.BelowLaws.{any-put_all-key}
use Rattle.app_world.proofs.ContentLaws.{contents-found}
use Rattle.app_world.proofs.HeldFiles.{file_named-is}
use Rattle.app_world.proofs.NamedFiles.{held-joined, named-found, named_in}
use Rattle.app_world.proofs.NamesHostPaths.{folders-there}
use Rattle.app_world.proofs.ShownLaws.{content-on, of_generation-is}
use Rattle.app_world.proofs.ViewedNames.{tree-sound}
use Rattle.file_laws.specs.Touches.{AreBytesOf, Changed, OfName, change_on, change_told, changed_if, if_seen}
use Rattle.file_laws.proofs.BytesTold.{nodes-told}
use Rattle.temporary_laws.specs.Temporaries.{AreUnseenOn, IsUnseen, TemporariesAreUntold}
use Rattle.temporary_laws.proofs.Apart.{Alone, EachName, EachTemp, file_of, first-both, has_temp, names_in, opens, others_closed, others_without, second-both}
use Rattle.temporary_laws.proofs.Steps.{Each, Ran, each-here, run-apart, seat-has}

-- ---- what the connections of an application name

untrue : (b : Bool) → not b ≡ true → b ≡ false
untrue true f = cc
untrue false f = refl

other-true : (a b : Bool) → a ≡ false → (a || b) ≡ true → b ≡ true
other-true true b e h = cc
other-true false b e h = h

module _ (seat : ℕ) (n : FileName) where
  -- by handles of another seat
  handles-none : (other : ℕ) → (other == seat) ≡ false → (hs : List OpenHandle) → others_closed seat n hs ≡ true → is_held_name (flat_map (λ (y : OwnHandle). names_of_handle y.handle) (own_handles hs other)) n ≡ false
  handles-none other e [] h = refl
  handles-none other e (x ∷ hs) h = step (x.seat == other) refl (handles-none other e hs (second-both (x.seat == seat || not (opens n x)) (others_closed seat n hs) h))
    where
      step : (b : Bool) → (x.seat == other) ≡ b → is_held_name (flat_map (λ (y : OwnHandle). names_of_handle y.handle) (own_handles hs other)) n ≡ false →
          is_held_name (flat_map (λ (y : OwnHandle). names_of_handle y.handle) (map own_handle (cond b (x ∷ handles_of hs other) (handles_of hs other)))) n ≡ false
      step true f k =
          let apart : (x.seat == seat) ≡ false = ap (λ (m : ℕ). m == seat) (nat_is x.seat other f) ∙ e in
          let closed : opens n x ≡ false = untrue (opens n x) (other-true (x.seat == seat) (not (opens n x)) apart (first-both (x.seat == seat || not (opens n x)) (others_closed seat n hs) h)) in
          held-joined (names_of_handle x.handle) (flat_map (λ (y : OwnHandle). names_of_handle y.handle) (own_handles hs other)) n ∙ (λ i. closed i || k i)
      step false f k = k

  module _ (app : List ℕ) (hs : List OpenHandle) (closed : others_closed seat n hs ≡ true) where
    connections-none : (cs : List Connection) → others_without seat n cs ≡ true → Each (λ d. is_app app d.who ≡ true → (d.seat == seat) ≡ false) cs → is_held_name (names_held (own_connections app hs cs)) n ≡ false
    connections-none [] w h = refl
    connections-none (d ∷ cs) w h = step (is_app app d.who) refl (connections-none cs (second-both (d.seat == seat || not (has_temp n d)) (others_without seat n cs) w) h.1)
      where
        step : (b : Bool) → is_app app d.who ≡ b → is_held_name (names_held (own_connections app hs cs)) n ≡ false →
            is_held_name (names_held (map (own_connection app hs) (cond b (d ∷ filter (λ (x : Connection). is_app app x.who) cs) (filter (λ (x : Connection). is_app app x.who) cs)))) n ≡ false
        step true e k =
            let apart : (d.seat == seat) ≡ false = h.0 e in
            let temps : has_temp n d ≡ false = untrue (has_temp n d) (other-true (d.seat == seat) (not (has_temp n d)) apart (first-both (d.seat == seat || not (has_temp n d)) (others_without seat n cs) w)) in
            held-joined (names_of_connection (own_connection app hs d)) (names_held (own_connections app hs cs)) n
            ∙ (λ i. (held-joined (flat_map (λ (y : OwnHandle). names_of_handle y.handle) (own_handles hs d.seat)) (names_in d.temps) n ∙ (λ j. handles-none d.seat apart hs closed j || temps j)) i || k i)
        step false e k = k

-- ---- what stands at paths of which it is told

either-false : (a b : Bool) → (a || b) ≡ false → (a ≡ false) × (b ≡ false)
either-false true b h = cc
either-false false b h = (refl, h)

none-found : {X : Type 0} (p : X → Bool) (xs : List X) → list_any p xs ≡ false → find p xs ≡ None
none-found p [] h = refl
none-found p (x ∷ xs) h = step (p x) h (none-found p xs)
  where
    step : (b : Bool) → (b || list_any p xs) ≡ false → (list_any p xs ≡ false → find p xs ≡ None) → cond b (Some x) (find p xs) ≡ None
    step true k more = cc
    step false k more = more k

any-below : (files : List File) (path : List ℕ) (fs : List (List ℕ)) → list_any (λ (b : PathBelow). is_at_or_below b.path path) (map (path_below files) fs) ≡ list_any (λ x. is_at_or_below x path) fs
any-below files path [] = refl
any-below files path (x ∷ fs) = ap (λ (b : Bool). is_at_or_below x path || b) (any-below files path fs)

uncovered : (files : List File) (fs : List (List ℕ)) (path : List ℕ) → list_any (λ x. is_at_or_below x path) fs ≡ false → covering (below_at files fs) path ≡ None
uncovered files fs path h =
    none-found (λ (b : PathBelow). is_at_or_below b.path path) (below_at files fs)
    (any-put_all-key folder_of (λ x. is_at_or_below x path) (map (path_below files) fs) ∙ (any-below files path fs ∙ h))

module _ (app : List ℕ) (s : State) (r : Ran s) where
  abbrev v : AppView
  v = view s app

  untold-content : (path : List ℕ) → knows v path ≡ false → own_content v path ≡ NotThere false
  untold-content path h =
      let parts = either-false (names v path) (covers v path) h in
      ap (shown v.below path) (contents-found s.files path (named_paths v.documents v.connections) ∙ ap (λ (b : Bool). cond b (Some (path_content s.files path)) None) parts.0)
      ∙ ap (shown_below path) (uncovered s.files (folder_paths v.documents) path parts.1)

  no-file : (n : FileName) → file_named s.files n ≡ None → is_file (of_generation n.generation (own_content v n.path)) ≡ false
  no-file n none = step (knows v n.path) refl
    where
      step : (b : Bool) → knows v n.path ≡ b → is_file (of_generation n.generation (own_content v n.path)) ≡ false
      step true on =
          ap (λ (c : Content). is_file (of_generation n.generation c)) (content-on app s (tree-sound app s r.valid) (folders-there app s r.valid r.told) n.path on)
          ∙ (ap is_file (of_generation-is n.generation (file_at s.files n.path) (is_folder s.files n.path) (has_room s.files n.path))
          ∙ ap (λ (o : Option File). is_file (content_of o false false)) (sym (file_named-is n s.files r.valid.files_differ) ∙ none))
      step false off = ap (λ (c : Content). is_file (of_generation n.generation c)) (untold-content n.path off)

  unseen-name : (n : FileName) → holds_name v n ≡ false → file_named s.files n ≡ None → has_file v n ≡ false
  unseen-name n h none =
      ap (λ (o : Option NamedFile). is_file (shown_file n.generation (own_content v n.path) o))
      (named-found (all_held (held_in s)) n (names_held v.connections) ∙ ap (λ (b : Bool). cond b (named_in (all_held (held_in s)) n) None) h)
      ∙ no-file n none

  -- ---- each temporary

  -- an application's connections have other seats than one that isn't its own
  others-seats : (c : Connection) → is_app app c.who ≡ false → (cs : List Connection) → Each (λ d. (d.seat == c.seat) ≡ true → d ≡ c) cs → Each (λ d. is_app app d.who ≡ true → (d.seat == c.seat) ≡ false) cs
  others-seats c e [] h = tt
  others-seats c e (d ∷ cs) h = (λ f. step f (d.seat == c.seat) refl, others-seats c e cs h.1)
    where
      step : is_app app d.who ≡ true → (b : Bool) → (d.seat == c.seat) ≡ b → b ≡ false
      step f true g = let no : true ≡ false = sym f ∙ (ap (λ (x : Connection). is_app app x.who) (h.0 g) ∙ e) in cc
      step f false g = refl

  temps-unseen : (c : Connection) → is_app app c.who ≡ false → connection_of s.connections c.seat ≡ Some c → (ts : List OwnTemp) → EachName (Alone s.files s.handles s.connections c.seat) (names_in ts) → AllByRecursion (IsUnseen app s) ts
  temps-unseen c e here [] h = tt
  temps-unseen c e here (t ∷ ts) h = (
    let unheld : holds_name v (file_of t) ≡ false =
        connections-none c.seat (file_of t) app s.handles h.0.closed s.connections h.0.only (others-seats c e s.connections (seat-has s.connections c.seat c r.valid.seats_differ here)) in
        record { hidden = h.0.hidden; unheld = unheld; unseen = unseen-name (file_of t) unheld h.0.hidden },
    temps-unseen c e here ts h.1,
  )

  connections-unseen : (cs : List Connection) → EachTemp (Alone s.files s.handles s.connections) cs → Each (λ c. connection_of s.connections c.seat ≡ Some c) cs → AllByRecursion (AreUnseenOn app s) cs
  connections-unseen [] h k = tt
  connections-unseen (c ∷ cs) h k = (λ e. All-from_recursion (IsUnseen app s) c.temps (temps-unseen c e k.0 c.temps h.0), connections-unseen cs h.1 k.1)

-- ---- the law

nothing-told : (b : Bool) → changed_if b None ≡ None
nothing-told true = refl
nothing-told false = refl

untold : (app : List ℕ) (s : State) (seat : ℕ) (r : NodeRequest) (given : Given) (name : FileName) → Valid s → Lawful s (asks seat (Request.Node r) given) →
    change_on s r (mount_of (connection_of s.connections seat)) ≡ Some (OfName name) → has_file (view s app) name ≡ false → touch app s (asks seat (Request.Node r) given) ≡ []
untold app s seat r given name v l e h =
    let done : Bool = is_done (reply_at s (asks seat (Request.Node r) given)).answer && s.told in
    let none : change_told app s seat r given ≡ None =
    ap (λ (o : Option Changed). changed_if done (if_seen (view s app) o)) e ∙ (ap (λ (b : Bool). changed_if done (changed_if b (Some (OfName name)))) h ∙ nothing-told done) in
    subst (λ (o : Option Changed). AreBytesOf (view s app) (held_in (after s (asks seat (Request.Node r) given))) o (touch app s (asks seat (Request.Node r) given))) none (nodes-told app s seat r given v l)

pub temporaries-untold : TemporariesAreUntold
temporaries-untold = record {
  unseen = λ app tree o h l.
      let ran = run-apart h (opened_over (Some tree) o) l.lawful (record { valid = l.opening; told = refl; apart = record { alone = tt; differ = tt } }) in
      All-from_recursion (AreUnseenOn app (run (opened_over (Some tree) o) h)) (run (opened_over (Some tree) o) h).connections
      (connections-unseen app (run (opened_over (Some tree) o) h) ran (run (opened_over (Some tree) o) h).connections ran.apart.alone (each-here (run (opened_over (Some tree) o) h).connections ran.valid.seats_differ));
  untold = untold;
}
