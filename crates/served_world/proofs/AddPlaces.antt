-- Where the tree is asked for an Add of an application: at files in its own folder, which it presented.
use Rattle.std.proofs.Common.{◌≡◌, ℕ, ◌<◌, ◌≤◌, nat_le, nat_lt, List, [], ◌∷◌, ◌++◌, get_or, length, map, take, Bool, true, false, not, ◌&&◌, ◌||◌, cond, refl, ap, ◌∙◌, arith, append_assoc, Some}
use Rattle.std.specs.List.{AllByRecursion, flat_map, list_all}
use Rattle.std.proofs.lemmas.Bool.Decides.{nat_tests}
use Rattle.portal_base.specs.Names.{child_of, is_app_name, is_host_path, is_in_own_folder, is_same}
use Rattle.portal_base.specs.declared.files.Look.{Look}
use Rattle.portal_base.proofs.OwnFolders.{Opens, apps, closed, from_is, is_in, opened}
use Rattle.rights_rule.specs.Rights.{are_right_names}
use Rattle.portal_model.specs.declared.entry.Given.{Given}
use Rattle.portal_model.specs.declared.reply.Code.{Code}
use Rattle.portal_model.specs.declared.reply.Code.TheVariants as code
use Rattle.portal_model.specs.declared.request.AddRequest.{AddRequest}
use Rattle.portal_model.specs.declared.request.Request.{Request}
use Rattle.portal_model.specs.declared.state.Connection.{Connection}
use Rattle.portal_model.specs.Add.{add, add_allowed, add_looking, add_presented, added, added_files, are_of_kind, may_list_all}
use Rattle.portal_model.specs.AddArguments.{are_add_arguments, are_flags, are_presented, document_path, document_paths, files_limit, is_file_name, is_named_well, names_nobody, paths_looked_at, paths_presented, paths_shown}
use Rattle.portal_model.specs.Arguments.{ahead_of_end, has_end}
use Rattle.portal_model.specs.State.{State, connection_of}
use Rattle.portal_model.specs.Step.{all_told}
use Rattle.portal_model.specs.Verdict.{Verdict, unless, walk_unless}
use Rattle.portal_model.specs.Walk.{Walk, Answers, Target, AtPath, looks_at_all}
use Rattle.portal_model.proofs.DocumentChanges.{both, first_of_both, second_of_both}
use Rattle.portal_model.proofs.ListLookups.{is_same-refl}
use Rattle.portal_model.proofs.Queues.{picked}
use Rattle.app_world.specs.View.{is_among}
use Rattle.served_world.specs.OwnPlaces.{MayAsk, places_along}
use Rattle.served_world.proofs.NodePlaces.{all-weaker}

holds : (b : Bool) → not b ≡ false → b ≡ true
holds true e = refl
holds false e = cc

-- ---- a named file of a folder

opens-more : (name rest : List ℕ) → Opens rest → Opens (rest ++ 47 ∷ name)
opens-more name rest closed = opened name
opens-more name rest (opened more) = opened (more ++ 47 ∷ name)

child-is : (app rest name : List ℕ) → child_of (apps ++ (app ++ rest)) name ≡ apps ++ (app ++ (rest ++ 47 ∷ name))
unfolding child_of
child-is app rest name = append_assoc apps (app ++ rest) (47 ∷ name) ∙ ap (λ (x : List ℕ). apps ++ x) (append_assoc app rest (47 ∷ name))

-- it is in the own folder where the folder is
own-child : (app path name : List ℕ) → is_in_own_folder app path ≡ true → is_in_own_folder app (child_of path name) ≡ true
own-child app path name h =
    let p = is_in app path h in
    from_is (p.0 ++ 47 ∷ name) (opens-more name p.0 p.1) app (child_of path name) (ap (λ (x : List ℕ). child_of x name) p.2 ∙ child-is app p.0 name)

-- ---- the paths that the tree is asked for

is_below : (a b : ℕ) → nat_lt a b ≡ true → a < b
is_below a b h = grind (arith, nat_tests)

is_within : (a b : ℕ) → nat_le a b ≡ true → a ≤ b
is_within a b h = grind (arith, nat_tests)

-- those that the handles name are of the queue
all-presented : (handles : List ℕ) (p : List ℕ → Bool) (fds : ℕ) (queue : List (List ℕ)) → list_all p queue ≡ true → fds ≤ length queue → list_all (λ handle. nat_lt handle fds) handles ≡ true →
    list_all p (map (λ handle. get_or (take fds queue) handle []) handles) ≡ true
all-presented [] p fds queue h l k = refl
all-presented (n ∷ ns) p fds queue h l k =
    both (p (get_or (take fds queue) n [])) (list_all p (map (λ handle. get_or (take fds queue) handle []) ns))
    (picked p fds n queue h (is_below n fds (first_of_both (nat_lt n fds) (list_all (λ handle. nat_lt handle fds) ns) k)) l)
    (all-presented ns p fds queue h l (second_of_both (nat_lt n fds) (list_all (λ handle. nat_lt handle fds) ns) k))

module _ (a : AddRequest) where
  presented-all : (p : List ℕ → Bool) (queue : List (List ℕ)) → list_all p queue ≡ true → are_presented queue a ≡ true → list_all p (paths_presented queue a) ≡ true
  presented-all p queue h k =
      all-presented a.handles p a.fds queue h
      (is_within a.fds (length queue) (first_of_both (nat_le a.fds (length queue)) (list_all (λ handle. nat_lt handle a.fds) a.handles) k))
      (second_of_both (nat_le a.fds (length queue)) (list_all (λ handle. nat_lt handle a.fds) a.handles) k)

  shown-all : (p : List ℕ → Bool) (paths : List (List ℕ)) → list_all p paths ≡ true → list_all p (map (document_path a) paths) ≡ true → list_all p (flat_map (paths_looked_at a) paths) ≡ true
  shown-all p [] h k = refl
  shown-all p (path ∷ paths) h k =
      by_named a.named
      (shown-all p paths (second_of_both (p path) (list_all p paths) h) (second_of_both (p (document_path a path)) (list_all p (map (document_path a) paths)) k))
    where
      rest : List (List ℕ)
      rest = flat_map (paths_looked_at a) paths

      by_named : (b : Bool) → list_all p rest ≡ true → list_all p (cond b (path ∷ document_path a path ∷ []) (path ∷ []) ++ rest) ≡ true
      by_named true r =
          both (p path) (p (document_path a path) && list_all p rest) (first_of_both (p path) (list_all p paths) h)
          (both (p (document_path a path)) (list_all p rest) (first_of_both (p (document_path a path)) (list_all p (map (document_path a) paths)) k) r)
      by_named false r = both (p path) (list_all p rest) (first_of_both (p path) (list_all p paths) h) r

  -- ---- in the own folder

  own-path : (app path : List ℕ) → is_in_own_folder app path ≡ true → is_in_own_folder app (document_path a path) ≡ true
  own-path app path h = by_named a.named
    where
      by_named : (b : Bool) → is_in_own_folder app (cond b (child_of path (ahead_of_end a.name)) path) ≡ true
      by_named true = own-child app path (ahead_of_end a.name) h
      by_named false = h

  own-paths : (app : List ℕ) (paths : List (List ℕ)) → list_all (is_in_own_folder app) paths ≡ true → list_all (is_in_own_folder app) (map (document_path a) paths) ≡ true
  own-paths app [] h = refl
  own-paths app (path ∷ paths) h =
      both (is_in_own_folder app (document_path a path)) (list_all (is_in_own_folder app) (map (document_path a) paths))
      (own-path app path (first_of_both (is_in_own_folder app path) (list_all (is_in_own_folder app) paths) h))
      (own-paths app paths (second_of_both (is_in_own_folder app path) (list_all (is_in_own_folder app) paths) h))

  shown-own : (app : List ℕ) (queue : List (List ℕ)) → list_all (is_in_own_folder app) queue ≡ true → are_presented queue a ≡ true → list_all (is_in_own_folder app) (paths_shown queue a) ≡ true
  shown-own app queue h k =
      let mine : list_all (is_in_own_folder app) (paths_presented queue a) ≡ true = presented-all (is_in_own_folder app) queue h k in
      shown-all (is_in_own_folder app) (paths_presented queue a) mine (own-paths app (paths_presented queue a) mine)

  -- ---- on the host

  same-paths : a.named ≡ false → (paths : List (List ℕ)) → list_all is_host_path (map (document_path a) paths) ≡ list_all is_host_path paths
  same-paths e [] = refl
  same-paths e (path ∷ paths) = λ i. is_host_path (cond (e i) (child_of path (ahead_of_end a.name)) path) && same-paths e paths i

  host-paths : (queue : List (List ℕ)) → is_named_well queue a ≡ true → list_all is_host_path (paths_presented queue a) ≡ true → list_all is_host_path (document_paths queue a) ≡ true
  host-paths queue w h = by_named a.named refl w
    where
      all : Bool
      all = list_all is_host_path (document_paths queue a)

      by_named : (b : Bool) → a.named ≡ b → (not b || (has_end a.name && (is_file_name (ahead_of_end a.name) && all))) ≡ true → all ≡ true
      by_named true e g = second_of_both (is_file_name (ahead_of_end a.name)) all (second_of_both (has_end a.name) (is_file_name (ahead_of_end a.name) && all) g)
      by_named false e g = same-paths e (paths_presented queue a) ∙ h

  named-well : (queue : List (List ℕ)) → are_add_arguments queue a ≡ true → is_named_well queue a ≡ true
  named-well queue h =
      let names : Bool = names_nobody a || is_app_name a.app in
      let rights : Bool = are_right_names a.names in
      second_of_both rights (is_named_well queue a)
      (second_of_both names (rights && is_named_well queue a)
      (second_of_both (are_flags a) (names && (rights && is_named_well queue a))
      (second_of_both (nat_le (length a.handles) files_limit) (are_flags a && (names && (rights && is_named_well queue a))) h)))

  shown-host : (queue : List (List ℕ)) → list_all is_host_path queue ≡ true → are_presented queue a ≡ true → are_add_arguments queue a ≡ true → list_all is_host_path (paths_shown queue a) ≡ true
  shown-host queue h k l =
      let mine : list_all is_host_path (paths_presented queue a) ≡ true = presented-all is_host_path queue h k in
      shown-all is_host_path (paths_presented queue a) mine (host-paths queue (named-well queue l) mine)

-- ---- the walk of an Add

paths-along : {X : Type 0} (paths : List (List ℕ)) (P : Target → Type 0) (x : List Look → X) (looks : List Look) → AllByRecursion (λ path. P (AtPath path)) paths → AllByRecursion P (places_along (looks_at_all paths (λ (l : List Look). Answers (x l))) looks)
paths-along [] P x looks h = tt
paths-along (path ∷ paths) P x [] h = (h.0, tt)
paths-along (path ∷ paths) P x (look ∷ looks) h = (h.0, paths-along paths P (λ l. x (look ∷ l)) looks h.1)

unless-along : (P : Target → Type 0) (wrong : Bool) (c : Code) (w : Walk Verdict) (looks : List Look) → (wrong ≡ false → AllByRecursion P (places_along w looks)) → AllByRecursion P (places_along (walk_unless wrong c w) looks)
unless-along P true c w looks h = tt
unless-along P false c w looks h = h refl

or-first : (b c : Bool) → b ≡ true → (b || c) ≡ true
or-first true c h = refl
or-first false c h = cc

or-second : (b c : Bool) → c ≡ true → (b || c) ≡ true
or-second true c h = refl
or-second false c h = h

among-itself : (xs : List (List ℕ)) → AllByRecursion (λ path. is_among xs path ≡ true) xs
among-itself [] = tt
among-itself (x ∷ xs) =
    (or-first (is_same x x) (is_among xs x) (is_same-refl x), all-weaker (λ path. is_among xs path ≡ true) (λ path. is_among (x ∷ xs) path ≡ true) (λ path h. or-second (is_same x path) (is_among xs path) h) xs (among-itself xs))

module _ (app : List ℕ) (s : State) (c : Connection) (a : AddRequest) (here : connection_of s.connections c.seat ≡ Some c) where
  abbrev May : Target → Type 0
  May = MayAsk app s c.seat (Request.Add a)

  each-presented : (paths : List (List ℕ)) → AllByRecursion (λ path. is_among (paths_shown c.queue a) path ≡ true) paths → list_all (is_in_own_folder app) paths ≡ true → list_all is_host_path paths ≡ true →
      AllByRecursion (λ path. May (AtPath path)) paths
  each-presented [] m h k = tt
  each-presented (path ∷ paths) m h k = (
    record {
      connection = c;
      here = here;
      presented = m.0;
      own = first_of_both (is_in_own_folder app path) (list_all (is_in_own_folder app) paths) h;
      on_host = first_of_both (is_host_path path) (list_all is_host_path paths) k;
    },
    each-presented paths m.1 (second_of_both (is_in_own_folder app path) (list_all (is_in_own_folder app) paths) h) (second_of_both (is_host_path path) (list_all is_host_path paths) k),
  )

  module _ (own : list_all (is_in_own_folder app) c.queue ≡ true) (host : list_all is_host_path c.queue ≡ true) (given : Given) where
    abbrev told : State
    told = all_told c.seat s

    looking-along : are_presented c.queue a ≡ true → are_add_arguments c.queue a ≡ true → AllByRecursion May (places_along (add_looking told c a given.numbers) given.looks)
    looking-along k l =
        paths-along (paths_shown c.queue a) May (λ looks. unless (not (are_of_kind a (paths_shown c.queue a) looks)) code.InvalidArgument (added told (added_files told c a given.numbers))) given.looks
        (each-presented (paths_shown c.queue a) (among-itself (paths_shown c.queue a)) (shown-own a app c.queue own k) (shown-host a c.queue host k l))

    pub add-places : AllByRecursion May (places_along (add told c a given.numbers) given.looks)
    add-places =
        unless-along May (not (are_presented c.queue a)) code.InvalidArgs (add_presented told c a given.numbers) given.looks (λ e.
        unless-along May (not (are_add_arguments c.queue a)) code.InvalidArgument (add_allowed told c a given.numbers) given.looks (λ f.
        unless-along May (not (may_list_all told c.who a (document_paths c.queue a))) code.NotAllowed (add_looking told c a given.numbers) given.looks (λ g.
        looking-along (holds (are_presented c.queue a) e) (holds (are_add_arguments c.queue a) f))))
