-- The paths that a view names by open files, by the numbers of handles; and all of which it tells.
use Rattle.std.proofs.Common.{◌≡◌, ◌==◌, ◌&&◌, ◌||◌, ℕ, List, [], ◌∷◌, ◌++◌, map, nat_eq, Bool, true, false, not, cond, Option, Some, None, option_map, refl, sym, ap, ◌∙◌, arith}
use Rattle.std.specs.List.{AllByRecursion, IsDistinct, filter, find, flat_map, list_all, list_any}
use Rattle.std.specs.Map.{lookup}
use Rattle.std.proofs.lemmas.Bool.Decides.{nat_tests}
use mathlib.Core.Bool.{true≢false}
use Rattle.portal_base.specs.Names.{is_same}
use Rattle.portal_model.specs.declared.handle.Handle.{Handle}
use Rattle.portal_model.specs.declared.handle.OpenHandle.{OpenHandle}
use Rattle.portal_model.specs.declared.state.Connection.{Connection}
use Rattle.portal_model.specs.State.{State, connection_of, handle_of, handles_of, is_app, is_handle}
use Rattle.portal_model.specs.Valid.{Valid, has_host_path, is_sound_handle, opened_here, same_handle, viewed_here}
use Rattle.open_handles.specs.Opened.{Opened, handle_of as handle_in, opened_on}
use Rattle.app_world.specs.View.{HeldDocument, OwnConnection, OwnHandle, folder_paths, is_among, is_at_or_below, is_folder_document, is_plain_document, named_paths, own_connection, own_connections, own_handle, paths_of_connection, paths_of_handle, paths_where}
use Rattle.named_paths.specs.Named.{any_has_open, are_of, is_open_at}
use Rattle.named_paths.specs.OpenNumbers.{Cover, OpenNumbers, is_among as has, numbers_of}
use Rattle.named_paths.specs.Seated.{HasOpen, numbered, silent}

or-right : (b d : Bool) → d ≡ true → (b || d) ≡ true
or-right true d f = refl
or-right false d f = f

or-left : (b d : Bool) → b ≡ true → (b || d) ≡ true
or-left true d f = refl
or-left false d f = cc

-- ---- the handle of a number, in the table and in the state

abbrev open_on : List OpenHandle → ℕ → List (ℕ × Handle)
open_on handles seat = map numbered (handles_of handles seat)

module _ (seat fh : ℕ) where
  turned : (x y : ℕ) → (x == y) ≡ (y == x)
  turned x y = grind (arith, nat_tests)

  pub found : (hs : List OpenHandle) → lookup (λ n. fh == n) (open_on hs seat) ≡ handle_of hs seat fh
  found [] = refl
  found (x ∷ xs) = by (x.seat == seat) (found xs)
    where
      one : (t : Bool) → lookup (λ n. fh == n) (open_on xs seat) ≡ handle_of xs seat fh → cond t (Some x.handle) (lookup (λ n. fh == n) (open_on xs seat)) ≡ option_map (λ (h : OpenHandle). h.handle) (cond t (Some x) (find (is_handle seat fh) xs))
      one true e = refl
      one false e = e

      by : (b : Bool) → lookup (λ n. fh == n) (open_on xs seat) ≡ handle_of xs seat fh →
          lookup (λ n. fh == n) (map numbered (cond b (x ∷ handles_of xs seat) (handles_of xs seat))) ≡ option_map (λ (h : OpenHandle). h.handle) (cond (b && x.fh == fh) (Some x) (find (is_handle seat fh) xs))
      by true e = ap (λ (t : Bool). cond t (Some x.handle) (lookup (λ n. fh == n) (open_on xs seat))) (turned fh x.fh) ∙ one (x.fh == fh) e
      by false e = e

pub handle-found : (s : State) (seat : ℕ) (c : Connection) (o : Option Opened) (fh : ℕ) → HasOpen s seat c o → handle_in o fh ≡ handle_of s.handles seat fh
handle-found s seat c None fh h = absurd h
handle-found s seat c (Some o) fh h = ap (lookup (λ n. fh == n)) h.1 ∙ found seat fh s.handles

-- ---- a handle that is looked for

abbrev pub opens : (Option Handle → Bool) → OpenHandle → Bool
opens q h = q (Some h.handle)

module _ (q : Option Handle → Bool) (none : q None ≡ false) where
  module _ (seat : ℕ) where
    -- what is found by a number is open on the seat
    found-any : (fh : ℕ) (hs : List OpenHandle) → q (handle_of hs seat fh) ≡ true → list_any (opens q) (handles_of hs seat) ≡ true
    found-any fh [] e = absurd (true≢false (sym e ∙ none))
    found-any fh (x ∷ xs) e = by (x.seat == seat) (x.fh == fh) e (found-any fh xs)
      where
        by : (b t : Bool) → q (option_map (λ (h : OpenHandle). h.handle) (cond (b && t) (Some x) (find (is_handle seat fh) xs))) ≡ true →
            (q (handle_of xs seat fh) ≡ true → list_any (opens q) (handles_of xs seat) ≡ true) → list_any (opens q) (cond b (x ∷ handles_of xs seat) (handles_of xs seat)) ≡ true
        by true true f more = or-left (opens q x) (list_any (opens q) (handles_of xs seat)) f
        by true false f more = or-right (opens q x) (list_any (opens q) (handles_of xs seat)) (more f)
        by false t f more = more f

    -- and what is open is found by its number
    record IsOpenBy (hs : List OpenHandle) (fh : ℕ) : Type 0 where
      pub there : list_any (λ (h : OpenHandle). h.seat == seat && h.fh == fh) hs ≡ true
      pub open_at : q (handle_of hs seat fh) ≡ true

    apart : (x y : OpenHandle) (fh : ℕ) → (y.seat == seat && y.fh == fh) ≡ true → same_handle x y ≡ false → (x.seat == seat && x.fh == fh) ≡ false
    apart x y fh e f = grind (arith, nat_tests)

    never : (x : OpenHandle) (fh : ℕ) (xs : List OpenHandle) → AllByRecursion (λ y. same_handle x y ≡ false) xs → list_any (λ (h : OpenHandle). h.seat == seat && h.fh == fh) xs ≡ true → (x.seat == seat && x.fh == fh) ≡ false
    never x fh [] a e = cc
    never x fh (y ∷ ys) a e = by (y.seat == seat && y.fh == fh) refl e (never x fh ys a.1)
      where
        by : (b : Bool) → (y.seat == seat && y.fh == fh) ≡ b → (b || list_any (λ (h : OpenHandle). h.seat == seat && h.fh == fh) ys) ≡ true →
            (list_any (λ (h : OpenHandle). h.seat == seat && h.fh == fh) ys ≡ true → (x.seat == seat && x.fh == fh) ≡ false) → (x.seat == seat && x.fh == fh) ≡ false
        by true f g more = apart x y fh f a.0
        by false f g more = more g

    self : (n : ℕ) → (n == n) ≡ true
    self n = grind (arith, nat_tests)

    found-behind : (x : OpenHandle) (xs : List OpenHandle) → AllByRecursion (λ y. same_handle x y ≡ false) xs → (fh : ℕ) × IsOpenBy xs fh → (fh : ℕ) × IsOpenBy (x ∷ xs) fh
    found-behind x xs a more =
        let other : (x.seat == seat && x.fh == more.0) ≡ false = never x more.0 xs a more.1.there in (
          more.0,
          record {
            there = ap (λ (b : Bool). b || list_any (λ (h : OpenHandle). h.seat == seat && h.fh == more.0) xs) other ∙ more.1.there;
            open_at = ap (λ (b : Bool). q (option_map (λ (h : OpenHandle). h.handle) (cond b (Some x) (find (is_handle seat more.0) xs)))) other ∙ more.1.open_at;
          },
        )

    found-first : (x : OpenHandle) (xs : List OpenHandle) → (x.seat == seat) ≡ true → opens q x ≡ true → (fh : ℕ) × IsOpenBy (x ∷ xs) fh
    found-first x xs f o =
        let same : (x.seat == seat && x.fh == x.fh) ≡ true = (λ i. f i && self x.fh i) in (
          x.fh,
          record {
            there = ap (λ (b : Bool). b || list_any (λ (h : OpenHandle). h.seat == seat && h.fh == x.fh) xs) same;
            open_at = ap (λ (b : Bool). q (option_map (λ (h : OpenHandle). h.handle) (cond b (Some x) (find (is_handle seat x.fh) xs)))) same ∙ o;
          },
        )

    open-found : (hs : List OpenHandle) → IsDistinct same_handle hs → list_any (opens q) (handles_of hs seat) ≡ true → (fh : ℕ) × IsOpenBy hs fh
    unfolding IsDistinct
    open-found [] d e = cc
    open-found (x ∷ xs) d e = by (x.seat == seat) (opens q x) refl refl e (λ f. found-behind x xs d.0 (open-found xs d.1 f))
      where
        by : (b o : Bool) → (x.seat == seat) ≡ b → opens q x ≡ o → list_any (opens q) (cond b (x ∷ handles_of xs seat) (handles_of xs seat)) ≡ true →
            (list_any (opens q) (handles_of xs seat) ≡ true → (fh : ℕ) × IsOpenBy (x ∷ xs) fh) → (fh : ℕ) × IsOpenBy (x ∷ xs) fh
        by true true f k g more = found-first x xs f k
        by true false f k g more = more (ap (λ (b : Bool). b || list_any (opens q) (handles_of xs seat)) (sym k) ∙ g)
        by false o f k g more = more g

-- ---- by the numbers that are kept

module _ (q : Option Handle → Bool) (o : Option Opened) where
  any-number : (ns : List ℕ) (fh : ℕ) → has ns fh ≡ true →
      q (handle_in o fh) ≡ true →
      list_any (λ n. q (handle_in o n)) ns ≡ true
  any-number [] fh m e = cc
  any-number (n ∷ ns) fh m e = by (n == fh) refl m (λ f. any-number ns fh f e)
    where
      same : (x y : ℕ) → (x == y) ≡ true → x ≡ y
      same x y f = grind (arith, nat_tests)

      by : (b : Bool) → (n == fh) ≡ b → (b || has ns fh) ≡ true →
          (has ns fh ≡ true → list_any (λ k. q (handle_in o k)) ns ≡ true) →
          (q (handle_in o n)
          || list_any (λ k. q (handle_in o k)) ns) ≡ true
      by true f g more = or-left (q (handle_in o n))
          (list_any (λ k. q (handle_in o k)) ns)
          (ap (λ (k : ℕ). q (handle_in o k)) (same n fh f) ∙ e)
      by false f g more = or-right (q (handle_in o n))
          (list_any (λ k. q (handle_in o k)) ns) (more g)

  some-number : (ns : List ℕ) → list_any (λ n. q (handle_in o n)) ns ≡ true →
      (fh : ℕ) × (q (handle_in o fh) ≡ true)
  some-number [] e = cc
  some-number (n ∷ ns) e = by (q (handle_in o n)) refl e (some-number ns)
    where
      by : (b : Bool) → q (handle_in o n) ≡ b →
          (b || list_any (λ k. q (handle_in o k)) ns) ≡ true →
          (list_any (λ k. q (handle_in o k)) ns ≡ true →
          (fh : ℕ) × (q (handle_in o fh) ≡ true)) →
          (fh : ℕ) × (q (handle_in o fh) ≡ true)
      by true f g more = (n, f)
      by false f g more = more g

-- ---- one connection

both-ways : (a b : Bool) → (a ≡ true → b ≡ true) → (b ≡ true → a ≡ true) → a ≡ b
both-ways true b f g = sym (f refl)
both-ways false true f g = g refl
both-ways false false f g = refl

module _ (s : State) (v : Valid s) where
  pub sound-at : (seat fh : ℕ) (hs : List OpenHandle) → list_all (is_sound_handle s.connections) hs ≡ true → list_any (λ (h : OpenHandle). h.seat == seat && h.fh == fh) hs ≡ true → opened_here fh (connection_of s.connections seat) ≡ true
  sound-at seat fh [] a e = cc
  sound-at seat fh (h ∷ hs) a e = by (h.seat == seat && h.fh == fh) refl e (sound-at seat fh hs (all-behind (is_sound_handle s.connections h) (list_all (is_sound_handle s.connections) hs) a))
    where
      all-behind : (b d : Bool) → (b && d) ≡ true → d ≡ true
      all-behind true d k = k
      all-behind false d k = cc

      first_of : (b d : Bool) → (b && d) ≡ true → b ≡ true
      first_of true d k = refl
      first_of false d k = cc

      same : (m n : ℕ) → (m == n) ≡ true → m ≡ n
      same m n f = grind (arith, nat_tests)

      by : (b : Bool) → (h.seat == seat && h.fh == fh) ≡ b → (b || list_any (λ (x : OpenHandle). x.seat == seat && x.fh == fh) hs) ≡ true →
          (list_any (λ (x : OpenHandle). x.seat == seat && x.fh == fh) hs ≡ true → opened_here fh (connection_of s.connections seat) ≡ true) → opened_here fh (connection_of s.connections seat) ≡ true
      by true f g more =
          let here : opened_here h.fh (connection_of s.connections h.seat) ≡ true = first_of _ (has_host_path h.handle && viewed_here h.handle (connection_of s.connections h.seat)) (first_of (is_sound_handle s.connections h) (list_all (is_sound_handle s.connections) hs) a) in
          let seats : h.seat ≡ seat = same h.seat seat (first_of (h.seat == seat) (h.fh == fh) f) in
          let numbers : h.fh ≡ fh = same h.fh fh (all-behind (h.seat == seat) (h.fh == fh) f) in
          (λ i. opened_here (sym numbers i) (connection_of s.connections (sym seats i))) ∙ here
      by false f g more = more g

  module _ (numbers : OpenNumbers) (cover : Cover numbers s.handles)
      (q : Option Handle → Bool) (none : q None ≡ false) (seat : ℕ) (c : Connection) (o : Option Opened) (h : HasOpen s seat c o) where
    found-by : list_any (λ n. q (handle_in o n)) (numbers_of numbers seat) ≡ true →
        list_any (opens q) (handles_of s.handles seat) ≡ true
    found-by e =
        let one = some-number q o (numbers_of numbers seat) e in
        found-any q none seat one.0 s.handles
        (ap q (sym (handle-found s seat c o one.0 h)) ∙ one.1)

    any-by : list_any (opens q) (handles_of s.handles seat) ≡ true →
        list_any (λ n. q (handle_in o n)) (numbers_of numbers seat) ≡ true
    any-by e =
        let one = open-found q none seat s.handles v.handles_differ e in
        any-number q o (numbers_of numbers seat) one.0 (cover seat one.0 one.1.there)
        (ap q (handle-found s seat c o one.0 h) ∙ one.1.open_at)

    pub by-numbers : list_any (λ n. q (handle_in o n)) (numbers_of numbers seat)
        ≡ list_any (opens q) (handles_of s.handles seat)
    by-numbers = both-ways
        (list_any (λ n. q (handle_in o n)) (numbers_of numbers seat))
        (list_any (opens q) (handles_of s.handles seat)) found-by any-by

-- ---- all connections

module _ (path : List ℕ) where
  pub among-joined : (xs ys : List (List ℕ)) → is_among (xs ++ ys) path ≡ (is_among xs path || is_among ys path)
  among-joined [] ys = refl
  among-joined (x ∷ xs) ys = grind (arith, among-joined xs ys)

  handle-named : (h : Handle) → is_among (paths_of_handle h) path ≡ is_open_at path (Some h)
  handle-named (Handle.File name node document strict read write) = no-more (is_same name.path path)
    where
      no-more : (b : Bool) → (b || false) ≡ b
      no-more true = refl
      no-more false = refl
  handle-named (Handle.Folder node names) = refl

  handles-named : (hs : List OpenHandle) → is_among (flat_map (λ (h : OwnHandle). paths_of_handle h.handle) (map own_handle hs)) path ≡ list_any (opens (is_open_at path)) hs
  handles-named [] = refl
  handles-named (h ∷ hs) = among-joined (paths_of_handle h.handle) (flat_map (λ (x : OwnHandle). paths_of_handle x.handle) (map own_handle hs)) ∙ (λ i. handle-named h.handle i || handles-named hs i)

  module _ (app : List ℕ) (handles : List OpenHandle) where
    connections-named : (cs : List Connection) → is_among (flat_map paths_of_connection (own_connections app handles cs)) path ≡ list_any (λ (c : Connection). is_app app c.who && list_any (opens (is_open_at path)) (handles_of handles c.seat)) cs
    connections-named [] = refl
    connections-named (c ∷ cs) = by (is_app app c.who) (connections-named cs)
      where
        by : (b : Bool) → is_among (flat_map paths_of_connection (own_connections app handles cs)) path ≡ list_any (λ (x : Connection). is_app app x.who && list_any (opens (is_open_at path)) (handles_of handles x.seat)) cs →
            is_among (flat_map paths_of_connection (map (own_connection app handles) (cond b (c ∷ filter (λ (x : Connection). is_app app x.who) cs) (filter (λ (x : Connection). is_app app x.who) cs)))) path
            ≡ ((b && list_any (opens (is_open_at path)) (handles_of handles c.seat)) || list_any (λ (x : Connection). is_app app x.who && list_any (opens (is_open_at path)) (handles_of handles x.seat)) cs)
        by true e =
            among-joined (paths_of_connection (own_connection app handles c)) (flat_map paths_of_connection (own_connections app handles cs))
            ∙ (λ i. handles-named (handles_of handles c.seat) i || e i)
        by false e = e

-- each of the connections is the one of its seat
module _ (P : Connection → Type 0) where
  abbrev pub Each : List Connection → Type 0
  Each [] = Unit {0}
  Each (c ∷ cs) = P c × Each cs

seat-self : (n : ℕ) → (n == n) ≡ true
seat-self n = grind (arith, nat_tests)

pub each-here : (cs : List Connection) → IsDistinct nat_eq (map (λ (c : Connection). c.seat) cs) → Each (λ c. connection_of cs c.seat ≡ Some c) cs
unfolding IsDistinct
each-here [] d = tt
each-here (c ∷ cs) d = (ap (λ (b : Bool). cond b (Some c) (connection_of cs c.seat)) (seat-self c.seat), behind cs d.0 (each-here cs d.1))
  where
    other : (m n : ℕ) → nat_eq m n ≡ false → (m == n) ≡ false
    other m n e = grind (arith, nat_tests)

    behind : (xs : List Connection) → AllByRecursion (λ n. nat_eq c.seat n ≡ false) (map (λ (x : Connection). x.seat) xs) → Each (λ x. connection_of cs x.seat ≡ Some x) xs → Each (λ x. connection_of (c ∷ cs) x.seat ≡ Some x) xs
    behind [] a e = tt
    behind (x ∷ xs) a e = (ap (λ (b : Bool). cond b (Some c) (connection_of cs x.seat)) (other c.seat x.seat a.0) ∙ e.0, behind xs a.1 e.1)

module _ (s : State) (v : Valid s) (numbers : OpenNumbers) (cover : Cover numbers s.handles)
    (seats : List (ℕ × Opened))
    (table : (seat : ℕ) (c : Connection) → connection_of s.connections seat ≡ Some c →
    HasOpen s seat c (opened_on seats seat)) (app path : List ℕ) where
  table-named : (cs : List Connection) →
      Each (λ c. connection_of s.connections c.seat ≡ Some c) cs →
      any_has_open numbers seats app path (map silent cs)
      ≡ list_any (λ (c : Connection).
      is_app app c.who && list_any (opens (is_open_at path)) (handles_of s.handles c.seat)) cs
  table-named [] e = refl
  table-named (c ∷ cs) e =
      λ i. (is_app app c.who && by-numbers s v numbers cover (is_open_at path) refl c.seat c (opened_on seats c.seat)
      (table c.seat c e.0) i) || table-named cs e.1 i

  -- by the handles of the table, an open file names the path
  pub open-named : any_has_open numbers seats app path (map silent s.connections)
      ≡ is_among (flat_map paths_of_connection (own_connections app s.handles s.connections)) path
  open-named = table-named s.connections (each-here s.connections v.seats_differ)
      ∙ sym (connections-named path app s.handles s.connections)

-- ---- the paths of which a view tells

module _ (path : List ℕ) where
  abbrev plain : List HeldDocument → Bool
  plain ds = is_among (paths_where is_plain_document ds) path

  abbrev covered : List HeldDocument → Bool
  covered ds = list_any (λ folder. is_at_or_below folder path) (folder_paths ds)

  behind_first : (x a b c : Bool) → a ≡ (b || c) → (x || a) ≡ (b || (x || c))
  behind_first true a true c e = refl
  behind_first true a false c e = refl
  behind_first false a b c e = e

  ahead_first : (x a b c : Bool) → a ≡ (b || c) → (x || a) ≡ ((x || b) || c)
  ahead_first true a b c e = refl
  ahead_first false a b c e = e

  of-documents : (ds : List HeldDocument) → are_of ds path ≡ (plain ds || covered ds)
  of-documents [] = refl
  of-documents (d ∷ ds) = by_kind d.document.folder (of-documents ds)
    where
      by_kind : (b : Bool) → are_of ds path ≡ (plain ds || covered ds) → (cond b (is_at_or_below d.document.path path) (is_same d.document.path path) || are_of ds path)
          ≡ (is_among (map (λ (x : HeldDocument). x.document.path) (cond (not b) (d ∷ filter (λ (x : HeldDocument). is_plain_document x.document) ds) (filter (λ (x : HeldDocument). is_plain_document x.document) ds))) path
          || list_any (λ folder. is_at_or_below folder path) (map (λ (x : HeldDocument). x.document.path) (cond b (d ∷ filter (λ (x : HeldDocument). is_folder_document x.document) ds) (filter (λ (x : HeldDocument). is_folder_document x.document) ds))))
      by_kind true e = behind_first (is_at_or_below d.document.path path) (are_of ds path) (plain ds) (covered ds) e
      by_kind false e = ahead_first (is_same d.document.path path) (are_of ds path) (plain ds) (covered ds) e

  last_moved : (a o c : Bool) → ((a || o) || c) ≡ ((a || c) || o)
  last_moved true o c = refl
  last_moved false true true = refl
  last_moved false true false = refl
  last_moved false false true = refl
  last_moved false false false = refl

  pub known-of : (ds : List HeldDocument) (cs : List OwnConnection) → (is_among (named_paths ds cs) path || covered ds) ≡ (are_of ds path || is_among (flat_map paths_of_connection cs) path)
  known-of ds cs =
      ap (λ (b : Bool). b || covered ds) (among-joined path (paths_where is_plain_document ds) (flat_map paths_of_connection cs))
      ∙ (last_moved (plain ds) (is_among (flat_map paths_of_connection cs) path) (covered ds)
      ∙ ap (λ (b : Bool). b || is_among (flat_map paths_of_connection cs) path) (sym (of-documents ds)))
