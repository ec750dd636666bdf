-- What an own Add is told, file by file.
use Rattle.std.proofs.Common.{◌≡◌, ◌+◌, ℕ, zero, suc, ◌<◌, ◌≤◌, ◌&&◌, List, [], ◌∷◌, ◌++◌, length, get_or, map, take, Bool, true, false, cond, nat_le, nat_lt, Option, refl, sym, ap, ◌∙◌, arith}
use Rattle.std.specs.List.{flat_map, list_all}
use Rattle.std.proofs.lemmas.Bool.Decides.{nat_tests}
use Rattle.std.proofs.lemmas.List.{append-nil, append_assoc, get_or_default, get_or-take}
use Rattle.portal_base.specs.Names.{is_host_path}
use Rattle.portal_base.specs.declared.names.doc_id.DocId.{DocId}
use Rattle.portal_model.specs.declared.request.AddRequest.{AddRequest}
use Rattle.portal_model.specs.declared.state.Document.{Document}
use Rattle.portal_model.specs.Add.{used_again}
use Rattle.portal_model.specs.AddArguments.{are_presented, document_path, document_paths, is_left_out, paths_looked_at, paths_shown, reuses}
use Rattle.add_files.specs.declared.plan.PlanItem.{PlanItem}
use Rattle.app_world.specs.Add.{reused_of}
use Rattle.trace_items.specs.OwnAdds.{looked_at, presented_by, reused_here}
use Rattle.document_records.proofs.Loops.{one_more}

-- ---- files that are presented

all-at : {X : Type 0} (p : X → Bool) (xs : List X) (i : ℕ) (x : X) → i < length xs → x ≡ get_or xs i x → list_all p xs ≡ true → p x ≡ true
all-at p [] i x l e h = absurd (omega arith)
all-at p (y ∷ ys) zero x l e h = ap p e ∙ first (p y) h
  where
    first : (b : Bool) → (b && list_all p ys) ≡ true → b ≡ true
    first true k = refl
    first false k = cc
all-at p (y ∷ ys) (suc i) x l e h = all-at p ys i x (omega arith) e (rest (p y) h)
  where
    rest : (b : Bool) → (b && list_all p ys) ≡ true → list_all p ys ≡ true
    rest true k = k
    rest false k = cc

both : (a b : Bool) → (a && b) ≡ true → (a ≡ true) × (b ≡ true)
both true b h = (refl, h)
both false b h = cc

below : (m n : ℕ) → nat_lt m n ≡ true → m < n
below m n h = grind (arith, nat_tests)

at_most : (m n : ℕ) → nat_le m n ≡ true → m ≤ n
at_most m n h = grind (arith, nat_tests)

module _ (queue : List (List ℕ)) (a : AddRequest) (h : are_presented queue a ≡ true) where
  pub there : a.fds ≤ length queue
  there = at_most a.fds (length queue) (both _ _ h).0

  within : (i handle : ℕ) → i < length a.handles → handle ≡ get_or a.handles i handle → handle < a.fds
  within i handle l e = below handle a.fds (all-at (λ (n : ℕ). nat_lt n a.fds) a.handles i handle l e (both _ _ h).1)

  pub within-at : (i : ℕ) → i < length a.handles → get_or a.handles i 0 < a.fds
  within-at i l = within i (get_or a.handles i 0) l (get_or_default a.handles i 0 (get_or a.handles i 0) l)

all-made : {X Y Z : Type 0} (p : Z → Bool) (g : Y → Z) (f : X → Y) (xs : List X) → list_all p (map g (map f xs)) ≡ true → list_all (λ x. p (g (f x))) xs ≡ true
all-made p g f [] h = refl
all-made p g f (x ∷ xs) h = grind (arith, all-made p g f xs)

named : (queue : List (List ℕ)) (a : AddRequest) → list_all is_host_path (document_paths queue a) ≡ true → (i handle : ℕ) → i < length a.handles → handle ≡ get_or a.handles i handle →
    is_host_path (document_path a (presented_by queue a handle)) ≡ true
named queue a h i handle l e =
    all-at (λ (n : ℕ). is_host_path (document_path a (presented_by queue a n))) a.handles i handle l e
    (all-made is_host_path (document_path a) (presented_by queue a) a.handles h)

pub named-at : (queue : List (List ℕ)) (a : AddRequest) → list_all is_host_path (document_paths queue a) ≡ true → (i : ℕ) → i < length a.handles →
    is_host_path (document_path a (presented_by queue a (get_or a.handles i 0))) ≡ true
named-at queue a h i l = named queue a h i (get_or a.handles i 0) l (get_or_default a.handles i 0 (get_or a.handles i 0) l)

-- the item of the queue is the presented path
pub presented-is : (queue : List (List ℕ)) (a : AddRequest) (handle : ℕ) (x : List ℕ) → handle < a.fds → a.fds ≤ length queue → x ≡ get_or queue handle x → x ≡ presented_by queue a handle
presented-is queue a handle x w t e = e ∙ (get_or_default queue handle x [] (omega arith) ∙ sym (get_or-take a.fds queue handle [] w))

-- ---- one file after another

flat-made : {X Y Z : Type 0} (f : Y → List Z) (g : X → Y) (xs : List X) → flat_map f (map g xs) ≡ flat_map (λ x. f (g x)) xs
flat-made f g [] = refl
flat-made {Z = Z} f g (x ∷ xs) = ap (λ (zs : List Z). f (g x) ++ zs) (flat-made f g xs)

pub shown-is : (queue : List (List ℕ)) (a : AddRequest) → flat_map (looked_at queue a) a.handles ≡ paths_shown queue a
shown-is queue a = sym (flat-made (paths_looked_at a) (presented_by queue a) a.handles)

pub reused-is : (documents : List Document) (a : AddRequest) (paths : List (List ℕ)) → flat_map (reused_here documents a) paths ≡ reused_of documents a paths
reused-is documents a [] = refl
reused-is documents a (path ∷ paths) = by_left (is_left_out a path) (reused-is documents a paths)
  where
    by_left : (b : Bool) → flat_map (reused_here documents a) paths ≡ reused_of documents a paths →
        (cond b [] (used_again documents a path ∷ []) ++ flat_map (reused_here documents a) paths) ≡ cond b (reused_of documents a paths) (used_again documents a path ∷ reused_of documents a paths)
    by_left true m = m
    by_left false m = ap (λ (ids : List (Option DocId)). used_again documents a path ∷ ids) m

-- ---- the files of a plan

module _ (queue : List (List ℕ)) (a : AddRequest) (items : List PlanItem) (paths : map (λ (x : PlanItem). x.path) items ≡ document_paths queue a) where
  length-made : {X Y : Type 0} (f : X → Y) (xs : List X) → length (map f xs) ≡ length xs
  length-made f [] = refl
  length-made f (x ∷ xs) = grind (arith, length-made f xs)

  pub as-many : length items ≡ length a.handles
  as-many =
      sym (length-made (λ (x : PlanItem). x.path) items)
      ∙ (ap (λ (ps : List (List ℕ)). length ps) paths
      ∙ (length-made (document_path a) (map (presented_by queue a) a.handles) ∙ length-made (presented_by queue a) a.handles))

at-map : {X Y : Type 0} (f : X → Y) (xs : List X) (i : ℕ) (x : X) (y : Y) → i < length xs → x ≡ get_or xs i x → get_or (map f xs) i y ≡ f x
at-map f [] i x y l e = absurd (omega arith)
at-map f (z ∷ zs) zero x y l e = ap f (sym e)
at-map f (z ∷ zs) (suc i) x y l e = at-map f zs i x y (omega arith) e

-- the document of an item has the path that its handle names
pub item-path : (queue : List (List ℕ)) (a : AddRequest) (items : List PlanItem) → map (λ (x : PlanItem). x.path) items ≡ document_paths queue a → (i : ℕ) (x : PlanItem) (handle : ℕ) → i < length items → x ≡ get_or items i x → handle ≡ get_or a.handles i handle →
    x.path ≡ document_path a (presented_by queue a handle)
item-path queue a items paths i x handle l e h =
    sym (at-map (λ (y : PlanItem). y.path) items i x [] l e)
    ∙ (ap (λ (ps : List (List ℕ)). get_or ps i []) paths
    ∙ at-map (document_path a) (map (presented_by queue a) a.handles) i (presented_by queue a handle) [] (omega (arith, as-many queue a items paths, made-length a.handles)) (sym (at-map (presented_by queue a) a.handles i handle (presented_by queue a handle) (omega (arith, as-many queue a items paths)) h)))
  where
    made-length : (hs : List ℕ) → length (map (presented_by queue a) hs) ≡ length hs
    made-length [] = refl
    made-length (x ∷ xs) = grind (arith, made-length xs)

pub item-path-at : (queue : List (List ℕ)) (a : AddRequest) (items : List PlanItem) → map (λ (x : PlanItem). x.path) items ≡ document_paths queue a → (i : ℕ) (x : PlanItem) (hs : List ℕ) → hs ≡ a.handles → i < length items →
    (get_or items i x).path ≡ document_path a (presented_by queue a (get_or hs i 0))
item-path-at queue a items paths i x hs e l =
    item-path queue a items paths i (get_or items i x) (get_or a.handles i 0) l (get_or_default items i x (get_or items i x) l)
    (get_or_default a.handles i 0 (get_or a.handles i 0) (omega (arith, as-many queue a items paths)))
    ∙ ap (λ (ys : List ℕ). document_path a (presented_by queue a (get_or ys i 0))) (sym e)

flat-joined : {X Y : Type 0} (f : X → List Y) (xs : List X) (x : X) → flat_map f (xs ++ x ∷ []) ≡ flat_map f xs ++ f x
flat-joined f [] x = append-nil (f x)
flat-joined {Y = Y} f (z ∷ zs) x = ap (λ (ys : List Y). f z ++ ys) (flat-joined f zs x) ∙ sym (append_assoc (f z) (flat_map f zs) (f x))

pub shown-more : {Y : Type 0} (f : ℕ → List Y) (hs all : List ℕ) (i : ℕ) → all ≡ hs → i < length hs → flat_map f (take i hs) ++ f (get_or all i 0) ≡ flat_map f (take (i + 1) hs)
shown-more {Y = Y} f hs all i e l =
    ap (λ (ys : List ℕ). flat_map f (take i hs) ++ f (get_or ys i 0)) e
    ∙ (sym (flat-joined f (take i hs) (get_or hs i 0))
    ∙ ap (flat_map f) (sym (one_more hs i (get_or hs i 0) l (get_or_default hs i 0 (get_or hs i 0) l))))

-- ---- the tests

pub both-there : (queue : List (List ℕ)) (a : AddRequest) (b : Bool) → a.fds ≤ length queue → b ≡ list_all (λ handle. nat_lt handle a.fds) a.handles → b ≡ are_presented queue a
both-there queue a b l e =
    let few : nat_le a.fds (length queue) ≡ true = fits a.fds (length queue) l in
    e ∙ ap (λ (d : Bool). d && list_all (λ handle. nat_lt handle a.fds) a.handles) (sym few)
  where
    fits : (m n : ℕ) → m ≤ n → nat_le m n ≡ true
    fits m n h = grind (arith, nat_tests)

pub reused-of-items : (documents : List Document) (a : AddRequest) (items : List PlanItem) → flat_map (λ (x : PlanItem). reused_here documents a x.path) items ≡ reused_of documents a (map (λ (x : PlanItem). x.path) items)
reused-of-items documents a items = sym (flat-made (reused_here documents a) (λ (x : PlanItem). x.path) items) ∙ reused-is documents a (map (λ (x : PlanItem). x.path) items)

pub reused-where : (a : AddRequest) (documents : List Document) (items shown : List PlanItem) (ids : List (Option DocId)) → {b : Bool} → shown ≡ items → b ≡ reuses a → b ≡ true →
    ids ≡ reused_of documents a (map (λ (x : PlanItem). x.path) shown) → ids ≡ cond (reuses a) (reused_of documents a (map (λ (x : PlanItem). x.path) items)) []
reused-where a documents items shown ids s r t e =
    e ∙ ((λ i. reused_of documents a (map (λ (x : PlanItem). x.path) (s i))) ∙ ap (λ (b : Bool). cond b (reused_of documents a (map (λ (x : PlanItem). x.path) items)) []) (sym t ∙ r))

pub reused-nowhere : (a : AddRequest) (all ids : List (Option DocId)) → {b : Bool} → ids ≡ [] → b ≡ reuses a → b ≡ false → ids ≡ cond (reuses a) all []
reused-nowhere a all ids n r f = n ∙ ap (λ (b : Bool). cond b all []) (sym f ∙ r)
