-- What was checked of a call is what the sequential portal checks ahead of the tree, and what was
-- planned is what it does.
use Rattle.std.proofs.Common.{◌≡◌, ℕ, ◌≤◌, List, [], ◌∷◌, ◌++◌, fold, get_or, length, drop, inl, inr, ◌⊎◌, map, nat_le, take, Bool, true, false, not, ◌||◌, ◌&&◌, cond, Option, Some, None, is_some, refl, sym, ap, subst, ◌∙◌, arith}
use Rattle.std.specs.List.{list_all, count_by, position}
use Rattle.std.proofs.lemmas.Bool.Decides.{nat_tests}
use Rattle.std.proofs.lemmas.List.{length-take-le, map-append}
use Rattle.std.proofs.lemmas.List.Folds.{list_all-append}
use Rattle.portal_base.specs.Names.{is_host_path}
use Rattle.portal_base.specs.declared.names.doc_id.DocId.{DocId}
use Rattle.portal_base.specs.declared.who.Who.{Who}
use Rattle.rights_rule.specs.Rights.{RightSet, are_right_names, contains, rights_named}
use Rattle.portal_model.specs.declared.reply.Code.TheVariants as Code
use Rattle.portal_model.specs.declared.request.AddRequest.{AddRequest}
use Rattle.portal_model.specs.declared.state.Connection.{Connection}
use Rattle.portal_model.specs.declared.state.Document.{Document}
use Rattle.portal_model.specs.declared.state.Triple.{Triple}
use Rattle.portal_model.specs.Add.{add, add_allowed, add_files, add_looking, add_presented, added_files, adding_rights, may_list, may_list_all, rights_then, taken_from_queue, used_again}
use Rattle.portal_model.specs.AddArguments.{are_add_arguments, are_flags, are_presented, document_path, document_paths, files_limit, is_file_name, is_named_well, names_nobody, reuses}
use Rattle.portal_model.specs.Arguments.{ahead_of_end, has_end}
use Rattle.portal_model.specs.Present.{with_queue}
use Rattle.portal_model.specs.State.{State}
use Rattle.portal_model.specs.Verdict.{refuses, walk_unless}
use Rattle.add_files.specs.Arguments.{FailsCheck, are_few, has_app, has_file_name, is_joined_well}
use Rattle.add_files.specs.Items.{are_below, item_behind, items_of, left_out, lists_in, made_ahead, makes, may_list_in, may_list_items, paths_of, place_behind, place_used, presented_of, put_behind}
use Rattle.add_files.specs.Plans.{IsAsked, IsOfCall, IsPlan, IsRefused, NameNewOnes, as_added, follow_item, named_app, none_followed, own_of, is_new}
use Rattle.add_files.specs.declared.plan.AddError.{AddError}
use Rattle.add_files.specs.declared.plan.AddError.TheVariants.{InvalidArgument, NotAllowed, Memory}
use Rattle.add_files.specs.declared.plan.AddPlan.{AddPlan}
use Rattle.add_files.specs.declared.plan.PlanItem.{PlanItem}
use Rattle.add_files.specs.declared.plan.PlanUse.TheVariants.{LeftOut, New}
use Rattle.add_files.proofs.Earlier.{names-new-ones}
use Rattle.add_files.proofs.Following.{files-followed, left-out-is}

-- ---- the items

pub items-paths : (documents : List Document) (who : Who) (a : AddRequest) (app : Option (List ℕ)) (paths : List (List ℕ)) (ahead : List PlanItem) →
    map (λ item. item.path) (fold (put_behind documents who a app) ahead paths) ≡ map (λ item. item.path) ahead ++ paths
items-paths documents who a app [] ahead = sym (append-nil (map (λ item. item.path) ahead))
  where
    append-nil : (l : List (List ℕ)) → l ++ [] ≡ l
    append-nil [] = refl
    append-nil (x ∷ xs) = ap (λ (l : List (List ℕ)). x ∷ l) (append-nil xs)
items-paths documents who a app (p ∷ ps) ahead =
    items-paths documents who a app ps (ahead ++ item_behind documents who a app ahead p ∷ [])
    ∙ (ap (λ (l : List (List ℕ)). l ++ ps) (map-append (λ (item : PlanItem). item.path) ahead (item_behind documents who a app ahead p ∷ []))
    ∙ append-two (map (λ item. item.path) ahead) p ps)
  where
    append-two : (xs : List (List ℕ)) (x : List ℕ) (ys : List (List ℕ)) → (xs ++ x ∷ []) ++ ys ≡ xs ++ x ∷ ys
    append-two [] x ys = refl
    append-two (z ∷ zs) x ys = ap (λ (l : List (List ℕ)). z ∷ l) (append-two zs x ys)

items-own : (documents : List Document) (who : Who) (a : AddRequest) (app : Option (List ℕ)) (paths : List (List ℕ)) (ahead : List PlanItem) →
    map (λ item. item.own) ahead ≡ map (λ item. own_of who a item.place) ahead →
    map (λ item. item.own) (fold (put_behind documents who a app) ahead paths) ≡ map (λ item. own_of who a item.place) (fold (put_behind documents who a app) ahead paths)
items-own documents who a app [] ahead h = h
items-own documents who a app (p ∷ ps) ahead h =
    let item : PlanItem = item_behind documents who a app ahead p in
    items-own documents who a app ps (ahead ++ item ∷ [])
    (map-append (λ (i : PlanItem). i.own) ahead (item ∷ [])
    ∙ (ap (λ (l : List RightSet). l ++ item.own ∷ []) h
    ∙ sym (map-append (λ (i : PlanItem). own_of who a i.place) ahead (item ∷ []))))

-- ---- the rights that are listed

lists-used : (rights : List Triple) (app : List ℕ) (a : AddRequest) (listed : RightSet) (reused : Bool) (at : Option ℕ) →
    lists_in rights app a listed (cond reused (made_ahead at) New) ≡ contains (adding_rights a) listed
lists-used rights app a listed true None = refl
lists-used rights app a listed true (Some k) = refl
lists-used rights app a listed false at = refl

lists-live : (rights : List Triple) (app : List ℕ) (a : AddRequest) (listed : RightSet) (ahead : List PlanItem) (path : List ℕ) (live : Option DocId) →
    lists_in rights app a listed (place_used a ahead path live) ≡ contains (rights_then rights app a live) listed
lists-live rights app a listed ahead path None = lists-used rights app a listed (reuses a) (position (makes path) ahead)
lists-live rights app a listed ahead path (Some id) = refl

lists-one : (s : State) (who : Who) (a : AddRequest) (ahead : List PlanItem) (path : List ℕ) →
    may_list_in s.rights who a (rights_named a.names) (place_behind s.documents a (named_app a) ahead path) ≡ may_list s who a path
lists-one s Who.Host a ahead path = refl
lists-one s (Who.App app) a ahead path =
    by-test (left_out a (named_app a) path)
    ∙ ap (λ (b : Bool). b || contains (rights_then s.rights app a (used_again s.documents a path)) (rights_named a.names)) (left-out-is a path)
  where
    by-test : (b : Bool) → lists_in s.rights app a (rights_named a.names) (cond b LeftOut (place_used a ahead path (used_again s.documents a path)))
        ≡ (b || contains (rights_then s.rights app a (used_again s.documents a path)) (rights_named a.names))
    by-test true = refl
    by-test false = lists-live s.rights app a (rights_named a.names) ahead path (used_again s.documents a path)

lists-all : (s : State) (who : Who) (a : AddRequest) (paths : List (List ℕ)) (ahead : List PlanItem) →
    may_list_items s.rights who a (rights_named a.names) (fold (put_behind s.documents who a (named_app a)) ahead paths)
    ≡ (may_list_items s.rights who a (rights_named a.names) ahead && list_all (may_list s who a) paths)
lists-all s who a [] ahead = and-true (may_list_items s.rights who a (rights_named a.names) ahead)
  where
    and-true : (x : Bool) → x ≡ (x && true)
    and-true true = refl
    and-true false = refl
lists-all s who a (p ∷ ps) ahead =
    let item : PlanItem = item_behind s.documents who a (named_app a) ahead p in
    lists-all s who a ps (ahead ++ item ∷ [])
    ∙ (ap (λ (b : Bool). b && list_all (may_list s who a) ps) (list_all-append (λ (i : PlanItem). may_list_in s.rights who a (rights_named a.names) i.place) ahead (item ∷ []))
    ∙ (and-three (may_list_items s.rights who a (rights_named a.names) ahead) (may_list_in s.rights who a (rights_named a.names) item.place) (list_all (may_list s who a) ps)
    ∙ ap (λ (b : Bool). may_list_items s.rights who a (rights_named a.names) ahead && (b && list_all (may_list s who a) ps)) (lists-one s who a ahead p)))
  where
    and-three : (x y z : Bool) → ((x && (y && true)) && z) ≡ (x && (y && z))
    and-three true true z = refl
    and-three true false z = refl
    and-three false y z = refl

-- ---- the arguments

module _ (s : State) (c : Connection) (a : AddRequest) (documents : List Document) (rights : List Triple) (who : Who) (paths : List (List ℕ)) (asked : IsAsked s c a documents rights who paths) where
  presented-are : map (λ handle. get_or (take a.fds c.queue) handle []) a.handles ≡ presented_of paths a.handles
  presented-are = ap (λ (l : List (List ℕ)). presented_of l a.handles) asked.taken

  paths-are : document_paths c.queue a ≡ paths_of a paths a.handles
  paths-are = ap (map (document_path a)) presented-are

  are-there : are_below (length paths) a.handles ≡ true → are_presented c.queue a ≡ true
  are-there h =
      let many : length paths ≡ a.fds = ap (λ (l : List (List ℕ)). length l) (sym asked.taken) ∙ length-take-le a.fds c.queue asked.there in
      let enough : nat_le a.fds (length c.queue) ≡ true = let l : a.fds ≤ length c.queue = asked.there in grind (arith, nat_tests) in
      ap (λ (b : Bool). b && are_below a.fds a.handles) enough ∙ subst (λ (n : ℕ). are_below n a.handles ≡ true) many h

  goes-on : are_below (length paths) a.handles ≡ true → (numbers : List DocId) → add s c a numbers ≡ add_presented s c a numbers
  goes-on h numbers = ap (λ (b : Bool). walk_unless (not b) Code.InvalidArgs (add_presented s c a numbers)) (are-there h)

-- the joined paths, where files are named, and where they aren't
joined-named : (a : AddRequest) (xs : List (List ℕ)) → a.named ≡ true → list_all (is_joined_well a) xs ≡ list_all is_host_path (map (document_path a) xs)
joined-named a [] e = refl
joined-named a (x ∷ xs) e =
    ap (λ (b : Bool). (not b || is_host_path (document_path a x)) && list_all (is_joined_well a) xs) e
    ∙ ap (λ (b : Bool). is_host_path (document_path a x) && b) (joined-named a xs e)

joined-unnamed : (a : AddRequest) (xs : List (List ℕ)) → a.named ≡ false → list_all (is_joined_well a) xs ≡ true
joined-unnamed a [] e = refl
joined-unnamed a (x ∷ xs) e =
    ap (λ (b : Bool). (not b || is_host_path (document_path a x)) && list_all (is_joined_well a) xs) e ∙ joined-unnamed a xs e

named-well : (a : AddRequest) (xs : List (List ℕ)) (b : Bool) → a.named ≡ b →
    (not a.named || (has_end a.name && (is_file_name (ahead_of_end a.name) && list_all is_host_path (map (document_path a) xs))))
    ≡ (has_file_name a && list_all (is_joined_well a) xs)
named-well a xs true e =
    ap (λ (b : Bool). not b || (has_end a.name && (is_file_name (ahead_of_end a.name) && list_all is_host_path (map (document_path a) xs)))) e
    ∙ (and-join (has_end a.name) (is_file_name (ahead_of_end a.name)) (list_all is_host_path (map (document_path a) xs))
    ∙ sym (ap (λ (b : Bool). (not b || (has_end a.name && is_file_name (ahead_of_end a.name))) && list_all (is_joined_well a) xs) e
    ∙ ap (λ (b : Bool). (has_end a.name && is_file_name (ahead_of_end a.name)) && b) (joined-named a xs e)))
  where
    and-join : (x y z : Bool) → (x && (y && z)) ≡ ((x && y) && z)
    and-join true y z = refl
    and-join false y z = refl
named-well a xs false e =
    ap (λ (b : Bool). not b || (has_end a.name && (is_file_name (ahead_of_end a.name) && list_all is_host_path (map (document_path a) xs)))) e
    ∙ sym (ap (λ (b : Bool). (not b || (has_end a.name && is_file_name (ahead_of_end a.name))) && list_all (is_joined_well a) xs) e ∙ joined-unnamed a xs e)

-- what the code checked
pub record Checks (a : AddRequest) (paths : List (List ℕ)) : Type 0 where
  pub few : are_few a ≡ true
  pub file : has_file_name a ≡ true
  pub known : are_right_names a.names ≡ true
  pub app : has_app a ≡ true
  pub joined : list_all (is_joined_well a) (presented_of paths a.handles) ≡ true

all-met : (x y z v w u t r : Bool) → (x && y) ≡ true → r ≡ true → v ≡ true → z ≡ true → t ≡ true → w ≡ (r && t) → (x && (y && (z && (v && w)))) ≡ true
all-met true true z v w u t r h hr hv hz ht e = grind arith
all-met true false z v w u t r h hr hv hz ht e = cc
all-met false y z v w u t r h hr hv hz ht e = cc

-- one of them is not met
one-fails : (x y z v w : Bool) → ((x && y) ≡ false) ⊎ ((z ≡ false) ⊎ ((v ≡ false) ⊎ (w ≡ false))) → (x && (y && (z && (v && w)))) ≡ false
one-fails false y z v w h = refl
one-fails true false z v w h = refl
one-fails true true false v w h = refl
one-fails true true true false w h = refl
one-fails true true true true false h = refl
one-fails true true true true true h = elim h [
  | inl e ↦ cc
  | inr k ↦ elim k [
    | inl e ↦ cc
    | inr l ↦ elim l [
      | inl e ↦ cc
      | inr e ↦ cc
    ]
  ]
]

named-well-all : (a : AddRequest) (queue : List (List ℕ)) → is_named_well queue a ≡ (has_file_name a && list_all (is_joined_well a) (map (λ handle. get_or (take a.fds queue) handle []) a.handles))
named-well-all a queue = named-well a (map (λ handle. get_or (take a.fds queue) handle []) a.handles) a.named refl

module _ (s : State) (c : Connection) (a : AddRequest) (documents : List Document) (rights : List Triple) (who : Who) (paths : List (List ℕ)) (asked : IsAsked s c a documents rights who paths) (below : are_below (length paths) a.handles ≡ true) where
  well-named : is_named_well c.queue a ≡ (has_file_name a && list_all (is_joined_well a) (presented_of paths a.handles))
  well-named =
      named-well-all a c.queue
      ∙ ap (λ (l : List (List ℕ)). has_file_name a && list_all (is_joined_well a) l) (presented-are s c a documents rights who paths asked)

  are-arguments : Checks a paths → are_add_arguments c.queue a ≡ true
  are-arguments k =
      all-met (nat_le (length a.handles) files_limit) (are_flags a) (has_app a) (are_right_names a.names) (is_named_well c.queue a) true
      (list_all (is_joined_well a) (presented_of paths a.handles)) (has_file_name a) k.few k.file k.known k.app k.joined well-named

  not-arguments : (are_few a ≡ false) ⊎ ((has_app a ≡ false) ⊎ ((are_right_names a.names ≡ false) ⊎ ((has_file_name a && list_all (is_joined_well a) (presented_of paths a.handles)) ≡ false))) →
      are_add_arguments c.queue a ≡ false
  not-arguments h =
      ap (λ (b : Bool). nat_le (length a.handles) files_limit && (are_flags a && (has_app a && (are_right_names a.names && b)))) well-named
      ∙ one-fails (nat_le (length a.handles) files_limit) (are_flags a) (has_app a) (are_right_names a.names) (has_file_name a && list_all (is_joined_well a) (presented_of paths a.handles)) h

  pub refused-argument : (numbers : List DocId) →
      (are_few a ≡ false) ⊎ ((has_app a ≡ false) ⊎ ((are_right_names a.names ≡ false) ⊎ ((has_file_name a && list_all (is_joined_well a) (presented_of paths a.handles)) ≡ false))) →
      add s c a numbers ≡ refuses Code.InvalidArgument
  refused-argument numbers h =
      goes-on s c a documents rights who paths asked below numbers
      ∙ ap (λ (b : Bool). walk_unless (not b) Code.InvalidArgument (add_allowed s c a numbers)) (not-arguments h)

  to-rights : Checks a paths → (numbers : List DocId) → add s c a numbers ≡ add_allowed s c a numbers
  to-rights k numbers =
      goes-on s c a documents rights who paths asked below numbers
      ∙ ap (λ (b : Bool). walk_unless (not b) Code.InvalidArgument (add_allowed s c a numbers)) (are-arguments k)

  may-list-is : may_list_all s c.who a (document_paths c.queue a)
      ≡ (names_nobody a || may_list_items rights who a (rights_named a.names) (items_of documents who a (named_app a) (paths_of a paths a.handles)))
  may-list-is =
      ap (λ (l : List (List ℕ)). names_nobody a || list_all (may_list s c.who a) l) (paths-are s c a documents rights who paths asked)
      ∙ (ap (λ (b : Bool). names_nobody a || b) (sym (lists-all s c.who a (paths_of a paths a.handles) []))
      ∙ (λ i. names_nobody a || may_list_items (asked.held i) (asked.caller i) a (rights_named a.names) (items_of (asked.live i) (asked.caller i) a (named_app a) (paths_of a paths a.handles))))

  pub refused-right : Checks a paths → (names_nobody a || may_list_items rights who a (rights_named a.names) (items_of documents who a (named_app a) (paths_of a paths a.handles))) ≡ false →
      (numbers : List DocId) → add s c a numbers ≡ refuses Code.NotAllowed
  refused-right k e numbers =
      to-rights k numbers ∙ ap (λ (b : Bool). walk_unless (not b) Code.NotAllowed (add_looking s c a numbers)) (may-list-is ∙ e)

  passes-all : Checks a paths → (names_nobody a || may_list_items rights who a (rights_named a.names) (items_of documents who a (named_app a) (paths_of a paths a.handles))) ≡ true →
      (numbers : List DocId) → add s c a numbers ≡ add_looking s c a numbers
  passes-all k e numbers =
      to-rights k numbers ∙ ap (λ (b : Bool). walk_unless (not b) Code.NotAllowed (add_looking s c a numbers)) (may-list-is ∙ e)

  -- the documents stay as files leave the queue
  documents-taken : (taken_from_queue c a s).documents ≡ documents
  documents-taken = by-test (are_presented c.queue a)
    where
      by-test : (b : Bool) → (cond b (with_queue c.seat (drop a.fds) s) s).documents ≡ documents
      by-test true = asked.live
      by-test false = asked.live

  does-all : (numbers : List DocId) → added_files s c a numbers
      ≡ as_added (fold (follow_item c.who a (named_app a) (rights_named a.names)) (none_followed (taken_from_queue c a s) numbers) (items_of documents who a (named_app a) (paths_of a paths a.handles)))
  does-all numbers =
      ap (add_files c.who a (taken_from_queue c a s) numbers) (paths-are s c a documents rights who paths asked)
      ∙ (files-followed c.who a documents (taken_from_queue c a s) numbers (paths_of a paths a.handles) documents-taken
      ∙ ap (λ (w : Who). as_added (fold (follow_item c.who a (named_app a) (rights_named a.names)) (none_followed (taken_from_queue c a s) numbers) (items_of documents w a (named_app a) (paths_of a paths a.handles)))) asked.caller)

  pub plan-is : (plan : AddPlan) → Checks a paths → (names_nobody a || may_list_items rights who a (rights_named a.names) (items_of documents who a (named_app a) (paths_of a paths a.handles))) ≡ true →
      plan.items ≡ items_of documents who a (named_app a) (paths_of a paths a.handles) → plan.app ≡ named_app a → plan.listed ≡ rights_named a.names → IsPlan s c a plan
  plan-is plan k e items app listed = record {
    passes = passes-all k e;
    paths = ap (λ (l : List PlanItem). map (λ item. item.path) l) items ∙ (items-paths documents who a (named_app a) (paths_of a paths a.handles) [] ∙ sym (paths-are s c a documents rights who paths asked));
    does = λ numbers. does-all numbers ∙ sym (λ i. as_added (fold (follow_item c.who a (app i) (listed i)) (none_followed (taken_from_queue c a s) numbers) (items i)));
  }

-- what the plan tells besides
pub call-is : (documents : List Document) (who : Who) (a : AddRequest) (paths : List (List ℕ)) (plan : AddPlan) →
    plan.items ≡ items_of documents who a (named_app a) paths → plan.app ≡ named_app a → plan.listed ≡ rights_named a.names → plan.used ≡ count_by (λ item. is_new item.place) plan.items → IsOfCall who a plan
call-is documents who a paths plan items app listed used = record {
  app = app;
  listed = listed;
  own = subst (λ (l : List PlanItem). map (λ item. item.own) l ≡ map (λ item. own_of who a item.place) l) (sym items) (items-own documents who a (named_app a) paths [] refl);
  earlier = subst (λ (l : List PlanItem). NameNewOnes (map (λ item. item.place) l)) (sym items) (names-new-ones documents who a (named_app a) paths);
  used = used;
}

-- ---- what the code says

nobody-is : (a : AddRequest) → not (is_some (named_app a)) ≡ names_nobody a
nobody-is a = by-name (names_nobody a)
  where
    by-name : (b : Bool) → not (is_some (cond b None (Some a.app))) ≡ b
    by-name true = refl
    by-name false = refl

pub items-seen : (documents : List Document) (who : Who) (a : AddRequest) (app : Option (List ℕ)) (slice paths : List (List ℕ)) (items : List PlanItem) →
    app ≡ named_app a → slice ≡ paths → items ≡ items_of documents who a app (paths_of a slice a.handles) → items ≡ items_of documents who a (named_app a) (paths_of a paths a.handles)
items-seen documents who a app slice paths items e f g = g ∙ (λ i. items_of documents who a (e i) (paths_of a (f i) a.handles))

pub list-seen : (rights : List Triple) (who : Who) (a : AddRequest) (app : Option (List ℕ)) (listed : RightSet) (slice items of : List PlanItem) (answer : Bool) →
    app ≡ named_app a → listed ≡ rights_named a.names → slice ≡ items → items ≡ of → answer ≡ (not (is_some app) || may_list_items rights who a listed slice) →
    (names_nobody a || may_list_items rights who a (rights_named a.names) of) ≡ answer
list-seen rights who a app listed slice items of answer e f g h k =
    sym (k ∙ ((λ i. not (is_some (e i)) || may_list_items rights who a (f i) ((g ∙ h) i))
    ∙ ap (λ (b : Bool). b || may_list_items rights who a (rights_named a.names) of) (nobody-is a)))

pub joined-seen : (a : AddRequest) (slice paths : List (List ℕ)) → slice ≡ paths → list_all (is_joined_well a) (presented_of slice a.handles) ≡ true → list_all (is_joined_well a) (presented_of paths a.handles) ≡ true
joined-seen a slice paths e h = subst (λ (l : List (List ℕ)). list_all (is_joined_well a) (presented_of l a.handles) ≡ true) e h

-- ---- refusals of arguments

and-false : (b : Bool) → (b && false) ≡ false
and-false true = refl
and-false false = refl

module _ (s : State) (c : Connection) (a : AddRequest) (documents : List Document) (rights : List Triple) (who : Who) (paths : List (List ℕ)) (below : are_below (length paths) a.handles ≡ true) (asked : IsAsked s c a documents rights who paths) (numbers : List DocId) where
  pub joined-fails : (slice : List (List ℕ)) → slice ≡ paths → (error : AddError) → FailsCheck (list_all (is_joined_well a) (presented_of slice a.handles)) error → IsRefused (add s c a numbers) error
  joined-fails slice e InvalidArgument k =
      refused-argument s c a documents rights who paths asked below numbers
      (inr (inr (inr (ap (λ (b : Bool). has_file_name a && b) (subst (λ (l : List (List ℕ)). list_all (is_joined_well a) (presented_of l a.handles) ≡ false) e k) ∙ and-false (has_file_name a)))))
  joined-fails slice e NotAllowed k = absurd k
  joined-fails slice e Memory k = tt
