-- An Add of the application itself: its own machine comes to the same in its view, and what its trace tells is what
-- the machine needs.
use Rattle.std.proofs.Common.{◌≡◌, ℕ, ◌≤◌, length, List, [], ◌∷◌, fold, map, take, Bool, true, false, not, ◌&&◌, ◌||◌, cond, Option, Some, None, refl, sym, ap, ◌∙◌, subst, arith}
use Rattle.std.specs.List.{flat_map, list_all}
use Rattle.std.specs.Option.{option_map}
use Rattle.std.proofs.lemmas.List.{append-nil}
use Rattle.portal_base.specs.Names.{child_of, is_same}
use Rattle.portal_base.specs.declared.files.Look.{Look}
use Rattle.portal_base.specs.declared.names.doc_id.DocId.{DocId}
use Rattle.portal_base.specs.declared.who.Who.{Who}
use Rattle.rights_rule.specs.Rights.{RightSet, contains, rights_named}
use Rattle.portal_model.specs.declared.reply.Answer.{Answer}
use Rattle.portal_model.specs.declared.reply.Code.{Code}
use Rattle.portal_model.specs.declared.request.AddRequest.{AddRequest}
use Rattle.portal_model.specs.declared.state.Connection.{Connection}
use Rattle.portal_model.specs.Add.{add, add_allowed, add_looking, add_presented, add_shown, added, added_files, are_of_kind, may_list, may_list_all, rights_then, used_again}
use Rattle.portal_model.specs.AddArguments.{are_add_arguments, are_presented, document_path, document_paths, is_left_out, names_nobody, paths_looked_at, paths_presented, paths_shown}
use Rattle.portal_model.specs.Arguments.{ahead_of_end}
use Rattle.portal_model.specs.State.{State, held_in, held_of}
use Rattle.portal_model.specs.Verdict.{Verdict, unless, walk_unless}
use Rattle.portal_model.specs.Walk.{Walk, looks_at_all, walked}
use Rattle.portal_model.proofs.ListLookups.{is_same-refl}
use Rattle.app_world.specs.Add.{OwnAdded, content_shown, names_app, own_add, own_add_allowed, own_add_file, own_add_presented, own_add_shown, own_added, own_added_files, own_files, own_may_list_all, own_taken_from_queue, own_walk_unless, reused_of}
use Rattle.app_world.specs.Own.{Own}
use Rattle.app_world.specs.OwnVerdict.{OwnVerdict, OwnDoes, own_unless}
use Rattle.app_world.specs.View.{Holding, OwnConnection, is_among, own_connection, view}
use Rattle.app_world.proofs.AddCallLaws.{begun, may_list-own, taken-facts, taken-keeps, taken-own}
use Rattle.app_world.proofs.AddLaws.{Facts, Free}
use Rattle.app_world.proofs.AddOwnLaws.{AreRead, Same, files-own, holds_for, then_held}
use Rattle.app_world.proofs.BusLaws.{limited}
use Rattle.app_world.proofs.ReachedLaws.{seen_verdict}
use Rattle.app_world.proofs.ViewLaws.{among-joined}

-- ---- walks

none-taken : (looks : List Look) → [] ≡ take 0 looks
none-taken [] = refl
none-taken (look ∷ looks) = refl

-- both come to the same, but for what g tells apart
module _ (app : List ℕ) (g : OwnVerdict → OwnVerdict) where
  abbrev AreSame : Option OwnVerdict → Option Verdict → Type 0
  AreSame own verdict = option_map g own ≡ option_map g (option_map (seen_verdict app) verdict)

  -- checks in their order
  seen-check : (fine : Bool) (code : Code) (own : Walk OwnVerdict) (walk : Walk Verdict) (now : ℕ) (looks : List Look) (failed : Bool) →
      (fine ≡ true → walked (walk_unless (not fine) code walk) now looks failed ≡ walked walk now looks failed → AreSame (walked own now looks failed) (walked walk now looks failed)) →
      AreSame (walked (own_walk_unless (not fine) code own) now looks failed) (walked (walk_unless (not fine) code walk) now looks failed)
  seen-check true code own walk now looks failed h = h refl refl
  seen-check false code own walk now looks failed h = refl

  -- what comes behind the looks is the same where all of them succeeded
  seen-walk : (paths : List (List ℕ)) (own : List Look → Walk OwnVerdict) (next : List Look → Walk Verdict) (now : ℕ) (looks : List Look) (failed : Bool) →
      (length paths ≤ length looks → (all : List Look) → all ≡ take (length paths) looks → (now2 : ℕ) (more : List Look) (failed2 : Bool) → walked (looks_at_all paths next) now looks failed ≡ walked (next all) now2 more failed2 → AreSame (walked (own all) now2 more failed2) (walked (next all) now2 more failed2)) →
      AreSame (walked (looks_at_all paths own) now looks failed) (walked (looks_at_all paths next) now looks failed)
  seen-walk [] own next now looks failed h = h (omega arith) [] (none-taken looks) now looks failed refl
  seen-walk (path ∷ paths) own next now [] failed h = refl
  seen-walk (path ∷ paths) own next now (look ∷ looks) failed h =
      seen-walk paths (λ more. own (look ∷ more)) (λ more. next (look ∷ more)) now looks failed (λ e all k. h (grind arith) (look ∷ all) (ap (λ (xs : List Look). look ∷ xs) k))

  seen-kind : (fine : Bool) (code : Code) (own : OwnVerdict) (verdict : Verdict) → (fine ≡ true → g own ≡ g (seen_verdict app verdict)) → AreSame (Some (own_unless (not fine) code own)) (Some (unless (not fine) code verdict))
  seen-kind true code own verdict h = ap Some (h refl)
  seen-kind false code own verdict h = refl

-- ---- what is read of each file

or-left : (a b : Bool) → a ≡ true → (a || b) ≡ true
or-left true b e = refl
or-left false b e = cc

or-right : (a b : Bool) → b ≡ true → (a || b) ≡ true
or-right true b e = refl
or-right false b e = e

and-left : (a b : Bool) → (a && b) ≡ true → a ≡ true
and-left true b e = refl
and-left false b e = cc

and-right : (a b : Bool) → (a && b) ≡ true → b ≡ true
and-right true b e = e
and-right false b e = cc

-- the path of a document is one of those that the tree is asked for
looked-at : (a : AddRequest) (path : List ℕ) → is_among (paths_looked_at a path) (document_path a path) ≡ true
looked-at a path = by_form a.named
  where
    by_form : (b : Bool) → is_among (cond b (path ∷ cond b (child_of path (ahead_of_end a.name)) path ∷ []) (path ∷ [])) (cond b (child_of path (ahead_of_end a.name)) path) ≡ true
    by_form true =
        or-right (is_same path (child_of path (ahead_of_end a.name))) _ (or-left (is_same (child_of path (ahead_of_end a.name)) (child_of path (ahead_of_end a.name))) false (is_same-refl (child_of path (ahead_of_end a.name))))
    by_form false = or-left (is_same path path) false (is_same-refl path)

module _ (app : List ℕ) (s : State) (a : AddRequest) (content : List ℕ → Holding) where
  then-same : (again : Option DocId) → rights_then s.rights app a again ≡ then_held (held_of s.rights app) a again
  then-same None = refl
  then-same (Some id) = refl

  one-listed : (path : List ℕ) (left : Bool) → is_left_out a path ≡ left → may_list s (Who.App app) a path ≡ true → is_left_out a path ≡ false → contains (then_held (held_of s.rights app) a (used_again s.documents a path)) (rights_named a.names) ≡ true
  one-listed path true e h g = absurd (true-false (sym e ∙ g))
    where
      true-false : true ≡ false → ⊥
      true-false x = cc
  one-listed path false e h g =
      ap (λ k. contains k (rights_named a.names)) (sym (then-same (used_again s.documents a path)))
      ∙ (ap (λ (b : Bool). b || contains (rights_then s.rights app a (used_again s.documents a path)) (rights_named a.names)) (sym e) ∙ h)

  pub read-all : (ps : List (List ℕ)) → (names_app app a ≡ true → list_all (may_list s (Who.App app) a) (map (document_path a) ps) ≡ true) →
      ((path : List ℕ) → is_among (flat_map (paths_looked_at a) ps) path ≡ true → content path ≡ holds_for a s.files path) →
      AreRead app a s.documents (held_of s.rights app) (held_in s) content (map (document_path a) ps)
  read-all [] l r = tt
  read-all (p ∷ ps) l r = (
    (
      λ g n. one-listed (document_path a p) (is_left_out a (document_path a p)) refl (and-left (may_list s (Who.App app) a (document_path a p)) _ (l n)) g,
      r (document_path a p) (among-joined (paths_looked_at a p) (flat_map (paths_looked_at a) ps) (document_path a p) ∙ or-left _ _ (looked-at a p)),
    ),
    read-all ps (λ n. and-right (may_list s (Who.App app) a (document_path a p)) _ (l n)) (λ path h.
        r path (among-joined (paths_looked_at a p) (flat_map (paths_looked_at a) ps) path ∙ or-right _ _ h)),
  )

  some-named : names_app app a ≡ true → names_nobody a ≡ false
  some-named e = grind arith

  all-listed : (paths : List (List ℕ)) → may_list_all s (Who.App app) a paths ≡ true → names_app app a ≡ true → list_all (may_list s (Who.App app) a) paths ≡ true
  all-listed paths h n = ap (λ (b : Bool). b || list_all (may_list s (Who.App app) a) paths) (sym (some-named n)) ∙ h

-- ---- the call

contains-itself : (k : RightSet) → contains k k ≡ true
contains-itself k = grind arith

-- what the trace tells of the files, and of their contents where all looks succeeded
pub record IsTold (s : State) (c : Connection) (a : AddRequest) (own : Own) (looks : List Look) : Type 0 where
  pub files : are_presented c.queue a ≡ true → are_add_arguments c.queue a ≡ true → own_files a (document_paths c.queue a) own.reused ≡ own_files a (document_paths c.queue a) (reused_of s.documents a (document_paths c.queue a))
  pub contents : length (paths_shown c.queue a) ≤ length looks → are_add_arguments c.queue a ≡ true → are_of_kind a (paths_shown c.queue a) (take (length (paths_shown c.queue a)) looks) ≡ true →
      (path : List ℕ) → is_among (paths_shown c.queue a) path ≡ true → content_shown (paths_shown c.queue a) own.shown path ≡ holds_for a s.files path

module _ (app : List ℕ) (s : State) (c0 : Connection) (a : AddRequest) (own : Own) (f : Facts app s) where
  -- the connection is the application's
  abbrev c : Connection
  c = record c0 { who = Who.App app }

  abbrev o : OwnConnection
  o = own_connection app s.handles c

  abbrev content : List ℕ → Holding
  content path = content_shown (paths_shown c.queue a) own.shown path

  abbrev made : OwnAdded
  made = record { view = own_taken_from_queue o a (view s app); numbers = own.numbers; ids = []; made = [] }

  same-begun : Same app a s.documents (held_of s.rights app) (held_in s) content (begun s c a own.numbers) made
  same-begun = record {
    seen = taken-own app c a s;
    numbers = refl;
    ids = refl;
    documents = taken-keeps (λ t. t.documents) c a s refl ∙ sym (append-nil s.documents);
    tree_is = taken-keeps held_in c a s refl;
    grows = λ n. ap (λ k. contains k (held_of s.rights app n)) (taken-keeps (λ t. held_of t.rights app n) c a s refl) ∙ contains-itself (held_of s.rights app n);
    facts = taken-facts app c a s f;
  }

  added-same : (looks : List Look) → IsTold s c0 a own looks → Free (Who.App app) a (begun s c a own.numbers) (document_paths c.queue a) → are_presented c.queue a ≡ true → are_add_arguments c.queue a ≡ true →
      may_list_all s (Who.App app) a (document_paths c.queue a) ≡ true → length (paths_shown c.queue a) ≤ length looks → are_of_kind a (paths_shown c.queue a) (take (length (paths_shown c.queue a)) looks) ≡ true →
      own_added (own_added_files (view s app) o a own) ≡ seen_verdict app (added s (added_files s c a own.numbers))
  added-same looks t n p g l e k =
      let r : AreRead app a s.documents (held_of s.rights app) (held_in s) content (document_paths c.queue a) =
      read-all app s a content (paths_presented c.queue a) (all-listed app s a content (document_paths c.queue a) l) (t.contents e g k) in
      let m = files-own app a s.documents (held_of s.rights app) (held_in s) content (document_paths c.queue a) (begun s c a own.numbers) made same-begun n r in
      ap (λ fs. own_added (fold (own_add_file a content) made fs)) (t.files p g) ∙ (λ i. OwnDoes (m.seen i) (Answer.Ids (m.ids i)))

  -- it is done: all checks pass
  abbrev IsAdded : ℕ → List Look → Bool → Type 0
  IsAdded now looks failed = walked (add s c a own.numbers) now looks failed ≡ Some (added s (added_files s c a own.numbers))

  own-called : (g : OwnVerdict → OwnVerdict) (now : ℕ) (looks : List Look) (failed : Bool) → IsTold s c0 a own looks →
      (are_presented c.queue a ≡ true → are_add_arguments c.queue a ≡ true → may_list_all s (Who.App app) a (document_paths c.queue a) ≡ true → length (paths_shown c.queue a) ≤ length looks → are_of_kind a (paths_shown c.queue a) (take (length (paths_shown c.queue a)) looks) ≡ true → IsAdded now looks failed →
      g (own_added (own_added_files (view s app) o a own)) ≡ g (seen_verdict app (added s (added_files s c a own.numbers)))) →
      option_map g (walked (own_add (view s app) o a own) now looks failed) ≡ option_map g (option_map (seen_verdict app) (walked (add s c a own.numbers) now looks failed))
  own-called g now looks failed t same =
      seen-check app g (are_presented c.queue a) Code.InvalidArgs (own_add_presented (view s app) o a own) (add_presented s c a own.numbers) now looks failed (λ p i.
      seen-check app g (are_add_arguments c.queue a) Code.InvalidArgument (own_add_allowed (view s app) o a own) (add_allowed s c a own.numbers) now looks failed (λ q j.
      ap (λ (b : Bool). option_map g (walked (own_walk_unless (not b) Code.NotAllowed (looks_at_all (paths_shown c.queue a) (own_add_shown (view s app) o a own))) now looks failed))
      (ap (own_may_list_all (view s app) a) (t.files p q) ∙ may_list-own app s a f (document_paths c.queue a))
      ∙ seen-check app g (may_list_all s (Who.App app) a (document_paths c.queue a)) Code.NotAllowed (looks_at_all (paths_shown c.queue a) (own_add_shown (view s app) o a own)) (add_looking s c a own.numbers) now looks failed (λ l k.
      seen-walk app g (paths_shown c.queue a) (own_add_shown (view s app) o a own) (add_shown s c a own.numbers) now looks failed (λ e all w now2 more failed2 m.
      seen-kind app g (are_of_kind a (paths_shown c.queue a) all) Code.InvalidArgument (own_added (own_added_files (view s app) o a own)) (added s (added_files s c a own.numbers)) (λ n.
      same p q l e (ap (are_of_kind a (paths_shown c.queue a)) (sym w) ∙ n) (i ∙ (j ∙ (k ∙ (m ∙ ap (λ (b : Bool). Some (unless (not b) Code.InvalidArgument (added s (added_files s c a own.numbers)))) n)))))))))

  by_limit : (full : Bool) (now : ℕ) (looks : List Look) (failed : Bool) → IsTold s c0 a own looks → (full ≡ false → IsAdded now looks failed → Free (Who.App app) a (begun s c a own.numbers) (document_paths c.queue a)) →
      option_map (limited full) (walked (own_add (view s app) o a own) now looks failed) ≡ option_map (limited full) (option_map (seen_verdict app) (walked (add s c a own.numbers) now looks failed))
  by_limit true now looks failed t n = own-called (limited true) now looks failed t (λ p q l e k w. refl)
  by_limit false now looks failed t n = own-called (limited false) now looks failed t (λ p q l e k w. added-same looks t (n refl w) p q l e k)

-- where a caller is the application
abbrev IsOwn : List ℕ → State → Connection → AddRequest → Own → Bool → ℕ → List Look → Bool → Who → Type 0
IsOwn app s c a own full now looks failed who =
    let x : Connection = record c { who = who } in
    (full ≡ false → walked (add s x a own.numbers) now looks failed ≡ Some (added s (added_files s x a own.numbers)) → Free who a (begun s x a own.numbers) (document_paths c.queue a)) →
    option_map (limited full) (walked (own_add (view s app) (own_connection app s.handles c) a own) now looks failed) ≡ option_map (limited full) (option_map (seen_verdict app) (walked (add s x a own.numbers) now looks failed))

-- The application's own Add comes to the same in its view, where its trace tells what it is to tell: at a limit of
-- documents it is refused, whatever it would have come to; and where it is done its numbers have to be free.
pub add-own : (app : List ℕ) (s : State) (c : Connection) (a : AddRequest) (own : Own) → Facts app s → c.who ≡ Who.App app → (full : Bool) (now : ℕ) (looks : List Look) (failed : Bool) → IsTold s c a own looks →
    IsOwn app s c a own full now looks failed c.who
add-own app s c a own f named full now looks failed t = subst (IsOwn app s c a own full now looks failed) (sym named) (by_limit app s c a own f full now looks failed t)
