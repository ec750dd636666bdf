-- An Add whose presented files or arguments are not in order is refused ahead of all looks; the plan of one of the host
-- tells whether they are.
use Rattle.std.proofs.Common.{◌≡◌, ◌+◌, ℕ, List, [], ◌∷◌, length, take, Bool, true, false, not, ◌&&◌, ◌||◌, cond, Option, refl, sym, ap, ◌∙◌}
use Rattle.std.specs.List.{list_all}
use Rattle.file_generations.specs.Generations.{Held}
use Rattle.portal_base.specs.declared.names.doc_id.DocId.{DocId}
use Rattle.portal_base.specs.declared.who.Kind.{Kind}
use Rattle.portal_base.specs.declared.who.Who.{Who}
use Rattle.portal_model.specs.declared.entry.Given.{Given}
use Rattle.portal_model.specs.declared.reply.Code.{Code}
use Rattle.portal_model.specs.declared.request.AddRequest.{AddRequest}
use Rattle.portal_model.specs.declared.request.Request.{Request}
use Rattle.portal_model.specs.declared.state.Connection.{Connection}
use Rattle.portal_model.specs.declared.state.Document.{Document}
use Rattle.portal_model.specs.declared.state.Triple.{Triple}
use Rattle.portal_model.specs.Add.{add, add_allowed, add_looking, add_shown, added, added_files, are_of_kind, may_list, may_list_all}
use Rattle.portal_model.specs.AddArguments.{are_add_arguments, are_presented, document_paths, exports, names_nobody, paths_shown}
use Rattle.portal_model.specs.Bus.{bus_answer, is_tree, settled, moment_given}
use Rattle.portal_model.specs.Outside.{LawfulBus, files_told}
use Rattle.portal_model.specs.State.{State}
use Rattle.portal_model.specs.Verdict.{Verdict, Refuses, Does, refuses, unless, walk_unless}
use Rattle.portal_model.specs.Walk.{Walk, Answers, Looks, Ends, Lists, Gives, looks_at_all, walked}
use Rattle.add_files.specs.Plans.{IsAsked, IsOfCall, IsPlan, IsRefused}
use Rattle.add_files.specs.declared.plan.AddError.{AddError}
use Rattle.add_files.specs.declared.plan.AddError.TheVariants.{InvalidArgument, NotAllowed, Memory}
use Rattle.add_files.specs.declared.plan.AddPlan.{AddPlan}
use Rattle.app_world.specs.Add.{asked}
use Rattle.app_world.specs.Touched.{is_done}
use Rattle.trace_items.specs.OwnAdds.{IsPlanned, is_in_order}
use Rattle.trace_items.specs.Touches.{shown_in}
use Rattle.trace_items.proofs.OwnAddLaws.{there}

true-false : true ≡ false → ⊥
true-false e = cc

-- ---- an Add of the host

abbrev is_refused : Walk Verdict → Bool
is_refused (Answers (Refuses code)) = true
is_refused (Answers (Does d)) = false
is_refused (Looks target next) = false
is_refused (Ends call done missing) = false
is_refused (Lists path done missing) = false

module _ (s : State) (c : Connection) (a : AddRequest) (numbers : List DocId) where
  none-of-kind : are_of_kind a [] [] ≡ true
  none-of-kind = by_form a.named (exports a)
    where
      by_form : (named folder : Bool) → cond named true (cond folder true true) ≡ true
      by_form true folder = refl
      by_form false true = refl
      by_form false false = refl

  looking-by : (paths : List (List ℕ)) → paths_shown c.queue a ≡ paths → is_refused (looks_at_all paths (add_shown s c a numbers)) ≡ false
  looking-by [] e =
      ap (λ (b : Bool). is_refused (Answers (unless (not b) Code.InvalidArgument (added s (added_files s c a numbers)))))
      (ap (λ (ps : List (List ℕ)). are_of_kind a ps []) e ∙ none-of-kind)
  looking-by (path ∷ paths) e = refl

  -- the tree is asked, or it is done
  looking-on : is_refused (add_looking s c a numbers) ≡ false
  looking-on = looking-by (paths_shown c.queue a) refl

  host-lists : (paths : List (List ℕ)) → c.who ≡ Who.Host → may_list_all s c.who a paths ≡ true
  host-lists paths e = ap (λ (who : Who). may_list_all s who a paths) e ∙ (ap (λ (b : Bool). names_nobody a || b) (all paths) ∙ or-true (names_nobody a))
    where
      all : (ps : List (List ℕ)) → list_all (may_list s Who.Host a) ps ≡ true
      all [] = refl
      all (p ∷ ps) = all ps

      or-true : (b : Bool) → (b || true) ≡ true
      or-true true = refl
      or-true false = refl

  by-order : (p q m : Bool) → m ≡ true → is_refused (walk_unless (not p) Code.InvalidArgs (walk_unless (not q) Code.InvalidArgument (walk_unless (not m) Code.NotAllowed (add_looking s c a numbers)))) ≡ not (p && q)
  by-order true true true e = looking-on
  by-order true false m e = refl
  by-order false q m e = refl
  by-order true true false e = absurd (true-false (sym e))

  -- it is refused ahead of the looks exactly where something is not in order
  pub host-refused : c.who ≡ Who.Host → is_refused (add s c a numbers) ≡ not (is_in_order c.queue a)
  host-refused e = by-order (are_presented c.queue a) (are_add_arguments c.queue a) (may_list_all s c.who a (document_paths c.queue a)) (host-lists (document_paths c.queue a) e)

  twice-not : (b : Bool) → not b ≡ false → b ≡ true
  twice-not true e = refl
  twice-not false e = cc

  not-true : (b : Bool) → true ≡ not b → b ≡ false
  not-true true e = cc
  not-true false e = refl

  pub passed-order : c.who ≡ Who.Host → add s c a numbers ≡ add_looking s c a numbers → is_in_order c.queue a ≡ true
  passed-order e h = twice-not (is_in_order c.queue a) (sym (host-refused e) ∙ (ap is_refused h ∙ looking-on))

  pub refused-order : (code : Code) → c.who ≡ Who.Host → add s c a numbers ≡ refuses code → is_in_order c.queue a ≡ false
  refused-order code e h = not-true (is_in_order c.queue a) (sym (ap is_refused h) ∙ host-refused e)

-- ---- a state and a connection in which the plan is made

abbrev pub host_with : List (List ℕ) → Connection
host_with queue = record { seat = 0; who = Who.Host; kind = Kind.Bus; queue = queue; opens = 0; unsent = []; namings = []; temps = []; added = 0 }

-- ---- where something is not in order

module _ (s : State) (c : Connection) (a : AddRequest) (given : Given) where
  -- it isn't done
  done-by : (p q : Bool) (w : Walk Verdict) (refused : State) →
      is_done (settled s refused given (walked (walk_unless (not p) Code.InvalidArgs (walk_unless (not q) Code.InvalidArgument w)) (moment_given given.now) given.looks (is_tree given.fault))).1 ≡ true → (p && q) ≡ true
  done-by true true w refused e = refl
  done-by true false w refused e = cc
  done-by false q w refused e = cc

  pub done-order : is_done (bus_answer s c (Request.Add a) given).1 ≡ true → is_in_order c.queue a ≡ true
  done-order e = done-by (are_presented c.queue a) (are_add_arguments c.queue a) (add_allowed s c a given.numbers) _ e

  none-asked : given.looks ≡ [] → is_tree given.fault ≡ false → asked given ≡ 0
  none-asked e f = λ i. length (e i) + cond (f i) 1 0

  gives-by : (tree : Option Held) (p q : Bool) (w : Walk Verdict) →
      Gives tree (walk_unless (not p) Code.InvalidArgs (walk_unless (not q) Code.InvalidArgument w)) given.looks (is_tree given.fault) → (p && q) ≡ false → asked given ≡ 0
  gives-by tree true true w g e = cc
  gives-by tree true false w g e = none-asked g.0 g.1
  gives-by tree false q w g e = none-asked g.0 g.1

  -- and nothing was asked
  pub asked-none : LawfulBus s c (Request.Add a) given → is_in_order c.queue a ≡ false → asked given ≡ 0
  asked-none l e = gives-by (files_told s) (are_presented c.queue a) (are_add_arguments c.queue a) (add_allowed s c a given.numbers) l.looks e

-- ---- the plan of an addition of the host

module _ (documents : List Document) (rights : List Triple) (queue : List (List ℕ)) (a : AddRequest) (presented : are_presented queue a ≡ true) (taken : List (List ℕ)) (t : take a.fds queue ≡ taken) where
  asked-here : IsAsked (shown_in documents rights []) (host_with queue) a documents rights Who.Host taken
  asked-here = record { live = refl; held = refl; caller = refl; there = there queue a presented; taken = t }

  pub planned-is : (plan : AddPlan) → IsOfCall Who.Host a plan → ((s : State) (c : Connection) → IsAsked s c a documents rights Who.Host taken → IsPlan s c a plan) → IsPlanned queue a plan
  planned-is plan call ok =
      let p : IsPlan (shown_in documents rights []) (host_with queue) a plan = ok (shown_in documents rights []) (host_with queue) asked-here in
      record {
        order = passed-order (shown_in documents rights []) (host_with queue) a [] refl (p.passes []);
        app = call.app;
        listed = call.listed;
        paths = p.paths;
      }

  abbrev Refused : AddError → Type 0
  Refused error = (s : State) (c : Connection) → IsAsked s c a documents rights Who.Host taken → (numbers : List DocId) → IsRefused (add s c a numbers) error

  pub not-planned : (error : AddError) → Refused error → (error ≡ InvalidArgument → ⊥) → (error ≡ NotAllowed → ⊥) → error ≡ Memory
  not-planned InvalidArgument r f g = absurd (f refl)
  not-planned NotAllowed r f g = absurd (g refl)
  not-planned Memory r f g = refl

  pub invalid-order : Refused InvalidArgument → is_in_order queue a ≡ false
  invalid-order r = refused-order (shown_in documents rights []) (host_with queue) a [] Code.InvalidArgument refl (r (shown_in documents rights []) (host_with queue) asked-here [])

  pub foreign-order : Refused NotAllowed → is_in_order queue a ≡ false
  foreign-order r = refused-order (shown_in documents rights []) (host_with queue) a [] Code.NotAllowed refl (r (shown_in documents rights []) (host_with queue) asked-here [])

pub unpresented : (queue : List (List ℕ)) (a : AddRequest) → are_presented queue a ≡ false → is_in_order queue a ≡ false
unpresented queue a e = ap (λ (b : Bool). b && are_add_arguments queue a) e
