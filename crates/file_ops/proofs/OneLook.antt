-- A request for which the tree was asked once.
use Rattle.std.proofs.Common.{◌≡◌, ℕ, List, [], ◌∷◌, Bool, true, false, Option, Some, None, refl, sym, ap, subst, arith, ◌∙◌}
use Rattle.std.specs.Option.{option_map}
use Rattle.file_generations.specs.Generations.{Held}
use Rattle.portal_base.specs.declared.files.Look.{Look}
use Rattle.host_tree.specs.Trees.{Asks, TreeIs, after_call, is_look_fault, Looks as Answered}
use Rattle.host_tree.specs.declared.tree.LookAnswer.{LookAnswer}
use Rattle.host_tree.specs.declared.tree.TreeCall.{TreeCall}
use Rattle.host_tree.specs.declared.tree.TreeCall.TheVariants as call
use Rattle.host_tree.specs.declared.tree.LookAnswer.TheVariants as look
use Rattle.open_handles.specs.Opened.{HandleTable}
use Rattle.portal_model.specs.declared.reply.Answer.{Answer}
use Rattle.portal_model.specs.declared.request.NodeOp.{NodeOp}
use Rattle.portal_model.specs.Bus.{is_tree}
use Rattle.portal_model.specs.Errno.{enoent, enotdir}
use Rattle.portal_model.specs.Node.{files_after}
use Rattle.portal_model.specs.NodeVerdict.{FileChange, FilesStay, HandleChange, HandlesStay, NodeVerdict, Errs, OnFile, Spot, Yields, at_file, by_look, errs_on_file, if_file, no_file}
use Rattle.portal_model.specs.Place.{Folder}
use Rattle.portal_model.specs.Walk.{Answers, AtPath, Ends, Gives, GivesNames, IsShown, Lists, Looks, Target, Walk, generation_reached, reads_clock, walked_with}
use Rattle.node_looks.specs.Done.{DoneBy, IsAnswer, answer_of, done_with, file_change, handle_change}
use Rattle.node_looks.specs.OpenHandles.{Handled}
use Rattle.node_looks.specs.TreeCalls.{Calling, WasCalledUpTo, call_at, calls_of, unfailed, with_files}
use Rattle.node_looks.specs.Walks.{ComesTo, ComesToBehind}
use Rattle.node_looks.specs.declared.served.NodeDone.{NodeDone}
use Rattle.node_looks.proofs.DoneLemmas.{IsExact, handles-stay, same-answer, told-still}
use Rattle.file_ops.specs.Tries.{ShowsAt, done_after}
use Rattle.file_ops.proofs.Tries.{more-calls, shows-path}

-- ---- the call

pub asked-once : {kind : TreeCall} (old : TreeIs) (failed : Bool) (new : TreeIs) → Asks kind old failed new → Calling old ((kind, failed) ∷ []) new.told new
asked-once {kind} old failed new a = record {
  goes = a.goes ∙ sym (ap (with_files (after_call old kind failed old.told)) (ap (λ (t : TreeIs). t.told) a.goes));
  fails = (a.fails, tt);
}

-- a call that didn't fail
pub called-once : (old new : TreeIs) → Asks call.Look old false new → WasCalledUpTo 1 old new
called-once old new a = (call.Look ∷ [], subst (λ (files : Option Held). Calling old (unfailed call.Look ∷ []) files new) (ap (λ (t : TreeIs). t.told) a.goes) (asked-once old false new a), omega arith)

as-shown : (told : Option Held) (path : List ℕ) (shown : Look) → Answered told path (look.Is shown) → IsShown told (AtPath path) shown
as-shown None path shown h = tt
as-shown (Some held) path shown h = h

-- ---- what comes behind it

module _ (op : NodeOp) (exact : IsExact op) (seat : ℕ) (target : Target) (next : Look → Walk NodeVerdict) (answer : Answer) (table after : HandleTable) (old new : TreeIs) where
  pub looked-so : (shown : Look) (v : NodeVerdict) → next shown ≡ Answers v → Asks (call_at target) old false new → IsShown old.told target shown → file_change (Some v) ≡ FilesStay → answer ≡ answer_of (Some v) →
      Handled seat (handle_change (Some v)) table after → DoneBy (Looks target next) op seat table old (done_with (record { answer = answer; look = Some (look.Is shown) })) after new
  looked-so shown v e a l f g h = record {
    verdict = Some v;
    comes = record {
      gives = (l, subst (λ (w : Walk NodeVerdict). Gives old.told w [] false) (sym e) (refl, refl));
      lists = subst (λ (w : Walk NodeVerdict). GivesNames old.told w [] None false) (sym e) refl;
      clock = sym (ap (λ (w : Walk NodeVerdict). reads_clock w []) e);
      generation = sym (ap (λ (w : Walk NodeVerdict). generation_reached w []) e);
      keeper = λ k. cc;
      comes = ap (λ (w : Walk NodeVerdict). walked_with w 0 None [] false) e;
      answer = same-answer old.told op (answer_of (Some v)) answer exact g;
      files = ap (λ (t : TreeIs). t.told) a.goes ∙ sym (ap (λ (c : FileChange). option_map (files_after true c) old.told) f ∙ told-still old.told);
      calls = subst (λ (w : Walk NodeVerdict). Calling old (unfailed (call_at target) ∷ calls_of w [] false) new.told new) (sym e) (asked-once old false new a);
    };
    handled = h;
  }

  pub failed-so : Asks (call_at target) old true new → answer ≡ answer_of None → Handled seat HandlesStay table after → DoneBy (Looks target next) op seat table old (done_with (record { answer = answer; look = Some look.Failed })) after new
  failed-so a g h = record {
    verdict = None;
    comes = record {
      gives = refl;
      lists = refl;
      clock = refl;
      generation = refl;
      keeper = λ k. cc;
      comes = refl;
      answer = same-answer old.told op (answer_of None) answer exact g;
      files = ap (λ (t : TreeIs). t.told) a.goes ∙ sym (told-still old.told);
      calls = asked-once old true new a;
    };
    handled = h;
  }

-- the same at a path
module _ (op : NodeOp) (exact : IsExact op) (seat : ℕ) (path : List ℕ) (next : Look → Walk NodeVerdict) (answer : Answer) (table after : HandleTable) (old new : TreeIs) where
  pub looked-by : (shown : Look) (v : NodeVerdict) → next shown ≡ Answers v → Asks call.Look old false new → Answered old.told path (look.Is shown) → file_change (Some v) ≡ FilesStay → answer ≡ answer_of (Some v) →
      Handled seat (handle_change (Some v)) table after → DoneBy (Looks (AtPath path) next) op seat table old (done_with (record { answer = answer; look = Some (look.Is shown) })) after new
  looked-by shown v e a l f g h = looked-so op exact seat (AtPath path) next answer table after old new shown v e a (as-shown old.told path shown l) f g h

  pub failed-by : Asks call.Look old true new → answer ≡ answer_of None → Handled seat HandlesStay table after → DoneBy (Looks (AtPath path) next) op seat table old (done_with (record { answer = answer; look = Some look.Failed })) after new
  failed-by a g h = failed-so op exact seat (AtPath path) next answer table after old new a g h

-- ---- a file that is looked at, whose request changes nothing

module _ (op : NodeOp) (exact : IsExact op) (seat : ℕ) (target : Target) (next : OnFile) (answer : Answer) (table : HandleTable) (old new : TreeIs) where
  come-so : (shown : Look) (w : Walk NodeVerdict) → if_file next shown ≡ w → ComesTo w answer → Asks (call_at target) old false new → IsShown old.told target shown →
      DoneBy (Looks target (if_file next)) op seat table old (done_with (record { answer = answer; look = Some (look.Is shown) })) table new
  come-so shown (Answers (Errs errno)) e c a l = looked-so op exact seat target (if_file next) answer table table old new shown (Errs errno) e a l refl c (handles-stay seat table)
  come-so shown (Answers (Yields d)) e c a l = looked-so op exact seat target (if_file next) answer table table old new shown (Yields d) e a l c.0 c.2 (subst (λ (h : HandleChange). Handled seat h table table) (sym c.1) (handles-stay seat table))
  come-so shown (Looks other more) e c a l = absurd c
  come-so shown (Ends last done missing) e c a l = absurd c
  come-so shown (Lists there done missing) e c a l = absurd c

  pub behind-so : (look : LookAnswer) → ComesToBehind next look answer → Asks (call_at target) old (is_look_fault look) new → ShowsAt old.told target look →
      DoneBy (Looks target (if_file next)) op seat table old (done_with (record { answer = answer; look = Some look })) table new
  behind-so (look.Is shown) c a l = come-so shown (if_file next shown) refl c a l
  behind-so look.Failed c a l = failed-so op exact seat target (if_file next) answer table table old new a c (handles-stay seat table)

-- the same at a path
module _ (op : NodeOp) (exact : IsExact op) (seat : ℕ) (path : List ℕ) (next : OnFile) (answer : Answer) (table : HandleTable) (old new : TreeIs) where
  pub behind-by : (look : LookAnswer) → ComesToBehind next look answer → Asks call.Look old (is_look_fault look) new → Answered old.told path look → DoneBy (at_file path next) op seat table old (done_with (record { answer = answer; look = Some look })) table new
  behind-by l c a shows = behind-so op exact seat (AtPath path) next answer table old new l c a (shows-path old.told path l shows)

-- ---- where a look shows no folder

abbrev pub IsNoFolder : LookAnswer → Type 0
IsNoFolder (look.Is (Look.File generation size moment)) = Unit {0}
IsNoFolder (look.Is Look.Folder) = ⊥
IsNoFolder (look.Is Look.Missing) = Unit {0}
IsNoFolder look.Failed = Unit {0}

pub refused-first : (op : NodeOp) (exact : IsExact op) (seat view : ℕ) (at : Spot) (folder : Folder → Walk NodeVerdict) (answer : Answer) (table : HandleTable) (old new : TreeIs) (l : LookAnswer) → IsNoFolder l → Asks call.Look old (is_look_fault l) new → Answered old.told at.path l →
    ComesToBehind (errs_on_file enotdir) l answer → DoneBy (Looks (AtPath at.path) (by_look view at (no_file enotdir) folder)) op seat table old (done_with (record { answer = answer; look = Some l })) table new
refused-first op exact seat view at folder answer table old new (look.Is (Look.File g s m)) n a l c =
    looked-by op exact seat at.path (by_look view at (no_file enotdir) folder) answer table table old new (Look.File g s m) (Errs enotdir) refl a l refl c (handles-stay seat table)
refused-first op exact seat view at folder answer table old new (look.Is Look.Folder) n a l c = absurd n
refused-first op exact seat view at folder answer table old new (look.Is Look.Missing) n a l c =
    looked-by op exact seat at.path (by_look view at (no_file enotdir) folder) answer table table old new Look.Missing (Errs enoent) refl a l refl c (handles-stay seat table)
refused-first op exact seat view at folder answer table old new look.Failed n a l c =
    failed-by op exact seat at.path (by_look view at (no_file enotdir) folder) answer table table old new a c (handles-stay seat table)

-- ---- a look ahead of whatever comes behind it

pub looked-first : (op : NodeOp) (seat : ℕ) (path : List ℕ) (next : Look → Walk NodeVerdict) (shown : Look) (table after : HandleTable) (old mid new : TreeIs) (done : NodeDone) → Asks call.Look old false mid → Answered old.told path (look.Is shown) →
    DoneBy (next shown) op seat table mid done after new → DoneBy (Looks (AtPath path) next) op seat table old (done_after shown done) after new
looked-first op seat path next shown table after old mid new done a l d = record {
  verdict = d.verdict;
  comes = record {
    gives = (as-shown old.told path shown l, subst (λ (t : Option Held). Gives t (next shown) done.looks (is_tree done.fault)) stays d.comes.gives);
    lists = subst (λ (t : Option Held). GivesNames t (next shown) done.looks done.listed (is_tree done.fault)) stays d.comes.lists;
    clock = d.comes.clock;
    generation = d.comes.generation;
    keeper = d.comes.keeper;
    comes = d.comes.comes;
    answer = subst (λ (t : Option Held). IsAnswer t op (answer_of d.verdict) done.answer) stays d.comes.answer;
    files = d.comes.files ∙ ap (option_map (files_after true (file_change d.verdict))) stays;
    calls = more-calls old false mid _ new.told new a d.comes.calls;
  };
  handled = d.handled;
}
  where
    stays : mid.told ≡ old.told
    stays = ap (λ (t : TreeIs). t.told) a.goes
