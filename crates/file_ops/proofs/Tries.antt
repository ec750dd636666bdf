-- How a request that may change a file follows its walk.
use Rattle.std.proofs.Common.{◌≡◌, ◌+◌, ℕ, List, [], ◌∷◌, Bool, true, false, cond, Option, Some, None, is_some, refl, sym, ap, subst, ◌∙◌, IfSome, Result, Ok, Err, length, map, take, unwrap_or, not, nat_lt, ◌≤◌, arith, inl, inr}
use Rattle.std.specs.Option.{option_map}
use Rattle.std.proofs.lemmas.Bool.Decides.{nat_tests}
use Rattle.std.proofs.lemmas.Result.{on_err_weaker}
use Rattle.std.specs.List.{slice_set}
use Rattle.std.specs.Result.{IfOk, OnErr}
use Rattle.file_generations.specs.Generations.{Held, all_held}
use Rattle.portal_base.specs.Calls.{FailsAsTold}
use Rattle.portal_base.specs.Content.{file_named, is_named}
use Rattle.portal_base.specs.declared.files.File.{File}
use Rattle.portal_base.specs.declared.files.FileName.{FileName}
use Rattle.portal_base.specs.declared.files.Look.{Look}
use Rattle.portal_base.specs.declared.memory.WantOfMemory.{WantOfMemory}
use Rattle.portal_base.specs.declared.who.Who.{Who}
use Rattle.host_tree.specs.Trees.{Asks, Attrs, Changes as ChangesFiles, Looks as Shows, TreeIs, after_call, attributes_of, is_look_fault}
use Rattle.host_tree.specs.declared.tree.AttrAnswer.TheVariants as attr
use Rattle.host_tree.specs.declared.tree.LookAnswer.{LookAnswer}
use Rattle.host_tree.specs.declared.tree.TreeCall.{TreeCall}
use Rattle.host_tree.specs.declared.tree.LookAnswer.TheVariants as look
use Rattle.host_tree.specs.declared.tree.TreeDone.{TreeDone}
use Rattle.host_tree.specs.declared.tree.TreeDone.TheVariants as done
use Rattle.portal_model.specs.declared.reply.Answer.{Answer}
use Rattle.portal_model.specs.declared.reply.Code.TheVariants as Code
use Rattle.portal_model.specs.declared.reply.NodeAnswer.{NodeAnswer}
use Rattle.portal_model.specs.Attributes.{is_writable}
use Rattle.portal_model.specs.Bus.{is_tree, moment_given}
use Rattle.portal_model.specs.Errno.{eacces, ebadf, eio, enoent}
use Rattle.portal_model.specs.Node.{files_after}
use Rattle.portal_model.specs.NodeVerdict.{NodeVerdict, Errs, FileChange, FilesStay, HandleChange, HandlesStay, NamesStay, NodeDoing, OnFile, OnHandle, Spot, Yields, at_file, at_name, by_file_handle, by_place, changes, errs, errs_if, errs_on_file, if_file, tells, told}
use Rattle.portal_model.specs.declared.naming.Naming.{Naming}
use Rattle.portal_model.specs.declared.temporary.Temp.{Temp}
use Rattle.portal_model.specs.Place.{Folder, Sight, SightOfFolder, place_of, reach_at, sight_on}
use Rattle.portal_model.specs.Walk.{AtPath, Ends, Gives, GivesNames, IsFound, IsShown, LastCall, Looks, Named, Target, Walk, changes_file, generation_made, is_found, look_of_file}
use Rattle.app_view.specs.declared.book.ViewBook.{ViewBook}
use Rattle.node_looks.specs.TreeCalls.{Call, Calling, CallsAsTold, WasCalledOnce, WasCalledUpTo, after_calls, call_at, call_doing, unfailed, with_files}
use Rattle.open_handles.specs.Opened.{HandleTable, handle_of as handle_in, opened_on}
use Rattle.portal_model.specs.declared.handle.Handle.{Handle}
use Rattle.portal_model.specs.declared.request.NodeOp.{NodeOp}
use Rattle.portal_model.specs.Reach.{OpenFile, Reaching}
use Rattle.portal_model.specs.SetAttr.{SetsAttr, set_attr}
use Rattle.portal_model.specs.State.{State, handle_of}
use Rattle.portal_model.specs.Write.{write, write_content, write_open}
use Rattle.app_view.specs.Books.{Lends}
use Rattle.node_looks.specs.Walks.{ComesToBehind}
use Rattle.app_view.specs.declared.opened.Allowed.{Allowed}
use Rattle.app_view.specs.declared.opened.OpenFile.{OpenFile as FileLent}
use Rattle.node_looks.specs.declared.served.FileBook.{FileBook}
use Rattle.node_looks.specs.declared.served.NodeCall.{NodeCall}
use Rattle.node_looks.specs.Done.{Does, DoesAt, DoneBy, Wants, answer_of, file_change, handle_change}
use Rattle.app_view.specs.Opened.{IsAllowed, by_open_file, file_of}
use Rattle.node_looks.specs.OpenHandles.{Handled}
use Rattle.node_looks.proofs.DoneLemmas.{IsExact, done-in, handle-is, handles-stay, same-answer, walk-is}
use Rattle.node_looks.proofs.Follow.{seen-by-caller}
use Rattle.node_looks.specs.Sights.{sight_of}
use Rattle.file_ops.specs.Wanting.{calls_by}
use Rattle.file_ops.specs.Tries.{Goes, GoesBehind, ShowsAt, done_after, done_behind, done_of_ended, ended_by, ended_of, found_nothing, refuses, says, shown_behind, tree_done}
use Rattle.node_looks.specs.declared.served.NodeDone.{NodeDone}
use Rattle.node_looks.specs.declared.sight.SeenPlace.{SeenPlace}
use Rattle.file_ops.specs.declared.tried.Came.{Came}
use Rattle.file_ops.specs.declared.tried.Came.TheVariants as came
use Rattle.file_ops.specs.declared.tried.CallMade.{CallMade}
use Rattle.file_ops.specs.declared.tried.Ended.{Ended}

-- ---- files that stay, and calls

pub same-told : (t : Option Held) → t ≡ option_map (files_after true FilesStay) t
same-told None = refl
same-told (Some held) = refl

one-call : {kind : TreeCall} (old : TreeIs) (failed : Bool) (new : TreeIs) → new ≡ after_call old kind failed new.told → FailsAsTold old.calls failed → Calling old ((kind, failed) ∷ []) new.told new
one-call old failed new g f = record { goes = g; fails = (f, tt) }

pub more-calls : {kind : TreeCall} (old : TreeIs) (failed : Bool) (mid : TreeIs) (calls : List Call) (files : Option Held) (new : TreeIs) → Asks kind old failed mid → Calling mid calls files new → Calling old ((kind, failed) ∷ calls) files new
more-calls old failed mid calls files new a c = record {
  goes = c.goes ∙ ap (λ (t : TreeIs). with_files (after_calls t calls) files) a.goes;
  fails = (a.fails, subst (λ x. CallsAsTold x calls) (ap (λ (t : TreeIs). t.calls) a.goes) c.fails);
}

told-stays : {kind : TreeCall} (old : TreeIs) (failed : Bool) (new : TreeIs) → Asks kind old failed new → new.told ≡ old.told
told-stays old failed new a = ap (λ (t : TreeIs). t.told) a.goes

-- ---- the room for looks

pub set-first : (xs : List Look) (x : Look) → length xs ≡ 2 → take 1 (slice_set xs 0 x) ≡ x ∷ []
set-first [] x e = absurd (omega (arith, e))
set-first (y ∷ ys) x e = refl

pub set-both : (xs : List Look) (x y : Look) → length xs ≡ 2 → slice_set (slice_set xs 0 x) 1 y ≡ x ∷ y ∷ []
set-both [] x y e = absurd (omega (arith, e))
set-both (a ∷ []) x y e = absurd (omega (arith, e))
set-both (a ∷ b ∷ []) x y e = refl
set-both (a ∷ b ∷ d ∷ ds) x y e = absurd (omega (arith, e))

pub set-one : (xs : List Look) (a : Look) → length xs ≡ 1 → slice_set xs 0 a ≡ a ∷ []
set-one [] a e = absurd (omega (arith, e))
set-one (x ∷ []) a e = refl
set-one (x ∷ y ∷ xs) a e = absurd (omega (arith, e))

pub one-look : (xs : List Look) (a : Look) → length xs ≡ 3 → take 1 (slice_set xs 0 a) ≡ a ∷ []
one-look [] a e = absurd (omega (arith, e))
one-look (x ∷ xs) a e = refl

pub two-looks : (xs : List Look) (a b : Look) → length xs ≡ 3 → take 2 (slice_set (slice_set xs 0 a) 1 b) ≡ a ∷ b ∷ []
two-looks [] a b e = absurd (omega (arith, e))
two-looks (x ∷ []) a b e = absurd (omega (arith, e))
two-looks (x ∷ y ∷ xs) a b e = refl

pub three-looks : (xs : List Look) (a b c : Look) → length xs ≡ 3 → slice_set (slice_set (slice_set xs 0 a) 1 b) 2 c ≡ a ∷ b ∷ c ∷ []
three-looks [] a b c e = absurd (omega (arith, e))
three-looks (x ∷ []) a b c e = absurd (omega (arith, e))
three-looks (x ∷ y ∷ []) a b c e = absurd (omega (arith, e))
three-looks (x ∷ y ∷ z ∷ []) a b c e = refl
three-looks (x ∷ y ∷ z ∷ w ∷ xs) a b c e = absurd (omega (arith, e))

pub first-two : (xs : List Look) → length xs ≡ 3 → length (take 2 xs) ≡ 2
first-two [] e = absurd (omega (arith, e))
first-two (x ∷ []) e = absurd (omega (arith, e))
first-two (x ∷ y ∷ xs) e = refl

pub shown-missing : (call : Option CallMade) (r : Bool) → r ≡ found_nothing call → r ≡ true → shown_behind call ≡ Look.Missing ∷ []
shown-missing call r e t = ap (λ (b : Bool). cond b (Look.Missing ∷ []) []) (sym e ∙ t)

pub shown-none : (call : Option CallMade) (r : Bool) → r ≡ found_nothing call → r ≡ false → shown_behind call ≡ []
shown-none call r e t = ap (λ (b : Bool). cond b (Look.Missing ∷ []) []) (sym e ∙ t)

-- ---- no call

pub refuses-goes : (errno : ℕ) (t : TreeIs) → Goes (errs errno) t (done_of_ended (refuses errno)) HandlesStay t
refuses-goes errno t = record {
  gives = (refl, refl);
  lists = refl;
  clock = refl;
  generation = refl;
  keeper = λ e. cc;
  verdict = Some (Errs errno);
  comes = refl;
  answer = refl;
  handles = refl;
  files = same-told t.told;
  calls = record { goes = refl; fails = tt };
}

pub told-goes : (answer : NodeAnswer) (t : TreeIs) → Goes (told answer) t (done_of_ended (says answer)) HandlesStay t
told-goes answer t = record {
  gives = (refl, refl);
  lists = refl;
  clock = refl;
  generation = refl;
  keeper = λ e. cc;
  verdict = Some (tells answer);
  comes = refl;
  answer = refl;
  handles = refl;
  files = same-told t.told;
  calls = record { goes = refl; fails = tt };
}

as-refused : (errno : ℕ) (answer : Answer) (t : TreeIs) → answer ≡ Answer.Refused (Code.Errno errno) → Goes (errs errno) t (done_of_ended (record { answer = answer; call = None })) HandlesStay t
as-refused errno answer t e = subst (λ (x : Answer). Goes (errs errno) t (done_of_ended (record { answer = x; call = None })) HandlesStay t) (sym e) (refuses-goes errno t)

-- ---- the last call

found-told : (t : Option Held) (call : LastCall) (found : Bool) → IfSome t (λ held. is_found held call ≡ found) → IsFound t call found
found-told None call found h = tt
found-told (Some held) call found h = sym h

-- a call with this moment and this generation, where it has them, that came to this
abbrev made_so : Option ℕ → Option ℕ → Came → CallMade
made_so now number c = record { now = now; generation = number; came = c }

-- it has those that the last call of a walk asks for
pub record Suits (call : LastCall) (now number : Option ℕ) : Type 0 where
  pub clock : is_some now ≡ changes_file call
  pub makes : number ≡ generation_made call

-- the files are changed so by the last call, or stay
abbrev pub Ending : LastCall → (ℕ → NodeVerdict) → (Held → Held) → TreeIs → TreeDone → TreeIs → Type 0
Ending call f change old answer new = ChangesFiles (call_doing (f 0)) (λ held. is_found held call) change old answer new

pub ends-so : (call : LastCall) (f : ℕ → NodeVerdict) (d : NodeDoing) (now number : Option ℕ) (old new : TreeIs) → Suits call now number → f (moment_given now) ≡ Yields d →
    Ending call f (files_after true d.file) old done.Done new → Goes (Ends call f (Errs enoent)) old (done_of_ended (ended_of (made_so now number came.Done) d.answer)) d.handle new
ends-so call f d now number old new k e h = record {
  gives = found-told old.told call true h.does.1;
  lists = refl;
  clock = k.clock;
  generation = k.makes;
  keeper = λ e. cc;
  verdict = Some (f (moment_given now));
  comes = refl;
  answer = sym (ap (λ (v : NodeVerdict). answer_of (Some v)) e);
  handles = ap (λ (v : NodeVerdict). handle_change (Some v)) e;
  files = h.does.0 ∙ sym (ap (λ (v : NodeVerdict). option_map (files_after true (file_change (Some v))) old.told) e);
  calls = one-call old false new h.goes h.fails;
}

pub misses-so : (call : LastCall) (f : ℕ → NodeVerdict) (change : Held → Held) (answer : NodeAnswer) (now number : Option ℕ) (old new : TreeIs) → Suits call now number →
    Ending call f change old done.NotFile new → Goes (Ends call f (Errs enoent)) old (done_of_ended (ended_of (made_so now number came.NotFile) answer)) HandlesStay new
misses-so call f change answer now number old new k h = record {
  gives = (refl, refl, refl, found-told old.told call false h.does.1);
  lists = refl;
  clock = k.clock;
  generation = k.makes;
  keeper = λ e. cc;
  verdict = Some (Errs enoent);
  comes = refl;
  answer = refl;
  handles = refl;
  files = h.does.0 ∙ same-told old.told;
  calls = one-call old false new h.goes h.fails;
}

pub fails-so : (call : LastCall) (f : ℕ → NodeVerdict) (change : Held → Held) (answer : NodeAnswer) (now number : Option ℕ) (old new : TreeIs) → Suits call now number →
    Ending call f change old done.Failed new → Goes (Ends call f (Errs enoent)) old (done_of_ended (ended_of (made_so now number came.Failed) answer)) HandlesStay new
fails-so call f change answer now number old new k h = record {
  gives = tt;
  lists = refl;
  clock = k.clock;
  generation = k.makes;
  keeper = λ e. cc;
  verdict = None;
  comes = refl;
  answer = refl;
  handles = refl;
  files = h.does ∙ same-told old.told;
  calls = one-call old true new h.goes h.fails;
}

-- whether it asks for the moment, and which generation it makes
abbrev pub asked_of : LastCall → Bool × Option ℕ
asked_of call = (changes_file call, generation_made call)

-- it changes or makes a present file, at a moment
abbrev pub at_moment : Bool × Option ℕ
at_moment = (true, None)

suits-moment : (call : LastCall) (now : ℕ) → asked_of call ≡ at_moment → Suits call (Some now) None
suits-moment call now k = record { clock = sym (ap (λ (p : Bool × Option ℕ). p.0) k); makes = sym (ap (λ (p : Bool × Option ℕ). p.1) k) }

pub ends-done : (call : LastCall) (f : ℕ → NodeVerdict) (d : NodeDoing) (now : ℕ) (old new : TreeIs) → asked_of call ≡ at_moment → f now ≡ Yields d →
    Ending call f (files_after true d.file) old done.Done new → Goes (Ends call f (Errs enoent)) old (done_of_ended (ended_by now came.Done d.answer)) d.handle new
ends-done call f d now old new k e h = ends-so call f d (Some now) None old new (suits-moment call now k) e h

pub ends-missing : (call : LastCall) (f : ℕ → NodeVerdict) (change : Held → Held) (answer : NodeAnswer) (now : ℕ) (old new : TreeIs) → asked_of call ≡ at_moment →
    Ending call f change old done.NotFile new → Goes (Ends call f (Errs enoent)) old (done_of_ended (ended_by now came.NotFile answer)) HandlesStay new
ends-missing call f change answer now old new k h = misses-so call f change answer (Some now) None old new (suits-moment call now k) h

pub ends-failed : (call : LastCall) (f : ℕ → NodeVerdict) (change : Held → Held) (answer : NodeAnswer) (now : ℕ) (old new : TreeIs) → asked_of call ≡ at_moment →
    Ending call f change old done.Failed new → Goes (Ends call f (Errs enoent)) old (done_of_ended (ended_by now came.Failed answer)) HandlesStay new
ends-failed call f change answer now old new k h = fails-so call f change answer (Some now) None old new (suits-moment call now k) h

ends-goes : (call : LastCall) (f : ℕ → NodeVerdict) (change : FileChange) (answer : NodeAnswer) (now : ℕ) (c : Came) (old new : TreeIs) → asked_of call ≡ at_moment → f now ≡ changes change answer →
    ChangesFiles (call_doing (f 0)) (λ held. is_found held call) (files_after true change) old (tree_done c) new → Goes (Ends call f (Errs enoent)) old (done_of_ended (ended_by now c answer)) HandlesStay new
ends-goes call f change answer now came.Done old new k e h = ends-done call f (record { answer = answer; file = change; handle = HandlesStay; names = NamesStay }) now old new k e h
ends-goes call f change answer now came.NotFile old new k e h = ends-missing call f (files_after true change) answer now old new k h
ends-goes call f change answer now came.Failed old new k e h = ends-failed call f (files_after true change) answer now old new k h

pub changed-goes : (call : LastCall) (f : ℕ → NodeVerdict) (change : FileChange) (answer : NodeAnswer) (now : ℕ) (c : Came) (d : TreeDone) (ended : Ended) (old new : TreeIs) → asked_of call ≡ at_moment → f now ≡ changes change answer →
    d ≡ tree_done c → ended ≡ ended_by now c answer → ChangesFiles (call_doing (f 0)) (λ held. is_found held call) (files_after true change) old d new → Goes (Ends call f (Errs enoent)) old (done_of_ended ended) HandlesStay new
changed-goes call f change answer now c d ended old new k e s a h =
    subst (λ (x : Ended). Goes (Ends call f (Errs enoent)) old (done_of_ended x) HandlesStay new) (sym a)
    (ends-goes call f change answer now c old new k e (subst (λ (x : TreeDone). ChangesFiles (call_doing (f 0)) (λ held. is_found held call) (files_after true change) old x new) s h))

-- ---- a look ahead

-- whatever comes behind what was shown
pub after-goes : (target : Target) (next : Look → Walk NodeVerdict) (shown : Look) (done : NodeDone) (change : HandleChange) (old mid new : TreeIs) → Asks (call_at target) old false mid → IsShown old.told target shown →
    Goes (next shown) mid done change new → Goes (Looks target next) old (done_after shown done) change new
after-goes target next shown done change old mid new a i g = record {
  gives = (i, subst (λ (t : Option Held). Gives t (next shown) done.looks (is_tree done.fault)) (told-stays old false mid a) g.gives);
  lists = subst (λ (t : Option Held). GivesNames t (next shown) done.looks done.listed (is_tree done.fault)) (told-stays old false mid a) g.lists;
  clock = g.clock;
  generation = g.generation;
  keeper = g.keeper;
  verdict = g.verdict;
  comes = g.comes;
  answer = g.answer;
  handles = g.handles;
  files = g.files ∙ ap (option_map (files_after true (file_change g.verdict))) (told-stays old false mid a);
  calls = more-calls old false mid _ new.told new a g.calls;
}

pub looked-goes : (target : Target) (next : Look → Walk NodeVerdict) (shown : Look) (ended : Ended) (change : HandleChange) (old mid new : TreeIs) → Asks (call_at target) old false mid → IsShown old.told target shown →
    Goes (next shown) mid (done_of_ended ended) change new → Goes (Looks target next) old (done_behind (Some (look.Is shown)) ended) change new
looked-goes target next shown ended change old mid new a i g = after-goes target next shown (done_of_ended ended) change old mid new a i g

failed-goes : (target : Target) (next : Look → Walk NodeVerdict) (old new : TreeIs) → Asks (call_at target) old true new → Goes (Looks target next) old (done_behind (Some look.Failed) (refuses eio)) HandlesStay new
failed-goes target next old new a = record {
  gives = refl;
  lists = refl;
  clock = refl;
  generation = refl;
  keeper = λ e. cc;
  verdict = None;
  comes = refl;
  answer = refl;
  handles = refl;
  files = told-stays old true new a ∙ same-told old.told;
  calls = more-calls old true new [] new.told new a (record { goes = refl; fails = tt });
}

pub shows-path : (t : Option Held) (path : List ℕ) (a : LookAnswer) → Shows t path a → ShowsAt t (AtPath path) a
shows-path None path (look.Is shown) h = tt
shows-path (Some held) path (look.Is shown) h = h
shows-path t path look.Failed h = tt

pub named-shown : (t : Option Held) (name : FileName) (size moment : ℕ) → Attrs t name (attr.Is size moment) → IsShown t (Named name) (Look.File name.generation size moment)
named-shown None name size moment h = refl
named-shown (Some held) name size moment h = in-files (all_held held) h
  where
    in-files : (fs : List File) → option_map attributes_of (file_named fs name) ≡ Some (size, moment) → Look.File name.generation size moment ≡ look_of_file (file_named fs name)
    in-files [] e = cc
    in-files (f ∷ fs) e = by (is_named name f) refl e (in-files fs)
      where
        by : (b : Bool) → is_named name f ≡ b → option_map attributes_of (cond b (Some f) (file_named fs name)) ≡ Some (size, moment) →
            (option_map attributes_of (file_named fs name) ≡ Some (size, moment) → Look.File name.generation size moment ≡ look_of_file (file_named fs name)) →
            Look.File name.generation size moment ≡ look_of_file (cond b (Some f) (file_named fs name))
        by true n e more =
            let same : f.generation ≡ name.generation = grind (arith, nat_tests, n) in
            let size-is : length f.bytes ≡ size = ap (λ (o : Option (ℕ × ℕ)). (unwrap_or o (0, 0)).0) e in
            let moment-is : f.moment ≡ moment = ap (λ (o : Option (ℕ × ℕ)). (unwrap_or o (0, 0)).1) e in
            rw (← same, ← size-is, ← moment-is) refl
        by false n e more = more e

pub behind-goes : (target : Target) (next : Look → Walk NodeVerdict) (a : LookAnswer) (ended : Ended) (change : HandleChange) (old mid new : TreeIs) → Asks (call_at target) old (is_look_fault a) mid → ShowsAt old.told target a →
    GoesBehind next a mid ended change new → Goes (Looks target next) old (done_behind (Some a) ended) change new
behind-goes target next (look.Is shown) ended change old mid new a i g = looked-goes target next shown ended change old mid new a i g
behind-goes target next look.Failed ended change old mid new a i g =
    subst (λ (e : Ended). Goes (Looks target next) old (done_behind (Some look.Failed) e) change new) (sym g.0)
    (subst (λ (h : HandleChange). Goes (Looks target next) old (done_behind (Some look.Failed) (refuses eio)) h new) (sym g.1)
    (failed-goes target next old new (subst (λ (t : TreeIs). Asks (call_at target) old true t) (sym g.2) a)))

on-file : (errno : ℕ) (a : LookAnswer) (answer : Answer) (t : TreeIs) → ComesToBehind (errs_on_file errno) a answer → GoesBehind (if_file (errs_on_file errno)) a t (record { answer = answer; call = None }) HandlesStay t
on-file errno (look.Is (Look.File generation size moment)) answer t h = as-refused errno answer t h
on-file errno (look.Is Look.Folder) answer t h = as-refused enoent answer t h
on-file errno (look.Is Look.Missing) answer t h = as-refused enoent answer t h
on-file errno look.Failed answer t h = (ap (λ (x : Answer). record { answer = x; call = None }) h, refl, refl)

pub on-file-goes : (path : List ℕ) (errno : ℕ) (a : LookAnswer) (answer : Answer) (old new : TreeIs) → Asks TreeCall.Look old (is_look_fault a) new → Shows old.told path a → ComesToBehind (errs_on_file errno) a answer →
    Goes (at_file path (errs_on_file errno)) old (done_behind (Some a) (record { answer = answer; call = None })) HandlesStay new
on-file-goes path errno a answer old new asks shows h = behind-goes (AtPath path) (if_file (errs_on_file errno)) a (record { answer = answer; call = None }) HandlesStay old new new asks (shows-path old.told path a shows) (on-file errno a answer new h)

-- the same of a file that is looked at by its name
pub on-name-goes : (name : FileName) (errno : ℕ) (a : LookAnswer) (answer : Answer) (old new : TreeIs) → Asks TreeCall.Attr old (is_look_fault a) new → ShowsAt old.told (Named name) a → ComesToBehind (errs_on_file errno) a answer →
    Goes (at_name name (errs_on_file errno)) old (done_behind (Some a) (record { answer = answer; call = None })) HandlesStay new
on-name-goes name errno a answer old new asks shows h = behind-goes (Named name) (if_file (errs_on_file errno)) a (record { answer = answer; call = None }) HandlesStay old new new asks shows (on-file errno a answer new h)

-- ---- want of memory

pub on-err : {A : Type 0} (r : Result A WantOfMemory) (P : Type 0) → P → OnErr r P
on-err (Ok x) P p = tt
on-err (Err e) P p = p

pub called-behind : {kind : TreeCall} (old mid new : TreeIs) (failed : Bool) → failed ≡ false → Asks kind old failed mid → WasCalledUpTo 1 mid new → WasCalledUpTo 2 old new
called-behind {kind} old mid new failed f a w =
    let asked : Asks kind old false mid = subst (λ (b : Bool). Asks kind old b mid) f a in (
      kind ∷ w.0,
      more-calls old false mid (map unfailed w.0) old.told new asked
          (subst (λ (t : Option Held). Calling mid (map unfailed w.0) t new) (told-stays old false mid asked) w.1),
      omega (arith, w.2),
    )

-- the same, behind a call that didn't fail
pub called-more : {kind : TreeCall} (most : ℕ) (old mid new : TreeIs) (failed : Bool) → failed ≡ false → Asks kind old failed mid → WasCalledUpTo most mid new → WasCalledUpTo (most + 1) old new
called-more {kind} most old mid new failed f a w =
    let asked : Asks kind old false mid = subst (λ (b : Bool). Asks kind old b mid) f a in (
      kind ∷ w.0,
      more-calls old false mid (map unfailed w.0) old.told new asked
          (subst (λ (t : Option Held). Calling mid (map unfailed w.0) t new) (told-stays old false mid asked) w.1),
      omega (arith, w.2),
    )

-- a call that wanted memory
pub wanted-memory : {kind : TreeCall} (allows : Held → Bool) (change : Held → Held) (d : TreeDone) (old new : TreeIs) → d ≡ done.Memory → ChangesFiles kind allows change old d new → WasCalledUpTo 1 old new
wanted-memory {kind} allows change d old new e c =
    let h : ChangesFiles kind allows change old done.Memory new = subst (λ (x : TreeDone). ChangesFiles kind allows change old x new) e c in (
      kind ∷ [],
      record { goes = h.goes ∙ ap (λ (t : Option Held). after_call old kind false t) h.does; fails = (h.fails, tt) },
      omega arith,
    )

-- of one that was called once at most
once-wants : (table : HandleTable) (old new : TreeIs) → WasCalledOnce old new → Wants 1 table old table new
once-wants table old new (inl e) = record { handles = λ s h. h; calls = ([], record { goes = e; fails = tt }, omega arith) }
once-wants table old new (inr k) = record { handles = λ s h. h; calls = (k.0 ∷ [], k.1, omega arith) }

-- so often at most as requests of its kind call the tree at such a node
pub wants-so : (below : Bool) (op kind : NodeOp) (table : HandleTable) (old : TreeIs) (after : HandleTable) (new : TreeIs) → op ≡ kind →
    Wants (calls_by below kind) table old after new → Wants (calls_by below op) table old after new
wants-so below op kind table old after new e w = subst (λ (o : NodeOp). Wants (calls_by below o) table old after new) (sym e) w

pub called-so : (below : Bool) (op kind : NodeOp) (table : HandleTable) (old new : TreeIs) → op ≡ kind →
    WasCalledUpTo (calls_by below kind) old new → Wants (calls_by below op) table old table new
called-so below op kind table old new e w = wants-so below op kind table old table new e (record { handles = λ s h. h; calls = w })

pub once-so : (below : Bool) (op kind : NodeOp) (table : HandleTable) (old new : TreeIs) → op ≡ kind → calls_by below kind ≡ 1 →
    WasCalledOnce old new → Wants (calls_by below op) table old table new
once-so below op kind table old new e one w = wants-so below op kind table old table new e (subst (λ (n : ℕ). Wants n table old table new) (sym one) (once-wants table old new w))

-- the same, where at nodes below which nothing is the tree is called less often
pub wants-there : {A : Type 0} (r : Result A WantOfMemory) (below : Bool) (op kind : NodeOp) (table : HandleTable) (old : TreeIs) (after : HandleTable) (new : TreeIs) → op ≡ kind →
    OnErr r (Wants (calls_by true kind) table old after new) → (below ≡ false → OnErr r (Wants (calls_by false kind) table old after new)) →
    OnErr r (Wants (calls_by below op) table old after new)
wants-there r true op kind table old after new e far near = on_err_weaker r (wants-so true op kind table old after new e) far
wants-there r false op kind table old after new e far near = on_err_weaker r (wants-so false op kind table old after new e) (near refl)

-- a look-up below an exported folder, and one elsewhere, which leaves the tree as it is
pub looked-there : {A : Type 0} (r : Result A WantOfMemory) (below : Bool) (op : NodeOp) (name : List ℕ) (table : HandleTable) (old new : TreeIs) → op ≡ NodeOp.Lookup name →
    OnErr r (WasCalledUpTo 2 old new) → (below ≡ false → OnErr r (new ≡ old)) → OnErr r (Wants (calls_by below op) table old table new)
looked-there r true op name table old new e far near = on_err_weaker r (called-so true op (NodeOp.Lookup name) table old new e) far
looked-there r false op name table old new e far near =
    on_err_weaker r (λ same. called-so false op (NodeOp.Lookup name) table old new e ([], record { goes = same; fails = tt }, omega arith)) (near refl)

-- ---- parts of a walk

pub if-wrong : (b r : Bool) (errno : ℕ) (w : Walk NodeVerdict) → r ≡ b → r ≡ true → errs_if b errno w ≡ errs errno
if-wrong b r errno w e t = ap (λ (x : Bool). errs_if x errno w) (sym e ∙ t)

pub if-right : (b r : Bool) (errno : ℕ) (w : Walk NodeVerdict) → r ≡ b → r ≡ false → errs_if b errno w ≡ w
if-right b r errno w e t = ap (λ (x : Bool). errs_if x errno w) (sym e ∙ t)

pub if-may : (may : Bool) (errno : ℕ) (w : Walk NodeVerdict) → not may ≡ false → errs_if (not may) errno w ≡ w
if-may may errno w e = ap (λ (b : Bool). errs_if b errno w) e

pub if-within : (limit n errno : ℕ) (w : Walk NodeVerdict) → n ≤ limit → errs_if (nat_lt limit n) errno w ≡ w
if-within limit n errno w h =
    let within : nat_lt limit n ≡ false = grind (arith, nat_tests) in
    ap (λ (b : Bool). errs_if b errno w) within

-- one walk for another that is the same
pub along : (v w : Walk NodeVerdict) (old : TreeIs) (ended : Ended) (change : HandleChange) (new : TreeIs) → v ≡ w → Goes w old (done_of_ended ended) change new → Goes v old (done_of_ended ended) change new
along v w old ended change new e g = subst (λ (x : Walk NodeVerdict). Goes x old (done_of_ended ended) change new) (sym e) g

pub along-ok : (v w : Walk NodeVerdict) (old : TreeIs) (r : Result Ended WantOfMemory) (change : HandleChange) (new : TreeIs) → v ≡ w → IfOk r (λ ended. Goes w old (done_of_ended ended) change new) →
    IfOk r (λ ended. Goes v old (done_of_ended ended) change new)
along-ok v w old r change new e g = subst (λ (x : Walk NodeVerdict). IfOk r (λ ended. Goes x old (done_of_ended ended) change new)) (sym e) g

pub walk-goes : (v w : Walk NodeVerdict) (old : TreeIs) (done : NodeDone) (change : HandleChange) (new : TreeIs) → v ≡ w → Goes w old done change new → Goes v old done change new
walk-goes v w old done change new e g = subst (λ (x : Walk NodeVerdict). Goes x old done change new) (sym e) g

pub picked : (b r : Bool) (w v : Walk NodeVerdict) → r ≡ b → r ≡ true → cond b w v ≡ w
picked b r w v e t = ap (λ (c : Bool). cond c w v) (sym e ∙ t)

pub passed : (b r : Bool) (w v : Walk NodeVerdict) → r ≡ b → r ≡ false → cond b w v ≡ v
passed b r w v e t = ap (λ (c : Bool). cond c w v) (sym e ∙ t)

-- by the open file of a handle
pub by-open : (next : OnHandle) (handle : Option Handle) (o : Option FileLent) (file : FileLent) (old : TreeIs) (done : NodeDone) (change : HandleChange) (new : TreeIs) → by_file_handle handle next ≡ by_open_file o next → o ≡ Some file →
    Goes (next (file_of file)) old done change new → Goes (by_file_handle handle next) old done change new
by-open next handle o file old done change new e f g =
    subst (λ (w : Walk NodeVerdict). Goes w old done change new) (sym (e ∙ ap (λ (x : Option FileLent). by_open_file x next) f)) g

-- a folder in which no names are made is answered the same, whichever it is
pub folder-goes : (p q : SeenPlace) (b : ViewBook) (who : Who) (file : Spot → OnFile) (folder : Folder → Walk NodeVerdict) (t : TreeIs) (done : NodeDone) → p ≡ q → (f : Folder) → sight_of b who q ≡ SightOfFolder f → is_writable f ≡ false →
    ((x : Folder) → is_writable x ≡ false → Goes (folder x) t done HandlesStay t) → Goes (by_place (Some (sight_of b who p)) file folder) t done HandlesStay t
folder-goes p q b who file folder t done e f s w g =
    subst (λ (x : Sight). Goes (by_place (Some x) file folder) t done HandlesStay t) (sym (ap (sight_of b who) e ∙ s)) (g f w)

-- ---- the request

pub goes-done : (w : Walk NodeVerdict) (op : NodeOp) (seat : ℕ) (table : HandleTable) (old : TreeIs) (done : NodeDone) (change : HandleChange) (after : HandleTable) (new : TreeIs) → IsExact op →
    Goes w old done change new → Handled seat change table after → DoneBy w op seat table old done after new
goes-done w op seat table old done change after new x g h = record {
  verdict = g.verdict;
  comes = record {
    gives = g.gives;
    lists = g.lists;
    clock = g.clock;
    generation = g.generation;
    keeper = g.keeper;
    comes = g.comes;
    answer = same-answer old.told op (answer_of g.verdict) done.answer x g.answer;
    files = g.files;
    calls = g.calls;
  };
  handled = subst (λ (c : HandleChange). Handled seat c table after) (sym g.handles) h;
}

pub write-does : (book : FileBook) (call : NodeCall) (table : HandleTable) (fh offset : ℕ) (content : List ℕ) (handle : Option Handle) (old : TreeIs) (done : NodeDone) (new : TreeIs) → handle_in (opened_on table.seats call.seat) fh ≡ handle →
    call.request.now.op ≡ NodeOp.Write fh offset content → ((s : State) → Lends book.view s → Goes (write (reach_at s call.who.now) book.file_limit offset content handle) old done HandlesStay new) → Does book call table old done table new
write-does book call table fh offset content handle old done new h op f = λ s c a.
    let reach = reach_at s call.who.now in
    done-in s c book call (write reach book.file_limit offset content handle) table old done table new a
    (walk-is s c call.request.now (NodeOp.Write fh offset content) op
    ∙ (ap (λ (n : ℕ). write (reach_at s c.who) n offset content (handle_of s.handles c.seat fh)) a.limit
    ∙ (ap (λ (w : Who). write (reach_at s w) book.file_limit offset content (handle_of s.handles c.seat fh)) a.caller
    ∙ ap (write reach book.file_limit offset content) (sym (handle-is s c book call table old.told a fh) ∙ h))))
    (goes-done (write reach book.file_limit offset content handle) call.request.now.op call.seat table old done HandlesStay table new (subst IsExact (sym op) tt) (f s a.lists) (handles-stay call.seat table))

-- by its open file
pub open-writes : (reach : Reaching) (limit offset : ℕ) (content : List ℕ) (file : OpenFile) (allowed : Allowed) (old : TreeIs) (done : NodeDone) (new : TreeIs) → IsAllowed reach file allowed →
    Goes (errs_if (not file.write) ebadf (errs_if (not allowed.write) eacces (write_content limit file.name offset content))) old done HandlesStay new → Goes (write_open reach limit offset content file) old done HandlesStay new
open-writes reach limit offset content file allowed old done new i g =
    subst (λ (b : Bool). Goes (errs_if (not file.write) ebadf (errs_if (not b) eacces (write_content limit file.name offset content))) old done HandlesStay new) i.write_is g

pub set_attr-does : (naming : Option Naming) (temp : Option Temp) (book : FileBook) (call : NodeCall) (table : HandleTable) (valid fh size : ℕ) (handle : Option Handle) (old : TreeIs) (done : NodeDone) (new : TreeIs) → handle_in (opened_on table.seats call.seat) fh ≡ handle →
    call.request.now.op ≡ NodeOp.SetAttr valid fh size →
    ((s : State) → Lends book.view s → Goes (set_attr (reach_at s call.who.now) call.request.now (record { valid = valid; size = size; limit = book.file_limit }) (place_of s call.who.now naming temp call.request.now.node) handle) old done HandlesStay new) →
    DoesAt naming temp book call table old done table new
set_attr-does naming temp book call table valid fh size handle old done new h op f = λ s c a n.
    let r = call.request.now in
    let asks : SetsAttr = record { valid = valid; size = size; limit = book.file_limit } in
    let reach = reach_at s call.who.now in
    done-in s c book call (set_attr reach r asks (place_of s call.who.now naming temp r.node) handle) table old done table new a
    (walk-is s c r (NodeOp.SetAttr valid fh size) op
    ∙ (ap (λ (n : ℕ). set_attr (reach_at s c.who) r (record { valid = valid; size = size; limit = n }) (sight_on s c r.node) (handle_of s.handles c.seat fh)) a.limit
    ∙ (ap (λ (w : Who). set_attr (reach_at s w) r asks (sight_on s c r.node) (handle_of s.handles c.seat fh)) a.caller
    ∙ (ap (λ (o : Option Sight). set_attr reach r asks o (handle_of s.handles c.seat fh)) (seen-by-caller s c call.who.now r.node naming temp a.caller n.naming_is n.temp_is)
    ∙ ap (set_attr reach r asks (place_of s call.who.now naming temp r.node)) (sym (handle-is s c book call table old.told a fh) ∙ h)))))
    (goes-done (set_attr reach r asks (place_of s call.who.now naming temp r.node) handle) r.op call.seat table old done HandlesStay table new (subst IsExact (sym op) tt) (f s a.lists) (handles-stay call.seat table))
