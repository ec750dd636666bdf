-- Calls of the tree for an open file, and what is answered by them.
use Rattle.std.proofs.Common.{◌≡◌, ℕ, List, [], ◌∷◌, Bool, true, false, cond, not, Option, Some, None, refl, sym, ap, subst, ◌∙◌, arith}
use Rattle.std.specs.Option.{option_map}
use Rattle.std.proofs.lemmas.Bool.Decides.{nat_tests}
use Rattle.portal_base.specs.Content.{file_named, is_named}
use Rattle.file_generations.specs.Generations.{Held, all_held}
use Rattle.portal_base.specs.declared.files.File.{File}
use Rattle.portal_base.specs.declared.files.FileName.{FileName}
use Rattle.portal_base.specs.declared.files.Look.{Look}
use Rattle.host_tree.specs.Trees.{Asks, Attrs, Looks as Answered, TreeIs, attributes_of, is_attr_fault, is_look_fault}
use Rattle.host_tree.specs.declared.tree.AttrAnswer.{AttrAnswer}
use Rattle.host_tree.specs.declared.tree.AttrAnswer.TheVariants as attr
use Rattle.host_tree.specs.declared.tree.LookAnswer.{LookAnswer}
use Rattle.host_tree.specs.declared.tree.LookAnswer.TheVariants as look
use Rattle.host_tree.specs.declared.tree.TreeCall.{TreeCall}
use Rattle.open_handles.specs.Opened.{HandleTable, handle_of as handle_in, opened_on}
use Rattle.portal_model.specs.declared.handle.Handle.{Handle}
use Rattle.portal_model.specs.declared.naming.Naming.{Naming}
use Rattle.portal_model.specs.declared.reply.Answer.{Answer}
use Rattle.portal_model.specs.declared.reply.Attr.{Attr}
use Rattle.portal_model.specs.declared.reply.NodeAnswer.TheVariants as NodeAnswer
use Rattle.portal_model.specs.declared.request.NodeOp.{NodeOp}
use Rattle.portal_model.specs.declared.request.NodeRequest.{NodeRequest}
use Rattle.portal_model.specs.declared.state.Connection.{Connection}
use Rattle.portal_model.specs.declared.temporary.Temp.{Temp}
use Rattle.portal_model.specs.Attributes.{attr_of_folder, is_writable, on_node}
use Rattle.portal_model.specs.Errno.{eacces}
use Rattle.portal_model.specs.GetAttr.{get_attr_open, tells_file, tells_folder}
use Rattle.portal_model.specs.Node.{facts_of, node_done, node_walk, settled_on_node}
use Rattle.portal_model.specs.NodeVerdict.{NodeVerdict, FileChange, FilesStay, HandleChange, HandlesStay, NameChange, NamesStay, NodeDoing, Errs, OnFile, Yields, at_name, errs_if, told}
use Rattle.portal_model.specs.Place.{Folder}
use Rattle.portal_model.specs.Reach.{OpenFile, Reaching}
use Rattle.portal_model.specs.State.{State, handle_of}
use Rattle.portal_model.specs.Walk.{Answers, AtPath, Ends, Gives, GivesNames, IsShown, Lists, Looks, Named, Walk, generation_reached, look_of_file, reads_clock, walked}
use Rattle.node_looks.specs.Done.{Does, DoesAt, IsCalled}
use Rattle.app_view.specs.Opened.{IsAllowed}
use Rattle.node_looks.specs.Served.{HasAt, Told}
use Rattle.node_looks.specs.TreeCalls.{Call, Calling, calls_of, unfailed}
use Rattle.node_looks.specs.Walks.{ComesTo, ComesToBehind, ComesToLook, Follows, look_of_attr}
use Rattle.node_looks.specs.declared.asked.Asked.{Asked}
use Rattle.app_view.specs.declared.opened.Allowed.{Allowed}
use Rattle.node_looks.specs.declared.served.FileBook.{FileBook}
use Rattle.node_looks.specs.declared.served.NodeCall.{NodeCall}
use Rattle.node_looks.specs.declared.served.NodeDone.{NodeDone}
use Rattle.node_looks.proofs.DoneLemmas.{IsExact, handle-is, told-done, walk-is}
use Rattle.node_looks.proofs.Follow.{done_with, follows-serves}

-- ---- the handle of a number

pub with-handle : (walk : Option Handle → Walk NodeVerdict) (o h : Option Handle) (old : TreeIs) (asked : Asked) (new : TreeIs) → o ≡ h → Follows (walk h) old asked new → Follows (walk o) old asked new
with-handle walk o h old asked new e f = subst (λ (x : Option Handle). Follows (walk x) old asked new) (sym e) f

-- ---- a walk at its end

still-done : (s : State) (c : Connection) (d : NodeDoing) → d.file ≡ FilesStay → d.handle ≡ HandlesStay → d.names ≡ NamesStay → node_done s c d ≡ s
still-done s c d f h n =
    ap (λ (x : FileChange). node_done s c (record d { file = x })) f
    ∙ (ap (λ (x : HandleChange). node_done s c (record d { file = FilesStay; handle = x })) h
    ∙ ap (λ (x : NameChange). node_done s c (record d { file = FilesStay; handle = HandlesStay; names = x })) n)

module _ (a : Answer) where
  comes-gives : (tree : Option Held) (w : Walk NodeVerdict) → ComesTo w a → Gives tree w [] false
  comes-gives tree (Answers v) e = (refl, refl)
  comes-gives tree (Looks target next) e = absurd e
  comes-gives tree (Ends call done missing) e = absurd e
  comes-gives tree (Lists path done missing) e = absurd e

  comes-lists : (tree : Option Held) (w : Walk NodeVerdict) → ComesTo w a → GivesNames tree w [] None false
  comes-lists tree (Answers v) e = refl
  comes-lists tree (Looks target next) e = absurd e
  comes-lists tree (Ends call done missing) e = absurd e
  comes-lists tree (Lists path done missing) e = absurd e

  comes-clock : (w : Walk NodeVerdict) → ComesTo w a → reads_clock w [] ≡ false
  comes-clock (Answers v) e = refl
  comes-clock (Looks target next) e = absurd e
  comes-clock (Ends call done missing) e = absurd e
  comes-clock (Lists path done missing) e = absurd e

  comes-generation : (w : Walk NodeVerdict) → ComesTo w a → generation_reached w [] ≡ None
  comes-generation (Answers v) e = refl
  comes-generation (Looks target next) e = absurd e
  comes-generation (Ends call done missing) e = absurd e
  comes-generation (Lists path done missing) e = absurd e

  comes-calls : (w : Walk NodeVerdict) → ComesTo w a → calls_of w [] false ≡ []
  comes-calls (Answers v) e = refl
  comes-calls (Looks target next) e = absurd e
  comes-calls (Ends call done missing) e = absurd e
  comes-calls (Lists path done missing) e = absurd e

  comes-settles : (s : State) (c : Connection) (w : Walk NodeVerdict) → ComesTo w a → settled_on_node s c (walked w 0 [] false) ≡ (s, a)
  comes-settles s c (Answers (Errs errno)) e = ap (λ (x : Answer). (s, x)) (sym e)
  comes-settles s c (Answers (Yields d)) (f, h, e, n) = λ i. (still-done s c d f h n i, sym e i)
  comes-settles s c (Looks target next) e = absurd e
  comes-settles s c (Ends call done missing) e = absurd e
  comes-settles s c (Lists path done missing) e = absurd e

-- ---- one call

pub one-call : (kind : TreeCall) (old : TreeIs) (failed : Bool) (new : TreeIs) → Asks kind old failed new → Calling old ((kind, failed) ∷ []) old.told new
one-call kind old failed new a = record { goes = a.goes; fails = (a.fails, tt) }

-- an answer for which the tree wasn't called
pub comes-follows : (w : Walk NodeVerdict) (a : Answer) (tree : TreeIs) → ComesTo w a → Follows w tree (record { answer = a; look = None }) tree
comes-follows w a tree e = record {
  gives = comes-gives a tree.told w e;
  lists = comes-lists a tree.told w e;
  settles = λ s c. comes-settles a s c w e;
  clock = comes-clock a w e;
  generation = comes-generation a w e;
  calls = subst (λ (calls : List Call). Calling tree calls tree.told tree) (sym (comes-calls a w e)) (record { goes = refl; fails = tt });
}

-- an answer behind a look at a path
pub path-look : (path : List ℕ) (next : Look → Walk NodeVerdict) (old : TreeIs) (shown : LookAnswer) (new : TreeIs) (a : Answer) → Asks TreeCall.Look old (is_look_fault shown) new → Answered old.told path shown → ComesToLook next shown a →
    Follows (Looks (AtPath path) next) old (record { answer = a; look = Some shown }) new
path-look path next old (look.Is shown) new a asks answered e = record {
  gives = (shown-so old.told answered, comes-gives a old.told (next shown) e);
  lists = comes-lists a old.told (next shown) e;
  settles = λ s c. comes-settles a s c (next shown) e;
  clock = comes-clock a (next shown) e;
  generation = comes-generation a (next shown) e;
  calls = subst (λ (calls : List Call). Calling old (unfailed TreeCall.Look ∷ calls) old.told new) (sym (comes-calls a (next shown) e)) (one-call TreeCall.Look old false new asks);
}
  where
    shown-so : (told : Option Held) → Answered told path (look.Is shown) → IsShown told (AtPath path) shown
    shown-so None h = tt
    shown-so (Some held) h = h
path-look path next old look.Failed new a asks answered e = record {
  gives = refl;
  lists = refl;
  settles = λ s c. ap (λ (x : Answer). (s, x)) (sym e);
  clock = refl;
  generation = refl;
  calls = one-call TreeCall.Look old true new asks;
}

-- ---- the request

pub follows-does-at : (naming : Option Naming) (temp : Option Temp) (book : FileBook) (call : NodeCall) (table : HandleTable) (old : TreeIs) (asked : Asked) (done : NodeDone) (new : TreeIs) (op : NodeOp) → call.request.now.op ≡ op → IsExact op → done ≡ done_with asked →
    ((s : State) (c : Connection) → IsCalled s c book call table old.told → HasAt call.request.now.node naming temp c → Follows (node_walk (facts_of s c call.request.now.node) call.request.now op) old asked new) → DoesAt naming temp book call table old done table new
follows-does-at naming temp book call table old asked done new op o x e f = λ s c a h.
    let r : NodeRequest = call.request.now in
    told-done s c book call table old done new (subst IsExact (sym o) x) a
    (subst (λ (d : NodeDone). Told s c r old d new) (sym e)
    (follows-serves s c r (node_walk (facts_of s c r.node) r op) old asked new (walk-is s c r op o) a.files (f s c a h)))

pub follows-does : (book : FileBook) (call : NodeCall) (table : HandleTable) (old : TreeIs) (asked : Asked) (done : NodeDone) (new : TreeIs) (op : NodeOp) → call.request.now.op ≡ op → IsExact op → done ≡ done_with asked →
    ((s : State) (c : Connection) → IsCalled s c book call table old.told → Follows (node_walk (facts_of s c call.request.now.node) call.request.now op) old asked new) → Does book call table old done table new
follows-does book call table old asked done new op o x e f = λ s c a.
    let r : NodeRequest = call.request.now in
    told-done s c book call table old done new (subst IsExact (sym o) x) a
    (subst (λ (d : NodeDone). Told s c r old d new) (sym e)
    (follows-serves s c r (node_walk (facts_of s c r.node) r op) old asked new (walk-is s c r op o) a.files (f s c a)))

pub by-handle : (walk : Option Handle → Walk NodeVerdict) (book : FileBook) (call : NodeCall) (fh : ℕ) (table : HandleTable) (handle : Option Handle) (old : TreeIs) (asked : Asked) (done : NodeDone) (new : TreeIs) (op : NodeOp) →
    ((s : State) (c : Connection) → node_walk (facts_of s c call.request.now.node) call.request.now op ≡ walk (handle_of s.handles c.seat fh)) → call.request.now.op ≡ op → IsExact op → done ≡ done_with asked →
    handle ≡ handle_in (opened_on table.seats call.seat) fh → Follows (walk handle) old asked new → Does book call table old done table new
by-handle walk book call fh table handle old asked done new op w o x e h f =
    follows-does book call table old asked done new op o x e (λ s c a.
    subst (λ (v : Walk NodeVerdict). Follows v old asked new) (sym (w s c))
    (with-handle walk (handle_of s.handles c.seat fh) handle old asked new (sym (h ∙ handle-is s c book call table old.told a fh)) f))

-- ---- the attributes of an open file

named-so : (name : FileName) (f : File) → is_named name f ≡ true → f.generation ≡ name.generation
named-so name f e = grind (arith, nat_tests, e)

-- a file that is found by a name has its generation
abbrev HasGeneration : FileName → Option File → Type 0
HasGeneration name None = Unit {0}
HasGeneration name (Some f) = f.generation ≡ name.generation

found-generation : (name : FileName) (files : List File) → HasGeneration name (file_named files name)
found-generation name [] = tt
found-generation name (x ∷ xs) = by (is_named name x) refl (found-generation name xs)
  where
    by : (b : Bool) → is_named name x ≡ b → HasGeneration name (file_named xs name) → HasGeneration name (cond b (Some x) (file_named xs name))
    by true n h = named-so name x n
    by false n h = h

shown-file : (name : FileName) (size moment : ℕ) (o : Option File) → HasGeneration name o → option_map attributes_of o ≡ Some (size, moment) → Look.File name.generation size moment ≡ look_of_file o
shown-file name size moment None g e = cc
shown-file name size moment (Some f) g e =
    let same : attributes_of f ≡ (size, moment) = cc in
    λ i. Look.File (sym g i) (sym same i).0 (sym same i).1

pub attrs-shown : (tree : Option Held) (name : FileName) (size moment : ℕ) → Attrs tree name (attr.Is size moment) → IsShown tree (Named name) (Look.File name.generation size moment)
attrs-shown None name size moment h = refl
attrs-shown (Some held) name size moment h = shown-file name size moment (file_named (all_held held) name) (found-generation name (all_held held)) h

missing-shown : (tree : Option Held) (name : FileName) → Attrs tree name attr.NotFile → IsShown tree (Named name) Look.Missing
missing-shown None name h = tt
missing-shown (Some held) name h = sym (ap look_of_file h)

-- what the tree tells of the file is a look at its name
named-look : (name : FileName) (next : OnFile) (old : TreeIs) (answer : AttrAnswer) (new : TreeIs) (a : Answer) → Asks TreeCall.Attr old (is_attr_fault answer) new → Attrs old.told name answer → ComesToBehind next (look_of_attr name answer) a →
    Follows (at_name name next) old (record { answer = a; look = Some (look_of_attr name answer) }) new
named-look name next old (attr.Is size moment) new a asks attrs e = record {
  gives = (attrs-shown old.told name size moment attrs, comes-gives a old.told (next name.generation size moment) e);
  lists = comes-lists a old.told (next name.generation size moment) e;
  settles = λ s c. comes-settles a s c (next name.generation size moment) e;
  clock = comes-clock a (next name.generation size moment) e;
  generation = comes-generation a (next name.generation size moment) e;
  calls = subst (λ (calls : List Call). Calling old (unfailed TreeCall.Attr ∷ calls) old.told new) (sym (comes-calls a (next name.generation size moment) e)) (one-call TreeCall.Attr old false new asks);
}
named-look name next old attr.NotFile new a asks attrs e = record {
  gives = (missing-shown old.told name attrs, (refl, refl));
  lists = refl;
  settles = λ s c. ap (λ (x : Answer). (s, x)) (sym e);
  clock = refl;
  generation = refl;
  calls = one-call TreeCall.Attr old false new asks;
}
named-look name next old attr.Failed new a asks attrs e = record {
  gives = refl;
  lists = refl;
  settles = λ s c. ap (λ (x : Answer). (s, x)) (sym e);
  clock = refl;
  generation = refl;
  calls = one-call TreeCall.Attr old true new asks;
}

pub told-folder : (r : NodeRequest) (a : Attr) (asked : Asked) → a ≡ attr_of_folder (on_node r r.node) false → ((t : TreeIs) → Follows (told (NodeAnswer.Attr a)) t asked t) → (t : TreeIs) (f : Folder) → is_writable f ≡ false → Follows (tells_folder r f) t asked t
told-folder r a asked e h t f w = subst (λ (x : Attr). Follows (told (NodeAnswer.Attr x)) t asked t) (e ∙ ap (attr_of_folder r) (sym w)) (h t)

pub same-look : (name : FileName) (next : OnFile) (old : TreeIs) (answer : AttrAnswer) (new : TreeIs) (a : Answer) (shown : LookAnswer) → shown ≡ look_of_attr name answer → Asks TreeCall.Attr old (is_attr_fault answer) new → Attrs old.told name answer →
    ComesToBehind next shown a → Follows (at_name name next) old (record { answer = a; look = Some shown }) new
same-look name next old answer new a shown e asks attrs comes =
    subst (λ (x : LookAnswer). Follows (at_name name next) old (record { answer = a; look = Some x }) new) (sym e)
    (named-look name next old answer new a asks attrs (subst (λ (x : LookAnswer). ComesToBehind next x a) e comes))

-- what the file may do now
pub open-follows : (reach : Reaching) (r : NodeRequest) (file : OpenFile) (allowed : Allowed) (old : TreeIs) (asked : Asked) (new : TreeIs) → IsAllowed reach file allowed →
    Follows (errs_if (not allowed.reach) eacces (at_name file.name (tells_file (on_node r file.node) allowed.write))) old asked new → Follows (get_attr_open reach r file) old asked new
open-follows reach r file allowed old asked new i f =
    subst (λ (w : Walk NodeVerdict). Follows w old asked new)
    (λ j. errs_if (not (i.reach_is j)) eacces (at_name file.name (tells_file (on_node r file.node) (i.write_is j)))) f
