-- How a READ comes to its answer, and is served.
use Rattle.std.proofs.Common.{◌≡◌, ℕ, Bool, true, false, not, cond, Option, Some, None, sym, ap, subst, ◌∙◌}
use Rattle.std.specs.Option.{option_map}
use Rattle.file_generations.specs.Generations.{Held, all_held}
use Rattle.portal_base.specs.declared.who.Who.{Who}
use Rattle.host_tree.specs.Trees.{TreeIs}
use Rattle.open_handles.specs.Opened.{HandleTable, handle_of as handle_in, opened_on}
use Rattle.portal_model.specs.declared.handle.Handle.{Handle}
use Rattle.portal_model.specs.declared.reply.Answer.{Answer}
use Rattle.portal_model.specs.declared.request.NodeOp.{NodeOp}
use Rattle.portal_model.specs.Bus.{is_tree}
use Rattle.portal_model.specs.Node.{bytes_named, files_after}
use Rattle.portal_model.specs.Errno.{eacces, ebadf}
use Rattle.portal_model.specs.NodeVerdict.{NodeVerdict, FileChange, HandleChange, errs_if}
use Rattle.portal_model.specs.Outside.{files_told}
use Rattle.portal_model.specs.Place.{reach_at}
use Rattle.portal_model.specs.Reach.{OpenFile, Reaching}
use Rattle.portal_model.specs.Read.{read, read_name, read_open}
use Rattle.portal_model.specs.State.{State, handle_of, held_in}
use Rattle.portal_model.specs.Walk.{Walk}
use Rattle.node_looks.specs.ReadFiles.{AreBytes, Finds, FindsAny, IsReadAnswer}
use Rattle.node_looks.specs.Done.{Does, DoneBy, IsAnswer}
use Rattle.app_view.specs.Books.{Lends}
use Rattle.app_view.specs.Opened.{IsAllowed}
use Rattle.node_looks.specs.OpenHandles.{Handled}
use Rattle.node_looks.specs.TreeCalls.{Calling, calls_of}
use Rattle.node_looks.specs.Walks.{fault_of, taken}
use Rattle.node_looks.specs.declared.asked.Asked.{Asked}
use Rattle.app_view.specs.declared.opened.Allowed.{Allowed}
use Rattle.node_looks.specs.declared.served.FileBook.{FileBook}
use Rattle.node_looks.specs.declared.served.NodeCall.{NodeCall}
use Rattle.node_looks.specs.declared.served.NodeDone.{NodeDone}
use Rattle.node_looks.proofs.DoneLemmas.{as-op, done-in, handle-is, handles-stay, told-still, walk-is}
use Rattle.node_looks.proofs.Follow.{done_with, not-kept}

-- ---- the request

as-answer : (told : Option Held) (fh offset size : ℕ) (stepped given : Answer) → IsReadAnswer told size stepped given → IsAnswer told (NodeOp.Read fh offset size) stepped given
as-answer None fh offset size stepped given e = e
as-answer (Some held) fh offset size stepped given e = e

finds-by : (fh offset size seat : ℕ) (table : HandleTable) (w : Walk NodeVerdict) (old : TreeIs) (asked : Asked) (new : TreeIs) → Finds size w old asked new → DoneBy w (NodeOp.Read fh offset size) seat table old (done_with asked) table new
finds-by fh offset size seat table w old asked new f =
    let stays : new.told ≡ old.told = ap (λ (t : TreeIs). t.told) f.calls.goes in
    record {
      verdict = f.verdict;
      comes = record {
        gives = f.gives;
        lists = f.lists;
        clock = sym f.clock;
        generation = sym f.generation;
        keeper = not-kept asked.look;
        comes = f.comes;
        answer = as-answer old.told fh offset size _ _ f.answer;
        files = stays ∙ sym (ap (λ (c : FileChange). option_map (files_after true c) old.told) f.files ∙ told-still old.told);
        calls = subst (λ (files : Option Held). Calling old (calls_of w (taken asked.look) (is_tree (fault_of asked.look))) files new) (sym stays) f.calls;
      };
      handled = subst (λ (c : HandleChange). Handled seat c table table) (sym f.handles) (handles-stay seat table);
    }

told-bytes : (s : State) (told : Option Held) → files_told s ≡ told → AreBytes told (bytes_named (all_held (held_in s)))
told-bytes s None e = tt
told-bytes s (Some held) e = by s.told e
  where
    by : (b : Bool) → cond b (Some (held_in s)) None ≡ Some held → AreBytes (Some held) (bytes_named (all_held (held_in s)))
    by true e = let same : held_in s ≡ held = cc in λ name. ap (λ (h : Held). bytes_named (all_held h) name) same
    by false e = cc

pub finds-does : (book : FileBook) (call : NodeCall) (fh offset size : ℕ) (table : HandleTable) (handle : Option Handle) (old : TreeIs) (asked : Asked) (done : NodeDone) (new : TreeIs) → call.request.now.op ≡ NodeOp.Read fh offset size → done ≡ done_with asked →
    handle ≡ handle_in (opened_on table.seats call.seat) fh → ((s : State) → Lends book.view s → FindsAny size (λ bytes. read (reach_at s call.who.now) bytes offset size handle) old asked new) → Does book call table old done table new
finds-does book call fh offset size table handle old asked done new op e h f = λ s c a.
    let here : handle_of s.handles c.seat fh ≡ handle = sym (h ∙ handle-is s c book call table old.told a fh) in
    let reach = reach_at s call.who.now in
    done-in s c book call (read reach (bytes_named (all_held (held_in s))) offset size handle) table old done table new a
    (walk-is s c call.request.now (NodeOp.Read fh offset size) op
    ∙ (ap (λ (w : Who). read (reach_at s w) (bytes_named (all_held (held_in s))) offset size (handle_of s.handles c.seat fh)) a.caller
    ∙ ap (read reach (bytes_named (all_held (held_in s))) offset size) here))
    (as-op _ (NodeOp.Read fh offset size) _ _ table old done table new op
    (subst (λ (d : NodeDone). DoneBy (read reach (bytes_named (all_held (held_in s))) offset size handle) (NodeOp.Read fh offset size) call.seat table old d table new) (sym e)
    (finds-by fh offset size call.seat table (read reach (bytes_named (all_held (held_in s))) offset size handle) old asked new (f s a.lists (bytes_named (all_held (held_in s))) (told-bytes s old.told a.files)))))

-- ---- a handle, by its open file

pub read-open : (reach : Reaching) (offset size : ℕ) (file : OpenFile) (allowed : Allowed) (old : TreeIs) (asked : Asked) (new : TreeIs) → IsAllowed reach file allowed →
    FindsAny size (λ bytes. errs_if (not file.read) ebadf (errs_if (not allowed.read) eacces (read_name bytes offset size file.name))) old asked new → FindsAny size (λ bytes. read_open reach bytes offset size file) old asked new
read-open reach offset size file allowed old asked new i f = λ bytes h.
    subst (λ (b : Bool). Finds size (errs_if (not file.read) ebadf (errs_if (not b) eacces (read_name bytes offset size file.name))) old asked new) i.read_is (f bytes h)
