-- How an UNLINK follows its walk.
use Rattle.std.proofs.Common.{◌≡◌, ℕ, List, Bool, true, false, not, Option, Some, None, refl, sym, ap, subst, ◌∙◌}
use Rattle.host_tree.specs.Trees.{TreeIs}
use Rattle.host_tree.specs.declared.tree.LookAnswer.{LookAnswer}
use Rattle.open_handles.specs.Opened.{HandleTable}
use Rattle.portal_model.specs.declared.temporary.OwnTemp.{OwnTemp}
use Rattle.portal_model.specs.Errno.{eacces, enotdir, eperm}
use Rattle.portal_model.specs.NodeVerdict.{HandlesStay, NodeVerdict, errs, errs_if}
use Rattle.portal_model.specs.Place.{Sight}
use Rattle.portal_model.specs.Rename.{Home, with_seen}
use Rattle.portal_model.specs.Unlink.{unlink_at}
use Rattle.portal_model.specs.Walk.{Walk}
use Rattle.save_files.specs.Tables.{TempTable}
use Rattle.node_looks.specs.declared.served.NodeDone.{NodeDone}
use Rattle.node_looks.proofs.DoneLemmas.{handles-stay}
use Rattle.file_ops.specs.Creates.{Saving}
use Rattle.file_ops.specs.Homes.{IsSeenAs, home_told}
use Rattle.file_ops.specs.Renames.{IsRefusal, IsRemoved, IsUncalledThere, drop_walk, removing_by, unlink_seen}
use Rattle.file_ops.specs.Tries.{Goes, done_behind, done_of_ended, done_of_tried, refuses}
use Rattle.file_ops.specs.declared.homes.HomeSeen.{HomeSeen}
use Rattle.file_ops.specs.declared.homes.What.{What}
use Rattle.file_ops.specs.declared.tried.Ended.{Ended}
use Rattle.file_ops.specs.declared.tried.Tried.{Tried}
use Rattle.file_ops.specs.declared.unlinked.Removing.{Removing}
use Rattle.file_ops.proofs.Moves.{done-same, errs-spare, leads-on}
use Rattle.file_ops.proofs.SettledOwn.{temps-same}
use Rattle.file_ops.proofs.Tries.{refuses-goes, walk-goes}

-- ---- refusals

as-refusal : (w : Walk NodeVerdict) (errno : ℕ) (shown : Option LookAnswer) (old new : TreeIs) (removing : Removing) → Goes w old (done_behind shown (refuses errno)) HandlesStay new → removing ≡ Removing.Refused (record { look = shown; ended = refuses errno }) → IsRemoved w old removing new
as-refusal w errno shown old new removing g e = subst (λ (x : Removing). IsRemoved w old x new) (sym e) (record { errno = errno; ended = refl; goes = g })

pub refusal-so : (w : Walk NodeVerdict) (errno : ℕ) (t : TreeIs) (removing : Removing) → w ≡ errs errno → removing ≡ Removing.Refused (record { look = None; ended = refuses errno }) → IsRemoved w t removing t
refusal-so w errno t removing e is = as-refusal w errno None t t removing (walk-goes w (errs errno) t (done_of_ended (refuses errno)) HandlesStay t e (refuses-goes errno t)) is

pub too-long : (w : Walk NodeVerdict) (errno : ℕ) (t : TreeIs) (tried : Tried) (ended : Ended) → w ≡ errs errno → tried ≡ record { look = None; ended = ended } → ended ≡ refuses errno → IsRemoved w t (Removing.Refused tried) t
too-long w errno t tried ended e n f =
    let is : tried ≡ record { look = None; ended = refuses errno } = n ∙ ap (λ (x : Ended). record { look = None; ended = x }) f in
    refusal-so w errno t (Removing.Refused tried) e (ap Removing.Refused is)

-- one walk for another that is the same
pub removed-along : (v w : Walk NodeVerdict) (old new : TreeIs) (removing : Removing) → v ≡ w → IsRemoved w old removing new → IsRemoved v old removing new
removed-along v w old new removing e h = subst (λ (x : Walk NodeVerdict). IsRemoved x old removing new) (sym e) h

-- no call is reached
pub refused-uncalled : (removing : Removing) (shown : Option LookAnswer) (errno : ℕ) → removing ≡ Removing.Refused (record { look = shown; ended = refuses errno }) → IsUncalledThere removing
refused-uncalled removing shown errno e = subst IsUncalledThere (sym e) refl

pub uncalled-there : (removing : Removing) (tried : Tried) → removing ≡ Removing.Refused tried → IsUncalledThere removing → tried.ended.call ≡ None
uncalled-there removing tried e h = subst IsUncalledThere e h

-- ---- by what is seen at the folder

module _ (name : List ℕ) (temps : List OwnTemp) (sight : Option Sight) (old new : TreeIs) (shown : Option LookAnswer) (what : What) (seen : IsSeenAs sight old shown what new) (removing : Removing) where
  abbrev removes : Walk NodeVerdict
  removes = with_seen sight (unlink_seen name temps)

  seen-as : (w : What) → what ≡ w → IsSeenAs sight old shown w new
  seen-as w e = subst (λ (x : What). IsSeenAs sight old shown x new) e seen

  pub nothing-removed : (errno : ℕ) → what ≡ What.Nothing errno → removing ≡ Removing.Refused (record { look = shown; ended = refuses errno }) → IsRemoved removes old removing new
  nothing-removed errno w e =
      let refused : IsSeenAs sight old shown (What.Nothing errno) new = seen-as (What.Nothing errno) w in
      as-refusal removes errno shown old new removing (refused (unlink_seen name temps)) e

  pub file-removed : what ≡ What.File → removing ≡ Removing.Refused (record { look = shown; ended = refuses enotdir }) → IsRemoved removes old removing new
  file-removed w e =
      let l = leads-on sight old shown What.File new tt (seen-as What.File w) in
      as-refusal removes enotdir shown old new removing
      (subst (λ (d : NodeDone). Goes removes old d HandlesStay new) (done-same shown enotdir l.2.unfailed)
      (l.2.goes (unlink_seen name temps) (done_of_ended (refuses enotdir)) HandlesStay new
      (walk-goes (unlink_seen name temps l.0) (errs enotdir) new (done_of_ended (refuses enotdir)) HandlesStay new (ap (unlink_seen name temps) l.1) (refuses-goes enotdir new)))) e

  pub folder-removed : what ≡ What.Folder None → removing ≡ Removing.Refused (record { look = shown; ended = refuses eperm }) → IsRemoved removes old removing new
  folder-removed w e =
      let l = leads-on sight old shown (What.Folder None) new tt (seen-as (What.Folder None) w) in
      as-refusal removes eperm shown old new removing
      (subst (λ (d : NodeDone). Goes removes old d HandlesStay new) (done-same shown eperm l.2.unfailed)
      (l.2.goes (unlink_seen name temps) (done_of_ended (refuses eperm)) HandlesStay new
      (walk-goes (unlink_seen name temps l.0) (errs eperm) new (done_of_ended (refuses eperm)) HandlesStay new
      (ap (unlink_seen name temps) l.1.1 ∙ ap (λ (h : Option Home). unlink_at name temps h) l.1.2) (refuses-goes eperm new)))) e

  pub home-removed : (h : HomeSeen) → what ≡ What.Folder (Some h) → IsRemoved (unlink_at name temps (Some (home_told h))) old removing old → IsRemoved removes old removing new
  home-removed h w m =
      let i : IsSeenAs sight old shown (What.Folder (Some h)) new = seen-as (What.Folder (Some h)) w in
      subst (λ (t : TreeIs). IsRemoved removes old removing t) (sym i.2.tree)
      (removed-along removes (unlink_at name temps (Some (home_told h))) old old removing (i.2.walk (unlink_seen name temps) ∙ ap (λ (x : Option Home). unlink_at name temps x) i.1) m)

-- ---- the temporary

by-right : (b : Bool) (k : ℕ) (w : Walk NodeVerdict) (t : TreeIs) → w ≡ errs_if (not b) eacces (drop_walk k) → IsRemoved w t (removing_by b k) t
by-right true k w t e = (e, refl)
by-right false k w t e = refusal-so w eacces t (removing_by false k) e refl

pub temp-removed : (b : Bool) (k : ℕ) (w : Walk NodeVerdict) (t : TreeIs) (removing : Removing) → w ≡ errs_if (not b) eacces (drop_walk k) → removing ≡ removing_by b k → IsRemoved w t removing t
temp-removed b k w t removing e is = subst (λ (x : Removing). IsRemoved w t x t) (sym is) (by-right b k w t e)

right-uncalled : (b : Bool) (k : ℕ) → IsUncalledThere (removing_by b k)
right-uncalled true k = tt
right-uncalled false k = refl

pub temp-uncalled : (b : Bool) (k : ℕ) (removing : Removing) → removing ≡ removing_by b k → IsUncalledThere removing
temp-uncalled b k removing e = subst IsUncalledThere (sym e) (right-uncalled b k)

-- ---- what is done

pub refused-there : (w : Walk NodeVerdict) (seat : ℕ) (table : HandleTable) (temps : TempTable) (old new : TreeIs) (tried : Tried) (removing : Removing) (done : NodeDone) → IsRemoved w old removing new → removing ≡ Removing.Refused tried → done ≡ done_of_tried tried → Saving w seat table temps old done table temps new
refused-there w seat table temps old new tried removing done m k d =
    let h : IsRefusal w old tried new = subst (λ (x : Removing). IsRemoved w old x new) k m in
    subst (λ (x : NodeDone). Saving w seat table temps old x table temps new) (sym d)
    (record {
      opening = record { change = HandlesStay; goes = h.goes; handled = handles-stay seat table };
      saved = temps-same seat h.goes.verdict temps (errs-spare h.goes.verdict h.errno (sym h.goes.answer ∙ ap (λ (e : Ended). e.answer) h.ended));
    })
