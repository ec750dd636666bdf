-- A file is made only where its path has none, since the files behind it differ in path.
use Rattle.std.proofs.Common.{◌≡◌, ℕ, List, [], ◌∷◌, map, Bool, true, false, cond, Some, None, refl, sym, ap, subst, ◌∙◌}
use Rattle.std.specs.List.{AllByRecursion, IsDistinct}
use Rattle.std.specs.Ordering.{is_lt}
use Rattle.file_generations.specs.Generations.{Held}
use Rattle.portal_base.specs.Content.{file_at, paths_of}
use Rattle.portal_base.specs.FileChanges.{new_file, put_file}
use Rattle.portal_base.specs.Names.{is_same}
use Rattle.portal_base.specs.PathOrder.{path_order}
use Rattle.portal_base.specs.declared.files.File.{File}
use Rattle.portal_model.specs.declared.entry.Entry.{Entry}
use Rattle.portal_model.specs.Node.{files_after}
use Rattle.portal_model.specs.NodeVerdict.{FileChange, FilesStay, Writes, Resizes, Creates, Adds, Stands}
use Rattle.portal_model.specs.State.{State, held_in}
use Rattle.portal_model.specs.Step.{after, reply_at}
use Rattle.portal_model.specs.Valid.{Valid}
use Rattle.portal_model.proofs.TripleOrder.{is_same-sym}
use Rattle.app_world.specs.Touched.{is_done}
use Rattle.trace_items.specs.FilesChanged.{CanCome, IsFree}
use Rattle.tree_files.specs.Kept.{NamesDiffer}

none-same : (p : List ℕ) (fs : List File) →
    AllByRecursion (λ q. is_same p q ≡ false) (paths_of fs) → file_at fs p ≡ None
none-same p [] h = refl
none-same p (f ∷ fs) h =
    ap (λ (b : Bool). cond b (Some f) (file_at fs p)) (is_same-sym f.path p ∙ h.0)
    ∙ none-same p fs h.1

of-put : (P : List ℕ → Type 0) (f : File) (fs : List File) →
    AllByRecursion P (paths_of (put_file f fs)) → P f.path
of-put P f [] h = h.0
of-put P f (g ∷ gs) h = step (is_lt (path_order f.path g.path)) h (of-put P f gs)
  where
    step : (b : Bool) → AllByRecursion P (paths_of (cond b (f ∷ g ∷ gs) (g ∷ put_file f gs))) →
        (AllByRecursion P (paths_of (put_file f gs)) → P f.path) → P f.path
    step true k more = k.0
    step false k more = more k.1

put-fresh : (f : File) (fs : List File) → IsDistinct is_same (paths_of (put_file f fs)) →
    file_at fs f.path ≡ None
unfolding IsDistinct
put-fresh f [] h = refl
put-fresh f (g ∷ gs) h = step (is_lt (path_order f.path g.path)) h (put-fresh f gs)
  where
    step : (b : Bool) → IsDistinct is_same (paths_of (cond b (f ∷ g ∷ gs) (g ∷ put_file f gs))) →
        (IsDistinct is_same (paths_of (put_file f gs)) → file_at gs f.path ≡ None) →
        cond (is_same g.path f.path) (Some g) (file_at gs f.path) ≡ None
    step true k more = none-same f.path (g ∷ gs) k.0
    step false k more =
        ap (λ (b : Bool). cond b (Some g) (file_at gs f.path))
        (of-put (λ q. is_same g.path q ≡ false) f gs k.0) ∙ more k.1

fresh : (change : FileChange) (held : Held) →
    IsDistinct is_same (map (λ (f : File). f.path) (files_after true change held).present) → IsFree change held
fresh FilesStay held h = tt
fresh (Writes name offset content now) held h = tt
fresh (Resizes name size now) held h = tt
fresh (Creates path now) held h = put-fresh (new_file path now) held.present h
fresh (Adds name now) held h = tt
fresh (Stands name) held h = tt

pub fresh-next : (s t : State) (e : Entry) (change : FileChange) (files : Held) (done : Bool) →
    held_in s ≡ files → t ≡ after s e → Valid s → Valid t →
    held_in (after s e) ≡ cond (is_done (reply_at s e).answer) (files_after true change (held_in s)) (held_in s) →
    done ≡ is_done (reply_at s e).answer → done ≡ true → CanCome change files
fresh-next s t e change files done same goes before valid files_are told well = record {
  free =
      fresh change files (subst (λ (h : Held). IsDistinct is_same (map (λ (f : File). f.path) h.present))
      (ap held_in goes
      ∙ (files_are
      ∙ (ap (λ (b : Bool). cond b (files_after true change (held_in s)) (held_in s)) (sym told ∙ well)
      ∙ ap (files_after true change) same)))
      valid.files_differ);
  names =
      subst NamesDiffer same
      (record { differ = before.generations_sound.differ; apart = before.generations_sound.apart });
}
