-- What a change of one file leaves: each folder, and what is at other paths.
use Rattle.std.proofs.Common.{◌≡◌, ℕ, ◌==◌, List, [], ◌∷◌, Bool, true, false, ◌&&◌, ◌||◌, cond, Option, Some, None, refl, sym, ap, ◌∙◌, ⊎_elim, arith}
use Rattle.std.specs.List.{list_all, list_any}
use Rattle.file_generations.specs.Generations.{Held, in_place, turned, turned_to}
use Rattle.std.specs.Ordering.{is_lt}
use Rattle.portal_base.specs.Content.{content_at, content_of, file_at, file_named, has_room, is_above, is_folder, is_named, paths_of}
use Rattle.portal_base.specs.FileChanges.{change_named, new_file, put_file, resized, written}
use Rattle.portal_base.specs.Names.{is_same, parent_of, root}
use Rattle.portal_base.specs.PathOrder.{path_order}
use Rattle.portal_base.specs.declared.files.File.{File}
use Rattle.portal_base.specs.declared.files.FileName.{FileName}
use Rattle.portal_base.proofs.PathsAbove.{above_longer, any-paths, any-put, any-up, parent-below}
use Rattle.portal_model.specs.Node.{files_after}
use Rattle.portal_model.specs.NodeVerdict.{FileChange, FilesStay, Writes, Resizes, Creates, Adds, Stands}
use Rattle.portal_model.proofs.FilesValid.{changed-paths, missing-is, written-path}
use Rattle.portal_model.proofs.GenerationsValid.{named-is}
use Rattle.portal_model.proofs.ListLookups.{found_in_all, found_passes, is_same-eq, is_same-refl}
use Rattle.portal_model.proofs.NodeValid.{Asking, FileFine}
use Rattle.folder_laws.specs.Folders.{IsOther, path_of_change}

-- what a path is, by whether it is nothing at all: each parent is something
parent-some : (p : List ℕ) → is_same (parent_of p) [] ≡ false
unfolding parent_of
parent-some p = root-some _
  where
    root-some : (x : List ℕ) → is_same (cond (is_same x []) root x) [] ≡ false
    root-some [] = refl
    root-some (b ∷ bs) = refl

-- ---- a file that changes

by-paths : (files : List File) (path : List ℕ) → is_folder files path ≡ (is_same path root || list_any (is_above path) (paths_of files))
by-paths files path = ap (λ (b : Bool). is_same path root || b) (any-paths (is_above path) files)

same-folders : (files more : List File) → paths_of more ≡ paths_of files → (path : List ℕ) → is_folder more path ≡ is_folder files path
same-folders files more e path = by-paths more path ∙ (ap (λ (ps : List (List ℕ)). is_same path root || list_any (is_above path) ps) e ∙ sym (by-paths files path))

module _ (name : FileName) (change : File → File) (keeps : (f : File) → (change f).path ≡ f.path) (p : List ℕ) (other : is_same p name.path ≡ false) where
  not-named : (f : File) → is_same f.path p ≡ true → is_named name f ≡ false
  not-named f e = ap (λ (q : List ℕ). is_same q name.path && f.generation == name.generation) (is_same-eq f.path p e) ∙ ap (λ (b : Bool). b && f.generation == name.generation) other

  found-elsewhere : (fs : List File) → file_at (change_named name change fs) p ≡ file_at fs p
  found-elsewhere [] = refl
  found-elsewhere (f ∷ fs) = step (is_same f.path p) refl (is_named name f) refl (found-elsewhere fs)
    where
      step : (b : Bool) → is_same f.path p ≡ b → (c : Bool) → is_named name f ≡ c → file_at (change_named name change fs) p ≡ file_at fs p →
          cond (is_same (cond c (change f) f).path p) (Some (cond c (change f) f)) (file_at (change_named name change fs) p) ≡ cond b (Some f) (file_at fs p)
      step true e true n h = let no : true ≡ false = sym n ∙ not-named f e in cc
      step true e false n h = ap (λ (b : Bool). cond b (Some f) (file_at (change_named name change fs) p)) e
      step false e true n h = ap (λ (q : List ℕ). cond (is_same q p) (Some (change f)) (file_at (change_named name change fs) p)) (keeps f) ∙ (ap (λ (b : Bool). cond b (Some (change f)) (file_at (change_named name change fs) p)) e ∙ h)
      step false e false n h = ap (λ (b : Bool). cond b (Some f) (file_at (change_named name change fs) p)) e ∙ h

  content-elsewhere : (fs : List File) → content_at (change_named name change fs) p ≡ content_at fs p
  content-elsewhere fs =
      let paths : paths_of (change_named name change fs) ≡ paths_of fs = changed-paths name change keeps fs in
      λ i. content_of (found-elsewhere fs i) (same-folders fs (change_named name change fs) paths p i) (same-folders fs (change_named name change fs) paths (parent_of p) i)

-- a write of no bytes
same-files : (name : FileName) (offset now : ℕ) (fs : List File) → change_named name (written offset [] now) fs ≡ fs
same-files name offset now [] = refl
same-files name offset now (f ∷ fs) = step (is_named name f) (same-files name offset now fs)
  where
    step : (b : Bool) → change_named name (written offset [] now) fs ≡ fs → cond b f f ∷ change_named name (written offset [] now) fs ≡ f ∷ fs
    step true h = ap (λ (xs : List File). f ∷ xs) h
    step false h = ap (λ (xs : List File). f ∷ xs) h

-- ---- a file that is made

found-put : (new : File) (fs : List File) (p : List ℕ) → file_at fs new.path ≡ None → is_same p new.path ≡ false → file_at (put_file new fs) p ≡ file_at fs p
found-put new fs p none other = go fs
  where
    turned : (b : Bool) → is_same new.path p ≡ b → b ≡ false
    turned true e = let no : true ≡ false = sym (is_same-refl p) ∙ (ap (is_same p) (sym (is_same-eq new.path p e)) ∙ other) in cc
    turned false e = refl

    skipped : (o : Option File) → cond (is_same new.path p) (Some new) o ≡ o
    skipped o = ap (λ (b : Bool). cond b (Some new) o) (turned (is_same new.path p) refl)

    go : (gs : List File) → file_at (put_file new gs) p ≡ file_at gs p
    go [] = skipped None
    go (g ∷ gs) = elim (is_lt (path_order new.path g.path)) as (λ b. file_at (cond b (new ∷ g ∷ gs) (g ∷ put_file new gs)) p ≡ file_at (g ∷ gs) p) [
      | true ↦ skipped (file_at (g ∷ gs) p)
      | false ↦ ap (λ (o : Option File). cond (is_same g.path p) (Some g) o) (go gs)
    ]

-- a path above the new one is a folder already
above-folder : (files : List File) (a : ℕ) (bs path : List ℕ) → has_room files path ≡ true → is_above (a ∷ bs) path ≡ true → is_folder files (a ∷ bs) ≡ true
above-folder files a bs path room h = ⊎_elim
    (λ e. ap (is_folder files) (sym e) ∙ room)
    (λ k. by_root (is_same (parent_of path) root) refl k room)
    (parent-below a bs path h)
  where
    or-right : (b c : Bool) → c ≡ true → (b || c) ≡ true
    or-right true c g = refl
    or-right false c g = g

    by_root : (b : Bool) → is_same (parent_of path) root ≡ b → is_above (a ∷ bs) (parent_of path) ≡ true → (b || list_any (λ (f : File). is_above (parent_of path) f.path) files) ≡ true → is_folder files (a ∷ bs) ≡ true
    by_root true e k r =
        let no : true ≡ false = sym k ∙ (ap (is_above (a ∷ bs)) (is_same-eq (parent_of path) root e) ∙ above_longer (a ∷ bs) root (omega arith)) in
        cc
    by_root false e k r =
        or-right (is_same (a ∷ bs) root) (list_any (λ (f : File). is_above (a ∷ bs) f.path) files)
        (any-paths (is_above (a ∷ bs)) files ∙ any-up (a ∷ bs) (parent_of path) (paths_of files) k (sym (any-paths (is_above (parent_of path)) files) ∙ r))

module _ (files : List File) (new : File) (room : has_room files new.path ≡ true) where
  folder-put : (q : List ℕ) → is_same q [] ≡ false → is_folder (put_file new files) q ≡ is_folder files q
  folder-put [] n = cc
  folder-put (a ∷ bs) n =
      ap (λ (b : Bool). is_same (a ∷ bs) root || b) (any-paths (is_above (a ∷ bs)) (put_file new files) ∙ (any-put (is_above (a ∷ bs)) new files ∙ ap (λ (b : Bool). is_above (a ∷ bs) new.path || b) (sym (any-paths (is_above (a ∷ bs)) files))))
      ∙ by_above (is_above (a ∷ bs) new.path) refl
    where
      or-last : (b : Bool) → (b || true) ≡ true
      or-last true = refl
      or-last false = refl

      by_above : (b : Bool) → is_above (a ∷ bs) new.path ≡ b → (is_same (a ∷ bs) root || (b || list_any (λ (f : File). is_above (a ∷ bs) f.path) files)) ≡ is_folder files (a ∷ bs)
      by_above true h = or-last (is_same (a ∷ bs) root) ∙ sym (above-folder files a bs new.path room h)
      by_above false h = refl

  content-put : file_at files new.path ≡ None → (p : List ℕ) → is_same p [] ≡ false → is_same p new.path ≡ false → content_at (put_file new files) p ≡ content_at files p
  content-put none p some other =
      let found : file_at (put_file new files) p ≡ file_at files p = found-put new files p none other in
      λ i. content_of (found i) (folder-put p some i) (folder-put (parent_of p) (parent-some p) i)

-- ---- a file that comes to stand at its path

module _ (path : List ℕ) (f : File) (same_path : f.path ≡ path) where
  placed-paths : (fs : List File) → paths_of (in_place path f fs) ≡ paths_of fs
  placed-paths [] = refl
  placed-paths (g ∷ gs) = λ i. step (is_same g.path path) refl i ∷ placed-paths gs i
    where
      step : (b : Bool) → is_same g.path path ≡ b → (cond b f g).path ≡ g.path
      step true e = same_path ∙ sym (is_same-eq g.path path e)
      step false e = refl

  module _ (p : List ℕ) (other : is_same p path ≡ false) where
    turned-other : (b : Bool) → is_same path p ≡ b → b ≡ false
    turned-other true e = let no : true ≡ false = sym (is_same-refl p) ∙ (ap (is_same p) (sym (is_same-eq path p e)) ∙ other) in cc
    turned-other false e = refl

    placed-elsewhere : (fs : List File) → file_at (in_place path f fs) p ≡ file_at fs p
    placed-elsewhere [] = refl
    placed-elsewhere (g ∷ gs) = step (is_same g.path path) refl (placed-elsewhere gs)
      where
        none : is_same path p ≡ false
        none = turned-other (is_same path p) refl

        step : (b : Bool) → is_same g.path path ≡ b → file_at (in_place path f gs) p ≡ file_at gs p → cond (is_same (cond b f g).path p) (Some (cond b f g)) (file_at (in_place path f gs) p) ≡ cond (is_same g.path p) (Some g) (file_at gs p)
        step true e h =
            ap (λ (b : Bool). cond b (Some f) (file_at (in_place path f gs) p)) (ap (λ (q : List ℕ). is_same q p) same_path ∙ none)
            ∙ (h ∙ ap (λ (b : Bool). cond b (Some g) (file_at gs p)) (sym (ap (λ (q : List ℕ). is_same q p) (is_same-eq g.path path e) ∙ none)))
        step false e h = ap (λ (o : Option File). cond (is_same g.path p) (Some g) o) h

    content-placed : (fs : List File) → content_at (in_place path f fs) p ≡ content_at fs p
    content-placed fs =
        λ i. content_of (placed-elsewhere fs i) (same-folders fs (in_place path f fs) (placed-paths fs) p i) (same-folders fs (in_place path f fs) (placed-paths fs) (parent_of p) i)

module _ (held : Held) (placed : list_all (λ (f : File). has_room held.present f.path) held.hidden ≡ true) (name : FileName) where
  hidden-path : (f : File) → file_named held.hidden name ≡ Some f → f.path ≡ name.path
  hidden-path f e = (named-is name f (found_passes (is_named name) held.hidden f e)).0

  hidden-room : (f : File) → file_named held.hidden name ≡ Some f → has_room held.present f.path ≡ true
  hidden-room f e = found_in_all (is_named name) (λ (g : File). has_room held.present g.path) held.hidden f e placed

  folders-turned : (p : List ℕ) → is_same p [] ≡ false → is_folder (turned name held).present p ≡ is_folder held.present p
  folders-turned p some = step (file_named held.hidden name) refl (file_at held.present name.path)
    where
      step : (o : Option File) → file_named held.hidden name ≡ o → (former : Option File) → is_folder (turned_to name o former held).present p ≡ is_folder held.present p
      step None e former = refl
      step (Some f) e None = folder-put held.present f (hidden-room f e) p some
      step (Some f) e (Some former) = same-folders held.present (in_place name.path f held.present) (placed-paths name.path f (hidden-path f e) held.present) p

  contents-turned : (p : List ℕ) → is_same p [] ≡ false → is_same p name.path ≡ false → content_at (turned name held).present p ≡ content_at held.present p
  contents-turned p some other = step (file_named held.hidden name) refl (file_at held.present name.path) refl
    where
      step : (o : Option File) → file_named held.hidden name ≡ o → (former : Option File) → file_at held.present name.path ≡ former → content_at (turned_to name o former held).present p ≡ content_at held.present p
      step None e former k = refl
      step (Some f) e None k =
          content-put held.present f (hidden-room f e) (ap (file_at held.present) (hidden-path f e) ∙ k) p some (ap (is_same p) (hidden-path f e) ∙ other)
      step (Some f) e (Some former) k = content-placed name.path f (hidden-path f e) p other held.present

-- ---- each change

abbrev tree_of : Bool → Held → Option Held
tree_of told held = cond told (Some held) None

module _ (held : Held) (placed : list_all (λ (f : File). has_room held.present f.path) held.hidden ≡ true) (asking : Asking) where
  abbrev files : List File
  files = held.present

  pub folders-after : (told : Bool) (change : FileChange) → FileFine asking (tree_of told held) change → (p : List ℕ) → is_same p [] ≡ false → is_folder (files_after told change held).present p ≡ is_folder files p
  folders-after told FilesStay h p some = refl
  folders-after true (Writes name offset content now) h p some = same-folders files (change_named name (written offset content now) files) (changed-paths name (written offset content now) (written-path offset content now) files) p
  folders-after true (Resizes name size now) h p some = same-folders files (change_named name (resized size now) files) (changed-paths name (resized size now) (λ f. refl) files) p
  folders-after true (Creates path now) h p some = folder-put files (new_file path now) (sym h.1) p some
  folders-after true (Adds name now) h p some = refl
  folders-after true (Stands name) h p some = folders-turned held placed name p some
  folders-after false (Writes name offset content now) h p some = refl
  folders-after false (Resizes name size now) h p some = refl
  folders-after false (Creates path now) h p some = refl
  folders-after false (Adds name now) h p some = refl
  folders-after false (Stands name) h p some = refl

  pub contents-after : (told : Bool) (change : FileChange) → FileFine asking (tree_of told held) change → (p : List ℕ) → is_same p [] ≡ false → IsOther p (path_of_change change) → content_at (files_after told change held).present p ≡ content_at files p
  contents-after told FilesStay h p some other = refl
  contents-after true (Writes name offset [] now) h p some other = ap (λ (fs : List File). content_at fs p) (same-files name offset now files)
  contents-after true (Writes name offset (b ∷ bs) now) h p some other = content-elsewhere name (written offset (b ∷ bs) now) (λ f. refl) p other files
  contents-after true (Resizes name size now) h p some other = content-elsewhere name (resized size now) (λ f. refl) p other files
  contents-after true (Creates path now) h p some other = content-put files (new_file path now) (sym h.1) (missing-is files path (sym h.0)).0 p some other
  contents-after true (Adds name now) h p some other = refl
  contents-after true (Stands name) h p some other = contents-turned held placed name p some other
  contents-after false (Writes name offset content now) h p some other = refl
  contents-after false (Resizes name size now) h p some other = refl
  contents-after false (Creates path now) h p some other = refl
  contents-after false (Adds name now) h p some other = refl
  contents-after false (Stands name) h p some other = refl
