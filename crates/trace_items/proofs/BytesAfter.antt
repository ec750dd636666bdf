-- What a view is told of a change of a file is the file as it is afterwards; and which files a view has.
use Rattle.std.proofs.Common.{◌≡◌, ◌&&◌, ◌||◌, ℕ, List, [], ◌∷◌, ◌++◌, map, Bool, true, false, cond, Option, Some, None, is_some, option_map, refl, sym, ap, ◌∙◌}
use Rattle.std.specs.List.{find, list_any}
use Rattle.file_generations.specs.Generations.{Held, all_held, is_held}
use Rattle.portal_base.specs.Content.{file_at, file_named, has_room, is_folder}
use Rattle.portal_base.specs.FileChanges.{new_file, put_file}
use Rattle.portal_base.specs.declared.files.File.{File}
use Rattle.portal_base.specs.declared.files.FileName.{FileName}
use Rattle.portal_base.specs.declared.files.Look.{Look}
use Rattle.portal_model.specs.Content.{Content, NotThere, OfFile, content_of, look_at}
use Rattle.portal_model.specs.Node.{files_after}
use Rattle.portal_model.specs.NodeVerdict.{FileChange, FilesStay, Writes, Resizes, Creates, Adds, Stands}
use Rattle.portal_model.specs.State.{State, held_in}
use Rattle.portal_model.specs.Valid.{Valid}
use Rattle.portal_model.proofs.FilesValid.{missing-is}
use Rattle.app_world.specs.Effect.{Bytes, Turned}
use Rattle.app_world.specs.Node.{content_named, file_effects, first_of, has_file}
use Rattle.app_world.specs.Shown.{covering, is_file, of_generation, own_content, shown, shown_below, shown_file}
use Rattle.app_world.specs.View.{AppView, NamedFile, PathBelow, below_at, covers, folder_of, folder_paths, holds_name, is_at_or_below, knows, named_paths, names, path_below, path_content, view}
use Rattle.app_world.proofs.BelowLaws.{any-put_all-key}
use Rattle.app_world.proofs.ContentLaws.{contents-found}
use Rattle.app_world.proofs.FileChangeLaws.{is_standing, stands}
use Rattle.app_world.proofs.HeldFiles.{SoundTree, first-followed, found-name, of_number, put-then, turned-named}
use Rattle.app_world.proofs.NamedFiles.{name-itself, named-found, named_in, named_of}
use Rattle.app_world.proofs.NamesHostPaths.{folders-there}
use Rattle.app_world.proofs.ShownLaws.{content-on, held-there, of_generation-is, stands-there}
use Rattle.app_world.proofs.ViewedNames.{tree-sound}
use Rattle.app_world.proofs.WalksAlong.{AnyName, CanChange}
use Rattle.file_laws.proofs.ChangedContents.{resized-now, written-now}
use Rattle.trace_items.specs.FilesChanged.{is_present, is_of_generation, told_of_change}

-- ---- a change

-- what a file is by its name, where its bytes and its moment are these
content-then : (files : List File) (name : FileName) (bytes : List ℕ) (moment : ℕ) → named_in files name ≡ Some (record { name = name; bytes = bytes; moment = moment }) → content_named files name ≡ OfFile name.generation bytes moment
content-then files name bytes moment e = step (file_named files name) refl e
  where
    step : (o : Option File) → file_named files name ≡ o → option_map (named_of name) o ≡ Some (record { name = name; bytes = bytes; moment = moment }) → content_of o false false ≡ OfFile name.generation bytes moment
    step None k h = cc
    step (Some g) k h =
        let same : named_of name g ≡ record { name = name; bytes = bytes; moment = moment } = cc in
        let named = found-name files name g k in
        λ i. OfFile (ap (λ (n : FileName). n.generation) named i) (ap (λ (x : NamedFile). x.bytes) same i) (ap (λ (x : NamedFile). x.moment) same i)

module _ (held : Held) (sound : SoundTree held) where
  -- a first file is none beside the present ones where none is present
  none-first : (path : List ℕ) → look_at held.present path ≡ Look.Missing → file_named (all_held held) (first_of path) ≡ None
  none-first path missing = step (file_named (all_held held) (first_of path)) refl
    where
      step : (o : Option File) → file_named (all_held held) (first_of path) ≡ o → o ≡ None
      step None e = refl
      step (Some f) e =
          let there : is_some (file_at held.present path) ≡ true = first-followed held sound (first_of path) refl (ap is_some e) in
          let no : false ≡ true = sym (ap is_some (missing-is held.present path missing).0) ∙ there in
          cc

  made-after : (path : List ℕ) (now : ℕ) → look_at held.present path ≡ Look.Missing → content_named (held.hidden ++ put_file (new_file path now) held.present) (first_of path) ≡ OfFile 0 [] now
  made-after path now missing =
      content-then (held.hidden ++ put_file (new_file path now) held.present) (first_of path) [] now
      (put-then held.hidden held.present (new_file path now) (none-first path missing) (first_of path)
      ∙ ap (λ (b : Bool). cond b (Some (record { name = first_of path; bytes = []; moment = now })) (named_in (all_held held) (first_of path))) (name-itself (first_of path)))

  pub effects-after : (v : AppView) (change : FileChange) → CanChange held AnyName AnyName change → file_effects v (content_named (all_held held)) change ≡ told_of_change v change (files_after true change held)
  effects-after v FilesStay h = refl
  effects-after v (Writes name offset [] now) h = refl
  effects-after v (Writes name offset (b ∷ bs) now) h =
      ap (λ (c : Content). cond (has_file v name) (Bytes name.path name.generation c ∷ []) []) (sym (written-now held name h offset b bs now))
  effects-after v (Resizes name size now) h =
      ap (λ (c : Content). cond (has_file v name) (Bytes name.path name.generation c ∷ []) []) (sym (resized-now held name h size now))
  effects-after v (Creates path now) h =
      ap (λ (c : Content). cond (knows v path) (Bytes path 0 c ∷ []) []) (sym (made-after path now h.0))
  effects-after v (Adds name now) h = refl
  effects-after v (Stands name) h =
      ap (λ (o : Option File). cond (knows v name.path) (Turned name.path name.generation (content_of o false false) ∷ []) []) (sym (turned-named held sound name name))

-- ---- the files that a view has

either-false : (a b : Bool) → (a || b) ≡ false → (a ≡ false) × (b ≡ false)
either-false true b h = cc
either-false false b h = (refl, h)

none-found : {X : Type 0} (p : X → Bool) (xs : List X) → list_any p xs ≡ false → find p xs ≡ None
none-found p [] h = refl
none-found p (x ∷ xs) h = step (p x) h (none-found p xs)
  where
    step : (b : Bool) → (b || list_any p xs) ≡ false → (list_any p xs ≡ false → find p xs ≡ None) → cond b (Some x) (find p xs) ≡ None
    step true k more = cc
    step false k more = more k

any-below : (files : List File) (path : List ℕ) (fs : List (List ℕ)) → list_any (λ (b : PathBelow). is_at_or_below b.path path) (map (path_below files) fs) ≡ list_any (λ x. is_at_or_below x path) fs
any-below files path [] = refl
any-below files path (x ∷ fs) = ap (λ (b : Bool). is_at_or_below x path || b) (any-below files path fs)

-- no folder covers it
uncovered : (files : List File) (fs : List (List ℕ)) (path : List ℕ) → list_any (λ x. is_at_or_below x path) fs ≡ false → covering (below_at files fs) path ≡ None
uncovered files fs path h =
    none-found (λ (b : PathBelow). is_at_or_below b.path path) (below_at files fs)
    (any-put_all-key folder_of (λ x. is_at_or_below x path) (map (path_below files) fs) ∙ (any-below files path fs ∙ h))

module _ (app : List ℕ) (s : State) (valid : Valid s) (told : s.told ≡ true) where
  abbrev v : AppView
  v = view s app

  -- nothing is told of another path
  untold : (path : List ℕ) → knows v path ≡ false → own_content v path ≡ NotThere false
  untold path h =
      let parts = either-false (names v path) (covers v path) h in
      ap (shown v.below path) (contents-found s.files path (named_paths v.documents v.connections) ∙ ap (λ (b : Bool). cond b (Some (path_content s.files path)) None) parts.0)
      ∙ ap (shown_below path) (uncovered s.files (folder_paths v.documents) path parts.1)

  -- by its name alone the view doesn't have it
  unnamed : (name : FileName) → holds_name v name ≡ false → has_file v name ≡ is_file (of_generation name.generation (own_content v name.path))
  unnamed name h =
      ap (λ o. is_file (shown_file name.generation (own_content v name.path) o))
      (named-found (all_held (held_in s)) name _ ∙ ap (λ (b : Bool). cond b (named_in (all_held (held_in s)) name) None) h)

  beside : (name : FileName) → knows v name.path ≡ true → is_present (held_in s) name ≡ false → is_file (of_generation name.generation (own_content v name.path)) ≡ false
  beside name on h =
      ap (λ (c : Content). is_file (of_generation name.generation c)) (content-on app s (tree-sound app s valid) (folders-there app s valid told) name.path on)
      ∙ (ap is_file (of_generation-is name.generation (file_at s.files name.path) (is_folder s.files name.path) (has_room s.files name.path))
      ∙ step (file_at s.files name.path) h)
    where
      step : (o : Option File) → is_of_generation name.generation o ≡ false → is_file (content_of (of_number name.generation o) false false) ≡ false
      step None k = refl
      step (Some f) k = ap (λ (b : Bool). is_file (content_of (cond b (Some f) None) false false)) k

  same-standing : (name : FileName) → is_present (held_in s) name ≡ stands (held_in s) name
  same-standing name = step (file_at s.files name.path)
    where
      step : (o : Option File) → is_of_generation name.generation o ≡ is_standing name.generation o
      step None = refl
      step (Some f) = refl

  -- it has a file that is there by its name, or since it stands at a path of which the view tells
  pub has-held : (name : FileName) → is_held (held_in s) name ≡ true → (holds_name v name || (is_present (held_in s) name && knows v name.path)) ≡ has_file v name
  has-held name there = by-name (holds_name v name) (is_present (held_in s) name) (knows v name.path) refl refl refl
    where
      by-name : (a b c : Bool) → holds_name v name ≡ a → is_present (held_in s) name ≡ b → knows v name.path ≡ c → (a || (b && c)) ≡ has_file v name
      by-name true b c e f g = sym (held-there app s (tree-sound app s valid) (folders-there app s valid told) name e there)
      by-name false true true e f g = sym (stands-there app s (tree-sound app s valid) (folders-there app s valid told) name (sym (same-standing name) ∙ f) g)
      by-name false true false e f g = sym (unnamed name e ∙ ap (λ (x : Content). is_file (of_generation name.generation x)) (untold name.path g))
      by-name false false true e f g = sym (unnamed name e ∙ beside name g f)
      by-name false false false e f g = sym (unnamed name e ∙ ap (λ (x : Content). is_file (of_generation name.generation x)) (untold name.path g))
