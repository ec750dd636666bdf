-- What a file is after a change of it.
use Rattle.std.proofs.Common.{◌≡◌, ℕ, List, [], ◌∷◌, Bool, true, false, cond, Option, Some, None, is_some, refl, sym, ap, ◌∙◌}
use Rattle.std.specs.Option.{option_map}
use Rattle.std.specs.Ordering.{is_lt}
use Rattle.file_generations.specs.Generations.{Held, all_held, change_held, is_held, turned}
use Rattle.portal_base.specs.Content.{file_named}
use Rattle.portal_base.specs.FileChanges.{cut_to, new_file, overlaid, put_file, resized, written}
use Rattle.portal_base.specs.Names.{is_same}
use Rattle.portal_base.specs.PathOrder.{path_order}
use Rattle.portal_base.specs.declared.files.File.{File}
use Rattle.portal_base.specs.declared.files.FileName.{FileName}
use Rattle.portal_base.specs.declared.files.Look.{Look}
use Rattle.portal_model.specs.Content.{Content, OfFile, content_at, content_of, file_at, has_room, is_folder, look_at}
use Rattle.portal_model.proofs.FilesValid.{missing-is}
use Rattle.portal_model.proofs.ListLookups.{is_same-refl}
use Rattle.app_world.specs.Node.{content_named}
use Rattle.app_world.specs.Shown.{bytes_in}
use Rattle.app_world.specs.View.{NamedFile}
use Rattle.app_world.proofs.FileChangeLaws.{turned-there}
use Rattle.app_world.proofs.HeldFiles.{SoundTree, changed-then, found-name}
use Rattle.app_world.proofs.NamedFiles.{name-itself, named_in, named_of}

-- ---- a file that is there

-- what a file is by its name, where its bytes and its moment are these
content-then : (files : List File) (name : FileName) (bytes : List ℕ) (moment : ℕ) → named_in files name ≡ Some (record { name = name; bytes = bytes; moment = moment }) → content_named files name ≡ OfFile name.generation bytes moment
content-then files name bytes moment e = step (file_named files name) refl e
  where
    step : (o : Option File) → file_named files name ≡ o → option_map (named_of name) o ≡ Some (record { name = name; bytes = bytes; moment = moment }) → content_of o false false ≡ OfFile name.generation bytes moment
    step None k h = cc
    step (Some g) k h =
        let same : named_of name g ≡ record { name = name; bytes = bytes; moment = moment } = cc in
        let named = found-name files name g k in
        λ i. OfFile (ap (λ (n : FileName). n.generation) named i) (ap (λ (x : NamedFile). x.bytes) same i) (ap (λ (x : NamedFile). x.moment) same i)

module _ (held : Held) (name : FileName) (there : is_held held name ≡ true) where
  changed-now : (new : List ℕ → List ℕ) (now : ℕ) (change : File → File) → ((f : File) → change f ≡ record f { bytes = new f.bytes; moment = now }) →
      content_named (all_held (change_held name change held)) name ≡ OfFile name.generation (new (bytes_in (content_named (all_held held) name))) now
  changed-now new now change c = step (file_named (all_held held) name) refl there
    where
      old : List ℕ
      old = bytes_in (content_named (all_held held) name)

      step : (o : Option File) → file_named (all_held held) name ≡ o → is_some o ≡ true → content_named (all_held (change_held name change held)) name ≡ OfFile name.generation (new old) now
      step None e h = cc
      step (Some f) e h =
          let bytes : (change f).bytes ≡ new old = ap (λ (x : File). x.bytes) (c f) ∙ ap (λ (o : Option File). new (bytes_in (content_of o false false))) (sym e) in
          let moment : (change f).moment ≡ now = ap (λ (x : File). x.moment) (c f) in
          content-then (all_held (change_held name change held)) name (new old) now
          (changed-then name change (λ g. ap (λ (x : File). x.path) (c g)) (λ g. ap (λ (x : File). x.generation) (c g)) held f e name
          ∙ (ap (λ (b : Bool). cond b (Some (record { name = name; bytes = (change f).bytes; moment = (change f).moment })) (named_in (all_held held) name)) (name-itself name)
          ∙ (λ i. Some (record { name = name; bytes = bytes i; moment = moment i }))))

  -- a write of some bytes
  pub written-now : (offset b : ℕ) (bs : List ℕ) (now : ℕ) →
      content_named (all_held (change_held name (written offset (b ∷ bs) now) held)) name ≡ OfFile name.generation (overlaid (bytes_in (content_named (all_held held) name)) offset (b ∷ bs)) now
  written-now offset b bs now = changed-now (λ old. overlaid old offset (b ∷ bs)) now (written offset (b ∷ bs) now) (λ f. refl)

  pub resized-now : (size now : ℕ) →
      content_named (all_held (change_held name (resized size now) held)) name ≡ OfFile name.generation (cut_to size (bytes_in (content_named (all_held held) name))) now
  resized-now size now = changed-now (λ old. cut_to size old) now (resized size now) (λ f. refl)

-- ---- a file that becomes the present one of its path

-- what it was it is then, there and by its name
pub record IsThere (held : Held) (name : FileName) : Type 0 where
  pub bytes : List ℕ
  pub moment : ℕ
  pub was : content_named (all_held held) name ≡ OfFile name.generation bytes moment
  pub stands : content_at (turned name held).present name.path ≡ OfFile name.generation bytes moment

pub turned-now : (held : Held) → SoundTree held → (name : FileName) → is_held held name ≡ true → IsThere held name
turned-now held t name there = step (file_named (all_held held) name) refl there
  where
    step : (o : Option File) → file_named (all_held held) name ≡ o → is_some o ≡ true → IsThere held name
    step None e h = cc
    step (Some f) e h =
        let number : f.generation ≡ name.generation = ap (λ (n : FileName). n.generation) (found-name (all_held held) name f e) in
        record {
          bytes = f.bytes;
          moment = f.moment;
          was = ap (λ (o : Option File). content_of o false false) e ∙ (λ i. OfFile (number i) f.bytes f.moment);
          stands = turned-there held t name f e ∙ (λ i. OfFile (number i) f.bytes f.moment);
        }

-- ---- a file that is made

put-found : (new : File) (fs : List File) → file_at fs new.path ≡ None → file_at (put_file new fs) new.path ≡ Some new
put-found new [] e = ap (λ (b : Bool). cond {A = Option File} b (Some new) None) (is_same-refl new.path)
put-found new (f ∷ fs) e = by_path (is_same f.path new.path) refl e (put-found new fs)
  where
    by_path : (b : Bool) → is_same f.path new.path ≡ b → cond b (Some f) (file_at fs new.path) ≡ None → (file_at fs new.path ≡ None → file_at (put_file new fs) new.path ≡ Some new) →
        file_at (cond (is_lt (path_order new.path f.path)) (new ∷ f ∷ fs) (f ∷ put_file new fs)) new.path ≡ Some new
    by_path true k g rest = cc
    by_path false k g rest = elim (is_lt (path_order new.path f.path)) as (λ b. file_at (cond b (new ∷ f ∷ fs) (f ∷ put_file new fs)) new.path ≡ Some new) [
      | true ↦ ap (λ (b : Bool). cond b (Some new) (file_at (f ∷ fs) new.path)) (is_same-refl new.path)
      | false ↦ ap (λ (b : Bool). cond b (Some f) (file_at (put_file new fs) new.path)) k ∙ rest g
    ]

pub made-now : (files : List File) (path : List ℕ) (now : ℕ) → look_at files path ≡ Look.Missing → content_at (put_file (new_file path now) files) path ≡ OfFile 0 [] now
made-now files path now missing =
    ap (λ (o : Option File). content_of o (is_folder (put_file (new_file path now) files) path) (has_room (put_file (new_file path now) files) path))
    (put-found (new_file path now) files (missing-is files path missing).0)
