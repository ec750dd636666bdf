-- What an application sees at a node is the same in the state and in its view.
use Rattle.std.proofs.Common.{◌≡◌, ℕ, zero, suc, ◌==◌, nat_lt, List, [], ◌∷◌, map, Bool, true, false, ◌&&◌, ◌||◌, cond, Option, Some, None, is_some, refl, sym, ap, ◌∙◌, arith}
use Rattle.std.specs.List.{filter, find, list_all}
use Rattle.std.specs.Option.{option_map}
use Rattle.portal_base.specs.declared.files.FileName.{FileName}
use Rattle.portal_base.specs.declared.who.Who.{Who}
use Rattle.rights_rule.specs.Rights.{RightSet}
use Rattle.portal_model.specs.declared.naming.Naming.{Naming}
use Rattle.portal_model.specs.declared.place.Place.{Place}
use Rattle.portal_model.specs.declared.state.Document.{Document}
use Rattle.portal_model.specs.declared.temporary.Temp.{Temp}
use Rattle.portal_model.specs.ListDocuments.{lower as lower_number}
use Rattle.portal_model.specs.Ordered.{is_rising, put_all}
use Rattle.portal_model.specs.Place.{FolderOf, RootOf, SightBelow, SightOfFolder, SightOfTemp, may_read as may_read_document, numbers_seen, place_named, place_of, reach_at, reach_of_subject, Sight, seen_by, sight_at, sight_at_path, sight_below, sight_of_document, sight_of_folder, sight_of_naming, sight_of_own_temp, sight_of_place, sight_of_root, sight_of_temp, subject_of, view_of_node}
use Rattle.portal_model.specs.State.{State, document_of, held_of}
use Rattle.portal_model.proofs.ListLookups.{find-filter, find-map, found_passes, nat_is}
use Rattle.portal_model.proofs.RisingLists.{rising-filter, rising-put_all}
use Rattle.app_world.specs.Node.{in_own_view, may_read, own_numbers, own_reach, own_reach_in, own_sight, own_sight_at, own_sight_below, own_sight_of_folder, own_sight_of_naming, own_sight_of_own_temp, own_sight_of_place, own_sight_of_temp}
use Rattle.app_world.specs.View.{HeldDocument, found_document, held_documents, number_of, seen, view}
use Rattle.app_world.proofs.DocumentLaws.{documents-found, documents-rising}
use Rattle.app_world.proofs.Found.{find-kept, find-put_all, kept, told-apart}
use Rattle.app_world.proofs.Orders.{numbers}

-- ---- one document

sight_bits : (view : ℕ) (d : Document) (k : RightSet) (r b : Bool) → k.read ≡ r →
    own_sight view (cond (r || b) (Some (record { document = d; rights = k })) None) ≡ cond r (Some (sight_at_path view d d.folder k.write)) None
sight_bits view d k true b e = rw e refl
sight_bits view d k false true e = rw e refl
sight_bits view d k false false e = refl

below_bits : (view : ℕ) (path : List ℕ) (d : Document) (k : RightSet) (r b : Bool) → k.read ≡ r →
    own_sight_below view path (cond (r || b) (Some (record { document = d; rights = k })) None) ≡ cond r (Some (SightBelow view d path k.write)) None
below_bits view path d k true b e = rw e refl
below_bits view path d k false true e = rw e refl
below_bits view path d k false false e = refl

temp_bits : (file : FileName) (d : Document) (k : RightSet) (r b : Bool) → k.read ≡ r →
    own_sight_of_temp file (cond (r || b) (Some (record { document = d; rights = k })) None) ≡ cond r (Some (SightOfTemp d file k.write)) None
temp_bits file d k true b e = rw e refl
temp_bits file d k false true e = rw e refl
temp_bits file d k false false e = refl

folder_bits : (view : ℕ) (d : Document) (k : RightSet) (r b : Bool) → k.read ≡ r →
    own_sight_of_folder view (cond (r || b) (Some (record { document = d; rights = k })) None) ≡ cond r (Some (SightOfFolder (FolderOf view d k.write))) None
folder_bits view d k true b e = rw e refl
folder_bits view d k false true e = rw e refl
folder_bits view d k false false e = refl

number_bits : (d : Document) (k : RightSet) (r b : Bool) → k.read ≡ r →
    option_map number_of (kept may_read (cond (r || b) (Some (record { document = d; rights = k })) None)) ≡ option_map (λ (x : Document). x.id.number) (cond r (Some d) None)
number_bits d k true b e = rw e refl
number_bits d k false true e = rw e refl
number_bits d k false false e = refl

reach_bits : (d : Document) (k : RightSet) (r w b : Bool) → k.read ≡ r → k.write ≡ w →
    own_reach_in zero (cond (r || (w || b)) (Some (record { document = d; rights = k })) None) ≡ record { read = r; write = w }
reach_bits d k true w b e f = λ i. record { read = e i; write = f i }
reach_bits d k false true b e f = λ i. record { read = e i; write = f i }
reach_bits d k false false true e f = λ i. record { read = e i; write = f i }
reach_bits d k false false false e f = refl

-- ---- the numbers that are seen

rising-keys : {X : Type 0} (key : X → ℕ) (xs : List X) → is_rising (λ x y. nat_lt (key x) (key y)) xs ≡ true → is_rising nat_lt (map key xs) ≡ true
rising-keys key [] h = refl
rising-keys key (x ∷ xs) h = grind (arith, rising-keys key xs, all-keys x xs)
  where
    all-keys : (z : _) (ys : List _) → list_all (λ y. nat_lt (key z) (key y)) ys ≡ list_all (nat_lt (key z)) (map key ys)
    all-keys z [] = refl
    all-keys z (y ∷ ys) = grind (arith, all-keys z ys)

module _ (app : List ℕ) (s : State) where
  abbrev held : ℕ → RightSet
  held n = held_of s.rights app n

  abbrev read_held : List HeldDocument
  read_held = filter may_read (held_documents held s.documents)

  abbrev read_listed : List Document
  read_listed = filter (may_read_document s.rights (Who.App app)) s.documents

  read_seen : (n : ℕ) (o : Option Document) → option_map number_of (kept may_read (seen (held n) o)) ≡ option_map (λ (x : Document). x.id.number) (cond (held n).read o None)
  read_seen n None = elim (held n).read as (λ b. None ≡ option_map (λ (x : Document). x.id.number) (cond b None None)) [ true ↦ refl | false ↦ refl ]
  read_seen n (Some d) = number_bits d (held n) (held n).read _ refl

  number_found : (n : ℕ) → find (λ m. m == n) (own_numbers (held_documents held s.documents)) ≡ find (λ m. m == n) (numbers_seen s.rights (Who.App app) s.documents)
  number_found n =
      find-map (λ m. m == n) number_of read_held
      ∙ (ap (option_map number_of) (find-kept _ _ number_of numbers may_read n (held_documents held s.documents) (documents-rising held s.documents) ∙ ap (kept may_read) (documents-found held n s.documents))
      ∙ (read_seen n (document_of s.documents n)
      ∙ sym (find-map (λ m. m == n) (λ (x : Document). x.id.number) (put_all lower_number read_listed)
      ∙ ap (option_map (λ (x : Document). x.id.number)) (find-put_all _ _ (λ (x : Document). x.id.number) numbers n read_listed
      ∙ find-filter (λ (x : Document). x.id.number == n) (may_read_document s.rights (Who.App app)) (held n).read (λ x e. ap (λ (m : ℕ). (held m).read) (nat_is x.id.number n e)) s.documents))))

  numbers-seen : own_numbers (held_documents held s.documents) ≡ numbers_seen s.rights (Who.App app) s.documents
  numbers-seen =
      told-apart _ _ (λ (n : ℕ). n) numbers (own_numbers (held_documents held s.documents)) (numbers_seen s.rights (Who.App app) s.documents)
      (rising-keys number_of read_held (rising-filter _ _ number_of numbers may_read (held_documents held s.documents) (documents-rising held s.documents)))
      (rising-keys (λ (x : Document). x.id.number) (put_all lower_number read_listed) (rising-put_all _ _ (λ (x : Document). x.id.number) numbers read_listed)) number_found

  -- ---- a place

  sight_seen : (view number : ℕ) (o : Option Document) → document_of s.documents number ≡ o → own_sight view (seen (held number) o) ≡ sight_of_document view s.rights (Who.App app) o
  sight_seen view number None e = refl
  sight_seen view number (Some d) e =
      let n : d.id.number ≡ number = nat_is d.id.number number (found_passes (λ (x : Document). x.id.number == number) s.documents d e) in
      ap (λ (m : ℕ). own_sight view (seen (held m) (Some d))) (sym n) ∙ sight_bits view d (held d.id.number) (held d.id.number).read _ refl

  below_seen : (view : ℕ) (path : List ℕ) (number : ℕ) (o : Option Document) → document_of s.documents number ≡ o → own_sight_below view path (seen (held number) o) ≡ sight_below view s.rights (Who.App app) path o
  below_seen view path number None e = refl
  below_seen view path number (Some d) e =
      let n : d.id.number ≡ number = nat_is d.id.number number (found_passes (λ (x : Document). x.id.number == number) s.documents d e) in
      ap (λ (m : ℕ). own_sight_below view path (seen (held m) (Some d))) (sym n) ∙ below_bits view path d (held d.id.number) (held d.id.number).read _ refl

  temp_seen : (file : FileName) (number : ℕ) (o : Option Document) → document_of s.documents number ≡ o → own_sight_of_temp file (seen (held number) o) ≡ sight_of_temp s.rights (Who.App app) file o
  temp_seen file number None e = refl
  temp_seen file number (Some d) e =
      let n : d.id.number ≡ number = nat_is d.id.number number (found_passes (λ (x : Document). x.id.number == number) s.documents d e) in
      ap (λ (m : ℕ). own_sight_of_temp file (seen (held m) (Some d))) (sym n) ∙ temp_bits file d (held d.id.number) (held d.id.number).read _ refl

  folder_seen : (view number : ℕ) (o : Option Document) → document_of s.documents number ≡ o → own_sight_of_folder view (seen (held number) o) ≡ sight_of_folder view s.rights (Who.App app) o
  folder_seen view number None e = refl
  folder_seen view number (Some d) e =
      let n : d.id.number ≡ number = nat_is d.id.number number (found_passes (λ (x : Document). x.id.number == number) s.documents d e) in
      ap (λ (m : ℕ). own_sight_of_folder view (seen (held m) (Some d))) (sym n) ∙ folder_bits view d (held d.id.number) (held d.id.number).read _ refl

  view_same : (k : ℕ) (own : Option Sight) (sight : Who → Option Sight) → own ≡ sight (Who.App app) → in_own_view k own ≡ seen_by (subject_of s.applications (Who.App app) k) sight
  view_same zero own sight e = e
  view_same (suc k) own sight e = refl

  naming_same : (k : ℕ) (naming : Option Naming) → own_sight_of_naming (view s app) k naming ≡ sight_of_naming s k (Who.App app) naming
  naming_same k None = refl
  naming_same k (Some n) =
      ap (λ (o : Option Sight). cond (n.view == k) o None)
      (ap (own_sight_below k n.path) (documents-found held n.document.number s.documents) ∙ below_seen k n.path n.document.number (document_of s.documents n.document.number) refl)

  temp_same : (k : ℕ) (temp : Option Temp) → own_sight_of_own_temp (view s app) k temp ≡ sight_of_own_temp s k (Who.App app) temp
  temp_same k None = refl
  temp_same k (Some t) =
      ap (λ (o : Option Sight). cond (t.view == k) o None)
      (ap (own_sight_of_temp t.file) (documents-found held t.document.number s.documents) ∙ temp_seen t.file t.document.number (document_of s.documents t.document.number) refl)

  there_same : (naming : Option Naming) (temp : Option Temp) (p : Place) → own_sight_of_place (view s app) naming temp p ≡ sight_of_place s (Who.App app) naming temp p
  there_same naming temp (Place.Root k) = view_same k (Some (SightOfFolder (RootOf k (own_numbers (held_documents held s.documents)) false))) (sight_of_root s (Who.App app) k) (ap (λ (ns : List ℕ). Some (SightOfFolder (RootOf k ns false))) numbers-seen)
  there_same naming temp Place.ByApp = refl
  there_same naming temp (Place.Folder k id) =
      view_same k (own_sight_of_folder k (found_document (held_documents held s.documents) id.number)) (λ who. sight_of_folder k s.rights who (document_of s.documents id.number))
      (ap (own_sight_of_folder k) (documents-found held id.number s.documents) ∙ folder_seen k id.number (document_of s.documents id.number) refl)
  there_same naming temp (Place.File k id) =
      view_same k (own_sight k (found_document (held_documents held s.documents) id.number)) (λ who. sight_of_document k s.rights who (document_of s.documents id.number))
      (ap (own_sight k) (documents-found held id.number s.documents) ∙ sight_seen k id.number (document_of s.documents id.number) refl)
  there_same naming temp (Place.Named k n) = view_same k (own_sight_of_naming (view s app) k naming) (λ who. sight_of_naming s k who naming) (naming_same k naming)
  there_same naming temp (Place.Temporary k n) = view_same k (own_sight_of_own_temp (view s app) k temp) (λ who. sight_of_own_temp s k who temp) (temp_same k temp)

  place_same : (naming : Option Naming) (temp : Option Temp) (p : Option Place) → own_sight_at (view s app) naming temp p ≡ sight_at s (Who.App app) naming temp p
  place_same naming temp None = refl
  place_same naming temp (Some p) = there_same naming temp p

  -- ---- what it may do now

  reach_seen : (k number : ℕ) (o : Option Document) → document_of s.documents number ≡ o → own_reach_in k (seen (held number) o) ≡ reach_of_subject s number (subject_of s.applications (Who.App app) k)
  reach_seen (suc k) number o e = refl
  reach_seen zero number None e = rw e refl
  reach_seen zero number (Some d) e = reach_bits d (held number) (held number).read (held number).write _ refl refl ∙ (λ i. record { read = is_some (sym e i) && (held number).read; write = is_some (sym e i) && (held number).write })

  pub own_reach-is : (node number : ℕ) → own_reach (view s app) node number ≡ reach_at s (Who.App app) node number
  own_reach-is node number = ap (own_reach_in (view_of_node node)) (documents-found held number s.documents) ∙ reach_seen (view_of_node node) number (document_of s.documents number) refl

  pub own_place-is : (naming : Option Naming) (temp : Option Temp) (node : ℕ) → own_sight_at (view s app) naming temp (place_named node) ≡ place_of s (Who.App app) naming temp node
  own_place-is naming temp node = place_same naming temp (place_named node)
