-- The paths and the files that a view names: those of what its application sees at a node, and of its open files.
use Rattle.std.proofs.Common.{◌≡◌, ℕ, zero, suc, ◌==◌, List, [], ◌∷◌, ◌++◌, map, Bool, true, false, not, ◌||◌, cond, Option, Some, None, is_some, refl, ap, ◌∙◌, sym}
use Rattle.std.specs.List.{filter, find, flat_map, list_all, list_any}
use Rattle.std.specs.Option.{option_map}
use Rattle.portal_base.specs.Content.{is_above}
use Rattle.portal_base.specs.Names.{is_same, named_child, root}
use Rattle.portal_base.specs.declared.files.FileName.{FileName}
use Rattle.portal_model.specs.declared.handle.Handle.{Handle}
use Rattle.portal_model.specs.declared.naming.Naming.{Naming}
use Rattle.portal_model.specs.declared.place.Place.{Place}
use Rattle.portal_model.specs.declared.state.Document.{Document}
use Rattle.portal_model.specs.declared.temporary.OwnTemp.{OwnTemp}
use Rattle.portal_model.specs.declared.temporary.Temp.{Temp}
use Rattle.portal_model.specs.Place.{Exported, Folder, FolderOf, RootOf, Views, Sight, SightBelow, SightOfFile, SightOfFolder, SightOfTemp, id_of_node, place_named, sight_at_path}
use Rattle.portal_model.specs.SeatNames.{naming_of, temp_of}
use Rattle.portal_model.proofs.DocumentChanges.{first_of_both, second_of_both}
use Rattle.portal_model.proofs.ListLookups.{found_passes, is_same-eq, is_same-refl, nat_is}
use Rattle.portal_model.proofs.NodeValid.{Asking, IsSoundSight, child_above, child_is}
use Rattle.app_world.specs.Node.{in_own_view, own_handle_of, own_numbers, own_place, own_sight, own_sight_at, own_sight_below, own_sight_of_folder, own_sight_of_naming, own_sight_of_own_temp, own_sight_of_place, own_sight_of_temp}
use Rattle.app_world.specs.View.{AppView, HeldDocument, OwnConnection, OwnHandle, covers, folder_paths, found_connection, found_document, holds_name, is_among, is_at_or_below, is_folder_document, is_held_name, is_plain_document, names, names_held, names_of_connection, names_of_handle, paths_of_connection, same_name, paths_of_handle, paths_where, knows}
use Rattle.app_world.proofs.NamedFiles.{held-joined, name-itself}
use Rattle.app_world.proofs.ViewLaws.{among-joined}

or-first : (a b : Bool) → a ≡ true → (a || b) ≡ true
or-first true b g = refl
or-first false b g = cc

or-second : (a : Bool) {b : Bool} → b ≡ true → (a || b) ≡ true
or-second true g = refl
or-second false g = g

-- what is true of the paths of what is seen: of those at which it is looked, and of the folders whose names are looked
-- at too; of a temporary; and of a document in whose folder temporaries stand
module _ (On Beneath : List ℕ → Type 0) (Known : FileName → Type 0) (Of : Document → Type 0) where
  abbrev pub FolderOn : Folder → Type 0
  FolderOn (RootOf view numbers has_views) = Unit {0}
  FolderOn (Views applications) = Unit {0}
  FolderOn (FolderOf view d may_write) = On d.path × Of d
  FolderOn (Exported view d path may_write) = Beneath path

  abbrev pub SightOn : Option Sight → Type 0
  SightOn None = Unit {0}
  SightOn (Some (SightOfFile d may_write)) = On d.path
  SightOn (Some (SightOfTemp d name may_write)) = Known name
  SightOn (Some (SightBelow view d path may_write)) = Beneath path
  SightOn (Some (SightOfFolder f)) = FolderOn f

-- and of its document
module _ (Held : Document → Type 0) (Its : FileName → Type 0) where
  abbrev FolderHeld : Folder → Type 0
  FolderHeld (RootOf view numbers has_views) = Unit {0}
  FolderHeld (Views applications) = Unit {0}
  FolderHeld (FolderOf view d may_write) = Held d
  FolderHeld (Exported view d path may_write) = Held d

  abbrev pub SightHeld : Option Sight → Type 0
  SightHeld None = Unit {0}
  SightHeld (Some (SightOfFile d may_write)) = Held d
  SightHeld (Some (SightOfTemp d name may_write)) = Its name
  SightHeld (Some (SightBelow view d path may_write)) = Held d
  SightHeld (Some (SightOfFolder f)) = FolderHeld f

module _ (Known : FileName → Type 0) where
  abbrev pub HandleOn : Option Handle → Type 0
  HandleOn None = Unit {0}
  HandleOn (Some (Handle.File name node document strict read write)) = Known name
  HandleOn (Some (Handle.Folder node entries)) = Unit {0}

-- ---- a document

module _ (test : Document → Bool) where
  abbrev among_test : List HeldDocument → List ℕ → Bool
  among_test ds path = is_among (paths_where test ds) path

  first_where : (d x : HeldDocument) (ds : List HeldDocument) (o : Option HeldDocument) (b : Bool) → cond b (Some d) o ≡ Some x → test x.document ≡ true → (o ≡ Some x → among_test ds x.document.path ≡ true) → among_test (d ∷ ds) x.document.path ≡ true
  first_where d x ds o true f t g =
      let same : d ≡ x = cc in
      let passes : test d.document ≡ true = ap (λ (y : HeldDocument). test y.document) same ∙ t in
      ap (λ (b : Bool). is_among (map (λ (y : HeldDocument). y.document.path) (cond b (d ∷ filter (λ (y : HeldDocument). test y.document) ds) (filter (λ (y : HeldDocument). test y.document) ds))) x.document.path) passes
      ∙ or-first (is_same d.document.path x.document.path) (among_test ds x.document.path) (ap (λ (y : HeldDocument). is_same y.document.path x.document.path) same ∙ is_same-refl x.document.path)
  first_where d x ds o false f t g = elim (test d.document) as (λ b. is_among (map (λ (y : HeldDocument). y.document.path) (cond b (d ∷ filter (λ (y : HeldDocument). test y.document) ds) (filter (λ (y : HeldDocument). test y.document) ds))) x.document.path ≡ true) [
    | true ↦ or-second (is_same d.document.path x.document.path) (g f)
    | false ↦ g f
  ]

  path_where : (ds : List HeldDocument) (number : ℕ) (x : HeldDocument) → found_document ds number ≡ Some x → test x.document ≡ true → among_test ds x.document.path ≡ true
  path_where [] number x e t = cc
  path_where (d ∷ ds) number x e t = first_where d x ds (found_document ds number) (d.document.id.number == number) e t (λ f. path_where ds number x f t)

-- the document is in the view
abbrev pub HeldIn : AppView → Document → Type 0
HeldIn v d =
    (is_folder_document d ≡ true → is_among (folder_paths v.documents) d.path ≡ true)
    × (is_plain_document d ≡ true → is_among (paths_where is_plain_document v.documents) d.path ≡ true)
    × (is_some (found_document v.documents d.id.number) ≡ true)

module _ (v : AppView) (Its : FileName → Type 0) where
  pub found_held : (number : ℕ) (x : HeldDocument) → found_document v.documents number ≡ Some x → HeldIn v x.document
  found_held number x e =
      let same : x.document.id.number ≡ number = nat_is x.document.id.number number (found_passes (λ (d : HeldDocument). d.document.id.number == number) v.documents x e) in (
        λ t. path_where is_folder_document v.documents number x e t,
        λ t. path_where is_plain_document v.documents number x e t,
        ap (λ (n : ℕ). is_some (found_document v.documents n)) same ∙ ap is_some e,
      )

  abbrev SeenHeld : Option Sight → Type 0
  SeenHeld sight = SightHeld (HeldIn v) Its sight

  at_path_on : (view : ℕ) (d : Document) (b w : Bool) → HeldIn v d → SeenHeld (Some (sight_at_path view d b w))
  at_path_on view d true w h = h
  at_path_on view d false w h = h

  file_on : (view number : ℕ) (o : Option HeldDocument) → found_document v.documents number ≡ o → SeenHeld (own_sight view o)
  file_on view number None e = tt
  file_on view number (Some d) e = elim d.rights.read as (λ b. SeenHeld (cond b (Some (sight_at_path view d.document d.document.folder d.rights.write)) None)) [
    | true ↦ at_path_on view d.document d.document.folder d.rights.write (found_held number d e)
    | false ↦ tt
  ]

  below_on : (view : ℕ) (path : List ℕ) (number : ℕ) (o : Option HeldDocument) → found_document v.documents number ≡ o → SeenHeld (own_sight_below view path o)
  below_on view path number None e = tt
  below_on view path number (Some d) e = elim d.rights.read as (λ b. SeenHeld (cond b (Some (SightBelow view d.document path d.rights.write)) None)) [
    | true ↦ found_held number d e
    | false ↦ tt
  ]

  folder_on : (view number : ℕ) (o : Option HeldDocument) → found_document v.documents number ≡ o → SeenHeld (own_sight_of_folder view o)
  folder_on view number None e = tt
  folder_on view number (Some d) e = elim d.rights.read as (λ b. SeenHeld (cond b (Some (SightOfFolder (FolderOf view d.document d.rights.write))) None)) [
    | true ↦ found_held number d e
    | false ↦ tt
  ]

  -- a temporary of a document of the view
  abbrev pub IsIts : Temp → Type 0
  IsIts t = (x : HeldDocument) → found_document v.documents t.document.number ≡ Some x → Its t.file

  temp_on : (t : Temp) (o : Option HeldDocument) → found_document v.documents t.document.number ≡ o → IsIts t → SeenHeld (own_sight_of_temp t.file o)
  temp_on t None e h = tt
  temp_on t (Some d) e h = elim d.rights.read as (λ b. SeenHeld (cond b (Some (SightOfTemp d.document t.file d.rights.write)) None)) [
    | true ↦ h d e
    | false ↦ tt
  ]

  in_on : (k : ℕ) (sight : Option Sight) → SeenHeld sight → SeenHeld (in_own_view k sight)
  in_on zero sight h = h
  in_on (suc k) sight h = tt

  naming_on : (view : ℕ) (naming : Option Naming) → SeenHeld (own_sight_of_naming v view naming)
  naming_on view None = tt
  naming_on view (Some n) = elim (n.view == view) as (λ b. SeenHeld (cond b (own_sight_below view n.path (found_document v.documents n.document.number)) None)) [
    | true ↦ below_on view n.path n.document.number (found_document v.documents n.document.number) refl
    | false ↦ tt
  ]

  -- what stands by the number of a node
  abbrev TempIts : Option Temp → Type 0
  TempIts temp = (t : Temp) → temp ≡ Some t → IsIts t

  own_temp_on : (view : ℕ) (temp : Option Temp) → TempIts temp → SeenHeld (own_sight_of_own_temp v view temp)
  own_temp_on view None h = tt
  own_temp_on view (Some t) h = elim (t.view == view) as (λ b. SeenHeld (cond b (own_sight_of_temp t.file (found_document v.documents t.document.number)) None)) [
    | true ↦ temp_on t (found_document v.documents t.document.number) refl (h t refl)
    | false ↦ tt
  ]

  there_on : (naming : Option Naming) (temp : Option Temp) → TempIts temp → (p : Place) → SeenHeld (own_sight_of_place v naming temp p)
  there_on naming temp h (Place.Root k) = in_on k (Some (SightOfFolder (RootOf k (own_numbers v.documents) false))) tt
  there_on naming temp h Place.ByApp = tt
  there_on naming temp h (Place.Folder k id) = in_on k (own_sight_of_folder k (found_document v.documents id.number)) (folder_on k id.number (found_document v.documents id.number) refl)
  there_on naming temp h (Place.File k id) = in_on k (own_sight k (found_document v.documents id.number)) (file_on k id.number (found_document v.documents id.number) refl)
  there_on naming temp h (Place.Named k n) = in_on k (own_sight_of_naming v k naming) (naming_on k naming)
  there_on naming temp h (Place.Temporary k n) = in_on k (own_sight_of_own_temp v k temp) (own_temp_on k temp h)

  at_on : (naming : Option Naming) (temp : Option Temp) → TempIts temp → (p : Option Place) → SeenHeld (own_sight_at v naming temp p)
  at_on naming temp h None = tt
  at_on naming temp h (Some p) = there_on naming temp h p

  -- what is seen at a node is of a document of the view
  pub place_on : (c : OwnConnection) → ((k : ℕ) (t : Temp) → temp_of c.temps k ≡ Some t → IsIts t) → (node : ℕ) → SightHeld (HeldIn v) Its (own_place v c node)
  place_on c h node = at_on (naming_of c.namings (id_of_node node)) (temp_of c.temps (id_of_node node)) (h (id_of_node node)) (place_named node)

module _ (v : AppView) where
  -- ---- of what the view then tells

  among-covers : (fs : List (List ℕ)) (folder path : List ℕ) → is_among fs folder ≡ true → is_at_or_below folder path ≡ true → list_any (λ (x : List ℕ). is_at_or_below x path) fs ≡ true
  among-covers [] folder path e h = cc
  among-covers (x ∷ fs) folder path e h = step (is_same x folder) refl e (λ k. among-covers fs folder path k h)
    where
      step : (b : Bool) → is_same x folder ≡ b → (b || is_among fs folder) ≡ true → (is_among fs folder ≡ true → list_any (λ (y : List ℕ). is_at_or_below y path) fs ≡ true) → (is_at_or_below x path || list_any (λ (y : List ℕ). is_at_or_below y path) fs) ≡ true
      step true g k more = or-first (is_at_or_below x path) (list_any (λ (y : List ℕ). is_at_or_below y path) fs) (ap (λ (y : List ℕ). is_at_or_below y path) (is_same-eq x folder g) ∙ h)
      step false g k more = or-second (is_at_or_below x path) (more k)

  abbrev pub Told : List ℕ → Type 0
  Told path = knows v path ≡ true

  abbrev pub Covered : List ℕ → Type 0
  Covered path = covers v path ≡ true

  pub covered-told : (path : List ℕ) → Covered path → Told path
  covered-told path h = or-second (names v path) h

  pub named-told : (path : List ℕ) → names v path ≡ true → Told path
  named-told path h = or-first (names v path) (covers v path) h

  covered-by : (d : Document) (path : List ℕ) → HeldIn v d → d.folder ≡ true → is_at_or_below d.path path ≡ true → Covered path
  covered-by d path h f k = among-covers (folder_paths v.documents) d.path path (h.0 f) k

  pub held-told : (d : Document) → HeldIn v d → Told d.path
  held-told d h = step d.folder refl
    where
      step : (b : Bool) → d.folder ≡ b → Told d.path
      step true e = covered-told d.path (covered-by d d.path h e (or-first (is_same d.path d.path) (is_above d.path d.path) (is_same-refl d.path)))
      step false e =
          named-told d.path
          (among-joined (paths_where is_plain_document v.documents) (flat_map paths_of_connection v.connections) d.path
          ∙ or-first (is_among (paths_where is_plain_document v.documents) d.path) (is_among (flat_map paths_of_connection v.connections) d.path) (h.1 (ap not e)))

  -- what is seen at a node, where that is sound
  module _ (Known : FileName → Type 0) (Of : Document → Type 0) (temps : (d : Document) → HeldIn v d → Of d) where
    pub sight-told : (a : Asking) (node : ℕ) (o : Option Sight) → SightHeld (HeldIn v) Known o → IsSoundSight a node o → SightOn Told Covered Known Of o
    sight-told a node None h k = tt
    sight-told a node (Some (SightOfFile d may_write)) h k = held-told d h
    sight-told a node (Some (SightOfTemp d name may_write)) h k = h
    sight-told a node (Some (SightBelow view d path may_write)) h k = covered-by d path h k.0.folder k.0.below
    sight-told a node (Some (SightOfFolder (RootOf view numbers has_views))) h k = tt
    sight-told a node (Some (SightOfFolder (Views applications))) h k = tt
    sight-told a node (Some (SightOfFolder (FolderOf view d may_write))) h k = (held-told d h, temps d h)
    sight-told a node (Some (SightOfFolder (Exported view d path may_write))) h k = covered-by d path h k.folder k.below

  -- a name in a folder that is told of is told of
  pub child-told : list_all (λ (x : List ℕ). not (is_same x root)) (folder_paths v.documents) ≡ true → (path name p : List ℕ) → Covered path → named_child path name ≡ Some p → Told p
  child-told roots path name p h e = covered-told p (all_below (folder_paths v.documents) roots h)
    where
      not_root : (b : Bool) → not b ≡ true → b ≡ false
      not_root true k = cc
      not_root false k = refl

      one_below : (folder : List ℕ) → not (is_same folder root) ≡ true → is_at_or_below folder path ≡ true → is_at_or_below folder p ≡ true
      one_below folder r k = or-second (is_same p folder) (ap (is_above folder) (sym (child_is path name p e).1) ∙ child_above folder path name (not_root (is_same folder root) r) k)

      all_below : (fs : List (List ℕ)) → list_all (λ (x : List ℕ). not (is_same x root)) fs ≡ true → list_any (λ (x : List ℕ). is_at_or_below x path) fs ≡ true → list_any (λ (x : List ℕ). is_at_or_below x p) fs ≡ true
      all_below [] r k = cc
      all_below (x ∷ fs) r k = step (is_at_or_below x path) refl k (all_below fs (second_of_both (not (is_same x root)) (list_all (λ (y : List ℕ). not (is_same y root)) fs) r)) (first_of_both (not (is_same x root)) (list_all (λ (y : List ℕ). not (is_same y root)) fs) r)
        where
          step : (b : Bool) → is_at_or_below x path ≡ b → (b || list_any (λ (y : List ℕ). is_at_or_below y path) fs) ≡ true → (list_any (λ (y : List ℕ). is_at_or_below y path) fs ≡ true → list_any (λ (y : List ℕ). is_at_or_below y p) fs ≡ true) → not (is_same x root) ≡ true → (is_at_or_below x p || list_any (λ (y : List ℕ). is_at_or_below y p) fs) ≡ true
          step true g m more r = or-first (is_at_or_below x p) (list_any (λ (y : List ℕ). is_at_or_below y p) fs) (one_below x r g)
          step false g m more r = or-second (is_at_or_below x p) (more m)

-- ---- an open file

module _ (On More : FileName → Type 0) (f : (name : FileName) → On name → More name) where
  pub handle_more : (o : Option Handle) → HandleOn On o → HandleOn More o
  handle_more None h = tt
  handle_more (Some (Handle.File name node document strict read write)) h = f name h
  handle_more (Some (Handle.Folder node entries)) h = tt

abbrev Among : List (List ℕ) → List ℕ → Type 0
Among paths path = is_among paths path ≡ true

abbrev AmongNames : List FileName → FileName → Type 0
AmongNames names name = is_held_name names name ≡ true

-- a file that the handles of a list name, and its path
abbrev Names : List (List ℕ) → List FileName → FileName → Type 0
Names paths names name = Among paths name.path × AmongNames names name

own_on : (h : Handle) → HandleOn (Names (paths_of_handle h) (names_of_handle h)) (Some h)
own_on (Handle.File name node document strict read write) = (
  or-first (is_same name.path name.path) false (is_same-refl name.path),
  or-first (same_name name name) false (name-itself name),
)
own_on (Handle.Folder node entries) = tt

abbrev handle_paths : List OwnHandle → List (List ℕ)
handle_paths hs = flat_map (λ (h : OwnHandle). paths_of_handle h.handle) hs

abbrev handle_names : List OwnHandle → List FileName
handle_names hs = flat_map (λ (h : OwnHandle). names_of_handle h.handle) hs

first_on : (h : OwnHandle) (rest : List (List ℕ)) (others : List FileName) (b : Bool) (o : Option OwnHandle) → HandleOn (Names rest others) (option_map (λ (x : OwnHandle). x.handle) o) →
    HandleOn (Names (paths_of_handle h.handle ++ rest) (names_of_handle h.handle ++ others)) (option_map (λ (x : OwnHandle). x.handle) (cond b (Some h) o))
first_on h rest others true o g =
    handle_more (Names (paths_of_handle h.handle) (names_of_handle h.handle)) (Names (paths_of_handle h.handle ++ rest) (names_of_handle h.handle ++ others)) (λ name k. (
      among-joined (paths_of_handle h.handle) rest name.path ∙ or-first (is_among (paths_of_handle h.handle) name.path) (is_among rest name.path) k.0,
      held-joined (names_of_handle h.handle) others name ∙ or-first (is_held_name (names_of_handle h.handle) name) (is_held_name others name) k.1,
    )) (Some h.handle) (own_on h.handle)
first_on h rest others false o g =
    handle_more (Names rest others) (Names (paths_of_handle h.handle ++ rest) (names_of_handle h.handle ++ others)) (λ name k. (
      among-joined (paths_of_handle h.handle) rest name.path ∙ or-second (is_among (paths_of_handle h.handle) name.path) k.0,
      held-joined (names_of_handle h.handle) others name ∙ or-second (is_held_name (names_of_handle h.handle) name) k.1,
    )) (option_map (λ (x : OwnHandle). x.handle) o) g

handle_on : (hs : List OwnHandle) (fh : ℕ) → HandleOn (Names (handle_paths hs) (handle_names hs)) (own_handle_of hs fh)
handle_on [] fh = tt
handle_on (h ∷ hs) fh = first_on h (handle_paths hs) (handle_names hs) (h.fh == fh) _ (handle_on hs fh)

first_of : (c x : OwnConnection) (cs : List OwnConnection) (path : List ℕ) (b : Bool) (o : Option OwnConnection) → cond b (Some x) o ≡ Some c → Among (paths_of_connection c) path → (o ≡ Some c → Among (flat_map paths_of_connection cs) path) →
    Among (paths_of_connection x ++ flat_map paths_of_connection cs) path
first_of c x cs path true o e h rest =
    let same : c ≡ x = cc in
    among-joined (paths_of_connection x) (flat_map paths_of_connection cs) path ∙ or-first (is_among (paths_of_connection x) path) (is_among (flat_map paths_of_connection cs) path) (ap (λ (y : OwnConnection). is_among (paths_of_connection y) path) (sym same) ∙ h)
first_of c x cs path false o e h rest = among-joined (paths_of_connection x) (flat_map paths_of_connection cs) path ∙ or-second (is_among (paths_of_connection x) path) (rest e)

connection_on : (cs : List OwnConnection) (seat : ℕ) (c : OwnConnection) (path : List ℕ) → found_connection cs seat ≡ Some c → Among (paths_of_connection c) path → Among (flat_map paths_of_connection cs) path
connection_on [] seat c path e h = cc
connection_on (x ∷ cs) seat c path e h = first_of c x cs path (x.seat == seat) (found_connection cs seat) e h (λ f. connection_on cs seat c path f h)

first_names : (c x : OwnConnection) (cs : List OwnConnection) (name : FileName) (b : Bool) (o : Option OwnConnection) → cond b (Some x) o ≡ Some c → AmongNames (names_of_connection c) name → (o ≡ Some c → AmongNames (names_held cs) name) →
    AmongNames (names_of_connection x ++ names_held cs) name
first_names c x cs name true o e h rest =
    let same : c ≡ x = cc in
    held-joined (names_of_connection x) (names_held cs) name ∙ or-first (is_held_name (names_of_connection x) name) (is_held_name (names_held cs) name) (ap (λ (y : OwnConnection). is_held_name (names_of_connection y) name) (sym same) ∙ h)
first_names c x cs name false o e h rest = held-joined (names_of_connection x) (names_held cs) name ∙ or-second (is_held_name (names_of_connection x) name) (rest e)

pub connection_names : (cs : List OwnConnection) (seat : ℕ) (c : OwnConnection) (name : FileName) → found_connection cs seat ≡ Some c → AmongNames (names_of_connection c) name → AmongNames (names_held cs) name
connection_names [] seat c name e h = cc
connection_names (x ∷ cs) seat c name e h = first_names c x cs name (x.seat == seat) (found_connection cs seat) e h (λ f. connection_names cs seat c name f h)

-- an open handle of the connection of a seat
pub handle_named : (v : AppView) (seat : ℕ) (c : OwnConnection) → found_connection v.connections seat ≡ Some c → (fh : ℕ) → HandleOn (λ (name : FileName). (names v name.path ≡ true) × (holds_name v name ≡ true)) (own_handle_of c.handles fh)
handle_named v seat c e fh =
    handle_more (Names (handle_paths c.handles) (handle_names c.handles)) (λ (name : FileName). (names v name.path ≡ true) × (holds_name v name ≡ true))
    (λ name h. (
      among-joined (paths_where is_plain_document v.documents) (flat_map paths_of_connection v.connections) name.path
          ∙ or-second (is_among (paths_where is_plain_document v.documents) name.path) (connection_on v.connections seat c name.path e h.0),
      connection_names v.connections seat c name e
          (held-joined (handle_names c.handles) (map (λ (t : OwnTemp). t.temp.file) c.temps) name
          ∙ or-first (is_held_name (handle_names c.handles) name) (is_held_name (map (λ (t : OwnTemp). t.temp.file) c.temps) name) h.1),
    ))
    (own_handle_of c.handles fh) (handle_on c.handles fh)

-- and a temporary of it
pub temp_named : (v : AppView) (seat : ℕ) (c : OwnConnection) → found_connection v.connections seat ≡ Some c → (p : OwnTemp → Bool) (t : OwnTemp) → find p c.temps ≡ Some t → holds_name v t.temp.file ≡ true
temp_named v seat c e p t f =
    connection_names v.connections seat c t.temp.file e
    (held-joined (handle_names c.handles) (map (λ (x : OwnTemp). x.temp.file) c.temps) t.temp.file
    ∙ or-second (is_held_name (handle_names c.handles) t.temp.file) (among_temps c.temps f))
  where
    among_temps : (ts : List OwnTemp) → find p ts ≡ Some t → is_held_name (map (λ (x : OwnTemp). x.temp.file) ts) t.temp.file ≡ true
    among_temps [] g = cc
    among_temps (x ∷ ts) g = step (p x) g (among_temps ts)
      where
        step : (b : Bool) → cond b (Some x) (find p ts) ≡ Some t → (find p ts ≡ Some t → is_held_name (map (λ (y : OwnTemp). y.temp.file) ts) t.temp.file ≡ true) → (same_name x.temp.file t.temp.file || is_held_name (map (λ (y : OwnTemp). y.temp.file) ts) t.temp.file) ≡ true
        step true h more =
            let same : x ≡ t = cc in
            or-first (same_name x.temp.file t.temp.file) (is_held_name (map (λ (y : OwnTemp). y.temp.file) ts) t.temp.file) (ap (λ (y : OwnTemp). same_name y.temp.file t.temp.file) same ∙ name-itself t.temp.file)
        step false h more = or-second (same_name x.temp.file t.temp.file) (more h)
