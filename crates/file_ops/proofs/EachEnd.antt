-- What is so of each end of a walk is so of what comes of it.
use Rattle.std.proofs.Common.{◌≡◌, ◌&&◌, ℕ, List, [], ◌∷◌, Bool, true, false, cond, Option, Some, None, refl}
use Rattle.portal_base.specs.declared.files.ChildName.{ChildName}
use Rattle.portal_base.specs.declared.files.Look.{Look}
use Rattle.portal_model.specs.declared.naming.Naming.{Naming}
use Rattle.portal_model.specs.declared.opening.TakenGeneration.{TakenGeneration}
use Rattle.portal_model.specs.Node.{taken_after}
use Rattle.portal_model.specs.NodeVerdict.{NodeVerdict, FileChange, FilesStay, Writes, Resizes, Creates, Adds, Stands, NameChange, Names, NamesStay, Temps, Errs, Yields, OnFile, OnHandle, Spot, by_file_handle, by_look, by_place, errs_if, if_file, spot}
use Rattle.portal_model.specs.declared.handle.Handle.{Handle}
use Rattle.portal_model.specs.Place.{Exported, Folder, Sight, SightBelow, SightOfFile, SightOfFolder, SightOfTemp}
use Rattle.portal_model.specs.Reach.{OpenFile, open_file_of}
use Rattle.portal_model.specs.Walk.{Walk, Answers, Looks, Ends, Lists, walked_with}
use Rattle.node_looks.specs.Done.{file_change, name_change}
use Rattle.file_ops.specs.SeatNames.{namings_after}
use Rattle.file_ops.specs.SeatTemps.{HeldTemps, held_after}

abbrev pub Each : (NodeVerdict → Bool) → Walk NodeVerdict → Type 0
Each p (Answers v) = p v ≡ true
Each p (Looks target next) = (look : Look) → Each p (next look)
Each p (Ends call done missing) = ((now : ℕ) → p (done now) ≡ true) × (p missing ≡ true)
Each p (Lists path done missing) = ((names : List ChildName) → p (done names) ≡ true) × (p missing ≡ true)

-- so of an answer that came, where one did
abbrev pub so_of : (NodeVerdict → Bool) → Option NodeVerdict → Bool
so_of p None = true
so_of p (Some v) = p v

pub each-walked : (p : NodeVerdict → Bool) (w : Walk NodeVerdict) (now : ℕ) (listed : Option (List ChildName)) (looks : List Look) (failed : Bool) → Each p w → so_of p (walked_with w now listed looks failed) ≡ true
each-walked p (Answers v) now listed looks failed h = h
each-walked p (Looks target next) now listed [] failed h = refl
each-walked p (Looks target next) now listed (look ∷ looks) failed h = each-walked p (next look) now listed looks failed (h look)
each-walked p (Ends call done missing) now listed [] true h = refl
each-walked p (Ends call done missing) now listed [] false h = h.0 now
each-walked p (Ends call done missing) now listed (look ∷ looks) failed h = h.1
each-walked p (Lists path done missing) now listed looks true h = refl
each-walked p (Lists path done missing) now None looks false h = h.1
each-walked p (Lists path done missing) now (Some names) looks false h = h.0 names

-- ---- what a request spares

-- it names nothing below exported folders
abbrev pub names_nothing : NameChange → Bool
names_nothing NamesStay = true
names_nothing (Names naming) = false
names_nothing (Temps change) = true

-- it changes no temporary
abbrev pub leaves_temps : NameChange → Bool
leaves_temps NamesStay = true
leaves_temps (Names naming) = true
leaves_temps (Temps change) = false

-- it takes no generation
abbrev pub takes_none : FileChange → Bool
takes_none FilesStay = true
takes_none (Writes name offset content now) = true
takes_none (Resizes name size now) = true
takes_none (Creates path now) = true
takes_none (Adds name now) = false
takes_none (Stands name) = true

abbrev pub spares_names : NodeVerdict → Bool
spares_names (Errs errno) = true
spares_names (Yields d) = names_nothing d.names

abbrev pub spares_temps : NodeVerdict → Bool
spares_temps (Errs errno) = true
spares_temps (Yields d) = leaves_temps d.names && takes_none d.file

-- all of it
abbrev pub is_quiet : NodeVerdict → Bool
is_quiet (Errs errno) = true
is_quiet (Yields d) = names_nothing d.names && (leaves_temps d.names && takes_none d.file)

first-of : (a b : Bool) → (a && b) ≡ true → a ≡ true
first-of true b h = refl
first-of false b h = h

second-of : (a b : Bool) → (a && b) ≡ true → b ≡ true
second-of true b h = h
second-of false b h = cc

pub quiet-names : (v : Option NodeVerdict) → so_of is_quiet v ≡ true → so_of spares_names v ≡ true
quiet-names None h = refl
quiet-names (Some (Errs errno)) h = refl
quiet-names (Some (Yields d)) h = first-of (names_nothing d.names) (leaves_temps d.names && takes_none d.file) h

pub quiet-temps : (v : Option NodeVerdict) → so_of is_quiet v ≡ true → so_of spares_temps v ≡ true
quiet-temps None h = refl
quiet-temps (Some (Errs errno)) h = refl
quiet-temps (Some (Yields d)) h = second-of (names_nothing d.names) (leaves_temps d.names && takes_none d.file) h

-- ---- what stays

names-stay : (change : NameChange) → names_nothing change ≡ true → (namings : List Naming) → namings_after change namings ≡ namings
names-stay NamesStay h namings = refl
names-stay (Names naming) h namings = cc
names-stay (Temps change) h namings = refl

held-stay : (change : NameChange) → leaves_temps change ≡ true → (has : HeldTemps) → held_after change has ≡ has
held-stay NamesStay h has = refl
held-stay (Names naming) h has = refl
held-stay (Temps change) h has = cc

none-taken : (change : FileChange) → takes_none change ≡ true → (taken : List TakenGeneration) → taken_after change taken ≡ taken
none-taken FilesStay h taken = refl
none-taken (Writes name offset content now) h taken = refl
none-taken (Resizes name size now) h taken = refl
none-taken (Creates path now) h taken = refl
none-taken (Adds name now) h taken = cc
none-taken (Stands name) h taken = refl

pub spared-names : (v : Option NodeVerdict) → so_of spares_names v ≡ true → (namings : List Naming) → namings_after (name_change v) namings ≡ namings
spared-names None h namings = refl
spared-names (Some (Errs errno)) h namings = refl
spared-names (Some (Yields d)) h namings = names-stay d.names h namings

pub spared-held : (v : Option NodeVerdict) → so_of spares_temps v ≡ true → (has : HeldTemps) → held_after (name_change v) has ≡ has
spared-held None h has = refl
spared-held (Some (Errs errno)) h has = refl
spared-held (Some (Yields d)) h has = held-stay d.names (first-of (leaves_temps d.names) (takes_none d.file) h) has

pub spared-taken : (v : Option NodeVerdict) → so_of spares_temps v ≡ true → (taken : List TakenGeneration) → taken_after (file_change v) taken ≡ taken
spared-taken None h taken = refl
spared-taken (Some (Errs errno)) h taken = refl
spared-taken (Some (Yields d)) h taken = none-taken d.file (second-of (leaves_temps d.names) (takes_none d.file) h) taken

-- ---- parts of a walk

module _ (p : NodeVerdict → Bool) (errors : (errno : ℕ) → p (Errs errno) ≡ true) where
  pub refused : (b : Bool) (errno : ℕ) (w : Walk NodeVerdict) → Each p w → Each p (errs_if b errno w)
  refused true errno w h = errors errno
  refused false errno w h = h

  pub either : (b : Bool) (w u : Walk NodeVerdict) → Each p w → Each p u → Each p (cond b w u)
  either true w u h k = h
  either false w u h k = k

  pub looked : (next : OnFile) → ((generation size moment : ℕ) → Each p (next generation size moment)) → (look : Look) → Each p (if_file next look)
  looked next h (Look.File generation size moment) = h generation size moment
  looked next h Look.Folder = errors _
  looked next h Look.Missing = errors _

  at_look : (view : ℕ) (at : Spot) (file : Spot → OnFile) (folder : Folder → Walk NodeVerdict) → ((generation size moment : ℕ) → Each p (file at generation size moment)) → ((f : Folder) → Each p (folder f)) → (look : Look) → Each p (by_look view at file folder look)
  at_look view at file folder h k (Look.File generation size moment) = h generation size moment
  at_look view at file folder h k Look.Folder = k (Exported view at.document at.path at.may_write)
  at_look view at file folder h k Look.Missing = errors _

  pub placed : (sight : Option Sight) (file : Spot → OnFile) (folder : Folder → Walk NodeVerdict) → ((at : Spot) (generation size moment : ℕ) → Each p (file at generation size moment)) → ((f : Folder) → Each p (folder f)) → Each p (by_place sight file folder)
  placed None file folder h k = errors _
  placed (Some (SightOfFile d may_write)) file folder h k = looked (file (spot d d.path may_write)) (h (spot d d.path may_write))
  placed (Some (SightOfTemp d name may_write)) file folder h k = looked (file (spot d name.path may_write)) (h (spot d name.path may_write))
  placed (Some (SightBelow view d path may_write)) file folder h k = at_look view (spot d path may_write) file folder (h (spot d path may_write)) k
  placed (Some (SightOfFolder f)) file folder h k = k f

  pub handled : (handle : Option Handle) (next : OnHandle) → ((file : OpenFile) → Each p (next file)) → Each p (by_file_handle handle next)
  handled None next h = errors _
  handled (Some (Handle.File name node document strict read write)) next h = h (open_file_of name node document strict read write)
  handled (Some (Handle.Folder node names)) next h = errors _
