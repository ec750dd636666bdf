-- The calls of the tree of files that a request makes, one after another: what comes next is told
-- by what was shown so far. What the tree gives to a request, where a call may fail and whether
-- the clock is read follow from this, once for all requests on documents and on nodes.
use Rattle.std.specs.Prelude.{◌≡◌, ℕ, List, [], ◌∷◌, length, Bool, true, false, Option, Some, None, cond}
use Rattle.portal_base.specs.declared.files.ChildName.{ChildName}
use Rattle.portal_base.specs.declared.files.FileName.{FileName}
use Rattle.portal_base.specs.declared.files.File.{File}
use Rattle.portal_base.specs.declared.files.Look.{Look}
use Rattle.portal_base.specs.Content.{file_named, has_room, is_folder, look_at}
use Rattle.portal_base.specs.FolderNames.{AreInOrder, names_in}
use Rattle.file_generations.specs.Generations.{Held, all_held, is_held, may_freshen, may_turn}

-- what is looked at: what stands at a path, or the file of a name
pub data Target : Type 0 where
  AtPath : List ℕ → Target
  Named : FileName → Target

-- the last call of a walk: it needs the file of a name and leaves its moment, or changes it; or
-- it makes a file at a path, whose parent has to be a folder, or one of a name beside the present
-- ones; or the file of a name becomes the present one of its path
pub data LastCall : Type 0 where
  Uses : FileName → LastCall
  Changes : FileName → LastCall
  Makes : List ℕ → LastCall
  Freshens : FileName → LastCall
  Turns : FileName → LastCall

-- A walk answers. Or it looks at a target, and goes on as that shows. Or it ends with a call: the
-- one answer, by the moment of now, where that is done; the other where there was no such file,
-- or no place for one. Or it ends with a list of the names in a folder: the one answer by these,
-- the other where there is no folder.
pub data Walk (X : Type 0) : Type 0 where
  Answers : X → Walk X
  Looks : Target → (Look → Walk X) → Walk X
  Ends : LastCall → (ℕ → X) → X → Walk X
  Lists : List ℕ → (List ChildName → X) → X → Walk X

-- paths looked at one after another, whatever they show; what comes then is told by all of it
abbrev pub looks_at_all : {X : Type 0} → List (List ℕ) → (List Look → Walk X) → Walk X
looks_at_all [] next = next []
looks_at_all (path ∷ paths) next =
    Looks (AtPath path) (λ look. looks_at_all paths (λ looks. next (look ∷ looks)))

-- ---- what comes of a walk

-- what a list gives: the names, or that there is no folder
abbrev pub listed_by : {X : Type 0} → (List ChildName → X) → X → Option (List ChildName) → X
listed_by done missing None = missing
listed_by done missing (Some names) = done names

-- what is shown is given in order, and `failed` says that the call behind it failed; then there
-- is no answer
abbrev pub walked_with :
    {X : Type 0} → Walk X → ℕ → Option (List ChildName) → List Look → Bool → Option X
walked_with (Answers x) now listed looks failed = Some x
walked_with (Looks target next) now listed [] failed = None
walked_with (Looks target next) now listed (look ∷ looks) failed =
    walked_with (next look) now listed looks failed
walked_with (Ends call done missing) now listed [] true = None
walked_with (Ends call done missing) now listed [] false = Some (done now)
walked_with (Ends call done missing) now listed (look ∷ looks) failed = Some missing
walked_with (Lists path done missing) now listed looks true = None
walked_with (Lists path done missing) now listed looks false =
    Some (listed_by done missing listed)

-- where nothing is listed
abbrev pub walked : {X : Type 0} → Walk X → ℕ → List Look → Bool → Option X
walked walk now looks failed = walked_with walk now None looks failed

abbrev pub changes_file : LastCall → Bool
changes_file (Uses name) = false
changes_file (Changes name) = true
changes_file (Makes path) = true
changes_file (Freshens name) = true
changes_file (Turns name) = false

-- the clock is read where a call is reached that changes or makes a file
abbrev pub reads_clock : {X : Type 0} → Walk X → List Look → Bool
reads_clock (Answers x) looks = false
reads_clock (Looks target next) [] = false
reads_clock (Looks target next) (look ∷ looks) = reads_clock (next look) looks
reads_clock (Ends call done missing) looks = changes_file call
reads_clock (Lists path done missing) looks = false

abbrev pub generation_made : LastCall → Option ℕ
generation_made (Uses name) = None
generation_made (Changes name) = None
generation_made (Makes path) = None
generation_made (Freshens name) = Some name.generation
generation_made (Turns name) = None

-- the generation of the file, where a call is reached that makes one beside the present ones
abbrev pub generation_reached : {X : Type 0} → Walk X → List Look → Option ℕ
generation_reached (Answers x) looks = None
generation_reached (Looks target next) [] = None
generation_reached (Looks target next) (look ∷ looks) = generation_reached (next look) looks
generation_reached (Ends call done missing) looks = generation_made call
generation_reached (Lists path done missing) looks = None

-- ---- what a tree may give to a walk

-- what these files show at a target, and whether a last call finds what it needs
abbrev pub look_of_file : Option File → Look
look_of_file None = Look.Missing
look_of_file (Some f) = Look.File f.generation (length f.bytes) f.moment

abbrev pub shown_at : Held → Target → Look
shown_at held (AtPath path) = look_at held.present path
shown_at held (Named name) = look_of_file (file_named (all_held held) name)

abbrev pub is_found : Held → LastCall → Bool
is_found held (Uses name) = is_held held name
is_found held (Changes name) = is_held held name
is_found held (Makes path) = has_room held.present path
is_found held (Freshens name) = may_freshen held name
is_found held (Turns name) = may_turn held name

-- the file of a name is there or not: nothing else may stand for it
abbrev pub MayShow : FileName → Look → Type 0
MayShow name (Look.File generation size moment) = generation ≡ name.generation
MayShow name Look.Folder = ⊥
MayShow name Look.Missing = Unit {0}

-- a tree that tells its files shows what it has; any other whatever it likes at a path, and for a
-- name that file or nothing
abbrev pub IsShown : Option Held → Target → Look → Type 0
IsShown None (AtPath path) look = Unit {0}
IsShown None (Named name) look = MayShow name look
IsShown (Some held) target look = look ≡ shown_at held target

abbrev pub IsFound : Option Held → LastCall → Bool → Type 0
IsFound None call found = Unit {0}
IsFound (Some held) call found = found ≡ is_found held call

-- the names that these files give to a folder, where there is one
abbrev pub names_listed : List File → List ℕ → Option (List ChildName)
names_listed files path = cond (is_folder files path) (Some (names_in files path)) None

-- names are listed in byte order, and are those of the files that a tree tells
abbrev pub IsListed : Option Held → List ℕ → Option (List ChildName) → Type 0
IsListed None path None = Unit {0}
IsListed None path (Some names) = AreInOrder names
IsListed (Some held) path listed = listed ≡ names_listed held.present path

-- The looks are just those that the walk uses. Where a call failed, they are those ahead of it,
-- and the walk makes that call. A last call that found nothing shows one look more, that nothing
-- is there.
abbrev pub Gives : {X : Type 0} → Option Held → Walk X → List Look → Bool → Type 0
Gives tree (Answers x) looks failed = (looks ≡ []) × (failed ≡ false)
Gives tree (Looks target next) [] failed = failed ≡ true
Gives tree (Looks target next) (look ∷ looks) failed =
    IsShown tree target look × Gives tree (next look) looks failed
Gives tree (Ends call done missing) [] true = Unit {0}
Gives tree (Ends call done missing) [] false = IsFound tree call true
Gives tree (Ends call done missing) (look ∷ looks) failed =
    (look ≡ Look.Missing) × (looks ≡ []) × (failed ≡ false) × IsFound tree call false
Gives tree (Lists path done missing) looks failed = looks ≡ []

-- Names are listed just where the walk ends with a list that doesn't fail, and there is a folder.
abbrev pub GivesNames :
    {X : Type 0} → Option Held → Walk X → List Look → Option (List ChildName) → Bool → Type 0
GivesNames tree (Answers x) looks listed failed = listed ≡ None
GivesNames tree (Looks target next) [] listed failed = listed ≡ None
GivesNames tree (Looks target next) (look ∷ looks) listed failed =
    GivesNames tree (next look) looks listed failed
GivesNames tree (Ends call done missing) looks listed failed = listed ≡ None
GivesNames tree (Lists path done missing) looks listed true = listed ≡ None
GivesNames tree (Lists path done missing) looks listed false = IsListed tree path listed

-- the looks that a tree of these files gives, where nothing fails
abbrev pub looks_shown : {X : Type 0} → Held → Walk X → List Look
looks_shown held (Answers x) = []
looks_shown held (Looks target next) =
    shown_at held target ∷ looks_shown held (next (shown_at held target))
looks_shown held (Ends call done missing) = cond (is_found held call) [] (Look.Missing ∷ [])
looks_shown held (Lists path done missing) = []

-- and the names that it lists
abbrev pub listed_shown : {X : Type 0} → Held → Walk X → Option (List ChildName)
listed_shown held (Answers x) = None
listed_shown held (Looks target next) = listed_shown held (next (shown_at held target))
listed_shown held (Ends call done missing) = None
listed_shown held (Lists path done missing) = names_listed held.present path
