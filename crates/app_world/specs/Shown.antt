-- What an application sees of the tree of files: the contents of its view, what is at or below its
-- folders, and the files that its connections name.
use Rattle.std.specs.Prelude.{ℕ, ◌==◌, ◌&&◌, List, [], ◌∷◌, take, Bool, true, false, not, Option, Some, None, cond}
use Rattle.std.specs.List.{find}
use Rattle.portal_base.specs.declared.files.ChildName.{ChildName}
use Rattle.portal_base.specs.declared.files.FileName.{FileName}
use Rattle.portal_base.specs.declared.files.Look.{Look}
use Rattle.portal_model.specs.declared.entry.Fault.{Fault}
use Rattle.portal_model.specs.Content.{Content, OfFile, OfFolder, NotThere, content_at, look_of}
use Rattle.portal_model.specs.Walk.{Walk, Answers, Looks, Ends, Lists, Target, AtPath, Named, LastCall, Uses, Changes, Makes, Freshens, Turns, names_listed}
use Rattle.app_world.specs.View.{AppView, NamedFile, PathBelow, PathContent, found_content, found_named, is_at_or_below}

-- the folder at or below which the path lies, where the view has one
abbrev pub covering : List PathBelow → List ℕ → Option PathBelow
covering below path = find (λ b. is_at_or_below b.path path) below

abbrev pub shown_below : List ℕ → Option PathBelow → Content
shown_below path None = NotThere false
shown_below path (Some b) = content_at b.files path

-- the view has a content for each path that it names, and tells what lies below its folders
abbrev pub shown : List PathBelow → List ℕ → Option PathContent → Content
shown below path None = shown_below path (covering below path)
shown below path (Some c) = c.content

abbrev pub own_content : AppView → List ℕ → Content
own_content v path = shown v.below path (found_content v.contents path)

-- where the file has another generation, nothing is there
abbrev pub of_generation : ℕ → Content → Content
of_generation generation (OfFile g bytes moment) =
    cond (g == generation) (OfFile g bytes moment) (NotThere false)
of_generation generation OfFolder = NotThere false
of_generation generation (NotThere room) = NotThere false

-- the file of a name: as the view has it by that, or as it stands at its path
abbrev pub shown_file : ℕ → Content → Option NamedFile → Content
shown_file generation content None = of_generation generation content
shown_file generation content (Some f) = OfFile generation f.bytes f.moment

abbrev pub own_file : AppView → FileName → Content
own_file v name =
    shown_file name.generation (own_content v name.path) (found_named v.files name)

abbrev pub bytes_in : Content → List ℕ
bytes_in (OfFile generation bytes moment) = bytes
bytes_in OfFolder = []
bytes_in (NotThere room) = []

abbrev pub own_bytes : AppView → FileName → List ℕ
own_bytes v name = bytes_in (own_file v name)

abbrev pub is_file : Content → Bool
is_file (OfFile generation bytes moment) = true
is_file OfFolder = false
is_file (NotThere room) = false

abbrev pub is_place : Content → Bool
is_place (OfFile generation bytes moment) = false
is_place OfFolder = false
is_place (NotThere room) = room

-- what is there, or may be made there, stands in a folder
abbrev pub has_parent : Content → Bool
has_parent (OfFile generation bytes moment) = true
has_parent OfFolder = true
has_parent (NotThere room) = room

abbrev pub is_folder_there : Content → Bool
is_folder_there (OfFile generation bytes moment) = false
is_folder_there OfFolder = true
is_folder_there (NotThere room) = false

-- ---- walks

abbrev pub own_shown_at : AppView → Target → Look
own_shown_at v (AtPath path) = look_of (own_content v path)
own_shown_at v (Named name) = look_of (own_file v name)

abbrev pub own_found : AppView → LastCall → Bool
own_found v (Uses name) = is_file (own_file v name)
own_found v (Changes name) = is_file (own_file v name)
own_found v (Makes path) = is_place (own_content v path)
own_found v (Freshens name) = has_parent (own_content v name.path)
own_found v (Turns name) =
    is_file (own_file v name) && not (is_folder_there (own_content v name.path))

-- the looks that a walk takes, where none fails
abbrev pub own_looks : {X : Type 0} → AppView → Walk X → List Look
own_looks v (Answers x) = []
own_looks v (Looks target next) = own_shown_at v target ∷ own_looks v (next (own_shown_at v target))
own_looks v (Ends call done missing) = cond (own_found v call) [] (Look.Missing ∷ [])
own_looks v (Lists path done missing) = []

-- the names in a folder, where the view tells of one
abbrev pub names_below : List ℕ → Option PathBelow → Option (List ChildName)
names_below path None = None
names_below path (Some b) = names_listed b.files path

-- what a walk lists, where no call fails
abbrev pub own_listed : {X : Type 0} → AppView → Walk X → Option (List ChildName)
own_listed v (Answers x) = None
own_listed v (Looks target next) = own_listed v (next (own_shown_at v target))
own_listed v (Ends call done missing) = None
own_listed v (Lists path done missing) = names_below path (covering v.below path)

-- of these looks, those that succeed: where a call of the tree failed, the ones ahead of it
abbrev pub succeeding : Fault → ℕ → List Look → List Look
succeeding Fault.None count looks = looks
succeeding Fault.Tree count looks = take count looks
succeeding Fault.Keeper count looks = looks
