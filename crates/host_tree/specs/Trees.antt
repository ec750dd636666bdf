-- What a tree of files answers, and what each call leaves of it.
use Rattle.std.specs.Prelude.{◌≡◌, ℕ, ◌≤◌, ◌==◌, min, nat_lt, List, [], ◌∷◌, ◌++◌, length, Bool, true, false, not, ◌&&◌, cond, Option, Some, None, is_some, option_map, IfSome}
use Rattle.std.specs.List.{filter}
use Rattle.portal_base.specs.Calls.{Calls, next_call, FailsAsTold}
use Rattle.portal_base.specs.Devices.{count_after}
use Rattle.portal_base.specs.Names.{is_same}
use Rattle.portal_base.specs.Content.{file_at, file_named, is_folder, is_named, has_room, look_at}
pub use Rattle.portal_base.specs.FileChanges.{bytes_from, cut_to, overlaid, with_bytes, written, resized, change_named, put_file, file_with, new_file}
pub use Rattle.file_generations.specs.Generations.{Held, all_held, change_held, freshened, held_with, is_held, may_freshen, may_turn, put_present, turned}
use Rattle.portal_base.specs.declared.files.File.{File}
use Rattle.portal_base.specs.declared.files.FileName.{FileName}
use Rattle.portal_base.specs.FolderNames.{AreInOrder, names_in}
use Rattle.host_tree.specs.declared.tree.AttrAnswer.{AttrAnswer}
use Rattle.host_tree.specs.declared.tree.AttrAnswer.TheVariants as attr
use Rattle.host_tree.specs.declared.tree.ListAnswer.{ListAnswer}
use Rattle.host_tree.specs.declared.tree.ListAnswer.TheVariants as list
use Rattle.host_tree.specs.declared.tree.LookAnswer.{LookAnswer}
use Rattle.host_tree.specs.declared.tree.LookAnswer.TheVariants as look
use Rattle.host_tree.specs.declared.tree.TreeCall.{TreeCall}
use Rattle.host_tree.specs.declared.tree.TreeDone.{TreeDone}
use Rattle.host_tree.specs.declared.tree.TreeDone.TheVariants as done
use Rattle.host_tree.specs.declared.tree.TreeRead.{TreeRead}
use Rattle.host_tree.specs.declared.tree.TreeRead.TheVariants as read

-- ---- what a tree means

-- the kinds of its first calls, in their order, as many as it has room to note
pub record Noted : Type 0 where
  pub room : ℕ
  pub kinds : List TreeCall

-- no call is noted
abbrev pub unnoted : Noted
unnoted = record { room = 0; kinds = [] }

pub record TreeIs : Type 0 where
  -- the files that it began with and those that it has, present and beside, where it tells them
  pub began : Option Held
  pub told : Option Held
  pub faults : ℕ
  -- its calls, where it tells them
  pub calls : Option Calls
  pub noted : Noted

-- ---- calls and faults

-- one call more, of this kind
abbrev pub note : TreeCall → Noted → Noted
note kind noted = record noted {
  kinds = cond (nat_lt (length noted.kinds) noted.room) (noted.kinds ++ kind ∷ []) noted.kinds;
}

-- as many kinds are noted as calls were made, up to the room; the number of calls stands still at
-- the greatest that is counted
abbrev pub AreNoted : Noted → Calls → Type 0
AreNoted noted calls = length noted.kinds ≡ min noted.room calls.made

-- the tree after a call of this kind that failed or didn't, with these files
abbrev pub after_call : TreeIs → TreeCall → Bool → Option Held → TreeIs
after_call tree kind failed told = record tree {
  told = told;
  faults = count_after tree.faults failed;
  calls = option_map next_call tree.calls;
  noted = note kind tree.noted;
}

-- ---- a new beginning

-- the files as they are are those that it began with
abbrev pub settled : TreeIs → TreeIs
settled tree = record tree { began = tree.told }

-- ---- answers

abbrev pub is_look_fault : LookAnswer → Bool
is_look_fault (look.Is shown) = false
is_look_fault look.Failed = true

abbrev pub is_attr_fault : AttrAnswer → Bool
is_attr_fault (attr.Is size moment) = false
is_attr_fault attr.NotFile = false
is_attr_fault attr.Failed = true

abbrev pub is_list_fault : ListAnswer → Bool
is_list_fault (list.Names names) = false
is_list_fault list.NotFolder = false
is_list_fault list.Failed = true
is_list_fault list.Memory = false

abbrev pub is_read_fault : TreeRead → Bool
is_read_fault (read.Got bytes) = false
is_read_fault read.NotFile = false
is_read_fault read.Failed = true
is_read_fault read.Memory = false

abbrev pub is_done_fault : TreeDone → Bool
is_done_fault done.Done = false
is_done_fault done.NotFile = false
is_done_fault done.Failed = true
is_done_fault done.Memory = false

-- a look shows what stands at the path, which is a present file
abbrev pub Looks : Option Held → List ℕ → LookAnswer → Type 0
Looks told path (look.Is shown) = IfSome told (λ held. shown ≡ look_at held.present path)
Looks told path look.Failed = Unit {0}

-- the length and the moment of a file, present or not
abbrev pub attributes_of : File → ℕ × ℕ
attributes_of f = (length f.bytes, f.moment)

abbrev pub Attrs : Option Held → FileName → AttrAnswer → Type 0
Attrs told name (attr.Is size moment) = IfSome told (λ held.
    option_map attributes_of (file_named (all_held held) name) ≡ Some (size, moment))
Attrs told name attr.NotFile = IfSome told (λ held. file_named (all_held held) name ≡ None)
Attrs told name attr.Failed = Unit {0}

-- the names in a folder, in byte order, by the present files
abbrev pub Lists : Option Held → List ℕ → ListAnswer → Type 0
Lists told path (list.Names names) = AreInOrder names × IfSome told (λ held.
    (is_folder held.present path ≡ true) × (names ≡ names_in held.present path))
Lists told path list.NotFolder = IfSome told (λ held. is_folder held.present path ≡ false)
Lists told path list.Failed = Unit {0}
Lists told path list.Memory = Unit {0}

abbrev pub Gets : Option Held → FileName → ℕ → ℕ → TreeRead → Type 0
Gets told name offset size (read.Got bytes) = (length bytes ≤ size) × IfSome told (λ held.
    option_map (λ f. bytes_from f.bytes offset size) (file_named (all_held held) name)
    ≡ Some bytes)
Gets told name offset size read.NotFile =
    IfSome told (λ held. file_named (all_held held) name ≡ None)
Gets told name offset size read.Failed = Unit {0}
Gets told name offset size read.Memory = Unit {0}

-- ---- changes

-- the files but that of a path
abbrev pub without : List ℕ → List File → List File
without path files = filter (λ f. not (is_same f.path path)) files

-- whether nothing stands at the path and its parent is a folder
abbrev pub may_create : List File → List ℕ → Bool
may_create files path = not (is_some (file_at files path))
    && (not (is_folder files path) && has_room files path)

-- Done where the files allow it, and then they are changed; NotFile where they don't; where the
-- answer isn't Done they stay.
abbrev pub DoesTo : (F : Type 0) → (F → Bool) → (F → F) → Option F → TreeDone → Option F → Type 0
DoesTo F allows change told done.Done new = (new ≡ option_map change told)
    × IfSome told (λ files. allows files ≡ true)
DoesTo F allows change told done.NotFile new = (new ≡ told)
    × IfSome told (λ files. allows files ≡ false)
DoesTo F allows change told done.Failed new = new ≡ told
DoesTo F allows change told done.Memory new = new ≡ told

-- the same of the files of a tree
abbrev pub Does : (Held → Bool) → (Held → Held) → Option Held → TreeDone → Option Held → Type 0
Does allows change told answer new = DoesTo Held allows change told answer new

abbrev pub DoesHeld : (Held → Bool) → (Held → Held) → Held → TreeDone → Held → Type 0
DoesHeld allows change old answer new = Does allows change (Some old) answer (Some new)

-- and of a list of files
abbrev pub DoesFiles : (List File → Bool) → (List File → List File) → Option (List File) → TreeDone
    → Option (List File) → Type 0
DoesFiles allows change told answer new = DoesTo (List File) allows change told answer new

abbrev pub has_file : FileName → List File → Bool
has_file name files = is_some (file_named files name)

-- the same files
abbrev pub as_before : Held → Held
as_before held = held

-- ---- changes of files, present or not

-- the first file of a name changed
abbrev pub change_first : FileName → (File → File) → List File → List File
change_first name change [] = []
change_first name change (f ∷ fs) =
    cond (is_named name f) (change f ∷ fs) (f ∷ change_first name change fs)

-- the files but the first of a name
abbrev pub without_first : FileName → List File → List File
without_first name [] = []
without_first name (f ∷ fs) = cond (is_named name f) fs (f ∷ without_first name fs)

-- a file of a name may be made beside the present ones, which isn't the first of its path: that one
-- only `create` makes
abbrev pub may_fresh : FileName → Held → Bool
may_fresh name held = not (name.generation == 0) && may_freshen held name

-- whether a file may be its path's present one: the path is no folder, and lies in one
abbrev pub may_be_present : List File → List ℕ → Bool
may_be_present files path = not (is_folder files path) && has_room files path

-- ---- one call

-- A call of this kind that asks: the files stay.
pub record Asks (kind : TreeCall) (old : TreeIs) (failed : Bool) (new : TreeIs) : Type 0 where
  pub goes : new ≡ after_call old kind failed old.told
  pub fails : FailsAsTold old.calls failed

-- A call of this kind that changes the files, or doesn't.
pub record Changes (kind : TreeCall) (allows : Held → Bool) (change : Held → Held) (old : TreeIs)
    (answer : TreeDone) (new : TreeIs) : Type 0 where
  pub goes : new ≡ after_call old kind (is_done_fault answer) new.told
  pub does : Does allows change old.told answer new.told
  pub fails : FailsAsTold old.calls (is_done_fault answer)
