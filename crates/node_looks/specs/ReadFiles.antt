-- What a READ comes to, told by its walk alone. Over a tree that tells its files the bytes are
-- those of the file; over one that doesn't, any that are no more than were asked for.
use Rattle.std.specs.Prelude.{◌≡◌, ℕ, List, false, Option, Some, None}
use Rattle.file_generations.specs.Generations.{Held, all_held}
use Rattle.portal_base.specs.declared.files.FileName.{FileName}
use Rattle.host_tree.specs.Trees.{TreeIs}
use Rattle.portal_model.specs.declared.reply.Answer.{Answer}
use Rattle.portal_model.specs.Alike.{ReadsAlike}
use Rattle.portal_model.specs.Bus.{is_tree}
use Rattle.portal_model.specs.Node.{bytes_named}
use Rattle.portal_model.specs.NodeVerdict.{NodeVerdict, FilesStay, HandlesStay}
use Rattle.portal_model.specs.Walk.{Gives, GivesNames, Walk, generation_reached, reads_clock, walked}
use Rattle.node_looks.specs.Done.{answer_of, file_change, handle_change}
use Rattle.node_looks.specs.TreeCalls.{Calling, calls_of}
use Rattle.node_looks.specs.Walks.{fault_of, taken}
use Rattle.node_looks.specs.declared.asked.Asked.{Asked}

-- these are the bytes of each file that the tree tells
abbrev pub AreBytes : Option Held → (FileName → List ℕ) → Type 0
AreBytes None bytes = Unit {0}
AreBytes (Some held) bytes = (name : FileName) → bytes name ≡ bytes_named (all_held held) name

abbrev pub IsReadAnswer : Option Held → ℕ → Answer → Answer → Type 0
IsReadAnswer (Some held) size stepped given = given ≡ stepped
IsReadAnswer None size stepped given = ReadsAlike size stepped given

-- The tree gives what the walk looks at; it comes to this verdict, with which nothing changes, and
-- so is the answer; and just the calls of the walk were made.
pub record Finds (size : ℕ) (walk : Walk NodeVerdict) (old : TreeIs) (asked : Asked)
    (new : TreeIs) : Type 0 where
  pub verdict : Option NodeVerdict
  pub gives : Gives old.told walk (taken asked.look) (is_tree (fault_of asked.look))
  pub lists :
      GivesNames old.told walk (taken asked.look) None (is_tree (fault_of asked.look))
  pub comes : walked walk 0 (taken asked.look) (is_tree (fault_of asked.look)) ≡ verdict
  pub files : file_change verdict ≡ FilesStay
  pub handles : handle_change verdict ≡ HandlesStay
  pub answer : IsReadAnswer old.told size (answer_of verdict) asked.answer
  pub clock : reads_clock walk (taken asked.look) ≡ false
  pub generation : generation_reached walk (taken asked.look) ≡ None
  pub calls :
      Calling old (calls_of walk (taken asked.look) (is_tree (fault_of asked.look))) old.told new

-- the same, whatever the bytes are that the tree doesn't tell
abbrev pub FindsAny : ℕ → ((FileName → List ℕ) → Walk NodeVerdict) → TreeIs → Asked → TreeIs
    → Type 0
FindsAny size walk old asked new = (bytes : FileName → List ℕ) → AreBytes old.told bytes →
    Finds size (walk bytes) old asked new
