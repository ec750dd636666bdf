-- Worked examples of the laws: document 00000020 is the folder /home/p, with the file a.txt in it,
-- seats 1 and 2 are mounts of the editor, which may read and write it. Seat 1 looks a.txt up and
-- makes b. What is expected is worked out by hand from the rules.
use Rattle.std.specs.Prelude.{◌≡◌, ℕ, List, [], ◌∷◌, codes, length, Bool, true, false, cond, Some, None, option_map}
use Rattle.portal_base.specs.declared.who.Who.{Who}
use Rattle.portal_model.specs.declared.entry.Entry.{Entry}
use Rattle.portal_model.specs.declared.naming.Naming.{Naming}
use Rattle.portal_model.specs.declared.request.NodeOp.{NodeOp}
use Rattle.portal_model.specs.Content.{OfFile, NotThere, content_at, is_folder}
use Rattle.portal_model.specs.Examples.{editor, enters, leaves}
use Rattle.portal_model.specs.FileExamples.{answer_to, asks_node, then}
use Rattle.portal_model.specs.FolderExamples.{exported, first_name, made_once, named_once, p_node}
use Rattle.portal_model.specs.History.{run}
use Rattle.portal_model.specs.NodeNumbers.{id_of_node}
use Rattle.portal_model.specs.State.{State}
use Rattle.folder_laws.specs.Folders.{path_changed}
use Rattle.folder_laws.specs.Namings.{IsBelow, named_by}
use Rattle.folder_laws.specs.Nodes.{node_answered}

-- ---- folders and contents

abbrev pub b_text : List ℕ
b_text = codes "/home/p/b"

abbrev pub makes_b : Entry
makes_b = asks_node named_once 1 p_node (NodeOp.Create (codes "b") 2)

-- The CREATE changes what is at /home/p/b, and a LOOKUP nothing. The folder above is one before and
-- behind; the file beside keeps its bytes; below the new file there is no room still.
pub record FileIsMade : Type 0 where
  pub changed : path_changed named_once makes_b ≡ Some b_text
  pub not_changed :
      path_changed exported (asks_node exported 1 p_node (NodeOp.Lookup (codes "a.txt"))) ≡ None
  pub before : content_at named_once.files b_text ≡ NotThere true
  pub after : content_at made_once.files b_text ≡ OfFile 0 [] 7
  pub folder_before : is_folder named_once.files (codes "/home/p") ≡ true
  pub folder_after : is_folder made_once.files (codes "/home/p") ≡ true
  pub no_folder : is_folder made_once.files b_text ≡ false
  pub beside : content_at made_once.files (codes "/home/p/a.txt") ≡ OfFile 0 (codes "hi") 0
  pub below : content_at made_once.files (codes "/home/p/b/x") ≡ NotThere false

-- ---- namings

abbrev pub in_p : List ℕ → Naming
in_p path = record { view = 0; document = record { number = 32 }; path = path }

-- the editor leaves seat 1 and enters it again
abbrev pub entered_again : State
entered_again = run made_once (leaves 1 ∷ enters 1 (Who.App editor) ∷ [])

pub record NamingsAreOwn : Type 0 where
  pub both : named_by made_once 1 ≡ in_p (codes "/home/p/a.txt") ∷ in_p b_text ∷ []
  pub again :
      named_by (then made_once 1 p_node (NodeOp.Lookup (codes "a.txt"))) 1 ≡ named_by made_once 1
  pub elsewhere : named_by made_once 2 ≡ []
  pub left : named_by entered_again 1 ≡ []
  pub used :
      node_answered (answer_to made_once 1 p_node (NodeOp.Lookup (codes "a.txt")))
      ≡ Some first_name
  pub other_first :
      node_answered (answer_to made_once 2 p_node (NodeOp.Lookup (codes "b"))) ≡ Some first_name
  pub below : IsBelow (codes "/home/p") (codes "/home/p/q/r")

-- ---- parts that code gives

-- the number in the node that a CREATE of a second name is answered: on the connection that named
-- the first, or on another one
abbrev pub IsSecondNumber : Bool → ℕ → Type 0
IsSecondNumber same number =
    option_map id_of_node
    (node_answered (answer_to named_once (cond same 1 2) p_node (NodeOp.Create (codes "b") 2)))
    ≡ Some number

-- how much seat 1 has named: as it made b, or after it was left and entered again
abbrev pub AreNamed : Bool → ℕ → Type 0
AreNamed again count = length (named_by (cond again entered_again made_once) 1) ≡ count
