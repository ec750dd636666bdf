-- Worked examples of what is in sight: document 0000000a of the file /home/a.txt, which holds
-- "hello", a mount of the editor at seat 1, one of the host at seat 2, and the host's bus at seat
-- 3. What is expected is worked out by hand from the rules.
use Rattle.std.specs.Prelude.{◌≡◌, ℕ, List, [], ◌∷◌, codes, length, map, take, true, false, None}
use Rattle.rights_rule.specs.Rights.{RightSet}
use Rattle.portal_model.specs.declared.entry.Entry.{Entry}
use Rattle.portal_model.specs.declared.request.NodeOp.TheVariants as NodeOp
use Rattle.portal_model.specs.declared.request.Request.TheVariants as Request
use Rattle.portal_model.specs.declared.request.RightsCall.{RightsCall}
use Rattle.portal_model.specs.declared.state.Document.{Document}
use Rattle.portal_model.specs.Content.{OfFile}
use Rattle.portal_model.specs.Examples.{a_text, editor}
use Rattle.portal_model.specs.FileExamples.{a_node, asks_node, shown, then, with_rights}
use Rattle.portal_model.specs.State.{State}
use Rattle.portal_model.specs.Step.{after}
use Rattle.app_world.specs.Shown.{bytes_in}
use Rattle.app_world.specs.TraceItem as item
use Rattle.app_world.specs.View.{Alone, PathContent, view}
use Rattle.connection_laws.specs.Blinded.{blinded}
use Rattle.connection_laws.specs.BlindedTrace.{blinded_items}

-- ---- what is in sight

-- the host takes the right to read from the editor, or gives it
abbrev pub right_to_read : RightsCall
right_to_read = record { doc = codes "0000000a"; app = editor; names = codes "read" ∷ [] }

abbrev pub takes_read : Entry
takes_read =
    record { seat = 3; request = Request.Revoke right_to_read; given = shown [] None }

abbrev pub gives_read : Entry
gives_read = record { seat = 3; request = Request.Grant right_to_read; given = shown [] None }

-- the same documents as strict ones
abbrev pub strict_one : Document → Document
strict_one d = record d { strict = true }

abbrev pub as_strict : State → State
as_strict s = record s { documents = map strict_one s.documents }

-- the editor opened the file with these flags, and then the right to read was taken from it
abbrev pub left_open : State → ℕ → State
left_open s flags = after (then s 1 a_node (NodeOp.Open flags)) takes_read

abbrev pub in_sight : State → List PathContent
in_sight s = (blinded (view s editor)).contents

abbrev pub at_a : List ℕ → List PathContent
at_a bytes = record { path = a_text; content = OfFile 0 bytes 0 } ∷ []

abbrev pub zeros : List ℕ
zeros = 0 ∷ 0 ∷ 0 ∷ 0 ∷ 0 ∷ []

-- Rights are given by their bits: read 1, write 2; flags are those of open(2): to read 0, to write
-- 1.
pub record WhatIsInSight : Type 0 where
  pub to_read : in_sight (with_rights 1) ≡ at_a (codes "hello")
  pub to_write : in_sight (with_rights 2) ≡ at_a zeros
  pub opened : in_sight (left_open (with_rights 3) 0) ≡ at_a (codes "hello")
  pub opened_to_write : in_sight (left_open (with_rights 3) 1) ≡ at_a zeros
  pub strict : in_sight (left_open (as_strict (with_rights 3)) 0) ≡ at_a zeros
  pub given_again :
      in_sight (after (left_open (with_rights 3) 1) gives_read) ≡ at_a (codes "hello")

-- ---- what a blinded trace tells

abbrev pub host_opens : Entry
host_opens = asks_node (with_rights 2) 2 a_node (NodeOp.Open 2)

abbrev pub host_writes : Entry
host_writes = asks_node (after (with_rights 2) host_opens) 2 a_node (NodeOp.Write 1 0 (codes "H"))

abbrev pub the_document : Document
the_document = record {
  id = record { number = 10 };
  path = a_text;
  persistent = true;
  reusable = true;
  strict = false;
  folder = false;
}

abbrev pub read_alone : RightSet
read_alone =
    record { read = true; write = false; grant_permissions = false; delete = false }

-- The editor, which may write, is told that the host wrote, and when, at the moment 7. What the
-- file holds then comes as the right to read is gained.
abbrev pub BytesComeWithTheRight : Type 0
BytesComeWithTheRight =
    blinded_items editor (with_rights 2) (host_opens ∷ host_writes ∷ gives_read ∷ [])
    ≡ item.Bytes a_text 0 (OfFile 0 zeros 7)
    ∷ item.Gained the_document read_alone (Alone (OfFile 0 zeros 7))
    ∷ item.Bytes a_text 0 (OfFile 0 (codes "Hello") 7) ∷ []

-- ---- parts that code gives

abbrev pub bytes_at_first : List PathContent → List ℕ
bytes_at_first [] = []
bytes_at_first (c ∷ cs) = bytes_in c.content

-- the first byte that the editor has in sight
abbrev pub IsFirstInSight : State → ℕ → Type 0
IsFirstInSight s byte = take 1 (bytes_at_first (in_sight s)) ≡ byte ∷ []

-- how many bytes it knows of
abbrev pub IsLengthInSight : State → ℕ → Type 0
IsLengthInSight s many = length (bytes_at_first (in_sight s)) ≡ many

abbrev pub IsFirstOfOpen : ℕ → Type 0
IsFirstOfOpen byte = IsFirstInSight (left_open (with_rights 3) 0) byte

abbrev pub IsFirstOfStrict : ℕ → Type 0
IsFirstOfStrict byte = IsFirstInSight (left_open (as_strict (with_rights 3)) 0) byte

abbrev pub IsLengthToWriter : ℕ → Type 0
IsLengthToWriter many = IsLengthInSight (with_rights 2) many
