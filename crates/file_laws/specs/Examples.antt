-- Worked examples of the laws of open files: document 0000000a of the file /home/a.txt, which holds
-- "hello", a mount of the editor at seat 1, one of the host at seat 2, and the host's bus at seat
-- 3. The editor may read and write, and opened the file to do both. What is expected is worked out
-- by hand from the rules and from include/uapi/linux/fuse.h.
use Rattle.std.specs.Prelude.{◌≡◌, ℕ, List, [], ◌∷◌, ◌++◌, codes, length, true, false, Result, Ok, Err, Option, Some, None}
use Rattle.portal_base.specs.declared.who.Kind.TheVariants as Kind
use Rattle.portal_base.specs.declared.who.Who.{Who}
use Rattle.portal_model.specs.declared.entry.Entry.{Entry}
use Rattle.portal_model.specs.declared.reply.Answer.{Answer}
use Rattle.portal_model.specs.declared.reply.Code.{Code}
use Rattle.portal_model.specs.declared.reply.NodeAnswer.{NodeAnswer}
use Rattle.portal_model.specs.declared.request.NodeOp.{NodeOp}
use Rattle.portal_model.specs.declared.request.NodeRequest.{NodeRequest}
use Rattle.portal_model.specs.declared.request.Request.{Request}
use Rattle.portal_model.specs.declared.rights.Right.TheVariants.{Read, Write}
use Rattle.portal_model.specs.Examples.{editor, enters, read_write}
use Rattle.portal_model.specs.FileExamples.{a_node, answer_to, asks_node, deletes, opened_once, revokes, shown, with_rights}
use Rattle.portal_model.specs.History.{Legal, run}
use Rattle.portal_model.specs.Opening.{opened}
use Rattle.portal_model.specs.State.{State}
use Rattle.portal_model.specs.Step.{after, looks_taken, reply_at}
use Rattle.app_world.specs.RightsTold.{is_given_in}
use Rattle.file_laws.specs.KeptHandles.{is_ended_in, number_answered}
use Rattle.file_laws.specs.Revocations.{OpensFile, loses_at}

abbrev pub on_a_node : NodeOp → NodeRequest
on_a_node op = record { node = a_node; uid = 1000; gid = 1000; op = op }

-- ---- what a right that was taken opens

abbrev pub revoked : State
revoked = after opened_once revokes

-- the host gives the right to read again
abbrev pub grants : Entry
grants = record {
  seat = 3;
  request = Request.Grant (record {
    doc = codes "0000000a";
    app = editor;
    names = codes "read" ∷ [];
  });
  given = shown [] None;
}

-- what was taken is given again by the grant alone, which gives the right to read and no other
pub record RightsGivenAgain : Type 0 where
  pub read_lost : loses_at editor 10 Read opened_once revokes ≡ true
  pub write_lost : loses_at editor 10 Write opened_once revokes ≡ true
  pub not_given : is_given_in editor 10 Read revoked (deletes ∷ []) ≡ false
  pub read_given : is_given_in editor 10 Read revoked (grants ∷ []) ≡ true
  pub write_not_given : is_given_in editor 10 Write revoked (grants ∷ []) ≡ false

-- ---- what ends a handle

abbrev pub leaves : ℕ → Entry
leaves seat = record { seat = seat; request = Request.Leave; given = shown [] None }

abbrev pub asks_open : ℕ → NodeOp → Entry
asks_open seat op = asks_node opened_once seat a_node op

-- Neither a revocation nor a deletion ends the handle of the number 1, and no entry of another
-- seat. A release that is refused, since it is that of a folder, leaves it too.
pub record WhatEndsAHandle : Type 0 where
  pub number :
      number_answered (Request.Node (on_a_node (NodeOp.Open 2)))
      (answer_to (with_rights 3) 1 a_node (NodeOp.Open 2)) ≡ Some 1
  pub kept : is_ended_in 1 1 opened_once (revokes ∷ deletes ∷ []) ≡ false
  pub released : is_ended_in 1 1 opened_once (asks_open 1 (NodeOp.Release 1) ∷ []) ≡ true
  pub not_a_folder : is_ended_in 1 1 opened_once (asks_open 1 (NodeOp.ReleaseDir 1) ∷ []) ≡ false
  pub elsewhere : is_ended_in 1 1 opened_once (asks_open 2 (NodeOp.Release 1) ∷ []) ≡ false
  pub left : is_ended_in 1 1 opened_once (leaves 1 ∷ []) ≡ true
  pub another_left : is_ended_in 1 1 opened_once (leaves 2 ∷ []) ≡ false

-- ---- a legal history that both laws speak of

-- a request of the editor on the document's file, with the looks that it took; no clock is read
abbrev pub edits : State → NodeOp → Entry
edits s op =
    let request = Request.Node (on_a_node op) in
    record { seat = 1; request = request; given = shown (looks_taken s 1 request) None }

abbrev pub enters_bus : Entry
enters_bus = record {
  seat = 3;
  request = Request.Enter Who.Host Kind.Bus;
  given = shown [] None;
}

abbrev pub entering : List Entry
entering = enters 1 (Who.App editor) ∷ enters_bus ∷ []

abbrev pub both_entered : State
both_entered = run (opened read_write) entering

abbrev pub opens_first : Entry
opens_first = edits both_entered (NodeOp.Open 2)

abbrev pub first_opened : State
first_opened = after both_entered opens_first

abbrev pub taken : State
taken = after first_opened revokes

abbrev pub reads_older : Entry
reads_older = edits taken (NodeOp.Read 1 0 5)

abbrev pub given_again : State
given_again = run taken (reads_older ∷ grants ∷ [])

abbrev pub opens_again : Entry
opens_again = edits given_again (NodeOp.Open 0)

-- the editor opens the file, the host takes its rights, the editor reads by the older handle, the
-- host gives the right to read again, and the editor opens the file to read
pub record BothLawsApply : Type 0 where
  pub legal : Legal (opened read_write)
      (entering ++ opens_first ∷ revokes ∷ reads_older ∷ grants ∷ opens_again ∷ [])
  pub number :
      number_answered opens_first.request (reply_at both_entered opens_first).answer ≡ Some 1
  pub not_ended : is_ended_in 1 1 first_opened (revokes ∷ []) ≡ false
  pub lost : loses_at editor 10 Read first_opened revokes ≡ true
  pub opens : OpensFile editor (on_a_node (NodeOp.Open 0)) 0 given_again opens_again
  pub second : (reply_at given_again opens_again).answer ≡ Answer.Node (NodeAnswer.Opened 2)

-- ---- parts that code gives

-- what is told: the number of the new handle or of the bytes, or else that of the error
abbrev pub outcome : Answer → Option (Result ℕ ℕ)
outcome (Answer.Node (NodeAnswer.Opened fh)) = Some (Ok fh)
outcome (Answer.Node (NodeAnswer.Content content)) = Some (Ok (length content))
outcome (Answer.Node (NodeAnswer.Written size)) = Some (Ok size)
outcome (Answer.Refused (Code.Errno errno)) = Some (Err errno)
outcome answer = None

-- what the editor is told as it reads by its handle after its rights were taken
abbrev pub IsToldToReader : Result ℕ ℕ → Type 0
IsToldToReader told = outcome (answer_to revoked 1 a_node (NodeOp.Read 1 0 5)) ≡ Some told

-- and as it opens the file then
abbrev pub IsToldToOpener : Result ℕ ℕ → Type 0
IsToldToOpener told = outcome (answer_to revoked 1 a_node (NodeOp.Open 2)) ≡ Some told

-- as it writes a byte by its handle after the document was deleted
abbrev pub IsToldToWriter : Result ℕ ℕ → Type 0
IsToldToWriter told =
    outcome (answer_to (after opened_once deletes) 1 a_node (NodeOp.Write 1 0 (codes "H")))
    ≡ Some told

-- and the number that the first OPEN of another connection is told
abbrev pub IsFirstElsewhere : ℕ → Type 0
IsFirstElsewhere number =
    outcome (answer_to opened_once 2 a_node (NodeOp.Open 2)) ≡ Some (Ok number)
