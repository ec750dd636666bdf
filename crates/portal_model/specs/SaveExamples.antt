-- Worked examples of saving by rename, over document 0000000a of the file /home/a.txt that holds
-- "hello". What is expected is worked out by hand from the rules.
use Rattle.std.specs.Prelude.{◌≡◌, ℕ, List, [], ◌∷◌, codes, false, map, replicate, None}
use Rattle.portal_base.specs.declared.who.Who.{Who}
use Rattle.portal_model.specs.declared.entry.Entry.{Entry}
use Rattle.portal_model.specs.declared.entry.Fault.{Fault}
use Rattle.portal_model.specs.declared.reply.DirName.{DirName}
use Rattle.portal_model.specs.declared.reply.NodeAnswer.{NodeAnswer}
use Rattle.portal_model.specs.declared.request.NodeOp.{NodeOp}
use Rattle.portal_model.specs.declared.request.Request.{Request}
use Rattle.portal_model.specs.declared.state.Connection.{Connection}
use Rattle.portal_model.specs.declared.temporary.OwnTemp.{OwnTemp}
use Rattle.portal_model.specs.DocumentExamples.{viewer}
use Rattle.portal_model.specs.Examples.{a_text, document, editor, enters, grant, hello, opening}
use Rattle.portal_model.specs.FileExamples.{a_folder, a_node, answer_to, errs, file_attr, folder_entry, request_on, shown, then, told}
use Rattle.portal_model.specs.History.{run}
use Rattle.portal_model.specs.Opening.{opened}
use Rattle.portal_model.specs.State.{State}
use Rattle.portal_model.specs.Step.{after, reply_at}

-- ---- a file is saved

-- the editor on seat 1 may read and write the document, the viewer on seat 2 may read it
abbrev pub begun : State
begun =
    run
    (opened (opening (document 10 a_text (grant editor 3 ∷ grant viewer 1 ∷ []) ∷ []) hello))
    (enters 1 (Who.App editor) ∷ enters 2 (Who.App viewer) ∷ [])

-- the viewer has the file open
abbrev pub viewed : State
viewed = then begun 2 a_node (NodeOp.Open 0)

-- the first temporary of a connection in its own view, 5 * 2^32 + 1
abbrev pub first_temp : ℕ
first_temp = 21474836481

abbrev pub tmp : List ℕ
tmp = codes "a.tmp"

abbrev pub made : State
made = then viewed 1 a_folder (NodeOp.Create tmp 2)

abbrev pub written : State
written = then made 1 first_temp (NodeOp.Write 1 0 (codes "bye"))

abbrev pub renames : ℕ → ℕ → List ℕ → List ℕ → NodeOp
renames new_parent flags old_name new_name = NodeOp.Rename new_parent flags old_name new_name

abbrev pub saves : NodeOp
saves = renames a_folder 0 tmp (codes "a.txt")

abbrev pub saved : State
saved = then written 1 a_folder saves

abbrev pub opened_anew : State
opened_anew = then saved 2 a_node (NodeOp.Open 0)

pub record Saving : Type 0 where
  pub makes : answer_to viewed 1 a_folder (NodeOp.Create tmp 2)
      ≡ told (NodeAnswer.Created (file_attr first_temp 0 7) 1)
  pub found : answer_to written 1 a_folder (NodeOp.Lookup tmp)
      ≡ told (NodeAnswer.Entry (file_attr first_temp 3 7))
  pub writes : answer_to made 1 first_temp (NodeOp.Write 1 0 (codes "bye"))
      ≡ told (NodeAnswer.Written 3)
  -- another sees nothing of it
  pub unseen : answer_to written 2 a_folder (NodeOp.Lookup tmp) ≡ errs 2
  pub unread : answer_to written 2 a_node (NodeOp.Read 1 0 16)
      ≡ told (NodeAnswer.Content (codes "hello"))
  pub renamed : answer_to written 1 a_folder saves ≡ told NodeAnswer.Empty
  -- a handle from before has the older file, a later one the newer
  pub older : answer_to saved 2 a_node (NodeOp.Read 1 0 16)
      ≡ told (NodeAnswer.Content (codes "hello"))
  pub opens : answer_to saved 2 a_node (NodeOp.Open 0) ≡ told (NodeAnswer.Opened 2)
  pub newer : answer_to opened_anew 2 a_node (NodeOp.Read 2 0 16)
      ≡ told (NodeAnswer.Content (codes "bye"))
  -- and it is no temporary any more
  pub gone : answer_to saved 1 first_temp (NodeOp.GetAttr 0 0) ≡ errs 2

-- ---- temporaries in a document's folder

abbrev pub made_both : State
made_both = then made 1 a_folder (NodeOp.Create (codes "B.tmp") 2)

abbrev pub listed : State
listed = then made_both 1 a_folder NodeOp.OpenDir

abbrev pub temp_entry : ℕ → List ℕ → DirName
temp_entry node name = record { node = node; name = name; folder = false }

-- one takes the name of the other, which is gone
abbrev pub joined : State
joined = then made_both 1 a_folder (renames a_folder 0 tmp (codes "B.tmp"))

abbrev pub dropped : State
dropped = then made_both 1 a_folder (NodeOp.Unlink tmp)

pub record Temporaries : Type 0 where
  pub second : answer_to made 1 a_folder (NodeOp.Create (codes "B.tmp") 2)
      ≡ told (NodeAnswer.Created (file_attr 21474836482 0 7) 2)
  pub again : answer_to made 1 a_folder (NodeOp.Create tmp 2) ≡ errs 17
  -- whoever may not write the document makes none
  pub may_not_make : answer_to made 2 a_folder (NodeOp.Create tmp 2) ≡ errs 13
  -- behind the document's name, in byte order
  pub lists : answer_to listed 1 a_folder (NodeOp.ReadDir 3 0 4096) ≡ told (NodeAnswer.Names
      (folder_entry a_folder (codes ".") ∷ folder_entry 1 (codes "..")
      ∷ temp_entry a_node (codes "a.txt") ∷ temp_entry 21474836482 (codes "B.tmp")
      ∷ temp_entry first_temp tmp ∷ []) 0 4096)
  pub replaces : answer_to joined 1 a_folder (NodeOp.Lookup (codes "B.tmp"))
      ≡ told (NodeAnswer.Entry (file_attr first_temp 0 7))
  pub replaced : answer_to joined 1 21474836482 (NodeOp.GetAttr 0 0) ≡ errs 2
  pub unlinks : answer_to made_both 1 a_folder (NodeOp.Unlink tmp) ≡ told NodeAnswer.Empty
  pub unlinked : answer_to dropped 1 a_folder (NodeOp.Lookup tmp) ≡ errs 2
  -- what is open of it stays
  pub still_open : answer_to dropped 1 first_temp (NodeOp.Write 1 0 (codes "x"))
      ≡ told (NodeAnswer.Written 1)

-- ---- refusals

-- as many temporaries as may be
abbrev pub some_temp : OwnTemp
some_temp = record {
  k = 1;
  temp = record {
    document = record { number = 10 };
    view = 0;
    name = codes "x";
    file = record { path = a_text; generation = 1 };
  };
}

abbrev pub with_many : ℕ → Connection → Connection
with_many count c = record c { temps = replicate count some_temp }

abbrev pub with_temps : ℕ → State → State
with_temps count s = record s { connections = map (with_many count) s.connections }

-- the tree fails as the file is to be the present one
abbrev pub failing : Entry
failing = record {
  seat = 1;
  request = Request.Node (request_on a_folder saves);
  given = record (shown [] None) { fault = Fault.Tree };
}

pub record NotSaved : Type 0 where
  pub of_document : answer_to made 1 a_folder (renames a_folder 0 (codes "a.txt") (codes "b"))
      ≡ errs 1
  pub flags : answer_to made 1 a_folder (renames a_folder 1 tmp (codes "a.txt")) ≡ errs 22
  pub unlinks_document : answer_to made 1 a_folder (NodeOp.Unlink (codes "a.txt")) ≡ errs 1
  pub unlinks_nothing : answer_to made 1 a_folder (NodeOp.Unlink (codes "x")) ≡ errs 2
  pub elsewhere : answer_to made 1 a_folder (renames 1 0 tmp (codes "a.txt")) ≡ errs 1
  pub to_dots : answer_to made 1 a_folder (renames a_folder 0 tmp (codes "..")) ≡ errs 13
  pub of_a_file : answer_to made 1 a_folder (renames a_node 0 tmp (codes "a.txt")) ≡ errs 20
  pub one_more : answer_to (with_temps 64 begun) 1 a_folder (NodeOp.Create (codes "y") 2) ≡ errs 24
  -- a tree that fails changes nothing, and then it is done
  pub fails : (reply_at written failing).answer ≡ errs 5
  pub then_saves : answer_to (after written failing) 1 a_folder saves ≡ told NodeAnswer.Empty
