-- The entries that the outside of a script gives to requests: its tree shows the files of the
-- state, its clock shows what it was set to, its words come in their order, and those calls fail
-- that are to fail.
use Rattle.std.specs.Prelude.{◌≡◌, ℕ, List, [], ◌∷◌, Option, Some, None, IfSome}
use Rattle.document_calls.specs.KeeperCalls.{is_keeper}
use Rattle.portal_base.specs.Calls.{Calls, FailsAsTold, next_call}
use Rattle.portal_steps.specs.Devices.{Drawn}
use Rattle.node_looks.specs.TreeCalls.{Call}
use Rattle.portal_steps.specs.TreeCalls.{CallsAsTold, entry_calls}
use Rattle.portal_model.specs.declared.entry.Entry.{Entry}
use Rattle.portal_model.specs.declared.entry.Fault.{Fault}
use Rattle.portal_model.specs.declared.request.Request.{Request}
use Rattle.portal_model.specs.declared.state.Connection.{Connection}
use Rattle.portal_model.specs.Lawful.{Lawful}
use Rattle.portal_model.specs.Outside.{ChangesRecords, verdict_of}
use Rattle.portal_model.specs.Seated.{exchange}
use Rattle.portal_model.specs.State.{State, connection_of}
use Rattle.portal_model.specs.Step.{after, all_told, bus_of}
use Rattle.script_form.specs.Outside.{Outside}
use Rattle.session.specs.Answers.{Outcome, Made}

-- ---- the calls of an entry

-- the calls of the tree after these
abbrev pub calls_past : Calls → List Call → Calls
calls_past calls [] = calls
calls_past calls (call ∷ more) = calls_past (next_call calls) more

-- the step of the entry changes the records, where the keeper doesn't fail; on a seat without an
-- open bus no step does
abbrev pub ChangesOn : State → Entry → Option Connection → Type 0
ChangesOn s e None = ⊥
ChangesOn s e (Some c) =
    ChangesRecords (all_told c.seat s) (verdict_of (all_told c.seat s) c e.request e.given)

abbrev pub Changes : State → Entry → Type 0
Changes s e = ChangesOn s e (bus_of (connection_of s.connections e.seat))

-- the keeper's next call was made, and the fault is the keeper's exactly where it is to fail
pub record Applied (old : Calls) (fault : Fault) (new : Calls) : Type 0 where
  pub goes : new ≡ next_call old
  pub fails : FailsAsTold (Some old) (is_keeper fault)

-- ---- one entry

-- The outside gives this to an entry, and so much is left of it. It is lawful, so the tree shows
-- the files of the state, which a script's state tells, and the clock is read where the request
-- changes or makes a file.
pub record IsGiven (s : State) (o : Outside) (e : Entry) (left : Outside) : Type 0 where
  pub lawful : Lawful s e
  -- of the calls of the tree those fail that are to fail
  pub tree : CallsAsTold (Some o.tree) (entry_calls s e)
  pub tree_left : left.tree ≡ calls_past o.tree (entry_calls s e)
  -- the keeper is called once where the records change, and else not at all
  pub applied : Changes s e → Applied o.keeper e.given.fault left.keeper
  pub unapplied : (Changes s e → ⊥) → left.keeper ≡ o.keeper
  -- the words that are drawn are the first that are left, and behind the last of them 0
  pub words : Drawn (Some o.words) e.given.words (Some left.words)
  -- the clock shows what it was set to, however often it is read
  pub moment : IfSome e.given.now (λ now. now ≡ o.clock)
  pub clock : left.clock ≡ o.clock

-- ---- entries, one after another

-- these are entries of a seat, one for each of these requests
abbrev pub AreGiven : State → Outside → ℕ → List Request → List Entry → Outside → Type 0
AreGiven s o seat [] [] left = left ≡ o
AreGiven s o seat [] (e ∷ es) left = ⊥
AreGiven s o seat (r ∷ rs) [] left = ⊥
AreGiven s o seat (r ∷ rs) (e ∷ es) left =
    (e.seat ≡ seat) × (e.request ≡ r)
    × (between : Outside) × IsGiven s o e between × AreGiven (after s e) between seat rs es left

-- what became of them: each is an entry with its reply
abbrev pub made_of : State → List Entry → List Outcome
made_of s [] = []
made_of s (e ∷ es) = Made (exchange s e) ∷ made_of (after s e) es
