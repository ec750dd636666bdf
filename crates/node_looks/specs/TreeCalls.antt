-- The calls of the tree that a request makes, told by its walk and by what was shown: of which kind
-- each is and whether it failed, and what the tree is behind them.
use Rattle.std.specs.Prelude.{◌≡◌, ◌⊎◌, ◌≤◌, ℕ, List, [], ◌∷◌, length, Bool, false, map, Option, option_map}
use Rattle.portal_base.specs.Calls.{Calls, next_call, FailsAsTold}
use Rattle.file_generations.specs.Generations.{Held}
use Rattle.portal_base.specs.declared.files.Look.{Look}
use Rattle.host_tree.specs.Trees.{TreeIs, after_call}
use Rattle.host_tree.specs.declared.tree.TreeCall.{TreeCall}
use Rattle.portal_model.specs.declared.reply.NodeAnswer.{NodeAnswer}
use Rattle.portal_model.specs.NodeVerdict.{NodeVerdict, Errs, Yields, FileChange, FilesStay, Writes, Resizes, Creates, Adds, Stands}
use Rattle.portal_model.specs.Walk.{Walk, Answers, Ends, Lists, Looks, Target, AtPath, Named}

-- a call: its kind, and whether it failed
abbrev pub Call : Type 0
Call = TreeCall × Bool

abbrev pub unfailed : TreeCall → Call
unfailed kind = (kind, false)

-- ---- which calls

-- what stands at a path is looked at, and the file of a name by what it tells of itself
abbrev pub call_at : Target → TreeCall
call_at (AtPath path) = TreeCall.Look
call_at (Named name) = TreeCall.Attr

-- the call of a file that stays: its content is read, where that is told, and else it is brought to
-- rest
abbrev pub call_telling : NodeAnswer → TreeCall
call_telling (NodeAnswer.Content bytes) = TreeCall.Read
call_telling answer = TreeCall.Sync

-- the call by which the files change so
abbrev pub call_changing : FileChange → NodeAnswer → TreeCall
call_changing FilesStay answer = call_telling answer
call_changing (Writes name offset content now) answer = TreeCall.Write
call_changing (Resizes name size now) answer = TreeCall.SetLen
call_changing (Creates path now) answer = TreeCall.Create
call_changing (Adds name now) answer = TreeCall.Fresh
call_changing (Stands name) answer = TreeCall.Turn

-- the call that does what is done behind it: the last of a walk, which is never done with an error
abbrev pub call_doing : NodeVerdict → TreeCall
call_doing (Errs errno) = TreeCall.Sync
call_doing (Yields d) = call_changing d.file d.answer

-- A call for each look, and the last call where it is reached; that one didn't fail where it found
-- nothing, for which there is a look too. By which call does what a walk comes to at its end.
abbrev pub calls_by : {X : Type 0} → (X → TreeCall) → Walk X → List Look → Bool → List Call
calls_by last (Answers x) looks failed = []
calls_by last (Looks target next) [] failed = (call_at target, failed) ∷ []
calls_by last (Looks target next) (look ∷ looks) failed =
    unfailed (call_at target) ∷ calls_by last (next look) looks failed
calls_by last (Ends call done missing) looks failed = (last (done 0), failed) ∷ []
calls_by last (Lists path done missing) looks failed = (TreeCall.List, failed) ∷ []

-- those of a request on a node, in order
abbrev pub calls_of : Walk NodeVerdict → List Look → Bool → List Call
calls_of walk looks failed = calls_by call_doing walk looks failed

-- ---- the tree behind them

-- the tree after calls that left its files
abbrev pub after_calls : TreeIs → List Call → TreeIs
after_calls tree [] = tree
after_calls tree (call ∷ more) = after_calls (after_call tree call.0 call.1 tree.told) more

abbrev pub with_files : TreeIs → Option Held → TreeIs
with_files tree files = record tree { told = files }

-- where calls are told, just those failed that were to
abbrev pub CallsAsTold : Option Calls → List Call → Type 0
CallsAsTold calls [] = Unit {0}
CallsAsTold calls (call ∷ more) =
    FailsAsTold calls call.1 × CallsAsTold (option_map next_call calls) more

-- just these calls were made, each failed exactly where the tree tells that it does, and the tree
-- has these files now
pub record Calling (old : TreeIs) (calls : List Call) (files : Option Held)
    (new : TreeIs) : Type 0 where
  pub goes : new ≡ with_files (after_calls old calls) files
  pub fails : CallsAsTold old.calls calls

-- the tree got some calls, without a failure, and its files stay
abbrev pub WasCalled : TreeIs → TreeIs → Type 0
WasCalled old new = (kinds : List TreeCall) × Calling old (map unfailed kinds) old.told new

-- the same, so many calls at most
abbrev pub WasCalledUpTo : ℕ → TreeIs → TreeIs → Type 0
WasCalledUpTo most old new =
    (kinds : List TreeCall) × Calling old (map unfailed kinds) old.told new
    × (length kinds ≤ most)

-- the same, one call at most
abbrev pub WasCalledOnce : TreeIs → TreeIs → Type 0
WasCalledOnce old new =
    (new ≡ old) ⊎ ((kind : TreeCall) × Calling old (unfailed kind ∷ []) old.told new)
