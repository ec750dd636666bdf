-- What is answered to a request that may change a file, told by its walk alone.
use Rattle.std.specs.Prelude.{◌≡◌, ℕ, List, [], ◌∷◌, ◌++◌, Bool, true, false, cond, Option, Some, None, is_some, option_map}
use Rattle.host_tree.specs.Trees.{TreeIs}
use Rattle.host_tree.specs.declared.tree.LookAnswer.{LookAnswer}
use Rattle.host_tree.specs.declared.tree.LookAnswer.TheVariants as look
use Rattle.host_tree.specs.declared.tree.TreeDone.{TreeDone}
use Rattle.host_tree.specs.declared.tree.TreeDone.TheVariants as done
use Rattle.file_generations.specs.Generations.{Held}
use Rattle.portal_base.specs.declared.files.Look.{Look}
use Rattle.portal_model.specs.declared.entry.Fault.{Fault}
use Rattle.portal_model.specs.declared.reply.Answer.{Answer}
use Rattle.portal_model.specs.declared.reply.Code.TheVariants as Code
use Rattle.portal_model.specs.declared.reply.NodeAnswer.{NodeAnswer}
use Rattle.portal_model.specs.Bus.{is_tree, moment_given}
use Rattle.portal_model.specs.Errno.{eio, enoent}
use Rattle.portal_model.specs.Node.{files_after}
use Rattle.portal_model.specs.NodeVerdict.{NodeVerdict, HandleChange, HandlesStay}
use Rattle.portal_model.specs.Walk.{Gives, GivesNames, IsShown, Target, Walk, generation_reached, reads_clock, walked_with}
use Rattle.node_looks.specs.Done.{answer_of, file_change, handle_change}
use Rattle.node_looks.specs.TreeCalls.{Calling, calls_of}
use Rattle.node_looks.specs.Walks.{taken}
use Rattle.node_looks.specs.declared.served.NodeDone.{NodeDone}
use Rattle.file_ops.specs.declared.tried.Came.{Came}
use Rattle.file_ops.specs.declared.tried.Came.TheVariants as came
use Rattle.file_ops.specs.declared.tried.CallMade.{CallMade}
use Rattle.file_ops.specs.declared.tried.Ended.{Ended}
use Rattle.file_ops.specs.declared.tried.Tried.{Tried}
use Rattle.file_ops.specs.declared.tried.TriedBelow.{TriedBelow}

-- ---- what the tree gave

-- the answer of a call that came to this
abbrev pub tree_done : Came → TreeDone
tree_done came.Done = done.Done
tree_done came.NotFile = done.NotFile
tree_done came.Failed = done.Failed

abbrev pub is_not_file : Came → Bool
is_not_file came.Done = false
is_not_file came.NotFile = true
is_not_file came.Failed = false

-- a call that found nothing shows one look more, that nothing is there
abbrev pub found_nothing : Option CallMade → Bool
found_nothing None = false
found_nothing (Some call) = is_not_file call.came

abbrev pub shown_behind : Option CallMade → List Look
shown_behind call = cond (found_nothing call) (Look.Missing ∷ []) []

abbrev pub moment_of : Option CallMade → Option ℕ
moment_of None = None
moment_of (Some call) = call.now

-- the generation of the file that it was to make beside the present ones
abbrev pub generation_in : Option CallMade → Option ℕ
generation_in None = None
generation_in (Some call) = call.generation

abbrev pub fault_by : Came → Fault
fault_by came.Done = Fault.None
fault_by came.NotFile = Fault.None
fault_by came.Failed = Fault.Tree

abbrev pub fault_of_call : Option CallMade → Fault
fault_of_call None = Fault.None
fault_of_call (Some call) = fault_by call.came

-- of a look that failed, or else of the call behind it
abbrev pub fault_behind : Option LookAnswer → Option CallMade → Fault
fault_behind None call = fault_of_call call
fault_behind (Some (look.Is shown)) call = fault_of_call call
fault_behind (Some look.Failed) call = Fault.Tree

-- what the answer to a look shows of what was looked at
abbrev pub ShowsAt : Option Held → Target → LookAnswer → Type 0
ShowsAt told target (look.Is shown) = IsShown told target shown
ShowsAt told target look.Failed = Unit {0}

-- a file that is shown is of this generation
abbrev pub IsOfGeneration : ℕ → LookAnswer → Type 0
IsOfGeneration number (look.Is (Look.File generation size moment)) = generation ≡ number
IsOfGeneration number (look.Is Look.Folder) = Unit {0}
IsOfGeneration number (look.Is Look.Missing) = Unit {0}
IsOfGeneration number look.Failed = Unit {0}

-- ---- what is done

-- the request that ended so, behind a look where one was taken
abbrev pub done_behind : Option LookAnswer → Ended → NodeDone
done_behind look ended = record {
  answer = ended.answer;
  looks = taken look ++ shown_behind ended.call;
  listed = None;
  now = moment_of ended.call;
  generation = generation_in ended.call;
  fault = fault_behind look ended.call;
}

abbrev pub done_of_ended : Ended → NodeDone
done_of_ended ended = done_behind None ended

abbrev pub done_of_tried : Tried → NodeDone
done_of_tried tried = done_behind tried.look tried.ended

-- what was done behind what was shown first
abbrev pub done_after : Look → NodeDone → NodeDone
done_after shown done = record done { looks = shown ∷ done.looks }

abbrev pub done_behind_first : Option Look → NodeDone → NodeDone
done_behind_first None done = done
done_behind_first (Some shown) done = done_after shown done

abbrev pub done_of_below : TriedBelow → NodeDone
done_of_below below = done_behind_first below.first (done_of_tried below.then)

-- no call was reached
abbrev pub refuses : ℕ → Ended
refuses errno = record { answer = Answer.Refused (Code.Errno errno); call = None }

abbrev pub says : NodeAnswer → Ended
says answer = record { answer = Answer.Node answer; call = None }

-- the answer by what came of a call, which is this one where it was done
abbrev pub answer_by : Came → NodeAnswer → Answer
answer_by came.Done answer = Answer.Node answer
answer_by came.NotFile answer = Answer.Refused (Code.Errno enoent)
answer_by came.Failed answer = Answer.Refused (Code.Errno eio)

abbrev pub ended_of : CallMade → NodeAnswer → Ended
ended_of call answer = record { answer = answer_by call.came answer; call = Some call }

-- a call that changes or makes a present file, at a moment
abbrev pub called_at : ℕ → Came → CallMade
called_at now came = record { now = Some now; generation = None; came = came }

abbrev pub ended_by : ℕ → Came → NodeAnswer → Ended
ended_by now came answer = ended_of (called_at now came) answer

-- one that makes a file beside the present ones
abbrev pub freshened_at : ℕ → ℕ → Came → CallMade
freshened_at now generation came =
    record { now = Some now; generation = Some generation; came = came }

-- one by which a file becomes the present one of its path
abbrev pub turned_so : Came → CallMade
turned_so came = record { now = None; generation = None; came = came }

-- ---- by a walk

-- The tree gives what the walk looks at, and what comes of it is this answer, this change of the
-- files, and this one of the open handles; and just these calls were made.
pub record Goes (walk : Walk NodeVerdict) (old : TreeIs) (done : NodeDone) (change : HandleChange)
    (new : TreeIs) : Type 0 where
  pub gives : Gives old.told walk done.looks (is_tree done.fault)
  pub lists : GivesNames old.told walk done.looks done.listed (is_tree done.fault)
  pub clock : is_some done.now ≡ reads_clock walk done.looks
  pub generation : done.generation ≡ generation_reached walk done.looks
  pub keeper : done.fault ≡ Fault.Keeper → ⊥
  pub verdict : Option NodeVerdict
  pub comes :
      walked_with walk (moment_given done.now) done.listed done.looks (is_tree done.fault)
      ≡ verdict
  pub answer : done.answer ≡ answer_of verdict
  pub handles : handle_change verdict ≡ change
  pub files : new.told ≡ option_map (files_after true (file_change verdict)) old.told
  pub calls : Calling old (calls_of walk done.looks (is_tree done.fault)) new.told new

-- behind a look that was answered so
abbrev pub GoesBehind : (Look → Walk NodeVerdict) → LookAnswer → TreeIs → Ended → HandleChange
    → TreeIs → Type 0
GoesBehind next (look.Is shown) old ended change new =
    Goes (next shown) old (done_of_ended ended) change new
GoesBehind next look.Failed old ended change new =
    (ended ≡ refuses eio) × (change ≡ HandlesStay) × (new ≡ old)
