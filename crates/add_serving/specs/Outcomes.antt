-- What an addition was given by the outside, and what it is answered.
use Rattle.std.specs.Prelude.{ℕ, List, [], drop, Bool, true, false, cond, Result, Ok, Err, None}
use Rattle.portal_base.specs.declared.files.Look.{Look}
use Rattle.portal_base.specs.declared.memory.WantOfMemory.{WantOfMemory}
use Rattle.portal_model.specs.declared.entry.Fault.{Fault}
use Rattle.portal_model.specs.declared.entry.Given.{Given}
use Rattle.portal_model.specs.declared.reply.Answer.{Answer}
use Rattle.portal_model.specs.declared.reply.Code.{Code}
use Rattle.add_files.specs.declared.plan.AddError.{AddError}
use Rattle.add_files.specs.declared.plan.AddError.TheVariants.{InvalidArgument, NotAllowed, Memory}
use Rattle.add_serving.specs.declared.outcomes.AddedFiles.{AddedFiles}
use Rattle.document_calls.specs.KeeperCalls.{fault_if}
use Rattle.document_calls.specs.declared.served.ServedCall.{ServedCall}

-- ---- no word was drawn

abbrev pub undrawn : List Look → Bool → Fault → Given
undrawn looks full fault = record {
  now = None;
  words = [];
  numbers = [];
  looks = looks;
  listed = None;
  generation = None;
  full = full;
  fault = fault;
}

-- it is refused, with what the tree showed by then
abbrev pub refused_call : Code → List Look → ServedCall
refused_call code looks =
    record { given = undrawn looks false Fault.None; answer = Answer.Refused code }

-- the call of the tree behind these looks failed
abbrev pub unseen_call : List Look → ServedCall
unseen_call looks =
    record { given = undrawn looks false Fault.Tree; answer = Answer.Refused Code.Failed }

-- a limit of documents or of applications is met
abbrev pub full_call : List Look → ServedCall
full_call looks =
    record { given = undrawn looks true Fault.None; answer = Answer.Refused Code.LimitsExceeded }

-- why a plan is refused
abbrev pub refusal : AddError → Result ServedCall WantOfMemory
refusal InvalidArgument = Ok (refused_call Code.InvalidArgument [])
refusal NotAllowed = Ok (refused_call Code.NotAllowed [])
refusal Memory = Err (record {})

-- ---- words were drawn

-- the files were placed, and then the keeper failed or didn't
abbrev pub placed_call : AddedFiles → List Look → ServedCall
placed_call added looks = record {
  given = record {
    now = None;
    words = added.drawn.words;
    numbers = added.drawn.numbers;
    looks = looks;
    listed = None;
    generation = None;
    full = false;
    fault = fault_if added.failed;
  };
  answer = cond added.failed (Answer.Refused Code.Failed) (Answer.Ids added.ids);
}

-- ---- the queue

-- the presented files that a call takes leave the queue, unless a device failed
abbrev pub queue_left : Fault → ℕ → List (List ℕ) → List (List ℕ)
queue_left Fault.None count queue = drop count queue
queue_left Fault.Tree count queue = queue
queue_left Fault.Keeper count queue = queue
