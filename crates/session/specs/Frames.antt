-- The frames that answer a frame (include/uapi/linux/fuse.h).
use Rattle.std.specs.Prelude.{ℕ, List, [], Bool, true, false, cond, Option, Some, None, option_to_list}
use Rattle.fuse_reply.specs.Replies.{reply_of}
use Rattle.portal_model.specs.declared.reply.Answer.{Answer}
use Rattle.portal_model.specs.declared.reply.Answer.TheVariants as answer
use Rattle.portal_model.specs.declared.reply.Code.{Code}
use Rattle.portal_model.specs.declared.reply.Code.TheVariants.{Errno}
use Rattle.portal_model.specs.declared.reply.NodeAnswer.{NodeAnswer}
use Rattle.portal_model.specs.declared.reply.NodeAnswer.TheVariants.{Error}
use Rattle.portal_model.specs.declared.reply.Refused.{Refused}
use Rattle.portal_model.specs.declared.reply.Refused.TheVariants.{Memory, Full}
use Rattle.portal_model.specs.declared.request.NodeOp.{NodeOp}
use Rattle.portal_model.specs.Errno.{enomem, enospc}

-- What a frame tells of an answer: nothing to a seat without an open connection, and nothing of an
-- answer that only a bus gets.
abbrev pub told_code : Code → Option NodeAnswer
told_code (Errno errno) = Some (Error errno)
told_code code = None

abbrev pub told_of : Answer → Option NodeAnswer
told_of (answer.Refused code) = told_code code
told_of (answer.Node told) = Some told
told_of answered = None

-- the frame that tells this to the request of this number; a quiet answer has none
abbrev pub frames_of : ℕ → NodeAnswer → List (List ℕ)
frames_of unique told = option_to_list (reply_of unique told)

abbrev pub frames_telling : ℕ → Option NodeAnswer → List (List ℕ)
frames_telling unique None = []
frames_telling unique (Some told) = frames_of unique told

-- the frame, if any, that tells an answer to the request of this number
abbrev pub answer_frames : ℕ → Answer → List (List ℕ)
answer_frames unique answered = frames_telling unique (told_of answered)

abbrev pub refusal_errno : Refused → ℕ
refusal_errno Memory = enomem
refusal_errno (Full cost limit) = enospc

-- A FUSE_FORGET and a FUSE_BATCH_FORGET have no reply, whatever becomes of them.
abbrev pub has_no_reply : NodeOp → Bool
has_no_reply (NodeOp.Forget count) = true
has_no_reply (NodeOp.BatchForget nodes) = true
has_no_reply op = false

-- the frame, if any, that tells that the request of this number is no entry of the history
abbrev pub refusal_frames : ℕ → NodeOp → Refused → List (List ℕ)
refusal_frames unique op why =
    cond (has_no_reply op) [] (frames_of unique (Error (refusal_errno why)))
