-- The numbers of handles up to their limit, whatever it is: document 0000000a of the file
-- /home/a.txt, a mount of the editor at seat 1, and one of the host at seat 2. EMFILE is 24
-- (errno.h); FUSE_OPEN and its fh are of include/uapi/linux/fuse.h.
use Rattle.std.specs.Prelude.{◌≡◌, ℕ, zero, suc, ◌+◌, ◌<◌}
use Rattle.portal_model.specs.declared.reply.NodeAnswer.{NodeAnswer}
use Rattle.portal_model.specs.declared.request.NodeOp.{NodeOp}
use Rattle.portal_model.specs.FileExamples.{a_node, answer_to, errs, limited_to, then, told, with_rights}
use Rattle.portal_model.specs.State.{State}

-- the editor opens the file so often
abbrev pub opened_times : ℕ → State → State
opened_times zero s = s
opened_times (suc count) s = then (opened_times count s) 1 a_node (NodeOp.Open 0)

-- where a connection may have so many handles, and the editor opened the file so often
abbrev pub opened_up_to : ℕ → ℕ → State
opened_up_to limit count = opened_times count (limited_to limit (with_rights 3))

-- The OPENs of one connection are answered the numbers from 1 up to the limit, and the next is
-- EMFILE. The first OPEN of another connection is answered 1 then.
pub record HandlesUpTo (limit : ℕ) : Type 0 where
  pub each :
      (count : ℕ) → count < limit →
      answer_to (opened_up_to limit count) 1 a_node (NodeOp.Open 0)
      ≡ told (NodeAnswer.Opened (count + 1))
  pub full : answer_to (opened_up_to limit limit) 1 a_node (NodeOp.Open 0) ≡ errs 24
  pub elsewhere :
      0 < limit →
      answer_to (opened_up_to limit limit) 2 a_node (NodeOp.Open 0) ≡ told (NodeAnswer.Opened 1)

-- so it is with any limit, and with the 1,024 that are usual
pub record HandlesAreLimited : Type 0 where
  pub any : (limit : ℕ) → HandlesUpTo limit
  pub usual : HandlesUpTo 1024
