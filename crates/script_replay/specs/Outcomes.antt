-- What became of the requests of a history. To open a connection counts for none.
use Rattle.std.specs.Prelude.{◌≡◌, ℕ, ◌+◌, List, [], ◌∷◌, Bool, true, false, ◌&&◌, not, cond}
use Rattle.portal_model.specs.declared.entry.Entry.{Entry}
use Rattle.portal_model.specs.declared.reply.Answer.{Answer}
use Rattle.portal_model.specs.declared.reply.Answer.TheVariants.{Refused}
use Rattle.portal_model.specs.declared.reply.Reply.{Reply}
use Rattle.portal_model.specs.declared.request.Request.{Request}
use Rattle.portal_model.specs.declared.request.Request.TheVariants.{Enter}
use Rattle.portal_model.specs.State.{State}
use Rattle.portal_model.specs.Step.{after, reply_at}

-- the answer is a code
abbrev pub is_code : Answer → Bool
is_code (Refused code) = true
is_code answer = false

abbrev pub is_enter : Request → Bool
is_enter (Enter who kind) = true
is_enter request = false

-- a request that isn't to open a connection, and whether it was refused with a code
abbrev pub is_refused : Request → Reply → Bool
is_refused request reply = not (is_enter request) && is_code reply.answer

abbrev pub is_done : Request → Reply → Bool
is_done request reply = not (is_enter request) && not (is_code reply.answer)

-- how many were refused, and how many done, of a history from a state
abbrev pub refused_in : State → List Entry → ℕ
refused_in s [] = 0
refused_in s (e ∷ es) = cond (is_refused e.request (reply_at s e)) 1 0 + refused_in (after s e) es

abbrev pub done_in : State → List Entry → ℕ
done_in s [] = 0
done_in s (e ∷ es) = cond (is_done e.request (reply_at s e)) 1 0 + done_in (after s e) es

-- These are the counts of a history from a state. Over a tree that doesn't tell its files a reply
-- is only alike to the step's, so nothing is said there.
pub record AreCounted (s : State) (h : List Entry) (done refused : ℕ) : Type 0 where
  pub done_all : s.told ≡ true → done ≡ done_in s h
  pub refused_all : s.told ≡ true → refused ≡ refused_in s h
