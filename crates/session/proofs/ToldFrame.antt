-- What is told of an answer is the frame that is written of it.
use Rattle.std.proofs.Common.{◌≡◌, ℕ, List, Option, IfOk, Result, subst}
use Rattle.std.specs.Prelude.{option_to_list}
use Rattle.portal_model.specs.declared.reply.NodeAnswer.TheVariants.{Error}
use Rattle.session.specs.Frames.{frames_of}

-- a refusal is told by its errno
pub refused : {E : Type 0} (unique errno is : ℕ) (r : Result (Option (List ℕ)) E) → errno ≡ is → IfOk r (λ frame. option_to_list frame ≡ frames_of unique (Error errno)) → IfOk r (λ frame. option_to_list frame ≡ frames_of unique (Error is))
refused unique errno is r e h = subst (λ (n : ℕ). IfOk r (λ frame. option_to_list frame ≡ frames_of unique (Error n))) e h
