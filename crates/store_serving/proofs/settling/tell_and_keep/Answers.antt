use Rattle.store_serving.proofs.StoreSteps.{if_ok}
use Rattle.store_serving.proofs.settling.tell_and_keep.Goals as goal

pub returns-clause-kept : goal.returns-clause-kept
returns-clause-kept g c = if_ok _ _ c.keep_told.result (λ failed a. (c.in_ok-made.made, c.in_ok-made.ensures, a)) c.keep_told.ensures.kept
