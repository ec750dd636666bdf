-- The rights that a subject has in a document now, as they are told.
use Rattle.portal_model.specs.Reach.{Reach}
use Rattle.app_view.specs.declared.rights_now.Reach.{Reach as ReachTold}

abbrev pub reach_told : ReachTold → Reach
reach_told told = record { read = told.read; write = told.write }
