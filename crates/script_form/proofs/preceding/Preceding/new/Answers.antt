use Rattle.std.proofs.Common.{refl}
use Rattle.script_form.proofs.ScriptFacts.{new_tracks}
use Rattle.script_form.proofs.preceding.Preceding.new.Goals as goal

pub returns : goal.returns
returns c = (c.new.ensures, new_tracks _ 65536 c.new.ensures refl refl (c.in_ok-vec.ensures.items_if_clones_equal (λ y e. e)) refl c.new-2.ensures.empty c.new-3.ensures c.new-4.ensures c.new-5.ensures)
