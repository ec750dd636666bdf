use Rattle.std.proofs.Common.{◌≡◌, ap, false, is_some, option_copied, sym, true, ◌∙◌}
use Rattle.std.proofs.lemmas.Result.{IfOk-weaker, on_err_weaker}
use Rattle.portal_model.specs.declared.temporary.Temp.{Temp}
use Rattle.file_ops.proofs.Moves.{same-temp, turned-by}
use Rattle.file_ops.proofs.Tries.{wanted-memory}
use Rattle.file_ops.proofs.renamed.turned.Goals as goal

pub returns-clause-ok : goal.returns-clause-ok
returns-clause-ok g c = λ temp e.
    let same = same-temp c.in-Some.temp.now temp _ _ (ap option_copied c.in-Some.is) c.get.ensures.temp e in
    IfOk-weaker c.came_of.result _ _ (λ came is. turned-by c.in-Some.temp.now.file temp.file _ _ c.turn.result came (ap (λ (t : Temp). t.file) same) is c.turn.ensures) c.came_of.ensures.ok

pub returns-clause-err : goal.returns-clause-err
returns-clause-err g c = on_err_weaker c.came_of.result (λ m. wanted-memory _ _ c.turn.result _ _ m c.turn.ensures) c.came_of.ensures.err

pub unreachable-requires : goal.unreachable-requires
unreachable-requires g c = let no : false ≡ true = ap (λ o. is_some (option_copied o)) (sym c.in-None.is) ∙ (ap is_some c.get.ensures.temp ∙ c.requires) in cc
