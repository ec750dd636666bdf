use Rattle.std.proofs.Common.{not, rules}
use Rattle.std.proofs.lemmas.Map.Made.{filter_same_pairs}
use Rattle.save_files.specs.Own.{is_other}
use Rattle.save_files.proofs.own.take_others.Goals as goal

pub returns-clause-temps : goal.returns-clause-temps
returns-clause-temps c = filter_same_pairs _ (λ e. not (is_other c.args.k c.args.view c.args.document.number c.args.name.now e)) _ (λ k v b w f' t. search rules) _ _ c.retain.ensures.filtered
