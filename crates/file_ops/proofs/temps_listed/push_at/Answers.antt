use Rattle.std.proofs.Common.{Option, ap, sym, ◌++◌, ◌∙◌}
use Rattle.std.proofs.lemmas.Result.{on_ok_weaker}
use Rattle.std.proofs.lemmas.List.{append-nil}
use Rattle.std.specs.Option.{option_map}
use Rattle.portal_model.specs.declared.temporary.OwnTemp.{OwnTemp}
use Rattle.file_ops.specs.Temporaries.{entries_of, entry_told}
use Rattle.file_ops.proofs.temps_listed.push_at.Goals as goal

pub returns-in-Some : goal.returns-in-Some
returns-in-Some c = λ has e.
    on_ok_weaker c.push_own.result
    (λ is. is ∙ ap (λ (o : Option OwnTemp). c.args.entries.now ++ entries_of c.args.view c.args.document o) (ap (option_map entry_told) (sym c.in-Some.is) ∙ c.own_at.ensures has e)) c.push_own.ensures

pub returns-in-None : goal.returns-in-None
returns-in-None c = λ has e.
    sym (append-nil c.args.entries.now) ∙ ap (λ (o : Option OwnTemp). c.args.entries.now ++ entries_of c.args.view c.args.document o) (ap (option_map entry_told) (sym c.in-None.is) ∙ c.own_at.ensures has e)
