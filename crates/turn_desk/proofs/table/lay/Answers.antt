use Rattle.std.proofs.Common.{rules, ◌≡◌, [], ◌∷◌, Some, length, ap, sym, ◌∙◌}
use Rattle.turn_desk.proofs.Turns.{starts_from}
use Rattle.turn_desk.proofs.table.lay.Goals as goal

pub new-requires : goal.new-requires
new-requires g c =
    let about = c.of-about.ensures in
    let items : c.push.new.self.items ≡ Some c.args.portal ∷ [] = search rules in
    starts_from g.S.Storied.opening g.S.Storied.entries c.of-about.result.value c.entry_count-served.result c.push.new.self.items
    (ap (λ x. length (g.S.Storied.entries x)) about ∙ sym c.entry_count-served.ensures)
    (items ∙ ap (λ x. Some x ∷ []) (sym about))
