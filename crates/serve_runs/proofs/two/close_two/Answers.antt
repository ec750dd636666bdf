use Rattle.std.proofs.Common.{◌≡◌, [], ◌∷◌, ◌++◌, ap, ◌∙◌}
use Rattle.std.specs.Prelude.{slice_get}
use Rattle.serve_runs.proofs.Twos.{all_two}
use Rattle.serve_runs.proofs.two.close_two.Goals as goal

pub close-requires : goal.close-requires
close-requires g c =
    let items : c.push_reserved-2.new.self.items ≡ c.args.second ∷ c.args.first ∷ [] =
    c.push_reserved-2.ensures.items ∙ ap (λ l. l ++ c.args.first ∷ []) (c.push_reserved.ensures.items ∙ ap (λ l. l ++ c.args.second ∷ []) c.requires.room.0) in
    let r = c.requires in
    all_two c.args.turn.table c.args.turn.seats c.args.first c.args.second c.push_reserved-2.new.self.items r.turn items r.first.0 r.first.1 r.first.2 r.second.0 r.second.1

pub returns-clause-first : goal.returns-clause-first
returns-clause-first g c =
    let items : c.push_reserved-2.new.self.items ≡ c.args.second ∷ c.args.first ∷ [] =
    c.push_reserved-2.ensures.items ∙ ap (λ l. l ++ c.args.first ∷ []) (c.push_reserved.ensures.items ∙ ap (λ l. l ++ c.args.second ∷ []) c.requires.room.0) in
    c.close.ensures.seats 1 c.args.first (ap (λ l. slice_get l 1) items)

pub returns-clause-second : goal.returns-clause-second
returns-clause-second g c =
    let items : c.push_reserved-2.new.self.items ≡ c.args.second ∷ c.args.first ∷ [] =
    c.push_reserved-2.ensures.items ∙ ap (λ l. l ++ c.args.first ∷ []) (c.push_reserved.ensures.items ∙ ap (λ l. l ++ c.args.second ∷ []) c.requires.room.0) in
    c.close.ensures.seats 0 c.args.second (ap (λ l. slice_get l 0) items)
