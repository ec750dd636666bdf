use Rattle.std.proofs.Common.{Option, option_map, sym, ap, ◌∙◌}
use Rattle.portal_base.specs.Content.{file_named}
use Rattle.file_generations.specs.Generations.{Held, all_held}
use Rattle.host_tree.specs.Stored.{stored_of}
use Rattle.host_tree.specs.declared.files.Stored.{Stored}
use Rattle.host_tree.proofs.HeldChanges.{first_of, named-append}
use Rattle.host_tree.proofs.held.HeldFiles.named.Goals as goal

pub returns-in-Some : goal.returns-in-Some
returns-in-Some c =
    let name = c.args.name.now in
    let present = c.self.inside.present in
    let hidden = c.self.inside.hidden in
    ap (λ (o : Option Stored). first_of o (option_map stored_of (file_named present name))) c.in-Some.ensures
    ∙ (sym (named-append name hidden present) ∙ ap (λ (h : Held). option_map stored_of (file_named (all_held h) name)) c.self.view_is)

pub returns-in-None : goal.returns-in-None
returns-in-None c =
    let name = c.args.name.now in
    let present = c.self.inside.present in
    let hidden = c.self.inside.hidden in
    c.named-in-None.ensures
    ∙ (ap (λ (o : Option Stored). first_of o (option_map stored_of (file_named present name))) c.in-None.ensures
    ∙ (sym (named-append name hidden present) ∙ ap (λ (h : Held). option_map stored_of (file_named (all_held h) name)) c.self.view_is))
