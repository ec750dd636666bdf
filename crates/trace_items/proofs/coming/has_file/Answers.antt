use Rattle.std.proofs.Common.{ap, sym, ◌∙◌}
use Rattle.file_generations.specs.Generations.{Held}
use Rattle.portal_model.specs.State.{held_in}
use Rattle.app_world.specs.View.{holds_name, knows, view}
use Rattle.trace_items.specs.FilesChanged.{is_present}
use Rattle.trace_items.proofs.BytesAfter.{has-held}
use Rattle.trace_items.proofs.LentParts.{by-name, by-neither, by-place}
use Rattle.trace_items.proofs.coming.has_file.Goals as goal

pub returns-then-names_file : goal.returns-then-names_file
returns-then-names_file c = λ s shows v there.
    let app = c.args.app.now in
    let name = c.args.name.now in
    by-name (holds_name (view s app) name) c.names_file.result (is_present (held_in s) name) c.names_file.result (knows (view s app) name.path) c.names_file.result c.if-names_file.true (c.names_file.ensures s shows v)
    ∙ has-held app s v shows.told name there

pub returns-then-stands : goal.returns-then-stands
returns-then-stands c = λ s shows v there.
    let app = c.args.app.now in
    let name = c.args.name.now in
    by-place (holds_name (view s app) name) c.names_file.result (is_present (held_in s) name) c.stands.result (knows (view s app) name.path) c.tells_of.result c.if-names_file.false (c.names_file.ensures s shows v)
    c.if-stands.true (c.stands.ensures ∙ ap (λ (h : Held). is_present h name) (sym shows.files)) (c.tells_of.ensures s shows v)
    ∙ has-held app s v shows.told name there

pub returns-else-stands : goal.returns-else-stands
returns-else-stands c = λ s shows v there.
    let app = c.args.app.now in
    let name = c.args.name.now in
    c.if-stands.false
    ∙ (by-neither (holds_name (view s app) name) c.names_file.result (is_present (held_in s) name) c.stands.result (knows (view s app) name.path) c.names_file.result c.if-names_file.false (c.names_file.ensures s shows v)
    c.if-stands.false (c.stands.ensures ∙ ap (λ (h : Held). is_present h name) (sym shows.files))
    ∙ has-held app s v shows.told name there)
