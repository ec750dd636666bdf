use Rattle.std.proofs.Common.{sym, ap, ◌∙◌, List}
use Rattle.portal_base.specs.Content.{file_at, look_at}
use Rattle.portal_base.specs.declared.files.File.{File}
use Rattle.portal_base.specs.declared.files.Look.{Look}
use Rattle.host_tree.proofs.Entries.{looked, looked-none}
use Rattle.host_tree.proofs.files.Files.look.Goals as goal

pub look_without_file-requires : goal.look_without_file-requires
look_without_file-requires c = ap (λ (fs : List File). file_at fs c.args.path.now) (sym c.self.view_is) ∙ looked-none c.self.inside.map.entries c.args.path.now c.in-None.ensures.value

pub returns-in-Some : goal.returns-in-Some
returns-in-Some c =
    ap (λ n. Look.File c.in-Some.stored.now.generation n c.in-Some.stored.now.moment) c.len.ensures
    ∙ (looked c.self.inside.map.entries c.args.path.now c.in-Some.stored.now c.in-Some.ensures.value
    ∙ ap (λ (fs : List File). look_at fs c.args.path.now) c.self.view_is)
