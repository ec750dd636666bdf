use Rattle.std.proofs.Common.{sym, ap, ◌∙◌, List}
use Rattle.std.specs.Option.{is_some}
use Rattle.portal_base.specs.Content.{file_at}
use Rattle.portal_base.specs.declared.files.File.{File}
use Rattle.host_tree.proofs.Entries.{has-file-at}
use Rattle.host_tree.proofs.files.Files.has_file.Goals as goal

pub returns : goal.returns
returns c = c.contains_key.ensures ∙ (sym (has-file-at c.args.path.now c.self.inside.map.entries) ∙ ap (λ (fs : List File). is_some (file_at fs c.args.path.now)) c.self.view_is)
