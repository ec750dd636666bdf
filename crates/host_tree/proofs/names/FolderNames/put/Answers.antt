use Rattle.std.proofs.Common.{ap, ◌∙◌}
use Rattle.host_tree.specs.Children.{children_of}
use Rattle.portal_base.specs.FolderNames.{put_name}
use Rattle.host_tree.proofs.NamesFound.{put-child}
use Rattle.host_tree.proofs.names.FolderNames.put.Goals as goal

pub returns-clause-ok : goal.returns-clause-ok
returns-clause-ok c =
    ap children_of c.in_ok-insert.ensures.entries
    ∙ (put-child c.in_ok-text.text c.args.folder c.self.inside.names.entries
    ∙ (λ i. put_name (record { name = c.in_ok-text.ensures i; folder = c.args.folder }) (c.self.view_is i)))
