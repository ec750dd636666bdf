use Rattle.std.proofs.Common.{◌≡◌, ap, sym, ◌∙◌}
use Rattle.portal_base.specs.FolderNames.{first_part, put_name}
use Rattle.portal_base.specs.declared.files.ChildName.{ChildName}
use Rattle.host_tree.proofs.NamesFound.{ok-then}
use Rattle.host_tree.proofs.names.FolderNames.put_first_part.Goals as goal

pub returns-clause-ok : goal.returns-clause-ok
returns-clause-ok c =
    let part = c.first_part_of-part.result in
    ok-then c.put.result (c.put.new.self ≡ put_name (record { name = part.0.now; folder = part.1 }) c.args.self.now) (c.put.new.self ≡ put_name (first_part c.args.rest.now) c.args.self.now)
    (λ e. e ∙ ap (λ (x : ChildName). put_name x c.args.self.now) (sym c.first_part_of-part.ensures)) c.put.ensures.ok
