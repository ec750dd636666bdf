use Rattle.std.proofs.Common.{◌≡◌, ◌∙◌}
use Rattle.portal_base.specs.FolderNames.{first_part, put_name, put_path}
use Rattle.host_tree.proofs.NamesFound.{ok-then, put-below, put-beside}
use Rattle.host_tree.proofs.files.put_path.Goals as goal

pub returns-in-Some : goal.returns-in-Some
returns-in-Some c =
    let folder = c.args.folder.now in
    let path = c.args.path.now in
    let names = c.args.names.now in
    ok-then c.put_first_part.result (c.put_first_part.new.self ≡ put_name (first_part c.in-Some.rest.now) names) (c.put_first_part.new.self ≡ put_path folder names path)
    (λ e. e ∙ put-below folder path c.in-Some.rest.now names c.in-Some.ensures.0 c.in-Some.ensures.1) c.put_first_part.ensures.ok

pub returns-in-None : goal.returns-in-None
returns-in-None c = put-beside c.args.folder.now c.args.path.now c.args.names.now c.in-None.ensures
