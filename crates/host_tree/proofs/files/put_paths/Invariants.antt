use Rattle.std.proofs.Common.{◌≡◌, fold}
use Rattle.std.specs.BTreeMap.{keys}
use Rattle.portal_base.specs.FolderNames.{put_path}
use Rattle.host_tree.proofs.files.put_paths.Given as goal

-- what is left, put among those so far, is what all come to
abbrev pub invariant-loop-path : goal.invariant-loop-path
invariant-loop-path l = fold (put_path l.folder) l.names l.path-iterator ≡ fold (put_path l.folder) l.fn.names (keys l.map)
