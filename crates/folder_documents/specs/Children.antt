-- The path of a name in a folder.
use Rattle.std.specs.Prelude.{ℕ, List, Option, Some, None, cond}
use Rattle.portal_base.specs.Names.{child_of, is_host_path}

-- the joined path, where it is one on the host; so the name isn't ".", ".." or nothing
abbrev pub child_of_folder : List ℕ → List ℕ → Option (List ℕ)
child_of_folder parent name =
    cond (is_host_path (child_of parent name)) (Some (child_of parent name)) None
