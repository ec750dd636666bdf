-- What the trees in memory are.
use Rattle.std.specs.Prelude.{ℕ, List, [], ◌∷◌, ◌++◌, Bool, Some}
use Rattle.portal_base.specs.Calls.{Counted, counted, uncalled}
use Rattle.portal_base.specs.declared.files.File.{File}
use Rattle.host_tree.specs.Trees.{Held, Noted, TreeIs, held_with, note, put_present, unnoted}
use Rattle.host_tree.specs.declared.tree.TreeCall.{TreeCall}

-- the calls of a tree, and the kinds of the first of them
pub record CallsMade : Type 0 where
  pub count : Counted
  pub noted : Noted

-- none so far
abbrev pub none_made : List ℕ → CallsMade
none_made failing = record { count = uncalled failing; noted = unnoted }

-- one call more, of this kind
abbrev pub made : TreeCall → CallsMade → Bool → CallsMade
made kind calls failed =
    record { count = counted calls.count failed; noted = note kind calls.noted }

-- the files that the tree began with and those that it has, and its calls
pub record TreeState : Type 0 where
  pub began : Held
  pub files : Held
  pub count : Counted
  pub noted : Noted

abbrev pub tree_of : TreeState → TreeIs
tree_of s = record {
  began = Some s.began;
  told = Some s.files;
  faults = s.count.faults;
  calls = Some s.count.calls;
  noted = s.noted;
}

-- the same of a tree that never fails, whose calls are numbered all the same
pub record QuietState : Type 0 where
  pub began : Held
  pub files : Held
  pub made : ℕ

abbrev pub quiet_tree_of : QuietState → TreeIs
quiet_tree_of s = record {
  began = Some s.began;
  told = Some s.files;
  faults = 0;
  calls = Some (record { made = s.made; failing = [] });
  noted = unnoted;
}

-- no files
abbrev pub no_files : Held
no_files = held_with [] []

-- one more file that is present, of those that it began with too
abbrev pub with_file : File → TreeState → TreeState
with_file f s = record s { began = put_present f s.began; files = put_present f s.files }

-- one more file that is present, of those that it has alone
abbrev pub quiet_with_present : File → QuietState → QuietState
quiet_with_present f s = record s { files = put_present f s.files }

-- one more beside the present ones, behind the others
abbrev pub put_hidden : File → Held → Held
put_hidden f held = held_with held.present (held.hidden ++ f ∷ [])

abbrev pub quiet_with_hidden : File → QuietState → QuietState
quiet_with_hidden f s = record s { files = put_hidden f s.files }
