-- The files of a script are the first of their paths, and no file is beside them.
use Rattle.std.proofs.Common.{◌≡◌, ℕ, ◌==◌, Bool, true, false, ◌&&◌, List, [], ◌∷◌, cond, refl, ap, ◌∙◌}
use Rattle.std.specs.Ordering.{is_lt}
use Rattle.std.specs.List.{list_all}
use Rattle.std.proofs.lemmas.Bool.{and_parts}
use Rattle.host_tree.specs.Devices.{TreeState}
use Rattle.host_tree.specs.Trees.{put_file}
use Rattle.portal_base.specs.PathOrder.{path_order}
use Rattle.portal_base.specs.declared.files.File.{File}
use Rattle.portal_model.specs.Opening.{file_of, is_first_item}
use Rattle.portal_model.specs.declared.opening.FileItem.{FileItem}
use Rattle.script_form.specs.Devices.{script_tree, tree_files, with_files}
use Rattle.script_form.specs.Opening.{files_of}
use Rattle.script_lines.specs.declared.script.ScriptLine.{ScriptLine}
use Rattle.script_form.proofs.SoundFacts.{files_first}

abbrev is_first : File → Bool
is_first f = f.generation == 0

put_first : (f : File) (fs : List File) → is_first f ≡ true → list_all is_first fs ≡ true → list_all is_first (put_file f fs) ≡ true
put_first f [] first all = λ i. first i && true
put_first f (g ∷ gs) first all =
    let parts = and_parts (is_first g) (list_all is_first gs) all in
    step (is_lt (path_order f.path g.path)) parts.0 (put_first f gs first parts.1)
  where
    step : (b : Bool) → is_first g ≡ true → list_all is_first (put_file f gs) ≡ true → list_all is_first (cond b (f ∷ g ∷ gs) (g ∷ put_file f gs)) ≡ true
    step true here rest = λ i. first i && all i
    step false here rest = λ i. here i && rest i

with_first : (items : List FileItem) (fs : List File) → list_all is_first_item items ≡ true → list_all is_first fs ≡ true → list_all is_first (with_files fs items) ≡ true
with_first [] fs items all = all
with_first (item ∷ more) fs items all =
    let here = and_parts (is_first_item item) (list_all is_first_item more) items in
    let first = and_parts (item.generation == 0) item.present here.0 in
    with_first more (put_file (file_of item) fs) here.1 (put_first (file_of item) fs first.0 all)

pub files_are_first : (lines : List ScriptLine) → list_all is_first (tree_files lines) ≡ true
files_are_first lines = with_first (files_of lines) [] (files_first lines 0) refl

-- the same of a tree that is a script's
module _ (lines : List ScriptLine) (tree : TreeState) (is : tree ≡ script_tree lines) where
  pub none_beside : tree.began.hidden ≡ []
  none_beside = ap (λ (t : TreeState). t.began.hidden) is

  pub first_alone : list_all (λ f. f.generation == 0) tree.began.present ≡ true
  first_alone = ap (λ (t : TreeState). list_all is_first t.began.present) is ∙ files_are_first lines
