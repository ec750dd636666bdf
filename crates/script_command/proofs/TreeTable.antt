-- Files in a table by path, and in a tree; the state that a script opens with, as plain data.
use Rattle.std.proofs.Common.{◌≡◌, ℕ, List, [], ◌∷◌, Bool, true, false, ◌&&◌, cond, Some, None, Result, Ok, Err, IfOk, map, refl, sym, ap, ◌∙◌, subst}
use Rattle.std.specs.BTreeMap.{insert_entry, is_at}
use Rattle.std.specs.List.{list_all}
use Rattle.std.specs.Map.{lookup}
use Rattle.std.specs.Ordering.{is_eq, is_lt, match_ordering}
use Rattle.std.specs.declared.cmp.Ordering.{Ordering}
use Rattle.std.specs.declared.cmp.Ordering.TheVariants.{Less, Equal, Greater}
use Rattle.std.proofs.lemmas.Bool.{and_parts}
use Rattle.host_tree.proofs.Entries.{put-is-new, same-key}
use Rattle.host_tree.specs.Trees.{put_file}
use Rattle.portal_base.specs.declared.limits.Limits.{Limits}
use Rattle.portal_base.specs.Content.{ArePlaced, file_at, paths_of}
use Rattle.portal_base.specs.declared.files.File.{File}
use Rattle.portal_base.specs.Names.{is_same}
use Rattle.portal_base.specs.PathOrder.{path_order}
use Rattle.portal_model.specs.declared.opening.FileItem.{FileItem}
use Rattle.portal_model.specs.declared.opening.OpeningState.{OpeningState}
use Rattle.portal_model.specs.Opening.{file_of, is_first_item}
use Rattle.script_lines.specs.declared.script.ScriptLine.{ScriptLine}
use Rattle.script_form.specs.Devices.{tree_files}
use Rattle.script_form.specs.Opening.{IsOpening, opening_with}
use Rattle.script_command.specs.Openings.{AreAtTheirs, AreFirst, StandsFor, files_in}
use Rattle.script_replay.specs.Scenes.{run_limits}

abbrev Table : Type 0
Table = List (List ℕ × FileItem)

first_at : (e : List ℕ × FileItem) (es : Table) → AreAtTheirs (e ∷ es) → e.0 ≡ e.1.path
first_at e es h = cc

others_at : (e : List ℕ × FileItem) (es : Table) → AreAtTheirs (e ∷ es) → AreAtTheirs es
others_at e es h = cc

-- ---- a path at which no file is

-- where a tree has no file of a path, the table has none
absent : (k : List ℕ) (es : Table) → AreAtTheirs es → file_at (files_in es) k ≡ None → lookup (is_at (path_order k)) es ≡ None
absent k [] h n = refl
absent k (e ∷ es) h n =
    step (is_same e.1.path k) (is_at (path_order k) e.0) n (ap (λ (p : List ℕ). is_same p k) (sym (first_at e es h)) ∙ same-key k e.0) (absent k es (others_at e es h))
  where
    step : (b c : Bool) → cond b (Some (file_of e.1)) (file_at (files_in es) k) ≡ None → b ≡ c
        → (file_at (files_in es) k ≡ None → lookup (is_at (path_order k)) es ≡ None) → cond c (Some e.1) (lookup (is_at (path_order k)) es) ≡ None
    step false false m s more = more m
    step true c m s more = absurd (cc)
    step false true m s more = absurd (cc)

-- ---- one more

module _ (f : FileItem) where
  put_in : (es : Table) → AreAtTheirs es → lookup (is_at (path_order f.path)) es ≡ None → files_in (insert_entry path_order es f.path f) ≡ put_file (file_of f) (files_in es)
  put_in [] h n = refl
  put_in (e ∷ es) h n =
      step (path_order f.path e.0) n (put_in es (others_at e es h))
      ∙ ap (λ (p : List ℕ). cond (is_lt (path_order f.path p)) (file_of f ∷ files_in (e ∷ es)) (file_of e.1 ∷ put_file (file_of f) (files_in es))) (first_at e es h)
    where
      step : (o : Ordering) → cond (is_eq o) (Some e.1) (lookup (is_at (path_order f.path)) es) ≡ None
          → (lookup (is_at (path_order f.path)) es ≡ None → files_in (insert_entry path_order es f.path f) ≡ put_file (file_of f) (files_in es))
          → files_in (match_ordering o ((f.path, f) ∷ e ∷ es) ((e.0, f) ∷ es) (e ∷ insert_entry path_order es f.path f))
          ≡ cond (is_lt o) (file_of f ∷ files_in (e ∷ es)) (file_of e.1 ∷ put_file (file_of f) (files_in es))
      step Less m more = refl
      step Equal m more = absurd (cc)
      step Greater m more = ap (λ (fs : List File). file_of e.1 ∷ fs) (more m)

  keyed_in : (es : Table) → AreAtTheirs es → lookup (is_at (path_order f.path)) es ≡ None → AreAtTheirs (insert_entry path_order es f.path f)
  keyed_in [] h n = refl
  keyed_in (e ∷ es) h n = step (path_order f.path e.0) n (keyed_in es (others_at e es h))
    where
      step : (o : Ordering) → cond (is_eq o) (Some e.1) (lookup (is_at (path_order f.path)) es) ≡ None
          → (lookup (is_at (path_order f.path)) es ≡ None → AreAtTheirs (insert_entry path_order es f.path f))
          → AreAtTheirs (match_ordering o ((f.path, f) ∷ e ∷ es) ((e.0, f) ∷ es) (e ∷ insert_entry path_order es f.path f))
      step Less m more = ap (λ (ps : List (List ℕ)). f.path ∷ ps) h
      step Equal m more = absurd (cc)
      step Greater m more =
          ap (λ (p : List ℕ). p ∷ map (λ (x : List ℕ × FileItem). x.0) (insert_entry path_order es f.path f)) (first_at e es h)
          ∙ ap (λ (ps : List (List ℕ)). e.1.path ∷ ps) (more m)

  first_in : is_first_item f ≡ true → (es : Table) → AreFirst es → AreFirst (insert_entry path_order es f.path f)
  first_in is [] h = λ i. is i && true
  first_in is (e ∷ es) h =
      let parts = and_parts (is_first_item e.1) (list_all is_first_item (map (λ (x : List ℕ × FileItem). x.1) es)) h in
      step (path_order f.path e.0) parts.0 parts.1 (first_in is es parts.1)
    where
      step : (o : Ordering) → is_first_item e.1 ≡ true → AreFirst es → AreFirst (insert_entry path_order es f.path f)
          → AreFirst (match_ordering o ((f.path, f) ∷ e ∷ es) ((e.0, f) ∷ es) (e ∷ insert_entry path_order es f.path f))
      step Less here rest more = λ i. is i && h i
      step Equal here rest more = λ i. is i && rest i
      step Greater here rest more = λ i. here i && more i

-- a file that is added where the paths then are those of a tree
module _ (item g : FileItem) (k : List ℕ) (old new : Table) (same : g ≡ item) (at : k ≡ item.path) (keyed : AreAtTheirs old) (placed : ArePlaced (paths_of (put_file (file_of item) (files_in old)))) (is : new ≡ insert_entry path_order old k g) where
  new_there : lookup (is_at (path_order item.path)) old ≡ None
  new_there = absent item.path old keyed (put-is-new (file_of item) (files_in old) placed.in_order)

  is_put : new ≡ insert_entry path_order old item.path item
  is_put = is ∙ (ap (λ (p : List ℕ). insert_entry path_order old p g) at ∙ ap (λ (x : FileItem). insert_entry path_order old item.path x) same)

  pub file_added : files_in new ≡ put_file (file_of item) (files_in old)
  file_added = ap files_in is_put ∙ put_in item old keyed new_there

  pub keyed_added : AreAtTheirs new
  keyed_added = subst AreAtTheirs (sym is_put) (keyed_in item old keyed new_there)

  pub first_added : is_first_item item ≡ true → AreFirst old → AreFirst new
  first_added one firsts = subst AreFirst (sym is_put) (first_in item one old firsts)

-- ---- the files of a table

files_are : (table : Table) → map file_of (map (λ (e : List ℕ × FileItem). e.1) table) ≡ files_in table
files_are [] = refl
files_are (e ∷ es) = ap (λ (fs : List File). file_of e.1 ∷ fs) (files_are es)

-- the files that are taken out of a table are those in it
pub in_order : {E : Type 0} (r : Result (List FileItem) E) (table : Table) (files : List File) → files_in table ≡ files → IfOk r (λ (items : List FileItem). items ≡ map (λ (e : List ℕ × FileItem). e.1) table) → IfOk r (λ (items : List FileItem). map file_of items ≡ files)
in_order (Ok items) table files t e = ap (map file_of) e ∙ (files_are table ∙ t)
in_order (Err x) table files t e = tt

pub first_taken : {E : Type 0} (r : Result (List FileItem) E) (table : Table) → AreFirst table → IfOk r (λ (items : List FileItem). items ≡ map (λ (e : List ℕ × FileItem). e.1) table) → IfOk r (λ (items : List FileItem). list_all is_first_item items ≡ true)
first_taken (Ok items) table firsts e = ap (list_all is_first_item) e ∙ firsts
first_taken (Err x) table firsts e = tt

-- ---- the state that a script opens with

-- the state that the script reads as, with the files of its tree in place of its own
pub stands_for : (lines : List ScriptLine) (limits : Limits) (opening o : OpeningState) (files : List FileItem) → limits ≡ run_limits → IsOpening limits lines opening → map file_of files ≡ tree_files lines → list_all is_first_item files ≡ true → o ≡ record opening { files = files }
    → StandsFor lines o
stands_for lines limits opening o files l is tree first e =
    let whole : opening ≡ opening_with opening.entries run_limits lines = is.whole ∙ ap (λ (x : Limits). opening_with opening.entries x lines) l in
    subst (StandsFor lines) (sym e) (record {
      whole = ap (λ (x : OpeningState). record x { files = files }) whole;
      entries = is.entries;
      files = tree;
      first = first;
    })
