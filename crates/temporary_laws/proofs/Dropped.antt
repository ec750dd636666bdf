-- A file that a request lets stand at its path was a temporary of the connection, and is none any more.
use Rattle.std.proofs.Common.{◌≡◌, ℕ, ◌==◌, List, [], ◌∷◌, Bool, true, false, not, ◌||◌, cond, Option, Some, None, refl, sym, ap, subst, ◌∙◌}
use Rattle.std.specs.List.{find}
use Rattle.file_generations.specs.Generations.{Held}
use Rattle.portal_base.specs.Names.{is_same, name_of, named_child}
use Rattle.portal_base.specs.declared.files.FileName.{FileName}
use Rattle.portal_model.specs.declared.entry.Given.{Given}
use Rattle.portal_model.specs.declared.reply.NodeAnswer.{NodeAnswer}
use Rattle.portal_model.specs.declared.request.NodeOp.{NodeOp}
use Rattle.portal_model.specs.declared.request.NodeRequest.{NodeRequest}
use Rattle.portal_model.specs.declared.state.Connection.{Connection}
use Rattle.portal_model.specs.declared.temporary.OwnTemp.{OwnTemp}
use Rattle.portal_model.specs.Bus.{is_tree, moment_given}
use Rattle.portal_model.specs.Errno.{eacces, einval, enametoolong, enoent, eperm, exdev}
use Rattle.portal_model.specs.Node.{NodeFacts, facts_of, node_given, node_walk, walk_on_node}
use Rattle.portal_model.specs.NodeVerdict.{FileChange, FilesStay, Writes, Resizes, Creates, Adds, Stands, NameChange, Temps, NodeDoing, NodeVerdict, Errs, Yields, changes_temps, errs_if, is_dots}
use Rattle.portal_model.specs.Open.{truncates}
use Rattle.portal_model.specs.Place.{Folder, RootOf, Views, FolderOf, Exported, Sight, SightOfFile, SightOfTemp, SightOfFolder, SightBelow}
use Rattle.portal_model.specs.Rename.{AFile, AFolder, Home, RenameCall, are_too_long, home_of, is_own_name, rename, rename_at, rename_call, rename_homes, rename_in, rename_temp, same_home, saved, temp_at, with_seen}
use Rattle.portal_model.specs.SetAttr.{sets_by_handle, sets_size}
use Rattle.portal_model.specs.SeatNames.{Drops, Renames, is_called, without_temp}
use Rattle.portal_model.specs.State.{State, held_in}
use Rattle.portal_model.specs.Walk.{Walk, Answers, Ends, Gives, Turns}
use Rattle.portal_model.proofs.NodeWalks.{IfMet, OnNode, by_place-on, errs_if-on, on-given}
use Rattle.app_world.specs.View.{is_held_name, same_name}
use Rattle.app_world.proofs.HeldFiles.{name-turned}
use Rattle.file_laws.specs.Touches.{Changed, OfName, AtPath, Present, change_of, changed_if, file_of_open, file_of_sight, has_bytes, made_in_folder, made_in_sight, option_named, path_made}
use Rattle.file_laws.proofs.ChangedPaths.{ChangesTo, changed_by, walk-change}
use Rattle.app_world.proofs.Orders.{numbers}
use Rattle.temporary_laws.proofs.Apart.{Differ, EachName, each-name, file_of, names_in, none-is}

-- the temporary of this file is found, and goes
pub record IsDropped (ts : List OwnTemp) (name : FileName) (names : NameChange) : Type 0 where
  pub temp : OwnTemp
  pub test : OwnTemp → Bool
  pub there : find test ts ≡ Some temp
  pub is : name ≡ file_of temp
  pub dropped : names ≡ Temps (Drops temp.k)

abbrev pub DropsIt : List OwnTemp → FileChange → NameChange → Type 0
DropsIt ts FilesStay names = Unit {0}
DropsIt ts (Writes name offset content now) names = Unit {0}
DropsIt ts (Resizes name size now) names = Unit {0}
DropsIt ts (Creates path now) names = Unit {0}
DropsIt ts (Adds name now) names = Unit {0}
DropsIt ts (Stands name) names = IsDropped ts name names

abbrev pub Lets : List OwnTemp → NodeDoing → Type 0
Lets ts d = DropsIt ts d.file d.names

-- ---- a RENAME

module _ (tree : Option Held) (ts : List OwnTemp) (call : RenameCall) where
  abbrev On : Walk NodeVerdict → Type 0
  On = OnNode tree (Lets ts)

  temp-lets : (h : Home) (o : Option OwnTemp) → temp_at ts h call.old_name ≡ o → On (rename_temp h call.new_name o)
  temp-lets h None e = tt
  temp-lets h (Some t) e =
      errs_if-on tree (Lets ts) (not h.may_write) eacces _ (λ a.
      errs_if-on tree (Lets ts) (is_dots call.new_name) eacces _ (λ b.
      elim (is_own_name h call.new_name) as (λ c. On (cond c (Ends (Turns t.temp.file) (λ now. saved t) (Errs enoent)) (Answers (changes_temps (Renames t.k t.temp call.new_name) NodeAnswer.Empty)))) [
        | true ↦ ((λ now found. record { temp = t; test = is_called h.view h.document.id call.old_name; there = e; is = refl; dropped = refl }), tt)
        | false ↦ tt
      ]))

  homes-let : (first second : Option Home) → On (rename_homes call ts first second)
  homes-let None second = tt
  homes-let (Some first) None = tt
  homes-let (Some first) (Some second) =
      errs_if-on tree (Lets ts) (not (same_home first second)) exdev (rename_at call ts first) (λ a.
      errs_if-on tree (Lets ts) (is_own_name first call.old_name) eperm (rename_temp first call.new_name (temp_at ts first call.old_name)) (λ b.
      temp-lets first (temp_at ts first call.old_name) refl))

  file-lets : (new_sight : Option Sight) → On (with_seen new_sight (rename_in call ts AFile))
  file-lets new_sight =
      by_place-on tree (Lets ts) new_sight (λ at g s m. rename_in call ts AFile AFile) (λ second. rename_in call ts AFile (AFolder second)) (λ at g s m. tt) (λ second e. tt)

  folder-lets : (first : Folder) (new_sight : Option Sight) → On (with_seen new_sight (rename_in call ts (AFolder first)))
  folder-lets first new_sight =
      by_place-on tree (Lets ts) new_sight (λ at g s m. rename_in call ts (AFolder first) AFile) (λ second. rename_in call ts (AFolder first) (AFolder second)) (λ at g s m. tt)
      (λ second e. homes-let (home_of first) (home_of second))

  rename-lets : (sight new_sight : Option Sight) → On (rename call ts sight new_sight)
  rename-lets sight new_sight =
      let place = with_seen sight (λ first. with_seen new_sight (rename_in call ts first)) in
      errs_if-on tree (Lets ts) (not (call.flags == 0)) einval (errs_if (are_too_long call) enametoolong place) (λ a.
      errs_if-on tree (Lets ts) (are_too_long call) enametoolong place (λ b.
      by_place-on tree (Lets ts) sight (λ at g s m. with_seen new_sight (rename_in call ts AFile)) (λ first. with_seen new_sight (rename_in call ts (AFolder first)))
      (λ at g s m. file-lets new_sight) (λ first e. folder-lets first new_sight)))

-- ---- any other request lets no file stand

abbrev NotPresent : Option Changed → Type 0
NotPresent None = Unit {0}
NotPresent (Some (OfName name)) = Unit {0}
NotPresent (Some (AtPath path)) = Unit {0}
NotPresent (Some (Present name)) = ⊥

if-not : (b : Bool) (change : Option Changed) → NotPresent change → NotPresent (changed_if b change)
if-not true change h = h
if-not false change h = tt

named-not : (o : Option FileName) → NotPresent (option_named o)
named-not None = tt
named-not (Some name) = tt

path-not : (o : Option (List ℕ)) → NotPresent (path_made o)
path-not None = tt
path-not (Some path) = tt

made-not : (name : List ℕ) (folder : Folder) → NotPresent (made_in_folder name folder)
made-not name (RootOf view seen has_views) = tt
made-not name (Views applications) = tt
made-not name (FolderOf view d may_write) = elim (is_same name (name_of d.path)) as (λ b. NotPresent (cond b (Some (AtPath d.path)) None)) [ true ↦ tt | false ↦ tt ]
made-not name (Exported view d path may_write) = path-not (named_child path name)

sight-not : (name : List ℕ) (o : Option Sight) → NotPresent (made_in_sight name o)
sight-not name None = tt
sight-not name (Some (SightOfFile d may_write)) = tt
sight-not name (Some (SightOfTemp d file may_write)) = tt
sight-not name (Some (SightBelow view d path may_write)) = path-not (named_child path name)
sight-not name (Some (SightOfFolder folder)) = made-not name folder

not-lets : (ts : List OwnTemp) (d : NodeDoing) (change : Option Changed) → NotPresent change → changed_by d.file ≡ change → Lets ts d
not-lets ts d change h e = step d.file e
  where
    step : (f : FileChange) → changed_by f ≡ change → DropsIt ts f d.names
    step FilesStay k = tt
    step (Writes name offset content now) k = tt
    step (Resizes name size now) k = tt
    step (Creates path now) k = tt
    step (Adds name now) k = tt
    step (Stands name) k = absurd (subst NotPresent (sym k) h)

not-met : (tree : Option Held) (ts : List OwnTemp) (change : Option Changed) → NotPresent change → (o : Option NodeVerdict) → IfMet tree (ChangesTo change) o → IfMet tree (Lets ts) o
not-met tree ts change h None m = tt
not-met tree ts change h (Some (Errs errno)) m = tt
not-met tree ts change h (Some (Yields d)) m = not-lets ts d change h m

module _ (held : Held) (f : NodeFacts) (r : NodeRequest) (given : Given) where
  abbrev verdict : NodeOp → Option NodeVerdict
  verdict op = node_given (node_walk f r op) given

  changes : (op : NodeOp) → Gives (Some held) (node_walk f r op) given.looks (is_tree given.fault) → IfMet (Some held) (ChangesTo (change_of held.present f op)) (verdict op)
  changes op g =
      on-given (Some held) (ChangesTo (change_of held.present f op)) (node_walk f r op) (moment_given given.now) given.listed given.looks (is_tree given.fault) g (walk-change held f r op)

  -- the file that a SETATTR names
  abbrev file_set : ℕ → ℕ → Option FileName
  file_set valid fh = cond (sets_by_handle valid) (file_of_open (f.handle fh)) (file_of_sight held.present f.sight)

  lets : (op : NodeOp) → Gives (Some held) (node_walk f r op) given.looks (is_tree given.fault) → IfMet (Some held) (Lets f.temps.temps) (verdict op)
  lets (NodeOp.Rename new_parent flags old_name new_name) g =
      on-given (Some held) (Lets f.temps.temps) (rename (rename_call flags old_name new_name) f.temps.temps f.sight (f.sight_of new_parent)) (moment_given given.now) given.listed given.looks (is_tree given.fault) g
      (rename-lets (Some held) f.temps.temps (rename_call flags old_name new_name) f.sight (f.sight_of new_parent))
  lets (NodeOp.Write fh offset content) g =
      not-met (Some held) f.temps.temps (change_of held.present f (NodeOp.Write fh offset content)) (if-not (has_bytes content) (option_named (file_of_open (f.handle fh))) (named-not (file_of_open (f.handle fh)))) (verdict (NodeOp.Write fh offset content)) (changes (NodeOp.Write fh offset content) g)
  lets (NodeOp.SetAttr valid fh size) g =
      not-met (Some held) f.temps.temps (change_of held.present f (NodeOp.SetAttr valid fh size)) (if-not (sets_size valid) (option_named (file_set valid fh)) (named-not (file_set valid fh))) (verdict (NodeOp.SetAttr valid fh size)) (changes (NodeOp.SetAttr valid fh size) g)
  lets (NodeOp.Open flags) g =
      not-met (Some held) f.temps.temps (change_of held.present f (NodeOp.Open flags)) (if-not (truncates flags) (option_named (file_of_sight held.present f.sight)) (named-not (file_of_sight held.present f.sight))) (verdict (NodeOp.Open flags)) (changes (NodeOp.Open flags) g)
  lets (NodeOp.Create name flags) g =
      not-met (Some held) f.temps.temps (change_of held.present f (NodeOp.Create name flags)) (sight-not name f.sight) (verdict (NodeOp.Create name flags)) (changes (NodeOp.Create name flags) g)
  lets (NodeOp.Lookup name) g = not-met (Some held) f.temps.temps None tt (verdict (NodeOp.Lookup name)) (changes (NodeOp.Lookup name) g)
  lets (NodeOp.Forget count) g = not-met (Some held) f.temps.temps None tt (verdict (NodeOp.Forget count)) (changes (NodeOp.Forget count) g)
  lets (NodeOp.BatchForget nodes) g = not-met (Some held) f.temps.temps None tt (verdict (NodeOp.BatchForget nodes)) (changes (NodeOp.BatchForget nodes) g)
  lets (NodeOp.GetAttr flags fh) g = not-met (Some held) f.temps.temps None tt (verdict (NodeOp.GetAttr flags fh)) (changes (NodeOp.GetAttr flags fh) g)
  lets (NodeOp.Read fh offset size) g = not-met (Some held) f.temps.temps None tt (verdict (NodeOp.Read fh offset size)) (changes (NodeOp.Read fh offset size) g)
  lets (NodeOp.Flush fh) g = not-met (Some held) f.temps.temps None tt (verdict (NodeOp.Flush fh)) (changes (NodeOp.Flush fh) g)
  lets (NodeOp.Fsync fh) g = not-met (Some held) f.temps.temps None tt (verdict (NodeOp.Fsync fh)) (changes (NodeOp.Fsync fh) g)
  lets (NodeOp.Release fh) g = not-met (Some held) f.temps.temps None tt (verdict (NodeOp.Release fh)) (changes (NodeOp.Release fh) g)
  lets NodeOp.OpenDir g = not-met (Some held) f.temps.temps None tt (verdict NodeOp.OpenDir) (changes NodeOp.OpenDir g)
  lets (NodeOp.ReadDir fh offset size) g = not-met (Some held) f.temps.temps None tt (verdict (NodeOp.ReadDir fh offset size)) (changes (NodeOp.ReadDir fh offset size) g)
  lets (NodeOp.ReleaseDir fh) g = not-met (Some held) f.temps.temps None tt (verdict (NodeOp.ReleaseDir fh)) (changes (NodeOp.ReleaseDir fh) g)
  lets (NodeOp.Access mask) g = not-met (Some held) f.temps.temps None tt (verdict (NodeOp.Access mask)) (changes (NodeOp.Access mask) g)
  lets (NodeOp.Unlink name) g = not-met (Some held) f.temps.temps None tt (verdict (NodeOp.Unlink name)) (changes (NodeOp.Unlink name) g)

pub node-lets : (s : State) (c : Connection) (r : NodeRequest) (given : Given) → Gives (Some (held_in s)) (walk_on_node s c r) given.looks (is_tree given.fault) → IfMet (Some (held_in s)) (Lets c.temps) (node_given (walk_on_node s c r) given)
node-lets s c r given g = lets (held_in s) (facts_of s c r.node) r given r.op g

-- ---- what is left of the temporaries then

-- one that is found has the name of none of the others
found-other : (test : OwnTemp → Bool) (ts : List OwnTemp) (t : OwnTemp) (n : FileName) → find test ts ≡ Some t → is_held_name (names_in ts) n ≡ false → same_name (file_of t) n ≡ false
found-other test [] t n e h = cc
found-other test (x ∷ xs) t n e h = step (test x) e (found-other test xs t n)
  where
    first : (a b : Bool) → (a || b) ≡ false → a ≡ false
    first true b k = cc
    first false b k = refl

    rest : (a b : Bool) → (a || b) ≡ false → b ≡ false
    rest true b k = cc
    rest false b k = k

    step : (b : Bool) → cond b (Some x) (find test xs) ≡ Some t → (find test xs ≡ Some t → is_held_name (names_in xs) n ≡ false → same_name (file_of t) n ≡ false) → same_name (file_of t) n ≡ false
    step true k more = let same : x ≡ t = cc in ap (λ (y : OwnTemp). same_name (file_of y) n) (sym same) ∙ first (same_name (file_of x) n) (is_held_name (names_in xs) n) h
    step false k more = more k (rest (same_name (file_of x) n) (is_held_name (names_in xs) n) h)

without-each : (P : FileName → Type 0) (k : ℕ) (ts : List OwnTemp) → EachName P (names_in ts) → EachName P (names_in (without_temp ts k))
without-each P k [] h = tt
without-each P k (t ∷ ts) h = step (not (t.k == k)) (without-each P k ts h.1)
  where
    step : (b : Bool) → EachName P (names_in (without_temp ts k)) → EachName P (names_in (cond b (t ∷ without_temp ts k) (without_temp ts k)))
    step true x = (h.0, x)
    step false x = x

seat-itself : (n : ℕ) → (n == n) ≡ true
seat-itself n = numbers.itself n

pub others-left : (test : OwnTemp → Bool) (ts : List OwnTemp) (t : OwnTemp) → find test ts ≡ Some t → Differ (names_in ts) → EachName (λ n. same_name (file_of t) n ≡ false) (names_in (without_temp ts t.k))
others-left test [] t e d = tt
others-left test (x ∷ xs) t e d = step (test x) e (others-left test xs t)
  where
    behind : EachName (λ n. same_name (file_of x) n ≡ false) (names_in xs)
    behind = each-name (λ n. same_name n (file_of x) ≡ false) (λ n. same_name (file_of x) n ≡ false) (λ n h. name-turned (file_of x) n ∙ h) (names_in xs) (none-is (file_of x) (names_in xs) d.0)

    gone : x ≡ t → (b : Bool) → (x.k == t.k) ≡ b → EachName (λ n. same_name (file_of t) n ≡ false) (names_in (cond (not b) (x ∷ without_temp xs t.k) (without_temp xs t.k)))
    gone same true f = without-each (λ n. same_name (file_of t) n ≡ false) t.k xs (subst (λ (y : OwnTemp). EachName (λ n. same_name (file_of y) n ≡ false) (names_in xs)) same behind)
    gone same false f = let no : true ≡ false = sym (seat-itself t.k) ∙ (ap (λ (y : OwnTemp). y.k == t.k) (sym same) ∙ f) in cc

    stays : find test xs ≡ Some t → EachName (λ n. same_name (file_of t) n ≡ false) (names_in (without_temp xs t.k)) → (b : Bool) → EachName (λ n. same_name (file_of t) n ≡ false) (names_in (cond b (x ∷ without_temp xs t.k) (without_temp xs t.k)))
    stays k more true = (found-other test xs t (file_of x) k d.0, more)
    stays k more false = more

    step : (b : Bool) → cond b (Some x) (find test xs) ≡ Some t → (find test xs ≡ Some t → Differ (names_in xs) → EachName (λ n. same_name (file_of t) n ≡ false) (names_in (without_temp xs t.k))) →
        EachName (λ n. same_name (file_of t) n ≡ false) (names_in (without_temp (x ∷ xs) t.k))
    step true k more = let same : x ≡ t = cc in gone same (x.k == t.k) refl
    step false k more = stays k (more k d.1) (not (x.k == t.k))
