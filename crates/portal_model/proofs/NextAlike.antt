-- The walk of a request depends on the next generation of a path only where it reaches a call that makes a file of it: there
-- a request that is told that generation, whatever the path, is the same.
use Rattle.std.proofs.Common.{◌≡◌, ℕ, List, Bool, true, false, not, ◌||◌, cond, Option, Some, None, is_some, refl}
use Rattle.portal_base.specs.Names.{is_same, name_of}
use Rattle.portal_base.specs.declared.files.Look.{Look}
use Rattle.portal_model.specs.declared.naming.Naming.{Naming}
use Rattle.portal_model.specs.declared.request.NodeOp.{NodeOp}
use Rattle.portal_model.specs.declared.request.NodeRequest.{NodeRequest}
use Rattle.portal_model.specs.declared.state.Document.{Document}
use Rattle.portal_model.specs.Create.{add_temp, create, create_in, create_other, create_own, create_temp, next_file, next_temp_node, temp_made}
use Rattle.portal_model.specs.Errno.{eacces, eexist, einval, emfile, enametoolong, enotdir}
use Rattle.portal_model.specs.Node.{NodeFacts, node_walk}
use Rattle.portal_model.specs.NodeVerdict.{NodeVerdict, Room, by_look, by_place, errs_if, is_too_long, no_file, spot, is_dots}
use Rattle.portal_model.specs.Open.{has_no_mode}
use Rattle.portal_model.specs.Place.{Folder, RootOf, Views, FolderOf, Exported, Sight, SightOfFile, SightOfTemp, SightBelow, SightOfFolder}
use Rattle.portal_model.specs.SeatNames.{SeatTemps, found_temp, lacks_temp}
use Rattle.portal_model.specs.Walk.{Walk, AtPath, Looks, generation_reached}

abbrev pub with_next : (List ℕ → ℕ) → SeatTemps → SeatTemps
with_next next temps = record temps { next = next }

abbrev pub facts_with_next : (List ℕ → ℕ) → NodeFacts → NodeFacts
facts_with_next next f = record f { temps = with_next next f.temps }

-- this is the generation of a file that the walk makes, where it does
abbrev pub IsReached : (List ℕ → ℕ) → List Look → Walk NodeVerdict → Type 0
IsReached next looks w = (g : ℕ) → generation_reached w looks ≡ Some g → (path : List ℕ) → next path ≡ g

module _ (next : List ℕ → ℕ) (looks : List Look) where
  same_if : (b : Bool) (errno : ℕ) (w u : Walk NodeVerdict) → (IsReached next looks u → w ≡ u) → IsReached next looks (errs_if b errno u) → errs_if b errno w ≡ errs_if b errno u
  same_if true errno w u h a = refl
  same_if false errno w u h a = h a

  module _ (r : NodeRequest) (name : List ℕ) (flags : ℕ) (room : Room) (namings : List Naming) (temps : SeatTemps) where
    add_same : (view : ℕ) (d : Document) → IsReached next looks (add_temp r flags room (next_temp_node temps view) d (temp_made view d name (next_file temps d))) →
        add_temp r flags room (next_temp_node temps view) d (temp_made view d name (next_file (with_next next temps) d)) ≡ add_temp r flags room (next_temp_node temps view) d (temp_made view d name (next_file temps d))
    add_same view d a =
        let same : next d.path ≡ temps.next d.path = a (temps.next d.path) refl d.path in
        λ i. add_temp r flags room (next_temp_node temps view) d (temp_made view d name (record { path = d.path; generation = same i }))

    temp_same : (view : ℕ) (d : Document) (may_write : Bool) → IsReached next looks (create_temp r name flags room temps view d may_write) → create_temp r name flags room (with_next next temps) view d may_write ≡ create_temp r name flags room temps view d may_write
    temp_same view d may_write a =
        let made : SeatTemps → Walk NodeVerdict = λ t. add_temp r flags room (next_temp_node temps view) d (temp_made view d name (next_file t d)) in
        let placed : SeatTemps → Walk NodeVerdict = λ t. errs_if (room.full || lacks_temp temps) emfile (made t) in
        let new : SeatTemps → Walk NodeVerdict = λ t. errs_if (is_some (found_temp temps.temps view d.id name)) eexist (placed t) in
        let written : SeatTemps → Walk NodeVerdict = λ t. errs_if (not may_write) eacces (new t) in
        same_if (is_dots name) eacces (written (with_next next temps)) (written temps)
        (same_if (not may_write) eacces (new (with_next next temps)) (new temps)
        (same_if (is_some (found_temp temps.temps view d.id name)) eexist (placed (with_next next temps)) (placed temps)
        (same_if (room.full || lacks_temp temps) emfile (made (with_next next temps)) (made temps) (add_same view d)))) a

    in_same : (folder : Folder) → IsReached next looks (create_in r name flags room namings temps folder) → create_in r name flags room namings (with_next next temps) folder ≡ create_in r name flags room namings temps folder
    in_same (RootOf view numbers has_views) a = refl
    in_same (Views applications) a = refl
    in_same (FolderOf view d may_write) a = by_name (is_same name (name_of d.path)) a
      where
        by_name : (b : Bool) → IsReached next looks (cond b (create_own r flags room view d may_write) (create_other r name flags room temps view d may_write)) →
            cond b (create_own r flags room view d may_write) (create_other r name flags room (with_next next temps) view d may_write) ≡ cond b (create_own r flags room view d may_write) (create_other r name flags room temps view d may_write)
        by_name true k = refl
        by_name false k = same_if d.folder eacces (create_temp r name flags room (with_next next temps) view d may_write) (create_temp r name flags room temps view d may_write) (temp_same view d may_write) k
    in_same (Exported view d path may_write) a = refl

    below_same : (view : ℕ) (d : Document) (path : List ℕ) (may_write : Bool) (look : Look) →
        by_look view (spot d path may_write) (no_file enotdir) (create_in r name flags room namings (with_next next temps)) look ≡ by_look view (spot d path may_write) (no_file enotdir) (create_in r name flags room namings temps) look
    below_same view d path may_write (Look.File g s m) = refl
    below_same view d path may_write Look.Folder = refl
    below_same view d path may_write Look.Missing = refl

    place_same : (sight : Option Sight) → IsReached next looks (by_place sight (no_file enotdir) (create_in r name flags room namings temps)) →
        by_place sight (no_file enotdir) (create_in r name flags room namings (with_next next temps)) ≡ by_place sight (no_file enotdir) (create_in r name flags room namings temps)
    place_same None a = refl
    place_same (Some (SightOfFile d may_write)) a = refl
    place_same (Some (SightOfTemp d file may_write)) a = refl
    place_same (Some (SightBelow view d path may_write)) a = λ i. Looks (AtPath path) (λ look. below_same view d path may_write look i)
    place_same (Some (SightOfFolder folder)) a = in_same folder a

    create_same : (sight : Option Sight) → IsReached next looks (create r name flags sight room namings temps) → create r name flags sight room namings (with_next next temps) ≡ create r name flags sight room namings temps
    create_same sight a =
        let place : SeatTemps → Walk NodeVerdict = λ t. by_place sight (no_file enotdir) (create_in r name flags room namings t) in
        let short : SeatTemps → Walk NodeVerdict = λ t. errs_if (is_too_long name) enametoolong (place t) in
        same_if (has_no_mode flags) einval (short (with_next next temps)) (short temps)
        (same_if (is_too_long name) enametoolong (place (with_next next temps)) (place temps) (place_same sight)) a

  -- the walk of each request
  pub next-alike : (f : NodeFacts) (r : NodeRequest) (op : NodeOp) → IsReached next looks (node_walk f r op) → node_walk (facts_with_next next f) r op ≡ node_walk f r op
  next-alike f r (NodeOp.Create name flags) a = create_same r name flags f.room f.namings f.temps f.sight a
  next-alike f r (NodeOp.Lookup name) a = refl
  next-alike f r (NodeOp.Forget count) a = refl
  next-alike f r (NodeOp.BatchForget nodes) a = refl
  next-alike f r (NodeOp.GetAttr flags fh) a = refl
  next-alike f r (NodeOp.SetAttr valid fh size) a = refl
  next-alike f r (NodeOp.Open flags) a = refl
  next-alike f r (NodeOp.Read fh offset size) a = refl
  next-alike f r (NodeOp.Write fh offset content) a = refl
  next-alike f r (NodeOp.Flush fh) a = refl
  next-alike f r (NodeOp.Fsync fh) a = refl
  next-alike f r (NodeOp.Release fh) a = refl
  next-alike f r NodeOp.OpenDir a = refl
  next-alike f r (NodeOp.ReadDir fh offset size) a = refl
  next-alike f r (NodeOp.ReleaseDir fh) a = refl
  next-alike f r (NodeOp.Access mask) a = refl
  next-alike f r (NodeOp.Rename new_parent flags old_name new_name) a = refl
  next-alike f r (NodeOp.Unlink name) a = refl
