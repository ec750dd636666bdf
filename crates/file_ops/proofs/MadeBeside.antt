-- How a CREATE of a temporary follows its walk.
use Rattle.std.proofs.Common.{◌≡◌, ◌&&◌, ◌||◌, ◌+◌, ◌==◌, ℕ, List, Bool, true, false, not, Option, Some, None, is_some, refl, sym, ap, subst, arith, ◌∙◌}
use Rattle.std.specs.Option.{option_map}
use Rattle.std.proofs.lemmas.Bool.Decides.{nat_tests}
use Rattle.file_generations.specs.Generations.{Held, freshened, may_freshen}
use Rattle.host_tree.specs.Trees.{Changes, TreeIs, may_fresh}
use Rattle.host_tree.specs.declared.tree.TreeCall.TheVariants as TreeCall
use Rattle.host_tree.specs.declared.tree.TreeDone.{TreeDone}
use Rattle.host_tree.specs.declared.tree.TreeDone.TheVariants as done
use Rattle.open_handles.specs.Opened.{HandleTable}
use Rattle.portal_base.specs.declared.files.FileName.{FileName}
use Rattle.portal_model.specs.declared.handle.Handle.{Handle}
use Rattle.portal_model.specs.declared.reply.Attr.{Attr}
use Rattle.portal_model.specs.declared.reply.NodeAnswer.{NodeAnswer}
use Rattle.portal_model.specs.declared.request.NodeRequest.{NodeRequest}
use Rattle.portal_model.specs.declared.state.Document.{Document}
use Rattle.portal_model.specs.declared.temporary.OwnTemp.{OwnTemp}
use Rattle.portal_model.specs.declared.temporary.Temp.{Temp}
use Rattle.portal_model.specs.Attributes.{attr_of_file, on_node}
use Rattle.portal_model.specs.Create.{add_temp, created_temp, next_temp_node}
use Rattle.portal_model.specs.Errno.{eacces, eexist, emfile, enoent}
use Rattle.portal_model.specs.Node.{files_after}
use Rattle.portal_model.specs.NodeVerdict.{Adds, Errs, HandlesStay, NodeVerdict, Opens, Room, Temps, Yields, errs, errs_if, is_dots, next_handle}
use Rattle.portal_model.specs.Open.{file_handle}
use Rattle.portal_model.specs.Place.{temp_node}
use Rattle.portal_model.specs.SeatNames.{Begins, SeatTemps, found_temp, last_taken, lacks_temp, with_taken}
use Rattle.portal_model.specs.Walk.{Freshens, Walk, is_found}
use Rattle.save_files.specs.Tables.{TempTable}
use Rattle.node_looks.specs.Done.{room_in}
use Rattle.node_looks.specs.OpenHandles.{Handled}
use Rattle.node_looks.proofs.DoneLemmas.{handles-stay, room-stays}
use Rattle.file_ops.specs.Creates.{Saving, SavingWith, other_made, temp_added}
use Rattle.file_ops.specs.SeatTemps.{HeldTemps, SeatTemped, TempsKept, seat_temps, temps_on}
use Rattle.file_ops.specs.Temporaries.{entry_told, next_name}
use Rattle.file_ops.specs.Tries.{Goes, done_of_ended, ended_of, freshened_at}
use Rattle.file_ops.specs.declared.created.DocumentFolder.{DocumentFolder}
use Rattle.file_ops.specs.declared.temporaries.OwnEntry.{OwnEntry}
use Rattle.file_ops.specs.declared.tried.Came.TheVariants as came
use Rattle.file_ops.specs.declared.tried.Ended.{Ended}
use Rattle.file_ops.proofs.Savings.{held-still, saving-along, saving-before, saving-by, seen-still}
use Rattle.file_ops.proofs.SettledOwn.{temps-same}
use Rattle.file_ops.proofs.Tries.{Suits, ends-so, fails-so, misses-so}

-- ---- the last call

module _ (r : NodeRequest) (flags : ℕ) (table : HandleTable) (seat view : ℕ) (d : Document) (temp : Temp) (name : FileName) (now : ℕ) (before : TempTable) (old new : TreeIs) (answer : TreeDone) (same : name ≡ temp.file) (next : name ≡ next_name before d)
    (fresh : Changes TreeCall.Fresh (may_fresh name) (freshened name now) old answer new) where
  abbrev doing : HeldTemps → ℕ → NodeVerdict
  doing has = created_temp r flags (room_in table seat) (next_temp_node (seat_temps before has) view) d temp

  abbrev adds : HeldTemps → Walk NodeVerdict
  adds has = add_temp r flags (room_in table seat) (next_temp_node (seat_temps before has) view) d temp

  -- it isn't the first of its path
  later : (name.generation == 0) ≡ false
  later =
      let more : name.generation ≡ last_taken before.taken d.path + 1 = ap (λ (n : FileName). n.generation) next in
      grind (arith, nat_tests, more)

  allows : (held : Held) → may_fresh name held ≡ may_freshen held name
  allows held = ap (λ (b : Bool). not b && may_freshen held name) later

  fresh-so : (x : TreeDone) → answer ≡ x → Changes TreeCall.Fresh (λ held. is_found held (Freshens temp.file)) (files_after true (Adds temp.file now)) old x new
  fresh-so x e =
      subst (λ (n : FileName). Changes TreeCall.Fresh (λ held. may_freshen held n) (freshened n now) old x new) same
      (subst (λ (f : Held → Bool). Changes TreeCall.Fresh f (freshened name now) old x new) (λ i held. allows held i)
      (subst (λ (y : TreeDone). Changes TreeCall.Fresh (may_fresh name) (freshened name now) old y new) e fresh))

  suits : Suits (Freshens temp.file) (Some now) (Some name.generation)
  suits = record { clock = refl; makes = ap (λ (n : FileName). Some n.generation) same }

  pub fresh-done : (has : HeldTemps) (k : ℕ) (attr : Attr) (fh : ℕ) (handle : Handle) (ended : Ended) (after : HandleTable) (temps : TempTable) → answer ≡ done.Done → k ≡ has.added + 1 → attr ≡ attr_of_file (on_node r (temp_node view k)) true 0 now → fh ≡ next_handle (room_in table seat) →
      handle ≡ file_handle d name (temp_node view k) flags → ended ≡ ended_of (freshened_at now name.generation came.Done) (NodeAnswer.Created attr fh) → Handled seat (Opens handle) table after → SeatTemped seat (Temps (Begins temp)) before temps →
      temps.taken ≡ with_taken temp.file.path temp.file.generation before.taken → Saving (adds has) seat table before old (done_of_ended ended) after temps new
  fresh-done has k attr fh handle ended after temps e n a f h b o s t =
      let attr-is : attr ≡ attr_of_file (on_node r (temp_node view (has.added + 1))) true 0 now = a ∙ ap (λ (m : ℕ). attr_of_file (on_node r (temp_node view m)) true 0 now) n in
      let handle-is : handle ≡ file_handle d temp.file (temp_node view (has.added + 1)) flags = h ∙ (ap (λ (x : FileName). file_handle d x (temp_node view k) flags) same ∙ ap (λ (m : ℕ). file_handle d temp.file (temp_node view m) flags) n) in
      let made : Ended = ended_of (freshened_at now name.generation came.Done) (NodeAnswer.Created attr fh) in
      let goes : Goes (adds has) old (done_of_ended made) (Opens handle) new =
      ends-so (Freshens temp.file) (doing has) (record { answer = NodeAnswer.Created attr fh; file = Adds temp.file now; handle = Opens handle; names = Temps (Begins temp) }) (Some now) (Some name.generation) old new suits
      (λ i. Yields (record { answer = NodeAnswer.Created (sym attr-is i) (sym f i); file = Adds temp.file now; handle = Opens (sym handle-is i); names = Temps (Begins temp) }))
      (fresh-so done.Done e) in
      subst (λ (x : Ended). Saving (adds has) seat table before old (done_of_ended x) after temps new) (sym b)
      (saving-by (adds has) seat table before old (done_of_ended made) after temps new (record { change = Opens handle; goes = goes; handled = o })
      (record { temps = s; taken = t }))

  pub fresh-missing : (has : HeldTemps) (ended : Ended) → answer ≡ done.NotFile → ended ≡ ended_of (freshened_at now name.generation came.NotFile) NodeAnswer.Empty → Saving (adds has) seat table before old (done_of_ended ended) table before new
  fresh-missing has ended e b =
      let made : Ended = ended_of (freshened_at now name.generation came.NotFile) NodeAnswer.Empty in
      subst (λ (x : Ended). Saving (adds has) seat table before old (done_of_ended x) table before new) (sym b)
      (saving-by (adds has) seat table before old (done_of_ended made) table before new
      (record { change = HandlesStay; goes = misses-so (Freshens temp.file) (doing has) (files_after true (Adds temp.file now)) NodeAnswer.Empty (Some now) (Some name.generation) old new suits (fresh-so done.NotFile e); handled = handles-stay seat table })
      (temps-same seat (Some (Errs enoent)) before refl))

  pub fresh-failed : (has : HeldTemps) (ended : Ended) → answer ≡ done.Failed → ended ≡ ended_of (freshened_at now name.generation came.Failed) NodeAnswer.Empty → Saving (adds has) seat table before old (done_of_ended ended) table before new
  fresh-failed has ended e b =
      let made : Ended = ended_of (freshened_at now name.generation came.Failed) NodeAnswer.Empty in
      subst (λ (x : Ended). Saving (adds has) seat table before old (done_of_ended x) table before new) (sym b)
      (saving-by (adds has) seat table before old (done_of_ended made) table before new
      (record { change = HandlesStay; goes = fails-so (Freshens temp.file) (doing has) (files_after true (Adds temp.file now)) NodeAnswer.Empty (Some now) (Some name.generation) old new suits (fresh-so done.Failed e); handled = handles-stay seat table })
      (temps-same seat None before refl))

-- ---- the checks

-- three checks that are one
pub denied-one : (a b e : Bool) (w : Walk NodeVerdict) → (a || (b || e)) ≡ true → errs_if a eacces (errs_if b eacces (errs_if e eacces w)) ≡ errs eacces
denied-one true b e w h = refl
denied-one false true e w h = refl
denied-one false false true w h = refl
denied-one false false false w h = cc

allowed-all : (a b e : Bool) (w : Walk NodeVerdict) → (a || (b || e)) ≡ false → errs_if a eacces (errs_if b eacces (errs_if e eacces w)) ≡ w
allowed-all true b e w h = cc
allowed-all false true e w h = cc
allowed-all false false true w h = cc
allowed-all false false false w h = refl

-- there is no room for the handle, or none for the number
pub full-first : (a b : Bool) → a ≡ true → (a || b) ≡ true
full-first true b h = refl
full-first false b h = cc

pub full-either : (a b : Bool) → a ≡ false → b ≡ true → (a || b) ≡ true
full-either true b h k = refl
full-either false b h k = k

-- whether one is found, as it is told
pub told-some : (own : Option OwnEntry) (found : Option OwnTemp) → option_map entry_told own ≡ found → is_some found ≡ is_some own
told-some None found e = ap (λ (o : Option OwnTemp). is_some o) (sym e)
told-some (Some x) found e = ap (λ (o : Option OwnTemp). is_some o) (sym e)

module _ (r : NodeRequest) (name : List ℕ) (flags : ℕ) (f : DocumentFolder) (room : Room) (denied : Bool) (tests : denied ≡ (f.document.folder || (is_dots name || not f.may_write))) where
  abbrev named : SeatTemps → Option OwnTemp
  named t = found_temp t.temps f.view f.document.id name

  pub other-denied : (t : SeatTemps) → denied ≡ true → other_made r name flags room f t ≡ errs eacces
  other-denied t e = denied-one f.document.folder (is_dots name) (not f.may_write) (errs_if (is_some (named t)) eexist (errs_if (room.full || lacks_temp t) emfile (temp_added r name flags room f t))) (sym tests ∙ e)

  module _ (may : denied ≡ false) where
    allowed : (t : SeatTemps) → other_made r name flags room f t ≡ errs_if (is_some (named t)) eexist (errs_if (room.full || lacks_temp t) emfile (temp_added r name flags room f t))
    allowed t = allowed-all f.document.folder (is_dots name) (not f.may_write) (errs_if (is_some (named t)) eexist (errs_if (room.full || lacks_temp t) emfile (temp_added r name flags room f t))) (sym tests ∙ may)

    pub other-exists : (t : SeatTemps) → is_some (named t) ≡ true → other_made r name flags room f t ≡ errs eexist
    other-exists t e = allowed t ∙ ap (λ (b : Bool). errs_if b eexist (errs_if (room.full || lacks_temp t) emfile (temp_added r name flags room f t))) e

    pub other-full : (t : SeatTemps) (full : Bool) → is_some (named t) ≡ false → (room.full || lacks_temp t) ≡ full → other_made r name flags room f t ≡ errs_if full emfile (temp_added r name flags room f t)
    other-full t full e l =
        allowed t
        ∙ (ap (λ (b : Bool). errs_if b eexist (errs_if (room.full || lacks_temp t) emfile (temp_added r name flags room f t))) e
        ∙ ap (λ (b : Bool). errs_if b emfile (temp_added r name flags room f t)) l)

-- there is room for the handle and for the number
pub other-made : (r : NodeRequest) (name : List ℕ) (flags : ℕ) (f : DocumentFolder) (denied : Bool) (seat : ℕ) (table mid : HandleTable) (before between : TempTable) (old : TreeIs) (ended : Ended) (after : HandleTable) (temps : TempTable) (new : TreeIs) →
    denied ≡ (f.document.folder || (is_dots name || not f.may_write)) → denied ≡ false → ((has : HeldTemps) → temps_on before.seats seat ≡ Some has → is_some (found_temp has.temps f.view f.document.id name) ≡ false) → (room_in table seat).full ≡ false →
    ((has : HeldTemps) → temps_on before.seats seat ≡ Some has → lacks_temp (seat_temps before has) ≡ false) → Handled seat HandlesStay table mid → TempsKept before between →
    SavingWith (temp_added r name flags (room_in mid seat) f) seat mid between old (done_of_ended ended) after temps new → SavingWith (other_made r name flags (room_in table seat) f) seat table before old (done_of_ended ended) after temps new
other-made r name flags f denied seat table mid before between old ended after temps new tests may none full lacks k m h = λ has e.
    let t : SeatTemps = seat_temps before has in
    let room : Room = room_in table seat in
    let both : (room.full || lacks_temp t) ≡ false = λ i. full i || lacks has e i in
    let still : temp_added r name flags (room_in mid seat) f (seat_temps between has) ≡ temp_added r name flags room f t = λ i. temp_added r name flags (room-stays seat table mid k i) f (seen-still before between has m i) in
    saving-along (other_made r name flags room f t) (temp_added r name flags room f t) seat table before old (done_of_ended ended) after temps new (other-full r name flags f room denied tests may t false (none has e) both)
    (subst (λ (w : Walk NodeVerdict). Saving w seat table before old (done_of_ended ended) after temps new) still
    (saving-before (temp_added r name flags (room_in mid seat) f (seat_temps between has)) seat table mid before between old (done_of_ended ended) after temps new k m
    (h has (held-still seat before between has m e))))
