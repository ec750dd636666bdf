-- What a rename does with the files.
use Rattle.std.proofs.Common.{◌≡◌, ℕ, ◌==◌, List, Bool, true, false, not, ◌&&◌, cond, Option, Some, None, refl, sym, ap, subst, ◌∙◌, is_some, nat_le, nat_lt}
use Rattle.portal_base.specs.Content.{content_of, file_at, file_named, has_room, is_folder}
use Rattle.file_generations.specs.Generations.{Held, all_held, is_held, turned}
use Rattle.portal_base.specs.Names.{is_same, name_of}
use Rattle.portal_base.specs.declared.files.File.{File}
use Rattle.portal_base.specs.declared.files.FileName.{FileName}
use Rattle.portal_base.specs.declared.who.Who.{Who}
use Rattle.portal_model.specs.declared.entry.Given.{Given}
use Rattle.portal_model.specs.declared.reply.Answer.{Answer}
use Rattle.portal_model.specs.declared.reply.NodeAnswer.{NodeAnswer}
use Rattle.portal_model.specs.declared.request.NodeOp.{NodeOp}
use Rattle.portal_model.specs.declared.request.NodeRequest.{NodeRequest}
use Rattle.portal_model.specs.declared.state.Connection.{Connection}
use Rattle.portal_model.specs.declared.state.Document.{Document}
use Rattle.portal_model.specs.declared.temporary.OwnTemp.{OwnTemp}
use Rattle.portal_model.specs.Bus.{is_tree, moment_given}
use Rattle.portal_model.specs.Errno.{eacces, einval, enametoolong, enoent, eperm, exdev}
use Rattle.portal_model.specs.Node.{facts_of, files_after, node_given, node_walk, settled_on_node, walk_on_node, handles_after, node_done}
use Rattle.portal_model.specs.NodeOutside.{LawfulNode}
use Rattle.portal_model.specs.NodeVerdict.{NodeDoing, NodeVerdict, FileChange, FilesStay, Writes, Resizes, Creates, Adds, Stands, HandlesStay, Errs, Yields, changes_temps, errs_if, HandleChange, is_dots}
use Rattle.portal_model.specs.Outside.{files_told}
use Rattle.portal_model.specs.Place.{FolderOf, Sight, SightOfFolder, sight_on}
use Rattle.portal_model.specs.Rename.{AFile, AFolder, Home, RenameCall, Seen, are_too_long, home, home_of, is_own_name, rename, rename_at, rename_call, rename_homes, rename_in, rename_temp, rename_to, same_home, saved, temp_at, with_seen}
use Rattle.portal_model.specs.SaveLaws.{IsSaved, RenameAsked, RenameSaves, RenamesKeep}
use Rattle.portal_model.specs.SeatNames.{Renames, found_temp, is_called}
use Rattle.portal_model.specs.SoundGenerations.{has_taken_temps}
use Rattle.portal_model.specs.SoundNames.{SoundTemps, is_later_file, is_placed_temp, is_sound_temp, is_viewed_temp}
use Rattle.portal_model.specs.State.{State, connection_of, document_of, held_in, is_made}
use Rattle.portal_model.specs.Valid.{Valid}
use Rattle.portal_model.specs.Walk.{Walk, Answers, Ends, IsFound, Turns}
use Rattle.portal_model.proofs.DocumentChanges.{first_of_both, second_of_both}
use Rattle.portal_model.proofs.ListLookups.{found_in_all, found_passes, is_same-eq, nat_is}
use Rattle.portal_model.proofs.NamesValid.{names-found}
use Rattle.portal_model.proofs.NodeValid.{IsSoundSight, asking_in, place-sound}
use Rattle.portal_model.proofs.NodeWalks.{IfMet, OnNode, by_place-on, errs_if-on, on-given}
use Rattle.portal_model.proofs.SeatsValid.{temps-found}
use Rattle.portal_model.proofs.TurnedFiles.{turned-named, turned-stands}

-- ---- what a rename does

-- no handle is opened or closed, and a file becomes the present one, or none changes
abbrev IsMove : FileChange → Type 0
IsMove FilesStay = Unit {0}
IsMove (Writes name offset content now) = ⊥
IsMove (Resizes name size now) = ⊥
IsMove (Creates path now) = ⊥
IsMove (Adds name now) = ⊥
IsMove (Stands name) = Unit {0}

abbrev Moves : NodeDoing → Type 0
Moves d = (d.handle ≡ HandlesStay) × IsMove d.file

module _ (tree : Option Held) (call : RenameCall) (temps : List OwnTemp) where
  abbrev On : Walk NodeVerdict → Type 0
  On = OnNode tree Moves

  to-moves : (h : Home) (t : OwnTemp) → On (rename_to h call.new_name t)
  to-moves h t = elim (is_own_name h call.new_name) as (λ b. On (cond b (Ends (Turns t.temp.file) (λ now. saved t) (Errs enoent)) (Answers (changes_temps (Renames t.k t.temp call.new_name) NodeAnswer.Empty)))) [
    | true ↦ ((λ now found. (refl, tt)), tt)
    | false ↦ (refl, tt)
  ]

  temp-moves : (h : Home) (o : Option OwnTemp) → On (rename_temp h call.new_name o)
  temp-moves h None = tt
  temp-moves h (Some t) =
      errs_if-on tree Moves (not h.may_write) eacces (errs_if (is_dots call.new_name) eacces (rename_to h call.new_name t)) (λ a.
      errs_if-on tree Moves (is_dots call.new_name) eacces (rename_to h call.new_name t) (λ b. to-moves h t))

  homes-move : (o p : Option Home) → On (rename_homes call temps o p)
  homes-move None p = tt
  homes-move (Some first) None = tt
  homes-move (Some first) (Some second) =
      let named = rename_temp first call.new_name (temp_at temps first call.old_name) in
      errs_if-on tree Moves (not (same_home first second)) exdev (rename_at call temps first) (λ a.
      errs_if-on tree Moves (is_own_name first call.old_name) eperm named (λ b. temp-moves first (temp_at temps first call.old_name)))

  in-moves : (first second : Seen) → On (rename_in call temps first second)
  in-moves AFile second = tt
  in-moves (AFolder first) AFile = tt
  in-moves (AFolder first) (AFolder second) = homes-move (home_of first) (home_of second)

  seen-moves : (sight : Option Sight) (next : Seen → Walk NodeVerdict) → ((seen : Seen) → On (next seen)) → On (with_seen sight next)
  seen-moves sight next h = by_place-on tree Moves sight (λ at generation size moment. next AFile) (λ folder. next (AFolder folder)) (λ at g s m. h AFile) (λ folder e. h (AFolder folder))

  rename-moves : (sight new_sight : Option Sight) → On (rename call temps sight new_sight)
  rename-moves sight new_sight =
      let seen = with_seen sight (λ first. with_seen new_sight (rename_in call temps first)) in
      errs_if-on tree Moves (not (call.flags == 0)) einval (errs_if (are_too_long call) enametoolong seen) (λ a.
      errs_if-on tree Moves (are_too_long call) enametoolong seen (λ b.
      seen-moves sight (λ first. with_seen new_sight (rename_in call temps first)) (λ first. seen-moves new_sight (rename_in call temps first) (in-moves first))))

-- what comes of one
rename-met : (s : State) (c : Connection) (r : NodeRequest) (given : Given) → RenameAsked r → LawfulNode s c r given → IfMet (files_told s) Moves (node_given (walk_on_node s c r) given)
rename-met s c r given asked l =
    let call : RenameCall = rename_call asked.flags asked.old_name asked.new_name in
    on-given (files_told s) Moves (walk_on_node s c r) (moment_given given.now) given.listed given.looks (is_tree given.fault) l.looks
    (subst (λ (op : NodeOp). OnNode (files_told s) Moves (node_walk (facts_of s c r.node) r op)) (sym asked.asked)
    (rename-moves (files_told s) call c.temps (sight_on s c r.node) (sight_on s c asked.new_parent)))

-- ---- handles keep their files

handles-stay : (s : State) (c : Connection) (o : Option NodeVerdict) → IfMet (files_told s) Moves o → (settled_on_node s c o).0.handles ≡ s.handles
handles-stay s c None h = refl
handles-stay s c (Some (Errs errno)) h = refl
handles-stay s c (Some (Yields d)) h = step d.handle h.0
  where
    step : (change : HandleChange) → change ≡ HandlesStay → handles_after c change s.handles ≡ s.handles
    step change e = ap (λ (x : HandleChange). handles_after c x s.handles) e

files-same : (s : State) (v : Valid s) (name : FileName) (b : Bool) (change : FileChange) → IsMove change → file_named (all_held (files_after b change (held_in s))) name ≡ file_named (all_held (held_in s)) name
files-same s v name b FilesStay h = refl
files-same s v name b (Writes of offset content now) h = absurd h
files-same s v name b (Resizes of size now) h = absurd h
files-same s v name b (Creates path now) h = absurd h
files-same s v name b (Adds of now) h = absurd h
files-same s v name true (Stands of) h = turned-named of s.hidden s.files v.files_differ v.generations_sound.apart name
files-same s v name false (Stands of) h = refl

files-stay : (s : State) (v : Valid s) (c : Connection) (name : FileName) (o : Option NodeVerdict) → IfMet (files_told s) Moves o → file_named (all_held (held_in (settled_on_node s c o).0)) name ≡ file_named (all_held (held_in s)) name
files-stay s v c name None h = refl
files-stay s v c name (Some (Errs errno)) h = refl
files-stay s v c name (Some (Yields d)) h = files-same s v name s.told d.file h.1

pub renames-keep : RenamesKeep
renames-keep = record {
  handles = λ s c r given asked l. handles-stay s c (node_given (walk_on_node s c r) given) (rename-met s c r given asked l);
  files = λ s c r given name v asked l. files-stay s v c name (node_given (walk_on_node s c r) given) (rename-met s c r given asked l);
}

-- ---- what is saved

-- the file of this temporary becomes the present one
record Saves (tree : Option Held) (found : Option OwnTemp) (d : NodeDoing) : Type 0 where
  pub temp : OwnTemp
  pub there : found ≡ Some temp
  pub file : d.file ≡ Stands temp.temp.file
  pub may : IsFound tree (Turns temp.temp.file) true

module _ (tree : Option Held) (call : RenameCall) (temps : List OwnTemp) (view : ℕ) (d : Document) (may_write : Bool) (onto : is_same call.new_name (name_of d.path) ≡ true) where
  abbrev found : Option OwnTemp
  found = found_temp temps view d.id call.old_name

  abbrev OnSaved : Walk NodeVerdict → Type 0
  OnSaved = OnNode tree (Saves tree found)

  its_home : Home
  its_home = home view d may_write

  to-saves : (t : OwnTemp) → found ≡ Some t → OnSaved (rename_to (home view d may_write) call.new_name t)
  to-saves t e = subst (λ (b : Bool). OnSaved (cond b (Ends (Turns t.temp.file) (λ now. saved t) (Errs enoent)) (Answers (changes_temps (Renames t.k t.temp call.new_name) NodeAnswer.Empty)))) (sym onto)
      ((λ now may. record { temp = t; there = e; file = refl; may = may }), tt)

  temp-saves : (o : Option OwnTemp) → found ≡ o → OnSaved (rename_temp (home view d may_write) call.new_name o)
  temp-saves None e = tt
  temp-saves (Some t) e =
      errs_if-on tree (Saves tree found) (not may_write) eacces (errs_if (is_dots call.new_name) eacces (rename_to (home view d may_write) call.new_name t)) (λ a.
      errs_if-on tree (Saves tree found) (is_dots call.new_name) eacces (rename_to (home view d may_write) call.new_name t) (λ b. to-saves t e))

  homes-save : (p : Option Home) → OnSaved (rename_homes call temps (Some (home view d may_write)) p)
  homes-save None = tt
  homes-save (Some second) =
      let first : Home = home view d may_write in
      let named = rename_temp first call.new_name found in
      errs_if-on tree (Saves tree found) (not (same_home first second)) exdev (rename_at call temps first) (λ a.
      errs_if-on tree (Saves tree found) (is_own_name first call.old_name) eperm named (λ b. temp-saves found refl))

  from-home : (b : Bool) (p : Option Home) → OnSaved (rename_homes call temps (cond b None (Some (home view d may_write))) p)
  from-home true p = tt
  from-home false p = homes-save p

  in-saves : (second : Seen) → OnSaved (rename_in call temps (AFolder (FolderOf view d may_write)) second)
  in-saves AFile = tt
  in-saves (AFolder second) = from-home d.folder (home_of second)

  rename-saves : (new_sight : Option Sight) → OnSaved (rename call temps (Some (SightOfFolder (FolderOf view d may_write))) new_sight)
  rename-saves new_sight =
      let first : Seen = AFolder (FolderOf view d may_write) in
      let seen = with_seen new_sight (rename_in call temps first) in
      errs_if-on tree (Saves tree found) (not (call.flags == 0)) einval (errs_if (are_too_long call) enametoolong seen) (λ a.
      errs_if-on tree (Saves tree found) (are_too_long call) enametoolong seen (λ b.
      by_place-on tree (Saves tree found) new_sight (λ at generation size moment. rename_in call temps first AFile) (λ folder. rename_in call temps first (AFolder folder)) (λ at g s m. tt) (λ folder e. in-saves (AFolder folder))))

-- ---- the file that is saved

-- a temporary of a live document that is no folder is a file of its path
temp-path : (s : State) (who : Who) (added : ℕ) (d : Document) (t : OwnTemp) → is_sound_temp s.made s.documents who added t ≡ true → document_of s.documents t.temp.document.number ≡ Some d → t.temp.file.path ≡ d.path
temp-path s who added d t h live =
    let numbered : Bool = nat_lt 0 t.k && nat_le t.k added in
    let made : Bool = is_made s.made t.temp.document.number in
    let placed : Bool = is_placed_temp (document_of s.documents t.temp.document.number) t.temp in
    let beyond : Bool = is_viewed_temp who t.temp && is_later_file t.temp.file in
    let sound : placed ≡ true = first_of_both placed beyond (second_of_both made (placed && beyond) (second_of_both numbered (made && (placed && beyond)) h)) in
    let there : (not d.folder && is_same t.temp.file.path d.path) ≡ true = ap (λ (o : Option Document). is_placed_temp o t.temp) (sym live) ∙ sound in
    is_same-eq t.temp.file.path d.path (second_of_both (not d.folder) (is_same t.temp.file.path d.path) there)

-- what is held is found
held-file : (o : Option File) → is_some o ≡ true → (x : File) × (o ≡ Some x)
held-file None h = cc
held-file (Some x) h = (x, refl)

module _ (s : State) (v : Valid s) (told : s.told ≡ true) (c : Connection) (here : connection_of s.connections c.seat ≡ Some c) (d : Document) (view : ℕ) (old_name : List ℕ) (live : document_of s.documents d.id.number ≡ Some d) where
  abbrev its : Option OwnTemp
  its = found_temp c.temps view d.id old_name

  own_path : (t : OwnTemp) → its ≡ Some t → t.temp.file.path ≡ d.path
  own_path t e =
      let temps : SoundTemps s.made s.documents c.who c.added c.temps = temps-found s.made s.documents c.seat s.connections c here v.temps_sound in
      let sound : is_sound_temp s.made s.documents c.who c.added t ≡ true = found_in_all (is_called view d.id old_name) (is_sound_temp s.made s.documents c.who c.added) c.temps t e temps.sound in
      let called : is_called view d.id old_name t ≡ true = found_passes (is_called view d.id old_name) c.temps t e in
      let placed : (t.temp.view == view && t.temp.document.number == d.id.number) ≡ true = first_of_both (t.temp.view == view && t.temp.document.number == d.id.number) (is_same t.temp.name old_name) called in
      let number : t.temp.document.number ≡ d.id.number = nat_is t.temp.document.number d.id.number (second_of_both (t.temp.view == view) (t.temp.document.number == d.id.number) placed) in
      temp-path s c.who c.added d t sound (ap (document_of s.documents) number ∙ live)

  stood : (x : NodeDoing) → Saves (files_told s) its x → IsSaved s (node_done s c x) d its
  stood x h =
      let n : FileName = h.temp.temp.file in
      let found : IsFound (Some (held_in s)) (Turns n) true = subst (λ (b : Bool). IsFound (cond b (Some (held_in s)) None) (Turns n) true) told h.may in
      let held : is_held (held_in s) n ≡ true = first_of_both (is_held (held_in s) n) (not (is_folder s.files n.path)) (sym found) in
      let file = held-file (file_named (all_held (held_in s)) n) held in
      let path : n.path ≡ d.path = own_path h.temp h.there in
      let after : (node_done s c x).files ≡ (turned n (held_in s)).present = (λ i. (files_after (told i) (h.file i) (held_in s)).present) in
      let stands : file_at (turned n (held_in s)).present n.path ≡ Some file.0 = turned-stands n s.hidden s.files v.files_differ v.generations_sound.apart file.0 file.1 in
      let there : file_at (node_done s c x).files d.path ≡ Some file.0 = (λ i. file_at (after i) (sym path i)) ∙ stands in
      record {
        temp = h.temp;
        there = h.there;
        file = file.0;
        held = file.1;
        content = ap (λ (o : Option File). content_of o (is_folder (node_done s c x).files d.path) (has_room (node_done s c x).files d.path)) there;
      }

  settled-saves : (o : Option NodeVerdict) → IfMet (files_told s) (Saves (files_told s) its) o → (settled_on_node s c o).1 ≡ Answer.Node NodeAnswer.Empty → IsSaved s (settled_on_node s c o).0 d its
  settled-saves None h e = cc
  settled-saves (Some (Errs errno)) h e = cc
  settled-saves (Some (Yields x)) h e = stood x h

pub renames-save : RenameSaves
renames-save s c r given view d may_write old_name v told here mount sight asked l answered =
    let call : RenameCall = rename_call asked.flags old_name asked.new_name in
    let home_there : IsSoundSight (asking_in s c.who) r.node (Some (SightOfFolder (FolderOf view d may_write))) = subst (IsSoundSight (asking_in s c.who) r.node) sight
    (place-sound s v c r.node (names-found s.made s.documents c.seat s.connections c here v.namings_sound) (temps-found s.made s.documents c.seat s.connections c here v.temps_sound)
    (found_in_all (λ (x : Connection). x.seat == c.seat) (has_taken_temps s.told s.taken) s.connections c here v.temps_taken)) in
    let walk : OnNode (files_told s) (Saves (files_told s) (found_temp c.temps view d.id old_name)) (rename call c.temps (sight_on s c r.node) (sight_on s c asked.new_parent)) =
    subst (λ (o : Option Sight). OnNode (files_told s) (Saves (files_told s) (found_temp c.temps view d.id old_name)) (rename call c.temps o (sight_on s c asked.new_parent))) (sym sight)
    (rename-saves (files_told s) call c.temps view d may_write asked.own_name (sight_on s c asked.new_parent)) in
    let met : IfMet (files_told s) (Saves (files_told s) (found_temp c.temps view d.id old_name)) (node_given (walk_on_node s c r) given) =
    on-given (files_told s) (Saves (files_told s) (found_temp c.temps view d.id old_name)) (walk_on_node s c r) (moment_given given.now) given.listed given.looks (is_tree given.fault) l.looks
    (subst (λ (op : NodeOp). OnNode (files_told s) (Saves (files_told s) (found_temp c.temps view d.id old_name)) (node_walk (facts_of s c r.node) r op)) (sym asked.asked) walk) in
    settled-saves s v told c here d view old_name home_there.live (node_given (walk_on_node s c r) given) met answered
