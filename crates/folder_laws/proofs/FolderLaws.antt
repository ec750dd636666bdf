-- No entry adds or removes a folder, nor changes what is at another path than that of the file that it changes.
use Rattle.std.proofs.Common.{◌≡◌, ℕ, List, [], ◌∷◌, true, false, Option, Some, None, refl, ap, ◌∙◌}
use Rattle.portal_base.specs.Content.{content_at, is_folder}
use Rattle.portal_base.specs.Names.{is_host_path, is_same}
use Rattle.portal_base.specs.declared.who.Who.{Who}
use Rattle.file_generations.specs.Generations.{Held}
use Rattle.portal_base.proofs.PathsAbove.{no-path-is-empty}
use Rattle.portal_model.specs.declared.entry.Given.{Given}
use Rattle.portal_model.specs.declared.naming.Naming.{Naming}
use Rattle.portal_model.specs.declared.request.NodeRequest.{NodeRequest}
use Rattle.portal_model.specs.declared.request.Request.{Request}
use Rattle.portal_model.specs.declared.state.Connection.{Connection}
use Rattle.portal_model.specs.Bus.{is_tree, moment_given}
use Rattle.portal_model.specs.Lawful.{LawfulGiven, LawfulOnNode}
use Rattle.portal_model.specs.Node.{facts_of, files_after, node_given, room_of, settled_on_node, temps_seen, walk_on_node}
use Rattle.portal_model.specs.NodeVerdict.{NodeVerdict, Errs, Yields, Room}
use Rattle.portal_model.specs.Outside.{files_told}
use Rattle.portal_model.specs.SeatNames.{SeatTemps}
use Rattle.portal_model.specs.State.{State, connection_of, held_in}
use Rattle.portal_model.specs.Step.{all_told, bus_of, bus_step, collect_step, mount_of, node_step, request_step}
use Rattle.portal_model.specs.Valid.{Valid}
use Rattle.portal_model.proofs.BusLaws.{bus_step-holds}
use Rattle.portal_model.proofs.NamesValid.{names-found}
use Rattle.portal_model.proofs.NodeValid.{Asking, FileFine, Fine, asking_in, present-taken, walk-fine}
use Rattle.portal_model.proofs.NodeWalks.{IfMet, on-given}
use Rattle.portal_model.proofs.ValidLaws.{all_told-Valid, told-sight}
use Rattle.folder_laws.specs.Folders.{FoldersStay, OtherContentsStay, change_by, change_of, change_on}
use Rattle.folder_laws.proofs.ChangedFiles.{contents-after, folders-after}
use Rattle.folder_laws.proofs.SeatNamings.{mount-here}

-- ---- the files after an entry

settled-files : (s : State) (c : Connection) (o : Option NodeVerdict) → held_in (settled_on_node s c o).0 ≡ files_after s.told (change_of o) (held_in s)
settled-files s c None = refl
settled-files s c (Some (Errs errno)) = refl
settled-files s c (Some (Yields d)) = refl

node-files : (s : State) (r : NodeRequest) (given : Given) (o : Option Connection) → held_in (node_step s r given o).0 ≡ files_after s.told (change_on s r given o) (held_in s)
node-files s r given None = refl
node-files s r given (Some c) = settled-files (all_told c.seat s) c (node_given (walk_on_node (all_told c.seat s) c r) given)

bus-files : (s : State) (request : Request) (given : Given) (o : Option Connection) → held_in (bus_step s request given o).0 ≡ held_in s
bus-files s request given o =
    bus_step-holds (λ (t : State). held_in t ≡ held_in s) (λ t seat h. h) (λ t seat change h. h) (λ t ds made rights apps h. h) (λ t es h. h) (λ t change h. h) s request given o refl

collect-files : (s : State) (o : Option Connection) → held_in (collect_step s o).0 ≡ held_in s
collect-files s None = refl
collect-files s (Some c) = refl

step-files : (s : State) (seat : ℕ) (request : Request) (given : Given) → held_in (request_step s seat request given).0 ≡ files_after s.told (change_by s seat request given) (held_in s)
step-files s seat (Request.Enter who kind) given = refl
step-files s seat Request.Leave given = refl
step-files s seat Request.Collect given = collect-files s (bus_of (connection_of s.connections seat))
step-files s seat (Request.Node r) given = node-files s r given (mount_of (connection_of s.connections seat))
step-files s seat request given = bus-files s request given (bus_of (connection_of s.connections seat))

-- ---- a change that is fine

module _ (asking : Asking) (tree : Option Held) (room : Room) (namings : List Naming) (temps : SeatTemps) where
  met-change : (o : Option NodeVerdict) → IfMet tree (Fine asking tree room namings temps) o → FileFine asking tree (change_of o)
  met-change None h = tt
  met-change (Some (Errs errno)) h = tt
  met-change (Some (Yields d)) h = h.1

-- who asks, where someone does
abbrev asker : Option Connection → Who
asker None = Who.Host
asker (Some c) = c.who

node-change : (s : State) (seat : ℕ) (r : NodeRequest) (given : Given) → Valid s → (o : Option Connection) → mount_of (connection_of s.connections seat) ≡ o → LawfulOnNode s r given o → FileFine (asking_in s (asker o)) (files_told s) (change_on s r given o)
node-change s seat r given v None e l = tt
node-change s seat r given v (Some c) e l =
    let there = mount-here s.connections seat c e in
    let t : State = all_told c.seat s in
    let asking : Asking = asking_in t c.who in
    let names = names-found s.made s.documents seat s.connections c there.1 v.namings_sound in
    met-change asking (files_told t) (room_of t c) c.namings (temps_seen t c) (node_given (walk_on_node t c r) given)
    (on-given (files_told t) (Fine asking (files_told t) (room_of t c) c.namings (temps_seen t c)) (walk_on_node t c r) (moment_given given.now) given.listed given.looks (is_tree given.fault) l.looks
    (walk-fine asking (files_told t) (facts_of t c r.node) r names.within (present-taken t (all_told-Valid s c.seat v) c.who) (record { next = λ path. refl }) (told-sight s seat c there.1 v r.node) r.op))

-- who makes the request, as far as its change is concerned
abbrev maker : State → ℕ → Request → Who
maker s seat (Request.Node r) = asker (mount_of (connection_of s.connections seat))
maker s seat request = Who.Host

step-change : (s : State) (seat : ℕ) (request : Request) (given : Given) → Valid s → LawfulGiven s seat request given → FileFine (asking_in s (maker s seat request)) (files_told s) (change_by s seat request given)
step-change s seat (Request.Node r) given v l = node-change s seat r given v (mount_of (connection_of s.connections seat)) refl l
step-change s seat request given v l = tt

-- a path on the host is something
path-some : (path : List ℕ) → is_host_path path ≡ true → is_same path [] ≡ false
path-some [] h = absurd (no-path-is-empty h)
path-some (b ∷ bs) h = refl

-- ---- the laws

pub folders-stay : FoldersStay
folders-stay s e path v l host =
    ap (λ (h : Held). is_folder h.present path) (step-files s e.seat e.request e.given)
    ∙ folders-after (held_in s) v.generations_sound.placed (asking_in s (maker s e.seat e.request)) s.told (change_by s e.seat e.request e.given) (step-change s e.seat e.request e.given v l.given) path (path-some path host)

pub others-stay : OtherContentsStay
others-stay s e path v l host other =
    ap (λ (h : Held). content_at h.present path) (step-files s e.seat e.request e.given)
    ∙ contents-after (held_in s) v.generations_sound.placed (asking_in s (maker s e.seat e.request)) s.told (change_by s e.seat e.request e.given) (step-change s e.seat e.request e.given v l.given) path (path-some path host) other
