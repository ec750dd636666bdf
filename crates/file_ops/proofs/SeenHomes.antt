-- What is seen at the nodes of folders in which temporaries are renamed and removed, and how the looks for it are followed.
use Rattle.std.proofs.Common.{◌≡◌, ℕ, List, Bool, true, Option, Some, None, refl, sym, ap, subst, ◌∙◌}
use Rattle.std.specs.Option.{option_map}
use Rattle.host_tree.specs.Trees.{Asks, Looks as Shows, TreeIs, is_look_fault}
use Rattle.host_tree.specs.declared.tree.LookAnswer.{LookAnswer}
use Rattle.host_tree.specs.declared.tree.LookAnswer.TheVariants as look
use Rattle.host_tree.specs.declared.tree.TreeCall.TheVariants as TreeCall
use Rattle.portal_base.specs.declared.files.Look.{Look}
use Rattle.portal_base.specs.declared.who.Who.{Who}
use Rattle.portal_model.specs.declared.naming.Naming.{Naming}
use Rattle.portal_model.specs.declared.state.Document.{Document}
use Rattle.portal_model.specs.declared.temporary.OwnTemp.{OwnTemp}
use Rattle.portal_model.specs.Errno.{eio, enoent}
use Rattle.portal_model.specs.NodeVerdict.{HandlesStay, NodeVerdict, by_look, if_file, spot}
use Rattle.portal_model.specs.Place.{Exported, Folder, RootOf, Sight, SightBelow, SightOfFile, SightOfFolder, SightOfTemp, Views, has_views, id_of_node, numbers_seen, place_of}
use Rattle.portal_model.specs.Rename.{AFile, AFolder, Seen, home_of, with_seen}
use Rattle.portal_model.specs.SeatNames.{naming_of, temp_of}
use Rattle.portal_model.specs.State.{State}
use Rattle.portal_model.specs.Walk.{AtPath, Looks, Named, Target, Walk}
use Rattle.app_view.specs.Books.{who_is}
use Rattle.app_view.specs.declared.book.Subject.{Subject}
use Rattle.app_view.specs.declared.book.ViewBook.{ViewBook}
use Rattle.app_view.specs.declared.sight.SeenBelow.{SeenBelow}
use Rattle.app_view.specs.declared.sight.SeenDocument.{SeenDocument}
use Rattle.app_view.specs.declared.sight.SeenTemp.{SeenTemp}
use Rattle.node_looks.specs.Sights.{naming_by, node_seen, sight_of, temp_by}
use Rattle.node_looks.specs.TreeCalls.{call_at}
use Rattle.node_looks.specs.declared.served.ByNumber.{ByNumber}
use Rattle.node_looks.specs.declared.sight.SeenPlace.{SeenPlace}
use Rattle.node_looks.specs.declared.sight.SeenPlace.TheVariants as seen_place
use Rattle.file_ops.specs.Homes.{IsSeenAs, any_shown, file_shown, home_told, is_home}
use Rattle.file_ops.specs.SeatNames.{seat_sight}
use Rattle.file_ops.specs.Tries.{ShowsAt, done_after, done_behind, refuses}
use Rattle.file_ops.specs.declared.homes.HomeSeen.{HomeSeen}
use Rattle.file_ops.specs.declared.homes.SeenNode.{SeenNode}
use Rattle.file_ops.specs.declared.homes.What.{What}
use Rattle.file_ops.proofs.Tries.{after-goes, behind-goes, refuses-goes, shows-path, walk-goes}

-- ---- by the look

-- a file alone
abbrev only_file : (Seen → Walk NodeVerdict) → Look → Walk NodeVerdict
only_file next = if_file (λ g s m. next AFile)

file-seen : (target : Target) (sight : Option Sight) (a : LookAnswer) (old new : TreeIs) → ((next : Seen → Walk NodeVerdict) → with_seen sight next ≡ Looks target (only_file next)) → Asks (call_at target) old (is_look_fault a) new → ShowsAt old.told target a → IsSeenAs sight old (Some a) (file_shown a) new
file-seen target sight (look.Is (Look.File g s m)) old new w asks shows = record {
  unfailed = tt;
  goes = λ next done change last h. walk-goes (with_seen sight next) (Looks target (only_file next)) old (done_after (Look.File g s m) done) change last (w next) (after-goes target (only_file next) (Look.File g s m) done change old new last asks shows h);
}
file-seen target sight (look.Is Look.Folder) old new w asks shows = λ next.
    walk-goes (with_seen sight next) (Looks target (only_file next)) old (done_behind (Some (look.Is Look.Folder)) (refuses enoent)) HandlesStay new (w next)
    (behind-goes target (only_file next) (look.Is Look.Folder) (refuses enoent) HandlesStay old new new asks shows (refuses-goes enoent new))
file-seen target sight (look.Is Look.Missing) old new w asks shows = λ next.
    walk-goes (with_seen sight next) (Looks target (only_file next)) old (done_behind (Some (look.Is Look.Missing)) (refuses enoent)) HandlesStay new (w next)
    (behind-goes target (only_file next) (look.Is Look.Missing) (refuses enoent) HandlesStay old new new asks shows (refuses-goes enoent new))
file-seen target sight look.Failed old new w asks shows = λ next.
    walk-goes (with_seen sight next) (Looks target (only_file next)) old (done_behind (Some look.Failed) (refuses eio)) HandlesStay new (w next)
    (behind-goes target (only_file next) look.Failed (refuses eio) HandlesStay old new new asks shows (refl, refl, refl))

-- a file or a folder
module _ (view : ℕ) (d : Document) (path : List ℕ) (may_write : Bool) where
  abbrev file_or_folder : (Seen → Walk NodeVerdict) → Look → Walk NodeVerdict
  file_or_folder next = by_look view (spot d path may_write) (λ at g s m. next AFile) (λ folder. next (AFolder folder))

  any-seen : (a : LookAnswer) (old new : TreeIs) → Asks TreeCall.Look old (is_look_fault a) new → ShowsAt old.told (AtPath path) a → IsSeenAs (Some (SightBelow view d path may_write)) old (Some a) (any_shown a) new
  any-seen (look.Is (Look.File g s m)) old new asks shows = record {
    unfailed = tt;
    goes = λ next done change last h. after-goes (AtPath path) (file_or_folder next) (Look.File g s m) done change old new last asks shows h;
  }
  any-seen (look.Is Look.Folder) old new asks shows = (
    Exported view d path may_write,
    refl,
    record {
      unfailed = tt;
      goes = λ next done change last h. after-goes (AtPath path) (file_or_folder next) Look.Folder done change old new last asks shows h;
    },
  )
  any-seen (look.Is Look.Missing) old new asks shows = λ next.
      behind-goes (AtPath path) (file_or_folder next) (look.Is Look.Missing) (refuses enoent) HandlesStay old new new asks shows (refuses-goes enoent new)
  any-seen look.Failed old new asks shows = λ next.
      behind-goes (AtPath path) (file_or_folder next) look.Failed (refuses eio) HandlesStay old new new asks shows (refl, refl, refl)

-- ---- without one

home-seen : (h : Option HomeSeen) (folder : Folder) (t : TreeIs) → option_map home_told h ≡ home_of folder → IsSeenAs (Some (SightOfFolder folder)) t None (What.Folder h) t
home-seen None folder t e = (folder, sym e, record { unfailed = tt; goes = λ next done change last g. g })
home-seen (Some told) folder t e = (folder, sym e, record { look = refl; tree = refl; walk = λ next. refl })

-- ---- by the place

-- behind a look
abbrev pub node_looked : LookAnswer → What → SeenNode
node_looked a what = record { look = Some a; what = what }

module _ (b : ViewBook) (who : Who) (place : Option SeenPlace) (node : SeenNode) where
  seen-so : (old new : TreeIs) (p : Option SeenPlace) (shown : Option LookAnswer) (what : What) → place ≡ p → node ≡ record { look = shown; what = what } → IsSeenAs (option_map (sight_of b who) p) old shown what new → IsSeenAs (option_map (sight_of b who) place) old node.look node.what new
  seen-so old new p shown what e n h =
      subst (λ (o : Option SeenPlace). IsSeenAs (option_map (sight_of b who) o) old node.look node.what new) (sym e)
      (subst (λ (x : SeenNode). IsSeenAs (option_map (sight_of b who) p) old x.look x.what new) (sym n) h)

  pub nothing-at : (t : TreeIs) → place ≡ None → node ≡ record { look = None; what = What.Nothing enoent } → IsSeenAs (option_map (sight_of b who) place) t node.look node.what t
  nothing-at t e n = seen-so t t None None (What.Nothing enoent) e n (λ next. refuses-goes enoent t)

  pub file-at : (view : ℕ) (seen : SeenDocument) (a : LookAnswer) (old new : TreeIs) → place ≡ Some (seen_place.File view seen) → node ≡ record { look = Some a; what = file_shown a } → Asks TreeCall.Look old (is_look_fault a) new → Shows old.told seen.document.now.path a →
      IsSeenAs (option_map (sight_of b who) place) old node.look node.what new
  file-at view seen a old new e n asks shows =
      seen-so old new (Some (seen_place.File view seen)) (Some a) (file_shown a) e n
      (file-seen (AtPath seen.document.now.path) (Some (SightOfFile seen.document.now seen.may_write)) a old new (λ next. refl) asks (shows-path old.told seen.document.now.path a shows))

  pub temp-at : (view : ℕ) (temp : SeenTemp) (a : LookAnswer) (old new : TreeIs) → place ≡ Some (seen_place.Temporary view temp) → node ≡ record { look = Some a; what = file_shown a } → Asks TreeCall.Attr old (is_look_fault a) new → ShowsAt old.told (Named temp.file.now) a →
      IsSeenAs (option_map (sight_of b who) place) old node.look node.what new
  temp-at view temp a old new e n asks shows =
      seen-so old new (Some (seen_place.Temporary view temp)) (Some a) (file_shown a) e n
      (file-seen (Named temp.file.now) (Some (SightOfTemp temp.seen.document.now temp.file.now temp.seen.may_write)) a old new (λ next. refl) asks shows)

  pub below-at : (view : ℕ) (below : SeenBelow) (a : LookAnswer) (old new : TreeIs) → place ≡ Some (seen_place.Below view below) → node ≡ record { look = Some a; what = any_shown a } → Asks TreeCall.Look old (is_look_fault a) new → Shows old.told below.path.now a →
      IsSeenAs (option_map (sight_of b who) place) old node.look node.what new
  below-at view below a old new e n asks shows =
      seen-so old new (Some (seen_place.Below view below)) (Some a) (any_shown a) e n
      (any-seen view below.seen.document.now below.path.now below.seen.may_write a old new asks (shows-path old.told below.path.now a shows))

  pub folder-at : (p : SeenPlace) (folder : Folder) (h : Option HomeSeen) (t : TreeIs) → sight_of b who p ≡ SightOfFolder folder → option_map home_told h ≡ home_of folder → place ≡ Some p → node ≡ record { look = None; what = What.Folder h } → IsSeenAs (option_map (sight_of b who) place) t node.look node.what t
  folder-at p folder h t s k e n =
      seen-so t t (Some p) None (What.Folder h) e n
      (subst (λ (x : Sight). IsSeenAs (Some x) t None (What.Folder h) t) (sym s) (home-seen h folder t k))

-- the folders in which no temporaries are
pub root-at : (b : ViewBook) (who : Who) (place : Option SeenPlace) (node : SeenNode) (view : ℕ) (subject : Subject) (t : TreeIs) → place ≡ Some (seen_place.Root view subject) → node ≡ record { look = None; what = What.Folder None } → IsSeenAs (option_map (sight_of b who) place) t node.look node.what t
root-at b who place node view subject t e n =
    folder-at b who place node (seen_place.Root view subject) (RootOf view (numbers_seen b.grants.now (who_is subject) b.documents.now.live) (has_views who view)) None t refl refl e n

pub views-at : (b : ViewBook) (who : Who) (place : Option SeenPlace) (node : SeenNode) (t : TreeIs) → place ≡ Some seen_place.Views → node ≡ record { look = None; what = What.Folder None } → IsSeenAs (option_map (sight_of b who) place) t node.look node.what t
views-at b who place node t e n = folder-at b who place node seen_place.Views (Views b.applications.now) None t refl refl e n

-- no temporaries are where a look was taken
no-file-home : (a : LookAnswer) → is_home (file_shown a) ≡ true → ⊥
no-file-home (look.Is (Look.File g s m)) e = cc
no-file-home (look.Is Look.Folder) e = cc
no-file-home (look.Is Look.Missing) e = cc
no-file-home look.Failed e = cc

no-any-home : (a : LookAnswer) → is_home (any_shown a) ≡ true → ⊥
no-any-home (look.Is (Look.File g s m)) e = cc
no-any-home (look.Is Look.Folder) e = cc
no-any-home (look.Is Look.Missing) e = cc
no-any-home look.Failed e = cc

pub file-no-home : (a : LookAnswer) (node : SeenNode) → node ≡ record { look = Some a; what = file_shown a } → is_home node.what ≡ true → ⊥
file-no-home a node n h = no-file-home a (ap (λ (x : SeenNode). is_home x.what) (sym n) ∙ h)

pub any-no-home : (a : LookAnswer) (node : SeenNode) → node ≡ record { look = Some a; what = any_shown a } → is_home node.what ≡ true → ⊥
any-no-home a node n h = no-any-home a (ap (λ (x : SeenNode). is_home x.what) (sym n) ∙ h)

-- ---- by what the connection has

pub seat-seen : (s : State) (who : Who) (own : ByNumber) (names : List Naming) (temps : List OwnTemp) (node : ℕ) (sight : Option Sight) → naming_by own ≡ naming_of names (id_of_node node) → temp_by own ≡ temp_of temps (id_of_node node) → node_seen s who own node ≡ sight → seat_sight s who names temps node ≡ sight
seat-seen s who own names temps node sight n t h = sym (λ i. place_of s who (n i) (t i) node) ∙ h
