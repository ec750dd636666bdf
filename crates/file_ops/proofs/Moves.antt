-- How a RENAME follows its walk: what is seen at both folders, and what is done with a temporary then.
use Rattle.std.proofs.Common.{◌≡◌, ◌==◌, ◌||◌, ◌&&◌, ℕ, List, [], ◌∷◌, cond, Bool, true, false, not, Option, Some, None, refl, sym, ap, subst, arith, ◌∙◌}
use Rattle.std.specs.Option.{option_map}
use Rattle.std.proofs.lemmas.Bool.Decides.{nat_tests}
use Rattle.host_tree.specs.Trees.{Changes as ChangesFiles, TreeIs, may_turn, turned}
use Rattle.host_tree.specs.declared.tree.LookAnswer.{LookAnswer}
use Rattle.host_tree.specs.declared.tree.LookAnswer.TheVariants as look
use Rattle.host_tree.specs.declared.tree.TreeCall.TheVariants as TreeCall
use Rattle.host_tree.specs.declared.tree.TreeDone.{TreeDone}
use Rattle.portal_base.specs.Names.{is_same}
use Rattle.portal_base.specs.declared.files.FileName.{FileName}
use Rattle.portal_base.specs.declared.files.Look.{Look}
use Rattle.portal_base.specs.declared.names.doc_id.DocId.{DocId}
use Rattle.open_handles.specs.Opened.{HandleTable}
use Rattle.portal_model.specs.declared.reply.Answer.{Answer}
use Rattle.portal_model.specs.declared.reply.Code.TheVariants as Code
use Rattle.portal_model.specs.declared.reply.NodeAnswer.TheVariants as NodeAnswer
use Rattle.portal_model.specs.declared.temporary.OwnTemp.{OwnTemp}
use Rattle.portal_model.specs.declared.temporary.Temp.{Temp}
use Rattle.portal_model.specs.Errno.{einval, enametoolong, enoent, enotdir, exdev}
use Rattle.portal_model.specs.Node.{files_after}
use Rattle.portal_model.specs.NodeVerdict.{Errs, HandlesStay, NodeDoing, NodeVerdict, Stands, Temps, Yields, changes_temps, errs, errs_if, is_too_long}
use Rattle.portal_model.specs.Place.{Folder, Sight}
use Rattle.portal_model.specs.Rename.{AFile, AFolder, Home, RenameCall, Seen, are_too_long, home_of, rename, rename_at, rename_homes, rename_in, same_home, saved, with_seen}
use Rattle.portal_model.specs.SeatNames.{Drops, Renames, TempChange, found_temp, is_called, own_temp}
use Rattle.portal_model.specs.Walk.{Answers, Turns, Walk}
use Rattle.save_files.specs.Own.{Own, temp_of}
use Rattle.save_files.specs.Tables.{TempTable}
use Rattle.node_looks.specs.Done.{answer_of}
use Rattle.node_looks.specs.TreeCalls.{WasCalledUpTo}
use Rattle.node_looks.specs.declared.served.NodeDone.{NodeDone}
use Rattle.node_looks.proofs.DoneLemmas.{handles-stay}
use Rattle.file_ops.specs.Creates.{Saving}
use Rattle.file_ops.specs.Homes.{IsAtOnce, IsSeenAs, Leads, Unfailed, home_told, is_home, shown_of}
use Rattle.file_ops.specs.Renames.{IsCommon, IsCommonHome, IsMoved, IsSomething, IsUncalled, Turned, drop_walk, name_walk, rename_seen, save_walk}
use Rattle.file_ops.specs.SeatTemps.{SeatTemped}
use Rattle.file_ops.specs.Tries.{Goes, done_behind, done_behind_first, done_of_below, done_of_ended, done_of_tried, ended_of, moment_of, refuses, says, tree_done, turned_so}
use Rattle.file_ops.specs.declared.homes.HomeSeen.{HomeSeen}
use Rattle.file_ops.specs.declared.homes.What.{What}
use Rattle.file_ops.specs.declared.renamed.Common.{Common}
use Rattle.file_ops.specs.declared.renamed.Moving.{Moving}
use Rattle.file_ops.specs.declared.renamed.NamedTemp.{NamedTemp}
use Rattle.file_ops.specs.declared.tried.Came.{Came}
use Rattle.file_ops.specs.declared.tried.Came.TheVariants as came
use Rattle.file_ops.specs.declared.tried.Ended.{Ended}
use Rattle.file_ops.specs.declared.tried.Tried.{Tried}
use Rattle.file_ops.specs.declared.tried.TriedBelow.{TriedBelow}
use Rattle.file_ops.proofs.EachEnd.{so_of, spares_temps}
use Rattle.file_ops.proofs.Savings.{saving-along, saving-by}
use Rattle.file_ops.proofs.SettledOwn.{temps-same}
use Rattle.file_ops.proofs.Tries.{Suits, ends-so, fails-so, if-right, if-wrong, misses-so, refuses-goes, same-told, walk-goes}

-- ---- what is seen at a folder

-- what there is then for a request
abbrev pub IsWhat : What → Seen → Type 0
IsWhat (What.Nothing errno) seen = ⊥
IsWhat What.File seen = seen ≡ AFile
IsWhat (What.Folder h) seen = (folder : Folder) × (seen ≡ AFolder folder) × (home_of folder ≡ option_map home_told h)

at-once-leads : (sight : Option Sight) (old : TreeIs) (shown : Option LookAnswer) (folder : Folder) (new : TreeIs) → IsAtOnce sight old shown folder new → Leads sight old shown (AFolder folder) new
at-once-leads sight old shown folder new h = record {
  unfailed = subst Unfailed (sym h.look) tt;
  goes = λ next done change last g.
      subst (λ (o : Option LookAnswer). Goes (with_seen sight next) old (done_behind_first (shown_of o) done) change last) (sym h.look)
      (walk-goes (with_seen sight next) (next (AFolder folder)) old done change last (h.walk next)
      (subst (λ (t : TreeIs). Goes (next (AFolder folder)) t done change last) h.tree g));
}

pub leads-on : (sight : Option Sight) (old : TreeIs) (shown : Option LookAnswer) (what : What) (new : TreeIs) → IsSomething what → IsSeenAs sight old shown what new → (seen : Seen) × IsWhat what seen × Leads sight old shown seen new
leads-on sight old shown (What.Nothing errno) new i h = absurd i
leads-on sight old shown What.File new i h = (AFile, refl, h)
leads-on sight old shown (What.Folder None) new i h = (AFolder h.0, (h.0, refl, h.1), h.2)
leads-on sight old shown (What.Folder (Some told)) new i h = (AFolder h.0, (h.0, refl, h.1), at-once-leads sight old shown h.0 new h.2)

-- a refusal behind a look that didn't fail
pub done-same : (shown : Option LookAnswer) (errno : ℕ) → Unfailed shown → done_behind_first (shown_of shown) (done_of_ended (refuses errno)) ≡ done_behind shown (refuses errno)
done-same None errno u = refl
done-same (Some (look.Is l)) errno u = refl
done-same (Some look.Failed) errno u = absurd u

-- ---- what is seen at both

errno-same : (a b : ℕ) → Common.Refused a ≡ Common.Refused b → a ≡ b
errno-same a b e = cc

module _ (call : RenameCall) (temps : List OwnTemp) where
  homes-refused : (a b : Option HomeSeen) (errno : ℕ) → IsCommonHome a b (Common.Refused errno) → rename_homes call temps (option_map home_told a) (option_map home_told b) ≡ errs errno
  homes-refused None b errno c = ap errs (sym c)
  homes-refused (Some a) None errno c = ap errs (sym c)
  homes-refused (Some a) (Some b) errno c = ap (λ (x : Bool). errs_if (not x) exdev (rename_at call temps (home_told a))) c.0 ∙ ap errs (sym c.1)

  inner-refused : (a b : What) (first second : Seen) (errno : ℕ) → IsWhat a first → IsWhat b second → IsCommon a b (Common.Refused errno) → rename_in call temps first second ≡ errs errno
  inner-refused (What.Nothing e) b first second errno i j c = absurd i
  inner-refused What.File (What.Nothing e) first second errno i j c = absurd j
  inner-refused What.File What.File first second errno i j c = ap (λ (x : Seen). rename_in call temps x second) i ∙ ap errs (sym (errno-same errno enotdir c))
  inner-refused What.File (What.Folder b) first second errno i j c = ap (λ (x : Seen). rename_in call temps x second) i ∙ ap errs (sym (errno-same errno enotdir c))
  inner-refused (What.Folder a) (What.Nothing e) first second errno i j c = absurd j
  inner-refused (What.Folder a) What.File first second errno i j c = (λ k. rename_in call temps (i.1 k) (j k)) ∙ ap errs (sym (errno-same errno enotdir c))
  inner-refused (What.Folder a) (What.Folder b) first second errno i j c =
      (λ k. rename_in call temps (i.1 k) (j.1 k))
      ∙ ((λ k. rename_homes call temps (i.2 k) (j.2 k))
      ∙ homes-refused a b errno c)

  module _ (new_sight : Option Sight) (mid new : TreeIs) (shown : Option LookAnswer) (a : What) (first : Seen) (is : IsWhat a first) (errno : ℕ) where
    abbrev inner : Walk NodeVerdict
    inner = with_seen new_sight (rename_in call temps first)

    there-goes : (b : What) → IsSomething b → IsSeenAs new_sight mid shown b new → IsCommon a b (Common.Refused errno) → Goes inner mid (done_behind shown (refuses errno)) HandlesStay new
    there-goes b something j c =
        let l = leads-on new_sight mid shown b new something j in
        subst (λ (d : NodeDone). Goes inner mid d HandlesStay new) (done-same shown errno l.2.unfailed)
        (l.2.goes (rename_in call temps first) (done_of_ended (refuses errno)) HandlesStay new
        (walk-goes (rename_in call temps first l.0) (errs errno) new (done_of_ended (refuses errno)) HandlesStay new (inner-refused a b first l.0 errno is l.1 c) (refuses-goes errno new)))

    second-goes : (b : What) → IsSeenAs new_sight mid shown b new → IsCommon a b (Common.Refused errno) → Goes inner mid (done_behind shown (refuses errno)) HandlesStay new
    second-goes (What.Nothing e) j c = subst (λ (n : ℕ). Goes inner mid (done_behind shown (refuses n)) HandlesStay new) (sym (errno-same errno e c)) (j (rename_in call temps first))
    second-goes What.File j c = there-goes What.File tt j c
    second-goes (What.Folder h) j c = there-goes (What.Folder h) tt j c

  -- both are refused together
  pub refused-from : (sight new_sight : Option Sight) (began mid new : TreeIs) (shown shown_there : Option LookAnswer) (a b : What) (errno : ℕ) (name : List ℕ) (own : Option Own) (tried : TriedBelow) (ended : Ended) → IsSomething a → IsSeenAs sight began shown a mid → IsSeenAs new_sight mid shown_there b new →
      IsCommon a b (Common.Refused errno) → tried ≡ record { first = shown_of shown; then = record { look = shown_there; ended = ended } } → ended ≡ refuses errno → IsMoved (rename_seen call temps sight new_sight) name own began (Moving.Refused tried) new
  refused-from sight new_sight began mid new shown shown_there a b errno name own tried ended something i j c t e =
      let l = leads-on sight began shown a mid something i in
      let is : tried ≡ record { first = shown_of shown; then = record { look = shown_there; ended = refuses errno } } = t ∙ ap (λ (x : Ended). record { first = shown_of shown; then = record { look = shown_there; ended = x } }) e in (
        errno,
        ap (λ (x : TriedBelow). x.then.ended) is,
        subst (λ (x : TriedBelow). Goes (rename_seen call temps sight new_sight) began (done_of_below x) HandlesStay new) (sym is)
            (l.2.goes (λ seen. with_seen new_sight (rename_in call temps seen)) (done_behind shown_there (refuses errno)) HandlesStay new
            (second-goes new_sight mid new shown_there a l.0 l.1 errno b j c)),
      )

  -- the one home that both are
  pub home-walk : (sight new_sight : Option Sight) (began mid new : TreeIs) (shown shown_there : Option LookAnswer) (a b : HomeSeen) → IsSeenAs sight began shown (What.Folder (Some a)) mid → IsSeenAs new_sight mid shown_there (What.Folder (Some b)) new → same_home (home_told a) (home_told b) ≡ true →
      (rename_seen call temps sight new_sight ≡ rename_at call temps (home_told a)) × (new ≡ began)
  home-walk sight new_sight began mid new shown shown_there a b i j same = (
    i.2.walk (λ first. with_seen new_sight (rename_in call temps first))
        ∙ (j.2.walk (rename_in call temps (AFolder i.0))
        ∙ ((λ k. rename_homes call temps (i.1 k) (j.1 k))
        ∙ ap (λ (x : Bool). errs_if (not x) exdev (rename_at call temps (home_told a))) same)),
    j.2.tree ∙ i.2.tree,
  )

-- which it is
pub common-home : (a b : What) (h : HomeSeen) → IsCommon a b (Common.Home h) → (other : HomeSeen) × (a ≡ What.Folder (Some h)) × (b ≡ What.Folder (Some other)) × (same_home (home_told h) (home_told other) ≡ true)
common-home a (What.Nothing e) h c = cc
common-home (What.Nothing e) What.File h c = cc
common-home What.File What.File h c = cc
common-home (What.Folder a) What.File h c = cc
common-home (What.Nothing e) (What.Folder b) h c = cc
common-home What.File (What.Folder b) h c = cc
common-home (What.Folder None) (What.Folder b) h c = absurd c
common-home (What.Folder (Some a)) (What.Folder None) h c = absurd c
common-home (What.Folder (Some a)) (What.Folder (Some b)) h c = (
  b,
  ap (λ (x : HomeSeen). What.Folder (Some x)) (sym c.1),
  refl,
  subst (λ (x : HomeSeen). same_home (home_told x) (home_told b) ≡ true) (sym c.1) c.0,
)

-- temporaries may be in both then
pub both-homes : (a b : What) (h : HomeSeen) → IsCommon a b (Common.Home h) → (is_home a ≡ true) × (is_home b ≡ true)
both-homes a b h c =
    let o = common-home a b h c in
    (ap is_home o.1, ap is_home o.2)

pub moved-home : (call : RenameCall) (temps : List OwnTemp) (sight new_sight : Option Sight) (began mid new : TreeIs) (shown shown_there : Option LookAnswer) (a b : What) (h : HomeSeen) (name : List ℕ) (own : Option Own) (moving : Moving) → IsSeenAs sight began shown a mid → IsSeenAs new_sight mid shown_there b new →
    IsCommon a b (Common.Home h) → IsMoved (rename_at call temps (home_told h)) name own began moving began → IsMoved (rename_seen call temps sight new_sight) name own began moving new
moved-home call temps sight new_sight began mid new shown shown_there a b h name own moving i j c m =
    let o = common-home a b h c in
    let w = home-walk call temps sight new_sight began mid new shown shown_there h o.0 (subst (λ (x : What). IsSeenAs sight began shown x mid) o.1 i) (subst (λ (x : What). IsSeenAs new_sight mid shown_there x new) o.2 j) o.3 in
    subst (λ (v : Walk NodeVerdict). IsMoved v name own began moving new) (sym w.0)
    (subst (λ (t : TreeIs). IsMoved (rename_at call temps (home_told h)) name own began moving t) (sym w.1) m)

-- ---- refusals without a look, and behind the first

pub refused-moving : (w : Walk NodeVerdict) (errno : ℕ) (name : List ℕ) (own : Option Own) (t : TreeIs) (tried : TriedBelow) → w ≡ errs errno → tried ≡ record { first = None; then = record { look = None; ended = refuses errno } } → IsMoved w name own t (Moving.Refused tried) t
refused-moving w errno name own t tried e is = (
  errno,
  ap (λ (x : TriedBelow). x.then.ended) is,
  walk-goes w (errs errno) t (done_of_below tried) HandlesStay t e (subst (λ (x : TriedBelow). Goes (errs errno) t (done_of_below x) HandlesStay t) (sym is) (refuses-goes errno t)),
)

pub nothing-moving : (next : Seen → Walk NodeVerdict) (sight : Option Sight) (old new : TreeIs) (shown : Option LookAnswer) (what : What) (errno : ℕ) (name : List ℕ) (own : Option Own) (tried : TriedBelow) (ended : Ended) → IsSeenAs sight old shown what new → what ≡ What.Nothing errno →
    tried ≡ record { first = None; then = record { look = shown; ended = ended } } → ended ≡ refuses errno → IsMoved (with_seen sight next) name own old (Moving.Refused tried) new
nothing-moving next sight old new shown what errno name own tried ended h n t e =
    let is : tried ≡ record { first = None; then = record { look = shown; ended = refuses errno } } = t ∙ ap (λ (x : Ended). record { first = None; then = record { look = shown; ended = x } }) e in
    let refused : IsSeenAs sight old shown (What.Nothing errno) new = subst (λ (x : What). IsSeenAs sight old shown x new) n h in (
      errno,
      ap (λ (x : TriedBelow). x.then.ended) is,
      subst (λ (x : TriedBelow). Goes (with_seen sight next) old (done_of_below x) HandlesStay new) (sym is) (refused next),
    )

-- one walk for another that is the same
pub moved-along : (v w : Walk NodeVerdict) (name : List ℕ) (own : Option Own) (old new : TreeIs) (moving : Moving) → v ≡ w → IsMoved w name own old moving new → IsMoved v name own old moving new
moved-along v w name own old new moving e h = subst (λ (x : Walk NodeVerdict). IsMoved x name own old moving new) (sym e) h

-- ---- the checks ahead

some-flags : (n : ℕ) → (n ≡ 0 → ⊥) → not (n == 0) ≡ true
some-flags n h = let test : (n == 0) ≡ false = grind (arith, nat_tests) in ap not test

no-flags : (n : ℕ) → n ≡ 0 → not (n == 0) ≡ false
no-flags n h = ap (λ (m : ℕ). not (m == 0)) h

first-long : (a b : Bool) → a ≡ true → (a || b) ≡ true
first-long a b h = ap (λ (x : Bool). x || b) h

second-long : (a b : Bool) → a ≡ false → b ≡ true → (a || b) ≡ true
second-long a b f h = ap (λ (x : Bool). x || b) f ∙ h

none-long : (a b : Bool) → a ≡ false → b ≡ false → (a || b) ≡ false
none-long a b f h = ap (λ (x : Bool). x || b) f ∙ h

module _ (call : RenameCall) (temps : List OwnTemp) (sight new_sight : Option Sight) where
  abbrev measured : Walk NodeVerdict
  measured = errs_if (are_too_long call) enametoolong (rename_seen call temps sight new_sight)

  pub flags-refused : (call.flags ≡ 0 → ⊥) → rename call temps sight new_sight ≡ errs einval
  flags-refused h = if-wrong (not (call.flags == 0)) (not (call.flags == 0)) einval measured refl (some-flags call.flags h)

  module _ (flags : call.flags ≡ 0) where
    behind-flags : rename call temps sight new_sight ≡ measured
    behind-flags = if-right (not (call.flags == 0)) (not (call.flags == 0)) einval measured refl (no-flags call.flags flags)

    pub old-too-long : (r : Bool) → r ≡ is_too_long call.old_name → r ≡ true → rename call temps sight new_sight ≡ errs enametoolong
    old-too-long r e h = behind-flags ∙ if-wrong (are_too_long call) (are_too_long call) enametoolong (rename_seen call temps sight new_sight) refl (first-long (is_too_long call.old_name) (is_too_long call.new_name) (sym e ∙ h))

    pub new-too-long : (r q : Bool) → r ≡ is_too_long call.old_name → r ≡ false → q ≡ is_too_long call.new_name → q ≡ true → rename call temps sight new_sight ≡ errs enametoolong
    new-too-long r q e f d h = behind-flags ∙ if-wrong (are_too_long call) (are_too_long call) enametoolong (rename_seen call temps sight new_sight) refl (second-long (is_too_long call.old_name) (is_too_long call.new_name) (sym e ∙ f) (sym d ∙ h))

    pub behind-checks : (r q : Bool) → r ≡ is_too_long call.old_name → r ≡ false → q ≡ is_too_long call.new_name → q ≡ false → rename call temps sight new_sight ≡ rename_seen call temps sight new_sight
    behind-checks r q e f d h = behind-flags ∙ if-right (are_too_long call) (are_too_long call) enametoolong (rename_seen call temps sight new_sight) refl (none-long (is_too_long call.old_name) (is_too_long call.new_name) (sym e ∙ f) (sym d ∙ h))

-- ---- the temporary

-- one that was found is in the folder
id-same : (a b : DocId) → (a.number == b.number) ≡ true → a ≡ b
id-same a b h =
    let same : a.number ≡ b.number = grind (arith, nat_tests) in
    λ i. record { number = same i }

view-same : (a b : ℕ) → (a == b) ≡ true → a ≡ b
view-same a b h = grind (arith, nat_tests)

both-of : (a b c : Bool) → ((a && b) && c) ≡ true → (a ≡ true) × (b ≡ true)
both-of true true c h = (refl, refl)
both-of true false c h = cc
both-of false b c h = cc

module _ (view : ℕ) (id : DocId) (name : List ℕ) where
  called-in : (t : OwnTemp) → is_called view id name t ≡ true → (t.temp.view ≡ view) × (t.temp.document ≡ id)
  called-in t h =
      let o = both-of (t.temp.view == view) (t.temp.document.number == id.number) (is_same t.temp.name name) h in
      (view-same t.temp.view view o.0, id-same t.temp.document id o.1)

  pub found-in-folder : (ts : List OwnTemp) (t : OwnTemp) → found_temp ts view id name ≡ Some t → (t.temp.view ≡ view) × (t.temp.document ≡ id)
  found-in-folder [] t e = cc
  found-in-folder (x ∷ ts) t e = by (is_called view id name x) refl e (found-in-folder ts t)
    where
      by : (b : Bool) → is_called view id name x ≡ b → cond b (Some x) (found_temp ts view id name) ≡ Some t → (found_temp ts view id name ≡ Some t → (t.temp.view ≡ view) × (t.temp.document ≡ id)) → (t.temp.view ≡ view) × (t.temp.document ≡ id)
      by true c f more = let same : x ≡ t = cc in subst (λ (y : OwnTemp). (y.temp.view ≡ view) × (y.temp.document ≡ id)) same (called-in x c)
      by false c f more = more f

-- ---- what is done

answer-below : (below : TriedBelow) → (done_of_below below).answer ≡ below.then.ended.answer
answer-below below = by below.first
  where
    by : (o : Option Look) → (done_behind_first o (done_of_tried below.then)).answer ≡ below.then.ended.answer
    by None = refl
    by (Some shown) = refl

pub errs-spare : (v : Option NodeVerdict) (errno : ℕ) → answer_of v ≡ Answer.Refused (Code.Errno errno) → so_of spares_temps v ≡ true
errs-spare None errno e = refl
errs-spare (Some (Errs n)) errno e = refl
errs-spare (Some (Yields d)) errno e = cc

pub refused-saves : (w : Walk NodeVerdict) (name : List ℕ) (own : Option Own) (seat : ℕ) (table : HandleTable) (temps : TempTable) (old new : TreeIs) (tried : TriedBelow) (moving : Moving) (done : NodeDone) → IsMoved w name own old moving new → moving ≡ Moving.Refused tried → done ≡ done_of_below tried →
    Saving w seat table temps old done table temps new
refused-saves w name own seat table temps old new tried moving done m k d =
    let h : IsMoved w name own old (Moving.Refused tried) new = subst (λ (x : Moving). IsMoved w name own old x new) k m in
    subst (λ (x : NodeDone). Saving w seat table temps old x table temps new) (sym d)
    (record {
      opening = record { change = HandlesStay; goes = h.2; handled = handles-stay seat table };
      saved = temps-same seat h.2.verdict temps (errs-spare h.2.verdict h.0 (sym h.2.answer ∙ (answer-below tried ∙ ap (λ (e : Ended). e.answer) h.1)));
    })

-- what was done with no look
pub done-at-once : (done : NodeDone) (below : TriedBelow) (tried : Tried) (ended : Ended) → done ≡ done_of_below below → below ≡ record { first = None; then = tried } → tried ≡ record { look = None; ended = ended } → done ≡ done_of_ended ended
done-at-once done below tried ended d b t = d ∙ (ap done_of_below b ∙ ap done_of_tried t)

module _ (seat : ℕ) (table : HandleTable) (before temps : TempTable) where
  -- the temporaries change, and nothing else
  changes-goes : (change : TempChange) (t : TreeIs) → Goes (Answers (changes_temps change NodeAnswer.Empty)) t (done_of_ended (says NodeAnswer.Empty)) HandlesStay t
  changes-goes change t = record {
    gives = (refl, refl);
    lists = refl;
    clock = refl;
    generation = refl;
    keeper = λ e. cc;
    verdict = Some (changes_temps change NodeAnswer.Empty);
    comes = refl;
    answer = refl;
    handles = refl;
    files = same-told t.told;
    calls = record { goes = refl; fails = tt };
  }

  pub changes-save : (change : TempChange) (t : TreeIs) (done : NodeDone) (ended : Ended) → done ≡ done_of_ended ended → ended ≡ says NodeAnswer.Empty → SeatTemped seat (Temps change) before temps → temps.taken ≡ before.taken → Saving (Answers (changes_temps change NodeAnswer.Empty)) seat table before t done table temps t
  changes-save change t done ended d e m k =
      subst (λ (x : NodeDone). Saving (Answers (changes_temps change NodeAnswer.Empty)) seat table before t x table temps t) (sym (d ∙ ap done_of_ended e))
      (saving-by (Answers (changes_temps change NodeAnswer.Empty)) seat table before t (done_of_ended (says NodeAnswer.Empty)) table temps t (record { change = HandlesStay; goes = changes-goes change t; handled = handles-stay seat table })
      (record { temps = m; taken = k }))

  pub named-saves : (w : Walk NodeVerdict) (name : List ℕ) (own : Option Own) (named : NamedTemp) (old new : TreeIs) (moving : Moving) (done : NodeDone) (ended : Ended) → IsMoved w name own old moving new → moving ≡ Moving.Named named → done ≡ done_of_ended ended → ended ≡ says NodeAnswer.Empty →
      ((temp : Temp) → temp.view ≡ named.view → temp.document ≡ named.document → SeatTemped seat (Temps (Renames named.k temp name)) before temps) → temps.taken ≡ before.taken → Saving w seat table before old done table temps new
  named-saves w name own named old new moving done ended m is d e temped taken =
      let h : IsMoved w name own old (Moving.Named named) new = subst (λ (x : Moving). IsMoved w name own old x new) is m in
      saving-along w (name_walk named.k h.0 name) seat table before old done table temps new h.2
      (subst (λ (t : TreeIs). Saving (name_walk named.k h.0 name) seat table before t done table temps new) h.5
      (changes-save (Renames named.k h.0 name) new done ended d e (temped h.0 h.3 h.4) taken))

  pub dropped-saves : (w : Walk NodeVerdict) (k : ℕ) (old new : TreeIs) (done : NodeDone) (ended : Ended) → w ≡ drop_walk k → new ≡ old → done ≡ done_of_ended ended → ended ≡ says NodeAnswer.Empty → SeatTemped seat (Temps (Drops k)) before temps → temps.taken ≡ before.taken → Saving w seat table before old done table temps new
  dropped-saves w k old new done ended e m d s temped taken =
      saving-along w (drop_walk k) seat table before old done table temps new e
      (subst (λ (t : TreeIs). Saving (drop_walk k) seat table before t done table temps new) m (changes-save (Drops k) new done ended d s temped taken))

  pub saved-saves : (w : Walk NodeVerdict) (name : List ℕ) (own : Option Own) (k : ℕ) (old mid new : TreeIs) (moving : Moving) (done : NodeDone) (ended : Ended) → IsMoved w name own old moving mid → moving ≡ Moving.Saved k → done ≡ done_of_ended ended →
      ((temp : Temp) → temp_of own k ≡ Some temp → Saving (save_walk k temp) seat table before mid (done_of_ended ended) table temps new) → Saving w seat table before old done table temps new
  saved-saves w name own k old mid new moving done ended m is d saves =
      let h : IsMoved w name own old (Moving.Saved k) mid = subst (λ (x : Moving). IsMoved w name own old x mid) is m in
      saving-along w (save_walk k h.0) seat table before old done table temps new h.2
      (subst (λ (x : NodeDone). Saving (save_walk k h.0) seat table before old x table temps new) (sym d)
      (subst (λ (t : TreeIs). Saving (save_walk k h.0) seat table before t (done_of_ended ended) table temps new) h.3 (saves h.0 h.1)))

-- ---- its file becomes the present one

module _ (k : ℕ) (temp : Temp) (seat : ℕ) (table : HandleTable) (before : TempTable) (old new : TreeIs) where
  abbrev saves : ℕ → NodeVerdict
  saves now = saved (own_temp k temp)

  abbrev standing : NodeDoing
  standing = record { answer = NodeAnswer.Empty; file = Stands temp.file; handle = HandlesStay; names = Temps (Drops k) }

  suits : Suits (Turns temp.file) None None
  suits = record { clock = refl; makes = refl }

  turned-as : (c d : Came) → c ≡ d → Turned temp.file old c new → Turned temp.file old d new
  turned-as c d e t = subst (λ (x : Came). Turned temp.file old x new) e t

  pub turned-done : (c : Came) (ended : Ended) (temps : TempTable) → c ≡ came.Done → ended ≡ ended_of (turned_so came.Done) NodeAnswer.Empty → Turned temp.file old c new → SeatTemped seat (Temps (Drops k)) before temps → temps.taken ≡ before.taken → Saving (save_walk k temp) seat table before old (done_of_ended ended) table temps new
  turned-done c ended temps i e t m same =
      subst (λ (x : Ended). Saving (save_walk k temp) seat table before old (done_of_ended x) table temps new) (sym e)
      (saving-by (save_walk k temp) seat table before old (done_of_ended (ended_of (turned_so came.Done) NodeAnswer.Empty)) table temps new
      (record { change = HandlesStay; goes = ends-so (Turns temp.file) saves standing None None old new suits refl (turned-as c came.Done i t); handled = handles-stay seat table })
      (record { temps = m; taken = same }))

  pub turned-missing : (c : Came) (ended : Ended) → c ≡ came.NotFile → ended ≡ ended_of (turned_so came.NotFile) NodeAnswer.Empty → Turned temp.file old c new → Saving (save_walk k temp) seat table before old (done_of_ended ended) table before new
  turned-missing c ended i e t =
      subst (λ (x : Ended). Saving (save_walk k temp) seat table before old (done_of_ended x) table before new) (sym e)
      (saving-by (save_walk k temp) seat table before old (done_of_ended (ended_of (turned_so came.NotFile) NodeAnswer.Empty)) table before new
      (record { change = HandlesStay; goes = misses-so (Turns temp.file) saves (files_after true (Stands temp.file)) NodeAnswer.Empty None None old new suits (turned-as c came.NotFile i t); handled = handles-stay seat table })
      (temps-same seat (Some (Errs enoent)) before refl))

  pub turned-failed : (c : Came) (ended : Ended) → c ≡ came.Failed → ended ≡ ended_of (turned_so came.Failed) NodeAnswer.Empty → Turned temp.file old c new → Saving (save_walk k temp) seat table before old (done_of_ended ended) table before new
  turned-failed c ended i e t =
      subst (λ (x : Ended). Saving (save_walk k temp) seat table before old (done_of_ended x) table before new) (sym e)
      (saving-by (save_walk k temp) seat table before old (done_of_ended (ended_of (turned_so came.Failed) NodeAnswer.Empty)) table before new
      (record { change = HandlesStay; goes = fails-so (Turns temp.file) saves (files_after true (Stands temp.file)) NodeAnswer.Empty None None old new suits (turned-as c came.Failed i t); handled = handles-stay seat table })
      (temps-same seat None before refl))

-- the clock isn't read
pub turned-unclocked : (c : Came) (ended : Ended) → ended ≡ ended_of (turned_so c) NodeAnswer.Empty → moment_of ended.call ≡ None
turned-unclocked c ended e = ap (λ (x : Ended). moment_of x.call) e

-- of the temporary that stands there
pub same-temp : (a b : Temp) (o p : Option Temp) → o ≡ Some a → o ≡ p → p ≡ Some b → a ≡ b
same-temp a b o p e f g = cc

pub turned-by : (name file : FileName) (old new : TreeIs) (d : TreeDone) (c : Came) → name ≡ file → d ≡ tree_done c → ChangesFiles TreeCall.Turn (λ held. may_turn held name) (turned name) old d new → Turned file old c new
turned-by name file old new d c n e h =
    subst (λ (x : FileName). Turned x old c new) n
    (subst (λ (x : TreeDone). ChangesFiles TreeCall.Turn (λ held. may_turn held name) (turned name) old x new) e h)

-- no call of it is wanted
pub uncalled-so : (moving : Moving) (tried : TriedBelow) → moving ≡ Moving.Refused tried → IsUncalled moving → tried.then.ended.call ≡ None
uncalled-so moving tried e h = subst IsUncalled e h

pub called-none : (most : ℕ) (old new : TreeIs) → new ≡ old → WasCalledUpTo most old new
called-none most old new e = ([], record { goes = e; fails = tt }, omega arith)

-- a refusal reaches none
pub refuses-uncalled : (tried : TriedBelow) (first : Option Look) (shown : Option LookAnswer) (errno : ℕ) → tried ≡ record { first = first; then = record { look = shown; ended = refuses errno } } → tried.then.ended.call ≡ None
refuses-uncalled tried first shown errno e = ap (λ (x : TriedBelow). x.then.ended.call) e

pub ended-uncalled : (ended : Ended) (errno : ℕ) → ended ≡ refuses errno → ended.call ≡ None
ended-uncalled ended errno e = ap (λ (x : Ended). x.call) e
