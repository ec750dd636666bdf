-- Files that are placed, kept or taken back.
use Rattle.std.proofs.Common.{◌≡◌, ℕ, ◌+◌, ◌<◌, ◌≤◌, List, [], ◌∷◌, ◌++◌, drop, length, length-append, map, remove, Bool, true, false, cond, Option, Some, None, refl, sym, ap, subst, ◌∙◌, arith, zero, suc}
use Rattle.portal_base.specs.declared.names.doc_id.DocId.{DocId}
use Rattle.portal_base.specs.declared.who.Who.{Who}
use Rattle.portal_model.specs.declared.request.AddRequest.{AddRequest}
use Rattle.portal_model.specs.declared.records.RecordChange.{RecordChange}
use Rattle.portal_model.specs.declared.state.Document.{Document}
use Rattle.portal_model.specs.Add.{new_document}
use Rattle.record_keeper.specs.Keepers.{KeeperIs}
use Rattle.document_records.specs.Documents.{DocumentList}
use Rattle.add_files.specs.Plans.{id_told}
use Rattle.add_files.specs.declared.plan.AddPlan.{AddPlan}
use Rattle.add_files.specs.declared.plan.PlanItem.{PlanItem}
use Rattle.add_files.specs.declared.plan.PlanUse.{PlanUse}
use Rattle.add_files.specs.declared.plan.PlanUse.TheVariants.{LeftOut, Live, Earlier, New}
use Rattle.add_calls.specs.declared.place.Use.{Use}
use Rattle.add_calls.specs.declared.place.Drawn.{Drawn}
use Rattle.add_calls.specs.Placing.{Book, Follows, IsMade, UsedAll, WasUsed}
use Rattle.add_serving.specs.Adds.{PlacedKept}
use Rattle.add_serving.specs.Changes.{AppliedWhere, changes_of, plan_changes}
use Rattle.add_serving.specs.declared.outcomes.AddedFiles.{AddedFiles}
use Rattle.document_calls.specs.Changes.{SameLimits}

-- ---- limits

made-limits : (a : AddRequest) (path : List ℕ) (place : PlanUse) (id : DocId) (before after : DocumentList) → IsMade a path place id before after → SameLimits before after
made-limits a path LeftOut id before after m = (ap (λ (d : DocumentList). d.most_live) m, ap (λ (d : DocumentList). d.most_made) m)
made-limits a path (Live live) id before after m = (ap (λ (d : DocumentList). d.most_live) m, ap (λ (d : DocumentList). d.most_made) m)
made-limits a path (Earlier k) id before after m = (ap (λ (d : DocumentList). d.most_live) m, ap (λ (d : DocumentList). d.most_made) m)
made-limits a path New id before after m = (ap (λ (d : DocumentList). d.most_live) m, ap (λ (d : DocumentList). d.most_made) m)

used-limits : (who : Who) (a : AddRequest) (plan : AddPlan) (item : PlanItem) (used : Option Use) (before after : Book) → WasUsed who a plan item used before after → SameLimits before.documents after.documents
used-limits who a plan item None before after w = (ap (λ (b : Book). b.documents.most_live) w, ap (λ (b : Book). b.documents.most_made) w)
used-limits who a plan item (Some used) before after w = made-limits a item.path item.place used.id before.documents after.documents w.made

pub all-limits : (who : Who) (a : AddRequest) (plan : AddPlan) (items : List PlanItem) (uses : List (Option Use)) (before after : Book) → UsedAll who a plan items uses before after → SameLimits before.documents after.documents
all-limits who a plan [] uses before after u = (ap (λ (b : Book). b.documents.most_live) u, ap (λ (b : Book). b.documents.most_made) u)
all-limits who a plan (item ∷ items) [] before after u = absurd u
all-limits who a plan (item ∷ items) (used ∷ uses) before after u =
    let one = used-limits who a plan item used before u.0 u.1 in
    let rest = all-limits who a plan items uses u.0 after u.3 in
    (rest.0 ∙ one.0, rest.1 ∙ one.1)

-- ---- the queue

pub first-gone : (xs : List (List ℕ)) (i : ℕ) → i < length xs → remove (drop i xs) 0 ≡ drop (i + 1) xs
first-gone [] i h = let no : ⊥ = omega arith in absurd no
first-gone (x ∷ xs) zero h = refl
first-gone (x ∷ xs) (suc i) h =
    let one : suc i + 1 ≡ suc (i + 1) = omega arith in
    subst (λ (m : ℕ). remove (drop i xs) 0 ≡ drop m (x ∷ xs)) (sym one) (first-gone xs i (omega arith))

pub next-gone : (queue current new : List (List ℕ)) (i count : ℕ) → current ≡ drop i queue → new ≡ remove current 0 → i < count → count ≤ length queue → new ≡ drop (i + 1) queue
next-gone queue current new i count e r h k = r ∙ (ap (λ (l : List (List ℕ)). remove l 0) e ∙ first-gone queue i (omega arith))

-- ---- documents stand behind those that were there

one-longer : {X : Type 0} (xs : List X) (x : X) → length xs ≤ length (xs ++ x ∷ [])
one-longer xs x = let e : length (xs ++ x ∷ []) ≡ length xs + 1 = length-append xs (x ∷ []) in omega arith

no-shorter : {X : Type 0} (xs ys : List X) → ys ≡ xs → length xs ≤ length ys
no-shorter xs ys e = let n : length ys ≡ length xs = ap (λ (l : List _). length l) e in omega arith

made-longer : (a : AddRequest) (path : List ℕ) (place : PlanUse) (id : DocId) (before after : DocumentList) → IsMade a path place id before after → length before.live ≤ length after.live
made-longer a path LeftOut id before after m = no-shorter before.live after.live (ap (λ (d : DocumentList). d.live) m)
made-longer a path (Live live) id before after m = no-shorter before.live after.live (ap (λ (d : DocumentList). d.live) m)
made-longer a path (Earlier k) id before after m = no-shorter before.live after.live (ap (λ (d : DocumentList). d.live) m)
made-longer a path New id before after m =
    subst (λ (ds : List Document). length before.live ≤ length ds) (sym (ap (λ (d : DocumentList). d.live) m)) (one-longer before.live (new_document a id path))

used-longer : (who : Who) (a : AddRequest) (plan : AddPlan) (item : PlanItem) (used : Option Use) (before after : Book) → WasUsed who a plan item used before after → length before.documents.live ≤ length after.documents.live
used-longer who a plan item None before after w = no-shorter before.documents.live after.documents.live (ap (λ (b : Book). b.documents.live) w)
used-longer who a plan item (Some used) before after w = made-longer a item.path item.place used.id before.documents after.documents w.made

all-longer : (who : Who) (a : AddRequest) (plan : AddPlan) (items : List PlanItem) (uses : List (Option Use)) (before after : Book) → UsedAll who a plan items uses before after → length before.documents.live ≤ length after.documents.live
all-longer who a plan [] uses before after u = no-shorter before.documents.live after.documents.live (ap (λ (b : Book). b.documents.live) u)
all-longer who a plan (item ∷ items) [] before after u = absurd u
all-longer who a plan (item ∷ items) (used ∷ uses) before after u =
    let one = used-longer who a plan item used before u.0 u.1 in
    let rest = all-longer who a plan items uses u.0 after u.3 in
    omega arith

pub longer-seen : (who : Who) (a : AddRequest) (plan : AddPlan) (items : List PlanItem) (uses : List (Option Use)) (before after : Book) (old new : List Document) → UsedAll who a plan items uses before after → old ≡ before.documents.live → new ≡ after.documents.live → length old ≤ length new
longer-seen who a plan items uses before after old new u e k =
    subst (λ (ds : List Document). length ds ≤ length new) (sym e) (subst (λ (ds : List Document). length before.documents.live ≤ length ds) (sym k) (all-longer who a plan items uses before after u))

-- ---- placed and kept

pub all-back : (before between now after : Book) (failed : Bool) → after ≡ now → now ≡ before → failed ≡ true → after ≡ cond failed before between
all-back before between now after failed e b f = e ∙ (b ∙ ap (λ (x : Bool). cond x before between) (sym f))

pub all-there : (before between after : Book) (failed : Bool) → after ≡ between → failed ≡ false → after ≡ cond failed before between
all-there before between after failed e f = e ∙ ap (λ (x : Bool). cond x before between) (sym f)

pub placed-kept : (who : Who) (a : AddRequest) (plan : AddPlan) (before between after : Book) (told told_after : Option (List ℕ)) (old new : KeeperIs) (drawn : Drawn) (uses : List (Option Use)) (ids : List (List ℕ)) (failed asks : Bool)
    (kept live : List Document) (used : List (Option DocId)) (added : AddedFiles) → Follows who a plan before between told told_after drawn → UsedAll who a plan plan.items uses before between → asks ≡ plan_changes before.documents.live before.rights who a plan →
    kept ≡ before.documents.live → live ≡ between.documents.live → used ≡ drawn.documents → ids ≡ map id_told used → AppliedWhere asks (changes_of (length kept) live between.rights used) old failed new →
    added ≡ record { drawn = drawn; ids = ids; failed = failed } → after ≡ cond failed before between → PlacedKept who a plan before after told told_after old new added
placed-kept who a plan before between after told told_after old new drawn uses ids failed asks kept live used added follows u asked k l d i c e b =
    subst (PlacedKept who a plan before after told told_after old new) (sym e)
    (record {
      between = between;
      follows = follows;
      limits = all-limits who a plan plan.items uses before between u;
      ids = i ∙ ap (map id_told) d;
      called = subst (λ (x : Bool). AppliedWhere x (changes_of (length before.documents.live) between.documents.live between.rights drawn.documents) old failed new) asked
          (subst (λ (changes : List RecordChange). AppliedWhere asks changes old failed new) (λ j. changes_of (length (k j)) (l j) between.rights (d j)) c);
      stays = b;
    })
