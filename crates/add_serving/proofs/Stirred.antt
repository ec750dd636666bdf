-- Whether the records change where a plan is followed.
use Rattle.std.proofs.Common.{◌≡◌, ℕ, ◌+◌, ◌≤◌, ◌<◌, ◌==◌, nat_eq, length, length-append, List, [], ◌∷◌, ◌++◌, drop, fold, map, Bool, true, false, not, ◌&&◌, ◌||◌, cond, Option, Some, None, inl, inr, refl, sym, ap, subst, ◌∙◌, arith, zero, suc}
use Rattle.std.specs.List.{count_by, list_all, list_any, slice_get, IsDistinct}
use Rattle.std.specs.Option.{option_or}
use Rattle.std.proofs.lemmas.List.Folds.{find-append, list_all-append}
use Rattle.std.proofs.lemmas.List.Sums.{sum_by-cons}
use Rattle.portal_base.specs.declared.names.doc_id.DocId.{DocId}
use Rattle.portal_base.specs.declared.who.Who.{Who}
use Rattle.rights_rule.specs.Rights.{RightSet, is_no_right, minus}
use Rattle.portal_model.specs.declared.records.DocRecord.{DocRecord}
use Rattle.portal_model.specs.declared.request.AddRequest.{AddRequest}
use Rattle.portal_model.specs.declared.rights.Right.{Right}
use Rattle.portal_model.specs.declared.rights.Right.TheVariants.{Read, Write, GrantPermissions, Delete}
use Rattle.portal_model.specs.declared.state.Document.{Document}
use Rattle.portal_model.specs.declared.state.Triple.{Triple}
use Rattle.portal_model.specs.Add.{first_number, new_document, with_new_document}
use Rattle.portal_model.specs.AddArguments.{persists}
use Rattle.portal_model.specs.Kept.{bits_of, document_record}
use Rattle.portal_model.specs.Opening.{set_of_bits}
use Rattle.portal_model.specs.Rights.{are_in_order}
use Rattle.portal_model.specs.State.{State, app_has, document_of, held_of}
use Rattle.document_records.specs.Documents.{is_kept, is_persistent}
use Rattle.document_records.proofs.HeldInDocument.{records_in}
use Rattle.document_records.proofs.KeptDocuments.{IsApart, change-stays, grants-set, kept_records, not-kept, numbers}
use Rattle.add_files.specs.Plans.{Followed, NameNewOnes, document_at, follow_item, id_or_zero, is_new, item_given, listed_given, made_for, own_given, placed, used_for}
use Rattle.add_files.specs.declared.plan.AddPlan.{AddPlan}
use Rattle.add_files.specs.declared.plan.PlanItem.{PlanItem}
use Rattle.add_files.specs.declared.plan.PlanUse.{PlanUse}
use Rattle.add_files.specs.declared.plan.PlanUse.TheVariants.{LeftOut, Live, Earlier, New}
use Rattle.document_calls.proofs.AddedRights.{added-stays}
use Rattle.document_calls.proofs.KeptRights.{bits-kept, bits_in, set-again}
use Rattle.add_serving.specs.Changes.{caller_lacks, item_changes, named_lacks, place_changes}
use Rattle.add_serving.proofs.Given.{Differs, Gave, and-rest, item-gave, joined, lacks-stays, not-false, or-first, or-rest, own-gave, right-nil}
use Rattle.add_serving.proofs.Regranted.{kept-append, persistent_ones}

-- ---- they do

bits-again : (rights : List Triple) (app : List ℕ) (number : ℕ) → set_of_bits (bits_of (held_of rights app number)) ≡ held_of rights app number
bits-again rights app number = set-again (app_has rights app number Read) (app_has rights app number Write) (app_has rights app number GrantPermissions) (app_has rights app number Delete)

kept-ahead : (documents news : List Document) (number : ℕ) → is_kept documents number ≡ true → is_kept (documents ++ news) number ≡ true
kept-ahead documents news number h =
    ap is_persistent (find-append (λ (d : Document). d.id.number == number) documents news) ∙ step (document_of documents number) h
  where
    step : (o : Option Document) → is_persistent o ≡ true → is_persistent (option_or o (document_of news number)) ≡ true
    step None h = cc
    step (Some d) h = h

more-records : (rights : List Triple) (news : List Document) → list_any (λ d. d.persistent) news ≡ true → 0 < length (kept_records rights news)
more-records rights [] h = cc
more-records rights (d ∷ news) h = step d.persistent h (more-records rights news)
  where
    step : (b : Bool) → (b || list_any (λ (e : Document). e.persistent) news) ≡ true → (list_any (λ (e : Document). e.persistent) news ≡ true → 0 < length (kept_records rights news)) →
        0 < length (map (document_record rights) (cond b (d ∷ persistent_ones news) (persistent_ones news)))
    step true h more = omega arith
    step false h more = more h

length-map-any : {X Y : Type 0} (f : X → Y) (xs : List X) → length (map f xs) ≡ length xs
length-map-any f [] = refl
length-map-any f (x ∷ xs) = ap suc (length-map-any f xs)

pub differs-so : (documents news : List Document) (rights then : List Triple) (who : Who) (a : AddRequest) (plan : AddPlan) → Differs documents rights who a plan news then →
    kept_records then (documents ++ news) ≡ kept_records rights documents → ⊥
differs-so documents news rights then who a plan d e = elim d [
  | inl some ↦
      let more : 0 < length (kept_records then news) = more-records then news some in
      let sum : length (kept_records then documents ++ kept_records then news) ≡ length (kept_records then documents) + length (kept_records then news) = length-append (kept_records then documents) (kept_records then news) in
      let all : length (kept_records then documents ++ kept_records then news) ≡ length (kept_records rights documents) = ap (λ (rs : List DocRecord). length rs) (sym (kept-append then documents news) ∙ e) in
      let one : length (kept_records then documents) ≡ length (persistent_ones documents) = length-map-any (document_record then) (persistent_ones documents) in
      let two : length (kept_records rights documents) ≡ length (persistent_ones documents) = length-map-any (document_record rights) (persistent_ones documents) in
      omega arith
  | inr l ↦
      let bits : bits_of (held_of then l.app l.id.number) ≡ bits_of (held_of rights l.app l.id.number) =
      sym (bits-kept l.id.number l.app then (documents ++ news) (kept-ahead documents news l.id.number l.kept))
      ∙ (ap (bits_in l.id.number l.app) e ∙ bits-kept l.id.number l.app rights documents l.kept) in
      let held : held_of then l.app l.id.number ≡ held_of rights l.app l.id.number = sym (bits-again then l.app l.id.number) ∙ (ap set_of_bits bits ∙ bits-again rights l.app l.id.number) in
      let no : true ≡ false = sym l.before ∙ (ap (λ (x : RightSet). not (is_no_right (minus l.set x))) (sym held) ∙ l.after) in
      cc
]

-- ---- they don't

-- the document of each new file has a number that no kept one has
abbrev pub AllUnkept : List Document → List PlanUse → List (Option DocId) → Type 0
AllUnkept documents [] [] = Unit {0}
AllUnkept documents [] (o ∷ os) = ⊥
AllUnkept documents (p ∷ ps) [] = ⊥
AllUnkept documents (p ∷ ps) (o ∷ os) = (p ≡ New → is_kept documents (id_or_zero o).number ≡ false) × AllUnkept documents ps os

unkept-more : (documents : List Document) (ps : List PlanUse) (os : List (Option DocId)) (p : PlanUse) (o : Option DocId) → AllUnkept documents ps os → (p ≡ New → is_kept documents (id_or_zero o).number ≡ false) →
    AllUnkept documents (ps ++ p ∷ []) (os ++ o ∷ [])
unkept-more documents [] [] p o h k = (k, tt)
unkept-more documents [] (x ∷ os) p o h k = absurd h
unkept-more documents (q ∷ ps) [] p o h k = absurd h
unkept-more documents (q ∷ ps) (x ∷ os) p o h k = (h.0, unkept-more documents ps os p o h.1 k)

unkept-at : (documents : List Document) (ps : List PlanUse) (os : List (Option DocId)) (k : ℕ) → AllUnkept documents ps os → slice_get ps k ≡ Some New → is_kept documents (document_at os k).number ≡ false
unkept-at documents [] os k h e = cc
unkept-at documents (p ∷ ps) [] k h e = absurd h
unkept-at documents (p ∷ ps) (o ∷ os) zero h e = let new : p ≡ New = cc in h.0 new
unkept-at documents (p ∷ ps) (o ∷ os) (suc k) h e = unkept-at documents ps os k h.1 e

at-seam : (ahead rest : List PlanUse) (p : PlanUse) → slice_get (ahead ++ p ∷ rest) (length ahead) ≡ Some p
at-seam [] rest p = refl
at-seam (x ∷ ahead) rest p = at-seam ahead rest p

ahead-of : (ahead rest : List PlanUse) (k : ℕ) (p : PlanUse) → k < length ahead → slice_get (ahead ++ rest) k ≡ Some p → slice_get ahead k ≡ Some p
ahead-of [] rest k p h e = let no : ⊥ = omega arith in absurd no
ahead-of (x ∷ ahead) rest zero p h e = e
ahead-of (x ∷ ahead) rest (suc k) p h e = ahead-of ahead rest k p (omega arith) e

abbrev pub new_left : List PlanItem → ℕ
new_left items = count_by (λ item. is_new item.place) items

left-more : (item : PlanItem) (items : List PlanItem) → new_left (item ∷ items) ≡ cond (is_new item.place) 1 0 + new_left items
left-more item items = sum_by-cons (λ (i : PlanItem). cond (is_new i.place) 1 0) item items

abbrev pub is_unkept : List Document → DocId → Bool
is_unkept documents id = not (is_kept documents id.number)

module _ (documents : List Document) (distinct : IsDistinct nat_eq (numbers documents)) where
  -- a document that isn't in the records: they stay, whatever is done to its rights
  unkept-stays : (number : ℕ) (old new : List Triple) → IsApart number old new → is_kept documents number ≡ false → kept_records new documents ≡ kept_records old documents
  unkept-stays number old new apart k =
      sym (grants-set number old new apart documents distinct)
      ∙ change-stays number (λ (r : DocRecord). record r { grants = records_in new number }) (kept_records old documents) (not-kept number old documents distinct k)

own-still : (who : Who) (own : RightSet) (id : DocId) (s : State) → are_in_order s.rights ≡ true → caller_lacks s.rights who id own ≡ false → (own_given who own id s).rights ≡ s.rights
own-still Who.Host own id s o h = refl
own-still (Who.App app) own id s o h = added-stays app id own s.rights o (not-false (is_no_right (minus own (held_of s.rights app id.number))) h)

listed-still : (app : Option (List ℕ)) (listed : RightSet) (id : DocId) (s : State) → are_in_order s.rights ≡ true → named_lacks s.rights app id listed ≡ false → (listed_given app listed id s).rights ≡ s.rights
listed-still None listed id s o h = refl
listed-still (Some app) listed id s o h = added-stays app id listed s.rights o (not-false (is_no_right (minus listed (held_of s.rights app id.number))) h)

caller-still : (rights later : List Triple) (who : Who) (own : RightSet) (id : DocId) → ((app : List ℕ) (m : ℕ) (right : Right) → app_has rights app m right ≡ true → app_has later app m right ≡ true) →
    caller_lacks rights who id own ≡ false → caller_lacks later who id own ≡ false
caller-still rights later Who.Host own id grows h = refl
caller-still rights later (Who.App app) own id grows h = lacks-stays rights later app id own (λ right. grows app id.number right) h

named-still : (rights later : List Triple) (app : Option (List ℕ)) (listed : RightSet) (id : DocId) → ((app : List ℕ) (m : ℕ) (right : Right) → app_has rights app m right ≡ true → app_has later app m right ≡ true) →
    named_lacks rights app id listed ≡ false → named_lacks later app id listed ≡ false
named-still rights later None listed id grows h = refl
named-still rights later (Some app) listed id grows h = lacks-stays rights later app id listed (λ right. grows app id.number right) h

module _ (documents : List Document) (rights : List Triple) (who : Who) (a : AddRequest) (plan : AddPlan) (distinct : IsDistinct nat_eq (numbers documents)) where
  -- so far the records are as before
  pub record Idle (ahead : List PlanUse) (f : Followed) : Type 0 where
    pub news : List Document
    pub live : f.state.documents ≡ documents ++ news
    pub passing : list_all (λ d. not d.persistent) news ≡ true
    pub order : are_in_order f.state.rights ≡ true
    pub grows : (app : List ℕ) (m : ℕ) (right : Right) → app_has rights app m right ≡ true → app_has f.state.rights app m right ≡ true
    pub kept : kept_records f.state.rights documents ≡ kept_records rights documents
    pub new_ones : AllUnkept documents ahead f.documents

  -- no right is new
  still-kept : (own : RightSet) (id : DocId) (s : State) → are_in_order s.rights ≡ true → ((app : List ℕ) (m : ℕ) (right : Right) → app_has rights app m right ≡ true → app_has s.rights app m right ≡ true) →
      (caller_lacks rights who id own || named_lacks rights plan.app id plan.listed) ≡ false → (item_given who plan.app plan.listed own id s).rights ≡ s.rights
  still-kept own id s o grows h =
      let own_same : (own_given who own id s).rights ≡ s.rights = own-still who own id s o (caller-still rights s.rights who own id grows (or-first (caller_lacks rights who id own) (named_lacks rights plan.app id plan.listed) h)) in
      let named : named_lacks s.rights plan.app id plan.listed ≡ false = named-still rights s.rights plan.app plan.listed id grows (or-rest (caller_lacks rights who id own) (named_lacks rights plan.app id plan.listed) h) in
      let then : named_lacks (own_given who own id s).rights plan.app id plan.listed ≡ false = ap (λ (ts : List Triple). named_lacks ts plan.app id plan.listed) own_same ∙ named in
      let gave : Gave id s (own_given who own id s) = own-gave who own id s o in
      listed-still plan.app plan.listed id (own_given who own id s) gave.order then ∙ own_same

  -- a document that is used, and isn't kept or has no new right
  idle-used : (ahead : List PlanUse) (item : PlanItem) (f : Followed) (id : DocId) (place : PlanUse) → Idle ahead f → (place ≡ New → is_kept documents id.number ≡ false) →
      kept_records (item_given who plan.app plan.listed item.own id f.state).rights documents ≡ kept_records f.state.rights documents → Idle (ahead ++ place ∷ []) (used_for who plan.app plan.listed item f id)
  idle-used ahead item f id place k new e =
      let g = item-gave who plan.app plan.listed item.own id f.state k.order in
      record {
        news = k.news;
        live = g.live ∙ k.live;
        passing = k.passing;
        order = g.order;
        grows = λ app m right h. g.grows app m right (k.grows app m right h);
        kept = e ∙ k.kept;
        new_ones = unkept-more documents ahead f.documents place (Some id) k.new_ones new;
      }

  idle-made : (ahead : List PlanUse) (item : PlanItem) (f : Followed) → Idle ahead f → persists a ≡ false → is_kept documents (first_number f.numbers).number ≡ false →
      Idle (ahead ++ New ∷ []) (made_for who a plan.app plan.listed item f)
  idle-made ahead item f k p new =
      let id = first_number f.numbers in
      let d : Document = new_document a id item.path in
      let s : State = with_new_document d f.state in
      let g = item-gave who plan.app plan.listed item.own id s k.order in
      record {
        news = k.news ++ d ∷ [];
        live = g.live ∙ (ap (λ (ds : List Document). ds ++ d ∷ []) k.live ∙ joined documents k.news (d ∷ []));
        passing =
            list_all-append (λ (e : Document). not e.persistent) k.news (d ∷ [])
            ∙ (λ i. k.passing i && (not (p i) && true));
        order = g.order;
        grows = λ app m right h. g.grows app m right (k.grows app m right h);
        kept = unkept-stays documents distinct id.number f.state.rights (item_given who plan.app plan.listed item.own id s).rights g.apart new ∙ k.kept;
        new_ones = unkept-more documents ahead f.documents New (Some id) k.new_ones (λ _. new);
      }

  idle-live : (ahead : List PlanUse) (item : PlanItem) (f : Followed) (id : DocId) (b : Bool) → is_kept documents id.number ≡ b → Idle ahead f →
      (b && (caller_lacks rights who id item.own || named_lacks rights plan.app id plan.listed)) ≡ false → Idle (ahead ++ Live id ∷ []) (used_for who plan.app plan.listed item f id)
  idle-live ahead item f id true e k h =
      idle-used ahead item f id (Live id) k (λ c. cc) (ap (λ (ts : List Triple). kept_records ts documents) (still-kept item.own id f.state k.order k.grows h))
  idle-live ahead item f id false e k h =
      let g = item-gave who plan.app plan.listed item.own id f.state k.order in
      idle-used ahead item f id (Live id) k (λ c. cc) (unkept-stays documents distinct id.number f.state.rights (item_given who plan.app plan.listed item.own id f.state).rights g.apart e)

  -- the numbers that are left are enough, and none is of a kept document
  pub record AreLeft (numbers : List DocId) (count : ℕ) : Type 0 where
    pub enough : count ≤ length numbers
    pub unkept : list_all (is_unkept documents) numbers ≡ true

  first-unkept : (numbers : List DocId) (count : ℕ) → AreLeft numbers (1 + count) → is_kept documents (first_number numbers).number ≡ false
  first-unkept [] count l = let n = l.enough in let no : ⊥ = omega arith in absurd no
  first-unkept (n ∷ ns) count l = step (is_kept documents n.number) l.unkept
    where
      step : (b : Bool) → (not b && list_all (is_unkept documents) ns) ≡ true → b ≡ false
      step true e = cc
      step false e = refl

  rest-left : (numbers : List DocId) (count : ℕ) → AreLeft numbers (1 + count) → AreLeft (drop 1 numbers) count
  rest-left [] count l = let n = l.enough in let no : ⊥ = omega arith in absurd no
  rest-left (n ∷ ns) count l = record {
    enough = let n = l.enough in omega arith;
    unkept = and-rest (is_unkept documents n) (list_all (is_unkept documents) ns) l.unkept;
  }

  same-left : (numbers : List DocId) (count : ℕ) → AreLeft numbers (0 + count) → AreLeft numbers count
  same-left numbers count l = record { enough = let n = l.enough in omega arith; unkept = l.unkept }

  -- what is left behind one file
  idle-placed : (ahead rest : List PlanUse) (item : PlanItem) (f : Followed) (count : ℕ) (place : PlanUse) → Idle ahead f → place_changes documents rights who a plan item.own place ≡ false →
      NameNewOnes (ahead ++ place ∷ rest) → AreLeft f.numbers (cond (is_new place) 1 0 + count) →
      Idle (ahead ++ place ∷ []) (placed who a plan.app plan.listed item f place) × AreLeft (placed who a plan.app plan.listed item f place).numbers count
  idle-placed ahead rest item f count LeftOut k h n l = (
    record {
      news = k.news;
      live = k.live;
      passing = k.passing;
      order = k.order;
      grows = k.grows;
      kept = k.kept;
      new_ones = unkept-more documents ahead f.documents LeftOut None k.new_ones (λ c. cc);
    },
    same-left f.numbers count l,
  )
  idle-placed ahead rest item f count (Live id) k h n l = (idle-live ahead item f id (is_kept documents id.number) refl k h, same-left f.numbers count l)
  idle-placed ahead rest item f count (Earlier e) k h n l =
      let told = n (length ahead) e (at-seam ahead rest (Earlier e)) in
      let new : slice_get ahead e ≡ Some New = ahead-of ahead (Earlier e ∷ rest) e New told.0 told.1 in
      let id = document_at f.documents e in
      let unkept : is_kept documents id.number ≡ false = unkept-at documents ahead f.documents e k.new_ones new in
      let g = item-gave who plan.app plan.listed item.own id f.state k.order in (
        idle-used ahead item f id (Earlier e) k (λ c. cc) (unkept-stays documents distinct id.number f.state.rights (item_given who plan.app plan.listed item.own id f.state).rights g.apart unkept),
        same-left f.numbers count l,
      )
  idle-placed ahead rest item f count New k h n l = (idle-made ahead item f k h (first-unkept f.numbers count l), rest-left f.numbers count l)

  pub idle-all : (items : List PlanItem) (ahead : List PlanUse) (f : Followed) → Idle ahead f → list_any (item_changes documents rights who a plan) items ≡ false →
      NameNewOnes (ahead ++ map (λ item. item.place) items) → AreLeft f.numbers (new_left items) →
      kept_records (fold (follow_item who a plan.app plan.listed) f items).state.rights (fold (follow_item who a plan.app plan.listed) f items).state.documents ≡ kept_records rights documents
  idle-all [] ahead f k h n l =
      ap (kept_records f.state.rights) k.live
      ∙ (kept-append f.state.rights documents k.news
      ∙ (ap (λ (rs : List DocRecord). kept_records f.state.rights documents ++ rs) (none-kept k.news k.passing)
      ∙ (right-nil (kept_records f.state.rights documents) ∙ k.kept)))
    where
      none-kept : (ds : List Document) → list_all (λ d. not d.persistent) ds ≡ true → kept_records f.state.rights ds ≡ []
      none-kept [] h = refl
      none-kept (d ∷ ds) h = step d.persistent h (none-kept ds)
        where
          step : (b : Bool) → (not b && list_all (λ (e : Document). not e.persistent) ds) ≡ true → (list_all (λ (e : Document). not e.persistent) ds ≡ true → kept_records f.state.rights ds ≡ []) →
              map (document_record f.state.rights) (cond b (d ∷ persistent_ones ds) (persistent_ones ds)) ≡ []
          step true h more = cc
          step false h more = more h
  idle-all (item ∷ items) ahead f k h n l =
      let places = map (λ (i : PlanItem). i.place) items in
      let g : Followed = follow_item who a plan.app plan.listed f item in
      let left : AreLeft f.numbers (cond (is_new item.place) 1 0 + new_left items) = subst (AreLeft f.numbers) (left-more item items) l in
      let step = idle-placed ahead places item f (new_left items) item.place k (or-first (place_changes documents rights who a plan item.own item.place) (list_any (item_changes documents rights who a plan) items) h) n left in
      idle-all items (ahead ++ item.place ∷ []) g step.0 (or-rest (place_changes documents rights who a plan item.own item.place) (list_any (item_changes documents rights who a plan) items) h)
      (subst NameNewOnes (sym (joined ahead (item.place ∷ []) places)) n) step.1
