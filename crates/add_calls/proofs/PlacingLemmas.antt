-- What one file makes of the lists, the words and what is told of them, and what files one after another do.
use Rattle.std.proofs.Common.{◌≡◌, ◌≢◌, ℕ, ◌+◌, ◌<◌, ◌≤◌, List, [], ◌∷◌, ◌++◌, drop, fold, length, length-append, get_or, Bool, true, false, cond, ◌||◌, Option, Some, None, refl, sym, ap, subst, ◌∙◌, arith, zero, suc, min, ◌-◌, is_some, nat_lt, slice_set, ◌⊎◌, inl, inr}
use Rattle.std.specs.List.{count_by, slice_get}
use Rattle.std.proofs.lemmas.Option.{get_or_from_slice_get, slice_get_within}
use Rattle.std.proofs.lemmas.List.{drop_more, length-set}
use Rattle.std.proofs.lemmas.Bool.Decides.{nat_tests}
use Rattle.portal_base.specs.Outside.{Draws}
use Rattle.portal_base.specs.declared.names.doc_id.DocId.{DocId}
use Rattle.portal_base.specs.declared.who.Who.{Who}
use Rattle.rights_rule.specs.Rights.{RightSet}
use Rattle.portal_model.specs.declared.request.AddRequest.{AddRequest}
use Rattle.portal_model.specs.declared.state.Document.{Document}
use Rattle.portal_model.specs.declared.state.Triple.{Triple}
use Rattle.portal_model.specs.Add.{new_document}
use Rattle.portal_model.specs.Outside.{AreDrawn}
use Rattle.portal_model.specs.State.{State}
use Rattle.document_records.specs.Documents.{DocumentList, room, with_document, without_last}
use Rattle.portal_model.specs.Applications.{numbered}
use Rattle.portal_model.specs.Valid.{applications_limit, is_numbered}
use Rattle.rights_rule.specs.Rights.{holds_any}
use Rattle.std.proofs.lemmas.List.Sums.{sum_by-cons}
use Rattle.portal_model.proofs.DrawnNumbers.{drawn-length}
use Rattle.add_files.specs.Plans.{IsOfCall, followed, is_new, Followed, document_at, follow_item, item_given, listed_given, own_given, placed, used_for}
use Rattle.add_files.specs.declared.plan.AddPlan.{AddPlan}
use Rattle.add_files.specs.declared.plan.PlanItem.{PlanItem}
use Rattle.add_files.specs.declared.plan.PlanUse.{PlanUse}
use Rattle.add_files.specs.declared.plan.PlanUse.TheVariants.{LeftOut, Live, Earlier, New}
use Rattle.add_calls.specs.declared.give.GivenBoth.{GivenBoth}
use Rattle.add_calls.specs.declared.give.Given.{Given}
use Rattle.add_calls.specs.declared.place.Drawn.{Drawn}
use Rattle.add_calls.specs.declared.place.Use.{Use}
use Rattle.add_calls.specs.Giving.{GaveBoth, GaveListed, GaveOwn, HasRoomForBoth, HasRoomForCaller, HasRoomForNamed, caller_with}
use Rattle.add_calls.specs.Placing.{Book, Drew, Finds, Follows, Found, HasDrawnUpTo, IsLastMade, IsLastUse, IsMade, Makes, Placed, PlacedItem, UsedAll, WasUsed, book_of, followed_at, none_drawn, with_lists, words_for, words_of}
use Rattle.add_calls.specs.Limits.{HasRoomForAll, OwnHolds, OwnsHold, both_numbered, caller_numbered, exceeds_planned, has_document, named_numbered, numbered_by, uses_documents}
use Rattle.add_calls.proofs.Counts.{numbered-length, numbered-once}
use Rattle.add_calls.proofs.Giving.{front-back}

-- ---- lists

right-nil : {X : Type 0} (l : List X) → l ++ [] ≡ l
right-nil [] = refl
right-nil (x ∷ xs) = ap (λ (l : List _). x ∷ l) (right-nil xs)

joined : {X : Type 0} (xs ys zs : List X) → (xs ++ ys) ++ zs ≡ xs ++ (ys ++ zs)
joined [] ys zs = refl
joined (x ∷ xs) ys zs = ap (λ (l : List _). x ∷ l) (joined xs ys zs)

pub dropped-some : (items : List PlanItem) (at : ℕ) (item : PlanItem) → slice_get items at ≡ Some item → drop at items ≡ item ∷ drop (at + 1) items
dropped-some items at item e =
    drop_more items at item (slice_get_within items at item e) ∙ ap (λ (i : PlanItem). i ∷ drop (at + 1) items) (get_or_from_slice_get items at item item e)

pub dropped-none : (items : List PlanItem) (at : ℕ) → slice_get items at ≡ None → drop at items ≡ []
dropped-none [] zero e = refl
dropped-none [] (suc at) e = refl
dropped-none (x ∷ xs) zero e = cc
dropped-none (x ∷ xs) (suc at) e = dropped-none xs at e

pub none-there : (documents : List (Option DocId)) (at : ℕ) → slice_get documents at ≡ None → document_at documents at ≡ record { number = 0 }
none-there [] zero e = refl
none-there [] (suc at) e = refl
none-there (x ∷ xs) zero e = cc
none-there (x ∷ xs) (suc at) e = none-there xs at e

-- ---- words

pub drew-joined : (old mid new : Option (List ℕ)) (words more : List ℕ) → Drew old words mid → Drew mid more new → Drew old (words ++ more) new
drew-joined old mid new [] more d e = subst (λ (told : Option (List ℕ)). Drew told more new) d e
drew-joined old mid new (w ∷ ws) more d e = (d.0, d.1, drew-joined d.0 mid new ws more d.2 e)

pub drew-one : (old new : Option (List ℕ)) (word : ℕ) → Draws old word new → HasDrawnUpTo 1 old new
drew-one old new word d =
    let few : length (word ∷ []) ≤ 1 = omega arith in
    (word ∷ [], (new, d, refl), few)

pub drew-none : (most : ℕ) (old new : Option (List ℕ)) → new ≡ old → HasDrawnUpTo most old new
drew-none most old new e =
    let few : 0 ≤ most = omega arith in
    ([], e, few)

pub drawn-joined : (made : List DocId) (words more : List ℕ) (numbers rest : List DocId) → AreDrawn made words numbers → AreDrawn (made ++ numbers) more rest → AreDrawn made (words ++ more) (numbers ++ rest)
drawn-joined made [] more [] rest d e = subst (λ (m : List DocId). AreDrawn m more rest) (right-nil made) e
drawn-joined made [] more (n ∷ ns) rest d e = absurd d
drawn-joined made (w ∷ ws) more [] rest d e = absurd d
drawn-joined made (w ∷ ws) more (n ∷ ns) rest d e =
    (d.0, d.1, d.2, drawn-joined (made ++ n ∷ []) ws more ns rest d.3 (subst (λ (m : List DocId). AreDrawn m more rest) (sym (joined made (n ∷ []) ns)) e))

-- ---- rights

module _ (who : Who) (plan : AddPlan) (own : RightSet) (id : DocId) (documents : DocumentList) (s : State) where
  own-lists : (one : Who) (given : Option Given) (r : List Triple) (a : List (List ℕ)) (r1 : List Triple) (a1 : List (List ℕ)) → GaveOwn one id own given r a r1 a1 →
      own_given one own id (with_lists s (book_of documents r a)) ≡ with_lists s (book_of documents r1 a1)
  own-lists Who.Host None r a r1 a1 g = λ i. with_lists s (book_of documents (sym g.0 i) (sym g.1 i))
  own-lists Who.Host (Some given) r a r1 a1 g = absurd g
  own-lists (Who.App app) None r a r1 a1 g = absurd g
  own-lists (Who.App app) (Some given) r a r1 a1 g = λ i. with_lists s (book_of documents (sym g.added i) (sym g.numbered.numbered i))

  listed-lists : (app : Option (List ℕ)) (given : Option Given) (r : List Triple) (a : List (List ℕ)) (r1 : List Triple) (a1 : List (List ℕ)) → GaveListed app id plan.listed given r a r1 a1 →
      listed_given app plan.listed id (with_lists s (book_of documents r a)) ≡ with_lists s (book_of documents r1 a1)
  listed-lists None None r a r1 a1 g = λ i. with_lists s (book_of documents (sym g.0 i) (sym g.1 i))
  listed-lists None (Some given) r a r1 a1 g = absurd g
  listed-lists (Some app) None r a r1 a1 g = absurd g
  listed-lists (Some app) (Some given) r a r1 a1 g = λ i. with_lists s (book_of documents (sym g.added i) (sym g.numbered.numbered i))

  pub given-lists : (given : GivenBoth) (r : List Triple) (a : List (List ℕ)) (r1 : List Triple) (a1 : List (List ℕ)) → GaveBoth who plan own id given r a r1 a1 →
      item_given who plan.app plan.listed own id (with_lists s (book_of documents r a)) ≡ with_lists s (book_of documents r1 a1)
  given-lists given r a r1 a1 g =
      ap (listed_given plan.app plan.listed id) (own-lists who given.own r a g.rights_between g.applications_between g.first)
      ∙ listed-lists plan.app given.listed g.rights_between g.applications_between r1 a1 g.second

-- ---- one file

module _ (who : Who) (a : AddRequest) (plan : AddPlan) (item : PlanItem) (documents after : DocumentList) (rights : List Triple) (apps : List (List ℕ)) (told told_after : Option (List ℕ)) (drawn drawn_after : Drawn) where
  -- no word is drawn
  undrawn : (rights_after : List Triple) (apps_after : List (List ℕ)) (is id : Option DocId) → Finds is id documents after told told_after drawn drawn_after →
      ((s : State) (more : List DocId) → follow_item who a plan.app plan.listed (followed_at s (book_of documents rights apps) more drawn.documents) item
      ≡ followed_at s (book_of documents rights_after apps_after) more (drawn.documents ++ is ∷ [])) →
      Placed who a plan (item ∷ []) (book_of documents rights apps) (book_of after rights_after apps_after) told told_after drawn drawn_after
  undrawn rights_after apps_after is id f h = record {
    words = [];
    numbers = [];
    drew = f.undrawn;
    drawn_for = tt;
    made = ap (λ (d : DocumentList). d.made) f.stays ∙ sym (right-nil documents.made);
    words_told = ap (λ (d : Drawn). d.words) f.tells ∙ sym (right-nil drawn.words);
    numbers_told = ap (λ (d : Drawn). d.numbers) f.tells ∙ sym (right-nil drawn.numbers);
    follows = λ s more. h s more ∙ (λ i. followed_at s (book_of (sym f.stays i) rights_after apps_after) more ((sym f.tells i).documents));
  }

  pub placed-none : (place : PlanUse) → item.place ≡ place → Found a item.path place None documents after told told_after drawn drawn_after →
      PlacedItem who a plan item None (book_of documents rights apps) (book_of after rights apps) told told_after drawn drawn_after
  placed-none LeftOut e f = record {
    placed = undrawn rights apps None None f (λ s more. ap (λ (p : PlanUse). placed who a plan.app plan.listed item (followed_at s (book_of documents rights apps) more drawn.documents) p) e);
    undone = λ i. book_of (f.stays i) rights apps;
    last = tt;
    uses = ap has_document (sym e);
  }
  placed-none (Live live) e f = let no : None ≡ Some live = f.same in cc
  placed-none (Earlier k) e f = let no : None ≡ Some (document_at drawn.documents k) = f.same in cc
  placed-none New e f = absurd f

  module _ (id : DocId) (given : GivenBoth) (rights_after : List Triple) (apps_after : List (List ℕ)) (gave : GaveBoth who plan item.own id given rights apps rights_after apps_after) where
    abbrev this_use : Use
    this_use = record { id = id; given = given }

    -- a document that is there
    there : (place : PlanUse) (found : DocId) → item.place ≡ place → Finds (Some found) (Some id) documents after told told_after drawn drawn_after → IsMade a item.path place id documents after → IsLastMade place id after → has_document place ≡ true →
        ((s : State) (more : List DocId) → placed who a plan.app plan.listed item (followed_at s (book_of documents rights apps) more drawn.documents) place
        ≡ used_for who plan.app plan.listed item (followed_at s (book_of documents rights apps) more drawn.documents) found) →
        PlacedItem who a plan item (Some this_use) (book_of documents rights apps) (book_of after rights_after apps_after) told told_after drawn drawn_after
    there place found e f m l u h =
        let same : Some id ≡ Some found = f.same in
        let is : id ≡ found = cc in
        record {
          placed = undrawn rights_after apps_after (Some found) (Some id) f (λ s more.
              ap (λ (p : PlanUse). placed who a plan.app plan.listed item (followed_at s (book_of documents rights apps) more drawn.documents) p) e
              ∙ (h s more
              ∙ (λ i. record {
                state = (ap (λ (n : DocId). item_given who plan.app plan.listed item.own n (with_lists s (book_of documents rights apps))) (sym is) ∙ given-lists who plan item.own id documents s given rights apps rights_after apps_after gave) i;
                numbers = more;
                documents = drawn.documents ++ Some found ∷ [];
              })));
          undone = record { made = subst (λ (p : PlanUse). IsMade a item.path p id documents after) (sym e) m; gave = gave };
          last = subst (λ (p : PlanUse). IsLastMade p id after) (sym e) l;
          uses = sym (ap has_document e ∙ u);
        }

    made-one : item.place ≡ New → Makes a item.path id documents after told told_after drawn drawn_after →
        PlacedItem who a plan item (Some this_use) (book_of documents rights apps) (book_of after rights_after apps_after) told told_after drawn drawn_after
    made-one e f =
        let d : Document = new_document a id item.path in
        record {
          placed = record {
            words = f.word ∷ [];
            numbers = id ∷ [];
            drew = (told_after, f.draws, refl);
            drawn_for = (f.word_fits, f.number_fits, f.unused, tt);
            made = ap (λ (l : DocumentList). l.made) f.added;
            words_told = ap (λ (x : Drawn). x.words) f.tells;
            numbers_told = ap (λ (x : Drawn). x.numbers) f.tells;
            follows = λ s more.
                ap (λ (p : PlanUse). placed who a plan.app plan.listed item (followed_at s (book_of documents rights apps) (id ∷ more) drawn.documents) p) e
                ∙ (λ i. record {
                  state = (given-lists who plan item.own id (with_document documents d) s given rights apps rights_after apps_after gave
                      ∙ (λ j. with_lists s (book_of (sym f.added j) rights_after apps_after))) i;
                  numbers = more;
                  documents = (sym f.tells i).documents;
                });
          };
          undone = record { made = subst (λ (p : PlanUse). IsMade a item.path p id documents after) (sym e) f.added; gave = gave };
          last = subst (λ (p : PlanUse). IsLastMade p id after) (sym e) (record { before = documents; last = d; number = refl; added = f.added; new = f.unused.unused });
          uses = sym (ap has_document e);
        }

    pub placed-some : (place : PlanUse) → item.place ≡ place → Found a item.path place (Some id) documents after told told_after drawn drawn_after →
        PlacedItem who a plan item (Some this_use) (book_of documents rights apps) (book_of after rights_after apps_after) told told_after drawn drawn_after
    placed-some LeftOut e f = let no : Some id ≡ None = f.same in cc
    placed-some (Live live) e f = there (Live live) live e f f.stays tt refl (λ s more. refl)
    placed-some (Earlier k) e f = there (Earlier k) (document_at drawn.documents k) e f f.stays tt refl (λ s more. refl)
    placed-some New e f = made-one e f

  pub found-made : (place : PlanUse) (id : DocId) → Found a item.path place (Some id) documents after told told_after drawn drawn_after → IsMade a item.path place id documents after
  found-made LeftOut id f = f.stays
  found-made (Live live) id f = f.stays
  found-made (Earlier k) id f = f.stays
  found-made New id f = f.added

  pub found-last : (place : PlanUse) (id : DocId) → Found a item.path place (Some id) documents after told told_after drawn drawn_after → IsLastMade place id after
  found-last LeftOut id f = tt
  found-last (Live live) id f = tt
  found-last (Earlier k) id f = tt
  found-last New id f = record { before = documents; last = new_document a id item.path; number = refl; added = f.added; new = f.unused.unused }

  pub found-drawn : (place : PlanUse) (id : Option DocId) → Found a item.path place id documents after told told_after drawn drawn_after → HasDrawnUpTo (words_of place) told told_after
  found-drawn LeftOut id f = drew-none 0 told told_after f.undrawn
  found-drawn (Live live) id f = drew-none 0 told told_after f.undrawn
  found-drawn (Earlier k) id f = drew-none 0 told told_after f.undrawn
  found-drawn New None f = absurd f
  found-drawn New (Some id) f = drew-one told told_after f.word f.draws

-- ---- files one after another

pub placed-nothing : (who : Who) (a : AddRequest) (plan : AddPlan) (items : List PlanItem) (book : Book) (told : Option (List ℕ)) (drawn : Drawn) → items ≡ [] → Placed who a plan items book book told told drawn drawn
placed-nothing who a plan items book told drawn e = record {
  words = [];
  numbers = [];
  drew = refl;
  drawn_for = tt;
  made = sym (right-nil book.documents.made);
  words_told = sym (right-nil drawn.words);
  numbers_told = sym (right-nil drawn.numbers);
  follows = λ s more. ap (λ (l : List PlanItem). fold (follow_item who a plan.app plan.listed) (followed_at s book more drawn.documents) l) e;
}

pub placed-joined : (who : Who) (a : AddRequest) (plan : AddPlan) (items : List PlanItem) (item : PlanItem) (rest : List PlanItem) (before mid after : Book) (told told_mid told_after : Option (List ℕ)) (drawn drawn_mid drawn_after : Drawn) →
    items ≡ item ∷ rest → Placed who a plan (item ∷ []) before mid told told_mid drawn drawn_mid → Placed who a plan rest mid after told_mid told_after drawn_mid drawn_after →
    Placed who a plan items before after told told_after drawn drawn_after
placed-joined who a plan items item rest before mid after told told_mid told_after drawn drawn_mid drawn_after e p q = record {
  words = p.words ++ q.words;
  numbers = p.numbers ++ q.numbers;
  drew = drew-joined told told_mid told_after p.words q.words p.drew q.drew;
  drawn_for = drawn-joined before.documents.made p.words q.words p.numbers q.numbers p.drawn_for (subst (λ (m : List DocId). AreDrawn m q.words q.numbers) p.made q.drawn_for);
  made = q.made ∙ (ap (λ (m : List DocId). m ++ q.numbers) p.made ∙ joined before.documents.made p.numbers q.numbers);
  words_told = q.words_told ∙ (ap (λ (m : List ℕ). m ++ q.words) p.words_told ∙ joined drawn.words p.words q.words);
  numbers_told = q.numbers_told ∙ (ap (λ (m : List DocId). m ++ q.numbers) p.numbers_told ∙ joined drawn.numbers p.numbers q.numbers);
  follows = λ s more.
      (λ i. fold (follow_item who a plan.app plan.listed) (followed_at s before (joined p.numbers q.numbers more i) drawn.documents) (e i))
      ∙ (ap (λ (f : Followed). fold (follow_item who a plan.app plan.listed) f rest) (p.follows s (q.numbers ++ more))
      ∙ q.follows s more);
}

-- the last document goes
pub document-back : (a : AddRequest) (path : List ℕ) (place : PlanUse) (id : DocId) (now before new : DocumentList) → place ≡ New → new ≡ without_last now → IsMade a path place id before now → new ≡ before
document-back a path LeftOut id now before new e n m = cc
document-back a path (Live live) id now before new e n m = cc
document-back a path (Earlier k) id now before new e n m = cc
document-back a path New id now before new e n m =
    n ∙ (ap without_last m ∙ (λ i. record before { live = front-back before.live (new_document a id path) i; made = front-back before.made id i }))

-- ---- room for the files that are left

pub dropped-at : (items seen : List PlanItem) (at : ℕ) (item : PlanItem) → seen ≡ items → at < length seen → item ≡ get_or seen at item → drop at items ≡ item ∷ drop (at + 1) items
dropped-at items seen at item e h g =
    subst (λ (l : List PlanItem). drop at l ≡ item ∷ drop (at + 1) l) e (drop_more seen at item h ∙ ap (λ (i : PlanItem). i ∷ drop (at + 1) seen) (sym g))

pub dropped-index : (items seen : List PlanItem) (at : ℕ) (d : PlanItem) → seen ≡ items → at < length seen → drop at items ≡ get_or seen at d ∷ drop (at + 1) items
dropped-index items seen at d e h = subst (λ (l : List PlanItem). drop at l ≡ get_or seen at d ∷ drop (at + 1) l) e (drop_more seen at d h)

pub dropped-end : (items seen : List PlanItem) (at : ℕ) → seen ≡ items → length seen ≤ at → drop at items ≡ []
dropped-end items seen at e h = subst (λ (l : List PlanItem). drop at l ≡ []) e (past seen at h)
  where
    past : (xs : List PlanItem) (i : ℕ) → length xs ≤ i → drop i xs ≡ []
    past [] zero h = refl
    past [] (suc i) h = refl
    past (x ∷ xs) zero h = let no : ⊥ = omega arith in absurd no
    past (x ∷ xs) (suc i) h = past xs i (omega arith)

abbrev pub new_left : List PlanItem → ℕ
new_left items = count_by (λ item. is_new item.place) items

one-and-rest : (item : PlanItem) (rest : List PlanItem) → new_left (item ∷ rest) ≡ cond (is_new item.place) 1 0 + new_left rest
one-and-rest item rest = sum_by-cons (λ (i : PlanItem). cond (is_new i.place) 1 0) item rest

pub room-here : (items : List PlanItem) (item : PlanItem) (rest : List PlanItem) (d : DocumentList) → items ≡ item ∷ rest → new_left items ≤ room d → is_new item.place ≡ true → room d ≢ 0
room-here items item rest d e h n z =
    let one : new_left items ≡ 1 + new_left rest = ap new_left e ∙ (one-and-rest item rest ∙ ap (λ (b : Bool). cond b 1 0 + new_left rest) n) in
    omega arith

room-less : (a b c d n : ℕ) → 1 + n ≤ min (a - c) (b - d) → n ≤ min (a - (c + 1)) (b - (d + 1))
room-less a b c d n h = omega arith

none-more : (n r : ℕ) → 0 + n ≤ r → n ≤ r
none-more n r h = omega arith

room-by : (a : AddRequest) (path : List ℕ) (place : PlanUse) (id : DocId) (d e : DocumentList) (n : ℕ) → cond (is_new place) 1 0 + n ≤ room d → IsMade a path place id d e → n ≤ room e
room-by a path LeftOut id d e n h m = subst (λ (x : DocumentList). n ≤ room x) (sym m) (none-more n (room d) h)
room-by a path (Live live) id d e n h m = subst (λ (x : DocumentList). n ≤ room x) (sym m) (none-more n (room d) h)
room-by a path (Earlier k) id d e n h m = subst (λ (x : DocumentList). n ≤ room x) (sym m) (none-more n (room d) h)
room-by a path New id d e n h m =
    let live : length e.live ≡ length d.live + 1 = ap (λ (x : DocumentList). length x.live) m ∙ length-append d.live (new_document a id path ∷ []) in
    let made : length e.made ≡ length d.made + 1 = ap (λ (x : DocumentList). length x.made) m ∙ length-append d.made (id ∷ []) in
    let most_live : e.most_live ≡ d.most_live = ap (λ (x : DocumentList). x.most_live) m in
    let most_made : e.most_made ≡ d.most_made = ap (λ (x : DocumentList). x.most_made) m in
    let less = room-less d.most_live d.most_made (length d.live) (length d.made) n h in
    subst (λ (x : ℕ). n ≤ x) (λ i. min (sym most_live i - sym live i) (sym most_made i - sym made i)) less

pub room-rest : (who : Who) (a : AddRequest) (plan : AddPlan) (items : List PlanItem) (item : PlanItem) (rest : List PlanItem) (used : Option Use) (before after : Book) → items ≡ item ∷ rest → new_left items ≤ room before.documents →
    WasUsed who a plan item used before after → new_left rest ≤ room after.documents
room-rest who a plan items item rest None before after e h w =
    let all : new_left items ≡ cond (is_new item.place) 1 0 + new_left rest = ap new_left e ∙ one-and-rest item rest in
    subst (λ (b : Book). new_left rest ≤ room b.documents) (sym w) (let l : new_left rest ≤ room before.documents = omega arith in l)
room-rest who a plan items item rest (Some used) before after e h w =
    let all : new_left items ≡ cond (is_new item.place) 1 0 + new_left rest = ap new_left e ∙ one-and-rest item rest in
    room-by a item.path item.place used.id before.documents after.documents (new_left rest) (subst (λ (n : ℕ). n ≤ room before.documents) all h) w.made

-- ---- words, one for a new document at most

no-less : (x y n : ℕ) → y ≡ x → y ≤ x + n
no-less x y n e = omega arith

made-more : (a : AddRequest) (path : List ℕ) (place : PlanUse) (id : DocId) (d e : DocumentList) → IsMade a path place id d e → length e.made ≤ length d.made + words_of place
made-more a path LeftOut id d e m = no-less (length d.made) (length e.made) 0 (ap (λ (x : DocumentList). length x.made) m)
made-more a path (Live live) id d e m = no-less (length d.made) (length e.made) 0 (ap (λ (x : DocumentList). length x.made) m)
made-more a path (Earlier k) id d e m = no-less (length d.made) (length e.made) 0 (ap (λ (x : DocumentList). length x.made) m)
made-more a path New id d e m =
    let made : length e.made ≡ length d.made + 1 = ap (λ (x : DocumentList). length x.made) m ∙ length-append d.made (id ∷ []) in
    let most : length e.made ≤ length d.made + 1 = omega (arith, made) in
    most

used-made : (who : Who) (a : AddRequest) (plan : AddPlan) (item : PlanItem) (used : Option Use) (before after : Book) → WasUsed who a plan item used before after → length after.documents.made ≤ length before.documents.made + words_of item.place
used-made who a plan item None before after w = no-less (length before.documents.made) (length after.documents.made) (words_of item.place) (ap (λ (b : Book). length b.documents.made) w)
used-made who a plan item (Some used) before after w = made-more a item.path item.place used.id before.documents after.documents w.made

-- so many words of one file and of those behind it
one-few : (words numbers before after one : ℕ) → after ≡ before + numbers → words ≡ numbers → after ≤ before + one → words ≤ one
one-few words numbers before after one made same more = omega arith

both-few : (word words both one rest all : ℕ) → both ≡ word + words → word ≤ one → words ≤ rest → all ≡ one + rest → both ≤ all
both-few word words both one rest all b w ws e = omega arith

first-few : (word one rest all : ℕ) → word ≤ one → all ≡ one + rest → word ≤ all
first-few word one rest all w e = omega arith

further : (before mid after one rest all : ℕ) → mid ≤ before + one → after ≤ mid + rest → all ≡ one + rest → after ≤ before + all
further before mid after one rest all h k e = omega arith

first-words : (items : List PlanItem) (item : PlanItem) (rest : List PlanItem) → items ≡ item ∷ rest → words_for items ≡ words_of item.place + words_for rest
first-words items item rest e = ap new_left e ∙ one-and-rest item rest

module _ (who : Who) (a : AddRequest) (plan : AddPlan) (item : PlanItem) (used : Option Use) (before mid : Book) (told told_mid : Option (List ℕ)) (drawn drawn_mid : Drawn) (p : PlacedItem who a plan item used before mid told told_mid drawn drawn_mid) where
  one-word : length p.placed.words ≤ words_of item.place
  one-word =
      let made : length mid.documents.made ≡ length before.documents.made + length p.placed.numbers = ap (λ (l : List DocId). length l) p.placed.made ∙ length-append before.documents.made p.placed.numbers in
      let same : length p.placed.words ≡ length p.placed.numbers = drawn-length before.documents.made p.placed.words p.placed.numbers p.placed.drawn_for in
      one-few (length p.placed.words) (length p.placed.numbers) (length before.documents.made) (length mid.documents.made) (words_of item.place) made same (used-made who a plan item used before mid p.undone)

  -- behind a file that was placed
  pub drew-behind : (items rest : List PlanItem) (told_after : Option (List ℕ)) → items ≡ item ∷ rest → HasDrawnUpTo (words_for rest) told_mid told_after → HasDrawnUpTo (words_for items) told told_after
  drew-behind items rest told_after e d = (
    p.placed.words ++ d.0,
    drew-joined told told_mid told_after p.placed.words d.0 p.placed.drew d.1,
    both-few (length p.placed.words) (length d.0) (length (p.placed.words ++ d.0)) (words_of item.place) (words_for rest) (words_for items) (length-append p.placed.words d.0) one-word d.2 (first-words items item rest e),
  )

-- by the first of some files
pub drew-first : (items : List PlanItem) (item : PlanItem) (rest : List PlanItem) (old new : Option (List ℕ)) → items ≡ item ∷ rest → HasDrawnUpTo (words_of item.place) old new → HasDrawnUpTo (words_for items) old new
drew-first items item rest old new e d = (d.0, d.1, first-few (length d.0) (words_of item.place) (words_for rest) (words_for items) d.2 (first-words items item rest e))

used-all-made : (who : Who) (a : AddRequest) (plan : AddPlan) (items : List PlanItem) (uses : List (Option Use)) (before after : Book) → UsedAll who a plan items uses before after → length after.documents.made ≤ length before.documents.made + words_for items
used-all-made who a plan [] uses before after u = no-less (length before.documents.made) (length after.documents.made) (words_for []) (ap (λ (b : Book). length b.documents.made) u)
used-all-made who a plan (item ∷ items) [] before after u = absurd u
used-all-made who a plan (item ∷ items) (used ∷ uses) before after u =
    let mid : Book = u.0 in
    further (length before.documents.made) (length mid.documents.made) (length after.documents.made) (words_of item.place) (words_for items) (words_for (item ∷ items))
    (used-made who a plan item used before mid u.1) (used-all-made who a plan items uses mid after u.3) (one-and-rest item items)

-- a plan that was followed
pub drew-followed : (who : Who) (a : AddRequest) (plan : AddPlan) (before after : Book) (told told_after : Option (List ℕ)) (drawn : Drawn) (uses : List (Option Use)) → Follows who a plan before after told told_after drawn → UsedAll who a plan plan.items uses before after →
    HasDrawnUpTo (words_for plan.items) told told_after
drew-followed who a plan before after told told_after drawn uses f u =
    let made : length after.documents.made ≡ length before.documents.made + length drawn.numbers = ap (λ (l : List DocId). length l) f.made ∙ length-append before.documents.made drawn.numbers in
    let same : length drawn.words ≡ length drawn.numbers = drawn-length before.documents.made drawn.words drawn.numbers f.drawn_for in
    let few = one-few (length drawn.words) (length drawn.numbers) (length before.documents.made) (length after.documents.made) (words_for plan.items) made same (used-all-made who a plan plan.items uses before after u) in
    (drawn.words, f.drew, few)

-- ---- room for applications

caller-is : (who : Who) (own : RightSet) (apps : List (List ℕ)) → OwnHolds who own → caller_with who own apps ≡ caller_numbered who apps
caller-is Who.Host own apps h = refl
caller-is (Who.App app) own apps h = ap (λ (b : Bool). cond b (numbered apps app) apps) h

longer : (apps : List (List ℕ)) (app : List ℕ) (b : Bool) → is_numbered apps app ≡ b → length apps ≤ length (numbered apps app)
longer apps app b e = let n = numbered-length apps app b e in more b n
  where
    more : (c : Bool) → length (numbered apps app) ≡ length apps + cond c 0 1 → length apps ≤ length (numbered apps app)
    more true n = omega arith
    more false n = omega arith

named-longer : (app : Option (List ℕ)) (listed : RightSet) (apps : List (List ℕ)) → length apps ≤ length (named_numbered app listed apps)
named-longer None listed apps = let n : length apps ≤ length apps = omega arith in n
named-longer (Some app) listed apps = by-any (holds_any listed)
  where
    by-any : (b : Bool) → length apps ≤ length (cond b (numbered apps app) apps)
    by-any true = longer apps app (is_numbered apps app) refl
    by-any false = let n : length apps ≤ length apps = omega arith in n

room-caller : (who : Who) (own : RightSet) (apps : List (List ℕ)) → length (caller_with who own apps) ≤ applications_limit → HasRoomForCaller who own apps
room-caller Who.Host own apps h = tt
room-caller (Who.App app) own apps h = h

room-named : (app : Option (List ℕ)) (listed : RightSet) (apps : List (List ℕ)) → length (named_numbered app listed apps) ≤ applications_limit → HasRoomForNamed app listed apps
room-named None listed apps h = tt
room-named (Some app) listed apps h = h

pub numbers-here : (who : Who) (plan : AddPlan) (items : List PlanItem) (item : PlanItem) (rest : List PlanItem) (apps : List (List ℕ)) → items ≡ item ∷ rest → OwnsHold who items → HasRoomForAll who plan items apps →
    has_document item.place ≡ true → HasRoomForBoth who plan item.own apps
numbers-here who plan items item rest apps e o h u =
    let owns : OwnsHold who (item ∷ rest) = subst (λ (l : List PlanItem). OwnsHold who l) e o in
    let own : OwnHolds who item.own = owns.0 u in
    let is = caller-is who item.own apps own in
    let some : uses_documents items ≡ true = ap uses_documents e ∙ ap (λ (b : Bool). b || uses_documents rest) u in
    let all : length (both_numbered who plan.app plan.listed apps) ≤ applications_limit = h some in
    let less = named-longer plan.app plan.listed (caller_numbered who apps) in
    let caller : length (caller_numbered who apps) ≤ applications_limit = omega arith in (
      room-caller who item.own apps (subst (λ (l : List (List ℕ)). length l ≤ applications_limit) (sym is) caller),
      room-named plan.app plan.listed (caller_with who item.own apps) (subst (λ (l : List (List ℕ)). length (named_numbered plan.app plan.listed l) ≤ applications_limit) (sym is) all),
    )

gave-own-apps : (who : Who) (id : DocId) (own : RightSet) (given : Option Given) (r : List Triple) (a : List (List ℕ)) (r1 : List Triple) (a1 : List (List ℕ)) → GaveOwn who id own given r a r1 a1 → a1 ≡ caller_with who own a
gave-own-apps Who.Host id own None r a r1 a1 g = g.1
gave-own-apps Who.Host id own (Some given) r a r1 a1 g = absurd g
gave-own-apps (Who.App app) id own None r a r1 a1 g = absurd g
gave-own-apps (Who.App app) id own (Some given) r a r1 a1 g = g.numbered.numbered

gave-listed-apps : (app : Option (List ℕ)) (id : DocId) (listed : RightSet) (given : Option Given) (r : List Triple) (a : List (List ℕ)) (r1 : List Triple) (a1 : List (List ℕ)) → GaveListed app id listed given r a r1 a1 → a1 ≡ named_numbered app listed a
gave-listed-apps None id listed None r a r1 a1 g = g.1
gave-listed-apps None id listed (Some given) r a r1 a1 g = absurd g
gave-listed-apps (Some app) id listed None r a r1 a1 g = absurd g
gave-listed-apps (Some app) id listed (Some given) r a r1 a1 g = g.numbered.numbered

pub numbers-rest : (who : Who) (a : AddRequest) (plan : AddPlan) (items : List PlanItem) (item : PlanItem) (rest : List PlanItem) (used : Option Use) (before after : Book) → items ≡ item ∷ rest → OwnsHold who items →
    HasRoomForAll who plan items before.applications → is_some used ≡ has_document item.place → WasUsed who a plan item used before after → HasRoomForAll who plan rest after.applications
numbers-rest who a plan items item rest None before after e o h u w more =
    let some : uses_documents items ≡ true = ap uses_documents e ∙ or-true (has_document item.place) (uses_documents rest) more in
    subst (λ (b : Book). length (both_numbered who plan.app plan.listed b.applications) ≤ applications_limit) (sym w) (h some)
  where
    or-true : (x y : Bool) → y ≡ true → (x || y) ≡ true
    or-true true y e = refl
    or-true false y e = e
numbers-rest who a plan items item rest (Some used) before after e o h u w more =
    let owns : OwnsHold who (item ∷ rest) = subst (λ (l : List PlanItem). OwnsHold who l) e o in
    let own : OwnHolds who item.own = owns.0 (sym u) in
    let some : uses_documents items ≡ true = ap uses_documents e ∙ ap (λ (b : Bool). b || uses_documents rest) (sym u) in
    let apps : after.applications ≡ both_numbered who plan.app plan.listed before.applications =
    gave-listed-apps plan.app used.id plan.listed used.given.listed w.gave.rights_between w.gave.applications_between after.rights after.applications w.gave.second
    ∙ ap (named_numbered plan.app plan.listed) (gave-own-apps who used.id item.own used.given.own before.rights before.applications w.gave.rights_between w.gave.applications_between w.gave.first ∙ caller-is who item.own before.applications own) in
    let same : both_numbered who plan.app plan.listed after.applications ≡ both_numbered who plan.app plan.listed before.applications =
    ap (both_numbered who plan.app plan.listed) apps ∙ numbered-once who plan.app plan.listed before.applications in
    subst (λ (l : List (List ℕ)). length l ≤ applications_limit) (sym same) (h some)

pub owns-rest : (who : Who) (items : List PlanItem) (item : PlanItem) (rest : List PlanItem) → items ≡ item ∷ rest → OwnsHold who items → OwnsHold who rest
owns-rest who items item rest e o = let owns : OwnsHold who (item ∷ rest) = subst (λ (l : List PlanItem). OwnsHold who l) e o in owns.1

-- ---- the whole plan

pub all-placed : (who : Who) (a : AddRequest) (plan : AddPlan) (before after : Book) (told told_after : Option (List ℕ)) (nothing drawn : Drawn) → nothing ≡ none_drawn →
    Placed who a plan (drop 0 plan.items) before after told told_after nothing drawn → Follows who a plan before after told told_after drawn
all-placed who a plan before after told told_after nothing drawn e placed =
    let p : Placed who a plan (drop 0 plan.items) before after told told_after none_drawn drawn = subst (λ (n : Drawn). Placed who a plan (drop 0 plan.items) before after told told_after n drawn) e placed in
    let words : drawn.words ≡ p.words = p.words_told in
    let numbers : drawn.numbers ≡ p.numbers = p.numbers_told in
    record {
      drew = subst (λ (w : List ℕ). Drew told w told_after) (sym words) p.drew;
      drawn_for = subst (λ (w : List ℕ). AreDrawn before.documents.made w drawn.numbers) (sym words) (subst (λ (n : List DocId). AreDrawn before.documents.made p.words n) (sym numbers) p.drawn_for);
      made = p.made ∙ ap (λ (n : List DocId). before.documents.made ++ n) (sym numbers);
      follows = λ s. ap (λ (n : List DocId). followed who a plan (with_lists s before) n) (numbers ∙ sym (right-nil p.numbers)) ∙ p.follows s [];
    }

or-first : (a b : Bool) → (a || b) ≡ false → a ≡ false
or-first true b e = e
or-first false b e = refl

or-rest : (a b : Bool) → (a || b) ≡ false → b ≡ false
or-rest true b e = cc
or-rest false b e = e

at-most : (a b : ℕ) → nat_lt a b ≡ false → b ≤ a
at-most a b e = grind (arith, nat_tests)

pub room-for-all : (who : Who) (a : AddRequest) (plan : AddPlan) (d : DocumentList) (apps : List (List ℕ)) → IsOfCall who a plan → exceeds_planned d apps who plan ≡ false → new_left (drop 0 plan.items) ≤ room d
room-for-all who a plan d apps call e =
    let live : length d.live + plan.used ≤ d.most_live = at-most d.most_live (length d.live + plan.used) (or-first (nat_lt d.most_live (length d.live + plan.used)) _ e) in
    let made : length d.made + plan.used ≤ d.most_made = at-most d.most_made (length d.made + plan.used) (or-first (nat_lt d.most_made (length d.made + plan.used)) _ (or-rest (nat_lt d.most_live (length d.live + plan.used)) _ e)) in
    let used : plan.used ≡ new_left plan.items = call.used in
    subst (λ (n : ℕ). n ≤ room d) used (least d.most_live d.most_made (length d.live) (length d.made) plan.used live made)
  where
    least : (x y v w n : ℕ) → v + n ≤ x → w + n ≤ y → n ≤ min (x - v) (y - w)
    least x y v w n h k = omega arith

pub numbers-for-all : (who : Who) (plan : AddPlan) (d : DocumentList) (apps : List (List ℕ)) → exceeds_planned d apps who plan ≡ false → HasRoomForAll who plan (drop 0 plan.items) apps
numbers-for-all who plan d apps e some =
    let few : length (numbered_by who plan apps) ≤ applications_limit =
    at-most applications_limit (length (numbered_by who plan apps)) (or-rest (nat_lt d.most_made (length d.made + plan.used)) _ (or-rest (nat_lt d.most_live (length d.live + plan.used)) _ e)) in
    subst (λ (b : Bool). length (cond b (both_numbered who plan.app plan.listed apps) apps) ≤ applications_limit) some few

-- ---- what is taken back

-- the use of a file stands in its place, ahead of those behind it
set-dropped : (uses : List (Option Use)) (at : ℕ) (used : Option Use) → at < length uses → drop at (slice_set uses at used) ≡ used ∷ drop (at + 1) uses
set-dropped [] at used h = let no : ⊥ = omega arith in absurd no
set-dropped (x ∷ xs) zero used h = refl
set-dropped (x ∷ xs) (suc at) used h =
    let one : suc at + 1 ≡ suc (at + 1) = omega arith in
    subst (λ (m : ℕ). drop at (slice_set xs at used) ≡ used ∷ drop m (x ∷ xs)) (sym one) (set-dropped xs at used (omega arith))

pub uses-set : (uses new : List (Option Use)) (at : ℕ) (used : Option Use) → new ≡ slice_set uses at used → at < length uses → drop at new ≡ used ∷ drop (at + 1) uses
uses-set uses new at used e h = ap (λ (l : List (Option Use)). drop at l) e ∙ set-dropped uses at used h

pub used-more : (who : Who) (a : AddRequest) (plan : AddPlan) (items : List PlanItem) (item : PlanItem) (rest : List PlanItem) (uses : List (Option Use)) (used : Option Use) (more : List (Option Use)) (before mid after : Book) →
    items ≡ item ∷ rest → uses ≡ used ∷ more → WasUsed who a plan item used before mid → IsLastUse item.place used mid.documents → UsedAll who a plan rest more mid after → UsedAll who a plan items uses before after
used-more who a plan items item rest uses used more before mid after e k w l u =
    subst (λ (is : List PlanItem). UsedAll who a plan is uses before after) (sym e) (subst (λ (us : List (Option Use)). UsedAll who a plan (item ∷ rest) us before after) (sym k) (mid, w, l, u))

pub used-none : (who : Who) (a : AddRequest) (plan : AddPlan) (items : List PlanItem) (uses : List (Option Use)) (book : Book) → items ≡ [] → UsedAll who a plan items uses book book
used-none who a plan items uses book e = subst (λ (is : List PlanItem). UsedAll who a plan is uses book book) (sym e) refl

-- of a file and those behind it
pub used-parts : (who : Who) (a : AddRequest) (plan : AddPlan) (items : List PlanItem) (item : PlanItem) (rest : List PlanItem) (uses : List (Option Use)) (used : Option Use) (more : List (Option Use)) (before after : Book) →
    items ≡ item ∷ rest → uses ≡ used ∷ more → UsedAll who a plan items uses before after → UsedAll who a plan (item ∷ rest) (used ∷ more) before after
used-parts who a plan items item rest uses used more before after e k u =
    subst (λ (is : List PlanItem). UsedAll who a plan is (used ∷ more) before after) e (subst (λ (us : List (Option Use)). UsedAll who a plan items us before after) k u)

-- nothing is left: no file, or no use, of which there are as many
pub used-end : (who : Who) (a : AddRequest) (plan : AddPlan) (items : List PlanItem) (uses : List (Option Use)) (before after : Book) → (items ≡ []) ⊎ (uses ≡ []) → UsedAll who a plan items uses before after → after ≡ before
used-end who a plan [] uses before after h u = u
used-end who a plan (item ∷ items) [] before after h u = absurd u
used-end who a plan (item ∷ items) (used ∷ uses) before after (inl e) u = cc
used-end who a plan (item ∷ items) (used ∷ uses) before after (inr e) u = cc

pub dropped-uses : (uses : List (Option Use)) (at : ℕ) (used : Option Use) → at < length uses → used ≡ get_or uses at used → drop at uses ≡ used ∷ drop (at + 1) uses
dropped-uses uses at used h g = drop_more uses at used h ∙ ap (λ (u : Option Use). u ∷ drop (at + 1) uses) (sym g)

pub no-uses : (uses : List (Option Use)) (at : ℕ) → length uses ≤ at → drop at uses ≡ []
no-uses [] zero h = refl
no-uses [] (suc at) h = refl
no-uses (x ∷ xs) zero h = let no : ⊥ = omega arith in absurd no
no-uses (x ∷ xs) (suc at) h = no-uses xs at (omega arith)

pub sized-set : (old new : List (Option Use)) (at : ℕ) (used : Option Use) → new ≡ slice_set old at used → length new ≡ length old
sized-set old new at used e = ap (λ (l : List (Option Use)). length l) e ∙ length-set old at used

pub item-back : (who : Who) (a : AddRequest) (plan : AddPlan) (item : PlanItem) (used : Option Use) (before mid now : Book) → now ≡ mid → WasUsed who a plan item used before mid → WasUsed who a plan item used before now
item-back who a plan item used before mid now e w = subst (λ (b : Book). WasUsed who a plan item used before b) (sym e) w
