-- What a plan that is followed makes of the documents and of the rights in them.
use Rattle.std.proofs.Common.{◌≡◌, ℕ, ◌==◌, List, [], ◌∷◌, ◌++◌, fold, Bool, true, false, not, ◌&&◌, ◌||◌, Option, Some, None, ◌⊎◌, inl, inr, refl, sym, ap, ◌∙◌, arith}
use Rattle.std.specs.List.{filter, list_any}
use Rattle.std.proofs.lemmas.Bool.Decides.{nat_tests}
use Rattle.std.proofs.lemmas.List.Folds.{list_any-append}
use Rattle.portal_base.specs.Names.{is_same}
use Rattle.portal_base.specs.declared.names.doc_id.DocId.{DocId}
use Rattle.portal_base.specs.declared.who.Who.{Who}
use Rattle.rights_rule.specs.Rights.{RightSet, is_no_right, minus}
use Rattle.portal_model.specs.declared.request.AddRequest.{AddRequest}
use Rattle.portal_model.specs.declared.rights.Right.{Right}
use Rattle.portal_model.specs.declared.rights.Right.TheVariants.{Read, Write, GrantPermissions, Delete}
use Rattle.portal_model.specs.declared.state.Document.{Document}
use Rattle.portal_model.specs.declared.state.Triple.{Triple}
use Rattle.portal_model.specs.Add.{first_number, new_document, with_new_document}
use Rattle.portal_model.specs.AddArguments.{persists}
use Rattle.portal_model.specs.Grant.{given_rights}
use Rattle.portal_model.specs.Rights.{add_rights, are_in_order, is_in}
use Rattle.portal_model.specs.State.{State, app_has, held_of}
use Rattle.portal_model.proofs.RightsLaws.{ordered-add_rights}
use Rattle.document_records.specs.Documents.{is_kept}
use Rattle.document_records.proofs.KeptDocuments.{IsApart, apart-added, is_here}
use Rattle.add_files.specs.Plans.{Followed, document_at, follow_item, item_given, listed_given, made_for, own_given, placed, used_for}
use Rattle.add_files.specs.declared.plan.AddPlan.{AddPlan}
use Rattle.add_files.specs.declared.plan.PlanItem.{PlanItem}
use Rattle.add_files.specs.declared.plan.PlanUse.{PlanUse}
use Rattle.add_files.specs.declared.plan.PlanUse.TheVariants.{LeftOut, Live, Earlier, New}
use Rattle.document_calls.proofs.AddedRights.{has-add, held-add, none-beyond}
use Rattle.add_serving.specs.Changes.{caller_lacks, item_changes, lacks, named_lacks, place_changes}

-- ---- tests

pub or-true : (x : Bool) → (x || true) ≡ true
or-true true = refl
or-true false = refl

pub or-first : (a b : Bool) → (a || b) ≡ false → a ≡ false
or-first true b e = e
or-first false b e = refl

pub or-rest : (a b : Bool) → (a || b) ≡ false → b ≡ false
or-rest true b e = cc
or-rest false b e = e

pub or-either : (a b : Bool) → (a || b) ≡ true → (a ≡ true) ⊎ (b ≡ true)
or-either true b e = inl refl
or-either false b e = inr e

pub and-first : (a b : Bool) → (a && b) ≡ true → a ≡ true
and-first true b e = refl
and-first false b e = cc

pub and-rest : (a b : Bool) → (a && b) ≡ true → b ≡ true
and-rest true b e = e
and-rest false b e = cc

pub not-false : (b : Bool) → not b ≡ false → b ≡ true
not-false true e = refl
not-false false e = cc

pub right-nil : {X : Type 0} (xs : List X) → xs ++ [] ≡ xs
right-nil [] = refl
right-nil (x ∷ xs) = ap (λ (l : List _). x ∷ l) (right-nil xs)

pub joined : {X : Type 0} (xs ys zs : List X) → (xs ++ ys) ++ zs ≡ xs ++ (ys ++ zs)
joined [] ys zs = refl
joined (x ∷ xs) ys zs = ap (λ (l : List _). x ∷ l) (joined xs ys zs)

-- ---- rights that are given in one document

pub record Gave (id : DocId) (s t : State) : Type 0 where
  pub live : t.documents ≡ s.documents
  pub order : are_in_order t.rights ≡ true
  pub apart : IsApart id.number s.rights t.rights
  pub grows : (app : List ℕ) (m : ℕ) (right : Right) → app_has s.rights app m right ≡ true → app_has t.rights app m right ≡ true

gave-one : (app : List ℕ) (id : DocId) (set : RightSet) (s : State) → are_in_order s.rights ≡ true → Gave id s (given_rights app id set s)
gave-one app id set s o = record {
  live = refl;
  order = ordered-add_rights app id set s.rights;
  apart = apart-added app id set s.rights o;
  grows = λ a m right h.
      has-add app id set s.rights a m right
      ∙ (ap (λ (b : Bool). ((id.number == m && is_same app a) && is_in set right) || b) h ∙ or-true ((id.number == m && is_same app a) && is_in set right));
}

gave-none : (id : DocId) (s : State) → are_in_order s.rights ≡ true → Gave id s s
gave-none id s o = record { live = refl; order = o; apart = λ other e. refl; grows = λ a m right h. h }

gave-then : (id : DocId) (s t u : State) → Gave id s t → Gave id t u → Gave id s u
gave-then id s t u h k = record {
  live = k.live ∙ h.live;
  order = k.order;
  apart = λ other e. k.apart other e ∙ h.apart other e;
  grows = λ a m right x. k.grows a m right (h.grows a m right x);
}

pub own-gave : (who : Who) (own : RightSet) (id : DocId) (s : State) → are_in_order s.rights ≡ true → Gave id s (own_given who own id s)
own-gave Who.Host own id s o = gave-none id s o
own-gave (Who.App app) own id s o = gave-one app id own s o

pub listed-gave : (app : Option (List ℕ)) (listed : RightSet) (id : DocId) (s : State) → are_in_order s.rights ≡ true → Gave id s (listed_given app listed id s)
listed-gave None listed id s o = gave-none id s o
listed-gave (Some app) listed id s o = gave-one app id listed s o

pub item-gave : (who : Who) (app : Option (List ℕ)) (listed own : RightSet) (id : DocId) (s : State) → are_in_order s.rights ≡ true → Gave id s (item_given who app listed own id s)
item-gave who app listed own id s o =
    let first : Gave id s (own_given who own id s) = own-gave who own id s o in
    gave-then id s (own_given who own id s) (item_given who app listed own id s) first (listed-gave app listed id (own_given who own id s) first.order)

-- ---- what an application lacks

has-all : (rights : List Triple) (app : List ℕ) (number : ℕ) (set : RightSet) (right : Right) → is_no_right (minus set (held_of rights app number)) ≡ true → is_in set right ≡ true → app_has rights app number right ≡ true
has-all rights app number set Read h k = grind arith
has-all rights app number set Write h k = grind arith
has-all rights app number set GrantPermissions h k = grind arith
has-all rights app number set Delete h k = grind arith

not-missing : (x y : Bool) → (x ≡ true → y ≡ true) → (x && not y) ≡ false
not-missing true true h = refl
not-missing true false h = let no : false ≡ true = h refl in cc
not-missing false y h = refl

none-missing : (rights : List Triple) (app : List ℕ) (number : ℕ) (set : RightSet) → ((right : Right) → is_in set right ≡ true → app_has rights app number right ≡ true) →
    is_no_right (minus set (held_of rights app number)) ≡ true
none-missing rights app number set h =
    let one : (right : Right) → (is_in set right && not (app_has rights app number right)) ≡ false = λ right. not-missing (is_in set right) (app_has rights app number right) (h right) in
    λ i. not (one Read i || (one Write i || (one GrantPermissions i || one Delete i)))

pub lacks-stays : (rights others : List Triple) (app : List ℕ) (id : DocId) (set : RightSet) → ((right : Right) → app_has rights app id.number right ≡ true → app_has others app id.number right ≡ true) →
    lacks rights app id set ≡ false → lacks others app id set ≡ false
lacks-stays rights others app id set grows h =
    ap not (none-missing others app id.number set (λ right k. grows right (has-all rights app id.number set right (not-false (is_no_right (minus set (held_of rights app id.number))) h) k)))

lacks-given : (rights : List Triple) (app : List ℕ) (id : DocId) (set : RightSet) → lacks (add_rights app id set rights) app id set ≡ false
lacks-given rights app id set = ap (λ (x : RightSet). not (is_no_right (minus set x))) (held-add app id set rights) ∙ ap not (none-beyond set (held_of rights app id.number))

-- ---- a plan

abbrev pub names : ℕ → Option DocId → Bool
names m None = false
names m (Some id) = id.number == m

names-apart : (n m : ℕ) → ((n == m) || false) ≡ false → (m == n) ≡ false
names-apart n m h = grind (arith, nat_tests)

-- the documents and the rights of a state, that the records are told of; the caller and the plan
module _ (documents : List Document) (rights : List Triple) (who : Who) (a : AddRequest) (plan : AddPlan) where
  -- a right that was lacked in a kept document, and isn't any more
  pub record Lacked (then : List Triple) : Type 0 where
    pub app : List ℕ
    pub id : DocId
    pub set : RightSet
    pub kept : is_kept documents id.number ≡ true
    pub before : lacks rights app id set ≡ true
    pub after : lacks then app id set ≡ false

  abbrev pub Differs : List Document → List Triple → Type 0
  Differs news then = (list_any (λ d. d.persistent) news ≡ true) ⊎ Lacked then

  -- documents were put behind the others, and rights were given in those that are told
  pub record Grown (changes : Bool) (f g : Followed) : Type 0 where
    pub news : List Document
    pub told : List (Option DocId)
    pub live : g.state.documents ≡ f.state.documents ++ news
    pub tells : g.documents ≡ f.documents ++ told
    pub order : are_in_order g.state.rights ≡ true
    pub apart : (m : ℕ) → list_any (names m) told ≡ false → filter (is_here m) g.state.rights ≡ filter (is_here m) f.state.rights
    pub grows : (app : List ℕ) (m : ℕ) (right : Right) → app_has f.state.rights app m right ≡ true → app_has g.state.rights app m right ≡ true
    pub differs : changes ≡ true → Differs news g.state.rights

  still-lacked : (then later : List Triple) → ((app : List ℕ) (m : ℕ) (right : Right) → app_has then app m right ≡ true → app_has later app m right ≡ true) → Lacked then → Lacked later
  still-lacked then later grows l = record {
    app = l.app;
    id = l.id;
    set = l.set;
    kept = l.kept;
    before = l.before;
    after = lacks-stays then later l.app l.id l.set (λ right. grows l.app l.id.number right) l.after;
  }

  -- what the caller lacked it has then
  caller-has : (one : Who) (own : RightSet) (id : DocId) (s : State) → is_kept documents id.number ≡ true → caller_lacks rights one id own ≡ true → Lacked (own_given one own id s).rights
  caller-has Who.Host own id s k h = cc
  caller-has (Who.App app) own id s k h = record { app = app; id = id; set = own; kept = k; before = h; after = lacks-given s.rights app id own }

  named-has : (named : Option (List ℕ)) (listed : RightSet) (id : DocId) (s : State) → is_kept documents id.number ≡ true → named_lacks rights named id listed ≡ true → Lacked (listed_given named listed id s).rights
  named-has None listed id s k h = cc
  named-has (Some app) listed id s k h = record { app = app; id = id; set = listed; kept = k; before = h; after = lacks-given s.rights app id listed }

  item-has : (own : RightSet) (id : DocId) (s : State) → are_in_order s.rights ≡ true → (is_kept documents id.number && (caller_lacks rights who id own || named_lacks rights plan.app id plan.listed)) ≡ true →
      Lacked (item_given who plan.app plan.listed own id s).rights
  item-has own id s o h =
      let kept : is_kept documents id.number ≡ true = and-first (is_kept documents id.number) (caller_lacks rights who id own || named_lacks rights plan.app id plan.listed) h in
      let some : (caller_lacks rights who id own || named_lacks rights plan.app id plan.listed) ≡ true = and-rest (is_kept documents id.number) (caller_lacks rights who id own || named_lacks rights plan.app id plan.listed) h in
      let first : Gave id s (own_given who own id s) = own-gave who own id s o in
      let second : Gave id (own_given who own id s) (item_given who plan.app plan.listed own id s) = listed-gave plan.app plan.listed id (own_given who own id s) first.order in
      elim (or-either (caller_lacks rights who id own) (named_lacks rights plan.app id plan.listed) some) [
        | inl c ↦ still-lacked (own_given who own id s).rights (item_given who plan.app plan.listed own id s).rights second.grows (caller-has who own id s kept c)
        | inr n ↦ named-has plan.app plan.listed id (own_given who own id s) kept n
      ]

  grown-used : (item : PlanItem) (f : Followed) (id : DocId) (changes : Bool) → are_in_order f.state.rights ≡ true → (changes ≡ true → Lacked (item_given who plan.app plan.listed item.own id f.state).rights) →
      Grown changes f (used_for who plan.app plan.listed item f id)
  grown-used item f id changes o h =
      let k = item-gave who plan.app plan.listed item.own id f.state o in
      record {
        news = [];
        told = Some id ∷ [];
        live = k.live ∙ sym (right-nil f.state.documents);
        tells = refl;
        order = k.order;
        apart = λ m e. k.apart m (names-apart id.number m e);
        grows = k.grows;
        differs = λ c. inr (h c);
      }

  grown-made : (item : PlanItem) (f : Followed) → are_in_order f.state.rights ≡ true → Grown (persists a) f (made_for who a plan.app plan.listed item f)
  grown-made item f o =
      let id = first_number f.numbers in
      let s : State = with_new_document (new_document a id item.path) f.state in
      let k = item-gave who plan.app plan.listed item.own id s o in
      record {
        news = new_document a id item.path ∷ [];
        told = Some id ∷ [];
        live = k.live;
        tells = refl;
        order = k.order;
        apart = λ m e. k.apart m (names-apart id.number m e);
        grows = k.grows;
        differs = λ c. inl (ap (λ (b : Bool). b || false) c);
      }

  grown-placed : (item : PlanItem) (f : Followed) (place : PlanUse) → are_in_order f.state.rights ≡ true →
      Grown (place_changes documents rights who a plan item.own place) f (placed who a plan.app plan.listed item f place)
  grown-placed item f LeftOut o = record {
    news = [];
    told = None ∷ [];
    live = sym (right-nil f.state.documents);
    tells = refl;
    order = o;
    apart = λ m e. refl;
    grows = λ app m right h. h;
    differs = λ c. cc;
  }
  grown-placed item f (Live id) o = grown-used item f id (place_changes documents rights who a plan item.own (Live id)) o (λ c. item-has item.own id f.state o c)
  grown-placed item f (Earlier k) o = grown-used item f (document_at f.documents k) false o (λ c. cc)
  grown-placed item f New o = grown-made item f o

  differs-later : (news more : List Document) (then later : List Triple) → ((app : List ℕ) (m : ℕ) (right : Right) → app_has then app m right ≡ true → app_has later app m right ≡ true) →
      Differs news then → Differs (news ++ more) later
  differs-later news more then later grows d = elim d [
    | inl some ↦ inl (list_any-append (λ (x : Document). x.persistent) news more ∙ ap (λ (b : Bool). b || list_any (λ (x : Document). x.persistent) more) some)
    | inr l ↦ inr (still-lacked then later grows l)
  ]

  differs-ahead : (news more : List Document) (then : List Triple) → Differs more then → Differs (news ++ more) then
  differs-ahead news more then d = elim d [
    | inl some ↦ inl (list_any-append (λ (x : Document). x.persistent) news more ∙ (ap (λ (b : Bool). list_any (λ (x : Document). x.persistent) news || b) some ∙ or-true (list_any (λ (x : Document). x.persistent) news)))
    | inr l ↦ inr l
  ]

  grown-then : (one rest : Bool) (f g h : Followed) → Grown one f g → Grown rest g h → Grown (one || rest) f h
  grown-then one rest f g h k l =
      record {
        news = k.news ++ l.news;
        told = k.told ++ l.told;
        live = l.live ∙ (ap (λ (ds : List Document). ds ++ l.news) k.live ∙ joined f.state.documents k.news l.news);
        tells = l.tells ∙ (ap (λ (ds : List (Option DocId)). ds ++ l.told) k.tells ∙ joined f.documents k.told l.told);
        order = l.order;
        apart = λ m e.
            let none : (list_any (names m) k.told || list_any (names m) l.told) ≡ false = sym (list_any-append (names m) k.told l.told) ∙ e in
            l.apart m (or-rest (list_any (names m) k.told) (list_any (names m) l.told) none) ∙ k.apart m (or-first (list_any (names m) k.told) (list_any (names m) l.told) none);
        grows = λ app m right x. l.grows app m right (k.grows app m right x);
        differs = λ c. elim (or-either one rest c) [
          | inl first ↦ differs-later k.news l.news g.state.rights h.state.rights l.grows (k.differs first)
          | inr more ↦ differs-ahead k.news l.news h.state.rights (l.differs more)
        ];
      }

  pub grown-all : (items : List PlanItem) (f : Followed) → are_in_order f.state.rights ≡ true →
      Grown (list_any (item_changes documents rights who a plan) items) f (fold (follow_item who a plan.app plan.listed) f items)
  grown-all [] f o = record {
    news = [];
    told = [];
    live = sym (right-nil f.state.documents);
    tells = sym (right-nil f.documents);
    order = o;
    apart = λ m e. refl;
    grows = λ app m right h. h;
    differs = λ c. cc;
  }
  grown-all (item ∷ items) f o =
      let g : Followed = follow_item who a plan.app plan.listed f item in
      let one : Grown (place_changes documents rights who a plan item.own item.place) f g = grown-placed item f item.place o in
      grown-then (place_changes documents rights who a plan item.own item.place) (list_any (item_changes documents rights who a plan) items) f g
      (fold (follow_item who a plan.app plan.listed) g items) one (grown-all items g one.order)
