-- What a plan that is followed makes of the counts that are limited.
use Rattle.std.proofs.Common.{◌≡◌, ℕ, ◌+◌, ◌≤◌, ◌-◌, min, List, [], ◌∷◌, ◌++◌, fold, length, length-append, map, nat_lt, Bool, true, false, not, ◌&&◌, ◌||◌, cond, Option, Some, None, is_some, refl, sym, ap, subst, ◌∙◌, arith}
use Rattle.std.specs.List.{count_by, position_or_len}
use Rattle.std.specs.Option.{option_map}
use Rattle.std.proofs.lemmas.Bool.Decides.{nat_tests}
use Rattle.std.proofs.lemmas.List.Folds.{list_any-append}
use Rattle.std.proofs.lemmas.List.Sums.{sum_by-cons}
use Rattle.portal_base.specs.Names.{is_same}
use Rattle.portal_base.specs.declared.names.doc_id.DocId.{DocId}
use Rattle.portal_base.specs.declared.who.Who.{Who}
use Rattle.rights_rule.specs.Rights.{RightSet, holds_any, is_no_right}
use Rattle.portal_model.specs.declared.request.AddRequest.{AddRequest}
use Rattle.portal_model.specs.Add.{first_number, new_document, with_new_document}
use Rattle.portal_model.specs.Applications.{number_of, numbered}
use Rattle.portal_model.specs.Grant.{numbered_with}
use Rattle.portal_model.specs.State.{State, is_app}
use Rattle.portal_model.specs.Valid.{applications_limit, is_numbered}
use Rattle.portal_model.proofs.TripleOrder.{is_same-refl, is_same-eq, is_same-sym}
use Rattle.document_records.specs.Documents.{DocumentList, room}
use Rattle.document_records.specs.DocumentIndex.{AreKept}
use Rattle.add_files.specs.declared.plan.AddPlan.{AddPlan}
use Rattle.add_files.specs.declared.plan.PlanItem.{PlanItem}
use Rattle.add_files.specs.declared.plan.PlanUse.{PlanUse}
use Rattle.add_files.specs.declared.plan.PlanUse.TheVariants.{LeftOut, Live, Earlier, New}
use Rattle.add_files.specs.Plans.{Followed, document_at, follow_item, followed, is_new, item_given, listed_given, made_for, none_followed, own_given, own_of, placed, used_for}
use Rattle.add_calls.specs.Limits.{LimitsAsPlanned, OwnHolds, OwnsHold, both_numbered, caller_numbered, exceeds_planned, has_document, named_numbered, numbered_by, uses_documents}

-- ---- applications

pub numbered-length : (apps : List (List ℕ)) (app : List ℕ) (b : Bool) → is_numbered apps app ≡ b → length (numbered apps app) ≡ length apps + cond b 0 1
numbered-length apps app true e = ap (λ (b : Bool). length (cond b apps (apps ++ app ∷ []))) e ∙ (let n : length apps ≡ length apps + 0 = omega arith in n)
numbered-length apps app false e = ap (λ (b : Bool). length (cond b apps (apps ++ app ∷ []))) e ∙ length-append apps (app ∷ [])

-- the number that is looked up
inside-is : (apps : List (List ℕ)) (app : List ℕ) → is_numbered apps app ≡ nat_lt (position_or_len (λ name. is_same name app) apps) (length apps)
inside-is [] app = refl
inside-is (x ∷ xs) app = grind (arith, nat_tests, inside-is xs app, is_same-sym app x)

pub number-known : (apps : List (List ℕ)) (app : List ℕ) → is_some (number_of apps app) ≡ is_numbered apps app
number-known apps app = by-test (nat_lt (position_or_len (λ name. is_same name app) apps) (length apps)) (position_or_len (λ name. is_same name app) apps) ∙ sym (inside-is apps app)
  where
    by-test : (b : Bool) (n : ℕ) → is_some (option_map (λ at. at + 1) (cond b (Some n) None)) ≡ b
    by-test true n = refl
    by-test false n = refl

-- an application that has a number keeps it, and gets none again
still : (apps : List (List ℕ)) (app other : List ℕ) (b : Bool) → is_numbered (cond b apps (apps ++ app ∷ [])) other ≡ (is_numbered apps other || (not b && is_same other app))
still apps app other true = or-false (is_numbered apps other)
  where
    or-false : (x : Bool) → x ≡ (x || false)
    or-false true = refl
    or-false false = refl
still apps app other false = list_any-append (is_same other) apps (app ∷ []) ∙ ap (λ (b : Bool). is_numbered apps other || b) (or-false (is_same other app))
  where
    or-false : (x : Bool) → (x || false) ≡ x
    or-false true = refl
    or-false false = refl

pub numbered-then : (apps : List (List ℕ)) (app other : List ℕ) → is_numbered (numbered apps app) other ≡ (is_numbered apps other || is_same other app)
numbered-then apps app other = still apps app other (is_numbered apps app) ∙ by-test (is_numbered apps app) refl
  where
    by-test : (b : Bool) → is_numbered apps app ≡ b → (is_numbered apps other || (not b && is_same other app)) ≡ (is_numbered apps other || is_same other app)
    by-test false e = refl
    by-test true e = by-same (is_same other app) refl
      where
        by-same : (c : Bool) → is_same other app ≡ c → (is_numbered apps other || false) ≡ (is_numbered apps other || c)
        by-same false k = refl
        by-same true k =
            let same : other ≡ app = is_same-eq other app k in
            let there : is_numbered apps other ≡ true = subst (λ (x : List ℕ). is_numbered apps x ≡ true) (sym same) e in
            ap (λ (x : Bool). x || false) there ∙ sym (ap (λ (x : Bool). x || true) there)

pub numbered-itself : (apps : List (List ℕ)) (app : List ℕ) → is_numbered (numbered apps app) app ≡ true
numbered-itself apps app = numbered-then apps app app ∙ (ap (λ (b : Bool). is_numbered apps app || b) (is_same-refl app) ∙ or-true (is_numbered apps app))
  where
    or-true : (x : Bool) → (x || true) ≡ true
    or-true true = refl
    or-true false = refl

numbered-there : (apps : List (List ℕ)) (app : List ℕ) → is_numbered apps app ≡ true → numbered apps app ≡ apps
numbered-there apps app h = ap (λ (b : Bool). cond b apps (apps ++ app ∷ [])) h

numbered-stays : (apps : List (List ℕ)) (app other : List ℕ) → is_numbered apps other ≡ true → is_numbered (numbered apps app) other ≡ true
numbered-stays apps app other h = numbered-then apps app other ∙ ap (λ (b : Bool). b || is_same other app) h

named-stays : (app : Option (List ℕ)) (listed : RightSet) (apps : List (List ℕ)) (other : List ℕ) → is_numbered apps other ≡ true → is_numbered (named_numbered app listed apps) other ≡ true
named-stays None listed apps other h = h
named-stays (Some app) listed apps other h = by-any (holds_any listed)
  where
    by-any : (b : Bool) → is_numbered (cond b (numbered apps app) apps) other ≡ true
    by-any true = numbered-stays apps app other h
    by-any false = h

caller-again : (who : Who) (app : Option (List ℕ)) (listed : RightSet) (apps : List (List ℕ)) → caller_numbered who (both_numbered who app listed apps) ≡ both_numbered who app listed apps
caller-again Who.Host app listed apps = refl
caller-again (Who.App caller) app listed apps = numbered-there (named_numbered app listed (numbered apps caller)) caller (named-stays app listed (numbered apps caller) caller (numbered-itself apps caller))

named-again : (app : Option (List ℕ)) (listed : RightSet) (apps : List (List ℕ)) → named_numbered app listed (named_numbered app listed apps) ≡ named_numbered app listed apps
named-again None listed apps = refl
named-again (Some app) listed apps = by-any (holds_any listed)
  where
    by-any : (b : Bool) → cond b (numbered (cond b (numbered apps app) apps) app) (cond b (numbered apps app) apps) ≡ cond b (numbered apps app) apps
    by-any true = numbered-there (numbered apps app) app (numbered-itself apps app)
    by-any false = refl

-- both have their numbers then
pub numbered-once : (who : Who) (app : Option (List ℕ)) (listed : RightSet) (apps : List (List ℕ)) → both_numbered who app listed (both_numbered who app listed apps) ≡ both_numbered who app listed apps
numbered-once who app listed apps = ap (named_numbered app listed) (caller-again who app listed apps) ∙ named-again app listed (caller_numbered who apps)

-- ---- one item

pub own-holds : (who : Who) (a : AddRequest) (own : RightSet) (place : PlanUse) → own ≡ own_of who a place → has_document place ≡ true → OwnHolds who own
own-holds Who.Host a own place e h = tt
own-holds (Who.App app) a own LeftOut e h = cc
own-holds (Who.App app) a own (Live id) e h = ap holds_any e
own-holds (Who.App app) a own (Earlier k) e h = ap holds_any e
own-holds (Who.App app) a own New e h = ap holds_any e

module _ (who : Who) (app : Option (List ℕ)) (listed : RightSet) where
  own-apps : (one : Who) (own : RightSet) (id : DocId) (s : State) → OwnHolds one own → (own_given one own id s).applications ≡ caller_numbered one s.applications
  own-apps Who.Host own id s h = refl
  own-apps (Who.App caller) own id s h = ap (λ (b : Bool). cond b (numbered s.applications caller) s.applications) h

  listed-apps : (named : Option (List ℕ)) (id : DocId) (s : State) → (listed_given named listed id s).applications ≡ named_numbered named listed s.applications
  listed-apps None id s = refl
  listed-apps (Some name) id s = refl

  given-apps : (own : RightSet) (id : DocId) (s : State) → OwnHolds who own → (item_given who app listed own id s).applications ≡ both_numbered who app listed s.applications
  given-apps own id s h = listed-apps app id (own_given who own id s) ∙ ap (named_numbered app listed) (own-apps who own id s h)

  -- what rights leave as it is
  pub record Kept (s t : State) : Type 0 where
    pub made : t.made ≡ s.made
    pub live : t.documents ≡ s.documents
    pub limits : t.limits ≡ s.limits

  own-kept : (one : Who) (own : RightSet) (id : DocId) (s : State) → Kept s (own_given one own id s)
  own-kept Who.Host own id s = record { made = refl; live = refl; limits = refl }
  own-kept (Who.App caller) own id s = record { made = refl; live = refl; limits = refl }

  listed-kept : (named : Option (List ℕ)) (id : DocId) (s : State) → Kept s (listed_given named listed id s)
  listed-kept None id s = record { made = refl; live = refl; limits = refl }
  listed-kept (Some name) id s = record { made = refl; live = refl; limits = refl }

  pub given-kept : (own : RightSet) (id : DocId) (s : State) → Kept s (item_given who app listed own id s)
  given-kept own id s =
      let k = own-kept who own id s in
      let l = listed-kept app id (own_given who own id s) in
      record { made = l.made ∙ k.made; live = l.live ∙ k.live; limits = l.limits ∙ k.limits }

-- ---- all items

first-is : {X : Type 0} (x y : X) (xs ys : List X) → x ∷ xs ≡ y ∷ ys → x ≡ y
first-is x y xs ys e = cc

rest-is : {X : Type 0} (x y : X) (xs ys : List X) → x ∷ xs ≡ y ∷ ys → xs ≡ ys
rest-is x y xs ys e = cc

pub owns-hold : (who : Who) (a : AddRequest) (items : List PlanItem) → map (λ item. item.own) items ≡ map (λ item. own_of who a item.place) items → OwnsHold who items
owns-hold who a [] e = tt
owns-hold who a (item ∷ items) e = (
  (λ h. own-holds who a item.own item.place (first-is item.own (own_of who a item.place) (map (λ i. i.own) items) (map (λ i. own_of who a i.place) items) e) h),
  owns-hold who a items (rest-is item.own (own_of who a item.place) (map (λ i. i.own) items) (map (λ i. own_of who a i.place) items) e),
)

abbrev pub one_if : Bool → ℕ
one_if b = cond b 1 0

module _ (who : Who) (a : AddRequest) (app : Option (List ℕ)) (listed : RightSet) where
  pub record Counted (f g : Followed) (new : ℕ) (some : Bool) : Type 0 where
    pub made : length g.state.made ≡ length f.state.made + new
    pub live : length g.state.documents ≡ length f.state.documents + new
    pub limits : g.state.limits ≡ f.state.limits
    pub applications : g.state.applications ≡ cond some (both_numbered who app listed f.state.applications) f.state.applications

  none-more : (n : ℕ) → n ≡ n + 0
  none-more n = omega arith

  used-counted : (item : PlanItem) (f : Followed) (id : DocId) → OwnHolds who item.own → Counted f (used_for who app listed item f id) 0 true
  used-counted item f id h =
      let k = given-kept who app listed item.own id f.state in
      record {
        made = ap length k.made ∙ none-more (length f.state.made);
        live = ap length k.live ∙ none-more (length f.state.documents);
        limits = k.limits;
        applications = given-apps who app listed item.own id f.state h;
      }

  made-counted : (item : PlanItem) (f : Followed) → OwnHolds who item.own → Counted f (made_for who a app listed item f) 1 true
  made-counted item f h =
      let id = first_number f.numbers in
      let s : State = with_new_document (new_document a id item.path) f.state in
      let k = given-kept who app listed item.own id s in
      record {
        made = ap length k.made ∙ length-append f.state.made (id ∷ []);
        live = ap length k.live ∙ length-append f.state.documents (new_document a id item.path ∷ []);
        limits = k.limits;
        applications = given-apps who app listed item.own id s h;
      }

  placed-counted : (item : PlanItem) (f : Followed) (place : PlanUse) → (has_document place ≡ true → OwnHolds who item.own) → Counted f (placed who a app listed item f place) (one_if (is_new place)) (has_document place)
  placed-counted item f LeftOut h = record { made = none-more (length f.state.made); live = none-more (length f.state.documents); limits = refl; applications = refl }
  placed-counted item f (Live id) h = used-counted item f id (h refl)
  placed-counted item f (Earlier k) h = used-counted item f (document_at f.documents k) (h refl)
  placed-counted item f New h = made-counted item f (h refl)

  abbrev pub new_ones : List PlanItem → ℕ
  new_ones items = count_by (λ item. is_new item.place) items

  more-new : (item : PlanItem) (items : List PlanItem) (b : Bool) → is_new item.place ≡ b → new_ones (item ∷ items) ≡ one_if b + new_ones items
  more-new item items b e = sum_by-cons (λ (i : PlanItem). one_if (is_new i.place)) item items ∙ ap (λ (c : Bool). one_if c + new_ones items) e

  apps-joined : (x y z : List (List ℕ)) (b c : Bool) → y ≡ cond b (both_numbered who app listed x) x → z ≡ cond c (both_numbered who app listed y) y → z ≡ cond (b || c) (both_numbered who app listed x) x
  apps-joined x y z true true e k = k ∙ (ap (both_numbered who app listed) e ∙ numbered-once who app listed x)
  apps-joined x y z true false e k = k ∙ e
  apps-joined x y z false c e k = k ∙ ap (λ (apps : List (List ℕ)). cond c (both_numbered who app listed apps) apps) e

  pub items-counted : (items : List PlanItem) (f : Followed) → OwnsHold who items → Counted f (fold (follow_item who a app listed) f items) (new_ones items) (uses_documents items)
  items-counted [] f h = record { made = none-more (length f.state.made); live = none-more (length f.state.documents); limits = refl; applications = refl }
  items-counted (item ∷ items) f h =
      let g : Followed = follow_item who a app listed f item in
      let one : Counted f g (one_if (is_new item.place)) (has_document item.place) = placed-counted item f item.place h.0 in
      let rest = items-counted items g h.1 in
      let n = more-new item items (is_new item.place) refl in
      record {
        made = omega (arith, one.made, rest.made, n);
        live = omega (arith, one.live, rest.live, n);
        limits = rest.limits ∙ one.limits;
        applications = apps-joined f.state.applications g.state.applications (fold (follow_item who a app listed) g items).state.applications (has_document item.place) (uses_documents items) one.applications rest.applications;
      }

-- ---- a plan

pub as-planned : LimitsAsPlanned
as-planned who a plan documents s numbers call l m ml mm =
    let c = items-counted who a plan.app plan.listed plan.items (none_followed s numbers) (owns-hold who a plan.items call.own) in
    let made : length (followed who a plan s numbers).state.made ≡ length s.made + plan.used = c.made ∙ ap (λ (n : ℕ). length s.made + n) (sym call.used) in
    let live : length (followed who a plan s numbers).state.documents ≡ length s.documents + plan.used = c.live ∙ ap (λ (n : ℕ). length s.documents + n) (sym call.used) in
    let most_live = ap (λ x. x.documents) c.limits ∙ ml in
    let most_made = ap (λ x. x.made) c.limits ∙ mm in
    let live_is = live ∙ ap (λ (ds : List _). length ds + plan.used) l in
    let made_is = made ∙ ap (λ (ds : List _). length ds + plan.used) m in
    record {
      makes = made;
      exceeds = λ i. nat_lt (most_live i) (live_is i) || (nat_lt (most_made i) (made_is i) || nat_lt applications_limit (length (c.applications i)));
    }

-- ---- what the code counts

pub room-is : (documents : DocumentList) (used : ℕ) → AreKept documents →
    nat_lt (room documents) used ≡ (nat_lt documents.most_live (length documents.live + used) || nat_lt documents.most_made (length documents.made + used))
room-is documents used k =
    let live : length documents.live ≤ documents.most_live = k.live_within in
    let made : length documents.made ≤ documents.most_made = k.made_within in
    by-least documents.most_live documents.most_made (length documents.live) (length documents.made) used live made
  where
    by-least : (a b c d u : ℕ) → c ≤ a → d ≤ b → nat_lt (min (a - c) (b - d)) u ≡ (nat_lt a (c + u) || nat_lt b (d + u))
    by-least a b c d u h l = grind (arith, nat_tests)

or-three : (a b c : Bool) → ((a || b) || c) ≡ (a || (b || c))
or-three true b c = refl
or-three false b c = refl

pub exceeds-is : (documents : DocumentList) (apps : List (List ℕ)) (who : Who) (plan : AddPlan) (room_left more : ℕ) → room_left ≡ room documents → AreKept documents →
    length (numbered_by who plan apps) ≡ length apps + more → (nat_lt room_left plan.used || nat_lt applications_limit (length apps + more)) ≡ exceeds_planned documents apps who plan
exceeds-is documents apps who plan room_left more e k h =
    (λ i. nat_lt (e i) plan.used || nat_lt applications_limit (sym h i))
    ∙ (ap (λ (b : Bool). b || nat_lt applications_limit (length (numbered_by who plan apps))) (room-is documents plan.used k)
    ∙ or-three (nat_lt documents.most_live (length documents.live + plan.used)) (nat_lt documents.most_made (length documents.made + plan.used)) (nat_lt applications_limit (length (numbered_by who plan apps))))

-- an application is numbered once the caller is
pub caller-or : (apps : List (List ℕ)) (who : Who) (app : List ℕ) → (is_app app who || is_numbered apps app) ≡ is_numbered (caller_numbered who apps) app
caller-or apps Who.Host app = refl
caller-or apps (Who.App caller) app =
    swap (is_same caller app) (is_numbered apps app) ∙ (ap (λ (b : Bool). is_numbered apps app || b) (is_same-sym caller app) ∙ sym (numbered-then apps caller app))
  where
    swap : (a b : Bool) → (a || b) ≡ (b || a)
    swap true true = refl
    swap true false = refl
    swap false true = refl
    swap false false = refl

-- an application that gets these rights has a number then
pub with-length : (apps : List (List ℕ)) (app : List ℕ) (set : RightSet) (b : Bool) → (is_no_right set || is_numbered apps app) ≡ b → length (numbered_with app set apps) ≡ length apps + cond b 0 1
with-length apps app set b e = by-any (holds_any set) b e
  where
    by-any : (any b : Bool) → (not any || is_numbered apps app) ≡ b → length (cond any (numbered apps app) apps) ≡ length apps + cond b 0 1
    by-any true b e = numbered-length apps app b e
    by-any false true e = none-more (length apps)
      where
        none-more : (n : ℕ) → n ≡ n + 0
        none-more n = omega arith
    by-any false false e = cc

pub caller-yes : (apps : List (List ℕ)) (who : Who) (app : List ℕ) (b : Bool) → b ≡ is_app app who → b ≡ true → b ≡ is_numbered (caller_numbered who apps) app
caller-yes apps who app b e h = h ∙ (sym (ap (λ (x : Bool). x || is_numbered apps app) (sym e ∙ h)) ∙ caller-or apps who app)

pub caller-no : (apps : List (List ℕ)) (who : Who) (app : List ℕ) (b c : Bool) → b ≡ is_app app who → b ≡ false → c ≡ is_numbered apps app → c ≡ is_numbered (caller_numbered who apps) app
caller-no apps who app b c e h k = k ∙ (sym (ap (λ (x : Bool). x || is_numbered apps app) (sym e ∙ h)) ∙ caller-or apps who app)
