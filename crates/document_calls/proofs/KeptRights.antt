-- Whether the records change where rights in one document do.
use Rattle.std.proofs.Common.{◌≡◌, ℕ, ◌==◌, List, [], ◌∷◌, map, Bool, true, false, not, ◌&&◌, ◌||◌, cond, Some, refl, sym, ap, ◌∙◌, arith}
use Rattle.std.specs.List.{filter, list_any}
use Rattle.portal_base.specs.Names.{is_same}
use Rattle.rights_rule.specs.Rights.{RightSet, holds_any, is_no_right, minus}
use Rattle.portal_model.specs.declared.records.DocRecord.{DocRecord}
use Rattle.portal_model.specs.declared.records.GrantRecord.{GrantRecord}
use Rattle.portal_model.specs.declared.rights.Right.{Right}
use Rattle.portal_model.specs.declared.rights.Right.TheVariants.{Read, Write, GrantPermissions, Delete}
use Rattle.portal_model.specs.declared.state.Document.{Document}
use Rattle.portal_model.specs.declared.state.Triple.{Triple}
use Rattle.portal_model.specs.Info.{holders}
use Rattle.portal_model.specs.Kept.{bits_of, document_record, grant_record}
use Rattle.portal_model.specs.Opening.{set_of_bits}
use Rattle.portal_model.specs.Ordered.{bytes_less}
use Rattle.portal_model.specs.RecordChanges.{is_numbered}
use Rattle.portal_model.specs.Rights.{is_in, is_listed, take_rights}
use Rattle.portal_model.specs.State.{app_has, bit_of, document_of, gives, held_of, same_right}
use Rattle.portal_model.proofs.RisingLists.{Order, any-put_all}
use Rattle.portal_model.proofs.TripleOrder.{bits-apart, bytes-irreflexive, bytes-through, bytes-total, is_same-eq, is_same-refl, nat-itself, nat_is}
use Rattle.document_calls.specs.Changes.{shares}
use Rattle.document_records.specs.Documents.{is_kept, is_persistent}
use Rattle.document_records.proofs.KeptDocuments.{kept_records}

-- ---- the rights that records give

abbrev pub bits_among : List ℕ → List GrantRecord → ℕ
bits_among app [] = 0
bits_among app (g ∷ gs) = cond (is_same g.app app) g.rights (bits_among app gs)

abbrev pub bits_in : ℕ → List ℕ → List DocRecord → ℕ
bits_in number app [] = 0
bits_in number app (r ∷ rs) = cond (is_numbered number r) (bits_among app r.grants) (bits_in number app rs)

names_order : Order bytes_less is_same
names_order = record { eq = is_same-eq; itself = is_same-refl; irreflexive = bytes-irreflexive; total = bytes-total; through = bytes-through }

among-are : (rights : List Triple) (number : ℕ) (app : List ℕ) (names : List (List ℕ)) →
    bits_among app (map (grant_record rights number) names) ≡ cond (list_any (λ x. is_same x app) names) (bits_of (held_of rights app number)) 0
among-are rights number app [] = refl
among-are rights number app (x ∷ names) = step (is_same x app) refl (among-are rights number app names)
  where
    step : (b : Bool) → is_same x app ≡ b → bits_among app (map (grant_record rights number) names) ≡ cond (list_any (λ y. is_same y app) names) (bits_of (held_of rights app number)) 0 →
        cond b (bits_of (held_of rights x number)) (bits_among app (map (grant_record rights number) names)) ≡ cond (b || list_any (λ y. is_same y app) names) (bits_of (held_of rights app number)) 0
    step true k more = ap (λ (name : List ℕ). bits_of (held_of rights name number)) (is_same-eq x app k)
    step false k more = more

four-or : (a b : Bool) (right : Right) (r w g d : Bool) →
    (((a && (b && same_right right Read)) || r) || (((a && (b && same_right right Write)) || w)
    || (((a && (b && same_right right GrantPermissions)) || g) || ((a && (b && same_right right Delete)) || d)))) ≡ ((b && a) || (r || (w || (g || d))))
four-or a b Read r w g d = grind arith
four-or a b Write r w g d = grind arith
four-or a b GrantPermissions r w g d = grind arith
four-or a b Delete r w g d = grind arith

module _ (number : ℕ) (app : List ℕ) where
  abbrev names_here : List Triple → List (List ℕ)
  names_here ts = map (λ (t : Triple). t.app) (filter (λ (t : Triple). t.id.number == number) ts)

  one-name : (t : Triple) (b : Bool) (ts : List Triple) →
      list_any (λ x. is_same x app) (map (λ (u : Triple). u.app) (cond b (t ∷ filter (λ (u : Triple). u.id.number == number) ts) (filter (λ (u : Triple). u.id.number == number) ts)))
      ≡ ((b && is_same t.app app) || list_any (λ x. is_same x app) (names_here ts))
  one-name t true ts = refl
  one-name t false ts = refl

  any-here : (ts : List Triple) → list_any (λ x. is_same x app) (names_here ts) ≡ holds_any (held_of ts app number)
  any-here [] = refl
  any-here (t ∷ ts) =
      one-name t (t.id.number == number) ts
      ∙ (ap (λ (x : Bool). (t.id.number == number && is_same t.app app) || x) (any-here ts)
      ∙ sym (four-or (is_same t.app app) (t.id.number == number) t.right (app_has ts app number Read) (app_has ts app number Write) (app_has ts app number GrantPermissions) (app_has ts app number Delete)))

none-bits : (r w g d : Bool) → let set : RightSet = record { read = r; write = w; grant_permissions = g; delete = d } in cond (holds_any set) (bits_of set) 0 ≡ bits_of set
none-bits true w g d = refl
none-bits false true g d = refl
none-bits false false true d = refl
none-bits false false false true = refl
none-bits false false false false = refl

pub bits-among : (rights : List Triple) (number : ℕ) (app : List ℕ) → bits_among app (map (grant_record rights number) (holders rights number)) ≡ bits_of (held_of rights app number)
bits-among rights number app =
    among-are rights number app (holders rights number)
    ∙ (ap (λ (b : Bool). cond b (bits_of (held_of rights app number)) 0) (any-put_all bytes_less is_same names_order (λ x. is_same x app) (names_here number app rights) ∙ any-here number app rights)
    ∙ none-bits (app_has rights app number Read) (app_has rights app number Write) (app_has rights app number GrantPermissions) (app_has rights app number Delete))

pub bits-kept : (number : ℕ) (app : List ℕ) (rights : List Triple) (documents : List Document) → is_kept documents number ≡ true → bits_in number app (kept_records rights documents) ≡ bits_of (held_of rights app number)
bits-kept number app rights [] h = cc
bits-kept number app rights (d ∷ documents) h = step d.persistent (d.id.number == number) refl refl h (bits-kept number app rights documents)
  where
    step : (p b : Bool) → d.persistent ≡ p → (d.id.number == number) ≡ b → is_persistent (cond b (Some d) (document_of documents number)) ≡ true →
        (is_kept documents number ≡ true → bits_in number app (kept_records rights documents) ≡ bits_of (held_of rights app number)) →
        bits_in number app (map (document_record rights) (cond p (d ∷ filter (λ (e : Document). e.persistent) documents) (filter (λ (e : Document). e.persistent) documents))) ≡ bits_of (held_of rights app number)
    step true true e k f more =
        ap (λ (c : Bool). cond c (bits_among app (map (grant_record rights d.id.number) (holders rights d.id.number))) (bits_in number app (kept_records rights documents))) k
        ∙ (bits-among rights d.id.number app ∙ ap (λ (n : ℕ). bits_of (held_of rights app n)) (nat_is d.id.number number k))
    step true false e k f more =
        ap (λ (c : Bool). cond c (bits_among app (map (grant_record rights d.id.number) (holders rights d.id.number))) (bits_in number app (kept_records rights documents))) k ∙ more f
    step false true e k f more = let no : true ≡ false = sym f ∙ e in cc
    step false false e k f more = more f

pub set-again : (r w g d : Bool) → set_of_bits (bits_of (record { read = r; write = w; grant_permissions = g; delete = d })) ≡ record { read = r; write = w; grant_permissions = g; delete = d }
set-again true true true true = refl
set-again true true true false = refl
set-again true true false true = refl
set-again true true false false = refl
set-again true false true true = refl
set-again true false true false = refl
set-again true false false true = refl
set-again true false false false = refl
set-again false true true true = refl
set-again false true true false = refl
set-again false true false true = refl
set-again false true false false = refl
set-again false false true true = refl
set-again false false true false = refl
set-again false false false true = refl
set-again false false false false = refl

-- the same records give the same rights in a document that they hold
pub same-held : (number : ℕ) (app : List ℕ) (rights others : List Triple) (documents : List Document) → is_kept documents number ≡ true → kept_records rights documents ≡ kept_records others documents →
    held_of rights app number ≡ held_of others app number
same-held number app rights others documents k e =
    let bits : bits_of (held_of rights app number) ≡ bits_of (held_of others app number) =
    sym (bits-kept number app rights documents k) ∙ (ap (bits_in number app) e ∙ bits-kept number app others documents k) in
    sym (set-again (app_has rights app number Read) (app_has rights app number Write) (app_has rights app number GrantPermissions) (app_has rights app number Delete))
    ∙ (ap set_of_bits bits
    ∙ set-again (app_has others app number Read) (app_has others app number Write) (app_has others app number GrantPermissions) (app_has others app number Delete))

-- ---- rights that are taken

pub any-take : (p q : Triple → Bool) (w : Bool) → ((t : Triple) → p t ≡ true → q t ≡ w) → (rights : List Triple) → list_any p (filter (λ t. not (q t)) rights) ≡ (list_any p rights && not w)
any-take p q w h [] = refl
any-take p q w h (t ∷ ts) = grind (arith, any-take p q w h ts, h t)

module _ (app : List ℕ) (number : ℕ) (set : RightSet) where
  listed-is : (right : Right) (t : Triple) → gives app number right t ≡ true → is_listed app number set t ≡ is_in set right
  listed-is right t h =
      let a : is_same t.app app ≡ true = grind arith in
      let b : (t.id.number == number) ≡ true = grind arith in
      let c : same_right t.right right ≡ true = grind arith in
      let z : t.right ≡ right = bits-apart t.right right (nat_is (bit_of t.right) (bit_of right) c) in
      (λ i. a i && (b i && is_in set (z i)))

  has-taken : (rights : List Triple) (right : Right) → app_has (take_rights app number set rights) app number right ≡ (app_has rights app number right && not (is_in set right))
  has-taken rights right = any-take (gives app number right) (is_listed app number set) (is_in set right) (listed-is right) rights

  pub held-taken : (rights : List Triple) → held_of (take_rights app number set rights) app number ≡ minus (held_of rights app number) set
  held-taken rights = λ i. record { read = has-taken rights Read i; write = has-taken rights Write i; grant_permissions = has-taken rights GrantPermissions i; delete = has-taken rights Delete i }

  gives-own : (t : Triple) → is_listed app number set t ≡ true → gives app number t.right t ≡ true
  gives-own t h = grind (arith, nat-itself (bit_of t.right))

  in-set : (t : Triple) → is_listed app number set t ≡ true → is_in set t.right ≡ true
  in-set t h = grind arith

  -- none of these rights is held: all stay
  pub none-taken : (rights : List Triple) → ((right : Right) → is_in set right ≡ true → app_has rights app number right ≡ false) → take_rights app number set rights ≡ rights
  none-taken [] h = refl
  none-taken (t ∷ ts) h = step (is_listed app number set t) refl (none-taken ts (λ right k. behind right (h right k)))
    where
      behind : (right : Right) → app_has (t ∷ ts) app number right ≡ false → app_has ts app number right ≡ false
      behind right e = grind arith

      step : (b : Bool) → is_listed app number set t ≡ b → take_rights app number set ts ≡ ts → cond (not b) (t ∷ take_rights app number set ts) (take_rights app number set ts) ≡ t ∷ ts
      step true k more =
          let off : app_has (t ∷ ts) app number t.right ≡ false = h t.right (in-set t k) in
          let on : gives app number t.right t ≡ true = gives-own t k in
          let no : true ≡ false = sym (ap (λ (b : Bool). b || app_has ts app number t.right) on) ∙ off in
          cc
      step false k more = ap (λ (us : List Triple). t ∷ us) more

unshared : (a b : RightSet) (right : Right) → shares a b ≡ false → is_in b right ≡ true → is_in a right ≡ false
unshared a b Read h k = grind arith
unshared a b Write h k = grind arith
unshared a b GrantPermissions h k = grind arith
unshared a b Delete h k = grind arith

pub minus-itself : (a : RightSet) → is_no_right (minus a a) ≡ true
minus-itself a = grind arith

pub taken-stays : (app : List ℕ) (number : ℕ) (set : RightSet) (rights : List Triple) → shares (held_of rights app number) set ≡ false → take_rights app number set rights ≡ rights
taken-stays app number set rights h = none-taken app number set rights held
  where
    held : (right : Right) → is_in set right ≡ true → app_has rights app number right ≡ false
    held Read k = unshared (held_of rights app number) set Read h k
    held Write k = unshared (held_of rights app number) set Write h k
    held GrantPermissions k = unshared (held_of rights app number) set GrantPermissions h k
    held Delete k = unshared (held_of rights app number) set Delete h k

pub taken-differs : (app : List ℕ) (number : ℕ) (set : RightSet) (rights : List Triple) (documents : List Document) → is_kept documents number ≡ true → shares (held_of rights app number) set ≡ true →
    kept_records (take_rights app number set rights) documents ≡ kept_records rights documents → ⊥
taken-differs app number set rights documents k h e =
    let held : RightSet = held_of rights app number in
    let same : minus held set ≡ held = sym (held-taken app number set rights) ∙ same-held number app (take_rights app number set rights) rights documents k e in
    let none : shares held set ≡ false = ap (λ (x : RightSet). not (is_no_right (minus held x))) same ∙ ap not (minus-itself held) in
    let no : true ≡ false = sym h ∙ none in
    cc
