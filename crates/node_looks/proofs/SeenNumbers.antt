-- A name in the root of a view: which of the documents that are seen there it identifies.
use Rattle.std.proofs.Common.{◌≡◌, ◌<◌, ◌^◌, ℕ, ◌==◌, ◌&&◌, ◌||◌, List, [], ◌∷◌, map, Bool, true, false, cond, Option, Some, None, is_some, refl, sym, ap, ◌∙◌, arith}
use Rattle.std.specs.List.{filter, find, list_all}
use Rattle.std.specs.Option.{option_map}
use Rattle.std.proofs.lemmas.Bool.Decides.{nat_tests}
use Rattle.portal_base.specs.DocIds.{doc_id_of}
use Rattle.portal_base.specs.Names.{doc_text, is_same}
use Rattle.portal_base.specs.declared.names.doc_id.DocId.{DocId}
use Rattle.portal_base.specs.declared.who.Who.{Who}
use Rattle.portal_base.proofs.DocIdDigits.{digits_again, doc_text-digits}
use Rattle.portal_base.proofs.OwnFolders.{same_is}
use Rattle.portal_base.proofs.RefusedNames.{no_true}
use Rattle.portal_model.specs.declared.rights.Right.TheVariants.{Read}
use Rattle.portal_model.specs.declared.state.Document.{Document}
use Rattle.portal_model.specs.declared.state.Triple.{Triple}
use Rattle.portal_model.specs.ListDocuments.{lower}
use Rattle.portal_model.specs.Lookup.{folder_in_root}
use Rattle.portal_model.specs.Ordered.{put, put_all}
use Rattle.portal_model.specs.Place.{folder_node, may_read, numbers_seen}
use Rattle.portal_model.specs.State.{document_of, who_has}
use Rattle.portal_model.specs.Valid.{has_identifier}
use Rattle.node_looks.specs.Names.{is_number, where_seen}
use Rattle.node_looks.specs.Sights.{sees}

-- ---- what a name identifies

text-read : (n : ℕ) → n < 2 ^ 32 → doc_id_of (doc_text n) ≡ Some (record { number = n })
text-read n l = ap doc_id_of (sym (doc_text-digits n)) ∙ digits_again n l

no-id : (id : DocId) → None ≡ Some id → ⊥
no-id id e = cc

pub unread : (name : List ℕ) → None ≡ doc_id_of name → (n : ℕ) → n < 2 ^ 32 → is_same (doc_text n) name ≡ false
unread name e n l = no_true (is_same (doc_text n) name) (λ h. no-id (record { number = n }) (e ∙ (ap doc_id_of (sym (same_is (doc_text n) name h)) ∙ text-read n l)))

same-number : (id : DocId) (n : ℕ) → Some id ≡ Some (record { number = n }) → id.number ≡ n
same-number id n e = let same : id ≡ record { number = n } = cc in ap (λ (x : DocId). x.number) same

read-number : (name : List ℕ) (id : DocId) → Some id ≡ doc_id_of name → (n : ℕ) → n < 2 ^ 32 → is_same (doc_text n) name ≡ true → id.number ≡ n
read-number name id e n l h = same-number id n (e ∙ (ap doc_id_of (sym (same_is (doc_text n) name h)) ∙ text-read n l))

-- the text of the identifier isn't the name
pub other-text : (name : List ℕ) (id : DocId) → Some id ≡ doc_id_of name → is_same (doc_text id.number) name ≡ false → (n : ℕ) → n < 2 ^ 32 → is_same (doc_text n) name ≡ false
other-text name id e o n l =
    no_true (is_same (doc_text n) name) (λ h.
    let same : id.number ≡ n = read-number name id e n l h in
    let yes : is_same (doc_text id.number) name ≡ true = ap (λ (m : ℕ). is_same (doc_text m) name) same ∙ h in
    let no : true ≡ false = sym yes ∙ o in
    cc)

equal-test : (a b : ℕ) → b ≡ a → (a == b) ≡ true
equal-test a b e = grind (arith, nat_tests, e)

unequal-test : (a b : ℕ) → (a ≡ b → ⊥) → (a == b) ≡ false
unequal-test a b h = grind (arith, nat_tests, h)

-- it is
pub own-text : (name : List ℕ) (id : DocId) → Some id ≡ doc_id_of name → is_same (doc_text id.number) name ≡ true → (n : ℕ) → n < 2 ^ 32 → is_same (doc_text n) name ≡ (n == id.number)
own-text name id e y n l = by (is_same (doc_text n) name) refl
  where
    by : (b : Bool) → is_same (doc_text n) name ≡ b → b ≡ (n == id.number)
    by true h = sym (equal-test n id.number (read-number name id e n l h))
    by false h = sym (unequal-test n id.number (λ s.
        let yes : is_same (doc_text n) name ≡ true = ap (λ (m : ℕ). is_same (doc_text m) name) s ∙ y in
        let no : true ≡ false = sym yes ∙ h in
        cc))

-- ---- the documents that are seen

abbrev pub Agrees : (ℕ → Bool) → Option DocId → Type 0
Agrees test id = (n : ℕ) → n < 2 ^ 32 → test n ≡ is_number id n

module _ (test : ℕ → Bool) where
  abbrev found : List Document → Option ℕ
  found ds = find test (map (λ d. d.id.number) ds)

  small : (d : Document) → has_identifier d ≡ true → d.id.number < 2 ^ 32
  small d h = grind (arith, nat_tests, h)

  -- a name that identifies nothing finds nothing
  none-found : (h : (n : ℕ) → n < 2 ^ 32 → test n ≡ false) (ds : List Document) → list_all has_identifier ds ≡ true → found ds ≡ None
  none-found h [] a = refl
  none-found h (d ∷ ds) a =
      let here : has_identifier d ≡ true = grind (arith, a) in
      let rest : list_all has_identifier ds ≡ true = grind (arith, a) in
      let no : test d.id.number ≡ false = h d.id.number (small d here) in
      rw no (none-found h ds rest)

  module _ (k : ℕ) (h : (n : ℕ) → n < 2 ^ 32 → test n ≡ (n == k)) where
    is-k : (n : ℕ) → (n == k) ≡ true → Some n ≡ Some k
    is-k n e = let same : n ≡ k = grind (arith, nat_tests, e) in ap (λ (m : ℕ). Some m) same

    -- by whether one of them has the number
    some-found : (ds : List Document) → list_all has_identifier ds ≡ true → found ds ≡ cond (is_some (document_of ds k)) (Some k) None
    some-found [] a = refl
    some-found (d ∷ ds) a =
        let here : has_identifier d ≡ true = grind (arith, a) in
        let rest : list_all has_identifier ds ≡ true = grind (arith, a) in
        let first : test d.id.number ≡ (d.id.number == k) = h d.id.number (small d here) in
        by (d.id.number == k) refl first (some-found ds rest)
      where
        by : (b : Bool) → (d.id.number == k) ≡ b → test d.id.number ≡ (d.id.number == k) → found ds ≡ cond (is_some (document_of ds k)) (Some k) None →
            cond (test d.id.number) (Some d.id.number) (found ds) ≡ cond (is_some (cond (d.id.number == k) (Some d) (document_of ds k))) (Some k) None
        by true e f more = rw (f, e) (is-k d.id.number e)
        by false e f more = rw (f, e) more

-- ---- the order in which they stand doesn't matter

has-put : (k : ℕ) (d : Document) (ds : List Document) → is_some (document_of (put lower d ds) k) ≡ ((d.id.number == k) || is_some (document_of ds k))
has-put k d [] = by (d.id.number == k)
  where
    by : (b : Bool) → is_some (cond b (Some d) None) ≡ (b || false)
    by true = refl
    by false = refl
has-put k d (e ∷ es) = grind (arith, nat_tests, has-put k d es)

has-put_all : (k : ℕ) (ds : List Document) → is_some (document_of (put_all lower ds) k) ≡ is_some (document_of ds k)
has-put_all k [] = refl
has-put_all k (d ∷ ds) = has-put k d (put_all lower ds) ∙ by (d.id.number == k) (has-put_all k ds)
  where
    by : (b : Bool) → is_some (document_of (put_all lower ds) k) ≡ is_some (document_of ds k) → (b || is_some (document_of (put_all lower ds) k)) ≡ is_some (cond b (Some d) (document_of ds k))
    by true h = refl
    by false h = h

all-put : (p : Document → Bool) (d : Document) (ds : List Document) → p d ≡ true → list_all p ds ≡ true → list_all p (put lower d ds) ≡ true
all-put p d [] h a = grind (arith, h)
all-put p d (e ∷ es) h a = grind (arith, all-put p d es)

all-put_all : (p : Document → Bool) (ds : List Document) → list_all p ds ≡ true → list_all p (put_all lower ds) ≡ true
all-put_all p [] a = refl
all-put_all p (d ∷ ds) a =
    let here : p d ≡ true = grind (arith, a) in
    let rest : list_all p ds ≡ true = grind (arith, a) in
    all-put p d (put_all lower ds) here (all-put_all p ds rest)

all-filter : (p q : Document → Bool) (ds : List Document) → list_all p ds ≡ true → list_all p (filter q ds) ≡ true
all-filter p q [] a = refl
all-filter p q (d ∷ ds) a = grind (arith, all-filter p q ds)

-- ---- those that may be read

module _ (rights : List Triple) (who : Who) (k : ℕ) where
  has-readable : (ds : List Document) → is_some (document_of (filter (may_read rights who) ds) k) ≡ sees rights who ds k
  has-readable [] = refl
  has-readable (d ∷ ds) = by (d.id.number == k) (may_read rights who d) refl refl (has-readable ds)
    where
      by : (b m : Bool) → (d.id.number == k) ≡ b → may_read rights who d ≡ m → is_some (document_of (filter (may_read rights who) ds) k) ≡ sees rights who ds k →
          is_some (document_of (cond (may_read rights who d) (d ∷ filter (may_read rights who) ds) (filter (may_read rights who) ds)) k)
          ≡ (is_some (cond (d.id.number == k) (Some d) (document_of ds k)) && who_has rights who k Read)
      by true true e r more =
          let same : d.id.number ≡ k = grind (arith, nat_tests, e) in
          let has : who_has rights who k Read ≡ true = ap (λ (n : ℕ). who_has rights who n Read) (sym same) ∙ r in
          rw (r, e, has) refl
      by true false e r more =
          let same : d.id.number ≡ k = grind (arith, nat_tests, e) in
          let has : who_has rights who k Read ≡ false = ap (λ (n : ℕ). who_has rights who n Read) (sym same) ∙ r in
          rw (r, e, has) (more ∙ nothing (is_some (document_of ds k)) (who_has rights who k Read) has)
        where
          nothing : (b c : Bool) → c ≡ false → (b && c) ≡ false
          nothing true c h = h
          nothing false c h = refl
      by false true e r more = rw (r, e) more
      by false false e r more = rw (r, e) more

seen-by : (rights : List Triple) (who : Who) (ds : List Document) (name : List ℕ) (id : Option DocId) → Agrees (λ n. is_same (doc_text n) name) id → list_all has_identifier ds ≡ true →
    find (λ n. is_same (doc_text n) name) (numbers_seen rights who ds) ≡ where_seen id (sees rights who ds)
seen-by rights who ds name None h a =
    none-found (λ n. is_same (doc_text n) name) h (put_all lower (filter (may_read rights who) ds))
    (all-put_all has_identifier (filter (may_read rights who) ds) (all-filter has_identifier (may_read rights who) ds a))
seen-by rights who ds name (Some id) h a =
    some-found (λ n. is_same (doc_text n) name) id.number h (put_all lower (filter (may_read rights who) ds))
    (all-put_all has_identifier (filter (may_read rights who) ds) (all-filter has_identifier (may_read rights who) ds a))
    ∙ ap (λ (b : Bool). cond b (Some id.number) None) (has-put_all id.number (filter (may_read rights who) ds) ∙ has-readable rights who id.number ds)

-- the folder that has the name, where there is one
pub folder-named : (view : ℕ) (rights : List Triple) (who : Who) (ds : List Document) (name : List ℕ) (id : Option DocId) → Agrees (λ n. is_same (doc_text n) name) id → list_all has_identifier ds ≡ true →
    folder_in_root view (numbers_seen rights who ds) name ≡ option_map (folder_node view) (where_seen id (sees rights who ds))
folder-named view rights who ds name id h a = ap (option_map (folder_node view)) (seen-by rights who ds name id h a)
