-- Whether records of documents are the same is decided.
use Rattle.std.proofs.Common.{◌≡◌, ◌==◌, List, [], ◌∷◌, Bool, true, false, ◌&&◌, refl, sym, ap, ◌∙◌}
use Rattle.portal_base.specs.Names.{is_same}
use Rattle.portal_model.specs.declared.records.DocRecord.{DocRecord}
use Rattle.portal_model.specs.declared.records.GrantRecord.{GrantRecord}
use Rattle.portal_model.specs.Documents.{same_flag}
use Rattle.portal_model.proofs.TripleOrder.{is_same-eq, is_same-refl, nat-itself, nat_is}

both : (a b : Bool) → (a && b) ≡ true → (a ≡ true) × (b ≡ true)
both true true h = (refl, refl)
both true false h = cc
both false b h = cc

abbrev pub same_all : {X : Type 0} → (X → X → Bool) → List X → List X → Bool
same_all same [] [] = true
same_all same [] (y ∷ ys) = false
same_all same (x ∷ xs) [] = false
same_all same (x ∷ xs) (y ∷ ys) = same x y && same_all same xs ys

module _ {X : Type 0} (same : X → X → Bool) (eq : (a b : X) → same a b ≡ true → a ≡ b) (itself : (a : X) → same a a ≡ true) where
  same_all-eq : (xs ys : List X) → same_all same xs ys ≡ true → xs ≡ ys
  same_all-eq [] [] h = refl
  same_all-eq [] (y ∷ ys) h = cc
  same_all-eq (x ∷ xs) [] h = cc
  same_all-eq (x ∷ xs) (y ∷ ys) h =
      let p = both (same x y) (same_all same xs ys) h in
      λ i. eq x y p.0 i ∷ same_all-eq xs ys p.1 i

  same_all-itself : (xs : List X) → same_all same xs xs ≡ true
  same_all-itself [] = refl
  same_all-itself (x ∷ xs) = λ i. itself x i && same_all-itself xs i

flag-eq : (a b : Bool) → same_flag a b ≡ true → a ≡ b
flag-eq true true h = refl
flag-eq true false h = cc
flag-eq false true h = cc
flag-eq false false h = refl

flag-itself : (a : Bool) → same_flag a a ≡ true
flag-itself true = refl
flag-itself false = refl

abbrev pub same_grant : GrantRecord → GrantRecord → Bool
same_grant g h = is_same g.app h.app && g.rights == h.rights

grant-eq : (g h : GrantRecord) → same_grant g h ≡ true → g ≡ h
grant-eq g h e =
    let p = both (is_same g.app h.app) (g.rights == h.rights) e in
    λ i. record { app = is_same-eq g.app h.app p.0 i; rights = nat_is g.rights h.rights p.1 i }

grant-itself : (g : GrantRecord) → same_grant g g ≡ true
grant-itself g = λ i. is_same-refl g.app i && nat-itself g.rights i

abbrev pub same_record : DocRecord → DocRecord → Bool
same_record a b = (a.number == b.number)
    && (is_same a.path b.path
    && (same_flag a.reusable b.reusable && (same_flag a.strict b.strict && same_all same_grant a.grants b.grants)))

record-eq : (a b : DocRecord) → same_record a b ≡ true → a ≡ b
record-eq a b e =
    let more = same_flag a.strict b.strict && same_all same_grant a.grants b.grants in
    let p = both (a.number == b.number) (is_same a.path b.path && (same_flag a.reusable b.reusable && more)) e in
    let q = both (is_same a.path b.path) (same_flag a.reusable b.reusable && more) p.1 in
    let r = both (same_flag a.reusable b.reusable) more q.1 in
    let t = both (same_flag a.strict b.strict) (same_all same_grant a.grants b.grants) r.1 in
    λ i. record {
      number = nat_is a.number b.number p.0 i;
      path = is_same-eq a.path b.path q.0 i;
      reusable = flag-eq a.reusable b.reusable r.0 i;
      strict = flag-eq a.strict b.strict t.0 i;
      grants = same_all-eq same_grant grant-eq grant-itself a.grants b.grants t.1 i;
    }

record-itself : (a : DocRecord) → same_record a a ≡ true
record-itself a = λ i. nat-itself a.number i
    && (is_same-refl a.path i
    && (flag-itself a.reusable i && (flag-itself a.strict i && same_all-itself same_grant grant-eq grant-itself a.grants i)))

abbrev pub same_records : List DocRecord → List DocRecord → Bool
same_records = same_all same_record

pub same_records-eq : (xs ys : List DocRecord) → same_records xs ys ≡ true → xs ≡ ys
same_records-eq = same_all-eq same_record record-eq record-itself

pub same_records-not : (xs ys : List DocRecord) → same_records xs ys ≡ false → xs ≡ ys → ⊥
same_records-not xs ys h e =
    let no : true ≡ false = sym (same_all-itself same_record record-eq record-itself xs) ∙ (ap (λ (zs : List DocRecord). same_records xs zs) e ∙ h) in
    cc
