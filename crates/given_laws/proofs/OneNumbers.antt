-- Words that were drawn are told by those that were to come and how many they are, and new documents get one list of numbers by them.
use Rattle.std.proofs.Common.{◌≡◌, ℕ, ◌<◌, ◌^◌, List, [], ◌∷◌, ◌++◌, length, nat_lt, Bool, true, false, refl, sym, ap, subst, ◌∙◌, arith}
use Rattle.std.proofs.lemmas.Bool.Decides.{nat_tests}
use Rattle.portal_base.specs.declared.names.doc_id.DocId.{DocId}
use Rattle.portal_model.specs.Documents.{IsUnused, above}
use Rattle.portal_model.specs.Outside.{AreDrawn}
use Rattle.given_laws.specs.OneGiven.{AreFirst}

-- as many words as were to come, and the first of them, are these
pub words-one : (coming words : List ℕ) → length words ≡ length coming → AreFirst coming words → words ≡ coming
words-one [] [] e h = refl
words-one [] (word ∷ words) e h = absurd (omega arith)
words-one (next ∷ others) [] e h = absurd (omega arith)
words-one (next ∷ others) (word ∷ words) e h = λ i. h.0 i ∷ words-one others words (omega arith) h.1 i

-- ---- a word comes to one number

neither_less : (x y : ℕ) → (x < y → ⊥) → (y < x → ⊥) → x ≡ y
neither_less x y a b = by_test (nat_lt x y) (nat_lt y x) refl refl
  where
    by_test : (c d : Bool) → nat_lt x y ≡ c → nat_lt y x ≡ d → x ≡ y
    by_test true d e f = absurd (a (grind (arith, nat_tests)))
    by_test false true e f = absurd (b (grind (arith, nat_tests)))
    by_test false false e f = grind (arith, nat_tests)

as_far : (word n m : ℕ) → word < 2 ^ 32 → n < 2 ^ 32 → m < 2 ^ 32 → above word n ≡ above word m → n ≡ m
as_far word n m w k l same = omega arith

unused_one : (made : List DocId) (word n m : ℕ) → word < 2 ^ 32 → n < 2 ^ 32 → m < 2 ^ 32 → IsUnused made word n → IsUnused made word m → n ≡ m
unused_one made word n m w k l a b =
    as_far word n m w k l
    (neither_less (above word n) (above word m)
    (λ nearer. let x : true ≡ false = sym (b.first n k nearer) ∙ a.unused in cc)
    (λ nearer. let x : true ≡ false = sym (a.first m l nearer) ∙ b.unused in cc))

pub numbers-one : (made : List DocId) (words : List ℕ) (ns ms : List DocId) → AreDrawn made words ns → AreDrawn made words ms → ns ≡ ms
numbers-one made [] [] [] a b = refl
numbers-one made [] (n ∷ ns) ms a b = absurd a
numbers-one made [] [] (m ∷ ms) a b = absurd b
numbers-one made (w ∷ words) [] ms a b = absurd a
numbers-one made (w ∷ words) (n ∷ ns) [] a b = absurd b
numbers-one made (w ∷ words) (n ∷ ns) (m ∷ ms) a b =
    let number : n.number ≡ m.number = unused_one made w n.number m.number a.0 a.1 b.1 a.2 b.2 in
    let same : n ≡ m = λ i. record { number = number i } in
    let behind : AreDrawn (made ++ n ∷ []) words ms = subst (λ (z : DocId). AreDrawn (made ++ z ∷ []) words ms) (sym same) b.3 in
    ap (λ (z : DocId). z ∷ ns) same ∙ ap (λ (z : List DocId). m ∷ z) (numbers-one (made ++ n ∷ []) words ns ms a.3 behind)
