-- Numbers that are drawn for new documents: none was made, each has 32 bits, and each stands once.
use Rattle.std.proofs.Common.{◌≡◌, ℕ, ◌<◌, ◌^◌, length, List, [], ◌∷◌, ◌++◌, false, refl, arith}
use Rattle.portal_base.specs.declared.names.doc_id.DocId.{DocId}
use Rattle.portal_model.specs.Outside.{AreDrawn}
use Rattle.portal_model.specs.Valid.{is_made}

abbrev pub Unused : List DocId → List DocId → Type 0
Unused made [] = Unit {0}
Unused made (n ∷ ns) = (is_made made n.number ≡ false) × (n.number < 2 ^ 32) × Unused (made ++ n ∷ []) ns

pub drawn-unused : (made : List DocId) (words : List ℕ) (ns : List DocId) → AreDrawn made words ns → Unused made ns
drawn-unused made [] [] d = tt
drawn-unused made [] (n ∷ ns) d = absurd d
drawn-unused made (w ∷ words) [] d = absurd d
drawn-unused made (w ∷ words) (n ∷ ns) d = (d.2.unused, d.1, drawn-unused (made ++ n ∷ []) words ns d.3)

-- as many as words
pub drawn-length : (made : List DocId) (words : List ℕ) (ns : List DocId) → AreDrawn made words ns → length words ≡ length ns
drawn-length made [] [] d = refl
drawn-length made [] (n ∷ ns) d = absurd d
drawn-length made (w ∷ words) [] d = absurd d
drawn-length made (w ∷ words) (n ∷ ns) d = let e : length words ≡ length ns = drawn-length (made ++ n ∷ []) words ns d.3 in grind (arith, e)
