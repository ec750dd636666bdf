-- The documents of an opening state have the numbers of their records.
use Rattle.std.proofs.Common.{◌≡◌, ◌&&◌, ◌∷◌, ℕ, List, [], length, map, nat_eq, Bool, refl, sym, ap, subst, arith}
use Rattle.std.specs.List.{list_all, IsDistinct}
use Rattle.portal_base.specs.declared.names.doc_id.DocId.{DocId}
use Rattle.portal_model.specs.declared.opening.OpeningDocument.{OpeningDocument}
use Rattle.portal_model.specs.Opening.{document_kept}
use Rattle.portal_model.specs.Valid.{is_made}
use Rattle.document_records.specs.DocumentIndex.{live_numbers}

numbers_kept : (ds : List OpeningDocument) → live_numbers (map document_kept ds) ≡ map (λ (d : OpeningDocument). d.kept.number) ds
numbers_kept [] = refl
numbers_kept (d ∷ ds) = ap (λ (ns : List ℕ). d.kept.number ∷ ns) (numbers_kept ds)

pub kept_differ : (ds : List OpeningDocument) → IsDistinct nat_eq (map (λ (d : OpeningDocument). d.kept.number) ds) → IsDistinct nat_eq (live_numbers (map document_kept ds))
kept_differ ds h = subst (IsDistinct nat_eq) (sym (numbers_kept ds)) h

pub kept_among : (made : List DocId) (ds : List OpeningDocument) → list_all (λ d. is_made made d.id.number) (map document_kept ds) ≡ list_all (λ (d : OpeningDocument). is_made made d.kept.number) ds
kept_among made [] = refl
kept_among made (d ∷ ds) = ap (λ (b : Bool). is_made made d.kept.number && b) (kept_among made ds)

pub kept_as_many : (ds : List OpeningDocument) → length (map document_kept ds) ≡ length ds
kept_as_many [] = refl
kept_as_many (d ∷ ds) = let more : length (map document_kept ds) ≡ length ds = kept_as_many ds in omega (arith, more)
