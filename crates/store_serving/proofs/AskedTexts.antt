-- No text of a Set has a zero byte: asked of its rows behind the two texts ahead of them.
use Rattle.std.proofs.Common.{◌≡◌, List, [], ◌∷◌, Bool, true, ◌&&◌, refl, sym, ap, ◌∙◌}
use Rattle.std.specs.List.{flat_map, list_all}
use Rattle.std.proofs.lemmas.List.Folds.{list_all-append}
use Rattle.portal_model.specs.declared.records.Row.{Row}
use Rattle.portal_model.specs.StoreRequest.{texts_of_row}
use Rattle.portal_model.specs.Valid.{has_texts, is_text}

-- the rows that a call brings
pub rows-asked : (rows : List Row) → list_all has_texts rows ≡ list_all is_text (flat_map texts_of_row rows)
rows-asked [] = refl
rows-asked (r ∷ rows) = ap (λ (b : Bool). has_texts r && b) (rows-asked rows) ∙ sym (list_all-append is_text (texts_of_row r) (flat_map texts_of_row rows))

-- the rows behind two texts that were asked
pub set-asked : (a b more found : Bool) → a ≡ true → b ≡ true → found ≡ more → found ≡ (a && (b && more))
set-asked a b more found p q e = e ∙ (λ i. sym p i && (sym q i && more))
