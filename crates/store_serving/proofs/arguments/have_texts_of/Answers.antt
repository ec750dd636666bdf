use Rattle.std.proofs.Common.{◌≡◌, ◌∙◌, true, false, ap, sym}
use Rattle.std.specs.List.{list_all}
use Rattle.portal_model.specs.Valid.{has_texts}
use Rattle.store_serving.proofs.AskedTexts.{rows-asked, set-asked}
use Rattle.store_serving.proofs.arguments.have_texts_of.Goals as goal
use Rattle.store_serving.proofs.arguments.have_texts_of.Goals.{then-is_text-2, else-is_text-2}

pub returns-then-is_text-3 : goal.returns-then-is_text-3
returns-then-is_text-3 c =
    let found = c.have_texts.ensures ∙ (ap (list_all has_texts) c.as_slice.ensures ∙ rows-asked c.in-Set.rows) in
    rw (c.in-Set.is) (elim c.if-is_text-2.branch [
      | then-is_text-2 w ↦
          set-asked _ _ _ _ (sym c.is_text-in-Set.ensures ∙ w.if-is_text-2.true) (sym w.is_text-then-is_text-2.ensures ∙ (sym w.value-is ∙ c.if-is_text-3.true)) found
      | else-is_text-2 w ↦ let no : true ≡ false = sym c.if-is_text-3.true ∙ (w.value-is ∙ w.if-is_text-2.false) in absurd (cc)
    ])
