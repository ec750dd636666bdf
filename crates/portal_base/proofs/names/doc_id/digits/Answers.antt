use Rattle.std.proofs.Common.{◌∷◌, [], ap, ◌∙◌, arith}
use Rattle.portal_base.specs.DocIds.{doc_id_of}
use Rattle.portal_base.proofs.DocIdDigits.{doc_text-digits, digits_again}
use Rattle.portal_base.proofs.names.doc_id.digits.Goals as goal

pub returns-clause-digits : goal.returns-clause-digits
returns-clause-digits c =
    (λ i. c.digit.ensures i ∷ c.digit-2.ensures i ∷ c.digit-3.ensures i ∷ c.digit-4.ensures i ∷ c.digit-5.ensures i ∷ c.digit-6.ensures i ∷ c.digit-7.ensures i ∷ c.digit-8.ensures i ∷ [])
    ∙ doc_text-digits c.args.number

pub returns-clause-again : goal.returns-clause-again
returns-clause-again c =
    ap doc_id_of (λ i. c.digit.ensures i ∷ c.digit-2.ensures i ∷ c.digit-3.ensures i ∷ c.digit-4.ensures i ∷ c.digit-5.ensures i ∷ c.digit-6.ensures i ∷ c.digit-7.ensures i ∷ c.digit-8.ensures i ∷ [])
    ∙ digits_again c.args.number (omega arith)
