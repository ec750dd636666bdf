use Rattle.std.proofs.Common.{◌≡◌, ◌∙◌, ℕ, Option, Some, None, ap, sym}
use Rattle.std.specs.BTreeSet.{BTreeSet}
use Rattle.std.proofs.lemmas.Result.{IfOk-weaker}
use Rattle.document_records.specs.GrantIndex.{has_number, numbers_found}
use Rattle.document_records.proofs.DocumentsHeld.{ids-are, no-ids}
use Rattle.document_records.proofs.by_app.documents_of.Goals as goal

pub returns-in-Some : goal.returns-in-Some
returns-in-Some c =
    let app = c.args.app.now in
    let found : numbers_found c.args.by_app.now app ≡ Some c.in-Some.numbers.now =
    ap (numbers_found c.args.by_app.now) (sym c.as_bytes.ensures.bytes)
    ∙ sym c.in-Some.ensures.value in
    IfOk-weaker c.ids.result _ _
    (λ ids e rights by. e ∙ ids-are rights app c.in-Some.numbers.now.keys c.ids.ensures.order
    (λ n. ap (λ (o : Option (BTreeSet ℕ)). has_number o n) (sym found) ∙ by app n))
    c.ids.ensures.ids

pub returns-in-None : goal.returns-in-None
returns-in-None c =
    let app = c.args.app.now in
    let found : numbers_found c.args.by_app.now app ≡ None =
    ap (numbers_found c.args.by_app.now) (sym c.as_bytes.ensures.bytes)
    ∙ sym c.in-None.ensures.value in
    λ rights by. c.new.ensures ∙ no-ids rights app
    (λ n. sym (by app n) ∙ ap (λ (o : Option (BTreeSet ℕ)). has_number o n) found)
