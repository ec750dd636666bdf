use Rattle.std.proofs.Common.{rules, List, subst, sym}
use Rattle.std.specs.List.Sorted.{IsNonDecreasingBy}
use Rattle.std.proofs.lemmas.List.Sorted.{IsNonDecreasingBy-from_sort_by_key}
use Rattle.portal_model.specs.declared.reply.ListedDocument.{ListedDocument}
use Rattle.document_calls.specs.Answers.{number_listed}
use Rattle.document_calls.proofs.listing.by_number.Goals as goal

pub returns-clause-order : goal.returns-clause-order
returns-clause-order c =
    subst (λ (ds : List ListedDocument). IsNonDecreasingBy number_listed ds) (sym c.from_vec.ensures)
    (IsNonDecreasingBy-from_sort_by_key number_listed _ c.sort_unstable_by_key.ensures.sorted (λ a r q k. search rules))
