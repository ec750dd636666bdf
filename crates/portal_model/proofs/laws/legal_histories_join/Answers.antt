use Rattle.portal_model.proofs.Histories.{Legal-append, Legal-front, Legal-rest}
use Rattle.portal_model.proofs.laws.legal_histories_join.Goals as goal

pub returns : goal.returns
returns c = record {
  join = λ s h more l m. Legal-append h more s l m;
  front = λ s h more l. Legal-front h more s l;
  rest = λ s h more l. Legal-rest h more s l;
}
