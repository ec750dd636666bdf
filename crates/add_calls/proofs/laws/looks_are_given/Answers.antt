use Rattle.add_calls.proofs.ShownLemmas.{gives-shown, walked-shown}
use Rattle.add_calls.proofs.laws.looks_are_given.Goals as goal

pub returns : goal.returns
returns c = record {
  gives = λ told paths next answer looks failed e h. gives-shown told paths next answer looks failed e h;
  comes_to = λ told paths next answer now looks failed e h. walked-shown told paths next answer now looks failed e h;
}
