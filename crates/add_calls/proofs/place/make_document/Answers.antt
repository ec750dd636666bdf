use Rattle.add_calls.proofs.PlacingLemmas.{drew-one}
use Rattle.add_calls.proofs.place.make_document.Goals as goal

pub returns-in-Err-clause-words : goal.returns-in-Err-clause-words
returns-in-Err-clause-words g c = drew-one (g.W.Words.told c.args.words.now) (g.W.Words.told c.next-word.new.self) c.next-word.result c.next-word.ensures

pub returns-in-Err-tell_drawn-clause-words : goal.returns-in-Err-tell_drawn-clause-words
returns-in-Err-tell_drawn-clause-words g c = drew-one (g.W.Words.told c.args.words.now) (g.W.Words.told c.next-word.new.self) c.next-word.result c.next-word.ensures

pub returns-then-is_err-clause-words : goal.returns-then-is_err-clause-words
returns-then-is_err-clause-words g c = drew-one (g.W.Words.told c.args.words.now) (g.W.Words.told c.next-word.new.self) c.next-word.result c.next-word.ensures
