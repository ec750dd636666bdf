use Rattle.std.proofs.Common.{◌≡◌, map, take}
use Rattle.serve_words.proofs.words.read_words.Given as goal

abbrev pub invariant-loop-word : goal.invariant-loop-word
invariant-loop-word l = map (λ text. text.now) l.texts ≡ take l.word-index l.words
