use Rattle.std.proofs.Common.{◌≡◌, map, take}
use Rattle.serve_words.specs.Words.{AreNamed}
use Rattle.serve_words.proofs.words.apps_named.Given as goal

-- the applications so far have the first names
abbrev pub invariant-loop-name : goal.invariant-loop-name
invariant-loop-name l = (l.apps ≡ map (λ name. name.now) (take l.name-index l.names)) × AreNamed l.apps
