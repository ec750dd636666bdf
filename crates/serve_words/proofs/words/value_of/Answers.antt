use Rattle.std.proofs.Common.{◌∙◌}
use Rattle.clap.specs.Matches.{found_of}
use Rattle.serve_words.proofs.Finding.{value_found}
use Rattle.serve_words.proofs.words.value_of.Goals as goal

pub returns : goal.returns
returns c = c.get_str.ensures ∙ value_found (found_of c.args.matches.now) c.args.name.now
