use Rattle.script_lines.proofs.WordFacts.{no_name}
use Rattle.script_lines.proofs.words.read_name.Goals as goal

pub returns-in_default : goal.returns-in_default
returns-in_default c = no_name c.args.word.now c.in_default.ensures.cases.0
