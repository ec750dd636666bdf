use Rattle.portal_load.specs.Lines.{file_content}
use Rattle.portal_load.proofs.ahead.file_content.Goals as goal

pub returns : goal.returns
unfolding file_content
returns c = c.filled.ensures
