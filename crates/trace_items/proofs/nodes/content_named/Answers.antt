use Rattle.std.proofs.Common.{Option, false, ap, sym, ◌∙◌}
use Rattle.portal_base.specs.declared.files.File.{File}
use Rattle.portal_model.specs.Content.{content_of}
use Rattle.trace_items.proofs.NodeParts.{if-ok}
use Rattle.trace_items.proofs.nodes.content_named.Goals as goal

pub returns-in-Some : goal.returns-in-Some
returns-in-Some c = if-ok c.file_content.result c.file_content.ensures (λ content e. e ∙ sym (ap (λ (o : Option File). content_of o false false) c.in-Some.ensures))

pub returns-in-None : goal.returns-in-None
returns-in-None c = sym (ap (λ (o : Option File). content_of o false false) c.in-None.ensures)
