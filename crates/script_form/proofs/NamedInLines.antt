-- The names in lines, collected one by one.
use Rattle.std.proofs.Common.{◌≡◌, ℕ, ◌+◌, ◌<◌, List, [], ◌∷◌, ◌++◌, length, take, sym, ap, ◌∙◌, get_or}
use Rattle.std.specs.Prelude.{fold}
use Rattle.std.specs.List.{All}
use Rattle.std.proofs.lemmas.List.{take_more}
use Rattle.std.proofs.lemmas.List.Elements.{All-cons, All-nil}
use Rattle.portal_model.specs.Opening.{each, first_named, names_kept}
use Rattle.record_keeper.specs.Naming.{also_named}
use Rattle.record_keeper.proofs.NamingFacts.{named_behind}
use Rattle.script_lines.specs.Lines.{KeepsRules}
use Rattle.script_form.specs.Opening.{document_in, applications_of}
use Rattle.script_form.specs.Order.{StandBehind}
use Rattle.script_lines.specs.declared.script.ScriptLine.{ScriptLine}
use Rattle.script_form.proofs.ScriptFacts.{names_of, names_push}

-- the names of one line more
pub named_more : (lines : List ScriptLine) (i : ℕ) (d : ScriptLine) → i < length lines
    → fold also_named (applications_of (take i lines)) (each names_kept (document_in (get_or lines i d))) ≡ applications_of (take (i + 1) lines)
named_more lines i d inside =
    let line = get_or lines i d in
    named_behind (names_of (take i lines)) (each names_kept (document_in line))
    ∙ ap first_named (sym (names_push (take i lines) line) ∙ ap names_of (sym (take_more lines i d inside)))

pub all_keep : (earlier lines : List ScriptLine) → StandBehind earlier lines → All KeepsRules lines
all_keep earlier [] h = All-nil KeepsRules
all_keep earlier (line ∷ lines) h = All-cons KeepsRules line lines h.0.itself (all_keep (earlier ++ (line ∷ [])) lines h.1)
