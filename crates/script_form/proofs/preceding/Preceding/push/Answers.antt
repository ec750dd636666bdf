use Rattle.std.proofs.Common.{◌≡◌, ◌++◌, ◌∷◌, [], List, ◌∙◌, ap}
use Rattle.script_lines.specs.declared.script.ScriptLine.{ScriptLine}
use Rattle.script_form.proofs.TrackFacts.{noted_more, lines_stay}
use Rattle.script_form.proofs.preceding.Preceding.push.Goals as goal

pub returns : goal.returns
returns c =
    let p = c.args.self.now in
    let s = c.note.new.self in
    let line = c.args.line in
    let lines : c.push.new.self ≡ p.lines ++ (line ∷ []) =
    c.in_ok-push.ensures.ok ∙ ap (λ (ls : List ScriptLine). ls ++ (line ∷ [])) (lines_stay p s line c.in_ok-note.ensures) in
    (lines, noted_more p s _ line c.requires.tracks c.requires.rules c.requires.order c.in_ok-note.ensures (λ i. record s { lines = lines i }))
