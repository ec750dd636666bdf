use Rattle.std.proofs.Common.{map}
use Rattle.clap.specs.Matches.{found_of}
use Rattle.clap.specs.Simple.{app_of}
use Rattle.clap.specs.Walk.{rows_of}
use Rattle.serve_words.proofs.Reading.{asks_found, asks_text, faulty_found, faulty_words, is_found}
use Rattle.serve_words.proofs.words.read_texts.Goals as goal

pub returns-in-Ok-clause-asks : goal.returns-in-Ok-clause-asks
returns-in-Ok-clause-asks c =
    let words = map (λ word. word.now) c.args.words.now in
    asks_found words (rows_of (found_of c.in-Ok.matches)) c.ask_of.result (is_found (app_of c.in_ok-command.command) words c.in-Ok.matches c.in_ok-command.ensures c.in-Ok.ensures.matches) c.ask_of.ensures.asks

pub returns-in-Ok-clause-faulty : goal.returns-in-Ok-clause-faulty
returns-in-Ok-clause-faulty c =
    let words = map (λ word. word.now) c.args.words.now in
    faulty_found words (rows_of (found_of c.in-Ok.matches)) c.ask_of.result (is_found (app_of c.in_ok-command.command) words c.in-Ok.matches c.in_ok-command.ensures c.in-Ok.ensures.matches) c.ask_of.ensures.faulty

pub returns-in-Err-clause-asks : goal.returns-in-Err-clause-asks
returns-in-Err-clause-asks c =
    let words = map (λ word. word.now) c.args.words.now in
    asks_text (app_of c.in_ok-command.command) words _ c.told_by.result c.in_ok-command.ensures c.in-Err.ensures.passes c.told_by.ensures.asks

pub returns-in-Err-clause-faulty : goal.returns-in-Err-clause-faulty
returns-in-Err-clause-faulty c =
    let words = map (λ word. word.now) c.args.words.now in
    faulty_words (app_of c.in_ok-command.command) words _ c.told_by.result c.in_ok-command.ensures c.in-Err.ensures.passes c.told_by.ensures.faulty
