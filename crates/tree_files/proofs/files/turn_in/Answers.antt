use Rattle.std.proofs.Common.{sym, ◌∙◌, arith}
use Rattle.tree_files.specs.Kept.{files_of}
use Rattle.tree_files.proofs.Entries.{has-at, has-none}
use Rattle.tree_files.proofs.HiddenNames.{is-within, turned-swapped}
use Rattle.tree_files.proofs.files.turn_in.Goals as goal

pub place-requires-clause-free : goal.place-requires-clause-free
place-requires-clause-free c =
    has-none c.args.name.now.path c.args.map.now.entries (sym c.contains_key.ensures ∙ c.if-not-contains_key.true)

pub index_mut-file-requires : goal.index_mut-file-requires
index_mut-file-requires c =
    omega (arith, is-within c.args.name.now c.args.hidden.now.items c.args.at c.requires.there, c.args.hidden.now.ok.0)

pub exchange-requires : goal.exchange-requires
exchange-requires c =
    has-at c.args.name.now.path c.args.map.now.entries ∙ (sym c.contains_key.ensures ∙ c.if-not-contains_key.false)

pub returns-clause-ok : goal.returns-clause-ok
returns-clause-ok c =
    turned-swapped c.args.name.now (files_of c.args.map.now.entries) (files_of c.exchange.new.map.entries) c.args.hidden.now.items c.args.at c.index_mut-file.result.now c.exchange.new.kept
    c.requires.there c.index_mut-file.ensures.value c.exchange.ensures.given c.exchange.ensures.rest c.requires.differ
