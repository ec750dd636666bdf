use Rattle.std.proofs.Common.{◌≡◌, Option, Some, false, true≢false, sym, ap, ◌∙◌}
use Rattle.std.specs.BTreeMap.{is_at}
use Rattle.std.specs.Map.{set_value}
use Rattle.std.specs.Option.{is_some, option_map}
use Rattle.portal_base.specs.Content.{file_at}
use Rattle.portal_base.specs.PathOrder.{path_order}
use Rattle.tree_files.specs.Kept.{file_kept, files_of}
use Rattle.tree_files.specs.declared.kept.KeptFile.{KeptFile}
use Rattle.tree_files.proofs.Entries.{found-at, set-placed}
use Rattle.tree_files.proofs.files.exchange.Goals as goal

pub returns-in-Some-clause-given : goal.returns-in-Some-clause-given
returns-in-Some-clause-given c =
    let path = c.args.path.now in
    found-at path c.args.map.now.entries
    ∙ (ap (option_map (file_kept path)) (sym c.in-Some.ensures.value)
    ∙ ap (λ (k : KeptFile). Some (file_kept path k)) (sym c.swap.ensures.y_after))

pub returns-in-Some-clause-rest : goal.returns-in-Some-clause-rest
returns-in-Some-clause-rest c =
    let es = c.args.map.now.entries in
    let path = c.args.path.now in
    ap files_of (c.get_mut.follows.holds c.swap.new.x).0
    ∙ (ap (λ (k : KeptFile). files_of (set_value (is_at (path_order path)) es k)) c.swap.ensures.x_after
    ∙ set-placed path c.in-Some.present.now c.args.kept.now es (sym c.in-Some.ensures.value) c.get_mut.ensures.ordered)

pub returns-in-None-clause-given : goal.returns-in-None-clause-given
returns-in-None-clause-given c =
    let path = c.args.path.now in
    let none : is_some (file_at (files_of c.args.map.now.entries) path) ≡ false =
    ap is_some (found-at path c.args.map.now.entries)
    ∙ ap (λ (o : Option KeptFile). is_some (option_map (file_kept path) o)) (sym c.in-None.ensures.value) in
    absurd (true≢false (sym c.requires ∙ none))

pub returns-in-None-clause-rest : goal.returns-in-None-clause-rest
returns-in-None-clause-rest c =
    let path = c.args.path.now in
    let none : is_some (file_at (files_of c.args.map.now.entries) path) ≡ false =
    ap is_some (found-at path c.args.map.now.entries)
    ∙ ap (λ (o : Option KeptFile). is_some (option_map (file_kept path) o)) (sym c.in-None.ensures.value) in
    absurd (true≢false (sym c.requires ∙ none))
