use Rattle.std.proofs.Common.{◌≡◌, sym, ap, ◌∙◌, Some, false, true≢false}
use Rattle.std.specs.BTreeMap.{is_at}
use Rattle.std.specs.Map.{set_value}
use Rattle.std.specs.Option.{is_some}
use Rattle.portal_base.specs.Content.{file_at}
use Rattle.portal_base.specs.PathOrder.{path_order}
use Rattle.host_tree.specs.Stored.{files_of}
use Rattle.host_tree.specs.declared.files.Stored.{Stored}
use Rattle.host_tree.proofs.Entries.{found-at, has-file-at, set-replaced}
use Rattle.host_tree.proofs.files.replace_in.Goals as goal

pub returns-in-Some-clause-given : goal.returns-in-Some-clause-given
returns-in-Some-clause-given c = ap (λ (s : Stored). Some s) c.replace.ensures.value ∙ (c.in-Some.ensures.value ∙ sym (found-at c.args.path.now c.args.map.now.entries))

pub returns-in-Some-clause-rest : goal.returns-in-Some-clause-rest
returns-in-Some-clause-rest c =
    let es = c.args.map.now.entries in
    let path = c.args.path.now in
    ap files_of (c.get_mut.follows.holds c.replace.new.dest).0
    ∙ (ap (λ (s : Stored). files_of (set_value (is_at (path_order path)) es s)) c.replace.ensures.after
    ∙ set-replaced path c.in-Some.there.now c.args.stored es (sym c.in-Some.ensures.value) c.get_mut.ensures.ordered)

pub returns-in-None-clause-given : goal.returns-in-None-clause-given
returns-in-None-clause-given c =
    let none : is_some (file_at (files_of c.args.map.now.entries) c.args.path.now) ≡ false = has-file-at c.args.path.now c.args.map.now.entries ∙ ap is_some (sym c.in-None.ensures.value) in
    absurd (true≢false (sym c.requires ∙ none))

pub returns-in-None-clause-rest : goal.returns-in-None-clause-rest
returns-in-None-clause-rest c =
    let none : is_some (file_at (files_of c.args.map.now.entries) c.args.path.now) ≡ false = has-file-at c.args.path.now c.args.map.now.entries ∙ ap is_some (sym c.in-None.ensures.value) in
    absurd (true≢false (sym c.requires ∙ none))
