use Rattle.std.proofs.Common.{◌≡◌, sym, ap, ◌∙◌, ℕ, drop, true, false}
use Rattle.portal_base.specs.Names.{is_same, root}
use Rattle.host_tree.proofs.NamesFound.{above-root, below-other, below-root}
use Rattle.host_tree.proofs.files.behind_folder.Goals as goal

pub returns-then-is_root : goal.returns-then-is_root
returns-then-is_root c =
    let top : is_same c.args.folder.now root ≡ true = sym c.is_root.ensures ∙ c.if-is_root.true in
    (below-root c.args.folder.now c.args.path.now top, c.behind.ensures ∙ ap (λ (n : ℕ). drop n c.args.path.now) (sym (above-root c.args.folder.now top)))

pub returns : goal.returns
returns c =
    let other : is_same c.args.folder.now root ≡ false = sym c.is_root.ensures ∙ c.if-is_root.false in
    below-other c.args.folder.now c.args.path.now false other (sym c.lies_above.ensures ∙ c.if-lies_above.false)
