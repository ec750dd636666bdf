use Rattle.std.proofs.Common.{◌≡◌, ap, ◌∙◌, arith, ◌++◌, take, drop, length, ◌+◌, List, ℕ}
use Rattle.host_tree.proofs.Bytes.{overlaid-within, overlaid-past}
use Rattle.tree_files.proofs.kept.overlay.Goals as goal
use Rattle.tree_files.proofs.kept.overlay.Goals.{then-end-len+in_ok-resize, else-end-len}

pub returns-clause-ok : goal.returns-clause-ok
returns-clause-ok c =
    let over = λ (bytes : List ℕ). take c.args.offset bytes ++ (c.args.content.now ++ drop (c.args.offset + length c.args.content.now) bytes) in
    let sum : c.in-Some.end ≡ c.args.offset + length c.args.content.now = c.in-Some.ensures.1 in
    c.overwrite.ensures
    ∙ elim c.if-end-len.branch [
      | then-end-len+in_ok-resize w ↦ ap over (w.bytes-is ∙ w.in_ok-resize.ensures.ok) ∙ overlaid-past c.args.bytes.now c.args.content.now c.args.offset c.in-Some.end sum (omega (arith, c.len.ensures, w.if-end-len.true))
      | else-end-len w ↦ ap over w.bytes-is ∙ overlaid-within c.args.bytes.now c.args.content.now c.args.offset (omega (arith, c.len.ensures, w.if-end-len.false, sum))
    ]
