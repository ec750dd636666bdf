use Rattle.std.proofs.Common.{◌∙◌}
use Rattle.portal_base.specs.FolderNames.{put_path}
use Rattle.host_tree.proofs.NamesFound.{put-next}
use Rattle.host_tree.proofs.files.put_paths.Goals as goal

pub loop-path-preserved : goal.loop-path-preserved
loop-path-preserved c =
    put-next c.args.folder.now c.in-Some.path.now c.loop-path.names c.put_path.new.names c.loop-path.path-iterator c.next.new.self _ c.loop-path.invariant c.in-Some.ensures.steps
    (c.in_ok-put_path.ensures ∙ (λ i. put_path (c.as_bytes-above.ensures.bytes i) c.loop-path.names (c.as_bytes-bytes.ensures.bytes i)))
