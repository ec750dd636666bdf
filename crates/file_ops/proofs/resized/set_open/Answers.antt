use Rattle.std.specs.Option.{option_copied}
use Rattle.std.proofs.lemmas.Result.{IfOk-weaker}
use Rattle.portal_model.specs.Place.{reach_at}
use Rattle.portal_model.specs.SetAttr.{set_attr_open}
use Rattle.file_ops.specs.Sets.{sets_of}
use Rattle.file_ops.specs.Tries.{done_of_tried}
use Rattle.file_ops.proofs.Tries.{by-open}
use Rattle.file_ops.proofs.resized.set_open.Goals as goal

pub returns-in-Some-clause-ok : goal.returns-in-Some-clause-ok
returns-in-Some-clause-ok g c =
    IfOk-weaker c.set_open_file.result _ _
    (λ tried h s l. by-open (set_attr_open (reach_at s c.args.who.now) c.args.request.now (sets_of c.args.setting)) (option_copied c.args.handle) c.open_file.result c.in-Some.file _ (done_of_tried tried) _ _ (c.open_file.ensures _) c.in-Some.is (h s l)) c.set_open_file.ensures.ok
