use Rattle.std.proofs.Common.{◌≡◌, true, ap, ◌∙◌}
use Rattle.session.specs.Items.{joined}
use Rattle.poll_laws.specs.Courses.{standing}
use Rattle.poll_steps.proofs.Acting.{longer_pieces, says_as}
use Rattle.poll_steps.proofs.ask.say.Goals as goal

pub returns-in-Ok-clause-says : goal.returns-in-Ok-clause-says
returns-in-Ok-clause-says c =
    says_as c.say_pieces.result c.args.due c.args.told (standing c.args.course.now) (standing c.say_pieces.new.course)
    (λ is. (c.say_pieces.ensures.serial ∙ c.in-Ok.ensures.serial, c.say_pieces.ensures.put is ∙ ap joined c.in-Ok.ensures.pieces))

-- one piece is put
pub returns-in-Ok-clause-lacks : goal.returns-in-Ok-clause-lacks
returns-in-Ok-clause-lacks c = λ no.
    longer_pieces c.args.due c.args.told c.args.course.now.client c.args.course.now.stage.serial c.in-Ok.speech.pieces c.in-Ok.ensures.pieces
    (λ few. let yes : c.say_pieces.result ≡ true = c.say_pieces.ensures.one few in absurd (cc))

pub returns-in-Err-clause-lacks : goal.returns-in-Err-clause-lacks
returns-in-Err-clause-lacks c = λ no. c.in-Err.ensures.lacks

pub returns-in-Ok-clause-still : goal.returns-in-Ok-clause-still
returns-in-Ok-clause-still c =
    let s = c.say_pieces.ensures.still in
    record { client = s.client; phase = s.phase; turn_is = s.turn_is; before = s.before; left = s.left }
