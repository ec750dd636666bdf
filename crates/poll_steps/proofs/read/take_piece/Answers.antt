use Rattle.std.proofs.Common.{◌≡◌, ◌≤◌, length, take, ap, arith}
use Rattle.std.proofs.lemmas.List.{length-take}
use Rattle.session.specs.Pumps.{longest_piece}
use Rattle.poll_laws.specs.Courses.{standing}
use Rattle.poll_steps.proofs.Reading.{takes_dry, takes_fault, takes_piece, takes_still, takes_wait}
use Rattle.poll_steps.proofs.read.take_piece.Goals as goal

pub returns-in-NotYet-clause-takes : goal.returns-in-NotYet-clause-takes
returns-in-NotYet-clause-takes g c a n o k =
    takes_wait (standing c.args.course.now) c.requires.serves c.requires.idle a n (g.S.PollSource.left c.args.source.now) (g.S.PollSource.left c.poll_read.new.self) (g.S.PollSource.counts c.args.source.now) (g.S.PollSource.counts c.poll_read.new.self) o k c.in-NotYet.ensures.reads c.in-NotYet.ensures.counts

pub returns-in-Failed-clause-takes : goal.returns-in-Failed-clause-takes
returns-in-Failed-clause-takes g c a n o k =
    takes_fault (standing c.args.course.now) c.requires.serves c.requires.idle a n (g.S.PollSource.left c.args.source.now) (g.S.PollSource.left c.poll_read.new.self) (g.S.PollSource.counts c.args.source.now) (g.S.PollSource.counts c.poll_read.new.self) o k c.in-Failed.ensures.reads (standing c.meet-in-Failed.new.course) c.in-Failed.ensures.counts c.meet-in-Failed.ensures

pub returns-in-End-clause-takes : goal.returns-in-End-clause-takes
returns-in-End-clause-takes g c a n o k =
    takes_dry (standing c.args.course.now) c.requires.serves c.requires.idle a n (g.S.PollSource.left c.args.source.now) (g.S.PollSource.left c.poll_read.new.self) (g.S.PollSource.counts c.args.source.now) (g.S.PollSource.counts c.poll_read.new.self) o k c.in-End.ensures.reads.0 c.ending-ended.result (standing c.meet.new.course) (rw c.as_slice.ensures at c.ending-ended.ensures) c.in-End.ensures.reads.1 c.in-End.ensures.counts c.meet.ensures

pub returns-in-Got-clause-takes : goal.returns-in-Got-clause-takes
returns-in-Got-clause-takes g c a n o k =
    let reads = c.in-Got.ensures.reads in
    let piece : c.front.result.now ≡ take c.in-Got.len c.poll_read.new.buffer = c.front.ensures in
    let size = ap length piece in
    let least : 1 ≤ length c.front.result.now = omega (arith, size, length-take c.in-Got.len c.poll_read.new.buffer, reads.0, reads.1) in
    let most : length c.front.result.now ≤ longest_piece = omega (arith, size, length-take c.in-Got.len c.poll_read.new.buffer, reads.1, c.requires.long) in
    takes_still (standing c.args.course.now) a n (g.S.PollSource.left c.args.source.now) (g.S.PollSource.left c.poll_read.new.self) (g.S.PollSource.counts c.args.source.now) (g.S.PollSource.counts c.poll_read.new.self) o k c.hold.result (standing c.hold.new.course) c.in-Got.ensures.counts
    (takes_piece (standing c.args.course.now) c.requires.serves c.requires.idle a n (g.S.PollSource.left c.args.source.now) (g.S.PollSource.counts c.args.source.now) o k c.hold.result c.front.result.now (g.S.PollSource.left c.poll_read.new.self) (standing c.hold.new.course) least most (rw piece reads.2) c.hold.ensures)
