-- What a connection came to that was polled, over a source and a sink that wait themselves.
use Rattle.std.specs.Prelude.{ℕ, Bool, true, false}
use Rattle.poll_ends.specs.Outside.{faults_alone, flat}
use Rattle.poll_laws.specs.Courses.{Sight, Standing, sight}
use Rattle.poll_laws.specs.Laws.{IsConnection}
use Rattle.poll_laws.specs.Polls.{Deeds}
use Rattle.portal_model.specs.declared.reply.Refused.{Refused}
use Rattle.portal_model.specs.declared.request.Request.{Request}
use Rattle.portal_model.specs.Seated.{HasCause, Seated}
use Rattle.session.specs.declared.act.Client.{Client}
use Rattle.session.specs.declared.served.Served.{Served}
use Rattle.session.specs.Connections.{Serves}
use Rattle.session.specs.Ledger.{IsCaused, World}
use Rattle.session.specs.Pumps.{Spring}

-- What a poll sees of a desk that answered so often that it is busy, of a source and of a sink, of
-- which neither says "not yet". Of the sink it sees bytes, and not in which pieces they were
-- written.
abbrev pub sight_of : ℕ → Spring → World → Sight
sight_of busy a v =
    sight v.seated busy a.left (faults_alone a.faults) (flat v.told) (faults_alone v.faults)

-- The polls from the first to the one that is ready were a connection of this client, which ended
-- so.
pub record ServesPolled (c : Client) (e : Served) (a b : Spring) (v w : World) : Type 0 where
  pub before : ℕ
  pub after : ℕ
  pub deeds : Deeds
  pub stands : Standing
  pub is : IsConnection c (sight_of before a v) deeds stands (sight_of after b w) e

-- A connection was served, by polls or by a session that waits: the first is told in bytes, and the
-- second in pieces, with how many answers are written whole.
abbrev pub ServesBy : Bool → Client → Served → Spring → Spring → World → World → Type 0
ServesBy true c e a b v w = ServesPolled c e a b v w
ServesBy false c e a b v w = Serves c e a b v w

-- The cause of a refusal at a desk that knew this before and knows that now. Where it was polled,
-- others may have asked between the refusal and now.
abbrev pub CausedBy : Bool → Seated → Seated → Request → Refused → Type 0
CausedBy true v w request why = IsCaused v w request why
CausedBy false v w request why = HasCause w request why
