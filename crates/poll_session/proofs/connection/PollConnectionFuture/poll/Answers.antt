use Rattle.std.proofs.Common.{◌≡◌, Option, Some, None, IsSome, refl, sym, ◌∙◌}
use Rattle.poll_laws.specs.Courses.{standing}
use Rattle.poll_laws.proofs.LawsOfPolls.{comes_later, comes_now}
use Rattle.poll_session.proofs.connection.PollConnectionFuture.poll.Goals as goal

-- there is one, so it isn't none
some_there : {A : Type 0} (o : Option A) → IsSome o → ((x : A) → o ≡ Some x → ⊥) → ⊥
some_there None is never = absurd (cc)
some_there (Some x) is never = never x refl

pub returns-in_default : goal.returns-in_default
returns-in_default g c = absurd (some_there c.args.self.now.session c.requires (λ x is. c.in_default.not-Some x (c.take.ensures.value ∙ is)))

pub into_parts-requires : goal.into_parts-requires
into_parts-requires g c = (c.in-Ready.served, c.in-Ready.ensures.polls.answered)

pub returns-in-Ready-clause-value : goal.returns-in-Ready-clause-value
returns-in-Ready-clause-value g c =
    let is = sym c.take.ensures.value ∙ c.in-Some.is in
    let parts = c.into_parts.ensures.parts in
    rw is (rw (parts.0, parts.1, parts.2) (comes_now c.in-Ready.served _ _ (standing c.poll.new.self.course) _ _ c.in-Ready.ensures.polls, c.in-Ready.ensures.goes))

pub returns-in-Pending-clause-same : goal.returns-in-Pending-clause-same
returns-in-Pending-clause-same g c =
    let is = sym c.take.ensures.value ∙ c.in-Some.is in
    rw is (λ x h. (comes_later x.served _ _ (standing c.poll.new.self.course) _ _ _ c.in-Pending.ensures.polls h.0, g.met.D.TryDesk.follows _ _ _ c.in-Pending.ensures.goes h.1))
