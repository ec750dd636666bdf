use Rattle.std.proofs.Common.{sym, ◌∙◌}
use Rattle.portal_base.proofs.AppBreaks.{too_long, wrong_byte, ends_early, is_name}
use Rattle.portal_base.proofs.names.app_id.first_break.Goals as goal

pub returns-then-at-eq-LIMIT-clause-some : goal.returns-then-at-eq-LIMIT-clause-some
returns-then-at-eq-LIMIT-clause-some c = let l = c.loop-at in too_long c.args.text.now l.at l.invariant.all c.loop-at-test.true c.if-at-eq-LIMIT.true

pub returns-then-not-is_name_byte-clause-some : goal.returns-then-not-is_name_byte-clause-some
returns-then-not-is_name_byte-clause-some c = let l = c.loop-at in wrong_byte c.args.text.now l.at l.invariant.all c.loop-at-test.true l.invariant.within (sym c.is_name_byte.ensures ∙ c.if-not-is_name_byte.true)

pub returns-then-is_nothing_or_dots-clause-some : goal.returns-then-is_nothing_or_dots-clause-some
returns-then-is_nothing_or_dots-clause-some c = let l = c.loop-at in ends_early c.args.text.now l.at l.invariant.all c.loop-at-test.false l.invariant.within (sym c.is_nothing_or_dots.ensures ∙ c.if-is_nothing_or_dots.true)

pub returns-else-is_nothing_or_dots-clause-none : goal.returns-else-is_nothing_or_dots-clause-none
returns-else-is_nothing_or_dots-clause-none c = let l = c.loop-at in is_name c.args.text.now l.at l.invariant.all c.loop-at-test.false l.invariant.within (sym c.is_nothing_or_dots.ensures ∙ c.if-is_nothing_or_dots.false)
