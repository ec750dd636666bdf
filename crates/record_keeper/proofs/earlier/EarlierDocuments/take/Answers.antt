use Rattle.std.proofs.Common.{sym, refl, ◌∙◌}
use Rattle.record_keeper.proofs.EarlierFacts.{taken}
use Rattle.record_keeper.proofs.earlier.EarlierDocuments.take.Goals as goal

pub returns : goal.returns
returns c =
    taken c.args.version c.args.limits.now c.args.self.now c.put.new.self c.args.document.now c.len.result c.if-self-limits.false c.if-self-limits-2.false
    (sym c.contains.ensures ∙ c.if-contains.false) (c.is_sound_document.ensures.0 c.if-not-is_sound_document.false) (c.suits_version.ensures.0 c.if-not-suits_version.false)
    c.in_ok-put.ensures.count c.in_ok-put.ensures.numbers c.in_ok-put.ensures.applications c.len.ensures _ refl
