use Rattle.std.proofs.Common.{◌≡◌, Some, ◌++◌, take, drop, sym, ap, ◌∙◌, drop-drop}
use Rattle.std.proofs.lemmas.List.{take-append-drop}
use Rattle.portal_base.specs.Devices.{SourceState}
use Rattle.portal_base.proofs.outside.in_memory.MemorySourceSource.read.Goals as goal

-- what was got and what is then left are what was left
pub returns-clause-reads : goal.returns-clause-reads
returns-clause-reads c =
    let s = c.self.inside in
    let r = c.fill-len.result in
    let left : c.args.self.now.left ≡ drop s.at s.bytes = sym (ap (λ (v : SourceState). v.left) c.self.view_is) in
    let rest : c.split_at.result.1.now ≡ drop s.at s.bytes = c.split_at.ensures.back ∙ ap (drop s.at) c.as_slice.ensures in
    let front : take r c.fill-len.new.buffer ≡ take r (drop s.at s.bytes) = c.fill-len.ensures.taken ∙ ap (take r) rest in (
      c.fill-len.ensures.least,
      c.fill-len.ensures.within,
      ap Some (left ∙ sym (take-append-drop r (drop s.at s.bytes)) ∙ (λ i. sym front i ++ drop-drop r s.at s.bytes i)),
    )
