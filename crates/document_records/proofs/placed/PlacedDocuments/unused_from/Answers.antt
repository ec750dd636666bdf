use Rattle.std.proofs.Common.{◌≡◌, ap, true, false, arith}
use Rattle.portal_model.specs.Valid.{is_made}
use Rattle.document_records.specs.Documents.{DocumentList}
use Rattle.document_records.proofs.DocumentLemmas.{looked-up}
use Rattle.document_records.proofs.UnusedNumbers.{walked-none, walked-more, fewer-left}
use Rattle.document_records.proofs.placed.PlacedDocuments.unused_from.Goals as goal

pub loop-self-init : goal.loop-self-init
loop-self-init c = walked-none c.self.inside.made c.args.word (omega arith)

pub loop-self-smaller : goal.loop-self-smaller
loop-self-smaller c =
    let made : is_made c.self.inside.made c.loop-self.number ≡ true = looked-up c.self.inside.made c.loop-self.number _ _ (c.self.invariant.same c.loop-self.number) c.loop-self-test.ensures in
    fewer-left c.self.inside.made c.args.word c.loop-self.number c.self.inside.most_made (omega arith) c.self.invariant.within c.self.invariant.limit c.loop-self.invariant made

pub loop-self-preserved : goal.loop-self-preserved
loop-self-preserved c =
    let made : is_made c.self.inside.made c.loop-self.number ≡ true = looked-up c.self.inside.made c.loop-self.number _ _ (c.self.invariant.same c.loop-self.number) c.loop-self-test.ensures in
    walked-more c.self.inside.made c.args.word c.loop-self.number c.self.inside.most_made (omega arith) c.self.invariant.within c.self.invariant.limit c.loop-self.invariant made

pub returns : goal.returns
returns c =
    let made : c.self.inside.made ≡ c.args.self.now.made = ap (λ (s : DocumentList). s.made) c.self.view_is in
    let unused : is_made c.self.inside.made c.loop-self.number ≡ false = looked-up c.self.inside.made c.loop-self.number _ _ (c.self.invariant.same c.loop-self.number) c.loop-self-test.ensures in
    rw (← made) (record { unused = unused; first = c.loop-self.invariant.nearer })
