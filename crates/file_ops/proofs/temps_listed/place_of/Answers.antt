use Rattle.std.proofs.Common.{◌≡◌, ap, arith, false, subst, sym, true, ◌∙◌}
use Rattle.std.specs.List.{list_all}
use Rattle.std.proofs.lemmas.List.{take_all, take_more}
use Rattle.portal_model.specs.declared.reply.DirName.{DirName}
use Rattle.file_ops.proofs.EntryOrder.{all-ahead, all-more, ends-at, is_ahead}
use Rattle.file_ops.proofs.temps_listed.place_of.Goals as goal

pub returns-then-not-is_before : goal.returns-then-not-is_before
returns-then-not-is_before c =
    let p = is_ahead c.args.name.now in
    ends-at p c.args.names.now c.loop-at.at c.index-names-at.result c.loop-at-test.true c.loop-at.invariant
    (subst (λ (e : DirName). p e ≡ false) c.index-names-at.is (sym c.is_before.ensures ∙ c.if-not-is_before.true))

pub loop-at-preserved : goal.loop-at-preserved
loop-at-preserved c =
    let p = is_ahead c.args.name.now in
    let names = c.args.names.now in
    ap (list_all p) (take_more names c.loop-at.at c.index-names-at.result c.loop-at-test.true)
    ∙ all-more p _ _ c.loop-at.invariant (subst (λ (e : DirName). p e ≡ true) c.index-names-at.is (sym c.is_before.ensures ∙ c.if-not-is_before.false))

pub returns : goal.returns
returns c =
    let p = is_ahead c.args.name.now in
    let all : list_all p c.args.names.now ≡ true = sym (ap (list_all p) (take_all c.loop-at.at c.args.names.now (omega arith))) ∙ c.loop-at.invariant in
    all-ahead p c.args.names.now all
