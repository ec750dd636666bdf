use Rattle.std.proofs.Common.{◌≡◌, sym, ◌∙◌, refl, arith}
use Rattle.std.specs.Cmp.Lexicographic.{slice_cmp}
use Rattle.std.specs.Ordering.{nat_cmp}
use Rattle.std.specs.declared.cmp.Ordering.TheVariants.{Less}
use Rattle.record_keeper.proofs.RisingNames.{rises_there, rises_more, rises_all}
use Rattle.keeper_sqlite.proofs.kept.names_rise.Goals as goal
use Rattle.keeper_sqlite.proofs.kept.names_rise.Goals.{in-Less, in_default}

pub returns-then-not-matches : goal.returns-then-not-matches
returns-then-not-matches g c = (
  λ no. cc no,
  λ rising.
      let there = rises_there g.T.OfApplication.name_of c.args.items.now c.loop-at.at c.index-items-at.result c.index-items-at-in-loop-at.result c.loop-at.invariant.some c.loop-at-test.true rising in
      let is : c.cmp.result ≡ Less = c.cmp.ensures ∙ (λ i. slice_cmp nat_cmp (c.name.ensures i) (c.name-in-loop-at.ensures i)) ∙ (λ i. slice_cmp nat_cmp (g.T.OfApplication.name_of (c.index-items-at.is i)) (g.T.OfApplication.name_of (c.index-items-at-in-loop-at.is i))) ∙ there in
      elim c.match-matches.branch [
        | in-Less w ↦ let yes = w.matches-is in let no = c.if-not-matches.true in cc (yes, no)
        | in_default w ↦ absurd (w.in_default.not-Less is)
      ],
)

pub loop-at-preserved : goal.loop-at-preserved
loop-at-preserved g c = elim c.match-matches.branch [
  | in-Less w ↦
      let is : slice_cmp nat_cmp c.name.result.now c.name-in-loop-at.result.now ≡ Less = sym c.cmp.ensures ∙ w.in-Less.is in
      record {
        some = omega arith;
        rising = rises_more g.T.OfApplication.name_of c.args.items.now c.loop-at.at c.index-items-at.result c.index-items-at-in-loop-at.result c.loop-at.invariant.some c.loop-at-test.true
            ((λ i. slice_cmp nat_cmp (g.T.OfApplication.name_of (sym c.index-items-at.is i)) (g.T.OfApplication.name_of (sym c.index-items-at-in-loop-at.is i))) ∙ (λ i. slice_cmp nat_cmp (sym c.name.ensures i) (sym c.name-in-loop-at.ensures i)) ∙ is) c.loop-at.invariant.rising;
      }
  | in_default w ↦ let yes = w.matches-is in let no = c.if-not-matches.false in absurd (cc (yes, no))
]

pub returns : goal.returns
returns g c = (λ yes. rises_all g.T.OfApplication.name_of c.args.items.now c.loop-at.at c.loop-at-test.false c.loop-at.invariant.some c.loop-at.invariant.rising, λ rising. refl)
