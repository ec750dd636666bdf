use Rattle.std.proofs.Common.{rules, arith, ◌≡◌, Some, take, length, vec_len, sym, ap, ◌∙◌, subst, inr}
use native.Mathlib.Decide.{ℕ_discrete}
use Rattle.turn_desk.specs.Knowing.{View}
use Rattle.turn_desk.specs.Views.{IsKept, joined}
use Rattle.turn_desk.proofs.Ending.{kept_old, kept_other, kept_first, popped}
use Rattle.std.specs.Prelude.{slice_get}
use Rattle.turn_desk.proofs.end.gather.Goals as goal

some_same : {X : Type 0} {x y : X} → Some x ≡ Some y → x ≡ y
some_same e = cc

pub loop-pass-preserved : goal.loop-pass-preserved
loop-pass-preserved g c =
    let i = c.loop-pass.invariant in
    let v : View = c.loop-pass.root.me.0 in
    let w : View = c.in-Some.pass.knows in
    let is : c.join.new.place.me.0 ≡ joined v w = ap (λ m. m.0) c.join.ensures.view ∙ ap (λ (z : View). joined v z) (ap (λ s. s.knows) c.pass.view_is) in
    let was : IsKept (joined v w) c.args.root.me.0 = kept_first v w c.args.root.me.0 _ i.kept in
    let p = popped c.args.passes.items c.pop.new.self.items c.in-Some.pass (vec_len c.loop-pass.passes) (sym i.front ∙ c.in-Some.ensures.items) i.len in
    let n : length c.pop.new.self.items ≡ vec_len c.pop.new.self = search rules in
    record {
      table = search rules;
      none = search rules;
      number = search rules;
      made = search rules;
      free = search rules;
      front = p.0 ∙ ap (λ k. take k c.args.passes.items) n;
      len = let a = p.1 in let b = i.len in omega arith;
      kept = inr (subst (λ (z : View). IsKept z c.args.root.me.0) (sym is) was);
      others = λ k x e le. elim (ℕ_discrete k (vec_len c.pop.new.self)) [
        | yes k_is ↦ let same : c.in-Some.pass ≡ x = some_same (sym p.2 ∙ (ap (slice_get c.args.passes.items) (n ∙ sym k_is) ∙ e)) in
            subst (λ (z : View). IsKept z x.knows) (sym is) (subst (λ y. IsKept (joined v w) y.knows) same (kept_other v w))
        | no ne ↦ subst (λ (z : View). IsKept z x.knows) (sym is) (kept_old v w x.knows (i.others k x e (let a = p.1 in omega arith)))
      ];
    }
