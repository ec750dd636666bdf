use Rattle.std.proofs.Common.{◌++◌, ◌∷◌, [], List, ℕ, map, sym, ap, ◌∙◌, append_assoc}
use Rattle.std.proofs.lemmas.List.{take_all}
use Rattle.std.specs.List.{join_with_byte}
use Rattle.script_form.proofs.ScriptFacts.{append_nil}
use Rattle.script_form.proofs.WrittenFacts.{behind_first, joined_all, joined_more}
use Rattle.script_form.proofs.joined.write_joined.Goals as goal

pub loop-item-init : goal.loop-item-init
loop-item-init g c = sym (append_nil c.write.new.out)

pub loop-item-preserved : goal.loop-item-preserved
loop-item-preserved g c =
    let text = g.T.Written.text in
    let item = c.item-item.result in
    c.in_ok-write-2.ensures ∙ ap (λ (t : List ℕ). t ++ text item) c.in_ok-push.ensures.ok
    ∙ (λ i. (c.loop-item.out ++ (c.args.separator ∷ [])) ++ text (c.item-item.is i))
    ∙ joined_more c.args.separator text c.in-Some.others.now c.loop-item.item-index item c.write.new.out c.loop-item.out c.loop-item-test.true c.loop-item.invariant

pub returns : goal.returns
returns g c =
    let text = g.T.Written.text in
    let s = c.args.separator in
    c.loop-item.invariant
    ∙ ap (λ (t : List g.row.T.Denot). c.write.new.out ++ behind_first s text t) (take_all c.loop-item.item-index c.in-Some.others.now c.loop-item-test.false)
    ∙ ap (λ (t : List ℕ). t ++ behind_first s text c.in-Some.others.now) c.in_ok-write.ensures
    ∙ append_assoc c.args.out.now (text c.in-Some.first.now) (behind_first s text c.in-Some.others.now)
    ∙ ap (λ (t : List ℕ). c.args.out.now ++ t) (joined_all s text c.in-Some.first.now c.in-Some.others.now)
    ∙ ap (λ (xs : List g.row.T.Denot). c.args.out.now ++ join_with_byte s (map text xs)) (sym c.in-Some.ensures.cases.0)
