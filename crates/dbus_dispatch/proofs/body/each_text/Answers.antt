use Rattle.std.proofs.Common.{ℕ, List, subst, arith}
use Rattle.std.specs.Prelude.{All, IsUtf8}
use Rattle.std.proofs.lemmas.List.{take_all}
use Rattle.std.proofs.lemmas.List.Elements.{All-more}
use Rattle.dbus_types.specs.declared.types.Value.TheVariants as V
use Rattle.dbus_dispatch.proofs.Walked.{more_mapped}
use Rattle.dbus_dispatch.proofs.body.each_text.Goals as goal

pub loop-text-preserved : goal.loop-text-preserved
loop-text-preserved c =
    let l = c.loop-text in
    let texts : List (List ℕ) = c.args.texts.now in
    let text : List ℕ = c.text-item.result in
    let made = c.in_ok-text_value in record {
      told = more_mapped (λ (t : List ℕ). V.Str t) texts l.text-index text l.values c.push.new.self made.field-0 (omega arith) c.text-item.is l.invariant.told made.ensures.told c.in_ok-push.ensures.ok;
      utf8 = All-more IsUtf8 texts l.text-index text (omega arith) l.invariant.utf8 (subst IsUtf8 c.text-item.is made.ensures.utf8);
    }

pub returns-clause-utf8 : goal.returns-clause-utf8
returns-clause-utf8 c = subst (All IsUtf8) (take_all c.loop-text.text-index c.args.texts.now (omega arith)) c.loop-text.invariant.utf8
