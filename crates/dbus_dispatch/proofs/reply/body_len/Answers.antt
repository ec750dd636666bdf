use Rattle.std.proofs.Common.{◌≡◌, ◌+◌, ◌++◌, List, ℕ, ◌∷◌, drop, length, sym, subst, ◌∙◌, ap, arith}
use Rattle.std.proofs.lemmas.List.{drop_more}
use Rattle.dbus_types.specs.declared.types.Endian.TheVariants.{Little}
use Rattle.dbus_types.specs.declared.types.Value.{Value}
use Rattle.dbus_values.specs.Spelling.{spellings}
use Rattle.dbus_dispatch.proofs.ReturnLength.{spelled_more}
use Rattle.dbus_dispatch.proofs.reply.body_len.Goals as goal

pub loop-value-preserved : goal.loop-value-preserved
loop-value-preserved c =
    let body = c.args.body.now in
    let i = c.loop-value.value-index in
    let v = c.value-item.result in
    let written = c.loop-value.bytes in
    let left : drop i body ≡ v ∷ drop (i + 1) body = drop_more body i v (omega arith) ∙ ap (λ (w : Value). w ∷ drop (i + 1) body) (sym c.value-item.is) in
    let before = subst (λ (l : List Value). written ++ spellings Little (length written) l ≡ spellings Little 0 body) left c.loop-value.invariant in
    subst (λ (bytes : List ℕ). bytes ++ spellings Little (length bytes) (drop (i + 1) body) ≡ spellings Little 0 body) (sym c.in_ok-write_value.ensures.written)
    (spelled_more written v (drop (i + 1) body) (spellings Little 0 body) before)
