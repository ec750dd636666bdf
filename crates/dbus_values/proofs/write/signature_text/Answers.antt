use Rattle.std.proofs.Common.{◌∙◌, ◌≡◌, ◌++◌, ap, map, sym, subst}
use Rattle.std.specs.Prelude.{IsUtf8}
use Rattle.dbus_types.specs.Types.{types_text}
use Rattle.dbus_values.specs.Values.{type_of}
use Rattle.dbus_values.proofs.Ascii.{utf8_types}
use Rattle.dbus_values.proofs.write.signature_text.Goals as goal

pub returns : goal.returns
returns c =
    let types = map type_of c.args.values.now in
    let codes : c.as_slice.result.now ≡ types_text types = c.as_slice.ensures ∙ (c.in_ok-put_types_of.ensures.ok ∙ ap (λ w. w ++ types_text types) c.new-codes.ensures) in
    c.from_string.ensures ∙ (c.in_ok-text.ensures.ok (subst IsUtf8 (sym codes) (utf8_types types)) ∙ codes)
