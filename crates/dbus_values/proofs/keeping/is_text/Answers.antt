use Rattle.std.proofs.Common.{◌∙◌, sym, ap}
use Rattle.std.specs.List.{list_all}
use Rattle.portal_base.specs.Names.{is_byte_of_path}
use Rattle.portal_base.proofs.NoZeros.{all_from_test, test_from_all}
use Rattle.dbus_values.proofs.keeping.is_text.Goals as goal

pub returns : goal.returns
returns c =
    let text = c.args.text.now in
    let same = c.has_no_zero.ensures ∙ ap (list_all is_byte_of_path) c.as_bytes.ensures.value in
    (λ yes. (c.utf8.text, all_from_test text (sym same ∙ yes)), λ is. same ∙ test_from_all text is.1)
