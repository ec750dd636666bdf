use Rattle.std.proofs.Common.{◌≡◌, ◌==◌, ℕ, Bool, true, false, List, [], ◌∷◌, Some, sym, ap, ◌∙◌, arith}
use Rattle.std.specs.Prelude.{option_and_then}
use Rattle.std.specs.List.{position}
use Rattle.std.proofs.lemmas.Bool.Decides.{nat_tests}
use Rattle.std.proofs.lemmas.List.Folds.{find_past}
use Rattle.dbus_types.specs.declared.types.Value.{Value}
use Rattle.dbus_types.specs.declared.types.Value.TheVariants as V
use Rattle.dbus_message.specs.Fields.{field_code, field_value}
use Rattle.dbus_message.proofs.FirstFound.{first-found, none-found}
use Rattle.dbus_message.proofs.Tables.{code_in_field, value_in_field}
use Rattle.dbus_message.proofs.fields.take_value.Goals as goal

unlike : (here code other : ℕ) → here == code ≡ true → other == code ≡ false → here == other ≡ false
unlike here code other is differs = grind (arith, nat_tests)

pub returns-in-None-clause-value : goal.returns-in-None-clause-value
returns-in-None-clause-value c =
    let p : Value → Bool = λ f. field_code f == c.args.code in
    ap (option_and_then field_value) (sym (none-found p c.args.fields.now.items (c.in-None.ensures ∙ ap (λ (xs : List Value). position p xs) c.as_slice.ensures.value)))

pub returns-in-Some-clause-value : goal.returns-in-Some-clause-value
returns-in-Some-clause-value c =
    let p : Value → Bool = λ f. field_code f == c.args.code in
    let v = c.index_mut-field.result.now in
    let found = first-found p c.args.fields.now.items c.in-Some.at v (c.in-Some.ensures ∙ ap (λ (xs : List Value). position p xs) c.as_slice.ensures.value) c.index_mut-field.ensures.value in
    ap (λ (x : Value). Some x) c.replace.ensures.value
    ∙ (sym (value_in_field c.field.inside.code c.field.inside.value) ∙ (ap field_value c.field.view_is ∙ ap (option_and_then field_value) (sym found.0)))

pub returns-in-Some-clause-others : goal.returns-in-Some-clause-others
returns-in-Some-clause-others c other differs =
    let p : Value → Bool = λ f. field_code f == c.args.code in
    let q : Value → Bool = λ f. field_code f == other in
    let v = c.index_mut-field.result.now in
    let y : Value = V.Struct (V.Byte c.field.inside.code ∷ V.Variant c.replace.new.dest ∷ []) in
    let found = first-found p c.args.fields.now.items c.in-Some.at v (c.in-Some.ensures ∙ ap (λ (xs : List Value). position p xs) c.as_slice.ensures.value) c.index_mut-field.ensures.value in
    let same : field_code v ≡ field_code y = ap field_code (sym c.field.view_is) ∙ (code_in_field c.field.inside.code c.field.inside.value ∙ sym (code_in_field c.field.inside.code c.replace.new.dest)) in
    let here : q v ≡ false = unlike (field_code v) c.args.code other found.1 differs in
    ap (option_and_then field_value) (find_past q c.args.fields.now.items c.in-Some.at y v (ap q (sym c.index_mut-field.ensures.value) ∙ here) (ap (λ (n : ℕ). n == other) (sym same) ∙ here))
