use Rattle.std.proofs.Common.{◌≡◌, ℕ, List, [], ◌∷◌, ◌++◌, Option, None, sym, ap, subst, ◌∙◌}
use Rattle.std.specs.Option.{option_copied}
use Rattle.dbus_types.specs.declared.types.WireType.{WireType}
use Rattle.dbus_types.specs.declared.types.WireType.TheVariants as W
use Rattle.dbus_types.specs.Types.{type_text, types_text}
use Rattle.dbus_types.proofs.TypeLayers.{text_struct}
use Rattle.dbus_calls.specs.Signatures.{IsBehind}
use Rattle.dbus_calls.proofs.Behind.{behind_two, passed_more, passed_none, entry_behind, entry_no_value}
use Rattle.dbus_calls.proofs.signature.+behind.Goals as goal

pub behind_struct-returns-in-Some-behind_types : goal.behind_struct-returns-in-Some-behind_types
behind_struct-returns-in-Some-behind_types t c =
    let members = c.in-Some.members.now in
    let end = c.in-Some-behind_types.end.now in
    let r = option_copied c.behind_byte-in-Some-behind_types.result in
    behind_two (40 ∷ []) (types_text c.args.kinds.now ++ 41 ∷ []) c.args.text.now members r c.in-Some.ensures (behind_two (types_text c.args.kinds.now) (41 ∷ []) members end r c.in-Some-behind_types.ensures c.behind_byte-in-Some-behind_types.ensures)

pub behind_type-returns-in-Struct : goal.behind_type-returns-in-Struct
behind_type-returns-in-Struct t c =
    let text : type_text c.args.kind.now ≡ 40 ∷ (types_text c.as_slice.result.now ++ 41 ∷ []) = ap type_text c.in-Struct.is ∙ (text_struct c.in-Struct.kinds ∙ ap (λ (ts : List WireType). 40 ∷ (types_text ts ++ 41 ∷ [])) (sym c.as_slice.ensures)) in
    subst (λ (w : List ℕ). IsBehind w c.args.text.now (option_copied c.behind_struct.result)) (sym text) c.behind_struct.ensures

pub behind_types-returns-in-None : goal.behind_types-returns-in-None
behind_types-returns-in-None t c = passed_none c.args.kinds.now c.loop-kind.kind-index c.kind-item.result c.args.text.now c.loop-kind.rest.now c.loop-kind.invariant c.loop-kind-test.true c.kind-item.is c.in-None.ensures

pub behind_types-loop-kind-preserved : goal.behind_types-loop-kind-preserved
behind_types-loop-kind-preserved t c = passed_more c.args.kinds.now c.loop-kind.kind-index c.kind-item.result c.args.text.now c.loop-kind.rest.now c.in-Some.next.now c.loop-kind.invariant c.loop-kind-test.true c.kind-item.is c.in-Some.ensures

pub behind_type-returns-in_ok-end-in-DictEntry : goal.behind_type-returns-in_ok-end-in-DictEntry
behind_type-returns-in_ok-end-in-DictEntry t c =
    let k = c.get-in-DictEntry.result.now in
    let u = c.get-in-DictEntry-2.result.now in
    let r = option_copied c.behind_byte-in-DictEntry-2.result in
    let same : c.args.kind.now ≡ W.DictEntry k u = c.in-DictEntry.is ∙ (ap (λ (x : WireType). W.DictEntry x c.in-DictEntry.value) (sym c.get-in-DictEntry.ensures) ∙ ap (λ (x : WireType). W.DictEntry k x) (sym c.get-in-DictEntry-2.ensures)) in
    subst (λ (w : WireType). IsBehind (type_text w) c.args.text.now r) (sym same) (entry_behind k u c.args.text.now c.in_ok-first-in-DictEntry.first.now c.in_ok-second-in-DictEntry.second.now c.in_ok-end-in-DictEntry.end.now r c.in_ok-first-in-DictEntry.ensures c.in_ok-second-in-DictEntry.ensures c.in_ok-end-in-DictEntry.ensures c.behind_byte-in-DictEntry-2.ensures)

pub behind_type-returns-in_err-end-in-DictEntry : goal.behind_type-returns-in_err-end-in-DictEntry
behind_type-returns-in_err-end-in-DictEntry t c =
    let k = c.get-in-DictEntry.result.now in
    let u = c.get-in-DictEntry-2.result.now in
    let text = c.args.text.now in
    let same : c.args.kind.now ≡ W.DictEntry k u = c.in-DictEntry.is ∙ (ap (λ (x : WireType). W.DictEntry x c.in-DictEntry.value) (sym c.get-in-DictEntry.ensures) ∙ ap (λ (x : WireType). W.DictEntry k x) (sym c.get-in-DictEntry-2.ensures)) in
    let none = entry_no_value k u text c.in_ok-first-in-DictEntry.first.now c.in_ok-second-in-DictEntry.second.now c.in_ok-first-in-DictEntry.ensures c.in_ok-second-in-DictEntry.ensures c.in_err-end-in-DictEntry.ensures in
    subst (λ (o : Option (List ℕ)). IsBehind (type_text c.args.kind.now) text o) (sym (ap option_copied c.from_residual-in_err-end-in-DictEntry.ensures)) (subst (λ (w : WireType). IsBehind (type_text w) text None) (sym same) none)
