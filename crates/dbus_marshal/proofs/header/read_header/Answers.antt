use Rattle.std.proofs.Common.{drop, arith, ap, ◌∙◌, List}
use Rattle.std.specs.Prelude.{filter}
use Rattle.std.proofs.lemmas.Result.{err_from_is_err_and}
use Rattle.dbus_types.specs.declared.types.Value.{Value}
use Rattle.dbus_types.specs.declared.types.Value.TheVariants as V
use Rattle.dbus_basic.specs.Reading.{after}
use Rattle.dbus_marshal.specs.Reads.{field_type, fields_type, has_code_to}
use Rattle.dbus_marshal.proofs.HeaderFields.{fields_give, fields_fail, same_fields}
use Rattle.dbus_marshal.proofs.ReadValueLaws.{is_found, is_only, is_no_error}
use Rattle.dbus_marshal.proofs.header.read_header.Goals as goal

pub returns-in_err-fields-clause-only : goal.returns-in_err-fields-clause-only
returns-in_err-fields-clause-only c all text rest h parts =
    let bytes = c.args.bytes.now in
    let p = err_from_is_err_and c.from_residual.result c.from_residual.ensures.1 in
    let fails = fields_fail c.args.highest c.args.endian c.args.at (drop c.args.at bytes) c.in_err-fields.field-0.0 c.in_err-fields.ensures.read in
    rw (p.1, p.2) (is_no_error c.args.endian fields_type bytes c.args.at c.in_err-fields.field-0.0 fails (V.Array field_type all) text rest h parts _)

pub returns-clause-found : goal.returns-clause-found
returns-clause-found c =
    let bytes = c.args.bytes.now in
    let gives = fields_give c.args.highest c.args.endian c.args.at (drop c.args.at bytes) (after bytes (c.in_ok-fields.fields, c.in_ok-fields.next)) c.in_ok-fields.ensures.read in
    let f = is_found c.args.endian fields_type bytes c.args.at (V.Array field_type gives.0) c.in_ok-fields.next (λ i. omega (arith, c.type_inv.bytes i)) gives.2 in
    (f.0, c.in_ok-fields.ensures.within.1, gives.0, gives.1, f.1)

pub returns-clause-only : goal.returns-clause-only
returns-clause-only c all text rest h parts =
    let bytes = c.args.bytes.now in
    let gives = fields_give c.args.highest c.args.endian c.args.at (drop c.args.at bytes) (after bytes (c.in_ok-fields.fields, c.in_ok-fields.next)) c.in_ok-fields.ensures.read in
    let o = is_only c.args.endian fields_type bytes c.args.at (V.Array field_type gives.0) c.in_ok-fields.next gives.2 (V.Array field_type all) text rest h parts in
    (gives.1 ∙ ap (λ (l : List Value). filter (has_code_to c.args.highest) l) (same_fields gives.0 all o.0), o.1)
