use Rattle.std.proofs.Common.{arith}
use Rattle.std.proofs.lemmas.Result.{err_from_is_err_and}
use Rattle.dbus_marshal.specs.declared.read.ReadValue.{ReadValue}
use Rattle.dbus_marshal.proofs.SpelledKeepsRules.{spelled_keeps}
use Rattle.dbus_marshal.proofs.ReadValueLaws.{is_found, is_only, is_no_error, is_broken, is_none, is_first}
use Rattle.dbus_marshal.proofs.read.read_value.Goals as goal

pub returns-in_err-value-clause-only : goal.returns-in_err-value-clause-only
returns-in_err-value-clause-only c value text rest h parts =
    let p = err_from_is_err_and c.from_residual.result c.from_residual.ensures.1 in
    rw (p.1, p.2) (is_no_error c.args.endian c.args.kind.now c.args.bytes.now c.args.at c.in_err-value.field-0.0 c.in_err-value.ensures.read value text rest h parts _)

pub returns-clause-found : goal.returns-clause-found
returns-clause-found c =
    let f = is_found c.args.endian c.args.kind.now c.args.bytes.now c.args.at c.in_ok-value.value c.in_ok-value.next (λ i. omega (arith, c.type_inv.bytes i)) c.in_ok-value.ensures.read in
    (f.0, c.in_ok-value.ensures.within.1, f.1)

pub returns-clause-only : goal.returns-clause-only
returns-clause-only c value text rest h parts = is_only c.args.endian c.args.kind.now c.args.bytes.now c.args.at c.in_ok-value.value c.in_ok-value.next c.in_ok-value.ensures.read value text rest h parts

pub returns-clause-keeps : goal.returns-clause-keeps
returns-clause-keeps c valid =
    let f = is_found c.args.endian c.args.kind.now c.args.bytes.now c.args.at c.in_ok-value.value c.in_ok-value.next (λ i. omega (arith, c.type_inv.bytes i)) c.in_ok-value.ensures.read in
    spelled_keeps c.args.endian c.args.at c.args.kind.now c.in_ok-value.value _ f.1 valid

pub returns-in_err-value-clause-broken : goal.returns-in_err-value-clause-broken
returns-in_err-value-clause-broken c =
    let p = err_from_is_err_and c.from_residual.result c.from_residual.ensures.1 in
    rw (p.1, p.2) (is_broken ReadValue c.args.endian c.args.kind.now c.args.bytes.now c.args.at c.in_err-value.field-0.0 (λ i. omega (arith, c.type_inv.bytes i)) c.in_err-value.ensures.read)

pub returns-in_err-value-clause-first : goal.returns-in_err-value-clause-first
returns-in_err-value-clause-first c error h =
    let p = err_from_is_err_and c.from_residual.result c.from_residual.ensures.1 in
    rw (p.1, p.2) (is_first ReadValue c.args.endian c.args.kind.now c.args.bytes.now c.args.at c.in_err-value.field-0.0 (λ i. omega (arith, c.type_inv.bytes i)) c.in_err-value.ensures.read error h)

pub returns-clause-first : goal.returns-clause-first
returns-clause-first c error h = is_none c.args.endian c.args.kind.now c.args.bytes.now c.args.at _ (λ i. omega (arith, c.type_inv.bytes i)) c.in_ok-value.ensures.read error h
