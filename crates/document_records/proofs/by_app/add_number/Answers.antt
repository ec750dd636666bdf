use Rattle.std.proofs.Common.{◌≡◌, ◌∙◌, rules, Some, None, true, ap, sym}
use Rattle.std.specs.BTreeMap.{UpdatesBy}
use Rattle.document_records.specs.GrantIndex.{numbers_found}
use Rattle.document_records.proofs.FoundByName.{by_items, by_text}
use Rattle.document_records.proofs.GrantsByNumber.{on-err, on-ok}
use Rattle.document_records.proofs.NumbersByApp.{begun, set-same, set-to}
use Rattle.document_records.proofs.by_app.add_number.Goals as goal

pub returns-in-Some-clause-ok : goal.returns-in-Some-clause-ok
returns-in-Some-clause-ok c =
    let old = c.args.by_app.now in
    let w = c.put.new.numbers in
    let found : numbers_found old c.args.app.now ≡ Some c.in-Some.numbers.now =
    ap (numbers_found old) (sym c.as_bytes.ensures.bytes) ∙ sym c.in-Some.ensures.value in
    let written : UpdatesBy by_items (by_text c.as_bytes.result.now) old
    (c.get_mut.follows.lender w) (Some w) = (c.get_mut.follows.holds w).3 (search rules) in
    on-ok c.put.result
    (λ h. set-to c.args.app.now old (c.get_mut.follows.lender w) (Some c.in-Some.numbers.now) w
    found (rw c.as_bytes.ensures.bytes at written) true c.args.id.number h)
    c.put.ensures.ok

pub returns-in-Some-clause-err : goal.returns-in-Some-clause-err
returns-in-Some-clause-err c =
    let old = c.args.by_app.now in
    let w = c.put.new.numbers in
    let found : numbers_found old c.args.app.now ≡ Some c.in-Some.numbers.now =
    ap (numbers_found old) (sym c.as_bytes.ensures.bytes) ∙ sym c.in-Some.ensures.value in
    let written : UpdatesBy by_items (by_text c.as_bytes.result.now) old
    (c.get_mut.follows.lender w) (Some w) = (c.get_mut.follows.holds w).3 (search rules) in
    on-err c.put.result
    (λ h. set-same c.args.app.now old (c.get_mut.follows.lender w) (Some c.in-Some.numbers.now) w
    found (rw c.as_bytes.ensures.bytes at written) h)
    c.put.ensures.err

pub returns-clause-ok : goal.returns-clause-ok
returns-clause-ok c =
    let old = c.args.by_app.now in
    let found : numbers_found old c.args.app.now ≡ None =
    ap (numbers_found old) (sym c.as_bytes.ensures.bytes) ∙ sym c.in_default.ensures.value in
    begun c.args.app.now c.args.id.number c.in_ok-name.name old c.get_mut.follows.lender-at-none
    c.insert.new.self c.new-numbers.result c.put-2.new.numbers c.get_mut.follows.holds-at-none
    (c.in_ok-name.ensures.items ∙ c.as_bytes-2.ensures.bytes) found c.new-numbers.ensures.empty
    c.in_ok-put.ensures.ok c.in_ok-insert.ensures.updates
