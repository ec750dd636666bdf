use Rattle.script_lines.proofs.LineFacts.{doc_line, doc_cut, doc_cut_flags, doc_cut_path, no_id, no_flags, no_path, doc_made, script_path}
use Rattle.script_lines.proofs.line.read_doc.Goals as goal

pub returns-in_default : goal.returns-in_default
returns-in_default c = λ line rules same. no_id c.args.rest.now c.in_default.ensures (doc_line c.args.rest.now line rules same)

pub returns-in_default-cut : goal.returns-in_default-cut
returns-in_default-cut c = λ line rules same.
    no_flags c.args.rest.now _ _ (doc_line c.args.rest.now line rules same) c.in-Some.ensures c.in_default-cut.ensures

pub returns-in_default-cut-2 : goal.returns-in_default-cut-2
returns-in_default-cut-2 c = λ line rules same.
    no_path c.args.rest.now _ _ _ _ (doc_line c.args.rest.now line rules same) c.in-Some.ensures c.in-Some-cut.ensures c.in_default-cut-2.ensures

pub returns-in_default-read_id : goal.returns-in_default-read_id
returns-in_default-read_id c = λ line rules same.
    let t = doc_line c.args.rest.now line rules same in
    c.in_default-read_id.ensures t.id t.rules.0 (doc_cut c.args.rest.now _ _ t c.in-Some.ensures).0

pub returns-in_default-read_flags : goal.returns-in_default-read_flags
returns-in_default-read_flags c = λ line rules same.
    let t = doc_line c.args.rest.now line rules same in
    c.in_default-read_flags.ensures t.reusable t.strict (doc_cut_flags c.args.rest.now _ _ _ _ t c.in-Some.ensures c.in-Some-cut.ensures).0

pub returns-in_default-2 : goal.returns-in_default-2
returns-in_default-2 c = λ line rules same.
    let t = doc_line c.args.rest.now line rules same in
    let halves = doc_cut_path c.args.rest.now _ _ _ _ _ _ t c.in-Some.ensures c.in-Some-cut.ensures c.in-Some-cut-2.ensures in
    let none = rw c.in_default-2.is at c.in_ok-path.ensures in
    absurd (cc (rw halves.0 at none, t.rules.1))

pub returns-in_default-3 : goal.returns-in_default-3
returns-in_default-3 c = λ line rules same.
    let t = doc_line c.args.rest.now line rules same in
    let halves = doc_cut_path c.args.rest.now _ _ _ _ _ _ t c.in-Some.ensures c.in-Some-cut.ensures c.in-Some-cut-2.ensures in
    (rw c.in_default-3.is at c.in_ok-grants.ensures) t.grants (record { each = t.rules.2.grants; rising = t.rules.2.rising; same = halves.1 })

pub returns : goal.returns
returns c =
    let id = c.in-Some-read_id.ensures in
    let path = rw c.in-Some-2.is at c.in_ok-path.ensures in
    let grants = rw c.in-Some-3.is at c.in_ok-grants.ensures in (
      (id.0, rw path.0 path.1, record { path = rw path.0 (script_path _ path.1); grants = grants.each; rising = grants.rising }),
      doc_made c.args.rest.now _ _ _ _ _ _ _ _ _ _ _ c.in-Some.ensures c.in-Some-cut.ensures c.in-Some-cut-2.ensures id.1 c.in-Some-read_flags.ensures path.0 grants.same,
    )
