use Rattle.std.proofs.Common.{◌≡◌, [], sym}
use Rattle.portal_base.proofs.OwnFolders.{elsewhere, of_another, at_folder, past_folder, empty_is}
use Rattle.portal_base.proofs.names.host_path.HostPath.in_folder_of.Goals as goal

pub returns-in_default : goal.returns-in_default
returns-in_default c = sym (rw (← c.as_bytes.ensures.bytes) (elsewhere c.args.app.now c.as_bytes.result.now c.in_default.ensures.cases))

pub returns-in-Some-empty : goal.returns-in-Some-empty
returns-in-Some-empty c =
    let b = c.in-Some.ensures.cases in
    let r = c.in-Some-empty.ensures.cases in
    let none : c.in-Some-empty.field-0.now ≡ [] = empty_is c.in-Some-empty.field-0.now c.in-Some-empty.len_below in
    sym (rw (← c.as_bytes.ensures.bytes, ← c.as_bytes-2.ensures.bytes) (at_folder c.as_bytes-2.result.now c.as_bytes.result.now c.in-Some.below.now b.0 b.1 c.in-Some-empty.field-0.now r.0 r.1 none))

pub returns-in-Some-len1-up : goal.returns-in-Some-len1-up
returns-in-Some-len1-up c =
    let b = c.in-Some.ensures.cases in
    let r = c.in-Some-len1-up.ensures.cases in
    rw (← c.as_bytes.ensures.bytes, ← c.as_bytes-2.ensures.bytes) (past_folder c.as_bytes-2.result.now c.as_bytes.result.now c.in-Some.below.now b.0 b.1 c.in-Some-len1-up.field-0.now r.0 r.1 c.in-Some-len1-up.len_at_least)

pub returns-in-None : goal.returns-in-None
returns-in-None c =
    let b = c.in-Some.ensures.cases in
    sym (rw (← c.as_bytes.ensures.bytes, ← c.as_bytes-2.ensures.bytes) (of_another c.as_bytes-2.result.now c.as_bytes.result.now c.in-Some.below.now b.0 b.1 c.in-None.ensures.cases))
