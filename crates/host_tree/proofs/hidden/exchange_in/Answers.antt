use Rattle.std.proofs.Common.{◌≡◌, ◌<◌, length, Some, sym, ap, ◌∙◌, arith}
use Rattle.std.specs.List.{position_or_len}
use Rattle.host_tree.specs.Stored.{file_of, is_stored}
use Rattle.host_tree.specs.declared.files.Stored.{Stored}
use Rattle.host_tree.proofs.HiddenEntries.{got-there, has-place, is-found, path-named, set-listed, stored-found}
use Rattle.host_tree.proofs.hidden.exchange_in.Goals as goal

pub index_mut-entry-requires : goal.index_mut-entry-requires
index_mut-entry-requires c =
    let name = c.args.name.now in
    let es = c.args.files.now.items in
    let there : position_or_len (is_stored name) es < length es = has-place name es c.requires in
    let at : c.place_of-place.result ≡ position_or_len (is_stored name) es = c.place_of-place.ensures ∙ ap (position_or_len (is_stored name)) c.as_slice.ensures.value in
    omega (arith, c.args.files.now.ok.0)

pub returns-clause-given : goal.returns-clause-given
returns-clause-given c =
    let name = c.args.name.now in
    let es = c.args.files.now.items in
    let there : position_or_len (is_stored name) es < length es = has-place name es c.requires in
    let at : c.place_of-place.result ≡ position_or_len (is_stored name) es = c.place_of-place.ensures ∙ ap (position_or_len (is_stored name)) c.as_slice.ensures.value in
    ap (λ (s : Stored). Some s) c.replace.ensures.value
    ∙ stored-found name es c.place_of-place.result c.index_mut-entry.result.now at (omega arith) c.index_mut-entry.ensures.value

pub returns-clause-rest : goal.returns-clause-rest
returns-clause-rest c =
    let name = c.args.name.now in
    let es = c.args.files.now.items in
    let i = c.place_of-place.result in
    let e = c.index_mut-entry.result.now in
    let there : position_or_len (is_stored name) es < length es = has-place name es c.requires in
    let at : i ≡ position_or_len (is_stored name) es = c.place_of-place.ensures ∙ ap (position_or_len (is_stored name)) c.as_slice.ensures.value in
    let got = got-there es i e (omega arith) c.index_mut-entry.ensures.value in
    let path : e.0 ≡ name.path = path-named name e (is-found name es i e (sym at) got) in
    set-listed name (λ g. file_of (name.path, c.args.former)) es i e (e.0, c.replace.new.dest) (sym at) got (λ k. file_of (path k, c.replace.ensures.after k))
