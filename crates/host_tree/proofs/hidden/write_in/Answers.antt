use Rattle.std.proofs.Common.{◌≡◌, ◌<◌, length, refl, sym, ap, ◌∙◌, arith}
use Rattle.std.specs.List.{position_or_len, slice_set}
use Rattle.host_tree.specs.Stored.{is_stored, stored_written}
use Rattle.host_tree.specs.Trees.{written}
use Rattle.host_tree.proofs.Entries.{keeps-written}
use Rattle.host_tree.proofs.HiddenEntries.{got-there, here-found, listed-does, past-all, put-back}
use Rattle.host_tree.proofs.hidden.write_in.Goals as goal

pub returns-then-place-len-clause-does : goal.returns-then-place-len-clause-does
returns-then-place-len-clause-does c =
    let name = c.args.name.now in
    let es = c.args.files.now.items in
    let at : c.place_of-place.result ≡ position_or_len (is_stored name) es = c.place_of-place.ensures ∙ ap (position_or_len (is_stored name)) c.as_slice.ensures.value in
    (refl, past-all name es (omega (arith, c.args.files.now.ok.0)))

pub returns-clause-does : goal.returns-clause-does
returns-clause-does c =
    let name = c.args.name.now in
    let es = c.args.files.now.items in
    let i = c.place_of-place.result in
    let e = c.index_mut-entry.result.now in
    let at : i ≡ position_or_len (is_stored name) es = c.place_of-place.ensures ∙ ap (position_or_len (is_stored name)) c.as_slice.ensures.value in
    let inside : i < length es = omega (arith, c.args.files.now.ok.0) in
    let value = c.index_mut-entry.ensures.value in
    listed-does name (stored_written c.args.offset c.args.content.now c.args.now) (written c.args.offset c.args.content.now c.args.now) es i e c.write_as.new.self c.write_as.result
    (keeps-written c.args.offset c.args.content.now c.args.now) (sym at) (got-there es i e inside value) (here-found name es i e at inside value)
    (slice_set es i (e.0, c.write_as.new.self)) refl (put-back es i e value) c.write_as.ensures.does
