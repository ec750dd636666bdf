use Rattle.std.proofs.Common.{◌≡◌, ◌+◌, ◌-◌, ◌<◌, ℕ, List, ◌++◌, drop, length, length-append, ap, sym, ◌∙◌, append_assoc, true, false, arith}
use Rattle.fuse_reply.specs.Dirents.{dirent, fitting}
use Rattle.fuse_reply.specs.Rooms.{HasRoom}
use Rattle.fuse_reply.proofs.Fits.{fitting-next}
use Rattle.fuse_reply.proofs.dirent.put_dirents.Goals as goal

pub loop-place-preserved : goal.loop-place-preserved
loop-place-preserved c =
    let names = c.args.names.now in
    let place = c.loop-place.place in
    let entry = c.index-names-place.result in
    let size = c.in-Some.size in
    let here : place < length names = omega (arith, c.loop-place-test.true) in
    let is = rw (c.len.ensures) at c.in-Some.ensures.0 in
    let next = fitting-next names entry place c.loop-place.left size here c.index-names-place.is is c.in-Some.ensures.1 in
    record {
      items = rw (c.in_ok-put_dirent.ensures.items) (
          append_assoc c.loop-place.bytes.items (dirent entry (place + 1)) (fitting (drop (place + 1) names) (place + 1) (c.loop-place.left - size))
          ∙ (ap (λ (x : List ℕ). c.loop-place.bytes.items ++ x) (sym next) ∙ c.loop-place.invariant.items)
          );
      takes = omega (arith, c.loop-place.invariant.takes, c.in_ok-put_dirent.ensures.takes, ap length next, length-append (dirent entry (place + 1)) (fitting (drop (place + 1) names) (place + 1) (c.loop-place.left - size)));
    }

pub returns-in_err-put_dirent-clause-takes : goal.returns-in_err-put_dirent-clause-takes
returns-in_err-put_dirent-clause-takes c =
    let names = c.args.names.now in
    let place = c.loop-place.place in
    let entry = c.index-names-place.result in
    let size = c.in-Some.size in
    let here : place < length names = omega (arith, c.loop-place-test.true) in
    let is = rw (c.len.ensures) at c.in-Some.ensures.0 in
    let next = fitting-next names entry place c.loop-place.left size here c.index-names-place.is is c.in-Some.ensures.1 in
    omega (arith, c.loop-place.invariant.takes, c.in_err-put_dirent.ensures.takes, ap length next, length-append (dirent entry (place + 1)) (fitting (drop (place + 1) names) (place + 1) (c.loop-place.left - size)))

-- where all have room the first of those to come has
pub returns-in_err-put_dirent-clause-room : goal.returns-in_err-put_dirent-clause-room
returns-in_err-put_dirent-clause-room c h =
    let names = c.args.names.now in
    let place = c.loop-place.place in
    let entry = c.index-names-place.result in
    let size = c.in-Some.size in
    let here : place < length names = omega (arith, c.loop-place-test.true) in
    let is = rw (c.len.ensures) at c.in-Some.ensures.0 in
    let next = fitting-next names entry place c.loop-place.left size here c.index-names-place.is is c.in-Some.ensures.1 in
    let first : HasRoom c.loop-place.bytes (length (dirent entry (place + 1))) = omega (arith, h, c.loop-place.invariant.takes, ap length next, length-append (dirent entry (place + 1)) (fitting (drop (place + 1) names) (place + 1) (c.loop-place.left - size))) in
    let no : false ≡ true = c.in_err-put_dirent.ensures.room first in
    absurd (cc)
