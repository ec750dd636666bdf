use Rattle.std.proofs.Common.{◌≡◌, ◌+◌, List, [], ◌∷◌, drop, refl, sym, subst, ◌∙◌, ap, arith}
use Rattle.std.proofs.lemmas.List.{drop_more, drop_all}
use Rattle.dbus_types.specs.declared.types.WireType.{WireType}
use Rattle.dbus_message.proofs.Bodies.{Ahead, step, none, done, short}
use Rattle.dbus_message.proofs.content.read_body.Goals as goal

pub loop-kind-preserved : goal.loop-kind-preserved
loop-kind-preserved c =
    let types = c.args.types.now in
    let i = c.loop-kind.kind-index in
    let kind = c.kind-item.result in
    let left : drop i types ≡ kind ∷ drop (i + 1) types = drop_more types i kind (omega arith) ∙ ap (λ (t : WireType). t ∷ drop (i + 1) types) (sym c.kind-item.is) in
    let before = subst (λ (l : List WireType). Ahead c.args.endian c.args.bytes.now types c.loop-kind.values c.loop-kind.next l) left c.loop-kind.invariant in
    rw c.in_ok-push-in-Ok.ensures.ok (step c.args.endian c.args.bytes.now types c.loop-kind.values c.loop-kind.next kind (drop (i + 1) types) c.in-Ok.read.value c.in-Ok.read.next before
    c.in-Ok.ensures.found.0 c.in-Ok.ensures.found.1 c.in-Ok.ensures.found.2 c.in-Ok.ensures.only)

pub returns-in-Err : goal.returns-in-Err
returns-in-Err c =
    let types = c.args.types.now in
    let i = c.loop-kind.kind-index in
    let kind = c.kind-item.result in
    let left : drop i types ≡ kind ∷ drop (i + 1) types = drop_more types i kind (omega arith) ∙ ap (λ (t : WireType). t ∷ drop (i + 1) types) (sym c.kind-item.is) in
    let before = subst (λ (l : List WireType). Ahead c.args.endian c.args.bytes.now types c.loop-kind.values c.loop-kind.next l) left c.loop-kind.invariant in
    rw c.broken.ensures (none c.args.endian c.args.bytes.now types c.loop-kind.values c.loop-kind.next kind (drop (i + 1) types) c.in-Err.error _ before c.in-Err.ensures.only)

pub returns-then-next-bytes : goal.returns-then-next-bytes
returns-then-next-bytes c =
    let types = c.args.types.now in
    let left : drop c.loop-kind.kind-index types ≡ [] = drop_all c.loop-kind.kind-index types (omega arith) in
    let before = subst (λ (l : List WireType). Ahead c.args.endian c.args.bytes.now types c.loop-kind.values c.loop-kind.next l) left c.loop-kind.invariant in
    (short c.args.endian c.args.bytes.now types c.loop-kind.values c.loop-kind.next before (omega arith), refl)

pub returns : goal.returns
returns c =
    let types = c.args.types.now in
    let left : drop c.loop-kind.kind-index types ≡ [] = drop_all c.loop-kind.kind-index types (omega arith) in
    let before = subst (λ (l : List WireType). Ahead c.args.endian c.args.bytes.now types c.loop-kind.values c.loop-kind.next l) left c.loop-kind.invariant in
    done c.args.endian c.args.bytes.now types c.loop-kind.values c.loop-kind.next before (omega (arith, before.place))
