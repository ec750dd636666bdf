-- What a client is told is told by the replies and the refusals.
use Rattle.std.proofs.Common.{◌≡◌, suc, List, [], ◌∷◌, ◌++◌, map, length, Option, None, Ok, Err, refl, ap, ◌∙◌, arith}
use Rattle.portal_model.specs.declared.reply.Refused.{Refused}
use Rattle.portal_model.specs.declared.reply.Reply.{Reply}
use Rattle.portal_model.specs.declared.request.Request.{Request}
use Rattle.portal_model.specs.Seated.{Exchange}
use Rattle.session.specs.Answers.{AreOf, Denied, Made, Outcome, denied, kept, told_as}
use Rattle.session.specs.Connections.{between}
use Rattle.session.proofs.Grew.{denied-append, kept-append}
use Rattle.connection_laws.specs.Served.{refusals_in, replied}

-- whatever replies come behind
pub told-same : (os us : List Outcome) (more rest : List Reply) → refusals_in os ≡ refusals_in us → replied (kept os) ++ more ≡ replied (kept us) ++ rest → map told_as os ≡ map told_as us
told-same [] [] more rest r e = refl
told-same [] (u ∷ us) more rest r e = absurd (cc)
told-same (o ∷ os) [] more rest r e = absurd (cc)
told-same (Made x ∷ os) (Made y ∷ us) more rest r e =
    let behind : refusals_in os ≡ refusals_in us = cc in
    let one : x.reply ≡ y.reply = cc in
    let others : replied (kept os) ++ more ≡ replied (kept us) ++ rest = cc in
    λ i. Ok (one i) ∷ told-same os us more rest behind others i
told-same (Made x ∷ os) (Denied request why ∷ us) more rest r e = absurd (cc)
told-same (Denied request why ∷ os) (Made y ∷ us) more rest r e = absurd (cc)
told-same (Denied request why ∷ os) (Denied other how ∷ us) more rest r e =
    let one : why ≡ how = cc in
    let behind : refusals_in os ≡ refusals_in us = cc in
    λ i. Err (one i) ∷ told-same os us more rest behind e i

-- where the same is refused, as many are replied to
pub as-many-kept : (os us : List Outcome) → refusals_in os ≡ refusals_in us → length (replied (kept os)) ≡ length (replied (kept us))
as-many-kept [] [] r = refl
as-many-kept [] (u ∷ us) r = absurd (cc)
as-many-kept (o ∷ os) [] r = absurd (cc)
as-many-kept (Made x ∷ os) (Made y ∷ us) r =
    let behind : refusals_in os ≡ refusals_in us = cc in
    ap suc (as-many-kept os us behind)
as-many-kept (Made x ∷ os) (Denied request why ∷ us) r = absurd (cc)
as-many-kept (Denied request why ∷ os) (Made y ∷ us) r = absurd (cc)
as-many-kept (Denied request why ∷ os) (Denied other how ∷ us) r =
    let behind : refusals_in os ≡ refusals_in us = cc in
    as-many-kept os us behind

-- the replies between Enter and Leave
pub between-replied : (entered leaving : Exchange) (os : List Outcome) → replied (kept (between entered os leaving)) ≡ entered.reply ∷ (replied (kept os) ++ leaving.reply ∷ [])
between-replied entered leaving os =
    ap (λ (xs : List Exchange). entered.reply ∷ replied xs) (kept-append os (Made leaving ∷ []))
    ∙ ap (λ (rs : List Reply). entered.reply ∷ rs) (joined (kept os))
  where
    joined : (xs : List Exchange) → replied (xs ++ leaving ∷ []) ≡ replied xs ++ leaving.reply ∷ []
    joined [] = refl
    joined (x ∷ xs) = ap (λ (rs : List Reply). x.reply ∷ rs) (joined xs)

-- ---- where nothing is refused

pub between-denied : (entered leaving : Exchange) (os : List Outcome) → denied (between entered os leaving) ≡ denied os
between-denied entered leaving os = let more = denied-append os (Made leaving ∷ []) in omega arith

-- as many outcomes as requests
pub as-many : (rs : List Request) (os : List Outcome) → AreOf rs os → length os ≡ length rs
as-many [] os h = ap length h
as-many (r ∷ rs) os (o, more, all, is, rest) = let n = as-many rs more rest in let m = ap length all in grind (arith, n, m)

pub none-refused : (os us : List Outcome) → denied os ≡ 0 → denied us ≡ 0 → length os ≡ length us → refusals_in os ≡ refusals_in us
none-refused [] [] a b n = refl
none-refused [] (u ∷ us) a b n = absurd (omega arith)
none-refused (o ∷ os) [] a b n = absurd (omega arith)
none-refused (Made x ∷ os) (Made y ∷ us) a b n = ap (λ (z : List (Option Refused)). None ∷ z) (none-refused os us a b (omega arith))
none-refused (Denied request why ∷ os) (u ∷ us) a b n = absurd (omega arith)
none-refused (Made x ∷ os) (Denied request why ∷ us) a b n = absurd (omega arith)
