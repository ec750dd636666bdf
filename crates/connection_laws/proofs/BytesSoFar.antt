-- Bytes so far are those of the trace so far.
use Rattle.std.proofs.Common.{◌≡◌, ℕ, zero, suc, ◌<◌, ◌≤◌, List, [], ◌∷◌, ◌++◌, map, take, length, refl, sym, ap, ◌∙◌, subst, arith}
use Rattle.std.proofs.lemmas.List.{append_assoc, append-nil, length-map}
use Rattle.portal_model.specs.declared.reply.Reply.{Reply}
use Rattle.portal_model.specs.Seated.{Exchange}
use Rattle.app_world.specs.World.{Trace}
use Rattle.session.specs.declared.act.Act.{Act}
use Rattle.session.specs.declared.act.Client.{Client}
use Rattle.session.specs.Answers.{Answers, Denied, Made, Outcome, kept, told_as}
use Rattle.session.specs.Connections.{Answered, Enclosed, between}
use Rattle.session.specs.Ledger.{World}
use Rattle.session.proofs.AnswersAsked.{say_alike}
use Rattle.session.proofs.Grew.{kept-append, told_alike}
use Rattle.connection_laws.specs.Served.{Service, refusals_in, replied}
use Rattle.connection_laws.specs.SoFar.{AskedFirst, BytesSoFar, ItemsAreAskedFirst, TracesBegin, replies_within}
use Rattle.connection_laws.proofs.RepliesSoFar.{replies-so-far}
use Rattle.connection_laws.proofs.Told.{between-replied, told-same}

-- ---- what is asked first

module _ (c : Client) (v w : World) where
  -- answers, and more behind them
  from_answered : (k : Answered c) (others : List Outcome) (behind : List (List ℕ)) → Enclosed c (k.outcomes ++ others) (k.pieces ++ behind) v w → AskedFirst c k.acts v w
  from_answered k others behind asked = record { outcomes = k.outcomes; pieces = k.pieces; last = k.last; answers = k.answers; others = others; behind = behind; asked = asked }

  -- and nothing behind them
  from_all : (k : Answered c) → Enclosed c k.outcomes k.pieces v w → AskedFirst c k.acts v w
  from_all k asked =
      from_answered k [] [] (subst (λ (os : List Outcome). Enclosed c os (k.pieces ++ []) v w) (sym (append-nil k.outcomes)) (subst (λ (ps : List (List ℕ)). Enclosed c k.outcomes ps v w) (sym (append-nil k.pieces)) asked))

-- the answers to a front of items
record Split (c : Client) (serial : ℕ) (acts : List Act) (outcomes : List Outcome) (pieces : List (List ℕ)) : Type 0 where
  os : List Outcome
  us : List Outcome
  ps : List (List ℕ)
  qs : List (List ℕ)
  last : ℕ
  outcomes_are : outcomes ≡ os ++ us
  pieces_are : pieces ≡ ps ++ qs
  answers : Answers c serial acts os ps last

split : (acts : List Act) (c : Client) (serial : ℕ) (more : List Act) (outcomes : List Outcome) (pieces : List (List ℕ)) (end : ℕ) → Answers c serial (acts ++ more) outcomes pieces end → Split c serial acts outcomes pieces
split [] c serial more outcomes pieces end a = record { os = []; us = outcomes; ps = []; qs = pieces; last = serial; outcomes_are = refl; pieces_are = refl; answers = (refl, refl, refl) }
split (act ∷ acts) c serial more outcomes pieces end (os, us, ps, qs, mid, o, p, gives, rest) =
    let r = split acts c mid more us qs end rest in
    record {
      os = os ++ r.os;
      us = r.us;
      ps = ps ++ r.ps;
      qs = r.qs;
      last = r.last;
      outcomes_are = o ∙ (ap (λ (z : List Outcome). os ++ z) r.outcomes_are ∙ sym (append_assoc os r.os r.us));
      pieces_are = p ∙ (ap (λ (z : List (List ℕ)). ps ++ z) r.pieces_are ∙ sym (append_assoc ps r.ps r.qs));
      answers = (os, r.os, ps, r.ps, mid, refl, refl, gives, r.answers);
    }

fewer-first : (c : Client) (acts more : List Act) (v w : World) → AskedFirst c (acts ++ more) v w → AskedFirst c acts v w
fewer-first c acts more v w k =
    let r = split acts c 0 more k.outcomes k.pieces k.last k.answers in
    let outcomes : k.outcomes ++ k.others ≡ r.os ++ (r.us ++ k.others) = ap (λ (z : List Outcome). z ++ k.others) r.outcomes_are ∙ append_assoc r.os r.us k.others in
    let pieces : k.pieces ++ k.behind ≡ r.ps ++ (r.qs ++ k.behind) = ap (λ (z : List (List ℕ)). z ++ k.behind) r.pieces_are ∙ append_assoc r.ps r.qs k.behind in
    record {
      outcomes = r.os;
      pieces = r.ps;
      last = r.last;
      answers = r.answers;
      others = r.us ++ k.others;
      behind = r.qs ++ k.behind;
      asked = subst (λ (os : List Outcome). Enclosed c os (r.ps ++ (r.qs ++ k.behind)) v w) outcomes (subst (λ (ps : List (List ℕ)). Enclosed c (k.outcomes ++ k.others) ps v w) pieces k.asked);
    }

pub items-first : ItemsAreAskedFirst
items-first = record {
  whole = λ c read left what v w k. from_all c v w k.all k.asked;
  front = λ c read v w k. from_all c v w k.first k.asked;
  half = λ c read v w k. from_answered c v w k.first k.then.outcomes k.then.written k.asked;
  fewer = fewer-first;
}

-- ---- bytes

module _ (c : Client) (acts : List Act) where
  -- the replies of a connection: to Enter, to what is asked first, and those behind
  replies_in : (v w : World) (k : AskedFirst c acts v w) → replied (kept (between k.asked.entered (k.outcomes ++ k.others) k.asked.leaving))
      ≡ k.asked.entered.reply ∷ (replied (kept k.outcomes) ++ (replied (kept k.others) ++ k.asked.leaving.reply ∷ []))
  replies_in v w k =
      between-replied k.asked.entered k.asked.leaving (k.outcomes ++ k.others)
      ∙ ap (λ (rs : List Reply). k.asked.entered.reply ∷ rs)
      (ap (λ (rs : List Reply). rs ++ k.asked.leaving.reply ∷ []) (ap replied (kept-append k.outcomes k.others) ∙ replied-append (kept k.outcomes) (kept k.others))
      ∙ append_assoc (replied (kept k.outcomes)) (replied (kept k.others)) (k.asked.leaving.reply ∷ []))
    where
      replied-append : (xs ys : List Exchange) → replied (xs ++ ys) ≡ replied xs ++ replied ys
      replied-append [] ys = refl
      replied-append (x ∷ xs) ys = ap (λ (rs : List Reply). x.reply ∷ rs) (replied-append xs ys)

-- refused so, as many replies are kept
as_many_kept : (os us : List Outcome) → refusals_in os ≡ refusals_in us → length (kept os) ≡ length (kept us)
as_many_kept [] [] e = refl
as_many_kept [] (u ∷ us) e = absurd (cc)
as_many_kept (o ∷ os) [] e = absurd (cc)
as_many_kept (Made x ∷ os) (Made y ∷ us) e =
    let behind : refusals_in os ≡ refusals_in us = cc in
    let more = as_many_kept os us behind in
    grind (arith, more)
as_many_kept (Made x ∷ os) (Denied request why ∷ us) e = absurd (cc)
as_many_kept (Denied request why ∷ os) (Made y ∷ us) e = absurd (cc)
as_many_kept (Denied request why ∷ os) (Denied other how ∷ us) e =
    let behind : refusals_in os ≡ refusals_in us = cc in
    as_many_kept os us behind

-- the first of two lists, in so many of both
pub firsts : {X : Type 0} (fs bs more rest : List X) (n : ℕ) → length fs ≡ length bs → length fs ≤ n → take n (fs ++ more) ≡ take n (bs ++ rest) → fs ≡ bs
firsts [] [] more rest n e l h = refl
firsts [] (b ∷ bs) more rest n e l h = absurd (cc)
firsts (a ∷ fs) [] more rest n e l h = absurd (cc)
firsts (a ∷ fs) (b ∷ bs) more rest zero e l h = absurd (omega arith)
firsts (a ∷ fs) (b ∷ bs) more rest (suc n) e l h =
    let one : a ≡ b = cc in
    let shorter : length fs ≡ length bs = cc in
    let tails : take n (fs ++ more) ≡ take n (bs ++ rest) = cc in
    λ i. one i ∷ firsts fs bs more rest n shorter (omega arith) tails i

many_replied : (xs : List Exchange) → length (replied xs) ≡ length xs
many_replied xs = length-map xs (λ (x : Exchange). x.reply)

module _ (app : List ℕ) (c : Client) (x y : Service c) (front : Trace) (acts : List Act) (i : AskedFirst c acts x.before x.after) (j : AskedFirst c acts y.before y.after) (one : TracesBegin app c x y front) (enough : length (kept i.outcomes) < replies_within app c x front) (refused : refusals_in j.outcomes ≡ refusals_in i.outcomes) where
  -- so many replies are the same, the one to Enter first
  same_first : j.asked.entered.reply ∷ replied (kept j.outcomes) ≡ i.asked.entered.reply ∷ replied (kept i.outcomes)
  same_first =
      let made = told_alike x.before.seated x.after.seated _ i.asked.grows.desk one.first.1 in
      let others = told_alike y.before.seated y.after.seated _ j.asked.grows.desk one.second.1 in
      let n = replies_within app c x front in
      let so_far = replies-so-far app c x y front _ _ one made others in
      let many : length (kept j.outcomes) ≡ length (kept i.outcomes) = as_many_kept j.outcomes i.outcomes refused in
      let here = many_replied (kept i.outcomes) in
      let there = many_replied (kept j.outcomes) in
      firsts (j.asked.entered.reply ∷ replied (kept j.outcomes)) (i.asked.entered.reply ∷ replied (kept i.outcomes))
      (replied (kept j.others) ++ j.asked.leaving.reply ∷ []) (replied (kept i.others) ++ i.asked.leaving.reply ∷ []) n
      (grind (arith, many, here, there)) (grind (arith, many, there, enough))
      (ap (take n) (sym (replies_in c acts y.before y.after j)) ∙ (so_far ∙ ap (take n) (replies_in c acts x.before x.after i)))

  told_first : map told_as j.outcomes ≡ map told_as i.outcomes
  told_first =
      let same : replied (kept j.outcomes) ≡ replied (kept i.outcomes) = let e = same_first in cc in
      told-same j.outcomes i.outcomes [] [] refused (ap (λ (rs : List Reply). rs ++ []) same)

  pub pieces-so-far : j.pieces ≡ i.pieces
  pieces-so-far = (say_alike c 0 j.last i.last acts j.outcomes i.outcomes j.pieces i.pieces told_first j.answers i.answers).0

pub bytes-so-far : BytesSoFar
bytes-so-far app c x y front acts i j one enough refused = pieces-so-far app c x y front acts i j one enough refused
