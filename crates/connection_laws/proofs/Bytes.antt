-- Two connections of one application that have one trace and read the same are answered by the same bytes.
use Rattle.std.proofs.Common.{◌≡◌, ℕ, List, [], ◌∷◌, ◌++◌, map, length, length-append, refl, sym, ap, ◌∙◌, subst, arith}
use Rattle.session.specs.declared.act.Act.{Act}
use Rattle.session.specs.declared.act.Client.{Client}
use Rattle.session.specs.declared.served.Stop.{Stop}
use Rattle.session.specs.Answers.{Answers, Outcome, kept, told_as}
use Rattle.session.specs.Connections.{Whole, between}
use Rattle.session.specs.Cuts.{first_phase}
use Rattle.session.proofs.AnswersAsked.{say_alike}
use Rattle.session.proofs.ItemsAreOne.{are_one}
use Rattle.connection_laws.specs.OwnPlaces.{replies_to}
use Rattle.connection_laws.specs.Served.{BytesAreOfTheTrace, IsOf, Service, refusals_in, replied, replies_seen}
use Rattle.connection_laws.proofs.Replies.{given-replies}
use Rattle.connection_laws.proofs.Told.{as-many-kept, between-replied, told-same}

-- of two lists that join to one, whose fronts are as long
backs : {X : Type 0} (fs bs xs ys : List X) → length fs ≡ length bs → fs ++ xs ≡ bs ++ ys → xs ≡ ys
backs [] [] xs ys n e = e
backs [] (b ∷ bs) xs ys n e = absurd (cc)
backs (a ∷ fs) [] xs ys n e = absurd (cc)
backs (a ∷ fs) (b ∷ bs) xs ys n e =
    let shorter : length fs ≡ length bs = cc in
    let tails : fs ++ xs ≡ bs ++ ys = cc in
    backs fs bs xs ys shorter tails

-- the fronts of these
pub fronts-many : {X : Type 0} (fs bs xs ys : List X) → length fs ≡ length bs → fs ++ xs ≡ bs ++ ys → fs ≡ bs
fronts-many [] [] xs ys n e = refl
fronts-many [] (b ∷ bs) xs ys n e = absurd (cc)
fronts-many (a ∷ fs) [] xs ys n e = absurd (cc)
fronts-many (a ∷ fs) (b ∷ bs) xs ys n e =
    let one : a ≡ b = cc in
    let shorter : length fs ≡ length bs = cc in
    let tails : fs ++ xs ≡ bs ++ ys = cc in
    λ i. one i ∷ fronts-many fs bs xs ys shorter tails i

-- or whose backs are as long
pub backs-many : {X : Type 0} (fs bs xs ys : List X) → length xs ≡ length ys → fs ++ xs ≡ bs ++ ys → xs ≡ ys
backs-many fs bs xs ys n e =
    let all = ap length e in
    backs fs bs xs ys (omega (arith, all, n, length-append fs xs, length-append bs ys)) e

module _ (app : List ℕ) (c : Client) (x y : Service c) (read left rest : List ℕ) (what why : Stop) (i : Whole c read left what x.before x.after) (j : Whole c read rest why y.before y.after) where
  -- the items of both ask the same
  pub acts-are : j.all.acts ≡ i.all.acts
  acts-are = (are_one c (first_phase c.kind) read j.all.items i.all.items j.all.acts i.all.acts rest left why what j.cut i.cut).1

  -- and both have one seat still
  pub seats-are : y.before.seated.seat ≡ x.before.seated.seat → y.after.seated.seat ≡ x.after.seated.seat
  seats-are e = j.asked.grows.desk.moved.seat ∙ (e ∙ sym i.asked.grows.desk.moved.seat)

  -- where the machine replies the same to both seats
  module _ (first : IsOf app c x) (second : IsOf app c y) (same_seen : replies_seen app y.after.seated ≡ replies_seen app x.after.seated) where
    abbrev first_outcomes : List Outcome
    first_outcomes = between i.asked.entered i.all.outcomes i.asked.leaving

    abbrev second_outcomes : List Outcome
    second_outcomes = between j.asked.entered j.all.outcomes j.asked.leaving

    -- where the same requests were refused, as many replies were given to both
    module _ (refused : refusals_in j.all.outcomes ≡ refusals_in i.all.outcomes) where
      many_given : length (replied (kept second_outcomes)) ≡ length (replied (kept first_outcomes))
      many_given =
          ap length (between-replied j.asked.entered j.asked.leaving j.all.outcomes)
          ∙ (omega (arith, as-many-kept j.all.outcomes i.all.outcomes refused, length-append (replied (kept j.all.outcomes)) (j.asked.leaving.reply ∷ []), length-append (replied (kept i.all.outcomes)) (i.asked.leaving.reply ∷ []))
          ∙ ap length (sym (between-replied i.asked.entered i.asked.leaving i.all.outcomes)))

      same_given : replied (kept second_outcomes) ≡ replied (kept first_outcomes)
      same_given =
          backs-many (replies_seen app y.before.seated) (replies_seen app x.before.seated) (replied (kept second_outcomes)) (replied (kept first_outcomes)) many_given
          (sym (given-replies app c y second_outcomes second j.asked.grows.desk) ∙ (same_seen ∙ given-replies app c x first_outcomes first i.asked.grows.desk))

      -- and behind Enter
      behind_enter : replied (kept j.all.outcomes) ++ j.asked.leaving.reply ∷ [] ≡ replied (kept i.all.outcomes) ++ i.asked.leaving.reply ∷ []
      behind_enter =
          let whole : j.asked.entered.reply ∷ (replied (kept j.all.outcomes) ++ j.asked.leaving.reply ∷ []) ≡ i.asked.entered.reply ∷ (replied (kept i.all.outcomes) ++ i.asked.leaving.reply ∷ []) =
          sym (between-replied j.asked.entered j.asked.leaving j.all.outcomes) ∙ (same_given ∙ between-replied i.asked.entered i.asked.leaving i.all.outcomes) in
          cc

      pub pieces-are : j.all.pieces ≡ i.all.pieces
      pieces-are =
          let told : map told_as j.all.outcomes ≡ map told_as i.all.outcomes = told-same j.all.outcomes i.all.outcomes (j.asked.leaving.reply ∷ []) (i.asked.leaving.reply ∷ []) refused behind_enter in
          let answers : Answers c 0 i.all.acts j.all.outcomes j.all.pieces j.all.last = subst (λ (acts : List Act). Answers c 0 acts j.all.outcomes j.all.pieces j.all.last) acts-are j.all.answers in
          (say_alike c 0 j.all.last i.all.last i.all.acts j.all.outcomes i.all.outcomes j.all.pieces i.all.pieces told answers i.all.answers).0

pub bytes-are : BytesAreOfTheTrace
bytes-are app c x y read left rest what why i j one refused =
    pieces-are app c x y read left rest what why i j one.first one.second (λ k. replies_to (seats-are app c x y read left rest what why i j one.seat k) (one.trace k)) refused
