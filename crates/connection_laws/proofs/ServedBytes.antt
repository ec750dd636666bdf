-- Two connections of one application that have one trace, over any trees, and read the same are answered alike.
use Rattle.std.proofs.Common.{◌≡◌, List, ℕ, [], ◌∷◌, ◌++◌, map, length, length-append, sym, ap, ◌∙◌, subst, arith}
use Rattle.std.proofs.lemmas.List.{length-map, map-append}
use Rattle.portal_base.specs.declared.who.Kind.{Kind}
use Rattle.portal_model.specs.declared.reply.Reply.{Reply}
use Rattle.portal_model.specs.Seated.{Exchange}
use Rattle.served_world.specs.Laws.{but_content}
use Rattle.session.specs.declared.act.Act.{Act}
use Rattle.session.specs.declared.act.Client.{Client}
use Rattle.session.specs.declared.served.Stop.{Stop}
use Rattle.session.specs.Answers.{Answers, Outcome, kept}
use Rattle.session.specs.Asked.{requests_of}
use Rattle.session.specs.Connections.{Whole, between}
use Rattle.session.specs.Cuts.{first_phase}
use Rattle.session.proofs.ItemsFit.{AllFit, first_speaks, items_fit}
use Rattle.connection_laws.specs.Served.{Service, refusals_in, replied}
use Rattle.connection_laws.specs.ServedBytes.{AreAnsweredAlike, BytesAreOfTheServedTrace, HaveOneServedTrace, ItemsAreAlike, but_contents, said_in, served_seen, served_to}
use Rattle.connection_laws.proofs.ButContents.{told-same-but, told-with-contents, told_but}
use Rattle.connection_laws.proofs.Bytes.{acts-are, backs-many, fronts-many, seats-are}
use Rattle.connection_laws.proofs.SaidAlike.{items-alike, pieces-on-bus, pieces-shown}
use Rattle.connection_laws.proofs.ServedReplies.{served-replies}
use Rattle.connection_laws.proofs.Told.{as-many-kept, between-replied}

-- the replies that were given, but for contents
abbrev pub given : List Outcome → List Reply
given outcomes = but_contents (replied (kept outcomes))

pub between-given : (entered leaving : Exchange) (os : List Outcome) → given (between entered os leaving) ≡ but_content entered.reply ∷ (given os ++ but_content leaving.reply ∷ [])
between-given entered leaving os =
    ap but_contents (between-replied entered leaving os)
    ∙ ap (λ (rs : List Reply). but_content entered.reply ∷ rs) (map-append but_content (replied (kept os)) (leaving.reply ∷ []))

module _ (app : List ℕ) (c : Client) (x y : Service c) (read left rest : List ℕ) (what why : Stop) (i : Whole c read left what x.before x.after) (j : Whole c read rest why y.before y.after) (one : HaveOneServedTrace app c x y) (refused : refusals_in j.all.outcomes ≡ refusals_in i.all.outcomes) where
  same_acts : j.all.acts ≡ i.all.acts
  same_acts = acts-are app c x y read left rest what why i j

  abbrev first_outcomes : List Outcome
  first_outcomes = between i.asked.entered i.all.outcomes i.asked.leaving

  abbrev second_outcomes : List Outcome
  second_outcomes = between j.asked.entered j.all.outcomes j.asked.leaving

  as_many_given : length (given j.all.outcomes) ≡ length (given i.all.outcomes)
  as_many_given =
      length-map (replied (kept j.all.outcomes)) but_content
      ∙ (as-many-kept j.all.outcomes i.all.outcomes refused ∙ sym (length-map (replied (kept i.all.outcomes)) but_content))

  many_given : length (given second_outcomes) ≡ length (given first_outcomes)
  many_given =
      ap length (between-given j.asked.entered j.asked.leaving j.all.outcomes)
      ∙ (omega (arith, as_many_given, length-append (given j.all.outcomes) (but_content j.asked.leaving.reply ∷ []), length-append (given i.all.outcomes) (but_content i.asked.leaving.reply ∷ []))
      ∙ ap length (sym (between-given i.asked.entered i.asked.leaving i.all.outcomes)))

  same_given : given second_outcomes ≡ given first_outcomes
  same_given =
      backs-many (but_contents (served_to y.before.seated.seat (served_seen app y.before.seated))) (but_contents (served_to x.before.seated.seat (served_seen app x.before.seated))) (given second_outcomes) (given first_outcomes) many_given
      (sym (served-replies app c y second_outcomes one.client j.asked.grows.desk)
      ∙ ((λ k. but_contents (served_to (seats-are app c x y read left rest what why i j one.seat k) (one.trace k)))
      ∙ served-replies app c x first_outcomes one.client i.asked.grows.desk))

  -- and behind Enter
  behind_enter : given j.all.outcomes ++ but_content j.asked.leaving.reply ∷ [] ≡ given i.all.outcomes ++ but_content i.asked.leaving.reply ∷ []
  behind_enter =
      let whole : but_content j.asked.entered.reply ∷ (given j.all.outcomes ++ but_content j.asked.leaving.reply ∷ []) ≡ but_content i.asked.entered.reply ∷ (given i.all.outcomes ++ but_content i.asked.leaving.reply ∷ []) =
      sym (between-given j.asked.entered j.asked.leaving j.all.outcomes) ∙ (same_given ∙ between-given i.asked.entered i.asked.leaving i.all.outcomes) in
      cc

  told : map told_but i.all.outcomes ≡ map told_but j.all.outcomes
  told = sym (told-same-but j.all.outcomes i.all.outcomes (but_content j.asked.leaving.reply ∷ []) (but_content i.asked.leaving.reply ∷ []) refused behind_enter)

  second_answers : Answers c 0 i.all.acts j.all.outcomes j.all.pieces j.all.last
  second_answers = subst (λ (acts : List Act). Answers c 0 acts j.all.outcomes j.all.pieces j.all.last) same_acts j.all.answers

  items : ItemsAreAlike c 0 i.all.acts (said_in c i.all) (said_in c j.all)
  items = items-alike i.all.acts c 0 i.all.last j.all.last i.all.outcomes j.all.outcomes i.all.pieces j.all.pieces told i.all.answers second_answers

  same_replies : given j.all.outcomes ≡ given i.all.outcomes
  same_replies = fronts-many (given j.all.outcomes) (given i.all.outcomes) (but_content j.asked.leaving.reply ∷ []) (but_content i.asked.leaving.reply ∷ []) as_many_given behind_enter

  fits_bus : c.kind ≡ Kind.Bus → AllFit Kind.Bus (requests_of i.all.acts)
  fits_bus e = subst (λ (k : Kind). AllFit k (requests_of i.all.acts)) e (items_fit i.all.items c.kind c (first_phase c.kind) i.all.acts (first_speaks c.kind) i.all.each)

  pub answered-alike : AreAnsweredAlike c i.all j.all
  answered-alike = record {
    acts = same_acts;
    replies = same_replies;
    items = items;
    bus = λ e. pieces-on-bus i.all.acts c 0 (said_in c i.all) (said_in c j.all) (fits_bus e) items;
    shown = λ e. sym (pieces-shown i.all.acts c 0 i.all.last j.all.last i.all.outcomes j.all.outcomes i.all.pieces j.all.pieces (told-with-contents i.all.outcomes j.all.outcomes told (sym e)) i.all.answers second_answers);
  }

pub served-bytes : BytesAreOfTheServedTrace
served-bytes app c x y read left rest what why i j one refused = answered-alike app c x y read left rest what why i j one refused
