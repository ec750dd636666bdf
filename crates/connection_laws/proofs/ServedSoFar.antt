-- Over any tree, replies and answers so far are those of the trace so far.
use Rattle.std.proofs.Common.{◌≡◌, inl, ℕ, suc, ◌-◌, ◌<◌, List, [], ◌∷◌, ◌++◌, drop, map, take, length, refl, sym, ap, ◌∙◌, subst, arith}
use Rattle.std.proofs.lemmas.List.{append_assoc, append-nil, length-map, map-append}
use Rattle.portal_base.specs.Outside.{Short}
use Rattle.portal_base.specs.declared.who.Kind.{Kind}
use Rattle.portal_base.specs.declared.who.Who.{Who}
use Rattle.portal_model.specs.declared.reply.Reply.{Reply}
use Rattle.portal_model.specs.Seated.{Exchange}
use Rattle.served_world.specs.Laws.{but_content}
use Rattle.served_world.specs.ServedWorld.{ServedTrace}
use Rattle.session.specs.declared.act.Act.{Act}
use Rattle.session.specs.declared.act.Client.{Client}
use Rattle.session.specs.Answers.{Outcome, kept}
use Rattle.session.specs.Asked.{requests_of}
use Rattle.session.specs.Connections.{between}
use Rattle.session.specs.Cuts.{first_phase}
use Rattle.session.specs.Ledger.{Grew}
use Rattle.session.proofs.DidItems.{answers-append}
use Rattle.session.proofs.Grew.{kept-append}
use Rattle.session.proofs.ItemsFit.{AllFit, first_speaks, items_fit}
use Rattle.connection_laws.specs.Served.{Service, refusals_in, replied}
use Rattle.connection_laws.specs.ServedBytes.{ItemsAreAlike, but_contents, served_seen, served_to}
use Rattle.connection_laws.specs.ServedSoFar.{AnsweredFirst, AnswersComeFirst, AreSaidAlike, ServedBytesSoFar, ServedGoesOn, ServedRepliesSoFar, ServedTracesBegin, said_of, said_to_cut, served_before, served_within}
use Rattle.connection_laws.proofs.BytesSoFar.{firsts}
use Rattle.connection_laws.proofs.ButContents.{told-same-but, told-with-contents, told_but}
use Rattle.connection_laws.proofs.Fronts.{behind-front}
use Rattle.connection_laws.proofs.SaidAlike.{alone, items-alike, pieces-on-bus, pieces-shown}
use Rattle.connection_laws.proofs.ServedBytes.{between-given, given}
use Rattle.connection_laws.proofs.ServedFronts.{served-first}
use Rattle.connection_laws.proofs.ServedReplies.{served-replies}
use Rattle.connection_laws.proofs.Told.{as-many-kept}

-- ---- replies

-- of one connection: those that the front has behind the former ones
within : (app : List ℕ) (c : Client) (x : Service c) → c.who ≡ Who.App app → (front : ServedTrace) (outcomes : List Outcome) → ServedGoesOn (served_seen app x.after.seated) front → Grew x.before.seated outcomes x.after.seated
    → take (served_within app c x front) (given outcomes) ≡ drop (length (served_before app c x)) (but_contents (served_to x.before.seated.seat front))
within app c x who front outcomes goes g =
    let former : List Reply = served_before app c x in
    let here : List Reply = served_to x.before.seated.seat front in
    let first = served-first x.before.seated.seat (served_seen app x.after.seated) front goes in
    let joined : but_contents former ++ given outcomes ≡ but_contents here ++ but_contents first.0 =
    sym (served-replies app c x outcomes who g)
    ∙ (ap (λ (n : ℕ). but_contents (served_to n (served_seen app x.after.seated))) g.moved.seat
    ∙ (ap but_contents first.1 ∙ map-append but_content here first.0)) in
    (λ i. take (sym (length-map here but_content) i - sym (length-map former but_content) i) (given outcomes))
    ∙ (behind-front (but_contents former) (given outcomes) (but_contents here) (but_contents first.0) joined
    ∙ ap (λ (n : ℕ). drop n (but_contents here)) (length-map former but_content))

pub served-replies-so-far : ServedRepliesSoFar
served-replies-so-far app c x y front outcomes others one g h =
    (λ i. take (sym same_count i) (given others))
    ∙ (within app c y one.client front others one.second_goes h
    ∙ ((λ i. drop (one.places i) (but_contents (served_to (one.seat i) front)))
    ∙ sym (within app c x one.client front outcomes one.first_goes g)))
  where
    same_count : served_within app c y front ≡ served_within app c x front
    same_count = λ i. length (served_to (one.seat i) front) - one.places i

-- ---- what answers items comes first

short-behind : (ps ws qs : List (List ℕ)) → Short ws qs → Short (ps ++ ws) (ps ++ qs)
short-behind [] ws qs h = h
short-behind (p ∷ ps) ws qs h = inl (refl, short-behind ps ws qs h)

pub answers-first : AnswersComeFirst
answers-first = record {
  whole = λ c acts v w k. (
    record {
      said = said_of k.outcomes k.pieces;
      last = k.last;
      answers = k.answers;
      others = k.others;
      entered = k.asked.entered;
      leaving = k.asked.leaving;
      encloses = k.asked.encloses;
      grew = k.asked.grows.desk;
    },
    refl,
  );
  cut = λ c read v w k. (
    record {
      said = said_to_cut c read v w k;
      last = k.then.last;
      answers = answers-append k.first.acts (k.then.act ∷ []) c 0 k.first.last k.then.last k.first.outcomes k.then.outcomes k.first.pieces k.then.pieces k.first.answers
          (alone c k.then.act k.first.last k.then.last k.then.outcomes k.then.pieces k.then.gives);
      others = [];
      entered = k.asked.entered;
      leaving = k.asked.leaving;
      encloses = k.asked.encloses;
      grew = subst (λ (os : List Outcome). Grew v.seated (between k.asked.entered os k.asked.leaving) w.seated) (sym (append-nil (k.first.outcomes ++ k.then.outcomes))) k.asked.grows.desk;
    },
    refl,
    short-behind k.first.pieces k.then.written k.then.pieces k.then.short,
  );
}

-- ---- and is alike

given-append : (os us : List Outcome) → given (os ++ us) ≡ given os ++ given us
given-append os us =
    ap (λ (xs : List Exchange). but_contents (replied xs)) (kept-append os us)
    ∙ (ap but_contents (map-append (λ (x : Exchange). x.reply) (kept os) (kept us)) ∙ map-append but_content (replied (kept os)) (replied (kept us)))

-- the replies of a connection: to Enter, to what is asked first, and those behind
given_in : (entered leaving : Exchange) (os us : List Outcome) → given (between entered (os ++ us) leaving) ≡ but_content entered.reply ∷ (given os ++ (given us ++ but_content leaving.reply ∷ []))
given_in entered leaving os us =
    between-given entered leaving (os ++ us)
    ∙ ap (λ (rs : List Reply). but_content entered.reply ∷ rs)
    (ap (λ (rs : List Reply). rs ++ but_content leaving.reply ∷ []) (given-append os us)
    ∙ append_assoc (given os) (given us) (but_content leaving.reply ∷ []))

many_given : (os : List Outcome) → length (given os) ≡ length (kept os)
many_given os = length-map (replied (kept os)) but_content ∙ length-map (kept os) (λ (x : Exchange). x.reply)

module _ (app : List ℕ) (c : Client) (x y : Service c) (front : ServedTrace) (acts : List Act) (i : AnsweredFirst c acts x.before x.after) (j : AnsweredFirst c acts y.before y.after) (one : ServedTracesBegin app c x y front) (enough : length (kept i.said.outcomes) < served_within app c x front) (refused : refusals_in j.said.outcomes ≡ refusals_in i.said.outcomes) where
  -- so many replies are the same, the one to Enter first
  same_first : but_content j.entered.reply ∷ given j.said.outcomes ≡ but_content i.entered.reply ∷ given i.said.outcomes
  same_first =
      let n : ℕ = served_within app c x front in
      let so_far = served-replies-so-far app c x y front (between i.entered (i.said.outcomes ++ i.others) i.leaving) (between j.entered (j.said.outcomes ++ j.others) j.leaving) one i.grew j.grew in
      let here = many_given i.said.outcomes in
      let there : length (given j.said.outcomes) ≡ length (given i.said.outcomes) =
      length-map (replied (kept j.said.outcomes)) but_content ∙ (as-many-kept j.said.outcomes i.said.outcomes refused ∙ sym (length-map (replied (kept i.said.outcomes)) but_content)) in
      firsts (but_content j.entered.reply ∷ given j.said.outcomes) (but_content i.entered.reply ∷ given i.said.outcomes)
      (given j.others ++ but_content j.leaving.reply ∷ []) (given i.others ++ but_content i.leaving.reply ∷ []) n
      (ap suc there) (grind (arith, here, there, enough))
      (ap (take n) (sym (given_in j.entered j.leaving j.said.outcomes j.others)) ∙ (so_far ∙ ap (take n) (given_in i.entered i.leaving i.said.outcomes i.others)))

  same_given : given j.said.outcomes ≡ given i.said.outcomes
  same_given = let e = same_first in cc

  told : map told_but i.said.outcomes ≡ map told_but j.said.outcomes
  told = sym (told-same-but j.said.outcomes i.said.outcomes [] [] refused (ap (λ (rs : List Reply). rs ++ []) same_given))

  items : ItemsAreAlike c 0 acts i.said j.said
  items = items-alike acts c 0 i.last j.last i.said.outcomes j.said.outcomes i.said.pieces j.said.pieces told i.answers j.answers

  pub said-alike : AreSaidAlike c acts i.said j.said
  said-alike = record {
    replies = same_given;
    items = items;
    bus = λ is each e. pieces-on-bus acts c 0 i.said j.said (subst (λ (k : Kind). AllFit k (requests_of acts)) e (items_fit is c.kind c (first_phase c.kind) acts (first_speaks c.kind) each)) items;
    shown = λ e. sym (pieces-shown acts c 0 i.last j.last i.said.outcomes j.said.outcomes i.said.pieces j.said.pieces (told-with-contents i.said.outcomes j.said.outcomes told (sym e)) i.answers j.answers);
  }

pub served-bytes-so-far : ServedBytesSoFar
served-bytes-so-far app c x y front acts i j one enough refused = said-alike app c x y front acts i j one enough refused
