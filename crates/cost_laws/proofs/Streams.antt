-- What a connection made costs no more than what its stream asks.
use Rattle.std.proofs.Common.{◌≡◌, inl, inr, ℕ, ◌+◌, ◌≤◌, List, [], ◌∷◌, ◌++◌, map, drop, length, Bool, true, false, Some, None, refl, sym, ap, ◌∙◌, subst, arith}
use Rattle.std.proofs.Math.Seq.{drop-append_seam}
use Rattle.std.proofs.lemmas.List.{append_assoc, append-nil}
use Rattle.std.proofs.lemmas.List.Sums.{sum_by-append, sum_by-cons}
use Rattle.portal_model.specs.declared.entry.Entry.{Entry}
use Rattle.portal_model.specs.declared.reply.Refused.{Refused}
use Rattle.portal_model.specs.declared.reply.Refused.TheVariants as refused
use Rattle.portal_model.specs.declared.request.Request.{Request}
use Rattle.portal_model.specs.History.{cost, cost_of}
use Rattle.portal_model.specs.Seated.{Exchange, Seated}
use Rattle.session.specs.declared.act.Act.{Act}
use Rattle.session.specs.declared.act.Client.{Client}
use Rattle.session.specs.declared.served.Served.{Served}
use Rattle.session.specs.declared.served.Served.TheVariants as served
use Rattle.session.specs.declared.served.Stop.{Stop}
use Rattle.session.specs.Answers.{AreOf, Denied, IsOf, Made, Outcome, kept}
use Rattle.session.specs.Asked.{asked, asked_by, requests_of}
use Rattle.session.specs.Connections.{Answered, Encloses, Enclosed, EndsAs as EndsWaiting, Front, Half, IsRefused, Whole, between}
use Rattle.session.specs.Cuts.{first_phase}
use Rattle.session.specs.Items.{AreItems, joined}
use Rattle.session.specs.Ledger.{Grew, World, world}
use Rattle.session.specs.Pumps.{Spring}
use Rattle.session.specs.Sessions.{enter}
use Rattle.session.proofs.AnswersAsked.{asked_go, of-append}
use Rattle.session.proofs.ConnectionStaysOpen.{ArePlain, IsPlain, items_plain}
use Rattle.session.proofs.DidItems.{items-append, joined-append}
use Rattle.session.proofs.Grew.{alike-entries, grew_none}
use Rattle.session.proofs.ItemsAreFound.{are_found, first_come}
use Rattle.session.proofs.ItemsAreOne.{are_one}
use Rattle.session.proofs.WholeInputsEnd.{read_of}
use Rattle.poll_laws.specs.Courses.{Around, Gone, Outside, Sight, Standing}
use Rattle.poll_laws.specs.Polls.{EndsAs}
use Rattle.worker_gate.specs.Polled.{ServesBy, ServesPolled, sight_of}
use Rattle.cost_laws.specs.Streams.{StreamAsks, StreamsAskOnce, StreamsCostAsAsked, costs, made_cost, refused_cost}

-- ---- what requests cost

costs-cons : (r : Request) (rs : List Request) → costs (r ∷ rs) ≡ cost_of r + costs rs
costs-cons r rs = sum_by-cons cost_of r rs

costs-append : (rs qs : List Request) → costs (rs ++ qs) ≡ costs rs + costs qs
costs-append rs qs = sum_by-append cost_of rs qs

pub made-cons : (x : Exchange) (xs : List Exchange)
    → made_cost (x ∷ xs) ≡ cost_of x.entry.request + made_cost xs
made-cons x xs =
    sum_by-cons (λ (e : Entry). cost_of e.request) x.entry (map (λ (z : Exchange). z.entry) xs)

-- what an outcome made costs no more than its request
first_within : (r : Request) (o : Outcome) (us : List Outcome) (rs : List Request) → IsOf r o
    → made_cost (kept us) ≤ costs rs → made_cost (kept (o ∷ us)) ≤ costs (r ∷ rs)
first_within r (Made x) us rs is h =
    let all = costs-cons r rs in
    let made : made_cost (kept (Made x ∷ us)) ≡ cost_of x.entry.request + made_cost (kept us) =
    made-cons x (kept us) in
    let same = ap cost_of is in
    omega (arith, all, made, same, h)
first_within r (Denied request why) us rs is h =
    let all = costs-cons r rs in
    let none : made_cost (kept (Denied request why ∷ us)) ≡ made_cost (kept us) = refl in
    omega (arith, all, none, h)

kept_within : (rs : List Request) (os : List Outcome) → AreOf rs os → made_cost (kept os) ≤ costs rs
kept_within [] os e =
    subst (λ (z : List Outcome). made_cost (kept z) ≤ costs []) (sym e) (omega arith)
kept_within (r ∷ rs) os (o, us, e, is, are) =
    subst (λ (z : List Outcome). made_cost (kept z) ≤ costs (r ∷ rs)) (sym e)
    (first_within r o us rs is (kept_within rs us are))

-- ---- what items ask

requests-append : (xs ys : List Act) → requests_of (xs ++ ys) ≡ requests_of xs ++ requests_of ys
requests-append [] ys = refl
requests-append (x ∷ xs) ys =
    ap (λ (rs : List Request). asked_by x ++ rs) (requests-append xs ys)
    ∙ sym (append_assoc (asked_by x) (requests_of xs) (requests_of ys))

asked_cost : (c : Client) (acts : List Act)
    → costs (asked c acts) ≡ cost_of (enter c) + costs (requests_of acts)
asked_cost c acts =
    let all = costs-cons (enter c) (requests_of acts ++ Request.Leave ∷ []) in
    let last = costs-append (requests_of acts) (Request.Leave ∷ []) in
    let free : costs (Request.Leave ∷ []) ≡ 0 = refl in
    omega (arith, all, last, free)

-- the first items of a connection ask no more than all
fewer_ask : (c : Client) (acts later : List Act)
    → costs (asked c acts) ≤ costs (asked c (acts ++ later))
fewer_ask c acts later =
    let first = asked_cost c acts in
    let all = asked_cost c (acts ++ later) in
    let joined_so = ap costs (requests-append acts later) in
    let both = costs-append (requests_of acts) (requests_of later) in
    omega (arith, first, all, joined_so, both)

-- ---- what is new of the seat's own

-- of two lists with one front that join to one, the others are one
pub same_back : (front xs ys : List Exchange) → front ++ xs ≡ front ++ ys → xs ≡ ys
same_back front xs ys e = sym (drop-append_seam front xs)
    ∙ (ap (drop (length front)) e ∙ drop-append_seam front ys)

-- what is new of the seat's own costs what the outcomes made
kept_cost : (v w : Seated) (os : List Outcome) (made : List Exchange) → Grew v os w
    → w.mine ≡ v.mine ++ made → made_cost made ≡ made_cost (kept os)
kept_cost v w os made g mine =
    let same : made ≡ g.steps = same_back v.mine made g.steps (sym mine ∙ g.mine) in
    ap made_cost same ∙ ap cost (sym (alike-entries v.opening.told g.steps (kept os) g.alike))

-- the outcomes of items that are answered are those of what the items ask
answered_so : (c : Client) (k : Answered c) → AreOf (requests_of k.acts) k.outcomes
answered_so c k = asked_go k.acts c 0 k.last k.outcomes k.pieces k.answers

module _ (c : Client) (v w : World) (stream : List ℕ) (total : ℕ) (made : List Exchange)
    (asks : StreamAsks c stream total) (mine : w.seated.mine ≡ v.seated.mine ++ made) where
  -- items from the front of the stream ask no more than all that it asks
  front_within : (items : List (List ℕ)) (acts : List Act) (after : List ℕ)
      → stream ≡ joined items ++ after → AreItems c (first_phase c.kind) items acts
      → costs (asked c acts) ≤ total
  front_within items acts after bytes each =
      let come =
      first_come c (first_phase c.kind) stream asks.items asks.acts asks.left asks.what
      items acts after asks.cut bytes each in
      let whole : total ≡ costs (asked c (acts ++ come.1)) =
      asks.total_is ∙ ap (λ (z : List Act). costs (asked c z)) come.3 in
      let fewer = fewer_ask c acts come.1 in
      omega (arith, whole, fewer)

  -- what is asked between Enter and Leave
  enclosed_within : (items : List (List ℕ)) (acts : List Act) (os : List Outcome)
      (ps : List (List ℕ)) (after : List ℕ) → stream ≡ joined items ++ after
      → AreItems c (first_phase c.kind) items acts → AreOf (requests_of acts) os
      → Enclosed c os ps v w → made_cost made ≤ total
  enclosed_within items acts os ps after bytes each are k =
      let all : AreOf (asked c acts) (between k.entered os k.leaving) = (
        Made k.entered,
        os ++ Made k.leaving ∷ [],
        refl,
        k.encloses.0,
        of-append (requests_of acts) (Request.Leave ∷ []) os (Made k.leaving ∷ []) are
            (Made k.leaving, [], refl, k.encloses.1, refl),
      ) in
      let made_so =
      kept_cost v.seated w.seated (between k.entered os k.leaving) made k.grows.desk mine in
      let kept_so = kept_within (asked c acts) (between k.entered os k.leaving) all in
      let front = front_within items acts after bytes each in
      omega (arith, made_so, kept_so, front)

  module _ (read rest : List ℕ) (parts : stream ≡ read ++ rest) where
    whole_within : (left : List ℕ) (what : Stop) → Whole c read left what v w
        → made_cost made ≤ total
    whole_within left what k =
        let bytes : stream ≡ joined k.all.items ++ (left ++ rest) =
        parts ∙ (ap (λ (z : List ℕ). z ++ rest) k.cut.bytes
        ∙ append_assoc (joined k.all.items) left rest) in
        enclosed_within k.all.items k.all.acts k.all.outcomes k.all.pieces (left ++ rest) bytes
        k.all.each (answered_so c k.all) k.asked

    some_within : Front c read v w → made_cost made ≤ total
    some_within k =
        let bytes : stream ≡ joined k.first.items ++ (k.after ++ rest) =
        parts ∙ (ap (λ (z : List ℕ). z ++ rest) k.bytes
        ∙ append_assoc (joined k.first.items) k.after rest) in
        enclosed_within k.first.items k.first.acts k.first.outcomes k.first.pieces
        (k.after ++ rest) bytes k.first.each (answered_so c k.first) k.asked

    half_within : Half c read v w → made_cost made ≤ total
    half_within k =
        let items : List (List ℕ) = k.first.items ++ k.then.item ∷ [] in
        let acts : List Act = k.first.acts ++ k.then.act ∷ [] in
        let front : joined items ≡ joined k.first.items ++ k.then.item =
        joined-append k.first.items (k.then.item ∷ [])
        ∙ ap (λ (z : List ℕ). joined k.first.items ++ z) (append-nil k.then.item) in
        let read_so : read ≡ joined items ++ k.after =
        k.bytes ∙ (sym (append_assoc (joined k.first.items) k.then.item k.after)
        ∙ ap (λ (z : List ℕ). z ++ k.after) (sym front)) in
        let bytes : stream ≡ joined items ++ (k.after ++ rest) =
        parts ∙ (ap (λ (z : List ℕ). z ++ rest) read_so
        ∙ append_assoc (joined items) k.after rest) in
        let each =
        items-append k.first.items (k.then.item ∷ []) c (first_phase c.kind) k.first.acts
        (k.then.act ∷ []) k.first.each (k.then.act, [], refl, k.then.is_item, refl) in
        let requests : requests_of acts ≡ requests_of k.first.acts ++ asked_by k.then.act =
        requests-append k.first.acts (k.then.act ∷ [])
        ∙ ap (λ (z : List Request). requests_of k.first.acts ++ z)
        (append-nil (asked_by k.then.act)) in
        let are =
        of-append (requests_of k.first.acts) (asked_by k.then.act) k.first.outcomes
        k.then.outcomes (answered_so c k.first) k.then.gives.asked in
        enclosed_within items acts (k.first.outcomes ++ k.then.outcomes)
        (k.first.pieces ++ k.then.written) (k.after ++ rest) bytes each
        (subst (λ (z : List Request). AreOf z (k.first.outcomes ++ k.then.outcomes))
        (sym requests) are) k.asked

  -- nothing was made, and Enter costs no more than all that is asked
  refused_within : (read : List ℕ) (a b : Spring) (why : Refused) → IsRefused c why read a b v w
      → made_cost made + cost_of (enter c) ≤ total
  refused_within read a b why k =
      let none : made_cost made ≡ 0 =
      kept_cost v.seated w.seated (Denied (enter c) why ∷ []) made k.1.desk mine in
      let all = asks.total_is in
      let asked_so = asked_cost c asks.acts in
      omega (arith, none, all, asked_so)

  untouched_within : w.seated ≡ v.seated → made_cost made ≤ total
  untouched_within same =
      let none : made_cost made ≡ 0 =
      kept_cost v.seated w.seated [] made
      (subst (λ (z : Seated). Grew v.seated [] z) (sym same) (grew_none v.seated)) mine in
      omega (arith, none)

  module _ (a b : Spring) (read rest : List ℕ) (parts : stream ≡ read ++ rest) where
    no_more : made_cost made ≤ total → made_cost made + 0 ≤ total
    no_more h = omega (arith, h)

    ends_within : (r : Served) → EndsWaiting c r read a b v w → made_cost made + refused_cost c r ≤ total
    ends_within served.Ended h = no_more (whole_within read rest parts _ _ h.1)
    ends_within (served.Cut n) h = no_more (whole_within read rest parts _ _ h.2.2)
    ends_within (served.Malformed at rule) h = no_more (whole_within read rest parts _ _ h.2)
    ends_within (served.LineTooLong at) h = no_more (whole_within read rest parts _ _ h.2)
    ends_within served.ReadFault h = no_more (whole_within read rest parts _ _ h.1.1)
    ends_within served.WriteFault h = no_more (half_within read rest parts h.1)
    ends_within served.Spent (long, (before, piece, left, is, short, k)) =
        no_more (whole_within before (piece ++ rest)
        (parts ∙ (ap (λ (z : List ℕ). z ++ rest) is ∙ append_assoc before piece rest)) _ _ k)
    ends_within (served.Full now limit) h = refused_within read a b _ h
    ends_within served.Memory (inl (inl h)) = no_more (untouched_within h.1)
    ends_within served.Memory (inl (inr h)) =
        let all = refused_within read a b _ h in omega (arith, all)
    ends_within served.Memory (inr (inl h, came)) = no_more (some_within read rest parts h)
    ends_within served.Memory (inr (inr h, came)) = no_more (half_within read rest parts h.0)

pub streams-cost-as-asked : StreamsCostAsAsked
streams-cost-as-asked c r a b v w stream total made h told asks mine =
    let rest = read_of stream h.0 a.left b.left told h.1 in
    ends_within c v w stream total made asks mine a b h.0 rest.0 rest.2 r h.3

-- ---- connections that were polled

-- no Enter of this client is refused among these outcomes
abbrev NoneRefused : Client → List Outcome → Type 0
NoneRefused c [] = Unit {0}
NoneRefused c (Made x ∷ os) = NoneRefused c os
NoneRefused c (Denied request why ∷ os) = (request ≡ enter c → ⊥) × NoneRefused c os

none_refused : (before after : List Outcome) (c : Client) (why : Refused)
    → NoneRefused c (before ++ (Denied (enter c) why ∷ after)) → ⊥
none_refused [] after c why h = h.0 refl
none_refused (Made x ∷ os) after c why h = none_refused os after c why h
none_refused (Denied request cause ∷ os) after c why h = none_refused os after c why h.1

none_then : (os : List Outcome) (c : Client) (l : Exchange) → NoneRefused c os
    → NoneRefused c (os ++ (Made l ∷ []))
none_then [] c l h = tt
none_then (Made x ∷ os) c l h = none_then os c l h
none_then (Denied request why ∷ os) c l h = (h.0, none_then os c l h.1)

plain_one : (r : Request) (o : Outcome) (os : List Outcome) (c : Client) → IsPlain r → IsOf r o
    → NoneRefused c os → NoneRefused c (o ∷ os)
plain_one r (Made x) os c plain is rest = rest
plain_one r (Denied request why) os c plain is rest =
    ((λ same. subst (λ (z : Request). IsPlain z) (sym is ∙ same) plain), rest)

-- what items ask is no Enter
plain_all : (rs : List Request) (os : List Outcome) (c : Client) → ArePlain rs → AreOf rs os
    → NoneRefused c os
plain_all [] os c plain are = subst (λ (z : List Outcome). NoneRefused c z) (sym are) tt
plain_all (r ∷ rs) os c plain (o, us, e, is, more) =
    subst (λ (z : List Outcome). NoneRefused c z) (sym e)
    (plain_one r o us c plain.0 is (plain_all rs us c plain.1 more))

refused_most : (c : Client) (r : Served) → refused_cost c r ≤ cost_of (enter c)
refused_most c (served.Full now limit) = omega arith
refused_most c served.Ended = omega arith
refused_most c (served.Cut rest) = omega arith
refused_most c (served.Malformed at rule) = omega arith
refused_most c (served.LineTooLong at) = omega arith
refused_most c served.ReadFault = omega arith
refused_most c served.WriteFault = omega arith
refused_most c served.Spent = omega arith
refused_most c served.Memory = omega arith

-- where no Enter was refused
refused_none : (c : Client) (r : Served) (t : Standing) (v w : Sight) (passed : List ℕ)
    (came : List Outcome) → t.client ≡ c → NoneRefused c came → EndsAs r t v w passed came
    → refused_cost c r ≡ 0
refused_none c (served.Full now limit) t v w passed came same none ((before, after, is), left, idle) =
    let at : came ≡ before ++ (Denied (enter c) (refused.Full now limit) ∷ after) =
    is ∙ ap (λ (z : Client). before ++ (Denied (enter z) (refused.Full now limit) ∷ after)) same in
    absurd (none_refused before after c (refused.Full now limit)
    (subst (λ (z : List Outcome). NoneRefused c z) at none))
refused_none c served.Ended t v w passed came same none h = refl
refused_none c (served.Cut rest) t v w passed came same none h = refl
refused_none c (served.Malformed at rule) t v w passed came same none h = refl
refused_none c (served.LineTooLong at) t v w passed came same none h = refl
refused_none c served.ReadFault t v w passed came same none h = refl
refused_none c served.WriteFault t v w passed came same none h = refl
refused_none c served.Spent t v w passed came same none h = refl
refused_none c served.Memory t v w passed came same none h = refl

module _ (c : Client) (r : Served) (a b : Spring) (v w : World) (stream : List ℕ) (total : ℕ)
    (made : List Exchange) (h : ServesPolled c r a b v w) (told : a.left ≡ Some stream)
    (asks : StreamAsks c stream total) (mine : w.seated.mine ≡ v.seated.mine ++ made) where
  grew_as : (os : List Outcome) → h.deeds.came ≡ os → Grew v.seated os w.seated
  grew_as os is = subst (λ (z : List Outcome). Grew v.seated z w.seated) is h.is.grew

  -- nothing was made
  none_within : (os : List Outcome) → h.deeds.came ≡ os → made_cost (kept os) ≡ 0
      → made_cost made + refused_cost c r ≤ total
  none_within os is none =
      let made_so = kept_cost v.seated w.seated os made (grew_as os is) mine in
      let most = refused_most c r in
      let all = asks.total_is in
      let asked_so = asked_cost c asks.acts in
      omega (arith, made_so, none, most, all, asked_so)

  inside_within : (x l : Exchange) → Encloses c x l → h.deeds.came ≡ between x h.deeds.outcomes l
      → made_cost made ≤ total
  inside_within x l both is =
      let rest = read_of stream h.deeds.read a.left b.left told h.is.came_in in
      let after : List ℕ = h.stands.left ++ h.deeds.passed in
      let bytes : stream ≡ joined h.deeds.items ++ (after ++ rest.0) =
      rest.2 ∙ (ap (λ (z : List ℕ). z ++ rest.0) h.is.bytes
      ∙ append_assoc (joined h.deeds.items) after rest.0) in
      enclosed_within c (world v.seated None 0) (world w.seated None 0) stream total made asks mine
      h.deeds.items h.deeds.acts h.deeds.outcomes h.deeds.pieces (after ++ rest.0) bytes h.is.each
      (asked_go h.deeds.acts c 0 h.is.last h.deeds.outcomes h.deeds.pieces h.is.answers) (record {
        entered = x;
        leaving = l;
        encloses = both;
        grows = record {
          desk = grew_as (between x h.deeds.outcomes l) is;
          told = refl;
          faults = omega arith;
        };
      })

  none_inside : (x l : Exchange) → h.deeds.came ≡ between x h.deeds.outcomes l
      → refused_cost c r ≡ 0
  none_inside x l is =
      let are =
      asked_go h.deeds.acts c 0 h.is.last h.deeds.outcomes h.deeds.pieces h.is.answers in
      let plain = items_plain h.deeds.items c (first_phase c.kind) h.deeds.acts h.is.each in
      let none : NoneRefused c h.deeds.came =
      subst (λ (z : List Outcome). NoneRefused c z) (sym is)
      (none_then h.deeds.outcomes c l (plain_all (requests_of h.deeds.acts) h.deeds.outcomes c plain are)) in
      refused_none c r h.stands (sight_of h.before a v) (sight_of h.after b w) h.deeds.passed
      h.deeds.came h.is.client none h.is.ends

  around_within : Around c Outside h.deeds.came h.deeds.outcomes Gone
      → made_cost made + refused_cost c r ≤ total
  around_within (inl (none, inl is)) = none_within [] is refl
  around_within (inl (none, inr (why, is))) = none_within (Denied (enter c) why ∷ []) is refl
  around_within (inr (x, l, both, is)) =
      let within = inside_within x l both is in
      let free = none_inside x l is in
      omega (arith, within, free)

pub polled-cost-as-asked : (polled : Bool) (c : Client) (r : Served) (a b : Spring) (v w : World)
    (stream : List ℕ) (total : ℕ) (made : List Exchange) → ServesBy polled c r a b v w
    → a.left ≡ Some stream → StreamAsks c stream total → w.seated.mine ≡ v.seated.mine ++ made
    → made_cost made + refused_cost c r ≤ total
polled-cost-as-asked true c r a b v w stream total made h told asks mine =
    around_within c r a b v w stream total made h told asks mine h.is.around
polled-cost-as-asked false c r a b v w stream total made h told asks mine =
    streams-cost-as-asked c r a b v w stream total made h told asks mine

pub streams-ask-once : StreamsAskOnce
streams-ask-once = record {
  some = λ c stream bytes.
      let found = are_found c (first_phase c.kind) stream bytes in (
        costs (asked c found.1),
        record {
          items = found.0;
          acts = found.1;
          left = found.2;
          what = found.3;
          cut = found.4;
          total_is = refl;
        },
      );
  one = λ c stream m n k l.
      let same =
      are_one c (first_phase c.kind) stream k.items l.items k.acts l.acts k.left l.left k.what
      l.what k.cut l.cut in
      k.total_is ∙ (ap (λ (z : List Act). costs (asked c z)) same.1 ∙ sym l.total_is);
}
