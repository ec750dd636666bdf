-- The links that were served so far, and one more.
use Rattle.std.proofs.Common.{◌≡◌, ℕ, ◌≤◌, List, [], ◌∷◌, ◌++◌, Bool, ◌||◌, Option, Some, None, IfSome, true, false, refl, sym, ap, ◌∙◌, subst, arith}
use Rattle.std.proofs.lemmas.List.{append-nil, append_assoc}
use Rattle.std.proofs.lemmas.List.Folds.{list_any-append}
use Rattle.portal_base.specs.declared.limits.Settings.{Settings}
use Rattle.portal_base.specs.declared.who.Kind.{Kind}
use Rattle.portal_base.specs.declared.who.Who.{Who}
use Rattle.portal_base.specs.Outside.{HasRisen}
use Rattle.portal_desk.specs.Knowing.{Known}
use Rattle.portal_model.specs.declared.reply.Refused.{Refused}
use Rattle.portal_model.specs.declared.reply.Refused.TheVariants as refused
use Rattle.portal_model.specs.declared.request.Request.{Request}
use Rattle.portal_model.specs.Seated.{Exchange, Moved, Seated, is_open, state_seen}
use Rattle.session.specs.declared.act.Client.{Client}
use Rattle.session.specs.declared.served.Served.{Served}
use Rattle.session.specs.declared.served.Served.TheVariants as served
use Rattle.session.specs.Hearing.{IsHeard}
use Rattle.session.specs.Isolation.{IsIsolated}
use Rattle.session.specs.Sessions.{enter}
use Rattle.session.specs.Standings.{client}
use Rattle.session.proofs.ConnectionEntries.{heard, isolated}
use Rattle.worker_gate.specs.declared.listener.Accepted.TheVariants as accepted
use Rattle.worker_gate.specs.declared.listener.Link.{Link}
use Rattle.worker_gate.specs.declared.worker.WorkEnd.{WorkEnd}
use Rattle.worker_gate.specs.declared.worker.WorkEnd.TheVariants as end
use Rattle.worker_gate.specs.Listening.{Accepts, Links, link, links, returned}
use Rattle.worker_gate.specs.Working.{EndsWork, Hall, Passes, ServesLink, ServesLinks, Sides, Visit, Works, any_full, is_full, joined, spring_of, visit, world_of}
use Rattle.worker_gate.specs.Polled.{CausedBy, ServesBy, ServesPolled}
use Rattle.worker_gate.proofs.Parts.{moved_none, part_by}
use Rattle.worker_gate.proofs.PolledLinks.{polled_connects, refused_full}

-- these links were served, the history had room for each, and the listener's counts stand still
pub record SoFar {S K : Type 0} (s : Sides S K) (polled : Bool) (c : Client) (a : Hall S K)
    (v : Seated) (b : Hall S K) (w : Seated) : Type 0 where
  pub given : List (Link S K)
  pub back : List (Link S K)
  pub visits : List Visit
  pub serves : ServesLinks s polled c given v visits back w
  pub none : any_full visits ≡ false
  pub passes : Passes a.links given back b.links
  pub ends : b.ends ≡ a.ends
  pub faults : b.faults ≡ a.faults

pub moved_on : (v m w : Seated) → Moved v m → Moved m w → Moved v w
moved_on v m w h k = record {
  opening = k.opening ∙ h.opening;
  seat = k.seat ∙ h.seat;
  begins = (
    h.begins.0 ++ k.begins.0,
    k.begins.1 ∙ (ap (λ z. z ++ k.begins.0) h.begins.1 ∙ append_assoc v.seen h.begins.0 k.begins.0),
  );
}

-- an ending that isn't this one
pub not_full : (e : Served) → ((cost limit : ℕ) → e ≡ served.Full cost limit → ⊥) → is_full e ≡ false
not_full (served.Full cost limit) other = absurd (other cost limit refl)
not_full served.Ended other = refl
not_full (served.Cut rest) other = refl
not_full (served.Malformed at rule) other = refl
not_full (served.LineTooLong at) other = refl
not_full served.ReadFault other = refl
not_full served.WriteFault other = refl
not_full served.Spent other = refl
not_full served.Memory other = refl

-- none of more links than before was refused
none_more : (xs : List Visit) (x : Visit) → any_full xs ≡ false → is_full x.ended ≡ false → any_full (xs ++ x ∷ []) ≡ false
none_more xs x h k = list_any-append (λ (y : Visit). is_full y.ended) xs (x ∷ []) ∙ (ap (λ (b : Bool). b || (is_full x.ended || false)) h ∙ ap (λ (b : Bool). b || false) k)

-- a count that rose behind another call rose over both
rose : (n m k : ℕ) → n ≤ m → HasRisen m k → HasRisen n k
rose n m k l e = omega (arith, l, e)

-- a cause is one from further back too
caused_from : (polled : Bool) (v d w : Seated) (request : Request) (why : Refused) → Moved v d → CausedBy polled d w request why → CausedBy polled v w request why
caused_from true v d w request why before (x, first, then, cause) = (x, moved_on v d x before first, then, cause)
caused_from false v d w request why before cause = cause

module _ {S K : Type 0} where
  pub passes_none : (o : Option (Links S K)) → Passes o [] [] o
  passes_none None = refl
  passes_none (Some l) = (l.coming, refl, ap (λ (z : List (Link S K)). Some (links l.coming z)) (sym (append-nil l.back)))

  pub passes_more : (a b m n : Option (Links S K)) (given back : List (Link S K)) (x : S) (y : K) (x' : S) (y' : K)
      → Passes a given back b → Accepts b (accepted.Link x y) m → n ≡ returned m x' y'
      → Passes a (given ++ link x y ∷ []) (back ++ link x' y' ∷ []) n
  passes_more None b m n given back x y x' y' p q r =
      let q' : m ≡ None = subst (λ (z : Option (Links S K)). Accepts z (accepted.Link x y) m) p q in
      r ∙ ap (λ (z : Option (Links S K)). returned z x' y') q'
  passes_more (Some old) b m n given back x y x' y' p q r =
      let q' = subst (λ (z : Option (Links S K)). Accepts z (accepted.Link x y) m) p.2 q in (
        q'.0,
        p.1 ∙ (ap (λ (z : List (Link S K)). given ++ z) q'.1 ∙ sym (append_assoc given (link x y ∷ []) q'.0)),
        r ∙ (ap (λ (z : Option (Links S K)). returned z x' y') q'.2 ∙ ap (λ (z : List (Link S K)). Some (links q'.0 z)) (append_assoc old.back back (link x' y' ∷ []))),
      )

  pub serves_more : (s : Sides S K) (polled : Bool) (c : Client) (given : List (Link S K)) (visits : List Visit) (back : List (Link S K)) (x y : Link S K) (z : Visit) (v m w : Seated)
      → ServesLinks s polled c given v visits back m → ServesLink s polled c x m z y w
      → ServesLinks s polled c (given ++ x ∷ []) v (visits ++ z ∷ []) (back ++ y ∷ []) w
  serves_more s polled c [] [] [] x y z v m w h k = (w, subst (λ (u : Seated). ServesLink s polled c x u z y w) h k, refl)
  serves_more s polled c (g ∷ given) (p ∷ visits) (b ∷ back) x y z v m w h k =
      (h.0, h.1, serves_more s polled c given visits back x y z h.0 m w h.2 k)
  serves_more s polled c [] [] (b ∷ back) x y z v m w h k = elim h [ ]
  serves_more s polled c [] (p ∷ visits) back x y z v m w h k = elim h [ ]
  serves_more s polled c (g ∷ given) [] back x y z v m w h k = elim h [ ]
  serves_more s polled c (g ∷ given) (p ∷ visits) [] x y z v m w h k = elim h [ ]

  -- the history goes on
  pub all_moved : (s : Sides S K) (polled : Bool) (c : Client) (given : List (Link S K)) (visits : List Visit) (back : List (Link S K)) (v w : Seated)
      → ServesLinks s polled c given v visits back w → Moved v w
  all_moved s polled c [] [] [] v w h = subst (λ (z : Seated). Moved v z) (sym h) (moved_none v)
  all_moved s polled c (g ∷ given) (p ∷ visits) (b ∷ back) v w h =
      moved_on v h.0 w h.1.moved (all_moved s polled c given visits back h.0 w h.2)
  all_moved s polled c [] [] (b ∷ back) v w h = elim h [ ]
  all_moved s polled c [] (p ∷ visits) back v w h = elim h [ ]
  all_moved s polled c (g ∷ given) [] back v w h = elim h [ ]
  all_moved s polled c (g ∷ given) (p ∷ visits) [] v w h = elim h [ ]

  -- no refusal is forgotten
  pub all_refusals : (s : Sides S K) (polled : Bool) (c : Client) (given : List (Link S K)) (visits : List Visit) (back : List (Link S K)) (v w : Seated)
      → ServesLinks s polled c given v visits back w → v.refusals ≤ w.refusals
  all_refusals s polled c [] [] [] v w h = let e : w.refusals ≡ v.refusals = ap (λ (z : Seated). z.refusals) h in omega (arith, e)
  all_refusals s polled c (g ∷ given) (p ∷ visits) (b ∷ back) v w h =
      let first = h.1.refusals in let others = all_refusals s polled c given visits back h.0 w h.2 in omega (arith, first, others)
  all_refusals s polled c [] [] (b ∷ back) v w h = elim h [ ]
  all_refusals s polled c [] (p ∷ visits) back v w h = elim h [ ]
  all_refusals s polled c (g ∷ given) [] back v w h = elim h [ ]
  all_refusals s polled c (g ∷ given) (p ∷ visits) [] v w h = elim h [ ]

  -- what is new of the seat's own falls into what was made at the links
  pub all_mine : (s : Sides S K) (polled : Bool) (c : Client) (given : List (Link S K)) (visits : List Visit) (back : List (Link S K)) (v w : Seated)
      → ServesLinks s polled c given v visits back w → w.mine ≡ v.mine ++ joined visits
  all_mine s polled c [] [] [] v w h = ap (λ (z : Seated). z.mine) h ∙ sym (append-nil v.mine)
  all_mine s polled c (g ∷ given) (p ∷ visits) (b ∷ back) v w h =
      all_mine s polled c given visits back h.0 w h.2 ∙ (ap (λ (z : List Exchange). z ++ joined visits) h.1.mine ∙ append_assoc v.mine p.made (joined visits))
  all_mine s polled c [] [] (b ∷ back) v w h = elim h [ ]
  all_mine s polled c [] (p ∷ visits) back v w h = elim h [ ]
  all_mine s polled c (g ∷ given) [] back v w h = elim h [ ]
  all_mine s polled c (g ∷ given) (p ∷ visits) [] v w h = elim h [ ]

  -- a link of the same caller and kind, polled where that is
  pub of_same : (s : Sides S K) (polled post_polled : Bool) (who post_who : Who) (kind post_kind : Kind) (settings : Settings) (x y : Link S K) (p : Visit) (v w : Seated)
      → post_polled ≡ polled → post_who ≡ who → post_kind ≡ kind → ServesLink s post_polled (client post_who post_kind settings) x v p y w
      → ServesLink s polled (client who kind settings) x v p y w
  of_same s polled post_polled who post_who kind post_kind settings x y p v w d e f h =
      subst (λ (z : Kind). ServesLink s polled (client who z settings) x v p y w) f
      (subst (λ (z : Who). ServesLink s polled (client z post_kind settings) x v p y w) e
      (subst (λ (z : Bool). ServesLink s z (client post_who post_kind settings) x v p y w) d h))

  pub none_yet : (s : Sides S K) (polled : Bool) (c : Client) (a : Hall S K) (v : Seated) → SoFar s polled c a v a v
  none_yet s polled c a v = record {
    given = [];
    visits = [];
    back = [];
    serves = refl;
    none = refl;
    passes = passes_none a.links;
    ends = refl;
    faults = refl;
  }

  -- one link more, from before an accept to after the link is back
  pub record OneMore (s : Sides S K) (polled : Bool) (c : Client) (a b m n : Hall S K) (v d w : Seated) (x : S) (y : K) (z : Visit) (back : Link S K) : Type 0 where
    pub far : SoFar s polled c a v b d
    pub accepts : Accepts b.links (accepted.Link x y) m.links
    pub ends : m.ends ≡ b.ends
    pub faults : m.faults ≡ b.faults
    pub back_is : n.links ≡ returned m.links back.source back.sink
    pub ends_still : n.ends ≡ m.ends
    pub faults_still : n.faults ≡ m.faults
    pub serves : ServesLink s polled c (link x y) d z back w

  module _ (s : Sides S K) (polled : Bool) (c : Client) (a b m n : Hall S K) (v d w : Seated) (x : S) (y : K) (z : Visit) (back : Link S K) (o : OneMore s polled c a b m n v d w x y z back) where
    serves_all : ServesLinks s polled c (o.far.given ++ link x y ∷ []) v (o.far.visits ++ z ∷ []) (o.far.back ++ back ∷ []) w
    serves_all = serves_more s polled c o.far.given o.far.visits o.far.back (link x y) back z v d w o.far.serves o.serves

    passes_all : Passes a.links (o.far.given ++ link x y ∷ []) (o.far.back ++ back ∷ []) n.links
    passes_all = passes_more a.links b.links m.links n.links o.far.given o.far.back x y back.source back.sink o.far.passes o.accepts o.back_is

    -- the history had room for it
    pub one_more : is_full z.ended ≡ false → SoFar s polled c a v n w
    one_more room = record {
      given = o.far.given ++ link x y ∷ [];
      visits = o.far.visits ++ z ∷ [];
      back = o.far.back ++ back ∷ [];
      serves = serves_all;
      none = none_more o.far.visits z o.far.none room;
      passes = passes_all;
      ends = o.ends_still ∙ (o.ends ∙ o.far.ends);
      faults = o.faults_still ∙ (o.faults ∙ o.far.faults);
    }

    -- it had none
    pub ends_full : (cost limit : ℕ) → z.ended ≡ served.Full cost limit → Works s polled c (end.Full cost limit) a v n w
    ends_full cost limit e =
        let h = o.serves in
        let serves : ServesBy polled c (served.Full cost limit) (spring_of s (link x y)) (spring_of s back) (world_of s d (link x y)) (world_of s w back) = subst (λ (r : Served). ServesBy polled c r (spring_of s (link x y)) (spring_of s back) (world_of s d (link x y)) (world_of s w back)) e h.serves in
        let refused_so = refused_full polled c cost limit (spring_of s (link x y)) (spring_of s back) (world_of s d (link x y)) (world_of s w back) serves in
        let all = serves_all in
        record {
          given = o.far.given ++ link x y ∷ [];
          visits = o.far.visits ++ z ∷ [];
          back = o.far.back ++ back ∷ [];
          serves = all;
          passes = passes_all;
          moved = all_moved s polled c (o.far.given ++ link x y ∷ []) (o.far.visits ++ z ∷ []) (o.far.back ++ back ∷ []) v w all;
          mine = all_mine s polled c (o.far.given ++ link x y ∷ []) (o.far.visits ++ z ∷ []) (o.far.back ++ back ∷ []) v w all;
          ends = (
            record {
              before = o.far.visits;
              made = z.made;
              last = ap (λ (r : Served). o.far.visits ++ visit r z.made ∷ []) e;
              none = o.far.none;
              refused_is = rose v.refusals d.refusals w.refusals (all_refusals s polled c o.far.given o.far.visits o.far.back v d o.far.serves) refused_so.0;
              cause = caused_from polled v d w (enter c) (refused.Full cost limit) (all_moved s polled c o.far.given o.far.visits o.far.back v d o.far.serves) refused_so.1;
            },
            o.ends_still ∙ (o.ends ∙ o.far.ends),
            o.faults_still ∙ (o.faults ∙ o.far.faults),
          );
        }

  -- the listener gave no link, and the lists are as they were
  ended : (s : Sides S K) (polled : Bool) (c : Client) (r : WorkEnd) (a b n : Hall S K) (v w : Seated)
      → (h : SoFar s polled c a v b w) → n.links ≡ b.links → EndsWork polled c r h.visits a v n w → Works s polled c r a v n w
  ended s polled c r a b n v w h e k = record {
    given = h.given;
    visits = h.visits;
    back = h.back;
    serves = h.serves;
    passes = subst (λ (z : Option (Links S K)). Passes a.links h.given h.back z) (sym e) h.passes;
    moved = all_moved s polled c h.given h.visits h.back v w h.serves;
    mine = all_mine s polled c h.given h.visits h.back v w h.serves;
    ends = k;
  }

  same_at_end : (b n : Option (Links S K)) → Accepts b accepted.Closed n → n ≡ b
  same_at_end None n h = h
  same_at_end (Some l) n h = h.1

  same_at_fault : (b n : Option (Links S K)) → Accepts b accepted.Failed n → n ≡ b
  same_at_fault None n h = h
  same_at_fault (Some l) n h = h

  same_at_want : (b n : Option (Links S K)) → Accepts b accepted.Memory n → n ≡ b
  same_at_want None n h = h
  same_at_want (Some l) n h = h

  none_comes : (b n : Option (Links S K)) → Accepts b accepted.Closed n → IfSome n (λ l. l.coming ≡ [])
  none_comes None n h = subst (λ (z : Option (Links S K)). IfSome z (λ l. l.coming ≡ [])) (sym h) tt
  none_comes (Some l) n h = subst (λ (z : Option (Links S K)). IfSome z (λ l. l.coming ≡ [])) (sym h.1) h.0

  module _ (s : Sides S K) (polled : Bool) (c : Client) (a b n : Hall S K) (v w : Seated) (h : SoFar s polled c a v b w) where
    pub ends_closed : Accepts b.links accepted.Closed n.links → HasRisen b.ends n.ends → n.faults ≡ b.faults
        → Works s polled c end.Closed a v n w
    ends_closed q e f = ended s polled c end.Closed a b n v w h (same_at_end b.links n.links q)
        (h.none, subst (λ (z : ℕ). HasRisen z n.ends) h.ends e, f ∙ h.faults, none_comes b.links n.links q)

    pub ends_failed : Accepts b.links accepted.Failed n.links → n.ends ≡ b.ends → HasRisen b.faults n.faults
        → Works s polled c end.Failed a v n w
    ends_failed q e f = ended s polled c end.Failed a b n v w h (same_at_fault b.links n.links q)
        (h.none, e ∙ h.ends, subst (λ (z : ℕ). HasRisen z n.faults) h.faults f)

    pub ends_wanting : Accepts b.links accepted.Memory n.links → n.ends ≡ b.ends → n.faults ≡ b.faults
        → Works s polled c end.Memory a v n w
    ends_wanting q e f = ended s polled c end.Memory a b n v w h (same_at_want b.links n.links q)
        (h.none, e ∙ h.ends, f ∙ h.faults)

  -- no link was accepted, for want of memory
  pub ends_unbegun : (s : Sides S K) (polled : Bool) (c : Client) (a : Hall S K) (v : Seated) → Works s polled c end.Memory a v a v
  unfolding none_yet
  ends_unbegun s polled c a v = ended s polled c end.Memory a a a v v (none_yet s polled c a v) refl (refl, refl, refl)

  -- a link was served, and something was made
  pub link_served : (s : Sides S K) (polled : Bool) (c : Client) (given : Link S K) (v : Seated) (back : Link S K) (w : Seated) (r : Served)
      → ServesBy polled c r (spring_of s given) (spring_of s back) (world_of s v given) (world_of s w back)
      → is_open (state_seen w) w.seat ≡ false → Known w → IsHeard v w → IsIsolated c.who v w
      → (made : List Exchange) × ServesLink s polled c given v (visit r made) back w
  link_served s polled c given v back w r h closed known heard isolated =
      let p = part_by polled c r (spring_of s given) (spring_of s back) (world_of s v given) (world_of s w back) h in (
        p.made,
        record {
          serves = h;
          moved = p.moved;
          mine = p.mine;
          refusals = p.refusals;
          closed = closed;
          known = known;
          heard = heard;
          isolated = isolated;
        },
      )

  -- the same of one that was polled
  pub link_polled : (s : Sides S K) (c : Client) (given : Link S K) (v : Seated) (back : Link S K) (w : Seated) (r : Served)
      → ServesPolled c r (spring_of s given) (spring_of s back) (world_of s v given) (world_of s w back)
      → Known v → Known w → is_open (state_seen v) v.seat ≡ false → is_open (state_seen w) w.seat ≡ false
      → (made : List Exchange) × ServesLink s true c given v (visit r made) back w
  link_polled s c given v back w r h before after opened closed =
      let connects = polled_connects c r (spring_of s given) (spring_of s back) (world_of s v given) (world_of s w back) h in
      link_served s true c given v back w r h closed after (heard c v w before after connects opened) (isolated c v w before after connects opened)
