-- Each step keeps the rule.
use Rattle.std.proofs.Common.{◌≡◌, ◌≢◌, ◌⊎◌, ℕ, zero, suc, ◌+◌, ◌%◌, ◌<◌, ◌≤◌, List, [], ◌∷◌, ◌++◌, length, set, Bool, true, false, Option, Some, eqb, cond, eq-eqb, ne_eqb, refl, sym, ap, ◌∙◌, subst, inl, inr, ⊎_elim, arith, length-append, true≢false}
use Rattle.std.proofs.lemmas.List.{append_cancel_left}
use Rattle.std.proofs.lemmas.Bool.Decides.{nat_tests}
use Rattle.std.proofs.Common.{ltb}
use Rattle.std.specs.Prelude.{slice_index, slice_set}
use mathlib.Core.Option.{some, none, some-ne-none, some-injective}
use mathlib.Core.Option as maybe
use native.Mathlib.Decide.{ℕ_discrete}
use prog.Atomic.{either}
use lib.ListN.{get_elem?}
use Rattle.atomic_table.specs.Table.{State as TableState, Me, step, Act, keeps, takes, gives, Valid, homes_after, carried_after, Allows, opening, Splits, Joins}
use Rattle.atomic_table.proofs.Lists.{at_set, at_snoc, at_longer, set_else, exchanged}
use Rattle.portal_model.specs.declared.entry.Entry.{Entry}
use Rattle.portal_model.specs.History.{run}
use Rattle.portal_model.specs.Seated.{BeginsWith, Exchange, exchange, exchanges}
use Rattle.portal_model.specs.State.{State}
use Rattle.portal_model.proofs.SeatLaws.{begins-itself, begins-lengths, begins-between, exchanges-own, exchanges-other}
use Rattle.turn_desk.proofs.Fronts.{begins-longer, begins-both, exchanges-between}
use Rattle.turn_desk.specs.Knowing.{Done, View}
use Rattle.turn_desk.specs.Knowing.{fresh, spent}
use Rattle.turn_desk.specs.Views.{gave, given, longer, done, joined, lost, holding, wrote, freed, looked, Sits}
use Rattle.turn_desk.specs.Rules.{Covers, FitsDone, FitsLive, FitsView, Rule, Keeps, Ends}
use Rattle.turn_desk.specs.Plays.{Took}
use Rattle.turn_desk.specs.Plays as plays

off : {A : Type 0} → false ≡ true → A
off e = absurd (true≢false (sym e))

there : {A : Type 0} (l : List A) (i : ℕ) (a b : A) → get_elem? l i ≡ some a → get_elem? (set l i b) i ≡ some b
there [] i a b e = absurd (some-ne-none a (sym e))
there (x ∷ xs) zero a b e = refl
there (x ∷ xs) (suc i) a b e = there xs i a b e

-- what covers a number after a step that keeps the number and what is kept
covers_same : (v w : View) (n : ℕ) → w.number ≡ v.number → w.kept ≡ v.kept → Covers w n → Covers v n
covers_same v w n num kept c = ⊎_elim
    (λ (t : (0 < w.number) × (w.number ≡ n)). inl (omega arith, sym num ∙ t.1))
    (λ (t : (k : ℕ) × (d : Done) × (get_elem? w.kept k ≡ some d) × (d.number ≡ n)). inr (t.0, t.1, subst (λ (l : List Done). get_elem? l t.0 ≡ some t.1) kept t.2, t.3))
    c

-- the longer of two beginnings
record Longer (log xs ys zs : List Entry) : Type 0 where
  pub first : BeginsWith zs xs
  pub second : BeginsWith zs ys
  pub whole : BeginsWith log zs

picks : (b : Bool) (log xs ys : List Entry) → BeginsWith log xs → BeginsWith log ys → (b ≡ true → length xs ≤ length ys) → (b ≡ false → length ys ≤ length xs) → Longer log xs ys (cond b ys xs)
picks true log xs ys h k lt ge = record { first = begins-between log ys xs k h (lt refl); second = begins-itself ys; whole = k }
picks false log xs ys h k lt ge = record { first = begins-itself xs; second = begins-between log xs ys h k (ge refl); whole = h }

is_longer : (log xs ys : List Entry) → BeginsWith log xs → BeginsWith log ys → Longer log xs ys (longer xs ys)
is_longer log xs ys h k = picks (ltb (length xs) (length ys)) log xs ys h k (λ e. grind (arith, nat_tests)) (λ e. grind (arith, nat_tests))

redirect : ℕ → ℕ → ℕ → ℕ
redirect other id k = cond (eqb k other) id k

to_id : (other id k : ℕ) → k ≡ other → redirect other id k ≡ id
unfolding redirect
to_id other id k e = ap (λ (b : Bool). cond b id k) (eq-eqb k other e)

to_self : (other id k : ℕ) → k ≢ other → redirect other id k ≡ k
unfolding redirect
to_self other id k e = ap (λ (b : Bool). cond b id k) (ne_eqb k other e)

module _ {S : Type 0} (op : S → State) (es : S → List Entry) (key : S) where
  abbrev Sat : Type 0
  Sat = Me (Option S) View

  abbrev base : List Entry
  base = es key

  abbrev Views : List View → (ℕ → View → Type 0) → Type 0
  Views vs P = (j : ℕ) (u : View) → get_elem? vs j ≡ some u → P j u

  abbrev Apart : List View → Type 0
  Apart vs = (i j n : ℕ) (v w : View) → get_elem? vs i ≡ some v → get_elem? vs j ≡ some w → Covers v n → Covers w n → i ≡ j

  -- one view changes
  each_set : (P : ℕ → View → Type 0) (vs : List View) (id : ℕ) (w : View) → ((j : ℕ) (u : View) → j ≢ id → get_elem? vs j ≡ some u → P j u) → P id w → Views (set vs id w) P
  each_set P vs id w others mine j u e = ⊎_elim
      (λ (x : (j ≡ id) × (w ≡ u)). subst (λ (y : ℕ × View). P y.0 y.1) (λ i. (sym x.0 i, x.1 i)) mine)
      (λ (x : (j ≢ id) × (get_elem? vs j ≡ some u)). others j u x.0 x.1)
      (at_set vs id j w u e)

  -- the view that stands at a place after a change, with the one before that covered as much
  before_set : (vs : List View) (id : ℕ) (v w : View) → get_elem? vs id ≡ some v → ((n : ℕ) → Covers w n → Covers v n) → (j : ℕ) (u : View) → get_elem? (set vs id w) j ≡ some u
      → (u' : View) × (get_elem? vs j ≡ some u') × ((n : ℕ) → Covers u n → Covers u' n)
  before_set vs id v w at less j u e = ⊎_elim
      (λ (x : (j ≡ id) × (w ≡ u)). (v, ap (get_elem? vs) x.0 ∙ at, subst (λ (y : View). (n : ℕ) → Covers y n → Covers v n) x.1 less))
      (λ (x : (j ≢ id) × (get_elem? vs j ≡ some u)). (u, x.1, λ n c. c))
      (at_set vs id j w u e)

  apart_set : (vs : List View) (id : ℕ) (v w : View) → get_elem? vs id ≡ some v → ((n : ℕ) → Covers w n → Covers v n) → Apart vs → Apart (set vs id w)
  apart_set vs id v w at less apart i j n a b ea eb ca cb =
      let x = before_set vs id v w at less i a ea in
      let y = before_set vs id v w at less j b eb in
      apart i j n x.0 y.0 x.1 y.1 (x.2 n ca) (y.2 n cb)

  -- some view has seen all, after a change of one view that keeps what it has seen where that was all
  whole_set : (vs : List View) (id : ℕ) (v w : View) (log : List Entry) → get_elem? vs id ≡ some v → w.number ≡ v.number → (v.seen ≡ log → w.seen ≡ log)
      → ((j : ℕ) × (u : View) × (get_elem? vs j ≡ some u) × (0 < u.number) × (u.seen ≡ log)) → (j : ℕ) × (u : View) × (get_elem? (set vs id w) j ≡ some u) × (0 < u.number) × (u.seen ≡ log)
  whole_set vs id v w log at num same h = elim (ℕ_discrete h.0 id) [
    | yes e ↦ let is : v ≡ h.1 = some-injective _ _ (sym at ∙ (ap (get_elem? vs) (sym e) ∙ h.2)) in
        (id, w, there vs id v w at, subst (λ (k : ℕ). 0 < k) (ap (λ (z : View). z.number) (sym is) ∙ sym num) h.3, same (ap (λ (z : View). z.seen) is ∙ h.4))
    | no ne ↦ (h.0, h.1, set_else vs id h.0 w ne ∙ h.2, h.3, h.4)
  ]

  -- what a view covers was made
  covered : (t made : ℕ) (o : State) (log b : List Entry) (v : View) → FitsView t made o log b v → (m : ℕ) → Covers v m → (0 < m) × (m ≤ made)
  covered t made o log b v f m c = ⊎_elim
      (λ (x : (0 < v.number) × (v.number ≡ m)). let n = (f.live x.0).numbered in let p = x.0 in let q = x.1 in (omega arith, omega arith))
      (λ (x : (k : ℕ) × (d : Done) × (get_elem? v.kept k ≡ some d) × (d.number ≡ m)). let n = (f.kept x.0 x.1 x.2).numbered in let q = x.3 in (omega arith, omega arith))
      c

  -- a new view, whose number no view covers
  new_or_old : (vs : List View) (u x : View) (j : ℕ) → get_elem? (vs ++ u ∷ []) j ≡ some x → (get_elem? vs j ≡ some x) ⊎ ((j ≡ length vs) × (u ≡ x))
  new_or_old [] u x zero e = inr (refl, some-injective _ _ e)
  new_or_old [] u x (suc j) e = absurd (some-ne-none x (sym e))
  new_or_old (y ∷ ys) u x zero e = inl e
  new_or_old (y ∷ ys) u x (suc j) e = ⊎_elim (λ t. inl t) (λ (t : (j ≡ length ys) × (u ≡ x)). inr (ap suc t.0, t.1)) (new_or_old ys u x j e)

  covers_spent : {A : Type 0} (m : ℕ) → Covers spent m → A
  covers_spent m c = ⊎_elim
      (λ (x : (0 < 0) × (0 ≡ m)). absurd (let p = x.0 in omega arith))
      (λ (x : (k : ℕ) × (d : Done) × (get_elem? {A = Done} [] k ≡ some d) × (d.number ≡ m)). absurd (some-ne-none x.1 (sym x.2)))
      c

  done_at : (ds : List Done) (u x : Done) (j : ℕ) → get_elem? (ds ++ u ∷ []) j ≡ some x → (get_elem? ds j ≡ some x) ⊎ ((j ≡ length ds) × (u ≡ x))
  done_at [] u x zero e = inr (refl, some-injective _ _ e)
  done_at [] u x (suc j) e = absurd (some-ne-none x (sym e))
  done_at (y ∷ ys) u x zero e = inl e
  done_at (y ∷ ys) u x (suc j) e = ⊎_elim (λ t. inl t) (λ (t : (j ≡ length ys) × (u ≡ x)). inr (ap suc t.0, t.1)) (done_at ys u x j e)

  covers_given : (v : View) (m : ℕ) → Covers (given v) m → m ≡ v.made + 1
  covers_given v m c = ⊎_elim
      (λ (x : (0 < v.made + 1) × (v.made + 1 ≡ m)). sym x.1)
      (λ (x : (k : ℕ) × (d : Done) × (get_elem? {A = Done} [] k ≡ some d) × (d.number ≡ m)). absurd (some-ne-none x.1 (sym x.2)))
      c

  apart_snoc : (vs : List View) (u : View) → ((j : ℕ) (x : View) → get_elem? vs j ≡ some x → (m : ℕ) → Covers x m → Covers u m → ⊥) → Apart vs → Apart (vs ++ u ∷ [])
  apart_snoc vs u new old i j m x y ex ey cx cy = ⊎_elim
      (λ ox. ⊎_elim
      (λ oy. old i j m x y ox oy cx cy)
      (λ (ny : (j ≡ length vs) × (u ≡ y)). absurd (new i x ox m cx (subst (λ z. Covers z m) (sym ny.1) cy)))
      (new_or_old vs u y j ey))
      (λ (nx : (i ≡ length vs) × (u ≡ x)). ⊎_elim
      (λ oy. absurd (new j y oy m cy (subst (λ z. Covers z m) (sym nx.1) cx)))
      (λ (ny : (j ≡ length vs) × (u ≡ y)). nx.0 ∙ sym ny.0)
      (new_or_old vs u y j ey))
      (new_or_old vs u x i ex)

  apart_new : (vs : List View) (id : ℕ) (v : View) → get_elem? vs id ≡ some v → (made : ℕ) → v.made ≡ made → Apart vs → ((j : ℕ) (x : View) → get_elem? vs j ≡ some x → (m : ℕ) → Covers x m → (0 < m) × (m ≤ made)) → Apart (set vs id (gave v) ++ given v ∷ [])
  apart_new vs id v at made is apart bound = apart_snoc (set vs id (gave v)) (given v)
      (λ j x e m c d. let o = before_set vs id v (gave v) at (λ n q. q) j x e in let b = bound j o.0 o.1 m (o.2 m c) in let g = covers_given v m d in omega arith)
      (apart_set vs id v (gave v) at (λ n q. q) apart)

  -- a step at the first word, over plain parts
  abbrev pub Goes : ℕ → Sat → (ℕ → ℕ → ℕ × ℕ) → (ℕ → ℕ → Sat → Type 0) → Type 0
  Goes id me f then = (t n : ℕ) (h : maybe.Option (Option S)) (vs : List View) → Rule op es key t n h vs → get_elem? vs id ≡ some me.0
      → (w : View) × (a : Act (Option S)) × Valid (h ∷ []) me.1 a
      × ((h' : maybe.Option (Option S)) × (homes_after (h ∷ []) me.1 a ≡ h' ∷ []) × Rule op es key (f t n).0 (f t n).1 h' (set vs id w))
      × then t n (w, carried_after me.1 a)

  pub at_turn : (slots id : ℕ) (me : Sat) (f : ℕ → ℕ) (then : ℕ → Sat → Type 0) → Goes id me (λ t n. (f t, n)) (λ t n. then t) → Allows (Keeps op es key) slots id me 0 f then
  at_turn slots id me f then goes s k len at fits =
      let r = goes k.turn k.served k.home s.views k.rule at in
      let is : slice_index s.words 0 ≡ k.turn = ap (λ ws. slice_index ws 0) k.words in (
        r.0,
        r.1,
        subst (λ (hs : List (maybe.Option (Option S))). Valid hs me.1 r.1) (sym k.homes) r.2,
        record {
          turn = f k.turn;
          served = k.served;
          home = r.3.0;
          words = ap (λ ws. slice_set ws 0 (f (slice_index ws 0))) k.words;
          homes = ap (λ (hs : List (maybe.Option (Option S))). homes_after hs me.1 r.1) k.homes ∙ r.3.1;
          rule = r.3.2;
        },
        subst (λ (n : ℕ). then n (r.0, carried_after me.1 r.1)) (sym is) r.4,
      )

  pub at_served : (slots id : ℕ) (me : Sat) (f : ℕ → ℕ) (then : ℕ → Sat → Type 0) → Goes id me (λ t n. (t, f n)) (λ t n. then n) → Allows (Keeps op es key) slots id me 1 f then
  at_served slots id me f then goes s k len at fits =
      let r = goes k.turn k.served k.home s.views k.rule at in
      let is : slice_index s.words 1 ≡ k.served = ap (λ ws. slice_index ws 1) k.words in (
        r.0,
        r.1,
        subst (λ (hs : List (maybe.Option (Option S))). Valid hs me.1 r.1) (sym k.homes) r.2,
        record {
          turn = k.turn;
          served = f k.served;
          home = r.3.0;
          words = ap (λ ws. slice_set ws 1 (f (slice_index ws 1))) k.words;
          homes = ap (λ (hs : List (maybe.Option (Option S))). homes_after hs me.1 r.1) k.homes ∙ r.3.1;
          rule = r.3.2;
        },
        subst (λ (n : ℕ). then n (r.0, carried_after me.1 r.1)) (sym is) r.4,
      )

  wins : (id num : ℕ) (v : View) → num ≡ v.number → Sits v → (n : ℕ) (h : maybe.Option (Option S)) (vs : List View) → Rule op es key 0 n h vs → get_elem? vs id ≡ some v
      → (w : View) × (a : Act (Option S)) × Valid (h ∷ []) [] a
      × ((h' : maybe.Option (Option S)) × (homes_after (h ∷ []) [] a ≡ h' ∷ []) × Rule op es key num n h' (set vs id w))
      × Took op es (v, []) (w, carried_after [] a)
  wins id num v is sits n h vs r at =
      let home = r.free refl in
      let f = r.fits id v at in
      let live = f.live sits.live in
      let w : View = holding v r.log in (
        w,
        takes 0 (Some home.0),
        ap some home.1,
        (
          none,
          refl,
          record {
            log = r.log;
            made = r.made;
            count = r.count;
            bounded = r.bounded;
            begins = r.begins;
            free = λ z. absurd (omega (arith, sits.live));
            away = λ _. refl;
            holder = λ _. (id, w, there vs id v w at, refl);
            fits = each_set (λ _ u. FitsView num r.made (op key) r.log base u) vs id w
                (λ j u ne e. let g = r.fits j u e in record { live = g.live; holds = λ q. let p = g.holds q in absurd (omega (arith, p.live, p.is)); kept = g.kept })
                (record { live = λ _. record { base_is = live.base_is; opening_is = live.opening_is; numbered = live.numbered; gives = live.gives; seen = live.seen; mine = live.mine; all_seen = live.all_seen; known = live.known }; holds = λ _. record { live = sits.live; is = sym is; found = refl; kept = sits.alone }; kept = f.kept });
            apart = apart_set vs id v w at (λ m c. c) r.apart;
            unmade = r.unmade;
            whole = whole_set vs id v w r.log at refl (λ e. e) r.whole;
          },
        ),
        record {
          value = home.0;
          carried = refl;
          view = ap (holding v) (sym home.2);
          opening_is = home.3 ∙ sym live.opening_is;
          begins = subst (λ (l : List Entry). BeginsWith l v.seen) (sym home.2) live.seen;
          mine = (λ i. exchanges v.number (live.opening_is i) (home.2 i)) ∙ sym live.mine;
        },
      )

  -- the number read is another's
  others_number : (id : ℕ) (v : View) → Sits v → (t n : ℕ) (h : maybe.Option (Option S)) (vs : List View) → Rule op es key t n h vs → get_elem? vs id ≡ some v → t ≢ 0 → t ≢ v.number
  others_number id v sits t n h vs r at ne same =
      let o = r.holder ne in
      let g = (r.fits o.0 o.1 o.2).holds o.3 in
      let i : o.0 ≡ id = r.apart o.0 id t o.1 v o.2 at (inl (g.live, g.is)) (inl (sits.live, sym same)) in
      let w : v ≡ o.1 = some-injective _ _ (sym at ∙ (ap (get_elem? vs) (sym i) ∙ o.2)) in
      off (sym sits.free ∙ (ap (λ (z : View). z.holds) w ∙ o.3))

  loses : (id : ℕ) (v : View) → Sits v → (t n : ℕ) (h : maybe.Option (Option S)) (vs : List View) → Rule op es key t n h vs → get_elem? vs id ≡ some v → t ≢ 0
      → (w : View) × (a : Act (Option S)) × Valid (h ∷ []) [] a
      × ((h' : maybe.Option (Option S)) × (homes_after (h ∷ []) [] a ≡ h' ∷ []) × Rule op es key t n h' (set vs id w))
      × ◌≡◌ {A = Sat} (w, carried_after [] a) (lost v t, []) × (t ≢ v.number) × (t ≤ 65535)
  loses id v sits t n h vs r at ne =
      let f = r.fits id v at in
      let live = f.live sits.live in
      let w : View = lost v t in (
        w,
        keeps,
        tt,
        (
          h,
          refl,
          record {
            log = r.log;
            made = r.made;
            count = r.count;
            bounded = r.bounded;
            begins = r.begins;
            free = r.free;
            away = r.away;
            holder = λ e. let o = r.holder e in elim (ℕ_discrete o.0 id) [
              | yes i ↦ let was : v ≡ o.1 = some-injective _ _ (sym at ∙ (ap (get_elem? vs) (sym i) ∙ o.2)) in (id, w, there vs id v w at, ap (λ (z : View). z.holds) was ∙ o.3)
              | no i ↦ (o.0, o.1, set_else vs id o.0 w i ∙ o.2, o.3)
            ];
            fits = each_set (λ _ u. FitsView t r.made (op key) r.log base u) vs id w (λ j u _ e. r.fits j u e) (record { live = λ _. record { base_is = live.base_is; opening_is = live.opening_is; numbered = live.numbered; gives = live.gives; seen = live.seen; mine = live.mine; all_seen = live.all_seen; known = live.known }; holds = λ q. off (sym sits.free ∙ q); kept = f.kept });
            apart = apart_set vs id v w at (λ m c. c) r.apart;
            unmade = r.unmade;
            whole = whole_set vs id v w r.log at refl (λ e. e) r.whole;
          },
        ),
        refl,
        others_number id v sits t n h vs r at ne,
        let o = r.holder ne in let g = r.fits o.0 o.1 o.2 in let q = g.holds o.3 in let l = (g.live q.live).numbered in let b = r.bounded in let i = q.is in omega arith,
      )

  pub tries : (slots id num : ℕ) (v : View) → num ≡ v.number → Sits v → Allows (Keeps op es key) slots id (v, []) 0 (λ n. either (eqb n 0) num n) (plays.takes op es (step slots 0 0 num maybe.none) (v, []))
  tries slots id num v is sits = at_turn slots id (v, []) (λ n. either (eqb n 0) num n) (plays.takes op es (step slots 0 0 num maybe.none) (v, [])) goes
    where
      goes : Goes id (v, []) (λ t n. (either (eqb t 0) num t, n)) (λ t n. plays.takes op es (step slots 0 0 num maybe.none) (v, []) t)
      goes t n h vs r at = exchanged t 0 num
          (λ x. (w : View) × (a : Act (Option S)) × Valid (h ∷ []) [] a × ((h' : maybe.Option (Option S)) × (homes_after (h ∷ []) [] a ≡ h' ∷ []) × Rule op es key x n h' (set vs id w)) × plays.takes op es (step slots 0 0 num maybe.none) (v, []) t (w, carried_after [] a))
          (λ e. let x = wins id num v is sits n h vs (subst (λ k. Rule op es key k n h vs) e r) at in (x.0, x.1, x.2, x.3, ((λ _. x.4), (λ ne. absurd (ne e)))))
          (λ ne. let x = loses id v sits t n h vs r at ne in (x.0, x.1, x.2, x.3, ((λ e. absurd (ne e)), (λ _. (x.4, x.5, x.6)))))

  carried_is : (y y' : S) → ◌≡◌ {A = List (ℕ × Option S)} ((0, Some y) ∷ []) ((0, Some y') ∷ []) → y' ≡ y
  carried_is y y' e = let p : ◌≡◌ {A = ℕ × Option S} (0, Some y) (0, Some y') = cc in let q : Some y ≡ Some y' = ap (λ (z : ℕ × Option S). z.1) p in cc

  -- the seat holds, and no other view covers its number
  alone : (id : ℕ) (v : View) (t n : ℕ) (h : maybe.Option (Option S)) (vs : List View) → Rule op es key t n h vs → get_elem? vs id ≡ some v → 0 < v.number
      → (j : ℕ) (u : View) → j ≢ id → get_elem? vs j ≡ some u → (m : ℕ) → Covers u m → m ≢ v.number
  alone id v t n h vs r at live j u ne e m c same = ne (r.apart j id m u v e at c (inl (live, sym same)))

  one_more : (n k : ℕ) → n + 1 ≡ k → k < 18446744073709551616 → k ≡ (n + 1) % 18446744073709551616
  one_more n k e h = omega arith

  adds_goes : (slots id : ℕ) (v : View) (y : S) (e : Entry) → v.holds ≡ true → es y ≡ v.found ++ e ∷ [] → e.seat ≡ v.number → length (es y) < 18446744073709551616
      → Goes id (v, (0, Some y) ∷ []) (λ t n. (t, (n + 1) % 18446744073709551616)) (λ t n. plays.adds op es (step slots 1 1 0 maybe.none) (v, (0, Some y) ∷ []) n)
  adds_goes slots id v y e holds made_of seat short t n h vs r at =
      let f = r.fits id v at in
      let hold = f.holds holds in
      let live = f.live hold.live in
      let w : View = wrote v e in
      let log' : List Entry = r.log ++ e ∷ [] in
      let same : v.found ++ e ∷ [] ≡ log' = ap (λ (l : List Entry). l ++ e ∷ []) hold.found in
      let len : length log' ≡ length r.log + 1 = length-append r.log (e ∷ []) in
      let len' : length (es y) ≡ length log' = ap length made_of ∙ ap length same in
      let others = alone id v t n h vs r at hold.live in
      let more : List Exchange = exchange (run (op key) r.log) e ∷ [] in
      let has : exchanges v.number (op key) log' ≡ v.mine ++ more = exchanges-own v.number (op key) r.log e seat ∙ ap (λ (l : List Exchange). l ++ more) (sym live.mine) in
      let grew : w.mine ≡ exchanges v.number (op key) log' = (λ i. v.mine ++ exchange (run (live.opening_is i) (hold.found i)) e ∷ []) ∙ sym has in (
        w,
        keeps,
        tt,
        (
          h,
          refl,
          record {
            log = log';
            made = r.made;
            bounded = r.bounded;
            count = one_more n (length log') (let c = r.count in omega arith) (let c = r.count in omega arith);
            begins = begins-longer r.log base e r.begins;
            free = λ z. let p = hold.live in let q = hold.is in absurd (omega arith);
            away = r.away;
            holder = λ _. (id, w, there vs id v w at, holds);
            fits = each_set (λ _ u. FitsView t r.made (op key) log' base u) vs id w
                (λ j u ne a. let g = r.fits j u a in record {
                  live = λ l. let k = g.live l in let other = others j u ne a u.number (inl (l, refl)) in record {
                    base_is = k.base_is;
                    opening_is = k.opening_is;
                    numbered = k.numbered;
                    gives = k.gives;
                    seen = begins-longer r.log u.seen e k.seen;
                    mine = k.mine ∙ sym (exchanges-other u.number (op key) r.log e (λ q. other (sym q ∙ seat)));
                    all_seen = k.all_seen ∙ sym (exchanges-other u.number (op key) r.log e (λ q. other (sym q ∙ seat)));
                    known = let d = k.known in omega arith;
                  };
                  holds = λ q. let p = g.holds q in absurd (others j u ne a u.number (inl (p.live, refl)) (p.is ∙ sym hold.is));
                  kept = λ i d b. let k = g.kept i d b in let other = others j u ne a d.number (inr (i, d, b, refl)) in record {
                    numbered = k.numbered;
                    seen = begins-longer r.log d.seen e k.seen;
                    mine = k.mine ∙ sym (exchanges-other d.number (op key) r.log e (λ q. other (sym q ∙ seat)));
                    known = let c = k.known in omega arith;
                  };
                })
                (record {
                  live = λ _. record {
                    base_is = live.base_is;
                    opening_is = live.opening_is;
                    numbered = live.numbered;
                    gives = live.gives;
                    seen = subst (BeginsWith log') (sym same) (begins-itself log');
                    mine = grew;
                    all_seen = ap (exchanges v.number (op key)) same;
                    known = let d = live.known in omega arith;
                  };
                  holds = λ _. record { live = hold.live; is = hold.is; found = same; kept = hold.kept };
                  kept = subst (λ (l : List Done). (k : ℕ) (d : Done) → get_elem? l k ≡ some d → FitsDone r.made (op key) log' d) (sym hold.kept) (λ k d z. absurd (some-ne-none d (sym z)));
                });
            apart = apart_set vs id v w at (λ m c. c) r.apart;
            unmade = λ m z. exchanges-other m (op key) r.log e (λ q. ⊎_elim (λ (o : m ≡ 0). let p = hold.live in absurd (omega arith)) (λ (o : r.made < m). let p = live.numbered in absurd (omega arith)) z) ∙ r.unmade m z;
            whole = (id, w, there vs id v w at, hold.live, same);
          },
        ),
        λ y' e' c m. let is : y' ≡ y = carried_is y y' c in let last : v.found ++ e' ∷ [] ≡ v.found ++ e ∷ [] = sym m ∙ (ap es is ∙ made_of) in
            let tails = append_cancel_left v.found (e' ∷ []) (e ∷ []) last in let is' : e ≡ e' = cc in ap (λ (z : Entry). (wrote v z, (0, Some y) ∷ [])) is',
      )

  pub adds_to : (slots id : ℕ) (me : Sat) (y : S) (e : Entry) → me.0.holds ≡ true → me.1 ≡ (0, Some y) ∷ [] → es y ≡ me.0.found ++ e ∷ [] → e.seat ≡ me.0.number → length (es y) < 18446744073709551616
      → Allows (Keeps op es key) slots id me 1 (λ n. (n + 1) % 18446744073709551616) (plays.adds op es (step slots 1 1 0 maybe.none) me)
  adds_to slots id me y e holds carried made_of seat short = subst
      (λ (c : List (ℕ × Option S)). Allows (Keeps op es key) slots id (me.0, c) 1 (λ n. (n + 1) % 18446744073709551616) (plays.adds op es (step slots 1 1 0 maybe.none) (me.0, c)))
      (sym carried)
      (at_served slots id (me.0, (0, Some y) ∷ []) (λ n. (n + 1) % 18446744073709551616) (plays.adds op es (step slots 1 1 0 maybe.none) (me.0, (0, Some y) ∷ [])) (adds_goes slots id me.0 y e holds made_of seat short))

  frees_goes : (slots id : ℕ) (v : View) (y : S) → v.holds ≡ true → es y ≡ v.found → op y ≡ v.opening
      → Goes id (v, (0, Some y) ∷ []) (λ t n. (0, n)) (λ t n. plays.frees op es (step slots 0 0 0 maybe.none) (v, (0, Some y) ∷ []) t)
  frees_goes slots id v y holds is opening_is t n h vs r at =
      let f = r.fits id v at in
      let hold = f.holds holds in
      let live = f.live hold.live in
      let w : View = freed v in
      let others = alone id v t n h vs r at hold.live in (
        w,
        gives,
        tt,
        (
          some (Some y),
          refl,
          record {
            log = r.log;
            made = r.made;
            count = r.count;
            bounded = r.bounded;
            begins = r.begins;
            free = λ _. (y, refl, is ∙ hold.found, opening_is ∙ live.opening_is);
            away = λ ne. absurd (ne refl);
            holder = λ ne. absurd (ne refl);
            fits = each_set (λ _ u. FitsView 0 r.made (op key) r.log base u) vs id w
                (λ j u ne a. let g = r.fits j u a in record {
                  live = g.live;
                  holds = λ q. let p = g.holds q in absurd (others j u ne a u.number (inl (p.live, refl)) (p.is ∙ sym hold.is));
                  kept = g.kept;
                })
                (record {
                  live = λ _. record {
                    base_is = live.base_is;
                    opening_is = live.opening_is;
                    numbered = live.numbered;
                    gives = live.gives;
                    seen = subst (BeginsWith r.log) (sym hold.found) (begins-itself r.log);
                    mine = live.mine;
                    all_seen = ap (exchanges v.number (op key)) hold.found;
                    known = live.known;
                  };
                  holds = λ q. off q;
                  kept = f.kept;
                });
            apart = apart_set vs id v w at (λ m c. c) r.apart;
            unmade = r.unmade;
            whole = (id, w, there vs id v w at, hold.live, hold.found);
          },
        ),
        refl,
      )

  pub frees_from : (slots id : ℕ) (me : Sat) (y : S) → me.0.holds ≡ true → me.1 ≡ (0, Some y) ∷ [] → es y ≡ me.0.found → op y ≡ me.0.opening
      → Allows (Keeps op es key) slots id me 0 (λ _. 0) (plays.frees op es (step slots 0 0 0 maybe.none) me)
  frees_from slots id me y holds carried is opening_is = subst
      (λ (c : List (ℕ × Option S)). Allows (Keeps op es key) slots id (me.0, c) 0 (λ _. 0) (plays.frees op es (step slots 0 0 0 maybe.none) (me.0, c)))
      (sym carried)
      (at_turn slots id (me.0, (0, Some y) ∷ []) (λ _. 0) (plays.frees op es (step slots 0 0 0 maybe.none) (me.0, (0, Some y) ∷ [])) (frees_goes slots id me.0 y holds is opening_is))

  looks_goes : (slots id : ℕ) (v : View) → Sits v → Goes id (v, []) (λ t n. (t, n)) (λ t n. plays.loads op es (step slots 1 0 0 maybe.none) (v, []) n)
  looks_goes slots id v sits t n h vs r at =
      let f = r.fits id v at in
      let live = f.live sits.live in
      let w : View = looked v n in (
        w,
        keeps,
        tt,
        (
          h,
          refl,
          record {
            log = r.log;
            made = r.made;
            count = r.count;
            bounded = r.bounded;
            begins = r.begins;
            free = r.free;
            away = r.away;
            holder = λ e. let o = r.holder e in elim (ℕ_discrete o.0 id) [
              | yes i ↦ let was : v ≡ o.1 = some-injective _ _ (sym at ∙ (ap (get_elem? vs) (sym i) ∙ o.2)) in (id, w, there vs id v w at, ap (λ (z : View). z.holds) was ∙ o.3)
              | no i ↦ (o.0, o.1, set_else vs id o.0 w i ∙ o.2, o.3)
            ];
            fits = each_set (λ _ u. FitsView t r.made (op key) r.log base u) vs id w (λ j u _ e. r.fits j u e) (record {
              live = λ _. record { base_is = live.base_is; opening_is = live.opening_is; numbered = live.numbered; gives = live.gives; seen = live.seen; mine = live.mine; all_seen = live.all_seen; known = let c = r.count in omega arith };
              holds = λ q. off (sym sits.free ∙ q);
              kept = f.kept;
            });
            apart = apart_set vs id v w at (λ m c. c) r.apart;
            unmade = r.unmade;
            whole = whole_set vs id v w r.log at refl (λ e. e) r.whole;
          },
        ),
        (refl, (let c = r.count in let k = begins-lengths r.log v.seen live.seen in omega arith), (let c = r.count in let k = live.known in omega arith)),
      )

  pub looks_at : (slots id : ℕ) (v : View) → Sits v → Allows (Keeps op es key) slots id (v, []) 1 (λ n. n) (plays.loads op es (step slots 1 0 0 maybe.none) (v, []))
  looks_at slots id v sits = at_served slots id (v, []) (λ n. n) (plays.loads op es (step slots 1 0 0 maybe.none) (v, [])) (looks_goes slots id v sits)

  -- the table at the start
  pub starts : (n : ℕ) → length (es key) ≡ n → Keeps op es key (opening (0 ∷ n ∷ []) (Some key ∷ []) (fresh 1 (op key) (es key) 1))
  starts n len =
      let first : View = fresh 1 (op key) (es key) 1 in
      record {
        turn = 0;
        served = n;
        home = some (Some key);
        words = refl;
        homes = refl;
        rule = record {
          log = es key;
          made = 1;
          count = len;
          bounded = omega arith;
          begins = begins-itself (es key);
          free = λ _. (key, refl, refl, refl);
          away = λ ne. absurd (ne refl);
          holder = λ ne. absurd (ne refl);
          fits = alone_fits;
          apart = alone_apart;
          unmade = λ _ _. refl;
          whole = (0, first, refl, omega arith, refl);
        };
      }
    where
      alone_fits : (id : ℕ) (v : View) → get_elem? (fresh 1 (op key) (es key) 1 ∷ []) id ≡ some v → FitsView 0 1 (op key) (es key) (es key) v
      alone_fits zero v e = subst (FitsView 0 1 (op key) (es key) (es key)) (some-injective _ _ e) (record {
        live = λ _. record { base_is = refl; opening_is = refl; numbered = omega arith; gives = λ _. refl; seen = begins-itself (es key); mine = refl; all_seen = refl; known = omega arith };
        holds = λ q. off q;
        kept = λ k d z. absurd (some-ne-none d (sym z));
      })
      alone_fits (suc id) v e = absurd (some-ne-none v (sym e))

      alone_apart : (i j m : ℕ) (v w : View) → get_elem? (fresh 1 (op key) (es key) 1 ∷ []) i ≡ some v → get_elem? (fresh 1 (op key) (es key) 1 ∷ []) j ≡ some w → Covers v m → Covers w m → i ≡ j
      alone_apart zero zero m v w a b c d = refl
      alone_apart zero (suc j) m v w a b c d = absurd (some-ne-none w (sym b))
      alone_apart (suc i) j m v w a b c d = absurd (some-ne-none v (sym a))

  -- the first seat gives a number to a new one
  pub splits : (id : ℕ) (v : View) → v.number ≡ 1 → v.holds ≡ false → v.kept ≡ [] → v.made < 65535 → Splits (Keeps op es key) id v (gave v) (given v)
  splits id v one free none_kept fewer s k at =
      let r = k.rule in
      let f = r.fits id v at in
      let pos : 0 < v.number = omega arith in
      let live = f.live pos in
      let made : v.made ≡ r.made = live.gives one in
      let w : View = gave v in
      let u : View = given v in
      let vs : List View = set s.views id w in
      let at' : get_elem? vs id ≡ some w = there s.views id v w at in
      let unmade_here : exchanges (v.made + 1) (op key) r.log ≡ exchanges (v.made + 1) (op key) base = r.unmade (v.made + 1) (inr (omega arith)) in
      record {
        turn = k.turn;
        served = k.served;
        home = k.home;
        words = k.words;
        homes = k.homes;
        rule = record {
          log = r.log;
          made = r.made + 1;
          count = r.count;
          bounded = omega arith;
          begins = r.begins;
          free = r.free;
          away = r.away;
          holder = λ e. let o = r.holder e in elim (ℕ_discrete o.0 id) [
            | yes i ↦ let was : v ≡ o.1 = some-injective _ _ (sym at ∙ (ap (get_elem? s.views) (sym i) ∙ o.2)) in off (sym free ∙ (ap (λ (z : View). z.holds) was ∙ o.3))
            | no i ↦ (o.0, o.1, at_longer vs (u ∷ []) o.0 o.1 (set_else s.views id o.0 w i ∙ o.2), o.3)
          ];
          fits = λ j x e. ⊎_elim
              (λ was. each_set (λ _ z. FitsView k.turn (r.made + 1) (op key) r.log base z) s.views id w
              (λ i z ne a. let g = r.fits i z a in record {
                live = λ l. let q = g.live l in record {
                  base_is = q.base_is;
                  opening_is = q.opening_is;
                  numbered = let d = q.numbered in omega arith;
                  gives = λ o. absurd (ne (r.apart i id 1 z v a at (inl (l, o)) (inl (pos, one))));
                  seen = q.seen;
                  mine = q.mine;
                  all_seen = q.all_seen;
                  known = q.known;
                };
                holds = g.holds;
                kept = λ m d b. let q = g.kept m d b in record { numbered = let c = q.numbered in (c.0, omega arith); seen = q.seen; mine = q.mine; known = q.known };
              })
              (record {
                live = λ l. record {
                  base_is = live.base_is;
                  opening_is = live.opening_is;
                  numbered = let d = live.numbered in omega arith;
                  gives = λ _. ap (λ (z : ℕ). z + 1) made;
                  seen = live.seen;
                  mine = live.mine;
                  all_seen = live.all_seen;
                  known = live.known;
                };
                holds = λ q. off (sym free ∙ q);
                kept = subst (λ (l : List Done). (m : ℕ) (d : Done) → get_elem? l m ≡ some d → FitsDone (r.made + 1) (op key) r.log d) (sym none_kept) (λ m d z. absurd (some-ne-none d (sym z)));
              }) j x was)
              (λ (same : u ≡ x). subst (FitsView k.turn (r.made + 1) (op key) r.log base) same (record {
                live = λ _. record {
                  base_is = live.base_is;
                  opening_is = live.opening_is;
                  numbered = omega arith;
                  gives = λ o. absurd (let d = live.numbered in omega arith);
                  seen = subst (BeginsWith r.log) (sym live.base_is) r.begins;
                  mine = (λ i. exchanges (v.made + 1) (live.opening_is i) (live.base_is i)) ∙ sym unmade_here;
                  all_seen = ap (exchanges (v.made + 1) (op key)) live.base_is ∙ sym unmade_here;
                  known = omega arith;
                };
                holds = λ q. off q;
                kept = λ m d z. absurd (some-ne-none d (sym z));
              }))
              (at_snoc vs u x j e);
          apart = apart_new s.views id v at r.made made r.apart (λ j x e m c. covered k.turn r.made (op key) r.log base x (r.fits j x e) m c);
          unmade = λ m z. r.unmade m (⊎_elim (λ (o : m ≡ 0). inl o) (λ (o : r.made + 1 < m). inr (omega arith)) z);
          whole = let o = whole_set s.views id v w r.log at refl (λ e. e) r.whole in (o.0, o.1, at_longer vs (u ∷ []) o.0 o.1 o.2, o.3, o.4);
        };
      }

  -- where the number that a view covers after a join was covered before
  Origin : List View → ℕ → ℕ → ℕ → ℕ → Type 0
  Origin vs id other i m = (i0 : ℕ) × (x0 : View) × (get_elem? vs i0 ≡ some x0) × Covers x0 m × (i ≡ redirect other id i0)

  covers_joined : (v w : View) (m : ℕ) → 0 < v.number → 0 < w.number → Covers (joined v w) m → Covers v m ⊎ Covers w m
  covers_joined v w m pos live c = ⊎_elim
      (λ (x : (0 < v.number) × (v.number ≡ m)). inl (inl x))
      (λ (x : (k : ℕ) × (d : Done) × (get_elem? ((v.kept ++ done v ∷ []) ++ done w ∷ []) k ≡ some d) × (d.number ≡ m)). ⊎_elim
      (λ q. ⊎_elim (λ o. inl (inr (x.0, x.1, o, x.3))) (λ (o : (x.0 ≡ length v.kept) × (done v ≡ x.1)). inl (inl (pos, ap (λ (d : Done). d.number) o.1 ∙ x.3))) (done_at v.kept (done v) x.1 x.0 q))
      (λ (o : (x.0 ≡ length (v.kept ++ done v ∷ [])) × (done w ≡ x.1)). inr (inl (live, ap (λ (d : Done). d.number) o.1 ∙ x.3)))
      (done_at (v.kept ++ done v ∷ []) (done w) x.1 x.0 x.2))
      c

  comes_from : (vs : List View) (id other : ℕ) (v w : View) → get_elem? vs id ≡ some v → get_elem? vs other ≡ some w → other ≢ id → 0 < v.number → 0 < w.number
      → (i : ℕ) (x : View) → get_elem? (set (set vs id (joined v w)) other spent) i ≡ some x → (m : ℕ) → Covers x m → Origin vs id other i m
  unfolding Origin
  comes_from vs id other v w at at' ne pos live i x e m c = ⊎_elim
      (λ (t : (i ≡ other) × (spent ≡ x)). covers_spent m (subst (λ (z : View). Covers z m) (sym t.1) c))
      (λ (t : (i ≢ other) × (get_elem? (set vs id (joined v w)) i ≡ some x)). ⊎_elim
      (λ (q : (i ≡ id) × (joined v w ≡ x)). ⊎_elim
      (λ cv. (id, v, at, cv, q.0 ∙ sym (to_self other id id (λ z. ne (sym z)))))
      (λ cw. (other, w, at', cw, q.0 ∙ sym (to_id other id other refl)))
      (covers_joined v w m pos live (subst (λ (z : View). Covers z m) (sym q.1) c)))
      (λ (q : (i ≢ id) × (get_elem? vs i ≡ some x)). (i, x, q.1, c, sym (to_self other id i t.0)))
      (at_set vs id i (joined v w) x t.1))
      (at_set (set vs id (joined v w)) other i spent x e)

  apart_joined : (vs : List View) (id other : ℕ) (v w : View) → get_elem? vs id ≡ some v → get_elem? vs other ≡ some w → other ≢ id → 0 < v.number → 0 < w.number → Apart vs → Apart (set (set vs id (joined v w)) other spent)
  unfolding Origin
  apart_joined vs id other v w at at' ne pos live apart i j m x y ex ey cx cy =
      let a = comes_from vs id other v w at at' ne pos live i x ex m cx in
      let b = comes_from vs id other v w at at' ne pos live j y ey m cy in
      a.4 ∙ (ap (redirect other id) (apart a.0 b.0 m a.1 b.1 a.2 b.2 a.3 b.3) ∙ sym b.4)

  -- one seat takes another's view in
  pub joins : (id other : ℕ) (v w : View) → 0 < v.number → v.holds ≡ false → 0 < w.number → w.holds ≡ false → Joins (Keeps op es key) id v other w (joined v w) spent
  joins id other v w vlive vfree wlive wfree s k at ne after =
      let r = k.rule in
      let both : View = joined v w in
      let at' : get_elem? s.views other ≡ some w = sym (set_else s.views id other both ne) ∙ after in
      let f = r.fits id v at in
      let g = r.fits other w at' in
      let fv = f.live vlive in
      let gw = g.live wlive in
      let l = is_longer r.log v.seen w.seen fv.seen gw.seen in
      let vs : List View = set s.views id both in
      let here : get_elem? (set vs other spent) id ≡ some both = set_else vs other id spent (λ e. ne (sym e)) ∙ there s.views id v both at in
      record {
        turn = k.turn;
        served = k.served;
        home = k.home;
        words = k.words;
        homes = k.homes;
        rule = record {
          log = r.log;
          made = r.made;
          count = r.count;
          bounded = r.bounded;
          begins = r.begins;
          free = r.free;
          away = r.away;
          holder = λ e. let o = r.holder e in elim (ℕ_discrete o.0 id) [
            | yes i ↦ let was : v ≡ o.1 = some-injective _ _ (sym at ∙ (ap (get_elem? s.views) (sym i) ∙ o.2)) in off (sym vfree ∙ (ap (λ (z : View). z.holds) was ∙ o.3))
            | no i ↦ elim (ℕ_discrete o.0 other) [
              | yes q ↦ let was : w ≡ o.1 = some-injective _ _ (sym at' ∙ (ap (get_elem? s.views) (sym q) ∙ o.2)) in off (sym wfree ∙ (ap (λ (z : View). z.holds) was ∙ o.3))
              | no q ↦ (o.0, o.1, set_else vs other o.0 spent q ∙ (set_else s.views id o.0 both i ∙ o.2), o.3)
            ]
          ];
          fits = each_set (λ _ u. FitsView k.turn r.made (op key) r.log base u) vs other spent
              (λ j u _ e. each_set (λ _ u. FitsView k.turn r.made (op key) r.log base u) s.views id both (λ j u _ e. r.fits j u e)
              (record {
                live = λ _. record {
                  base_is = fv.base_is;
                  opening_is = fv.opening_is;
                  numbered = fv.numbered;
                  gives = fv.gives;
                  seen = l.whole;
                  mine = fv.mine;
                  all_seen = exchanges-between v.number (op key) r.log both.seen v.seen l.whole l.first fv.all_seen;
                  known = fv.known;
                };
                holds = λ q. off (sym vfree ∙ q);
                kept = λ m d z. ⊎_elim
                    (λ q. ⊎_elim (λ o. f.kept m d o) (λ (o : (m ≡ length v.kept) × (done v ≡ d)). subst (FitsDone r.made (op key) r.log) o.1 (record { numbered = (vlive, fv.numbered); seen = fv.seen; mine = fv.mine; known = fv.known })) (done_at v.kept (done v) d m q))
                    (λ (o : (m ≡ length (v.kept ++ done v ∷ [])) × (done w ≡ d)). subst (FitsDone r.made (op key) r.log) o.1 (record { numbered = (wlive, gw.numbered); seen = gw.seen; mine = gw.mine; known = gw.known }))
                    (done_at (v.kept ++ done v ∷ []) (done w) d m z);
              }) j u e)
              (record { live = λ z. absurd (omega arith); holds = λ q. off q; kept = λ m d z. absurd (some-ne-none d (sym z)) });
          apart = apart_joined s.views id other v w at at' ne vlive wlive r.apart;
          unmade = r.unmade;
          whole = let o = r.whole in elim (ℕ_discrete o.0 id) [
            | yes i ↦ let was : v ≡ o.1 = some-injective _ _ (sym at ∙ (ap (get_elem? s.views) (sym i) ∙ o.2)) in
                (id, both, here, vlive, begins-both r.log both.seen l.whole (subst (BeginsWith both.seen) (ap (λ (z : View). z.seen) was ∙ o.4) l.first))
            | no i ↦ elim (ℕ_discrete o.0 other) [
              | yes q ↦ let was : w ≡ o.1 = some-injective _ _ (sym at' ∙ (ap (get_elem? s.views) (sym q) ∙ o.2)) in
                  (id, both, here, vlive, begins-both r.log both.seen l.whole (subst (BeginsWith both.seen) (ap (λ (z : View). z.seen) was ∙ o.4) l.second))
              | no q ↦ (o.0, o.1, set_else vs other o.0 spent q ∙ (set_else s.views id o.0 both i ∙ o.2), o.3, o.4)
            ]
          ];
        };
      }

  pub tries_as : (slots id num : ℕ) (me : Sat) → me.1 ≡ [] → num ≡ me.0.number → Sits me.0 → Allows (Keeps op es key) slots id me 0 (λ n. either (eqb n 0) num n) (plays.takes op es (step slots 0 0 num maybe.none) me)
  tries_as slots id num me empty is sits = subst
      (λ (c : List (ℕ × Option S)). Allows (Keeps op es key) slots id (me.0, c) 0 (λ n. either (eqb n 0) num n) (plays.takes op es (step slots 0 0 num maybe.none) (me.0, c)))
      (sym empty)
      (tries slots id num me.0 is sits)

  pub looks_as : (slots id : ℕ) (me : Sat) → me.1 ≡ [] → Sits me.0 → Allows (Keeps op es key) slots id me 1 (λ n. n) (plays.loads op es (step slots 1 0 0 maybe.none) me)
  looks_as slots id me empty sits = subst
      (λ (c : List (ℕ × Option S)). Allows (Keeps op es key) slots id (me.0, c) 1 (λ n. n) (plays.loads op es (step slots 1 0 0 maybe.none) (me.0, c)))
      (sym empty)
      (looks_at slots id me.0 sits)

  pub ends : (s : TableState (Option S) View) (id : ℕ) (v : View) → Keeps op es key s → get_elem? s.views id ≡ some v → v.number ≡ 1 → v.holds ≡ false → ((m : ℕ) → 0 < m → m ≤ v.made → Covers v m)
      → (x : S) × (get_elem? s.homes 0 ≡ some (some (Some x))) × Ends op es key x v.made v
  ends s id v k at one free all =
      let r = k.rule in
      let f = r.fits id v at in
      let pos : 0 < v.number = omega arith in
      let live = f.live pos in
      let made : v.made ≡ r.made = live.gives one in
      let turn_is : k.turn ≡ 0 = elim (ℕ_discrete k.turn 0) [
        | yes e ↦ e
        | no ne ↦
            let o = r.holder ne in
            let g = r.fits o.0 o.1 o.2 in
            let h = g.holds o.3 in
            let n = (g.live h.live).numbered in
            let p = h.live in
            let i : o.0 ≡ id = r.apart o.0 id o.1.number o.1 v o.2 at (inl (p, refl)) (all o.1.number p (omega arith)) in
            let w : v ≡ o.1 = some-injective _ _ (sym at ∙ (ap (get_elem? s.views) (sym i) ∙ o.2)) in
            off (sym free ∙ (ap (λ (z : View). z.holds) w ∙ o.3))
      ] in
      let home = r.free turn_is in
      let log : List Entry = r.log in (
        home.0,
        ap (λ (hs : List (maybe.Option (Option S))). get_elem? hs 0) k.homes ∙ ap some home.1,
        subst (λ (m : ℕ). Ends op es key home.0 m v) (sym made) (ends_of home.0 r.made v log home.2 home.3 r.begins live f.kept r.unmade),
      )
    where
      ends_of : (x : S) (made : ℕ) (v : View) (log : List Entry) → es x ≡ log → op x ≡ op key → BeginsWith log (es key) → FitsLive made (op key) log (es key) v
          → ((k : ℕ) (d : Done) → get_elem? v.kept k ≡ some d → FitsDone made (op key) log d) → ((n : ℕ) → (n ≡ 0) ⊎ (made < n) → exchanges n (op key) log ≡ exchanges n (op key) (es key)) → Ends op es key x made v
      ends_of x made v log is opening_is begins live kept unmade =
          record { opening_is = opening_is; begins = subst (λ (l : List Entry). BeginsWith l (es key)) (sym is) begins; seen = subst (λ (l : List Entry). BeginsWith l v.seen) (sym is) live.seen; mine = live.mine ∙ ap (exchanges v.number (op key)) (sym is); known = subst (λ (l : List Entry). v.known ≤ length l) (sym is) live.known; kept = subst (λ (l : List Entry). (k : ℕ) (d : Done) → get_elem? v.kept k ≡ some d → FitsDone made (op key) l d) (sym is) kept; unmade = λ n z. ap (exchanges n (op key)) is ∙ unmade n z }

  pub starts_from : (n : ℕ) (xs : List (Option S)) → length (es key) ≡ n → xs ≡ Some key ∷ [] → Keeps op es key (opening (0 ∷ n ∷ []) xs (fresh 1 (op key) (es key) 1))
  starts_from n xs len is = subst (λ (ys : List (Option S)). Keeps op es key (opening (0 ∷ n ∷ []) ys (fresh 1 (op key) (es key) 1))) (sym is) (starts n len)
