-- The table of open handles goes with the state, as a request changes the handles of a seat.
use Rattle.std.proofs.Common.{◌≡◌, ℕ, ◌+◌, ◌==◌, ◌&&◌, nat_eq, List, [], ◌∷◌, ◌++◌, map, Bool, true, false, not, cond, Option, Some, None, refl, sym, ap, subst, ◌∙◌, arith}
use Rattle.std.specs.List.{AllByRecursion, IsDistinct, filter}
use Rattle.std.specs.Map.{remove_entry}
use Rattle.std.proofs.lemmas.Bool.Decides.{nat_tests}
use Rattle.portal_model.specs.declared.handle.Handle.{Handle}
use Rattle.portal_model.specs.declared.handle.OpenHandle.{OpenHandle}
use Rattle.portal_model.specs.declared.state.Connection.{Connection}
use Rattle.portal_model.specs.Node.{connections_after, counted, handles_after, new_handle}
use Rattle.portal_model.specs.NodeVerdict.{HandleChange, HandlesStay, Opens, Closes}
use Rattle.portal_model.specs.State.{State, connection_of, handles_of, is_handle}
use Rattle.portal_model.specs.Valid.{same_handle}
use Rattle.open_handles.specs.Opened.{Both, HandleTable, Keeps, Opened, opened_on}
use Rattle.node_looks.specs.OpenHandles.{AreOpen, AreOpened, Handled, SeatHandled, numbered, open_on}

-- ---- numbers

is-number : (a b : ℕ) → (a == b) ≡ true → a ≡ b
is-number a b e = grind (arith, nat_tests)

turned : (a b : ℕ) (t : Bool) → (a == b) ≡ t → (b == a) ≡ t
turned a b t e = grind (arith, nat_tests)

-- ---- connections

pub seat-of : (cs : List Connection) (seat : ℕ) (c : Connection) → connection_of cs seat ≡ Some c → c.seat ≡ seat
seat-of [] seat c e = cc
seat-of (d ∷ ds) seat c e = by (d.seat == seat) refl (seat-of ds seat c) e
  where
    by : (b : Bool) → (d.seat == seat) ≡ b → (connection_of ds seat ≡ Some c → c.seat ≡ seat) → cond b (Some d) (connection_of ds seat) ≡ Some c → c.seat ≡ seat
    by true t more f = let same : d ≡ c = cc in ap (λ (x : Connection). x.seat) (sym same) ∙ is-number d.seat seat t
    by false t more f = more f

counted_seat : (k : ℕ) (c : Connection) → (counted k c).seat ≡ c.seat
counted_seat k c = elim (c.seat == k) as (λ b. (cond b (record c { opens = c.opens + 1 }) c).seat ≡ c.seat) [ true ↦ refl | false ↦ refl ]

-- a connection of another seat isn't counted
counted-elsewhere : (k q : ℕ) (cs : List Connection) → (k == q) ≡ false → connection_of (map (counted k) cs) q ≡ connection_of cs q
counted-elsewhere k q [] e = refl
counted-elsewhere k q (d ∷ ds) e =
    ap (λ (n : ℕ). cond (n == q) (Some (counted k d)) (connection_of (map (counted k) ds) q)) (counted_seat k d)
    ∙ by (d.seat == q) refl (counted-elsewhere k q ds e)
  where
    by : (b : Bool) → (d.seat == q) ≡ b → connection_of (map (counted k) ds) q ≡ connection_of ds q →
        cond b (Some (counted k d)) (connection_of (map (counted k) ds) q) ≡ cond b (Some d) (connection_of ds q)
    by true t h =
        let apart : (d.seat == k) ≡ false = turned k d.seat false (ap (λ (n : ℕ). k == n) (is-number d.seat q t) ∙ e) in
        ap (λ (b : Bool). Some (cond b (record d { opens = d.opens + 1 }) d)) apart
    by false t h = h

counted-here : (k : ℕ) (cs : List Connection) (c : Connection) → connection_of cs k ≡ Some c → connection_of (map (counted k) cs) k ≡ Some (record c { opens = c.opens + 1 })
counted-here k [] c e = cc
counted-here k (d ∷ ds) c e =
    ap (λ (n : ℕ). cond (n == k) (Some (counted k d)) (connection_of (map (counted k) ds) k)) (counted_seat k d)
    ∙ by (d.seat == k) refl (counted-here k ds c) e
  where
    by : (b : Bool) → (d.seat == k) ≡ b → (connection_of ds k ≡ Some c → connection_of (map (counted k) ds) k ≡ Some (record c { opens = c.opens + 1 })) → cond b (Some d) (connection_of ds k) ≡ Some c →
        cond b (Some (counted k d)) (connection_of (map (counted k) ds) k) ≡ Some (record c { opens = c.opens + 1 })
    by true t more f =
        let same : d ≡ c = cc in
        ap (λ (b : Bool). Some (cond b (record d { opens = d.opens + 1 }) d)) t
        ∙ ap (λ (x : Connection). Some (record x { opens = x.opens + 1 })) same
    by false t more f = more f

-- ---- what a seat has open, where one more is

added-elsewhere : (hs : List OpenHandle) (h : OpenHandle) (q : ℕ) → (h.seat == q) ≡ false → open_on (hs ++ h ∷ []) q ≡ open_on hs q
added-elsewhere [] h q e = ap (λ (b : Bool). map numbered (cond b (h ∷ []) [])) e
added-elsewhere (x ∷ xs) h q e = elim (x.seat == q) as (λ b. map numbered (cond b (x ∷ handles_of (xs ++ h ∷ []) q) (handles_of (xs ++ h ∷ []) q)) ≡ map numbered (cond b (x ∷ handles_of xs q) (handles_of xs q))) [
  | true ↦ ap (λ (ys : List (ℕ × Handle)). numbered x ∷ ys) (added-elsewhere xs h q e)
  | false ↦ added-elsewhere xs h q e
]

added-here : (hs : List OpenHandle) (h : OpenHandle) (q : ℕ) → (h.seat == q) ≡ true → open_on (hs ++ h ∷ []) q ≡ open_on hs q ++ numbered h ∷ []
added-here [] h q e = ap (λ (b : Bool). map numbered (cond b (h ∷ []) [])) e
added-here (x ∷ xs) h q e = elim (x.seat == q) as (λ b. map numbered (cond b (x ∷ handles_of (xs ++ h ∷ []) q) (handles_of (xs ++ h ∷ []) q)) ≡ map numbered (cond b (x ∷ handles_of xs q) (handles_of xs q)) ++ numbered h ∷ []) [
  | true ↦ ap (λ (ys : List (ℕ × Handle)). numbered x ∷ ys) (added-here xs h q e)
  | false ↦ added-here xs h q e
]

-- ---- where one is gone

abbrev closed : ℕ → ℕ → List OpenHandle → List OpenHandle
closed k fh hs = filter (λ h. not (is_handle k fh h)) hs

closed-elsewhere : (k fh q : ℕ) (hs : List OpenHandle) → (k == q) ≡ false → open_on (closed k fh hs) q ≡ open_on hs q
closed-elsewhere k fh q [] e = refl
closed-elsewhere k fh q (h ∷ hs) e = by (h.seat == k) (h.fh == fh) refl (closed-elsewhere k fh q hs e)
  where
    by : (b f : Bool) → (h.seat == k) ≡ b → open_on (closed k fh hs) q ≡ open_on hs q → open_on (cond (not (b && f)) (h ∷ closed k fh hs) (closed k fh hs)) q ≡ open_on (h ∷ hs) q
    by true true t more =
        let apart : (h.seat == q) ≡ false = ap (λ (n : ℕ). n == q) (is-number h.seat k t) ∙ e in
        more ∙ sym (ap (λ (b : Bool). map numbered (cond b (h ∷ handles_of hs q) (handles_of hs q))) apart)
    by true false t more = kept (h.seat == q) more
      where
        kept : (b : Bool) → open_on (closed k fh hs) q ≡ open_on hs q → map numbered (cond b (h ∷ handles_of (closed k fh hs) q) (handles_of (closed k fh hs) q)) ≡ map numbered (cond b (h ∷ handles_of hs q) (handles_of hs q))
        kept true m = ap (λ (ys : List (ℕ × Handle)). numbered h ∷ ys) m
        kept false m = m
    by false f t more = kept (h.seat == q) more
      where
        kept : (b : Bool) → open_on (closed k fh hs) q ≡ open_on hs q → map numbered (cond b (h ∷ handles_of (closed k fh hs) q) (handles_of (closed k fh hs) q)) ≡ map numbered (cond b (h ∷ handles_of hs q) (handles_of hs q))
        kept true m = ap (λ (ys : List (ℕ × Handle)). numbered h ∷ ys) m
        kept false m = m

-- where none is the same as this one, none is left out
none-closed : (k fh : ℕ) (h : OpenHandle) (hs : List OpenHandle) → (h.seat == k) ≡ true → (h.fh == fh) ≡ true → AllByRecursion (λ x. same_handle h x ≡ false) hs → closed k fh hs ≡ hs
none-closed k fh h [] s f a = refl
none-closed k fh h (x ∷ xs) s f a =
    let other : is_handle k fh x ≡ false = apart (is-number h.seat k s) (is-number h.fh fh f) a.0 in
    ap (λ (b : Bool). cond (not b) (x ∷ closed k fh xs) (closed k fh xs)) other ∙ ap (λ (ys : List OpenHandle). x ∷ ys) (none-closed k fh h xs s f a.1)
  where
    apart : h.seat ≡ k → h.fh ≡ fh → same_handle h x ≡ false → is_handle k fh x ≡ false
    apart p q e = grind (arith, nat_tests)

closed-here : (k fh : ℕ) (hs : List OpenHandle) → IsDistinct same_handle hs → remove_entry (nat_eq fh) (open_on hs k) ≡ open_on (closed k fh hs) k
unfolding IsDistinct
closed-here k fh [] d = refl
closed-here k fh (h ∷ hs) d = by (h.seat == k) (h.fh == fh) refl refl (closed-here k fh hs d.1)
  where
    by : (b f : Bool) → (h.seat == k) ≡ b → (h.fh == fh) ≡ f → remove_entry (nat_eq fh) (open_on hs k) ≡ open_on (closed k fh hs) k →
        remove_entry (nat_eq fh) (map numbered (cond b (h ∷ handles_of hs k) (handles_of hs k))) ≡ open_on (cond (not (b && f)) (h ∷ closed k fh hs) (closed k fh hs)) k
    by true true s t more =
        ap (λ (b : Bool). cond b (open_on hs k) (numbered h ∷ remove_entry (nat_eq fh) (open_on hs k))) (turned h.fh fh true t)
        ∙ ap (λ (ys : List OpenHandle). open_on ys k) (sym (none-closed k fh h hs s t d.0))
    by true false s t more =
        ap (λ (b : Bool). cond b (open_on hs k) (numbered h ∷ remove_entry (nat_eq fh) (open_on hs k))) (turned h.fh fh false t)
        ∙ (ap (λ (ys : List (ℕ × Handle)). numbered h ∷ ys) more
        ∙ sym (ap (λ (b : Bool). map numbered (cond b (h ∷ handles_of (closed k fh hs) k) (handles_of (closed k fh hs) k))) s))
    by false f s t more = more ∙ sym (ap (λ (b : Bool). map numbered (cond b (h ∷ handles_of (closed k fh hs) k) (handles_of (closed k fh hs) k))) s)

-- ---- one seat

still-opened : (ys : List (ℕ × Handle)) (c : Option Connection) (o n : Option Opened) → AreOpened ys c o → Both Keeps o n → AreOpened ys c n
still-opened ys None None None a b = tt
still-opened ys None None (Some n) a b = b
still-opened ys None (Some o) n a b = absurd a
still-opened ys (Some c) None n a b = absurd a
still-opened ys (Some c) (Some o) None a b = b
still-opened ys (Some c) (Some o) (Some n) a b = record { last = b.last ∙ a.last; handles = b.handles ∙ a.handles }

-- the seat of this connection, in a table that has its open handles
module _ (c : Connection) (hs : List OpenHandle) (most : ℕ) where
  opened-one : (handle : Handle) (o n : Option Opened) → AreOpened (open_on hs c.seat) (Some c) o → Both (SeatHandled most (Opens handle)) o n →
      AreOpened (open_on (hs ++ new_handle c handle ∷ []) c.seat) (Some (record c { opens = c.opens + 1 })) n
  opened-one handle None n a b = absurd a
  opened-one handle (Some o) None a b = absurd b
  opened-one handle (Some o) (Some n) a b =
      let number : b.0 ≡ c.opens + 1 = b.1.number ∙ ap (λ (m : ℕ). m + 1) a.last in
      record {
        last = b.1.last ∙ number;
        handles = b.1.handles ∙ (ap (λ (ys : List (ℕ × Handle)). ys ++ (b.0, handle) ∷ []) a.handles
            ∙ (ap (λ (m : ℕ). open_on hs c.seat ++ (m, handle) ∷ []) number
            ∙ sym (added-here hs (new_handle c handle) c.seat (same c.seat))));
      }
    where
      same : (m : ℕ) → (m == m) ≡ true
      same m = grind (arith, nat_tests)

  closed-one : (fh : ℕ) (o n : Option Opened) → IsDistinct same_handle hs → AreOpened (open_on hs c.seat) (Some c) o → Both (SeatHandled most (Closes fh)) o n →
      AreOpened (open_on (closed c.seat fh hs) c.seat) (Some c) n
  closed-one fh None n d a b = absurd a
  closed-one fh (Some o) None d a b = absurd b
  closed-one fh (Some o) (Some n) d a b = record {
    last = b.last ∙ a.last;
    handles = b.handles ∙ (ap (remove_entry (nat_eq fh)) a.handles ∙ closed-here c.seat fh hs d);
  }

-- ---- all seats

-- where nothing is opened or closed, the table stays one of the state
pub stay-open : (s : State) (seat : ℕ) (old new : HandleTable) → AreOpen s old → Handled seat HandlesStay old new → AreOpen s new
stay-open s seat old new a h = record { limit = h.limit ∙ a.limit; each = λ q. by q (seat == q) refl }
  where
    by : (q : ℕ) (b : Bool) → (seat == q) ≡ b → AreOpened (open_on s.handles q) (connection_of s.connections q) (opened_on new.seats q)
    by q true e = subst (λ (n : ℕ). AreOpened (open_on s.handles n) (connection_of s.connections n) (opened_on new.seats n)) (is-number seat q e)
        (still-opened _ _ (opened_on old.seats seat) _ (a.each seat) h.seats.there)
    by q false e = subst (AreOpened (open_on s.handles q) (connection_of s.connections q)) (sym (h.seats.elsewhere q e)) (a.each q)

module _ (s : State) (c : Connection) (here : connection_of s.connections c.seat ≡ Some c) (differ : IsDistinct same_handle s.handles) (old : HandleTable) (a : AreOpen s old) where
  abbrev AreHere : HandleChange → ℕ → Option Opened → Type 0
  AreHere change q o = AreOpened (open_on (handles_after c change s.handles) q) (connection_of (connections_after c change s.connections) q) o

  known : AreOpened (open_on s.handles c.seat) (Some c) (opened_on old.seats c.seat)
  known = subst (λ (x : Option Connection). AreOpened (open_on s.handles c.seat) x (opened_on old.seats c.seat)) here (a.each c.seat)

  there : (change : HandleChange) (n : Option Opened) → Both (SeatHandled old.most change) (opened_on old.seats c.seat) n → AreHere change c.seat n
  there HandlesStay n b = still-opened _ _ (opened_on old.seats c.seat) _ (a.each c.seat) b
  there (Opens handle) n b =
      subst (λ (x : Option Connection). AreOpened (open_on (s.handles ++ new_handle c handle ∷ []) c.seat) x n) (sym (counted-here c.seat s.connections c here))
      (opened-one c s.handles old.most handle (opened_on old.seats c.seat) n known b)
  there (Closes fh) n b =
      subst (λ (x : Option Connection). AreOpened (open_on (closed c.seat fh s.handles) c.seat) x n) (sym here)
      (closed-one c s.handles old.most fh (opened_on old.seats c.seat) n differ known b)

  elsewhere : (change : HandleChange) (q : ℕ) → (c.seat == q) ≡ false → AreHere change q (opened_on old.seats q)
  elsewhere HandlesStay q e = a.each q
  elsewhere (Opens handle) q e =
      subst (λ (x : Option Connection). AreOpened (open_on (s.handles ++ new_handle c handle ∷ []) q) x (opened_on old.seats q)) (sym (counted-elsewhere c.seat q s.connections e))
      (subst (λ (ys : List (ℕ × Handle)). AreOpened ys (connection_of s.connections q) (opened_on old.seats q)) (sym (added-elsewhere s.handles (new_handle c handle) q e)) (a.each q))
  elsewhere (Closes fh) q e =
      subst (λ (ys : List (ℕ × Handle)). AreOpened ys (connection_of s.connections q) (opened_on old.seats q)) (sym (closed-elsewhere c.seat fh q s.handles e)) (a.each q)

  pub each-open : (change : HandleChange) (new : HandleTable) → Handled c.seat change old new → (q : ℕ) → AreHere change q (opened_on new.seats q)
  each-open change new h q = by (c.seat == q) refl
    where
      by : (b : Bool) → (c.seat == q) ≡ b → AreHere change q (opened_on new.seats q)
      by true e = subst (λ (n : ℕ). AreHere change n (opened_on new.seats n)) (is-number c.seat q e) (there change (opened_on new.seats c.seat) h.seats.there)
      by false e = subst (AreHere change q) (sym (h.seats.elsewhere q e)) (elsewhere change q e)
