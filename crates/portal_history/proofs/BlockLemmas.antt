-- Lists in blocks of one length.
use Rattle.std.proofs.Common.{◌≡◌, ℕ, zero, suc, ◌+◌, ◌-◌, ◌*◌, ◌/◌, ◌%◌, ◌<◌, ◌≤◌, ◌⊎◌, inl, inr, List, [], ◌∷◌, ◌++◌, length, slice_get, option_copied, Vec, vec_len, vec_capacity, Option, Some, None, refl, sym, ap, subst, ◌∙◌, append_assoc, arith, length-append}
use Rattle.std.specs.Borrow.{Bor}
use Rattle.std.specs.Slice.{IsItemAt}
use Rattle.std.proofs.lemmas.Grind.{flat_map-append}
use Rattle.std.proofs.lemmas.List.{append-nil}
use Rattle.std.proofs.lemmas.List.Elements.{All-head, All-pop, All-push, All-tail}
use Rattle.std.proofs.lemmas.Option.{slice_get-get_or, slice_get_past}
use Rattle.portal_history.specs.Blocks.{AreBlocks, AreFree, AreFull, IsOpened, closed_behind, items_in, joined, room_in}

module _ {X : Type 0} where
  -- ---- an item in one of two lists

  in-first : (xs ys : List X) (i : ℕ) → i < length xs → slice_get (xs ++ ys) i ≡ slice_get xs i
  in-first [] ys i h = absurd (omega arith)
  in-first (x ∷ xs) ys zero h = refl
  in-first (x ∷ xs) ys (suc i) h = in-first xs ys i (omega arith)

  in-second : (xs ys : List X) (i : ℕ) → length xs ≤ i → slice_get (xs ++ ys) i ≡ slice_get ys (i - length xs)
  in-second [] ys i h = ap (slice_get ys) (omega arith)
  in-second (x ∷ xs) ys zero h = absurd (omega arith)
  in-second (x ∷ xs) ys (suc i) h = in-second xs ys i (omega arith) ∙ ap (slice_get ys) (omega arith)

  pub item-at : (xs : List X) (i : ℕ) (r : Option (Bor X)) → IsItemAt xs i r → option_copied r ≡ slice_get xs i
  item-at xs i None h = sym (slice_get_past xs i h.3)
  item-at xs i (Some x) h = ap (λ (y : X). Some y) h.1 ∙ sym (slice_get-get_or xs i x.now h.3.0)

  -- ---- an item in blocks

  abbrev FullBlock : List X → Type 0
  FullBlock b = length b ≡ 1024

  pub length-joined : (full : List (List X)) → AreFull full → length (joined full) ≡ length full * 1024
  length-joined [] h = refl
  length-joined (b ∷ bs) h =
      let first : length b ≡ 1024 = All-head FullBlock b bs h in
      let rest : length (joined bs) ≡ length bs * 1024 = length-joined bs (All-tail FullBlock b bs h) in
      omega (arith, length-append b (joined bs))

  at-block : (full : List (List X)) (last b : List X) (q r : ℕ) → AreFull full → r < 1024 → slice_get full q ≡ Some b → slice_get (joined full ++ last) (q * 1024 + r) ≡ slice_get b r
  at-block [] last b q r h l e = cc
  at-block (x ∷ xs) last b zero r h l e =
      let first : length x ≡ 1024 = All-head FullBlock x xs h in
      let same : x ≡ b = cc in
      ap (λ (ys : List X). slice_get ys (0 * 1024 + r)) (append_assoc x (joined xs) last)
      ∙ (in-first x (joined xs ++ last) (0 * 1024 + r) (omega arith)
      ∙ (ap (slice_get x) (omega arith) ∙ ap (λ (ys : List X). slice_get ys r) same))
  at-block (x ∷ xs) last b (suc q) r h l e =
      let first : length x ≡ 1024 = All-head FullBlock x xs h in
      ap (λ (ys : List X). slice_get ys (suc q * 1024 + r)) (append_assoc x (joined xs) last)
      ∙ (in-second x (joined xs ++ last) (suc q * 1024 + r) (omega arith)
      ∙ (ap (slice_get (joined xs ++ last)) (omega arith) ∙ at-block xs last b q r (All-tail FullBlock x xs h) l e))

  pub in-block : (full : List (List X)) (last b : List X) (place : ℕ) → AreFull full → slice_get full (place / 1024) ≡ Some b → slice_get (joined full ++ last) place ≡ slice_get b (place % 1024)
  in-block full last b place h e =
      ap (slice_get (joined full ++ last)) (omega arith)
      ∙ at-block full last b (place / 1024) (place % 1024) h (omega arith) e

  pub in-last : (full : List (List X)) (last : List X) (place : ℕ) → AreFull full → length full * 1024 ≤ place → slice_get (joined full ++ last) place ≡ slice_get last (place - length full * 1024)
  in-last full last place h l =
      let long : length (joined full) ≡ length full * 1024 = length-joined full h in
      in-second (joined full) last place (omega arith) ∙ ap (λ (n : ℕ). slice_get last (place - n)) long

  -- ---- a block that is closed

  closed-full : (full : List (List X)) (xs : List X) → AreFull full → (length xs ≡ 0) ⊎ (length xs ≡ 1024) → AreFull (closed_behind full xs)
  closed-full full [] h one = h
  closed-full full (x ∷ xs) h (inl none) = absurd (omega arith)
  closed-full full (x ∷ xs) h (inr whole) = All-push FullBlock full (x ∷ xs) h whole

  closed-joined : (full : List (List X)) (xs : List X) → joined (closed_behind full xs) ≡ joined full ++ xs
  closed-joined full [] = sym (append-nil (joined full))
  closed-joined full (x ∷ xs) = flat_map-append (λ (b : List X). b) full ((x ∷ xs) ∷ []) ∙ ap (λ (ys : List X). joined full ++ ys) (append-nil (x ∷ xs))

  no-items : (xs : List X) → length xs ≡ 0 → xs ≡ []
  no-items [] e = refl
  no-items (x ∷ xs) e = absurd (omega arith)

-- ---- a block is begun, and filled

module _ {X Z : Type 0} where
  abbrev FreeBlock : Vec X Z → Type 0
  FreeBlock b = (vec_len b ≡ 0) × (vec_capacity b ≡ 1024)

  pub is-open : (full : Vec (List X) Z) (last : Vec X Z) (ahead : Vec (Vec X Z) Z) → AreBlocks full last ahead → vec_len last < vec_capacity last → IsOpened full last ahead full last ahead
  is-open full last ahead stand has_room = record { stand = stand; has_room = has_room; items = refl; room = refl }

  module _ (full new_full : Vec (List X) Z) (last next : Vec X Z) (ahead new_ahead : Vec (Vec X Z) Z) (s : AreBlocks full last ahead)
      (no_room : vec_capacity last ≤ vec_len last)
      (taken : ahead.items ≡ new_ahead.items ++ next ∷ []) (fewer : vec_len new_ahead + 1 ≡ vec_len ahead)
      (closed : new_full.items ≡ closed_behind full.items last.items) (longer : vec_len new_full ≤ vec_len full + 1) (held : vec_capacity new_full ≡ vec_capacity full) where
    free-parts : AreFree new_ahead.items × FreeBlock next
    free-parts = All-pop FreeBlock ahead.items new_ahead.items (Some next) taken s.free

    last-length : (length last.items ≡ 0) ⊎ (length last.items ≡ 1024)
    last-length = elim s.one [ inl none ↦ inl (omega (arith, last.ok)) | inr whole ↦ inr (omega (arith, last.ok)) ]

    pub begins : IsOpened full last ahead new_full next new_ahead
    begins =
        let free = free-parts in
        let empty : next.items ≡ [] = no-items next.items (omega (arith, next.ok)) in
        let kept : joined new_full.items ++ next.items ≡ joined full.items ++ last.items =
        ap (λ (ys : List X). joined new_full.items ++ ys) empty
        ∙ (append-nil (joined new_full.items) ∙ (ap joined closed ∙ closed-joined full.items last.items)) in
        record {
          stand = record {
            whole = subst AreFull (sym closed) (closed-full full.items last.items s.whole last-length);
            one = inr free.1.1;
            free = free.0;
            places = omega (arith, s.places);
            few = omega (arith, s.few);
          };
          has_room = omega arith;
          items = kept;
          room = omega (arith, last.ok);
        }

  module _ (full new_full : Vec (List X) Z) (last new_last more : Vec X Z) (ahead new_ahead : Vec (Vec X Z) Z) (o : IsOpened full last ahead new_full new_last new_ahead) (x : X)
      (items : more.items ≡ new_last.items ++ x ∷ []) (longer : vec_len more ≡ vec_len new_last + 1) (held : vec_capacity more ≡ vec_capacity new_last) where
    pub filled : AreBlocks new_full more new_ahead
    filled = record {
      whole = o.stand.whole;
      one = subst (λ (n : ℕ). (n ≡ 0) ⊎ (n ≡ 1024)) (sym held) o.stand.one;
      free = o.stand.free;
      places = o.stand.places;
      few = o.stand.few;
    }

    pub filled-items : items_in new_full more ≡ items_in full last ++ x ∷ []
    filled-items =
        ap (λ (ys : List X). joined new_full.items ++ ys) items
        ∙ (sym (append_assoc (joined new_full.items) new_last.items (x ∷ [])) ∙ ap (λ (ys : List X). ys ++ x ∷ []) o.items)

    pub filled-room : room_in more new_ahead ≡ room_in last ahead - 1
    filled-room = let same = o.room in let has = o.has_room in omega arith
