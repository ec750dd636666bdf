-- Texts of several items that a separator joins.
use Rattle.std.proofs.Common.{◌≡◌, ◌≢◌, ℕ, false, ◌+◌, ◌<◌, ◌≤◌, List, [], ◌∷◌, ◌++◌, length, take, drop, refl, sym, ap, ◌∙◌, arith, suc, get_or, map, drop-cons, Bor}
use Rattle.std.specs.Prelude.{◌==◌}
use Rattle.std.specs.List.{All, slice_split, join_with_byte}
use Rattle.std.proofs.lemmas.List.{map-append, take-append-drop, take_all, take_more}
use Rattle.std.proofs.lemmas.List.Elements.{All-head, All-tail, All-cons, All-nil, All-append}
use Rattle.std.proofs.lemmas.List.Splits.{length-slice_split, join_with_byte-slice_split}
use Rattle.script_lines.specs.Reading.{IsFree}
use Rattle.script_lines.proofs.TextFacts.{split_joined}

pub append_free : (s : ℕ) (a b : List ℕ) → IsFree s a → IsFree s b → IsFree s (a ++ b)
append_free s a b fa fb = All-append (λ x. (x == s) ≡ false) a b fa fb

-- what has no separator has none where it is joined by another
pub joined_free : (s by : ℕ) → (by == s) ≡ false → (t : List ℕ) (ts : List (List ℕ)) → All (IsFree s) (t ∷ ts) → IsFree s (join_with_byte by (t ∷ ts))
joined_free s by other t [] all = All-head (IsFree s) t [] all
joined_free s by other t (u ∷ us) all =
    append_free s t (by ∷ join_with_byte by (u ∷ us)) (All-head (IsFree s) t (u ∷ us) all)
    (All-cons (λ x. (x == s) ≡ false) by (join_with_byte by (u ∷ us)) other (joined_free s by other u us (All-tail (IsFree s) t (u ∷ us) all)))

module _ {X : Type 0} (s : ℕ) (text : X → List ℕ) (Good : X → Type 0) (free : (x : X) → Good x → IsFree s (text x))
    (one : (x y : X) → Good x → Good y → text x ≡ text y → x ≡ y) where
  pub texts_free : (xs : List X) → All Good xs → All (IsFree s) (map text xs)
  texts_free [] all = All-nil (IsFree s)
  texts_free (x ∷ xs) all = All-cons (IsFree s) (text x) (map text xs) (free x (All-head Good x xs all)) (texts_free xs (All-tail Good x xs all))

  pub texts_same : (xs ys : List X) → All Good xs → All Good ys → map text xs ≡ map text ys → xs ≡ ys
  texts_same [] [] ax ay e = refl
  texts_same [] (y ∷ ys) ax ay e = absurd (cc e)
  texts_same (x ∷ xs) [] ax ay e = absurd (cc e)
  texts_same (x ∷ xs) (y ∷ ys) ax ay e =
      let heads : text x ≡ text y = cc e in
      let tails : map text xs ≡ map text ys = cc e in
      let first = one x y (All-head Good x xs ax) (All-head Good y ys ay) heads in
      let rest = texts_same xs ys (All-tail Good x xs ax) (All-tail Good y ys ay) tails in
      cc (first, rest)

  -- the parts of the text of items
  pub joined_split : (word : List ℕ) (xs : List X) → All Good xs → (xs ≢ []) → word ≡ join_with_byte s (map text xs)
      → slice_split (λ b. b == s) word ≡ map text xs
  joined_split word [] all some same = absurd (some refl)
  joined_split word (x ∷ xs) all some same = rw same (split_joined s (text x) (map text xs) (texts_free (x ∷ xs) all))

  pub joined_same : (xs ys : List X) → All Good xs → All Good ys → (xs ≢ []) → (ys ≢ []) → join_with_byte s (map text xs) ≡ join_with_byte s (map text ys) → xs ≡ ys
  joined_same xs ys ax ay sx sy e =
      texts_same xs ys ax ay (sym (joined_split (join_with_byte s (map text xs)) xs ax sx refl) ∙ joined_split (join_with_byte s (map text xs)) ys ay sy e)

  -- where some items and then a piece are the front of the texts of items, they are the front of these
  pub record Goes (xs : List X) (p : List ℕ) (ys : List X) : Type 0 where
    pub next : X
    pub more : List X
    pub same : ys ≡ xs ++ (next ∷ more)
    pub text_is : p ≡ text next
    pub is : Good next

  front : (xs : List X) (p : List ℕ) (ps : List (List ℕ)) (ys : List X) → All Good xs → All Good ys
      → map text xs ++ (p ∷ ps) ≡ map text ys → Goes xs p ys
  front [] p ps [] ax ay e = absurd (cc e)
  front [] p ps (y ∷ ys) ax ay e = record { next = y; more = ys; same = refl; text_is = cc e; is = All-head Good y ys ay }
  front (x ∷ xs) p ps [] ax ay e = absurd (cc e)
  front (x ∷ xs) p ps (y ∷ ys) ax ay e =
      let heads : text x ≡ text y = cc e in
      let tails : map text xs ++ (p ∷ ps) ≡ map text ys = cc e in
      let first : x ≡ y = one x y (All-head Good x xs ax) (All-head Good y ys ay) heads in
      let rest = front xs p ps ys (All-tail Good x xs ax) (All-tail Good y ys ay) tails in
      record { next = rest.next; more = rest.more; same = cc (first, rest.same); text_is = rest.text_is; is = rest.is }

  pub pieces_go : (word : List ℕ) (items : List (Bor (List ℕ))) (d : Bor (List ℕ)) (xs : List X) (i : ℕ) (ys : List X)
      → map (λ p. p.now) items ≡ slice_split (λ b. b == s) word → map text xs ≡ map (λ p. p.now) (take i items)
      → i < length items → All Good xs → All Good ys → (ys ≢ []) → word ≡ join_with_byte s (map text ys) → Goes xs (get_or items i d).now ys
  pieces_go word items d xs i ys split same inside ax ay some is =
      let read : Bor (List ℕ) → List ℕ = λ p. p.now in
      let whole : map read items ≡ map text ys = split ∙ joined_split word ys ay some is in
      let parted : take i items ++ (get_or items i d ∷ drop (suc i) items) ≡ items = rw (← drop-cons items i d inside) (take-append-drop i items) in
      front xs (get_or items i d).now (map read (drop (suc i) items)) ys ax ay
      (ap (λ (ahead : List (List ℕ)). ahead ++ ((get_or items i d).now ∷ map read (drop (suc i) items))) same
      ∙ sym (map-append read (take i items) (get_or items i d ∷ drop (suc i) items)) ∙ ap (map read) parted ∙ whole)

  -- one item more, of the next piece
  pub pieces_more : (items : List (Bor (List ℕ))) (d : Bor (List ℕ)) (xs : List X) (i : ℕ) (x : X)
      → map text xs ≡ map (λ p. p.now) (take i items) → i < length items → (get_or items i d).now ≡ text x
      → map text (xs ++ (x ∷ [])) ≡ map (λ p. p.now) (take (i + 1) items)
  pieces_more items d xs i x same inside is =
      let read : Bor (List ℕ) → List ℕ = λ p. p.now in
      map-append text xs (x ∷ []) ∙ ap (λ (ahead : List (List ℕ)). ahead ++ (text x ∷ [])) same
      ∙ ap (λ (t : List ℕ). map read (take i items) ++ (t ∷ [])) (sym is)
      ∙ sym (map-append read (take i items) (get_or items i d ∷ [])) ∙ ap (map read) (sym (take_more items i d inside))

  some_part : (word : List ℕ) → slice_split (λ b. b == s) word ≡ [] → ⊥
  some_part word e = let n = length-slice_split (λ b. b == s) word in let z = ap length e in absurd (omega arith)

  -- all pieces are read
  pub pieces_done : (word : List ℕ) (items : List (Bor (List ℕ))) (xs : List X) (i : ℕ)
      → map (λ p. p.now) items ≡ slice_split (λ b. b == s) word → map text xs ≡ map (λ p. p.now) (take i items)
      → length items ≤ i → (xs ≢ []) × (word ≡ join_with_byte s (map text xs))
  pieces_done word items xs i split same past =
      let read : Bor (List ℕ) → List ℕ = λ p. p.now in
      let whole : map text xs ≡ slice_split (λ b. b == s) word = same ∙ ap (map read) (take_all i items past) ∙ split in (
        λ none. some_part word (sym whole ∙ ap (map text) none),
        sym (join_with_byte-slice_split s word) ∙ ap (join_with_byte s) (sym whole),
      )
