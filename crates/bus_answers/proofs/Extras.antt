-- The mount point under its key, wherever it stands, and what calls return with it.
use Rattle.std.proofs.Common.{◌≡◌, ℕ, ◌+◌, ◌*◌, ◌%◌, ◌≤◌, true, List, [], ◌∷◌, ◌++◌, drop, length, map, replicate, take, sym, ap, ◌∙◌, arith}
use Rattle.std.specs.Int.{w32}
use Rattle.std.specs.List.{list_all}
use Rattle.std.specs.Prelude.{codes}
use Rattle.std.proofs.lemmas.List.{append-nil, append_assoc, drop_at, length-append, length-replicate, take_at}
use Rattle.dbus_types.specs.declared.types.Endian.TheVariants.{Little}
use Rattle.dbus_types.specs.declared.types.WireType.{WireType, the_lemmas as type_lemmas}
use Rattle.dbus_types.specs.declared.types.WireType.TheVariants as W
use Rattle.dbus_types.specs.declared.types.Value.{Value}
use Rattle.dbus_types.specs.declared.types.Value.TheVariants as V
use Rattle.dbus_types.specs.Types.{alignment}
use Rattle.dbus_values.specs.Spells.{gap, number}
use Rattle.dbus_values.specs.Spelling.{Spelled, aligned, array_body, spelled, spelling, spellings}
use Rattle.dbus_values.proofs.OneSpelling.{roll_array}
use Rattle.dbus_marshal.proofs.SpellingsMove.{spellings_move}
use Rattle.dbus_marshal.proofs.TakenFronts.{four, number_len}
use Rattle.dbus_dispatch.specs.Asks.{closed_bytes}
use Rattle.dbus_dispatch.specs.Replies.{each_text, extra}
use Rattle.dbus_dispatch.proofs.Lengths.{gap_small}
use Rattle.portal_model.specs.Changed.{texts_value}
use Rattle.bus_answers.specs.Begun.{extra_at, extra_bytes, full_at, named_at, texts_at}
use Rattle.bus_answers.specs.Little.{is_short}
use Rattle.bus_answers.proofs.Texts.{row_behind, texts_length}

abbrev numbered : ℕ → List ℕ
numbered n = number Little w32 n

-- a value at places that are alike
pub moves : (v : Value) (at other : ℕ) → at % 8 ≡ other % 8 → spelling Little at v ≡ spelling Little other v
moves v at other h = sym (append-nil (spelling Little at v)) ∙ (spellings_move Little (v ∷ []) at other h ∙ append-nil (spelling Little other v))

-- what is put for the mount point, one part behind the other
pub extra_put : (o a b d e x count rest : List ℕ) → a ≡ o ++ replicate (gap 4 (length o)) 0 → b ≡ a ++ count → count ≡ drop 4 (take 8 x) → length count ≡ 4 → d ≡ b ++ replicate (gap 8 (length b)) 0 → e ≡ d ++ rest → rest ≡ drop 8 x → e ≡ o ++ extra_at (length o) x
extra_put o a b d e x count rest p q is size r t same =
    let Z : List ℕ = replicate (gap 4 (length o)) 0 in
    let place : length b ≡ length o + gap 4 (length o) + 4 =
    omega (arith, ap length p, length-append o Z, length-replicate {A = ℕ} (gap 4 (length o)) 0, ap length q, length-append a count, size) in
    let P : List ℕ = replicate (gap 8 (length o + gap 4 (length o) + 4)) 0 in
    let pads : d ≡ b ++ P = r ∙ ap (λ (n : ℕ). b ++ replicate (gap 8 n) 0) place in
    let parts : e ≡ (((o ++ Z) ++ count) ++ P) ++ rest =
    t ∙ ap (λ (w : List ℕ). w ++ rest) (pads ∙ ap (λ (w : List ℕ). w ++ P) (q ∙ ap (λ (w : List ℕ). w ++ count) p)) in
    parts ∙ (regroup o Z count P rest ∙ (λ i. o ++ (Z ++ (is i ++ (P ++ same i)))))
  where
    regroup : (o Z C P R : List ℕ) → (((o ++ Z) ++ C) ++ P) ++ R ≡ o ++ (Z ++ (C ++ (P ++ R)))
    regroup o Z C P R = simp append_assoc

-- ---- the mount point

abbrev entry_type : WireType
entry_type = W.DictEntry W.Str W.Variant

by_eight : alignment entry_type ≡ 8
by_eight = search type_lemmas

abbrev entry_of : List ℕ → Value
entry_of mountpoint = V.DictEntry (V.Str (codes "mountpoint")) (V.Variant (closed_bytes mountpoint))

array_is : (mountpoint : List ℕ) (at : ℕ) → spelling Little at (extra mountpoint) ≡ aligned 4 (array_body Little 8 (spelled Little (entry_of mountpoint) ∷ [])) at
array_is mountpoint at =
    ap (λ (x : Spelled). x.1 at) (roll_array Little entry_type (entry_of mountpoint ∷ []))
    ∙ ap (λ (n : ℕ). aligned 4 (array_body Little n (spelled Little (entry_of mountpoint) ∷ [])) at) by_eight

padded_even : (n : ℕ) → (n + gap 8 n) % 8 ≡ 8 % 8
padded_even n = omega arith

module _ (mountpoint : List ℕ) where
  -- the entry, on a multiple of 8
  abbrev entry : List ℕ
  entry = spellings Little 8 (entry_of mountpoint ∷ [])

  -- from byte 4 on no padding stands
  four_is : spelling Little 4 (extra mountpoint) ≡ numbered (length entry) ++ entry
  four_is = array_is mountpoint 4

  abbrev bytes : List ℕ
  bytes = extra_bytes mountpoint

  count_is : drop 4 (take 8 bytes) ≡ numbered (length entry)
  count_is = ap (λ (w : List ℕ). take 4 w) four_is ∙ take_at (numbered (length entry)) entry 4 (number_len Little four (length entry))

  entry_is : drop 8 bytes ≡ entry
  entry_is = ap (λ (w : List ℕ). drop 4 w) four_is ∙ drop_at (numbered (length entry)) entry 4 (number_len Little four (length entry))

  pub extra_is : (at : ℕ) → extra_at at bytes ≡ spelling Little at (extra mountpoint)
  extra_is at =
      let start : ℕ = at + gap 4 at in
      let pad : ℕ = gap 8 (start + 4) in
      let there : spellings Little (start + 4 + pad) (entry_of mountpoint ∷ []) ≡ entry = spellings_move Little (entry_of mountpoint ∷ []) (start + 4 + pad) 8 (padded_even (start + 4)) in
      (λ i. replicate (gap 4 at) 0 ++ (count_is i ++ (replicate pad 0 ++ entry_is i)))
      ∙ (ap (λ (w : List ℕ). replicate (gap 4 at) 0 ++ (numbered (length w) ++ (replicate pad 0 ++ w))) (sym there)
      ∙ sym (array_is mountpoint at))

  pub extra_length : (at : ℕ) → length (extra_at at bytes) ≤ length bytes + 10
  extra_length at =
      let start : ℕ = at + gap 4 at in
      let pad : ℕ = gap 8 (start + 4) in
      let whole : length (spelling Little 4 (extra mountpoint)) ≡ 4 + length entry = omega (arith, ap length four_is, length-append (numbered (length entry)) entry, number_len Little four (length entry)) in
      omega (
        arith,
        whole,
        ap length count_is,
        ap length entry_is,
        number_len Little four (length entry),
        gap_small 4 at (omega arith),
        gap_small 8 (start + 4) (omega arith),
        length-replicate {A = ℕ} (gap 4 at) 0,
        length-replicate {A = ℕ} pad 0,
        length-append (replicate (gap 4 at) 0) (drop 4 (take 8 bytes) ++ (replicate pad 0 ++ drop 8 bytes)),
        length-append (drop 4 (take 8 bytes)) (replicate pad 0 ++ drop 8 bytes),
        length-append (replicate pad 0) (drop 8 bytes),
      )

  pub bytes_long : 8 ≤ length bytes
  bytes_long = omega (arith, ap length four_is, length-append (numbered (length entry)) entry, number_len Little four (length entry))

  -- ---- identifiers with it

  module _ (ids : List (List ℕ)) (at : ℕ) (whole : at % 8 ≡ 0 % 8) where
    pub named_is : named_at at bytes ids ≡ spellings Little 0 (each_text ids ++ extra mountpoint ∷ [])
    named_is =
        ap (λ (w : List ℕ). texts_at at ids ++ w) (extra_is (at + length (texts_at at ids)))
        ∙ (sym (row_behind (each_text ids) (extra mountpoint) at) ∙ spellings_move Little (each_text ids ++ extra mountpoint ∷ []) at 0 whole)

    -- as an array
    by_four : alignment W.Str ≡ 4
    by_four = search type_lemmas

    abbrev texts : List ℕ
    texts = texts_at 4 ids

    texts_is : spelling Little 0 (texts_value ids) ≡ numbered (length texts) ++ texts
    texts_is =
        ap (λ (x : Spelled). x.1 0) (roll_array Little W.Str (each_text ids))
        ∙ ap (λ (n : ℕ). aligned 4 (array_body Little n (map (spelled Little) (each_text ids))) 0) by_four

    pub full_is : full_at at bytes ids ≡ spellings Little 0 (texts_value ids ∷ extra mountpoint ∷ [])
    full_is =
        let alike : (at + 4) % 8 ≡ 4 % 8 = omega (arith, whole) in
        let same : texts_at (at + 4) ids ≡ texts = spellings_move Little (each_text ids) (at + 4) 4 alike in
        let place : ℕ = 0 + length (spelling Little 0 (texts_value ids)) in
        let size : place ≡ 4 + length texts = omega (arith, ap length texts_is, length-append (numbered (length texts)) texts, number_len Little four (length texts)) in
        let there : (at + 4 + length texts) % 8 ≡ place % 8 = omega (arith, whole, size) in
        ap (λ (w : List ℕ). numbered (length w) ++ (w ++ extra_at (at + 4 + length w) bytes)) same
        ∙ (ap (λ (w : List ℕ). numbered (length texts) ++ (texts ++ w)) (extra_is (at + 4 + length texts) ∙ moves (extra mountpoint) (at + 4 + length texts) place there)
        ∙ (sym (append_assoc (numbered (length texts)) texts (spelling Little place (extra mountpoint)))
        ∙ ((λ i. sym texts_is i ++ sym (append-nil (spelling Little place (extra mountpoint))) i))))

    -- ---- how long they are

    module _ (short : list_all is_short ids ≡ true) where
      pub named_length : length (named_at at bytes ids) ≤ 20 * length ids + (length bytes + 10)
      named_length =
          omega (
            arith,
            texts_length ids at short,
            extra_length (at + length (texts_at at ids)),
            length-append (texts_at at ids) (extra_at (at + length (texts_at at ids)) bytes),
          )

      pub full_length : length (full_at at bytes ids) ≤ 4 + (20 * length ids + (length bytes + 10))
      full_length =
          let w : List ℕ = texts_at (at + 4) ids in
          omega (
            arith,
            texts_length ids (at + 4) short,
            extra_length (at + 4 + length w),
            number_len Little four (length w),
            length-append (numbered (length w)) (w ++ extra_at (at + 4 + length w) bytes),
            length-append w (extra_at (at + 4 + length w) bytes),
          )
