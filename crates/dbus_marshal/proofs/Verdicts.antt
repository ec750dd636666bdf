-- Checking values comes to what reading them comes to.
use Rattle.std.proofs.Common.{◌≡◌, ℕ, ◌+◌, ◌-◌, ◌<◌, ◌≤◌, false, ltb, List, [], ◌∷◌, length, get_or, drop, Result, Ok, Err, refl, sym, ap, subst, ◌∙◌}
use Rattle.std.specs.Int.{w32}
use Rattle.dbus_types.specs.declared.types.Endian.{Endian}
use Rattle.dbus_types.specs.declared.types.WireType.{WireType}
use Rattle.dbus_types.specs.declared.types.WireType.TheOpen.{WireType-F}
use Rattle.dbus_types.specs.declared.types.WireType.TheVariants as W
use Rattle.dbus_types.specs.declared.types.Value.{Value}
use Rattle.dbus_types.specs.declared.types.Value.TheVariants as V
use Rattle.dbus_types.specs.Types.{alignment}
use Rattle.dbus_basic.specs.declared.error.ReadError.{ReadError}
use Rattle.dbus_basic.specs.declared.error.ReadError.TheVariants.{Short, Padding, BadBool, BadText, TooLong, BadSignature, TooDeep, BadArray, Memory}
use Rattle.dbus_basic.specs.Reading.{◌>>=◌, Fails, Read, place, past, verdict}
use Rattle.dbus_basic.specs.Fields.{padded, taken, number_at}
use Rattle.dbus_marshal.specs.Reads.{joined, members, listed, elements, array_error, inside_at, layer, reads}
use Rattle.dbus_marshal.proofs.SpelledIsRead.{ok_is}
use Rattle.dbus_marshal.proofs.StepBreaks.{err_is}
use Rattle.dbus_marshal.proofs.Loops.{fails_as, members_step, members_end, members_fails, elements_step, elements_end, elements_fails, array_is, array_fails}
use Rattle.dbus_marshal.proofs.Bytes.{bytes_read}
use Rattle.dbus_marshal.proofs.HeaderFields.{variant_read}

-- what was read, where the place after it is known
pub read_there : {X : Type 0} (r : Read X) (p : ℕ × List ℕ) → past r ≡ Ok p → (x : X) × (r ≡ Ok (x, p.0, p.1))
read_there (Ok x) p is = (x.0, ap (λ (q : ℕ × List ℕ). Ok (x.0, q.0, q.1)) (ok_is (x.1, x.2) p is))
read_there (Err d) p is = absurd cc

past_err : {X : Type 0} (r : Read X) (d : ReadError) → past r ≡ Err d → r ≡ Err d
past_err (Ok x) d is = absurd cc
past_err (Err k) d is = ap (λ (e : ReadError). Err e) (err_is {A = ℕ × List ℕ} k d is)

pub fails_there : {X : Type 0} (d : ReadError) (r : Read X) → Fails d (past r) → Fails d r
fails_there Memory r h = tt
fails_there (Short at) r h = past_err r (Short at) h
fails_there (Padding at) r h = past_err r (Padding at) h
fails_there (BadBool at) r h = past_err r (BadBool at) h
fails_there (BadText at) r h = past_err r (BadText at) h
fails_there (TooLong at) r h = past_err r (TooLong at) h
fails_there (BadSignature at) r h = past_err r (BadSignature at) h
fails_there (TooDeep at) r h = past_err r (TooDeep at) h
fails_there (BadArray at) r h = past_err r (BadArray at) h

all_read : {X : Type 0} (r : Result X ReadError) → verdict r ≡ Ok tt → (x : X) × (r ≡ Ok x)
all_read (Ok x) is = (x, refl)
all_read (Err d) is = absurd cc

verdict_err : {X : Type 0} (r : Result X ReadError) (d : ReadError) → verdict r ≡ Err d → r ≡ Err d
verdict_err (Ok x) d is = absurd cc
verdict_err (Err k) d is = ap (λ (e : ReadError). Err e) (err_is {A = Unit {0}} k d is)

fails_all : {X : Type 0} (d : ReadError) (r : Result X ReadError) → Fails d (verdict r) → Fails d r
fails_all Memory r h = tt
fails_all (Short at) r h = verdict_err r (Short at) h
fails_all (Padding at) r h = verdict_err r (Padding at) h
fails_all (BadBool at) r h = verdict_err r (BadBool at) h
fails_all (BadText at) r h = verdict_err r (BadText at) h
fails_all (TooLong at) r h = verdict_err r (TooLong at) h
fails_all (BadSignature at) r h = verdict_err r (BadSignature at) h
fails_all (TooDeep at) r h = verdict_err r (TooDeep at) h
fails_all (BadArray at) r h = verdict_err r (BadArray at) h

-- what is made of a value stands at the same place
made : {X Y : Type 0} (r : Read X) (f : X → Y) → past (r >>= λ x. Ok (f x.0, x.1, x.2)) ≡ past r
made (Ok x) f = refl
made (Err d) f = refl

past_joined : (vs : List Value) (x : Read (List Value)) → past (joined vs x) ≡ past x
past_joined vs (Ok x) = refl
past_joined vs (Err d) = refl

verdict_listed : (vs : List Value) (x : Result (List Value) ReadError) → verdict (listed vs x) ≡ verdict x
verdict_listed vs (Ok x) = refl
verdict_listed vs (Err d) = refl

module _ (r : WireType → ℕ → List ℕ → Read Value) (bytes : List ℕ) (ts : List WireType) (i next : ℕ) where
  abbrev left : Read (List Value)
  left = members r (drop i ts) next (drop next bytes)

  pub members_past : (t : WireType) (end : ℕ) → i < length ts → t ≡ get_or ts i t → past (r t next (drop next bytes)) ≡ Ok (place bytes end)
      → past (members r (drop i ts) next (drop next bytes)) ≡ past (members r (drop (i + 1) ts) end (drop end bytes))
  members_past t end lt e is =
      let x = read_there (r t next (drop next bytes)) (place bytes end) is in
      sym (past_joined [] left) ∙ (ap past (members_step r bytes ts i [] next t x.0 end lt e x.1) ∙ past_joined (x.0 ∷ []) (members r (drop (i + 1) ts) end (drop end bytes)))

  pub members_past_end : length ts ≤ i → past (members r (drop i ts) next (drop next bytes)) ≡ Ok (place bytes next)
  members_past_end le = sym (past_joined [] left) ∙ ap past (members_end r bytes ts i [] next le)

  pub members_past_fails : (t : WireType) (d : ReadError) → i < length ts → t ≡ get_or ts i t → Fails d (past (r t next (drop next bytes))) → Fails d (past (members r (drop i ts) next (drop next bytes)))
  members_past_fails t d lt e h =
      let f = members_fails r bytes ts i [] next t d lt e (fails_there d (r t next (drop next bytes)) h) in
      subst (λ (q : Result (ℕ × List ℕ) ReadError). Fails d q) (past_joined [] left) (fails_as d (joined [] left) past (λ k. refl) f)

module _ (f : ℕ → List ℕ → Read Value) (bytes : List ℕ) (next : ℕ) where
  pub elements_past : (n end : ℕ) → next < length bytes → next < end → past (f next (drop next bytes)) ≡ Ok (place bytes end) → length (drop next bytes) ≤ n
      → (m : ℕ) × (length (drop end bytes) ≤ m) × (verdict (elements n f next (drop next bytes)) ≡ verdict (elements m f end (drop end bytes)))
  elements_past n end lt on is le =
      let x = read_there (f next (drop next bytes)) (place bytes end) is in
      let s = elements_step f bytes [] next n x.0 end lt on x.1 le in
      (s.0, s.1, sym (verdict_listed [] (elements n f next (drop next bytes))) ∙ (ap verdict s.2 ∙ verdict_listed (x.0 ∷ []) (elements s.0 f end (drop end bytes))))

  pub elements_past_end : (n : ℕ) → length bytes ≤ next → verdict (elements n f next (drop next bytes)) ≡ Ok tt
  elements_past_end n le = sym (verdict_listed [] (elements n f next (drop next bytes))) ∙ ap verdict (elements_end f bytes [] next n le)

  pub elements_past_fails : (n : ℕ) (d : ReadError) → next < length bytes → length (drop next bytes) ≤ n → Fails d (past (f next (drop next bytes))) → Fails d (verdict (elements n f next (drop next bytes)))
  elements_past_fails n d lt le h =
      let g = elements_fails f bytes [] next n d lt le (fails_there d (f next (drop next bytes)) h) in
      subst (λ (q : Result (Unit {0}) ReadError). Fails d q) (verdict_listed [] (elements n f next (drop next bytes))) (fails_as d (listed [] (elements n f next (drop next bytes))) verdict (λ k. refl) g)

pub bytes_checked : (n d : ℕ) (e : Endian) (t : WireType) (at : ℕ) (bytes : List ℕ) → (d ≡ 0 → ⊥) → t ≡ W.Byte → length bytes ≤ n → verdict (elements n (reads d e t) at bytes) ≡ Ok tt
bytes_checked n d e t at bytes some is le = ap verdict (bytes_read n d e t at bytes some is le)

module _ (r : WireType → ℕ → List ℕ → Read Value) (e : Endian) (t : WireType) (at : ℕ) (rest : List ℕ) (start : ℕ × List ℕ) (n : ℕ × ℕ × List ℕ) (from : ℕ × List ℕ) (body : List ℕ × ℕ × List ℕ)
    (a : padded 4 at rest ≡ Ok start) (b : number_at e w32 start.0 start.1 ≡ Ok n) (c : ltb 67_108_864 n.0 ≡ false) (d : padded (alignment t) n.1 n.2 ≡ Ok from) (f : taken n.0 from.0 from.1 ≡ Ok body) where
  abbrev items : Result (List Value) ReadError
  items = elements (length body.0) (r t) from.0 body.0

  pub array_past : verdict (elements (length body.0) (r t) from.0 body.0) ≡ Ok tt → past (layer r e (WireType-F.Array t) at rest) ≡ Ok (body.1, body.2)
  array_past is = let q = all_read items is in ap past (array_is r e t at rest start n from body a b c d f) ∙ rw q.1 refl

  pub array_past_fails : (k : ReadError) → Fails k (verdict (elements (length body.0) (r t) from.0 body.0)) → Fails (array_error k) (past (layer r e (WireType-F.Array t) at rest))
  array_past_fails k h =
      let whole = array_is r e t at rest start n from body a b c d f in
      fails_as (array_error k) (layer r e (WireType-F.Array t) at rest) past (λ j. refl) (subst (λ (q : Read Value). Fails (array_error k) q) (sym whole) (array_fails k items _ (fails_all k items h)))

pub struct_past : (r : WireType → ℕ → List ℕ → Read Value) (e : Endian) (ts : List WireType) (at : ℕ) (bytes : List ℕ) (start : ℕ × List ℕ) → (ts ≡ [] → ⊥) → padded 8 at bytes ≡ Ok start
    → past (layer r e (WireType-F.Struct ts) at bytes) ≡ past (members r ts start.0 start.1)
unfolding layer
struct_past r e [] at bytes start some is = absurd (some refl)
struct_past r e (t ∷ ts) at bytes start some is = rw is (made (members r (t ∷ ts) start.0 start.1) (λ (vs : List Value). V.Struct vs))

pub entry_past : (r : WireType → ℕ → List ℕ → Read Value) (e : Endian) (t u : WireType) (at : ℕ) (bytes : List ℕ) (start k : ℕ × List ℕ) → padded 8 at bytes ≡ Ok start → past (r t start.0 start.1) ≡ Ok k
    → past (layer r e (WireType-F.DictEntry t u) at bytes) ≡ past (r u k.0 k.1)
unfolding layer
entry_past r e t u at bytes start k is key = let x = read_there (r t start.0 start.1) k key in rw (is, x.1) (made (r u k.0 k.1) (λ (v : Value). V.DictEntry x.0 v))

pub entry_past_fails : (r : WireType → ℕ → List ℕ → Read Value) (e : Endian) (t u : WireType) (at : ℕ) (bytes : List ℕ) (start : ℕ × List ℕ) (d : ReadError) → padded 8 at bytes ≡ Ok start → Fails d (past (r t start.0 start.1))
    → Fails d (past (layer r e (WireType-F.DictEntry t u) at bytes))
unfolding layer
entry_past_fails r e t u at bytes start d is h = rw is (fails_as d (r t start.0 start.1) (λ q. past (q >>= λ k. r u k.1 k.2 >>= λ x. Ok (V.DictEntry k.0 x.0, x.1, x.2))) (λ k. refl) (fails_there d (r t start.0 start.1) h))

pub variant_past : (n : ℕ) (e : Endian) (t : WireType) (at : ℕ) (bytes : List ℕ) → (n ≡ 0 → ⊥) → t ≡ W.Variant → past (reads n e t at bytes) ≡ past (inside_at (reads (n - 1) e) at bytes)
variant_past n e t at bytes some is = ap (λ (k : WireType). past (reads n e k at bytes)) is ∙ (ap past (variant_read n e at bytes some) ∙ made (inside_at (reads (n - 1) e) at bytes) (λ (v : Value). V.Variant v))
