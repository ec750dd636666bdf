-- Header fields of which those are kept whose codes are at most so high.
use Rattle.std.proofs.Common.{◌≡◌, ℕ, ◌<◌, ◌≤◌, Bool, true, false, List, [], ◌∷◌, ◌++◌, length, drop, Option, Some, None, Result, Ok, Err, refl, sym, ap, subst, ◌∙◌, append_assoc, append-nil}
use Rattle.std.specs.Prelude.{filter, nat_le, if◌then◌else◌}
use Rattle.std.proofs.lemmas.Bool.{le-leb, lt-leb}
use Rattle.std.proofs.lemmas.List.Elements.{filter-append}
use Rattle.dbus_types.specs.declared.types.Endian.{Endian}
use Rattle.dbus_types.specs.declared.types.Value.{Value, out-Value, the_lemmas}
use Rattle.dbus_types.specs.declared.types.Value.TheOpen.{Value-F}
use Rattle.dbus_types.specs.declared.types.Value.TheVariants as V
use Rattle.dbus_basic.specs.declared.error.ReadError.{ReadError}
use Rattle.dbus_basic.specs.declared.error.ReadError.TheVariants.{Short, Padding, BadBool, BadText, TooLong, BadSignature, TooDeep, BadArray, Memory}
use Rattle.dbus_basic.specs.Reading.{◌>>=◌, Fails, Read, after, past}
use Rattle.dbus_basic.specs.Fields.{padded, byte_at}
use Rattle.dbus_marshal.specs.Reads.{reads, listed, elements, inside_at, field_at, field_code, has_code_to, kept, sifted}
use Rattle.dbus_marshal.proofs.SpelledIsRead.{ok_is}
use Rattle.dbus_marshal.proofs.StepBreaks.{err_is}
use Rattle.dbus_marshal.proofs.Loops.{fails_as, elements_step, elements_end, elements_fails}
use Rattle.dbus_marshal.proofs.Verdicts.{read_there, fails_there}

out_members : (vs : List Value) → out-Value (V.Struct vs) ≡ Value-F.Struct vs
out_members vs = search the_lemmas

out_code : (n : ℕ) → out-Value (V.Byte n) ≡ Value-F.Byte n
out_code n = search the_lemmas

abbrev field : ℕ → Value → Value
field n v = V.Struct (V.Byte n ∷ V.Variant v ∷ [])

code_is : (n : ℕ) (v : Value) → field_code (field n v) ≡ n
code_is n v = simp (out_members, out_code)

reaches : (highest n : ℕ) (v : Value) → n ≤ highest → has_code_to highest (field n v) ≡ true
reaches highest n v le = ap (λ (k : ℕ). nat_le k highest) (code_is n v) ∙ le-leb n highest le

passes : (highest n : ℕ) (v : Value) → highest < n → has_code_to highest (field n v) ≡ false
passes highest n v lt = ap (λ (k : ℕ). nat_le k highest) (code_is n v) ∙ lt-leb n highest lt

abbrev chosen : Bool → Value → Option Value
chosen b v = if b then Some v else None

module _ (highest : ℕ) (e : Endian) (at : ℕ) (bytes : List ℕ) (start : ℕ × List ℕ) (code : ℕ × ℕ × List ℕ) (a : padded 8 at bytes ≡ Ok start) (b : byte_at start.0 start.1 ≡ Ok code) where
  field_read : (x : Value × ℕ × List ℕ) → inside_at (reads 62 e) code.1 code.2 ≡ Ok x → field_at e at bytes ≡ Ok (field code.0 x.0, x.1, x.2)
  unfolding field_at
  field_read x c = rw (a, b, c) refl

  pub field_kept : (x : Value × ℕ × List ℕ) → inside_at (reads 62 e) code.1 code.2 ≡ Ok x → code.0 ≤ highest → kept highest (field_at e at bytes) ≡ Ok (Some (field code.0 x.0), x.1, x.2)
  field_kept x c le = ap (kept highest) (field_read x c) ∙ ap (λ (q : Bool). Ok (chosen q (field code.0 x.0), x.1, x.2)) (reaches highest code.0 x.0 le)

  pub field_left : (p : ℕ × List ℕ) → past (inside_at (reads 62 e) code.1 code.2) ≡ Ok p → highest < code.0 → kept highest (field_at e at bytes) ≡ Ok (None, p.0, p.1)
  field_left p c lt =
      let x = read_there (inside_at (reads 62 e) code.1 code.2) p c in
      ap (kept highest) (field_read (x.0, p.0, p.1) x.1) ∙ ap (λ (q : Bool). Ok (chosen q (field code.0 x.0), p.0, p.1)) (passes highest code.0 x.0 lt)

  pub field_fails : (d : ReadError) → Fails d (inside_at (reads 62 e) code.1 code.2) → Fails d (kept highest (field_at e at bytes))
  unfolding field_at
  field_fails d h = rw (a, b) (fails_as d (inside_at (reads 62 e) code.1 code.2) (λ q. kept highest (q >>= λ x. Ok (field code.0 x.0, x.1, x.2))) (λ k. refl) h)

  pub field_left_fails : (d : ReadError) → Fails d (past (inside_at (reads 62 e) code.1 code.2)) → Fails d (kept highest (field_at e at bytes))
  field_left_fails d h = field_fails d (fails_there d (inside_at (reads 62 e) code.1 code.2) h)

-- what was read, where what is kept of it is known
kept_there : (highest : ℕ) (r : Read Value) (x : Option Value × ℕ × List ℕ) → kept highest r ≡ Ok x → (v : Value) × (r ≡ Ok (v, x.1, x.2)) × (x.0 ≡ chosen (has_code_to highest v) v)
kept_there highest (Ok y) x is =
    let same = ok_is (chosen (has_code_to highest y.0) y.0, y.1, y.2) x is in
    (y.0, ap (λ (p : Option Value × ℕ × List ℕ). Ok (y.0, p.1, p.2)) same, sym (ap (λ (p : Option Value × ℕ × List ℕ). p.0) same))
kept_there highest (Err d) x is = absurd cc

kept_err : (highest : ℕ) (r : Read Value) (d : ReadError) → kept highest r ≡ Err d → r ≡ Err d
kept_err highest (Ok x) d is = absurd cc
kept_err highest (Err k) d is = ap (λ (e : ReadError). Err e) (err_is {A = Option Value × ℕ × List ℕ} k d is)

fails_kept : (highest : ℕ) (d : ReadError) (r : Read Value) → Fails d (kept highest r) → Fails d r
fails_kept highest Memory r h = tt
fails_kept highest (Short at) r h = kept_err highest r (Short at) h
fails_kept highest (Padding at) r h = kept_err highest r (Padding at) h
fails_kept highest (BadBool at) r h = kept_err highest r (BadBool at) h
fails_kept highest (BadText at) r h = kept_err highest r (BadText at) h
fails_kept highest (TooLong at) r h = kept_err highest r (TooLong at) h
fails_kept highest (BadSignature at) r h = kept_err highest r (BadSignature at) h
fails_kept highest (TooDeep at) r h = kept_err highest r (TooDeep at) h
fails_kept highest (BadArray at) r h = kept_err highest r (BadArray at) h

listed_none : (x : Result (List Value) ReadError) → listed [] x ≡ x
listed_none (Ok vs) = refl
listed_none (Err d) = refl

listed_more : (vs ws : List Value) (x : Result (List Value) ReadError) → listed vs (listed ws x) ≡ listed (vs ++ ws) x
listed_more vs ws (Ok x) = ap (λ (l : List Value). Ok l) (sym (append_assoc vs ws x))
listed_more vs ws (Err d) = refl

sifted_listed : (highest : ℕ) (vs : List Value) (x : Result (List Value) ReadError) → sifted highest (listed vs x) ≡ listed (filter (has_code_to highest) vs) (sifted highest x)
sifted_listed highest vs (Ok x) = ap (λ (l : List Value). Ok l) (filter-append (has_code_to highest) vs x)
sifted_listed highest vs (Err d) = refl

-- what is kept, as a list
abbrev pub as_list : Option Value → List Value
as_list (Some v) = v ∷ []
as_list None = []

sieve_one : (highest : ℕ) (v : Value) → filter (has_code_to highest) (v ∷ []) ≡ as_list (chosen (has_code_to highest v) v)
sieve_one highest v = go (has_code_to highest v) refl
  where
    go : (b : Bool) → has_code_to highest v ≡ b → filter (has_code_to highest) (v ∷ []) ≡ as_list (chosen (has_code_to highest v) v)
    go true is = rw is refl
    go false is = rw is refl

nothing_kept : (o : Option Value) → ((v : Value) → o ≡ Some v → ⊥) → as_list o ≡ []
nothing_kept (Some v) none = absurd (none v refl)
nothing_kept None none = refl

module _ (highest : ℕ) (f : ℕ → List ℕ → Read Value) (bytes : List ℕ) (fs : List Value) (next : ℕ) where
  pub sieve_step : (n : ℕ) (o : Option Value) (end : ℕ) → next < length bytes → next < end → kept highest (f next (drop next bytes)) ≡ Ok (after bytes (o, end)) → length (drop next bytes) ≤ n
      → (m : ℕ) × (length (drop end bytes) ≤ m) × (listed fs (sifted highest (elements n f next (drop next bytes))) ≡ listed (fs ++ as_list o) (sifted highest (elements m f end (drop end bytes))))
  sieve_step n o end lt on is le =
      let k = kept_there highest (f next (drop next bytes)) (after bytes (o, end)) is in
      let s = elements_step f bytes [] next n k.0 end lt on k.1 le in
      let more : Result (List Value) ReadError = elements s.0 f end (drop end bytes) in
      let step = sym (listed_none (elements n f next (drop next bytes))) ∙ s.2 in
      let one : filter (has_code_to highest) (k.0 ∷ []) ≡ as_list o = sieve_one highest k.0 ∙ ap as_list (sym k.2) in (
        s.0,
        s.1,
        ap (λ (q : Result (List Value) ReadError). listed fs (sifted highest q)) step
            ∙ (ap (λ (q : Result (List Value) ReadError). listed fs q) (sifted_listed highest (k.0 ∷ []) more)
            ∙ (listed_more fs (filter (has_code_to highest) (k.0 ∷ [])) (sifted highest more)
            ∙ ap (λ (l : List Value). listed (fs ++ l) (sifted highest more)) one)),
      )

  pub sieve_skip : (n : ℕ) (o : Option Value) (end : ℕ) → ((v : Value) → o ≡ Some v → ⊥) → next < length bytes → next < end → kept highest (f next (drop next bytes)) ≡ Ok (after bytes (o, end)) → length (drop next bytes) ≤ n
      → (m : ℕ) × (length (drop end bytes) ≤ m) × (listed fs (sifted highest (elements n f next (drop next bytes))) ≡ listed fs (sifted highest (elements m f end (drop end bytes))))
  sieve_skip n o end none lt on is le =
      let s = sieve_step n o end lt on is le in
      let same : fs ++ as_list o ≡ fs = ap (λ (l : List Value). fs ++ l) (nothing_kept o none) ∙ append-nil fs in
      (s.0, s.1, s.2 ∙ ap (λ (l : List Value). listed l (sifted highest (elements s.0 f end (drop end bytes)))) same)

  pub sieve_end : (n : ℕ) → length bytes ≤ next → listed fs (sifted highest (elements n f next (drop next bytes))) ≡ Ok fs
  sieve_end n le =
      let none = sym (listed_none (elements n f next (drop next bytes))) ∙ elements_end f bytes [] next n le in
      ap (λ (q : Result (List Value) ReadError). listed fs (sifted highest q)) none ∙ ap (λ (l : List Value). Ok l) (append-nil fs)

  pub sieve_fails : (n : ℕ) (d : ReadError) → next < length bytes → length (drop next bytes) ≤ n → Fails d (kept highest (f next (drop next bytes))) → Fails d (listed fs (sifted highest (elements n f next (drop next bytes))))
  sieve_fails n d lt le h =
      let g = elements_fails f bytes [] next n d lt le (fails_kept highest d (f next (drop next bytes)) h) in
      let all : Fails d (elements n f next (drop next bytes)) = subst (λ (q : Result (List Value) ReadError). Fails d q) (listed_none (elements n f next (drop next bytes))) g in
      fails_as d (elements n f next (drop next bytes)) (λ q. listed fs (sifted highest q)) (λ k. refl) all
