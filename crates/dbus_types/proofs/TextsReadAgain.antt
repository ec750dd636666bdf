-- The text of a type is read again, whatever follows.
use Rattle.std.proofs.Common.{◌≡◌, ℕ, zero, suc, ◌+◌, ◌-◌, ◌<◌, ◌≤◌, false, cond, List, [], ◌∷◌, ◌++◌, length, Ok, Err, refl, sym, ap, subst, ◌∙◌, append_assoc, arith, inl, inr}
use Rattle.std.specs.Prelude.{All, ◌==◌}
use Rattle.std.proofs.lemmas.Bool.{cases_Bool, eqb-true}
use Rattle.std.proofs.lemmas.List.{length-append}
use Rattle.std.proofs.lemmas.List.Elements.{All-head, All-tail}
use Rattle.dbus_types.specs.declared.types.WireType.{WireType}
use Rattle.dbus_types.specs.declared.types.WireType.TheVariants as W
use Rattle.dbus_types.specs.declared.roles.Role.TheVariants.{Basic}
use Rattle.dbus_types.specs.declared.errors.SignatureError.TheVariants.{TooDeep}
use Rattle.dbus_types.specs.Types.{role, type_text, types_text, Fits}
use Rattle.dbus_types.specs.Reading.{◌>>=◌, Read, code_at, key_at, closed, more_at, members_at, element_at, one_at, level_at, type_at, list_at}
use Rattle.dbus_types.proofs.TypeLayers.{text_array, text_struct, text_entry}
use Rattle.dbus_types.proofs.Codes.{Code, shape}
use Rattle.dbus_types.proofs.TypesWithinLimits.{ElementFits, fits_array, fits_struct, no_entry, element_entry, basic_code, element_fits, code_complete, array_complete, struct_complete, not_basic}

abbrev pub ok : {A : Type 0} → A → ℕ → List ℕ → Read A
ok v next rest = Ok (v, next, rest)

pub not_zero : (n : ℕ) → 0 < n → (n == 0) ≡ false
not_zero n h = elim (cases_Bool (n == 0)) [ inl e ↦ absurd (omega (arith, h, eqb-true n 0 e)) | inr e ↦ e ]

-- ---- induction over the two limits

pub by_limits : (P : ℕ → ℕ → Type 0) → ((a b : ℕ) → ((c : ℕ) → 0 < a → P (a - 1) c) → (0 < b → P a (b - 1)) → P a b) → (a b : ℕ) → P a b
by_limits P step = outer
  where
    inner : (a : ℕ) → ((c : ℕ) → 0 < a → P (a - 1) c) → (b : ℕ) → P a b
    inner a h zero = step a zero h (λ lt. absurd (omega (arith, lt)))
    inner a h (suc b) = step a (suc b) h (λ lt. subst (P a) (let e : b ≡ suc b - 1 = omega arith in e) (inner a h b))

    outer : (a b : ℕ) → P a b
    outer zero b = inner zero (λ c lt. absurd (omega (arith, lt))) b
    outer (suc a) b = inner (suc a) (λ c lt. subst (λ (k : ℕ). P k c) (let e : a ≡ suc a - 1 = omega arith in e) (outer a c)) b

-- ---- a type, by its first byte

abbrev pub cell : ℕ → ℕ → ℕ → ℕ → List ℕ → Read WireType
cell a b at c rest = cond (c == 97) (cond (a == 0) (Err (TooDeep at)) (element_at (type_at (a - 1)) b (at + 1) rest >>= λ t. Ok (W.Array t.0, t.1, t.2)))
    (cond (c == 40) (cond (b == 0) (Err (TooDeep at)) (members_at (type_at a (b - 1)) (at + 1) rest >>= λ ts. Ok (W.Struct ts.0, ts.1, ts.2)))
    (code_at at (c ∷ rest)))

pub type_cell : (a b at c : ℕ) (rest : List ℕ) → type_at a b at (c ∷ rest) ≡ cell a b at c rest
unfolding type_at level_at one_at
type_cell zero zero at c rest = refl
type_cell zero (suc b) at c rest = let e : suc b - 1 ≡ b = omega arith in rw e refl
type_cell (suc a) zero at c rest = let e : suc a - 1 ≡ a = omega arith in rw e refl
type_cell (suc a) (suc b) at c rest = let e : suc a - 1 ≡ a = omega arith in let d : suc b - 1 ≡ b = omega arith in rw (e, d) refl

-- ---- what a type begins with

abbrev pub Starts : List ℕ → Type 0
Starts text = (c : ℕ) × (more : List ℕ) × (text ≡ c ∷ more) × ((c == 41) ≡ false) × ((c == 123) ≡ false)

pub starts : (a b : ℕ) (t : WireType) → Fits a b t → Starts (type_text t)
starts a b t h = elim (shape t) [
  | inl k ↦ (k.0, [], k.1.text, k.1.no_close, k.1.no_entry)
  | inr x ↦ elim x [
    | inl u ↦ (97, type_text u.0, ap type_text u.1 ∙ text_array u.0, refl, refl)
    | inr y ↦ elim y [
      | inl us ↦ (40, types_text us.0 ++ 41 ∷ [], ap type_text us.1 ∙ text_struct us.0, refl, refl)
      | inr e ↦ absurd (no_entry a b e.0 e.1 (subst (Fits a b) e.2 h))
    ]
  ]
]

-- ---- reading again

pub code_again : (t : WireType) (c at : ℕ) (rest : List ℕ) → Code t c → code_at at (type_text t ++ rest) ≡ ok t (at + length (type_text t)) rest
unfolding code_at
code_again t c at rest k = rw (k.text, k.read at) refl

pub key_again : (t : WireType) (at : ℕ) (rest : List ℕ) → role t ≡ Basic → (c : ℕ) → Code t c → key_at at (type_text t ++ rest) ≡ ok t (at + length (type_text t)) rest
unfolding key_at
key_again t at rest e c k = ap (λ (w : List ℕ). key_at at (w ++ rest)) k.text ∙ (rw (basic_code c t k e) (ap (λ (w : List ℕ). code_at at (w ++ rest)) (sym k.text) ∙ code_again t c at rest k))

module _ (r : ℕ → List ℕ → Read WireType) (F : WireType → Type 0)
    (first : (t : WireType) → F t → Starts (type_text t))
    (again : (t : WireType) (at : ℕ) (rest : List ℕ) → F t → r at (type_text t ++ rest) ≡ ok t (at + length (type_text t)) rest) where
  pub more_again : (ts : List WireType) (n at : ℕ) (rest : List ℕ) → length (types_text ts) < n → All F ts → more_at n r at (types_text ts ++ 41 ∷ rest) ≡ ok ts (at + length (types_text ts) + 1) rest
  unfolding more_at
  more_again ts zero at rest lt h = absurd (omega (arith, lt))
  more_again [] (suc n) at rest lt h = ap (λ (k : ℕ). ok [] k rest) (omega arith)
  more_again (t ∷ ts) (suc n) at rest lt h =
      let f = All-head F t ts h in
      let s = first t f in
      let tail : List ℕ = types_text ts ++ 41 ∷ rest in
      let whole : (type_text t ++ types_text ts) ++ 41 ∷ rest ≡ s.0 ∷ (s.1 ++ tail) = append_assoc (type_text t) (types_text ts) (41 ∷ rest) ∙ ap (λ (w : List ℕ). w ++ tail) s.2 in
      let one : r at (s.0 ∷ (s.1 ++ tail)) ≡ ok t (at + length (type_text t)) tail = ap (λ (w : List ℕ). r at (w ++ tail)) (sym s.2) ∙ again t at tail f in
      let less : length (types_text ts) < n = omega (arith, lt, length-append (type_text t) (types_text ts), ap length s.2) in
      ap (more_at (suc n) r at) whole ∙ rw (s.3, one, more_again ts n (at + length (type_text t)) rest less (All-tail F t ts h)) (ap (λ (k : ℕ). ok (t ∷ ts) k rest) (omega (arith, length-append (type_text t) (types_text ts))))

  pub members_again : (ts : List WireType) (at : ℕ) (rest : List ℕ) → 0 < length ts → All F ts → members_at r at (types_text ts ++ 41 ∷ rest) ≡ ok ts (at + length (types_text ts) + 1) rest
  unfolding members_at
  members_again [] at rest lt h = absurd (omega (arith, lt))
  members_again (t ∷ ts) at rest lt h =
      let tail : List ℕ = types_text ts ++ 41 ∷ rest in
      let one : r at ((type_text t ++ types_text ts) ++ 41 ∷ rest) ≡ ok t (at + length (type_text t)) tail = ap (r at) (append_assoc (type_text t) (types_text ts) (41 ∷ rest)) ∙ again t at tail (All-head F t ts h) in
      rw (one, more_again ts (length tail) (at + length (type_text t)) rest (omega (arith, length-append (types_text ts) (41 ∷ rest))) (All-tail F t ts h))
      (ap (λ (k : ℕ). ok (t ∷ ts) k rest) (omega (arith, length-append (type_text t) (types_text ts))))

  pub list_again : (ts : List WireType) (n at : ℕ) → length (types_text ts) ≤ n → All F ts → list_at n r at (types_text ts) ≡ Ok ts
  unfolding list_at
  list_again [] zero at le h = refl
  list_again [] (suc n) at le h = refl
  list_again (t ∷ ts) zero at le h = let s = first t (All-head F t ts h) in absurd (omega (arith, le, length-append (type_text t) (types_text ts), ap length s.2))
  list_again (t ∷ ts) (suc n) at le h =
      let f = All-head F t ts h in
      let s = first t f in
      let one : r at (s.0 ∷ (s.1 ++ types_text ts)) ≡ ok t (at + length (type_text t)) (types_text ts) = ap (λ (w : List ℕ). r at (w ++ types_text ts)) (sym s.2) ∙ again t at (types_text ts) f in
      ap (λ (w : List ℕ). list_at (suc n) r at (w ++ types_text ts)) s.2 ∙ rw (one, list_again ts n (at + length (type_text t)) (omega (arith, le, length-append (type_text t) (types_text ts), ap length s.2)) (All-tail F t ts h)) refl

abbrev pub Again : ℕ → ℕ → Type 0
Again a b = (t : WireType) (at : ℕ) (rest : List ℕ) → Fits a b t → type_at a b at (type_text t ++ rest) ≡ ok t (at + length (type_text t)) rest

module _ (a b : ℕ) (again : (c : ℕ) → Again a c) where
  -- an element that is no dict entry
  plain_again : (t : WireType) (at : ℕ) (rest : List ℕ) → Fits a b t → element_at (type_at a) b at (type_text t ++ rest) ≡ ok t (at + length (type_text t)) rest
  unfolding element_at
  plain_again t at rest h =
      let s = starts a b t h in
      let one : type_at a b at (s.0 ∷ (s.1 ++ rest)) ≡ ok t (at + length (type_text t)) rest = ap (λ (w : List ℕ). type_at a b at (w ++ rest)) (sym s.2) ∙ again b t at rest h in
      ap (λ (w : List ℕ). element_at (type_at a) b at (w ++ rest)) s.2 ∙ rw (s.4, one) refl

  entry_again : (k v : WireType) (at : ℕ) (rest : List ℕ) → ElementFits a b (W.DictEntry k v) → element_at (type_at a) b at (type_text (W.DictEntry k v) ++ rest) ≡ ok (W.DictEntry k v) (at + length (type_text (W.DictEntry k v))) rest
  unfolding element_at closed
  entry_again k v at rest h =
      let e = element_entry a b k v h in
      let key : List ℕ = type_text k in
      let value : List ℕ = type_text v in
      let regrouped : type_text (W.DictEntry k v) ++ rest ≡ 123 ∷ (key ++ (value ++ 125 ∷ rest)) = ap (λ (w : List ℕ). w ++ rest) (text_entry k v) ∙ ap (λ (w : List ℕ). 123 ∷ w) (append_assoc key (value ++ 125 ∷ []) rest ∙ ap (λ (w : List ℕ). key ++ w) (append_assoc value (125 ∷ []) rest)) in
      let one = basic_again k (at + 1) (value ++ 125 ∷ rest) e.1 in
      let two = again (b - 1) v (at + 1 + length key) (125 ∷ rest) e.2 in
      ap (element_at (type_at a) b at) regrouped ∙ rw (not_zero b e.0, one, two)
      (ap (λ (n : ℕ). ok (W.DictEntry k v) n rest) (omega (arith, ap length (text_entry k v), length-append key (value ++ 125 ∷ []), length-append value (125 ∷ []))))
    where
      basic_again : (k : WireType) (at : ℕ) (rest : List ℕ) → role k ≡ Basic → key_at at (type_text k ++ rest) ≡ ok k (at + length (type_text k)) rest
      basic_again k at rest e = elim (shape k) [
        | inl c ↦ key_again k at rest e c.0 c.1
        | inr x ↦ absurd (not_basic k e x)
      ]

  pub element_again : (t : WireType) (at : ℕ) (rest : List ℕ) → ElementFits a b t → element_at (type_at a) b at (type_text t ++ rest) ≡ ok t (at + length (type_text t)) rest
  element_again t at rest h = elim (shape t) [
    | inl c ↦ plain_again t at rest (element_fits a b t h (code_complete t c.0 c.1))
    | inr x ↦ elim x [
      | inl u ↦ plain_again t at rest (element_fits a b t h (array_complete t u.0 u.1 h.0))
      | inr y ↦ elim y [
        | inl us ↦ plain_again t at rest (element_fits a b t h (struct_complete t us.0 us.1 h.0))
        | inr e ↦ subst (λ (u : WireType). element_at (type_at a) b at (type_text u ++ rest) ≡ ok u (at + length (type_text u)) rest) (sym e.2) (entry_again e.0 e.1 at rest (subst (ElementFits a b) e.2 h))
      ]
    ]
  ]

-- a type within limits, where those inside it are read again
one_again : (a b : ℕ) → ((c : ℕ) → 0 < a → Again (a - 1) c) → (0 < b → Again a (b - 1)) → Again a b
one_again a b inside members t at rest h = elim (shape t) [
  | inl k ↦ code_case k.0 k.1
  | inr x ↦ elim x [
    | inl u ↦ subst (λ (v : WireType). type_at a b at (type_text v ++ rest) ≡ ok v (at + length (type_text v)) rest) (sym u.1) (array_case u.0 (subst (Fits a b) u.1 h))
    | inr y ↦ elim y [
      | inl us ↦ subst (λ (v : WireType). type_at a b at (type_text v ++ rest) ≡ ok v (at + length (type_text v)) rest) (sym us.1) (struct_case us.0 (subst (Fits a b) us.1 h))
      | inr e ↦ absurd (no_entry a b e.0 e.1 (subst (Fits a b) e.2 h))
    ]
  ]
]
  where
    code_case : (c : ℕ) → Code t c → type_at a b at (type_text t ++ rest) ≡ ok t (at + length (type_text t)) rest
    code_case c k = ap (λ (w : List ℕ). type_at a b at (w ++ rest)) k.text ∙ (type_cell a b at c rest ∙ (rw (k.no_array, k.no_struct) (ap (λ (w : List ℕ). code_at at (w ++ rest)) (sym k.text) ∙ code_again t c at rest k)))

    array_case : (u : WireType) → Fits a b (W.Array u) → type_at a b at (type_text (W.Array u) ++ rest) ≡ ok (W.Array u) (at + length (type_text (W.Array u))) rest
    array_case u f =
        let e = fits_array a b u f in
        let one = element_again (a - 1) b (λ c. inside c e.0) u (at + 1) rest e.1 in
        ap (λ (w : List ℕ). type_at a b at (w ++ rest)) (text_array u) ∙ (type_cell a b at 97 (type_text u ++ rest) ∙ rw (not_zero a e.0, one) (ap (λ (n : ℕ). ok (W.Array u) n rest) (omega (arith, ap length (text_array u)))))

    struct_case : (us : List WireType) → Fits a b (W.Struct us) → type_at a b at (type_text (W.Struct us) ++ rest) ≡ ok (W.Struct us) (at + length (type_text (W.Struct us))) rest
    struct_case us f =
        let e = fits_struct a b us f in
        let inner : List ℕ = types_text us in
        let one = members_again (type_at a (b - 1)) (Fits a (b - 1)) (starts a (b - 1)) (members e.0) us (at + 1) rest e.1 e.2 in
        let regrouped : type_text (W.Struct us) ++ rest ≡ 40 ∷ (inner ++ 41 ∷ rest) = ap (λ (w : List ℕ). w ++ rest) (text_struct us) ∙ ap (λ (w : List ℕ). 40 ∷ w) (append_assoc inner (41 ∷ []) rest) in
        ap (type_at a b at) regrouped ∙ (type_cell a b at 40 (inner ++ 41 ∷ rest) ∙ rw (not_zero b e.0, one) (ap (λ (n : ℕ). ok (W.Struct us) n rest) (omega (arith, ap length (text_struct us), length-append inner (41 ∷ [])))))

pub type_again : (a b : ℕ) → Again a b
type_again = by_limits Again one_again
