-- Reading at a place of a text, one step at a time.
use Rattle.std.proofs.Common.{◌≡◌, ℕ, zero, suc, ◌+◌, ◌-◌, ◌<◌, ◌≤◌, true, false, cond, List, [], ◌∷◌, ◌++◌, length, get_or, drop, Result, Ok, Err, refl, sym, ap, subst, ◌∙◌, append_assoc, append-nil, drop-cons, add-one, arith, inl, inr}
use Rattle.std.specs.Prelude.{◌==◌}
use Rattle.std.proofs.Math.ListN.{drop_of_length-le}
use Rattle.std.proofs.lemmas.Bool.{cases_Bool, eqb-true, eqb-false}
use Rattle.std.proofs.lemmas.List.{length-drop}
use Rattle.dbus_types.specs.declared.types.WireType.{WireType}
use Rattle.dbus_types.specs.declared.types.WireType.TheVariants as W
use Rattle.dbus_types.specs.declared.errors.SignatureError.{SignatureError}
use Rattle.dbus_types.specs.declared.errors.SignatureError.TheVariants.{BadSignature, TooDeep, Memory}
use Rattle.dbus_types.specs.Reading.{◌>>=◌, Fails, Gives, Tells, Read, after, place, coded, code_at, key_at, closed, with_type, more_at, members_at, element_at, one_at, level_at, type_at, with_first, list_at}

pub not_same : (a b : ℕ) → (a ≡ b → ⊥) → (a == b) ≡ false
not_same a b h = elim (cases_Bool (a == b)) [ inl e ↦ absurd (h (eqb-true a b e)) | inr e ↦ e ]

pub same_as : (a b : ℕ) → a ≡ b → (a == b) ≡ true
same_as a b e = elim (cases_Bool (a == b)) [ inl y ↦ y | inr n ↦ absurd (eqb-false a b n e) ]

pub fails_as : {A B : Type 0} (e : SignatureError) (r : Result A SignatureError) (f : Result A SignatureError → Result B SignatureError) → ((d : SignatureError) → f (Err d) ≡ Err d) → Fails e r → Fails e (f r)
fails_as Memory r f keeps h = tt
fails_as (BadSignature at) r f keeps h = rw h (keeps (BadSignature at))
fails_as (TooDeep at) r f keeps h = rw h (keeps (TooDeep at))

pub fails_when : {X : Type 0} (e : SignatureError) (r : Result X SignatureError) → r ≡ Err e → Fails e r
fails_when Memory r h = tt
fails_when (BadSignature at) r h = h
fails_when (TooDeep at) r h = h

pub gives_when : {X Y : Type 0} (view : X → Y) (r : Result X SignatureError) (read : Result Y SignatureError) → Tells view r read → Gives view r read
gives_when view (Ok x) read h = h
gives_when view (Err e) read h = fails_when e read h

module _ (text : List ℕ) (at : ℕ) where
  at_end : length text ≤ at → drop at text ≡ []
  at_end le = drop_of_length-le text le

  at_byte : (b : ℕ) → at < length text → b ≡ get_or text at b → drop at text ≡ b ∷ drop (at + 1) text
  at_byte b lt e = rw (drop-cons text at b lt, ← e, add-one) refl

  pub code_none : length text ≤ at → code_at at (drop at text) ≡ Err (BadSignature at)
  unfolding code_at
  code_none le = rw (at_end le) refl

  pub code_some : (b : ℕ) → at < length text → b ≡ get_or text at b → code_at at (drop at text) ≡ (coded at b >>= λ t. Ok (t, at + 1, drop (at + 1) text))
  unfolding code_at
  code_some b lt e = rw (at_byte b lt e) refl

  pub key_none : length text ≤ at → key_at at (drop at text) ≡ Err (BadSignature at)
  unfolding key_at
  key_none le = rw (at_end le) refl

  pub key_variant : at < length text → 118 ≡ get_or text at 118 → key_at at (drop at text) ≡ Err (BadSignature at)
  unfolding key_at
  key_variant lt e = rw (at_byte 118 lt e) refl

  pub key_other : (b : ℕ) → at < length text → b ≡ get_or text at b → (b ≡ 118 → ⊥) → key_at at (drop at text) ≡ code_at at (drop at text)
  unfolding key_at
  key_other b lt e x = rw (at_byte b lt e, not_same b 118 x) refl

  pub closed_none : (by : ℕ) → length text ≤ at → closed by at (drop at text) ≡ Err (BadSignature at)
  unfolding closed
  closed_none by le = rw (at_end le) refl

  pub closed_by : (by b : ℕ) → at < length text → b ≡ get_or text at b → b ≡ by → closed by at (drop at text) ≡ Ok (place text (at + 1))
  unfolding closed
  closed_by by b lt e same = rw (at_byte b lt e, same_as b by same) refl

  pub closed_not : (by b : ℕ) → at < length text → b ≡ get_or text at b → (b ≡ by → ⊥) → closed by at (drop at text) ≡ Err (BadSignature at)
  unfolding closed
  closed_not by b lt e other = rw (at_byte b lt e, not_same b by other) refl

module _ (text : List ℕ) (at : ℕ) (E : ℕ → ℕ → List ℕ → Read WireType) (M : ℕ → List ℕ → Read WireType) (a b : ℕ) where
  one_none : length text ≤ at → one_at E M a b at (drop at text) ≡ Err (BadSignature at)
  unfolding one_at
  one_none le = rw (at_end text at le) refl

  one_array_deep : at < length text → 97 ≡ get_or text at 97 → a ≡ 0 → one_at E M a b at (drop at text) ≡ Err (TooDeep at)
  unfolding one_at
  one_array_deep lt e z = rw (at_byte text at 97 lt e, z) refl

  one_array_on : at < length text → 97 ≡ get_or text at 97 → (a ≡ 0 → ⊥) → one_at E M a b at (drop at text) ≡ (element_at E b (at + 1) (drop (at + 1) text) >>= λ t. Ok (W.Array t.0, t.1, t.2))
  unfolding one_at
  one_array_on lt e z = rw (at_byte text at 97 lt e, not_same a 0 z) refl

  one_struct_deep : at < length text → 40 ≡ get_or text at 40 → b ≡ 0 → one_at E M a b at (drop at text) ≡ Err (TooDeep at)
  unfolding one_at
  one_struct_deep lt e z = rw (at_byte text at 40 lt e, z) refl

  one_struct_on : at < length text → 40 ≡ get_or text at 40 → (b ≡ 0 → ⊥) → one_at E M a b at (drop at text) ≡ (members_at M (at + 1) (drop (at + 1) text) >>= λ ts. Ok (W.Struct ts.0, ts.1, ts.2))
  unfolding one_at
  one_struct_on lt e z = rw (at_byte text at 40 lt e, not_same b 0 z) refl

  one_other : (c : ℕ) → at < length text → c ≡ get_or text at c → (c ≡ 97 → ⊥) → (c ≡ 40 → ⊥) → one_at E M a b at (drop at text) ≡ code_at at (drop at text)
  unfolding one_at
  one_other c lt e x y = rw (at_byte text at c lt e, not_same c 97 x, not_same c 40 y) refl

-- the readers of elements and of members within limits
abbrev pub element_reader : ℕ → ℕ → ℕ → List ℕ → Read WireType
element_reader zero = λ b. code_at
element_reader (suc a) = type_at a

abbrev pub member_reader : ℕ → ℕ → ℕ → List ℕ → Read WireType
member_reader a zero = code_at
member_reader a (suc b) = type_at a b

pub type_is : (a b at : ℕ) (text : List ℕ) → type_at a b at text ≡ one_at (element_reader a) (member_reader a b) a b at text
unfolding type_at level_at
type_is zero zero at text = refl
type_is zero (suc b) at text = refl
type_is (suc a) zero at text = refl
type_is (suc a) (suc b) at text = refl

element_more : (a : ℕ) → (a ≡ 0 → ⊥) → element_reader a ≡ type_at (a - 1)
element_more zero h = absurd (h refl)
element_more (suc a) h = let e : suc a - 1 ≡ a = omega arith in rw e refl

member_more : (a b : ℕ) → (b ≡ 0 → ⊥) → member_reader a b ≡ type_at a (b - 1)
member_more a zero h = absurd (h refl)
member_more a (suc b) h = let e : suc b - 1 ≡ b = omega arith in rw e refl

module _ (text : List ℕ) (at : ℕ) (a b : ℕ) where
  pub type_none : length text ≤ at → type_at a b at (drop at text) ≡ Err (BadSignature at)
  type_none le = type_is a b at (drop at text) ∙ one_none text at (element_reader a) (member_reader a b) a b le

  pub array_deep : at < length text → 97 ≡ get_or text at 97 → a ≡ 0 → type_at a b at (drop at text) ≡ Err (TooDeep at)
  array_deep lt e z = type_is a b at (drop at text) ∙ one_array_deep text at (element_reader a) (member_reader a b) a b lt e z

  pub array_on : at < length text → 97 ≡ get_or text at 97 → (a ≡ 0 → ⊥) → type_at a b at (drop at text) ≡ (element_at (type_at (a - 1)) b (at + 1) (drop (at + 1) text) >>= λ t. Ok (W.Array t.0, t.1, t.2))
  array_on lt e z = type_is a b at (drop at text) ∙ (one_array_on text at (element_reader a) (member_reader a b) a b lt e z ∙ ap (λ (r : ℕ → ℕ → List ℕ → Read WireType). element_at r b (at + 1) (drop (at + 1) text) >>= λ t. Ok (W.Array t.0, t.1, t.2)) (element_more a z))

  pub struct_deep : at < length text → 40 ≡ get_or text at 40 → b ≡ 0 → type_at a b at (drop at text) ≡ Err (TooDeep at)
  struct_deep lt e z = type_is a b at (drop at text) ∙ one_struct_deep text at (element_reader a) (member_reader a b) a b lt e z

  pub struct_on : at < length text → 40 ≡ get_or text at 40 → (b ≡ 0 → ⊥) → type_at a b at (drop at text) ≡ (members_at (type_at a (b - 1)) (at + 1) (drop (at + 1) text) >>= λ ts. Ok (W.Struct ts.0, ts.1, ts.2))
  struct_on lt e z = type_is a b at (drop at text) ∙ (one_struct_on text at (element_reader a) (member_reader a b) a b lt e z ∙ ap (λ (r : ℕ → List ℕ → Read WireType). members_at r (at + 1) (drop (at + 1) text) >>= λ ts. Ok (W.Struct ts.0, ts.1, ts.2)) (member_more a b z))

  pub type_other : (c : ℕ) → at < length text → c ≡ get_or text at c → (c ≡ 97 → ⊥) → (c ≡ 40 → ⊥) → type_at a b at (drop at text) ≡ code_at at (drop at text)
  type_other c lt e x y = type_is a b at (drop at text) ∙ one_other text at (element_reader a) (member_reader a b) a b c lt e x y

module _ (text : List ℕ) (at : ℕ) (r : ℕ → ℕ → List ℕ → Read WireType) (b : ℕ) where
  pub element_none : length text ≤ at → element_at r b at (drop at text) ≡ Err (BadSignature at)
  unfolding element_at
  element_none le = rw (at_end text at le) refl

  pub entry_deep : at < length text → 123 ≡ get_or text at 123 → b ≡ 0 → element_at r b at (drop at text) ≡ Err (TooDeep at)
  unfolding element_at
  entry_deep lt e z = rw (at_byte text at 123 lt e, z) refl

  pub entry_on : at < length text → 123 ≡ get_or text at 123 → (b ≡ 0 → ⊥) → element_at r b at (drop at text) ≡ (key_at (at + 1) (drop (at + 1) text) >>= λ k. r (b - 1) k.1 k.2 >>= λ v. closed 125 v.1 v.2 >>= λ end. Ok (W.DictEntry k.0 v.0, end.0, end.1))
  unfolding element_at
  entry_on lt e z = rw (at_byte text at 123 lt e, not_same b 0 z) refl

  pub element_other : (c : ℕ) → at < length text → c ≡ get_or text at c → (c ≡ 123 → ⊥) → element_at r b at (drop at text) ≡ r b at (drop at text)
  unfolding element_at
  element_other c lt e x = rw (at_byte text at c lt e, not_same c 123 x) refl

-- these types, and those that were read
abbrev pub onto : List WireType → Read (List WireType) → Read (List WireType)
onto ts (Ok x) = Ok (ts ++ x.0, x.1, x.2)
onto ts (Err e) = Err e

onto_again : (ts : List WireType) (t : WireType) (x : Read (List WireType)) → onto ts (with_type t x) ≡ onto (ts ++ t ∷ []) x
onto_again ts t (Ok x) = ap (λ (l : List WireType). Ok (l, x.1, x.2)) (sym (append_assoc ts (t ∷ []) x.0))
onto_again ts t (Err e) = refl

onto_one : (t : WireType) (x : Read (List WireType)) → with_type t x ≡ onto (t ∷ []) x
onto_one t (Ok x) = refl
onto_one t (Err e) = refl

module _ (f : ℕ → List ℕ → Read WireType) (text : List ℕ) (ts : List WireType) (next : ℕ) where
  more_cell : (n b : ℕ) (rest : List ℕ) → suc (length rest) ≤ n → more_at n f next (b ∷ rest) ≡ cond (b == 41) (Ok ([], next + 1, rest)) (f next (b ∷ rest) >>= λ t. with_type t.0 (more_at (n - 1) f t.1 t.2))
  unfolding more_at
  more_cell zero b rest le = absurd (omega (arith, le))
  more_cell (suc n) b rest le = let e : suc n - 1 ≡ n = omega arith in rw e refl

  pub more_close : (n : ℕ) → next < length text → get_or text next 0 ≡ 41 → length (drop next text) ≤ n → onto ts (more_at n f next (drop next text)) ≡ Ok (after text (ts, next + 1))
  more_close n lt is le =
      let one : suc next ≡ next + 1 = omega arith in
      let cell = drop-cons text next 0 lt ∙ ap (λ (k : ℕ). get_or text next 0 ∷ drop k text) one in
      let len : suc (length (drop (next + 1) text)) ≤ n = omega (arith, le, ap length cell) in
      ap (λ (w : List ℕ). onto ts (more_at n f next w)) cell ∙ (ap (onto ts) (more_cell n (get_or text next 0) (drop (next + 1) text) len) ∙ rw is (ap (λ (l : List WireType). Ok (l, next + 1, drop (next + 1) text)) (append-nil ts)))

  pub more_go : (n : ℕ) → next < length text → (get_or text next 0 ≡ 41 → ⊥) → length (drop next text) ≤ n → more_at n f next (drop next text) ≡ (f next (drop next text) >>= λ t. with_type t.0 (more_at (n - 1) f t.1 t.2))
  more_go n lt other le =
      let cell = drop-cons text next 0 lt in
      rw cell (more_cell n (get_or text next 0) (drop (suc next) text) (omega (arith, le, ap length cell)) ∙ rw (not_same (get_or text next 0) 41 other) refl)

  pub more_step : (n : ℕ) (t : WireType) (end : ℕ) → next < length text → next < end → (get_or text next 0 ≡ 41 → ⊥) → f next (drop next text) ≡ Ok (after text (t, end)) → length (drop next text) ≤ n
      → (m : ℕ) × (length (drop end text) ≤ m) × (onto ts (more_at n f next (drop next text)) ≡ onto (ts ++ t ∷ []) (more_at m f end (drop end text)))
  more_step n t end lt on other is le = (n - 1, omega (arith, le, length-drop next text, length-drop end text), rw (more_go n lt other le, is) (onto_again ts t (more_at (n - 1) f end (drop end text))))

  pub more_fails : (n : ℕ) (e : SignatureError) → next < length text → (get_or text next 0 ≡ 41 → ⊥) → length (drop next text) ≤ n → Fails e (f next (drop next text)) → Fails e (onto ts (more_at n f next (drop next text)))
  more_fails n e lt other le h = subst (λ (x : Read (List WireType)). Fails e (onto ts x)) (sym (more_go n lt other le))
      (fails_as e (f next (drop next text)) (λ x. onto ts (x >>= λ t. with_type t.0 (more_at (n - 1) f t.1 t.2))) (λ d. refl) h)

  no_more : (n : ℕ) → more_at n f next [] ≡ Err (BadSignature next)
  unfolding more_at
  no_more zero = refl
  no_more (suc n) = refl

  pub more_end : (n : ℕ) → length text ≤ next → onto ts (more_at n f next (drop next text)) ≡ Err (BadSignature next)
  more_end n le = rw (at_end text next le, no_more n) refl

module _ (f : ℕ → List ℕ → Read WireType) (text : List ℕ) (at : ℕ) where
  pub members_is : members_at f at (drop at text) ≡ (f at (drop at text) >>= λ t. with_type t.0 (more_at (length t.2) f t.1 t.2))
  unfolding members_at
  members_is = refl

  pub members_fail : (e : SignatureError) → Fails e (f at (drop at text)) → Fails e (members_at f at (drop at text))
  unfolding members_at
  members_fail e h = fails_as e (f at (drop at text)) (λ x. x >>= λ t. with_type t.0 (more_at (length t.2) f t.1 t.2)) (λ d. refl) h

  pub members_go : (t : WireType) (end : ℕ) → f at (drop at text) ≡ Ok (after text (t, end)) → members_at f at (drop at text) ≡ onto (t ∷ []) (more_at (length (drop end text)) f end (drop end text))
  unfolding members_at
  members_go t end is = rw is (onto_one t (more_at (length (drop end text)) f end (drop end text)))

-- these types, and those that were read
abbrev pub behind : List WireType → Result (List WireType) SignatureError → Result (List WireType) SignatureError
behind ts (Ok us) = Ok (ts ++ us)
behind ts (Err e) = Err e

behind_again : (ts : List WireType) (t : WireType) (x : Result (List WireType) SignatureError) → behind ts (with_first t x) ≡ behind (ts ++ t ∷ []) x
behind_again ts t (Ok us) = ap (λ (l : List WireType). Ok l) (sym (append_assoc ts (t ∷ []) us))
behind_again ts t (Err e) = refl

pub behind_none : (x : Result (List WireType) SignatureError) → x ≡ behind [] x
behind_none (Ok us) = refl
behind_none (Err e) = refl

module _ (f : ℕ → List ℕ → Read WireType) (text : List ℕ) (ts : List WireType) (next : ℕ) where
  list_cell : (n b : ℕ) (rest : List ℕ) → suc (length rest) ≤ n → list_at n f next (b ∷ rest) ≡ (f next (b ∷ rest) >>= λ t. with_first t.0 (list_at (n - 1) f t.1 t.2))
  unfolding list_at
  list_cell zero b rest le = absurd (omega (arith, le))
  list_cell (suc n) b rest le = let e : suc n - 1 ≡ n = omega arith in rw e refl

  pub list_go : (n : ℕ) → next < length text → length (drop next text) ≤ n → list_at n f next (drop next text) ≡ (f next (drop next text) >>= λ t. with_first t.0 (list_at (n - 1) f t.1 t.2))
  list_go n lt le =
      let cell = drop-cons text next 0 lt in
      rw cell (list_cell n (get_or text next 0) (drop (suc next) text) (omega (arith, le, ap length cell)))

  pub list_step : (n : ℕ) (t : WireType) (end : ℕ) → next < length text → next < end → f next (drop next text) ≡ Ok (after text (t, end)) → length (drop next text) ≤ n
      → (m : ℕ) × (length (drop end text) ≤ m) × (behind ts (list_at n f next (drop next text)) ≡ behind (ts ++ t ∷ []) (list_at m f end (drop end text)))
  list_step n t end lt on is le = (n - 1, omega (arith, le, length-drop next text, length-drop end text), rw (list_go n lt le, is) (behind_again ts t (list_at (n - 1) f end (drop end text))))

  pub list_fails : (n : ℕ) (e : SignatureError) → next < length text → length (drop next text) ≤ n → Fails e (f next (drop next text)) → Fails e (behind ts (list_at n f next (drop next text)))
  list_fails n e lt le h = subst (λ (x : Result (List WireType) SignatureError). Fails e (behind ts x)) (sym (list_go n lt le))
      (fails_as e (f next (drop next text)) (λ x. behind ts (x >>= λ t. with_first t.0 (list_at (n - 1) f t.1 t.2))) (λ d. refl) h)

  no_list : (n : ℕ) → list_at n f next [] ≡ Ok []
  unfolding list_at
  no_list zero = refl
  no_list (suc n) = refl

  pub list_end : (n : ℕ) → length text ≤ next → behind ts (list_at n f next (drop next text)) ≡ Ok ts
  list_end n le = rw (at_end text next le, no_list n) (ap (λ (l : List WireType). Ok l) (append-nil ts))
