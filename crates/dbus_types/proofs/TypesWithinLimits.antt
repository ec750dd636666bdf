-- Types within limits, and those inside them.
use Rattle.std.proofs.Common.{◌≡◌, ℕ, ◌-◌, ◌<◌, ◌≤◌, Bool, true, false, cond, List, [], ◌∷◌, length, map, refl, sym, ap, subst, ◌∙◌, ◌⊎◌, inl, inr, arith}
use Rattle.std.specs.Prelude.{All, IsTrue, ◌==◌}
use Rattle.std.proofs.lemmas.List.Elements.{All-head, All-tail, All-cons, All-nil}
use Rattle.std.proofs.lemmas.Bool.{false≢true}
use Rattle.dbus_types.specs.declared.types.WireType.{WireType}
use Rattle.dbus_types.specs.declared.types.WireType.TheVariants as W
use Rattle.dbus_types.specs.declared.roles.Role.{Role}
use Rattle.dbus_types.specs.declared.roles.Role.TheVariants.{Basic, Single, Entry, Nowhere}
use Rattle.dbus_types.specs.Types.{is_single, array_role, members_role, struct_role, entry_role, role, greatest, arrays_deep, brackets_deep, IsComplete, Fits}
use Rattle.dbus_types.proofs.TypeLayers.{role_array, role_struct, role_entry, arrays_array, arrays_struct, arrays_entry, brackets_array, brackets_struct, brackets_entry}
use Rattle.dbus_types.proofs.Codes.{Code, code_role}

-- the role of an array's element
abbrev pub Stands : Role → Type 0
Stands Nowhere = ⊥
Stands _ = Unit {0}

-- an array's element within limits
abbrev pub ElementFits : ℕ → ℕ → WireType → Type 0
ElementFits a b t = Stands (role t) × (arrays_deep t ≤ a) × (brackets_deep t ≤ b)

single_stands : (r : Role) → IsTrue (is_single r) → Stands r
single_stands Basic h = tt
single_stands Single h = tt
single_stands Entry h = tt
single_stands Nowhere h = absurd (false≢true h)

pub fits_element : (a b : ℕ) (t : WireType) → Fits a b t → ElementFits a b t
fits_element a b t h = (single_stands (role t) h.0, h.1, h.2)

pub fits_more : (a b c d : ℕ) (t : WireType) → a ≤ c → b ≤ d → Fits a b t → Fits c d t
fits_more a b c d t p q h = (h.0, omega (arith, p, h.1), omega (arith, q, h.2))

-- ---- codes

code_single : (c : ℕ) → IsTrue (is_single (code_role c))
code_single c = go (c == 118)
  where
    go : (b : Bool) → IsTrue (is_single (cond b Single Basic))
    go true = refl
    go false = refl

pub code_fits : (a b c : ℕ) (t : WireType) → Code t c → Fits a b t
code_fits a b c t k = (subst (λ (r : Role). IsTrue (is_single r)) (sym k.stands) (code_single c), omega (arith, k.arrays), omega (arith, k.brackets))

pub code_basic : (c : ℕ) (t : WireType) → Code t c → (c == 118) ≡ false → role t ≡ Basic
code_basic c t k n = k.stands ∙ rw n refl

single_basic : Single ≡ Basic → ⊥
single_basic e = subst (λ (r : Role). Is r) e tt
  where
    Is : Role → Type 0
    Is Basic = ⊥
    Is _ = Unit {0}

pub basic_code : (c : ℕ) (t : WireType) → Code t c → role t ≡ Basic → (c == 118) ≡ false
basic_code c t k e = go (c == 118) (sym k.stands ∙ e)
  where
    go : (b : Bool) → cond b Single Basic ≡ Basic → b ≡ false
    go true e = absurd (single_basic e)
    go false e = refl

-- ---- arrays

array_stands : (r : Role) → IsTrue (is_single (array_role r)) → Stands r
array_stands Basic h = tt
array_stands Single h = tt
array_stands Entry h = tt
array_stands Nowhere h = absurd (false≢true h)

stands_array : (r : Role) → Stands r → IsTrue (is_single (array_role r))
stands_array Basic h = refl
stands_array Single h = refl
stands_array Entry h = refl
stands_array Nowhere h = absurd h

pub fits_array : (a b : ℕ) (t : WireType) → Fits a b (W.Array t) → (0 < a) × ElementFits (a - 1) b t
fits_array a b t h = (
  omega (arith, h.1, arrays_array t),
  (array_stands (role t) (subst (λ (r : Role). IsTrue (is_single r)) (role_array t) h.0), omega (arith, h.1, arrays_array t), omega (arith, h.2, brackets_array t)),
)

pub array_fits : (a b : ℕ) (t : WireType) → 0 < a → ElementFits (a - 1) b t → Fits a b (W.Array t)
array_fits a b t lt h =
    (subst (λ (r : Role). IsTrue (is_single r)) (sym (role_array t)) (stands_array (role t) h.0), omega (arith, lt, h.1, arrays_array t), omega (arith, h.2, brackets_array t))

-- ---- structs

member_first : (r : Role) (rs : List Role) → IsTrue (is_single (members_role (r ∷ rs))) → IsTrue (is_single r) × IsTrue (is_single (members_role rs))
member_first Basic rs h = (refl, h)
member_first Single rs h = (refl, h)
member_first Entry rs h = absurd (false≢true h)
member_first Nowhere rs h = absurd (false≢true h)

first_member : (r : Role) (rs : List Role) → IsTrue (is_single r) → IsTrue (is_single (members_role rs)) → IsTrue (is_single (members_role (r ∷ rs)))
first_member Basic rs e h = h
first_member Single rs e h = h
first_member Entry rs e h = absurd (false≢true e)
first_member Nowhere rs e h = absurd (false≢true e)

members_fit : (a b : ℕ) (ts : List WireType) → IsTrue (is_single (members_role (map role ts))) → greatest (map arrays_deep ts) ≤ a → greatest (map brackets_deep ts) ≤ b → All (Fits a b) ts
members_fit a b [] h p q = All-nil (Fits a b)
members_fit a b (t ∷ ts) h p q =
    let m = member_first (role t) (map role ts) h in
    All-cons (Fits a b) t ts (m.0, omega (arith, p), omega (arith, q)) (members_fit a b ts m.1 (omega (arith, p)) (omega (arith, q)))

fit_members : (a b : ℕ) (ts : List WireType) → All (Fits a b) ts → IsTrue (is_single (members_role (map role ts))) × (greatest (map arrays_deep ts) ≤ a) × (greatest (map brackets_deep ts) ≤ b)
fit_members a b [] h = (refl, omega arith, omega arith)
fit_members a b (t ∷ ts) h =
    let x = All-head (Fits a b) t ts h in
    let m = fit_members a b ts (All-tail (Fits a b) t ts h) in
    (first_member (role t) (map role ts) x.0 m.0, omega (arith, x.1, m.1), omega (arith, x.2, m.2))

struct_some : (ts : List WireType) → IsTrue (is_single (struct_role (map role ts))) → (0 < length ts) × IsTrue (is_single (members_role (map role ts)))
struct_some [] h = absurd (false≢true h)
struct_some (t ∷ ts) h = (omega arith, h)

some_struct : (ts : List WireType) → 0 < length ts → IsTrue (is_single (members_role (map role ts))) → IsTrue (is_single (struct_role (map role ts)))
some_struct [] lt h = absurd (omega (arith, lt))
some_struct (t ∷ ts) lt h = h

pub fits_struct : (a b : ℕ) (ts : List WireType) → Fits a b (W.Struct ts) → (0 < b) × (0 < length ts) × All (Fits a (b - 1)) ts
fits_struct a b ts h =
    let s = struct_some ts (subst (λ (r : Role). IsTrue (is_single r)) (role_struct ts) h.0) in
    (omega (arith, h.2, brackets_struct ts), s.0, members_fit a (b - 1) ts s.1 (omega (arith, h.1, arrays_struct ts)) (omega (arith, h.2, brackets_struct ts)))

pub struct_fits : (a b : ℕ) (ts : List WireType) → 0 < b → 0 < length ts → All (Fits a (b - 1)) ts → Fits a b (W.Struct ts)
struct_fits a b ts lt some h =
    let m = fit_members a (b - 1) ts h in
    (subst (λ (r : Role). IsTrue (is_single r)) (sym (role_struct ts)) (some_struct ts some m.0), omega (arith, m.1, arrays_struct ts), omega (arith, lt, m.2, brackets_struct ts))

-- ---- dict entries

entry_stands : (k v : Role) → Stands (entry_role k v) → (k ≡ Basic) × IsTrue (is_single v)
entry_stands Basic Basic h = (refl, refl)
entry_stands Basic Single h = (refl, refl)
entry_stands Basic Entry h = absurd h
entry_stands Basic Nowhere h = absurd h
entry_stands Single v h = absurd h
entry_stands Entry v h = absurd h
entry_stands Nowhere v h = absurd h

stands_entry : (k v : Role) → k ≡ Basic → IsTrue (is_single v) → entry_role k v ≡ Entry
stands_entry k Basic e h = rw e refl
stands_entry k Single e h = rw e refl
stands_entry k Entry e h = absurd (false≢true h)
stands_entry k Nowhere e h = absurd (false≢true h)

-- a dict entry stands nowhere else
entry_single : (k v : Role) → IsTrue (is_single (entry_role k v)) → ⊥
entry_single Basic Basic h = false≢true h
entry_single Basic Single h = false≢true h
entry_single Basic Entry h = false≢true h
entry_single Basic Nowhere h = false≢true h
entry_single Single v h = false≢true h
entry_single Entry v h = false≢true h
entry_single Nowhere v h = false≢true h

pub no_entry : (a b : ℕ) (k v : WireType) → Fits a b (W.DictEntry k v) → ⊥
no_entry a b k v h = entry_single (role k) (role v) (subst (λ (r : Role). IsTrue (is_single r)) (role_entry k v) h.0)

pub element_entry : (a b : ℕ) (k v : WireType) → ElementFits a b (W.DictEntry k v) → (0 < b) × (role k ≡ Basic) × Fits a (b - 1) v
element_entry a b k v h =
    let e = entry_stands (role k) (role v) (subst Stands (role_entry k v) h.0) in
    (omega (arith, h.2, brackets_entry k v), e.0, (e.1, omega (arith, h.1, arrays_entry k v), omega (arith, h.2, brackets_entry k v)))

pub entry_element : (a b : ℕ) (k v : WireType) → 0 < b → role k ≡ Basic → Fits a (b - 1) k → Fits a (b - 1) v → ElementFits a b (W.DictEntry k v)
entry_element a b k v lt e hk hv =
    (subst Stands (sym (role_entry k v ∙ stands_entry (role k) (role v) e hv.0)) tt, omega (arith, hk.1, hv.1, arrays_entry k v), omega (arith, lt, hk.2, hv.2, brackets_entry k v))

-- ---- elements that are no dict entries

pub element_fits : (a b : ℕ) (t : WireType) → ElementFits a b t → IsComplete t → Fits a b t
element_fits a b t h c = (c, h.1, h.2)

pub code_complete : (t : WireType) (c : ℕ) → Code t c → IsComplete t
code_complete t c k = (code_fits 0 0 c t k).0

array_single : (r : Role) → Stands (array_role r) → IsTrue (is_single (array_role r))
array_single Basic h = refl
array_single Single h = refl
array_single Entry h = refl
array_single Nowhere h = absurd h

pub array_complete : (t u : WireType) → t ≡ W.Array u → Stands (role t) → IsComplete t
array_complete t u e h =
    let r : role t ≡ array_role (role u) = ap role e ∙ role_array u in
    subst (λ (x : Role). IsTrue (is_single x)) (sym r) (array_single (role u) (subst Stands r h))

members_single : (rs : List Role) → Stands (members_role rs) → IsTrue (is_single (members_role rs))
members_single [] h = refl
members_single (Basic ∷ rs) h = members_single rs h
members_single (Single ∷ rs) h = members_single rs h
members_single (Entry ∷ rs) h = absurd h
members_single (Nowhere ∷ rs) h = absurd h

struct_single : (rs : List Role) → Stands (struct_role rs) → IsTrue (is_single (struct_role rs))
struct_single [] h = absurd h
struct_single (r ∷ rs) h = members_single (r ∷ rs) h

pub struct_complete : (t : WireType) (us : List WireType) → t ≡ W.Struct us → Stands (role t) → IsComplete t
struct_complete t us e h =
    let r : role t ≡ struct_role (map role us) = ap role e ∙ role_struct us in
    subst (λ (x : Role). IsTrue (is_single x)) (sym r) (struct_single (map role us) (subst Stands r h))

-- ---- what is no code is not basic

abbrev Kept : Role → Type 0
Kept Basic = ⊥
Kept _ = Unit {0}

array_kept : (r : Role) → Kept (array_role r)
array_kept Basic = tt
array_kept Single = tt
array_kept Entry = tt
array_kept Nowhere = tt

members_kept : (rs : List Role) → Kept (members_role rs)
members_kept [] = tt
members_kept (Basic ∷ rs) = members_kept rs
members_kept (Single ∷ rs) = members_kept rs
members_kept (Entry ∷ rs) = tt
members_kept (Nowhere ∷ rs) = tt

struct_kept : (rs : List Role) → Kept (struct_role rs)
struct_kept [] = tt
struct_kept (r ∷ rs) = members_kept (r ∷ rs)

entry_kept : (k v : Role) → Kept (entry_role k v)
entry_kept Basic Basic = tt
entry_kept Basic Single = tt
entry_kept Basic Entry = tt
entry_kept Basic Nowhere = tt
entry_kept Single v = tt
entry_kept Entry v = tt
entry_kept Nowhere v = tt

pub not_basic : (t : WireType) → role t ≡ Basic → ((u : WireType) × (t ≡ W.Array u)) ⊎ (((us : List WireType) × (t ≡ W.Struct us)) ⊎ ((k v : WireType) × (t ≡ W.DictEntry k v))) → ⊥
not_basic t b x = subst Kept b (elim x [
  | inl u ↦ subst Kept (sym (ap role u.1 ∙ role_array u.0)) (array_kept (role u.0))
  | inr y ↦ elim y [
    | inl us ↦ subst Kept (sym (ap role us.1 ∙ role_struct us.0)) (struct_kept (map role us.0))
    | inr e ↦ subst Kept (sym (ap role e.2 ∙ role_entry e.0 e.1)) (entry_kept (role e.0) (role e.1))
  ]
])
