-- What was read has the text that was read; where reading stops, the text goes on as no text of a type does.
use Rattle.std.proofs.Common.{◌≡◌, ℕ, zero, suc, ◌+◌, ◌-◌, ◌<◌, ◌≤◌, Bool, true, false, cond, List, [], ◌∷◌, ◌++◌, length, Result, Ok, Err, refl, sym, ap, subst, ◌∙◌, append_assoc, append-nil, arith, inl, inr}
use Rattle.std.specs.Prelude.{All, ◌==◌}
use Rattle.std.proofs.lemmas.Bool.{eqb-true, eqb-false, true≢false}
use Rattle.std.proofs.lemmas.List.{length-append}
use Rattle.std.proofs.lemmas.List.Elements.{All-head, All-tail, All-cons, All-nil, All-append}
use Rattle.dbus_types.specs.declared.types.WireType.{WireType}
use Rattle.dbus_types.specs.declared.types.WireType.TheVariants as W
use Rattle.dbus_types.specs.declared.roles.Role.TheVariants.{Basic}
use Rattle.dbus_types.specs.declared.errors.SignatureError.{SignatureError}
use Rattle.dbus_types.specs.declared.errors.SignatureError.TheVariants.{BadSignature, TooDeep, Memory}
use Rattle.dbus_types.specs.Types.{role, type_text, types_text, Fits}
use Rattle.dbus_types.specs.Reading.{◌>>=◌, Read, coded, code_at, key_at, closed, with_type, more_at, members_at, element_at, one_at, level_at, type_at}
use Rattle.dbus_types.proofs.TypeLayers.{text_array, text_struct, text_entry, text_byte, role_byte}
use Rattle.dbus_types.proofs.Codes.{Code, code_Byte, CodedOut, coded_is, shape}
use Rattle.dbus_types.proofs.TypesWithinLimits.{ElementFits, fits_element, fits_more, fits_array, array_fits, fits_struct, struct_fits, no_entry, element_entry, entry_element, basic_code, code_basic, code_fits, element_fits, code_complete, array_complete, struct_complete, not_basic}
use Rattle.dbus_types.proofs.TextsReadAgain.{by_limits, type_cell, starts, type_again}

-- ---- lists

cons_head : (c d : ℕ) (xs ys : List ℕ) → c ∷ xs ≡ d ∷ ys → c ≡ d
cons_head c d xs ys e = ap head e
  where
    head : List ℕ → ℕ
    head [] = 0
    head (c ∷ xs) = c

cons_tail : (c d : ℕ) (xs ys : List ℕ) → c ∷ xs ≡ d ∷ ys → xs ≡ ys
cons_tail c d xs ys e = ap tail e
  where
    tail : List ℕ → List ℕ
    tail [] = []
    tail (c ∷ xs) = xs

-- ---- one text, one type

pub unique : (a b c d : ℕ) (t u : WireType) (x y : List ℕ) → Fits a b t → Fits c d u → type_text t ++ x ≡ type_text u ++ y → (t ≡ u) × (x ≡ y)
unique a b c d t u x y h k e =
    let one = type_again (a + c) (b + d) t 0 x (fits_more a b (a + c) (b + d) t (omega arith) (omega arith) h) in
    let two = type_again (a + c) (b + d) u 0 y (fits_more c d (a + c) (b + d) u (omega arith) (omega arith) k) in
    let same = sym one ∙ (ap (type_at (a + c) (b + d) 0) e ∙ two) in
    (ap kind same, ap left same)
  where
    kind : Read WireType → WireType
    kind (Ok r) = r.0
    kind (Err e) = t

    left : Read WireType → List ℕ
    left (Ok r) = r.2
    left (Err e) = x

-- ---- stopping

abbrev pub Kinds : Type 1
Kinds = WireType → Type 0

-- the text of such a type begins so
abbrev pub Viable : Kinds → List ℕ → Type 0
Viable F front = (t : WireType) × (more : List ℕ) × F t × (type_text t ≡ front ++ more)

abbrev pub error_place : SignatureError → ℕ
error_place (BadSignature at) = at
error_place (TooDeep at) = at
error_place Memory = 0

-- F are the types within the limits, G those of any depth
abbrev pub Admits : SignatureError → Kinds → Kinds → Kinds
Admits (TooDeep at) F G = F
Admits e F G = G

abbrev pub AtEnd : SignatureError → Type 0
AtEnd (BadSignature at) = Unit {0}
AtEnd e = ⊥

abbrev pub Deeper : SignatureError → Kinds → List ℕ → Type 0
Deeper (BadSignature at) G front = Unit {0}
Deeper (TooDeep at) G front = Viable G front
Deeper Memory G front = ⊥

abbrev pub After : SignatureError → Kinds → Kinds → List ℕ → List ℕ → Type 0
After e F G front [] = AtEnd e
After e F G front (b ∷ r) = Deeper e G (front ++ b ∷ []) × ((t : WireType) (x y : List ℕ) → Admits e F G t → type_text t ++ x ≡ front ++ b ∷ y → ⊥)

pub record Stops (e : SignatureError) (at : ℕ) (text : List ℕ) (F G : Kinds) : Type 0 where
  pub front : List ℕ
  pub rest : List ℕ
  pub parts : text ≡ front ++ rest
  pub place : error_place e ≡ at + length front
  pub begins : Viable F front
  pub ends : After e F G front rest

pub record Took (F : Kinds) (at : ℕ) (text : List ℕ) (t : WireType) (next : ℕ) (rest : List ℕ) : Type 0 where
  pub parts : text ≡ type_text t ++ rest
  pub place : next ≡ at + length (type_text t)
  pub holds : F t

abbrev pub Outcome : Kinds → Kinds → ℕ → List ℕ → Read WireType → Type 0
Outcome F G at text (Ok x) = Took F at text x.0 x.1 x.2
Outcome F G at text (Err e) = Stops e at text F G

-- what begins with something else
abbrev Headed : (ℕ → Type 0) → List ℕ → Type 0
Headed P [] = Unit {0}
Headed P (c ∷ rest) = P c

abbrev Heads : (ℕ → Type 0) → List ℕ → Type 0
Heads P text = (c : ℕ) × (rest : List ℕ) × (text ≡ c ∷ rest) × P c

heads : (P : ℕ → Type 0) (text front : List ℕ) (b : ℕ) (r y : List ℕ) → text ≡ front ++ b ∷ r → Headed P text → Heads P (front ++ b ∷ y)
heads P text [] b r y e h = (b, y, refl, subst (Headed P) e h)
heads P text (c ∷ front) b r y e h = (c, front ++ b ∷ y, refl, subst (Headed P) e h)

-- Down: a text of F' that goes on behind pre as z does shows a text of F at the front of z
abbrev Down : (ℕ → Type 0) → Kinds → Kinds → List ℕ → Type 0
Down P F F' pre = (t : WireType) (x z : List ℕ) → F' t → Heads P z → type_text t ++ x ≡ pre ++ z → (u : WireType) × (w : List ℕ) × F u × (type_text u ++ w ≡ z)

admits_down : (e : SignatureError) (P : ℕ → Type 0) (F G F' G' : Kinds) (pre : List ℕ) → Down P F F' pre → Down P G G' pre → Down P (Admits e F G) (Admits e F' G') pre
admits_down (BadSignature at) P F G F' G' pre d k = k
admits_down (TooDeep at) P F G F' G' pre d k = d
admits_down Memory P F G F' G' pre d k = k

deeper_up : (e : SignatureError) (G G' : Kinds) (pre front : List ℕ) (b : ℕ) → ((c : List ℕ) → Viable G c → Viable G' (pre ++ c)) → Deeper e G (front ++ b ∷ []) → Deeper e G' ((pre ++ front) ++ b ∷ [])
deeper_up (BadSignature at) G G' pre front b up h = tt
deeper_up (TooDeep at) G G' pre front b up h = subst (Viable G') (sym (append_assoc pre front (b ∷ []))) (up (front ++ b ∷ []) h)
deeper_up Memory G G' pre front b up h = h

-- a stop inside is a stop outside
wrap : (P : ℕ → Type 0) (F G F' G' : Kinds) (pre : List ℕ) → ((c : List ℕ) → Viable F c → Viable F' (pre ++ c)) → ((c : List ℕ) → Viable G c → Viable G' (pre ++ c)) → Down P F F' pre → Down P G G' pre
    → (e : SignatureError) (at in_at : ℕ) (text inner : List ℕ) → Headed P inner → text ≡ pre ++ inner → in_at ≡ at + length pre → Stops e in_at inner F G → Stops e at text F' G'
wrap P F G F' G' pre up more down deep e at in_at text inner headed whole place s = record {
  front = pre ++ s.front;
  rest = s.rest;
  parts = whole ∙ (ap (λ (w : List ℕ). pre ++ w) s.parts ∙ sym (append_assoc pre s.front s.rest));
  place = omega (arith, s.place, place, length-append pre s.front);
  begins = up s.front s.begins;
  ends = after s.rest s.parts s.ends;
}
  where
    after : (rest : List ℕ) → inner ≡ s.front ++ rest → After e F G s.front rest → After e F' G' (pre ++ s.front) rest
    after [] parts h = h
    after (b ∷ r) parts h = (
      deeper_up e G G' pre s.front b more h.0,
      λ t x y a eq.
          let d = admits_down e P F G F' G' pre down deep t x (s.front ++ b ∷ y) a (heads P inner s.front b r y parts headed) (eq ∙ append_assoc pre s.front (b ∷ y)) in
          h.1 d.0 d.1 y d.2 d.3,
    )

-- ---- steps of a reader

pub through : {A B : Type 0} (O : Result A SignatureError → Type 0) (Q : Result B SignatureError → Type 0) (r : Result A SignatureError) (f : A → Result B SignatureError) → O r → ((x : A) → O (Ok x) → Q (f x)) → ((e : SignatureError) → O (Err e) → Q (Err e)) → Q (r >>= f)
through O Q (Ok x) f o go halt = go x o
through O Q (Err e) f o go halt = halt e o

either : {A : Type 0} (Q : A → Type 0) (b : Bool) (x y : A) → (b ≡ true → Q x) → (b ≡ false → Q y) → Q (cond b x y)
either Q true x y h k = h refl
either Q false x y h k = k refl

-- it stops at the first byte, or there is none
stop_end : (F G : Kinds) (at : ℕ) → Viable F [] → Stops (BadSignature at) at [] F G
stop_end F G at v = record { front = []; rest = []; parts = refl; place = omega arith; begins = v; ends = tt }

stop_bad : (F G : Kinds) (at c : ℕ) (rest : List ℕ) → Viable F [] → ((t : WireType) (x y : List ℕ) → G t → type_text t ++ x ≡ c ∷ y → ⊥) → Stops (BadSignature at) at (c ∷ rest) F G
stop_bad F G at c rest v never = record { front = []; rest = c ∷ rest; parts = refl; place = omega arith; begins = v; ends = (tt, never) }

stop_deep : (F G : Kinds) (at c : ℕ) (rest : List ℕ) → Viable F [] → Viable G (c ∷ []) → ((t : WireType) (x y : List ℕ) → F t → type_text t ++ x ≡ c ∷ y → ⊥) → Stops (TooDeep at) at (c ∷ rest) F G
stop_deep F G at c rest v deep never = record { front = []; rest = c ∷ rest; parts = refl; place = omega arith; begins = v; ends = (deep, never) }

-- ---- what begins with a code, `a`, `(` and `{`

-- of any depth
abbrev pub Any : Kinds
Any t = (a b : ℕ) × Fits a b t

abbrev AnyElement : Kinds
AnyElement t = (a b : ℕ) × ElementFits a b t

abbrev Key : Kinds
Key t = role t ≡ Basic

same_not : {A : Type 0} (c d : ℕ) → c ≡ d → (c == d) ≡ false → A
same_not c d e n = absurd (eqb-false c d n e)

-- an element whose text begins with `{` is a dict entry
entry_down : (a b : ℕ) (t : WireType) (x z : List ℕ) → ElementFits a b t → type_text t ++ x ≡ 123 ∷ z → (k v : WireType) × (0 < b) × (role k ≡ Basic) × Fits a (b - 1) v × (type_text k ++ (type_text v ++ 125 ∷ x) ≡ z)
entry_down a b t x z h e = elim (shape t) [
  | inl k ↦ same_not k.0 123 (cons_head k.0 123 x z (ap (λ (w : List ℕ). w ++ x) (sym k.1.text) ∙ e)) k.1.no_entry
  | inr y ↦ elim y [
    | inl u ↦ absurd (omega (arith, cons_head 97 123 (type_text u.0 ++ x) z (ap (λ (w : List ℕ). w ++ x) (sym (ap type_text u.1 ∙ text_array u.0)) ∙ e)))
    | inr q ↦ elim q [
      | inl us ↦ absurd (omega (arith, cons_head 40 123 ((types_text us.0 ++ 41 ∷ []) ++ x) z (ap (λ (w : List ℕ). w ++ x) (sym (ap type_text us.1 ∙ text_struct us.0)) ∙ e)))
      | inr d ↦
          let f = element_entry a b d.0 d.1 (subst (ElementFits a b) d.2 h) in
          let eq = cons_tail 123 123 ((type_text d.0 ++ (type_text d.1 ++ 125 ∷ [])) ++ x) z (ap (λ (w : List ℕ). w ++ x) (sym (ap type_text d.2 ∙ text_entry d.0 d.1)) ∙ e) in
          (d.0, d.1, f.0, f.1, f.2, sym (append_assoc (type_text d.0) (type_text d.1 ++ 125 ∷ []) x ∙ ap (λ (w : List ℕ). type_text d.0 ++ w) (append_assoc (type_text d.1) (125 ∷ []) x)) ∙ eq)
    ]
  ]
]

array_down : (a b : ℕ) (t : WireType) (x z : List ℕ) → Fits a b t → type_text t ++ x ≡ 97 ∷ z → (u : WireType) × (0 < a) × ElementFits (a - 1) b u × (type_text u ++ x ≡ z)
array_down a b t x z h e = elim (shape t) [
  | inl k ↦ same_not k.0 97 (cons_head k.0 97 x z (ap (λ (w : List ℕ). w ++ x) (sym k.1.text) ∙ e)) k.1.no_array
  | inr y ↦ elim y [
    | inl u ↦
        let f = fits_array a b u.0 (subst (Fits a b) u.1 h) in
        (u.0, f.0, f.1, cons_tail 97 97 (type_text u.0 ++ x) z (ap (λ (w : List ℕ). w ++ x) (sym (ap type_text u.1 ∙ text_array u.0)) ∙ e))
    | inr q ↦ elim q [
      | inl us ↦ absurd (omega (arith, cons_head 40 97 ((types_text us.0 ++ 41 ∷ []) ++ x) z (ap (λ (w : List ℕ). w ++ x) (sym (ap type_text us.1 ∙ text_struct us.0)) ∙ e)))
      | inr d ↦ absurd (no_entry a b d.0 d.1 (subst (Fits a b) d.2 h))
    ]
  ]
]

struct_down : (a b : ℕ) (t : WireType) (x z : List ℕ) → Fits a b t → type_text t ++ x ≡ 40 ∷ z → (us : List WireType) × (0 < b) × (0 < length us) × All (Fits a (b - 1)) us × (types_text us ++ 41 ∷ x ≡ z)
struct_down a b t x z h e = elim (shape t) [
  | inl k ↦ same_not k.0 40 (cons_head k.0 40 x z (ap (λ (w : List ℕ). w ++ x) (sym k.1.text) ∙ e)) k.1.no_struct
  | inr y ↦ elim y [
    | inl u ↦ absurd (omega (arith, cons_head 97 40 (type_text u.0 ++ x) z (ap (λ (w : List ℕ). w ++ x) (sym (ap type_text u.1 ∙ text_array u.0)) ∙ e)))
    | inr q ↦ elim q [
      | inl us ↦
          let f = fits_struct a b us.0 (subst (Fits a b) us.1 h) in
          let eq = cons_tail 40 40 ((types_text us.0 ++ 41 ∷ []) ++ x) z (ap (λ (w : List ℕ). w ++ x) (sym (ap type_text us.1 ∙ text_struct us.0)) ∙ e) in
          (us.0, f.0, f.1, f.2, sym (append_assoc (types_text us.0) (41 ∷ []) x) ∙ eq)
      | inr d ↦ absurd (no_entry a b d.0 d.1 (subst (Fits a b) d.2 h))
    ]
  ]
]

-- a type that begins neither with `a` nor with `(` is a code
code_down : (a b : ℕ) (t : WireType) (c : ℕ) (x z : List ℕ) → Fits a b t → (c == 97) ≡ false → (c == 40) ≡ false → type_text t ++ x ≡ c ∷ z → Code t c
code_down a b t c x z h na ns e = elim (shape t) [
  | inl k ↦ subst (Code t) (cons_head k.0 c x z (ap (λ (w : List ℕ). w ++ x) (sym k.1.text) ∙ e)) k.1
  | inr y ↦ elim y [
    | inl u ↦ same_not c 97 (sym (cons_head 97 c (type_text u.0 ++ x) z (ap (λ (w : List ℕ). w ++ x) (sym (ap type_text u.1 ∙ text_array u.0)) ∙ e))) na
    | inr q ↦ elim q [
      | inl us ↦ same_not c 40 (sym (cons_head 40 c ((types_text us.0 ++ 41 ∷ []) ++ x) z (ap (λ (w : List ℕ). w ++ x) (sym (ap type_text us.1 ∙ text_struct us.0)) ∙ e))) ns
      | inr d ↦ absurd (no_entry a b d.0 d.1 (subst (Fits a b) d.2 h))
    ]
  ]
]

key_down : (t : WireType) (c : ℕ) (x z : List ℕ) → Key t → type_text t ++ x ≡ c ∷ z → Code t c
key_down t c x z h e = elim (shape t) [
  | inl k ↦ subst (Code t) (cons_head k.0 c x z (ap (λ (w : List ℕ). w ++ x) (sym k.1.text) ∙ e)) k.1
  | inr y ↦ absurd (not_basic t h y)
]

-- ---- codes and keys

key_fits : (a b : ℕ) (t : WireType) → Key t → Fits a b t
key_fits a b t h = elim (shape t) [
  | inl k ↦ code_fits a b k.0 t k.1
  | inr y ↦ absurd (not_basic t h y)
]

no_head : (text : List ℕ) → Headed (λ c. Unit {0}) text
no_head [] = tt
no_head (c ∷ rest) = tt

byte_fits : (a b : ℕ) → Fits a b W.Byte
byte_fits a b = code_fits a b 121 W.Byte code_Byte

byte_viable : (F : Kinds) → F W.Byte → Viable F []
byte_viable F h = (W.Byte, 121 ∷ [], h, text_byte)

not_coded : (t : WireType) (c at : ℕ) (e : SignatureError) → coded at c ≡ Err e → Code t c → ⊥
not_coded t c at e is k = subst Bad (sym is ∙ k.read at) tt
  where
    Bad : Result WireType SignatureError → Type 0
    Bad (Ok t) = ⊥
    Bad (Err e) = Unit {0}

-- a code is read, or there is none, where F and G are codes alone at this byte
code_out : (F G : Kinds) (at c : ℕ) (rest : List ℕ) → ((t : WireType) → Code t c → F t) → Viable F [] → ((t : WireType) (x y : List ℕ) → G t → type_text t ++ x ≡ c ∷ y → Code t c) → Outcome F G at (c ∷ rest) (code_at at (c ∷ rest))
unfolding code_at
code_out F G at c rest fits v down = go (coded at c) refl (coded_is at c)
  where
    go : (r : Result WireType SignatureError) → coded at c ≡ r → CodedOut at c r → Outcome F G at (c ∷ rest) (r >>= λ t. Ok (t, at + 1, rest))
    go (Ok t) is k = record { parts = ap (λ (w : List ℕ). w ++ rest) (sym k.text); place = omega (arith, ap length k.text); holds = fits t k }
    go (Err e) is k = subst (λ (d : SignatureError). Stops d at (c ∷ rest) F G) (sym k) (stop_bad F G at c rest v (λ t x y g eq. not_coded t c at e is (down t x y g eq)))

key_out : (at : ℕ) (text : List ℕ) → Outcome Key Key at text (key_at at text)
unfolding key_at
key_out at [] = stop_end Key Key at (byte_viable Key role_byte)
key_out at (c ∷ rest) = go (c == 118) refl
  where
    go : (b : Bool) → (c == 118) ≡ b → Outcome Key Key at (c ∷ rest) (cond b (Err (BadSignature at)) (code_at at (c ∷ rest)))
    go true y = stop_bad Key Key at c rest (byte_viable Key role_byte) (λ t x z k e. true≢false (sym y ∙ basic_code c t (key_down t c x z k e) k))
    go false n = code_out Key Key at c rest (λ t k. code_basic c t k n) (byte_viable Key role_byte) (λ t x z k e. key_down t c x z k e)

-- ---- elements

module _ (a b : ℕ) (inside : (c at : ℕ) (text : List ℕ) → Outcome (Fits a c) Any at text (type_at a c at text)) where
  up_any : (c : List ℕ) → Viable Any c → Viable AnyElement c
  up_any c v = (v.0, v.1, (v.2.0, v.2.1, fits_element v.2.0 v.2.1 v.0 v.2.2), v.3)

  up_element : (c : List ℕ) → Viable (Fits a b) c → Viable (ElementFits a b) c
  up_element c v = (v.0, v.1, fits_element a b v.0 v.2, v.3)

  NotBrace : ℕ → Type 0
  NotBrace c = (c == 123) ≡ false

  -- an element that begins with something else than `{` is a type
  plain : (d e : ℕ) (t : WireType) (x z : List ℕ) → ElementFits d e t → Heads NotBrace z → type_text t ++ x ≡ z → Fits d e t
  unfolding NotBrace
  plain d e t x z h n eq = elim (shape t) [
    | inl k ↦ element_fits d e t h (code_complete t k.0 k.1)
    | inr y ↦ elim y [
      | inl u ↦ element_fits d e t h (array_complete t u.0 u.1 h.0)
      | inr q ↦ elim q [
        | inl us ↦ element_fits d e t h (struct_complete t us.0 us.1 h.0)
        | inr f ↦ same_not n.0 123 (sym (cons_head 123 n.0 ((type_text f.0 ++ (type_text f.1 ++ 125 ∷ [])) ++ x) n.1 (ap (λ (w : List ℕ). w ++ x) (sym (ap type_text f.2 ∙ text_entry f.0 f.1)) ∙ (eq ∙ n.2)))) n.3
      ]
    ]
  ]

  entry_text : (k v : WireType) (front : List ℕ) (more : List ℕ) → type_text v ++ 125 ∷ [] ≡ front ++ more → type_text (W.DictEntry k v) ≡ (123 ∷ (type_text k ++ front)) ++ more
  entry_text k v front more e = text_entry k v ∙ ap (λ (w : List ℕ). 123 ∷ w) (ap (λ (w : List ℕ). type_text k ++ w) e ∙ sym (append_assoc (type_text k) front more))

  entry_out : (at : ℕ) (rest : List ℕ) → 0 < b → Outcome (ElementFits a b) AnyElement at (123 ∷ rest) (key_at (at + 1) rest >>= λ k. type_at a (b - 1) k.1 k.2 >>= λ v. closed 125 v.1 v.2 >>= λ end. Ok (W.DictEntry k.0 v.0, end.0, end.1))
  unfolding closed
  entry_out at rest lt =
      through (Outcome Key Key (at + 1) rest) Q (key_at (at + 1) rest) _ (key_out (at + 1) rest)
      (λ k tk. through (Outcome (Fits a (b - 1)) Any k.1 k.2) Q (type_at a (b - 1) k.1 k.2) _ (inside (b - 1) k.1 k.2)
      (λ v tv. close k.0 v.0 k.1 k.2 v.1 v.2 tk tv)
      (λ e s. value_stops k.0 k.1 k.2 tk e s))
      (λ e s. key_stops e s)
    where
      Q : Read WireType → Type 0
      Q = Outcome (ElementFits a b) AnyElement at (123 ∷ rest)

      key_begins : (F : Kinds) → ((t : WireType) → Key t → F (W.DictEntry t W.Byte)) → (c : List ℕ) → Viable Key c → Viable F (123 ∷ c)
      key_begins F fits c v =
          let last : List ℕ = type_text W.Byte ++ 125 ∷ [] in
          (W.DictEntry v.0 W.Byte, v.1 ++ last, fits v.0 v.2, text_entry v.0 W.Byte ∙ ap (λ (w : List ℕ). 123 ∷ w) (ap (λ (w : List ℕ). w ++ last) v.3 ∙ append_assoc c v.1 last))

      key_stops : (e : SignatureError) → Stops e (at + 1) rest Key Key → Stops e at (123 ∷ rest) (ElementFits a b) AnyElement
      key_stops e s = wrap (λ c. Unit {0}) Key Key (ElementFits a b) AnyElement (123 ∷ [])
          (key_begins (ElementFits a b) (λ t k. entry_element a b t W.Byte lt k (key_fits a (b - 1) t k) (byte_fits a (b - 1))))
          (key_begins AnyElement (λ t k. (0, 1, entry_element 0 1 t W.Byte (omega arith) k (key_fits 0 0 t k) (byte_fits 0 0))))
          (λ t x z h n eq. let d = entry_down a b t x z h eq in (d.0, type_text d.1 ++ 125 ∷ x, d.3, d.5))
          (λ t x z h n eq. let d = entry_down h.0 h.1 t x z h.2 eq in (d.0, type_text d.1 ++ 125 ∷ x, d.3, d.5))
          e at (at + 1) (123 ∷ rest) rest (no_head rest) refl (omega arith) s

      value_begins : (F G : Kinds) (k : WireType) → ((t : WireType) → F t → G (W.DictEntry k t)) → (c : List ℕ) → Viable F c → Viable G ((123 ∷ type_text k) ++ c)
      value_begins F G k fits c v = (W.DictEntry k v.0, v.1 ++ 125 ∷ [], fits v.0 v.2, entry_text k v.0 c (v.1 ++ 125 ∷ []) (ap (λ (w : List ℕ). w ++ 125 ∷ []) v.3 ∙ append_assoc c v.1 (125 ∷ [])))

      value_stops : (k : WireType) (next : ℕ) (left : List ℕ) → Took Key (at + 1) rest k next left → (e : SignatureError) → Stops e next left (Fits a (b - 1)) Any → Stops e at (123 ∷ rest) (ElementFits a b) AnyElement
      value_stops k next left tk e s = wrap (λ c. Unit {0}) (Fits a (b - 1)) Any (ElementFits a b) AnyElement (123 ∷ type_text k)
          (value_begins (Fits a (b - 1)) (ElementFits a b) k (λ t h. entry_element a b k t lt tk.holds (key_fits a (b - 1) k tk.holds) h))
          (value_begins Any AnyElement k (λ t h. (h.0, h.1 + 1, entry_element h.0 (h.1 + 1) k t (omega arith) tk.holds (key_fits h.0 (h.1 + 1 - 1) k tk.holds) (fits_more h.0 h.1 h.0 (h.1 + 1 - 1) t (omega arith) (omega arith) h.2))))
          (λ t x z h n eq. let d = entry_down a b t x (type_text k ++ z) h eq in (d.1, 125 ∷ x, d.4, (unique 0 0 0 0 d.0 k (type_text d.1 ++ 125 ∷ x) z (key_fits 0 0 d.0 d.3) (key_fits 0 0 k tk.holds) d.5).1))
          (λ t x z h n eq. let d = entry_down h.0 h.1 t x (type_text k ++ z) h.2 eq in (d.1, 125 ∷ x, (h.0, h.1 - 1, d.4), (unique 0 0 0 0 d.0 k (type_text d.1 ++ 125 ∷ x) z (key_fits 0 0 d.0 d.3) (key_fits 0 0 k tk.holds) d.5).1))
          e at next (123 ∷ rest) left (no_head left) (ap (λ (w : List ℕ). 123 ∷ w) tk.parts) (omega (arith, tk.place)) s

      close : (k v : WireType) (next : ℕ) (left : List ℕ) (end : ℕ) (last : List ℕ) → Took Key (at + 1) rest k next left → Took (Fits a (b - 1)) next left v end last → Q (closed 125 end last >>= λ x. Ok (W.DictEntry k v, x.0, x.1))
      close k v next left end last tk tv = go last end tv.parts tv.place
        where
          key : List ℕ
          key = type_text k

          value : List ℕ
          value = type_text v

          fits : ElementFits a b (W.DictEntry k v)
          fits = entry_element a b k v lt tk.holds (key_fits a (b - 1) k tk.holds) tv.holds

          parts : (last : List ℕ) → left ≡ value ++ last → 123 ∷ rest ≡ (123 ∷ (key ++ value)) ++ last
          parts last e = ap (λ (w : List ℕ). 123 ∷ w) (tk.parts ∙ (ap (λ (w : List ℕ). key ++ w) e ∙ sym (append_assoc key value last)))

          never : (c : ℕ) → (c == 125) ≡ false → (t : WireType) (x y : List ℕ) → AnyElement t → type_text t ++ x ≡ (123 ∷ (key ++ value)) ++ c ∷ y → ⊥
          never c n t x y g eq =
              let d = entry_down g.0 g.1 t x (key ++ (value ++ c ∷ y)) g.2 (eq ∙ ap (λ (w : List ℕ). 123 ∷ w) (append_assoc key value (c ∷ y))) in
              let one = (unique 0 0 0 0 d.0 k (type_text d.1 ++ 125 ∷ x) (value ++ c ∷ y) (key_fits 0 0 d.0 d.3) (key_fits 0 0 k tk.holds) d.5).1 in
              let two = (unique g.0 (g.1 - 1) a (b - 1) d.1 v (125 ∷ x) (c ∷ y) d.4 tv.holds one).1 in
              same_not c 125 (sym (cons_head 125 c x y two)) n

          go : (last : List ℕ) (end : ℕ) → left ≡ value ++ last → end ≡ next + length value → Q (closed 125 end last >>= λ x. Ok (W.DictEntry k v, x.0, x.1))
          go [] end e p = record { front = 123 ∷ (key ++ value); rest = []; parts = parts [] e; place = omega (arith, p, tk.place, length-append key value); begins = (W.DictEntry k v, 125 ∷ [], fits, entry_text k v value (125 ∷ []) refl); ends = tt }
          go (c ∷ r) end e p = either (λ x. Q (x >>= λ x. Ok (W.DictEntry k v, x.0, x.1))) (c == 125) (Ok (end + 1, r)) (Err (BadSignature end))
              (λ y. record {
                parts = parts (c ∷ r) e ∙ (ap (λ (n : ℕ). (123 ∷ (key ++ value)) ++ n ∷ r) (eqb-true c 125 y) ∙ ap (λ (w : List ℕ). 123 ∷ w) (append_assoc key value (125 ∷ r)) ∙ sym (ap (λ (w : List ℕ). w ++ r) (text_entry k v) ∙ ap (λ (w : List ℕ). 123 ∷ w) (append_assoc key (value ++ 125 ∷ []) r ∙ ap (λ (w : List ℕ). key ++ w) (append_assoc value (125 ∷ []) r))));
                place = omega (arith, p, tk.place, ap length (text_entry k v), length-append key (value ++ 125 ∷ []), length-append value (125 ∷ []));
                holds = fits;
              })
              (λ n. record { front = 123 ∷ (key ++ value); rest = c ∷ r; parts = parts (c ∷ r) e; place = omega (arith, p, tk.place, length-append key value); begins = (W.DictEntry k v, 125 ∷ [], fits, entry_text k v value (125 ∷ []) refl); ends = (tt, never c n) })

  pub element_out : (at : ℕ) (text : List ℕ) → Outcome (ElementFits a b) AnyElement at text (element_at (type_at a) b at text)
  unfolding element_at NotBrace
  element_out at [] = stop_end (ElementFits a b) AnyElement at (byte_viable (ElementFits a b) (fits_element a b W.Byte (byte_fits a b)))
  element_out at (c ∷ rest) = either (Outcome (ElementFits a b) AnyElement at (c ∷ rest)) (c == 123) _ _
      (λ y. subst (λ (n : ℕ). Outcome (ElementFits a b) AnyElement at (n ∷ rest) (cond (b == 0) (Err (TooDeep at)) entry)) (sym (eqb-true c 123 y))
      (either (Outcome (ElementFits a b) AnyElement at (123 ∷ rest)) (b == 0) (Err (TooDeep at)) entry
      (λ z. stop_deep (ElementFits a b) AnyElement at 123 rest (byte_viable (ElementFits a b) (fits_element a b W.Byte (byte_fits a b)))
      (W.DictEntry W.Byte W.Byte, type_text W.Byte ++ (type_text W.Byte ++ 125 ∷ []), (0, 1, entry_element 0 1 W.Byte W.Byte (omega arith) role_byte (byte_fits 0 0) (byte_fits 0 0)), text_entry W.Byte W.Byte)
      (λ t x w h eq. let d = entry_down a b t x w h eq in absurd (omega (arith, d.2, eqb-true b 0 z))))
      (λ n. entry_out at rest (omega (arith, eqb-false b 0 n)))))
      (λ n. other n (type_at a b at (c ∷ rest)) (inside b at (c ∷ rest)))
    where
      entry : Read WireType
      entry = key_at (at + 1) rest >>= λ k. type_at a (b - 1) k.1 k.2 >>= λ v. closed 125 v.1 v.2 >>= λ end. Ok (W.DictEntry k.0 v.0, end.0, end.1)

      other : (c == 123) ≡ false → (r : Read WireType) → Outcome (Fits a b) Any at (c ∷ rest) r → Outcome (ElementFits a b) AnyElement at (c ∷ rest) r
      other n (Ok x) o = record { parts = o.parts; place = o.place; holds = fits_element a b x.0 o.holds }
      other n (Err e) o = wrap NotBrace (Fits a b) Any (ElementFits a b) AnyElement [] up_element up_any
          (λ t x z h w eq. (t, x, plain a b t x z h w eq, eq))
          (λ t x z h w eq. (t, x, (h.0, h.1, plain h.0 h.1 t x z h.2 w eq), eq))
          e at at (c ∷ rest) (c ∷ rest) n refl (omega arith) o

-- ---- structs

abbrev NotClose : ℕ → Type 0
NotClose c = (c == 41) ≡ false

pub types_append : (ts us : List WireType) → types_text (ts ++ us) ≡ types_text ts ++ types_text us
types_append [] us = refl
types_append (t ∷ ts) us = ap (λ (w : List ℕ). type_text t ++ w) (types_append ts us) ∙ sym (append_assoc (type_text t) (types_text ts) (types_text us))

all_more : (a b c d : ℕ) (ts : List WireType) → a ≤ c → b ≤ d → All (Fits a b) ts → All (Fits c d) ts
all_more a b c d ts p q h = λ k u lt. fits_more a b c d _ p q (h k u lt)

-- the types that were read are the first of those whose texts go on behind them
skip : (a b : ℕ) (K : Kinds) → ((t : WireType) → K t → Any t) → (ts us : List WireType) (x z : List ℕ) → All (Fits a b) ts → All K us → Heads NotClose z → types_text us ++ 41 ∷ x ≡ types_text ts ++ z
    → (u : WireType) × (w : List ℕ) × K u × (type_text u ++ w ≡ z)
skip a b K any [] [] x z h k n e = same_not n.0 41 (sym (cons_head 41 n.0 x n.1 (e ∙ n.2))) n.3
skip a b K any [] (u ∷ us) x z h k n e = (u, types_text us ++ 41 ∷ x, All-head K u us k, sym (append_assoc (type_text u) (types_text us) (41 ∷ x)) ∙ e)
skip a b K any (t ∷ ts) [] x z h k n e =
    let s = starts a b t (All-head (Fits a b) t ts h) in
    same_not s.0 41 (sym (cons_head 41 s.0 x (s.1 ++ (types_text ts ++ z)) (e ∙ (append_assoc (type_text t) (types_text ts) z ∙ ap (λ (w : List ℕ). w ++ (types_text ts ++ z)) s.2)))) s.3
skip a b K any (t ∷ ts) (u ∷ us) x z h k n e =
    let g = any u (All-head K u us k) in
    let one = (unique g.0 g.1 a b u t (types_text us ++ 41 ∷ x) (types_text ts ++ z) g.2 (All-head (Fits a b) t ts h) (sym (append_assoc (type_text u) (types_text us) (41 ∷ x)) ∙ (e ∙ append_assoc (type_text t) (types_text ts) z))).1 in
    skip a b K any ts us x z (All-tail (Fits a b) t ts h) (All-tail K u us k) n one

module _ (a b : ℕ) (lt : 0 < b) (inside : (at : ℕ) (text : List ℕ) → Outcome (Fits a (b - 1)) Any at text (type_at a (b - 1) at text)) (at : ℕ) (whole : List ℕ) where
  abbrev MoreOut : List WireType → Read (List WireType) → Type 0
  MoreOut ts (Ok x) = (whole ≡ 40 ∷ (types_text (ts ++ x.0) ++ 41 ∷ x.2)) × (x.1 ≡ at + 1 + length (types_text (ts ++ x.0)) + 1) × All (Fits a (b - 1)) (ts ++ x.0) × (0 < length (ts ++ x.0))
  MoreOut ts (Err e) = Stops e at whole (Fits a b) Any

  with_out : (ts : List WireType) (t : WireType) (r : Read (List WireType)) → MoreOut (ts ++ t ∷ []) r → MoreOut ts (with_type t r)
  with_out ts t (Ok x) h = subst (λ (us : List WireType). (whole ≡ 40 ∷ (types_text us ++ 41 ∷ x.2)) × (x.1 ≡ at + 1 + length (types_text us) + 1) × All (Fits a (b - 1)) us × (0 < length us)) (append_assoc ts (t ∷ []) x.0) h
  with_out ts t (Err e) h = h

  struct_begins : (ts : List WireType) (t : WireType) (c more : List ℕ) → type_text t ≡ c ++ more → type_text (W.Struct (ts ++ t ∷ [])) ≡ (40 ∷ (types_text ts ++ c)) ++ (more ++ 41 ∷ [])
  struct_begins ts t c more e = text_struct (ts ++ t ∷ []) ∙ ap (λ (w : List ℕ). 40 ∷ w) (
      ap (λ (w : List ℕ). w ++ 41 ∷ []) (types_append ts (t ∷ []) ∙ ap (λ (w : List ℕ). types_text ts ++ w) (append-nil (type_text t) ∙ e))
      ∙ (append_assoc (types_text ts) (c ++ more) (41 ∷ []) ∙ (ap (λ (w : List ℕ). types_text ts ++ w) (append_assoc c more (41 ∷ [])) ∙ sym (append_assoc (types_text ts) c (more ++ 41 ∷ [])))))

  some_last : (ts : List WireType) (t : WireType) → 0 < length (ts ++ t ∷ [])
  some_last [] t = omega arith
  some_last (u ∷ ts) t = omega arith

  member_up : (ts : List WireType) → All (Fits a (b - 1)) ts → (c : List ℕ) → Viable (Fits a (b - 1)) c → Viable (Fits a b) ((40 ∷ types_text ts) ++ c)
  member_up ts h c v = (W.Struct (ts ++ v.0 ∷ []), v.1 ++ 41 ∷ [], struct_fits a b (ts ++ v.0 ∷ []) lt (some_last ts v.0) (All-append (Fits a (b - 1)) ts (v.0 ∷ []) h (All-cons (Fits a (b - 1)) v.0 [] v.2 (All-nil (Fits a (b - 1))))), struct_begins ts v.0 c v.1 v.3)

  any_up : (ts : List WireType) → All (Fits a (b - 1)) ts → (c : List ℕ) → Viable Any c → Viable Any ((40 ∷ types_text ts) ++ c)
  any_up ts h c v =
      let p = a + v.2.0 in
      let q = b + v.2.1 in (
        W.Struct (ts ++ v.0 ∷ []),
        v.1 ++ 41 ∷ [],
        (
          p,
          q,
          struct_fits p q (ts ++ v.0 ∷ []) (omega (arith, lt)) (some_last ts v.0)
              (All-append (Fits p (q - 1)) ts (v.0 ∷ []) (all_more a (b - 1) p (q - 1) ts (omega arith) (omega arith) h) (All-cons (Fits p (q - 1)) v.0 [] (fits_more v.2.0 v.2.1 p (q - 1) v.0 (omega arith) (omega (arith, lt)) v.2.2) (All-nil (Fits p (q - 1))))),
        ),
        struct_begins ts v.0 c v.1 v.3,
      )

  -- a member stops behind those that were read
  next_stops : (ts : List WireType) → All (Fits a (b - 1)) ts → (e : SignatureError) (next : ℕ) (text : List ℕ) → Headed NotClose text → whole ≡ (40 ∷ types_text ts) ++ text → next ≡ at + 1 + length (types_text ts) → Stops e next text (Fits a (b - 1)) Any → Stops e at whole (Fits a b) Any
  next_stops ts h e next text n parts place s = wrap NotClose (Fits a (b - 1)) Any (Fits a b) Any (40 ∷ types_text ts) (member_up ts h) (any_up ts h)
      (λ t x z f w eq. let d = struct_down a b t x (types_text ts ++ z) f eq in skip a (b - 1) (Fits a (b - 1)) (λ u k. (a, b - 1, k)) ts d.0 x z h d.3 w d.4)
      (λ t x z f w eq.
      let d = struct_down f.0 f.1 t x (types_text ts ++ z) f.2 eq in
      let u = skip a (b - 1) (Fits f.0 (f.1 - 1)) (λ u k. (f.0, f.1 - 1, k)) ts d.0 x z h d.3 w d.4 in
      (u.0, u.1, (f.0, f.1 - 1, u.2), u.3))
      e at next whole text n parts (omega (arith, place)) s

  more_out : (n next : ℕ) (text : List ℕ) (ts : List WireType) → length text ≤ n → 0 < length ts → All (Fits a (b - 1)) ts → whole ≡ (40 ∷ types_text ts) ++ text → next ≡ at + 1 + length (types_text ts) → MoreOut ts (more_at n (type_at a (b - 1)) next text)
  unfolding more_at
  more_out zero next [] ts le some h parts place = ended next ts some h parts place
    where
      ended : (next : ℕ) (ts : List WireType) → 0 < length ts → All (Fits a (b - 1)) ts → whole ≡ (40 ∷ types_text ts) ++ [] → next ≡ at + 1 + length (types_text ts) → Stops (BadSignature next) at whole (Fits a b) Any
      ended next ts some h parts place = record { front = 40 ∷ types_text ts; rest = []; parts = parts; place = omega (arith, place); begins = (W.Struct ts, 41 ∷ [], struct_fits a b ts lt some h, text_struct ts); ends = tt }
  more_out (suc n) next [] ts le some h parts place = record { front = 40 ∷ types_text ts; rest = []; parts = parts; place = omega (arith, place); begins = (W.Struct ts, 41 ∷ [], struct_fits a b ts lt some h, text_struct ts); ends = tt }
  more_out zero next (c ∷ rest) ts le some h parts place = absurd (omega (arith, le))
  more_out (suc n) next (c ∷ rest) ts le some h parts place = either (MoreOut ts) (c == 41) (Ok ([], next + 1, rest)) _
      (λ y.
      let same = append-nil ts in (
        parts ∙ (ap (λ (k : ℕ). (40 ∷ types_text ts) ++ k ∷ rest) (eqb-true c 41 y) ∙ ap (λ (us : List WireType). 40 ∷ (types_text us ++ 41 ∷ rest)) (sym same)),
        omega (arith, place, ap (λ (us : List WireType). length (types_text us)) same),
        subst (All (Fits a (b - 1))) (sym same) h,
        omega (arith, some, ap length same),
      ))
      (λ no. through (Outcome (Fits a (b - 1)) Any next (c ∷ rest)) (MoreOut ts) (type_at a (b - 1) next (c ∷ rest)) _ (inside next (c ∷ rest))
      (λ t tk. with_out ts t.0 (more_at n (type_at a (b - 1)) t.1 t.2)
      (more_out n t.1 t.2 (ts ++ t.0 ∷ [])
      (shorter t.0 t.2 tk.holds tk.parts)
      (some_last ts t.0)
      (All-append (Fits a (b - 1)) ts (t.0 ∷ []) h (All-cons (Fits a (b - 1)) t.0 [] tk.holds (All-nil (Fits a (b - 1)))))
      (parts ∙ (ap (λ (w : List ℕ). (40 ∷ types_text ts) ++ w) tk.parts ∙ ap (λ (w : List ℕ). 40 ∷ w) (sym (ap (λ (w : List ℕ). w ++ t.2) (types_append ts (t.0 ∷ []) ∙ ap (λ (w : List ℕ). types_text ts ++ w) (append-nil (type_text t.0))) ∙ append_assoc (types_text ts) (type_text t.0) t.2))))
      (omega (arith, place, tk.place, ap length (types_append ts (t.0 ∷ []) ∙ ap (λ (w : List ℕ). types_text ts ++ w) (append-nil (type_text t.0))), length-append (types_text ts) (type_text t.0)))))
      (λ e s. next_stops ts h e next (c ∷ rest) no parts place s))
    where
      shorter : (t : WireType) (left : List ℕ) → Fits a (b - 1) t → c ∷ rest ≡ type_text t ++ left → length left ≤ n
      shorter t left f e = let s = starts a (b - 1) t f in omega (arith, le, ap length e, length-append (type_text t) left, ap length s.2)

  members_out : (text : List ℕ) → whole ≡ 40 ∷ text → MoreOut [] (members_at (type_at a (b - 1)) (at + 1) text)
  unfolding members_at
  members_out text parts = through (Outcome (Fits a (b - 1)) Any (at + 1) text) (MoreOut []) (type_at a (b - 1) (at + 1) text) _ (inside (at + 1) text)
      (λ t tk. with_out [] t.0 (more_at (length t.2) (type_at a (b - 1)) t.1 t.2)
      (more_out (length t.2) t.1 t.2 (t.0 ∷ []) (omega arith) (omega arith) (All-cons (Fits a (b - 1)) t.0 [] tk.holds (All-nil (Fits a (b - 1))))
      (parts ∙ ap (λ (w : List ℕ). 40 ∷ w) (tk.parts ∙ ap (λ (w : List ℕ). w ++ t.2) (sym (append-nil (type_text t.0)))))
      (omega (arith, tk.place, ap length (append-nil (type_text t.0))))))
      (λ e s. wrap (λ c. Unit {0}) (Fits a (b - 1)) Any (Fits a b) Any (40 ∷ []) (member_up [] (All-nil (Fits a (b - 1)))) (any_up [] (All-nil (Fits a (b - 1))))
      (λ t x z f w eq. let d = struct_down a b t x z f eq in first_of (Fits a (b - 1)) d.0 x z d.2 d.3 d.4)
      (λ t x z f w eq. let d = struct_down f.0 f.1 t x z f.2 eq in let u = first_of (Fits f.0 (f.1 - 1)) d.0 x z d.2 d.3 d.4 in (u.0, u.1, (f.0, f.1 - 1, u.2), u.3))
      e at (at + 1) whole text (no_head text) parts (omega arith) s)
    where
      first_of : (K : Kinds) (us : List WireType) (x z : List ℕ) → 0 < length us → All K us → types_text us ++ 41 ∷ x ≡ z → (u : WireType) × (w : List ℕ) × K u × (type_text u ++ w ≡ z)
      first_of K [] x z some k e = absurd (omega (arith, some))
      first_of K (u ∷ us) x z some k e = (u, types_text us ++ 41 ∷ x, All-head K u us k, sym (append_assoc (type_text u) (types_text us) (41 ∷ x)) ∙ e)

-- ---- a type

abbrev TypeOut : ℕ → ℕ → Type 0
TypeOut a b = (at : ℕ) (text : List ℕ) → Outcome (Fits a b) Any at text (type_at a b at text)

type_none : (a b at : ℕ) → type_at a b at [] ≡ Err (BadSignature at)
unfolding type_at level_at one_at
type_none zero zero at = refl
type_none zero (suc b) at = refl
type_none (suc a) zero at = refl
type_none (suc a) (suc b) at = refl

some_viable : (a b : ℕ) → Viable (Fits a b) []
some_viable a b = byte_viable (Fits a b) (byte_fits a b)

array_out : (a b at : ℕ) (rest : List ℕ) → 0 < a → ((c : ℕ) → TypeOut (a - 1) c) → Outcome (Fits a b) Any at (97 ∷ rest) (element_at (type_at (a - 1)) b (at + 1) rest >>= λ t. Ok (W.Array t.0, t.1, t.2))
array_out a b at rest lt inside = through (Outcome (ElementFits (a - 1) b) AnyElement (at + 1) rest) (Outcome (Fits a b) Any at (97 ∷ rest)) (element_at (type_at (a - 1)) b (at + 1) rest) _ (element_out (a - 1) b inside (at + 1) rest)
    (λ t tk. record { parts = ap (λ (w : List ℕ). 97 ∷ w) tk.parts ∙ ap (λ (w : List ℕ). w ++ t.2) (sym (text_array t.0)); place = omega (arith, tk.place, ap length (text_array t.0)); holds = array_fits a b t.0 lt tk.holds })
    (λ e s. wrap (λ c. Unit {0}) (ElementFits (a - 1) b) AnyElement (Fits a b) Any (97 ∷ [])
    (λ c v. (W.Array v.0, v.1, array_fits a b v.0 lt v.2, text_array v.0 ∙ ap (λ (w : List ℕ). 97 ∷ w) v.3))
    (λ c v. (W.Array v.0, v.1, (v.2.0 + 1, v.2.1, array_fits (v.2.0 + 1) v.2.1 v.0 (omega arith) (element_more v.2.0 (v.2.0 + 1 - 1) v.2.1 v.0 (omega arith) v.2.2)), text_array v.0 ∙ ap (λ (w : List ℕ). 97 ∷ w) v.3))
    (λ t x z h n eq. let d = array_down a b t x z h eq in (d.0, x, d.2, d.3))
    (λ t x z h n eq. let d = array_down h.0 h.1 t x z h.2 eq in (d.0, x, (h.0 - 1, h.1, d.2), d.3))
    e at (at + 1) (97 ∷ rest) rest (no_head rest) refl (omega arith) s)
  where
    element_more : (a c b : ℕ) (t : WireType) → a ≤ c → ElementFits a b t → ElementFits c b t
    element_more a c b t le h = (h.0, omega (arith, le, h.1), h.2)

struct_out : (a b at : ℕ) (rest : List ℕ) → 0 < b → TypeOut a (b - 1) → Outcome (Fits a b) Any at (40 ∷ rest) (members_at (type_at a (b - 1)) (at + 1) rest >>= λ ts. Ok (W.Struct ts.0, ts.1, ts.2))
struct_out a b at rest lt inside = through (MoreOut a b lt inside at (40 ∷ rest) []) (Outcome (Fits a b) Any at (40 ∷ rest)) (members_at (type_at a (b - 1)) (at + 1) rest) _ (members_out a b lt inside at (40 ∷ rest) rest refl)
    (λ ts h. record {
      parts = h.0 ∙ sym (ap (λ (w : List ℕ). w ++ ts.2) (text_struct ts.0) ∙ ap (λ (w : List ℕ). 40 ∷ w) (append_assoc (types_text ts.0) (41 ∷ []) ts.2));
      place = omega (arith, h.1, ap length (text_struct ts.0), length-append (types_text ts.0) (41 ∷ []));
      holds = struct_fits a b ts.0 lt h.3 h.2;
    })
    (λ e s. s)

type_step : (a b : ℕ) → ((c : ℕ) → 0 < a → TypeOut (a - 1) c) → (0 < b → TypeOut a (b - 1)) → TypeOut a b
type_step a b inside members at [] = subst (Outcome (Fits a b) Any at []) (sym (type_none a b at)) (stop_end (Fits a b) Any at (some_viable a b))
type_step a b inside members at (c ∷ rest) = subst (Outcome (Fits a b) Any at (c ∷ rest)) (sym (type_cell a b at c rest))
    (either (Outcome (Fits a b) Any at (c ∷ rest)) (c == 97) _ _
    (λ y. subst (λ (n : ℕ). Outcome (Fits a b) Any at (n ∷ rest) array) (sym (eqb-true c 97 y))
    (either (Outcome (Fits a b) Any at (97 ∷ rest)) (a == 0) _ _
    (λ z. stop_deep (Fits a b) Any at 97 rest (some_viable a b)
    (W.Array W.Byte, type_text W.Byte, (1, 0, array_fits 1 0 W.Byte (omega arith) (fits_element 0 0 W.Byte (byte_fits 0 0))), text_array W.Byte)
    (λ t x w h eq. let d = array_down a b t x w h eq in absurd (omega (arith, d.1, eqb-true a 0 z))))
    (λ n. let lt : 0 < a = omega (arith, eqb-false a 0 n) in array_out a b at rest lt (λ k. inside k lt))))
    (λ na. either (Outcome (Fits a b) Any at (c ∷ rest)) (c == 40) _ _
    (λ y. subst (λ (n : ℕ). Outcome (Fits a b) Any at (n ∷ rest) struct) (sym (eqb-true c 40 y))
    (either (Outcome (Fits a b) Any at (40 ∷ rest)) (b == 0) _ _
    (λ z. stop_deep (Fits a b) Any at 40 rest (some_viable a b)
    (W.Struct (W.Byte ∷ []), types_text (W.Byte ∷ []) ++ 41 ∷ [], (0, 1, struct_fits 0 1 (W.Byte ∷ []) (omega arith) (omega arith) (All-cons (Fits 0 0) W.Byte [] (byte_fits 0 0) (All-nil (Fits 0 0)))), text_struct (W.Byte ∷ []))
    (λ t x w h eq. let d = struct_down a b t x w h eq in absurd (omega (arith, d.1, eqb-true b 0 z))))
    (λ n. let lt : 0 < b = omega (arith, eqb-false b 0 n) in struct_out a b at rest lt (members lt))))
    (λ ns. code_out (Fits a b) Any at c rest (λ t k. code_fits a b c t k) (some_viable a b) (λ t x z h eq. code_down h.0 h.1 t c x z h.2 na ns eq))))
  where
    array : Read WireType
    array = cond (a == 0) (Err (TooDeep at)) (element_at (type_at (a - 1)) b (at + 1) rest >>= λ t. Ok (W.Array t.0, t.1, t.2))

    struct : Read WireType
    struct = cond (b == 0) (Err (TooDeep at)) (members_at (type_at a (b - 1)) (at + 1) rest >>= λ ts. Ok (W.Struct ts.0, ts.1, ts.2))

pub type_out : (a b : ℕ) → TypeOut a b
type_out = by_limits TypeOut type_step
