-- Reading types from the front of a text, as functions on lists: where a text is offered with the
-- place of its first byte, the answer is what stands in front, the place after it and what is left,
-- or the place where the reading stops.
--
-- What the public functions promise is said by the definitions of Types and Breaks. These functions
-- say what the inner functions of the reader do.
use Rattle.std.specs.Prelude.{◌≡◌, ℕ, zero, suc, ◌+◌, ◌-◌, ◌==◌, List, [], ◌∷◌, length, drop, Result, Ok, Err, if◌then◌else◌}
use Rattle.dbus_types.specs.declared.types.WireType.{WireType}
use Rattle.dbus_types.specs.declared.types.WireType.TheVariants as W
use Rattle.dbus_types.specs.declared.errors.SignatureError.{SignatureError}
use Rattle.dbus_types.specs.declared.errors.SignatureError.TheVariants.{BadSignature, TooDeep, Memory}

infixl 10 ◌>>=◌
abbrev pub ◌>>=◌ : {A B : Type 0} → Result A SignatureError → (A → Result B SignatureError)
    → Result B SignatureError
(Ok x) >>= f = f x
(Err e) >>= f = Err e

abbrev pub Fails : {Y : Type 0} → SignatureError → Result Y SignatureError → Type 0
Fails Memory read = Unit {0}
Fails e read = read ≡ Err e

-- What was returned, seen by view, is what reading gives, unless memory ran out.
abbrev pub Gives : {X Y : Type 0} → (X → Y) → Result X SignatureError → Result Y SignatureError
    → Type 0
Gives view (Ok x) read = read ≡ Ok (view x)
Gives view (Err e) read = Fails e read

-- the same where no memory is taken
abbrev pub Tells : {X Y : Type 0} → (X → Y) → Result X SignatureError → Result Y SignatureError
    → Type 0
Tells view (Ok x) read = read ≡ Ok (view x)
Tells view (Err e) read = read ≡ Err e

-- what was read, the place after it, and what is left
abbrev pub Read : Type 0 → Type 0
Read X = Result (X × ℕ × List ℕ) SignatureError

abbrev pub after : {X : Type 0} → List ℕ → X × ℕ → X × ℕ × List ℕ
after text x = (x.0, x.1, drop x.1 text)

abbrev pub place : List ℕ → ℕ → ℕ × List ℕ
place text next = (next, drop next text)

-- the type of a code that is a whole type
abbrev pub coded : ℕ → ℕ → Result WireType SignatureError
coded at c = if c == 121 then Ok W.Byte else if c == 98 then Ok W.Bool else if c == 110
    then Ok W.I16 else if c == 113 then Ok W.U16
    else if c == 105 then Ok W.I32 else if c == 117 then Ok W.U32 else if c == 120 then Ok W.I64
    else if c == 116 then Ok W.U64
    else if c == 100 then Ok W.Double else if c == 115 then Ok W.Str else if c == 111
    then Ok W.ObjectPath else if c == 103 then Ok W.Signature
    else if c == 104 then Ok W.Handle else if c == 118 then Ok W.Variant else Err (BadSignature at)

unfoldable pub code_at : ℕ → List ℕ → Read WireType
code_at at [] = Err (BadSignature at)
code_at at (c ∷ rest) = coded at c >>= λ t. Ok (t, at + 1, rest)

-- the type of a key
unfoldable pub key_at : ℕ → List ℕ → Read WireType
key_at at [] = Err (BadSignature at)
key_at at (c ∷ rest) = if c == 118 then Err (BadSignature at) else code_at at (c ∷ rest)

unfoldable pub closed : ℕ → ℕ → List ℕ → Result (ℕ × List ℕ) SignatureError
closed by at [] = Err (BadSignature at)
closed by at (c ∷ rest) = if c == by then Ok (at + 1, rest) else Err (BadSignature at)

-- this type, and those that were read
abbrev pub with_type : WireType → Read (List WireType) → Read (List WireType)
with_type t (Ok x) = Ok (t ∷ x.0, x.1, x.2)
with_type t (Err e) = Err e

-- types up to a closing parenthesis, at most so many
unfoldable pub more_at : ℕ → (ℕ → List ℕ → Read WireType) → ℕ → List ℕ → Read (List WireType)
more_at n r at [] = Err (BadSignature at)
more_at zero r at (c ∷ rest) = Err (BadSignature at)
more_at (suc n) r at (c ∷ rest) = if c == 41 then Ok ([], at + 1, rest) else r at (c ∷ rest)
    >>= λ t. with_type t.0 (more_at n r t.1 t.2)

-- the members of a struct, and the parenthesis after them
unfoldable pub members_at : (ℕ → List ℕ → Read WireType) → ℕ → List ℕ → Read (List WireType)
members_at r at text = r at text >>= λ t. with_type t.0 (more_at (length t.2) r t.1 t.2)

-- the type of an array's element; r reads a type within so many parentheses and braces
unfoldable pub element_at : (ℕ → ℕ → List ℕ → Read WireType) → ℕ → ℕ → List ℕ → Read WireType
element_at r brackets at [] = Err (BadSignature at)
element_at r brackets at (c ∷ rest) = if c == 123
    then (if brackets == 0 then Err (TooDeep at)
    else (key_at (at + 1) rest >>= λ k. r (brackets - 1) k.1 k.2 >>= λ v. closed 125 v.1 v.2
    >>= λ end.
    Ok (W.DictEntry k.0 v.0, end.0, end.1)))
    else r brackets at (c ∷ rest)

-- a type, where E reads the type of an element within so many parentheses and braces, and M that of
-- a member
unfoldable pub one_at : (ℕ → ℕ → List ℕ → Read WireType) → (ℕ → List ℕ → Read WireType) → ℕ → ℕ → ℕ
    → List ℕ → Read WireType
one_at E M arrays brackets at [] = Err (BadSignature at)
one_at E M arrays brackets at (c ∷ rest) = if c == 97
    then (if arrays == 0 then Err (TooDeep at) else (element_at E brackets (at + 1) rest >>= λ t.
    Ok (W.Array t.0, t.1, t.2)))
    else if c == 40 then (if brackets == 0 then Err (TooDeep at)
    else (members_at M (at + 1) rest >>= λ ts.
    Ok (W.Struct ts.0, ts.1, ts.2)))
    else code_at at (c ∷ rest)

unfoldable pub level_at : ℕ → (ℕ → ℕ → List ℕ → Read WireType) → ℕ → ℕ → List ℕ → Read WireType
level_at arrays E zero at text = one_at E code_at arrays 0 at text
level_at arrays E (suc brackets) at text =
    one_at E (level_at arrays E brackets) arrays (suc brackets) at text

-- a type within so many arrays, and so many parentheses and braces
unfoldable pub type_at : ℕ → ℕ → ℕ → List ℕ → Read WireType
type_at zero brackets at text = level_at 0 (λ b. code_at) brackets at text
type_at (suc arrays) brackets at text = level_at (suc arrays) (type_at arrays) brackets at text

abbrev pub with_first : WireType → Result (List WireType) SignatureError
    → Result (List WireType) SignatureError
with_first t (Ok ts) = Ok (t ∷ ts)
with_first t (Err e) = Err e

-- types up to the end, at most so many
unfoldable pub list_at : ℕ → (ℕ → List ℕ → Read WireType) → ℕ → List ℕ
    → Result (List WireType) SignatureError
list_at n r at [] = Ok []
list_at zero r at (c ∷ rest) = Err (BadSignature at)
list_at (suc n) r at (c ∷ rest) = r at (c ∷ rest) >>= λ t. with_first t.0 (list_at n r t.1 t.2)

-- the types of a whole text
abbrev pub whole_at : ℕ → ℕ → List ℕ → Result (List WireType) SignatureError
whole_at arrays brackets text = list_at (length text) (type_at arrays brackets) 0 text

-- a type that was read, where nothing stands after it
abbrev pub alone : WireType → ℕ → List ℕ → Result WireType SignatureError
alone t at [] = Ok t
alone t at (c ∷ rest) = Err (BadSignature at)

-- the one type of a whole text
abbrev pub single_at : ℕ → ℕ → List ℕ → Result WireType SignatureError
single_at arrays brackets text = type_at arrays brackets 0 text >>= λ t. alone t.0 t.1 t.2

-- the place after what was read, and what is left
abbrev pub placed : {X : Type 0} → Read X → Result (ℕ × List ℕ) SignatureError
placed (Ok x) = Ok (x.1, x.2)
placed (Err e) = Err e

abbrev pub passed : Result (List WireType) SignatureError → Result (Unit {0}) SignatureError
passed (Ok ts) = Ok tt
passed (Err e) = Err e
