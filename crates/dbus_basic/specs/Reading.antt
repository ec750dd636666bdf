-- Answers of readers.
use Rattle.std.specs.Prelude.{◌≡◌, ℕ, List, drop, Result, Ok, Err}
use Rattle.dbus_basic.specs.declared.error.ReadError.{ReadError}
use Rattle.dbus_basic.specs.declared.error.ReadError.TheVariants.{Memory}

-- one step, and then the next where the first gave something
infixl 10 ◌>>=◌
abbrev pub ◌>>=◌ : {A B : Type 0} → Result A ReadError → (A → Result B ReadError)
    → Result B ReadError
(Ok x) >>= f = f x
(Err e) >>= f = Err e

-- Reading breaks so, or memory ran out.
abbrev pub Fails : {Y : Type 0} → ReadError → Result Y ReadError → Type 0
Fails Memory read = Unit {0}
Fails e read = read ≡ Err e

-- What was returned, seen by view, is what reading gives, unless memory ran out.
abbrev pub Gives : {X Y : Type 0} → (X → Y) → Result X ReadError → Result Y ReadError → Type 0
Gives view (Ok x) read = read ≡ Ok (view x)
Gives view (Err e) read = Fails e read

-- What was read is such a thing, unless memory ran out.
abbrev pub IsRead : {X : Type 0} → Result X ReadError → (X → Type 0) → Type 0
IsRead (Ok x) P = P x
IsRead (Err Memory) P = Unit {0}
IsRead (Err e) P = ⊥

-- What was answered is such an error, unless something was read or memory ran out.
abbrev pub IsStopped : {X : Type 0} → Result X ReadError → (ReadError → Type 0) → Type 0
IsStopped (Ok x) P = Unit {0}
IsStopped (Err Memory) P = Unit {0}
IsStopped (Err e) P = P e

-- This error was answered, unless memory ran out.
abbrev pub IsRefused : {X : Type 0} → ReadError → Result X ReadError → Type 0
IsRefused error (Ok x) = ⊥
IsRefused error (Err Memory) = Unit {0}
IsRefused error (Err e) = e ≡ error

-- a reader's answer: what was read, the offset after it, and the bytes from there on
abbrev pub Read : Type 0 → Type 0
Read X = Result (X × ℕ × List ℕ) ReadError

-- what was read, and the offset and the bytes after it
abbrev pub after : {X : Type 0} → List ℕ → X × ℕ → X × ℕ × List ℕ
after bytes x = (x.0, x.1, drop x.1 bytes)

-- an offset, and the bytes from there on
abbrev pub place : List ℕ → ℕ → ℕ × List ℕ
place bytes next = (next, drop next bytes)

-- the place after what is read, without it
abbrev pub past : {X : Type 0} → Read X → Result (ℕ × List ℕ) ReadError
past (Ok x) = Ok (x.1, x.2)
past (Err e) = Err e

-- whether something is read, without it
abbrev pub verdict : {X : Type 0} → Result X ReadError → Result (Unit {0}) ReadError
verdict (Ok x) = Ok tt
verdict (Err e) = Err e
