-- Room in a buffer.
use Rattle.std.specs.Prelude.{ℕ, ◌+◌, ◌≤◌, vec_len, vec_capacity}
use Rattle.std.specs.declared.vec.Vec.{Vec}

-- so many more bytes have room where it stands
abbrev pub HasRoom : {Z : Type 0} → Vec ℕ Z → ℕ → Type 0
HasRoom buffer count = vec_len buffer + count ≤ vec_capacity buffer

-- no more of the room than that of so many bytes is gone
abbrev pub TakesRoom : {Z : Type 0} → Vec ℕ Z → ℕ → Vec ℕ Z → Type 0
TakesRoom before count after =
    vec_len after + vec_capacity before ≤ vec_capacity after + (vec_len before + count)
