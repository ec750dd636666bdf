-- The lines of the server (D-Bus Specification, "Authentication Protocol").
use Rattle.std.specs.Prelude.{ℕ, List, [], ◌∷◌, ◌++◌, codes}
use Rattle.hex.specs.Hex.{encode_lower}

-- the two bytes that end each line
abbrev pub cr_lf : List ℕ
cr_lf = 13 ∷ 10 ∷ []

-- `OK` and the server's GUID, each of its 16 bytes as two lower-case hexadecimal digits
abbrev pub ok_line : List ℕ → List ℕ
ok_line guid = codes "OK " ++ encode_lower guid ++ cr_lf

-- `DATA`: the client is asked for its data
abbrev pub data_line : List ℕ
data_line = codes "DATA" ++ cr_lf

-- `REJECTED` and the mechanisms of this server
abbrev pub rejected_line : List ℕ
rejected_line = codes "REJECTED EXTERNAL" ++ cr_lf

-- `ERROR`: the line was not understood or has no place here
abbrev pub error_line : List ℕ
error_line = codes "ERROR" ++ cr_lf
