-- The lines of the output.
use Rattle.std.specs.Prelude.{ℕ, List, [], ◌∷◌, ◌++◌, codes}
use Rattle.std.specs.Fmt.{decimal}
use Rattle.hex.specs.Hex.{encode_lower}
use Rattle.session.specs.declared.served.Served.{Served}
use Rattle.session.specs.declared.served.Served.TheVariants.{Ended, Cut, Malformed, LineTooLong}

abbrev pub space : ℕ
space = 32

abbrev pub line_feed : ℕ
line_feed = 10

-- the line "out N HEX" of a piece that is written on a connection, in lower-case hexadecimal digits
abbrev pub out_line : ℕ → List ℕ → List ℕ
out_line seat piece =
    codes "out " ++ (decimal seat ++ (space ∷ (encode_lower piece ++ line_feed ∷ [])))

-- how a connection ended: between items, inside one of which so many bytes came, at the byte at
-- which an item begins that breaks a rule, or at that of a line that is too long. A script meets no
-- other ending
abbrev pub ending_words : Served → List ℕ
ending_words Ended = codes "ended"
ending_words (Cut rest) = codes "cut " ++ decimal rest
ending_words (Malformed at rule) = codes "malformed " ++ (decimal at ++ (space ∷ decimal rule))
ending_words (LineTooLong at) = codes "long " ++ decimal at
ending_words other = []

-- the line "end N .." of a connection that ended so
abbrev pub end_line : ℕ → Served → List ℕ
end_line seat served =
    codes "end " ++ (decimal seat ++ (space ∷ (ending_words served ++ line_feed ∷ [])))
