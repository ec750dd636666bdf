-- Numbers of a frame and their spelling, least byte first.
use Rattle.std.specs.Prelude.{ℕ, List, [], ◌∷◌, ◌++◌}
use Rattle.byteorder.specs.Endian.{little_bytes}
use Rattle.fuse_reply.specs.declared.field.Field.{Field}
use Rattle.fuse_reply.specs.declared.field.Field.TheVariants.{Two, Four, Eight}

abbrev pub spelled_field : Field → List ℕ
spelled_field (Two number) = little_bytes 2 number
spelled_field (Four number) = little_bytes 4 number
spelled_field (Eight number) = little_bytes 8 number

-- the fields, one after another
abbrev pub spelled : List Field → List ℕ
spelled [] = []
spelled (field ∷ fields) = spelled_field field ++ spelled fields
