-- The numbers that requests are drawn from, and what is taken of each.
use Rattle.std.specs.Prelude.{ℕ, zero, suc, ◌+◌, ◌*◌, ◌/◌, ◌%◌, ◌^◌, ◌==◌, nat_lt, if◌then◌else◌}
use Rattle.portal_load.specs.declared.draw.Asked.{Asked}
use Rattle.portal_load.specs.declared.draw.Asked.TheVariants.{Lookup, GetAttr, Open, Read, Write, Release, Rights}
use Rattle.portal_load.specs.declared.draw.Draw.{Draw}

-- ---- a linear congruential generator, with the factor and the addend of Knuth's MMIX

abbrev pub factor : ℕ
factor = 6364136223846793005

abbrev pub addend : ℕ
addend = 1442695040888963407

-- the number behind another
abbrev pub next : ℕ → ℕ
next number = (number * factor + addend) % 2 ^ 64

-- it begins with 1, and each request takes the next number; requests are counted from 1
abbrev pub number_of : ℕ → ℕ
number_of zero = 1
number_of (suc request) = next (number_of request)

-- ---- what is taken of a number

-- of the eight kinds two are a look-up
abbrev pub asked_by : ℕ → Asked
asked_by kind =
    if nat_lt kind 2 then Lookup
    else if kind == 2 then GetAttr
    else if kind == 3 then Open
    else if kind == 4 then Read
    else if kind == 5 then Write
    else if kind == 6 then Release
    else Rights

-- the upper half of a number is used: from its lowest digit on, one of four applications, one of
-- sixteen documents, one of eight kinds, and one of 1,024 places
abbrev pub draw_of : ℕ → Draw
draw_of upper = record {
  app = upper % 4;
  document = upper / 4 % 16;
  asked = asked_by (upper / 64 % 8);
  place = upper / 512 % 1024;
}

-- what a request is drawn as
abbrev pub drawn : ℕ → Draw
drawn request = draw_of (number_of request / 2 ^ 32)
