-- How a path is read byte by byte. The rule itself is in `Names`; this is what the reader keeps.
use Rattle.std.specs.Prelude.{ℕ, Option, Some, None, Bool, true, false, ◌==◌, nat_lt, if◌then◌else◌}
use Rattle.std.specs.Int.{is_in_range}
use Rattle.portal_base.specs.declared.names.path_reader.Part.{Part}
use Rattle.portal_base.specs.declared.names.path_reader.Part.TheVariants.{Unread, Root, Empty, Dot, Dots, Named}
use Rattle.portal_base.specs.declared.names.path_reader.Next.{Next}
use Rattle.portal_base.specs.declared.names.path_reader.Next.TheVariants.{Lead, Last, TwoMore, ThreeMore, AfterE0, AfterEd, AfterF0, AfterF4}

-- ---- parts

abbrev pub after_slash : Part → Option Part
after_slash Unread = Some Root
after_slash Root = None
after_slash Empty = None
after_slash Dot = None
after_slash Dots = None
after_slash Named = Some Empty

abbrev pub after_dot : Part → Option Part
after_dot Unread = None
after_dot Root = Some Dot
after_dot Empty = Some Dot
after_dot Dot = Some Dots
after_dot Dots = Some Named
after_dot Named = Some Named

abbrev pub after_other : Part → Option Part
after_other Unread = None
after_other Root = Some Named
after_other Empty = Some Named
after_other Dot = Some Named
after_other Dots = Some Named
after_other Named = Some Named

-- what the part is after one more byte, where there can be such a path
abbrev pub part_after : Part → ℕ → Option Part
part_after s b = if b == 0 then None
    else (if b == 47 then after_slash s else (if b == 46 then after_dot s else after_other s))

-- a path may end here
abbrev pub is_whole_part : Part → Bool
is_whole_part Unread = false
is_whole_part Root = true
is_whole_part Empty = false
is_whole_part Dot = false
is_whole_part Dots = false
is_whole_part Named = true

-- ---- UTF-8 (Unicode, table 3-7)

abbrev pub after_lead : ℕ → Option Next
after_lead b = if nat_lt b 0x80 then Some Lead
    else (if nat_lt b 0xC2 then None else (if nat_lt b 0xE0 then Some Last
    else (if b == 0xE0 then Some AfterE0
    else (if b == 0xED then Some AfterEd else (if nat_lt b 0xF0 then Some TwoMore
    else (if b == 0xF0 then Some AfterF0
    else (if nat_lt b 0xF4 then Some ThreeMore
    else (if b == 0xF4 then Some AfterF4 else None))))))))

-- these bytes go on, and others don't
abbrev pub within : ℕ → ℕ → ℕ → Next → Option Next
within least most b next = if is_in_range least most b then Some next else None

-- what may come after one more byte, where there can be such a text
abbrev pub next_after : Next → ℕ → Option Next
next_after Lead b = after_lead b
next_after Last b = within 0x80 0xBF b Lead
next_after TwoMore b = within 0x80 0xBF b Last
next_after ThreeMore b = within 0x80 0xBF b TwoMore
next_after AfterE0 b = within 0xA0 0xBF b Last
next_after AfterEd b = within 0x80 0x9F b Last
next_after AfterF0 b = within 0x90 0xBF b TwoMore
next_after AfterF4 b = within 0x80 0x8F b TwoMore

-- no character is cut here
abbrev pub is_lead : Next → Bool
is_lead Lead = true
is_lead Last = false
is_lead TwoMore = false
is_lead ThreeMore = false
is_lead AfterE0 = false
is_lead AfterEd = false
is_lead AfterF0 = false
is_lead AfterF4 = false
