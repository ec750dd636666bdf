-- What a desk has of its own, and what it borrows.
use Rattle.std.specs.Prelude.{ℕ}
use Rattle.portal_core.specs.declared.local_desk.LocalDesk.{LocalDesk}

-- the number of its seat
abbrev pub seat_of : {S : Type 0} → LocalDesk S → ℕ
seat_of d = d.seat

-- how many of its requests were refused
abbrev pub refusals_of : {S : Type 0} → LocalDesk S → ℕ
refusals_of d = d.refusals

-- what keeps the history, and which one that is
abbrev pub keeper_of : {S : Type 0} → LocalDesk S → S
keeper_of d = d.portal.now

abbrev pub name_of_keeper : {S : Type 0} → LocalDesk S → ℕ
name_of_keeper d = d.portal.ghost_name
