-- The calls of a device that tells them.
use Rattle.std.specs.Prelude.{◌≡◌, ℕ, ◌==◌, List, Bool, Option, IfSome}
use Rattle.std.specs.List.{list_any}
use Rattle.portal_base.specs.Outside.{rises_by}
use Rattle.portal_base.specs.Devices.{count_after}

-- the calls so far, and the numbers of those that are to fail, counted from 1
pub record Calls : Type 0 where
  pub made : ℕ
  pub failing : List ℕ

-- one call more, whose number is the number of calls with it
abbrev pub next_call : Calls → Calls
next_call calls = record calls { made = rises_by calls.made 1 }

abbrev pub is_to_fail : Calls → Bool
is_to_fail calls = list_any (λ number. number == calls.made) calls.failing

-- where calls are told, the next one fails exactly where its number is among those that are to
abbrev pub FailsAsTold : Option Calls → Bool → Type 0
FailsAsTold calls failed = IfSome calls (λ told. failed ≡ is_to_fail (next_call told))

-- the calls of a device in memory, and how many of them failed
pub record Counted : Type 0 where
  pub calls : Calls
  pub faults : ℕ

-- none so far
abbrev pub uncalled : List ℕ → Counted
uncalled failing = record { calls = record { made = 0; failing = failing }; faults = 0 }

-- one call more, and one fault more where it failed
abbrev pub counted : Counted → Bool → Counted
counted old failed = record { calls = next_call old.calls; faults = count_after old.faults failed }
