-- A seat stays what it is through any number of calls.
use Rattle.std.specs.Prelude.{refl}
use Rattle.std.proofs.Common.{◌∙◌, arith}
use Rattle.turn_desk.specs.Sights.{Sight, Stays}

pub stays_put : (s : Sight) → Stays s s
stays_put s = record {
  table = refl;
  seat = record { number = refl; opening = refl; base = refl; made = refl };
  read = omega arith;
}

pub stays_further : (s t u : Sight) → Stays s t → Stays t u → Stays s u
stays_further s t u h k = record {
  table = k.table ∙ h.table;
  seat = record {
    number = k.seat.number ∙ h.seat.number;
    opening = k.seat.opening ∙ h.seat.opening;
    base = k.seat.base ∙ h.seat.base;
    made = k.seat.made ∙ h.seat.made;
  };
  read = let a = h.read in let b = k.read in omega arith;
}
