-- A comparison of a whole text is the run of a comparison.
use Rattle.std.proofs.Common.{◌≡◌, ℕ, List, Option}
use Rattle.portal_base.specs.Outside.{onto}
use Rattle.script_replay.specs.declared.status.Status.{Status}
use Rattle.script_replay.specs.declared.status.Status.TheVariants as status
use Rattle.script_command.specs.Inputs.{IsWhole}
use Rattle.script_command.specs.Worlds.{Compares, RanWorlds, WhyCompared}

why : (app text : List ℕ) (left left' : Option (List ℕ)) (pieces : List (List ℕ)) (ended : Status) → IsWhole left text left' → Compares app text pieces ended → WhyCompared app text left' pieces ended
why app text left left' pieces status.Done whole c = (whole.within, whole.ended, c)
why app text left left' pieces status.Usage whole c = (whole.within, whole.ended, c)
why app text left left' pieces (status.ScriptFault line) whole c = (whole.within, whole.ended, c)
why app text left left' pieces status.ReadFault whole (first, second, are, bad) = absurd bad
why app text left left' pieces status.WriteFault whole c = (whole.within, whole.ended, c)
why app text left left' pieces status.Memory whole c = c
why app text left left' pieces status.TooLong whole (first, second, are, bad) = absurd bad

pub ran : (app text : List ℕ) (left left' : Option (List ℕ)) (told told' : Option (List (List ℕ))) (ended : Status) → IsWhole left text left' → ((pieces : List (List ℕ)) × (told' ≡ onto told pieces) × Compares app text pieces ended) → RanWorlds app left left' told told' ended
ran app text left left' told told' ended whole (pieces, wrote, c) = record {
  text = text;
  pieces = pieces;
  read = whole.read;
  wrote = wrote;
  cause = why app text left left' pieces ended whole c;
}
