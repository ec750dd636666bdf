-- The worked examples, by computation.
use lib.Utf8.{encode}
use Rattle.std.proofs.Common.{◌≡◌, List, [], ◌∷◌, Bool, true, false, refl, ap, arith}
use Rattle.std.specs.List.{IsDistinct}
use Rattle.std.specs.Str.{is_utf8, chars}
use Rattle.portal_base.specs.Names.{is_host_path}
use Rattle.portal_model.specs.Opening.{opened}
use Rattle.portal_model.specs.Valid.{Valid}
use Rattle.portal_model.proofs.ExampleProofs.{a_path, editor_name, other_name}
use Rattle.portal_model.proofs.GenerationsValid.{first-generations}
use Rattle.app_world.specs.Examples.{b_text, with_another, EffectsOnAView, TracesTellWhatIsHeld}
use Rattle.app_world.specs.View.{HeldDocument}
use Rattle.app_world.specs.World.{Trace}

b_path : is_host_path b_text ≡ true
unfolding is_host_path is_utf8 chars encode
b_path = refl

valid_with_another : Valid (opened with_another)
unfolding IsDistinct
valid_with_another = record {
  numbers_differ = ((refl, tt), (tt, tt));
  numbers_made = refl;
  identifiers = refl;
  paths = rw (a_path, b_path) refl;
  folders_sound = refl;
  applications_differ = ((refl, tt), (tt, tt));
  names = rw (editor_name, other_name) refl;
  rights_in_order = refl;
  rights_placed = refl;
  seats_differ = tt;
  connections_sound = refl;
  namings_sound = tt;
  temps_sound = tt;
  temps_taken = refl;
  handles_differ = tt;
  handles_sound = refl;
  handles_made = refl;
  handles_taken = refl;
  handles_within = refl;
  entries_differ = tt;
  entries_sound = refl;
  files_differ = ((refl, tt), (tt, tt));
  files_apart = refl;
  files_named = rw (b_path, a_path) refl;
  files_told = λ e. cc;
  generations_sound = first-generations true _ refl;
  documents_within = omega arith;
  made_within = omega arith;
  applications_within = omega arith;
  made_limit = omega arith;
  queued_limit = omega arith;
}

-- whether the first document of the opening view may be written
first_written : List HeldDocument → Bool
first_written [] = false
first_written (d ∷ ds) = d.rights.write

pub traces : TracesTellWhatIsHeld
unfolding first_written
traces = record {
  legal = record { opening = valid_with_another; lawful = (record { given = (other_name, refl) }, (record { given = (editor_name, refl) }, (record { given = (refl, refl) }, (record { given = record { clock = refl; listed = refl; generation = refl; words = refl; numbers = refl; full = refl; keeper = λ e. cc; looks = (refl, (refl, refl)) } }, (record { given = record { clock = refl; listed = refl; generation = refl; words = refl; numbers = refl; full = refl; keeper = λ e. cc; looks = (refl, (refl, refl)) } }, tt))))) };
  same = refl;
  own_rights = λ e. let p : false ≡ true = ap (λ (t : Trace). first_written t.opening.documents) e in cc;
}

pub effects : EffectsOnAView
effects = record {
  joins_below = refl;
  joins_above = refl;
  gains = refl;
  stays_as_it_was = refl;
  same_path = refl;
  loses_one = refl;
  loses_last = refl;
  loses_other = refl;
  path_stays = refl;
  goes = refl;
  one_of_two_goes = refl;
  other_goes = refl;
  changes = refl;
  other_path = refl;
  other_generation = refl;
  first_file = refl;
  no_first_file = refl;
  folder_stays = refl;
}
