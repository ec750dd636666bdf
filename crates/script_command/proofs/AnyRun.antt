-- A run of the program, of a script, of two scripts or of a load.
use Rattle.std.proofs.Common.{◌≡◌, ℕ, List, [], Option, refl, sym, subst, inl, inr}
use Rattle.script_command.specs.declared.command.Command.TheVariants.{Generate, Worlds}
use Rattle.script_replay.specs.declared.status.Status.{Status}
use Rattle.script_replay.specs.declared.status.Status.TheVariants.{Done, Usage, ScriptFault, ReadFault, WriteFault, Memory, TooLong}
use Rattle.script_command.specs.Commands.{IsCommand, IsNoCommand, NamesApp, replay_words}
use Rattle.script_command.specs.Generated.{RanAny}
use Rattle.script_command.specs.Runs.{Ran, Risen}
use Rattle.script_command.specs.Worlds.{RanWorlds}
use Rattle.script_command.proofs.BytesAhead.{behind_none}
use Rattle.script_command.proofs.LoadRun.{Generated}
use Rattle.script_command.proofs.ReplayScript.{ran_unknown}
use Rattle.script_replay.proofs.RunLines.{onto_none}

pub any_replay : (words : List (List ℕ)) (left left' : Option (List ℕ)) (told told' : Option (List (List ℕ))) (status : Status) → words ≡ replay_words → Ran replay_words left left' told told' status → RanAny words left left' told told' status
any_replay words left left' told told' status w r = inr (inr (subst (λ (x : List (List ℕ)). Ran x left left' told told' status) (sym w) r))

pub any_worlds : (words : List (List ℕ)) (left left' : Option (List ℕ)) (told told' : Option (List (List ℕ))) (status : Status) (app : List ℕ) → IsCommand words (Worlds app) → RanWorlds app left left' told told' status → RanAny words left left' told told' status
any_worlds words left left' told told' status app asked r = inr (inl (app, asked, r))

pub any_nameless : (words : List (List ℕ)) (left : Option (List ℕ)) (told : Option (List (List ℕ))) → NamesApp words → RanAny words left left told told Memory
any_nameless words left told n = inr (inl (n.0, n.1, record { text = []; pieces = []; read = behind_none left; wrote = onto_none told; cause = refl }))

pub any_unknown : (words : List (List ℕ)) (left : Option (List ℕ)) (told : Option (List (List ℕ))) → IsNoCommand words → RanAny words left left told told Usage
any_unknown words left told n = inr (inr (ran_unknown words left told n))

pub any_load : (words : List (List ℕ)) (left : Option (List ℕ)) (told told' : Option (List (List ℕ))) (status : Status) (count : ℕ) → IsCommand words (Generate count) → Generated count told told' status → RanAny words left left told told' status
any_load words left told told' status count asked g = inl (record { count = count; asked = asked; unread = refl; pieces = g.0; wrote = g.1; generates = g.2 })

-- nothing is read of the source
pub risen_load : (count : ℕ) (told told' : Option (List (List ℕ))) (reads writes writes' : ℕ) (status : Status) → Generated count told told' status → Risen status 0 0 writes writes' → Risen status reads reads writes writes'
risen_load count told told' reads writes writes' Done g r = (refl, r.1)
risen_load count told told' reads writes writes' Usage g r = (refl, r.1)
risen_load count told told' reads writes writes' (ScriptFault line) g r = (refl, r.1)
risen_load count told told' reads writes writes' ReadFault g r = absurd g.2
risen_load count told told' reads writes writes' WriteFault g r = (refl, r.1)
risen_load count told told' reads writes writes' Memory g r = (refl, r.1)
risen_load count told told' reads writes writes' TooLong g r = (refl, r.1)
