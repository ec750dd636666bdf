-- A text replayed, and a run of the program.
use Rattle.std.proofs.Common.{◌≡◌, ℕ, ◌+◌, ◌*◌, ◌≤◌, List, [], ◌∷◌, ◌++◌, length, Option, refl, sym, ap, ◌∙◌, subst, inl, inr, ◌⊎◌, append_assoc, arith}
use Rattle.std.proofs.lemmas.List.{append-nil}
use Rattle.portal_base.specs.Outside.{Short, onto}
use Rattle.portal_model.specs.declared.entry.Entry.{Entry}
use Rattle.portal_model.specs.History.{cost, run}
use Rattle.portal_model.specs.State.{State}
use Rattle.portal_model.specs.Store.{Entries}
use Rattle.portal_model.specs.Valid.{Valid}
use Rattle.portal_steps.specs.Story.{limit_of, state_first, state_now}
use Rattle.script_lines.specs.declared.script.ScriptLine.{ScriptLine}
use Rattle.script_lines.specs.Lines.{text_of}
use Rattle.record_keeper.specs.KeptEntries.{KeepEntries}
use Rattle.record_keeper.proofs.KeptFacts.{kept_in_one_way}
use Rattle.script_form.specs.Opening.{entries_of}
use Rattle.script_form.specs.Outside.{Outside}
use Rattle.script_form.specs.Order.{IsRead, IsFault, IsScript, StandBehind}
use Rattle.script_command.specs.declared.input.InputError.{InputError}
use Rattle.script_command.specs.declared.input.InputError.TheVariants as input
use Rattle.script_replay.specs.declared.status.Status.{Status}
use Rattle.script_replay.specs.declared.status.Status.TheVariants.{Done, Usage, ScriptFault, ReadFault, WriteFault, Memory, TooLong}
use Rattle.script_command.specs.Inputs.{script_limit, AtEnd, IsWhole, Stops}
use Rattle.script_replay.specs.Plays.{Plays, PlaysAll, PlaysPart, PlaysUpTo, PlayStops}
use Rattle.script_command.specs.Commands.{replay_words, IsNoCommand}
use Rattle.script_command.specs.Runs.{Cause, IsReplay, Ran, Replays, Risen, WroteShort, WroteUpTo}
use Rattle.script_replay.specs.Scenes.{Scene, ScriptPortal, first_scene, held_in, opening_state, outside_at, run_limits, sessions_of}
use Rattle.script_replay.specs.Steps.{Agrees, MayPlay, scene}
use Rattle.script_replay.specs.Started.{StartsScript}
use Rattle.script_command.proofs.BytesAhead.{behind_none}
use Rattle.script_replay.proofs.HeldBytes.{nothing_held}
use Rattle.script_command.proofs.OneOutput.{plays_one}
use Rattle.script_replay.proofs.RunLines.{onto_none, plays_cost, text_joined}
use Rattle.script_command.proofs.SoundHistory.{script_opens, sound}

-- ---- a text

-- what replaying a text comes to
abbrev pub Replayed : List ℕ → Option (List (List ℕ)) → Option (List (List ℕ)) → Status → Type 0
Replayed text told told' status = (pieces : List (List ℕ)) × (told' ≡ onto told pieces) × Replays text pieces status

front_room : (entries : Entries) (text : List ℕ) (lines front later : List ScriptLine) (history : List Entry) (out : List (List ℕ)) (last : Scene) → length text ≤ script_limit → IsRead text lines
    → Plays (first_scene entries lines) front history out last → lines ≡ front ++ later → cost history + 8 * (held_in last + length (text_of later)) ≤ run_limits.history
front_room entries text lines front later history out last short script plays e =
    let most = plays_cost front later [] (first_scene entries lines) last history out (subst (StandBehind []) e script.good) plays in
    let none = nothing_held (first_scene entries lines) (λ n. refl) in
    let cut : length text ≡ length (text_of lines) = ap length script.whole in
    let both : length (text_of lines) ≡ length (text_of front) + length (text_of later) = ap (λ (z : List ScriptLine). length (text_of z)) e ∙ text_joined front later in
    omega arith

pub is_replay : (entries : Entries) (text : List ℕ) (lines front later : List ScriptLine) (history : List Entry) (out : List (List ℕ)) (last : Scene) → KeepEntries (entries_of lines) entries → length text ≤ script_limit → IsRead text lines → lines ≡ front ++ later → Valid (opening_state entries lines)
    → Plays (first_scene entries lines) front history out last → IsReplay lines front history out last
is_replay entries text lines front later history out last kept short script ahead valid plays = record {
  entries = entries;
  kept = kept;
  plays = plays;
  only = λ held h o b k p.
      let same = kept_in_one_way (entries_of lines) held entries k kept in
      plays_one front (first_scene entries lines) b last h history o out refl (subst (λ (z : Entries). Plays (first_scene z lines) front h o b) same p) plays;
  sound = sound entries lines front history out last (script_opens entries lines script.good kept valid) valid plays;
  room = λ later e. front_room entries text lines front later history out last short script plays e;
}

-- and it is the one with these entries
pub is_replay_with : (entries : Entries) (text : List ℕ) (lines front later : List ScriptLine) (history : List Entry) (out : List (List ℕ)) (last : Scene) → KeepEntries (entries_of lines) entries → length text ≤ script_limit → IsRead text lines → lines ≡ front ++ later → Valid (opening_state entries lines)
    → Plays (first_scene entries lines) front history out last → (replay : IsReplay lines front history out last) × (replay.entries ≡ entries)
unfolding is_replay
is_replay_with entries text lines front later history out last kept short script ahead valid plays = (is_replay entries text lines front later history out last kept short script ahead valid plays, refl)

-- a text of these lines, whose opening is valid, and a portal that opened so
module _ (text : List ℕ) (lines : List ScriptLine) (entries : Entries) (kept : KeepEntries (entries_of lines) entries) (size : length text ≤ script_limit) (script : IsRead text lines) (valid : Valid (opening_state entries lines)) (told told' : Option (List (List ℕ))) where
  played_part : PlaysPart (first_scene entries lines) lines told told' → (pieces : List (List ℕ)) × (told' ≡ onto told pieces) × WroteShort text pieces
  played_part p = (
    p.pieces,
    p.output,
    record {
      lines = lines;
      script = script;
      front = p.front;
      later = p.plays.0;
      ahead = p.plays.1;
      history = p.history;
      out = p.out;
      last = p.last;
      replay = is_replay entries text lines p.front p.plays.0 p.history p.out p.last kept size script p.plays.1 valid p.plays.2;
      output = p.part;
    },
  )

  played_up_to : PlaysUpTo (first_scene entries lines) lines told told' → Replayed text told told' Memory
  played_up_to p = (
    p.out,
    p.output,
    inr (record {
      lines = lines;
      script = script;
      front = p.front;
      line = p.line;
      later = p.later;
      ahead = p.ahead;
      history = p.history;
      last = p.last;
      replay = is_replay entries text lines p.front (p.line ∷ p.later) p.history p.out p.last kept size script p.ahead valid p.plays;
    }),
  )

  stopped : (faults faults' : ℕ) (status : Status) → PlayStops (first_scene entries lines) lines told faults told' faults' status → Replayed text told told' status
  stopped faults faults' Done p = absurd p
  stopped faults faults' Usage p = absurd p
  stopped faults faults' (ScriptFault line) p = absurd p
  stopped faults faults' ReadFault p = absurd p
  stopped faults faults' WriteFault p = played_part p.1
  stopped faults faults' Memory p = played_up_to p.1
  stopped faults faults' TooLong p = absurd p

ended : (text : List ℕ) (lines : List ScriptLine) (entries : Entries) (told told' : Option (List (List ℕ))) (history : List Entry) (out : List (List ℕ)) (last : Scene)
    → KeepEntries (entries_of lines) entries → length text ≤ script_limit → IsRead text lines → Valid (opening_state entries lines) → Plays (first_scene entries lines) lines history out last → told' ≡ onto told out → Replayed text told told' Done
ended text lines entries told told' history out last kept size script valid plays output = (
  out,
  output,
  record { lines = lines; script = script; history = history; last = last; replay = is_replay entries text lines lines [] history out last kept size script (sym (append-nil lines)) valid plays },
)

pub stopped_risen : (lines : List ScriptLine) (s : Scene) (told told' : Option (List (List ℕ))) (faults faults' : ℕ) (status : Status)
    → PlayStops s lines told faults told' faults' status → Risen status 0 0 faults faults'
stopped_risen lines s told told' faults faults' Done p = absurd p
stopped_risen lines s told told' faults faults' Usage p = absurd p
stopped_risen lines s told told' faults faults' (ScriptFault line) p = absurd p
stopped_risen lines s told told' faults faults' ReadFault p = absurd p
stopped_risen lines s told told' faults faults' WriteFault p = (refl, p.0)
stopped_risen lines s told told' faults faults' Memory p = (refl, p.0)
stopped_risen lines s told told' faults faults' TooLong p = absurd p

pub replayed_none : (text : List ℕ) (told : Option (List (List ℕ))) → Replayed text told told Memory
replayed_none text told = ([], onto_none told, inl refl)

-- ---- over a portal that was just started

-- the script's portal begins in the scene that the script opens with
module _ (text : List ℕ) (lines slice : List ScriptLine) (p : ScriptPortal) (size : length text ≤ script_limit) (b : IsRead text lines) (is : slice ≡ lines) (h : StartsScript lines p) where
  none : state_now p.story ≡ opening_state h.entries lines
  none = ap (run (state_first p.story)) h.history ∙ h.state

  pub scene_is : scene p [] ≡ first_scene h.entries lines
  scene_is =
      ap (λ (z : State). record { portal = z; outside = outside_at p; sessions = sessions_of [] }) none
      ∙ ap (λ (z : Outside). record { portal = opening_state h.entries lines; outside = z; sessions = sessions_of [] }) h.outside

  pub may_replay : MayPlay [] p [] slice
  may_replay =
      let cut : length text ≡ length (text_of lines) = ap length b.whole in
      let nothing : cost p.story.history ≡ 0 = ap cost h.history in
      let limit : limit_of p.story ≡ run_limits.history = ap (λ (z : State). z.limits.history) h.state in
      let empty = nothing_held (scene p []) (λ n. refl) in
      subst (λ (x : List ScriptLine). MayPlay [] p [] x) (sym is) (record {
        stand = b.good;
        told = ap (λ (z : State). z.told) h.state;
        agrees = subst Agrees (sym scene_is) (record { going = λ n. tt; bound_alike = λ n. refl });
        closed = λ n h. refl;
        room = omega arith;
        space = λ n. tt;
        short = omega arith;
      })

  pub replay_stops : (told told' : Option (List (List ℕ))) (faults faults' : ℕ) (status : Status) → PlayStops (scene p []) slice told faults told' faults' status → Replayed text told told' status
  replay_stops told told' faults faults' status k =
      stopped text lines h.entries h.kept size b h.valid told told' faults faults' status
      (subst (λ (x : List ScriptLine). PlayStops (first_scene h.entries lines) x told faults told' faults' status) is (subst (λ (x : Scene). PlayStops x slice told faults told' faults' status) scene_is k))

  pub replays_all : (q : ScriptPortal) (told told' : Option (List (List ℕ))) → PlaysAll p q slice told told' → Replayed text told told' Done
  replays_all q told told' k =
      let plays : Plays (first_scene h.entries lines) lines k.history k.out k.last =
      subst (λ (x : List ScriptLine). Plays (first_scene h.entries lines) x k.history k.out k.last) is (subst (λ (x : Scene). Plays x slice k.history k.out k.last) scene_is k.plays) in
      ended text lines h.entries told told' k.history k.out k.last h.kept size b h.valid plays k.output

-- ---- the whole run

cause_of : (words : List (List ℕ)) (t : List ℕ) (left : Option (List ℕ)) (pieces : List (List ℕ)) (status : Status)
    → words ≡ replay_words → length t ≤ script_limit → AtEnd left → Replays t pieces status → Cause words t left pieces status
cause_of words t left pieces Done w l e r = (w, l, e, r)
cause_of words t left pieces Usage w l e r = absurd r
cause_of words t left pieces (ScriptFault line) w l e r = (w, l, e, r.0, r.1)
cause_of words t left pieces ReadFault w l e r = absurd r
cause_of words t left pieces WriteFault w l e r = (w, l, e, r)
cause_of words t left pieces Memory w l e r = (w, elim r as (λ _. (pieces ≡ []) ⊎ ((length t ≤ script_limit) × AtEnd left × WroteUpTo t pieces)) [ inl none ↦ inl none | inr front ↦ inr (l, e, front) ])
cause_of words t left pieces TooLong w l e r = absurd r

pub ran_whole : (words : List (List ℕ)) (text : List ℕ) (left left' : Option (List ℕ)) (told told' : Option (List (List ℕ))) (status : Status)
    → words ≡ replay_words → IsWhole left text left' → Replayed text told told' status → Ran words left left' told told' status
ran_whole words text left left' told told' status w whole r =
    record { text = text; pieces = r.0; read = whole.read; wrote = r.1; cause = cause_of words text left' r.0 status w whole.within whole.ended r.2 }

pub risen_whole : (status : Status) (text : List ℕ) (pieces : List (List ℕ)) (reads reads' writes writes' : ℕ) → reads' ≡ reads → Replays text pieces status → Risen status 0 0 writes writes' → Risen status reads reads' writes writes'
risen_whole Done text pieces reads reads' writes writes' same r h = (same, h.1)
risen_whole Usage text pieces reads reads' writes writes' same r h = absurd r
risen_whole (ScriptFault line) text pieces reads reads' writes writes' same r h = (same, h.1)
risen_whole ReadFault text pieces reads reads' writes writes' same r h = absurd r
risen_whole WriteFault text pieces reads reads' writes writes' same r h = (same, h.1)
risen_whole Memory text pieces reads reads' writes writes' same r h = (same, h.1)
risen_whole TooLong text pieces reads reads' writes writes' same r h = (same, h.1)

-- how a run ends whose input is not read whole
abbrev pub status_of : InputError → Status
status_of input.Failed = ReadFault
status_of input.TooLong = TooLong
status_of input.Memory = Memory

pub ran_not : (words : List (List ℕ)) (left left' : Option (List ℕ)) (told : Option (List (List ℕ))) (faults faults' : ℕ) (e : InputError)
    → words ≡ replay_words → Stops left faults left' faults' e → Ran words left left' told told (status_of e)
ran_not words left left' told faults faults' input.Failed w s = record { text = s.1.0; pieces = []; read = s.1.1; wrote = onto_none told; cause = (w, s.1.2, refl) }
ran_not words left left' told faults faults' input.TooLong w s = record { text = s.1.0; pieces = []; read = s.1.1; wrote = onto_none told; cause = (w, s.1.2, refl) }
ran_not words left left' told faults faults' input.Memory w s = record { text = s.1.0; pieces = []; read = s.1.1; wrote = onto_none told; cause = (w, inl refl) }

pub ran_unknown : (words : List (List ℕ)) (left : Option (List ℕ)) (told : Option (List (List ℕ))) → IsNoCommand words → Ran words left left told told Usage
ran_unknown words left told n = record { text = []; pieces = []; read = behind_none left; wrote = onto_none told; cause = (n, refl, refl) }

-- what a script's own text comes to is what the text comes to that is this script
pub replayed_as : (text : List ℕ) (lines : List ScriptLine) (told told' : Option (List (List ℕ))) (status : Status) → text ≡ text_of lines → Replayed (text_of lines) told told' status → Replayed text told told' status
replayed_as text lines told told' status same r = subst (λ (t : List ℕ). Replayed t told told' status) (sym same) r

pub replayed_fault : (text : List ℕ) (told : Option (List (List ℕ))) (line : ℕ) → IsFault text line → Replayed text told told (ScriptFault line)
replayed_fault text told line fault = ([], onto_none told, (fault, refl))

pub itself : (lines : List ScriptLine) → IsScript lines → IsRead (text_of lines) lines
itself lines good = record { good = good; whole = refl }
