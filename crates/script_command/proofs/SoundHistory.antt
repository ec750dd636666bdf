-- The history of lines that are run is legal, and isolates each application.
use Rattle.std.proofs.Common.{◌≡◌, ℕ, List, [], ◌∷◌, Option, Some, None, refl, sym, ap, ◌∙◌, subst}
use Rattle.std.proofs.lemmas.List.Folds.{list_all-map}
use Rattle.portal_base.specs.Names.{is_host_path}
use Rattle.portal_base.specs.declared.files.File.{File as HostFile}
use Rattle.portal_desk.specs.Opening.{IsOpeningState}
use Rattle.portal_desk.proofs.Openings.{opens-told}
use Rattle.portal_model.specs.declared.entry.Entry.{Entry}
use Rattle.portal_model.specs.declared.request.Request.{Request}
use Rattle.portal_model.specs.History.{EachLawful, run}
use Rattle.portal_model.specs.State.{State}
use Rattle.portal_model.specs.Valid.{Valid}
use Rattle.portal_model.proofs.Histories.{EachLawful-append}
use Rattle.app_world.proofs.WorldLaws.{replies_of_trace}
use Rattle.script_lines.specs.declared.script.ScriptLine.{ScriptLine}
use Rattle.script_lines.specs.declared.script.ScriptLine.TheVariants.{File, Doc, Fail, Word, Now, Open, Data, Close}
use Rattle.script_lines.specs.declared.script.ScriptLine.TheVariants as line
use Rattle.session.specs.declared.served.Stop.{Stop}
use Rattle.session.specs.declared.served.Stop.TheVariants as stop
use Rattle.session.specs.Standings.{Standing}
use Rattle.script_replay.specs.Lines.{Comes, CloseDoes, DataDoes, Does, Goes, Passes, Sets}
use Rattle.script_replay.specs.Plays.{Plays}
use Rattle.script_command.specs.Runs.{IsSound}
use Rattle.portal_model.specs.Store.{Entries}
use Rattle.record_keeper.specs.KeptEntries.{KeepEntries}
use Rattle.record_keeper.proofs.HeldEntries.{good_rows}
use Rattle.script_form.specs.Devices.{held_files, tree_files}
use Rattle.script_form.specs.Opening.{entries_of, opening_with}
use Rattle.script_form.specs.Order.{IsScript}
use Rattle.script_form.proofs.FilesPlaced.{script_placed}
use Rattle.script_form.proofs.RecordsFacts.{never_bad}
use Rattle.script_replay.proofs.StartedScript.{holds}
use Rattle.script_replay.specs.Scenes.{Scene, first_scene, opening_state, run_limits}
use Rattle.script_replay.proofs.GivenEntries.{given_lawful}

-- entries are lawful from a scene, and lead to the portal of another
pub record Leads (a : Scene) (entries : List Entry) (b : Scene) : Type 0 where
  pub lawful : EachLawful a.portal entries
  pub portal : b.portal ≡ run a.portal entries

passes_lead : (a b : Scene) (es : List Entry) (out : List (List ℕ)) → Passes a es out b → Leads a es b
passes_lead a b es out h = record {
  lawful = subst (EachLawful a.portal) (sym h.0) tt;
  portal = ap (λ (z : Scene). z.portal) h.2 ∙ ap (run a.portal) (sym h.0);
}

sets_lead : (moment : ℕ) (a b : Scene) (es : List Entry) (out : List (List ℕ)) → Sets a moment es out b → Leads a es b
sets_lead moment a b es out h = record {
  lawful = subst (EachLawful a.portal) (sym h.0) tt;
  portal = ap (λ (z : Scene). z.portal) h.2 ∙ ap (run a.portal) (sym h.0);
}

comes_lead : (a b : Scene) (seat : ℕ) (rs : List Request) (lines : List (List ℕ)) (now : Option Standing) (es : List Entry) (out : List (List ℕ)) → Comes a seat rs lines now es out b → Leads a es b
comes_lead a b seat rs lines now es out h = record {
  lawful = given_lawful rs es a.portal a.outside seat h.left h.given;
  portal = ap (λ (z : Scene). z.portal) h.scene;
}

goes_lead : (what : Stop) (a b : Scene) (seat : ℕ) (rs : List Request) (ps : List (List ℕ)) (now : Standing) (es : List Entry) (out : List (List ℕ)) → Goes a seat what rs ps now es out b → Leads a es b
goes_lead stop.More a b seat rs ps now es out h = comes_lead a b seat _ _ _ es out h
goes_lead (stop.Bad rule) a b seat rs ps now es out h = comes_lead a b seat _ _ _ es out h
goes_lead stop.TooLong a b seat rs ps now es out h = comes_lead a b seat _ _ _ es out h

data_leads : (o : Option Standing) (a b : Scene) (seat : ℕ) (bytes : List ℕ) (es : List Entry) (out : List (List ℕ)) → DataDoes a seat bytes o es out b → Leads a es b
data_leads None a b seat bytes es out h = passes_lead a b es out h
data_leads (Some at) a b seat bytes es out h = goes_lead h.0 a b seat h.1 h.2 h.3 es out h.5

close_leads : (o : Option Standing) (a b : Scene) (seat : ℕ) (es : List Entry) (out : List (List ℕ)) → CloseDoes a seat o es out b → Leads a es b
close_leads None a b seat es out h = passes_lead a b es out h
close_leads (Some at) a b seat es out h = comes_lead a b seat _ _ _ es out h

pub does_lead : (line : ScriptLine) (a b : Scene) (es : List Entry) (out : List (List ℕ)) → Does a line es out b → Leads a es b
does_lead (File path content) a b es out h = passes_lead a b es out h
does_lead (Doc id reusable strict path grants) a b es out h = passes_lead a b es out h
does_lead (Now moment) a b es out h = sets_lead moment a b es out h
does_lead (line.Entry entry) a b es out h = passes_lead a b es out h
does_lead (Fail device call) a b es out h = passes_lead a b es out h
does_lead (Word word) a b es out h = passes_lead a b es out h
does_lead (Open seat kind who) a b es out h = comes_lead a b seat _ _ _ es out h
does_lead (Data seat bytes) a b es out h = data_leads (a.sessions seat) a b seat bytes es out h
does_lead (Close seat) a b es out h = close_leads (a.sessions seat) a b seat es out h

plays_lawful : (front : List ScriptLine) (a b : Scene) (es : List Entry) (out : List (List ℕ)) → Plays a front es out b → EachLawful a.portal es
plays_lawful [] a b es out h = subst (EachLawful a.portal) (sym h.0) tt
plays_lawful (line ∷ front) a b es out (first, more, said, rest, mid, entries_are, out_is, does, plays) =
    let leads = does_lead line a mid first said does in
    let behind = subst (λ (s : State). EachLawful s more) leads.portal (plays_lawful front mid b more rest plays) in
    subst (EachLawful a.portal) (sym entries_are) (EachLawful-append first more a.portal leads.lawful behind)

-- the state that a script opens with is an opening state
pub script_opens : (entries : Entries) (lines : List ScriptLine) → IsScript lines → KeepEntries (entries_of lines) entries → Valid (opening_state entries lines) → IsOpeningState (opening_state entries lines)
script_opens entries lines good kept valid =
    opens-told (Some (held_files lines)) (opening_with entries run_limits lines) valid
    (good_rows (entries_of lines) entries (never_bad run_limits lines good holds).entries kept)
    (record { placed = script_placed lines good; names = list_all-map is_host_path (λ (f : HostFile). f.path) (tree_files lines) ∙ valid.files_named })

pub sound : (entries : Entries) (lines front : List ScriptLine) (history : List Entry) (out : List (List ℕ)) (last : Scene) → IsOpeningState (opening_state entries lines) → Valid (opening_state entries lines) → Plays (first_scene entries lines) front history out last → IsSound entries lines history
sound entries lines front history out last started valid plays =
    let lawful = plays_lawful front (first_scene entries lines) last history out plays in
    record {
      started = started;
      legal = record { opening = valid; lawful = lawful };
      isolated = λ app. replies_of_trace history app (opening_state entries lines) refl valid lawful;
    }
