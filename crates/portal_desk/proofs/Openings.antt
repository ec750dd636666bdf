-- Opening states, over whatever files.
use Rattle.std.specs.Prelude.{IfSome, ◌&&◌, is_some}
use Rattle.std.proofs.Common.{◌≡◌, List, [], ◌∷◌, Bool, true, false, Option, Some, None, refl, subst}
use Rattle.std.specs.List.{list_all}
use Rattle.file_generations.specs.Generations.{Held}
use Rattle.portal_base.specs.Content.{IsTree}
use Rattle.portal_model.specs.declared.handle.OpenHandle.{OpenHandle}
use Rattle.portal_model.specs.declared.opening.OpeningState.{OpeningState}
use Rattle.portal_model.specs.declared.state.Connection.{Connection}
use Rattle.portal_model.specs.declared.state.Triple.{Triple}
use Rattle.portal_model.specs.Opening.{files_of, is_told, opened_over}
use Rattle.portal_model.specs.Rows.{are_rows}
use Rattle.portal_model.specs.State.{State, document_of}
use Rattle.portal_model.specs.Valid.{Valid, is_numbered, is_placed, is_sound_handle}
use Rattle.portal_desk.specs.Opening.{IsOpeningState}

-- no handle is open where no connection is
no_handles : (s : State) → Valid s → s.connections ≡ [] → s.handles ≡ []
no_handles s v none = by s.handles (subst (λ (cs : List Connection). list_all (is_sound_handle cs) s.handles ≡ true) none v.handles_sound)
  where
    by : (hs : List OpenHandle) → list_all (is_sound_handle []) hs ≡ true → hs ≡ []
    by [] e = refl
    by (h ∷ hs) e = absurd (cc)

-- whoever has a right is numbered
all_numbered : (s : State) (ts : List Triple) → list_all (is_placed s) ts ≡ true → list_all (λ (t : Triple). is_numbered s.applications t.app) ts ≡ true
all_numbered s [] e = refl
all_numbered s (t ∷ ts) e = both (is_some (document_of s.documents t.id.number)) (is_numbered s.applications t.app) e (all_numbered s ts)
  where
    both : (d n : Bool) → ((d && n) && list_all (is_placed s) ts) ≡ true → (list_all (is_placed s) ts ≡ true → list_all (λ (u : Triple). is_numbered s.applications u.app) ts ≡ true) →
        (n && list_all (λ (u : Triple). is_numbered s.applications u.app) ts) ≡ true
    both true true e rest = rest e
    both true false e rest = absurd (cc)
    both false n e rest = absurd (cc)

-- a valid state in which no connection is open
pub opens : (s : State) → Valid s → s.connections ≡ [] → list_all (λ e. are_rows e.rows) s.entries ≡ true → (s.told ≡ true → IsTree s.files) → IsOpeningState s
opens s v none rows tree = record {
  connections = none;
  handles = no_handles s v none;
  made = v.numbers_made;
  names = v.names;
  applications_differ = v.applications_differ;
  numbered = all_numbered s s.rights v.rights_placed;
  rows = rows;
  files = tree;
}

abbrev pub AreTree : Option Held → Type 0
AreTree told = IfSome told (λ held. IsTree held.present)

told_tree : (files : Option Held) → AreTree files → is_told files ≡ true → IsTree (files_of files)
told_tree None t e = absurd (cc)
told_tree (Some held) t e = t

-- the state that an opening stands for over these files
pub opens-told : (files : Option Held) (o : OpeningState) → Valid (opened_over files o) → list_all (λ e. are_rows e.rows) o.entries ≡ true → AreTree files → IsOpeningState (opened_over files o)
opens-told files o v rows tree = opens (opened_over files o) v refl rows (told_tree files tree)

-- the same over other files
pub opens-over : (files other : Option Held) (o : OpeningState) → IsOpeningState (opened_over files o) → AreTree other → IsOpeningState (opened_over other o)
opens-over files other o s tree = record {
  connections = refl;
  handles = refl;
  made = s.made;
  names = s.names;
  applications_differ = s.applications_differ;
  numbered = s.numbered;
  rows = s.rows;
  files = told_tree other tree;
}
