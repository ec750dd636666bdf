-- What the outside may have given to a request of a bus.
use Rattle.std.specs.Prelude.{◌≡◌, ◌<◌, ◌^◌, ◌++◌, ℕ, List, [], ◌∷◌, length, Bool, false, Option, Some, None, is_some, cond}
use Rattle.file_generations.specs.Generations.{Held}
use Rattle.portal_base.specs.declared.names.doc_id.DocId.{DocId}
use Rattle.portal_model.specs.declared.entry.Fault.{Fault}
use Rattle.portal_model.specs.declared.entry.Given.{Given}
use Rattle.portal_model.specs.declared.request.Request.{Request}
use Rattle.portal_model.specs.declared.state.Connection.{Connection}
use Rattle.portal_model.specs.Bus.{bus_walk, is_tree, verdict_given}
use Rattle.portal_model.specs.Documents.{IsUnused}
use Rattle.portal_model.specs.Kept.{records_of}
use Rattle.portal_model.specs.State.{State, held_in}
use Rattle.portal_model.specs.Verdict.{Verdict, Refuses, Does}
use Rattle.portal_model.specs.Walk.{Walk, Gives, reads_clock}

-- the files that a tree tells, where it does
abbrev pub files_told : State → Option Held
files_told s = cond s.told (Some (held_in s)) None

-- Numbers that words come to, where these were made: each is the first at or above its word, 0
-- behind the greatest, that neither was made nor is among the ones ahead of it.
abbrev pub AreDrawn : List DocId → List ℕ → List DocId → Type 0
AreDrawn made [] [] = Unit {0}
AreDrawn made [] (n ∷ ns) = ⊥
AreDrawn made (w ∷ ws) [] = ⊥
AreDrawn made (w ∷ ws) (n ∷ ns) =
    (w < 2 ^ 32) × (n.number < 2 ^ 32) × IsUnused made w n.number × AreDrawn (made ++ n ∷ []) ws ns

-- a word is drawn for each new document, behind all checks but the keeper's
abbrev pub words_drawn : Option Verdict → ℕ
words_drawn None = 0
words_drawn (Some (Refuses code)) = 0
words_drawn (Some (Does d)) = cond d.exceeds 0 d.makes

abbrev pub meets_limit : Option Verdict → Bool
meets_limit None = false
meets_limit (Some (Refuses code)) = false
meets_limit (Some (Does d)) = d.exceeds

-- the keeper is asked, and may fail, where the records change
abbrev pub ChangesRecords : State → Option Verdict → Type 0
ChangesRecords s None = ⊥
ChangesRecords s (Some (Refuses code)) = ⊥
ChangesRecords s (Some (Does d)) = (d.exceeds ≡ false) × (records_of d.state ≡ records_of s → ⊥)

abbrev pub walk_of : State → Connection → Request → Given → Walk Verdict
walk_of s c request given = bus_walk s c request given.numbers

abbrev pub verdict_of : State → Connection → Request → Given → Option Verdict
verdict_of s c request given = verdict_given (walk_of s c request given) given

pub record LawfulBus (s : State) (c : Connection) (request : Request) (given : Given) : Type 0 where
  -- the tree shows what the request looks at, up to a call that fails
  pub looks : Gives (files_told s) (walk_of s c request given) given.looks (is_tree given.fault)
  -- the clock is read where a file is changed
  pub clock : is_some given.now ≡ reads_clock (walk_of s c request given) given.looks
  -- no folder is listed, and no file is made to be renamed later
  pub listed : given.listed ≡ None
  pub generation : given.generation ≡ None
  pub words : length given.words ≡ words_drawn (verdict_of s c request given)
  pub numbers : AreDrawn s.made given.words given.numbers
  pub full : given.full ≡ meets_limit (verdict_of s c request given)
  pub keeper : given.fault ≡ Fault.Keeper → ChangesRecords s (verdict_of s c request given)
