-- What the outside gave to an entry in which no device failed, over a tree that tells its files: a
-- request has one such entry, by the moment of now and the words that were to come.
use Rattle.std.specs.Prelude.{◌≡◌, ℕ, List, [], ◌∷◌, true, IfSome}
use Rattle.portal_model.specs.declared.entry.Entry.{Entry}
use Rattle.portal_model.specs.declared.entry.Fault.TheVariants as Fault
use Rattle.portal_model.specs.Bus.{moment_given}
use Rattle.portal_model.specs.Lawful.{Lawful}
use Rattle.portal_model.specs.State.{State}

-- these words are the first of those that were to come; behind the last of them only 0 comes
abbrev pub AreFirst : List ℕ → List ℕ → Type 0
AreFirst coming [] = Unit {0}
AreFirst [] (word ∷ words) = (word ≡ 0) × AreFirst [] words
AreFirst (next ∷ others) (word ∷ words) = (word ≡ next) × AreFirst others words

-- Two lawful entries of one seat and request, in which no device failed, are one: where the second
-- read the clock it showed the moment of the first, or 0 where the first read none; and its words
-- are the first of those of the first.
abbrev pub LawfulEntriesAreOne : Type 0
LawfulEntriesAreOne = (s : State) (e again : Entry) → s.told ≡ true →
    Lawful s e → Lawful s again → again.seat ≡ e.seat → again.request ≡ e.request →
    e.given.fault ≡ Fault.None → again.given.fault ≡ Fault.None →
    IfSome again.given.now (λ now. now ≡ moment_given e.given.now) →
    AreFirst e.given.words again.given.words →
    again ≡ e
