use Rattle.std.proofs.Common.{◌≡◌, ◌∙◌, Option, Some, ap, sym}
use Rattle.portal_base.specs.declared.who.Who.{Who}
use Rattle.portal_model.specs.declared.naming.Naming.{Naming}
use Rattle.portal_model.specs.declared.place.Place.{Place}
use Rattle.portal_model.specs.declared.temporary.Temp.{Temp}
use Rattle.portal_model.specs.Place.{Sight, sight_of_place}
use Rattle.portal_model.specs.State.{State}
use Rattle.node_looks.specs.Sights.{naming_by, temp_by}
use Rattle.node_looks.proofs.sight.seen_at.Goals as goal

at : (s : State) (who : Who) (naming : Option Naming) (temp : Option Temp) (p q : Place) (seen : Option Sight) → p ≡ q → sight_of_place s who naming temp q ≡ seen → sight_of_place s who naming temp p ≡ seen
at s who naming temp p q seen e h = ap (λ (x : Place). sight_of_place s who naming temp x) e ∙ h

pub returns-in-Some-clause-sight : goal.returns-in-Some-clause-sight
returns-in-Some-clause-sight c = λ s l. at s c.args.who.now (naming_by c.args.own) (temp_by c.args.own) c.args.place _ _ c.in-File.is
    (c.in-Some.ensures.file s (naming_by c.args.own) (temp_by c.args.own) l ∙ ap (λ (x : Sight). Some x) (sym (c.seen_file.ensures.sight c.args.book.now c.args.who.now)))

pub returns-in-Some-clause-others : goal.returns-in-Some-clause-others
returns-in-Some-clause-others c = λ s naming temp l plain. at s c.args.who.now naming temp c.args.place _ _ c.in-File.is
    (c.in-Some.ensures.file s naming temp l ∙ ap (λ (x : Sight). Some x) (sym (c.seen_file.ensures.sight c.args.book.now c.args.who.now)))

pub returns-in-None-clause-sight : goal.returns-in-None-clause-sight
returns-in-None-clause-sight c = λ s l. at s c.args.who.now (naming_by c.args.own) (temp_by c.args.own) c.args.place _ _ c.in-File.is (c.in-None.ensures.file s (naming_by c.args.own) (temp_by c.args.own) l)

pub returns-in-Some-seen_naming-clause-sight : goal.returns-in-Some-seen_naming-clause-sight
returns-in-Some-seen_naming-clause-sight c = λ s l. at s c.args.who.now (naming_by c.args.own) (temp_by c.args.own) c.args.place _ _ c.in-Named.is (c.in-Some-seen_naming.ensures.below c.in-Named.k s (temp_by c.args.own) l)

pub returns-in-None-seen_naming-clause-sight : goal.returns-in-None-seen_naming-clause-sight
returns-in-None-seen_naming-clause-sight c = λ s l. at s c.args.who.now (naming_by c.args.own) (temp_by c.args.own) c.args.place _ _ c.in-Named.is (c.in-None-seen_naming.ensures.below c.in-Named.k s (temp_by c.args.own) l)

pub returns-in-Some-seen_temp-clause-sight : goal.returns-in-Some-seen_temp-clause-sight
returns-in-Some-seen_temp-clause-sight c = λ s l. at s c.args.who.now (naming_by c.args.own) (temp_by c.args.own) c.args.place _ _ c.in-Temporary.is (c.in-Some-seen_temp.ensures.temp c.in-Temporary.k s (naming_by c.args.own) l)

pub returns-in-None-seen_temp-clause-sight : goal.returns-in-None-seen_temp-clause-sight
returns-in-None-seen_temp-clause-sight c = λ s l. at s c.args.who.now (naming_by c.args.own) (temp_by c.args.own) c.args.place _ _ c.in-Temporary.is (c.in-None-seen_temp.ensures.temp c.in-Temporary.k s (naming_by c.args.own) l)

pub returns-in-Some-seen_document-clause-sight : goal.returns-in-Some-seen_document-clause-sight
returns-in-Some-seen_document-clause-sight c = λ s l. at s c.args.who.now (naming_by c.args.own) (temp_by c.args.own) c.args.place _ _ c.in-Folder.is (c.in-Some-seen_document.ensures.folder s (naming_by c.args.own) (temp_by c.args.own) l)

pub returns-in-Some-seen_document-clause-others : goal.returns-in-Some-seen_document-clause-others
returns-in-Some-seen_document-clause-others c = λ s naming temp l plain. at s c.args.who.now naming temp c.args.place _ _ c.in-Folder.is (c.in-Some-seen_document.ensures.folder s naming temp l)

pub returns-in-None-seen_document-clause-sight : goal.returns-in-None-seen_document-clause-sight
returns-in-None-seen_document-clause-sight c = λ s l. at s c.args.who.now (naming_by c.args.own) (temp_by c.args.own) c.args.place _ _ c.in-Folder.is (c.in-None-seen_document.ensures.folder s (naming_by c.args.own) (temp_by c.args.own) l)
