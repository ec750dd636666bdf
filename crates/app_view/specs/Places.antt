-- Places as they are told to a caller.
use Rattle.std.specs.Prelude.{ℕ, ◌==◌, Bool, true, false, not, Option, Some, None}
use Rattle.portal_base.specs.declared.who.Who.{Who}
use Rattle.portal_model.specs.declared.naming.Naming.{Naming}
use Rattle.portal_model.specs.declared.place.Place.{Place}
use Rattle.portal_model.specs.declared.temporary.Temp.{Temp}
use Rattle.portal_model.specs.Place.{Sight, SightBelow, SightOfFile, SightOfFolder, SightOfTemp, place_named, sight_at}
use Rattle.portal_model.specs.State.{State}

-- the view that a place stands in
abbrev pub view_in : Place → ℕ
view_in (Place.Root view) = view
view_in Place.ByApp = 0
view_in (Place.Folder view id) = view
view_in (Place.File view id) = view
view_in (Place.Named view k) = view
view_in (Place.Temporary view k) = view

-- a place that is no naming and no temporary, or one of a number from 1
abbrev pub is_counted : Place → Bool
is_counted (Place.Root view) = true
is_counted Place.ByApp = true
is_counted (Place.Folder view id) = true
is_counted (Place.File view id) = true
is_counted (Place.Named view k) = not (k == 0)
is_counted (Place.Temporary view k) = not (k == 0)

abbrev pub where_seen : Option Sight → Option Place → Option Place
where_seen None place = None
where_seen (Some sight) place = place

-- the place that a node's number names, where the caller sees something there
abbrev pub place_seen : State → Who → Option Naming → Option Temp → ℕ → Option Place
place_seen s caller naming temp node =
    where_seen (sight_at s caller naming temp (place_named node)) (place_named node)

-- a folder is seen, whatever the tree has
abbrev pub IsFolder : Option Sight → Type 0
IsFolder None = ⊥
IsFolder (Some (SightOfFile d may_write)) = ⊥
IsFolder (Some (SightOfTemp d file may_write)) = ⊥
IsFolder (Some (SightBelow view d path may_write)) = ⊥
IsFolder (Some (SightOfFolder folder)) = Unit {0}

-- the place is a folder, whoever sees it and whatever the tree has
abbrev pub is_folder_place : Place → Bool
is_folder_place (Place.Root view) = true
is_folder_place Place.ByApp = true
is_folder_place (Place.Folder view id) = true
is_folder_place (Place.File view id) = false
is_folder_place (Place.Named view k) = false
is_folder_place (Place.Temporary view k) = false
