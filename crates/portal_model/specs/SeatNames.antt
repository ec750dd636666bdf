-- What a connection has named: paths below exported folders, by their places in its own list, and
-- temporaries, by the numbers of their making. Both count from 1, on each connection by itself.
use Rattle.std.specs.Prelude.{ℕ, ◌+◌, ◌-◌, ◌==◌, ◌&&◌, ◌||◌, nat_lt, List, [], ◌∷◌, ◌++◌, length, map, Bool, not, Option, Some, None, cond, option_map, slice_get}
use Rattle.std.specs.List.{filter, find, list_any, position_or_len}
use Rattle.portal_base.specs.Names.{is_same}
use Rattle.portal_base.specs.declared.names.doc_id.DocId.{DocId}
use Rattle.portal_model.specs.declared.naming.Naming.{Naming}
use Rattle.portal_model.specs.declared.opening.TakenGeneration.{TakenGeneration}
use Rattle.portal_model.specs.declared.temporary.OwnTemp.{OwnTemp}
use Rattle.portal_model.specs.declared.temporary.Temp.{Temp}

-- ---- names below exported folders

abbrev pub namings_limit : ℕ
namings_limit = 65536

abbrev pub same_naming : Naming → Naming → Bool
same_naming a b =
    a.view == b.view && (a.document.number == b.document.number && is_same a.path b.path)

-- naming k is the k-th, from 1
abbrev pub naming_of : List Naming → ℕ → Option Naming
naming_of namings k = cond (k == 0) None (slice_get namings (k - 1))

abbrev pub is_named_before : List Naming → Naming → Bool
is_named_before namings naming = list_any (same_naming naming) namings

-- the number that it has, or gets
abbrev pub number_of_naming : List Naming → Naming → ℕ
number_of_naming namings naming = position_or_len (same_naming naming) namings + 1

-- one that was named before keeps its number
abbrev pub with_naming : List Naming → Naming → List Naming
with_naming namings naming =
    cond (is_named_before namings naming) namings (namings ++ naming ∷ [])

-- there is no number left for it
abbrev pub lacks_number : List Naming → Naming → Bool
lacks_number namings naming =
    not (is_named_before namings naming) && not (nat_lt (length namings) namings_limit)

-- ---- temporaries

abbrev pub temps_limit : ℕ
temps_limit = 64

-- the greatest number of a temporary: that of a node has 32 bits for it
abbrev pub last_temp : ℕ
last_temp = 4294967295

-- what a request sees of the temporaries of its connection: those that are there, in the order of
-- their making, how many were made, and the generation that the next of a path gets
pub record SeatTemps : Type 0 where
  pub temps : List OwnTemp
  pub added : ℕ
  pub next : List ℕ → ℕ

-- the temporary of a number
abbrev pub temp_of : List OwnTemp → ℕ → Option Temp
temp_of temps k = option_map (λ t. t.temp) (find (λ t. t.k == k) temps)

-- in the folder of a document in a view
abbrev pub is_temp_in : ℕ → DocId → OwnTemp → Bool
is_temp_in view id t = t.temp.view == view && t.temp.document.number == id.number

-- and of a name there
abbrev pub is_called : ℕ → DocId → List ℕ → OwnTemp → Bool
is_called view id name t = is_temp_in view id t && is_same t.temp.name name

abbrev pub found_temp : List OwnTemp → ℕ → DocId → List ℕ → Option OwnTemp
found_temp temps view id name = find (is_called view id name) temps

abbrev pub temps_in : List OwnTemp → ℕ → DocId → List OwnTemp
temps_in temps view id = filter (is_temp_in view id) temps

abbrev pub are_temps_full : List OwnTemp → Bool
are_temps_full temps = not (nat_lt (length temps) temps_limit)

-- there is no place left for one more, or no number
abbrev pub lacks_temp : SeatTemps → Bool
lacks_temp temps = are_temps_full temps.temps || not (nat_lt temps.added last_temp)

-- how the temporaries of a connection change
pub data TempChange : Type 0 where
  -- one more, by the next number
  Begins : Temp → TempChange
  -- the one of a number is gone
  Drops : ℕ → TempChange
  -- the one of a number has another name; what else had this name in its folder is gone
  Renames : ℕ → Temp → List ℕ → TempChange

abbrev pub own_temp : ℕ → Temp → OwnTemp
own_temp k temp = record { k = k; temp = temp }

abbrev pub without_temp : List OwnTemp → ℕ → List OwnTemp
without_temp temps k = filter (λ t. not (t.k == k)) temps

-- another temporary of the new name
abbrev pub is_replaced : ℕ → Temp → List ℕ → OwnTemp → Bool
is_replaced k temp name t = is_called temp.view temp.document name t && not (t.k == k)

abbrev pub renamed : ℕ → List ℕ → OwnTemp → OwnTemp
renamed k name t = cond (t.k == k) (record t { temp = record t.temp { name = name } }) t

abbrev pub with_name : List OwnTemp → ℕ → Temp → List ℕ → List OwnTemp
with_name temps k temp name =
    map (renamed k name) (filter (λ t. not (is_replaced k temp name t)) temps)

-- those that there are then, and how many were made
abbrev pub temps_after : TempChange → ℕ → List OwnTemp → List OwnTemp
temps_after (Begins temp) added temps = temps ++ own_temp (added + 1) temp ∷ []
temps_after (Drops k) added temps = without_temp temps k
temps_after (Renames k temp name) added temps = with_name temps k temp name

abbrev pub added_after : TempChange → ℕ → ℕ
added_after (Begins temp) added = added + 1
added_after (Drops k) added = added
added_after (Renames k temp name) added = added

-- ---- the generations of a path

abbrev pub is_of : List ℕ → TakenGeneration → Bool
is_of path t = is_same t.path path

abbrev pub last_of : Option TakenGeneration → ℕ
last_of None = 0
last_of (Some t) = t.last

-- the last one that was taken, 0 where none was
abbrev pub last_taken : List TakenGeneration → List ℕ → ℕ
last_taken taken path = last_of (find (is_of path) taken)

abbrev pub next_generation : List TakenGeneration → List ℕ → ℕ
next_generation taken path = last_taken taken path + 1

abbrev pub taken_as : List ℕ → ℕ → TakenGeneration
taken_as path last = record { path = path; last = last }

-- this is the last one of the path, in the place of the former or behind all
abbrev pub with_taken : List ℕ → ℕ → List TakenGeneration → List TakenGeneration
with_taken path last [] = taken_as path last ∷ []
with_taken path last (t ∷ ts) =
    cond (is_of path t) (taken_as t.path last ∷ ts) (t ∷ with_taken path last ts)
