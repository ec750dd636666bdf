-- The script of the load: its files, its documents, its connections, and its requests.
use Rattle.std.specs.Prelude.{ℕ, ◌+◌, ◌/◌, ◌%◌, true, false, List, [], ◌∷◌, ◌++◌, map, replicate, codes}
use Rattle.std.specs.List.{range_with_len}
use Rattle.portal_base.specs.declared.who.Who.TheVariants.{Host, App}
use Rattle.portal_base.specs.declared.who.Kind.TheVariants.{Bus, Mount}
use Rattle.script_lines.specs.declared.script.ScriptLine.{ScriptLine}
use Rattle.script_lines.specs.declared.script.ScriptLine.TheVariants.{File, Doc, Open, Data}
use Rattle.portal_load.specs.declared.draw.Asked.{Asked}
use Rattle.portal_load.specs.declared.draw.Asked.TheVariants.{Rights}
use Rattle.portal_load.specs.declared.draw.Draw.{Draw}
use Rattle.portal_load.specs.declared.load.Load.{Load}
use Rattle.portal_load.specs.Calls.{app_name, call_asked}
use Rattle.portal_load.specs.Draws.{drawn}
use Rattle.portal_load.specs.Frames.{frame_asked}

-- ---- files and documents

-- how many files there are, and documents
abbrev pub file_count : ℕ
file_count = 16

-- how many applications there are
abbrev pub app_count : ℕ
app_count = 4

-- "/f/00" to "/f/15"
abbrev pub file_path : ℕ → List ℕ
file_path number = codes "/f/" ++ (48 + number / 10) ∷ (48 + number % 10) ∷ []

-- 4,096 bytes, each of which is the number of the file
unfoldable pub file_content : ℕ → List ℕ
file_content number = replicate 4096 number

abbrev pub file_line : ℕ → ScriptLine
file_line number = File (file_path number) (file_content number)

-- read and write
abbrev pub granted_rights : ℕ
granted_rights = 3

-- a document has the number of its file, and gives one of the applications in turn its rights
abbrev pub doc_line : ℕ → ScriptLine
doc_line number = Doc (record { number = number }) true false (file_path number)
    (record { app = app_name (number % app_count); rights = granted_rights } ∷ [])

-- ---- connections

-- each application has a mount
abbrev pub mount_of : ℕ → ℕ
mount_of app = app + 1

abbrev pub mount_line : ℕ → ScriptLine
mount_line app = Open (mount_of app) Mount (App (app_name app))

-- and the host a bus
abbrev pub host_seat : ℕ
host_seat = 5

abbrev pub bus_line : ScriptLine
bus_line = Open host_seat Bus Host

-- a zero byte, "AUTH EXTERNAL" with the uid 1000 and "BEGIN", each line with its end
abbrev pub handshake : List ℕ
handshake = 0 ∷ (codes "AUTH EXTERNAL 31303030" ++ 13 ∷ 10 ∷ (codes "BEGIN" ++ 13 ∷ 10 ∷ []))

abbrev pub handshake_line : ScriptLine
handshake_line = Data host_seat handshake

-- ---- the lines

unfoldable pub file_lines : List ScriptLine
file_lines = map file_line (range_with_len 0 file_count)

unfoldable pub doc_lines : List ScriptLine
doc_lines = map doc_line (range_with_len 0 file_count)

unfoldable pub open_lines : List ScriptLine
open_lines = map mount_line (range_with_len 0 app_count) ++ bus_line ∷ []

-- what stands ahead of the requests
unfoldable pub lines_ahead : List ScriptLine
lines_ahead = file_lines ++ (doc_lines ++ (open_lines ++ handshake_line ∷ []))

-- rights are granted and revoked on the host's bus, all else is asked on the application's mount
abbrev pub seat_of : Asked → Draw → ℕ
seat_of Rights draw = host_seat
seat_of asked draw = mount_of draw.app

abbrev pub bytes_of : Asked → ℕ → Draw → List ℕ
bytes_of Rights request draw = call_asked request draw
bytes_of asked request draw = frame_asked request draw

abbrev pub line_of : ℕ → Draw → ScriptLine
line_of request draw = Data (seat_of draw.asked draw) (bytes_of draw.asked request draw)

-- the line of a request, by its number, counted from 1
unfoldable pub request_line : ℕ → ScriptLine
request_line request = line_of request (drawn request)

-- so many requests
unfoldable pub request_lines : ℕ → List ScriptLine
request_lines count = map request_line (range_with_len 1 count)

-- the load of so many requests
abbrev pub load_of : ℕ → Load
load_of count = record {
  script = record { lines = lines_ahead ++ request_lines count };
  requests = count;
}

-- how many requests a load may have
abbrev pub most_requests : ℕ
most_requests = 100000
