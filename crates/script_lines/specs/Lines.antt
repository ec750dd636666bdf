-- How each line of a script is written, and which rules it keeps by itself.
use Rattle.std.specs.Prelude.{◌≡◌, ◌≢◌, ℕ, ◌/◌, ◌%◌, ◌^◌, ◌≤◌, ◌<◌, ◌==◌, nat_lt, not, Bool, true, false, ◌&&◌, List, [], ◌∷◌, ◌++◌, map, codes, if◌then◌else◌, All}
use Rattle.std.specs.Fmt.{decimal}
use Rattle.std.specs.List.{list_all, join_with_byte, flat_map}
use Rattle.hex.specs.Hex.{encode_lower}
use Rattle.portal_base.specs.Names.{is_app_name, is_host_path, root, doc_text}
use Rattle.portal_base.specs.declared.names.doc_id.DocId.{DocId}
use Rattle.portal_base.specs.declared.who.Who.{Who}
use Rattle.portal_base.specs.declared.who.Who.TheVariants.{Host, App}
use Rattle.portal_base.specs.declared.who.Kind.{Kind}
use Rattle.portal_base.specs.declared.who.Kind.TheVariants.{Bus, Mount}
use Rattle.portal_model.specs.declared.records.DocRecord.{DocRecord}
use Rattle.portal_model.specs.declared.records.EntryRecord.{EntryRecord}
use Rattle.portal_model.specs.declared.records.GrantRecord.{GrantRecord}
use Rattle.portal_model.specs.declared.records.Row.{Row}
use Rattle.record_keeper.specs.SoundRecords.{IsSoundDocument, IsSoundEntry}
use Rattle.script_lines.specs.declared.script.Device.{Device}
use Rattle.script_lines.specs.declared.script.Device.TheVariants.{Tree, Keeper}
use Rattle.script_lines.specs.declared.script.ScriptLine.{ScriptLine}
use Rattle.script_lines.specs.declared.script.ScriptLine.TheVariants.{File, Doc, Entry, Fail, Word, Now, Open, Data, Close}

-- ---- how a line is written

-- lower-case hexadecimal digits, two for each byte, or "-" where there is no byte
abbrev pub hex_text : List ℕ → List ℕ
hex_text [] = codes "-"
hex_text (b ∷ bs) = encode_lower (b ∷ bs)

-- a letter where the right with this number is among the rights
abbrev pub letter : ℕ → ℕ → ℕ → List ℕ
letter rights right byte = if rights / right % 2 == 1 then byte ∷ [] else []

-- "r" for read, "w" for write, "g" for grant-permissions and "d" for delete, in this order
abbrev pub letters : ℕ → List ℕ
letters rights = letter rights 1 114
    ++ (letter rights 2 119 ++ (letter rights 4 103 ++ letter rights 8 100))

-- NAME=LETTERS
abbrev pub grant_text : GrantRecord → List ℕ
grant_text grant = grant.app ++ (61 ∷ letters grant.rights)

-- the grants with a comma between each two, or "-" where there is none
abbrev pub grants_text : List GrantRecord → List ℕ
grants_text [] = codes "-"
grants_text (grant ∷ grants) = join_with_byte 44 (map grant_text (grant ∷ grants))

-- "r" of a document that a later addition may use again, "s" of a strict one, or "-" of neither
abbrev pub flags_text : Bool → Bool → List ℕ
flags_text true true = codes "rs"
flags_text true false = codes "r"
flags_text false true = codes "s"
flags_text false false = codes "-"

abbrev pub kind_text : Kind → List ℕ
kind_text Bus = codes "bus"
kind_text Mount = codes "mount"

abbrev pub who_text : Who → List ℕ
who_text Host = codes "host"
who_text (App name) = codes "app:" ++ name

-- NAME=PERM, with each further permission behind a plus
abbrev pub row_text : Row → List ℕ
row_text row = row.app ++ (61 ∷ join_with_byte 43 row.names)

-- the rows with a comma between each two, or "-" where there is none
abbrev pub rows_text : List Row → List ℕ
rows_text [] = codes "-"
rows_text (row ∷ rows) = join_with_byte 44 (map row_text (row ∷ rows))

abbrev pub device_text : Device → List ℕ
device_text Tree = codes "tree"
device_text Keeper = codes "keeper"

-- the words of a line
abbrev pub words_of : ScriptLine → List (List ℕ)
words_of (File path content) = codes "file" ∷ path ∷ hex_text content ∷ []
words_of (Doc id reusable strict path grants) = codes "doc" ∷ doc_text id.number
    ∷ flags_text reusable strict
    ∷ path ∷ grants_text grants ∷ []
words_of (Entry entry) = codes "entry" ∷ entry.table ∷ entry.id ∷ hex_text entry.datum
    ∷ rows_text entry.rows ∷ []
words_of (Fail device call) = codes "fail" ∷ device_text device ∷ decimal call ∷ []
words_of (Word word) = codes "word" ∷ doc_text word ∷ []
words_of (Now moment) = codes "now" ∷ decimal moment ∷ []
words_of (Open seat kind who) = codes "open" ∷ decimal seat ∷ kind_text kind ∷ who_text who ∷ []
words_of (Data seat bytes) = codes "data" ∷ decimal seat ∷ hex_text bytes ∷ []
words_of (Close seat) = codes "close" ∷ decimal seat ∷ []

-- a line without its end: its words, with one space between each two
unfoldable pub line_text : ScriptLine → List ℕ
line_text line = join_with_byte 32 (words_of line)

-- lines, each with its line feed
unfoldable pub text_of : List ScriptLine → List ℕ
text_of lines = flat_map (λ line. line_text line ++ 10 ∷ []) lines

-- ---- what a line keeps by itself

-- neither a space nor a control byte
abbrev pub is_plain : ℕ → Bool
is_plain b = nat_lt 32 b && not (b == 127)

-- a path on the host that a script can hold
abbrev pub is_script_path : List ℕ → Bool
is_script_path path = is_host_path path && list_all is_plain path

-- each is a byte
abbrev pub AreBytes : List ℕ → Type 0
AreBytes = All (λ b. b < 256)

-- the record of a kept document
abbrev pub kept_document : DocId → Bool → Bool → List ℕ → List GrantRecord → DocRecord
kept_document id reusable strict path grants = record {
  number = id.number;
  path = path;
  reusable = reusable;
  strict = strict;
  grants = grants;
}

-- a key and permissions, at least one, which are written as applications' names are
pub record IsNamedRow (row : Row) : Type 0 where
  pub key : is_app_name row.app ≡ true
  pub some : row.names ≢ []
  pub names : All (λ name. is_app_name name ≡ true) row.names

-- the texts of an entry are written as applications' names are
pub record HasNames (entry : EntryRecord) : Type 0 where
  pub table : is_app_name entry.table ≡ true
  pub id : is_app_name entry.id ≡ true
  pub bytes : AreBytes entry.datum
  pub rows : All IsNamedRow entry.rows

-- whom a connection may be bound to: the host, or an application by its name
abbrev pub IsCaller : Who → Type 0
IsCaller Host = Unit {0}
IsCaller (App name) = is_app_name name ≡ true

abbrev pub last_seat : ℕ
last_seat = 65535

-- the rules of a line that don't speak of other lines
abbrev pub KeepsRules : ScriptLine → Type 0
KeepsRules (File path content) = (is_script_path path ≡ true) × (path ≢ root) × AreBytes content
KeepsRules (Doc id reusable strict path grants) =
    (id.number < 2 ^ 32) × (is_script_path path ≡ true)
    × IsSoundDocument (kept_document id reusable strict path grants)
KeepsRules (Entry entry) = HasNames entry × IsSoundEntry entry
KeepsRules (Fail device call) = (1 ≤ call) × (call < 2 ^ 64)
KeepsRules (Word word) = word < 2 ^ 32
KeepsRules (Now moment) = moment < 2 ^ 64
KeepsRules (Open seat kind who) = (1 ≤ seat) × (seat ≤ last_seat) × IsCaller who
KeepsRules (Data seat bytes) = (1 ≤ seat) × (seat ≤ last_seat) × AreBytes bytes
KeepsRules (Close seat) = (1 ≤ seat) × (seat ≤ last_seat)
