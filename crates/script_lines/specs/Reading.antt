-- What the words of a line are read as.
use Rattle.std.specs.Prelude.{◌≡◌, ◌≢◌, ℕ, ◌≤◌, ◌<◌, ◌^◌, ◌==◌, ◌++◌, Bool, true, false, List, [], ◌∷◌, Option, MatchOption, not, ◌&&◌, length}
use Rattle.portal_model.specs.declared.records.GrantRecord.{GrantRecord}
use Rattle.std.specs.Prelude.{All, map}
use Rattle.std.specs.Fmt.{decimal}
use Rattle.portal_base.specs.Names.{doc_text}
use Rattle.portal_base.specs.declared.names.doc_id.DocId.{DocId}
use Rattle.portal_base.specs.declared.who.Kind.{Kind}
use Rattle.portal_base.specs.declared.who.Who.{Who}
use Rattle.std.specs.Char.{is_ascii_digit}
use Rattle.std.specs.List.{list_all, join_with_byte}
use Rattle.portal_base.specs.Names.{is_app_name}
use Rattle.portal_model.specs.declared.records.Row.{Row}
use Rattle.record_keeper.specs.SoundRecords.{IsGrant, IsRising}
use Rattle.script_lines.specs.Lines.{line_text, KeepsRules, hex_text, flags_text, AreBytes, is_script_path, grant_text, grants_text, row_text, rows_text, letters, IsNamedRow, device_text, last_seat, kind_text, who_text, IsCaller}
use Rattle.script_lines.specs.declared.line.DocFlags.{DocFlags}
use Rattle.script_lines.specs.declared.script.Device.{Device}
use Rattle.script_lines.specs.declared.script.ScriptLine.{ScriptLine}

-- the byte doesn't stand in the text
abbrev pub IsFree : ℕ → List ℕ → Type 0
IsFree separator text = All (λ b. (b == separator) ≡ false) text

-- the halves of a text at its first separator
pub record CutsAt (separator : ℕ) (text ahead behind : List ℕ) : Type 0 where
  pub whole : text ≡ ahead ++ (separator ∷ behind)
  pub first : IsFree separator ahead

-- the line that a text is, or none where it is no line
abbrev pub ReadsLine : List ℕ → Option ScriptLine → Type 0
ReadsLine text read = MatchOption read ((line : ScriptLine) → KeepsRules line
    → text ≢ line_text line) (λ line. KeepsRules line × (text ≡ line_text line))

abbrev pub ReadsBytes : List ℕ → Option (List ℕ) → Type 0
ReadsBytes word read = MatchOption read ((bytes : List ℕ) → AreBytes bytes
    → word ≢ hex_text bytes) (λ bytes. AreBytes bytes × (word ≡ hex_text bytes))

abbrev pub ReadsPath : List ℕ → Option (List ℕ) → Type 0
ReadsPath word read = MatchOption read (is_script_path word ≡ false) (λ path. (path ≡ word)
    × (is_script_path word ≡ true))

-- more than one byte, and a zero first
abbrev pub leads_with_zero : List ℕ → Bool
leads_with_zero [] = false
leads_with_zero (b ∷ []) = false
leads_with_zero (b ∷ c ∷ bs) = b == 48

-- decimal digits without leading zeros, at least one
abbrev pub are_digits : List ℕ → Bool
are_digits word = not (length word == 0)
    && (not (leads_with_zero word) && list_all is_ascii_digit word)

abbrev pub ReadsNumber : List ℕ → Option ℕ → Type 0
ReadsNumber word read = MatchOption read ((n : ℕ) → n < 2 ^ 64
    → word ≢ decimal n) (λ n. (n < 2 ^ 64) × (word ≡ decimal n))

-- the text that a word is, written as an application's name is
abbrev pub ReadsName : List ℕ → Option (List ℕ) → Type 0
ReadsName word read = MatchOption read (is_app_name word ≡ false) (λ name. (name ≡ word)
    × (is_app_name word ≡ true))

pub record IsSeat (word : List ℕ) (seat : ℕ) : Type 0 where
  pub low : 1 ≤ seat
  pub high : seat ≤ last_seat
  pub same : word ≡ decimal seat

abbrev pub ReadsSeat : List ℕ → Option ℕ → Type 0
ReadsSeat word read = MatchOption read ((seat : ℕ) → IsSeat word seat
    → ⊥) (λ seat. IsSeat word seat)

-- the rights that letters stand for
pub record AreLetters (word : List ℕ) (rights : ℕ) : Type 0 where
  pub low : 1 ≤ rights
  pub high : rights ≤ 15
  pub same : word ≡ letters rights

abbrev pub ReadsRights : List ℕ → Option ℕ → Type 0
ReadsRights word read = MatchOption read ((rights : ℕ) → AreLetters word rights
    → ⊥) (λ rights. AreLetters word rights)

abbrev pub ReadsGrant : List ℕ → Option GrantRecord → Type 0
ReadsGrant word read = MatchOption read ((grant : GrantRecord) → IsGrant grant
    → word ≢ grant_text grant) (λ grant. IsGrant grant × (word ≡ grant_text grant))

pub record AreGrants (word : List ℕ) (grants : List GrantRecord) : Type 0 where
  pub each : All IsGrant grants
  pub rising : IsRising (map (λ grant. grant.app) grants)
  pub same : word ≡ grants_text grants

abbrev pub ReadsGrants : List ℕ → Option (List GrantRecord) → Type 0
ReadsGrants word read = MatchOption read ((grants : List GrantRecord) → AreGrants word grants
    → ⊥) (λ grants. AreGrants word grants)

-- names, at least one, with a plus between each two
pub record AreNames (word : List ℕ) (names : List (List ℕ)) : Type 0 where
  pub some : names ≢ []
  pub each : All (λ name. is_app_name name ≡ true) names
  pub same : word ≡ join_with_byte 43 names

abbrev pub ReadsNames : List ℕ → Option (List (List ℕ)) → Type 0
ReadsNames word read = MatchOption read ((names : List (List ℕ)) → AreNames word names
    → ⊥) (λ names. AreNames word names)

abbrev pub ReadsRow : List ℕ → Option Row → Type 0
ReadsRow word read = MatchOption read ((row : Row) → IsNamedRow row
    → word ≢ row_text row) (λ row. IsNamedRow row × (word ≡ row_text row))

pub record AreRows (word : List ℕ) (rows : List Row) : Type 0 where
  pub each : All IsNamedRow rows
  pub same : word ≡ rows_text rows

abbrev pub ReadsRows : List ℕ → Option (List Row) → Type 0
ReadsRows word read = MatchOption read ((rows : List Row) → AreRows word rows
    → ⊥) (λ rows. AreRows word rows)

abbrev pub ReadsDevice : List ℕ → Option Device → Type 0
ReadsDevice word read = MatchOption read ((device : Device)
    → word ≢ device_text device) (λ device. word ≡ device_text device)

abbrev pub ReadsId : List ℕ → Option DocId → Type 0
ReadsId word read = MatchOption read ((id : DocId) → id.number < 2 ^ 32
    → word ≢ doc_text id.number) (λ id. (id.number < 2 ^ 32) × (word ≡ doc_text id.number))

abbrev pub ReadsFlags : List ℕ → Option DocFlags → Type 0
ReadsFlags word read = MatchOption read ((reusable strict : Bool)
    → word ≢ flags_text reusable strict) (λ flags. word ≡ flags_text flags.reusable flags.strict)

abbrev pub ReadsKind : List ℕ → Option Kind → Type 0
ReadsKind word read = MatchOption read ((kind : Kind)
    → word ≢ kind_text kind) (λ kind. word ≡ kind_text kind)

abbrev pub ReadsWho : List ℕ → Option Who → Type 0
ReadsWho word read = MatchOption read ((who : Who) → IsCaller who
    → word ≢ who_text who) (λ who. IsCaller who × (word ≡ who_text who))
