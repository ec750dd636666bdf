-- Laws of messages, which the public functions of src/laws.rt state.
use Rattle.std.specs.Prelude.{◌≡◌, ◌⊎◌, ℕ, ◌<◌, ◌≤◌, List, ◌++◌, length, take}
use Rattle.std.specs.List.{All}
use Rattle.portal_base.specs.declared.split.Split.{Split}
use Rattle.portal_base.specs.declared.split.Split.TheVariants as S
use Rattle.dbus_types.specs.declared.message.Message.{Message}
use Rattle.dbus_types.specs.declared.message.OutMessage.{OutMessage}
use Rattle.dbus_message.specs.Rules.{IsFirstBroken, IsWhole}
use Rattle.dbus_message.specs.Messages.{IsMessage, IsSplit}
use Rattle.dbus_message.specs.Written.{IsWritten}

-- A whole message at the front of bytes has a header, and lies within them. It stands at the front
-- of each list that begins with it: alone, and with more behind. A header that breaks a rule breaks
-- it whatever follows.
pub record FrontsStand : Type 0 where
  pub within : (bytes : List ℕ) (len : ℕ) → IsSplit bytes (S.Whole len) → (16 ≤ len)
      × (len ≤ length bytes)
  pub alike : (bytes other : List ℕ) (len : ℕ) → IsSplit bytes (S.Whole len) → len ≤ length other
      → take len bytes ≡ take len other → IsSplit other (S.Whole len)
  pub alone : (bytes : List ℕ) (len : ℕ) → IsSplit bytes (S.Whole len)
      → IsSplit (take len bytes) (S.Whole len)
  pub followed : (bytes more : List ℕ) (len : ℕ) → IsSplit bytes (S.Whole len)
      → IsSplit (bytes ++ more) (S.Whole len)
  pub bad : (bytes more : List ℕ) (rule : ℕ) → IsSplit bytes (S.Bad rule)
      → IsSplit (bytes ++ more) (S.Bad rule)

-- The bytes of a whole message at the front are whole, and what is whole is a whole message at its
-- own front.
pub record FrontsAreWhole : Type 0 where
  pub taken : (bytes : List ℕ) (len : ℕ) → IsSplit bytes (S.Whole len) → IsWhole (take len bytes)
  pub whole : (bytes : List ℕ) → IsSplit bytes (S.Whole (length bytes)) → IsWhole bytes
  pub split : (bytes : List ℕ) → IsWhole bytes → IsSplit bytes (S.Whole (length bytes))

-- something stands at the front, and it is one
pub record FrontsAreOne : Type 0 where
  pub some : (bytes : List ℕ) → (s : Split) × IsSplit bytes s
  pub one : (bytes : List ℕ) (s t : Split) → IsSplit bytes s → IsSplit bytes t → s ≡ t

-- Bytes as long as their header states are one message, or one rule is the first that they break,
-- and not both.
pub record ReadingsAreOne : Type 0 where
  pub found : (bytes : List ℕ) → All (λ b. b < 256) bytes → IsWhole bytes
      → ((m : Message) × IsMessage bytes m) ⊎ ((rule : ℕ) × IsFirstBroken bytes rule)
  pub message : (bytes : List ℕ) (m n : Message) → IsMessage bytes m → IsMessage bytes n → m ≡ n
  pub rule : (bytes : List ℕ) (p q : ℕ) → IsFirstBroken bytes p → IsFirstBroken bytes q → p ≡ q
  pub apart : (bytes : List ℕ) (m : Message) (p : ℕ) → IsMessage bytes m → IsFirstBroken bytes p → ⊥

-- what is written is a function of the message and its serial
abbrev pub WrittenAreOne : Type 0
WrittenAreOne = (out : OutMessage) (serial : ℕ) (xs ys : List ℕ) → IsWritten out serial xs
    → IsWritten out serial ys → xs ≡ ys
