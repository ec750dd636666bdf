-- What the devices in memory are: what they hold, and the number of the call that is to fail.
use Rattle.std.specs.Prelude.{◌≡◌, ℕ, List, Bool, true, false, ◌==◌, if◌then◌else◌}
use Rattle.portal_base.specs.declared.outside.WriteAnswer.{WriteAnswer}
use Rattle.portal_base.specs.declared.outside.WriteAnswer.TheVariants as write
use Rattle.portal_base.specs.declared.outside.ReadAnswer.{ReadAnswer}
use Rattle.portal_base.specs.declared.outside.ReadAnswer.TheVariants as read
use Rattle.portal_base.specs.Outside.{rises_by}

-- a source in memory: the bytes that are left, the calls so far, the number of the call that
-- is to fail, or 0, and the faults so far
pub record SourceState : Type 0 where
  pub left : List ℕ
  pub calls : ℕ
  pub fail_at : ℕ
  pub faults : ℕ

-- a sink in memory: the pieces that were written, and the same numbers
pub record SinkState : Type 0 where
  pub pieces : List (List ℕ)
  pub calls : ℕ
  pub fail_at : ℕ
  pub faults : ℕ

abbrev pub is_read_fault : ReadAnswer → Bool
is_read_fault (read.Got n) = false
is_read_fault read.End = false
is_read_fault read.Failed = true

abbrev pub is_write_fault : WriteAnswer → Bool
is_write_fault write.Done = false
is_write_fault write.Failed = true

abbrev pub count_after : ℕ → Bool → ℕ
count_after faults failed = if failed then rises_by faults 1 else faults

-- a read is one more call, and fails exactly where its number is the one that is to fail
pub record CountsRead (old : SourceState) (answer : ReadAnswer) (new : SourceState) : Type 0 where
  pub calls : new.calls ≡ rises_by old.calls 1
  pub fail_at : new.fail_at ≡ old.fail_at
  pub fails : is_read_fault answer ≡ (new.calls == old.fail_at)
  pub faults : new.faults ≡ count_after old.faults (is_read_fault answer)

-- a write is one more call, and fails where its number is the one that is to fail, or where
-- there is no memory; nothing of its bytes is then written
pub record CountsWrite (old : SinkState) (answer : WriteAnswer) (new : SinkState) : Type 0 where
  pub calls : new.calls ≡ rises_by old.calls 1
  pub fail_at : new.fail_at ≡ old.fail_at
  pub fails : (new.calls == old.fail_at) ≡ true → is_write_fault answer ≡ true
  pub faults : new.faults ≡ count_after old.faults (is_write_fault answer)
  pub unwritten : is_write_fault answer ≡ true → new.pieces ≡ old.pieces
