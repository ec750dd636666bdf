-- Sources and sinks that may say "not yet".
use Rattle.std.specs.Prelude.{◌≡◌, ℕ, ◌≤◌, List, ◌++◌, length, take, Option, Some, None, ⊤}
use Rattle.portal_base.specs.Outside.{HasRisen, Reads}
use Rattle.session.specs.Items.{joined}
use Rattle.portal_base.specs.declared.outside.ReadAnswer.TheVariants as answer
use Rattle.poll_ends.specs.declared.outside.PollRead.{PollRead}
use Rattle.poll_ends.specs.declared.outside.PollRead.TheVariants as read
use Rattle.poll_ends.specs.declared.outside.PollWrote.{PollWrote}
use Rattle.poll_ends.specs.declared.outside.PollWrote.TheVariants as wrote

-- ---- counts

-- how many calls failed, and how many were told to wait
pub record Counts : Type 0 where
  pub faults : ℕ
  pub waits : ℕ

-- the counts of what never says "not yet"
abbrev pub faults_alone : ℕ → Counts
faults_alone n = record { faults = n; waits = 0 }

-- neither falls
pub record NoneFalls (old new : Counts) : Type 0 where
  pub faults : old.faults ≤ new.faults
  pub waits : old.waits ≤ new.waits

-- only a fault is counted, and the count has risen
pub record Faulted (old new : Counts) : Type 0 where
  pub falls : NoneFalls old new
  pub risen : HasRisen old.faults new.faults
  pub waits : new.waits ≡ old.waits

-- only a wait is counted, and the count has risen
pub record Waited (old new : Counts) : Type 0 where
  pub falls : NoneFalls old new
  pub risen : HasRisen old.waits new.waits
  pub faults : new.faults ≡ old.faults

-- ---- what is told

-- these bytes behind those that are told
abbrev pub appended : Option (List ℕ) → List ℕ → Option (List ℕ)
appended None bytes = None
appended (Some told) bytes = Some (told ++ bytes)

-- ---- one read

-- What a read does to what is left, as at a source that waits; nothing is taken where nothing came.
abbrev pub PollReads : Option (List ℕ) → List ℕ → PollRead → Option (List ℕ) → Type 0
PollReads old buffer (read.Got n) new = Reads old buffer (answer.Got n) new
PollReads old buffer read.End new = Reads old buffer answer.End new
PollReads old buffer read.NotYet new = new ≡ old
PollReads old buffer read.Failed new = Reads old buffer answer.Failed new

abbrev pub ReadCounts : Counts → PollRead → Counts → Type 0
ReadCounts old (read.Got n) new = new ≡ old
ReadCounts old read.End new = new ≡ old
ReadCounts old read.NotYet new = Waited old new
ReadCounts old read.Failed new = Faulted old new

abbrev pub IfReadWaits : PollRead → Type 0 → Type 0
IfReadWaits (read.Got n) P = ⊤
IfReadWaits read.End P = ⊤
IfReadWaits read.NotYet P = P
IfReadWaits read.Failed P = ⊤

-- ---- one write

-- What a write does: a front of the bytes is taken, which isn't empty; or nothing; or it failed,
-- and some front is written.
abbrev pub PollWrites : Option (List ℕ) → List ℕ → PollWrote → Option (List ℕ) → Type 0
PollWrites old bytes (wrote.Took n) new =
    (1 ≤ n) × (n ≤ length bytes) × (new ≡ appended old (take n bytes))
PollWrites old bytes wrote.NotYet new = new ≡ old
PollWrites old bytes wrote.Failed new = (k : ℕ) × (new ≡ appended old (take k bytes))

abbrev pub WriteCounts : Counts → PollWrote → Counts → Type 0
WriteCounts old (wrote.Took n) new = new ≡ old
WriteCounts old wrote.NotYet new = Waited old new
WriteCounts old wrote.Failed new = Faulted old new

abbrev pub IfWriteWaits : PollWrote → Type 0 → Type 0
IfWriteWaits (wrote.Took n) P = ⊤
IfWriteWaits wrote.NotYet P = P
IfWriteWaits wrote.Failed P = ⊤

-- ---- sinks of pieces

-- the bytes of the pieces that are told
abbrev pub flat : Option (List (List ℕ)) → Option (List ℕ)
flat None = None
flat (Some pieces) = Some (joined pieces)
