-- How an opening ends: well, by a refusal, which is counted, or for want of memory.
use Rattle.std.specs.Prelude.{◌≡◌, ◌<◌, ℕ, Result, Ok, Err}
use Rattle.portal_base.specs.Outside.{HasRisen}
use Rattle.serve_start.specs.declared.end.ServeEnd.{ServeEnd}
use Rattle.serve_start.specs.declared.end.ServeEnd.TheVariants.{Closed, Usage, NoRoot, NoSocket, FewFiles, FewThreads, NoTrial, NoSeed, KeeperFault, BadRecord, Memory, BadVersion, SocketFault}

-- Why no service began, where the count of refusals was this before and is that now: a refusal is
-- counted, and of too few files it is told that they are too few; want of memory isn't counted. A
-- service whose words are faulty, or that was served, is no refusal of an opening.
abbrev pub Refuses : ℕ → ServeEnd → ℕ → Type 0
Refuses old (NoRoot why) new = HasRisen old new
Refuses old (NoSocket path why) new = HasRisen old new
Refuses old (FewFiles wanted allowed) new = (allowed < wanted) × HasRisen old new
Refuses old (FewThreads wanted) new = HasRisen old new
Refuses old (NoTrial why) new = HasRisen old new
Refuses old (NoSeed why) new = HasRisen old new
Refuses old (KeeperFault why) new = HasRisen old new
Refuses old Memory new = new ≡ old
Refuses old Closed new = ⊥
Refuses old (Usage why) new = ⊥
Refuses old (BadRecord index) new = ⊥
Refuses old (BadVersion found) new = ⊥
Refuses old SocketFault new = ⊥

-- what was opened is no refusal
abbrev pub Opens : {X : Type 0} → ℕ → Result X ServeEnd → ℕ → Type 0
Opens old (Ok x) new = new ≡ old
Opens old (Err end) new = Refuses old end new

-- ---- what each opening may be refused by

-- fewer files may be open than these
abbrev pub IsFewFiles : ℕ → ServeEnd → Type 0
IsFewFiles wanted (FewFiles files allowed) = files ≡ wanted
IsFewFiles wanted end = ⊥

-- fewer threads are given, or it can't be tried
abbrev pub IsOfThreads : ServeEnd → Type 0
IsOfThreads (FewThreads wanted) = Unit {0}
IsOfThreads (NoTrial why) = Unit {0}
IsOfThreads end = end ≡ Memory

abbrev pub IsOfRoot : ServeEnd → Type 0
IsOfRoot (NoRoot why) = Unit {0}
IsOfRoot end = end ≡ Memory

abbrev pub IsOfSeed : ServeEnd → Type 0
IsOfSeed (NoSeed why) = Unit {0}
IsOfSeed end = end ≡ Memory

abbrev pub IsOfSocket : ServeEnd → Type 0
IsOfSocket (NoSocket path why) = Unit {0}
IsOfSocket end = end ≡ Memory

abbrev pub IsOfStore : ServeEnd → Type 0
IsOfStore (KeeperFault why) = Unit {0}
IsOfStore end = end ≡ Memory
