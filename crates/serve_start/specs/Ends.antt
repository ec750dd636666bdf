-- The numbers of a service's ends.
use Rattle.std.specs.Prelude.{ℕ}
use Rattle.serve_start.specs.declared.end.ServeEnd.{ServeEnd}
use Rattle.serve_start.specs.declared.end.ServeEnd.TheVariants.{Closed, Usage, NoRoot, NoSocket, FewFiles, FewThreads, NoTrial, NoSeed, KeeperFault, BadRecord, Memory, BadVersion, SocketFault}

-- the number that the program ends with
abbrev pub number_of : ServeEnd → ℕ
number_of Closed = 0
number_of (Usage why) = 1
number_of (NoRoot why) = 1
number_of (NoSocket path why) = 2
number_of (FewFiles wanted allowed) = 2
number_of (FewThreads wanted) = 2
number_of (NoTrial why) = 2
number_of (NoSeed why) = 2
number_of (KeeperFault why) = 3
number_of (BadRecord index) = 4
number_of Memory = 5
number_of (BadVersion found) = 6
number_of SocketFault = 7
