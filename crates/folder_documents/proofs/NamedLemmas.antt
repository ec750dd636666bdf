-- What one changed seat leaves of the others.
use Rattle.std.proofs.Common.{◌≡◌, ℕ, ◌==◌, List, false, Some, sym, subst}
use Rattle.folder_documents.specs.Named.{AtSeat, Enters, IsFresh, Named, named_on}

pub enters-as : (old new : List (ℕ × Named)) (seat : ℕ) (n : Named) → named_on new seat ≡ Some n → IsFresh n → ((s : ℕ) → (seat == s) ≡ false → named_on new s ≡ named_on old s) → AtSeat Enters old new seat
enters-as old new seat n e f rest = record { there = subst (Enters (named_on old seat)) (sym e) f; elsewhere = rest }
