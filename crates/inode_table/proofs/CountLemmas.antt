-- What one changed key leaves of the counts.
use Rattle.std.proofs.Common.{◌≡◌, ◌≢◌, ℕ, ◌==◌, List, Bool, true, false, not, cond, Option, Some, None, refl, sym, ap, subst, ◌∙◌, arith, filter}
use Rattle.std.specs.Map.{lookup}
use Rattle.std.specs.Option.{unwrap_or}
use Rattle.std.proofs.lemmas.Bool.Decides.{nat_tests}
use Rattle.std.proofs.lemmas.Map.Entries.{lookup-filter-keys}
use Rattle.std.proofs.lemmas.Map.Made.{IsDistinct-keys_filter}
use Rattle.inode_table.specs.declared.inodes.SeatNode.{SeatNode}
use Rattle.inode_table.specs.Counts.{is_same_node, count_of, IsCountedAs, IsEmptied, AreCounts, is_elsewhere}

abbrev pub key : ℕ → ℕ → SeatNode
key s n = record { seat = s; node = n }

-- the key has this value, and each other its own
abbrev pub IsUpdated : List (SeatNode × ℕ) → List (SeatNode × ℕ) → SeatNode → Option ℕ → Type 0
IsUpdated old new held w = (q : SeatNode) → lookup (is_same_node q) new ≡ cond (is_same_node held q) w (lookup (is_same_node q) old)

pub still-counted : (old new : List (SeatNode × ℕ)) (held : SeatNode) (w : Option ℕ) → IsUpdated old new held w → w ≢ Some 0 → ((s n : ℕ) → lookup (is_same_node (key s n)) old ≢ Some 0) →
    (s n : ℕ) → lookup (is_same_node (key s n)) new ≢ Some 0
still-counted old new held w u z c s n e = step (is_same_node held (key s n)) refl
  where
    step : (b : Bool) → is_same_node held (key s n) ≡ b → ⊥
    step true k = z (ap (λ (b : Bool). cond b w (lookup (is_same_node (key s n)) old)) (sym k) ∙ (sym (u (key s n)) ∙ e))
    step false k = c s n (ap (λ (b : Bool). cond b w (lookup (is_same_node (key s n)) old)) (sym k) ∙ (sym (u (key s n)) ∙ e))

counted-as : (old new : List (SeatNode × ℕ)) (held : SeatNode) (w : Option ℕ) → IsUpdated old new held w → IsCountedAs old new held.seat held.node (unwrap_or w 0)
counted-as old new held w u s n = ap (λ (o : Option ℕ). unwrap_or o 0) (u (key s n)) ∙ step (is_same_node held (key s n))
  where
    step : (b : Bool) → unwrap_or (cond b w (lookup (is_same_node (key s n)) old)) 0 ≡ cond b (unwrap_or w 0) (count_of old s n)
    step true = refl
    step false = refl

-- the same, where the old counts and the count are shown in other words
pub shown-as : (old new shown : List (SeatNode × ℕ)) (held : SeatNode) (w : Option ℕ) (count : ℕ) → IsUpdated old new held w → old ≡ shown → unwrap_or w 0 ≡ count → IsCountedAs shown new held.seat held.node count
shown-as old new shown held w count u e k = subst (λ (es : List (SeatNode × ℕ)). IsCountedAs es new held.seat held.node count) e (subst (IsCountedAs old new held.seat held.node) k (counted-as old new held w u))

-- ---- the counts of other seats

elsewhere-alike : (seat s n : ℕ) (k : SeatNode) → is_same_node (key s n) k ≡ true → not (k.seat == seat) ≡ not (seat == s)
elsewhere-alike seat s n k h = grind (arith, nat_tests)

pub left-elsewhere : (seat s n : ℕ) (counts : List (SeatNode × ℕ)) → lookup (is_same_node (key s n)) (filter (is_elsewhere seat) counts) ≡ cond (not (seat == s)) (lookup (is_same_node (key s n)) counts) None
left-elsewhere seat s n counts = lookup-filter-keys (is_same_node (key s n)) (λ k. not (k.seat == seat)) (not (seat == s)) (elsewhere-alike seat s n) counts

pub emptied : (seat : ℕ) (counts new : List (SeatNode × ℕ)) → new ≡ filter (is_elsewhere seat) counts → IsEmptied counts new seat
emptied seat counts new e s n = ap (λ (es : List (SeatNode × ℕ)). count_of es s n) e ∙ (ap (λ (o : Option ℕ). unwrap_or o 0) (left-elsewhere seat s n counts) ∙ step (seat == s))
  where
    step : (b : Bool) → unwrap_or (cond (not b) (lookup (is_same_node (key s n)) counts) None) 0 ≡ cond b 0 (count_of counts s n)
    step true = refl
    step false = refl

pub counts-elsewhere : (seat : ℕ) (counts new : List (SeatNode × ℕ)) → new ≡ filter (is_elsewhere seat) counts → AreCounts counts → AreCounts new
counts-elsewhere seat counts new e a = subst AreCounts (sym e) (record {
  differ = IsDistinct-keys_filter is_same_node (is_elsewhere seat) counts a.differ;
  counted = λ s n h. step s n (seat == s) (sym (left-elsewhere seat s n counts) ∙ h);
})
  where
    step : (s n : ℕ) (b : Bool) → cond (not b) (lookup (is_same_node (key s n)) counts) None ≡ Some 0 → ⊥
    step s n true h = cc
    step s n false h = a.counted s n h
