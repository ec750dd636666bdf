-- One request more of a row.
use Rattle.std.proofs.Common.{◌≡◌, ◌+◌, ◌<◌, ◌≤◌, ◌++◌, ◌&&◌, ℕ, suc, List, [], ◌∷◌, length, map, Bool, true, false, refl, sym, ap, ◌∙◌, arith}
use Rattle.std.specs.List.{list_all, sum_by}
use Rattle.std.proofs.lemmas.List.{append_assoc, map-append}
use Rattle.std.proofs.lemmas.List.Sums.{sum_by-append, sum_by-cons}
use Rattle.portal_model.specs.declared.entry.Entry.{Entry}
use Rattle.portal_model.specs.declared.reply.Refused.{Refused}
use Rattle.portal_model.specs.declared.reply.Refused.TheVariants.{Memory, Full}
use Rattle.portal_model.specs.History.{cost, cost_of}
use Rattle.portal_steps.specs.Devices.{is_reserved}
use Rattle.portal_steps.specs.Story.{HasCause, Story, cost_with, limit_of}
use Rattle.reserve_laws.specs.Rows.{IsFull, are_reserved, asked_by, cost_of_all}
use Rattle.reserve_laws.specs.declared.rows.SeatRequest.{SeatRequest}

first-of : (x y : Bool) → (x && y) ≡ true → x ≡ true
first-of true y e = refl
first-of false y e = e

rest-of : (x y : Bool) → (x && y) ≡ true → y ≡ true
rest-of true y e = e
rest-of false y e = cc

module _ (items rest : List SeatRequest) (next : SeatRequest) (i : items ≡ next ∷ rest) where
  both : are_reserved items ≡ true → (is_reserved next.request && are_reserved rest) ≡ true
  both h = sym (ap are_reserved i) ∙ h

  pub reserved-next : are_reserved items ≡ true → is_reserved next.request ≡ true
  reserved-next h = first-of (is_reserved next.request) (are_reserved rest) (both h)

  pub reserved-rest : are_reserved items ≡ true → are_reserved rest ≡ true
  reserved-rest h = rest-of (is_reserved next.request) (are_reserved rest) (both h)

  one-less : length items ≡ suc (length rest)
  one-less = ap (λ (l : List SeatRequest). length l) i

  -- memory is there for the next one, and then for the rest
  pub room-next : (before now all : ℕ) → before + length items ≤ now + all → all ≤ before → 0 < now
  room-next before now all h k = let one = one-less in omega arith

  pub room-rest : (before now then all : ℕ) → before + length items ≤ now + all → now ≤ then + 1 → before + length rest ≤ then + all
  room-rest before now then all h k = let one = one-less in omega arith

  costs-next : cost_of_all items ≡ cost_of next.request + cost_of_all rest
  costs-next = ap cost_of_all i ∙ sum_by-cons (λ (r : SeatRequest). cost_of r.request) next rest

  -- the history has room for the next one
  pub fits-next : (p : Story) (whole limit : ℕ) → cost p.history + cost_of_all items ≡ whole → whole ≤ limit → limit ≡ limit_of p → cost_with p next.request ≤ limit_of p
  fits-next p whole limit h k l =
      let some = costs-next in
      let fits : cost p.history + cost_of next.request ≤ limit_of p = omega arith in
      fits

  -- what all cost stays the same
  pub costs-rest : (h now : List Entry) (e : Entry) (whole : ℕ) → now ≡ h ++ e ∷ [] → e.request ≡ next.request → cost h + cost_of_all items ≡ whole → cost now + cost_of_all rest ≡ whole
  costs-rest h now e whole g r k =
      let some = costs-next in
      let one : cost (e ∷ []) ≡ cost_of e.request + 0 = sum_by-cons (λ (x : Entry). cost_of x.request) e [] in
      let grown : cost now ≡ cost h + cost (e ∷ []) = ap cost g ∙ sum_by-append (λ (x : Entry). cost_of x.request) h (e ∷ []) in
      let same : cost_of e.request ≡ cost_of next.request = ap cost_of r in
      omega arith

  -- the entries are those of the requests so far
  pub row-next : (all : List SeatRequest) (es : List Entry) (e : Entry) → e.seat ≡ next.seat → e.request ≡ next.request → map asked_by es ++ items ≡ all → map asked_by (es ++ e ∷ []) ++ rest ≡ all
  row-next all es e s r h =
      let same : asked_by e ≡ next = λ j. record { seat = s j; request = r j } in
      ap (λ (l : List SeatRequest). l ++ rest) (map-append asked_by es (e ∷ []))
      ∙ (append_assoc (map asked_by es) (asked_by e ∷ []) rest
      ∙ ((λ j. map asked_by es ++ same j ∷ rest)
      ∙ (ap (λ (l : List SeatRequest). map asked_by es ++ l) (sym i) ∙ h)))

pub grown-next : (first h now : List Entry) (es : List Entry) (e : Entry) → h ≡ first ++ es → now ≡ h ++ e ∷ [] → now ≡ first ++ (es ++ e ∷ [])
grown-next first h now es e a b = b ∙ (ap (λ (l : List Entry). l ++ e ∷ []) a ∙ append_assoc first es (e ∷ []))

-- a refusal of what has memory is for want of room in the history
pub full-alone : (p : Story) (r : SeatRequest) (why : Refused) → HasCause p r.request why → (cost_with p r.request ≤ limit_of p → ⊥) → IsFull why
full-alone p r Memory h never = never h
full-alone p r (Full count limit) h never = tt

pub none-left : (items : List SeatRequest) → length items ≡ 0 → items ≡ []
none-left [] h = refl
none-left (r ∷ rs) h = absurd (let no : ⊥ = omega arith in no)
