-- The numbers of handles up to their limit: what each OPEN makes of the state, by whether the limit is met.
use Rattle.std.proofs.Common.{◌≡◌, ℕ, zero, suc, ◌+◌, ◌<◌, ◌≤◌, ◌==◌, nat_lt, List, [], ◌∷◌, ◌++◌, length, Bool, true, false, not, cond, Some, None, refl, ap, ◌∙◌, arith}
use Rattle.std.proofs.lemmas.Bool.Decides.{nat_tests}
use Rattle.file_generations.specs.Generations.{Held}
use Rattle.portal_base.specs.declared.who.Kind.TheVariants as Kind
use Rattle.portal_base.specs.declared.who.Who.{Who}
use Rattle.portal_model.specs.declared.entry.Given.{Given}
use Rattle.portal_model.specs.declared.handle.OpenHandle.{OpenHandle}
use Rattle.portal_model.specs.declared.reply.Answer.{Answer}
use Rattle.portal_model.specs.declared.reply.NodeAnswer.{NodeAnswer}
use Rattle.portal_model.specs.declared.request.NodeOp.{NodeOp}
use Rattle.portal_model.specs.declared.request.NodeRequest.{NodeRequest}
use Rattle.portal_model.specs.declared.state.Connection.{Connection}
use Rattle.portal_model.specs.declared.state.Document.{Document}
use Rattle.portal_model.specs.Examples.{a_text, editor}
use Rattle.portal_model.specs.FileExamples.{a_node, answer_to, errs, limited_to, request_on, shown, then, told, with_rights}
use Rattle.portal_model.specs.Node.{is_full, new_handle, node_given, settled_on_node}
use Rattle.portal_model.specs.NodeVerdict.{NodeVerdict}
use Rattle.portal_model.specs.Open.{file_handle, open_node}
use Rattle.portal_model.specs.Place.{SightOfFile}
use Rattle.portal_model.specs.State.{State, handles_of, held_in}
use Rattle.portal_model.specs.Walk.{Walk, listed_shown, looks_shown, reads_clock}
use Rattle.file_laws.specs.HandleLimits.{HandlesAreLimited, HandlesUpTo, opened_up_to}

-- ---- the state, and what an OPEN makes of it

abbrev open_request : NodeRequest
open_request = request_on a_node (NodeOp.Open 0)

-- a mount of a seat, which opened so often
abbrev mount : ℕ → Who → ℕ → Connection
mount seat who opens = record { seat = seat; who = who; kind = Kind.Mount; queue = []; unsent = []; opens = opens; namings = []; temps = []; added = 0 }

abbrev bus : Connection
bus = record (mount 3 Who.Host 0) { kind = Kind.Bus }

-- where the limit is this, the editor opened so often, and these handles are open
abbrev at : ℕ → ℕ → List OpenHandle → State
at limit opens handles = record (limited_to limit (with_rights 3)) {
  connections = mount 1 (Who.App editor) opens ∷ mount 2 Who.Host 0 ∷ bus ∷ [];
  handles = handles;
}

abbrev files : Held
files = held_in (with_rights 3)

-- the document, as it is kept
abbrev a_document : Document
a_document = record { id = record { number = 10 }; path = a_text; persistent = true; reusable = true; strict = false; folder = false }

-- the walk of an OPEN of the file, by whether the limit is met
abbrev walk_by : ℕ → Bool → Walk NodeVerdict
walk_by opens full = open_node open_request 0 (Some (SightOfFile a_document true)) (record { opens = opens; full = full })

abbrev given_by : ℕ → Bool → Given
given_by opens full =
    let looks = looks_shown files (walk_by opens full) in
    record (shown looks (cond (reads_clock (walk_by opens full) looks) (Some 7) None)) { listed = listed_shown files (walk_by opens full) }

abbrev settled_by : State → Connection → Bool → State × Answer
settled_by s c full = settled_on_node s c (node_given (walk_by c.opens full) (given_by c.opens full))

abbrev handle_made : Connection → OpenHandle
handle_made c = new_handle c (file_handle a_document (record { path = a_text; generation = 0 }) a_node 0)

-- ---- an OPEN of the editor, and one of the host

module _ (limit opens : ℕ) (handles : List OpenHandle) where
  abbrev here : State
  here = at limit opens handles

  abbrev own : Connection
  own = mount 1 (Who.App editor) opens

  settled-is : then here 1 a_node (NodeOp.Open 0) ≡ (settled_by here own (is_full limit (handles_of handles 1))).0
  settled-is = refl

  answer-is : answer_to here 1 a_node (NodeOp.Open 0) ≡ (settled_by here own (is_full limit (handles_of handles 1))).1
  answer-is = refl

  opens-next : is_full limit (handles_of handles 1) ≡ false → then here 1 a_node (NodeOp.Open 0) ≡ at limit (opens + 1) (handles ++ handle_made own ∷ [])
  opens-next e = settled-is ∙ ap (λ (full : Bool). (settled_by here own full).0) e

  answers-next : is_full limit (handles_of handles 1) ≡ false → answer_to here 1 a_node (NodeOp.Open 0) ≡ told (NodeAnswer.Opened (opens + 1))
  answers-next e = answer-is ∙ ap (λ (full : Bool). (settled_by here own full).1) e

  answers-full : is_full limit (handles_of handles 1) ≡ true → answer_to here 1 a_node (NodeOp.Open 0) ≡ errs 24
  answers-full e = answer-is ∙ ap (λ (full : Bool). (settled_by here own full).1) e

  answers-elsewhere : is_full limit (handles_of handles 2) ≡ false → answer_to here 2 a_node (NodeOp.Open 0) ≡ told (NodeAnswer.Opened 1)
  answers-elsewhere e = ap (λ (full : Bool). (settled_by here (mount 2 Who.Host 0) full).1) e

-- ---- the handles that are open then

abbrev handles_made : ℕ → List OpenHandle
handles_made zero = []
handles_made (suc count) = handles_made count ++ handle_made (mount 1 (Who.App editor) count) ∷ []

more-of : (seat : ℕ) (x : OpenHandle) (xs : List OpenHandle) → (x.seat == seat) ≡ true → length (handles_of (xs ++ x ∷ []) seat) ≡ length (handles_of xs seat) + 1
more-of seat x [] e = grind (arith, e)
more-of seat x (y ∷ ys) e = grind (arith, more-of seat x ys e)

same-of : (seat : ℕ) (x : OpenHandle) (xs : List OpenHandle) → (x.seat == seat) ≡ false → length (handles_of (xs ++ x ∷ []) seat) ≡ length (handles_of xs seat)
same-of seat x [] e = grind (arith, e)
same-of seat x (y ∷ ys) e = grind (arith, same-of seat x ys e)

own-count : (count : ℕ) → length (handles_of (handles_made count) 1) ≡ count
own-count zero = refl
own-count (suc count) =
    let more = more-of 1 (handle_made (mount 1 (Who.App editor) count)) (handles_made count) refl in
    let less = own-count count in
    omega (arith, more, less)

no-count : (count : ℕ) → length (handles_of (handles_made count) 2) ≡ 0
no-count zero = refl
no-count (suc count) = same-of 2 (handle_made (mount 1 (Who.App editor) count)) (handles_made count) refl ∙ no-count count

below : (count limit : ℕ) → count < limit → not (nat_lt count limit) ≡ false
below count limit h = grind (arith, nat_tests)

met : (limit : ℕ) → not (nat_lt limit limit) ≡ true
met limit = grind (arith, nat_tests)

has-room : (limit count : ℕ) → count < limit → is_full limit (handles_of (handles_made count) 1) ≡ false
has-room limit count h = ap (λ (n : ℕ). not (nat_lt n limit)) (own-count count) ∙ below count limit h

has-none : (limit : ℕ) → is_full limit (handles_of (handles_made limit) 1) ≡ true
has-none limit = ap (λ (n : ℕ). not (nat_lt n limit)) (own-count limit) ∙ met limit

has-elsewhere : (limit : ℕ) → 0 < limit → is_full limit (handles_of (handles_made limit) 2) ≡ false
has-elsewhere limit h = ap (λ (n : ℕ). not (nat_lt n limit)) (no-count limit) ∙ below 0 limit h

-- ---- the state after so many OPENs

one-more : (n : ℕ) → n + 1 ≡ suc n
one-more n = omega arith

next-below : (n limit : ℕ) → suc n ≤ limit → n < limit
next-below n limit h = omega arith

still-below : (n limit : ℕ) → suc n ≤ limit → n ≤ limit
still-below n limit h = omega arith

opened-is : (limit count : ℕ) → count ≤ limit → opened_up_to limit count ≡ at limit count (handles_made count)
opened-is limit zero h = refl
opened-is limit (suc count) h =
    ap (λ (s : State). then s 1 a_node (NodeOp.Open 0)) (opened-is limit count (still-below count limit h))
    ∙ (opens-next limit count (handles_made count) (has-room limit count (next-below count limit h))
    ∙ ap (λ (n : ℕ). at limit n (handles_made (suc count))) (one-more count))

within : (count limit : ℕ) → count < limit → count ≤ limit
within count limit h = omega arith

up-to : (limit : ℕ) → HandlesUpTo limit
up-to limit = record {
  each = λ count h.
      ap (λ (s : State). answer_to s 1 a_node (NodeOp.Open 0)) (opened-is limit count (within count limit h))
      ∙ answers-next limit count (handles_made count) (has-room limit count h);
  full =
      ap (λ (s : State). answer_to s 1 a_node (NodeOp.Open 0)) (opened-is limit limit (omega arith))
      ∙ answers-full limit limit (handles_made limit) (has-none limit);
  elsewhere = λ h.
      ap (λ (s : State). answer_to s 2 a_node (NodeOp.Open 0)) (opened-is limit limit (omega arith))
      ∙ answers-elsewhere limit limit (handles_made limit) (has-elsewhere limit h);
}

pub limited : HandlesAreLimited
limited = record { any = up-to; usual = up-to 1024 }
