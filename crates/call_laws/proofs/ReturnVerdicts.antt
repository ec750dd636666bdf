-- What holds of the answer of a request's verdict, and of every refusal, holds of the answer that
-- its step gives, whatever the outside gave.
use Rattle.std.proofs.Common.{ℕ, Bool, true, false, cond, List, [], ◌∷◌, Option, Some, None}
use Rattle.portal_base.specs.declared.files.ChildName.{ChildName}
use Rattle.portal_base.specs.declared.files.Look.{Look}
use Rattle.portal_model.specs.declared.entry.Fault.{Fault}
use Rattle.portal_model.specs.declared.entry.Given.{Given}
use Rattle.portal_model.specs.declared.reply.Answer.{Answer}
use Rattle.portal_model.specs.declared.reply.Code.{Code}
use Rattle.portal_model.specs.declared.reply.Code.TheVariants as code
use Rattle.portal_model.specs.declared.request.Request.{Request}
use Rattle.portal_model.specs.declared.state.Connection.{Connection}
use Rattle.portal_model.specs.Bus.{bus_answer, bus_walk, is_tree, kept, moment_given, refused_state, settled, verdict_given}
use Rattle.portal_model.specs.State.{State}
use Rattle.portal_model.specs.Step.{all_told, bus_step}
use Rattle.portal_model.specs.Verdict.{Doing, Verdict, Refuses, Does, unless, walk_unless}
use Rattle.portal_model.specs.Walk.{Walk, Answers, Looks, Ends, Lists, walked, looks_at_all}

abbrev pub OfVerdict : (Answer → Type 0) → Verdict → Type 0
OfVerdict P (Refuses code) = Unit {0}
OfVerdict P (Does d) = P d.answer

abbrev OfSome : (Answer → Type 0) → Option Verdict → Type 0
OfSome P None = Unit {0}
OfSome P (Some v) = OfVerdict P v

abbrev pub OfWalk : (Answer → Type 0) → Walk Verdict → Type 0
OfWalk P (Answers v) = OfVerdict P v
OfWalk P (Looks target next) = (look : Look) → OfWalk P (next look)
OfWalk P (Ends call done missing) = ((now : ℕ) → OfVerdict P (done now)) × OfVerdict P missing
OfWalk P (Lists path done missing) = ((names : List ChildName) → OfVerdict P (done names)) × OfVerdict P missing

-- ---- checks

pub of_unless : (P : Answer → Type 0) (wrong : Bool) (code : Code) (v : Verdict) → OfVerdict P v → OfVerdict P (unless wrong code v)
of_unless P true code v h = tt
of_unless P false code v h = h

pub of_walk_unless : (P : Answer → Type 0) (wrong : Bool) (code : Code) (w : Walk Verdict) → OfWalk P w → OfWalk P (walk_unless wrong code w)
of_walk_unless P true code w h = tt
of_walk_unless P false code w h = h

pub of_looks : (P : Answer → Type 0) (paths : List (List ℕ)) (next : List Look → Walk Verdict) → ((looks : List Look) → OfWalk P (next looks)) → OfWalk P (looks_at_all paths next)
of_looks P [] next h = h []
of_looks P (path ∷ paths) next h = λ look. of_looks P paths (λ looks. next (look ∷ looks)) (λ looks. h (look ∷ looks))

-- ---- what is answered

of_walked : (P : Answer → Type 0) (w : Walk Verdict) (now : ℕ) (looks : List Look) (failed : Bool) → OfWalk P w → OfSome P (walked w now looks failed)
of_walked P (Answers v) now looks failed h = h
of_walked P (Looks target next) now [] failed h = tt
of_walked P (Looks target next) now (look ∷ looks) failed h = of_walked P (next look) now looks failed (h look)
of_walked P (Ends call done missing) now [] true h = tt
of_walked P (Ends call done missing) now [] false h = h.0 now
of_walked P (Ends call done missing) now (look ∷ looks) failed h = h.1
of_walked P (Lists path done missing) now looks true h = tt
of_walked P (Lists path done missing) now looks false h = h.1

module _ (P : Answer → Type 0) (refused : (code : Code) → P (Answer.Refused code)) where
  of_kept : (s : State) (f : Fault) (d : Doing) → P d.answer → P (kept s f d).1
  of_kept s Fault.None d h = h
  of_kept s Fault.Tree d h = h
  of_kept s Fault.Keeper d h = refused code.Failed

  of_full : (s after : State) (full : Bool) (f : Fault) (d : Doing) → P d.answer → P (cond full (after, Answer.Refused code.LimitsExceeded) (kept s f d)).1
  of_full s after true f d h = refused code.LimitsExceeded
  of_full s after false f d h = of_kept s f d h

  of_settled : (s after : State) (given : Given) (o : Option Verdict) → OfSome P o → P (settled s after given o).1
  of_settled s after given None h = refused code.Failed
  of_settled s after given (Some (Refuses code)) h = refused code
  of_settled s after given (Some (Does d)) h = of_full s after given.full given.fault d h

  of_answer : (s : State) (c : Connection) (r : Request) (given : Given) → OfWalk P (bus_walk s c r given.numbers) → P (bus_answer s c r given).1
  of_answer s c r given h =
      let walk : Walk Verdict = bus_walk s c r given.numbers in
      of_settled s (refused_state s c r) given (verdict_given walk given) (of_walked P walk (moment_given given.now) given.looks (is_tree given.fault) h)

  pub of_step : (s : State) (r : Request) (given : Given) (o : Option Connection) → ((c : Connection) → OfWalk P (bus_walk (all_told c.seat s) c r given.numbers)) → P (bus_step s r given o).1.answer
  of_step s r given None h = refused code.NotHere
  of_step s r given (Some c) h = of_answer (all_told c.seat s) c r given (h c)
