-- An answer that a request comes to, whatever the outside gave, is the one of its verdict or a
-- refusal.
use Rattle.std.proofs.Common.{◌≡◌, ℕ, Bool, true, false, cond, List, [], ◌∷◌, Option, Some, None, refl}
use Rattle.portal_base.specs.declared.files.ChildName.{ChildName}
use Rattle.portal_base.specs.declared.files.Look.{Look}
use Rattle.portal_model.specs.declared.entry.Fault.{Fault}
use Rattle.portal_model.specs.declared.entry.Given.{Given}
use Rattle.portal_model.specs.declared.reply.Answer.{Answer}
use Rattle.portal_model.specs.declared.reply.Code.{Code}
use Rattle.portal_model.specs.declared.reply.Code.TheVariants as code
use Rattle.portal_model.specs.declared.request.Request.{Request}
use Rattle.portal_model.specs.declared.state.Connection.{Connection}
use Rattle.portal_model.specs.Bus.{bus_answer, bus_walk, is_tree, kept, moment_given, refused_state, settled, verdict_given}
use Rattle.portal_model.specs.State.{State}
use Rattle.portal_model.specs.Step.{all_told, bus_step}
use Rattle.portal_model.specs.Verdict.{Doing, Verdict, Refuses, Does, unless, walk_unless}
use Rattle.portal_model.specs.Walk.{Walk, Answers, Looks, Ends, Lists, walked, looks_at_all}
use Rattle.dbus_calls.specs.declared.method.Method.{Method}
use Rattle.dbus_dispatch.specs.Writable.{IsTold}

abbrev pub VerdictTold : Method → Verdict → Type 0
VerdictTold m (Refuses code) = Unit {0}
VerdictTold m (Does d) = IsTold m d.answer

abbrev MaybeTold : Method → Option Verdict → Type 0
MaybeTold m None = Unit {0}
MaybeTold m (Some v) = VerdictTold m v

abbrev pub WalkTold : Method → Walk Verdict → Type 0
WalkTold m (Answers v) = VerdictTold m v
WalkTold m (Looks target next) = (look : Look) → WalkTold m (next look)
WalkTold m (Ends call done missing) = ((now : ℕ) → VerdictTold m (done now)) × VerdictTold m missing
WalkTold m (Lists path done missing) = ((names : List ChildName) → VerdictTold m (done names)) × VerdictTold m missing

-- ---- checks

pub unless_told : (m : Method) (wrong : Bool) (code : Code) (v : Verdict) → (wrong ≡ false → VerdictTold m v) → VerdictTold m (unless wrong code v)
unless_told m true code v h = tt
unless_told m false code v h = h refl

pub walk_unless_told : (m : Method) (wrong : Bool) (code : Code) (w : Walk Verdict) → (wrong ≡ false → WalkTold m w) → WalkTold m (walk_unless wrong code w)
walk_unless_told m true code w h = tt
walk_unless_told m false code w h = h refl

pub looks_told : (m : Method) (paths : List (List ℕ)) (next : List Look → Walk Verdict) → ((looks : List Look) → WalkTold m (next looks)) → WalkTold m (looks_at_all paths next)
looks_told m [] next h = h []
looks_told m (path ∷ paths) next h = λ look. looks_told m paths (λ looks. next (look ∷ looks)) (λ looks. h (look ∷ looks))

-- ---- what is answered

walked_told : (m : Method) (w : Walk Verdict) (now : ℕ) (looks : List Look) (failed : Bool) → WalkTold m w → MaybeTold m (walked w now looks failed)
walked_told m (Answers v) now looks failed h = h
walked_told m (Looks target next) now [] failed h = tt
walked_told m (Looks target next) now (look ∷ looks) failed h = walked_told m (next look) now looks failed (h look)
walked_told m (Ends call done missing) now [] true h = tt
walked_told m (Ends call done missing) now [] false h = h.0 now
walked_told m (Ends call done missing) now (look ∷ looks) failed h = h.1
walked_told m (Lists path done missing) now looks true h = tt
walked_told m (Lists path done missing) now looks false h = h.1

keeper_told : (m : Method) (s : State) (f : Fault) (d : Doing) → IsTold m d.answer → IsTold m (kept s f d).1
keeper_told m s Fault.None d h = h
keeper_told m s Fault.Tree d h = h
keeper_told m s Fault.Keeper d h = tt

full_told : (m : Method) (s refused : State) (full : Bool) (f : Fault) (d : Doing) → IsTold m d.answer → IsTold m (cond full (refused, Answer.Refused code.LimitsExceeded) (kept s f d)).1
full_told m s refused true f d h = tt
full_told m s refused false f d h = keeper_told m s f d h

settled_told : (m : Method) (s refused : State) (given : Given) (o : Option Verdict) → MaybeTold m o → IsTold m (settled s refused given o).1
settled_told m s refused given None h = tt
settled_told m s refused given (Some (Refuses code)) h = tt
settled_told m s refused given (Some (Does d)) h = full_told m s refused given.full given.fault d h

answer_told : (m : Method) (s : State) (c : Connection) (r : Request) (given : Given) → WalkTold m (bus_walk s c r given.numbers) → IsTold m (bus_answer s c r given).1
answer_told m s c r given h =
    let walk : Walk Verdict = bus_walk s c r given.numbers in
    settled_told m s (refused_state s c r) given (verdict_given walk given) (walked_told m walk (moment_given given.now) given.looks (is_tree given.fault) h)

pub step_told : (m : Method) (s : State) (r : Request) (given : Given) (o : Option Connection) → ((c : Connection) → WalkTold m (bus_walk (all_told c.seat s) c r given.numbers)) → IsTold m (bus_step s r given o).1.answer
step_told m s r given None h = tt
step_told m s r given (Some c) h = answer_told m (all_told c.seat s) c r given (h c)
