-- What connections wait for, and the boxes that hold it, as a change is told.
use Rattle.std.proofs.Common.{◌≡◌, ℕ, ◌==◌, List, [], ◌∷◌, ◌++◌, map, Bool, true, false, cond, Option, Some, None, option_map, refl, sym, ap, ◌∙◌}
use Rattle.change_signals.specs.Unsent.{AtEach, Boxes, IsSame, told, with_last}
use Rattle.portal_model.specs.declared.reply.Change.{Change}
use Rattle.portal_model.specs.declared.state.Connection.{Connection}
use Rattle.portal_model.specs.State.{connection_of}
use Rattle.portal_model.specs.StoreRequest.{told_change}
use Rattle.portal_model.specs.Valid.{is_host_bus}
use Rattle.store_serving.specs.Waiting.{AreWaiting, box_of, box_on, silent}

-- ---- a change that is told

told-seat : (change : Change) (c : Connection) → (told_change change c).seat ≡ c.seat
told-seat change c = elim (is_host_bus c.who c.kind) as (λ b. (cond b (record c { unsent = c.unsent ++ change ∷ [] }) c).seat ≡ c.seat) [ true ↦ refl | false ↦ refl ]

told-found : (change : Change) (cs : List Connection) (seat : ℕ) → connection_of (map (told_change change) cs) seat ≡ option_map (told_change change) (connection_of cs seat)
told-found change [] seat = refl
told-found change (c ∷ cs) seat =
    ap (λ (n : ℕ). cond (n == seat) (Some (told_change change c)) (connection_of (map (told_change change) cs) seat)) (told-seat change c) ∙ by (c.seat == seat) (told-found change cs seat)
  where
    by : (b : Bool) → connection_of (map (told_change change) cs) seat ≡ option_map (told_change change) (connection_of cs seat) →
        cond b (Some (told_change change c)) (connection_of (map (told_change change) cs) seat) ≡ option_map (told_change change) (cond b (Some c) (connection_of cs seat))
    by true e = refl
    by false e = e

box-told : (change : Change) (c : Connection) → box_of (told_change change c) ≡ option_map (with_last change) (box_of c)
box-told change c = by (is_host_bus c.who c.kind) refl
  where
    by : (b : Bool) → is_host_bus c.who c.kind ≡ b → box_of (cond b (record c { unsent = c.unsent ++ change ∷ [] }) c) ≡ option_map (with_last change) (cond b (Some c.unsent) None)
    by true e = ap (λ (b : Bool). cond b (Some (c.unsent ++ change ∷ [])) None) e
    by false e = ap (λ (b : Bool). cond b (Some c.unsent) None) e

box-on-told : (change : Change) (o : Option Connection) → box_on (option_map (told_change change) o) ≡ told change (box_on o)
box-on-told change None = refl
box-on-told change (Some c) = box-told change c

pub told-waits : (change : Change) (cs : List Connection) (old new : Boxes) → AtEach (told change) old new → AreWaiting cs old → AreWaiting (map (told_change change) cs) new
told-waits change cs old new t w = λ seat.
    t seat ∙ (ap (told change) (w seat) ∙ (sym (box-on-told change (connection_of cs seat)) ∙ ap box_on (sym (told-found change cs seat))))

pub same-waits : (cs : List Connection) (old new : Boxes) → IsSame old new → AreWaiting cs old → AreWaiting cs new
same-waits cs old new t w = λ seat. t seat ∙ w seat

silent-told : (change : Change) (c : Connection) → silent (told_change change c) ≡ silent c
silent-told change c = elim (is_host_bus c.who c.kind) as (λ b. silent (cond b (record c { unsent = c.unsent ++ change ∷ [] }) c) ≡ silent c) [ true ↦ refl | false ↦ refl ]

-- nothing but what is waited for changes
pub told-silent : (change : Change) (cs : List Connection) → map silent (map (told_change change) cs) ≡ map silent cs
told-silent change [] = refl
told-silent change (c ∷ cs) = λ i. silent-told change c i ∷ told-silent change cs i
