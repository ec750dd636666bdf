-- Hosts alone wait for changes: the connection of a mount, and of an application, has none that it was
-- not told.
use Rattle.std.proofs.Common.{◌≡◌, ℕ, ◌==◌, nat_eq, List, [], ◌∷◌, map, Bool, true, false, ◌&&◌, ◌||◌, cond, Some, refl, sym, ap, ◌∙◌, arith}
use Rattle.std.specs.List.{list_all, IsDistinct, AllByRecursion}
use Rattle.std.proofs.lemmas.Bool.Decides.{nat_tests}
use Rattle.portal_base.specs.declared.who.Kind.{Kind}
use Rattle.portal_base.specs.declared.who.Who.{Who}
use Rattle.portal_model.specs.declared.entry.Given.{Given}
use Rattle.portal_model.specs.declared.request.NodeRequest.{NodeRequest}
use Rattle.portal_model.specs.declared.state.Connection.{Connection}
use Rattle.portal_model.specs.Node.{node_answer}
use Rattle.portal_model.specs.State.{State, connection_of, is_mount}
use Rattle.portal_model.specs.Step.{all_told, node_step, told_of, with_signals}
use Rattle.portal_model.specs.Valid.{Valid, is_caller, is_host_bus, is_none, is_sound_change, is_sound_connection}
use Rattle.portal_model.proofs.DocumentChanges.{first_of_both, second_of_both}
use Rattle.portal_model.proofs.ListLookups.{found_in_all, found_passes, nat_is}
use Rattle.portal_model.proofs.Queues.{is_sound_queue, seats}

pub none-nil : {X : Type 0} (xs : List X) → is_none xs ≡ true → xs ≡ []
none-nil [] e = refl
none-nil (x ∷ xs) e = cc

either_first : (a b : Bool) → (a || b) ≡ true → b ≡ false → a ≡ true
either_first true b h e = refl
either_first false b h e = cc

-- one connection that is no host's bus
pub quiet-nil : (queued : ℕ) (c : Connection) → is_sound_connection queued c ≡ true → is_host_bus c.who c.kind ≡ false → c.unsent ≡ []
quiet-nil queued c h n =
    let waits = is_none c.unsent || is_host_bus c.who c.kind in
    let rest = list_all is_sound_change c.unsent && is_sound_queue queued c.queue in
    let either : (is_none c.unsent || is_host_bus c.who c.kind) ≡ true = first_of_both waits rest (second_of_both (is_caller c.who) (waits && rest) h) in
    none-nil c.unsent (either_first (is_none c.unsent) (is_host_bus c.who c.kind) either n)

-- the open one of a seat
pub found-quiet : (s : State) (seat : ℕ) (c : Connection) → Valid s → connection_of s.connections seat ≡ Some c → is_host_bus c.who c.kind ≡ false → c.unsent ≡ []
found-quiet s seat c v f n =
    quiet-nil s.limits.queued c (found_in_all (λ (x : Connection). x.seat == seat) (is_sound_connection s.limits.queued) s.connections c f v.connections_sound) n

mount-is : (who : Who) (kind : Kind) → is_mount kind ≡ true → is_host_bus who kind ≡ false
mount-is Who.Host Kind.Mount m = refl
mount-is Who.Host Kind.Bus m = sym m
mount-is (Who.App app) kind m = refl

pub mount-quiet : (s : State) (seat : ℕ) (c : Connection) → Valid s → connection_of s.connections seat ≡ Some c → is_mount c.kind ≡ true → c.unsent ≡ []
mount-quiet s seat c v f m = found-quiet s seat c v f (mount-is c.who c.kind m)

pub app-quiet : (s : State) (seat : ℕ) (c : Connection) (app : List ℕ) → Valid s → connection_of s.connections seat ≡ Some c → c.who ≡ Who.App app → c.unsent ≡ []
app-quiet s seat c app v f w = found-quiet s seat c v f (ap (λ (who : Who). is_host_bus who c.kind) w)

-- ---- where the one of a seat waits for nothing, nothing is told to it

told_other : (seat : ℕ) (first : ℕ) (cs : List Connection) → first ≡ seat → AllByRecursion (λ n. nat_eq first n ≡ false) (seats cs) → map (told_of seat) cs ≡ cs
told_other seat first [] e d = refl
told_other seat first (c ∷ cs) e d = λ i. one i ∷ told_other seat first cs e d.1 i
  where
    apart : (a b n : ℕ) → a ≡ n → nat_eq a b ≡ false → (b == n) ≡ false
    apart a b n e h = grind (arith, nat_tests)

    one : told_of seat c ≡ c
    one = ap (λ (b : Bool). cond b (record c { unsent = [] }) c) (apart first c.seat seat e d.0)

told_first : (seat : ℕ) (x c : Connection) (xs : List Connection) (b : Bool) → (x.seat == seat) ≡ b → AllByRecursion (λ n. nat_eq x.seat n ≡ false) (seats xs) → c.unsent ≡ [] →
    (connection_of xs seat ≡ Some c → map (told_of seat) xs ≡ xs) → cond b (Some x) (connection_of xs seat) ≡ Some c →
    cond b (record x { unsent = [] }) x ∷ map (told_of seat) xs ≡ x ∷ xs
told_first seat x c xs true e d n f g =
    let same : c ≡ x = cc in
    let none : x.unsent ≡ [] = sym (ap (λ (y : Connection). y.unsent) same) ∙ n in
    λ i. record x { unsent = sym none i } ∷ told_other seat x.seat xs (nat_is x.seat seat e) d i
told_first seat x c xs false e d n f g = ap (λ (ys : List Connection). x ∷ ys) (f g)

pub told-nothing : (seat : ℕ) (cs : List Connection) (c : Connection) → IsDistinct nat_eq (seats cs) → connection_of cs seat ≡ Some c → c.unsent ≡ [] → map (told_of seat) cs ≡ cs
unfolding IsDistinct
told-nothing seat [] c d f n = refl
told-nothing seat (x ∷ xs) c d f n = told_first seat x c xs (x.seat == seat) refl d.0 n (λ g. told-nothing seat xs c d.1 g n) f

pub all_told-nothing : (s : State) (seat : ℕ) (c : Connection) → Valid s → connection_of s.connections seat ≡ Some c → c.unsent ≡ [] → all_told seat s ≡ s
all_told-nothing s seat c v f n = λ i. record s { connections = told-nothing seat s.connections c v.seats_differ f n i }

-- a request on a node tells no change, and is answered in the state as it stands
pub node_step-quiet : (s : State) (seat : ℕ) (c : Connection) (r : NodeRequest) (given : Given) → Valid s → connection_of s.connections seat ≡ Some c → is_mount c.kind ≡ true →
    node_step s r given (Some c) ≡ with_signals [] (node_answer s c r given)
node_step-quiet s seat c r given v f m =
    let none : c.unsent ≡ [] = mount-quiet s seat c v f m in
    let own : c.seat ≡ seat = nat_is c.seat seat (found_passes (λ (x : Connection). x.seat == seat) s.connections c f) in
    let told : all_told c.seat s ≡ s = ap (λ (n : ℕ). all_told n s) own ∙ all_told-nothing s seat c v f none in
    λ i. with_signals (none i) (node_answer (told i) c r given)
