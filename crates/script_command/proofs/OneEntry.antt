-- The outside of a script gives one thing to a request, and leaves one thing.
use Rattle.std.proofs.Common.{◌≡◌, ℕ, ◌<◌, ◌^◌, ◌==◌, List, [], ◌∷◌, ◌++◌, length, nat_lt, Bool, true, false, cond, Option, Some, None, is_some, refl, sym, ap, subst, ◌∙◌, arith}
use Rattle.std.specs.Prelude.{IfSome}
use Rattle.std.proofs.lemmas.Bool.Decides.{nat_tests}
use Rattle.document_calls.specs.KeeperCalls.{is_keeper}
use Rattle.file_generations.specs.Generations.{Held}
use Rattle.portal_base.specs.Calls.{Calls, is_to_fail, next_call}
use Rattle.portal_base.specs.Names.{is_same}
use Rattle.portal_base.specs.Outside.{Draws}
use Rattle.portal_base.specs.declared.files.Look.{Look}
use Rattle.portal_base.specs.declared.names.doc_id.DocId.{DocId}
use Rattle.portal_steps.specs.Devices.{Drawn}
use Rattle.node_looks.specs.TreeCalls.{call_doing}
use Rattle.portal_steps.specs.TreeCalls.{CallsAsTold, bus_calls, only_looks}
use Rattle.node_serving.specs.Seats.{calls_on}
use Rattle.portal_model.specs.declared.entry.Entry.{Entry}
use Rattle.portal_model.specs.declared.entry.Fault.{Fault}
use Rattle.portal_model.specs.declared.entry.Given.{Given}
use Rattle.portal_model.specs.declared.request.NodeRequest.{NodeRequest}
use Rattle.portal_model.specs.declared.request.Request.{Request}
use Rattle.portal_model.specs.declared.state.Connection.{Connection}
use Rattle.portal_model.specs.Bus.{bus_walk, is_tree, moment_given}
use Rattle.portal_model.specs.Documents.{IsUnused, above}
use Rattle.portal_model.specs.Lawful.{LawfulOnBus, LawfulOnNode}
use Rattle.portal_model.specs.Node.{walk_on_node}
use Rattle.portal_model.specs.Outside.{AreDrawn, ChangesRecords, files_told, meets_limit, verdict_of, words_drawn}
use Rattle.portal_model.specs.State.{State, connection_of, held_in}
use Rattle.portal_model.specs.Step.{after, all_told, bus_of, mount_of}
use Rattle.portal_model.specs.Walk.{Gives, GivesNames, generation_reached, reads_clock, walked}
use Rattle.portal_model.proofs.ListLookups.{is_same-eq, nat_is}
use Rattle.portal_model.proofs.StaysTold.{step_told}
use Rattle.portal_model.proofs.TripleOrder.{is_same-refl}
use Rattle.script_form.specs.Outside.{Outside}
use Rattle.script_replay.specs.Entries.{AreGiven, Changes, ChangesOn, IsGiven}
use Rattle.script_command.proofs.AddAlike.{bus_alike}
use Rattle.script_command.proofs.OneWalk.{moment_one, one_given, one_listed}
use Rattle.script_command.proofs.WalksAlike.{DrawAlike, alike_clock, alike_drawn, alike_given}

-- ---- words and numbers

-- as many words of those to come are one list
draws_one : (left : List ℕ) (v w : ℕ) (x y : Option (List ℕ)) → Draws (Some left) v x → Draws (Some left) w y → (v ≡ w) × (x ≡ y)
draws_one [] v w x y a b = (a.0 ∙ sym b.0, a.1 ∙ sym b.1)
draws_one (n ∷ ns) v w x y a b = (a.0 ∙ sym b.0, a.1 ∙ sym b.1)

some_left : (left : List ℕ) (v : ℕ) (x : Option (List ℕ)) → Draws (Some left) v x → (more : List ℕ) × (x ≡ Some more)
some_left [] v x a = ([], a.1)
some_left (n ∷ ns) v x a = (ns, a.1)

drawn_one : (vs ws : List ℕ) (left : List ℕ) (x y : Option (List ℕ)) → length vs ≡ length ws → Drawn (Some left) vs x → Drawn (Some left) ws y → (vs ≡ ws) × (x ≡ y)
drawn_one [] [] left x y e a b = (refl, a ∙ sym b)
drawn_one [] (w ∷ ws) left x y e a b = absurd (omega arith)
drawn_one (v ∷ vs) [] left x y e a b = absurd (omega arith)
drawn_one (v ∷ vs) (w ∷ ws) left x y e a b =
    let first = draws_one left v w a.0 b.0 a.1 b.1 in
    let behind = some_left left v a.0 a.1 in
    let left_a : Drawn (Some behind.0) vs x = subst (λ (z : Option (List ℕ)). Drawn z vs x) behind.1 a.2 in
    let left_b : Drawn (Some behind.0) ws y = subst (λ (z : Option (List ℕ)). Drawn z ws y) (sym first.1 ∙ behind.1) b.2 in
    let rest = drawn_one vs ws behind.0 x y (omega arith) left_a left_b in
    (ap (λ (z : ℕ). z ∷ vs) first.0 ∙ ap (λ (z : List ℕ). w ∷ z) rest.0, rest.1)

some_is : (x y : List ℕ) → Some x ≡ Some y → x ≡ y
some_is x y e = cc

-- a word comes to one number
apart_not : (word n m : ℕ) → word < 2 ^ 32 → n < 2 ^ 32 → m < 2 ^ 32 → (above word n < above word m → ⊥) → (above word m < above word n → ⊥) → n ≡ m
apart_not word n m w k l a b =
    let same : above word n ≡ above word m = between (above word n) (above word m) a b in
    omega arith
  where
    between : (x y : ℕ) → (x < y → ⊥) → (y < x → ⊥) → x ≡ y
    between x y a b = by_test (nat_lt x y) (nat_lt y x) refl refl
      where
        by_test : (c d : Bool) → nat_lt x y ≡ c → nat_lt y x ≡ d → x ≡ y
        by_test true d e f = absurd (a (grind (arith, nat_tests)))
        by_test false true e f = absurd (b (grind (arith, nat_tests)))
        by_test false false e f = grind (arith, nat_tests)

unused_one : (made : List DocId) (word n m : ℕ) → word < 2 ^ 32 → n < 2 ^ 32 → m < 2 ^ 32 → IsUnused made word n → IsUnused made word m → n ≡ m
unused_one made word n m w k l a b =
    apart_not word n m w k l
    (λ nearer. let x : true ≡ false = sym (b.first n k nearer) ∙ a.unused in cc)
    (λ nearer. let x : true ≡ false = sym (a.first m l nearer) ∙ b.unused in cc)

numbers_one : (made : List DocId) (words : List ℕ) (ns ms : List DocId) → AreDrawn made words ns → AreDrawn made words ms → ns ≡ ms
numbers_one made [] [] [] a b = refl
numbers_one made [] (n ∷ ns) ms a b = absurd a
numbers_one made [] [] (m ∷ ms) a b = absurd b
numbers_one made (w ∷ words) [] ms a b = absurd a
numbers_one made (w ∷ words) (n ∷ ns) [] a b = absurd b
numbers_one made (w ∷ words) (n ∷ ns) (m ∷ ms) a b =
    let number : n.number ≡ m.number = unused_one made w n.number m.number a.0 a.1 b.1 a.2 b.2 in
    let same : n ≡ m = λ i. record { number = number i } in
    let behind : AreDrawn (made ++ n ∷ []) words ms = subst (λ (z : DocId). AreDrawn (made ++ z ∷ []) words ms) (sym same) b.3 in
    ap (λ (z : DocId). z ∷ ns) same ∙ ap (λ (z : List DocId). m ∷ z) (numbers_one (made ++ n ∷ []) words ns ms a.3 behind)

-- ---- what is given

given_is : (g h : Given) → g.now ≡ h.now → g.words ≡ h.words → g.numbers ≡ h.numbers → g.looks ≡ h.looks → g.listed ≡ h.listed → g.generation ≡ h.generation → g.full ≡ h.full → g.fault ≡ h.fault → g ≡ h
given_is g h n w u l k t f d = λ i. record { now = n i; words = w i; numbers = u i; looks = l i; listed = k i; generation = t i; full = f i; fault = d i }

no_moment : (now : Option ℕ) → is_some now ≡ false → now ≡ None
no_moment None h = refl
no_moment (Some now) h = cc

-- one call fails, the tree's or the keeper's
fault_is : (f k : Fault) → is_tree f ≡ is_tree k → is_keeper f ≡ is_keeper k → f ≡ k
fault_is Fault.None Fault.None t e = refl
fault_is Fault.None Fault.Tree t e = absurd (cc)
fault_is Fault.None Fault.Keeper t e = absurd (cc)
fault_is Fault.Tree Fault.None t e = absurd (cc)
fault_is Fault.Tree Fault.Tree t e = refl
fault_is Fault.Tree Fault.Keeper t e = absurd (cc)
fault_is Fault.Keeper Fault.None t e = absurd (cc)
fault_is Fault.Keeper Fault.Tree t e = absurd (cc)
fault_is Fault.Keeper Fault.Keeper t e = refl

-- the keeper fails for both, or for none: where it fails it is called, and then both are told so
keeper_is : (f k : Fault) (b : Bool) (C : Type 0) → (f ≡ Fault.Keeper → C) → (k ≡ Fault.Keeper → C) → (C → is_keeper f ≡ b) → (C → is_keeper k ≡ b) → is_keeper f ≡ is_keeper k
keeper_is Fault.Keeper k b C p q x y = x (p refl) ∙ sym (y (p refl))
keeper_is f Fault.Keeper b C p q x y = x (q refl) ∙ sym (y (q refl))
keeper_is Fault.None Fault.None b C p q x y = refl
keeper_is Fault.None Fault.Tree b C p q x y = refl
keeper_is Fault.Tree Fault.None b C p q x y = refl
keeper_is Fault.Tree Fault.Tree b C p q x y = refl

no_keeper : (f : Fault) → (f ≡ Fault.Keeper → ⊥) → is_keeper f ≡ false
no_keeper Fault.None h = refl
no_keeper Fault.Tree h = refl
no_keeper Fault.Keeper h = absurd (h refl)

told_files : (s : State) → s.told ≡ true → files_told s ≡ Some (held_in s)
told_files s t = ap (λ (b : Bool). cond b (Some (held_in s)) None) t

abbrev entry : ℕ → Request → Given → Entry
entry seat request given = record { seat = seat; request = request; given = given }

-- ---- on a node

node_one : (s : State) (r : NodeRequest) (g h : Given) (calls : Calls) (moment : ℕ) (o : Option Connection) → s.told ≡ true → CallsAsTold (Some calls) (calls_on s r g o) → CallsAsTold (Some calls) (calls_on s r h o)
    → IfSome g.now (λ now. now ≡ moment) → IfSome h.now (λ now. now ≡ moment) → LawfulOnNode s r g o → LawfulOnNode s r h o → g ≡ h
node_one s r g h calls moment None t c d m n l k = l ∙ sym k
node_one s r g h calls moment (Some x) t c d m n l k =
    let at = all_told x.seat s in
    let w = walk_on_node at x r in
    let told = told_files at t in
    let lg = subst (λ (files : Option Held). Gives files w g.looks (is_tree g.fault)) told l.looks in
    let lh = subst (λ (files : Option Held). Gives files w h.looks (is_tree h.fault)) told k.looks in
    let both = one_given call_doing (held_in s) w g.looks h.looks (is_tree g.fault) (is_tree h.fault) calls lg lh c d in
    let read : is_some g.now ≡ is_some h.now = l.clock ∙ (ap (reads_clock w) both.0 ∙ sym k.clock) in
    let ng = subst (λ (files : Option Held). GivesNames files w g.looks g.listed (is_tree g.fault)) told l.listed in
    let nh = subst (λ (files : Option Held). GivesNames files w h.looks h.listed (is_tree h.fault)) told k.listed in
    let listed : g.listed ≡ h.listed = one_listed (held_in s) w h.looks g.listed h.listed (is_tree h.fault)
    (subst (λ (ls : List Look). GivesNames (Some (held_in s)) w ls g.listed (is_tree h.fault)) both.0 (subst (λ (f : Bool). GivesNames (Some (held_in s)) w g.looks g.listed f) both.1 ng)) nh in
    given_is g h
    (moment_one g.now h.now moment read m n)
    (l.words ∙ sym k.words) (l.numbers ∙ sym k.numbers) both.0 listed (l.generation ∙ (ap (generation_reached w) both.0 ∙ sym k.generation)) (l.full ∙ sym k.full)
    (fault_is g.fault h.fault both.1 (no_keeper g.fault l.keeper ∙ sym (no_keeper h.fault k.keeper)))

-- ---- on documents

module _ (s : State) (o : Outside) (request : Request) (g h : Given) (left also : Option (List ℕ)) (t : s.told ≡ true) (v : Drawn (Some o.words) g.words left) (w : Drawn (Some o.words) h.words also) where
  abbrev Fails : State → Connection → Given → Type 0
  Fails at x z = ChangesRecords at (verdict_of at x request z) → is_keeper z.fault ≡ is_to_fail (next_call o.keeper)

  bus_one : (x : Option Connection) → CallsAsTold (Some o.tree) (bus_calls s request g x) → CallsAsTold (Some o.tree) (bus_calls s request h x) → LawfulOnBus s request g x → LawfulOnBus s request h x → ((y : Connection) → x ≡ Some y → Fails (all_told y.seat s) y g) → ((y : Connection) → x ≡ Some y → Fails (all_told y.seat s) y h) → g ≡ h
  bus_one None c d l k p q = l ∙ sym k
  bus_one (Some x) c d l k p q =
      let at = all_told x.seat s in
      let wg = bus_walk at x request g.numbers in
      let wh = bus_walk at x request h.numbers in
      let alike = bus_alike at x request g.numbers h.numbers in
      let told = told_files at t in
      let lg = subst (λ (files : Option Held). Gives files wg g.looks (is_tree g.fault)) told l.looks in
      let lh = subst (λ (files : Option Held). Gives files wh h.looks (is_tree h.fault)) told k.looks in
      let both = alike_given DrawAlike only_looks (held_in s) wg wh g.looks h.looks (is_tree g.fault) (is_tree h.fault) o.tree alike lg lh c d in
      let count : words_drawn (verdict_of at x request g) ≡ words_drawn (verdict_of at x request h) =
      alike_drawn wg wh g.looks (moment_given g.now) (moment_given h.now) (is_tree g.fault) alike
      ∙ (ap (λ (z : List Look). words_drawn (walked wh (moment_given h.now) z (is_tree g.fault))) both.0
      ∙ ap (λ (z : Bool). words_drawn (walked wh (moment_given h.now) h.looks z)) both.1) in
      let words = (drawn_one g.words h.words o.words left also (l.words ∙ (count ∙ sym k.words)) v w).0 in
      let numbers = numbers_one at.made h.words g.numbers h.numbers (subst (λ (z : List ℕ). AreDrawn at.made z g.numbers) words l.numbers) k.numbers in
      let clock : g.now ≡ h.now =
      no_moment g.now (l.clock ∙ alike_clock DrawAlike wg wh g.looks alike)
      ∙ sym (no_moment h.now (k.clock ∙ alike_clock DrawAlike wh wg h.looks (bus_alike at x request h.numbers g.numbers))) in
      let same : verdict_of at x request g ≡ verdict_of at x request h = λ i. walked (bus_walk at x request (numbers i)) (moment_given (clock i)) (both.0 i) (both.1 i) in
      let changes : ChangesRecords at (verdict_of at x request h) → ChangesRecords at (verdict_of at x request g) = λ z. subst (ChangesRecords at) (sym same) z in
      let here : ChangesRecords at (verdict_of at x request g) → ChangesRecords at (verdict_of at x request h) = λ z. subst (ChangesRecords at) same z in
      given_is g h clock words numbers both.0 (l.listed ∙ sym k.listed) (l.generation ∙ sym k.generation) (l.full ∙ (ap meets_limit same ∙ sym k.full))
      (fault_is g.fault h.fault both.1
      (keeper_is g.fault h.fault (is_to_fail (next_call o.keeper)) (ChangesRecords at (verdict_of at x request g)) l.keeper (λ e. changes (k.keeper e)) (p x refl) (λ z. q x refl (here z))))

-- ---- any request

-- the keeper fails where it is called and its call is to fail
module _ (s : State) (o : Outside) (seat : ℕ) (request : Request) (g : Given) (left : Outside) (x : IsGiven s o (entry seat request g) left) where
  keeper_fails : (c : Option Connection) → c ≡ bus_of (connection_of s.connections seat) → (y : Connection) → c ≡ Some y → ChangesRecords (all_told y.seat s) (verdict_of (all_told y.seat s) y request g) → is_keeper g.fault ≡ is_to_fail (next_call o.keeper)
  keeper_fails c e y k changes =
      let at : Some y ≡ bus_of (connection_of s.connections seat) = sym k ∙ e in
      (x.applied (subst (ChangesOn s (entry seat request g)) at changes)).fails

module _ (s : State) (o : Outside) (seat : ℕ) (g h : Given) (left also : Outside) (t : s.told ≡ true) where
  abbrev there : Option Connection
  there = bus_of (connection_of s.connections seat)

  call_one : (request : Request) → IsGiven s o (entry seat request g) left → IsGiven s o (entry seat request h) also → CallsAsTold (Some o.tree) (bus_calls s request g there) → CallsAsTold (Some o.tree) (bus_calls s request h there)
      → LawfulOnBus s request g there → LawfulOnBus s request h there → g ≡ h
  call_one request x y c d l k =
      bus_one s o request g h (Some left.words) (Some also.words) t x.words y.words there c d l k (keeper_fails s o seat request g left x there refl) (keeper_fails s o seat request h also y there refl)

  request_one : (request : Request) → IsGiven s o (entry seat request g) left → IsGiven s o (entry seat request h) also → g ≡ h
  request_one (Request.Enter who kind) x y = x.lawful.given.1 ∙ sym y.lawful.given.1
  request_one Request.Leave x y = x.lawful.given ∙ sym y.lawful.given
  request_one Request.Collect x y = x.lawful.given ∙ sym y.lawful.given
  request_one (Request.Node r) x y = node_one s r g h o.tree o.clock (mount_of (connection_of s.connections seat)) t x.tree y.tree x.moment y.moment x.lawful.given y.lawful.given
  request_one (Request.Present path) x y = call_one (Request.Present path) x y x.tree y.tree x.lawful.given y.lawful.given
  request_one (Request.Add a) x y = call_one (Request.Add a) x y x.tree y.tree x.lawful.given y.lawful.given
  request_one (Request.Grant call) x y = call_one (Request.Grant call) x y x.tree y.tree x.lawful.given y.lawful.given
  request_one (Request.Revoke call) x y = call_one (Request.Revoke call) x y x.tree y.tree x.lawful.given y.lawful.given
  request_one (Request.DeleteDocument doc) x y = call_one (Request.DeleteDocument doc) x y x.tree y.tree x.lawful.given y.lawful.given
  request_one (Request.LookupDocument path) x y = call_one (Request.LookupDocument path) x y x.tree y.tree x.lawful.given y.lawful.given
  request_one (Request.Info doc) x y = call_one (Request.Info doc) x y x.tree y.tree x.lawful.given y.lawful.given
  request_one (Request.ListDocuments app) x y = call_one (Request.ListDocuments app) x y x.tree y.tree x.lawful.given y.lawful.given
  request_one (Request.Store call) x y = call_one (Request.Store call) x y x.tree y.tree x.lawful.given y.lawful.given

-- ---- what is left

-- numbers and lists of them that aren't apart are equal
nat_stable : (n m : ℕ) → ((n ≡ m → ⊥) → ⊥) → n ≡ m
nat_stable n m k = by_test (n == m) refl
  where
    by_test : (b : Bool) → (n == m) ≡ b → n ≡ m
    by_test true e = nat_is n m e
    by_test false e = absurd (k (λ same. let itself : (n == n) ≡ true = grind (arith, nat_tests) in let x : true ≡ false = sym itself ∙ (ap (λ (z : ℕ). n == z) same ∙ e) in cc))

list_stable : (xs ys : List ℕ) → ((xs ≡ ys → ⊥) → ⊥) → xs ≡ ys
list_stable xs ys k = by_test (is_same xs ys) refl
  where
    by_test : (b : Bool) → is_same xs ys ≡ b → xs ≡ ys
    by_test true e = is_same-eq xs ys e
    by_test false e = absurd (k (λ same. let x : true ≡ false = sym (is_same-refl xs) ∙ (ap (is_same xs) same ∙ e) in cc))

calls_stable : (x y : Calls) → ((x ≡ y → ⊥) → ⊥) → x ≡ y
calls_stable x y k =
    let made = nat_stable x.made y.made (λ apart. k (λ same. apart (ap (λ (z : Calls). z.made) same))) in
    let failing = list_stable x.failing y.failing (λ apart. k (λ same. apart (ap (λ (z : Calls). z.failing) same))) in
    λ i. record { made = made i; failing = failing i }

left_one : (s : State) (o : Outside) (e : Entry) (left also : Outside) → IsGiven s o e left → IsGiven s o e also → left ≡ also
left_one s o e left also x y =
    let words = some_is left.words also.words (drawn_one e.given.words e.given.words o.words (Some left.words) (Some also.words) refl x.words y.words).1 in
    let clock = x.clock ∙ sym y.clock in
    let tree = x.tree_left ∙ sym y.tree_left in
    let keeper = calls_stable left.keeper also.keeper (λ apart.
    let unchanged : Changes s e → ⊥ = λ changes. apart ((x.applied changes).goes ∙ sym (y.applied changes).goes) in
    apart (x.unapplied unchanged ∙ sym (y.unapplied unchanged))) in
    λ i. record { words = words i; clock = clock i; tree = tree i; keeper = keeper i }

-- ---- one entry, and entries one after another

entry_is : (e : Entry) (seat : ℕ) (request : Request) → e.seat ≡ seat → e.request ≡ request → e ≡ entry seat request e.given
entry_is e seat request a b = λ i. record { seat = a i; request = b i; given = e.given }

pub entry_one : (s : State) (o : Outside) (seat : ℕ) (request : Request) (e f : Entry) (left also : Outside) → s.told ≡ true → e.seat ≡ seat → e.request ≡ request → f.seat ≡ seat → f.request ≡ request
    → IsGiven s o e left → IsGiven s o f also → (e ≡ f) × (left ≡ also)
entry_one s o seat request e f left also t es er fs fr x y =
    let first = entry_is e seat request es er in
    let second = entry_is f seat request fs fr in
    let given_same = request_one s o seat e.given f.given left also t request (subst (λ (z : Entry). IsGiven s o z left) first x) (subst (λ (z : Entry). IsGiven s o z also) second y) in
    let same : e ≡ f = first ∙ (ap (entry seat request) given_same ∙ sym second) in
    (same, left_one s o f left also (subst (λ (z : Entry). IsGiven s o z left) same x) y)

pub entries_one : (rs : List Request) (es fs : List Entry) (s : State) (o : Outside) (seat : ℕ) (left also : Outside) → s.told ≡ true → AreGiven s o seat rs es left → AreGiven s o seat rs fs also → (es ≡ fs) × (left ≡ also)
entries_one [] [] [] s o seat left also t x y = (refl, x ∙ sym y)
entries_one [] (e ∷ es) fs s o seat left also t x y = absurd x
entries_one [] [] (f ∷ fs) s o seat left also t x y = absurd y
entries_one (r ∷ rs) [] fs s o seat left also t x y = absurd x
entries_one (r ∷ rs) (e ∷ es) [] s o seat left also t x y = absurd y
entries_one (r ∷ rs) (e ∷ es) (f ∷ fs) s o seat left also t x y =
    let one = entry_one s o seat r e f x.2 y.2 t x.0 x.1 y.0 y.1 x.3 y.3 in
    let y1 = subst (λ (z : Entry). AreGiven (after s z) y.2 seat rs fs also) (sym one.0) y.4 in
    let y2 = subst (λ (z : Outside). AreGiven (after s e) z seat rs fs also) (sym one.1) y1 in
    let rest = entries_one rs es fs (after s e) x.2 seat left also (step_told s e.seat e.request e.given ∙ t) x.4 y2 in
    (ap (λ (z : Entry). z ∷ es) one.0 ∙ ap (λ (z : List Entry). f ∷ z) rest.0, rest.1)
