-- A request of the application, to it as it is and to it blinded: one reply, and views after it that differ in bytes
-- that were not in sight alone.
use Rattle.std.proofs.Common.{◌≡◌, ℕ, zero, suc, List, [], ◌∷◌, ◌++◌, length, map, take, replicate, Bool, true, false, cond, Option, Some, None, refl, sym, ap, ◌∙◌}
use Rattle.std.proofs.lemmas.List.{length-replicate}
use Rattle.portal_base.specs.Names.{is_same}
use Rattle.portal_base.specs.declared.files.File.{File}
use Rattle.portal_base.specs.declared.files.FileName.{FileName}
use Rattle.portal_base.specs.declared.files.Look.{Look}
use Rattle.portal_model.specs.declared.reply.Answer.{Answer}
use Rattle.portal_model.specs.declared.reply.Code.TheVariants as code
use Rattle.portal_model.specs.declared.reply.Reply.{Reply}
use Rattle.portal_model.specs.declared.request.NodeRequest.{NodeRequest}
use Rattle.portal_model.specs.declared.request.Request.{Request}
use Rattle.portal_model.specs.AddArguments.{paths_shown}
use Rattle.portal_model.specs.Content.{Content, OfFile, OfFolder, NotThere, look_of}
use Rattle.portal_model.specs.Step.{is_mount, reply_with, with_signals}
use Rattle.app_world.specs.Add.{content_shown, look_of_holding}
use Rattle.app_world.specs.Bus.{own_bus_step}
use Rattle.app_world.specs.Enter.{own_enter}
use Rattle.app_world.specs.Leave.{own_leave, own_left}
use Rattle.app_world.specs.Own.{Own}
use Rattle.app_world.specs.Effect.{file_of as file_made}
use Rattle.app_world.specs.View.{Alone, AppView, Below, Holding, NamedFile, OwnConnection, PathBelow, PathContent, found_connection}
use Rattle.app_world.specs.World.{app_step, own_bus, own_collect_step, own_mount_of, own_node_step, own_request_step}
use Rattle.connection_laws.specs.Blinded.{blind_at, blind_below, blind_but, blind_content, blind_file, blind_named, blinded, file_of, hidden, hidden_file, hidden_holding, hidden_named, nothing, own_blinded, reads}
use Rattle.connection_laws.specs.Unread.{with_file, with_file_below, with_file_named}
use Rattle.connection_laws.proofs.BlindedBuses.{ShownAlike, answer-same}
use Rattle.connection_laws.proofs.BlindedNodes.{node-blind}
use Rattle.connection_laws.proofs.BlindedViews.{blind-same, blind_holding, connections-same, seen_pair, view-twice}

-- ---- a request of one kind

module _ (sees : FileName → Bool) (v : AppView) (own : Own) (more : List Holding) where
  abbrev b : AppView
  b = blind_but sees v

  abbrev told : Own
  told = record own { shown = more }

  not-here : {X : Type 0} (x : X) → seen_pair sees (b, x) ≡ seen_pair sees (v, x)
  not-here x = λ i. (view-twice sees v i, x)

  -- on a bus
  bus-step : (request : Request) → ((c : OwnConnection) → ShownAlike sees v c own more request) → (o : Option OwnConnection) → seen_pair sees (own_bus_step b told request o) ≡ seen_pair sees (own_bus_step v own request o)
  bus-step request h None = not-here (reply_with [] (Answer.Refused code.NotHere))
  bus-step request h (Some c) = ap (with_signals []) (answer-same sees v c own more request (h c))

  collect-step : (o : Option OwnConnection) → seen_pair sees (own_collect_step b o) ≡ seen_pair sees (own_collect_step v o)
  collect-step None = not-here (reply_with [] (Answer.Refused code.NotHere))
  collect-step (Some c) = not-here (reply_with [] Answer.Done)

  leave-step : seen_pair sees (own_leave b own.seat) ≡ seen_pair sees (own_leave v own.seat)
  leave-step = λ i. (connections-same sees v (own_left own.seat v.connections (found_connection v.connections own.seat)) i, (own_leave v own.seat).1)

  -- on a mount
  node-step : (r : NodeRequest) → ((name : FileName) → reads v name ≡ true → sees name ≡ true) → (o : Option OwnConnection) → found_connection v.connections own.seat ≡ o →
      seen_pair sees (own_node_step b r told (own_mount_of o)) ≡ seen_pair sees (own_node_step v r own (own_mount_of o))
  node-step r wide None e = not-here (reply_with [] (Answer.Refused code.NotHere))
  node-step r wide (Some c) e = by_kind (is_mount c.kind)
    where
      by_kind : (x : Bool) → seen_pair sees (own_node_step b r told (cond x (Some c) None)) ≡ seen_pair sees (own_node_step v r own (cond x (Some c) None))
      by_kind true = ap (with_signals []) (node-blind sees v c own.seat e wide r own)
      by_kind false = not-here (reply_with [] (Answer.Refused code.NotHere))

  -- what it takes of sight and of what is shown
  abbrev IsEnough : Request → Type 0
  IsEnough (Request.Node r) = (name : FileName) → reads v name ≡ true → sees name ≡ true
  IsEnough request = (c : OwnConnection) → ShownAlike sees v c own more request

  step-same : (request : Request) → IsEnough request → seen_pair sees (own_request_step b told request) ≡ seen_pair sees (own_request_step v own request)
  step-same (Request.Enter who kind) h = ap (λ (x : AppView). with_signals [] (own_enter x own.seat who kind)) (view-twice sees v)
  step-same Request.Leave h = ap (with_signals []) leave-step
  step-same Request.Collect h = collect-step (own_bus v own)
  step-same (Request.Node r) h = node-step r h (found_connection v.connections own.seat) refl
  step-same (Request.Present path) h = bus-step (Request.Present path) h (own_bus v own)
  step-same (Request.Add a) h = bus-step (Request.Add a) h (own_bus v own)
  step-same (Request.Grant call) h = bus-step (Request.Grant call) h (own_bus v own)
  step-same (Request.Revoke call) h = bus-step (Request.Revoke call) h (own_bus v own)
  step-same (Request.DeleteDocument doc) h = bus-step (Request.DeleteDocument doc) h (own_bus v own)
  step-same (Request.LookupDocument path) h = bus-step (Request.LookupDocument path) h (own_bus v own)
  step-same (Request.Info doc) h = bus-step (Request.Info doc) h (own_bus v own)
  step-same (Request.ListDocuments app) h = bus-step (Request.ListDocuments app) h (own_bus v own)
  step-same (Request.Store call) h = bus-step (Request.Store call) h (own_bus v own)

-- ---- what is shown, and of what all but bytes is told

pub hidden-is : (path : List ℕ) (c : Content) → blind_at nothing path c ≡ hidden c
hidden-is path (OfFile g bytes moment) = refl
hidden-is path OfFolder = refl
hidden-is path (NotThere room) = refl

pub hidden-twice : (c : Content) → hidden (hidden c) ≡ hidden c
hidden-twice (OfFile g bytes moment) = ap (λ (n : ℕ). OfFile g (replicate n 0) moment) (length-replicate (length bytes) 0)
hidden-twice OfFolder = refl
hidden-twice (NotThere room) = refl

pub file-hidden-twice : (f : File) → hidden_file (hidden_file f) ≡ hidden_file f
file-hidden-twice f = ap (λ (n : ℕ). record f { bytes = replicate n 0 }) (length-replicate (length f.bytes) 0)

pub files-hidden-twice : (fs : List File) → map hidden_file (map hidden_file fs) ≡ map hidden_file fs
files-hidden-twice [] = refl
files-hidden-twice (f ∷ fs) = λ i. file-hidden-twice f i ∷ files-hidden-twice fs i

pub holding-is : (path : List ℕ) (h : Holding) → blind_holding nothing path h ≡ hidden_holding h
holding-is path (Alone c) = ap Alone (hidden-is path c)
holding-is path (Below files) = refl

pub holding-twice : (h : Holding) → hidden_holding (hidden_holding h) ≡ hidden_holding h
holding-twice (Alone c) = ap Alone (hidden-twice c)
holding-twice (Below files) = ap Below (files-hidden-twice files)

hidden-look : (c : Content) → look_of (hidden c) ≡ look_of c
hidden-look (OfFile g bytes moment) = ap (λ (n : ℕ). Look.File g n moment) (length-replicate (length bytes) 0)
hidden-look OfFolder = refl
hidden-look (NotThere room) = refl

holding-look : (h : Holding) → look_of_holding (hidden_holding h) ≡ look_of_holding h
holding-look (Alone c) = hidden-look c
holding-look (Below files) = refl

shown-hidden : (ps : List (List ℕ)) (cs : List Holding) (path : List ℕ) → content_shown ps (map hidden_holding cs) path ≡ hidden_holding (content_shown ps cs path)
shown-hidden [] cs path = refl
shown-hidden (p ∷ ps) [] path = refl
shown-hidden (p ∷ ps) (c ∷ cs) path = by_path (is_same p path) (shown-hidden ps cs path)
  where
    by_path : (x : Bool) → content_shown ps (map hidden_holding cs) path ≡ hidden_holding (content_shown ps cs path) → cond x (hidden_holding c) (content_shown ps (map hidden_holding cs) path) ≡ hidden_holding (cond x c (content_shown ps cs path))
    by_path true e = refl
    by_path false e = e

looks-hidden : (n : ℕ) (cs : List Holding) → map look_of_holding (take n (map hidden_holding cs)) ≡ map look_of_holding (take n cs)
looks-hidden n [] = refl
looks-hidden zero (c ∷ cs) = refl
looks-hidden (suc n) (c ∷ cs) = λ i. holding-look c i ∷ looks-hidden n cs i

pub holding-alike : (path : List ℕ) (h : Holding) → blind_holding nothing path (hidden_holding h) ≡ blind_holding nothing path h
holding-alike path h = holding-is path (hidden_holding h) ∙ (holding-twice h ∙ sym (holding-is path h))

shown-alike : (ps : List (List ℕ)) (cs : List Holding) (path : List ℕ) → blind_holding nothing path (content_shown ps (map hidden_holding cs) path) ≡ blind_holding nothing path (content_shown ps cs path)
shown-alike ps cs path = ap (blind_holding nothing path) (shown-hidden ps cs path) ∙ holding-alike path (content_shown ps cs path)

hidden-alike : (v : AppView) (own : Own) (c : OwnConnection) (request : Request) → ShownAlike nothing v c own (map hidden_holding own.shown) request
hidden-alike v own c (Request.Add a) = (λ path. shown-alike (paths_shown c.queue a) own.shown path, looks-hidden own.looks own.shown)
hidden-alike v own c (Request.Present path) = tt
hidden-alike v own c (Request.Grant call) = tt
hidden-alike v own c (Request.Revoke call) = tt
hidden-alike v own c (Request.DeleteDocument doc) = tt
hidden-alike v own c (Request.LookupDocument path) = tt
hidden-alike v own c (Request.Info doc) = tt
hidden-alike v own c (Request.ListDocuments app) = tt
hidden-alike v own c (Request.Store call) = tt
hidden-alike v own c (Request.Enter who kind) = tt
hidden-alike v own c Request.Leave = tt
hidden-alike v own c Request.Collect = tt
hidden-alike v own c (Request.Node r) = tt

-- what is shown is the same
same-alike : (sees : FileName → Bool) (v : AppView) (own : Own) (c : OwnConnection) (request : Request) → ShownAlike sees v c own own.shown request
same-alike sees v own c (Request.Add a) = (λ path. refl, refl)
same-alike sees v own c (Request.Present path) = tt
same-alike sees v own c (Request.Grant call) = tt
same-alike sees v own c (Request.Revoke call) = tt
same-alike sees v own c (Request.DeleteDocument doc) = tt
same-alike sees v own c (Request.LookupDocument path) = tt
same-alike sees v own c (Request.Info doc) = tt
same-alike sees v own c (Request.ListDocuments app) = tt
same-alike sees v own c (Request.Store call) = tt
same-alike sees v own c (Request.Enter who kind) = tt
same-alike sees v own c Request.Leave = tt
same-alike sees v own c Request.Collect = tt
same-alike sees v own c (Request.Node r) = tt

-- ---- views that are equal when blinded

-- blind to all that was in sight
none_left : (sees : FileName → Bool) (path : List ℕ) (c : Content) → blind_at nothing path (blind_at sees path c) ≡ blind_at nothing path c
none_left sees path (OfFile g bytes moment) = elim (sees (file_of path g)) as (λ x. blind_at nothing path (cond x (OfFile g bytes moment) (OfFile g (replicate (length bytes) 0) moment)) ≡ OfFile g (replicate (length bytes) 0) moment) [
  | true ↦ refl
  | false ↦ ap (λ (n : ℕ). OfFile g (replicate n 0) moment) (length-replicate (length bytes) 0)
]
none_left sees path OfFolder = refl
none_left sees path (NotThere room) = refl

none_left_in : (sees : FileName → Bool) (cs : List PathContent) → map (blind_content nothing) (map (blind_content sees) cs) ≡ map (blind_content nothing) cs
none_left_in sees [] = refl
none_left_in sees (c ∷ cs) = λ i. record c { content = none_left sees c.path c.content i } ∷ none_left_in sees cs i

none_left_file : (sees : FileName → Bool) (f : File) → hidden_file (blind_file sees f) ≡ hidden_file f
none_left_file sees f = elim (sees (file_of f.path f.generation)) as (λ x. hidden_file (cond x f (hidden_file f)) ≡ hidden_file f) [ true ↦ refl | false ↦ file-hidden-twice f ]

none_left_files : (sees : FileName → Bool) (fs : List File) → map (blind_file nothing) (map (blind_file sees) fs) ≡ map (blind_file nothing) fs
none_left_files sees [] = refl
none_left_files sees (f ∷ fs) = λ i. none_left_file sees f i ∷ none_left_files sees fs i

none_below : (sees : FileName → Bool) (bs : List PathBelow) → map (blind_below nothing) (map (blind_below sees) bs) ≡ map (blind_below nothing) bs
none_below sees [] = refl
none_below sees (b ∷ bs) = λ i. record b { files = none_left_files sees b.files i } ∷ none_below sees bs i

pub named-hidden-twice : (f : NamedFile) → hidden_named (hidden_named f) ≡ hidden_named f
named-hidden-twice f = ap (λ (n : ℕ). record f { bytes = replicate n 0 }) (length-replicate (length f.bytes) 0)

none_left_named : (sees : FileName → Bool) (fs : List NamedFile) → map (blind_named nothing) (map (blind_named sees) fs) ≡ map (blind_named nothing) fs
none_left_named sees [] = refl
none_left_named sees (f ∷ fs) = λ i. one_left i ∷ none_left_named sees fs i
  where
    one_left : hidden_named (blind_named sees f) ≡ hidden_named f
    one_left = elim (sees f.name) as (λ x. hidden_named (cond x f (hidden_named f)) ≡ hidden_named f) [ true ↦ refl | false ↦ named-hidden-twice f ]

pub all-blind : (sees : FileName → Bool) (v : AppView) → blind_but nothing (blind_but sees v) ≡ blind_but nothing v
all-blind sees v = λ i. record v { contents = none_left_in sees v.contents i; below = none_below sees v.below i; files = none_left_named sees v.files i }

-- by a pair that is blind to more
more-blind : (sees : FileName → Bool) (p q : AppView × Reply) → seen_pair sees p ≡ seen_pair sees q → seen_pair nothing p ≡ seen_pair nothing q
more-blind sees p q e =
    let views : blind_but nothing p.0 ≡ blind_but nothing q.0 = sym (all-blind sees p.0) ∙ (ap (λ (x : AppView × Reply). blind_but nothing x.0) e ∙ all-blind sees q.0) in
    λ i. (views i, (e i).1)

-- to who is blind, and told no bytes, it comes to the same but for bytes
module _ (v : AppView) (own : Own) where
  abbrev blind_own : Own
  blind_own = own_blinded own

  by-bus : (request : Request) → ((x : AppView) (c : OwnConnection) → ShownAlike nothing x c own (map hidden_holding own.shown) request) → ((x : AppView) (c : OwnConnection) → ShownAlike nothing x c blind_own blind_own.shown request) →
      ((x : AppView) (k : Own) (more : List Holding) → ((c : OwnConnection) → ShownAlike nothing x c k more request) → seen_pair nothing (own_request_step (blind_but nothing x) (record k { shown = more }) request) ≡ seen_pair nothing (own_request_step x k request)) →
      seen_pair nothing (own_request_step (blinded v) blind_own request) ≡ seen_pair nothing (own_request_step v own request)
  by-bus request shown same step =
      sym (step (blinded v) blind_own blind_own.shown (same (blinded v)))
      ∙ (ap (λ (x : AppView). seen_pair nothing (own_request_step x blind_own request)) (all-blind (reads v) v)
      ∙ step v own (map hidden_holding own.shown) (shown v))

  pub pair-blinded : (request : Request) → seen_pair nothing (own_request_step (blinded v) blind_own request) ≡ seen_pair nothing (own_request_step v own request)
  pair-blinded (Request.Node r) = more-blind (reads v) _ _ (step-same (reads v) v own (map hidden_holding own.shown) (Request.Node r) (λ name e. e))
  pair-blinded (Request.Present path) = by-bus (Request.Present path) (λ x c. hidden-alike x own c (Request.Present path)) (λ x c. same-alike nothing x blind_own c (Request.Present path)) (λ x k more h. step-same nothing x k more (Request.Present path) h)
  pair-blinded (Request.Add a) = by-bus (Request.Add a) (λ x c. hidden-alike x own c (Request.Add a)) (λ x c. same-alike nothing x blind_own c (Request.Add a)) (λ x k more h. step-same nothing x k more (Request.Add a) h)
  pair-blinded (Request.Grant call) = by-bus (Request.Grant call) (λ x c. hidden-alike x own c (Request.Grant call)) (λ x c. same-alike nothing x blind_own c (Request.Grant call)) (λ x k more h. step-same nothing x k more (Request.Grant call) h)
  pair-blinded (Request.Revoke call) = by-bus (Request.Revoke call) (λ x c. hidden-alike x own c (Request.Revoke call)) (λ x c. same-alike nothing x blind_own c (Request.Revoke call)) (λ x k more h. step-same nothing x k more (Request.Revoke call) h)
  pair-blinded (Request.DeleteDocument doc) = by-bus (Request.DeleteDocument doc) (λ x c. hidden-alike x own c (Request.DeleteDocument doc)) (λ x c. same-alike nothing x blind_own c (Request.DeleteDocument doc)) (λ x k more h. step-same nothing x k more (Request.DeleteDocument doc) h)
  pair-blinded (Request.LookupDocument path) = by-bus (Request.LookupDocument path) (λ x c. hidden-alike x own c (Request.LookupDocument path)) (λ x c. same-alike nothing x blind_own c (Request.LookupDocument path)) (λ x k more h. step-same nothing x k more (Request.LookupDocument path) h)
  pair-blinded (Request.Info doc) = by-bus (Request.Info doc) (λ x c. hidden-alike x own c (Request.Info doc)) (λ x c. same-alike nothing x blind_own c (Request.Info doc)) (λ x k more h. step-same nothing x k more (Request.Info doc) h)
  pair-blinded (Request.ListDocuments app) = by-bus (Request.ListDocuments app) (λ x c. hidden-alike x own c (Request.ListDocuments app)) (λ x c. same-alike nothing x blind_own c (Request.ListDocuments app)) (λ x k more h. step-same nothing x k more (Request.ListDocuments app) h)
  pair-blinded (Request.Store call) = by-bus (Request.Store call) (λ x c. hidden-alike x own c (Request.Store call)) (λ x c. same-alike nothing x blind_own c (Request.Store call)) (λ x k more h. step-same nothing x k more (Request.Store call) h)
  pair-blinded (Request.Enter who kind) = by-bus (Request.Enter who kind) (λ x c. hidden-alike x own c (Request.Enter who kind)) (λ x c. same-alike nothing x blind_own c (Request.Enter who kind)) (λ x k more h. step-same nothing x k more (Request.Enter who kind) h)
  pair-blinded Request.Leave = by-bus Request.Leave (λ x c. hidden-alike x own c Request.Leave) (λ x c. same-alike nothing x blind_own c Request.Leave) (λ x k more h. step-same nothing x k more Request.Leave h)
  pair-blinded Request.Collect = by-bus Request.Collect (λ x c. hidden-alike x own c Request.Collect) (λ x c. same-alike nothing x blind_own c Request.Collect) (λ x k more h. step-same nothing x k more Request.Collect h)

-- ---- views that are equal when blinded

reply-blinded : (v : AppView) (own : Own) → (app_step (blinded v) (own_blinded own)).1 ≡ (app_step v own).1
reply-blinded v own = ap (λ (p : AppView × Reply). p.1) (pair-blinded v own own.request)

after-blinded : (v : AppView) (own : Own) (request : Request) → blind_but (reads v) (own_request_step (blinded v) own request).0 ≡ blind_but (reads v) (own_request_step v own request).0
after-blinded v own (Request.Node r) = ap (λ (p : AppView × Reply). p.0) (step-same (reads v) v own own.shown (Request.Node r) (λ name e. e))
after-blinded v own (Request.Present path) = ap (λ (p : AppView × Reply). p.0) (step-same (reads v) v own own.shown (Request.Present path) (λ c. same-alike (reads v) v own c (Request.Present path)))
after-blinded v own (Request.Add a) = ap (λ (p : AppView × Reply). p.0) (step-same (reads v) v own own.shown (Request.Add a) (λ c. same-alike (reads v) v own c (Request.Add a)))
after-blinded v own (Request.Grant call) = ap (λ (p : AppView × Reply). p.0) (step-same (reads v) v own own.shown (Request.Grant call) (λ c. same-alike (reads v) v own c (Request.Grant call)))
after-blinded v own (Request.Revoke call) = ap (λ (p : AppView × Reply). p.0) (step-same (reads v) v own own.shown (Request.Revoke call) (λ c. same-alike (reads v) v own c (Request.Revoke call)))
after-blinded v own (Request.DeleteDocument doc) = ap (λ (p : AppView × Reply). p.0) (step-same (reads v) v own own.shown (Request.DeleteDocument doc) (λ c. same-alike (reads v) v own c (Request.DeleteDocument doc)))
after-blinded v own (Request.LookupDocument path) = ap (λ (p : AppView × Reply). p.0) (step-same (reads v) v own own.shown (Request.LookupDocument path) (λ c. same-alike (reads v) v own c (Request.LookupDocument path)))
after-blinded v own (Request.Info doc) = ap (λ (p : AppView × Reply). p.0) (step-same (reads v) v own own.shown (Request.Info doc) (λ c. same-alike (reads v) v own c (Request.Info doc)))
after-blinded v own (Request.ListDocuments app) = ap (λ (p : AppView × Reply). p.0) (step-same (reads v) v own own.shown (Request.ListDocuments app) (λ c. same-alike (reads v) v own c (Request.ListDocuments app)))
after-blinded v own (Request.Store call) = ap (λ (p : AppView × Reply). p.0) (step-same (reads v) v own own.shown (Request.Store call) (λ c. same-alike (reads v) v own c (Request.Store call)))
after-blinded v own (Request.Enter who kind) = ap (λ (p : AppView × Reply). p.0) (step-same (reads v) v own own.shown (Request.Enter who kind) (λ c. same-alike (reads v) v own c (Request.Enter who kind)))
after-blinded v own Request.Leave = ap (λ (p : AppView × Reply). p.0) (step-same (reads v) v own own.shown Request.Leave (λ c. same-alike (reads v) v own c Request.Leave))
after-blinded v own Request.Collect = ap (λ (p : AppView × Reply). p.0) (step-same (reads v) v own own.shown Request.Collect (λ c. same-alike (reads v) v own c Request.Collect))

pub same-reply : (v w : AppView) (own other : Own) → blinded v ≡ blinded w → own_blinded own ≡ own_blinded other → (app_step v own).1 ≡ (app_step w other).1
same-reply v w own other h e = sym (reply-blinded v own) ∙ ((λ i. (app_step (h i) (e i)).1) ∙ reply-blinded w other)

pub same-sight : (v w : AppView) (own : Own) → blinded v ≡ blinded w → blind_but (reads v) (app_step v own).0 ≡ blind_but (reads v) (app_step w own).0
same-sight v w own h =
    sym (after-blinded v own own.request)
    ∙ ((λ i. blind_but (reads (h i)) (app_step (h i) own).0)
    ∙ (after-blinded w own own.request ∙ ap (λ (sees : FileName → Bool). blind_but sees (app_step w own).0) (sym (ap reads h))))

-- ---- other bytes

-- in one content that is as another when blinded
one_other : (sees : FileName → Bool) (front back : List PathContent) (c d : PathContent) → blind_content sees c ≡ blind_content sees d → map (blind_content sees) (front ++ c ∷ back) ≡ map (blind_content sees) (front ++ d ∷ back)
one_other sees [] back c d e = λ i. e i ∷ map (blind_content sees) back
one_other sees (x ∷ xs) back c d e = λ i. blind_content sees x ∷ one_other sees xs back c d e i

module _ (v : AppView) (name : FileName) (bytes other : List ℕ) (moment : ℕ) (unread : reads v name ≡ false) (as_many : length bytes ≡ length other) where
  never : reads v name ≡ true → bytes ≡ other
  never e = let no : true ≡ false = sym e ∙ unread in cc

  same-content : blind_at (reads v) name.path (OfFile name.generation bytes moment) ≡ blind_at (reads v) name.path (OfFile name.generation other moment)
  same-content = blind-same (reads v) name.path name.generation bytes other moment never as_many

  pub other-bytes : (front back : List PathContent) → blinded (with_file v front back name bytes moment) ≡ blinded (with_file v front back name other moment)
  other-bytes front back = λ i. record v {
    below = map (blind_below (reads v)) v.below;
    files = map (blind_named (reads v)) v.files;
    contents =
        one_other (reads v) front back (record { path = name.path; content = OfFile name.generation bytes moment }) (record { path = name.path; content = OfFile name.generation other moment })
        (λ j. record { path = name.path; content = same-content j }) i;
  }

  -- and so in a file below a folder
  same-file : blind_file (reads v) (file_made name.path name.generation bytes moment) ≡ blind_file (reads v) (file_made name.path name.generation other moment)
  same-file =
      ap (λ (b : Bool). cond b (file_made name.path name.generation bytes moment) (hidden_file (file_made name.path name.generation bytes moment))) unread
      ∙ (ap (λ (n : ℕ). file_made name.path name.generation (replicate n 0) moment) as_many
      ∙ sym (ap (λ (b : Bool). cond b (file_made name.path name.generation other moment) (hidden_file (file_made name.path name.generation other moment))) unread))

  one_file : (first last : List File) → map (blind_file (reads v)) (first ++ file_made name.path name.generation bytes moment ∷ last) ≡ map (blind_file (reads v)) (first ++ file_made name.path name.generation other moment ∷ last)
  one_file [] last = λ i. same-file i ∷ map (blind_file (reads v)) last
  one_file (f ∷ fs) last = λ i. blind_file (reads v) f ∷ one_file fs last i

  one_folder : (front back : List PathBelow) (folder : List ℕ) (first last : List File) →
      map (blind_below (reads v)) (front ++ record { path = folder; files = first ++ file_made name.path name.generation bytes moment ∷ last } ∷ back)
      ≡ map (blind_below (reads v)) (front ++ record { path = folder; files = first ++ file_made name.path name.generation other moment ∷ last } ∷ back)
  one_folder [] back folder first last = λ i. record { path = folder; files = one_file first last i } ∷ map (blind_below (reads v)) back
  one_folder (b ∷ bs) back folder first last = λ i. blind_below (reads v) b ∷ one_folder bs back folder first last i

  pub other-below : (front back : List PathBelow) (folder : List ℕ) (first last : List File) → blinded (with_file_below v front back folder first last name bytes moment) ≡ blinded (with_file_below v front back folder first last name other moment)
  other-below front back folder first last = λ i. record v { contents = map (blind_content (reads v)) v.contents; below = one_folder front back folder first last i; files = map (blind_named (reads v)) v.files }

  -- and in a file that is known by its name
  abbrev known : List ℕ → NamedFile
  known bytes = record { name = name; bytes = bytes; moment = moment }

  same-known : blind_named (reads v) (known bytes) ≡ blind_named (reads v) (known other)
  same-known =
      ap (λ (b : Bool). cond b (known bytes) (hidden_named (known bytes))) unread
      ∙ (ap (λ (n : ℕ). known (replicate n 0)) as_many
      ∙ sym (ap (λ (b : Bool). cond b (known other) (hidden_named (known other))) unread))

  one_known : (front back : List NamedFile) → map (blind_named (reads v)) (front ++ known bytes ∷ back) ≡ map (blind_named (reads v)) (front ++ known other ∷ back)
  one_known [] back = λ i. same-known i ∷ map (blind_named (reads v)) back
  one_known (f ∷ fs) back = λ i. blind_named (reads v) f ∷ one_known fs back i

  pub other-named : (front back : List NamedFile) → blinded (with_file_named v front back name bytes moment) ≡ blinded (with_file_named v front back name other moment)
  other-named front back = λ i. record v {
    contents = map (blind_content (reads v)) v.contents;
    below = map (blind_below (reads v)) v.below;
    files = one_known front back i;
  }
