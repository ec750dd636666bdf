-- A request that is none on a node tells of rights that it lists, and of documents that are held.
use Rattle.std.proofs.Common.{◌≡◌, ℕ, ◌==◌, List, [], ◌∷◌, ◌++◌, Bool, true, false, not, ◌&&◌, ◌||◌, cond, Option, Some, None, is_some, refl, sym, ap, subst, ◌∙◌, arith}
use Rattle.std.proofs.lemmas.List.{append_assoc}
use Rattle.std.proofs.lemmas.List.Sums.{fold-append}
use Rattle.portal_base.specs.Names.{hex_number, is_doc_id, is_same}
use Rattle.rights_rule.specs.Rights.{RightSet, contains, holds_any, minus, rights_named, union}
use Rattle.portal_model.specs.declared.entry.Entry.{Entry}
use Rattle.portal_model.specs.declared.entry.Given.{Given}
use Rattle.portal_model.specs.declared.request.AddRequest.{AddRequest}
use Rattle.portal_model.specs.declared.request.Request.{Request}
use Rattle.portal_model.specs.declared.request.RightsCall.{RightsCall}
use Rattle.portal_model.specs.declared.state.Connection.{Connection}
use Rattle.portal_model.specs.declared.state.Document.{Document}
use Rattle.portal_model.specs.declared.state.Triple.{Triple}
use Rattle.portal_base.specs.declared.files.File.{File}
use Rattle.portal_base.specs.declared.names.doc_id.DocId.{DocId}
use Rattle.portal_base.specs.declared.who.Who.{Who}
use Rattle.portal_model.specs.Add.{Added, add_file, adding_rights, caller_rights, first_number, new_document, use_document, used_again, with_new_document, with_rights_of}
use Rattle.portal_model.specs.AddArguments.{document_paths, is_left_out, names_nobody}
use Rattle.portal_model.specs.Arguments.{document_named}
use Rattle.app_world.specs.View.{holding_at}
use Rattle.portal_model.specs.Grant.{given_rights}
use Rattle.portal_model.specs.State.{State, connection_of, document_of, held_of}
use Rattle.portal_model.specs.Step.{bus_of, reply_at}
use Rattle.portal_model.proofs.ListLookups.{found_passes, nat_is}
use Rattle.portal_model.proofs.TripleOrder.{nat-itself}
use Rattle.app_world.specs.Add.{document_used, file_touch, files_touch, names_app}
use Rattle.app_world.specs.Bus.{add_touch_by}
use Rattle.app_world.specs.DeleteDocument.{deleted_from}
use Rattle.app_world.specs.Effect.{Effect}
use Rattle.app_world.specs.Grant.{gained_if, gained_in, grant_touch, granted_to}
use Rattle.app_world.specs.Laws.{asks}
use Rattle.app_world.specs.Revoke.{common, lost_in, revoke_touch, revoked_from}
use Rattle.app_world.specs.RightsTold.{identifies}
use Rattle.app_world.specs.Touched.{is_done}
use Rattle.app_world.specs.View.{AppView, HeldDocument, found_document, seen, view}
use Rattle.app_world.specs.World.{request_touch, touch}
use Rattle.app_world.proofs.AddCallLaws.{taken-keeps}
use Rattle.app_world.proofs.DocumentLaws.{documents-found}
use Rattle.app_world.proofs.HeldLaws.{held-add, same-rights}
use Rattle.file_laws.specs.Touches.{EachEffect, IsAddedOn, IsOfDocument, added_ahead, is_on_node}

-- ---- sets of rights

new-within : (x y : Bool) → (not (x && not y) || x) ≡ true
new-within x y = grind arith

both-left : (x y : Bool) → (not (x && y) || x) ≡ true
both-left x y = grind arith

both-right : (x y : Bool) → (not (x && y) || y) ≡ true
both-right x y = grind arith

all-four : (a b c d : Bool) → a ≡ true → b ≡ true → c ≡ true → d ≡ true → (a && (b && (c && d))) ≡ true
all-four a b c d e f g h = grind arith

new-listed : (a b : RightSet) → contains a (minus a b) ≡ true
new-listed a b = all-four _ _ _ _ (new-within a.read b.read) (new-within a.write b.write) (new-within a.grant_permissions b.grant_permissions) (new-within a.delete b.delete)

common-listed : (a b : RightSet) → contains a (common a b) ≡ true
common-listed a b = all-four _ _ _ _ (both-left a.read b.read) (both-left a.write b.write) (both-left a.grant_permissions b.grant_permissions) (both-left a.delete b.delete)

common-held : (a b : RightSet) → contains b (common a b) ≡ true
common-held a b = all-four _ _ _ _ (both-right a.read b.read) (both-right a.write b.write) (both-right a.grant_permissions b.grant_permissions) (both-right a.delete b.delete)

contains-self : (a : RightSet) → contains a a ≡ true
contains-self a = all-four _ _ _ _ (either-way a.read) (either-way a.write) (either-way a.grant_permissions) (either-way a.delete)
  where
    either-way : (x : Bool) → (not x || x) ≡ true
    either-way true = refl
    either-way false = refl

first-of : (x y : Bool) → (x && y) ≡ true → x ≡ true
first-of true y h = refl
first-of false y h = cc

second-of : (x y : Bool) → (x && y) ≡ true → y ≡ true
second-of true y h = h
second-of false y h = cc

-- what a larger set lacks, the smaller one lacks
minus-new : (a t w : RightSet) → contains t w ≡ true → minus (minus a t) w ≡ minus a t
minus-new a t w h =
    let read = first-of (not w.read || t.read) _ h in
    let h1 = second-of (not w.read || t.read) _ h in
    let write = first-of (not w.write || t.write) _ h1 in
    let h2 = second-of (not w.write || t.write) _ h1 in
    let give = first-of (not w.grant_permissions || t.grant_permissions) _ h2 in
    let del = second-of (not w.grant_permissions || t.grant_permissions) _ h2 in
    same-rights (minus (minus a t) w) (minus a t)
    (once-more a.read t.read w.read read)
    (once-more a.write t.write w.write write)
    (once-more a.grant_permissions t.grant_permissions w.grant_permissions give)
    (once-more a.delete t.delete w.delete del)
  where
    once-more : (x t w : Bool) → (not w || t) ≡ true → ((x && not t) && not w) ≡ (x && not t)
    once-more true true w h = refl
    once-more true false true h = cc
    once-more true false false h = refl
    once-more false t w h = refl

-- rights that are added leave those that were there
wider : (b : Bool) (m set w : RightSet) → contains m w ≡ true → contains (cond b (union m set) m) w ≡ true
wider false m set w h = h
wider true m set w h =
    let h1 = second-of (not w.read || m.read) _ h in
    let h2 = second-of (not w.write || m.write) _ h1 in
    all-four _ _ _ _
    (one-wider w.read m.read set.read (first-of (not w.read || m.read) _ h))
    (one-wider w.write m.write set.write (first-of (not w.write || m.write) _ h1))
    (one-wider w.grant_permissions m.grant_permissions set.grant_permissions (first-of (not w.grant_permissions || m.grant_permissions) _ h2))
    (one-wider w.delete m.delete set.delete (second-of (not w.grant_permissions || m.grant_permissions) _ h2))
  where
    one-wider : (w m x : Bool) → (not w || m) ≡ true → (not w || (m || x)) ≡ true
    one-wider true true x h = refl
    one-wider true false x h = cc
    one-wider false m x h = refl

common-some : (a b : RightSet) → holds_any (common a b) ≡ true → holds_any b ≡ true
common-some a b e = grind arith

-- ---- the document that a call names

named-number : (documents : List Document) (n : ℕ) (d : Document) → document_of documents n ≡ Some d → d.id.number ≡ n
named-number documents n d e = nat_is d.id.number n (found_passes (λ (x : Document). x.id.number == n) documents d e)

named-identified : (documents : List Document) (doc : List ℕ) (d : Document) → document_named documents doc ≡ Some d → identifies doc d.id.number ≡ true
named-identified documents doc d e = by_form (is_doc_id doc) e
  where
    by_form : (b : Bool) → cond b (document_of documents (hex_number doc)) None ≡ Some d → (b && hex_number doc == d.id.number) ≡ true
    by_form true f = ap (λ (k : ℕ). k == d.id.number) (sym (named-number documents (hex_number doc) d f)) ∙ nat-itself d.id.number
    by_form false f = cc

named-lives : (documents : List Document) (doc : List ℕ) (d : Document) → document_named documents doc ≡ Some d → document_of documents d.id.number ≡ Some d
named-lives documents doc d e = by_form (is_doc_id doc) e
  where
    by_form : (b : Bool) → cond b (document_of documents (hex_number doc)) None ≡ Some d → document_of documents d.id.number ≡ Some d
    by_form true f = ap (document_of documents) (named-number documents (hex_number doc) d f) ∙ f
    by_form false f = cc

and-both : (a b : Bool) → a ≡ true → b ≡ true → (a && b) ≡ true
and-both a b e f = grind arith

-- ---- an addition changes no file

caller-files : (who : Who) (a : AddRequest) (id : DocId) (s : State) → (caller_rights who a id s).files ≡ s.files
caller-files Who.Host a id s = refl
caller-files (Who.App app) a id s = refl

listed-files : (b : Bool) (a : AddRequest) (id : DocId) (s : State) → (cond b s (given_rights a.app id (rights_named a.names) s)).files ≡ s.files
listed-files true a id s = refl
listed-files false a id s = refl

rights-files : (who : Who) (a : AddRequest) (id : DocId) (s : State) → (with_rights_of who a id s).files ≡ s.files
rights-files who a id s = listed-files (names_nobody a) a id (caller_rights who a id s) ∙ caller-files who a id s

use-files : (who : Who) (a : AddRequest) (path : List ℕ) (done : Added) (again : Option DocId) → (use_document who a path done again).state.files ≡ done.state.files
use-files who a path done None = rights-files who a (first_number done.numbers) (with_new_document (new_document a (first_number done.numbers) path) done.state)
use-files who a path done (Some id) = rights-files who a id done.state

either-file : (b : Bool) (x y done : Added) → x.state.files ≡ done.state.files → y.state.files ≡ done.state.files → (cond b x y).state.files ≡ done.state.files
either-file true x y done h k = h
either-file false x y done h k = k

file-keeps : (who : Who) (a : AddRequest) (done : Added) (path : List ℕ) → (add_file who a done path).state.files ≡ done.state.files
file-keeps who a done path =
    let again = used_again done.state.documents a path in
    either-file (is_left_out a path) (record done { ids = done.ids ++ [] ∷ [] }) (use_document who a path done again) done refl (use-files who a path done again)

module _ (app : List ℕ) (s : State) (seat : ℕ) (given : Given) where
  abbrev v : AppView
  v = view s app

  abbrev Of : Request → List Effect → Type 0
  Of request effects = EachEffect (IsOfDocument app s seat request given) effects

  abbrev was : ℕ → RightSet
  was n = held_of s.rights app n

  held-found : (doc : List ℕ) (d : Document) → document_named s.documents doc ≡ Some d → holds_any (was d.id.number) ≡ true → found_document v.documents d.id.number ≡ Some (record { document = d; rights = was d.id.number })
  held-found doc d e h =
      documents-found was d.id.number s.documents
      ∙ (ap (seen (was d.id.number)) (named-lives s.documents doc d e)
      ∙ ap (λ (b : Bool). cond {A = Option HeldDocument} b (Some (record { document = d; rights = was d.id.number })) None) h)

  -- ---- a grant

  granted-of : (call : RightsCall) (d : Document) (m : RightSet) (b : Bool) → holds_any (minus (rights_named call.names) m) ≡ b → (identifies call.doc d.id.number && is_same call.app app) ≡ true → document_of s.documents d.id.number ≡ Some d → m ≡ was d.id.number →
      Of (Request.Grant call) (gained_if s d (minus (rights_named call.names) m))
  granted-of call d m true e g l k = rw e (
    record {
      named = g;
      some = e;
      listed = new-listed (rights_named call.names) m;
      new = minus-new (rights_named call.names) m (was d.id.number) (subst (λ (x : RightSet). contains x (was d.id.number) ≡ true) (sym k) (contains-self (was d.id.number)));
      whole = record { live = l; all = ap (minus (rights_named call.names)) k };
      shows = refl;
    },
    tt,
  )
  granted-of call d m false e g l k = rw e tt

  grant-of : (call : RightsCall) → Of (Request.Grant call) (grant_touch app s call)
  grant-of call = by_app (is_same call.app app) refl
    where
      by_document : (o : Option Document) → document_named s.documents call.doc ≡ o → is_same call.app app ≡ true → Of (Request.Grant call) (granted_to app s call o)
      by_document None e f = tt
      by_document (Some d) e f = granted-of call d (was d.id.number) (holds_any (minus (rights_named call.names) (was d.id.number))) refl (and-both (identifies call.doc d.id.number) (is_same call.app app) (named-identified s.documents call.doc d e) f) (named-lives s.documents call.doc d e) refl

      by_app : (b : Bool) → is_same call.app app ≡ b → Of (Request.Grant call) (cond b (granted_to app s call (document_named s.documents call.doc)) [])
      by_app true e = by_document (document_named s.documents call.doc) refl e
      by_app false e = tt

  -- ---- a revocation

  revoked-of : (call : RightsCall) (d : Document) (b : Bool) → holds_any (common (rights_named call.names) (was d.id.number)) ≡ b → document_named s.documents call.doc ≡ Some d → is_same call.app app ≡ true →
      Of (Request.Revoke call) (lost_in app s (rights_named call.names) d)
  revoked-of call d true e f g = rw e (
    record {
      held = record { document = d; rights = was d.id.number };
      there = held-found call.doc d f (common-some (rights_named call.names) (was d.id.number) e);
      taken = and-both (identifies call.doc d.id.number) (is_same call.app app) (named-identified s.documents call.doc d f) g;
      some = e;
      listed = common-listed (rights_named call.names) (was d.id.number);
      had = common-held (rights_named call.names) (was d.id.number);
      all = refl;
    },
    tt,
  )
  revoked-of call d false e f g = rw e tt

  revoke-of : (call : RightsCall) → Of (Request.Revoke call) (revoke_touch app s call)
  revoke-of call = by_app (is_same call.app app) refl
    where
      by_document : (o : Option Document) → document_named s.documents call.doc ≡ o → is_same call.app app ≡ true → Of (Request.Revoke call) (revoked_from app s call o)
      by_document None e f = tt
      by_document (Some d) e f = revoked-of call d (holds_any (common (rights_named call.names) (was d.id.number))) refl e f

      by_app : (b : Bool) → is_same call.app app ≡ b → Of (Request.Revoke call) (cond b (revoked_from app s call (document_named s.documents call.doc)) [])
      by_app true e = by_document (document_named s.documents call.doc) refl e
      by_app false e = tt

  -- ---- a deletion

  deleted-of : (doc : List ℕ) (o : Option Document) → document_named s.documents doc ≡ o → Of (Request.DeleteDocument doc) (deleted_from app s o)
  deleted-of doc None e = tt
  deleted-of doc (Some d) e = by_rights (holds_any (was d.id.number)) refl
    where
      by_rights : (b : Bool) → holds_any (was d.id.number) ≡ b → Of (Request.DeleteDocument doc) (deleted_from app s (Some d))
      by_rights true h = rw h (record { there = ap is_some (held-found doc d e h); deleted = named-identified s.documents doc d e }, tt)
      by_rights false h = rw h tt

  -- ---- an addition

  joined : (request : Request) (xs ys : List Effect) → Of request xs → Of request ys → Of request (xs ++ ys)
  joined request [] ys h k = k
  joined request (x ∷ xs) ys h k = (h.0, joined request xs ys h.1 k)

  -- the application has what it had
  abbrev Keeps : State → Type 0
  Keeps t = (n : ℕ) → contains (held_of t.rights app n) (was n) ≡ true

  given-keeps : (named : List ℕ) (id : DocId) (set : RightSet) (t : State) → Keeps t → Keeps (given_rights named id set t)
  given-keeps named id set t h = λ n.
      subst (λ (k : RightSet). contains k (was n) ≡ true) (sym (held-add app n named id set t.rights))
      (wider (id.number == n && is_same named app) (held_of t.rights app n) set (was n) (h n))

  caller-keeps : (who : Who) (a : AddRequest) (id : DocId) (t : State) → Keeps t → Keeps (caller_rights who a id t)
  caller-keeps Who.Host a id t h = h
  caller-keeps (Who.App name) a id t h = given-keeps name id (adding_rights a) t h

  listed-keeps : (b : Bool) (a : AddRequest) (id : DocId) (t : State) → Keeps t → Keeps (cond b t (given_rights a.app id (rights_named a.names) t))
  listed-keeps true a id t h = h
  listed-keeps false a id t h = given-keeps a.app id (rights_named a.names) t h

  rights-keep : (who : Who) (a : AddRequest) (id : DocId) (t : State) → Keeps t → Keeps (with_rights_of who a id t)
  rights-keep who a id t h = listed-keeps (names_nobody a) a id (caller_rights who a id t) (caller-keeps who a id t h)

  use-keeps : (who : Who) (a : AddRequest) (path : List ℕ) (done : Added) (again : Option DocId) → Keeps done.state → Keeps (use_document who a path done again).state
  use-keeps who a path done None h = rights-keep who a (first_number done.numbers) (with_new_document (new_document a (first_number done.numbers) path) done.state) h
  use-keeps who a path done (Some id) h = rights-keep who a id done.state h

  either-keeps : (b : Bool) (x y : Added) → Keeps x.state → Keeps y.state → Keeps (cond b x y).state
  either-keeps true x y h k = h
  either-keeps false x y h k = k

  add-keeps : (who : Who) (a : AddRequest) (done : Added) (path : List ℕ) → Keeps done.state → Keeps (add_file who a done path).state
  add-keeps who a done path h =
      let again = used_again done.state.documents a path in
      either-keeps (is_left_out a path) (record done { ids = done.ids ++ [] ∷ [] }) (use_document who a path done again) h (use-keeps who a path done again h)

  abbrev bus : Option Connection
  bus = bus_of (connection_of s.connections seat)

  abbrev AddedHere : AddRequest → Document → RightSet → Type 0
  AddedHere a d more = IsAddedOn app s a given bus d more

  added-of : (a : AddRequest) (t : State) (d : Document) (m : RightSet) (b : Bool) → t.files ≡ s.files → holds_any (minus (rights_named a.names) m) ≡ b → names_app app a ≡ true → contains m (was d.id.number) ≡ true → AddedHere a d (minus (rights_named a.names) m) →
      Of (Request.Add a) (gained_if t d (minus (rights_named a.names) m))
  added-of a t d m true h e g k w = rw e (
    record {
      named = g;
      some = e;
      listed = new-listed (rights_named a.names) m;
      new = minus-new (rights_named a.names) m (was d.id.number) k;
      whole = w;
      shows = ap (λ (fs : List File). holding_at fs d) h;
    },
    tt,
  )
  added-of a t d m false h e g k w = rw e tt

  used-of : (a : AddRequest) (t : State) (used : Document) (b c : Bool) → t.files ≡ s.files → Keeps t → names_app app a ≡ c → (b ≡ false → AddedHere a used (minus (rights_named a.names) (held_of t.rights app used.id.number))) →
      Of (Request.Add a) (cond b [] (cond c (gained_in app t (rights_named a.names) used) []))
  used-of a t used true c h k e w = tt
  used-of a t used false true h k e w = added-of a t used (held_of t.rights app used.id.number) (holds_any (minus (rights_named a.names) (held_of t.rights app used.id.number))) h refl e (k used.id.number) (w refl)
  used-of a t used false false h k e w = tt

  -- the files of an Add on this connection
  module _ (a : AddRequest) (c : Connection) (on : bus ≡ Some c) where
    abbrev by_then : List (List ℕ) → Added
    by_then ahead = added_ahead s c a given.numbers ahead

    file-of : (ahead behind : List (List ℕ)) (path : List ℕ) → document_paths c.queue a ≡ ahead ++ path ∷ behind → (by_then ahead).state.files ≡ s.files → Keeps (by_then ahead).state → Of (Request.Add a) (file_touch app a (by_then ahead) path)
    file-of ahead behind path p h k =
        let done : Added = by_then ahead in
        used-of a done.state (document_used a done.numbers path (used_again done.state.documents a path)) (is_left_out a path) (names_app app a) h k refl (λ n.
        subst (λ (o : Option Connection). IsAddedOn app s a given o (document_used a done.numbers path (used_again done.state.documents a path)) (minus (rights_named a.names) (held_of done.state.rights app (document_used a done.numbers path (used_again done.state.documents a path)).id.number)))
        (sym on) (record { ahead = ahead; behind = behind; file = p; needed = n; used = refl; all = refl }))

    one-more : (ahead : List (List ℕ)) (path : List ℕ) → by_then (ahead ++ path ∷ []) ≡ add_file c.who a (by_then ahead) path
    one-more ahead path = fold-append (add_file c.who a) (by_then []) ahead (path ∷ [])

    files-of : (paths ahead : List (List ℕ)) (done : Added) → done ≡ by_then ahead → document_paths c.queue a ≡ ahead ++ paths → done.state.files ≡ s.files → Keeps done.state → Of (Request.Add a) (files_touch app c.who a done paths)
    files-of [] ahead done e p h k = tt
    files-of (path ∷ paths) ahead done e p h k =
        joined (Request.Add a) (file_touch app a done path) (files_touch app c.who a (add_file c.who a done path) paths)
        (subst (λ (x : Added). Of (Request.Add a) (file_touch app a x path)) (sym e)
        (file-of ahead paths path p (subst (λ (x : Added). x.state.files ≡ s.files) e h) (subst (λ (x : Added). Keeps x.state) e k)))
        (files-of paths (ahead ++ path ∷ []) (add_file c.who a done path) (ap (λ (x : Added). add_file c.who a x path) e ∙ sym (one-more ahead path)) (p ∙ sym (append_assoc ahead (path ∷ []) paths))
        (file-keeps c.who a done path ∙ h) (add-keeps c.who a done path k))

    call-of : Of (Request.Add a) (add_touch_by app s a given (Some c))
    call-of = files-of (document_paths c.queue a) [] (by_then []) refl refl (taken-keeps (λ (t : State). t.files) c a s refl)
        (λ n. subst (λ (rights : List Triple). contains (held_of rights app n) (was n) ≡ true) (sym (taken-keeps (λ (t : State). t.rights) c a s refl)) (contains-self (was n)))

  add-of : (a : AddRequest) (o : Option Connection) → bus ≡ o → Of (Request.Add a) (add_touch_by app s a given o)
  add-of a None e = tt
  add-of a (Some c) e = call-of a c e

  -- ---- each request

  if-done : (request : Request) (b : Bool) (effects : List Effect) → Of request effects → Of request (cond b effects [])
  if-done request true effects h = h
  if-done request false effects h = tt

  each-of : (request : Request) → is_on_node request ≡ false → Of request (request_touch app s seat request given)
  each-of (Request.Enter who kind) e = tt
  each-of Request.Leave e = tt
  each-of Request.Collect e = tt
  each-of (Request.Node r) e = cc
  each-of (Request.Present path) e = tt
  each-of (Request.Add a) e = add-of a bus refl
  each-of (Request.Grant call) e = grant-of call
  each-of (Request.Revoke call) e = revoke-of call
  each-of (Request.DeleteDocument doc) e = deleted-of doc (document_named s.documents doc) refl
  each-of (Request.LookupDocument path) e = tt
  each-of (Request.Info doc) e = tt
  each-of (Request.ListDocuments name) e = tt
  each-of (Request.Store call) e = tt

  pub documents-told : (request : Request) → is_on_node request ≡ false → Of request (touch app s (asks seat request given))
  documents-told request e = if-done request (is_done (reply_at s (asks seat request given)).answer) (request_touch app s seat request given) (each-of request e)

-- an entry that is not done tells nothing
pub nothing-told : (app : List ℕ) (s : State) (e : Entry) → is_done (reply_at s e).answer ≡ false → touch app s e ≡ []
nothing-told app s e h = ap (λ (b : Bool). cond {A = List Effect} b (request_touch app s e.seat e.request e.given) []) h
