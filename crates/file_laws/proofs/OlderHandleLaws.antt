-- An open handle stays what it was until its own connection releases it or ends.
use Rattle.std.proofs.Common.{◌≡◌, ℕ, ◌+◌, ◌==◌, List, [], ◌∷◌, ◌++◌, Bool, true, false, ◌&&◌, ◌||◌, Option, Some, None, refl, sym, ap, subst, ◌∙◌}
use Rattle.portal_base.specs.declared.files.FileName.{FileName}
use Rattle.portal_base.specs.declared.names.doc_id.DocId.{DocId}
use Rattle.portal_model.specs.declared.entry.Entry.{Entry}
use Rattle.portal_model.specs.declared.entry.Given.{Given}
use Rattle.portal_model.specs.declared.handle.Handle.{Handle}
use Rattle.portal_model.specs.declared.handle.OpenHandle.{OpenHandle}
use Rattle.portal_model.specs.declared.request.NodeOp.{NodeOp}
use Rattle.portal_model.specs.declared.request.NodeRequest.{NodeRequest}
use Rattle.portal_model.specs.declared.request.Request.{Request}
use Rattle.portal_model.specs.declared.state.Connection.{Connection}
use Rattle.portal_model.specs.Bus.{is_tree, moment_given}
use Rattle.portal_model.specs.Flush.{flush}
use Rattle.portal_model.specs.Fsync.{fsync}
use Rattle.portal_model.specs.GetAttr.{get_attr, names_handle}
use Rattle.portal_model.specs.History.{EachLawful, Legal, run}
use Rattle.portal_model.specs.Lawful.{LawfulGiven, LawfulOnNode}
use Rattle.portal_model.specs.Leave.{handles_left, leave_answer}
use Rattle.portal_model.specs.Node.{NodeFacts, facts_of, handles_after, new_handle, node_given, node_walk, settled_on_node, walk_on_node}
use Rattle.portal_model.specs.NodeVerdict.{NodeVerdict, Errs, HandleChange, HandlesStay, Opens, Closes, Yields}
use Rattle.portal_model.specs.Outside.{files_told}
use Rattle.portal_model.specs.Reach.{Reaching}
use Rattle.portal_model.specs.Read.{read}
use Rattle.portal_model.specs.State.{State, connection_of, handle_of}
use Rattle.portal_model.specs.Step.{after, all_told, bus_of, bus_step, collect_step, mount_of, node_step, request_step, step, with_signals}
use Rattle.portal_model.specs.Valid.{Valid}
use Rattle.portal_model.specs.Walk.{Walk}
use Rattle.portal_model.specs.Write.{write}
use Rattle.portal_model.proofs.Histories.{EachLawful-front, Legal-rest}
use Rattle.portal_model.proofs.ListLookups.{nat_is}
use Rattle.portal_model.proofs.NodeLawsHold.{handles-stay}
use Rattle.portal_model.proofs.NodeWalks.{IfMet, on-given}
use Rattle.app_world.specs.Touched.{is_done}
use Rattle.file_laws.specs.KeptHandles.{OlderHandlesKeepTheirRights, ends, ends_at, goes_by, is_ended_in, is_of_strict, number_answered, releases, step_by, step_by_rights, with_handle}
use Rattle.file_laws.proofs.FoundHandles.{found-closed, found-joined, found-last, found-left, found-mount, is-new, next-free}
use Rattle.file_laws.proofs.HandleChanges.{Fits, MayClose, number_opened, walk-fits}
use Rattle.file_laws.proofs.SeatMounts.{mount-seat}

and-true : (b : Bool) → (b && true) ≡ b
and-true true = refl
and-true false = refl

and-false : (b : Bool) → (b && false) ≡ false
and-false true = refl
and-false false = refl

and-second : (a b : Bool) → (a && b) ≡ true → b ≡ true
and-second true b h = h
and-second false b h = cc

or-parts : (a b : Bool) → (a || b) ≡ false → (a ≡ false) × (b ≡ false)
or-parts true b h = cc
or-parts false b h = (refl, h)

-- ---- an entry that doesn't end the handle

module _ (seat fh : ℕ) (handle : Handle) where
  abbrev Has : State → Type 0
  Has s = handle_of s.handles seat fh ≡ Some handle

  other-number : (b : Bool) (op : NodeOp) (number : ℕ) → releases number op ≡ true → (b && releases fh op) ≡ false → (b && number == fh) ≡ false
  other-number b op number h n = by_number (number == fh) refl
    where
      by_number : (d : Bool) → (number == fh) ≡ d → (b && d) ≡ false
      by_number true e = (λ i. b && (sym h ∙ ap (λ (m : ℕ). releases m op) (nat_is number fh e)) i) ∙ n
      by_number false e = and-false b

  change-keeps : (c : Connection) (op : NodeOp) (change : HandleChange) (hs : List OpenHandle) → MayClose op change → (c.seat == seat && releases fh op) ≡ false → handle_of hs seat fh ≡ Some handle → handle_of (handles_after c change hs) seat fh ≡ Some handle
  change-keeps c op HandlesStay hs m n e = e
  change-keeps c op (Opens made) hs m n e = found-joined hs (new_handle c made ∷ []) seat fh handle e
  change-keeps c op (Closes number) hs m n e = found-closed hs seat fh c.seat number (other-number (c.seat == seat) op number m n) ∙ e

  settled-keeps : (s : State) (c : Connection) (r : NodeRequest) (o : Option NodeVerdict) → IfMet (files_told s) (Fits (c.opens + 1) r.op) o →
      (c.seat == seat && (releases fh r.op && is_done (settled_on_node s c o).1)) ≡ false → Has s → Has (settled_on_node s c o).0
  settled-keeps s c r None m n e = e
  settled-keeps s c r (Some (Errs errno)) m n e = e
  settled-keeps s c r (Some (Yields d)) m n e = change-keeps c r.op d.handle s.handles m.1 ((λ i. c.seat == seat && sym (and-true (releases fh r.op)) i) ∙ n) e

  mount-keeps : (s : State) (n : ℕ) (r : NodeRequest) (given : Given) (o : Option Connection) → ((c : Connection) → o ≡ Some c → c.seat ≡ n) → LawfulOnNode s r given o →
      (n == seat && (releases fh r.op && is_done (node_step s r given o).1.answer)) ≡ false → Has s → Has (node_step s r given o).0
  mount-keeps s n r given None f l m e = e
  mount-keeps s n r given (Some c) f l m e =
      let t = all_told c.seat s in
      let verdict = node_given (walk_on_node t c r) given in
      settled-keeps t c r verdict
      (on-given (files_told t) (Fits (c.opens + 1) r.op) (walk_on_node t c r) (moment_given given.now) given.listed given.looks (is_tree given.fault) l.looks (walk-fits (files_told t) (facts_of t c r.node) r r.op))
      (ap (λ (k : ℕ). k == seat && (releases fh r.op && is_done (settled_on_node t c verdict).1)) (f c refl) ∙ m) e

  collect-keeps : (s : State) (o : Option Connection) → Has s → Has (collect_step s o).0
  collect-keeps s None e = e
  collect-keeps s (Some c) e = e

  leave-keeps : (n : ℕ) (hs : List OpenHandle) (o : Option Connection) → (n == seat && (true && is_done (leave_answer o))) ≡ false → handle_of hs seat fh ≡ Some handle → handle_of (handles_left n hs o) seat fh ≡ Some handle
  leave-keeps n hs None m e = e
  leave-keeps n hs (Some c) m e = found-left hs seat fh n (sym (and-true (n == seat)) ∙ m) ∙ e

  bus-keeps : (s : State) (request : Request) (given : Given) (o : Option Connection) → Has s → Has (bus_step s request given o).0
  bus-keeps s request given o e = ap (λ (hs : List OpenHandle). handle_of hs seat fh) (handles-stay s request given o) ∙ e

  step-keeps : (s : State) (n : ℕ) (request : Request) (given : Given) → LawfulGiven s n request given →
      (n == seat && (ends fh request && is_done (request_step s n request given).1.answer)) ≡ false → Has s → Has (request_step s n request given).0
  step-keeps s n (Request.Enter who kind) given l m e = e
  step-keeps s n Request.Leave given l m e = leave-keeps n s.handles (connection_of s.connections n) m e
  step-keeps s n Request.Collect given l m e = collect-keeps s (bus_of (connection_of s.connections n)) e
  step-keeps s n (Request.Node r) given l m e =
      mount-keeps s n r given (mount_of (connection_of s.connections n)) (λ c k. (mount-seat s.connections n (connection_of s.connections n) refl c k).0) l m e
  step-keeps s n (Request.Present path) given l m e = bus-keeps s (Request.Present path) given (bus_of (connection_of s.connections n)) e
  step-keeps s n (Request.Add a) given l m e = bus-keeps s (Request.Add a) given (bus_of (connection_of s.connections n)) e
  step-keeps s n (Request.Grant call) given l m e = bus-keeps s (Request.Grant call) given (bus_of (connection_of s.connections n)) e
  step-keeps s n (Request.Revoke call) given l m e = bus-keeps s (Request.Revoke call) given (bus_of (connection_of s.connections n)) e
  step-keeps s n (Request.DeleteDocument doc) given l m e = bus-keeps s (Request.DeleteDocument doc) given (bus_of (connection_of s.connections n)) e
  step-keeps s n (Request.LookupDocument path) given l m e = bus-keeps s (Request.LookupDocument path) given (bus_of (connection_of s.connections n)) e
  step-keeps s n (Request.Info doc) given l m e = bus-keeps s (Request.Info doc) given (bus_of (connection_of s.connections n)) e
  step-keeps s n (Request.ListDocuments name) given l m e = bus-keeps s (Request.ListDocuments name) given (bus_of (connection_of s.connections n)) e
  step-keeps s n (Request.Store call) given l m e = bus-keeps s (Request.Store call) given (bus_of (connection_of s.connections n)) e

  run-keeps : (h : List Entry) (s : State) → EachLawful s h → is_ended_in seat fh s h ≡ false → Has s → Has (run s h)
  run-keeps [] s l m e = e
  run-keeps (x ∷ xs) s l m e =
      let parts = or-parts (ends_at seat fh s x) (is_ended_in seat fh (after s x) xs) m in
      run-keeps xs (after s x) l.1 parts.1 (step-keeps s x.seat x.request x.given l.0.given parts.0 e)

-- ---- the entry that opens it

record Made (seat fh : ℕ) (before opened : List OpenHandle) : Type 0 where
  handle : Handle
  new : handle_of before seat fh ≡ None
  made : handle_of opened seat fh ≡ Some handle

change-makes : (c : Connection) (change : HandleChange) (hs : List OpenHandle) (fh : ℕ) → handle_of hs c.seat (c.opens + 1) ≡ None → number_opened (c.opens + 1) change ≡ Some fh → Made c.seat fh hs (handles_after c change hs)
change-makes c HandlesStay hs fh free e = cc
change-makes c (Opens handle) hs fh free e =
    let same : c.opens + 1 ≡ fh = cc in
    subst (λ (n : ℕ). Made c.seat n hs (hs ++ new_handle c handle ∷ [])) same
    (record { handle = handle; new = free; made = found-last hs (new_handle c handle) c.seat (c.opens + 1) (is-new c handle) free })
change-makes c (Closes number) hs fh free e = cc

settled-makes : (s : State) (c : Connection) (r : NodeRequest) (o : Option NodeVerdict) (fh : ℕ) → IfMet (files_told s) (Fits (c.opens + 1) r.op) o → handle_of s.handles c.seat (c.opens + 1) ≡ None →
    number_answered (Request.Node r) (settled_on_node s c o).1 ≡ Some fh → Made c.seat fh s.handles (settled_on_node s c o).0.handles
settled-makes s c r None fh m free e = cc
settled-makes s c r (Some (Errs errno)) fh m free e = cc
settled-makes s c r (Some (Yields d)) fh m free e = change-makes c d.handle s.handles fh free (sym m.0 ∙ e)

mount-makes : (s : State) (v : Valid s) (n : ℕ) (r : NodeRequest) (given : Given) (o : Option Connection) (fh : ℕ) → ((c : Connection) → o ≡ Some c → (c.seat ≡ n) × (connection_of s.connections n ≡ Some c)) → LawfulOnNode s r given o →
    number_answered (Request.Node r) (node_step s r given o).1.answer ≡ Some fh → Made n fh s.handles (node_step s r given o).0.handles
mount-makes s v n r given None fh f l e = cc
mount-makes s v n r given (Some c) fh f l e =
    let t = all_told c.seat s in
    let verdict = node_given (walk_on_node t c r) given in
    let seat : c.seat ≡ n = (f c refl).0 in
    subst (λ (k : ℕ). Made k fh s.handles (settled_on_node t c verdict).0.handles) seat
    (settled-makes t c r verdict fh
    (on-given (files_told t) (Fits (c.opens + 1) r.op) (walk_on_node t c r) (moment_given given.now) given.listed given.looks (is_tree given.fault) l.looks (walk-fits (files_told t) (facts_of t c r.node) r r.op))
    (next-free c s.connections (ap (connection_of s.connections) seat ∙ (f c refl).1) s.handles v.handles_sound) e)

step-makes : (s : State) (v : Valid s) (n : ℕ) (request : Request) (given : Given) (fh : ℕ) → LawfulGiven s n request given → number_answered request (request_step s n request given).1.answer ≡ Some fh → Made n fh s.handles (request_step s n request given).0.handles
step-makes s v n (Request.Node r) given fh l e = mount-makes s v n r given (mount_of (connection_of s.connections n)) fh (mount-seat s.connections n (connection_of s.connections n) refl) l e
step-makes s v n request given fh l e = cc

-- ---- a request that goes by it

by-handle : (f : NodeFacts) (r : NodeRequest) (op : NodeOp) (fh : ℕ) (handle : Handle) → f.handle fh ≡ Some handle → goes_by fh op ≡ true → node_walk f r op ≡ node_walk (with_handle handle f) r op
by-handle f r (NodeOp.Read n offset size) fh handle e g = ap (read f.reach f.bytes offset size) (ap f.handle (nat_is n fh g) ∙ e)
by-handle f r (NodeOp.Write n offset content) fh handle e g = ap (write f.reach f.file_limit offset content) (ap f.handle (nat_is n fh g) ∙ e)
by-handle f r (NodeOp.Flush n) fh handle e g = ap flush (ap f.handle (nat_is n fh g) ∙ e)
by-handle f r (NodeOp.Fsync n) fh handle e g = ap fsync (ap f.handle (nat_is n fh g) ∙ e)
by-handle f r (NodeOp.GetAttr flags n) fh handle e g = ap (get_attr f.reach r flags f.sight) (ap f.handle (nat_is n fh (and-second (names_handle flags) (n == fh) g)) ∙ e)
by-handle f r op fh handle e g = cc

step-by-handle : (s : State) (r : NodeRequest) (given : Given) (seat fh : ℕ) (handle : Handle) (o : Option Connection) → ((c : Connection) → o ≡ Some c → c.seat ≡ seat) → handle_of s.handles seat fh ≡ Some handle → goes_by fh r.op ≡ true →
    node_step s r given o ≡ step_by handle s r given o
step-by-handle s r given seat fh handle None f e g = refl
step-by-handle s r given seat fh handle (Some c) f e g =
    let t = all_told c.seat s in
    let has : handle_of s.handles c.seat fh ≡ Some handle = ap (λ (k : ℕ). handle_of s.handles k fh) (f c refl) ∙ e in
    ap (λ (w : Walk NodeVerdict). with_signals c.unsent (settled_on_node t c (node_given w given))) (by-handle (facts_of t c r.node) r r.op fh handle has g)

-- ---- what depends on no right

abbrev SameByRights : Reaching → NodeFacts → NodeRequest → NodeOp → Handle → Type 0
SameByRights reach f r op handle = node_walk (with_handle handle f) r op ≡ node_walk (record (with_handle handle f) { reach = reach }) r op

plain-file : (reach : Reaching) (f : NodeFacts) (r : NodeRequest) (op : NodeOp) (name : FileName) (node : ℕ) (document : DocId) (may_read may_write : Bool) → SameByRights reach f r op (Handle.File name node document false may_read may_write)
plain-file reach f r (NodeOp.Read fh offset size) name node document may_read may_write = refl
plain-file reach f r op name node document may_read may_write = refl

plain-walk : (reach : Reaching) (f : NodeFacts) (r : NodeRequest) (op : NodeOp) (handle : Handle) → is_of_strict handle ≡ false → SameByRights reach f r op handle
plain-walk reach f r op (Handle.File name node document strict may_read may_write) e =
    subst (λ (b : Bool). SameByRights reach f r op (Handle.File name node document b may_read may_write)) (sym e) (plain-file reach f r op name node document may_read may_write)
plain-walk reach f r (NodeOp.Read fh offset size) (Handle.Folder node names) e = refl
plain-walk reach f r op (Handle.Folder node names) e = refl

plain-step : (reach : Reaching) (s : State) (r : NodeRequest) (given : Given) (handle : Handle) (o : Option Connection) → is_of_strict handle ≡ false → step_by handle s r given o ≡ step_by_rights handle reach s r given o
plain-step reach s r given handle None e = refl
plain-step reach s r given handle (Some c) e =
    let t = all_told c.seat s in
    ap (λ (w : Walk NodeVerdict). with_signals c.unsent (settled_on_node t c (node_given w given))) (plain-walk reach (facts_of t c r.node) r r.op handle e)

-- ---- the law

pub kept : OlderHandlesKeepTheirRights
kept s before opening between later rest fh r l answered same asks by stays =
    let ahead = run s before in
    let legal = Legal-rest before (opening ∷ (between ++ later ∷ rest)) s l in
    let made = step-makes ahead legal.opening opening.seat opening.request opening.given fh legal.lawful.0.given answered in
    let now = run (after ahead opening) between in
    let then : Legal (after ahead opening) (between ++ later ∷ rest) = Legal-rest (opening ∷ []) (between ++ later ∷ rest) ahead legal in
    let last : Legal now (later ∷ rest) = Legal-rest between (later ∷ rest) (after ahead opening) then in
    let still = run-keeps opening.seat fh made.handle between (after ahead opening) (EachLawful-front between (later ∷ rest) (after ahead opening) legal.lawful.1) stays made.made in
    let told : step now later ≡ step_by made.handle now r later.given (mount_of (connection_of now.connections opening.seat)) =
    ap (λ (n : ℕ). request_step now n later.request later.given) same
    ∙ (ap (λ (q : Request). request_step now opening.seat q later.given) asks
    ∙ step-by-handle now r later.given opening.seat fh made.handle (mount_of (connection_of now.connections opening.seat)) (λ c m. (mount-seat now.connections opening.seat (connection_of now.connections opening.seat) refl c m).0) still by) in
    record {
      handle = made.handle;
      new = made.new;
      made = made.made;
      kept = still;
      mounted = found-mount now.handles now.connections opening.seat fh made.handle last.opening.handles_sound still;
      told = told;
      plain = λ e reach. told ∙ plain-step reach now r later.given made.handle (mount_of (connection_of now.connections opening.seat)) e;
    }
