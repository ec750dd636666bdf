-- What is done by an open file of a strict document needs the rights that its application has then.
use Rattle.std.proofs.Common.{◌≡◌, ℕ, zero, suc, nat_lt, List, [], ◌∷◌, Bool, true, false, not, ◌&&◌, ◌||◌, cond, Option, Some, None, refl, sym, ap, subst, ◌∙◌}
use Rattle.portal_base.specs.declared.files.FileName.{FileName}
use Rattle.portal_base.specs.declared.files.ChildName.{ChildName}
use Rattle.portal_base.specs.declared.files.Look.{Look}
use Rattle.portal_base.specs.declared.names.doc_id.DocId.{DocId}
use Rattle.portal_base.specs.declared.who.Who.{Who}
use Rattle.portal_model.specs.declared.entry.Given.{Given}
use Rattle.portal_model.specs.declared.handle.Handle.{Handle}
use Rattle.portal_model.specs.declared.reply.NodeAnswer.TheVariants as NodeAnswer
use Rattle.portal_model.specs.declared.request.NodeOp.{NodeOp}
use Rattle.portal_model.specs.declared.request.NodeRequest.{NodeRequest}
use Rattle.portal_model.specs.declared.request.Request.{Request}
use Rattle.portal_model.specs.declared.rights.Right.TheVariants.{Read, Write}
use Rattle.portal_model.specs.declared.state.Connection.{Connection}
use Rattle.portal_model.specs.Attributes.{attr_of_file, on_node}
use Rattle.portal_model.specs.Bus.{is_tree, moment_given}
use Rattle.portal_model.specs.Errno.{eacces, ebadf, efbig, einval, eperm}
use Rattle.portal_model.specs.GetAttr.{get_attr_by_handle, get_attr_by_place, get_attr_open, names_handle, tells_file}
use Rattle.portal_model.specs.History.{made_by}
use Rattle.portal_model.specs.Node.{NodeFacts, facts_of, node_walk, settled_on_node}
use Rattle.portal_model.specs.NodeVerdict.{NodeVerdict, OnFile, OnHandle, at_name, by_file_handle, by_place, errs_if, told}
use Rattle.portal_model.specs.Place.{reach_at, reach_of_subject, subject_of, view_of_node}
use Rattle.portal_model.specs.Reach.{OpenFile, Reaching, may_read_now, may_write_now, open_file_of, reaches}
use Rattle.portal_model.specs.Read.{read_name, read_open}
use Rattle.portal_model.specs.SetAttr.{SetsAttr, resize, set_attr_at, set_attr_of, set_attr_of_folder, set_attr_of_open, set_attr_open, sets_by_handle, sets_owner_or_mode, sets_size}
use Rattle.portal_model.specs.State.{State, connection_of, handle_of, has}
use Rattle.portal_model.specs.Step.{all_told, mount_of, node_step, request_step}
use Rattle.portal_model.specs.Walk.{Walk, walked_with}
use Rattle.portal_model.specs.Write.{write_content, write_open}
use Rattle.app_world.specs.Touched.{is_done}
use Rattle.file_laws.specs.StrictHandles.{HasRightsFor, StrictHandlesFollowRevocations, changes_file, file_asked, strict_document}
use Rattle.file_laws.proofs.OpenRights.{who-app}
use Rattle.file_laws.proofs.SeatMounts.{mount-seat}

both-of : (a b : Bool) → (a && b) ≡ true → (a ≡ true) × (b ≡ true)
both-of true b h = (refl, h)
both-of false b h = cc

not-not : (b : Bool) → not b ≡ false → b ≡ true
not-not true e = refl
not-not false e = cc

-- ---- the rights that are looked at

module _ (app : List ℕ) (s : State) (number : ℕ) where
  in-view-read : (k : ℕ) → (reach_of_subject s number (subject_of s.applications (Who.App app) k)).read ≡ true → has s (Who.App app) number Read ≡ true
  in-view-read zero e = e
  in-view-read (suc k) e = cc

  in-view-write : (k : ℕ) → (reach_of_subject s number (subject_of s.applications (Who.App app) k)).write ≡ true → has s (Who.App app) number Write ≡ true
  in-view-write zero e = e
  in-view-write (suc k) e = cc

-- an open file of a strict document
record IsStrict (document : DocId) (file : OpenFile) : Type 0 where
  strict : file.strict ≡ true
  same : file.document ≡ document

module _ (reach : Reaching) (file : OpenFile) (strict : file.strict ≡ true) where
  by-reading : reaches reach file ≡ true → (reach file.node file.document.number).read ≡ true
  by-reading e = subst (λ (b : Bool). (not b || (reach file.node file.document.number).read) ≡ true) strict e

  by-writing : may_write_now reach file ≡ true → (reaches reach file ≡ true) × ((reach file.node file.document.number).write ≡ true)
  by-writing e =
      let may = both-of file.write (reaches reach file && (not file.strict || (reach file.node file.document.number).write)) e in
      let more = both-of (reaches reach file) (not file.strict || (reach file.node file.document.number).write) may.1 in
      (more.0, subst (λ (b : Bool). (not b || (reach file.node file.document.number).write) ≡ true) strict more.1)

-- ---- walks that are done

module _ (s : State) (c : Connection) (now : ℕ) (listed : Option (List ChildName)) (failed : Bool) where
  -- with these looks it is done
  abbrev Done : Walk NodeVerdict → List Look → Type 0
  Done w looks = is_done (settled_on_node s c (walked_with w now listed looks failed)).1 ≡ true

  passed : (b : Bool) (errno : ℕ) (w : Walk NodeVerdict) (looks : List Look) → Done (errs_if b errno w) looks → (b ≡ false) × Done w looks
  passed true errno w looks h = cc
  passed false errno w looks h = (refl, h)

  looked : {X : Type 0} (name : FileName) (next : OnFile) (looks : List Look) → Done (at_name name next) looks → ((generation size moment : ℕ) (more : List Look) → Done (next generation size moment) more → X) → X
  looked name next [] h k = cc
  looked name next (Look.File generation size moment ∷ more) h k = k generation size moment more h
  looked name next (Look.Folder ∷ more) h k = cc
  looked name next (Look.Missing ∷ more) h k = cc

  opened : {X : Type 0} (document : DocId) (handle : Option Handle) (next : OnHandle) (looks : List Look) → strict_document handle ≡ Some document → Done (by_file_handle handle next) looks →
      ((file : OpenFile) → IsStrict document file → Done (next file) looks → X) → X
  opened document None next looks e h k = cc
  opened document (Some (Handle.File name node d true read write)) next looks e h k = k (open_file_of name node d true read write) (record { strict = refl; same = cc }) h
  opened document (Some (Handle.File name node d false read write)) next looks e h k = cc
  opened document (Some (Handle.Folder node names)) next looks e h k = cc

  module _ (reach : Reaching) (document : DocId) where
    -- what a done request shows of its open file
    record Reached (writes : Bool) : Type 0 where
      node : ℕ
      read : (reach node document.number).read ≡ true
      write : writes ≡ true → (reach node document.number).write ≡ true

    reached : (writes : Bool) (file : OpenFile) → IsStrict document file → reaches reach file ≡ true → (writes ≡ true → may_write_now reach file ≡ true) → Reached writes
    reached writes file i r w = record {
      node = file.node;
      read = ap (λ (d : DocId). (reach file.node d.number).read) (sym i.same) ∙ by-reading reach file i.strict r;
      write = λ e. ap (λ (d : DocId). (reach file.node d.number).write) (sym i.same) ∙ (by-writing reach file i.strict (w e)).1;
    }

    read-reached : (bytes : FileName → List ℕ) (offset size : ℕ) (file : OpenFile) (looks : List Look) → IsStrict document file → Done (read_open reach bytes offset size file) looks → Reached false
    read-reached bytes offset size file looks i h =
        let first = passed (not file.read) ebadf (errs_if (not (may_read_now reach file)) eacces (read_name bytes offset size file.name)) looks h in
        let second = passed (not (may_read_now reach file)) eacces (read_name bytes offset size file.name) looks first.1 in
        reached false file i (both-of file.read (reaches reach file) (not-not (may_read_now reach file) second.0)).1 (λ e. cc)

    write-reached : (limit offset : ℕ) (content : List ℕ) (file : OpenFile) (looks : List Look) → IsStrict document file → Done (write_open reach limit offset content file) looks → Reached true
    write-reached limit offset content file looks i h =
        let first = passed (not file.write) ebadf (errs_if (not (may_write_now reach file)) eacces (write_content limit file.name offset content)) looks h in
        let second = passed (not (may_write_now reach file)) eacces (write_content limit file.name offset content) looks first.1 in
        let may : may_write_now reach file ≡ true = not-not (may_write_now reach file) second.0 in
        reached true file i (by-writing reach file i.strict may).0 (λ e. may)

    attr-reached : (r : NodeRequest) (file : OpenFile) (looks : List Look) → IsStrict document file → Done (get_attr_open reach r file) looks → Reached false
    attr-reached r file looks i h =
        let first = passed (not (reaches reach file)) eacces (at_name file.name (tells_file (on_node r file.node) (may_write_now reach file))) looks h in
        reached false file i (not-not (reaches reach file) first.0) (λ e. cc)

    sized : (r : NodeRequest) (a : SetsAttr) (name : FileName) (may : Bool) (size moment : ℕ) (looks : List Look) → Done (set_attr_of r a name may size moment) looks → sets_size a.valid ≡ true → may ≡ true
    sized r a name may size moment looks h e = by-size (sets_size a.valid) h e
      where
        sets : Walk NodeVerdict
        sets = errs_if (nat_lt a.limit a.size) efbig (resize r a name may)

        by-size : (b : Bool) → Done (cond b (errs_if (not may) eacces sets) (told (NodeAnswer.Attr (attr_of_file r may size moment)))) looks → b ≡ true → may ≡ true
        by-size true k f = not-not may (passed (not may) eacces sets looks k).0
        by-size false k f = cc

    size-reached : (r : NodeRequest) (a : SetsAttr) (file : OpenFile) (looks : List Look) → IsStrict document file → Done (set_attr_open reach r a file) looks → Reached (sets_size a.valid)
    size-reached r a file looks i h =
        let first = passed (not (reaches reach file)) eacces (at_name file.name (set_attr_of_open reach r a file)) looks h in
        reached (sets_size a.valid) file i (not-not (reaches reach file) first.0) (λ e.
        looked file.name (set_attr_of_open reach r a file) looks first.1 (λ g size moment more d.
        sized (on_node r file.node) a file.name (may_write_now reach file) size moment more
        (passed (sets_size a.valid && not file.write) ebadf (set_attr_of (on_node r file.node) a file.name (may_write_now reach file) size moment) more d).1 e))

  op-reached : (f : NodeFacts) (r : NodeRequest) (op : NodeOp) (fh : ℕ) (document : DocId) (looks : List Look) → file_asked op ≡ Some fh → strict_document (f.handle fh) ≡ Some document → Done (node_walk f r op) looks → Reached f.reach document (changes_file op)
  op-reached f r (NodeOp.Read n offset size) fh document looks e i h =
      let same : n ≡ fh = cc in
      let first = passed _ einval (by_file_handle (f.handle n) (read_open f.reach f.bytes offset size)) looks h in
      opened document (f.handle n) (read_open f.reach f.bytes offset size) looks (ap (λ (m : ℕ). strict_document (f.handle m)) same ∙ i) first.1 (λ file i d. read-reached f.reach document f.bytes offset size file looks i d)
  op-reached f r (NodeOp.Write n offset content) fh document looks e i h =
      let same : n ≡ fh = cc in
      let first = passed _ einval (by_file_handle (f.handle n) (write_open f.reach f.file_limit offset content)) looks h in
      opened document (f.handle n) (write_open f.reach f.file_limit offset content) looks (ap (λ (m : ℕ). strict_document (f.handle m)) same ∙ i) first.1 (λ file i d. write-reached f.reach document f.file_limit offset content file looks i d)
  op-reached f r (NodeOp.GetAttr flags n) fh document looks e i h = by-flag (names_handle flags) e h
    where
      by-open : (handle : Option Handle) → strict_document handle ≡ Some document → Done (get_attr_by_handle f.reach r f.sight handle) looks → Reached f.reach document false
      by-open None j d = cc
      by-open (Some (Handle.File name node number true may_read may_write)) j d = attr-reached f.reach document r (open_file_of name node number true may_read may_write) looks (record { strict = refl; same = cc }) d
      by-open (Some (Handle.File name node number false may_read may_write)) j d = cc
      by-open (Some (Handle.Folder node names)) j d = cc

      by-flag : (b : Bool) → cond b (Some n) None ≡ Some fh → Done (cond b (get_attr_by_handle f.reach r f.sight (f.handle n)) (get_attr_by_place r f.sight)) looks → Reached f.reach document false
      by-flag true k d = let same : n ≡ fh = cc in by-open (f.handle n) (ap (λ (m : ℕ). strict_document (f.handle m)) same ∙ i) d
      by-flag false k d = cc
  op-reached f r (NodeOp.SetAttr valid n size) fh document looks e i h =
      let a : SetsAttr = record { valid = valid; size = size; limit = f.file_limit } in
      let first = passed (sets_owner_or_mode valid) eperm (cond (sets_by_handle valid) (by_file_handle (f.handle n) (set_attr_open f.reach r a)) (by_place f.sight (set_attr_at r a) (set_attr_of_folder r a))) looks h in
      by-flag a (sets_by_handle valid) e first.1
    where
      by-flag : (a : SetsAttr) (b : Bool) → cond b (Some n) None ≡ Some fh → Done (cond b (by_file_handle (f.handle n) (set_attr_open f.reach r a)) (by_place f.sight (set_attr_at r a) (set_attr_of_folder r a))) looks → Reached f.reach document (sets_size a.valid)
      by-flag a true k d =
          let same : n ≡ fh = cc in
          opened document (f.handle n) (set_attr_open f.reach r a) looks (ap (λ (m : ℕ). strict_document (f.handle m)) same ∙ i) d (λ file i d. size-reached f.reach document r a file looks i d)
      by-flag a false k d = cc
  op-reached f r op fh document looks e i h = cc

-- ---- the law

module _ (app : List ℕ) (s : State) (r : NodeRequest) (fh : ℕ) (document : DocId) (by : file_asked r.op ≡ Some fh) where
  mount-has : (n : ℕ) (given : Given) (o : Option Connection) → ((c : Connection) → o ≡ Some c → (c.seat ≡ n) × (c.who ≡ Who.App app)) → strict_document (handle_of s.handles n fh) ≡ Some document → is_done (node_step s r given o).1.answer ≡ true → HasRightsFor app document r.op s
  mount-has n given None f i done = cc
  mount-has n given (Some c) f i done =
      let t = all_told c.seat s in
      let who : c.who ≡ Who.App app = (f c refl).1 in
      let strict : strict_document (handle_of s.handles c.seat fh) ≡ Some document = ap (λ (m : ℕ). strict_document (handle_of s.handles m fh)) (f c refl).0 ∙ i in
      let made = op-reached t c (moment_given given.now) given.listed (is_tree given.fault) (facts_of t c r.node) r r.op fh document given.looks by strict done in
      record {
        read = in-view-read app s document.number (view_of_node made.node) (ap (λ (w : Who). (reach_at s w made.node document.number).read) (sym who) ∙ made.read);
        write = λ e. in-view-write app s document.number (view_of_node made.node) (ap (λ (w : Who). (reach_at s w made.node document.number).write) (sym who) ∙ made.write e);
      }

  step-has : (n : ℕ) (request : Request) (given : Given) → request ≡ Request.Node r → made_by app (connection_of s.connections n) request ≡ true → strict_document (handle_of s.handles n fh) ≡ Some document → is_done (request_step s n request given).1.answer ≡ true → HasRightsFor app document r.op s
  step-has n request given asked own i done =
      mount-has n given (mount_of (connection_of s.connections n))
      (λ c m.
      let here = mount-seat s.connections n (connection_of s.connections n) refl c m in
      (here.0, who-app app c.who (ap (λ (x : Option Connection). made_by app x (Request.Node r)) (sym here.1) ∙ (ap (made_by app (connection_of s.connections n)) (sym asked) ∙ own)))) i
      (ap (λ (q : Request). is_done (request_step s n q given).1.answer) (sym asked) ∙ done)

pub strict-follow : StrictHandlesFollowRevocations
strict-follow app r fh document s e a = step-has app s r fh document a.by e.seat e.request e.given a.asked a.own a.strict a.done
