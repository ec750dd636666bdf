-- A SETATTR on the file of a document, and on an open file.
use Rattle.std.proofs.Common.{◌≡◌, ℕ, List, Bool, true, false, not, nat_lt, ◌&&◌, ◌||◌, cond, refl, sym, ap, subst, ◌∙◌}
use Rattle.portal_base.specs.declared.files.FileName.{FileName}
use Rattle.portal_base.specs.declared.files.Look.{Look}
use Rattle.host_tree.specs.Trees.{TreeIs}
use Rattle.host_tree.specs.declared.tree.LookAnswer.{LookAnswer}
use Rattle.host_tree.specs.declared.tree.LookAnswer.TheVariants as look
use Rattle.portal_model.specs.declared.request.NodeRequest.{NodeRequest}
use Rattle.portal_model.specs.declared.state.Document.{Document}
use Rattle.portal_model.specs.declared.reply.NodeAnswer.TheVariants as NodeAnswer
use Rattle.portal_model.specs.declared.reply.Attr.{Attr}
use Rattle.portal_model.specs.Attributes.{attr_of_file, attr_of_folder, is_writable, on_node}
use Rattle.portal_model.specs.Errno.{eacces, ebadf, efbig, eisdir}
use Rattle.portal_model.specs.NodeVerdict.{HandleChange, HandlesStay, NodeVerdict, OnFile, Spot, at_name, by_look, errs_if, if_file, spot, told}
use Rattle.portal_model.specs.Place.{Folder}
use Rattle.portal_model.specs.Reach.{OpenFile, Reaching, may_write_now, reach_of, reaches}
use Rattle.portal_model.specs.SetAttr.{SetsAttr, resize, set_attr_at, set_attr_of_folder, set_attr_of_open, set_attr_open, sets_size}
use Rattle.portal_model.specs.Walk.{Walk}
use Rattle.app_view.specs.Opened.{IsAllowed}
use Rattle.app_view.specs.declared.opened.Allowed.{Allowed}
use Rattle.node_looks.specs.declared.served.NodeDone.{NodeDone}
use Rattle.file_ops.specs.Sets.{denial_of, generation_of, set_subject}
use Rattle.file_ops.specs.Tries.{Goes, GoesBehind, IsOfGeneration, done_of_ended}
use Rattle.file_ops.specs.declared.resized.Subject.{Subject}
use Rattle.file_ops.specs.declared.tried.Ended.{Ended}

-- the name of the file is told by the look
named-behind : (r : NodeRequest) (a : SetsAttr) (d : Document) (w : Bool) (look : LookAnswer) (old : TreeIs) (ended : Ended) (change : HandleChange) (new : TreeIs) →
    GoesBehind (if_file (set_subject r a (record { node = r.node; may_write = w; denial = eacces }) (record { path = d.path; generation = generation_of look }))) look old ended change new →
    GoesBehind (if_file (set_attr_at r a (spot d d.path w))) look old ended change new
named-behind r a d w (look.Is (Look.File generation size moment)) old ended change new h = h
named-behind r a d w (look.Is Look.Folder) old ended change new h = h
named-behind r a d w (look.Is Look.Missing) old ended change new h = h
named-behind r a d w look.Failed old ended change new h = h

pub placed-behind : (r : NodeRequest) (a : SetsAttr) (d : Document) (copy : List ℕ) (w : Bool) (look : LookAnswer) (generation : ℕ) (old : TreeIs) (ended : Ended) (change : HandleChange) (new : TreeIs) → copy ≡ d.path → generation ≡ generation_of look →
    GoesBehind (if_file (set_subject r a (record { node = r.node; may_write = w; denial = eacces }) (record { path = copy; generation = generation }))) look old ended change new →
    GoesBehind (if_file (set_attr_at r a (spot d d.path w))) look old ended change new
placed-behind r a d copy w look generation old ended change new e n h =
    named-behind r a d w look old ended change new
    (subst (λ (k : ℕ). GoesBehind (if_file (set_subject r a (record { node = r.node; may_write = w; denial = eacces }) (record { path = d.path; generation = k }))) look old ended change new) n
    (subst (λ (p : List ℕ). GoesBehind (if_file (set_subject r a (record { node = r.node; may_write = w; denial = eacces }) (record { path = p; generation = generation }))) look old ended change new) e h))

-- a temporary is looked at by its name, so a file that is shown is of its generation
pub temp-behind : (r : NodeRequest) (a : SetsAttr) (d : Document) (name : FileName) (w : Bool) (look : LookAnswer) (old : TreeIs) (ended : Ended) (change : HandleChange) (new : TreeIs) → IsOfGeneration name.generation look →
    GoesBehind (if_file (set_subject r a (record { node = r.node; may_write = w; denial = eacces }) name)) look old ended change new →
    GoesBehind (if_file (set_attr_at r a (spot d name.path w))) look old ended change new
temp-behind r a d name w (look.Is (Look.File generation size moment)) old ended change new i h =
    subst (λ (n : ℕ). Goes (set_attr_at r a (spot d name.path w) n size moment) old (done_of_ended ended) change new) (sym i) h
temp-behind r a d name w (look.Is Look.Folder) old ended change new i h = h
temp-behind r a d name w (look.Is Look.Missing) old ended change new i h = h
temp-behind r a d name w look.Failed old ended change new i h = h

-- ---- at and below a folder

below-named : (r : NodeRequest) (a : SetsAttr) (view : ℕ) (at : Spot) (look : LookAnswer) (old : TreeIs) (ended : Ended) (change : HandleChange) (new : TreeIs) →
    GoesBehind (by_look view at (λ x. set_subject r a (record { node = r.node; may_write = at.may_write; denial = eacces }) (record { path = at.path; generation = generation_of look })) (set_attr_of_folder r a)) look old ended change new →
    GoesBehind (by_look view at (set_attr_at r a) (set_attr_of_folder r a)) look old ended change new
below-named r a view at (look.Is (Look.File generation size moment)) old ended change new h = h
below-named r a view at (look.Is Look.Folder) old ended change new h = h
below-named r a view at (look.Is Look.Missing) old ended change new h = h
below-named r a view at look.Failed old ended change new h = h

pub below-behind : (r : NodeRequest) (a : SetsAttr) (view : ℕ) (at : Spot) (copy : List ℕ) (look : LookAnswer) (generation : ℕ) (old : TreeIs) (ended : Ended) (change : HandleChange) (new : TreeIs) → copy ≡ at.path → generation ≡ generation_of look →
    GoesBehind (by_look view at (λ x. set_subject r a (record { node = r.node; may_write = at.may_write; denial = eacces }) (record { path = copy; generation = generation })) (set_attr_of_folder r a)) look old ended change new →
    GoesBehind (by_look view at (set_attr_at r a) (set_attr_of_folder r a)) look old ended change new
below-behind r a view at copy look generation old ended change new e n h =
    below-named r a view at look old ended change new
    (subst (λ (k : ℕ). GoesBehind (by_look view at (λ x. set_subject r a (record { node = r.node; may_write = at.may_write; denial = eacces }) (record { path = at.path; generation = k })) (set_attr_of_folder r a)) look old ended change new) n
    (subst (λ (p : List ℕ). GoesBehind (by_look view at (λ x. set_subject r a (record { node = r.node; may_write = at.may_write; denial = eacces }) (record { path = p; generation = generation })) (set_attr_of_folder r a)) look old ended change new) e h))

pub folder-set : (r : NodeRequest) (a : SetsAttr) (attr : Attr) (may : Bool) (ended : Ended) (sets : Bool) → sets ≡ sets_size a.valid → sets ≡ false → attr ≡ attr_of_folder (on_node r r.node) may →
    ((t : TreeIs) → Goes (told (NodeAnswer.Attr attr)) t (done_of_ended ended) HandlesStay t) → (t : TreeIs) (f : Folder) → is_writable f ≡ may → Goes (set_attr_of_folder r a f) t (done_of_ended ended) HandlesStay t
folder-set r a attr may ended sets s e n g t f w =
    subst (λ (v : Walk NodeVerdict). Goes v t (done_of_ended ended) HandlesStay t)
    (ap (λ (x : Attr). told (NodeAnswer.Attr x)) (n ∙ ap (attr_of_folder r) (sym w))
    ∙ ap (λ (b : Bool). errs_if b eisdir (told (NodeAnswer.Attr (attr_of_folder r (is_writable f))))) (sym e ∙ s))
    (g t)

-- ---- an open file

module _ (r : NodeRequest) (a : SetsAttr) (file : OpenFile) (size moment : ℕ) where
  -- who may not write it is told whether it was opened to be written
  denied : (write more sets : Bool) → cond sets (errs_if (not (write && more)) (denial_of write) (errs_if (nat_lt a.limit a.size) efbig (resize r a file.name (write && more)))) (told (NodeAnswer.Attr (attr_of_file r (write && more) size moment)))
      ≡ errs_if (sets && not write) ebadf (cond sets (errs_if (not (write && more)) eacces (errs_if (nat_lt a.limit a.size) efbig (resize r a file.name (write && more)))) (told (NodeAnswer.Attr (attr_of_file r (write && more) size moment))))
  denied true more true = refl
  denied true more false = refl
  denied false more true = refl
  denied false more false = refl

set-open : (reach : Reaching) (r : NodeRequest) (a : SetsAttr) (file : OpenFile) (generation size moment : ℕ) →
    set_subject r a (record { node = file.node; may_write = may_write_now reach file; denial = denial_of file.write }) file.name generation size moment ≡ set_attr_of_open reach r a file generation size moment
set-open reach r a file generation size moment =
    denied (on_node r file.node) a file size moment file.write (reaches reach file && (not file.strict || (reach_of reach file).write)) (sets_size a.valid)

pub open-goes : (reach : Reaching) (r : NodeRequest) (a : SetsAttr) (file : OpenFile) (allowed : Allowed) (denial : ℕ) (old : TreeIs) (done : NodeDone) (new : TreeIs) → IsAllowed reach file allowed → denial ≡ denial_of file.write →
    Goes (errs_if (not allowed.reach) eacces (at_name file.name (set_subject r a (record { node = file.node; may_write = allowed.write; denial = denial }) file.name))) old done HandlesStay new → Goes (set_attr_open reach r a file) old done HandlesStay new
open-goes reach r a file allowed denial old done new i d g =
    subst (λ (w : Walk NodeVerdict). Goes w old done HandlesStay new) same g
  where
    subject : Bool → ℕ → Subject
    subject w n = record { node = file.node; may_write = w; denial = n }

    next : Subject → OnFile
    next s = set_subject r a s file.name

    opened : (generation size moment : ℕ) → next (subject (may_write_now reach file) (denial_of file.write)) generation size moment ≡ set_attr_of_open reach r a file generation size moment
    opened generation size moment = set-open reach r a file generation size moment

    same : errs_if (not allowed.reach) eacces (at_name file.name (next (subject allowed.write denial))) ≡ set_attr_open reach r a file
    same = λ j. errs_if (not (i.reach_is j)) eacces (at_name file.name ((ap (λ (w : Bool). next (subject w denial)) i.write_is ∙ (ap (λ (n : ℕ). next (subject (may_write_now reach file) n)) d ∙ (λ k generation size moment. opened generation size moment k))) j))
