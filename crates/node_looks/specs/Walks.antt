-- What is answered to a request that changes nothing, told by its walk alone.
use Rattle.std.specs.Prelude.{◌≡◌, List, [], ◌∷◌, Bool, false, Option, Some, None}
use Rattle.host_tree.specs.Trees.{TreeIs}
use Rattle.host_tree.specs.declared.tree.AttrAnswer.{AttrAnswer}
use Rattle.host_tree.specs.declared.tree.AttrAnswer.TheVariants as attr
use Rattle.host_tree.specs.declared.tree.LookAnswer.{LookAnswer}
use Rattle.host_tree.specs.declared.tree.LookAnswer.TheVariants as look
use Rattle.portal_base.specs.declared.files.FileName.{FileName}
use Rattle.portal_base.specs.declared.files.Look.{Look}
use Rattle.portal_model.specs.declared.entry.Fault.{Fault}
use Rattle.portal_model.specs.declared.reply.Answer.{Answer}
use Rattle.portal_model.specs.declared.reply.Code.TheVariants as Code
use Rattle.portal_model.specs.declared.reply.NodeAnswer.{NodeAnswer}
use Rattle.portal_model.specs.declared.state.Connection.{Connection}
use Rattle.portal_model.specs.Bus.{is_tree}
use Rattle.portal_model.specs.Errno.{eacces, eio, enoent}
use Rattle.portal_model.specs.Node.{settled_on_node}
use Rattle.portal_model.specs.NodeVerdict.{NodeVerdict, FilesStay, HandlesStay, NamesStay, Errs, OnFile, Yields, errs_if, if_file, tells, told}
use Rattle.portal_model.specs.State.{State}
use Rattle.portal_model.specs.Walk.{Walk, Answers, Ends, Gives, GivesNames, Lists, Looks, Uses, generation_reached, reads_clock, walked}
use Rattle.node_looks.specs.TreeCalls.{Calling, calls_of}
use Rattle.node_looks.specs.declared.asked.Asked.{Asked}

-- ---- what the tree gave, where it was asked once at most

abbrev pub taken : Option LookAnswer → List Look
taken None = []
taken (Some (look.Is shown)) = shown ∷ []
taken (Some look.Failed) = []

abbrev pub fault_of : Option LookAnswer → Fault
fault_of None = Fault.None
fault_of (Some (look.Is shown)) = Fault.None
fault_of (Some look.Failed) = Fault.Tree

-- ---- what is answered

-- The walk is at its end, and comes to this answer, with which nothing changes.
abbrev pub ComesTo : Walk NodeVerdict → Answer → Type 0
ComesTo (Answers (Errs errno)) answer = answer ≡ Answer.Refused (Code.Errno errno)
ComesTo (Answers (Yields d)) answer =
    (d.file ≡ FilesStay) × (d.handle ≡ HandlesStay) × (answer ≡ Answer.Node d.answer)
    × (d.names ≡ NamesStay)
ComesTo (Looks target next) answer = ⊥
ComesTo (Ends call done missing) answer = ⊥
ComesTo (Lists path done missing) answer = ⊥

-- a look was answered so
abbrev pub ComesToLook : (Look → Walk NodeVerdict) → LookAnswer → Answer → Type 0
ComesToLook next (look.Is shown) answer = ComesTo (next shown) answer
ComesToLook next look.Failed answer = answer ≡ Answer.Refused (Code.Errno eio)

-- a look for a file was answered so
abbrev pub ComesToBehind : OnFile → LookAnswer → Answer → Type 0
ComesToBehind next looked answer = ComesToLook (if_file next) looked answer

-- what an open file's attributes show at its name
abbrev pub look_of_attr : FileName → AttrAnswer → LookAnswer
look_of_attr name (attr.Is size moment) = look.Is (Look.File name.generation size moment)
look_of_attr name attr.NotFile = look.Is Look.Missing
look_of_attr name attr.Failed = look.Failed

-- a file that is looked at, where more is asked of it than it allows or not
abbrev pub by_denial : Bool → OnFile
by_denial denied generation size moment = errs_if denied eacces (told NodeAnswer.Empty)

-- a call that needs an open file, and leaves it as it is
abbrev pub used : FileName → NodeAnswer → Walk NodeVerdict
used name answer = Ends (Uses name) (λ now. tells answer) (Errs enoent)

-- The tree gives what the walk looks at, what comes of it is this answer in every state, which
-- stays as it is, and just the calls of the walk were made.
pub record Follows (walk : Walk NodeVerdict) (old : TreeIs) (asked : Asked) (new : TreeIs)
    : Type 0 where
  pub gives : Gives old.told walk (taken asked.look) (is_tree (fault_of asked.look))
  pub lists :
      GivesNames old.told walk (taken asked.look) None (is_tree (fault_of asked.look))
  pub settles : (s : State) (c : Connection) →
      settled_on_node s c (walked walk 0 (taken asked.look) (is_tree (fault_of asked.look)))
      ≡ (s, asked.answer)
  pub clock : reads_clock walk (taken asked.look) ≡ false
  pub generation : generation_reached walk (taken asked.look) ≡ None
  pub calls :
      Calling old (calls_of walk (taken asked.look) (is_tree (fault_of asked.look))) old.told new
