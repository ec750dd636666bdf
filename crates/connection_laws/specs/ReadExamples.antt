-- A worked example of what a client is written over a tree that tells nothing: the editor's mount,
-- in the histories of the examples of `served_world`, reads five bytes at two portals that hold
-- others of its file, and asks for the length. What is expected is worked out by hand from struct
-- fuse_out_header in include/uapi/linux/fuse.h.
use Rattle.std.specs.Prelude.{◌≡◌, ℕ, suc, ◌==◌, List, [], ◌∷◌, codes, drop, length, take}
use Rattle.std.specs.Prelude.{if◌then◌else◌}
use Rattle.portal_model.specs.declared.reply.NodeAnswer.{NodeAnswer}
use Rattle.portal_model.specs.declared.request.NodeOp.{NodeOp}
use Rattle.portal_model.specs.Examples.{editor, replied as one_reply}
use Rattle.portal_model.specs.FileExamples.{a_node, request_on, told}
use Rattle.served_world.specs.Examples.{among, among_history, asks_length, five_bytes, length_told}
use Rattle.served_world.specs.Examples.{own_item, reads_it}
use Rattle.served_world.specs.ServedWorld.{ServedTrace, served_run, served_trace}
use Rattle.session.specs.declared.act.Act.{Act}
use Rattle.session.specs.declared.act.Act.TheVariants as act
use Rattle.session.specs.declared.act.Client.{Client}
use Rattle.session.specs.Answers.{Answers, Made, Outcome, kept}
use Rattle.session.specs.Frames.{frames_of}
use Rattle.connection_laws.specs.Served.{replied}
use Rattle.connection_laws.specs.ServedBytes.{ItemsAreAlike, Said, but_contents, contents_in}
use Rattle.connection_laws.specs.ServedBytes.{served_to}
use Rattle.connection_laws.specs.ServedSoFar.{ServedGoesOn}

-- what the two frames ask, which have the numbers 2 and 3
abbrev pub asks : List Act
asks =
    act.Node 2 (request_on a_node (NodeOp.Read 1 0 5))
    ∷ act.Node 3 (request_on a_node (NodeOp.GetAttr 0 0))
    ∷ []

-- what becomes of that where the READ shows this content
abbrev pub became : List ℕ → List Outcome
became content =
    Made (record { entry = reads_it; reply = one_reply (told (NodeAnswer.Content content)) })
    ∷ Made (record { entry = asks_length; reply = one_reply (told length_told) })
    ∷ []

-- the frame of a content of five bytes: len 21, error 0, unique 2
abbrev pub frame_with : List ℕ → List ℕ
frame_with content =
    21 ∷ 0 ∷ 0 ∷ 0 ∷ 0 ∷ 0 ∷ 0 ∷ 0 ∷ 2 ∷ 0 ∷ 0 ∷ 0 ∷ 0 ∷ 0 ∷ 0 ∷ 0 ∷ content

abbrev pub said_with : List ℕ → Said
said_with content = record {
  outcomes = became content;
  pieces = frame_with content ∷ frames_of 3 length_told;
}

abbrev pub AreAnswered : List ℕ → Type 0
AreAnswered content =
    (c : Client) → Answers c 0 asks (became content) (said_with content).pieces 0

-- The replies are those of the editor's own machine, which knows no content. What answers the READ
-- is its content's frame, and so another where another content is shown, and the GETATTR is
-- answered by the same.
pub record ReadsShowContents : Type 0 where
  pub replies :
      but_contents (replied (kept (became (codes "hello"))))
      ≡ drop 2 (served_run (served_trace editor among among_history))
  pub same :
      but_contents (replied (kept (became (codes "Hello"))))
      ≡ but_contents (replied (kept (became (codes "hello"))))
  pub answers : AreAnswered (codes "hello")
  pub others : AreAnswered (codes "Hello")
  pub contents : contents_in (became (codes "hello")) ≡ codes "hello" ∷ []
  pub alike :
      (c : Client) →
      ItemsAreAlike c 0 asks (said_with (codes "hello")) (said_with (codes "Hello"))

-- ---- up to a moment

-- the editor's trace up to its READ
abbrev pub up_to_the_read : ServedTrace
up_to_the_read = served_trace editor among (take 6 among_history)

-- It has the replies to Enter, to the OPEN and to the READ, and none to the seat of the other. The
-- whole trace goes on from it by the GETATTR.
pub record TracesGoOn : Type 0 where
  pub own : length (served_to 1 up_to_the_read) ≡ 3
  pub others : served_to 2 up_to_the_read ≡ []
  pub goes : ServedGoesOn (served_trace editor among among_history) up_to_the_read
  pub by : goes.1.0 ≡ own_item asks_length.request five_bytes ∷ []

-- ---- a part that code gives

-- how many bytes at the front of both are the same
abbrev pub same_front : List ℕ → List ℕ → ℕ
same_front (x ∷ xs) (y ∷ ys) = if x == y then suc (same_front xs ys) else 0
same_front xs ys = 0

-- so it is with the two frames of the READ
abbrev pub IsSameFront : ℕ → Type 0
IsSameFront many =
    same_front (frame_with (codes "hello")) (frame_with (codes "Hello")) ≡ many
