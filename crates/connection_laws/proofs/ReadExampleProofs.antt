-- The worked example of a READ, by computation.
use Rattle.std.proofs.Common.{◌≡◌, ℕ, List, [], ◌∷◌, refl}
use Rattle.std.specs.Prelude.{codes}
use Rattle.portal_model.specs.declared.reply.NodeAnswer.{NodeAnswer}
use Rattle.portal_model.specs.Examples.{replied as one_reply}
use Rattle.portal_model.specs.FileExamples.{told}
use Rattle.served_world.specs.Examples.{asks_length, five_bytes, length_told, own_item, reads_it}
use Rattle.session.specs.Answers.{Made, Outcome}
use Rattle.session.specs.Frames.{frames_of}
use Rattle.connection_laws.specs.ReadExamples.{AreAnswered, IsSameFront, ReadsShowContents, TracesGoOn, asks, became, frame_with, said_with}
use Rattle.connection_laws.proofs.SaidAlike.{items-alike}

abbrev read_with : List ℕ → Outcome
read_with content = Made (record { entry = reads_it; reply = one_reply (told (NodeAnswer.Content content)) })

abbrev length_asked : Outcome
length_asked = Made (record { entry = asks_length; reply = one_reply (told length_told) })

answered : (content : List ℕ) → frame_with content ∷ [] ≡ frames_of 2 (NodeAnswer.Content content) → AreAnswered content
answered content e c = (
  read_with content ∷ [],
  length_asked ∷ [],
  frame_with content ∷ [],
  frames_of 3 length_told,
  0,
  refl,
  refl,
  record { asked = (read_with content, [], refl, refl, refl); said = e; serial_is = refl },
  (
    length_asked ∷ [],
    [],
    frames_of 3 length_told,
    [],
    0,
    refl,
    refl,
    record { asked = (length_asked, [], refl, refl, refl); said = refl; serial_is = refl },
    (refl, refl, refl),
  ),
)

hello_answered : AreAnswered (codes "hello")
hello_answered = answered (codes "hello") refl

other_answered : AreAnswered (codes "Hello")
other_answered = answered (codes "Hello") refl

pub shown : ReadsShowContents
shown = record {
  replies = refl;
  same = refl;
  answers = hello_answered;
  others = other_answered;
  contents = refl;
  alike = λ c.
      items-alike asks c 0 0 0 (became (codes "hello")) (became (codes "Hello")) (said_with (codes "hello")).pieces (said_with (codes "Hello")).pieces refl (hello_answered c) (other_answered c);
}

pub goes_on : TracesGoOn
goes_on = record {
  own = refl;
  others = refl;
  goes = (refl, (own_item asks_length.request five_bytes ∷ [], refl));
  by = refl;
}

pub front_is : IsSameFront 16
front_is = refl
