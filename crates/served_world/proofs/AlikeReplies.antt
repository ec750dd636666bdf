-- Replies that are alike, one through another, and lists of them.
use Rattle.std.proofs.Common.{◌≡◌, ℕ, List, [], ◌∷◌, Bool, true, false, refl, sym, ap, subst, ◌∙◌, map}
use Rattle.portal_model.specs.declared.reply.Answer.{Answer}
use Rattle.portal_model.specs.declared.reply.NodeAnswer.{NodeAnswer}
use Rattle.portal_model.specs.declared.reply.Reply.{Reply}
use Rattle.portal_model.specs.declared.request.NodeOp.{NodeOp}
use Rattle.portal_model.specs.declared.request.Request.{Request}
use Rattle.portal_model.specs.Alike.{Alike, AnswersAlike, NodeAlike, ReadsAlike, TellsAlike}
use Rattle.served_world.specs.Laws.{AreAlike, answer_but_content, but_content}

-- ---- one reply

tells-through : (size : ℕ) (x : NodeAnswer) (r g : Answer) → TellsAlike size x r → ReadsAlike size r g → TellsAlike size x g
tells-through size (NodeAnswer.Content found) r g h k = subst (λ (a : Answer). ReadsAlike size a g) h.1 k
tells-through size x r g h k = subst (λ (a : Answer). ReadsAlike size a g) h k

reads-through : (size : ℕ) (m r g : Answer) → ReadsAlike size m r → ReadsAlike size r g → ReadsAlike size m g
reads-through size (Answer.Node x) r g h k = tells-through size x r g h k
reads-through size m r g h k = subst (λ (a : Answer). ReadsAlike size a g) h k

node-through : (op : NodeOp) (m r g : Answer) → NodeAlike op m r → NodeAlike op r g → NodeAlike op m g
node-through (NodeOp.Read fh offset size) m r g h k = reads-through size m r g h k
node-through op m r g h k = k ∙ h

answers-through : (request : Request) (m r g : Answer) → AnswersAlike request m r → AnswersAlike request r g → AnswersAlike request m g
answers-through (Request.Node r) m a g h k = node-through r.op m a g h k
answers-through request m r g h k = k ∙ h

pub reply-through : (told : Bool) (request : Request) (m r g : Reply) → Alike false request m r → Alike told request r g → Alike false request m g
reply-through true request m r g h k = subst (λ (x : Reply). Alike false request m x) (sym k) h
reply-through false request m r g h k = (k.0 ∙ h.0, answers-through request m.answer r.answer g.answer h.1 k.1)

-- ---- lists

-- what is given where the steps reply so, where these are alike to the machine's
pub all-through : (told : Bool) (qs : List Request) (ms rs gs : List Reply) → AreAlike false qs ms rs → AreAlike told qs rs gs → AreAlike false qs ms gs
all-through told [] [] [] [] h k = tt
all-through told [] [] [] (g ∷ gs) h k = absurd k
all-through told [] [] (r ∷ rs) gs h k = absurd h
all-through told [] (m ∷ ms) rs gs h k = absurd h
all-through told (q ∷ qs) [] rs gs h k = absurd h
all-through told (q ∷ qs) (m ∷ ms) [] gs h k = absurd h
all-through told (q ∷ qs) (m ∷ ms) (r ∷ rs) [] h k = absurd k
all-through told (q ∷ qs) (m ∷ ms) (r ∷ rs) (g ∷ gs) h k = (reply-through told q m r g h.0 k.0, all-through told qs ms rs gs h.1 k.1)

-- ---- but for contents

tells-but : (size : ℕ) (x : NodeAnswer) (g : Answer) → TellsAlike size x g → answer_but_content g ≡ answer_but_content (Answer.Node x)
tells-but size (NodeAnswer.Content found) g h = ap answer_but_content h.1
tells-but size x g h = ap answer_but_content h

reads-but : (size : ℕ) (m g : Answer) → ReadsAlike size m g → answer_but_content g ≡ answer_but_content m
reads-but size (Answer.Node x) g h = tells-but size x g h
reads-but size m g h = ap answer_but_content h

node-but : (op : NodeOp) (m g : Answer) → NodeAlike op m g → answer_but_content g ≡ answer_but_content m
node-but (NodeOp.Read fh offset size) m g h = reads-but size m g h
node-but op m g h = ap answer_but_content h

answers-but : (request : Request) (m g : Answer) → AnswersAlike request m g → answer_but_content g ≡ answer_but_content m
answers-but (Request.Node r) m g h = node-but r.op m g h
answers-but request m g h = ap answer_but_content h

reply-but : (request : Request) (m g : Reply) → Alike false request m g → but_content g ≡ but_content m
reply-but request m g h = λ i. record { signals = h.0 i; answer = answers-but request m.answer g.answer h.1 i }

pub all-but : (qs : List Request) (ms gs : List Reply) → AreAlike false qs ms gs → map but_content gs ≡ map but_content ms
all-but [] [] [] h = refl
all-but [] [] (g ∷ gs) h = absurd h
all-but [] (m ∷ ms) gs h = absurd h
all-but (q ∷ qs) [] gs h = absurd h
all-but (q ∷ qs) (m ∷ ms) [] h = absurd h
all-but (q ∷ qs) (m ∷ ms) (g ∷ gs) h = λ i. reply-but q m g h.0 i ∷ all-but qs ms gs h.1 i
