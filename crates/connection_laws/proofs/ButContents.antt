-- What is told but for the contents of READs, and what these are: both together are all that is told.
use Rattle.std.proofs.Common.{◌≡◌, ℕ, ◌+◌, List, [], ◌∷◌, ◌++◌, map, length, length-append, Result, Ok, Err, refl, sym, ap, ◌∙◌, arith}
use Rattle.portal_model.specs.declared.reply.Answer.{Answer}
use Rattle.portal_model.specs.declared.reply.NodeAnswer.{NodeAnswer}
use Rattle.portal_model.specs.declared.reply.Refused.{Refused}
use Rattle.portal_model.specs.declared.reply.Reply.{Reply}
use Rattle.served_world.specs.Laws.{answer_but_content, but_content}
use Rattle.session.specs.Answers.{Denied, Made, Outcome, kept, told_as}
use Rattle.connection_laws.specs.Served.{refusals_in, replied}
use Rattle.connection_laws.specs.ServedBytes.{but_contents, content_of, contents_in}

-- what a client is told of a request, but for a content
abbrev pub told_but : Outcome → Result Reply Refused
told_but (Made x) = Ok (but_content x.reply)
told_but (Denied request why) = Err why

-- ---- by the replies and the refusals

-- whatever replies come behind
pub told-same-but : (os us : List Outcome) (more rest : List Reply) → refusals_in os ≡ refusals_in us → but_contents (replied (kept os)) ++ more ≡ but_contents (replied (kept us)) ++ rest → map told_but os ≡ map told_but us
told-same-but [] [] more rest r e = refl
told-same-but [] (u ∷ us) more rest r e = absurd (cc)
told-same-but (o ∷ os) [] more rest r e = absurd (cc)
told-same-but (Made x ∷ os) (Made y ∷ us) more rest r e =
    let behind : refusals_in os ≡ refusals_in us = cc in
    let one : but_content x.reply ≡ but_content y.reply = cc in
    let others : but_contents (replied (kept os)) ++ more ≡ but_contents (replied (kept us)) ++ rest = cc in
    λ i. Ok (one i) ∷ told-same-but os us more rest behind others i
told-same-but (Made x ∷ os) (Denied request why ∷ us) more rest r e = absurd (cc)
told-same-but (Denied request why ∷ os) (Made y ∷ us) more rest r e = absurd (cc)
told-same-but (Denied request why ∷ os) (Denied other how ∷ us) more rest r e =
    let one : why ≡ how = cc in
    let behind : refusals_in os ≡ refusals_in us = cc in
    λ i. Err (one i) ∷ told-same-but os us more rest behind e i

-- ---- contents put back

-- an answer with the first content in its place, and the other contents
abbrev content_first : List (List ℕ) → Answer × List (List ℕ)
content_first [] = (Answer.Node (NodeAnswer.Content []), [])
content_first (content ∷ more) = (Answer.Node (NodeAnswer.Content content), more)

abbrev node_filled : NodeAnswer → List (List ℕ) → Answer × List (List ℕ)
node_filled (NodeAnswer.Content none) contents = content_first contents
node_filled told contents = (Answer.Node told, contents)

abbrev filled : Answer → List (List ℕ) → Answer × List (List ℕ)
filled (Answer.Node told) contents = node_filled told contents
filled answer contents = (answer, contents)

node_back : (told : NodeAnswer) (more : List (List ℕ)) → filled (answer_but_content (Answer.Node told)) (content_of (Answer.Node told) ++ more) ≡ (Answer.Node told, more)
node_back (NodeAnswer.Content content) more = refl
node_back told more = refl

filled_back : (a : Answer) (more : List (List ℕ)) → filled (answer_but_content a) (content_of a ++ more) ≡ (a, more)
filled_back (Answer.Node told) more = node_back told more
filled_back a more = refl

abbrev all_filled : List (Result Reply Refused) → List (List ℕ) → List (Result Reply Refused)
all_filled [] contents = []
all_filled (Ok reply ∷ more) contents =
    Ok (record { signals = reply.signals; answer = (filled reply.answer contents).0 }) ∷ all_filled more (filled reply.answer contents).1
all_filled (Err why ∷ more) contents = Err why ∷ all_filled more contents

all_back : (os : List Outcome) → all_filled (map told_but os) (contents_in os) ≡ map told_as os
all_back [] = refl
all_back (Made x ∷ os) =
    (λ i. Ok (record { signals = x.reply.signals; answer = (filled_back x.reply.answer (contents_in os) i).0 }) ∷ all_filled (map told_but os) (filled_back x.reply.answer (contents_in os) i).1)
    ∙ ap (λ (z : List (Result Reply Refused)). Ok x.reply ∷ z) (all_back os)
all_back (Denied request why ∷ os) = ap (λ (z : List (Result Reply Refused)). Err why ∷ z) (all_back os)

-- told the same but for contents, with the same contents, is told the same
pub told-with-contents : (os us : List Outcome) → map told_but os ≡ map told_but us → contents_in os ≡ contents_in us → map told_as os ≡ map told_as us
told-with-contents os us e c = sym (all_back os) ∙ ((λ i. all_filled (e i) (c i)) ∙ all_back us)

-- ---- as many contents

abbrev how_many : Result Reply Refused → ℕ
how_many (Ok reply) = length (content_of reply.answer)
how_many (Err why) = 0

abbrev many_in : List (Result Reply Refused) → ℕ
many_in [] = 0
many_in (r ∷ rs) = how_many r + many_in rs

node_counted : (told : NodeAnswer) → length (content_of (Answer.Node told)) ≡ length (content_of (answer_but_content (Answer.Node told)))
node_counted (NodeAnswer.Content content) = refl
node_counted told = refl

counted : (a : Answer) → length (content_of a) ≡ length (content_of (answer_but_content a))
counted (Answer.Node told) = node_counted told
counted a = refl

all_counted : (os : List Outcome) → length (contents_in os) ≡ many_in (map told_but os)
all_counted [] = refl
all_counted (Made x ∷ os) = length-append (content_of x.reply.answer) (contents_in os) ∙ (λ i. counted x.reply.answer i + all_counted os i)
all_counted (Denied request why ∷ os) = let more = all_counted os in omega arith

none_there : (cs : List (List ℕ)) → length cs ≡ 0 → cs ≡ []
none_there [] e = refl
none_there (c ∷ cs) e = absurd (omega arith)

-- where the one shows none, the other shows none
pub none-shown : (os us : List Outcome) → map told_but os ≡ map told_but us → contents_in os ≡ [] → contents_in us ≡ []
none-shown os us e n = none_there (contents_in us) (all_counted us ∙ (ap many_in (sym e) ∙ (sym (all_counted os) ∙ ap length n)))
