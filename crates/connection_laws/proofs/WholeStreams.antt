-- Two connections of one application that have one trace, and were served one whole stream, are written the same.
use Rattle.std.proofs.Common.{◌≡◌, ℕ, ◌<◌, List, length, sym, ap, ◌∙◌, arith}
use Rattle.portal_base.specs.Outside.{last_count, onto}
use Rattle.portal_model.specs.Seated.{rises_by}
use Rattle.session.specs.declared.act.Act.{Act}
use Rattle.session.specs.declared.act.Client.{Client}
use Rattle.session.specs.declared.served.Stop.{Stop}
use Rattle.session.specs.Answers.{denied}
use Rattle.session.specs.Asked.{requests_of}
use Rattle.session.specs.Connections.{Whole, between}
use Rattle.session.specs.Cuts.{first_phase}
use Rattle.session.specs.Laws.{StandsStill}
use Rattle.session.specs.Ledger.{World}
use Rattle.session.proofs.AnswersAsked.{answer_asked}
use Rattle.session.proofs.ItemsAreOne.{are_one}
use Rattle.connection_laws.specs.Served.{ConnectionsAreIsolated, refusals_in}
use Rattle.connection_laws.proofs.Bytes.{bytes-are}
use Rattle.connection_laws.proofs.OneEnding.{ending_of, ends-as-stream}
use Rattle.connection_laws.proofs.Told.{as-many, between-denied, none-refused}

-- where the count of refusals stands still, no item's request is refused
stands : (old new more : ℕ) → new ≡ rises_by old more → new ≡ old → old < last_count → more ≡ 0
stands old new more e k l = omega arith

none_denied : (c : Client) (read left : List ℕ) (what : Stop) (v w : World) (i : Whole c read left what v w) → StandsStill v.seated.refusals w.seated.refusals → denied i.all.outcomes ≡ 0
none_denied c read left what v w i k =
    sym (between-denied i.asked.entered i.asked.leaving i.all.outcomes)
    ∙ stands v.seated.refusals w.seated.refusals (denied (between i.asked.entered i.all.outcomes i.asked.leaving)) i.asked.grows.desk.refusals k.0 k.1

outcomes_many : (c : Client) (read left : List ℕ) (what : Stop) (v w : World) (i : Whole c read left what v w) → length i.all.outcomes ≡ length (requests_of i.all.acts)
outcomes_many c read left what v w i =
    as-many (requests_of i.all.acts) i.all.outcomes (answer_asked.items c 0 i.all.last i.all.acts i.all.outcomes i.all.pieces i.all.answers)

-- where of both no request is refused, the same are
pub unrefused-alike : (c : Client) (read left rest : List ℕ) (what why : Stop) (v w v' w' : World) (i : Whole c read left what v w) (j : Whole c read rest why v' w') → j.all.acts ≡ i.all.acts
    → StandsStill v.seated.refusals w.seated.refusals → StandsStill v'.seated.refusals w'.seated.refusals → refusals_in j.all.outcomes ≡ refusals_in i.all.outcomes
unrefused-alike c read left rest what why v w v' w' i j acts k l =
    none-refused j.all.outcomes i.all.outcomes (none_denied c read rest why v' w' j l) (none_denied c read left what v w i k)
    (outcomes_many c read rest why v' w' j ∙ (ap (λ (acts : List Act). length (requests_of acts)) acts ∙ sym (outcomes_many c read left what v w i)))

pub connections-are : ConnectionsAreIsolated
connections-are app c x y stream one k l =
    let i = ends-as-stream c x stream k in
    let j = ends-as-stream c y stream l in
    let cuts = are_one c (first_phase c.kind) stream j.whole.all.items i.whole.all.items j.whole.all.acts i.whole.all.acts j.left i.left j.what i.what j.whole.cut i.whole.cut in
    let same_end : ending_of stream j.left j.what ≡ ending_of stream i.left i.what = λ n. ending_of stream (cuts.2 n) (cuts.3 n) in
    let refused : refusals_in j.whole.all.outcomes ≡ refusals_in i.whole.all.outcomes =
    unrefused-alike c stream i.left j.left i.what j.what x.before x.after y.before y.after i.whole j.whole cuts.1 k.unrefused l.unrefused in
    let pieces : j.whole.all.pieces ≡ i.whole.all.pieces = bytes-are app c x y stream i.left j.left i.what j.what i.whole j.whole one refused in
    (j.ending ∙ (same_end ∙ sym i.ending), (i.whole.all.pieces, i.whole.asked.grows.told, j.whole.asked.grows.told ∙ ap (onto y.before.told) pieces))
