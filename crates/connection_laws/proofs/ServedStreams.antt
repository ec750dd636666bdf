-- Two connections of one application that have one trace, over any trees, and were served one stream, are served alike.
use Rattle.std.proofs.Common.{◌≡◌, ℕ, List, sym, ap, ◌∙◌, subst}
use Rattle.portal_base.specs.Outside.{onto}
use Rattle.session.specs.declared.act.Client.{Client}
use Rattle.session.specs.declared.served.Stop.{Stop}
use Rattle.session.specs.Connections.{Whole}
use Rattle.session.specs.Cuts.{first_phase}
use Rattle.session.specs.Laws.{StandsStill}
use Rattle.session.proofs.ItemsAreOne.{are_one}
use Rattle.connection_laws.specs.Served.{Service, refusals_in}
use Rattle.connection_laws.specs.ServedBytes.{AreAnsweredAlike, AreServedAlike, AreWritten, HaveOneServedTrace, ServedConnectionsAreIsolated}
use Rattle.connection_laws.proofs.Bytes.{acts-are}
use Rattle.connection_laws.proofs.OneEnding.{Ends, ending_of, ends-as-read, ends-as-stream}
use Rattle.connection_laws.proofs.ServedBytes.{served-bytes}
use Rattle.connection_laws.proofs.WholeStreams.{unrefused-alike}

module _ (app : List ℕ) (c : Client) (x y : Service c) (stream : List ℕ) (one : HaveOneServedTrace app c x y) (k : Ends c x.ended stream x.before x.after) (l : Ends c y.ended stream y.before y.after) where
  same_left : l.left ≡ k.left
  same_left = (are_one c (first_phase c.kind) stream l.whole.all.items k.whole.all.items l.whole.all.acts k.whole.all.acts l.left k.left l.what k.what l.whole.cut k.whole.cut).2

  same_what : l.what ≡ k.what
  same_what = (are_one c (first_phase c.kind) stream l.whole.all.items k.whole.all.items l.whole.all.acts k.whole.all.acts l.left k.left l.what k.what l.whole.cut k.whole.cut).3

  -- of both the same stands behind the items
  second_whole : Whole c stream k.left k.what y.before y.after
  second_whole =
      subst (λ (left : List ℕ). Whole c stream left k.what y.before y.after) same_left
      (subst (λ (what : Stop). Whole c stream l.left what y.before y.after) same_what l.whole)

  same_end : y.ended ≡ x.ended
  same_end = l.ending ∙ ((λ i. ending_of stream (same_left i) (same_what i)) ∙ sym k.ending)

  written : second_whole.all.pieces ≡ k.whole.all.pieces → AreWritten c x y k.whole.all.pieces
  written e = (k.whole.asked.grows.told, second_whole.asked.grows.told ∙ ap (onto y.before.told) e)

  module _ (still : StandsStill x.before.seated.refusals x.after.seated.refusals) (others : StandsStill y.before.seated.refusals y.after.seated.refusals) where
    same_refused : refusals_in second_whole.all.outcomes ≡ refusals_in k.whole.all.outcomes
    same_refused =
        unrefused-alike c stream k.left k.left k.what k.what x.before x.after y.before y.after k.whole second_whole
        (acts-are app c x y stream k.left k.left k.what k.what k.whole second_whole) still others

    both_alike : AreAnsweredAlike c k.whole.all second_whole.all
    both_alike = served-bytes app c x y stream k.left k.left k.what k.what k.whole second_whole one same_refused

    pub served-alike : AreServedAlike c x y stream
    served-alike = record {
      ended = same_end;
      left = k.left;
      what = k.what;
      first = k.whole;
      second = second_whole;
      alike = both_alike;
      bus = λ e. written (both_alike.bus e);
      shown = λ e. written (both_alike.shown e);
    }

pub served-isolated : ServedConnectionsAreIsolated
served-isolated = record {
  stream = λ app c x y stream one k l.
      served-alike app c x y stream one (ends-as-stream c x stream k) (ends-as-stream c y stream l) k.unrefused l.unrefused;
  read = λ app c x y read one k l.
      served-alike app c x y read one (ends-as-read c x read k) (ends-as-read c y read l) k.unrefused l.unrefused;
}
