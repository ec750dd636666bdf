-- The worked examples of what streams ask, by computation.
use Rattle.std.proofs.Common.{[], ◌∷◌, take, refl}
use Rattle.session.specs.declared.served.Stop.TheVariants as stop
use Rattle.session.specs.Asked.{frame_act}
use Rattle.cost_laws.specs.StreamExamples.{IsCostOfOneFrame, IsCostOfSilence, getattr_frame}

pub cost-of-silence : IsCostOfSilence 128
cost-of-silence settings = record {
  items = [];
  acts = [];
  left = [];
  what = stop.More;
  cut = record { bytes = refl; each = refl; remains = refl };
  total_is = refl;
}

pub cost-of-one-frame : IsCostOfOneFrame 262
cost-of-one-frame settings = record {
  items = getattr_frame ∷ [];
  acts = frame_act getattr_frame ∷ [];
  left = take 50 getattr_frame;
  what = stop.More;
  cut = record {
    bytes = refl;
    each = (frame_act getattr_frame, [], refl, (refl, refl), refl);
    remains = refl;
  };
  total_is = refl;
}
