-- A run over bytes, one item further.
use Rattle.std.proofs.Common.{◌≡◌, inl, inr, ℕ, ◌+◌, List, ◌++◌, take, drop, None, Ok, sym, ap, ◌∙◌, subst, take-add}
use Rattle.std.proofs.lemmas.List.{take-append-drop}
use Rattle.session.specs.declared.act.Act.{Act}
use Rattle.session.specs.declared.act.Client.{Client}
use Rattle.session.specs.declared.phase.Phase.{Phase}
use Rattle.session.specs.declared.serve.Stage.{Stage}
use Rattle.session.specs.declared.served.Stop.{Stop}
use Rattle.session.specs.declared.served.Stop.TheVariants as stop
use Rattle.session.specs.Asked.{Means}
use Rattle.session.specs.Cuts.{Cuts, no_item, whole_item}
use Rattle.session.specs.Items.{Remains}
use Rattle.session.specs.Lacks.{MayLack}
use Rattle.session.specs.Ledger.{Began, Broke, BrokeUnsaid, Declines, Did, Halted, ItemEnds, Unsaid, World}
use Rattle.session.proofs.NextCut.{whole_alone}
use Rattle.session.proofs.DidItems.{did_on, did_one}

-- ---- what is cut in an item's place

-- what is cut in an item's place is what stands behind the items
pub remains_cut : (c : Client) (p : Phase) (b : List ℕ) (what : Stop) → Cuts p b (no_item what) → Remains c p b what
remains_cut c p b stop.More h = h
remains_cut c p b (stop.Bad rule) h = inl h
remains_cut c p b stop.TooLong h = h

-- an item that asks nothing is what stands behind the items
pub declined : (c : Client) (p : Phase) (b : List ℕ) (n : ℕ) (what : Stop) → Cuts p b (whole_item n) → Declines c p (take n b) what → Remains c p b what
declined c p b n stop.More is h = absurd h
declined c p b n (stop.Bad rule) is h = inr (n, is, h)
declined c p b n stop.TooLong is h = absurd h

module _ (c : Client) (s t : Stage) (v m w : World) (bytes : List ℕ) (used n : ℕ) (did : Did c s v (take used bytes) t m) (is : Cuts t.phase (drop used bytes) (whole_item n)) where
  item : List ℕ
  item = take n (drop used bytes)

  -- one item further
  pub stepped : (x : Stage) → ItemEnds c (Ok None) t m (take n (drop used bytes)) x w → Did c s v (take (used + n) bytes) x w
  stepped x (act, means, phase, ends) =
      let one = did_one c t x m w (take n (drop used bytes)) act ends.0 ends.1 (whole_alone t.phase (drop used bytes) n is, means) phase ends.2 ends.3 ends.4 in
      subst (λ (b : List ℕ). Did c s v b x w) (sym (take-add used n bytes)) (did_on c s t x v m w (take used bytes) (take n (drop used bytes)) did one)

  cut_bytes : bytes ≡ take used bytes ++ (take n (drop used bytes) ++ drop n (drop used bytes))
  cut_bytes = sym (ap (λ (z : List ℕ). take used bytes ++ z) (take-append-drop n (drop used bytes)) ∙ take-append-drop used bytes)

  -- an item in part
  pub broke : (act : Act) → Means c t.phase (take n (drop used bytes)) (Ok act) → Halted c act t.serial m w → Broke c s v bytes w
  broke act means halted = record {
    front = take used bytes;
    item = take n (drop used bytes);
    after = drop n (drop used bytes);
    mid = t;
    then = m;
    act = act;
    bytes_are = cut_bytes;
    did = did;
    is_item = (whole_alone t.phase (drop used bytes) n is, means);
    halted = halted;
  }

  pub broke_unsaid : (act : Act) → Means c t.phase (take n (drop used bytes)) (Ok act) → (h : Unsaid c act t.serial m w) → MayLack act h.0.outcomes → BrokeUnsaid c s v bytes w
  unfolding broke
  broke_unsaid act means h lack = (broke act means h.0, h.1, h.2 ∙ did.sound, lack)

-- a front, and nothing more
pub began : (c : Client) (s t : Stage) (v w : World) (bytes : List ℕ) (used : ℕ) → Did c s v (take used bytes) t w → Began c s v bytes w
began c s t v w bytes used did = record { front = take used bytes; after = drop used bytes; mid = t; bytes_are = sym (take-append-drop used bytes); did = did }
