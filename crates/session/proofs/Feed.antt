-- What a piece comes to.
use Rattle.std.proofs.Common.{◌≡◌, ℕ, ◌+◌, ◌≤◌, List, ◌++◌, length, take, drop, refl, sym, ap, ◌∙◌, subst, arith}
use Rattle.std.proofs.lemmas.List.{length-append, length-drop, length-take, take-append-drop}
use Rattle.session.specs.declared.served.Fed.{Fed}
use Rattle.session.specs.declared.served.Fed.TheVariants as fed
use Rattle.session.specs.declared.served.Stop.{Stop}
use Rattle.session.specs.declared.served.Stop.TheVariants as stop
use Rattle.session.specs.Items.{Remains}
use Rattle.session.specs.Ledger.{Did, World}
use Rattle.session.specs.Sessions.{Feeds, FeedsOpen, TakesUpTo, fed_of}
use Rattle.session.specs.Standings.{Standing, longest}

pub feeds_open : (s : Standing) (v : World) (piece : List ℕ) (r : Fed) (t : Standing) (w : World) → s.fed ≡ fed.More → FeedsOpen s v piece r t w → Feeds s.fed s v piece r t w
feeds_open s v piece r t w e h = subst (λ (o : Fed). Feeds o s v piece r t w) (sym e) h

pub takes : (what : Stop) (s : Standing) (v w : World) (piece : List ℕ) (len : ℕ) (t : Standing)
    → len ≤ length (s.rest ++ piece) → Did s.client s.stage v (take len (s.rest ++ piece)) t.stage w → Remains s.client t.stage.phase (drop len (s.rest ++ piece)) what
    → t.before ≡ s.before + len → t.rest ≡ drop len (s.rest ++ piece) → t.client ≡ s.client → s.before + length s.rest + length piece ≤ longest → TakesUpTo what s v piece t w
takes what s v w piece len t within did remains before left client room =
    let bytes = s.rest ++ piece in
    let l : length (take len bytes) ≡ len = omega (arith, length-take len bytes, within) in
    let d = length-drop len bytes in
    let r = ap length left in
    record {
      taken = take len bytes;
      bytes = sym (take-append-drop len bytes) ∙ ap (λ (z : List ℕ). take len bytes ++ z) (sym left);
      before = before ∙ ap (λ (z : ℕ). s.before + z) (sym l);
      did = did;
      remains = subst (λ (z : List ℕ). Remains s.client t.stage.phase z what) (sym left) remains;
      client = client;
      room = omega (arith, length-append s.rest piece, d, r, before, within, room);
    }

pub feeds_rest : (what : Stop) (s : Standing) (v : World) (piece : List ℕ) (t : Standing) (w : World) → TakesUpTo what s v piece t w → t.fed ≡ fed_of t.before what → FeedsOpen s v piece (fed_of t.before what) t w
feeds_rest stop.More s v piece t w h e = (h, (e, h.client))
feeds_rest (stop.Bad rule) s v piece t w h e = ((h, refl), (e, h.client))
feeds_rest stop.TooLong s v piece t w h e = ((h, refl), (e, h.client))
