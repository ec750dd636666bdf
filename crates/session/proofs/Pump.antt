-- Piece after piece.
use Rattle.std.proofs.Common.{◌≡◌, ◌≢◌, inl, inr, ℕ, ◌+◌, ◌≤◌, List, [], ◌++◌, length, Option, Some, None, refl, sym, ap, ◌∙◌, subst, arith}
use Rattle.std.proofs.lemmas.List.{append_assoc, length-append}
use Rattle.std.specs.Prelude.{◌⊎◌}
use Rattle.portal_base.specs.Outside.{behind}
use Rattle.portal_base.specs.declared.who.Kind.{Kind}
use Rattle.session.specs.declared.act.Client.{Client}
use Rattle.session.specs.declared.served.Fed.{Fed}
use Rattle.session.specs.declared.served.Fed.TheVariants as fed
use Rattle.session.specs.declared.served.Stop.{Stop}
use Rattle.session.specs.declared.served.Stop.TheVariants as stop
use Rattle.session.specs.declared.served.Served.{Served}
use Rattle.session.specs.declared.served.Served.TheVariants as served
use Rattle.session.specs.Cuts.{Cuts, first_phase, no_item}
use Rattle.session.specs.Items.{Items, Remains}
use Rattle.session.specs.Ledger.{Began, Broke, BrokeUnsaid, Did, World}
use Rattle.session.specs.Pumps.{CameLast, Kept, PumpsInto, PumpsOver, longest_piece}
use Rattle.session.specs.Sessions.{Feeds, FeedsNot, FeedsOpen, FeedsOver, HasRoom, TakesUpTo}
use Rattle.session.specs.Standings.{Standing, first_stage, fresh, longest}
use Rattle.session.proofs.DidItems.{began_on, broke_on, did_none, did_on, unsaid_on}
use Rattle.session.proofs.Grew.{risen_later}

pub behind_behind : (xs ys : List ℕ) (o : Option (List ℕ)) → behind xs (behind ys o) ≡ behind (xs ++ ys) o
behind_behind xs ys None = refl
behind_behind xs ys (Some zs) = ap Some (sym (append_assoc xs ys zs))

pub behind_none : (o : Option (List ℕ)) → o ≡ behind [] o
behind_none None = refl
behind_none (Some zs) = refl

-- nothing is too few
pub nothing_yet : (kind : Kind) → Cuts (first_phase kind) [] (no_item stop.More)
nothing_yet Kind.Bus = refl
nothing_yet Kind.Mount = refl

pub kept_none : (c : Client) (w : World) → Kept c [] stop.More w (fresh c) w
kept_none c w = record { taken = []; bytes = refl; before = refl; did = did_none c (first_stage c) w; remains = nothing_yet c.kind; room = omega arith }

-- the items of what was read
pub kept_items : (c : Client) (read : List ℕ) (what : Stop) (v : World) (s : Standing) (w : World) (k : Kept c read what v s w) → Items c (first_phase c.kind) read k.did.items k.did.acts s.rest what
kept_items c read what v s w k = record {
  bytes = k.bytes ∙ ap (λ (b : List ℕ). b ++ s.rest) k.did.bytes_are;
  each = k.did.each;
  remains = subst (λ p. Remains c p s.rest what) k.did.phase k.remains;
}

pub opened : (s : Standing) (v : World) (piece : List ℕ) (r : Fed) (t : Standing) (w : World) → s.fed ≡ fed.More → Feeds s.fed s v piece r t w → FeedsOpen s v piece r t w
opened s v piece r t w e h = subst (λ (o : Fed). Feeds o s v piece r t w) e h

module _ (c : Client) (read piece : List ℕ) (v m w : World) (s t : Standing) (k : Kept c read stop.More v s m) (is : s.client ≡ c) where
  whole_bytes : read ++ piece ≡ k.taken ++ (s.rest ++ piece)
  whole_bytes = ap (λ (z : List ℕ). z ++ piece) k.bytes ∙ append_assoc k.taken s.rest piece

  room_here : HasRoom s piece → length (read ++ piece) ≤ longest
  room_here h = let a = k.before in let b = ap length k.bytes in omega (arith, length-append read piece, length-append k.taken s.rest, a, b, h)

  takes_room : (what : Stop) → TakesUpTo what s m piece t w → HasRoom s piece
  takes_room what f = let a = f.before in let b = ap length f.bytes in let d = f.room in omega (arith, length-append s.rest piece, length-append f.taken t.rest, a, b, d)

  pub kept_on : (what : Stop) → TakesUpTo what s m piece t w → Kept c (read ++ piece) what v t w
  kept_on what f = record {
    taken = k.taken ++ f.taken;
    bytes = whole_bytes ∙ (ap (λ (z : List ℕ). k.taken ++ z) f.bytes ∙ sym (append_assoc k.taken f.taken t.rest));
    before = f.before ∙ (ap (λ (z : ℕ). z + length f.taken) k.before ∙ sym (length-append k.taken f.taken));
    did = did_on c (first_stage c) s.stage t.stage v m w k.taken f.taken k.did (subst (λ (z : Client). Did z s.stage m f.taken t.stage w) is f.did);
    remains = subst (λ (z : Client). Remains z t.stage.phase t.rest what) is f.remains;
    room = room_here (takes_room what f);
  }

  over_into : length piece ≤ longest_piece → (ending : Served) → FeedsOver s m piece ending t w → PumpsInto c ending (read ++ piece) v t w
  over_into few (served.Malformed at rule) h = (kept_on (stop.Bad rule) h.0, h.1)
  over_into few (served.LineTooLong at) h = (kept_on stop.TooLong h.0, h.1)
  over_into few served.Spent h = (
    (let a = k.before in let b = ap length k.bytes in omega (arith, length-append read piece, length-append k.taken s.rest, a, b, h.0)),
    (read, piece, s, refl, few, subst (λ (z : World). Kept c read stop.More v s z) (sym h.1) k),
  )
  over_into few served.Ended h = absurd h
  over_into few (served.Cut n) h = absurd h
  over_into few served.ReadFault h = absurd h
  over_into few served.WriteFault h = absurd h
  over_into few (served.Full cost limit) h = absurd h
  over_into few served.Memory h = absurd h

  broke_here : Broke s.client s.stage m (s.rest ++ piece) w → Broke c (first_stage c) v (read ++ piece) w
  broke_here b = subst (λ (z : List ℕ). Broke c (first_stage c) v z w) (sym whole_bytes) (broke_on c (first_stage c) s.stage v m w k.taken (s.rest ++ piece) k.did (subst (λ (z : Client). Broke z s.stage m (s.rest ++ piece) w) is b))

  unsaid_here : BrokeUnsaid s.client s.stage m (s.rest ++ piece) w → BrokeUnsaid c (first_stage c) v (read ++ piece) w
  unsaid_here b = subst (λ (z : List ℕ). BrokeUnsaid c (first_stage c) v z w) (sym whole_bytes) (unsaid_on c (first_stage c) s.stage v m w k.taken (s.rest ++ piece) k.did (subst (λ (z : Client). BrokeUnsaid z s.stage m (s.rest ++ piece) w) is b))

  began_here : Began s.client s.stage m (s.rest ++ piece) w → Began c (first_stage c) v (read ++ piece) w
  began_here b = subst (λ (z : List ℕ). Began c (first_stage c) v z w) (sym whole_bytes) (began_on c (first_stage c) s.stage v m w k.taken (s.rest ++ piece) k.did (subst (λ (z : Client). Began z s.stage m (s.rest ++ piece) w) is b))

  not_here : FeedsNot s m piece w → Began c (first_stage c) v (read ++ piece) w ⊎ BrokeUnsaid c (first_stage c) v (read ++ piece) w
  not_here (inl b) = inl (began_here b)
  not_here (inr b) = inr (unsaid_here b)

  -- ahead of the piece
  pub came_last : length piece ≤ longest_piece → CameLast c (read ++ piece)
  came_last few = (read, piece, k.did.items, k.did.acts, s.rest, refl, few, kept_items c read stop.More v s m k)

  pub over_on : length piece ≤ longest_piece → (r : Fed) → r ≢ fed.More → FeedsOpen s m piece r t w → PumpsOver c t.fed (read ++ piece) v t w
  over_on few fed.More ne h = absurd (ne refl)
  over_on few (fed.Over ending) ne h = subst (λ (o : Fed). PumpsOver c o (read ++ piece) v t w) (sym h.1.0) (over_into few ending h.0)
  over_on few fed.WriteFault ne h = subst (λ (o : Fed). PumpsOver c o (read ++ piece) v t w) (sym h.2.0) (broke_here h.0, risen_later v.faults m.faults w.faults k.did.grows.faults h.1, room_here h.3)
  over_on few fed.Memory ne (how, keeps, fits, holds) = subst (λ (o : Fed). PumpsOver c o (read ++ piece) v t w) (sym keeps.0) (not_here how, room_here fits)

  -- the client of the session goes on
  pub client_on : (r : Fed) → FeedsOpen s m piece r t w → t.client ≡ c
  client_on fed.More h = h.1.1 ∙ is
  client_on (fed.Over ending) h = h.1.1 ∙ is
  client_on fed.WriteFault h = h.2.1 ∙ is
  client_on fed.Memory h = h.1.1 ∙ is
