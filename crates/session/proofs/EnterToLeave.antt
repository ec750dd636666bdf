-- A connection from Enter to Leave.
use Rattle.std.proofs.Common.{◌≡◌, ◌≢◌, inl, inr, ℕ, ◌+◌, ◌≤◌, List, [], ◌∷◌, ◌++◌, length, refl, sym, ap, ◌∙◌, subst, arith}
use Rattle.std.proofs.lemmas.List.{append-nil, length-append}
use Rattle.portal_model.specs.Seated.{Exchange}
use Rattle.session.specs.declared.act.Client.{Client}
use Rattle.session.specs.declared.connection.Pumped.{Pumped}
use Rattle.session.specs.declared.connection.Pumped.TheVariants as pumped
use Rattle.session.specs.declared.served.Fed.{Fed}
use Rattle.session.specs.declared.served.Fed.TheVariants as fed
use Rattle.session.specs.declared.served.Stop.{Stop}
use Rattle.session.specs.declared.served.Stop.TheVariants as stop
use Rattle.session.specs.declared.served.Served.{Served}
use Rattle.session.specs.declared.served.Served.TheVariants as served
use Rattle.session.specs.Answers.{Outcome, Made}
use Rattle.session.specs.Connections.{CountsReads, Encloses, EndsAs, Front, Half, HalfUnsaid, Serves, Whole, between}
use Rattle.session.specs.Items.{IsItem}
use Rattle.session.specs.Ledger.{Began, Broke, BrokeUnsaid, Grows, World}
use Rattle.session.specs.Pumps.{CameLast, IsDry, Kept, Pumps, PumpsInto, PumpsOver, Spring}
use Rattle.session.specs.Sessions.{ending, ending_at}
use Rattle.session.specs.Standings.{Standing, first_stage, longest}
use Rattle.session.proofs.Grew.{grows_on}
use Rattle.session.proofs.Pump.{kept_items}

enclosed : (u v w x : World) (e l : Exchange) (os : List Outcome) (ps : List (List ℕ)) → Grows u (Made e ∷ []) [] v → Grows v os ps w → Grows w (Made l ∷ []) [] x → Grows u (between e os l) ps x
enclosed u v w x e l os ps a b c =
    subst (λ (z : List (List ℕ)). Grows u (between e os l) z x) (append-nil ps) (grows_on u w x (Made e ∷ os) (Made l ∷ []) ps [] (grows_on u v w (Made e ∷ []) os [] ps a b) c)

module _ (c : Client) (u v w x : World) (entered leaving : Exchange) (encloses : Encloses c entered leaving) (a : Grows u (Made entered ∷ []) [] v) (z : Grows w (Made leaving ∷ []) [] x) (p : v.faults ≡ u.faults) (q : x.faults ≡ w.faults) where
  pub whole : (read : List ℕ) (what : Stop) (s : Standing) → Kept c read what v s w → Whole c read s.rest what u x
  whole read what s k = record {
    room = k.room;
    all = record {
      items = k.did.items;
      acts = k.did.acts;
      outcomes = k.did.outcomes;
      pieces = k.did.pieces;
      last = s.stage.serial;
      each = k.did.each;
      answers = k.did.answers;
    };
    cut = kept_items c read what v s w k;
    asked = record {
      entered = entered;
      leaving = leaving;
      encloses = encloses;
      grows = enclosed u v w x entered leaving k.did.outcomes k.did.pieces a k.did.grows z;
    };
    sound = q ∙ (k.did.sound ∙ p);
  }

  front : (read : List ℕ) → length read ≤ longest → Began c (first_stage c) v read w → Front c read u x
  front read room b = record {
    room = room;
    first = record {
      items = b.did.items;
      acts = b.did.acts;
      outcomes = b.did.outcomes;
      pieces = b.did.pieces;
      last = b.mid.serial;
      each = b.did.each;
      answers = b.did.answers;
    };
    after = b.after;
    bytes = b.bytes_are ∙ ap (λ (y : List ℕ). y ++ b.after) b.did.bytes_are;
    asked = record {
      entered = entered;
      leaving = leaving;
      encloses = encloses;
      grows = enclosed u v w x entered leaving b.did.outcomes b.did.pieces a b.did.grows z;
    };
    sound = q ∙ (b.did.sound ∙ p);
  }

  half : (read : List ℕ) → length read ≤ longest → Broke c (first_stage c) v read w → Half c read u x
  half read room b =
      let h = b.halted in
      record {
        room = room;
        first = record {
          items = b.did.items;
          acts = b.did.acts;
          outcomes = b.did.outcomes;
          pieces = b.did.pieces;
          last = b.mid.serial;
          each = b.did.each;
          answers = b.did.answers;
        };
        then = record {
          item = b.item;
          act = b.act;
          outcomes = h.outcomes;
          pieces = h.pieces;
          written = h.written;
          last = h.last;
          is_item = subst (λ p. IsItem c p b.item b.act) b.did.phase b.is_item;
          gives = h.gives;
          short = h.short;
        };
        after = b.after;
        bytes = b.bytes_are ∙ ap (λ (y : List ℕ). y ++ (b.item ++ b.after)) b.did.bytes_are;
        asked = record {
          entered = entered;
          leaving = leaving;
          encloses = encloses;
          grows = enclosed u v w x entered leaving (b.did.outcomes ++ h.outcomes) (b.did.pieces ++ h.written) a
              (grows_on v b.then w b.did.outcomes h.outcomes b.did.pieces h.written b.did.grows h.grows) z;
        };
      }

  half_unsaid : (read : List ℕ) → length read ≤ longest → BrokeUnsaid c (first_stage c) v read w → HalfUnsaid c read u x
  unfolding half
  half_unsaid read room b = (half read room b.0, b.1, q ∙ (b.2 ∙ p), b.3)

  at_end : (left read : List ℕ) (i j : Spring) → IsDry j → Whole c read left stop.More u x → EndsAs c (ending_at left) read i j u x
  at_end [] read i j dry k = (dry, k)
  at_end (b ∷ bs) read i j dry k = (dry, omega arith, (b ∷ bs, refl, k))

  at_byte : (read : List ℕ) (what : Stop) (s : Standing) (at : ℕ) → Kept c read what v s w → at ≡ s.before → CameLast c read → (left : List ℕ) × (at + length left ≡ length read) × Whole c read left what u x × CameLast c read
  at_byte read what s at k e last = (s.rest, (let l = ap length k.bytes in let b = k.before in omega (arith, length-append k.taken s.rest, l, b, e)), whole read what s k, last)

  over_into : (met : Served) (read : List ℕ) (s : Standing) (i j : Spring) → PumpsInto c met read v s w → CameLast c read → EndsAs c met read i j u x
  over_into (served.Malformed at rule) read s i j h last = at_byte read (stop.Bad rule) s at h.0 h.1 last
  over_into (served.LineTooLong at) read s i j h last = at_byte read stop.TooLong s at h.0 h.1 last
  over_into served.Spent read s i j h last = (h.0, (h.1.0, h.1.1, h.1.2.rest, h.1.3, h.1.4, whole h.1.0 stop.More h.1.2 h.1.5))
  over_into served.Ended read s i j h last = absurd h
  over_into (served.Cut n) read s i j h last = absurd h
  over_into served.ReadFault read s i j h last = absurd h
  over_into served.WriteFault read s i j h last = absurd h
  over_into (served.Full cost limit) read s i j h last = absurd h
  over_into served.Memory read s i j h last = absurd h

  over_at : (o : Fed) (left read : List ℕ) (s : Standing) (i j : Spring) → PumpsOver c o read v s w → CameLast c read → EndsAs c (ending o left) read i j u x
  over_at fed.More left read s i j h last = absurd h
  over_at (fed.Over met) left read s i j h last = over_into met read s i j h last
  over_at fed.WriteFault left read s i j h last = (let r = h.1 in omega (arith, r, p, q), half read h.2 h.0, last)
  over_at fed.Memory left read s i j (inl h, room) last = inr (inl (front read room h), last)
  over_at fed.Memory left read s i j (inr h, room) last = inr (inr (half_unsaid read room h), last)

  -- an ending at which no read failed
  counts_none : (r : Served) (i j : Spring) → j.faults ≡ i.faults → CountsReads r i j
  counts_none served.Ended i j e = e
  counts_none (served.Cut n) i j e = e
  counts_none (served.Malformed at rule) i j e = e
  counts_none (served.LineTooLong at) i j e = e
  counts_none served.ReadFault i j e = omega (arith, e)
  counts_none served.WriteFault i j e = e
  counts_none served.Spent i j e = e
  counts_none (served.Full cost limit) i j e = e
  counts_none served.Memory i j e = e

  -- the pieces ended, or the session was over
  pub closed : (r : Pumped) (i j : Spring) (s : Standing) → r ≢ pumped.Fault → Pumps c r i j v s w → Serves c (ending s.fed s.rest) i j u x
  closed pumped.Fault i j s ne h = absurd (ne refl)
  closed pumped.End i j s ne h = (h.0, h.1, counts_none (ending s.fed s.rest) i j h.4.3, subst (λ (o : Fed). EndsAs c (ending o s.rest) h.0 i j u x) (sym h.4.1) (at_end s.rest h.0 i j h.4.2 (whole h.0 stop.More s h.4.0)))
  closed pumped.Over i j s ne h = (h.0, h.1, counts_none (ending s.fed s.rest) i j h.4.2, over_at s.fed s.rest h.0 s i j h.4.0 h.4.1)

  -- a read failed
  pub faulted : (i j : Spring) (s : Standing) → Pumps c pumped.Fault i j v s w → Serves c served.ReadFault i j u x
  faulted i j s h = (h.0, h.1, h.2, (h.4.2, (s.rest, whole h.0 stop.More s h.4.0)))
