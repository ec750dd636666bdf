-- What a Collect ahead of any item comes to.
use Rattle.std.proofs.Common.{◌≡◌, ℕ, List, [], ◌∷◌, ◌++◌, map, Option, Result, Ok, Err, refl, sym, ap, ◌∙◌, subst, ◌≤◌, arith}
use Rattle.std.specs.Prelude.{◌≢◌, IfOk}
use Rattle.std.specs.List.{flat_map}
use Rattle.std.proofs.lemmas.List.{append-nil}
use Rattle.portal_base.specs.Outside.{onto}
use Rattle.portal_model.specs.declared.reply.Change.{Change}
use Rattle.portal_model.specs.declared.request.Request.{Request}
use Rattle.portal_model.specs.Seated.{Seated}
use Rattle.dbus_types.specs.declared.message.OutMessage.{OutMessage}
use Rattle.dbus_dispatch.specs.Signals.{signal_of}
use Rattle.session.specs.declared.served.Fed.{Fed}
use Rattle.session.specs.declared.served.Fed.TheVariants.{More, Over, WriteFault, Memory}
use Rattle.session.specs.Answers.{Outcome, AreOf, IsOf, last_spoken, signals_for, signals_in, spoken}
use Rattle.session.specs.Ledger.{Collected, Grew, Sends, SendsPart, World, world}
use Rattle.session.specs.Pushes.{Pushes, Tells, Told, ToldSome, with_fed, with_serial}
use Rattle.session.specs.Standings.{Standing}
use Rattle.session.proofs.Grew.{onto_none}
use Rattle.session.proofs.ConnectionStaysOpen.{IsPlain, Lets, makes_of}

-- ---- of one Collect there is one outcome

-- and these changes ride in it
record One (v w : Seated) (changes : List Change) : Type 0 where
  outcome : Outcome
  is_of : IsOf Request.Collect outcome
  grew : Grew v (outcome ∷ []) w
  rides : changes ≡ signals_in outcome

one : (v w : Seated) (changes : List Change) → Collected (Request.Collect ∷ []) changes v w → One v w changes
one v w changes (os, (o, us, parts, is, none), grew, rides) =
    let alone : os ≡ o ∷ [] = parts ∙ ap (λ (z : List Outcome). o ∷ z) none in
    record {
      outcome = o;
      is_of = is;
      grew = subst (λ (z : List Outcome). Grew v z w) alone grew;
      rides = rides ∙ (ap (flat_map signals_in) alone ∙ append-nil (signals_in o));
    }

module _ (serial : ℕ) (v w : Seated) (changes : List Change) (collected : Collected (Request.Collect ∷ []) changes v w) where
  found : One v w changes
  found = one v w changes collected

  -- these pieces were written
  told_of : (o n : Option (List (List ℕ))) (a b : ℕ) (written : List (List ℕ)) → n ≡ onto o written → a ≤ b → Told (world v o a) (world w n b)
  told_of o n a b written told rose =
      record { outcome = found.outcome; is_of = found.is_of; written = written; grows = record { desk = found.grew; told = told; faults = rose } }

  -- where there is nothing to tell
  pub tells_none : (o : Option (List (List ℕ))) (a : ℕ) → changes ≡ [] → Tells (Ok serial) serial (world v o a) (world w o a)
  unfolding told_of found
  tells_none o a none =
      let quiet : signals_for found.outcome ≡ [] = ap (map signal_of) (sym found.rides ∙ none) in (
        told_of o o a a [] (onto_none o) (omega arith),
        ap (spoken serial) (sym quiet),
        ap (last_spoken serial) (sym quiet),
        refl,
      )

  -- the messages that are written
  messages : map signal_of changes ++ [] ≡ signals_for found.outcome
  messages = append-nil (map signal_of changes) ∙ ap (map signal_of) found.rides

  some_told : changes ≢ [] → signals_in found.outcome ≢ []
  some_told some none = some (found.rides ∙ none)

  tells_part : (halt : Fed) (o n : Option (List (List ℕ))) (a b : ℕ) → changes ≢ [] → SendsPart (spoken serial (signals_for found.outcome)) halt o a n b → Tells (Err halt) serial (world v o a) (world w n b)
  unfolding told_of found
  tells_part WriteFault o n a b some (written, short, told, rose, risen) = ((told_of o n a b written told rose, some_told some), short, risen)
  tells_part Memory o n a b some (told, same) = ((told_of o n a b [] (told ∙ onto_none o) (omega (arith, same)), some_told some), refl, same)
  tells_part More o n a b some sent = absurd sent
  tells_part (Over ending) o n a b some sent = absurd sent

  tells_as : (r : Result ℕ Fed) (o n : Option (List (List ℕ))) (a b : ℕ) → changes ≢ [] → Sends (spoken serial (signals_for found.outcome)) r o a n b → IfOk r (λ last. last ≡ last_spoken serial (signals_for found.outcome)) → Tells r serial (world v o a) (world w n b)
  unfolding told_of
  tells_as (Ok last) o n a b some (told, same) is = (told_of o n a b (spoken serial (signals_for found.outcome)) told (omega (arith, same)), refl, is, same)
  tells_as (Err halt) o n a b some sent is = tells_part halt o n a b some sent

  -- where there is
  pub tells : (r : Result ℕ Fed) (o n : Option (List (List ℕ))) (a b : ℕ) → changes ≢ [] → Sends (spoken serial (map signal_of changes ++ [])) r o a n b → IfOk r (λ last. last ≡ last_spoken serial (map signal_of changes ++ [])) → Tells r serial (world v o a) (world w n b)
  tells r o n a b some sent is =
      tells_as r o n a b some (subst (λ (z : List OutMessage). Sends (spoken serial z) r o a n b) messages sent) (subst (λ (z : List OutMessage). IfOk r (λ last. last ≡ last_spoken serial z)) messages is)

-- ---- what it leaves

tried_lets : (v w : World) → Told v w → Lets v.seated w.seated
tried_lets v w t = (t.outcome ∷ [], t.grows.desk, makes_of IsPlain (Request.Collect ∷ []) (t.outcome ∷ []) (tt, tt) (t.outcome, [], refl, t.is_of, refl))

-- nothing that it asks ends the connection
pub tells_let : (r : Result ℕ Fed) (serial : ℕ) (v w : World) → Tells r serial v w → Lets v.seated w.seated
tells_let (Ok last) serial v w h = tried_lets v w h.0
tells_let (Err WriteFault) serial v w h = tried_lets v w h.0.0
tells_let (Err Memory) serial v w h = tried_lets v w h.0.0
tells_let (Err More) serial v w h = absurd h
tells_let (Err (Over ending)) serial v w h = absurd h

-- ---- push

pub pushed_ok : (s : Standing) (v w : World) (last : ℕ) (t : Standing) → t ≡ with_serial last s → Tells (Ok last) s.stage.serial v w → Pushes s v More t w
pushed_ok s v w last t is h = (last, is, h)

pub pushed_err : (why : Fed) (s : Standing) (v w : World) (t : Standing) → t ≡ with_fed why s → Tells (Err why) s.stage.serial v w → Pushes s v why t w
pushed_err WriteFault s v w t is h = (is, h)
pushed_err Memory s v w t is h = (is, h)
pushed_err More s v w t is h = absurd h
pushed_err (Over ending) s v w t is h = absurd h

pub not_more : (why : Fed) (serial : ℕ) (v w : World) → Tells (Err why) serial v w → why ≡ More → ⊥
not_more why serial v w h e = subst (λ (z : Fed). Tells (Err z) serial v w) e h
