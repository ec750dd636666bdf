-- Messages, one behind the other, and what is written of them.
use Rattle.std.proofs.Common.{◌≡◌, inl, inr, ℕ, ◌+◌, ◌<◌, Bool, true, false, List, [], ◌∷◌, ◌++◌, length, map, get_or, take, drop, Option, refl, sym, ap, ◌∙◌, subst, append_assoc}
use Rattle.std.specs.List.{flat_map, list_all}
use Rattle.std.proofs.lemmas.List.{drop_more, map-append, take_more, take-append-drop}
use Rattle.std.proofs.lemmas.List.Folds.{list_all_at}
use Rattle.portal_base.specs.Outside.{onto, Short}
use Rattle.portal_model.specs.declared.reply.Change.{Change}
use Rattle.portal_model.specs.Valid.{is_sound_change}
use Rattle.dbus_types.specs.declared.message.OutMessage.{OutMessage}
use Rattle.dbus_message.specs.Written.{message_bytes}
use Rattle.dbus_dispatch.specs.Signals.{signal_of}
use Rattle.session.specs.Answers.{Outcome, Made, Denied, last_spoken, serial_after, signals_for, signals_in, spoken}
use Rattle.session.proofs.Grew.{onto_onto}

-- ---- messages behind others

pub spoken-append : (ms ns : List OutMessage) (s : ℕ) → spoken s (ms ++ ns) ≡ spoken s ms ++ spoken (last_spoken s ms) ns
spoken-append [] ns s = refl
spoken-append (m ∷ ms) ns s = ap (λ (z : List (List ℕ)). message_bytes m (serial_after s) ∷ z) (spoken-append ms ns (serial_after s))

pub last-append : (ms ns : List OutMessage) (s : ℕ) → last_spoken s (ms ++ ns) ≡ last_spoken (last_spoken s ms) ns
last-append [] ns s = refl
last-append (m ∷ ms) ns s = last-append ms ns (serial_after s)

-- pieces behind others, and the serial behind them
pub pieces_behind : (ms ns : List OutMessage) (s t : ℕ) (before front all : List (List ℕ)) → front ≡ before ++ spoken s ms → t ≡ last_spoken s ms → all ≡ front ++ spoken t ns → all ≡ before ++ spoken s (ms ++ ns)
pieces_behind ms ns s t before front all fe te ae =
    ae ∙ (ap (λ (z : List (List ℕ)). z ++ spoken t ns) fe ∙ (append_assoc before (spoken s ms) (spoken t ns)
    ∙ ap (λ (z : List (List ℕ)). before ++ z) (ap (λ (n : ℕ). spoken s ms ++ spoken n ns) te ∙ sym (spoken-append ms ns s))))

pub serial_behind : (ms ns : List OutMessage) (s t last : ℕ) → t ≡ last_spoken s ms → last ≡ last_spoken t ns → last ≡ last_spoken s (ms ++ ns)
serial_behind ms ns s t last te le = le ∙ (ap (λ (n : ℕ). last_spoken n ns) te ∙ sym (last-append ms ns s))

-- ---- signals

-- one more change is one more signal
pub signals_more : (cs : List Change) (i : ℕ) (d : Change) (m : OutMessage) → i < length cs → d ≡ get_or cs i d → m ≡ signal_of d → map signal_of (take i cs) ++ m ∷ [] ≡ map signal_of (take (i + 1) cs)
signals_more cs i d m lt is e =
    let front : List OutMessage = map signal_of (take i cs) in
    ap (λ (z : OutMessage). front ++ z ∷ []) (e ∙ ap signal_of is)
    ∙ (sym (map-append signal_of (take i cs) (get_or cs i d ∷ [])) ∙ ap (map signal_of) (sym (take_more cs i d lt)))

sound_by : (cs : List Change) (i : ℕ) (d : Change) (b : Bool) → i < length cs → list_all is_sound_change cs ≡ true → is_sound_change (get_or cs i d) ≡ b → is_sound_change (get_or cs i d) ≡ true
sound_by cs i d true lt h e = e
sound_by cs i d false lt h e = let none = list_all_at is_sound_change cs i d lt e in absurd (cc)

pub sound_at : (cs : List Change) (i : ℕ) (d : Change) → i < length cs → list_all is_sound_change cs ≡ true → d ≡ get_or cs i d → is_sound_change d ≡ true
sound_at cs i d lt h is = subst (λ (z : Change). is_sound_change z ≡ true) (sym is) (sound_by cs i d (is_sound_change (get_or cs i d)) lt h refl)

-- the signals of several outcomes
pub signals_each : (os : List Outcome) → map signal_of (flat_map signals_in os) ≡ flat_map signals_for os
signals_each [] = refl
signals_each (Made x ∷ os) = map-append signal_of x.reply.signals (flat_map signals_in os) ∙ ap (λ (z : List OutMessage). map signal_of x.reply.signals ++ z) (signals_each os)
signals_each (Denied request why ∷ os) = signals_each os

-- ---- pieces that are written

short_behind : (front ws ps : List (List ℕ)) → Short ws ps → Short (front ++ ws) (front ++ ps)
short_behind [] ws ps h = h
short_behind (f ∷ front) ws ps h = inl (refl, short_behind front ws ps h)

short_first : (ws : List (List ℕ)) (p : List ℕ) (rest : List (List ℕ)) → Short ws (p ∷ []) → Short ws (p ∷ rest)
short_first [] p rest h = tt
short_first (w ∷ []) p rest (inl h) = inl (h.0, tt)
short_first (w ∷ v ∷ ws) p rest (inl h) = absurd h.1
short_first (w ∷ ws) p rest (inr h) = inr h

-- what is left is the next piece, and others
piece_next : (ps : List (List ℕ)) (i : ℕ) (p : List ℕ) → i < length ps → p ≡ get_or ps i p → take i ps ++ (p ∷ drop (i + 1) ps) ≡ ps
piece_next ps i p lt is =
    ap (λ (z : List (List ℕ)). take i ps ++ z) (ap (λ (q : List ℕ). q ∷ drop (i + 1) ps) is ∙ sym (drop_more ps i p lt)) ∙ take-append-drop i ps

-- a write that fails at a piece
pub short_at : (ps : List (List ℕ)) (i : ℕ) (p : List ℕ) (ws : List (List ℕ)) → i < length ps → p ≡ get_or ps i p → Short ws (p ∷ []) → Short (take i ps ++ ws) ps
short_at ps i p ws lt is h =
    subst (Short (take i ps ++ ws)) (piece_next ps i p lt is) (short_behind (take i ps) ws (p ∷ drop (i + 1) ps) (short_first ws p (drop (i + 1) ps) h))

-- one more piece is written
pub piece_more : (o n m : Option (List (List ℕ))) (ps : List (List ℕ)) (i : ℕ) (p : List ℕ) → i < length ps → p ≡ get_or ps i p → n ≡ onto o (take i ps) → m ≡ onto n (p ∷ []) → m ≡ onto o (take (i + 1) ps)
piece_more o n m ps i p lt is before now =
    now ∙ (ap (λ (z : Option (List (List ℕ))). onto z (p ∷ [])) before
    ∙ (onto_onto o (take i ps) (p ∷ []) ∙ ap (onto o) (ap (λ (q : List ℕ). take i ps ++ q ∷ []) is ∙ sym (take_more ps i p lt))))
