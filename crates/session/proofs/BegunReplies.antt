-- Replies that tell little, and whose returns were begun.
use Rattle.std.proofs.Common.{◌≡◌, ℕ, ◌∷◌, ◌++◌, List, [], Bool, true, false, cond, length, Option, Some, None, Result, Ok, Err, refl, sym, ap, ◌∙◌, subst, arith}
use Rattle.std.specs.Prelude.{IsOk, OnErr, option_to_list}
use Rattle.bus_answers.specs.declared.begun.Begun.{Begun}
use Rattle.bus_answers.specs.declared.kind.ReturnKind.{ReturnKind}
use Rattle.bus_answers.specs.declared.kind.ReturnKind.TheVariants.{Data}
use Rattle.bus_answers.specs.Begun.{IsBegunIf}
use Rattle.bus_answers.specs.Little.{IsLittleTo, is_little, is_little_of, kind_of}
use Rattle.dbus_calls.specs.declared.method.Method.{Method}
use Rattle.dbus_dispatch.specs.Asks.{expects_reply}
use Rattle.dbus_message.specs.Written.{message_bytes}
use Rattle.dbus_types.specs.declared.message.Message.{Message}
use Rattle.dbus_types.specs.declared.message.OutMessage.{OutMessage}
use Rattle.portal_model.specs.declared.reply.Answer.{Answer}
use Rattle.session.specs.Answers.{last_spoken, serial_after, spoken}
use Rattle.session.specs.Asked.{reply_to}

pub where_err : {X E P : Type 0} (r : Result X E) → P → OnErr r P
where_err (Ok x) p = tt
where_err (Err e) p = p

pub none_err : {X E : Type 0} (P : Type 0) (r : Result X E) → IsOk r → OnErr r P
none_err P (Ok x) h = tt
none_err P (Err e) h = let no : false ≡ true = h in absurd (cc)

pub nil_of : {X : Type 0} (xs : List X) → length xs ≡ 0 → xs ≡ []
nil_of [] e = refl
nil_of (x ∷ xs) e = absurd (omega (arith, e))

-- where none was begun, or it wasn't taken, the answer isn't little
pub not_little : (mountpoint : List ℕ) (call : Message) (serial : ℕ) (o : Option Begun) (answer : Answer) → IsBegunIf mountpoint call serial o → ((kept : Begun) → o ≡ Some kept → is_little kept.method answer ≡ false) → IsLittleTo call answer → ⊥
not_little mountpoint call serial None answer tells none (method, found, little) =
    let no : false ≡ true = sym (ap (λ (k : ReturnKind). is_little_of k answer) (tells method found)) ∙ little in
    absurd (cc)
not_little mountpoint call serial (Some kept) answer is none (method, found, little) =
    let both : Ok kept.method ≡ Ok method = sym is.method_is ∙ found in
    let same : kept.method ≡ method = cc in
    let no : false ≡ true = sym (none kept refl) ∙ (ap (λ (m : Method). is_little m answer) same ∙ little) in
    absurd (cc)

-- ---- what is written

silent : (call : Message) (m : OutMessage) (b : Bool) → expects_reply call ≡ b → reply_to call m ≡ cond b (Some m) None
silent call m b e = ap (λ (x : Bool). cond x (Some m) None) e

pub none_said : (call : Message) (m : OutMessage) (serial : ℕ) → expects_reply call ≡ false → ([] ≡ spoken serial (option_to_list (reply_to call m))) × (serial ≡ last_spoken serial (option_to_list (reply_to call m)))
none_said call m serial e = (
  sym (ap (λ (o : Option OutMessage). spoken serial (option_to_list o)) (silent call m false e)),
  sym (ap (λ (o : Option OutMessage). last_spoken serial (option_to_list o)) (silent call m false e)),
)

pub one_said : (call : Message) (m : OutMessage) (serial next : ℕ) (piece : List ℕ) → expects_reply call ≡ true → piece ≡ message_bytes m (serial_after serial) → next ≡ serial_after serial
    → (piece ∷ [] ≡ spoken serial (option_to_list (reply_to call m))) × (next ≡ last_spoken serial (option_to_list (reply_to call m)))
one_said call m serial next piece e bytes is = (
  ap (λ (w : List ℕ). w ∷ []) bytes ∙ sym (ap (λ (o : Option OutMessage). spoken serial (option_to_list o)) (silent call m true e)),
  is ∙ sym (ap (λ (o : Option OutMessage). last_spoken serial (option_to_list o)) (silent call m true e)),
)
