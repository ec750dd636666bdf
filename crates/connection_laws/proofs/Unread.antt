-- What an application may not read is in no reply, and in no byte that its client is written.
use Rattle.std.proofs.Common.{◌≡◌, ℕ, List, true, refl, sym, ap, ◌∙◌}
use Rattle.portal_model.specs.declared.entry.Entry.{Entry}
use Rattle.portal_model.specs.declared.reply.Reply.{Reply}
use Rattle.portal_model.specs.State.{State}
use Rattle.portal_model.specs.Step.{reply_at}
use Rattle.app_world.specs.View.{AppView, view}
use Rattle.app_world.specs.World.{own_of}
use Rattle.app_world.proofs.WorldLaws.{steps}
use Rattle.session.specs.declared.act.Client.{Client}
use Rattle.session.specs.declared.served.Stop.{Stop}
use Rattle.session.specs.Connections.{Whole}
use Rattle.connection_laws.specs.Blinded.{blinded, own_blinded}
use Rattle.connection_laws.specs.OwnPlaces.{replies_to}
use Rattle.connection_laws.specs.Served.{Service, replies_seen}
use Rattle.connection_laws.specs.Unread.{BytesAreOfTheBlindedTrace, HaveOneBlindedTrace, IsOwnEntry, UnreadBytesAreInNoReply, with_file, with_file_below, with_file_named}
use Rattle.connection_laws.proofs.BlindedSeats.{replies-blinded}
use Rattle.connection_laws.proofs.BlindedSteps.{other-below, other-bytes, other-named, same-reply, same-sight}
use Rattle.connection_laws.proofs.Bytes.{pieces-are, seats-are}

-- its own machine replies as the portal does
portal-reply : (app : List ℕ) (s t : State) (e f : Entry) → IsOwnEntry app s e → IsOwnEntry app t f → blinded (view s app) ≡ blinded (view t app) → own_blinded (own_of s e) ≡ own_blinded (own_of t f) → reply_at s e ≡ reply_at t f
portal-reply app s t e f k l h o =
    ap (λ (p : AppView × Reply). p.1) (sym (steps.own app s e k.told k.valid k.lawful k.made))
    ∙ (same-reply (view s app) (view t app) (own_of s e) (own_of t f) h o ∙ ap (λ (p : AppView × Reply). p.1) (steps.own app t f l.told l.valid l.lawful l.made))

pub no-reply : UnreadBytesAreInNoReply
no-reply = record {
  unread = λ v front back name bytes other moment own r n.
      same-reply (with_file v front back name bytes moment) (with_file v front back name other moment) own own (other-bytes v name bytes other moment r n front back) refl;
  below = λ v front back folder first last name bytes other moment own r n.
      same-reply (with_file_below v front back folder first last name bytes moment) (with_file_below v front back folder first last name other moment) own own (other-below v name bytes other moment r n front back folder first last) refl;
  named = λ v front back name bytes other moment own r n.
      same-reply (with_file_named v front back name bytes moment) (with_file_named v front back name other moment) own own (other-named v name bytes other moment r n front back) refl;
  reply = same-reply;
  portal = portal-reply;
  sight = same-sight;
}

module _ (app : List ℕ) (c : Client) (x y : Service c) (read left rest : List ℕ) (what why : Stop) (i : Whole c read left what x.before x.after) (j : Whole c read rest why y.before y.after) (one : HaveOneBlindedTrace app c x y) where
  first_told : x.after.seated.opening.told ≡ true
  first_told = ap (λ (s : State). s.told) i.asked.grows.desk.moved.opening ∙ one.first.1

  second_told : y.after.seated.opening.told ≡ true
  second_told = ap (λ (s : State). s.told) j.asked.grows.desk.moved.opening ∙ one.second.1

  same-seen : replies_seen app y.after.seated ≡ replies_seen app x.after.seated
  same-seen =
      sym (replies-blinded app y.after.seated second_told y.known)
      ∙ ((λ k. replies_to (seats-are app c x y read left rest what why i j one.seat k) (one.trace k))
      ∙ replies-blinded app x.after.seated first_told x.known)

pub bytes-blinded : BytesAreOfTheBlindedTrace
bytes-blinded = record {
  replies = replies-blinded;
  bytes = λ app c x y read left rest what why i j one refused.
      pieces-are app c x y read left rest what why i j one.first one.second (same-seen app c x y read left rest what why i j one) refused;
}
