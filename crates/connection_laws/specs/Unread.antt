-- What an application may not read is in no reply to it, and in no byte that its client is written:
-- these are functions of what is in sight of it.
use Rattle.std.specs.Prelude.{◌≡◌, ℕ, List, ◌∷◌, ◌++◌, length, true, false}
use Rattle.portal_base.specs.declared.files.File.{File}
use Rattle.portal_base.specs.declared.files.FileName.{FileName}
use Rattle.portal_model.specs.declared.entry.Entry.{Entry}
use Rattle.portal_model.specs.Content.{OfFile}
use Rattle.portal_model.specs.History.{Legal, makes, replies}
use Rattle.portal_model.specs.Lawful.{Lawful}
use Rattle.portal_desk.specs.Knowing.{Known}
use Rattle.portal_model.specs.Seated.{Seated}
use Rattle.portal_model.specs.State.{State}
use Rattle.portal_model.specs.Step.{after, reply_at}
use Rattle.portal_model.specs.Valid.{Valid}
use Rattle.app_world.specs.Effect.{apply_all, file_of}
use Rattle.app_world.specs.Own.{Own}
use Rattle.app_world.specs.View.{AppView, NamedFile, PathBelow, PathContent, view}
use Rattle.app_world.specs.World.{Trace, app_run, app_step, own_of, touch}
use Rattle.session.specs.declared.act.Client.{Client}
use Rattle.session.specs.declared.served.Stop.{Stop}
use Rattle.session.specs.Connections.{Whole}
use Rattle.connection_laws.specs.Blinded.{blind_but, blinded, own_blinded, reads}
use Rattle.connection_laws.specs.BlindedTrace.{blinded_effects, blinded_trace, sights}
use Rattle.connection_laws.specs.OwnPlaces.{replies_to}
use Rattle.connection_laws.specs.Served.{IsOf, Service, refusals_in, replies_seen}

-- ---- one request

-- a view that has a file with these bytes
abbrev pub with_file :
    AppView → List PathContent → List PathContent → FileName → List ℕ → ℕ → AppView
with_file v front back name bytes moment = record v {
  contents =
      front
      ++ record { path = name.path; content = OfFile name.generation bytes moment } ∷ back;
}

-- and one that has it below a folder
abbrev pub with_file_below :
    AppView → List PathBelow → List PathBelow → List ℕ → List File → List File → FileName
    → List ℕ → ℕ → AppView
with_file_below v front back folder first last name bytes moment =
    let file = file_of name.path name.generation bytes moment in
    record v {
      below = front ++ record { path = folder; files = first ++ file ∷ last } ∷ back;
    }

-- and one that knows it by its name
abbrev pub with_file_named :
    AppView → List NamedFile → List NamedFile → FileName → List ℕ → ℕ → AppView
with_file_named v front back name bytes moment = record v {
  files = front ++ record { name = name; bytes = bytes; moment = moment } ∷ back;
}

-- an entry that the application makes, over a tree that tells its files
pub record IsOwnEntry (app : List ℕ) (s : State) (e : Entry) : Type 0 where
  pub told : s.told ≡ true
  pub valid : Valid s
  pub lawful : Lawful s e
  pub made : makes app s e ≡ true

pub record UnreadBytesAreInNoReply : Type 0 where
  -- other bytes, as many, in a file that the application may not read make no other reply
  pub unread :
      (v : AppView) (front back : List PathContent) (name : FileName) (bytes other : List ℕ)
      (moment : ℕ) (own : Own) → reads v name ≡ false → length bytes ≡ length other →
      (app_step (with_file v front back name bytes moment) own).1
      ≡ (app_step (with_file v front back name other moment) own).1
  pub below :
      (v : AppView) (front back : List PathBelow) (folder : List ℕ) (first last : List File)
      (name : FileName) (bytes other : List ℕ) (moment : ℕ) (own : Own) →
      reads v name ≡ false → length bytes ≡ length other →
      (app_step (with_file_below v front back folder first last name bytes moment) own).1
      ≡ (app_step (with_file_below v front back folder first last name other moment) own).1
  pub named :
      (v : AppView) (front back : List NamedFile) (name : FileName) (bytes other : List ℕ)
      (moment : ℕ) (own : Own) → reads v name ≡ false → length bytes ≡ length other →
      (app_step (with_file_named v front back name bytes moment) own).1
      ≡ (app_step (with_file_named v front back name other moment) own).1
  -- views that are equal when blinded give equal replies to requests that are
  pub reply :
      (v w : AppView) (own other : Own) → blinded v ≡ blinded w →
      own_blinded own ≡ own_blinded other → (app_step v own).1 ≡ (app_step w other).1
  -- and so does the portal, in states of which the views are equal when blinded
  pub portal :
      (app : List ℕ) (s t : State) (e f : Entry) → IsOwnEntry app s e → IsOwnEntry app t f →
      blinded (view s app) ≡ blinded (view t app) →
      own_blinded (own_of s e) ≡ own_blinded (own_of t f) → reply_at s e ≡ reply_at t f
  -- in the views after it is equal what was in sight ahead of it
  pub sight :
      (v w : AppView) (own : Own) → blinded v ≡ blinded w →
      blind_but (reads v) (app_step v own).0 ≡ blind_but (reads v) (app_step w own).0

-- One entry, where the views are equal when blinded ahead of it. An own one is answered as in the
-- portal; and with what is in sight then, or what others change, they are so after it.
pub record BlindedStepsAreSeen : Type 0 where
  pub reply :
      (app : List ℕ) (s : State) (e : Entry) (w : AppView) → IsOwnEntry app s e →
      blinded w ≡ blinded (view s app) →
      (app_step w (own_blinded (own_of s e))).1 ≡ reply_at s e
  pub own :
      (app : List ℕ) (s : State) (e : Entry) (w : AppView) → IsOwnEntry app s e →
      blinded w ≡ blinded (view s app) →
      blinded (apply_all (app_step w (own_blinded (own_of s e))).0
      (sights (view (after s e) app)))
      ≡ blinded (view (after s e) app)
  pub other :
      (app : List ℕ) (s : State) (e : Entry) (w : AppView) → Valid s → Lawful s e →
      makes app s e ≡ false → blinded w ≡ blinded (view s app) →
      blinded (apply_all w (blinded_effects (view (after s e) app) (touch app s e)))
      ≡ blinded (view (after s e) app)

-- ---- all replies

-- in every legal history over a tree that tells, the replies to an application are what its own
-- machine replies to its blinded trace
abbrev pub RepliesAreOfTheBlindedTrace : Type 0
RepliesAreOfTheBlindedTrace =
    (app : List ℕ) (s : State) (h : List Entry) → s.told ≡ true → Legal s h →
    replies app s h ≡ app_run (blinded_trace app s h)

-- ---- connections

-- the blinded trace, as far as a desk has seen the history
abbrev pub blinded_seen : List ℕ → Seated → Trace
blinded_seen app d = blinded_trace app d.opening d.seen

-- Two connections of one application, be it at two portals, have one blinded trace behind them, in
-- which they have one seat.
pub record HaveOneBlindedTrace (app : List ℕ) (c : Client) (x y : Service c) : Type 0 where
  pub first : IsOf app c x
  pub second : IsOf app c y
  pub seat : y.before.seated.seat ≡ x.before.seated.seat
  pub trace : blinded_seen app y.after.seated ≡ blinded_seen app x.after.seated

pub record BytesAreOfTheBlindedTrace : Type 0 where
  -- over the blinded trace the machine replies the same to the seat of a desk
  pub replies :
      (app : List ℕ) (d : Seated) → d.opening.told ≡ true → Known d →
      replies_to d.seat (blinded_seen app d) ≡ replies_seen app d
  -- Where two such have one client's settings and read the same, and the same requests were refused
  -- in the same way, what answers the items of both are the same pieces of bytes.
  pub bytes :
      (app : List ℕ) (c : Client) (x y : Service c) (read left rest : List ℕ) (what why : Stop)
      (i : Whole c read left what x.before x.after)
      (j : Whole c read rest why y.before y.after) → HaveOneBlindedTrace app c x y →
      refusals_in j.all.outcomes ≡ refusals_in i.all.outcomes → j.all.pieces ≡ i.all.pieces
