-- A portal whose count of refusals becomes another.
use Rattle.std.specs.Prelude.{OnErr, OnOk, IfOk}
use Rattle.std.proofs.Common.{◌≡◌, ℕ, List, Option, Result, Ok, Err, sym, ap, ◌∙◌}
use Rattle.host_tree.specs.Trees.{TreeIs}
use Rattle.record_keeper.specs.Keepers.{KeeperIs}
use Rattle.portal_model.specs.declared.entry.Entry.{Entry}
use Rattle.portal_model.specs.declared.reply.Refused.{Refused}
use Rattle.portal_model.specs.declared.reply.Reply.{Reply}
use Rattle.portal_model.specs.declared.request.Request.{Request}
use Rattle.portal_steps.specs.Answered.{Answers, Spends, Went}
use Rattle.portal_steps.specs.Story.{IsAsBefore, OnlyCounts, PortalIs}

abbrev pub counted_at : {T K C W : Type 0} → PortalIs T K C W → ℕ → PortalIs T K C W
counted_at p n = record p { refusals = n }

pub as_before : {T K C W : Type 0} (old mid new : PortalIs T K C W) (n : ℕ) → new ≡ counted_at mid n → IsAsBefore old mid → IsAsBefore old new
as_before {T = T} {K = K} {C = C} {W = W} old mid new n e same =
    let spare : mid.spare ≡ new.spare = sym (ap (λ (p : PortalIs T K C W). p.spare) e) in
    let count : n ≡ new.refusals = sym (ap (λ (p : PortalIs T K C W). p.refusals) e) in
    e ∙ (ap (λ (p : PortalIs T K C W). counted_at p n) same ∙ (λ i. record old { spare = spare i; refusals = count i }))

pub only_counts : {T K C W : Type 0} (old mid new : PortalIs T K C W) (n : ℕ) → new ≡ counted_at mid n → mid ≡ old → OnlyCounts old new
only_counts {T = T} {K = K} {C = C} {W = W} old mid new n e same =
    let count : n ≡ new.refusals = sym (ap (λ (p : PortalIs T K C W). p.refusals) e) in
    e ∙ (ap (λ (p : PortalIs T K C W). counted_at p n) same ∙ (λ i. record old { refusals = count i }))

pub as_before_err : {T K C W : Type 0} (r : Result Reply Refused) (old mid new : PortalIs T K C W) (n : ℕ) → new ≡ counted_at mid n → OnErr r (IsAsBefore old mid) → OnErr r (IsAsBefore old new)
as_before_err (Ok reply) old mid new n e h = h
as_before_err (Err why) old mid new n e h = as_before old mid new n e h

module _ {T K C W : Type 0} (tree_is : T → TreeIs) (keeper_is : K → KeeperIs) (clock_reads : C → ℕ → C → Type 0) (words_told : W → Option (List ℕ)) (old mid : PortalIs T K C W) (n : ℕ) where
  went_counted : (e : Entry) → Went tree_is keeper_is clock_reads words_told old e mid → Went tree_is keeper_is clock_reads words_told old e (counted_at mid n)
  went_counted e w = record {
    grown = w.grown;
    tree = w.tree;
    keeper = w.keeper;
    clock = w.clock;
    words = w.words;
    unkept = w.unkept;
    undrawn = w.undrawn;
  }

  answers_counted : (seat : ℕ) (request : Request) (reply : Reply) → Answers tree_is keeper_is clock_reads words_told old mid seat request reply → Answers tree_is keeper_is clock_reads words_told old (counted_at mid n) seat request reply
  answers_counted seat request reply a = record {
    entry = a.entry;
    grown = a.grown;
    seat_is = a.seat_is;
    request_is = a.request_is;
    lawful = a.lawful;
    reply_is = a.reply_is;
    went = went_counted a.entry a.went;
  }

  spends_counted : (request : Request) → Spends tree_is keeper_is clock_reads words_told old request mid → Spends tree_is keeper_is clock_reads words_told old request (counted_at mid n)
  spends_counted request s = record {
    tree = s.tree;
    few = s.few;
    looks = s.looks;
    keeper = s.keeper;
    clock = s.clock;
    words = s.words;
    drawn = s.drawn;
    made = s.made;
    story = s.story;
    unkept = s.unkept;
    unasked = s.unasked;
    undrawn = s.undrawn;
    unread = s.unread;
  }

  pub ok_counted : (r : Result Reply Refused) (seat : ℕ) (request : Request) → IfOk r (Answers tree_is keeper_is clock_reads words_told old mid seat request) → IfOk r (Answers tree_is keeper_is clock_reads words_told old (counted_at mid n) seat request)
  ok_counted (Ok reply) seat request h = answers_counted seat request reply h
  ok_counted (Err why) seat request h = h

  pub err_counted : (r : Result Reply Refused) (request : Request) → OnErr r (Spends tree_is keeper_is clock_reads words_told old request mid) → OnErr r (Spends tree_is keeper_is clock_reads words_told old request (counted_at mid n))
  err_counted (Ok reply) request h = h
  err_counted (Err why) request h = spends_counted request h

-- what the count becomes
pub on_ok : (r : Result Reply Refused) (new n before old : ℕ) → new ≡ n → before ≡ old → OnOk r (n ≡ before) → OnOk r (new ≡ old)
on_ok (Ok reply) new n before old a b h = a ∙ (h ∙ b)
on_ok (Err why) new n before old a b h = h

pub on_err : (r : Result Reply Refused) (rise : ℕ → ℕ) (new n before old : ℕ) → new ≡ n → before ≡ old → OnErr r (n ≡ rise before) → OnErr r (new ≡ rise old)
on_err (Ok reply) rise new n before old a b h = h
on_err (Err why) rise new n before old a b h = a ∙ (h ∙ ap rise b)
