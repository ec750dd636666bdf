use Rattle.std.proofs.Common.{ℕ, List, take, get_or, refl, length, ◌≡◌, ◌≤◌, inl, inr, Some, Bool, true, false, ◌&&◌, arith, subst, sym, ap, ◌∙◌}
use Rattle.std.proofs.lemmas.List.{take_more, take_all}
use Rattle.portal_base.specs.Names.{path_limit}
use Rattle.portal_base.specs.PathReading.{part_after, next_after, is_lead, is_whole_part}
use Rattle.portal_base.specs.declared.names.path_reader.Part.{Part}
use Rattle.portal_base.specs.declared.names.path_reader.Next.{Next}
use Rattle.portal_base.proofs.PathBreaks.{HasRead, nothing_read, one_read, stays_live, too_long, wrong_byte, ends_early, is_path}
use Rattle.portal_base.proofs.names.path_reader.first_break.Goals as goal
use Rattle.portal_base.proofs.names.path_reader.first_break.Goals.{else-is_whole-via-then-is_whole+else-is_lead, else-is_whole-via-else-is_whole}

pub loop-at-init : goal.loop-at-init
loop-at-init c = record { within = omega arith; live = refl; read = nothing_read }

pub loop-at-preserved : goal.loop-at-preserved
loop-at-preserved c =
    let l = c.loop-at in
    let t : List _ = c.args.text.now in
    let p : part_after l.part (get_or t l.at 0) ≡ Some c.in-Some.longer = sym c.after.ensures ∙ c.in-Some.is in
    let n : next_after l.next (get_or t l.at 0) ≡ Some c.in-Some-after.then = sym c.after-in-loop-at.ensures ∙ c.in-Some-after.is in
    record {
      within = let d = c.if-at-eq-LIMIT.false in omega arith;
      live = stays_live l.part c.in-Some.longer c.in-Some-after.then (get_or t l.at 0) p;
      read = subst (HasRead c.in-Some-after.then c.in-Some.longer) (sym (take_more t l.at 0 c.loop-at-test.true))
          (one_read l.next c.in-Some-after.then l.part c.in-Some.longer (take l.at t) (get_or t l.at 0) l.invariant.read n p);
    }

pub returns-then-at-eq-LIMIT-clause-some : goal.returns-then-at-eq-LIMIT-clause-some
returns-then-at-eq-LIMIT-clause-some c =
    let l = c.loop-at in
    too_long l.next l.part c.args.text.now l.at l.invariant.live l.invariant.read c.if-at-eq-LIMIT.true c.loop-at-test.true

pub returns-in_default-clause-some : goal.returns-in_default-clause-some
returns-in_default-clause-some c =
    let l = c.loop-at in
    wrong_byte l.next l.part c.args.text.now l.at l.invariant.live l.invariant.read l.invariant.within c.loop-at-test.true (inr (sym c.after.ensures ∙ c.in_default.is))

pub returns-in_default-after-clause-some : goal.returns-in_default-after-clause-some
returns-in_default-after-clause-some c =
    let l = c.loop-at in
    wrong_byte l.next l.part c.args.text.now l.at l.invariant.live l.invariant.read l.invariant.within c.loop-at-test.true (inl (sym c.after-in-loop-at.ensures ∙ c.in_default-after.is))

-- the whole text is read
all_read : (n : Next) (s : Part) (t : List ℕ) (i : ℕ) → HasRead n s (take i t) → length t ≤ i → HasRead n s t
all_read n s t i h e = subst (HasRead n s) (take_all i t e) h

no_whole : (x y : Bool) → y ≡ false → (x && y) ≡ false
no_whole true y e = e
no_whole false y e = refl

pub returns-then-is_lead-clause-none : goal.returns-then-is_lead-clause-none
returns-then-is_lead-clause-none c =
    let l = c.loop-at in
    let lead : is_lead l.next ≡ true = sym c.is_lead.ensures ∙ c.if-is_lead.true in
    let whole : is_whole_part l.part ≡ true = sym c.is_whole.ensures ∙ c.if-is_whole.true in
    let short : length c.args.text.now ≤ path_limit = let e = l.invariant.within in let f = c.loop-at-test.false in omega arith in
    is_path l.next l.part c.args.text.now l.invariant.live (all_read l.next l.part c.args.text.now l.at l.invariant.read c.loop-at-test.false) short (λ i. lead i && whole i)

pub returns-else-is_whole-clause-some : goal.returns-else-is_whole-clause-some
returns-else-is_whole-clause-some c =
    let l = c.loop-at in
    let short : length c.args.text.now ≤ path_limit = let e = l.invariant.within in let f = c.loop-at-test.false in omega arith in
    let early = ends_early l.next l.part c.args.text.now l.invariant.live (all_read l.next l.part c.args.text.now l.at l.invariant.read c.loop-at-test.false) short in
    elim c.else-is_whole.branch [
      | else-is_whole-via-then-is_whole+else-is_lead w ↦ early (ap (λ (x : Bool). x && is_whole_part l.part) (sym w.is_lead.ensures ∙ w.if-is_lead.false))
      | else-is_whole-via-else-is_whole w ↦ early (no_whole (is_lead l.next) (is_whole_part l.part) (sym c.is_whole.ensures ∙ w.if-is_whole.false))
    ]
