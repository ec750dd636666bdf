-- What an open file may do now, by the rights that were looked up for it.
use Rattle.std.proofs.Common.{◌≡◌, Bool, true, false, not, ◌&&◌, ◌||◌, refl, sym, ap, ◌∙◌}
use Rattle.portal_model.specs.Reach.{OpenFile, Reach, Reaching, reach_of, reaches}
use Rattle.app_view.specs.Reached.{reach_told}
use Rattle.app_view.specs.declared.rights_now.Reach.{Reach as ReachTold}
use Rattle.app_view.specs.Opened.{IsAllowed}

all : (b : Bool) → b ≡ (b && true)
all true = refl
all false = refl

three : (a b c : Bool) → ((a && b) && c) ≡ (a && (b && c))
three true b c = refl
three false b c = refl

module _ (reach : Reaching) (file : OpenFile) where
  -- a document that isn't strict asks no rights
  pub allowed-plain : file.strict ≡ false → IsAllowed reach file (record { reach = true; read = file.read; write = file.write })
  allowed-plain e =
      let one : reaches reach file ≡ true = ap (λ (b : Bool). not b || (reach_of reach file).read) e in
      record {
        reach_is = sym one;
        read_is = all file.read ∙ sym (ap (λ (b : Bool). file.read && b) one);
        write_is = all file.write ∙ sym (λ i. file.write && (one i && (not (e i) || (reach_of reach file).write)));
      }

  pub allowed-strict : (now : ReachTold) → file.strict ≡ true → reach_told now ≡ reach_of reach file →
      IsAllowed reach file (record { reach = now.read; read = file.read && now.read; write = (file.write && now.read) && now.write })
  allowed-strict now e h =
      let one : now.read ≡ reaches reach file = ap (λ (r : Reach). r.read) h ∙ sym (ap (λ (b : Bool). not b || (reach_of reach file).read) e) in
      let two : now.write ≡ (not file.strict || (reach_of reach file).write) = ap (λ (r : Reach). r.write) h ∙ sym (ap (λ (b : Bool). not b || (reach_of reach file).write) e) in
      record {
        reach_is = one;
        read_is = ap (λ (b : Bool). file.read && b) one;
        write_is = three file.write now.read now.write ∙ (λ i. file.write && (one i && two i));
      }
