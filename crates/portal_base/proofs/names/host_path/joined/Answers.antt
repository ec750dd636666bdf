use Rattle.std.proofs.Common.{◌≡◌, ℕ, List, [], ◌∷◌, ◌++◌, Bool, true, false, cond, sym, ap, ◌∙◌, append_assoc}
use Rattle.portal_base.specs.Names.{child_of, is_same, root}
use Rattle.portal_base.proofs.names.host_path.joined.Goals as goal
use Rattle.portal_base.proofs.names.host_path.joined.Goals.{then-not-is_root+in_ok-push, else-not-is_root}

at_root : (path name : List ℕ) → is_same path root ≡ true → path ++ name ≡ child_of path name
unfolding child_of
at_root path name e = sym (ap (λ (x : Bool). cond x (path ++ name) (path ++ 47 ∷ name)) e)

below_root : (path name : List ℕ) → is_same path root ≡ false → (path ++ 47 ∷ []) ++ name ≡ child_of path name
unfolding child_of
below_root path name e = append_assoc path (47 ∷ []) name ∙ sym (ap (λ (x : Bool). cond x (path ++ name) (path ++ 47 ∷ name)) e)

pub returns : goal.returns
returns c =
    let n : List ℕ = c.args.name.now in
    let text : c.in_ok-text.text ≡ c.args.path.now = c.in_ok-text.ensures in
    let e : c.extend_from_slice.new.self ≡ c.if-not-is_root.text ++ n = c.in_ok-extend_from_slice.ensures.ok in
    elim c.if-not-is_root.branch [
      | then-not-is_root+in_ok-push w ↦
          e ∙ (λ i. (w.text-is ∙ w.in_ok-push.ensures.ok ∙ ap (λ (x : List ℕ). x ++ 47 ∷ []) text) i ++ n)
          ∙ below_root c.args.path.now n (sym c.is_root.ensures ∙ w.if-not-is_root.true)
      | else-not-is_root w ↦
          e ∙ (λ i. (w.text-is ∙ text) i ++ n)
          ∙ at_root c.args.path.now n (sym c.is_root.ensures ∙ w.if-not-is_root.false)
    ]
