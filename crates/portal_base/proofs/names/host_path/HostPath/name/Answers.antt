use Rattle.std.proofs.Common.{List, ℕ, length, drop, ◌-◌, not, ap, ◌∙◌}
use Rattle.std.specs.List.{suffix_len}
use Rattle.portal_base.specs.Names.{name_of, is_slash}
use Rattle.portal_base.proofs.names.host_path.HostPath.name.Goals as goal

pub returns : goal.returns
unfolding name_of
returns c =
    let t : List ℕ = c.args.self.now in
    let e = c.as_bytes-text.ensures.bytes in
    c.split_at.ensures.back ∙ (λ i. drop (c.behind_last_slash.ensures.place i) (c.as_bytes-text.result.now)) ∙ ap (λ (x : List ℕ). drop (length x - suffix_len (λ b. not (is_slash b)) x) x) e
