-- What a tree is after it was asked some times: just the calls were made that an entry tells with its looks.
use Rattle.std.proofs.Common.{◌≡◌, ◌≤◌, ℕ, zero, suc, List, length, replicate, Bool, true, false, refl, sym, ap, subst, arith}
use Rattle.portal_base.specs.Outside.{HasRisen}
use Rattle.host_tree.specs.Trees.{TreeIs, after_call}
use Rattle.host_tree.specs.declared.tree.TreeCall.TheVariants as TreeCall
use Rattle.node_looks.specs.TreeCalls.{Call}
use Rattle.add_calls.specs.Shown.{Asked}
use Rattle.add_serving.specs.Adds.{WasAsked}
use Rattle.portal_steps.specs.TreeCalls.{Calling, WasCalledUpTo}
use Rattle.portal_steps.proofs.BusCalls.{listed, listed-none}

-- the calls are those that are listed so
pub asked-calling : (calls : ℕ) (failed : Bool) (old new : TreeIs) → Asked old calls failed new → Calling old (listed calls failed) old.told new
asked-calling zero true old new k = record { goes = k.goes; fails = (k.fails, tt) }
asked-calling zero false old new k = record { goes = k; fails = tt }
asked-calling (suc n) failed old new k =
    let rest = asked-calling n failed (after_call old TreeCall.Look false old.told) new k.1 in
    record { goes = rest.goes; fails = (k.0, rest.fails) }

so-many : (n : ℕ) → length (replicate n TreeCall.Look) ≡ n
so-many zero = refl
so-many (suc n) = ap suc (so-many n)

pub was-asked-called : (most : ℕ) (old new : TreeIs) → WasAsked most old new → WasCalledUpTo most old new
was-asked-called most old new k = (
  replicate k.0 TreeCall.Look,
  subst (λ (calls : List Call). Calling old calls old.told new) (listed-none k.0) (asked-calling k.0 false old new k.1),
  subst (λ (n : ℕ). n ≤ most) (sym (so-many k.0)) k.2,
)

-- ---- what stays of the tree

asked-began : (calls : ℕ) (failed : Bool) (old new : TreeIs) → Asked old calls failed new → new.began ≡ old.began
asked-began zero true old new k = ap (λ (t : TreeIs). t.began) k.goes
asked-began zero false old new k = ap (λ (t : TreeIs). t.began) k
asked-began (suc n) failed old new k = asked-began n failed (after_call old TreeCall.Look false old.told) new k.1

asked-told : (calls : ℕ) (failed : Bool) (old new : TreeIs) → Asked old calls failed new → new.told ≡ old.told
asked-told zero true old new k = ap (λ (t : TreeIs). t.told) k.goes
asked-told zero false old new k = ap (λ (t : TreeIs). t.told) k
asked-told (suc n) failed old new k = asked-told n failed (after_call old TreeCall.Look false old.told) new k.1

-- the files that it began with, and those that it tells
pub asked-keeps : (calls : ℕ) (failed : Bool) (old new : TreeIs) → Asked old calls failed new → (new.began ≡ old.began) × (new.told ≡ old.told)
asked-keeps calls failed old new k = (asked-began calls failed old new k, asked-told calls failed old new k)

pub was-asked-keeps : (most : ℕ) (old new : TreeIs) → WasAsked most old new → (new.began ≡ old.began) × (new.told ≡ old.told)
was-asked-keeps most old new k = asked-keeps k.0 false old new k.1

-- ---- faults

asked-counts : (calls : ℕ) (old new : TreeIs) → Asked old calls true new → HasRisen old.faults new.faults
asked-counts zero old new k = rw k.goes (omega arith)
asked-counts (suc n) old new k = asked-counts n (after_call old TreeCall.Look false old.told) new k.1

-- the count of faults rose where a call failed
pub asked-risen : (calls : ℕ) (failed : Bool) (old new : TreeIs) → Asked old calls failed new → failed ≡ true → HasRisen old.faults new.faults
asked-risen calls failed old new k e = asked-counts calls old new (subst (λ (b : Bool). Asked old calls b new) e k)
