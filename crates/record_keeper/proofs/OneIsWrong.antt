-- One thing is wrong with records, or none.
use Rattle.std.proofs.Common.{◌≡◌, ℕ, ◌+◌, inl, inr, length, Option, Some, None, refl, sym, ap, subst, ◌∙◌}
use Rattle.portal_base.specs.declared.limits.Limits.{Limits}
use Rattle.portal_model.specs.declared.records.Records.{Records}
use Rattle.record_keeper.specs.BadRecords.{IsVersion, IsWrong, IsFirstBadRecord, IsGoodDocument, IsGoodEntry}
use Rattle.record_keeper.specs.declared.fault.RecordsFault.{RecordsFault}
use Rattle.record_keeper.specs.declared.fault.RecordsFault.TheVariants.{BadVersion, BadRecord}
use Rattle.record_keeper.proofs.Behind.{one_first, none_bad}

one_index : (limits : Limits) (records : Records) (index other : ℕ) → IsFirstBadRecord limits records index → IsFirstBadRecord limits records other → index ≡ other
one_index limits records index other (inl a) (inl b) = one_first (IsGoodDocument records.version limits) records.documents index other a b
one_index limits records index other (inl a) (inr b) = absurd (none_bad (IsGoodDocument records.version limits) records.documents index b.0 a)
one_index limits records index other (inr a) (inl b) = absurd (none_bad (IsGoodDocument records.version limits) records.documents other a.0 b)
one_index limits records index other (inr (good, (place, a, is))) (inr (fine, (at, b, same))) =
    is ∙ ap (λ (n : ℕ). length records.documents + n) (one_first IsGoodEntry records.entries place at a b) ∙ sym same

none_wrong : (limits : Limits) (records : Records) (fault : RecordsFault) → IsWrong limits records None → IsWrong limits records (Some fault) → ⊥
none_wrong limits records (BadVersion found) good bad = bad.1 (subst IsVersion (sym bad.0) good.version)
none_wrong limits records (BadRecord index) good (version, inl bad) = none_bad (IsGoodDocument records.version limits) records.documents index good.documents bad
none_wrong limits records (BadRecord index) good (version, inr (fine, (place, bad, is))) = none_bad IsGoodEntry records.entries place good.entries bad

pub one_is_wrong : (limits : Limits) (records : Records) (one other : Option RecordsFault) → IsWrong limits records one → IsWrong limits records other → one ≡ other
one_is_wrong limits records None None a b = refl
one_is_wrong limits records None (Some fault) a b = absurd (none_wrong limits records fault a b)
one_is_wrong limits records (Some fault) None a b = absurd (none_wrong limits records fault b a)
one_is_wrong limits records (Some (BadVersion found)) (Some (BadVersion other)) a b = ap (λ (n : ℕ). Some (BadVersion n)) (a.0 ∙ sym b.0)
one_is_wrong limits records (Some (BadVersion found)) (Some (BadRecord index)) a b = absurd (a.1 (subst IsVersion (sym a.0) b.0))
one_is_wrong limits records (Some (BadRecord index)) (Some (BadVersion found)) a b = absurd (b.1 (subst IsVersion (sym b.0) a.0))
one_is_wrong limits records (Some (BadRecord index)) (Some (BadRecord other)) a b = ap (λ (n : ℕ). Some (BadRecord n)) (one_index limits records index other a.1 b.1)
