use Rattle.std.proofs.Common.{◌≡◌, List, sym, subst, ◌∙◌}
use Rattle.portal_model.specs.declared.records.EntryRecord.{EntryRecord}
use Rattle.record_keeper.specs.KeptEntries.{KeepEntries}
use Rattle.record_keeper.proofs.KeptFacts.{kept_in_one_way}
use Rattle.portal_start.specs.Laws.{VersionsOpenAlike}
use Rattle.portal_start.specs.Loading.{opening_loaded}
use Rattle.portal_start.proofs.laws.versions_open_alike.Goals as goal

alike : VersionsOpenAlike
alike limits one other first second documents entries a b =
    let kept : KeepEntries one.entries second.entries = subst (λ (records : List EntryRecord). KeepEntries records second.entries) (sym entries) b.entries in
    let same : first.entries ≡ second.entries = kept_in_one_way one.entries first.entries second.entries a.entries kept in
    let moved : opening_loaded first.entries limits one ≡ opening_loaded second.entries limits other = λ i. opening_loaded (same i) limits (record { version = one.version; documents = documents i; entries = one.entries }) in
    a.whole ∙ moved ∙ sym b.whole

pub returns : goal.returns
returns c = alike
