-- The records of the state in which a plan was followed.
use Rattle.std.proofs.Common.{◌≡◌, ℕ, ◌+◌, ◌≤◌, ◌==◌, length, length-append, List, map, [], ◌∷◌, ◌++◌, Bool, true, false, not, ◌&&◌, ◌||◌, cond, Option, Some, refl, sym, ap, ◌∙◌, arith}
use Rattle.std.specs.List.{filter, list_all, list_any}
use Rattle.std.proofs.lemmas.List.Folds.{list_any-append}
use Rattle.portal_base.specs.declared.names.doc_id.DocId.{DocId}
use Rattle.portal_base.specs.declared.who.Who.{Who}
use Rattle.portal_model.specs.declared.records.Records.{Records}
use Rattle.portal_model.specs.declared.request.AddRequest.{AddRequest}
use Rattle.portal_model.specs.declared.state.Document.{Document}
use Rattle.portal_model.specs.Kept.{records_of}
use Rattle.portal_model.specs.Outside.{AreDrawn}
use Rattle.portal_model.specs.RecordChanges.{changed_by}
use Rattle.portal_model.specs.State.{State, document_of}
use Rattle.portal_model.specs.Store.{record_of}
use Rattle.portal_model.specs.Valid.{Valid, is_made}
use Rattle.portal_model.proofs.DrawnNumbers.{Unused, drawn-unused}
use Rattle.portal_model.proofs.TripleOrder.{nat_is}
use Rattle.document_records.specs.Documents.{is_kept, is_persistent}
use Rattle.document_records.proofs.KeptDocuments.{is_here, kept_records}
use Rattle.add_files.specs.Plans.{Followed, IsOfCall, followed, none_followed}
use Rattle.add_files.specs.declared.plan.AddPlan.{AddPlan}
use Rattle.add_calls.specs.Limits.{AsPlanned}
use Rattle.add_calls.specs.Placing.{Book, followed_at}
use Rattle.add_calls.proofs.Counts.{as-planned}
use Rattle.add_serving.specs.Changes.{changes_of, plan_changes}
use Rattle.add_serving.proofs.Given.{Grown, grown-all, names, right-nil}
use Rattle.add_serving.proofs.Regranted.{changes-make, with_records}
use Rattle.add_serving.proofs.Stirred.{AreLeft, Idle, differs-so, idle-all, is_unkept, new_left}

-- ---- numbers that are drawn are of no kept document

unmade-unkept : (documents : List Document) (made : List DocId) (n : ℕ) → list_all (λ d. is_made made d.id.number) documents ≡ true → is_made made n ≡ false → is_kept documents n ≡ false
unmade-unkept [] made n h u = refl
unmade-unkept (d ∷ ds) made n h u = step (d.id.number == n) refl (is_made made d.id.number) refl h (unmade-unkept ds made n)
  where
    step : (b : Bool) → (d.id.number == n) ≡ b → (m : Bool) → is_made made d.id.number ≡ m → (m && list_all (λ (e : Document). is_made made e.id.number) ds) ≡ true →
        (list_all (λ (e : Document). is_made made e.id.number) ds ≡ true → is_made made n ≡ false → is_kept ds n ≡ false) → is_persistent (cond b (Some d) (document_of ds n)) ≡ false
    step true e true k h more = let no : true ≡ false = sym k ∙ (ap (is_made made) (nat_is d.id.number n e) ∙ u) in cc
    step true e false k h more = cc
    step false e true k h more = more h u
    step false e false k h more = cc

still-made : (documents : List Document) (made : List DocId) (n : DocId) → list_all (λ d. is_made made d.id.number) documents ≡ true → list_all (λ d. is_made (made ++ n ∷ []) d.id.number) documents ≡ true
still-made [] made n h = refl
still-made (d ∷ ds) made n h = step (is_made made d.id.number) refl h (still-made ds made n)
  where
    step : (m : Bool) → is_made made d.id.number ≡ m → (m && list_all (λ (e : Document). is_made made e.id.number) ds) ≡ true →
        (list_all (λ (e : Document). is_made made e.id.number) ds ≡ true → list_all (λ (e : Document). is_made (made ++ n ∷ []) e.id.number) ds ≡ true) →
        (is_made (made ++ n ∷ []) d.id.number && list_all (λ (e : Document). is_made (made ++ n ∷ []) e.id.number) ds) ≡ true
    step true k h more =
        let here : is_made (made ++ n ∷ []) d.id.number ≡ true = list_any-append (λ (id : DocId). id.number == d.id.number) made (n ∷ []) ∙ ap (λ (b : Bool). b || is_made (n ∷ []) d.id.number) k in
        (λ i. here i && more h i)
    step false k h more = cc

drawn-unkept : (documents : List Document) (made numbers : List DocId) → list_all (λ d. is_made made d.id.number) documents ≡ true → Unused made numbers → list_all (is_unkept documents) numbers ≡ true
drawn-unkept documents made [] h u = refl
drawn-unkept documents made (n ∷ ns) h u =
    let here : is_kept documents n.number ≡ false = unmade-unkept documents made n.number h u.0 in
    (λ i. not (here i) && drawn-unkept documents (made ++ n ∷ []) ns (still-made documents made n h) u.2 i)

enough-left : (made drawn used left : ℕ) → made + drawn ≡ made + used → used ≡ left → left ≤ drawn
enough-left made drawn used left e h = omega arith

-- ---- the state after

module _ (s : State) (v : Valid s) (who : Who) (a : AddRequest) (plan : AddPlan) (call : IsOfCall who a plan) (words : List ℕ) (numbers : List DocId) (drawn : AreDrawn s.made words numbers)
    (after : Book) (made : after.documents.made ≡ s.made ++ numbers) (told : List (Option DocId)) (follows : followed who a plan s numbers ≡ followed_at s after [] told) where
  abbrev pub records_then : Records
  records_then = with_records (map record_of s.entries) (kept_records after.rights after.documents.live)

  abbrev changes : Bool
  changes = plan_changes s.documents s.rights who a plan

  grown : Grown s.documents s.rights who a plan changes (none_followed s numbers) (followed who a plan s numbers)
  grown = grown-all s.documents s.rights who a plan plan.items (none_followed s numbers) v.rights_in_order

  live-is : after.documents.live ≡ s.documents ++ grown.news
  live-is = ap (λ (f : Followed). f.state.documents) (sym follows) ∙ grown.live

  rights-is : (followed who a plan s numbers).state.rights ≡ after.rights
  rights-is = ap (λ (f : Followed). f.state.rights) follows

  told-is : grown.told ≡ told
  told-is = sym grown.tells ∙ ap (λ (f : Followed). f.documents) follows

  pub records-differ : plan_changes s.documents s.rights who a plan ≡ true → records_then ≡ records_of s → ⊥
  records-differ h e =
      differs-so s.documents grown.news s.rights (followed who a plan s numbers).state.rights who a plan (grown.differs h)
      ((λ i. kept_records (rights-is i) (sym live-is i)) ∙ ap (λ (r : Records). r.documents) e)

  pub changes-make-them : changed_by (changes_of (length s.documents) after.documents.live after.rights told) (records_of s) ≡ records_then
  changes-make-them =
      (λ i. changed_by (changes_of (length s.documents) (live-is i) after.rights told) (records_of s))
      ∙ (changes-make s.documents grown.news s.rights after.rights told (map record_of s.entries) v.numbers_differ
      (λ m e. ap (filter (is_here m)) (sym rights-is) ∙ grown.apart m (ap (list_any (names m)) told-is ∙ e))
      ∙ (λ i. with_records (map record_of s.entries) (kept_records after.rights (sym live-is i))))

  none-idle : Idle s.documents s.rights who a plan v.numbers_differ [] (none_followed s numbers)
  none-idle = record {
    news = [];
    live = sym (right-nil s.documents);
    passing = refl;
    order = v.rights_in_order;
    grows = λ app m right h. h;
    kept = refl;
    new_ones = tt;
  }

  planned : AsPlanned who plan (record { most_live = s.limits.documents; most_made = s.limits.made; live = s.documents; made = s.made }) s (followed who a plan s numbers).state
  planned = as-planned who a plan (record { most_live = s.limits.documents; most_made = s.limits.made; live = s.documents; made = s.made }) s numbers call refl refl refl refl

  numbers-left : AreLeft s.documents s.rights who a plan v.numbers_differ numbers (new_left plan.items)
  numbers-left =
      let there : length (followed who a plan s numbers).state.made ≡ length (s.made ++ numbers) = ap (λ (f : Followed). length f.state.made) follows ∙ ap (λ (ids : List DocId). length ids) made in
      record {
        enough = enough-left (length s.made) (length numbers) plan.used (new_left plan.items) (sym (length-append s.made numbers) ∙ (sym there ∙ planned.makes)) call.used;
        unkept = drawn-unkept s.documents s.made numbers v.numbers_made (drawn-unused s.made words numbers drawn);
      }

  pub records-stay : plan_changes s.documents s.rights who a plan ≡ false → records_then ≡ records_of s
  records-stay h =
      let same = idle-all s.documents s.rights who a plan v.numbers_differ plan.items [] (none_followed s numbers) none-idle h call.earlier numbers-left in
      (λ i. with_records (map record_of s.entries) (kept_records (sym rights-is i) ((sym (ap (λ (f : Followed). f.state.documents) follows)) i)))
      ∙ (λ i. with_records (map record_of s.entries) (same i))
