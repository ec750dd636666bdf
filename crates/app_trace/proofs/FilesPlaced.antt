-- The files of an opening state, each put at its place.
use Rattle.std.proofs.Common.{◌≡◌, ℕ, ◌+◌, ◌<◌, List, [], ◌∷◌, ◌++◌, length, map, take, drop, get_or, Bool, true, false, not, ◌&&◌, ◌||◌, cond, Option, Some, None, refl, sym, ap, subst, ◌∙◌}
use Rattle.std.proofs.lemmas.List.{append-nil, append_assoc, map-append, take-append-drop}
use Rattle.std.proofs.lemmas.List.Elements.{filter-append}
use Rattle.std.proofs.lemmas.List.Folds.{list_any-append}
use Rattle.std.specs.List.{filter, AllByRecursion, IsDistinct, list_all, list_any}
use Rattle.std.specs.List.Sorted.{IsStrictlySortedBy}
use Rattle.std.specs.Ordering.{is_lt, ordering_reverse}
use Rattle.std.specs.declared.cmp.Ordering.TheVariants.{Less}
use Rattle.host_tree.proofs.Entries.{same-is}
use Rattle.portal_base.specs.Content.{file_at, is_above, is_folder, content_of, paths_of}
use Rattle.portal_base.specs.FileChanges.{put_file}
use Rattle.portal_base.specs.Names.{is_same, parent_of, root}
use Rattle.portal_base.specs.PathOrder.{path_order}
use Rattle.portal_base.specs.PathOrders.{path_order_total}
use Rattle.portal_base.specs.declared.files.File.{File}
use Rattle.portal_base.proofs.PathsAbove.{any-paths, any-put, both}
use Rattle.file_generations.specs.Generations.{Held, put_present}
use Rattle.portal_model.specs.declared.opening.FileItem.{FileItem}
use Rattle.portal_model.specs.Opening.{file_of}
use Rattle.app_world.specs.View.{path_content}
use Rattle.document_records.proofs.Loops.{one_more}
use Rattle.tree_files.specs.Kept.{put_hidden}
use Rattle.app_trace.specs.Contents.{ShowAlike, with_item}

-- ---- one file more, at its place or behind the others

found-put : (f : File) (fs : List File) (p : List ℕ) → file_at fs f.path ≡ None →
    file_at (put_file f fs) p ≡ cond (is_same f.path p) (Some f) (file_at fs p)
found-put f [] p e = refl
found-put f (g ∷ gs) p e =
    step (is_lt (path_order f.path g.path)) (is_same g.path f.path) refl e (found-put f gs p)
  where
    apart : (a b : Bool) → is_same g.path p ≡ a → is_same f.path p ≡ b →
        is_same g.path f.path ≡ false →
        cond a (Some g) (cond b (Some f) (file_at gs p))
        ≡ cond b (Some f) (cond a (Some g) (file_at gs p))
    apart true true k l d =
        let both : is_same g.path f.path ≡ true =
        (λ i. is_same g.path (same-is f.path p l i)) ∙ k in
        let no : true ≡ false = sym both ∙ d in
        absurd (cc)
    apart true false k l d = refl
    apart false b k l d = refl

    step : (b c : Bool) → is_same g.path f.path ≡ c → cond c (Some g) (file_at gs f.path) ≡ None →
        (file_at gs f.path ≡ None →
        file_at (put_file f gs) p ≡ cond (is_same f.path p) (Some f) (file_at gs p)) →
        file_at (cond b (f ∷ g ∷ gs) (g ∷ put_file f gs)) p
        ≡ cond (is_same f.path p) (Some f) (cond (is_same g.path p) (Some g) (file_at gs p))
    step b true d h more = absurd (cc)
    step true false d h more = refl
    step false false d h more =
        ap (λ (o : Option File). cond (is_same g.path p) (Some g) o) (more h)
        ∙ apart (is_same g.path p) (is_same f.path p) refl refl d

found-behind : (f : File) (fs : List File) (p : List ℕ) → file_at fs f.path ≡ None →
    file_at (fs ++ f ∷ []) p ≡ cond (is_same f.path p) (Some f) (file_at fs p)
found-behind f [] p e = refl
found-behind f (g ∷ gs) p e = step (is_same g.path f.path) refl e (found-behind f gs p)
  where
    apart : (a b : Bool) → is_same g.path p ≡ a → is_same f.path p ≡ b →
        is_same g.path f.path ≡ false →
        cond a (Some g) (cond b (Some f) (file_at gs p))
        ≡ cond b (Some f) (cond a (Some g) (file_at gs p))
    apart true true k l d =
        let both : is_same g.path f.path ≡ true =
        (λ i. is_same g.path (same-is f.path p l i)) ∙ k in
        let no : true ≡ false = sym both ∙ d in
        absurd (cc)
    apart true false k l d = refl
    apart false b k l d = refl

    step : (c : Bool) → is_same g.path f.path ≡ c → cond c (Some g) (file_at gs f.path) ≡ None →
        (file_at gs f.path ≡ None →
        file_at (gs ++ f ∷ []) p ≡ cond (is_same f.path p) (Some f) (file_at gs p)) →
        cond (is_same g.path p) (Some g) (file_at (gs ++ f ∷ []) p)
        ≡ cond (is_same f.path p) (Some f) (cond (is_same g.path p) (Some g) (file_at gs p))
    step true d h more = absurd (cc)
    step false d h more =
        ap (λ (o : Option File). cond (is_same g.path p) (Some g) o) (more h)
        ∙ apart (is_same g.path p) (is_same f.path p) refl refl d

-- ---- files in order

all-front : (P : List ℕ → Type 0) (ps qs : List (List ℕ)) → AllByRecursion P (ps ++ qs) →
    AllByRecursion P ps
all-front P [] qs h = tt
all-front P (p ∷ ps) qs h = (h.0, all-front P ps qs h.1)

sorted-front : (ps qs : List (List ℕ)) → IsStrictlySortedBy path_order (ps ++ qs) →
    IsStrictlySortedBy path_order ps
unfolding IsStrictlySortedBy
sorted-front [] qs h = tt
sorted-front (p ∷ ps) qs h =
    (all-front (λ k. path_order p k ≡ Less) ps qs h.0, sorted-front ps qs h.1)

of-last : (P : List ℕ → Type 0) (ps : List (List ℕ)) (q : List ℕ) →
    AllByRecursion P (ps ++ q ∷ []) → P q
of-last P [] q h = h.0
of-last P (p ∷ ps) q h = of-last P ps q h.1

ahead-of-last : (ps : List (List ℕ)) (q : List ℕ) →
    IsStrictlySortedBy path_order (ps ++ q ∷ []) → AllByRecursion (λ p. path_order p q ≡ Less) ps
unfolding IsStrictlySortedBy
ahead-of-last [] q h = tt
ahead-of-last (p ∷ ps) q h = (of-last (λ k. path_order p k ≡ Less) ps q h.0, ahead-of-last ps q h.1)

put-last : (f : File) (fs : List File) →
    AllByRecursion (λ p. path_order p f.path ≡ Less) (paths_of fs) → put_file f fs ≡ fs ++ f ∷ []
put-last f [] h = refl
put-last f (g ∷ gs) h =
    let later : is_lt (path_order f.path g.path) ≡ false =
    ap is_lt (path_order_total.antisymm f.path g.path ∙ ap ordering_reverse h.0) in
    ap (λ (b : Bool). cond b (f ∷ g ∷ gs) (g ∷ put_file f gs)) later
    ∙ ap (λ (xs : List File). g ∷ xs) (put-last f gs h.1)

-- ---- the files so far

abbrev pub listed : List FileItem → List File
listed items = map file_of items

abbrev pub present_items : List FileItem → List FileItem
present_items items = filter (λ f. f.present) items

abbrev pub other_items : List FileItem → List FileItem
other_items items = filter (λ f. not f.present) items

-- what is true of the present ones and of the others is true of all
pub all-listed : (p : File → Bool) (items : List FileItem) →
    list_all p (listed (present_items items)) ≡ true →
    list_all p (listed (other_items items)) ≡ true → list_all p (listed items) ≡ true
all-listed p [] h k = refl
all-listed p (x ∷ xs) h k = step x.present h k (all-listed p xs)
  where
    ps : List FileItem
    ps = present_items xs

    os : List FileItem
    os = other_items xs

    step : (b : Bool) → list_all p (listed (cond b (x ∷ ps) ps)) ≡ true →
        list_all p (listed (cond (not b) (x ∷ os) os)) ≡ true →
        (list_all p (listed ps) ≡ true → list_all p (listed os) ≡ true →
        list_all p (listed xs) ≡ true) → (p (file_of x) && list_all p (listed xs)) ≡ true
    step true h k more =
        let parts = both (p (file_of x)) (list_all p (listed ps)) h in
        λ i. parts.0 i && more parts.1 k i
    step false h k more =
        let parts = both (p (file_of x)) (list_all p (listed os)) k in
        λ i. parts.0 i && more h parts.1 i

pub record ArePut (items : List FileItem) (files : List File) : Type 0 where
  pub found : (p : List ℕ) → file_at files p ≡ file_at (listed items) p
  pub any : (q : List ℕ → Bool) → list_any q (paths_of files) ≡ list_any q (paths_of (listed items))
  pub placed : IsStrictlySortedBy path_order (paths_of (listed items)) → files ≡ listed items

pub none-put : ArePut [] []
none-put = record { found = λ p. refl; any = λ q. refl; placed = λ h. refl }

turned : (a b : Bool) → (a || b) ≡ (b || (a || false))
turned true true = refl
turned true false = refl
turned false true = refl
turned false false = refl

one-more : (items : List FileItem) (x : FileItem) (files : List File) → ArePut items files →
    file_at files x.path ≡ None → ArePut (items ++ x ∷ []) (put_file (file_of x) files)
one-more items x files put fresh = record {
  found = λ p.
      found-put f files p fresh
      ∙ (ap (λ (o : Option File). cond (is_same f.path p) (Some f) o) (put.found p)
      ∙ (sym (found-behind f (listed items) p (sym (put.found f.path) ∙ fresh))
      ∙ ap (λ (fs : List File). file_at fs p) (sym joined)));
  any = λ q.
      any-put q f files
      ∙ (ap (λ (b : Bool). q f.path || b) (put.any q)
      ∙ (turned (q f.path) (list_any q (paths_of (listed items)))
      ∙ (sym (list_any-append q (paths_of (listed items)) (f.path ∷ []))
      ∙ ap (list_any q) (sym paths-joined))));
  placed = λ h.
      let sorted : IsStrictlySortedBy path_order (paths_of (listed items) ++ f.path ∷ []) =
      subst (IsStrictlySortedBy path_order) paths-joined h in
      ap (put_file f) (put.placed (sorted-front (paths_of (listed items)) (f.path ∷ []) sorted))
      ∙ (put-last f (listed items) (ahead-of-last (paths_of (listed items)) f.path sorted)
      ∙ sym joined);
}
  where
    f : File
    f = file_of x

    joined : listed (items ++ x ∷ []) ≡ listed items ++ f ∷ []
    joined = map-append file_of items (x ∷ [])

    paths-joined : paths_of (listed (items ++ x ∷ [])) ≡ paths_of (listed items) ++ f.path ∷ []
    paths-joined = ap paths_of joined ∙ map-append (λ (g : File). g.path) (listed items) (f ∷ [])

-- ---- the file at a place

among : (xs : List FileItem) (x : FileItem) (ys : List FileItem) → (p : List ℕ) →
    AllByRecursion (λ n. is_same p n ≡ false) (map (λ (f : File). f.path) (listed (xs ++ x ∷ ys))) →
    is_same p x.path ≡ false
among [] x ys p h = h.0
among (g ∷ gs) x ys p h = among gs x ys p h.1

distinct-front : (xs : List FileItem) (x : FileItem) (ys : List FileItem) →
    IsDistinct is_same (map (λ (f : File). f.path) (listed (xs ++ x ∷ ys))) →
    file_at (listed xs) x.path ≡ None
unfolding IsDistinct
distinct-front [] x ys h = refl
distinct-front (g ∷ gs) x ys h =
    ap (λ (b : Bool). cond b (Some (file_of g)) (file_at (listed gs) x.path)) (among gs x ys g.path h.0)
    ∙ distinct-front gs x ys h.1

-- the present files so far stand each at its place, and the others in the order in which they came
pub record AreAdded (items : List FileItem) (held : Held) : Type 0 where
  pub present : ArePut (present_items items) held.present
  pub hidden : held.hidden ≡ listed (other_items items)

pub none-added : (held : Held) → held.present ≡ [] → held.hidden ≡ [] → AreAdded [] held
none-added held p h = record {
  present = subst (ArePut []) (sym p) none-put;
  hidden = h;
}

module _ (items : List FileItem)
    (differ : IsDistinct is_same (map (λ (f : File). f.path) (listed (present_items items))))
    (i : ℕ) (x : FileItem) (inside : i < length items) (is : x ≡ get_or items i x) (held : Held)
    (added : AreAdded (take i items) held) where
  abbrev front : List FileItem
  front = take i items

  abbrev behind : List FileItem
  behind = drop (i + 1) items

  whole : items ≡ front ++ x ∷ behind
  whole =
      sym (take-append-drop (i + 1) items)
      ∙ (ap (λ (xs : List FileItem). xs ++ behind) (one_more items i x inside is)
      ∙ append_assoc front (x ∷ []) behind)

  parted : x.present ≡ true →
      present_items items ≡ present_items front ++ x ∷ present_items behind
  parted h =
      ap present_items whole
      ∙ (filter-append (λ (f : FileItem). f.present) front (x ∷ behind)
      ∙ ap (λ (b : Bool). present_items front ++ cond b (x ∷ present_items behind)
      (present_items behind)) h)

  pub fresh-next : x.present ≡ true → file_at held.present x.path ≡ None
  fresh-next h = added.present.found x.path
      ∙ distinct-front (present_items front) x (present_items behind)
      (subst (λ (xs : List FileItem). IsDistinct is_same (map (λ (f : File). f.path) (listed xs)))
      (parted h) differ)

  present-more : (b : Bool) → x.present ≡ b →
      present_items (front ++ x ∷ []) ≡ present_items front ++ cond b (x ∷ []) []
  present-more b h =
      filter-append (λ (f : FileItem). f.present) front (x ∷ [])
      ∙ ap (λ (c : Bool). present_items front ++ cond c (x ∷ []) []) h

  other-more : (b : Bool) → x.present ≡ b →
      other_items (front ++ x ∷ []) ≡ other_items front ++ cond (not b) (x ∷ []) []
  other-more b h =
      filter-append (λ (f : FileItem). not f.present) front (x ∷ [])
      ∙ ap (λ (c : Bool). other_items front ++ cond (not c) (x ∷ []) []) h

  added-as : (b : Bool) → x.present ≡ b → AreAdded (front ++ x ∷ [])
      (cond b (put_present (file_of x) held) (put_hidden (file_of x) held))
  added-as true h = record {
    present = subst (λ (xs : List FileItem). ArePut xs (put_file (file_of x) held.present))
        (sym (present-more true h))
        (one-more (present_items front) x held.present added.present (fresh-next h));
    hidden = added.hidden
        ∙ ap listed (sym (other-more true h ∙ append-nil (other_items front)));
  }
  added-as false h = record {
    present = subst (λ (xs : List FileItem). ArePut xs held.present)
        (sym (present-more false h ∙ append-nil (present_items front))) added.present;
    hidden = ap (λ (fs : List File). fs ++ file_of x ∷ []) added.hidden
        ∙ (sym (map-append file_of (other_items front) (x ∷ []))
        ∙ ap listed (sym (other-more false h)));
  }

  pub added-next : AreAdded (take (i + 1) items) (with_item x held)
  added-next = subst (λ (xs : List FileItem). AreAdded xs (with_item x held))
      (sym (one_more items i x inside is)) (added-as x.present refl)

-- ---- what they show

folder-alike : (fs gs : List File) →
    ((q : List ℕ → Bool) → list_any q (paths_of fs) ≡ list_any q (paths_of gs)) → (p : List ℕ) →
    is_folder fs p ≡ is_folder gs p
folder-alike fs gs any p = ap (λ (b : Bool). is_same p root || b)
    (any-paths (is_above p) fs ∙ (any (is_above p) ∙ sym (any-paths (is_above p) gs)))

pub alike : (items : List FileItem) (files : List File) → ArePut items files →
    ShowAlike files (listed items)
alike items files put p = λ i. content_of (put.found p i)
    (folder-alike files (listed items) put.any p i)
    (folder-alike files (listed items) put.any (parent_of p) i)

-- views over files that show the same have the same contents
pub contents-alike : (fs gs : List File) → ShowAlike fs gs → (ps : List (List ℕ)) →
    map (path_content fs) ps ≡ map (path_content gs) ps
contents-alike fs gs h [] = refl
contents-alike fs gs h (p ∷ ps) =
    λ i. record { path = p; content = h p i } ∷ contents-alike fs gs h ps i
