-- What a view has at paths: what is found at a path that is named, where fewer paths are named, and where one more is.
use Rattle.std.proofs.Common.{◌≡◌, ℕ, List, [], ◌∷◌, map, Bool, true, false, ◌||◌, cond, Option, Some, None, refl, sym, ap, ◌∙◌}
use Rattle.std.specs.List.{filter, find}
use Rattle.portal_base.specs.Names.{is_same}
use Rattle.portal_base.specs.declared.files.File.{File}
use Rattle.portal_model.specs.Content.{Content, content_at}
use Rattle.portal_model.proofs.ListLookups.{is_same-eq, is_same-refl, find-filter}
use Rattle.portal_model.specs.Ordered.{bytes_less, is_rising, put, put_all}
use Rattle.app_world.specs.View.{PathBelow, PathContent, path_of, ahead, below_ahead, below_at, files_below, folder_of, found_below, found_content, is_among, path_below, path_content, contents_at}
use Rattle.app_world.proofs.Found.{find-put, find-put_all, told-apart}
use Rattle.app_world.proofs.Orders.{paths}
use Rattle.portal_model.proofs.RisingLists.{rising-filter, rising-put, rising-put_all}

-- ---- one item for each path, in order of the paths

mapped-same : {X : Type 0} (item other : List ℕ → X) (ps : List (List ℕ)) → ((p : List ℕ) → is_among ps p ≡ true → item p ≡ other p) → map item ps ≡ map other ps
mapped-same item other [] e = refl
mapped-same item other (p ∷ ps) e = λ i. e p (first (is_same p p) (is_among ps p) (is_same-refl p)) i ∷ mapped-same item other ps (λ q h. e q (later (is_same p q) h)) i
  where
    first : (a b : Bool) → a ≡ true → (a || b) ≡ true
    first true b h = refl
    first false b h = cc

    later : (a : Bool) {b : Bool} → b ≡ true → (a || b) ≡ true
    later true h = refl
    later false h = h

module _ {X : Type 0} (key : X → List ℕ) (item : List ℕ → X) (of : (p : List ℕ) → key (item p) ≡ p) where
  abbrev pub before_by : X → X → Bool
  before_by x y = bytes_less (key x) (key y)

  abbrev found : List X → List ℕ → Option X
  found xs path = find (λ (x : X). is_same (key x) path) xs

  abbrev pub items : List (List ℕ) → List X
  items ps = put_all before_by (map item ps)

  found_item : (path : List ℕ) (ps : List (List ℕ)) → found (map item ps) path ≡ cond (is_among ps path) (Some (item path)) None
  found_item path [] = refl
  found_item path (p ∷ ps) = ap (λ (q : List ℕ). cond (is_same q path) (Some (item p)) (found (map item ps) path)) (of p) ∙ step (is_same p path) refl (found_item path ps)
    where
      step : (b : Bool) → is_same p path ≡ b → found (map item ps) path ≡ cond (is_among ps path) (Some (item path)) None → cond b (Some (item p)) (found (map item ps) path) ≡ cond (b || is_among ps path) (Some (item path)) None
      step true e h = ap (λ (q : List ℕ). Some (item q)) (is_same-eq p path e)
      step false e h = h

  -- each path that is named has its item, and no other has one
  pub items-found : (path : List ℕ) (ps : List (List ℕ)) → found (items ps) path ≡ cond (is_among ps path) (Some (item path)) None
  items-found path ps = find-put_all _ _ key paths path (map item ps) ∙ found_item path ps

  pub items-rising : (ps : List (List ℕ)) → is_rising before_by (items ps) ≡ true
  items-rising ps = rising-put_all _ _ key paths (map item ps)

  where_named : (path : List ℕ) (o : Option X) (b : Bool) → (b ≡ true → o ≡ Some (item path)) → cond b o None ≡ cond b (Some (item path)) None
  where_named path o true e = e refl
  where_named path o false e = refl

  -- items in order that have what is at each named path, pruned, are those of a view
  pub items-are : (ps : List (List ℕ)) (xs : List X) → is_rising before_by xs ≡ true → ((path : List ℕ) → is_among ps path ≡ true → found xs path ≡ Some (item path)) → filter (λ (x : X). is_among ps (key x)) xs ≡ items ps
  items-are ps xs s e =
      told-apart _ _ key paths (filter (λ (x : X). is_among ps (key x)) xs) (items ps) (rising-filter _ _ key paths (λ (x : X). is_among ps (key x)) xs s) (items-rising ps) (λ path.
      find-filter (λ (x : X). is_same (key x) path) (λ (x : X). is_among ps (key x)) (is_among ps path) (λ x h. ap (is_among ps) (is_same-eq (key x) path h)) xs
      ∙ (where_named path (found xs path) (is_among ps path) (e path) ∙ sym (items-found path ps)))

  -- fewer paths are named
  pub items-fewer : (ps qs : List (List ℕ)) → ((path : List ℕ) → is_among qs path ≡ true → is_among ps path ≡ true) → filter (λ (x : X). is_among qs (key x)) (items ps) ≡ items qs
  items-fewer ps qs e =
      items-are qs (items ps) (items-rising ps) (λ path f.
      items-found path ps ∙ ap (λ (b : Bool). cond b (Some (item path)) None) (e path f))

  there : (path p : List ℕ) (b c : Bool) → is_same path p ≡ b → (b || c) ≡ true → cond b (Some (item path)) (cond c (Some (item p)) None) ≡ Some (item p)
  there path p true c e h = ap (λ (q : List ℕ). Some (item q)) (is_same-eq path p e)
  there path p false true e h = refl
  there path p false false e h = cc

  -- no others are named than before, and one more
  pub items-joined : (path : List ℕ) (joining : X) (ps qs : List (List ℕ)) → joining ≡ item path → ((p : List ℕ) → is_among qs p ≡ true → (is_same path p || is_among ps p) ≡ true) →
      filter (λ (x : X). is_among qs (key x)) (put before_by joining (items ps)) ≡ items qs
  items-joined path joining ps qs j h =
      items-are qs (put before_by joining (items ps)) (rising-put _ _ key paths joining (items ps) (items-rising ps)) (λ p e.
      find-put _ _ key paths p joining (items ps)
      ∙ (ap (λ (x : X). cond (is_same (key x) p) (Some x) (found (items ps) p)) j
      ∙ (ap (λ (q : List ℕ). cond (is_same q p) (Some (item path)) (found (items ps) p)) (of path)
      ∙ (ap (λ (o : Option X). cond (is_same path p) (Some (item path)) o) (items-found p ps)
      ∙ there path p (is_same path p) (is_among ps p) refl (h p e)))))

-- ---- contents

pub contents-found : (files : List File) (path : List ℕ) (ps : List (List ℕ)) → found_content (contents_at files ps) path ≡ cond (is_among ps path) (Some (path_content files path)) None
contents-found files path ps = items-found path_of (path_content files) (λ p. refl) path ps

pub contents-rising : (files : List File) (ps : List (List ℕ)) → is_rising ahead (contents_at files ps) ≡ true
contents-rising files ps = items-rising path_of (path_content files) (λ p. refl) ps

pub contents-are : (files : List File) (ps : List (List ℕ)) (cs : List PathContent) → is_rising ahead cs ≡ true →
    ((path : List ℕ) → is_among ps path ≡ true → found_content cs path ≡ Some (path_content files path)) → filter (λ c. is_among ps (path_of c)) cs ≡ contents_at files ps
contents-are files ps cs s e = items-are path_of (path_content files) (λ p. refl) ps cs s e

pub contents-fewer : (files : List File) (ps qs : List (List ℕ)) → ((path : List ℕ) → is_among qs path ≡ true → is_among ps path ≡ true) →
    filter (λ c. is_among qs (path_of c)) (contents_at files ps) ≡ contents_at files qs
contents-fewer files ps qs e = items-fewer path_of (path_content files) (λ p. refl) ps qs e

pub contents-joined : (files : List File) (path : List ℕ) (joining : PathContent) (ps qs : List (List ℕ)) → joining ≡ path_content files path → ((p : List ℕ) → is_among qs p ≡ true → (is_same path p || is_among ps p) ≡ true) →
    filter (λ c. is_among qs (path_of c)) (put ahead joining (contents_at files ps)) ≡ contents_at files qs
contents-joined files path joining ps qs j h = items-joined path_of (path_content files) (λ p. refl) path joining ps qs j h

-- the same is at each path that is named
pub contents-same : (files more : List File) (ps : List (List ℕ)) → ((path : List ℕ) → is_among ps path ≡ true → content_at files path ≡ content_at more path) → contents_at files ps ≡ contents_at more ps
contents-same files more ps e =
    ap (put_all ahead) (mapped-same (path_content files) (path_content more) ps (λ p h. ap (λ (c : Content). record { path = p; content = c }) (e p h)))

-- ---- files at or below folders

pub below-found : (files : List File) (path : List ℕ) (ps : List (List ℕ)) → found_below (below_at files ps) path ≡ cond (is_among ps path) (Some (path_below files path)) None
below-found files path ps = items-found folder_of (path_below files) (λ p. refl) path ps

pub below-rising : (files : List File) (ps : List (List ℕ)) → is_rising below_ahead (below_at files ps) ≡ true
below-rising files ps = items-rising folder_of (path_below files) (λ p. refl) ps

pub below-are : (files : List File) (ps : List (List ℕ)) (bs : List PathBelow) → is_rising below_ahead bs ≡ true →
    ((path : List ℕ) → is_among ps path ≡ true → found_below bs path ≡ Some (path_below files path)) → filter (λ b. is_among ps (folder_of b)) bs ≡ below_at files ps
below-are files ps bs s e = items-are folder_of (path_below files) (λ p. refl) ps bs s e

pub below-fewer : (files : List File) (ps qs : List (List ℕ)) → ((path : List ℕ) → is_among qs path ≡ true → is_among ps path ≡ true) →
    filter (λ b. is_among qs (folder_of b)) (below_at files ps) ≡ below_at files qs
below-fewer files ps qs e = items-fewer folder_of (path_below files) (λ p. refl) ps qs e

pub below-joined : (files : List File) (path : List ℕ) (joining : PathBelow) (ps qs : List (List ℕ)) → joining ≡ path_below files path → ((p : List ℕ) → is_among qs p ≡ true → (is_same path p || is_among ps p) ≡ true) →
    filter (λ b. is_among qs (folder_of b)) (put below_ahead joining (below_at files ps)) ≡ below_at files qs
below-joined files path joining ps qs j h = items-joined folder_of (path_below files) (λ p. refl) path joining ps qs j h

pub below-same : (files more : List File) (ps : List (List ℕ)) → ((path : List ℕ) → is_among ps path ≡ true → files_below files path ≡ files_below more path) → below_at files ps ≡ below_at more ps
below-same files more ps e =
    ap (put_all below_ahead) (mapped-same (path_below files) (path_below more) ps (λ p h. ap (λ (fs : List File). record { path = p; files = fs }) (e p h)))
