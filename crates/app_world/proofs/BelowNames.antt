-- The names in a folder are told by the files at or below a folder above it.
use Rattle.std.proofs.Common.{◌≡◌, ℕ, zero, suc, ◌+◌, ◌==◌, nat_lt, length, take, drop, fold, List, [], ◌∷◌, ◌++◌, Bool, true, false, not, ◌&&◌, ◌||◌, cond, Option, Some, None, is_some, refl, sym, ap, ◌∙◌, arith}
use Rattle.std.specs.List.{before_first, filter, find, list_all, list_any, position, position_or_len}
use Rattle.std.specs.Ordering.{match_ordering, ordering_then}
use Rattle.std.specs.declared.cmp.Ordering.{Ordering}
use Rattle.std.specs.declared.cmp.Ordering.TheVariants.{Less, Equal, Greater}
use Rattle.std.proofs.lemmas.Bool.Decides.{nat_tests}
use Rattle.portal_base.specs.Content.{is_above, is_folder, paths_of}
use Rattle.portal_base.specs.FolderNames.{is_below, length_above, name_below, names_in, put_name, put_path}
use Rattle.portal_base.specs.NameOrder.{name_order}
use Rattle.portal_base.specs.Names.{is_same, is_slash, root}
use Rattle.portal_base.specs.declared.files.ChildName.{ChildName}
use Rattle.portal_base.specs.declared.files.File.{File}
use Rattle.portal_base.proofs.PathsAbove.{above-more, any-paths, first-same, rest-below, slash-first, slash-is}
use Rattle.portal_model.specs.Ordered.{bytes_less, is_rising, put}
use Rattle.portal_model.proofs.ListLookups.{is_same-eq}
use Rattle.portal_model.proofs.RisingLists.{rising-put}
use Rattle.app_world.specs.View.{files_below, is_at_or_below}
use Rattle.app_world.proofs.BelowLaws.{any-kept, any-put_all-key, at-or-below-through, file_path}
use Rattle.app_world.proofs.Found.{find-put, told-apart}
use Rattle.app_world.proofs.Orders.{paths}

-- ---- names in byte order

abbrev name_key : ChildName → List ℕ
name_key c = c.name

abbrev name_ahead : ChildName → ChildName → Bool
name_ahead x y = bytes_less x.name y.name

lt-apart : (x y : ℕ) → nat_lt x y ≡ true → (x == y) ≡ false
lt-apart x y h = grind (arith, nat_tests)

eq-turned : (x y : ℕ) → (x == y) ≡ true → (y == x) ≡ true
eq-turned x y h = grind (arith, nat_tests)

neither-more : (x y : ℕ) → nat_lt x y ≡ false → (x == y) ≡ false → nat_lt y x ≡ true
neither-more x y h k = grind (arith, nat_tests)

apart-turned : (x y : ℕ) → (x == y) ≡ false → (y == x) ≡ false
apart-turned x y h = grind (arith, nat_tests)

order-is : (a b : List ℕ) → name_order a b ≡ cond (bytes_less a b) Less (cond (bytes_less b a) Greater Equal)
order-is [] [] = refl
order-is [] (y ∷ ys) = refl
order-is (x ∷ xs) [] = refl
order-is (x ∷ xs) (y ∷ ys) = step (nat_lt x y) (x == y) refl refl (order-is xs ys)
  where
    step : (a b : Bool) → nat_lt x y ≡ a → (x == y) ≡ b → name_order xs ys ≡ cond (bytes_less xs ys) Less (cond (bytes_less ys xs) Greater Equal) →
        ordering_then (cond a Less (cond b Equal Greater)) (name_order xs ys)
        ≡ cond (cond b (bytes_less xs ys) a) Less (cond (cond (y == x) (bytes_less ys xs) (nat_lt y x)) Greater Equal)
    step true true e f h = let no : true ≡ false = sym f ∙ lt-apart x y e in cc
    step true false e f h = refl
    step false true e f h = h ∙ ap (λ (c : Bool). cond (bytes_less xs ys) Less (cond (cond c (bytes_less ys xs) (nat_lt y x)) Greater Equal)) (sym (eq-turned x y f))
    step false false e f h = λ i. cond (cond (sym (apart-turned x y f) i) (bytes_less ys xs) (sym (neither-more x y e f) i)) Greater Equal

put_name-is : (new : ChildName) (cs : List ChildName) → put_name new cs ≡ put name_ahead new cs
put_name-is new [] = refl
put_name-is new (c ∷ cs) =
    ap (λ (o : Ordering). match_ordering o (new ∷ c ∷ cs) (record { name = c.name; folder = new.folder } ∷ cs) (c ∷ put_name new cs)) (order-is new.name c.name)
    ∙ step (bytes_less new.name c.name) (bytes_less c.name new.name) refl refl (put_name-is new cs)
  where
    step : (a b : Bool) → bytes_less new.name c.name ≡ a → bytes_less c.name new.name ≡ b → put_name new cs ≡ put name_ahead new cs →
        match_ordering (cond a Less (cond b Greater Equal)) (new ∷ c ∷ cs) (record { name = c.name; folder = new.folder } ∷ cs) (c ∷ put_name new cs)
        ≡ cond a (new ∷ c ∷ cs) (cond b (c ∷ put name_ahead new cs) (new ∷ cs))
    step true b e f h = refl
    step false true e f h = ap (λ (xs : List ChildName). c ∷ xs) h
    step false false e f h =
        let same : new.name ≡ c.name = paths.total new.name c.name e f in
        λ i. record { name = sym same i; folder = new.folder } ∷ cs

-- ---- what is found among the names

module _ (path : List ℕ) where
  abbrev below_name : List ℕ → ChildName
  below_name p = name_below path p

  names_rising : (ps : List (List ℕ)) (names : List ChildName) → is_rising name_ahead names ≡ true → is_rising name_ahead (fold (put_path path) names ps) ≡ true
  names_rising [] names h = h
  names_rising (p ∷ ps) names h = names_rising ps (put_path path names p) (step (is_below path p))
    where
      step : (b : Bool) → is_rising name_ahead (cond b (put_name (below_name p) names) names) ≡ true
      step true = ap (is_rising name_ahead) (put_name-is (below_name p) names) ∙ rising-put _ _ name_key paths (below_name p) names h
      step false = h

  module _ (k : List ℕ) where
    abbrev at : List ChildName → Option ChildName
    at names = find (λ (c : ChildName). is_same c.name k) names

    abbrev has : List ℕ → Bool
    has p = is_below path p && is_same (below_name p).name k

    abbrev differs : Bool → Bool → Bool
    differs a b = cond a (not b) b

    -- a path that goes on by the name, and says other than the flag whether that is a folder
    abbrev bad : Bool → List ℕ → Bool
    bad flag p = has p && differs flag (below_name p).folder

    first-false : (a b : Bool) → (a || b) ≡ false → a ≡ false
    first-false true b h = h
    first-false false b h = refl

    second-false : (a b : Bool) → (a || b) ≡ false → b ≡ false
    second-false true b h = cc
    second-false false b h = h

    agree : (flag b : Bool) → differs flag b ≡ false → b ≡ flag
    agree true true h = refl
    agree true false h = cc
    agree false true h = cc
    agree false false h = refl

    one_put : (flag : Bool) (p : List ℕ) (names : List ChildName) → bad flag p ≡ false → at (put_path path names p) ≡ cond (has p) (Some (record { name = k; folder = flag })) (at names)
    one_put flag p names h = step (is_below path p) h
      where
        found : (c : Bool) → is_same (below_name p).name k ≡ c → (c && differs flag (below_name p).folder) ≡ false → cond c (Some (below_name p)) (at names) ≡ cond c (Some (record { name = k; folder = flag })) (at names)
        found true e g =
            let name : (below_name p).name ≡ k = is_same-eq (below_name p).name k e in
            let folder : (below_name p).folder ≡ flag = agree flag (below_name p).folder g in
            λ i. Some (record { name = name i; folder = folder i })
        found false e g = refl

        step : (b : Bool) → ((b && is_same (below_name p).name k) && differs flag (below_name p).folder) ≡ false →
            at (cond b (put_name (below_name p) names) names) ≡ cond (b && is_same (below_name p).name k) (Some (record { name = k; folder = flag })) (at names)
        step true g = ap at (put_name-is (below_name p) names) ∙ (find-put _ _ name_key paths k (below_name p) names ∙ found (is_same (below_name p).name k) refl g)
        step false g = refl

    names_found : (flag : Bool) (ps : List (List ℕ)) (names : List ChildName) → list_any (bad flag) ps ≡ false → at (fold (put_path path) names ps) ≡ cond (list_any has ps) (Some (record { name = k; folder = flag })) (at names)
    names_found flag [] names h = refl
    names_found flag (p ∷ ps) names h =
        names_found flag ps (put_path path names p) (second-false (bad flag p) (list_any (bad flag) ps) h)
        ∙ (ap (λ (o : Option ChildName). cond (list_any has ps) (Some (record { name = k; folder = flag })) o) (one_put flag p names (first-false (bad flag p) (list_any (bad flag) ps) h))
        ∙ joined (has p) (list_any has ps))
      where
        joined : (a b : Bool) → cond b (Some (record { name = k; folder = flag })) (cond a (Some (record { name = k; folder = flag })) (at names)) ≡ cond (a || b) (Some (record { name = k; folder = flag })) (at names)
        joined true true = refl
        joined true false = refl
        joined false true = refl
        joined false false = refl

-- ---- paths that go on by the same name

drop-front : (f rest : List ℕ) → drop (length f + 1) (f ++ 47 ∷ rest) ≡ rest
drop-front [] rest = refl
drop-front (a ∷ f) rest =
    let one : suc (length f) + 1 ≡ suc (length f + 1) = omega arith in
    ap (λ (n : ℕ). drop n (a ∷ (f ++ 47 ∷ rest))) one ∙ drop-front f rest

split : (f p : List ℕ) → is_above f p ≡ true → p ≡ f ++ 47 ∷ drop (length f + 1) p
split [] [] h = cc
split [] (b ∷ bs) h = ap (λ (x : ℕ). x ∷ bs) (slash-first b bs h)
split (a ∷ f) [] h = cc
split (a ∷ f) (b ∷ bs) h =
    let one : suc (length f) + 1 ≡ suc (length f + 1) = omega arith in
    (λ i. sym (first-same a b f bs h) i ∷ split f bs (rest-below a b f bs h) i) ∙ ap (λ (n : ℕ). a ∷ (f ++ 47 ∷ drop n (b ∷ bs))) (sym one)

above-front : (f g rest : List ℕ) → is_above (f ++ 47 ∷ g) (f ++ 47 ∷ (g ++ 47 ∷ rest)) ≡ true
above-front [] g rest = above-more 47 47 g (g ++ 47 ∷ rest) refl (itself g)
  where
    itself : (xs : List ℕ) → is_above xs (xs ++ 47 ∷ rest) ≡ true
    itself [] = slash-is 47 rest refl
    itself (x ∷ xs) = above-more x x xs (xs ++ 47 ∷ rest) refl (itself xs)
above-front (a ∷ f) g rest = above-more a a (f ++ 47 ∷ g) (f ++ 47 ∷ (g ++ 47 ∷ rest)) refl (above-front f g rest)

-- without a slash the first part is the whole
no-slash : (xs : List ℕ) → is_some (position is_slash xs) ≡ false → before_first is_slash xs ≡ xs
no-slash xs h = step (nat_lt (position_or_len is_slash xs) (length xs)) refl h
  where
    taken : (ys : List ℕ) (n : ℕ) → nat_lt n (length ys) ≡ false → take n ys ≡ ys
    taken [] zero g = refl
    taken [] (suc n) g = refl
    taken (y ∷ ys) zero g = grind (arith, nat_tests)
    taken (y ∷ ys) (suc n) g = ap (λ (zs : List ℕ). y ∷ zs) (taken ys n (grind (arith, nat_tests)))

    step : (b : Bool) → nat_lt (position_or_len is_slash xs) (length xs) ≡ b → is_some (cond b (Some (position_or_len is_slash xs)) None) ≡ false → before_first is_slash xs ≡ xs
    step true e g = cc
    step false e g = taken xs (position_or_len is_slash xs) e

-- with one it ends where the slash stands
with-slash : (xs : List ℕ) → is_some (position is_slash xs) ≡ true → xs ≡ before_first is_slash xs ++ 47 ∷ drop (position_or_len is_slash xs + 1) xs
with-slash [] h = cc
with-slash (x ∷ xs) h = step (is_slash x) refl h (with-slash xs)
  where
    slash-one : (b : Bool) → (x == 47) ≡ b → b ≡ true → x ≡ 47
    slash-one true e g = grind (arith, nat_tests)
    slash-one false e g = cc

    rest-some : is_some (cond (nat_lt (1 + position_or_len is_slash xs) (length (x ∷ xs))) (Some (1 + position_or_len is_slash xs)) None) ≡ true → is_some (position is_slash xs) ≡ true
    rest-some g = grind (arith, nat_tests)

    step : (b : Bool) → is_slash x ≡ b → is_some (cond (nat_lt (cond (not b) (1 + position_or_len is_slash xs) 0) (length (x ∷ xs))) (Some (cond (not b) (1 + position_or_len is_slash xs) 0)) None) ≡ true →
        (is_some (position is_slash xs) ≡ true → xs ≡ before_first is_slash xs ++ 47 ∷ drop (position_or_len is_slash xs + 1) xs) →
        x ∷ xs ≡ take (cond (not b) (1 + position_or_len is_slash xs) 0) (x ∷ xs) ++ 47 ∷ drop (cond (not b) (1 + position_or_len is_slash xs) 0 + 1) (x ∷ xs)
    step true e g more = ap (λ (y : ℕ). y ∷ xs) (slash-one (is_slash x) refl e)
    step false e g more =
        let one : 1 + position_or_len is_slash xs ≡ suc (position_or_len is_slash xs) = omega arith in
        let two : 1 + position_or_len is_slash xs + 1 ≡ suc (position_or_len is_slash xs + 1) = omega arith in
        ap (λ (ys : List ℕ). x ∷ ys) (more (rest-some g)) ∙ (λ i. take (sym one i) (x ∷ xs) ++ 47 ∷ drop (sym two i) (x ∷ xs))

module _ (path : List ℕ) (no_root : is_same path root ≡ false) where
  is-above : (p : List ℕ) → is_below path p ≡ true → is_above path p ≡ true
  is-above p h = ap (λ (b : Bool). b || is_above path p) (sym no_root) ∙ h

  rest-is : (p : List ℕ) → drop (length_above path) p ≡ drop (length path + 1) p
  rest-is p = ap (λ (b : Bool). drop (cond b 1 (length path + 1)) p) no_root

  -- of two that go on by one name, of which one ends with it, that lies above the other
  one-above : (k p q : List ℕ) → has path k p ≡ true → (name_below path p).folder ≡ false → has path k q ≡ true → (name_below path q).folder ≡ true → is_above p q ≡ true
  one-above k p q hp fp hq fq =
      let above_p : is_above path p ≡ true = is-above p (first-true (is_below path p) (is_same (name_below path p).name k) hp) in
      let above_q : is_above path q ≡ true = is-above q (first-true (is_below path q) (is_same (name_below path q).name k) hq) in
      let rp : List ℕ = drop (length path + 1) p in
      let rq : List ℕ = drop (length path + 1) q in
      let name_p : rp ≡ k =
      sym (no-slash rp (ap (λ (xs : List ℕ). is_some (position is_slash xs)) (sym (rest-is p)) ∙ fp))
      ∙ (ap (before_first is_slash) (sym (rest-is p)) ∙ is_same-eq (name_below path p).name k (second-true (is_below path p) (is_same (name_below path p).name k) hp)) in
      let name_q : before_first is_slash rq ≡ k = ap (before_first is_slash) (sym (rest-is q)) ∙ is_same-eq (name_below path q).name k (second-true (is_below path q) (is_same (name_below path q).name k) hq) in
      let more : List ℕ = drop (position_or_len is_slash rq + 1) rq in
      let whole_q : rq ≡ k ++ 47 ∷ more = with-slash rq (ap (λ (xs : List ℕ). is_some (position is_slash xs)) (sym (rest-is q)) ∙ fq) ∙ ap (λ (xs : List ℕ). xs ++ 47 ∷ more) name_q in
      let is_p : p ≡ path ++ 47 ∷ k = split path p above_p ∙ ap (λ (xs : List ℕ). path ++ 47 ∷ xs) name_p in
      let is_q : q ≡ path ++ 47 ∷ (k ++ 47 ∷ more) = split path q above_q ∙ ap (λ (xs : List ℕ). path ++ 47 ∷ xs) whole_q in
      (λ i. is_above (is_p i) (is_q i)) ∙ above-front path k more
    where
      first-true : (a b : Bool) → (a && b) ≡ true → a ≡ true
      first-true true b h = refl
      first-true false b h = h

      second-true : (a b : Bool) → (a && b) ≡ true → b ≡ true
      second-true true b h = h
      second-true false b h = cc

  module _ (files : List File) (k : List ℕ) where
    abbrev goes : List ℕ → Bool
    goes p = has path k p && (name_below path p).folder

    -- whether some path goes on by the name as by that of a folder
    abbrev flag : Bool
    flag = list_any goes (paths_of files)

    above-some : (p : List ℕ) → has path k p ≡ true → (name_below path p).folder ≡ false → (ps : List (List ℕ)) → list_any goes ps ≡ true → list_any (is_above p) ps ≡ true
    above-some p h f [] g = cc
    above-some p h f (q ∷ ps) g = step (has path k q) (name_below path q).folder refl refl g (above-some p h f ps)
      where
        or-true : (a : Bool) {b : Bool} → b ≡ true → (a || b) ≡ true
        or-true true e = refl
        or-true false e = e

        step : (a b : Bool) → has path k q ≡ a → (name_below path q).folder ≡ b → ((a && b) || list_any goes ps) ≡ true → (list_any goes ps ≡ true → list_any (is_above p) ps ≡ true) → (is_above p q || list_any (is_above p) ps) ≡ true
        step true true e c l more = ap (λ (d : Bool). d || list_any (is_above p) ps) (one-above k p q h f e c)
        step true false e c l more = or-true (is_above p q) (more l)
        step false b e c l more = or-true (is_above p q) (more l)

    one-good : (p : List ℕ) → not (is_folder files p) ≡ true → (goes p ≡ true → flag ≡ true) → bad path k flag p ≡ false
    one-good p apart up = step (has path k p) (name_below path p).folder flag refl refl refl up
      where
        folder-so : list_any (is_above p) (paths_of files) ≡ true → is_folder files p ≡ true
        folder-so g = or-true (is_same p root) (any-paths (is_above p) files ∙ g)
          where
            or-true : (a : Bool) {b : Bool} → b ≡ true → (a || b) ≡ true
            or-true true e = refl
            or-true false e = e

        step : (a b c : Bool) → has path k p ≡ a → (name_below path p).folder ≡ b → flag ≡ c → ((a && b) ≡ true → c ≡ true) → (a && differs path k c b) ≡ false
        step false b c e f g u = refl
        step true true true e f g u = refl
        step true true false e f g u = let no : false ≡ true = u refl in cc
        step true false false e f g u = refl
        step true false true e f g u =
            let no : false ≡ true = (λ i. not (sym (folder-so (above-some p e f (paths_of files) g)) i)) ∙ apart in
            cc

    all-good : (fs : List File) → list_all (λ (f : File). not (is_folder files f.path)) fs ≡ true → (list_any goes (paths_of fs) ≡ true → flag ≡ true) → list_any (bad path k flag) (paths_of fs) ≡ false
    all-good [] h u = refl
    all-good (f ∷ fs) h u =
        (λ i. one-good f.path (first-true (not (is_folder files f.path)) (list_all (λ (g : File). not (is_folder files g.path)) fs) h) (λ g. u (ap (λ (b : Bool). b || list_any goes (paths_of fs)) g)) i || list_any (bad path k flag) (paths_of fs))
        ∙ all-good fs (second-true (not (is_folder files f.path)) (list_all (λ (g : File). not (is_folder files g.path)) fs) h) (λ g. u (or-true (goes f.path) g))
      where
        first-true : (a b : Bool) → (a && b) ≡ true → a ≡ true
        first-true true b g = refl
        first-true false b g = g

        second-true : (a b : Bool) → (a && b) ≡ true → b ≡ true
        second-true true b g = g
        second-true false b g = cc

        or-true : (a : Bool) {b : Bool} → b ≡ true → (a || b) ≡ true
        or-true true e = refl
        or-true false e = e

-- ---- the names are the same

module _ (files : List File) (folder path : List ℕ) (no_root : is_same path root ≡ false) (h : is_at_or_below folder path ≡ true) where
  abbrev inside : List File
  inside = files_below files folder

  -- something of paths below the folder
  same-any : (q : List ℕ → Bool) → ((p : List ℕ) → q p ≡ true → is_below path p ≡ true) → list_any q (paths_of inside) ≡ list_any q (paths_of files)
  same-any q f =
      sym (any-paths q inside)
      ∙ (any-put_all-key file_path q (filter (λ (x : File). is_at_or_below folder x.path) files)
      ∙ (any-kept q (is_at_or_below folder) (λ p e. at-or-below-through folder path p h (is-above path no_root p (f p e))) files
      ∙ any-paths q files))

  and-first : (a b : Bool) → (a && b) ≡ true → a ≡ true
  and-first true b e = refl
  and-first false b e = e

  has-below : (k p : List ℕ) → has path k p ≡ true → is_below path p ≡ true
  has-below k p e = and-first (is_below path p) (is_same (name_below path p).name k) e

  bad-below : (k : List ℕ) (c : Bool) (p : List ℕ) → bad path k c p ≡ true → is_below path p ≡ true
  bad-below k c p e = has-below k p (and-first (has path k p) (differs path k c (name_below path p).folder) e)

  same-at : list_all (λ (f : File). not (is_folder files f.path)) files ≡ true → (k : List ℕ) → find (λ (c : ChildName). is_same c.name k) (names_in inside path) ≡ find (λ (c : ChildName). is_same c.name k) (names_in files path)
  same-at apart k =
      let c : Bool = flag path no_root files k in
      let good : list_any (bad path k c) (paths_of files) ≡ false = all-good path no_root files k files apart (λ e. e) in
      names_found path k c (paths_of inside) [] (same-any (bad path k c) (bad-below k c) ∙ good)
      ∙ (ap (λ (b : Bool). cond b (Some (record { name = k; folder = c })) None) (same-any (has path k) (has-below k))
      ∙ sym (names_found path k c (paths_of files) [] good))

  pub same-names : list_all (λ (f : File). not (is_folder files f.path)) files ≡ true → names_in inside path ≡ names_in files path
  same-names apart =
      told-apart _ _ name_key paths (names_in inside path) (names_in files path) (names_rising path (paths_of inside) [] refl) (names_rising path (paths_of files) [] refl) (same-at apart)

-- of a folder that isn't the root
pub below-names : (files : List File) (folder path : List ℕ) → list_all (λ (f : File). not (is_folder files f.path)) files ≡ true → is_same folder [] ≡ false → is_same folder root ≡ false → is_at_or_below folder path ≡ true →
    names_in (files_below files folder) path ≡ names_in files path
below-names files folder path apart n r h = same-names files folder path (not_root (is_same path root) refl) h apart
  where
    above_root : (f : List ℕ) → is_same f [] ≡ false → is_above f root ≡ false
    above_root [] e = cc
    above_root (a ∷ []) e = grind arith
    above_root (a ∷ (b ∷ bs)) e = grind arith

    neither : (b : Bool) → is_same path folder ≡ b → is_same path root ≡ true → (b || is_above folder path) ≡ true → false ≡ true
    neither true e g k = sym r ∙ (ap (λ (x : List ℕ). is_same x root) (sym (is_same-eq path folder e)) ∙ g)
    neither false e g k = sym (above_root folder n) ∙ (ap (is_above folder) (sym (is_same-eq path root g)) ∙ k)

    not_root : (b : Bool) → is_same path root ≡ b → b ≡ false
    not_root true e = let no : false ≡ true = neither (is_same path folder) refl e h in sym no
    not_root false e = refl
