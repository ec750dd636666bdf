-- The files that a view has by their names: what is found among them, where fewer are named, where one more is, and where
-- one changes.
use Rattle.std.proofs.Common.{◌≡◌, ℕ, ◌==◌, nat_lt, List, [], ◌∷◌, ◌++◌, Bool, true, false, ◌&&◌, ◌||◌, cond, Option, Some, None, is_some, refl, sym, ap, ◌∙◌, arith}
use Rattle.std.specs.List.{filter, flat_map}
use Rattle.std.specs.Option.{option_map}
use Rattle.std.proofs.lemmas.List.Folds.{list_any-append}
use Rattle.portal_base.specs.Content.{file_named}
use Rattle.portal_base.specs.Names.{is_same}
use Rattle.portal_base.specs.declared.files.File.{File}
use Rattle.portal_base.specs.declared.files.FileName.{FileName}
use Rattle.portal_model.specs.Content.{Content, NotThere, OfFile, OfFolder, content_of}
use Rattle.portal_model.specs.Ordered.{bytes_less, is_rising, put_all}
use Rattle.portal_model.proofs.ListLookups.{find-filter, is_same-eq, is_same-refl, nat_is}
use Rattle.portal_model.proofs.RisingLists.{Order, rising-filter, rising-put, rising-put_all}
use Rattle.app_world.specs.Effect.{with_named}
use Rattle.app_world.specs.View.{NamedFile, file_if, files_at, found_named, is_held_name, name_less, named_ahead, named_as, named_file, same_name}
use Rattle.app_world.proofs.BelowLaws.{same-sym}
use Rattle.app_world.proofs.Found.{find-put, find-put_all, told-apart}
use Rattle.app_world.proofs.Orders.{numbers, paths}

-- ---- the order of names

pub name-eq : (a b : FileName) → same_name a b ≡ true → a ≡ b
name-eq a b h =
    let p : is_same a.path b.path ≡ true = grind arith in
    let g : (a.generation == b.generation) ≡ true = grind arith in
    λ i. record { path = is_same-eq a.path b.path p i; generation = nat_is a.generation b.generation g i }

pub name-itself : (a : FileName) → same_name a a ≡ true
name-itself a = ap (λ (b : Bool). b && a.generation == a.generation) (is_same-refl a.path) ∙ numbers.itself a.generation

within : (a b : FileName) → a.path ≡ b.path → name_less a b ≡ nat_lt a.generation b.generation
within a b e = ap (λ (c : Bool). cond c (nat_lt a.generation b.generation) (bytes_less a.path b.path)) (ap (λ (p : List ℕ). is_same p b.path) e ∙ is_same-refl b.path)

beside : (a b : FileName) → is_same a.path b.path ≡ false → name_less a b ≡ bytes_less a.path b.path
beside a b e = ap (λ (c : Bool). cond c (nat_lt a.generation b.generation) (bytes_less a.path b.path)) e

name-total : (a b : FileName) → name_less a b ≡ false → name_less b a ≡ false → a ≡ b
name-total a b h l = by_path (is_same a.path b.path) refl
  where
    by_path : (c : Bool) → is_same a.path b.path ≡ c → a ≡ b
    by_path true e =
        let p : a.path ≡ b.path = is_same-eq a.path b.path e in
        let g : a.generation ≡ b.generation = numbers.total a.generation b.generation (sym (within a b p) ∙ h) (sym (within b a (sym p)) ∙ l) in
        λ i. record { path = p i; generation = g i }
    by_path false e =
        let p : a.path ≡ b.path = paths.total a.path b.path (sym (beside a b e) ∙ h) (sym (beside b a (same-sym b.path a.path ∙ e)) ∙ l) in
        let no : true ≡ false = sym (is_same-refl b.path) ∙ (ap (λ (q : List ℕ). is_same q b.path) (sym p) ∙ e) in
        cc

name-through : (a b c : FileName) → name_less a b ≡ true → name_less b c ≡ true → name_less a c ≡ true
name-through a b c h l = by_paths (is_same a.path b.path) (is_same b.path c.path) refl refl
  where
    apart : (x : Bool) → is_same a.path c.path ≡ x → bytes_less a.path c.path ≡ true → x ≡ false
    apart true e less = sym less ∙ (ap (λ (r : List ℕ). bytes_less r c.path) (is_same-eq a.path c.path e) ∙ paths.irreflexive c.path)
    apart false e less = refl

    by_paths : (x y : Bool) → is_same a.path b.path ≡ x → is_same b.path c.path ≡ y → name_less a c ≡ true
    by_paths true true e f =
        let p : a.path ≡ b.path = is_same-eq a.path b.path e in
        let q : b.path ≡ c.path = is_same-eq b.path c.path f in
        within a c (p ∙ q) ∙ numbers.through a.generation b.generation c.generation (sym (within a b p) ∙ h) (sym (within b c q) ∙ l)
    by_paths true false e f =
        let p : a.path ≡ b.path = is_same-eq a.path b.path e in
        beside a c (ap (λ (r : List ℕ). is_same r c.path) p ∙ f) ∙ (ap (λ (r : List ℕ). bytes_less r c.path) p ∙ (sym (beside b c f) ∙ l))
    by_paths false true e f =
        let q : b.path ≡ c.path = is_same-eq b.path c.path f in
        beside a c (ap (is_same a.path) (sym q) ∙ e) ∙ (ap (bytes_less a.path) (sym q) ∙ (sym (beside a b e) ∙ h))
    by_paths false false e f =
        let less : bytes_less a.path c.path ≡ true = paths.through a.path b.path c.path (sym (beside a b e) ∙ h) (sym (beside b c f) ∙ l) in
        beside a c (apart (is_same a.path c.path) refl less) ∙ less

pub file_names : Order name_less same_name
file_names = record {
  eq = name-eq;
  itself = name-itself;
  irreflexive = λ a. within a a refl ∙ numbers.irreflexive a.generation;
  total = name-total;
  through = name-through;
}

pub held-joined : (ns ms : List FileName) (name : FileName) → is_held_name (ns ++ ms) name ≡ (is_held_name ns name || is_held_name ms name)
held-joined ns ms name = list_any-append (λ (n : FileName). same_name n name) ns ms

-- ---- what is found by a name

abbrev pub named_of : FileName → File → NamedFile
named_of name f = record { name = name; bytes = f.bytes; moment = f.moment }

-- the file of a name, as these files have it
abbrev pub named_in : List File → FileName → Option NamedFile
named_in files name = option_map (named_of name) (file_named files name)

module _ (files : List File) where
  found-one : (n name : FileName) (o : Option File) (rest : List NamedFile) (b : Bool) → same_name n name ≡ b →
      found_named (file_if n o ++ rest) name ≡ cond (b && is_some o) (option_map (named_of n) o) (found_named rest name)
  found-one n name None rest true e = refl
  found-one n name None rest false e = refl
  found-one n name (Some f) rest true e = ap (λ (c : Bool). cond c (Some (named_of n f)) (found_named rest name)) e
  found-one n name (Some f) rest false e = ap (λ (c : Bool). cond c (Some (named_of n f)) (found_named rest name)) e

  found-flat : (name : FileName) (ns : List FileName) → found_named (flat_map (named_file files) ns) name ≡ cond (is_held_name ns name) (named_in files name) None
  found-flat name [] = refl
  found-flat name (n ∷ ns) =
      found-one n name (file_named files n) (flat_map (named_file files) ns) (same_name n name) refl
      ∙ (ap (λ (o : Option NamedFile). cond (same_name n name && is_some (file_named files n)) (option_map (named_of n) (file_named files n)) o) (found-flat name ns)
      ∙ join (same_name n name) (is_held_name ns name) refl)
    where
      either : (o : Option File) (c : Bool) → cond (is_some o) (option_map (named_of name) o) (cond c (option_map (named_of name) o) None) ≡ option_map (named_of name) o
      either (Some f) c = refl
      either None true = refl
      either None false = refl

      join : (b c : Bool) → same_name n name ≡ b →
          cond (b && is_some (file_named files n)) (option_map (named_of n) (file_named files n)) (cond c (named_in files name) None) ≡ cond (b || c) (named_in files name) None
      join true c e =
          ap (λ (m : FileName). cond (is_some (file_named files m)) (option_map (named_of m) (file_named files m)) (cond c (named_in files name) None)) (name-eq n name e)
          ∙ either (file_named files name) c
      join false c e = refl

  -- each file that is named is found, where it is there, and no other is
  pub named-found : (name : FileName) (ns : List FileName) → found_named (files_at files ns) name ≡ cond (is_held_name ns name) (named_in files name) None
  named-found name ns = find-put_all _ _ named_as file_names name (flat_map (named_file files) ns) ∙ found-flat name ns

  pub named-rising : (ns : List FileName) → is_rising named_ahead (files_at files ns) ≡ true
  named-rising ns = rising-put_all _ _ named_as file_names (flat_map (named_file files) ns)

  where_held : (o p : Option NamedFile) (b : Bool) → (b ≡ true → o ≡ p) → cond b o None ≡ cond b p None
  where_held o p true e = e refl
  where_held o p false e = refl

  -- files in order that have each that is named, pruned, are those of a view
  pub named-are : (ns : List FileName) (xs : List NamedFile) → is_rising named_ahead xs ≡ true → ((name : FileName) → is_held_name ns name ≡ true → found_named xs name ≡ named_in files name) →
      filter (λ (f : NamedFile). is_held_name ns (named_as f)) xs ≡ files_at files ns
  named-are ns xs s e =
      told-apart _ _ named_as file_names (filter (λ (f : NamedFile). is_held_name ns (named_as f)) xs) (files_at files ns) (rising-filter _ _ named_as file_names (λ (f : NamedFile). is_held_name ns (named_as f)) xs s) (named-rising ns) (λ name.
      find-filter (λ (f : NamedFile). same_name (named_as f) name) (λ (f : NamedFile). is_held_name ns (named_as f)) (is_held_name ns name) (λ f h. ap (is_held_name ns) (name-eq (named_as f) name h)) xs
      ∙ (where_held (found_named xs name) (named_in files name) (is_held_name ns name) (e name) ∙ sym (named-found name ns)))

  -- fewer are named
  pub named-fewer : (ns ms : List FileName) → ((name : FileName) → is_held_name ms name ≡ true → is_held_name ns name ≡ true) →
      filter (λ (f : NamedFile). is_held_name ms (named_as f)) (files_at files ns) ≡ files_at files ms
  named-fewer ns ms e =
      named-are ms (files_at files ns) (named-rising ns) (λ name h.
      named-found name ns ∙ ap (λ (b : Bool). cond b (named_in files name) None) (e name h))

-- ---- a file that joins, or changes

abbrev pub named_by : FileName → Content → Option NamedFile → Option NamedFile
named_by name (OfFile generation bytes moment) o = Some (record { name = name; bytes = bytes; moment = moment })
named_by name OfFolder o = o
named_by name (NotThere room) o = o

either-same : (b : Bool) (o : Option NamedFile) → o ≡ cond b o o
either-same true o = refl
either-same false o = refl

found-with_named : (name n : FileName) (c : Content) (xs : List NamedFile) → found_named (with_named name c xs) n ≡ cond (same_name name n) (named_by name c (found_named xs n)) (found_named xs n)
found-with_named name n (OfFile generation bytes moment) xs = find-put _ _ named_as file_names n (record { name = name; bytes = bytes; moment = moment }) xs
found-with_named name n OfFolder xs = either-same (same_name name n) (found_named xs n)
found-with_named name n (NotThere room) xs = either-same (same_name name n) (found_named xs n)

rising-with_named : (name : FileName) (c : Content) (xs : List NamedFile) → is_rising named_ahead xs ≡ true → is_rising named_ahead (with_named name c xs) ≡ true
rising-with_named name (OfFile generation bytes moment) xs h = rising-put _ _ named_as file_names (record { name = name; bytes = bytes; moment = moment }) xs h
rising-with_named name OfFolder xs h = h
rising-with_named name (NotThere room) xs h = h

-- of those that are named then all others were named before
pub named-joined : (files : List File) (name : FileName) (c : Content) (ns ms : List FileName) → c ≡ content_of (file_named files name) false false →
    ((n : FileName) → is_held_name ms n ≡ true → (same_name name n || is_held_name ns n) ≡ true) →
    filter (λ (f : NamedFile). is_held_name ms (named_as f)) (with_named name c (files_at files ns)) ≡ files_at files ms
named-joined files name c ns ms k e =
    named-are files ms (with_named name c (files_at files ns)) (rising-with_named name c (files_at files ns) (named-rising files ns)) (λ n h.
    found-with_named name n c (files_at files ns)
    ∙ ((λ i. cond (same_name name n) (named_by name (k i) (named-found files n ns i)) (named-found files n ns i))
    ∙ there n (same_name name n) (is_held_name ns n) refl (e n h)))
  where
    itself : (o : Option File) (b : Bool) → named_by name (content_of o false false) (cond b (option_map (named_of name) o) None) ≡ option_map (named_of name) o
    itself (Some f) b = refl
    itself None true = refl
    itself None false = refl

    there : (n : FileName) (b d : Bool) → same_name name n ≡ b → (b || d) ≡ true →
        cond b (named_by name (content_of (file_named files name) false false) (cond d (named_in files n) None)) (cond d (named_in files n) None) ≡ named_in files n
    there n true d f g =
        ap (λ (m : FileName). named_by name (content_of (file_named files name) false false) (cond d (named_in files m) None)) (sym (name-eq name n f))
        ∙ (itself (file_named files name) d ∙ ap (named_in files) (name-eq name n f))
    there n false true f g = refl
    there n false false f g = cc

-- the file of this name has then this content, and each other is as it was
abbrev pub IsNamedThen : List File → List File → FileName → ℕ → List ℕ → ℕ → Type 0
IsNamedThen files more name generation bytes moment =
    (n : FileName) → named_in more n ≡ cond (same_name name n) (named_by name (OfFile generation bytes moment) None) (named_in files n)

pub named-changed : (files more : List File) (name : FileName) (generation : ℕ) (bytes : List ℕ) (moment : ℕ) (ns : List FileName) → IsNamedThen files more name generation bytes moment →
    filter (λ (f : NamedFile). is_held_name ns (named_as f)) (with_named name (OfFile generation bytes moment) (files_at files ns)) ≡ files_at more ns
named-changed files more name generation bytes moment ns e =
    named-are more ns (with_named name (OfFile generation bytes moment) (files_at files ns)) (rising-with_named name (OfFile generation bytes moment) (files_at files ns) (named-rising files ns)) (λ n h.
    found-with_named name n (OfFile generation bytes moment) (files_at files ns)
    ∙ ((λ i. cond (same_name name n) (Some (record { name = name; bytes = bytes; moment = moment })) (named-found files n ns i))
    ∙ (ap (λ (b : Bool). cond (same_name name n) (Some (record { name = name; bytes = bytes; moment = moment })) (cond b (named_in files n) None)) h
    ∙ sym (e n))))

-- the same is at each name
pub file-alike : (name : FileName) (o p : Option File) → option_map (named_of name) o ≡ option_map (named_of name) p → file_if name o ≡ file_if name p
file-alike name None None e = refl
file-alike name None (Some g) e = cc
file-alike name (Some f) None e = cc
file-alike name (Some f) (Some g) e = let same : named_of name f ≡ named_of name g = cc in ap (λ (x : NamedFile). x ∷ []) same

pub named-same : (files more : List File) (ns : List FileName) → ((name : FileName) → is_held_name ns name ≡ true → named_file files name ≡ named_file more name) → files_at files ns ≡ files_at more ns
named-same files more ns e = ap (put_all named_ahead) (mapped ns e)
  where
    first : (a b : Bool) → a ≡ true → (a || b) ≡ true
    first true b h = refl
    first false b h = cc

    later : (a : Bool) {b : Bool} → b ≡ true → (a || b) ≡ true
    later true h = refl
    later false h = h

    mapped : (ms : List FileName) → ((name : FileName) → is_held_name ms name ≡ true → named_file files name ≡ named_file more name) → flat_map (named_file files) ms ≡ flat_map (named_file more) ms
    mapped [] f = refl
    mapped (m ∷ ms) f = λ i. f m (first (same_name m m) (is_held_name ms m) (name-itself m)) i ++ mapped ms (λ name h. f name (later (same_name m name) h)) i
