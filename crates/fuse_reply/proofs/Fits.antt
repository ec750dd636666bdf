-- The entries that fit into a size.
use Rattle.std.proofs.Common.{◌≡◌, ◌+◌, ◌-◌, ◌<◌, ◌≤◌, ℕ, List, [], ◌∷◌, ◌++◌, drop, drop-cons, get_or, length, length-append, replicate, Bool, true, false, refl, sym, ap, ◌∙◌, add-one, arith}
use Rattle.std.specs.Prelude.{nat_le, if◌then◌else◌}
use Rattle.std.proofs.lemmas.Bool.Decides.{nat_tests}
use Rattle.std.proofs.lemmas.List.{drop_all, length-replicate}
use Rattle.portal_model.specs.declared.reply.DirName.{DirName}
use Rattle.fuse_reply.specs.Dirents.{dirent, dirent_size, fitting, padding_of}

le-true : (a b : ℕ) → a ≤ b → nat_le a b ≡ true
le-true a b h = grind (arith, nat_tests)

le-false : (a b : ℕ) → b < a → nat_le a b ≡ false
le-false a b h = grind (arith, nat_tests)

-- where the first fits, it stands ahead of those that fit behind it
fitting-first : (entry : DirName) (rest : List DirName) (place left size : ℕ) → size ≡ dirent_size (length entry.name) → size ≤ left →
    fitting (entry ∷ rest) place left ≡ dirent entry (place + 1) ++ fitting rest (place + 1) (left - size)
fitting-first entry rest place left size s h =
    let fits : dirent_size (length entry.name) ≤ left = omega (arith, s, h) in
    ap (λ (b : Bool). if b then dirent entry (place + 1) ++ fitting rest (place + 1) (left - dirent_size (length entry.name)) else []) (le-true (dirent_size (length entry.name)) left fits)
    ∙ ap (λ (n : ℕ). dirent entry (place + 1) ++ fitting rest (place + 1) (left - n)) (sym s)

-- the entries from a place on begin with the one there
drop-first : (names : List DirName) (place : ℕ) (entry : DirName) → place < length names → entry ≡ get_or names place entry → drop place names ≡ entry ∷ drop (place + 1) names
drop-first names place entry h e = drop-cons names place entry h ∙ (λ i. sym e i ∷ drop (sym (add-one place) i) names)

pub fitting-next : (names : List DirName) (entry : DirName) (place left size : ℕ) → place < length names → entry ≡ get_or names place entry → size ≡ dirent_size (length entry.name) → size ≤ left →
    fitting (drop place names) place left ≡ dirent entry (place + 1) ++ fitting (drop (place + 1) names) (place + 1) (left - size)
fitting-next names entry place left size h e s l = ap (λ (x : List DirName). fitting x place left) (drop-first names place entry h e) ∙ fitting-first entry (drop (place + 1) names) place left size s l

-- where the first doesn't fit, none does
fitting-none : (entry : DirName) (rest : List DirName) (place left : ℕ) → left < dirent_size (length entry.name) →
    fitting (entry ∷ rest) place left ≡ []
fitting-none entry rest place left h =
    ap (λ (b : Bool). if b then dirent entry (place + 1) ++ fitting rest (place + 1) (left - dirent_size (length entry.name)) else []) (le-false (dirent_size (length entry.name)) left h)

pub fitting-last : (names : List DirName) (entry : DirName) (place left : ℕ) → place < length names → entry ≡ get_or names place entry → left < dirent_size (length entry.name) →
    length (fitting (drop place names) place left) ≡ 0
fitting-last names entry place left h e l =
    ap length (ap (λ (x : List DirName). fitting x place left) (drop-first names place entry h e) ∙ fitting-none entry (drop (place + 1) names) place left l)

-- an entry has the length that fuse.h gives it
length-dirent : (entry : DirName) (off : ℕ) → length (dirent entry off) ≡ dirent_size (length entry.name)
length-dirent entry off = omega (arith, length-append entry.name (replicate (padding_of (length entry.name)) 0), length-replicate {A = ℕ} (padding_of (length entry.name)) 0)

-- behind an entry that fits the length goes on by its own
pub fitting-more : (names : List DirName) (entry : DirName) (place left size : ℕ) → place < length names → entry ≡ get_or names place entry → size ≡ dirent_size (length entry.name) → size ≤ left →
    length (fitting (drop place names) place left) ≡ size + length (fitting (drop (place + 1) names) (place + 1) (left - size))
fitting-more names entry place left size h e s l =
    let rest = fitting (drop (place + 1) names) (place + 1) (left - size) in
    ap length (fitting-next names entry place left size h e s l)
    ∙ (length-append (dirent entry (place + 1)) rest ∙ ap (λ (n : ℕ). n + length rest) (length-dirent entry (place + 1) ∙ sym s))

-- behind the last name nothing fits
pub fitting-end : (names : List DirName) (place left : ℕ) → length names ≤ place → length (fitting (drop place names) place left) ≡ 0
fitting-end names place left h = ap (λ (x : List DirName). length (fitting x place left)) (drop_all place names h)
