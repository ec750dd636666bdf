-- What a table of namings has of a seat is what a connection has named, and its numbers are those of the nodes.
use Rattle.std.proofs.Common.{◌≡◌, ◌&&◌, ◌<◌, ◌≤◌, ℕ, nat_lt, List, length, Bool, true, false, not, Option, Some, None, IfSome, IsSomeAnd, refl, sym, ap, arith, ◌∙◌}
use Rattle.std.specs.Option.{option_map}
use Rattle.std.proofs.lemmas.Bool.Decides.{nat_tests}
use Rattle.folder_documents.specs.Named.{AtSeat, Both, CanName, Keeps, Named, Names as GetsNumber, named_on, naming_at, number_of, with_naming as with_other}
use Rattle.folder_documents.specs.NamingErrors.{Refuses}
use Rattle.folder_documents.specs.declared.named.NamingError.TheVariants.{Full}
use Rattle.portal_model.specs.declared.naming.Naming.{Naming}
use Rattle.portal_model.specs.Lookup.{node_of_naming}
use Rattle.portal_model.specs.NodeVerdict.{Names, NamesStay}
use Rattle.portal_model.specs.Place.{named_node}
use Rattle.portal_model.specs.SeatNames.{is_named_before, lacks_number, naming_of, with_naming}
use Rattle.file_ops.specs.SeatNames.{SeatNamed, namings_after, namings_on}

-- ---- a name by its number

pub named-there : (k : ℕ) (o : Option Named) (has : List Naming) → option_map (λ n. n.namings) o ≡ Some has → naming_at o k ≡ naming_of has k
named-there k None has e = cc
named-there k (Some a) has e =
    let own : a.namings ≡ has = cc in
    ap (λ (ns : List Naming). naming_of ns k) own

-- ---- whether there is a number

free-by : (b : Bool) (n : ℕ) → (b ≡ false → n < 65536) → (not b && not (nat_lt n 65536)) ≡ false
free-by true n h = refl
free-by false n h = let less : n < 65536 = h refl in let test : nat_lt n 65536 ≡ true = grind (arith, nat_tests) in ap not test

full-by : (b : Bool) (n : ℕ) → b ≡ false → 65536 ≤ n → (not b && not (nat_lt n 65536)) ≡ true
full-by true n e h = cc
full-by false n e h = let test : nat_lt n 65536 ≡ false = grind (arith, nat_tests) in ap not test

module _ (naming : Naming) (has : List Naming) where
  free-of : (o p : Option Named) → option_map (λ n. n.namings) o ≡ Some has → Both Keeps o p → IsSomeAnd p (CanName naming) → lacks_number has naming ≡ false
  free-of None p e k c = cc
  free-of (Some a) None e k c = absurd k
  free-of (Some a) (Some b) e k c =
      let own : a.namings ≡ has = cc in
      ap (λ (ns : List Naming). lacks_number ns naming) (sym (k.namings ∙ own))
      ∙ free-by (is_named_before b.namings naming) (length b.namings) (λ n. (c n).0)

  pub free-number : (old new : List (ℕ × Named)) (seat : ℕ) → namings_on old seat ≡ Some has → AtSeat (Both Keeps) old new seat → IsSomeAnd (named_on new seat) (CanName naming) → lacks_number has naming ≡ false
  free-number old new seat e k c = free-of (named_on old seat) (named_on new seat) e k.there c

  full-of : (o : Option Named) → option_map (λ n. n.namings) o ≡ Some has → IfSome o (λ n. Refuses naming n Full) → lacks_number has naming ≡ true
  full-of None e r = cc
  full-of (Some a) e r =
      let own : a.namings ≡ has = cc in
      ap (λ (ns : List Naming). lacks_number ns naming) (sym own) ∙ full-by (is_named_before a.namings naming) (length a.namings) r.0 r.1

  pub full-number : (names : List (ℕ × Named)) (seat : ℕ) → namings_on names seat ≡ Some has → IfSome (named_on names seat) (λ n. Refuses naming n Full) → lacks_number has naming ≡ true
  full-number names seat e r = full-of (named_on names seat) e r

  -- ---- the number that is given

  node-of : (k view : ℕ) (o p : Option Named) → view ≡ naming.view → option_map (λ n. n.namings) o ≡ Some has → Both (GetsNumber k naming) o p → named_node view k ≡ node_of_naming has naming
  node-of k view None p v e g = cc
  node-of k view (Some a) None v e g = absurd g
  node-of k view (Some a) (Some b) v e g =
      let own : a.namings ≡ has = cc in
      λ i. named_node (v i) ((g.number ∙ ap (number_of naming) own) i)

  pub given-node : (k view seat : ℕ) (old new : List (ℕ × Named)) → view ≡ naming.view → namings_on old seat ≡ Some has → AtSeat (Both (GetsNumber k naming)) old new seat → named_node view k ≡ node_of_naming has naming
  given-node k view seat old new v e g = node-of k view (named_on old seat) (named_on new seat) v e g.there

-- ---- what the seat has then

stays-of : (o p : Option Named) → Both Keeps o p → option_map (λ n. n.namings) p ≡ option_map (namings_after NamesStay) (option_map (λ n. n.namings) o)
stays-of None None k = refl
stays-of None (Some b) k = absurd k
stays-of (Some a) None k = absurd k
stays-of (Some a) (Some b) k = ap Some k.namings

pub kept-names : (seat : ℕ) (old new : List (ℕ × Named)) → AtSeat (Both Keeps) old new seat → SeatNamed seat NamesStay old new
kept-names seat old new k = record {
  there = stays-of (named_on old seat) (named_on new seat) k.there;
  elsewhere = λ other e. ap (option_map (λ (n : Named). n.namings)) (k.elsewhere other e);
}

same-with : (naming : Naming) (namings : List Naming) → with_other naming namings ≡ with_naming namings naming
same-with naming namings = refl

names-of : (k : ℕ) (naming : Naming) (o p : Option Named) → Both (GetsNumber k naming) o p → option_map (λ n. n.namings) p ≡ option_map (namings_after (Names naming)) (option_map (λ n. n.namings) o)
names-of k naming None None g = refl
names-of k naming None (Some b) g = absurd g
names-of k naming (Some a) None g = absurd g
names-of k naming (Some a) (Some b) g = ap Some (g.namings ∙ same-with naming a.namings)

pub given-names : (seat k : ℕ) (naming : Naming) (old new : List (ℕ × Named)) → AtSeat (Both (GetsNumber k naming)) old new seat → SeatNamed seat (Names naming) old new
given-names seat k naming old new g = record {
  there = names-of k naming (named_on old seat) (named_on new seat) g.there;
  elsewhere = λ other e. ap (option_map (λ (n : Named). n.namings)) (g.elsewhere other e);
}
