-- What the reading of a message comes to.
use Rattle.std.proofs.Common.{◌≡◌, ℕ, ◌-◌, Bool, true, false, List, length, take, drop, arith, Option, Some, None, Result, Ok, Err, refl, sym, ap, subst, ◌∙◌, inl, inr}
use Rattle.std.specs.Prelude.{◌==◌, IsTrue, slice_range}
use Rattle.std.specs.List.{list_all}
use Rattle.std.proofs.lemmas.List.{take_all, drop-take, length-drop}
use Rattle.dbus_types.specs.declared.types.Endian.{Endian}
use Rattle.dbus_types.specs.declared.types.WireType.{WireType}
use Rattle.dbus_types.specs.declared.types.Value.{Value}
use Rattle.dbus_values.specs.Spells.{gap}
use Rattle.dbus_message.specs.declared.content.Content.{Content}
use Rattle.dbus_types.specs.declared.message.Message.{Message}
use Rattle.dbus_message.specs.declared.error.MessageError.{MessageError}
use Rattle.dbus_message.specs.declared.error.MessageError.TheVariants.{Bad, Memory}
use Rattle.dbus_message.specs.Header.{endian_of, kind_of, fields_end, body_start, field_bytes, padding_bytes, body_bytes}
use Rattle.dbus_message.specs.Fields.{AreFieldsOf, known, are_good, has_needed, text_of}
use Rattle.dbus_message.specs.Content.{IsContent, IsSpelled, IsExplained}
use Rattle.dbus_message.specs.Rules.{OfFields, HasEndian, HasKind, HasVersion, HasSerial, IsShort, Checked, IsFirstBroken, IsWhole}
use Rattle.dbus_message.specs.Messages.{SaysHeader, SaysFields, IsMessage, IsReadAs, IsRefusedFor, IsReading}
use Rattle.dbus_message.specs.Answers.{IsReadFields, IsReadContent}
use Rattle.dbus_message.proofs.Arrays.{one_list}

pub past : {R L : Type 0} {n rule : ℕ} → Checked R n rule L → R → L
past (inl x) r = absurd (x.1 r)
past (inr y) r = y.1

same_checked : {R L M : Type 0} {n a b : ℕ} → Checked R n a L → Checked R n b M → (L → M → a ≡ b) → a ≡ b
same_checked (inl x) (inl y) f = x.0 ∙ sym y.0
same_checked (inl x) (inr y) f = absurd (x.1 y.0)
same_checked (inr x) (inl y) f = absurd (y.1 x.0)
same_checked (inr x) (inr y) f = f x.1 y.1

-- Only one rule is the first.
pub one_first : (bytes : List ℕ) (a b : ℕ) → IsFirstBroken bytes a → IsFirstBroken bytes b → a ≡ b
one_first bytes a b p q =
    same_checked p q (λ p q. same_checked p q (λ p q. same_checked p q (λ p q. same_checked p q (λ p q. same_checked p q (λ p q.
    same_checked p q (λ p q. same_checked p q (λ p q. same_checked p q (λ p q. same_checked p q (λ p q. same_checked p q (λ p q.
    same_checked p q (λ p q. absurd p)))))))))))

spelled_of : (e : Endian) (signature : Option (List ℕ)) (types : List WireType) (values : List Value) (bytes : List ℕ) → IsContent e signature types values bytes → IsSpelled e signature bytes
spelled_of e None types values bytes h = tt
spelled_of e (Some text) types values bytes h = (types, values, h.0, h.1)

explained_of : (e : Endian) (signature : Option (List ℕ)) (types : List WireType) (values : List Value) (bytes : List ℕ) → IsContent e signature types values bytes → IsExplained signature bytes
explained_of e None types values bytes h = h.2
explained_of e (Some text) types values bytes h = tt

pub of_fields : (bytes : List ℕ) (fs : List Value) → AreFieldsOf bytes fs → (P : List Value → Type 0) → P fs → OfFields bytes P
of_fields bytes fs is P h gs other = subst P (one_list bytes fs gs is other) h

-- A message breaks no rule.
pub refutes : (bytes : List ℕ) (m : Message) (rule : ℕ) → IsMessage bytes m → IsFirstBroken bytes rule → ⊥
refutes bytes m rule is broken =
    let fs = is.0 in
    let header = is.1.1 in
    let after_5 = past (past (past (past (past broken header.0) header.1) header.2) header.3) header.4 in
    let after_6 = past after_5 (fs, is.2) in
    let after_7 = past after_6 (of_fields bytes fs is.2 (λ gs. IsTrue (are_good gs)) is.3) in
    let after_8 = past after_7 (of_fields bytes fs is.2 (λ gs. IsTrue (has_needed (kind_of bytes) gs)) is.4) in
    let after_9 = past after_8 is.5 in
    let after_10 = past after_9 (of_fields bytes fs is.2 (λ gs. IsSpelled (endian_of bytes) (text_of 8 gs) (body_bytes bytes)) (spelled_of (endian_of bytes) (text_of 8 fs) m.signature m.body (body_bytes bytes) is.8)) in
    past after_10 (of_fields bytes fs is.2 (λ gs. IsExplained (text_of 8 gs) (body_bytes bytes)) (explained_of (endian_of bytes) (text_of 8 fs) m.signature m.body (body_bytes bytes) is.8))

-- what is said of an answer
pub record Answered (bytes : List ℕ) (r : Result Message MessageError) : Type 0 where
  pub reading : IsReading bytes r
  pub only : (m : Message) → IsMessage bytes m → IsReadAs m r
  pub refused : (rule : ℕ) → IsFirstBroken bytes rule → IsRefusedFor rule r

pub bad : (bytes : List ℕ) (rule : ℕ) → IsFirstBroken bytes rule → Answered bytes (Err (Bad rule))
bad bytes rule is = record { reading = is; only = λ m h. refutes bytes m rule h is; refused = λ other h. one_first bytes rule other is h }

pub no_memory : (bytes : List ℕ) → Answered bytes (Err Memory)
no_memory bytes = record { reading = tt; only = λ m h. tt; refused = λ rule h. tt }

pub same_message : (m n : Message) → m.endian ≡ n.endian → m.kind ≡ n.kind → m.flags ≡ n.flags → m.serial ≡ n.serial → m.path ≡ n.path → m.interface ≡ n.interface → m.member ≡ n.member
    → m.error ≡ n.error → m.reply_serial ≡ n.reply_serial → m.signature ≡ n.signature → m.fds ≡ n.fds → m.body ≡ n.body → m ≡ n
same_message m n a b c d e f g h j k l o = λ i. record {
  endian = a i;
  kind = b i;
  flags = c i;
  serial = d i;
  path = e i;
  interface = f i;
  member = g i;
  error = h i;
  reply_serial = j i;
  signature = k i;
  fds = l i;
  body = o i;
}

module _ (bytes : List ℕ) (whole : IsWhole bytes) where
  after_header : (rule : ℕ) (Later : Type 0) → Later → Checked (HasEndian bytes) 1 rule (Checked (HasKind bytes) 2 rule (Checked (HasVersion bytes) 3 rule (Checked (HasSerial bytes) 4 rule (Checked (IsShort bytes) 5 rule Later))))
  after_header rule Later later = let h = whole.1 in inr (h.0, inr (h.1, inr (h.2, inr (h.3, inr (h.4, later)))))

  pub fields_failed : (r : MessageError) → IsReadFields (endian_of bytes) (field_bytes bytes) (Err r) → Answered bytes (Err r)
  fields_failed (Bad rule) h = bad bytes rule (after_header rule _ (inl (h.1, λ f. h.0 (known f.0) (f.0, refl, f.1))))
  fields_failed Memory h = no_memory bytes

  module _ (fs : List Value) (is : AreFieldsOf bytes fs) where
    pub bad_fields : (IsTrue (are_good fs) → ⊥) → Answered bytes (Err (Bad 7))
    bad_fields breaks = bad bytes 7 (after_header 7 _ (inr ((fs, is), inl (refl, λ h. breaks (h fs is)))))

    good : IsTrue (are_good fs) → OfFields bytes (λ gs. IsTrue (are_good gs))
    good keeps = of_fields bytes fs is (λ gs. IsTrue (are_good gs)) keeps

    pub bad_needed : IsTrue (are_good fs) → (IsTrue (has_needed (kind_of bytes) fs) → ⊥) → Answered bytes (Err (Bad 8))
    bad_needed keeps breaks = bad bytes 8 (after_header 8 _ (inr ((fs, is), inr (good keeps, inl (refl, λ h. breaks (h fs is))))))

    needed : IsTrue (has_needed (kind_of bytes) fs) → OfFields bytes (λ gs. IsTrue (has_needed (kind_of bytes) gs))
    needed keeps = of_fields bytes fs is (λ gs. IsTrue (has_needed (kind_of bytes) gs)) keeps

    pub bad_padding : IsTrue (are_good fs) → IsTrue (has_needed (kind_of bytes) fs) → (IsTrue (list_all (λ b. b == 0) (padding_bytes bytes)) → ⊥) → Answered bytes (Err (Bad 9))
    bad_padding keeps all breaks = bad bytes 9 (after_header 9 _ (inr ((fs, is), inr (good keeps, inr (needed all, inl (refl, breaks))))))

    module _ (keeps : IsTrue (are_good fs)) (all : IsTrue (has_needed (kind_of bytes) fs)) (zeros : IsTrue (list_all (λ b. b == 0) (padding_bytes bytes))) where
      broken_body : (rule : ℕ) → Checked (IsSpelled (endian_of bytes) (text_of 8 fs) (body_bytes bytes)) 10 rule (Checked (IsExplained (text_of 8 fs) (body_bytes bytes)) 11 rule ⊥) → IsFirstBroken bytes rule
      broken_body rule (inl x) = after_header rule _ (inr ((fs, is), inr (good keeps, inr (needed all, inr (zeros, inl (x.0, λ h. x.1 (h fs is)))))))
      broken_body rule (inr (s, inl x)) = after_header rule _ (inr ((fs, is), inr (good keeps, inr (needed all, inr (zeros, inr (of_fields bytes fs is (λ gs. IsSpelled (endian_of bytes) (text_of 8 gs) (body_bytes bytes)) s, inl (x.0, λ h. x.1 (h fs is))))))))
      broken_body rule (inr (s, inr x)) = absurd x.1

      pub body_failed : (r : MessageError) → IsReadContent (endian_of bytes) (text_of 8 fs) (body_bytes bytes) (Err r) → Answered bytes (Err r)
      body_failed (Bad rule) h = bad bytes rule (broken_body rule h.1)
      body_failed Memory h = no_memory bytes

      pub message_read : (content : Content) (m : Message) → IsReadContent (endian_of bytes) (text_of 8 fs) (body_bytes bytes) (Ok content) → SaysHeader bytes m → SaysFields fs m → m.signature ≡ content.types → m.body ≡ content.values → Answered bytes (Ok m)
      message_read content m c header fields types values =
          let signature = subst (λ (ts : List WireType). IsContent (endian_of bytes) (text_of 8 fs) ts content.values (body_bytes bytes)) (sym types) c.0 in
          let said = subst (λ (vs : List Value). IsContent (endian_of bytes) (text_of 8 fs) m.signature vs (body_bytes bytes)) (sym values) signature in
          let message : IsMessage bytes m = (fs, whole, is, keeps, all, zeros, header, fields, said) in
          record {
            reading = message;
            only = λ n h. only_one content m c header fields types values n h;
            refused = λ rule h. absurd (refutes bytes m rule message h);
          }
        where
          only_one : (content : Content) (m : Message) → IsReadContent (endian_of bytes) (text_of 8 fs) (body_bytes bytes) (Ok content) → SaysHeader bytes m → SaysFields fs m → m.signature ≡ content.types → m.body ≡ content.values → (n : Message) → IsMessage bytes n → m ≡ n
          only_one content m c header fields types values n h =
              let same : h.0 ≡ fs = one_list bytes h.0 fs h.2 is in
              let f = subst (λ (gs : List Value). SaysFields gs n) same h.7 in
              let b = subst (λ (gs : List Value). IsContent (endian_of bytes) (text_of 8 gs) n.signature n.body (body_bytes bytes)) same h.8 in
              let found = c.1 (record { types = n.signature; values = n.body }) b in
              same_message m n (header.0 ∙ sym h.6.0) (header.1 ∙ sym h.6.1) (header.2 ∙ sym h.6.2) (header.3 ∙ sym h.6.3) (fields.0 ∙ sym f.0) (fields.1 ∙ sym f.1) (fields.2 ∙ sym f.2) (fields.3 ∙ sym f.3) (fields.4 ∙ sym f.4)
              (types ∙ sym (ap (λ (x : Content). x.types) found)) (fields.5 ∙ sym f.5) (values ∙ sym (ap (λ (x : Content). x.values) found))

-- The same for what the code looks at: an order of bytes, two places, and the texts there.
pub not_true : (r b : Bool) → r ≡ b → r ≡ false → IsTrue b → ⊥
not_true r b is breaks keeps = let p : true ≡ false = sym keeps ∙ (sym is ∙ breaks) in absurd cc

pub fields_at : (bytes : List ℕ) (e : Endian) (end : ℕ) (r : Result (List Value) MessageError) → e ≡ endian_of bytes → end ≡ fields_end bytes → IsReadFields e (drop 12 (take end bytes)) r → IsReadFields (endian_of bytes) (field_bytes bytes) r
fields_at bytes e end r p q h = subst (λ (x : Endian). IsReadFields x (field_bytes bytes) r) p (subst (λ (n : ℕ). IsReadFields e (drop 12 (take n bytes)) r) q h)

pub padding_at : (bytes : List ℕ) (end start : ℕ) → end ≡ fields_end bytes → start ≡ body_start bytes → slice_range bytes end start ≡ padding_bytes bytes
padding_at bytes end start p q =
    let fe : ℕ = fields_end bytes in
    let wide : body_start bytes - fe ≡ gap 8 fe = omega arith in
    ap (λ (n : ℕ). slice_range bytes n start) p ∙ (ap (λ (n : ℕ). slice_range bytes fe n) q ∙ (ap (λ (n : ℕ). take n (drop fe bytes)) wide ∙ sym (drop-take fe (gap 8 fe) bytes)))

pub content_at : (bytes : List ℕ) (fs : List Value) (e : Endian) (start : ℕ) (text : Option (List ℕ)) (r : Result Content MessageError) → e ≡ endian_of bytes → start ≡ body_start bytes → text ≡ text_of 8 fs
    → IsReadContent e text (take (length bytes - start) (drop start bytes)) r → IsReadContent (endian_of bytes) (text_of 8 fs) (body_bytes bytes) r
content_at bytes fs e start text r p q s h =
    let rest : take (length bytes - start) (drop start bytes) ≡ drop start bytes = take_all (length bytes - start) (drop start bytes) (omega (arith, length-drop {A = ℕ} start bytes)) in
    subst (λ (x : Endian). IsReadContent x (text_of 8 fs) (body_bytes bytes) r) p (subst (λ (n : ℕ). IsReadContent e (text_of 8 fs) (drop n bytes) r) q
    (subst (λ (t : Option (List ℕ)). IsReadContent e t (drop start bytes) r) s (subst (λ (b : List ℕ). IsReadContent e text b r) rest h)))
