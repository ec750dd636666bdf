-- The rights that a book lends are those of the state that lends them.
use Rattle.std.proofs.Common.{◌≡◌, ℕ, ◌&&◌, Bool, Option, Some, is_some, sym, ap, ◌∙◌}
use Rattle.std.specs.Option.{option_map}
use Rattle.portal_base.specs.declared.who.Who.{Who}
use Rattle.portal_model.specs.declared.rights.Right.{Right}
use Rattle.portal_model.specs.declared.rights.Right.TheVariants.{Read, Write}
use Rattle.portal_model.specs.Place.{reach_at, reach_of_subject, subject_of, view_of_node}
use Rattle.portal_model.specs.State.{State, document_of, has, who_has}
use Rattle.app_view.specs.Books.{Lends, who_is}
use Rattle.app_view.specs.Reached.{reach_told}
use Rattle.app_view.specs.declared.book.Subject.{Subject}
use Rattle.app_view.specs.declared.book.ViewBook.{ViewBook}
use Rattle.app_view.specs.declared.rights_now.Reach.{Reach as ReachTold}

module _ (b : ViewBook) (s : State) (l : Lends b s) where
  has-lent : (who : Who) (number : ℕ) (right : Right) → (is_some (document_of b.documents.now.live number) && who_has b.grants.now who number right) ≡ has s who number right
  has-lent who number right = λ i. is_some (document_of (sym l.documents i) number) && who_has (sym l.rights i) who number right

  pub subject-reaches : (who : Who) (number : ℕ) (live read write : Bool) → live ≡ is_some (document_of b.documents.now.live number) → read ≡ (live && who_has b.grants.now who number Read) →
      write ≡ (live && who_has b.grants.now who number Write) → reach_told (record { read = read; write = write }) ≡ reach_of_subject s number (Some who)
  subject-reaches who number live read write e r w =
      let one : read ≡ has s who number Read = r ∙ (ap (λ (x : Bool). x && who_has b.grants.now who number Read) e ∙ has-lent who number Read) in
      let two : write ≡ has s who number Write = w ∙ (ap (λ (x : Bool). x && who_has b.grants.now who number Write) e ∙ has-lent who number Write) in
      λ i. record { read = one i; write = two i }

  pub view-reaches : (caller : Who) (node view number : ℕ) (subject found : Option Subject) (told : ReachTold) → view ≡ view_of_node node → option_map who_is found ≡ subject_of b.applications.now caller view → found ≡ subject →
      reach_told told ≡ reach_of_subject s number (option_map who_is subject) → reach_told told ≡ reach_at s caller node number
  view-reaches caller node view number subject found told v e f h =
      h ∙ ap (reach_of_subject s number) (sym (ap (option_map who_is) f) ∙ (e ∙ (λ i. subject_of (sym l.applications i) caller (v i))))
