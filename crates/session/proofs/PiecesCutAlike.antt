-- A stream in pieces has the items of the whole.
use Rattle.std.proofs.Common.{◌≡◌, inl, inr, ℕ, ◌<◌, List, [], ◌∷◌, ◌++◌, length, take, drop, refl, sym, ap, ◌∙◌, subst}
use Rattle.std.proofs.Math.Seq.{drop-append_seam, take-append_seam}
use Rattle.std.proofs.lemmas.List.{append-nil, append_assoc}
use Rattle.std.proofs.lemmas.List.Elements.{All-drop, All-take}
use Rattle.std.specs.List.{All}
use Rattle.session.specs.declared.act.Act.{Act}
use Rattle.session.specs.declared.act.Client.{Client}
use Rattle.session.specs.declared.phase.Phase.{Phase}
use Rattle.session.specs.declared.served.Stop.{Stop}
use Rattle.session.specs.declared.served.Stop.TheVariants as stop
use Rattle.session.specs.Items.{Items, Remains, joined, phase_after}
use Rattle.session.specs.Laws.{AreCutAlike, CutBy}
use Rattle.session.proofs.DidItems.{items-append, joined-append, phase-append}
use Rattle.session.proofs.ItemsAreFound.{are_found}
use Rattle.session.proofs.EndsStay.{ends_stay}
use Rattle.session.proofs.ItemsAreOne.{are_one}
use Rattle.session.proofs.AnswersAsked.{nothing}

-- what a stream's items are, once more of it has come
items_more : (c : Client) (p : Phase) (stream piece mid left : List ℕ) (is js : List (List ℕ)) (xs ys : List Act) (what : Stop) → Items c p stream is xs mid stop.More → Items c (phase_after c p is) (mid ++ piece) js ys left what
    → Items c p (stream ++ piece) (is ++ js) (xs ++ ys) left what
items_more c p stream piece mid left is js xs ys what a b = record {
  bytes = ap (λ (z : List ℕ). z ++ piece) a.bytes ∙ (append_assoc (joined is) mid piece ∙ (ap (λ (z : List ℕ). joined is ++ z) b.bytes ∙ (sym (append_assoc (joined is) (joined js) left) ∙ ap (λ (z : List ℕ). z ++ left) (sym (joined-append is js)))));
  each = items-append is js c p xs ys a.each b.each;
  remains = subst (λ (z : Phase). Remains c z left what) (sym (phase-append is js c p)) b.remains;
}

cut_on : (pieces : List (List ℕ)) (c : Client) (p : Phase) (stream mid left : List ℕ) (is js : List (List ℕ)) (xs ys : List Act) (what : Stop) (unseen : List (List ℕ)) → Items c p stream is xs mid stop.More
    → CutBy c (phase_after c p is) mid pieces js ys left what unseen → Items c p (stream ++ joined pieces) (is ++ js) (xs ++ ys) (left ++ joined unseen) what
cut_on [] c p stream mid left is js xs ys what unseen a h = rw (h.0, h.1, h.2, h.3, h.4, append-nil stream, append-nil is, append-nil xs, append-nil mid) a
cut_on (piece ∷ pieces) c p stream mid left is js xs ys what unseen a (inl (cut, over, e)) =
    let x = ends_stay c p (stream ++ piece) (joined pieces) (is ++ js) (xs ++ ys) left what (items_more c p stream piece mid left is js xs ys what a cut) over in
    subst (λ (z : List ℕ). Items c p z (is ++ js) (xs ++ ys) (left ++ joined unseen) what) (append_assoc stream piece (joined pieces))
    (subst (λ (z : List (List ℕ)). Items c p ((stream ++ piece) ++ joined pieces) (is ++ js) (xs ++ ys) (left ++ joined z) what) (sym e) x)
cut_on (piece ∷ pieces) c p stream mid left is js xs ys what unseen a (inr (first, others, firsts, more, next, e, f, h, rest_cut)) =
    let x = items_more c p stream piece mid next is first xs firsts stop.More a h in
    let y = cut_on pieces c p (stream ++ piece) next left (is ++ first) others (xs ++ firsts) more what unseen x (subst (λ (z : Phase). CutBy c z next pieces others more left what unseen) (sym (phase-append is first c p)) rest_cut) in
    let items : is ++ js ≡ (is ++ first) ++ others = ap (λ (z : List (List ℕ)). is ++ z) e ∙ sym (append_assoc is first others) in
    let acts : xs ++ ys ≡ (xs ++ firsts) ++ more = ap (λ (z : List Act). xs ++ z) f ∙ sym (append_assoc xs firsts more) in
    subst (λ (z : List ℕ). Items c p z (is ++ js) (xs ++ ys) (left ++ joined unseen) what) (append_assoc stream piece (joined pieces))
    (subst (λ (z : List (List ℕ)). Items c p ((stream ++ piece) ++ joined pieces) z (xs ++ ys) (left ++ joined unseen) what) (sym items)
    (subst (λ (z : List Act). Items c p ((stream ++ piece) ++ joined pieces) ((is ++ first) ++ others) z (left ++ joined unseen) what) (sym acts) y))

cut_whole : (c : Client) (p : Phase) (pieces items : List (List ℕ)) (acts : List Act) (left : List ℕ) (what : Stop) (unseen : List (List ℕ)) → CutBy c p [] pieces items acts left what unseen → Items c p (joined pieces) items acts (left ++ joined unseen) what
cut_whole c p pieces items acts left what unseen h = cut_on pieces c p [] [] left [] items [] acts what unseen (record { bytes = refl; each = refl; remains = nothing p }) h

-- ---- pieces are cut in some way

abbrev Fits : List ℕ → Type 0
Fits b = All (λ x. x < 256) b

fits_front : (b x y : List ℕ) → b ≡ x ++ y → Fits b → Fits x
fits_front b x y e h = subst Fits (ap (take (length x)) e ∙ take-append_seam x y) (All-take (λ z. z < 256) (length x) b h)

fits_left : (b x y : List ℕ) → b ≡ x ++ y → Fits b → Fits y
fits_left b x y e h = subst Fits (ap (drop (length x)) e ∙ drop-append_seam x y) (All-drop (λ z. z < 256) (length x) b h)

abbrev Cutting : Client → Phase → List ℕ → List (List ℕ) → Type 0
Cutting c p held pieces = (items : List (List ℕ)) × (acts : List Act) × (left : List ℕ) × (what : Stop) × (unseen : List (List ℕ)) × CutBy c p held pieces items acts left what unseen

some_at : (what : Stop) (c : Client) (p : Phase) (held piece : List ℕ) (pieces items : List (List ℕ)) (acts : List Act) (left : List ℕ) → Items c p (held ++ piece) items acts left what → Cutting c (phase_after c p items) left pieces → Cutting c p held (piece ∷ pieces)
some_at stop.More c p held piece pieces items acts left cut next = (items ++ next.0, acts ++ next.1, next.2, next.3, next.4, inr (items, next.0, acts, next.1, left, refl, refl, cut, next.5))
some_at (stop.Bad rule) c p held piece pieces items acts left cut next = (items, acts, left, stop.Bad rule, pieces, inl (cut, tt, refl))
some_at stop.TooLong c p held piece pieces items acts left cut next = (items, acts, left, stop.TooLong, pieces, inl (cut, tt, refl))

some_on : (pieces : List (List ℕ)) (c : Client) (p : Phase) (held : List ℕ) → Fits (held ++ joined pieces) → Cutting c p held pieces
some_on [] c p held fits = ([], [], held, stop.More, [], (refl, refl, refl, refl, refl))
some_on (piece ∷ pieces) c p held fits =
    let whole : (held ++ piece) ++ joined pieces ≡ held ++ (piece ++ joined pieces) = append_assoc held piece (joined pieces) in
    let f = are_found c p (held ++ piece) (fits_front _ (held ++ piece) (joined pieces) (sym whole) fits) in
    let parts : held ++ (piece ++ joined pieces) ≡ joined f.0 ++ (f.2 ++ joined pieces) = sym whole ∙ (ap (λ (z : List ℕ). z ++ joined pieces) f.4.bytes ∙ append_assoc (joined f.0) f.2 (joined pieces)) in
    some_at f.3 c p held piece pieces f.0 f.1 f.2 f.4 (some_on pieces c (phase_after c p f.0) f.2 (fits_left _ (joined f.0) (f.2 ++ joined pieces) parts fits))

pub cut_alike : AreCutAlike
cut_alike = record {
  some = λ c p pieces fits. some_on pieces c p [] fits;
  whole = cut_whole;
  alike = λ c p ps qs is js xs ys q r x y l m e a b.
      let first = cut_whole c p ps is xs q x l a in
      let second = subst (λ (z : List ℕ). Items c p z js ys (r ++ joined m) y) (sym e) (cut_whole c p qs js ys r y m b) in
      are_one c p (joined ps) is js xs ys (q ++ joined l) (r ++ joined m) x y first second;
}
