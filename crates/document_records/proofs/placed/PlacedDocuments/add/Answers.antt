use Rattle.std.proofs.Common.{◌≡◌, ◌<◌, ◌++◌, ◌∷◌, [], length, false, refl, ap, sym, ◌∙◌}
use Rattle.portal_model.specs.Valid.{is_made}
use Rattle.document_records.specs.Documents.{DocumentList, room}
use Rattle.document_records.proofs.DocumentLemmas.{indexed-more, indexed-again, popped, on-ok, on-err, has-room, has-live-room}
use Rattle.document_records.proofs.placed.PlacedDocuments.add.Goals as goal

pub invariant_of-self-then-is_err-2 : goal.invariant_of-self-then-is_err-2
invariant_of-self-then-is_err-2 c =
    let not_made : is_made c.self.inside.made c.args.document.id.number ≡ false =
    ap (λ (s : DocumentList). is_made s.made c.args.document.id.number) c.self.view_is
    ∙ c.requires.new in
    rw (on-err c.push.result _ c.push.ensures.err c.if-is_err-2.ensures.value)
    (indexed-again c.self.inside.most_live c.self.inside.most_made c.self.inside.live c.self.inside.made c.self.inside.places c.self.inside.live_places c.self.invariant c.args.document.id.number _ c.insert.new.self c.remove.new.self not_made
    (on-ok c.insert.result _ c.insert.ensures.updates c.if-is_err.ensures.value).0 c.remove.ensures.updates.0)

pub invariant_of-self-then-is_err-3 : goal.invariant_of-self-then-is_err-3
invariant_of-self-then-is_err-3 c =
    let not_made : is_made c.self.inside.made c.args.document.id.number ≡ false =
    ap (λ (s : DocumentList). is_made s.made c.args.document.id.number) c.self.view_is
    ∙ c.requires.new in
    let pushed : c.push.new.self ≡ c.self.inside.made ++ c.args.document.id ∷ [] = on-ok c.push.result _ c.push.ensures.ok c.if-is_err-2.ensures.value in
    let made = popped c.pop.result c.push.new.self c.pop.new.self c.self.inside.made c.args.document.id c.pop.ensures pushed in
    rw (made, on-err c.push-2.result _ c.push-2.ensures.err c.if-is_err-3.ensures.value)
    (indexed-again c.self.inside.most_live c.self.inside.most_made c.self.inside.live c.self.inside.made c.self.inside.places c.self.inside.live_places c.self.invariant c.args.document.id.number _ c.insert.new.self c.remove-then-is_err-3.new.self not_made
    (on-ok c.insert.result _ c.insert.ensures.updates c.if-is_err.ensures.value).0 c.remove-then-is_err-3.ensures.updates.0)

pub invariant_of-self-then-is_err-4 : goal.invariant_of-self-then-is_err-4
invariant_of-self-then-is_err-4 c =
    let not_made : is_made c.self.inside.made c.args.document.id.number ≡ false =
    ap (λ (s : DocumentList). is_made s.made c.args.document.id.number) c.self.view_is
    ∙ c.requires.new in
    let pushed : c.push.new.self ≡ c.self.inside.made ++ c.args.document.id ∷ [] = on-ok c.push.result _ c.push.ensures.ok c.if-is_err-2.ensures.value in
    let beside = on-ok c.push-2.result _ c.push-2.ensures.ok c.if-is_err-3.ensures.value in
    let places = popped c.pop-then-is_err-4.result c.push-2.new.self c.pop-then-is_err-4.new.self c.self.inside.live_places c.len-place.result c.pop-then-is_err-4.ensures beside in
    let made = popped c.pop-then-is_err-4-2.result c.push.new.self c.pop-then-is_err-4-2.new.self c.self.inside.made c.args.document.id c.pop-then-is_err-4-2.ensures pushed in
    rw (made, places, on-err c.push-3.result _ c.push-3.ensures.err c.if-is_err-4.ensures.value)
    (indexed-again c.self.inside.most_live c.self.inside.most_made c.self.inside.live c.self.inside.made c.self.inside.places c.self.inside.live_places c.self.invariant c.args.document.id.number _ c.insert.new.self c.remove-then-is_err-4.new.self not_made
    (on-ok c.insert.result _ c.insert.ensures.updates c.if-is_err.ensures.value).0 c.remove-then-is_err-4.ensures.updates.0)

pub invariant_of-self-else-is_err-4 : goal.invariant_of-self-else-is_err-4
invariant_of-self-else-is_err-4 c =
    let left : room (record {
      most_live = c.self.inside.most_live;
      most_made =
          c.self.inside.most_made;
      live = c.self.inside.live;
      made = c.self.inside.made;
    }) ≡ 0 → ⊥ =
    λ e. c.requires.room (sym (ap (λ (s : DocumentList). room s) c.self.view_is) ∙ e) in
    let more : length c.self.inside.made < c.self.inside.most_made =
    has-room _ (length c.self.inside.made) _ c.self.inside.most_made refl left in
    let fits : length c.self.inside.live < c.self.inside.most_live =
    has-live-room (length c.self.inside.live) _ _ c.self.inside.most_live refl left in
    let made : c.push.new.self ≡ c.self.inside.made ++ c.args.document.id ∷ [] = on-ok c.push.result _ c.push.ensures.ok c.if-is_err-2.ensures.value in
    let place : c.push-2.new.self ≡ c.self.inside.live_places ++ length c.self.inside.made ∷ [] = rw c.len-place.ensures at (on-ok c.push-2.result _ c.push-2.ensures.ok c.if-is_err-3.ensures.value) in
    let live : c.push-3.new.self ≡ c.self.inside.live ++ c.args.document ∷ [] = on-ok c.push-3.result _ c.push-3.ensures.ok c.if-is_err-4.ensures.value in
    let not_made : is_made c.self.inside.made c.args.document.id.number ≡ false =
    ap (λ (s : DocumentList). is_made s.made c.args.document.id.number) c.self.view_is
    ∙ c.requires.new in
    rw (live, made, place)
    (indexed-more c.self.inside.most_live c.self.inside.most_made c.self.inside.live
    c.self.inside.made c.self.inside.places c.self.inside.live_places c.self.invariant
    c.args.document c.insert.new.self not_made fits more
    (rw c.len-place.ensures at (on-ok c.insert.result _ c.insert.ensures.updates c.if-is_err.ensures.value).0))
