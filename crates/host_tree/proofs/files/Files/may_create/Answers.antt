use Rattle.std.proofs.Common.{◌≡◌, sym, ap, ◌∙◌, List, Bool, true, false, not, ◌&&◌, refl}
use Rattle.std.specs.Option.{is_some}
use Rattle.portal_base.specs.Content.{file_at, is_folder, has_room}
use Rattle.portal_base.specs.declared.files.File.{File}
use Rattle.host_tree.proofs.Entries.{has-file-at}
use Rattle.host_tree.proofs.files.Files.may_create.Goals as goal
use Rattle.host_tree.proofs.files.Files.may_create.Goals.{then-contains_key-via-then-contains_key, then-contains_key-via-else-contains_key+then-is_folder}

a-file : (a b c : Bool) → a ≡ true → false ≡ (not a && (not b && c))
a-file true b c e = refl
a-file false b c e = absurd (cc)

a-folder : (a b c : Bool) → b ≡ true → false ≡ (not a && (not b && c))
a-folder true true c e = refl
a-folder false true c e = refl
a-folder a false c e = absurd (cc)

neither : (a b c d : Bool) → a ≡ false → b ≡ false → d ≡ c → d ≡ (not a && (not b && c))
neither false false c d e f g = g
neither true b c d e f g = absurd (cc)
neither a true c d e f g = absurd (cc)

pub returns-then-contains_key : goal.returns-then-contains_key
returns-then-contains_key c =
    let fs = c.args.self.now in
    let p = c.args.path.now in
    let there : is_some (file_at fs p) ≡ c.contains_key.result = ap (λ (gs : List File). is_some (file_at gs p)) (sym c.self.view_is) ∙ (has-file-at p c.self.inside.map.entries ∙ sym c.contains_key.ensures) in
    elim c.then-contains_key.branch [
      | then-contains_key-via-then-contains_key w ↦ a-file (is_some (file_at fs p)) (is_folder fs p) (has_room fs p) (there ∙ w.if-contains_key.true)
      | then-contains_key-via-else-contains_key+then-is_folder w ↦ a-folder (is_some (file_at fs p)) (is_folder fs p) (has_room fs p) (sym w.is_folder.ensures ∙ w.if-is_folder.true)
    ]

pub returns : goal.returns
returns c =
    let fs = c.args.self.now in
    let p = c.args.path.now in
    let there : is_some (file_at fs p) ≡ c.contains_key.result = ap (λ (gs : List File). is_some (file_at gs p)) (sym c.self.view_is) ∙ (has-file-at p c.self.inside.map.entries ∙ sym c.contains_key.ensures) in
    neither (is_some (file_at fs p)) (is_folder fs p) (has_room fs p) c.in_ok-room.room (there ∙ c.if-contains_key.false) (sym c.is_folder.ensures ∙ c.if-is_folder.false) c.in_ok-room.ensures
