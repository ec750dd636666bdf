-- The files that a view names by open files and by temporaries, by the numbers of handles.
use Rattle.std.proofs.Common.{◌≡◌, ◌&&◌, ◌||◌, ℕ, List, [], ◌∷◌, map, Bool, true, false, cond, Option, Some, None, option_map, refl, sym, ap, ◌∙◌}
use Rattle.std.specs.List.{filter, flat_map, list_any}
use Rattle.std.proofs.lemmas.List.Folds.{list_any-append}
use Rattle.portal_base.specs.declared.files.FileName.{FileName}
use Rattle.portal_model.specs.declared.handle.Handle.{Handle}
use Rattle.portal_model.specs.declared.handle.OpenHandle.{OpenHandle}
use Rattle.portal_model.specs.declared.state.Connection.{Connection}
use Rattle.portal_model.specs.declared.temporary.OwnTemp.{OwnTemp}
use Rattle.portal_model.specs.State.{State, connection_of, handles_of, is_app}
use Rattle.portal_model.specs.Valid.{Valid}
use Rattle.open_handles.specs.Opened.{Opened, opened_on}
use Rattle.save_files.specs.Own.{Own, own_on, owned}
use Rattle.app_world.specs.View.{OwnHandle, holds_name, is_held_name, names_of_connection, names_of_handle, own_connection, own_connections, own_handle, same_name, view}
use Rattle.named_paths.specs.Named.{any_names, is_open_as, temps_of}
use Rattle.named_paths.specs.OpenNumbers.{Cover, OpenNumbers}
use Rattle.named_paths.specs.Seated.{HasOpen, silent}
use Rattle.named_paths.proofs.OpenPaths.{Each, by-numbers, each-here, opens}

module _ (name : FileName) where
  no-more : (b : Bool) → (b || false) ≡ b
  no-more true = refl
  no-more false = refl

  handle-held : (h : Handle) → is_held_name (names_of_handle h) name ≡ is_open_as name (Some h)
  handle-held (Handle.File file node document strict read write) = no-more (same_name file name)
  handle-held (Handle.Folder node names) = refl

  handles-held : (hs : List OpenHandle) → is_held_name (flat_map (λ (h : OwnHandle). names_of_handle h.handle) (map own_handle hs)) name ≡ list_any (opens (is_open_as name)) hs
  handles-held [] = refl
  handles-held (h ∷ hs) =
      list_any-append (λ (n : FileName). same_name n name) (names_of_handle h.handle) (flat_map (λ (x : OwnHandle). names_of_handle x.handle) (map own_handle hs))
      ∙ (λ i. handle-held h.handle i || handles-held hs i)

  temps-held : (ts : List OwnTemp) → is_held_name (map (λ (t : OwnTemp). t.temp.file) ts) name ≡ list_any (λ (t : OwnTemp). same_name t.temp.file name) ts
  temps-held [] = refl
  temps-held (t ∷ ts) = ap (λ (b : Bool). same_name t.temp.file name || b) (temps-held ts)

  module _ (app : List ℕ) (handles : List OpenHandle) where
    abbrev its : Connection → Bool
    its c = list_any (opens (is_open_as name)) (handles_of handles c.seat) || list_any (λ (t : OwnTemp). same_name t.temp.file name) c.temps

    connection-held : (c : Connection) → is_held_name (names_of_connection (own_connection app handles c)) name ≡ its c
    connection-held c =
        list_any-append (λ (n : FileName). same_name n name) (flat_map (λ (h : OwnHandle). names_of_handle h.handle) (map own_handle (handles_of handles c.seat))) (map (λ (t : OwnTemp). t.temp.file) c.temps)
        ∙ (λ i. handles-held (handles_of handles c.seat) i || temps-held c.temps i)

    connections-held : (cs : List Connection) → is_held_name (flat_map names_of_connection (own_connections app handles cs)) name ≡ list_any (λ (c : Connection). is_app app c.who && its c) cs
    connections-held [] = refl
    connections-held (c ∷ cs) = by (is_app app c.who) (connections-held cs)
      where
        by : (b : Bool) → is_held_name (flat_map names_of_connection (own_connections app handles cs)) name ≡ list_any (λ (x : Connection). is_app app x.who && its x) cs →
            is_held_name (flat_map names_of_connection (map (own_connection app handles) (cond b (c ∷ filter (λ (x : Connection). is_app app x.who) cs) (filter (λ (x : Connection). is_app app x.who) cs)))) name
            ≡ ((b && its c) || list_any (λ (x : Connection). is_app app x.who && its x) cs)
        by true e =
            list_any-append (λ (n : FileName). same_name n name) (names_of_connection (own_connection app handles c)) (flat_map names_of_connection (own_connections app handles cs))
            ∙ (λ i. connection-held c i || e i)
        by false e = e

-- ---- the temporaries of a table

-- a table has the temporaries of a connection
abbrev pub TempsOn : Connection → Option Own → Type 0
TempsOn c own = option_map (λ o. owned o.temps) own ≡ Some c.temps

temps-there : (c : Connection) (own : Option Own) → TempsOn c own → temps_of own ≡ c.temps
temps-there c None e = absurd (cc)
temps-there c (Some o) e = cc

module _ (s : State) (v : Valid s) (numbers : OpenNumbers) (cover : Cover numbers s.handles)
    (seats : List (ℕ × Opened))
    (table : (seat : ℕ) (c : Connection) → connection_of s.connections seat ≡ Some c →
    HasOpen s seat c (opened_on seats seat))
    (temps : List (ℕ × Own))
    (own : (seat : ℕ) (c : Connection) → connection_of s.connections seat ≡ Some c →
    TempsOn c (own_on temps seat)) (app : List ℕ) (name : FileName) where
  table-held : (cs : List Connection) →
      Each (λ c. connection_of s.connections c.seat ≡ Some c) cs →
      any_names numbers seats temps app name (map silent cs)
      ≡ list_any (λ (c : Connection). is_app app c.who && its name app s.handles c) cs
  table-held [] e = refl
  table-held (c ∷ cs) e =
      λ i. (is_app app c.who
      && (by-numbers s v numbers cover (is_open_as name) refl c.seat c (opened_on seats c.seat) (table c.seat c e.0) i
      || list_any (λ (t : OwnTemp). same_name t.temp.file name) (temps-there c (own_on temps c.seat) (own c.seat c e.0) i)))
      || table-held cs e.1 i

  -- by the handles and the temporaries of the tables, one of the application names the file
  pub held-named : any_names numbers seats temps app name (map silent s.connections) ≡ holds_name (view s app) name
  held-named = table-held s.connections (each-here s.connections v.seats_differ)
      ∙ sym (connections-held name app s.handles s.connections)
