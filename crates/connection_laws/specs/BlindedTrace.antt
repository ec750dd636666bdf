-- The blinded trace of an application: its trace without the bytes of files, but for what is in
-- sight.
use Rattle.std.specs.Prelude.{ℕ, List, [], ◌∷◌, ◌++◌, map, Bool, cond}
use Rattle.std.specs.List.{flat_map}
use Rattle.portal_base.specs.declared.files.File.{File}
use Rattle.portal_base.specs.declared.files.FileName.{FileName}
use Rattle.portal_model.specs.declared.entry.Entry.{Entry}
use Rattle.portal_model.specs.Content.{Content, OfFile, OfFolder, NotThere}
use Rattle.portal_model.specs.History.{makes}
use Rattle.portal_model.specs.State.{State}
use Rattle.portal_model.specs.Step.{after}
use Rattle.app_world.specs.Effect.{Effect, Gained, Lost, Gone, Bytes, Turned}
use Rattle.app_world.specs.TraceItem as item
use Rattle.app_world.specs.TraceItem.{TraceItem, item_of}
use Rattle.app_world.specs.View.{AppView, NamedFile, view}
use Rattle.app_world.specs.World.{Trace, own_of, touch}
use Rattle.connection_laws.specs.Blinded.{blinded, file_of, hidden, hidden_holding, own_blinded, reads}

-- of an effect all but bytes
abbrev pub hidden_effect : Effect → Effect
hidden_effect (Gained d rights holding) = Gained d rights (hidden_holding holding)
hidden_effect (Lost id rights) = Lost id rights
hidden_effect (Gone id) = Gone id
hidden_effect (Bytes path generation content) = Bytes path generation (hidden content)
hidden_effect (Turned path generation content) = Turned path generation (hidden content)

-- the bytes of a file that is in sight
abbrev pub sight_at : (FileName → Bool) → List ℕ → Content → List Effect
sight_at sees path (OfFile generation bytes moment) =
    cond (sees (file_of path generation))
    (Bytes path generation (OfFile generation bytes moment) ∷ []) []
sight_at sees path OfFolder = []
sight_at sees path (NotThere room) = []

abbrev pub sight_of : (FileName → Bool) → File → List Effect
sight_of sees f = sight_at sees f.path (OfFile f.generation f.bytes f.moment)

abbrev pub sight_of_named : (FileName → Bool) → NamedFile → List Effect
sight_of_named sees f = sight_at sees f.name.path (OfFile f.name.generation f.bytes f.moment)

-- the bytes of all that is in sight of a view
abbrev pub sights : AppView → List Effect
sights v =
    flat_map (λ c. sight_at (reads v) c.path c.content) v.contents
    ++ (flat_map (λ b. flat_map (sight_of (reads v)) b.files) v.below
    ++ flat_map (sight_of_named (reads v)) v.files)

-- What others change, where they change anything: all but bytes, and then what is in sight of the
-- view after it. So where the right to read is gained, the bytes come as news.
abbrev pub blinded_effects : AppView → List Effect → List Effect
blinded_effects v [] = []
blinded_effects v (f ∷ fs) = map hidden_effect (f ∷ fs) ++ sights v

-- the same of a request of the application itself
abbrev pub blinded_items_of : List ℕ → State → Entry → List TraceItem
blinded_items_of app s e =
    cond (makes app s e)
    (item.Own (own_blinded (own_of s e)) ∷ map item_of (sights (view (after s e) app)))
    (map item_of (blinded_effects (view (after s e) app) (touch app s e)))

abbrev pub blinded_items : List ℕ → State → List Entry → List TraceItem
blinded_items app s [] = []
blinded_items app s (e ∷ es) = blinded_items_of app s e ++ blinded_items app (after s e) es

abbrev pub blinded_trace : List ℕ → State → List Entry → Trace
blinded_trace app s h =
    record { opening = blinded (view s app); items = blinded_items app s h }
