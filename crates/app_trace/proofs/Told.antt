-- What the plain data stand for tells them apart.
use Rattle.std.proofs.Common.{◌≡◌, ℕ, List, map, refl}
use Rattle.portal_base.specs.declared.files.File.{File as HostFile}
use Rattle.portal_model.specs.Content as content
use Rattle.portal_model.specs.declared.state.Document.{Document}
use Rattle.rights_rule.specs.Rights.{RightSet}
use Rattle.app_world.specs.Own as own
use Rattle.app_world.specs.TraceItem as item
use Rattle.app_world.specs.View as view
use Rattle.app_trace.specs.declared.trace.TraceItem.{TraceItem}
use Rattle.app_trace.specs.declared.trace.TraceItem.TheVariants.{Own, Gained, Lost, Gone, Bytes, Turned}
use Rattle.app_trace.specs.declared.view.AppView.{AppView}
use Rattle.app_trace.specs.declared.view.Content.{Content}
use Rattle.app_trace.specs.declared.view.Content.TheVariants.{File, Folder, Missing}
use Rattle.app_trace.specs.declared.view.HeldDocument.{HeldDocument}
use Rattle.app_trace.specs.declared.view.Holding.{Holding}
use Rattle.app_trace.specs.declared.view.Holding.TheVariants.{Alone, Below}
use Rattle.app_trace.specs.declared.view.NamedFile.{NamedFile}
use Rattle.app_trace.specs.declared.view.OwnConnection.{OwnConnection}
use Rattle.app_trace.specs.declared.view.OwnHandle.{OwnHandle}
use Rattle.app_trace.specs.declared.view.PathBelow.{PathBelow}
use Rattle.app_trace.specs.declared.view.PathContent.{PathContent}
use Rattle.app_trace.specs.Told.{below_told, content_told, held_told, handle_told, holding_told, connection_told, named_told, path_told, view_told, item_told}
use Rattle.app_trace.proofs.FirstDifferences.{map-apart}

pub content-apart : (a b : Content) → content_told a ≡ content_told b → a ≡ b
content-apart (File g s m) (File h t n) e = cc
content-apart (File g s m) Folder e = cc
content-apart (File g s m) (Missing r) e = cc
content-apart Folder (File h t n) e = cc
content-apart Folder Folder e = refl
content-apart Folder (Missing r) e = cc
content-apart (Missing r) (File h t n) e = cc
content-apart (Missing r) Folder e = cc
content-apart (Missing r) (Missing q) e = cc

held-apart : (a b : HeldDocument) → held_told a ≡ held_told b → a ≡ b
held-apart a b e = λ i. record { document = (e i).document; rights = (e i).rights }

handle-apart : (a b : OwnHandle) → handle_told a ≡ handle_told b → a ≡ b
handle-apart a b e = λ i. record { fh = (e i).fh; handle = (e i).handle }

connection-apart : (a b : OwnConnection) → connection_told a ≡ connection_told b → a ≡ b
connection-apart a b e =
    let handles : a.handles ≡ b.handles = map-apart handle_told handle-apart a.handles b.handles (λ i. (e i).handles) in
    λ i. record {
      seat = (e i).seat;
      app = (e i).app;
      kind = (e i).kind;
      queue = (e i).queue;
      opens = (e i).opens;
      handles = handles i;
      namings = (e i).namings;
      temps = (e i).temps;
      added = (e i).added;
    }

path-apart : (a b : PathContent) → path_told a ≡ path_told b → a ≡ b
path-apart a b e =
    let there : a.content ≡ b.content = content-apart a.content b.content (λ i. (e i).content) in
    λ i. record { path = (e i).path; content = there i }

below-apart : (a b : PathBelow) → below_told a ≡ below_told b → a ≡ b
below-apart a b e = λ i. record { path = (e i).path; files = (e i).files }

named-apart : (a b : NamedFile) → named_told a ≡ named_told b → a ≡ b
named-apart a b e = λ i. record { name = (e i).name; bytes = (e i).bytes; moment = (e i).moment }

abbrev content_of_holding : content.Content → view.Holding → content.Content
content_of_holding other (view.Alone c) = c
content_of_holding other (view.Below files) = other

abbrev files_of_holding : List HostFile → view.Holding → List HostFile
files_of_holding other (view.Alone c) = other
files_of_holding other (view.Below files) = files

pub holding-apart : (a b : Holding) → holding_told a ≡ holding_told b → a ≡ b
holding-apart (Alone c) (Alone d) e =
    let there : c ≡ d = content-apart c d (λ i. content_of_holding (content_told c) (e i)) in
    λ i. Alone (there i)
holding-apart (Alone c) (Below gs) e = cc
holding-apart (Below fs) (Alone d) e = cc
holding-apart (Below fs) (Below gs) e = λ i. Below (files_of_holding fs (e i))

pub view-apart : (a b : AppView) → view_told a ≡ view_told b → a ≡ b
view-apart a b e =
    let documents : a.documents ≡ b.documents = map-apart held_told held-apart a.documents b.documents (λ i. (e i).documents) in
    let connections : a.connections ≡ b.connections = map-apart connection_told connection-apart a.connections b.connections (λ i. (e i).connections) in
    let contents : a.contents ≡ b.contents = map-apart path_told path-apart a.contents b.contents (λ i. (e i).contents) in
    let below : a.below ≡ b.below = map-apart below_told below-apart a.below b.below (λ i. (e i).below) in
    let files : a.files ≡ b.files = map-apart named_told named-apart a.files b.files (λ i. (e i).files) in
    λ i. record {
      handles = (e i).handles;
      queued = (e i).queued;
      file_bytes = (e i).file_bytes;
      documents = documents i;
      connections = connections i;
      contents = contents i;
      below = below i;
      files = files i;
    }

-- ---- items

abbrev asked_in : own.Own → item.TraceItem → own.Own
asked_in other (item.Own o) = o
asked_in other (item.Gained d rights c) = other
asked_in other (item.Lost id rights) = other
asked_in other (item.Gone id) = other
asked_in other (item.Bytes path generation c) = other
asked_in other (item.Turned path generation c) = other

abbrev content_in : content.Content → item.TraceItem → content.Content
content_in other (item.Own o) = other
content_in other (item.Gained d rights h) = other
content_in other (item.Lost id rights) = other
content_in other (item.Gone id) = other
content_in other (item.Bytes path generation c) = c
content_in other (item.Turned path generation c) = c

abbrev holding_in : view.Holding → item.TraceItem → view.Holding
holding_in other (item.Own o) = other
holding_in other (item.Gained d rights h) = h
holding_in other (item.Lost id rights) = other
holding_in other (item.Gone id) = other
holding_in other (item.Bytes path generation c) = other
holding_in other (item.Turned path generation c) = other

abbrev document_in : Document → item.TraceItem → Document
document_in other (item.Own o) = other
document_in other (item.Gained d rights c) = d
document_in other (item.Lost id rights) = other
document_in other (item.Gone id) = other
document_in other (item.Bytes path generation c) = other
document_in other (item.Turned path generation c) = other

abbrev rights_in : RightSet → item.TraceItem → RightSet
rights_in other (item.Own o) = other
rights_in other (item.Gained d rights c) = rights
rights_in other (item.Lost id rights) = rights
rights_in other (item.Gone id) = other
rights_in other (item.Bytes path generation c) = other
rights_in other (item.Turned path generation c) = other

abbrev path_in : List ℕ → item.TraceItem → List ℕ
path_in other (item.Own o) = other
path_in other (item.Gained d rights c) = other
path_in other (item.Lost id rights) = other
path_in other (item.Gone id) = other
path_in other (item.Bytes path generation c) = path
path_in other (item.Turned path generation c) = path

abbrev generation_in : ℕ → item.TraceItem → ℕ
generation_in other (item.Own o) = other
generation_in other (item.Gained d rights c) = other
generation_in other (item.Lost id rights) = other
generation_in other (item.Gone id) = other
generation_in other (item.Bytes path generation c) = generation
generation_in other (item.Turned path generation c) = generation

pub item-apart : (a b : TraceItem) → item_told a ≡ item_told b → a ≡ b
item-apart (Own s r n u h p l f x g) (Own s' r' n' u' h' p' l' f' x' g') e =
    let o : own.Own = record { seat = s; request = r; now = n; numbers = u; shown = map holding_told h; reused = p; looks = l; full = f; fault = x; generation = g } in
    let shown : h ≡ h' = map-apart holding_told holding-apart h h' (λ i. (asked_in o (e i)).shown) in
    λ i.
    let q : own.Own = asked_in o (e i) in
    Own q.seat q.request q.now q.numbers (shown i) q.reused q.looks q.full q.fault q.generation
item-apart (Own s r n u h p l f x g) (Gained d' r' c') e = cc
item-apart (Own s r n u h p l f x g) (Lost j' r') e = cc
item-apart (Own s r n u h p l f x g) (Gone j') e = cc
item-apart (Own s r n u h p l f x g) (Bytes p' g' c') e = cc
item-apart (Own s r n u h p l f x g) (Turned p' g' c') e = cc
item-apart (Gained d r c) (Own s' r' n' u' h' p' l' f' x' g') e = cc
item-apart (Gained d r c) (Gained d' r' c') e =
    let there : c ≡ c' = holding-apart c c' (λ i. holding_in (holding_told c) (e i)) in
    λ i. Gained (document_in d (e i)) (rights_in r (e i)) (there i)
item-apart (Gained d r c) (Lost j' r') e = cc
item-apart (Gained d r c) (Gone j') e = cc
item-apart (Gained d r c) (Bytes p' g' c') e = cc
item-apart (Gained d r c) (Turned p' g' c') e = cc
item-apart (Lost j r) (Own s' r' n' u' h' p' l' f' x' g') e = cc
item-apart (Lost j r) (Gained d' r' c') e = cc
item-apart (Lost j r) (Lost j' r') e = cc
item-apart (Lost j r) (Gone j') e = cc
item-apart (Lost j r) (Bytes p' g' c') e = cc
item-apart (Lost j r) (Turned p' g' c') e = cc
item-apart (Gone j) (Own s' r' n' u' h' p' l' f' x' g') e = cc
item-apart (Gone j) (Gained d' r' c') e = cc
item-apart (Gone j) (Lost j' r') e = cc
item-apart (Gone j) (Gone j') e = cc
item-apart (Gone j) (Bytes p' g' c') e = cc
item-apart (Gone j) (Turned p' g' c') e = cc
item-apart (Bytes p g c) (Own s' r' n' u' h' p' l' f' x' g') e = cc
item-apart (Bytes p g c) (Gained d' r' c') e = cc
item-apart (Bytes p g c) (Lost j' r') e = cc
item-apart (Bytes p g c) (Gone j') e = cc
item-apart (Bytes p g c) (Bytes p' g' c') e =
    let there : c ≡ c' = content-apart c c' (λ i. content_in (content_told c) (e i)) in
    λ i. Bytes (path_in p (e i)) (generation_in g (e i)) (there i)
item-apart (Bytes p g c) (Turned p' g' c') e = cc
item-apart (Turned p g c) (Own s' r' n' u' h' p' l' f' x' g') e = cc
item-apart (Turned p g c) (Gained d' r' c') e = cc
item-apart (Turned p g c) (Lost j' r') e = cc
item-apart (Turned p g c) (Gone j') e = cc
item-apart (Turned p g c) (Bytes p' g' c') e = cc
item-apart (Turned p g c) (Turned p' g' c') e =
    let there : c ≡ c' = content-apart c c' (λ i. content_in (content_told c) (e i)) in
    λ i. Turned (path_in p (e i)) (generation_in g (e i)) (there i)
