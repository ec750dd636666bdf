-- Worked examples of the world of one application over a tree that tells nothing, as the real one:
-- document 0000000a of the file /home/a.txt, and a mount of the editor at seat 1. What is expected
-- is worked out by hand from the rules.
use Rattle.std.specs.Prelude.{◌≡◌, ℕ, List, [], ◌∷◌, ◌++◌, codes, map, Some, None, false}
use Rattle.std.specs.List.{flat_map}
use Rattle.file_generations.specs.Generations.{held_with}
use Rattle.portal_base.specs.declared.files.Look.{Look}
use Rattle.portal_base.specs.declared.who.Kind.TheVariants as Kind
use Rattle.portal_base.specs.declared.who.Who.{Who}
use Rattle.portal_model.specs.declared.entry.Entry.{Entry}
use Rattle.portal_model.specs.declared.entry.Fault.{Fault}
use Rattle.portal_model.specs.declared.opening.OpeningDocument.{OpeningDocument}
use Rattle.portal_model.specs.declared.reply.Answer.{Answer}
use Rattle.portal_model.specs.declared.reply.Code.TheVariants as Code
use Rattle.portal_model.specs.declared.reply.NodeAnswer.{NodeAnswer}
use Rattle.portal_model.specs.declared.reply.Reply.{Reply}
use Rattle.portal_model.specs.declared.request.NodeOp.{NodeOp}
use Rattle.portal_model.specs.declared.request.Request.{Request}
use Rattle.portal_model.specs.DocumentExamples.{adds, asked, asked_alone, buses, ids, n_text, presents, rights_call, viewer}
use Rattle.portal_model.specs.Examples.{a_text, document, editor, enters, grant, opening, other, replied}
use Rattle.portal_model.specs.FileExamples.{a_node, deletes, opened_once, request_on, revokes, shown, told, with_rights}
use Rattle.portal_model.specs.History.{EachLawful, Legal, replies, run}
use Rattle.portal_model.specs.Opening.{opened_over}
use Rattle.portal_model.specs.State.{State}
use Rattle.portal_model.specs.Step.{after}
use Rattle.portal_model.specs.Walk.{AtPath, Named}
use Rattle.app_world.specs.Examples.{b_text, both, id}
use Rattle.app_world.specs.FileExamples.{both_open, editor_reads, host_writes, opened_by_both}
use Rattle.served_world.specs.Laws.{AreAlike, but_content}
use Rattle.served_world.specs.OwnPlaces.{places_asked}
use Rattle.served_world.specs.ServedItem as item
use Rattle.served_world.specs.ServedItem.{ServedItem}
use Rattle.served_world.specs.ServedWorld.{requests_in, served_items_of, served_run, served_trace}

-- ---- two worlds

-- a request on a node, and what the tree showed to it
abbrev pub asks_at : ℕ → ℕ → NodeOp → List Look → Entry
asks_at seat node op looks = record {
  seat = seat;
  request = Request.Node (request_on node op);
  given = shown looks None;
}

-- five bytes since the moment 7, as the editor is shown
abbrev pub five_bytes : List Look
five_bytes = Look.File 0 5 7 ∷ []

-- the editor opens the file, reads it, and asks for its attributes
abbrev pub opens : Entry
opens = asks_at 1 a_node (NodeOp.Open 0) five_bytes

abbrev pub reads_it : Entry
reads_it = asks_at 1 a_node (NodeOp.Read 1 0 5) []

abbrev pub asks_length : Entry
asks_length = asks_at 1 a_node (NodeOp.GetAttr 0 0) five_bytes

abbrev pub alone : State
alone = opened_over None (opening (document 10 a_text (grant editor 1 ∷ []) ∷ []) [])

abbrev pub alone_history : List Entry
alone_history = enters 1 (Who.App editor) ∷ opens ∷ reads_it ∷ asks_length ∷ []

-- the same, where another has rights in that document, and a document of its own
abbrev pub among : State
among =
    opened_over None
    (opening
    (document 11 b_text (grant other 15 ∷ [])
    ∷ document 10 a_text (grant editor 1 ∷ grant other 3 ∷ []) ∷ [])
    [])

-- The other is shown a longer file of its own, and at /home/a.txt four bytes since the moment 6,
-- between the editor's requests. It opens that file, too, and writes to it
abbrev pub b_node : ℕ
b_node = 8589934603

abbrev pub four_bytes : List Look
four_bytes = Look.File 0 4 6 ∷ []

abbrev pub writes : Entry
writes = record {
  seat = 2;
  request = Request.Node (request_on a_node (NodeOp.Write 1 0 (codes "H")));
  given = shown [] (Some 8);
}

abbrev pub among_history : List Entry
among_history =
    enters 2 (Who.App other)
    ∷ enters 1 (Who.App editor)
    ∷ asks_at 2 b_node (NodeOp.GetAttr 0 0) (Look.File 3 99 1 ∷ [])
    ∷ opens
    ∷ asks_at 2 a_node (NodeOp.Open 2) four_bytes
    ∷ reads_it
    ∷ writes
    ∷ enters 3 Who.Host
    ∷ asks_length
    ∷ []

abbrev pub own_item : Request → List Look → ServedItem
own_item request looks = item.Own (record {
  seat = 1;
  request = request;
  now = None;
  numbers = [];
  reused = [];
  looks = looks;
  listed = None;
  full = false;
  fault = Fault.None;
  generation = None;
})

-- the attributes of a file of five bytes since the moment 7: 0o100400 is 33024
abbrev pub length_told : NodeAnswer
length_told = NodeAnswer.Attr (record {
  node = a_node;
  size = 5;
  blocks = 1;
  moment = 7;
  mode = 33024;
  links = 1;
  uid = 1000;
  gid = 1000;
  block_size = 4096;
})

-- Two histories that differ in what others hold, ask and are shown have one trace. It holds what
-- was shown to the editor, and from it come the editor's replies.
pub record OneTraceOfTwoWorlds : Type 0 where
  pub legal_alone : Legal alone alone_history
  pub legal_among : Legal among among_history
  pub items :
      (served_trace editor alone alone_history).items
      ≡ own_item (Request.Enter (Who.App editor) Kind.Mount) []
      ∷ own_item opens.request five_bytes
      ∷ own_item reads_it.request []
      ∷ own_item asks_length.request five_bytes
      ∷ []
  pub same : served_trace editor among among_history ≡ served_trace editor alone alone_history
  pub replies :
      served_run (served_trace editor alone alone_history)
      ≡ replied Answer.Done
      ∷ replied (told (NodeAnswer.Opened 1))
      ∷ replied (told (NodeAnswer.Content []))
      ∷ replied (told length_told)
      ∷ []

-- ---- where the editor looks

-- a bus of the editor at seat 1 and one of the host at seat 2
abbrev pub over_nothing : List OpeningDocument → State
over_nothing documents = run (opened_over None (opening documents [])) buses

-- The tree is asked at the path of the editor's document, then by the name of the file that it
-- opened, and for its Add at the file that it presented.
pub record AskedAtItsFiles : Type 0 where
  pub by_path :
      places_asked (run alone (enters 1 (Who.App editor) ∷ [])) opens ≡ AtPath a_text ∷ []
  pub by_name :
      places_asked (run alone (enters 1 (Who.App editor) ∷ opens ∷ [])) reads_it
      ≡ Named (record { path = a_text; generation = 0 }) ∷ []
  pub presented :
      places_asked (run (over_nothing []) (presents 1 n_text ∷ []))
      (asked 1 (Request.Add (adds 0)) (Look.Folder ∷ []) [])
      ≡ AtPath n_text ∷ []

-- ---- contents that differ

-- the editor's document over a file of these bytes, since the moment 7, which the tree tells
abbrev pub over_bytes : List ℕ → State
over_bytes bytes =
    opened_over
    (Some (held_with (record { path = a_text; generation = 0; bytes = bytes; moment = 7 } ∷ []) []))
    (opening (document 10 a_text (grant editor 1 ∷ []) ∷ []) [])

abbrev pub reads_whole : List Entry
reads_whole = enters 1 (Who.App editor) ∷ opens ∷ reads_it ∷ []

-- the host cuts the file to two bytes, between the editor's OPEN and its READ
abbrev pub cuts : Entry
cuts = record {
  seat = 2;
  request = Request.Node (request_on a_node (NodeOp.SetAttr 8 0 2));
  given = shown five_bytes (Some 8);
}

abbrev pub reads_cut : List Entry
reads_cut =
    enters 2 Who.Host ∷ enters 1 (Who.App editor) ∷ opens ∷ cuts ∷ reads_it ∷ []

-- the editor is replied that its file is open, and then this content
abbrev pub read_as : List ℕ → List Reply
read_as content =
    replied Answer.Done
    ∷ replied (told (NodeAnswer.Opened 1))
    ∷ replied (told (NodeAnswer.Content content))
    ∷ []

-- Two worlds whose files have other bytes, and in one of which another cuts the file before it is
-- read, give the editor one trace. Its replies there are alike: they are the same but for the
-- content of the READ, of which the length differs, too.
pub record ContentsDifferAlone : Type 0 where
  pub legal_whole : Legal (over_bytes (codes "hello")) reads_whole
  pub legal_cut : Legal (over_bytes (codes "world")) reads_cut
  pub same :
      served_trace editor (over_bytes (codes "world")) reads_cut
      ≡ served_trace editor (over_bytes (codes "hello")) reads_whole
  pub whole :
      replies editor (over_bytes (codes "hello")) reads_whole ≡ read_as (codes "hello")
  pub cut : replies editor (over_bytes (codes "world")) reads_cut ≡ read_as (codes "wo")
  pub alike :
      AreAlike false
      (requests_in (served_trace editor (over_bytes (codes "hello")) reads_whole))
      (replies editor (over_bytes (codes "hello")) reads_whole)
      (replies editor (over_bytes (codes "world")) reads_cut)
  pub but_contents :
      map but_content (replies editor (over_bytes (codes "world")) reads_cut)
      ≡ map but_content (replies editor (over_bytes (codes "hello")) reads_whole)

-- ---- over a tree that tells

abbrev pub read_after_a_write : List Entry
read_after_a_write =
    both_open ++ host_writes ∷ editor_reads (after opened_by_both host_writes) ∷ []

-- Of another's entries the trace has what it changes of rights and of documents, and of a write
-- nothing: what a READ then shows is in the reply alone.
pub record OthersAreTold : Type 0 where
  pub written : served_items_of editor opened_by_both host_writes ≡ []
  pub revoked : served_items_of editor opened_once revokes ≡ item.Lost (id 10) both ∷ []
  pub deleted : served_items_of editor opened_once deletes ≡ item.Gone (id 10) ∷ []
  pub steps :
      replies editor (with_rights 1) read_after_a_write
      ≡ replied (told (NodeAnswer.Opened 1))
      ∷ replied (told (NodeAnswer.Content (codes "Hello")))
      ∷ []
  pub machine :
      served_run (served_trace editor (with_rights 1) read_after_a_write)
      ≡ replied (told (NodeAnswer.Opened 1)) ∷ replied (told (NodeAnswer.Content [])) ∷ []

-- ---- documents

abbrev pub answers_in : State → List Entry → List Answer
answers_in s h = map (λ r. r.answer) (served_run (served_trace editor s h))

-- The editor adds a file of its own folder, as the tree shows it: a file becomes a document, and
-- a folder doesn't. It gives the viewer a right; the host takes all of the editor's, and then it
-- has no such document.
abbrev pub adding : List Entry
adding =
    presents 1 n_text
    ∷ asked 1 (Request.Add (adds 0)) (Look.Folder ∷ []) []
    ∷ presents 1 n_text
    ∷ asked 1 (Request.Add (adds 0)) (Look.File 4 20 9 ∷ []) (5 ∷ [])
    ∷ asked_alone 1 (Request.Grant (rights_call (codes "00000005") viewer (codes "read" ∷ [])))
    ∷ asked_alone 2
    (Request.Revoke (rights_call (codes "00000005") editor
    (codes "read" ∷ codes "write" ∷ codes "grant-permissions" ∷ codes "delete" ∷ [])))
    ∷ asked_alone 1 (Request.DeleteDocument (codes "00000005"))
    ∷ []

pub record AddedByLooks : Type 0 where
  pub lawful : EachLawful (over_nothing []) adding
  pub answers :
      answers_in (over_nothing []) adding
      ≡ Answer.Place 0
      ∷ Answer.Refused Code.InvalidArgument
      ∷ Answer.Place 0
      ∷ ids (codes "00000005" ∷ [])
      ∷ Answer.Done
      ∷ Answer.Refused Code.NotFound
      ∷ []

-- ---- parts that code gives

abbrev pub moment_in : Look → List ℕ
moment_in (Look.File generation size moment) = moment ∷ []
moment_in Look.Folder = []
moment_in Look.Missing = []

abbrev pub moments_in : ServedItem → List ℕ
moments_in (item.Own own) = flat_map moment_in own.looks
moments_in (item.Gained d rights) = []
moments_in (item.Lost id rights) = []
moments_in (item.Gone id) = []

-- the moment of each look that stands in the editor's trace, where another is asked and shown more
abbrev pub IsMomentInTrace : ℕ → Type 0
IsMomentInTrace moment =
    flat_map moments_in (served_trace editor among among_history).items ≡ moment ∷ moment ∷ []

abbrev pub length_in : Answer → List ℕ
length_in (Answer.Node (NodeAnswer.Attr attr)) = attr.size ∷ []
length_in answer = []

-- the length that the editor is told of its file, where another has a longer one
abbrev pub IsLengthTold : ℕ → Type 0
IsLengthTold size =
    flat_map length_in (answers_in among among_history) ≡ size ∷ []
