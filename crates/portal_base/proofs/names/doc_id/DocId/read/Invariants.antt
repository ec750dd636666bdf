use Rattle.std.proofs.Common.{◌≡◌, ◌<◌, ◌^◌, true, take}
use Rattle.std.specs.List.{list_all}
use Rattle.portal_base.specs.Names.{hex_number, is_lower_hex}
use Rattle.portal_base.proofs.names.doc_id.DocId.read.Given as goal

-- the number of the digits so far
abbrev pub invariant-loop-byte : goal.invariant-loop-byte
invariant-loop-byte l = record {
  number : l.number ≡ hex_number (take l.byte-index l.text);
  lower : list_all is_lower_hex (take l.byte-index l.text) ≡ true;
  small : l.number < 16 ^ l.byte-index;
}
