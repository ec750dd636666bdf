use Rattle.std.proofs.Common.{◌≡◌, ◌+◌, ◌*◌, ◌≤◌, ◌++◌, drop, length, vec_capacity, vec_len}
use Rattle.bus_answers.specs.Begun.{texts_at}
use Rattle.bus_answers.proofs.put.put_texts.Given as goal

-- what stands there and what is to come, and no more of the room than that of both is gone
abbrev pub invariant-loop-text : goal.invariant-loop-text
invariant-loop-text l = record {
  items : l.out.items ++ texts_at (length l.out.items) (drop l.text-index l.texts) ≡ l.fn.out.items ++ texts_at (length l.fn.out.items) l.texts;
  takes : vec_len l.out + 20 * length (drop l.text-index l.texts) + vec_capacity l.fn.out ≤ vec_capacity l.out + (vec_len l.fn.out + 20 * length l.texts);
}
