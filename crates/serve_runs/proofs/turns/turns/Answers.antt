use Rattle.host_tree.proofs.in_memory.MemoryTree.TheSendSync as tree
use Rattle.portal_base.proofs.outside.in_memory.ListWords.TheSendSync as words
use Rattle.portal_base.proofs.outside.in_memory.SetClock.TheSendSync as clock
use Rattle.record_keeper.proofs.in_memory.MemoryKeeper.TheSendSync as keeper
use Rattle.serve_posts.proofs.Sends.{portal_parts}
use Rattle.serve_runs.proofs.held_tree.HeldTree.TheSendSync as held
use Rattle.serve_runs.proofs.turns.turns.Goals as goal

pub turns_over-requires-send-S : goal.turns_over-requires-send-S
turns_over-requires-send-S g c κs within = let sync = c.type_bounds.sync-R in search (held.the_send, tree.the_send, keeper.the_send, clock.the_send, words.the_send, portal_parts) depth 60 fits 20000
