use Rattle.portal_model.proofs.DocumentExampleProofs.{queue_is_full}
use Rattle.portal_model.proofs.document_examples.presented_files_wait_in_a_queue.Goals as goal

pub returns : goal.returns
returns c = queue_is_full
