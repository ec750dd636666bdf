use Rattle.serve_start.proofs.FileLimits.{least_limit}
use Rattle.serve_start.proofs.files.files_wanted.Goals as goal

pub returns : goal.returns
returns c = least_limit c.args.held c.args.sockets c.args.posts
