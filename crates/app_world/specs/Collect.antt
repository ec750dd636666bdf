-- Collect, in the view of the application that collects. Nothing waits to be told to an
-- application.
use Rattle.portal_model.specs.declared.reply.Answer.{Answer}
use Rattle.app_world.specs.View.{AppView}

-- the view after, and the answer
abbrev pub own_collect : AppView → AppView × Answer
own_collect v = (v, Answer.Done)
