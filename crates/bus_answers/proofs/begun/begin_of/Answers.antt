use Rattle.std.proofs.Common.{◌∙◌, ap, length, List, arith}
use Rattle.dbus_dispatch.specs.Replies.{body_of}
use Rattle.dbus_message.specs.Written.{front_bytes}
use Rattle.dbus_types.specs.declared.message.OutMessage.TheVariants.{Return}
use Rattle.dbus_types.specs.declared.types.Value.{Value}
use Rattle.portal_model.specs.declared.reply.Answer.{Answer}
use Rattle.bus_answers.proofs.begun.begin_of.Goals as goal

pub returns : goal.returns
returns c =
    let mountpoint = c.args.mountpoint.now in
    record {
      method_is = c.requires;
      front_is = c.in_ok-front.ensures.items
          ∙ (c.in_ok-bytes.ensures
          ∙ ap (λ (values : List Value). front_bytes (Return c.args.call.now.serial values) c.args.serial) (c.in_ok-body.ensures.told ∙ ap (λ (a : Answer). body_of c.args.method mountpoint a) c.in_ok-answer.ensures));
      extra_is = c.in_ok-extra.ensures.spelled;
      wide = c.in_ok-extra.ensures.wide;
      short = omega (arith, ap length c.in_ok-front.ensures.items);
      room = omega (arith, c.in_ok-front.ensures.room);
    }
