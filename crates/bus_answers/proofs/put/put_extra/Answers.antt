use Rattle.bus_answers.proofs.Extras.{extra_put}
use Rattle.bus_answers.proofs.put.put_extra.Goals as goal

pub returns-clause-items : goal.returns-clause-items
returns-clause-items c =
    extra_put c.args.out.now.items c.pad_4.new.out.items c.put_bytes.new.out.items c.pad_8.new.out.items c.put_bytes-2.new.out.items c.args.extra.now c.count_in.result.now c.entry_in.result.now
    c.in_ok-pad_4.ensures.items c.in_ok-put_bytes.ensures.items c.count_in.ensures.bytes c.count_in.ensures.four c.in_ok-pad_8.ensures.items c.in_ok-put_bytes-2.ensures.items c.entry_in.ensures.bytes
