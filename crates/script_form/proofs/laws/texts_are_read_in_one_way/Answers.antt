use Rattle.script_form.proofs.OneWay.{read_one_way, refused_one_way, read_or_refused}
use Rattle.script_form.proofs.laws.texts_are_read_in_one_way.Goals as goal

pub returns-clause-read : goal.returns-clause-read
returns-clause-read c = read_one_way

pub returns-clause-refused : goal.returns-clause-refused
returns-clause-refused c = refused_one_way

pub returns-clause-either : goal.returns-clause-either
returns-clause-either c = read_or_refused
