use Rattle.bsdl_contents.proofs.EntriesTold.{kept_front}
use Rattle.bsdl_contents.proofs.entries.parted.keep_front.Goals as goal

pub returns : goal.returns
returns c =
    kept_front c.args.file.now c.set_access.new.file c.args.whole.now c.in_ok-strings.strings c.args.place c.len-count.result c.in_ok-strings.ensures.joined c.in_ok-strings.ensures.many c.len-count.ensures c.set_access.ensures
