use Rattle.std.proofs.Common.{subst, sym}
use Rattle.mail_base.specs.BoxName.{IsBoxText}
use Rattle.mail_top.proofs.Naming.{text_at}
use Rattle.mail_top.proofs.names.names_in.Goals as goal

pub kept_name-requires : goal.kept_name-requires
kept_name-requires c = subst IsBoxText (sym c.as_str.ensures.value)
    (text_at c.args.texts.now c.loop-text.text-index c.text-item.result c.requires c.loop-text-test.true c.text-item.is)
