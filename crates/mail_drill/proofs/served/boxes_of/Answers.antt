use Rattle.std.proofs.Common.{arith}
use Rattle.mail_drill.proofs.BoxNames.{archive_text, boxes_made, inbox_text}
use Rattle.mail_drill.proofs.served.boxes_of.Goals as goal

pub returns : goal.returns
returns c =
    boxes_made c.args.size _ _ _ _ c.in_ok-boxes.boxes.items c.push.new.self.items c.push-2.new.self.items c.mailbox_of-inbox.result c.mailbox_of-archive.result
    c.in_ok-boxes.ensures.items c.in_ok-push.ensures.items c.in_ok-push-2.ensures.items c.mailbox_of-inbox.ensures.name c.mailbox_of-inbox.ensures.fields
    (omega arith) c.from.ensures c.in_ok-messages.ensures c.mailbox_of-archive.ensures.name c.mailbox_of-archive.ensures.fields c.new.ensures

pub mailbox_of-inbox-requires-clause-text : goal.mailbox_of-inbox-requires-clause-text
mailbox_of-inbox-requires-clause-text c = inbox_text

pub mailbox_of-archive-requires-clause-text : goal.mailbox_of-archive-requires-clause-text
mailbox_of-archive-requires-clause-text c = archive_text
