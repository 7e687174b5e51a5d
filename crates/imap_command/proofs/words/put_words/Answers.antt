use Rattle.imap_command.proofs.words.put_words.Goals as goal

pub returns-in-Capability : goal.returns-in-Capability
returns-in-Capability c = rw c.in-Capability.is c.put.ensures

pub returns-in-FetchAll : goal.returns-in-FetchAll
returns-in-FetchAll c = rw c.in-FetchAll.is c.put-in-FetchAll.ensures
